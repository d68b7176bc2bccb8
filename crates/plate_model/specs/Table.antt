-- THE TABLE OF REFUSALS: when each row is given, in the paper's words, and each call's rows in the order in which it checks them.
-- DEMAND 1: every call answers by its rows, and a refused call leaves everything as it was.
use Rattle.std.specs.Prelude.{◌≡◌, ◌≢◌, ◌⊎◌, List, [], ◌∷◌, map, ℕ, ◌*◌, ◌-◌, ◌/◌, ◌%◌, ◌^◌, ◌≤◌, ◌<◌, get_or, length, Option, Some, None, Ok, Err}
use Rattle.kernels_model.specs.Fixed.{shape_count, value_top, depth_top}
use Rattle.kernels_model.specs.Rows.{TableRow, row, FirstOf}
use Rattle.kernels_model.specs.Shape.{shape_of, top_under}
use Rattle.kernels_model.specs.declared.shape.Shape.{Shape}
use Rattle.kernels_model.specs.declared.lens.Lens.{Lens}
use Rattle.kernels_model.specs.Lens.{opening_top, focal_top, focus_top, pitch_top}
use Rattle.plate_model.specs.Fixed.{planes_in_all, scratch_planes, side_top, places_top, reach_top, log_top, word_bits}
use Rattle.plate_model.specs.Layout.{Size, size_from, padded, places, place_at, sums_in_all}
use Rattle.plate_model.specs.Lent.{State, state_of, Lent, LentLengths, lengths_of, ask, Inputs, Views, Canvas}
use Rattle.plate_model.specs.Word.{shape_in, radius_in}
use Rattle.plate_model.specs.Refusal.{Refusal, Sizes, Lengths, LogCount, Place, Value, UnknownShape, LargeRadius, LogFull}
use Rattle.plate_model.specs.Refusal.{LogEmpty, StoredWord, UnlawfulLens, Depth, DepthInside}
use Rattle.plate_model.specs.Refusal.{refusal_number, open_check}
use Rattle.plate_model.specs.Calls.{Left, refused, Shown, shows, answer_of, open_call, put_call, undo_call, fill_call, show_call}
use Rattle.plate_model.specs.Kept.{Refreshed, leaves_kept, put_kept_call, undo_kept_call, ShownKept, shows_kept, show_kept_call}
use Rattle.plate_model.specs.Total.{Totalled, totalled, no_totals, total_call}

-- a number by rows: that of the first refusal that applies, and "An accepted call returns number 0" where none does
abbrev pub AnswersBy : List (TableRow Refusal) → ℕ → Type 0
AnswersBy rows n = FirstOf (λ f. n ≡ refusal_number f) (n ≡ 0) rows

-- WHEN EACH IS GIVEN
-- "W and H from 1 to 4,096, W × H at most 2,097,152 .., R from 0 to 64"
pub record LawfulSize (z : Size) : Type 0 where
  pub width_some : 1 ≤ z.width
  pub width_top : z.width ≤ side_top
  pub height_some : 1 ≤ z.height
  pub height_top : z.height ≤ side_top
  pub places_top_fact : z.width * z.height ≤ places_top
  pub reach_top_fact : z.reach ≤ reach_top

-- 1: "W, H, W × H or R outside"
abbrev pub SizesOutside : Size → Type 0
SizesOutside z = ¬ (LawfulSize z)

-- "planes 14 × P, pixels W × H words .., log 0 to 65,535 entries"
pub record LentFor (z : Size) (n : LentLengths) : Type 0 where
  pub planes_are : n.planes ≡ planes_in_all * padded z
  pub pixels_are : n.pixels ≡ places z
  pub log_top_fact : n.log ≤ log_top

-- 2: "a lent length is wrong, a log above 65,535 too"
abbrev pub LentWrong : Size → LentLengths → Type 0
LentWrong z n = ¬ (LentFor z n)

-- "fill's three inputs W × H each"
unfoldable pub InputsWrong : Size → Inputs → Type 0
InputsWrong z f = (length f.values ≢ places z) ⊎ (length f.opacities ≢ places z) ⊎ (length f.depths ≢ places z)

-- what a show writes to: "scratch 3 × P; the two pictures .. W × H each"
abbrev pub SeenWrong : Size → Views → Type 0
SeenWrong z v =
    (length v.scratch ≢ scratch_planes * padded z) ⊎ (length v.values ≢ places z) ⊎ (length v.mattes ≢ places z)

-- and what it is lent in all, with the planes
unfoldable pub ViewsWrong : Size → List ℕ → Views → Type 0
ViewsWrong z planes v = (length planes ≢ planes_in_all * padded z) ⊎ SeenWrong z v

-- what a total is lent: planes and scratch
unfoldable pub TotalWrong : Size → List ℕ → List ℕ → Type 0
TotalWrong z planes scratch = (length planes ≢ planes_in_all * padded z) ⊎ (length scratch ≢ scratch_planes * padded z)

-- "a buffer of 2 × W × H sums"
abbrev pub SumsWrong : Size → List ℕ → Type 0
SumsWrong z sums = length sums ≢ sums_in_all z

-- and with it "the two pictures too"
unfoldable pub CanvasWrong : Size → Canvas → Type 0
CanvasWrong z k = SumsWrong z k.sums ⊎ (length k.values ≢ places z) ⊎ (length k.mattes ≢ places z)

-- 3: "log count above log length"
abbrev pub CountAbove : State → Lent → Type 0
CountAbove s l = length l.log < s.count

-- 4: "x ≥ W or y ≥ H"
unfoldable pub PlaceOutside : Size → ℕ → ℕ → Type 0
PlaceOutside z x y = (z.width ≤ x) ⊎ (z.height ≤ y)

-- 5: "v above 4,095"
abbrev pub ValueAbove : ℕ → Type 0
ValueAbove v = value_top < v

-- one of the numbers that a fill is given is such a one: 5 of its values, 12 and 17 of its depths
unfoldable pub SomeOf : (ℕ → Type 0) → List ℕ → Type 0
SomeOf such [] = ⊥
SomeOf such (n ∷ ns) = such n ⊎ SomeOf such ns

-- 6: "shape above 5"
abbrev pub ShapeAbove : ℕ → Type 0
ShapeAbove n = shape_count ≤ n

-- 7: "r above top under R", the top of the shape that is read
unfoldable pub RadiusAbove : ℕ → Option Shape → ℕ → Type 0
RadiusAbove R None r = ⊥
RadiusAbove R (Some s) r = top_under s R < r

-- 8: "put: count equals log length"
abbrev pub CountFull : State → Lent → Type 0
CountFull s l = s.count ≡ length l.log

-- 9: "undo: count 0"
abbrev pub CountNone : State → Type 0
CountNone s = s.count ≡ 0

-- 10: "stored word or entry breaks 4, 6, 7 or the zero bits"
unfoldable pub WordBroken : ℕ → ℕ → Type 0
WordBroken R w = (2 ^ word_bits ≤ w) ⊎ ShapeAbove (shape_in w) ⊎ RadiusAbove R (shape_of (shape_in w)) (radius_in w)

-- the place that an entry keeps above its word, "place being y × W + x"
abbrev pub place_in : ℕ → ℕ
place_in e = e / 2 ^ word_bits

unfoldable pub EntryBroken : Size → ℕ → Type 0
EntryBroken z e =
    PlaceOutside z (place_in e % z.width) (place_in e / z.width) ⊎ WordBroken z.reach (e % 2 ^ word_bits)

-- a number that is not one from low to top
abbrev pub Outside : ℕ → ℕ → ℕ → Type 0
Outside low top n = (n < low) ⊎ (top < n)

-- 11: "D, f, S or p outside", that is of "opening D and focal length f (1 to 4,000), focus S (above f, at most 10,000,000), ..
-- pitch p 1 to 1,000"
unfoldable pub LensOutside : Lens → Type 0
LensOutside l =
    Outside 1 opening_top l.opening
    ⊎ Outside 1 focal_top l.focal
    ⊎ (l.focus ≤ l.focal)
    ⊎ (focus_top < l.focus)
    ⊎ Outside 1 pitch_top l.pitch

-- 12: "a depth above 10,000,000"
abbrev pub DepthAbove : ℕ → Type 0
DepthAbove d = depth_top < d

-- 17: "a non-zero depth at most f"
abbrev pub InsideLens : Lens → ℕ → Type 0
InsideLens l d = (d ≢ 0) × (d ≤ l.focal)

-- THE ROWS OF EACH CALL: "a call checks only what it is lent"
abbrev pub open_rows : Size → Lent → List (TableRow Refusal)
open_rows z l = row Sizes (SizesOutside z) ∷ row Lengths (LentWrong z (lengths_of l)) ∷ []

-- a put at x and y of a value, a shape's number and a radius, by when a length that it is lent is wrong; "For 10, put reads the
-- word
-- at its place"
abbrev pub put_rows_by : Type 0 → State → (x y value shape radius : ℕ) → Lent → List (TableRow Refusal)
put_rows_by wrong s x y value shape radius l =
    let z = s.size in
    row Sizes (SizesOutside z)
    ∷ row Lengths wrong
    ∷ row LogCount (CountAbove s l)
    ∷ row Place (PlaceOutside z x y)
    ∷ row Value (ValueAbove value)
    ∷ row UnknownShape (ShapeAbove shape)
    ∷ row LargeRadius (RadiusAbove z.reach (shape_of shape) radius)
    ∷ row LogFull (CountFull s l)
    ∷ row StoredWord (WordBroken z.reach (get_or l.pixels (place_at z x y) 0))
    ∷ []

abbrev pub put_rows : State → (x y value shape radius : ℕ) → Lent → List (TableRow Refusal)
put_rows s x y v n r l = put_rows_by (LentWrong s.size (lengths_of l)) s x y v n r l

-- the second form: "2 can come from this buffer too"
abbrev pub put_kept_rows : State → (x y value shape radius : ℕ) → Lent → Canvas → List (TableRow Refusal)
put_kept_rows s x y v n r l k = put_rows_by (LentWrong s.size (lengths_of l) ⊎ CanvasWrong s.size k) s x y v n r l

-- an undo so; "For 10, .. undo the last entry and the word at that entry's place"
abbrev pub undo_rows_by : Type 0 → State → Lent → List (TableRow Refusal)
undo_rows_by wrong s l =
    let z = s.size in
    let entry = get_or l.log (s.count - 1) 0 in
    row Sizes (SizesOutside z)
    ∷ row Lengths wrong
    ∷ row LogCount (CountAbove s l)
    ∷ row LogEmpty (CountNone s)
    ∷ row StoredWord (EntryBroken z entry ⊎ WordBroken z.reach (get_or l.pixels (place_in entry) 0))
    ∷ []

abbrev pub undo_rows : State → Lent → List (TableRow Refusal)
undo_rows s l = undo_rows_by (LentWrong s.size (lengths_of l)) s l

abbrev pub undo_kept_rows : State → Lent → Canvas → List (TableRow Refusal)
undo_kept_rows s l k = undo_rows_by (LentWrong s.size (lengths_of l) ⊎ CanvasWrong s.size k) s l

abbrev pub fill_rows : State → Lens → ℕ → Inputs → Lent → List (TableRow Refusal)
fill_rows s o shape f l =
    let z = s.size in
    row Sizes (SizesOutside z)
    ∷ row Lengths (LentWrong z (lengths_of l) ⊎ InputsWrong z f)
    ∷ row LogCount (CountAbove s l)
    ∷ row Value (SomeOf ValueAbove f.values)
    ∷ row UnknownShape (ShapeAbove shape)
    ∷ row UnlawfulLens (LensOutside o)
    ∷ row Depth (SomeOf DepthAbove f.depths)
    ∷ row DepthInside (SomeOf (InsideLens o) f.depths)
    ∷ []

abbrev pub show_rows : State → List ℕ → Views → List (TableRow Refusal)
show_rows s planes v = row Sizes (SizesOutside s.size) ∷ row Lengths (ViewsWrong s.size planes v) ∷ []

abbrev pub show_kept_rows : State → List ℕ → Views → List ℕ → List (TableRow Refusal)
show_kept_rows s planes v sums =
    row Sizes (SizesOutside s.size) ∷ row Lengths (ViewsWrong s.size planes v ⊎ SumsWrong s.size sums) ∷ []

abbrev pub total_rows : State → List ℕ → List ℕ → List (TableRow Refusal)
total_rows s planes scratch = row Sizes (SizesOutside s.size) ∷ row Lengths (TotalWrong s.size planes scratch) ∷ []

-- the paper's numbers of them: each list ascends, so that the first row that applies is "the lowest number that applies"
abbrev pub numbers_of : List (TableRow Refusal) → List ℕ
numbers_of rows = map (λ (r : TableRow Refusal). refusal_number r.refusal) rows

pub record Orders : Type 0 where
  pub of_open : (z : Size) (l : Lent) → numbers_of (open_rows z l) ≡ 1 ∷ 2 ∷ []
  pub of_put : (s : State) (x y v n r : ℕ) (l : Lent)
      → numbers_of (put_rows s x y v n r l) ≡ 1 ∷ 2 ∷ 3 ∷ 4 ∷ 5 ∷ 6 ∷ 7 ∷ 8 ∷ 10 ∷ []
  pub of_undo : (s : State) (l : Lent) → numbers_of (undo_rows s l) ≡ 1 ∷ 2 ∷ 3 ∷ 9 ∷ 10 ∷ []
  pub of_fill : (s : State) (o : Lens) (shape : ℕ) (f : Inputs) (l : Lent)
      → numbers_of (fill_rows s o shape f l) ≡ 1 ∷ 2 ∷ 3 ∷ 5 ∷ 6 ∷ 11 ∷ 12 ∷ 17 ∷ []
  pub of_show : (s : State) (planes : List ℕ) (v : Views) → numbers_of (show_rows s planes v) ≡ 1 ∷ 2 ∷ []
  pub of_total : (s : State) (planes scratch : List ℕ) → numbers_of (total_rows s planes scratch) ≡ 1 ∷ 2 ∷ []
  -- the second forms
  pub of_put_kept : (s : State) (x y v n r : ℕ) (l : Lent) (k : Canvas)
      → numbers_of (put_kept_rows s x y v n r l k) ≡ 1 ∷ 2 ∷ 3 ∷ 4 ∷ 5 ∷ 6 ∷ 7 ∷ 8 ∷ 10 ∷ []
  pub of_undo_kept : (s : State) (l : Lent) (k : Canvas) → numbers_of (undo_kept_rows s l k) ≡ 1 ∷ 2 ∷ 3 ∷ 9 ∷ 10 ∷ []
  pub of_show_kept : (s : State) (planes : List ℕ) (v : Views) (sums : List ℕ)
      → numbers_of (show_kept_rows s planes v sums) ≡ 1 ∷ 2 ∷ []

-- DEMAND 1
-- a call that goes by its rows: its number is theirs, and "after a refusal every lent buffer is as before", the mark count 0 and
-- the state that is handed back. What a call leaves differs from call to call.
pub record CallBy {A : Type 0} (rows : List (TableRow Refusal)) (number_in : A → ℕ) (refused_as : Refusal → A)
    (call : A) : Type 0 where
  pub first : AnswersBy rows (number_in call)
  pub untouched : (f : Refusal) → number_in call ≡ refusal_number f → call ≡ refused_as f

abbrev pub GoesBy : List (TableRow Refusal) → State → Lent → Left → Type 0
GoesBy rows s l call = CallBy rows (λ (c : Left). c.answer.number) (λ f. refused f s l) call

abbrev pub ShowGoesBy : List (TableRow Refusal) → State → Views → Shown → Type 0
ShowGoesBy rows s v call = CallBy rows (λ (c : Shown). c.answer.number) (λ f. shows (answer_of (Err f) 0 s) v) call

-- the second forms
abbrev pub KeptGoesBy : List (TableRow Refusal) → State → Lent → Canvas → Refreshed → Type 0
KeptGoesBy rows s l k call =
    CallBy rows (λ (c : Refreshed). c.call.answer.number) (λ f. leaves_kept (answer_of (Err f) 0 s) l k) call

abbrev pub ShowKeptGoesBy : List (TableRow Refusal) → State → Views → List ℕ → ShownKept → Type 0
ShowKeptGoesBy rows s v sums call =
    CallBy rows (λ (c : ShownKept). c.call.answer.number) (λ f. shows_kept (answer_of (Err f) 0 s) v sums) call

-- a total, whose sums are then 0
abbrev pub TotalGoesBy : List (TableRow Refusal) → State → List ℕ → Totalled → Type 0
TotalGoesBy rows s scratch call =
    CallBy rows (λ (c : Totalled). c.answer.number) (λ f. totalled (no_totals (answer_of (Err f) 0 s)) scratch) call

-- "Any call of a public entry, with any sizes, buffers, stored words .., gets the finished work or exactly the refusal the
-- paper's table fixes"; the state is "all zero from open"
pub record Demand1 : Type 0 where
  pub open_by_fact : (z : Size) (l : Lent) → GoesBy (open_rows z l) (state_of (size_from 0 0 0) 0) l (open_call z l)
  pub put_by_fact : (s : State) (x y v a n r : ℕ) (l : Lent)
      → GoesBy (put_rows s x y v n r l) s l (put_call s (ask x y v a n r) l)
  pub undo_by_fact : (s : State) (l : Lent) → GoesBy (undo_rows s l) s l (undo_call s l)
  pub fill_by_fact : (s : State) (o : Lens) (shape : ℕ) (f : Inputs) (l : Lent)
      → GoesBy (fill_rows s o shape f l) s l (fill_call s o shape f l)
  pub show_by_fact : (s : State) (planes : List ℕ) (v : Views) → ShowGoesBy (show_rows s planes v) s v (show_call s planes v)
  pub put_kept_by_fact : (s : State) (x y v a n r : ℕ) (l : Lent) (k : Canvas)
      → KeptGoesBy (put_kept_rows s x y v n r l k) s l k (put_kept_call s (ask x y v a n r) l k)
  pub undo_kept_by_fact : (s : State) (l : Lent) (k : Canvas) → KeptGoesBy (undo_kept_rows s l k) s l k (undo_kept_call s l k)
  pub show_kept_by_fact : (s : State) (planes : List ℕ) (v : Views) (sums : List ℕ)
      → ShowKeptGoesBy (show_kept_rows s planes v sums) s v sums (show_kept_call s planes v sums)
  pub total_by_fact : (s : State) (planes scratch : List ℕ)
      → TotalGoesBy (total_rows s planes scratch) s scratch (total_call s planes scratch)

-- PLATES THERE ARE
-- every open with lawful sizes and right lengths is accepted, so that demands 2 and 3 speak of every plate
abbrev pub OpenAccepts : Type 0
OpenAccepts = (z : Size) (l : Lent) → LawfulSize z → LentFor z (lengths_of l) → open_check z (lengths_of l) ≡ Ok tt
