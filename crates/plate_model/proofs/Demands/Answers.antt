-- DEMAND 1: every call answers the first refusal of its rows whose condition holds, is accepted where none does, and leaves
-- everything as it was where it is refused.
use Rattle.std.specs.Prelude.{Result, Ok, Err}
use mathlib.Core.Path.{◌≡◌, refl, ap, sym, subst, ◌∙◌}
use mathlib.Core.Logic.{◌⊎◌, inl, inr, ⊎_elim}
use mathlib.Core.List.{List, [], ◌∷◌}
use Prim.Native.Nat.{ℕ, ◌-◌}
use lib.ListN.{get_or, length}
use Rattle.kernels_model.specs.Fixed.{value_top, depth_top}
use Rattle.kernels_model.specs.Rows.{TableRow, row, FirstOf}
use Rattle.kernels_model.specs.declared.lens.Lens.{Lens}
use Rattle.kernels_model.specs.Shape.{shape_of}
use Rattle.plate_model.specs.Layout.{Size, size_from}
use Rattle.plate_model.specs.Lent.{State, state_of, Lent, lengths_of, Ask, ask, Inputs, Views, Canvas}
use Rattle.plate_model.specs.Word.{read_word, read_entry}
use Rattle.plate_model.specs.Refusal.{Refusal, Sizes, Lengths, LogCount, Place, Value, UnknownShape, LargeRadius, LogFull}
use Rattle.plate_model.specs.Refusal.{StoredWord, UnlawfulLens, Depth, DepthInside, Outcome}
use Rattle.plate_model.specs.Refusal.{refusal_number, outcome_number, open_check, plate_check, ask_check, put_check, undo_check}
use Rattle.plate_model.specs.Refusal.{empty_check, fill_first, layer_check, fill_check, views_check, total_check, show_check}
use Rattle.plate_model.specs.Refusal.{sizes_check, canvas_check, kept_check, show_kept_check}
use Rattle.plate_model.specs.Asked.{asked_place}
use Rattle.plate_model.specs.Change.{Change, put_over, put_read_by, put_read, undo_over}
use Rattle.plate_model.specs.Change.{undo_entry, undo_read_by, undo_read}
use Rattle.plate_model.specs.Calls.{Left, refused, Shown, shows, answer_of, open_by, open_call, put_by, put_call, undo_by}
use Rattle.plate_model.specs.Calls.{undo_call, fill_by, fill_call, show_by, show_call, changed}
use Rattle.plate_model.specs.Kept.{Refreshed, leaves_kept, kept_read, canvas_first, canvas_by, put_kept_by, put_kept_call}
use Rattle.plate_model.specs.Kept.{undo_kept_by, undo_kept_call, sums_by, ShownKept, shows_kept, show_kept_by, show_kept_call}
use Rattle.plate_model.specs.Total.{Totalled, totalled, no_totals, total_by, total_call}
use Rattle.plate_model.specs.Table.{CanvasWrong, SizesOutside, LentWrong, InputsWrong, ViewsWrong, TotalWrong, CountAbove}
use Rattle.plate_model.specs.Table.{PlaceOutside, ValueAbove, SomeOf, ShapeAbove, RadiusAbove, WordBroken, EntryBroken}
use Rattle.plate_model.specs.Table.{place_in, LensOutside, DepthAbove, InsideLens, LawfulSize, open_rows, put_rows, undo_rows}
use Rattle.plate_model.specs.Table.{fill_rows, show_rows, total_rows, put_kept_rows, undo_kept_rows, show_kept_rows, CallBy, GoesBy}
use Rattle.plate_model.specs.Table.{ShowGoesBy, KeptGoesBy, ShowKeptGoesBy, TotalGoesBy, Orders, Demand1, OpenAccepts}
use Rattle.plate_model.proofs.Checks.Rows.{refused-not, outcome_numbered, OutcomeBy, number_by, last_row, and_then}
use Rattle.plate_model.proofs.Checks.Rows.{answers_then, Checks, by_check, check_before, first_check, checks_both}
use Rattle.plate_model.proofs.Checks.Conditions.{sizes_checks, length_checks, lent_checks, inputs_checks, total_checks}
use Rattle.plate_model.proofs.Checks.Conditions.{views_checks, canvas_checks, count_checks, place_checks, value_checks}
use Rattle.plate_model.proofs.Checks.Conditions.{shape_checks, radius_checks, full_checks, empty_checks, above_checks}
use Rattle.plate_model.proofs.Checks.Conditions.{inside_checks, lens_checks}
use Rattle.plate_model.proofs.Checks.Passed.{sizes_pass, lent_pass}
use Rattle.plate_model.proofs.Checks.Accepted.{plate_accepted}
use Rattle.plate_model.proofs.Words.Stored.{WordCases, word_cases, EntryCases, entry_cases}

-- WHERE A CALL IS REFUSED
-- a call that goes on by what it has heard, from its check or from what it read: its number is that of the outcome that it heard,
-- and where that is a refusal it is the refused call
module _ {R A : Type 0} (heard : R → Outcome) (number_in : A → ℕ) (refused_as : Refusal → A) (by : R → A)
    (accepts : (r : R) → heard r ≡ Ok tt → number_in (by r) ≡ 0)
    (refuses : (r : R) (f : Refusal) → heard r ≡ Err f → by r ≡ refused_as f)
    (tells : (f : Refusal) → number_in (refused_as f) ≡ refusal_number f) where
  number_as : (r : R) (o : Outcome) → heard r ≡ o → number_in (by r) ≡ outcome_number o
  number_as r (Ok tt) e = accepts r e
  number_as r (Err f) e = ap number_in (refuses r f e) ∙ tells f

  number_is : (r : R) → number_in (by r) ≡ outcome_number (heard r)
  number_is r = number_as r (heard r) refl

  left_is : (r : R) (f : Refusal) → number_in (by r) ≡ refusal_number f → by r ≡ refused_as f
  left_is r f e = refuses r f (outcome_numbered (heard r) f (sym (number_is r) ∙ e))

  call_by : (rows : List (TableRow Refusal)) (r : R) → OutcomeBy rows (heard r) → CallBy rows number_in refused_as (by r)
  call_by rows r first = record { first = rw (number_is r) (number_by rows (heard r) first); untouched = left_is r }

-- a call of planes, pixels and log
module _ {R : Type 0} (heard : R → Outcome) (s : State) (l : Lent) (by : R → Left)
    (accepts : (r : R) → heard r ≡ Ok tt → (by r).answer.number ≡ 0)
    (refuses : (r : R) (f : Refusal) → heard r ≡ Err f → by r ≡ refused f s l) where
  goes_by : (rows : List (TableRow Refusal)) (r : R) → OutcomeBy rows (heard r) → GoesBy rows s l (by r)
  goes_by = call_by heard (λ (a : Left). a.answer.number) (λ f. refused f s l) by accepts refuses (λ f. refl)

-- OPEN
open_goes : (z : Size) (l : Lent) → GoesBy (open_rows z l) (state_of (size_from 0 0 0) 0) l (open_call z l)
unfolding open_call open_by open_check
open_goes z l =
    goes_by (λ o. o) (state_of (size_from 0 0 0) 0) l (λ o. open_by o z l) (λ o e. rw e) (λ o f e. rw e) (open_rows z l) _
    (first_check (sizes_checks z) _ _ (λ _. first_check (lent_checks z (lengths_of l)) [] (Ok tt) (λ _. last_row)))

-- WHAT PUT AND UNDO READ
-- the outcome of what was read
abbrev outcome_of : Result Change Refusal → Outcome
outcome_of (Ok c) = (Ok tt)
outcome_of (Err f) = Err f

change_read : (r : Result Change Refusal) → outcome_of r ≡ Ok tt → (c : Change) × (r ≡ Ok c)
change_read (Ok c) e = (c, refl)
change_read (Err f) e = refused-not f e

refusal_read : (r : Result Change Refusal) (f : Refusal) → outcome_of r ≡ Err f → r ≡ Err f
refusal_read (Ok c) f e = refused-not f (sym e)
refusal_read (Err g) f e = let same : g ≡ f = cc in rw same

-- 1 2 3, and what is known where they pass
plate_first : (s : State) (l : Lent) (rows : List (TableRow Refusal)) (next : Outcome)
    → (LawfulSize s.size → OutcomeBy rows next)
    → OutcomeBy
    (row Sizes (SizesOutside s.size) ∷ row Lengths (LentWrong s.size (lengths_of l)) ∷ row LogCount (CountAbove s l) ∷ rows)
    (plate_check s (lengths_of l) next)
unfolding plate_check
plate_first s l rows next rest =
    first_check (sizes_checks s.size) _ _ (λ lawful.
    first_check (lent_checks s.size (lengths_of l)) _ _ (λ _.
    first_check (count_checks s.count (length l.log)) rows next (λ _. rest lawful)))

-- what is read where a check accepts
put_outcome : (o : Outcome) (z : Size) (a : Ask) (pixels : List ℕ)
    → outcome_of (put_read_by o z a pixels)
    ≡ and_then o (outcome_of (put_over (read_word z.reach (get_or pixels (asked_place z a) 0)) z a))
unfolding put_read_by
put_outcome (Ok tt) z a pixels = refl
put_outcome (Err f) z a pixels = refl

undo_outcome : (o : Outcome) (s : State) (pixels log : List ℕ)
    → outcome_of (undo_read_by o s pixels log)
    ≡ and_then o (outcome_of (undo_entry (read_entry s.size (get_or log (s.count - 1) 0)) s.size pixels))
unfolding undo_read_by
undo_outcome (Ok tt) s pixels log = refl
undo_outcome (Err f) s pixels log = refl

-- 10 of a put
put_stored : (z : Size) (a : Ask) (w : ℕ) → WordCases z.reach w
    → OutcomeBy (row StoredWord (WordBroken z.reach w) ∷ []) (outcome_of (put_over (read_word z.reach w) z a))
unfolding FirstOf put_over
put_stored z a w (inl t) = inl (t.0, rw t.1)
put_stored z a w (inr t) = inr (t.sound, rw t.read)

-- and of an undo
undo_stored : (z : Size) (e : ℕ) (pixels : List ℕ) → EntryCases z e
    → OutcomeBy (row StoredWord (EntryBroken z e ⊎ WordBroken z.reach (get_or pixels (place_in e) 0)) ∷ [])
    (outcome_of (undo_entry (read_entry z e) z pixels))
unfolding FirstOf undo_entry undo_over
undo_stored z e pixels (inl t) = inl (inl t.0, rw t.1)
undo_stored z e pixels (inr t) =
    ⊎_elim
    (λ w. inl (inr w.0, rw (t.read, t.place_is, w.1)))
    (λ w. inr (⊎_elim t.sound w.sound, rw (t.read, t.place_is, w.read)))
    (word_cases z.reach (get_or pixels (place_in e) 0))

-- PUT
-- 4 to 8
pub ask_first : (z : Size) (count room x y v a n r : ℕ)
    → OutcomeBy
    (row Place (PlaceOutside z x y)
    ∷ row Value (ValueAbove v)
    ∷ row UnknownShape (ShapeAbove n)
    ∷ row LargeRadius (RadiusAbove z.reach (shape_of n) r)
    ∷ row LogFull (count ≡ room)
    ∷ [])
    (ask_check z count room (ask x y v a n r))
unfolding ask_check
ask_first z count room x y v a n r =
    first_check (place_checks z (ask x y v a n r)) _ _ (λ _.
    first_check (value_checks v) _ _ (λ _.
    first_check (shape_checks n) _ _ (λ _.
    first_check (radius_checks z.reach (shape_of n) r) _ _ (λ _.
    first_check (full_checks count room) [] (Ok tt) (λ _. last_row)))))

-- what it reads goes by the rows
put_reads : (s : State) (x y v a n r : ℕ) (l : Lent)
    → OutcomeBy (put_rows s x y v n r l) (outcome_of (put_read s (ask x y v a n r) (lengths_of l) l.pixels))
unfolding put_read put_check
put_reads s x y v a n r l =
    let z = s.size in
    let p = ask x y v a n r in
    let check = plate_check s (lengths_of l) (ask_check z s.count (length l.log) p) in
    rw (put_outcome check z p l.pixels)
    (answers_then _ _ check _
    (plate_first s l _ _ (λ _. ask_first z s.count (length l.log) x y v a n r))
    (λ _. put_stored z p _ (word_cases z.reach (get_or l.pixels (asked_place z p) 0))))

put_goes : (s : State) (x y v a n r : ℕ) (l : Lent) → GoesBy (put_rows s x y v n r l) s l (put_call s (ask x y v a n r) l)
unfolding put_call put_by changed
put_goes s x y v a n r l =
    goes_by outcome_of s l (λ c. put_by c s l) (λ c e. rw (change_read c e).1) (λ c f e. rw (refusal_read c f e))
    (put_rows s x y v n r l) (put_read s (ask x y v a n r) (lengths_of l) l.pixels) (put_reads s x y v a n r l)

-- UNDO
undo_reads : (s : State) (l : Lent) → OutcomeBy (undo_rows s l) (outcome_of (undo_read s (lengths_of l) l.pixels l.log))
unfolding undo_read undo_check
undo_reads s l =
    let z = s.size in
    let check = plate_check s (lengths_of l) (empty_check s.count (Ok tt)) in
    rw (undo_outcome check s l.pixels l.log)
    (answers_then _ _ check _
    (plate_first s l _ _ (λ _. first_check (empty_checks s.count) [] (Ok tt) (λ _. last_row)))
    (λ e. undo_stored z _ l.pixels
    (entry_cases z (get_or l.log (s.count - 1) 0) (plate_accepted s (lengths_of l) _ e).0.lawful)))

undo_goes : (s : State) (l : Lent) → GoesBy (undo_rows s l) s l (undo_call s l)
unfolding undo_call undo_by changed
undo_goes s l =
    goes_by outcome_of s l (λ r. undo_by r s l) (λ r e. rw (change_read r e).1) (λ r f e. rw (refusal_read r f e)) (undo_rows s l)
    (undo_read s (lengths_of l) l.pixels l.log) (undo_reads s l)

-- FILL
-- 5 6 11 12 17
pub layer_first : (o : Lens) (k : ℕ) (f : Inputs)
    → OutcomeBy
    (row Value (SomeOf ValueAbove f.values)
    ∷ row UnknownShape (ShapeAbove k)
    ∷ row UnlawfulLens (LensOutside o)
    ∷ row Depth (SomeOf DepthAbove f.depths)
    ∷ row DepthInside (SomeOf (InsideLens o) f.depths)
    ∷ [])
    (layer_check o k f)
unfolding layer_check
layer_first o k f =
    first_check (above_checks Value value_top f.values) _ _ (λ _.
    first_check (shape_checks k) _ _ (λ _.
    first_check (lens_checks o) _ _ (λ _.
    first_check (above_checks Depth depth_top f.depths) _ _ (λ _.
    first_check (inside_checks o f.depths) [] (Ok tt) (λ _. last_row)))))

fill_goes : (s : State) (o : Lens) (k : ℕ) (f : Inputs) (l : Lent) → GoesBy (fill_rows s o k f l) s l (fill_call s o k f l)
unfolding fill_call fill_by fill_check fill_first InputsWrong
fill_goes s o k f l =
    let z = s.size in
    let inputs = inputs_checks z (length f.values) (length f.opacities) (length f.depths) in
    goes_by (λ c. c) s l (λ c. fill_by c s o k f l) (λ c e. rw e) (λ c g e. rw e) (fill_rows s o k f l) _
    (first_check (sizes_checks z) _ _ (λ _.
    first_check (checks_both (lent_checks z (lengths_of l)) inputs) _ _ (λ _.
    first_check (count_checks s.count (length l.log)) _ _ (λ _. layer_first o k f))))

-- SHOW
show_first : (s : State) (planes : List ℕ) (v : Views)
    → OutcomeBy (show_rows s planes v)
    (show_check s (length planes) (length v.scratch) (length v.values) (length v.mattes))
unfolding show_check views_check ViewsWrong
show_first s planes v =
    let z = s.size in
    let lengths = views_checks z (length planes) (length v.scratch) (length v.values) (length v.mattes) in
    first_check (sizes_checks z) _ _ (λ _. first_check lengths [] (Ok tt) (λ _. last_row))

show_goes : (s : State) (planes : List ℕ) (v : Views) → ShowGoesBy (show_rows s planes v) s v (show_call s planes v)
unfolding show_call show_by
show_goes s planes v =
    call_by (λ o. o) (λ (a : Shown). a.answer.number) (λ f. shows (answer_of (Err f) 0 s) v) (λ o. show_by o s planes v)
    (λ o e. rw e) (λ o f e. rw e) (λ f. refl) (show_rows s planes v) _ (show_first s planes v)

-- THE SECOND FORMS
-- a length more is checked after the sizes, and before what the first form checks: it is one more reason for 2
also_checked : {C D : Type 0} {check : Outcome → Outcome} (z : Size) → Checks Lengths C D check
    → (L : Type 0) (rows : List (TableRow Refusal)) (next : Outcome)
    → OutcomeBy (row Sizes (SizesOutside z) ∷ row Lengths L ∷ rows) next
    → OutcomeBy (row Sizes (SizesOutside z) ∷ row Lengths (L ⊎ C) ∷ rows) (sizes_check z (check next))
unfolding FirstOf
also_checked {C} {D} {check} z k L rows next first =
    first_check (sizes_checks z) (row Lengths (L ⊎ C) ∷ rows) (check next)
    (λ lawful. by_check k wrong
    (λ right r. subst (λ (o : Outcome). OutcomeBy (row Lengths (L ⊎ C) ∷ rows) o) (sym (r next)) (past lawful right first)))
  where
    wrong : C → ((o : Outcome) → check o ≡ Err Lengths) → OutcomeBy (row Lengths (L ⊎ C) ∷ rows) (check next)
    wrong c r = inl (inr c, r next)

    after : D → OutcomeBy (row Lengths L ∷ rows) next → OutcomeBy (row Lengths (L ⊎ C) ∷ rows) next
    after right (inl a) = inl (inl a.0, a.1)
    after right (inr a) = inr (⊎_elim a.0 (λ c. k.apart c right), a.1)

    past : LawfulSize z → D → OutcomeBy (row Sizes (SizesOutside z) ∷ row Lengths L ∷ rows) next
        → OutcomeBy (row Lengths (L ⊎ C) ∷ rows) next
    past lawful right (inl a) = absurd (a.0 lawful)
    past lawful right (inr a) = after right a.1

-- what is read where sums and pictures pass
kept_outcome : (o : Outcome) (r : Result Change Refusal) → outcome_of (kept_read o r) ≡ and_then o (outcome_of r)
unfolding kept_read
kept_outcome (Ok tt) r = refl
kept_outcome (Err f) r = refl

-- the second form of put or undo reads by the rows of the first, and 2 comes from sums and pictures too
kept_reads : (z : Size) (k : Canvas) (L : Type 0) (rows : List (TableRow Refusal)) (r : Result Change Refusal)
    → OutcomeBy (row Sizes (SizesOutside z) ∷ row Lengths L ∷ rows) (outcome_of r)
    → OutcomeBy (row Sizes (SizesOutside z) ∷ row Lengths (L ⊎ CanvasWrong z k) ∷ rows) (outcome_of (kept_read (canvas_first z k) r))
unfolding kept_check canvas_check CanvasWrong
kept_reads z k L rows r first =
    let lengths = canvas_checks z (length k.sums) (length k.values) (length k.mattes) in
    rw (
      kept_outcome (canvas_first z k) r,
      ← check_before (sizes_checks z) (canvas_check z (length k.sums) (length k.values) (length k.mattes)) (outcome_of r),
      ← check_before lengths (Ok tt) (outcome_of r),
    )
    (also_checked z lengths L rows (outcome_of r) first)

put_kept_goes : (s : State) (x y v a n r : ℕ) (l : Lent) (k : Canvas)
    → KeptGoesBy (put_kept_rows s x y v n r l k) s l k (put_kept_call s (ask x y v a n r) l k)
unfolding put_kept_call put_kept_by put_by changed canvas_by
put_kept_goes s x y v a n r l k =
    call_by outcome_of (λ (c : Refreshed). c.call.answer.number) (λ f. leaves_kept (answer_of (Err f) 0 s) l k)
    (λ c. put_kept_by c s l k) (λ c e. rw (change_read c e).1) (λ c f e. rw (refusal_read c f e)) (λ f. refl)
    (put_kept_rows s x y v n r l k)
    (kept_read (canvas_first s.size k) (put_read s (ask x y v a n r) (lengths_of l) l.pixels))
    (kept_reads s.size k _ _ _ (put_reads s x y v a n r l))

undo_kept_goes : (s : State) (l : Lent) (k : Canvas) → KeptGoesBy (undo_kept_rows s l k) s l k (undo_kept_call s l k)
unfolding undo_kept_call undo_kept_by undo_by changed canvas_by
undo_kept_goes s l k =
    call_by outcome_of (λ (c : Refreshed). c.call.answer.number) (λ f. leaves_kept (answer_of (Err f) 0 s) l k)
    (λ r. undo_kept_by r s l k) (λ r e. rw (change_read r e).1) (λ r f e. rw (refusal_read r f e)) (λ f. refl) (undo_kept_rows s l k)
    (kept_read (canvas_first s.size k) (undo_read s (lengths_of l) l.pixels l.log))
    (kept_reads s.size k _ _ _ (undo_reads s l))

show_kept_goes : (s : State) (planes : List ℕ) (v : Views) (sums : List ℕ)
    → ShowKeptGoesBy (show_kept_rows s planes v sums) s v sums (show_kept_call s planes v sums)
unfolding show_kept_call show_kept_by show_kept_check show_by sums_by
show_kept_goes s planes v sums =
    call_by (λ o. o) (λ (a : ShownKept). a.call.answer.number)
    (λ f. shows_kept (answer_of (Err f) 0 s) v sums) (λ o. show_kept_by o s planes v sums)
    (λ o e. rw e) (λ o f e. rw e) (λ f. refl) (show_kept_rows s planes v sums) _
    (also_checked s.size (length_checks (length sums) _) _ [] _ (show_first s planes v))

-- TOTAL
total_goes : (s : State) (planes scratch : List ℕ)
    → TotalGoesBy (total_rows s planes scratch) s scratch (total_call s planes scratch)
unfolding total_call total_by total_check TotalWrong
total_goes s planes scratch =
    call_by (λ o. o) (λ (a : Totalled). a.answer.number) (λ f. totalled (no_totals (answer_of (Err f) 0 s)) scratch)
    (λ o. total_by o s planes scratch) (λ o e. rw e) (λ o f e. rw e) (λ f. refl) (total_rows s planes scratch) _
    (first_check (sizes_checks s.size) _ _ (λ _.
    first_check (total_checks s.size (length planes) (length scratch)) [] (Ok tt) (λ _. last_row)))

pub demand_1 : Demand1
demand_1 =
    record {
      open_by_fact = open_goes;
      put_by_fact = put_goes;
      undo_by_fact = undo_goes;
      fill_by_fact = fill_goes;
      show_by_fact = show_goes;
      put_kept_by_fact = put_kept_goes;
      undo_kept_by_fact = undo_kept_goes;
      show_kept_by_fact = show_kept_goes;
      total_by_fact = total_goes;
    }

pub orders : Orders
orders =
    record {
      of_open = λ z l. refl;
      of_put = λ s x y v n r l. refl;
      of_undo = λ s l. refl;
      of_fill = λ s o k f l. refl;
      of_show = λ s planes v. refl;
      of_total = λ s planes scratch. refl;
      of_put_kept = λ s x y v n r l k. refl;
      of_undo_kept = λ s l k. refl;
      of_show_kept = λ s planes v sums. refl;
    }

-- PLATES THERE ARE
pub open_accepts : OpenAccepts
unfolding open_check
open_accepts z l lawful lent = sizes_pass z _ lawful ∙ lent_pass z (lengths_of l) (Ok tt) lent
