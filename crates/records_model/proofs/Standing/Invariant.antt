-- What a record makes of the machine and its buffers is what the paper's rules make of the notebook, while the plate in the front
-- of the buffers mirrors the notebook.
use Rattle.std.specs.Prelude.{Ok}
use mathlib.Core.Path.{◌≡◌, refl, ap, sym, ◌∙◌}
use mathlib.Core.List.{List, ◌++◌, append-nil}
use Prim.Native.Nat.{ℕ, zero, suc, ◌*◌, ◌≤◌}
use native.Mathlib.Nat.{mul_comm}
use native.Mathlib.Omega.{arith}
use borrow.Author.Tests.{ne_eqb}
use lib.Dec.{eqb}
use lib.ListN.{length, take, drop, length-append, length-drop, length-map, length-replicate}
use lib.Seq.{take_at, length-take-le}
use Rattle.kernels_model.specs.Choice.{pick}
use Rattle.kernels_model.specs.Rounding.{shown_value, shown_matte}
use Rattle.plate_model.specs.Layout.{padded, places}
use Rattle.plate_model.specs.declared.size.Size.{Size}
use Rattle.plate_model.specs.declared.word.Pixel.{Pixel}
use Rattle.plate_model.specs.declared.word.Entry.{Entry}
use Rattle.plate_model.specs.Word.{word_of}
use Rattle.plate_model.specs.Refusal.{Outcome}
use Rattle.plate_model.specs.Lent.{state_of, Lent, lent, Views, views}
use Rattle.plate_model.specs.Refusal.{Returned, length_check, views_check, show_check}
use Rattle.plate_model.specs.Calls.{Left, Shown, sum_at, show_by, show_call}
use Rattle.plate_model.specs.Notebook.{book_of, plain, BookLeft, book_show_by, book_show}
use Rattle.plate_model.specs.Lists.{Plate, step_of, shown_to, seen_by}
use Rattle.plate_model.specs.Table.{LawfulSize}
use Rattle.plate_model.proofs.Checks.Passed.{length_pass, sizes_pass}
use Rattle.plate_model.proofs.Numbers.Lists.{length-list_to}
use Rattle.plate_model.proofs.Demands.Demand.{show_agrees}
use Rattle.plate_model.proofs.Demands.Logs.{log_length}
use Rattle.plate_model.proofs.Demands.Mirror.{Mirrored, held_by, mirror, Agree}
use Rattle.records_model.specs.Run.{CurrentBook, not_open, open_with, Act, stop, go, answer_text, report_text, picture_text}
use Rattle.records_model.specs.Run.{stop_text, noted}
use Rattle.records_model.specs.Text.{show_text}
use Rattle.records_model.proofs.Lending.Rooms.{has_room, places_few}
use Rattle.records_model.proofs.Reading.Pictures.{show_front}
use Rattle.records_model.specs.Machine.{Stage, Closed, Opened, Ended, Nothing, RefusedBy, Buffers, lent_places}
use Rattle.records_model.specs.Machine.{plane_cells, scratch_cells}
use Rattle.records_model.specs.Machine.{buffers, plate_front, plate_back, views_front, views_back}
use Rattle.records_model.specs.Machine.{show_requested, Did, did, reply_text, going_on, ToShow, performed}
use Rattle.records_model.specs.Fixed.{cells_top, planes_room, scratch_room, log_room}
use Rattle.plate_model.specs.Fixed.{planes_in_all, scratch_planes}
use Rattle.kernels_model.specs.Fixed.{planes_each}

-- the lengths of the buffers
pub record RightLengths (b : Buffers) : Type 0 where
  pub planes_are : length b.planes ≡ planes_room
  pub pixels_are : length b.pixels ≡ cells_top
  pub log_is : length b.log ≡ log_room
  pub scratch_is : length b.scratch ≡ scratch_room
  pub values_are : length b.values ≡ cells_top
  pub mattes_are : length b.mattes ≡ cells_top

-- the text of what a record did
abbrev did_text : ℕ → Did → List ℕ
did_text k d = reply_text k d.effect.reply d.buffers.values d.buffers.mattes

-- planes, pixels and log of the buffers, and the buffers with others in their place
abbrev plate_of : Buffers → Lent
plate_of b = lent b.planes b.pixels b.log

abbrev holding : Buffers → Lent → Buffers
holding b l = buffers l.planes l.pixels l.log b.scratch b.values b.mattes

-- and the same of scratch and pictures
abbrev views_of : Buffers → Views
views_of b = views b.scratch b.values b.mattes

abbrev showing : Buffers → Views → Buffers
showing b v = buffers b.planes b.pixels b.log v.scratch v.values v.mattes

-- the front that a plate is lent, and the buffers with it taken back
abbrev pub lent_of : Size → Buffers → Lent
lent_of z b = plate_front z (plate_of b)

abbrev pub lent_back : Size → Lent → Buffers → Buffers
lent_back z l b = holding b (plate_back z l (plate_of b))

abbrev pub answered_on : Size → Left → Buffers → Did
answered_on z l b = did (going_on Nothing l.answer) (lent_back z l.buffers b)

-- THE INVARIANT: what is lent of the buffers is the plate that mirrors the notebook
pub data Stands : Stage → Buffers → CurrentBook → Type 0 where
  at_closed : {b : Buffers} → RightLengths b → Stands Closed b not_open
  at_open : {b : Buffers} (z : Size) (planes : List ℕ) (grid : List Pixel) (pile : List Entry)
      → RightLengths b → padded z ≤ cells_top
      → Mirrored z log_room planes grid pile → lent_of z b ≡ held_by log_room planes grid pile
      → Stands (Opened (state_of z (length pile))) b (open_with (book_of z log_room grid pile))

-- both stop with the same line, or both print the same and the invariant holds after them
abbrev pub Agrees : ℕ → Act → Did → Type 0
Agrees k (stop s) d = (d.effect.stage ≡ Ended) × (did_text k d ≡ stop_text k s)
Agrees k (go t book) d = (did_text k d ≡ t) × Stands d.effect.stage d.buffers (open_with book)

-- PARTS
-- what came back is lent again
lent_again : (z : Size) (b : Buffers) (l : Lent) → length l.planes ≡ plane_cells z → length l.pixels ≡ lent_places z
    → lent_of z (lent_back z l b) ≡ l
unfolding plate_front plate_back
lent_again z b l p q =
    rw (
      take_at l.planes (drop (plane_cells z) b.planes) (plane_cells z) p,
      take_at l.pixels (drop (lent_places z) b.pixels) (lent_places z) q,
    )

back-length : (n : ℕ) (front whole : List ℕ) → length front ≡ n → n ≤ length whole → length (front ++ drop n whole) ≡ length whole
back-length n front whole e h = rw (length-append front (drop n whole), length-drop n whole, e) (omega arith)

lent_sized : (z : Size) (b : Buffers) (l : Lent) → padded z ≤ cells_top → RightLengths b → length l.planes ≡ plane_cells z
    → length l.pixels ≡ lent_places z → length l.log ≡ log_room → RightLengths (lent_back z l b)
unfolding plate_back
lent_sized z b l h s p q r =
    let cells = has_room z (padded z) h in
    let pixels = has_room z (places z) h in
    record {
      planes_are = back-length (plane_cells z) l.planes b.planes p (omega (arith, s.planes_are)) ∙ s.planes_are;
      pixels_are = back-length _ l.pixels b.pixels q (omega (arith, s.pixels_are, places_few z)) ∙ s.pixels_are;
      log_is = r;
      scratch_is = s.scratch_is;
      values_are = s.values_are;
      mattes_are = s.mattes_are;
    }

-- the plate that a call leaves in the buffers
pub open_again : (z : Size) (b : Buffers) (l : Lent) (planes : List ℕ) (grid : List Pixel) (pile : List Entry)
    → padded z ≤ cells_top → RightLengths b
    → l ≡ held_by log_room planes grid pile → Mirrored z log_room planes grid pile
    → Stands (Opened (state_of z (length pile))) (lent_back z l b) (open_with (book_of z log_room grid pile))
open_again z b l planes grid pile h s e kept =
    let p : length l.planes ≡ plane_cells z =
    ap (λ (k : Lent). length k.planes) e
    ∙ kept.cells_count
    ∙ ap (λ (n : ℕ). planes_in_all * n) (sym (has_room z (padded z) h)) in
    let q : length l.pixels ≡ lent_places z =
    ap (λ (k : Lent). length k.pixels) e ∙ length-map grid word_of ∙ kept.grid_size ∙ sym (has_room z (places z) h) in
    let r : length l.log ≡ log_room = ap (λ (k : Lent). length k.log) e ∙ log_length log_room pile in
    at_open z planes grid pile (lent_sized z b l h s p q r) h kept (lent_again z b l p q ∙ e)

-- PUT AND UNDO
number_text : (k n : ℕ) (values mattes : List ℕ)
    → reply_text k (pick (eqb n 0) Nothing (RefusedBy n)) values mattes ≡ answer_text k n
unfolding reply_text answer_text
number_text k zero values mattes = refl
number_text k (suc n) values mattes = rw (ne_eqb (suc n) 0 (λ e. omega arith))

plain_text : (k : ℕ) (z : Size) (a : Returned) (values mattes : List ℕ)
    → reply_text k (going_on Nothing a).reply values mattes ≡ report_text k z (plain a.number a.marks)
unfolding going_on report_text picture_text
plain_text k z a values mattes =
    let n = a.number in
    number_text k n values mattes ∙ sym (append-nil (answer_text k n))

pub answered_agrees : (k : ℕ) (z : Size) (b : Buffers) (grid : List Pixel) (pile : List Entry) (l : Left) (t : BookLeft)
    → padded z ≤ cells_top → RightLengths b
    → Agree z log_room (step_of l) t → Agrees k (noted k (book_of z log_room grid pile) t) (answered_on z l b)
unfolding going_on
answered_agrees k z b grid pile l t h s a = (
  plain_text k z l.answer b.values b.mattes ∙ ap (report_text k z) a.same_report,
  rw (ap (λ (p : Plate). p.state) a.same_plate, a.same_book)
      (open_again z b l.buffers a.planes a.grid a.pile h s (ap (λ (p : Plate). p.buffers) a.same_plate)
      a.kept),
)

-- SHOW
pub part_length : (n : ℕ) (whole : List ℕ) → n ≤ length whole → length (take n whole) ≡ n
part_length n whole h = length-take-le n whole h

-- what a show is lent of the buffers, and the buffers with it taken back
abbrev lent_views : Size → Buffers → Views
lent_views z b = views_front z (views_of b)

abbrev views_in : Size → Views → Buffers → Buffers
views_in z v b = showing b (views_back z v (views_of b))

-- what it is lent has the right lengths
views_fit : (z : Size) (b : Buffers) → padded z ≤ cells_top → RightLengths b → let v = lent_views z b in
    views_check z (length v.scratch) (length v.values) (length v.mattes) ≡ Ok tt
unfolding views_front views_check
views_fit z b h s =
    let cells = has_room z (padded z) h in
    let pictures = has_room z (places z) h in
    let small = places_few z in
    rw (
      length_pass (length (take (scratch_cells z) b.scratch)) (scratch_planes * padded z) _
          (part_length (scratch_cells z) b.scratch (omega (arith, s.scratch_is)) ∙ ap (λ (n : ℕ). scratch_planes * n) cells),
      length_pass (length (take (lent_places z) b.values)) (places z) _
          (part_length (lent_places z) b.values (omega (arith, s.values_are)) ∙ pictures),
      length_pass (length (take (lent_places z) b.mattes)) (places z) _
          (part_length (lent_places z) b.mattes (omega (arith, s.mattes_are)) ∙ pictures),
    )

-- so it is accepted
shown_by : (z : Size) (n : ℕ) (planes : List ℕ) (v : Views) → LawfulSize z → length planes ≡ planes_in_all * padded z
    → views_check z (length v.scratch) (length v.values) (length v.mattes) ≡ Ok tt
    → show_call (state_of z n) planes v ≡ show_by (Ok tt) (state_of z n) planes v
unfolding show_call show_check
shown_by z n planes v lawful cells e =
    let views = views_check z (length v.scratch) (length v.values) (length v.mattes) in
    rw (
      sizes_pass z (length_check (length planes) (planes_in_all * padded z) views) lawful,
      length_pass (length planes) (planes_in_all * padded z) views cells,
      e,
    )

module _ (z : Size) (n : ℕ) (planes : List ℕ) (b : Buffers) (h : padded z ≤ cells_top) (s : RightLengths b) where
  abbrev seen : Views
  seen = (show_by (Ok tt) (state_of z n) planes (lent_views z b)).seen

  -- and keeps the lengths of what it is lent
  scratch_long : length seen.scratch ≡ scratch_cells z
  unfolding show_by views_front
  scratch_long =
      let cells = has_room z (padded z) h in
      length-replicate {A = ℕ} (length (take (scratch_cells z) b.scratch)) 0
      ∙ part_length (scratch_cells z) b.scratch (omega (arith, s.scratch_is))

  values_long : length seen.values ≡ places z
  unfolding show_by
  values_long = length-list_to (λ i. shown_value (sum_at z planes 0 i) (sum_at z planes planes_each i)) (places z)

  mattes_long : length seen.mattes ≡ places z
  unfolding show_by
  mattes_long = length-list_to (λ i. shown_matte (sum_at z planes planes_each i)) (places z)

  shown_sized : RightLengths (views_in z seen b)
  unfolding views_back
  shown_sized =
      let cells = has_room z (padded z) h in
      let pictures = has_room z (places z) h in
      let small = places_few z in
      let values = values_long ∙ sym pictures in
      let mattes = mattes_long ∙ sym pictures in
      record {
        planes_are = s.planes_are;
        pixels_are = s.pixels_are;
        log_is = s.log_is;
        scratch_is = back-length _ seen.scratch b.scratch scratch_long (omega (arith, s.scratch_is)) ∙ s.scratch_is;
        values_are = back-length _ seen.values b.values values (omega (arith, s.values_are)) ∙ s.values_are;
        mattes_are = back-length _ seen.mattes b.mattes mattes (omega (arith, s.mattes_are)) ∙ s.mattes_are;
      }

  -- its pictures are printed from the front of the buffers
  seen_text : (k : ℕ) → show_text z.width z.height (views_in z seen b).values (views_in z seen b).mattes
      ≡ report_text k z (seen_by 0 0 seen)
  unfolding views_back report_text picture_text seen_by answer_text
  seen_text k =
      let turned = mul_comm z.height z.width in
      show_front seen.values seen.mattes _ _ z.width z.height
      (omega (arith, values_long)) (omega (arith, mattes_long))

show_stands : (z : Size) (b : Buffers) (v : Shown) (planes : List ℕ) (grid : List Pixel) (pile : List Entry) (t : BookLeft)
    → padded z ≤ cells_top
    → RightLengths (views_in z v.seen b) → lent_of z b ≡ held_by log_room planes grid pile
    → Agree z log_room (shown_to (mirror z log_room planes grid pile) v) t
    → Stands (Opened v.answer.state) (views_in z v.seen b) (open_with t.book)
unfolding plate_front views_back
show_stands z b v planes grid pile t h s e a =
    rw (ap (λ (p : Plate). p.state) a.same_plate, a.same_book)
    (at_open z a.planes a.grid a.pile s h a.kept (e ∙ ap (λ (p : Plate). p.buffers) a.same_plate))

pub show_agree : (k : ℕ) (z : Size) (planes : List ℕ) (grid : List Pixel) (pile : List Entry) (b : Buffers)
    → padded z ≤ cells_top → RightLengths b
    → Mirrored z log_room planes grid pile → lent_of z b ≡ held_by log_room planes grid pile
    → Agrees k (noted k (book_of z log_room grid pile) (book_show_by (Ok tt) (book_of z log_room grid pile)))
    (performed (ToShow (state_of z (length pile))) b)
unfolding performed show_requested going_on reply_text show_by plate_front book_show
show_agree k z planes grid pile b h s kept e =
    let v = lent_views z b in
    let n = length pile in
    let book = book_of z log_room grid pile in
    let fit = views_fit z b h s in
    let part : take (plane_cells z) b.planes ≡ planes = ap (λ (l : Lent). l.planes) e in
    let shown = shown_by z n planes v kept.lawful kept.cells_count fit in
    let left : book_show book v ≡ book_show_by (Ok tt) book = ap (λ (o : Outcome). book_show_by o book) fit in
    let by = show_by (Ok tt) (state_of z n) planes v in
    let a : Agree z log_room (shown_to (mirror z log_room planes grid pile) by) (book_show_by (Ok tt) book) =
    rw (left, shown) at (show_agrees z log_room planes grid pile kept v) in
    rw (part, shown) (
      seen_text z n planes b h s k ∙ ap (report_text k z) a.same_report,
      show_stands z b by planes grid pile _ h (shown_sized z n planes b h s) e a,
    )
