-- Each record that a run can meet does to the machine what it does to the notebook.
use Rattle.std.specs.Prelude.{Ok, Err}
use mathlib.Core.Path.{◌≡◌, refl, ap, ◌∙◌}
use mathlib.Core.List.{[]}
use Prim.Native.Nat.{ℕ, ◌*◌, ◌≤◌, ◌<◌}
use native.Mathlib.Omega.{arith}
use borrow.Author.Tests.{lt-ltb, le-ltb, ne_eqb}
use lib.ListN.{length, replicate}
use Rattle.kernels_model.proofs.Numbers.Choices.{by_lt}
use Rattle.plate_model.specs.Layout.{padded, places}
use Rattle.plate_model.specs.declared.size.Size.{Size}
use Rattle.plate_model.specs.Refusal.{Outcome}
use Rattle.plate_model.specs.declared.state.Refusal.TheVariants.{Sizes as BadSizes}
use Rattle.plate_model.specs.Refusal.{refuse_if, sizes_check, lent_check, open_check}
use Rattle.plate_model.specs.Lent.{state_of, lengths_of}
use Rattle.kernels_model.specs.Listed.{zeros}
use Rattle.plate_model.specs.Calls.{open_by, open_call, put_call, undo_call}
use Rattle.plate_model.specs.Word.{empty}
use Rattle.plate_model.specs.Lists.{Plate, left_by}
use Rattle.plate_model.proofs.Checks.Rows.{by_check}
use Rattle.plate_model.proofs.Checks.Conditions.{sizes_checks}
use Rattle.plate_model.proofs.Checks.Passed.{lent_pass}
use Rattle.plate_model.proofs.Demands.Mirror.{Mirrored, held_by, mirror, put_agrees, undo_agrees}
use Rattle.plate_model.proofs.Demands.Fills.{open_kept, open_mirror}
use Rattle.records_model.specs.Record.{Record, Open, Put, NoShape, Undo, Show, put_ask, shapeless_ask}
use Rattle.records_model.specs.Run.{CurrentBook, opens, act}
use Rattle.records_model.specs.Machine.{Stage, Buffers, lent_cells, lent_places, plane_cells, plate_front, ToOpen, ToCall}
use Rattle.records_model.specs.Machine.{request_call}
use Rattle.records_model.specs.Machine.{requested, reply_text, opening, answered, task_of, performed}
use Rattle.records_model.proofs.Reading.Bodies.{LawfulRecord}
use Rattle.records_model.proofs.Lending.Rooms.{has_room, places_few}
use Rattle.records_model.proofs.Standing.Invariant.{RightLengths, lent_of, Stands, at_closed, at_open, Agrees, part_length}
use Rattle.records_model.proofs.Standing.Invariant.{open_again, answered_agrees, show_agree}
use Rattle.records_model.specs.Fixed.{cells_top, log_room}
use Rattle.plate_model.specs.Fixed.{planes_in_all}

-- OPEN
module _ (k : ℕ) (z : Size) (b : Buffers) (s : RightLengths b) where
  open_sizes : ((next : Outcome) → sizes_check z next ≡ Err BadSizes) → Agrees k (opens z) (performed (ToCall (ToOpen z)) b)
  unfolding opens performed requested request_call open_call open_by open_check answered opening reply_text
  open_sizes bad = rw (bad (Ok tt), bad (lent_check z (lengths_of (lent_of z b)) (Ok tt))) (refl, refl)

  open_cells : ((next : Outcome) → sizes_check z next ≡ next) → cells_top < padded z
      → Agrees k (opens z) (performed (ToCall (ToOpen z)) b)
  unfolding opens performed requested request_call open_call open_by open_check answered opening reply_text
      lent_check plate_front refuse_if
  open_cells fine h =
      let none : lent_cells z ≡ 0 = rw (lt-ltb cells_top (padded z) h) in
      rw (
        fine (Ok tt),
        fine (lent_check z (lengths_of (lent_of z b)) (Ok tt)),
        lt-ltb cells_top (padded z) h,
        ne_eqb 0 (planes_in_all * padded z) (omega arith),
      )
      (refl, refl)

  open_passes : ((next : Outcome) → sizes_check z next ≡ next) → padded z ≤ cells_top
      → open_check z (lengths_of (lent_of z b)) ≡ Ok tt
  unfolding open_check plate_front
  open_passes fine h =
      let cells = has_room z (padded z) h in
      let pixels = has_room z (places z) h in
      let small = places_few z in
      fine (lent_check z (lengths_of (lent_of z b)) (Ok tt))
      ∙ lent_pass z (lengths_of (lent_of z b)) (Ok tt)
      (record {
        planes_are =
            part_length (plane_cells z) b.planes (omega (arith, s.planes_are)) ∙ ap (λ (n : ℕ). planes_in_all * n) cells;
        pixels_are = part_length (lent_places z) b.pixels (omega (arith, s.pixels_are)) ∙ pixels;
        log_top_fact = omega (arith, s.log_is);
      })

  log_long : length (lent_of z b).log ≡ log_room
  unfolding plate_front
  log_long = s.log_is

  open_fits : ((next : Outcome) → sizes_check z next ≡ next) → padded z ≤ cells_top
      → Agrees k (opens z) (performed (ToCall (ToOpen z)) b)
  unfolding opens performed requested request_call answered opening reply_text
  open_fits fine h =
      let l = lent_of z b in
      let e = open_passes fine h in
      let accepted : (open_call z l).answer.number ≡ 0 = unfold open_call open_by in (rw e) in
      let planes = zeros (length l.planes) in
      let grid = replicate (places z) empty in
      let mirrors : left_by (open_call z l) ≡ mirror z log_room planes grid [] = rw log_long at (open_mirror z l e) in
      let kept : Mirrored z log_room planes grid [] = rw log_long at (open_kept z l e) in
      let state : (open_call z l).answer.state ≡ state_of z 0 = ap (λ (p : Plate). p.state) mirrors in
      rw (fine (Ok tt), le-ltb cells_top (padded z) h, accepted, state)
      (refl, open_again z b (open_call z l).buffers planes grid [] h s (ap (λ (p : Plate). p.buffers) mirrors) kept)

  pub open_agrees : Agrees k (opens z) (performed (ToCall (ToOpen z)) b)
  open_agrees =
      by_check (sizes_checks z)
      (λ outside bad. open_sizes bad)
      (λ lawful fine. by_lt cells_top (padded z) (open_cells fine) (open_fits fine))

-- A RECORD
pub acts_agree : (k : ℕ) (s : Stage) (b : Buffers) (d : CurrentBook) (r : Record) → Stands s b d → LawfulRecord r
    → Agrees k (act k d r) (performed (task_of s r) b)
unfolding act task_of performed requested request_call answered reply_text
acts_agree k s b d (Open a) (at_closed sizes) h = open_agrees k _ b sizes
acts_agree k s b d (Put p) (at_closed sizes) h = (refl, refl)
acts_agree k s b d (NoShape p) (at_closed sizes) h = (refl, refl)
acts_agree k s b d Undo (at_closed sizes) h = (refl, refl)
acts_agree k s b d Show (at_closed sizes) h = (refl, refl)
acts_agree k s b d (Open a) (at_open z planes grid pile sizes small kept e) h = (refl, refl)
acts_agree k s b d (Put p) (at_open z planes grid pile sizes small kept e) h =
    let left = put_call (state_of z (length pile)) (put_ask p) (held_by log_room planes grid pile) in
    rw e (answered_agrees k z b grid pile left _ small sizes (put_agrees z log_room planes grid pile kept (put_ask p) h))
acts_agree k s b d (NoShape p) (at_open z planes grid pile sizes small kept e) h =
    let left = put_call (state_of z (length pile)) (shapeless_ask p) (held_by log_room planes grid pile) in
    rw e
    (answered_agrees k z b grid pile left _ small sizes
    (put_agrees z log_room planes grid pile kept (shapeless_ask p) (omega arith)))
acts_agree k s b d Undo (at_open z planes grid pile sizes small kept e) h =
    let left = undo_call (state_of z (length pile)) (held_by log_room planes grid pile) in
    rw e (answered_agrees k z b grid pile left _ small sizes (undo_agrees z log_room planes grid pile kept))
acts_agree k s b d Show (at_open z planes grid pile sizes small kept e) h = show_agree k z planes grid pile b small sizes kept e
