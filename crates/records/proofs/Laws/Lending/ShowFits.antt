-- A show that is accepted is of a plate that was lent its cells, so there is room for its text.
use Rattle.std.specs.Prelude.{Ok}
use mathlib.Core.Path.{◌≡◌, refl, sym, ◌∙◌}
use mathlib.Core.List.{List}
use Prim.Native.Nat.{ℕ, zero, suc, ◌+◌, ◌*◌, ◌≤◌}
use native.Mathlib.Omega.{arith}
use borrow.Author.Tests.{ne_eqb}
use lib.Dec.{eqb}
use lib.ListN.{length, take}
use lib.Seq.{length-take-le}
use Rattle.kernels_model.specs.Choice.{pick}
use Rattle.kernels_model.proofs.Numbers.Choices.{by_lt}
use Rattle.kernels_model.proofs.Numbers.Products.{product_le}
use Rattle.plate_model.specs.Fixed.{planes_in_all, border}
use Rattle.plate_model.specs.Layout.{wide, high, padded}
use Rattle.plate_model.specs.declared.size.Size.{Size}
use Rattle.plate_model.specs.declared.state.State.{State}
use Rattle.plate_model.specs.Refusal.{Returned, show_check}
use Rattle.plate_model.specs.Lent.{Views}
use Rattle.plate_model.specs.Table.{LawfulSize}
use Rattle.plate_model.specs.Calls.{show_call}
use Rattle.plate_model.proofs.Checks.Rows.{accepted-numbered}
use Rattle.plate_model.proofs.Checks.Accepted.{show_returns}
use Rattle.plate_model.proofs.Checks.Passed.{sizes_passed, length_passed}
use Rattle.records_model.specs.Fixed.{cells_top, planes_room, text_room}
use Rattle.records_model.specs.declared.record.Stop.{Stop}
use Rattle.records_model.specs.declared.effect.Stage.TheVariants.{Opened}
use Rattle.records_model.specs.declared.effect.Reply.{Reply}
use Rattle.records_model.specs.declared.effect.Reply.TheVariants.{Nothing, RefusedBy, Pictures}
use Rattle.records_model.specs.declared.request.Request.{Request}
use Rattle.records_model.specs.declared.request.Request.TheVariants.{ToOpen, ToPut, ToUndo}
use Rattle.records_model.specs.Machine.{plane_cells, views_front, show_requested, effect, stopping, going_on, opening, answered}
use Rattle.records_model.proofs.Lending.Rooms.{no_room, cells_within}
use Rattle.records.specs.Room.{line_room, rows_room, PrintableSize, Printable}

-- the planes of an accepted show are as long as the plate's cells, and its sizes are lawful
accepted_lem : (s : State) (planes : List ℕ) (v : Views) → (show_call s planes v).answer.number ≡ 0
    → LawfulSize s.size × (length planes ≡ planes_in_all * padded s.size)
unfolding show_call show_check
accepted_lem s planes v e =
    let check = show_check s (length planes) (length v.scratch) (length v.values) (length v.mattes) in
    let yes : check ≡ Ok tt = accepted-numbered check (sym (show_returns check s planes v) ∙ e) in
    let passed = sizes_passed s.size _ yes in
    (passed.0, (length_passed (length planes) (planes_in_all * padded s.size) _ passed.1).0)

shown_lem : (s : State) (planes : List ℕ) (v : Views) → length planes ≡ plane_cells s.size
    → (show_call s planes v).answer.number ≡ 0 → PrintableSize s.size
shown_lem s planes v long accepted =
    let z = s.size in
    let cells = accepted_lem s planes v accepted in
    let some = product_le 1 1 (wide z) (high z) (omega arith) (omega arith) in
    record {
      some = omega (arith, cells.0.width_some);
      few = by_lt cells_top (padded z) (λ h. absurd (omega (arith, cells.1, no_room z (padded z) h))) (λ h. h);
    }

-- so the text of a reply with pictures fits
printable_if : (n : ℕ) (r : Reply) → (n ≡ 0 → Printable r) → Printable (pick (eqb n 0) r (RefusedBy n))
printable_if zero r h = h refl
printable_if (suc n) r h = rw (ne_eqb (suc n) 0 (λ e. omega arith)) tt

printable_opened : (n : ℕ) (s : State) (why : Stop) → Printable (pick (eqb n 0) (effect (Opened s) Nothing) (stopping why)).reply
printable_opened zero s why = tt
printable_opened (suc n) s why = rw (ne_eqb (suc n) 0 (λ e. omega arith)) tt

pub printable_answered : (q : Request) (a : Returned) → Printable (answered q a).reply
unfolding answered opening going_on
printable_answered (ToOpen z) a = printable_opened a.number a.state _
printable_answered (ToPut p) a = printable_if a.number Nothing (λ _. tt)
printable_answered (ToUndo s) a = printable_if a.number Nothing (λ _. tt)

pub printable_pictures : (s : State) (planes : List ℕ) (v : Views) → length planes ≡ planes_room
    → Printable (going_on (Pictures s.size) (show_requested s planes v).answer).reply
unfolding show_requested going_on
printable_pictures s planes v long =
    let z = s.size in
    let cells = length-take-le (plane_cells z) planes (omega (arith, cells_within z)) in
    printable_if _ (Pictures z) (shown_lem s (take (plane_cells z) planes) (views_front z v) cells)

-- so few cells have few places
pub text_fits : (z : Size) → padded z ≤ cells_top → line_room + rows_room z.width z.height ≤ text_room
text_fits z h =
    let all = product_le (z.width + border) (z.height + border) (wide z) (high z) (omega arith) (omega arith) in
    by_lt (z.width + z.height) 20
    (λ small. omega (arith, product_le z.width z.height 19 19 (omega arith) (omega arith)))
    (λ large. omega arith)
