-- Both runs lie in the row, and the pictures are rounded from the sums that they leave.
use Rattle.std.proofs.Common.{◌+◌, ◌-◌, ◌*◌, ◌≡◌, ◌≤◌, length, refl, ap, ◌∙◌, subst, arith, rules}
use Rattle.kernels_model.specs.Mark.{minus}
use Rattle.plate_model.specs.Lent.{canvas}
use Rattle.plate.specs.Laying.{Amounts, times}
use Rattle.plate.specs.Mending.{amounts_at, RunGiven}
use Rattle.plate_model.proofs.Numbers.Extents.{row_in}
use Rattle.plate.proofs.Laws.Mending.Rows.{span_low}
use Rattle.plate.proofs.Laws.Mending.Runs.{runs_mended}
use Rattle.plate.proofs.Laws.Showing.Image.{row_shown}
use Rattle.plate.proofs.mend.ReachedRow.mend_runs.Goals as goal

pub cells_around-wide_run-requires : goal.cells_around-wide_run-requires
cells_around-wide_run-requires c =
    let r = c.requires.row_to_mend in
    let low = span_low _ _ _ _ _ _ r in
    (r.ready.change.column_in, r.ready.change.lawful.width_top, omega (arith, c.max.ensures, low.0, low.1))

pub returns : goal.returns
returns c =
    let a = c.args.self in
    let n = a.size.width * a.size.height in
    let start = a.row * a.size.width in
    let old_run = c.cells_around-old_run in
    let new_run = c.cells_around-new_run in
    let wide = c.cells_around-wide_run in
    let by = c.opposite.ensures ∙ ap (λ (w : Amounts). times w (minus 1)) c.at.ensures in
    let count : c.len.result ≡ wide.result.end - wide.result.start = search rules in
    let taken : RunGiven n start old_run.result (times (amounts_at a.old 0) (minus 1)) c.args.sums.now c.give_run.new.sums =
    subst (λ w. RunGiven n start old_run.result w c.args.sums.now c.give_run.new.sums) by c.give_run.ensures in
    let given : RunGiven n start new_run.result (amounts_at a.new 0) c.give_run.new.sums c.give_run-2.new.sums =
    subst (λ w. RunGiven n start new_run.result w c.give_run.new.sums c.give_run-2.new.sums) c.at-2.ensures c.give_run-2.ensures in
    let first = start + wide.result.start in
    let past = first + c.len.result in
    let ready = c.requires.row_to_mend.ready in
    let low = row_in a.row a.size.width a.size.height c.requires.row_to_mend.row_in in
    let inside : past ≤ n = omega (arith, count, wide.ensures.0, wide.ensures.1, low, ready.change.column_in) in
    let sums : length c.give_run-2.new.sums ≡ 2 * n =
    c.give_run-2.ensures.same ∙ c.give_run.ensures.same ∙ ready.sums_are in
    let shown = row_shown c.give_run-2.new.sums _ _ c.args.values.now _ c.args.mattes.now _ first past (n + first) (n + past) first past
    (wide.result.end - wide.result.start) (omega (arith, count)) (omega arith) (omega (arith, inside, ready.values_are))
    (omega (arith, inside, ready.mattes_are)) refl (omega (arith, count)) (omega (arith, inside, sums)) refl
    (omega (arith, count)) (omega (arith, inside, sums))
    c.round_row.ensures in
    runs_mended a.size a.change a.row a.old a.new (canvas c.args.sums.now c.args.values.now c.args.mattes.now) c.requires.row_to_mend
    c.requires.band_value.0 c.requires.band_value.1 old_run.result new_run.result wide.result _ (omega (arith, c.max.ensures))
    old_run.ensures new_run.ensures wide.ensures _ _ _ _ taken given shown
