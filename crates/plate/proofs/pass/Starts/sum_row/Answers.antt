use Rattle.std.proofs.Common.{◌+◌, ap, set, refl}
use Rattle.plate.proofs.Laws.Showing.RowSums.{added, taken_off, summing_start, summing_next}
use Rattle.plate.proofs.pass.Starts.sum_row.Goals as goal

pub loop-x-init : goal.loop-x-init
loop-x-init c = summing_start c.args.planes.now c.args.scratch.now c.args.self c.args.columns

pub loop-x-preserved : goal.loop-x-preserved
loop-x-preserved c =
    let s = c.args.self in
    let x = c.loop-x.x in
    let one_on = added c.add_boxes-sums.new.scratch (s.falling_one + x) _ _ _ _ c.add_to-falling_one.ensures.sum_is
    c.add_to-falling_one.ensures.cell_is c.mark.ensures in
    let two_on = added _ (s.falling_two + x) _ _ _ _ c.add_to-falling_two.ensures.sum_is c.add_to-falling_two.ensures.cell_is
    c.mark-in-loop-x.ensures in
    let one_off = taken_off _ (s.rising_one + x) _ _ _ _ c.take_off-rising_one.ensures.held_is c.take_off-rising_one.ensures.cell_is
    c.mark-in-loop-x-2.ensures in
    let two_off = taken_off _ (s.rising_two + x) _ _ _ _ c.take_off-rising_two.ensures.held_is c.take_off-rising_two.ensures.cell_is
    c.mark-in-loop-x-3.ensures in
    summing_next c.args.planes.now c.args.scratch.now c.loop-x.scratch _ _ _ _ _ _ s c.args.columns _ x c.loop-x.sums
    c.add_boxes-sums.result _ _ _ _ _ _ _ _ c.requires c.loop-x-test.true c.loop-x.invariant c.add_boxes-sums.ensures one_on two_on
    one_off two_off refl refl c.add_three.ensures
    (record { sum_is = c.add_to.ensures.sum_is; cells = ap (set _ (s.down + x)) c.add_to.ensures.cell_is })
