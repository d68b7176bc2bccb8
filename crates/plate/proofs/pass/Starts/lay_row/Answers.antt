use Rattle.std.proofs.Common.{◌+◌, arith}
use Rattle.plate.proofs.Laws.Showing.RowSums.{added, laying_next}
use Rattle.plate.proofs.pass.Starts.lay_row.Goals as goal

pub loop-x-preserved : goal.loop-x-preserved
loop-x-preserved c =
    let s = c.args.self in
    let x = c.loop-x.x in
    let one_on = added c.loop-x.scratch (s.rising_one + x) _ _ _ _ c.add_to.ensures.sum_is c.add_to.ensures.cell_is c.mark.ensures in
    let two_on = added _ (s.rising_two + x) _ _ _ _ c.add_to-in-loop-x.ensures.sum_is c.add_to-in-loop-x.ensures.cell_is
    c.mark-in-loop-x.ensures in
    laying_next c.args.planes.now c.args.scratch.now c.loop-x.scratch _ _ s c.args.columns x _ _ c.requires.rising_one
    (omega arith) c.loop-x-test.true c.loop-x.invariant one_on two_on
