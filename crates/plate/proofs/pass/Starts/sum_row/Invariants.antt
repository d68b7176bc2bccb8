-- The columns before x are summed, and the sums across have their marks.
use Rattle.plate.proofs.Laws.Showing.RowSums.{SummingAt}
use Rattle.plate.proofs.pass.Starts.sum_row.Given as goal

abbrev pub invariant-loop-x : goal.invariant-loop-x
invariant-loop-x l = SummingAt l.planes l.fn.scratch l.scratch l.self l.columns l.x l.sums
