-- The rows above this one are summed.
use Rattle.plate.specs.Showing.{BothSummed}
use Rattle.plate.proofs.show.sum_above.Given as goal

abbrev pub invariant-loop-row : goal.invariant-loop-row
invariant-loop-row l = BothSummed l.light l.planes l.fn.scratch l.scratch l.row
