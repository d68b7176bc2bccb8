-- The finished cells of the rows before this one are added up, and the sums are ready for it.
use Rattle.plate.specs.Passes.{SummedTo}
use Rattle.plate.specs.Totalling.{AddedUp}
use Rattle.plate.proofs.total.add_up.Given as goal

abbrev pub invariant-loop-row : goal.invariant-loop-row
invariant-loop-row l =
    record {
      added : AddedUp l.channel l.planes l.fn.scratch l.scratch l.row l.sum;
      summed : SummedTo l.channel l.planes l.scratch l.row;
    }
