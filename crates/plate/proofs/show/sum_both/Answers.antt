-- What sums the one channel leaves the other.
use Rattle.std.proofs.Common.{arith}
use Rattle.plate.proofs.Laws.Showing.BothChannels.{both-summed}
use Rattle.plate.proofs.show.sum_both.Goals as goal

pub returns : goal.returns
returns c =
    both-summed _ _ _ _ _ _ (omega arith) (omega arith) c.sum_next.ensures (rw c.matte_after.ensures at c.sum_next-2.ensures)
