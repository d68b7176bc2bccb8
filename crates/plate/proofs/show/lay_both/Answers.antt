-- Each channel has its own cells.
use Rattle.std.proofs.Common.{arith}
use Rattle.plate.proofs.Laws.Showing.BothChannels.{both-summed}
use Rattle.plate.proofs.show.lay_both.Goals as goal

pub returns : goal.returns
returns c =
    both-summed _ _ _ _ _ _ c.requires.some (omega arith) c.start_sums.ensures (rw c.matte_after.ensures at c.start_sums-2.ensures)
