use Rattle.std.proofs.Common.{arith}
use Rattle.plate.proofs.Laws.Showing.Starts.{in_order}
use Rattle.plate.proofs.Laws.Showing.NextRow.{summed-next}
use Rattle.plate.proofs.pass.Channel.sum_next.Goals as goal

pub sum_row-requires : goal.sum_row-requires
sum_row-requires c = rw c.starts_at.ensures (in_order _ _ _ _ (omega arith) (omega arith) (omega arith) (omega arith))

pub returns : goal.returns
returns c = summed-next _ _ _ _ _ c.requires (rw c.starts_at.ensures at c.sum_row.ensures)
