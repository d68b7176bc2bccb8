-- Each iteration does a row; after the last one all places are done.
use Rattle.std.proofs.Common.{arith}
use Rattle.plate.specs.Filling.{FilledRow}
use Rattle.plate.proofs.Laws.Filling.Filling.{filled_none}
use Rattle.plate.proofs.layer.Filling.fill_rows.Goals as goal

pub loop-y-init : goal.loop-y-init
loop-y-init c = filled_none _ _ _ _ _ (omega arith)

pub loop-y-preserved : goal.loop-y-preserved
unfolding FilledRow
loop-y-preserved c = c.fill_row.ensures _ c.loop-y.invariant
