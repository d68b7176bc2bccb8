-- By cases.
use Rattle.plate.proofs.Laws.Laying.Amounts.{choose-end, choose-between}
use Rattle.plate.proofs.lay.choose.Goals as goal

pub returns-then-i-boxes : goal.returns-then-i-boxes
returns-then-i-boxes c = choose-end _ _ c.requires.0 c.if-i-boxes.either

pub returns-else-i-boxes : goal.returns-else-i-boxes
returns-else-i-boxes c = choose-between _ _ c.requires.0 c.requires.1 c.if-i-boxes.false
