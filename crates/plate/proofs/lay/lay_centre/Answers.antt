-- A box of radius 0 has a side of one cell.
use Rattle.std.proofs.Common.{arith, rules}
use Rattle.plate.proofs.Laws.Laying.Corners.{centre_grid}
use Rattle.plate.proofs.lay.lay_centre.Goals as goal

pub lay_boxes-requires : goal.lay_boxes-requires
lay_boxes-requires c = (rw centre_grid c.requires.inside, omega arith)

pub returns : goal.returns
returns c = rw (← centre_grid) (search rules)
