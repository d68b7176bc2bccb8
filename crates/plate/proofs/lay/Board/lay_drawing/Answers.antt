-- Arm by arm: a count that is neither 1 nor 2 is 3.
use Rattle.std.proofs.Common.{arith}
use Rattle.plate.proofs.Laws.Laying.Amounts.{grid_in, grid_laid, three_boxes}
use Rattle.plate.proofs.lay.Board.lay_drawing.Goals as goal

pub lay_boxes-requires : goal.lay_boxes-requires
lay_boxes-requires c = grid_in _ _ 1 c.in-Grid.is c.in-1.is _ c.requires

pub lay_boxes-requires-in-2 : goal.lay_boxes-requires-in-2
lay_boxes-requires-in-2 c = grid_in _ _ 2 c.in-Grid.is c.in-2.is _ c.requires

pub lay_boxes-requires-in_default : goal.lay_boxes-requires-in_default
lay_boxes-requires-in_default c =
    grid_in _ _ 3 c.in-Grid.is (three_boxes _ _ c.in-Grid.is c.requires.1 (omega (arith, c.in_default)) (omega (arith, c.in_default))) _ c.requires

pub returns-in-1 : goal.returns-in-1
returns-in-1 c = grid_laid _ _ 1 c.in-Grid.is c.in-1.is _ _ _ c.lay_boxes.ensures

pub returns-in-2 : goal.returns-in-2
returns-in-2 c = grid_laid _ _ 2 c.in-Grid.is c.in-2.is _ _ _ c.lay_boxes-in-2.ensures

pub returns-in_default : goal.returns-in_default
returns-in_default c =
    grid_laid _ _ 3 c.in-Grid.is (three_boxes _ _ c.in-Grid.is c.requires.1 (omega (arith, c.in_default)) (omega (arith, c.in_default))) _ _ _ c.lay_boxes-in_default.ensures
