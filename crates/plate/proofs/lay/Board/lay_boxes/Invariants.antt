-- The columns before are laid.
use Rattle.plate.specs.Board.{Laid}
use Rattle.plate.proofs.Laws.Laying.Amounts.{grid_to}
use Rattle.plate.proofs.lay.Board.lay_boxes.Given as goal

abbrev pub invariant-loop-i : goal.invariant-loop-i
invariant-loop-i g l = Laid l.initial.self l.self l.w (grid_to l.plane g.row.N l.side l.i)
