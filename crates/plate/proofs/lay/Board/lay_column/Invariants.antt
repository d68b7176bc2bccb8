-- The marks of the rows before are laid.
use Rattle.std.proofs.Common.{◌≡◌, ℕ}
use Rattle.plate.specs.Laying.{Amounts, times, grid_column}
use Rattle.plate.specs.Board.{Laid}
use Rattle.plate.proofs.lay.Board.lay_column.Given as goal

abbrev pub invariant-loop-j : goal.invariant-loop-j
invariant-loop-j g l =
    (v : Amounts) (c : ℕ) → l.w ≡ times v c
    → Laid l.initial.self l.self v (grid_column l.plane g.row.N l.side l.x c l.j)
