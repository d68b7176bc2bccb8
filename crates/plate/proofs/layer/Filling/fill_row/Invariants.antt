-- The pixels before x are filled on the rows before.
use Rattle.std.proofs.Common.{ℕ, ◌+◌, List}
use Rattle.plate.specs.Filling.{FilledTo}
use Rattle.plate.specs.Given.{given}
use Rattle.plate.proofs.layer.Filling.fill_row.Given as goal

abbrev pub invariant-loop-x : goal.invariant-loop-x
invariant-loop-x l =
    (cells : List ℕ) → FilledTo l.self.layer (given l.self) cells l.initial.planes l.initial.pixels l.start
    → FilledTo l.self.layer (given l.self) cells l.planes l.pixels (l.start + l.x)
