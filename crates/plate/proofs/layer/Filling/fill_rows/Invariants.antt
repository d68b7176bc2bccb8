-- The rows before y are filled.
use Rattle.std.proofs.Common.{◌*◌}
use Rattle.plate.specs.Filling.{layer_size, FilledTo}
use Rattle.plate.specs.Given.{given}
use Rattle.plate.proofs.layer.Filling.fill_rows.Given as goal

abbrev pub invariant-loop-y : goal.invariant-loop-y
invariant-loop-y l =
    FilledTo l.self.layer (given l.self) l.initial.planes l.planes l.pixels (l.y * (layer_size l.self.layer).width)
