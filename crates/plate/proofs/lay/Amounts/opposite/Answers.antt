-- Times minus one.
use Rattle.std.proofs.Common.{rules}
use Rattle.kernels_model.specs.Mark.{minus}
use Rattle.plate.proofs.lay.Amounts.opposite.Goals as goal

pub returns : goal.returns
unfolding minus
returns c = search rules
