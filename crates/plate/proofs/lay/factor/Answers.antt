-- An even factor is 1 times boxes over i, and an odd one minus one times.
use Rattle.std.proofs.Common.{refl}
use Rattle.plate.proofs.Laws.Laying.Amounts.{factor-even, factor-odd}
use Rattle.plate.proofs.lay.factor.Goals as goal

pub returns-then-i-eq0 : goal.returns-then-i-eq0
returns-then-i-eq0 c = factor-even _ _ _ c.if-i-eq0.true c.choose-over.type_inv c.choose-over.ensures

pub returns-else-i-eq0 : goal.returns-else-i-eq0
returns-else-i-eq0 c = factor-odd _ _ _ _ c.if-i-eq0.false c.choose-over.ensures refl
