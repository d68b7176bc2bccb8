-- Each of the two cells gets its sum.
use Rattle.std.proofs.Common.{refl, rules}
use Rattle.plate_model.specs.Marks.{lay_one}
use Rattle.plate.specs.Laying.{lay_amounts}
use Rattle.plate.proofs.Laws.Laying.Amounts.{laid_one}
use Rattle.plate.proofs.lay.Board.lay_mark.Goals as goal

pub returns : goal.returns
unfolding lay_amounts lay_one
returns c = λ v k e. laid_one _ _ v c.args.w k _ _ _ e refl refl (search rules)
