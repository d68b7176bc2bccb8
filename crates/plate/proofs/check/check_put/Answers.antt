use Rattle.std.proofs.Common.{rules}
use Rattle.plate_model.specs.Refusal.{put_check}
use Rattle.plate.proofs.Laws.Checks.Chains.{plate_before}
use Rattle.plate.proofs.check.check_put.Goals as goal

pub returns-in_err-check_plate : goal.returns-in_err-check_plate
unfolding put_check
returns-in_err-check_plate c = rw (plate_before c.args.state c.args.lent _, ← c.check_plate.ensures, c.in_err-check_plate.was) (search rules)

pub returns : goal.returns
unfolding put_check
returns c = rw (plate_before c.args.state c.args.lent _, ← c.check_plate.ensures, c.in_ok-check_plate.was) c.check_ask.ensures
