use Rattle.std.proofs.Common.{rules}
use Rattle.plate_model.specs.Refusal.{plate_check}
use Rattle.plate.proofs.Laws.Checks.Chains.{open_before}
use Rattle.plate.proofs.check.check_plate.Goals as goal

pub returns-in_err-check_open : goal.returns-in_err-check_open
unfolding plate_check
returns-in_err-check_open c = rw (open_before c.args.state.size c.args.lent _, ← c.check_open.ensures, c.in_err-check_open.was) (search rules)

pub returns : goal.returns
unfolding plate_check
returns c = rw (open_before c.args.state.size c.args.lent _, ← c.check_open.ensures, c.in_ok-check_open.was) c.check_count.ensures
