use Rattle.std.proofs.Common.{rules}
use Rattle.plate_model.specs.Refusal.{show_kept_check}
use Rattle.plate.proofs.Laws.Checks.Chains.{sums_before}
use Rattle.plate.proofs.check.check_show_kept.Goals as goal

pub returns-in_err-check_sums : goal.returns-in_err-check_sums
unfolding show_kept_check
returns-in_err-check_sums c = rw (sums_before c.args.state.size c.args.sums _, ← c.check_sums.ensures, c.in_err-check_sums.was) (search rules)

pub returns : goal.returns
unfolding show_kept_check
returns c = rw (sums_before c.args.state.size c.args.sums _, ← c.check_sums.ensures, c.in_ok-check_sums.was) c.check_show.ensures
