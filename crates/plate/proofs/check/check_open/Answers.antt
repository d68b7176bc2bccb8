use Rattle.std.proofs.Common.{sym, ◌∙◌, Ok, rules}
use Rattle.plate_model.specs.Refusal.{open_check}
use Rattle.plate_model.proofs.Checks.Passed.{sizes_passed}
use Rattle.plate.proofs.Laws.Checks.Chains.{sizes_before}
use Rattle.plate.proofs.check.check_open.Goals as goal

pub returns-in_err-check_sizes : goal.returns-in_err-check_sizes
unfolding open_check
returns-in_err-check_sizes c =
    rw (sizes_before c.args.size (Ok tt) _, ← c.check_sizes.ensures, c.in_err-check_sizes.was) (search rules)

pub invariant_of-check_lent : goal.invariant_of-check_lent
invariant_of-check_lent c = record { lawful = (sizes_passed _ (Ok tt) (sym c.check_sizes.ensures ∙ c.in_ok-check_sizes.was)).0 }

pub returns : goal.returns
unfolding open_check
returns c =
    rw (sizes_before c.args.size (Ok tt) _, ← c.check_sizes.ensures, c.in_ok-check_sizes.was) c.check_lent.ensures
