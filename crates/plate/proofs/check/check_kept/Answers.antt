use Rattle.std.proofs.Common.{sym, ◌∙◌, rules}
use Rattle.plate_model.specs.Refusal.{kept_check, canvas_check}
use Rattle.plate_model.proofs.Checks.Passed.{sizes_passed}
use Rattle.plate.proofs.Laws.Checks.Chains.{sums_before}
use Rattle.plate.proofs.check.check_kept.Goals as goal

pub returns-in_err-check_sums : goal.returns-in_err-check_sums
unfolding kept_check canvas_check
returns-in_err-check_sums c = rw (sums_before c.args.size c.args.sums _, ← c.check_sums.ensures, c.in_err-check_sums.was) (search rules)

pub invariant_of-check_pictures : goal.invariant_of-check_pictures
invariant_of-check_pictures c = record { lawful = (sizes_passed _ _ (sym c.check_sums.ensures ∙ c.in_ok-check_sums.was)).0 }

pub returns : goal.returns
unfolding kept_check canvas_check
returns c = rw (sums_before c.args.size c.args.sums _, ← c.check_sums.ensures, c.in_ok-check_sums.was) c.check_pictures.ensures
