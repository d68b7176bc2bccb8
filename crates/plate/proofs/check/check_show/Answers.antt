use Rattle.std.proofs.Common.{sym, ◌∙◌, rules}
use Rattle.plate_model.specs.Refusal.{total_check, show_check, views_check}
use Rattle.plate_model.proofs.Checks.Passed.{sizes_passed}
use Rattle.plate.proofs.Laws.Checks.Chains.{total_before}
use Rattle.plate.proofs.check.check_show.Goals as goal

pub returns-in_err-check_total : goal.returns-in_err-check_total
unfolding show_check views_check
returns-in_err-check_total c = rw (total_before c.args.state.size c.args.planes c.args.scratch _, ← c.check_total.ensures, c.in_err-check_total.was) (search rules)

pub invariant_of-check_pictures : goal.invariant_of-check_pictures
unfolding total_check
invariant_of-check_pictures c = record { lawful = (sizes_passed _ _ (sym c.check_total.ensures ∙ c.in_ok-check_total.was)).0 }

pub returns : goal.returns
unfolding show_check views_check
returns c = rw (total_before c.args.state.size c.args.planes c.args.scratch _, ← c.check_total.ensures, c.in_ok-check_total.was) c.check_pictures.ensures
