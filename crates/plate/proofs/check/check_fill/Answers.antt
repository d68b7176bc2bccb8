use Rattle.std.proofs.Common.{sym, ◌∙◌, rules}
use Rattle.plate_model.specs.Refusal.{open_check}
use Rattle.plate.specs.Filling.{fill_lengths}
use Rattle.plate_model.proofs.Checks.Passed.{sizes_passed}
use Rattle.plate.proofs.Laws.Checks.Chains.{open_before, inputs_then}
use Rattle.plate.proofs.check.check_fill.Goals as goal

pub returns-in_err-check_open : goal.returns-in_err-check_open
unfolding fill_lengths
returns-in_err-check_open c = rw (open_before c.args.state.size c.args.lent _, ← c.check_open.ensures, c.in_err-check_open.was) (search rules)

pub invariant_of-check_inputs : goal.invariant_of-check_inputs
unfolding open_check
invariant_of-check_inputs c = record { lawful = (sizes_passed _ _ (sym c.check_open.ensures ∙ c.in_ok-check_open.was)).0 }

pub returns-in_err-check_inputs : goal.returns-in_err-check_inputs
unfolding fill_lengths
returns-in_err-check_inputs c = rw (open_before c.args.state.size c.args.lent _, ← c.check_open.ensures, c.in_ok-check_open.was, inputs_then c.args.state.size c.args.values c.args.opacities c.args.depths _, ← c.check_inputs.ensures, c.in_err-check_inputs.was) (search rules)

pub returns : goal.returns
unfolding fill_lengths
returns c = rw (open_before c.args.state.size c.args.lent _, ← c.check_open.ensures, c.in_ok-check_open.was, inputs_then c.args.state.size c.args.values c.args.opacities c.args.depths _, ← c.check_inputs.ensures, c.in_ok-check_inputs.was) c.check_count.ensures
