use Rattle.std.proofs.Common.{sym, ◌∙◌, rules}
use Rattle.plate_model.specs.Refusal.{total_check}
use Rattle.plate_model.proofs.Checks.Passed.{sizes_passed}
use Rattle.plate.proofs.Laws.Checks.Chains.{sizes_then, length_then}
use Rattle.plate.proofs.Laws.Checks.Frames.{padded_in}
use Rattle.plate.proofs.check.check_total.Goals as goal

pub returns-in_err-check_sizes : goal.returns-in_err-check_sizes
unfolding total_check
returns-in_err-check_sizes c = rw (sizes_then c.args.size _, ← c.check_sizes.ensures, c.in_err-check_sizes.was) (search rules)

pub invariant_of-frame : goal.invariant_of-frame
invariant_of-frame c = record { lawful = (sizes_passed _ _ (sym c.check_sizes.ensures ∙ c.in_ok-check_sizes.was)).0 }

pub returns-in_err-check_length : goal.returns-in_err-check_length
unfolding total_check
returns-in_err-check_length c = rw (sizes_then c.args.size _, ← c.check_sizes.ensures, c.in_ok-check_sizes.was, ← padded_in _ _ c.frame-frame.ensures, length_then c.args.planes _ _, ← c.check_length.ensures, c.in_err-check_length.was) (search rules)

pub returns : goal.returns
unfolding total_check
returns c = rw (sizes_then c.args.size _, ← c.check_sizes.ensures, c.in_ok-check_sizes.was, ← padded_in _ _ c.frame-frame.ensures, length_then c.args.planes _ _, ← c.check_length.ensures, c.in_ok-check_length.was) c.check_length-2.ensures
