use Rattle.std.proofs.Common.{rules}
use Rattle.plate_model.specs.Refusal.{inputs_check}
use Rattle.plate.proofs.Laws.Checks.Chains.{length_then}
use Rattle.plate.proofs.check.check_inputs.Goals as goal

pub returns-in_err-check_length : goal.returns-in_err-check_length
unfolding inputs_check
returns-in_err-check_length c = rw (← c.places-places.ensures, length_then c.args.values _ _, ← c.check_length.ensures, c.in_err-check_length.was) (search rules)

pub returns-in_err-check_length-2 : goal.returns-in_err-check_length-2
unfolding inputs_check
returns-in_err-check_length-2 c = rw (← c.places-places.ensures, length_then c.args.values _ _, ← c.check_length.ensures, c.in_ok-check_length.was, length_then c.args.opacities _ _, ← c.check_length-2.ensures, c.in_err-check_length-2.was) (search rules)

pub returns : goal.returns
unfolding inputs_check
returns c = rw (← c.places-places.ensures, length_then c.args.values _ _, ← c.check_length.ensures, c.in_ok-check_length.was, length_then c.args.opacities _ _, ← c.check_length-2.ensures, c.in_ok-check_length-2.was) c.check_length-3.ensures
