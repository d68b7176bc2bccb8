use Rattle.std.proofs.Common.{rules}
use Rattle.plate_model.specs.Refusal.{lent_check, refuse_if}
use Rattle.plate_model.proofs.Checks.Conditions.{tests}
use Rattle.plate.proofs.Laws.Checks.Chains.{length_then}
use Rattle.plate.proofs.Laws.Checks.Frames.{padded_in, places_in}
use Rattle.plate.proofs.check.check_lent.Goals as goal

pub returns-in_err-check_length : goal.returns-in_err-check_length
unfolding lent_check
returns-in_err-check_length c = rw (← padded_in _ _ c.frame-frame.ensures, length_then c.args.lent.planes _ _, ← c.check_length.ensures, c.in_err-check_length.was) (search rules)

pub returns-in_err-check_length-2 : goal.returns-in_err-check_length-2
unfolding lent_check
returns-in_err-check_length-2 c = rw (← padded_in _ _ c.frame-frame.ensures, ← places_in _ _ c.frame-frame.ensures, length_then c.args.lent.planes _ _, ← c.check_length.ensures, c.in_ok-check_length.was, length_then c.args.lent.pixels _ _, ← c.check_length-2.ensures, c.in_err-check_length-2.was) (search rules)

pub returns-then-lent-gt-LOG_TOP : goal.returns-then-lent-gt-LOG_TOP
unfolding lent_check refuse_if
returns-then-lent-gt-LOG_TOP c = rw (← padded_in _ _ c.frame-frame.ensures, ← places_in _ _ c.frame-frame.ensures, length_then c.args.lent.planes _ _, ← c.check_length.ensures, c.in_ok-check_length.was, length_then c.args.lent.pixels _ _, ← c.check_length-2.ensures, c.in_ok-check_length-2.was) (search tests)

pub returns : goal.returns
unfolding lent_check refuse_if
returns c = rw (← padded_in _ _ c.frame-frame.ensures, ← places_in _ _ c.frame-frame.ensures, length_then c.args.lent.planes _ _, ← c.check_length.ensures, c.in_ok-check_length.was, length_then c.args.lent.pixels _ _, ← c.check_length-2.ensures, c.in_ok-check_length-2.was) (search tests)
