use Rattle.std.proofs.Common.{rules}
use Rattle.plate_model.specs.Refusal.{undo_check, refuse_if}
use Rattle.plate_model.proofs.Checks.Conditions.{tests}
use Rattle.plate.proofs.Laws.Checks.Chains.{plate_before}
use Rattle.plate.proofs.check.check_undo.Goals as goal

pub returns-in_err-check_plate : goal.returns-in_err-check_plate
unfolding undo_check
returns-in_err-check_plate c = rw (plate_before c.args.state c.args.lent _, ← c.check_plate.ensures, c.in_err-check_plate.was) (search rules)

pub returns-then-state-eq0 : goal.returns-then-state-eq0
unfolding undo_check refuse_if
returns-then-state-eq0 c = rw (plate_before c.args.state c.args.lent _, ← c.check_plate.ensures, c.in_ok-check_plate.was) (search tests)

pub returns : goal.returns
unfolding undo_check refuse_if
returns c = rw (plate_before c.args.state c.args.lent _, ← c.check_plate.ensures, c.in_ok-check_plate.was) (search tests)
