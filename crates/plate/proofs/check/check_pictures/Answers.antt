use Rattle.std.proofs.Common.{rules}
use Rattle.plate.proofs.Laws.Checks.Chains.{length_then}
use Rattle.plate.proofs.check.check_pictures.Goals as goal

pub returns-in_err-check_length : goal.returns-in_err-check_length
returns-in_err-check_length c = rw (← c.places-places.ensures, length_then c.args.values _ _, ← c.check_length.ensures, c.in_err-check_length.was) (search rules)

pub returns : goal.returns
returns c = rw (← c.places-places.ensures, length_then c.args.values _ _, ← c.check_length.ensures, c.in_ok-check_length.was) c.check_length-2.ensures
