use Rattle.std.proofs.Common.{sym, ◌∙◌, rules}
use Rattle.plate_model.proofs.Checks.Passed.{sizes_passed}
use Rattle.plate.proofs.Laws.Checks.Chains.{sizes_then}
use Rattle.plate.proofs.check.check_sums.Goals as goal

pub returns-in_err-check_sizes : goal.returns-in_err-check_sizes
returns-in_err-check_sizes c = rw (sizes_then c.args.size _, ← c.check_sizes.ensures, c.in_err-check_sizes.was) (search rules)

pub invariant_of-places : goal.invariant_of-places
invariant_of-places c = record { lawful = (sizes_passed _ _ (sym c.check_sizes.ensures ∙ c.in_ok-check_sizes.was)).0 }

pub returns : goal.returns
returns c = rw (sizes_then c.args.size _, ← c.check_sizes.ensures, c.in_ok-check_sizes.was, ← c.places.ensures) c.check_length.ensures
