use Rattle.std.proofs.Common.{sym, ◌∙◌}
use Rattle.plate_model.specs.Total.{total_by, total_call}
use Rattle.plate.proofs.Laws.Showing.Totals.{total_ready}
use Rattle.plate.proofs.total.total.Goals as goal

pub returns-in-Err : goal.returns-in-Err
unfolding total_call total_by
returns-in-Err c = rw (c.refused.ensures, sym c.check_total-outcome.ensures ∙ c.in-Err.is)

pub total_all-requires : goal.total_all-requires
total_all-requires c = total_ready _ _ _ (sym c.check_total-outcome.ensures ∙ c.in_default.is)

pub returns : goal.returns
unfolding total_call
returns c = (c.total_all.ensures ∙ rw (sym c.check_total-outcome.ensures ∙ c.in_default.is))
