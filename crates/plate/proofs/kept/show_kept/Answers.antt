use Rattle.std.proofs.Common.{sym, ◌∙◌}
use Rattle.plate_model.specs.Calls.{show_by}
use Rattle.plate_model.specs.Kept.{sums_by, show_kept_by, show_kept_call}
use Rattle.plate.proofs.Laws.Showing.Keeping.{show_kept_ready}
use Rattle.plate.proofs.kept.show_kept.Goals as goal

pub returns-in-Err : goal.returns-in-Err
unfolding show_kept_call show_kept_by show_by sums_by
returns-in-Err c = rw (c.refused.ensures, sym c.check_show_kept-outcome.ensures ∙ c.in-Err.is)

pub keep_all-requires : goal.keep_all-requires
keep_all-requires c = show_kept_ready _ _ _ _ _ _ (sym c.check_show_kept-outcome.ensures ∙ c.in_default.is)

pub returns : goal.returns
unfolding show_kept_call
returns c = rw c.accepted.ensures (c.keep_all.ensures ∙ rw (sym c.check_show_kept-outcome.ensures ∙ c.in_default.is))
