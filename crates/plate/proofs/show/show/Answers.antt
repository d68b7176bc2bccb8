use Rattle.std.proofs.Common.{sym, ◌∙◌}
use Rattle.plate_model.specs.Calls.{show_by, show_call}
use Rattle.plate.proofs.Laws.Showing.Image.{show_ready}
use Rattle.plate.proofs.show.show.Goals as goal

pub returns-in-Err : goal.returns-in-Err
unfolding show_call show_by
returns-in-Err c = rw (c.refused.ensures, sym c.check_show-outcome.ensures ∙ c.in-Err.is)

pub show_all-requires : goal.show_all-requires
show_all-requires c = show_ready _ _ _ _ _ (sym c.check_show-outcome.ensures ∙ c.in_default.is)

pub returns : goal.returns
unfolding show_call
returns c = rw c.accepted.ensures (c.show_all.ensures ∙ rw (sym c.check_show-outcome.ensures ∙ c.in_default.is))
