use Rattle.std.proofs.Common.{sym, ◌∙◌}
use Rattle.plate_model.specs.Calls.{undo_by, undo_call}
use Rattle.plate_model.proofs.Changing.Changes.{undo_ready}
use Rattle.plate.proofs.lent.Lent.undo.Goals as goal

pub unlog_and_exchange-requires : goal.unlog_and_exchange-requires
unlog_and_exchange-requires c = undo_ready _ _ _ (sym c.read_undo.ensures ∙ c.in-Ok.is)

pub returns-in-Ok-clause-left : goal.returns-in-Ok-clause-left
unfolding undo_call
returns-in-Ok-clause-left c = rw (sym c.read_undo.ensures ∙ c.in-Ok.is) c.unlog_and_exchange.ensures.left

pub returns-in-Err-clause-left : goal.returns-in-Err-clause-left
unfolding undo_call undo_by
returns-in-Err-clause-left c = rw (c.refused.ensures, ← c.read_undo.ensures, c.in-Err.is)
