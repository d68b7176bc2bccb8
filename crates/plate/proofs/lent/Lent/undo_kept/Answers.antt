use Rattle.std.proofs.Common.{sym, ◌∙◌}
use Rattle.plate_model.specs.Calls.{undo_by}
use Rattle.plate_model.specs.Kept.{kept_read, canvas_by, undo_kept_by, undo_kept_call}
use Rattle.plate_model.specs.Lent.{canvas}
use Rattle.plate_model.proofs.Changing.Changes.{undo_ready}
use Rattle.plate.specs.Lending.{lent_of}
use Rattle.plate.proofs.Laws.Mending.Rows.{mend_ready}
use Rattle.plate.proofs.lent.Lent.undo_kept.Goals as goal

pub returns-in-Err-clause-left : goal.returns-in-Err-clause-left
unfolding undo_kept_call undo_kept_by kept_read canvas_by undo_by
returns-in-Err-clause-left c = rw (c.refused.ensures, ← c.check_kept-checked.ensures, c.in-Err.is)

pub mend-requires : goal.mend-requires
mend-requires c = mend_ready _ _ _ (canvas c.args.sums.now c.args.values.now c.args.mattes.now) (undo_ready c.args.state (lent_of c.args.self.now) _ (sym c.read_undo.ensures ∙ c.in-Ok.is)).changeable (sym c.check_kept-checked.ensures ∙ c.in_default.is)

pub unlog_and_exchange-requires : goal.unlog_and_exchange-requires
unlog_and_exchange-requires c = undo_ready c.args.state (lent_of c.args.self.now) _ (sym c.read_undo.ensures ∙ c.in-Ok.is)

pub returns-in-Ok-clause-left : goal.returns-in-Ok-clause-left
unfolding undo_kept_call undo_kept_by kept_read canvas_by
returns-in-Ok-clause-left c =
    rw (sym c.check_kept-checked.ensures ∙ c.in_default.is, sym c.read_undo.ensures ∙ c.in-Ok.is)
    (λ j. record { call = c.unlog_and_exchange.ensures.left j; canvas = c.mend.ensures j })

pub returns-in-Err-read_undo-clause-left : goal.returns-in-Err-read_undo-clause-left
unfolding undo_kept_call undo_kept_by kept_read canvas_by undo_by
returns-in-Err-read_undo-clause-left c =
    rw (c.refused-in-Err-read_undo.ensures, sym c.check_kept-checked.ensures ∙ c.in_default.is, ← c.read_undo.ensures, c.in-Err-read_undo.is)
