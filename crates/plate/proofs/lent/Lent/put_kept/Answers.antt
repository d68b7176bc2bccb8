use Rattle.std.proofs.Common.{sym, ◌∙◌, arith}
use Rattle.plate_model.specs.Calls.{put_by}
use Rattle.plate_model.specs.Kept.{kept_read, canvas_by, put_kept_by, put_kept_call}
use Rattle.plate_model.specs.Lent.{ask, canvas}
use Rattle.plate_model.proofs.Changing.Changes.{put_ready}
use Rattle.plate.specs.Lending.{lent_of}
use Rattle.plate.proofs.Laws.Mending.Rows.{mend_ready}
use Rattle.plate.proofs.lent.Lent.put_kept.Goals as goal

pub returns-in-Err-clause-left : goal.returns-in-Err-clause-left
unfolding put_kept_call put_kept_by kept_read canvas_by put_by
returns-in-Err-clause-left c = rw (c.refused.ensures, ← c.check_kept-checked.ensures, c.in-Err.is)

pub mend-requires : goal.mend-requires
mend-requires c = mend_ready _ _ _ (canvas c.args.sums.now c.args.values.now c.args.mattes.now) (put_ready c.args.state (ask c.args.x c.args.y c.args.value c.args.opacity c.args.shape c.args.radius) (lent_of c.args.self.now) (omega (arith, c.well_formed)) _ (rw (← c.asked-arguments.ensures) (sym c.read_put.ensures ∙ c.in-Ok.is))).changeable (sym c.check_kept-checked.ensures ∙ c.in_default.is)

pub log_and_exchange-requires : goal.log_and_exchange-requires
log_and_exchange-requires c = put_ready c.args.state (ask c.args.x c.args.y c.args.value c.args.opacity c.args.shape c.args.radius) (lent_of c.args.self.now) (omega (arith, c.well_formed)) _ (rw (← c.asked-arguments.ensures) (sym c.read_put.ensures ∙ c.in-Ok.is))

pub returns-in-Ok-clause-left : goal.returns-in-Ok-clause-left
unfolding put_kept_call put_kept_by kept_read canvas_by
returns-in-Ok-clause-left c =
    rw (sym c.check_kept-checked.ensures ∙ c.in_default.is, ← c.asked-arguments.ensures, sym c.read_put.ensures ∙ c.in-Ok.is)
    (λ j. record { call = c.log_and_exchange.ensures.left j; canvas = c.mend.ensures j })

pub returns-in-Err-read_put-clause-left : goal.returns-in-Err-read_put-clause-left
unfolding put_kept_call put_kept_by kept_read canvas_by put_by
returns-in-Err-read_put-clause-left c =
    rw (c.refused-in-Err-read_put.ensures, sym c.check_kept-checked.ensures ∙ c.in_default.is, ← c.asked-arguments.ensures, ← c.read_put.ensures, c.in-Err-read_put.is)
