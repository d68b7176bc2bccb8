use Rattle.std.proofs.Common.{sym, ◌∙◌, arith}
use Rattle.plate_model.specs.Calls.{put_by, put_call}
use Rattle.plate_model.proofs.Changing.Changes.{put_ready}
use Rattle.plate.proofs.lent.Lent.put_asked.Goals as goal

pub log_and_exchange-requires : goal.log_and_exchange-requires
log_and_exchange-requires c = put_ready _ _ _ (omega (arith, c.well_formed)) _ (sym c.read_put.ensures ∙ c.in-Ok.is)

pub returns-in-Ok-clause-left : goal.returns-in-Ok-clause-left
unfolding put_call
returns-in-Ok-clause-left c = rw (sym c.read_put.ensures ∙ c.in-Ok.is) c.log_and_exchange.ensures.left

pub returns-in-Err-clause-left : goal.returns-in-Err-clause-left
unfolding put_call put_by
returns-in-Err-clause-left c = rw (c.refused.ensures, ← c.read_put.ensures, c.in-Err.is)
