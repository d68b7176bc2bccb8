use Rattle.plate_model.specs.Calls.{changed, undo_by}
use Rattle.plate.proofs.lent.Lent.unlog_and_exchange.Goals as goal

pub returns-clause-left : goal.returns-clause-left
unfolding undo_by changed
returns-clause-left c =
    let h = c.exchange-marks.ensures in
    rw (c.accepted.ensures, h.marks_are, h.planes_are, h.pixels_are)
