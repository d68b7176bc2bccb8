use Rattle.kernels_model.proofs.Taps.ShapeNumbers.{shape_read_lem}
use Rattle.records.proofs.record.put_record.Goals as goal

pub returns-in_default : goal.returns-in_default
returns-in_default c =
    rw (c.size-x.ensures, c.size-y.ensures, c.pair-value.ensures, ← shape_read_lem _ _ c.try_from.ensures, c.in_default.is)

pub returns : goal.returns
returns c =
    rw (c.size-x.ensures, c.size-y.ensures, c.pair-value.ensures, ← shape_read_lem _ _ c.try_from.ensures, c.in-Ok.is)
