use Rattle.kernels_model.proofs.Taps.ShapeNumbers.{shape_read_lem}
use Rattle.plate.proofs.put.asked.Goals as goal

pub returns : goal.returns
returns c = rw (c.ok.ensures.value, shape_read_lem _ _ c.try_from.ensures)
