-- One pixel's marks after the other's, as `exchanged` says.
use Rattle.kernels_model.specs.Mark.{minus}
use Rattle.plate_model.specs.Marks.{exchanged}
use Rattle.plate.proofs.Laws.Laying.Corners.{scaled-one}
use Rattle.plate.proofs.exchange.exchange_marks.Goals as goal

pub returns : goal.returns
unfolding exchanged minus
returns c =
    rw (
      c.lay_pixel-2.ensures,
      c.lay_pixel.ensures,
      c.frame.ensures,
      c.requires.change.place_is,
      scaled-one,
    )
