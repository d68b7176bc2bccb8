-- With its share and its remainder, what is laid are the pixel's marks.
use Rattle.std.proofs.Common.{arith}
use Rattle.kernels_model.specs.declared.shape.Shape.TheVariants.{Box}
use Rattle.plate.proofs.Laws.Laying.Corners.{kernel_fits, pixel_reaches, pixel_laid}
use Rattle.plate.proofs.lay.Site.lay_pixel.Goals as goal

pub lay_taps-requires : goal.lay_taps-requires
lay_taps-requires c =
    let placed = c.args.self.placed in
    rw (c.corner-corner.ensures, c.reach.ensures)
    (kernel_fits _ _ _ placed _ _ (pixel_reaches _ _ _ _ placed _ _ c.requires) _ c.requires.planes_are)

pub lay_centre-requires : goal.lay_centre-requires
lay_centre-requires c =
    rw c.corner-middle.ensures
    (kernel_fits _ _ _ c.args.self.placed Box 0 (omega arith) _ (omega (arith, c.requires.planes_are)))

pub returns : goal.returns
returns c =
    rw (
      c.lay_centre.ensures,
      c.corner-middle.ensures,
      c.lay_taps.ensures,
      c.corner-corner.ensures,
      c.reach.ensures,
      c.times-centre.ensures,
      c.of-2.ensures,
      c.times-taps.ensures,
      c.of.ensures,
    )
    (pixel_laid _ _ _ _ c.args.self.placed _ _ c.requires _ _)
