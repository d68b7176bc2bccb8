-- A lawful lens gives a lawful depth a radius up to the top; `lay_pixel` lays, and `pack` packs.
use Rattle.std.proofs.Common.{ap, ◌∙◌, arith}
use Rattle.kernels_model.proofs.Taps.Shares.{table_share_lem}
use Rattle.kernels_model.proofs.Lenses.ThinLens.{radius_read}
use Rattle.plate_model.specs.Word.{word_of}
use Rattle.plate_model.specs.Marks.{pixel_marks, lay_all}
use Rattle.plate.specs.Filling.{Lawful, place_in}
use Rattle.plate.specs.Given.{given}
use Rattle.plate.proofs.Laws.Laying.Corners.{scaled-one}
use Rattle.plate.proofs.Laws.Filling.Filling.{radius_is, pixel_at_lem}
use Rattle.plate.proofs.layer.Filling.fill_pixel.Goals as goal

pub returns-in_default : goal.returns-in_default
returns-in_default c =
    let h : Lawful c.args.self.now.layer (given c.args.self.now) = c.args.self.now.lawful in
    absurd (c.in_default.not-Ok _ (radius_read _ _ _ _ c.radius_from.ensures h.lens_lawful (h.depths_in _)))

pub lay_pixel-requires : goal.lay_pixel-requires
lay_pixel-requires c =
    let s = c.args.self.now in
    let h : Lawful s.layer (given s) = s.lawful in
    let radius = radius_is s.layer.lens s.layer.top _ _ _ h.lens_lawful (h.depths_in _) c.radius_from.ensures c.in-Ok.is in
    record {
      planes_are = rw h.framed c.requires.0;
      radius_fits = omega (arith, radius, h.top_is);
      share_is = c.share_in-share.ensures ∙ rw s.table_is (table_share_lem _ _);
    }

pub returns : goal.returns
returns c =
    let s = c.args.self.now in
    let h : Lawful s.layer (given s) = s.lawful in
    let radius = radius_is s.layer.lens s.layer.top _ _ _ h.lens_lawful (h.depths_in _) c.radius_from.ensures c.in-Ok.is in
    let pixel = pixel_at_lem s.layer (given s) (place_in s.layer c.args.x c.args.y) c.in-Ok.radius h.top_is radius in
    record {
      laid = c.lay_pixel.ensures ∙ ap (lay_all _ _) (scaled-one _ ∙ ap (pixel_marks _ _) pixel);
      word_is = c.pack.ensures ∙ ap word_of pixel;
    }
