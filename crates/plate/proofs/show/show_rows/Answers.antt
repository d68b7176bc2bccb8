use Rattle.std.proofs.Common.{◌≡◌, ◌+◌, ◌-◌, ◌*◌, ◌∙◌, arith}
use Rattle.plate.specs.Passes.{sums_end, matte_after}
use Rattle.plate_model.proofs.Numbers.Extents.{row_in}
use Rattle.plate.proofs.Laws.Showing.Image.{row_finished, row_shown, showing_start, shown-next}
use Rattle.plate.proofs.show.show_rows.Goals as goal

pub loop-row-init : goal.loop-row-init
loop-row-init c = showing_start _ _ _ _ _ _ c.requires.to

pub loop-row-preserved : goal.loop-row-preserved
loop-row-preserved c =
    let light = c.args.light in
    let image = c.args.image in
    let row = c.loop-row.row in
    let now = c.loop-row.invariant in
    let sums = c.sum_both.ensures in
    let place = row_in row image.width image.height c.loop-row-test.true in
    let light_from = sums_end light - image.width in
    let matte_from = sums_end (matte_after light) - image.width in
    let fits = c.requires.fits.sums_in in
    let shown = row_shown c.sum_both.new.scratch _ _ c.loop-row.values _ c.loop-row.mattes _ light_from (sums_end light) matte_from
    (sums_end (matte_after light)) (row * image.width) (row * image.width + image.width) image.width (omega arith) (omega arith)
    (omega (arith, place, now.same_values, c.requires.values_are)) (omega (arith, place, now.same_mattes, c.requires.mattes_are))
    c.row_of.ensures.light_is (omega (arith, c.requires.columns_are)) (omega (arith, sums.same, now.both.same, fits))
    c.row_of.ensures.matte_is (omega (arith, c.requires.columns_are)) (omega (arith, sums.same, now.both.same, fits))
    c.round_row.ensures in
    let next : image.first + (row + 1) ≡ image.first + row + 1 = omega arith in
    record {
      same_values = shown.in_values.same ∙ now.same_values;
      same_mattes = shown.in_mattes.same ∙ now.same_mattes;
      both = record { same = sums.same ∙ now.both.same; to = rw next sums.to };
      done = shown-next _ _ _ _ _ _ _ _ row light_from matte_from
          (row_finished _ _ _ _ row light_from matte_from c.requires.columns_are sums.to (omega (arith, c.requires.columns_are))
          (omega (arith, c.requires.columns_are)))
          now.done shown;
    }
