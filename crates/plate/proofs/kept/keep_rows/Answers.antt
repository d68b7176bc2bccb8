use Rattle.std.proofs.Common.{◌≡◌, ◌+◌, ◌-◌, ◌*◌, ◌∙◌, arith}
use borrow.Rule.Slice.PartMut.{put_mid}
use Rattle.plate.specs.Passes.{sums_end, matte_after}
use Rattle.plate_model.proofs.Numbers.Extents.{row_in}
use Rattle.plate.proofs.Laws.Numbers.Parts.{part_copied}
use Rattle.plate.proofs.Laws.Showing.Image.{row_finished}
use Rattle.plate.proofs.Laws.Showing.Keeping.{row_kept, keeping_start, kept_next}
use Rattle.plate.proofs.kept.keep_rows.Goals as goal

pub loop-row-init : goal.loop-row-init
loop-row-init c = keeping_start _ _ _ _ _ c.requires.to

pub loop-row-preserved : goal.loop-row-preserved
loop-row-preserved c =
    let light = c.args.light in
    let image = c.args.image in
    let row = c.loop-row.row in
    let now = c.loop-row.invariant in
    let sums = c.sum_both.ensures in
    let first = row * image.width in
    let places = image.width * image.height in
    let place = row_in row image.width image.height c.loop-row-test.true in
    let light_from = sums_end light - image.width in
    let matte_from = sums_end (matte_after light) - image.width in
    let fits = c.requires.fits.sums_in in
    let one = part_copied c.sum_both.new.scratch c.loop-row.sums _ light_from (sums_end light) first (first + image.width) image.width
    (omega arith) (omega arith) (omega (arith, place, now.same, c.requires.sums_are)) (omega (arith, c.requires.columns_are))
    (omega (arith, sums.same, now.both.same, fits)) (c.keep_row.ensures ∙ c.row_of.ensures.light_is) in
    let mid = put_mid first (first + image.width - first) c.loop-row.sums c.keep_row.new.kept in
    let two = part_copied c.sum_both.new.scratch mid c.keep_row-in-loop-row.new.kept matte_from (sums_end (matte_after light)) (places + first)
    (places + (first + image.width)) image.width (omega arith) (omega arith)
    (omega (arith, place, one.same, now.same, c.requires.sums_are)) (omega (arith, c.requires.columns_are))
    (omega (arith, sums.same, now.both.same, fits)) (c.keep_row-in-loop-row.ensures ∙ c.row_of.ensures.matte_is) in
    let kept = row_kept c.sum_both.new.scratch c.loop-row.sums _ _ light_from matte_from first (places + first) image.width
    (omega (arith, place)) one two in
    let next : image.first + (row + 1) ≡ image.first + row + 1 = omega arith in
    record {
      same = kept.same ∙ now.same;
      both = record { same = sums.same ∙ now.both.same; to = rw next sums.to };
      done = kept_next _ _ _ _ _ _ row _ _ c.loop-row-test.true
          (row_finished _ _ _ _ row light_from matte_from c.requires.columns_are sums.to (omega (arith, c.requires.columns_are))
          (omega (arith, c.requires.columns_are)))
          now.done kept;
    }
