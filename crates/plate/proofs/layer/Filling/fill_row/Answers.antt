-- An iteration lays and stores the pixel at its place, which is the next one; after the last iteration the row is done.
use Rattle.std.proofs.Common.{◌≡◌, ◌+◌, ◌*◌, arith}
use Rattle.plate_model.proofs.Numbers.Extents.{place_within}
use Rattle.plate.specs.Filling.{layer_size, FilledRow}
use Rattle.plate.proofs.Laws.Filling.Filling.{filled_more}
use Rattle.plate.proofs.layer.Filling.fill_row.Goals as goal

pub loop-x-preserved : goal.loop-x-preserved
loop-x-preserved c =
    let z = layer_size c.args.self.now.layer in
    let inside = place_within c.loop-x.x c.args.y z.width z.height c.loop-x-test.true c.requires.2 in
    λ cells done. filled_more _ _ cells _ c.loop-x.pixels _ (c.args.y * z.width + c.loop-x.x) _ _
    (omega (arith, inside, c.requires.1))
    (omega arith)
    c.fill_pixel.ensures.laid
    c.fill_pixel.ensures.word_is
    (c.loop-x.invariant cells done)

pub returns : goal.returns
unfolding FilledRow
returns c =
    let w = (layer_size c.args.self.now.layer).width in
    let end : (c.args.y + 1) * w ≡ c.args.y * w + c.loop-x.x = omega arith in
    λ cells done. rw end (c.loop-x.invariant cells done)
