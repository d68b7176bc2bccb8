-- Each channel is whole, and the scratch is cleared at the end.
use Rattle.std.proofs.Common.{◌≡◌, ◌*◌, ap, ◌∙◌, arith, rules}
use Rattle.kernels_model.specs.Fixed.{planes_each}
use Rattle.plate_model.specs.Layout.{padded}
use Rattle.plate.specs.Frame.{Frame}
use Rattle.plate.proofs.Laws.Showing.Totals.{held_is, all_totalled}
use Rattle.plate.proofs.total.total_all.Goals as goal

pub returns : goal.returns
returns c =
    let frame = c.frame-frame.ensures in
    let matte_from : planes_each * c.frame-frame.result.padded ≡ planes_each * padded c.args.state.size =
    ap (λ (f : Frame). planes_each * f.padded) frame in
    rw c.accepted.ensures
    (all_totalled c.args.state _ _ c.add_up-matte.new.scratch _ _ _ (c.add_up-matte.ensures.same ∙ c.add_up-light.ensures.same)
    (search rules)
    (held_is _ _ _ _ planes_each _ _ _ frame matte_from c.add_up-matte.ensures)
    (held_is _ _ _ _ 0 _ _ _ frame (omega arith) c.add_up-light.ensures))
