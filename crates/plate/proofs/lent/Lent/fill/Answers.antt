use Rattle.std.proofs.Common.{sym, refl, ◌∙◌}
use Rattle.plate_model.specs.Lent.{inputs}
use Rattle.plate.specs.Lending.{lent_of}
use Rattle.plate.proofs.Laws.Filling.Filling.{layer-refused, layer_ready, layer-filled}
use Rattle.plate.proofs.lent.Lent.fill.Goals as goal

pub refill-requires : goal.refill-requires
refill-requires c =
    layer_ready c.args.state c.args.lens c.args.shape (inputs c.args.values.now c.args.opacities.now c.args.depths.now) (lent_of c.args.self.now) c.in-Ok.layer
    (rw (← c.lengths-lengths.ensures) (sym c.in-Ok.is ∙ c.read_layer.ensures c.args.opacities.now refl))

pub returns-in-Ok-clause-left : goal.returns-in-Ok-clause-left
returns-in-Ok-clause-left c =
    rw c.refill.ensures.value
    (layer-filled _ _ _ _ (lent_of c.args.self.now) _ (rw (← c.lengths-lengths.ensures) (sym c.in-Ok.is ∙ c.read_layer.ensures c.args.opacities.now refl)) _ _ _ c.refill.ensures.refilled)

pub returns-in-Err-clause-left : goal.returns-in-Err-clause-left
returns-in-Err-clause-left c = rw c.refused.ensures (layer-refused _ _ _ _ (lent_of c.args.self.now) _ (rw (← c.lengths-lengths.ensures) (sym c.in-Err.is ∙ c.read_layer.ensures c.args.opacities.now refl)))
