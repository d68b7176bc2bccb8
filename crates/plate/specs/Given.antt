-- What a fill at work is given for its pixels.
use Rattle.plate_model.specs.Lent.{Inputs, inputs}
use Rattle.plate.specs.declared.layer.Filling.{Filling}

abbrev pub given : Filling → Inputs
given f = inputs f.values.now f.opacities.now f.depths.now
