use Rattle.std.proofs.Common.{sym, ◌∙◌, rules}
use Rattle.plate.proofs.Laws.Checks.Lengths.{fill_accepted}
use Rattle.plate.proofs.Laws.Filling.Filling.{layer_before, layer_past}
use Rattle.plate.proofs.layer.read_layer.Goals as goal

pub returns-in_err-check_fill : goal.returns-in_err-check_fill
returns-in_err-check_fill c =
    let lengths = sym c.check_fill.ensures ∙ c.in_err-check_fill.was in
    λ given e. rw (← layer_before _ _ _ _ _ _ (rw (← e) at lengths)) (search rules)

pub invariant_of-read_inputs : goal.invariant_of-read_inputs
invariant_of-read_inputs c =
    record { lawful = (fill_accepted _ _ _ _ _ (sym c.check_fill.ensures ∙ c.in_ok-check_fill.was)).lawful }

pub returns : goal.returns
returns c =
    let lengths = sym c.check_fill.ensures ∙ c.in_ok-check_fill.was in
    λ given e. c.read_inputs.ensures given ∙ layer_past _ _ _ _ _ (rw (← e) at lengths)
