-- The library's scan is the refusals'.
use Rattle.std.proofs.Common.{◌≡◌, ltb, refl, ◌∙◌, rules, tests}
use Rattle.std.specs.List.{list_any}
use Rattle.std.proofs.lemmas.Iterator.{YieldsList-from_slice}
use Rattle.std.proofs.lemmas.Iterator.Search.{any_from_yields_List}
use Rattle.kernels_model.specs.Fixed.{value_top}
use Rattle.plate.proofs.Laws.Checks.Scans.{any_is}
use Rattle.plate.proofs.scan.value_above.Goals as goal

pub returns : goal.returns
returns c =
    let scan : c.any.result ≡ list_any (ltb value_top) c.args.values.now = any_from_yields_List _ _ _ _ c.any.ensures.ran (YieldsList-from_slice c.args.values.now cc) (λ x b q k. search (rules, tests)) in
    scan ∙ any_is _ (ltb value_top) (λ n. refl) c.args.values.now
