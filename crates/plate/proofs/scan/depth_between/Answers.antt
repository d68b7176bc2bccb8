-- The library's scan is the refusals', whose test is two comparisons.
use Rattle.std.proofs.Common.{◌≡◌, ◌&&◌, ltb, leb, ◌∙◌, rules, tests}
use Rattle.std.specs.List.{list_any}
use Rattle.std.proofs.lemmas.Iterator.{YieldsList-from_slice}
use Rattle.std.proofs.lemmas.Iterator.Search.{any_from_yields_List}
use Rattle.plate_model.specs.Refusal.{is_between}
use Rattle.plate.proofs.Laws.Checks.Scans.{any_is, between_test}
use Rattle.plate.proofs.scan.depth_between.Goals as goal

pub returns-clause-value : goal.returns-clause-value
returns-clause-value c =
    let a = c.args in
    let scan : c.any.result ≡ list_any (λ n. ltb a.above n && leb n a.most) a.depths.now = any_from_yields_List _ _ _ _ c.any.ensures.ran (YieldsList-from_slice c.args.depths.now cc) (λ x b q k. search (rules, tests)) in
    scan ∙ any_is _ (is_between a.above a.most) (between_test a.above a.most) a.depths.now
