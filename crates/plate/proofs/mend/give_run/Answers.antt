-- The one run is light's, and the other lies as many cells on as there are places.
use Rattle.std.proofs.Common.{◌+◌, ◌-◌, ◌%◌, ◌^◌, ◌≡◌, arith, rules}
use Rattle.plate.proofs.Laws.Numbers.Parts.{part_mapped}
use Rattle.plate.proofs.Laws.Mending.Runs.{run_given}
use Rattle.plate.proofs.mend.give_run.Goals as goal

pub returns : goal.returns
returns c =
    let a = c.args in
    let count : c.len.result ≡ a.columns.end - a.columns.start = search rules in
    let light = part_mapped (λ n. (n + a.by.light) % 2 ^ 64) a.sums.now _ (a.start + a.columns.start) _ (omega arith) (omega arith) c.add_run.ensures in
    let matte = part_mapped (λ n. (n + a.by.matte) % 2 ^ 64) _ _ (a.places + (a.start + a.columns.start)) _ (omega arith) (omega (arith, light.same)) c.add_run-2.ensures in
    run_given a.places a.start a.columns a.by _ _ _ _ _ (omega arith) (omega arith) c.requires light matte
