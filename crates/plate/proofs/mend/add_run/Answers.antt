use Rattle.std.proofs.Common.{ℕ, get_or, arith}
use Rattle.std.proofs.lemmas.List.{get_or_default}
use Rattle.std.proofs.lemmas.List.Edits.{map_over_more}
use Rattle.plate.proofs.mend.add_run.Goals as goal

pub loop-sum-preserved : goal.loop-sum-preserved
loop-sum-preserved c =
    let l = c.loop-sum in
    let sum : ℕ = get_or l.sums l.sum-index 0 in
    map_over_more _ c.args.sums.now l.sums l.sum-index sum (omega arith) l.invariant
    (get_or_default l.sums l.sum-index 0 sum (omega arith))
