use Rattle.std.proofs.Common.{◌≡◌, ◌+◌, ◌%◌, ◌^◌, map, ◌++◌, take, drop}
use Rattle.plate.proofs.mend.add_run.Given as goal

abbrev pub invariant-loop-sum : goal.invariant-loop-sum
invariant-loop-sum l =
    l.sums ≡ map (λ sum. (sum + l.by) % 2 ^ 64) (take l.sum-index l.fn.sums) ++ drop l.sum-index l.fn.sums
