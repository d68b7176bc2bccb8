use Rattle.std.proofs.Common.{◌≡◌, arith}
use Rattle.plate.proofs.show.sum_above.Goals as goal

pub returns : goal.returns
returns c =
    let last : c.loop-row.row ≡ c.args.rows = omega arith in
    rw last at c.loop-row.invariant
