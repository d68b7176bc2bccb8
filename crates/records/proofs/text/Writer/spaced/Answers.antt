use Rattle.std.proofs.Common.{arith}
use Rattle.records.proofs.Laws.Writing.Decimals.{decimal_long}
use Rattle.records.proofs.Laws.Writing.Slices.{whole_in, both_in, room_after}
use Rattle.records.proofs.text.Writer.spaced.Goals as goal

pub number-requires : goal.number-requires
number-requires c = room_after _ c.byte.ensures (omega (arith, decimal_long c.args.n (omega arith)))

pub returns : goal.returns
returns c =
    both_in (whole_in c.byte.ensures) (whole_in c.number.ensures) (omega (arith, decimal_long c.args.n (omega arith)))
