-- The value has at most 5 digits and the matte 3.
use Rattle.std.proofs.Common.{arith}
use Rattle.records.proofs.Laws.Writing.Decimals.{decimal_short}
use Rattle.records.proofs.Laws.Writing.Slices.{whole_in, both_in, room_after}
use Rattle.records.proofs.text.Writer.cell.Goals as goal

pub number-requires : goal.number-requires
number-requires c = omega (arith, decimal_short 4 c.from.result (omega (arith, c.from.ensures)), c.requires)

pub byte-requires : goal.byte-requires
byte-requires c = room_after 1 c.number.ensures (omega (arith, decimal_short 4 c.from.result (omega (arith, c.from.ensures)), c.requires))

pub number-requires-2 : goal.number-requires-2
number-requires-2 c =
    let value = decimal_short 4 c.from.result (omega (arith, c.from.ensures)) in
    let matte = decimal_short 2 c.from-2.result (omega (arith, c.from-2.ensures)) in
    room_after _ c.byte.ensures (room_after _ c.number.ensures (omega (arith, value, matte, c.requires)))

pub returns : goal.returns
returns c =
    let value = decimal_short 4 c.from.result (omega (arith, c.from.ensures)) in
    let matte = decimal_short 2 c.from-2.result (omega (arith, c.from-2.ensures)) in
    rw (← c.from.ensures, ← c.from-2.ensures)
    (both_in (whole_in c.number.ensures) (both_in {k = 4} (whole_in c.byte.ensures) (whole_in c.number-2.ensures) (omega (arith, matte)))
    (omega (arith, value)))
