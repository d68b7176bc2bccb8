-- A number below 10 is its digit; another has as many digits as its logarithm says, and one more.
use Rattle.std.proofs.Common.{◌≡◌, ◌+◌, ◌<◌, ◌^◌, length, refl, arith}
use Rattle.records_model.specs.Text.{decimal}
use Rattle.records.proofs.Laws.Writing.Decimals.{decimal-one, decimal_some, decimal_digits, decimal_is}
use Rattle.records.proofs.Laws.Writing.Slices.{written_there}
use Rattle.records.proofs.text.Writer.number.Goals as goal

pub byte-requires : goal.byte-requires
byte-requires c = omega (arith, decimal_some c.args.n, c.requires)

pub returns-then-n-lt10 : goal.returns-then-n-lt10
returns-then-n-lt10 c = rw (decimal-one c.args.n (omega arith)) c.byte.ensures

pub write_digits-requires : goal.write_digits-requires
write_digits-requires c =
    let n = c.args.n in
    let small : n < 2 ^ 64 = omega arith in
    let long = decimal_digits c.ilog10.result n c.ilog10.ensures.power_le c.ilog10.ensures.next_power_gt in
    rw (← decimal_is n small) (omega (arith, long), omega (arith, long, c.requires))

pub returns : goal.returns
returns c =
    let n = c.args.n in
    let small : n < 2 ^ 64 = omega arith in
    let long = decimal_digits c.ilog10.result n c.ilog10.ensures.power_le c.ilog10.ensures.next_power_gt in
    let start = rw (← decimal_is n small) at c.write_digits.ensures.start in
    let digits = rw (← decimal_is n small) at c.write_digits.ensures.written in
    let from : c.write_digits.result ≡ c.args.self.now.at = omega (arith, long, start) in
    let end : c.args.self.now.at + c.ilog10.result + 1 ≡ c.args.self.now.at + length (decimal n) = omega (arith, long) in
    record {
      same_slice = refl;
      room = c.requires;
      slice_is = written_there _ _ _ _ (rw from at c.write_digits.ensures.before) (rw (from, end) at digits);
      at_is = end;
    }
