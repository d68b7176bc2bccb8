use Rattle.std.proofs.Common.{refl, arith}
use Rattle.records.proofs.Laws.Writing.Slices.{written_byte}
use Rattle.records.proofs.text.Writer.byte.Goals as goal

pub returns : goal.returns
returns c =
    record { same_slice = refl; room = omega arith; slice_is = written_byte _ _ _ (omega arith); at_is = refl }
