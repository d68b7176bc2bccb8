use Rattle.std.proofs.Common.{refl, arith}
use Rattle.records.proofs.Laws.Writing.Slices.{written_word}
use Rattle.records.proofs.text.Writer.word.Goals as goal

pub returns : goal.returns
returns c =
    record {
      same_slice = refl;
      room = c.requires;
      slice_is = written_word c.args.self.now.out.now c.args.self.now.at _ c.args.word.now _ c.copy_from_slice.ensures.after (omega arith);
      at_is = refl;
    }
