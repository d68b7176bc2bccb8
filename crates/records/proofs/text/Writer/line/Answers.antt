use Rattle.std.proofs.Common.{◌∷◌, ◌++◌, append_assoc, arith}
use Rattle.records_model.specs.Text.{space, decimal, at_word, numbered}
use Rattle.records.proofs.Laws.Writing.Slices.{writes_two, room_after_in}
use Rattle.records.proofs.text.Writer.line.Goals as goal

pub labelled-requires-2 : goal.labelled-requires-2
labelled-requires-2 c = room_after_in _ c.labelled.ensures (omega arith)

pub byte-requires : goal.byte-requires
byte-requires c =
    room_after_in 1 c.labelled-2.ensures (room_after_in _ c.labelled.ensures (omega arith))

pub returns : goal.returns
unfolding numbered
returns c =
    rw (append_assoc (c.args.word.now ++ (space ∷ decimal c.args.n)) (space ∷ at_word) (space ∷ decimal c.args.k))
    (writes_two (writes_two c.labelled.ensures.wrote c.labelled-2.ensures.wrote) c.byte.ensures)
