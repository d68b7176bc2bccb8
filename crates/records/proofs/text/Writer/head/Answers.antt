use Rattle.std.proofs.Common.{arith}
use Rattle.records_model.specs.Text.{head_line}
use Rattle.records.specs.Room.{number_room}
use Rattle.records.proofs.Laws.Writing.Slices.{whole_in, both_in, room_after_in}
use Rattle.records.proofs.text.Writer.head.Goals as goal

pub spaced-requires : goal.spaced-requires
spaced-requires c = room_after_in number_room c.labelled.ensures (omega arith)

pub byte-requires : goal.byte-requires
byte-requires c = room_after_in 1 c.spaced.ensures (room_after_in _ c.labelled.ensures (omega arith))

pub returns : goal.returns
unfolding head_line
returns c = both_in (both_in {k = 47} c.labelled.ensures c.spaced.ensures (omega arith)) (whole_in c.byte.ensures) (omega arith)
