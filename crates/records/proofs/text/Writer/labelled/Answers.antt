use Rattle.std.proofs.Common.{arith}
use Rattle.records.specs.Room.{number_room}
use Rattle.records.proofs.Laws.Writing.Slices.{whole_in, both_in, room_after}
use Rattle.records.proofs.text.Writer.labelled.Goals as goal

pub spaced-requires : goal.spaced-requires
spaced-requires c = room_after number_room c.word.ensures (omega arith)

pub returns : goal.returns
returns c = both_in (whole_in c.word.ensures) c.spaced.ensures (omega arith)
