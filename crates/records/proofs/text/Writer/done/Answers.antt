use Rattle.std.proofs.Common.{arith}
use Rattle.records_model.specs.Text.{done_line}
use Rattle.records.proofs.Laws.Writing.Slices.{writes_two, room_after_in}
use Rattle.records.proofs.text.Writer.done.Goals as goal

pub byte-requires : goal.byte-requires
byte-requires c = room_after_in 1 c.labelled.ensures (omega arith)

pub returns : goal.returns
unfolding done_line
returns c = writes_two c.labelled.ensures.wrote c.byte.ensures
