-- After each byte the machine, the buffers and the text are those of the bytes so far, and the same arrays are lent.
use Rattle.std.proofs.Common.{◌≡◌}
use Rattle.records.specs.Lending.{buffers_of, SameArrays}
use Rattle.records.proofs.Laws.Calls.Reached.{Reached}
use Rattle.records.proofs.advance.advance_lent.Given as goal

abbrev pub invariant-loop-consumed : goal.invariant-loop-consumed
invariant-loop-consumed l =
    record {
      same_slice : l.text.out.ghost_name ≡ l.initial.text.out.ghost_name;
      same_arrays : SameArrays l.fn.buffers l.buffers;
      reached : Reached l.fn.m (buffers_of l.fn.buffers) l.input l.initial.text l.machine (buffers_of l.buffers) l.text
          l.consumed;
    }
