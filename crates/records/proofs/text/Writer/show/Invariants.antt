-- The first line is written, and so many rows; the others are left.
use Rattle.std.proofs.Common.{◌≡◌, ◌+◌, ◌*◌, ◌++◌, ◌≤◌, length, take, drop}
use Rattle.std.specs.Slice.Iter.{chunks_exact_rest, chunks_exact_size}
use Rattle.records_model.specs.Text.{head_line, rows_text}
use Rattle.records.specs.Written.{WritesIn}
use Rattle.records.specs.Room.{line_room, rows_room}
use Rattle.records.proofs.text.Writer.show.Given as goal

abbrev pub invariant-loop-values : goal.invariant-loop-values
invariant-loop-values l =
    record {
      can_next : (goal.iterator-loop-values).can_next l.values-iterator;
      finite : (goal.iterator-loop-values).is_finite l.values-iterator;
      within : length l.yielded ≤ l.fn.size.height;
      by_rows : (chunks_exact_size l.values-iterator.a ≡ l.fn.size.width) × (chunks_exact_size l.values-iterator.b ≡ l.fn.size.width);
      values_left : chunks_exact_rest l.values-iterator.a ≡ drop (length l.yielded * l.fn.size.width) (take (l.fn.size.width * l.fn.size.height) l.fn.values);
      mattes_left : chunks_exact_rest l.values-iterator.b ≡ drop (length l.yielded * l.fn.size.width) (take (l.fn.size.width * l.fn.size.height) l.fn.mattes);
      written : WritesIn (line_room + rows_room l.fn.size.width (length l.yielded)) l.fn.self
          (head_line l.fn.size.width l.fn.size.height ++ rows_text l.fn.values l.fn.mattes l.fn.size.width (length l.yielded)) l.self;
    }
