-- So many cells of the row are written, and the others are left.
use Rattle.std.proofs.Common.{◌≡◌, ◌≤◌, length, drop}
use Rattle.std.specs.Iterator.Adapters.{zip_first, zip_second, enumerate_source, enumerate_count}
use Rattle.std.specs.Slice.Iter.{iter_rest}
use Rattle.records_model.specs.Text.{row_text}
use Rattle.records.specs.Written.{WritesIn}
use Rattle.records.specs.Room.{row_room}
use Rattle.records.proofs.text.Writer.row.Given as goal

abbrev pub invariant-loop-place : goal.invariant-loop-place
invariant-loop-place l =
    record {
      can_next : (goal.iterator-loop-place).can_next l.place-iterator;
      finite : (goal.iterator-loop-place).is_finite l.place-iterator;
      counted : enumerate_count l.place-iterator ≡ length l.yielded;
      within : length l.yielded ≤ length l.values;
      values_left : iter_rest (zip_first (enumerate_source l.place-iterator)) ≡ drop (length l.yielded) l.values;
      mattes_left : iter_rest (zip_second (enumerate_source l.place-iterator)) ≡ drop (length l.yielded) l.mattes;
      written : WritesIn (row_room (length l.yielded)) l.initial.self (row_text l.values l.mattes 0 (length l.yielded)) l.self;
    }
