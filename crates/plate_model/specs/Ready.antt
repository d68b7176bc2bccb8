-- What a put or an undo may count on once it has read its change.
use Rattle.std.specs.Prelude.{◌≡◌, ℕ, ◌+◌, ◌*◌, ◌-◌, ◌^◌, ◌≤◌, ◌<◌, get_or, length, Ok}
use Rattle.plate_model.specs.Fixed.{planes_in_all, word_bits}
use Rattle.plate_model.specs.Layout.{Size, padded}
use Rattle.plate_model.specs.Lent.{State, Ask, Lent, lengths_of}
use Rattle.plate_model.specs.Word.{Fits}
use Rattle.plate_model.specs.Change.{Change, put_read, undo_read}
use Rattle.plate_model.specs.Table.{LawfulSize}

-- a change of a lawful plate: a place of it, and two of its pixels
pub record LawfulChange (z : Size) (c : Change) : Type 0 where
  pub lawful : LawfulSize z
  pub place_is : c.place ≡ c.y * z.width + c.x
  pub column_in : c.x < z.width
  pub row_in : c.y < z.height
  pub old_fits : Fits z.reach c.old
  pub new_fits : Fits z.reach c.new

-- and its planes have n cells in all
pub record Changeable (z : Size) (c : Change) (n : ℕ) : Type 0 where
  pub change : LawfulChange z c
  pub planes_are : n ≡ planes_in_all * padded z

-- PUT
-- the place has a word, which an entry can keep, and the log has room for one
pub record PutReady (s : State) (c : Change) (l : Lent) : Type 0 where
  pub changeable : Changeable s.size c (length l.planes)
  pub place_in : c.place < length l.pixels
  pub place_small : c.place < 2 ^ word_bits
  pub word_small : get_or l.pixels c.place 0 < 2 ^ word_bits
  pub has_room : s.count < length l.log

-- so it is of every change that a put reads. "Opacity .. come as bytes."
abbrev pub PutReads : Type 0
PutReads =
    (s : State) (a : Ask) (l : Lent) → a.opacity < 256 → (c : Change)
    → put_read s a (lengths_of l) l.pixels ≡ Ok c → PutReady s c l

-- UNDO
-- the place has a word, and the log an entry
pub record UndoReady (s : State) (c : Change) (l : Lent) : Type 0 where
  pub changeable : Changeable s.size c (length l.planes)
  pub place_in : c.place < length l.pixels
  pub count_some : 1 ≤ s.count
  pub last_in : s.count - 1 < length l.log

-- so it is of every change that an undo reads
abbrev pub UndoReads : Type 0
UndoReads =
    (s : State) (l : Lent) (c : Change) → undo_read s (lengths_of l) l.pixels l.log ≡ Ok c → UndoReady s c l
