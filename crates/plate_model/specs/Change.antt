-- What a put or an undo is to change, as it reads it before it touches anything: a place, the pixel that stands there and the one
-- that is to come; or the refusal.
use Rattle.std.specs.Prelude.{List, ℕ, ◌-◌, ◌/◌, ◌%◌, get_or, Option, Some, None, Result, Ok, Err}
use Rattle.plate_model.specs.Layout.{Size}
use Rattle.plate_model.specs.Lent.{State, Ask, LentLengths}
use Rattle.plate_model.specs.Word.{read_word, Entry, read_entry, Pixel}
use Rattle.plate_model.specs.Asked.{asked_place, asked_pixel}
use Rattle.plate_model.specs.Refusal.{StoredWord, Outcome, put_check, undo_check, Refusal}
pub use Rattle.plate_model.specs.declared.change.Change.{Change}

-- PUT
unfoldable pub put_over : Option Pixel → Size → Ask → Result Change Refusal
put_over None z a = Err StoredWord
put_over (Some old) z a =
    Ok (record { place = asked_place z a; x = a.x; y = a.y; old = old; new = asked_pixel a })

-- "For 10, put reads the word at its place"
unfoldable pub put_read_by : Outcome → Size → Ask → List ℕ → Result Change Refusal
put_read_by (Err f) z a pixels = Err f
put_read_by (Ok tt) z a pixels = put_over (read_word z.reach (get_or pixels (asked_place z a) 0)) z a

-- by the lengths of what is lent, and the pixels
unfoldable pub put_read : State → Ask → LentLengths → List ℕ → Result Change Refusal
put_read s a n pixels = put_read_by (put_check s a n) s.size a pixels

-- UNDO
-- the logged pixel is to come back to its place
unfoldable pub undo_over : Size → Entry → Option Pixel → Result Change Refusal
undo_over z e None = Err StoredWord
undo_over z e (Some now) =
    Ok
    (record { place = e.place; x = e.place % z.width; y = e.place / z.width; old = now; new = e.pixel })

-- "For 10, .. undo the last entry and the word at that entry's place"
unfoldable pub undo_entry : Option Entry → Size → List ℕ → Result Change Refusal
undo_entry None z pixels = Err StoredWord
undo_entry (Some e) z pixels = undo_over z e (read_word z.reach (get_or pixels e.place 0))

unfoldable pub undo_read_by : Outcome → State → List ℕ → List ℕ → Result Change Refusal
undo_read_by (Err f) s pixels log = Err f
undo_read_by (Ok tt) s pixels log = undo_entry (read_entry s.size (get_or log (s.count - 1) 0)) s.size pixels

-- by the lengths of what is lent, the pixels and the log
unfoldable pub undo_read : State → LentLengths → List ℕ → List ℕ → Result Change Refusal
undo_read s n pixels log = undo_read_by (undo_check s n) s pixels log
