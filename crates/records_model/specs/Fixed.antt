-- The record program's numbers of the paper, each named once. The code's names for them are in src/fixed.rt.
use Rattle.std.specs.Prelude.{ℕ, ◌*◌, ◌-◌}
use Rattle.plate_model.specs.Fixed.{planes_in_all, scratch_planes}

-- 16: "P above 512"
abbrev pub cells_top : ℕ
cells_top = 512

-- the cells of planes and scratch: "arrays of 7,168 and 1,536 cells"
abbrev pub planes_room : ℕ
planes_room = planes_in_all * cells_top

abbrev pub scratch_room : ℕ
scratch_room = scratch_planes * cells_top

-- "The log has 64 entries."
abbrev pub log_room : ℕ
log_room = 64

-- the bytes of a body: "1 open (W 2 bytes, H 2, R 1), 2 put (x 2, y 2, v 2, a 1, shape 1, r 1)"
abbrev pub open_body : ℕ
open_body = 5

abbrev pub put_body : ℕ
put_body = 9

abbrev pub longest_body : ℕ
longest_body = put_body

-- the bytes of a record's text: no record writes more
abbrev pub text_room : ℕ
text_room = 4096

-- the bytes that a call is lent for its text, and how many may stand there before the next byte: the text of any record still
-- fits then
abbrev pub buffer_room : ℕ
buffer_room = 65536

abbrev pub full_from : ℕ
full_from = buffer_room - text_room
