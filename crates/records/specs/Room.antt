-- The lengths that the code of a record's text counts on.
use Rattle.std.specs.Prelude.{◌≡◌, ℕ, ◌+◌, ◌*◌, ◌≤◌, ◌<◌, Option, MatchOption}
use Rattle.plate_model.specs.declared.size.Size.{Size}
use Rattle.plate_model.specs.Layout.{padded, places}
use Rattle.records_model.specs.Fixed.{cells_top}
use Rattle.records.specs.declared.request.LentCounts.{LentCounts}
use Rattle.records_model.specs.declared.effect.Reply.{Reply}
use Rattle.records_model.specs.declared.effect.Reply.TheVariants.{Nothing, StoppedBy, RefusedBy, Pictures}

-- the bytes of a number of at most 20 digits, with a space before it
abbrev pub number_room : ℕ
number_room = 21

-- those of a line but for its first word: two such numbers, and what stands between and after them
abbrev pub line_room : ℕ
line_room = 48

-- the bytes of a cell: a value of at most 5 digits, the slash, and a matte of at most 3
abbrev pub cell_room : ℕ
cell_room = 9

-- those of a row of w cells, with a space before each
abbrev pub row_room : ℕ → ℕ
row_room w = (cell_room + 1) * w

-- those of h such rows, with their line ends
abbrev pub rows_room : ℕ → ℕ → ℕ
rows_room w h = (row_room w + 1) * h

-- a show has rows that are not empty, and few enough cells for its text to fit
pub record PrintableSize (z : Size) : Type 0 where
  pub some : 0 < z.width
  pub few : padded z ≤ cells_top

abbrev pub Printable : Reply → Type 0
Printable Nothing = Unit {0}
Printable (StoppedBy s) = Unit {0}
Printable (RefusedBy n) = Unit {0}
Printable (Pictures z) = PrintableSize z

-- the cells and places of a plate, or none where its cells are more than there is room for
abbrev pub CountedFor : Size → Option LentCounts → Type 0
CountedFor z counts =
    MatchOption counts (cells_top < padded z)
    (λ n. (padded z ≤ cells_top) × (n.cells ≡ padded z) × (n.places ≡ places z))
