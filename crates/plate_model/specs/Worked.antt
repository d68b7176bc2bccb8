-- Worked examples on one small plate, every number in them worked out by hand from the paper. Demand 3 compares a plate with a
-- notebook, and so does not see what both take from the same definitions: which place and which pixel a put or a fill asks for, a
-- pixel's word, an entry, a pixel's marks and where they lie. Here these stand as numbers.
use Rattle.std.specs.Prelude.{◌≡◌, List, [], ◌∷◌, map, ℕ, get_or}
use Rattle.std.proofs.Common.{lit<}
use Rattle.kernels_model.specs.declared.lens.Lens.{Lens}
use Rattle.plate_model.specs.Layout.{Size, size_from}
use Rattle.plate_model.specs.Word.{word_of}
use Rattle.plate_model.specs.Lent.{Lent, lent_lengths, lengths_of, Views, views}
use Rattle.kernels_model.specs.Listed.{zeros}
use Rattle.plate_model.specs.Calls.{open_call}
use Rattle.plate_model.specs.Plain.{grid_cell}
use Rattle.plate_model.specs.Notebook.{open_book, both, Report, plain, log_of}
use Rattle.plate_model.specs.Lists.{Byte, Call, put_it, undo_it, fill_it, show_it, left_by, plate_reports, plate_after}
use Rattle.plate_model.specs.Lists.{book_reports, book_after}

-- THE PLATE: W 4, H 3, R 2, and a log of 5 entries. A padded plane has (4 + 4 + 6) × (3 + 4 + 6) = 14 × 13 = 182 cells: planes of
-- 14 × 182 = 2,548 cells, 12 pixels, a scratch of 3 × 182 = 546.
abbrev pub four_by_three : Size
four_by_three = size_from 4 3 2

abbrev pub room_for_five : ℕ
room_for_five = 5

abbrev pub as_shown : Views
as_shown = views (zeros 546) (zeros 12) (zeros 12)

-- what a list of calls gives on this plate: its reports, the words and the log after it and the log count, on the notebook, and
-- on every plate of such buffers, whatever they hold
pub record Gives (calls : List Call) (reports : List Report) (words log : List ℕ) (count : ℕ) : Type 0 where
  pub book_reports_fact : book_reports (open_book four_by_three room_for_five) calls ≡ reports
  pub book_words : map word_of (book_after (open_book four_by_three room_for_five) calls).grid ≡ words
  pub book_log : log_of room_for_five (book_after (open_book four_by_three room_for_five) calls).pile ≡ log
  pub plate_reports_fact : (l : Lent) → lengths_of l ≡ lent_lengths 2548 12 5
      → plate_reports (left_by (open_call four_by_three l)) calls ≡ reports
  pub plate_words : (l : Lent) → lengths_of l ≡ lent_lengths 2548 12 5
      → (plate_after (left_by (open_call four_by_three l)) calls).buffers.pixels ≡ words
  pub plate_log : (l : Lent) → lengths_of l ≡ lent_lengths 2548 12 5
      → (plate_after (left_by (open_call four_by_three l)) calls).buffers.log ≡ log
  pub plate_count : (l : Lent) → lengths_of l ≡ lent_lengths 2548 12 5
      → (plate_after (left_by (open_call four_by_three l)) calls).state.count ≡ count

abbrev pub byte_0 : Byte
byte_0 = record { code = 0; small = lit< tt }

abbrev pub byte_1 : Byte
byte_1 = record { code = 1; small = lit< tt }

abbrev pub byte_2 : Byte
byte_2 = record { code = 2; small = lit< tt }

abbrev pub byte_10 : Byte
byte_10 = record { code = 10; small = lit< tt }

abbrev pub byte_40 : Byte
byte_40 = record { code = 40; small = lit< tt }

abbrev pub byte_50 : Byte
byte_50 = record { code = 50; small = lit< tt }

abbrev pub byte_100 : Byte
byte_100 = record { code = 100; small = lit< tt }

abbrev pub byte_200 : Byte
byte_200 = record { code = 200; small = lit< tt }

abbrev pub byte_255 : Byte
byte_255 = record { code = 255; small = lit< tt }

-- PUTS AND AN UNDO
abbrev pub puts : List Call
puts =
    -- a diamond of radius 2, value 1,000 and opacity 200 at x 3, y 1: place 1 × 4 + 3 = 7
    put_it 3 1 1000 byte_200 3 byte_2
    -- a tent of radius 1, value 300 and opacity 50 at x 1, y 2: place 2 × 4 + 1 = 9
    ∷ put_it 1 2 300 byte_50 1 byte_1
    -- y 3 is H
    ∷ put_it 1 3 300 byte_50 1 byte_1
    -- a hexagon of radius 1, value 77 and opacity 10 over the diamond
    ∷ put_it 3 1 77 byte_10 4 byte_1
    -- a box at x 0, y 2, and undone
    ∷ put_it 0 2 4095 byte_255 0 byte_0
    ∷ undo_it
    ∷ show_it as_shown
    ∷ []

-- Marks with the centre's four: a box 8, as the empty pixel is one, a tent 13, a diamond 12, a hexagon 16.
--
-- Pictures. The tent: A 81, share 8,388,608 / 81 = 103,563, rest 5, so that a cell whose taps across and down are m and n has
-- 50 × 103,563 m n, and the centre 50 × 5 more: of 8,388,608 that is 0.617 m n. Around x 1 the taps at x 0 to 3 are 2 3 2 1; y 2
-- is the last row, and at y 0 to 2 they are 1 2 3. The hexagon of radius 1: t 0, so A 3, "a slit", with the cells to its left and
-- right. Share 2,796,202, rest 2: it adds 10 × 2,796,202, that is 3.333, at x 2 and x 3 of y 1.
--   mattes   1.23 1.85 1.23 0.62    values at y 1: x 2, (2.469 × 300 + 3.333 × 77) / 5.802 = 171.9;
--            2.47 3.70 5.80 4.57                   x 3, (1.235 × 300 + 3.333 × 77) / 4.568 = 137.3; else the tent alone, 300
--            3.70 5.56 3.70 1.85
abbrev pub put_reports : List Report
put_reports =
    plain 0 20
    ∷ plain 0 21
    ∷ plain 4 0
    ∷ plain 0 28
    ∷ plain 0 16
    ∷ plain 0 16
    ∷ record {
      number = 0;
      marks = 0;
      pictures = both
          (300 ∷ 300 ∷ 300 ∷ 300
          ∷ 300 ∷ 300 ∷ 172 ∷ 137
          ∷ 300 ∷ 300 ∷ 300 ∷ 300 ∷ [])
          (1 ∷ 2 ∷ 1 ∷ 1
          ∷ 2 ∷ 4 ∷ 6 ∷ 5
          ∷ 4 ∷ 6 ∷ 4 ∷ 2 ∷ []);
    }
    ∷ []

-- value + 4,096 × opacity + 2^20 × shape + 2^24 × radius: the hexagon 77 + 40,960 + 4,194,304 + 16,777,216, the tent
-- 300 + 204,800 + 1,048,576 + 16,777,216
abbrev pub put_words : List ℕ
put_words = 0 ∷ 0 ∷ 0 ∷ 0 ∷ 0 ∷ 0 ∷ 0 ∷ 21012557 ∷ 0 ∷ 18030892 ∷ 0 ∷ 0 ∷ []

-- word + 2^32 × place: the empty pixel at 7 and at 9, and the diamond at 7, whose word is 1,000 + 819,200 + 3,145,728 +
-- 33,554,432
abbrev pub put_log : List ℕ
put_log = 30064771072 ∷ 38654705664 ∷ 30102291432 ∷ 0 ∷ 0 ∷ []

-- A FILL
-- r is 500 × |Z − 10| / (50 × Z × 9) to the nearest
abbrev pub lens : Lens
lens = record { opening = 1; focal = 1; focus = 10; pitch = 50 }

-- after a put, diamonds everywhere, all of opacity 0 but at place 2 (x 2, y 0) and at place 9 (x 1, y 2); and the log is empty
abbrev pub layer : List Call
layer =
    put_it 3 1 1000 byte_200 3 byte_2
    ∷ fill_it lens 3
    (10 ∷ 11 ∷ 900 ∷ 13 ∷ 14 ∷ 15 ∷ 16 ∷ 17 ∷ 18 ∷ 50 ∷ 20 ∷ 21 ∷ [])
    (byte_0 ∷ byte_0 ∷ byte_100 ∷ byte_0 ∷ byte_0 ∷ byte_0 ∷ byte_0 ∷ byte_0 ∷ byte_0 ∷ byte_40 ∷ byte_0 ∷ byte_0 ∷ [])
    (10 ∷ 10 ∷ 20 ∷ 10 ∷ 10 ∷ 0 ∷ 10 ∷ 10 ∷ 10 ∷ 3 ∷ 10 ∷ 10 ∷ [])
    ∷ undo_it
    ∷ show_it as_shown
    ∷ []

-- Radii: depth 10 is in focus, 0; depth 20 gives 5,000 / 9,000 = 0.56, so 1; depth 3 gives 3,500 / 1,350 = 2.6, so 3, and that is
-- held to 2, the top under R; depth 0, infinity, gives 500 / 450 = 1.1, so 1.
--
-- Pictures. At place 2 a diamond of radius 1, A 5, whose five cells have 100 / 5 = 20 each; at place 9 one of radius 2, A 13,
-- whose thirteen have 40 / 13 = 3.08 each; where both reach, (20 × 900 + 3.077 × 50) / 23.077 = 786.7.
abbrev pub layer_reports : List Report
layer_reports =
    plain 0 20
    ∷ plain 0 0
    ∷ plain 9 0
    ∷ record {
      number = 0;
      marks = 0;
      pictures = both
          (0 ∷ 787 ∷ 900 ∷ 900
          ∷ 50 ∷ 50 ∷ 787 ∷ 0
          ∷ 50 ∷ 50 ∷ 50 ∷ 50 ∷ [])
          (0 ∷ 23 ∷ 20 ∷ 20
          ∷ 3 ∷ 3 ∷ 23 ∷ 0
          ∷ 3 ∷ 3 ∷ 3 ∷ 3 ∷ []);
    }
    ∷ []

-- a diamond of radius and opacity 0 is its value + 3 × 2^20; place 5 has radius 1, place 2 is 900 + 409,600 + 3,145,728 +
-- 16,777,216, and place 9 is 50 + 163,840 + 3,145,728 + 33,554,432
abbrev pub layer_words : List ℕ
layer_words =
    3145738 ∷ 3145739 ∷ 20333444 ∷ 3145741
    ∷ 3145742 ∷ 19922959 ∷ 3145744 ∷ 3145745
    ∷ 3145746 ∷ 36864050 ∷ 3145748 ∷ 3145749
    ∷ []

abbrev pub layer_log : List ℕ
layer_log = 0 ∷ 0 ∷ 0 ∷ 0 ∷ 0 ∷ []

-- MARKS
-- a hexagon of radius 2, value 77 and opacity 10 at x 3, y 1: column 3 + 5 = 8 and row 1 + 5 = 6 of the padded planes
abbrev pub hexagon : List Call
hexagon = put_it 3 1 77 byte_10 4 byte_2 ∷ []

-- A cell is plane × 182 + row × 14 + column. The half-heights of the five columns are 0 2 2 2 0: t is 1, so a line has one column
-- of slope, two level ones, and two of the other slope. A 17, share 493,447, rest 9. A mark is worth 77 × 10 × 493,447 =
-- 379,954,190 in light and 4,934,470 in matte, and of the centre 77 × 10 × 9 = 6,930 and 90; minus is 2^64 less that.
abbrev pub hexagon_cells : List (ℕ × ℕ)
hexagon_cells =
    -- slope −2, plane 0. Top line, from column 6, row 6, closed at column 7, row 4
    (90, 379954190)
    ∷ (63, 18446744073329597426)
    -- lower line, from column 9, row 9, closed two columns on, four rows up
    ∷ (135, 18446744073329597426)
    ∷ (81, 379954190)
    -- slope 0, plane 2. Top line, columns 7 and 8 of row 4
    ∷ (427, 379954190)
    ∷ (429, 18446744073329597426)
    -- lower line, the same columns of row 9
    ∷ (497, 18446744073329597426)
    ∷ (499, 379954190)
    -- the centre's four: columns 8 and 9, rows 6 and 7
    ∷ (456, 6930)
    ∷ (457, 18446744073709544686)
    ∷ (470, 18446744073709544686)
    ∷ (471, 6930)
    -- slope 2, plane 4. Top line, from column 9, row 4, closed at column 11, row 8
    ∷ (793, 379954190)
    ∷ (851, 18446744073329597426)
    -- lower line, from column 6, row 7, closed at column 7, row 9
    ∷ (832, 18446744073329597426)
    ∷ (861, 379954190)
    -- and in matte, seven planes on
    ∷ (1364, 4934470)
    ∷ (1337, 18446744073704617146)
    ∷ (1730, 90)
    ∷ (1731, 18446744073709551526)
    ∷ (2067, 4934470)
    ∷ (2125, 18446744073704617146)
    -- no mark: column 4, row 9 of slope 2, and the hexagon's corner in slope −1 and the second box
    ∷ (858, 0)
    ∷ (272, 0)
    ∷ (1000, 0)
    ∷ []

-- each of these cells has what stands beside it: of the marks of the notebook's grid, and of the planes
pub record CellsGiven (calls : List Call) (cells : List (ℕ × ℕ)) : Type 0 where
  pub book_cells : (let grid = (book_after (open_book four_by_three room_for_five) calls).grid in
      map (λ (c : ℕ × ℕ). grid_cell four_by_three grid c.0) cells ≡ map (λ (c : ℕ × ℕ). c.1) cells)
  pub plate_cells : (l : Lent) → lengths_of l ≡ lent_lengths 2548 12 5 →
      let planes = (plate_after (left_by (open_call four_by_three l)) calls).buffers.planes in
      map (λ (c : ℕ × ℕ). get_or planes c.0 0) cells ≡ map (λ (c : ℕ × ℕ). c.1) cells

pub record Worked : Type 0 where
  pub of_puts : Gives puts put_reports put_words put_log 3
  pub of_layer : Gives layer layer_reports layer_words layer_log 0
  pub of_hexagon : CellsGiven hexagon hexagon_cells
