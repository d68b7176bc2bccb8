-- The paper's numbers that stand in more than one place, each named once. The code's names for them are in src/fixed.rt.
use Rattle.std.specs.Prelude.{ℕ, ◌*◌}

-- "each kernel's shares sum to 8,388,608 exactly": what a kernel's shares and its remainder are parts of
abbrev pub unit : ℕ
unit = 8388608

-- "four more marks in slope 0": those of a kernel's centre
abbrev pub centre_count : ℕ
centre_count = 4

-- "matte / 8,388,608": what a shown matte is counted in
abbrev pub matte_unit : ℕ
matte_unit = 8388608

-- the radii of a shape in the table of shares, 0 to 64
abbrev pub radii : ℕ
radii = 65

-- the shapes of the table, and its rows: "one table of 390 entries"
abbrev pub shape_count : ℕ
shape_count = 6

abbrev pub table_rows : ℕ
table_rows = shape_count * radii

-- its columns, the share and "the remainder as a second column", and all its numbers
abbrev pub table_columns : ℕ
table_columns = 2

abbrev pub table_numbers : ℕ
table_numbers = table_columns * table_rows

-- the planes of a picture: "slopes −2, −1, 0, 1, 2, second box, third box"
abbrev pub planes_each : ℕ
planes_each = 7

-- the places of three of them in that order
abbrev pub level : ℕ
level = 2

abbrev pub second_box : ℕ
second_box = 5

abbrev pub third_box : ℕ
third_box = 6

-- "the image starting at column and row R + 3": how much further than a kernel reaches its marks may lie
abbrev pub margin : ℕ
margin = 3

-- "value v 0 to 4,095, opacity a 0 to 255", and a shown matte "at most 255"
abbrev pub value_top : ℕ
value_top = 4095

abbrev pub opacity_top : ℕ
opacity_top = 255

abbrev pub matte_top : ℕ
matte_top = 255

-- "depth Z (0 to 10,000,000)"
abbrev pub depth_top : ℕ
depth_top = 10000000

-- "An accepted call returns number 0": and the numbers of the refusals that a kernel's answer can have, "6 shape above 5",
-- "11 D, f, S or p outside", "12 a depth above 10,000,000"
abbrev pub accepted : ℕ
accepted = 0

abbrev pub shape_refused : ℕ
shape_refused = 6

abbrev pub lens_refused : ℕ
lens_refused = 11

abbrev pub depth_refused : ℕ
depth_refused = 12
