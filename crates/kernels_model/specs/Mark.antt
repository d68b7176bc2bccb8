-- The marks of a kernel.
use Rattle.std.specs.Prelude.{List, [], ◌∷◌, ◌++◌, ℕ, zero, suc, ◌+◌, ◌*◌, ◌-◌, ◌^◌}
use Rattle.kernels_model.specs.Fixed.{level, second_box, third_box}
use Rattle.kernels_model.specs.Choice.{same}
use Rattle.kernels_model.specs.Sum.{Planes}
use Rattle.kernels_model.specs.Shape.{Shape, Box, Tent, Triple, Diamond, Hexagon, Octagon}
use Rattle.kernels_model.specs.Tap.{half, share, rest}

-- a mark: in one of a picture's planes, at a column and a row, with a coefficient, which is a natural number
pub record Mark : Type 0 where
  pub plane : ℕ
  pub column : ℕ
  pub row : ℕ
  pub coefficient : ℕ

abbrev pub mark : ℕ → ℕ → ℕ → ℕ → Mark
mark p x y c = record { plane = p; column = x; row = y; coefficient = c }

-- minus w is the natural number that wraps to −w: w and minus w add up to 2^64 times w
unfoldable pub minus : ℕ → ℕ
minus w = (2 ^ 64 - 1) * w

-- BOXES
-- (−1)^i
unfoldable pub sign : ℕ → ℕ
sign zero = 1
sign (suc zero) = minus 1
sign (suc (suc i)) = sign i

-- n over i
unfoldable pub choose : ℕ → ℕ → ℕ
choose n zero = 1
choose zero (suc i) = 0
choose (suc n) (suc i) = choose n i + choose n (suc i)

-- the marks f 0, .., f (n - 1), one after the other
unfoldable pub marks_to : (ℕ → List Mark) → ℕ → List Mark
marks_to f zero = []
marks_to f (suc n) = marks_to f n ++ f n

-- n boxes of l cells in plane p, the first mark at (x, y): along each axis marks i l further on, "i from 0 to n, with factor
-- (−1)^i times n over i", and their product over both axes
unfoldable pub box_grid : ℕ → ℕ → ℕ → ℕ → ℕ → List Mark
box_grid p n l x y =
    marks_to
    (λ i. marks_to (λ j. mark p (x + i * l) (y + j * l) (sign (i + j) * (choose n i * choose n j)) ∷ []) (suc n))
    (suc n)

-- "Boxes: along each axis marks at −n r + i(2r + 1)"
unfoldable pub box_marks : ℕ → ℕ → ℕ → ℕ → ℕ → List Mark
box_marks p n r X Y = box_grid p n (2 * r + 1) (X - n * r) (Y - n * r)

-- LINES
-- the columns of a piece, and its slope: d rows down less u rows up for each column
pub record Run : Type 0 where
  pub downs : ℕ
  pub ups : ℕ
  pub columns : ℕ

abbrev pub run : ℕ → ℕ → ℕ → Run
run d u n = record { downs = d; ups = u; columns = n }

-- the row of a piece that starts in row y, i columns on
abbrev pub run_row : Run → ℕ → ℕ → ℕ
run_row s y i = y + s.downs * i - s.ups * i

-- the plane of its slope
abbrev pub slope_plane : Run → ℕ
slope_plane s = level + s.downs - s.ups

-- a piece from (x, y) on: "A piece has a mark at its start and the opposite one a step past its last column, in the plane of
-- its slope. Pieces of no columns still make both."
abbrev pub run_marks : ℕ → ℕ → ℕ → ℕ → Run → List Mark
run_marks p q x y s =
    mark (slope_plane s) x y p ∷ mark (slope_plane s) (x + s.columns) (run_row s y s.columns) q ∷ []

-- a line from (x, y) on, piece by piece: the next piece starts where the step past the last column led
unfoldable pub line_marks : ℕ → ℕ → ℕ → ℕ → List Run → List Mark
line_marks p q x y [] = []
line_marks p q x y (s ∷ rest) = run_marks p q x y s ++ line_marks p q (x + s.columns) (run_row s y s.columns) rest

-- the same pieces turned upside down
unfoldable pub flipped : List Run → List Run
flipped [] = []
flipped (s ∷ rest) = run s.ups s.downs s.columns ∷ flipped rest

-- "in each column the taps run from −h to h. The top line −h counts plus, the line h + 1 minus": h is the first column's
unfoldable pub outline_marks : ℕ → ℕ → List Run → ℕ → ℕ → List Mark
outline_marks r h top X Y = line_marks 1 (minus 1) (X - r) (Y - h) top ++ line_marks (minus 1) 1 (X - r) (Y + h + 1) (flipped top)

-- "Each line is three pieces of constant slope": a columns that rise by k rows each, b level ones, and a + 1 that fall by k
-- rows each: "a column that two pieces fit goes to the later one, so the last takes the middle or the flat's right end"
abbrev pub three_runs : ℕ → ℕ → ℕ → List Run
three_runs k a b = run 0 k a ∷ run 0 0 b ∷ run k 0 (a + 1) ∷ []

-- "(two for the diamond)"
abbrev pub two_runs : ℕ → List Run
two_runs a = run 0 1 a ∷ run 1 0 (a + 1) ∷ []

unfoldable pub diamond_marks : ℕ → ℕ → ℕ → List Mark
diamond_marks r = outline_marks r 0 (two_runs r)

unfoldable pub hexagon_marks : ℕ → ℕ → ℕ → ℕ → List Mark
hexagon_marks r t = outline_marks r 0 (three_runs 2 t (2 * (r - t)))

unfoldable pub octagon_marks : ℕ → ℕ → ℕ → ℕ → List Mark
octagon_marks r t = outline_marks r t (three_runs 1 (r - t) (2 * t))

-- KERNELS
-- the marks of the taps of a kernel around (X, Y): boxes in "slope 0, second or third"
unfoldable pub tap_marks : Shape → ℕ → ℕ → ℕ → List Mark
tap_marks Box r X Y = box_marks level 1 r X Y
tap_marks Tent r X Y = box_marks second_box 2 r X Y
tap_marks Triple r X Y = box_marks third_box 3 r X Y
tap_marks Diamond r X Y = diamond_marks r X Y
tap_marks Hexagon r X Y = hexagon_marks r (half r) X Y
tap_marks Octagon r X Y = octagon_marks r (half r) X Y

-- each coefficient c times over
unfoldable pub scaled : ℕ → List Mark → List Mark
scaled c [] = []
scaled c (m ∷ ms) = mark m.plane m.column m.row (c * m.coefficient) ∷ scaled c ms

-- "four more marks in slope 0": those of a box of radius 0 at the centre
unfoldable pub centre_marks : ℕ → ℕ → List Mark
centre_marks X Y = box_marks level 1 0 X Y

-- the marks of a kernel, for opacity 1: "A mark is worth its sign or factor times a × s", and the centre's four so with the part
-- lost by rounding
unfoldable pub marks : Shape → ℕ → ℕ → ℕ → List Mark
marks s r X Y = scaled (share s r) (tap_marks s r X Y) ++ scaled (rest s r) (centre_marks X Y)

-- the planes that hold a list of marks: at each cell, all that is laid there
unfoldable pub planes_of : List Mark → Planes
planes_of [] p x y = 0
planes_of (m ∷ ms) p x y = same p m.plane (same x m.column (same y m.row m.coefficient)) + planes_of ms p x y
