-- What is proved of kernels, their marks and sums, and of rounding, as statements. Cells are compared at 2^64, since "Sums wrap
-- at 2^64 on the way".
use Rattle.std.specs.Prelude.{◌≡◌, true, List, [], ◌∷◌, ℕ, zero, suc, ◌+◌, ◌*◌, ◌-◌, ◌^◌, ◌%◌, ◌≤◌, ◌<◌, ltb, length, Option}
use Rattle.kernels_model.specs.Fixed.{unit, planes_each, margin, value_top, matte_unit, matte_top}
use Rattle.kernels_model.specs.Choice.{pick, within, same, strip}
use Rattle.kernels_model.specs.Sum.{dist, Plane, down, slope, summed, finish}
use Rattle.kernels_model.specs.Shape.{Shape, shape_of, shape_answer, shape_answer_for, top_of, count_of, reach_of}
use Rattle.kernels_model.specs.Shape.{top_under}
use Rattle.kernels_model.specs.Tap.{box_tap, octagon_tap, Taps, square_sum, weighted, weight}
use Rattle.kernels_model.specs.Mark.{Mark, Run, run_row, slope_plane, run_marks, box_marks, tap_marks, scaled, marks, planes_of}
use Rattle.kernels_model.specs.Share.{share_parts, share_table, table_share}
use Rattle.kernels_model.specs.Drawing.{drawn_marks, moved, drawing_of}
use Rattle.kernels_model.specs.Band.{Band, band_for, band_weight, is_level, BandOf}
use Rattle.kernels_model.specs.Rounding.{nearest, shown_value, shown_matte}
use Rattle.kernels_model.specs.Lens.{Lens, lens_factor, lawful_lens, blur}

-- SHAPES
-- an answer with the number and the value that the one for n has to have is the shape of n in the table
abbrev pub ShapeFact : Type 0
ShapeFact = (a : Option Shape) (n : ℕ) → shape_answer a ≡ shape_answer_for n → a ≡ shape_of n

-- "so r is also at most R / n rounded down": a radius is at most the top under R exactly where it is at most the shape's top and
-- the kernel reaches at most R
pub record Under (s : Shape) (r R : ℕ) : Type 0 where
  pub to : r ≤ top_under s R → (r ≤ top_of s) × (reach_of s r ≤ R)
  pub from : r ≤ top_of s → reach_of s r ≤ R → r ≤ top_under s R

abbrev pub UnderFact : Type 0
UnderFact = (s : Shape) (r R : ℕ) → Under s r R

-- BOXES
-- the box fact, for every n: the marks of n boxes around (X, Y), in whatever plane, summed across and down n times, are n boxes
-- convolved on both axes
abbrev pub BoxFact : Type 0
BoxFact =
    (p n r X Y x y : ℕ) → n * r ≤ X → n * r ≤ Y
    → summed n (planes_of (box_marks p n r X Y) p) x y % 2 ^ 64 ≡ box_tap n r (dist x X) * box_tap n r (dist y Y) % 2 ^ 64

-- SLOPES
-- the slope sum in a plane of h rows, which reads 0 below them too: "0 outside"
unfoldable pub slope_in : ℕ → ℕ → ℕ → Plane → Plane
slope_in h d u m zero y = m 0 y
slope_in h d u m (suc x) y =
    m (suc x) y + within d (y + u) (within (suc (y + u - d)) h (slope_in h d u m x (y + u - d)))

-- in a plane that is 0 below its h rows it is the slope sum
abbrev pub SlopeFact : Type 0
SlopeFact =
    (h d u : ℕ) (m : Plane) → ((x y : ℕ) → h ≤ y → m x y ≡ 0) → (x y : ℕ) → y < h → slope_in h d u m x y ≡ slope d u m x y

-- PIECES
-- the marks of a piece from (x0, y0) on, summed by its slope
unfoldable pub run_sum : ℕ → ℕ → ℕ → ℕ → Run → Plane
run_sum p q x0 y0 s = slope s.downs s.ups (planes_of (run_marks p q x0 y0 s) (slope_plane s))

-- the piece fact, for every slope: opposite marks of a piece that ends inside the plane are summed to p in its row in each of
-- its columns, and to 0 elsewhere
abbrev pub PieceFact : Type 0
PieceFact =
    (p q k x0 y0 : ℕ) (s : Run) (x y : ℕ) → p + q ≡ 2 ^ 64 * k → s.ups * s.columns ≤ y0 + s.downs * s.columns
    → run_sum p q x0 y0 s x y % 2 ^ 64 ≡ strip x0 s.columns x (same y (run_row s y0 (x - x0)) p) % 2 ^ 64

-- LINES
-- the columns of a line
unfoldable pub columns_of : List Run → ℕ
columns_of [] = 0
columns_of (s ∷ rest) = s.columns + columns_of rest

-- the row of a line that starts in row y, i columns on
unfoldable pub row_at : List Run → ℕ → ℕ → ℕ
row_at [] y i = y
row_at (s ∷ rest) y i = pick (ltb i s.columns) (run_row s y i) (row_at rest (run_row s y s.columns) (i - s.columns))

-- every piece ends inside the plane
unfoldable pub Inside : List Run → ℕ → Type 0
Inside [] y = Unit
Inside (s ∷ rest) y = (s.ups * s.columns ≤ y + s.downs * s.columns) × Inside rest (run_row s y s.columns)

-- the marks of each piece, summed by its own slope, and the sums added
unfoldable pub line_sum : ℕ → ℕ → ℕ → ℕ → List Run → Plane
line_sum p q x0 y0 [] x y = 0
line_sum p q x0 y0 (s ∷ rest) x y = run_sum p q x0 y0 s x y + line_sum p q (x0 + s.columns) (run_row s y0 s.columns) rest x y

-- the line fact, for every list of pieces of any slopes: "added and summed downwards" they are p in each cell on the line and
-- below it, in its columns, and 0 elsewhere
abbrev pub LineFact : Type 0
LineFact =
    (p q k x0 y0 : ℕ) (runs : List Run) (x y : ℕ) → p + q ≡ 2 ^ 64 * k → Inside runs y0
    → down (line_sum p q x0 y0 runs) x y % 2 ^ 64 ≡ strip x0 (columns_of runs) x (within (row_at runs y0 (x - x0)) y p) % 2 ^ 64

-- KERNELS
-- the finished sum of a kernel's marks, each w times, is w times its weight in every cell
abbrev pub KernelFact : Type 0
KernelFact =
    (s : Shape) (r w X Y x y : ℕ) → reach_of s r ≤ X → reach_of s r + 1 ≤ Y
    → finish (planes_of (scaled w (marks s r X Y))) x y % 2 ^ 64 ≡ w * weight s r (dist x X) (dist y Y) % 2 ^ 64

-- "each kernel's shares sum to 8,388,608 exactly": the weights over the square that a kernel reaches, for any taps at all
abbrev pub WholeFact : Type 0
WholeFact = (f : Taps) (m : ℕ) → square_sum (weighted f (square_sum f m)) m ≡ unit

-- so for every shape and radius
abbrev pub ShapesWhole : Type 0
ShapesWhole = (s : Shape) (r : ℕ) → square_sum (weight s r) (reach_of s r) ≡ unit

-- and for an octagon of any t
abbrev pub OctagonWhole : Type 0
OctagonWhole = (r t : ℕ) → square_sum (weighted (octagon_tap r t) (square_sum (octagon_tap r t) r)) r ≡ unit

-- a kernel's marks are as many as the table says, with the centre's: "a kernel has 8 to 20 marks"
abbrev pub CountFact : Type 0
CountFact = (s : Shape) (r X Y : ℕ) → length (marks s r X Y) ≡ count_of s

abbrev pub CountsFew : Type 0
CountsFew = (s : Shape) → (8 ≤ count_of s) × (count_of s ≤ 20)

-- what holds of each mark of a list
unfoldable pub Each : (Mark → Type 0) → List Mark → Type 0
Each P [] = Unit
Each P (m ∷ ms) = P m × Each P ms

-- a mark in one of a picture's planes, at most d columns and d rows from (X, Y)
pub record Near (d X Y : ℕ) (m : Mark) : Type 0 where
  pub plane_in : m.plane < planes_each
  pub left_in : X ≤ m.column + d
  pub right_in : m.column ≤ X + d
  pub top_in : Y ≤ m.row + d
  pub bottom_in : m.row ≤ Y + d

-- "the image starting at column and row R + 3": a kernel that reaches at most R has its marks within R + margin of its centre
abbrev pub NearFact : Type 0
NearFact =
    (s : Shape) (r R X Y : ℕ) → reach_of s r ≤ R → R + margin ≤ X → R + margin ≤ Y
    → Each (Near (R + margin) X Y) (marks s r X Y)

-- AS THE CODE HANDS THEM OUT
-- the table has the share and the remainder of every shape and radius
abbrev pub TableFact : Type 0
TableFact = (s : Shape) (r : ℕ) → table_share share_table s r ≡ share_parts s r

-- a drawing has the marks of its kernel's taps, around whatever centre it is moved to
abbrev pub DrawnFact : Type 0
DrawnFact =
    (s : Shape) (r a b : ℕ)
    → moved a b (drawn_marks (drawing_of s r)) ≡ tap_marks s r (reach_of s r + margin + a) (reach_of s r + margin + b)

-- a band is its kernel's row
abbrev pub BandFact : Type 0
BandFact = (s : Shape) (r dy : ℕ) → r ≤ top_of s → BandOf s r dy (band_for s r (share_parts s r) dy)

-- and a level one has the same weight in each of its cells
abbrev pub LevelFact : Type 0
LevelFact = (b : Band) → is_level b ≡ true → (dx : ℕ) → dx < b.span → band_weight b dx ≡ band_weight b 0

-- ROUNDING
-- "round half to even": v times b is within half of b from a, and where it is exactly half, v is even
pub record ToEven (a b v : ℕ) : Type 0 where
  pub near : 2 * dist (v * b) a ≤ b
  pub even : 2 * dist (v * b) a ≡ b → v % 2 ≡ 0

-- no two numbers keep to it for one a and b
abbrev pub EvenOnce : Type 0
EvenOnce = (a b v w : ℕ) → 0 < b → ToEven a b v → ToEven a b w → v ≡ w

-- the shown value keeps to it where light is below 4,095 and a half times matte
abbrev pub ValueFact : Type 0
ValueFact =
    (light matte : ℕ) → 0 < matte → 2 * light < (2 * value_top + 1) * matte → ToEven light matte (shown_value light matte)

-- "at most 4,095": from there on it is 4,095
abbrev pub ValueTopFact : Type 0
ValueTopFact = (light matte : ℕ) → 0 < matte → (2 * value_top + 1) * matte ≤ 2 * light → shown_value light matte ≡ value_top

-- "to the nearest, a half upwards": v times b is within half of b from a, and where it is exactly half, it is above a
pub record HalfUp (a b v : ℕ) : Type 0 where
  pub near : 2 * dist (v * b) a ≤ b
  pub up : 2 * dist (v * b) a ≡ b → a < v * b

-- no two numbers keep to it for one a and b
abbrev pub HalfUpOnce : Type 0
HalfUpOnce = (a b v w : ℕ) → 0 < b → HalfUp a b v → HalfUp a b w → v ≡ w

-- the nearest keeps to it
abbrev pub NearestFact : Type 0
NearestFact = (a b : ℕ) → 0 < b → HalfUp a b (nearest a b)

-- the shown matte keeps to it where matte is below 255 and a half times 8,388,608
abbrev pub MatteFact : Type 0
MatteFact = (matte : ℕ) → 2 * matte < (2 * matte_top + 1) * matte_unit → HalfUp matte matte_unit (shown_matte matte)

-- "at most 255": from there on it is 255
abbrev pub MatteTopFact : Type 0
MatteTopFact = (matte : ℕ) → (2 * matte_top + 1) * matte_unit ≤ 2 * matte → shown_matte matte ≡ matte_top

-- v is a / b "to the nearest, a half upwards", and b is above 0
abbrev pub HalfUpOf : ℕ → ℕ → ℕ → Type 0
HalfUpOf a b v = (0 < b) × HalfUp a b v

-- the radius of a lawful lens is that of "500 × D × f × abs(Z − S) / (p × Z × (S − f))"
abbrev pub RadiusFact : Type 0
RadiusFact =
    (l : Lens) (z : ℕ) → lawful_lens l ≡ true → 0 < z
    → HalfUpOf
    (lens_factor * l.opening * l.focal * dist z l.focus)
    (l.pitch * z * (l.focus - l.focal))
    (blur l z)

-- "Depth 0 is infinity: 500 × D × f / (p × (S − f))."
abbrev pub InfinityFact : Type 0
InfinityFact =
    (l : Lens) → lawful_lens l ≡ true
    → HalfUpOf (lens_factor * l.opening * l.focal) (l.pitch * (l.focus - l.focal)) (blur l 0)
