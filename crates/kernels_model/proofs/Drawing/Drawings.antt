-- A drawing has the marks of its kernel, around the centre that the smallest plane gives it.
use mathlib.Core.Path.{◌≡◌, sym}
use mathlib.Core.Bool.{true, false}
use mathlib.Core.List.{[], ◌∷◌}
use Prim.Native.Nat.{ℕ, ◌+◌, ◌*◌, ◌-◌, ◌≤◌}
use native.Mathlib.Omega.{arith}
use Rattle.kernels_model.specs.Fixed.{level, second_box, third_box, margin}
use Rattle.kernels_model.specs.Shape.{Shape, Box, Tent, Triple, Diamond, Hexagon, Octagon, reach_of}
use Rattle.kernels_model.specs.Tap.{half}
use Rattle.kernels_model.specs.Mark.{run, line_marks, flipped, outline_marks, box_grid, box_marks, diamond_marks, hexagon_marks}
use Rattle.kernels_model.specs.Mark.{octagon_marks, tap_marks}
use Rattle.kernels_model.specs.Drawing.{Lines, drawn_marks, line_pieces, outline_of, drawing_of}
use Rattle.kernels_model.specs.Facts.{DrawnFact}
use Rattle.kernels_model.proofs.Drawing.MarkPlaces.{tap-marks-moved}

-- a grid whose first mark lies at the margin
grid_drawn : (p n r : ℕ) → box_grid p n (2 * r + 1) margin margin ≡ box_marks p n r (n * r + margin) (n * r + margin)
unfolding box_marks
grid_drawn p n r = let e : n * r + margin - n * r ≡ margin = omega arith in rw e

-- the rows of the pieces' ends: a columns of slope k, and back
rise_row : (y a m : ℕ) → y + 0 * a - m ≡ y - m
rise_row y a m = omega arith

flat_row : (y b : ℕ) → y + 0 * b - 0 * b ≡ y
flat_row y b = omega arith

past_row : (y k a : ℕ) → k * a ≤ y → y - k * a + k * (a + 1) - 0 * (a + 1) ≡ y + k
past_row y k a h = omega arith

fall_row : (y a m : ℕ) → y + m - 0 * a ≡ y + m
fall_row y a m = omega arith

back-row : (y k a : ℕ) → y + k * a + 0 * (a + 1) - k * (a + 1) ≡ y - k
back-row y k a = omega arith

left_column : (r : ℕ) → r + margin - r ≡ margin
left_column r = omega arith

-- LINES WITHOUT A LEVEL PIECE, AND WITH ONE
diamond_drawn : (r : ℕ) → drawn_marks (Lines (outline_of r 0 1 r 0 false)) ≡ diamond_marks r (r + margin) (r + margin)
unfolding drawn_marks line_pieces outline_of diamond_marks outline_marks line_marks flipped
diamond_drawn r = grind arith

-- the last piece has a column more than the first
flat_drawn : (r h k a b c : ℕ) → c ≡ a + 1 → h + k * a ≤ r
    → drawn_marks (Lines (outline_of r h k a b true))
    ≡ outline_marks r h (run 0 k a ∷ run 0 0 b ∷ run k 0 c ∷ []) (r + margin) (r + margin)
unfolding drawn_marks line_pieces outline_of outline_marks line_marks flipped
flat_drawn r h k a b c e p =
    let y = r + margin - h in
    let z = r + margin + h + 1 in
    let plane : level + k - 0 ≡ level + k = omega arith in
    rw (
      e,
      left_column r,
      plane,
      rise_row y a (k * a),
      flat_row (y - k * a) b,
      past_row y k a (omega arith),
      fall_row z a (k * a),
      flat_row (z + k * a) b,
      back-row z k a,
    )

-- EVERY KERNEL
-- a line kernel reaches its radius
reach_one : (r : ℕ) → 1 * r + margin ≡ r + margin
reach_one r = omega arith

-- what `draw` hands out are the kernel's marks, around its own centre
pub drawing_marks : (s : Shape) (r : ℕ)
    → drawn_marks (drawing_of s r) ≡ tap_marks s r (reach_of s r + margin) (reach_of s r + margin)
unfolding drawing_of tap_marks hexagon_marks octagon_marks
drawing_marks Box r = unfold drawn_marks in (grid_drawn level 1 r)
drawing_marks Tent r = unfold drawn_marks in (grid_drawn second_box 2 r)
drawing_marks Triple r = unfold drawn_marks in (grid_drawn third_box 3 r)
drawing_marks Diamond r = rw (reach_one r) (diamond_drawn r)
drawing_marks Hexagon r = rw (reach_one r) (flat_drawn r 0 2 (half r) (2 * (r - half r)) _ (omega arith) (omega arith))
drawing_marks Octagon r = rw (reach_one r) (flat_drawn r (half r) 1 (r - half r) (2 * half r) _ (omega arith) (omega arith))

-- and around any other that they are moved to
pub drawn_moved : DrawnFact
drawn_moved s r a b =
    rw (drawing_marks s r)
    (sym (tap-marks-moved a b s r (reach_of s r + margin) (reach_of s r + margin) (omega arith) (omega arith)))
