-- Taps, areas, shares, remainders and weights of the kernels.
use Rattle.std.specs.Prelude.{ℕ, zero, suc, ◌+◌, ◌*◌, ◌-◌, ◌/◌, min}
use Rattle.kernels_model.specs.Fixed.{unit}
use Rattle.kernels_model.specs.Choice.{within, same}
use Rattle.kernels_model.specs.Sum.{Row, sum, dist}
use Rattle.kernels_model.specs.Shape.{Shape, Box, Tent, Triple, Diamond, Hexagon, Octagon, reach_of}

-- BOXES ON ONE AXIS
-- a row moved s cells on, 0 before its start
unfoldable pub shift : ℕ → Row → Row
shift s f x = within s x (f (x - s))

-- a box of l ones convolved with a row
unfoldable pub box : ℕ → Row → Row
box l f x = sum (λ j. shift j f x) l

-- n boxes of l ones convolved with a row
unfoldable pub convolved : ℕ → ℕ → Row → Row
convolved zero l f = f
convolved (suc n) l f = box l (convolved n l f)

-- 1 in the first cell
unfoldable pub one : Row
one x = same x 0 1

-- n boxes of radius r convolved: 2 n r + 1 taps, of which the middle one is number n r; the tap d cells from the middle
unfoldable pub box_tap : ℕ → ℕ → ℕ → ℕ
box_tap n r d = convolved n (2 * r + 1) one (n * r + d)

-- TAPS
-- "t is r / 2 rounded down"
abbrev pub half : ℕ → ℕ
half r = r / 2

-- "1 where both ≤ r and abs(dx) + abs(dy) ≤ r + t", for any t
unfoldable pub octagon_tap : ℕ → ℕ → ℕ → ℕ → ℕ
octagon_tap r t dx dy = within dx r (within dy r (within (dx + dy) (r + t) 1))

-- the tap of a kernel of radius r at abs (dx), abs (dy); boxes are convolved on both axes, so their taps are products
unfoldable pub tap : Shape → ℕ → ℕ → ℕ → ℕ
-- "1 where both abs(dx), abs(dy) ≤ r"
tap Box r dx dy = within dx r (within dy r 1)
-- "two boxes convolved"
tap Tent r dx dy = box_tap 2 r dx * box_tap 2 r dy
-- "three boxes convolved"
tap Triple r dx dy = box_tap 3 r dx * box_tap 3 r dy
-- "1 where abs(dx) + abs(dy) ≤ r"
tap Diamond r dx dy = within (dx + dy) r 1
-- "1 where abs(dx) ≤ r and abs(dy) ≤ min(2t, 2(r − abs(dx)))"
tap Hexagon r dx dy = within dx r (within dy (min (2 * half r) (2 * (r - dx))) 1)
tap Octagon r dx dy = octagon_tap r (half r) dx dy

-- SHARES
-- taps, or weights, by abs (dx) and abs (dy)
abbrev pub Taps : Type 0
Taps = ℕ → ℕ → ℕ

-- their sum over the square of cells that reaches m from its middle, (m, m)
abbrev pub square_sum : Taps → ℕ → ℕ
square_sum f m = sum (λ x. sum (λ y. f (dist x m) (dist y m)) (2 * m + 1)) (2 * m + 1)

-- "A is the sum of all taps": over the square of cells that the kernel reaches
unfoldable pub area : Shape → ℕ → ℕ
area s r = square_sum (tap s r) (reach_of s r)

-- "The share s is 8,388,608 / A rounded down.": for any area A
unfoldable pub share_for : ℕ → ℕ
share_for A = unit / A

-- "The part lost by rounding the share down"
unfoldable pub rest_for : ℕ → ℕ
rest_for A = unit - share_for A * A

-- those of a shape and a radius
abbrev pub share : Shape → ℕ → ℕ
share s r = share_for (area s r)

abbrev pub rest : Shape → ℕ → ℕ
rest s r = rest_for (area s r)

-- WEIGHTS
-- what a pixel of opacity 1 adds to the matte sum of a cell, by a kernel with taps f of area A: "a × s × tap", and "The part lost
-- by rounding the share down now goes to the centre tap"
abbrev pub weighted : Taps → ℕ → Taps
weighted f A dx dy = share_for A * f dx dy + same dx 0 (same dy 0 (rest_for A))

-- by the kernel of a shape and a radius
unfoldable pub weight : Shape → ℕ → Taps
weight s r dx dy = weighted (tap s r) (area s r) dx dy
