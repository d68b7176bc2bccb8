-- Taps and marks of small kernels, worked out by hand from the paper's sentences. Each list is written down number by number, and
-- the definitions compute to it.
use Rattle.std.specs.Prelude.{◌≡◌, List, [], ◌∷◌, ℕ, ◌+◌, ◌*◌}
use Rattle.kernels_model.specs.Listed.{list_to}
use Rattle.kernels_model.specs.Sum.{dist}
use Rattle.kernels_model.specs.Shape.{Shape, Box, Tent, Diamond, Hexagon, Octagon, reach_of}
use Rattle.kernels_model.specs.Tap.{tap}
use Rattle.kernels_model.specs.Mark.{mark, tap_marks, marks}

-- what wraps to −1, 2^64 − 1; minus w is w times that
abbrev pub minus_one : ℕ
minus_one = 18446744073709551615

-- the taps of a kernel, row by row from the top, over the square of cells that it reaches
unfoldable pub tap_rows : Shape → ℕ → List (List ℕ)
tap_rows s r =
    let side = 2 * reach_of s r + 1 in
    list_to (λ y. list_to (λ x. tap s r (dist x (reach_of s r)) (dist y (reach_of s r))) side) side

-- The marks are those of a kernel around column 10 and row 20; a mark is written as plane, column, row and coefficient. The
-- planes, from 0 on: "slopes −2, −1, 0, 1, 2, second box, third box".
pub record ByHand : Type 0 where
  -- t is 1: "1 where both ≤ r and abs(dx) + abs(dy) ≤ r + t"
  pub octagon_taps :
      tap_rows Octagon 3
      ≡ (0 ∷ 0 ∷ 1 ∷ 1 ∷ 1 ∷ 0 ∷ 0 ∷ [])
      ∷ (0 ∷ 1 ∷ 1 ∷ 1 ∷ 1 ∷ 1 ∷ 0 ∷ [])
      ∷ (1 ∷ 1 ∷ 1 ∷ 1 ∷ 1 ∷ 1 ∷ 1 ∷ [])
      ∷ (1 ∷ 1 ∷ 1 ∷ 1 ∷ 1 ∷ 1 ∷ 1 ∷ [])
      ∷ (1 ∷ 1 ∷ 1 ∷ 1 ∷ 1 ∷ 1 ∷ 1 ∷ [])
      ∷ (0 ∷ 1 ∷ 1 ∷ 1 ∷ 1 ∷ 1 ∷ 0 ∷ [])
      ∷ (0 ∷ 0 ∷ 1 ∷ 1 ∷ 1 ∷ 0 ∷ 0 ∷ [])
      ∷ []
  -- "The top line −h counts plus, the line h + 1 minus." In columns 7 to 13 the top line has rows 19 18 17 17 17 18 19, and the
  -- other 22 23 24 24 24 23 22. "a column that two pieces fit goes to the later one": 7 and 8 rise, 9 and 10 are level, 11 to 13
  -- fall. "A piece has a mark at its start and the opposite one a step past its last column, in the plane of its slope."
  pub octagon_marks_fact :
      tap_marks Octagon 3 10 20
      ≡ mark 1 7 19 1 ∷ mark 1 9 17 minus_one
      ∷ mark 2 9 17 1 ∷ mark 2 11 17 minus_one
      ∷ mark 3 11 17 1 ∷ mark 3 14 20 minus_one
      ∷ mark 3 7 22 minus_one ∷ mark 3 9 24 1
      ∷ mark 2 9 24 minus_one ∷ mark 2 11 24 1
      ∷ mark 1 11 24 minus_one ∷ mark 1 14 21 1
      ∷ []
  -- t is 1: "1 where abs(dx) ≤ r and abs(dy) ≤ min(2t, 2(r − abs(dx)))"
  pub hexagon_taps :
      tap_rows Hexagon 3
      ≡ (0 ∷ 0 ∷ 0 ∷ 0 ∷ 0 ∷ 0 ∷ 0 ∷ [])
      ∷ (0 ∷ 1 ∷ 1 ∷ 1 ∷ 1 ∷ 1 ∷ 0 ∷ [])
      ∷ (0 ∷ 1 ∷ 1 ∷ 1 ∷ 1 ∷ 1 ∷ 0 ∷ [])
      ∷ (1 ∷ 1 ∷ 1 ∷ 1 ∷ 1 ∷ 1 ∷ 1 ∷ [])
      ∷ (0 ∷ 1 ∷ 1 ∷ 1 ∷ 1 ∷ 1 ∷ 0 ∷ [])
      ∷ (0 ∷ 1 ∷ 1 ∷ 1 ∷ 1 ∷ 1 ∷ 0 ∷ [])
      ∷ (0 ∷ 0 ∷ 0 ∷ 0 ∷ 0 ∷ 0 ∷ 0 ∷ [])
      ∷ []
  -- In columns 7 to 13 the top line has rows 20 18 18 18 18 18 20, and the other 21 23 23 23 23 23 21: 7 rises, by two rows, 8 to
  -- 11 are level, 12 and 13 fall, by two rows each.
  pub hexagon_marks_fact :
      tap_marks Hexagon 3 10 20
      ≡ mark 0 7 20 1 ∷ mark 0 8 18 minus_one
      ∷ mark 2 8 18 1 ∷ mark 2 12 18 minus_one
      ∷ mark 4 12 18 1 ∷ mark 4 14 22 minus_one
      ∷ mark 4 7 21 minus_one ∷ mark 4 8 23 1
      ∷ mark 2 8 23 minus_one ∷ mark 2 12 23 1
      ∷ mark 0 12 23 minus_one ∷ mark 0 14 19 1
      ∷ []
  -- "a slit": the taps are row 20 in columns 9 to 11, and t is 0, so that no column rises, 9 and 10 are level and 11 falls.
  -- "Pieces of no columns still make both."
  pub slit_marks :
      tap_marks Hexagon 1 10 20
      ≡ mark 0 9 20 1 ∷ mark 0 9 20 minus_one
      ∷ mark 2 9 20 1 ∷ mark 2 11 20 minus_one
      ∷ mark 4 11 20 1 ∷ mark 4 12 22 minus_one
      ∷ mark 4 9 21 minus_one ∷ mark 4 9 21 1
      ∷ mark 2 9 21 minus_one ∷ mark 2 11 21 1
      ∷ mark 0 11 21 minus_one ∷ mark 0 12 19 1
      ∷ []
  -- All marks of a kernel, with its share and its remainder: five taps, so 8,388,608 / 5, which is 1,677,721 with 3 left. In
  -- columns 9 to 11 the top line has rows 20 19 20, and the other 21 22 21: "(two for the diamond)", 9 rises, and 10 and 11 fall.
  -- "four more marks in slope 0": those of the one cell at the centre.
  pub diamond_marks_fact :
      marks Diamond 1 10 20
      ≡ mark 1 9 20 1677721 ∷ mark 1 10 19 (minus_one * 1677721)
      ∷ mark 3 10 19 1677721 ∷ mark 3 12 21 (minus_one * 1677721)
      ∷ mark 3 9 21 (minus_one * 1677721) ∷ mark 3 10 22 1677721
      ∷ mark 1 10 22 (minus_one * 1677721) ∷ mark 1 12 20 1677721
      ∷ mark 2 10 20 3 ∷ mark 2 10 21 (minus_one * 3)
      ∷ mark 2 11 20 (minus_one * 3) ∷ mark 2 11 21 3
      ∷ []
  -- "along each axis marks at −n r + i(2r + 1)": −1 and 2, with factors 1 and −1; "opposite corners agree and neighbours differ"
  pub box_marks_fact :
      tap_marks Box 1 10 20
      ≡ mark 2 9 19 1 ∷ mark 2 9 22 minus_one
      ∷ mark 2 12 19 minus_one ∷ mark 2 12 22 1
      ∷ []
  -- −2, 1 and 4, "with factor (−1)^i times n over i": 1, −2 and 1, and their products over both axes
  pub tent_marks :
      tap_marks Tent 1 10 20
      ≡ mark 5 8 18 1 ∷ mark 5 8 21 (minus_one * 2) ∷ mark 5 8 24 1
      ∷ mark 5 11 18 (minus_one * 2) ∷ mark 5 11 21 4 ∷ mark 5 11 24 (minus_one * 2)
      ∷ mark 5 14 18 1 ∷ mark 5 14 21 (minus_one * 2) ∷ mark 5 14 24 1
      ∷ []
