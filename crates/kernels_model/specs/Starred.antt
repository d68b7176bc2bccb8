-- The paper's starred examples, in one table.
use Rattle.std.specs.Prelude.{◌≡◌, List, [], ◌∷◌, ℕ}
use Rattle.kernels_model.specs.Shape.{Box, Tent, Triple, Diamond, Hexagon, Octagon}
use Rattle.kernels_model.specs.Tap.{box_tap, tap, area, share}
use Rattle.kernels_model.specs.Rounding.{shown_value, shown_matte}
use Rattle.kernels_model.specs.Lens.{Lens, blur}

-- what a definition gives, and what the paper says
pub record Example : Type 0 where
  pub given : ℕ
  pub stated : ℕ

abbrev pub says : ℕ → ℕ → Example
says g s = record { given = g; stated = s }

abbrev pub lens : ℕ → ℕ → ℕ → ℕ → Lens
lens d f s p = record { opening = d; focal = f; focus = s; pitch = p }

abbrev pub starred : List Example
starred =
    -- "Tent r = 1: row 1 2 3 2 1, A 81"
    says (box_tap 2 1 2) 1
    ∷ says (box_tap 2 1 1) 2
    ∷ says (box_tap 2 1 0) 3
    ∷ says (box_tap 2 1 3) 0
    ∷ says (area Tent 1) 81
    -- "Triple r = 1: 1 3 6 7 6 3 1, A 729"
    ∷ says (box_tap 3 1 3) 1
    ∷ says (box_tap 3 1 2) 3
    ∷ says (box_tap 3 1 1) 6
    ∷ says (box_tap 3 1 0) 7
    ∷ says (box_tap 3 1 4) 0
    ∷ says (area Triple 1) 729
    -- "Diamond 2: A 13. Hexagon 1: A 3, a slit; 2: 17. Octagon 1: A 5; 2: 21."
    ∷ says (area Diamond 2) 13
    ∷ says (area Hexagon 1) 3
    ∷ says (tap Hexagon 1 1 0) 1
    ∷ says (tap Hexagon 1 0 1) 0
    ∷ says (area Hexagon 2) 17
    ∷ says (area Octagon 1) 5
    ∷ says (area Octagon 2) 21
    -- "Box shares: r = 1 gives 932,067; r = 64 gives 504."
    ∷ says (share Box 1) 932067
    ∷ says (share Box 64) 504
    -- "D 250, f 500, S 20,000, p 50: Z 40,000 gives 32, 20,000 gives 0, 0 gives 64."
    ∷ says (blur (lens 250 500 20000 50) 40000) 32
    ∷ says (blur (lens 250 500 20000 50) 20000) 0
    ∷ says (blur (lens 250 500 20000 50) 0) 64
    -- "D 1, f 1, S 2, p 100, Z 4: 2.5, so 3."
    ∷ says (blur (lens 1 1 2 100) 4) 3
    -- "light 5 with matte 2 gives 2, and light 7 with matte 2 gives 4"
    ∷ says (shown_value 5 2) 2
    ∷ says (shown_value 7 2) 4
    -- "Matte 4,194,303 shows 0; 4,194,304 shows 1."
    ∷ says (shown_matte 4194303) 0
    ∷ says (shown_matte 4194304) 1
    ∷ []

-- the definitions give what the paper says, in every row
unfoldable pub Agree : List Example → Type 0
Agree [] = Unit
Agree (e ∷ es) = (e.given ≡ e.stated) × Agree es
