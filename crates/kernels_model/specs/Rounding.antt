-- Rounding.
use Rattle.std.specs.Prelude.{ℕ, zero, suc, ◌+◌, ◌*◌, ◌/◌, ◌%◌, min, eqb}
use Rattle.kernels_model.specs.Fixed.{matte_unit, value_top, matte_top}
use Rattle.kernels_model.specs.Choice.{pick}

-- a / b "to the nearest, a half upwards"
unfoldable pub nearest : ℕ → ℕ → ℕ
nearest a b = (2 * a + b) / (2 * b)

-- the even one of q and q + 1
abbrev pub even_from : ℕ → ℕ
even_from q = q + q % 2

-- a / b to the nearest, "round half to even": where the rest is half of b, the even one of the two that a / b is between
unfoldable pub nearest_even : ℕ → ℕ → ℕ
nearest_even a b = pick (eqb (2 * (a % b)) b) (even_from (a / b)) (nearest a b)

-- "Shown value: 0 where matte is 0, else light / matte to the nearest, .. at most 4,095.", and "round half to even .. The shown
-- value follows"
unfoldable pub shown_value : ℕ → ℕ → ℕ
shown_value light zero = 0
shown_value light (suc m) = min value_top (nearest_even light (suc m))

-- "Shown matte: matte / 8,388,608 to the nearest, a half upwards, at most 255.", and "The matte keeps a half upwards"
unfoldable pub shown_matte : ℕ → ℕ
shown_matte matte = min matte_top (nearest matte matte_unit)
