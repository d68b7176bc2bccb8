-- Bounds of a plate's products: nothing that a plate counts comes near 2^64.
use mathlib.Core.Path.{◌≡◌, ◌∙◌}
use Prim.Native.Nat.{ℕ, ◌+◌, ◌*◌, ◌/◌, ◌%◌, ◌≤◌, ◌<◌}
use native.Mathlib.Omega.{arith}
use native.Mathlib.Nat.{mul_comm, div-lt_iff_lt-mul, mul-add-mod_self_right, mul-add-div_right, mod-eq_of_lt, div-eq_of_lt}
use Rattle.kernels_model.proofs.Numbers.Products.{product_le}
use Rattle.plate_model.specs.Layout.{Size, wide, high, padded}
use Rattle.plate_model.specs.Fixed.{side_top, reach_top, border}
use Rattle.plate_model.specs.Table.{LawfulSize}

pub places_small : (w h : ℕ) → w ≤ side_top → h ≤ side_top → w * h ≤ side_top * side_top
places_small w h p q = product_le w h side_top side_top p q

-- a side of a padded plane
abbrev side_most : ℕ
side_most = side_top + 2 * reach_top + border

pub padded_small : (z : Size) → LawfulSize z → padded z ≤ side_most * side_most
padded_small z h =
    product_le (wide z) (high z) side_most side_most
    (omega (arith, h.width_top, h.reach_top_fact))
    (omega (arith, h.height_top, h.reach_top_fact))

-- "place being y × W + x"
pub place_within : (x y w h : ℕ) → x < w → y < h → y * w + x < w * h
place_within x y w h p q = omega (arith, product_le (y + 1) w h w (omega arith) (omega arith))

-- a row of w places lies in h rows
pub row_in : (y w h : ℕ) → y < h → y * w + w ≤ w * h
row_in y w h q = omega (arith, product_le (y + 1) w h w (omega arith) (omega arith))

-- its column and its row again
pub column_is : (x y w : ℕ) → x < w → (y * w + x) % w ≡ x
column_is x y w h = mul-add-mod_self_right y w x ∙ mod-eq_of_lt h

pub row_is : (x y w : ℕ) → x < w → (y * w + x) / w ≡ y
row_is x y w h =
    let none : x / w ≡ 0 = div-eq_of_lt h in
    mul-add-div_right {m = w} (omega arith) y x ∙ omega (arith, none)

-- the row of a place
pub row_of_lem : (i w h : ℕ) → 0 < w → i < w * h → i / w < h
row_of_lem i w h some p = (div-lt_iff_lt-mul some).1 (rw (mul_comm h w) p)
