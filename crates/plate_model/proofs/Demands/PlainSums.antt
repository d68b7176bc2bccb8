-- What a show sums: the finished planes of a plate that holds a grid's marks are the grid's plain sums, which do not wrap.
use mathlib.Core.Path.{◌≡◌, refl, ap, ◌∙◌}
use mathlib.Core.List.{List}
use Prim.Native.Nat.{ℕ, zero, suc, ◌+◌, ◌*◌, ◌/◌, ◌%◌, ◌^◌, ◌≤◌, ◌<◌}
use native.Mathlib.Omega.{arith}
use native.Mathlib.Nat.{mod-mod, mod-eq_of_lt, le_trans, le_refl}
use lib.ListN.{get_or, length}
use Rattle.kernels_model.specs.Sum.{sum, Row, Planes, dist, finish}
use Rattle.kernels_model.specs.Mark.{Mark, marks_to, planes_of}
use Rattle.kernels_model.proofs.Numbers.Choices.{by_lt, if_within, within_yes}
use Rattle.kernels_model.proofs.Numbers.Products.{product_le}
use Rattle.kernels_model.proofs.Sums.FiniteSums.{sum_ext, sum_ext_lt, sum-none, sum_cong}
use Rattle.kernels_model.proofs.Sums.PlaneSums.{◌≈²◌, finish_cong_planes}
use Rattle.kernels_model.proofs.Marking.MarkLists.{planes_to, finish_to}
use Rattle.kernels_model.proofs.Taps.Areas.{weight_le}
use Rattle.kernels_model.proofs.Marking.Kernel.{kernel}
use Rattle.plate_model.specs.Layout.{Size, wide, high, padded, cell, places, column_of, row_of}
use Rattle.plate_model.specs.Word.{Pixel}
use Rattle.plate_model.specs.Kernel.{weight_of}
use Rattle.plate_model.specs.Marks.{pixel_marks, on_cell}
use Rattle.plate_model.specs.Calls.{stored, sum_at}
use Rattle.plate_model.specs.Plain.{pixel_at, light_of, matte_of, weight_at, plain_sum, grid_cell}
use Rattle.plate_model.specs.Table.{LawfulSize}
use Rattle.plate_model.specs.Word.{Fits}
use Rattle.kernels_model.proofs.Taps.ShapeNumbers.{reach_under}
use Rattle.plate_model.proofs.Laying.Cells.{cell_lt, laid, light_laid, matte_laid, laid_outside}
use Rattle.plate_model.specs.Fixed.{planes_in_all, places_top}
use Rattle.kernels_model.specs.Fixed.{opacity_top, value_top, planes_each, margin, unit}

-- THE PLAIN SUMS DO NOT WRAP
pub sum_le : (f : Row) (c n : ℕ) → ((k : ℕ) → f k ≤ c) → sum f n ≤ n * c
unfolding sum
sum_le f c zero h = omega arith
sum_le f c (suc n) h = omega (arith, sum_le f c n h, h n)

-- "W × H at most 2,097,152", and a pixel of opacity 1 adds at most 8,388,608
plain_le : (z : Size) (grid : List Pixel) (worth : Pixel → ℕ) (c i : ℕ) → LawfulSize z → ((j : ℕ) → worth (pixel_at grid j) ≤ c)
    → plain_sum z grid worth i ≤ places_top * (c * unit)
unfolding plain_sum
plain_le z grid worth c i law top =
    le_trans
    (sum_le _ (c * unit) (places z) (λ j. product_le (worth (pixel_at grid j)) _ c unit (top j) (weight_le _ _ _ _)))
    (product_le (places z) (c * unit) places_top (c * unit) law.places_top_fact (le_refl _))

-- what a lawful pixel is worth at most, in matte and in light
pub matte_most : (R : ℕ) (q : Pixel) → Fits R q → matte_of q ≤ opacity_top
matte_most R q fits = omega (arith, fits.opacity_fits)

pub light_most : (R : ℕ) (q : Pixel) → Fits R q → light_of q ≤ value_top * opacity_top
light_most R q fits = product_le _ _ value_top opacity_top fits.value_fits (matte_most R q fits)

-- "the finished light and matte don't: 255 × 4,095 × 2^44 is below 2^64"
pub no_wrap : (z : Size) (grid : List Pixel) → LawfulSize z → ((j : ℕ) → Fits z.reach (pixel_at grid j)) → (i : ℕ)
    → (plain_sum z grid light_of i < 2 ^ 64) × (plain_sum z grid matte_of i < 2 ^ 64)
no_wrap z grid law fits i = (
  omega (arith, plain_le z grid light_of (value_top * opacity_top) i law (λ j. light_most _ _ (fits j))),
  omega (arith, plain_le z grid matte_of opacity_top i law (λ j. matte_most _ _ (fits j))),
)

-- THE FINISHED SUMS ARE THE PLAIN SUMS
-- distances in a padded plane are those in the image
dist-padded : (a b R : ℕ) → dist (a + R + margin) (b + R + margin) ≡ dist a b
dist-padded a b R = omega arith

-- in a picture's planes from p on, some marks of the planes are those of a list of marks
abbrev pub LaidAs : Size → ℕ → List Mark → List Mark → Type 0
LaidAs z p all own =
    (d x y : ℕ) → d < planes_each → x < wide z → y < high z → on_cell z (cell z (p + d) x y) all ≡ planes_of own d x y

-- and so a pixel's are those of its kernel, as often as it is worth there
abbrev pub InPicture : Size → ℕ → (Pixel → ℕ) → Type 0
InPicture z p worth =
    (i : ℕ) → i < places z → (q : Pixel) → Fits z.reach q → LaidAs z p (pixel_marks z i q) (laid z (worth q) i q)

pub in_light : (z : Size) → LawfulSize z → InPicture z 0 light_of
in_light z law i h q fits d x y = light_laid z law i h q fits d x y

pub in_matte : (z : Size) → LawfulSize z → InPicture z planes_each matte_of
in_matte z law i h q fits d x y _ = matte_laid z law i h q fits d x y

-- a cell of a picture's planes
pub stored_in : (z : Size) (planes : List ℕ) (p d x y : ℕ) → x < wide z → y < high z
    → stored z planes p d x y ≡ get_or planes (cell z (p + d) x y) 0
unfolding stored
stored_in z planes p d x y px py = rw (within_yes (suc x) (wide z), within_yes (suc y) (high z))

pub stored_out : (z : Size) (planes : List ℕ) (p d x y : ℕ) → (x < wide z → y < high z → ⊥) → stored z planes p d x y ≡ 0
unfolding stored
stored_out z planes p d x y n =
    if_within (suc x) (wide z) _ 0 (λ px. if_within (suc y) (high z) _ 0 (λ py. absurd (n px py)) (λ _. refl)) (λ _. refl)

-- planes that hold what others do inside, where these have nothing outside
pub stored_as : (z : Size) (planes : List ℕ) (p : ℕ) (m : Planes)
    → ((d x y : ℕ) → d < planes_each → x < wide z → y < high z
    → get_or planes (cell z (p + d) x y) 0 % 2 ^ 64 ≡ m d x y % 2 ^ 64)
    → ((d x y : ℕ) → (x < wide z → y < high z → ⊥) → m d x y ≡ 0)
    → (d : ℕ) → d < planes_each → stored z planes p d ≈² m d
stored_as z planes p m inside outside d h x y =
    by_lt x (wide z)
    (λ px. by_lt y (high z)
    (λ py. rw (stored_in z planes p d x y px py) (inside d x y h px py))
    (λ py. away (omega arith)))
    (λ px. away (omega arith))
  where
    away : (x < wide z → y < high z → ⊥) → stored z planes p d x y % 2 ^ 64 ≡ m d x y % 2 ^ 64
    away n = rw (stored_out z planes p d x y n, outside d x y n)

-- what the pixel q at place j adds to a cell of the padded plane, for opacity 1
abbrev pub cell_weight : Size → Pixel → ℕ → ℕ → ℕ → ℕ
cell_weight z q j x y = weight_of q (dist x (column_of z j)) (dist y (row_of z j))

-- at a cell of the image that is its weight there
place_weight : (z : Size) (q : Pixel) (j i : ℕ) → cell_weight z q j (column_of z i) (row_of z i) ≡ weight_at z q j i
place_weight z q j i =
    rw (dist-padded (i % z.width) (j % z.width) z.reach, dist-padded (i / z.width) (j / z.width) z.reach)

-- a pixel's marks, finished at any cell
finish_at : (z : Size) (q : Pixel) (w j x y : ℕ) → Fits z.reach q
    → finish (planes_of (laid z w j q)) x y % 2 ^ 64 ≡ w * cell_weight z q j x y % 2 ^ 64
unfolding laid
finish_at z q w j x y fits =
    let u = reach_under z.reach q.shape q.radius fits.radius_fits in
    kernel q.shape q.radius w (column_of z j) (row_of z j) x y (omega arith) (omega arith)

-- and at another place
pub finish_laid : (z : Size) (q : Pixel) (w j i : ℕ) → Fits z.reach q
    → finish (planes_of (laid z w j q)) (column_of z i) (row_of z i) % 2 ^ 64 ≡ w * weight_at z q j i % 2 ^ 64
finish_laid z q w j i fits = rw (← place_weight z q j i) (finish_at z q w j (column_of z i) (row_of z i) fits)

-- the marks of the pixel at a place of a grid in one picture, by what a pixel is worth there, and those of all its pixels
abbrev grid_laid : Size → List Pixel → (Pixel → ℕ) → ℕ → List Mark
grid_laid z grid worth i = laid z (worth (pixel_at grid i)) i (pixel_at grid i)

abbrev all_laid : Size → List Pixel → (Pixel → ℕ) → List Mark
all_laid z grid worth = marks_to (grid_laid z grid worth) (places z)

module _ (z : Size) (planes : List ℕ) (grid : List Pixel) (law : LawfulSize z)
    (cells : (k : ℕ) → k < planes_in_all * padded z → get_or planes k 0 ≡ grid_cell z grid k)
    (fits : (i : ℕ) → Fits z.reach (pixel_at grid i))
    (p : ℕ) (low : p ≤ planes_each) (worth : Pixel → ℕ) (from : InPicture z p worth)
  where
    -- the planes hold the marks of all pixels
    stored_inside : (d x y : ℕ) → d < planes_each → x < wide z → y < high z
        → get_or planes (cell z (p + d) x y) 0 % 2 ^ 64 ≡ planes_of (all_laid z grid worth) d x y % 2 ^ 64
    unfolding grid_cell
    stored_inside d x y h px py =
        let here = cells (cell z (p + d) x y) (cell_lt z planes_in_all (p + d) x y (omega arith) px py) in
        rw (here, mod-mod, planes_to (grid_laid z grid worth) (places z) d x y)
        (ap (λ (n : ℕ). n % 2 ^ 64) (sum_ext_lt _ _ (places z) (λ i g. from i g (pixel_at grid i) (fits i) d x y h px py)))

    stored_outside : (d x y : ℕ) → (x < wide z → y < high z → ⊥) → planes_of (all_laid z grid worth) d x y ≡ 0
    stored_outside d x y n =
        planes_to (grid_laid z grid worth) (places z) d x y
        ∙ sum-none _ (places z) (λ i g. laid_outside z law i g (pixel_at grid i) (fits i) d x y _ n)

    -- a finished cell of the padded plane is what all pixels add there, wrapped
    pub cell_wrapped : (x y : ℕ)
        → finish (stored z planes p) x y % 2 ^ 64
        ≡ sum (λ j. worth (pixel_at grid j) * cell_weight z (pixel_at grid j) j x y) (places z) % 2 ^ 64
    cell_wrapped x y =
        finish_cong_planes (stored z planes p) (planes_of (all_laid z grid worth))
        (stored_as z planes p (planes_of (all_laid z grid worth)) stored_inside stored_outside) x y
        ∙ ap (λ (n : ℕ). n % 2 ^ 64) (finish_to (grid_laid z grid worth) (places z) x y)
        ∙ sum_cong _ _ (λ j. finish_at z (pixel_at grid j) (worth (pixel_at grid j)) j x y (fits j)) (places z)

    -- so a finished sum is the plain one, wrapped
    sum_wrapped : (i : ℕ) → sum_at z planes p i ≡ plain_sum z grid worth i % 2 ^ 64
    unfolding sum_at plain_sum
    sum_wrapped i =
        cell_wrapped (column_of z i) (row_of z i)
        ∙ ap (λ (n : ℕ). n % 2 ^ 64)
        (sum_ext _ _ (λ j. ap (λ (n : ℕ). worth (pixel_at grid j) * n) (place_weight z (pixel_at grid j) j i)) (places z))

-- the two sums of a show at a place are the plain ones
pub show_fact : (z : Size) (planes : List ℕ) (grid : List Pixel) → LawfulSize z → length planes ≡ planes_in_all * padded z
    → ((k : ℕ) → k < planes_in_all * padded z → get_or planes k 0 ≡ grid_cell z grid k)
    → ((i : ℕ) → Fits z.reach (pixel_at grid i))
    → (i : ℕ) → i < places z
    → (sum_at z planes 0 i ≡ plain_sum z grid light_of i) × (sum_at z planes planes_each i ≡ plain_sum z grid matte_of i)
show_fact z planes grid law size cells fits i h =
    let small = no_wrap z grid law fits i in (
      sum_wrapped z planes grid law cells fits 0 (omega arith) light_of (in_light z law) i ∙ mod-eq_of_lt small.0,
      sum_wrapped z planes grid law cells fits planes_each (omega arith) matte_of (in_matte z law) i ∙ mod-eq_of_lt small.1,
    )
