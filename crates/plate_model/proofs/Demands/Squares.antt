-- A kernel whose square lies on a plane: its weights over the plane are the whole.
use mathlib.Core.Path.{◌≡◌, ap, ◌∙◌}
use Prim.Native.Nat.{ℕ, zero, suc, ◌+◌, ◌*◌, ◌-◌, ◌/◌, ◌%◌, ◌≤◌, ◌<◌}
use native.Mathlib.Omega.{arith}
use lib.Arith.{digits_div, digits_mod}
use Rattle.kernels_model.specs.Fixed.{unit}
use Rattle.kernels_model.specs.Sum.{sum, Row, dist}
use Rattle.kernels_model.specs.Shape.{reach_of}
use Rattle.kernels_model.specs.Tap.{Taps, square_sum}
use Rattle.kernels_model.proofs.Sums.FiniteSums.{sum_ext, sum_ext_lt, sum-add, sum-zero, sum-none, sum_parts, sum_between}
use Rattle.kernels_model.proofs.Taps.Areas.{shapes_whole, weight_far_x, weight_far_y}
use Rattle.plate_model.specs.Word.{Pixel}
use Rattle.plate_model.specs.Kernel.{weight_of}

-- on an axis of n cells: what goes by the distance from cell c and is 0 further than m from it, if the cells up to there lie on
-- the axis
axis_on : (g : Row) (m c n : ℕ) → ((d : ℕ) → m < d → g d ≡ 0) → m ≤ c → c + m < n
    → sum (λ x. g (dist c x)) n ≡ sum (λ x. g (dist x m)) (2 * m + 1)
axis_on g m c n far low high =
    let e : n ≡ c - m + (2 * m + 1) + (n - suc (c + m)) = omega arith in
    ap (sum (λ x. g (dist c x))) e
    ∙ sum_between (λ x. g (dist c x)) (c - m) (2 * m + 1) (n - suc (c + m))
    (λ k h. far (dist c k) (omega arith))
    (λ k h. far (dist c k) (omega arith))
    ∙ sum_ext _ _ (λ k. ap g (moved k)) (2 * m + 1)
  where
    moved : (k : ℕ) → dist c (c - m + k) ≡ dist k m
    moved k = omega arith

-- on a plane of w columns and h rows: taps that are 0 further than m from their centre, if the square that reaches m from it lies
-- on the plane
square_on : (f : Taps) (m x0 y0 w h : ℕ) → ((dx dy : ℕ) → m < dx → f dx dy ≡ 0) → ((dx dy : ℕ) → m < dy → f dx dy ≡ 0)
    → m ≤ x0 → x0 + m < w → m ≤ y0 → y0 + m < h
    → sum (λ x. sum (λ y. f (dist x0 x) (dist y0 y)) h) w ≡ square_sum f m
square_on f m x0 y0 w h far_x far_y left right top bottom =
    sum_ext _ _ (λ x. axis_on (f (dist x0 x)) m y0 h (far_y (dist x0 x)) top bottom) w
    ∙ axis_on (λ d. sum (λ y. f d (dist y m)) (2 * m + 1)) m x0 w column left right
  where
    column : (d : ℕ) → m < d → sum (λ y. f d (dist y m)) (2 * m + 1) ≡ 0
    column d g = sum-none _ (2 * m + 1) (λ y _. far_x d (dist y m) g)

-- the weights of a pixel's kernel are then the whole
pub weights_on : (p : Pixel) (x0 y0 w h : ℕ) →
    let m = reach_of p.shape p.radius in
    m ≤ x0 → x0 + m < w → m ≤ y0 → y0 + m < h → sum (λ x. sum (λ y. weight_of p (dist x0 x) (dist y0 y)) h) w ≡ unit
weights_on p x0 y0 w h left right top bottom =
    let s = p.shape in
    let r = p.radius in
    square_on (weight_of p) (reach_of s r) x0 y0 w h (weight_far_x s r) (weight_far_y s r) left right top bottom ∙ shapes_whole s r

-- a sum over the places of w columns and h rows, column by column
pub sum-places : (f : ℕ → ℕ → ℕ) (w h : ℕ) → sum (λ j. f (j % w) (j / w)) (w * h) ≡ sum (λ x. sum (λ y. f x y) h) w
unfolding sum
sum-places f w zero = let e : w * 0 ≡ 0 = omega arith in rw (e, sum-zero w)
sum-places f w (suc h) =
    let e : w * suc h ≡ w * h + w = omega arith in
    let parts = sum_parts (λ j. f (j % w) (j / w)) (w * h) w in
    let row = sum_ext_lt _ (λ x. f x h) w at in
    rw e (omega (arith, parts, sum-places f w h, row, sum-add (λ x. sum (λ y. f x y) h) (λ x. f x h) w))
  where
    at : (x : ℕ) → x < w → f ((w * h + x) % w) ((w * h + x) / w) ≡ f x h
    at x p =
        let e : w * h + x ≡ h * w + x = omega arith in
        rw (e, digits_mod h {m = w} {r = x} p, digits_div h {m = w} {r = x} p)
