-- Areas: the sum of all taps of each kernel, and the sum of all weights, which is the whole.
use mathlib.Core.Path.{◌≡◌, refl, ap, sym, ◌∙◌}
use Prim.Native.Nat.{ℕ, zero, suc, ◌+◌, ◌*◌, ◌-◌, ◌^◌, ◌≤◌, ◌<◌}
use native.Mathlib.Omega.{arith}
use native.Mathlib.Nat.{div-mul-le_self, le_trans, one-mul, pow-zero, pow-suc, pow-succ'}
use native.Mathlib.Numerals.{add-one}
use Rattle.kernels_model.specs.Fixed.{unit}
use Rattle.kernels_model.specs.Choice.{same}
use Rattle.kernels_model.specs.Sum.{sum, Row, dist}
use Rattle.kernels_model.specs.Shape.{Shape, Box, Tent, Triple, Diamond, Hexagon, Octagon, reach_of}
use Rattle.kernels_model.specs.Tap.{shift, box, convolved, one, box_tap, half, octagon_tap, tap, Taps, square_sum, area}
use Rattle.kernels_model.specs.Tap.{share_for, rest_for, rest, weight}
use Rattle.kernels_model.specs.Facts.{WholeFact, ShapesWhole, OctagonWhole}
use Rattle.kernels_model.proofs.Numbers.Choices.{by_lt, by_eq, within_yes, if_same, same_yes, same_no, same_as}
use Rattle.kernels_model.proofs.Sums.FiniteSums.{sum_ext, sum_ext_lt, sum-add, sum_mul, sum-zero, sum_const, sum_swap}
use Rattle.kernels_model.proofs.Sums.FiniteSums.{sum_product, term_le, sum_same}
use Rattle.kernels_model.proofs.Sums.BoxSums.{sum-shift}
use Rattle.kernels_model.proofs.Taps.TapForms.{taps_dist, box_tap_lem, diamond_height, hexagon_height, octagon_height}
use Rattle.kernels_model.proofs.Taps.TapForms.{diamond_columns, hexagon_columns, octagon_columns, far_x, far_y}
use Rattle.kernels_model.proofs.Taps.Columns.{outline_area}

-- AREAS
square_ext : (f g : ℕ → ℕ → ℕ) (m : ℕ) → ((dx dy : ℕ) → f dx dy ≡ g dx dy) → square_sum f m ≡ square_sum g m
square_ext f g m h = sum_ext _ _ (λ x. sum_ext _ _ (λ y. h (dist x m) (dist y m)) (2 * m + 1)) (2 * m + 1)

square_add : (f g : Taps) (m : ℕ) → square_sum (λ dx dy. f dx dy + g dx dy) m ≡ square_sum f m + square_sum g m
square_add f g m =
    sum_ext _ _ (λ x. sum-add (λ y. f (dist x m) (dist y m)) (λ y. g (dist x m) (dist y m)) (2 * m + 1)) (2 * m + 1)
    ∙ sum-add _ _ (2 * m + 1)

square_mul : (c : ℕ) (f : Taps) (m : ℕ) → square_sum (λ dx dy. c * f dx dy) m ≡ c * square_sum f m
square_mul c f m =
    sum_ext _ _ (λ x. sum_mul c (λ y. f (dist x m) (dist y m)) (2 * m + 1)) (2 * m + 1) ∙ sum_mul c _ (2 * m + 1)

-- a term is at most the sum
square_le : (f : ℕ → ℕ → ℕ) (m dx dy : ℕ) → dx ≤ m → dy ≤ m → f dx dy ≤ square_sum f m
square_le f m dx dy p q = rw e (le_trans column columns)
  where
    right_of : (d : ℕ) → d ≡ dist (m + d) m
    right_of d = omega arith

    e : f dx dy ≡ f (dist (m + dx) m) (dist (m + dy) m)
    e = λ i. f (right_of dx i) (right_of dy i)

    column : f (dist (m + dx) m) (dist (m + dy) m) ≤ sum (λ y. f (dist (m + dx) m) (dist y m)) (2 * m + 1)
    column = term_le (λ y. f (dist (m + dx) m) (dist y m)) (m + dy) (2 * m + 1) (omega arith)

    columns : sum (λ y. f (dist (m + dx) m) (dist y m)) (2 * m + 1) ≤ square_sum f m
    columns = term_le (λ x. sum (λ y. f (dist x m) (dist y m)) (2 * m + 1)) (m + dx) (2 * m + 1) (omega arith)

-- THE WHOLE
-- the shares of all taps are at most the whole
share_le : (a : ℕ) → share_for a * a ≤ unit
unfolding share_for
share_le a = div-mul-le_self unit a

-- a number in the middle of the square, summed
middle_sum : (m w : ℕ) → square_sum (λ dx dy. same dx 0 (same dy 0 w)) m ≡ w
middle_sum m w =
    sum_ext _ (λ x. same x m w) (λ x. column x) (2 * m + 1)
    ∙ sum_same m w (2 * m + 1)
    ∙ within_yes (suc m) (2 * m + 1) w (omega arith)
  where
    near : (x : ℕ) → dist x m ≡ 0 → x ≡ m
    near x e = omega arith

    middle : (x : ℕ) → x ≡ m → dist x m ≡ 0
    middle x e = omega arith

    at : (x v : ℕ) → same (dist x m) 0 v ≡ same x m v
    at x v = same_as (dist x m) 0 x m v (near x) (middle x)

    row : sum (λ y. same (dist y m) 0 w) (2 * m + 1) ≡ w
    row =
        sum_ext _ (λ y. same y m w) (λ y. at y w) (2 * m + 1)
        ∙ sum_same m w (2 * m + 1)
        ∙ within_yes (suc m) (2 * m + 1) w (omega arith)

    column : (x : ℕ) → sum (λ y. same (dist x m) 0 (same (dist y m) 0 w)) (2 * m + 1) ≡ same x m w
    column x =
        by_eq x m
        (λ e. sum_ext _ _ (λ y. same_yes (dist x m) 0 _ (middle x e)) (2 * m + 1) ∙ row ∙ sym (same_yes x m w e))
        (λ n. sum_ext _ (λ y. 0) (λ y. same_no (dist x m) 0 _ (λ z. n (near x z))) (2 * m + 1)
        ∙ sum-zero (2 * m + 1) ∙ sym (same_no x m w n))

-- the weights of any taps are the shares of all of them and the remainder
pub whole : WholeFact
unfolding rest_for
whole f m =
    square_add (λ dx dy. share_for a * f dx dy) (λ dx dy. same dx 0 (same dy 0 (rest_for a))) m
    ∙ rw (square_mul (share_for a) f m, middle_sum m (rest_for a)) (omega (arith, share_le a))
  where
    a : ℕ
    a = square_sum f m

pub shapes_whole : ShapesWhole
unfolding weight area
shapes_whole s r = whole (tap s r) (reach_of s r)

pub octagon_whole : OctagonWhole
octagon_whole r t = whole (octagon_tap r t) r

-- a weight is 0 beyond the kernel's reach
pub weight_far_x : (s : Shape) (r dx dy : ℕ) → reach_of s r < dx → weight s r dx dy ≡ 0
unfolding weight
weight_far_x s r dx dy h = rw (far_x s r dx dy h, same_no dx 0 _ (omega arith)) (omega arith)

pub weight_far_y : (s : Shape) (r dx dy : ℕ) → reach_of s r < dy → weight s r dx dy ≡ 0
unfolding weight
weight_far_y s r dx dy h =
    rw (far_y s r dx dy h, same_no dy 0 (rest s r) (omega arith)) (omega (arith, if_same dx 0 0 0 (λ e. refl) (λ n. refl)))

-- a pixel of opacity 1 adds at most the whole to a cell
pub weight_le : (s : Shape) (r dx dy : ℕ) → weight s r dx dy ≤ unit
weight_le s r dx dy =
    by_lt m dx (λ g. none (weight_far_x s r dx dy g)) (λ g. by_lt m dy (λ k. none (weight_far_y s r dx dy k))
    (λ k. rw (← shapes_whole s r) (square_le (weight s r) m dx dy g k)))
  where
    m : ℕ
    m = reach_of s r

    none : weight s r dx dy ≡ 0 → weight s r dx dy ≤ unit
    none e = omega arith

-- AREAS OF BOXES
abbrev squared : ℕ → ℕ
squared n = n * n

-- n boxes of q + 1 ones add up to (q + 1)^n, summed past their end
boxes_sum : (n q m : ℕ) → n * q < m → sum (convolved n (suc q) one) m ≡ suc q ^ n
unfolding convolved box one
boxes_sum zero q m h = sum_same 0 1 m ∙ within_yes 1 m 1 (omega arith) ∙ sym (pow-zero (suc q))
boxes_sum (suc n) q m h =
    sum_swap (λ x j. shift j (convolved n (suc q) one) x) m (suc q)
    ∙ sum_ext_lt _ (λ j. suc q ^ n) (suc q) (λ j p. sum-shift j _ m ∙ boxes_sum n q (m - j) (omega arith))
    ∙ sum_const (suc q ^ n) (suc q)
    ∙ sym (pow-succ' (suc q) n)

-- the taps of n boxes on one axis
axis_area : (n r : ℕ) → sum (λ x. box_tap n r (dist x (n * r))) (2 * (n * r) + 1) ≡ (2 * r + 1) ^ n
axis_area n r =
    sum_ext _ _ (λ x. sym (taps_dist n r x)) (2 * (n * r) + 1)
    ∙ rw (add-one (2 * r)) (boxes_sum n (2 * r) (2 * (n * r) + 1) (omega arith))

-- the taps of n boxes on both axes
boxes_area : (n r : ℕ) → square_sum (λ dx dy. box_tap n r dx * box_tap n r dy) (n * r) ≡ squared ((2 * r + 1) ^ n)
boxes_area n r =
    let axis : Row = λ x. box_tap n r (dist x (n * r)) in
    sym (sum_product axis axis (2 * (n * r) + 1) (2 * (n * r) + 1)) ∙ rw (axis_area n r)

-- the powers of up to three boxes, written out
power_one : (n : ℕ) → n ^ 1 ≡ n
power_one n = rw (pow-suc n 0, pow-zero n, one-mul n)

power_two : (n : ℕ) → n ^ 2 ≡ squared n
power_two n = rw (pow-suc n 1, power_one n)

power_three : (n : ℕ) → n ^ 3 ≡ squared n * n
power_three n = rw (pow-suc n 2, power_two n)

-- THE AREA OF EACH KERNEL
-- in closed form, as the code works it out
unfoldable pub counted_area : Shape → ℕ → ℕ
counted_area Box r = squared (2 * r + 1)
counted_area Tent r = squared (squared (2 * r + 1))
counted_area Triple r = squared (squared (2 * r + 1) * (2 * r + 1))
counted_area Diamond r = 2 * r + 1 + 2 * r * r
counted_area Hexagon r = 2 * r + 1 + 4 * half r * (2 * r - half r)
counted_area Octagon r = (2 * r + 1) * (2 * half r + 1) + 2 * (r - half r) * (r + half r)

-- an octagon of any t up to r
octagon_area : (r t : ℕ) → t ≤ r → square_sum (octagon_tap r t) r ≡ (2 * r + 1) * (2 * t + 1) + 2 * (r - t) * (r + t)
octagon_area r t p =
    let e : 2 * r - (r - t) ≡ r + t = omega arith in
    square_ext _ _ r (octagon_columns r t)
    ∙ outline_area (octagon_height r t) r t 1 (r - t) (omega arith) (λ d. omega arith) (λ d q. omega arith)
    ∙ rw e (omega arith)

-- the sum of all taps is the counted area
pub area_counted : (s : Shape) (r : ℕ) → area s r ≡ counted_area s r
unfolding area counted_area tap
area_counted Box r = square_ext _ _ (1 * r) (box_tap_lem r) ∙ boxes_area 1 r ∙ ap squared (power_one (2 * r + 1))
area_counted Tent r = boxes_area 2 r ∙ ap squared (power_two (2 * r + 1))
area_counted Triple r = boxes_area 3 r ∙ ap squared (power_three (2 * r + 1))
area_counted Diamond r =
    let e : 2 * r - r ≡ r = omega arith in
    rw (one-mul r)
    (square_ext _ _ r (diamond_columns r)
    ∙ outline_area (diamond_height r) r 0 1 r (omega arith) (λ d. omega arith) (λ d q. omega arith)
    ∙ rw e (omega arith))
area_counted Hexagon r =
    rw (one-mul r)
    (square_ext _ _ r (hexagon_columns r)
    ∙ outline_area (hexagon_height r) r 0 2 (half r) (omega arith) (λ d. omega arith) (λ d q. omega arith)
    ∙ omega arith)
area_counted Octagon r = rw (one-mul r) (octagon_area r (half r) (omega arith))

-- no kernel is empty
counted_some : (s : Shape) (r : ℕ) → 0 < counted_area s r
unfolding counted_area
counted_some s r = grind arith

pub area_some : (s : Shape) (r : ℕ) → 0 < area s r
area_some s r = rw (area_counted s r) (counted_some s r)
