-- The taps of boxes convolved: none is 0 up to the boxes' reach, and those of two and three boxes in closed form.
use mathlib.Core.Path.{◌≡◌, ap, ◌∙◌}
use Prim.Native.Nat.{ℕ, zero, suc, ◌+◌, ◌*◌, ◌-◌, ◌≤◌, ◌<◌, min}
use native.Mathlib.Omega.{arith}
use native.Mathlib.Nat.{le_trans}
use native.Mathlib.Numerals.{add-one}
use Rattle.kernels_model.specs.Choice.{within}
use Rattle.kernels_model.specs.Sum.{sum, Row, running, dist}
use Rattle.kernels_model.specs.Tap.{shift, box, convolved, one, box_tap}
use Rattle.kernels_model.proofs.Numbers.Choices.{by_lt, within_yes, within_no, same_yes}
use Rattle.kernels_model.proofs.Sums.FiniteSums.{term_le}
use Rattle.kernels_model.proofs.Sums.BoxSums.{running-box, box_one}
use Rattle.kernels_model.proofs.Taps.TapForms.{taps_dist}

-- UP TO THE REACH
-- a box of a row is at least any of the cells it sums
box-over : (f : Row) (q x j : ℕ) → j ≤ q → j ≤ x → f (x - j) ≤ box (suc q) f x
unfolding box shift
box-over f q x j p h =
    rw (← within_yes j x (f (x - j)) h) (term_le (λ j. within j x (f (x - j))) j (suc q) (omega arith))

-- n boxes of q + 1 ones have no 0 up to cell n q
taps_some : (n q x : ℕ) → x ≤ n * q → 0 < convolved n (suc q) one x
unfolding convolved one
taps_some zero q x h = rw (same_yes x 0 1 (omega arith)) (omega arith)
taps_some (suc n) q x h =
    le_trans
    (taps_some n q (x - min x q) (omega arith))
    (box-over (convolved n (suc q) one) q x (min x q) (omega arith) (omega arith))

-- n boxes of radius r have no 0 up to n r cells from the middle
pub box_near : (n r d : ℕ) → d ≤ n * r → 0 < box_tap n r d
unfolding box_tap
box_near n r d h = rw (add-one (2 * r)) (taps_some n (2 * r) (n * r + d) (omega arith))

-- CLOSED FORMS
-- a box of l cells of a row is the sum of the row so far, in the first l cells
box_first : (l : ℕ) (f : Row) (x : ℕ) → x < l → box l f x ≡ sum f (suc x)
unfolding running shift
box_first l f x h = omega (arith, running-box f l x, within_no l x (running f (x - l)) h)

-- and from there on that sum less the one l cells back
box_later : (l : ℕ) (f : Row) (m : ℕ) → box l f (l + m) + sum f (suc m) ≡ sum f (suc (l + m))
unfolding running shift
box_later l f m =
    let e : l + m - l ≡ m = omega arith in
    omega (arith, running-box f l (l + m), within_yes l (l + m) (running f (l + m - l)) (omega arith), ap (running f) e)

-- the first n cells of one box
one-sum : (l n : ℕ) → sum (box l one) n ≡ min n l
unfolding sum
one-sum l zero = omega arith
one-sum l (suc n) =
    by_lt n l
    (λ g. omega (arith, one-sum l n, box_one l n, within_yes (suc n) l 1 g))
    (λ g. omega (arith, one-sum l n, box_one l n, within_no (suc n) l 1 (omega arith)))

-- two boxes go up by 1 a cell, and down again
two_taps : (l x : ℕ) → box l (box l one) x ≡ min (suc x) (2 * l - suc x)
two_taps l x =
    by_lt x l
    (λ g. omega (arith, box_first l (box l one) x g, one-sum l (suc x)))
    (λ g.
    let e : l + (x - l) ≡ x = omega arith in
    omega (arith, rw e at (box_later l (box l one) (x - l)), one-sum l (suc x), one-sum l (suc (x - l))))

-- so the sum of their first n cells is n (n + 1) / 2
two_sum : (l n : ℕ) → n ≤ l → 2 * sum (box l (box l one)) n ≡ n * (n + 1)
unfolding sum
two_sum l zero h = omega arith
two_sum l (suc n) h = rw (two_taps l n) (omega (arith, two_sum l n (omega arith)))

-- and from there on twice as much is lost
two_sum_later : (l m : ℕ) → m ≤ l
    → 2 * sum (box l (box l one)) (l + m) + 2 * (m * (m + 1)) ≡ (l + m) * (l + m + 1)
unfolding sum
two_sum_later l zero h =
    let e : l + 0 ≡ l = omega arith in
    rw e (omega (arith, two_sum l l (omega arith)))
two_sum_later l (suc m) h =
    let e : l + suc m ≡ suc (l + m) = omega arith in
    let down : min (suc (l + m)) (2 * l - suc (l + m)) + suc m ≡ l = omega arith in
    rw e (omega (arith, two_sum_later l m (omega arith), two_taps l (l + m)))

-- three boxes sum two, so they lose three times as much
three_first : (l x : ℕ) → x < l → 2 * box l (box l (box l one)) x ≡ suc x * (suc x + 1)
three_first l x h = rw (box_first l (box l (box l one)) x h) (two_sum l (suc x) h)

three_later : (l m : ℕ) → m < l
    → 2 * box l (box l (box l one)) (l + m) + 3 * (suc m * (suc m + 1)) ≡ suc (l + m) * (suc (l + m) + 1)
three_later l m h =
    let e : l + suc m ≡ suc (l + m) = omega arith in
    omega (arith, box_later l (box l (box l one)) m, two_sum l (suc m) h, rw e at (two_sum_later l (suc m) h))

-- the tap of two boxes falls by 1 a cell
pub two_boxes : (r d : ℕ) → box_tap 2 r d ≡ 2 * r + 1 - d
unfolding box_tap convolved
two_boxes r d = two_taps (2 * r + 1) (2 * r + d) ∙ omega arith

-- the tap of three boxes, by the cells to their end and those of them past the first box
pub three_boxes : (r d : ℕ) → d ≤ 3 * r
    → 2 * box_tap 3 r d + 3 * ((r - d) * (r - d + 1)) ≡ (3 * r + 1 - d) * (3 * r + 1 - d + 1)
unfolding convolved
three_boxes r d h = rw (← mirrored) (by_lt d r inner outer)
  where
    l : ℕ
    l = 2 * r + 1

    mirrored : box l (box l (box l one)) (3 * r - d) ≡ box_tap 3 r d
    mirrored = let e : dist (3 * r - d) (3 * r) ≡ d = omega arith in taps_dist 3 r (3 * r - d) ∙ ap (box_tap 3 r) e

    inner : d < r
        → 2 * box l (box l (box l one)) (3 * r - d) + 3 * ((r - d) * (r - d + 1)) ≡ (3 * r + 1 - d) * (3 * r + 1 - d + 1)
    inner g =
        let i : 3 * r - d ≡ l + (r - suc d) = omega arith in
        let m : r - d ≡ suc (r - suc d) = omega arith in
        let e : 3 * r + 1 - d ≡ suc (l + (r - suc d)) = omega arith in
        rw (i, m, e) (three_later l (r - suc d) (omega arith))

    outer : r ≤ d
        → 2 * box l (box l (box l one)) (3 * r - d) + 3 * ((r - d) * (r - d + 1)) ≡ (3 * r + 1 - d) * (3 * r + 1 - d + 1)
    outer g =
        let m : r - d ≡ 0 = omega arith in
        let e : 3 * r + 1 - d ≡ suc (3 * r - d) = omega arith in
        rw (m, e) (omega (arith, three_first l (3 * r - d) (omega arith)))
