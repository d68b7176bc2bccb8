-- Kernels of columns: the sum of their taps, and its closed form where the columns rise from both edges to a level middle.
use mathlib.Core.Path.{◌≡◌, refl, ap, ◌∙◌}
use Prim.Native.Nat.{ℕ, zero, suc, ◌+◌, ◌*◌, ◌-◌, ◌≤◌, ◌<◌, min}
use native.Mathlib.Omega.{arith}
use Rattle.kernels_model.specs.Choice.{within}
use Rattle.kernels_model.specs.Sum.{sum, Row, dist}
use Rattle.kernels_model.specs.Tap.{square_sum}
use Rattle.kernels_model.proofs.Numbers.Choices.{by_lt, within_yes, within_no}
use Rattle.kernels_model.proofs.Sums.FiniteSums.{sum_ext, sum_ext_lt, sum_front}
use Rattle.kernels_model.proofs.Taps.TapForms.{column_tap}

-- COLUMNS
-- a column's sum on its way, from row d to row d + 2 h
outside : (d h m : ℕ) → h < dist m (d + h) → min (suc m - d) (2 * h + 1) ≡ min (m - d) (2 * h + 1)
outside d h m p = omega arith

inside : (d h m : ℕ) → dist m (d + h) ≤ h → min (suc m - d) (2 * h + 1) ≡ min (m - d) (2 * h + 1) + 1
inside d h m p = omega arith

column_run : (d h m : ℕ) → sum (λ y. within (dist y (d + h)) h 1) m ≡ min (m - d) (2 * h + 1)
unfolding sum
column_run d h zero = omega arith
column_run d h (suc m) =
    by_lt h (dist m (d + h))
    (λ g. rw (outside d h m g, within_no (dist m (d + h)) h 1, column_run d h m) (plus_zero _))
    (λ g. rw (inside d h m g, within_yes (dist m (d + h)) h 1, column_run d h m))
  where
    plus_zero : (n : ℕ) → n + 0 ≡ n
    plus_zero n = omega arith

-- a column of half height h has 2 h + 1 taps
column_area : (r h : ℕ) → h ≤ r → sum (λ y. within (dist y r) h 1) (2 * r + 1) ≡ 2 * h + 1
column_area r h p =
    let e : r ≡ r - h + h = omega arith in
    ap (λ (c : ℕ). sum (λ y. within (dist y c) h 1) (2 * r + 1)) e ∙ column_run (r - h) h (2 * r + 1) ∙ omega arith

-- the sum of all taps of a kernel of columns
columns_area : (h : ℕ → ℕ) (r : ℕ) → ((d : ℕ) → h d ≤ r)
    → square_sum (column_tap h r) r ≡ sum (λ x. 2 * h (dist x r) + 1) (2 * r + 1)
unfolding column_tap
columns_area h r low =
    sum_ext_lt _ _ (2 * r + 1) (λ x q. sum_ext _ _ (reached x q) (2 * r + 1) ∙ column_area r (h (dist x r)) (low (dist x r)))
  where
    reached : (x : ℕ) → x < 2 * r + 1 → (y : ℕ)
        → within (dist x r) r (within (dist y r) (h (dist x r)) 1) ≡ within (dist y r) (h (dist x r)) 1
    reached x q y = within_yes (dist x r) r _ (omega arith)

-- OUTLINES
-- a sum over columns by their distance from the nearer edge: each distance below r twice, and the middle
edge_sum : (g : Row) (r : ℕ) → sum (λ x. g (r - dist x r)) (2 * r + 1) ≡ 2 * sum g r + g r
unfolding sum
edge_sum g zero = refl
edge_sum g (suc r) =
    let e : 2 * suc r + 1 ≡ suc (suc (2 * r + 1)) = omega arith in
    rw e
    (omega (
      arith,
      sum_front at (2 * r + 1),
      sum_ext_lt (λ x. at (suc x)) _ (2 * r + 1) further,
      edge_sum (λ d. g (suc d)) r,
      sum_front g r,
      ap g first,
      ap g last,
    ))
  where
    at : Row
    at x = g (suc r - dist x (suc r))

    further : (x : ℕ) → x < 2 * r + 1 → at (suc x) ≡ g (suc (r - dist x r))
    further x p = ap g (omega arith)

    first : suc r - dist 0 (suc r) ≡ 0
    first = omega arith

    last : suc r - dist (suc (2 * r + 1)) (suc r) ≡ 0
    last = omega arith

-- the taps of the first m columns, if the half heights go up from the edge's by a slope each over rise columns, and then are
-- level
rise_sum : (edge slope rise m : ℕ)
    → sum (λ x. 2 * (edge + slope * min rise x) + 1) m + slope * (min rise m + min rise m * min rise m)
    ≡ m * (2 * edge + 1) + 2 * (slope * (min rise m * m))
unfolding sum
rise_sum edge slope rise zero = let z : min rise 0 ≡ 0 = omega arith in rw z (omega arith)
rise_sum edge slope rise (suc m) =
    by_lt m rise
    (λ g.
    let y : min rise m ≡ m = omega arith in
    let z : min rise (suc m) ≡ suc m = omega arith in
    rw (y, z) (omega (arith, rw y at (rise_sum edge slope rise m))))
    (λ g.
    let y : min rise m ≡ rise = omega arith in
    let z : min rise (suc m) ≡ rise = omega arith in
    rw (y, z) (omega (arith, rw y at (rise_sum edge slope rise m))))

-- the sum of all taps of a kernel of such columns: rows of the whole width, as high as the edge's column, and above and below
-- them slope × rise narrower ones, whose mean width is 2 r - rise
pub outline_area : (h : ℕ → ℕ) (r edge slope rise : ℕ) → rise ≤ r → ((d : ℕ) → h d ≤ r)
    → ((d : ℕ) → d ≤ r → h d ≡ edge + slope * min rise (r - d))
    → square_sum (column_tap h r) r ≡ (2 * r + 1) * (2 * edge + 1) + 2 * (slope * rise * (2 * r - rise))
outline_area h r edge slope rise p low rises =
    columns_area h r low
    ∙ sum_ext_lt _ (λ x. at (r - dist x r)) (2 * r + 1) (λ x q. ap (λ (n : ℕ). 2 * n + 1) (rises (dist x r) (omega arith)))
    ∙ edge_sum at r
    ∙ total
  where
    at : Row
    at x = 2 * (edge + slope * min rise x) + 1

    total : 2 * sum at r + at r ≡ (2 * r + 1) * (2 * edge + 1) + 2 * (slope * rise * (2 * r - rise))
    total =
        let z : min rise r ≡ rise = omega arith in
        let e : 2 * r - rise + rise ≡ 2 * r = omega arith in
        rw z (omega (arith, rw z at (rise_sum edge slope rise r), ap (λ (n : ℕ). slope * rise * n) e))
