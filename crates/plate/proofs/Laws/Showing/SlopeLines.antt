-- The lines of a slope, one cell for each: what the next row finds.
use Rattle.std.proofs.Common.{◌≡◌, ℕ, zero, suc, ◌+◌, ◌-◌, ◌*◌, ◌%◌, ◌^◌, ◌<◌, ◌≤◌, List, get_or, sym, refl, ap, ◌∙◌, arith}
use Rattle.kernels_model.specs.Sum.{Plane, slope}
use Rattle.kernels_model.proofs.Numbers.Choices.{by_lt, if_within, within_yes, within_no}
use Rattle.kernels_model.specs.Facts.{slope_in}
use Rattle.kernels_model.proofs.Sums.SlopeSums.{slope_in_lem}
use Rattle.plate.specs.Passes.{from_above, FallingLines, from_below, RisingLines}
use Rattle.plate.proofs.Laws.Numbers.Wraps.{wrap_back}

-- FALLING LINES
pub slope_from_above : (k : ℕ) (f : Plane) (x y : ℕ) → slope k 0 f x y ≡ f x y + from_above k f x y
unfolding slope from_above
slope_from_above k f zero y = omega arith
slope_from_above k f (suc x) y = refl

from_above_first : (k : ℕ) (f : Plane) (x y : ℕ) → y < k → from_above k f x y ≡ 0
unfolding from_above
from_above_first k f zero y l = refl
from_above_first k f (suc x) y l = within_no k (y + 0) _ (omega arith)

from_above_next : (k : ℕ) (f : Plane) (x y : ℕ) → from_above k f (suc x) (y + k) ≡ slope k 0 f x y
unfolding from_above
from_above_next k f x y =
    let e : y + k + 0 - k ≡ y = omega arith in
    within_yes k (y + k + 0) _ (omega arith) ∙ rw e

from_above_left : (k : ℕ) (f : Plane) (y : ℕ) → from_above k f 0 y ≡ 0
unfolding from_above
from_above_left k f y = refl

-- before the first row
pub falling_start : (k n h : ℕ) (o : ℕ → ℕ) (f : Plane) (s : List ℕ)
    → ((r x : ℕ) → r < k → x < n → get_or s (o r + x) 0 ≡ 0)
    → ((r : ℕ) → k ≤ r → r < h + k → get_or s (o r) 0 ≡ 0)
    → FallingLines k n h o f s 0
falling_start k n h o f s z q =
    record {
      brings = λ r x a b e. z r x (omega arith) e ∙ sym (ap (λ (v : ℕ). v % 2 ^ 64) (from_above_first k f x r (omega arith)));
      fresh = λ r a b. q r (omega arith) b;
    }

pub falling_next : (k n h : ℕ) (o : ℕ → ℕ) (f : Plane) (s s' : List ℕ) (y : ℕ) → 0 < k → y < h → o (y + k) + 1 ≡ o y
    → ((i : ℕ) → i < n → get_or s' (o y + i) 0 ≡ (get_or s (o y + i) 0 + f i y) % 2 ^ 64)
    → ((r x : ℕ) → y < r → r < y + k → x < n → get_or s' (o r + x) 0 ≡ get_or s (o r + x) 0)
    → ((r : ℕ) → y + k ≤ r → r < h + k → get_or s' (o r) 0 ≡ get_or s (o r) 0)
    → FallingLines k n h o f s y → FallingLines k n h o f s' (y + 1)
falling_next k n h o f s s' y pos low step new near far old =
    record {
      brings = λ r x a b e. by_lt r (y + k)
          (λ l. near r x (omega arith) l e ∙ old.brings r x (omega arith) l e)
          (λ l. let q : r ≡ y + k = omega arith in rw q (last x e));
      fresh = λ r a b. far r (omega arith) b ∙ old.fresh r (omega arith) b;
    }
  where
    last : (x : ℕ) → x < n → get_or s' (o (y + k) + x) 0 ≡ from_above k f x (y + k) % 2 ^ 64
    last zero e =
        let q : o (y + k) + 0 ≡ o (y + k) = omega arith in
        rw (q, from_above_left k f (y + k))
        (far (y + k) (omega arith) (omega arith) ∙ old.fresh (y + k) (omega arith) (omega arith))
    last (suc x) e =
        let q : o (y + k) + suc x ≡ o y + x = omega arith in
        rw (q, from_above_next k f x y)
        (new x (omega arith)
        ∙ omega (arith, old.brings y x (omega arith) (omega arith) (omega arith), slope_from_above k f x y))

-- RISING LINES
pub from_below_in : (h k : ℕ) (f : Plane) (x y : ℕ) → y < h → from_below h k f x y ≡ slope 0 k f x y
unfolding from_below
from_below_in h k f x y l = within_yes (suc y) h _ l

from_below_none : (h k : ℕ) (f : Plane) (x y : ℕ) → h ≤ y → from_below h k f x y ≡ 0
unfolding from_below
from_below_none h k f x y l = within_no (suc y) h _ (omega arith)

-- in a plane of h rows
module _ (h k : ℕ) (f : Plane) (z : (x y : ℕ) → h ≤ y → f x y ≡ 0) where
  from_below_first : (y : ℕ) → y < h → from_below h k f 0 y ≡ f 0 y
  unfolding slope
  from_below_first y l = from_below_in h k f 0 y l

  from_below_next : (x y : ℕ) → y < h → from_below h k f (suc x) y ≡ f (suc x) y + from_below h k f x (y + k)
  unfolding slope_in from_below
  from_below_next x y l =
      let e : y + k - 0 ≡ y + k = omega arith in
      from_below_in h k f (suc x) y l
      ∙ sym (slope_in_lem h 0 k f z (suc x) y l)
      ∙ ap (λ (v : ℕ). f (suc x) y + v)
      (within_yes 0 (y + k) _ (omega arith)
      ∙ rw e (if_within (suc (y + k)) h _ _
      (λ a. rw (within_yes (suc (y + k)) h (slope 0 k f x (y + k)) a) (slope_in_lem h 0 k f z x (y + k) a))
      (λ a. sym (within_no (suc (y + k)) h _ a))))

  -- below the last row
  pub rising_start : (n : ℕ) (o : ℕ → ℕ) (s : List ℕ) → ((r x : ℕ) → h ≤ r → r < h + k → x < n → get_or s (o r + x) 0 ≡ 0)
      → RisingLines k n h o f s h
  rising_start n o s q =
      record {
        brings = λ r x a b e. q r x a b e ∙ sym (ap (λ (v : ℕ). v % 2 ^ 64) (from_below_none h k f x r a));
        later = λ r a b. absurd (omega arith);
      }

  module _ (n : ℕ) (o : ℕ → ℕ) (s s' : List ℕ) (y : ℕ) (some : 0 < n) (pos : 0 < k) (low : y < h) (step : o (y + k) ≡ o y + 1)
      (near : (r x : ℕ) → y < r → r < y + k → x < n → get_or s' (o r + x) 0 ≡ get_or s (o r + x) 0)
      (far : (r : ℕ) → y + k ≤ r → r < h + k → get_or s' (o r + (n - 1)) 0 ≡ get_or s (o r + (n - 1)) 0) where
    -- a row's marks laid on, from the bottom upwards
    pub rising_laid : get_or s (o y) 0 ≡ 0
        → ((i : ℕ) → i < n → get_or s' (o y + i) 0 ≡ (get_or s (o y + i) 0 + f i y) % 2 ^ 64)
        → RisingLines k n h o f s (y + 1) → RisingLines k n h o f s' y
    rising_laid none new old =
        record {
          brings = λ r x a b e. by_lt y r
              (λ l. near r x l b e ∙ old.brings r x (omega arith) (omega arith) e)
              (λ l. let q : r ≡ y = omega arith in rw q (first x e));
          later = λ r a b. far r a b ∙ by_lt (y + k) r
              (λ l. old.later r (omega arith) b)
              (λ l. old.brings r (n - 1) (omega arith) (omega arith) (omega arith));
        }
      where
        first : (x : ℕ) → x < n → get_or s' (o y + x) 0 ≡ from_below h k f x y % 2 ^ 64
        first zero e =
            let q : o y + 0 ≡ o y = omega arith in
            new 0 e ∙ rw (q, none, from_below_first y low) (omega arith)
        first (suc x) e =
            let q : o y + suc x ≡ o (y + k) + x = omega arith in
            new (suc x) e
            ∙ rw (q, from_below_next x y low) (omega (arith, old.brings (y + k) x (omega arith) (omega arith) (omega arith)))

    -- a row's marks taken off, from the top downwards
    pub rising_next : ((i : ℕ) → i < n → get_or s' (o y + i) 0 ≡ (get_or s (o y + i) 0 + (2 ^ 64 - 1) * f i y) % 2 ^ 64)
        → RisingLines k n h o f s y → RisingLines k n h o f s' (y + 1)
    rising_next new old =
        record {
          brings = λ r x a b e. by_lt r (y + k)
              (λ l. near r x (omega arith) l e ∙ old.brings r x (omega arith) l e)
              (λ l. let q : r ≡ y + k = omega arith in rw q (last x e));
          later = λ r a b. far r (omega arith) b ∙ old.later r (omega arith) b;
        }
      where
        last : (x : ℕ) → x < n → get_or s' (o (y + k) + x) 0 ≡ from_below h k f x (y + k) % 2 ^ 64
        last x e =
            by_lt (suc x) n
            (λ l.
            let q : o (y + k) + x ≡ o y + suc x = omega arith in
            rw q (new (suc x) l
            ∙ wrap_back (from_below h k f x (y + k)) (f (suc x) y) _
            (old.brings y (suc x) (omega arith) (omega arith) l ∙ ap (λ (v : ℕ). v % 2 ^ 64) (from_below_next x y low))))
            (λ l.
            let q : x ≡ n - 1 = omega arith in
            rw q (far (y + k) (omega arith) (omega arith) ∙ old.later (y + k) (omega arith) (omega arith)))
