-- Laws of `within`, `same` and `strip`: how an equation with one is proved, once for each answer of its test.
use mathlib.Core.Path.{◌≡◌, refl, sym, ◌∙◌}
use mathlib.Core.Bool.{Bool, true, false}
use Prim.Native.Nat.{ℕ, suc, ◌+◌, ◌*◌, ◌≤◌, ◌<◌}
use native.Mathlib.Omega.{arith}
use lib.Dec.{ltb, leb, eqb}
use borrow.Author.Tests.{ltb-true, ltb-false, leb-true, leb-false, eqb-true, eqb-false}
use Rattle.kernels_model.specs.Choice.{pick, within, same, strip}

-- a proof by two cases
pub by_test : {P : Type 0} (t : Bool) → (t ≡ true → P) → (t ≡ false → P) → P
by_test t p q = grind arith

pub by_lt : {P : Type 0} (a b : ℕ) → (a < b → P) → (b ≤ a → P) → P
by_lt a b p q = by_test (ltb a b) (λ e. p (ltb-true a b e)) (λ e. q (ltb-false a b e))

pub by_eq : {P : Type 0} (a b : ℕ) → (a ≡ b → P) → ((a ≡ b → ⊥) → P) → P
by_eq a b p q = by_test (eqb a b) (λ e. p (eqb-true a b e)) (λ e. q (eqb-false a b e))

pub pick_if : (t : Bool) (x y z : ℕ) → (t ≡ true → x ≡ z) → (t ≡ false → y ≡ z) → pick t x y ≡ z
pick_if t x y z p q = grind arith

pub if_within : (a b w z : ℕ) → (a ≤ b → w ≡ z) → (b < a → 0 ≡ z) → within a b w ≡ z
unfolding within
if_within a b w z p q = pick_if (leb a b) w 0 z (λ e. p (leb-true a b e)) (λ e. q (leb-false a b e))

pub within_yes : (a b w : ℕ) → a ≤ b → within a b w ≡ w
within_yes a b w h = if_within a b w w (omega arith) (omega arith)

pub within_no : (a b w : ℕ) → b < a → within a b w ≡ 0
within_no a b w h = if_within a b w 0 (omega arith) (omega arith)

-- two tests that agree
pub within_as : (a b c d w : ℕ) → (a ≤ b → c ≤ d) → (c ≤ d → a ≤ b) → within a b w ≡ within c d w
within_as a b c d w p q =
    if_within a b w (within c d w)
    (λ e. sym (within_yes c d w (p e)))
    (λ n. sym (if_within c d w 0 (λ e. absurd (no a b n (q e))) (λ _. refl)))
  where
    no : (a b : ℕ) → b < a → a ≤ b → ⊥
    no a b n e = omega arith

pub if_same : (a b w z : ℕ) → (a ≡ b → w ≡ z) → ((a ≡ b → ⊥) → 0 ≡ z) → same a b w ≡ z
unfolding same
if_same a b w z p q = pick_if (eqb a b) w 0 z (λ e. p (eqb-true a b e)) (λ e. q (eqb-false a b e))

pub same_yes : (a b w : ℕ) → a ≡ b → same a b w ≡ w
same_yes a b w e = if_same a b w w (omega arith) (omega arith)

pub same_no : (a b w : ℕ) → (a ≡ b → ⊥) → same a b w ≡ 0
same_no a b w n = if_same a b w 0 (omega arith) (omega arith)

pub same_as : (a b c d w : ℕ) → (a ≡ b → c ≡ d) → (c ≡ d → a ≡ b) → same a b w ≡ same c d w
same_as a b c d w p q =
    if_same a b w (same c d w) (λ e. sym (same_yes c d w (p e))) (λ n. sym (same_no c d w (λ e. n (q e))))

pub same_add : (a b v w : ℕ) → same a b (v + w) ≡ same a b v + same a b w
same_add a b v w =
    by_eq a b
    (λ e. omega (arith, same_yes a b v e, same_yes a b w e, same_yes a b (v + w) e))
    (λ n. omega (arith, same_no a b v n, same_no a b w n, same_no a b (v + w) n))

pub same_mul : (c a b w : ℕ) → same a b (c * w) ≡ c * same a b w
same_mul c a b w =
    by_eq a b
    (λ e. same_yes a b (c * w) e ∙ rw (same_yes a b w e))
    (λ n. same_no a b (c * w) n ∙ rw (same_no a b w n) (omega arith))

pub strip_in : (x0 n x v : ℕ) → x0 ≤ x → x < x0 + n → strip x0 n x v ≡ v
unfolding strip
strip_in x0 n x v p q = rw (within_yes x0 x, within_yes (suc x) (x0 + n))

pub strip-left : (x0 n x v : ℕ) → x < x0 → strip x0 n x v ≡ 0
unfolding strip
strip-left x0 n x v p = within_no x0 x _ p

pub strip_right : (x0 n x v : ℕ) → x0 + n ≤ x → strip x0 n x v ≡ 0
unfolding strip
strip_right x0 n x v p = if_within _ _ _ _ (λ g. within_no (suc x) (x0 + n) v (omega arith)) (λ g. refl)
