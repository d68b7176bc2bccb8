-- Laws of a number's digits: how many there are, and that they are those that the library prints.
use mathlib.Core.Path.{◌≡◌, ap, sym, ◌∙◌}
use mathlib.Core.List.{List, [], ◌∷◌, ◌++◌}
use Prim.Native.Nat.{ℕ, zero, suc, ◌+◌, ◌*◌, ◌/◌, ◌%◌, ◌^◌, ◌≤◌, ◌<◌}
use native.Mathlib.Nat.{pow-suc}
use native.Mathlib.Omega.{arith}
use borrow.Author.Tests.{lt-ltb, le-ltb}
use lib.ListN.{length, length-append}
use Rattle.std.specs.Fmt.{decimal as printed}
use Rattle.std.proofs.lemmas.Fmt.{decimal_from_appends, length-decimal-le_succ}
use Rattle.kernels_model.proofs.Numbers.Choices.{by_lt}
use Rattle.records_model.specs.Text.{digit_zero, digits_by, decimal}

pow_some : (d : ℕ) → 1 ≤ 10 ^ d
pow_some zero = omega arith
pow_some (suc d) = rw (pow-suc 10 d) (omega (arith, pow_some d))

digits_one : (n k : ℕ) → k < 10 → digits_by n k ≡ (digit_zero + k) ∷ []
unfolding digits_by
digits_one zero k h = let small : k % 10 ≡ k = omega arith in rw small
digits_one (suc n) k h = rw (lt-ltb k 10 h)

digits_more : (n k : ℕ) → 10 ≤ k → digits_by (suc n) k ≡ digits_by n (k / 10) ++ ((digit_zero + k % 10) ∷ [])
unfolding digits_by
digits_more n k h = rw (le-ltb k 10 h)

-- more divisions than the number has digits change nothing
digits_same : (n m k : ℕ) → k ≤ n → k ≤ m → digits_by n k ≡ digits_by m k
digits_same zero m k p q = digits_one zero k (omega arith) ∙ sym (digits_one m k (omega arith))
digits_same (suc n) zero k p q = digits_one (suc n) k (omega arith) ∙ sym (digits_one zero k (omega arith))
digits_same (suc n) (suc m) k p q =
    by_lt k 10
    (λ h. digits_one (suc n) k h ∙ sym (digits_one (suc m) k h))
    (λ h.
    digits_more n k h
    ∙ ap (λ (t : List ℕ). t ++ ((digit_zero + k % 10) ∷ [])) (digits_same n m (k / 10) (omega arith) (omega arith))
    ∙ sym (digits_more m k h))

pub decimal-one : (k : ℕ) → k < 10 → decimal k ≡ (digit_zero + k) ∷ []
unfolding decimal
decimal-one k h = digits_one k k h

pub decimal-more : (k : ℕ) → 10 ≤ k → decimal k ≡ decimal (k / 10) ++ ((digit_zero + k % 10) ∷ [])
unfolding decimal
decimal-more k h =
    digits_same k (suc k) k (omega arith) (omega arith)
    ∙ digits_more k k h
    ∙ ap (λ (t : List ℕ). t ++ ((digit_zero + k % 10) ∷ [])) (digits_same k (k / 10) (k / 10) (omega arith) (omega arith))

pub decimal_longer : (k : ℕ) → 10 ≤ k → length (decimal k) ≡ length (decimal (k / 10)) + 1
decimal_longer k h = rw (decimal-more k h, length-append (decimal (k / 10)) ((digit_zero + k % 10) ∷ []))

-- a number of at most d + 1 digits
pub decimal_short : (d k : ℕ) → k < 10 ^ suc d → length (decimal k) ≤ suc d
decimal_short zero k h = rw (decimal-one k h) (omega arith)
decimal_short (suc d) k h =
    by_lt k 10
    (λ small. rw (decimal-one k small) (omega arith))
    (λ large.
    let above : k < 10 ^ suc d * 10 = rw (pow-suc 10 (suc d)) at h in
    let fewer = decimal_short d (k / 10) (omega arith) in
    omega (arith, decimal_longer k large))

pub decimal_some : (k : ℕ) → 1 ≤ length (decimal k)
decimal_some k =
    by_lt k 10
    (λ small. rw (decimal-one k small) (omega arith))
    (λ large. omega (arith, decimal_longer k large))

-- a number of 64 bits has at most 20 digits
pub decimal_long : (k : ℕ) → k < 2 ^ 64 → length (decimal k) ≤ 20
decimal_long k h = decimal_short 19 k (omega arith)

-- a number of at least d + 1 digits
decimal_wide : (d k : ℕ) → 10 ^ d ≤ k → suc d ≤ length (decimal k)
decimal_wide zero k h = decimal_some k
decimal_wide (suc d) k h =
    let above : 10 ^ d * 10 ≤ k = rw (pow-suc 10 d) at h in
    by_lt k 10
    (λ small. absurd (omega (arith, above, pow_some d)))
    (λ large. omega (arith, decimal_longer k large, decimal_wide d (k / 10) (omega arith)))

-- as many as its logarithm says, and one more
pub decimal_digits : (d k : ℕ) → 10 ^ d ≤ k → k < 10 * 10 ^ d → length (decimal k) ≡ d + 1
decimal_digits d k low high =
    let below : k < 10 ^ suc d = rw (pow-suc 10 d) (omega arith) in
    omega (arith, decimal_short d k below, decimal_wide d k low)

-- they are the digits that the library prints
pub decimal_is : (k : ℕ) → k < 2 ^ 64 → decimal k ≡ printed k
unfolding decimal
decimal_is k h =
    digits_same k (suc k) k (omega arith) (omega arith)
    ∙ decimal_from_appends digits_by (record { one = λ n m p. digits_one (suc n) m p; more = digits_more }) (suc k) k h
    (omega (arith, length-decimal-le_succ k h))
