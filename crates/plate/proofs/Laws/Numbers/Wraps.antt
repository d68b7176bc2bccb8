-- Numbers that wrap at 2^64.
use Rattle.std.proofs.Common.{◌≡◌, ℕ, ◌+◌, ◌-◌, ◌*◌, ◌%◌, ◌^◌, arith}
use native.Mathlib.Nat.{mod-add-mod, add-mul-mod_self_left}

-- one more number
pub wrap_more : (a b s t : ℕ) → s ≡ a % 2 ^ 64 → t ≡ (s + b) % 2 ^ 64 → t ≡ (a + b) % 2 ^ 64
wrap_more a b s t p q = omega arith

-- b with its opposite is nothing
opposed : (a b : ℕ) → (b + a + (2 ^ 64 - 1) * b) % 2 ^ 64 ≡ a % 2 ^ 64
opposed a b =
    let s : b + a + (2 ^ 64 - 1) * b ≡ a + 2 ^ 64 * b = omega arith in
    rw (s, add-mul-mod_self_left)

-- a summand taken off again
pub wrap_back : (a b s : ℕ) → s ≡ (b + a) % 2 ^ 64 → (s + (2 ^ 64 - 1) * b) % 2 ^ 64 ≡ a % 2 ^ 64
wrap_back a b s e = rw (e, mod-add-mod) (opposed a b)
