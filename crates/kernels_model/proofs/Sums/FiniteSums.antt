-- Laws of finite sums, and of numbers compared at 2^64.
use mathlib.Core.Path.{◌≡◌, refl, ap, sym, ◌∙◌}
use Prim.Native.Nat.{ℕ, zero, suc, ◌+◌, ◌*◌, ◌/◌, ◌^◌, ◌%◌, ◌≤◌, ◌<◌}
use native.Mathlib.Omega.{arith}
use native.Mathlib.Nat.{add-mul-mod_self_left, div-add-mod, mul_comm}
use Rattle.kernels_model.specs.Choice.{within, same}
use Rattle.kernels_model.specs.Sum.{sum, Row}
use Rattle.kernels_model.proofs.Numbers.Choices.{by_lt, by_eq, within_yes, within_no, same_yes, same_no}

pub sum_ext : (f g : Row) → ((k : ℕ) → f k ≡ g k) → (n : ℕ) → sum f n ≡ sum g n
unfolding sum
sum_ext f g h n = grind arith

pub sum_ext_lt : (f g : Row) (n : ℕ) → ((k : ℕ) → k < n → f k ≡ g k) → sum f n ≡ sum g n
unfolding sum
sum_ext_lt f g zero h = refl
sum_ext_lt f g (suc n) h = omega (arith, sum_ext_lt f g n (λ k p. h k (omega arith)), h n (omega arith))

pub sum-add : (f g : Row) (n : ℕ) → sum (λ k. f k + g k) n ≡ sum f n + sum g n
unfolding sum
sum-add f g zero = refl
sum-add f g (suc n) = omega (arith, sum-add f g n)

pub sum_mul : (c : ℕ) (f : Row) (n : ℕ) → sum (λ k. c * f k) n ≡ c * sum f n
unfolding sum
sum_mul c f zero = omega arith
sum_mul c f (suc n) = omega (arith, sum_mul c f n)

pub sum_const : (c n : ℕ) → sum (λ k. c) n ≡ n * c
unfolding sum
sum_const c zero = omega arith
sum_const c (suc n) = omega (arith, sum_const c n)

pub sum-zero : (n : ℕ) → sum (λ k. 0) n ≡ 0
sum-zero n = sum_const 0 n ∙ omega arith

pub sum_swap : (f : ℕ → ℕ → ℕ) (m n : ℕ) → sum (λ i. sum (λ j. f i j) n) m ≡ sum (λ j. sum (λ i. f i j) m) n
unfolding sum
sum_swap f zero n = sym (sum-zero n)
sum_swap f (suc m) n = omega (arith, sum_swap f m n, sum-add (λ j. sum (λ i. f i j) m) (f m) n)

pub sum_front : (f : Row) (n : ℕ) → sum f (suc n) ≡ f 0 + sum (λ i. f (suc i)) n
unfolding sum
sum_front f zero = omega arith
sum_front f (suc n) = omega (arith, sum_front f n)

pub sum_product : (f g : Row) (m n : ℕ) → sum f m * sum g n ≡ sum (λ i. sum (λ j. f i * g j) n) m
sum_product f g m n =
    mul_comm (sum f m) (sum g n)
    ∙ sym (sum_mul (sum g n) f m)
    ∙ sum_ext _ _ (λ i. mul_comm (sum g n) (f i) ∙ sym (sum_mul (f i) g n)) m

-- the sum of a + b terms is that of the first a and that of the b after them
pub sum_parts : (f : Row) (a b : ℕ) → sum f (a + b) ≡ sum f a + sum (λ k. f (a + k)) b
unfolding sum
sum_parts f a zero = let e : a + 0 ≡ a = omega arith in rw e (omega arith)
sum_parts f a (suc b) = let e : a + suc b ≡ suc (a + b) = omega arith in rw e (omega (arith, sum_parts f a b))

pub sum-none : (f : Row) (n : ℕ) → ((k : ℕ) → k < n → f k ≡ 0) → sum f n ≡ 0
sum-none f n h = sum_ext_lt f (λ k. 0) n h ∙ sum-zero n

-- a row that is 0 before cell a, and 0 again b cells further on, is summed over those b cells alone
pub sum_between : (f : Row) (a b c : ℕ) → ((k : ℕ) → k < a → f k ≡ 0) → ((k : ℕ) → a + b ≤ k → f k ≡ 0)
    → sum f (a + b + c) ≡ sum (λ k. f (a + k)) b
sum_between f a b c before after =
    let rest = sum-none (λ k. f (a + b + k)) c (λ k h. after (a + b + k) (omega arith)) in
    omega (arith, sum_parts f (a + b) c, sum_parts f a b, sum-none f a before, rest)

-- a term is at most the sum
pub term_le : (f : Row) (k n : ℕ) → k < n → f k ≤ sum f n
unfolding sum
term_le f k zero h = absurd (omega arith)
term_le f k (suc n) h =
    by_lt k n (λ g. omega (arith, term_le f k n g)) (λ g. let e : k ≡ n = omega arith in rw e (omega arith))

-- a number in one cell, summed
pub sum_same : (a w n : ℕ) → sum (λ y. same y a w) n ≡ within (suc a) n w
unfolding sum
sum_same a w zero = sym (within_no (suc a) 0 w (omega arith))
sum_same a w (suc n) =
    by_lt a n
    (λ g.
    let next = within_yes (suc a) (suc n) w (omega arith) in
    omega (arith, sum_same a w n, within_yes (suc a) n w g, next, same_no n a w (omega arith)))
    (λ g. by_eq n a
    (λ e.
    let next = within_yes (suc a) (suc n) w (omega arith) in
    omega (arith, sum_same a w n, within_no (suc a) n w (omega arith), next, same_yes n a w e))
    (λ d.
    let next = within_no (suc a) (suc n) w (omega arith) in
    omega (arith, sum_same a w n, within_no (suc a) n w (omega arith), next, same_no n a w d)))

-- AT 2^64
infix 4 ◌≈◌
abbrev pub ◌≈◌ : Row → Row → Type 0
f ≈ g = (x : ℕ) → f x % 2 ^ 64 ≡ g x % 2 ^ 64

pub cong_add : (a b c d : ℕ) → a % 2 ^ 64 ≡ b % 2 ^ 64 → c % 2 ^ 64 ≡ d % 2 ^ 64 → (a + c) % 2 ^ 64 ≡ (b + d) % 2 ^ 64
cong_add a b c d p q = omega arith

-- with the modulus a variable, since omega stops at numbers of more than 38 digits
mod_mul : (m a b : ℕ) → a * b % m ≡ a % m * b % m
mod_mul m a b =
    let e : a * b ≡ a % m * b + m * (a / m * b) = ap (λ (z : ℕ). z * b) (sym (div-add-mod a m)) ∙ omega arith in
    rw (e, add-mul-mod_self_left)

mul_mod : (m a b : ℕ) → a * b % m ≡ a * (b % m) % m
mul_mod m a b = rw (mul_comm a b, mul_comm a (b % m)) (mod_mul m b a)

pub cong_mul : (m a b c d : ℕ) → a % m ≡ b % m → c % m ≡ d % m → a * c % m ≡ b * d % m
cong_mul m a b c d p q =
    rw (mod_mul m a c, mod_mul m b d, mul_mod m (a % m) c, mul_mod m (b % m) d, p, q)

pub sum_cong : (f g : Row) → f ≈ g → (n : ℕ) → sum f n % 2 ^ 64 ≡ sum g n % 2 ^ 64
unfolding sum
sum_cong f g h zero = refl
sum_cong f g h (suc n) = cong_add _ _ _ _ (sum_cong f g h n) (h n)
