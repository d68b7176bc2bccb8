-- Laws of rounding to the nearest, a half upwards and a half to even.
use mathlib.Core.Path.{◌≡◌, sym, ap, ◌∙◌}
use Prim.Native.Nat.{ℕ, ◌+◌, ◌*◌, ◌-◌, ◌/◌, ◌%◌, ◌<◌, ◌≤◌, min}
use native.Mathlib.Omega.{arith}
use native.Mathlib.Nat.{div-add-mod', mod-lt, mul-le-mul_left, mul-le-mul_right}
use lib.Arith.{digits_div}
use Rattle.kernels_model.specs.Fixed.{value_top, matte_unit, matte_top}
use Rattle.kernels_model.specs.Rounding.{nearest, even_from, nearest_even, shown_value, shown_matte}
use Rattle.kernels_model.specs.Facts.{ToEven, EvenOnce, ValueFact, ValueTopFact, HalfUpOnce, NearestFact, MatteFact}
use Rattle.kernels_model.specs.Facts.{MatteTopFact}
use Rattle.kernels_model.proofs.Numbers.Choices.{by_lt}

-- a quotient by 2 or more is at most half, so one more of it is still a number of 64 bits
pub quotient_half : (a b : ℕ) → 2 ≤ b → 2 * (a / b) ≤ a
quotient_half a b two = omega (arith, div-add-mod' a b, mul-le-mul_left (a / b) two)

-- A HALF UPWARDS
-- q is nearest to a / b where 2 q b reaches 2 a + b but for less than 2 b
pub nearest_at : (a b q rest : ℕ) → q * (2 * b) + rest ≡ 2 * a + b → rest < 2 * b → nearest a b ≡ q
unfolding nearest
nearest_at a b q rest e h = ap (λ n. n / (2 * b)) (sym e) ∙ digits_div q {m = 2 * b} {r = rest} h

-- a rest below what it lacks is below a half
pub nearest-down : (a b : ℕ) → a % b < b - a % b → nearest a b ≡ a / b
nearest-down a b h = nearest_at a b (a / b) (2 * (a % b) + b) (omega (arith, div-add-mod' a b)) (omega arith)

-- any other rest is a half or more
pub nearest_up : (a b : ℕ) → 0 < b → b - a % b ≤ a % b → nearest a b ≡ a / b + 1
nearest_up a b some h =
    let r : a % b < b = mod-lt a some in
    nearest_at a b (a / b + 1) (2 * (a % b) - b) (omega (arith, div-add-mod' a b)) (omega arith)

-- it is within a half, and above where it is exactly that
pub half_up : NearestFact
half_up a b some =
    let whole = div-add-mod' a b in
    let rest : a % b < b = mod-lt a some in
    by_lt (a % b) (b - a % b)
    (λ h. rw (nearest-down a b h) (record { near = omega (arith, whole); up = λ e. omega (arith, whole) }))
    (λ h. rw (nearest_up a b some h) (record { near = omega (arith, whole); up = λ e. omega (arith, whole) }))

pub half_up_once : HalfUpOnce
half_up_once a b v w some p q = grind arith

-- A HALF TO EVEN
-- how an equation is proved: for a half, and for any other rest
if_half : (a b z : ℕ) → (2 * (a % b) ≡ b → even_from (a / b) ≡ z) → ((2 * (a % b) ≡ b → ⊥) → nearest a b ≡ z) → nearest_even a b ≡ z
unfolding nearest_even
if_half a b z p q = grind arith

-- a rest that is above what it lacks, or that is as much where the quotient is odd
pub even_up : (a b : ℕ) → 0 < b → b - a % b < a % b + a / b % 2 → nearest_even a b ≡ a / b + 1
even_up a b some h = if_half a b (a / b + 1) (λ e. omega arith) (λ n. nearest_up a b some (omega arith))

-- any other rest
pub even_down : (a b : ℕ) → a % b + a / b % 2 ≤ b - a % b → nearest_even a b ≡ a / b
even_down a b h = if_half a b (a / b) (λ e. omega arith) (λ n. nearest-down a b (omega arith))

-- it is within a half, and even where it is exactly that
to_even : (a b : ℕ) → 0 < b → ToEven a b (nearest_even a b)
to_even a b some =
    let whole = div-add-mod' a b in
    let rest : a % b < b = mod-lt a some in
    by_lt (b - a % b) (a % b + a / b % 2)
    (λ h. rw (even_up a b some h) (record { near = omega (arith, whole); even = λ e. omega (arith, whole) }))
    (λ h. rw (even_down a b h) (record { near = omega (arith, whole); even = λ e. omega (arith, whole) }))

-- of two such numbers none is the lower: they would be b apart, each half of b from a, and both even
not_below : (a b v w : ℕ) → 0 < b → ToEven a b v → ToEven a b w → v < w → ⊥
not_below a b v w some p q h =
    by_lt (v + 1) w
    (λ (far : v + 1 < w). omega (arith, mul-le-mul_right b far, p.near, q.near))
    (λ (next : w ≤ v + 1).
    let more = mul-le-mul_right b h in
    let less = mul-le-mul_right b next in
    omega (arith, p.even (omega (arith, p.near, q.near)), q.even (omega (arith, p.near, q.near))))

pub even_once : EvenOnce
even_once a b v w some p q =
    by_lt v w
    (λ h. absurd (not_below a b v w some p q h))
    (λ k. by_lt w v (λ h. absurd (not_below a b w v some q p h)) (λ l. omega arith))

-- THE SHOWN VALUE
-- "0 where matte is 0"
pub value_none : (light matte : ℕ) → matte ≡ 0 → shown_value light matte ≡ 0
unfolding shown_value
value_none light matte e = rw e

-- "else light / matte to the nearest, .. at most 4,095"
pub value_some : (light matte : ℕ) → (matte ≡ 0 → ⊥) → shown_value light matte ≡ min value_top (nearest_even light matte)
unfolding shown_value
value_some light matte some = grind arith

-- below 4,095 and a half the nearest is at most 4,095
pub value_to_even : ValueFact
value_to_even light matte some low =
    let v = nearest_even light matte in
    let e = to_even light matte some in
    by_lt value_top v
    (λ (h : value_top < v). absurd (omega (arith, e.near, mul-le-mul_right matte h)))
    (λ (h : v ≤ value_top).
    let whole : min value_top v ≡ v = omega arith in
    rw (value_some light matte (omega arith), whole) e)

-- and from there on at least that
pub value_top_fact : ValueTopFact
value_top_fact light matte some high =
    let v = nearest_even light matte in
    let e = to_even light matte some in
    by_lt v value_top
    (λ (h : v < value_top). absurd (omega (arith, e.near, mul-le-mul_right matte h)))
    (λ (h : value_top ≤ v). rw (value_some light matte (omega arith)) (omega arith))

-- THE SHOWN MATTE
-- below 255 and a half the nearest is at most 255
pub matte_half_up : MatteFact
unfolding shown_matte
matte_half_up matte low =
    let v = nearest matte matte_unit in
    let e = half_up matte matte_unit (omega arith) in
    let whole : min matte_top v ≡ v = omega (arith, e.near) in
    rw whole e

-- and from there on at least that
pub matte_top_fact : MatteTopFact
unfolding shown_matte
matte_top_fact matte high =
    let e = half_up matte matte_unit (omega arith) in
    omega (arith, e.near)
