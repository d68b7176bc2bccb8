-- Lists of marks: what holds of each, their planes and these finished, one after the other, none, in one plane alone, and each
-- some times over.
use mathlib.Core.Path.{◌≡◌, refl, ap, sym, ◌∙◌, fun_ext}
use mathlib.Core.List.{List, [], ◌∷◌, ◌++◌}
use Prim.Native.Nat.{ℕ, zero, suc, ◌+◌, ◌*◌, ◌<◌}
use native.Mathlib.Omega.{arith}
use Rattle.kernels_model.specs.Choice.{same}
use Rattle.kernels_model.specs.Sum.{sum, Plane, Planes, add, finish}
use Rattle.kernels_model.specs.Mark.{Mark, marks_to, scaled, planes_of}
use Rattle.kernels_model.specs.Facts.{Each}
use Rattle.kernels_model.proofs.Numbers.Choices.{if_same, same_yes, same_add, same_mul}
use Rattle.kernels_model.proofs.Sums.PlaneSums.{times, adds, only, finish-add, finish-times}

-- WHAT HOLDS OF EACH
pub each_append : (P : Mark → Type 0) (ms ns : List Mark) → Each P ms → Each P ns → Each P (ms ++ ns)
unfolding Each
each_append P [] ns p q = q
each_append P (m ∷ ms) ns p q = (p.0, each_append P ms ns p.1 q)

pub each_one : (P : Mark → Type 0) (m : Mark) → P m → Each P (m ∷ [])
unfolding Each
each_one P m h = (h, tt)

pub each_to : (P : Mark → Type 0) (f : ℕ → List Mark) (n : ℕ) → ((i : ℕ) → i < n → Each P (f i)) → Each P (marks_to f n)
unfolding marks_to
each_to P f zero h = unfold Each in tt
each_to P f (suc n) h =
    each_append P (marks_to f n) (f n) (each_to P f n (λ i g. h i (omega arith))) (h n (omega arith))

-- THEIR PLANES
pub append_at : (ms ns : List Mark) (p x y : ℕ) → planes_of (ms ++ ns) p x y ≡ planes_of ms p x y + planes_of ns p x y
unfolding planes_of
append_at [] ns p x y = omega arith
append_at (m ∷ ms) ns p x y = omega (arith, append_at ms ns p x y)

pub planes_append : (ms ns : List Mark) → planes_of (ms ++ ns) ≡ adds (planes_of ms) (planes_of ns)
unfolding adds add
planes_append ms ns = fun_ext (λ p. fun_ext (λ x. fun_ext (λ y. append_at ms ns p x y)))

pub finish_append : (ms ns : List Mark) (x y : ℕ)
    → finish (planes_of (ms ++ ns)) x y ≡ finish (planes_of ms) x y + finish (planes_of ns) x y
unfolding add
finish_append ms ns x y = rw (planes_append ms ns, finish-add)

pub finish-none : (x y : ℕ) → finish (planes_of []) x y ≡ 0
finish-none x y =
    let e : finish (planes_of []) x y ≡ finish (planes_of []) x y + finish (planes_of []) x y = finish_append [] [] x y in
    omega arith

-- lists of marks one after the other
pub planes_to : (f : ℕ → List Mark) (n p x y : ℕ) → planes_of (marks_to f n) p x y ≡ sum (λ i. planes_of (f i) p x y) n
unfolding marks_to sum
planes_to f zero p x y = unfold planes_of in refl
planes_to f (suc n) p x y = rw (append_at (marks_to f n) (f n) p x y, planes_to f n p x y)

pub finish_to : (f : ℕ → List Mark) (n x y : ℕ) → finish (planes_of (marks_to f n)) x y ≡ sum (λ i. finish (planes_of (f i)) x y) n
unfolding marks_to sum
finish_to f zero x y = finish-none x y
finish_to f (suc n) x y = rw (finish_append (marks_to f n) (f n) x y, finish_to f n x y)

-- marks that all lie in plane c
alone_at : (c : ℕ) (ms : List Mark) → Each (λ m. m.plane ≡ c) ms → (p x y : ℕ) → planes_of ms p x y ≡ only c (planes_of ms c) p x y
unfolding planes_of only Each
alone_at c [] h p x y = sym (if_same p c 0 0 (λ e. refl) (λ e. refl))
alone_at c (m ∷ ms) h p x y =
    let v = same x m.column (same y m.row m.coefficient) in
    rw (h.0, alone_at c ms h.1 p x y, same_yes c c v refl) (sym (same_add p c v (planes_of ms c x y)))

pub alone : (c : ℕ) (ms : List Mark) → Each (λ m. m.plane ≡ c) ms → planes_of ms ≡ only c (planes_of ms c)
alone c ms h = fun_ext (λ p. fun_ext (λ x. fun_ext (λ y. alone_at c ms h p x y)))

pub scaled_at : (c : ℕ) (ms : List Mark) (p x y : ℕ) → planes_of (scaled c ms) p x y ≡ c * planes_of ms p x y
unfolding planes_of scaled
scaled_at c [] p x y = omega arith
scaled_at c (m ∷ ms) p x y =
    rw (
      same_mul c y m.row m.coefficient,
      same_mul c x m.column (same y m.row m.coefficient),
      same_mul c p m.plane (same x m.column (same y m.row m.coefficient)),
      scaled_at c ms p x y,
    )
    (omega arith)

pub finish-scaled : (c : ℕ) (ms : List Mark) (x y : ℕ) → finish (planes_of (scaled c ms)) x y ≡ c * finish (planes_of ms) x y
unfolding times
finish-scaled c ms x y =
    ap (λ (m : Planes). finish m x y) (fun_ext (λ p. fun_ext (λ x. fun_ext (λ y. scaled_at c ms p x y))))
    ∙ ap (λ (m : Plane). m x y) (finish-times c (planes_of ms))
