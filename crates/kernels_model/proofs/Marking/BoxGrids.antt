-- THE BOX FACT: the marks of n boxes, one by one, along an axis (-1)^i times n over i, and their products over both axes.
use mathlib.Core.Path.{◌≡◌, refl, ap, sym, ◌∙◌}
use mathlib.Core.List.{[], ◌∷◌}
use Prim.Native.Nat.{ℕ, zero, suc, ◌+◌, ◌*◌, ◌-◌, ◌^◌, ◌%◌, ◌≤◌, ◌<◌}
use native.Mathlib.Omega.{arith}
use native.Mathlib.Nat.{add-mul-mod_self_left}
use Rattle.kernels_model.specs.Choice.{same}
use Rattle.kernels_model.specs.Sum.{sum, dist, Row, Planes, summed, finish}
use Rattle.kernels_model.specs.Tap.{shift, convolved, one, box_tap}
use Rattle.kernels_model.specs.Mark.{Mark, mark, minus, sign, choose, marks_to, box_grid, box_marks, planes_of}
use Rattle.kernels_model.specs.Facts.{BoxFact, Each}
use Rattle.kernels_model.proofs.Numbers.Choices.{if_within, same_yes, same_no, same_as, same_mul}
use Rattle.kernels_model.proofs.Sums.FiniteSums.{sum_ext, sum-add, sum_mul, sum-zero, sum_front, sum_product, cong_mul}
use Rattle.kernels_model.proofs.Sums.FiniteSums.{sum_cong}
use Rattle.kernels_model.proofs.Sums.BoxSums.{scale, mix, row_marks, row_boxes, boxes_mark}
use Rattle.kernels_model.proofs.Sums.PlaneSums.{◌≈²◌, product, summed_product, product_cong, summed_cong, Boxed}
use Rattle.kernels_model.proofs.Sums.PlaneSums.{finish_boxes}
use Rattle.kernels_model.proofs.Taps.TapForms.{box_far, taps_dist}
use Rattle.kernels_model.proofs.Marking.MarkLists.{planes_to, each_one, each_to, alone}

-- c to the i-th
unfoldable power : ℕ → ℕ → ℕ
power c zero = 1
power c (suc i) = c * power c i

power_add : (c i j : ℕ) → power c i * power c j ≡ power c (i + j)
unfolding power
power_add c zero j = let e : 0 + j ≡ j = omega arith in rw e (omega arith)
power_add c (suc i) j =
    let e : suc i + j ≡ suc (i + j) = omega arith in
    rw (e, ← power_add c i j) (omega arith)

-- at 2^64, the powers of -1 are the signs
twice : (m p q r : ℕ) → p + q ≡ m * p → q + r ≡ m * q → r % m ≡ p % m
twice m p q r h k =
    let e : r + m * p ≡ p + m * q = omega arith in
    sym (add-mul-mod_self_left r m p) ∙ rw (e, add-mul-mod_self_left)

power_sign : (i : ℕ) → power (2 ^ 64 - 1) i % 2 ^ 64 ≡ sign i % 2 ^ 64
unfolding power sign minus
power_sign zero = refl
power_sign (suc zero) = refl
power_sign (suc (suc i)) =
    twice (2 ^ 64) (power (2 ^ 64 - 1) i) ((2 ^ 64 - 1) * power (2 ^ 64 - 1) i) _
    (whole (power (2 ^ 64 - 1) i))
    (whole ((2 ^ 64 - 1) * power (2 ^ 64 - 1) i))
    ∙ power_sign i
  where
    whole : (q : ℕ) → q + (2 ^ 64 - 1) * q ≡ 2 ^ 64 * q
    whole q = omega arith

-- ALONG AN AXIS
choose_past : (n i : ℕ) → n < i → choose n i ≡ 0
unfolding choose
choose_past n zero h = absurd (omega arith)
choose_past zero (suc i) h = refl
choose_past (suc n) (suc i) h = omega (arith, choose_past n i (omega arith), choose_past n (suc i) (omega arith))

-- the mark i of n boxes of length l from s on, and the same a box further on
unfoldable term : ℕ → ℕ → ℕ → ℕ → ℕ → ℕ → ℕ
term c n l s x i = power c i * choose n i * same x (s + i * l) 1

next : ℕ → ℕ → ℕ → ℕ → ℕ → ℕ → ℕ
next c n l s x i = power c i * choose n i * same x (s + suc i * l) 1

shifted : (c n l s : ℕ) (f : Row) → ((x : ℕ) → f x ≡ sum (term c n l s x) (suc n)) → (x : ℕ)
    → shift l f x ≡ sum (next c n l s x) (suc n)
unfolding shift term next
shifted c n l s f h x =
    if_within _ _ _ _
    (λ k. h (x - l) ∙ sum_ext _ _ (λ i. ap (λ (z : ℕ). power c i * choose n i * z)
    (same_as (x - l) (s + i * l) x (s + suc i * l) 1 (omega arith) (omega arith))) (suc n))
    (λ k. sym (sum_ext _ (λ i. 0) (λ i. rw (same_no x (s + suc i * l) 1 (omega arith)) (omega arith)) (suc n) ∙ sum-zero (suc n)))

-- Pascal's rule, term by term
pascal : (c n l s x i : ℕ) → term c (suc n) l s x (suc i) ≡ term c n l s x (suc i) + c * next c n l s x i
unfolding term next power choose
pascal c n l s x i = omega arith

row_marks_lem : (c n l s x : ℕ) → row_marks c n l (λ x. same x s 1) x ≡ sum (term c n l s x) (suc n)
unfolding row_marks mix
row_marks_lem c zero l s x =
    unfold sum term power choose in (omega (arith, same_as x s x (s + 0 * l) 1 (omega arith) (omega arith)))
row_marks_lem c (suc n) l s x =
    let t = term c n l s x in
    let v = next c n l s x in
    let a = row_marks_lem c n l s x in
    let b = shifted c n l s (row_marks c n l (λ x. same x s 1)) (row_marks_lem c n l s) x in
    let d = sum_front (term c (suc n) l s x) (suc n) in
    let e = sum_ext (λ i. term c (suc n) l s x (suc i)) (λ i. t (suc i) + c * v i) (pascal c n l s x) (suc n) in
    let f = sum-add (λ i. t (suc i)) (λ i. c * v i) (suc n) in
    let g = sum_mul c v (suc n) in
    let h = sum_front t (suc n) in
    let j : sum t (suc (suc n)) ≡ sum t (suc n) = unfold sum term in rw (choose_past n (suc n) (omega arith)) (omega arith) in
    let z : term c (suc n) l s x 0 ≡ t 0 = unfold term choose in refl in
    rw b (omega arith)

-- OVER BOTH AXES
one-mark : (m : Mark) (p x y : ℕ)
    → planes_of (m ∷ []) p x y ≡ same p m.plane (same x m.column (same y m.row m.coefficient))
unfolding planes_of
one-mark m p x y = omega arith

regroup : (p a g q b k : ℕ) → p * a * g * (q * b * k) ≡ p * q * (a * b) * (g * k)
regroup p a g q b k = omega arith

cross : (x y x0 y0 w : ℕ) → w * (same x x0 1 * same y y0 1) ≡ same x x0 (same y y0 w)
cross x y x0 y0 w =
    let a : same y y0 w ≡ w * same y y0 1 = ap (same y y0) (times-one w) ∙ same_mul w y y0 1 in
    let b : same x x0 (w * same y y0 1) ≡ w * same y y0 1 * same x x0 1 =
    ap (same x x0) (times-one (w * same y y0 1)) ∙ same_mul (w * same y y0 1) x x0 1 in
    sym (rw a (b ∙ omega arith))
  where
    times-one : (n : ℕ) → n ≡ n * 1
    times-one n = omega arith

-- the product of two marks along the axes
mark_product : (n l s t x y i j : ℕ)
    → same x (s + i * l) (same y (t + j * l) (sign (i + j) * (choose n i * choose n j))) % 2 ^ 64
    ≡ term (2 ^ 64 - 1) n l s x i * term (2 ^ 64 - 1) n l t y j % 2 ^ 64
unfolding term
mark_product n l s t x y i j =
    let c = choose n i * choose n j in
    let g = same x (s + i * l) 1 * same y (t + j * l) 1 in
    let a = cross x y (s + i * l) (t + j * l) (sign (i + j) * c) in
    let b = power_sign (i + j) in
    let d =
    regroup (power (2 ^ 64 - 1) i) (choose n i) (same x (s + i * l) 1)
    (power (2 ^ 64 - 1) j) (choose n j) (same y (t + j * l) 1) in
    sym (ap (λ (z : ℕ). z % 2 ^ 64) (d ∙ rw (power_add (2 ^ 64 - 1) i j))
    ∙ cong_mul (2 ^ 64) _ _ _ _ (cong_mul (2 ^ 64) _ (sign (i + j)) c c b refl) refl
    ∙ ap (λ (z : ℕ). z % 2 ^ 64) a)

grid_cell_lem : (n l s t x y : ℕ)
    → sum (λ i. sum (λ j. same x (s + i * l) (same y (t + j * l) (sign (i + j) * (choose n i * choose n j)))) (suc n)) (suc n)
    % 2 ^ 64
    ≡ product (row_marks (2 ^ 64 - 1) n l (λ x. same x s 1)) (row_marks (2 ^ 64 - 1) n l (λ y. same y t 1)) x y % 2 ^ 64
unfolding product
grid_cell_lem n l s t x y =
    rw (
      row_marks_lem (2 ^ 64 - 1) n l s x,
      row_marks_lem (2 ^ 64 - 1) n l t y,
      sum_product (term (2 ^ 64 - 1) n l s x) (term (2 ^ 64 - 1) n l t y) (suc n) (suc n),
    )
    (sum_cong _ _ (λ i. sum_cong _ _ (λ j. mark_product n l s t x y i j) (suc n)) (suc n))

-- the grid in its own plane
grid_plane : (c n l s t : ℕ)
    → planes_of (box_grid c n l s t) c
    ≈² product (row_marks (2 ^ 64 - 1) n l (λ x. same x s 1)) (row_marks (2 ^ 64 - 1) n l (λ y. same y t 1))
unfolding box_grid
grid_plane c n l s t x y =
    let cell : ℕ → ℕ → ℕ = λ i j. same x (s + i * l) (same y (t + j * l) (sign (i + j) * (choose n i * choose n j))) in
    let made : ℕ → ℕ → Mark = λ i j. mark c (s + i * l) (t + j * l) (sign (i + j) * (choose n i * choose n j)) in
    let each : planes_of (marks_to (λ i. marks_to (λ j. made i j ∷ []) (suc n)) (suc n)) c x y
    ≡ sum (λ i. sum (λ j. cell i j) (suc n)) (suc n) =
    planes_to (λ i. marks_to (λ j. made i j ∷ []) (suc n)) (suc n) c x y
    ∙ sum_ext _ _ (λ i. planes_to (λ j. made i j ∷ []) (suc n) c x y
    ∙ sum_ext _ _ (λ j. one-mark (made i j) c x y ∙ same_yes c c (cell i j) refl) (suc n)) (suc n) in
    ap (λ (z : ℕ). z % 2 ^ 64) each ∙ grid_cell_lem n l s t x y

-- summed n times, it is on each axis the boxes that start at the first mark
grid_summed : (c n l s t x y : ℕ)
    → summed n (planes_of (box_grid c n l s t) c) x y % 2 ^ 64
    ≡ shift s (convolved n l one) x * shift t (convolved n l one) y % 2 ^ 64
grid_summed c n l s t x y =
    let f = row_marks (2 ^ 64 - 1) n l (λ x. same x s 1) in
    let g = row_marks (2 ^ 64 - 1) n l (λ y. same y t 1) in
    summed_cong n _ _ (grid_plane c n l s t) x y
    ∙ rw (summed_product n f g)
    (product_cong _ _ _ _ (row_boxes n l (λ x. same x s 1)) (row_boxes n l (λ y. same y t 1)) x y
    ∙ rw (boxes_mark n l s 1, boxes_mark n l t 1)
    (ap (λ (z : ℕ). z % 2 ^ 64) (unfold product scale in (omega arith))))

-- the boxes that start n r before the middle, by the distance from the middle
box-row : (n r X x : ℕ) → n * r ≤ X → shift (X - n * r) (convolved n (2 * r + 1) one) x ≡ box_tap n r (dist x X)
unfolding shift
box-row n r X x h =
    if_within _ _ _ _
    (λ g. taps_dist n r (x - (X - n * r)) ∙ ap (box_tap n r) (centred (n * r) X x h g))
    (λ g. sym (box_far n r (dist x X) (omega arith)))
  where
    centred : (m X x : ℕ) → m ≤ X → X - m ≤ x → dist (x - (X - m)) m ≡ dist x X
    centred m X x h g = omega arith

-- THE BOX FACT
pub box_fact : BoxFact
unfolding box_marks
box_fact p n r X Y x y g h =
    grid_summed p n (2 * r + 1) (X - n * r) (Y - n * r) x y ∙ rw (box-row n r X x g, box-row n r Y y h)

-- the marks of boxes lie in one plane
boxes_alone : (p n r X Y : ℕ) → Each (λ m. m.plane ≡ p) (box_marks p n r X Y)
unfolding box_marks box_grid
boxes_alone p n r X Y =
    each_to _ _ (suc n) (λ i g. each_to _ _ (suc n) (λ j h. each_one _ _ refl))

-- and where that is the plane that is summed n times, they are finished to the boxes convolved
pub box_kernel : {n c : ℕ} → Boxed n c → (r X Y x y : ℕ) → n * r ≤ X → n * r ≤ Y
    → finish (planes_of (box_marks c n r X Y)) x y % 2 ^ 64 ≡ box_tap n r (dist x X) * box_tap n r (dist y Y) % 2 ^ 64
box_kernel {n} {c} b r X Y x y p q =
    ap (λ (m : Planes). finish m x y % 2 ^ 64) (alone c (box_marks c n r X Y) (boxes_alone c n r X Y))
    ∙ rw (finish_boxes b (planes_of (box_marks c n r X Y) c)) (box_fact c n r X Y x y p q)
