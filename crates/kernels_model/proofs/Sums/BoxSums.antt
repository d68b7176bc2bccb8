-- Sums along one axis: n boxes, for every n. A running sum is a box and the running sum a box further back, so the
-- difference of a row and the row a box further on is summed to a box.
use mathlib.Core.Path.{◌≡◌, refl, ap, sym, ◌∙◌, fun_ext}
use Prim.Native.Nat.{ℕ, zero, suc, ◌+◌, ◌*◌, ◌-◌, ◌^◌}
use native.Mathlib.Omega.{arith}
use Rattle.kernels_model.specs.Choice.{within, same}
use Rattle.kernels_model.specs.Sum.{sum, Row, running}
use Rattle.kernels_model.specs.Tap.{shift, box, convolved, one}
use Rattle.kernels_model.proofs.Numbers.Choices.{by_lt, by_eq, if_within, within_yes, within_no, same_yes, same_no}
use Rattle.kernels_model.proofs.Numbers.Choices.{same_as}
use Rattle.kernels_model.proofs.Sums.FiniteSums.{sum_ext, sum-add, sum_mul, sum-zero, sum_same, ◌≈◌, sum_cong}

-- w times a row, and c times one row more
unfoldable pub scale : ℕ → Row → Row
scale w f x = w * f x

unfoldable pub mix : ℕ → Row → Row → Row
mix c f g x = f x + c * g x

pub running_mix : (c : ℕ) (f g : Row) → running (mix c f g) ≡ mix c (running f) (running g)
unfolding running mix
running_mix c f g =
    fun_ext (λ x. sum-add f (λ k. c * g k) (suc x) ∙ ap (λ (n : ℕ). sum f (suc x) + n) (sum_mul c g (suc x)))

-- SHIFTS
shift_zero : (f : Row) → shift 0 f ≡ f
unfolding shift
shift_zero f = fun_ext (λ x. within_yes 0 x (f (x - 0)) (omega arith) ∙ ap f (omega arith))

pub sum-shift : (s : ℕ) (f : Row) (n : ℕ) → sum (shift s f) n ≡ sum f (n - s)
unfolding sum shift
sum-shift s f zero = let z : 0 - s ≡ 0 = omega arith in rw z
sum-shift s f (suc n) =
    by_lt n s
    (λ h.
    let z : suc n - s ≡ 0 = omega arith in
    let y : n - s ≡ 0 = omega arith in
    rw (z, within_no s n (f (n - s))) (omega (arith, rw y at (sum-shift s f n))))
    (λ h.
    let z : suc n - s ≡ suc (n - s) = omega arith in
    rw (z, within_yes s n (f (n - s))) (omega (arith, sum-shift s f n)))

pub running-shift : (s : ℕ) (f : Row) → running (shift s f) ≡ shift s (running f)
unfolding running shift sum
running-shift s f =
    fun_ext (λ x. sum-shift s f (suc x) ∙ by_lt x s
    (λ h. let z : suc x - s ≡ 0 = omega arith in rw (z, within_no s x (running f (x - s))))
    (λ h. let z : suc x - s ≡ suc (x - s) = omega arith in rw (z, within_yes s x (running f (x - s)))))

shift_scale : (s w : ℕ) (f : Row) → shift s (scale w f) ≡ scale w (shift s f)
unfolding shift scale
shift_scale s w f =
    fun_ext (λ x. by_lt x s
    (λ h. simp (within_no s x) (omega arith))
    (λ h. simp (within_yes s x)))

shift_twice : (s t : ℕ) (f : Row) (x : ℕ) → shift s (shift t f) x ≡ shift (s + t) f x
unfolding shift
shift_twice s t f x =
    if_within _ _ _ _
    (λ h. if_within _ _ _ _
    (λ k. sym (within_yes (s + t) x (f (x - (s + t))) (omega arith) ∙ ap f (omega arith)))
    (λ k. sym (within_no (s + t) x (f (x - (s + t))) (omega arith))))
    (λ h. sym (within_no (s + t) x (f (x - (s + t))) (omega arith)))

shift_swap : (s t : ℕ) (f : Row) (x : ℕ) → shift s (shift t f) x ≡ shift t (shift s f) x
shift_swap s t f x = shift_twice s t f x ∙ ap (λ (n : ℕ). shift n f x) (omega arith) ∙ sym (shift_twice t s f x)

shift_cong : (s : ℕ) (f g : Row) → f ≈ g → shift s f ≈ shift s g
unfolding shift
shift_cong s f g h x = by_lt x s (λ k. simp (within_no s x)) (λ k. simp (within_yes s x) (h (x - s)))

-- BOXES
-- a running sum is the box and the running sum l cells back
running-next : (f : Row) (l x : ℕ) → shift l (running f) x ≡ shift l f x + shift (suc l) (running f) x
unfolding shift running sum
running-next f l x =
    by_lt x l
    (λ h.
    let past = within_no (suc l) x (running f (x - suc l)) (omega arith) in
    omega (arith, within_no l x (running f (x - l)) h, within_no l x (f (x - l)) h, past))
    (λ h. rw (within_yes l x (running f (x - l)), within_yes l x (f (x - l))) (by_lt x (suc l)
    (λ k. let z : x - l ≡ 0 = omega arith in rw z (omega (arith, within_no (suc l) x (running f (x - suc l)) k)))
    (λ k. let z : x - l ≡ suc (x - suc l) = omega arith in rw z (omega (arith, within_yes (suc l) x (running f (x - suc l)) k)))))

pub running-box : (f : Row) (l x : ℕ) → running f x ≡ box l f x + shift l (running f) x
unfolding box sum
running-box f zero x = rw shift_zero (omega arith)
running-box f (suc l) x = omega (arith, running-box f l x, running-next f l x)

box_cong : (l : ℕ) (f g : Row) → f ≈ g → box l f ≈ box l g
unfolding box
box_cong l f g h x = sum_cong _ _ (λ j. shift_cong j f g h x) l

box_scale : (l w : ℕ) (f : Row) → box l (scale w f) ≡ scale w (box l f)
unfolding box scale
box_scale l w f =
    fun_ext (λ x. sum_ext _ _ (λ j. ap (λ (f : Row). f x) (shift_scale j w f)) l ∙ sum_mul w (λ j. shift j f x) l)

sum_through : (s l : ℕ) (f : ℕ → Row) (x : ℕ) → sum (λ j. shift s (f j) x) l ≡ shift s (λ x. sum (λ j. f j x) l) x
unfolding shift
sum_through s l f x =
    by_lt x s
    (λ h. rw (within_no s x (sum (λ j. f j (x - s)) l))
    (sum_ext _ (λ j. 0) (λ j. within_no s x (f j (x - s)) h) l ∙ sum-zero l))
    (λ h. rw (within_yes s x (sum (λ j. f j (x - s)) l)) (sum_ext _ _ (λ j. within_yes s x (f j (x - s)) h) l))

box-shift : (l s : ℕ) (f : Row) → box l (shift s f) ≡ shift s (box l f)
unfolding box
box-shift l s f = fun_ext (λ x. sum_ext _ _ (λ j. shift_swap j s f x) l ∙ sum_through s l (λ j. shift j f) x)

-- a row with w in cell s alone
mark-row : (s w x : ℕ) → same x s w ≡ w * shift s one x
unfolding shift one
mark-row s w x =
    by_lt x s
    (λ h. rw (within_no s x (same (x - s) 0 1)) (same_no x s w (omega arith) ∙ omega arith))
    (λ h. rw (within_yes s x (same (x - s) 0 1)) (by_eq x s
    (λ e. rw (same_yes (x - s) 0 1 (omega arith)) (same_yes x s w e ∙ omega arith))
    (λ n. rw (same_no (x - s) 0 1 (omega arith)) (same_no x s w n ∙ omega arith))))

pub boxes_mark : (n l s w : ℕ) → convolved n l (λ x. same x s w) ≡ scale w (shift s (convolved n l one))
unfolding convolved scale
boxes_mark zero l s w = fun_ext (mark-row s w)
boxes_mark (suc n) l s w =
    rw (boxes_mark n l s w) (box_scale l w (shift s (convolved n l one)) ∙ ap (scale w) (box-shift l s (convolved n l one)))

-- one box is 1 in its first l cells
pub box_one : (l x : ℕ) → box l one x ≡ within (suc x) l 1
unfolding box
box_one l x =
    sum_ext _ (λ j. same j x 1) (λ j. omega (arith, mark-row j 1 x, same_as j x x j 1 sym sym)) l ∙ sum_same x 1 l

-- N BOXES
-- n running sums
unfoldable pub runnings : ℕ → Row → Row
runnings zero f = f
runnings (suc n) f = running (runnings n f)

-- the marks of n boxes of length l on the row f, with c for -1: each box takes off the row l cells on
unfoldable pub row_marks : ℕ → ℕ → ℕ → Row → Row
row_marks c zero l f = f
row_marks c (suc n) l f = mix c (row_marks c n l f) (shift l (row_marks c n l f))

runnings_mix : (n c : ℕ) (f g : Row) → runnings n (mix c f g) ≡ mix c (runnings n f) (runnings n g)
unfolding runnings
runnings_mix zero c f g = refl
runnings_mix (suc n) c f g = rw (runnings_mix n c f g, running_mix)

runnings_shift : (n s : ℕ) (f : Row) → runnings n (shift s f) ≡ shift s (runnings n f)
unfolding runnings
runnings_shift zero s f = refl
runnings_shift (suc n) s f = rw (runnings_shift n s f, running-shift)

-- one box: the difference, summed, is the box
box_step : (l : ℕ) (f : Row) → running (mix (2 ^ 64 - 1) f (shift l f)) ≈ box l f
unfolding mix
box_step l f x = rw (running_mix, running-shift) (omega (arith, running-box f l x))

-- the marks of n boxes on a row, summed n times, are n boxes convolved with it
pub row_boxes : (n l : ℕ) (f : Row) → runnings n (row_marks (2 ^ 64 - 1) n l f) ≈ convolved n l f
unfolding runnings row_marks convolved
row_boxes zero l f x = refl
row_boxes (suc n) l f x =
    rw (runnings_mix n (2 ^ 64 - 1) (row_marks (2 ^ 64 - 1) n l f) (shift l (row_marks (2 ^ 64 - 1) n l f)), runnings_shift)
    (box_step l (runnings n (row_marks (2 ^ 64 - 1) n l f)) x ∙ box_cong l _ _ (row_boxes n l f) x)
