-- Taps in other forms: where a tap is 0, the taps of boxes by their distance from the middle, and shapes 3 to 5 by columns.
use mathlib.Core.Path.{◌≡◌, refl, ap, sym, ◌∙◌}
use Prim.Native.Nat.{ℕ, zero, suc, ◌+◌, ◌*◌, ◌-◌, ◌≤◌, ◌<◌, min}
use native.Mathlib.Omega.{arith}
use native.Mathlib.Numerals.{add-one}
use Rattle.kernels_model.specs.Choice.{within}
use Rattle.kernels_model.specs.Sum.{sum, Row, dist}
use Rattle.kernels_model.specs.Shape.{Shape, Box, Tent, Triple, Diamond, Hexagon, Octagon, reach_of}
use Rattle.kernels_model.specs.Tap.{shift, box, convolved, one, box_tap, half, octagon_tap, tap}
use Rattle.kernels_model.proofs.Numbers.Choices.{by_lt, if_within, within_yes, within_no, within_as, same_no}
use Rattle.kernels_model.proofs.Sums.FiniteSums.{sum_ext, sum_ext_lt, sum-zero, sum_front}
use Rattle.kernels_model.proofs.Sums.BoxSums.{box_one}

-- BOXES ON ONE AXIS
-- n boxes of q + 1 ones end at cell n q
taps_past : (n q x : ℕ) → n * q < x → convolved n (suc q) one x ≡ 0
unfolding convolved box one shift
taps_past zero q x h = same_no x 0 1 (omega arith)
taps_past (suc n) q x h =
    sum_ext_lt _ (λ j. 0) (suc q) (λ j p. if_within _ _ _ _ (λ g. taps_past n q (x - j) (omega arith)) (λ g. refl))
    ∙ sum-zero (suc q)

-- n boxes of radius r reach n r cells from the middle
pub box_far : (n r d : ℕ) → n * r < d → box_tap n r d ≡ 0
unfolding box_tap
box_far n r d h = rw (add-one (2 * r)) (taps_past n (2 * r) (n * r + d) (omega arith))

-- a sum taken from its last term
sum_reverse : (f : Row) (n : ℕ) → sum f (suc n) ≡ sum (λ j. f (n - j)) (suc n)
unfolding sum
sum_reverse f zero = refl
sum_reverse f (suc n) =
    let z : suc n - 0 ≡ suc n = omega arith in
    omega (arith, sum_reverse f n, sum_front (λ j. f (suc n - j)) (suc n), sum_ext _ _ one_on (suc n), ap f z)
  where
    one_on : (j : ℕ) → f (suc n - suc j) ≡ f (n - j)
    one_on j = ap f (omega arith)

-- a row that reads the same backwards from its last cell c, and is 0 past it
abbrev Even : Row → ℕ → Type 0
Even f c = ((i : ℕ) → i ≤ c → f i ≡ f (c - i)) × ((i : ℕ) → c < i → f i ≡ 0)

-- a row moved j cells on, read backwards, is moved q - j cells on
shift_even : (f : Row) (c q i j : ℕ) → Even f c → i ≤ c + q → j ≤ q → shift j f i ≡ shift (q - j) f (c + q - i)
unfolding shift
shift_even f c q i j h p r =
    by_lt i j
    (λ g. within_no j i _ g ∙ sym (later (omega arith) ∙ h.1 (c + q - i - (q - j)) (omega arith)))
    (λ g. within_yes j i _ g ∙ by_lt c (i - j) (past g) (λ k. h.0 (i - j) k ∙ ap f (omega arith) ∙ sym (later (omega arith))))
  where
    later : q - j ≤ c + q - i → within (q - j) (c + q - i) (f (c + q - i - (q - j))) ≡ f (c + q - i - (q - j))
    later = within_yes (q - j) (c + q - i) _

    past : j ≤ i → c < i - j → f (i - j) ≡ within (q - j) (c + q - i) (f (c + q - i - (q - j)))
    past g k = h.1 (i - j) k ∙ sym (within_no (q - j) (c + q - i) _ (omega arith))

-- and so is a box of such a row
box_even : (f : Row) (c q : ℕ) → Even f c → (i : ℕ) → i ≤ c + q → box (suc q) f i ≡ box (suc q) f (c + q - i)
unfolding box
box_even f c q h i p =
    sum_ext_lt _ (λ j. shift (q - j) f (c + q - i)) (suc q) (λ j g. shift_even f c q i j h p (omega arith))
    ∙ sym (sum_reverse (λ j. shift j f (c + q - i)) q)

-- n boxes of q + 1 ones read the same backwards
taps_even : (n q : ℕ) → Even (convolved n (suc q) one) (n * q)
unfolding convolved
taps_even zero q = ((λ i p. let e : i ≡ 0 * q - i = omega arith in ap one e), taps_past 0 q)
taps_even (suc n) q = (
  (λ i p.
      let c : n * q + q ≡ suc n * q = omega arith in
      rw (← c) (box_even (convolved n (suc q) one) (n * q) q (taps_even n q) i (omega arith))),
  taps_past (suc n) q,
)

-- the boxes are symmetric, so the tap i cells from the first is the tap at its distance from the middle
pub taps_dist : (n r i : ℕ) → convolved n (2 * r + 1) one i ≡ box_tap n r (dist i (n * r))
unfolding box_tap
taps_dist n r i = rw (add-one (2 * r)) (by_lt i (n * r) left right)
  where
    left : i < n * r → convolved n (suc (2 * r)) one i ≡ convolved n (suc (2 * r)) one (n * r + dist i (n * r))
    left g = (taps_even n (2 * r)).0 i (omega arith) ∙ ap (convolved n (suc (2 * r)) one) (omega arith)

    right : n * r ≤ i → convolved n (suc (2 * r)) one i ≡ convolved n (suc (2 * r)) one (n * r + dist i (n * r))
    right g = ap (convolved n (suc (2 * r)) one) (omega arith)

-- one box is 1 up to its radius
pub one-box : (r d : ℕ) → box_tap 1 r d ≡ within d r 1
unfolding box_tap convolved
one-box r d = box_one (2 * r + 1) (1 * r + d) ∙ within_as _ _ d r 1 (omega arith) (omega arith)

-- the box kernel's tap is a product, as the tent's and the triple's
pub box_tap_lem : (r dx dy : ℕ) → tap Box r dx dy ≡ box_tap 1 r dx * box_tap 1 r dy
unfolding tap
box_tap_lem r dx dy = rw (one-box r dx, one-box r dy) (if_within dx r _ _ near far)
  where
    near : dx ≤ r → within dy r 1 ≡ within dx r 1 * within dy r 1
    near g = rw (within_yes dx r 1) (omega arith)

    far : r < dx → 0 ≡ within dx r 1 * within dy r 1
    far g = rw (within_no dx r 1) (omega arith)

-- COLUMNS
-- a kernel whose column at distance d from the middle runs from h d rows above it to h d rows below
unfoldable pub column_tap : (ℕ → ℕ) → ℕ → ℕ → ℕ → ℕ
column_tap h r dx dy = within dx r (within dy (h dx) 1)

-- the half heights of the columns of shapes 3 to 5, by the distance from the middle
abbrev pub diamond_height : ℕ → ℕ → ℕ
diamond_height r d = r - d

abbrev pub hexagon_height : ℕ → ℕ → ℕ
hexagon_height r d = min (2 * half r) (2 * (r - d))

-- for any t
abbrev pub octagon_height : ℕ → ℕ → ℕ → ℕ
octagon_height r t d = min r (r + t - d)

-- shapes 3 to 5 are kernels of columns
pub diamond_columns : (r dx dy : ℕ) → tap Diamond r dx dy ≡ column_tap (diamond_height r) r dx dy
unfolding tap column_tap
diamond_columns r dx dy =
    by_lt r dx
    (λ g. within_no (dx + dy) r 1 (omega arith) ∙ sym (within_no dx r _ g))
    (λ g. within_as (dx + dy) r dy (r - dx) 1 (omega arith) (omega arith) ∙ sym (within_yes dx r _ g))

pub hexagon_columns : (r dx dy : ℕ) → tap Hexagon r dx dy ≡ column_tap (hexagon_height r) r dx dy
unfolding tap column_tap
hexagon_columns r dx dy = refl

octagon_column : (r t dx dy : ℕ) → dx ≤ r → within dy r (within (dx + dy) (r + t) 1) ≡ within dy (octagon_height r t dx) 1
octagon_column r t dx dy g =
    if_within dy r _ _
    (λ k. within_as (dx + dy) (r + t) dy (octagon_height r t dx) 1 (omega arith) (omega arith))
    (λ k. sym (within_no dy (octagon_height r t dx) 1 (omega arith)))

pub octagon_columns : (r t dx dy : ℕ) → octagon_tap r t dx dy ≡ column_tap (octagon_height r t) r dx dy
unfolding octagon_tap column_tap
octagon_columns r t dx dy =
    if_within dx r _ _
    (λ g. octagon_column r t dx dy g ∙ sym (within_yes dx r _ g))
    (λ g. sym (within_no dx r _ g))

-- REACH
zero-times : (a b : ℕ) → a ≡ 0 → a * b ≡ 0
zero-times a b e = rw e (omega arith)

times_zero : (a b : ℕ) → b ≡ 0 → a * b ≡ 0
times_zero a b e = rw e (omega arith)

-- a tap is 0 beyond the kernel's reach
pub far_x : (s : Shape) (r dx dy : ℕ) → reach_of s r < dx → tap s r dx dy ≡ 0
unfolding tap octagon_tap
far_x Box r dx dy h = within_no dx r _ (omega arith)
far_x Tent r dx dy h = zero-times _ _ (box_far 2 r dx h)
far_x Triple r dx dy h = zero-times _ _ (box_far 3 r dx h)
far_x Diamond r dx dy h = within_no (dx + dy) r 1 (omega arith)
far_x Hexagon r dx dy h = within_no dx r _ (omega arith)
far_x Octagon r dx dy h = within_no dx r _ (omega arith)

pub far_y : (s : Shape) (r dx dy : ℕ) → reach_of s r < dy → tap s r dx dy ≡ 0
unfolding tap octagon_tap
far_y Box r dx dy h = if_within _ _ _ _ (λ g. within_no dy r 1 (omega arith)) (λ g. refl)
far_y Tent r dx dy h = times_zero _ _ (box_far 2 r dy h)
far_y Triple r dx dy h = times_zero _ _ (box_far 3 r dy h)
far_y Diamond r dx dy h = within_no (dx + dy) r 1 (omega arith)
far_y Hexagon r dx dy h = if_within _ _ _ _ (λ g. within_no dy (hexagon_height r dx) 1 (omega arith)) (λ g. refl)
far_y Octagon r dx dy h = if_within _ _ _ _ (λ g. within_no dy r _ (omega arith)) (λ g. refl)
