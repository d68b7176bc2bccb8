-- EVERY KERNEL: its marks, finished, are its weights.
use mathlib.Core.Path.{◌≡◌, refl, ap, sym, ◌∙◌}
use mathlib.Core.List.{List, [], ◌∷◌}
use Prim.Native.Nat.{ℕ, ◌+◌, ◌*◌, ◌-◌, ◌^◌, ◌%◌, ◌≤◌, ◌<◌, min}
use native.Mathlib.Omega.{arith}
use native.Mathlib.Nat.{mul-le-mul_left, le_of_lt}
use Rattle.kernels_model.specs.Sum.{dist, finish}
use Rattle.kernels_model.specs.Shape.{Shape, Box, Tent, Triple, Diamond, Hexagon, Octagon, reach_of}
use Rattle.kernels_model.specs.Choice.{within, same}
use Rattle.kernels_model.specs.Tap.{box_tap, half, tap, octagon_tap, share, rest, weight}
use Rattle.kernels_model.specs.Mark.{Run, run, flipped, three_runs, two_runs, diamond_marks, hexagon_marks, octagon_marks}
use Rattle.kernels_model.specs.Mark.{tap_marks, scaled, centre_marks, marks, planes_of}
use Rattle.kernels_model.specs.Facts.{columns_of, row_at, Inside, KernelFact}
use Rattle.kernels_model.proofs.Numbers.Choices.{by_lt, if_within, same_yes, same_no, same_mul}
use Rattle.kernels_model.proofs.Sums.FiniteSums.{cong_add, cong_mul}
use Rattle.kernels_model.proofs.Sums.PlaneSums.{up2, up1, up0, down1, down2, first, second, third}
use Rattle.kernels_model.proofs.Marking.BoxGrids.{box_kernel}
use Rattle.kernels_model.proofs.Marking.LineFact.{row_first, row-rest, Sloping}
use Rattle.kernels_model.proofs.Marking.MarkLists.{finish_append, finish-scaled}
use Rattle.kernels_model.proofs.Taps.TapForms.{box_tap_lem, column_tap, diamond_height, hexagon_height, octagon_height}
use Rattle.kernels_model.proofs.Taps.TapForms.{diamond_columns, hexagon_columns, octagon_columns}
use Rattle.kernels_model.proofs.Marking.Outlines.{outline_fact}

-- SHAPES 3 TO 5: the row of the top line is the half height above the middle
-- both lines of a kernel end inside the plane
abbrev pub Walks : ℕ → List Run → ℕ → Type 0
Walks h top Y = Inside top (Y - h) × Inside (flipped top) (Y + h + 1)

pub diamond_walks : (r Y : ℕ) → r + 1 ≤ Y → Walks 0 (two_runs r) Y
unfolding Inside flipped
diamond_walks r Y q = ((omega arith, (omega arith, tt)), (omega arith, (omega arith, tt)))

diamond_kernel : (r X Y x y : ℕ) → r ≤ X → r + 1 ≤ Y
    → finish (planes_of (diamond_marks r X Y)) x y % 2 ^ 64 ≡ column_tap (diamond_height r) r (dist x X) (dist y Y) % 2 ^ 64
unfolding diamond_marks
diamond_kernel r X Y x y p q =
    let fall = run 1 0 (r + 1) in
    let w = diamond_walks r Y q in
    outline_fact r 0 (two_runs r) (diamond_height r) X Y p (omega arith) (unfold columns_of in (omega arith))
    (unfold Sloping in (up1, (down1, tt))) w.0 w.1
    (λ i g. by_lt i r
    (λ k. rw (row_first (run 0 1 r) (fall ∷ []) (Y - 0) i k) (omega arith))
    (λ k. rw (
      row-rest (run 0 1 r) (fall ∷ []) (Y - 0) i k,
      row_first fall [] (Y - 0 + 0 * r - 1 * r) (i - r) (omega arith),
    ) (omega arith)))
    x y

-- the row of three pieces is k times the columns from the nearer end above their start, and no more than k a above, where the
-- last piece has a column more than the first
three_runs_rows : (k a b c y i m : ℕ) → a < c → k * a ≤ y → i ≤ a + b + a → m ≡ min a (min i (a + b + a - i))
    → row_at (run 0 k a ∷ run 0 0 b ∷ run k 0 c ∷ []) y i + k * m ≡ y
three_runs_rows k a b c y i m l h g e =
    let flat = run 0 0 b in
    let fall = run k 0 c in
    by_lt i a
    (λ p.
    let z : m ≡ i = omega arith in
    rw (row_first (run 0 k a) (flat ∷ fall ∷ []) y i p, z) (omega (arith, mul-le-mul_left k (le_of_lt p))))
    (λ p. rw (row-rest (run 0 k a) (flat ∷ fall ∷ []) y i p) (by_lt (i - a) b
    (λ q.
    let z : m ≡ a = omega arith in
    rw (row_first flat (fall ∷ []) (y + 0 * a - k * a) (i - a) q, z) (omega arith))
    (λ q.
    let z : a ≡ i - a - b + m = omega arith in
    rw (
      row-rest flat (fall ∷ []) (y + 0 * a - k * a) (i - a) q,
      row_first fall [] (y + 0 * a - k * a + 0 * b - 0 * b) (i - a - b) (omega arith),
    )
    (omega (arith, ap (λ (n : ℕ). k * n) z))))
    )

-- the nearer end of 2 r + 1 columns
nearer : (r a i w : ℕ) → i ≤ 2 * r → w ≡ 2 * r → min a (r - dist i r) ≡ min a (min i (w - i))
nearer r a i w g e = grind arith

hexagon_height_lem : (r t d : ℕ) → min (2 * t) (2 * (r - d)) ≡ 2 * min t (r - d)
hexagon_height_lem r t d = omega arith

pub hexagon_walks : (r t Y : ℕ) → 2 * t ≤ r → r + 1 ≤ Y → Walks 0 (three_runs 2 t (2 * (r - t))) Y
unfolding Inside flipped
hexagon_walks r t Y h q = grind arith

hexagon_kernel : (r X Y x y : ℕ) → r ≤ X → r + 1 ≤ Y
    → finish (planes_of (hexagon_marks r (half r) X Y)) x y % 2 ^ 64 ≡ column_tap (hexagon_height r) r (dist x X) (dist y Y) % 2 ^ 64
unfolding hexagon_marks
hexagon_kernel r X Y x y p q =
    let t = half r in
    let b = 2 * (r - t) in
    let w = hexagon_walks r t Y (omega arith) q in
    outline_fact r 0 (three_runs 2 t b) (hexagon_height r) X Y p (omega arith) (unfold columns_of in (omega arith))
    (unfold Sloping in (up2, (up0, (down2, tt)))) w.0 w.1
    (λ i g. rw (hexagon_height_lem r t (dist i r))
    (three_runs_rows 2 t b _ (Y - 0) i (min t (r - dist i r)) (omega arith) (omega arith) (omega arith)
    (nearer r t i (t + b + t) g (omega arith)) ∙ omega arith))
    x y

octagon_height_lem : (r t d : ℕ) → t ≤ r → d ≤ r → min r (r + t - d) ≡ t + 1 * min (r - t) (r - d)
octagon_height_lem r t d p q = omega arith

add_back : (a b c d : ℕ) → b ≤ d → a + c ≡ d - b → a + (b + c) ≡ d
add_back a b c d h e = omega arith

dist_le : (r i : ℕ) → i ≤ 2 * r → dist i r ≤ r
dist_le r i h = omega arith

pub octagon_walks : (r t Y : ℕ) → t ≤ r → r + 1 ≤ Y → Walks t (three_runs 1 (r - t) (2 * t)) Y
unfolding Inside flipped
octagon_walks r t Y h q = grind arith

-- for every t from 0 to r
pub octagon_kernel : (r t X Y x y : ℕ) → t ≤ r → r ≤ X → r + 1 ≤ Y
    → finish (planes_of (octagon_marks r t X Y)) x y % 2 ^ 64 ≡ octagon_tap r t (dist x X) (dist y Y) % 2 ^ 64
unfolding octagon_marks
octagon_kernel r t X Y x y s p q =
    let a = r - t in
    let w = octagon_walks r t Y s q in
    outline_fact r t (three_runs 1 a (2 * t)) (octagon_height r t) X Y p (omega arith)
    (unfold columns_of in (omega arith)) (unfold Sloping in (up1, (up0, (down1, tt)))) w.0 w.1
    (λ i g. rw (octagon_height_lem r t (dist i r) s (dist_le r i g)) (add_back _ t _ Y (omega arith)
    (three_runs_rows 1 a (2 * t) _ (Y - t) i (min a (r - dist i r)) (omega arith) (omega arith) (omega arith)
    (nearer r a i (a + 2 * t + a) g (omega arith)))))
    x y
    ∙ ap (λ (z : ℕ). z % 2 ^ 64) (sym (octagon_columns r t (dist x X) (dist y Y)))

-- THE TAPS OF A KERNEL
tap_kernel : (s : Shape) (r X Y x y : ℕ) → reach_of s r ≤ X → reach_of s r + 1 ≤ Y
    → finish (planes_of (tap_marks s r X Y)) x y % 2 ^ 64 ≡ tap s r (dist x X) (dist y Y) % 2 ^ 64
unfolding tap_marks
tap_kernel Box r X Y x y p q =
    box_kernel first r X Y x y p (omega arith) ∙ ap (λ (z : ℕ). z % 2 ^ 64) (sym (box_tap_lem r (dist x X) (dist y Y)))
tap_kernel Tent r X Y x y p q = unfold tap in (box_kernel second r X Y x y p (omega arith))
tap_kernel Triple r X Y x y p q = unfold tap in (box_kernel third r X Y x y p (omega arith))
tap_kernel Diamond r X Y x y p q =
    diamond_kernel r X Y x y (omega arith) (omega arith)
    ∙ ap (λ (z : ℕ). z % 2 ^ 64) (sym (diamond_columns r (dist x X) (dist y Y)))
tap_kernel Hexagon r X Y x y p q =
    hexagon_kernel r X Y x y (omega arith) (omega arith)
    ∙ ap (λ (z : ℕ). z % 2 ^ 64) (sym (hexagon_columns r (dist x X) (dist y Y)))
tap_kernel Octagon r X Y x y p q =
    unfold tap in (octagon_kernel r (half r) X Y x y (omega arith) (omega arith) (omega arith))

-- THE CENTRE
-- a box of radius 0 is 1 at the centre
point_tap : (dx dy : ℕ) → box_tap 1 0 dx * box_tap 1 0 dy ≡ same dx 0 (same dy 0 1)
unfolding tap
point_tap dx dy =
    sym (box_tap_lem 0 dx dy)
    ∙ within_same dx (within dy 0 1)
    ∙ ap (same dx 0) (within_same dy 1)
  where
    within_same : (d w : ℕ) → within d 0 w ≡ same d 0 w
    within_same d w = if_within d 0 w _ (λ h. sym (same_yes d 0 w (omega arith))) (λ h. sym (same_no d 0 w (omega arith)))

centre_kernel : (c X Y x y : ℕ)
    → c * finish (planes_of (centre_marks X Y)) x y % 2 ^ 64 ≡ same (dist x X) 0 (same (dist y Y) 0 c) % 2 ^ 64
unfolding centre_marks
centre_kernel c X Y x y =
    cong_mul (2 ^ 64) c c _ _ refl
    (box_kernel first 0 X Y x y (omega arith) (omega arith) ∙ ap (λ (n : ℕ). n % 2 ^ 64) (point_tap dx dy))
    ∙ ap (λ (n : ℕ). n % 2 ^ 64)
    (sym (same_mul c dx 0 (same dy 0 1)) ∙ ap (same dx 0) (sym (same_mul c dy 0 1) ∙ ap (same dy 0) (omega arith)))
  where
    dx : ℕ
    dx = dist x X

    dy : ℕ
    dy = dist y Y

-- THE KERNEL: the finished sum of its marks times w is w times its weight, in every cell
pub kernel : KernelFact
unfolding marks weight
kernel s r w X Y x y p q =
    rw (
      finish-scaled w (marks s r X Y) x y,
      finish_append (scaled (share s r) (tap_marks s r X Y)) (scaled (rest s r) (centre_marks X Y)) x y,
      finish-scaled (share s r) (tap_marks s r X Y) x y,
      finish-scaled (rest s r) (centre_marks X Y) x y,
    )
    (cong_mul (2 ^ 64) w w _ _ refl
    (cong_add _ _ _ _
    (cong_mul (2 ^ 64) (share s r) (share s r) _ _ refl (tap_kernel s r X Y x y p q))
    (centre_kernel (rest s r) X Y x y)))
