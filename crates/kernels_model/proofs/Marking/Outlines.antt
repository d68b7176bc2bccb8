-- The kernel between two lines: the marks of both are finished to 1 in each column from the top line to the bottom line.
use mathlib.Core.Path.{◌≡◌, refl, ap, ◌∙◌}
use mathlib.Core.List.{List, [], ◌∷◌}
use Prim.Native.Nat.{ℕ, ◌+◌, ◌*◌, ◌-◌, ◌^◌, ◌%◌, ◌≤◌}
use native.Mathlib.Omega.{arith}
use Rattle.kernels_model.specs.Choice.{within}
use Rattle.kernels_model.specs.Sum.{dist, finish}
use Rattle.kernels_model.specs.Mark.{Run, run, line_marks, outline_marks, flipped, minus, planes_of}
use Rattle.kernels_model.specs.Facts.{columns_of, row_at, Inside}
use Rattle.kernels_model.proofs.Numbers.Choices.{by_lt, within_yes, within_no, strip_in, strip-left, strip_right}
use Rattle.kernels_model.proofs.Sums.FiniteSums.{cong_add}
use Rattle.kernels_model.proofs.Taps.TapForms.{column_tap}
use Rattle.kernels_model.proofs.Sums.SlopeSums.{stays}
use Rattle.kernels_model.proofs.Sums.PlaneSums.{Sloped, up2, up1, up0, down1, down2}
use Rattle.kernels_model.proofs.Marking.LineFact.{row_first, row-rest, Sloping, line_finished}
use Rattle.kernels_model.proofs.Marking.MarkLists.{finish_append}

-- THE TWO LINES
pub flipped_columns : (runs : List Run) → columns_of (flipped runs) ≡ columns_of runs
unfolding flipped columns_of
flipped_columns [] = refl
flipped_columns (s ∷ rest) = ap (λ (n : ℕ). s.columns + n) (flipped_columns rest)

-- and its slopes have planes, as the line's have
turned : {d u : ℕ} → Sloped d u → Sloped u d
turned up2 = down2
turned up1 = down1
turned up0 = up0
turned down1 = up1
turned down2 = up2

flipped_sloping : (runs : List Run) → Sloping runs → Sloping (flipped runs)
unfolding flipped Sloping
flipped_sloping [] h = tt
flipped_sloping (s ∷ rest) h = (turned h.0, flipped_sloping rest h.1)

-- a line and the same line turned upside down keep the same middle
mirror : (runs : List Run) (t b i : ℕ) → Inside runs t → Inside (flipped runs) b
    → row_at runs t i + row_at (flipped runs) b i ≡ t + b
unfolding flipped Inside
mirror [] t b i v w = unfold row_at in refl
mirror (s ∷ rest) t b i v w =
    by_lt i s.columns
    (λ g.
    let p = stays s.downs s.ups t s.columns i v.0 (omega arith) in
    let q = stays s.ups s.downs b s.columns i w.0 (omega arith) in
    rw (row_first s rest t i g, row_first (run s.ups s.downs s.columns) (flipped rest) b i g) (omega arith))
    (λ g. rw (row-rest s rest t i g, row-rest (run s.ups s.downs s.columns) (flipped rest) b i g)
    (mirror rest _ _ (i - s.columns) v.1 w.1 ∙ omega (arith, v.0, w.0)))

-- a column whose top line is H above the middle and whose bottom line is a step past H below it
column_between : (Y H t b y : ℕ) → t + H ≡ Y → t + b ≡ 2 * Y + 1
    → (within t y 1 + within b y (minus 1)) % 2 ^ 64 ≡ within (dist y Y) H 1 % 2 ^ 64
unfolding minus
column_between Y H t b y p q =
    by_lt y t
    (λ g. rw (within_no t y 1, within_no b y (minus 1) (omega arith), within_no (dist y Y) H 1 (omega arith)))
    (λ g. by_lt y b
    (λ k. rw (within_yes t y 1, within_no b y (minus 1), within_yes (dist y Y) H 1 (omega arith)))
    (λ k. rw (within_yes t y 1, within_yes b y (minus 1), within_no (dist y Y) H 1 (omega arith))))

pub outline_fact : (r h : ℕ) (top : List Run) (H : ℕ → ℕ) (X Y : ℕ) → r ≤ X → h ≤ Y
    → columns_of top ≡ 2 * r + 1 → Sloping top → Inside top (Y - h) → Inside (flipped top) (Y + h + 1)
    → ((i : ℕ) → i ≤ 2 * r → row_at top (Y - h) i + H (dist i r) ≡ Y)
    → (x y : ℕ) → finish (planes_of (outline_marks r h top X Y)) x y % 2 ^ 64 ≡ column_tap H r (dist x X) (dist y Y) % 2 ^ 64
unfolding outline_marks column_tap
outline_fact r h top H X Y p q n z v w row x y =
    let one : 1 + minus 1 ≡ 2 ^ 64 * 1 = unfold minus in refl in
    let other : minus 1 + 1 ≡ 2 ^ 64 * 1 = unfold minus in refl in
    let t = row_at top (Y - h) (x - (X - r)) in
    let b = row_at (flipped top) (Y + h + 1) (x - (X - r)) in
    let n' = flipped_columns top ∙ n in
    ap (λ (m : ℕ). m % 2 ^ 64) (finish_append (line_marks 1 (minus 1) (X - r) (Y - h) top) _ x y)
    ∙ cong_add _ _ _ _
    (line_finished 1 (minus 1) 1 (X - r) (Y - h) top x y one z v)
    (line_finished (minus 1) 1 1 (X - r) (Y + h + 1) (flipped top) x y other (flipped_sloping top z) w)
    ∙ rw (n, n') (by_lt x (X - r)
    (λ g. rw (
      strip-left (X - r) (2 * r + 1) x (within t y 1) g,
      strip-left (X - r) (2 * r + 1) x (within b y (minus 1)) g,
      within_no (dist x X) r (within (dist y Y) (H (dist x X)) 1) (omega arith),
    ))
    (λ g. by_lt x (X - r + (2 * r + 1))
    (λ k.
    let i : dist (x - (X - r)) r ≡ dist x X = omega arith in
    let m : t + H (dist x X) ≡ Y = rw i at (row (x - (X - r)) (omega arith)) in
    rw (
      strip_in (X - r) (2 * r + 1) x (within t y 1) g k,
      strip_in (X - r) (2 * r + 1) x (within b y (minus 1)) g k,
      within_yes (dist x X) r (within (dist y Y) (H (dist x X)) 1) (omega arith),
    )
    (column_between Y (H (dist x X)) t b y m (mirror top (Y - h) (Y + h + 1) (x - (X - r)) v w ∙ omega arith)))
    (λ k. rw (
      strip_right (X - r) (2 * r + 1) x (within t y 1) k,
      strip_right (X - r) (2 * r + 1) x (within b y (minus 1)) k,
      within_no (dist x X) r (within (dist y Y) (H (dist x X)) 1) (omega arith),
    ))))
