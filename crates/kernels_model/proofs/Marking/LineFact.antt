-- THE LINE FACT: the marks of a line's pieces, each summed by its slope, are summed down to their coefficient in every cell on
-- the line and below it, in its columns; and where each slope has a plane, the marks are finished to that.
use mathlib.Core.Path.{◌≡◌, refl, ap, sym, ◌∙◌}
use mathlib.Core.List.{List, [], ◌∷◌}
use Prim.Native.Nat.{ℕ, suc, ◌+◌, ◌*◌, ◌-◌, ◌^◌, ◌%◌, ◌≤◌, ◌<◌}
use native.Mathlib.Omega.{arith}
use borrow.Author.Tests.{lt-ltb, le-ltb}
use Rattle.kernels_model.specs.Choice.{within, same, strip}
use Rattle.kernels_model.specs.Sum.{sum, Plane, running, down, add, finish}
use Rattle.kernels_model.specs.Mark.{Run, run_row, slope_plane, run_marks, line_marks, planes_of}
use Rattle.kernels_model.specs.Facts.{run_sum, columns_of, row_at, Inside, line_sum, LineFact, Each}
use Rattle.kernels_model.proofs.Numbers.Choices.{by_lt, within_as, strip_in, strip-left, strip_right}
use Rattle.kernels_model.proofs.Sums.FiniteSums.{sum_ext, sum-zero, sum_same, cong_add}
use Rattle.kernels_model.proofs.Sums.SlopeSums.{piece_fact}
use Rattle.kernels_model.proofs.Sums.PlaneSums.{down-add, down_cong, Sloped, finish-slope}
use Rattle.kernels_model.proofs.Marking.MarkLists.{finish_append, finish-none, alone}

-- ROWS
pub row_first : (s : Run) (rest : List Run) (y i : ℕ) → i < s.columns → row_at (s ∷ rest) y i ≡ run_row s y i
unfolding row_at
row_first s rest y i h = simp (lt-ltb i s.columns h)

pub row-rest : (s : Run) (rest : List Run) (y i : ℕ) → s.columns ≤ i
    → row_at (s ∷ rest) y i ≡ row_at rest (run_row s y s.columns) (i - s.columns)
unfolding row_at
row-rest s rest y i h = simp (le-ltb i s.columns h)

-- STRIPS
sum-none : (f : ℕ → ℕ) (n : ℕ) → ((j : ℕ) → f j ≡ 0) → sum f n ≡ 0
sum-none f n h = sum_ext f (λ j. 0) h n ∙ sum-zero n

-- one cell in each column of a strip, summed down
strip-down : (x0 n : ℕ) (row : ℕ → ℕ) (w x y : ℕ)
    → down (λ x y. strip x0 n x (same y (row x) w)) x y ≡ strip x0 n x (within (row x) y w)
unfolding down running
strip-down x0 n row w x y =
    by_lt x x0
    (λ g. sum-none _ (suc y) (λ j. strip-left x0 n x _ g) ∙ sym (strip-left x0 n x _ g))
    (λ g. by_lt x (x0 + n)
    (λ k. sum_ext _ (λ j. same j (row x) w) (λ j. strip_in x0 n x _ g k) (suc y)
    ∙ sum_same (row x) w (suc y)
    ∙ within_as _ _ _ _ w (omega arith) (omega arith)
    ∙ sym (strip_in x0 n x _ g k))
    (λ k. sum-none _ (suc y) (λ j. strip_right x0 n x _ k) ∙ sym (strip_right x0 n x _ k)))

-- a strip of n columns and the strip of m columns that follows it
strips : (x0 n m x a b c : ℕ) → (x0 ≤ x → x < x0 + n → a ≡ c) → (x0 + n ≤ x → b ≡ c)
    → strip x0 n x a + strip (x0 + n) m x b ≡ strip x0 (n + m) x c
strips x0 n m x a b c p q =
    by_lt x x0
    (λ g. omega (arith, strip-left x0 n x a g, strip-left (x0 + n) m x b (omega arith), strip-left x0 (n + m) x c g))
    (λ g. by_lt x (x0 + n)
    (λ k. omega (arith, strip_in x0 n x a g k, strip-left (x0 + n) m x b k, strip_in x0 (n + m) x c g (omega arith), p g k))
    (λ k. by_lt x (x0 + n + m)
    (λ i. omega (arith, strip_right x0 n x a k, strip_in (x0 + n) m x b k i, strip_in x0 (n + m) x c g (omega arith), q k))
    (λ i. omega (arith, strip_right x0 n x a k, strip_right (x0 + n) m x b i, strip_right x0 (n + m) x c (omega arith)))))

-- A LINE
-- its sum down is the sum down of its first piece and of the rest
line_down : (p q x0 y0 : ℕ) (s : Run) (rest : List Run) (x y : ℕ)
    → down (line_sum p q x0 y0 (s ∷ rest)) x y
    ≡ down (run_sum p q x0 y0 s) x y + down (line_sum p q (x0 + s.columns) (run_row s y0 s.columns) rest) x y
unfolding line_sum add
line_down p q x0 y0 s rest x y =
    ap (λ (m : Plane). m x y) (down-add (run_sum p q x0 y0 s) (line_sum p q (x0 + s.columns) (run_row s y0 s.columns) rest))

no_line_down : (p q x0 y0 x y : ℕ) → down (line_sum p q x0 y0 []) x y ≡ 0
unfolding line_sum down running
no_line_down p q x0 y0 x y = sum-zero (suc y)

pub line_fact : LineFact
unfolding columns_of Inside
line_fact p q k x0 y0 [] x y e w =
    ap (λ (m : ℕ). m % 2 ^ 64) (no_line_down p q x0 y0 x y ∙ by_lt x x0
    (λ g. sym (strip-left x0 0 x _ g))
    (λ g. sym (strip_right x0 0 x _ (omega arith))))
line_fact p q k x0 y0 (s ∷ rest) x y e w =
    let x1 = x0 + s.columns in
    let y1 = run_row s y0 s.columns in
    ap (λ (m : ℕ). m % 2 ^ 64) (line_down p q x0 y0 s rest x y)
    ∙ cong_add _ _ _ _
    (down_cong _ _ (λ x y. piece_fact p q k x0 y0 s x y e w.0) x y
    ∙ ap (λ (m : ℕ). m % 2 ^ 64) (strip-down x0 s.columns (λ x. run_row s y0 (x - x0)) p x y))
    (line_fact p q k x1 y1 rest x y e w.1)
    ∙ ap (λ (m : ℕ). m % 2 ^ 64)
    (strips x0 s.columns (columns_of rest) x _ _ (within (row_at (s ∷ rest) y0 (x - x0)) y p)
    (λ g h. ap (λ (m : ℕ). within m y p) (sym (row_first s rest y0 (x - x0) (omega arith))))
    (λ g.
    let i : x - x0 - s.columns ≡ x - (x0 + s.columns) = omega arith in
    ap (λ (m : ℕ). within m y p) (sym (row-rest s rest y0 (x - x0) (omega arith) ∙ ap (row_at rest y1) i))))

-- A LINE WHOSE SLOPES HAVE PLANES
unfoldable pub Sloping : List Run → Type 0
Sloping [] = Unit
Sloping (s ∷ rest) = Sloped s.downs s.ups × Sloping rest

-- its marks lie in these planes, so finishing sums each piece by its slope
run_finished : (p q x0 y0 : ℕ) (s : Run) → Sloped s.downs s.ups
    → finish (planes_of (run_marks p q x0 y0 s)) ≡ down (run_sum p q x0 y0 s)
unfolding run_sum
run_finished p q x0 y0 s h =
    ap finish (alone (slope_plane s) (run_marks p q x0 y0 s) (unfold Each in (refl, (refl, tt)))) ∙ finish-slope h _

finish_line : (p q x0 y0 : ℕ) (runs : List Run) → Sloping runs → (x y : ℕ)
    → finish (planes_of (line_marks p q x0 y0 runs)) x y ≡ down (line_sum p q x0 y0 runs) x y
unfolding line_marks Sloping
finish_line p q x0 y0 [] h x y = finish-none x y ∙ sym (no_line_down p q x0 y0 x y)
finish_line p q x0 y0 (s ∷ rest) h x y =
    let x1 = x0 + s.columns in
    let y1 = run_row s y0 s.columns in
    rw (
      finish_append (run_marks p q x0 y0 s) (line_marks p q x1 y1 rest) x y,
      run_finished p q x0 y0 s h.0,
      finish_line p q x1 y1 rest h.1 x y,
    )
    (sym (line_down p q x0 y0 s rest x y))

pub line_finished : (p q k x0 y0 : ℕ) (runs : List Run) (x y : ℕ) → p + q ≡ 2 ^ 64 * k → Sloping runs → Inside runs y0
    → finish (planes_of (line_marks p q x0 y0 runs)) x y % 2 ^ 64
    ≡ strip x0 (columns_of runs) x (within (row_at runs y0 (x - x0)) y p) % 2 ^ 64
line_finished p q k x0 y0 runs x y e h w =
    ap (λ (m : ℕ). m % 2 ^ 64) (finish_line p q x0 y0 runs h x y) ∙ line_fact p q k x0 y0 runs x y e w
