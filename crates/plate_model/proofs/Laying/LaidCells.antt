-- Marks laid on cells: the cells stay as many, and each holds what it held and all that is laid on it, wrapped.
use mathlib.Core.Path.{◌≡◌, refl, ap, sym, ◌∙◌}
use mathlib.Core.List.{List, [], ◌∷◌}
use Prim.Native.Nat.{ℕ, zero, suc, ◌+◌, ◌*◌, ◌-◌, ◌%◌, ◌^◌, ◌<◌}
use native.Mathlib.Omega.{arith}
use native.Mathlib.Nat.{mod-lt, mod-mod, mod-eq_of_lt, mod-add-mod, add_assoc, add-mul-mod_self_left}
use lib.Dec.{lit<}
use lib.ListN.{get_or, set, length, length-set}
use lib.Seq.{get_or-set_same, get_or-set_other}
use Rattle.kernels_model.specs.Choice.{same}
use Rattle.kernels_model.specs.Sum.{sum}
use Rattle.kernels_model.specs.Mark.{Mark, minus, scaled}
use Rattle.kernels_model.proofs.Numbers.Choices.{by_eq, same_yes, same_no, same_mul}
use Rattle.kernels_model.proofs.Sums.FiniteSums.{cong_add}
use Rattle.plate_model.specs.Layout.{Size}
use Rattle.plate_model.specs.Word.{Pixel}
use Rattle.plate_model.specs.Marks.{pixel_marks, cell_of, lay_one, lay_all, exchanged, lay_grid, on_cell}

-- a remainder at 2^64 is below it
pub wrapped_low : (n : ℕ) → n % 2 ^ 64 < 2 ^ 64
wrapped_low n = mod-lt n {m = 2 ^ 64} (lit< tt)

-- ONE NUMBER
pub length_lay_one : (cells : List ℕ) (p w : ℕ) → length (lay_one cells p w) ≡ length cells
unfolding lay_one
length_lay_one cells p w = length-set cells _ _

-- a cell after it, at 2^64: what it held and what is laid on it
lay_one_wrapped : (cells : List ℕ) (p w k : ℕ) → k < length cells
    → get_or (lay_one cells p w) k 0 % 2 ^ 64 ≡ (get_or cells k 0 + same k p w) % 2 ^ 64
unfolding lay_one
lay_one_wrapped cells p w k h =
    by_eq k p
    (λ e. rw (same_yes k p w e, ← e, get_or-set_same cells k _ 0 h) (mod-mod _ _))
    (λ n. rw (same_no k p w n, get_or-set_other cells p k _ 0 n) (omega arith))

-- a cell below 2^64 stays below
lay_one_low : (cells : List ℕ) (p w k : ℕ) → k < length cells → get_or cells k 0 < 2 ^ 64 → get_or (lay_one cells p w) k 0 < 2 ^ 64
unfolding lay_one
lay_one_low cells p w k h f =
    by_eq k p
    (λ e. rw (← e, get_or-set_same cells k _ 0 h) (wrapped_low _))
    (λ n. rw (get_or-set_other cells p k _ 0 n) f)

-- numbers that are the same at 2^64 leave the same
pub lay_one_mod : (cells : List ℕ) (k v w : ℕ) → v % 2 ^ 64 ≡ w % 2 ^ 64 → lay_one cells k v ≡ lay_one cells k w
unfolding lay_one
lay_one_mod cells k v w e = ap (set cells k) (cong_add (get_or cells k 0) (get_or cells k 0) v w refl e)

-- A LIST OF MARKS
pub length_lay : (z : Size) (cells : List ℕ) (ms : List Mark) → length (lay_all z cells ms) ≡ length cells
unfolding lay_all
length_lay z cells [] = refl
length_lay z cells (m ∷ ms) =
    length_lay z (lay_one cells (cell_of z m) m.coefficient) ms ∙ length_lay_one cells (cell_of z m) m.coefficient

-- a cell after a list of marks, at 2^64: what it held and all that is laid there
pub lay_wrapped : (z : Size) (cells : List ℕ) (ms : List Mark) (k : ℕ) → k < length cells
    → get_or (lay_all z cells ms) k 0 % 2 ^ 64 ≡ (get_or cells k 0 + on_cell z k ms) % 2 ^ 64
unfolding lay_all on_cell
lay_wrapped z cells [] k h = omega arith
lay_wrapped z cells (m ∷ ms) k h =
    let p = cell_of z m in
    let w = m.coefficient in
    lay_wrapped z (lay_one cells p w) ms k (omega (arith, length_lay_one cells p w))
    ∙ cong_add _ _ _ _ (lay_one_wrapped cells p w k h) refl
    ∙ ap (λ n. n % 2 ^ 64) (add_assoc _ _ _)

lay_low : (z : Size) (cells : List ℕ) (ms : List Mark) (k : ℕ) → k < length cells → get_or cells k 0 < 2 ^ 64
    → get_or (lay_all z cells ms) k 0 < 2 ^ 64
unfolding lay_all
lay_low z cells [] k h f = f
lay_low z cells (m ∷ ms) k h f =
    let p = cell_of z m in
    let w = m.coefficient in
    lay_low z (lay_one cells p w) ms k (omega (arith, length_lay_one cells p w)) (lay_one_low cells p w k h f)

-- and a cell below 2^64 holds just that, wrapped
pub lay_cell : (z : Size) (cells : List ℕ) (ms : List Mark) (k : ℕ) → k < length cells → get_or cells k 0 < 2 ^ 64
    → get_or (lay_all z cells ms) k 0 ≡ (get_or cells k 0 + on_cell z k ms) % 2 ^ 64
lay_cell z cells ms k h f = sym (mod-eq_of_lt (lay_low z cells ms k h f)) ∙ lay_wrapped z cells ms k h

-- WHAT MARKS LAY ON A CELL
pub on_cell-scaled : (z : Size) (k c : ℕ) (ms : List Mark) → on_cell z k (scaled c ms) ≡ c * on_cell z k ms
unfolding on_cell scaled
on_cell-scaled z k c [] = omega arith
on_cell-scaled z k c (m ∷ ms) = omega (arith, same_mul c k (cell_of z m) m.coefficient, on_cell-scaled z k c ms)

-- minus marks and the marks lay nothing together
pub on_cell-minus : (z : Size) (k s : ℕ) (ms : List Mark)
    → (s + (on_cell z k (scaled (minus 1) ms) + on_cell z k ms)) % 2 ^ 64 ≡ s % 2 ^ 64
unfolding minus
on_cell-minus z k s ms = rw (on_cell-scaled z k ((2 ^ 64 - 1) * 1) ms) (whole s (on_cell z k ms))
  where
    whole : (s t : ℕ) → (s + ((2 ^ 64 - 1) * 1 * t + t)) % 2 ^ 64 ≡ s % 2 ^ 64
    whole s t = let e : s + ((2 ^ 64 - 1) * 1 * t + t) ≡ s + 2 ^ 64 * t = omega arith in rw (e, add-mul-mod_self_left)

-- A PIXEL FOR ANOTHER
pub length_exchanged : (z : Size) (i : ℕ) (old new : Pixel) (planes : List ℕ)
    → length (exchanged z i old new planes) ≡ length planes
unfolding exchanged
length_exchanged z i old new planes = length_lay z _ (pixel_marks z i new) ∙ length_lay z planes _

-- the old pixel's marks come off a cell and the new one's go on
pub exchanged-cell : (z : Size) (i : ℕ) (old new : Pixel) (planes : List ℕ) (k s t : ℕ)
    → k < length planes → get_or planes k 0 ≡ s % 2 ^ 64
    → t + on_cell z k (pixel_marks z i old) ≡ s + on_cell z k (pixel_marks z i new)
    → get_or (exchanged z i old new planes) k 0 ≡ t % 2 ^ 64
unfolding exchanged
exchanged-cell z i old new planes k s t h here e =
    let off = scaled (minus 1) (pixel_marks z i old) in
    let on = pixel_marks z i new in
    let taken = lay_cell z planes off k h (rw here (wrapped_low s)) in
    let rest : on_cell z k off + on_cell z k on + s ≡ t + (on_cell z k off + on_cell z k (pixel_marks z i old)) = omega arith in
    lay_cell z (lay_all z planes off) on k (omega (arith, length_lay z planes off)) (rw taken (wrapped_low _))
    ∙ rw (taken, here) (regroup s (on_cell z k off) (on_cell z k on) ∙ rw rest (on_cell-minus z k t (pixel_marks z i old)))
  where
    regroup : (s a b : ℕ) → ((s % 2 ^ 64 + a) % 2 ^ 64 + b) % 2 ^ 64 ≡ (a + b + s) % 2 ^ 64
    regroup s a b = omega arith

-- A GRID
pub length_lay_grid : (z : Size) (g : ℕ → Pixel) (cells : List ℕ) (n : ℕ) → length (lay_grid z g cells n) ≡ length cells
unfolding lay_grid
length_lay_grid z g cells zero = refl
length_lay_grid z g cells (suc n) = length_lay z (lay_grid z g cells n) (pixel_marks z n (g n)) ∙ length_lay_grid z g cells n

-- a cell after the marks of n pixels
pub lay_grid_cell : (z : Size) (g : ℕ → Pixel) (cells : List ℕ) (n k : ℕ) → k < length cells → get_or cells k 0 < 2 ^ 64
    → get_or (lay_grid z g cells n) k 0 ≡ (get_or cells k 0 + sum (λ i. on_cell z k (pixel_marks z i (g i))) n) % 2 ^ 64
unfolding lay_grid sum
lay_grid_cell z g cells zero k h f = omega arith
lay_grid_cell z g cells (suc n) k h f =
    let before = lay_grid_cell z g cells n k h f in
    lay_cell z (lay_grid z g cells n) (pixel_marks z n (g n)) k (omega (arith, length_lay_grid z g cells n))
    (rw before (wrapped_low _))
    ∙ rw before (mod-add-mod _ _ _ ∙ ap (λ m. m % 2 ^ 64) (add_assoc _ _ _))
