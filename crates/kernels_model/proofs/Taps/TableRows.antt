-- Rows of two numbers: a list given number by number is the rows of a function, if a test says so that antt computes.
use mathlib.Core.Path.{◌≡◌, refl, ap, ◌∙◌}
use mathlib.Core.Bool.{Bool, true, false}
use mathlib.Core.List.{List, [], ◌∷◌}
use Prim.Native.Nat.{ℕ, zero, suc, ◌+◌, ◌*◌, ◌<◌}
use native.Mathlib.Omega.{arith}
use lib.Dec.{eqb}
use lib.ListN.{length, get_or}
use borrow.Author.Tests.{eqb-true}
use Rattle.kernels_model.specs.Fixed.{table_columns}
use Rattle.kernels_model.specs.Choice.{pick}
use Rattle.kernels_model.specs.Share.{Share, rows_from}

-- whether the numbers are share and remainder of f k, of f (k + 1), ..
unfoldable pub rows_test : (ℕ → Share) → ℕ → List ℕ → Bool
rows_test f k [] = true
rows_test f k (x ∷ []) = false
rows_test f k (x ∷ y ∷ xs) = pick (eqb x (f k).each) (pick (eqb y (f k).rest) (rows_test f (suc k) xs) false) false

-- a test of both parts
pub both_true : (a b : Bool) → pick a b false ≡ true → (a ≡ true) × (b ≡ true)
both_true a b e = grind arith

-- a list of n rows that passes the test is the rows of the function
pub tested :
    (f : ℕ → Share) (k n : ℕ) (xs : List ℕ) → length xs ≡ table_columns * n → rows_test f k xs ≡ true → xs ≡ rows_from f k n
unfolding rows_test rows_from
tested f k zero [] l e = refl
tested f k (suc n) [] l e = absurd (omega arith)
tested f k n (x ∷ []) l e = grind arith
tested f k zero (x ∷ y ∷ xs) l e = absurd (omega arith)
tested f k (suc n) (x ∷ y ∷ xs) l e =
    let h = both_true (eqb x (f k).each) _ e in
    let g = both_true (eqb y (f k).rest) (rows_test f (suc k) xs) h.1 in
    let each : x ≡ (f k).each = eqb-true x (f k).each h.0 in
    let rest : y ≡ (f k).rest = eqb-true y (f k).rest g.0 in
    let others : xs ≡ rows_from f (suc k) n = tested f (suc k) n xs (omega arith) g.1 in
    λ i. each i ∷ rest i ∷ others i

-- two functions with the same values have the same rows
pub rows_ext : (f g : ℕ → Share) → ((k : ℕ) → f k ≡ g k) → (k n : ℕ) → rows_from f k n ≡ rows_from g k n
unfolding rows_from
rows_ext f g h k n = grind arith

-- what stands in row i
pub each_in : (f : ℕ → Share) (k n i : ℕ) → i < n → get_or (rows_from f k n) (table_columns * i) 0 ≡ (f (k + i)).each
unfolding rows_from
each_in f k zero i h = absurd (omega arith)
each_in f k (suc n) zero h = ap (λ m. (f m).each) (omega arith)
each_in f k (suc n) (suc i) h =
    let past : table_columns * suc i ≡ suc (suc (table_columns * i)) = omega arith in
    rw past (each_in f (suc k) n i (omega arith) ∙ ap (λ m. (f m).each) (omega arith))

pub rest_in : (f : ℕ → Share) (k n i : ℕ) → i < n → get_or (rows_from f k n) (table_columns * i + 1) 0 ≡ (f (k + i)).rest
unfolding rows_from
rest_in f k zero i h = absurd (omega arith)
rest_in f k (suc n) zero h = ap (λ m. (f m).rest) (omega arith)
rest_in f k (suc n) (suc i) h =
    let past : table_columns * suc i + 1 ≡ suc (suc (table_columns * i + 1)) = omega arith in
    rw past (rest_in f (suc k) n i (omega arith) ∙ ap (λ m. (f m).rest) (omega arith))
