-- Rows of a list that are written column by column, and of each column the rows in their order.
use Rattle.std.proofs.Common.{◌≡◌, ℕ, zero, suc, ◌+◌, ◌<◌, ◌≤◌, List, length, get_or, set, refl, ◌∙◌, add-one, arith, length-set, get_or-set_other, get_or-set_same, below_more}
use Rattle.kernels_model.proofs.Numbers.Choices.{by_lt, by_eq}
use Rattle.plate.specs.Passes.{row_start}

-- the rows share no cell
abbrev pub Apart : ℕ → ℕ → (ℕ → ℕ) → Type 0
Apart k n R =
    (c d i j : ℕ) → c < k → d < k → i < n → j < n → R c + i ≡ R d + j → (c ≡ d) × (i ≡ j)

-- rows that lie one after the other
pub apart_rows : (k n : ℕ) (R : ℕ → ℕ) → ((c : ℕ) → c + 1 < k → R c + n ≤ R (c + 1)) → Apart k n R
apart_rows k n R step c d i j a b x y e =
    by_lt c d
    (λ l. absurd (omega (arith, climb c d l b)))
    (λ l. by_lt d c
    (λ g. absurd (omega (arith, climb d c g a)))
    (λ g. let z : c ≡ d = omega arith in (z, let f : R d + i ≡ R d + j = rw z at e in omega arith)))
  where
    climb : (c d : ℕ) → c < d → d < k → R c + n ≤ R d
    climb c zero l g = absurd (omega arith)
    climb c (suc d) l g =
        let one : R d + n ≤ R (suc d) = rw add-one at (step d (omega arith)) in
        by_lt c d (λ q. omega (arith, climb c d q (omega arith))) (λ q. let z : c ≡ d = omega arith in rw z one)

-- two rows, the second after the first
pub apart_two : (n u v : ℕ) → u + n ≤ v → Apart 2 n (row_start u v)
apart_two n u v first = apart_rows 2 n (row_start u v) (λ c l. let z : c ≡ 0 = omega arith in rw z first)

-- a cell that is in neither of them
pub out_of_two : (n u v j : ℕ) → ((i : ℕ) → i < n → j ≡ u + i → ⊥) → ((i : ℕ) → i < n → j ≡ v + i → ⊥)
    → (c i : ℕ) → c < 2 → i < n → j ≡ row_start u v c + i → ⊥
out_of_two n u v j one two c i l h =
    by_eq c 0
    (λ z. rw z (one i h))
    (λ z. let o : c ≡ 1 = omega arith in rw o (two i h))

-- written: the columns before i, and the rows before c of column i
pub record Writing (k n : ℕ) (R : ℕ → ℕ) (v : ℕ → ℕ → ℕ) (s₀ s : List ℕ) (i c : ℕ) : Type 0 where
  pub same : length s ≡ length s₀
  pub done : (d j : ℕ) → d < k → j < i → get_or s (R d + j) 0 ≡ v d j
  pub half : (d : ℕ) → d < c → get_or s (R d + i) 0 ≡ v d i
  pub todo : (d j : ℕ) → d < k → i < j → j < n → get_or s (R d + j) 0 ≡ get_or s₀ (R d + j) 0
  pub next : (d : ℕ) → c ≤ d → d < k → i < n → get_or s (R d + i) 0 ≡ get_or s₀ (R d + i) 0
  pub rest : (j : ℕ) → ((d i : ℕ) → d < k → i < n → j ≡ R d + i → ⊥) → get_or s j 0 ≡ get_or s₀ j 0

pub writing_start : (k n : ℕ) (R : ℕ → ℕ) (v : ℕ → ℕ → ℕ) (s : List ℕ) → Writing k n R v s s 0 0
writing_start k n R v s =
    record {
      same = refl;
      done = λ d j a b. absurd (omega arith);
      half = λ d a. absurd (omega arith);
      todo = λ d j a b e. refl;
      next = λ d a b e. refl;
      rest = λ j o. refl;
    }

pub writing_cell : (k n : ℕ) (R : ℕ → ℕ) (v : ℕ → ℕ → ℕ) (s₀ s s' : List ℕ) (i c w : ℕ) → Apart k n R → i < n → c < k
    → R c + i < length s₀ → Writing k n R v s₀ s i c → w ≡ v c i → s' ≡ set s (R c + i) w
    → Writing k n R v s₀ s' i (c + 1)
writing_cell k n R v s₀ s s' i c w apart a b f old e q =
    rw q (record {
      same = length-set s (R c + i) w ∙ old.same;
      done = λ d j x y. other d j x (omega arith) (λ g h. omega arith) ∙ old.done d j x y;
      half = below_more (λ d. get_or (set s (R c + i) w) (R d + i) 0 ≡ v d i) c
          (λ d x. other d i (omega arith) a (λ g h. omega arith) ∙ old.half d x)
          (get_or-set_same s (R c + i) w 0 (omega (arith, old.same)) ∙ e);
      todo = λ d j x y z. other d j x z (λ g h. omega arith) ∙ old.todo d j x y z;
      next = λ d x y z. other d i y a (λ g h. omega arith) ∙ old.next d (omega arith) y z;
      rest = λ j o. get_or-set_other s (R c + i) j w 0 (o c i b a) ∙ old.rest j o;
    })
  where
    other : (d j : ℕ) → d < k → j < n → (d ≡ c → j ≡ i → ⊥) → get_or (set s (R c + i) w) (R d + j) 0 ≡ get_or s (R d + j) 0
    other d j x y ne =
        get_or-set_other s (R c + i) (R d + j) w 0 (λ z. let g = apart d c j i x b y a z in ne g.0 g.1)

-- a column is done
pub writing_column : (k n : ℕ) (R : ℕ → ℕ) (v : ℕ → ℕ → ℕ) (s₀ s : List ℕ) (i : ℕ) → i < n → Writing k n R v s₀ s i k
    → Writing k n R v s₀ s (i + 1) 0
writing_column k n R v s₀ s i a old =
    record {
      same = old.same;
      done = λ d j x y. below_more (λ j. get_or s (R d + j) 0 ≡ v d j) i (λ j z. old.done d j x z) (old.half d x) j y;
      half = λ d x. absurd (omega arith);
      todo = λ d j x y z. old.todo d j x (omega arith) z;
      next = λ d x y z. old.todo d (i + 1) y (omega arith) z;
      rest = old.rest;
    }
