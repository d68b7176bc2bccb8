-- Answers by rows of the table of refusals, and checks that keep to a row.
use Rattle.std.specs.Prelude.{Ok, Err}
use mathlib.Core.Path.{◌≡◌, refl, ap, sym, subst, ◌∙◌}
use mathlib.Core.Logic.{◌⊎◌, inl, inr, ⊎_elim}
use mathlib.Core.List.{List, [], ◌∷◌, ◌++◌}
use Prim.Native.Nat.{ℕ, ◌≤◌}
use native.Mathlib.Omega.{arith}
use lib.Dec.{lit≤}
use lib.ListN.{get_or}
use Rattle.plate_model.specs.Refusal.{Refusal, Sizes, Lengths, LogCount, Place, Value, UnknownShape, LargeRadius, LogFull}
use Rattle.plate_model.specs.Refusal.{LogEmpty, StoredWord, UnlawfulLens, Depth, DepthInside, Outcome}
use Rattle.plate_model.specs.Refusal.{refusal_number, outcome_number}
use Rattle.kernels_model.specs.Rows.{TableRow, row, NoneOf, FirstOf}
use Rattle.kernels_model.proofs.Refusals.Rows.{none-accepted, accepted-none, same_answer, first_says, first_then}
use Rattle.plate_model.specs.Table.{AnswersBy}
use Rattle.plate_model.specs.RowsDecide.{RowsDecide}

pub refused-not : {P : Type 0} (f : Refusal) → ◌≡◌ {A = Outcome} (Err f) (Ok tt) → P
refused-not f e = let z : ◌≡◌ {A = ℕ} 0 1 = cc in absurd (omega arith)

-- a refusal's number is not that of an accepted call
pub refusal_some : (f : Refusal) → 1 ≤ refusal_number f
refusal_some Sizes = lit≤ tt
refusal_some Lengths = lit≤ tt
refusal_some LogCount = lit≤ tt
refusal_some Place = lit≤ tt
refusal_some Value = lit≤ tt
refusal_some UnknownShape = lit≤ tt
refusal_some LargeRadius = lit≤ tt
refusal_some LogFull = lit≤ tt
refusal_some LogEmpty = lit≤ tt
refusal_some StoredWord = lit≤ tt
refusal_some UnlawfulLens = lit≤ tt
refusal_some Depth = lit≤ tt
refusal_some DepthInside = lit≤ tt

-- ONE NUMBER FOR EACH REFUSAL
-- the refusals by their numbers; 0 and those of the records have none
refusal_at : ℕ → Refusal
refusal_at n =
    get_or
    (Sizes
    ∷ Sizes
    ∷ Lengths
    ∷ LogCount
    ∷ Place
    ∷ Value
    ∷ UnknownShape
    ∷ LargeRadius
    ∷ LogFull
    ∷ LogEmpty
    ∷ StoredWord
    ∷ UnlawfulLens
    ∷ Depth
    ∷ Sizes
    ∷ Sizes
    ∷ Sizes
    ∷ Sizes
    ∷ DepthInside
    ∷ [])
    n Sizes

refusal_at_lem : (f : Refusal) → refusal_at (refusal_number f) ≡ f
unfolding refusal_at
refusal_at_lem Sizes = refl
refusal_at_lem Lengths = refl
refusal_at_lem LogCount = refl
refusal_at_lem Place = refl
refusal_at_lem Value = refl
refusal_at_lem UnknownShape = refl
refusal_at_lem LargeRadius = refl
refusal_at_lem LogFull = refl
refusal_at_lem LogEmpty = refl
refusal_at_lem StoredWord = refl
refusal_at_lem UnlawfulLens = refl
refusal_at_lem Depth = refl
refusal_at_lem DepthInside = refl

pub numbers_apart : (f g : Refusal) → refusal_number f ≡ refusal_number g → f ≡ g
numbers_apart f g e = sym (refusal_at_lem f) ∙ ap refusal_at e ∙ refusal_at_lem g

-- an outcome with a refusal's number is that refusal
pub outcome_numbered : (o : Outcome) (f : Refusal) → outcome_number o ≡ refusal_number f → o ≡ Err f
outcome_numbered (Ok tt) f e = absurd (omega (arith, refusal_some f, e))
outcome_numbered (Err g) f e = ap Err (numbers_apart g f e)

-- and one with number 0 is accepted
pub accepted-numbered : (o : Outcome) → outcome_number o ≡ 0 → o ≡ Ok tt
accepted-numbered (Ok tt) e = refl
accepted-numbered (Err f) e = absurd (omega (arith, refusal_some f, e))

-- AN OUTCOME BY ROWS: the refusal of the first that applies, and accepted where none does
abbrev pub OutcomeBy : List (TableRow Refusal) → Outcome → Type 0
OutcomeBy rows o = FirstOf (λ f. o ≡ Err f) (o ≡ Ok tt) rows

-- its number is by the rows
pub number_by : (rows : List (TableRow Refusal)) (o : Outcome) → OutcomeBy rows o → AnswersBy rows (outcome_number o)
number_by rows o =
    first_says (λ f. o ≡ Err f) (o ≡ Ok tt) (λ f. outcome_number o ≡ refusal_number f) (outcome_number o ≡ 0) rows
    (λ f e. ap outcome_number e)
    (λ e. ap outcome_number e)

-- A NUMBER BY ROWS
-- it is 0 exactly where none applies
none-refused : (rows : List (TableRow Refusal)) (n : ℕ) → AnswersBy rows n → NoneOf rows → n ≡ 0
none-refused rows n = none-accepted (λ f. n ≡ refusal_number f) (n ≡ 0) rows

refused_none : (rows : List (TableRow Refusal)) (n : ℕ) → AnswersBy rows n → n ≡ 0 → NoneOf rows
refused_none rows n =
    accepted-none (λ f. n ≡ refusal_number f) (n ≡ 0) rows (λ f r a. absurd (omega (arith, refusal_some f, r, a)))

-- and there is one such number
answered_once : (rows : List (TableRow Refusal)) (m n : ℕ) → AnswersBy rows m → AnswersBy rows n → m ≡ n
answered_once rows m n =
    same_answer (λ f. m ≡ refusal_number f) (m ≡ 0) (λ f. n ≡ refusal_number f) (n ≡ 0) rows
    (λ f a b. a ∙ sym b)
    (λ a b. a ∙ sym b)

pub rows_decide : RowsDecide
rows_decide =
    record {
      accepted_where_none = none-refused;
      none_where_accepted = refused_none;
      one_answer = answered_once;
      own_number = numbers_apart;
      number_some = refusal_some;
    }

-- AN OUTCOME BY ROWS
-- past the last row a call is accepted
pub last_row : OutcomeBy [] (Ok tt)
unfolding FirstOf
last_row = refl

-- TWO LISTS OF CHECKS, one after the other
abbrev pub and_then : Outcome → Outcome → Outcome
and_then (Ok tt) next = next
and_then (Err f) next = Err f

-- both accept where the two in a row do
pub and_then_lem : (a next : Outcome) → and_then a next ≡ Ok tt → (a ≡ Ok tt) × (next ≡ Ok tt)
and_then_lem (Ok tt) next e = (refl, e)
and_then_lem (Err f) next e = refused-not f e

pub answers_then : (rows more : List (TableRow Refusal)) (o p : Outcome) → OutcomeBy rows o → (o ≡ Ok tt → OutcomeBy more p)
    → OutcomeBy (rows ++ more) (and_then o p)
answers_then rows more o p first rest =
    first_then (λ f. o ≡ Err f) (o ≡ Ok tt) (λ f. and_then o p ≡ Err f) (and_then o p ≡ Ok tt) rows more
    (λ f r. rw r)
    (λ a. rw a (rest a))
    first

-- CHECKS
-- a check that keeps to a row: where the row applies it refuses, whatever comes next; where the row does not, and something is
-- clear, it says what comes next
pub record Checks (f : Refusal) (given clear : Type 0) (check : Outcome → Outcome) : Type 0 where
  pub apart : given → clear → ⊥
  pub told : (given × ((next : Outcome) → check next ≡ Err f)) ⊎ (clear × ((next : Outcome) → check next ≡ next))

module _ {f : Refusal} {G C : Type 0} {check : Outcome → Outcome} where
  pub refusing : (G → C → ⊥) → G → ((next : Outcome) → check next ≡ Err f) → Checks f G C check
  refusing apart g e = record { apart = apart; told = inl (g, e) }

  pub passing : (G → C → ⊥) → C → ((next : Outcome) → check next ≡ next) → Checks f G C check
  passing apart c e = record { apart = apart; told = inr (c, e) }

  pub by_check : {P : Type 0} → Checks f G C check
      → (G → ((next : Outcome) → check next ≡ Err f) → P)
      → (C → ((next : Outcome) → check next ≡ next) → P) → P
  by_check k p q = ⊎_elim (λ a. p a.0 a.1) (λ a. q a.0 a.1) k.told

  -- where it accepts, something is clear, and what comes next accepts
  pub check_passed : Checks f G C check → (next : Outcome) → check next ≡ Ok tt → C × (next ≡ Ok tt)
  check_passed k next e = by_check k (λ g r. refused-not f (sym (r next) ∙ e)) (λ c r. (c, sym (r next) ∙ e))

  pub check_passes : Checks f G C check → (next : Outcome) → C → check next ≡ next
  check_passes k next c = by_check k (λ g r. absurd (k.apart g c)) (λ c r. r next)

  pub check_before : Checks f G C check → (a next : Outcome) → check (and_then a next) ≡ and_then (check a) next
  check_before k a next =
      by_check k (λ g r. rw (r (and_then a next), r a)) (λ c r. rw (r (and_then a next), r a))

  -- the row of a check is the first of the rows
  pub first_check : Checks f G C check → (rows : List (TableRow Refusal)) (next : Outcome) → (C → OutcomeBy rows next)
      → OutcomeBy (row f G ∷ rows) (check next)
  unfolding FirstOf
  first_check k rows next rest =
      by_check k (λ g r. inl (g, r next))
      (λ c r. inr ((λ g. k.apart g c), subst (λ (o : Outcome). OutcomeBy rows o) (sym (r next)) (rest c)))

-- two checks for one row
pub checks_both : {f : Refusal} {G C H D : Type 0} {check other : Outcome → Outcome}
    → Checks f G C check → Checks f H D other → Checks f (G ⊎ H) (C × D) (λ next. check (other next))
checks_both {f} {G} {C} {H} {D} {check} {other} k m =
    let apart : G ⊎ H → C × D → ⊥ = λ g c. ⊎_elim (λ a. k.apart a c.0) (λ a. m.apart a c.1) g in
    by_check k
    (λ g r. refusing apart (inl g) (λ next. r (other next)))
    (λ c r. by_check m
    (λ h q. refusing apart (inr h) (λ next. r (other next) ∙ q next))
    (λ d q. passing apart (c, d) (λ next. r (other next) ∙ q next)))
