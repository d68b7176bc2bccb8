-- One law for every list of rows: a call that goes by them is accepted exactly where none applies, says one thing only, and goes
-- on with further rows where these accept.
use mathlib.Core.Logic.{inl, inr}
use mathlib.Core.List.{List, [], ◌∷◌, ◌++◌}
use Rattle.kernels_model.specs.Rows.{TableRow, NoneOf, FirstOf}

module _ {F : Type 0} (says : F → Type 0) (accepted : Type 0) where
  -- accepted exactly where none applies
  pub none-accepted : (rows : List (TableRow F)) → FirstOf says accepted rows → NoneOf rows → accepted
  unfolding FirstOf NoneOf
  none-accepted [] a none = a
  none-accepted (r ∷ rows) (inl p) none = absurd (none.0 p.0)
  none-accepted (r ∷ rows) (inr p) none = none-accepted rows p.1 none.1

  pub accepted-none : (rows : List (TableRow F)) → ((f : F) → says f → accepted → ⊥) → FirstOf says accepted rows → accepted
      → NoneOf rows
  unfolding FirstOf NoneOf
  accepted-none [] apart p a = tt
  accepted-none (r ∷ rows) apart (inl p) a = absurd (apart r.refusal p.1 a)
  accepted-none (r ∷ rows) apart (inr p) a = (p.0, accepted-none rows apart p.1 a)

  module _ (tells : F → Type 0) (taken : Type 0) where
    -- two that go by the same rows say the same
    pub same_answer : {P : Type 0} (rows : List (TableRow F)) → ((f : F) → says f → tells f → P) → (accepted → taken → P)
        → FirstOf says accepted rows → FirstOf tells taken rows → P
    unfolding FirstOf
    same_answer [] refused both p q = both p q
    same_answer (r ∷ rows) refused both (inl p) (inl q) = refused r.refusal p.1 q.1
    same_answer (r ∷ rows) refused both (inl p) (inr q) = absurd (q.0 p.0)
    same_answer (r ∷ rows) refused both (inr p) (inl q) = absurd (p.0 q.0)
    same_answer (r ∷ rows) refused both (inr p) (inr q) = same_answer rows refused both p.1 q.1

    -- the same rows in other words
    pub first_says : (rows : List (TableRow F)) → ((f : F) → says f → tells f) → (accepted → taken)
        → FirstOf says accepted rows → FirstOf tells taken rows
    unfolding FirstOf
    first_says [] told both p = both p
    first_says (r ∷ rows) told both (inl p) = inl (p.0, told r.refusal p.1)
    first_says (r ∷ rows) told both (inr p) = inr (p.0, first_says rows told both p.1)

    -- further rows, checked where the first ones accept
    pub first_then : (rows more : List (TableRow F)) → ((f : F) → says f → tells f) → (accepted → FirstOf tells taken more)
        → FirstOf says accepted rows → FirstOf tells taken (rows ++ more)
    unfolding FirstOf
    first_then [] more told rest p = rest p
    first_then (r ∷ rows) more told rest (inl p) = inl (p.0, told r.refusal p.1)
    first_then (r ∷ rows) more told rest (inr p) = inr (p.0, first_then rows more told rest p.1)
