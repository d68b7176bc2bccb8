-- Rows of a table of refusals: which of them a call answers. What each row is given for, and a call's rows in their order, are
-- said where the call is.
use Rattle.std.specs.Prelude.{◌⊎◌, List, [], ◌∷◌}

-- a row as a call meets it: the refusal, one of F, and what it is given for
pub record TableRow (F : Type 0) : Type 1 where
  pub refusal : F
  pub given : Type 0

abbrev pub row : {F : Type 0} → F → Type 0 → TableRow F
row f given = record { refusal = f; given = given }

-- none of them applies
unfoldable pub NoneOf : {F : Type 0} → List (TableRow F) → Type 0
NoneOf [] = Unit {0}
NoneOf (r ∷ rows) = (¬ r.given) × NoneOf rows

-- "The lowest number that applies is given": of the rows, in the order in which the call checks them, the call says the refusal
-- of the first that applies, and where none does it is accepted
unfoldable pub FirstOf : {F : Type 0} → (F → Type 0) → Type 0 → List (TableRow F) → Type 0
FirstOf says accepted [] = accepted
FirstOf says accepted (r ∷ rows) = (r.given × says r.refusal) ⊎ ((¬ r.given) × FirstOf says accepted rows)
