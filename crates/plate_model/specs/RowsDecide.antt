-- Rows of the table of refusals decide an answer: demand 1 says that each call answers by its rows, and there is one such number.
use Rattle.std.specs.Prelude.{◌≡◌, List, ℕ, ◌≤◌}
use Rattle.kernels_model.specs.Rows.{TableRow, NoneOf}
use Rattle.plate_model.specs.Refusal.{Refusal, refusal_number}
use Rattle.plate_model.specs.Table.{AnswersBy}

pub record RowsDecide : Type 1 where
  -- its number is 0 exactly where none of the rows applies
  pub accepted_where_none : (rows : List (TableRow Refusal)) (n : ℕ) → AnswersBy rows n → NoneOf rows → n ≡ 0
  pub none_where_accepted : (rows : List (TableRow Refusal)) (n : ℕ) → AnswersBy rows n → n ≡ 0 → NoneOf rows
  -- two numbers by the same rows are the same
  pub one_answer : (rows : List (TableRow Refusal)) (m n : ℕ) → AnswersBy rows m → AnswersBy rows n → m ≡ n
  -- and each refusal has a number of its own, which is not 0
  pub own_number : (f g : Refusal) → refusal_number f ≡ refusal_number g → f ≡ g
  pub number_some : (f : Refusal) → 1 ≤ refusal_number f
