-- An answer in the paper's numbers.
use Rattle.std.specs.Prelude.{ℕ}

-- an answer's number and its value: "An accepted call returns number 0. A refusal returns its number"; a refusal has value 0
pub record NumberAndValue : Type 0 where
  pub number : ℕ
  pub value : ℕ

abbrev pub number_and_value : ℕ → ℕ → NumberAndValue
number_and_value n v = record { number = n; value = v }
