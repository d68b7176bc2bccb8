-- Lists by what stands at each of their places.
use Rattle.std.specs.Prelude.{List, [], ◌∷◌, ℕ, zero, suc, replicate}

abbrev pub zeros : ℕ → List ℕ
zeros n = replicate n 0

-- f 0, .., f (n - 1)
unfoldable pub list_to : {A : Type 0} → (ℕ → A) → ℕ → List A
list_to f zero = []
list_to f (suc n) = f 0 ∷ list_to (λ k. f (suc k)) n
