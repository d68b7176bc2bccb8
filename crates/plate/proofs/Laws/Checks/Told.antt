-- What a `?` after `ok_or` tells.
use Rattle.std.specs.Prelude.{Option, Some, None, Ok, Err}
use Rattle.std.specs.Option.{ok_or}
use Rattle.std.proofs.Common.{◌≡◌, ℕ, refl, ap, arith}

pub some_told : {A E : Type 0} (o : Option A) (e : E) (x : A) → ok_or o e ≡ Ok x → o ≡ Some x
some_told (Some y) e x h = let same : y ≡ x = cc in ap Some same
some_told None e x h = let z : ◌≡◌ {A = ℕ} 0 1 = cc in absurd (omega arith)

pub none_told : {A E : Type 0} (o : Option A) (e f : E) → ok_or o e ≡ Err f → (o ≡ None) × (e ≡ f)
none_told (Some y) e f h = let z : ◌≡◌ {A = ℕ} 0 1 = cc in absurd (omega arith)
none_told None e f h = let same : e ≡ f = cc in (refl, same)
