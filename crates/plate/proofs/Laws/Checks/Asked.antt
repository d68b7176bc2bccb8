-- The pixel that a put asks for: what its checks say, told apart.
use Rattle.std.specs.Prelude.{Ok, Err}
use Rattle.std.proofs.Common.{◌≡◌, ℕ, refl, ap, arith}
use Rattle.plate_model.specs.declared.word.Pixel.{Pixel}
use Rattle.plate_model.specs.declared.state.Refusal.{Refusal}
use Rattle.plate_model.specs.Refusal.{Outcome}
use Rattle.plate.specs.Asking.{pixel_by}

pub to_put : (o : Outcome) (p q : Pixel) → pixel_by o p ≡ Ok q → (o ≡ Ok tt) × (p ≡ q)
to_put (Ok tt) p q e = let same : p ≡ q = cc in (refl, same)
to_put (Err f) p q e = let z : ◌≡◌ {A = ℕ} 0 1 = cc in absurd (omega arith)

pub no_put : (o : Outcome) (p : Pixel) (f : Refusal) → pixel_by o p ≡ Err f → o ≡ Err f
no_put (Ok tt) p f e = let z : ◌≡◌ {A = ℕ} 0 1 = cc in absurd (omega arith)
no_put (Err g) p f e = let same : g ≡ f = cc in ap Err same
