-- The light and matte that a plate holds in all.
use Rattle.std.specs.Prelude.{List, ℕ, ◌%◌, ◌^◌, length, Ok, Err}
use Rattle.kernels_model.specs.Fixed.{planes_each}
use Rattle.kernels_model.specs.Sum.{sum, finish}
use Rattle.plate_model.specs.Layout.{Size, wide, high}
use Rattle.plate_model.specs.Lent.{State}
use Rattle.plate_model.specs.Refusal.{Answer, Returned, returned, Outcome, total_check}
use Rattle.kernels_model.specs.Listed.{zeros}
use Rattle.plate_model.specs.Calls.{answer_of, stored}
pub use Rattle.plate_model.specs.declared.total.Totals.{Totals}

-- "the sums of finished matte and of finished light over all padded cells, wrapped": light's from plane 0 on, matte's from the
-- first plane after light's
unfoldable pub held_from : Size → List ℕ → ℕ → ℕ
held_from z planes p = sum (λ y. sum (λ x. finish (stored z planes p) x y) (wide z)) (high z) % 2 ^ 64

-- what a total returns, in the paper's numbers, and what it leaves of the scratch
pub record Totalled : Type 0 where
  pub answer : Returned
  pub matte : ℕ
  pub light : ℕ
  pub scratch : List ℕ

abbrev pub totalled : Totals → List ℕ → Totalled
totalled t scratch = record { answer = returned t.answer; matte = t.matte; light = t.light; scratch = scratch }

abbrev pub totals_of : Answer → ℕ → ℕ → Totals
totals_of a matte light = record { answer = a; matte = matte; light = light }

-- "what 01 does not name in a refused call's answer is 0 or no"
abbrev pub no_totals : Answer → Totals
no_totals a = totals_of a 0 0

-- "Lent planes and scratch, left as show leaves them, give the sums"
unfoldable pub total_by : Outcome → State → List ℕ → List ℕ → Totalled
total_by (Err f) s planes scratch = totalled (no_totals (answer_of (Err f) 0 s)) scratch
total_by (Ok tt) s planes scratch =
    let z = s.size in
    totalled (totals_of (answer_of (Ok tt) 0 s) (held_from z planes planes_each) (held_from z planes 0)) (zeros (length scratch))

unfoldable pub total_call : State → List ℕ → List ℕ → Totalled
total_call s planes scratch = total_by (total_check s.size (length planes) (length scratch)) s planes scratch
