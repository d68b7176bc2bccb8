-- What an accepted check tells, and that it refuses nothing where that holds: by the rows that the checks keep to.
use Rattle.std.specs.Prelude.{Ok}
use mathlib.Core.Path.{◌≡◌}
use Prim.Native.Nat.{ℕ, ◌≤◌}
use Rattle.plate_model.specs.Layout.{Size}
use Rattle.plate_model.specs.Lent.{LentLengths}
use Rattle.plate_model.specs.Refusal.{Outcome, sizes_check, length_check, lent_check, count_check}
use Rattle.plate_model.specs.Table.{LawfulSize, LentFor}
use Rattle.plate_model.proofs.Checks.Rows.{check_passed, check_passes}
use Rattle.plate_model.proofs.Checks.Conditions.{sizes_checks, length_checks, lent_checks, count_checks}

pub sizes_passed : (z : Size) (next : Outcome) → sizes_check z next ≡ Ok tt → LawfulSize z × (next ≡ Ok tt)
sizes_passed z = check_passed (sizes_checks z)

pub sizes_pass : (z : Size) (next : Outcome) → LawfulSize z → sizes_check z next ≡ next
sizes_pass z = check_passes (sizes_checks z)

pub length_passed : (n want : ℕ) (next : Outcome) → length_check n want next ≡ Ok tt → (n ≡ want) × (next ≡ Ok tt)
length_passed n want = check_passed (length_checks n want)

pub length_pass : (n want : ℕ) (next : Outcome) → n ≡ want → length_check n want next ≡ next
length_pass n want = check_passes (length_checks n want)

pub lent_passed : (z : Size) (n : LentLengths) (next : Outcome) → lent_check z n next ≡ Ok tt → LentFor z n × (next ≡ Ok tt)
lent_passed z n = check_passed (lent_checks z n)

pub lent_pass : (z : Size) (n : LentLengths) (next : Outcome) → LentFor z n → lent_check z n next ≡ next
lent_pass z n = check_passes (lent_checks z n)

pub count_pass : (n room : ℕ) (next : Outcome) → n ≤ room → count_check n room next ≡ next
count_pass n room = check_passes (count_checks n room)
