-- Checks in a row: the refusal of the first, or else what the next ones say.
use Rattle.std.specs.Prelude.{Ok}
use Rattle.std.proofs.Common.{◌≡◌, ℕ, ◌*◌, length}
use Rattle.plate_model.specs.Fixed.{planes_in_all, scratch_planes}
use Rattle.plate_model.specs.declared.size.Size.{Size}
use Rattle.plate_model.specs.Layout.{padded}
use Rattle.plate_model.specs.declared.state.State.{State}
use Rattle.plate_model.specs.declared.lent.LentLengths.{LentLengths}
use Rattle.plate_model.specs.Lent.{Inputs}
use Rattle.plate_model.specs.Refusal.{Outcome}
use Rattle.plate_model.specs.Refusal.{sizes_check, length_check, lent_check, count_check, inputs_check, open_check, plate_check, fill_first}
use Rattle.plate_model.specs.Refusal.{total_check, sums_check}
use Rattle.plate.specs.Filling.{fill_lengths}
use Rattle.plate_model.proofs.Checks.Rows.{and_then, check_before}
use Rattle.plate_model.proofs.Checks.Conditions.{sizes_checks, length_checks, lent_checks, inputs_checks, count_checks, total_checks}

pub sizes_before : (z : Size) (a next : Outcome) → sizes_check z (and_then a next) ≡ and_then (sizes_check z a) next
sizes_before z = check_before (sizes_checks z)

-- one length, then the rest
pub length_then : (n want : ℕ) (next : Outcome) → length_check n want next ≡ and_then (length_check n want (Ok tt)) next
length_then n want next = check_before (length_checks n want) (Ok tt) next

pub sizes_then : (z : Size) (next : Outcome) → sizes_check z next ≡ and_then (sizes_check z (Ok tt)) next
sizes_then z next = sizes_before z (Ok tt) next

pub count_then : (n room : ℕ) (next : Outcome) → count_check n room next ≡ and_then (count_check n room (Ok tt)) next
count_then n room next = check_before (count_checks n room) (Ok tt) next

pub lent_before : (z : Size) (n : LentLengths) (a next : Outcome)
    → lent_check z n (and_then a next) ≡ and_then (lent_check z n a) next
lent_before z n = check_before (lent_checks z n)

pub inputs_before : (z : Size) (v o d : ℕ) (a next : Outcome)
    → inputs_check z v o d (and_then a next) ≡ and_then (inputs_check z v o d a) next
inputs_before z v o d = check_before (inputs_checks z v o d)

pub inputs_then : (z : Size) (v o d : ℕ) (next : Outcome) → inputs_check z v o d next ≡ and_then (inputs_check z v o d (Ok tt)) next
inputs_then z v o d next = inputs_before z v o d (Ok tt) next

-- put, undo and fill check first what an open checks
pub open_before : (z : Size) (n : LentLengths) (next : Outcome) → sizes_check z (lent_check z n next) ≡ and_then (open_check z n) next
unfolding open_check
open_before z n next = rw (lent_before z n (Ok tt) next, sizes_before z (lent_check z n (Ok tt)) next)

-- put and undo: 1 to 3, then the rest
pub plate_before : (s : State) (n : LentLengths) (next : Outcome) → plate_check s n next ≡ and_then (plate_check s n (Ok tt)) next
unfolding plate_check
plate_before s n next =
    rw (
      check_before (count_checks s.count n.log) (Ok tt) next,
      lent_before s.size n _ next,
      sizes_before s.size _ next,
    )

-- fill: 1 to 3, then the rest
pub fill_before : (s : State) (f : Inputs) (n : LentLengths) (next : Outcome)
    → fill_first s f n next
    ≡ and_then (fill_lengths s n (length f.values) (length f.opacities) (length f.depths)) next
unfolding fill_first fill_lengths
fill_before s f n next =
    rw (
      check_before (count_checks s.count n.log) (Ok tt) next,
      inputs_before s.size _ _ _ _ next,
      lent_before s.size n _ next,
      sizes_before s.size _ next,
    )

-- a show checks first what a total checks
pub total_before : (z : Size) (planes scratch : ℕ) (next : Outcome)
    → sizes_check z (length_check planes (planes_in_all * padded z) (length_check scratch (scratch_planes * padded z) next))
    ≡ and_then (total_check z planes scratch) next
unfolding total_check
total_before z planes scratch next = rw (check_before (total_checks z planes scratch) (Ok tt) next, sizes_before z _ next)

-- a show or a mend that keeps sums checks first their length
pub sums_before : (z : Size) (sums : ℕ) (next : Outcome)
    → sizes_check z (sums_check z sums next) ≡ and_then (sizes_check z (sums_check z sums (Ok tt))) next
sums_before z sums next = rw (length_then sums _ next, sizes_before z _ next)
