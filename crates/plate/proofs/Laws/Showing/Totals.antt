-- All finished cells of a channel, added up row by row, and all of a total.
use Rattle.std.specs.Prelude.{Ok}
use Rattle.std.proofs.Common.{◌≡◌, ℕ, ◌+◌, ◌-◌, ◌*◌, ◌%◌, ◌^◌, ◌<◌, ◌≤◌, zero, suc, List, length, get_or, take, drop, sym, refl, ap, ◌∙◌, add-one, arith, length-drop, get_or-drop}
use Rattle.std.specs.List.{between, sum as sum_of}
use Rattle.std.proofs.lemmas.List.Sums.{sum_by_more}
use Rattle.kernels_model.specs.Fixed.{planes_each}
use Rattle.kernels_model.specs.Sum.{sum, Planes, finish}
use Rattle.plate_model.specs.declared.size.Size.{Size}
use Rattle.plate_model.specs.Layout.{wide, high, padded}
use Rattle.plate_model.specs.declared.state.State.{State}
use Rattle.plate_model.specs.Refusal.{total_check}
use Rattle.kernels_model.specs.Listed.{zeros}
use Rattle.plate_model.specs.Calls.{answer_of}
use Rattle.plate_model.specs.Total.{held_from, totals_of, totalled, total_by}
use Rattle.plate.specs.Frame.{Frame, frame_of}
use Rattle.plate.specs.Passes.{Channel, planes_in, down_from, SummedTo}
use Rattle.plate.specs.Totalling.{whole_channel, finished_to, AddedUp, TotalReady}
use Rattle.plate_model.proofs.Checks.Rows.{check_passed}
use Rattle.plate_model.proofs.Checks.Conditions.{total_checks}
use Rattle.plate_model.proofs.Checks.Passed.{sizes_passed}
use Rattle.plate.proofs.Laws.Showing.NextRow.{sum_cong_lt}
use Rattle.plate.proofs.Laws.Showing.Image.{finished_at, stored_is}

-- ROW BY ROW
-- before the first row there is nothing
pub added_start : (p : Channel) (m s : List ℕ) → AddedUp p m s s 0 0
unfolding finished_to sum
added_start p m s = record { same = refl; sum_is = refl }

-- the cells of a part
first_sum : (s : List ℕ) (d n : ℕ) → d + n ≤ length s → sum_of (take n (drop d s)) ≡ sum (λ x. get_or s (d + x) 0) n
unfolding sum
first_sum s d zero h = refl
first_sum s d (suc n) h =
    let some : n < length (drop d s) = omega (arith, length-drop d s) in
    let more : sum_of (take (suc n) (drop d s)) ≡ sum_of (take n (drop d s)) + get_or (drop d s) n 0 =
    rw (← add-one n) (sum_by_more (λ x. x) (drop d s) n 0 some) in
    more ∙ rw (first_sum s d n (omega arith), get_or-drop d s n 0)

pub part_sum : (s : List ℕ) (d e n : ℕ) → e ≡ d + n → e ≤ length s → sum_of (between d e s) ≡ sum (λ x. get_or s (d + x) 0) n
part_sum s d e n end h =
    let many : e - d ≡ n = omega arith in
    rw many (first_sum s d n (omega arith))

-- a summed row's cells, which start at d, are finished, and their sum is added
pub added_next : (p : Channel) (m s₀ s s' : List ℕ) (y v d r : ℕ) → AddedUp p m s₀ s y v → length s' ≡ length s
    → SummedTo p m s' (y + 1) → d ≡ down_from p → r ≡ (v + sum (λ x. get_or s' (d + x) 0) p.columns) % 2 ^ 64
    → AddedUp p m s₀ s' (y + 1) r
unfolding finished_to sum
added_next p m s₀ s s' y v d r old same to at e =
    record { same = same ∙ old.same; sum_is = rw (add-one y) (omega (arith, e, old.sum_is, row)) }
  where
    cell : (x : ℕ) → x < p.columns → get_or s' (d + x) 0 % 2 ^ 64 ≡ finish (planes_in p m) x y % 2 ^ 64
    cell x l = let done = finished_at p m s' y x (d + x) to l (ap (λ (n : ℕ). n + x) at) in omega arith

    row : sum (λ x. get_or s' (d + x) 0) p.columns % 2 ^ 64 ≡ sum (λ x. finish (planes_in p m) x y) p.columns % 2 ^ 64
    row = sum_cong_lt _ _ p.columns cell

-- THE WHOLE
-- and what all its rows hold is what the plate holds
pub held_is : (z : Size) (m s s' : List ℕ) (p v : ℕ) (f : Frame) (marks : ℕ) → f ≡ frame_of z → marks ≡ p * padded z
    → AddedUp (whole_channel f marks) m s s' f.high v → v ≡ held_from z m p
unfolding held_from finished_to
held_is z m s s' p v f marks e g all =
    let whole = rw (e, g) at all.sum_is in
    whole
    ∙ ap (λ (planes : Planes). sum (λ y. sum (λ x. finish planes x y) (wide z)) (high z) % 2 ^ 64)
    (sym (stored_is z (whole_channel (frame_of z) (p * padded z)) m p refl refl refl))

-- and so the total has done what it should
pub all_totalled : (state : State) (m s₀ s s' : List ℕ) (matte light : ℕ) → length s ≡ length s₀ → s' ≡ zeros (length s)
    → matte ≡ held_from state.size m planes_each → light ≡ held_from state.size m 0
    → totalled (totals_of (answer_of (Ok tt) 0 state) matte light) s' ≡ total_by (Ok tt) state m s₀
unfolding total_by
all_totalled state m s₀ s s' matte light same clear matte_is light_is = rw (clear, same, matte_is, light_is)

-- what an accepted check tells
pub total_ready : (z : Size) (m s : List ℕ) → total_check z (length m) (length s) ≡ Ok tt → TotalReady z m s
unfolding total_check
total_ready z m s e =
    let sizes = sizes_passed z _ e in
    let lengths = (check_passed (total_checks z (length m) (length s)) (Ok tt) sizes.1).0 in
    record { lawful = sizes.0; planes_are = lengths.0; scratch_is = lengths.1 }
