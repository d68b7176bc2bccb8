-- What a call may count on when its check accepts: the plate, what a put asks for, and a layer; and what a show returns then.
use Rattle.std.specs.Prelude.{Some, Ok, Err}
use mathlib.Core.Path.{◌≡◌, refl}
use mathlib.Core.Bool.{true}
use mathlib.Core.List.{List}
use Prim.Native.Nat.{ℕ, ◌≤◌, ◌<◌}
use lib.ListN.{get_or}
use Rattle.kernels_model.specs.Shape.{top_under}
use Rattle.kernels_model.specs.declared.lens.Lens.{Lens}
use Rattle.kernels_model.specs.Lens.{lawful_lens}
use Rattle.kernels_model.specs.Fixed.{value_top, depth_top}
use Rattle.plate_model.specs.Layout.{Size, places}
use Rattle.plate_model.specs.Lent.{State, LentLengths, Ask, Inputs, Views}
use Rattle.plate_model.specs.Refusal.{Outcome, Value, Depth, sizes_check, lent_check, ask_check, layer_check}
use Rattle.plate_model.specs.Refusal.{plate_check, empty_check, outcome_number}
use Rattle.plate_model.specs.Calls.{show_by}
use Rattle.plate_model.specs.Asked.{asked_place, known_shape, asked_pixel}
use Rattle.plate_model.specs.Table.{LawfulSize, LentFor}
use Rattle.plate_model.specs.Word.{Fits}
use Rattle.plate_model.proofs.Numbers.Extents.{place_within}
use Rattle.plate_model.proofs.Checks.Rows.{check_passed}
use Rattle.plate_model.proofs.Checks.Conditions.{count_checks, place_checks, value_checks, shape_checks, named_checks}
use Rattle.plate_model.proofs.Checks.Conditions.{radius_checks, radius_under, full_checks, empty_checks, above_checks}
use Rattle.plate_model.proofs.Checks.Conditions.{lens_checks}
use Rattle.plate_model.proofs.Checks.Passed.{sizes_passed, lent_passed}

-- the plate's checks, whatever comes after them
pub lent_first : (z : Size) (n : LentLengths) (next : Outcome) → sizes_check z (lent_check z n next) ≡ Ok tt
    → LawfulSize z × LentFor z n × (next ≡ Ok tt)
lent_first z n next e =
    let s = sizes_passed z _ e in
    let l = lent_passed z n _ s.1 in
    (s.0, l.0, l.1)

-- 1 to 3 of put and undo
pub record PlateAccepted (s : State) (n : LentLengths) : Type 0 where
  pub lawful : LawfulSize s.size
  pub lent : LentFor s.size n
  pub count_in : s.count ≤ n.log

pub plate_accepted : (s : State) (n : LentLengths) (next : Outcome) → plate_check s n next ≡ Ok tt
    → PlateAccepted s n × (next ≡ Ok tt)
unfolding plate_check
plate_accepted s n next e =
    let p = lent_first s.size n _ e in
    let q = check_passed (count_checks s.count n.log) _ p.2 in
    (record { lawful = p.0; lent = p.1; count_in = q.0 }, q.1)

-- 4 to 8 of a put
pub record AskAccepted (z : Size) (count room : ℕ) (a : Ask) : Type 0 where
  pub place_x : a.x < z.width
  pub place_y : a.y < z.height
  pub place_in : asked_place z a < places z
  pub value_in : a.value ≤ value_top
  pub shape_known : a.shape ≡ Some (known_shape a.shape)
  pub radius_in_fact : a.radius ≤ top_under (known_shape a.shape) z.reach
  pub not_full : count ≡ room → ⊥

pub ask-accepted : (z : Size) (count room : ℕ) (a : Ask) → ask_check z count room a ≡ Ok tt → AskAccepted z count room a
unfolding ask_check
ask-accepted z count room a e =
    let q1 = check_passed (place_checks z a) _ e in
    let q2 = check_passed (value_checks a.value) _ q1.1 in
    let q3 = check_passed (named_checks a.shape) _ q2.1 in
    let q4 = check_passed (radius_checks z.reach a.shape a.radius) _ q3.1 in
    let q5 = check_passed (full_checks count room) _ q4.1 in
    record {
      place_x = q1.0.0;
      place_y = q1.0.1;
      place_in = place_within a.x a.y z.width z.height q1.0.0 q1.0.1;
      value_in = q2.0;
      shape_known = q3.0;
      radius_in_fact = radius_under z.reach a.shape a.radius q3.0 q4.0;
      not_full = q5.0;
    }

-- the pixel that an accepted put asks for is lawful
pub asked_fits : (z : Size) (count room : ℕ) (a : Ask) → AskAccepted z count room a → a.opacity < 256
    → Fits z.reach (asked_pixel a)
asked_fits z count room a h byte =
    record { value_fits = h.value_in; opacity_fits = byte; radius_fits = h.radius_in_fact }

-- 9 of an undo
pub some_accepted : (s : State) → empty_check s.count (Ok tt) ≡ Ok tt → 1 ≤ s.count
some_accepted s e = (check_passed (empty_checks s.count) (Ok tt) e).0

-- 5, 6, 11, 12 and 17 of a fill
pub record LayerAccepted (o : Lens) (f : Inputs) : Type 0 where
  pub values_in : (i : ℕ) → get_or f.values i 0 ≤ value_top
  pub lens_lawful : lawful_lens o ≡ true
  pub depths_in : (i : ℕ) → get_or f.depths i 0 ≤ depth_top

pub layer-accepted : (o : Lens) (k : ℕ) (f : Inputs) → layer_check o k f ≡ Ok tt → LayerAccepted o f
unfolding layer_check
layer-accepted o k f e =
    let q1 = check_passed (above_checks Value value_top f.values) _ e in
    let q2 = check_passed (shape_checks k) _ q1.1 in
    let q3 = check_passed (lens_checks o) _ q2.1 in
    let q4 = check_passed (above_checks Depth depth_top f.depths) _ q3.1 in
    record { values_in = q1.0; lens_lawful = q3.0; depths_in = q4.0 }

-- a show returns the number of its check
pub show_returns : (o : Outcome) (s : State) (planes : List ℕ) (v : Views) → (show_by o s planes v).answer.number ≡ outcome_number o
unfolding show_by
show_returns (Ok tt) s planes v = refl
show_returns (Err f) s planes v = refl
