-- What the code may count on when its own checks accept: by lengths alone, of a fill, of a show and of what is kept.
use Rattle.std.specs.Prelude.{Ok}
use Rattle.std.proofs.Common.{◌≡◌, ℕ, ◌*◌}
use Rattle.plate_model.specs.declared.size.Size.{Size}
use Rattle.plate_model.specs.Layout.{padded, places, sums_in_all}
use Rattle.plate_model.specs.declared.state.State.{State}
use Rattle.plate_model.specs.declared.lent.LentLengths.{LentLengths}
use Rattle.plate_model.specs.Refusal.{views_check, show_check, canvas_check, kept_check}
use Rattle.plate_model.specs.Table.{LawfulSize, LentFor}
use Rattle.plate_model.specs.Fixed.{planes_in_all, scratch_planes}
use Rattle.plate.specs.Filling.{fill_lengths}
use Rattle.plate_model.proofs.Checks.Rows.{check_passed}
use Rattle.plate_model.proofs.Checks.Conditions.{inputs_checks, views_checks, canvas_checks}
use Rattle.plate_model.proofs.Checks.Passed.{sizes_passed}
use Rattle.plate_model.proofs.Checks.Accepted.{lent_first}

-- 1 to 3 of a fill
pub record FillAccepted (s : State) (n : LentLengths) (values opacities depths : ℕ) : Type 0 where
  pub lawful : LawfulSize s.size
  pub lent : LentFor s.size n
  pub values_are : values ≡ places s.size
  pub opacities_are : opacities ≡ places s.size
  pub depths_are : depths ≡ places s.size

pub fill_accepted : (s : State) (n : LentLengths) (values opacities depths : ℕ)
    → fill_lengths s n values opacities depths ≡ Ok tt
    → FillAccepted s n values opacities depths
unfolding fill_lengths
fill_accepted s n values opacities depths e =
    let p = lent_first s.size n _ e in
    let q = (check_passed (inputs_checks s.size values opacities depths) _ p.2).0 in
    record {
      lawful = p.0;
      lent = p.1;
      values_are = q.0;
      opacities_are = q.1.0;
      depths_are = q.1.1;
    }

pub record ShowAccepted (s : State) (planes scratch values mattes : ℕ) : Type 0 where
  pub lawful : LawfulSize s.size
  pub planes_are : planes ≡ planes_in_all * padded s.size
  pub scratch_are : scratch ≡ scratch_planes * padded s.size
  pub values_are : values ≡ places s.size
  pub mattes_are : mattes ≡ places s.size

pub show_accepted : (s : State) (planes scratch values mattes : ℕ) → show_check s planes scratch values mattes ≡ Ok tt
    → ShowAccepted s planes scratch values mattes
unfolding show_check views_check
show_accepted s planes scratch values mattes e =
    let z = s.size in
    let p = sizes_passed z _ e in
    let q = (check_passed (views_checks z planes scratch values mattes) (Ok tt) p.1).0 in
    record {
      lawful = p.0;
      planes_are = q.0;
      scratch_are = q.1.0;
      values_are = q.1.1.0;
      mattes_are = q.1.1.1;
    }

-- 1, and 2 of kept sums and pictures
pub record KeptAccepted (z : Size) (sums values mattes : ℕ) : Type 0 where
  pub lawful : LawfulSize z
  pub sums_are : sums ≡ sums_in_all z
  pub values_are : values ≡ places z
  pub mattes_are : mattes ≡ places z

pub kept_accepted : (z : Size) (sums values mattes : ℕ) → kept_check z sums values mattes ≡ Ok tt
    → KeptAccepted z sums values mattes
unfolding kept_check canvas_check
kept_accepted z sums values mattes e =
    let p = sizes_passed z _ e in
    let q = (check_passed (canvas_checks z sums values mattes) (Ok tt) p.1).0 in
    record { lawful = p.0; sums_are = q.0; values_are = q.1.0; mattes_are = q.1.1 }
