-- Which cells are in reach: by the taps of the two kernels, and so by their rows.
use mathlib.Core.Path.{◌≡◌, refl, sym}
use mathlib.Core.Bool.{Bool, true, false, not, ◌||◌}
use mathlib.Core.Logic.{◌≢◌, ◌⊎◌, inl, inr, ⊎_elim}
use Prim.Native.Nat.{ℕ, ◌+◌, ◌-◌, ◌/◌, ◌%◌, ◌≤◌, ◌<◌}
use native.Mathlib.Omega.{arith}
use lib.Dec.{eqb}
use borrow.Author.Tests.{eqb-true}
use Rattle.kernels_model.specs.Sum.{dist}
use Rattle.kernels_model.specs.Shape.{reach_of}
use Rattle.kernels_model.specs.declared.band.Band.{Band}
use Rattle.kernels_model.specs.Band.{BandOf}
use Rattle.kernels_model.proofs.Numbers.Choices.{by_test, by_lt}
use Rattle.kernels_model.proofs.Taps.TapForms.{far_y}
use Rattle.plate_model.specs.Layout.{Size}
use Rattle.plate_model.specs.Change.{Change}
use Rattle.plate_model.specs.Kept.{tap_at, in_reach}
use Rattle.plate_model.proofs.Checks.Conditions.{true-not}

-- TAPS
-- a cell is in reach by a tap of either kernel, and by nothing else
by_taps : (a b : ℕ) → (a ≢ 0) ⊎ (b ≢ 0) → (not (eqb a 0) || not (eqb b 0)) ≡ true
by_taps a b h = by_test (eqb a 0) zero (λ e. rw e)
  where
    zero : eqb a 0 ≡ true → (not (eqb a 0) || not (eqb b 0)) ≡ true
    zero e =
        by_test (eqb b 0)
        (λ f. absurd (⊎_elim (λ n. n (eqb-true a 0 e)) (λ n. n (eqb-true b 0 f)) h))
        (λ f. rw (e, f))

pub tap_reaches : (z : Size) (c : Change) (i : ℕ) → (tap_at z c.old c.place i ≢ 0) ⊎ (tap_at z c.new c.place i ≢ 0)
    → in_reach z c i ≡ true
unfolding in_reach
tap_reaches z c i h = by_taps (tap_at z c.old c.place i) (tap_at z c.new c.place i) h

pub no_tap_reaches : (z : Size) (c : Change) (i : ℕ) → tap_at z c.old c.place i ≡ 0 → tap_at z c.new c.place i ≡ 0
    → in_reach z c i ≡ true → ⊥
unfolding in_reach
no_tap_reaches z c i e f h = true-not (sym (rw (e, f) at h))

-- and a cell that is not in reach is one where both taps are 0
none_of_taps : (a b : Bool) → (not a || not b) ≡ false → (a ≡ true) × (b ≡ true)
none_of_taps true true e = (refl, refl)
none_of_taps true false e = true-not e
none_of_taps false b e = true-not e

pub not_reached : (z : Size) (c : Change) (i : ℕ) → in_reach z c i ≡ false
    → (tap_at z c.old c.place i ≡ 0) × (tap_at z c.new c.place i ≡ 0)
unfolding in_reach
not_reached z c i e = let none = none_of_taps _ _ e in (eqb-true _ _ none.0, eqb-true _ _ none.1)

-- ROWS
-- a cell of a row, by the rows of the two kernels: it is in reach where it is nearer than the wider one's span
module _ (z : Size) (c : Change) (i : ℕ) (old new : Band) (span : ℕ)
    (old_band : BandOf c.old.shape c.old.radius (dist (i / z.width) (c.place / z.width)) old)
    (new_band : BandOf c.new.shape c.new.radius (dist (i / z.width) (c.place / z.width)) new)
    (wider : span ≡ old.span + (new.span - old.span)) where
  pub near_reached : dist (i % z.width) (c.place % z.width) < span → in_reach z c i ≡ true
  near_reached h =
      tap_reaches z c i
      (by_lt (dist (i % z.width) (c.place % z.width)) old.span
      (λ g. inl (old_band.has_tap_fact _ g))
      (λ g. inr (new_band.has_tap_fact _ (omega arith))))

  pub far_not_reached : span ≤ dist (i % z.width) (c.place % z.width) → in_reach z c i ≡ true → ⊥
  far_not_reached h = no_tap_reaches z c i (old_band.no_tap _ (omega arith)) (new_band.no_tap _ (omega arith))

-- a row further off than both kernels reach has no cell in reach
pub row-not_reached : (z : Size) (c : Change) (i reach : ℕ) → reach_of c.old.shape c.old.radius ≤ reach
    → reach_of c.new.shape c.new.radius ≤ reach → reach < dist (i / z.width) (c.place / z.width)
    → in_reach z c i ≡ true → ⊥
row-not_reached z c i reach p q h =
    no_tap_reaches z c i (far_y c.old.shape c.old.radius _ _ (omega arith))
    (far_y c.new.shape c.new.radius _ _ (omega arith))
