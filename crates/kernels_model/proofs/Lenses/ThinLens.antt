-- Laws of the thin lens formula.
use Rattle.std.specs.Prelude.{Result, Ok}
use mathlib.Core.Path.{◌≡◌, refl, ◌∙◌}
use mathlib.Core.Bool.{true, false}
use Prim.Native.Nat.{ℕ, ◌+◌, ◌*◌, ◌-◌, ◌<◌, ◌≤◌, min}
use native.Mathlib.Omega.{arith}
use borrow.Author.Tests.{le-leb, lt-leb}
use Rattle.kernels_model.proofs.Numbers.Products.{product_le}
use Rattle.kernels_model.proofs.Numbers.Nearest.{half_up}
use Rattle.kernels_model.specs.Fixed.{depth_top, accepted, lens_refused, depth_refused}
use Rattle.kernels_model.specs.NumberAndValue.{number_and_value}
use Rattle.kernels_model.specs.Sum.{dist}
use Rattle.kernels_model.specs.Rounding.{nearest}
use Rattle.kernels_model.specs.Facts.{RadiusFact, InfinityFact}
use Rattle.kernels_model.specs.Lens.{Lens, RadiusError, opening_top, focal_top, focus_top, pitch_top}
use Rattle.kernels_model.specs.Lens.{lens_factor, lawful_lens, blur, radius_answer, radius_answer_for}

-- what a lawful lens keeps to
pub record Lawful (l : Lens) : Type 0 where
  pub opening_some : 1 ≤ l.opening
  pub opening_top_fact : l.opening ≤ opening_top
  pub focal_some : 1 ≤ l.focal
  pub focal_top_fact : l.focal ≤ focal_top
  pub focus_past : l.focal < l.focus
  pub focus_top_fact : l.focus ≤ focus_top
  pub pitch_some : 1 ≤ l.pitch
  pub pitch_top_fact : l.pitch ≤ pitch_top

pub lens-true : (l : Lens) → Lawful l → lawful_lens l ≡ true
unfolding lawful_lens
lens-true l h = grind arith

pub lawful : (l : Lens) → lawful_lens l ≡ true → Lawful l
unfolding lawful_lens
lawful l e = grind arith

-- the products at infinity: none wraps, and the divisor is not 0
pub record FarSmall (l : Lens) : Type 0 where
  pub above : lens_factor * l.opening * l.focal ≤ lens_factor * opening_top * focal_top
  pub below : l.pitch * (l.focus - l.focal) ≤ pitch_top * focus_top
  pub some : 1 ≤ l.pitch * (l.focus - l.focal)

pub far_small : (l : Lens) → Lawful l → FarSmall l
far_small l h = grind arith

-- the products at a depth z, at the distance d from the focus: none wraps, and the divisor is not 0
pub record NearSmall (l : Lens) (z d : ℕ) : Type 0 where
  pub above : lens_factor * l.opening * l.focal * d ≤ lens_factor * opening_top * focal_top * (depth_top + focus_top)
  pub paced : l.pitch * z ≤ pitch_top * depth_top
  pub below : l.pitch * z * (l.focus - l.focal) ≤ pitch_top * depth_top * focus_top
  pub some : 1 ≤ l.pitch * z * (l.focus - l.focal)

pub near_small : (l : Lens) (z d : ℕ) → Lawful l → 1 ≤ z → z ≤ depth_top → d ≤ depth_top + focus_top → NearSmall l z d
near_small l z d h p q r = grind arith

-- "Depth 0 is infinity"
pub blur_far : (l : Lens) (z : ℕ) → z ≡ 0
    → blur l z ≡ nearest (lens_factor * l.opening * l.focal) (l.pitch * (l.focus - l.focal))
unfolding blur
blur_far l z e = rw e

pub blur_near :
    (l : Lens) (z : ℕ) → (z ≡ 0 → ⊥) →
    blur l z ≡ nearest (lens_factor * l.opening * l.focal * dist z l.focus) (l.pitch * z * (l.focus - l.focal))
unfolding blur
blur_near l z some = grind arith

-- the divisors are above 0, so that the radius is the formula's, "to the nearest, a half upwards"
pub infinity_half_up : InfinityFact
infinity_half_up l e =
    let some = (far_small l (lawful l e)).some in
    (some, rw (blur_far l 0 refl) (half_up _ _ some))

pub radius_half_up : RadiusFact
radius_half_up l z e h =
    let g = lawful l e in
    let paced : 1 ≤ l.pitch * z = product_le 1 1 l.pitch z g.pitch_some h in
    let some : 1 ≤ l.pitch * z * (l.focus - l.focal) =
    product_le 1 1 (l.pitch * z) (l.focus - l.focal) paced (omega (arith, g.focus_past)) in
    (some, rw (blur_near l z (λ n. omega arith)) (half_up _ _ some))

-- THE ANSWER FOR A RADIUS
pub no_lens : (l : Lens) (top z : ℕ) → lawful_lens l ≡ false → radius_answer_for l top z ≡ number_and_value lens_refused 0
unfolding radius_answer_for
no_lens l top z e = simp e

pub no_depth : (l : Lens) (top z : ℕ) → lawful_lens l ≡ true → depth_top < z
    → radius_answer_for l top z ≡ number_and_value depth_refused 0
unfolding radius_answer_for
no_depth l top z e h = simp (e, lt-leb z depth_top h)

pub in_pixels :
    (l : Lens) (top z : ℕ) → lawful_lens l ≡ true → z ≤ depth_top
    → radius_answer_for l top z ≡ number_and_value accepted (min top (blur l z))
unfolding radius_answer_for
in_pixels l top z e h = simp (e, le-leb z depth_top h)

-- an accepted radius is one of pixels
pixels_answered : (r : Result ℕ RadiusError) (m : ℕ) → radius_answer r ≡ number_and_value accepted m → r ≡ Ok m
unfolding radius_answer
pixels_answered r m e = grind arith

-- the radius that is read, for a lawful lens and depth
pub radius_read : (r : Result ℕ RadiusError) (l : Lens) (top z : ℕ) → radius_answer r ≡ radius_answer_for l top z
    → lawful_lens l ≡ true → z ≤ depth_top → r ≡ Ok (min top (blur l z))
radius_read r l top z t e h = pixels_answered r (min top (blur l z)) (t ∙ in_pixels l top z e h)
