-- The radius from depth.
use Rattle.std.specs.Prelude.{Bool, true, false, ℕ, zero, suc, ◌*◌, ◌-◌, min, leb, ltb, Result, Ok, Err}
use Rattle.kernels_model.specs.Fixed.{depth_top, accepted, lens_refused, depth_refused}
use Rattle.kernels_model.specs.Choice.{pick}
use Rattle.kernels_model.specs.NumberAndValue.{NumberAndValue, number_and_value}
use Rattle.kernels_model.specs.Sum.{dist}
use Rattle.kernels_model.specs.Rounding.{nearest}
pub use Rattle.kernels_model.specs.declared.lens.Lens.{Lens}
pub use Rattle.kernels_model.specs.declared.lens.RadiusError.{RadiusError}
pub use Rattle.kernels_model.specs.declared.lens.RadiusError.TheVariants.{NoLens, NoDepth}

-- "opening D and focal length f (1 to 4,000), focus S (above f, at most 10,000,000), .. pitch p 1 to 1,000"
abbrev pub opening_top : ℕ
opening_top = 4000

abbrev pub focal_top : ℕ
focal_top = 4000

abbrev pub focus_top : ℕ
focus_top = 10000000

abbrev pub pitch_top : ℕ
pitch_top = 1000

-- the formula's factor: from 0.1 mm over 0.1 µm to pixels, and from a diameter to its half
abbrev pub lens_factor : ℕ
lens_factor = 500

-- each number in its bounds, and the focus above the focal length
unfoldable pub lawful_lens : Lens → Bool
lawful_lens l =
    pick (ltb l.opening 1) false
    (pick (ltb opening_top l.opening) false
    (pick (ltb l.focal 1) false
    (pick (ltb focal_top l.focal) false
    (pick (leb l.focus l.focal) false
    (pick (ltb focus_top l.focus) false
    (pick (ltb l.pitch 1) false
    (pick (ltb pitch_top l.pitch) false
    true)))))))

-- "r is 500 × D × f × abs(Z − S) / (p × Z × (S − f)) to the nearest, a half upwards"; "Depth 0 is infinity: 500 × D × f /
-- (p × (S − f))."
unfoldable pub blur : Lens → ℕ → ℕ
blur l zero = nearest (lens_factor * l.opening * l.focal) (l.pitch * (l.focus - l.focal))
blur l (suc m) =
    nearest
    (lens_factor * l.opening * l.focal * dist (suc m) l.focus)
    (l.pitch * suc m * (l.focus - l.focal))

-- the paper's number and value for each answer: a radius in pixels is accepted
unfoldable pub radius_answer : Result ℕ RadiusError → NumberAndValue
radius_answer (Ok r) = number_and_value accepted r
radius_answer (Err NoLens) = number_and_value lens_refused 0
radius_answer (Err NoDepth) = number_and_value depth_refused 0

-- those that the answer for a lens, a top and a depth has to have: "then at most the shape's top under R"; "D, f, S or p outside"
-- is 11, "a depth above 10,000,000" is 12
unfoldable pub radius_answer_for : Lens → ℕ → ℕ → NumberAndValue
radius_answer_for l top z =
    pick (lawful_lens l)
    (pick (leb z depth_top) (number_and_value accepted (min top (blur l z))) (number_and_value depth_refused 0))
    (number_and_value lens_refused 0)
