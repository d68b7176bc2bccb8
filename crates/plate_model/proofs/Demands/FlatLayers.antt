-- Flat layers: a cell that one pixel alone surrounds gets the whole of that pixel's light and matte, so it shows the pixel.
use mathlib.Core.Path.{◌≡◌, ap, ◌∙◌}
use mathlib.Core.List.{List}
use Prim.Native.Nat.{ℕ, ◌+◌, ◌*◌, ◌/◌, ◌%◌, ◌≤◌, ◌<◌}
use native.Mathlib.Omega.{arith}
use native.Mathlib.Nat.{mul-le-mul_right, div-add-mod'}
use Rattle.kernels_model.specs.Fixed.{unit, matte_unit, value_top}
use Rattle.kernels_model.specs.Sum.{dist}
use Rattle.kernels_model.specs.Shape.{reach_of}
use Rattle.kernels_model.specs.Rounding.{shown_value, shown_matte}
use Rattle.kernels_model.proofs.Numbers.Choices.{by_lt}
use Rattle.kernels_model.proofs.Numbers.Nearest.{nearest_at, even_once, value_to_even}
use Rattle.kernels_model.proofs.Sums.FiniteSums.{sum_ext_lt, sum_mul}
use Rattle.kernels_model.proofs.Taps.Areas.{weight_far_x, weight_far_y}
use Rattle.plate_model.specs.Layout.{Size, places}
use Rattle.plate_model.specs.Word.{Pixel, Fits}
use Rattle.plate_model.specs.Kernel.{weight_of}
use Rattle.plate_model.specs.Plain.{pixel_at, matte_of, light_of, weight_at, plain_sum, plain_values, plain_mattes}
use Rattle.plate_model.specs.Notebook.{Book}
use Rattle.plate_model.specs.Flat.{OnPlate, InSquare, FlatAt, AlikeFlat, FlatShows, FlatSeen}
use Rattle.plate_model.proofs.Numbers.Extents.{place_within}
use Rattle.plate_model.proofs.Numbers.Lists.{get_or_list_to}
use Rattle.plate_model.proofs.Demands.Squares.{sum-places, weights_on}
use Rattle.plate_model.proofs.Demands.Demand.{opened, demand_2}

-- A FLAT LAYER
-- a place lies in the square around a cell or it does not
by_square : {P : Type 0} (z : Size) (m i j : ℕ) → (InSquare z m i j → P) → (¬ (InSquare z m i j) → P) → P
by_square z m i j near far =
    by_lt m (dist (i % z.width) (j % z.width))
    (λ g. far (omega arith))
    (λ g. by_lt m (dist (i / z.width) (j / z.width)) (λ k. far (omega arith)) (λ k. near (record { across = g; down = k })))

-- a pixel adds nothing beyond its reach
weight_beyond : (z : Size) (p : Pixel) (i j : ℕ) → ¬ (InSquare z (reach_of p.shape p.radius) i j) → weight_at z p j i ≡ 0
weight_beyond z p i j n =
    by_lt m (dist (i % z.width) (j % z.width))
    (weight_far_x p.shape p.radius _ _)
    (λ g. by_lt m (dist (i / z.width) (j / z.width))
    (weight_far_y p.shape p.radius _ _)
    (λ k. absurd (n (record { across = g; down = k }))))
  where
    m : ℕ
    m = reach_of p.shape p.radius

pub alike_flat : AlikeFlat
alike_flat z grid p i alike on =
    record {
      on_plate = on;
      inside = λ j h q. alike j h;
      outside = λ j h n. rw (alike j h) (weight_beyond z p i j n);
    }

module _ (z : Size) (grid : List Pixel) (p : Pixel) (i : ℕ) (flat : FlatAt z grid p i) where
  -- the cell is one of the plate's
  flat_place : i < places z
  flat_place =
      let w = z.width in
      let on = flat.on_plate in
      omega (arith, div-add-mod' i w, place_within (i % w) (i / w) w z.height (omega (arith, on)) (omega (arith, on)))

  -- and p its own pixel
  flat_own : pixel_at grid i ≡ p
  flat_own = flat.inside i flat_place (record { across = omega arith; down = omega arith })

  -- the pixel of every place adds to the cell what p would add from there
  flat_term : (worth : Pixel → ℕ) (j : ℕ) → j < places z
      → worth (pixel_at grid j) * weight_at z (pixel_at grid j) j i ≡ worth p * weight_at z p j i
  flat_term worth j h =
      by_square z _ i j
      (λ q. rw (flat.inside j h q))
      (λ n. rw (flat.outside j h n, weight_beyond z p i j n) (omega arith))

  -- light and matte are neither lost nor made: the cell's sums are those of one pixel p, whole
  pub flat_sum : (worth : Pixel → ℕ) → plain_sum z grid worth i ≡ worth p * unit
  unfolding plain_sum
  flat_sum worth =
      sum_ext_lt _ (λ j. worth p * weight_at z p j i) (places z) (flat_term worth)
      ∙ sum_mul (worth p) (λ j. weight_at z p j i) (places z)
      ∙ ap (λ (n : ℕ). worth p * n)
      (sum-places (λ x y. weight_of p (dist (i % z.width) x) (dist (i / z.width) y)) z.width z.height
      ∙ weights_on p _ _ _ _ on.left_on on.right_on on.top_on on.bottom_on)
    where
      on : OnPlate z (reach_of p.shape p.radius) i
      on = flat.on_plate

-- WHAT IT SHOWS
-- a pixel's value and opacity, from its whole sums
value_whole : (v a : ℕ) → v ≤ value_top → 0 < a → shown_value (v * a * unit) (a * unit) ≡ v
value_whole v a top some =
    let light = v * a * unit in
    let matte = a * unit in
    let below : 2 * light < (2 * value_top + 1) * matte = omega (arith, mul-le-mul_right matte top) in
    even_once light matte (shown_value light matte) v (omega arith)
    (value_to_even light matte (omega arith) below)
    (record { near = omega arith; even = omega arith })

matte_whole : (a : ℕ) → a < 256 → shown_matte (a * unit) ≡ a
unfolding shown_matte
matte_whole a top = rw (nearest_at (a * unit) matte_unit a matte_unit (omega arith) (omega arith)) (omega arith)

-- in the plain pictures of a grid
pub flat_shows : FlatShows
unfolding plain_values plain_mattes
flat_shows z grid p i fits some flat =
    let here = flat_place z grid p i flat in
    let light = flat_sum z grid p i flat light_of in
    let matte = flat_sum z grid p i flat matte_of in (
      get_or_list_to _ (places z) i 0 here ∙ rw (light, matte) (value_whole p.value p.opacity fits.value_fits some),
      get_or_list_to _ (places z) i 0 here ∙ rw matte (matte_whole p.opacity fits.opacity_fits),
    )

-- in what the engine writes, where every pixel of the notebook's grid is lawful
pub flat_seen : FlatSeen
flat_seen z l calls v p i accepted lawful some flat =
    rw (demand_2 z l calls v accepted lawful) (flat_shows z _ p i fits some flat)
  where
    fits : Fits z.reach p
    fits =
        let after = opened z l calls accepted in
        let grid = ap (λ (b : Book). b.grid) after.same_book in
        rw (← (flat_own z _ p i flat), grid) (after.kept.grid_fits i)
