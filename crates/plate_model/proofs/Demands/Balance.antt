-- Light is neither made nor lost: every kernel lies whole inside the padded plane, so what a plate holds in all is what its
-- pixels
-- had.
use Rattle.std.specs.Prelude.{Ok}
use mathlib.Core.Path.{◌≡◌, ap, ◌∙◌}
use mathlib.Core.List.{List}
use Prim.Native.Nat.{ℕ, ◌+◌, ◌*◌, ◌/◌, ◌%◌, ◌^◌, ◌≤◌, ◌<◌}
use native.Mathlib.Omega.{arith}
use native.Mathlib.Nat.{mul_comm, mod-lt, mod-eq_of_lt, le_trans, le_refl}
use lib.ListN.{get_or, length}
use Rattle.kernels_model.specs.Fixed.{unit, planes_each, margin, opacity_top, value_top}
use Rattle.kernels_model.specs.Sum.{sum, dist}
use Rattle.kernels_model.proofs.Numbers.Products.{product_le}
use Rattle.kernels_model.proofs.Sums.FiniteSums.{sum_ext, sum_ext_lt, sum_mul, sum_swap, sum_cong}
use Rattle.plate_model.specs.Fixed.{planes_in_all, scratch_planes, places_top}
use Rattle.plate_model.specs.Layout.{Size, padded, places, column_of, row_of}
use Rattle.plate_model.specs.Lent.{state_of}
use Rattle.plate_model.specs.Word.{Pixel, Entry}
use Rattle.plate_model.specs.Kernel.{weight_of}
use Rattle.plate_model.specs.Refusal.{total_check}
use Rattle.kernels_model.specs.Listed.{zeros}
use Rattle.plate_model.specs.Calls.{answer_of}
use Rattle.plate_model.specs.Plain.{pixel_at, light_of, matte_of, grid_cell}
use Rattle.plate_model.specs.Total.{held_from, totalled, totals_of, total_by, total_call}
use Rattle.plate_model.specs.Balance.{had_by, Balances}
use Rattle.plate_model.specs.Table.{LawfulSize}
use Rattle.plate_model.specs.Word.{Fits}
use Rattle.plate_model.proofs.Checks.Rows.{check_passes}
use Rattle.plate_model.proofs.Checks.Conditions.{total_checks}
use Rattle.plate_model.proofs.Checks.Passed.{sizes_pass}
use Rattle.plate_model.proofs.Numbers.Extents.{row_of_lem}
use Rattle.kernels_model.proofs.Taps.ShapeNumbers.{reach_under}
use Rattle.plate_model.proofs.Demands.Squares.{weights_on}
use Rattle.plate_model.proofs.Demands.PlainSums.{sum_le, matte_most, light_most, InPicture, in_light, in_matte, cell_weight}
use Rattle.plate_model.proofs.Demands.PlainSums.{cell_wrapped}
use Rattle.plate_model.proofs.Demands.Mirror.{Mirrored}
use Rattle.plate_model.proofs.Demands.Demand.{opened}

-- A KERNEL IN THE PADDED PLANE
turned : (a b : ℕ) → dist a b ≡ dist b a
turned a b = omega arith

-- a plane of w columns and h rows goes as far as kernels of a plate's pixels may reach
record Reaches (z : Size) (w h : ℕ) : Type 0 where
  pub right : z.width + 2 * z.reach + margin ≤ w
  pub bottom : z.height + 2 * z.reach + margin ≤ h

-- over all its cells a lawful pixel's weights are the whole
weights_in : (z : Size) (q : Pixel) (j w h : ℕ) → LawfulSize z → Fits z.reach q → j < places z → Reaches z w h
    → sum (λ y. sum (λ x. cell_weight z q j x y) w) h ≡ unit
weights_in z q j w h law fits here far =
    let u = reach_under z.reach q.shape q.radius fits.radius_fits in
    let across : j % z.width < z.width = mod-lt j law.width_some in
    let down : j / z.width < z.height = row_of_lem j z.width z.height law.width_some here in
    sum_swap (λ y x. cell_weight z q j x y) h w
    ∙ sum_ext _ _ (λ x. sum_ext _ _ (λ y i. weight_of q (turned x (column_of z j) i) (turned y (row_of z j) i)) h) w
    ∙ weights_on q (column_of z j) (row_of z j) w h (omega arith) (omega arith) (omega arith) (omega arith)

-- WHAT A PLATE HOLDS
module _ (z : Size) (planes : List ℕ) (grid : List Pixel) (law : LawfulSize z)
    (cells : (k : ℕ) → k < planes_in_all * padded z → get_or planes k 0 ≡ grid_cell z grid k)
    (fits : (i : ℕ) → Fits z.reach (pixel_at grid i))
    (p : ℕ) (low : p ≤ planes_each) (worth : Pixel → ℕ) (from : InPicture z p worth)
  where
    -- what the pixel at a place is worth, and what it adds to a padded cell for each of it
    worth_at : ℕ → ℕ
    worth_at j = worth (pixel_at grid j)

    adds : ℕ → ℕ → ℕ → ℕ
    adds j x y = cell_weight z (pixel_at grid j) j x y

    module _ (w h : ℕ) (far : Reaches z w h) where
      -- one pixel, over all cells
      one_whole : (j : ℕ) → j < places z → sum (λ y. sum (λ x. worth_at j * adds j x y) w) h ≡ unit * worth_at j
      unfolding adds
      one_whole j here =
          sum_ext _ _ (λ y. sum_mul (worth_at j) (λ x. adds j x y) w) h
          ∙ sum_mul (worth_at j) (λ y. sum (λ x. adds j x y) w) h
          ∙ ap (λ (n : ℕ). worth_at j * n) (weights_in z (pixel_at grid j) j w h law (fits j) here far)
          ∙ mul_comm (worth_at j) unit

      -- all pixels: what they add may be summed pixel by pixel
      all_whole : sum (λ y. sum (λ x. sum (λ j. worth_at j * adds j x y) (places z)) w) h ≡ had_by z grid worth
      unfolding had_by worth_at
      all_whole =
          sum_ext _ _ (λ y. sum_swap (λ x j. worth_at j * adds j x y) w (places z)) h
          ∙ sum_swap (λ y j. sum (λ x. worth_at j * adds j x y) w) h (places z)
          ∙ sum_ext_lt _ (λ j. unit * worth_at j) (places z) one_whole
          ∙ sum_mul unit worth_at (places z)

    -- the padded plane goes further than that
    held_wrapped : held_from z planes p ≡ had_by z grid worth % 2 ^ 64
    unfolding held_from worth_at adds
    held_wrapped =
        sum_cong _ _ (λ y. sum_cong _ _ (λ x. cell_wrapped z planes grid law cells fits p low worth from x y) _) _
        ∙ ap (λ (n : ℕ). n % 2 ^ 64) (all_whole _ _ (record { right = omega arith; bottom = omega arith }))

-- NOTHING WRAPS
-- "W × H at most 2,097,152", each worth at most c
had_le : (z : Size) (grid : List Pixel) (worth : Pixel → ℕ) (c : ℕ) → LawfulSize z → ((j : ℕ) → worth (pixel_at grid j) ≤ c)
    → had_by z grid worth ≤ unit * (places_top * c)
unfolding had_by
had_le z grid worth c law top =
    let all = le_trans (sum_le _ c (places z) top) (product_le (places z) c places_top c law.places_top_fact (le_refl c)) in
    omega (arith, all)

had_below : (z : Size) (grid : List Pixel) → LawfulSize z → ((j : ℕ) → Fits z.reach (pixel_at grid j))
    → (had_by z grid matte_of < 2 ^ 64) × (had_by z grid light_of < 2 ^ 64)
had_below z grid law fits = (
  omega (arith, had_le z grid matte_of opacity_top law (λ j. matte_most _ _ (fits j))),
  omega (arith, had_le z grid light_of (value_top * opacity_top) law (λ j. light_most _ _ (fits j))),
)

-- THE TOTAL
module _ (z : Size) (room : ℕ) (planes : List ℕ) (grid : List Pixel) (pile : List Entry)
    (kept : Mirrored z room planes grid pile) where
  below : (had_by z grid matte_of < 2 ^ 64) × (had_by z grid light_of < 2 ^ 64)
  below = had_below z grid kept.lawful kept.grid_fits

  light_held : held_from z planes 0 ≡ had_by z grid light_of
  light_held =
      held_wrapped z planes grid kept.lawful kept.each_cell kept.grid_fits 0 (omega arith) light_of
      (in_light z kept.lawful)
      ∙ mod-eq_of_lt below.1

  matte_held : held_from z planes planes_each ≡ had_by z grid matte_of
  matte_held =
      held_wrapped z planes grid kept.lawful kept.each_cell kept.grid_fits planes_each (omega arith) matte_of
      (in_matte z kept.lawful)
      ∙ mod-eq_of_lt below.0

  -- it is refused for its scratch alone
  accepts : (scratch : List ℕ) → length scratch ≡ scratch_planes * padded z
      → total_check z (length planes) (length scratch) ≡ Ok tt
  unfolding total_check
  accepts scratch e =
      sizes_pass z _ kept.lawful
      ∙ check_passes (total_checks z (length planes) (length scratch)) (Ok tt) (kept.cells_count, e)

  mirrored_total : (scratch : List ℕ) → length scratch ≡ scratch_planes * padded z
      → total_call (state_of z (length pile)) planes scratch
      ≡ totalled (totals_of (answer_of (Ok tt) 0 (state_of z (length pile))) (had_by z grid matte_of) (had_by z grid light_of))
      (zeros (length scratch))
  unfolding total_call total_by
  mirrored_total scratch e = rw (accepts scratch e, matte_held, light_held)

pub balances : Balances
balances z l calls scratch accepted right =
    let room = length l.log in
    let f = opened z l calls accepted in
    let small = below z room f.planes f.grid f.pile f.kept in
    rw (f.same_plate, f.same_book)
    (mirrored_total z room f.planes f.grid f.pile f.kept scratch right, small.0, small.1)
