-- One pixel for another: the finished sums are linear in the planes, and a cell out of reach gets nothing of either pixel, so
-- that
-- sums and pictures of the plate before, mended, are those of the plate after.
use mathlib.Core.Path.{◌≡◌, refl, ap, sym, ◌∙◌}
use mathlib.Core.Bool.{false}
use mathlib.Core.List.{List, ◌++◌}
use Prim.Native.Nat.{ℕ, ◌+◌, ◌*◌, ◌-◌, ◌%◌, ◌^◌, ◌≤◌, ◌<◌}
use native.Mathlib.Omega.{arith}
use native.Mathlib.Nat.{mod-eq_of_lt, mod-add-mod}
use lib.ListN.{get_or, length, get_or-append}
use lib.Seq.{get_or-append-add}
use Rattle.kernels_model.specs.Fixed.{planes_each}
use Rattle.kernels_model.specs.Sum.{Planes, add, finish}
use Rattle.kernels_model.specs.Mark.{Mark, minus, scaled, planes_of}
use Rattle.kernels_model.specs.Rounding.{shown_value, shown_matte}
use Rattle.kernels_model.proofs.Numbers.Choices.{pick_if}
use Rattle.kernels_model.proofs.Sums.FiniteSums.{cong_add, cong_mul}
use Rattle.kernels_model.proofs.Sums.PlaneSums.{adds, finish-add, finish_cong_planes}
use Rattle.kernels_model.proofs.Marking.MarkLists.{scaled_at, finish-scaled}
use Rattle.kernels_model.proofs.Taps.Bands.{no_tap_no_weight}
use Rattle.plate_model.specs.Fixed.{planes_in_all}
use Rattle.plate_model.specs.Layout.{Size, wide, high, padded, cell, places, column_of, row_of}
use Rattle.plate_model.specs.Lent.{canvas}
use Rattle.plate_model.specs.Word.{Pixel}
use Rattle.plate_model.specs.Marks.{pixel_marks, lay_all, exchanged}
use Rattle.plate_model.specs.Change.{Change}
use Rattle.kernels_model.specs.Listed.{list_to}
use Rattle.plate_model.specs.Calls.{stored, sum_at}
use Rattle.plate_model.specs.Plain.{light_of, matte_of, weight_at}
use Rattle.plate_model.specs.Kept.{in_reach, in_reach_or, mended_sum, kept_light, kept_matte, mended_light, mended_matte, mended}
use Rattle.plate_model.specs.Kept.{sums_of}
use Rattle.plate_model.specs.Painting.{canvas_of}
use Rattle.plate_model.specs.Table.{LawfulSize}
use Rattle.plate_model.specs.Word.{Fits}
use Rattle.plate_model.specs.Ready.{Changeable}
use Rattle.plate_model.proofs.Numbers.Extents.{place_within}
use Rattle.plate_model.proofs.Numbers.Lists.{length-list_to, get_or_list_to, list_to_ext}
use Rattle.plate_model.proofs.Laying.Cells.{cell_lt, laid, laid_outside}
use Rattle.plate_model.proofs.Laying.LaidCells.{wrapped_low, length_lay, lay_wrapped, on_cell-scaled}
use Rattle.plate_model.proofs.Mending.Reached.{not_reached}
use Rattle.plate_model.proofs.Demands.PlainSums.{LaidAs, InPicture, in_light, in_matte, stored_in, stored_out, stored_as}
use Rattle.plate_model.proofs.Demands.PlainSums.{finish_laid}

-- SUMS ARE LINEAR
-- marks laid on planes: the sums are those of the planes, and beside them those of the marks
laid_sum : (z : Size) (planes : List ℕ) → length planes ≡ planes_in_all * padded z → (p : ℕ) → p ≤ planes_each
    → (all own : List Mark)
    → LaidAs z p all own → ((d x y : ℕ) → (x < wide z → y < high z → ⊥) → planes_of own d x y ≡ 0)
    → (j : ℕ) → sum_at z (lay_all z planes all) p j
    ≡ (sum_at z planes p j + finish (planes_of own) (column_of z j) (row_of z j)) % 2 ^ 64
unfolding sum_at adds add
laid_sum z planes size p low all own inside outside j =
    finish_cong_planes (stored z (lay_all z planes all) p) both (stored_as z (lay_all z planes all) p both held none)
    (column_of z j) (row_of z j)
    ∙ rw (finish-add (stored z planes p) (planes_of own)) (omega arith)
  where
    both : Planes
    both = adds (stored z planes p) (planes_of own)

    held : (d x y : ℕ) → d < planes_each → x < wide z → y < high z
        → get_or (lay_all z planes all) (cell z (p + d) x y) 0 % 2 ^ 64 ≡ both d x y % 2 ^ 64
    held d x y h px py =
        let k = cell_lt z planes_in_all (p + d) x y (omega arith) px py in
        lay_wrapped z planes all (cell z (p + d) x y) (rw size k)
        ∙ rw (stored_in z planes p d x y px py, inside d x y h px py)

    none : (d x y : ℕ) → (x < wide z → y < high z → ⊥) → both d x y ≡ 0
    none d x y n = omega (arith, stored_out z planes p d x y n, outside d x y n)

-- at 2^64, -1 times a number is minus that number
minus_cong : (a b : ℕ) → a % 2 ^ 64 ≡ b % 2 ^ 64 → minus 1 * a % 2 ^ 64 ≡ minus b % 2 ^ 64
unfolding minus
minus_cong a b e = cong_mul (2 ^ 64) ((2 ^ 64 - 1) * 1) (2 ^ 64 - 1) a b refl e

-- a pixel for another at a place: each sum loses what the old one gave and gains what the new one gives
pub exchanged-sum : (z : Size) (planes : List ℕ) (i : ℕ) (old new : Pixel) → LawfulSize z → length planes ≡ planes_in_all * padded z
    → i < places z → Fits z.reach old → Fits z.reach new
    → (p : ℕ) → p ≤ planes_each → (worth : Pixel → ℕ) → InPicture z p worth → (j : ℕ)
    → sum_at z (exchanged z i old new planes) p j
    ≡ (sum_at z planes p j + minus (worth old * weight_at z old i j) + worth new * weight_at z new i j) % 2 ^ 64
unfolding exchanged
exchanged-sum z planes i old new law size h fits fits' p low worth from j =
    laid_sum z taken (length_lay z planes off ∙ size) p low (pixel_marks z i new) come (from i h new fits')
    (λ d x y. laid_outside z law i h new fits' d x y (worth new)) j
    ∙ rw (laid_sum z planes size p low off gone gone_is gone_outside j)
    (both_cong (sum_at z planes p j) _ _ _ _ gone_cong (finish_laid z new (worth new) i j fits'))
  where
    off : List Mark
    off = scaled (minus 1) (pixel_marks z i old)

    taken : List ℕ
    taken = lay_all z planes off

    gone : List Mark
    gone = scaled (minus 1) (laid z (worth old) i old)

    come : List Mark
    come = laid z (worth new) i new

    gone_is : LaidAs z p off gone
    gone_is d x y g px py =
        rw (
          on_cell-scaled z (cell z (p + d) x y) (minus 1) (pixel_marks z i old),
          scaled_at (minus 1) (laid z (worth old) i old) d x y,
          from i h old fits d x y g px py,
        )

    gone_outside : (d x y : ℕ) → (x < wide z → y < high z → ⊥) → planes_of gone d x y ≡ 0
    gone_outside d x y n =
        scaled_at (minus 1) (laid z (worth old) i old) d x y
        ∙ rw (laid_outside z law i h old fits d x y (worth old) n) (omega arith)

    gone_cong : finish (planes_of gone) (column_of z j) (row_of z j) % 2 ^ 64 ≡ minus (worth old * weight_at z old i j) % 2 ^ 64
    gone_cong =
        rw (finish-scaled (minus 1) (laid z (worth old) i old) (column_of z j) (row_of z j))
        (minus_cong _ _ (finish_laid z old (worth old) i j fits))

    both_cong : (s a u b v : ℕ) → a % 2 ^ 64 ≡ u % 2 ^ 64 → b % 2 ^ 64 ≡ v % 2 ^ 64
        → ((s + a) % 2 ^ 64 + b) % 2 ^ 64 ≡ (s + u + v) % 2 ^ 64
    both_cong s a u b v e f = mod-add-mod _ _ _ ∙ cong_add _ _ _ _ (cong_add s s a u refl e) f

-- CELLS OUT OF REACH
-- both taps are 0 there, so both pixels give it nothing
out_of_reach : (z : Size) (c : Change) (i : ℕ) → in_reach z c i ≡ false
    → (weight_at z c.old c.place i ≡ 0) × (weight_at z c.new c.place i ≡ 0)
out_of_reach z c i e =
    let none = not_reached z c i e in
    (no_tap_no_weight _ _ _ _ none.0, no_tap_no_weight _ _ _ _ none.1)

-- and its mended sum is the kept one
mended_out : (z : Size) (c : Change) (worth : Pixel → ℕ) (kept i : ℕ) → kept < 2 ^ 64 → in_reach z c i ≡ false
    → mended_sum z c worth kept i ≡ kept
unfolding mended_sum minus
mended_out z c worth kept i low e =
    let none = out_of_reach z c i e in
    rw (none.0, none.1) (ap (λ (n : ℕ). n % 2 ^ 64) (omega arith) ∙ mod-eq_of_lt low)

-- ONE CHANGE
-- the kept sums of a canvas that is the plate's
kept_light_lem : (z : Size) (planes : List ℕ) (i : ℕ) → i < places z → kept_light (canvas_of z planes) i ≡ sum_at z planes 0 i
unfolding sums_of
kept_light_lem z planes i h =
    get_or-append (list_to (sum_at z planes 0) (places z)) _ 0 i (omega (arith, length-list_to (sum_at z planes 0) (places z)))
    ∙ get_or_list_to (sum_at z planes 0) (places z) i 0 h

kept_matte_lem : (z : Size) (planes : List ℕ) (i : ℕ) → i < places z → kept_matte z (canvas_of z planes) i ≡ sum_at z planes planes_each i
unfolding sums_of
kept_matte_lem z planes i h =
    let first = list_to (sum_at z planes 0) (places z) in
    let rest = list_to (sum_at z planes planes_each) (places z) in
    ap (λ (n : ℕ). get_or (first ++ rest) (n + i) 0) (sym (length-list_to (sum_at z planes 0) (places z)))
    ∙ get_or-append-add first rest i 0
    ∙ get_or_list_to (sum_at z planes planes_each) (places z) i 0 h

module _ (z : Size) (c : Change) (planes : List ℕ) (ok : Changeable z c (length planes)) where
  -- the planes after it
  abbrev after : List ℕ
  after = exchanged z c.place c.old c.new planes

  -- a mended sum is that of the plate after the change
  sum-mended : (p : ℕ) → p ≤ planes_each → (worth : Pixel → ℕ) → InPicture z p worth → (i : ℕ)
      → mended_sum z c worth (sum_at z planes p i) i ≡ sum_at z after p i
  unfolding mended_sum
  sum-mended p low worth from i =
      let inside : c.place < places z =
      rw ok.change.place_is
      (place_within c.x c.y z.width z.height ok.change.column_in ok.change.row_in) in
      sym
      (exchanged-sum z planes c.place c.old c.new ok.change.lawful ok.planes_are inside ok.change.old_fits
      ok.change.new_fits
      p low worth from i)

  -- and where a cell is out of reach the sums of both plates are the same
  sum_still : (p : ℕ) → p ≤ planes_each → (worth : Pixel → ℕ) → InPicture z p worth → (i : ℕ) → in_reach z c i ≡ false
      → sum_at z planes p i ≡ sum_at z after p i
  unfolding sum_at
  sum_still p low worth from i e =
      sym (mended_out z c worth (sum_at z planes p i) i (wrapped_low _) e) ∙ sum-mended p low worth from i

  -- both for light and for matte
  light_mended : (i : ℕ) → i < places z → mended_light z c (canvas_of z planes) i ≡ sum_at z after 0 i
  light_mended i h = rw (kept_light_lem z planes i h) (sum-mended 0 (omega arith) light_of (in_light z ok.change.lawful) i)

  matte_mended : (i : ℕ) → i < places z → mended_matte z c (canvas_of z planes) i ≡ sum_at z after planes_each i
  matte_mended i h =
      rw (kept_matte_lem z planes i h) (sum-mended planes_each (omega arith) matte_of (in_matte z ok.change.lawful) i)

  light_still : (i : ℕ) → in_reach z c i ≡ false → sum_at z planes 0 i ≡ sum_at z after 0 i
  light_still = sum_still 0 (omega arith) light_of (in_light z ok.change.lawful)

  matte_still : (i : ℕ) → in_reach z c i ≡ false → sum_at z planes planes_each i ≡ sum_at z after planes_each i
  matte_still = sum_still planes_each (omega arith) matte_of (in_matte z ok.change.lawful)

  -- a list of cells mended in reach is that of the plate after the change, if each cell is
  cells_mended : (new kept then : ℕ → ℕ) → ((i : ℕ) → i < places z → new i ≡ then i)
      → ((i : ℕ) → i < places z → in_reach z c i ≡ false → kept i ≡ then i)
      → list_to (in_reach_or z c new kept) (places z) ≡ list_to then (places z)
  unfolding in_reach_or
  cells_mended new kept then within_it out =
      list_to_ext _ _ (places z) (λ i h. pick_if (in_reach z c i) (new i) (kept i) (then i) (λ _. within_it i h) (out i h))

  -- and for the value that is rounded from both
  shown-mended : (i : ℕ) → i < places z
      → shown_value (mended_light z c (canvas_of z planes) i) (mended_matte z c (canvas_of z planes) i)
      ≡ shown_value (sum_at z after 0 i) (sum_at z after planes_each i)
  shown-mended i h = λ k. shown_value (light_mended i h k) (matte_mended i h k)

  shown_still : (i : ℕ) → in_reach z c i ≡ false
      → shown_value (sum_at z planes 0 i) (sum_at z planes planes_each i)
      ≡ shown_value (sum_at z after 0 i) (sum_at z after planes_each i)
  shown_still i e = λ k. shown_value (light_still i e k) (matte_still i e k)

  -- sums and pictures of the plate, mended, are those of the plate after the change
  pub mended-fresh : mended z c (canvas_of z planes) ≡ canvas_of z after
  unfolding mended sums_of
  mended-fresh =
      let light = cells_mended _ _ (sum_at z after 0) light_mended (λ i h e. kept_light_lem z planes i h ∙ light_still i e) in
      let matte = cells_mended _ _ (sum_at z after planes_each) matte_mended (λ i h e. kept_matte_lem z planes i h ∙ matte_still i e) in
      let values = cells_mended _ _ _ shown-mended (λ i h e. get_or_list_to _ (places z) i 0 h ∙ shown_still i e) in
      let mattes = cells_mended _ _ _ (λ i h. ap shown_matte (matte_mended i h))
      (λ i h e. get_or_list_to _ (places z) i 0 h ∙ ap shown_matte (matte_still i e)) in
      λ k. canvas (light k ++ matte k) (values k) (mattes k)
