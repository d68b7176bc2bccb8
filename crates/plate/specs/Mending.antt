-- What the code of mending counts on, and what it has done after a cell, a row and all rows.
use Rattle.std.specs.Prelude.{◌≡◌, ℕ, ◌+◌, ◌*◌, ◌/◌, ◌%◌, ◌^◌, ◌<◌, ◌≤◌, true, List, length, slice_index, slice_index_or, slice_set}
use Rattle.std.specs.declared.ops.Range.{Range}
use Rattle.kernels_model.specs.Fixed.{value_top, opacity_top}
use Rattle.kernels_model.specs.Sum.{dist}
use Rattle.kernels_model.specs.Mark.{minus}
use Rattle.kernels_model.specs.Rounding.{shown_value, shown_matte}
use Rattle.kernels_model.specs.Band.{band_weight, FewTaps, BandOf}
use Rattle.plate_model.specs.declared.size.Size.{Size}
use Rattle.plate_model.specs.Layout.{places, sums_in_all}
use Rattle.plate_model.specs.Lent.{Canvas}
use Rattle.plate_model.specs.declared.word.Pixel.{Pixel}
use Rattle.plate_model.specs.declared.change.Change.{Change}
use Rattle.plate_model.specs.Kept.{in_reach, kept_light, kept_matte, mended_light, mended_matte}
use Rattle.plate_model.specs.Ready.{LawfulChange}
use Rattle.plate.specs.Laying.{Amounts}
pub use Rattle.plate.specs.declared.mend.Given.{Given}

-- ONE CELL
-- what a pixel gives the row at abs (dy) from it
pub record GivenIn (p : Pixel) (dy : ℕ) (g : Given) : Type 0 where
  pub value_is : g.value ≡ p.value
  pub opacity_is : g.opacity ≡ p.opacity
  pub band_is : BandOf p.shape p.radius dy g.band

-- what of it is small enough to be worked out
pub record GivesFew (g : Given) : Type 0 where
  pub value_fits : g.value ≤ value_top
  pub opacity_fits : g.opacity ≤ opacity_top
  pub few : FewTaps g.band

-- a cell has its two sums and its picture cells
pub record CellIn (n place : ℕ) (old new : Given) (k : Canvas) : Type 0 where
  pub old_few : GivesFew old
  pub new_few : GivesFew new
  pub place_in : place < n
  pub sums_are : length k.sums ≡ 2 * n
  pub values_are : length k.values ≡ n
  pub mattes_are : length k.mattes ≡ n

-- what a pixel gives the matte sum of the cell at abs (dx), and both its sums
abbrev pub given_at : Given → ℕ → ℕ
given_at g dx = g.opacity * band_weight g.band dx

abbrev pub amounts_at : Given → ℕ → Amounts
amounts_at g dx = record { light = g.value * given_at g dx; matte = given_at g dx }

-- the sums of a cell, mended
abbrev pub light_then : ℕ → ℕ → Given → Given → Canvas → ℕ
light_then place dx old new k =
    (slice_index k.sums place + minus (old.value * given_at old dx) + new.value * given_at new dx) % 2 ^ 64

abbrev pub matte_then : ℕ → ℕ → ℕ → Given → Given → Canvas → ℕ
matte_then n place dx old new k = (slice_index k.sums (n + place) + minus (given_at old dx) + given_at new dx) % 2 ^ 64

-- they are stored, and the pictures are rounded from them
pub record CellDone (n place dx : ℕ) (old new : Given) (k k' : Canvas) : Type 0 where
  pub sums_are : k'.sums
      ≡ slice_set (slice_set k.sums place (light_then place dx old new k)) (n + place) (matte_then n place dx old new k)
  pub values_are : k'.values
      ≡ slice_set k.values place (shown_value (light_then place dx old new k) (matte_then n place dx old new k))
  pub mattes_are : k'.mattes ≡ slice_set k.mattes place (shown_matte (matte_then n place dx old new k))

-- RUNS
-- a range of the row that starts at a place has its sums of light, and as many on those of matte
pub record RunIn (n start : ℕ) (s : Range ℕ) (sums : List ℕ) : Type 0 where
  pub from_in : start + s.start ≤ n
  pub past_in : start + s.end ≤ n
  pub sums_are : length sums ≡ 2 * n

-- what a pixel gives is added to both, and nothing else is changed
pub record RunGiven (n start : ℕ) (s : Range ℕ) (by : Amounts) (old new : List ℕ) : Type 0 where
  pub same : length new ≡ length old
  pub light_in : (x : ℕ) → s.start ≤ x → x < s.end → slice_index new (start + x) ≡ (slice_index old (start + x) + by.light) % 2 ^ 64
  pub matte_in : (x : ℕ) → s.start ≤ x → x < s.end
      → slice_index new (n + (start + x)) ≡ (slice_index old (n + (start + x)) + by.matte) % 2 ^ 64
  pub rest : (j : ℕ) → ((x : ℕ) → s.start ≤ x → x < s.end → ¬ (j ≡ start + x))
      → ((x : ℕ) → s.start ≤ x → x < s.end → ¬ (j ≡ n + (start + x))) → slice_index new j ≡ slice_index old j

-- CELLS OF THE IMAGE
-- a change of a lawful plate, and sums and pictures of its lengths
pub record MendReady (z : Size) (c : Change) (k : Canvas) : Type 0 where
  pub change : LawfulChange z c
  pub sums_are : length k.sums ≡ sums_in_all z
  pub values_are : length k.values ≡ places z
  pub mattes_are : length k.mattes ≡ places z

-- a row of the plate, and what both pixels give it
pub record RowToMend (z : Size) (c : Change) (row : ℕ) (old new : Given) (k : Canvas) : Type 0 where
  pub ready : MendReady z c k
  pub row_in : row < z.height
  pub old_is : GivenIn c.old (dist row c.y) old
  pub new_is : GivenIn c.new (dist row c.y) new

-- a cell is mended
pub record CellMended (z : Size) (c : Change) (k k' : Canvas) (i : ℕ) : Type 0 where
  pub light_is : kept_light k' i ≡ mended_light z c k i
  pub matte_is : kept_matte z k' i ≡ mended_matte z c k i
  pub value_is : slice_index_or k'.values i 0 ≡ shown_value (mended_light z c k i) (mended_matte z c k i)
  pub shown_is : slice_index_or k'.mattes i 0 ≡ shown_matte (mended_matte z c k i)

-- or as it was
pub record CellSame (z : Size) (k k' : Canvas) (i : ℕ) : Type 0 where
  pub light_is : kept_light k' i ≡ kept_light k i
  pub matte_is : kept_matte z k' i ≡ kept_matte z k i
  pub value_is : slice_index_or k'.values i 0 ≡ slice_index k.values i
  pub shown_is : slice_index_or k'.mattes i 0 ≡ slice_index k.mattes i

-- the cells of some places are mended, and all others are as they were
pub record MendedWhere (z : Size) (c : Change) (done : ℕ → Type 0) (k k' : Canvas) : Type 0 where
  pub same_sums : length k'.sums ≡ length k.sums
  pub same_values : length k'.values ≡ length k.values
  pub same_mattes : length k'.mattes ≡ length k.mattes
  pub mends : (i : ℕ) → i < places z → done i → CellMended z c k k' i
  pub keeps : (i : ℕ) → i < places z → ¬ (done i) → CellSame z k k' i

-- the cells of a row that are in reach
abbrev pub InRow : Size → Change → ℕ → ℕ → Type 0
InRow z c row i = (i / z.width ≡ row) × (in_reach z c i ≡ true)
