-- Show's two channels side by side, light and matte, and the image that it shows of them.
use Rattle.std.specs.Prelude.{◌≡◌, ℕ, ◌+◌, ◌*◌, ◌%◌, ◌^◌, ◌<◌, ◌≤◌, List, length, slice_index, Ok}
use Rattle.kernels_model.specs.Fixed.{margin}
use Rattle.kernels_model.specs.Sum.{finish}
use Rattle.kernels_model.specs.Rounding.{shown_value, shown_matte}
use Rattle.plate_model.specs.Fixed.{planes_in_all, scratch_planes}
use Rattle.plate_model.specs.Table.{LawfulSize}
use Rattle.plate_model.specs.declared.size.Size.{Size}
use Rattle.plate_model.specs.Layout.{wide, high, padded, places}
use Rattle.plate_model.specs.declared.state.State.{State}
use Rattle.plate_model.specs.Lent.{Views}
use Rattle.plate_model.specs.Calls.{answer_of, shown, show_by}
use Rattle.plate.specs.Passes.{Channel, sums_end, marks_end, matte_after, planes_in, SummedTo}
pub use Rattle.plate.specs.declared.show.Image.{Image}

-- BOTH CHANNELS
-- light of a plate's planes: it is summed up to the image's last column
abbrev pub light_channel : Size → Channel
light_channel z = record { columns = z.reach + margin + z.width; wide = wide z; high = high z; sums = 0; marks = 0 }

-- the scratch has room for the sums of light and then of matte, and the planes of both are there
pub record BothIn (light : Channel) (scratch planes : List ℕ) : Type 0 where
  pub some : 1 ≤ light.columns
  pub narrow : light.columns ≤ light.wide
  pub tall : 2 ≤ light.high
  pub sums_in : sums_end (matte_after light) ≤ length scratch
  pub marks_in_fact : marks_end (matte_after light) ≤ length planes

-- and so many rows
pub record AboveReady (light : Channel) (scratch planes : List ℕ) (rows : ℕ) : Type 0 where
  pub fits : BothIn light scratch planes
  pub low : rows ≤ light.high

-- the rows of both above a row are summed
pub record BothTo (light : Channel) (planes scratch : List ℕ) (row : ℕ) : Type 0 where
  pub light_to : SummedTo light planes scratch row
  pub matte_to : SummedTo (matte_after light) planes scratch row

-- and the row comes next
pub record BothReady (light : Channel) (scratch planes : List ℕ) (row : ℕ) : Type 0 where
  pub fits : BothIn light scratch planes
  pub low : row < light.high
  pub to : BothTo light planes scratch row

pub record BothSummed (light : Channel) (planes old new : List ℕ) (row : ℕ) : Type 0 where
  pub same : length new ≡ length old
  pub to : BothTo light planes new row

-- THE IMAGE
-- that of a plate
abbrev pub image_of : Size → Image
image_of z = record { first = z.reach + margin; width = z.width; height = z.height }

-- it ends at the last column summed, and both channels' sums are in the scratch
pub record SumsOfRow (image : Image) (light : Channel) (scratch : ℕ) : Type 0 where
  pub some : 0 < light.high
  pub columns_are : image.first + image.width ≡ light.columns
  pub sums_in : sums_end (matte_after light) ≤ scratch
  pub scratch_low : scratch < 2 ^ 64
  pub marks_low : marks_end light < 2 ^ 64

-- a run of cells shows its sums
pub record RowRounded (light matte values mattes : List ℕ) : Type 0 where
  pub values_long : length values ≡ length light
  pub mattes_long : length mattes ≡ length light
  pub values_are : (x : ℕ) → x < length light → slice_index values x ≡ shown_value (slice_index light x) (slice_index matte x)
  pub mattes_are : (x : ℕ) → x < length light → slice_index mattes x ≡ shown_matte (slice_index matte x)

-- the rows of both above the image are summed; it ends at the last column summed, and its rows are in the planes
pub record ImageReady (light : Channel) (image : Image) (scratch planes values mattes : List ℕ) : Type 0 where
  pub fits : BothIn light scratch planes
  pub to : BothTo light planes scratch image.first
  pub columns_are : image.first + image.width ≡ light.columns
  pub rows_in : image.first + image.height ≤ light.high
  pub values_are : length values ≡ image.width * image.height
  pub mattes_are : length mattes ≡ image.width * image.height

-- what a finished cell of the image holds
abbrev pub sum_in : Channel → Image → List ℕ → ℕ → ℕ → ℕ
sum_in channel image planes x y = finish (planes_in channel planes) (image.first + x) (image.first + y) % 2 ^ 64

-- its first rows are shown
pub record ShownTo (light : Channel) (image : Image) (planes values mattes : List ℕ) (rows : ℕ) : Type 0 where
  pub in_values : (x y : ℕ) → x < image.width → y < rows
      → slice_index values (y * image.width + x)
      ≡ shown_value (sum_in light image planes x y) (sum_in (matte_after light) image planes x y)
  pub in_mattes : (x y : ℕ) → x < image.width → y < rows
      → slice_index mattes (y * image.width + x) ≡ shown_matte (sum_in (matte_after light) image planes x y)

-- what an accepted total may count on
pub record TotalReady (z : Size) (planes scratch : List ℕ) : Type 0 where
  pub lawful : LawfulSize z
  pub planes_are : length planes ≡ planes_in_all * padded z
  pub scratch_is : length scratch ≡ scratch_planes * padded z

-- and an accepted show
pub record ShowReady (z : Size) (planes scratch values mattes : List ℕ) : Type 0 where
  pub sums : TotalReady z planes scratch
  pub values_are : length values ≡ places z
  pub mattes_are : length mattes ≡ places z

-- what an accepted show has done
abbrev pub ShowDone : State → List ℕ → Views → Views → Type 0
ShowDone state planes old new =
    shown (answer_of (Ok tt) 0 state) new.scratch new.values new.mattes ≡ show_by (Ok tt) state planes old
