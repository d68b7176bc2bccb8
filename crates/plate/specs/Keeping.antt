-- The second form of show: finished sums that are kept, and the pictures rounded from them.
use Rattle.std.specs.Prelude.{◌≡◌, ℕ, ◌+◌, ◌*◌, ◌<◌, ◌≤◌, List, length, slice_index, Ok}
use Rattle.plate_model.specs.declared.size.Size.{Size}
use Rattle.plate_model.specs.Layout.{sums_in_all}
use Rattle.plate_model.specs.declared.state.State.{State}
use Rattle.plate_model.specs.Lent.{Views}
use Rattle.plate_model.specs.Calls.{answer_of}
use Rattle.plate_model.specs.Kept.{shows_kept, show_kept_by}
use Rattle.plate.specs.Passes.{Channel, matte_after}
use Rattle.plate.specs.Showing.{Image, BothIn, BothTo, sum_in, ShowReady}

-- THE IMAGE
-- the rows of both above the image are summed; it ends at the last column summed, its rows are in the planes, and there is
-- room for its sums
pub record KeepReady (light : Channel) (image : Image) (scratch planes sums : List ℕ) : Type 0 where
  pub fits : BothIn light scratch planes
  pub to : BothTo light planes scratch image.first
  pub columns_are : image.first + image.width ≡ light.columns
  pub rows_in : image.first + image.height ≤ light.high
  pub sums_are : length sums ≡ 2 * (image.width * image.height)

-- the sums of its first rows are kept: light's by place, and matte's after all of light's
pub record KeptTo (light : Channel) (image : Image) (planes sums : List ℕ) (rows : ℕ) : Type 0 where
  pub in_light : (x y : ℕ) → x < image.width → y < rows → slice_index sums (y * image.width + x) ≡ sum_in light image planes x y
  pub in_matte : (x y : ℕ) → x < image.width → y < rows
      → slice_index sums (image.width * image.height + (y * image.width + x)) ≡ sum_in (matte_after light) image planes x y

-- THE CALL
-- what an accepted show may count on
pub record ShowKeptReady (z : Size) (planes scratch values mattes sums : List ℕ) : Type 0 where
  pub show : ShowReady z planes scratch values mattes
  pub sums_are : length sums ≡ sums_in_all z

-- what it has done
abbrev pub ShowKeptDone : State → List ℕ → Views → Views → List ℕ → List ℕ → Type 0
ShowKeptDone state planes old new sums₀ sums =
    shows_kept (answer_of (Ok tt) 0 state) new sums ≡ show_kept_by (Ok tt) state planes old sums₀
