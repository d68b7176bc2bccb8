-- A total: all finished cells of a channel, row by row.
use Rattle.std.specs.Prelude.{◌≡◌, ℕ, ◌%◌, ◌^◌, List, length, Ok}
use Rattle.kernels_model.specs.Sum.{sum, finish}
use Rattle.plate_model.specs.declared.state.State.{State}
use Rattle.plate_model.specs.declared.total.Totals.{Totals}
use Rattle.plate_model.specs.Total.{totalled, total_by}
use Rattle.plate.specs.Frame.{Frame}
use Rattle.plate.specs.Passes.{Channel, planes_in}
pub use Rattle.plate.specs.Showing.{TotalReady}

-- a channel of a plate, all columns of it, whose marks start at a place
abbrev pub whole_channel : Frame → ℕ → Channel
whole_channel f marks = record { columns = f.wide; wide = f.wide; high = f.high; sums = 0; marks = marks }

-- the finished cells of a channel's first rows
unfoldable pub finished_to : Channel → List ℕ → ℕ → ℕ
finished_to channel planes rows = sum (λ y. sum (λ x. finish (planes_in channel planes) x y) channel.columns) rows

-- they are added up, wrapped, and the scratch is as long as it was
pub record AddedUp (channel : Channel) (planes old new : List ℕ) (rows result : ℕ) : Type 0 where
  pub same : length new ≡ length old
  pub sum_is : result ≡ finished_to channel planes rows % 2 ^ 64

-- what an accepted total has done
abbrev pub TotalDone : State → List ℕ → List ℕ → List ℕ → Totals → Type 0
TotalDone state planes old new result = totalled result new ≡ total_by (Ok tt) state planes old
