-- What calls are given and lent.
use Rattle.std.specs.Prelude.{◌≡◌, List, ℕ, length}
use Rattle.std.specs.Borrow.{MutBor}
use denote.Triple.Both.{Both}
use Rattle.kernels_model.specs.Shape.{shape_of}
use Rattle.plate_model.specs.Layout.{Size}
pub use Rattle.plate_model.specs.declared.state.State.{State}
pub use Rattle.plate_model.specs.declared.lent.Ask.{Ask}
pub use Rattle.plate_model.specs.declared.lent.LentLengths.{LentLengths}

-- "The state is W, H, R and the log count."
abbrev pub state_of : Size → ℕ → State
state_of z n = record { size = z; count = n }

-- planes, pixels and log
pub record Lent : Type 0 where
  pub planes : List ℕ
  pub pixels : List ℕ
  pub log : List ℕ

abbrev pub lent : List ℕ → List ℕ → List ℕ → Lent
lent planes pixels log = record { planes = planes; pixels = pixels; log = log }

-- the lengths of what is lent
abbrev pub lent_lengths : ℕ → ℕ → ℕ → LentLengths
lent_lengths planes pixels log = record { planes = planes; pixels = pixels; log = log }

abbrev pub lengths_of : Lent → LentLengths
lengths_of l = lent_lengths (length l.planes) (length l.pixels) (length l.log)

-- a put's arguments, with the shape that its number names
abbrev pub ask : ℕ → ℕ → ℕ → ℕ → ℕ → ℕ → Ask
ask x y v a s r = record { x = x; y = y; value = v; opacity = a; shape = shape_of s; radius = r }

-- fill's three inputs
pub record Inputs : Type 0 where
  pub values : List ℕ
  pub opacities : List ℕ
  pub depths : List ℕ

abbrev pub inputs : List ℕ → List ℕ → List ℕ → Inputs
inputs values opacities depths = record { values = values; opacities = opacities; depths = depths }

-- show's scratch and pictures
pub record Views : Type 0 where
  pub scratch : List ℕ
  pub values : List ℕ
  pub mattes : List ℕ

abbrev pub views : List ℕ → List ℕ → List ℕ → Views
views scratch values mattes = record { scratch = scratch; values = values; mattes = mattes }

-- what is kept of a plate between calls: the buffer of sums, and "the two pictures too"
pub record Canvas : Type 0 where
  pub sums : List ℕ
  pub values : List ℕ
  pub mattes : List ℕ

abbrev pub canvas : List ℕ → List ℕ → List ℕ → Canvas
canvas sums values mattes = record { sums = sums; values = values; mattes = mattes }

-- AT A CALL'S START AND END
-- a buffer that a call may write to, as it is when the call starts and when it ends
abbrev pub Borrowed : Type 0
Borrowed = Both (MutBor (List ℕ)) (MutBor (List ℕ))

abbrev pub lent_at_entry : Borrowed → Borrowed → Borrowed → Lent
lent_at_entry planes pixels log = lent planes.entry.now pixels.entry.now log.entry.now

abbrev pub lent_at_exit : Borrowed → Borrowed → Borrowed → Lent
lent_at_exit planes pixels log = lent planes.exit.now pixels.exit.now log.exit.now

abbrev pub views_at_entry : Borrowed → Borrowed → Borrowed → Views
views_at_entry scratch values mattes = views scratch.entry.now values.entry.now mattes.entry.now

abbrev pub views_at_exit : Borrowed → Borrowed → Borrowed → Views
views_at_exit scratch values mattes = views scratch.exit.now values.exit.now mattes.exit.now

abbrev pub canvas_at_entry : Borrowed → Borrowed → Borrowed → Canvas
canvas_at_entry sums values mattes = canvas sums.entry.now values.entry.now mattes.entry.now

abbrev pub canvas_at_exit : Borrowed → Borrowed → Borrowed → Canvas
canvas_at_exit sums values mattes = canvas sums.exit.now values.exit.now mattes.exit.now

-- planes, pixels and log where a struct holds the three slices
abbrev pub lent_now : MutBor (List ℕ) → MutBor (List ℕ) → MutBor (List ℕ) → Lent
lent_now planes pixels log = lent planes.now pixels.now log.now

-- the slices that were lent are lent still, as long as they were, whatever they hold
pub record SameSlices (planes₀ planes pixels₀ pixels log₀ log : MutBor (List ℕ)) : Type 0 where
  pub planes_are : planes.ghost_name ≡ planes₀.ghost_name
  pub pixels_are : pixels.ghost_name ≡ pixels₀.ghost_name
  pub log_is : log.ghost_name ≡ log₀.ghost_name
  pub planes_long : length planes.now ≡ length planes₀.now
  pub pixels_long : length pixels.now ≡ length pixels₀.now
  pub log_long : length log.now ≡ length log₀.now
