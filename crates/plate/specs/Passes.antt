-- Show's sums, row by row: what they keep in the scratch, and what a row does to it.
use Rattle.std.specs.Prelude.{◌≡◌, ℕ, zero, suc, ◌+◌, ◌-◌, ◌*◌, ◌/◌, ◌%◌, ◌^◌, ◌<◌, ◌≤◌, List, [], ◌∷◌, length, ◌≢◌, slice_index, slice_index_or, slice_set}
use Rattle.kernels_model.specs.Fixed.{planes_each, level, second_box, third_box}
use Rattle.kernels_model.specs.Choice.{within}
use Rattle.kernels_model.specs.Sum.{sum, Row, Plane, Planes, across, down, add, slope, chain}
pub use Rattle.plate.specs.declared.pass.Channel.{Channel}
pub use Rattle.plate.specs.declared.pass.Starts.{Starts}
pub use Rattle.plate.specs.declared.pass.Across.{Across}

-- THE PLANES
-- those of the slopes −2, −1, 1 and 2; a line of a slope below 0 rises to the right
abbrev pub rise_two : ℕ
rise_two = level - 2

abbrev pub rise_one : ℕ
rise_one = level - 1

abbrev pub fall_one : ℕ
fall_one = level + 1

abbrev pub fall_two : ℕ
fall_two = level + 2

-- where the marks of a channel end
abbrev pub marks_end : Channel → ℕ
marks_end channel = channel.marks + planes_each * (channel.wide * channel.high)

-- the planes of a channel, 0 outside
unfoldable pub planes_in : Channel → List ℕ → Planes
planes_in channel planes plane x y =
    within (suc x) channel.wide
    (within (suc y) channel.high
    (slice_index planes (channel.marks + plane * (channel.wide * channel.high) + (y * channel.wide + x))))

-- the five slope sums added: finish is these, summed downwards
unfoldable pub slope_sums : Planes → Plane
slope_sums planes =
    add (slope 0 2 (planes rise_two))
    (add (slope 0 1 (planes rise_one))
    (add (slope 0 0 (chain planes)) (add (slope 1 0 (planes fall_one)) (slope 2 0 (planes fall_two)))))

-- WHERE THE SUMS LIE
-- The box sums of a channel come first, then the lines of its slopes, then the sums down. A line has one cell for all rows that
-- it meets, so that a row's falling lines start a cell further left than those of the row before it, and its rising lines a
-- cell further right. Where a line goes 2 rows a column, the even rows and the odd rows have lines of their own.

-- the cells of the lines that go 1 row a column, and of those that go 2, of even rows or of odd
abbrev pub one_lines : Channel → ℕ
one_lines channel = channel.columns + channel.high + 1

abbrev pub two_lines : Channel → ℕ
two_lines channel = channel.columns + (channel.high + 1) / 2

-- where each kind starts
abbrev pub falling_one_from : Channel → ℕ
falling_one_from channel = channel.sums + 2 * channel.columns

abbrev pub falling_two_from : Channel → ℕ
falling_two_from channel = falling_one_from channel + one_lines channel

abbrev pub rising_one_from : Channel → ℕ
rising_one_from channel = falling_two_from channel + 2 * two_lines channel

abbrev pub rising_two_from : Channel → ℕ
rising_two_from channel = rising_one_from channel + one_lines channel

abbrev pub down_from : Channel → ℕ
down_from channel = rising_two_from channel + 2 * two_lines channel

abbrev pub sums_end : Channel → ℕ
sums_end channel = down_from channel + channel.columns

-- where the lines that meet a row start
abbrev pub falling_one_at : Channel → ℕ → ℕ
falling_one_at channel row = falling_one_from channel + (channel.high - row)

abbrev pub falling_two_at : Channel → ℕ → ℕ
falling_two_at channel row = falling_two_from channel + (row % 2) * two_lines channel + ((channel.high + 1) / 2 - row / 2)

abbrev pub rising_one_at : Channel → ℕ → ℕ
rising_one_at channel row = rising_one_from channel + row

abbrev pub rising_two_at : Channel → ℕ → ℕ
rising_two_at channel row = rising_two_from channel + (row % 2) * two_lines channel + row / 2

-- where all of a row starts
unfoldable pub starts_at : Channel → ℕ → Starts
starts_at channel row =
    record {
      third = channel.sums;
      second = channel.sums + channel.columns;
      falling_one = falling_one_at channel row;
      falling_two = falling_two_at channel row;
      rising_one = rising_one_at channel row;
      rising_two = rising_two_at channel row;
      down = down_from channel;
      marks = channel.marks + row * channel.wide;
      apart = channel.wide * channel.high;
    }

-- matte, when light's sums and planes come right before its own
abbrev pub matte_after : Channel → Channel
matte_after light =
    record { columns = light.columns; wide = light.wide; high = light.high; sums = sums_end light; marks = marks_end light }

-- ONE ROW
-- of a list, `rows` rows of `columns` cells that start at `start` 0, 1, .. are given their values, and nothing else is changed
pub record Written (rows columns : ℕ) (start : ℕ → ℕ) (value : ℕ → ℕ → ℕ) (old new : List ℕ) : Type 0 where
  pub same : length new ≡ length old
  pub done : (c i : ℕ) → c < rows → i < columns → slice_index new (start c + i) ≡ value c i
  pub rest : (j : ℕ) → ((c i : ℕ) → c < rows → i < columns → j ≢ start c + i) → slice_index new j ≡ slice_index old j

-- a row's sums lie one after the other in the scratch, and its marks in the planes, with room for the columns
pub record InOrder (starts : Starts) (columns scratch planes : ℕ) : Type 0 where
  pub third : starts.third + columns ≤ starts.second
  pub second : starts.second + columns ≤ starts.falling_one
  pub falling_one : starts.falling_one + columns ≤ starts.falling_two
  pub falling_two : starts.falling_two + columns ≤ starts.rising_one
  pub rising_one : starts.rising_one + columns ≤ starts.rising_two
  pub rising_two : starts.rising_two + columns ≤ starts.down
  pub down : starts.down + columns ≤ scratch
  pub marks : starts.marks + third_box * starts.apart + columns ≤ planes

-- a row's mark in a plane, and all of them
abbrev pub mark_at : List ℕ → ℕ → ℕ → ℕ → ℕ
mark_at planes mark apart plane = slice_index planes (mark + plane * apart)

abbrev pub marks_in : List ℕ → Starts → ℕ → Row
marks_in planes starts plane = λ x. mark_at planes (starts.marks + x) starts.apart plane

-- the sums across go on, and two sums down with them
pub record BoxesMet (planes old new : List ℕ) (starts : Starts) (x : ℕ) (sums next : Across) : Type 0 where
  pub third_is : next.third ≡ (sums.third + marks_in planes starts third_box x) % 2 ^ 64
  pub second_is : next.second
      ≡ (sums.second + ((slice_index old (starts.third + x) + next.third) % 2 ^ 64 + marks_in planes starts second_box x)) % 2 ^ 64
  pub level_is : next.level
      ≡ (sums.level + ((slice_index old (starts.second + x) + next.second) % 2 ^ 64 + marks_in planes starts level x)) % 2 ^ 64
  pub cells : new
      ≡ slice_set (slice_set old (starts.third + x) ((slice_index old (starts.third + x) + next.third) % 2 ^ 64)) (starts.second + x)
      ((slice_index old (starts.second + x) + next.second) % 2 ^ 64)

-- a row summed across, on what is kept of the rows above it
unfoldable pub onto : List ℕ → ℕ → Row → Row
onto scratch start row x = slice_index scratch (start + x) + sum row (suc x)

unfoldable pub plus : Row → Row → Row
plus one two x = one x + two x

-- third box across and down
unfoldable pub third_row : List ℕ → List ℕ → Starts → Row
third_row planes scratch starts = onto scratch starts.third (marks_in planes starts third_box)

-- that onto second box, across and down
unfoldable pub second_row : List ℕ → List ℕ → Starts → Row
second_row planes scratch starts =
    onto scratch starts.second (plus (third_row planes scratch starts) (marks_in planes starts second_box))

-- that onto the level plane
unfoldable pub level_row : List ℕ → List ℕ → Starts → Row
level_row planes scratch starts = plus (second_row planes scratch starts) (marks_in planes starts level)

-- lines that take marks on, and lines that have marks taken off
unfoldable pub row_with : List ℕ → ℕ → Row → Row
row_with scratch start row x = slice_index scratch (start + x) + row x

unfoldable pub row_without : List ℕ → ℕ → Row → Row
row_without scratch start row x = slice_index scratch (start + x) + (2 ^ 64 - 1) * row x

-- the five slope sums of a cell
unfoldable pub slopes_row : List ℕ → List ℕ → Starts → Row
slopes_row planes scratch starts x =
    sum (level_row planes scratch starts) (suc x)
    + row_with scratch starts.falling_one (marks_in planes starts fall_one) x
    + row_with scratch starts.falling_two (marks_in planes starts fall_two) x
    + slice_index scratch (starts.rising_one + x)
    + slice_index scratch (starts.rising_two + x)

-- a row's seven sums: where they start, and their cells
abbrev pub sum_start : Starts → ℕ → ℕ
sum_start starts c =
    slice_index_or
    (starts.third
    ∷ starts.second
    ∷ starts.falling_one
    ∷ starts.falling_two
    ∷ starts.rising_one
    ∷ starts.rising_two
    ∷ starts.down
    ∷ [])
    c 0

unfoldable pub sum_cell : List ℕ → List ℕ → Starts → ℕ → Row
sum_cell planes scratch starts c x =
    slice_index_or
    (third_row planes scratch starts x
    ∷ second_row planes scratch starts x
    ∷ row_with scratch starts.falling_one (marks_in planes starts fall_one) x
    ∷ row_with scratch starts.falling_two (marks_in planes starts fall_two) x
    ∷ row_without scratch starts.rising_one (marks_in planes starts rise_one) x
    ∷ row_without scratch starts.rising_two (marks_in planes starts rise_two) x
    ∷ (slice_index scratch (starts.down + x) + slopes_row planes scratch starts x)
    ∷ [])
    c 0
    % 2 ^ 64

-- a row is summed
abbrev pub RowSummed : List ℕ → List ℕ → List ℕ → Starts → ℕ → Type 0
RowSummed planes old new starts columns = Written 7 columns (sum_start starts) (sum_cell planes old starts) old new

-- where each of two rows starts
abbrev pub row_start : ℕ → ℕ → ℕ → ℕ
row_start one two c = slice_index (one ∷ two ∷ []) c

-- a row is laid on the rising lines: their cells
unfoldable pub rising_cell : List ℕ → List ℕ → ℕ → ℕ → ℕ → ℕ → ℕ → Row
rising_cell planes scratch one two marks apart c x =
    slice_index_or
    (row_with scratch one (λ x. mark_at planes (marks + x) apart rise_one) x
    ∷ row_with scratch two (λ x. mark_at planes (marks + x) apart rise_two) x
    ∷ [])
    c 0
    % 2 ^ 64

abbrev pub RowLaid : List ℕ → List ℕ → List ℕ → Starts → ℕ → Type 0
RowLaid planes old new starts columns =
    Written 2 columns (row_start starts.rising_one starts.rising_two)
    (rising_cell planes old starts.rising_one starts.rising_two starts.marks starts.apart) old new

-- ALL ROWS ABOVE A ROW
-- what a line that goes k rows down a column brings to a cell
unfoldable pub from_above : ℕ → Plane → Plane
from_above k plane zero y = 0
from_above k plane (suc x) y = within k (y + 0) (slope k 0 plane x (y + 0 - k))

-- falling lines, of which those that meet a row start at `start`
pub record FallingLines (k columns high : ℕ) (start : ℕ → ℕ) (plane : Plane) (scratch : List ℕ) (row : ℕ) : Type 0 where
  pub brings : (y x : ℕ) → row ≤ y → y < row + k → x < columns → slice_index scratch (start y + x) ≡ from_above k plane x y % 2 ^ 64
  -- those that start later, k rows past the last too
  pub fresh : (y : ℕ) → row + k ≤ y → y < high + k → slice_index scratch (start y) ≡ 0

-- the sum of a line that goes k rows up a column, 0 below the plane
unfoldable pub from_below : ℕ → ℕ → Plane → Plane
from_below high k plane x y = within (suc y) high (slope 0 k plane x y)

-- rising lines
pub record RisingLines (k columns high : ℕ) (start : ℕ → ℕ) (plane : Plane) (scratch : List ℕ) (row : ℕ) : Type 0 where
  pub brings : (y x : ℕ) → row ≤ y → y < row + k → x < columns
      → slice_index scratch (start y + x) ≡ from_below high k plane x y % 2 ^ 64
  -- those that end later, at their last column, k rows past the last too
  pub later : (y : ℕ) → row + k ≤ y → y < high + k
      → slice_index scratch (start y + (columns - 1)) ≡ from_below high k plane (columns - 1) y % 2 ^ 64

-- the rows of a channel above a row are summed
pub record SummedTo (channel : Channel) (planes scratch : List ℕ) (row : ℕ) : Type 0 where
  pub third : (x : ℕ) → x < channel.columns
      → slice_index scratch (channel.sums + x) ≡ sum (across (planes_in channel planes third_box) x) row % 2 ^ 64
  pub second : (x : ℕ) → x < channel.columns
      → slice_index scratch (channel.sums + channel.columns + x)
      ≡ sum (across (add (planes_in channel planes second_box) (down (across (planes_in channel planes third_box)))) x) row % 2 ^ 64
  pub falling_one : FallingLines 1 channel.columns channel.high (falling_one_at channel)
      (planes_in channel planes fall_one) scratch row
  pub falling_two : FallingLines 2 channel.columns channel.high (falling_two_at channel)
      (planes_in channel planes fall_two) scratch row
  pub rising_one : RisingLines 1 channel.columns channel.high (rising_one_at channel)
      (planes_in channel planes rise_one) scratch row
  pub rising_two : RisingLines 2 channel.columns channel.high (rising_two_at channel)
      (planes_in channel planes rise_two) scratch row
  pub finished : (x : ℕ) → x < channel.columns
      → slice_index scratch (down_from channel + x) ≡ sum (slope_sums (planes_in channel planes) x) row % 2 ^ 64

-- the scratch has room for a channel's sums, and its planes are there
pub record ChannelIn (channel : Channel) (scratch planes : List ℕ) : Type 0 where
  pub some : 1 ≤ channel.columns
  pub narrow : channel.columns ≤ channel.wide
  pub tall : 2 ≤ channel.high
  pub sums_in : sums_end channel ≤ length scratch
  pub marks_in_fact : marks_end channel ≤ length planes

-- and the row comes next
pub record RowReady (channel : Channel) (scratch planes : List ℕ) (row : ℕ) : Type 0 where
  pub fits : ChannelIn channel scratch planes
  pub low : row < channel.high
  pub to : SummedTo channel planes scratch row

-- nothing but its sums is changed
pub record OnlySums (channel : Channel) (old new : List ℕ) : Type 0 where
  pub same : length new ≡ length old
  pub before : (j : ℕ) → j < channel.sums → slice_index new j ≡ slice_index old j
  pub after : (j : ℕ) → sums_end channel ≤ j → slice_index new j ≡ slice_index old j

pub record Summed (channel : Channel) (planes old new : List ℕ) (row : ℕ) : Type 0 where
  pub only : OnlySums channel old new
  pub to : SummedTo channel planes new row
