-- A row that is mended column by column, and the rows one after the other: in the end they are the cells in reach.
use Rattle.std.specs.Prelude.{Ok}
use Rattle.std.proofs.Common.{◌≡◌, ℕ, ◌+◌, ◌-◌, ◌*◌, ◌/◌, ◌%◌, ◌<◌, ◌≤◌, min, true, ◌⊎◌, length, ◌∙◌, inl, inr, mod-lt, arith}
use Rattle.kernels_model.specs.Sum.{dist}
use Rattle.kernels_model.specs.Shape.{reach_of}
use Rattle.kernels_model.proofs.Numbers.Choices.{by_lt}
use Rattle.plate_model.specs.Fixed.{reach_top}
use Rattle.plate_model.specs.declared.size.Size.{Size}
use Rattle.plate_model.specs.Layout.{places}
use Rattle.plate_model.specs.Lent.{Canvas}
use Rattle.plate_model.specs.declared.change.Change.{Change}
use Rattle.plate_model.specs.Kept.{in_reach, canvas_first}
use Rattle.plate_model.specs.Ready.{Changeable}
use Rattle.plate.specs.Mending.{Given, GivenIn, CellIn, CellDone, MendReady, RowToMend, InRow, MendedWhere}
use Rattle.plate_model.proofs.Numbers.Extents.{place_within, row_of_lem, column_is, row_is}
use Rattle.plate.proofs.Laws.Checks.Lengths.{kept_accepted}
use Rattle.kernels_model.proofs.Taps.ShapeNumbers.{reach_under}
use Rattle.plate.proofs.Laws.Mending.Gives.{gives_few}
use Rattle.plate_model.proofs.Mending.Reached.{near_reached, far_not_reached, row-not_reached}
use Rattle.plate.proofs.Laws.Mending.Mended.{InRange, mended_then, mended_as, cell-mended}

-- a change of a plate and accepted sums and pictures can be mended
pub mend_ready : (z : Size) (c : Change) (n : ℕ) (k : Canvas) → Changeable z c n → canvas_first z k ≡ Ok tt → MendReady z c k
mend_ready z c n k h e =
    let q = kept_accepted z (length k.sums) (length k.values) (length k.mattes) e in
    record {
      change = h.change;
      sums_are = q.sums_are;
      values_are = q.values_are;
      mattes_are = q.mattes_are;
    }

module _ (z : Size) (c : Change) (k : Canvas) (ready : MendReady z c k) where
  -- the column and the row of the change
  pub change_column : c.place % z.width ≡ c.x
  change_column = rw ready.change.place_is (column_is c.x c.y z.width ready.change.column_in)

  pub change_row : c.place / z.width ≡ c.y
  change_row = rw ready.change.place_is (row_is c.x c.y z.width ready.change.column_in)

  -- sums and pictures of the same lengths are ready too
  pub still_ready : (done : ℕ → Type 0) (k' : Canvas) → MendedWhere z c done k k' → MendReady z c k'
  still_ready done k' h =
      record {
        change = ready.change;
        sums_are = h.same_sums ∙ ready.sums_are;
        values_are = h.same_values ∙ ready.values_are;
        mattes_are = h.same_mattes ∙ ready.mattes_are;
      }

  -- ONE ROW
  module _ (row : ℕ) (row_in : row < z.height) (old new : Given)
      (old_is : GivenIn c.old (dist row c.y) old) (new_is : GivenIn c.new (dist row c.y) new) where
    -- a cell of it can be mended
    pub cell_ready : (column : ℕ) → column < z.width → CellIn (places z) (row * z.width + column) old new k
    cell_ready column inside =
        record {
          old_few = gives_few z.reach c.old _ old ready.change.old_fits old_is;
          new_few = gives_few z.reach c.new _ new ready.change.new_fits new_is;
          place_in = place_within column row z.width z.height inside row_in;
          sums_are = ready.sums_are;
          values_are = ready.values_are;
          mattes_are = ready.mattes_are;
        }

    -- and then it is the one cell that is
    pub column_mended : (column : ℕ) (k' : Canvas) → column < z.width
        → CellDone (places z) (row * z.width + column) (dist column c.x) old new k k'
        → MendedWhere z c (λ i. i ≡ row * z.width + column) k k'
    column_mended column k' inside done =
        let here = column_is column row z.width inside in
        let down = row_is column row z.width inside in
        cell-mended z c (row * z.width + column) old new k
        (rw (down, change_row) old_is)
        (rw (down, change_row) new_is)
        k'
        (place_within column row z.width z.height inside row_in) ready.sums_are ready.values_are ready.mattes_are
        (rw (here, change_column) done)

    -- the cells of the wider kernel's row are those in reach
    pub row-mended : (first past column span : ℕ) (k' : Canvas) → span ≡ old.band.span + (new.band.span - old.band.span)
        → first ≡ c.x + 1 - span → past ≡ min (c.x + span) z.width → past ≤ column → column ≤ first + (past - first)
        → MendedWhere z c (InRange z row first column) k k' → MendedWhere z c (InRow z c row) k k'
    row-mended first past column span k' wider starts ends low high =
        mended_as z c (InRange z row first column) (InRow z c row) k k' to from
      where
        to : (i : ℕ) → i < places z → InRange z row first column i → InRow z c row i
        to i h s = (
          s.0,
          near_reached z c i old.band new.band span
              (rw (s.0, change_row) old_is.band_is) (rw (s.0, change_row) new_is.band_is) wider
              (rw change_column (omega (arith, s.1, s.2, starts, ends, low, high))),
        )

        from : (i : ℕ) → i < places z → InRow z c row i → InRange z row first column i
        from i h s =
            let inside : i % z.width < z.width = mod-lt i ready.change.lawful.width_some in
            by_lt (dist (i % z.width) c.x) span
            (λ g. (s.0, omega (arith, g, starts), omega (arith, g, ends, low, inside)))
            (λ g. absurd
            (far_not_reached z c i old.band new.band span
            (rw (s.0, change_row) old_is.band_is) (rw (s.0, change_row) new_is.band_is) wider
            (rw change_column g) s.1))

-- neither kernel's row is wider than a plate can reach
pub span_low : (z : Size) (c : Change) (row : ℕ) (old new : Given) (k : Canvas) → RowToMend z c row old new k
    → (old.band.span ≤ reach_top + 1) × (new.band.span ≤ reach_top + 1)
span_low z c row old new k r =
    let R = z.reach in
    let one = reach_under R c.old.shape c.old.radius r.ready.change.old_fits.radius_fits in
    let two = reach_under R c.new.shape c.new.radius r.ready.change.new_fits.radius_fits in (
      omega (arith, r.old_is.band_is.span_in, one, r.ready.change.lawful.reach_top_fact),
      omega (arith, r.new_is.band_is.span_in, two, r.ready.change.lawful.reach_top_fact),
    )

-- ALL ROWS
-- the cells in reach of the rows from one on, up to another
abbrev pub InRows : Size → Change → ℕ → ℕ → ℕ → Type 0
InRows z c first row i = (first ≤ i / z.width) × (i / z.width < row) × (in_reach z c i ≡ true)

-- one more row
pub rows_next : (z : Size) (c : Change) (first row : ℕ) (k k₁ k₂ : Canvas) → first ≤ row
    → MendedWhere z c (InRows z c first row) k k₁ → MendedWhere z c (InRow z c row) k₁ k₂
    → MendedWhere z c (InRows z c first (row + 1)) k k₂
rows_next z c first row k k₁ k₂ low old new =
    mended_as z c _ _ k k₂ to from (mended_then z c (InRows z c first row) (InRow z c row) k k₁ k₂ apart old new)
  where
    apart : (i : ℕ) → InRows z c first row i → ¬ (InRow z c row i)
    apart i s e = omega (arith, s.1, e.0)

    to : (i : ℕ) → i < places z → InRows z c first row i ⊎ InRow z c row i → InRows z c first (row + 1) i
    to i h (inl s) = (s.0, omega (arith, s.1), s.2)
    to i h (inr e) = (omega (arith, e.0), omega (arith, e.0), e.1)

    from : (i : ℕ) → i < places z → InRows z c first (row + 1) i → InRows z c first row i ⊎ InRow z c row i
    from i h s =
        by_lt (i / z.width) row
        (λ g. inl (s.0, g, s.2))
        (λ g. inr (omega (arith, s.1), s.2))

-- the rows of the larger square are all that have cells in reach
pub rows_mended : (z : Size) (c : Change) (k k' : Canvas) (first past row reach : ℕ) → MendReady z c k
    → reach_of c.old.shape c.old.radius ≤ reach → reach_of c.new.shape c.new.radius ≤ reach
    → first ≡ c.y + 1 - (reach + 1) → past ≡ min (c.y + (reach + 1)) z.height → past ≤ row
    → MendedWhere z c (InRows z c first row) k k' → MendedWhere z c (λ i. in_reach z c i ≡ true) k k'
rows_mended z c k k' first past row reach ready old new starts ends low =
    mended_as z c (InRows z c first row) (λ i. in_reach z c i ≡ true) k k' (λ i h s. s.2) from
  where
    from : (i : ℕ) → i < places z → in_reach z c i ≡ true → InRows z c first row i
    from i h s =
        let down : i / z.width < z.height = row_of_lem i z.width z.height ready.change.lawful.width_some h in
        by_lt reach (dist (i / z.width) c.y)
        (λ g. absurd (row-not_reached z c i reach old new (rw (change_row z c k ready) g) s))
        (λ g. (omega (arith, g, starts), omega (arith, g, ends, low, down), s))
