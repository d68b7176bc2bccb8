-- Cells that are mended one after the other: what holds of some cells and then of others holds of both, and of all it is the
-- definition.
use Rattle.std.proofs.Common.{◌≡◌, ℕ, ◌+◌, ◌*◌, ◌/◌, ◌%◌, ◌<◌, ◌≤◌, true, ◌⊎◌, List, ◌++◌, length, get_or, set, sym, refl, ap, ◌∙◌, inl, inr, ⊎_elim, mul_assoc, div-add-mod', arith, length-set, get_or-set_other, get_or-set_same, ext_get_or}
use Rattle.kernels_model.specs.Sum.{dist}
use Rattle.kernels_model.specs.Rounding.{shown_value, shown_matte}
use Rattle.kernels_model.proofs.Numbers.Choices.{by_test, by_lt}
use Rattle.plate_model.specs.declared.size.Size.{Size}
use Rattle.plate_model.specs.Layout.{places, sums_in_all, matte_from}
use Rattle.plate_model.specs.Lent.{Canvas, canvas}
use Rattle.plate_model.specs.declared.change.Change.{Change}
use Rattle.kernels_model.specs.Listed.{list_to}
use Rattle.plate_model.specs.Plain.{light_of, matte_of}
use Rattle.plate_model.specs.Kept.{in_reach, in_reach_or, mended_sum, kept_light, kept_matte, mended_light, mended_matte, mended}
use Rattle.plate.specs.Mending.{Given, GivenIn, light_then, matte_then, CellDone, CellMended, CellSame, MendedWhere}
use Rattle.plate_model.proofs.Numbers.Lists.{length-list_to, get_or_list_to, two_lists}
use Rattle.plate_model.proofs.Numbers.Extents.{column_is, row_is}
use Rattle.plate_model.proofs.Checks.Conditions.{true-not}

-- SOME CELLS, AND THEN OTHERS
-- nothing is done yet
pub mended-none : (z : Size) (c : Change) (done : ℕ → Type 0) (k : Canvas) → ((i : ℕ) → ¬ (done i)) → MendedWhere z c done k k
mended-none z c done k none =
    record {
      same_sums = refl;
      same_values = refl;
      same_mattes = refl;
      mends = λ i h d. absurd (none i d);
      keeps = λ i h n. record { light_is = refl; matte_is = refl; value_is = refl; shown_is = refl };
    }

-- a cell that is as it was is mended as it would have been before
mended_late : (z : Size) (c : Change) (k k₁ k₂ : Canvas) (i : ℕ) → CellSame z k k₁ i → CellMended z c k₁ k₂ i
    → CellMended z c k k₂ i
mended_late z c k k₁ k₂ i same then =
    let light : mended_light z c k₁ i ≡ mended_light z c k i = ap (λ (n : ℕ). mended_sum z c light_of n i) same.light_is in
    let matte : mended_matte z c k₁ i ≡ mended_matte z c k i = ap (λ (n : ℕ). mended_sum z c matte_of n i) same.matte_is in
    record {
      light_is = then.light_is ∙ light;
      matte_is = then.matte_is ∙ matte;
      value_is = then.value_is ∙ rw (light, matte);
      shown_is = then.shown_is ∙ rw matte;
    }

-- and one that is mended stays so while others are
mended_early : (z : Size) (c : Change) (k k₁ k₂ : Canvas) (i : ℕ) → CellMended z c k k₁ i → CellSame z k₁ k₂ i
    → CellMended z c k k₂ i
mended_early z c k k₁ k₂ i first same =
    record {
      light_is = same.light_is ∙ first.light_is;
      matte_is = same.matte_is ∙ first.matte_is;
      value_is = same.value_is ∙ first.value_is;
      shown_is = same.shown_is ∙ first.shown_is;
    }

same_then : (z : Size) (k k₁ k₂ : Canvas) (i : ℕ) → CellSame z k k₁ i → CellSame z k₁ k₂ i → CellSame z k k₂ i
same_then z k k₁ k₂ i first then =
    record {
      light_is = then.light_is ∙ first.light_is;
      matte_is = then.matte_is ∙ first.matte_is;
      value_is = then.value_is ∙ first.value_is;
      shown_is = then.shown_is ∙ first.shown_is;
    }

pub mended_then : (z : Size) (c : Change) (done more : ℕ → Type 0) (k k₁ k₂ : Canvas) → ((i : ℕ) → done i → ¬ (more i))
    → MendedWhere z c done k k₁ → MendedWhere z c more k₁ k₂ → MendedWhere z c (λ i. done i ⊎ more i) k k₂
mended_then z c done more k k₁ k₂ apart first then =
    record {
      same_sums = then.same_sums ∙ first.same_sums;
      same_values = then.same_values ∙ first.same_values;
      same_mattes = then.same_mattes ∙ first.same_mattes;
      mends = λ i h. ⊎_elim
          (λ d. mended_early z c k k₁ k₂ i (first.mends i h d) (then.keeps i h (apart i d)))
          (λ m. mended_late z c k k₁ k₂ i (first.keeps i h (λ d. apart i d m)) (then.mends i h m));
      keeps = λ i h n. same_then z k k₁ k₂ i (first.keeps i h (λ d. n (inl d))) (then.keeps i h (λ m. n (inr m)));
    }

-- the same cells said in another way
pub mended_as : (z : Size) (c : Change) (done also : ℕ → Type 0) (k k' : Canvas)
    → ((i : ℕ) → i < places z → done i → also i) → ((i : ℕ) → i < places z → also i → done i)
    → MendedWhere z c done k k' → MendedWhere z c also k k'
mended_as z c done also k k' to from h =
    record {
      same_sums = h.same_sums;
      same_values = h.same_values;
      same_mattes = h.same_mattes;
      mends = λ i l a. h.mends i l (from i l a);
      keeps = λ i l n. h.keeps i l (λ d. n (to i l d));
    }

-- ROW BY ROW
-- the cells of a row from one column on, up to another
abbrev pub InRange : Size → ℕ → ℕ → ℕ → ℕ → Type 0
InRange z row first past i = (i / z.width ≡ row) × (first ≤ i % z.width) × (i % z.width < past)

-- one more column
pub range_next : (z : Size) (c : Change) (row first column : ℕ) (k k₁ k₂ : Canvas) → column < z.width → first ≤ column
    → MendedWhere z c (InRange z row first column) k k₁ → MendedWhere z c (λ i. i ≡ row * z.width + column) k₁ k₂
    → MendedWhere z c (InRange z row first (column + 1)) k k₂
range_next z c row first column k k₁ k₂ inside low old new =
    mended_as z c _ _ k k₂ to from
    (mended_then z c (InRange z row first column) (λ i. i ≡ row * z.width + column) k k₁ k₂ apart old new)
  where
    at_column : (i : ℕ) → i ≡ row * z.width + column → i % z.width ≡ column
    at_column i e = rw e (column_is column row z.width inside)

    apart : (i : ℕ) → InRange z row first column i → ¬ (i ≡ row * z.width + column)
    apart i s e = omega (arith, s.2, at_column i e)

    to : (i : ℕ) → i < places z → InRange z row first column i ⊎ (i ≡ row * z.width + column)
        → InRange z row first (column + 1) i
    to i h (inl s) = (s.0, s.1, omega (arith, s.2))
    to i h (inr e) =
        (rw e (row_is column row z.width inside), omega (arith, at_column i e), omega (arith, at_column i e))

    from : (i : ℕ) → i < places z → InRange z row first (column + 1) i
        → InRange z row first column i ⊎ (i ≡ row * z.width + column)
    from i h s =
        by_lt (i % z.width) column
        (λ g. inl (s.0, s.1, g))
        (λ g.
        let here : i % z.width ≡ column = omega (arith, s.2) in
        inr (sym (div-add-mod' i z.width) ∙ rw (s.0, here)))

-- ONE CELL
module _ (z : Size) (c : Change) (place : ℕ) (old new : Given) (k : Canvas)
    (old_is : GivenIn c.old (dist (place / z.width) (c.place / z.width)) old)
    (New_is : GivenIn c.new (dist (place / z.width) (c.place / z.width)) new) where
  abbrev across : ℕ
  across = dist (place % z.width) (c.place % z.width)

  pub light_then_lem : light_then place across old new k ≡ mended_light z c k place
  unfolding mended_sum
  light_then_lem =
      rw (
        old_is.value_is,
        old_is.opacity_is,
        New_is.value_is,
        New_is.opacity_is,
        old_is.band_is.weight_is across,
        New_is.band_is.weight_is across,
        mul_assoc c.old.value c.old.opacity,
        mul_assoc c.new.value c.new.opacity,
      )

  pub matte_then_lem : matte_then (places z) place across old new k ≡ mended_matte z c k place
  unfolding mended_sum
  matte_then_lem =
      rw (old_is.opacity_is, New_is.opacity_is, old_is.band_is.weight_is across, New_is.band_is.weight_is across)

  module _ (k' : Canvas) (inside : place < places z) (sums_are : length k.sums ≡ sums_in_all z)
      (values_are : length k.values ≡ places z) (mattes_are : length k.mattes ≡ places z)
      (done : CellDone (places z) place across old new k k') where
    -- what a cell of each list holds then
    in_sums : (j : ℕ) → get_or k'.sums j 0
        ≡ get_or
        (set (set k.sums place (light_then place across old new k)) (places z + place)
        (matte_then (places z) place across old new k)) j 0
    in_sums j = ap (λ (l : List ℕ). get_or l j 0) done.sums_are

    in_values : (j : ℕ) → get_or k'.values j 0
        ≡ get_or
        (set k.values place (shown_value (light_then place across old new k) (matte_then (places z) place across old new k))) j 0
    in_values j = ap (λ (l : List ℕ). get_or l j 0) done.values_are

    in_mattes : (j : ℕ)
        → get_or k'.mattes j 0 ≡ get_or (set k.mattes place (shown_matte (matte_then (places z) place across old new k))) j 0
    in_mattes j = ap (λ (l : List ℕ). get_or l j 0) done.mattes_are

    -- its own cells hold what was written
    here : CellMended z c k k' place
    here =
        let l = light_then place across old new k in
        let m = matte_then (places z) place across old new k in
        let s = set k.sums place l in
        let more : length s ≡ sums_in_all z = length-set k.sums place l ∙ sums_are in
        record {
          light_is = in_sums place
              ∙ get_or-set_other s (places z + place) place m 0 (λ e. omega (arith, inside))
              ∙ get_or-set_same k.sums place l 0 (omega (arith, inside, sums_are))
              ∙ light_then_lem;
          matte_is = in_sums (matte_from z + place)
              ∙ get_or-set_same s (places z + place) m 0 (omega (arith, inside, more))
              ∙ matte_then_lem;
          value_is = in_values place
              ∙ get_or-set_same k.values place (shown_value l m) 0 (omega (arith, inside, values_are))
              ∙ rw (light_then_lem, matte_then_lem);
          shown_is = in_mattes place
              ∙ get_or-set_same k.mattes place (shown_matte m) 0 (omega (arith, inside, mattes_are))
              ∙ rw matte_then_lem;
        }

    -- and every other cell what it held
    there : (i : ℕ) → i < places z → ¬ (i ≡ place) → CellSame z k k' i
    there i h n =
        let l = light_then place across old new k in
        let m = matte_then (places z) place across old new k in
        let s = set k.sums place l in
        record {
          light_is = in_sums i
              ∙ get_or-set_other s (places z + place) i m 0 (λ e. omega (arith, h))
              ∙ get_or-set_other k.sums place i l 0 n;
          matte_is = in_sums (matte_from z + i)
              ∙ get_or-set_other s (places z + place) (matte_from z + i) m 0 (λ e. n (omega arith))
              ∙ get_or-set_other k.sums place (matte_from z + i) l 0 (λ e. omega (arith, inside));
          value_is = in_values i ∙ get_or-set_other k.values place i (shown_value l m) 0 n;
          shown_is = in_mattes i ∙ get_or-set_other k.mattes place i (shown_matte m) 0 n;
        }

    pub cell-mended : MendedWhere z c (λ i. i ≡ place) k k'
    cell-mended =
        let l = light_then place across old new k in
        let m = matte_then (places z) place across old new k in
        record {
          same_sums = ap length done.sums_are
              ∙ length-set (set k.sums place l) (places z + place) m
              ∙ length-set k.sums place l;
          same_values = ap length done.values_are ∙ length-set k.values place (shown_value l m);
          same_mattes = ap length done.mattes_are ∙ length-set k.mattes place (shown_matte m);
          mends = λ i h e. rw e here;
          keeps = there;
        }

-- ALL CELLS
-- where those in reach are mended and all others as they were, the list is the definition's
reach_or : (z : Size) (c : Change) (new old : ℕ → ℕ) (v i : ℕ) → (in_reach z c i ≡ true → v ≡ new i)
    → (¬ (in_reach z c i ≡ true) → v ≡ old i) → v ≡ in_reach_or z c new old i
unfolding in_reach_or
reach_or z c new old v i near far = by_test (in_reach z c i) (λ e. near e ∙ rw e) (λ e. far (λ t. true-not (sym t ∙ e)) ∙ rw e)

channel_is : (l : List ℕ) (f : ℕ → ℕ) (n : ℕ) → length l ≡ n → ((i : ℕ) → i < n → get_or l i 0 ≡ f i) → l ≡ list_to f n
channel_is l f n e cells =
    ext_get_or 0 l (list_to f n) (e ∙ sym (length-list_to f n))
    (λ i h. let g : i < n = omega arith in cells i g ∙ sym (get_or_list_to f n i 0 g))

pub all_mended : (z : Size) (c : Change) (k k' : Canvas) → length k.sums ≡ sums_in_all z → length k.values ≡ places z
    → length k.mattes ≡ places z → MendedWhere z c (λ i. in_reach z c i ≡ true) k k' → k' ≡ mended z c k
unfolding mended
all_mended z c k k' e f g h =
    let sums : k'.sums
    ≡ list_to (in_reach_or z c (mended_light z c k) (kept_light k)) (places z)
    ++ list_to (in_reach_or z c (mended_matte z c k) (kept_matte z k)) (places z) =
    two_lists k'.sums _ _ (places z) (h.same_sums ∙ e)
    (λ i l. reach_or z c _ _ _ i (λ r. (h.mends i l r).light_is) (λ n. (h.keeps i l n).light_is))
    (λ i l. reach_or z c _ _ _ i (λ r. (h.mends i l r).matte_is) (λ n. (h.keeps i l n).matte_is)) in
    let values = channel_is k'.values _ (places z) (h.same_values ∙ f)
    (λ i l. reach_or z c (λ i. shown_value (mended_light z c k i) (mended_matte z c k i)) (λ i. get_or k.values i 0) _ i
    (λ r. (h.mends i l r).value_is) (λ n. (h.keeps i l n).value_is)) in
    let mattes = channel_is k'.mattes _ (places z) (h.same_mattes ∙ g)
    (λ i l. reach_or z c (λ i. shown_matte (mended_matte z c k i)) (λ i. get_or k.mattes i 0) _ i
    (λ r. (h.mends i l r).shown_is) (λ n. (h.keeps i l n).shown_is)) in
    λ j. canvas (sums j) (values j) (mattes j)
