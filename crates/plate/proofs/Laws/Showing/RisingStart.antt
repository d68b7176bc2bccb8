-- The rising lines take their marks, row by row from the bottom; then the channel's sums are ready for the first row.
use Rattle.std.proofs.Common.{◌≡◌, ℕ, ◌+◌, ◌-◌, ◌<◌, ◌≤◌, List, length, get_or, refl, ◌∙◌, arith, below_none, below_more}
use Rattle.kernels_model.specs.Sum.{sum}
use Rattle.plate.specs.Passes.{Channel, rise_two, rise_one, fall_one, fall_two, planes_in, falling_one_at, falling_two_at}
use Rattle.plate.specs.Passes.{rising_one_from, rising_two_from, rising_one_at, rising_two_at, down_from, starts_at, RowLaid, row_with}
use Rattle.plate.specs.Passes.{row_start, rising_cell, RisingLines, ChannelIn, OnlySums, Summed, sums_end, Written}
use Rattle.plate.proofs.Laws.Showing.Starts.{Out, in_place, InPlace, rising_one_step, rising_two_step, rising_one_later}
use Rattle.plate.proofs.Laws.Showing.Starts.{rising_two_later, rising_two_earlier, rising_two_other}
use Rattle.plate.proofs.Laws.Showing.SlopeLines.{falling_start, rising_start, rising_laid}
use Rattle.plate.proofs.Laws.Showing.NextRow.{mark-is, plane_below}

-- in a scratch that is as long
pub channel_on : (p : Channel) (s m : List ℕ) → ChannelIn p s m → (s1 : List ℕ) → length s1 ≡ length s → ChannelIn p s1 m
channel_on p s m fits s1 e = omega arith

-- there is room for a channel's sums, and they are 0
pub record LayReady (p : Channel) (s m : List ℕ) : Type 0 where
  pub fits : ChannelIn p s m
  pub clear : (j : ℕ) → p.sums ≤ j → j < sums_end p → get_or s j 0 ≡ 0

-- so they are once they are cleared, and nothing else is changed
module _ (p : Channel) (s s' m : List ℕ) (n : ℕ) (all : n ≡ sums_end p - p.sums) (cleared : Written 1 n (λ c. p.sums) (λ c i. 0) s s') where
  pub cleared_only : OnlySums p s s'
  cleared_only =
      record {
        same = cleared.same;
        before = λ j l. cleared.rest j (λ c i g h e. omega (arith, l, e));
        after = λ j l. cleared.rest j (λ c i g h e. omega (arith, l, e, h));
      }

  pub cleared_ready : ChannelIn p s m → LayReady p s' m
  cleared_ready fits =
      record {
        fits = channel_on p s m fits s' cleared.same;
        clear = λ j f g.
            let at : p.sums + (j - p.sums) ≡ j = omega arith in
            rw at at (cleared.done 0 (j - p.sums) (omega arith) (omega arith));
      }

-- the rows from y on are laid
pub record LaidFrom (p : Channel) (m s₀ s : List ℕ) (y : ℕ) : Type 0 where
  pub same : length s ≡ length s₀
  pub rising_one : RisingLines 1 p.columns p.high (rising_one_at p) (planes_in p m rise_one) s y
  pub rising_two : RisingLines 2 p.columns p.high (rising_two_at p) (planes_in p m rise_two) s y
  pub none_one : (r : ℕ) → r < y → get_or s (rising_one_at p r) 0 ≡ 0
  pub none_two : (r : ℕ) → r < y → get_or s (rising_two_at p r) 0 ≡ 0
  pub before : (j : ℕ) → j < rising_one_from p → get_or s j 0 ≡ get_or s₀ j 0
  pub after : (j : ℕ) → down_from p ≤ j → get_or s j 0 ≡ get_or s₀ j 0

pub laid_start : (p : Channel) (m s : List ℕ) → LayReady p s m → LaidFrom p m s s p.high
unfolding starts_at
laid_start p m s ready =
    record {
      same = refl;
      rising_one = rising_start p.high 1 (planes_in p m rise_one) (plane_below p m rise_one) p.columns (rising_one_at p) s
          (λ r x f g l. let q = in_place p r (omega arith) in ready.clear _ (omega (arith, q.rising_one))
          (omega (arith, q.rising_one_end)));
      rising_two = rising_start p.high 2 (planes_in p m rise_two) (plane_below p m rise_two) p.columns (rising_two_at p) s
          (λ r x f g l. let q = in_place p r (omega arith) in ready.clear _ (omega (arith, q.rising_two))
          (omega (arith, q.rising_two_end)));
      none_one = λ r l. let q =
          in_place p r (omega arith) in ready.clear _ (omega (arith, q.rising_one)) (omega (arith, q.rising_one_end));
      none_two = λ r l. let q =
          in_place p r (omega arith) in ready.clear _ (omega (arith, q.rising_two)) (omega (arith, q.rising_two_end));
      before = λ j l. refl;
      after = λ j l. refl;
    }

module _ (p : Channel) (m s₀ s s' : List ℕ) (y : ℕ) (some : 0 < p.columns) (narrow : p.columns ≤ p.wide) (low : y < p.high)
    (old : LaidFrom p m s₀ s (y + 1)) (new : RowLaid m s s' (starts_at p y) p.columns) where
  kept : (j : ℕ) → Out (rising_one_at p y) p.columns j → Out (rising_two_at p y) p.columns j → get_or s' j 0 ≡ get_or s j 0
  unfolding starts_at
  kept j o q = new.rest j (λ c i l. below_more P 1 (below_more P 0 (below_none P) o) q c l i)
    where
      P : ℕ → Type 0
      P c = Out (row_start (rising_one_at p y) (rising_two_at p y) c) p.columns j

  here : InPlace p (starts_at p y)
  here = in_place p y (omega arith)

  in_one : (j : ℕ) → j < rising_two_from p → Out (rising_one_at p y) p.columns j → get_or s' j 0 ≡ get_or s j 0
  unfolding starts_at
  in_one j g o = kept j o (λ i k e. omega (arith, here.rising_two))

  in_two : (j : ℕ) → rising_two_from p ≤ j → Out (rising_two_at p y) p.columns j → get_or s' j 0 ≡ get_or s j 0
  unfolding starts_at
  in_two j g o = kept j (λ i k e. omega (arith, here.rising_one_end)) o

  pub laid_next : LaidFrom p m s₀ s' y
  unfolding starts_at rising_cell row_with
  laid_next =
      record {
        same = new.same ∙ old.same;
        rising_one =
            rising_laid p.high 1 (planes_in p m rise_one) (plane_below p m rise_one) p.columns (rising_one_at p) s s' y some
            (omega arith) low (rising_one_step p y)
            (λ r x g l e. absurd (omega arith))
            (λ r g l. in_one _ (omega arith) (rising_one_later p y r g))
            (old.none_one y (omega arith))
            (λ i l. new.done 0 i (omega arith) l ∙ rw (mark-is p m rise_one i y (omega arith) low))
            old.rising_one;
        rising_two =
            rising_laid p.high 2 (planes_in p m rise_two) (plane_below p m rise_two) p.columns (rising_two_at p) s s' y some
            (omega arith) low (rising_two_step p y)
            (λ r x g l e.
            let q = in_place p r (omega arith) in
            in_two _ (omega (arith, q.rising_two)) (rising_two_other p y r x (omega arith) (omega arith) e))
            (λ r g l. let q = in_place p r (omega arith) in in_two _ (omega (arith, q.rising_two)) (rising_two_later p y r g l))
            (old.none_two y (omega arith))
            (λ i l. new.done 1 i (omega arith) l ∙ rw (mark-is p m rise_two i y (omega arith) low))
            old.rising_two;
        none_one = λ r l. in_one _ (omega arith) (λ i k e. omega arith) ∙ old.none_one r (omega arith);
        none_two = λ r l.
            let q = in_place p r (omega arith) in
            in_two _ q.rising_two (rising_two_earlier p y r some low l) ∙ old.none_two r (omega arith);
        before = λ j l. kept j (λ i k e. omega arith) (λ i k e. omega (arith, here.rising_two)) ∙ old.before j l;
        after = λ j l. kept j (λ i k e. omega (arith, here.rising_one_end)) (λ i k e. omega (arith, here.rising_two_end))
            ∙ old.after j l;
      }

module _ (p : Channel) (m s₀ s : List ℕ) (ready : LayReady p s₀ m) (all : LaidFrom p m s₀ s 0) where
  none : (j : ℕ) → p.sums ≤ j → j < rising_one_from p → get_or s j 0 ≡ 0
  none j f g = all.before j g ∙ ready.clear j f (omega arith)

  pub laid_all : Summed p m s₀ s 0
  unfolding sum starts_at
  laid_all =
      record {
        only =
            record { same = all.same; before = λ j l. all.before j (omega arith); after = λ j l. all.after j (omega arith) };
        to =
            record {
              third = λ x l. none _ (omega arith) (omega arith);
              second = λ x l. none _ (omega arith) (omega arith);
              falling_one = falling_start 1 p.columns p.high (falling_one_at p) (planes_in p m fall_one) s
                  (λ r x f l. none _ (omega arith) (omega arith))
                  (λ r f g. none _ (omega arith) (omega arith));
              falling_two = falling_start 2 p.columns p.high (falling_two_at p) (planes_in p m fall_two) s
                  (λ r x f l.
                  let q = in_place p r (omega arith) in
                  none _ (omega (arith, q.falling_two)) (omega (arith, q.falling_two_end)))
                  (λ r f g.
                  let q = in_place p r (omega arith) in
                  none _ (omega (arith, q.falling_two)) (omega (arith, q.falling_two_end)));
              rising_one = all.rising_one;
              rising_two = all.rising_two;
              finished = λ x l. all.after _ (omega arith) ∙ ready.clear _ (omega arith) (omega arith);
            };
      }

-- and so from a scratch that the clearing changed nowhere else
pub laid_from : (p : Channel) (m s₀ s₁ s : List ℕ) → OnlySums p s₀ s₁ → Summed p m s₁ s 0 → Summed p m s₀ s 0
laid_from p m s₀ s₁ s cleared all =
    record {
      only =
          record {
            same = all.only.same ∙ cleared.same;
            before = λ j l. all.only.before j l ∙ cleared.before j l;
            after = λ j l. all.only.after j l ∙ cleared.after j l;
          };
      to = all.to;
    }
