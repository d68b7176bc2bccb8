-- Sums of the image that are kept, and all of a show that keeps them.
use Rattle.std.specs.Prelude.{Ok}
use Rattle.std.proofs.Common.{◌≡◌, ℕ, ◌+◌, ◌*◌, ◌<◌, ◌≤◌, List, length, get_or, take, drop, sym, refl, ◌∙◌, arith, below_more, length-take-le, get_or-take, get_or-drop}
use Rattle.kernels_model.specs.Fixed.{planes_each}
use Rattle.kernels_model.proofs.Numbers.Choices.{by_eq}
use Rattle.plate_model.specs.Layout.{places}
use Rattle.plate_model.specs.declared.state.State.{State}
use Rattle.plate_model.specs.Lent.{views}
use Rattle.plate_model.specs.Refusal.{show_kept_check}
use Rattle.kernels_model.specs.Listed.{zeros}
use Rattle.plate_model.specs.Calls.{sum_at, answer_of}
use Rattle.plate_model.specs.Kept.{sums_of, sums_by, shows_kept, show_kept_by}
use Rattle.plate.specs.Passes.{Channel, matte_after, row_start, Written}
use Rattle.plate.specs.Showing.{Image, image_of, light_channel, BothTo, BothSummed, RowRounded, sum_in, ShownTo}
use Rattle.plate.specs.Keeping.{KeptTo, ShowKeptReady}
use Rattle.plate_model.proofs.Numbers.Extents.{place_within, row_in}
use Rattle.plate_model.proofs.Numbers.Lists.{two_lists}
use Rattle.plate_model.proofs.Checks.Passed.{sizes_passed, length_passed}
use Rattle.plate.proofs.Laws.Showing.Writes.{out_of_two}
use Rattle.plate.proofs.Laws.Showing.Image.{RowFinished, earlier_row, each_place, light_sum, matte_sum, all_shown}
use Rattle.plate.proofs.Laws.Showing.Image.{show_ready}

-- ONE ROW
-- light's are kept from `first` on and matte's from `second` on, and nothing else is changed
abbrev pub RowKept : List ℕ → ℕ → ℕ → ℕ → ℕ → ℕ → List ℕ → List ℕ → Type 0
RowKept scratch light matte first second width old new =
    Written 2 width (row_start first second) (λ c x. get_or scratch (row_start light matte c + x) 0) old new

-- light's sums are kept, and then matte's
pub row_kept : (q s₀ s s' : List ℕ) (a b u v n : ℕ) → u + n ≤ v → Written 1 n (λ c. u) (λ c i. get_or q (a + i) 0) s₀ s
    → Written 1 n (λ c. v) (λ c i. get_or q (b + i) 0) s s' → RowKept q a b u v n s₀ s'
row_kept q s₀ s s' a b u v n apart first then =
    record {
      same = then.same ∙ first.same;
      done = λ c i l h.
          by_eq c 0
          (λ z. rw z (then.rest (u + i) (λ d j x g e. omega (arith, h, g, e)) ∙ first.done 0 i (omega arith) h))
          (λ z. let o : c ≡ 1 = omega arith in rw o (then.done 0 i (omega arith) h));
      rest = λ j out.
          then.rest j (λ d i x h e. out 1 i (omega arith) h e) ∙ first.rest j (λ d i x h e. out 0 i (omega arith) h e);
    }

-- THE ROWS
module _ (light : Channel) (image : Image) (m s k k' : List ℕ) (i l d : ℕ) (low : i < image.height)
    (sums : RowFinished light image m s i l d) (old : KeptTo light image m k i)
    (new : RowKept s l d (i * image.width) (image.width * image.height + i * image.width) image.width k k') where
  -- an earlier row's light sum is not written over
  light_out : (x y : ℕ) → x < image.width → y < i → (c j : ℕ) → c < 2 → j < image.width
      → y * image.width + x ≡ row_start (i * image.width) (image.width * image.height + i * image.width) c + j → ⊥
  light_out x y f g =
      out_of_two _ _ _ _ (λ j q. earlier_row _ i x y j f g)
      (λ j q e. omega (arith, place_within x y image.width image.height f (omega arith)))

  -- nor its matte sum
  matte_out : (x y : ℕ) → x < image.width → y < i → (c j : ℕ) → c < 2 → j < image.width
      → image.width * image.height + (y * image.width + x)
      ≡ row_start (i * image.width) (image.width * image.height + i * image.width) c + j → ⊥
  matte_out x y f g =
      out_of_two _ _ _ _
      (λ j q e. omega (arith, row_in i image.width image.height low))
      (λ j q e. earlier_row image.width i x y j f g (omega arith))

  -- one more row is kept
  pub kept_next : KeptTo light image m k' (i + 1)
  kept_next =
      record {
        in_light = λ x y f. below_more (λ y. get_or k' (y * image.width + x) 0 ≡ sum_in light image m x y) i
            (λ y g. new.rest _ (light_out x y f g) ∙ old.in_light x y f g)
            (new.done 0 x (omega arith) f ∙ sums.light_is x f) y;
        in_matte = λ x y f. below_more (λ y. get_or k' (image.width * image.height + (y * image.width + x)) 0
            ≡ sum_in (matte_after light) image m x y) i
            (λ y g. new.rest _ (matte_out x y f g) ∙ old.in_matte x y f g)
            (let e : image.width * image.height + (i * image.width + x)
            ≡ image.width * image.height + i * image.width + x = omega arith in
            rw e (new.done 1 x (omega arith) f ∙ sums.matte_is x f)) y;
      }

-- rows of the image are kept, and the sums are ready for the next
pub record KeepingAt (light : Channel) (image : Image) (m s₀ s k₀ k : List ℕ) (row : ℕ) : Type 0 where
  pub same : length k ≡ length k₀
  pub both : BothSummed light m s₀ s (image.first + row)
  pub done : KeptTo light image m k row

-- before the first row none is
pub keeping_start : (light : Channel) (image : Image) (m s k : List ℕ) → BothTo light m s image.first
    → KeepingAt light image m s s k k 0
keeping_start light image m s k to =
    let e : image.first + 0 ≡ image.first = omega arith in
    record {
      same = refl;
      both = record { same = refl; to = rw e to };
      done = record { in_light = λ x y f g. absurd (omega arith); in_matte = λ x y f g. absurd (omega arith) };
    }

-- THE WHOLE
module _ (state : State) (light : Channel) (m s₀ s s' v₀ v o₀ o k₀ k : List ℕ) (light_is : light ≡ light_channel state.size)
    (r : ShowKeptReady state.size m s₀ v₀ o₀ k₀) (same_s : length s ≡ length s₀) (same_k : length k ≡ length k₀)
    (done : KeptTo light (image_of state.size) m k state.size.height)
    (seen : RowRounded (take (places state.size) k) (drop (places state.size) k) v o) (clear : s' ≡ zeros (length s)) where
  -- all rows are kept
  all : KeptTo (light_channel state.size) (image_of state.size) m k state.size.height
  all = rw light_is at done

  -- light's are so many
  many : length (take (places state.size) k) ≡ places state.size
  many = length-take-le (places state.size) k (omega (arith, same_k, r.sums_are))

  -- what is rounded from the kept sums is what the first form shows
  rounded : ShownTo (light_channel state.size) (image_of state.size) m v o state.size.height
  rounded =
      record {
        in_values = λ x y f g.
            seen.values_are (place x y) (omega (arith, many, inside x y f g))
            ∙ rw (get_or-take (places state.size) k (place x y) 0 (inside x y f g), get_or-drop (places state.size) k (place x y) 0)
            (rw (all.in_light x y f g, all.in_matte x y f g));
        in_mattes = λ x y f g.
            seen.mattes_are (place x y) (omega (arith, many, inside x y f g))
            ∙ rw (get_or-drop (places state.size) k (place x y) 0) (rw (all.in_matte x y f g));
      }
    where
      place : ℕ → ℕ → ℕ
      place x y = y * state.size.width + x

      inside : (x y : ℕ) → x < state.size.width → y < state.size.height → place x y < places state.size
      inside x y = place_within x y state.size.width state.size.height

  -- the kept sums, place by place
  sums_are : k ≡ sums_of state.size m
  unfolding sums_of
  sums_are =
      two_lists k (sum_at state.size m 0) (sum_at state.size m planes_each) (places state.size) (same_k ∙ r.sums_are)
      (each_place state.size.width state.size.height (λ j. get_or k j 0) _ _ all.in_light (light_sum state.size m))
      (each_place state.size.width state.size.height (λ j. get_or k (places state.size + j) 0) _ _ all.in_matte
      (matte_sum state.size m))

  -- and so the show has done what it should
  pub all_kept : shows_kept (answer_of (Ok tt) 0 state) (views s' v o) k ≡ show_kept_by (Ok tt) state m (views s₀ v₀ o₀) k₀
  unfolding show_kept_by sums_by
  all_kept =
      rw (
        all_shown state m s₀ s s' v₀ v o₀ o r.show same_s (seen.values_long ∙ many ∙ sym r.show.values_are)
            (seen.mattes_long ∙ many ∙ sym r.show.mattes_are) rounded clear,
        sums_are,
      )

-- what an accepted check tells
pub show_kept_ready : (state : State) (m s v o k : List ℕ)
    → show_kept_check state (length m) (length s) (length v) (length o) (length k) ≡ Ok tt
    → ShowKeptReady state.size m s v o k
unfolding show_kept_check
show_kept_ready state m s v o k e =
    let sizes = sizes_passed state.size _ e in
    let sums = length_passed (length k) _ _ sizes.1 in
    record { show = show_ready state m s v o sums.1; sums_are = sums.0 }
