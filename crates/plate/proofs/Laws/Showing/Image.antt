-- The rows of the image, and all of a show.
use Rattle.std.specs.Prelude.{Ok}
use Rattle.std.proofs.Common.{◌≡◌, ℕ, zero, suc, ◌+◌, ◌-◌, ◌*◌, ◌/◌, ◌%◌, ◌^◌, ◌<◌, ◌≤◌, List, length, get_or, sym, refl, ap, ◌∙◌, mul-le-mul_right, mod-lt, mul_comm, div-lt_iff_lt-mul, div-add-mod', add-one, arith, ext_get_or, below_more}
use mathlib.Core.Path.{fun_ext}
use borrow.Rule.Slice.PartMut.{put_mid}
use Rattle.std.specs.List.{between}
use Rattle.std.proofs.lemmas.List.Edits.{length-between, get_or-between}
use Rattle.kernels_model.specs.Fixed.{planes_each, margin}
use Rattle.kernels_model.specs.Sum.{sum, Plane, Planes, running, down, finish}
use Rattle.kernels_model.specs.Rounding.{shown_value, shown_matte}
use Rattle.plate_model.specs.declared.size.Size.{Size}
use Rattle.plate_model.specs.Layout.{wide, high, cell, places, column_of, row_of}
use Rattle.plate_model.specs.declared.state.State.{State}
use Rattle.plate_model.specs.Lent.{views}
use Rattle.plate_model.specs.Refusal.{show_check}
use Rattle.kernels_model.specs.Listed.{zeros, list_to}
use Rattle.plate_model.specs.Calls.{stored, sum_at, shown, answer_of, show_by}
use Rattle.plate.specs.Passes.{Written, Channel, planes_in, slope_sums, down_from, sums_end, matte_after, SummedTo}
use Rattle.plate.specs.Showing.{Image, image_of, light_channel, BothTo, BothSummed, RowRounded, sum_in, ShownTo}
use Rattle.plate.specs.Showing.{ShowReady}
use Rattle.plate.proofs.Laws.Numbers.Parts.{part_written}
use Rattle.plate.proofs.Laws.Checks.Lengths.{show_accepted}
use Rattle.plate_model.proofs.Numbers.Lists.{length-list_to, get_or_list_to}

-- ONE ROW
-- the sum down of the slope sums, to row y
finish-is : (m : Planes) (x y : ℕ) → sum (slope_sums m x) (y + 1) ≡ finish m x y
unfolding finish slope_sums down running
finish-is m x y = rw (add-one y)

pub finished_at : (p : Channel) (m s : List ℕ) (y x j : ℕ) → SummedTo p m s (y + 1) → x < p.columns → j ≡ down_from p + x
    → get_or s j 0 ≡ finish (planes_in p m) x y % 2 ^ 64
finished_at p m s y x j to l e =
    rw e (to.finished x l ∙ ap (λ (v : ℕ). v % 2 ^ 64) (finish-is (planes_in p m) x y))

-- the sums of the image's row i lie in the scratch: light's from l on, and matte's from d on
pub record RowFinished (light : Channel) (image : Image) (m s : List ℕ) (i l d : ℕ) : Type 0 where
  pub light_is : (x : ℕ) → x < image.width → get_or s (l + x) 0 ≡ sum_in light image m x i
  pub matte_is : (x : ℕ) → x < image.width → get_or s (d + x) 0 ≡ sum_in (matte_after light) image m x i

-- so they do once it is summed, at the end of each channel's sums
pub row_finished : (light : Channel) (image : Image) (m s : List ℕ) (i l d : ℕ) → image.first + image.width ≡ light.columns
    → BothTo light m s (image.first + i + 1) → l + image.width ≡ sums_end light → d + image.width ≡ sums_end (matte_after light)
    → RowFinished light image m s i l d
row_finished light image m s i l d columns both light-at matte-at =
    record {
      light_is =
          λ x f. finished_at light m s (image.first + i) (image.first + x) (l + x) both.light_to (omega arith) (omega arith);
      matte_is = λ x f.
          finished_at (matte_after light) m s (image.first + i) (image.first + x) (d + x) both.matte_to (omega arith)
          (omega arith);
    }

-- in lists, a row from a place on shows the sums that lie from others on
pub record RowShown (scratch : List ℕ) (light matte first width : ℕ) (values₀ values mattes₀ mattes : List ℕ) : Type 0 where
  pub in_values : Written 1 width (λ c. first)
      (λ c x. shown_value (get_or scratch (light + x) 0) (get_or scratch (matte + x) 0)) values₀ values
  pub in_mattes : Written 1 width (λ c. first) (λ c x. shown_matte (get_or scratch (matte + x) 0)) mattes₀ mattes

-- cells from a on, up to e, that show the sums which lie from l and from d on
pub row_shown : (s light matte v v' o o' : List ℕ) (l l' d d' a e n : ℕ) → n ≡ e - a → a ≤ e → e ≤ length v → e ≤ length o
    → light ≡ between l l' s → l' ≡ l + n → l' ≤ length s → matte ≡ between d d' s → d' ≡ d + n → d' ≤ length s
    → RowRounded light matte v' o'
    → RowShown s l d a n v (put_mid a (e - a) v v') o (put_mid a (e - a) o o')
row_shown s light matte v v' o o' l l' d d' a e n many low v_in o_in light-is l_end l_in matte-is d_end d_in h =
    rw many (record {
      in_values = part_written v v' a e low v_in (omega (arith, h.values_long, long)) (λ c x. shown_value (get_or s (l + x) 0) (get_or s (d + x) 0))
          (λ i g. h.values_are i (omega (arith, long, g)) ∙ rw (light_at i g, matte_at i g));
      in_mattes = part_written o o' a e low o_in (omega (arith, h.mattes_long, long)) (λ c x. shown_matte (get_or s (d + x) 0))
          (λ i g. h.mattes_are i (omega (arith, long, g)) ∙ rw (matte_at i g));
    })
  where
    long : length light ≡ e - a
    long = ap length light-is ∙ length-between s l l' l_in ∙ omega arith

    light_at : (i : ℕ) → i < e - a → get_or light i 0 ≡ get_or s (l + i) 0
    light_at i g = ap (λ (q : List ℕ). get_or q i 0) light-is ∙ get_or-between s l l' i 0 (omega arith)

    matte_at : (i : ℕ) → i < e - a → get_or matte i 0 ≡ get_or s (d + i) 0
    matte_at i g = ap (λ (q : List ℕ). get_or q i 0) matte-is ∙ get_or-between s d d' i 0 (omega arith)

-- a cell of a row before row i is none of row i
pub earlier_row : (w i x y j : ℕ) → x < w → y < i → y * w + x ≡ i * w + j → ⊥
earlier_row w i x y j f g e = omega (arith, mul-le-mul_right w g)

module _ (light : Channel) (image : Image) (m s v v' o o' : List ℕ) (i l d : ℕ) (sums : RowFinished light image m s i l d)
    (old : ShownTo light image m v o i) (new : RowShown s l d (i * image.width) image.width v v' o o') where
  pub shown-next : ShownTo light image m v' o' (i + 1)
  shown-next =
      record {
        in_values = λ x y f. below_more (λ y. get_or v' (y * image.width + x) 0
            ≡ shown_value (sum_in light image m x y) (sum_in (matte_after light) image m x y)) i
            (λ y g. new.in_values.rest _ (λ c j k q. earlier_row _ i x y j f g) ∙ old.in_values x y f g)
            (new.in_values.done 0 x (omega arith) f ∙ rw (sums.light_is x f, sums.matte_is x f)) y;
        in_mattes =
            λ x y f. below_more (λ y. get_or o' (y * image.width + x) 0 ≡ shown_matte (sum_in (matte_after light) image m x y)) i
            (λ y g. new.in_mattes.rest _ (λ c j k q. earlier_row _ i x y j f g) ∙ old.in_mattes x y f g)
            (new.in_mattes.done 0 x (omega arith) f ∙ rw (sums.matte_is x f)) y;
      }

shown_start : (light : Channel) (image : Image) (m v o : List ℕ) → ShownTo light image m v o 0
shown_start light image m v o =
    record { in_values = λ x y f g. absurd (omega arith); in_mattes = λ x y f g. absurd (omega arith) }

-- rows of the image are shown, and the sums are ready for the next
pub record ShowingAt (light : Channel) (image : Image) (m s₀ s v₀ v o₀ o : List ℕ) (row : ℕ) : Type 0 where
  pub same_values : length v ≡ length v₀
  pub same_mattes : length o ≡ length o₀
  pub both : BothSummed light m s₀ s (image.first + row)
  pub done : ShownTo light image m v o row

pub showing_start : (light : Channel) (image : Image) (m s v o : List ℕ) → BothTo light m s image.first
    → ShowingAt light image m s s v v o o 0
showing_start light image m s v o to =
    let e : image.first + 0 ≡ image.first = omega arith in
    record {
      same_values = refl;
      same_mattes = refl;
      both = record { same = refl; to = rw e to };
      done = shown_start light image m v o;
    }

-- THE WHOLE
-- the planes of a channel, from plane p on
pub stored_is : (z : Size) (channel : Channel) (m : List ℕ) (p : ℕ) → channel.wide ≡ wide z → channel.high ≡ high z
    → channel.marks ≡ p * (wide z * high z) → stored z m p ≡ planes_in channel m
unfolding stored planes_in
stored_is z channel m p e f g =
    fun_ext (λ d. fun_ext (λ x. fun_ext (λ y. rw (e, f, place d x y))))
  where
    place : (d x y : ℕ) → channel.marks + d * (wide z * high z) + (y * wide z + x) ≡ cell z (p + d) x y
    place d x y = rw g (omega arith)

some_width : (W H j : ℕ) → j < W * H → 0 < W
some_width zero H j l = absurd (omega arith)
some_width (suc W) H j l = omega arith

-- what holds at each column of each row holds at each place
pub each_place : (W H : ℕ) (v : ℕ → ℕ) (F : Plane) (f : ℕ → ℕ)
    → ((x y : ℕ) → x < W → y < H → v (y * W + x) ≡ F x y)
    → ((j : ℕ) → F (j % W) (j / W) ≡ f j)
    → (j : ℕ) → j < W * H → v j ≡ f j
each_place W H v F f cells same j g =
    let g' : j < H * W = omega (arith, mul_comm W H) in
    let q = some_width W H j g in
    (rw (div-add-mod' j W) at (cells (j % W) (j / W) (mod-lt j q) ((div-lt_iff_lt-mul q).1 g'))) ∙ same j

-- a list is what is shown at each place
shown_list : (v : List ℕ) (W H : ℕ) (F : Plane) (f : ℕ → ℕ) → length v ≡ W * H
    → ((x y : ℕ) → x < W → y < H → get_or v (y * W + x) 0 ≡ F x y)
    → ((j : ℕ) → F (j % W) (j / W) ≡ f j)
    → v ≡ list_to f (W * H)
shown_list v W H F f e cells same =
    ext_get_or 0 v (list_to f (W * H)) (e ∙ sym (length-list_to f (W * H)))
    (λ j l.
    let g : j < W * H = omega arith in
    each_place W H (λ j. get_or v j 0) F f cells same j g ∙ sym (get_or_list_to f (W * H) j 0 g))

-- the finished sums of the image are those of its places
module _ (z : Size) (m : List ℕ) where
  sum_is : (channel : Channel) (p : ℕ) → channel.wide ≡ wide z → channel.high ≡ high z → channel.marks ≡ p * (wide z * high z)
      → (j : ℕ) → sum_in channel (image_of z) m (j % z.width) (j / z.width) ≡ sum_at z m p j
  unfolding sum_at
  sum_is channel p a b c j =
      let e : z.reach + margin + j % z.width ≡ column_of z j = omega arith in
      let f : z.reach + margin + j / z.width ≡ row_of z j = omega arith in
      rw (e, f, stored_is z channel m p a b c)

  pub light_sum : (j : ℕ) → sum_in (light_channel z) (image_of z) m (j % z.width) (j / z.width) ≡ sum_at z m 0 j
  light_sum = sum_is (light_channel z) 0 refl refl (omega arith)

  pub matte_sum : (j : ℕ)
      → sum_in (matte_after (light_channel z)) (image_of z) m (j % z.width) (j / z.width) ≡ sum_at z m planes_each j
  matte_sum = sum_is (matte_after (light_channel z)) planes_each refl refl (omega arith)

module _ (state : State) (m s₀ s s' v₀ v o₀ o : List ℕ) (r : ShowReady state.size m s₀ v₀ o₀)
    (same_s : length s ≡ length s₀) (same_v : length v ≡ length v₀) (same_o : length o ≡ length o₀)
    (all : ShownTo (light_channel state.size) (image_of state.size) m v o state.size.height)
    (clear : s' ≡ zeros (length s)) where
  values_are : v
      ≡ list_to (λ i. shown_value (sum_at state.size m 0 i) (sum_at state.size m planes_each i)) (places state.size)
  values_are =
      shown_list v state.size.width state.size.height _ _ (same_v ∙ r.values_are) all.in_values
      (λ j. rw (light_sum state.size m j, matte_sum state.size m j))

  mattes_are : o ≡ list_to (λ i. shown_matte (sum_at state.size m planes_each i)) (places state.size)
  mattes_are =
      shown_list o state.size.width state.size.height _ _ (same_o ∙ r.mattes_are) all.in_mattes
      (λ j. rw (matte_sum state.size m j))

  pub all_shown : shown (answer_of (Ok tt) 0 state) s' v o ≡ show_by (Ok tt) state m (views s₀ v₀ o₀)
  unfolding show_by
  all_shown = rw (clear, same_s, values_are, mattes_are)

-- what an accepted check tells
pub show_ready : (state : State) (m s v o : List ℕ) → show_check state (length m) (length s) (length v) (length o) ≡ Ok tt
    → ShowReady state.size m s v o
show_ready state m s v o e =
    let a = show_accepted state (length m) (length s) (length v) (length o) e in
    record {
      sums = record { lawful = a.lawful; planes_are = a.planes_are; scratch_is = a.scratch_are };
      values_are = a.values_are;
      mattes_are = a.mattes_are;
    }
