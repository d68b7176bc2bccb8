-- Each check of specs/Refusal.antt keeps to its row of the table: it refuses where the row's condition holds, and else says what
-- comes next. The proofs go by what the numbers are, not by the tests that the checks are made of.
use Rattle.std.specs.Prelude.{Option, Some, None}
use mathlib.Core.Path.{◌≡◌, refl, sym, ◌∙◌}
use mathlib.Core.Bool.{Bool, true, false}
use mathlib.Core.Logic.{◌≢◌, ◌⊎◌, inl, inr, ⊎_elim}
use mathlib.Core.List.{List, [], ◌∷◌}
use Prim.Native.Nat.{ℕ, zero, suc, ◌*◌, ◌≤◌, ◌<◌}
use native.Mathlib.Omega.{arith}
use lib.Dec.{ltb}
use lib.ListN.{get_or}
use borrow.Author.Rules.{rules}
use borrow.Author.Tests.{lt-ltb, le-ltb, le-leb, lt-leb, eq-eqb, ne_eqb}
use Rattle.kernels_model.specs.declared.shape.Shape.{Shape}
use Rattle.kernels_model.specs.declared.shape.Shape.TheVariants.{Box, Tent, Triple, Diamond, Hexagon, Octagon}
use Rattle.kernels_model.specs.Shape.{shape_of, top_under}
use Rattle.kernels_model.specs.declared.lens.Lens.{Lens}
use Rattle.kernels_model.specs.Lens.{opening_top, focal_top, focus_top, pitch_top, lawful_lens}
use Rattle.kernels_model.proofs.Numbers.Choices.{by_test, by_lt, by_eq}
use Rattle.kernels_model.proofs.Lenses.ThinLens.{Lawful, lens-true, lawful}
use Rattle.kernels_model.specs.Fixed.{shape_count, value_top}
use Rattle.plate_model.specs.Fixed.{planes_in_all, scratch_planes, side_top, places_top, reach_top, log_top}
use Rattle.plate_model.specs.Layout.{Size, padded, places, sums_in_all}
use Rattle.plate_model.specs.Lent.{LentLengths, Ask}
use Rattle.plate_model.specs.Refusal.{Refusal, Sizes, Lengths, LogCount, Place, Value, UnknownShape, LargeRadius, LogFull}
use Rattle.plate_model.specs.Refusal.{LogEmpty, UnlawfulLens, DepthInside, refuse_if, sizes_check, length_check, lent_check}
use Rattle.plate_model.specs.Refusal.{inputs_check, count_check, place_check, value_check, shape_check, radius_check, full_check}
use Rattle.plate_model.specs.Refusal.{empty_check, any_of, any_above, is_between, lens_check, inside_check}
use Rattle.plate_model.specs.Asked.{known_shape}
use Rattle.plate_model.specs.Table.{SizesOutside, LentWrong, PlaceOutside, SomeOf, ShapeAbove, RadiusAbove, LensOutside}
use Rattle.plate_model.specs.Table.{InsideLens, LawfulSize, LentFor}
use Rattle.plate_model.proofs.Checks.Rows.{Checks, refusing, passing, checks_both}

-- what closes an equation between a chain of tests and its answer
pub ruleset tests = (rules, lt-ltb, le-ltb, le-leb, lt-leb, eq-eqb, ne_eqb)

pub true-not : {P : Type 0} → true ≡ false → P
true-not e = let z : ◌≡◌ {A = ℕ} 0 1 = cc in absurd (omega arith)

-- 1
pub sizes_checks : (z : Size) → Checks Sizes (SizesOutside z) (LawfulSize z) (sizes_check z)
unfolding sizes_check refuse_if
sizes_checks z =
    by_lt z.width 1 (λ h. refusing (λ a b. a b) (λ l. omega arith) (λ next. search tests)) (λ w.
    by_lt side_top z.width (λ h. refusing (λ a b. a b) (λ l. omega arith) (λ next. search tests)) (λ W.
    by_lt z.height 1 (λ h. refusing (λ a b. a b) (λ l. omega arith) (λ next. search tests)) (λ h.
    by_lt side_top z.height (λ g. refusing (λ a b. a b) (λ l. omega arith) (λ next. search tests)) (λ H.
    by_lt places_top (z.width * z.height)
    (λ g. refusing (λ a b. a b) (λ l. omega (arith, l.places_top_fact)) (λ next. search tests)) (λ p.
    by_lt reach_top z.reach (λ g. refusing (λ a b. a b) (λ l. omega arith) (λ next. search tests)) (λ r.
    passing (λ a b. a b)
    (record { width_some = w; width_top = W; height_some = h; height_top = H; places_top_fact = p; reach_top_fact = r })
    (λ next. search tests)))))))

-- 2
pub length_checks : (n want : ℕ) → Checks Lengths (n ≢ want) (n ≡ want) (length_check n want)
unfolding refuse_if
length_checks n want =
    by_eq n want
    (λ e. passing (λ a b. a b) e (λ next. search tests))
    (λ e. refusing (λ a b. a b) e (λ next. search tests))

pub lent_checks : (z : Size) (n : LentLengths) → Checks Lengths (LentWrong z n) (LentFor z n) (lent_check z n)
unfolding lent_check refuse_if
lent_checks z n =
    by_eq n.planes (planes_in_all * padded z)
    (λ p. by_eq n.pixels (places z)
    (λ w. by_lt log_top n.log
    (λ h. refusing (λ a b. a b) (λ l. omega (arith, l.log_top_fact)) (λ next. search tests))
    (λ h. passing (λ a b. a b) (record { planes_are = p; pixels_are = w; log_top_fact = h }) (λ next. search tests)))
    (λ h. refusing (λ a b. a b) (λ l. h l.pixels_are) (λ next. search tests)))
    (λ h. refusing (λ a b. a b) (λ l. h l.planes_are) (λ next. search tests))

-- what fill is lent besides: "W × H each"
pub inputs_checks : (z : Size) (v o d : ℕ)
    → Checks Lengths ((v ≢ places z) ⊎ (o ≢ places z) ⊎ (d ≢ places z)) ((v ≡ places z) × ((o ≡ places z) × (d ≡ places z)))
    (inputs_check z v o d)
unfolding inputs_check
inputs_checks z v o d =
    checks_both (length_checks v (places z)) (checks_both (length_checks o (places z)) (length_checks d (places z)))

-- what a total is lent: planes and scratch
pub total_checks : (z : Size) (p s : ℕ)
    → Checks Lengths
    ((p ≢ planes_in_all * padded z) ⊎ (s ≢ scratch_planes * padded z))
    ((p ≡ planes_in_all * padded z) × (s ≡ scratch_planes * padded z))
    (λ next. length_check p (planes_in_all * padded z) (length_check s (scratch_planes * padded z) next))
total_checks z p s = checks_both (length_checks p (planes_in_all * padded z)) (length_checks s (scratch_planes * padded z))

-- what a show is lent: planes, scratch and the pictures
pub views_checks : (z : Size) (p s v m : ℕ)
    → Checks Lengths
    ((p ≢ planes_in_all * padded z) ⊎ (s ≢ scratch_planes * padded z) ⊎ (v ≢ places z) ⊎ (m ≢ places z))
    ((p ≡ planes_in_all * padded z) × ((s ≡ scratch_planes * padded z) × ((v ≡ places z) × (m ≡ places z))))
    (λ next.
    length_check p (planes_in_all * padded z)
    (length_check s (scratch_planes * padded z) (length_check v (places z) (length_check m (places z) next))))
views_checks z p s v m =
    checks_both (length_checks p (planes_in_all * padded z))
    (checks_both (length_checks s (scratch_planes * padded z))
    (checks_both (length_checks v (places z)) (length_checks m (places z))))

-- what the second forms of put and undo are lent besides: sums and the pictures
pub canvas_checks : (z : Size) (s v m : ℕ)
    → Checks Lengths ((s ≢ sums_in_all z) ⊎ (v ≢ places z) ⊎ (m ≢ places z)) ((s ≡ sums_in_all z) × ((v ≡ places z) × (m ≡ places z)))
    (λ next. length_check s (sums_in_all z) (length_check v (places z) (length_check m (places z) next)))
canvas_checks z s v m =
    checks_both (length_checks s (sums_in_all z)) (checks_both (length_checks v (places z)) (length_checks m (places z)))

-- 3
pub count_checks : (n room : ℕ) → Checks LogCount (room < n) (n ≤ room) (count_check n room)
unfolding refuse_if
count_checks n room =
    by_lt room n
    (λ h. refusing (λ a b. omega arith) h (λ next. search tests))
    (λ h. passing (λ a b. omega arith) h (λ next. search tests))

-- 4
pub place_apart : (z : Size) (x y : ℕ) → PlaceOutside z x y → (x < z.width) × (y < z.height) → ⊥
unfolding PlaceOutside
place_apart z x y (inl h) l = omega (arith, l.0)
place_apart z x y (inr h) l = omega (arith, l.1)

pub place_checks : (z : Size) (a : Ask)
    → Checks Place (PlaceOutside z a.x a.y) ((a.x < z.width) × (a.y < z.height)) (place_check z a)
unfolding PlaceOutside place_check refuse_if
place_checks z a =
    let apart = place_apart z a.x a.y in
    by_lt a.x z.width
    (λ x. by_lt a.y z.height
    (λ y. passing apart (x, y) (λ next. search tests))
    (λ y. refusing apart (inr y) (λ next. search tests)))
    (λ x. refusing apart (inl x) (λ next. search tests))

-- 5
pub value_checks : (v : ℕ) → Checks Value (value_top < v) (v ≤ value_top) (value_check v)
unfolding refuse_if
value_checks v =
    by_lt value_top v
    (λ h. refusing (λ a b. omega arith) h (λ next. search tests))
    (λ h. passing (λ a b. omega arith) h (λ next. search tests))

-- 6
pub unknown_not : {P : Type 0} (s : Shape) → None ≡ Some s → P
unknown_not s e = let z : ◌≡◌ {A = ℕ} 0 1 = cc in absurd (omega arith)

-- a number names a shape, or none where it is above 5
pub shape_named : (n : ℕ)
    → (ShapeAbove n × (shape_of n ≡ None)) ⊎ ((n < shape_count) × ((s : Shape) × (shape_of n ≡ Some s)))
shape_named zero = inr (omega arith, (Box, refl))
shape_named (suc zero) = inr (omega arith, (Tent, refl))
shape_named (suc (suc zero)) = inr (omega arith, (Triple, refl))
shape_named (suc (suc (suc zero))) = inr (omega arith, (Diamond, refl))
shape_named (suc (suc (suc (suc zero)))) = inr (omega arith, (Hexagon, refl))
shape_named (suc (suc (suc (suc (suc zero))))) = inr (omega arith, (Octagon, refl))
shape_named (suc (suc (suc (suc (suc (suc n)))))) = inl (omega arith, refl)

shape_apart : (n : ℕ) → ShapeAbove n → shape_of n ≡ Some (known_shape (shape_of n)) → ⊥
shape_apart n a e =
    ⊎_elim (λ t. unknown_not (known_shape (shape_of n)) (sym t.1 ∙ e)) (λ t. omega (arith, t.0)) (shape_named n)

pub shape_checks : (n : ℕ)
    → Checks UnknownShape (ShapeAbove n) (shape_of n ≡ Some (known_shape (shape_of n))) (shape_check (shape_of n))
unfolding shape_check
shape_checks n =
    ⊎_elim
    (λ t. refusing (shape_apart n) t.0 (λ next. rw t.1))
    (λ t. passing (shape_apart n) (rw t.1.1) (λ next. rw t.1.1))
    (shape_named n)

-- a shape as it was read
pub named_checks : (s : Option Shape) → Checks UnknownShape (s ≡ None) (s ≡ Some (known_shape s)) (shape_check s)
unfolding shape_check
named_checks None = refusing (λ u k. unknown_not (known_shape None) k) refl (λ next. refl)
named_checks (Some s) = passing (λ u k. unknown_not s (sym u)) refl (λ next. refl)

-- 7
pub radius_checks : (R : ℕ) (s : Option Shape) (r : ℕ)
    → Checks LargeRadius (RadiusAbove R s r) (¬ (RadiusAbove R s r)) (radius_check R s r)
unfolding RadiusAbove radius_check refuse_if
radius_checks R None r = passing (λ a b. b a) (λ a. a) (λ next. refl)
radius_checks R (Some s) r =
    by_lt (top_under s R) r
    (λ h. refusing (λ a b. b a) h (λ next. search tests))
    (λ h. passing (λ a b. b a) (λ a. omega arith) (λ next. search tests))

-- the top of a shape that is read is not passed
pub radius_under : (R : ℕ) (s : Option Shape) (r : ℕ) → s ≡ Some (known_shape s) → ¬ (RadiusAbove R s r)
    → r ≤ top_under (known_shape s) R
unfolding RadiusAbove
radius_under R None r e h = unknown_not (known_shape None) e
radius_under R (Some s) r e h = by_lt (top_under s R) r (λ l. absurd (h l)) (λ l. l)

-- 8
pub full_checks : (n room : ℕ) → Checks LogFull (n ≡ room) (n ≢ room) (full_check n room)
unfolding refuse_if
full_checks n room =
    by_eq n room
    (λ e. refusing (λ a b. b a) e (λ next. search tests))
    (λ e. passing (λ a b. b a) e (λ next. search tests))

-- 9
pub empty_checks : (n : ℕ) → Checks LogEmpty (n ≡ 0) (1 ≤ n) (empty_check n)
unfolding refuse_if
empty_checks n =
    by_eq n 0
    (λ e. refusing (λ a b. omega arith) e (λ next. search tests))
    (λ e. passing (λ a b. omega arith) (omega arith) (λ next. search tests))

-- 5, 12 and 17 of a fill: whether one of the numbers of a list is such a one, by a test that tells it of each number. A number
-- that is no such one is clear; 0 has to be, since a list reads as 0 past its end.
record Tells (such clear : ℕ → Type 0) (test : ℕ → Bool) : Type 0 where
  apart : (n : ℕ) → such n → clear n → ⊥
  told : (n : ℕ) → (such n × (test n ≡ true)) ⊎ (clear n × (test n ≡ false))
  past_end : clear 0

module _ {such clear : ℕ → Type 0} {test : ℕ → Bool} (t : Tells such clear test) where
  some_apart : (ns : List ℕ) → SomeOf such ns → ((i : ℕ) → clear (get_or ns i 0)) → ⊥
  unfolding SomeOf
  some_apart [] a b = a
  some_apart (n ∷ ns) (inl h) b = t.apart n h (b 0)
  some_apart (n ∷ ns) (inr h) b = some_apart ns h (λ i. b (suc i))

  -- each number of a list that has one more in front
  each_first : (n : ℕ) (ns : List ℕ) → clear n → ((i : ℕ) → clear (get_or ns i 0)) → (i : ℕ) → clear (get_or (n ∷ ns) i 0)
  each_first n ns h all zero = h
  each_first n ns h all (suc i) = all i

  some_told : (ns : List ℕ)
      → (SomeOf such ns × (any_of test ns ≡ true)) ⊎ (((i : ℕ) → clear (get_or ns i 0)) × (any_of test ns ≡ false))
  unfolding SomeOf any_of
  some_told [] = inr ((λ i. t.past_end), refl)
  some_told (n ∷ ns) =
      ⊎_elim
      (λ h. inl (inl h.0, rw h.1))
      (λ h. ⊎_elim
      (λ s. inl (inr s.0, rw h.1 s.1))
      (λ s. inr (each_first n ns h.0 s.0, rw h.1 s.1))
      (some_told ns))
      (t.told n)

  some_checks : (f : Refusal) (ns : List ℕ)
      → Checks f (SomeOf such ns) ((i : ℕ) → clear (get_or ns i 0)) (refuse_if (any_of test ns) f)
  unfolding refuse_if
  some_checks f ns =
      ⊎_elim
      (λ s. refusing (some_apart ns) s.0 (λ next. rw s.1))
      (λ s. passing (some_apart ns) s.0 (λ next. rw s.1))
      (some_told ns)

above_tells : (top : ℕ) → Tells (λ n. top < n) (λ n. n ≤ top) (ltb top)
above_tells top =
    record {
      apart = λ n a b. omega arith;
      told = λ n. by_lt top n (λ h. inl (h, lt-ltb top n h)) (λ h. inr (h, le-ltb top n h));
      past_end = omega arith;
    }

pub above_checks : (f : Refusal) (top : ℕ) (ns : List ℕ)
    → Checks f (SomeOf (λ n. top < n) ns) ((i : ℕ) → get_or ns i 0 ≤ top) (refuse_if (any_above top ns) f)
above_checks f top = some_checks (above_tells top) f

inside_tells : (l : Lens) → Tells (InsideLens l) (λ d. ¬ (InsideLens l d)) (is_between 0 l.focal)
unfolding is_between
inside_tells l =
    record {
      apart = λ d a b. b a;
      told = λ d.
          by_lt 0 d
          (λ z. by_lt l.focal d
          (λ h. inr ((λ a. omega (arith, a.1)), search tests))
          (λ h. inl (((λ e. omega arith), h), search tests)))
          (λ z. inr ((λ a. a.0 (omega arith)), search tests));
      past_end = λ a. a.0 refl;
    }

pub inside_checks : (l : Lens) (depths : List ℕ)
    → Checks DepthInside (SomeOf (InsideLens l) depths) ((i : ℕ) → ¬ (InsideLens l (get_or depths i 0))) (inside_check l depths)
inside_checks l = some_checks (inside_tells l) DepthInside

-- 11
lens_told : (l : Lens) → LensOutside l ⊎ Lawful l
unfolding LensOutside
lens_told l =
    by_lt l.opening 1 (λ h. inl (inl (inl h))) (λ d.
    by_lt opening_top l.opening (λ h. inl (inl (inr h))) (λ D.
    by_lt l.focal 1 (λ h. inl (inr (inl (inl h)))) (λ f.
    by_lt focal_top l.focal (λ h. inl (inr (inl (inr h)))) (λ F.
    by_lt l.focal l.focus (λ s.
    by_lt focus_top l.focus (λ h. inl (inr (inr (inr (inl h))))) (λ S.
    by_lt l.pitch 1 (λ h. inl (inr (inr (inr (inr (inl h)))))) (λ p.
    by_lt pitch_top l.pitch (λ h. inl (inr (inr (inr (inr (inr h)))))) (λ P.
    inr (record {
      opening_some = d;
      opening_top_fact = D;
      focal_some = f;
      focal_top_fact = F;
      focus_past = s;
      focus_top_fact = S;
      pitch_some = p;
      pitch_top_fact = P;
    }))))) (λ h. inl (inr (inr (inl h))))))))

lens_apart : (l : Lens) → LensOutside l → Lawful l → ⊥
unfolding LensOutside
lens_apart l (inl (inl h)) k = omega arith
lens_apart l (inl (inr h)) k = omega arith
lens_apart l (inr (inl (inl h))) k = omega arith
lens_apart l (inr (inl (inr h))) k = omega arith
lens_apart l (inr (inr (inl h))) k = omega arith
lens_apart l (inr (inr (inr (inl h)))) k = omega arith
lens_apart l (inr (inr (inr (inr (inl h))))) k = omega arith
lens_apart l (inr (inr (inr (inr (inr h))))) k = omega arith

pub lens_checks : (l : Lens) → Checks UnlawfulLens (LensOutside l) (lawful_lens l ≡ true) (lens_check l)
unfolding refuse_if
lens_checks l =
    let apart : LensOutside l → lawful_lens l ≡ true → ⊥ = λ a b. lens_apart l a (lawful l b) in
    by_test (lawful_lens l)
    (λ e. passing apart e (λ next. rw e))
    (λ e. refusing apart (⊎_elim (λ a. a) (λ k. true-not (sym (lens-true l k) ∙ e)) (lens_told l)) (λ next. rw e))
