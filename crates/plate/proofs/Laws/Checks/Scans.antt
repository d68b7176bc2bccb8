-- Lists scanned for a number that passes a test: the library's scan and the refusals', and what bounds say of a scan that found none.
use Rattle.std.proofs.Common.{◌≡◌, ℕ, zero, suc, ◌<◌, ◌≤◌, Bool, true, false, ◌||◌, ◌&&◌, ltb, leb, List, [], ◌∷◌, length, get_or, sym, refl, ◌∙◌, arith, le-ltb, lt-ltb, le-leb}
use Rattle.std.specs.List.{list_any}
use borrow.Author.Tests.{lt-leb}
use Rattle.kernels_model.specs.Choice.{pick}
use Rattle.kernels_model.proofs.Numbers.Choices.{by_lt}
use Rattle.plate_model.specs.Refusal.{any_of, any_above, is_between}
use Rattle.plate.specs.Filling.{number_top}
use Rattle.plate_model.proofs.Checks.Conditions.{true-not}

-- TESTS
neither : (t u : Bool) → pick t true u ≡ false → (t ≡ false) × (u ≡ false)
neither true u e = true-not e
neither false u e = (refl, e)

or_pick : (t u : Bool) → (t || u) ≡ pick t true u
or_pick true u = refl
or_pick false u = refl

either : (t : Bool) → pick t true true ≡ true
either true = refl
either false = refl

-- LISTS
-- none of the first k numbers passes the test
abbrev pub NoneTo : (ℕ → Bool) → List ℕ → ℕ → Type 0
NoneTo t ns k = (i : ℕ) → i < k → t (get_or ns i 0) ≡ false

none_passes : (t : ℕ → Bool) (ns : List ℕ) → NoneTo t ns (length ns) → any_of t ns ≡ false
unfolding any_of
none_passes t [] h = refl
none_passes t (n ∷ ns) h = rw (h 0 (omega arith)) (none_passes t ns (λ i l. h (suc i) (omega arith)))

none_of : (t : ℕ → Bool) (ns : List ℕ) → any_of t ns ≡ false → NoneTo t ns (length ns)
unfolding any_of
none_of t [] e i l = absurd (omega arith)
none_of t (n ∷ ns) e zero l = (neither (t n) (any_of t ns) e).0
none_of t (n ∷ ns) e (suc i) l = none_of t ns (neither (t n) (any_of t ns) e).1 i (omega arith)

-- a test of the library on the list is the refusal's, where both tests answer alike
pub any_is : (t u : ℕ → Bool) → ((n : ℕ) → t n ≡ u n) → (ns : List ℕ) → list_any t ns ≡ any_of u ns
unfolding any_of
any_is t u e [] = refl
any_is t u e (n ∷ ns) = rw (e n, any_is t u e ns) (or_pick (u n) (any_of u ns))

-- between two bounds, by two comparisons
pub between_test : (low top n : ℕ) → (ltb low n && leb n top) ≡ is_between low top n
unfolding is_between
between_test low top n =
    by_lt low n
    (λ l. rw (lt-leb n low l, lt-ltb low n l))
    (λ l. rw (le-leb n low l, le-ltb low n l))

-- DEPTHS
-- numbers of 32 bits: above the one bound and not above the largest is above the bound
above_is : (b n : ℕ) → n ≤ number_top → is_between b number_top n ≡ ltb b n
unfolding is_between
above_is b n h =
    by_lt b n
    (λ l. rw (lt-leb n b l, le-leb n number_top h, lt-ltb b n l))
    (λ l. rw (le-leb n b l, le-ltb b n l))

between_is : (b n : ℕ) → is_between b number_top n ≡ true → ltb b n ≡ true
unfolding is_between
between_is b n e = by_lt b n (λ l. lt-ltb b n l) (λ l. true-not (sym (rw (le-leb n b l) at e)))

-- a test that holds where another does is passed where the other is
passes_too : (t u v w : Bool) → (t ≡ true → v ≡ true) → (u ≡ true → w ≡ true) → pick t true u ≡ true → pick v true w ≡ true
passes_too true u v w f g e = rw (f refl)
passes_too false u v w f g e = rw (g e) (either v)

some_above : (b : ℕ) (ns : List ℕ) → any_of (is_between b number_top) ns ≡ true → any_above b ns ≡ true
unfolding any_of
some_above b [] e = e
some_above b (n ∷ ns) e =
    passes_too (is_between b number_top n) (any_of (is_between b number_top) ns) (ltb b n) (any_above b ns) (between_is b n)
    (some_above b ns) e

pub above_found : (b : ℕ) (ns : List ℕ) (r : Bool) → r ≡ any_of (is_between b number_top) ns
    → (r ≡ false → (i : ℕ) → get_or ns i 0 ≤ number_top) → r ≡ any_above b ns
above_found b ns true e small = sym (some_above b ns (sym e))
above_found b ns false e small =
    sym (none_passes (ltb b) ns
    (λ i l. sym (above_is b (get_or ns i 0) (small refl i)) ∙ none_of (is_between b number_top) ns (sym e) i l))
