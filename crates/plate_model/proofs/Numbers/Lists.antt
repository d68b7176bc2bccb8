-- Laws of lists: zeros, the values of a function, what a list holds after a set, and the words of a grid.
use mathlib.Core.Path.{◌≡◌, refl, sym, ap, ◌∙◌}
use mathlib.Core.List.{List, [], ◌∷◌, ◌++◌, map}
use Prim.Native.Nat.{ℕ, zero, suc, ◌+◌, ◌*◌, ◌-◌, ◌<◌}
use native.Mathlib.Omega.{arith}
use lib.ListN.{get_or, set, length, replicate, length-replicate, length-append, get_or-replicate, get_or-append}
use lib.ListN.{get_or-eq_default, get_or-map}
use lib.Seq.{ext_get_or, get_or-append-add, get_or-set_same, get_or-set_other, set_out}
use Rattle.kernels_model.proofs.Numbers.Choices.{by_lt, by_eq}
use Rattle.plate_model.specs.Word.{Pixel, empty, word_of}
use Rattle.kernels_model.specs.Listed.{zeros, list_to}
use Rattle.plate_model.specs.Plain.{pixel_at}

-- ONE VALUE, MANY TIMES
-- a list of one value holds it at every place, if that is what it holds past its end too
pub get_or_same : {A : Type 0} (n : ℕ) (a : A) (i : ℕ) → get_or (replicate n a) i a ≡ a
get_or_same n a i =
    by_lt i n
    (λ h. get_or-replicate n i a a h)
    (λ h. get_or-eq_default (replicate n a) a {n = i} (omega (arith, length-replicate n a)))

pub get_or_zeros : (n i : ℕ) → get_or (zeros n) i 0 ≡ 0
get_or_zeros n i = get_or_same n 0 i

-- THE VALUES OF A FUNCTION
pub length-list_to : {A : Type 0} (f : ℕ → A) (n : ℕ) → length (list_to f n) ≡ n
unfolding list_to
length-list_to f zero = refl
length-list_to f (suc n) = ap suc (length-list_to (λ k. f (suc k)) n)

pub get_or_list_to : {A : Type 0} (f : ℕ → A) (n i : ℕ) (d : A) → i < n → get_or (list_to f n) i d ≡ f i
unfolding list_to
get_or_list_to f zero i d h = absurd (omega arith)
get_or_list_to f (suc n) zero d h = refl
get_or_list_to f (suc n) (suc i) d h = get_or_list_to (λ k. f (suc k)) n i d (omega arith)

pub list_to_ext : {A : Type 0} (f g : ℕ → A) (n : ℕ) → ((i : ℕ) → i < n → f i ≡ g i) → list_to f n ≡ list_to g n
unfolding list_to
list_to_ext f g zero h = refl
list_to_ext f g (suc n) h =
    let first : f 0 ≡ g 0 = h 0 (omega arith) in
    let rest = list_to_ext (λ k. f (suc k)) (λ k. g (suc k)) n (λ k p. h (suc k) (omega arith)) in
    λ i. first i ∷ rest i

-- what holds of a function's values and of the default holds of the list at every place
pub list_to_each : {A : Type 0} (P : A → Type 0) (f : ℕ → A) (n : ℕ) (d : A) → P d → ((i : ℕ) → P (f i))
    → (i : ℕ) → P (get_or (list_to f n) i d)
list_to_each P f n d pd h i =
    by_lt i n
    (λ p. rw (get_or_list_to f n i d p) (h i))
    (λ p. rw (get_or-eq_default (list_to f n) d {n = i} (omega (arith, length-list_to f n))) pd)

-- a list whose halves are the values of two functions
pub two_lists : (l : List ℕ) (f g : ℕ → ℕ) (n : ℕ) → length l ≡ 2 * n → ((i : ℕ) → i < n → get_or l i 0 ≡ f i)
    → ((i : ℕ) → i < n → get_or l (n + i) 0 ≡ g i) → l ≡ list_to f n ++ list_to g n
two_lists l f g n e one two =
    ext_get_or 0 l (list_to f n ++ list_to g n)
    (e ∙ sym (length-append (list_to f n) (list_to g n) ∙ omega (arith, length-list_to f n, length-list_to g n)))
    (λ i h. by_lt i n
    (λ a. one i a ∙ sym (get_or-append (list_to f n) (list_to g n) 0 i (omega (arith, length-list_to f n))
    ∙ get_or_list_to f n i 0 a))
    (λ a.
    let b : i - n < n = omega arith in
    let s : i ≡ n + (i - n) = omega arith in
    rw s (two (i - n) b ∙ sym (after (i - n) b))))
  where
    after : (j : ℕ) → j < n → get_or (list_to f n ++ list_to g n) (n + j) 0 ≡ g j
    after j b =
        (rw (length-list_to f n) at (get_or-append-add (list_to f n) (list_to g n) j 0)) ∙ get_or_list_to g n j 0 b

-- AFTER A SET
pub map-set : {A : Type 0} (f : A → ℕ) (l : List A) (i : ℕ) (a : A) → map f (set l i a) ≡ set (map f l) i (f a)
map-set f [] zero a = refl
map-set f [] (suc i) a = refl
map-set f (x ∷ l) zero a = refl
map-set f (x ∷ l) (suc i) a = ap (λ (m : List ℕ). f x ∷ m) (map-set f l i a)

-- what holds of the new thing and of the list at every place holds of the list with the new thing in
pub set_each : {A : Type 0} (P : A → Type 0) (l : List A) (i : ℕ) (a d : A) → P a → ((j : ℕ) → P (get_or l j d))
    → (j : ℕ) → P (get_or (set l i a) j d)
set_each P l i a d pa h j =
    by_eq j i
    (λ e. by_lt i (length l)
    (λ g. rw (e, get_or-set_same l i a d g) pa)
    (λ g. rw (set_out l i a g) (h j)))
    (λ n. rw (get_or-set_other l i j a d n) (h j))

-- THE WORDS OF A GRID
pub word_at : (grid : List Pixel) (i : ℕ) → get_or (map word_of grid) i 0 ≡ word_of (pixel_at grid i)
word_at grid i = get_or-map word_of grid i empty

-- "Word 0 is the empty pixel."
pub empty_words : (n : ℕ) → map word_of (replicate n empty) ≡ zeros n
empty_words zero = refl
empty_words (suc n) = ap (λ (l : List ℕ). 0 ∷ l) (empty_words n)
