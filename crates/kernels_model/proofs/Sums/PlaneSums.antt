-- The sums of planes are linear and go through wrapping; what finishing does to marks in one plane alone.
use mathlib.Core.Path.{◌≡◌, refl, ap, sym, ◌∙◌, fun_ext}
use Prim.Native.Nat.{ℕ, zero, suc, ◌+◌, ◌*◌, ◌-◌, ◌^◌, ◌%◌, ◌<◌}
use native.Mathlib.Omega.{arith}
use Rattle.kernels_model.specs.Fixed.{planes_each, level, second_box, third_box}
use Rattle.kernels_model.specs.Choice.{within, same}
use Rattle.kernels_model.specs.Sum.{sum, Row, Plane, Planes, running, across, down, add, slope, summed, chain, finish}
use Rattle.kernels_model.proofs.Numbers.Choices.{by_lt, within_yes, within_no}
use Rattle.kernels_model.proofs.Sums.FiniteSums.{sum_ext, sum-add, sum_mul, ◌≈◌, cong_add, cong_mul, sum_cong}
use Rattle.kernels_model.proofs.Sums.SlopeSums.{slope-add, slope_mul}
use Rattle.kernels_model.proofs.Sums.BoxSums.{runnings}

-- two planes whose cells are the same at 2^64
infix 4 ◌≈²◌
abbrev pub ◌≈²◌ : Plane → Plane → Type 0
f ≈² g = (x y : ℕ) → f x y % 2 ^ 64 ≡ g x y % 2 ^ 64

unfoldable pub blank : Plane
blank x y = 0

-- c times a plane
unfoldable pub times : ℕ → Plane → Plane
times c f x y = c * f x y

-- SUMS OF PLANES
across-add : (f g : Plane) → across (add f g) ≡ add (across f) (across g)
unfolding across add running
across-add f g = fun_ext (λ x. fun_ext (λ y. sum-add (λ i. f i y) (λ i. g i y) (suc x)))

pub down-add : (f g : Plane) → down (add f g) ≡ add (down f) (down g)
unfolding down add running
down-add f g = fun_ext (λ x. fun_ext (λ y. sum-add (f x) (g x) (suc y)))

slopes_add : (d u : ℕ) (f g : Plane) → slope d u (add f g) ≡ add (slope d u f) (slope d u g)
unfolding add
slopes_add d u f g = fun_ext (λ x. fun_ext (λ y. slope-add d u f g x y))

add_assoc : (a b c : Plane) → add (add a b) c ≡ add a (add b c)
unfolding add
add_assoc a b c = fun_ext (λ x. fun_ext (λ y. omega arith))

add_comm : (a b : Plane) → add a b ≡ add b a
unfolding add
add_comm a b = fun_ext (λ x. fun_ext (λ y. omega arith))

add_left : (a b c : Plane) → add a (add b c) ≡ add b (add a c)
unfolding add
add_left a b c = fun_ext (λ x. fun_ext (λ y. omega arith))

ruleset sorted = (add_assoc, add_comm, add_left)

ruleset added = (across-add, down-add, slopes_add)

-- MULTIPLES OF PLANES
across-times : (c : ℕ) (f : Plane) → across (times c f) ≡ times c (across f)
unfolding across times running
across-times c f = fun_ext (λ x. fun_ext (λ y. sum_mul c (λ i. f i y) (suc x)))

down-times : (c : ℕ) (f : Plane) → down (times c f) ≡ times c (down f)
unfolding down times running
down-times c f = fun_ext (λ x. fun_ext (λ y. sum_mul c (f x) (suc y)))

slope-times : (d u c : ℕ) (f : Plane) → slope d u (times c f) ≡ times c (slope d u f)
unfolding times
slope-times d u c f = fun_ext (λ x. fun_ext (λ y. slope_mul d u c f x y))

times-add : (c : ℕ) (f g : Plane) → add (times c f) (times c g) ≡ times c (add f g)
unfolding times add
times-add c f g = fun_ext (λ x. fun_ext (λ y. omega arith))

-- PLANES THAT ARE THE SAME AT 2^64
pub add_cong : (f f' g g' : Plane) → f ≈² f' → g ≈² g' → add f g ≈² add f' g'
unfolding add
add_cong f f' g g' p q x y = cong_add _ _ _ _ (p x y) (q x y)

across_cong : (f g : Plane) → f ≈² g → across f ≈² across g
unfolding across running
across_cong f g h x y = sum_cong _ _ (λ i. h i y) (suc x)

pub down_cong : (f g : Plane) → f ≈² g → down f ≈² down g
unfolding down running
down_cong f g h x y = sum_cong _ _ (h x) (suc y)

pub summed_cong : (n : ℕ) (f g : Plane) → f ≈² g → summed n f ≈² summed n g
unfolding summed
summed_cong zero f g h = h
summed_cong (suc n) f g h = down_cong _ _ (across_cong _ _ (summed_cong n f g h))

slope_cong : (d u : ℕ) (f g : Plane) → f ≈² g → slope d u f ≈² slope d u g
unfolding slope
slope_cong d u f g h zero y = h 0 y
slope_cong d u f g h (suc x) y =
    by_lt (y + u) d
    (λ k. simp (within_no d (y + u)) (cong_add _ _ _ _ (h (suc x) y) refl))
    (λ k. simp (within_yes d (y + u)) (cong_add _ _ _ _ (h (suc x) y) (slope_cong d u f g h x (y + u - d))))

-- FINISHING
unfoldable pub adds : Planes → Planes → Planes
adds m n p = add (m p) (n p)

pub finish-add : (m n : Planes) → finish (adds m n) ≡ add (finish m) (finish n)
unfolding finish chain adds
finish-add m n = simp (added, sorted)

pub finish-times : (c : ℕ) (m : Planes) → finish (λ p. times c (m p)) ≡ times c (finish m)
unfolding finish chain
finish-times c m = simp (across-times, down-times, slope-times, times-add)

pub finish_cong : (m n : Planes) → ((p : ℕ) → m p ≈² n p) → finish m ≈² finish n
unfolding finish chain
finish_cong m n h =
    down_cong _ _ (add_cong _ _ _ _ (slope_cong _ _ _ _ (h _))
    (add_cong _ _ _ _ (slope_cong _ _ _ _ (h _))
    (add_cong _ _ _ _
    (slope_cong _ _ _ _ (add_cong _ _ _ _ (h _)
    (down_cong _ _ (across_cong _ _ (add_cong _ _ _ _ (h _) (down_cong _ _ (across_cong _ _ (h _))))))))
    (add_cong _ _ _ _ (slope_cong _ _ _ _ (h _)) (slope_cong _ _ _ _ (h _))))))

-- the first of some planes, as many as a picture has
unfoldable first_planes : Planes → Planes
first_planes m d x y = within (suc d) planes_each (m d x y)

-- finishing reads no others
finish_first : (m : Planes) → finish (first_planes m) ≡ finish m
unfolding finish chain first_planes within
finish_first m = refl

first_cong : (m n : Planes) → ((d : ℕ) → d < planes_each → m d ≈² n d) → (d : ℕ) → first_planes m d ≈² first_planes n d
unfolding first_planes
first_cong m n h d x y =
    by_lt planes_each (suc d)
    (λ g. rw (within_no (suc d) planes_each (m d x y), within_no (suc d) planes_each (n d x y)))
    (λ g. rw (within_yes (suc d) planes_each (m d x y), within_yes (suc d) planes_each (n d x y)) (h d g x y))

pub finish_cong_planes : (m n : Planes) → ((d : ℕ) → d < planes_each → m d ≈² n d) → finish m ≈² finish n
finish_cong_planes m n h =
    rw (← finish_first m, ← finish_first n)
    (finish_cong (first_planes m) (first_planes n) (first_cong m n h))

-- BLANK PLANES
add_blank : (f : Plane) → add f blank ≡ f
unfolding add blank
add_blank f = fun_ext (λ x. fun_ext (λ y. omega arith))

blank_add : (f : Plane) → add blank f ≡ f
unfolding add blank
blank_add f = fun_ext (λ x. fun_ext (λ y. omega arith))

-- what is additive takes the blank plane to itself
blank_through : (F : Plane → Plane) → ((f g : Plane) → F (add f g) ≡ add (F f) (F g)) → F blank ≡ blank
unfolding blank
blank_through F h =
    fun_ext (λ x. fun_ext (λ y.
    let e : F blank x y ≡ F blank x y + F blank x y =
    ap (λ (m : Plane). F m x y) (sym (add_blank blank)) ∙ ap (λ (m : Plane). m x y) (h blank blank) ∙ unfold add in refl in
    omega arith))

slope_blank : (d u : ℕ) → slope d u blank ≡ blank
slope_blank d u = blank_through (slope d u) (slopes_add d u)

across_blank : across blank ≡ blank
across_blank = blank_through across across-add

down_blank : down blank ≡ blank
down_blank = blank_through down down-add

ruleset blanks = (slope_blank, across_blank, down_blank, add_blank, blank_add)

-- the slope sum 0 is the sum across
slope-zero_at : (m : Plane) (x y : ℕ) → slope 0 0 m x y ≡ sum (λ i. m i y) (suc x)
unfolding sum slope
slope-zero_at m zero y = omega arith
slope-zero_at m (suc x) y =
    let z : y + 0 - 0 ≡ y = omega arith in
    rw (within_yes 0 (y + 0) (slope 0 0 m x (y + 0 - 0)) (omega arith), z, slope-zero_at m x y) (omega arith)

pub slope-zero : (m : Plane) → slope 0 0 m ≡ across m
unfolding across running
slope-zero m = fun_ext (λ x. fun_ext (λ y. slope-zero_at m x y))

-- ONE PLANE ALONE
unfoldable pub only : ℕ → Plane → Planes
only c f p x y = same p c (f x y)

-- a slope and the plane that it has: "slopes −2, −1, 0, 1, 2"
pub data Sloped : ℕ → ℕ → Type 0 where
  up2 : Sloped 0 2
  up1 : Sloped 0 1
  up0 : Sloped 0 0
  down1 : Sloped 1 0
  down2 : Sloped 2 0

pub finish-slope : {d u : ℕ} → Sloped d u → (f : Plane) → finish (only (level + d - u) f) ≡ down (slope d u f)
unfolding finish chain only same blank
finish-slope up2 f = simp blanks
finish-slope up1 f = simp blanks
finish-slope up0 f = simp blanks
finish-slope down1 f = simp blanks
finish-slope down2 f = simp blanks

-- n boxes lie in the plane that is summed across and down n times
pub data Boxed : ℕ → ℕ → Type 0 where
  first : Boxed 1 level
  second : Boxed 2 second_box
  third : Boxed 3 third_box

pub finish_boxes : {n c : ℕ} → Boxed n c → (f : Plane) → finish (only c f) ≡ summed n f
unfolding finish chain only same blank summed
finish_boxes first f = simp (blanks, slope-zero)
finish_boxes second f = simp (blanks, slope-zero)
finish_boxes third f = simp (blanks, slope-zero)

-- PRODUCTS OF ROWS
unfoldable pub product : Row → Row → Plane
product f g x y = f x * g y

across_product : (f g : Row) → across (product f g) ≡ product (running f) g
unfolding across product running
across_product f g =
    fun_ext (λ x. fun_ext (λ y.
    sum_ext _ (λ i. g y * f i) (λ i. omega arith) (suc x) ∙ sum_mul (g y) f (suc x) ∙ omega arith))

down_product : (f g : Row) → down (product f g) ≡ product f (running g)
unfolding down product running
down_product f g = fun_ext (λ x. fun_ext (λ y. sum_mul (f x) g (suc y)))

pub summed_product : (n : ℕ) (f g : Row) → summed n (product f g) ≡ product (runnings n f) (runnings n g)
unfolding summed runnings
summed_product zero f g = refl
summed_product (suc n) f g = rw (summed_product n f g, across_product, down_product)

pub product_cong : (f f' g g' : Row) → f ≈ f' → g ≈ g' → product f g ≈² product f' g'
unfolding product
product_cong f f' g g' p q x y = cong_mul (2 ^ 64) _ _ _ _ (p x) (q y)
