-- The slope sum of a mark, and THE PIECE FACT, for every slope d rows down less u rows up.
use mathlib.Core.Path.{◌≡◌, refl, ap, sym, ◌∙◌}
use Prim.Native.Nat.{ℕ, zero, suc, ◌+◌, ◌*◌, ◌-◌, ◌^◌, ◌≤◌, ◌<◌}
use native.Mathlib.Omega.{arith}
use native.Mathlib.Nat.{mul-le-mul_left, mul-le-mul_right, add-mul-mod_self_left}
use Rattle.kernels_model.specs.Choice.{within, same, strip}
use Rattle.kernels_model.specs.Sum.{Plane, slope}
use Rattle.kernels_model.specs.Mark.{Run, run_row, slope_plane, run_marks, planes_of}
use Rattle.kernels_model.specs.Facts.{slope_in, SlopeFact, run_sum, PieceFact}
use Rattle.kernels_model.proofs.Numbers.Choices.{by_lt, if_within, within_yes, within_no, same_yes, same_no, same_as}
use Rattle.kernels_model.proofs.Numbers.Choices.{same_add, same_mul, strip_in, strip-left, strip_right}

-- w at one cell
unfoldable at_cell : ℕ → ℕ → ℕ → Plane
at_cell x0 y0 w x y = same x x0 (same y y0 w)

-- THE SUM IS LINEAR
slope_ext : (d u : ℕ) (f g : Plane) → ((x y : ℕ) → f x y ≡ g x y) → (x y : ℕ) → slope d u f x y ≡ slope d u g x y
unfolding slope
slope_ext d u f g h x y = grind arith

pub slope-add : (d u : ℕ) (f g : Plane) (x y : ℕ)
    → slope d u (λ i j. f i j + g i j) x y ≡ slope d u f x y + slope d u g x y
unfolding slope
slope-add d u f g zero y = refl
slope-add d u f g (suc x) y =
    by_lt (y + u) d
    (λ h. simp (within_no d (y + u)) (omega arith))
    (λ h. simp (within_yes d (y + u)) (omega (arith, slope-add d u f g x (y + u - d))))

pub slope_mul : (d u c : ℕ) (f : Plane) (x y : ℕ) → slope d u (λ i j. c * f i j) x y ≡ c * slope d u f x y
unfolding slope
slope_mul d u c f zero y = refl
slope_mul d u c f (suc x) y =
    by_lt (y + u) d
    (λ h. simp (within_no d (y + u)) (omega arith))
    (λ h. simp (within_yes d (y + u)) (omega (arith, slope_mul d u c f x (y + u - d))))

cell-add : (x0 y0 v w x y : ℕ) → at_cell x0 y0 (v + w) x y ≡ at_cell x0 y0 v x y + at_cell x0 y0 w x y
unfolding at_cell
cell-add x0 y0 v w x y = rw (same_add y y0 v w, same_add)

cell_mul : (x0 y0 c w x y : ℕ) → at_cell x0 y0 (c * w) x y ≡ c * at_cell x0 y0 w x y
unfolding at_cell
cell_mul x0 y0 c w x y = rw (same_mul c y y0 w, same_mul)

-- A RAY: the slope sum of one mark
-- left of its mark nothing
ray_left : (d u x0 y0 w x y : ℕ) → x < x0 → slope d u (at_cell x0 y0 w) x y ≡ 0
unfolding slope at_cell
ray_left d u x0 y0 w zero y h = same_no 0 x0 (same y y0 w) (omega arith)
ray_left d u x0 y0 w (suc x) y h =
    let a : same (suc x) x0 (same y y0 w) ≡ 0 = same_no (suc x) x0 (same y y0 w) (omega arith) in
    let b : within d (y + u) (slope d u (at_cell x0 y0 w) x (y + u - d)) ≡ 0 =
    if_within _ _ _ _ (λ g. ray_left d u x0 y0 w x (y + u - d) (omega arith)) (omega arith) in
    omega arith

-- k columns right of its mark: the mark on the line, else nothing
ray : (d u x0 y0 w k x y : ℕ) → x ≡ x0 + k → slope d u (at_cell x0 y0 w) x y ≡ same (y + u * k) (y0 + d * k) w
unfolding slope at_cell
ray d u x0 y0 w zero zero y q =
    same_yes 0 x0 (same y y0 w) (omega arith) ∙ same_as y y0 _ _ w (omega arith) (omega arith)
ray d u x0 y0 w zero (suc x) y q =
    let a = same_yes (suc x) x0 (same y y0 w) (omega arith) in
    let b = same_as y y0 (y + u * 0) (y0 + d * 0) w (omega arith) (omega arith) in
    let c : within d (y + u) (slope d u (at_cell x0 y0 w) x (y + u - d)) ≡ 0 =
    if_within _ _ _ _ (λ g. ray_left d u x0 y0 w x (y + u - d) (omega arith)) (omega arith) in
    omega arith
ray d u x0 y0 w (suc k) zero y q = absurd (omega arith)
ray d u x0 y0 w (suc k) (suc x) y q =
    let a = same_no (suc x) x0 (same y y0 w) (omega arith) in
    let c : within d (y + u) (slope d u (at_cell x0 y0 w) x (y + u - d)) ≡ same (y + u * suc k) (y0 + d * suc k) w =
    if_within _ _ _ _
    (λ g. ray d u x0 y0 w k x (y + u - d) (omega arith) ∙ same_as _ _ _ _ w (omega arith) (omega arith))
    (λ g. let le : u ≤ d = omega arith in sym (same_no _ _ w (omega (arith, mul-le-mul_right k le)))) in
    omega arith

-- A PIECE
-- a piece that ends inside the plane lies inside it
stays_up : (d e y n i : ℕ) → (d + e) * n ≤ y + d * n → i ≤ n → (d + e) * i ≤ y + d * i
stays_up d e y n i h g = omega (arith, mul-le-mul_left e g)

pub stays : (d u y n i : ℕ) → u * n ≤ y + d * n → i ≤ n → u * i ≤ y + d * i
stays d u y n i h g =
    by_lt d u
    (λ k. let e : d + (u - d) ≡ u = omega arith in rw e at (stays_up d (u - d) y n i (rw e h) g))
    (λ k. omega (arith, mul-le-mul_right i k))

-- from its start on the ray is the piece, and what starts a step past its end
piece_ray : (d u x0 y0 n w x y : ℕ) → u * n ≤ y0 + d * n
    → slope d u (at_cell x0 y0 w) x y
    ≡ slope d u (at_cell (x0 + n) (y0 + d * n - u * n) w) x y + strip x0 n x (same y (y0 + d * (x - x0) - u * (x - x0)) w)
piece_ray d u x0 y0 n w x y h =
    let y1 = y0 + d * n - u * n in
    let on = same y (y0 + d * (x - x0) - u * (x - x0)) w in
    by_lt x x0
    (λ g. omega (arith, strip-left x0 n x on g, ray_left d u x0 y0 w x y g, ray_left d u (x0 + n) y1 w x y (omega arith)))
    (λ g.
    let a = ray d u x0 y0 w (x - x0) x y (omega arith) in
    by_lt x (x0 + n)
    (λ i.
    let m = stays d u y0 n (x - x0) h (omega arith) in
    let b = same_as (y + u * (x - x0)) (y0 + d * (x - x0)) y (y0 + d * (x - x0) - u * (x - x0)) w (omega arith) (omega arith) in
    omega (arith, strip_in x0 n x on g i, ray_left d u (x0 + n) y1 w x y i))
    (λ i.
    let b = ray d u (x0 + n) y1 w (x - (x0 + n)) x y (omega arith) in
    let s : x - x0 ≡ n + (x - (x0 + n)) = omega arith in
    let c = same_as (y + u * (x - x0)) (y0 + d * (x - x0)) (y + u * (x - (x0 + n))) (y1 + d * (x - (x0 + n))) w
    (rw s (omega arith)) (rw s (omega arith)) in
    omega (arith, strip_right x0 n x on i)))

-- a piece's two marks, alone in a plane
run_plane : (p q x0 y0 : ℕ) (s : Run) (x y : ℕ)
    → planes_of (run_marks p q x0 y0 s) (slope_plane s) x y
    ≡ at_cell x0 y0 p x y + at_cell (x0 + s.columns) (run_row s y0 s.columns) q x y
unfolding planes_of at_cell
run_plane p q x0 y0 s x y =
    let c = slope_plane s in
    omega (
      arith,
      same_yes c c (same x x0 (same y y0 p)) refl,
      same_yes c c (same x (x0 + s.columns) (same y (run_row s y0 s.columns) q)) refl,
    )

-- THE PIECE FACT
pub piece_fact : PieceFact
unfolding run_sum
piece_fact p q k x0 y0 s x y e h =
    let d = s.downs in
    let u = s.ups in
    let x1 = x0 + s.columns in
    let y1 = run_row s y0 s.columns in
    let on = strip x0 s.columns x (same y (run_row s y0 (x - x0)) p) in
    let z = slope_ext d u _ _ (cell-add x1 y1 p q) x y ∙ slope-add d u (at_cell x1 y1 p) (at_cell x1 y1 q) x y in
    let m = slope_ext d u _ _ (cell_mul x1 y1 (2 ^ 64) k) x y ∙ slope_mul d u (2 ^ 64) (at_cell x1 y1 k) x y in
    let r : slope d u (at_cell x1 y1 (p + q)) x y ≡ 2 ^ 64 * slope d u (at_cell x1 y1 k) x y = rw e m in
    let both = slope_ext d u _ _ (run_plane p q x0 y0 s) x y ∙ slope-add d u (at_cell x0 y0 p) (at_cell x1 y1 q) x y in
    let t : slope d u (planes_of (run_marks p q x0 y0 s) (slope_plane s)) x y ≡ on + 2 ^ 64 * slope d u (at_cell x1 y1 k) x y =
    omega (arith, piece_ray d u x0 y0 s.columns p x y h) in
    rw (t, add-mul-mod_self_left)

-- PLANES OF h ROWS
-- below the plane a sum that comes from further below is 0
slope_below : (h d u : ℕ) (m : Plane) → ((x y : ℕ) → h ≤ y → m x y ≡ 0) → d ≤ u
    → (x y : ℕ) → h ≤ y → slope d u m x y ≡ 0
unfolding slope
slope_below h d u m z s zero y g = z 0 y g
slope_below h d u m z s (suc x) y g =
    let a : within d (y + u) (slope d u m x (y + u - d)) ≡ 0 =
    if_within _ _ _ _ (λ k. slope_below h d u m z s x (y + u - d) (omega arith)) (omega arith) in
    omega (arith, z (suc x) y g)

pub slope_in_lem : SlopeFact
unfolding slope slope_in
slope_in_lem h d u m z zero y g = refl
slope_in_lem h d u m z (suc x) y g =
    ap (λ (n : ℕ). m (suc x) y + n) (if_within _ _ _ _
    (λ k. rw (within_yes d (y + u) (slope d u m x (y + u - d))) (if_within _ _ _ _
    (λ i. slope_in_lem h d u m z x (y + u - d) i)
    (λ i. sym (slope_below h d u m z (omega arith) x (y + u - d) (omega arith)))))
    (λ k. sym (within_no d (y + u) (slope d u m x (y + u - d)) k)))
