-- A row whose sums are raised run by run: first by what the old pixel took away, then by what the new one gives.
use Rattle.std.proofs.Common.{◌≡◌, ℕ, ◌+◌, ◌-◌, ◌*◌, ◌/◌, ◌%◌, ◌^◌, ◌<◌, ◌≤◌, min, true, List, get_or, refl, ap, ◌∙◌, mod-lt, div-add-mod', arith}
use native.Mathlib.Nat.{add-mod-mod}
use Rattle.std.specs.declared.ops.Range.{Range}
use Rattle.kernels_model.specs.Sum.{dist}
use Rattle.kernels_model.specs.Mark.{minus}
use Rattle.kernels_model.specs.Band.{is_level}
use Rattle.kernels_model.proofs.Numbers.Choices.{by_lt}
use Rattle.kernels_model.proofs.Taps.Bands.{band_out, level-weight}
use Rattle.plate_model.specs.declared.size.Size.{Size}
use Rattle.plate_model.specs.Layout.{places, matte_from}
use Rattle.plate_model.specs.Lent.{Canvas, canvas}
use Rattle.plate_model.specs.declared.change.Change.{Change}
use Rattle.plate.specs.Laying.{Amounts, times}
use Rattle.plate.specs.Passes.{Written}
use Rattle.plate.specs.Mending.{Given, GivenIn, given_at, amounts_at, light_then, matte_then, RunIn}
use Rattle.plate.specs.Mending.{RunGiven, RowToMend, InRow, CellMended, CellSame, MendedWhere}
use Rattle.plate.proofs.Laws.Showing.Image.{RowShown}
use Rattle.plate.proofs.Laws.Numbers.Wraps.{wrap_more}
use Rattle.plate_model.proofs.Numbers.Extents.{place_within, column_is, row_is}
use Rattle.plate.proofs.Laws.Mending.Mended.{InRange, light_then_lem, matte_then_lem}
use Rattle.plate.proofs.Laws.Mending.Rows.{change_column, change_row, row-mended}

-- ONE RUN
-- a number is added to each sum of a run
abbrev pub RunAdded : ℕ → ℕ → ℕ → List ℕ → List ℕ → Type 0
RunAdded first count by old new = Written 1 count (λ c. first) (λ c i. (get_or old (first + i) 0 + by) % 2 ^ 64) old new

-- light's run and then matte's
pub run_given : (n start : ℕ) (s : Range ℕ) (by : Amounts) (old mid new : List ℕ) (count count₂ : ℕ) → count ≡ s.end - s.start
    → count₂ ≡ s.end - s.start
    → RunIn n start s old
    → RunAdded (start + s.start) count by.light old mid
    → RunAdded (n + (start + s.start)) count₂ by.matte mid new → RunGiven n start s by old new
run_given n start s by old mid new count count₂ many many₂ inside light matte =
    record {
      same = matte.same ∙ light.same;
      light_in = λ x low high.
          let at : start + s.start + (x - s.start) ≡ start + x = omega arith in
          matte.rest (start + x) (λ c i h g e. omega (arith, inside.past_in, g))
          ∙ (rw at at (light.done 0 (x - s.start) (omega arith) (omega arith)));
      matte_in = λ x low high.
          let at : n + (start + s.start) + (x - s.start) ≡ n + (start + x) = omega arith in
          let before = light.rest (n + (start + x)) (λ c i h g e. omega (arith, inside.past_in, g)) in
          (rw at at (matte.done 0 (x - s.start) (omega arith) (omega arith))) ∙ ap (λ (m : ℕ). (m + by.matte) % 2 ^ 64) before;
      rest = λ j no_light no_matte.
          matte.rest j (λ c i h g e. no_matte (s.start + i) (omega arith) (omega (arith, g)) (omega (arith, e)))
          ∙ light.rest j (λ c i h g e. no_light (s.start + i) (omega arith) (omega (arith, g)) (omega (arith, e)));
    }

-- BOTH RUNS
-- a sum that is in the one run or in the other, or in both: outside of a run nothing is given
both_runs : (k a b G G₀ H H₀ so sn dx : ℕ)
    → (dx < so → (a ≡ (k + (G₀ * minus 1) % 2 ^ 64) % 2 ^ 64) × (G ≡ G₀)) → (so ≤ dx → (a ≡ k) × (G ≡ 0))
    → (dx < sn → (b ≡ (a + H₀) % 2 ^ 64) × (H ≡ H₀)) → (sn ≤ dx → (b ≡ a) × (H ≡ 0))
    → dx < so + (sn - so) → b ≡ (k + minus G + H) % 2 ^ 64
both_runs k a b G G₀ H H₀ so sn dx old-in old-out new_in new-out near =
    by_lt dx so
    (λ g. by_lt dx sn
    (λ h. let n = new_in h in rw n.1 (wrap_more (k + minus G) H₀ a b (taken g) n.0))
    (λ h. let n = new-out h in rw n.1 (n.0 ∙ taken g ∙ more_none (k + minus G))))
    (λ g. by_lt dx sn
    (λ h. let o = old-out g in let n = new_in h in rw (o.1, n.1) (n.0 ∙ rw o.0 (none_less H₀)))
    (λ h. omega (arith, near, g, h)))
  where
    taken : dx < so → a ≡ (k + minus G) % 2 ^ 64
    taken g =
        let o = old-in g in
        let same : G₀ * minus 1 ≡ minus G = rw o.1 (unfold minus in (omega arith)) in
        o.0 ∙ add-mod-mod k (G₀ * minus 1) (2 ^ 64) ∙ ap (λ (n : ℕ). (k + n) % 2 ^ 64) same

    more_none : (n : ℕ) → n % 2 ^ 64 ≡ (n + 0) % 2 ^ 64
    more_none n = omega arith

    none_less : (n : ℕ) → (k + n) % 2 ^ 64 ≡ (k + minus 0 + n) % 2 ^ 64
    none_less n = unfold minus in (omega arith)

-- what a level row gives a cell: the same in its run, and nothing outside
given_in : (g : Given) (dx : ℕ) → is_level g.band ≡ true → dx < g.band.span → given_at g dx ≡ given_at g 0
given_in g dx level h = ap (λ (w : ℕ). g.opacity * w) (level-weight g.band level dx h)

given_out : (g : Given) (dx : ℕ) → g.band.span ≤ dx → given_at g dx ≡ 0
given_out g dx h = rw (band_out g.band dx h) (omega arith)

-- the cells of a line that are nearer than a span to the one at a column
abbrev pub Around : ℕ → ℕ → ℕ → Range ℕ → Type 0
Around at span end s = (s.start ≡ at + 1 - span) × (s.end ≡ min (at + span) end)

module _ (z : Size) (c : Change) (row : ℕ) (old new : Given) (k : Canvas) (r : RowToMend z c row old new k)
    (old_level : is_level old.band ≡ true) (new_level : is_level new.band ≡ true)
    (old_run new_run wide : Range ℕ) (span : ℕ) (wider : span ≡ old.band.span + (new.band.span - old.band.span))
    (old_around : Around c.x old.band.span z.width old_run)
    (new_around : Around c.x new.band.span z.width new_run) (around : Around c.x span z.width wide)
    (s₁ s₂ v o : List ℕ)
    (taken : RunGiven (places z) (row * z.width) old_run (times (amounts_at old 0) (minus 1)) k.sums s₁)
    (given : RunGiven (places z) (row * z.width) new_run (amounts_at new 0) s₁ s₂)
    (shown : RowShown s₂ (row * z.width + wide.start) (places z + (row * z.width + wide.start)) (row * z.width + wide.start)
    (wide.end - wide.start) k.values v k.mattes o) where
  in_place : (x : ℕ) → x < z.width → row * z.width + x < places z
  in_place x h = place_within x row z.width z.height h r.row_in

  -- a cell out of a run is in neither of its parts
  out_of_run : (t : ℕ) (run : Range ℕ) → Around c.x t z.width run → (x : ℕ) → x < z.width → t ≤ dist x c.x
      → (x' : ℕ) → run.start ≤ x' → x' < run.end → ¬ (x ≡ x')
  out_of_run t run a x inside far x' low high e = omega (arith, a.0, a.1, far, low, high, e)

  -- the two sums of a cell in reach
  light_sum : (x : ℕ) → x < z.width → dist x c.x < span
      → get_or s₂ (row * z.width + x) 0 ≡ light_then (row * z.width + x) (dist x c.x) old new k
  light_sum x inside near =
      let dx = dist x c.x in
      both_runs _ _ _ (old.value * given_at old dx) (old.value * given_at old 0) (new.value * given_at new dx)
      (new.value * given_at new 0)
      old.band.span new.band.span dx
      (λ h. (
        taken.light_in x (omega (arith, old_around.0, h)) (omega (arith, old_around.1, h, inside)),
        ap (λ (w : ℕ). old.value * w) (given_in old dx old_level h),
      ))
      (λ h. (
        taken.rest _ (λ x' low high e. out_of_run _ old_run old_around x inside h x' low high (omega arith))
            (λ x' low high e. omega (arith, in_place x inside)),
        rw (given_out old dx h) (omega arith),
      ))
      (λ h. (
        given.light_in x (omega (arith, new_around.0, h)) (omega (arith, new_around.1, h, inside)),
        ap (λ (w : ℕ). new.value * w) (given_in new dx new_level h),
      ))
      (λ h. (
        given.rest _ (λ x' low high e. out_of_run _ new_run new_around x inside h x' low high (omega arith))
            (λ x' low high e. omega (arith, in_place x inside)),
        rw (given_out new dx h) (omega arith),
      ))
      (omega (arith, near, wider))

  matte_sum : (x : ℕ) → x < z.width → dist x c.x < span
      → get_or s₂ (places z + (row * z.width + x)) 0 ≡ matte_then (places z) (row * z.width + x) (dist x c.x) old new k
  matte_sum x inside near =
      let dx = dist x c.x in
      both_runs _ _ _ (given_at old dx) (given_at old 0) (given_at new dx) (given_at new 0) old.band.span new.band.span dx
      (λ h. (
        taken.matte_in x (omega (arith, old_around.0, h)) (omega (arith, old_around.1, h, inside)),
        given_in old dx old_level h,
      ))
      (λ h. (
        taken.rest _ (λ x' low high e. omega (arith, in_place x' (omega (arith, high, old_around.1)), e))
            (λ x' low high e. out_of_run _ old_run old_around x inside h x' low high (omega arith)),
        given_out old dx h,
      ))
      (λ h. (
        given.matte_in x (omega (arith, new_around.0, h)) (omega (arith, new_around.1, h, inside)),
        given_in new dx new_level h,
      ))
      (λ h. (
        given.rest _ (λ x' low high e. omega (arith, in_place x' (omega (arith, high, new_around.1)), e))
            (λ x' low high e. out_of_run _ new_run new_around x inside h x' low high (omega arith)),
        given_out new dx h,
      ))
      (omega (arith, near, wider))

  -- it is mended, with its picture cells
  here : (x : ℕ) → x < z.width → wide.start ≤ x → x < wide.end → CellMended z c k (canvas s₂ v o) (row * z.width + x)
  here x inside low high =
      let near : dist x c.x < span = omega (arith, around.0, around.1, low, high) in
      let column = column_is x row z.width inside in
      let across = change_column z c k r.ready in
      let down = row_is x row z.width inside in
      let up = change_row z c k r.ready in
      let old_is : GivenIn c.old (dist ((row * z.width + x) / z.width) (c.place / z.width)) old = rw (down, up)
      r.old_is in
      let new_is : GivenIn c.new (dist ((row * z.width + x) / z.width) (c.place / z.width)) new = rw (down, up)
      r.new_is in
      let light = light_sum x inside near
      ∙ (rw (column, across) at (light_then_lem z c (row * z.width + x) old new k old_is new_is)) in
      let matte = matte_sum x inside near
      ∙ (rw (column, across) at (matte_then_lem z c (row * z.width + x) old new k old_is new_is)) in
      let at : row * z.width + wide.start + (x - wide.start) ≡ row * z.width + x = omega arith in
      let at' : places z + (row * z.width + wide.start) + (x - wide.start) ≡ places z + (row * z.width + x) = omega arith in
      record {
        light_is = light;
        matte_is = matte;
        value_is = (rw (at, at') at (shown.in_values.done 0 (x - wide.start) (omega arith) (omega arith))) ∙ rw (light, matte);
        shown_is = (rw (at, at') at (shown.in_mattes.done 0 (x - wide.start) (omega arith) (omega arith))) ∙ rw matte;
      }

  -- a cell of one of the runs is one of the wider
  in_wide : (i x : ℕ) → wide.start ≤ x → x < wide.end → i ≡ row * z.width + x
      → InRange z row wide.start (wide.start + (wide.end - wide.start)) i
  in_wide i x low high e =
      let inside : x < z.width = omega (arith, high, around.1) in
      rw (e, row_is x row z.width inside, column_is x row z.width inside) (refl, low, omega (arith, low, high))

  -- every other cell is as it was
  there : (i : ℕ) → i < places z → ¬ (InRange z row wide.start (wide.start + (wide.end - wide.start)) i)
      → CellSame z k (canvas s₂ v o) i
  there i h n =
      record {
        light_is = given.rest i
            (λ x low high e. n (in_wide i x (omega (arith, low, new_around.0, around.0, wider))
            (omega (arith, high, new_around.1, around.1, wider)) e))
            (λ x low high e. omega (arith, h, e))
            ∙ taken.rest i
            (λ x low high e. n (in_wide i x (omega (arith, low, old_around.0, around.0, wider))
            (omega (arith, high, old_around.1, around.1, wider)) e))
            (λ x low high e. omega (arith, h, e));
        matte_is = given.rest (matte_from z + i)
            (λ x low high e. omega (arith, in_place x (omega (arith, high, new_around.1)), e))
            (λ x low high e. n (in_wide i x (omega (arith, low, new_around.0, around.0, wider))
            (omega (arith, high, new_around.1, around.1, wider)) (omega (arith, e))))
            ∙ taken.rest (matte_from z + i)
            (λ x low high e. omega (arith, in_place x (omega (arith, high, old_around.1)), e))
            (λ x low high e. n (in_wide i x (omega (arith, low, old_around.0, around.0, wider))
            (omega (arith, high, old_around.1, around.1, wider)) (omega (arith, e))));
        value_is =
            shown.in_values.rest i
            (λ c j _ g e. n (in_wide i (wide.start + j) (omega arith) (omega (arith, g)) (omega (arith, e))));
        shown_is =
            shown.in_mattes.rest i
            (λ c j _ g e. n (in_wide i (wide.start + j) (omega arith) (omega (arith, g)) (omega (arith, e))));
      }

  pub runs_mended : MendedWhere z c (InRow z c row) k (canvas s₂ v o)
  runs_mended =
      row-mended z c k r.ready row r.row_in old new r.old_is r.new_is wide.start wide.end
      (wide.start + (wide.end - wide.start)) span (canvas s₂ v o) wider around.0 around.1 (omega arith) (omega arith)
      (record {
        same_sums = given.same ∙ taken.same;
        same_values = shown.in_values.same;
        same_mattes = shown.in_mattes.same;
        mends = λ i h s.
            let inside : i % z.width < z.width = mod-lt i r.ready.change.lawful.width_some in
            let at : row * z.width + i % z.width ≡ i = (rw s.0 at (div-add-mod' i z.width)) in
            rw at at (here (i % z.width) inside s.1 (omega (arith, s.1, s.2)));
        keeps = there;
      })
