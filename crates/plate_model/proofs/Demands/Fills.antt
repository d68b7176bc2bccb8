-- Fill keeps the invariant and reports what the notebook reports; an accepted open makes it hold.
use Rattle.std.specs.Prelude.{Ok, Err}
use mathlib.Core.Path.{◌≡◌, refl, ap, sym, ◌∙◌}
use mathlib.Core.List.{List, [], ◌∷◌, map}
use Prim.Native.Nat.{ℕ, ◌+◌, ◌%◌, ◌^◌, ◌≤◌, ◌<◌, min}
use native.Mathlib.Omega.{arith}
use native.Mathlib.Nat.{zero-add}
use lib.Dec.{lit<, lit≤}
use lib.ListN.{get_or, length, replicate, length-replicate}
use Rattle.kernels_model.specs.Shape.{shape_of, top_under}
use Rattle.kernels_model.specs.declared.lens.Lens.{Lens}
use Rattle.kernels_model.specs.Mark.{Mark, marks}
use Rattle.kernels_model.proofs.Numbers.Choices.{same_mul}
use Rattle.kernels_model.proofs.Sums.FiniteSums.{sum_ext, sum_ext_lt, sum-zero}
use Rattle.plate_model.specs.Layout.{Size, cell, places, column_of, row_of}
use Rattle.plate_model.specs.Word.{Pixel, empty, word_of, Entry}
use Rattle.plate_model.specs.Refusal.{Outcome, inputs_check, layer_check, open_check, fill_check, fill_first}
use Rattle.plate_model.specs.Lent.{state_of, Lent, lent, lengths_of, Inputs}
use Rattle.plate_model.specs.Marks.{in_both, pixel_marks, lay_grid, on_cell}
use Rattle.kernels_model.specs.Listed.{zeros, list_to}
use Rattle.plate_model.specs.Asked.{filled, known_shape}
use Rattle.plate_model.specs.Calls.{fill_by, fill_call, open_by, open_call}
use Rattle.plate_model.specs.Plain.{grid_cell}
use Rattle.plate_model.specs.Notebook.{book_of, book_fill_by, book_fill}
use Rattle.plate_model.specs.Lists.{left_by, step_of}
use Rattle.plate_model.proofs.Checks.Rows.{check_passed}
use Rattle.plate_model.proofs.Checks.Conditions.{inputs_checks}
use Rattle.plate_model.proofs.Checks.Accepted.{layer-accepted}
use Rattle.plate_model.proofs.Checks.Passed.{sizes_passed, sizes_pass, lent_passed, lent_pass}
use Rattle.plate_model.specs.Word.{Fits}
use Rattle.plate_model.proofs.Laying.LaidCells.{length_lay_grid, lay_grid_cell}
use Rattle.plate_model.proofs.Numbers.Lists.{get_or_same, get_or_zeros, length-list_to, get_or_list_to, list_to_each, empty_words}
use Rattle.plate_model.proofs.Demands.Logs.{log_by, log_length}
use Rattle.plate_model.proofs.Demands.Mirror.{PileFits, Mirrored, held_by, mirror, Agree, lent_kept, count_kept}
use Rattle.plate_model.proofs.Demands.Mirror.{agree_refused}
use Rattle.kernels_model.specs.Fixed.{planes_each}

pub empty_fits : (R : ℕ) → Fits R empty
empty_fits R = record { value_fits = lit≤ tt; opacity_fits = lit< tt; radius_fits = omega arith }

-- FILL
-- a filled pixel is lawful
filled_fits : (z : Size) (o : Lens) (n : ℕ) (f : Inputs) → layer_check o n f ≡ Ok tt
    → ((i : ℕ) → get_or f.opacities i 0 < 256)
    → (i : ℕ) → Fits z.reach (filled z o (known_shape (shape_of n)) f i)
unfolding filled
filled_fits z o n f e bytes i =
    record {
      value_fits = (layer-accepted o n f e).values_in i;
      opacity_fits = bytes i;
      radius_fits = least (top_under (known_shape (shape_of n)) z.reach) _;
    }
  where
    least : (a b : ℕ) → min a b ≤ a
    least a b = omega arith

-- a grid laid on zeros
laid_cell : (z : Size) (g : ℕ → Pixel) (m k : ℕ) → k < m
    → get_or (lay_grid z g (zeros m) (places z)) k 0 ≡ grid_cell z (list_to g (places z)) k
unfolding grid_cell
laid_cell z g m k h =
    lay_grid_cell z g (zeros m) (places z) k (omega (arith, length-replicate {A = ℕ} m 0)) (rw (get_or_zeros m k) (lit< tt))
    ∙ rw (get_or_zeros m k, zero-add) (ap (λ (n : ℕ). n % 2 ^ 64)
    (sum_ext_lt _ _ (places z)
    (λ i p. ap (λ (q : Pixel). on_cell z k (pixel_marks z i q)) (sym (get_or_list_to g (places z) i empty p)))))

module _ (z : Size) (room : ℕ) (planes : List ℕ) (grid : List Pixel) (pile : List Entry)
    (kept : Mirrored z room planes grid pile) where
  fill_done : (o : Lens) (n : ℕ) (f : Inputs) → ((i : ℕ) → get_or f.opacities i 0 < 256) → layer_check o n f ≡ Ok tt
      → Agree z room
      (step_of (fill_by (Ok tt) (state_of z (length pile)) o n f (held_by room planes grid pile)))
      (book_fill_by (Ok tt) (book_of z room grid pile) o n f)
  unfolding fill_by book_fill_by log_by PileFits
  fill_done o n f bytes e =
      let pixel = filled z o (known_shape (shape_of n)) f in
      let cells = lay_grid z pixel (zeros (length planes)) (places z) in
      record {
        planes = cells;
        grid = list_to pixel (places z);
        pile = [];
        same_report = refl;
        same_plate =
            ap (λ (m : ℕ). record { state = state_of z 0; buffers = lent cells (map word_of (list_to pixel (places z))) (zeros m) })
            (log_length room pile);
        same_book = refl;
        kept = record {
          lawful = kept.lawful;
          cells_count =
              length_lay_grid z pixel (zeros (length planes)) (places z)
              ∙ length-replicate {A = ℕ} (length planes) 0
              ∙ kept.cells_count;
          each_cell = λ k h. laid_cell z pixel (length planes) k (omega (arith, kept.cells_count));
          grid_size = length-list_to pixel (places z);
          grid_fits = list_to_each (Fits z.reach) pixel (places z) empty (empty_fits z.reach)
              (filled_fits z o n f e bytes);
          pile_fits = tt;
          height_fits = omega arith;
          room_top = kept.room_top;
        };
      }

  fill_by_fact : (o : Lens) (n : ℕ) (f : Inputs) → ((i : ℕ) → get_or f.opacities i 0 < 256) → (c : Outcome)
      → inputs_check z (length f.values) (length f.opacities) (length f.depths) (layer_check o n f) ≡ c
      → Agree z room
      (step_of (fill_by c (state_of z (length pile)) o n f (held_by room planes grid pile)))
      (book_fill_by c (book_of z room grid pile) o n f)
  fill_by_fact o n f bytes (Ok tt) e = fill_done o n f bytes (check_passed (inputs_checks z _ _ _) (layer_check o n f) e).1
  fill_by_fact o n f bytes (Err g) e = unfold fill_by book_fill_by in (agree_refused z room planes grid pile kept g)

  fill_checks : (o : Lens) (n : ℕ) (f : Inputs)
      → fill_check (state_of z (length pile)) o n f (lengths_of (held_by room planes grid pile))
      ≡ inputs_check z (length f.values) (length f.opacities) (length f.depths) (layer_check o n f)
  unfolding fill_check fill_first
  fill_checks o n f =
      sizes_pass z _ kept.lawful
      ∙ lent_pass z _ _ (lent_kept z room planes grid pile kept)
      ∙ ap (inputs_check z (length f.values) (length f.opacities) (length f.depths))
      (count_kept z room planes grid pile kept (layer_check o n f))

  pub fill_agrees : (o : Lens) (n : ℕ) (f : Inputs) → ((i : ℕ) → get_or f.opacities i 0 < 256)
      → Agree z room
      (step_of (fill_call (state_of z (length pile)) o n f (held_by room planes grid pile)))
      (book_fill (book_of z room grid pile) o n f)
  unfolding fill_call book_fill
  fill_agrees o n f bytes =
      rw (fill_checks o n f)
      (fill_by_fact o n f bytes
      (inputs_check z (length f.values) (length f.opacities) (length f.depths) (layer_check o n f)) refl)

-- OPEN
-- marks that are worth 0 lay nothing
both_nothing : (z : Size) (k : ℕ) (ms : List Mark) → on_cell z k (in_both 0 0 ms) ≡ 0
unfolding in_both on_cell
both_nothing z k [] = refl
both_nothing z k (m ∷ ms) =
    omega (
      arith,
      same_mul 0 k (cell z m.plane m.column m.row) m.coefficient,
      same_mul 0 k (cell z (planes_each + m.plane) m.column m.row) m.coefficient,
      both_nothing z k ms,
    )

pub empty_lays : (z : Size) (k i : ℕ) → on_cell z k (pixel_marks z i empty) ≡ 0
unfolding pixel_marks
empty_lays z k i = both_nothing z k (marks empty.shape 0 (column_of z i) (row_of z i))

open_cell : (z : Size) (m k : ℕ) → get_or (zeros m) k 0 ≡ grid_cell z (replicate (places z) empty) k
unfolding grid_cell
open_cell z m k =
    get_or_zeros m k
    ∙ sym (ap (λ (n : ℕ). n % 2 ^ 64)
    (sum_ext _ (λ i. 0) (λ i. rw (get_or_same (places z) empty i) (empty_lays z k i)) (places z) ∙ sum-zero (places z)))

pub open_kept : (z : Size) (l : Lent) → open_check z (lengths_of l) ≡ Ok tt
    → Mirrored z (length l.log) (zeros (length l.planes)) (replicate (places z) empty) []
unfolding open_check PileFits
open_kept z l e =
    let q1 = sizes_passed z _ e in
    let q2 = lent_passed z (lengths_of l) _ q1.1 in
    record {
      lawful = q1.0;
      cells_count = length-replicate {A = ℕ} (length l.planes) 0 ∙ q2.0.planes_are;
      each_cell = λ k h. open_cell z (length l.planes) k;
      grid_size = length-replicate (places z) empty;
      grid_fits = λ i. rw (get_or_same (places z) empty i) (empty_fits z.reach);
      pile_fits = tt;
      height_fits = omega arith;
      room_top = q2.0.log_top_fact;
    }

pub open_mirror : (z : Size) (l : Lent) → open_check z (lengths_of l) ≡ Ok tt
    → left_by (open_call z l) ≡ mirror z (length l.log) (zeros (length l.planes)) (replicate (places z) empty) []
unfolding open_call open_by log_by open_check
open_mirror z l e =
    let q = lent_passed z (lengths_of l) _ (sizes_passed z _ e).1 in
    rw e (ap
    (λ (ws : List ℕ). record { state = state_of z 0; buffers = lent (zeros (length l.planes)) ws (zeros (length l.log)) })
    (ap (λ (n : ℕ). zeros n) q.0.pixels_are ∙ sym (empty_words (places z))))
