-- The worked examples of specs/Worked.antt: computed on the notebook, and so true of the plate, by demand 3.
use Rattle.std.specs.Prelude.{Ok}
use mathlib.Core.Path.{◌≡◌, refl, ap, sym, ◌∙◌}
use mathlib.Core.Bool.{Bool, true, false}
use mathlib.Core.List.{List, [], ◌∷◌, map}
use Prim.Native.Nat.{ℕ, ◌<◌}
use lib.Dec.{ltb}
use lib.ListN.{get_or, length}
use borrow.Author.Tests.{ltb-true}
use Rattle.kernels_model.specs.Choice.{pick, within, same}
use Rattle.kernels_model.specs.Sum.{sum}
use Rattle.kernels_model.specs.Tap.{box_tap, box, convolved, one, shift, tap, area, share_for, rest_for, weight}
use Rattle.kernels_model.specs.Mark.{minus, sign, choose, marks_to, box_grid, box_marks, line_marks, flipped, outline_marks}
use Rattle.kernels_model.specs.Mark.{hexagon_marks, tap_marks, scaled, centre_marks, marks}
use Rattle.kernels_model.specs.Rounding.{nearest, nearest_even, shown_value, shown_matte}
use Rattle.kernels_model.specs.Lens.{lawful_lens, blur}
use Rattle.plate_model.specs.Word.{word_of}
use Rattle.plate_model.specs.Refusal.{refuse_if, sizes_check, lent_check, place_check, shape_check, radius_check}
use Rattle.plate_model.specs.Refusal.{ask_check, inputs_check, layer_check, any_of, is_between, views_check, open_check}
use Rattle.plate_model.specs.Lent.{Lent, LentLengths, lent_lengths, lengths_of}
use Rattle.kernels_model.specs.Listed.{list_to}
use Rattle.plate_model.specs.Asked.{filled}
use Rattle.plate_model.specs.Calls.{open_call}
use Rattle.plate_model.specs.Marks.{in_both, pixel_marks, on_cell}
use Rattle.plate_model.specs.Plain.{plain_sum, plain_values, plain_mattes, grid_cell}
use Rattle.plate_model.specs.Notebook.{open_book, Report, book_put_by, book_put, book_undo_of, book_undo, book_fill_by, book_fill}
use Rattle.plate_model.specs.Notebook.{book_show_by, book_show, from_bottom, log_of}
use Rattle.plate_model.specs.Lists.{Call, left_by, plate_reports, plate_after, book_step, book_reports, book_after, Holds}
use Rattle.plate_model.specs.Worked.{four_by_three, room_for_five, Gives, puts, put_reports, put_words, put_log, layer}
use Rattle.plate_model.specs.Worked.{layer_reports, layer_words, layer_log, hexagon, hexagon_cells, Worked}
use Rattle.kernels_model.proofs.Numbers.Choices.{by_test}
use Rattle.plate_model.proofs.Checks.Conditions.{true-not}
use Rattle.plate_model.proofs.Demands.Demand.{demand_3}

-- ON EVERY PLATE
open_accepted : open_check four_by_three (lent_lengths 2548 12 5) ≡ Ok tt
unfolding open_check sizes_check lent_check refuse_if
open_accepted = refl

-- what a plate of such buffers reports and holds
module _ (calls : List Call) (l : Lent) (e : lengths_of l ≡ lent_lengths 2548 12 5) where
  room_five : length l.log ≡ room_for_five
  room_five = ap (λ (n : LentLengths). n.log) e

  as_book : (plate_reports (left_by (open_call four_by_three l)) calls ≡ book_reports (open_book four_by_three room_for_five) calls)
      × Holds (plate_after (left_by (open_call four_by_three l)) calls) (book_after (open_book four_by_three room_for_five) calls)
  as_book = rw room_five at (demand_3 four_by_three l calls (rw e open_accepted))

-- what a notebook holds after a list
abbrev LeftAs : List Call → List ℕ → List ℕ → ℕ → Type 0
LeftAs calls words log count =
    let b = book_after (open_book four_by_three room_for_five) calls in
    (map word_of b.grid ≡ words)
    × ((b.room ≡ room_for_five) × ((log_of room_for_five b.pile ≡ log) × (length b.pile ≡ count)))

gives : (calls : List Call) (reports : List Report) (words log : List ℕ) (count : ℕ)
    → book_reports (open_book four_by_three room_for_five) calls ≡ reports → LeftAs calls words log count
    → Gives calls reports words log count
gives calls reports words log count told (are_words, (room, (are-entries, height))) =
    record {
      book_reports_fact = told;
      book_words = are_words;
      book_log = are-entries;
      plate_reports_fact = λ l e. (as_book calls l e).0 ∙ told;
      plate_words = λ l e. (as_book calls l e).1.words ∙ are_words;
      plate_log = λ l e. (as_book calls l e).1.entries ∙ rw room are-entries;
      plate_count = λ l e. (as_book calls l e).1.count ∙ height;
    }

-- PUTS AND AN UNDO
put_reports_lem : book_reports (open_book four_by_three room_for_five) puts ≡ put_reports
unfolding book_reports book_step book_put book_put_by book_undo book_undo_of book_show book_show_by ask_check place_check shape_check
    radius_check refuse_if views_check plain_values plain_mattes plain_sum list_to weight share_for rest_for area tap box_tap box convolved
    one shift sum within same shown_value shown_matte nearest nearest_even
put_reports_lem = refl

put_left : LeftAs puts put_words put_log 3
unfolding book_after book_step book_put book_put_by book_undo book_undo_of book_show book_show_by ask_check place_check shape_check radius_check
    refuse_if views_check log_of from_bottom
put_left = (refl, (refl, (refl, refl)))

-- A FILL
layer_reports_lem : book_reports (open_book four_by_three room_for_five) layer ≡ layer_reports
unfolding book_reports book_step book_put book_put_by book_undo book_undo_of book_fill book_fill_by book_show book_show_by ask_check place_check
    shape_check radius_check refuse_if inputs_check layer_check any_of is_between lawful_lens filled blur views_check plain_values
    plain_mattes plain_sum list_to weight share_for rest_for area tap sum within same shown_value shown_matte nearest nearest_even
layer_reports_lem = refl

layer-left : LeftAs layer layer_words layer_log 0
unfolding book_after book_step book_put book_put_by book_undo book_undo_of book_fill book_fill_by book_show book_show_by ask_check place_check
    shape_check radius_check refuse_if inputs_check layer_check any_of is_between lawful_lens filled blur nearest views_check list_to log_of
    from_bottom
layer-left = (refl, (refl, (refl, refl)))

-- MARKS
hexagon_cells_lem :
    let grid = (book_after (open_book four_by_three room_for_five) hexagon).grid in
    map (λ (c : ℕ × ℕ). grid_cell four_by_three grid c.0) hexagon_cells ≡ map (λ (c : ℕ × ℕ). c.1) hexagon_cells
unfolding book_after book_step book_put book_put_by ask_check place_check shape_check radius_check refuse_if grid_cell on_cell pixel_marks
    in_both marks tap_marks hexagon_marks outline_marks line_marks flipped centre_marks scaled box_marks box_grid marks_to choose sign
    minus share_for rest_for area tap sum within same
hexagon_cells_lem = refl

-- each of them is a cell of the planes
unfoldable all_below : ℕ → List (ℕ × ℕ) → Bool
all_below n [] = true
all_below n (c ∷ cs) = pick (ltb c.0 n) (all_below n cs) false

cells_as : (n : ℕ) (f g : ℕ → ℕ) → ((k : ℕ) → k < n → f k ≡ g k) → (cells : List (ℕ × ℕ)) → all_below n cells ≡ true
    → map (λ (c : ℕ × ℕ). f c.0) cells ≡ map (λ (c : ℕ × ℕ). g c.0) cells
unfolding all_below
cells_as n f g h [] below = refl
cells_as n f g h (c ∷ cs) below =
    by_test (ltb c.0 n)
    (λ t.
    let rest = cells_as n f g h cs (rw t at below) in
    λ i. h c.0 (ltb-true c.0 n t) i ∷ rest i)
    (λ t. true-not (sym (rw t at below)))

planes_as : (l : Lent) → lengths_of l ≡ lent_lengths 2548 12 5 → (k : ℕ) → k < 2548
    → get_or (plate_after (left_by (open_call four_by_three l)) hexagon).buffers.planes k 0
    ≡ grid_cell four_by_three (book_after (open_book four_by_three room_for_five) hexagon).grid k
unfolding book_after book_step book_put book_put_by ask_check place_check shape_check radius_check refuse_if
planes_as l e = (as_book hexagon l e).1.each_cell

hexagon_below : all_below 2548 hexagon_cells ≡ true
unfolding all_below
hexagon_below = refl

pub worked : Worked
worked =
    record {
      of_puts = gives puts put_reports put_words put_log 3 put_reports_lem put_left;
      of_layer = gives layer layer_reports layer_words layer_log 0 layer_reports_lem layer-left;
      of_hexagon = record {
        book_cells = hexagon_cells_lem;
        plate_cells = λ l e. cells_as 2548 _ _ (planes_as l e) hexagon_cells hexagon_below ∙ hexagon_cells_lem;
      };
    }
