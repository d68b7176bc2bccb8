-- The paper's worked example: the text that the definitions give its input, computed, and so the machine's.
use mathlib.Core.Path.{◌≡◌, refl, ◌∙◌}
use mathlib.Core.List.{List, [], ◌∷◌}
use Prim.Native.Nat.{ℕ}
use lib.Dec.{T, ltb, lit<}
use Rattle.kernels_model.specs.Choice.{within, same}
use Rattle.kernels_model.specs.Sum.{sum}
use Rattle.kernels_model.specs.Tap.{tap, area, share_for, rest_for, weight}
use Rattle.kernels_model.specs.Rounding.{nearest, nearest_even, shown_value, shown_matte}
use Rattle.plate_model.specs.Refusal.{refuse_if, sizes_check, place_check, shape_check, radius_check, ask_check}
use Rattle.kernels_model.specs.Listed.{list_to}
use Rattle.plate_model.specs.Plain.{plain_sum, plain_values, plain_mattes}
use Rattle.plate_model.specs.Notebook.{book_put_by, book_put, book_undo_of, book_undo, book_show_by}
use Rattle.plate_model.specs.Lists.{Byte, codes}
use Rattle.records_model.specs.Text.{digits_by, decimal, done_line, head_line, cell_text, row_text, rows_text, show_text}
use Rattle.records_model.specs.Record.{record_of, items_by, items_of}
use Rattle.records_model.specs.Run.{opens, answer_text, picture_text, report_text, act, text_from, paper_text}
use Rattle.records_model.specs.Machine.{machine_text}
use Rattle.records_model.proofs.Statements.EndToEnd.{end_to_end}

abbrev byte : (n : ℕ) → T (ltb n 256) → Byte
byte n small = record { code = n; small = lit< small }

-- "01 03 00 01 00 01 02 01 00 00 00 64 00 FF 00 01 02 00 00 00 00 28 00 FF 00 00 04 03 04"
abbrev pub input : List Byte
input =
    byte 1 tt ∷ byte 3 tt ∷ byte 0 tt ∷ byte 1 tt ∷ byte 0 tt ∷ byte 1 tt ∷
    byte 2 tt ∷ byte 1 tt ∷ byte 0 tt ∷ byte 0 tt ∷ byte 0 tt ∷ byte 100 tt ∷ byte 0 tt ∷ byte 255 tt ∷ byte 0 tt ∷ byte 1 tt ∷
    byte 2 tt ∷ byte 0 tt ∷ byte 0 tt ∷ byte 0 tt ∷ byte 0 tt ∷ byte 40 tt ∷ byte 0 tt ∷ byte 255 tt ∷ byte 0 tt ∷ byte 0 tt ∷
    byte 4 tt ∷ byte 3 tt ∷ byte 4 tt ∷
    []

-- the five lines that the paper prints
abbrev pub printed : List ℕ
printed =
    112 ∷ 108 ∷ 97 ∷ 116 ∷ 101 ∷ 32 ∷ 51 ∷ 32 ∷ 49 ∷ 10 ∷
    52 ∷ 54 ∷ 47 ∷ 50 ∷ 53 ∷ 53 ∷ 32 ∷ 49 ∷ 48 ∷ 48 ∷ 47 ∷ 50 ∷ 56 ∷ 32 ∷ 49 ∷ 48 ∷ 48 ∷ 47 ∷ 50 ∷ 56 ∷ 10 ∷
    112 ∷ 108 ∷ 97 ∷ 116 ∷ 101 ∷ 32 ∷ 51 ∷ 32 ∷ 49 ∷ 10 ∷
    49 ∷ 48 ∷ 48 ∷ 47 ∷ 50 ∷ 56 ∷ 32 ∷ 49 ∷ 48 ∷ 48 ∷ 47 ∷ 50 ∷ 56 ∷ 32 ∷ 49 ∷ 48 ∷ 48 ∷ 47 ∷ 50 ∷ 56 ∷ 10 ∷
    100 ∷ 111 ∷ 110 ∷ 101 ∷ 32 ∷ 54 ∷ 10 ∷
    []

pub worked_text : paper_text (codes input) ≡ printed
unfolding paper_text text_from act opens items_of items_by record_of sizes_check refuse_if book_put book_put_by
    book_undo book_undo_of book_show_by ask_check place_check shape_check radius_check report_text answer_text
    picture_text show_text head_line rows_text row_text cell_text done_line decimal digits_by plain_values plain_mattes plain_sum list_to
    weight share_for rest_for area tap sum within same shown_value shown_matte nearest nearest_even
worked_text = refl

-- so the machine writes it too
pub worked_machine : machine_text (codes input) ≡ printed
worked_machine = end_to_end input (lit< tt) ∙ worked_text
