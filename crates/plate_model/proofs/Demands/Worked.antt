-- The paper's record run as a list of calls: "01 03 00 01 00 01 02 01 00 00 00 64 00 FF 00 01 02 00 00 00 00 28 00 FF 00 00 04
-- 03 04". The notebook's reports of it, computed, and so the plate's.
use Rattle.std.specs.Prelude.{Ok}
use mathlib.Core.Path.{◌≡◌, refl, ◌∙◌}
use mathlib.Core.List.{List, [], ◌∷◌}
use Prim.Native.Nat.{ℕ}
use lib.Dec.{lit<}
use Rattle.kernels_model.specs.Choice.{within, same}
use Rattle.kernels_model.specs.Sum.{sum}
use Rattle.kernels_model.specs.Tap.{tap, area, share_for, rest_for, weight}
use Rattle.kernels_model.specs.Rounding.{nearest, nearest_even, shown_value, shown_matte}
use Rattle.plate_model.specs.Layout.{Size}
use Rattle.plate_model.specs.Refusal.{refuse_if, sizes_check, lent_check, place_check, shape_check, radius_check}
use Rattle.plate_model.specs.Refusal.{ask_check, views_check, open_check}
use Rattle.plate_model.specs.Lent.{Lent, lent, lengths_of, Views, views}
use Rattle.kernels_model.specs.Listed.{zeros, list_to}
use Rattle.plate_model.specs.Calls.{open_call}
use Rattle.plate_model.specs.Plain.{plain_sum, plain_values, plain_mattes}
use Rattle.plate_model.specs.Notebook.{open_book, both, Report, plain, book_put_by, book_put, book_undo_of, book_undo, book_show_by}
use Rattle.plate_model.specs.Notebook.{book_show}
use Rattle.plate_model.specs.Lists.{Byte, Call, put_it, undo_it, show_it, left_by, plate_reports, book_step, book_reports}
use Rattle.plate_model.proofs.Demands.Demand.{demand_3}

-- "open (W 2 bytes, H 2, R 1)": 3 × 1, reach 1; "The log has 64 entries."
abbrev pub three_by_one : Size
three_by_one = record { width = 3; height = 1; reach = 1 }

-- a padded plane has 11 × 9 cells
abbrev pub buffers : Lent
buffers = lent (zeros 1386) (zeros 3) (zeros 64)

abbrev pictures : Views
pictures = views (zeros 297) (zeros 3) (zeros 3)

abbrev byte_255 : Byte
byte_255 = record { code = 255; small = lit< tt }

abbrev byte_1 : Byte
byte_1 = record { code = 1; small = lit< tt }

abbrev byte_0 : Byte
byte_0 = record { code = 0; small = lit< tt }

-- put, put, show, undo, show
abbrev pub run : List Call
run = put_it 1 0 100 byte_255 0 byte_1 ∷ put_it 0 0 40 byte_255 0 byte_0 ∷ show_it pictures ∷ undo_it ∷ show_it pictures ∷ []

abbrev show_report : List ℕ → List ℕ → Report
show_report values mattes = record { number = 0; marks = 0; pictures = both values mattes }

-- "46/255 100/28 100/28" and "100/28 100/28 100/28"; a box and a box are 16 marks
abbrev pub run_reports : List Report
run_reports =
    plain 0 16
    ∷ plain 0 16
    ∷ show_report (46 ∷ 100 ∷ 100 ∷ []) (255 ∷ 28 ∷ 28 ∷ [])
    ∷ plain 0 16
    ∷ show_report (100 ∷ 100 ∷ 100 ∷ []) (28 ∷ 28 ∷ 28 ∷ [])
    ∷ []

pub book_run : book_reports (open_book three_by_one 64) run ≡ run_reports
unfolding book_reports book_step book_put book_put_by book_undo book_undo_of book_show book_show_by ask_check place_check shape_check
    radius_check refuse_if views_check plain_values plain_mattes plain_sum list_to weight share_for rest_for area tap sum within same
    shown_value shown_matte nearest nearest_even
book_run = refl

open_accepted : open_check three_by_one (lengths_of buffers) ≡ Ok tt
unfolding open_check sizes_check lent_check refuse_if
open_accepted = refl

-- so the plate reports it too
pub plate_run : plate_reports (left_by (open_call three_by_one buffers)) run ≡ run_reports
plate_run = (demand_3 three_by_one buffers run open_accepted).0 ∙ book_run
