-- What holds of each call on a notebook and its report holds of each call of a list on a plate: the notebook keeps its size, and
-- the plate reports what it does.
use mathlib.Core.List.{List, [], ◌∷◌}
use Prim.Native.Nat.{ℕ}
use lib.ListN.{length, replicate}
use Rattle.plate_model.specs.Layout.{Size, places}
use Rattle.plate_model.specs.Word.{Pixel, empty, Entry}
use Rattle.kernels_model.specs.Listed.{zeros}
use Rattle.plate_model.specs.Notebook.{Book, book_of, Report}
use Rattle.plate_model.specs.Lists.{Call, book_step, book_reports}
use Rattle.plate_model.specs.EachReport.{EachReport, InLists}
use Rattle.plate_model.proofs.Demands.Mirror.{Mirrored}
use Rattle.plate_model.proofs.Demands.Fills.{open_kept}
use Rattle.plate_model.proofs.Demands.Demand.{step_agrees, demand_3}

module _ (Such : Size → Call → Report → Type 0) (each : (b : Book) (c : Call) → Such b.size c (book_step b c).report) where
  book_lists : (calls : List Call) (z : Size) (room : ℕ) (planes : List ℕ) (grid : List Pixel) (pile : List Entry)
      → Mirrored z room planes grid pile → EachReport (Such z) calls (book_reports (book_of z room grid pile) calls)
  unfolding EachReport book_reports
  book_lists [] z room planes grid pile kept = tt
  book_lists (c ∷ cs) z room planes grid pile kept =
      let a = step_agrees z room planes grid pile kept c in (
        each (book_of z room grid pile) c,
        rw a.same_book (book_lists cs z room a.planes a.grid a.pile a.kept),
      )

  pub in_lists : InLists Such
  in_lists z l calls e =
      rw (demand_3 z l calls e).0
      (book_lists calls z (length l.log) (zeros (length l.planes)) (replicate (places z) empty) [] (open_kept z l e))
