-- The mark counts of the reports: an accepted put or undo reports the marks of the shape that left plus those of the shape that
-- came, which are 16 to 40; every other report has none.
use Rattle.std.specs.Prelude.{Ok, Err}
use mathlib.Core.Path.{◌≡◌, refl}
use mathlib.Core.List.{List, [], ◌∷◌}
use Prim.Native.Nat.{ℕ, ◌+◌, ◌*◌, ◌≤◌}
use native.Mathlib.Omega.{arith}
use lib.ListN.{length}
use Rattle.kernels_model.specs.declared.shape.Shape.{Shape}
use Rattle.kernels_model.specs.Shape.{shape_of, count_of}
use Rattle.kernels_model.specs.declared.lens.Lens.{Lens}
use Rattle.kernels_model.proofs.Taps.ShapeNumbers.{count_few}
use Rattle.plate_model.specs.Layout.{Size}
use Rattle.plate_model.specs.Word.{Pixel, Entry}
use Rattle.plate_model.specs.Refusal.{Refusal, refusal_number, Outcome, ask_check}
use Rattle.plate_model.specs.Lent.{Ask, ask, Inputs, inputs, Views}
use Rattle.plate_model.specs.Asked.{asked_place, asked_pixel, known_shape}
use Rattle.plate_model.specs.Plain.{pixel_at}
use Rattle.plate_model.specs.Notebook.{Book, book_of, Report, plain, book_put_by, book_put, book_undo_of, book_undo, book_fill_by}
use Rattle.plate_model.specs.Notebook.{book_fill, book_show_by, book_show, BookLeft, book_kept, book_put_kept, book_undo_kept}
use Rattle.plate_model.specs.Notebook.{book_show_kept}
use Rattle.plate_model.specs.Lists.{Byte, codes, Call, put_it, undo_it, fill_it, show_it, put_kept_it, undo_kept_it, show_kept_it}
use Rattle.plate_model.specs.Lists.{plate_step, book_step}
use Rattle.plate_model.specs.Counts.{Few, CountOf, ListsCounted}
use Rattle.plate_model.proofs.Checks.Rows.{refusal_some}
use Rattle.plate_model.proofs.Demands.EachReports.{in_lists}
use Rattle.plate_model.proofs.Demands.Mirror.{Mirrored, mirror, put_agrees, undo_agrees}
use Rattle.plate_model.specs.Kernel.{mark_count}

-- NUMBERS
pub counts_few : (s t : Shape) → (16 ≤ count_of s + count_of t) × (count_of s + count_of t ≤ 40)
counts_few s t =
    let a = count_few s in
    let b = count_few t in
    (omega arith, omega arith)

-- WHAT EACH CALL REPORTS
-- an accepted call reports n marks, a refused one none
pub record Reported (n : ℕ) (r : Report) : Type 0 where
  pub if_accepted : r.number ≡ 0 → r.marks ≡ n
  pub if_refused : (r.number ≡ 0 → ⊥) → r.marks ≡ 0

reported_refused : (n : ℕ) (f : Refusal) → Reported n (plain (refusal_number f) 0)
reported_refused n f = record { if_accepted = λ e. absurd (omega (arith, refusal_some f)); if_refused = λ d. refl }

reported_accepted : (n : ℕ) → Reported n (plain 0 n)
reported_accepted n = record { if_accepted = λ e. refl; if_refused = λ d. absurd (d refl) }

-- on the notebook
book_put_lem : (b : Book) (a : Ask)
    → Reported (mark_count (pixel_at b.grid (asked_place b.size a)) + mark_count (asked_pixel a)) (book_put b a).report
unfolding book_put
book_put_lem b a = by (ask_check b.size (length b.pile) b.room a)
  where
    by : (o : Outcome)
        → Reported (mark_count (pixel_at b.grid (asked_place b.size a)) + mark_count (asked_pixel a)) (book_put_by o b a).report
    by (Ok tt) = unfold book_put_by in (reported_accepted _)
    by (Err f) = unfold book_put_by in (reported_refused _ f)

-- on a plate: "Both report the table's marks of the old shape plus those of the new"
module _ (z : Size) (room : ℕ) (planes : List ℕ) (grid : List Pixel) where
  pub put_reports_lem : (pile : List Entry) → Mirrored z room planes grid pile → (x y v : ℕ) (a : Byte) (s : ℕ) (r : Byte)
      → Reported (count_of (pixel_at grid (y * z.width + x)).shape + count_of (known_shape (shape_of s)))
      (plate_step (mirror z room planes grid pile) (put_it x y v a s r)).report
  unfolding plate_step
  put_reports_lem pile kept x y v a s r =
      let p = ask x y v a.code s r.code in
      rw (put_agrees z room planes grid pile kept p a.small).same_report (book_put_lem (book_of z room grid pile) p)

  pub undo_reports : (e : Entry) (pile : List Entry) → Mirrored z room planes grid (e ∷ pile)
      → (plate_step (mirror z room planes grid (e ∷ pile)) undo_it).report
      ≡ plain 0 (mark_count (pixel_at grid e.place) + mark_count e.pixel)
  unfolding plate_step book_undo book_undo_of
  undo_reports e pile kept = (undo_agrees z room planes grid (e ∷ pile) kept).same_report

-- 16 TO 40
few : (s t : Shape) (r : Report) → Reported (count_of s + count_of t) r → Few r
few s t r h = record { if_accepted = λ e. rw (h.if_accepted e) (counts_few s t); if_refused = h.if_refused }

undo_few : (z : Size) (room : ℕ) (grid : List Pixel) (pile : List Entry) → Few (book_undo_of z room grid pile).report
unfolding book_undo_of
undo_few z room grid [] = record { if_accepted = λ e. absurd (omega arith); if_refused = λ d. refl }
undo_few z room grid (e ∷ pile) = few (pixel_at grid e.place).shape e.pixel.shape _ (reported_accepted _)

fill_none : (c : Outcome) (b : Book) (o : Lens) (n : ℕ) (f : Inputs) → (book_fill_by c b o n f).report.marks ≡ 0
unfolding book_fill_by
fill_none (Ok tt) b o n f = refl
fill_none (Err g) b o n f = refl

show_none : (c : Outcome) (b : Book) → (book_show_by c b).report.marks ≡ 0
unfolding book_show_by
show_none (Ok tt) b = refl
show_none (Err g) b = refl

-- a second form counts as the first, and none where it is refused for its buffers
kept_few : (o : Outcome) (b : Book) (t : BookLeft) → Few t.report → Few (book_kept o b t).report
unfolding book_kept
kept_few (Ok tt) b t h = h
kept_few (Err f) b t h = record { if_accepted = λ e. absurd (omega (arith, refusal_some f)); if_refused = λ d. refl }

kept_none : (o : Outcome) (b : Book) (t : BookLeft) → t.report.marks ≡ 0 → (book_kept o b t).report.marks ≡ 0
unfolding book_kept
kept_none (Ok tt) b t h = h
kept_none (Err f) b t h = refl

put_few : (b : Book) (a : Ask) → Few (book_put b a).report
put_few b a = few (pixel_at b.grid (asked_place b.size a)).shape (known_shape a.shape) _ (book_put_lem b a)

book_undo_few : (b : Book) → Few (book_undo b).report
unfolding book_undo
book_undo_few b = undo_few b.size b.room b.grid b.pile

book_show_none : (b : Book) (v : Views) → (book_show b v).report.marks ≡ 0
unfolding book_show
book_show_none b v = show_none _ b

step_counted : (b : Book) (c : Call) → CountOf c (book_step b c).report
unfolding CountOf book_step book_fill book_put_kept book_undo_kept book_show_kept
step_counted b (put_it x y v a s r) = put_few b (ask x y v a.code s r.code)
step_counted b undo_it = book_undo_few b
step_counted b (fill_it o s vs bs zs) = fill_none _ b o s (inputs vs (codes bs) zs)
step_counted b (show_it v) = book_show_none b v
step_counted b (put_kept_it x y v a s r k) = kept_few _ b _ (put_few b (ask x y v a.code s r.code))
step_counted b (undo_kept_it k) = kept_few _ b _ (book_undo_few b)
step_counted b (show_kept_it v sums) = kept_none _ b _ (book_show_none b v)

pub plate_counted : ListsCounted
plate_counted = in_lists (λ z c r. CountOf c r) step_counted
