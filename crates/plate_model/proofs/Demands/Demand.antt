-- DEMAND 3: for every accepted open and every list of calls the plate reports what the notebook reports and holds what it
-- holds. DEMAND 2: whatever calls it had, what it shows is plain spreading.
use Rattle.std.specs.Prelude.{Result, Ok, Err}
use mathlib.Core.Path.{◌≡◌, refl, ap, ◌∙◌}
use native.Mathlib.Omega.{arith}
use mathlib.Core.List.{List, [], ◌∷◌, ◌++◌}
use Prim.Native.Nat.{ℕ, zero, suc, ◌*◌, ◌≤◌, ◌<◌}
use lib.Dec.{lit<}
use lib.ListN.{get_or, length, replicate}
use Rattle.kernels_model.specs.Rounding.{shown_value, shown_matte}
use Rattle.plate_model.specs.Layout.{Size, padded, places, sums_in_all}
use Rattle.plate_model.specs.Word.{Pixel, empty, Entry}
use Rattle.plate_model.specs.Refusal.{Refusal, Lengths, Outcome, refusal_number, views_check, open_check}
use Rattle.plate_model.specs.Refusal.{show_check, kept_check, show_kept_check}
use Rattle.plate_model.specs.Lent.{state_of, Lent, lengths_of, Views, Canvas, Ask, ask, inputs}
use Rattle.kernels_model.specs.Listed.{zeros, list_to}
use Rattle.plate_model.specs.Calls.{Left, refused, answer_of, put_by, put_call, undo_by, undo_call, sum_at, shown, show_by}
use Rattle.plate_model.specs.Calls.{show_call, open_call}
use Rattle.plate_model.specs.Kept.{kept_read, canvas_first, put_kept_by, put_kept_call, undo_kept_by, undo_kept_call, show_kept_by}
use Rattle.plate_model.specs.Kept.{show_kept_call}
use Rattle.plate_model.specs.Plain.{matte_of, light_of, plain_sum, plain_sums, plain_values, plain_mattes}
use Rattle.plate_model.specs.Notebook.{Book, book_of, open_book, both, Report, plain, BookLeft, book_show_by, book_show}
use Rattle.plate_model.specs.Notebook.{book_kept, canvas_with, book_put_kept, book_undo_kept, book_show_kept}
use Rattle.plate_model.specs.Lists.{Byte, codes, Call, Plate, left_by, put_it, undo_it, fill_it, show_it, put_kept_it, undo_kept_it}
use Rattle.plate_model.specs.Lists.{show_kept_it, step_of, seen_by, shown_to, plate_step, book_step, plate_reports, plate_after}
use Rattle.plate_model.specs.Lists.{book_reports, book_after, Holds, Demand3, Demand2}
use Rattle.plate_model.proofs.Checks.Rows.{refusal_some, by_check}
use Rattle.plate_model.proofs.Checks.Conditions.{length_checks}
use Rattle.plate_model.proofs.Checks.Passed.{length_pass, sizes_pass}
use Rattle.plate_model.proofs.Demands.PlainSums.{show_fact}
use Rattle.plate_model.proofs.Numbers.Lists.{list_to_ext}
use Rattle.plate_model.proofs.Demands.Logs.{log_from_bottom}
use Rattle.plate_model.proofs.Demands.Mirror.{Mirrored, held_by, mirror, Agree, agree_still, agree_refused, put_agrees}
use Rattle.plate_model.proofs.Demands.Mirror.{undo_agrees}
use Rattle.plate_model.proofs.Demands.Fills.{fill_agrees, open_kept, open_mirror}
use Rattle.plate_model.specs.Fixed.{planes_in_all}
use Rattle.kernels_model.specs.Fixed.{planes_each}
use Rattle.plate_model.specs.declared.change.Change.{Change}

codes_small : (bs : List Byte) (i : ℕ) → get_or (codes bs) i 0 < 256
codes_small [] i = lit< tt
codes_small (b ∷ bs) zero = b.small
codes_small (b ∷ bs) (suc i) = codes_small bs i

module _ (z : Size) (room : ℕ) (planes : List ℕ) (grid : List Pixel) (pile : List Entry)
    (kept : Mirrored z room planes grid pile) where
  -- SHOW
  sums : (i : ℕ) → i < places z
      → (sum_at z planes 0 i ≡ plain_sum z grid light_of i) × (sum_at z planes planes_each i ≡ plain_sum z grid matte_of i)
  sums = show_fact z planes grid kept.lawful kept.cells_count kept.each_cell kept.grid_fits

  pub sums_plain : list_to (sum_at z planes 0) (places z) ++ list_to (sum_at z planes planes_each) (places z) ≡ plain_sums z grid
  unfolding plain_sums
  sums_plain =
      let light = list_to_ext _ _ (places z) (λ i h. (sums i h).0) in
      let matte = list_to_ext _ _ (places z) (λ i h. (sums i h).1) in
      λ j. light j ++ matte j

  pub values_plain : list_to (λ i. shown_value (sum_at z planes 0 i) (sum_at z planes planes_each i)) (places z) ≡ plain_values z grid
  unfolding plain_values
  values_plain = list_to_ext _ _ (places z) (λ i h. rw ((sums i h).0, (sums i h).1))

  pub mattes_plain : list_to (λ i. shown_matte (sum_at z planes planes_each i)) (places z) ≡ plain_mattes z grid
  unfolding plain_mattes
  mattes_plain = list_to_ext _ _ (places z) (λ i h. rw (sums i h).1)

  -- a refused show is compared by its number alone
  seen_refused : (n : ℕ) (v : Views) → 1 ≤ n → seen_by n 0 v ≡ plain n 0
  unfolding seen_by
  seen_refused zero v some = absurd (omega arith)
  seen_refused (suc n) v some = refl

  show_by_fact : (v : Views) (o : Outcome)
      → Agree z room
      (shown_to (mirror z room planes grid pile) (show_by o (state_of z (length pile)) planes v))
      (book_show_by o (book_of z room grid pile))
  unfolding show_by book_show_by seen_by
  show_by_fact v (Ok tt) =
      agree_still z room planes grid pile kept _ _
      (λ j. record { number = 0; marks = 0; pictures = both (values_plain j) (mattes_plain j) })
  show_by_fact v (Err f) = agree_still z room planes grid pile kept _ _ (seen_refused (refusal_number f) v (refusal_some f))

  -- a plate of its own calls is refused for its views alone
  pub show_checked : (v : Views)
      → show_check (state_of z (length pile)) (length planes) (length v.scratch) (length v.values) (length v.mattes)
      ≡ views_check z (length v.scratch) (length v.values) (length v.mattes)
  unfolding show_check
  show_checked v =
      sizes_pass z _ kept.lawful ∙ length_pass (length planes) (planes_in_all * padded z) _ kept.cells_count

  pub show_agrees : (v : Views)
      → Agree z room
      (shown_to (mirror z room planes grid pile) (show_call (state_of z (length pile)) planes v))
      (book_show (book_of z room grid pile) v)
  unfolding show_call book_show
  show_agrees v =
      rw (show_checked v) (show_by_fact v (views_check z (length v.scratch) (length v.values) (length v.mattes)))

  show_kept : (v : Views) → views_check z (length v.scratch) (length v.values) (length v.mattes) ≡ Ok tt
      → show_call (state_of z (length pile)) planes v
      ≡ shown (answer_of (Ok tt) 0 (state_of z (length pile))) (zeros (length v.scratch)) (plain_values z grid)
      (plain_mattes z grid)
  unfolding show_call show_by
  show_kept v e = rw (show_checked v, e, values_plain, mattes_plain)

  -- THE SECOND FORMS
  -- a plate of its own calls is refused for sums and pictures alone
  canvas_checked : (k : Canvas) → canvas_first z k ≡ canvas_with (book_of z room grid pile) k
  unfolding kept_check
  canvas_checked k = sizes_pass z _ kept.lawful

  -- a second form is the first, or refused for them
  kept_agrees : (by : Result Change Refusal → Left)
      → ((f : Refusal) → by (Err f) ≡ refused f (state_of z (length pile)) (held_by room planes grid pile))
      → (o : Outcome) (r : Result Change Refusal) (t : BookLeft) → Agree z room (step_of (by r)) t
      → Agree z room (step_of (by (kept_read o r))) (book_kept o (book_of z room grid pile) t)
  unfolding kept_read book_kept
  kept_agrees by refuses (Ok tt) r t first = first
  kept_agrees by refuses (Err f) r t first = rw (refuses f) (agree_refused z room planes grid pile kept f)

  pub put_kept_agrees : (a : Ask) → a.opacity < 256 → (k : Canvas)
      → Agree z room
      (step_of (put_kept_call (state_of z (length pile)) a (held_by room planes grid pile) k).call)
      (book_put_kept (book_of z room grid pile) a k)
  unfolding put_kept_call put_kept_by book_put_kept put_call put_by
  put_kept_agrees a byte k =
      rw (canvas_checked k)
      (kept_agrees (λ r. put_by r (state_of z (length pile)) (held_by room planes grid pile)) (λ f. refl) _ _ _
      (put_agrees z room planes grid pile kept a byte))

  pub undo_kept_agrees : (k : Canvas)
      → Agree z room
      (step_of (undo_kept_call (state_of z (length pile)) (held_by room planes grid pile) k).call)
      (book_undo_kept (book_of z room grid pile) k)
  unfolding undo_kept_call undo_kept_by book_undo_kept undo_call undo_by
  undo_kept_agrees k =
      rw (canvas_checked k)
      (kept_agrees (λ r. undo_by r (state_of z (length pile)) (held_by room planes grid pile)) (λ f. refl) _ _ _
      (undo_agrees z room planes grid pile kept))

  pub show_kept_agrees : (v : Views) (sums : List ℕ)
      → Agree z room
      (shown_to (mirror z room planes grid pile) (show_kept_call (state_of z (length pile)) planes v sums).call)
      (book_show_kept (book_of z room grid pile) v sums)
  unfolding show_kept_call show_kept_by show_kept_check book_show_kept book_show book_kept
  show_kept_agrees v sums =
      rw (sizes_pass z _ kept.lawful, show_checked v)
      (by_check (length_checks (length sums) (sums_in_all z))
      (λ wrong r. rw (r _, r (Ok tt)) (unfold book_show_by in (show_by_fact v (Err Lengths))))
      (λ right r. rw (r _, r (Ok tt))
      (show_by_fact v (views_check z (length v.scratch) (length v.values) (length v.mattes)))))

  -- ONE CALL
  pub step_agrees : (c : Call)
      → Agree z room (plate_step (mirror z room planes grid pile) c) (book_step (book_of z room grid pile) c)
  unfolding plate_step book_step
  step_agrees (put_it x y v a s r) = put_agrees z room planes grid pile kept (ask x y v a.code s r.code) a.small
  step_agrees undo_it = undo_agrees z room planes grid pile kept
  step_agrees (fill_it o s vs bs zs) = fill_agrees z room planes grid pile kept o s (inputs vs (codes bs) zs) (codes_small bs)
  step_agrees (show_it v) = show_agrees v
  step_agrees (put_kept_it x y v a s r k) = put_kept_agrees (ask x y v a.code s r.code) a.small k
  step_agrees (undo_kept_it k) = undo_kept_agrees k
  step_agrees (show_kept_it v ns) = show_kept_agrees v ns

  -- what is compared after a list
  kept_holds : Holds (mirror z room planes grid pile) (book_of z room grid pile)
  kept_holds =
      record {
        sizes = refl;
        cells = kept.cells_count;
        each_cell = kept.each_cell;
        words = refl;
        entries = log_from_bottom room pile kept.height_fits;
        count = refl;
      }

-- A LIST OF CALLS, from any plate that mirrors a notebook
-- the reports agree, and the plate still mirrors the notebook
pub record Followed (room : ℕ) (calls : List Call) (p : Plate) (b : Book) : Type 0 where
  pub planes : List ℕ
  pub grid : List Pixel
  pub pile : List Entry
  pub same_reports : plate_reports p calls ≡ book_reports b calls
  pub same_plate : plate_after p calls ≡ mirror b.size room planes grid pile
  pub same_book : book_after b calls ≡ book_of b.size room grid pile
  pub kept : Mirrored b.size room planes grid pile

pub lists_from : (calls : List Call) (z : Size) (room : ℕ) (planes : List ℕ) (grid : List Pixel) (pile : List Entry)
    → Mirrored z room planes grid pile → Followed room calls (mirror z room planes grid pile) (book_of z room grid pile)
unfolding plate_reports plate_after book_reports book_after
lists_from [] z room planes grid pile kept =
    record {
      planes = planes;
      grid = grid;
      pile = pile;
      same_reports = refl;
      same_plate = refl;
      same_book = refl;
      kept = kept;
    }
lists_from (c ∷ cs) z room planes grid pile kept =
    let a = step_agrees z room planes grid pile kept c in
    let rest = lists_from cs z room a.planes a.grid a.pile a.kept in
    record {
      planes = rest.planes;
      grid = rest.grid;
      pile = rest.pile;
      same_reports = rw (a.same_report, a.same_plate, a.same_book)
          (ap (λ (rs : List Report). (book_step (book_of z room grid pile) c).report ∷ rs) rest.same_reports);
      same_plate = rw a.same_plate rest.same_plate;
      same_book = rw a.same_book rest.same_book;
      kept = rest.kept;
    }

-- and so from every accepted open
pub opened : (z : Size) (l : Lent) (calls : List Call) → open_check z (lengths_of l) ≡ Ok tt
    → Followed (length l.log) calls (left_by (open_call z l)) (open_book z (length l.log))
opened z l calls e =
    rw (open_mirror z l e)
    (lists_from calls z (length l.log) (zeros (length l.planes)) (replicate (places z) empty) [] (open_kept z l e))

pub demand_3 : Demand3
demand_3 z l calls e =
    let f = opened z l calls e in (
      f.same_reports,
      rw (f.same_plate, f.same_book) (kept_holds z (length l.log) f.planes f.grid f.pile f.kept),
    )

pub demand_2 : Demand2
demand_2 z l calls v e g =
    let f = opened z l calls e in
    rw (f.same_plate, f.same_book)
    (show_kept z (length l.log) f.planes f.grid f.pile f.kept v g)
