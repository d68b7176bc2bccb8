-- Refresh under the brush: kept sums and pictures that are those of the plate before a call are those of the plate after it, call
-- after call; and on a plate of its own calls what is kept is plain spreading.
use Rattle.std.specs.Prelude.{Result, Ok, Err}
use mathlib.Core.Path.{◌≡◌, refl, ap, sym, ◌∙◌}
use mathlib.Core.List.{List, [], ◌∷◌, ◌++◌, map}
use Prim.Native.Nat.{ℕ, ◌<◌}
use native.Mathlib.Omega.{arith}
use lib.ListN.{length, length-append}
use Rattle.kernels_model.specs.Fixed.{planes_each}
use Rattle.plate_model.specs.Layout.{Size, places, sums_in_all}
use Rattle.plate_model.specs.Lent.{State, Ask, ask, Lent, lengths_of, Views, canvas}
use Rattle.plate_model.specs.Marks.{exchanged}
use Rattle.plate_model.specs.Refusal.{Refusal, Outcome, outcome_number, canvas_check, open_check, show_check}
use Rattle.plate_model.specs.Refusal.{show_kept_check, kept_check}
use Rattle.plate_model.specs.Change.{Change}
use Rattle.kernels_model.specs.Listed.{list_to}
use Rattle.plate_model.specs.Calls.{open_call, changed, put_by, put_call, undo_by, undo_call, sum_at, show_by}
use Rattle.plate_model.specs.Plain.{plain_sums, plain_values, plain_mattes}
use Rattle.plate_model.specs.Notebook.{open_book}
use Rattle.plate_model.specs.Kept.{kept_read, canvas_first, canvas_by, put_kept_by, put_kept_call, undo_kept_by, undo_kept_call}
use Rattle.plate_model.specs.Kept.{sums_of, sums_by, show_kept_by, show_kept_call}
use Rattle.plate_model.specs.Painting.{canvas_of, StaysFresh, KeptCall, kept_put, kept_undo, Painting, paint, paint_all}
use Rattle.plate_model.specs.Painting.{shown_canvas, shown_painting, AsMuch, PaintsFresh, first_form, PaintsPlain}
use Rattle.plate_model.specs.Lists.{Call, Plate, left_by, plate_step, plate_after, book_after}
use Rattle.plate_model.specs.Table.{LawfulSize}
use Rattle.plate_model.specs.Ready.{Changeable}
use Rattle.plate_model.proofs.Numbers.Lists.{length-list_to}
use Rattle.plate_model.proofs.Checks.Rows.{accepted-numbered, check_passes}
use Rattle.plate_model.proofs.Checks.Accepted.{show_returns}
use Rattle.plate_model.proofs.Checks.Passed.{sizes_passed, sizes_pass}
use Rattle.plate_model.proofs.Checks.Conditions.{canvas_checks}
use Rattle.plate_model.proofs.Changing.Changes.{no_change, put_ready, undo_ready}
use Rattle.plate_model.proofs.Laying.LaidCells.{length_exchanged}
use Rattle.plate_model.proofs.Demands.Exchanges.{mended-fresh}
use Rattle.plate_model.proofs.Demands.Demand.{sums_plain, values_plain, mattes_plain, opened}

-- ONE CALL
-- what comes after the refusals of sums and pictures is what the first form reads
read_first : (o : Outcome) (r : Result Change Refusal) (c : Change) → kept_read o r ≡ Ok c → r ≡ Ok c
unfolding kept_read
read_first (Err f) r c e = no_change f c e
read_first (Ok tt) r c e = e

-- a call that leaves the planes as they are where it reads no change, and else the pixels exchanged
canvas-fresh : (z : Size) (planes : List ℕ) (planes' : Result Change Refusal → List ℕ) → ((f : Refusal) → planes' (Err f) ≡ planes)
    → ((c : Change) → planes' (Ok c) ≡ exchanged z c.place c.old c.new planes)
    → (r : Result Change Refusal) → ((c : Change) → r ≡ Ok c → Changeable z c (length planes))
    → canvas_by r z (canvas_of z planes) ≡ canvas_of z (planes' r)
unfolding canvas_by
canvas-fresh z planes planes' still moved (Err f) ok = rw (still f)
canvas-fresh z planes planes' still moved (Ok c) ok = rw (moved c) (mended-fresh z c planes (ok c refl))

-- a put and an undo are such calls
put_fresh : (s : State) (a : Ask) (l : Lent) → a.opacity < 256 →
    let after = put_kept_call s a l (canvas_of s.size l.planes) in
    after.canvas ≡ canvas_of s.size after.call.buffers.planes
unfolding put_kept_call put_kept_by put_by changed
put_fresh s a l byte =
    canvas-fresh s.size l.planes (λ r. (put_by r s l).buffers.planes) (λ f. refl) (λ c. refl) _
    (λ c e. (put_ready s a l byte c (read_first _ _ c e)).changeable)

undo_fresh : (s : State) (l : Lent) →
    let after = undo_kept_call s l (canvas_of s.size l.planes) in
    after.canvas ≡ canvas_of s.size after.call.buffers.planes
unfolding undo_kept_call undo_kept_by undo_by changed
undo_fresh s l =
    canvas-fresh s.size l.planes (λ r. (undo_by r s l).buffers.planes) (λ f. refl) (λ c. refl) _
    (λ c e. (undo_ready s l c (read_first _ _ c e)).changeable)

pub stays_fresh : StaysFresh
stays_fresh = record { by_put = put_fresh; by_undo = undo_fresh }

-- LISTS OF PUTS AND UNDOS
-- what is kept is the plate's
abbrev Fresh : Painting → Type 0
Fresh p = p.canvas ≡ canvas_of p.plate.state.size p.plate.buffers.planes

-- neither call changes the size, nor how many cells the planes have
abbrev StillAs : Plate → Plate → Type 0
StillAs p q = (q.state.size ≡ p.state.size) × (length q.buffers.planes ≡ length p.buffers.planes)

put_still : (r : Result Change Refusal) (p : Plate) → StillAs p (left_by (put_by r p.state p.buffers))
unfolding put_by changed
put_still (Err f) p = (refl, refl)
put_still (Ok c) p = (refl, length_exchanged p.state.size c.place c.old c.new p.buffers.planes)

undo_still : (r : Result Change Refusal) (p : Plate) → StillAs p (left_by (undo_by r p.state p.buffers))
unfolding undo_by changed
undo_still (Err f) p = (refl, refl)
undo_still (Ok c) p = (refl, length_exchanged p.state.size c.place c.old c.new p.buffers.planes)

paint_still : (p : Painting) (d : KeptCall) → StillAs p.plate (paint p d).plate
unfolding paint put_kept_call put_kept_by undo_kept_call undo_kept_by
paint_still p (kept_put x y v a s r) = put_still _ p.plate
paint_still p kept_undo = undo_still _ p.plate

paints_still : (p : Painting) (changes : List KeptCall) → StillAs p.plate (paint_all p changes).plate
unfolding paint_all
paints_still p [] = (refl, refl)
paints_still p (d ∷ changes) =
    let first = paint_still p d in
    let rest = paints_still (paint p d) changes in
    (rest.0 ∙ first.0, rest.1 ∙ first.1)

-- one call keeps it so
paint-canvas : (p : Painting) (d : KeptCall) → Fresh p
    → (paint p d).canvas ≡ canvas_of p.plate.state.size (paint p d).plate.buffers.planes
unfolding paint
paint-canvas p (kept_put x y v a s r) e =
    rw e (put_fresh p.plate.state (ask x y v a.code s r.code) p.plate.buffers a.small)
paint-canvas p kept_undo e = rw e (undo_fresh p.plate.state p.plate.buffers)

paint-fresh : (p : Painting) (d : KeptCall) → Fresh p → Fresh (paint p d)
paint-fresh p d e = paint-canvas p d e
    ∙ ap (λ (z : Size). canvas_of z (paint p d).plate.buffers.planes) (sym (paint_still p d).0)

-- and so does a list of them
paints_kept : (p : Painting) (changes : List KeptCall) → Fresh p → Fresh (paint_all p changes)
unfolding paint_all
paints_kept p [] e = e
paints_kept p (d ∷ changes) e = paints_kept (paint p d) changes (paint-fresh p d e)

-- where a show of the second form is accepted, its check accepted
abbrev kept_checked : State → List ℕ → Views → List ℕ → Outcome
kept_checked s planes v sums =
    show_kept_check s (length planes) (length v.scratch) (length v.values) (length v.mattes) (length sums)

kept_checked_lem : (s : State) (planes : List ℕ) (v : Views) (sums : List ℕ)
    → (show_kept_call s planes v sums).call.answer.number ≡ 0 → kept_checked s planes v sums ≡ Ok tt
unfolding show_kept_call show_kept_by
kept_checked_lem s planes v sums e = accepted-numbered _ (sym (show_returns _ s planes v) ∙ e)

-- it leaves the state, and writes the plate's sums and pictures
kept_shown : (s : State) (planes : List ℕ) (v : Views) (sums : List ℕ) →
    let shown = show_kept_call s planes v sums in
    shown.call.answer.number ≡ 0 → (shown.call.answer.state ≡ s) × (shown_canvas shown ≡ canvas_of s.size planes)
unfolding show_kept_call show_kept_by
kept_shown s planes v sums e = rw (kept_checked_lem s planes v sums e) (unfold show_by sums_by in (refl, refl))

-- and its plate's size is lawful
kept_lawful : (s : State) (planes : List ℕ) (v : Views) (sums : List ℕ)
    → (show_kept_call s planes v sums).call.answer.number ≡ 0 → LawfulSize s.size
unfolding show_kept_check
kept_lawful s planes v sums e = (sizes_passed s.size _ (kept_checked_lem s planes v sums e)).0

-- a painting begins with what is the plate's
shown-fresh : (p : Plate) (v : Views) (sums : List ℕ) →
    let first = show_kept_call p.state p.buffers.planes v sums in
    first.call.answer.number ≡ 0 → Fresh (shown_painting p first)
shown-fresh p v sums e =
    let first = kept_shown p.state p.buffers.planes v sums e in
    first.1 ∙ ap (λ (s : State). canvas_of s.size p.buffers.planes) (sym first.0)

-- the check goes by the plate's size and by lengths alone
same_check : (s s' : State) → s'.size ≡ s.size → (planes scratch values mattes sums : ℕ)
    → show_kept_check s' planes scratch values mattes sums ≡ show_kept_check s planes scratch values mattes sums
unfolding show_kept_check show_check
same_check s s' e planes scratch values mattes sums = rw e

-- so on a plate of the same size, with as many cells, a show that is lent as much has the same answer
same_answer : (p q : Plate) (v v' : Views) (sums sums' : List ℕ) → StillAs p q → AsMuch v v' sums sums'
    → (show_kept_call q.state q.buffers.planes v' sums').call.answer.number
    ≡ (show_kept_call p.state p.buffers.planes v sums).call.answer.number
unfolding show_kept_call show_kept_by
same_answer p q v v' sums sums' still much =
    show_returns _ q.state q.buffers.planes v'
    ∙ rw (still.1, much.of_scratch, much.of_values, much.of_mattes, much.of_sums)
    (ap outcome_number (same_check p.state q.state still.0 _ _ _ _ _))
    ∙ sym (show_returns _ p.state p.buffers.planes v)

pub paints_fresh : PaintsFresh
paints_fresh p v sums changes e v' sums' much =
    let start = shown_painting p (show_kept_call p.state p.buffers.planes v sums) in
    let end = paint_all start changes in
    let size = ap (λ (s : State). s.size) (kept_shown p.state p.buffers.planes v sums e).0 in
    let still = paints_still start changes in
    let ok = same_answer p end.plate v v' sums sums' (still.0 ∙ size, still.1) much ∙ e in
    (ok, paints_kept start changes (shown-fresh p v sums e) ∙ sym (kept_shown _ _ v' sums' ok).1)

-- THE FIRST FORMS
-- sums and pictures of a plate have the lengths that are asked for
canvas-accepted : (z : Size) (planes : List ℕ) → LawfulSize z → canvas_first z (canvas_of z planes) ≡ Ok tt
unfolding kept_check canvas_check sums_of
canvas-accepted z planes law =
    sizes_pass z _ law
    ∙ check_passes (canvas_checks z _ _ _) (Ok tt) (both, (length-list_to _ (places z), length-list_to _ (places z)))
  where
    both : length (list_to (sum_at z planes 0) (places z) ++ list_to (sum_at z planes planes_each) (places z)) ≡ sums_in_all z
    both =
        length-append (list_to (sum_at z planes 0) (places z)) _
        ∙ omega (arith, length-list_to (sum_at z planes 0) (places z), length-list_to (sum_at z planes planes_each) (places z))

fresh-accepted : (p : Painting) → LawfulSize p.plate.state.size → Fresh p
    → canvas_first p.plate.state.size p.canvas ≡ Ok tt
fresh-accepted p law e = rw e (canvas-accepted p.plate.state.size p.plate.buffers.planes law)

-- so on a lawful plate a put and an undo of the second form leave the plate that those of the first form leave
paint_step : (p : Painting) (d : KeptCall) → LawfulSize p.plate.state.size → Fresh p
    → (paint p d).plate ≡ (plate_step p.plate (first_form d)).plate
unfolding paint plate_step put_kept_call put_kept_by put_call undo_kept_call undo_kept_by undo_call kept_read
paint_step p (kept_put x y v a s r) law e = rw (fresh-accepted p law e)
paint_step p kept_undo law e = rw (fresh-accepted p law e)

-- and so do lists of them
paint_plates : (p : Painting) (changes : List KeptCall) → LawfulSize p.plate.state.size → Fresh p
    → (paint_all p changes).plate ≡ plate_after p.plate (map first_form changes)
unfolding paint_all plate_after
paint_plates p [] law e = refl
paint_plates p (d ∷ changes) law e =
    paint_plates (paint p d) changes (rw (paint_still p d).0 law) (paint-fresh p d e)
    ∙ ap (λ (q : Plate). plate_after q (map first_form changes)) (paint_step p d law e)

-- one list of calls after another
after_append : (p : Plate) (calls more : List Call) → plate_after p (calls ++ more) ≡ plate_after (plate_after p calls) more
unfolding plate_after
after_append p [] more = refl
after_append p (c ∷ calls) more = after_append (plate_step p c).plate calls more

-- PLAIN SPREADING
-- the sums and pictures of a plate of its own calls are plain
canvas-plain : (z : Size) (l : Lent) (calls : List Call) → open_check z (lengths_of l) ≡ Ok tt →
    let p = plate_after (left_by (open_call z l)) calls in
    let grid = (book_after (open_book z (length l.log)) calls).grid in
    canvas_of p.state.size p.buffers.planes ≡ canvas (plain_sums z grid) (plain_values z grid) (plain_mattes z grid)
unfolding sums_of
canvas-plain z l calls e =
    let room = length l.log in
    let f = opened z l calls e in
    let sums = sums_plain z room f.planes f.grid f.pile f.kept in
    let values = values_plain z room f.planes f.grid f.pile f.kept in
    let mattes = mattes_plain z room f.planes f.grid f.pile f.kept in
    rw (f.same_plate, f.same_book) (λ i. canvas (sums i) (values i) (mattes i))

pub paints_plain : PaintsPlain
paints_plain z l calls v sums changes e ok =
    let new = left_by (open_call z l) in
    let p = plate_after new calls in
    let start = shown_painting p (show_kept_call p.state p.buffers.planes v sums) in
    let fresh = shown-fresh p v sums ok in
    let same : start.plate ≡ p =
    ap (λ (s : State). record { state = s; buffers = p.buffers }) (kept_shown p.state p.buffers.planes v sums ok).0 in
    let law : LawfulSize start.plate.state.size = rw same (kept_lawful p.state p.buffers.planes v sums ok) in
    let end : (paint_all start changes).plate ≡ plate_after new (calls ++ map first_form changes) =
    paint_plates start changes law fresh
    ∙ ap (λ (q : Plate). plate_after q (map first_form changes)) same
    ∙ sym (after_append new calls (map first_form changes)) in
    paints_kept start changes fresh
    ∙ ap (λ (q : Plate). canvas_of q.state.size q.buffers.planes) end
    ∙ canvas-plain z l (calls ++ map first_form changes) e
