-- What lists of calls are refused for: a call's own arguments and what it is lent besides the plate.
use Rattle.std.specs.Prelude.{Ok, Err}
use mathlib.Core.Path.{◌≡◌, refl}
use mathlib.Core.Logic.{◌≢◌, ◌⊎◌, inl, inr, ⊎_elim}
use mathlib.Core.List.{List, [], ◌∷◌}
use Prim.Native.Nat.{ℕ, ◌*◌, ◌<◌}
use native.Mathlib.Omega.{arith}
use lib.Dec.{lit<}
use lib.ListN.{length}
use Rattle.kernels_model.specs.Rows.{TableRow, FirstOf}
use Rattle.kernels_model.specs.declared.lens.Lens.{Lens}
use Rattle.plate_model.specs.Fixed.{scratch_planes}
use Rattle.plate_model.specs.Layout.{Size, padded, places, sums_in_all}
use Rattle.plate_model.specs.Word.{Pixel, Entry}
use Rattle.plate_model.specs.Lent.{Ask, ask, Inputs, inputs, Views, Canvas}
use Rattle.plate_model.specs.Refusal.{Refusal, Lengths, Outcome, refusal_number, outcome_number, ask_check}
use Rattle.plate_model.specs.Refusal.{inputs_check, layer_check, views_check, canvas_check}
use Rattle.plate_model.specs.Table.{InputsWrong, SeenWrong, SumsWrong, CanvasWrong}
use Rattle.plate_model.specs.Notebook.{Book, book_put_by, book_put, book_undo_of, book_undo, book_fill_by, book_fill, book_show_by}
use Rattle.plate_model.specs.Notebook.{book_show, BookLeft, book_kept, book_put_kept, book_undo_kept, book_show_kept}
use Rattle.plate_model.specs.Lists.{codes, Call, put_it, undo_it, fill_it, show_it, put_kept_it, undo_kept_it, show_kept_it, book_step}
use Rattle.plate_model.specs.ListRefusals.{OwnLentWrong, GivenInList, ListsRefused}
use Rattle.plate_model.proofs.Checks.Rows.{OutcomeBy, Checks, by_check, checks_both}
use Rattle.plate_model.proofs.Checks.Conditions.{length_checks, inputs_checks, canvas_checks}
use Rattle.plate_model.proofs.Demands.Answers.{ask_first, layer_first}
use Rattle.plate_model.proofs.Demands.EachReports.{in_lists}

-- NUMBERS
-- neither 1, 2, 3 nor 10: what a call is refused for that is lent right lengths
record Other (n : ℕ) : Type 0 where
  not_1 : n ≢ 1
  not_2 : n ≢ 2
  not_3 : n ≢ 3
  not_10 : n ≢ 10

accepted_other : Other 0
accepted_other =
    record { not_1 = λ e. omega arith; not_2 = λ e. omega arith; not_3 = λ e. omega arith; not_10 = λ e. omega arith }

above_other : (n : ℕ) → 3 < n → n ≢ 10 → Other n
above_other n p q = record { not_1 = λ e. omega arith; not_2 = λ e. omega arith; not_3 = λ e. omega arith; not_10 = q }

-- each refusal of the rows is such
unfoldable EachOther : List (TableRow Refusal) → Type 0
EachOther [] = Unit {0}
EachOther (r ∷ rows) = Other (refusal_number r.refusal) × EachOther rows

answer_other : (rows : List (TableRow Refusal)) (o : Outcome) → EachOther rows → OutcomeBy rows o → Other (outcome_number o)
unfolding EachOther FirstOf
answer_other [] o each e = rw e accepted_other
answer_other (r ∷ rows) o each (inl a) = rw a.1 each.0
answer_other (r ∷ rows) o each (inr a) = answer_other rows o each.1 a.1

-- 4 to 8 of a put
ask_other : (z : Size) (count room x y v a n r : ℕ) → Other (outcome_number (ask_check z count room (ask x y v a n r)))
unfolding EachOther
ask_other z count room x y v a n r =
    answer_other _ _ (
      above_other 4 (lit< tt) (λ e. omega arith),
      (
        above_other 5 (lit< tt) (λ e. omega arith),
        (
          above_other 6 (lit< tt) (λ e. omega arith),
          (above_other 7 (lit< tt) (λ e. omega arith), (above_other 8 (lit< tt) (λ e. omega arith), tt)),
        ),
      ),
    )
    (ask_first z count room x y v a n r)

-- 5, 6, 11, 12 and 17 of a fill
layer_other : (o : Lens) (k : ℕ) (f : Inputs) → Other (outcome_number (layer_check o k f))
unfolding EachOther
layer_other o k f =
    answer_other _ _ (
      above_other 5 (lit< tt) (λ e. omega arith),
      (
        above_other 6 (lit< tt) (λ e. omega arith),
        (
          above_other 11 (lit< tt) (λ e. omega arith),
          (above_other 12 (lit< tt) (λ e. omega arith), (above_other 17 (lit< tt) (λ e. omega arith), tt)),
        ),
      ),
    )
    (layer_first o k f)

-- WHAT IS GIVEN
-- 2, where a length is wrong
given_wrong : (W : Type 0) → W → GivenInList W 2
given_wrong W w =
    record {
      never_1 = λ e. omega arith;
      never_3 = λ e. omega arith;
      never_10 = λ e. omega arith;
      only_from = λ _. w;
      always_from = λ _. refl;
    }

-- another number, where none is
given_right : (W : Type 0) (n : ℕ) → ¬ W → Other n → GivenInList W n
given_right W n right h =
    record {
      never_1 = h.not_1;
      never_3 = h.not_3;
      never_10 = h.not_10;
      only_from = λ e. absurd (h.not_2 e);
      always_from = λ w. absurd (right w);
    }

-- one that is lent more: by what is wrong of it besides
given_also : (W X : Type 0) (n : ℕ) → ¬ X → GivenInList W n → GivenInList (W ⊎ X) n
given_also W X n right h =
    record {
      never_1 = h.never_1;
      never_3 = h.never_3;
      never_10 = h.never_10;
      only_from = λ e. inl (h.only_from e);
      always_from = ⊎_elim h.always_from (λ v. absurd (right v));
    }

-- a check of lengths, and after it what gives another number
given_checked : {G C : Type 0} {check : Outcome → Outcome} → Checks Lengths G C check → (next : Outcome)
    → Other (outcome_number next) → GivenInList G (outcome_number (check next))
given_checked {G} k next h =
    by_check k
    (λ wrong r. rw (r next) (given_wrong G wrong))
    (λ right r. rw (r next) (given_right G _ (λ wrong. k.apart wrong right) h))

-- THE CALLS
put_number : (o : Outcome) (b : Book) (a : Ask) → (book_put_by o b a).report.number ≡ outcome_number o
unfolding book_put_by
put_number (Ok tt) b a = refl
put_number (Err f) b a = refl

fill_number : (c : Outcome) (b : Book) (o : Lens) (k : ℕ) (f : Inputs)
    → (book_fill_by c b o k f).report.number ≡ outcome_number c
unfolding book_fill_by
fill_number (Ok tt) b o k f = refl
fill_number (Err g) b o k f = refl

show_number : (o : Outcome) (b : Book) → (book_show_by o b).report.number ≡ outcome_number o
unfolding book_show_by
show_number (Ok tt) b = refl
show_number (Err f) b = refl

put_other : (b : Book) (x y v a n r : ℕ) → Other (book_put b (ask x y v a n r)).report.number
unfolding book_put
put_other b x y v a n r =
    let p = ask x y v a n r in
    rw (put_number (ask_check b.size (length b.pile) b.room p) b p) (ask_other _ _ _ x y v a n r)

undo_other_of : (z : Size) (room : ℕ) (grid : List Pixel) (pile : List Entry)
    → Other (book_undo_of z room grid pile).report.number
unfolding book_undo_of
undo_other_of z room grid [] = above_other 9 (lit< tt) (λ e. omega arith)
undo_other_of z room grid (e ∷ pile) = accepted_other

undo_other : (b : Book) → Other (book_undo b).report.number
unfolding book_undo
undo_other b = undo_other_of b.size b.room b.grid b.pile

fill_given : (b : Book) (o : Lens) (k : ℕ) (f : Inputs)
    → GivenInList (InputsWrong b.size f) (book_fill b o k f).report.number
unfolding book_fill InputsWrong
fill_given b o k f =
    let lengths = inputs_checks b.size (length f.values) (length f.opacities) (length f.depths) in
    let check = inputs_check b.size (length f.values) (length f.opacities) (length f.depths) (layer_check o k f) in
    rw (fill_number check b o k f) (given_checked lengths _ (layer_other o k f))

show_given : (b : Book) (v : Views) → GivenInList (SeenWrong b.size v) (book_show b v).report.number
unfolding book_show views_check
show_given b v =
    let n = places b.size in
    let pictures = checks_both (length_checks (length v.values) n) (length_checks (length v.mattes) n) in
    let lengths = checks_both (length_checks (length v.scratch) (scratch_planes * padded b.size)) pictures in
    rw (show_number (views_check b.size (length v.scratch) (length v.values) (length v.mattes)) b)
    (given_checked lengths (Ok tt) accepted_other)

-- a second form of put or undo, after the check of sums and pictures
canvas-given : (b : Book) (k : Canvas) (t : BookLeft) → Other t.report.number
    → GivenInList (CanvasWrong b.size k)
    (book_kept (canvas_check b.size (length k.sums) (length k.values) (length k.mattes)) b t).report.number
unfolding canvas_check CanvasWrong book_kept
canvas-given b k t h =
    let lengths = canvas_checks b.size (length k.sums) (length k.values) (length k.mattes) in
    by_check lengths
    (λ wrong r. rw (r (Ok tt)) (given_wrong _ wrong))
    (λ right r. rw (r (Ok tt)) (given_right _ _ (λ wrong. lengths.apart wrong right) h))

show_kept_given : (b : Book) (v : Views) (sums : List ℕ)
    → GivenInList (SeenWrong b.size v ⊎ SumsWrong b.size sums) (book_show_kept b v sums).report.number
unfolding book_show_kept book_kept
show_kept_given b v sums =
    by_check (length_checks (length sums) (sums_in_all b.size))
    (λ wrong r. rw (r (Ok tt)) (given_wrong _ (inr wrong)))
    (λ right r. rw (r (Ok tt)) (given_also _ _ _ (λ wrong. wrong right) (show_given b v)))

step_given : (b : Book) (c : Call) → GivenInList (OwnLentWrong b.size c) (book_step b c).report.number
unfolding OwnLentWrong book_step book_put_kept book_undo_kept
step_given b (put_it x y v a s r) = given_right _ _ (λ w. w) (put_other b x y v a.code s r.code)
step_given b undo_it = given_right _ _ (λ w. w) (undo_other b)
step_given b (fill_it o s vs bs zs) = fill_given b o s (inputs vs (codes bs) zs)
step_given b (show_it v) = show_given b v
step_given b (put_kept_it x y v a s r k) = canvas-given b k _ (put_other b x y v a.code s r.code)
step_given b (undo_kept_it k) = canvas-given b k _ (undo_other b)
step_given b (show_kept_it v sums) = show_kept_given b v sums

pub lists_refused : ListsRefused
lists_refused = in_lists (λ z c r. GivenInList (OwnLentWrong z c) r.number) step_given
