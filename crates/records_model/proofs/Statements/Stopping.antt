-- A record stops a run by the first of its rows of the table that applies, and where none does the run goes on.
use Rattle.std.specs.Prelude.{Option, Some, None, Ok, Err}
use mathlib.Core.Path.{◌≡◌, refl, sym}
use mathlib.Core.Logic.{inl, inr, ⊎_elim}
use mathlib.Core.List.{List, [], ◌∷◌}
use Prim.Native.Nat.{ℕ, zero, suc, ◌+◌, ◌≤◌, ◌<◌}
use native.Mathlib.Omega.{arith}
use lib.ListN.{get_or, length, take, drop}
use borrow.Author.Tests.{lt-ltb, le-ltb}
use Rattle.kernels_model.specs.Rows.{FirstOf}
use Rattle.kernels_model.specs.Shape.{shape_of}
use Rattle.kernels_model.specs.declared.shape.Shape.{Shape}
use Rattle.kernels_model.proofs.Numbers.Choices.{by_lt}
use Rattle.plate_model.specs.Layout.{padded}
use Rattle.plate_model.specs.declared.size.Size.{Size}
use Rattle.plate_model.specs.Refusal.{Outcome}
use Rattle.plate_model.specs.declared.state.Refusal.TheVariants.{Sizes as BadSizes}
use Rattle.plate_model.specs.Refusal.{sizes_check}
use Rattle.plate_model.specs.Notebook.{Book, open_book}
use Rattle.plate_model.proofs.Checks.Rows.{by_check}
use Rattle.plate_model.proofs.Checks.Conditions.{sizes_checks}
use Rattle.records_model.specs.Fixed.{cells_top, log_room, open_body, put_body}
use Rattle.records_model.specs.Record.{Record, Open, Undo, Show, Stop, Sizes, Kind, Body, Order, Cells}
use Rattle.records_model.specs.Record.{body_length, put_record, record_of, items_by}
use Rattle.records_model.specs.Run.{CurrentBook, not_open, open_with, stop, go, opens, act, stop_text, text_from}
use Rattle.records_model.specs.Stops.{KindUnknown, BodyShort, OutOfOrder, open_size, record_rows, GoesOnAfter, StopsByRows}
use Rattle.records_model.proofs.Reading.Bodies.{front_open}

module _ (k n : ℕ) (d : CurrentBook) (kind : ℕ) (rest : List ℕ) where
  abbrev met : List ℕ
  met = text_from k d (items_by (suc n) (kind ∷ rest))

  unknown_stops : body_length kind ≡ None → met ≡ stop_text (k + 1) Kind
  unfolding text_from items_by
  unknown_stops e = rw e

  module _ (m : ℕ) (e : body_length kind ≡ Some m) where
    short_stops : length rest < m → met ≡ stop_text (k + 1) Body
    unfolding text_from items_by
    short_stops h = rw (e, lt-ltb (length rest) m h)

    module _ (whole : m ≤ length rest) (r : Record) (read : record_of kind (take m rest) ≡ r) where
      act_stops : (s : Stop) → act (k + 1) d r ≡ stop s → met ≡ stop_text (k + 1) s
      unfolding text_from items_by
      act_stops s a = rw (e, le-ltb (length rest) m whole, read, a)

      act_goes : (text : List ℕ) (book : Book) → act (k + 1) d r ≡ go text book → GoesOnAfter k n d kind rest
      unfolding text_from items_by
      act_goes text book a =
          record {
            body = m;
            text = text;
            book = book;
            body_is = e;
            done = rw read a;
            goes_on = rw (e, le-ltb (length rest) m whole, read, a);
          }

-- THE ROWS THAT DO NOT APPLY
-- a kind from 1 to 4
kind_known : (kind : ℕ) → 1 ≤ kind → kind ≤ 4 → ¬ (KindUnknown kind)
kind_known kind low high = ⊎_elim (λ h. omega arith) (λ h. omega arith)

body_whole : (kind : ℕ) (rest : List ℕ) → (kind ≡ 1 → open_body ≤ length rest) → (kind ≡ 2 → put_body ≤ length rest)
    → ¬ (BodyShort kind rest)
unfolding BodyShort
body_whole kind rest a b = ⊎_elim (λ p. omega (arith, a p.0, p.1)) (λ p. omega (arith, b p.0, p.1))

-- PUT, whether its byte names a shape or not
put_stops : (k n : ℕ) (rest : List ℕ) → put_body ≤ length rest → (s : Option Shape)
    → record_of 2 (take put_body rest) ≡ put_record s (take put_body rest)
    → text_from k not_open (items_by (suc n) (2 ∷ rest)) ≡ stop_text (k + 1) Order
unfolding act
put_stops k n rest whole None read = act_stops k n not_open 2 rest put_body refl whole _ read Order refl
put_stops k n rest whole (Some s) read = act_stops k n not_open 2 rest put_body refl whole _ read Order refl

put_goes : (k n : ℕ) (b : Book) (rest : List ℕ) → put_body ≤ length rest → (s : Option Shape)
    → record_of 2 (take put_body rest) ≡ put_record s (take put_body rest)
    → GoesOnAfter k n (open_with b) 2 rest
unfolding act
put_goes k n b rest whole None read = act_goes k n (open_with b) 2 rest put_body refl whole _ read _ _ refl
put_goes k n b rest whole (Some s) read = act_goes k n (open_with b) 2 rest put_body refl whole _ read _ _ refl

-- what is read of its shape
abbrev shape_read : List ℕ → Option Shape
shape_read rest = shape_of (get_or (take put_body rest) 7 0)

put_read_lem : (rest : List ℕ) → record_of 2 (take put_body rest) ≡ put_record (shape_read rest) (take put_body rest)
unfolding record_of
put_read_lem rest = refl

-- OPEN
open_read : (rest : List ℕ) → record_of 1 (take open_body rest) ≡ Open (open_size rest)
unfolding record_of
open_read rest = sym (front_open rest)

-- what an open does where no plate is open, by its sizes and its cells
opens-stop : (z : Size) → ((next : Outcome) → sizes_check z next ≡ Err BadSizes) → opens z ≡ stop Sizes
unfolding opens
opens-stop z bad = rw (bad (Ok tt))

opens_full : (z : Size) → ((next : Outcome) → sizes_check z next ≡ next) → cells_top < padded z → opens z ≡ stop Cells
unfolding opens
opens_full z fine h = rw (fine (Ok tt), lt-ltb cells_top (padded z) h)

opens-go : (z : Size) → ((next : Outcome) → sizes_check z next ≡ next) → padded z ≤ cells_top → opens z ≡ go [] (open_book z log_room)
unfolding opens
opens-go z fine h = rw (fine (Ok tt), le-ltb cells_top (padded z) h)

-- BY THE CURRENT NOTEBOOK
abbrev Stopped : ℕ → ℕ → CurrentBook → ℕ → List ℕ → Type 0
Stopped k n d kind rest =
    FirstOf (λ s. text_from k d (items_by (suc n) (kind ∷ rest)) ≡ stop_text (k + 1) s) (GoesOnAfter k n d kind rest)
    (record_rows d kind rest)

-- an unknown kind, and a body that is cut short
by_kind : (k n : ℕ) (d : CurrentBook) (kind : ℕ) (rest : List ℕ) → KindUnknown kind → body_length kind ≡ None
    → Stopped k n d kind rest
unfolding FirstOf
by_kind k n d kind rest h e = inl (h, unknown_stops k n d kind rest e)

by_body : (k n : ℕ) (d : CurrentBook) (kind : ℕ) (rest : List ℕ) (m : ℕ) → ¬ (KindUnknown kind) → body_length kind ≡ Some m
    → BodyShort kind rest → length rest < m → Stopped k n d kind rest
unfolding FirstOf
by_body k n d kind rest m known e short h = inr (known, inl (short, short_stops k n d kind rest m e h))

-- in order: what an open's sizes and cells decide
past_order : (k n : ℕ) (d : CurrentBook) (kind : ℕ) (rest : List ℕ)
    → ¬ (KindUnknown kind) → ¬ (BodyShort kind rest) → ¬ (OutOfOrder d kind)
    → FirstOf (λ s. text_from k d (items_by (suc n) (kind ∷ rest)) ≡ stop_text (k + 1) s) (GoesOnAfter k n d kind rest)
    (drop 3 (record_rows d kind rest))
    → Stopped k n d kind rest
unfolding FirstOf
past_order k n d kind rest known long order first = inr (known, inr (long, inr (order, first)))

open_closed : (k n : ℕ) (rest : List ℕ) → open_body ≤ length rest → Stopped k n not_open 1 rest
unfolding FirstOf OutOfOrder act
open_closed k n rest whole =
    let z = open_size rest in
    let known = kind_known 1 (omega arith) (omega arith) in
    let long = body_whole 1 rest (λ _. whole) (λ e. absurd (omega arith)) in
    let read = open_read rest in
    past_order k n not_open 1 rest known long (λ no. no refl)
    (by_check (sizes_checks z)
    (λ outside bad. inl ((refl, outside), act_stops k n not_open 1 rest open_body refl whole _ read Sizes (opens-stop z bad)))
    (λ lawful fine. inr (
      (λ p. (sizes_checks z).apart p.1 lawful),
      by_lt cells_top (padded z)
          (λ h. inl ((refl, h), act_stops k n not_open 1 rest open_body refl whole _ read Cells (opens_full z fine h)))
          (λ h. inr ((λ p. omega (arith, p.1)), act_goes k n not_open 1 rest open_body refl whole _ read _ _ (opens-go z fine h))),
    )))

-- out of order
by_order : (k n : ℕ) (d : CurrentBook) (kind : ℕ) (rest : List ℕ) → ¬ (KindUnknown kind) → ¬ (BodyShort kind rest)
    → OutOfOrder d kind
    → text_from k d (items_by (suc n) (kind ∷ rest)) ≡ stop_text (k + 1) Order → Stopped k n d kind rest
unfolding FirstOf
by_order k n d kind rest known long order e = inr (known, inr (long, inl (order, e)))

-- nothing that stops the run: a put, an undo or a show on an open plate
by_none : (k n : ℕ) (b : Book) (kind : ℕ) (rest : List ℕ) → 2 ≤ kind → kind ≤ 4 → ¬ (BodyShort kind rest)
    → GoesOnAfter k n (open_with b) kind rest → Stopped k n (open_with b) kind rest
unfolding FirstOf OutOfOrder
by_none k n b kind rest low high long goes =
    past_order k n (open_with b) kind rest (kind_known kind (omega arith) high) long (λ e. omega arith)
    (inr ((λ p. omega (arith, p.0)), inr ((λ p. omega (arith, p.0)), goes)))

-- EVERY KIND
pub stops_by_rows : StopsByRows
unfolding BodyShort OutOfOrder act record_of
stops_by_rows k n d zero rest = by_kind k n d 0 rest (inl (omega arith)) refl
stops_by_rows k n not_open (suc zero) rest =
    by_lt (length rest) open_body
    (λ h. by_body k n not_open 1 rest open_body (kind_known 1 (omega arith) (omega arith)) refl (inl (refl, h)) h)
    (λ h. open_closed k n rest h)
stops_by_rows k n (open_with b) (suc zero) rest =
    let known = kind_known 1 (omega arith) (omega arith) in
    by_lt (length rest) open_body
    (λ h. by_body k n (open_with b) 1 rest open_body known refl (inl (refl, h)) h)
    (λ h. by_order k n (open_with b) 1 rest known (body_whole 1 rest (λ _. h) (λ e. absurd (omega arith))) refl
    (act_stops k n (open_with b) 1 rest open_body refl h _ (open_read rest) Order refl))
stops_by_rows k n not_open (suc (suc zero)) rest =
    let known = kind_known 2 (omega arith) (omega arith) in
    by_lt (length rest) put_body
    (λ h. by_body k n not_open 2 rest put_body known refl (inr (refl, h)) h)
    (λ h. by_order k n not_open 2 rest known (body_whole 2 rest (λ e. absurd (omega arith)) (λ _. h)) (λ e. omega arith)
    (put_stops k n rest h (shape_read rest) (put_read_lem rest)))
stops_by_rows k n (open_with b) (suc (suc zero)) rest =
    by_lt (length rest) put_body
    (λ h. by_body k n (open_with b) 2 rest put_body (kind_known 2 (omega arith) (omega arith)) refl (inr (refl, h)) h)
    (λ h. by_none k n b 2 rest (omega arith) (omega arith) (body_whole 2 rest (λ e. absurd (omega arith)) (λ _. h))
    (put_goes k n b rest h (shape_read rest) (put_read_lem rest)))
stops_by_rows k n not_open (suc (suc (suc zero))) rest =
    by_order k n not_open 3 rest (kind_known 3 (omega arith) (omega arith))
    (body_whole 3 rest (λ e. absurd (omega arith)) (λ e. absurd (omega arith))) (λ e. omega arith)
    (act_stops k n not_open 3 rest 0 refl (omega arith) Undo refl Order refl)
stops_by_rows k n (open_with b) (suc (suc (suc zero))) rest =
    by_none k n b 3 rest (omega arith) (omega arith) (body_whole 3 rest (λ e. absurd (omega arith)) (λ e. absurd (omega arith)))
    (act_goes k n (open_with b) 3 rest 0 refl (omega arith) Undo refl _ _ refl)
stops_by_rows k n not_open (suc (suc (suc (suc zero)))) rest =
    by_order k n not_open 4 rest (kind_known 4 (omega arith) (omega arith))
    (body_whole 4 rest (λ e. absurd (omega arith)) (λ e. absurd (omega arith))) (λ e. omega arith)
    (act_stops k n not_open 4 rest 0 refl (omega arith) Show refl Order refl)
stops_by_rows k n (open_with b) (suc (suc (suc (suc zero)))) rest =
    by_none k n b 4 rest (omega arith) (omega arith) (body_whole 4 rest (λ e. absurd (omega arith)) (λ e. absurd (omega arith)))
    (act_goes k n (open_with b) 4 rest 0 refl (omega arith) Show refl _ _ refl)
stops_by_rows k n d (suc (suc (suc (suc (suc kind))))) rest =
    by_kind k n d (suc (suc (suc (suc (suc kind))))) rest (inr (omega arith)) refl
