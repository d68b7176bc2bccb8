-- FROM BYTES TO TEXT: what the machine writes is the text of the paper's rules, by induction over the records of the input.
use Rattle.std.specs.Prelude.{Some, None}
use mathlib.Core.Path.{◌≡◌, refl, ap, ◌∙◌}
use mathlib.Core.Bool.{false}
use mathlib.Core.List.{List, [], ◌∷◌, append-nil}
use Prim.Native.Nat.{ℕ, zero, suc, ◌+◌, ◌-◌, ◌^◌, ◌≤◌, ◌<◌}
use native.Mathlib.Omega.{arith}
use borrow.Author.Tests.{lt-ltb, le-ltb}
use lib.Dec.{lit<}
use lib.ListN.{length, take, drop, set, length-set, length-drop, length-map, length-replicate}
use Rattle.kernels_model.proofs.Numbers.Choices.{by_lt}
use Rattle.kernels_model.specs.Listed.{zeros}
use Rattle.plate_model.specs.Notebook.{Book}
use Rattle.plate_model.specs.Lists.{Byte, codes}
use Rattle.records_model.specs.Record.{Kind, body_length, record_of, next, with_body, items_by, items_of}
use Rattle.records_model.specs.Run.{CurrentBook, not_open, open_with, Act, stop, go, act, stop_text, then_text, text_from}
use Rattle.records_model.specs.Run.{paper_text}
use Rattle.records_model.specs.Machine.{Stage, Closed, machine, Buffers, Did, reply_text, task_of, performed, Progress}
use Rattle.records_model.specs.Machine.{done_by}
use Rattle.records_model.specs.Machine.{settled_of, begun_by, begun_of, taken_of, ended_at, feed_of, end_text, zeroed}
use Rattle.records_model.specs.Machine.{EndToEnd}
use Rattle.records_model.proofs.Running.Feeding.{fed_taken, run, onward, machine_text_run, run_ended, last_live, filled}
use Rattle.records_model.proofs.Running.Feeding.{filled-take, body_read}
use Rattle.records_model.proofs.Standing.Invariant.{RightLengths, Stands, at_closed, at_open, Agrees}
use Rattle.records_model.proofs.Standing.Acts.{acts_agree}
use Rattle.records_model.proofs.Reading.Bodies.{AllBytes, take_bytes, drop_bytes, front_open, front_put, record_lawful}
use Rattle.records_model.specs.Fixed.{open_body, put_body, longest_body, cells_top, planes_room, scratch_room, log_room}

filled-length : (body : List ℕ) (i : ℕ) (xs : List ℕ) (j : ℕ) → length (filled body i xs j) ≡ length body
unfolding filled
filled-length body i xs zero = refl
filled-length body i [] (suc j) = refl
filled-length body i (x ∷ xs) (suc j) = filled-length (set body i x) (i + 1) xs j ∙ length-set body i x

-- A RECORD AND WHAT COMES AFTER IT
stands_live : (s : Stage) (b : Buffers) (d : CurrentBook) → Stands s b d → ended_at s ≡ false
stands_live s b d (at_closed h) = refl
stands_live s b d (at_open z planes grid pile h small kept e) = refl

goes_on : (k : ℕ) (a : Act) (d : Did) (s : Stage) (kind whole : ℕ) (body : List ℕ) (xs : List ℕ) (rest : CurrentBook → List ℕ)
    → Agrees k a d
    → ((t : Stage) (b : Buffers) (book : Book) → Stands t b (open_with book)
    → run (machine t kind whole whole body k) b xs ≡ rest (open_with book))
    → onward (done_by (machine s kind whole whole body k) d) xs ≡ then_text k a rest
goes_on k (stop why) d s kind whole body xs rest agrees after =
    rw (agrees.0, agrees.1, run_ended kind whole whole body k d.buffers xs) (append-nil (stop_text k why))
goes_on k (go text book) d s kind whole body xs rest agrees after =
    rw (agrees.0, after d.effect.stage d.buffers book agrees.1)

-- THE INDUCTION
-- what holds of a machine between two records, for inputs shorter than n
abbrev Follows : ℕ → Type 0
Follows n =
    (s : Stage) (kind whole : ℕ) (body : List ℕ) (k : ℕ) (b : Buffers) (d : CurrentBook) (input : List ℕ) → length input < n
    → Stands s b d → length body ≡ longest_body → k + length input < 2 ^ 64 → AllBytes input
    → run (machine s kind whole whole body k) b input ≡ text_from k d (items_by n input)

-- a kind with a body of m bytes
known_kind : (n : ℕ) → Follows n → (m : ℕ) → m ≤ longest_body → (kind : ℕ)
    → ((body : List ℕ) → record_of kind body ≡ record_of kind (take m body))
    → (s : Stage) (body : List ℕ) (k : ℕ) (b : Buffers) (d : CurrentBook) (xs : List ℕ) → length xs < n
    → Stands s b d → length body ≡ longest_body → k + 1 + length xs < 2 ^ 64 → AllBytes xs
    → onward (fed_taken (settled_of (machine s kind 0 m body (k + 1))) b) xs
    ≡ text_from k d (with_body (Some m) xs (λ l. next (record_of kind (take l xs)) (items_by n (drop l xs))))
unfolding text_from
known_kind n follows m few kind front s body k b d xs short stands long fits small =
    body_read s (stands_live s b d stands) kind 0 m body (k + 1) b xs m (omega arith) few
    ∙ by_lt (length xs) m
    (λ h. rw (lt-ltb (length xs) m h))
    (λ h.
    let now = filled body 0 xs m in
    let zero_more : 0 + m ≡ m = omega arith in
    let held : take m now ≡ take m xs = rw zero_more at (filled-take body 0 xs m (omega arith) h) in
    let read : record_of kind now ≡ record_of kind (take m xs) = front now ∙ ap (record_of kind) held in
    rw (le-ltb (length xs) m h, read)
    (goes_on (k + 1) (act (k + 1) d (record_of kind (take m xs))) (performed (task_of s (record_of kind (take m xs))) b)
    s kind m now (drop m xs)
    (λ e. text_from (k + 1) e (items_by n (drop m xs)))
    (acts_agree (k + 1) s b d (record_of kind (take m xs)) stands (record_lawful kind (take m xs) (take_bytes m xs small)))
    (λ t c book st.
    follows t kind m now (k + 1) c (open_with book) (drop m xs) (omega (arith, length-drop m xs)) st
    (filled-length body 0 xs m ∙ long)
    (omega (arith, length-drop m xs))
    (drop_bytes m xs small))))

-- a byte of kind
kind_fed : (s : Stage) → ended_at s ≡ false → (kind whole : ℕ) (body : List ℕ) (k x : ℕ) (b : Buffers) → k < 2 ^ 64 - 1
    → feed_of (machine s kind whole whole body k) x b ≡ fed_taken (begun_by (body_length x) (machine s x whole whole body (k + 1))) b
unfolding feed_of taken_of begun_of
kind_fed s live kind whole body k x b h = rw (live, le-ltb whole whole (omega arith), lt-ltb k (2 ^ 64 - 1) h)

module _ (n : ℕ) (follows : Follows n) (s : Stage) (whole : ℕ) (body : List ℕ) (k : ℕ) (b : Buffers) (d : CurrentBook)
    (xs : List ℕ) (short : length xs < n) (stands : Stands s b d) (long : length body ≡ longest_body)
    (fits : k + 1 + length xs < 2 ^ 64) (small : AllBytes xs) where
  -- what is to be shown of the byte of kind x
  abbrev Kinded : ℕ → Type 0
  Kinded x =
      onward (fed_taken (begun_by (body_length x) (machine s x whole whole body (k + 1))) b) xs
      ≡ text_from k d (with_body (body_length x) xs (λ l. next (record_of x (take l xs)) (items_by n (drop l xs))))

  no_kind : (x : ℕ) → body_length x ≡ None → Kinded x
  unfolding begun_by text_from performed reply_text
  no_kind x e = rw (e, run_ended x whole whole body (k + 1) b xs) (append-nil (stop_text (k + 1) Kind))

  kinds : (x : ℕ) → Kinded x
  unfolding begun_by record_of
  kinds zero = no_kind 0 refl
  kinds (suc zero) = known_kind n follows open_body (omega arith) 1 front_open s body k b d xs short stands long fits small
  kinds (suc (suc zero)) = known_kind n follows put_body (omega arith) 2 front_put s body k b d xs short stands long fits small
  kinds (suc (suc (suc zero))) =
      known_kind n follows 0 (omega arith) 3 (λ _. refl) s body k b d xs short stands long fits small
  kinds (suc (suc (suc (suc zero)))) =
      known_kind n follows 0 (omega arith) 4 (λ _. refl) s body k b d xs short stands long fits small
  kinds (suc (suc (suc (suc (suc x))))) = no_kind (suc (suc (suc (suc (suc x))))) refl

follows_all : (n : ℕ) → Follows n
unfolding run items_by end_text text_from
follows_all zero s kind whole body k b d input short stands long fits small = absurd (omega arith)
follows_all (suc n) s kind whole body k b d [] short stands long fits small =
    last_live (machine s kind whole whole body k) (stands_live s b d stands) ∙ rw (le-ltb whole whole (omega arith))
follows_all (suc n) s kind whole body k b d (x ∷ xs) short stands long fits small =
    ap (λ (f : Progress). onward f xs) (kind_fed s (stands_live s b d stands) kind whole body k x b (omega arith))
    ∙ kinds n (follows_all n) s whole body k b d xs (omega arith) stands long (omega arith) (λ i. small (suc i)) x

-- FROM BYTES TO TEXT
zeros_long : (n : ℕ) → length (zeros n) ≡ n
zeros_long n = length-replicate {A = ℕ} n 0

zeroed_sized : RightLengths zeroed
zeroed_sized =
    record {
      planes_are = zeros_long planes_room;
      pixels_are = zeros_long cells_top;
      log_is = zeros_long log_room;
      scratch_is = zeros_long scratch_room;
      values_are = zeros_long cells_top;
      mattes_are = zeros_long cells_top;
    }

codes_bytes : (bs : List Byte) → AllBytes (codes bs)
codes_bytes [] i = lit< tt
codes_bytes (b ∷ bs) zero = b.small
codes_bytes (b ∷ bs) (suc i) = codes_bytes bs i

pub end_to_end : EndToEnd
unfolding paper_text items_of
end_to_end input h =
    let bytes = codes input in
    let long : length bytes ≡ length input = length-map input (λ (b : Byte). b.code) in
    machine_text_run bytes
    ∙ follows_all (suc (length bytes)) Closed 0 0 (zeros longest_body) 0 zeroed not_open bytes (omega arith)
    (at_closed zeroed_sized) (zeros_long longest_body) (omega arith) (codes_bytes input)
