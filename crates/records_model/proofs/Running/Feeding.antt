-- A machine fed byte by byte: a body is held byte by byte and its record then done at once, and an ended machine writes nothing.
use mathlib.Core.Path.{◌≡◌, refl, ap, sym, ◌∙◌}
use mathlib.Core.Bool.{Bool, false}
use mathlib.Core.List.{List, [], ◌∷◌, ◌++◌, append_assoc, append-nil}
use Prim.Native.Nat.{ℕ, zero, suc, ◌+◌, ◌≤◌, ◌<◌}
use native.Mathlib.Numerals.{add-one}
use native.Mathlib.Omega.{arith}
use borrow.Author.Tests.{lt-ltb, le-ltb}
use lib.Dec.{ltb}
use lib.ListN.{length, take, drop, set, length-set}
use lib.Seq.{take-suc-set}
use Rattle.kernels_model.specs.Choice.{pick}
use Rattle.kernels_model.proofs.Numbers.Choices.{by_lt}
use Rattle.records_model.specs.Record.{Body, record_of}
use Rattle.records_model.specs.Run.{stop_text}
use Rattle.records_model.specs.Machine.{Stage, Ended, Machine, machine, Buffers, reply_text, task_of, performed}
use Rattle.records_model.specs.Machine.{Progress, fed, fed_then, done_by, Taken, settled_of, carried_of, taken_of, ended_at}
use Rattle.records_model.specs.Machine.{feed_of, end_text, finish_of, feed_all, fresh, zeroed, machine_text}
use Rattle.records_model.specs.Fixed.{longest_body}

-- a byte taken in, and its task done
abbrev pub fed_taken : Taken → Buffers → Progress
fed_taken t b = done_by t.machine (performed t.task b)

-- THE TEXT FROM A MACHINE ON
unfoldable pub run : Machine → Buffers → List ℕ → List ℕ
run m b [] = finish_of m
run m b (x ∷ xs) = (feed_of m x b).text ++ run (feed_of m x b).machine (feed_of m x b).buffers xs

abbrev pub onward : Progress → List ℕ → List ℕ
onward f xs = f.text ++ run f.machine f.buffers xs

pub all_onward : (f : Progress) (xs : List ℕ) → (feed_all f xs).text ++ finish_of (feed_all f xs).machine ≡ onward f xs
unfolding feed_all run
all_onward f [] = refl
all_onward f (x ∷ xs) =
    let g = feed_of f.machine x f.buffers in
    all_onward (fed_then f.text g) xs ∙ append_assoc f.text g.text (run g.machine g.buffers xs)

pub machine_text_run : (input : List ℕ) → machine_text input ≡ run fresh zeroed input
unfolding machine_text
machine_text_run input = all_onward (fed fresh zeroed []) input

pub run_ended : (kind held whole : ℕ) (body : List ℕ) (count : ℕ) (b : Buffers) (xs : List ℕ)
    → run (machine Ended kind held whole body count) b xs ≡ []
unfolding run finish_of feed_of taken_of performed reply_text
run_ended kind held whole body count b [] = refl
run_ended kind held whole body count b (x ∷ xs) = run_ended kind held whole body count b xs

-- THE END HAS NOT COME
pub last_live : (m : Machine) → ended_at m.stage ≡ false → finish_of m ≡ end_text m
unfolding finish_of
last_live m h = rw h

-- A BODY
-- the bytes held, with the next j bytes of the input from place i on
unfoldable pub filled : List ℕ → ℕ → List ℕ → ℕ → List ℕ
filled body i xs zero = body
filled body i [] (suc j) = body
filled body i (x ∷ xs) (suc j) = filled (set body i x) (i + 1) xs j

pub filled-take : (body : List ℕ) (i : ℕ) (xs : List ℕ) (j : ℕ) → i + j ≤ length body → j ≤ length xs
    → take (i + j) (filled body i xs j) ≡ take i body ++ take j xs
unfolding filled
filled-take body i xs zero p q = let e : i + 0 ≡ i = omega arith in rw e (sym (append-nil (take i body)))
filled-take body i [] (suc j) p q = absurd (omega arith)
filled-take body i (x ∷ xs) (suc j) p q =
    let e : i + suc j ≡ (i + 1) + j = omega arith in
    let long : length (set body i x) ≡ length body = length-set body i x in
    rw (
      e,
      filled-take (set body i x) (i + 1) xs j (omega arith) (omega arith),
      add-one i,
      take-suc-set body i x (omega arith),
      append_assoc (take i body) (x ∷ []) (take j xs),
    )

-- a machine whose record's body is whole does the record
abbrev pub finished : Stage → ℕ → ℕ → List ℕ → ℕ → Buffers → Progress
finished s kind whole body count b =
    done_by (machine s kind whole whole body count) (performed (task_of s (record_of kind body)) b)

-- a machine that waits for more of a body
settled_waits : (s : Stage) (kind held whole : ℕ) (body : List ℕ) (count : ℕ) (b : Buffers) → held < whole
    → fed_taken (settled_of (machine s kind held whole body count)) b ≡ fed (machine s kind held whole body count) b []
unfolding settled_of performed reply_text
settled_waits s kind held whole body count b h = rw (lt-ltb held whole h)

settled_does : (s : Stage) (kind whole : ℕ) (body : List ℕ) (count : ℕ) (b : Buffers)
    → fed_taken (settled_of (machine s kind whole whole body count)) b ≡ finished s kind whole body count b
unfolding settled_of
settled_does s kind whole body count b = rw (le-ltb whole whole (omega arith))

fed_body : (s : Stage) → ended_at s ≡ false → (kind held whole : ℕ) (body : List ℕ) (count x : ℕ) (b : Buffers)
    → held < whole → held < longest_body
    → feed_of (machine s kind held whole body count) x b
    ≡ fed_taken (settled_of (machine s kind (held + 1) whole (set body held x) count)) b
unfolding feed_of taken_of carried_of
fed_body s live kind held whole body count x b h few = rw (live, lt-ltb held whole h, lt-ltb held longest_body few)

cut_short : (s : Stage) → ended_at s ≡ false → (kind held whole : ℕ) (body : List ℕ) (count : ℕ) → held < whole
    → finish_of (machine s kind held whole body count) ≡ stop_text count Body
unfolding end_text
cut_short s live kind held whole body count h =
    last_live (machine s kind held whole body count) live ∙ rw (lt-ltb held whole h)

fewer : (a b : ℕ) → ltb a b ≡ ltb (suc a) (suc b)
fewer a b =
    by_lt a b
    (λ h. rw (lt-ltb a b h, lt-ltb (suc a) (suc b) (omega arith)))
    (λ h. rw (le-ltb a b h, le-ltb (suc a) (suc b) (omega arith)))

-- a machine that waits for j bytes of a body: 14 where the input has fewer, else the record is done with the next j bytes
pub body_read : (s : Stage) → ended_at s ≡ false
    → (kind held whole : ℕ) (body : List ℕ) (count : ℕ) (b : Buffers) (xs : List ℕ) (j : ℕ)
    → held + j ≡ whole → whole ≤ longest_body
    → onward (fed_taken (settled_of (machine s kind held whole body count)) b) xs
    ≡ pick (ltb (length xs) j) (stop_text count Body) (onward (finished s kind whole (filled body held xs j) count b) (drop j xs))
unfolding filled run
body_read s live kind held whole body count b xs zero e few =
    let same : held ≡ whole = omega arith in
    rw (same, le-ltb (length xs) 0 (omega arith)) (ap (λ (f : Progress). onward f xs) (settled_does s kind whole body count b))
body_read s live kind held whole body count b [] (suc j) e few =
    ap (λ (f : Progress). onward f []) (settled_waits s kind held whole body count b (omega arith))
    ∙ rw (cut_short s live kind held whole body count (omega arith), lt-ltb 0 (suc j) (omega arith))
body_read s live kind held whole body count b (x ∷ xs) (suc j) e few =
    ap (λ (f : Progress). onward f (x ∷ xs)) (settled_waits s kind held whole body count b (omega arith))
    ∙ ap (λ (f : Progress). onward f xs) (fed_body s live kind held whole body count x b (omega arith) (omega arith))
    ∙ body_read s live kind (held + 1) whole (set body held x) count b xs j (omega arith) few
    ∙ ap
    (λ (t : Bool).
    pick t (stop_text count Body) (onward (finished s kind whole (filled (set body held x) (held + 1) xs j) count b) (drop j xs)))
    (fewer (length xs) j)
