-- What calls one after the other have fed: a front of what was read, and then a longer one.
use mathlib.Core.Path.{◌≡◌, refl, ap, sym, ◌∙◌}
use mathlib.Core.List.{List, [], append-nil}
use Prim.Native.Nat.{ℕ, ◌+◌}
use lib.ListN.{take, drop}
use lib.Seq.{take-add}
use Rattle.records_model.specs.declared.machine.Machine.{Machine}
use Rattle.records_model.specs.declared.advance.Advanced.{Advanced}
use Rattle.records_model.specs.declared.buffers.Buffers.{Buffers}
use Rattle.records_model.specs.Machine.{Progress, fed, fed_then, feed_all, AdvanceLeft, advance_left, advance_call}
use Rattle.records_model.proofs.Running.Advancing.{fed-both, fed_after_lem, call_goes_on}
use Rattle.lens_records.specs.Feeding.{FedTo, FedFront}

pub fed-none : (m : Machine) (b : Buffers) → FedTo m b [] m b
unfolding feed_all
fed-none m b = record { machine_is = refl; buffers_are = refl }

-- bytes after bytes
fed-more : (m : Machine) (b : Buffers) (xs ys : List ℕ) (now next : Machine) (held kept : Buffers)
    → FedTo m b xs now held → FedTo now held ys next kept
    → let f = feed_all (feed_all (fed m b []) xs) ys in (next ≡ f.machine) × (kept ≡ f.buffers)
fed-more m b xs ys now next held kept p q =
    let g = feed_all (fed m b []) xs in
    let start : g ≡ fed_then g.text (fed now held []) =
    rw (p.machine_is, p.buffers_are, append-nil g.text) in
    let both : feed_all g ys ≡ fed_then g.text (feed_all (fed now held []) ys) =
    ap (λ (f : Progress). feed_all f ys) start ∙ fed_after_lem g.text (fed now held []) ys in (
      q.machine_is ∙ ap (λ (f : Progress). f.machine) (sym both),
      q.buffers_are ∙ ap (λ (f : Progress). f.buffers) (sym both),
    )

-- a longer front
pub fed_on_lem : (m : Machine) (b : Buffers) (input : List ℕ) (i n : ℕ) (now next : Machine) (held kept : Buffers)
    → FedTo m b (take i input) now held → FedTo now held (take n (drop i input)) next kept
    → FedTo m b (take (i + n) input) next kept
fed_on_lem m b input i n now next held kept p q =
    let more = fed-more m b (take i input) (take n (drop i input)) now next held kept p q in
    let front : feed_all (feed_all (fed m b []) (take i input)) (take n (drop i input))
    ≡ feed_all (fed m b []) (take (i + n) input) =
    rw (take-add i n input) (sym (fed-both (fed m b []) (take i input) (take n (drop i input)))) in
    record {
      machine_is = more.0 ∙ ap (λ (f : Progress). f.machine) front;
      buffers_are = more.1 ∙ ap (λ (f : Progress). f.buffers) front;
    }

-- A CALL
pub call_fed : {a : Advanced} {b : Buffers} {after : List ℕ} (m : Machine) (part : List ℕ) (held : Buffers) (out : List ℕ)
    → advance_left a b after ≡ advance_call m part held out → FedFront m held part a.consumed a.machine b
unfolding advance_call
call_fed m part held out e =
    record {
      taking = call_goes_on m part held out e;
      fed_to = rw (ap (λ (l : AdvanceLeft). l.answer.consumed) e)
          (record {
            machine_is = ap (λ (l : AdvanceLeft). l.answer.machine) e;
            buffers_are = ap (λ (l : AdvanceLeft). l.buffers) e;
          });
    }
