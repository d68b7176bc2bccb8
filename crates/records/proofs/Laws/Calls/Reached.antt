-- Where a call of advance stands after so many bytes of its part, and what it has left when it is done.
use Rattle.std.proofs.Common.{◌≡◌, ◌∙◌, refl, ap, sym, List, [], ◌∷◌, ℕ, suc, ◌+◌, ◌≤◌, ◌<◌, length, take, drop, get_or, arith}
use Rattle.std.proofs.Common.{add-one, drop-cons}
use lib.Seq.{drop-length}
use Rattle.records_model.specs.Fixed.{full_from}
use Rattle.records_model.specs.declared.buffers.Buffers.{Buffers}
use Rattle.records_model.specs.declared.machine.Machine.{Machine}
use Rattle.records_model.specs.Machine.{Progress, fed, fed_on, feed_of, feed_all, takes, advance_left, advance_call}
use Rattle.records_model.proofs.Running.Advancing.{fed-next, takes_none, takes-next}
use Rattle.records.specs.declared.text.Writer.{Writer}
use Rattle.records.specs.Written.{Writes}
use Rattle.records.proofs.Laws.Writing.Slices.{writes_nothing, writes_two}

-- after i bytes: the machine, the buffers and the text of those, and how many there are still to take
pub record Reached (m : Machine) (b : Buffers) (input : List ℕ) (start : Writer) (now : Machine) (held : Buffers) (text : Writer) (i : ℕ)
    : Type 0 where
  pub machine_is : now ≡ (feed_all (fed m b []) (take i input)).machine
  pub buffers_are : held ≡ (feed_all (fed m b []) (take i input)).buffers
  pub text_is : Writes start (feed_all (fed m b []) (take i input)).text text
  pub to_take : takes (fed m b []) input ≡ i + takes (feed_all (fed m b []) (take i input)) (drop i input)

pub reached_start : (m : Machine) (b : Buffers) (input : List ℕ) (w : Writer) → w.at ≤ length w.out.now → Reached m b input w m b w 0
unfolding feed_all
reached_start m b input w h =
    record { machine_is = refl; buffers_are = refl; text_is = writes_nothing w h; to_take = omega arith }

module _ {m : Machine} {b : Buffers} {input : List ℕ} {start : Writer} {now : Machine} {held : Buffers} {text : Writer} {i : ℕ}
    (r : Reached m b input start now held text i) (none : start.at ≡ 0) where
  -- what the bytes so far come to
  abbrev here : Progress
  here = feed_all (fed m b []) (take i input)

  pub reached_next : {next : Machine} {kept : Buffers} {last : Writer} (x : ℕ) → x ≡ get_or input i 0 → i < length input
      → text.at ≤ full_from → next ≡ (feed_of now x held).machine → kept ≡ (feed_of now x held).buffers
      → Writes text (feed_of now x held).text last → Reached m b input start next kept last (i + 1)
  reached_next x is h few machine buffers more =
      let room : length here.text ≤ full_from = omega (arith, r.text_is.at_is) in
      let one = takes-next here x (drop (suc i) input) room in
      let same : feed_of now x held ≡ feed_of here.machine x here.buffers = rw (r.machine_is, r.buffers_are) in
      let all : feed_all (fed m b []) (take (i + 1) input) ≡ fed_on here x =
      fed-next (fed m b []) input i h ∙ ap (λ (n : ℕ). fed_on here n) (sym is) in
      let left : takes here (drop i input) ≡ suc (takes (fed_on here x) (drop (suc i) input)) =
      ap (takes here) (drop-cons input i 0 h ∙ ap (λ (n : ℕ). n ∷ drop (suc i) input) (sym is)) ∙ one in
      record {
        machine_is = rw (all, machine, same);
        buffers_are = rw (all, buffers, same);
        text_is = rw all (writes_two r.text_is (rw same at more));
        to_take = rw (all, add-one i) (omega (arith, r.to_take, left));
      }

  -- where no more is taken, it has left what it has to
  done : (n : ℕ) → n ≡ i → takes (fed m b []) input ≡ i
      → advance_left (record { machine = now; consumed = n; written = text.at }) held text.out.now ≡ advance_call m input b start.out.now
  unfolding advance_call
  done n same all =
      let long : text.at ≡ length here.text = omega (arith, r.text_is.at_is) in
      rw (same, all, r.machine_is, r.buffers_are, long, r.text_is.slice_is, none)

  pub reached_full : (n : ℕ) → n ≡ i → full_from < text.at
      → advance_left (record { machine = now; consumed = n; written = text.at }) held text.out.now ≡ advance_call m input b start.out.now
  reached_full n same h =
      let stops = takes_none here (drop i input) (omega (arith, r.text_is.at_is)) in
      done n same (omega (arith, r.to_take, stops))

  pub reached_end : (n : ℕ) → n ≡ i → i ≡ length input
      → advance_left (record { machine = now; consumed = n; written = text.at }) held text.out.now ≡ advance_call m input b start.out.now
  unfolding takes
  reached_end n same h =
      let stops : takes here (drop i input) ≡ 0 = ap (takes here) (ap (λ (j : ℕ). drop j input) h ∙ drop-length input) in
      done n same (omega (arith, r.to_take, stops))
