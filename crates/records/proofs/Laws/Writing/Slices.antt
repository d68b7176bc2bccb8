-- Laws of text written over a slice: one text after another is both at once, and what is written fits.
use Rattle.std.proofs.Common.{◌≡◌, ◌∙◌, refl, ap, sym, List, [], ◌∷◌, ◌++◌, ℕ, ◌+◌, ◌≤◌, ◌<◌, length, take, drop, arith, append_assoc, append-nil, add-zero, add-one, length-append, length-drop, take-append-drop}
use Rattle.std.proofs.Math.ListN.{set}
use lib.Seq.{length-take-le, take_at, drop_at, drop-drop, set_split}
use Rattle.records_model.specs.Text.{with_text}
use Rattle.records.specs.declared.text.Writer.{Writer}
use Rattle.records.specs.Written.{HasRoom, Writes, WritesIn}

-- up to its end, a text that is written stands there
head_length : (s : List ℕ) (at : ℕ) (t : List ℕ) → at ≤ length s → length (take at s ++ t) ≡ at + length t
head_length s at t h = rw (length-append (take at s) t, length-take-le at s h)

pub written_length : (s : List ℕ) (at : ℕ) (t : List ℕ) → at + length t ≤ length s → length (with_text s at t) ≡ length s
unfolding with_text
written_length s at t h =
    rw (
      length-append (take at s ++ t) (drop (at + length t) s),
      head_length s at t (omega arith),
      length-drop (at + length t) s,
    )
    (omega arith)

-- nothing written
pub written_none : (s : List ℕ) (at : ℕ) → with_text s at [] ≡ s
unfolding with_text
written_none s at = rw (append-nil (take at s), add-zero at) (take-append-drop at s)

-- one byte written
pub written_byte : (s : List ℕ) (at b : ℕ) → at < length s → set s at b ≡ with_text s at (b ∷ [])
unfolding with_text
written_byte s at b h = rw (set_split s at b h, append_assoc (take at s) (b ∷ []) (drop (at + 1) s), add-one at)

-- a word written over as many elements
pub written_word : (s : List ℕ) (at n : ℕ) (w new : List ℕ) → new ≡ w → n ≡ length w
    → take at s ++ (new ++ drop n (drop at s)) ≡ with_text s at w
unfolding with_text
written_word s at n w new e h =
    rw (e, h, drop-drop (length w) at s) (sym (append_assoc (take at s) w (drop (at + length w) s)))

-- a slice that has a text from a place on, and is as it was before and after it
pub written_there : (s u : List ℕ) (at : ℕ) (t : List ℕ) → take at u ≡ take at s → drop at u ≡ t ++ drop (at + length t) s → u ≡ with_text s at t
unfolding with_text
written_there s u at t before here =
    sym (take-append-drop at u)
    ∙ rw (before, here) (sym (append_assoc (take at s) t (drop (at + length t) s)))

-- one text after another
written_two : (s : List ℕ) (at : ℕ) (a b : List ℕ) → at + length a + length b ≤ length s
    → with_text (with_text s at a) (at + length a) b ≡ with_text s at (a ++ b)
unfolding with_text
written_two s at a b h =
    let whole = head_length s at a (omega arith) in
    let rest = drop (at + length a) s in
    let sum : at + length a + length b ≡ at + (length a + length b) = omega arith in
    rw (
      take_at (take at s ++ a) rest (at + length a) whole,
      ← drop-drop (length b) (at + length a) (take at s ++ a ++ rest),
      drop_at (take at s ++ a) rest (at + length a) whole,
      drop-drop (length b) (at + length a) s,
      length-append a b,
      append_assoc (take at s) a b,
    )
    (ap (λ (n : ℕ). take at s ++ (a ++ b) ++ drop n s) sum)

-- A WRITER
pub writes_nothing : (w : Writer) → w.at ≤ length w.out.now → Writes w [] w
writes_nothing w h =
    record { same_slice = refl; room = omega arith; slice_is = sym (written_none w.out.now w.at); at_is = omega arith }

-- the slice keeps its length
pub writes_length : {w u : Writer} {t : List ℕ} → Writes w t u → length u.out.now ≡ length w.out.now
writes_length {w} {u} {t} h = ap length h.slice_is ∙ written_length w.out.now w.at t h.room

pub writes_two : {w u v : Writer} {a b : List ℕ} → Writes w a u → Writes u b v → Writes w (a ++ b) v
writes_two {w} {u} {v} {a} {b} first second =
    let both = length-append a b in
    let fits : w.at + length a + length b ≤ length w.out.now = omega (arith, first.at_is, second.room, writes_length first) in
    record {
      same_slice = second.same_slice ∙ first.same_slice;
      room = rw both (omega arith);
      slice_is = rw (second.slice_is, first.slice_is, first.at_is) (written_two w.out.now w.at a b fits);
      at_is = rw both (omega (arith, first.at_is, second.at_is));
    }

pub whole_in : {w u : Writer} {t : List ℕ} → Writes w t u → WritesIn (length t) w t u
whole_in h = record { wrote = h; short = omega arith }

pub both_in : {w u v : Writer} {a b : List ℕ} {n m k : ℕ} → WritesIn n w a u → WritesIn m u b v → n + m ≤ k
    → WritesIn k w (a ++ b) v
both_in {a = a} {b = b} first second h =
    record {
      wrote = writes_two first.wrote second.wrote;
      short = rw (length-append a b) (omega (arith, first.short, second.short));
    }

-- what room is left
pub room_after : {w u : Writer} {t : List ℕ} (n : ℕ) → Writes w t u → HasRoom (length t + n) w → HasRoom n u
room_after n h p = omega (arith, h.at_is, writes_length h)

pub room_after_in : {w u : Writer} {t : List ℕ} {k : ℕ} (n : ℕ) → WritesIn k w t u → HasRoom (k + n) w → HasRoom n u
room_after_in n h p = omega (arith, h.short, h.wrote.at_is, writes_length h.wrote)
