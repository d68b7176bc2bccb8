-- A part of the input, byte after byte: what is fed, how many bytes a call takes, and that each call goes on.
use mathlib.Core.Path.{◌≡◌, refl, ap}
use mathlib.Core.List.{List, [], ◌∷◌, ◌++◌, append_assoc}
use Prim.Native.Nat.{ℕ, suc, ◌+◌, ◌≤◌, ◌<◌}
use native.Mathlib.Numerals.{add-one}
use native.Mathlib.Omega.{arith}
use borrow.Author.Tests.{lt-ltb, le-ltb}
use lib.ListN.{length, take, get_or}
use lib.Seq.{take-suc}
use Rattle.kernels_model.proofs.Numbers.Choices.{by_lt}
use Rattle.records_model.specs.Fixed.{full_from}
use Rattle.records_model.specs.Machine.{Machine, Buffers, Progress, fed, fed_then, fed_on, feed_of, feed_all, takes, Advanced}
use Rattle.records_model.specs.Machine.{AdvanceLeft, advance_left, advance_call, Taking, GoesOn}

-- FED IN TURN
pub fed-both : (f : Progress) (xs ys : List ℕ) → feed_all f (xs ++ ys) ≡ feed_all (feed_all f xs) ys
unfolding feed_all
fed-both f [] ys = refl
fed-both f (x ∷ xs) ys = fed-both (fed_on f x) xs ys

-- a text from before stays before
pub fed_after_lem : (t : List ℕ) (f : Progress) (xs : List ℕ) → feed_all (fed_then t f) xs ≡ fed_then t (feed_all f xs)
unfolding feed_all
fed_after_lem t f [] = refl
fed_after_lem t f (x ∷ xs) =
    let g = feed_of f.machine x f.buffers in
    rw (append_assoc t f.text g.text) (fed_after_lem t (fed_then f.text g) xs)

-- a byte more
pub fed-next : (f : Progress) (input : List ℕ) (i : ℕ) → i < length input
    → feed_all f (take (i + 1) input) ≡ fed_on (feed_all f (take i input)) (get_or input i 0)
unfolding feed_all
fed-next f input i h = rw (add-one i, take-suc input i 0 h) (fed-both f (take i input) (get_or input i 0 ∷ []))

-- THE BYTES THAT ARE TAKEN
pub takes_none : (f : Progress) (xs : List ℕ) → full_from < length f.text → takes f xs ≡ 0
unfolding takes
takes_none f [] h = refl
takes_none f (x ∷ xs) h = rw (lt-ltb full_from (length f.text) h)

pub takes-next : (f : Progress) (x : ℕ) (xs : List ℕ) → length f.text ≤ full_from
    → takes f (x ∷ xs) ≡ suc (takes (fed_on f x) xs)
unfolding takes
takes-next f x xs h = rw (le-ltb full_from (length f.text) h)

takes_some : (f : Progress) (xs : List ℕ) → length f.text ≤ full_from → 0 < length xs → 0 < takes f xs
takes_some f [] h some = absurd (omega arith)
takes_some f (x ∷ xs) h some = rw (takes-next f x xs h) (omega arith)

takes-within : (f : Progress) (xs : List ℕ) → takes f xs ≤ length xs
unfolding takes
takes-within f [] = omega arith
takes-within f (x ∷ xs) =
    by_lt full_from (length f.text)
    (λ h. rw (lt-ltb full_from (length f.text) h) (omega arith))
    (λ h. rw (le-ltb full_from (length f.text) h) (omega (arith, takes-within (fed_on f x) xs)))

-- EACH CALL GOES ON
pub calls_go_on : GoesOn
unfolding advance_call
calls_go_on m part b out =
    record { some = takes_some (fed m b []) part (omega arith); within = takes-within (fed m b []) part }

-- said of a call that has been made
pub call_goes_on : {a : Advanced} {b : Buffers} {after : List ℕ} (m : Machine) (part : List ℕ) (held : Buffers) (out : List ℕ)
    → advance_left a b after ≡ advance_call m part held out → Taking a.consumed part
call_goes_on m part held out e = rw (ap (λ (l : AdvanceLeft). l.answer.consumed) e) (calls_go_on m part held out)
