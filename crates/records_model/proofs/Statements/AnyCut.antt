-- IN ANY CUT: a part that is handed on until it is consumed leaves what its bytes leave, fed one after another.
use mathlib.Core.Path.{◌≡◌, refl, ap, sym, ◌∙◌}
use mathlib.Core.List.{List, [], ◌∷◌, ◌++◌, append-nil}
use Prim.Native.Nat.{ℕ, zero, suc, ◌≤◌}
use native.Mathlib.Omega.{arith}
use lib.ListN.{length, take, drop, length-drop, take-append-drop}
use lib.Seq.{take-append_seam}
use Rattle.records_model.specs.Text.{with_text}
use Rattle.records_model.specs.Machine.{Progress, fed, feed_all, finish_of, takes, advance_call, finish_call, fresh, zeroed}
use Rattle.records_model.specs.Machine.{machine_text, BetweenCalls, after_call, calls_on, calls_on_parts, calls_text, joined}
use Rattle.records_model.specs.Machine.{AnyCut}
use Rattle.records_model.proofs.Running.Advancing.{fed-both, fed_after_lem, calls_go_on}

-- A CALL
-- what is written is the text
written_front : (t out : List ℕ) → take (length t) (with_text out 0 t) ≡ t
unfolding with_text
written_front t out = take-append_seam t _

-- where a run of calls stands
abbrev so_far : BetweenCalls → Progress
so_far c = fed c.machine c.buffers c.printed

call_is : (c : BetweenCalls) (part : List ℕ)
    → let l = advance_call c.machine part c.buffers c.out in
    so_far (after_call c.printed l) ≡ feed_all (so_far c) (take l.answer.consumed part)
unfolding advance_call
call_is c part =
    let start = fed c.machine c.buffers [] in
    let taken = take (takes start part) part in
    rw (written_front (feed_all start taken).text c.out)
    (sym (fed_after_lem c.printed start taken)
    ∙ ap (λ (t : List ℕ). feed_all (fed c.machine c.buffers t) taken) (append-nil c.printed))

-- A PART
part_is : (n : ℕ) (c : BetweenCalls) (part : List ℕ) → length part ≤ n → so_far (calls_on n c part) ≡ feed_all (so_far c) part
unfolding calls_on feed_all
part_is zero c [] h = refl
part_is zero c (x ∷ xs) h = absurd (omega arith)
part_is (suc n) c [] h = refl
part_is (suc n) c (x ∷ xs) h =
    let part = x ∷ xs in
    let l = advance_call c.machine part c.buffers c.out in
    let k = l.answer.consumed in
    part_is n (after_call c.printed l) (drop k part)
    (omega (arith, length-drop k part, (calls_go_on c.machine part c.buffers c.out).some (omega arith)))
    ∙ ap (λ (f : Progress). feed_all f (drop k part)) (call_is c part)
    ∙ sym (fed-both (so_far c) (take k part) (drop k part))
    ∙ ap (feed_all (so_far c)) (take-append-drop k part)

parts_are : (c : BetweenCalls) (parts : List (List ℕ)) → so_far (calls_on_parts c parts) ≡ feed_all (so_far c) (joined parts)
unfolding calls_on_parts joined feed_all
parts_are c [] = refl
parts_are c (part ∷ parts) =
    parts_are (calls_on (length part) c part) parts
    ∙ ap (λ (f : Progress). feed_all f (joined parts)) (part_is (length part) c part (omega arith))
    ∙ sym (fed-both (so_far c) part (joined parts))

-- and the end
end_is : (c : BetweenCalls) (parts : List (List ℕ))
    → let d = calls_on_parts c parts in
    let l = finish_call d.machine d.out in
    let f = feed_all (so_far c) (joined parts) in
    d.printed ++ take l.written l.out ≡ f.text ++ finish_of f.machine
unfolding finish_call
end_is c parts =
    let d = calls_on_parts c parts in
    rw (written_front (finish_of d.machine) d.out)
    (ap (λ (f : Progress). f.text ++ finish_of f.machine) (parts_are c parts))

pub any_cut : AnyCut
unfolding calls_text machine_text
any_cut out parts = end_is (record { machine = fresh; buffers = zeroed; out = out; printed = [] }) parts
