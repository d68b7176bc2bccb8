-- The log of a pile: as put and undo make it, and as the notebook says it, "from its bottom, and zeros after".
use mathlib.Core.Path.{◌≡◌, refl, ap, sym, ◌∙◌}
use mathlib.Core.List.{List, [], ◌∷◌}
use Prim.Native.Nat.{ℕ, suc, ◌-◌, ◌≤◌, ◌<◌}
use native.Mathlib.Omega.{arith}
use lib.ListN.{get_or, set, length, length-set, length-replicate, length-append}
use lib.Seq.{get_or-set_same, get_or-set_other, set-set, set-get_or, set_at, append_snoc}
use Rattle.plate_model.specs.Word.{Entry, entry_of}
use Rattle.kernels_model.specs.Listed.{zeros}
use Rattle.plate_model.specs.Notebook.{from_bottom, log_of}
use Rattle.plate_model.proofs.Numbers.Lists.{get_or_zeros}

-- as put makes it, entry by entry
unfoldable pub log_by : ℕ → List Entry → List ℕ
log_by room [] = zeros room
log_by room (e ∷ pile) = set (log_by room pile) (length pile) (entry_of e)

pub log_length : (room : ℕ) (pile : List Entry) → length (log_by room pile) ≡ room
unfolding log_by
log_length room [] = length-replicate room 0
log_length room (e ∷ pile) = length-set (log_by room pile) _ _ ∙ log_length room pile

bottom_length : (pile : List Entry) → length (from_bottom pile) ≡ length pile
unfolding from_bottom
bottom_length [] = refl
bottom_length (e ∷ pile) = length-append (from_bottom pile) (entry_of e ∷ []) ∙ omega (arith, bottom_length pile)

-- it is the pile from its bottom, and zeros after
pub log_from_bottom : (room : ℕ) (pile : List Entry) → length pile ≤ room → log_by room pile ≡ log_of room pile
unfolding log_by log_of from_bottom
log_from_bottom room [] h = let e : room ≡ room - 0 = omega arith in ap (λ (n : ℕ). zeros n) e
log_from_bottom room (e ∷ pile) h =
    let after = zeros (room - suc (length pile)) in
    let m : room - length pile ≡ suc (room - suc (length pile)) = omega arith in
    rw (log_from_bottom room pile (omega arith), m)
    (set_at (from_bottom pile) 0 after (entry_of e) (length pile) (bottom_length pile)
    ∙ sym (append_snoc (from_bottom pile) (entry_of e) after))

log_above : (room : ℕ) (pile : List Entry) (j : ℕ) → length pile ≤ j → get_or (log_by room pile) j 0 ≡ 0
unfolding log_by
log_above room [] j h = get_or_zeros room j
log_above room (e ∷ pile) j h =
    get_or-set_other (log_by room pile) (length pile) j _ 0 (omega arith) ∙ log_above room pile j (omega arith)

-- the last entry
pub log_top_fact : (room : ℕ) (e : Entry) (pile : List Entry) → length pile < room
    → get_or (log_by room (e ∷ pile)) (length pile) 0 ≡ entry_of e
unfolding log_by
log_top_fact room e pile h = get_or-set_same (log_by room pile) (length pile) (entry_of e) 0 (omega (arith, log_length room pile))

-- the last entry set to zero: the log of the pile without its top
pub log_undone : (room : ℕ) (e : Entry) (pile : List Entry) → set (log_by room (e ∷ pile)) (length pile) 0 ≡ log_by room pile
unfolding log_by
log_undone room e pile =
    let z = log_above room pile (length pile) (omega arith) in
    set-set (log_by room pile) (length pile) (entry_of e) 0
    ∙ ap (λ (n : ℕ). set (log_by room pile) (length pile) n) (sym z)
    ∙ set-get_or (log_by room pile) (length pile) 0
