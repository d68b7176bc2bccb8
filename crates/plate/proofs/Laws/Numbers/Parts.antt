-- A part of a list that is given other numbers: the cells around it are as they were.
use Rattle.std.proofs.Common.{◌≡◌, ℕ, ◌+◌, ◌-◌, ◌<◌, ◌≤◌, List, ◌++◌, length, get_or, take, map, sym, ap, ◌∙◌, arith, length-take-le, get_or-drop, get_or-take, get_or-append-add}
use Rattle.std.specs.List.{between}
use Rattle.std.proofs.lemmas.List.{length-map, get_or-map}
use Rattle.std.proofs.lemmas.List.Edits.{length-between, get_or-between}
use lib.ListN.{length-replicate, get_or-replicate, get_or-append}
use borrow.Rule.Slice.PartMut.{mid_of, post_of, put_mid, same_len_mid, mid_len}
use Rattle.kernels_model.specs.Listed.{zeros}
use Rattle.kernels_model.proofs.Numbers.Choices.{by_lt}
use Rattle.plate.specs.Passes.{Written}

-- the cells from a on, up to e
module _ (s ys : List ℕ) (a e : ℕ) (low : a ≤ e) (top : e ≤ length s) (many : length ys ≡ e - a) where
  first : length (take a s) ≡ a
  first = length-take-le a s (omega arith)

  -- counted from a on
  from : (j : ℕ) → get_or (put_mid a (e - a) s ys) (a + j) 0 ≡ get_or (ys ++ post_of a (e - a) s) j 0
  from j =
      let at : a + j ≡ length (take a s) + j = omega (arith, first) in
      ap (λ (k : ℕ). get_or (put_mid a (e - a) s ys) k 0) at ∙ get_or-append-add (take a s) (ys ++ post_of a (e - a) s) j 0

  before : (j : ℕ) → j < a → get_or (put_mid a (e - a) s ys) j 0 ≡ get_or s j 0
  before j l = get_or-append (take a s) _ 0 j (omega (arith, first)) ∙ get_or-take a s j 0 l

  after : (j : ℕ) → e ≤ j → get_or (put_mid a (e - a) s ys) j 0 ≡ get_or s j 0
  after j l =
      let at : j ≡ a + (length ys + (j - e)) = omega (arith, many) in
      let back : a + (e - a + (j - e)) ≡ j = omega arith in
      ap (λ (k : ℕ). get_or (put_mid a (e - a) s ys) k 0) at
      ∙ from (length ys + (j - e))
      ∙ get_or-append-add ys (post_of a (e - a) s) (j - e) 0
      ∙ get_or-drop (e - a) _ (j - e) 0
      ∙ get_or-drop a s (e - a + (j - e)) 0
      ∙ ap (λ (k : ℕ). get_or s k 0) back

  pub part_written : (v : ℕ → ℕ → ℕ) → ((i : ℕ) → i < e - a → get_or ys i 0 ≡ v 0 i)
      → Written 1 (e - a) (λ c. a) v s (put_mid a (e - a) s ys)
  part_written v is =
      record {
        same = same_len_mid a (e - a) s ys (many ∙ sym (mid_len a e s top));
        done = λ c i l h.
            let z : c ≡ 0 = omega arith in
            rw z (from i ∙ get_or-append ys _ 0 i (omega (arith, many)) ∙ is i h);
        rest = λ j out.
            by_lt j a
            (before j)
            (λ g. by_lt j e
            (λ h. absurd (out 0 (j - a) (omega arith) (omega arith) (omega arith)))
            (after j));
      }

-- where it is cleared
pub part_cleared : (s ys : List ℕ) (a e : ℕ) → a ≤ e → e ≤ length s → ys ≡ zeros (length (mid_of a (e - a) s))
    → Written 1 (e - a) (λ c. a) (λ c i. 0) s (put_mid a (e - a) s ys)
part_cleared s ys a e low top none =
    let many : length ys ≡ e - a = ap length none ∙ length-replicate (length (mid_of a (e - a) s)) 0 ∙ mid_len a e s top in
    part_written s ys a e low top many (λ c i. 0)
    (λ i h. rw none (get_or-replicate (length (mid_of a (e - a) s)) i 0 0 (omega (arith, mid_len a e s top))))

-- where each number becomes another by it alone
pub part_mapped : (f : ℕ → ℕ) (s ys : List ℕ) (a e : ℕ) → a ≤ e → e ≤ length s → ys ≡ map f (mid_of a (e - a) s)
    → Written 1 (e - a) (λ c. a) (λ c i. f (get_or s (a + i) 0)) s (put_mid a (e - a) s ys)
part_mapped f s ys a e low top mapped =
    let some = mid_len a e s top in
    let many : length ys ≡ e - a = ap length mapped ∙ length-map (mid_of a (e - a) s) f ∙ some in
    part_written s ys a e low top many (λ c i. f (get_or s (a + i) 0))
    (λ i h. ap (λ (l : List ℕ). get_or l i 0) mapped ∙ get_or-map f (mid_of a (e - a) s) i 0 0 (omega (arith, some))
    ∙ ap f (get_or-take (e - a) _ i 0 h ∙ get_or-drop a s i 0))

-- where it is a copy of cells that lie from l on in another list
pub part_copied : (q s ys : List ℕ) (l l' a e n : ℕ) → n ≡ e - a → a ≤ e → e ≤ length s → l' ≡ l + n → l' ≤ length q
    → ys ≡ between l l' q
    → Written 1 n (λ c. a) (λ c i. get_or q (l + i) 0) s (put_mid a (e - a) s ys)
part_copied q s ys l l' a e n many low top l_end l_in copied =
    let long : length ys ≡ e - a = ap length copied ∙ length-between q l l' l_in ∙ omega arith in
    rw many
    (part_written s ys a e low top long (λ c i. get_or q (l + i) 0)
    (λ i h. ap (λ (z : List ℕ). get_or z i 0) copied ∙ get_or-between q l l' i 0 (omega arith)))
