-- Both channels side by side: what sums the one leaves the other.
use Rattle.std.proofs.Common.{◌≡◌, ℕ, ◌<◌, ◌≤◌, List, get_or, ◌∙◌, arith}
use Rattle.plate.specs.Passes.{Channel, sums_end, matte_after, starts_at, SummedTo, Summed}
use Rattle.plate.specs.Showing.{BothSummed}
use Rattle.plate.proofs.Laws.Showing.Starts.{in_place}

-- a channel whose sums are not changed
summed_on : (p : Channel) (m s s' : List ℕ) (y : ℕ) → 0 < p.columns → y ≤ p.high
    → ((j : ℕ) → p.sums ≤ j → j < sums_end p → get_or s' j 0 ≡ get_or s j 0) → SummedTo p m s y → SummedTo p m s' y
unfolding starts_at
summed_on p m s s' y some low e old =
    record {
      third = λ x l. e _ (omega arith) (omega arith) ∙ old.third x l;
      second = λ x l. e _ (omega arith) (omega arith) ∙ old.second x l;
      falling_one =
          record {
            brings = λ r x f g l. let q = in_place p r (omega arith) in
                e _ (omega (arith, q.falling_one)) (omega (arith, q.falling_one_end)) ∙ old.falling_one.brings r x f g l;
            fresh = λ r f g. let q = in_place p r (omega arith) in
                e _ (omega (arith, q.falling_one)) (omega (arith, q.falling_one_end)) ∙ old.falling_one.fresh r f g;
          };
      falling_two =
          record {
            brings = λ r x f g l. let q = in_place p r (omega arith) in
                e _ (omega (arith, q.falling_two)) (omega (arith, q.falling_two_end)) ∙ old.falling_two.brings r x f g l;
            fresh = λ r f g. let q = in_place p r (omega arith) in
                e _ (omega (arith, q.falling_two)) (omega (arith, q.falling_two_end)) ∙ old.falling_two.fresh r f g;
          };
      rising_one =
          record {
            brings = λ r x f g l. let q = in_place p r (omega arith) in
                e _ (omega (arith, q.rising_one)) (omega (arith, q.rising_one_end)) ∙ old.rising_one.brings r x f g l;
            later = λ r f g. let q = in_place p r (omega arith) in
                e _ (omega (arith, q.rising_one)) (omega (arith, q.rising_one_end)) ∙ old.rising_one.later r f g;
          };
      rising_two =
          record {
            brings = λ r x f g l. let q = in_place p r (omega arith) in
                e _ (omega (arith, q.rising_two)) (omega (arith, q.rising_two_end)) ∙ old.rising_two.brings r x f g l;
            later = λ r f g. let q = in_place p r (omega arith) in
                e _ (omega (arith, q.rising_two)) (omega (arith, q.rising_two_end)) ∙ old.rising_two.later r f g;
          };
      finished = λ x l. e _ (omega arith) (omega arith) ∙ old.finished x l;
    }

-- light is summed, then matte
pub both-summed : (light : Channel) (m s s1 s2 : List ℕ) (y : ℕ) → 0 < light.columns → y ≤ light.high
    → Summed light m s s1 y → Summed (matte_after light) m s1 s2 y → BothSummed light m s s2 y
both-summed light m s s1 s2 y some low one two =
    record {
      same = two.only.same ∙ one.only.same;
      to =
          record {
            light_to = summed_on light m s1 s2 y some low (λ j f g. two.only.before j g) one.to;
            matte_to = two.to;
          };
    }
