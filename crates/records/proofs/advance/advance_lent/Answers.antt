use Rattle.std.proofs.Common.{◌∙◌, refl, ap, length, rules, arith}
use Rattle.records.proofs.Laws.Calls.Texts.{written_within}
use Rattle.records.proofs.Laws.Calls.Reached.{reached_start, reached_next, reached_full, reached_end}
use Rattle.records.proofs.Laws.Writing.Slices.{writes_length}
use Rattle.records.proofs.advance.advance_lent.Goals as goal

pub loop-consumed-init : goal.loop-consumed-init
loop-consumed-init c =
    record {
      same_slice = refl;
      same_arrays = search rules;
      reached = reached_start c.args.m _ c.args.input.now _ (omega arith);
    }

pub returns-then-text-gt-FULL-clause-left : goal.returns-then-text-gt-FULL-clause-left
returns-then-text-gt-FULL-clause-left c =
    rw (← c.new-text.ensures.slice)
    (reached_full c.loop-consumed.invariant.reached c.new-text.ensures.none _ refl (omega arith))

pub returns-then-text-gt-FULL-clause-within : goal.returns-then-text-gt-FULL-clause-within
returns-then-text-gt-FULL-clause-within c =
    omega (arith, written_within c.loop-consumed.invariant.reached.text_is, ap length c.new-text.ensures.slice)

pub feed-machine-requires : goal.feed-machine-requires
feed-machine-requires c =
    omega (arith, writes_length c.loop-consumed.invariant.reached.text_is, ap length c.new-text.ensures.slice)

pub loop-consumed-preserved : goal.loop-consumed-preserved
loop-consumed-preserved c =
    let here = c.loop-consumed.invariant in
    let fed = c.feed-machine.ensures in
    record {
      same_slice = fed.text.same_slice ∙ here.same_slice;
      same_arrays = search (rules, here.same_arrays, fed.same_arrays);
      reached = reached_next here.reached c.new-text.ensures.none _ refl (omega arith) (omega arith)
          fed.machine fed.buffers fed.text;
    }

pub returns-clause-left : goal.returns-clause-left
returns-clause-left c =
    rw (← c.new-text.ensures.slice)
    (reached_end c.loop-consumed.invariant.reached c.new-text.ensures.none _ (omega arith) (omega arith))

pub returns-clause-within : goal.returns-clause-within
returns-clause-within c =
    omega (arith, written_within c.loop-consumed.invariant.reached.text_is, ap length c.new-text.ensures.slice)
