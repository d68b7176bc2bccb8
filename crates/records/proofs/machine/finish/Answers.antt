use Rattle.std.proofs.Common.{ap, length, arith}
use Rattle.records_model.specs.Machine.{finish_call, finish_of}
use Rattle.records.proofs.Laws.Calls.Texts.{finished_nothing, finished_is, written_within}
use Rattle.records.proofs.machine.finish.Goals as goal

pub returns-then-ended-clause-left : goal.returns-then-ended-clause-left
unfolding finish_call finish_of
returns-then-ended-clause-left c = rw (← c.ended.ensures, c.if-ended.true) (finished_nothing c.args.out.now)

pub returns-clause-left : goal.returns-clause-left
unfolding finish_call finish_of
returns-clause-left c =
    rw (← c.ended.ensures, c.if-ended.false, ← c.new-text.ensures.slice) (finished_is _ _ _ c.new-text.ensures.none c.end.ensures)

pub returns-clause-within : goal.returns-clause-within
returns-clause-within c = omega (arith, written_within c.end.ensures, ap length c.new-text.ensures.slice)
