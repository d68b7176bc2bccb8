use Rattle.records_model.specs.Machine.{feed_of}
use Rattle.records.proofs.advance.feed.Goals as goal

pub returns-clause-machine : goal.returns-clause-machine
unfolding feed_of
returns-clause-machine c = rw (← c.take-taken.ensures, ← c.perform-effect.ensures.performs.done)

pub returns-clause-buffers : goal.returns-clause-buffers
unfolding feed_of
returns-clause-buffers c = rw (← c.take-taken.ensures, ← c.perform-effect.ensures.performs.done)

pub returns-clause-text : goal.returns-clause-text
unfolding feed_of
returns-clause-text c = rw (← c.take-taken.ensures, ← c.perform-effect.ensures.performs.done) c.reply.ensures
