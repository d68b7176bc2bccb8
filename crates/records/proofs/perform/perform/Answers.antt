use Rattle.plate_model.specs.Lent.{views}
use Rattle.plate_model.specs.Refusal.{returned}
use Rattle.records_model.specs.Machine.{performed}
use Rattle.records.specs.Lending.{buffers_of}
use Rattle.records.proofs.Laws.Lending.ShowFits.{printable_answered, printable_pictures}
use Rattle.records.proofs.perform.perform.Goals as goal

pub returns-in-ToStand-clause-performs : goal.returns-in-ToStand-clause-performs
unfolding performed
returns-in-ToStand-clause-performs c = record { done = rw c.in-ToStand.is; printable = tt }

pub returns-in-ToStop-clause-performs : goal.returns-in-ToStop-clause-performs
unfolding performed
returns-in-ToStop-clause-performs c =
    record { done = rw (c.in-ToStop.is, c.stopping.ensures); printable = rw c.stopping.ensures tt }

pub returns-in-ToCall-clause-performs : goal.returns-in-ToCall-clause-performs
unfolding performed
returns-in-ToCall-clause-performs c =
    record {
      done = rw (c.in-ToCall.is, ← c.call_on_front-a.ensures, c.answered.ensures);
      printable = rw c.answered.ensures (printable_answered c.in-ToCall.request (returned c.call_on_front-a.result));
    }

pub returns-in-ToShow-clause-performs : goal.returns-in-ToShow-clause-performs
unfolding performed
returns-in-ToShow-clause-performs c =
    let b = buffers_of c.args.buffers.now in
    let show = c.show_on_front-a.ensures in
    let fits = printable_pictures c.in-ToShow.state b.planes (views b.scratch b.values b.mattes) show.planes_are in
    record {
      done = rw (c.in-ToShow.is, ← show.shown, c.going_on.ensures);
      printable = rw c.going_on.ensures (rw (← show.shown) at fits);
    }
