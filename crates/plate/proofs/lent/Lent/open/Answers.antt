use Rattle.plate_model.specs.Calls.{open_call, open_by}
use Rattle.plate.proofs.lent.Lent.open.Goals as goal

pub returns-in-Err-clause-left : goal.returns-in-Err-clause-left
unfolding open_call open_by
returns-in-Err-clause-left c =
    let zero = c.default.ensures in
    rw (
      c.refused.ensures,
      zero.0.0,
      zero.0.1.0,
      zero.0.1.1,
      zero.1,
      ← c.lengths.ensures,
      ← c.check_open.ensures,
      c.in-Err.is,
    )

pub returns-clause-left : goal.returns-clause-left
unfolding open_call open_by
returns-clause-left c =
    rw (
      c.accepted.ensures,
      ← c.lengths.ensures,
      ← c.check_open.ensures,
      c.in_default.is,
      c.clear.ensures,
      c.clear-2.ensures,
      c.clear-3.ensures,
    )
