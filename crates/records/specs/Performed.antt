-- What the code of a task leaves.
use Rattle.std.specs.Prelude.{◌≡◌}
use Rattle.records_model.specs.declared.buffers.Buffers.{Buffers}
use Rattle.records_model.specs.declared.effect.Effect.{Effect}
use Rattle.records_model.specs.declared.request.Task.{Task}
use Rattle.records_model.specs.Machine.{did, performed}
use Rattle.records.specs.Room.{Printable}

-- a task done, with a reply whose text fits
pub record Performs (t : Task) (b : Buffers) (e : Effect) (kept : Buffers) : Type 0 where
  pub done : did e kept ≡ performed t b
  pub printable : Printable e.reply
