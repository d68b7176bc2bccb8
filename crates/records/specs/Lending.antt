-- What a call of advance is lent: the lists behind the arrays, and which arrays they are.
use Rattle.std.specs.Prelude.{◌≡◌}
use Rattle.records_model.specs.declared.buffers.Buffers.{Buffers}
use Rattle.records_model.specs.Machine.{buffers}
use Rattle.records.specs.declared.lent.LentBuffers.{LentBuffers}

abbrev pub buffers_of : LentBuffers → Buffers
buffers_of l = buffers l.planes.now l.pixels.now l.log.now l.scratch.now l.values.now l.mattes.now

-- the arrays that were lent are lent still, whatever they hold
pub record SameArrays (before after : LentBuffers) : Type 0 where
  pub planes : after.planes.ghost_name ≡ before.planes.ghost_name
  pub pixels : after.pixels.ghost_name ≡ before.pixels.ghost_name
  pub log : after.log.ghost_name ≡ before.log.ghost_name
  pub scratch : after.scratch.ghost_name ≡ before.scratch.ghost_name
  pub values : after.values.ghost_name ≡ before.values.ghost_name
  pub mattes : after.mattes.ghost_name ≡ before.mattes.ghost_name
