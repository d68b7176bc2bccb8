-- What the program's own contracts say: which bytes of what it read have been fed. What becomes of their text, no contract can
-- say.
use Rattle.std.specs.Prelude.{◌≡◌, List, [], ℕ, take}
use Rattle.records_model.specs.declared.machine.Machine.{Machine}
use Rattle.records_model.specs.declared.buffers.Buffers.{Buffers}
use Rattle.records_model.specs.Machine.{fed, feed_all, Taking}

-- the machine and the buffers are what these bytes make of them, fed one after another
pub record FedTo (m : Machine) (b : Buffers) (bytes : List ℕ) (after : Machine) (held : Buffers) : Type 0 where
  pub machine_is : after ≡ (feed_all (fed m b []) bytes).machine
  pub buffers_are : held ≡ (feed_all (fed m b []) bytes).buffers

-- the first n bytes of a part are, and there is one of them unless the part is empty
pub record FedFront (m : Machine) (b : Buffers) (part : List ℕ) (n : ℕ) (after : Machine) (held : Buffers) : Type 0 where
  pub taking : Taking n part
  pub fed_to : FedTo m b (take n part) after held
