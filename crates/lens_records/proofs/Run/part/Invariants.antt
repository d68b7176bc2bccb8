-- Each call takes a byte or more of the rest, and no more than there is; after it a longer front of the part is fed, and at the
-- end all of it.
use Rattle.std.proofs.Common.{◌≡◌, length, ◌-◌, ◌≤◌, take, drop}
use Rattle.lens_records.specs.Feeding.{FedTo}
use Rattle.lens_records.proofs.Run.part.Given as goal

abbrev pub invariant-loop-rest : goal.invariant-loop-rest
invariant-loop-rest g l =
    record {
      within : length l.rest ≤ length l.input;
      rest_is : l.rest ≡ drop (length l.input - length l.rest) l.input;
      fed_to : FedTo l.fn.self.machine l.fn.self.buffers (take (length l.input - length l.rest) l.input) l.self.machine l.self.buffers;
    }

abbrev pub decreases-loop-rest : goal.decreases-loop-rest
decreases-loop-rest g l = length l.rest
