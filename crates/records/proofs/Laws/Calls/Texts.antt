-- What a call leaves: its text, and no more than there is room for.
use Rattle.std.proofs.Common.{◌≡◌, List, [], ℕ, ◌≤◌, length, arith}
use Rattle.records_model.specs.Machine.{finish_left, finished_by}
use Rattle.records.specs.declared.text.Writer.{Writer}
use Rattle.records.specs.Written.{Writes}
use Rattle.records.proofs.Laws.Writing.Slices.{written_none}

-- THE END
pub finished_nothing : (out : List ℕ) → finish_left out 0 ≡ finished_by [] out
finished_nothing out = rw (written_none out 0)

pub finished_is : (w u : Writer) (t : List ℕ) → w.at ≡ 0 → Writes w t u → finish_left u.out.now u.at ≡ finished_by t w.out.now
finished_is w u t none h =
    let long : u.at ≡ length t = omega (arith, h.at_is) in
    rw (long, h.slice_is, none)

-- what is written is within its slice
pub written_within : {w u : Writer} {t : List ℕ} → Writes w t u → u.at ≤ length w.out.now
written_within h = omega (arith, h.at_is, h.room)
