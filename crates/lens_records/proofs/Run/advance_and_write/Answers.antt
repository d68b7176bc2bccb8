-- What the call took is fed, whether its text could be written or not.
use Rattle.std.proofs.lemmas.Result.{err_from_is_err_and}
use Rattle.lens_records.proofs.Laws.Feeding.Fronts.{call_fed}
use Rattle.lens_records.proofs.Run.advance_and_write.Goals as goal

pub returns : goal.returns
returns g c = call_fed _ _ _ _ c.advance_in-next.ensures.left

pub returns-in_err-write : goal.returns-in_err-write
returns-in_err-write g c =
    let p = err_from_is_err_and c.from_residual.result c.from_residual.ensures.1 in
    rw p.1 (_, call_fed _ _ _ _ c.advance_in-next.ensures.left)
