use Rattle.std.proofs.Common.{ℕ, ◌*◌, ap}
use Rattle.plate_model.specs.Fixed.{planes_in_all, scratch_planes}
use Rattle.plate_model.specs.Lent.{views}
use Rattle.records.proofs.Laws.Lending.Requests.{show_is}
use Rattle.records.proofs.request.show_on_front.Goals as goal

pub returns-clause-shown : goal.returns-clause-shown
returns-clause-shown c =
    let a = c.args in
    let lent = c.room-lent in
    show_is a.state a.planes.now (views a.scratch.now a.values.now a.mattes.now)
    (planes_in_all * lent.result.cells) (scratch_planes * lent.result.cells) lent.result.places c.show.result
    (ap (λ (n : ℕ). planes_in_all * n) lent.ensures.0) (ap (λ (n : ℕ). scratch_planes * n) lent.ensures.0)
    lent.ensures.1 c.show.ensures
