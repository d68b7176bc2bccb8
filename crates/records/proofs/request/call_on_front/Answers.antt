use Rattle.std.proofs.Common.{◌∙◌, ℕ, ◌*◌, ap}
use Rattle.plate_model.specs.Fixed.{planes_in_all}
use Rattle.plate_model.specs.Lent.{lent}
use Rattle.records_model.specs.Machine.{lent_cells, lent_places}
use Rattle.records.proofs.Laws.Lending.Requests.{request_is}
use Rattle.records.proofs.request.call_on_front.Goals as goal

pub returns : goal.returns
returns c =
    let a = c.args in
    let room = c.room-lent in
    request_is a.request (lent a.planes.now a.pixels.now a.log.now)
    (planes_in_all * room.result.cells) room.result.places c.call.result
    (ap (λ (n : ℕ). planes_in_all * n) (room.ensures.0 ∙ ap lent_cells c.size_of.ensures))
    (room.ensures.1 ∙ ap lent_places c.size_of.ensures) c.call.ensures
