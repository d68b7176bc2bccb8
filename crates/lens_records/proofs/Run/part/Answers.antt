-- What a call took of the rest stands behind what was fed before it.
use Rattle.std.proofs.Common.{◌≡◌, ◌-◌, ◌+◌, length, take, drop, ◌∙◌, refl, ap, arith, length-drop}
use lib.Seq.{take_all, drop-drop}
use Rattle.lens_records.proofs.Laws.Feeding.Fronts.{fed-none, fed_on_lem}
use Rattle.lens_records.proofs.Run.part.Goals as goal

pub loop-rest-init : goal.loop-rest-init
loop-rest-init g c =
    let none : length c.args.input.now - length c.args.input.now ≡ 0 = omega arith in
    rw none (record { within = omega arith; rest_is = refl; fed_to = fed-none _ _ })

pub loop-rest-preserved : goal.loop-rest-preserved
loop-rest-preserved g c =
    let here = c.loop-rest.invariant in
    let input = c.args.input.now in
    let rest = c.loop-rest.rest.now in
    let n = c.in_ok-consumed.consumed in
    let fed = c.in_ok-consumed.ensures in
    let left : take (length rest - n) (drop n rest) ≡ drop n rest =
    take_all (length rest - n) (drop n rest) (omega (arith, length-drop n rest)) in
    let i = length input - length rest in
    let next : length input - (length rest - n) ≡ i + n = omega (arith, fed.taking.within, here.within) in
    rw (left, length-drop n rest, next)
    (record {
      within = omega (arith, here.within);
      rest_is = ap (drop n) here.rest_is ∙ drop-drop n i input;
      fed_to = fed_on_lem _ _ input i n _ _ _ _ here.fed_to (rw here.rest_is at fed.fed_to);
    })
