use Rattle.std.proofs.lemmas.Result.{err_from_is_err_and}
use Rattle.kernels_model.specs.Fixed.{depth_top}
use Rattle.plate_model.specs.Refusal.{refuse_if, shape_check, layer_check}
use Rattle.kernels_model.proofs.Taps.ShapeNumbers.{shape_read_lem}
use Rattle.plate.proofs.Laws.Checks.Scans.{above_found}
use Rattle.plate.proofs.layer.read_inputs.Goals as goal

pub returns-then-value_above : goal.returns-then-value_above
unfolding layer_check refuse_if
returns-then-value_above c = λ opacities. rw (← c.value_above.ensures, c.if-value_above.true)

pub returns-in_err-shape : goal.returns-in_err-shape
unfolding layer_check refuse_if shape_check
returns-in_err-shape c =
    let p = err_from_is_err_and c.from_residual.result c.from_residual.ensures.1 in
    λ opacities. rw (
      p.1,
      p.2,
      ← c.value_above.ensures,
      c.if-value_above.false,
      ← shape_read_lem _ _ c.try_from.ensures,
      c.in_err-shape.was,
    )

pub returns-then-not-lawful_lens : goal.returns-then-not-lawful_lens
unfolding layer_check refuse_if shape_check
returns-then-not-lawful_lens c = λ opacities. rw (← c.value_above.ensures, c.if-value_above.false, ← shape_read_lem _ _ c.try_from.ensures, c.in_ok-shape.was, ← c.lawful_lens.ensures, c.if-not-lawful_lens.true)

pub returns-then-depth_between : goal.returns-then-depth_between
unfolding layer_check refuse_if shape_check
returns-then-depth_between c = λ opacities. rw (← c.value_above.ensures, c.if-value_above.false, ← shape_read_lem _ _ c.try_from.ensures, c.in_ok-shape.was, ← c.lawful_lens.ensures, c.if-not-lawful_lens.false, ← above_found depth_top _ _ c.depth_between.ensures.value c.depth_between.ensures.i_bound, c.if-depth_between.true)

pub returns-then-depth_between-2 : goal.returns-then-depth_between-2
unfolding layer_check refuse_if shape_check
returns-then-depth_between-2 c = λ opacities. rw (← c.value_above.ensures, c.if-value_above.false, ← shape_read_lem _ _ c.try_from.ensures, c.in_ok-shape.was, ← c.lawful_lens.ensures, c.if-not-lawful_lens.false, ← above_found depth_top _ _ c.depth_between.ensures.value c.depth_between.ensures.i_bound, c.if-depth_between.false, ← c.depth_between-2.ensures.value, c.if-depth_between-2.true)

pub returns : goal.returns
unfolding layer_check refuse_if shape_check
returns c = λ opacities. rw (← c.value_above.ensures, c.if-value_above.false, ← shape_read_lem _ _ c.try_from.ensures, c.in_ok-shape.was, ← c.lawful_lens.ensures, c.if-not-lawful_lens.false, ← above_found depth_top _ _ c.depth_between.ensures.value c.depth_between.ensures.i_bound, c.if-depth_between.false, ← c.depth_between-2.ensures.value, c.if-depth_between-2.false, c.layer_of.ensures)
