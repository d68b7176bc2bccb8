use Rattle.std.proofs.Common.{◌≡◌, None, length, length-drop, refl, ap, rules, arith}
use Rattle.std.proofs.lemmas.Iterator.{empty_from_Zip}
use Rattle.std.proofs.lemmas.List.{length_push}
use Rattle.std.specs.Slice.Iter.{iter_rest}
use Rattle.records_model.specs.Text.{row_text}
use Rattle.records.proofs.Laws.Writing.Slices.{writes_nothing, room_after, room_after_in}
use Rattle.records.proofs.Laws.Writing.Rows.{NextOf, next_of, row_begins, row_goes_on}
use Rattle.records.proofs.text.Writer.row.Goals as goal
use Rattle.records.proofs.text.Writer.row.Goals.{then-place-gt0, else-place-gt0}

pub loop-place-init : goal.loop-place-init
unfolding row_text
loop-place-init c =
    record {
      can_next = search rules;
      finite = search rules;
      counted = search rules;
      within = omega arith;
      values_left = search rules;
      mattes_left = search rules;
      written = record { wrote = writes_nothing _ (omega arith); short = omega arith };
    }

pub byte-requires : goal.byte-requires
byte-requires c =
    let here = c.loop-place.invariant in
    let value : NextOf c.args.values.now (length c.loop-place.yielded) c.in-Some.value.now (iter_rest c.next.new.self.iter.a) =
    next_of _ _ _ _ _ here.values_left c.in-Some.ensures.steps.0.0 in
    room_after_in 1 here.written (omega (arith, c.requires.room, value.within))

pub cell-requires : goal.cell-requires
cell-requires c =
    let here = c.loop-place.invariant in
    let value : NextOf c.args.values.now (length c.loop-place.yielded) c.in-Some.value.now (iter_rest c.next.new.self.iter.a) =
    next_of _ _ _ _ _ here.values_left c.in-Some.ensures.steps.0.0 in
    elim c.if-place-gt0.branch [
      | then-place-gt0 w ↦ rw w.self-is (room_after 9 w.byte.ensures (room_after_in 10 here.written (omega (arith, c.requires.room, value.within))))
      | else-place-gt0 w ↦ rw w.self-is (room_after_in 9 here.written (omega (arith, c.requires.room, value.within)))
    ]

pub loop-place-preserved : goal.loop-place-preserved
loop-place-preserved c =
    let here = c.loop-place.invariant in
    let step = c.in-Some.ensures.steps in
    let n = length c.loop-place.yielded in
    let more = length_push c.loop-place.yielded (c.in-Some.place, (c.in-Some.value, c.in-Some.matte)) in
    let value : NextOf c.args.values.now n c.in-Some.value.now (iter_rest c.next.new.self.iter.a) =
    next_of _ _ _ _ _ here.values_left step.0.0 in
    let matte : NextOf c.args.mattes.now n c.in-Some.matte.now (iter_rest c.next.new.self.iter.b) =
    next_of _ _ _ _ _ here.mattes_left step.0.1 in
    record {
      can_next = search rules;
      finite = search rules;
      counted = omega (arith, more, step.2, here.counted);
      within = omega (arith, more, value.within);
      values_left = rw more value.rest_is;
      mattes_left = rw more matte.rest_is;
      written = rw more
          (elim c.if-place-gt0.branch [
            | then-place-gt0 w ↦ row_goes_on _ _ n (omega (arith, w.if-place-gt0.true, step.1, here.counted)) value.item_is matte.item_is
                here.written w.byte.ensures (rw w.self-is at c.cell.ensures)
            | else-place-gt0 w ↦ row_begins _ _ n (omega (arith, w.if-place-gt0.false, step.1, here.counted)) value.item_is matte.item_is
                here.written (rw w.self-is at c.cell.ensures)
          ]);
    }

pub returns : goal.returns
returns c =
    let here = c.loop-place.invariant in
    let xs = c.args.values.now in
    let left : length (iter_rest c.loop-place.place-iterator.iter.a) ≡ length (iter_rest c.loop-place.place-iterator.iter.b) =
    rw (here.values_left, here.mattes_left, length-drop, length-drop) (omega (arith, c.requires.alike)) in
    let none = empty_from_Zip c.loop-place.place-iterator.iter c.next.new.self.iter None refl c.in-None.ensures.steps.0 left in
    let all : length c.loop-place.yielded ≡ length xs =
    omega (arith, length-drop (length c.loop-place.yielded) xs, ap length here.values_left, ap length none.0, here.within) in
    rw all at here.written
