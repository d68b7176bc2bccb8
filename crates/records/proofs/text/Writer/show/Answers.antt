use Rattle.std.proofs.Common.{◌≡◌, ◌∙◌, sym, List, ℕ, ◌+◌, ◌*◌, ◌<◌, ◌≤◌, length, take, drop, length-drop, ap, append-nil, inl, inr, rules, arith}
use native.Mathlib.Nat.{mul_comm}
use Rattle.kernels_model.proofs.Numbers.Choices.{by_lt}
use Rattle.kernels_model.proofs.Numbers.Products.{product_le}
use lib.Seq.{length-take-le}
use Rattle.std.proofs.lemmas.List.{length_push}
use Rattle.std.specs.Slice.Iter.{chunks_exact_rest}
use Rattle.records_model.specs.Text.{rows_text, show_text}
use Rattle.records.specs.Room.{line_room, row_room}
use Rattle.records.proofs.Laws.Writing.Slices.{room_after_in}
use Rattle.records.proofs.Laws.Writing.Rows.{PartOf, part_of, rows_fit, row_left, rows_go_on}
use Rattle.records.proofs.text.Writer.show.Goals as goal

pub loop-values-init : goal.loop-values-init
unfolding rows_text
loop-values-init c =
    record {
      can_next = search rules;
      finite = search rules;
      within = omega arith;
      by_rows = search rules;
      values_left = search rules;
      mattes_left = search rules;
      written = record { wrote = rw append-nil c.head.ensures.wrote; short = rw append-nil (omega (arith, c.head.ensures.short)) };
    }

pub row-requires : goal.row-requires
row-requires c =
    let here = c.loop-values.invariant in
    let step = c.in-Some.ensures.steps in
    let n = length c.loop-values.yielded in
    let w = c.args.size.width in
    let h = c.args.size.height in
    let long : length c.in-Some.values.now ≡ w = step.0.1.1 ∙ here.by_rows.0 in
    let value : PartOf c.args.values.now (w * h) n w c.in-Some.values.now (chunks_exact_rest c.next.new.self.a) =
    part_of _ _ _ _ _ _ _ c.requires.values_are c.requires.some here.values_left step.0.1.0 long in
    let fits = rows_fit w n h (row_left w n h value.within c.requires.some) in
    record {
      room = room_after_in (row_room (length c.in-Some.values.now)) here.written (rw long (omega (arith, fits, c.requires.room)));
      alike = step.1.1.1 ∙ here.by_rows.1 ∙ sym long;
    }

pub byte-requires : goal.byte-requires
byte-requires c =
    let here = c.loop-values.invariant in
    let step = c.in-Some.ensures.steps in
    let n = length c.loop-values.yielded in
    let w = c.args.size.width in
    let h = c.args.size.height in
    let long : length c.in-Some.values.now ≡ w = step.0.1.1 ∙ here.by_rows.0 in
    let value : PartOf c.args.values.now (w * h) n w c.in-Some.values.now (chunks_exact_rest c.next.new.self.a) =
    part_of _ _ _ _ _ _ _ c.requires.values_are c.requires.some here.values_left step.0.1.0 long in
    let fits = rows_fit w n h (row_left w n h value.within c.requires.some) in
    room_after_in 1 c.row.ensures (room_after_in _ here.written (rw long (omega (arith, fits, c.requires.room))))

pub loop-values-preserved : goal.loop-values-preserved
loop-values-preserved c =
    let here = c.loop-values.invariant in
    let step = c.in-Some.ensures.steps in
    let n = length c.loop-values.yielded in
    let w = c.args.size.width in
    let p = w * c.args.size.height in
    let more = length_push c.loop-values.yielded (c.in-Some.values, c.in-Some.mattes) in
    let value : PartOf c.args.values.now p n w c.in-Some.values.now (chunks_exact_rest c.next.new.self.a) =
    part_of _ _ _ _ _ _ _ c.requires.values_are c.requires.some here.values_left step.0.1.0 (step.0.1.1 ∙ here.by_rows.0) in
    let matte : PartOf c.args.mattes.now p n w c.in-Some.mattes.now (chunks_exact_rest c.next.new.self.b) =
    part_of _ _ _ _ _ _ _ c.requires.mattes_are c.requires.some here.mattes_left step.1.1.0 (step.1.1.1 ∙ here.by_rows.1) in
    record {
      can_next = search rules;
      finite = search rules;
      within = omega (arith, more, row_left w n c.args.size.height value.within c.requires.some);
      by_rows = (step.0.0 ∙ here.by_rows.0, step.1.0 ∙ here.by_rows.1);
      values_left = rw more value.rest_is;
      mattes_left = rw more matte.rest_is;
      written = rw more
          (rows_go_on _ _ _ _ _ line_room w n (step.0.1.1 ∙ here.by_rows.0) value.item_is matte.item_is here.written
          c.row.ensures c.byte.ensures);
    }

-- where no row is left, all are written
all_rows : (xs left : List ℕ) (w h n : ℕ) → w * h ≤ length xs → left ≡ drop (n * w) (take (w * h) xs) → length left < w → n ≤ h → n ≡ h
all_rows xs left w h n long e less most =
    let front = length-take-le (w * h) xs long in
    by_lt n h
    (λ few. absurd (omega (arith, product_le (n + 1) w h w (omega arith) (omega arith), mul_comm w h, ap length e, front, length-drop (n * w) (take (w * h) xs))))
    (λ all. omega arith)

pub returns : goal.returns
unfolding show_text
returns c =
    let here = c.loop-values.invariant in
    let n = length c.loop-values.yielded in
    let w = c.args.size.width in
    let h = c.args.size.height in
    let all : n ≡ h =
    elim c.in-None.ensures.steps [
      | inl u ↦ all_rows c.args.values.now _ w h n c.requires.values_are here.values_left (omega (arith, u.1.1.0, here.by_rows.0)) here.within
      | inr u ↦ all_rows c.args.mattes.now _ w h n c.requires.mattes_are here.mattes_left (omega (arith, u.1.1.0, here.by_rows.1)) here.within
    ] in
    (rw all at here.written).wrote
