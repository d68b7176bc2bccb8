use Rattle.std.proofs.Common.{◌/◌, ◌^◌, sym, ◌∙◌, arith, rules, le-ltb, lt-ltb, le-leb}
use lib.Bits.{and_mask}
use Rattle.kernels_model.proofs.Taps.ShapeNumbers.{shape_read_lem}
use Rattle.plate_model.specs.Fixed.{word_bits}
use Rattle.plate_model.specs.Word.{read_word}
use Rattle.plate.proofs.Laws.Words.Fields.{low_word}
use Rattle.plate.proofs.word.unpack.Goals as goal

pub returns-then-word-ne0 : goal.returns-then-word-ne0
unfolding read_word
returns-then-word-ne0 c = rw (le-leb (2 ^ word_bits) c.args.word (omega arith))

pub returns-in_err-shape : goal.returns-in_err-shape
returns-in_err-shape c = rw (low_word c.args.reach c.args.word _ (omega arith) (sym (shape_read_lem _ _ c.try_from.ensures) ∙ sym c.ok.ensures.value ∙ c.in_err-shape.was)) (search rules)

pub returns-then-top_under-radius : goal.returns-then-top_under-radius
returns-then-top_under-radius c =
    let w = c.args.word in
    rw (
      low_word c.args.reach c.args.word _ (omega arith) (sym (shape_read_lem _ _ c.try_from.ensures) ∙ sym c.ok.ensures.value ∙ c.in_ok-shape.was),
      ← c.top_under.ensures,
      ← and_mask (w / 2 ^ 24) 8,
      lt-ltb _ _ c.if-top_under-radius.true,
    )

pub returns : goal.returns
returns c =
    let w = c.args.word in
    rw (
      low_word c.args.reach c.args.word _ (omega arith) (sym (shape_read_lem _ _ c.try_from.ensures) ∙ sym c.ok.ensures.value ∙ c.in_ok-shape.was),
      ← c.top_under.ensures,
      ← and_mask w 12,
      ← and_mask (w / 2 ^ 12) 8,
      ← and_mask (w / 2 ^ 24) 8,
      le-ltb _ _ c.if-top_under-radius.false,
    )
