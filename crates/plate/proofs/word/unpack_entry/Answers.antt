use Rattle.std.proofs.Common.{arith, sym, ◌∙◌, rules, le-leb}
use Rattle.plate_model.specs.Word.{read_entry}
use Rattle.plate.proofs.Laws.Words.Fields.{placed_entry}
use Rattle.plate.proofs.word.unpack_entry.Goals as goal

pub returns-then-places-place : goal.returns-then-places-place
unfolding read_entry
returns-then-places-place c = rw (← c.places.ensures, le-leb _ _ c.if-places-place.true)

pub returns-in_err-pixel : goal.returns-in_err-pixel
returns-in_err-pixel c = rw (placed_entry c.args.size.size c.args.entry _ (omega (arith, c.places.ensures, c.if-places-place.false)) (sym c.unpack.ensures ∙ c.in_err-pixel.was)) (search rules)

pub returns : goal.returns
returns c = sym (placed_entry c.args.size.size c.args.entry _ (omega (arith, c.places.ensures, c.if-places-place.false)) (sym c.unpack.ensures ∙ c.in_ok-pixel.was))
