use Rattle.std.proofs.Common.{◌≡◌, sym, ◌∙◌, length, arith, rules}
use Rattle.plate_model.specs.Refusal.{undo_check}
use Rattle.plate_model.specs.Change.{undo_over, undo_entry, undo_read_by, undo_read}
use Rattle.plate_model.proofs.Checks.Accepted.{plate_accepted, some_accepted}
use Rattle.plate_model.proofs.Words.Words.{entry_read}
use Rattle.plate.proofs.Laws.Checks.Told.{some_told, none_told}
use Rattle.plate.proofs.lent.Lent.read_undo.Goals as goal

pub returns-in_err-check_undo : goal.returns-in_err-check_undo
unfolding undo_read undo_read_by
returns-in_err-check_undo c = rw (← c.lengths-lengths.ensures, ← c.check_undo.ensures, c.in_err-check_undo.was) (search rules)

pub overflow_sub-word : goal.overflow_sub-word
unfolding undo_check
overflow_sub-word c = some_accepted c.args.state (plate_accepted _ _ _ (sym c.check_undo.ensures ∙ c.in_ok-check_undo.was)).1

pub offset_bounds-self-state : goal.offset_bounds-self-state
unfolding undo_check
offset_bounds-self-state c =
    let plate = (plate_accepted _ _ _ (sym c.check_undo.ensures ∙ c.in_ok-check_undo.was)).0 in
    omega (arith, some_accepted c.args.state (plate_accepted _ _ _ (sym c.check_undo.ensures ∙ c.in_ok-check_undo.was)).1, plate.count_in, plate.lent.log_top_fact)

pub bounds-self-state : goal.bounds-self-state
unfolding undo_check
bounds-self-state c =
    let plate = (plate_accepted _ _ _ (sym c.check_undo.ensures ∙ c.in_ok-check_undo.was)).0 in
    let log : c.lengths-lengths.result.log ≡ length c.args.self.now.log.now = rw c.lengths-lengths.ensures in
    omega (arith, some_accepted c.args.state (plate_accepted _ _ _ (sym c.check_undo.ensures ∙ c.in_ok-check_undo.was)).1, plate.count_in, log)

pub invariant_of-unpack_entry : goal.invariant_of-unpack_entry
unfolding undo_check
invariant_of-unpack_entry c = record { lawful = ((plate_accepted _ _ _ (sym c.check_undo.ensures ∙ c.in_ok-check_undo.was)).0).lawful }

pub returns-in_err-entry : goal.returns-in_err-entry
unfolding undo_read undo_read_by undo_entry
returns-in_err-entry c = rw (← c.lengths-lengths.ensures, sym c.check_undo.ensures ∙ c.in_ok-check_undo.was, ← c.unpack_entry.ensures, (none_told _ _ _ (sym c.ok_or.ensures.value ∙ c.in_err-entry.was)).0) (search rules)

pub offset_bounds-self-entry : goal.offset_bounds-self-entry
unfolding undo_check
offset_bounds-self-entry c =
    let plate = (plate_accepted _ _ _ (sym c.check_undo.ensures ∙ c.in_ok-check_undo.was)).0 in
    omega (arith, (entry_read _ _ _ (sym c.unpack_entry.ensures ∙ some_told _ _ _ (sym c.ok_or.ensures.value ∙ c.in_ok-entry.was))).0, plate.lawful.places_top_fact)

pub bounds-self-entry : goal.bounds-self-entry
unfolding undo_check
bounds-self-entry c =
    let plate = (plate_accepted _ _ _ (sym c.check_undo.ensures ∙ c.in_ok-check_undo.was)).0 in
    let pixels : c.lengths-lengths.result.pixels ≡ length c.args.self.now.pixels.now = rw c.lengths-lengths.ensures in
    omega (arith, (entry_read _ _ _ (sym c.unpack_entry.ensures ∙ some_told _ _ _ (sym c.ok_or.ensures.value ∙ c.in_ok-entry.was))).0, plate.lent.pixels_are, pixels)

pub returns-in_err-old : goal.returns-in_err-old
unfolding undo_read undo_read_by undo_entry undo_over
returns-in_err-old c =
    rw (← c.lengths-lengths.ensures, sym c.check_undo.ensures ∙ c.in_ok-check_undo.was, sym c.unpack_entry.ensures ∙ some_told _ _ _ (sym c.ok_or.ensures.value ∙ c.in_ok-entry.was), ← c.unpack.ensures, (none_told _ _ _ (sym c.ok_or-2.ensures.value ∙ c.in_err-old.was)).0)
    (search rules)

pub returns : goal.returns
unfolding undo_read undo_read_by undo_entry undo_over
returns c = rw (← c.lengths-lengths.ensures, sym c.check_undo.ensures ∙ c.in_ok-check_undo.was, sym c.unpack_entry.ensures ∙ some_told _ _ _ (sym c.ok_or.ensures.value ∙ c.in_ok-entry.was), ← c.unpack.ensures, some_told _ _ _ (sym c.ok_or-2.ensures.value ∙ c.in_ok-old.was))
