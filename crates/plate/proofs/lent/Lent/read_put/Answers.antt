use Rattle.std.proofs.Common.{◌≡◌, sym, ◌∙◌, length, arith, rules}
use Rattle.plate_model.specs.Refusal.{put_check}
use Rattle.plate_model.specs.Change.{put_over, put_read_by, put_read}
use Rattle.plate_model.proofs.Checks.Accepted.{plate_accepted, ask-accepted}
use Rattle.plate.proofs.Laws.Checks.Asked.{to_put, no_put}
use Rattle.plate.proofs.Laws.Checks.Told.{some_told, none_told}
use Rattle.plate.proofs.lent.Lent.read_put.Goals as goal

pub returns-in_err-new : goal.returns-in_err-new
unfolding put_read put_read_by
returns-in_err-new c = rw (← c.lengths-lengths.ensures, no_put _ _ _ (sym c.check_put.ensures ∙ c.in_err-new.was)) (search rules)

pub overflow_mul-place : goal.overflow_mul-place
unfolding put_check
overflow_mul-place c =
    let asked = ask-accepted _ _ _ _ (plate_accepted _ _ _ (to_put _ _ _ (sym c.check_put.ensures ∙ c.in_ok-new.was)).0).1 in
    let lawful = ((plate_accepted _ _ _ (to_put _ _ _ (sym c.check_put.ensures ∙ c.in_ok-new.was)).0).0).lawful in
    omega (arith, asked.place_in, lawful.places_top_fact)

pub overflow_add-place : goal.overflow_add-place
unfolding put_check
overflow_add-place c =
    let asked = ask-accepted _ _ _ _ (plate_accepted _ _ _ (to_put _ _ _ (sym c.check_put.ensures ∙ c.in_ok-new.was)).0).1 in
    let lawful = ((plate_accepted _ _ _ (to_put _ _ _ (sym c.check_put.ensures ∙ c.in_ok-new.was)).0).0).lawful in
    omega (arith, asked.place_in, lawful.places_top_fact)

pub offset_bounds-self-place : goal.offset_bounds-self-place
unfolding put_check
offset_bounds-self-place c =
    let asked = ask-accepted _ _ _ _ (plate_accepted _ _ _ (to_put _ _ _ (sym c.check_put.ensures ∙ c.in_ok-new.was)).0).1 in
    let lawful = ((plate_accepted _ _ _ (to_put _ _ _ (sym c.check_put.ensures ∙ c.in_ok-new.was)).0).0).lawful in
    omega (arith, asked.place_in, lawful.places_top_fact)

pub bounds-self-place : goal.bounds-self-place
unfolding put_check
bounds-self-place c =
    let asked = ask-accepted _ _ _ _ (plate_accepted _ _ _ (to_put _ _ _ (sym c.check_put.ensures ∙ c.in_ok-new.was)).0).1 in
    let lent = ((plate_accepted _ _ _ (to_put _ _ _ (sym c.check_put.ensures ∙ c.in_ok-new.was)).0).0).lent in
    let pixels : c.lengths-lengths.result.pixels ≡ length c.args.self.now.pixels.now = rw c.lengths-lengths.ensures in
    omega (arith, asked.place_in, lent.pixels_are, pixels)

pub returns-in_err-old : goal.returns-in_err-old
unfolding put_read put_read_by put_over
returns-in_err-old c =
    let told = to_put _ _ _ (sym c.check_put.ensures ∙ c.in_ok-new.was) in
    rw (← c.lengths-lengths.ensures, told.0, ← c.unpack.ensures, (none_told _ _ _ (sym c.ok_or.ensures.value ∙ c.in_err-old.was)).0) (search rules)

pub returns : goal.returns
unfolding put_read put_read_by put_over
returns c =
    let told = to_put _ _ _ (sym c.check_put.ensures ∙ c.in_ok-new.was) in
    rw (← c.lengths-lengths.ensures, told.0, ← c.unpack.ensures, some_told _ _ _ (sym c.ok_or.ensures.value ∙ c.in_ok-old.was), ← told.1)
