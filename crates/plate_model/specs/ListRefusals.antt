-- What lists of calls are refused for.
use Rattle.std.specs.Prelude.{◌≡◌, ◌≢◌, ◌⊎◌, ℕ}
use Rattle.plate_model.specs.Layout.{Size}
use Rattle.plate_model.specs.Lent.{inputs}
use Rattle.plate_model.specs.Table.{InputsWrong, SeenWrong, SumsWrong, CanvasWrong}
use Rattle.plate_model.specs.Lists.{codes, Call, put_it, undo_it, fill_it, show_it, put_kept_it, undo_kept_it, show_kept_it}
use Rattle.plate_model.specs.EachReport.{InLists}

-- "Scratch, pictures and fill's inputs come with any length", and so does the buffer of sums: when one of these that a call is
-- lent has a wrong length. A put and an undo of the first form are lent none.
unfoldable pub OwnLentWrong : Size → Call → Type 0
OwnLentWrong z (put_it x y v a s r) = ⊥
OwnLentWrong z undo_it = ⊥
OwnLentWrong z (fill_it o s vs bs zs) = InputsWrong z (inputs vs (codes bs) zs)
OwnLentWrong z (show_it v) = SeenWrong z v
OwnLentWrong z (put_kept_it x y v a s r k) = CanvasWrong z k
OwnLentWrong z (undo_kept_it k) = CanvasWrong z k
OwnLentWrong z (show_kept_it v sums) = SeenWrong z v ⊎ SumsWrong z sums

-- "2 comes there only from these, and 1, 3 and 10 are never given"; and from these it always comes
pub record GivenInList (wrong : Type 0) (number : ℕ) : Type 0 where
  pub never_1 : number ≢ 1
  pub never_3 : number ≢ 3
  pub never_10 : number ≢ 10
  pub only_from : number ≡ 2 → wrong
  pub always_from : wrong → number ≡ 2

-- in every list after an accepted open
abbrev pub ListsRefused : Type 0
ListsRefused = InLists (λ z c r. GivenInList (OwnLentWrong z c) r.number)
