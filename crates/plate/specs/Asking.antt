-- The pixel that a put asks for, where its checks accept it.
use Rattle.std.specs.Prelude.{Result, Ok, Err}
use Rattle.plate_model.specs.declared.state.State.{State}
use Rattle.plate_model.specs.Refusal.{Outcome}
use Rattle.plate_model.specs.declared.state.Refusal.{Refusal}
use Rattle.plate_model.specs.declared.lent.Ask.{Ask}
use Rattle.plate_model.specs.declared.lent.LentLengths.{LentLengths}
use Rattle.plate_model.specs.declared.word.Pixel.{Pixel}
use Rattle.plate_model.specs.Refusal.{put_check}
use Rattle.plate_model.specs.Asked.{asked_pixel}

abbrev pub pixel_by : Outcome → Pixel → Result Pixel Refusal
pixel_by (Ok tt) p = Ok p
pixel_by (Err f) p = Err f

-- by all that a put checks but for the stored word
abbrev pub pixel_read : State → Ask → LentLengths → Result Pixel Refusal
pixel_read s a n = pixel_by (put_check s a n) (asked_pixel a)
