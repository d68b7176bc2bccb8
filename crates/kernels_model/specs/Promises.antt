-- What is proved of the kernels, in one record.
use Rattle.kernels_model.specs.Facts.{ShapeFact, UnderFact, BoxFact, SlopeFact, PieceFact, LineFact, KernelFact, WholeFact}
use Rattle.kernels_model.specs.Facts.{ShapesWhole, OctagonWhole, CountFact, CountsFew, NearFact, TableFact, DrawnFact}
use Rattle.kernels_model.specs.Facts.{BandFact, LevelFact, EvenOnce, ValueFact, ValueTopFact, HalfUpOnce, NearestFact}
use Rattle.kernels_model.specs.Facts.{MatteFact, MatteTopFact, RadiusFact, InfinityFact}
use Rattle.kernels_model.specs.Starred.{starred, Agree}
use Rattle.kernels_model.specs.Examples.{ByHand}

pub record Promises : Type 0 where
  -- the table of shapes
  pub shapes : ShapeFact
  pub under : UnderFact
  -- marks, summed, are the kernel's weights in every cell
  pub boxes : BoxFact
  pub slopes : SlopeFact
  pub pieces : PieceFact
  pub lines : LineFact
  pub kernels : KernelFact
  -- its weights are the whole
  pub weights_whole : WholeFact
  pub shapes_whole : ShapesWhole
  pub octagon_whole : OctagonWhole
  -- its marks are few, and near
  pub count : CountFact
  pub few : CountsFew
  pub near : NearFact
  -- what the code hands out of it is what is defined
  pub table : TableFact
  pub drawing : DrawnFact
  pub band : BandFact
  pub level : LevelFact
  -- rounding: the shown value, a half to even
  pub even_once : EvenOnce
  pub value : ValueFact
  pub value_top_fact : ValueTopFact
  -- the shown matte and the radius from depth, a half upwards
  pub half_up_once : HalfUpOnce
  pub half_up : NearestFact
  pub matte : MatteFact
  pub matte_top_fact : MatteTopFact
  pub radius : RadiusFact
  pub infinity : InfinityFact
  -- the paper's starred examples
  pub examples : Agree starred
  -- taps and marks of small kernels, cell by cell
  pub by_hand : ByHand
