-- The operands of each kind of instruction, as the model reads them.
use Rattle.std.specs.Prelude.{ℕ, Bool}
use Rattle.terms.specs.declared.Way.{Way}
use Rattle.lane.specs.declared.Calc.{Calc}
use Rattle.lane.specs.declared.Logic.{Logic}
use Rattle.terms.specs.declared.Half.{Half}
use Rattle.words.specs.declared.Increment.{Increment}
use Rattle.words.specs.Second.{Second}
use Rattle.words.specs.Input.{Input}

pub record HalfSet : Type 0 where
  pub half : Half
  pub dst : ℕ
  pub imm : ℕ

pub record Sum : Type 0 where
  pub dst : ℕ
  pub src1 : ℕ
  pub src2 : ℕ
  pub cdst : ℕ

pub record BitSum : Type 0 where
  pub op : ℕ
  pub dst : ℕ
  pub src1 : ℕ
  pub src2 : ℕ
  pub flags : ℕ

pub record AddrSum : Type 0 where
  pub dst : ℕ
  pub src2 : ℕ
  pub cdst : ℕ

pub record Access : Type 0 where
  pub way : Way
  pub reg : ℕ
  pub base : ℕ
  pub uimm : ℕ
  pub cdst : ℕ

pub record AccessAdd : Type 0 where
  pub way : Way
  pub reg : ℕ
  pub base : ℕ
  pub inc : Increment
  pub cdst : ℕ

pub record ArithOps : Type 0 where
  pub calc : Calc
  pub signed : Bool
  pub dst : ℕ
  pub src1 : ℕ
  pub second : Second
  pub vcdst : ℕ

pub record ShiftOps : Type 0 where
  pub signed : Bool
  pub dst : ℕ
  pub src1 : ℕ
  pub second : Second
  pub vcdst : ℕ

pub record TwoOps : Type 0 where
  pub dst : ℕ
  pub src1 : ℕ
  pub src2 : ℕ
  pub vcdst : ℕ

pub record ThreeOps : Type 0 where
  pub dst : ℕ
  pub src1 : ℕ
  pub src2 : ℕ
  pub src3 : ℕ
  pub vcdst : ℕ

pub record LogicOps : Type 0 where
  pub logic : Logic
  pub dst : ℕ
  pub src1 : ℕ
  pub byte : ℕ
  pub vcdst : ℕ

pub record CmpadOps : Type 0 where
  pub op : ℕ
  pub src1 : ℕ
  pub src2 : ℕ
  pub input : Input
  pub vcdst : ℕ

pub record SwzOps : Type 0 where
  pub hi : Bool
  pub dst : ℕ
  pub src1 : ℕ
  pub src2 : ℕ
  pub src3 : ℕ

pub record MovOps : Type 0 where
  pub dst : ℕ
  pub src1 : ℕ
  pub vcdst : ℕ

pub record MovImmOps : Type 0 where
  pub dst : ℕ
  pub byte : ℕ
  pub vcdst : ℕ
