-- The abstract world: what a program that uses a heap may believe, without shared words, offsets, tails and epochs.
use Rattle.std.specs.Prelude.{ℕ, Bool, false, ◌==◌, Option, None, List}

-- where an object is: in a group of local memory, or on the far side. Groups are names only
pub data Home : Type 0 where
  Group : ℕ → Home
  FarSide : Home

pub record Object : Type 0 where
  pub owner : ℕ
  pub ds : ℕ
  pub bytes : List ℕ
  pub home : Home

-- objects by their numbers; the owners whose scope is open; the numbers that their owner views; the marked
-- numbers; the groups that are held; and whether the far side gives back what it was given, which no step changes.
-- A number gives its owner, so a view is a number
pub record World : Type 0 where
  pub object : ℕ → Option Object
  pub opened : ℕ → Bool
  pub viewed : ℕ → Bool
  pub marked : ℕ → Bool
  pub group : ℕ → Bool
  pub honest : Bool

-- at the start there is nothing but the group 0
abbrev pub start : Bool → World
start honest = record {
  object = λ _. None;
  opened = λ _. false;
  viewed = λ _. false;
  marked = λ _. false;
  group = λ g. g == 0;
  honest = honest;
}
