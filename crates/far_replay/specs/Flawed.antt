-- The flaw of a heap's device, as its text says it: which of its calls fails, which of its reads lies, and what it tells then.
use Rattle.std.specs.Prelude.{◌≡◌, ℕ, Option, Some, None}
use Rattle.far_text.specs.Command.{Device, Flawed, Fail, Short, Flip}
use Rattle.far_replay.specs.Answers.{lie_of}
use Rattle.far_replay.specs.Moment.{FarSide}

-- the write or read that is to fail, by its number, counted together from 1; 0 is none
abbrev pub failing : Option Device → ℕ
failing None = 0
failing (Some (Flawed Fail call)) = call
failing (Some (Flawed Short call)) = 0
failing (Some (Flawed Flip call)) = 0

-- the read that is to lie, by its number, counted from 1; 0 is none
abbrev pub lying : Option Device → ℕ
lying None = 0
lying (Some (Flawed Fail call)) = 0
lying (Some (Flawed Short call)) = call
lying (Some (Flawed Flip call)) = call

-- a far side whose flaw is the one that the text says: the call that fails, the read that lies, and what it tells then
pub record IsFlawed (device : Option Device) (side : FarSide) : Type 0 where
  pub fails : side.inner.left ≡ failing device
  pub lies : side.left ≡ lying device
  pub lie : side.lie ≡ lie_of device
