-- Why a call of the evacuator is refused before it does anything.
use Rattle.std.specs.Prelude.{cond, Option, Some, None}
use Rattle.far_word.specs.declared.refused.Refused.{Refused}
use Rattle.far_word.specs.declared.refused.Refused.TheVariants as refused
use Rattle.far_evac.specs.Choosing.{is_spent}
use Rattle.far_evac.specs.Moment.{Moment}
use Rattle.far_evac.specs.MomentLaw.{is_idle}

-- a round is running already; or no later epoch is left
abbrev pub unselectable : Moment → Option Refused
unselectable m = cond (is_idle m.phase) (cond (is_spent m.core) (Some refused.EpochsSpent) None) (Some refused.Phase)
