-- What holds of the logs and objects in any state that meets the rule, in the subject's words.
use Rattle.std.specs.Prelude.{◌≡◌, ℕ, ◌+◌}
use Rattle.far_log.specs.declared.span.Span.{Span}
use Rattle.far_core.specs.laws.Live.{LiveIs}
use Rattle.far_core.specs.laws.Observed.{HasOnePlace, NamesOnce, NearHasOneLive, dead_bytes, live_bytes, unused_bytes}
use Rattle.far_events.specs.state.State.{State}

-- each object in use has one place, near or far; a near cell has exactly one live span, and no two cells name one place; a span is live exactly where the pointer
-- in its header names its place; and each log's live, dead and unused bytes make 4,096
pub record IsWhole (s : State) : Type 0 where
  pub one : (p : ℕ) → HasOnePlace s p
  pub near : (p : ℕ) → NearHasOneLive s p
  pub once : NamesOnce s
  pub live : (l : ℕ) (span : Span) → LiveIs s l span
  pub bytes : (l : ℕ) → live_bytes s l + dead_bytes s l + unused_bytes s l ≡ 4096
