-- There is a memory whose state is that of another with one word put.
use Rattle.std.proofs.Common.{◌≡◌, ℕ, ◌*◌, ◌^◌, ◌<◌, arith, ap}
use Rattle.far_word.specs.declared.sizes.TheConstants.{LOG_WORDS}
use Rattle.far_events.specs.declared.memory.Memory.{Memory}
use Rattle.far_events.specs.state.Memory.{state_of}
use Rattle.far_events.specs.state.State.{put}
use Rattle.far_events.proofs.Words.{put_there, with_put}

pub memory_put : (c : Memory) (a w : ℕ) → w < 2 ^ 64 → a < LOG_WORDS * (state_of c).logs → (d : Memory) × (state_of d ≡ record (state_of c) { word = put (state_of c).word a w })
unfolding state_of
memory_put c a w wide low = (
  record c { words = with_put c.words a w },
  ap (λ (f : ℕ → ℕ). record (state_of c) { word = f }) (put_there c.words a w wide (omega (arith, low, c.words_sized))),
)
