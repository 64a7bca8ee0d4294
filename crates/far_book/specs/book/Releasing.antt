-- What giving a log back leaves.
use Rattle.std.specs.Prelude.{◌≡◌, ◌≢◌, ℕ, ◌==◌, ◌||◌, not, true, List}
use Rattle.std.specs.List.{filter}
use Rattle.std.specs.Vec.{vec_len}
use Rattle.far_events.specs.declared.event.Event.TheVariants.{Get}
use Rattle.far_events.specs.events.Step.{after}
use Rattle.far_events.specs.state.State.{State}
use Rattle.far_book.specs.declared.ledger.Ledger.{Ledger}
use Rattle.far_book.specs.book.Ledger.{filled_of}
use Rattle.far_book.specs.book.NumberSet.{has}

-- a log is given back: it is free and empty, and out of the round
abbrev pub released : State → ℕ → State
released s l = after s (Get l 0 true)

-- the sealed logs after it, oldest first
abbrev pub order_without : ℕ → List ℕ → List ℕ
order_without l order = filter (λ k. not (k == l)) order

-- a log is written down as given back, and nothing else changes
pub record GivesBack (old new : Ledger) (l : ℕ) : Type 0 where
  pub free : (k : ℕ) → has new.free_logs k ≡ ((k == l) || has old.free_logs k)
  pub here : filled_of new l ≡ record { tail = 0; live = 0 }
  pub there : (k : ℕ) → k ≢ l → filled_of new k ≡ filled_of old k
  pub logs : vec_len new.filled ≡ vec_len old.filled
  pub order : new.order ≡ order_without l old.order
  pub rest : new ≡ record old { free_logs = new.free_logs; filled = new.filled; order = new.order }
