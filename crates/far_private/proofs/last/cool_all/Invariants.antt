use Rattle.std.proofs.Common.{◌≡◌, ◌<◌, ℕ, true, false, take}
use Rattle.far_word.specs.Pointer.{read_of}
use Rattle.far_private.specs.LastRound.{IsBare, SameLogs, may_cool}
use Rattle.far_private.specs.Objects.{state_in}
use Rattle.far_private.specs.Steps.{Keeps}
use Rattle.far_private.proofs.last.cool_all.Given as goal

abbrev pub invariant-loop-pointer : goal.invariant-loop-pointer
invariant-loop-pointer g l = record {
  keeps : Keeps (state_in l.fn.evac) (state_in l.evac);
  phase : l.evac.phase ≡ l.fn.evac.phase;
  order : l.evac.book.order ≡ l.fn.evac.book.order;
  logs : SameLogs (state_in l.fn.evac) (state_in l.evac);
  bare : IsBare (state_in l.evac) (take 2 l.fn.evac.book.order);
  cool : (q : ℕ) → q < l.pointer → (state_in l.evac).used q ≡ true → may_cool (read_of ((state_in l.evac).cell q)) ≡ false;
}
