use Rattle.std.proofs.Common.{◌≡◌, ◌&&◌, ◌∙◌, ◌*◌, ◌+◌, ◌<◌, ◌≤◌, ℕ, Bool, ap, arith, false, nat_lt, sym, true}
use Rattle.std.proofs.lemmas.Bool.Decides.{nat_tests}
use Rattle.far_word.specs.declared.sizes.TheConstants.{CELLS}
use Rattle.far_events.specs.events.Advance.{all_marked}
use Rattle.far_events.specs.state.Memory.{state_of}
use Rattle.far_events.proofs.memory.Memory.may_advance.Goals as goal
use Rattle.far_events.proofs.memory.Memory.may_advance.Goals.{then-epoch-lt-EPOCH_END, else-epoch-lt-EPOCH_END}

-- the tests are told by variables here, since that of the logs has a row for each of 64 once it is opened
low_then : (e epoch end : ℕ) (v found shut : Bool) → e ≡ epoch → e + 1 < end → v ≡ found → found ≡ shut → v ≡ (nat_lt (epoch + 1) end && shut)
low_then e epoch end v found shut is low v_is found_is = grind (arith, nat_tests)

low_else : (e epoch end : ℕ) (v shut : Bool) → e ≡ epoch → end ≤ e + 1 → v ≡ nat_lt (e + 1) end → v ≡ (nat_lt (epoch + 1) end && shut)
low_else e epoch end v shut is high v_is = grind (arith, nat_tests)

all_hold : (first v r marked : Bool) → v ≡ first → v ≡ true → r ≡ marked → r ≡ (first && marked)
all_hold first v r marked is holds e = e ∙ ap (λ b. b && marked) (sym holds ∙ is)

not_all : (first v marked : Bool) → v ≡ first → v ≡ false → v ≡ (first && marked)
not_all first v marked is fails = fails ∙ ap (λ b. b && marked) (sym fails ∙ is)

pub returns-then-all_sealed : goal.returns-then-all_sealed
returns-then-all_sealed c = all_hold _ _ _ _
    (elim c.if-epoch-lt-EPOCH_END.branch [
      | then-epoch-lt-EPOCH_END w ↦ low_then _ _ _ _ _ _ c.epoch.ensures w.if-epoch-lt-EPOCH_END.true w.value-is w.all_sealed.ensures
      | else-epoch-lt-EPOCH_END w ↦ low_else _ _ _ _ _ c.epoch.ensures w.if-epoch-lt-EPOCH_END.false w.value-is
    ])
    c.if-all_sealed.true
    (c.all_marked.ensures ∙ ap (λ n. all_marked (state_of c.args.self.now) c.args.logs (CELLS * n)) c.mutators.ensures)

pub returns-else-all_sealed : goal.returns-else-all_sealed
returns-else-all_sealed c = not_all _ _ _
    (elim c.if-epoch-lt-EPOCH_END.branch [
      | then-epoch-lt-EPOCH_END w ↦ low_then _ _ _ _ _ _ c.epoch.ensures w.if-epoch-lt-EPOCH_END.true w.value-is w.all_sealed.ensures
      | else-epoch-lt-EPOCH_END w ↦ low_else _ _ _ _ _ c.epoch.ensures w.if-epoch-lt-EPOCH_END.false w.value-is
    ])
    c.if-all_sealed.false
