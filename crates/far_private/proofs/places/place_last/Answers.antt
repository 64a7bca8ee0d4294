use Rattle.std.proofs.Common.{◌≤◌, ◌∙◌, ap, length, subst, sym, true}
use Rattle.far_word.specs.declared.refused.Refused.TheVariants.{NoRoom}
use Rattle.far_word.specs.Sizes.{size_of}
use Rattle.far_core.specs.state.Room.{free_logs}
use Rattle.far_private.specs.Causes.{IsStuck, IsWant}
use Rattle.far_private.specs.Objects.{Settled, objects_of, state_in, with_filled}
use Rattle.far_private.proofs.Keeping.{settled_on}
use Rattle.far_private.proofs.LastCalls.{ok_map}
use Rattle.far_private.proofs.Stuck.{told_stuck, told_want}
use Rattle.far_private.proofs.TwoFree.{roomy}
use Rattle.far_private.proofs.places.place_last.Goals as goal

pub place_now-requires-clause-settled : goal.place_now-requires-clause-settled
place_now-requires-clause-settled g c = settled_on (state_in c.args.evac.now) (state_in c.last_round-made.new.evac) c.requires.settled c.last_round-made.ensures.keeps

pub place_now-requires-clause-free : goal.place_now-requires-clause-free
place_now-requires-clause-free g c = c.last_round-made.ensures.keeps.named c.args.pointer c.requires.free

pub returns-then-place_now : goal.returns-then-place_now
returns-then-place_now g c = record {
  settled = c.place_now.ensures.settled c.if-place_now.true;
  made = c.place_now.ensures.made c.if-place_now.true ∙ ap (with_filled c.args.pointer c.args.len c.args.structure c.args.bytes.now) c.last_round-made.ensures.keeps.objects;
  refused = tt;
  why = tt;
  stuck = tt;
  idle = λ e. c.place_now.ensures.idle (c.last_round-made.ensures.idle e);
}

pub returns : goal.returns
returns g c =
    let s = state_in c.args.evac.now in
    let t = state_in c.last_round-made.new.evac in
    let same = c.place_now.ensures.refused c.if-place_now.false in
    let none = c.place_now.ensures.none c.if-place_now.false in
    let never : 2 ≤ length (free_logs t) → ⊥ = λ two. roomy (state_in c.place_now.new.evac) (size_of c.args.len) true (subst (λ x. 2 ≤ length (free_logs x)) (sym same) two) none in
    record {
      settled = subst Settled (sym same) (settled_on s t c.requires.settled c.last_round-made.ensures.keeps);
      made = tt;
      refused = ap objects_of same ∙ c.last_round-made.ensures.keeps.objects;
      why = subst IsWant (sym c.told.ensures) (told_want c.last_round-made.result (ok_map c.last_round-made.result never c.last_round-made.ensures.room) c.last_round-made.ensures.want);
      stuck = subst (IsStuck _ g.D.Device.writes s) (sym c.told.ensures) (told_stuck g.D.Device.writes s NoRoom c.last_round-made.result (ok_map c.last_round-made.result (λ two e. never two) c.last_round-made.ensures.room) c.last_round-made.ensures.stuck);
      idle = λ e. c.place_now.ensures.idle (c.last_round-made.ensures.idle e);
    }
