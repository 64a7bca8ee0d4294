-- What an owner's event leaves as it is for the other owners, and a copier's for all.
use Rattle.std.proofs.Common.{◌≡◌, ◌≢◌, ◌/◌, ℕ, Bool, true, false, cond, Option, Some, None, refl, sym, ap, ◌∙◌}
use Rattle.std.specs.Prelude.{◌==◌}
use Rattle.std.proofs.lemmas.Bool.{false≢true}
use Rattle.far_word.specs.declared.mark.Mark.TheVariants.{Hot, Evac, Moved, Dropped, Dirty}
use Rattle.far_word.specs.declared.pointer.Place.{Place}
use Rattle.far_word.specs.declared.sizes.TheConstants.{CELLS}
use Rattle.far_events.specs.declared.event.Event.{Event}
use Rattle.far_events.specs.declared.event.Event.TheVariants.{ReadEpoch, Open, Pin, Load, Store, Soil, Close, Adopt, Ask, PeekJob, Claim, ReadLength, Read, Write, Finish}
use Rattle.far_events.specs.declared.event.Reply.TheVariants.{Done, Word}
use Rattle.far_events.specs.declared.event.Task.{Task}
use Rattle.far_events.specs.events.Finish.{job_spot}
use Rattle.far_events.specs.events.Legal.{Legal}
use Rattle.far_events.specs.events.Step.{Fits, after, pin_answer, touches}
use Rattle.far_events.specs.events.Touch.{CellAt, ScopeAt}
use Rattle.far_events.specs.state.Law.{Law}
use Rattle.far_events.specs.state.State.{State}
use Rattle.far_core.specs.world.Happens.{Happens}
use Rattle.far_core.specs.world.World.{World}
use Rattle.far_core.specs.world.WorldOf.{world_of}
use Rattle.far_core.proofs.Owing.{does, owed}
use Rattle.far_events.proofs.Put.{put_other}
use Rattle.far_hand.specs.Makers.{Maker, ByBook, ByCopier, ByOwner, maker}

pub record KeepsOwner (s t : State) (j : ℕ) : Type 0 where
  pub scope : t.scope j ≡ s.scope j
  pub cell : (p : ℕ) → p / CELLS ≡ j → t.cell p ≡ s.cell p
  pub object : (p : ℕ) → p / CELLS ≡ j → (world_of t).object p ≡ (world_of s).object p
  pub honest : t.honest ≡ s.honest

-- what who makes an event leaves as it is of the owners
abbrev pub KeepsBy : Maker → State → State → Type 0
KeepsBy (ByOwner m) s t = (j : ℕ) → j ≢ m → KeepsOwner s t j
KeepsBy (ByCopier c) s t = (j : ℕ) → KeepsOwner s t j
KeepsBy ByBook s t = Unit {0}

-- a pointer of another owner is another
other : (p q m j : ℕ) → p / CELLS ≡ m → j ≢ m → q / CELLS ≡ j → q ≢ p
other p q m j own ne its e = ne (sym its ∙ ap (λ z. z / CELLS) e ∙ own)

-- a pin makes no object another
pub pin_objects : (c : ℕ) (x : Option Place) (m p : ℕ) (w v : World) → Happens w (Pin m p) (pin_answer c x) v → v.object ≡ w.object
pin_objects c None m p w v h = ap (λ (z : World). z.object) h
pin_objects c (Some place) m p w v h = ap (λ (z : World). z.object) h.after

-- an event that touches no scope word and no cell, and leaves the world
untouched : (s : State) (e : Event) → ((m : ℕ) → (touches s e).word ≢ Some (ScopeAt m)) → ((p : ℕ) → (touches s e).word ≢ Some (CellAt p)) → world_of (after s e) ≡ world_of s → (j : ℕ) →
    KeepsOwner s (after s e) j
untouched s e scopes cells world j = let within = (owed e).within s in record {
  scope = within.words (ScopeAt j) (scopes j);
  cell = λ p _. within.words (CellAt p) (cells p);
  object = λ p _. ap (λ (z : World). z.object p) world;
  honest = within.rest.2;
}

no_scope : (x : Option Task) (m : ℕ) → job_spot x ≢ Some (ScopeAt m)
no_scope None m e = cc
no_scope (Some t) m e = cc

no_cell : (x : Option Task) (p : ℕ) → job_spot x ≢ Some (CellAt p)
no_cell None p e = cc
no_cell (Some t) p e = cc

-- a claim leaves the world, won or lost
claim_world : (c j old : ℕ) (t : Bool) (n : ℕ) (w v : World) → Happens w (Claim c j old) (cond t Done (Word n)) v → v ≡ w
claim_world c j old true n w v h = h
claim_world c j old false n w v h = h

pub keeps_others : (s : State) (e : Event) → Law s → Fits e → Legal s e → KeepsBy (maker e) s (after s e)
keeps_others s (ReadEpoch m) law fits legal = λ j ne. record {
  scope = refl;
  cell = λ _ _. refl;
  object = λ p _. ap (λ (z : World). z.object p) (does s (ReadEpoch m) law fits legal);
  honest = refl;
}
keeps_others s (Open m) law fits legal = λ j ne. record {
  scope = put_other s.scope m _ j ne;
  cell = λ _ _. refl;
  object = λ p _. ap (λ (z : World). z.object p) (does s (Open m) law fits legal).after;
  honest = refl;
}
keeps_others s (Pin m p) law fits legal = λ j ne. record {
  scope = refl;
  cell = λ q its. put_other s.cell p _ q (other p q m j legal.1 ne its);
  object = λ q _. ap (λ f. f q) (pin_objects _ _ m p _ _ (does s (Pin m p) law fits legal));
  honest = refl;
}
keeps_others s (Load m p i) law fits legal = λ j ne. record { scope = refl; cell = λ _ _. refl; object = λ _ _. refl; honest = refl }
keeps_others s (Store m p i w) law fits legal = λ j ne. record {
  scope = refl;
  cell = λ _ _. refl;
  object = λ q its. let changed = (does s (Store m p i w) law fits legal).changed in
      ap (λ (z : World). z.object q) changed.3 ∙ put_other (world_of s).object p _ q (other p q m j legal.1.1.own ne its);
  honest = refl;
}
keeps_others s (Soil m p) law fits legal = λ j ne. record {
  scope = refl;
  cell = λ q its. put_other s.cell p _ q (other p q m j legal.0 ne its);
  object = λ q _. ap (λ (z : World). z.object q) (does s (Soil m p) law fits legal);
  honest = refl;
}
keeps_others s (Close m) law fits legal = λ j ne. record {
  scope = put_other s.scope m _ j ne;
  cell = λ _ _. refl;
  object = λ p _. ap (λ (z : World). z.object p) (does s (Close m) law fits legal).after;
  honest = refl;
}
keeps_others s (Adopt m p) law fits legal = λ j ne. record {
  scope = refl;
  cell = λ _ _. refl;
  object = λ q _. ap (λ (z : World). z.object q) (does s (Adopt m p) law fits legal);
  honest = refl;
}
keeps_others s (Ask m p Hot) law fits legal = absurd (false≢true legal.0)
keeps_others s (Ask m p Evac) law fits legal = absurd (false≢true legal.0)
keeps_others s (Ask m p Dirty) law fits legal = absurd (false≢true legal.0)
keeps_others s (Ask m p Moved) law fits legal = λ j ne. record {
  scope = refl;
  cell = λ q its. put_other s.cell p _ q (other p q m j legal.2 ne its);
  object = λ q _. ap (λ (z : World). z.object q) (does s (Ask m p Moved) law fits legal);
  honest = refl;
}
keeps_others s (Ask m p Dropped) law fits legal = λ j ne. record {
  scope = refl;
  cell = λ q its. put_other s.cell p _ q (other p q m j legal.2 ne its);
  object = λ q its. ap (λ (z : World). z.object q) (does s (Ask m p Dropped) law fits legal).after ∙ put_other (world_of s).object p _ q (other p q m j legal.2 ne its);
  honest = refl;
}
keeps_others s (PeekJob c j) law fits legal = untouched s (PeekJob c j) (λ m e. cc) (λ p e. cc) (does s (PeekJob c j) law fits legal)
keeps_others s (Claim c j old) law fits legal = untouched s (Claim c j old) (λ m e. cc) (λ p e. cc) (claim_world c j old (s.copying.word j == old) (s.copying.word j) _ _ (does s (Claim c j old) law fits legal))
keeps_others s (ReadLength c) law fits legal = untouched s (ReadLength c) (λ m e. cc) (λ p e. cc) (does s (ReadLength c) law fits legal)
keeps_others s (Read c i) law fits legal = untouched s (Read c i) (λ m e. cc) (λ p e. cc) (does s (Read c i) law fits legal)
keeps_others s (Write c i) law fits legal = untouched s (Write c i) (λ m e. cc) (λ p e. cc) (does s (Write c i) law fits legal)
keeps_others s (Finish c) law fits legal = untouched s (Finish c) (no_scope (s.copying.task c)) (no_cell (s.copying.task c)) (does s (Finish c) law fits legal)
keeps_others s _ law fits legal = tt
