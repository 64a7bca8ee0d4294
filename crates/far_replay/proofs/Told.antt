-- What the device holds after a command, and what it told.
use Rattle.std.proofs.Common.{◌≡◌, ℕ, Bool, Option, Some, None, inl, refl, sym, ap, subst, ◌∙◌}
use Rattle.far_word.specs.Bytes.{bytes_of}
use Rattle.far_word.specs.Pointer.{read_of}
use Rattle.far_word.specs.declared.refused.Refused.{Refused as Refusal}
use Rattle.far_events.specs.state.State.{State}
use Rattle.far_hand.specs.declared.plain.Plain.{Plain}
use Rattle.far_evac.specs.EvacOf.{EvacOf}
use Rattle.far_text.specs.Command.{Command, Drop, Evacuate, Evacuator, Mutator, On, Round}
use Rattle.far_replay.specs.Commanded.{AsksFor, Gives, Serves}
use Rattle.far_alone.specs.Dereference.{says_near}
use Rattle.far_replay.specs.Far.{FarBytes, HoldsBy, HoldsSame, IsTold, ToldBy, far_of}
use Rattle.far_replay.specs.Interpreter.{MayGive}
use Rattle.far_replay.specs.Moment.{FarSide, Moment}
use Rattle.far_replay.specs.Turn.{refusal}

-- ---- what it holds
-- the same device holds the same
pub same_holds : (old new : EvacOf Plain FarSide) → new.book.device ≡ old.book.device → HoldsSame old new
same_holds old new same q = ap (λ (d : FarSide). far_of d q) same

pub holds_both : (old mid new : EvacOf Plain FarSide) → HoldsSame old mid → HoldsSame mid new → HoldsSame old new
holds_both old mid new a b q = b q ∙ a q

-- so it is after a command that asks for an object's words
pub asks_hold : (m p : ℕ) (c : Command) (s t : State) (held now : FarBytes) → AsksFor m p c → ((q : ℕ) → now q ≡ held q) → HoldsBy c s t held now
asks_hold m p (Mutator k (On q how)) s t held now asks same = same
asks_hold m p c s t held now asks same = absurd asks

-- and after one that changes nothing
pub hold_still : (c : Command) (s : State) (held : FarBytes) → HoldsBy c s s held held
hold_still (Evacuator (Evacuate count)) s held = λ p len is. inl (refl, is)
hold_still (Evacuator (Round policy most turns)) s held = λ p len is. inl (refl, is)
hold_still (Mutator m (Drop p)) s held = λ q len kept. refl
hold_still c s held = λ p. refl

-- ---- what it told
no_refusal : (why : Refusal) (o : Option Refusal) → o ≡ Some why → o ≡ None → ⊥
no_refusal why None cause allowed = cc
no_refusal why (Some other) cause allowed = cc

-- a command that is refused before it asks is told nothing
pub refused_told : (now : Moment) (c : Command) (held : FarBytes) (why : Refusal) → refusal now c ≡ Some why → ToldBy Serves now c held
refused_told now c held why cause = λ m p asks far allowed. absurd (no_refusal why (refusal now c) cause allowed)

-- a command asks for one object
asked_one : (m p k q : ℕ) (c : Command) → AsksFor m p c → AsksFor k q c → p ≡ q
asked_one m p k q (Mutator j (On x how)) a b = sym a.1 ∙ b.1
asked_one m p k q c a b = absurd a

-- of which it was told what its dereference was
module _ (m p : ℕ) (c : Command) (asks : AsksFor m p c) (now : Moment) (held : FarBytes) where
  pub served_told : MayGive Serves now.core held p → ToldBy Serves now c held
  served_told given = λ k q asked far allowed.
      let one : p ≡ q = asked_one m p k q c asks asked in
      given (ap (λ x. says_near (read_of (now.core.cell x))) one ∙ ap says_near far.3)

  pub given_told : (row : ℕ → ℕ) (inverts : Bool) → MayGive (Gives row inverts) now.core held p → ToldBy (Gives row inverts) now c held
  given_told row inverts given = λ k q asked far.
      let one : p ≡ q = asked_one m p k q c asks asked in
      subst (λ x. IsTold inverts (held x) (bytes_of row far.0)) one (given.3 far.0 far.1 far.2 (ap (λ x. read_of (now.core.cell x)) one ∙ far.3))
