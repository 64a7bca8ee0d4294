-- A command that is given other words is served in a moment in which these are stored: what that says of the moments before and after it.
use Rattle.std.proofs.Common.{◌≡◌, ◌≢◌, ℕ, ◌+◌, true, sym, subst, refl, Option, Some, None, List}
use Rattle.far_word.specs.declared.refused.Refused.{Refused as Refusal}
use Rattle.far_events.specs.events.Step.{is_opened}
use Rattle.far_text.specs.Command.{Command, On, Use, Reads, Writes, Views, Mutator}
use Rattle.far_replay.specs.Commanded.{AsksFor, Misled, MisledBy}
use Rattle.far_alone.specs.Dereference.{dereferenced}
use Rattle.far_replay.specs.Moment.{Moment, as_if_stored}
use Rattle.far_alone.specs.Objects.{data_of, uses}
use Rattle.far_reply.specs.Reply.{Reply, Done, Data, Refused}
use Rattle.far_replay.specs.Turn.{refusal, turn_reply, unless}
use Rattle.far_replay.proofs.Ways.{may_reach}
use Rattle.std.specs.Prelude.{slice_range}

-- ---- it is a use of the object
module _ (m p : ℕ) (P : Command → Type 0) (uses_it : (how : Use) → P (Mutator m (On p how))) where
  pub by_asked : (c : Command) → AsksFor m p c → P c
  by_asked (Mutator k (On q how)) asks = subst (λ (x : ℕ × ℕ). P (Mutator x.0 (On x.1 how))) (λ i. (sym asks.0 i, sym asks.1 i)) (uses_it how)
  by_asked c asks = absurd asks

pub asked_so : (row : ℕ → ℕ) (now : Moment) (r : Reply) (next : Moment) (m p : ℕ) (c : Command) → AsksFor m p c → MisledBy row now c r next → Misled row now c p r next
asked_so row now r next m p c asks = by_asked m p (λ d. MisledBy row now d r next → Misled row now d p r next) (λ how h. h) c asks

-- ---- it isn't refused
unrefused : (o : Option Refusal) (x r : Reply) → r ≡ unless o Refused x → ((why : Refusal) → r ≢ Refused why) → (o ≡ None) × (r ≡ x)
unrefused None x r e none = (refl, e)
unrefused (Some why) x r e none = absurd (none why e)

module _ (row : ℕ → ℕ) (now : Moment) (c : Command) (p : ℕ) (r : Reply) (next : Moment) (h : Misled row now c p r next) where
  answers : (refusal (as_if_stored now p row) c ≡ None) × (r ≡ turn_reply (as_if_stored now p row) c)
  answers = unrefused (refusal (as_if_stored now p row) c) (turn_reply (as_if_stored now p row) c) r h.served.reply h.answered

  pub misled_allowed : refusal (as_if_stored now p row) c ≡ None
  misled_allowed = answers.0

  pub misled_reply : r ≡ turn_reply (as_if_stored now p row) c
  misled_reply = answers.1

-- so its mutator's scope is open, and it uses the object
pub misled_uses : (row : ℕ → ℕ) (now : Moment) (m p : ℕ) (c : Command) → AsksFor m p c → refusal (as_if_stored now p row) c ≡ None → (is_opened now.core m ≡ true) × (uses now.core m p ≡ true)
misled_uses row now m p c asks = by_asked m p (λ d. refusal (as_if_stored now p row) d ≡ None → (is_opened now.core m ≡ true) × (uses now.core m p ≡ true))
    (λ how e. let x = may_reach (as_if_stored now p row) m p how e in (x.0, x.1)) c asks

-- ---- what is so of the moments as if these words were stored is so of those before and after it
module _ (row : ℕ → ℕ) (now : Moment) (r : Reply) (next : Moment) (m p : ℕ) (Q : Moment → Command → Reply → Moment → Type 0)
    (writes : (from : ℕ) (bytes : List ℕ) → Q (as_if_stored now p row) (Mutator m (On p (Writes from bytes))) Done (as_if_stored next p row) → Q now (Mutator m (On p (Writes from bytes))) Done next)
    (reads : (from len : ℕ) (bytes : List ℕ) → Q (as_if_stored now p row) (Mutator m (On p (Reads from len))) (Data bytes) (as_if_stored next p row) → Q now (Mutator m (On p (Reads from len))) (Data bytes) next)
    (views : Q (as_if_stored now p row) (Mutator m (On p Views)) Done (as_if_stored next p row) → Q now (Mutator m (On p Views)) Done next) where
  at_reply : (d : Command) (x : Reply) → r ≡ x → (Q (as_if_stored now p row) d x (as_if_stored next p row) → Q now d x next) → Q (as_if_stored now p row) d r (as_if_stored next p row) → Q now d r next
  at_reply d x e go q = subst (λ y. Q now d y next) (sym e) (go (subst (λ y. Q (as_if_stored now p row) d y (as_if_stored next p row)) e q))

  at_use : (how : Use) → Misled row now (Mutator m (On p how)) p r next → Q (as_if_stored now p row) (Mutator m (On p how)) r (as_if_stored next p row) → Q now (Mutator m (On p how)) r next
  at_use (Writes from bytes) h = at_reply (Mutator m (On p (Writes from bytes))) Done (misled_reply row now (Mutator m (On p (Writes from bytes))) p r next h) (writes from bytes)
  at_use (Reads from len) h =
      let told = slice_range (data_of (dereferenced (as_if_stored now p row).core m p) p) from (from + len) in
      at_reply (Mutator m (On p (Reads from len))) (Data told) (misled_reply row now (Mutator m (On p (Reads from len))) p r next h) (reads from len told)
  at_use Views h = at_reply (Mutator m (On p Views)) Done (misled_reply row now (Mutator m (On p Views)) p r next h) views

  pub as_misled : (c : Command) → AsksFor m p c → Misled row now c p r next → Q (as_if_stored now p row) c r (as_if_stored next p row) → Q now c r next
  as_misled = by_asked m p (λ d. Misled row now d p r next → Q (as_if_stored now p row) d r (as_if_stored next p row) → Q now d r next) at_use
