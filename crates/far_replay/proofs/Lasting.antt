-- What lasts between two commands: the law, and what the program keeps of it; so each command is carried out by its events.
use Rattle.std.proofs.Common.{◌≡◌, ℕ, Bool, true, sym, ap, subst, ◌∙◌, refl, Option, Some, None, List, [], ◌∷◌, inl, inr, false}
use Rattle.std.specs.Prelude.{All, Contains}
use Rattle.std.proofs.lemmas.Bool.{cond_both}
use Rattle.far_events.specs.declared.event.Event.{Event}
use Rattle.far_events.specs.declared.event.Reply.{Reply as Answer}
use Rattle.far_events.specs.declared.event.Reply.TheVariants.{Refused as Failed}
use Rattle.far_word.specs.declared.mark.Mark.TheVariants.{Dirty}
use Rattle.far_word.specs.declared.refused.Refused.{Refused as Refusal}
use Rattle.far_events.specs.state.Law.{IsStored, Law}
use Rattle.far_events.specs.state.Shape.{is_shape}
use Rattle.far_events.specs.state.State.{State}
use Rattle.far_events.specs.events.Soil.{after_soil}
use Rattle.far_events.specs.events.Step.{step_of, is_legal, after, answer, Fits}
use Rattle.far_core.proofs.Keeps.{step_keeps}
use Rattle.far_core.proofs.Leaving.{events_leave}
use Rattle.far_log.proofs.Members.{split, none_in, All-from}
use Rattle.far_core.proofs.Steps.{agrees}
use Rattle.far_replay.specs.Answers.{Answered, Commanded, Misled, Served, IsMoment, Begins, Comes, Stores, shape_of, first_moment}
use Rattle.far_text.specs.Command.{Command, On, Writes, Mutator, Book, Evacuator, Evacuate, Round, Step}
use Rattle.far_book.specs.book.FarSide.{kept_len}
use Rattle.far_replay.specs.Commanded.{AsksFor}
use Rattle.far_alone.specs.Dereference.{dereferenced}
use Rattle.far_alone.specs.Objects.{named_len, object_len}
use Rattle.far_evac.specs.MomentLaw.{MomentLaw}
use Rattle.far_evac.specs.declared.answers.RoundEnd.TheVariants.{Limit}
use Rattle.far_evac.specs.declared.phase.Phase.TheVariants.{Evacuating}
use Rattle.far_evac.specs.Strays.{NoneStrays}
use Rattle.far_replay.specs.Events.{events_for, IsNoStep}
use Rattle.far_replay.specs.Lawful.{Lawful}
use Rattle.far_text.specs.Written.{WritesBytes, AllWriteBytes}
use Rattle.far_events.specs.events.Ranges.{after_events}
use Rattle.far_alone.specs.EventRows.{AllSucceed, AllPass, Succeeds}
use Rattle.far_replay.specs.Moment.{KeptBack, Moment, as_if_stored}
use Rattle.far_reply.specs.Reply.{Reply, Ended, Evacuated, Refused}
use Rattle.far_alone.specs.Between.{Between}
use Rattle.far_replay.specs.Turn.{effect, refusal, refused_effect, reply_to, turn_effect, turn_reply, unless}
use Rattle.std.specs.List.{AllByRecursion as Each}
use Rattle.far_word.specs.Pointer.{read_of}
use Rattle.far_events.proofs.Cells.{map_mark}
use Rattle.far_replay.proofs.AsIfStored.{between_as_if, far_is_used, kept_long, law_as_if, misled_fits, no_len, round_as_if, stored_again}
use Rattle.far_replay.proofs.Dereferences.{Derefs}
use Rattle.far_alone.proofs.Soiling.{soiled_reads}
use Rattle.far_replay.proofs.ToldRounds.{told_round, told_effect}
use Rattle.far_replay.proofs.Outcomes.{by_outcome}
use Rattle.far_replay.proofs.Opened.{opening_law, opening_between, opening_round, opening_strays}
use Rattle.far_replay.proofs.RoundLeads.{between_kept, step_keeps as step_leaves, step_leads}
use Rattle.far_replay.proofs.Strays.{step_strays, told_strays}
use Rattle.far_replay.proofs.Turns.{reached, turns}

pub record Lasts (now : Moment) : Type 0 where
  pub law : Law now.core
  pub round : MomentLaw now
  pub alone : now.copying ≡ false
  pub between : Between now.core
  pub strays : NoneStrays now

-- a command that is carried out by its events, from a moment to the next core
pub record IsCarriedOut (now : Moment) (c : Command) (r : Reply) (t : State) : Type 0 where
  pub reply : r ≡ reply_to now c
  pub state : t ≡ after_events now.core (events_for now c)
  pub made : AllSucceed now.core (events_for now c)
  pub fit : Each Fits (events_for now c)
  pub law : Law t

pub command_carried : (now : Moment) (c : Command) (r : Reply) (next : Moment) → IsNoStep c → Lasts now → WritesBytes c → Served now c r next → IsCarriedOut now c r next.core
command_carried now c r next told lasts bytes h =
    let x = turns now c told lasts.law lasts.between bytes in
    let ends : next.core ≡ after_events now.core (events_for now c) = ap (λ (m : Moment). m.core) h.moment ∙ sym x.ends in
    record {
      reply = h.reply;
      state = ends;
      made = x.succeed;
      fit = x.fit;
      law = subst Law (sym ends) x.law;
    }

-- it lasts through a command
told_lasts : (now : Moment) (c : Command) → IsNoStep c → Lasts now → WritesBytes c → Lasts (effect now c)
told_lasts now c told lasts bytes =
    let x = turns now c told lasts.law lasts.between bytes in
    let law : Law (effect now c).core = subst Law x.ends x.law in
    record {
      law = law;
      round = told_round now c told lasts.law law lasts.round lasts.alone;
      alone = ap (λ (m : Moment). m.copying) (told_effect now c told) ∙ lasts.alone;
      between = subst Between x.ends x.between;
      strays = told_strays now c (events_for now c) told lasts.law x.fit x.ends lasts.strays;
    }

step_lasts : (now : Moment) (step : Step) → Lasts now → Lasts (effect now (Evacuator step))
step_lasts now step lasts =
    let leads = step_leads now step lasts.law lasts.round lasts.alone in
    record {
      law = leads.law;
      round = leads.moment;
      alone = leads.copying ∙ lasts.alone;
      between = between_kept now.core (effect now (Evacuator step)).core lasts.between (step_leaves now step lasts.law lasts.round lasts.alone);
      strays = step_strays now step lasts.law lasts.round lasts.alone lasts.strays;
    }

pub effect_lasts : (now : Moment) (c : Command) → Lasts now → WritesBytes c → Lasts (effect now c)
effect_lasts now (Mutator m request) lasts bytes = told_lasts now (Mutator m request) tt lasts bytes
effect_lasts now (Book inquiry) lasts bytes = told_lasts now (Book inquiry) tt lasts bytes
effect_lasts now (Evacuator step) lasts bytes = step_lasts now step lasts

pub after_step : (now : Moment) (step : Step) (r : Reply) (next : Moment) → Lasts now → Served now (Evacuator step) r next → Lasts next
after_step now step r next lasts h = subst Lasts (sym h.moment) (step_lasts now step lasts)

pub served_lasts : (now : Moment) (c : Command) (r : Reply) (next : Moment) → Lasts now → WritesBytes c → Served now c r next → Lasts next
served_lasts now c r next lasts bytes h = subst Lasts (sym h.moment) (effect_lasts now c lasts bytes)

-- and where other words are stored of an object in use
pub lasts_as_if : (now : Moment) (p : ℕ) (row : ℕ → ℕ) → Lasts now → now.core.honest ≡ false → now.core.used p ≡ true → KeptBack row (read_of (now.core.cell p)) → Lasts (as_if_stored now p row)
lasts_as_if now p row lasts lies used fits = record {
  law = law_as_if now.core p row lasts.law lies used fits;
  round = round_as_if now p row lasts.round;
  alone = lasts.alone;
  between = between_as_if now.core p row lasts.between;
  strays = lasts.strays;
}

-- so before a command that is given other words
pub misled_before : (row : ℕ → ℕ) (now : Moment) (c : Command) (p : ℕ) (r : Reply) (next : Moment) → Lasts now → Misled row now c p r next → Lasts (as_if_stored now p row)
misled_before row now c p r next lasts h = lasts_as_if now p row lasts h.lies (far_is_used now.core p lasts.between h.far) (misled_fits row now c p r next h)

-- ---- nothing makes a far side honest, or other than honest
made_honest : (s : State) (es : List Event) → (after_events s es).honest ≡ s.honest
made_honest s [] = refl
made_honest s (e ∷ es) = made_honest (step_of s e).0 es ∙ (events_leave s e).within.rest.2

pub served_honest : (now : Moment) (c : Command) (r : Reply) (next : Moment) → Lasts now → WritesBytes c → Served now c r next → next.core.honest ≡ now.core.honest
served_honest now (Mutator k request) r next lasts small h =
    ap (λ (t : State). t.honest) (command_carried now (Mutator k request) r next tt lasts small h).state ∙ made_honest now.core (events_for now (Mutator k request))
served_honest now (Book inquiry) r next lasts small h =
    ap (λ (t : State). t.honest) (command_carried now (Book inquiry) r next tt lasts small h).state ∙ made_honest now.core (events_for now (Book inquiry))
served_honest now (Evacuator step) r next lasts small h = ap (λ (m : Moment). m.core.honest) h.moment ∙ (step_leaves now step lasts.law lasts.round lasts.alone).honest

-- ---- after a command that is given other words its object is as long as it was
module _ (now : Moment) (law : Law now.core) where
  -- once it is dereferenced
  near_long : (k p : ℕ) (led : Derefs now.core k p) (len : ℕ) → kept_len (read_of ((dereferenced now.core k p).cell p)) ≡ Some len → len ≡ object_len now.core p
  near_long k p led len e =
      let near = led.view.holds.near in
      kept_long (read_of ((dereferenced now.core k p).cell p)) len e ∙ ap named_len near.2 ∙ sym led.view.long ∙ led.long

  -- and written: it has DIRTY, and nothing is kept of it
  soiled_long : (k p : ℕ) (led : Derefs now.core k p) (len : ℕ) → kept_len (read_of ((after_soil (dereferenced now.core k p) p).cell p)) ≡ Some len → len ≡ object_len now.core p
  soiled_long k p led len e =
      let t : State = dereferenced now.core k p in
      let near = led.view.holds.near in
      let none : kept_len (read_of ((after_soil t p).cell p)) ≡ no_len = ap kept_len (soiled_reads t led.law k p led.view.len led.view.place led.view.holds ∙ ap (map_mark Dirty) near.2) in
      let odd : no_len ≡ Some len = sym none ∙ e in absurd cc

  asked_long : (m p : ℕ) (c : Command) → AsksFor m p c → refusal now c ≡ None → (len : ℕ) → kept_len (read_of ((turn_effect now c).core.cell p)) ≡ Some len → len ≡ object_len now.core p
  asked_long m p (Mutator k (On q (Writes from bytes))) asks none =
      let t : State = (turn_effect now (Mutator k (On q (Writes from bytes)))).core in
      subst (λ x. (len : ℕ) → kept_len (read_of (t.cell x)) ≡ Some len → len ≡ object_len now.core x) asks.1 (soiled_long k q (reached now k q (Writes from bytes) law none))
  asked_long m p (Mutator k (On q how)) asks none = subst (λ x. (len : ℕ) → kept_len (read_of ((dereferenced now.core k q).cell x)) ≡ Some len → len ≡ object_len now.core x) asks.1 (near_long k q (reached now k q how law none))
  asked_long m p c asks none = absurd asks

module _ (row : ℕ → ℕ) (now : Moment) (c : Command) (m p : ℕ) (r : Reply) (next : Moment) (lasts : Lasts now) (bytes : WritesBytes c) (asks : AsksFor m p c) (h : Misled row now c p r next) where
  abbrev was : Moment
  was = as_if_stored now p row

  was_lasts : Lasts was
  was_lasts = misled_before row now c p r next lasts h

  allowed : refusal was c ≡ None
  allowed = by (refusal was c) refl where
    by : (o : Option Refusal) → refusal was c ≡ o → refusal was c ≡ None
    by None e = e
    by (Some why) e = absurd (h.answered why (h.served.reply ∙ ap (λ o. unless o Refused (turn_reply was c)) e))

  honest_still : next.core.honest ≡ false
  honest_still = served_honest was c r (as_if_stored next p row) was_lasts bytes h.served ∙ h.lies

  cells : next.core.cell ≡ (turn_effect was c).core.cell
  cells = ap (λ (x : Moment). x.core.cell) h.served.moment ∙ ap (λ o. (unless o (refused_effect was c) (turn_effect was c)).core.cell) allowed

  -- so the words that were stored of it may be stored of it still
  pub misled_kept : KeptBack (next.core.stored p) (read_of (next.core.cell p))
  misled_kept len e =
      let long : len ≡ object_len now.core p = asked_long was was_lasts.law m p c asks allowed len (subst (λ (f : ℕ → ℕ). kept_len (read_of (f p)) ≡ Some len) cells e) in
      let same : len ≡ h.far.0 = long ∙ ap named_len h.far.3 in
      subst (λ n. IsStored (next.core.stored p) n) (sym same) (subst (λ (words : ℕ → ℕ). IsStored words h.far.0) (sym h.kept) (lasts.law.cells.cell_far p h.far.0 h.far.1 h.far.2 h.far.3))

-- and it lasts after it
pub misled_lasts : (row : ℕ → ℕ) (now : Moment) (c : Command) (m p : ℕ) (r : Reply) (next : Moment) → Lasts now → WritesBytes c → AsksFor m p c → Misled row now c p r next → Lasts next
misled_lasts row now c m p r next lasts bytes asks h =
    let there = served_lasts (as_if_stored now p row) c r (as_if_stored next p row) (misled_before row now c p r next lasts h) bytes h.served in
    subst Lasts (sym (stored_again next p row (next.core.stored p) refl))
    (lasts_as_if (as_if_stored next p row) p (next.core.stored p) there (honest_still row now c m p r next lasts bytes asks h) (there.law.views.held_used p h.viewed) (misled_kept row now c m p r next lasts bytes asks h))

-- what each served command keeps, each keeps: one that is refused in its midst leads where lesser ones do that are served
pub each_keeps : (P : Moment → Type 0) → ((now : Moment) (c : Command) (r : Reply) (next : Moment) → P now → WritesBytes c → Served now c r next → P next) →
    ((row : ℕ → ℕ) (now : Moment) (c : Command) (m p : ℕ) (r : Reply) (next : Moment) → P now → WritesBytes c → AsksFor m p c → Misled row now c p r next → P next) →
    (now : Moment) (c : Command) (r : Reply) (next : Moment) → P now → WritesBytes c → Commanded now c r next → P next
each_keeps P served misled now c r next first bytes h = by_outcome now r next (λ d. WritesBytes d → P next)
    (λ d h bytes. served now d r next first bytes h)
    (λ why m p how h bytes. served now _ _ next first tt h.tried)
    (λ why objects count h bytes. served now (Evacuator (Evacuate objects)) (Evacuated h.progress) next first tt h.left)
    (λ why turns objects policy most count h bytes. served h.stood (Evacuator (Evacuate objects)) (Evacuated h.progress) next
    (served now (Evacuator (Round policy most turns)) (Ended (Limit Evacuating)) h.stood first bytes h.turned) tt h.left)
    (λ row m p d asks h bytes. misled row now d m p r next first bytes asks h)
    c h bytes

pub still_lasts : (now : Moment) (c : Command) (r : Reply) (next : Moment) → Lasts now → WritesBytes c → Commanded now c r next → Lasts next
still_lasts now c r next lasts bytes h = each_keeps Lasts served_lasts misled_lasts now c r next lasts bytes h

-- from the first moment on
pub first_lasts : (logs mutators epoch : ℕ) (honest : Bool) → is_shape (shape_of logs mutators epoch) ≡ true → Lasts (first_moment logs mutators epoch honest)
first_lasts logs mutators epoch honest fits = record {
  law = opening_law logs mutators epoch honest fits;
  round = opening_round logs mutators epoch honest fits;
  alone = refl;
  between = opening_between logs mutators epoch honest fits;
  strays = opening_strays logs mutators epoch honest fits;
}

pub moment_lasts : (now : Moment) → IsMoment now → Lasts now
moment_lasts now (Begins logs mutators epoch honest fits is) = subst Lasts (sym is) (first_lasts logs mutators epoch honest fits)
moment_lasts now (Comes before c r was bytes h) = served_lasts before c r now (moment_lasts before was) bytes h
moment_lasts now (Stores before p row was lies used fits is) = subst Lasts (sym is) (lasts_as_if before p row (moment_lasts before was) lies used fits)

-- ---- which moments there are
pub first_is_moment : (logs mutators epoch : ℕ) (honest : Bool) → is_shape (shape_of logs mutators epoch) ≡ true → IsMoment (first_moment logs mutators epoch honest)
first_is_moment logs mutators epoch honest fits = Begins logs mutators epoch honest fits refl

pub served_is_moment : (now : Moment) (c : Command) (r : Reply) (next : Moment) → IsMoment now → WritesBytes c → Served now c r next → IsMoment next
served_is_moment now c r next is bytes h = Comes now c r is bytes h

-- so is the one before a command that is given other words, and the one after it
pub misled_from : (row : ℕ → ℕ) (now : Moment) (c : Command) (p : ℕ) (r : Reply) (next : Moment) → IsMoment now → Misled row now c p r next → IsMoment (as_if_stored now p row)
misled_from row now c p r next is h = Stores now p row is h.lies (far_is_used now.core p (moment_lasts now is).between h.far) (misled_fits row now c p r next h) refl

pub misled_is_moment : (row : ℕ → ℕ) (now : Moment) (c : Command) (m p : ℕ) (r : Reply) (next : Moment) → IsMoment now → WritesBytes c → AsksFor m p c → Misled row now c p r next → IsMoment next
misled_is_moment row now c m p r next is bytes asks h =
    let there : IsMoment (as_if_stored next p row) = Comes (as_if_stored now p row) c r (misled_from row now c p r next is h) bytes h.served in
    let law : Law (as_if_stored next p row).core = (moment_lasts (as_if_stored next p row) there).law in
    let lasts = moment_lasts now is in
    Stores (as_if_stored next p row) p (next.core.stored p) there (honest_still row now c m p r next lasts bytes asks h) (law.views.held_used p h.viewed) (misled_kept row now c m p r next lasts bytes asks h)
    (stored_again next p row (next.core.stored p) refl)

pub next_is_moment : (now : Moment) (c : Command) (r : Reply) (next : Moment) → IsMoment now → WritesBytes c → Commanded now c r next → IsMoment next
next_is_moment now c r next is more h = each_keeps IsMoment served_is_moment misled_is_moment now c r next is more h

first_or : (now : Moment) (moments : List Moment) (x : Moment) → IsMoment now → (Contains moments x → IsMoment x) → Contains (now ∷ moments) x → IsMoment x
first_or now moments x is there c = elim (split x now moments c) [
  | inl e ↦ subst IsMoment e is
  | inr k ↦ there k
]

-- each moment of a list of commands is one
pub each_is_moment : (now : Moment) (cs : List Command) (rs : List Reply) (moments : List Moment) → IsMoment now → AllWriteBytes cs → Answered now cs rs moments →
    (x : Moment) → Contains (now ∷ moments) x → IsMoment x
each_is_moment now [] [] [] is bytes h x c = first_or now [] x is (λ k. absurd (none_in x k)) c
each_is_moment now (d ∷ cs) (r ∷ rs) (m ∷ ms) is bytes h x c =
    first_or now (m ∷ ms) x is (λ k. each_is_moment m cs rs ms (next_is_moment now d r m is bytes.0 h.0) bytes.1 h.1 x k) c
each_is_moment now _ _ _ is bytes h x c = absurd h

lawful : (now : Moment) → IsMoment now → Lawful now
lawful now is = let x = moment_lasts now is in record { reached = is; law = x.law; round = x.round; alone = x.alone; named = x.between.named }

pub first_lawful : (logs mutators epoch : ℕ) (honest : Bool) → is_shape (shape_of logs mutators epoch) ≡ true → Lawful (first_moment logs mutators epoch honest)
first_lawful logs mutators epoch honest fits = lawful (first_moment logs mutators epoch honest) (first_is_moment logs mutators epoch honest fits)

pub moments_last : (now : Moment) (cs : List Command) (rs : List Reply) (moments : List Moment) → IsMoment now → AllWriteBytes cs → Answered now cs rs moments → All Lawful (now ∷ moments)
moments_last now cs rs moments is bytes h = All-from Lawful (now ∷ moments) (λ x c. lawful x (each_is_moment now cs rs moments is bytes h x c))

-- ---- events
-- what succeeds was legal
legal : (s : State) (e : Event) → Succeeds e (step_of s e).1 → is_legal s e ≡ true
legal s e = cond_both (is_legal s e) (after s e, answer s e) (s, Failed) (λ (x : State × Answer). Succeeds e x.1 → is_legal s e ≡ true) (λ h _. h) (λ _ ok. absurd (no_failure e ok)) where
  no_failure : (e : Event) → Succeeds e Failed → ⊥
  no_failure e ok = ok

pub all_pass : (s : State) (es : List Event) → Law s → Each Fits es → AllSucceed s es → AllPass s es
all_pass s [] law fit ok = tt
all_pass s (e ∷ es) law fit ok =
    let next = step_keeps s e law fit.0 in
    (legal s e ok.0, record { step = refl; law = next; agrees = agrees (step_of s e).0 next }, all_pass (step_of s e).0 es next fit.1 ok.1)
