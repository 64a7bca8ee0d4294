-- What is viewed has HOT, in every moment: a pin sets it, and no event takes it from a cell on which a view rests.
use Rattle.std.proofs.Common.{◌≡◌, ◌≢◌, ℕ, ◌/◌, ◌^◌, ◌==◌, Bool, true, false, cond, refl, sym, ap, subst, ◌∙◌, is_some, Option, Some, None, List, [], ◌∷◌, inl, inr, bit_or, if◌then◌else◌}
use Rattle.std.proofs.lemmas.Bool.{cases_eq, cond_both, eqb-true, false≢true}
use Rattle.far_word.specs.declared.job.Job.{Job}
use Rattle.far_word.specs.declared.mark.Mark.TheVariants.{Hot, Evac, Dirty}
use Rattle.far_word.specs.declared.mark.Marks.{Marks}
use Rattle.far_word.specs.declared.pointer.Place.{Place}
use Rattle.far_word.specs.declared.pointer.PtrWord.{PtrWord}
use Rattle.far_word.specs.declared.pointer.PtrWord.TheVariants.{Free, Near, Far}
use Rattle.far_word.specs.declared.sizes.TheConstants.{CELLS}
use Rattle.far_word.specs.Job.{job_of}
use Rattle.far_word.specs.Mark.{position}
use Rattle.far_word.specs.Pointer.{read_of, with_mark, without_evac}
use Rattle.far_events.specs.events.Copied.{copied_job}
use Rattle.far_events.specs.events.namings.Moves.{after_move}
use Rattle.far_events.specs.declared.event.Event.{Event}
use Rattle.far_events.specs.declared.event.Event.TheVariants.{Pin, Soil, Close, Name, Mark, Ask, Get, Clear, Offer, Claim, Finish, Collect}
use Rattle.far_events.specs.declared.event.Reply.{Reply as Answer}
use Rattle.far_events.specs.declared.event.Task.{Task}
use Rattle.far_events.specs.declared.naming.Naming.{Naming}
use Rattle.far_events.specs.declared.naming.Naming.TheVariants.{Places, Retires, Evicts, Stays, Moves, Fetches}
use Rattle.far_events.specs.events.Claim.{after_claim, offered_in}
use Rattle.far_events.specs.events.Clear.{evac_cleared}
use Rattle.far_events.specs.events.Collect.{collected}
use Rattle.far_events.specs.events.Finish.{after_finish}
use Rattle.far_events.specs.events.Legal.{Legal}
use Rattle.far_events.specs.events.Name.{after_naming}
use Rattle.far_events.specs.events.Naming.{IsNaming, is_dropped, naming_of, naming_row}
use Rattle.far_events.specs.events.Offer.{after_offer}
use Rattle.far_events.specs.events.Quiet.{has_move}
use Rattle.far_events.specs.events.Soil.{after_soil}
use Rattle.far_events.specs.events.Step.{after, place_to_view, step_of, with_hold}
use Rattle.far_events.specs.state.Law.{Law, held_place}
use Rattle.far_events.specs.state.State.{State, put}
use Rattle.far_events.proofs.Copied.{moves_quiet}
use Rattle.far_events.proofs.Bounds.{some_of}
use Rattle.far_events.proofs.Cells.{held_near, map_mark, read_hot}
use Rattle.far_core.proofs.Owing.{is_fact, replies_report}
use Rattle.far_events.proofs.Put.{put_both, put_other, put_same}
use Rattle.far_core.proofs.events.Soil.{reads}
use Rattle.far_events.proofs.Quieting.{quiet_unheld}
use Rattle.far_text.specs.Command.{Command}
use Rattle.far_text.specs.Written.{WritesBytes}
use Rattle.far_replay.specs.Answers.{Served, IsMoment, Begins, Comes, Stores}
use Rattle.far_alone.specs.EventRows.{AllPass}
use Rattle.far_events.specs.events.Ranges.{after_events}
use Rattle.far_replay_laws.specs.LeftMarks.{ViewedAreHot, is_hot}
use Rattle.far_replay.specs.Moment.{Moment}
use Rattle.far_reply.specs.Reply.{Reply}
use Rattle.far_replay.proofs.Drops.{viewed_is}
use Rattle.far_replay.proofs.Lasting.{moment_lasts}
use Rattle.far_alone.proofs.MadeLemmas.{legal_step}
use Rattle.far_replay_laws.proofs.ViewLaws.{served_reach}

-- what is held is hot
abbrev pub AllHot : State → Type 0
AllHot s = (p : ℕ) → is_some (s.held p) ≡ true → is_hot (read_of (s.cell p)) ≡ true

-- ---- what a mark more, or EVAC less, leaves
held_hot : (o : Option PtrWord) (place : Place) → held_place (map_mark Hot o) ≡ Some place → is_hot (map_mark Hot o) ≡ true
held_hot (Some (Near len ds at m)) place e = refl
held_hot _ place e = absurd cc

marked_hot : (o n : Option PtrWord) → is_hot o ≡ true → ((v : PtrWord) → o ≡ Some v → n ≡ Some (with_mark Evac v)) → is_hot n ≡ true
marked_hot (Some (Near len ds place m)) n h r = ap is_hot (r (Near len ds place m) refl) ∙ h
marked_hot _ n h r = absurd (false≢true h)

cleared_hot : (o n : Option PtrWord) → is_hot o ≡ true → ((v : PtrWord) → o ≡ Some v → n ≡ Some (without_evac v)) → is_hot n ≡ true
cleared_hot (Some (Near len ds place m)) n h r = ap is_hot (r (Near len ds place m) refl) ∙ h
cleared_hot _ n h r = absurd (false≢true h)

dirty_hot : (o : Option PtrWord) → is_hot (map_mark Dirty o) ≡ is_hot o
dirty_hot (Some Free) = refl
dirty_hot _ = refl

-- ---- one cell is another word
cell_hot : (s : State) (p new : ℕ) → AllHot s → (is_some (s.held p) ≡ true → is_hot (read_of new) ≡ true) → (q : ℕ) → is_some (s.held q) ≡ true → is_hot (read_of (put s.cell p new q)) ≡ true
cell_hot s p new hot there q h = put_both (λ w. is_hot (read_of w) ≡ true) s.cell p new q (λ e. there (ap (λ k. is_some (s.held k)) (sym e) ∙ h)) (λ _. hot q h)

no_view : (o : Option Place) → o ≡ None → is_some o ≡ true → ⊥
no_view o e h = false≢true (sym (ap is_some e) ∙ h)

-- a move takes a span, or names what was copied
move_hot : (s : State) (p new len : ℕ) (to : Place) (j : Option ℕ) → AllHot s → (is_some (s.held p) ≡ true → ⊥) → AllHot (after_move s p new len to j)
move_hot s p new len to None hot none = cell_hot s p new hot (λ h. absurd (none h))
move_hot s p new len to (Some j) hot none = cell_hot s p new hot (λ h. absurd (none h))

-- a naming, of what isn't held
named_hot : (s : State) (p new : ℕ) (o : Option Naming) → AllHot s → (is_some (s.held p) ≡ true → ⊥) → AllHot (after_naming s p new o)
named_hot s p new None hot none = hot
named_hot s p new (Some (Places len ds place)) hot none = cell_hot s p new hot (λ h. absurd (none h))
named_hot s p new (Some (Moves len ds from to)) hot none = move_hot s p new len to (copied_job s p from to) hot none
named_hot s p new _ hot none = cell_hot s p new hot (λ h. absurd (none h))

-- no form names what is held
module _ (s : State) (law : Law s) (p old new : ℕ) (is : s.cell p ≡ old) (held : is_some (s.held p) ≡ true) where
  rests : (place : Place) × (s.held p ≡ Some place)
  rests = some_of (s.held p) held

  abbrev SaysNear : Type 0
  SaysNear = (len ds : ℕ) × (place : Place) × (has_move (read_of old) ≡ false) × (is_dropped (read_of old) ≡ false) × (m : Marks) × (read_of old ≡ Some (Near len ds place m))

  says : SaysNear
  says =
      let x = held_near (read_of (s.cell p)) rests.0 (law.views.held_names p rests.0 rests.1) in
      let near = ap read_of (sym is) ∙ x.near in
      (x.len, x.ds, rests.0, ap has_move near ∙ x.unmoved, ap is_dropped near ∙ x.kept, x.marks, near)

  unquiet : s.held p ≡ None → ⊥
  unquiet none = no_view (s.held p) none held

  no_form : (form : Naming) → IsNaming form (read_of old) (read_of new) → (naming_row s p new form).Legal → ⊥
  no_form (Places len ds place) h legal = let odd : Some Free ≡ Some (Near says.0 says.1 says.2 says.5) = sym h.0 ∙ says.6 in cc
  no_form Retires h legal = false≢true (sym says.4 ∙ h.0)
  no_form (Evicts len place) h legal = unquiet (quiet_unheld s law p legal)
  no_form Stays (len, ds, place, m, was, alive, moved, unwanted, now) legal = false≢true (sym says.3 ∙ ap has_move was ∙ moved)
  no_form (Moves len ds from to) h legal = unquiet (quiet_unheld s law p (moves_quiet s law p len ds from to legal))
  no_form (Fetches len ds place) ((m, was, alive), now) legal = let odd : Some (Far len ds m) ≡ Some (Near says.0 says.1 says.2 says.5) = sym was ∙ says.6 in cc

-- ---- each event
pub held_other : (held : ℕ → Option Place) (p : ℕ) (o : Option Place) (q : ℕ) → q ≢ p → with_hold held p o q ≡ held q
held_other held p None q ne = refl
held_other held p (Some place) q ne = put_other held p (Some place) q ne

held_yet : (b : Bool) (o : Option Place) → is_some (cond b None o) ≡ true → is_some o ≡ true
held_yet true o h = absurd (false≢true h)
held_yet false o h = h

module _ (s : State) (law : Law s) (hot : AllHot s) where
  pin_hot : (m p : ℕ) → Legal s (Pin m p) → Law (after s (Pin m p)) → AllHot (after s (Pin m p))
  pin_hot m p legal next q h = elim (cases_eq q p) [
    | inl e ↦ (
        let t : State = after s (Pin m p) in
        let reads : read_of (t.cell q) ≡ map_mark Hot (read_of (s.cell p)) =
        ap read_of (put_same s.cell p (bit_or (s.cell p) (2 ^ position Hot)) q e) ∙ (read_hot (s.cell p) (law.cells.cell_read p).0 (law.views.used_cell p legal.2)).0 in
        let at = some_of (t.held q) h in
        ap is_hot reads ∙ held_hot (read_of (s.cell p)) at.0 (sym (ap held_place reads) ∙ next.views.held_names q at.0 at.1))
    | inr ne ↦ (ap (λ w. is_hot (read_of w)) (put_other s.cell p (bit_or (s.cell p) (2 ^ position Hot)) q ne)
        ∙ hot q (sym (ap is_some (held_other s.held p (place_to_view (read_of (s.cell p))) q ne)) ∙ h))
  ]

  name_hot : (p old new : ℕ) → Legal s (Name p old new) → AllHot (after s (Name p old new))
  name_hot p old new legal = by_cell (s.cell p == old) refl where
    by_cell : (b : Bool) → (s.cell p == old) ≡ b → AllHot (if b then after_naming s p new (naming_of (read_of old) (read_of new)) else s)
    by_cell true e = named_hot s p new (naming_of (read_of old) (read_of new)) hot (λ held. no_form s law p old new (eqb-true (s.cell p) old e) held legal.1.0 legal.1.1 legal.1.2)
    by_cell false e = hot

  soil_hot : (p : ℕ) → is_some (s.held p) ≡ true → AllHot (after_soil s p)
  soil_hot p held = cell_hot s p (bit_or (s.cell p) (2 ^ position Dirty)) hot (λ h. ap is_hot (reads s law p held).0 ∙ dirty_hot (read_of (s.cell p)) ∙ hot p h)

  mark_hot : (p : ℕ) → Legal s (Mark p) → AllHot (after s (Mark p))
  mark_hot p legal =
      let new : ℕ = bit_or (s.cell p) (2 ^ position Evac) in
      cell_hot s p new hot (λ h. ap (λ w. is_hot (read_of w)) (sym (put_same s.cell p new p refl))
      ∙ marked_hot (read_of (s.cell p)) (read_of (put s.cell p new p)) (hot p h) (replies_report s law (Mark p) legal).1)

  clear_hot : (p : ℕ) → Legal s (Clear p) → AllHot (after s (Clear p))
  clear_hot p legal =
      let new : ℕ = evac_cleared (s.cell p) in
      cell_hot s p new hot (λ h. ap (λ w. is_hot (read_of w)) (sym (put_same s.cell p new p refl))
      ∙ cleared_hot (read_of (s.cell p)) (read_of (put s.cell p new p)) (hot p h) (replies_report s law (Clear p) legal).1)

  claim_hot : (c j : ℕ) (o : Option Job) → AllHot (after_claim s c j o)
  claim_hot c j None = hot
  claim_hot c j (Some job) = hot

  finish_hot : (c : ℕ) (o : Option Task) → AllHot (after_finish s c o)
  finish_hot c None = hot
  finish_hot c (Some t) = hot

  offer_hot : (j p : ℕ) (to : Place) (o : Option PtrWord) → AllHot (after_offer s j p to o)
  offer_hot j p to (Some (Near len ds from marks)) = hot
  offer_hot j p to _ = hot

  after_hot : (e : Event) → Legal s e → Law (after s e) → AllHot (after s e)
  after_hot (Pin m p) legal next = pin_hot m p legal next
  after_hot (Soil m p) legal next = soil_hot p legal.1
  after_hot (Close m) legal next = λ p h. hot p (held_yet (p / CELLS == m) (s.held p) h)
  after_hot (Name p old new) legal next = name_hot p old new legal
  after_hot (Mark p) legal next = mark_hot p legal
  after_hot (Ask m p k) legal next = cell_hot s p (bit_or (s.cell p) (2 ^ position k)) hot (λ h. absurd (no_view (s.held p) legal.4 h))
  after_hot (Get l at true) legal next = hot
  after_hot (Clear p) legal next = clear_hot p legal
  after_hot (Claim c j old) legal next = cond_both (s.copying.word j == old) (after_claim s c j (offered_in (job_of old))) s AllHot (λ _. claim_hot c j (offered_in (job_of old))) (λ _. hot)
  after_hot (Finish c) legal next = finish_hot c (s.copying.task c)
  after_hot (Collect j old) legal next = cond_both (s.copying.word j == old) (collected s j) s AllHot (λ _. hot) (λ _. hot)
  after_hot (Offer j p to) legal next = offer_hot j p to (read_of (s.cell p))
  after_hot _ legal next = hot

-- ---- rows of events, and commands
row_hot : (s : State) (es : List Event) → Law s → AllPass s es → AllHot s → AllHot (after_events s es)
row_hot s [] law pass hot = hot
row_hot s (e ∷ es) law pass hot =
    let goes : (step_of s e).0 ≡ after s e = ap (λ (x : State × Answer). x.0) (legal_step s e pass.0) in
    row_hot (step_of s e).0 es pass.1.law pass.2 (subst AllHot (sym goes) (after_hot s law hot e (is_fact s e law pass.0) (subst Law goes pass.1.law)))

still_hot : (now : Moment) (c : Command) (r : Reply) (next : Moment) → IsMoment now → WritesBytes c → Served now c r next → AllHot now.core → AllHot next.core
still_hot now c r next is bytes h hot =
    let way = served_reach now c r next (moment_lasts now is) bytes h in
    subst AllHot (sym way.ends) (row_hot now.core way.events (moment_lasts now is).law way.pass hot)

-- so it is from the first moment on, whatever is stored
pub moment_hot : (now : Moment) → IsMoment now → AllHot now.core
moment_hot now (Begins logs mutators epoch honest fits is) = subst (λ (m : Moment). AllHot m.core) (sym is) (λ p h. absurd (false≢true h))
moment_hot now (Comes before c r was bytes h) = still_hot before c r now was bytes h (moment_hot before was)
moment_hot now (Stores before p row was lies used fits is) = subst (λ (m : Moment). AllHot m.core) (sym is) (moment_hot before was)

pub views_are_hot : (now : Moment) → IsMoment now → ViewedAreHot now.core
views_are_hot now is p h = moment_hot now is p (viewed_is now.core p true h)
