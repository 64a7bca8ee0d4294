-- The law where some functions of a state change and no others: what is left to show.
use Rattle.std.proofs.Common.{◌≡◌, ◌≢◌, ℕ, ◌*◌, ◌/◌, ◌<◌, ◌≤◌, ◌^◌, Bool, true, false, sym, ap, ◌∙◌, Option, Some}
use Rattle.std.specs.Prelude.{IsSome}
use Rattle.std.proofs.lemmas.Bool.{false≢true, true_from_ne_false}
use Rattle.far_word.specs.declared.mark.Marks.{Marks}
use Rattle.far_word.specs.declared.pointer.Place.{Place}
use Rattle.far_word.specs.declared.pointer.PtrWord.TheVariants.{Near, Far}
use Rattle.far_word.specs.declared.sizes.TheConstants.{CELLS}
use Rattle.far_word.specs.Pointer.{read_of}
use Rattle.far_events.specs.state.Law.{Law, ScopeLaw, ViewLaw, RoundLaw, ClearLaw, BlankLaw, SoilLaw, HasEvac, NamesBack, StoresBack, IsBlank, IsClean, held_place, in_use, is_dirty}
use Rattle.far_events.specs.declared.event.Kind.{Kind}
use Rattle.far_events.specs.state.State.{State, put}
use Rattle.far_events.proofs.Cells.{Remarked, body, is_some-remarked, near_of, far_of}
use Rattle.far_events.specs.events.Naming.{is_dropped}
use Rattle.far_core.proofs.KeepJobs.{copies_fewer, copies_remarked}
use Rattle.far_events.proofs.Put.{put_both}

-- scopes and owners' views
pub law_with_owners : (s : State) (scope : ℕ → ℕ) (remembered : ℕ → Option ℕ) (used : ℕ → Bool) (held : ℕ → Option Place) (soiled : ℕ → Bool) → Law s →
    ScopeLaw s.mutators s.epoch scope remembered → ViewLaw s.cell scope used held → ClearLaw scope held s.round s.round_epoch s.clear →
    BlankLaw s.honest s.cell s.word s.stored used → SoilLaw s.cell held soiled → Law record s { scope = scope; remembered = remembered; used = used; held = held; soiled = soiled }
law_with_owners s scope remembered used held soiled law scopes views clears blanks soils =
    record { shape = law.shape; cells = law.cells; spans = law.spans; logs = law.logs; scopes = scopes; views = views; rounds = law.rounds; clears = clears; unadopted = blanks; copies = law.copies; soils = soils; cleans = law.cleans }

-- what owners remember
pub law_with_remembered : (s : State) (remembered : ℕ → Option ℕ) → Law s → ((m e : ℕ) → remembered m ≡ Some e → (e ≤ s.epoch) × (m < s.mutators)) → Law record s { remembered = remembered }
law_with_remembered s remembered law bound =
    let c = law.scopes in
    law_with_owners s s.scope remembered s.used s.held s.soiled law
    (record {
      scope_read = c.scope_read;
      scope_range = c.scope_range;
      epoch_below = c.epoch_below;
      open_bound = c.open_bound;
      remembered_bound = λ m e h. (bound m e h).0;
      remembered_range = λ m e h. (bound m e h).1;
    }) law.views law.clears law.unadopted law.soils

-- what owners hold: what was held, still is
pub law_with_held : (s : State) (held : ℕ → Option Place) → Law s → ((p : ℕ) → IsSome (s.held p) → IsSome (held p)) → ((p : ℕ) → IsSome (held p) → (s.scope (p / CELLS) ≢ 0) × (s.used p ≡ true)) →
    ((p : ℕ) (place : Place) → held p ≡ Some place → held_place (read_of (s.cell p)) ≡ Some place) → ClearLaw s.scope held s.round s.round_epoch s.clear → Law record s { held = held }
law_with_held s held law more ready names clears = law_with_owners s s.scope s.remembered s.used held s.soiled law law.scopes
    (record { held_open = λ p h. (ready p h).0; held_names = names; held_used = λ p h. (ready p h).1; used_cell = law.views.used_cell }) clears law.unadopted
    (record { soiled_held = λ p h. more p (law.soils.soiled_held p h); soiled_dirty = law.soils.soiled_dirty })

-- the logs of the round, where some left it
module _ (s : State) (round : ℕ → Bool) (law : Law s) (out : (l : ℕ) → s.round l ≡ false → round l ≡ false) where
  was_chosen : (l : ℕ) → round l ≡ true → s.round l ≡ true
  was_chosen l h = true_from_ne_false (s.round l) (λ e. false≢true (sym (out l e) ∙ h))

  pub fewer_clear : ClearLaw s.scope s.held round s.round_epoch s.clear
  fewer_clear = record {
    clear_unviewed = λ p place h c. out place.log (law.clears.clear_unviewed p place h c);
    late_unviewed = λ p e place h is late. out place.log (law.clears.late_unviewed p e place h is late);
  }

  pub law_with_fewer_chosen : Law record s { round = round }
  law_with_fewer_chosen = record {
    shape = law.shape;
    cells = law.cells;
    spans = law.spans;
    logs = law.logs;
    scopes = law.scopes;
    views = law.views;
    rounds = record {
      round_sealed = λ l h. law.rounds.round_sealed l (was_chosen l h);
      round_evac = λ p len ds place m e h. law.rounds.round_evac p len ds place m e (was_chosen place.log h);
      own_epoch = law.rounds.own_epoch;
    };
    clears = fewer_clear;
    unadopted = law.unadopted;
    copies = copies_fewer s round s.clear law was_chosen (λ m h. h);
    soils = law.soils;
    cleans = law.cleans;
  }

-- a cell with another word
pub rounds_with_cell : (epoch : ℕ) (kind : ℕ → Kind) (cell : ℕ → ℕ) (round : ℕ → Bool) (round_epoch p w : ℕ) → RoundLaw epoch kind cell round round_epoch → HasEvac round (read_of w) →
    RoundLaw epoch kind (put cell p w) round round_epoch
rounds_with_cell epoch kind cell round round_epoch p w law evac = record {
  round_sealed = law.round_sealed;
  round_evac = λ q. put_both (λ x. HasEvac round (read_of x)) cell p w q (λ _. evac) (λ _. law.round_evac q);
  own_epoch = law.own_epoch;
}

-- a cell with other marks, and with EVAC, if its log is in the round
module _ (s : State) (law : Law s) (p w : ℕ) (fits : w < 2 ^ 64) (r : Remarked (read_of (s.cell p)) (read_of w)) (evac : HasEvac s.round (read_of w)) (nonzero : s.cell p ≢ 0) where
  near_before : (q : ℕ) → q ≡ p → (n d : ℕ) (at : Place) (k : Marks) → read_of w ≡ Some (Near n d at k) → (m : Marks) × (read_of (s.cell q) ≡ Some (Near n d at m))
  near_before q e n d at k is = near_of _ n d at (ap (λ x. body (read_of (s.cell x))) e ∙ sym r.same ∙ ap body is)

  far_before : (q : ℕ) → q ≡ p → (n d : ℕ) (k : Marks) → read_of w ≡ Some (Far n d k) → (m : Marks) × (read_of (s.cell q) ≡ Some (Far n d m))
  far_before q e n d k is = far_of _ n d (ap (λ x. body (read_of (s.cell x))) e ∙ sym r.same ∙ ap body is)

  named_back : (q : ℕ) → q ≡ p → NamesBack s.word s.starts q (read_of w)
  named_back q e n d at k is = let b = near_before q e n d at k is in law.cells.cell_near q n d at b.0 b.1

  stored_back : (q : ℕ) → q ≡ p → StoresBack (s.stored q) (read_of w)
  stored_back q e n d k is = let b = far_before q e n d k is in law.cells.cell_far q n d b.0 b.1

  pub blank : (q : ℕ) → q ≡ p → s.honest ≡ true → s.used q ≡ false → IsBlank s.word (s.stored q) (read_of w)
  blank q e honest free = record {
    near = λ n d at k is whole.
        let b = near_before q e n d at k is in
        (law.unadopted honest q free).near n d at b.0 b.1 (sym (ap is_dropped b.1) ∙ ap (λ x. is_dropped (read_of (s.cell x))) e ∙ r.kept (ap is_dropped is ∙ whole));
    far = λ n d k is whole.
        let b = far_before q e n d k is in
        (law.unadopted honest q free).far n d b.0 b.1 (sym (ap is_dropped b.1) ∙ ap (λ x. is_dropped (read_of (s.cell x))) e ∙ r.kept (ap is_dropped is ∙ whole));
  }

  -- what was clean is, where it has no DIRTY yet
  clean_still : (q : ℕ) → q ≡ p → IsClean s.honest s.word (s.stored q) (read_of w)
  clean_still q e = record {
    back = λ n d at k is none.
        let b = near_before q e n d at k is in
        (law.cleans q).back n d at b.0 b.1 (sym (ap is_dirty b.1) ∙ ap (λ x. is_dirty (read_of (s.cell x))) e ∙ r.clean (ap is_dirty is ∙ none));
    same = λ honest n d at k is none.
        let b = near_before q e n d at k is in
        (law.cleans q).same honest n d at b.0 b.1 (sym (ap is_dirty b.1) ∙ ap (λ x. is_dirty (read_of (s.cell x))) e ∙ r.clean (ap is_dirty is ∙ none));
  }

  -- what has DIRTY keeps it
  dirty_still : is_dirty (read_of (s.cell p)) ≡ true → is_dirty (read_of w) ≡ true
  dirty_still h = true_from_ne_false _ (λ none. false≢true (sym (r.clean none) ∙ h))

  soils_still : SoilLaw (put s.cell p w) s.held s.soiled
  soils_still = record {
    soiled_held = law.soils.soiled_held;
    soiled_dirty = λ q h. put_both (λ x. is_dirty (read_of x) ≡ true) s.cell p w q (λ e. dirty_still (law.soils.soiled_dirty p (ap s.soiled (sym e) ∙ h))) (λ _. law.soils.soiled_dirty q h);
  }

  -- the same where what owners use changes too
  pub law_with_cell : (used : ℕ → Bool) → ViewLaw (put s.cell p w) s.scope used s.held → BlankLaw s.honest (put s.cell p w) s.word s.stored used →
      Law record s { cell = put s.cell p w; used = used }
  law_with_cell used views blanks = record {
    shape = law.shape;
    cells = record {
      cell_read = λ q. put_both (λ x. (x < 2 ^ 64) × IsSome (read_of x)) s.cell p w q (λ _. (fits, is_some-remarked _ _ r (law.cells.cell_read p).1)) (λ _. law.cells.cell_read q);
      cell_range = λ q. put_both (λ x. x ≢ 0 → q < CELLS * s.mutators) s.cell p w q (λ e _. rw e (law.cells.cell_range p nonzero)) (λ _. law.cells.cell_range q);
      cell_near = λ q. put_both (λ x. NamesBack s.word s.starts q (read_of x)) s.cell p w q (named_back q) (λ _. law.cells.cell_near q);
      cell_far = λ q. put_both (λ x. StoresBack (s.stored q) (read_of x)) s.cell p w q (stored_back q) (λ _. law.cells.cell_far q);
    };
    spans = law.spans;
    logs = law.logs;
    scopes = law.scopes;
    views = views;
    rounds = rounds_with_cell s.epoch s.kind s.cell s.round s.round_epoch p w law.rounds evac;
    clears = law.clears;
    unadopted = blanks;
    copies = copies_remarked s p w law r;
    soils = soils_still;
    cleans = λ q. put_both (λ x. IsClean s.honest s.word (s.stored q) (read_of x)) s.cell p w q (clean_still q) (λ _. law.cleans q);
  }

module _ (s : State) (law : Law s) (p w : ℕ) (fits : w < 2 ^ 64) (r : Remarked (read_of (s.cell p)) (read_of w)) (evac : HasEvac s.round (read_of w)) (nonzero : s.cell p ≢ 0)
    (held : (place : Place) → s.held p ≡ Some place → held_place (read_of w) ≡ Some place) (live : s.used p ≡ true → in_use (read_of w) ≡ true) where
  pub law_with_cell_marks : Law record s { cell = put s.cell p w }
  law_with_cell_marks = law_with_cell s law p w fits r evac nonzero s.used
      (record {
        held_open = law.views.held_open;
        held_names = λ q at h. put_both (λ x. held_place (read_of x) ≡ Some at) s.cell p w q (λ e. held at (ap s.held (sym e) ∙ h)) (λ _. law.views.held_names q at h);
        held_used = law.views.held_used;
        used_cell = λ q h. put_both (λ x. in_use (read_of x) ≡ true) s.cell p w q (λ e. live (ap s.used (sym e) ∙ h)) (λ _. law.views.used_cell q h);
      })
      (λ honest q free. put_both (λ x. IsBlank s.word (s.stored q) (read_of x)) s.cell p w q (λ e. blank s law p w fits r evac nonzero q e honest free) (λ _. law.unadopted honest q free))
