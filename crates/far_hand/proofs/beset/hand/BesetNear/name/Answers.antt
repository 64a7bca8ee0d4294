use Rattle.std.proofs.Common.{refl, sym, subst, ap, ◌∙◌, ◌≡◌, ◌*◌, ℕ, false}
use Rattle.far_word.specs.declared.sizes.TheConstants.{CELLS, LOG_WORDS}
use Rattle.far_events.specs.declared.event.Event.TheVariants.{Name}
use Rattle.far_events.specs.events.Legal.{Legal}
use Rattle.far_events.specs.events.Step.{after}
use Rattle.far_core.specs.state.CoreState.{core_state}
use Rattle.far_events.specs.state.State.{State, put}
use Rattle.far_hand.specs.BesetView.{beset_view}
use Rattle.far_hand.specs.Finds.{Finds}
use Rattle.far_hand.specs.Known.{KnowsLeaving}
use Rattle.far_hand.specs.Masked.{masked, word_at, is_counted, AllFind, AllFindJobs, CountsOnRest}
use Rattle.far_hand.proofs.Counting.{counts_found, finds_named, finds_put}
use Rattle.far_hand.proofs.Finding.{finds_seen}
use Rattle.far_hand.proofs.Naming.{Names, legal_name, names, rows_name, cells_named, jobs_named, sizes_named, won, lost, lost_word, lost_state}
use Rattle.far_events.specs.declared.event.Reply.TheVariants.{Done, Word}
use Rattle.far_hand.proofs.Making.{none_rest, turn_then}
use Rattle.far_hand.proofs.beset.hand.BesetNear.name.Goals as goal

pub name-requires : goal.name-requires
name-requires c =
    let hand = c.turn.new.self in
    let s = core_state hand.core in
    let legal : Legal (beset_view hand) (Name c.args.pointer c.args.old c.args.new) = subst (λ (u : State). Legal u (Name c.args.pointer c.args.old c.args.new)) (sym c.turn.ensures.view) c.requires.legal in
    record { legal = legal_name s hand.core.law (word_at hand.found.items) (is_counted hand.counted.items) (word_at hand.jobs) hand.finds hand.finds_jobs c.args.pointer c.args.old c.args.new legal.0 c.ranges.new.fits legal }

pub invariant_of-self : goal.invariant_of-self
invariant_of-self c =
    let hand = c.turn.new.self in
    let s = core_state hand.core in
    let t = core_state c.name.new.self in
    let found = word_at hand.found.items in
    let counted = is_counted hand.counted.items in
    let jobs = word_at hand.jobs in
    let p = c.args.pointer in
    let old = c.args.old in
    let new = c.args.new in
    let legal : Legal (beset_view hand) (Name p old new) = subst (λ (u : State). Legal u (Name p old new)) (sym c.turn.ensures.view) c.requires.legal in
    let seen : old ≡ found p = c.requires.seen ∙ ap (λ (u : State). u.cell p) (sym c.turn.ensures.view) in
    let won_it : s.cell p ≡ old = won s p old new c.in-Ok.ensures.won in
    let sizes = sizes_named s hand.core.law found counted jobs hand.finds hand.finds_jobs p old new legal.0 c.ranges.new.fits legal seen won_it in
    let cells : t.cell ≡ put s.cell p new = ap (λ (u : State). u.cell) c.name.ensures.state ∙ cells_named s hand.core.law found counted jobs hand.finds hand.finds_jobs p old new legal.0 c.ranges.new.fits legal seen won_it in
    let named = subst (λ (f : ℕ → ℕ). AllFind f (put s.cell p new)) (sym c.find.ensures.words) (finds_named found s.cell p new hand.finds) in
    record {
      found_sized = c.find.ensures.len ∙ (hand.found_sized ∙ ap (λ n. CELLS * n) (sym sizes.0 ∙ ap (λ (u : State). u.mutators) (sym c.name.ensures.state)));
      counted_sized = c.forget.ensures.len ∙ (hand.counted_sized ∙ ap (λ n. LOG_WORDS * n) (sym sizes.1 ∙ ap (λ (u : State). u.logs) (sym c.name.ensures.state)));
      finds = subst (λ (f : ℕ → ℕ). AllFind (word_at c.find.new.found.items) f) (sym cells) named;
      finds_jobs = subst (AllFindJobs jobs) (sym (ap (λ (u : State). u.copying.word) c.name.ensures.state ∙ jobs_named s hand.core.law found counted jobs hand.finds hand.finds_jobs p old new legal.0 c.ranges.new.fits legal seen won_it)) hand.finds_jobs;
      counts = none_rest t (word_at c.find.new.found.items) (is_counted c.forget.new.counted.items) c.forget.ensures.none;
    }

pub invariant_of-self-in-Err : goal.invariant_of-self-in-Err
invariant_of-self-in-Err c =
    let hand = c.turn.new.self in
    let s = core_state hand.core in
    let found = word_at hand.found.items in
    let counted = is_counted hand.counted.items in
    let jobs = word_at hand.jobs in
    let p = c.args.pointer in
    let old = c.args.old in
    let new = c.args.new in
    let w = c.in-Err.found in
    let same : core_state c.name.new.self ≡ s = c.name.ensures.state ∙ lost_state s p old new (lost s p old new w c.in-Err.ensures.found) in
    let is : s.cell p ≡ w = lost_word s p old new w c.in-Err.ensures.found in
    let finds = subst (λ (f : ℕ → ℕ). AllFind f s.cell) (sym c.find-in-Err.ensures.words) (finds_put found s.cell p w hand.finds is) in
    let counts = subst (λ (f : ℕ → ℕ). CountsOnRest s f counted) (sym c.find-in-Err.ensures.words)
    (counts_found s found counted p w hand.counts (finds_seen found s.cell p w hand.finds is)) in
    record {
      found_sized = c.find-in-Err.ensures.len ∙ (hand.found_sized ∙ ap (λ (u : State). CELLS * u.mutators) (sym same));
      counted_sized = hand.counted_sized ∙ ap (λ (u : State). LOG_WORDS * u.logs) (sym same);
      finds = subst (λ (u : State). AllFind (word_at c.find-in-Err.new.found.items) u.cell) (sym same) finds;
      finds_jobs = subst (λ (u : State). AllFindJobs jobs u.copying.word) (sym same) hand.finds_jobs;
      counts = subst (λ (u : State). CountsOnRest u (word_at c.find-in-Err.new.found.items) counted) (sym same) counts;
    }

pub returns-in-Ok-clause-done : goal.returns-in-Ok-clause-done
returns-in-Ok-clause-done c =
    let hand = c.turn.new.self in
    let s = core_state hand.core in
    let found = word_at hand.found.items in
    let counted = is_counted hand.counted.items in
    let jobs = word_at hand.jobs in
    let p = c.args.pointer in
    let old = c.args.old in
    let new = c.args.new in
    let legal : Legal (beset_view hand) (Name p old new) = subst (λ (u : State). Legal u (Name p old new)) (sym c.turn.ensures.view) c.requires.legal in
    let seen : old ≡ found p = c.requires.seen ∙ ap (λ (u : State). u.cell p) (sym c.turn.ensures.view) in
    let known : KnowsLeaving (beset_view hand) old new = subst (λ (u : State). KnowsLeaving u old new) (sym c.turn.ensures.view) c.requires.known in
    let tells = names s hand.core.law found counted jobs hand.finds hand.finds_jobs p old new legal.0 c.ranges.new.fits legal seen (won s p old new c.in-Ok.ensures.won) known in
    let from_old = subst (λ (o : State). Names o (masked (after s (Name p old new)) (put found p new) (λ _. false) jobs) p old new) c.turn.ensures.view tells in
    (rows_name _ _ _ _ _ _ _ _ _ _ _ _ c.name.ensures.state c.find.ensures.words c.forget.ensures.none refl from_old).done

pub returns-in-Ok-clause-forgot : goal.returns-in-Ok-clause-forgot
returns-in-Ok-clause-forgot c =
    let hand = c.turn.new.self in
    let s = core_state hand.core in
    let found = word_at hand.found.items in
    let counted = is_counted hand.counted.items in
    let jobs = word_at hand.jobs in
    let p = c.args.pointer in
    let old = c.args.old in
    let new = c.args.new in
    let legal : Legal (beset_view hand) (Name p old new) = subst (λ (u : State). Legal u (Name p old new)) (sym c.turn.ensures.view) c.requires.legal in
    let seen : old ≡ found p = c.requires.seen ∙ ap (λ (u : State). u.cell p) (sym c.turn.ensures.view) in
    let known : KnowsLeaving (beset_view hand) old new = subst (λ (u : State). KnowsLeaving u old new) (sym c.turn.ensures.view) c.requires.known in
    let tells = names s hand.core.law found counted jobs hand.finds hand.finds_jobs p old new legal.0 c.ranges.new.fits legal seen (won s p old new c.in-Ok.ensures.won) known in
    let from_old = subst (λ (o : State). Names o (masked (after s (Name p old new)) (put found p new) (λ _. false) jobs) p old new) c.turn.ensures.view tells in
    (rows_name _ _ _ _ _ _ _ _ _ _ _ _ c.name.ensures.state c.find.ensures.words c.forget.ensures.none refl from_old).forgot

pub returns-in-Ok-clause-stored : goal.returns-in-Ok-clause-stored
returns-in-Ok-clause-stored c =
    let hand = c.turn.new.self in
    let s = core_state hand.core in
    let found = word_at hand.found.items in
    let counted = is_counted hand.counted.items in
    let jobs = word_at hand.jobs in
    let p = c.args.pointer in
    let old = c.args.old in
    let new = c.args.new in
    let legal : Legal (beset_view hand) (Name p old new) = subst (λ (u : State). Legal u (Name p old new)) (sym c.turn.ensures.view) c.requires.legal in
    let seen : old ≡ found p = c.requires.seen ∙ ap (λ (u : State). u.cell p) (sym c.turn.ensures.view) in
    let known : KnowsLeaving (beset_view hand) old new = subst (λ (u : State). KnowsLeaving u old new) (sym c.turn.ensures.view) c.requires.known in
    let tells = names s hand.core.law found counted jobs hand.finds hand.finds_jobs p old new legal.0 c.ranges.new.fits legal seen (won s p old new c.in-Ok.ensures.won) known in
    let from_old = subst (λ (o : State). Names o (masked (after s (Name p old new)) (put found p new) (λ _. false) jobs) p old new) c.turn.ensures.view tells in
    (rows_name _ _ _ _ _ _ _ _ _ _ _ _ c.name.ensures.state c.find.ensures.words c.forget.ensures.none refl from_old).stored

pub returns-in-Err-clause-found : goal.returns-in-Err-clause-found
returns-in-Err-clause-found c =
    let hand = c.turn.new.self in
    let s = core_state hand.core in
    let found = word_at hand.found.items in
    let p = c.args.pointer in
    let seen : c.args.old ≡ found p = c.requires.seen ∙ ap (λ (u : State). u.cell p) (sym c.turn.ensures.view) in
    subst (λ v. Finds v c.in-Err.found) (sym seen) (finds_seen found s.cell p c.in-Err.found hand.finds (lost_word s p c.args.old c.args.new c.in-Err.found c.in-Err.ensures.found))

pub returns-in-Ok-clause-made : goal.returns-in-Ok-clause-made
returns-in-Ok-clause-made c =
    let hand = c.turn.new.self in
    let s = core_state hand.core in
    let p = c.args.pointer in
    let legal : Legal (beset_view hand) (Name p c.args.old c.args.new) = subst (λ (u : State). Legal u (Name p c.args.old c.args.new)) (sym c.turn.ensures.view) c.requires.legal in
    let own = legal_name s hand.core.law (word_at hand.found.items) (is_counted hand.counted.items) (word_at hand.jobs) hand.finds hand.finds_jobs p c.args.old c.args.new legal.0 c.ranges.new.fits legal in
    turn_then c.args.self.now hand (Name p c.args.old c.args.new) Done c.turn.ensures.view c.turn.ensures.made c.turn.ensures.change c.turn.ensures.events c.turn.ensures.next own c.name.ensures.state c.in-Ok.ensures.won refl refl

pub returns-in-Err-clause-lost : goal.returns-in-Err-clause-lost
returns-in-Err-clause-lost c =
    let hand = c.turn.new.self in
    let s = core_state hand.core in
    let p = c.args.pointer in
    let legal : Legal (beset_view hand) (Name p c.args.old c.args.new) = subst (λ (u : State). Legal u (Name p c.args.old c.args.new)) (sym c.turn.ensures.view) c.requires.legal in
    let own = legal_name s hand.core.law (word_at hand.found.items) (is_counted hand.counted.items) (word_at hand.jobs) hand.finds hand.finds_jobs p c.args.old c.args.new legal.0 c.ranges.new.fits legal in
    turn_then c.args.self.now hand (Name p c.args.old c.args.new) (Word c.in-Err.found) c.turn.ensures.view c.turn.ensures.made c.turn.ensures.change c.turn.ensures.events c.turn.ensures.next own c.name.ensures.state c.in-Err.ensures.found refl refl

pub returns-in-Ok-clause-set : goal.returns-in-Ok-clause-set
returns-in-Ok-clause-set c = λ still. absurd still

pub returns-in-Err-clause-set : goal.returns-in-Err-clause-set
returns-in-Err-clause-set c = λ still. absurd still
