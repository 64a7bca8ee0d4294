use Rattle.std.proofs.Common.{refl, sym, subst, ap, ◌∙◌, ◌≡◌, ◌*◌, ◌<◌, ℕ, bit_or}
use Rattle.far_word.specs.declared.sizes.TheConstants.{CELLS, LOG_WORDS}
use Rattle.far_events.specs.declared.event.Event.TheVariants.{Mark}
use Rattle.far_events.specs.events.Legal.{Legal}
use Rattle.far_core.specs.state.CoreState.{core_state}
use Rattle.far_events.specs.state.State.{State, put}
use Rattle.far_hand.specs.BesetView.{beset_view}
use Rattle.far_hand.specs.Masked.{word_at, is_counted, AllFind, AllFindJobs, CountsOnRest}
use Rattle.far_hand.proofs.Counting.{finds_named}
use Rattle.far_hand.proofs.EvacMarks.{with_evac, counts_marked, legal_mark}
use Rattle.far_events.specs.declared.event.Reply.TheVariants.{Word}
use Rattle.far_hand.proofs.Making.{turn_then}
use Rattle.far_hand.proofs.beset.hand.BesetNear.mark.Goals as goal

pub invariant_of-self : goal.invariant_of-self
invariant_of-self c =
    let hand = c.turn.new.self in
    let s = core_state hand.core in
    let found = word_at hand.found.items in
    let counted = is_counted hand.counted.items in
    let p = c.args.pointer in
    let legal : Legal (beset_view hand) (Mark p) = subst (λ (u : State). Legal u (Mark p)) (sym c.turn.ensures.view) c.requires.legal in
    let is : s.cell p ≡ c.mark-cell.result = cc in
    let word : bit_or c.mark-cell.result c.mask.result ≡ with_evac (s.cell p) = ap (λ m. bit_or c.mark-cell.result m) c.mask.ensures ∙ ap with_evac (sym is) in
    let words : word_at c.find.new.found.items ≡ put found p (with_evac (s.cell p)) = c.find.ensures.words ∙ ap (put found p) word in
    let finds = subst (λ (f : ℕ → ℕ). AllFind f (put s.cell p (with_evac (s.cell p)))) (sym words) (finds_named found s.cell p (with_evac (s.cell p)) hand.finds) in
    let counts = subst (λ (f : ℕ → ℕ). CountsOnRest s f counted) (sym words) (counts_marked s hand.core.law found counted hand.finds p legal hand.counts) in
    record {
      found_sized = c.find.ensures.len ∙ (hand.found_sized ∙ ap (λ (u : State). CELLS * u.mutators) (sym c.mark-cell.ensures.state));
      counted_sized = hand.counted_sized ∙ ap (λ (u : State). LOG_WORDS * u.logs) (sym c.mark-cell.ensures.state);
      finds = subst (λ (u : State). AllFind (word_at c.find.new.found.items) u.cell) (sym c.mark-cell.ensures.state) finds;
      finds_jobs = subst (λ (u : State). AllFindJobs (word_at hand.jobs) u.copying.word) (sym c.mark-cell.ensures.state) hand.finds_jobs;
      counts = subst (λ (u : State). CountsOnRest u (word_at c.find.new.found.items) counted) (sym c.mark-cell.ensures.state) counts;
    }

pub returns-clause-made : goal.returns-clause-made
returns-clause-made c =
    let hand = c.turn.new.self in
    let legal : Legal (beset_view hand) (Mark c.args.pointer) = subst (λ (u : State). Legal u (Mark c.args.pointer)) (sym c.turn.ensures.view) c.requires.legal in
    let own = legal_mark (core_state hand.core) hand.core.law (word_at hand.found.items) (is_counted hand.counted.items) hand.finds c.args.pointer legal in
    turn_then c.args.self.now hand (Mark c.args.pointer) (Word c.mark-cell.result) c.turn.ensures.view c.turn.ensures.made c.turn.ensures.change c.turn.ensures.events c.turn.ensures.next own c.mark-cell.ensures.state c.mark-cell.ensures.word refl refl

pub mark-cell-requires : goal.mark-cell-requires
mark-cell-requires c =
    let hand = c.turn.new.self in
    let legal : Legal (beset_view hand) (Mark c.args.pointer) = subst (λ (u : State). Legal u (Mark c.args.pointer)) (sym c.turn.ensures.view) c.requires.legal in
    record { legal = legal_mark (core_state hand.core) hand.core.law (word_at hand.found.items) (is_counted hand.counted.items) hand.finds c.args.pointer legal }

pub find-requires : goal.find-requires
find-requires c =
    let legal : Legal (beset_view c.turn.new.self) (Mark c.args.pointer) = subst (λ (u : State). Legal u (Mark c.args.pointer)) (sym c.turn.ensures.view) c.requires.legal in
    subst (λ n. c.args.pointer < n) (sym c.turn.new.self.found_sized) legal.0

pub returns-clause-exact : goal.returns-clause-exact
returns-clause-exact c = λ still. absurd still

pub returns-clause-set : goal.returns-clause-set
returns-clause-set c = λ still. absurd still
