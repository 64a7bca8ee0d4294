use Rattle.std.proofs.Common.{sym, subst, ap, ◌∙◌, ◌≡◌, ◌*◌, ◌-◌, ◌^◌, ◌<◌, ℕ, Bool, false, refl, bit_and}
use Rattle.far_word.specs.declared.sizes.TheConstants.{CELLS, LOG_WORDS}
use Rattle.far_events.specs.declared.event.Event.TheVariants.{Clear}
use Rattle.far_events.specs.events.Clear.{evac_cleared}
use Rattle.far_events.specs.events.Step.{after}
use Rattle.far_core.specs.state.CoreState.{core_state}
use Rattle.far_events.specs.state.State.{State, put}
use Rattle.far_hand.specs.BesetView.{beset_view}
use Rattle.far_hand.specs.Known.{Forgets}
use Rattle.far_hand.specs.Masked.{masked, word_at, is_counted, AllFind, AllFindJobs}
use Rattle.far_hand.proofs.Counting.{finds_named}
use Rattle.far_hand.proofs.Reading.{forgets, header_known}
use Rattle.far_events.specs.declared.event.Reply.TheVariants.{Word}
use Rattle.far_events.specs.events.Legal.{Legal}
use Rattle.far_hand.proofs.Finding.{near_found}
use Rattle.far_hand.proofs.Making.{none_rest, turn_then}
use Rattle.far_hand.proofs.beset.hand.BesetNear.clear.Goals as goal

pub invariant_of-self : goal.invariant_of-self
invariant_of-self c =
    let hand = c.turn.new.self in
    let s = core_state hand.core in
    let t = core_state c.clear-cell.new.self in
    let found = word_at hand.found.items in
    let p = c.args.pointer in
    let is : s.cell p ≡ c.clear-cell.result = cc in
    let words : word_at c.find.new.found.items ≡ put found p (evac_cleared (s.cell p)) =
    c.find.ensures.words ∙ ap (put found p) (ap (λ m. bit_and c.clear-cell.result (2 ^ 64 - 1 - m)) c.mask.ensures ∙ ap evac_cleared (sym is)) in
    let finds = subst (λ (f : ℕ → ℕ). AllFind f (put s.cell p (evac_cleared (s.cell p)))) (sym words) (finds_named found s.cell p (evac_cleared (s.cell p)) hand.finds) in
    record {
      found_sized = c.find.ensures.len ∙ (hand.found_sized ∙ ap (λ (u : State). CELLS * u.mutators) (sym c.clear-cell.ensures.state));
      counted_sized = c.forget.ensures.len ∙ (hand.counted_sized ∙ ap (λ (u : State). LOG_WORDS * u.logs) (sym c.clear-cell.ensures.state));
      finds = subst (λ (u : State). AllFind (word_at c.find.new.found.items) u.cell) (sym c.clear-cell.ensures.state) finds;
      finds_jobs = subst (λ (u : State). AllFindJobs (word_at hand.jobs) u.copying.word) (sym c.clear-cell.ensures.state) hand.finds_jobs;
      counts = none_rest t (word_at c.find.new.found.items) (is_counted c.forget.new.counted.items) c.forget.ensures.none;
    }

pub returns-clause-forgot : goal.returns-clause-forgot
returns-clause-forgot c =
    let hand = c.turn.new.self in
    let s = core_state hand.core in
    let counted = is_counted hand.counted.items in
    let found = word_at c.find.new.found.items in
    let jobs = word_at hand.jobs in
    let next = after s (Clear c.args.pointer) in
    let bare = forgets (masked s (word_at hand.found.items) counted jobs) (masked next found (λ _. false) jobs) s.starts refl s.word refl (λ a st. sym (header_known s.word s.starts counted a st)) in
    let old = subst (λ (o : State). Forgets o (masked next found (λ _. false) jobs)) c.turn.ensures.view bare in
    let none = subst (λ (k : ℕ → Bool). Forgets (beset_view c.args.self.now) (masked next found k jobs)) (sym c.forget.ensures.none) old in
    subst (λ (u : State). Forgets (beset_view c.args.self.now) (masked u found (is_counted c.forget.new.counted.items) jobs)) (sym c.clear-cell.ensures.state) none

pub returns-clause-made : goal.returns-clause-made
returns-clause-made c =
    let hand = c.turn.new.self in
    let s = core_state hand.core in
    let p = c.args.pointer in
    let legal : Legal (beset_view hand) (Clear p) = subst (λ (u : State). Legal u (Clear p)) (sym c.turn.ensures.view) c.requires.legal in
    let near = legal.1 in
    let x = near_found (word_at hand.found.items p) (s.cell p) (hand.finds p) near.0 near.1 near.2 near.3 near.4 in
    let own : Legal s (Clear p) = (legal.0, (near.0, near.1, near.2, x.marks, x.near)) in
    turn_then c.args.self.now hand (Clear p) (Word c.clear-cell.result) c.turn.ensures.view c.turn.ensures.made c.turn.ensures.change c.turn.ensures.events c.turn.ensures.next own c.clear-cell.ensures.state c.clear-cell.ensures.word refl refl

pub clear-cell-requires : goal.clear-cell-requires
clear-cell-requires c =
    let hand = c.turn.new.self in
    let p = c.args.pointer in
    let legal : Legal (beset_view hand) (Clear p) = subst (λ (u : State). Legal u (Clear p)) (sym c.turn.ensures.view) c.requires.legal in
    let near = legal.1 in
    let x = near_found (word_at hand.found.items p) ((core_state hand.core).cell p) (hand.finds p) near.0 near.1 near.2 near.3 near.4 in
    record { legal = (legal.0, (near.0, near.1, near.2, x.marks, x.near)) }

pub find-requires : goal.find-requires
find-requires c =
    let legal : Legal (beset_view c.turn.new.self) (Clear c.args.pointer) = subst (λ (u : State). Legal u (Clear c.args.pointer)) (sym c.turn.ensures.view) c.requires.legal in
    subst (λ n. c.args.pointer < n) (sym c.turn.new.self.found_sized) legal.0

pub returns-clause-exact : goal.returns-clause-exact
returns-clause-exact c = λ still. absurd still

pub returns-clause-set : goal.returns-clause-set
returns-clause-set c = λ still. absurd still
