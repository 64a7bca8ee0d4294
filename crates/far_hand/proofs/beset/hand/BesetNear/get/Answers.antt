use Rattle.std.proofs.Common.{refl, sym, subst, ap, ◌∙◌, ◌≡◌, ◌*◌, ◌+◌, ℕ, Bool}
use Rattle.far_word.specs.declared.sizes.TheConstants.{CELLS, LOG_WORDS}
use Rattle.far_events.specs.declared.event.Event.TheVariants.{Get}
use Rattle.far_events.specs.events.Get.{after_get}
use Rattle.far_events.specs.events.Legal.{Legal}
use Rattle.far_core.specs.state.CoreState.{core_state}
use Rattle.far_events.specs.state.State.{State}
use Rattle.far_hand.specs.BesetView.{beset_view}
use Rattle.far_hand.specs.Masked.{masked, word_at, is_counted, recounted, AllFind, AllFindJobs, CountsOnRest}
use Rattle.far_hand.proofs.Counting.{counts_read}
use Rattle.far_hand.specs.Ranges.{Gets}
use Rattle.far_hand.proofs.Reading.{gets, may_free, stays_after}
use Rattle.far_events.specs.declared.event.Reply.TheVariants.{Word}
use Rattle.far_hand.proofs.Making.{turn_then}
use Rattle.far_hand.proofs.beset.hand.BesetNear.get.Goals as goal

pub get-word-requires : goal.get-word-requires
get-word-requires c =
    let hand = c.turn.new.self in
    let legal : Legal (beset_view hand) (Get c.args.log c.args.at c.args.free) = subst (λ (u : State). Legal u (Get c.args.log c.args.at c.args.free)) (sym c.turn.ensures.view) c.requires.legal in
    record { legal = (legal.0, legal.1, may_free (core_state hand.core) (word_at hand.found.items) (is_counted hand.counted.items) (word_at hand.jobs) c.args.log c.args.free hand.finds hand.finds_jobs legal.2) }

pub invariant_of-self : goal.invariant_of-self
invariant_of-self c =
    let hand = c.turn.new.self in
    let s = core_state hand.core in
    let found = word_at hand.found.items in
    let counted = is_counted hand.counted.items in
    let free = c.args.free in
    let a = c.args.log * LOG_WORDS + c.args.at in
    let kept = stays_after s c.args.log free in
    let counts = counts_read s found counted c.args.log a free c.is_quiet_at-quiet.result c.is_quiet_at-quiet.ensures.quiet hand.counts in
    let recount = subst (λ (k : ℕ → Bool). CountsOnRest (after_get s c.args.log free) found k) (sym c.recount.ensures.words) counts in
    record {
      found_sized = hand.found_sized ∙ ap (λ n. CELLS * n) (sym kept.0 ∙ ap (λ (u : State). u.mutators) (sym c.get-word.ensures.state));
      counted_sized = c.recount.ensures.len ∙ (hand.counted_sized ∙ ap (λ n. LOG_WORDS * n) (sym kept.1 ∙ ap (λ (u : State). u.logs) (sym c.get-word.ensures.state)));
      finds = subst (λ (f : ℕ → ℕ). AllFind found f) (sym kept.2 ∙ ap (λ (u : State). u.cell) (sym c.get-word.ensures.state)) hand.finds;
      finds_jobs = subst (AllFindJobs (word_at hand.jobs)) (sym kept.3 ∙ ap (λ (u : State). u.copying.word) (sym c.get-word.ensures.state)) hand.finds_jobs;
      counts = subst (λ (u : State). CountsOnRest u found (is_counted c.recount.new.counted.items)) (sym c.get-word.ensures.state) recount;
    }

pub returns : goal.returns
returns c =
    let hand = c.turn.new.self in
    let s = core_state hand.core in
    let found = word_at hand.found.items in
    let counted = is_counted hand.counted.items in
    let jobs = word_at hand.jobs in
    let free = c.args.free in
    let a = c.args.log * LOG_WORDS + c.args.at in
    let new : masked (core_state c.get-word.new.self) found (is_counted c.recount.new.counted.items) jobs ≡ masked (after_get s c.args.log free) found (recounted counted free c.is_quiet_at-quiet.result a) jobs =
    ap (λ (u : State). masked u found (is_counted c.recount.new.counted.items) jobs) c.get-word.ensures.state
    ∙ ap (λ (k : ℕ → Bool). masked (after_get s c.args.log free) found k jobs) c.recount.ensures.words in
    let word : s.word a ≡ c.get-word.result = cc in
    let tells = gets s hand.core.law found counted jobs c.args.log c.args.at free c.is_quiet_at-quiet.result (λ _. c.is_quiet_at-quiet.ensures.quiet) c.is_quiet_at-quiet.ensures.all in
    let old = subst (λ (o : State). Gets o (masked (after_get s c.args.log free) found (recounted counted free c.is_quiet_at-quiet.result a) jobs) c.args.log c.args.at free (s.word a)) c.turn.ensures.view tells in
    let both = subst (λ (v : State). Gets (beset_view c.args.self.now) v c.args.log c.args.at free (s.word a)) (sym new) old in
    let all = subst (λ w. Gets (beset_view c.args.self.now) (masked (core_state c.get-word.new.self) found (is_counted c.recount.new.counted.items) jobs) c.args.log c.args.at free w) word both in
    let legal : Legal (beset_view hand) (Get c.args.log c.args.at free) = subst (λ (u : State). Legal u (Get c.args.log c.args.at free)) (sym c.turn.ensures.view) c.requires.legal in
    let own : Legal s (Get c.args.log c.args.at free) = (legal.0, legal.1, may_free s found counted jobs c.args.log free hand.finds hand.finds_jobs legal.2) in
    record {
      known = all.known;
      padding = all.padding;
      read = all.read;
      kept = all.kept;
      unread = all.unread;
      here = all.here;
      others = all.others;
      forgot = all.forgot;
      rest = all.rest;
      exact = λ x. absurd x;
      set = λ x. absurd x;
      made = turn_then c.args.self.now hand (Get c.args.log c.args.at free) (Word c.get-word.result) c.turn.ensures.view c.turn.ensures.made c.turn.ensures.change c.turn.ensures.events c.turn.ensures.next own c.get-word.ensures.state c.get-word.ensures.word refl refl;
    }
