-- What the event Put owes.
use Rattle.std.proofs.Common.{◌≢◌, inl, inr, arith, nat_lt, refl, sym, true, ℕ, ◌*◌, ◌+◌, ◌<◌, ◌^◌, ◌∙◌, ◌≡◌, ◌≤◌}
use Rattle.std.proofs.lemmas.Bool.{false≢true}
use Rattle.std.proofs.lemmas.Bool.Decides.{nat_tests}
use Rattle.far_events.proofs.Bounds.{span_len}
use Rattle.far_core.proofs.KeepWords.{data_kept, head_kept, keeps_words, same_kept}
use Rattle.far_core.proofs.Touching.{touched, one_word}
use Rattle.far_core.proofs.Owed.{Owed, replies}
use Rattle.far_core.specs.laws.Worlds.{Caused}
use Rattle.far_events.specs.events.Step.{change_of, is_past}
use Rattle.far_events.proofs.Put.{put_both, put_same}
use Rattle.far_core.proofs.Worlds.{World-ext, object_same}
use Rattle.far_events.specs.state.Law.{Law, head_len}
use Rattle.far_events.specs.state.State.{State, addr, put}
use Rattle.far_core.specs.world.WorldOf.{world_of}
use Rattle.far_events.specs.declared.event.Event.TheVariants.{Put}
use Rattle.far_events.specs.declared.event.Kind.{Kind}
use Rattle.far_word.specs.declared.sizes.TheConstants.{LOG_WORDS}
use mathlib.Core.Path.{fun_ext}
use Rattle.far_events.specs.declared.event.Kind.TheVariants as kinds

past_fact : (k : Kind) (at tail : ℕ) → is_past k at tail ≡ true → (k ≢ kinds.Sealed) × (tail ≤ at)
past_fact kinds.Free at tail h = (λ e. cc, grind (arith, nat_tests))
past_fact kinds.Open at tail h = (λ e. cc, grind (arith, nat_tests))
past_fact kinds.Sealed at tail h = absurd (false≢true h)

past_test : (k : Kind) (at tail : ℕ) → k ≢ kinds.Sealed → tail ≤ at → is_past k at tail ≡ true
past_test kinds.Free at tail ne le = grind (arith, nat_tests)
past_test kinds.Open at tail ne le = grind (arith, nat_tests)
past_test kinds.Sealed at tail ne le = absurd (ne refl)

-- a word put past a tail
pub keeps_put : (s : State) (law : Law s) (l at w : ℕ) → s.tail l ≤ at → at < LOG_WORDS → w < 2 ^ 64 → Law record s { word = put s.word (l * LOG_WORDS + at) w }
keeps_put s law l at w past inside wide = keeps_words s law (put s.word (l * LOG_WORDS + at) w)
    (λ b. put_both (λ x. x < 2 ^ 64) s.word (l * LOG_WORDS + at) w b (λ _. wide) (λ _. law.spans.word_fits b))
    (head_kept s law l at w past inside wide)
    (λ b h j lt. rw (data_kept s law l at w past inside wide b j h lt) (law.spans.span_padding b h j lt))
    (λ honest q free. record {
      far = (law.unadopted honest q free).far;
      near = λ n d place k e kept j lt.
          let there = law.cells.cell_near q n d place k e in
          let size : head_len (s.word (addr place)) ≡ n = rw (span_len s law q n d place k e) refl in
          data_kept s law l at w past inside wide (addr place) j there.placed (omega (arith, size)) ∙ (law.unadopted honest q free).near n d place k e kept j lt;
    })
    (λ q. record {
      back = (law.cleans q).back;
      same = λ honest n d place k e none j lt.
          let there = law.cells.cell_near q n d place k e in
          let size : head_len (s.word (addr place)) ≡ n = rw (span_len s law q n d place k e) refl in
          (law.cleans q).same honest n d place k e none j lt ∙ sym (data_kept s law l at w past inside wide (addr place) j there.placed (omega (arith, size)));
    })
    (same_kept s law l at w past inside wide)

pub put_stays : (s : State) (law : Law s) (l at w : ℕ) → s.tail l ≤ at → at < LOG_WORDS → w < 2 ^ 64 → world_of record s { word = put s.word (l * LOG_WORDS + at) w } ≡ world_of s
unfolding world_of
put_stays s law l at w past inside wide = World-ext _ _
    (fun_ext (λ q. object_same (put s.word (l * LOG_WORDS + at) w) s.word (s.stored q) q _ (λ n d place k e j lt.
    let there = law.cells.cell_near q n d place k e in
    let size : head_len (s.word (addr place)) ≡ n = rw (span_len s law q n d place k e) refl in
    data_kept s law l at w past inside wide (addr place) j there.placed (omega (arith, size)))))
    refl refl refl refl refl

-- what the event owes
module _ (l at w : ℕ) where
  pub put_owed : Owed (Put l at w)
  put_owed = record {
    fact = λ s law h.
        let x = past_fact (s.kind l) at (s.tail l) (grind (arith, nat_tests)) in
        (grind (arith, nat_tests), x.0, x.1, grind (arith, nat_tests));
    test = λ s h.
        let log : l < s.logs = h.0 in let inside : at < LOG_WORDS = h.3 in
        let a : nat_lt l s.logs ≡ true = grind (arith, nat_tests) in
        let b : nat_lt at LOG_WORDS ≡ true = grind (arith, nat_tests) in
        rw (a, b, past_test (s.kind l) at (s.tail l) h.1 h.2) refl;
    keeps = λ s law fits h. keeps_put s law l at w h.2 h.3 fits;
    does = λ s law fits h. put_stays s law l at w h.2 h.3 fits;
    within = λ s. touched (one_word s.epoch s.scope s.cell s.word s.copying.word (l * LOG_WORDS + at) w) (λ k a b. refl) (λ q a. refl) (λ q a b. refl);
    part = λ s h. tt;
    word = λ s h. inr (inl (l, at, w, refl, refl));
    reports = λ s law h. put_same s.word (l * LOG_WORDS + at) w (l * LOG_WORDS + at) refl;
    silent = λ s t h. h;
    answers = λ s x. cc;
    causes = replies (λ r. Caused (Put l at w) (change_of (Put l at w) r)) tt tt (λ n. tt) (λ x. tt) (λ place. tt);
  }
