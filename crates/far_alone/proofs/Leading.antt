-- Rows of events that lead from one state to another: each is made. They are put together, and a span is written by such a row.
use Rattle.std.proofs.Common.{◌≡◌, ◌≢◌, ℕ, ◌+◌, ◌*◌, ◌^◌, ◌<◌, ◌≤◌, true, refl, sym, ap, subst, ◌∙◌, arith, List, [], ◌∷◌, ◌++◌, map}
use Rattle.std.specs.List.{range_with_len, AllByRecursion as Each}
use Rattle.far_word.specs.declared.pointer.Place.{Place}
use Rattle.far_word.specs.declared.sizes.TheConstants.{LOG_WORDS}
use Rattle.far_word.specs.Header.{IsHead, head_word}
use Rattle.far_word.specs.Sizes.{size_of, words_for}
use Rattle.far_word.proofs.HeaderLaws.{head_fits}
use Rattle.far_events.specs.declared.event.Event.{Event}
use Rattle.far_events.specs.declared.event.Event.TheVariants.{Put as Puts}
use Rattle.far_events.specs.declared.event.Kind.TheVariants.{Sealed}
use Rattle.far_events.specs.declared.event.Reply.{Reply}
use Rattle.far_events.specs.events.Legal.{IsNext, Legal}
use Rattle.far_events.specs.events.Ranges.{AllLegal, after_events}
use Rattle.far_events.specs.events.Step.{Fits, after, answer, is_legal, step_of}
use Rattle.far_events.specs.state.Law.{Law}
use Rattle.far_events.specs.state.State.{State, put, addr}
use Rattle.far_events.proofs.NewSpans.{at_tail}
use Rattle.far_core.proofs.Owing.{is_test, keeps, never_refused}
use Rattle.far_core.proofs.Ranges.{row_made}
use Rattle.far_book.specs.book.Effects.{with_written_span}
use Rattle.far_book.proofs.region.Places.{next_unsealed}
use Rattle.far_alone.specs.EventRows.{Succeeds, AllSucceed}
use Rattle.far_alone.specs.Events.{row_puts, span_events}
use Rattle.far_alone.proofs.Each.{Each-append, Each-row}
use Rattle.far_alone.proofs.MadeLemmas.{made-append, AllSucceed-append, made_first, first_succeeds, legal_step, made_law, not_refused}

-- the events are made, one after the other, and lead from s to t
pub record Leads (s : State) (es : List Event) (t : State) : Type 0 where
  pub succeed : AllSucceed s es
  pub fit : Each Fits es
  pub ends : after_events s es ≡ t

pub leads_nowhere : (s : State) → Leads s [] s
leads_nowhere s = record { succeed = tt; fit = tt; ends = refl }

pub leads_append : (s t u : State) (es fs : List Event) → Leads s es t → Leads t fs u → Leads s (es ++ fs) u
leads_append s t u es fs a b = record {
  succeed = AllSucceed-append s es fs a.succeed (subst (λ x. AllSucceed x fs) (sym a.ends) b.succeed);
  fit = Each-append Fits es fs a.fit b.fit;
  ends = made-append s es fs ∙ ap (λ x. after_events x fs) a.ends ∙ b.ends;
}

pub leads_one : (s : State) (e : Event) → Legal s e → Fits e → Leads s (e ∷ []) (after s e)
leads_one s e legal fits =
    let test : is_legal s e ≡ true = is_test s e legal in
    record { succeed = first_succeeds s e [] test (not_refused e (answer s e) (never_refused s e)) tt; fit = (fits, tt); ends = made_first s e [] test }

pub leads_law : (s t : State) (es : List Event) → Law s → Leads s es t → Law t
leads_law s t es law way = subst Law way.ends (made_law s es law way.fit)

-- legal events are made
pub legal_made : (s : State) (es : List Event) → AllLegal s es → AllSucceed s es
legal_made s [] h = tt
legal_made s (e ∷ es) h =
    (subst (λ (x : State × Reply). Succeeds e x.1) (sym (legal_step s e (is_test s e h.0))) (not_refused e (answer s e) (never_refused s e)), legal_made (step_of s e).0 es h.1)

-- ---- a span is written where the next one of a log may stand
module _ (s : State) (law : Law s) (p len ds : ℕ) (place : Place) (row : ℕ → ℕ) (next : IsNext s place) (fits : place.at + size_of len ≤ LOG_WORDS)
    (head : IsHead record { pointer = p; len = len; ds = ds }) (wide : (k : ℕ) → k < words_for len → row k < 2 ^ 64) where
  at_end : place.at ≡ s.tail place.log
  at_end = at_tail s law place next

  unsealed : s.kind place.log ≢ Sealed
  unsealed = next_unsealed s place next

  abbrev put_header : Event
  put_header = Puts place.log place.at (head_word p len ds)

  abbrev headed : State
  headed = after s put_header

  header_legal : Legal s put_header
  header_legal = (next.0, unsealed, omega (arith, at_end), omega (arith, fits))

  header_wide : head_word p len ds < 2 ^ 64
  header_wide = head_fits (record { pointer = p; len = len; ds = ds }) head

  law_headed : Law headed
  law_headed = keeps s put_header law header_wide header_legal

  -- a word behind it is put
  abbrev put_word : ℕ → Event
  put_word k = Puts place.log (place.at + 1 + k) (row k)

  abbrev Lies : State → Type 0
  Lies u = Law u × (place.log < u.logs) × (u.kind place.log ≢ Sealed) × (u.tail place.log ≤ place.at + 1)

  word_legal : (u : State) → Lies u → (k : ℕ) → k < words_for len → Legal u (put_word k)
  word_legal u good k lt = (good.1, good.2, omega (arith, good.3), omega (arith, fits))

  word_made : (u : State) → Lies u → (k : ℕ) → k < words_for len → after u (put_word k) ≡ record u { word = put u.word (addr place + 1 + k) (row k) }
  word_made u good k lt = let same : place.log * LOG_WORDS + (place.at + 1 + k) ≡ addr place + 1 + k = omega arith in ap (λ a. record u { word = put u.word a (row k) }) same

  word_stays : (u : State) → Lies u → (k : ℕ) → k < words_for len → Lies (after u (put_word k))
  word_stays u good k lt = (keeps u (put_word k) good.0 (wide k lt) (word_legal u good k lt), good.1, good.2, good.3)

  all : AllLegal headed (map put_word (range_with_len 0 (words_for len))) × Lies (after_events headed (map put_word (range_with_len 0 (words_for len))))
      × (after_events headed (map put_word (range_with_len 0 (words_for len))) ≡ with_written_span s p len ds place row)
  all = row_made put_word (addr place + 1) (words_for len) row Lies word_legal word_made word_stays headed (law_headed, next.0, unsealed, omega (arith, at_end))

  row_leads : Leads headed (row_puts place (words_for len) row) (with_written_span s p len ds place row)
  row_leads = record {
    succeed = legal_made headed (row_puts place (words_for len) row) all.0;
    fit = Each-row Fits (λ i. Puts place.log (place.at + 1 + i) (row i)) 0 (words_for len) (λ i lt. wide (0 + i) (omega (arith, lt)));
    ends = all.2;
  }

  pub span_leads : Leads s (span_events p len ds place row) (with_written_span s p len ds place row)
  span_leads = leads_append s headed (with_written_span s p len ds place row) (put_header ∷ []) (row_puts place (words_for len) row) (leads_one s put_header header_legal header_wide) row_leads
