-- What a memory's rows say past their ends, and that a state is what it says within them.
use Rattle.std.proofs.Common.{◌≡◌, ℕ, ◌*◌, ◌<◌, ◌≤◌, ◌∙◌, false, arith, ap, refl, sym, inl, inr, None}
use Rattle.std.proofs.lemmas.Bool.{cases_lt}
use mathlib.Core.Path.{fun_ext}
use Rattle.far_word.specs.declared.sizes.TheConstants.{CELLS, LOG_WORDS}
use Rattle.far_events.specs.declared.event.Kind.TheVariants.{Free}
use Rattle.far_events.specs.state.Ends.{HasNothingPast, IsWhatIsWithin}
use Rattle.far_events.specs.state.State.{State}

-- two rows that agree up to their end, and have the same past it
alike : {X : Type 0} (f g : ℕ → X) (n k : ℕ) (d : X) → n ≡ k → ((q : ℕ) → n ≤ q → f q ≡ d) → ((q : ℕ) → k ≤ q → g q ≡ d) → ((q : ℕ) → q < n → f q ≡ g q) → f ≡ g
alike f g n k d is past beyond within = fun_ext (λ q. elim (cases_lt q n) [ inl lt ↦ within q lt | inr le ↦ past q le ∙ sym (beyond q (omega (arith, is, le))) ])

pub is_what_is_within : (s : State) → HasNothingPast s → IsWhatIsWithin s
is_what_is_within s a t b w = λ i. record {
  mutators = w.mutators i;
  logs = w.logs i;
  honest = w.honesty i;
  epoch = w.epoch i;
  scope = alike s.scope t.scope s.mutators t.mutators 0 w.mutators a.scopes b.scopes w.scopes i;
  cell = alike s.cell t.cell (CELLS * s.mutators) (CELLS * t.mutators) 0 pointers a.cells b.cells w.cells i;
  word = alike s.word t.word (LOG_WORDS * s.logs) (LOG_WORDS * t.logs) 0 places a.words b.words w.words i;
  remembered = alike s.remembered t.remembered s.mutators t.mutators None w.mutators a.epochs b.epochs w.epochs i;
  used = alike s.used t.used (CELLS * s.mutators) (CELLS * t.mutators) false pointers a.uses b.uses w.uses i;
  held = alike s.held t.held (CELLS * s.mutators) (CELLS * t.mutators) None pointers a.holds b.holds w.holds i;
  soiled = alike s.soiled t.soiled (CELLS * s.mutators) (CELLS * t.mutators) false pointers a.soils b.soils w.soils i;
  kind = alike s.kind t.kind s.logs t.logs Free w.logs a.kinds b.kinds w.kinds i;
  tail = alike s.tail t.tail s.logs t.logs 0 w.logs a.tails b.tails w.tails i;
  current = w.current i;
  starts = alike s.starts t.starts (LOG_WORDS * s.logs) (LOG_WORDS * t.logs) false places a.spans b.spans w.spans i;
  round = alike s.round t.round s.logs t.logs false w.logs a.rounds b.rounds w.rounds i;
  round_epoch = w.round_epoch i;
  clear = alike s.clear t.clear s.mutators t.mutators false w.mutators a.clears b.clears w.clears i;
  stored = stored i;
  copying = w.copying i;
} where
  pointers : CELLS * s.mutators ≡ CELLS * t.mutators
  pointers = ap (λ n. CELLS * n) w.mutators

  places : LOG_WORDS * s.logs ≡ LOG_WORDS * t.logs
  places = ap (λ n. LOG_WORDS * n) w.logs

  row : (p : ℕ) → p < CELLS * s.mutators → s.stored p ≡ t.stored p
  row p low = alike (s.stored p) (t.stored p) LOG_WORDS LOG_WORDS 0 refl (a.rows p) (b.rows p) (λ q lt. w.stores p q low lt)

  stored : s.stored ≡ t.stored
  stored = alike s.stored t.stored (CELLS * s.mutators) (CELLS * t.mutators) (λ _. 0) pointers (λ p le. fun_ext (λ q. a.stores p q le)) (λ p le. fun_ext (λ q. b.stores p q le)) row
