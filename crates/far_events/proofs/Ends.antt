-- What a memory's rows say past their ends.
use Rattle.std.proofs.Common.{◌≡◌, ℕ, ◌+◌, ◌*◌, ◌≤◌, ◌∙◌, Bool, true, false, cond, nat_lt, arith, ap, refl, sym, inl, inr, get_or, Some, None}
use Rattle.std.specs.Prelude.{◌⊎◌}
use Rattle.std.proofs.lemmas.Bool.{false≢true, le-ltb}
use Rattle.std.proofs.lemmas.List.{get_or_past}
use Rattle.far_word.specs.declared.sizes.TheConstants.{JOBS, LOG_WORDS, MOST_COPIERS}
use Rattle.far_events.specs.declared.event.Kind.TheVariants.{Free}
use Rattle.far_events.specs.declared.memory.Memory.{Memory}
use Rattle.far_events.specs.declared.memory.jobs.Jobs.{Jobs}
use Rattle.far_events.specs.state.Ends.{HasNothingPast}
use Rattle.far_events.specs.state.Memory.{copying_of, place_in, state_of}
use Rattle.far_events.proofs.Bits.{past_bits}
use Rattle.far_events.proofs.Words.{past_words}

-- ---- the jobs and the copiers
module _ (k : Jobs) where
  no_jobs : (j : ℕ) → JOBS ≤ j → ((copying_of k).word j ≡ 0) × ((copying_of k).since j ≡ 0) × ((copying_of k).named j ≡ false)
  unfolding copying_of
  no_jobs j le = (
    get_or_past k.words j 0 (omega (arith, le, k.words_sized)),
    get_or_past k.since j 0 (omega (arith, le, k.since_sized)),
    get_or_past k.named j false (omega (arith, le, k.named_sized)),
  )

  no_tasks : (c : ℕ) → MOST_COPIERS ≤ c → ((copying_of k).task c ≡ None) × ((copying_of k).length c ≡ None)
  unfolding copying_of
  no_tasks c le = (
    get_or_past k.tasks c None (omega (arith, le, k.tasks_sized)),
    get_or_past k.lengths c None (omega (arith, le, k.lengths_sized)),
  )

  -- a row's word, where it is past the row or the last row
  none_there : {X : Type 0} (b : Bool) (x d : X) → (b ≡ true → x ≡ d) → cond b x d ≡ d
  none_there true x d e = e refl
  none_there false x d e = refl

  no_copies : (c i : ℕ) → (MOST_COPIERS ≤ c) ⊎ (LOG_WORDS ≤ i) → ((copying_of k).read c i ≡ None) × ((copying_of k).written c i ≡ false)
  unfolding copying_of
  no_copies c i (inl le) = (
    none_there (nat_lt i LOG_WORDS) _ None (λ _. get_or_past k.read.items (c * LOG_WORDS + i) None (omega (arith, le, k.read.ok.0, k.read_within))),
    none_there (nat_lt i LOG_WORDS) _ false (λ _. get_or_past k.written.items (c * LOG_WORDS + i) false (omega (arith, le, k.written.ok.0, k.written_within))),
  )
  no_copies c i (inr le) = (
    none_there (nat_lt i LOG_WORDS) _ None (λ low. absurd (false≢true (sym (le-ltb i LOG_WORDS le) ∙ low))),
    none_there (nat_lt i LOG_WORDS) _ false (λ low. absurd (false≢true (sym (le-ltb i LOG_WORDS le) ∙ low))),
  )

pub has_nothing_past : (c : Memory) → HasNothingPast (state_of c)
unfolding state_of
has_nothing_past c = record {
  words = λ a le. past_words c.words a (omega (arith, le, c.words_sized));
  spans = λ a le. past_bits c.starts a (omega (arith, le, c.starts_sized));
  kinds = λ l le. get_or_past c.kinds.items l Free (omega (arith, le, c.kinds.ok.0, c.kinds_sized));
  tails = λ l le. get_or_past c.tails.items l 0 (omega (arith, le, c.tails.ok.0));
  rounds = λ l le. get_or_past c.round.items l false (omega (arith, le, c.round.ok.0, c.round_sized));
  scopes = λ m le. get_or_past c.scopes.items m 0 (omega (arith, le, c.scopes.ok.0));
  epochs = λ m le. get_or_past c.remembered.items m None (omega (arith, le, c.remembered.ok.0, c.remembered_sized));
  clears = λ m le. get_or_past c.clear.items m false (omega (arith, le, c.clear.ok.0, c.clear_sized));
  cells = λ p le. get_or_past c.cells.items p 0 (omega (arith, le, c.cells.ok.0, c.cells_sized));
  uses = λ p le. get_or_past c.used.items p false (omega (arith, le, c.used.ok.0, c.used_sized));
  holds = λ p le. ap (λ b. cond b (Some (place_in (get_or c.places.items p 0))) None) (past_bits c.held p (omega (arith, le, c.held_sized)));
  soils = λ p le. past_bits c.soiled p (omega (arith, le, c.soiled_sized));
  stores = c.stored_ends.few;
  rows = c.stored_ends.short;
  jobs = no_jobs c.jobs;
  tasks = no_tasks c.jobs;
  copies = no_copies c.jobs;
}
