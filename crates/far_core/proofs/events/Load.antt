-- What the event Load owes.
use Rattle.std.proofs.Common.{ap, arith, nat_lt, refl, true, ℕ, ◌+◌, ◌<◌, ◌≡◌}
use Rattle.std.proofs.lemmas.Bool.Decides.{nat_tests}
use Rattle.far_events.proofs.Guards.{word_fact, word_test}
use Rattle.far_core.proofs.Touching.{untouched}
use Rattle.far_core.proofs.Owed.{Owed, replies}
use Rattle.far_core.specs.laws.Worlds.{Caused}
use Rattle.far_events.specs.events.Step.{change_of, data_len, data_word, holds, near_data}
use Rattle.far_core.proofs.Worlds.{load_reads}
use Rattle.far_events.specs.state.State.{addr}
use Rattle.far_events.specs.declared.event.Event.TheVariants.{Load}
use Rattle.far_word.specs.Sizes.{words_for}

-- what the event owes
module _ (m p i : ℕ) where
  pub load_owed : Owed (Load m p i)
  load_owed = record {
    fact = λ s law h. let x = word_fact s m p i law (grind (arith, nat_tests)) (grind (arith, nat_tests)) in (x.0, x.1);
    test = λ s h.
        let x = word_test s m p i h.0 h.1 in
        let a : holds s m p ≡ true = x.0 in
        let b : nat_lt i (words_for (data_len s p)) ≡ true = (let inside : i < words_for h.0 = h.1.2 in rw x.1 (grind (arith, nat_tests))) in
        rw (a, b) refl;
    keeps = λ s law fits h. law;
    does = λ s law fits h.
        let at : data_word s p i ≡ addr h.1.0 + 1 + i = ap (λ o. near_data o + i) h.1.1.near.2 in
        rw at (load_reads s law m p i h.0 h.1.1.near.0 h.1.0 h.1.1.near.1 h.1.1.own h.1.1.rests h.1.1.near.2 h.1.2);
    within = λ s. untouched s _;
    part = λ s h. tt;
    word = λ s h. tt;
    reports = λ s law h. (h.1.0, h.1.1.rests, ap (λ o. s.word (near_data o + i)) h.1.1.near.2, refl);
    silent = λ s t h. h;
    answers = λ s x. cc;
    causes = replies (λ r. Caused (Load m p i) (change_of (Load m p i) r)) tt tt (λ n. tt) (λ x. refl) (λ place. tt);
  }
