-- What the event Store owes.
use Rattle.std.proofs.Common.{inl, Some, ap, arith, nat_lt, refl, subst, sym, true, ℕ, ◌*◌, ◌+◌, ◌-◌, ◌/◌, ◌<◌, ◌^◌, ◌∙◌, ◌≡◌, ◌≢◌, false}
use Rattle.far_events.proofs.Put.{put_same}
use Rattle.std.proofs.lemmas.Bool.{true≢false, false≢true}
use Rattle.std.proofs.lemmas.Bool.Decides.{nat_tests}
use Rattle.far_events.proofs.Bounds.{one_name, span_len}
use Rattle.far_events.proofs.Guards.{word_fact, word_test}
use Rattle.far_core.proofs.KeepWords.{data_stays, head_stays, keeps_store}
use Rattle.far_events.proofs.JobPlaces.{not_source, not_target}
use Rattle.far_core.proofs.KeepJobs.{keeps_same, task_unnamed}
use Rattle.far_core.proofs.Touching.{touched, one_word}
use Rattle.far_core.proofs.Owed.{Owed, replies}
use Rattle.far_core.specs.laws.Worlds.{Caused}
use Rattle.far_events.specs.events.Step.{change_of, data_len, data_word, holds, keeps_padding, near_data}
use Rattle.far_core.proofs.Worlds.{store_writes}
use Rattle.far_events.specs.state.Law.{Heads, Law, head_len, is_dirty}
use Rattle.far_events.specs.events.Legal.{HoldsWord}
use Rattle.far_events.specs.state.State.{State, addr, put}
use Rattle.far_events.specs.declared.event.Event.TheVariants.{Store}
use Rattle.far_word.proofs.PointerLaws.{read_says}
use Rattle.far_word.specs.Pointer.{read_of}
use Rattle.far_word.specs.Sizes.{words_for}
use Rattle.far_word.specs.declared.mark.Marks.{Marks}
use Rattle.far_word.specs.declared.pointer.Place.{Place}
use Rattle.far_word.specs.declared.pointer.PtrWord.TheVariants.{Near}
use Rattle.far_word.specs.declared.sizes.TheConstants.{CELLS}

-- a store into an object that is held
module _ (s : State) (law : Law s) (m p i w len : ℕ) (held : HoldsWord s m p i len) (wide : w < 2 ^ 64) (pad : w < 2 ^ (8 * (len - 8 * i))) (soiled : s.soiled p ≡ true) where
  abbrev pub place : Place
  place = held.0

  near : read_of (s.cell p) ≡ Some (Near len held.1.near.0 place held.1.near.1)
  near = held.1.near.2

  heads : Heads s.word s.starts p len held.1.near.0 place
  heads = law.cells.cell_near p len held.1.near.0 place held.1.near.1 near

  long : head_len (s.word (addr place)) ≡ len
  long = rw (span_len s law p len held.1.near.0 place held.1.near.1 near) refl

  used : s.used p ≡ true
  used = law.views.held_used p (rw held.1.rests refl)

  -- another pointer's object stands elsewhere, so its words stay
  other_stays : (q n d : ℕ) (at : Place) (k : Marks) → read_of (s.cell q) ≡ Some (Near n d at k) → p ≢ q → (j : ℕ) → j < words_for n →
      put s.word (addr place + 1 + i) w (addr at + 1 + j) ≡ s.word (addr at + 1 + j)
  other_stays q n d at k e ne j lt =
      let there = law.cells.cell_near q n d at k e in
      let x = read_says (s.cell q) (Near n d at k) (law.cells.cell_read q).0 e in
      let y = read_says (s.cell p) (Near len held.1.near.0 place held.1.near.1) (law.cells.cell_read p).0 near in
      let size : head_len (s.word (addr at)) ≡ n = rw (span_len s law q n d at k e) refl in
      let apart : addr at ≢ addr place = (λ same. ne (one_name s.word p q len n held.1.near.0 d (addr place) heads.head (ap s.word (sym same) ∙ there.head) (omega (arith, y.0)) (omega (arith, x.0)) (omega (arith, y.0)) (omega (arith, x.0)))) in
      data_stays s law (addr place) heads.placed i (omega (arith, held.2, long)) w wide (rw long pad) (addr at) there.placed apart j (omega (arith, size))

  -- what is clean isn't p's
  clean_other : (q n d : ℕ) (at : Place) (k : Marks) → read_of (s.cell q) ≡ Some (Near n d at k) → k.dirty ≡ false → p ≢ q
  clean_other q n d at k e none same = false≢true (sym none ∙ sym (ap is_dirty e) ∙ ap (λ x. is_dirty (read_of (s.cell x))) (sym same) ∙ law.soils.soiled_dirty p soiled)

  pub keeps_held_store : Law record s { word = put s.word (addr place + 1 + i) w }
  keeps_held_store = keeps_store s law (addr place) heads.placed i (omega (arith, held.2, long)) w wide (rw long pad)
      (λ honest q free. record {
        far = (law.unadopted honest q free).far;
        near = λ n d at k e kept j lt. other_stays q n d at k e (λ same. true≢false (sym used ∙ ap s.used same ∙ free)) j lt ∙ (law.unadopted honest q free).near n d at k e kept j lt;
      })
      (λ q. record {
        back = (law.cleans q).back;
        same = λ honest n d at k e none j lt. (law.cleans q).same honest n d at k e none j lt ∙ sym (other_stays q n d at k e (clean_other q n d at k e none) j lt);
      })
      (let jobs = law.copies.jobs in
      let wrote = data_stays s law (addr place) heads.placed i (omega (arith, held.2, long)) w wide (rw long pad) in
      keeps_same s.round_epoch s.round s.word (put s.word (addr place + 1 + i) w) s.copying law.copies.taken law.copies.same
      (λ j job e. head_stays s law (addr place) heads.placed i (omega (arith, held.2, long)) w wide (rw long pad) _ (jobs.job_spans j job e).from)
      (λ j job e good k lt. wrote _ (jobs.job_spans j job e).from (λ same. not_source s law p len held.1.near.0 place held.1.near.1 near j job e held.1.rests good (sym same)) k lt)
      (λ j job e unnamed k lt. wrote _ (jobs.job_spans j job e).to (λ same. not_target s law p len held.1.near.0 place held.1.near.1 near j job e unnamed (sym same)) k (rw (jobs.job_spans j job e).alike lt))
      (task_unnamed s.word s.starts s.copying jobs law.copies.taken))

-- what the event owes
module _ (m p i w : ℕ) where
  pub store_owed : Owed (Store m p i w)
  store_owed = record {
    fact = λ s law h.
        let x = word_fact s m p i law (grind (arith, nat_tests)) (grind (arith, nat_tests)) in
        let pad : w < 2 ^ (8 * (data_len s p - 8 * i)) = grind (arith, nat_tests) in
        (x.0, x.1, subst (λ n. w < 2 ^ (8 * (n - 8 * i))) x.2 pad, grind (arith, nat_tests));
    test = λ s h.
        let x = word_test s m p i h.0 h.1 in
        let a : holds s m p ≡ true = x.0 in
        let b : nat_lt i (words_for (data_len s p)) ≡ true = (let inside : i < words_for h.0 = h.1.2 in rw x.1 (grind (arith, nat_tests))) in
        let d : keeps_padding (data_len s p) i w ≡ true = (let fits : w < 2 ^ (8 * (h.0 - 8 * i)) = h.2 in rw x.1 (grind (arith, nat_tests))) in
        rw (a, b, d, h.3) refl;
    keeps = λ s law fits h.
        let at : data_word s p i ≡ addr h.1.0 + 1 + i = ap (λ o. near_data o + i) h.1.1.near.2 in
        rw at (keeps_held_store s law m p i w h.0 h.1 fits h.2 h.3);
    does = λ s law fits h.
        let at : data_word s p i ≡ addr h.1.0 + 1 + i = ap (λ o. near_data o + i) h.1.1.near.2 in
        rw at (store_writes s law m p i h.0 h.1.1.near.0 h.1.0 h.1.1.near.1 h.1.1.own h.1.1.rests h.1.1.near.2 h.1.2 w fits h.2);
    within = λ s. touched (one_word s.epoch s.scope s.cell s.word s.copying.word (data_word s p i) w) (λ k a b. refl) (λ q a. refl) (λ q a b. refl);
    part = λ s h. tt;
    word = λ s h. let mine : p / CELLS ≡ m = grind (arith, nat_tests) in inl (p, i, w, ap (λ k. Store k p i w) (sym mine), refl);
    reports = λ s law h. (h.1.0, h.1.1.rests, put_same s.word (data_word s p i) w (addr h.1.0 + 1 + i) (sym (ap (λ o. near_data o + i) h.1.1.near.2)));
    silent = λ s t h. h;
    answers = λ s x. cc;
    causes = replies (λ r. Caused (Store m p i w) (change_of (Store m p i w) r)) tt refl (λ n. tt) (λ x. tt) (λ place. tt);
  }
