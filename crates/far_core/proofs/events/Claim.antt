-- What the event Claim owes.
use Rattle.std.proofs.Common.{◌≡◌, ◌≢◌, ℕ, ◌<◌, ◌∙◌, Bool, true, false, cond, nat_eq, nat_lt, arith, inl, inr, ap, refl, sym, Option, Some, None}
use Rattle.std.specs.Prelude.{is_some, not, ◌&&◌}
use Rattle.std.proofs.lemmas.Bool.{cond_both, eqb-false, eqb-true, false≢true}
use Rattle.std.proofs.lemmas.Bool.Decides.{nat_tests}
use Rattle.far_word.specs.declared.job.Job.{Job}
use Rattle.far_word.specs.declared.job.JobWord.{JobWord}
use Rattle.far_word.specs.declared.job.JobWord.TheVariants.{Empty, Offered, Taken, Finished}
use Rattle.far_word.specs.declared.sizes.TheConstants.{JOBS, MOST_COPIERS}
use Rattle.far_word.specs.Job.{IsJob, job_of, job_word}
use Rattle.far_word.proofs.JobLaws.{job_back, job_fits, job_says}
use Rattle.far_events.specs.declared.event.Event.TheVariants.{Claim}
use Rattle.far_events.specs.declared.event.Reply.{Reply}
use Rattle.far_events.specs.declared.event.Reply.TheVariants.{Done, Refused, Word}
use Rattle.far_events.specs.declared.event.Task.{Task}
use Rattle.far_events.specs.events.Claim.{offered_in, claimed, after_claim, IsOffer, Claims}
use Rattle.far_events.specs.events.Legal.{Legal}
use Rattle.far_events.specs.events.Reports.{Reports}
use Rattle.far_events.specs.events.Step.{change_of, touches}
use Rattle.far_events.specs.events.Touch.{JobAt, CopierAt, Touches}
use Rattle.far_core.specs.laws.Worlds.{Caused}
use Rattle.far_events.specs.state.Jobs.{job_at, job_said}
use Rattle.far_events.specs.state.Law.{Law}
use Rattle.far_events.specs.state.State.{State, put}
use Rattle.far_core.specs.world.Happens.{Happens}
use Rattle.far_core.specs.world.WorldOf.{world_of}
use Rattle.far_events.proofs.Guards.{parts}
use Rattle.far_core.proofs.KeepJobs.{reworded_jobs, reworded_aims, reworded_good}
use Rattle.far_core.proofs.Owed.{Owed, replies}
use Rattle.far_events.proofs.Put.{put_cases, put_cases_of, put_other, put_same}
use Rattle.far_core.proofs.Touching.{copier_touched, one_job, untouched}

offered_fact : (old : ℕ) (o : Option JobWord) → job_of old ≡ o → is_some (offered_in o) ≡ true → IsOffer old
offered_fact old None e h = absurd (false≢true h)
offered_fact old (Some Empty) e h = absurd (false≢true h)
offered_fact old (Some (Offered job)) e h = (job, e)
offered_fact old (Some (Taken job c)) e h = absurd (false≢true h)
offered_fact old (Some (Finished job c)) e h = absurd (false≢true h)

pub no_task : (o : Option Task) → not (is_some o) ≡ true → o ≡ None
no_task None h = refl
no_task (Some t) h = absurd (false≢true h)

module _ (s : State) (law : Law s) (c j : ℕ) (job : Job) (few : c < MOST_COPIERS) (low : j < JOBS) (none : s.copying.task c ≡ None) (offered : job_of (s.copying.word j) ≡ Some (Offered job)) where
  abbrev w : ℕ
  w = job_word (Taken job c)

  bounds : IsJob job
  bounds = (job_says (s.copying.word j) (Offered job) offered).0

  reads : job_of w ≡ Some (Taken job c)
  reads = job_back (Taken job c) (bounds, few)

  same : job_said (job_of w) ≡ job_at s.copying.word j
  same = ap job_said reads ∙ sym (ap job_said offered)

  -- who had a job has another one, and is another
  others : (d : ℕ) (t : Task) → s.copying.task d ≡ Some t → (d ≢ c) × (t.number ≢ j)
  others d t e = (
    λ is. let odd : None ≡ Some t = sym none ∙ ap s.copying.task (sym is) ∙ e in cc,
    λ is. let odd : Some (Offered job) ≡ Some (Taken t.job d) = sym offered ∙ ap (λ i. job_of (s.copying.word i)) (sym is) ∙ law.copies.taken.takes d t e in cc,
  )

  unread : (d i : ℕ) → d ≡ c → put s.copying.read c (λ _. None) d i ≡ None
  unread d i e = ap (λ (f : ℕ → Option ℕ). f i) (put_same s.copying.read c (λ _. None) d e)

  read_still : (d i : ℕ) → d ≢ c → put s.copying.read c (λ _. None) d i ≡ s.copying.read d i
  read_still d i ne = ap (λ (f : ℕ → Option ℕ). f i) (put_other s.copying.read c (λ _. None) d ne)

  pub keeps_claimed : Law (claimed s c j job)
  keeps_claimed =
      let k = s.copying in
      let copies = law.copies in
      record {
        shape = law.shape;
        cells = law.cells;
        spans = law.spans;
        logs = law.logs;
        scopes = law.scopes;
        views = law.views;
        rounds = law.rounds;
        clears = law.clears;
        unadopted = law.unadopted;
        soils = law.soils;
        cleans = law.cleans;
        copies = record {
          jobs = reworded_jobs k.word j w same s.word s.starts k.named copies.jobs (job_fits (Taken job c) (bounds, few)) (rw reads refl) low
              (λ other e undone. copies.jobs.unfinished_unnamed j other e (rw offered refl));
          taken = record {
            taken_by = λ i d other is. elim (put_cases_of k.word j w i (λ x. job_of x ≡ Some (Taken other d)) is) [
              | inl (e, is) ↦ (let both : Some (Taken job c) ≡ Some (Taken other d) = sym reads ∙ is in
                  let own : d ≡ c = cc in let one : job ≡ other = cc in
                  put_same k.task c _ d own ∙ ap (λ x. Some record { number = x; job = job }) (sym e) ∙ ap (λ x. Some record { number = i; job = x }) one)
              | inr (ne, is) ↦ (let old = copies.taken.taken_by i d other is in put_other k.task c _ d (others d _ old).0 ∙ old)
            ];
            takes = λ d t is. elim (put_cases k.task c _ d (Some t) is) [
              | inl (e, is) ↦ (let both : Some record { number = j; job = job } ≡ Some t = is in
                  let at : j ≡ t.number = cc in let one : job ≡ t.job = cc in
                  ap job_of (put_same k.word j w t.number (sym at)) ∙ reads ∙ ap (λ x. Some (Taken x c)) one ∙ ap (λ x. Some (Taken t.job x)) (sym e))
              | inr (ne, is) ↦ ap job_of (put_other k.word j w t.number (others d t is).1) ∙ copies.taken.takes d t is
            ];
            long = λ d n t is l. elim (put_cases k.task c _ d (Some t) is) [
              | inl (e, is) ↦ (let odd : None ≡ Some n = sym (put_same k.length c None d e) ∙ l in absurd cc)
              | inr (ne, is) ↦ copies.taken.long d n t is (sym (put_other k.length c None d ne) ∙ l)
            ];
            fits = λ d i v t is r. elim (put_cases k.task c _ d (Some t) is) [
              | inl (e, is) ↦ (let odd : None ≡ Some v = sym (unread d i e) ∙ r in absurd cc)
              | inr (ne, is) ↦ copies.taken.fits d i v t is (sym (read_still d i ne) ∙ r)
            ];
          };
          aims = reworded_aims k.word j w same s.cell k.named copies.aims;
          good = reworded_good k.word j w same s.round_epoch s.round s.clear k.since copies.good;
          same = record {
            read = λ d i v t is good r. elim (put_cases k.task c _ d (Some t) is) [
              | inl (e, is) ↦ (let odd : None ≡ Some v = sym (unread d i e) ∙ r in absurd cc)
              | inr (ne, is) ↦ copies.same.read d i v t is good (sym (read_still d i ne) ∙ r)
            ];
            written = λ d i t is good r. elim (put_cases k.task c _ d (Some t) is) [
              | inl (e, is) ↦ absurd (false≢true (sym (ap (λ (f : ℕ → Bool). f i) (put_same k.written c (λ _. false) d e)) ∙ r))
              | inr (ne, is) ↦ copies.same.written d i t is good (sym (ap (λ (f : ℕ → Bool). f i) (put_other k.written c (λ _. false) d ne)) ∙ r)
            ];
            finished = λ i d other is. elim (put_cases_of k.word j w i (λ x. job_of x ≡ Some (Finished other d)) is) [
              | inl (e, is) ↦ (let odd : Some (Taken job c) ≡ Some (Finished other d) = sym reads ∙ is in absurd cc)
              | inr (ne, is) ↦ copies.same.finished i d other is
            ];
          };
        };
      }

  pub claims : Claims c j (Some job) (claimed s c j job)
  claims = (
    ap job_of (put_same s.copying.word j w j refl) ∙ reads,
    put_same s.copying.task c _ c refl,
    put_same s.copying.length c None c refl,
    λ i. (ap (λ (f : ℕ → Option ℕ). f i) (put_same s.copying.read c (λ _. None) c refl), ap (λ (f : ℕ → Bool). f i) (put_same s.copying.written c (λ _. false) c refl)),
  )

module _ (s : State) (c j : ℕ) where
  touch_claim : (o : Option Job) → Touches s (record { word = Some (JobAt j); part = CopierAt c }) (after_claim s c j o)
  touch_claim None = untouched s _
  touch_claim (Some job) = copier_touched c (one_job s.epoch s.scope s.cell s.word s.copying.word j _) refl refl refl
      (λ d ne. record { task = put_other s.copying.task c _ d ne; length = put_other s.copying.length c _ d ne; read = put_other s.copying.read c _ d ne; written = put_other s.copying.written c _ d ne })

stays : (s : State) (c j : ℕ) (o : Option Job) → world_of (after_claim s c j o) ≡ world_of s
unfolding world_of
stays s c j None = refl
stays s c j (Some job) = refl

module _ (c j old : ℕ) where
  keeps_claim : (s : State) → Law s → Legal s (Claim c j old) → s.copying.word j ≡ old → Law (after_claim s c j (offered_in (job_of old)))
  keeps_claim s law h is = rw h.3.1 (keeps_claimed s law c j h.3.0 h.0 h.1 h.2 (ap job_of is ∙ h.3.1))

  reports_claim : (s : State) → Law s → Legal s (Claim c j old) → (b : Bool) → nat_eq (s.copying.word j) old ≡ b →
      Reports s (Claim c j old) (cond b Done (Word (s.copying.word j))) (cond b (after_claim s c j (offered_in (job_of old))) s)
  reports_claim s law h true is = let e = eqb-true (s.copying.word j) old is in (e, rw h.3.1 (claims s law c j h.3.0 h.0 h.1 h.2 (ap job_of e ∙ h.3.1)))
  reports_claim s law h false is = (refl, eqb-false (s.copying.word j) old is, refl)

  pub claim_owed : Owed (Claim c j old)
  claim_owed = record {
    fact = λ s law h.
        let v = parts (nat_lt c MOST_COPIERS && nat_lt j JOBS && not (is_some (s.copying.task c)) && is_some (offered_in (job_of old))) s.copying.has_copiers h in
        let x = parts (nat_lt c MOST_COPIERS && nat_lt j JOBS && not (is_some (s.copying.task c))) (is_some (offered_in (job_of old))) v.0 in
        let y = parts (nat_lt c MOST_COPIERS && nat_lt j JOBS) (not (is_some (s.copying.task c))) x.0 in
        let z = parts (nat_lt c MOST_COPIERS) (nat_lt j JOBS) y.0 in
        (grind (arith, nat_tests), grind (arith, nat_tests), no_task (s.copying.task c) y.1, offered_fact old (job_of old) refl x.1, v.1);
    test = λ s h.
        let few : c < MOST_COPIERS = h.0 in let low : j < JOBS = h.1 in
        let a : nat_lt c MOST_COPIERS ≡ true = grind (arith, nat_tests) in
        let b : nat_lt j JOBS ≡ true = grind (arith, nat_tests) in
        rw (a, b, h.2, h.3.1, h.4) refl;
    keeps = λ s law fits h. cond_both (nat_eq (s.copying.word j) old) (after_claim s c j (offered_in (job_of old))) s Law (λ e. keeps_claim s law h (eqb-true (s.copying.word j) old e)) (λ _. law);
    does = λ s law fits h. at (nat_eq (s.copying.word j) old) s;
    within = λ s. cond_both (nat_eq (s.copying.word j) old) (after_claim s c j (offered_in (job_of old))) s (Touches s (touches s (Claim c j old))) (λ _. touch_claim s c j (offered_in (job_of old))) (λ _. untouched s _);
    part = λ s h. inl (j, old, refl);
    word = λ s h. inr (inl (c, old, refl));
    reports = λ s law h. reports_claim s law h (nat_eq (s.copying.word j) old) refl;
    silent = λ s t h. h;
    answers = λ s x. cond_both (nat_eq (s.copying.word j) old) Done (Word (s.copying.word j)) (λ (r : Reply). r ≢ Refused) (λ _ y. cc) (λ _ y. cc) x;
    causes = replies (λ r. Caused (Claim c j old) (change_of (Claim c j old) r)) tt tt (λ n. tt) (λ x. tt) (λ place. tt);
  } where
    at : (b : Bool) (s : State) → Happens (world_of s) (Claim c j old) (cond b Done (Word (s.copying.word j))) (world_of (cond b (after_claim s c j (offered_in (job_of old))) s))
    at true s = stays s c j (offered_in (job_of old))
    at false s = refl
