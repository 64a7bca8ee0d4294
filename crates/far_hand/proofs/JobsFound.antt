-- What the word found of a job shares with the word that was known.
use Rattle.std.proofs.Common.{◌≡◌, ◌≤◌, ℕ, Option, Some, None, inl, inr, refl, sym, ap, ◌∙◌, subst, arith}
use Rattle.std.proofs.lemmas.Bool.{false≢true}
use Rattle.far_word.specs.declared.job.Job.{Job}
use Rattle.far_word.specs.declared.job.JobWord.{JobWord}
use Rattle.far_word.specs.declared.job.JobWord.TheVariants.{Empty, Offered, Taken, Finished}
use Rattle.far_word.specs.Job.{job_of}
use Rattle.far_word.proofs.JobLaws.{job_says}
use Rattle.far_events.specs.events.Get.{IsUncopied}
use Rattle.far_events.specs.state.Jobs.{is_finished, job_said}
use Rattle.far_events.specs.state.State.{Copying, put}
use Rattle.far_events.proofs.JobPlaces.{unworded}
use Rattle.far_events.proofs.Put.{put_both, put_other, put_same}
use Rattle.far_hand.specs.FindsJob.{FindsJob, GoesOn, copier_in, job_body, rank}
use Rattle.far_hand.specs.Masked.{AllFindJobs}
use Rattle.far_hand.specs.MayBe.{job_itself}

pub job_is : (v w : ℕ) → w ≡ v → FindsJob v w
job_is v w e = subst (FindsJob v) (sym e) (job_itself v)

pub job_more : (u v w : ℕ) → FindsJob u v → FindsJob v w → FindsJob u w
job_more u v w f g = record {
  body = g.body ∙ f.body;
  rises = omega (arith, f.rises, g.rises);
  taker = λ c h. g.taker c (f.taker c h);
  ended = λ h. g.ended (ap (λ x. is_finished (job_of x)) (f.ended h) ∙ h) ∙ f.ended h;
}

-- ---- the same job, or none
abbrev job_within : Option (Option Job) → Option Job
job_within None = None
job_within (Some o) = o

said_body : (o : Option JobWord) → job_within (job_body o) ≡ job_said o
said_body None = refl
said_body (Some Empty) = refl
said_body (Some (Offered job)) = refl
said_body (Some (Taken job c)) = refl
said_body (Some (Finished job c)) = refl

pub same_job : (v w : ℕ) → FindsJob v w → job_said (job_of w) ≡ job_said (job_of v)
same_job v w f = sym (said_body (job_of w)) ∙ (ap job_within f.body ∙ said_body (job_of v))

empty_body : (o : Option JobWord) → job_body o ≡ Some None → o ≡ Some Empty
empty_body None e = absurd cc
empty_body (Some Empty) e = refl
empty_body (Some (Offered job)) e = absurd cc
empty_body (Some (Taken job c)) e = absurd cc
empty_body (Some (Finished job c)) e = absurd cc

-- a job that was known empty is found empty, and one that is found empty was known so
pub empty_found : (v w : ℕ) → FindsJob v w → v ≡ 0 → w ≡ 0
empty_found v w f e = sym (job_says w Empty (empty_body (job_of w) (f.body ∙ ap (λ x. job_body (job_of x)) e ∙ ap job_body unworded))).1

-- no job reads or writes a log, if none is known that does
pub uncopied_found : (known : Copying) (k : Copying) → AllFindJobs known.word k.word → (l : ℕ) → IsUncopied known l → IsUncopied k l
uncopied_found known k finds l none j job at = none j job (sym (same_job (known.word j) (k.word j) (finds j)) ∙ at)

-- ---- a copier goes on
pub taken_found : (v w : ℕ) (job : Job) (c : ℕ) → job_of v ≡ Some (Offered job) → job_of w ≡ Some (Taken job c) → FindsJob v w
taken_found v w job c was is = record {
  body = ap job_body is ∙ sym (ap job_body was);
  rises = rw (was, is) (omega arith);
  taker = λ d h. (let odd : None ≡ Some d = sym (ap copier_in was) ∙ h in absurd cc);
  ended = λ h. absurd (false≢true (sym (ap is_finished was) ∙ h));
}

pub finished_found : (v w : ℕ) (job : Job) (c : ℕ) → job_of v ≡ Some (Taken job c) → job_of w ≡ Some (Finished job c) → FindsJob v w
finished_found v w job c was is = record {
  body = ap job_body is ∙ sym (ap job_body was);
  rises = rw (was, is) (omega arith);
  taker = λ d h. ap copier_in is ∙ sym (ap copier_in was) ∙ h;
  ended = λ h. absurd (false≢true (sym (ap is_finished was) ∙ h));
}

-- ---- all that may be found is what copiers may have made of it, and nothing else
goes : (o p : Option JobWord) → job_body p ≡ job_body o → rank o ≤ rank p → ((c : ℕ) → copier_in o ≡ Some c → copier_in p ≡ Some c) → GoesOn o p
goes None None body rises own = refl
goes None (Some y) body rises own = absurd cc
goes (Some Empty) None body rises own = absurd cc
goes (Some Empty) (Some Empty) body rises own = refl
goes (Some Empty) (Some (Offered y)) body rises own = absurd cc
goes (Some Empty) (Some (Taken y d)) body rises own = absurd cc
goes (Some Empty) (Some (Finished y d)) body rises own = absurd cc
goes (Some (Offered x)) None body rises own = absurd cc
goes (Some (Offered x)) (Some Empty) body rises own = absurd cc
goes (Some (Offered x)) (Some (Offered y)) body rises own = let same : y ≡ x = cc in inl (ap (λ z. Some (Offered z)) same)
goes (Some (Offered x)) (Some (Taken y d)) body rises own = let same : y ≡ x = cc in inr (d, inl (ap (λ z. Some (Taken z d)) same))
goes (Some (Offered x)) (Some (Finished y d)) body rises own = let same : y ≡ x = cc in inr (d, inr (ap (λ z. Some (Finished z d)) same))
goes (Some (Taken x c)) None body rises own = absurd cc
goes (Some (Taken x c)) (Some Empty) body rises own = absurd cc
goes (Some (Taken x c)) (Some (Offered y)) body rises own = absurd (omega (arith, rises))
goes (Some (Taken x c)) (Some (Taken y d)) body rises own = let same : y ≡ x = cc in let other : Some d ≡ Some c = own c refl in let one : d ≡ c = cc in inl (λ i. Some (Taken (same i) (one i)))
goes (Some (Taken x c)) (Some (Finished y d)) body rises own = let same : y ≡ x = cc in let other : Some d ≡ Some c = own c refl in let one : d ≡ c = cc in inr (λ i. Some (Finished (same i) (one i)))
goes (Some (Finished x c)) None body rises own = absurd cc
goes (Some (Finished x c)) (Some Empty) body rises own = absurd cc
goes (Some (Finished x c)) (Some (Offered y)) body rises own = absurd (omega (arith, rises))
goes (Some (Finished x c)) (Some (Taken y d)) body rises own = absurd (omega (arith, rises))
goes (Some (Finished x c)) (Some (Finished y d)) body rises own = let same : y ≡ x = cc in let other : Some d ≡ Some c = own c refl in let one : d ≡ c = cc in (λ i. Some (Finished (same i) (one i)))

pub goes_on : (v w : ℕ) → FindsJob v w → GoesOn (job_of v) (job_of w)
goes_on v w f = goes (job_of v) (job_of w) f.body f.rises f.taker

-- two words that say the same are one
one_word : (v w : ℕ) (x : JobWord) → job_of v ≡ Some x → job_of w ≡ Some x → FindsJob v w
one_word v w x was is = job_is v w (sym (job_says w x is).1 ∙ (job_says v x was).1)

unread : (v w : ℕ) → job_of v ≡ None → job_of w ≡ None → FindsJob v w
unread v w was is = record {
  body = ap job_body is ∙ sym (ap job_body was);
  rises = rw (was, is) (omega arith);
  taker = λ d h. (let odd : None ≡ Some d = sym (ap copier_in was) ∙ h in absurd cc);
  ended = λ h. absurd (false≢true (sym (ap is_finished was) ∙ h));
}

done_found : (v w : ℕ) (job : Job) (c : ℕ) → job_of v ≡ Some (Offered job) → job_of w ≡ Some (Finished job c) → FindsJob v w
done_found v w job c was is = record {
  body = ap job_body is ∙ sym (ap job_body was);
  rises = rw (was, is) (omega arith);
  taker = λ d h. (let odd : None ≡ Some d = sym (ap copier_in was) ∙ h in absurd cc);
  ended = λ h. absurd (false≢true (sym (ap is_finished was) ∙ h));
}

went : (v w : ℕ) (o : Option JobWord) → job_of v ≡ o → GoesOn o (job_of w) → FindsJob v w
went v w None was is = unread v w was is
went v w (Some Empty) was is = one_word v w Empty was is
went v w (Some (Offered x)) was (inl is) = one_word v w (Offered x) was is
went v w (Some (Offered x)) was (inr (c, inl is)) = taken_found v w x c was is
went v w (Some (Offered x)) was (inr (c, inr is)) = done_found v w x c was is
went v w (Some (Taken x c)) was (inl is) = one_word v w (Taken x c) was is
went v w (Some (Taken x c)) was (inr is) = finished_found v w x c was is
went v w (Some (Finished x c)) was is = one_word v w (Finished x c) was is

pub went_on : (v w : ℕ) → GoesOn (job_of v) (job_of w) → FindsJob v w
went_on v w is = went v w (job_of v) refl is

-- ---- each job is found as it was found, and here
pub jobs_put : (jobs word : ℕ → ℕ) (j w : ℕ) → AllFindJobs jobs word → word j ≡ w → AllFindJobs (put jobs j w) word
jobs_put jobs word j w finds e i = put_both (λ v. FindsJob v (word i)) jobs j w i
    (λ same. job_is w (word i) (ap word same ∙ e)) (λ _. finds i)

-- a word written is found
pub jobs_set : (jobs word : ℕ → ℕ) (j w : ℕ) → AllFindJobs jobs word → AllFindJobs (put jobs j w) (put word j w)
jobs_set jobs word j w finds i = put_both (λ v. FindsJob v (put word j w i)) jobs j w i
    (λ same. job_is w (put word j w i) (put_same word j w i same))
    (λ ne. subst (λ v. FindsJob (jobs i) v) (sym (put_other word j w i ne)) (finds i))
