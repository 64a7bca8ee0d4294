-- A job goes as the words say that were found last.
use Rattle.std.proofs.Common.{◌≡◌, ◌≢◌, ◌∙◌, ℕ, ◌+◌, ◌^◌, ◌<◌, Bool, true, false, cond, Option, Some, None, suc, arith, ap, refl, subst, sym}
use Rattle.std.specs.Prelude.{◌||◌, not}
use Rattle.std.proofs.lemmas.Bool.{true≢false, false≢true}
use Rattle.far_word.specs.declared.job.Job.{Job}
use Rattle.far_word.specs.declared.job.JobWord.{JobWord}
use Rattle.far_word.specs.declared.job.JobWord.TheVariants.{Empty, Offered, Taken, Finished}
use Rattle.far_word.specs.Job.{job_of, job_word}
use Rattle.far_word.specs.Pointer.{read_of}
use Rattle.far_word.proofs.JobLaws.{job_says}
use Rattle.far_events.specs.events.Collect.{collected}
use Rattle.far_events.specs.events.Step.{after}
use Rattle.far_events.specs.state.Jobs.{is_finished, job_at, job_said}
use Rattle.far_events.specs.state.State.{State}
use Rattle.far_events.proofs.Put.{put_old, put_same}
use Rattle.far_hand.specs.Finds.{Finds}
use Rattle.far_hand.specs.FindsJob.{FindsJob, job_found}
use Rattle.far_hand.specs.Known.{Forgets}
use Rattle.far_hand.specs.MayBe.{job_itself}
use Rattle.far_hand.proofs.Finding.{finds_more, finds_same}
use Rattle.far_hand.proofs.JobsFound.{job_more, same_job}
use Rattle.far_book.specs.book.Collecting.{BackKnown, Collects, CollectsJob, TakesBack, all_back, all_collected, back_known, goes, more, Fate, taken_back, GoesAsFound, IsNamed, Stays, Empties, Names, fate_in, fate_of, found_so, is_named, is_void, made_of, named}
use Rattle.far_book.specs.book.Jobs.{is_good}
use Rattle.far_book.specs.book.Renaming.{seen}
use Rattle.far_book.proofs.region.Calls.{put_put}
use Rattle.far_book.proofs.region.Founds.{names_found}

module _ (s : State) (j : ℕ) (job : Job) where
  -- the words that were known change nothing
  so_itself : found_so s j job (s.copying.word j) (s.cell job.pointer) ≡ s
  so_itself = λ i. record s { copying = record s.copying { word = put_old s.copying.word j (s.copying.word j) refl i }; cell = put_old s.cell job.pointer (s.cell job.pointer) refl i }

  by_fate : (word cell : ℕ) (fate : Fate) (t : State) → FindsJob (s.copying.word j) word → Finds (s.cell job.pointer) cell → fate_in s j job word cell ≡ fate →
      t ≡ record (made_of (found_so s j job word cell) j job fate) { word = t.word } → Forgets (made_of (found_so s j job word cell) j job fate) t → GoesAsFound s t j job (is_named fate)
  by_fate word cell fate t finds sees is leads forgot = record {
    word = word;
    finds = finds;
    cell = cell;
    sees = sees;
    leads = leads ∙ ap (λ f. record (made_of (found_so s j job word cell) j job f) { word = t.word }) (sym is);
    forgot = subst (λ f. Forgets (made_of (found_so s j job word cell) j job f) t) (sym is) forgot;
    counted = ap is_named (sym is);
  }

  -- it stays as it was known
  pub goes_stays : fate_in s j job (s.copying.word j) (s.cell job.pointer) ≡ Stays → GoesAsFound s s j job false
  goes_stays is = by_fate (s.copying.word j) (s.cell job.pointer) Stays s (job_itself (s.copying.word j)) (finds_same (s.cell job.pointer)) is (sym so_itself) (record { known = λ a k. refl; headers = λ a h. refl })

  -- or as it is found
  pub goes_found : (word : ℕ) → FindsJob (s.copying.word j) word → fate_in s j job word (s.cell job.pointer) ≡ Stays → GoesAsFound s (job_found s j word) j job false
  goes_found word finds is = by_fate word (s.cell job.pointer) Stays (job_found s j word) finds (finds_same (s.cell job.pointer)) is
      (λ i. record (job_found s j word) { cell = sym (put_old s.cell job.pointer (s.cell job.pointer) refl) i }) (record { known = λ a k. refl; headers = λ a h. refl })

  -- it is emptied, as it was known or is found
  pub goes_empty : fate_in s j job (s.copying.word j) (s.cell job.pointer) ≡ Empties → GoesAsFound s (collected s j) j job false
  goes_empty is = by_fate (s.copying.word j) (s.cell job.pointer) Empties (collected s j) (job_itself (s.copying.word j)) (finds_same (s.cell job.pointer)) is
      (ap (λ (u : State). collected u j) (sym so_itself)) (record { known = λ a k. refl; headers = λ a h. refl })

  pub goes_empty_found : (word : ℕ) → FindsJob (s.copying.word j) word → fate_in s j job word (s.cell job.pointer) ≡ Empties → GoesAsFound s (collected (job_found s j word) j) j job false
  goes_empty_found word finds is = by_fate word (s.cell job.pointer) Empties (collected (job_found s j word) j) finds (finds_same (s.cell job.pointer)) is
      (λ i. record (collected (job_found s j word) j) { cell = sym (put_old s.cell job.pointer (s.cell job.pointer) refl) i }) (record { known = λ a k. refl; headers = λ a h. refl })

  pub goes_empty_dropped : (cell : ℕ) → Finds (s.cell job.pointer) cell → fate_in s j job (s.copying.word j) cell ≡ Empties → GoesAsFound s (collected (seen s job.pointer cell) j) j job false
  goes_empty_dropped cell sees is = by_fate (s.copying.word j) cell Empties (collected (seen s job.pointer cell) j) (job_itself (s.copying.word j)) sees is
      (λ i. collected (record (seen s job.pointer cell) { copying = record s.copying { word = sym (put_old s.copying.word j (s.copying.word j) refl) i } }) j) (record { known = λ a k. refl; headers = λ a h. refl })

  -- its pointer was named, and then it is emptied
  pub goes_named : (u t : State) → (n : IsNamed s u job) → fate_in s j job (s.copying.word j) n.cell ≡ Names → t ≡ collected u j → GoesAsFound s t j job true
  goes_named u t n is emptied = by_fate (s.copying.word j) n.cell Names t (job_itself (s.copying.word j)) n.sees is
      (emptied ∙ leads ∙ ap (λ (w : ℕ → ℕ). record (collected (named (found_so s j job (s.copying.word j) n.cell) job.pointer job.to) j) { word = w }) (sym words))
      (record { known = λ a k. forgot_known a k; headers = λ a h. forgot_headers a h }) where
        words : t.word ≡ u.word
        words = ap (λ (x : State). x.word) emptied

        found_is : found_so s j job (s.copying.word j) n.cell ≡ seen s job.pointer n.cell
        found_is = λ i. record (seen s job.pointer n.cell) { copying = record s.copying { word = put_old s.copying.word j (s.copying.word j) refl i } }

        leads : collected u j ≡ record (collected (named (found_so s j job (s.copying.word j) n.cell) job.pointer job.to) j) { word = u.word }
        leads = ap (λ (x : State). collected x j) n.leads ∙ ap (λ (x : State). record (collected (named x job.pointer job.to) j) { word = u.word }) (sym found_is)

        forgets : Forgets (named (found_so s j job (s.copying.word j) n.cell) job.pointer job.to) u
        forgets = subst (λ (x : State). Forgets (named x job.pointer job.to) u) (sym found_is) n.forgot

        forgot_known : (a : ℕ) → t.word a < 2 ^ 64 → t.word a ≡ (named (found_so s j job (s.copying.word j) n.cell) job.pointer job.to).word a
        forgot_known a k = ap (λ f. f a) words ∙ forgets.known a (subst (λ (f : ℕ → ℕ). f a < 2 ^ 64) words k)

        forgot_headers : (a : ℕ) → t.starts a ≡ true → t.word a ≡ (named (found_so s j job (s.copying.word j) n.cell) job.pointer job.to).word a
        forgot_headers a h = ap (λ f. f a) words ∙ forgets.headers a (sym (ap (λ (x : State). x.starts a) emptied) ∙ h)

  -- ---- what was found before is as what is found last
  pub goes_on : (word cell : ℕ) (t : State) (names : Bool) → FindsJob (s.copying.word j) word → Finds (s.cell job.pointer) cell → GoesAsFound (found_so s j job word cell) t j job names → GoesAsFound s t j job names
  goes_on word cell t names finds sees h = record {
    word = h.word;
    finds = job_more (s.copying.word j) word h.word finds (subst (λ v. FindsJob v h.word) (put_same s.copying.word j word j refl) h.finds);
    cell = h.cell;
    sees = finds_more (s.cell job.pointer) cell h.cell sees (subst (λ v. Finds v h.cell) (put_same s.cell job.pointer cell job.pointer refl) h.sees);
    leads = h.leads ∙ ap (λ (x : State). record (made_of x j job (fate_in s j job h.word h.cell)) { word = t.word }) twice;
    forgot = subst (λ (x : State). Forgets (made_of x j job (fate_in s j job h.word h.cell)) t) twice h.forgot;
    counted = h.counted;
  } where
    twice : found_so (found_so s j job word cell) j job h.word h.cell ≡ found_so s j job h.word h.cell
    twice = λ i. record s { copying = record s.copying { word = put_put s.copying.word j word h.word i }; cell = put_put s.cell job.pointer cell h.cell i }

  -- ---- whether it is void
  pub void_same : (v w : ℕ) → Finds v w → is_void s j job (read_of w) ≡ is_void s j job (read_of v)
  void_same v w f = ap (λ b. not (is_good s.round_epoch s.round s.copying.since j job) || not b) (names_found v w f job.from.log job.from.at)

-- ---- a job is taken back
pub back_goes : (s t : State) (j word : ℕ) (job : Job) (o : Option Job) → o ≡ Some job → FindsJob (s.copying.word j) word → t ≡ taken_back s j word (job_of word) → BackKnown s t j o
back_goes s t j word job o is finds leads = subst (BackKnown s t j) (sym is) (record { word = word; finds = finds; is = leads })

pub back_none : (s t : State) (j : ℕ) (o : Option Job) → o ≡ None → t ≡ s → BackKnown s t j o
back_none s t j o is same = subst (BackKnown s t j) (sym is) same

pub back_offered : (s : State) (j word : ℕ) (x : Job) → job_of word ≡ Some (Offered x) → taken_back s j word (job_of word) ≡ collected (job_found s j word) j
back_offered s j word x e = ap (taken_back s j word) e

other_stays : (s : State) (j word : ℕ) (o : Option JobWord) → ((x : Job) → o ≢ Some (Offered x)) → taken_back s j word o ≡ job_found s j word
other_stays s j word None h = refl
other_stays s j word (Some Empty) h = refl
other_stays s j word (Some (Offered x)) h = absurd (h x refl)
other_stays s j word (Some (Taken x c)) h = refl
other_stays s j word (Some (Finished x c)) h = refl

pub back_stays : (s : State) (j word : ℕ) → ((x : Job) → job_of word ≢ Some (Offered x)) → taken_back s j word (job_of word) ≡ job_found s j word
back_stays s j word h = other_stays s j word (job_of word) h

pub found_twice : (s : State) (j v w : ℕ) → job_found (job_found s j v) j w ≡ job_found s j w
found_twice s j v w = λ i. record s { copying = record s.copying { word = put_put s.copying.word j v w i } }

-- ---- fates
pub fate_offered : (o : Option JobWord) (x : Job) (void dropped : Bool) → o ≡ Some (Offered x) → fate_of o void dropped ≡ cond void Empties Stays
fate_offered o x void dropped e = ap (λ y. fate_of y void dropped) e

pub fate_finished : (o : Option JobWord) (x : Job) (c : ℕ) (void dropped : Bool) → o ≡ Some (Finished x c) → fate_of o void dropped ≡ cond (void || dropped) Empties Names
fate_finished o x c void dropped e = ap (λ y. fate_of y void dropped) e

pub fate_ended : (o : Option JobWord) (dropped : Bool) → is_finished o ≡ true → fate_of o true dropped ≡ Empties
fate_ended None dropped h = absurd (false≢true h)
fate_ended (Some Empty) dropped h = absurd (false≢true h)
fate_ended (Some (Offered x)) dropped h = absurd (false≢true h)
fate_ended (Some (Taken x c)) dropped h = absurd (false≢true h)
fate_ended (Some (Finished x c)) dropped h = refl

pub fate_going : (o : Option JobWord) (void dropped : Bool) → is_finished o ≡ false → ((x : Job) → o ≢ Some (Offered x)) → fate_of o void dropped ≡ Stays
fate_going None void dropped h none = refl
fate_going (Some Empty) void dropped h none = refl
fate_going (Some (Offered x)) void dropped h none = absurd (none x refl)
fate_going (Some (Taken x c)) void dropped h none = refl
fate_going (Some (Finished x c)) void dropped h none = absurd (true≢false h)

-- an offered job that is found otherwise isn't offered any more
pub offered_lost : (v w : ℕ) (x : Job) → job_of v ≡ Some (Offered x) → FindsJob v w → w ≢ v → (y : Job) → job_of w ≢ Some (Offered y)
offered_lost v w x was f other y is =
    let both : Some y ≡ Some x = sym (ap job_said is) ∙ same_job v w f ∙ ap job_said was in
    let one : y ≡ x = cc in
    other (sym (job_says w (Offered y) is).1 ∙ ap (λ z. job_word (Offered z)) one ∙ (job_says v (Offered x) was).1)

pub not_offered : (o : Option JobWord) (dropped : Bool) → is_finished o ≡ false → fate_of o false dropped ≡ Stays
not_offered None dropped h = refl
not_offered (Some Empty) dropped h = refl
not_offered (Some (Offered x)) dropped h = refl
not_offered (Some (Taken x c)) dropped h = refl
not_offered (Some (Finished x c)) dropped h = absurd (true≢false h)

-- ---- one job more
pub takes_more : (s u t : State) (n : ℕ) → TakesBack s n u → BackKnown u t n (job_at u.copying.word n) → TakesBack s (n + 1) t
takes_more s u t n before here = let next : suc n ≡ n + 1 = omega arith in subst (λ k. TakesBack s k t) next (u, before, here)

pub back_more : (s u t : State) (n : ℕ) → u ≡ all_back s n → t ≡ back_known u n (job_at u.copying.word n) → t ≡ all_back s (n + 1)
back_more s u t n before here =
    let next : suc n ≡ n + 1 = omega arith in
    subst (λ k. t ≡ all_back s k) next (here ∙ ap (λ (x : State). back_known x n (job_at x.copying.word n)) before)

pub collects_more : (s u t : State) (n before after : ℕ) (names : Bool) → Collects s n u before → CollectsJob u t n names → after ≡ more names before → Collects s (n + 1) t after
collects_more s u t n before after names was here counted = let next : suc n ≡ n + 1 = omega arith in subst (λ k. Collects s k t after) next (u, before, names, was, here, counted)

pub collected_more : (s u t : State) (n before after : ℕ) (names : Bool) → all_collected s n ≡ (u, before) → goes u n ≡ (t, names) → after ≡ more names before → all_collected s (n + 1) ≡ (t, after)
collected_more s u t n before after names was here counted =
    let next : suc n ≡ n + 1 = omega arith in
    subst (λ k. all_collected s k ≡ (t, after)) next
    (ap (λ (x : State × ℕ). ((goes x.0 n).0, more (goes x.0 n).1 x.1)) was ∙ ap (λ (y : State × Bool). (y.0, more y.1 before)) here ∙ ap (λ m. (t, m)) (sym counted))
