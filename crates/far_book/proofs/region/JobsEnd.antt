-- What jobs are offered, and how they end.
use Rattle.std.proofs.Common.{◌≡◌, ◌≢◌, ◌∙◌, ℕ, suc, zero, ◌*◌, ◌<◌, ◌^◌, Bool, true, false, cond, arith, ap, inl, inr, refl, sym, subst, Option, Some, None}
use Rattle.std.specs.Prelude.{◌⊎◌, ◌==◌, ◌&&◌, ◌||◌, not}
use Rattle.std.proofs.lemmas.Bool.{cases_eq, eq-eqb, eqb-true, false≢true, true≢false, false_from_ne_true}
use Rattle.far_word.specs.declared.job.Job.{Job}
use Rattle.far_word.specs.declared.job.JobWord.{JobWord}
use Rattle.far_word.specs.declared.job.JobWord.TheVariants.{Empty, Offered, Taken, Finished}
use Rattle.far_word.specs.declared.mark.Marks.{Marks}
use Rattle.far_word.specs.declared.pointer.Place.{Place}
use Rattle.far_word.specs.declared.pointer.PtrWord.{PtrWord}
use Rattle.far_word.specs.declared.pointer.PtrWord.TheVariants.{Free, Near, Far}
use Rattle.far_word.specs.declared.sizes.TheConstants.{CELLS, JOBS}
use Rattle.far_word.specs.Job.{IsJob, job_of, job_word}
use Rattle.far_word.specs.Pointer.{IsPtr, read_of}
use Rattle.far_word.specs.Sizes.{size_of}
use Rattle.far_word.proofs.JobLaws.{job_back, job_fits, job_says}
use Rattle.far_word.proofs.PointerLaws.{read_back, read_says}
use Rattle.far_events.specs.declared.event.Kind.TheVariants.{Open}
use Rattle.far_events.specs.declared.naming.Naming.{Naming}
use Rattle.far_events.specs.declared.naming.Naming.TheVariants.{Places, Retires, Evicts, Stays, Moves, Fetches}
use Rattle.far_events.specs.events.Collect.{collected}
use Rattle.far_events.specs.events.Copied.{copied_job, with_named}
use Rattle.far_events.specs.events.Name.{after_naming}
use Rattle.far_events.specs.events.Naming.{is_dropped, naming_of, unmarked}
use Rattle.far_events.specs.events.namings.Moves.{after_move}
use Rattle.far_events.specs.events.Offer as core
use Rattle.far_events.specs.events.Offer.{after_offer}
use Rattle.far_events.specs.events.Quiet.{IsClearNear}
use Rattle.far_core.specs.laws.Rooms.{IsRoom, RoomIs}
use Rattle.far_core.specs.laws.Taking.{IsVoid}
use Rattle.far_events.specs.state.Jobs.{is_finished, job_at, job_said, near_place}
use Rattle.far_events.specs.state.Law.{Law}
use Rattle.far_core.specs.state.Room.{room}
use Rattle.far_events.specs.state.Spans.{names_place}
use Rattle.far_events.specs.state.State.{State, put}
use Rattle.far_events.proofs.Cells.{unused}
use Rattle.far_events.proofs.Guards.{parts}
use Rattle.far_events.proofs.JobPlaces.{job_low, unworded}
use Rattle.far_events.proofs.Put.{put_other, put_same}
use Rattle.far_core.proofs.RoomLaws.{room_right}
use Rattle.far_hand.specs.FindsJob.{job_found}
use Rattle.far_hand.proofs.Finding.{finds_same, near_found}
use Rattle.far_hand.proofs.JobsFound.{same_job}
use Rattle.far_book.specs.book.Collecting as fate
use Rattle.far_book.specs.book.Collecting.{BackKnown, CollectsKnown, Collects, EmptiedAreVoid, Fate, GoesAsFound, IsCopyNamed, MayBeNamed, NamedAreCopies, NoneFinished, NoneOffered, TakesBack, fate_in, fate_of, found_so, is_named, is_void, made_of, named, named_of, taken_back}
use Rattle.far_book.specs.book.Effects.{near_word}
use Rattle.far_book.specs.book.Jobs.{is_good}
use Rattle.far_book.specs.book.Offering.{IsOffered, OffersAreJobs, OffersCopy, offered, offered_of, with_ends}
use Rattle.far_book.specs.book.Own.{own_part, unread}
use Rattle.far_book.specs.book.Renaming.{seen}
use Rattle.far_book.proofs.region.Founds.{drop_found, names_found}
use Rattle.far_book.proofs.region.HavingJobs.{place_is, place_test}
use Rattle.far_book.proofs.region.JobSteps.{law_found}
use Rattle.far_book.proofs.region.NamingCopies.{found, layout, told}
use Rattle.far_book.proofs.region.Offers.{goal_is}
use Rattle.far_book.proofs.region.Untaken.{same_jobs}

-- ---- no naming changes the word of a job
by_copy : (s : State) (p new len : ℕ) (to : Place) (o : Option ℕ) → (after_move s p new len to o).copying.word ≡ s.copying.word
by_copy s p new len to None = refl
by_copy s p new len to (Some j) = refl

by_form : (s : State) (p new : ℕ) (o : Option Naming) → (after_naming s p new o).copying.word ≡ s.copying.word
by_form s p new None = refl
by_form s p new (Some (Places len ds place)) = refl
by_form s p new (Some Retires) = refl
by_form s p new (Some (Evicts len place)) = refl
by_form s p new (Some Stays) = refl
by_form s p new (Some (Moves len ds from to)) = by_copy s p new len to (copied_job s p from to)
by_form s p new (Some (Fetches len ds place)) = refl

by_cell : (s : State) (p : ℕ) (to : Place) (o : Option PtrWord) → (named_of s p to o).copying.word ≡ s.copying.word
by_cell s p to None = refl
by_cell s p to (Some Free) = refl
by_cell s p to (Some (Near len ds from m)) = rw (eq-eqb (s.cell p) (s.cell p) refl) (by_form s p (near_word m.dirty len ds to) (naming_of (read_of (s.cell p)) (read_of (near_word m.dirty len ds to))))
by_cell s p to (Some (Far len ds m)) = refl

-- ---- collecting one job
-- another's word stays
made_other : (s : State) (j i : ℕ) (job : Job) (f : Fate) → i ≢ j → (made_of s j job f).copying.word i ≡ s.copying.word i
made_other s j i job fate.Stays ne = refl
made_other s j i job fate.Empties ne = put_other s.copying.word j 0 i ne
made_other s j i job fate.Names ne = put_other (named s job.pointer job.to).copying.word j 0 i ne ∙ ap (λ f. f i) (by_cell s job.pointer job.to (read_of (s.cell job.pointer)))

other_goes : (s t : State) (j i : ℕ) (o : Option Job) (names : Bool) → CollectsKnown s t j o names → i ≢ j → t.copying.word i ≡ s.copying.word i
other_goes s t j i None names h ne = ap (λ (x : State). x.copying.word i) h.0
other_goes s t j i (Some job) names h ne = ap (λ (x : State). x.copying.word i) h.leads
    ∙ made_other (found_so s j job h.word h.cell) j i job (fate_in s j job h.word h.cell) ne ∙ put_other s.copying.word j h.word i ne

-- it isn't finished any more
stays_going : (o : Option JobWord) (void dropped : Bool) → fate_of o void dropped ≡ fate.Stays → is_finished o ≡ false
stays_going None void dropped e = refl
stays_going (Some Empty) void dropped e = refl
stays_going (Some (Offered x)) void dropped e = refl
stays_going (Some (Taken x c)) void dropped e = refl
stays_going (Some (Finished x c)) true dropped e = absurd cc
stays_going (Some (Finished x c)) false true e = absurd cc
stays_going (Some (Finished x c)) false false e = absurd cc

ended_word : (w : ℕ) → w ≡ 0 → is_finished (job_of w) ≡ false
ended_word w e = ap (λ v. is_finished (job_of v)) e ∙ ap is_finished unworded

made_here : (s : State) (j : ℕ) (job : Job) (w cell : ℕ) (f : Fate) → fate_in s j job w cell ≡ f → is_finished (job_of ((made_of (found_so s j job w cell) j job f).copying.word j)) ≡ false
made_here s j job w cell fate.Stays e = ap (λ v. is_finished (job_of v)) (put_same s.copying.word j w j refl) ∙ stays_going (job_of w) (is_void s j job (read_of cell)) (is_dropped (read_of cell)) e
made_here s j job w cell fate.Empties e = ended_word _ (put_same (found_so s j job w cell).copying.word j 0 j refl)
made_here s j job w cell fate.Names e = ended_word _ (put_same (named (found_so s j job w cell) job.pointer job.to).copying.word j 0 j refl)

unsaid : (o : Option JobWord) → job_said o ≡ None → is_finished o ≡ false
unsaid None e = refl
unsaid (Some Empty) e = refl
unsaid (Some (Offered x)) e = refl
unsaid (Some (Taken x c)) e = refl
unsaid (Some (Finished x c)) e = absurd cc

this_goes : (s t : State) (j : ℕ) (o : Option Job) (names : Bool) → job_at s.copying.word j ≡ o → CollectsKnown s t j o names → is_finished (job_of (t.copying.word j)) ≡ false
this_goes s t j None names e h = ap (λ (x : State). is_finished (job_of (x.copying.word j))) h.0 ∙ unsaid (job_of (s.copying.word j)) e
this_goes s t j (Some job) names e h = ap (λ (x : State). is_finished (job_of (x.copying.word j))) h.leads ∙ made_here s j job h.word h.cell (fate_in s j job h.word h.cell) refl

all_ended : (n : ℕ) (s t : State) (count : ℕ) → Collects s n t count → (j : ℕ) → j < n → is_finished (job_of (t.copying.word j)) ≡ false
all_ended zero s t count h j lt = absurd (omega arith)
all_ended (suc n) s t count (u, before, names, was, here, sum) j lt = elim (cases_eq j n) [
  | inl e ↦ subst (λ k. is_finished (job_of (t.copying.word k)) ≡ false) (sym e) (this_goes u t n (job_at u.copying.word n) names refl here)
  | inr ne ↦ ap (λ w. is_finished (job_of w)) (other_goes u t n j (job_at u.copying.word n) names here ne) ∙ all_ended n s u before was j (omega (arith, ne))
]

pub none_finished : NoneFinished
none_finished s t count h j lt = all_ended JOBS s t count h j lt

-- ---- taking one back
back_other : (s : State) (j i w : ℕ) (o : Option JobWord) → i ≢ j → (taken_back s j w o).copying.word i ≡ s.copying.word i
back_other s j i w None ne = put_other s.copying.word j w i ne
back_other s j i w (Some Empty) ne = put_other s.copying.word j w i ne
back_other s j i w (Some (Offered x)) ne = put_other (put s.copying.word j w) j 0 i ne ∙ put_other s.copying.word j w i ne
back_other s j i w (Some (Taken x c)) ne = put_other s.copying.word j w i ne
back_other s j i w (Some (Finished x c)) ne = put_other s.copying.word j w i ne

other_back : (s t : State) (j i : ℕ) (o : Option Job) → BackKnown s t j o → i ≢ j → t.copying.word i ≡ s.copying.word i
other_back s t j i None h ne = ap (λ (x : State). x.copying.word i) h
other_back s t j i (Some job) h ne = ap (λ (x : State). x.copying.word i) h.is ∙ back_other s j i h.word (job_of h.word) ne

back_here : (s : State) (j w : ℕ) (o : Option JobWord) → job_of w ≡ o → (x : Job) → job_of ((taken_back s j w o).copying.word j) ≢ Some (Offered x)
back_here s j w None e x is = let odd : None ≡ Some (Offered x) = sym e ∙ sym (ap job_of (put_same s.copying.word j w j refl)) ∙ is in absurd cc
back_here s j w (Some Empty) e x is = let odd : Some Empty ≡ Some (Offered x) = sym e ∙ sym (ap job_of (put_same s.copying.word j w j refl)) ∙ is in absurd cc
back_here s j w (Some (Offered y)) e x is = let odd : Some Empty ≡ Some (Offered x) = sym unworded ∙ sym (ap job_of (put_same (put s.copying.word j w) j 0 j refl)) ∙ is in absurd cc
back_here s j w (Some (Taken y c)) e x is = let odd : Some (Taken y c) ≡ Some (Offered x) = sym e ∙ sym (ap job_of (put_same s.copying.word j w j refl)) ∙ is in absurd cc
back_here s j w (Some (Finished y c)) e x is = let odd : Some (Finished y c) ≡ Some (Offered x) = sym e ∙ sym (ap job_of (put_same s.copying.word j w j refl)) ∙ is in absurd cc

this_back : (s t : State) (j : ℕ) (o : Option Job) → job_at s.copying.word j ≡ o → BackKnown s t j o → (x : Job) → job_of (t.copying.word j) ≢ Some (Offered x)
this_back s t j None e h x is = let odd : None ≡ Some x = sym e ∙ sym (ap (λ (y : State). job_said (job_of (y.copying.word j))) h) ∙ ap job_said is in absurd cc
this_back s t j (Some job) e h x is = back_here s j h.word (job_of h.word) refl x (sym (ap (λ (y : State). job_of (y.copying.word j)) h.is) ∙ is)

all_back : (n : ℕ) (s t : State) → TakesBack s n t → (j : ℕ) (x : Job) → j < n → job_of (t.copying.word j) ≢ Some (Offered x)
all_back zero s t h j x lt is = absurd (omega arith)
all_back (suc n) s t (u, was, here) j x lt is = elim (cases_eq j n) [
  | inl e ↦ this_back u t n (job_at u.copying.word n) refl here x (subst (λ k. job_of (t.copying.word k) ≡ Some (Offered x)) e is)
  | inr ne ↦ all_back n s u was j x (omega (arith, ne)) (sym (ap job_of (other_back u t n j (job_at u.copying.word n) here ne)) ∙ is)
]

pub none_offered : NoneOffered
none_offered s t h j x lt = all_back JOBS s t h j x lt

-- ---- a job that was named
names_by : (o : Option JobWord) (void dropped : Bool) → is_named (fate_of o void dropped) ≡ true → (x : Job) × (c : ℕ) × (o ≡ Some (Finished x c)) × (void ≡ false) × (dropped ≡ false)
names_by None void dropped e = absurd (false≢true e)
names_by (Some Empty) void dropped e = absurd (false≢true e)
names_by (Some (Offered x)) true dropped e = absurd (false≢true e)
names_by (Some (Offered x)) false dropped e = absurd (false≢true e)
names_by (Some (Taken x c)) void dropped e = absurd (false≢true e)
names_by (Some (Finished x c)) true dropped e = absurd (false≢true e)
names_by (Some (Finished x c)) false true e = absurd (false≢true e)
names_by (Some (Finished x c)) false false e = (x, c, refl, refl, refl)

both_true : (a b : Bool) → (not a || not b) ≡ false → (a ≡ true) × (b ≡ true)
both_true true true e = (refl, refl)
both_true true false e = absurd (true≢false e)
both_true false b e = absurd (true≢false e)

near_of : (o : Option PtrWord) (from : Place) → names_place o from.log from.at ≡ true → (len ds : ℕ) × (m : Marks) × (o ≡ Some (Near len ds from m))
near_of None from e = absurd (false≢true e)
near_of (Some Free) from e = absurd (false≢true e)
near_of (Some (Near len ds at m)) from e = (len, ds, m, ap (λ x. Some (Near len ds x m)) (place_is at from e))
near_of (Some (Far len ds m)) from e = absurd (false≢true e)

module _ (s t : State) (j : ℕ) (job : Job) (law : Law (own_part s)) (at : job_at s.copying.word j ≡ Some job) (h : GoesAsFound s t j job true) where
  way : (x : Job) × (c : ℕ) × (job_of h.word ≡ Some (Finished x c)) × (is_void s j job (read_of h.cell) ≡ false) × (is_dropped (read_of h.cell) ≡ false)
  way = names_by (job_of h.word) (is_void s j job (read_of h.cell)) (is_dropped (read_of h.cell)) (sym h.counted)

  this : way.0 ≡ job
  this = let both : Some way.0 ≡ Some job = sym (ap job_said way.2) ∙ same_job (s.copying.word j) h.word h.finds ∙ at in cc

  says : job_of h.word ≡ Some (Finished job way.1)
  says = way.2 ∙ ap (λ x. Some (Finished x way.1)) this

  stood : (is_good s.round_epoch s.round s.copying.since j job ≡ true) × (names_place (read_of h.cell) job.from.log job.from.at ≡ true)
  stood = both_true (is_good s.round_epoch s.round s.copying.since j job) (names_place (read_of h.cell) job.from.log job.from.at) way.3

  lay : names_place (read_of (s.cell job.pointer)) job.from.log job.from.at ≡ true
  lay = sym (names_found (s.cell job.pointer) h.cell h.sees job.from.log job.from.at) ∙ stood.1

  near : (len ds : ℕ) × (m : Marks) × (read_of (s.cell job.pointer) ≡ Some (Near len ds job.from m))
  near = near_of (read_of (s.cell job.pointer)) job.from lay

  alive : is_dropped (read_of (s.cell job.pointer)) ≡ false
  alive = false_from_ne_true _ (λ d. true≢false (sym (drop_found (s.cell job.pointer) h.cell h.sees d) ∙ way.4))

  low : j < JOBS
  low = job_low (own_part s).word s.starts (unread s.copying).word s.copying.named law.copies.jobs j job (same_jobs s.copying j ∙ at)

  fits : h.word < 2 ^ 64
  fits = subst (λ w. w < 2 ^ 64) (job_says h.word (Finished job way.1) says).1 (job_fits (Finished job way.1) (job_says h.word (Finished job way.1) says).0)

  -- the state in which the job was found finished
  abbrev u : State
  u = job_found s j h.word

  law_u : Law (own_part u)
  law_u = law_found s law j h.word low fits h.finds

  may : MayBeNamed u j job (s.cell job.pointer)
  may = record { number = low; copier = way.1; finished = ap job_of (put_same s.copying.word j h.word j refl) ∙ says; good = stood.0; found = refl; lies = lay; alive = alive }

  abbrev as_found : (k : Marks) × (read_of h.cell ≡ Some (Near near.0 near.1 job.from k)) × (k.dropped ≡ false) × (k.evac ≡ true)
  as_found = found u law_u j job (s.cell job.pointer) near.0 near.1 job.from near.2 may near.3 h.cell h.sees way.4

  abbrev dirty : Bool
  dirty = as_found.0.dirty

  named_now : named (seen u job.pointer h.cell) job.pointer job.to ≡ with_named (seen u job.pointer h.cell) job.pointer (near_word dirty near.0 near.1 job.to) j
  named_now = told u law_u j job (s.cell job.pointer) near.0 near.1 job.from near.2 may near.3 h.cell h.sees way.4

  is_names : fate_in s j job h.word h.cell ≡ fate.Names
  is_names = ap (λ o. fate_of o (is_void s j job (read_of h.cell)) (is_dropped (read_of h.cell))) says ∙ ap (λ b. cond (b || is_dropped (read_of h.cell)) fate.Empties fate.Names) way.3 ∙ ap (λ b. cond b fate.Empties fate.Names) way.4

  leads : t ≡ record (collected (with_named (seen u job.pointer h.cell) job.pointer (near_word dirty near.0 near.1 job.to) j) j) { word = t.word }
  leads = h.leads ∙ ap (λ f. record (made_of (found_so s j job h.word h.cell) j job f) { word = t.word }) is_names ∙ ap (λ (x : State). record (collected x j) { word = t.word }) named_now

  pub copy_named : IsCopyNamed s t j job
  copy_named = record {
    word = h.word;
    found = h.finds;
    copier = way.1;
    finished = says;
    good = let x = parts (s.copying.since j == s.round_epoch) (s.round job.from.log) stood.0 in (eqb-true (s.copying.since j) s.round_epoch x.0, x.1);
    lay = ap near_place near.3;
    alive = alive;
    cell = h.cell;
    sees = h.sees;
    lies = (
      near.0,
      near.1,
      as_found.0,
      as_found.1,
      ap (λ (x : State). read_of (x.cell job.pointer)) leads ∙ ap read_of (put_same (seen u job.pointer h.cell).cell job.pointer (near_word dirty near.0 near.1 job.to) job.pointer refl)
          ∙ read_back (Near near.0 near.1 job.to (unmarked dirty)) (layout u law_u j job (s.cell job.pointer) near.0 near.1 job.from near.2 may near.3),
    );
    empty = ap (λ (x : State). x.copying.word j) leads ∙ put_same u.copying.word j 0 j refl;
  }

pub named_are_copies : NamedAreCopies
named_are_copies s t j job law at h = copy_named s t j job law at h

-- ---- a job that was emptied, and not named
empties_by : (o : Option JobWord) (void dropped : Bool) → fate_of o void dropped ≡ fate.Empties → (void ≡ true) ⊎ ((is_finished o ≡ true) × (dropped ≡ true))
empties_by None void dropped e = absurd cc
empties_by (Some Empty) void dropped e = absurd cc
empties_by (Some (Offered x)) true dropped e = inl refl
empties_by (Some (Offered x)) false dropped e = absurd cc
empties_by (Some (Taken x c)) void dropped e = absurd cc
empties_by (Some (Finished x c)) true dropped e = inl refl
empties_by (Some (Finished x c)) false true e = inr (refl, refl)
empties_by (Some (Finished x c)) false false e = absurd cc

one_false : (a b : Bool) → (not a || not b) ≡ true → (a ≡ false) ⊎ (b ≡ false)
one_false true true e = absurd (false≢true e)
one_false true false e = inr refl
one_false false b e = inl refl

not_both : (a b : Bool) → (a && b) ≡ false → (a ≡ false) ⊎ (b ≡ false)
not_both true b e = inr e
not_both false b e = inl refl

names_near : (o : Option PtrWord) (from : Place) → near_place o ≡ Some from → names_place o from.log from.at ≡ true
names_near None from e = absurd cc
names_near (Some Free) from e = absurd cc
names_near (Some (Near len ds at m)) from e = place_test at from (let same : at ≡ from = cc in same)
names_near (Some (Far len ds m)) from e = absurd cc

module _ (s t : State) (j : ℕ) (job : Job) (law : Law (own_part s)) (at : job_at s.copying.word j ≡ Some job) (h : GoesAsFound s t j job false) (gone : t.copying.word j ≡ 0) where
  -- one that stayed wouldn't be empty, and one that was named would be counted
  by_fate : (f : Fate) → fate_in s j job h.word h.cell ≡ f → fate_in s j job h.word h.cell ≡ fate.Empties
  by_fate fate.Stays e =
      let kept : t.copying.word j ≡ h.word = ap (λ (x : State). x.copying.word j) h.leads ∙ ap (λ f. (made_of (found_so s j job h.word h.cell) j job f).copying.word j) e ∙ put_same s.copying.word j h.word j refl in
      let none : job_said (job_of h.word) ≡ None = ap (λ w. job_said (job_of w)) (sym kept ∙ gone) ∙ ap job_said unworded in
      let odd : None ≡ Some job = sym none ∙ same_job (s.copying.word j) h.word h.finds ∙ at in
      absurd cc
  by_fate fate.Empties e = e
  by_fate fate.Names e = absurd (false≢true (h.counted ∙ ap is_named e))

  by_void : is_void s j job (read_of h.cell) ≡ true → IsVoid s j job
  by_void e = elim (one_false (is_good s.round_epoch s.round s.copying.since j job) (names_place (read_of h.cell) job.from.log job.from.at) e) [
    | inl bad ↦ elim (not_both (s.copying.since j == s.round_epoch) (s.round job.from.log) bad) [
      | inl late ↦ inl (λ same. true≢false (sym (eq-eqb (s.copying.since j) s.round_epoch (same ∙ sym law.rounds.own_epoch)) ∙ late))
      | inr out ↦ inr (inl out)
    ]
    | inr left ↦ inr (inr (λ there. true≢false (sym (names_near (read_of (s.cell job.pointer)) job.from there) ∙ sym (names_found (s.cell job.pointer) h.cell h.sees job.from.log job.from.at) ∙ left)))
  ]

  pub emptied_void : IsVoid s j job ⊎ ((is_finished (job_of h.word) ≡ true) × (is_dropped (read_of h.cell) ≡ true))
  emptied_void = elim (empties_by (job_of h.word) (is_void s j job (read_of h.cell)) (is_dropped (read_of h.cell)) (by_fate (fate_in s j job h.word h.cell) refl)) [
    | inl void ↦ inl (by_void void)
    | inr dropped ↦ inr dropped
  ]

pub emptied_are_void : EmptiedAreVoid
emptied_are_void s t j job law at h gone = emptied_void s t j job law at h gone

-- ---- a job that was offered
module _ (s t : State) (p : ℕ) (law : Law (own_part s)) (clear : IsClearNear s p) (o : OffersCopy s t p) where
  abbrev job : Job
  job = record { pointer = p; from = clear.2; to = o.to }

  there : read_of ((seen s p o.word).cell p) ≡ Some (Near clear.0 clear.1 clear.2 (near_found (s.cell p) o.word o.found clear.0 clear.1 clear.2 clear.3 clear.4).marks)
  there = ap read_of (put_same s.cell p o.word p refl) ∙ (near_found (s.cell p) o.word o.found clear.0 clear.1 clear.2 clear.3 clear.4).near

  made : offered (seen s p o.word) o.job p o.to ≡ core.offered (with_ends (seen s p o.word) p clear.0 clear.1 o.to) o.job clear.0 job
  made = ap (offered_of (seen s p o.word) o.job p o.to) there ∙ ap (after_offer (with_ends (seen s p o.word) p clear.0 clear.1 o.to) o.job p o.to) there

  leads_to : t ≡ record (core.offered (with_ends (seen s p o.word) p clear.0 clear.1 o.to) o.job clear.0 job) { word = t.word }
  leads_to = o.leads ∙ ap (λ (x : State). record x { word = t.word }) made

  here_layout : IsPtr (Near clear.0 clear.1 clear.2 clear.3)
  here_layout = (read_says (s.cell p) (Near clear.0 clear.1 clear.2 clear.3) (law.cells.cell_read p).0 clear.4).0

  here_room : room s (size_of clear.0) false ≡ Some o.to
  here_room = sym (goal_is s p clear (s.cell p) clear.0 clear.1 clear.2 clear.3 (finds_same (s.cell p)) clear.4) ∙ o.place

  is_room : IsRoom (own_part s) (size_of clear.0) false o.to
  is_room = subst (RoomIs (own_part s) (size_of clear.0) false) here_room (room_right (own_part s) law (size_of clear.0) false (omega (arith, here_layout)))

  pointer : p < CELLS * s.mutators
  pointer = law.cells.cell_range p (λ z. let odd = sym clear.4 ∙ ap read_of z ∙ unused in absurd cc)

  on_layout : IsJob job
  on_layout = record { cell = omega (arith, pointer, law.shape.few_mutators); from = (omega (arith, here_layout), omega (arith, here_layout)); to = (omega (arith, is_room.next.0, law.shape.few_logs), omega (arith, is_room.fits, here_layout)) }

  pub is_offered : IsOffered s t p o.job o.to
  is_offered = record {
    from = clear.2;
    lies = ap near_place clear.4;
    says = ap (λ (x : State). job_of (x.copying.word o.job)) leads_to ∙ ap job_of (put_same s.copying.word o.job (job_word (Offered job)) o.job refl) ∙ job_back (Offered job) on_layout;
    since = ap (λ (x : State). x.copying.since o.job) leads_to ∙ put_same s.copying.since o.job s.round_epoch o.job refl ∙ law.rounds.own_epoch;
    unnamed = ap (λ (x : State). x.copying.named o.job) leads_to ∙ put_same s.copying.named o.job false o.job refl;
    others = λ i ne. (
      ap (λ (x : State). x.copying.word i) leads_to ∙ put_other s.copying.word o.job (job_word (Offered job)) i ne,
      ap (λ (x : State). x.copying.since i) leads_to ∙ put_other s.copying.since o.job s.round_epoch i ne,
      ap (λ (x : State). x.copying.named i) leads_to ∙ put_other s.copying.named o.job false i ne,
    );
    opened = ap (λ (x : State). x.kind o.to.log) leads_to ∙ put_same (put s.kind s.current _) o.to.log Open o.to.log refl;
  }

pub offers_are_jobs : OffersAreJobs
offers_are_jobs s t p law clear o = is_offered s t p law clear o
