-- Where objects lie once jobs were collected: where they lay, or outside the round.
use Rattle.std.proofs.Common.{◌≡◌, ◌≢◌, ◌⊎◌, ◌||◌, ◌==◌, ◌%◌, ◌/◌, ◌<◌, ◌≤◌, ℕ, Bool, true, false, not, eqb, Some, None, Option, List, [], ◌∷◌, zero, suc, inl, inr, arith, ap, sym, refl, ◌∙◌, subst}
use Rattle.std.specs.Prelude.{Contains}
use Rattle.std.proofs.lemmas.Bool.{cases_eq, cond_both, eq-eqb, eqb-true, true≢false}
use Rattle.far_word.specs.declared.job.Job.{Job}
use Rattle.far_word.specs.declared.job.JobWord.{JobWord}
use Rattle.far_word.specs.declared.job.JobWord.TheVariants.{Empty, Finished, Offered, Taken}
use Rattle.far_word.specs.declared.mark.Marks.{Marks}
use Rattle.far_word.specs.declared.pointer.Place.{Place}
use Rattle.far_word.specs.declared.pointer.PtrWord.{PtrWord}
use Rattle.far_word.specs.declared.pointer.PtrWord.TheVariants.{Far, Free, Near}
use Rattle.far_word.specs.declared.sizes.TheConstants.{LOG_WORDS}
use Rattle.far_word.specs.Job.{job_of}
use Rattle.far_word.specs.Pointer.{IsPtr, read_of}
use Rattle.far_word.specs.Sizes.{size_of}
use Rattle.far_word.proofs.PointerLaws.{read_back, read_says}
use Rattle.far_events.specs.declared.event.Event.TheVariants.{Name}
use Rattle.far_events.specs.declared.naming.Naming.{Naming}
use Rattle.far_events.specs.declared.naming.Naming.TheVariants.{Places, Retires, Evicts, Stays as staying, Moves as moving, Fetches}
use Rattle.far_device.specs.Following.{none_of}
use Rattle.far_events.specs.events.Copied.{copied_job}
use Rattle.far_events.specs.events.Name.{after_naming}
use Rattle.far_events.specs.events.Naming.{is_dropped, naming_of, naming_row, no_marks, unmarked}
use Rattle.far_events.specs.events.namings.Moves.{after_move}
use Rattle.far_events.specs.events.Step.{after}
use Rattle.far_events.specs.state.Jobs.{IsGood, job_at, job_said, near_place}
use Rattle.far_events.specs.state.Law.{Law, head_len}
use Rattle.far_events.specs.state.Spans.{names_place}
use Rattle.far_events.specs.state.State.{State, addr, put}
use Rattle.far_events.proofs.Bounds.{log_inside, span_len}
use Rattle.far_events.proofs.Guards.{parts}
use Rattle.far_events.proofs.JobPlaces.{job_bounds}
use Rattle.far_events.proofs.Put.{put_both, put_other, put_same}
use Rattle.far_hand.specs.Finds.{Finds, body_of}
use Rattle.far_hand.proofs.Finding.{place_found}
use Rattle.far_book.specs.book.Collecting.{Collects, CollectsKnown, Empties, Fate, GoesAsFound, Names, Stays, fate_in, fate_of, found_so, is_void, made_of, named, named_of}
use Rattle.far_book.specs.book.Effects.{near_word}
use Rattle.far_book.specs.book.Jobs.{is_good}
use Rattle.far_book.specs.book.Own.{own_part}
use Rattle.far_book.proofs.region.Untaken.{untaken_said}
use Rattle.far_evac.specs.Live.{live_among, live_in}
use Rattle.far_evac.specs.RoundSteps.{among}
use Rattle.far_evac.proofs.Bools.{or_left, or_right}
use Rattle.far_evac.proofs.Framed.{name_one}
use Rattle.far_evac.proofs.Lacking.{all_at, in_among, in_live}
use Rattle.far_evac.proofs.LiveOnce.{LivesIn, NearAt, all_append, each_map, live_named, near_at}
use Rattle.far_evac.proofs.OfferingSound.{LeavesRound, leaves_gone, leaves_itself, leaves_more}

-- ---- a cell that is named says the new word, or what it said
either_put : (f : ℕ → ℕ) (p new : ℕ) → (put f p new p ≡ new) ⊎ (put f p new p ≡ f p)
either_put f p new = inl (put_same f p new p refl)

module _ (s : State) (p new : ℕ) where
  abbrev Named : State → Type 0
  Named t = (t.cell p ≡ new) ⊎ (t.cell p ≡ s.cell p)

  move_named : (len : ℕ) (to : Place) (j : Option ℕ) → Named (after_move s p new len to j)
  move_named len to None = either_put s.cell p new
  move_named len to (Some j) = either_put s.cell p new

  row_named : (form : Naming) → Named (naming_row s p new form).after
  row_named (Places len ds place) = either_put s.cell p new
  row_named Retires = either_put s.cell p new
  row_named (Evicts len place) = either_put s.cell p new
  row_named staying = either_put s.cell p new
  row_named (moving len ds from to) = move_named len to (copied_job s p from to)
  row_named (Fetches len ds place) = either_put s.cell p new

  form_named : (form : Option Naming) → Named (after_naming s p new form)
  form_named None = inr refl
  form_named (Some form) = row_named form

  name_named : (old : ℕ) → Named (after s (Name p old new))
  name_named old = cond_both (s.cell p == old) (after_naming s p new (naming_of (read_of old) (read_of new))) s Named (λ _. form_named (naming_of (read_of old) (read_of new))) (λ _. inr refl)

-- ---- one that is named isn't void
pub unvoid : (o : Option JobWord) (void dropped : Bool) → fate_of o void dropped ≡ Names → void ≡ false
unvoid None void dropped e = absurd cc
unvoid (Some Empty) void dropped e = absurd cc
unvoid (Some (Offered job)) true dropped e = absurd cc
unvoid (Some (Offered job)) false dropped e = refl
unvoid (Some (Taken job c)) void dropped e = absurd cc
unvoid (Some (Finished job c)) true dropped e = absurd cc
unvoid (Some (Finished job c)) false dropped e = refl

pub both_hold : (a b : Bool) → (not a || not b) ≡ false → (a ≡ true) × (b ≡ true)
both_hold true true e = (refl, refl)
both_hold true false e = absurd (true≢false e)
both_hold false b e = absurd (true≢false e)

-- ---- what a cell says but for the marks of its owner
near_of_body : (a b : Option PtrWord) → body_of a ≡ body_of b → (len ds : ℕ) (place : Place) (m : Marks) → a ≡ Some (Near len ds place m) → (k : Marks) × (b ≡ Some (Near len ds place k))
near_of_body a None e len ds place m near = let odd = ap body_of (sym near) ∙ e in absurd cc
near_of_body a (Some Free) e len ds place m near = let odd = ap body_of (sym near) ∙ e in absurd cc
near_of_body a (Some (Near n d at k)) e len ds place m near =
    let same = ap body_of (sym near) ∙ e in
    let lens : n ≡ len = cc in
    let structures : d ≡ ds = cc in
    let places : at ≡ place = cc in
    (k, λ i. Some (Near (lens i) (structures i) (places i) k))
near_of_body a (Some (Far n d k)) e len ds place m near = let odd = ap body_of (sym near) ∙ e in absurd cc

one_place : (a b : Place) → Some a ≡ Some b → a ≡ b
one_place a b e = cc

-- ---- from s on these jobs weren't collected yet; and each object lies where it lay, or outside the round
module _ (s : State) (law : Law (own_part s)) where
  abbrev pub StaysOrLeft : ℕ → ℕ → Type 0
  StaysOrLeft p word = (body_of (read_of word) ≡ body_of (read_of (s.cell p))) ⊎ ((place : Place) × (near_place (read_of word) ≡ Some place) × (s.round place.log ≡ false))

  pub record Reaches (k : ℕ) (u : State) : Type 0 where
    pub jobs : (i : ℕ) → k ≤ i → u.copying.word i ≡ s.copying.word i
    pub cells : (p : ℕ) → StaysOrLeft p (u.cell p)
    pub leaves : LeavesRound s u

  found_still : (p v w : ℕ) → Finds v w → StaysOrLeft p v → StaysOrLeft p w
  found_still p v w f (inl same) = inl (f.body ∙ same)
  found_still p v w f (inr (place, lies, out)) = inr (place, sym (place_found v w f) ∙ lies, out)

  module _ (j : ℕ) (job : Job) (at : job_at s.copying.word j ≡ Some job) where
    own_at : job_at (own_part s).copying.word j ≡ Some job
    own_at = untaken_said (s.copying.word j) ∙ at

    module _ (good : IsGood s.round_epoch s.round s.copying.since j job) where
      outside : s.round job.to.log ≡ false
      outside = law.copies.good.outside j job own_at good

      -- the copy is as long as the object that lies at the source
      module _ (p len ds : ℕ) (m : Marks) (near : read_of (s.cell p) ≡ Some (Near len ds job.from m)) where
        layout_from : IsPtr (Near len ds job.from m)
        layout_from = (read_says (s.cell p) (Near len ds job.from m) (law.cells.cell_read p).0 near).0

        layout : IsPtr (Near len ds job.to no_marks)
        layout =
            let o = own_part s in
            let spans = law.copies.jobs.job_spans j job own_at in
            let span = law.spans.span (addr job.to) spans.to in
            let bounds = (job_bounds o.copying j job own_at).to in
            let long : head_len (o.word (addr job.to)) ≡ len = ap head_len spans.alike ∙ rw (span_len o law p len ds job.from m near) refl in
            let sized : size_of (head_len (o.word (addr job.to))) ≡ size_of len = ap size_of long in
            let here : addr job.to % LOG_WORDS ≡ job.to.at = omega (arith, bounds) in
            let log : addr job.to / LOG_WORDS ≡ job.to.log = omega (arith, bounds) in
            let inside : addr job.to / LOG_WORDS < s.logs = log_inside o law (addr job.to / LOG_WORDS) (omega (arith, span.fits)) in
            (omega (arith, layout_from), omega (arith, layout_from), omega (arith, layout_from), omega (arith, inside, log, law.shape.few_logs), omega (arith, span.fits, sized, here, law.logs.tail_end (addr job.to / LOG_WORDS)))

        left_new : (word : ℕ) (dirty : Bool) → word ≡ near_word dirty len ds job.to → StaysOrLeft job.pointer word
        left_new word dirty is = inr (job.to, ap (λ w. near_place (read_of w)) is ∙ ap near_place (read_back (Near len ds job.to (unmarked dirty)) layout), outside)

  -- ---- one job is collected
  module _ (u : State) (k : ℕ) (h : Reaches k u) (job : Job) (here : job_at u.copying.word k ≡ Some job) where
    at_start : job_at s.copying.word k ≡ Some job
    at_start = ap (λ w. job_said (job_of w)) (sym (h.jobs k (omega arith))) ∙ here

    module _ (word cell : ℕ) (sees : Finds (u.cell job.pointer) cell) where
      abbrev x : State
      x = found_so u k job word cell

      found_cells : (p : ℕ) → StaysOrLeft p (x.cell p)
      found_cells p = put_both (StaysOrLeft p) u.cell job.pointer cell p
          (λ e. subst (λ q. StaysOrLeft q cell) (sym e) (found_still job.pointer (u.cell job.pointer) cell sees (h.cells job.pointer))) (λ _. h.cells p)

      found_here : x.cell job.pointer ≡ cell
      found_here = put_same u.cell job.pointer cell job.pointer refl

      -- its pointer is named: the job is good, and the object lay at its source
      module _ (good : is_good u.round_epoch u.round u.copying.since k job ≡ true) (names : names_place (read_of cell) job.from.log job.from.at ≡ true) where
        good_start : IsGood s.round_epoch s.round s.copying.since k job
        good_start =
            let b = parts (u.copying.since k == u.round_epoch) (u.round job.from.log) good in (
              ap (λ (f : ℕ → ℕ). f k) (sym h.leaves.since) ∙ eqb-true (u.copying.since k) u.round_epoch b.0 ∙ h.leaves.epoch,
              ap (λ (f : ℕ → Bool). f job.from.log) (sym h.leaves.round) ∙ b.1,
            )

        abbrev n : NearAt (read_of cell) job.from.log job.from.at
        n = near_at (read_of cell) job.from.log job.from.at names

        from_is : n.place ≡ job.from
        from_is = λ i. record { log = n.log i; at = n.here i }

        pub at_from : read_of cell ≡ Some (Near n.len n.ds job.from n.marks)
        at_from = n.near ∙ ap (λ place. Some (Near n.len n.ds place n.marks)) from_is

        was : StaysOrLeft job.pointer cell → (m : Marks) × (read_of (s.cell job.pointer) ≡ Some (Near n.len n.ds job.from m))
        was (inl same) = near_of_body (read_of cell) (read_of (s.cell job.pointer)) same n.len n.ds job.from n.marks at_from
        was (inr (place, lies, out)) =
            let same = one_place place job.from (sym lies ∙ ap near_place at_from) in
            absurd (true≢false (sym good_start.1 ∙ ap (λ (at : Place). s.round at.log) (sym same) ∙ out))

        at_first : (m : Marks) × (read_of (s.cell job.pointer) ≡ Some (Near n.len n.ds job.from m))
        at_first = was (subst (StaysOrLeft job.pointer) found_here (found_cells job.pointer))

        abbrev new : ℕ
        new = near_word n.marks.dirty n.len n.ds job.to

        abbrev then : State
        then = after x (Name job.pointer (x.cell job.pointer) new)

        named_is : named x job.pointer job.to ≡ then
        named_is = ap (named_of x job.pointer job.to) (ap read_of found_here ∙ at_from)

        here_then : StaysOrLeft job.pointer (then.cell job.pointer)
        here_then = elim (name_named x job.pointer new (x.cell job.pointer)) [
          | inl now ↦ left_new k job at_start good_start job.pointer n.len n.ds at_first.0 at_first.1 (then.cell job.pointer) n.marks.dirty now
          | inr kept ↦ subst (StaysOrLeft job.pointer) (sym kept) (found_cells job.pointer)
        ]

        named_cells : (p : ℕ) → StaysOrLeft p ((named x job.pointer job.to).cell p)
        named_cells p = subst (λ (t : State). StaysOrLeft p (t.cell p)) (sym named_is) (elim (cases_eq p job.pointer) [
          | inl e ↦ subst (λ q. StaysOrLeft q (then.cell q)) (sym e) here_then
          | inr ne ↦ subst (StaysOrLeft p) (sym ((name_one x job.pointer new (x.cell job.pointer)).cells p ne)) (found_cells p)
        ])

      made_cells : (fate : Fate) → fate_in u k job word cell ≡ fate → (p : ℕ) → StaysOrLeft p ((made_of x k job fate).cell p)
      made_cells Stays e p = found_cells p
      made_cells Empties e p = found_cells p
      made_cells Names e p =
          let both = both_hold (is_good u.round_epoch u.round u.copying.since k job) (names_place (read_of cell) job.from.log job.from.at)
          (unvoid (job_of word) (is_void u k job (read_of cell)) (is_dropped (read_of cell)) e) in
          named_cells both.0 both.1 p

      -- no other job's word changes
      named_jobs : (o : Option PtrWord) → (named_of x job.pointer job.to o).copying.word ≡ x.copying.word
      named_jobs (Some (Near len ds from marks)) = ap (λ (t : State). t.copying.word) (name_one x job.pointer (near_word marks.dirty len ds job.to) (x.cell job.pointer)).frame
      named_jobs _ = refl

      made_jobs : (fate : Fate) (i : ℕ) → i ≢ k → (made_of x k job fate).copying.word i ≡ u.copying.word i
      made_jobs Stays i ne = put_other u.copying.word k word i ne
      made_jobs Empties i ne = put_other (put u.copying.word k word) k 0 i ne ∙ put_other u.copying.word k word i ne
      made_jobs Names i ne =
          put_other (named x job.pointer job.to).copying.word k 0 i ne
          ∙ ap (λ (f : ℕ → ℕ). f i) (named_jobs (read_of (x.cell job.pointer))) ∙ put_other u.copying.word k word i ne

    one_gone : (t : State) (names : Bool) → GoesAsFound u t k job names → Reaches (suc k) t
    one_gone t names g = record {
      jobs = λ i le.
          ap (λ (v : State). v.copying.word i) g.leads ∙ made_jobs g.word g.cell g.sees (fate_in u k job g.word g.cell) i (λ e. omega (arith, e, le)) ∙ h.jobs i (omega (arith, le));
      cells = λ p. subst (StaysOrLeft p) (sym (ap (λ (v : State). v.cell p) g.leads)) (made_cells g.word g.cell g.sees (fate_in u k job g.word g.cell) refl p);
      leaves = leaves_more s u t h.leaves (leaves_gone u t k job names g);
    }

  one_known : (u t : State) (k : ℕ) → Reaches k u → (o : Option Job) (names : Bool) → job_at u.copying.word k ≡ o → CollectsKnown u t k o names → Reaches (suc k) t
  one_known u t k h None names e g = subst (Reaches (suc k)) (sym g.0) record { jobs = λ i le. h.jobs i (omega (arith, le)); cells = h.cells; leaves = h.leaves }
  one_known u t k h (Some job) names e g = one_gone u k h job e t names g

  pub reaches : (t : State) (n count : ℕ) → Collects s n t count → Reaches n t
  reaches t zero count h = subst (Reaches zero) (sym h.0) record { jobs = λ i le. refl; cells = λ p. inl refl; leaves = leaves_itself s }
  reaches t (suc n) count (u, before, names, rest, here, counted) = one_known u t n (reaches u n before rest) (job_at u.copying.word n) names refl here

  -- ---- so what lives in a log of the round then lived there before
  module _ (t : State) (n : ℕ) (h : Reaches n t) (ls : List ℕ) (round : (l : ℕ) → among ls l ≡ true → s.round l ≡ true) (q : ℕ) (none : none_of (live_among s ls) q) where
    lived : (l p : ℕ) → among ls l ≡ true → LivesIn t l p → Contains (live_in s l) p
    lived l p member (at, names) =
        let x = near_at (read_of (t.cell p)) l at names in
        elim (h.cells p) [
          | inl same ↦ (let b = near_of_body (read_of (t.cell p)) (read_of (s.cell p)) same x.len x.ds x.place x.marks x.near in
              subst (λ k. Contains (live_in s k) p) x.log (in_live s law p x.len x.ds x.place b.0 b.1))
          | inr (place, lies, out) ↦ (let same = one_place place x.place (sym lies ∙ ap near_place x.near) in
              absurd (true≢false (sym (round l member) ∙ ap s.round (sym x.log) ∙ ap (λ (at : Place). s.round at.log) (sym same) ∙ out)))
        ]

    none_met : (zs : List ℕ) → ((l : ℕ) → among zs l ≡ true → among ls l ≡ true) → none_of (live_among t zs) q
    none_met [] all = tt
    none_met (z ∷ zs) all =
        let member = all z (or_left (eqb z z) (among zs z) (eq-eqb z z refl)) in
        all_append (λ p. p ≢ q) (live_in t z) (live_among t zs)
        (each_map (λ p lives. all_at (λ r. r ≢ q) p (live_among s ls) none (in_among s law ls z p member (lived z p member lives))) (live_in t z) (live_named t z))
        (none_met zs (λ l is. all l (or_right (eqb l z) (among zs l) is)))

    pub keys_before : none_of (live_among t ls) q
    keys_before = none_met ls (λ l is. is)
