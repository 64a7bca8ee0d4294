-- The logs in front without live objects are given back one after the other, while marks may be found.
use Rattle.std.proofs.Common.{◌≡◌, ◌≢◌, ℕ, ◌+◌, Bool, true, false, cond, List, [], ◌∷◌, ◌++◌, inl, inr, ap, sym, refl, ◌∙◌, subst}
use Rattle.std.proofs.lemmas.Bool.{cases_eq}
use Rattle.far_log.specs.Spans.{spans_in}
use Rattle.far_events.specs.state.Spans.{spans_of, word_in}
use Rattle.far_events.specs.state.State.{State}
use Rattle.far_events.proofs.Put.{put_other, put_same}
use Rattle.far_book.specs.book.Releasing.{order_without, released}
use Rattle.far_evac.specs.declared.answers.Progress.{Progress}
use Rattle.far_evac.specs.declared.phase.Phase.TheVariants.{Evacuating}
use Rattle.far_evac.specs.AnyHand.{Knows, KnowsMoment, KnowsWalked}
use Rattle.far_evac.specs.EvacOf.{EvacOf, moment}
use Rattle.far_evac.specs.Leaving.{standing}
use Rattle.far_evac.specs.Live.{live_in, live_among, is_empty}
use Rattle.far_evac.specs.Moment.{Moment, Tally, tally_of}
use Rattle.far_evac.specs.Walk.{Walked, freed, left, passed, settled}
use Rattle.far_evac.proofs.Hands.{knows_more}
use Rattle.far_evac.proofs.LiveLists.{knows_live}
use Rattle.far_evac.proofs.Tours.{passed_any}

-- ---- one thing after the other
pub moment_more : (m n t : Moment) → KnowsMoment m n → KnowsMoment n t → KnowsMoment m t
moment_more m n t first then = record { core = knows_more m.core n.core t.core first.core then.core; rest = then.rest ∙ ap (λ (x : Moment). record x { core = t.core }) first.rest }

pub walked_known_more : (u v w : Walked) → KnowsWalked u v → KnowsWalked v w → KnowsWalked u w
walked_known_more u v w first then = record { moment = moment_more u.moment v.moment w.moment first.moment then.moment; tally = then.tally ∙ first.tally }

-- ---- a log is given back of what is known
spans_apart : (s : State) (l k : ℕ) → k ≢ l → spans_of (released s l) k ≡ spans_of s k
unfolding spans_of
spans_apart s l k other = ap (λ tail. spans_in (word_in s k) tail) (put_other s.tail l 0 k other)

spans_gone : (s : State) (l k : ℕ) → k ≡ l → spans_of (released s l) k ≡ []
unfolding spans_of spans_in
spans_gone s l k e = ap (λ tail. spans_in (word_in s k) tail) (put_same s.tail l 0 k e)

pub released_known : (s t : State) (l : ℕ) → Knows s t → Knows (released s l) (released t l)
released_known s t l known = record {
  found = known.found;
  spans = λ k. elim (cases_eq k l) [
    | inl e ↦ spans_gone t l k e ∙ sym (spans_gone s l k e)
    | inr other ↦ spans_apart t l k other ∙ known.spans k ∙ sym (spans_apart s l k other)
  ];
  stored = known.stored;
  rest = ap (λ (u : State). released u l) known.rest;
}

-- ---- two walks that are alike, but for the collection set
pub record Alike (u v : Walked) : Type 0 where
  pub core : Knows u.moment.core v.moment.core
  pub order : v.moment.order ≡ u.moment.order
  pub phase : v.moment.phase ≡ u.moment.phase
  pub copying : v.moment.copying ≡ u.moment.copying
  pub tally : v.tally ≡ u.tally

alike_walked : (u v : Walked) → Alike u v → (held : List ℕ) → KnowsWalked (record u { moment = record u.moment { collection = held } }) (record v { moment = record v.moment { collection = held } })
alike_walked u v alike held = record {
  moment = record { core = alike.core; rest = λ i. record { core = v.moment.core; order = alike.order i; phase = alike.phase i; collection = held; copying = alike.copying i } };
  tally = alike.tally;
}

cond_known : (b : Bool) (a c x y : Walked) → KnowsWalked a x → KnowsWalked c y → KnowsWalked (cond b a c) (cond b x y)
cond_known true a c x y first then = first
cond_known false a c x y first then = then

freed_alike : (u v : Walked) (l : ℕ) → Alike u v → Alike (freed u l) (freed v l)
freed_alike u v l alike = record {
  core = released_known u.moment.core v.moment.core l alike.core;
  order = ap (order_without l) alike.order;
  phase = alike.phase;
  copying = alike.copying;
  tally = ap (λ (tally : Tally). record tally { freed = tally.freed + 1 }) alike.tally;
}

passed_alike : (u v : Walked) (ls : List ℕ) → Alike u v → KnowsWalked (passed u ls) (passed v ls)
passed_alike u v [] alike = alike_walked u v alike []
passed_alike u v (l ∷ ls) alike =
    let same : is_empty (live_in v.moment.core l) ≡ is_empty (live_in u.moment.core l) = ap is_empty (knows_live u.moment.core v.moment.core alike.core l) in
    subst (λ b. KnowsWalked (passed u (l ∷ ls)) (cond b (passed (freed v l) ls) (record v { moment = record v.moment { collection = l ∷ ls } }))) (sym same)
    (cond_known (is_empty (live_in u.moment.core l)) (passed (freed u l) ls) (record u { moment = record u.moment { collection = l ∷ ls } }) (passed (freed v l) ls) (record v { moment = record v.moment { collection = l ∷ ls } })
    (passed_alike (freed u l) (freed v l) ls (freed_alike u v l alike)) (alike_walked u v alike (l ∷ ls)))

pub settled_known : (u v : Walked) → KnowsWalked u v → KnowsWalked (settled u) (settled v)
settled_known u v known =
    let held : v.moment.collection ≡ u.moment.collection = ap (λ (m : Moment). m.collection) known.moment.rest in
    let alike : Alike u v = record {
      core = known.moment.core;
      order = ap (λ (m : Moment). m.order) known.moment.rest;
      phase = ap (λ (m : Moment). m.phase) known.moment.rest;
      copying = ap (λ (m : Moment). m.copying) known.moment.rest;
      tally = known.tally;
    } in
    subst (λ ls. KnowsWalked (settled u) (passed v ls)) (sym held) (passed_alike u v u.moment.collection alike)

-- ---- whether the log in front stays
module _ (w : Walked) (l : ℕ) (ls : List ℕ) (front : w.moment.collection ≡ l ∷ ls) where
  abbrev front_by : List ℕ → Walked
  front_by live = cond (is_empty live) (passed (freed w l) ls) (record w { moment = record w.moment { collection = l ∷ ls } })

  pub front_left : (p : ℕ) (rest : List ℕ) → live_in w.moment.core l ≡ p ∷ rest → (more : List ℕ) × (left w ≡ p ∷ more)
  front_left p rest first = (rest ++ live_among w.moment.core ls, ap (live_among w.moment.core) front ∙ ap (λ live. live ++ live_among w.moment.core ls) first)

  pub front_stays : (p : ℕ) (rest : List ℕ) → live_in w.moment.core l ≡ p ∷ rest → settled w ≡ w
  front_stays p rest first = ap (passed w) front ∙ ap front_by first ∙ (λ i. record w { moment = record w.moment { collection = (sym front) i } })

  pub front_goes : live_in w.moment.core l ≡ [] → settled w ≡ passed (freed w l) ls
  front_goes none = ap (passed w) front ∙ ap front_by none

  -- v is where the walk stands once it is given back
  module _ (none : live_in w.moment.core l ≡ []) (v : Walked) (held : v.moment.collection ≡ ls) where
    pub next_known : Alike (freed w l) v → KnowsWalked (settled w) (settled v)
    next_known alike = subst (λ x. KnowsWalked x (settled v)) (sym (front_goes none)) (subst (λ ks. KnowsWalked (passed (freed w l) ls) (passed v ks)) (sym held) (passed_alike (freed w l) v ls alike))

    pub next_exact : v ≡ record (freed w l) { moment = record (freed w l).moment { collection = ls } } → settled v ≡ settled w
    next_exact is = ap settled is ∙ passed_any (freed w l) ls ls ∙ sym (front_goes none)

-- ---- the same of an evacuator
module _ {N D : Type 0} (view : N → State) where
  pub standing_known : (e f : EvacOf N D) (progress : Progress) → KnowsMoment (moment view e) (moment view f) → KnowsWalked (standing view e progress) (standing view f progress)
  standing_known e f progress known = record {
    moment = record { core = known.core; rest = ap (λ (m : Moment). record m { phase = Evacuating }) known.rest };
    tally = refl;
  }

  -- the log in front of e is given back: f is where marks were found in it, and h is after it
  module _ (e f h : EvacOf N D) (progress next : Progress) (l : ℕ) (ls : List ℕ) (front : e.collection ≡ l ∷ ls) (none : live_in (view e.book.near) l ≡ [])
      (order : h.book.order ≡ order_without l f.book.order) (held : f.collection ≡ l ∷ h.collection) (copies : h.copying ≡ f.copying) (counted : tally_of next ≡ record (tally_of progress) { freed = progress.freed + 1 }) where
    same_rest : e.collection ≡ l ∷ h.collection → h.collection ≡ ls
    same_rest same = let both : l ∷ ls ≡ l ∷ h.collection = sym front ∙ same in cc

    pub step_known : KnowsMoment (moment view e) (moment view f) → Knows (released (view f.book.near) l) (view h.book.near) → KnowsWalked (settled (standing view e progress)) (settled (standing view h next))
    step_known known given =
        let same : f.collection ≡ e.collection = ap (λ (m : Moment). m.collection) known.rest in
        let orders : f.book.order ≡ e.book.order = ap (λ (m : Moment). m.order) known.rest in
        next_known (standing view e progress) l ls front none (standing view h next) (same_rest (sym same ∙ held)) record {
          core = knows_more (released (view e.book.near) l) (released (view f.book.near) l) (view h.book.near) (released_known (view e.book.near) (view f.book.near) l known.core) given;
          order = order ∙ ap (order_without l) orders;
          phase = refl;
          copying = copies ∙ ap (λ (m : Moment). m.copying) known.rest;
          tally = counted;
        }

    pub step_exact : moment view f ≡ moment view e → view h.book.near ≡ released (view f.book.near) l → settled (standing view h next) ≡ settled (standing view e progress)
    step_exact known given =
        let same : f.collection ≡ e.collection = ap (λ (m : Moment). m.collection) known in
        let orders : h.book.order ≡ order_without l e.book.order = order ∙ ap (λ (m : Moment). order_without l m.order) known in
        let core : view h.book.near ≡ released (view e.book.near) l = given ∙ ap (λ (m : Moment). released m.core l) known in
        let rest = same_rest (sym same ∙ held) in
        let copying : h.copying ≡ e.copying = copies ∙ ap (λ (m : Moment). m.copying) known in
        next_exact (standing view e progress) l ls front none (standing view h next) rest
        (λ i. record { moment = record { core = core i; order = orders i; phase = Evacuating; collection = rest i; copying = copying i }; tally = counted i })
