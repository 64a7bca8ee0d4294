-- What each small step of a walk keeps, a walk keeps: an object goes its way, a log is given back, and marks are found.
use Rattle.std.proofs.Common.{◌≡◌, ◌≢◌, ℕ, zero, suc, ◌+◌, ◌<◌, ◌≤◌, Bool, true, false, List, [], ◌∷◌, ◌++◌, length, take, drop, arith, ap, sym, refl, ◌∙◌, subst}
use Rattle.std.specs.List.{AllByRecursion}
use Rattle.std.proofs.lemmas.Bool.{cond_both, true≢false, false≢true}
use Rattle.std.proofs.lemmas.List.{length-drop}
use Rattle.far_word.specs.declared.sizes.TheConstants.{LOG_WORDS, MOST_LOGS}
use Rattle.far_word.specs.Pointer.{read_of}
use Rattle.far_events.specs.state.State.{State}
use Rattle.far_hand.specs.Finds.{Finds}
use Rattle.far_hand.proofs.Finding.{finds_same, near_known}
use Rattle.far_book.specs.book.Releasing.{released}
use Rattle.far_evac.specs.AnyHand.{Knows, KnowsWalked, FindsBy, FindsFirst, LearnsBy, WalksBy, WalksSo, WalksTo, found_first}
use Rattle.far_evac.specs.Dealings.{BeginsLive}
use Rattle.far_evac.specs.Leaving.{order_by}
use Rattle.far_evac.specs.Live.{live_in, live_among, is_empty}
use Rattle.far_evac.specs.Moment.{Moment, Tally, objects_in}
use Rattle.far_evac.specs.Ready.{Ready, IsOfRound, AllMarked}
use Rattle.far_evac.specs.Walk.{Walked, Way, Drops, Moves, Goes, begun, dealt_first, dealt_so, freed, left, passed, settled, walked, way_of}
use Rattle.far_evac.proofs.Dealt.{Gone, Leaves}
use Rattle.far_evac.proofs.LiveLists.{knows_live, live_released}
use Rattle.far_evac.proofs.LiveOnce.{each_map}
use Rattle.far_evac.proofs.Tours.{core_so, first_live, gone_found, leaves_found, left_next, others, ready_released, test_of}

-- ---- what is known of a state lets the walk go on
module _ (s t : State) (known : Knows s t) where
  marked_known : (l : ℕ) → AllMarked s l → AllMarked t l
  marked_known l marked p len ds place marks near is =
      let x = near_known (s.cell p) (t.cell p) (known.found p) len ds place marks near in sym x.same ∙ marked p len ds place x.marks x.near is

  held_known : (l : ℕ) → IsOfRound s l → IsOfRound t l
  held_known l h = (ap (λ (u : State). u.kind l) known.rest ∙ h.0, marked_known l h.1, ap (λ (u : State). u.round l) known.rest ∙ h.2)

  pub ready_known : (held : List ℕ) → Ready s held → Ready t held
  ready_known held ready = record {
    layout = λ p len ds place marks near. let x = near_known (s.cell p) (t.cell p) (known.found p) len ds place marks near in ready.layout p len ds place x.marks x.near;
    short = λ l. subst (λ (tail : ℕ → ℕ). tail l ≤ LOG_WORDS) (sym (ap (λ (u : State). u.tail) known.rest)) (ready.short l);
    opens = ap (λ (u : State). u.kind u.current) known.rest ∙ ready.opens;
    current = subst (λ (u : State). u.current < u.logs) (sym known.rest) ready.current;
    few = subst (λ (u : State). u.logs ≤ MOST_LOGS) (sym known.rest) ready.few;
    logs = each_map held_known held ready.logs;
    once = ready.once;
  }

  pub left_known : (held : List ℕ) → live_among t held ≡ live_among s held
  left_known [] = refl
  left_known (l ∷ ls) = ap (λ live. live ++ live_among t ls) (knows_live s t known l) ∙ ap (λ more. live_in s l ++ more) (left_known ls)

  begins_known : (held : List ℕ) → BeginsLive s held → BeginsLive t held
  begins_known [] h = tt
  begins_known (l ∷ ls) h = ap is_empty (knows_live s t known l) ∙ h

pub none_there : (xs : List ℕ) → is_empty xs ≡ true → xs ≡ []
none_there [] h = refl
none_there (x ∷ xs) h = absurd (false≢true h)

front_empty : (xs ys : List ℕ) → xs ++ ys ≡ [] → is_empty xs ≡ true
front_empty [] ys e = refl
front_empty (x ∷ xs) ys e = absurd cc

pub begun_live : (s : State) (held : List ℕ) → BeginsLive s held → live_among s held ≡ [] → is_empty held ≡ true
begun_live s [] begins none = refl
begun_live s (l ∷ ls) begins none = absurd (false≢true (sym begins ∙ front_empty (live_in s l) (live_among s ls) none))

pub drop_next : (f : ℕ) (all : List ℕ) (l : ℕ) (ls : List ℕ) → drop f all ≡ l ∷ ls → (drop (suc f) all ≡ ls) × (suc f ≤ length all) × (take (suc f) all ≡ take f all ++ (l ∷ []))
drop_next zero [] l ls = λ e. absurd cc
drop_next (suc f) [] l ls = λ e. absurd cc
drop_next zero (x ∷ xs) l ls = λ e. let same : x ≡ l = cc in let rest : xs ≡ ls = cc in (rest, omega arith, ap (λ y. y ∷ []) same)
drop_next (suc f) (x ∷ xs) l ls = λ e. let h = drop_next f xs l ls e in (h.0, omega (arith, h.1), ap (λ ys. x ∷ ys) h.2)

left_released : (s : State) (l : ℕ) (ks : List ℕ) → AllByRecursion (λ k. k ≢ l) ks → live_among (released s l) ks ≡ live_among s ks
left_released s l [] apart = refl
left_released s l (k ∷ ks) apart = ap (λ live. live ++ live_among (released s l) ks) (live_released s l k apart.0) ∙ ap (λ more. live_in s k ++ more) (left_released s l ks apart.1)

-- ---- a walk, which may be exact
abbrev pub Learns : Bool → (ℕ → Walked → Type 0) → Type 0
Learns true P = Unit {0}
Learns false P = (k : ℕ) (w t : Walked) → KnowsWalked w t → P k w → P k t

finding : (exact : Bool) (known word : ℕ) → FindsBy exact known word → Finds known word
finding true known word e = subst (Finds known) (sym e) (finds_same known)
finding false known word finds = finds

-- the walk once these logs are the collection set, and once an object of it went its way
abbrev pub holding : Walked → List ℕ → Walked
holding w held = record w { moment = record w.moment { collection = held } }

abbrev pub more_dropped : Way → ℕ → ℕ
more_dropped Drops n = n + 1
more_dropped _ n = n

abbrev pub more_moved : Way → ℕ → ℕ
more_moved (Moves place) n = n + 1
more_moved _ n = n

abbrev pub more_far : Way → ℕ → ℕ
more_far Goes n = n + 1
more_far _ n = n

abbrev pub gone_so : Walked → List ℕ → ℕ → Way → Walked
gone_so w held p way = record {
  moment = record { core = core_so w.moment.core p way; order = order_by w.moment.core w.moment.order way; phase = w.moment.phase; collection = held; copying = w.moment.copying };
  tally = record { moved = more_moved way w.tally.moved; far = more_far way w.tally.far; dropped = more_dropped way w.tally.dropped; freed = w.tally.freed };
}

pub dealt_is : (w : Walked) (p : ℕ) (way : Way) → dealt_so w p way ≡ gone_so w w.moment.collection p way
dealt_is w p Goes = refl
dealt_is w p _ = refl

-- ---- what each small step keeps, once k objects were dealt with: a log in front without live objects is given back; and the first live object goes, as a word says that
-- was found in its cell
pub record KeepsSteps (exact : Bool) (P : ℕ → Walked → Type 0) : Type 0 where
  pub learns : Learns exact P
  pub gives : (k : ℕ) (w : Walked) (l : ℕ) (ls : List ℕ) → is_empty (live_in w.moment.core l) ≡ true → P k (holding w (l ∷ ls)) → P k (holding (freed w l) ls)
  pub deals : (k : ℕ) (w : Walked) (l : ℕ) (ls : List ℕ) (p : ℕ) (ps : List ℕ) (word : ℕ) → live_in w.moment.core l ≡ p ∷ ps → FindsBy exact (w.moment.core.cell p) word → P k (holding w (l ∷ ls)) →
      P (suc k) (gone_so w (l ∷ ls) p (way_of w.moment.core (read_of word)))

-- it holds where the walk stands then, and the log in front has a live object
abbrev pub Rests : (ℕ → Walked → Type 0) → ℕ → Walked → Type 0
Rests P k w = P k w × BeginsLive w.moment.core w.moment.collection

learnt : (exact : Bool) (P : ℕ → Walked → Type 0) → Learns exact P → (k : ℕ) (w t : Walked) → LearnsBy exact w t → Rests P k w → Rests P k t
learnt true P learns k w t same h = subst (Rests P k) (sym same) h
learnt false P learns k w t known h = (
  learns k w t known h.0,
  subst (BeginsLive t.moment.core) (sym (ap (λ (m : Moment). m.collection) known.moment.rest)) (begins_known w.moment.core t.moment.core known.moment.core w.moment.collection h.1),
)

module _ (exact : Bool) (P : ℕ → Walked → Type 0) (keeps : KeepsSteps exact P) where
  passed_kept : (k : ℕ) (ls : List ℕ) (v : Walked) → P k (holding v ls) → Rests P k (passed v ls)
  passed_kept k [] v h = (h, tt)
  passed_kept k (l ∷ ls) v h = cond_both (is_empty (live_in v.moment.core l)) (passed (freed v l) ls) (holding v (l ∷ ls)) (Rests P k)
      (λ none. passed_kept k ls (freed v l) (keeps.gives k v l ls none h)) (λ some. (h, some))

  found_kept : (k : ℕ) (w : Walked) (held xs live : List ℕ) (word : ℕ) → live_among w.moment.core held ≡ xs → first_live w.moment.core held ≡ live → FindsFirst exact (holding w held) word xs → Rests P k (holding w held) →
      Rests P (suc k) (found_first (holding w held) word xs)
  found_kept k w held [] live word is front finds h = absurd finds
  found_kept k w [] (p ∷ rest) live word is front finds h = absurd cc
  found_kept k w (l ∷ ls) (p ∷ rest) [] word is front finds h = absurd (true≢false (sym (ap is_empty front) ∙ h.1))
  found_kept k w (l ∷ ls) (p ∷ rest) (q ∷ qs) word is front finds h =
      let s : State = w.moment.core in
      let both : q ∷ (qs ++ live_among s ls) ≡ p ∷ rest = sym (ap (λ live. live ++ live_among s ls) front) ∙ is in
      let same : q ≡ p = cc in
      let here : live_in s l ≡ p ∷ qs = front ∙ ap (λ x. x ∷ qs) same in
      let way = way_of s (read_of word) in
      subst (λ v. Rests P (suc k) (settled v)) (sym (dealt_is (holding w (l ∷ ls)) p way)) (passed_kept (suc k) (l ∷ ls) (gone_so w (l ∷ ls) p way) (keeps.deals k w l ls p qs word here finds h.0))

  -- whatever each object asked of a device
  pub steps_kept : (D : Type 0) (Asks : Walked → ℕ → D → D → Type 0) (m : Moment) → P 0 (begun m) → (k : ℕ) (t : Walked) (old new : D) → WalksBy exact D Asks m k t old new → Rests P k t
  steps_kept D Asks m h zero t old new walks = learnt exact P keeps.learns 0 (settled (begun m)) t walks.0 (passed_kept 0 m.collection (begun m) h)
  steps_kept D Asks m h (suc k) t old new (u, word, between, walks, deals, _) =
      learnt exact P keeps.learns (suc k) (found_first u word (left u)) t deals.leaves
      (found_kept k u u.moment.collection (left u) (first_live u.moment.core u.moment.collection) word refl refl deals.finds (steps_kept D Asks m h k u old between walks))

  pub walks_kept : (m : Moment) → P 0 (begun m) → (k : ℕ) (t : Walked) → WalksSo exact m k t → Rests P k t
  walks_kept m h k t walks = steps_kept (Unit {0}) (λ u word old new. Unit {0}) m h k t tt tt walks

nothing_more : (p : ℕ) (ps : List ℕ) → p ∷ ps ≢ []
nothing_more p ps e = absurd cc

-- ---- where no word changes but by the walk: k objects were dealt with, n or all, and the word in each cell was the one that is known there
abbrev pub IsExact : Moment → ℕ → ℕ → Type 0
IsExact m n k = (k ≤ n) × (left (walked m n) ≢ [] → k ≡ n) × WalksSo true m k (walked m n)

next_exact : (m : Moment) (n k : ℕ) → IsExact m n k → (ps : List ℕ) → left (walked m n) ≡ ps → (j : ℕ) × IsExact m (suc n) j
next_exact m n k h [] e =
    let same : walked m (suc n) ≡ walked m n = ap (dealt_first (walked m n)) e in
    (k, (omega (arith, h.0), λ more. absurd (more (ap left same ∙ e)), subst (WalksSo true m k) (sym same) h.2))
next_exact m n k h (p ∷ ps) e =
    let w = walked m n in
    let word = w.moment.core.cell p in
    let same : dealt_first w (p ∷ ps) ≡ found_first w word (left w) = sym (ap (found_first w word) e) in (
      suc k,
      (
        omega (arith, h.0),
        λ _. omega (arith, h.1 (λ none. nothing_more p ps (sym e ∙ none))),
        (w, word, tt, h.2, record { finds = subst (FindsFirst true w word) (sym e) refl; leaves = ap (dealt_first w) e ∙ same }, tt),
      ),
    )

pub walk_exact : (m : Moment) (n : ℕ) → (k : ℕ) × IsExact m n k
walk_exact m zero = (0, (omega arith, λ _. refl, (refl, refl)))
walk_exact m (suc n) = let (k, h) = walk_exact m n in next_exact m n k h (left (walked m n)) refl

pub walked_kept : (P : ℕ → Walked → Type 0) → KeepsSteps true P → (m : Moment) → P 0 (begun m) → (n : ℕ) → (k : ℕ) × Rests P k (walked m n)
walked_kept P keeps m h n = let (k, walk) = walk_exact m n in (k, walks_kept true P keeps m h k (walked m n) walk.2)

pub walked_front : (m : Moment) (n : ℕ) → BeginsLive (walked m n).moment.core (walked m n).moment.collection
walked_front m n = (walked_kept (λ k w. Unit {0}) record { learns = tt; gives = λ k w l ls none h. tt; deals = λ k w l ls p ps word here finds h. tt } m tt n).1.1

-- ---- the small steps of a walk that began at m, once k objects were dealt with
-- the first object that is left goes a way, as a word says that was found in its cell
pub record GoesFirst (exact : Bool) (m : Moment) (k : ℕ) (s : State) (l : ℕ) (ls : List ℕ) (p : ℕ) (ps : List ℕ) (way : Way) : Type 0 where
  pub ready : Ready s (l ∷ ls)
  pub live : live_in s l ≡ p ∷ ps
  pub more : take (suc k) (live_among m.core m.collection) ≡ take k (live_among m.core m.collection) ++ (p ∷ [])
  pub word : ℕ
  pub finds : FindsBy exact (s.cell p) word
  pub is : way_of s (read_of word) ≡ way

module _ {exact : Bool} {m : Moment} {k : ℕ} {s : State} {l : ℕ} {ls : List ℕ} {p : ℕ} {ps : List ℕ} {way : Way} (first : GoesFirst exact m k s l ls p ps way) where
  pub finds_first : Finds (s.cell p) first.word
  finds_first = finding exact (s.cell p) first.word first.finds

  pub first_leaves : Leaves s p (core_so s p way) (l ∷ ls)
  first_leaves = leaves_found s l ls p ps first.ready first.live first.word finds_first way first.is

  pub first_gone : Gone s p (core_so s p way) (l ∷ ls) (test_of way)
  first_gone = gone_found s l ls p ps first.ready first.live first.word finds_first way first.is

-- where the walk is exact its cell says so
module _ {m : Moment} {k : ℕ} {s : State} {l : ℕ} {ls : List ℕ} {p : ℕ} {ps : List ℕ} {way : Way} (first : GoesFirst true m k s l ls p ps way) where
  pub first_way : way_of s (read_of (s.cell p)) ≡ way
  first_way = sym (ap (λ word. way_of s (read_of word)) first.finds) ∙ first.is

-- each keeps it
pub record Keeps (exact : Bool) (m : Moment) (P : ℕ → Walked → Type 0) : Type 0 where
  pub learns : Learns exact P
  pub gives : (k : ℕ) (w : Walked) (l : ℕ) (ls : List ℕ) → Ready w.moment.core (l ∷ ls) → is_empty (live_in w.moment.core l) ≡ true → P k (holding w (l ∷ ls)) → P k (holding (freed w l) ls)
  pub deals : (k : ℕ) (w : Walked) (l : ℕ) (ls : List ℕ) (p : ℕ) (ps : List ℕ) (way : Way) → GoesFirst exact m k w.moment.core l ls p ps way → P k (holding w (l ∷ ls)) → P (suc k) (gone_so w (l ∷ ls) p way)

-- where the walk stands then: all but the first k objects are left, and there were as many
pub record Stands (m : Moment) (P : ℕ → Walked → Type 0) (k : ℕ) (w : Walked) : Type 0 where
  pub ready : Ready w.moment.core w.moment.collection
  pub left : left w ≡ drop k (live_among m.core m.collection)
  pub enough : k ≤ length (live_among m.core m.collection)
  pub keeps : P k w

stands_known : (exact : Bool) (m : Moment) (P : ℕ → Walked → Type 0) → Learns exact P → Learns exact (Stands m P)
stands_known true m P learns = tt
stands_known false m P learns = λ k w t known h.
    let same : t.moment.collection ≡ w.moment.collection = ap (λ (m : Moment). m.collection) known.moment.rest in record {
      ready = subst (Ready t.moment.core) (sym same) (ready_known w.moment.core t.moment.core known.moment.core w.moment.collection h.ready);
      left = ap (live_among t.moment.core) same ∙ left_known w.moment.core t.moment.core known.moment.core w.moment.collection ∙ h.left;
      enough = h.enough;
      keeps = learns k w t known h.keeps;
    }

module _ (exact : Bool) (m : Moment) (P : ℕ → Walked → Type 0) (keeps : Keeps exact m P) where
  keeps_standing : KeepsSteps exact (Stands m P)
  keeps_standing = record {
    learns = stands_known exact m P keeps.learns;
    gives = λ k w l ls none h.
        let s : State = w.moment.core in
        let rest = left_released s l ls (others l ls h.ready.once) ∙ sym (ap (λ live. live ++ live_among s ls) (none_there (live_in s l) none)) in
        record { ready = ready_released s l ls h.ready; left = rest ∙ h.left; enough = h.enough; keeps = keeps.gives k w l ls h.ready none h.keeps };
    deals = λ k w l ls p ps word here finds h.
        let s : State = w.moment.core in
        let way = way_of s (read_of word) in
        let next = drop_next k (live_among m.core m.collection) p (ps ++ live_among s ls) (sym h.left ∙ ap (λ live. live ++ live_among s ls) here) in
        let first : GoesFirst exact m k s l ls p ps way = record { ready = h.ready; live = here; more = next.2; word = word; finds = finds; is = refl } in
        let leaves = first_leaves first in
        record { ready = leaves.ready; left = left_next s l ls p ps h.ready here (core_so s p way) leaves ∙ sym next.0; enough = next.1; keeps = keeps.deals k w l ls p ps way first h.keeps };
  }

  pub lifted : Ready m.core m.collection → P 0 (begun m) → (k : ℕ) (t : Walked) → WalksSo exact m k t → Rests (Stands m P) k t
  lifted ready h k t walks = walks_kept exact (Stands m P) keeps_standing m record { ready = ready; left = refl; enough = omega arith; keeps = h } k t walks

-- ---- over any hand
pub lifted_walks : (m : Moment) (P : ℕ → Walked → Type 0) → Keeps false m P → Ready m.core m.collection → P 0 (begun m) → (k : ℕ) (t : Walked) → WalksTo m k t → Stands m P k t
lifted_walks m P keeps ready h k t walks = (lifted false m P keeps ready h k t walks).0

-- ---- where no word changes but by the walk: after n calls for one more, where there were as many, so many were dealt with
module _ (m : Moment) (P : ℕ → Walked → Type 0) (keeps : Keeps true m P) (ready : Ready m.core m.collection) (start : P 0 (begun m)) where
  all_dealt : (n k : ℕ) → IsExact m n k → Stands m P k (walked m n) → n ≤ length (live_among m.core m.collection) → (xs : List ℕ) → left (walked m n) ≡ xs → k ≡ n
  all_dealt n k walk h few [] none =
      let over = ap length (sym h.left ∙ none) in omega (arith, few, walk.0, over, length-drop k (live_among m.core m.collection))
  all_dealt n k walk h few (p ∷ ps) more = walk.1 (λ none. nothing_more p ps (sym more ∙ none))

  pub lifted_walked : (n : ℕ) → (k : ℕ) × (n ≤ length (live_among m.core m.collection) → k ≡ n) × Stands m P k (walked m n)
  lifted_walked n =
      let (k, walk) = walk_exact m n in
      let (h, _) = lifted true m P keeps ready start k (walked m n) walk.2 in (k, λ few. all_dealt n k walk h few (left (walked m n)) refl, h)

-- ---- the places alone
pub walks_left : (m : Moment) (k : ℕ) (t : Walked) → Ready m.core m.collection → WalksTo m k t → Rests (Stands m (λ k w. Unit {0})) k t
walks_left m k t ready walks = lifted false m (λ k w. Unit {0}) record { learns = λ k w t known h. tt; gives = λ k w l ls ready none h. tt; deals = λ k w l ls p ps way first h. tt } ready tt k t walks

-- as many objects are counted as were dealt with
one_counted : (tally : Tally) (way : Way) → more_moved way tally.moved + more_far way tally.far + more_dropped way tally.dropped ≡ objects_in tally + 1
one_counted tally Goes = omega arith
one_counted tally _ = omega arith

pub tallies_all : (m : Moment) (k : ℕ) (t : Walked) → WalksTo m k t → objects_in t.tally ≡ k
tallies_all m k t walks = (walks_kept false (λ k w. objects_in w.tally ≡ k) record {
  learns = λ k w t known h. ap objects_in known.tally ∙ h;
  gives = λ k w l ls none h. h;
  deals = λ k w l ls p ps word here finds h. let more : k + 1 ≡ suc k = omega arith in one_counted w.tally (way_of w.moment.core (read_of word)) ∙ ap (λ n. n + 1) h ∙ more;
} m refl k t walks).0
