-- What walking over logs leaves of a round where copies may be offered: those that are kept are its logs still, and no other log is.
use Rattle.std.proofs.Common.{◌≡◌, ◌≢◌, ◌⊎◌, ◌++◌, ◌+◌, ℕ, ◌<◌, Bool, true, false, cond, eqb, List, [], ◌∷◌, length, take, drop, slice_index_or, inl, inr, ap, sym, refl, ◌∙◌, subst}
use Rattle.std.specs.Cmp.{nat_eq_equiv}
use Rattle.std.specs.List.{AllByRecursion, IsDistinct}
use Rattle.std.proofs.lemmas.Bool.{eq-eqb, eqb-true, false≢true, false_from_ne_true, true≢false}
use Rattle.std.proofs.lemmas.List.{append_assoc, append-nil, take-append-drop}
use Rattle.std.proofs.lemmas.Map.Keys.{IsDistinct-push, IsDistinct-tail}
use Rattle.far_device.specs.Following.{none_of}
use Rattle.far_events.specs.declared.event.Kind.TheVariants as kinds
use Rattle.far_events.specs.state.State.{State}
use Rattle.far_events.proofs.Put.{put_other, put_same}
use Rattle.far_book.specs.book.Releasing.{released}
use Rattle.far_hand.proofs.Finding.{near_known}
use Rattle.far_evac.specs.AnyHand.{Knows}
use Rattle.far_evac.specs.BookStands.{IsChosen, KeepsChosen}
use Rattle.far_evac.specs.Live.{live_among, live_in}
use Rattle.far_evac.specs.RoundSteps.{among}
use Rattle.far_evac.specs.WalkedLogs.{KeepsRound}
use Rattle.far_evac.proofs.Bools.{or_left, or_right}
use Rattle.far_evac.proofs.LiveLists.{knows_live, live_released}
use Rattle.far_evac.proofs.LiveOnce.{member_each}
use Rattle.far_evac.proofs.Onward.{front_is, last_among, or_split}
use Rattle.far_evac.proofs.Standings.{none_once}
use Rattle.far_evac.proofs.Tours.{others}
use Rattle.far_evac.proofs.Unmarking.{taken_next}

-- ---- lists
first_among : (xs : List ℕ) (l k : ℕ) → among xs k ≡ true → among (xs ++ l ∷ []) k ≡ true
first_among [] l k h = absurd (false≢true h)
first_among (x ∷ xs) l k h = elim (or_split (eqb k x) (among xs k) h) [
  | inl e ↦ or_left (eqb k x) (among (xs ++ l ∷ []) k) e
  | inr more ↦ or_right (eqb k x) (among (xs ++ l ∷ []) k) (first_among xs l k more)
]

itself_last : (xs : List ℕ) (l : ℕ) → among (xs ++ l ∷ []) l ≡ true
itself_last [] l = or_left (eqb l l) false (eq-eqb l l refl)
itself_last (x ∷ xs) l = or_right (eqb l x) (among (xs ++ l ∷ []) l) (itself_last xs l)

-- one that isn't among more isn't among these, and isn't the last
not_more : (xs : List ℕ) (l k : ℕ) → among (xs ++ l ∷ []) k ≡ false → (among xs k ≡ false) × (k ≢ l)
not_more xs l k none = (
  false_from_ne_true (among xs k) (λ is. true≢false (sym (first_among xs l k is) ∙ none)),
  λ e. true≢false (sym (ap (λ x. among (xs ++ l ∷ []) x) e ∙ itself_last xs l) ∙ none),
)

-- ---- a log that may be walked over
pub chosen_known : (s t : State) (l : ℕ) → Knows s t → IsChosen s l → IsChosen t l
chosen_known s t l known h = record {
  sealed = ap (λ (u : State). u.kind l) known.rest ∙ h.sealed;
  round = ap (λ (u : State). u.round l) known.rest ∙ h.round;
  marked = λ p len ds place marks near log. let x = near_known (s.cell p) (t.cell p) (known.found p) len ds place marks near in sym x.same ∙ h.marked p len ds place x.marks x.near log;
  clear = λ k lt. ap (λ (u : State). u.clear k) known.rest ∙ h.clear k (subst (λ (u : State). k < u.mutators) known.rest lt);
}

chosen_released : (s : State) (l k : ℕ) → k ≢ l → IsChosen s k → IsChosen (released s l) k
chosen_released s l k other h = record {
  sealed = put_other s.kind l kinds.Free k other ∙ h.sealed;
  round = put_other s.round l false k other ∙ h.round;
  marked = h.marked;
  clear = h.clear;
}

-- ---- from s to t these logs were walked over, and of them those are kept; the others lie ahead
pub record KeepsAhead (s : State) (past kept : List ℕ) (t : State) : Type 0 where
  pub clear : t.clear ≡ s.clear
  pub mutators : t.mutators ≡ s.mutators
  pub round : (l : ℕ) → t.round l ≡ true → (s.round l ≡ true) × (among past l ≡ true → among kept l ≡ true)
  pub again : (l : ℕ) → among kept l ≡ true → (among past l ≡ true) × IsChosen t l
  pub ahead : (l : ℕ) → among past l ≡ false → IsChosen s l → IsChosen t l × (live_in t l ≡ live_in s l)
  pub once : IsDistinct eqb kept

pub walks_none : (s : State) (kept : List ℕ) → kept ≡ [] → KeepsAhead s [] kept s
walks_none s kept none = record {
  clear = refl;
  mutators = refl;
  round = λ l is. (is, λ odd. absurd (false≢true odd));
  again = λ l is. absurd (false≢true (sym (ap (λ ks. among ks l) none) ∙ is));
  ahead = λ l _ h. (h, refl);
  once = subst (IsDistinct eqb) (sym none) none_once;
}

-- ---- one log more
module _ (s t u y : State) (past kept : List ℕ) (l : ℕ) (h : KeepsAhead s past kept t) (fresh : among past l ≡ false) (chosen : IsChosen s l) (keeps : KeepsChosen t l u) where
  not_kept : (k : ℕ) → among kept k ≡ true → k ≢ l
  not_kept k is e = true≢false (sym (h.again k is).0 ∙ (ap (λ x. among past x) e ∙ fresh))

  -- one that lies ahead of it is as it was
  further : (k : ℕ) → among (past ++ l ∷ []) k ≡ false → IsChosen s k → (k ≢ l) × IsChosen u k × (live_in u k ≡ live_in s k)
  further k none is =
      let apart = not_more past l k none in
      let before = h.ahead k apart.0 is in
      (apart.1, keeps.chosen k before.0, keeps.lives k apart.1 before.0 ∙ before.1)

  -- it stays
  walks_keeps : Knows u y → KeepsAhead s (past ++ l ∷ []) (kept ++ l ∷ []) y
  walks_keeps known = record {
    clear = ap (λ (x : State). x.clear) known.rest ∙ keeps.clear ∙ h.clear;
    mutators = ap (λ (x : State). x.mutators) known.rest ∙ keeps.mutators ∙ h.mutators;
    round = λ k is.
        let was = h.round k (sym (ap (λ (r : ℕ → Bool). r k) keeps.round) ∙ sym (ap (λ (x : State). x.round k) known.rest) ∙ is) in (
          was.0,
          λ met. elim (last_among past l k met) [
            | inl before ↦ first_among kept l k (was.1 before)
            | inr e ↦ ap (λ x. among (kept ++ l ∷ []) x) e ∙ itself_last kept l
          ],
        );
    again = λ k is. elim (last_among kept l k is) [
      | inl before ↦ (let was = h.again k before in (first_among past l k was.0, chosen_known u y k known (keeps.chosen k was.1)))
      | inr e ↦ (ap (λ x. among (past ++ l ∷ []) x) e ∙ itself_last past l, subst (IsChosen y) (sym e) (chosen_known u y l known (keeps.chosen l (h.ahead l fresh chosen).0)))
    ];
    ahead = λ k none is. let x = further k none is in (chosen_known u y k known x.1, knows_live u y known k ∙ x.2);
    once = IsDistinct-push nat_eq_equiv kept l h.once (false_from_ne_true (among kept l) (λ is. not_kept l is refl));
  }

  -- it was given back
  walks_frees : Knows (released u l) y → KeepsAhead s (past ++ l ∷ []) kept y
  walks_frees known = record {
    clear = ap (λ (x : State). x.clear) known.rest ∙ keeps.clear ∙ h.clear;
    mutators = ap (λ (x : State). x.mutators) known.rest ∙ keeps.mutators ∙ h.mutators;
    round = λ k is.
        let now : (released u l).round k ≡ true = sym (ap (λ (x : State). x.round k) known.rest) ∙ is in
        let other : k ≢ l = (λ e. false≢true (sym (put_same u.round l false k e) ∙ now)) in
        let was = h.round k (sym (ap (λ (r : ℕ → Bool). r k) keeps.round) ∙ sym (put_other u.round l false k other) ∙ now) in (
          was.0,
          λ met. elim (last_among past l k met) [ inl before ↦ was.1 before | inr e ↦ absurd (other e) ],
        );
    again = λ k is. let was = h.again k is in (first_among past l k was.0, chosen_known (released u l) y k known (chosen_released u l k (not_kept k is) (keeps.chosen k was.1)));
    ahead = λ k none is.
        let x = further k none is in
        (chosen_known (released u l) y k known (chosen_released u l k x.0 x.1), knows_live (released u l) y known k ∙ live_released u l k x.0 ∙ x.2);
    once = h.once;
  }

  pub walks_next : (next : List ℕ) (b : Bool) → Knows (cond b (released u l) u) y → next ≡ cond b kept (kept ++ l ∷ []) → KeepsAhead s (past ++ l ∷ []) next y
  walks_next next true known is = subst (λ ks. KeepsAhead s (past ++ l ∷ []) ks y) (sym is) (walks_frees known)
  walks_next next false known is = subst (λ ks. KeepsAhead s (past ++ l ∷ []) ks y) (sym is) (walks_keeps known)

-- ---- two lists in which each is once, and none is in both
later_apart : (xs : List ℕ) (y : ℕ) (ys : List ℕ) → IsDistinct eqb (y ∷ ys) → ((k : ℕ) → among xs k ≡ true → among (y ∷ ys) k ≡ true → ⊥) → (k : ℕ) → among (xs ++ y ∷ []) k ≡ true → among ys k ≡ true → ⊥
later_apart xs y ys g apart k is there = elim (last_among xs y k is) [
  | inl before ↦ apart k before (or_right (eqb k y) (among ys k) there)
  | inr e ↦ member_each (λ x. x ≢ y) ys (others y ys g) k there e
]

joined_once : (xs ys : List ℕ) → IsDistinct eqb xs → IsDistinct eqb ys → ((k : ℕ) → among xs k ≡ true → among ys k ≡ true → ⊥) → IsDistinct eqb (xs ++ ys)
joined_once xs [] f g apart = subst (IsDistinct eqb) (sym (append-nil xs)) f
joined_once xs (y ∷ ys) f g apart =
    let fresh = false_from_ne_true (among xs y) (λ is. apart y is (or_left (eqb y y) (among ys y) (eq-eqb y y refl))) in
    subst (IsDistinct eqb) (append_assoc xs (y ∷ []) ys) (joined_once (xs ++ y ∷ []) ys (IsDistinct-push nat_eq_equiv xs y f fresh) (IsDistinct-tail eqb y ys g) (later_apart xs y ys g apart))

in_either : (xs ys : List ℕ) (k : ℕ) → among (xs ++ ys) k ≡ true → (among xs k ≡ true) ⊎ (among ys k ≡ true)
in_either [] ys k h = inr h
in_either (x ∷ xs) ys k h = elim (or_split (eqb k x) (among (xs ++ ys) k) h) [
  | inl e ↦ inl (or_left (eqb k x) (among xs k) e)
  | inr more ↦ elim (in_either xs ys k more) [ inl e ↦ inl (or_right (eqb k x) (among xs k) e) | inr e ↦ inr e ]
]

in_second : (xs ys : List ℕ) (k : ℕ) → among ys k ≡ true → among (xs ++ ys) k ≡ true
in_second [] ys k h = h
in_second (x ∷ xs) ys k h = or_right (eqb k x) (among (xs ++ ys) k) (in_second xs ys k h)

in_first : (xs ys : List ℕ) (k : ℕ) → among xs k ≡ true → among (xs ++ ys) k ≡ true
in_first [] ys k h = absurd (false≢true h)
in_first (x ∷ xs) ys k h = elim (or_split (eqb k x) (among xs k) h) [
  | inl e ↦ or_left (eqb k x) (among (xs ++ ys) k) e
  | inr more ↦ or_right (eqb k x) (among (xs ++ ys) k) (in_first xs ys k more)
]

-- none of the first is among those behind it
apart_parts : (xs ys : List ℕ) → IsDistinct eqb (xs ++ ys) → (k : ℕ) → among xs k ≡ true → among ys k ≡ true → ⊥
apart_parts [] ys once k h there = false≢true h
apart_parts (x ∷ xs) ys once k h there = elim (or_split (eqb k x) (among xs k) h) [
  | inl e ↦ member_each (λ z. z ≢ x) (xs ++ ys) (others x (xs ++ ys) once) k (in_second xs ys k there) (eqb-true k x e)
  | inr more ↦ apart_parts xs ys (IsDistinct-tail eqb x (xs ++ ys) once) k more there
]

last_parts : (xs ys : List ℕ) → IsDistinct eqb (xs ++ ys) → IsDistinct eqb ys
last_parts [] ys once = once
last_parts (x ∷ xs) ys once = last_parts xs ys (IsDistinct-tail eqb x (xs ++ ys) once)

-- ---- where a walk stands: behind some logs, and before these
module _ (logs past : List ℕ) (l : ℕ) (ls : List ℕ) (parts : past ++ l ∷ ls ≡ logs) (once : IsDistinct eqb logs) where
  once_parts : IsDistinct eqb (past ++ l ∷ ls)
  once_parts = subst (IsDistinct eqb) (sym parts) once

  -- the one in front wasn't met before, and is one of the logs
  pub front_fresh : among past l ≡ false
  front_fresh = false_from_ne_true (among past l) (λ is. apart_parts past (l ∷ ls) once_parts l is (or_left (eqb l l) (among ls l) (eq-eqb l l refl)))

  pub front_among : among logs l ≡ true
  front_among = ap (λ ks. among ks l) (sym parts) ∙ in_second past (l ∷ ls) l (or_left (eqb l l) (among ls l) (eq-eqb l l refl))

  -- it stops in the one in front
  pub walks_stop : (s t u : State) (kept : List ℕ) → KeepsAhead s past kept t → ((k : ℕ) → among logs k ≡ true → IsChosen s k) → KeepsChosen t l u → KeepsRound s logs (kept ++ l ∷ ls) u
  walks_stop s t u kept h chosen keeps = record {
    clear = keeps.clear ∙ h.clear;
    mutators = keeps.mutators ∙ h.mutators;
    round = λ k is.
        let was = h.round k (sym (ap (λ (r : ℕ → Bool). r k) keeps.round) ∙ is) in (
          was.0,
          λ met. elim (in_either past (l ∷ ls) k (ap (λ ks. among ks k) parts ∙ met)) [
            | inl before ↦ in_first kept (l ∷ ls) k (was.1 before)
            | inr behind ↦ in_second kept (l ∷ ls) k behind
          ],
        );
    again = λ k is. elim (in_either kept (l ∷ ls) k is) [
      | inl before ↦ (let was = h.again k before in (ap (λ ks. among ks k) (sym parts) ∙ in_first past (l ∷ ls) k was.0, keeps.chosen k was.1))
      | inr behind ↦
          let member = ap (λ ks. among ks k) (sym parts) ∙ in_second past (l ∷ ls) k behind in
          let none = false_from_ne_true (among past k) (λ before. apart_parts past (l ∷ ls) once_parts k before behind) in
          (member, keeps.chosen k (h.ahead k none (chosen k member)).0)
    ];
    once = joined_once kept (l ∷ ls) h.once (last_parts past (l ∷ ls) once_parts) (λ k before behind. apart_parts past (l ∷ ls) once_parts k (h.again k before).0 behind);
  }

-- ---- before the log with this index
pub record IsBefore (s t : State) (logs : List ℕ) (i l : ℕ) : Type 0 where
  pub front : drop i logs ≡ l ∷ drop (i + 1) logs
  pub parts : take i logs ++ l ∷ drop (i + 1) logs ≡ logs
  pub next : take (i + 1) logs ≡ take i logs ++ l ∷ []
  pub fresh : among (take i logs) l ≡ false
  pub member : among logs l ≡ true
  pub was : IsChosen s l
  pub is : IsChosen t l
  pub lives : live_in t l ≡ live_in s l

pub before_log : (s t : State) (logs kept : List ℕ) (i : ℕ) → i < length logs → IsDistinct eqb logs → ((l : ℕ) → among logs l ≡ true → IsChosen s l) → KeepsAhead s (take i logs) kept t → IsBefore s t logs i (slice_index_or logs i 0)
before_log s t logs kept i lt once chosen h =
    let l = slice_index_or logs i 0 in
    let front = front_is logs logs i (length logs) refl refl lt in
    let parts = ap (λ ls. take i logs ++ ls) (sym front) ∙ take-append-drop i logs in
    let fresh = front_fresh logs (take i logs) l (drop (i + 1) logs) parts once in
    let member = front_among logs (take i logs) l (drop (i + 1) logs) parts once in
    let then = h.ahead l fresh (chosen l member) in record {
      front = front;
      parts = parts;
      next = taken_next logs logs i refl lt;
      fresh = fresh;
      member = member;
      was = chosen l member;
      is = then.0;
      lives = then.1;
    }

-- ---- keys
all_first : (P : ℕ → Type 0) (xs ys : List ℕ) → AllByRecursion P (xs ++ ys) → AllByRecursion P xs × AllByRecursion P ys
all_first P [] ys h = (tt, h)
all_first P (x ∷ xs) ys h = let more = all_first P xs ys h.1 in ((h.0, more.0), more.1)

pub key_apart : (s : State) (logs : List ℕ) (l : ℕ) → among logs l ≡ true → (q : ℕ) → none_of (live_among s logs) q → none_of (live_in s l) q
key_apart s [] l member q h = absurd (false≢true member)
key_apart s (k ∷ ks) l member q h =
    let both = all_first (λ key. key ≢ q) (live_in s k) (live_among s ks) h in
    elim (or_split (eqb l k) (among ks l) member) [
      | inl e ↦ subst (λ j. none_of (live_in s j) q) (sym (eqb-true l k e)) both.0
      | inr more ↦ key_apart s ks l more q both.1
    ]
