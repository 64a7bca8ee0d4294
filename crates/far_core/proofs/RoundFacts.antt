-- What a round means for objects and views, and its sets of logs and scope words in numerals.
use Rattle.std.proofs.Common.{◌≡◌, ℕ, ◌+◌, ◌*◌, ◌/◌, ◌%◌, ◌^◌, ◌<◌, ◌≤◌, ◌==◌, Bool, true, false, cond, arith, nat_lt, zero, suc, sym, refl, ap, subst, ◌∙◌, Option, Some, None, inl, inr}
use Rattle.std.specs.Prelude.{◌||◌, ◌&&◌, ◌⊎◌, not, max}
use Rattle.std.proofs.lemmas.Bool.{cases_eq, eq-eqb, ne_eqb, lt-ltb, false_from_ne_true}
use Rattle.std.proofs.lemmas.Nat.Bits.{bit_at_or, bit_at-lt, bit_at-pow_same, bit_at-pow_other, bit_at-zero}
use Rattle.far_word.specs.declared.mark.Marks.{Marks}
use Rattle.far_word.specs.declared.pointer.Place.{Place}
use Rattle.far_word.specs.declared.pointer.PtrWord.{PtrWord}
use Rattle.far_word.specs.declared.pointer.PtrWord.TheVariants.{Free, Near, Far}
use Rattle.far_word.specs.declared.scope.ScopeWord.{ScopeWord}
use Rattle.far_word.specs.declared.scope.ScopeWord.TheVariants as scoped
use Rattle.far_word.specs.declared.sizes.TheConstants.{CELLS, MOST_LOGS}
use Rattle.far_word.specs.Bytes.{bytes_of}
use Rattle.far_word.specs.Pointer.{read_of}
use Rattle.far_word.specs.Scope.{scope_of}
use Rattle.far_word.proofs.ScopeLaws.{scope_back, scope_only, scope_says}
use Rattle.far_events.specs.events.Advance.{is_among}
use Rattle.far_events.specs.events.Look.{shows_clear, ShowsClear}
use Rattle.far_core.specs.laws.Rounds.{RoundStands, ScopesShow, OneLogIsABit, SetsAreJoined, NoLogIsZero, FiveIsTwoLogs}
use Rattle.far_events.specs.state.Law.{Law}
use Rattle.far_events.specs.state.State.{State, addr}
use Rattle.far_core.specs.world.World.{Object, Group, FarSide}
use Rattle.far_core.specs.world.WorldOf.{world_of, object_of, is_marked, is_group}
use Rattle.far_events.proofs.Bounds.{some_of}
use Rattle.far_events.proofs.Cells.{held_near}

-- ---- sets of logs
and_false : (b : Bool) → (b && false) ≡ false
and_false true = refl
and_false false = refl

pub one_log_is_a_bit : OneLogIsABit
one_log_is_a_bit l k lt = elim (cases_eq k l) [
  | inl e ↦ ap (is_among (2 ^ l)) e ∙ ap (λ v. nat_lt l MOST_LOGS && (v == 1)) (bit_at-pow_same l) ∙ ap (λ b. b && true) (lt-ltb l MOST_LOGS lt) ∙ sym (eq-eqb k l e)
  | inr ne ↦ ap (λ v. nat_lt k MOST_LOGS && (v == 1)) (bit_at-pow_other l k ne) ∙ and_false (nat_lt k MOST_LOGS) ∙ sym (ne_eqb k l ne)
]

joined : (b : Bool) (x y : ℕ) → x < 2 → y < 2 → (b && (max x y == 1)) ≡ ((b && (x == 1)) || (b && (y == 1)))
joined false x y p q = refl
joined true zero zero p q = refl
joined true zero (suc zero) p q = refl
joined true zero (suc (suc y)) p q = absurd (omega arith)
joined true (suc zero) zero p q = refl
joined true (suc zero) (suc zero) p q = refl
joined true (suc zero) (suc (suc y)) p q = absurd (omega arith)
joined true (suc (suc x)) y p q = absurd (omega arith)

pub sets_are_joined : SetsAreJoined
sets_are_joined a b l = ap (λ v. nat_lt l MOST_LOGS && (v == 1)) (bit_at_or a b l) ∙ joined (nat_lt l MOST_LOGS) (a / 2 ^ l % 2) (b / 2 ^ l % 2) (bit_at-lt a l) (bit_at-lt b l)

pub no_log_is_zero : NoLogIsZero
no_log_is_zero l = ap (λ v. nat_lt l MOST_LOGS && (v == 1)) (bit_at-zero l) ∙ and_false (nat_lt l MOST_LOGS)

pub five_is_two_logs : FiveIsTwoLogs
five_is_two_logs = (refl, refl, refl, refl, refl)

-- ---- scope words
pub scopes_show : ScopesShow
scopes_show epoch = (
  ap (shows_clear epoch) (scope_back scoped.Closed tt),
  λ e lt. ap (shows_clear epoch) (scope_back (scoped.Open e) lt),
  λ w. (shown w, shows w),
) where
  shown : (w : ℕ) → ShowsClear epoch w → (w ≡ 0) ⊎ ((e : ℕ) × (e < 2 ^ 62) × (w ≡ 2 * e + 1) × (epoch ≤ e))
  shown w (inl is) = inl (sym (scope_says w scoped.Closed is).1)
  shown w (inr (e, is, late)) = let says = scope_says w (scoped.Open e) is in inr (e, says.0, sym says.1, late)

  shows : (w : ℕ) → (w ≡ 0) ⊎ ((e : ℕ) × (e < 2 ^ 62) × (w ≡ 2 * e + 1) × (epoch ≤ e)) → ShowsClear epoch w
  shows w (inl is) = inl (scope_only w scoped.Closed tt (sym is))
  shows w (inr (e, lt, is, late)) = inr (e, scope_only w (scoped.Open e) lt (sym is), late)

-- ---- the round
-- an object of the world that lies in a group: its cell names that log
lies_in : (f g : ℕ → ℕ) (p l : ℕ) (o : Object) (c : Option PtrWord) → object_of f g p c ≡ Some o → o.home ≡ Group l →
    (len ds : ℕ) × (place : Place) × (m : Marks) × (c ≡ Some (Near len ds place m)) × (place.log ≡ l) × (m.dropped ≡ false)
lies_in f g p l o None h home = absurd cc
lies_in f g p l o (Some Free) h home = absurd cc
lies_in f g p l o (Some (Near len ds place m)) h home =
    let its : Object = record { owner = p / CELLS; ds = ds; bytes = bytes_of (λ i. f (addr place + 1 + i)) len; home = Group place.log } in
    let kept : m.dropped ≡ false = false_from_ne_true m.dropped (λ t. let odd : None ≡ Some o = sym (ap (λ b. cond b None (Some its)) t) ∙ h in cc) in
    let same : Some its ≡ Some o = sym (ap (λ b. cond b None (Some its)) kept) ∙ h in
    let there : Group place.log ≡ Group l = ap (λ (x : Object). x.home) (let is : its ≡ o = cc in is) ∙ home in
    (len, ds, place, m, refl, (let log : place.log ≡ l = cc in log), kept)
lies_in f g p l o (Some (Far len ds m)) h home =
    let its : Object = record { owner = p / CELLS; ds = ds; bytes = bytes_of g len; home = FarSide } in
    let kept : m.dropped ≡ false = false_from_ne_true m.dropped (λ t. let odd : None ≡ Some o = sym (ap (λ b. cond b None (Some its)) t) ∙ h in cc) in
    let same : Some its ≡ Some o = sym (ap (λ b. cond b None (Some its)) kept) ∙ h in
    let odd : FarSide ≡ Group l = ap (λ (x : Object). x.home) (let is : its ≡ o = cc in is) ∙ home in
    absurd cc

module _ (s : State) (law : Law s) where
  -- a scope word is closed, or says an epoch
  scope_at : (m : ℕ) → (v : ScopeWord) → scope_of (s.scope m) ≡ Some v → (s.scope m ≡ 0) ⊎ ((e : ℕ) × (s.scope m ≡ 2 * e + 1) × (scope_of (s.scope m) ≡ Some (scoped.Open e)))
  scope_at m scoped.Closed is = inl (sym (scope_says (s.scope m) scoped.Closed is).1)
  scope_at m (scoped.Open e) is = inr (e, sym (scope_says (s.scope m) (scoped.Open e) is).1, is)

  scope_here : (m : ℕ) → (s.scope m ≡ 0) ⊎ ((e : ℕ) × (s.scope m ≡ 2 * e + 1) × (scope_of (s.scope m) ≡ Some (scoped.Open e)))
  scope_here m = let v = some_of (scope_of (s.scope m)) (law.scopes.scope_read m) in scope_at m v.0 v.1

  open_at : (m e : ℕ) → s.scope m ≡ 2 * e + 1 → scope_of (s.scope m) ≡ Some (scoped.Open e)
  open_at m e is = elim (scope_here m) [
    | inl none ↦ absurd (omega (arith, none, is))
    | inr other ↦ (let same : other.0 ≡ e = omega (arith, other.1, is) in subst (λ k. scope_of (s.scope m) ≡ Some (scoped.Open k)) same other.2)
  ]

  -- a view is of the object, at its place
  rests_in : (p l : ℕ) (o : Object) → (world_of s).viewed p ≡ true → (world_of s).object p ≡ Some o → o.home ≡ Group l → (place : Place) × (s.held p ≡ Some place) × (place.log ≡ l)
  unfolding world_of
  rests_in p l o viewed object home =
      let x = some_of (s.held p) viewed in
      let near = held_near _ x.0 (law.views.held_names p x.0 x.1) in
      let n = lies_in s.word (s.stored p) p l o (read_of (s.cell p)) object home in
      let both : Some (Near near.len near.ds x.0 near.marks) ≡ Some (Near n.0 n.1 n.2 n.3) = sym near.near ∙ n.4 in
      let same : x.0 ≡ n.2 = cc in
      (x.0, x.1, ap (λ (at : Place). at.log) same ∙ n.5)

  pub round_stands : RoundStands s
  unfolding world_of
  round_stands = record {
    shut = law.rounds.round_sealed;
    held = λ l h. ap is_group (law.rounds.round_sealed l h);
    marked = λ p l o object home h.
        let n = lies_in s.word (s.stored p) p l o (read_of (s.cell p)) object home in
        let evac : n.3.evac ≡ true = law.rounds.round_evac p n.0 n.1 n.2 n.3 n.4 (ap s.round n.5 ∙ h) in
        ap is_marked n.4 ∙ ap (λ b. not b && (n.3.evac || n.3.moved)) n.6 ∙ ap (λ b. b || n.3.moved) evac;
    seen = λ p l o viewed object home clear.
        let r = rests_in p l o viewed object home in
        sym (ap s.round r.2) ∙ law.clears.clear_unviewed p r.0 r.1 clear;
    late = λ p l e o viewed object home is le.
        let r = rests_in p l o viewed object home in
        sym (ap s.round r.2) ∙ law.clears.late_unviewed p e r.0 r.1 (open_at (p / CELLS) e is) (omega (arith, law.rounds.own_epoch, le));
    scopes = λ m. elim (scope_here m) [
      | inl none ↦ inl none
      | inr at ↦ inr (at.0, at.1, law.scopes.open_bound m at.0 at.2)
    ];
    remembers = law.scopes.remembered_bound;
  }
