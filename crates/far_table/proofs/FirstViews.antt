-- What the views at the start say.
use Rattle.std.proofs.Common.{◌≡◌, ◌≢◌, ◌+◌, ◌*◌, ◌/◌, ◌%◌, ◌<◌, ◌≤◌, ℕ, zero, suc, Bool, true, false, cond, List, length, sym, refl, ap, ◌∙◌, subst, arith, inl, inr, Option, Some, None}
use Rattle.std.specs.Prelude.{IsSome, is_some, not, slice_index}
use Rattle.std.proofs.lemmas.Bool.{cases_lt, false≢true}
use Rattle.std.proofs.lemmas.List.{get_or_past}
use Rattle.std.proofs.lemmas.List.FromFn.{get_or-map-range_with_len, length-map-range_with_len}
use mathlib.Core.Logic.{dite}
use mathlib.Core.Option.{some}
use mathlib.Core.Path.{fun_ext}
use native.Mathlib.Decide.{ℕ_discrete}
use lib.ListN.{get_elem?}
use Rattle.far_word.specs.Bytes.{bytes_of, packed_word}
use Rattle.far_word.specs.declared.pointer.Place.{Place}
use Rattle.far_word.specs.declared.pointer.PtrWord.{PtrWord}
use Rattle.far_word.specs.declared.pointer.PtrWord.TheVariants.{Free, Near, Far}
use Rattle.far_word.specs.declared.scope.ScopeWord.{ScopeWord}
use Rattle.far_word.specs.declared.scope.ScopeWord.TheVariants as scoped
use Rattle.far_word.specs.declared.sizes.TheConstants.{CELLS, LOG_WORDS, MOST_COPIERS, MOST_LOGS}
use Rattle.far_word.specs.Pointer.{read_of}
use Rattle.far_word.specs.Scope.{scope_of}
use Rattle.far_word.specs.Sizes.{words_for}
use Rattle.far_word.proofs.PointerLaws.{read_says}
use Rattle.far_word.proofs.ScopeLaws.{scope_says}
use Rattle.far_events.specs.events.Open.{scope_word_of}
use Rattle.far_events.specs.state.Law.{Law, in_use}
use Rattle.far_events.specs.state.State.{State, addr}
use Rattle.far_core.specs.world.World.{FarSide, Group, Object}
use Rattle.far_core.specs.world.WorldOf.{object_of, world_of}
use Rattle.far_events.proofs.Bounds.{near_inside}
use Rattle.far_events.proofs.Cells.{held_near}
use Rattle.far_core.proofs.ObjectFacts.{object_agrees}
use Rattle.far_events.proofs.Put.{put_both}
use Rattle.far_table.specs.View.{CopierView, ObjectView, OwnerView, idle}
use Rattle.far_table.specs.First.{first_copier, first_copiers, first_owner, first_owners, open_epoch, rows_from, seen, seen_object}
use Rattle.far_table.specs.Rows.{over}
use Rattle.far_table.specs.Rule.{Has}
use Rattle.far_table.specs.Seats.{HasPlaces, Remembers}
use Rattle.far_table.specs.CopierViews.{copier_at}
use Rattle.far_table.specs.Views.{asked_at, dropped_at, drops, heated_at, held_at, hots, len_of, moves, nobody, object_at, owner_at, soiled_at, uses}
use Rattle.far_table.proofs.Places.{below, get_is}

-- ---- rows for so many numbers from one on
module _ {X : Type 0} (f g : ℕ → X) where
  -- among these numbers stands what the rows are of
  pub over_within : (n low q : ℕ) → low ≤ q → q < low + n → over (rows_from low n f) g q ≡ f q
  unfolding rows_from
  over_within zero low q ge lt = absurd (omega arith)
  over_within (suc n) low q ge lt = put_both (λ v. v ≡ f q) (over (rows_from (low + 1) n f) g) low (f low) q
      (λ e. ap f (sym e)) (λ ne. over_within n (low + 1) q (omega arith) (omega arith))

  -- at others what stands there without rows
  pub over_beside : (n low q : ℕ) → (low ≤ q → q < low + n → ⊥) → over (rows_from low n f) g q ≡ g q
  unfolding rows_from
  over_beside zero low q apart = refl
  over_beside (suc n) low q apart = put_both (λ v. v ≡ g q) (over (rows_from (low + 1) n f) g) low (f low) q
      (λ e. absurd (apart (omega arith) (omega arith))) (λ ne. over_beside n (low + 1) q (λ a b. apart (omega arith) (omega arith)))

  -- rows for all numbers below n make the function, if past n it is what stands there without them
  pub over_all : (n : ℕ) → ((q : ℕ) → n ≤ q → f q ≡ g q) → over (rows_from 0 n f) g ≡ f
  over_all n past = fun_ext (λ q. elim (cases_lt q n) [ inl lt ↦ over_within n 0 q (omega arith) (omega arith) | inr le ↦ over_beside n 0 q (λ a b. omega arith) ∙ sym (past q le) ])

-- ---- an owner's scope word
open_back : (w : ℕ) (x : Option ScopeWord) → scope_of w ≡ x → IsSome x → scope_word_of (open_epoch x) ≡ w
open_back w None e there = absurd (false≢true there)
open_back w (Some scoped.Closed) e there = (scope_says w scoped.Closed e).1
open_back w (Some (scoped.Open epoch)) e there = (scope_says w (scoped.Open epoch) e).1

-- ---- an owner's objects
seen_if : (d : Bool) (object : Object) → not d ≡ true → is_some (seen_object (cond d None (Some object))) ≡ true
seen_if true object h = h
seen_if false object h = refl

seen_in_use : (word stored : ℕ → ℕ) (p : ℕ) (x : Option PtrWord) → in_use x ≡ true → is_some (seen_object (object_of word stored p x)) ≡ true
seen_in_use word stored p None h = h
seen_in_use word stored p (Some Free) h = h
seen_in_use word stored p (Some (Near len ds place m)) h =
    let object : Object = record { owner = p / CELLS; ds = ds; bytes = bytes_of (λ i. word (addr place + 1 + i)) len; home = Group place.log } in seen_if m.dropped object h
seen_in_use word stored p (Some (Far len ds m)) h = let object : Object = record { owner = p / CELLS; ds = ds; bytes = bytes_of stored len; home = FarSide } in seen_if m.dropped object h

used_seen : (s : State) → Law s → (p : ℕ) → s.used p ≡ true → is_some (seen_object ((world_of s).object p)) ≡ true
unfolding world_of
used_seen s law p used = seen_in_use s.word (s.stored p) p (read_of (s.cell p)) (law.views.used_cell p used)

is_some-where : (t : Bool) (x : Option ObjectView) → (t ≡ true → is_some x ≡ true) → is_some (cond t x None) ≡ t
is_some-where true x h = h refl
is_some-where false x h = refl

seen_from : (t : Bool) (o : Option Object) (x : ObjectView) → cond t (seen_object o) None ≡ Some x → (object : Object) × (o ≡ Some object) × (seen object ≡ x)
seen_from false o x e = let odd : None ≡ Some x = e in absurd (cc)
seen_from true None x e = let odd : None ≡ Some x = e in absurd (cc)
seen_from true (Some object) x e = let same : Some (seen object) ≡ Some x = e in (object, refl, cc)

-- the honesty is no part of the objects
same_objects : (s : State) (honest : Bool) → (world_of (record s { honest = honest })).object ≡ (world_of s).object
unfolding world_of
same_objects s honest = refl

has_seen : (s : State) (p : ℕ) (object : Object) → (world_of s).object p ≡ Some object → Has s p (seen object)
has_seen s p object there = record {
  object = object;
  there = there;
  len = refl;
  ds = refl;
  words = λ is i lt. sym (over_within (packed_word object.bytes) (λ _. 0) (words_for (length object.bytes)) 0 i (omega arith) (omega arith));
}

module _ (s : State) (honest : Bool) (m : ℕ) where
  abbrev o : OwnerView
  o = first_owner s honest m

  abbrev s' : State
  s' = record s { honest = honest }

  pub first_scope : Law s → scope_word_of o.open_at ≡ s.scope m
  first_scope law = open_back (s.scope m) (scope_of (s.scope m)) refl (law.scopes.scope_read m)

  -- the seat of the owner keeps the epoch that it remembers
  pub first_remembers : Law s → (n : ℕ) → ((e : ℕ) → s.remembered m ≡ Some e → e ≡ n) → Remembers o.epoch n
  first_remembers law n kept e is = let same = kept e is in let low = law.scopes.remembered_bound m e is in let end = law.scopes.epoch_below in (same, omega arith)

  -- ---- of its own pointers it says what the core says
  module _ (p : ℕ) (own : p / CELLS ≡ m) where
    pub first_held : held_at o p ≡ s.held p
    first_held = over_within s.held (λ _. None) CELLS (CELLS * m) p (omega arith) (omega arith)

    pub first_soiled : soiled_at o p ≡ s.soiled p
    first_soiled = over_within s.soiled (λ _. false) CELLS (CELLS * m) p (omega arith) (omega arith)

    pub first_asked : asked_at o p ≡ moves (s.cell p)
    first_asked = over_within (λ q. moves (s.cell q)) (λ _. 0) CELLS (CELLS * m) p (omega arith) (omega arith)

    pub first_dropped : dropped_at o p ≡ drops (s.cell p)
    first_dropped = over_within (λ q. drops (s.cell q)) (λ _. 0) CELLS (CELLS * m) p (omega arith) (omega arith)

    pub first_heated : heated_at o p ≡ hots (s.cell p)
    first_heated = over_within (λ q. hots (s.cell q)) (λ _. 0) CELLS (CELLS * m) p (omega arith) (omega arith)

    pub first_object : object_at o p ≡ cond (s.used p) (seen_object ((world_of s).object p)) None
    first_object = over_within (λ q. cond (s.used q) (seen_object ((world_of s).object q)) None) (λ _. None) CELLS (CELLS * m) p (omega arith) (omega arith)

    pub first_uses : Law s → uses o p ≡ s.used p
    first_uses law = ap is_some first_object ∙ is_some-where (s.used p) (seen_object ((world_of s).object p)) (used_seen s law p)

    pub first_has : (x : ObjectView) → object_at o p ≡ Some x → Has s' p x
    first_has x e = let t = seen_from (s.used p) ((world_of s).object p) x (sym first_object ∙ e) in
        subst (Has s' p) t.2 (has_seen s' p t.0 (ap (λ f. f p) (same_objects s honest) ∙ t.1))

  -- ---- of others nothing
  module _ (p : ℕ) (other : p / CELLS ≢ m) where
    pub first_held_none : held_at o p ≡ None
    first_held_none = over_beside s.held (λ _. None) CELLS (CELLS * m) p (λ a b. other (omega arith))

    pub first_object_none : object_at o p ≡ None
    first_object_none = over_beside (λ q. cond (s.used q) (seen_object ((world_of s).object q)) None) (λ _. None) CELLS (CELLS * m) p (λ a b. other (omega arith))

  -- what it holds is its own, and lies within the logs, and within those of the heap
  pub first_fits : Law s → (p : ℕ) (place : Place) → p / CELLS ≡ m → s.held p ≡ Some place →
      (addr place + 1 + words_for (len_of (object_at o p)) ≤ MOST_LOGS * LOG_WORDS) × (addr place + 1 + words_for (len_of (object_at o p)) ≤ s.logs * LOG_WORDS)
  first_fits law p place own held =
      let x = held_near (read_of (s.cell p)) place (law.views.held_names p place held) in
      let a = (object_agrees s p).near x.len x.ds place x.marks x.near x.kept in
      let used : s.used p ≡ true = law.views.held_used p (ap is_some held) in
      let long : len_of (object_at o p) ≡ x.len = ap len_of (first_object p own)
      ∙ (ap (λ t. len_of (cond t (seen_object ((world_of s).object p)) None)) used ∙ (ap (λ z. len_of (seen_object z)) a.1 ∙ a.4)) in
      let says = read_says (s.cell p) (Near x.len x.ds place x.marks) (law.cells.cell_read p).0 x.near in
      let inside = (near_inside s law p x.len x.ds place x.marks x.near).1 in
      (omega (arith, says.0), omega (arith, inside))

  pub first_own : (p : ℕ) (place : Place) → held_at o p ≡ Some place → p / CELLS ≡ m
  first_own p place held = dite (ℕ_discrete (p / CELLS) m) (λ e. e) (λ ne. let odd : None ≡ Some place = sym (first_held_none p ne) ∙ held in absurd (cc))

  -- the seat's list has the address of each object that is held
  pub first_places : Law s → (places : List ℕ) →
      ((p : ℕ) (place : Place) → p / CELLS ≡ m → s.held p ≡ Some place → slice_index places (p % CELLS) ≡ addr place + 1) → HasPlaces o places
  first_places law places has p place held =
      let own : p / CELLS ≡ m = first_own p place held in
      let rests : s.held p ≡ Some place = sym (first_held p own) ∙ held in
      let fits = first_fits law p place own rests in
      record { own = own; here = has p place own rests; fits = fits.0; inside = fits.1 }

-- ---- all owners
module _ (s : State) (honest : Bool) where
  abbrev os : List OwnerView
  os = first_owners s honest

  pub many_owners : length os ≡ s.mutators
  many_owners = length-map-range_with_len (first_owner s honest) 0 s.mutators

  pub owner_here : (m : ℕ) → m < s.mutators → owner_at os m ≡ first_owner s honest m
  owner_here m lt = get_or-map-range_with_len (first_owner s honest) 0 s.mutators m m nobody lt (omega arith)

  pub owner_past : (m : ℕ) → s.mutators ≤ m → owner_at os m ≡ nobody
  owner_past m le = get_or_past os m nobody (omega (arith, many_owners))

  pub owner_stands : (m : ℕ) (y : OwnerView) → get_elem? os m ≡ some y → (m < s.mutators) × (first_owner s honest m ≡ y)
  owner_stands m y at = let low : m < s.mutators = omega (arith, below os m y at, many_owners) in (low, sym (owner_here m low) ∙ get_is os m y nobody at)

  -- what owners know of pointers, each of its own
  pub pointers_first : {X : Type 0} (g : OwnerView → ℕ → X) (F : ℕ → X) → ((m p : ℕ) → p / CELLS ≡ m → g (first_owner s honest m) p ≡ F p) →
      ((p : ℕ) → CELLS * s.mutators ≤ p → F p ≡ g nobody p) → (λ p. g (owner_at os (p / CELLS)) p) ≡ F
  pointers_first g F own past = fun_ext (λ p. elim (cases_lt (p / CELLS) s.mutators) [
    | inl lt ↦ ap (λ y. g y p) (owner_here (p / CELLS) lt) ∙ own (p / CELLS) p refl
    | inr le ↦ ap (λ y. g y p) (owner_past (p / CELLS) le) ∙ sym (past p (omega arith))
  ])

-- ---- all copiers
module _ (s : State) where
  abbrev cs : List CopierView
  cs = first_copiers s

  pub eight_copiers : length cs ≡ MOST_COPIERS
  eight_copiers = length-map-range_with_len (first_copier s) 0 MOST_COPIERS

  copier_here : (c : ℕ) → c < MOST_COPIERS → copier_at cs c ≡ first_copier s c
  copier_here c lt = get_or-map-range_with_len (first_copier s) 0 MOST_COPIERS c c (idle 0) lt (omega arith)

  pub copier_stands : (c : ℕ) (v : CopierView) → get_elem? cs c ≡ some v → (c < MOST_COPIERS) × (first_copier s c ≡ v)
  copier_stands c v at = let low : c < MOST_COPIERS = omega (arith, below cs c v at, eight_copiers) in (low, sym (copier_here c low) ∙ get_is cs c v (idle 0) at)

  -- what copiers know, where past the last there is nothing
  pub copiers_first : {X : Type 0} (g : CopierView → X) (F : ℕ → X) → ((c : ℕ) → g (first_copier s c) ≡ F c) → ((c : ℕ) → MOST_COPIERS ≤ c → F c ≡ g (idle 0)) → (λ c. g (copier_at cs c)) ≡ F
  copiers_first g F own past = fun_ext (λ c. elim (cases_lt c MOST_COPIERS) [
    | inl lt ↦ ap g (copier_here c lt) ∙ own c
    | inr le ↦ ap g (get_or_past cs c (idle 0) (omega (arith, eight_copiers))) ∙ sym (past c le)
  ])
