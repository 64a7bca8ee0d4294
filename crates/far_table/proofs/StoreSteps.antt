-- A store is its event of the core.
use Rattle.std.proofs.Common.{◌≡◌, ◌+◌, ◌-◌, ◌*◌, ◌/◌, ◌%◌, ◌<◌, ◌^◌, ℕ, true, List, ◌∷◌, set, sym, refl, ap, ◌∙◌, subst, arith, Option, Some, None}
use Rattle.std.specs.Prelude.{slice_index, is_some, IsSome}
use mathlib.Core.Logic.{dite}
use mathlib.Core.Option.{some, none}
use mathlib.Core.Path.{fun_ext}
use native.Mathlib.Decide.{ℕ_discrete}
use lib.ListN.{get_elem?}
use Rattle.atomic_table.specs.Table.{Me, step, Allows}
use Rattle.far_word.specs.Bytes.{packed_word}
use Rattle.far_word.specs.declared.pointer.Place.{Place}
use Rattle.far_word.specs.declared.sizes.TheConstants.{CELLS}
use Rattle.far_word.specs.Sizes.{words_for}
use Rattle.far_events.specs.declared.event.Event.TheVariants.{Load, Store}
use Rattle.far_events.specs.declared.event.Reply.TheVariants.{Done}
use Rattle.far_events.specs.events.Legal.{Legal, HoldsWord}
use Rattle.far_events.specs.events.Step.{after, data_word}
use Rattle.far_events.specs.state.Law.{Law}
use Rattle.far_events.specs.state.State.{State, addr, put}
use Rattle.far_core.specs.world.World.{Object, World}
use Rattle.far_core.specs.world.WorldOf.{world_of}
use Rattle.far_events.proofs.Calls.{word_behind}
use Rattle.far_core.proofs.ObjectFacts.{object_agrees}
use Rattle.far_core.proofs.Owing.{does, keeps}
use Rattle.far_events.proofs.Put.{put_both, put_other, put_same}
use Rattle.far_table.specs.View.{BookView, ObjectView, OwnerView, View, Owner, OtherViews, with_owner}
use Rattle.far_table.specs.Layout.{LOGS_AT, table_words, data_at, epoch_in, scope_in, cell_in, job_in, word_in}
use Rattle.far_table.specs.Plays.{Stored}
use Rattle.far_table.specs.Rule.{Facts, Has, Running}
use Rattle.far_table.specs.Seats.{HasPlaces}
use Rattle.far_table.specs.StateOf.{state_of}
use Rattle.far_table.specs.Tells.{Tells, owner_of}
use Rattle.far_table.specs.Views.{held_at, len_of, object_at, stored_view, uses, with_word, word_of, soiled_at}
use Rattle.far_table.proofs.HeldFacts.{HeldFacts, held_facts, held_so, one_word, some_there}
use Rattle.far_table.proofs.Lift.{owner_makes}
use Rattle.far_table.proofs.Owners.{known_by, pointers_same, remembered_same}
use Rattle.far_table.proofs.OwnSteps.{OwnStep, has_on, state_is}
use Rattle.far_table.proofs.Words.{WordsAre, data_word_set}

with_word_used : (i v : ℕ) (x : Option ObjectView) → is_some (with_word i v x) ≡ is_some x
with_word_used i v None = refl
with_word_used i v (Some x) = refl

module _ (ws : List ℕ) (b : BookView) (os : OtherViews) (f : Facts ws b os) (o : OwnerView) (at : get_elem? os.owners o.number ≡ some o)
    (p i v : ℕ) (place : Place) (own : p / CELLS ≡ o.number) (held : held_at o p ≡ Some place) (inside : i < words_for (len_of (object_at o p))) (soiled : soiled_at o p ≡ true)
    (word : v < 2 ^ 64) (padded : v < 2 ^ (8 * (len_of (object_at o p) - 8 * i))) where
  abbrev s : State
  s = state_of ws b os

  abbrev m : ℕ
  m = o.number

  abbrev a : ℕ
  a = addr place + 1 + i

  rests : s.held p ≡ Some place
  rests = held_so ws b os f o at p own ∙ held

  x : HeldFacts s o p place
  x = held_facts ws b os f o at p place own held

  long : len_of (object_at o p) ≡ x.len
  long = ap len_of x.used ∙ x.long

  legal : Legal s (Store m p i v)
  legal = let here : HoldsWord s m p i x.len = (place, record { own = own; rests = rests; near = (x.ds, x.marks, x.near) }, subst (λ n. i < words_for n) long inside) in
      (x.len, here, subst (λ n. v < 2 ^ (8 * (n - 8 * i))) long padded, known_by os.owners o.number o o at soiled_at p own ∙ soiled)

  behind : data_word s p i ≡ a
  behind = word_behind s f.law p i place rests

  abbrev t : State
  t = after s (Store m p i v)

  law : Law t
  law = keeps s (Store m p i v) f.law word legal

  abbrev new : ObjectView
  new = record { len = x.view.len; ds = x.view.ds; words = (i, v) ∷ x.view.words }

  -- each word of the object is the one that was stored, or as it was
  word_after : (j : ℕ) → j < words_for x.len → (n : Object) → (world_of t).object p ≡ Some n → s.honest ≡ true → packed_word n.bytes j ≡ word_of new j
  word_after j lt n there is =
      let here : HoldsWord t m p j x.len = (place, record { own = own; rests = rests; near = (x.ds, x.marks, x.near) }, lt) in
      let r = (does t (Load m p j) law tt (x.len, here)).found in
      let same : Some r.0 ≡ Some n = sym r.1 ∙ there in
      let one : r.0 ≡ n = cc in
      let q = (does s (Load m p j) f.law tt (x.len, (place, record { own = own; rests = rests; near = (x.ds, x.marks, x.near) }, lt))).found in
      let same' : Some q.0 ≡ Some x.has.object = sym q.1 ∙ x.has.there in
      let one' : q.0 ≡ x.has.object = cc in
      let known : s.word (data_word s p j) ≡ word_of x.view j = q.3 ∙ (ap (λ (z : Object). packed_word z.bytes j) one' ∙ x.has.words is j (subst (λ k. j < words_for k) (sym x.long) lt)) in
      let at_j : data_word s p j ≡ addr place + 1 + j = word_behind s f.law p j place rests in
      ap (λ (z : Object). packed_word z.bytes j) (sym one) ∙ (sym r.3 ∙ dite (ℕ_discrete j i)
      (λ e. put_same s.word (data_word s p i) v (data_word s p j) (ap (data_word s p) e) ∙ sym (put_same (word_of x.view) i v j e))
      (λ ne. put_other s.word (data_word s p i) v (data_word s p j) (λ e. ne (omega (arith, e, at_j, behind))) ∙ (known ∙ sym (put_other (word_of x.view) i v j ne))))

  has_new : Has t p new
  has_new = let g = (object_agrees t p).near x.len x.ds place x.marks x.near x.kept in record {
    object = g.0;
    there = g.1;
    len = g.4 ∙ sym x.long;
    ds = g.3 ∙ sym x.kind;
    words = λ is j lt. word_after j (subst (λ k. j < words_for k) x.long lt) g.0 g.1 is;
  }

  abbrev w : OwnerView
  w = stored_view p i v o

  new_is : with_word i v (object_at o p) ≡ Some new
  new_is = ap (with_word i v) x.used

  pub store_step : OwnStep ws b os o (Store m p i v) Done (set ws (data_at a) v) w
  store_step =
      let ties = f.owners m o at in
      let fits = x.within in
      let low : i < words_for x.len = subst (λ n. i < words_for n) long inside in
      let words = data_word_set b.logs ws f.wide a v (omega arith) in record {
        legal = legal;
        says = refl;
        becomes = state_is (set ws (data_at a) v) b (with_owner os m w) (subst (λ k. WordsAre b.logs (set ws (data_at a) v) (epoch_in ws) (scope_in ws) (cell_in ws) (put (word_in ws) k v) (job_in ws)) (sym behind) words)
            (remembered_same os.owners m o w at refl)
            (pointers_same os.owners m o w at uses (fun_ext (λ q. put_both (λ (y : Option ObjectView). is_some y ≡ uses o q) (object_at o) p (with_word i v (object_at o p)) q
            (λ e. with_word_used i v (object_at o p) ∙ ap (uses o) (sym e)) (λ _. refl))))
            (pointers_same os.owners m o w at held_at refl) (pointers_same os.owners m o w at soiled_at refl);
        mine = record {
          number = ties.number;
          honest = ties.honest;
          logs = ties.logs;
          scope = ties.scope;
          objects = λ q y mine h. dite (ℕ_discrete q p)
              (λ e. let same : Some new ≡ Some y = sym new_is ∙ (sym (put_same (object_at o) p (with_word i v (object_at o p)) q e) ∙ h) in let one : new ≡ y = cc in
              subst (λ (z : ℕ × ObjectView). Has t z.0 z.1) (λ k. (sym e k, one k)) has_new)
              (λ ne. has_on s t q y (ap (λ (z : World). z.object q) (does s (Store m p i v) f.law word legal).changed.3 ∙ put_other (world_of s).object p _ q ne) refl
              (ties.objects q y mine (sym (put_other (object_at o) p (with_word i v (object_at o p)) q ne) ∙ h)));
          asks = ties.asks;
          drops = ties.drops;
          hots = ties.hots;
          soils = ties.soils;
          warm = ties.warm;
        };
      }

module _ {S : Type 0} (slots id : ℕ) (me : Me S View) (is : me.0 ≡ Owner (owner_of me.0)) where
  abbrev view : OwnerView
  view = owner_of me.0

  stores : (p i v : ℕ) (place : Place) → p / CELLS ≡ view.number → held_at view p ≡ Some place → i < words_for (len_of (object_at view p)) → soiled_at view p ≡ true → v < 2 ^ 64 →
      v < 2 ^ (8 * (len_of (object_at view p) - 8 * i)) →
      Allows Running slots id me (data_at (addr place + 1 + i)) (λ _. v) (λ _. Stored (step slots (data_at (addr place + 1 + i)) v 0 none) me v)
  stores p i v place own held inside soiled word padded = owner_makes slots id (data_at (addr place + 1 + i)) me is (Store view.number p i v) refl word (λ _. Done) (λ _. stored_view p i v view)
      (λ _. Stored (step slots (data_at (addr place + 1 + i)) v 0 none) me v) (λ _. v)
      (λ ws b os f at. store_step ws b os f view at p i v place own held inside soiled word padded)
      (λ ws b os f at t q j other own' held' inside' e.
      let same : addr place + 1 + i ≡ addr other + 1 + j = omega arith in
      let one = one_word ws b os f view at p i place q j other (held_facts ws b os f view at p place own held) (held_facts ws b os f view at q other own' held') inside inside' same in
      subst (λ (z : ℕ × ℕ). Tells me.0 (Owner (stored_view p i v view)) (Store view.number z.0 z.1 v) Done (stored_view z.0 z.1 v view)) (λ k. (one.0 k, one.1 k)) t)

  -- the word that an address leads to which the one in a seat's list makes
  module _ (places : List ℕ) (has : HasPlaces view places) (p i v : ℕ) (held : IsSome (held_at view p)) (inside : i < words_for (len_of (object_at view p))) (soiled : soiled_at view p ≡ true)
      (word : v < 2 ^ 64) (padded : v < 2 ^ (8 * (len_of (object_at view p) - 8 * i))) (a : ℕ) (read : a ≡ slice_index places (p % CELLS) + i) where
    abbrev there : (place : Place) × (held_at view p ≡ Some place)
    there = some_there (held_at view p) held

    led : data_at (addr there.0 + 1 + i) ≡ a + LOGS_AT
    led = let here = (has p there.0 there.1).here in omega (arith, read)

    pub stores_at : (a + LOGS_AT < table_words view.logs) × Allows Running slots id me (a + LOGS_AT) (λ _. v) (λ _. Stored (step slots (a + LOGS_AT) v 0 none) me v)
    stores_at = let fits = (has p there.0 there.1).inside in let at = led in (
      omega arith,
      subst (λ z. Allows Running slots id me z (λ _. v) (λ _. Stored (step slots z v 0 none) me v)) led (stores p i v there.0 (has p there.0 there.1).own there.1 inside soiled word padded),
    )

    pub store_told : (me' : Me S View) → Stored (step slots (a + LOGS_AT) v 0 none) me v me' → Tells me.0 me'.0 (Store view.number p i v) Done (stored_view p i v view)
    store_told me' h = h p i there.0 (has p there.0 there.1).own there.1 inside (sym led)
