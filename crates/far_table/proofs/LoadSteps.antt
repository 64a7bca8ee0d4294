-- A load is its event of the core.
use Rattle.std.proofs.Common.{◌≡◌, ◌+◌, ◌/◌, ◌%◌, ◌<◌, ℕ, true, List, sym, refl, ap, ◌∙◌, subst, arith, Some}
use Rattle.std.specs.Prelude.{slice_index, IsSome}
use mathlib.Core.Option.{some, none}
use lib.ListN.{get_elem?}
use Rattle.atomic_table.specs.Table.{Me, step, Allows}
use Rattle.atomic_table.proofs.Lists.{set_again}
use Rattle.far_word.specs.Bytes.{packed_word}
use Rattle.far_word.specs.declared.pointer.Place.{Place}
use Rattle.far_word.specs.declared.sizes.TheConstants.{CELLS}
use Rattle.far_word.specs.Sizes.{words_for}
use Rattle.far_events.specs.declared.event.Event.TheVariants.{Load}
use Rattle.far_events.specs.declared.event.Reply.TheVariants.{Word}
use Rattle.far_events.specs.events.Legal.{Legal, HoldsWord}
use Rattle.far_events.specs.events.Step.{data_word}
use Rattle.far_events.specs.state.State.{State, addr}
use Rattle.far_core.specs.world.World.{Object}
use Rattle.far_events.proofs.Calls.{word_behind}
use Rattle.far_core.proofs.Owing.{does}
use Rattle.far_table.specs.View.{BookView, OwnerView, View, Owner, OtherViews, with_owner}
use Rattle.far_table.specs.Layout.{LOGS_AT, table_words, data_at, word_in}
use Rattle.far_table.specs.Plays.{Loaded}
use Rattle.far_table.specs.Rule.{Facts, Running}
use Rattle.far_table.specs.Seats.{HasPlaces}
use Rattle.far_table.specs.StateOf.{state_of}
use Rattle.far_table.specs.Tells.{Tells, owner_of}
use Rattle.far_table.specs.Views.{held_at, len_of, object_at, word_in_view}
use Rattle.far_table.proofs.HeldFacts.{HeldFacts, held_facts, held_so, one_word, some_there}
use Rattle.far_table.proofs.Lift.{owner_reads}
use Rattle.far_table.proofs.OwnSteps.{OwnStep, reads}

module _ (ws : List ℕ) (b : BookView) (os : OtherViews) (f : Facts ws b os) (o : OwnerView) (at : get_elem? os.owners o.number ≡ some o)
    (p i : ℕ) (place : Place) (own : p / CELLS ≡ o.number) (held : held_at o p ≡ Some place) (inside : i < words_for (len_of (object_at o p))) where
  abbrev s : State
  s = state_of ws b os

  rests : s.held p ≡ Some place
  rests = held_so ws b os f o at p own ∙ held

  x : HeldFacts s o p place
  x = held_facts ws b os f o at p place own held

  within : (i < words_for x.len) × (i < words_for x.view.len)
  within = let view : words_for (len_of (object_at o p)) ≡ words_for x.view.len = ap (λ z. words_for (len_of z)) x.used in
      let long : words_for x.view.len ≡ words_for x.len = ap words_for x.long in
      (omega arith, omega arith)

  legal : Legal s (Load o.number p i)
  legal = let word : HoldsWord s o.number p i x.len = (place, record { own = own; rests = rests; near = (x.ds, x.marks, x.near) }, within.0) in (x.len, word)

  behind : data_word s p i ≡ addr place + 1 + i
  behind = word_behind s f.law p i place rests

  load_step : OwnStep ws b os o (Load o.number p i) (Word (word_in ws (addr place + 1 + i))) ws o
  load_step = record {
    legal = legal;
    says = ap (λ a. Word (word_in ws a)) (sym behind);
    becomes = reads f s b (with_owner os o.number o) (ap (λ (l : List OwnerView). state_of ws b (record os { owners = l })) (sym (set_again os.owners o.number o at))) refl;
    mine = f.owners o.number o at;
  }

  load_word : o.honest ≡ true → word_in ws (addr place + 1 + i) ≡ word_in_view (object_at o p) i
  load_word is =
      let r = (does s (Load o.number p i) f.law tt legal).found in
      let same : Some r.0 ≡ Some x.has.object = sym r.1 ∙ x.has.there in
      let one : r.0 ≡ x.has.object = cc in
      let view : word_in_view (Some x.view) i ≡ word_in_view (object_at o p) i = ap (λ z. word_in_view z i) (sym x.used) in
      ap (word_in ws) (sym behind) ∙ (r.3 ∙ (ap (λ (z : Object). packed_word z.bytes i) one ∙ (x.has.words (sym (f.owners o.number o at).honest ∙ is) i within.1 ∙ view)))

module _ {S : Type 0} (slots id : ℕ) (me : Me S View) (is : me.0 ≡ Owner (owner_of me.0)) where
  abbrev view : OwnerView
  view = owner_of me.0

  loads : (p i : ℕ) (place : Place) → p / CELLS ≡ view.number → held_at view p ≡ Some place → i < words_for (len_of (object_at view p)) →
      Allows Running slots id me (data_at (addr place + 1 + i)) (λ n. n) (Loaded (step slots (data_at (addr place + 1 + i)) 0 0 none) me)
  loads p i place own held inside = owner_reads slots id (data_at (addr place + 1 + i)) me is (Load view.number p i) refl tt Word (λ _. view)
      (Loaded (step slots (data_at (addr place + 1 + i)) 0 0 none) me)
      (λ ws b os f at. load_step ws b os f view at p i place own held inside)
      (λ ws b os f at t q j other own' held' inside' e.
      let same : addr place + 1 + i ≡ addr other + 1 + j = omega arith in
      let one = one_word ws b os f view at p i place q j other (held_facts ws b os f view at p place own held) (held_facts ws b os f view at q other own' held') inside inside' same in (
        λ honest. ap (slice_index ws) e ∙ load_word ws b os f view at q j other own' held' inside' honest,
        subst (λ (z : ℕ × ℕ). Tells me.0 (Owner view) (Load view.number z.0 z.1) (Word (slice_index ws (data_at (addr place + 1 + i)))) view) (λ k. (one.0 k, one.1 k)) t,
      ))

  -- the word that an address leads to which the one in a seat's list makes
  module _ (places : List ℕ) (has : HasPlaces view places) (p i : ℕ) (held : IsSome (held_at view p)) (inside : i < words_for (len_of (object_at view p)))
      (a : ℕ) (read : a ≡ slice_index places (p % CELLS) + i) where
    abbrev there : (place : Place) × (held_at view p ≡ Some place)
    there = some_there (held_at view p) held

    led : data_at (addr there.0 + 1 + i) ≡ a + LOGS_AT
    led = let here = (has p there.0 there.1).here in omega (arith, read)

    pub loads_at : (a + LOGS_AT < table_words view.logs) × Allows Running slots id me (a + LOGS_AT) (λ n. n) (Loaded (step slots (a + LOGS_AT) 0 0 none) me)
    loads_at = let fits = (has p there.0 there.1).inside in let word = led in (
      omega arith,
      subst (λ z. Allows Running slots id me z (λ n. n) (Loaded (step slots z 0 0 none) me)) led (loads p i there.0 (has p there.0 there.1).own there.1 inside),
    )

    pub load_told : (found : ℕ) (me' : Me S View) → Loaded (step slots (a + LOGS_AT) 0 0 none) me found me' →
        (view.honest ≡ true → found ≡ word_in_view (object_at view p) i) × Tells me.0 me'.0 (Load view.number p i) (Word found) view
    load_told found me' h = h p i there.0 (has p there.0 there.1).own there.1 inside (sym led)
