-- What the structs of seats keep at the start.
use Rattle.std.proofs.Common.{◌≡◌, ◌≢◌, ℕ, ◌+◌, ◌*◌, ◌/◌, ◌%◌, ◌<◌, ◌≤◌, Bool, true, Option, Some, None, List, [], map, length, sym, refl, ap, ◌∙◌, subst, arith}
use Rattle.std.specs.Prelude.{IfSome, slice_index}
use mathlib.Core.Option.{some}
use Rattle.std.specs.List.{range_with_len}
use Rattle.std.proofs.lemmas.List.FromFn.{get_or-map-range_with_len, length-map-range_with_len}
use Rattle.atomic_table.specs.Seated.{TableId}
use Rattle.far_word.specs.declared.pointer.Place.{Place}
use Rattle.far_word.specs.declared.sizes.TheConstants.{CELLS, LOG_WORDS, MOST_COPIERS, MOST_LOGS}
use Rattle.far_events.specs.state.Law.{Law}
use Rattle.far_events.specs.state.State.{State, addr}
use Rattle.far_table.specs.View.{BookView, OwnerView, View, Book, Owner}
use Rattle.far_events.specs.state.Ends.{HasNothingPast}
use Rattle.far_table.specs.First.{first_book, first_copier, first_copiers, first_others, first_owner, first_owners, waiting}
use Rattle.far_table.specs.Layout.{table_words}
use Rattle.far_table.specs.Rule.{Facts}
use Rattle.far_table.specs.Seats.{HasPlaces, Remembers, data_begin}
use Rattle.far_table.specs.Stands.{BookOk, IsPlain, SaysOwner, Stands, Starts, book_of}
use Rattle.far_table.specs.StateOf.{state_of}
use Rattle.far_table.specs.Tells.{CopierStands, HasState, owner_of}
use Rattle.far_table.proofs.FirstViews.{copier_stands, eight_copiers, first_fits, first_has, first_held, first_held_none, first_object_none, first_places, first_remembers, first_scope, first_soiled, first_uses, many_owners, owner_stands}
use Rattle.far_table.proofs.Begins.{copier_says, first_book_state, first_facts, first_state, other_rest}
use Rattle.far_table.proofs.Places.{one_there}
use Rattle.far_table.proofs.SeatLemmas.{SeatOk}
use Rattle.far_table.proofs.Tables.{is_table, table}

-- where the data words begin of each object that an owner of a state holds
abbrev pub places_at : State → ℕ → ℕ → ℕ
places_at s m k = data_begin (s.held (CELLS * m + k))

module _ (s : State) (law : Law s) where
  -- a held object lies within the logs
  pub held_fits : (p : ℕ) (x : Option Place) → x ≡ s.held p → IfSome x (λ place. addr place + 1 ≤ MOST_LOGS * LOG_WORDS)
  held_fits p None e = tt
  held_fits p (Some place) e = let f = (first_fits s s.honest (p / CELLS) law p place refl (sym e)).0 in omega arith

  module _ (honest : Bool) (m : ℕ) (small : m < s.mutators) where
    places_here : (places : List ℕ) → places ≡ map (places_at s m) (range_with_len 0 CELLS) → (p : ℕ) (place : Place) → p / CELLS ≡ m → s.held p ≡ Some place →
        slice_index places (p % CELLS) ≡ addr place + 1
    places_here places is p place own held =
        let here : CELLS * m + p % CELLS ≡ p = omega arith in
        ap (λ l. slice_index l (p % CELLS)) is ∙ (get_or-map-range_with_len (places_at s m) 0 CELLS (p % CELLS) (p % CELLS) 0 (omega arith) (omega arith) ∙ (ap (λ q. data_begin (s.held q)) here ∙ ap data_begin held))

    -- the invariant of an owner's seat
    pub owner_starts : (id here : TableId) (v : View) (epoch : ℕ) (places : List ℕ) → id ≡ here → id.words ≡ table_words s.logs → v ≡ Owner (first_owner s honest m) →
        ((e : ℕ) → s.remembered m ≡ Some e → e ≡ epoch) → places ≡ map (places_at s m) (range_with_len 0 CELLS) → HasState (owner_of v) → SeatOk id here v m epoch places
    owner_starts id here v epoch places same wide is read places_are there =
        let few = law.shape.few_mutators in
        let view : owner_of v ≡ first_owner s honest m = ap owner_of is in (
          same,
          wide ∙ ap (λ (o : OwnerView). table_words o.logs) (sym view),
          is ∙ ap Owner (sym view),
          ap (λ (o : OwnerView). o.number) view,
          omega arith,
          subst (λ (o : OwnerView). Remembers o.epoch epoch) (sym view) (first_remembers s honest m law epoch read),
          ap (λ (l : List ℕ). length l) places_are ∙ length-map-range_with_len (places_at s m) 0 CELLS,
          subst (λ o. HasPlaces o places) (sym view) (first_places s honest m law places (places_here places places_are)),
          there,
        )

-- what the struct of the book's seat keeps
pub book_starts : (s : State) → Law s → (honest : Bool) (id here : TableId) (v : View) → id ≡ here → id.words ≡ table_words s.logs → v ≡ Book (book_of v) → book_of v ≡ waiting s honest s.mutators 0 →
    BookOk id here v s.logs s.mutators s.epoch
book_starts s law honest id here v same wide is view = record {
  same = same;
  wide = wide;
  is_book = is;
  logs_are = ap (λ (b : BookView). b.logs) view;
  mutators_are = ap (λ (b : BookView). b.mutators) view;
  epoch_is = ap (λ (b : BookView). b.epoch) view;
  two_logs = law.shape.two_logs;
  few_logs = law.shape.few_logs;
  some_mutators = law.shape.some_mutators;
  few_mutators = law.shape.few_mutators;
  epoch_below = law.scopes.epoch_below;
  dealt = ap (λ (b : BookView). b.rest) view;
  plain = subst IsPlain (sym view) (λ a _. refl);
}

-- each owner's view is what the state says of it
owner_says : (s : State) → Law s → (honest : Bool) (m : ℕ) → SaysOwner s honest m (first_owner s honest m)
owner_says s law honest m = record {
  number = refl;
  honesty = refl;
  epoch = refl;
  scope = first_scope s honest m law;
  used = λ p own. first_uses s honest m p own law;
  held = λ p own. first_held s honest m p own;
  soiled = λ p own. first_soiled s honest m p own;
  objects = λ p x own h. first_has s honest m p own x h;
  others = λ p other. (first_object_none s honest m p other, first_held_none s honest m p other);
}

-- ---- the rule at the start, once each owner has its seat
module _ (s : State) (honest : Bool) (law : Law s) (past : HasNothingPast s) (copiers : s.copying.has_copiers ≡ true) (same : (p : ℕ) → s.cell p ≢ 0 → honest ≡ s.honest) where
  facts_start : Facts (table s) (waiting s honest s.mutators 0) (first_others s honest)
  facts_start = other_rest (table s) (first_book s honest) (first_others s honest) [] (first_facts s honest law past copiers same (table s) (is_table s))

  pub rule_starts : Starts s honest (waiting s honest s.mutators 0)
  rule_starts = record {
    words = table s;
    facts = facts_start;
    state = first_state s honest law past copiers (table s) (is_table s);
    book = first_book_state s honest law past copiers;
    owners = λ m. owner_says s law honest m;
    copiers = λ c _. copier_says s honest law past copiers c;
  }

  pub rule_stands : (b : BookView) → b ≡ waiting s honest s.mutators 0 → ∥ Stands b ∥₁
  rule_stands b is = subst (λ z. ∥ Stands z ∥₁) (sym is) ∣ record { words = table s; others = first_others s honest; facts = facts_start } ∣₁

  -- beside each owner's first view there is a state
  pub first_there : (m : ℕ) → m < s.mutators → HasState (first_owner s honest m)
  first_there m low =
      let many = many_owners s honest in
      let one = one_there (first_owners s honest) m (omega arith) in
      let same : one.0 ≡ first_owner s honest m = sym (owner_stands s honest m one.0 one.1).1 in
      ∣ (
        state_of (table s) (waiting s honest s.mutators 0) (first_others s honest),
        record {
          words = table s;
          book = waiting s honest s.mutators 0;
          others = first_others s honest;
          facts = facts_start;
          stands = one.1 ∙ ap some same;
          is = refl;
        },
      ) ∣₁

  -- and beside each copier's
  pub first_copier_there : (c : ℕ) → c < MOST_COPIERS → CopierStands (first_copier s c)
  first_copier_there c low =
      let eight = eight_copiers s in
      let one = one_there (first_copiers s) c (omega arith) in
      let same : one.0 ≡ first_copier s c = sym (copier_stands s c one.0 one.1).1 in
      ∣ (
        state_of (table s) (waiting s honest s.mutators 0) (first_others s honest),
        record {
          words = table s;
          book = waiting s honest s.mutators 0;
          others = first_others s honest;
          facts = facts_start;
          stands = one.1 ∙ ap some same;
          is = refl;
        },
      ) ∣₁
