-- The events of each command succeed, and keep the law and what holds between commands.
use Rattle.std.proofs.Common.{◌≡◌, ◌≢◌, ℕ, ◌+◌, ◌-◌, ◌*◌, ◌/◌, ◌%◌, ◌^◌, ◌<◌, ◌≤◌, ◌⊎◌, Bool, true, false, cond, not, nat_eq, refl, sym, ap, subst, ◌∙◌, arith, Option, Some, None, List, [], ◌∷◌, ◌++◌, length, get_or, is_some, if◌then◌else◌, inl, inr}
use Rattle.std.proofs.lemmas.Bool.{and_parts}
use Rattle.std.proofs.lemmas.Bool.Decides.{nat_tests}
use Rattle.far_word.specs.declared.mark.Marks.{Marks}
use Rattle.far_word.specs.declared.pointer.Place.{Place}
use Rattle.far_word.specs.declared.pointer.PtrWord.TheVariants.{Near}
use Rattle.far_word.specs.declared.sizes.TheConstants.{CELLS, LOG_WORDS, LONGEST}
use Rattle.far_word.specs.Bytes.{packed_word}
use Rattle.far_word.specs.Header.{head_word}
use Rattle.far_word.specs.Pointer.{IsPtr, read_of}
use Rattle.far_word.specs.Sizes.{size_of, words_for}
use Rattle.far_word.proofs.ByteLaws.{bytes_of-small, length-bytes_of}
use Rattle.far_word.proofs.HeaderLaws.{head_fits}
use Rattle.far_word.proofs.PointerLaws.{read_back, word_fits}
use Rattle.far_events.specs.declared.event.Event.{Event}
use Rattle.far_events.specs.declared.event.Event.TheVariants.{ReadEpoch as ReadsEpoch, Open as Opens, Load as Loads, Store as Stores, Close as Closes, Adopt as Adopts, Put as Puts, Name as Names}
use Rattle.far_events.specs.declared.event.Kind.TheVariants as kinds
use Rattle.far_events.specs.events.Legal.{IsNext}
use Rattle.far_core.specs.laws.Rooms.{IsRoom, RoomIs}
use Rattle.far_events.specs.state.Law.{Law}
use Rattle.far_core.specs.state.Room.{room}
use Rattle.far_events.specs.state.State.{State, put, addr}
use Rattle.far_events.specs.events.Naming.{unmarked}
use Rattle.far_events.specs.events.Soil.{after_soil}
use Rattle.far_events.specs.events.Step.{Fits, is_legal, is_opened, data_len, near_data, after_close, scope_word_of, with_span}
use Rattle.far_events.proofs.Bounds.{header}
use Rattle.far_core.proofs.Owing.{is_test}
use Rattle.far_core.proofs.RoomLaws.{room_right}
use Rattle.far_events.proofs.Put.{put_same, put_old, put_other}
use Rattle.far_replay.specs.Moment.{Moment, moment_of}
use Rattle.far_text.specs.Command.{Command, New, Open, On, Use, Reads, Writes, Views, Mutator}
use Rattle.far_events.specs.events.Ranges.{after_events, with_row}
use Rattle.far_alone.specs.EventRows.{AllSucceed}
use Rattle.far_alone.specs.Between.{Between}
use Rattle.far_alone.specs.Events.{new_events, zero_puts, open_events, view_events, sought_events, dereference_events, first_word, words_touched, load_events, starts_inside, ends_inside, part_events, soil_events, store_events, drop_events}
use Rattle.far_replay.specs.Events.{turn_events, events_for, IsNoStep}
use Rattle.far_alone.specs.Objects.{uses, data_of, with_range, lowest_cell}
use Rattle.far_alone.specs.Dereference.{comes_to, dereferenced, has_no_room, sought}
use Rattle.far_book.specs.book.Effects.{near_word}
use Rattle.far_alone.specs.Effects.{with_object, with_view, is_slow, with_data, with_epoch, with_scope, without_object, epoch_for}
use Rattle.far_replay.specs.Turn.{after_use, turn_effect, refused_effect, effect, refusal, unless}
use Rattle.far_text.specs.Written.{WritesBytes}
use Rattle.far_alone.proofs.Drops.{drop_succeeds, drop_ends, drop_law, drop_fits, drop_named}
use Rattle.far_replay.proofs.LoadWords.{loads_stay, load_legal, loads_succeed}
use Rattle.far_alone.proofs.Lowest.{lowest_cell_is}
use Rattle.far_alone.proofs.MadeLemmas.{made_first, first_succeeds, made_law, load_stays}
use Rattle.far_replay.proofs.NewTurns.{new_succeeds, new_between, new_end, object_is}
use Rattle.std.specs.List.{AllByRecursion as Each}
use Rattle.far_alone.proofs.Each.{Each-append, Each-row}
use Rattle.far_alone.proofs.Spliced.{AreBytes, with_range_bytes, length-with_range, packed_padded, packed_wide}
use Rattle.far_replay.proofs.StoreTurns.{stores_go, stores_end}
use Rattle.far_alone.proofs.Soiling.{soil_data, soil_holds, soil_law, soil_leads, soil_len}
use Rattle.far_alone.proofs.RangeWrites.{object_padded}
use Rattle.far_replay.proofs.WriteEnds.{row_whole}
use Rattle.far_replay.proofs.Dereferences.{Derefs, derefs, sought_between, sought_leads, view_leads}
use Rattle.far_alone.proofs.Leading.{Leads, leads_append, leads_nowhere}
use Rattle.far_alone.proofs.Views.{Viewed, between_by, view_between}
use Rattle.far_replay.proofs.Ways.{Access, access_fact, by_way, may_reach, new_sizes, new_tests}

-- what its dereference comes to
pub reached : (now : Moment) (m p : ℕ) (how : Use) → Law now.core → refusal now (Mutator m (On p how)) ≡ None → Derefs now.core m p
reached now m p how law e = let h = may_reach now m p how e in derefs now.core m p law h.0 h.1 h.2

-- ---- reads
-- a read of an object's words
module _ (s : State) (m p from count : ℕ) (law : Law s) (access : Access s m p from count) where
  -- what its dereference comes to
  pub led : Derefs s m p
  led = derefs s m p law access.opened access.ours access.room

  -- the state after it
  abbrev here : State
  here = dereferenced s m p

  -- the words that are touched are the object's
  touched_inside : (i : ℕ) → i < words_touched from count → first_word from + i < words_for (data_len here p)
  touched_inside i lt = omega (arith, access.within, access.some, led.long)

  loads_lead : Leads here (load_events m p (first_word from) (words_touched from count)) here
  loads_lead = record {
    succeed = loads_succeed here here m p led.view (first_word from) (words_touched from count) touched_inside;
    fit = Each-row Fits (λ i. Loads m p i) (first_word from) (words_touched from count) (λ _ _. tt);
    ends = loads_stay here m p (first_word from) (words_touched from count);
  }

  -- the events of a read lead where its dereference does
  pub read_leads : Leads s (dereference_events s m p ++ load_events m p (first_word from) (words_touched from count)) here
  read_leads = leads_append s here here (dereference_events s m p) (load_events m p (first_word from) (words_touched from count)) led.leads loads_lead

  -- ---- writes
  -- a load that is made or not, where the object is held
  part_lead : (u : State) → Viewed here u m p → (b : Bool) (i : ℕ) → (b ≡ true → i < words_for (data_len here p)) → Leads u (if b then Loads m p i ∷ [] else []) u
  part_lead u view true i inside = record { succeed = first_succeeds u (Loads m p i) [] (load_legal here u m p view i (inside refl)) tt tt; fit = (tt, tt); ends = load_stays u m p i }
  part_lead u view false i inside = leads_nowhere u

  -- the first word that is changed in part is the object's
  first_part_inside : starts_inside from count ≡ true → from / 8 < words_for (data_len here p)
  first_part_inside _ = omega (arith, access.within, access.some, led.long)

  -- so is the last one
  last_part_inside : ends_inside from count ≡ true → (from + count) / 8 < words_for (data_len here p)
  last_part_inside h =
      let part : (from + count) % 8 ≢ 0 = grind (arith, nat_tests) in
      omega (arith, access.within, access.some, led.long)

  -- the loads of words that are changed in part leave the state
  pub parts_lead : (u : State) → Viewed here u m p → Leads u (part_events m p from count) u
  parts_lead u view = leads_append u u u (if starts_inside from count then Loads m p (from / 8) ∷ [] else []) (if ends_inside from count then Loads m p ((from + count) / 8) ∷ [] else [])
      (part_lead u view (starts_inside from count) (from / 8) first_part_inside) (part_lead u view (ends_inside from count) ((from + count) / 8) last_part_inside)

-- a write of bytes
module _ (s : State) (m p from : ℕ) (bytes : List ℕ) (law : Law s) (access : Access s m p from (length bytes)) (small : (k : ℕ) → get_or bytes k 0 < 256) where
  -- what the dereference comes to
  led_there : Derefs s m p
  led_there = led s m p from (length bytes) law access

  -- the state after it
  abbrev there : State
  there = dereferenced s m p

  -- the bytes after the write
  abbrev changed : List ℕ
  changed = with_range (data_of there p) from bytes

  -- as many as the object has
  data_long : length (data_of there p) ≡ data_len there p
  data_long = length-bytes_of (λ i. there.word (near_data (read_of (there.cell p)) + i)) (data_len there p)

  -- the range is a part of it
  within : from + length bytes ≤ length (data_of there p)
  within = omega (arith, data_long, access.within, led_there.long)

  -- they are bytes
  changed_bytes : AreBytes changed
  changed_bytes = with_range_bytes (data_of there p) from bytes within (bytes_of-small (λ i. there.word (near_data (read_of (there.cell p)) + i)) (data_len there p)) small

  -- as many as before
  changed_long : length changed ≡ led_there.view.len
  changed_long = length-with_range (data_of there p) from bytes within ∙ data_long ∙ led_there.view.long

  -- the stores
  abbrev stores : List Event
  stores = store_events m p (first_word from) (words_touched from (length bytes)) changed

  -- each carries a word
  wide : (i : ℕ) → packed_word changed i < 2 ^ 64
  wide = packed_wide changed changed_bytes

  -- the words that are stored are the object's
  store_inside : (i : ℕ) → i < words_touched from (length bytes) → first_word from + i < words_for led_there.view.len
  store_inside i lt = subst (λ n. first_word from + i < words_for n) led_there.view.long (touched_inside s m p from (length bytes) law access i lt)

  -- the state once the object is soiled
  abbrev ready : State
  ready = after_soil there p

  soiled_law : Law ready
  soiled_law = soil_law there led_there.law m p led_there.view.len led_there.view.place led_there.view.holds

  -- the stores make its words those of the new bytes
  pub stores_lead : Leads ready stores (with_data there p from bytes)
  stores_lead =
      let view = led_there.view in
      let padded : (i : ℕ) → i < words_for view.len → packed_word changed i < 2 ^ (8 * (view.len - 8 * i)) = (λ i lt. packed_padded changed view.len i changed_bytes changed_long lt) in
      let holds = soil_holds there led_there.law m p view.len view.place view.holds in
      let soiled : ready.soiled p ≡ true = put_same there.soiled p true p refl in
      let first : ℕ = first_word from in
      record {
        succeed = stores_go m p view.len view.place (packed_word changed) wide padded (words_touched from (length bytes)) (first_word from) ready soiled_law holds soiled store_inside;
        fit = Each-row Fits (λ i. Stores m p i (packed_word changed i)) (first_word from) (words_touched from (length bytes)) (λ i _. wide (first_word from + i));
        ends = stores_end m p view.len view.place (packed_word changed) wide padded (words_touched from (length bytes)) (first_word from) ready soiled_law holds soiled store_inside
            ∙ ap (λ d. record ready { word = with_row there.word (d + first) (words_touched from (length bytes)) (λ i. packed_word changed (first + i)) })
            (soil_data there led_there.law m p view.len view.place view.holds)
            ∙ ap (λ (f : ℕ → ℕ). record ready { word = f })
            (row_whole there.word (near_data (read_of (there.cell p))) (data_len there p) from bytes (omega (arith, access.within, led_there.long)) access.some led_there.law.spans.word_fits (object_padded there led_there.law p));
      }

  -- the object is soiled
  soiling_leads : Leads there (soil_events there m p) ready
  soiling_leads = soil_leads there led_there.law m p led_there.view.len led_there.view.place led_there.view.holds

  -- the loads of words that are changed in part leave that too
  ready_parts : Leads ready (part_events m p from (length bytes)) ready
  ready_parts = parts_lead s m p from (length bytes) law access ready record {
    len = led_there.view.len;
    place = led_there.view.place;
    holds = soil_holds there led_there.law m p led_there.view.len led_there.view.place led_there.view.holds;
    words = refl;
    same_data = soil_data there led_there.law m p led_there.view.len led_there.view.place led_there.view.holds;
    same_len = soil_len there led_there.law m p led_there.view.len led_there.view.place led_there.view.holds;
    long = led_there.view.long;
  }

  -- the events of a write
  pub write_leads : Leads s (dereference_events s m p ++ soil_events there m p ++ part_events m p from (length bytes) ++ stores) (with_data there p from bytes)
  write_leads =
      leads_append s ready (with_data there p from bytes) (dereference_events s m p ++ soil_events there m p ++ part_events m p from (length bytes)) stores
      (leads_append s ready ready (dereference_events s m p ++ soil_events there m p) (part_events m p from (length bytes))
      (leads_append s there ready (dereference_events s m p) (soil_events there m p) led_there.leads soiling_leads) ready_parts) stores_lead

-- ---- a new object
-- where a new span may stand
pub record NewRoom (s : State) (size : ℕ) (place : Place) : Type 0 where
  pub next : IsNext s place
  pub fits : place.at + size ≤ LOG_WORDS
  pub here : place.at ≡ s.tail place.log

-- the room that is found is such a place
pub room_next : (s : State) (size : ℕ) (place : Place) → Law s → size ≤ LOG_WORDS → room s size true ≡ Some place → NewRoom s size place
room_next s size place law short found =
    let is : IsRoom s size true place = subst (RoomIs s size true) found (room_right s law size true short) in
    record { next = is.next; fits = is.fits; here = ends is.next.1 } where
      ends : ((s.kind place.log ≡ kinds.Open) × (place.at ≡ s.tail place.log)) ⊎ ((s.kind place.log ≡ kinds.Free) × (place.at ≡ 0)) → place.at ≡ s.tail place.log
      ends (inl here) = here.1
      ends (inr empty) = empty.1 ∙ sym (law.logs.free_tail place.log empty.0)

-- no marks but DIRTY
abbrev clean : Marks
clean = unmarked true

-- what the events of a command do: they succeed, keep the law and what holds between commands, and end in this state
pub record Turned (s : State) (es : List Event) (t : State) : Type 0 where
  pub succeed : AllSucceed s es
  pub between : Between (after_events s es)
  pub law : Law (after_events s es)
  pub fit : Each Fits es
  pub ends : after_events s es ≡ t

-- so it is where they lead there, and what holds between commands is so there
turned_by : (s t : State) (es : List Event) → Law s → Leads s es t → Between t → Turned s es t
turned_by s t es law way between = record { succeed = way.succeed; between = subst Between (sym way.ends) between; law = made_law s es law way.fit; fit = way.fit; ends = way.ends }

-- the numbers of a new object that isn't refused
pub record NewParts (s : State) (m len ds p : ℕ) (place : Place) : Type 0 where
  pub owner : m < s.mutators
  pub structure : ds < 256
  pub some : 0 < len
  pub most : len ≤ LONGEST
  pub low : m * CELLS ≤ p
  pub high : p < m * CELLS + CELLS
  pub free : s.cell p ≡ 0
  pub room : NewRoom s (size_of len) place
  pub lies : IsPtr (Near len ds place clean)

pub new_parts : (s : State) (m len ds p : ℕ) (place : Place) → Law s → refusal (moment_of s) (Mutator m (New len ds)) ≡ None → lowest_cell s m ≡ Some p → room s (size_of len) true ≡ Some place → NewParts s m len ds p place
new_parts s m len ds p place law e cell found =
    let tests = new_tests s m len ds e in
    let sizes = new_sizes m s.mutators len ds tests.0 tests.1 in
    let own = lowest_cell_is s m p cell in
    let there = room_next s (size_of len) place law (omega (arith, sizes.3)) found in
    record {
      owner = sizes.0;
      structure = sizes.1;
      some = sizes.2;
      most = sizes.3;
      low = own.0;
      high = own.1;
      free = own.2;
      room = there;
      lies = (sizes.2, sizes.3, sizes.1, omega (arith, there.next.0, law.shape.few_logs), there.fits);
    }

-- such an object, written out
pub new_object_is : (s : State) (m len ds p : ℕ) (place : Place) → Law s → refusal (moment_of s) (Mutator m (New len ds)) ≡ None → lowest_cell s m ≡ Some p → room s (size_of len) true ≡ Some place →
    with_object s m p len ds place ≡ record (with_span record s { word = with_row (put s.word (addr place) (head_word p len ds)) (addr place + 1) (words_for len) (λ _. 0) } p (near_word true len ds place) len place) { used = put s.used p true }
new_object_is s m len ds p place law e cell found =
    let parts = new_parts s m len ds p place law e cell found in
    object_is s law m p len ds (near_word true len ds place) place parts.owner parts.low parts.high parts.free parts.some parts.most parts.structure parts.room.next parts.room.fits parts.room.here (read_back (Near len ds place clean) parts.lies) refl

-- its events
new_turned : (s : State) (m len ds p : ℕ) (place : Place) → Law s → Between s → refusal (moment_of s) (Mutator m (New len ds)) ≡ None → lowest_cell s m ≡ Some p → room s (size_of len) true ≡ Some place →
    Turned s (new_events m len ds (Some p) (Some place)) (with_object s m p len ds place)
new_turned s m len ds p place law between e cell found =
    let new : ℕ = near_word true len ds place in
    let parts = new_parts s m len ds p place law e cell found in
    let reads : read_of new ≡ Some (Near len ds place clean) = read_back (Near len ds place clean) parts.lies in
    let puts : List Event = Puts place.log place.at (head_word p len ds) ∷ zero_puts place (words_for len) in
    let names : List Event = Names p 0 new ∷ Adopts m p ∷ [] in
    let fit : Each Fits (puts ++ names) = Each-append Fits puts names (
      head_fits (header p len ds) (record { some = parts.some; most = parts.most; structure = parts.structure; cell = omega (arith, parts.owner, parts.low, parts.high, law.shape.few_mutators) }),
      Each-row Fits (λ i. Puts place.log (place.at + 1 + i) 0) 0 (words_for len) (λ i lt. omega arith),
    )
    ((omega arith, word_fits (Near len ds place clean) parts.lies), (tt, tt)) in record {
      succeed = new_succeeds s law m p len ds new place parts.owner parts.low parts.high parts.free parts.some parts.most parts.structure parts.room.next parts.room.fits parts.room.here reads;
      between = new_between s law m p len ds new place parts.owner parts.low parts.high parts.free parts.some parts.most parts.structure parts.room.next parts.room.fits parts.room.here reads between;
      law = made_law s (puts ++ names) law fit;
      fit = fit;
      ends = new_end s law m p len ds new place parts.owner parts.low parts.high parts.free parts.some parts.most parts.structure parts.room.next parts.room.fits parts.room.here reads
          ∙ sym (new_object_is s m len ds p place law e cell found);
    }

-- ---- scopes
-- other scopes and epochs leave what holds between commands
between_scopes : (s : State) (scope : ℕ → ℕ) (remembered : ℕ → Option ℕ) (held : ℕ → Option Place) (soiled : ℕ → Bool) → Between s → Between record s { scope = scope; remembered = remembered; held = held; soiled = soiled }
between_scopes s scope remembered held soiled between = record { named = between.named }

-- an owner whose scope is closed reads the epoch
read_turned : (s : State) (m : ℕ) → Law s → Between s → (m < s.mutators) × (s.scope m ≡ 0) → Turned s (ReadsEpoch m ∷ []) (with_epoch s m)
read_turned s m law between closed_now =
    let legal : is_legal s (ReadsEpoch m) ≡ true = is_test s (ReadsEpoch m) closed_now in
    let end : after_events s (ReadsEpoch m ∷ []) ≡ with_epoch s m = made_first s (ReadsEpoch m) [] legal in
    record {
      succeed = first_succeeds s (ReadsEpoch m) [] legal tt tt;
      between = subst Between (sym end) (between_scopes s s.scope (put s.remembered m (Some s.epoch)) s.held s.soiled between);
      law = made_law s (ReadsEpoch m ∷ []) law (tt, tt);
      fit = (tt, tt);
      ends = end;
    }

-- a scope opens at the epoch that its owner remembers
begin_turned : (s : State) (m e : ℕ) → Law s → Between s → (m < s.mutators) × (s.scope m ≡ 0) → s.remembered m ≡ Some e →
    Turned s (Opens m ∷ []) (record s { remembered = put s.remembered m (Some e); scope = put s.scope m (scope_word_of (Some e)) })
begin_turned s m e law between closed_now is =
    let legal : is_legal s (Opens m) ≡ true = is_test s (Opens m) (closed_now, ap is_some is) in
    let end : after_events s (Opens m ∷ []) ≡ record s { scope = put s.scope m (scope_word_of (s.remembered m)) } = made_first s (Opens m) [] legal in
    record {
      succeed = first_succeeds s (Opens m) [] legal tt tt;
      between = subst Between (sym end) (between_scopes s (put s.scope m (scope_word_of (s.remembered m))) s.remembered s.held s.soiled between);
      law = made_law s (Opens m ∷ []) law (tt, tt);
      fit = (tt, tt);
      ends = end ∙ ap (λ (o : Option ℕ). record s { scope = put s.scope m (scope_word_of o) }) is
          ∙ ap (λ (f : ℕ → Option ℕ). record s { remembered = f; scope = put s.scope m (scope_word_of (Some e)) }) (sym (put_old s.remembered m (Some e) is));
    }

-- else at the heap's, which it reads first
begin_anew : (s : State) (m : ℕ) → Law s → Between s → (m < s.mutators) × (s.scope m ≡ 0) →
    Turned s (ReadsEpoch m ∷ Opens m ∷ []) (record s { remembered = put s.remembered m (Some s.epoch); scope = put s.scope m (scope_word_of (Some s.epoch)) })
begin_anew s m law between closed_now =
    let read : State = with_epoch s m in
    let now : read.remembered m ≡ Some s.epoch = put_same s.remembered m (Some s.epoch) m refl in
    let first_legal : is_legal s (ReadsEpoch m) ≡ true = is_test s (ReadsEpoch m) closed_now in
    let legal : is_legal read (Opens m) ≡ true = is_test read (Opens m) (closed_now, ap is_some now) in
    let end : after_events s (ReadsEpoch m ∷ Opens m ∷ []) ≡ record read { scope = put s.scope m (scope_word_of (read.remembered m)) } = made_first s (ReadsEpoch m) (Opens m ∷ []) first_legal ∙ made_first read (Opens m) [] legal in
    record {
      succeed = first_succeeds s (ReadsEpoch m) (Opens m ∷ []) first_legal tt (first_succeeds read (Opens m) [] legal tt tt);
      between = subst Between (sym end) (between_scopes s (put s.scope m (scope_word_of (read.remembered m))) (put s.remembered m (Some s.epoch)) s.held s.soiled between);
      law = made_law s (ReadsEpoch m ∷ Opens m ∷ []) law (tt, (tt, tt));
      fit = (tt, (tt, tt));
      ends = end ∙ ap (λ (o : Option ℕ). record read { scope = put s.scope m (scope_word_of o) }) now;
    }

-- the events of an opening, by what its owner remembers
open_at : (s : State) (m : ℕ) (o : Option ℕ) → Law s → Between s → (m < s.mutators) × (s.scope m ≡ 0) → s.remembered m ≡ o →
    Turned s (if is_some o then Opens m ∷ [] else ReadsEpoch m ∷ Opens m ∷ []) (record s { remembered = put s.remembered m (Some (epoch_for o s.epoch)); scope = put s.scope m (scope_word_of (Some (epoch_for o s.epoch))) })
open_at s m None law between closed_now is = begin_anew s m law between closed_now
open_at s m (Some e) law between closed_now is = begin_turned s m e law between closed_now is

pub open_turned : (s : State) (m : ℕ) → Law s → Between s → (m < s.mutators) × (s.scope m ≡ 0) → Turned s (open_events s m) (with_scope s m)
open_turned s m law between closed_now = open_at s m (s.remembered m) law between closed_now refl

-- the event of a closing
close_turned : (s : State) (m : ℕ) → Law s → Between s → is_opened s m ≡ true → Turned s (Closes m ∷ []) (after_close s m)
close_turned s m law between opened =
    let legal : is_legal s (Closes m) ≡ true = opened in
    let end : after_events s (Closes m ∷ []) ≡ after_close s m = made_first s (Closes m) [] legal in
    record {
      succeed = first_succeeds s (Closes m) [] legal tt tt;
      between = subst Between (sym end) (between_scopes s (put s.scope m 0) (put s.remembered m None) (λ p. cond (nat_eq (p / CELLS) m) None (s.held p)) (λ p. cond (nat_eq (p / CELLS) m) false (s.soiled p)) between);
      law = made_law s (Closes m ∷ []) law (tt, tt);
      fit = (tt, tt);
      ends = end;
    }

-- ---- drops
-- the events of a drop
drop_turned : (s : State) (m p : ℕ) → Law s → Between s → m < s.mutators → uses s m p ≡ true → s.held p ≡ None → Turned s (drop_events s m p) (without_object s m p)
drop_turned s m p law between within ours unheld =
    let ends = drop_ends s m p law within ours unheld in
    let after : Between (without_object s m p) = record { named = drop_named s m p law within ours unheld between.named } in
    record {
      succeed = drop_succeeds s m p law within ours unheld;
      between = subst Between (sym ends) after;
      law = subst Law (sym ends) (drop_law s m p law within ours unheld);
      fit = drop_fits s m p law within ours unheld;
      ends = ends;
    }

-- ---- all commands
-- a command that makes no event
none_turned : (s : State) → Law s → Between s → Turned s [] s
none_turned s law between = record { succeed = tt; between = between; law = law; fit = tt; ends = refl }

-- the pin of an object that may be viewed or not
view_turned : (s : State) (m p : ℕ) → Law s → Between s → is_opened s m ≡ true → uses s m p ≡ true → Turned s (view_events s m p) (with_view s p)
view_turned s m p law between opened ours =
    turned_by s (with_view s p) (view_events s m p) law (view_leads s m p law opened ours) (view_between s p (and_parts (nat_eq (p / CELLS) m) (s.used p) ours).1 between)

-- a read, a write or a view that isn't refused
use_turned : (now : Moment) (m p : ℕ) (how : Use) → Law now.core → Between now.core → WritesBytes (Mutator m (On p how)) → refusal now (Mutator m (On p how)) ≡ None →
    Turned now.core (turn_events now (Mutator m (On p how))) (after_use (dereferenced now.core m p) p how)
use_turned now m p (Writes from bytes) law between small e =
    let access = access_fact now.core m p from (length bytes) e in
    let there : State = dereferenced now.core m p in
    let view = led now.core m p from (length bytes) law access in
    let used : there.used p ≡ true = view.law.views.held_used p (ap is_some view.view.holds.rests) in
    turned_by now.core (with_data there p from bytes) (turn_events now (Mutator m (On p (Writes from bytes)))) law (write_leads now.core m p from bytes law access small)
    (between_by there (with_data there p from bytes) p refl (λ q ne. put_other there.cell p _ q ne) used (view.between between))
use_turned now m p (Reads from len) law between small e =
    let access = access_fact now.core m p from len e in
    turned_by now.core (dereferenced now.core m p) (turn_events now (Mutator m (On p (Reads from len)))) law (read_leads now.core m p from len law access) ((led now.core m p from len law access).between between)
use_turned now m p Views law between small e =
    let all = reached now m p Views law e in
    turned_by now.core (dereferenced now.core m p) (dereference_events now.core m p) law all.leads (all.between between)

-- where an object finds no place, the pin and its owner's asking
sought_turned : (s : State) (m p : ℕ) → Law s → Between s → is_opened s m ≡ true → uses s m p ≡ true → has_no_room s m p ≡ true → Turned s (sought_events s m p) (sought s m p)
sought_turned s m p law between opened ours full =
    let slow : is_slow s p ≡ true = (and_parts (is_slow s p) (not (is_some (comes_to (sought s m p) p))) full).0 in
    turned_by s (sought s m p) (sought_events s m p) law (sought_leads s m p law opened ours slow) (sought_between s m p law opened ours slow between)

-- the events of a command lead to the moment after it
pub turns : (now : Moment) (c : Command) → IsNoStep c → Law now.core → Between now.core → WritesBytes c → Turned now.core (events_for now c) (effect now c).core
turns now c told law between small = by_way now (λ d es (x : Moment). WritesBytes d → Turned now.core es x.core)
    (λ d _. none_turned now.core law between)
    (λ m len ds p place e cell found _. new_turned now.core m len ds p place law between e cell found)
    (λ m shut _. open_turned now.core m law between shut)
    (λ m shut _. read_turned now.core m law between shut)
    (λ m opened _. close_turned now.core m law between opened)
    (λ m p opened ours _. view_turned now.core m p law between opened ours)
    (λ m p how opened ours full _. sought_turned now.core m p law between opened ours full)
    (λ m p how e small. use_turned now m p how law between small e)
    (λ m p within ours unheld _. drop_turned now.core m p law between within ours unheld)
    c told small

-- what a command that isn't refused makes of the heap is what its events make
pub made_by_events : (now : Moment) (t : State) (c : Command) → IsNoStep c → Law now.core → Between now.core → WritesBytes c → refusal now c ≡ None → t ≡ (turn_effect now c).core → t ≡ after_events now.core (events_for now c)
made_by_events now t c told law between small none is =
    is ∙ ap (λ o. (unless o (refused_effect now c) (turn_effect now c)).core) (sym none) ∙ sym (turns now c told law between small).ends

-- what its events make is what it makes of the core
pub events_make : (now : Moment) (t : State) (c : Command) → IsNoStep c → Law now.core → Between now.core → WritesBytes c → t ≡ after_events now.core (events_for now c) → t ≡ (effect now c).core
events_make now t c told law between small is = is ∙ (turns now c told law between small).ends
