-- An object is dereferenced with the words that were given of it: what its pins and its coming make of that, and of the commands that reach it.
use Rattle.std.proofs.Common.{◌≡◌, ◌≢◌, ℕ, ◌/◌, ◌+◌, ◌&&◌, Bool, true, false, not, is_some, refl, sym, ap, subst, ◌∙◌, IsSome, List, [], ◌∷◌, length, map, if◌then◌else◌}
use Rattle.std.specs.Prelude.{IfErr, IfOk, Result, Ok, Err, slice_range}
use Rattle.std.specs.List.{range_with_len}
use Rattle.std.proofs.lemmas.Bool.{cond_both, true≢false}
use Rattle.far_word.specs.Bytes.{packed_word}
use Rattle.far_events.specs.declared.event.Event.{Event}
use Rattle.far_events.specs.declared.event.Event.TheVariants.{Store as Stores}
use Rattle.far_events.specs.declared.event.Reply.{Reply as Answer}
use Rattle.far_events.specs.declared.event.Reply.TheVariants.{Refused as Failed}
use Rattle.far_word.specs.declared.mark.Mark.TheVariants.{Hot}
use Rattle.far_word.specs.declared.refused.Refused.{Refused as Refusal}
use Rattle.far_word.specs.declared.sizes.TheConstants.{CELLS}
use Rattle.far_word.specs.Pointer.{read_of}
use Rattle.far_events.specs.events.Soil.{after_soil}
use Rattle.far_events.specs.events.Step.{after, answer, is_legal, is_opened, step_of}
use Rattle.far_events.specs.state.Law.{Law, StoresBack}
use Rattle.far_events.specs.state.State.{State}
use Rattle.far_events.proofs.Cells.{map_mark}
use Rattle.far_hand.specs.declared.plain.Plain.{Plain}
use Rattle.far_evac.specs.EvacOf.{EvacOf}
use Rattle.far_text.specs.Command.{Command, Mutator, On, Reads, Writes, Views as UseViews}
use Rattle.far_replay.specs.Commanded.{AsksFor, KeepsFar, Misled, MisledBy, Outside, Serves, Refuses, Gives, Lacks, Served}
use Rattle.far_alone.specs.Dereference.{asked_for, come, comes_to, dereferenced, has_no_room, says_near, sought, order_come, order_dereferenced}
use Rattle.far_alone.specs.Effects.{is_slow, with_data, with_view}
use Rattle.far_replay.specs.Far.{FarBytes, HoldsSame, far_in, far_of}
use Rattle.far_replay.specs.Interpreter.{Comes, Dereferences, IsAccess, IsViewed, MayGive, TellsOf, Views, as_given, words_by}
use Rattle.far_replay.specs.Moment.{FarSide, KeepsRound, Moment, as_if_stored, moment_in, state_in, with_stored}
use Rattle.far_events.specs.events.Ranges.{after_events}
use Rattle.far_alone.specs.Events.{first_word, store_events, words_touched}
use Rattle.far_alone.specs.Objects.{data_of, with_range}
use Rattle.far_reply.specs.Reply.{Reply, Data, Done, Refused}
use Rattle.far_replay.specs.Spent.{Makes, SpentBy}
use Rattle.far_replay.specs.Turn.{unless}
use Rattle.far_replay.specs.declared.turn.Access.{Access}
use Rattle.far_replay.proofs.AsIfStored.{as_it_was, far_keeps, law_as_if, view_as_if, view_stores}
use Rattle.far_replay.proofs.Asides.{order_derefs}
use Rattle.far_alone.proofs.Bringing.{far_is}
use Rattle.far_replay.proofs.Dereferences.{derefs}
use Rattle.far_replay.proofs.RangeTurns.{writes_room, read_made, read_told, soiled_range, view_cause, view_made, viewed_range, write_made, write_stored}
use Rattle.far_alone.proofs.Spliced.{AreBytes}
use Rattle.far_alone.proofs.Storing.{uses_own}
use Rattle.far_replay.proofs.Spending.{spent_first, spent_last, spent_same}
use Rattle.far_replay.proofs.Told.{asks_hold, given_told, holds_both, same_holds, served_told}
use Rattle.far_replay.proofs.Unbrought.{far_after, far_before, pinned}
use Rattle.far_alone.proofs.Views.{fast_dereference, fast_near, slow_view}
use Rattle.far_replay.proofs.WithCore.{moment_joined}

-- ---- a pin once it has come
pub came_views : (old mid new : EvacOf Plain FarSide) (m p : ℕ) (o : Outside) → Comes old mid m p o → state_in new ≡ with_view (state_in mid) p → new.book.order ≡ mid.book.order → new.book.device ≡ mid.book.device →
    Views old new m p o
came_views old mid new m p o x viewed order device =
    let row : ℕ → ℕ = words_by o (state_in old) p in
    record {
      given = x.given;
      state = ap (λ (t : State). with_stored t p row) viewed ∙ sym (view_as_if (state_in mid) p row p) ∙ ap (λ (t : State). with_view t p) x.state;
      room = x.room;
      order = order ∙ x.order;
      stored = ap (λ (t : State). t.stored) viewed ∙ view_stores (state_in mid) p ∙ x.stored;
      spent = spent_last o old mid new x.spent (spent_same mid new device);
    }

-- ---- a pin that gives a view
pub derefs_at_once : (old new : EvacOf Plain FarSide) (m p : ℕ) → Law (state_in old) → state_in new ≡ with_view (state_in old) p → is_slow (state_in old) p ≡ false → new.book.order ≡ old.book.order → new.book.device ≡ old.book.device →
    Dereferences old new m p Serves
derefs_at_once old new m p law viewed fast order device =
    let s : State = state_in old in
    let same : with_stored s p (s.stored p) ≡ s = as_it_was s p (s.stored p) refl in
    let stored : (state_in new).stored ≡ s.stored = ap (λ (t : State). t.stored) viewed ∙ view_stores s p in
    record {
      given = λ far. absurd (true≢false (sym (fast_near s p law fast) ∙ far));
      state = as_it_was (state_in new) p (s.stored p) (sym (ap (λ (f : ℕ → ℕ → ℕ). f p) stored)) ∙ viewed ∙ sym (fast_dereference s m p fast) ∙ sym (ap (λ (x : State). dereferenced x m p) same);
      room = ap (λ (x : State). has_no_room x m p) same ∙ ap (λ b. b && not (is_some (comes_to (sought s m p) p))) fast;
      order = order ∙ sym (ap (λ b. if b then order_come (sought s m p) old.book.order p else old.book.order) fast) ∙ sym (ap (λ (x : State). order_dereferenced x old.book.order m p) same);
      stored = stored;
      spent = spent_same old new device;
    }

-- ---- and one that gives none
module _ (s : State) (m p : ℕ) (law : Law s) (opened : is_opened s m ≡ true) (own : p / CELLS ≡ m) (used : s.used p ≡ true) (slow : is_slow s p ≡ true) where
  honest_view : (with_view s p).honest ≡ s.honest
  honest_view = ap (λ (t : State). t.honest) (slow_view s p slow)

  fits_before : (row : ℕ → ℕ) → StoresBack row (read_of ((with_view s p).cell p)) → StoresBack row (read_of (s.cell p))
  fits_before row fits len ds marks is = fits len ds _ (pinned s m p law opened own used slow ∙ ap (map_mark Hot) is)

  tells_before : (inverts : Bool) (row : ℕ → ℕ) (held : FarBytes) → TellsOf inverts row (with_view s p) held p → TellsOf inverts row s held p
  tells_before inverts row held tells len ds marks is = tells len ds _ (pinned s m p law opened own used slow ∙ ap (map_mark Hot) is)

  gives_before : (o : Outside) (held : FarBytes) → MayGive o (with_view s p) held p → MayGive o s held p
  gives_before Serves held h = λ far. sym honest_view ∙ h (far_after s m p law opened own used slow far)
  gives_before (Refuses why turns objects) held h = h
  gives_before (Lacks turns objects) held h = h
  gives_before (Gives row inverts) held h = (sym honest_view ∙ h.0, far_before s m p law opened own used slow (with_view s p) refl h.1, fits_before row h.2, tells_before inverts row held h.3)

  words_before : (o : Outside) → words_by o (with_view s p) p ≡ words_by o s p
  words_before (Gives row inverts) = refl
  words_before _ = ap (λ (f : ℕ → ℕ → ℕ). f p) (view_stores s p)

  -- it comes and is viewed, as seen from before the pin
  abbrev SeenSo : EvacOf Plain FarSide → EvacOf Plain FarSide → (ℕ → ℕ) → State → Type 0
  SeenSo old new row t = (with_stored (state_in new) p row ≡ with_view (come (asked_for (with_stored t p row) m p) p) p)
      × IsSome (comes_to (asked_for (with_stored t p row) m p) p) × (new.book.order ≡ order_come (asked_for (with_stored t p row) m p) old.book.order p)

  pub derefs_slowly : (old mid new : EvacOf Plain FarSide) (o : Outside) → state_in old ≡ s → state_in mid ≡ with_view s p → mid.book.order ≡ old.book.order → mid.book.device ≡ old.book.device → Views mid new m p o →
      Dereferences old new m p o
  derefs_slowly old mid new o here viewed order device x =
      let row : ℕ → ℕ = words_by o s p in
      let e : words_by o (state_in mid) p ≡ row = ap (λ (t : State). words_by o t p) viewed ∙ words_before o in
      let seen : SeenSo mid new row (with_view s p) = subst (λ (t : State). SeenSo mid new row t) viewed (subst (λ r. SeenSo mid new r (state_in mid)) e (x.state, x.room, x.order)) in
      let pin : with_stored (with_view s p) p row ≡ with_view (with_stored s p row) p = sym (view_as_if s p row p) in
      let t : State = with_stored s p row in
      let all : (with_stored (state_in new) p row ≡ dereferenced t m p) × (has_no_room t m p ≡ false) × (new.book.order ≡ order_dereferenced t old.book.order m p) = (
        seen.0 ∙ ap (λ (y : State). with_view (come (asked_for y m p) p) p) pin ∙ sym (ap (λ b. if b then with_view (come (sought t m p) p) p else with_view t p) slow),
        ap (λ b. b && not (is_some (comes_to (sought t m p) p))) slow ∙ ap not (ap (λ (y : State). is_some (comes_to (asked_for y m p) p)) (sym pin) ∙ seen.1),
        seen.2 ∙ ap (λ (y : State). order_come (asked_for y m p) mid.book.order p) pin ∙ ap (λ order. order_come (sought t m p) order p) order
            ∙ sym (ap (λ b. if b then order_come (sought t m p) old.book.order p else old.book.order) slow),
      ) in
      record {
        given = subst (λ (y : State). MayGive o y (far_in old) p) (sym here)
            (gives_before o (far_in old) (subst (λ (d : FarSide). MayGive o (with_view s p) (far_of d) p) device (subst (λ (y : State). MayGive o y (far_in mid) p) viewed x.given)));
        state = subst (λ (y : State). as_given o y p (state_in new) ≡ dereferenced (as_given o y p y) m p) (sym here) all.0;
        room = subst (λ (y : State). has_no_room (as_given o y p y) m p ≡ false) (sym here) all.1;
        order = subst (λ (y : State). new.book.order ≡ order_dereferenced (as_given o y p y) old.book.order m p) (sym here) all.2;
        stored = x.stored ∙ ap (λ (y : State). y.stored) viewed ∙ view_stores s p ∙ ap (λ (y : State). y.stored) (sym here);
        spent = spent_first o old mid new (spent_same old mid device) x.spent;
      }

-- by the answers of the pin and of what brought it
pub derefs_or : (old mid new : EvacOf Plain FarSide) (m p : ℕ) (r : Result (Unit {0}) Refusal) → Law (state_in old) → is_opened (state_in old) m ≡ true → p / CELLS ≡ m → (state_in old).used p ≡ true → is_slow (state_in old) p ≡ true →
    state_in mid ≡ with_view (state_in old) p → mid.book.order ≡ old.book.order → mid.book.device ≡ old.book.device → IfOk r (λ _. (o : Outside) × Views mid new m p o) → IfOk r (λ _. (o : Outside) × Dereferences old new m p o)
derefs_or old mid new m p (Ok x) law opened own used slow viewed order device (o, views) = (o, derefs_slowly (state_in old) m p law opened own used slow old mid new o refl viewed order device views)
derefs_or old mid new m p (Err e) law opened own used slow viewed order device h = tt

pub far_or : (old mid : EvacOf Plain FarSide) (m p : ℕ) (r : Result (Unit {0}) Refusal) → Law (state_in old) → is_opened (state_in old) m ≡ true → p / CELLS ≡ m → (state_in old).used p ≡ true → is_slow (state_in old) p ≡ true →
    state_in mid ≡ with_view (state_in old) p → IfErr r (λ why. KeepsFar why → says_near (read_of ((state_in mid).cell p)) ≡ false) → IfErr r (λ why. KeepsFar why → says_near (read_of ((state_in old).cell p)) ≡ false)
far_or old mid m p (Ok x) law opened own used slow viewed far = tt
far_or old mid m p (Err why) law opened own used slow viewed far = λ keeps. far_before (state_in old) m p law opened own used slow (state_in mid) viewed (far keeps)

-- ---- a command that reaches it
misled_of : (row : ℕ → ℕ) (now : Moment) (c : Command) (m p : ℕ) (r : Reply) (next : Moment) → AsksFor m p c → Misled row now c p r next → MisledBy row now c r next
misled_of row now (Mutator k (On q how)) m p r next asks h = subst (λ x. Misled row now (Mutator k (On q how)) x r next) (sym asks.1) h
misled_of row now c m p r next asks h = absurd asks

-- with its own words it is served; with others it is misled
pub given_made : (old new : EvacOf Plain FarSide) (m p : ℕ) (o : Outside) (c : Command) (r : Reply) → Law (state_in old) → (state_in old).used p ≡ true → MayGive o (state_in old) (far_in old) p → AsksFor m p c →
    Served (as_if_stored (moment_in old) p (words_by o (state_in old) p)) c r (as_if_stored (moment_in new) p (words_by o (state_in old) p)) → ((why : Refusal) → r ≢ Refused why) → IsSome ((state_in new).held p) →
    (state_in new).stored p ≡ (state_in old).stored p → SpentBy o old new → HoldsSame old new → Makes old c r new
given_made old new m p Serves c r law used given asks served answered viewed stored spent same =
    let now : Moment = moment_in old in
    let next : Moment = moment_in new in
    let words : ℕ → ℕ = now.core.stored p in
    let before : as_if_stored now p words ≡ now = ap (λ (s : State). record now { core = s }) (as_it_was now.core p words refl) in
    let later : as_if_stored next p words ≡ next = ap (λ (s : State). record next { core = s }) (as_it_was next.core p words (sym stored)) in (
      Serves,
      record {
        commanded = subst (λ (x : Moment). Served now c r x) later (subst (λ (x : Moment). Served x c r (as_if_stored next p words)) before served);
        spent = spent;
        holds = asks_hold m p c (state_in old) (state_in new) (far_in old) (far_in new) asks same;
        told = served_told m p c asks now (far_in old) given;
      },
    )
given_made old new m p (Refuses why turns objects) c r law used given asks served answered viewed stored spent same = absurd given
given_made old new m p (Lacks turns objects) c r law used given asks served answered viewed stored spent same = absurd given
given_made old new m p (Gives row inverts) c r law used given asks served answered viewed stored spent same =
    let told = far_is (read_of ((state_in old).cell p)) given.1 (law.views.used_cell p used) in (
      Gives row inverts,
      record {
        commanded = misled_of row (moment_in old) c m p r (moment_in new) asks record {
          lies = given.0;
          far = (told.len, told.ds, told.marks, told.is);
          fits = given.2 told.len told.ds told.marks told.is;
          served = served;
          answered = answered;
          viewed = viewed;
          kept = stored;
        };
        spent = spent;
        holds = asks_hold m p c (state_in old) (state_in new) (far_in old) (far_in new) asks same;
        told = given_told m p c asks (moment_in old) (far_in old) row inverts given;
      },
    )

-- ---- the premises of a dereference, where other words are stored
pub given_law : (o : Outside) (s : State) (held : FarBytes) (p : ℕ) → Law s → s.used p ≡ true → MayGive o s held p → Law (as_given o s p s)
given_law Serves s held p law used given = subst Law (sym (as_it_was s p (s.stored p) refl)) law
given_law (Refuses why turns objects) s held p law used given = absurd given
given_law (Lacks turns objects) s held p law used given = absurd given
given_law (Gives row inverts) s held p law used given = law_as_if s p row law given.0 used (far_keeps row (read_of (s.cell p)) given.1 given.2)

pub access_as_if : (s : State) (a : Access) (m p from count : ℕ) (q : ℕ) (row : ℕ → ℕ) → IsAccess s m p from count a → IsAccess (with_stored s q row) m p from count a
access_as_if s a m p from count q row h = record { owner = h.owner; pointed = h.pointed; starts = h.starts; counts = h.counts; some = h.some; inside = h.inside; most = h.most; own = h.own; used = h.used; opened = h.opened }

pub viewed_as_it_is : (t : State) (a : Access) (q : ℕ) (row : ℕ → ℕ) → IsViewed (with_stored t q row) a → IsViewed t a
viewed_as_it_is t a q row h = record { own = h.own; held = h.held; some = h.some; inside = h.inside; most = h.most }

-- ---- stores read none of what is stored, and leave it
abbrev first : State × Answer → State
first x = x.0

first_if : (q : ℕ) (row : ℕ → ℕ) (b : Bool) (x y : State) (r u : Answer) → with_stored (first (if b then (x, r) else (y, u))) q row ≡ first (if b then (with_stored x q row, r) else (with_stored y q row, u))
first_if q row true x y r u = refl
first_if q row false x y r u = refl

abbrev stores_of : ℕ → ℕ → (ℕ → ℕ) → List ℕ → List Event
stores_of m p f places = map (λ i. Stores m p i (f i)) places

stores_as_if : (s : State) (q : ℕ) (row : ℕ → ℕ) (m p : ℕ) (f : ℕ → ℕ) (places : List ℕ) → with_stored (after_events s (stores_of m p f places)) q row ≡ after_events (with_stored s q row) (stores_of m p f places)
stores_as_if s q row m p f [] = refl
stores_as_if s q row m p f (i ∷ places) =
    let e : Event = Stores m p i (f i) in
    stores_as_if (step_of s e).0 q row m p f places
    ∙ ap (λ (t : State). after_events t (stores_of m p f places)) (first_if q row (is_legal s e) (after s e) s (answer s e) Failed)

stores_leave : (s : State) (m p : ℕ) (f : ℕ → ℕ) (places : List ℕ) → (after_events s (stores_of m p f places)).stored ≡ s.stored
stores_leave s m p f [] = refl
stores_leave s m p f (i ∷ places) =
    let e : Event = Stores m p i (f i) in
    stores_leave (step_of s e).0 m p f places ∙ cond_both (is_legal s e) (after s e, answer s e) (s, Failed) (λ (x : State × Answer). x.0.stored ≡ s.stored) (λ _. refl) (λ _. refl)

-- ---- a range is read or written, an object is viewed
module _ (old mid : EvacOf Plain FarSide) (a : Access) (o : Outside) (law : Law (state_in old)) (is : IsAccess (state_in old) a.owner a.pointer a.from a.count a) (x : Dereferences old mid a.owner a.pointer o) (round : KeepsRound old mid)
    (same : HoldsSame old mid) where
  abbrev row : ℕ → ℕ
  row = words_by o (state_in old) a.pointer

  abbrev now : Moment
  now = as_if_stored (moment_in old) a.pointer row

  abbrev next : Moment
  next = as_if_stored (moment_in mid) a.pointer row

  now_law : Law now.core
  now_law = given_law o (state_in old) (far_in old) a.pointer law is.used x.given

  here : IsAccess now.core a.owner a.pointer a.from a.count a
  here = access_as_if (state_in old) a a.owner a.pointer a.from a.count a.pointer row is

  pub range_viewed : IsViewed (state_in mid) a
  range_viewed = viewed_as_it_is (state_in mid) a a.pointer row (viewed_range now.core next.core a now_law here x.room x.state)

  -- and still once it is soiled
  pub range_soiled : (t : State) → t ≡ after_soil (state_in mid) a.pointer → IsViewed t a
  range_soiled t is = subst (λ (u : State). IsViewed u a) (sym is) (viewed_as_it_is (after_soil (state_in mid) a.pointer) a a.pointer row (soiled_range now.core next.core a now_law here x.room x.state))

  ordered : next.order ≡ order_dereferenced now.core now.order a.owner a.pointer
  ordered = x.order

  pub read_makes : (r : Reply) → r ≡ Data (slice_range (data_of (state_in mid) a.pointer) a.from (a.from + a.count)) → Makes old (Mutator a.owner (On a.pointer (Reads a.from a.count))) r mid
  read_makes r told = given_made old mid a.owner a.pointer o (Mutator a.owner (On a.pointer (Reads a.from a.count))) r law is.used x.given (refl, refl)
      record {
        reply = read_told now a here x.room next.core x.state r told;
        moment = read_made now a here x.room next
            (moment_joined now next (dereferenced now.core a.owner a.pointer) x.state (ordered ∙ sym (order_derefs now a.owner a.pointer now_law here.opened (uses_own now.core a.owner a.pointer here.own here.used) x.room)) round.0 round.1 round.2);
      }
      (λ why e. let odd : Data (slice_range (data_of (state_in mid) a.pointer) a.from (a.from + a.count)) ≡ Refused why = sym told ∙ e in absurd cc)
      range_viewed.held (ap (λ (f : ℕ → ℕ → ℕ). f a.pointer) x.stored) x.spent same

  -- the object is soiled, and stored into; stores read none of what is stored, and leave it
  module _ (ready new : EvacOf Plain FarSide) (bytes : List ℕ) (long : length bytes ≡ a.count) (small : AreBytes bytes) (soiled : state_in ready ≡ after_soil (state_in mid) a.pointer)
      (ends : state_in new ≡ after_events (state_in ready) (store_events a.owner a.pointer (first_word a.from) (words_touched a.from a.count) (with_range (data_of (state_in ready) a.pointer) a.from bytes)))
      (order : new.book.order ≡ mid.book.order) (later : KeepsRound mid new) (device : new.book.device ≡ mid.book.device) where
    abbrev end : Moment
    end = as_if_stored (moment_in new) a.pointer row

    abbrev dirty : State
    dirty = after_soil (state_in mid) a.pointer

    stored : state_in new ≡ after_events dirty (store_events a.owner a.pointer (first_word a.from) (words_touched a.from a.count) (with_range (data_of dirty a.pointer) a.from bytes))
    stored = subst (λ (t : State). state_in new ≡ after_events t (store_events a.owner a.pointer (first_word a.from) (words_touched a.from a.count) (with_range (data_of t a.pointer) a.from bytes))) soiled ends

    written_there : end.core ≡ with_data (dereferenced now.core a.owner a.pointer) a.pointer a.from bytes
    written_there = write_stored now.core next.core end.core a bytes now_law here x.room x.state small long
        (ap (λ (t : State). with_stored t a.pointer row) stored
        ∙ stores_as_if dirty a.pointer row a.owner a.pointer (packed_word (with_range (data_of dirty a.pointer) a.from bytes)) (range_with_len (first_word a.from) (words_touched a.from a.count)))

    pub write_makes : Makes old (Mutator a.owner (On a.pointer (Writes a.from bytes))) Done new
    write_makes = given_made old new a.owner a.pointer o (Mutator a.owner (On a.pointer (Writes a.from bytes))) Done law is.used x.given (refl, refl)
        record {
          reply = ap (λ r. unless r Refused Done) (sym (writes_room now a here bytes long false x.room));
          moment = write_made now a here x.room bytes long end
              (moment_joined now end (with_data (dereferenced now.core a.owner a.pointer) a.pointer a.from bytes) written_there
              (order ∙ ordered ∙ sym (order_derefs now a.owner a.pointer now_law here.opened (uses_own now.core a.owner a.pointer here.own here.used) x.room)) (later.0 ∙ round.0) (later.1 ∙ round.1) (later.2 ∙ round.2));
        }
        (λ why e. let odd : Done ≡ Refused why = e in absurd cc)
        (ap (λ (t : State). is_some (t.held a.pointer)) written_there ∙ sym (ap (λ (t : State). is_some (t.held a.pointer)) x.state) ∙ range_viewed.held)
        (ap (λ (f : ℕ → ℕ → ℕ). f a.pointer) (ap (λ (t : State). t.stored) stored
        ∙ stores_leave dirty a.owner a.pointer (packed_word (with_range (data_of dirty a.pointer) a.from bytes)) (range_with_len (first_word a.from) (words_touched a.from a.count)) ∙ x.stored))
        (spent_last o old mid new x.spent (spent_same mid new device))
        (holds_both old mid new same (same_holds mid new device))

module _ (old new : EvacOf Plain FarSide) (m p : ℕ) (o : Outside) (law : Law (state_in old)) (opened : is_opened (state_in old) m ≡ true) (own : p / CELLS ≡ m) (used : (state_in old).used p ≡ true)
    (x : Dereferences old new m p o) (round : KeepsRound old new) (same : HoldsSame old new) where
  abbrev words : ℕ → ℕ
  words = words_by o (state_in old) p

  abbrev before : Moment
  before = as_if_stored (moment_in old) p words

  abbrev later : Moment
  later = as_if_stored (moment_in new) p words

  before_law : Law before.core
  before_law = given_law o (state_in old) (far_in old) p law used x.given

  pub view_makes : Makes old (Mutator m (On p UseViews)) Done new
  view_makes =
      let led = derefs before.core m p before_law opened (uses_own before.core m p own used) x.room in
      given_made old new m p o (Mutator m (On p UseViews)) Done law used x.given (refl, refl)
      record {
        reply = ap (λ r. unless r Refused Done) (sym (view_cause before later m p opened own used false x.room));
        moment = view_made before later m p opened own used x.room
            (moment_joined before later (dereferenced before.core m p) x.state (x.order ∙ sym (order_derefs before m p before_law opened (uses_own before.core m p own used) x.room)) round.0 round.1 round.2);
      }
      (λ why e. let odd : Done ≡ Refused why = e in absurd cc)
      (ap (λ (t : State). is_some (t.held p)) x.state ∙ ap is_some led.view.holds.rests)
      (ap (λ (f : ℕ → ℕ → ℕ). f p) x.stored) x.spent same
