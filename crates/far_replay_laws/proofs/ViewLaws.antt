-- What commands do to views: a read or a write views its object, a close ends its mutator's views, all else leaves them; and the logs of views stay.
use Rattle.std.proofs.Common.{◌≢◌, ◌≡◌, ℕ, ◌+◌, ◌/◌, Bool, true, false, not, nat_lt, cond, is_some, refl, sym, ap, subst, ◌∙◌, Option, Some, None, List, [], ◌∷◌, ◌++◌, length, inl, inr}
use Rattle.std.proofs.lemmas.Bool.{and_parts, cond_both, eq-eqb, ne_eqb}
use Rattle.far_word.specs.declared.pointer.Place.{Place}
use Rattle.far_word.specs.declared.refused.Refused.{Refused as Refusal}
use Rattle.far_word.specs.declared.refused.Refused.TheVariants.{NoRoom, Closed, NotHeld, Range, Marked}
use Rattle.far_word.specs.declared.pointer.PtrWord.{PtrWord}
use Rattle.far_word.specs.declared.pointer.PtrWord.TheVariants.{Near, Far}
use Rattle.far_word.specs.declared.sizes.TheConstants.{CELLS}
use mathlib.Core.Path.{fun_ext}
use Rattle.far_word.specs.Bytes.{packed_word}
use Rattle.far_word.specs.Header.{head_word}
use Rattle.far_word.specs.Pointer.{read_of}
use Rattle.far_word.specs.Sizes.{size_of, words_for}
use Rattle.far_events.specs.declared.event.Event.{Event}
use Rattle.far_events.specs.declared.event.Event.TheVariants.{ReadEpoch as ReadsEpoch, Open as Opens, Pin as Pins, Load as Loads, Store as Stores, Soil as Soils, Close as Closes, Adopt as Adopts, Put as Puts, Name as Names}
use Rattle.far_events.specs.declared.event.Reply.{Reply as Answer}
use Rattle.far_events.specs.declared.event.Reply.TheVariants.{Refused as Failed}
use Rattle.far_events.specs.state.Law.{Law}
use Rattle.far_core.specs.state.Room.{room}
use Rattle.far_events.specs.state.State.{State}
use Rattle.far_events.specs.events.Copies.{data_at}
use Rattle.far_events.specs.events.Step.{is_opened, step_of, is_legal, after, answer, Fits}
use Rattle.far_core.proofs.Leaving.{held_stays}
use Rattle.far_replay.specs.Moment.{Moment, as_if_stored, moment_of, with_stored}
use Rattle.far_replay.specs.Answers.{Answered, Commanded, Served, Unbrought, IsMoment}
use Rattle.far_replay.specs.Commanded.{KeepsFar, AsksFor, Misled}
use Rattle.far_book.specs.book.Reached.{Reached}
use Rattle.far_book.proofs.region.Reaching.{reached_more}
use Rattle.far_evac.specs.declared.answers.RoundEnd.TheVariants.{Limit}
use Rattle.far_evac.specs.declared.phase.Phase.TheVariants.{Evacuating}
use Rattle.far_text.specs.Command.{Command, New, Open, On, Use, Reads, Writes, Views, Close, Drop, Try, Epoch, Mutator, Book, Evacuator, Step, Evacuate, Round}
use Rattle.far_text.specs.Written.{WritesBytes, AllWriteBytes}
use Rattle.far_replay.specs.Changes.{ViewsObject}
use Rattle.far_replay_laws.specs.Headline.{IsAtHandFor, LogsStay, Reaches, ViewsNothing, ViewsAfter, carried_as, TellsEvents}
use Rattle.far_events.specs.events.Ranges.{after_events}
use Rattle.far_alone.specs.EventRows.{AllSucceed, AtHand, Succeeds}
use Rattle.far_reply.specs.Reply.{Reply, Ended, Evacuated, Refused}
use Rattle.far_replay.specs.Events.{events_for, IsNoStep, turn_events, refused_events}
use Rattle.far_alone.specs.Events.{zero_puts, new_events, open_events, view_events, asked_events, asked_events_of, sought_events, span_events, name_events, come_events, come_events_of, dereference_events, load_events, soil_events, store_events, first_loads, last_loads, part_events, drop_events, first_word, words_touched, starts_inside, ends_inside}
use Rattle.far_alone.specs.Objects.{lowest_cell, with_range, data_of, uses}
use Rattle.far_alone.specs.Dereference.{come, comes_to, dereferenced, has_no_room, sought}
use Rattle.far_book.specs.book.Effects.{near_word}
use Rattle.far_alone.specs.Effects.{is_slow, with_view}
use Rattle.far_replay.specs.Turn.{causes, refusal, unless, turn_reply, reply_to}
use Rattle.far_replay_laws.proofs.Coming.{all_come}
use Rattle.far_replay.proofs.Lasting.{Lasts, all_pass, command_carried, moment_lasts, served_lasts, still_lasts, IsCarriedOut, misled_before}
use Rattle.far_replay.proofs.Outcomes.{by_outcome}
use Rattle.far_replay_laws.proofs.Refusals.{EachCause, EachFirst, among, each_first, far_away, of_far}
use Rattle.far_replay.proofs.RoundLeads.{reached_reaches, step_keeps, step_leads}
use Rattle.far_replay.proofs.Turns.{led, reached, read_leads, write_leads}
use Rattle.far_replay.proofs.Ways.{access_fact, lacks_place, marked_last, tried, by_way}
use Rattle.far_replay.proofs.Dereferences.{sought_held, sought_leads, view_views}
use Rattle.far_alone.proofs.Views.{fast_seen, view_is, slow_view}
use Rattle.far_replay.proofs.ViewsRest.{NoClose, ClosesLast, none_closes, fronts_stay, held_now}
use Rattle.std.specs.List.{AllByRecursion as Each}
use Rattle.far_alone.proofs.Each.{Each-append, Each-row}
use Rattle.far_replay.proofs.AsIfStored.{stored_again}
use Rattle.far_events.proofs.Put.{put_same}
use Rattle.far_replay_laws.proofs.Misleading.{as_misled, by_asked, misled_allowed, misled_uses}
use Rattle.far_replay_laws.proofs.StoredApart.{StoresNone, asked_none, row_as_if, row_keeps, row_succeeds}

-- ---- events that make no view and end none
abbrev LeavesViews : Event → Type 0
LeavesViews e = ((m p : ℕ) → e ≢ Pins m p) × ((m : ℕ) → e ≢ Closes m)

-- a row of them leaves the views
pub row_stays : (s : State) (es : List Event) → Each LeavesViews es → (after_events s es).held ≡ s.held
row_stays s [] q = refl
row_stays s (e ∷ es) q = row_stays (step_of s e).0 es q.1 ∙ fun_ext (λ p. held_stays s e p (q.0.0 (p / CELLS) p) (q.0.1 (p / CELLS)))

load : (m p i : ℕ) → LeavesViews (Loads m p i)
load m p i = ((λ _ _ e. absurd cc), (λ _ e. absurd cc))

loads : (m p first count : ℕ) → Each LeavesViews (load_events m p first count)
loads m p first count = Each-row LeavesViews (λ i. Loads m p i) first count (λ i _. load m p (first + i))

parts : (m p from count : ℕ) → Each LeavesViews (part_events m p from count)
parts m p from count =
    Each-append LeavesViews (first_loads m p from count) (last_loads m p from count)
    (cond_both (starts_inside from count) (Loads m p (from / 8) ∷ []) [] (Each LeavesViews) (λ _. (load m p (from / 8), tt)) (λ _. tt))
    (cond_both (ends_inside from count) (Loads m p ((from + count) / 8) ∷ []) [] (Each LeavesViews) (λ _. (load m p ((from + count) / 8), tt)) (λ _. tt))

soils : (s : State) (m p : ℕ) → Each LeavesViews (soil_events s m p)
soils s m p = cond_both (s.soiled p) [] (Soils m p ∷ []) (Each LeavesViews) (λ _. tt) (λ _. (((λ _ _ e. absurd cc), (λ _ e. absurd cc)), tt))

stores : (m p first count : ℕ) (bytes : List ℕ) → Each LeavesViews (store_events m p first count bytes)
stores m p first count bytes = Each-row LeavesViews (λ i. Stores m p i (packed_word bytes i)) first count (λ i _. ((λ _ _ e. absurd cc), (λ _ e. absurd cc)))

pub opens : (s : State) (m : ℕ) → Each LeavesViews (open_events s m)
opens s m = cond_both (is_some (s.remembered m)) (Opens m ∷ []) (ReadsEpoch m ∷ Opens m ∷ []) (Each LeavesViews)
    (λ _. (((λ _ _ e. absurd cc), (λ _ e. absurd cc)), tt)) (λ _. (((λ _ _ e. absurd cc), (λ _ e. absurd cc)), (((λ _ _ e. absurd cc), (λ _ e. absurd cc)), tt)))

pub reads : (m : ℕ) → Each LeavesViews (ReadsEpoch m ∷ [])
reads m = (((λ _ _ e. absurd cc), (λ _ e. absurd cc)), tt)

pub news : (m len ds : ℕ) (x : Option ℕ) (y : Option Place) → Each LeavesViews (new_events m len ds x y)
news m len ds (Some p) (Some place) =
    Each-append LeavesViews (Puts place.log place.at (head_word p len ds) ∷ zero_puts place (words_for len)) (Names p 0 (near_word true len ds place) ∷ Adopts m p ∷ [])
    (((λ _ _ e. absurd cc), (λ _ e. absurd cc)), Each-row LeavesViews (λ i. Puts place.log (place.at + 1 + i) 0) 0 (words_for len) (λ i _. ((λ _ _ e. absurd cc), (λ _ e. absurd cc))))
    (((λ _ _ e. absurd cc), (λ _ e. absurd cc)), (((λ _ _ e. absurd cc), (λ _ e. absurd cc)), tt))
news m len ds _ _ = tt

pub drop_leaves_views : (s : State) (m p : ℕ) → Each LeavesViews (drop_events s m p)
drop_leaves_views s m p = (((λ _ _ e. absurd cc), (λ _ e. absurd cc)), (((λ _ _ e. absurd cc), (λ _ e. absurd cc)), (((λ _ _ e. absurd cc), (λ _ e. absurd cc)), tt)))

-- ---- each command
-- a close that succeeds ends its mutator's views
pub close_views : (s : State) (m : ℕ) → Succeeds (Closes m) (step_of s (Closes m)).1 → ViewsNothing s (step_of s (Closes m)).0 m
close_views s m = cond_both (is_legal s (Closes m)) (after s (Closes m), answer s (Closes m)) (s, Failed) (λ (x : State × Answer). Succeeds (Closes m) x.1 → ViewsNothing s x.0 m)
    (λ _ _. record {
      none = λ q e. ap (λ b. cond b None (s.held q)) (eq-eqb (q / CELLS) m e);
      others = λ q ne. ap (λ b. cond b None (s.held q)) (ne_eqb (q / CELLS) m ne);
    })
    (λ _ ok. absurd ok)

-- what the events of a command leave that isn't refused
made_views : (now : Moment) (c : Command) → IsNoStep c → Law now.core → refusal now c ≡ None → WritesBytes c → AllSucceed now.core (turn_events now c) →
    ViewsAfter now.core c (turn_reply now c) (after_events now.core (turn_events now c))
made_views now (Mutator m (New len ds)) told law e small ok = row_stays now.core (turn_events now (Mutator m (New len ds))) (news m len ds (lowest_cell now.core m) (room now.core (size_of len) true))
made_views now (Mutator m Open) told law e small ok = row_stays now.core (open_events now.core m) (opens now.core m)
made_views now (Mutator m (On p (Writes from bytes))) told law e small ok =
    let access = access_fact now.core m p from (length bytes) e in
    let views = (led now.core m p from (length bytes) law access).views in
    subst (λ (t : State). ViewsObject now.core t p) (sym (write_leads now.core m p from bytes law access small).ends) record { viewed = views.viewed; kept = views.kept; others = views.others }
made_views now (Mutator m (On p (Reads from len))) told law e small ok =
    let access = access_fact now.core m p from len e in
    subst (λ (t : State). ViewsObject now.core t p) (sym (read_leads now.core m p from len law access).ends) (led now.core m p from len law access).views
made_views now (Mutator m Close) told law e small ok = close_views now.core m ok.0
made_views now (Mutator m (Drop p)) told law e small ok = row_stays now.core (drop_events now.core m p) (drop_leaves_views now.core m p)
made_views now (Mutator m (On p Views)) told law e small ok =
    let all = reached now m p Views law e in
    subst (λ (t : State). ViewsObject now.core t p) (sym all.leads.ends) all.views
made_views now (Mutator m (Try p)) told law e small ok =
    let h = tried (nat_lt m now.core.mutators) (is_opened now.core m) (uses now.core m p) (is_slow now.core p) Range Closed NotHeld (Marked (now.core.cell p)) e in
    subst (λ (t : State). ViewsObject now.core t p) (sym (view_is now.core m p law h.1 h.2)) (view_views now.core m p law h.1 h.2 (fast_seen now.core p h.3))
made_views now (Mutator m Epoch) told law e small ok = row_stays now.core (ReadsEpoch m ∷ []) (reads m)
made_views now (Evacuator step) told law e small ok = absurd told
made_views now _ told law e small ok = refl

-- the pin that found a mark leaves the views
slow_stays : (s : State) (m p : ℕ) → Law s → is_opened s m ≡ true → uses s m p ≡ true → is_slow s p ≡ true → (after_events s (view_events s m p)).held ≡ s.held
slow_stays s m p law opened ours slow = ap (λ (t : State). t.held) (view_is s m p law opened ours ∙ slow_view s p slow)

-- and so does the asking for an object that finds no place
asked_stays : (s : State) (m p : ℕ) → Law s → is_opened s m ≡ true → uses s m p ≡ true → has_no_room s m p ≡ true → (after_events s (sought_events s m p)).held ≡ s.held
asked_stays s m p law opened ours full =
    let slow : is_slow s p ≡ true = (and_parts (is_slow s p) (not (is_some (comes_to (sought s m p) p))) full).0 in
    ap (λ (t : State). t.held) (sought_leads s m p law opened ours slow).ends ∙ sought_held s m p law opened ours slow

-- what a refusal leaves
refused_views : (now : Moment) (c : Command) (why : Refusal) → Law now.core → refusal now c ≡ Some why →
    ViewsAfter now.core c (Refused why) (after_events now.core (refused_events now c why))
refused_views now (Mutator m (On p how)) NoRoom law e =
    let h = lacks_place now m p how e in
    asked_stays now.core m p law h.0 h.1 h.2
refused_views now (Mutator m (Try p)) (Marked word) law e =
    let h = marked_last (nat_lt m now.core.mutators) (is_opened now.core m) (uses now.core m p) (is_slow now.core p) (now.core.cell p) word e in
    slow_stays now.core m p law h.1 h.2 h.3
refused_views now _ why law e = refl

views_after : (now : Moment) (c : Command) (o : Option Refusal) → IsNoStep c → Law now.core → refusal now c ≡ o → WritesBytes c → AllSucceed now.core (unless o (refused_events now c) (turn_events now c)) →
    ViewsAfter now.core c (unless o Refused (turn_reply now c)) (after_events now.core (unless o (refused_events now c) (turn_events now c)))
views_after now c None told law e small ok = made_views now c told law e small ok
views_after now c (Some why) told law e small ok = refused_views now c why law e

told_views : (now : Moment) (c : Command) (r : Reply) (next : Moment) → IsNoStep c → Lasts now → WritesBytes c → Served now c r next → ViewsAfter now.core c r next.core
told_views now c r next told lasts later h =
    let x = command_carried now c r next told lasts later h in
    subst (λ y. ViewsAfter now.core c y next.core) (sym x.reply)
    (subst (λ (t : State). ViewsAfter now.core c (reply_to now c) t) (sym x.state) (views_after now c (refusal now c) told lasts.law refl later x.made))

served_views : (now : Moment) (c : Command) (r : Reply) (next : Moment) → Lasts now → WritesBytes c → Served now c r next → ViewsAfter now.core c r next.core
served_views now (Mutator m request) r next lasts later h = told_views now (Mutator m request) r next tt lasts later h
served_views now (Book inquiry) r next lasts later h = told_views now (Book inquiry) r next tt lasts later h
served_views now (Evacuator step) r next lasts later h = ap (λ (x : Moment). x.core.held) h.moment ∙ (step_keeps now step lasts.law lasts.round lasts.alone).held

tried_views : (now : Moment) (c : Command) (why : Refusal) (m p : ℕ) (r : Reply) (next : Moment) → Lasts now → Unbrought why now c m p r next → next.core.held ≡ now.core.held
tried_views now c why m p r next lasts h = served_views now _ _ next lasts tt h.tried

-- and one that is given other words views what it would if they were stored
views_as_if : (s t : State) (p : ℕ) (row : ℕ → ℕ) → ViewsObject (with_stored s p row) (with_stored t p row) p → ViewsObject s t p
views_as_if s t p row x = record { viewed = x.viewed; kept = x.kept; others = x.others }

pub views_last : (now : Moment) (c : Command) (r : Reply) (next : Moment) → IsMoment now → WritesBytes c → Commanded now c r next → ViewsAfter now.core c r next.core
views_last now c r next is later h =
    let lasts = moment_lasts now is in
    by_outcome now r next (λ d. WritesBytes d → ViewsAfter now.core d r next.core)
    (λ d h later. served_views now d r next lasts later h)
    (λ why m p how h _. subst (λ x. ViewsAfter now.core (Mutator m (On p how)) x next.core) (sym h.reply) (tried_views now (Mutator m (On p how)) why m p r next lasts h))
    (λ why objects count h _. served_views now (Evacuator (Evacuate objects)) (Evacuated h.progress) next lasts tt h.left)
    (λ why turns objects policy most count h later.
    served_views h.stood (Evacuator (Evacuate objects)) (Evacuated h.progress) next (served_lasts now (Evacuator (Round policy most turns)) (Ended (Limit Evacuating)) h.stood lasts later h.turned) tt h.left
    ∙ served_views now (Evacuator (Round policy most turns)) (Ended (Limit Evacuating)) h.stood lasts later h.turned)
    (λ row m p d asks h later. as_misled row now r next m p (λ now c r next. ViewsAfter now.core c r next.core) (λ from bytes. views_as_if now.core next.core p row) (λ from len bytes. views_as_if now.core next.core p row)
    (views_as_if now.core next.core p row) d asks h (served_views (as_if_stored now p row) d r (as_if_stored next p row) (misled_before row now d p r next lasts h) later h.served))
    c h later

-- ---- the logs in which views rest stay
-- a close is the last event of its command
no_close : (es : List Event) → Each LeavesViews es → Each NoClose es
no_close [] q = tt
no_close (e ∷ es) q = (q.0.1, no_close es q.1)

view_no_close : (s : State) (m p : ℕ) → Each NoClose (view_events s m p)
view_no_close s m p = cond_both (is_some (s.held p)) [] (Pins m p ∷ []) (Each NoClose) (λ _. tt) (λ _. ((λ _ e. absurd cc), tt))

asked_no_close : (m p : ℕ) (o : Option PtrWord) → Each NoClose (asked_events_of m p o)
asked_no_close m p (Some (Near len ds place marks)) = ((λ _ e. absurd cc), tt)
asked_no_close m p _ = tt

sought_no_close : (s : State) (m p : ℕ) → Each NoClose (sought_events s m p)
sought_no_close s m p = Each-append NoClose (view_events s m p) (asked_events (with_view s p) m p) (view_no_close s m p) (asked_no_close m p (read_of ((with_view s p).cell p)))

span_no_close : (s : State) (p : ℕ) (dirty : Bool) (len ds : ℕ) (place : Place) (row : ℕ → ℕ) → Each NoClose (span_events p len ds place row ++ name_events s p dirty len ds place)
span_no_close s p dirty len ds place row = Each-append NoClose (span_events p len ds place row) (name_events s p dirty len ds place)
    ((λ _ e. absurd cc), Each-row NoClose (λ i. Puts place.log (place.at + 1 + i) (row i)) 0 (words_for len) (λ i _ _ e. absurd cc)) ((λ _ e. absurd cc), tt)

come_no_close : (s : State) (p : ℕ) (x : Option Place) (o : Option PtrWord) → Each NoClose (come_events_of s p x o)
come_no_close s p (Some place) (Some (Near len ds from marks)) =
    cond_both marks.evac (span_events p len ds place (data_at s.word from) ++ name_events s p marks.dirty len ds place) (name_events s p marks.dirty len ds place) (Each NoClose)
    (λ _. span_no_close s p marks.dirty len ds place (data_at s.word from)) (λ _. ((λ _ e. absurd cc), tt))
come_no_close s p (Some place) (Some (Far len ds marks)) = span_no_close s p false len ds place (s.stored p)
come_no_close s p _ _ = tt

deref_no_close : (s : State) (m p : ℕ) → Each NoClose (dereference_events s m p)
deref_no_close s m p =
    let came : List Event = come_events (sought s m p) p in
    let again : List Event = view_events (come (sought s m p) p) m p in
    cond_both (is_slow s p) (sought_events s m p ++ came ++ again) (view_events s m p) (Each NoClose)
    (λ _. Each-append NoClose (sought_events s m p ++ came) again
    (Each-append NoClose (sought_events s m p) came (sought_no_close s m p) (come_no_close (sought s m p) p (comes_to (sought s m p) p) (read_of ((sought s m p).cell p)))) (view_no_close (come (sought s m p) p) m p))
    (λ _. view_no_close s m p)

use_closes_last : (now : Moment) (m p : ℕ) (how : Use) → ClosesLast (turn_events now (Mutator m (On p how)))
use_closes_last now m p (Writes from bytes) =
    let new : List ℕ = with_range (data_of (dereferenced now.core m p) p) from bytes in
    let part : List Event = part_events m p from (length bytes) in
    let stored : List Event = store_events m p (first_word from) (words_touched from (length bytes)) new in
    let soil : List Event = soil_events (dereferenced now.core m p) m p in
    none_closes (dereference_events now.core m p ++ soil ++ part ++ stored) (Each-append NoClose (dereference_events now.core m p ++ soil ++ part) stored
    (Each-append NoClose (dereference_events now.core m p ++ soil) part
    (Each-append NoClose (dereference_events now.core m p) soil (deref_no_close now.core m p) (no_close soil (soils (dereferenced now.core m p) m p))) (no_close part (parts m p from (length bytes)))) (no_close stored (stores m p (first_word from) (words_touched from (length bytes)) new)))
use_closes_last now m p (Reads from len) =
    let loaded : List Event = load_events m p (first_word from) (words_touched from len) in
    none_closes (dereference_events now.core m p ++ loaded) (Each-append NoClose (dereference_events now.core m p) loaded (deref_no_close now.core m p) (no_close loaded (loads m p (first_word from) (words_touched from len))))
use_closes_last now m p Views = none_closes (dereference_events now.core m p) (deref_no_close now.core m p)

command_closes_last : (now : Moment) (c : Command) → IsNoStep c → ClosesLast (events_for now c)
command_closes_last now c told = by_way now (λ d es (x : Moment). ClosesLast es)
    (λ d. tt)
    (λ m len ds p place e cell found. none_closes (new_events m len ds (Some p) (Some place)) (no_close (new_events m len ds (Some p) (Some place)) (news m len ds (Some p) (Some place))))
    (λ m shut. none_closes (open_events now.core m) (no_close (open_events now.core m) (opens now.core m)))
    (λ m shut. tt)
    (λ m opened. tt)
    (λ m p opened ours. none_closes (view_events now.core m p) (view_no_close now.core m p))
    (λ m p how opened ours full. none_closes (sought_events now.core m p) (sought_no_close now.core m p))
    (λ m p how e. use_closes_last now m p how)
    (λ m p within ours unheld. none_closes (drop_events now.core m p) (no_close (drop_events now.core m p) (drop_leaves_views now.core m p)))
    c told

-- ---- each command is carried out by events
-- one that is served by its own
each_as : (now : Moment) (c : Command) → EachFirst (λ why. carried_as c (Refused why) ≡ c) (causes now c)
each_as now (Mutator m (On p Views)) = ((λ _. refl), λ _. ((λ _. refl), λ _. ((λ _. refl), λ _. ((λ _. refl), λ _. tt))))
each_as now (Mutator m (On p how)) = ((λ _. refl), λ _. ((λ _. refl), λ _. ((λ _. refl), λ _. ((λ _. refl), λ _. ((λ _. refl), λ _. tt)))))
each_as now c = each_first (λ why. carried_as c (Refused why) ≡ c) (causes now c) (any_cause (causes now c)) where
  any_cause : (cs : List (Bool × Refusal)) → EachCause (λ why. c ≡ c) cs
  any_cause [] = tt
  any_cause (x ∷ xs) = (refl, any_cause xs)

turn_as : (now : Moment) (c : Command) → carried_as c (turn_reply now c) ≡ c
turn_as now (Mutator m (On p (Writes from bytes))) = refl
turn_as now _ = refl

reply_as : (now : Moment) (c : Command) (o : Option Refusal) → refusal now c ≡ o → carried_as c (unless o Refused (turn_reply now c)) ≡ c
reply_as now c None e = turn_as now c
reply_as now c (Some why) e = among (λ why. carried_as c (Refused why) ≡ c) (causes now c) why (each_as now c) e

served_as : (now : Moment) (c : Command) (r : Reply) (next : Moment) → Served now c r next → carried_as c r ≡ c
served_as now c r next h = ap (carried_as c) h.reply ∙ reply_as now c (refusal now c) refl

told_reach : (now : Moment) (c : Command) (r : Reply) (next : Moment) → IsNoStep c → Lasts now → WritesBytes c → Served now c r next → Reaches now c r next
told_reach now c r next told lasts bytes h =
    let x = command_carried now c r next told lasts bytes h in
    record {
      events = events_for now c;
      told = λ _. inl (ap (events_for now) (sym (served_as now c r next h)));
      of_book = λ no. absurd (no told);
      ends = x.state;
      pass = all_pass now.core (events_for now c) lasts.law x.fit x.made;
      succeed = x.made;
      come = λ _. all_come now c told lasts.law;
      stay = λ es mid rest front p place. fronts_stay now.core es mid rest lasts.law (subst (Each Fits) (sym front) x.fit)
          (subst ClosesLast (sym front) (command_closes_last now c told)) p place;
    }

-- what a step reaches, and steps one after the other
step_way : (now : Moment) (step : Step) (r : Reply) (next : Moment) → Lasts now → Served now (Evacuator step) r next → Reached now.core next.core
step_way now step r next lasts h = subst (λ (x : Moment). Reached now.core x.core) (sym h.moment) (step_leads now step lasts.law lasts.round lasts.alone).reached

way_reach : (now : Moment) (step : Step) (r : Reply) (next : Moment) → Lasts now → Reached now.core next.core → Reaches now (Evacuator step) r next
way_reach now step r next lasts way =
    let x = reached_reaches now.core next.core lasts.law way in
    record {
      events = x.events;
      told = λ told. absurd told;
      of_book = λ _. x.of_book;
      ends = x.ends;
      pass = x.pass;
      succeed = x.succeed;
      come = λ told. absurd told;
      stay = x.stay;
    }

pub served_reach : (now : Moment) (c : Command) (r : Reply) (next : Moment) → Lasts now → WritesBytes c → Served now c r next → Reaches now c r next
served_reach now (Mutator m request) r next lasts bytes h = told_reach now (Mutator m request) r next tt lasts bytes h
served_reach now (Book inquiry) r next lasts bytes h = told_reach now (Book inquiry) r next tt lasts bytes h
served_reach now (Evacuator step) r next lasts bytes h = way_reach now step r next lasts (step_way now step r next lasts h)

-- one of a mutator that the device refuses is carried out as a try
module _ (why : Refusal) (now : Moment) (c : Command) (m p : ℕ) (r : Reply) (next : Moment) (lasts : Lasts now) (h : Unbrought why now c m p r next) (told : IsNoStep c) (tries : carried_as c r ≡ Mutator m (Try p))
    (at_hand : IsAtHandFor now c → now.core.cell p ≢ 0 → AtHand now.core p) where
  pub tried_reach : Reaches now c r next
  tried_reach =
      let x = told_reach now (Mutator m (Try p)) (Refused (Marked (now.core.cell p))) next tt lasts tt h.tried in
      record {
        events = x.events;
        told = λ _. subst (λ d. TellsEvents now d x.events) (sym tries) (x.told tt);
        of_book = λ no. absurd (no told);
        ends = x.ends;
        pass = x.pass;
        succeed = x.succeed;
        come = λ _ hand. absurd (far_away now.core p h.far (at_hand hand));
        stay = x.stay;
      }

-- one that is given other words is carried out by the events that it has where these are stored
again : (s : State) (p : ℕ) (row words : ℕ → ℕ) → words ≡ s.stored p → s ≡ with_stored (with_stored s p row) p words
again s p row words e = ap (λ (x : Moment). x.core) (stored_again (moment_of s) p row words e)

module _ (row : ℕ → ℕ) (now : Moment) (c : Command) (m p : ℕ) (r : Reply) (next : Moment) (lasts : Lasts now) (asks : AsksFor m p c) (told : IsNoStep c) (bytes : WritesBytes c) (h : Misled row now c p r next)
    (at_hand : IsAtHandFor now c → now.core.cell p ≢ 0 → AtHand now.core p) where
  abbrev other : Moment
  other = as_if_stored now p row

  abbrev made : List Event
  made = events_for other c

  carried : IsCarriedOut other c r (as_if_stored next p row).core
  carried = command_carried other c r (as_if_stored next p row) told (misled_before row now c p r next lasts h) bytes h.served

  none_stored : Each StoresNone made
  none_stored =
      let allowed = misled_allowed row now c p r next h in
      let uses_it = misled_uses row now m p c asks allowed in
      asked_none other m p c asks (misled_before row now c p r next lasts h).law uses_it.0 uses_it.1 h.far allowed

  all_made : AllSucceed now.core made
  all_made = row_succeeds now.core p row made h.lies none_stored carried.made

  ends_so : next.core ≡ after_events now.core made
  ends_so =
      let words : ℕ → ℕ = now.core.stored p in
      let end : State = after_events now.core made in
      let there : with_stored next.core p row ≡ with_stored end p row = carried.state ∙ row_as_if now.core p row made h.lies none_stored in
      let kept : with_stored end p words ≡ end = row_keeps now.core p made h.lies none_stored in
      again next.core p row words (sym h.kept) ∙ ap (λ (t : State). with_stored t p words) there
      ∙ sym (again end p row words (sym (put_same end.stored p words p refl) ∙ ap (λ (t : State). t.stored p) kept))

  pub misled_reach : Reaches now c r next
  misled_reach = record {
    events = made;
    told = λ _. subst (λ d. TellsEvents now d made) (sym (served_as other c r (as_if_stored next p row) h.served)) (inr (h.lies, (m, p, asks, h.far, row, h.fits, refl)));
    of_book = λ no. absurd (no told);
    ends = ends_so;
    pass = all_pass now.core made lasts.law carried.fit all_made;
    succeed = all_made;
    come = λ _ hand. absurd (far_away now.core p h.far (at_hand hand));
    stay = λ es mid rest front q place. fronts_stay now.core es mid rest lasts.law (subst (Each Fits) (sym front) carried.fit)
        (subst ClosesLast (sym front) (command_closes_last other c told)) q place;
  }

as_try : (why : Refusal) (m p : ℕ) (how : Use) → KeepsFar why → carried_as (Mutator m (On p how)) (Refused why) ≡ Mutator m (Try p)
as_try why m p how h = of_far (λ x. carried_as (Mutator m (On p how)) (Refused x) ≡ Mutator m (Try p)) why h refl refl

reach : (now : Moment) (c : Command) (r : Reply) (next : Moment) → Lasts now → WritesBytes c → Commanded now c r next → Reaches now c r next
reach now c r next lasts bytes h = by_outcome now r next (λ d. WritesBytes d → Reaches now d r next)
    (λ d h bytes. served_reach now d r next lasts bytes h)
    (λ why m p how h _. tried_reach why now (Mutator m (On p how)) m p r next lasts h tt (ap (carried_as (Mutator m (On p how))) h.reply ∙ as_try why m p how h.cause) (λ hand. hand))
    (λ why objects count h _. way_reach now (Evacuate count) r next lasts (step_way now (Evacuate objects) (Evacuated h.progress) next lasts h.left))
    (λ why turns objects policy most count h bytes.
    let later = served_lasts now (Evacuator (Round policy most turns)) (Ended (Limit Evacuating)) h.stood lasts bytes h.turned in
    way_reach now (Round policy most count) r next lasts
    (reached_more now.core h.stood.core next.core (step_way now (Round policy most turns) (Ended (Limit Evacuating)) h.stood lasts h.turned) (step_way h.stood (Evacuate objects) (Evacuated h.progress) next later h.left)))
    (λ row m p d asks h bytes. by_asked m p (λ x. WritesBytes x → Misled row now x p r next → Reaches now x r next)
    (λ how bytes k. misled_reach row now (Mutator m (On p how)) m p r next lasts (refl, refl) tt bytes k (λ hand. hand)) d asks bytes h)
    c h bytes

pub events_reach : (now : Moment) (c : Command) (r : Reply) (next : Moment) → IsMoment now → WritesBytes c → Commanded now c r next → Reaches now c r next
events_reach now c r next is bytes h = reach now c r next (moment_lasts now is) bytes h

-- the logs in which views rest stay through each command
stay_all : (now : Moment) (cs : List Command) (rs : List Reply) (moments : List Moment) → Lasts now → AllWriteBytes cs → Answered now cs rs moments → LogsStay now cs rs moments
stay_all now [] [] [] lasts later h = held_now now.core lasts.law
stay_all now (c ∷ cs) (r ∷ rs) (next ∷ ms) lasts later h =
    (reach now c r next lasts later.0 h.0, stay_all next cs rs ms (still_lasts now c r next lasts later.0 h.0) later.1 h.1)
stay_all now _ _ _ lasts later h = absurd h

pub logs_stay : (now : Moment) (cs : List Command) (rs : List Reply) (moments : List Moment) → IsMoment now → AllWriteBytes cs → Answered now cs rs moments → LogsStay now cs rs moments
logs_stay now cs rs moments is later h = stay_all now cs rs moments (moment_lasts now is) later h
