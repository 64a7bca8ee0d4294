-- What events are for comes to pass: a pin gives a view where its object is at hand, and the naming of a new object wins.
use Rattle.std.proofs.Common.{◌≡◌, ◌≢◌, ℕ, ◌+◌, ◌/◌, true, cond, nat_eq, refl, sym, ap, subst, ◌∙◌, is_some, Option, Some, List, [], ◌∷◌, ◌++◌, length, if◌then◌else◌}
use Rattle.std.proofs.lemmas.Bool.{and_parts, cond_both, eq-eqb, true≢false}
use Rattle.far_word.specs.declared.pointer.Place.{Place}
use Rattle.far_word.specs.declared.sizes.TheConstants.{CELLS}
use Rattle.far_word.specs.Bytes.{packed_word}
use Rattle.far_word.specs.Header.{head_word}
use Rattle.far_word.specs.Pointer.{read_of}
use Rattle.far_word.specs.Sizes.{words_for}
use Rattle.far_events.specs.declared.event.Event.{Event}
use Rattle.far_events.specs.declared.event.Event.TheVariants.{ReadEpoch as ReadsEpoch, Open as Opens, Pin as Pins, Load as Loads, Store as Stores, Soil as Soils, Adopt as Adopts, Put as Puts, Name as Names}
use Rattle.far_events.specs.declared.event.Reply.{Reply as Answer}
use Rattle.far_events.specs.declared.event.Reply.TheVariants.{Refused as Failed, Done as Wins, Word}
use Rattle.far_events.specs.state.Law.{Law}
use Rattle.far_events.specs.state.State.{State}
use Rattle.far_events.specs.events.Step.{step_of, is_legal, after, answer, pin_answer}
use Rattle.far_core.proofs.KeepOwner.{nonzero}
use Rattle.far_text.specs.Command.{Command, On, Reads, Writes, Views, Mutator, Use}
use Rattle.far_alone.specs.Dereference.{come, dereferenced, sought}
use Rattle.far_book.specs.book.Effects.{near_word}
use Rattle.far_events.specs.events.Ranges.{after_events}
use Rattle.far_alone.specs.EventRows.{ComesToPass, AllComeToPass, AtHand}
use Rattle.far_replay.specs.Events.{IsNoStep, turn_events, events_for}
use Rattle.far_alone.specs.Events.{zero_puts, new_events, view_events, sought_events, come_events, dereference_events, load_events, soil_events, store_events, first_loads, last_loads, part_events, first_word, words_touched, starts_inside, ends_inside}
use Rattle.far_replay_laws.specs.Headline.{IsAtHandFor}
use Rattle.far_replay.specs.Moment.{Moment}
use Rattle.far_alone.specs.Objects.{uses, data_of, with_range}
use Rattle.far_alone.proofs.AloneStates.{lowest_free}
use Rattle.far_alone.proofs.Drops.{drop_comes}
use Rattle.std.specs.List.{AllByRecursion as Each}
use Rattle.far_alone.proofs.Each.{Each-append, Each-row}
use Rattle.far_alone.proofs.MadeLemmas.{AllComeToPass-append}
use Rattle.far_replay.proofs.Ways.{by_way, may_reach}
use Rattle.far_alone.proofs.Views.{ready_of, Ready-view, hand_has_room, hand_is_fast}

-- ---- events that any answer serves
abbrev IsSure : Event → Type 0
IsSure e = (r : Answer) → ComesToPass e r

all_sure : (s : State) (es : List Event) → Each IsSure es → AllComeToPass s es
all_sure s [] q = tt
all_sure s (e ∷ es) q = (q.0 (step_of s e).1, all_sure (step_of s e).0 es q.1)

loads : (m p first count : ℕ) → Each IsSure (load_events m p first count)
loads m p first count = Each-row IsSure (λ i. Loads m p i) first count (λ i _ r. tt)

parts : (m p from count : ℕ) → Each IsSure (part_events m p from count)
parts m p from count =
    Each-append IsSure (first_loads m p from count) (last_loads m p from count)
    (cond_both (starts_inside from count) (Loads m p (from / 8) ∷ []) [] (Each IsSure) (λ _. ((λ r. tt), tt)) (λ _. tt))
    (cond_both (ends_inside from count) (Loads m p ((from + count) / 8) ∷ []) [] (Each IsSure) (λ _. ((λ r. tt), tt)) (λ _. tt))

soils : (s : State) (m p : ℕ) → Each IsSure (soil_events s m p)
soils s m p = cond_both (s.soiled p) [] (Soils m p ∷ []) (Each IsSure) (λ _. tt) (λ _. ((λ r. tt), tt))

stores : (m p first count : ℕ) (bytes : List ℕ) → Each IsSure (store_events m p first count bytes)
stores m p first count bytes = Each-row IsSure (λ i. Stores m p i (packed_word bytes i)) first count (λ i _ r. tt)

-- ---- a view
pin_gives : (s : State) (m p : ℕ) → AtHand s p → ComesToPass (Pins m p) (step_of s (Pins m p)).1
pin_gives s m p hand = cond_both (is_legal s (Pins m p)) (after s (Pins m p), answer s (Pins m p)) (s, Failed) (λ (x : State × Answer). ComesToPass (Pins m p) x.1)
    (λ _. subst (ComesToPass (Pins m p)) (sym (ap (pin_answer (s.cell p)) (Ready-view (read_of (s.cell p)) (ready_of s p hand)))) tt) (λ _. tt)

view_comes : (s : State) (m p : ℕ) → AtHand s p → AllComeToPass s (view_events s m p)
view_comes s m p hand = cond_both (is_some (s.held p)) [] (Pins m p ∷ []) (AllComeToPass s) (λ _. tt) (λ _. (pin_gives s m p hand, tt))

-- so a dereference is a pin then
deref_comes : (s : State) (m p : ℕ) → AtHand s p → AllComeToPass s (dereference_events s m p)
deref_comes s m p hand = subst (AllComeToPass s)
    (sym (ap (λ b. if b then sought_events s m p ++ come_events (sought s m p) p ++ view_events (come (sought s m p) p) m p else view_events s m p) (hand_is_fast s p hand)))
    (view_comes s m p hand)

-- ---- a new object
abbrev LeavesCells : Event → Type 0
LeavesCells e = (t : State) → (step_of t e).0.cell ≡ t.cell

cells_stay : (s : State) (es : List Event) → Each LeavesCells es → (after_events s es).cell ≡ s.cell
cells_stay s [] q = refl
cells_stay s (e ∷ es) q = cells_stay (step_of s e).0 es q.1 ∙ q.0 s

put_leaves : (l at w : ℕ) → LeavesCells (Puts l at w)
put_leaves l at w t = cond_both (is_legal t (Puts l at w)) (after t (Puts l at w), answer t (Puts l at w)) (t, Failed) (λ (x : State × Answer). x.0.cell ≡ t.cell) (λ _. refl) (λ _. refl)

naming_wins : (s : State) (p new : ℕ) → s.cell p ≡ 0 → ComesToPass (Names p 0 new) (step_of s (Names p 0 new)).1
naming_wins s p new free = cond_both (is_legal s (Names p 0 new)) (after s (Names p 0 new), answer s (Names p 0 new)) (s, Failed) (λ (x : State × Answer). ComesToPass (Names p 0 new) x.1)
    (λ _. subst (ComesToPass (Names p 0 new)) (sym (ap (λ b. cond b Wins (Word (s.cell p))) (eq-eqb (s.cell p) 0 free))) tt) (λ _. tt)

pub new_comes : (s : State) (m len ds : ℕ) (o : Option ℕ) (x : Option Place) → ((p : ℕ) → o ≡ Some p → s.cell p ≡ 0) → AllComeToPass s (new_events m len ds o x)
new_comes s m len ds (Some p) (Some place) free =
    let puts : List Event = Puts place.log place.at (head_word p len ds) ∷ zero_puts place (words_for len) in
    let sure : Each IsSure puts = ((λ r. tt), Each-row IsSure (λ i. Puts place.log (place.at + 1 + i) 0) 0 (words_for len) (λ i _ r. tt)) in
    let kept : Each LeavesCells puts =
    (put_leaves place.log place.at (head_word p len ds), Each-row LeavesCells (λ i. Puts place.log (place.at + 1 + i) 0) 0 (words_for len) (λ i _. put_leaves place.log (place.at + 1 + (0 + i)) 0)) in
    let still : (after_events s puts).cell p ≡ 0 = ap (λ (f : ℕ → ℕ). f p) (cells_stay s puts kept) ∙ free p refl in
    AllComeToPass-append s puts (Names p 0 (near_word true len ds place) ∷ Adopts m p ∷ []) (all_sure s puts sure) (naming_wins (after_events s puts) p (near_word true len ds place) still, (tt, tt))
new_comes s m len ds _ _ free = tt

-- ---- each command
-- an object that is used is named
is_named : (s : State) (m p : ℕ) → Law s → uses s m p ≡ true → s.cell p ≢ 0
is_named s m p law ours = nonzero s law p (and_parts (nat_eq (p / CELLS) m) (s.used p) ours).1

-- a read, a write or a view
use_comes : (now : Moment) (m p : ℕ) (how : Use) → AtHand now.core p → AllComeToPass now.core (turn_events now (Mutator m (On p how)))
use_comes now m p (Writes from bytes) hand =
    let view : List Event = dereference_events now.core m p in
    let part : List Event = part_events m p from (length bytes) in
    let first : ℕ = first_word from in
    let touched : ℕ = words_touched from (length bytes) in
    let new : List ℕ = with_range (data_of (dereferenced now.core m p) p) from bytes in
    let soil : List Event = soil_events (dereferenced now.core m p) m p in
    AllComeToPass-append now.core (view ++ soil ++ part) (store_events m p first touched new)
    (AllComeToPass-append now.core (view ++ soil) part
    (AllComeToPass-append now.core view soil (deref_comes now.core m p hand) (all_sure (after_events now.core view) soil (soils (dereferenced now.core m p) m p)))
    (all_sure (after_events now.core (view ++ soil)) part (parts m p from (length bytes))))
    (all_sure (after_events now.core (view ++ soil ++ part)) (store_events m p first touched new) (stores m p first touched new))
use_comes now m p (Reads from len) hand =
    let view : List Event = dereference_events now.core m p in
    let loaded : List Event = load_events m p (first_word from) (words_touched from len) in
    AllComeToPass-append now.core view loaded (deref_comes now.core m p hand) (all_sure (after_events now.core view) loaded (loads m p (first_word from) (words_touched from len)))
use_comes now m p Views hand = deref_comes now.core m p hand

-- each event of a command comes to pass, where its object is at hand
pub all_come : (now : Moment) (c : Command) → IsNoStep c → Law now.core → IsAtHandFor now c → AllComeToPass now.core (events_for now c)
all_come now c told law hand = by_way now (λ d es (x : Moment). IsAtHandFor now d → AllComeToPass now.core es)
    (λ d _. tt)
    (λ m len ds p place e cell found _. new_comes now.core m len ds (Some p) (Some place) (λ q is. lowest_free now.core m q (cell ∙ is)))
    (λ m shut _. cond_both (is_some (now.core.remembered m)) (Opens m ∷ []) (ReadsEpoch m ∷ Opens m ∷ []) (AllComeToPass now.core) (λ _. (tt, tt)) (λ _. (tt, (tt, tt))))
    (λ m shut _. (tt, tt))
    (λ m opened _. (tt, tt))
    (λ m p opened ours hand. view_comes now.core m p (hand (is_named now.core m p law ours)))
    (λ m p how opened ours full hand. absurd (true≢false (sym full ∙ hand_has_room now.core m p (hand (is_named now.core m p law ours)))))
    (λ m p how e hand. use_comes now m p how (hand (is_named now.core m p law (may_reach now m p how e).1)))
    (λ m p within ours unheld _. drop_comes now.core m p law within ours unheld)
    c told hand
