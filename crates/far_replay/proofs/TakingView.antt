-- What a dereference takes of the logs.
use Rattle.std.proofs.Common.{◌≡◌, ℕ, ◌+◌, Bool, true, false, cond, refl, sym, ap, ◌∙◌, Option, Some, None, is_some}
use Rattle.std.specs.Bool.{MatchBool}
use Rattle.std.proofs.lemmas.Bool.{cond_both, false≢true}
use Rattle.far_word.specs.declared.mark.Mark.TheVariants.{Hot, Moved}
use Rattle.far_word.specs.declared.pointer.Place.{Place}
use Rattle.far_word.specs.declared.pointer.PtrWord.{PtrWord}
use Rattle.far_word.specs.declared.pointer.PtrWord.TheVariants.{Free, Near, Far}
use Rattle.far_word.specs.Mark.{marks_with}
use Rattle.far_word.specs.Pointer.{read_of}
use Rattle.far_word.specs.Sizes.{size_of}
use Rattle.far_events.specs.declared.event.Event.TheVariants.{Ask as Asks}
use Rattle.far_events.specs.events.Step.{after, after_pin, is_opened}
use Rattle.far_events.specs.state.Law.{Law, in_use}
use Rattle.far_core.specs.state.Room.{room}
use Rattle.far_events.proofs.Cells.{map_mark}
use Rattle.far_events.specs.state.State.{State, put}
use Rattle.far_events.proofs.Put.{put_other, put_same}
use Rattle.far_core.proofs.events.Ask.{reads}
use Rattle.far_book.specs.book.Dealing.{goal_of}
use Rattle.far_book.specs.book.Fetching.{far_len}
use Rattle.far_alone.specs.Dereference.{comes_to, comes_to_of, sought, sought_of}
use Rattle.far_alone.specs.Effects.{is_slow, with_view}
use Rattle.far_replay.specs.Taking.{BringTakes, DereferenceTakes, LacksRoom, TakesNone, TakesSpan}
use Rattle.far_alone.specs.Objects.{uses}
use Rattle.far_replay.proofs.LogBytes.{move_from, move_then, names_at, none_more, none_taken, worded_takes}
use Rattle.far_alone.proofs.Views.{pin_read}

-- a view takes nothing
pub view_takes : (s : State) (m p : ℕ) → Law s → is_opened s m ≡ true → uses s m p ≡ true → TakesNone s (with_view s p)
view_takes s m p law opened ours = cond_both (is_some (s.held p)) s (after_pin s p) (TakesNone s) (λ _. none_taken s)
    (λ _. worded_takes s (after_pin s p) refl refl refl (names_at s (after_pin s p) p Hot (λ q ne. put_other s.cell p _ q ne) (pin_read s m p law opened ours)))

-- two states tell the same room
pub record SameLogs (s u : State) : Type 0 where
  pub none : TakesNone s u
  pub rooms : (n : ℕ) (reserve : Bool) → room u n reserve ≡ room s n reserve

same_more : (s t u : State) → SameLogs s t → SameLogs t u → SameLogs s u
same_more s t u a b = record { none = none_more s t u a.none b.none; rooms = λ n reserve. b.rooms n reserve ∙ a.rooms n reserve }

asked_logs : (s : State) (m p : ℕ) → Law s → s.used p ≡ true → s.held p ≡ None → (o : Option PtrWord) → SameLogs s (sought_of s m p o)
asked_logs s m p law used unheld (Some (Near len ds place marks)) =
    let t : State = after s (Asks m p Moved) in
    record {
      none = worded_takes s t refl refl refl (names_at s t p Moved (λ q ne. put_other s.cell p _ q ne) (ap read_of (put_same s.cell p _ p refl) ∙ (reads s law p used unheld Moved refl).0));
      rooms = λ n reserve. refl;
    }
asked_logs s m p law used unheld _ = record { none = none_taken s; rooms = λ n reserve. refl }

view_rooms : (s : State) (p n : ℕ) (reserve : Bool) → room (with_view s p) n reserve ≡ room s n reserve
view_rooms s p n reserve = cond_both (is_some (s.held p)) s (after_pin s p) (λ (u : State). room u n reserve ≡ room s n reserve) (λ _. refl) (λ _. refl)

pub sought_logs : (s : State) (m p : ℕ) → Law s → is_opened s m ≡ true → uses s m p ≡ true → Law (with_view s p) → (with_view s p).used p ≡ true → (with_view s p).held p ≡ None → SameLogs s (sought s m p)
sought_logs s m p law opened ours pinned used unheld =
    same_more s (with_view s p) (sought s m p) record { none = view_takes s m p law opened ours; rooms = view_rooms s p }
    (asked_logs (with_view s p) m p pinned used unheld (read_of ((with_view s p).cell p)))

-- ---- what is said after the asking, and before it the pin
abbrev pub asked_on : Option PtrWord → Option PtrWord
asked_on None = None
asked_on (Some Free) = Some Free
asked_on (Some (Near len ds place marks)) = Some (Near len ds place (marks_with Moved marks))
asked_on (Some (Far len ds marks)) = Some (Far len ds marks)

abbrev pub asked_word : Option PtrWord → Option PtrWord
asked_word o = asked_on (map_mark Hot o)

-- what is taken from there on is taken from the first state on
span_same : (s u t : State) (len : ℕ) (from : Option ℕ) (reserve : Bool) → SameLogs s u → TakesSpan u len from reserve t → TakesSpan s len from reserve t
span_same s u t len from reserve same h = (
  h.0,
  sym (same.rooms (size_of len) reserve) ∙ h.1,
  h.2 ∙ ap (λ (f : ℕ → ℕ). put f h.0.log (h.0.at + size_of len)) same.none.0,
  λ l. move_from s u t len from h.0.log l same.none (h.3 l),
)

near_same : (s u t : State) (len : ℕ) (from : Option ℕ) (b : Bool) → SameLogs s u → MatchBool b (TakesSpan u len from false t) (TakesNone u t) → MatchBool b (TakesSpan s len from false t) (TakesNone s t)
near_same s u t len from true same h = span_same s u t len from false same h
near_same s u t len from false same h = none_more s u t same.none h

pub bring_same : (s u t : State) (o : Option PtrWord) → SameLogs s u → BringTakes u (asked_word o) t → BringTakes s o t
bring_same s u t (Some (Near len ds place marks)) same h = near_same s u t len (Some place.log) marks.evac same h
bring_same s u t (Some (Far len ds marks)) same h = span_same s u t len None true same h
bring_same s u t _ same h = none_more s u t same.none h

-- and so it is where nothing more is taken
span_more : (s t v : State) (len : ℕ) (from : Option ℕ) (reserve : Bool) → TakesNone t v → TakesSpan s len from reserve t → TakesSpan s len from reserve v
span_more s t v len from reserve same h = (h.0, h.1, same.0 ∙ h.2, λ l. move_then s t v len from h.0.log l same (h.3 l))

near_more : (s t v : State) (len : ℕ) (from : Option ℕ) (b : Bool) → TakesNone t v → MatchBool b (TakesSpan s len from false t) (TakesNone s t) → MatchBool b (TakesSpan s len from false v) (TakesNone s v)
near_more s t v len from true same h = span_more s t v len from false same h
near_more s t v len from false same h = none_more s t v h same

pub bring_more : (s t v : State) (o : Option PtrWord) → TakesNone t v → BringTakes s o t → BringTakes s o v
bring_more s t v (Some (Near len ds place marks)) same h = near_more s t v len (Some place.log) marks.evac same h
bring_more s t v (Some (Far len ds marks)) same h = span_more s t v len None true same h
bring_more s t v _ same h = none_more s t v h same

-- ---- where it comes hangs on what its cell says
abbrev pub place_by : State → Option PtrWord → Option Place
place_by s (Some (Near len ds place marks)) = cond marks.evac (room s (size_of len) false) (Some place)
place_by s (Some (Far len ds marks)) = room s (size_of len) true
place_by s _ = None

comes_by : (s : State) (p : ℕ) (o : Option PtrWord) → read_of (s.cell p) ≡ o → comes_to_of s p o ≡ place_by s o
comes_by s p (Some (Near len ds place marks)) e = ap (goal_of s) e
comes_by s p (Some (Far len ds marks)) e = ap (λ o. room s (size_of (far_len o)) true) e
comes_by s p _ e = refl

pub comes_place : (s : State) (p : ℕ) (o : Option PtrWord) → read_of (s.cell p) ≡ o → comes_to s p ≡ place_by s o
comes_place s p o e = ap (comes_to_of s p) e ∙ comes_by s p o e

-- what has no place lacks room
near_lacks : (s u : State) (len : ℕ) (place : Place) (b : Bool) → SameLogs s u → cond b (room u (size_of len) false) (Some place) ≡ None → (b ≡ true) × (room s (size_of len) false ≡ None)
near_lacks s u len place true same none = (refl, sym (same.rooms (size_of len) false) ∙ none)
near_lacks s u len place false same none = absurd cc

pub lacks : (s u : State) (o : Option PtrWord) → SameLogs s u → in_use o ≡ true → place_by u (asked_word o) ≡ None → LacksRoom s o
lacks s u (Some (Near len ds place marks)) same live none = near_lacks s u len place marks.evac same none
lacks s u (Some (Far len ds marks)) same live none = sym (same.rooms (size_of len) true) ∙ none
lacks s u _ same live none = absurd (false≢true live)

-- ---- a dereference
-- so it is of one after which nothing more is taken
pub deref_more : (s t v : State) (p : ℕ) → TakesNone t v → DereferenceTakes s p t → DereferenceTakes s p v
deref_more s t v p same = at (is_slow s p) where
  at : (b : Bool) → MatchBool b (BringTakes s (read_of (s.cell p)) t) (TakesNone s t) → MatchBool b (BringTakes s (read_of (s.cell p)) v) (TakesNone s v)
  at true h = bring_more s t v (read_of (s.cell p)) same h
  at false h = none_more s t v h same
