-- What calls, turns and rounds take of the logs.
use Rattle.std.proofs.Common.{◌≡◌, ℕ, ◌^◌, ◌<◌, false, Option, Some, List, [], ◌∷◌, ◌++◌, take, ap, sym, refl, ◌∙◌, subst}
use Rattle.far_word.specs.declared.pointer.PtrWord.{PtrWord}
use Rattle.far_word.specs.declared.pointer.PtrWord.TheVariants.{Free}
use Rattle.far_word.specs.Pointer.{read_of}
use Rattle.far_events.specs.state.Law.{Law}
use Rattle.far_events.specs.state.Spans.{spans_of}
use Rattle.far_events.specs.state.State.{State}
use Rattle.far_book.specs.book.Own.{own_part}
use Rattle.far_book.proofs.region.Owns.{own_law}
use Rattle.far_evac.specs.AnyHand.{KnowsMoment}
use Rattle.far_evac.specs.AnyTurns.{sum_of}
use Rattle.far_evac.specs.Choosing.{after_selecting}
use Rattle.far_evac.specs.Laws.{but_evac}
use Rattle.far_evac.specs.Live.{live_among}
use Rattle.far_evac.specs.Marking.{after_marking}
use Rattle.far_evac.specs.Moment.{Moment, Tally, nothing}
use Rattle.far_evac.specs.MomentLaw.{has_risen}
use Rattle.far_evac.specs.RoundSteps.{with_clear_below}
use Rattle.far_evac.specs.TakesRoom.{CallTakesRoom, RoundTakesRoom, RoundTakesSome, TakesSome, TurnsTakeRoom, TurnsTakeSome, spot_of}
use Rattle.far_evac.specs.Turns.{turns_made}
use Rattle.far_evac.proofs.Leading.{selecting}
use Rattle.far_evac.proofs.Marks.{is_marked, beside_marks, marking_frame}
use Rattle.far_evac.proofs.Readiness.{risen_is_ready}
use Rattle.far_evac.proofs.RoomLaw.{room_taken, sound_of, walks_taken}
use Rattle.far_evac.proofs.RoomTaken.{Alike, Taken, alike_known, none_taken, taken_alike}
use Rattle.far_evac.proofs.Rounds.{turns_are}
use Rattle.far_evac.proofs.TurnSteps.{Alone, KeepsAlone, KeepsTurns, keeps_alone, round_kept, stop_alone, stopped_kept, turn_kept, turns_kept, walk_alone}

-- a moment as a whole
abbrev Stands : Moment → Moment → List ℕ → Type 0
Stands m t objects = Taken m t.core t.collection objects

-- ---- marks alone change, or who was seen clear
spot_but : (o : Option PtrWord) → spot_of o ≡ spot_of (but_evac o)
spot_but (Some Free) = refl
spot_but _ = refl

-- of these parts alone it hangs
alike_parts : (s t : State) → ((p : ℕ) → spot_of (read_of (t.cell p)) ≡ spot_of (read_of (s.cell p))) → t.word ≡ s.word → t.tail ≡ s.tail → t.kind ≡ s.kind → t.logs ≡ s.logs → Alike s t
unfolding spans_of
alike_parts s t spots word tail kind logs = record { spots = spots; spans = λ l i. spans_of (record s { word = word i; tail = tail i }) l; tail = tail; kind = kind; logs = logs }

pub marking_held : (m : Moment) (n : ℕ) → (after_marking m n).collection ≡ m.collection
marking_held m n = ap (λ (t : Moment). t.collection) (marking_frame m n)

pub marking_alike : (m : Moment) (n : ℕ) → ((p : ℕ) → m.core.cell p < 2 ^ 64) → Alike m.core (after_marking m n).core
marking_alike m n fits =
    let frame : (after_marking m n).core ≡ (beside_marks m (after_marking m n)).core = ap (λ (t : Moment). t.core) (marking_frame m n) in
    alike_parts m.core (after_marking m n).core (λ p. spot_but (read_of ((after_marking m n).core.cell p)) ∙ ap spot_of ((is_marked m n fits).same p) ∙ sym (spot_but (read_of (m.core.cell p))))
    (ap (λ (u : State). u.word) frame) (ap (λ (u : State). u.tail) frame) (ap (λ (u : State). u.kind) frame) (ap (λ (u : State). u.logs) frame)

pub clear_alike : (s : State) (k : ℕ) → Alike s (with_clear_below s k)
clear_alike s k = alike_parts s (with_clear_below s k) (λ p. refl) refl refl refl refl

-- ---- one step more
module _ (m : Moment) (objects : List ℕ) where
  on_alike : (u t : Moment) → Stands m u objects → Alike u.core t.core → t.collection ≡ u.collection → Stands m t objects
  on_alike u t h alike same = subst (λ held. Taken m t.core held objects) (sym same) (taken_alike u.core t.core alike m u.collection objects h)

  on_known : (u t : Moment) → Stands m u objects → KnowsMoment u t → Stands m t objects
  on_known u t h known = on_alike u t h (alike_known u.core t.core known.core) (ap (λ (n : Moment). n.collection) known.rest)

-- ---- calls, turns and rounds, over any hand
abbrev StandsSome : Moment → Moment → Tally → Type 0
StandsSome m t tally = (objects : List ℕ) × Stands m t objects

keeps_some : (m : Moment) → KeepsAlone (StandsSome m)
keeps_some m = record {
  learns = λ u t tally known (objects, h). (objects, on_known m objects u t h known);
  marks = λ u n tally lawful is (objects, h). (objects, on_alike m objects u (after_marking u n) h (marking_alike u n (λ p. (lawful.0.cells.cell_read p).0)) (marking_held u n));
  looks = λ u k phase tally lawful is (objects, h). (objects, on_alike m objects u (record u { core = with_clear_below u.core k; phase = phase }) h (clear_alike u.core k) refl);
  walks = λ u k w tally lawful leaves walks (objects, h).
      (objects ++ take k (live_among u.core u.collection), walks_taken m u objects h lawful.0 k w (risen_is_ready u lawful.0 lawful.1 (ap has_risen leaves)) walks);
  ends = λ u tally h. h;
}

module _ (m : Moment) (law : Law (own_part m.core)) where
  starts : StandsSome m m nothing
  starts = ([], none_taken m (sound_of m.core law))

  some_taken : (t : Moment) (tally : Tally) → StandsSome m t tally → TakesSome m t
  some_taken t tally h = (h.0, room_taken m t (sound_of m.core law) h.0 h.1)

-- and of turns
abbrev AloneSome : Moment → Moment → Tally → Type 0
AloneSome m = Alone (StandsSome m)

keeps_turns : (m : Moment) → KeepsTurns false (AloneSome m)
keeps_turns m = keeps_alone (StandsSome m) (keeps_some m)

pub call_takes_room : CallTakesRoom
call_takes_room m t n tally done law moment = (
  λ leaves walk. some_taken m law t tally (walk_alone (StandsSome m) (keeps_some m) m t (law, moment) nothing (starts m law) n tally done leaves walk),
  λ leaves stop. some_taken m law t tally (stop_alone (StandsSome m) (keeps_some m) m t (law, moment) nothing (starts m law) n tally leaves stop),
  λ alone turn. some_taken m law t tally (turn_kept (AloneSome m) (keeps_turns m) m t (law, moment) nothing (alone, starts m law) tally done turn).1,
)

pub turns_take_some : TurnsTakeSome
turns_take_some m tallies over t law alone made = some_taken m law t (sum_of tallies) (turns_kept (AloneSome m) (keeps_turns m) m (alone, starts m law) tallies over t made).1

begun_law : (m : Moment) (logs : List ℕ) → Law (own_part m.core) → Law (own_part (after_selecting m logs).core)
begun_law m [] law = law
begun_law m (l ∷ ls) law = law

begun_alone : (m : Moment) (logs : List ℕ) → m.copying ≡ false → (after_selecting m logs).copying ≡ false
begun_alone m [] alone = alone
begun_alone m (l ∷ ls) alone = alone

pub round_takes_some : RoundTakesSome
round_takes_some m t logs turns law alone =
    let v : Moment = after_selecting m logs in
    let begun = begun_law m logs law in
    let still = begun_alone m logs alone in (
      λ end ran. (let (tally, h) = round_kept (AloneSome v) (keeps_turns v) m t logs turns end (still, starts v begun) ran in some_taken v begun t tally h.1),
      λ so_far stopped. (let (tally, h) = stopped_kept (AloneSome v) (keeps_turns v) m t logs turns so_far (still, starts v begun) stopped in some_taken v begun t tally h.1),
    )

-- ---- where no word changes but by this
pub turns_take_room : TurnsTakeRoom
turns_take_room m n law moment alone runs =
    let h = turns_are m law moment alone runs n in turns_take_some m h.tallies (turns_made m n).over (turns_made m n).moment (own_law m.core law) alone h.made

pub round_takes_room : RoundTakesRoom
round_takes_room m [] turns end t law moment alone idle left once of_order is = (round_takes_some m t [] turns (own_law m.core law) alone).0 end is
round_takes_room m (l ∷ ls) turns end t law moment alone idle left once of_order is =
    let begun = selecting m (l ∷ ls) law moment idle left once of_order in
    let u = after_selecting m (l ∷ ls) in
    subst (TakesSome u) (sym is.1) (turns_take_room u turns begun.law begun.moment alone refl)
