-- Each text has an output; refused commands change nothing; unknown mutators are refused; what logs tell makes 4,096.
use Rattle.std.proofs.Common.{◌≡◌, ◌≢◌, ℕ, nat_eq, ◌+◌, ◌-◌, ◌*◌, ◌<◌, ◌≤◌, Bool, true, false, cond, not, ◌&&◌, nat_lt, length, get_or, is_some, sym, ap, refl, subst, ◌∙◌, arith, suc, Option, Some, None, Result, Ok, Err, List, [], ◌∷◌, inl, inr, ◌++◌}
use Rattle.std.specs.Prelude.{map, replicate, nat_le, ◌/◌, ◌^◌, ◌⊎◌, ◌↔◌, bit_or, All, Contains}
use Rattle.std.specs.Bool.{MatchBool}
use Rattle.std.specs.List.{flat_map, range_with_len}
use Rattle.std.proofs.lemmas.Bool.{lt-leb, eqb-true, eqb-false, false≢true, and_parts}
use Rattle.std.proofs.lemmas.Bool.Decides.{nat_tests}
use Rattle.far_word.specs.declared.refused.Refused.{Refused as Refusal}
use Rattle.far_word.specs.declared.refused.Refused.TheVariants.{Range, Length, NoPointer, NoRoom, Marked, Shape, StillOpen, Syntax}
use Rattle.far_word.specs.declared.sizes.TheConstants.{CELLS, LONGEST}
use Rattle.far_word.specs.Sizes.{size_of}
use Rattle.far_log.proofs.Members.{split, none_in, All-from}
use Rattle.far_events.specs.state.Law.{Law}
use Rattle.far_word.specs.declared.pointer.Place.{Place}
use Rattle.far_core.specs.state.Room.{room}
use Rattle.far_events.specs.state.Shape.{is_shape}
use Rattle.far_events.specs.state.State.{State, put}
use Rattle.far_core.specs.world.World.{Object, Group}
use Rattle.far_core.specs.world.WorldOf.{world_of, object_of}
use Rattle.far_events.proofs.Bounds.{some_of}
use Rattle.far_events.proofs.Guards.{none_from}
use Rattle.far_core.proofs.Observations.{bytes_make_log}
use Rattle.far_word.specs.declared.mark.Mark.TheVariants.{Hot, Moved}
use Rattle.far_word.specs.Mark.{position, marks_with}
use Rattle.far_events.specs.events.Step.{after_pin, is_opened}
use Rattle.far_events.proofs.Cells.{map_mark}
use Rattle.far_core.proofs.Cells.{object_of-mark}
use Rattle.far_core.proofs.Marking.{read_mark}
use mathlib.Core.Path.{fun_ext}
use Rattle.far_alone.specs.Dereference.{asked_for, comes_to, sought, sought_of}
use Rattle.far_core.proofs.KeepOwner.{hot_read}
use Rattle.far_events.proofs.Put.{put_both, put_other, put_same}
use Rattle.far_book.proofs.region.Calls.{put_put}
use Rattle.far_alone.specs.Effects.{is_slow, with_view}
use Rattle.far_alone.proofs.AloneRuns.{quiet_run, quiet_view}
use Rattle.far_replay.specs.Moment.{Moment, with_core, as_if_stored}
use Rattle.far_replay.specs.Alone.{Alone, KnowsBy}
use Rattle.far_alone.specs.Own.{Own}
use Rattle.far_replay.specs.Answers.{Answered, AnsweredBy, Commanded, Outside, Serves, Served, IsMoment, IsOutput, shape_of, first_moment, flaws, gives_some, is_true, lie_of, ByDevice, FlawedAtMost, opened}
use Rattle.far_replay.specs.Commanded.{KeepsFar}
use Rattle.far_text.specs.Command.{Command, Trace, Nothing, Heap, New, On, Use, Writes, Try, Logs, Mutator, Book, Evacuator, Step, Wait, Device as SaidDevice}
use Rattle.far_text.specs.Grammar.{trace_of}
use Rattle.far_replay_laws.specs.Headline.{EachTextIsAnswered, HeapsBeginLawful, IsAmple, IsWhole, IsSaidBy, TellsAll, TellsLog}
use Rattle.far_replay_laws.specs.FromOutside.{NoneLacks}
use Rattle.far_replay_laws.proofs.Failures.{served_silent}
use Rattle.far_text.specs.Written.{AllWriteBytes}
use Rattle.far_events.specs.events.Ranges.{after_events}
use Rattle.far_alone.specs.EventRows.{AllSucceed}
use Rattle.far_reply.specs.declared.reply.LogLine.{LogLine}
use Rattle.far_reply.specs.Reply.{Reply, Pointer, Refused, reply_text}
use Rattle.far_replay.specs.Events.{turn_events, events_for}
use Rattle.far_alone.specs.Events.{view_events, new_events}
use Rattle.far_alone.specs.Objects.{lowest_cell, uses, with_range}
use Rattle.far_word.specs.declared.mark.Marks.{Marks}
use Rattle.far_word.specs.declared.pointer.PtrWord.{PtrWord}
use Rattle.far_word.specs.declared.pointer.PtrWord.TheVariants.{Near, Far}
use Rattle.far_word.specs.Pointer.{read_of}
use Rattle.far_replay.specs.Stays.{MayGain, CellStays, MayMark, MaySee, Sees, Stays}
use Rattle.far_replay.specs.Rounds.{refused_step}
use Rattle.far_replay.specs.Turn.{effect, turn_effect, refused_effect, causes, first_cause, refusal, unless, turn_reply, reply_to, log_line, pointer_reply}
use Rattle.far_replay_laws.proofs.AloneNew.{new_run, is_structure, is_length}
use Rattle.far_replay.proofs.Outcomes.{by_outcome}
use Rattle.far_replay_laws.proofs.Kept.{whole}
use Rattle.far_replay.proofs.Lasting.{first_lawful, command_carried, moment_lasts, each_is_moment}
use Rattle.far_alone.proofs.Lowest.{lowest_cell_is, no_cell_is}
use Rattle.far_replay_laws.proofs.Refusals.{cause_of, not_halted, turn_is_no_refusal, from_cause, of_far}
use Rattle.far_replay.proofs.RoundLeads.{cell_same, same_clear, stays_same, step_stays}
use Rattle.far_replay.proofs.WithCore.{same_order}
use Rattle.far_alone.proofs.Spliced.{length-with_range, with_range_before, with_range_inside, with_range_after}
use Rattle.far_replay.proofs.Ways.{lacks_place, marked_last, new_tests}
use Rattle.far_alone.proofs.Views.{view_is, view_law, slow_view}
use Rattle.far_device.specs.declared.liar.Lie.{Lie}

-- ---- each text has an output
-- one is that of a device of which no call has a flaw, where memory is never refused
unspoiled : (lie : Lie) (n : ℕ) (now : Moment) (cs : List Command) →
    (os : List Outside) × (rs : List Reply) × (moments : List Moment) × (FlawedAtMost lie n os × (gives_some os ≡ false)) × AnsweredBy os now cs rs moments × NoneLacks rs
unspoiled lie n now [] = ([], [], [], (tt, refl), tt, tt)
unspoiled lie n now (c ∷ cs) =
    let rest = unspoiled lie n (effect now c) cs in
    let served : Served now c (reply_to now c) (effect now c) = record { reply = refl; moment = refl } in
    (Serves ∷ rest.0, reply_to now c ∷ rest.1, effect now c ∷ rest.2, rest.3, (served, rest.4), ((served_silent now c (reply_to now c) (effect now c) served).2, rest.5))

heap_answered : (logs mutators epoch : ℕ) (device : Option SaidDevice) (cs : List Command) (b : Bool) →
    (output : List ℕ) × MatchBool b ((os : List Outside) × (rs : List Reply) × (moments : List Moment) × ByDevice (lie_of device) (flaws device) os (first_moment logs mutators epoch (is_true device)) cs moments
    × AnsweredBy os (first_moment logs mutators epoch (is_true device)) cs rs moments × (output ≡ flat_map reply_text (opened device ++ rs))) (output ≡ reply_text (Refused Shape))
    × MatchBool b ((os : List Outside) × (rs : List Reply) × (moments : List Moment) × ByDevice (lie_of device) (flaws device) os (first_moment logs mutators epoch (is_true device)) cs moments
    × AnsweredBy os (first_moment logs mutators epoch (is_true device)) cs rs moments × (output ≡ flat_map reply_text (opened device ++ rs)) × NoneLacks rs) (output ≡ reply_text (Refused Shape))
heap_answered logs mutators epoch device cs true =
    let now = first_moment logs mutators epoch (is_true device) in
    let x = unspoiled (lie_of device) (flaws device) now cs in
    let by : ByDevice (lie_of device) (flaws device) x.0 now cs x.2 = record { few = x.3.0; along = λ some. absurd (false≢true (sym x.3.1 ∙ some)) } in
    (flat_map reply_text (opened device ++ x.1), (x.0, x.1, x.2, by, x.4, refl), (x.0, x.1, x.2, by, x.4, refl, x.5))
heap_answered logs mutators epoch device cs false = (reply_text (Refused Shape), refl, refl)

read_answered : (read : Result Trace ℕ) → (output : List ℕ) × IsOutput read output × IsAmple read output
read_answered (Err line) = (reply_text (Refused (Syntax line)), refl, refl)
read_answered (Ok Nothing) = ([], refl, refl)
read_answered (Ok (Heap logs mutators epoch device cs)) = heap_answered logs mutators epoch device cs (is_shape (shape_of logs mutators epoch))

pub each_answered : EachTextIsAnswered
each_answered text = read_answered (trace_of text)

-- ---- what a refused command leaves
refused_moment : (now : Moment) (c : Command) (r : Reply) (next : Moment) (why : Refusal) → Served now c r next → r ≡ Refused why → next ≡ refused_effect now c why
refused_moment now c r next why h e = h.moment ∙ ap (λ o. unless o (refused_effect now c) (turn_effect now c)) (cause_of now c r next why h e)

-- a step leaves all, unless it is a wait that goes on
blind_step : (now : Moment) (step : Step) (why : Refusal) → ¬ MaySee (Evacuator step) why → refused_step now step why ≡ now
blind_step now Wait (StillOpen mutator epoch) blind = absurd (blind tt)
blind_step now step why blind = refl

-- one that comes before any pin leaves all
none_marked : (now : Moment) (c : Command) (why : Refusal) → ((p : ℕ) → ¬ MayMark c why p) → ¬ MaySee c why → refused_effect now c why ≡ now
none_marked now (Mutator m (On p how)) NoRoom none blind = absurd (none p refl)
none_marked now (Mutator m (Try p)) (Marked word) none blind = absurd (none p refl)
none_marked now (Evacuator step) why none blind = blind_step now step why blind
none_marked now c why none blind = refl

served_stays : (now : Moment) (c : Command) (r : Reply) (next : Moment) (why : Refusal) → ((p : ℕ) → ¬ MayMark c why p) → ¬ MaySee c why → Served now c r next → r ≡ Refused why → next ≡ now
served_stays now c r next why none blind h e = refused_moment now c r next why h e ∙ none_marked now c why none blind

-- what was refused by the outside was refused so, and may have marked its object
same_refusal : (why cause : Refusal) (r : Reply) → r ≡ Refused cause → r ≡ Refused why → cause ≡ why
same_refusal why cause r h e = refusals_alike cause why (sym h ∙ e) where
  refusals_alike : (a b : Refusal) → Refused a ≡ Refused b → a ≡ b
  refusals_alike a b e = cc

use_marks : (why : Refusal) (m p : ℕ) (how : Use) → KeepsFar why → MayMark (Mutator m (On p how)) why p
use_marks why m p how h = of_far (λ x. MayMark (Mutator m (On p how)) x p) why h refl refl

pub refused_stays : (now : Moment) (c : Command) (r : Reply) (next : Moment) (why : Refusal) → ((p : ℕ) → ¬ MayMark c why p) → ¬ MaySee c why → Commanded now c r next → r ≡ Refused why → next ≡ now
refused_stays now c r next why none blind h e = by_outcome now r next (λ d. ((p : ℕ) → ¬ MayMark d why p) → ¬ MaySee d why → next ≡ now)
    (λ d h none blind. served_stays now d r next why none blind h e)
    (λ cause m p how h none blind. absurd (none p (subst (λ x. MayMark (Mutator m (On p how)) x p) (same_refusal why cause r h.reply e) (use_marks cause m p how h.cause))))
    (λ cause objects count h none blind. absurd (not_halted why cause h.progress r h.reply e))
    (λ cause turns objects policy most count h none blind. absurd (not_halted why cause _ r h.reply e))
    (λ row m p d asks h none blind. absurd (h.answered why e))
    c h none blind

-- what stays of a core, but for marks
pub record CoreStays (c : Command) (why : Refusal) (s t : State) : Type 0 where
  pub objects : (world_of t).object ≡ (world_of s).object
  pub cells : (p : ℕ) → CellStays (read_of (s.cell p)) (read_of (t.cell p))
  pub unmarked : (p : ℕ) → ¬ MayMark c why p → t.cell p ≡ s.cell p
  pub rest : t ≡ record s { cell = t.cell }

stays_with : (c : Command) (why : Refusal) (now : Moment) (t : State) → ((m : ℕ) → ¬ Sees c why m) → CoreStays c why now.core t → Stays c why now (with_core now t)
stays_with c why now t blind h =
    let clear : t.clear ≡ now.core.clear = ap (λ (x : State). x.clear) h.rest in
    record {
      objects = h.objects;
      cells = h.cells;
      unmarked = h.unmarked;
      seen = λ _. clear;
      clear = λ m. subst (λ (f : ℕ → Bool). (f m ≡ true) ↔ ((now.core.clear m ≡ true) ⊎ Sees c why m)) (sym clear) (same_clear (now.core.clear m) (Sees c why m) (blind m));
      rest = h.rest ∙ ap (λ (f : ℕ → Bool). record now.core { cell = t.cell; clear = f }) (sym clear);
      round = (same_order now t (ap (λ (x : State). x.current) h.rest), refl, refl);
    }

-- a cell that gets HOT
gains_hot : (a : Marks) → MayGain a (marks_with Hot a)
gains_hot a = record { hot = λ _. refl; moved = λ h. h; evac = refl; dropped = refl; dirty = refl }

cell_hot : (o : Option PtrWord) → CellStays o (map_mark Hot o)
cell_hot (Some (Near len ds place marks)) = (refl, refl, refl, gains_hot marks)
cell_hot (Some (Far len ds marks)) = (refl, refl, gains_hot marks)
cell_hot _ = tt

-- a try that found a mark leaves HOT
stays_hot : (s : State) (m p word : ℕ) → Law s → is_opened s m ≡ true → uses s m p ≡ true → is_slow s p ≡ true → CoreStays (Mutator m (Try p)) (Marked word) s (with_view s p)
stays_hot s m p word law opened ours slow =
    let is : with_view s p ≡ record s { cell = (after_pin s p).cell } = slow_view s p slow in
    let hot : ℕ → ℕ = (after_pin s p).cell in
    subst (λ (t : State). CoreStays (Mutator m (Try p)) (Marked word) s t) (sym is) record {
      objects = ap (λ (t : State). (world_of t).object) (sym (view_is s m p law opened ours ∙ is)) ∙ (quiet_run s (view_events s m p) law (quiet_view s m p)).0.0;
      cells = λ q. put_both (λ w. CellStays (read_of (s.cell q)) (read_of w)) s.cell p (bit_or (s.cell p) (2 ^ position Hot)) q
          (λ e. subst (λ x. CellStays (read_of (s.cell x)) (read_of (bit_or (s.cell p) (2 ^ position Hot)))) (sym e)
          (subst (CellStays (read_of (s.cell p))) (sym (hot_read s law p (and_parts (nat_eq (p / CELLS) m) (s.used p) ours).1)) (cell_hot (read_of (s.cell p)))))
          (λ _. cell_same (read_of (s.cell q)));
      unmarked = λ q other. put_other s.cell p (bit_or (s.cell p) (2 ^ position Hot)) q other;
      rest = refl;
    }

-- one cell that gets other marks
marked_stays : (c : Command) (why : Refusal) (s : State) (p new : ℕ) → MayMark c why p → ((q : ℕ) → ¬ MayMark c why q → q ≢ p) → CellStays (read_of (s.cell p)) (read_of new) →
    ((f g : ℕ → ℕ) (q : ℕ) → object_of f g q (read_of new) ≡ object_of f g q (read_of (s.cell p))) → CoreStays c why s (record s { cell = put s.cell p new })
unfolding world_of
marked_stays c why s p new may apart stays object = record {
  objects = fun_ext (λ q. put_both (λ w. object_of s.word (s.stored q) q (read_of w) ≡ object_of s.word (s.stored q) q (read_of (s.cell q))) s.cell p new q
      (λ e. object s.word (s.stored q) q ∙ ap (λ x. object_of s.word (s.stored q) q (read_of (s.cell x))) (sym e)) (λ _. refl));
  cells = λ q. put_both (λ w. CellStays (read_of (s.cell q)) (read_of w)) s.cell p new q
      (λ e. subst (λ x. CellStays (read_of (s.cell x)) (read_of new)) (sym e) stays) (λ _. cell_same (read_of (s.cell q)));
  unmarked = λ q other. put_other s.cell p new q (apart q other);
  rest = refl;
}

gains_both : (a : Marks) → MayGain a (marks_with Moved (marks_with Hot a))
gains_both a = record { hot = λ _. refl; moved = λ _. refl; evac = refl; dropped = refl; dirty = refl }

cell_asked : (o : Option PtrWord) → CellStays o (map_mark Moved (map_mark Hot o))
cell_asked (Some (Near len ds place marks)) = (refl, refl, refl, gains_both marks)
cell_asked (Some (Far len ds marks)) = (refl, refl, gains_both marks)
cell_asked _ = tt

hot_stays : (f g : ℕ → ℕ) (q : ℕ) (o n : Option PtrWord) → n ≡ map_mark Hot o → object_of f g q n ≡ object_of f g q o
hot_stays f g q o n is = ap (object_of f g q) is ∙ object_of-mark Hot f g q o (λ e. absurd cc)

asked_stays : (f g : ℕ → ℕ) (q : ℕ) (o n : Option PtrWord) → n ≡ map_mark Moved (map_mark Hot o) → object_of f g q n ≡ object_of f g q o
asked_stays f g q o n is = ap (object_of f g q) is ∙ object_of-mark Moved f g q (map_mark Hot o) (λ e. absurd cc) ∙ object_of-mark Hot f g q o (λ e. absurd cc)

-- a dereference that found no room leaves HOT, and MOVE where the object is near
module _ (c : Command) (s : State) (m p hot : ℕ) (may : MayMark c NoRoom p) (apart : (q : ℕ) → ¬ MayMark c NoRoom q → q ≢ p) (law : Law (record s { cell = put s.cell p hot })) (used : s.used p ≡ true) (is : read_of hot ≡ map_mark Hot (read_of (s.cell p))) where
  abbrev pinned : State
  pinned = record s { cell = put s.cell p hot }

  here : pinned.cell p ≡ hot
  here = put_same s.cell p hot p refl

  abbrev asked : ℕ
  asked = bit_or (pinned.cell p) (2 ^ position Moved)

  asked_is : read_of asked ≡ map_mark Moved (map_mark Hot (read_of (s.cell p)))
  asked_is = (read_mark Moved (pinned.cell p) refl (law.cells.cell_read p).0 (law.views.used_cell p used)).0 ∙ ap (λ w. map_mark Moved (read_of w)) here ∙ ap (map_mark Moved) is

  only_hot : CoreStays c NoRoom s pinned
  only_hot = marked_stays c NoRoom s p hot may apart (subst (CellStays (read_of (s.cell p))) (sym is) (cell_hot (read_of (s.cell p)))) (λ f g q. hot_stays f g q (read_of (s.cell p)) (read_of hot) is)

  both : CoreStays c NoRoom s (record s { cell = put s.cell p asked })
  both = marked_stays c NoRoom s p asked may apart (subst (CellStays (read_of (s.cell p))) (sym asked_is) (cell_asked (read_of (s.cell p)))) (λ f g q. asked_stays f g q (read_of (s.cell p)) (read_of asked) asked_is)

  pub stays_asked : (o : Option PtrWord) → CoreStays c NoRoom s (sought_of pinned m p o)
  stays_asked (Some (Near len ds place marks)) = subst (λ (f : ℕ → ℕ). CoreStays c NoRoom s (record s { cell = f })) (sym (put_put s.cell p hot asked)) both
  stays_asked _ = only_hot

stays_sought : (c : Command) (s : State) (m p : ℕ) → MayMark c NoRoom p → ((q : ℕ) → ¬ MayMark c NoRoom q → q ≢ p) → Law s → is_opened s m ≡ true → uses s m p ≡ true → is_slow s p ≡ true → CoreStays c NoRoom s (sought s m p)
stays_sought c s m p may apart law opened ours slow =
    let used = (and_parts (nat_eq (p / CELLS) m) (s.used p) ours).1 in
    let hot : ℕ = bit_or (s.cell p) (2 ^ position Hot) in
    let is : with_view s p ≡ record s { cell = put s.cell p hot } = slow_view s p slow in
    let later : Law (record s { cell = put s.cell p hot }) = subst Law (view_is s m p law opened ours ∙ is) (view_law s m p law opened ours) in
    subst (λ (t : State). CoreStays c NoRoom s (asked_for t m p)) (sym is)
    (stays_asked c s m p hot may apart later used (hot_read s law p used) (read_of ((record s { cell = put s.cell p hot }).cell p)))

refused_leaves : (now : Moment) (c : Command) (why : Refusal) → Law now.core → refusal now c ≡ Some why → Stays c why now (refused_effect now c why)
refused_leaves now (Mutator m (On p how)) NoRoom law e =
    let h = lacks_place now m p how e in
    stays_with (Mutator m (On p how)) NoRoom now (sought now.core m p) (λ k none. none) (stays_sought (Mutator m (On p how)) now.core m p refl (λ q other. other) law h.0 h.1 (and_parts (is_slow now.core p) (not (is_some (comes_to (sought now.core m p) p))) h.2).0)
refused_leaves now (Mutator m (Try p)) (Marked word) law e =
    let h = marked_last (nat_lt m now.core.mutators) (is_opened now.core m) (uses now.core m p) (is_slow now.core p) (now.core.cell p) word e in
    stays_with (Mutator m (Try p)) (Marked word) now (with_view now.core p) (λ k none. none) (stays_hot now.core m p word law h.1 h.2 h.3)
refused_leaves now (Evacuator step) why law e = step_stays now step why e
refused_leaves now c why law e = stays_same c why now (λ k none. none)

served_refusals : (now : Moment) (c : Command) (r : Reply) (next : Moment) (why : Refusal) → Law now.core → Served now c r next → r ≡ Refused why → Stays c why now next
served_refusals now c r next why law h e = subst (Stays c why now) (sym (refused_moment now c r next why h e)) (refused_leaves now c why law (cause_of now c r next why h e))

-- one that the outside refused left what a try did
tried_stays : (now : Moment) (m p word : ℕ) (next : Moment) (c : Command) (why : Refusal) → ((q : ℕ) → ¬ MayMark c why q → q ≢ p) → ((k : ℕ) → ¬ Sees c why k) →
    Stays (Mutator m (Try p)) (Marked word) now next → Stays c why now next
tried_stays now m p word next c why apart blind h = record {
  objects = h.objects;
  cells = h.cells;
  unmarked = λ q none. h.unmarked q (apart q none);
  seen = λ _. h.seen (λ no. no);
  clear = λ k. (
    (λ seen. elim ((h.clear k).0 seen) [
      | inl before ↦ inl before
      | inr none ↦ absurd none
    ]),
    (λ either. elim either [
      | inl before ↦ (h.clear k).1 (inl before)
      | inr saw ↦ absurd (blind k saw)
    ]),
  );
  rest = h.rest;
  round = h.round;
}

marks_else : (c : Command) (why : Refusal) (p q : ℕ) → MayMark c why p → ¬ MayMark c why q → q ≢ p
marks_else c why p q may none e = none (subst (MayMark c why) (sym e) may)

pub refusals_stay : (now : Moment) (c : Command) (r : Reply) (next : Moment) (why : Refusal) → Law now.core → Commanded now c r next → r ≡ Refused why → Stays c why now next
refusals_stay now c r next why law h e = by_outcome now r next (λ d. Stays d why now next)
    (λ d h. served_refusals now d r next why law h e)
    (λ cause m p how h. subst (λ x. Stays (Mutator m (On p how)) x now next) (same_refusal why cause r h.reply e)
    (tried_stays now m p (now.core.cell p) next (Mutator m (On p how)) cause (λ q. marks_else (Mutator m (On p how)) cause p q (use_marks cause m p how h.cause)) (λ k no. no)
    (served_refusals now (Mutator m (Try p)) (Refused (Marked (now.core.cell p))) next (Marked (now.core.cell p)) law h.tried refl)))
    (λ cause objects count h. absurd (not_halted why cause h.progress r h.reply e))
    (λ cause turns objects policy most count h. absurd (not_halted why cause _ r h.reply e))
    (λ row m p d asks h. absurd (h.answered why e))
    c h

-- ---- a mutator that the heap hasn't
-- the first cause holds
first_holds : (now : Moment) (c : Command) (b : Bool) (rest : List (Bool × Refusal)) → causes now c ≡ (b, Range) ∷ rest → b ≡ true → reply_to now c ≡ Refused Range
first_holds now c b rest is holds =
    let cause : refusal now c ≡ Some Range = ap first_cause is ∙ ap (λ x. cond x (Some Range) (first_cause rest)) holds in
    ap (λ o. unless o Refused (turn_reply now c)) cause

-- a number past the last mutator isn't one
past : (s : State) (m k : ℕ) → m ≡ k → s.mutators ≤ m → nat_lt k s.mutators ≡ false
past s m k e h = lt-leb (suc k) s.mutators (omega (arith, e, h))

refuses_unknown : (now : Moment) (c : Command) (m : ℕ) → IsSaidBy m c → now.core.mutators ≤ m → reply_to now c ≡ Refused Range
refuses_unknown now (Mutator k (New len ds)) m e h = first_holds now (Mutator k (New len ds)) (not (nat_lt k now.core.mutators && nat_lt ds 256)) _ refl (ap (λ b. not (b && nat_lt ds 256)) (past now.core m k e h))
refuses_unknown now (Mutator k (On p (Writes from bytes))) m e h = first_holds now (Mutator k (On p (Writes from bytes))) (not (nat_lt k now.core.mutators)) _ refl (ap not (past now.core m k e h))
refuses_unknown now (Mutator k request) m e h = first_holds now (Mutator k request) (not (nat_lt k now.core.mutators)) _ refl (ap not (past now.core m k e h))
refuses_unknown now _ m e h = absurd e

unknown_allowed : (now : Moment) (c : Command) (m : ℕ) → IsSaidBy m c → now.core.mutators ≤ m → refusal now c ≢ None
unknown_allowed now c m e h none =
    turn_is_no_refusal now c Range (sym (ap (λ o. unless o Refused (turn_reply now c)) none) ∙ refuses_unknown now c m e h)

pub unknown_refused : (now : Moment) (c : Command) (r : Reply) (next : Moment) (m : ℕ) → IsSaidBy m c → now.core.mutators ≤ m → Commanded now c r next → r ≡ Refused Range
unknown_refused now c r next m e h k = by_outcome now r next (λ d. IsSaidBy m d → r ≡ Refused Range)
    (λ d k e. k.reply ∙ refuses_unknown now d m e h)
    (λ cause n p how k e. absurd (unknown_allowed now (Mutator n (On p how)) m e h k.allowed))
    (λ cause objects count k e. absurd e)
    (λ cause turns objects policy most count k e. absurd e)
    (λ row n p d asks k e. k.served.reply ∙ refuses_unknown (as_if_stored now p row) d m e h)
    c k e

-- ---- what logs tell
lines_say_logs : (now : Moment) (ls : List ℕ) → map (λ (line : LogLine). line.log) (map (log_line now) ls) ≡ ls
lines_say_logs now [] = refl
lines_say_logs now (l ∷ ls) = ap (λ xs. l ∷ xs) (lines_say_logs now ls)

-- what is so of each log's line is so of each line that is told
of_each : (P : LogLine → Type 0) (now : Moment) → ((l : ℕ) → P (log_line now l)) → (ls : List ℕ) (line : LogLine) → Contains (map (log_line now) ls) line → P line
of_each P now h [] line c = absurd (none_in line c)
of_each P now h (l ∷ ls) line c = elim (split line (log_line now l) (map (log_line now) ls) c) [
  | inl e ↦ subst P e (h l)
  | inr bytes ↦ of_each P now h ls line bytes
]

tells_log : (now : Moment) → Law now.core → (l : ℕ) → TellsLog now (log_line now l)
tells_log now law l = record { kind = refl; live = refl; dead = refl; unused = refl; whole = bytes_make_log now.core law l }

pub logs_tell : (now : Moment) (r : Reply) (next : Moment) → Law now.core → Served now (Book Logs) r next → TellsAll now r
logs_tell now r next law h =
    subst (TellsAll now) (sym h.reply) (lines_say_logs now (range_with_len 0 now.core.logs), of_each (TellsLog now) now (tells_log now law) (range_with_len 0 now.core.logs))

-- ---- the lowest cell that is free
told_pointer : (o : Option Refusal) (x : Option ℕ) (p : ℕ) → Pointer p ≡ unless o Refused (pointer_reply x) → x ≡ Some p
told_pointer None (Some q) p e = let same : p ≡ q = cc in ap Some (sym same)
told_pointer _ _ p e = absurd cc

pub takes_lowest : (now : Moment) (m len ds p : ℕ) (next : Moment) → Served now (Mutator m (New len ds)) (Pointer p) next →
    (m * CELLS ≤ p) × (p < m * CELLS + CELLS) × (now.core.cell p ≡ 0) × ((q : ℕ) → m * CELLS ≤ q → q < p → now.core.cell q ≢ 0)
takes_lowest now m len ds p next h = lowest_cell_is now.core m p (told_pointer (refusal now (Mutator m (New len ds))) (lowest_cell now.core m) p h.reply)

third : (a b c d : Bool) → first_cause ((a, Range) ∷ (b, Length) ∷ (c, NoPointer) ∷ (d, NoRoom) ∷ []) ≡ Some NoPointer → c ≡ true
third true b c d e = absurd cc
third false true c d e = absurd cc
third false false true d e = refl
third false false false true e = absurd cc
third false false false false e = absurd cc

fourth : (a b c d : Bool) → first_cause ((a, Range) ∷ (b, Length) ∷ (c, NoPointer) ∷ (d, NoRoom) ∷ []) ≡ Some NoRoom → d ≡ true
fourth true b c d e = absurd cc
fourth false true c d e = absurd cc
fourth false false true d e = absurd cc
fourth false false false true e = refl
fourth false false false false e = absurd cc

why_refused : (now : Moment) (c : Command) (why : Refusal) (next : Moment) → Served now c (Refused why) next → refusal now c ≡ Some why
why_refused now c why next h = from_cause (refusal now c) (turn_reply now c) why (turn_is_no_refusal now c why) (sym h.reply)

pub none_left : (now : Moment) (m len ds : ℕ) (next : Moment) →
    (Served now (Mutator m (New len ds)) (Refused NoPointer) next → (q : ℕ) → m * CELLS ≤ q → q < m * CELLS + CELLS → now.core.cell q ≢ 0)
    × (Served now (Mutator m (New len ds)) (Refused NoRoom) next → room now.core (size_of len) true ≡ None)
none_left now m len ds next = (
  (λ h. no_cell_is now.core m (none_from (lowest_cell now.core m) (third _ _ _ _ (why_refused now (Mutator m (New len ds)) NoPointer next h)))),
  (λ h. none_from (room now.core (size_of len) true) (fourth _ _ _ _ (why_refused now (Mutator m (New len ds)) NoRoom next h))),
)

-- what a new object in range is answered, by the lowest free cell and the room
abbrev new_answer : Option ℕ → Option Place → Reply
new_answer None y = Refused NoPointer
new_answer (Some p) None = Refused NoRoom
new_answer (Some p) (Some place) = Pointer p

in_range : (a b : Bool) (x : Option ℕ) (y : Option Place) → a ≡ false → b ≡ false →
    unless (first_cause ((a, Range) ∷ (b, Length) ∷ (not (is_some x), NoPointer) ∷ (not (is_some y), NoRoom) ∷ [])) Refused (pointer_reply x) ≡ new_answer x y
in_range true b x y e f = absurd cc
in_range false true x y e f = absurd cc
in_range false false None y e f = refl
in_range false false (Some p) None e f = refl
in_range false false (Some p) (Some place) e f = refl

no_lowest : (x : Option ℕ) (y : Option Place) → ((p : ℕ) → x ≢ Some p) → new_answer x y ≡ Refused NoPointer
no_lowest None y h = refl
no_lowest (Some p) y h = absurd (h p refl)

some_lowest : (x : Option ℕ) (y : Option Place) → (x ≢ None) → (y ≡ None → new_answer x y ≡ Refused NoRoom) × ((place : Place) → y ≡ Some place → (p : ℕ) × (new_answer x y ≡ Pointer p))
some_lowest None y h = absurd (h refl)
some_lowest (Some p) None h = (λ _. refl, λ place e. absurd cc)
some_lowest (Some p) (Some place) h = (λ e. absurd cc, λ _ _. (p, refl))

pub is_made : (now : Moment) (m len ds : ℕ) (r : Reply) (next : Moment) → m < now.core.mutators → ds < 256 → 0 < len → len ≤ LONGEST → Served now (Mutator m (New len ds)) r next →
    (((q : ℕ) → m * CELLS ≤ q → q < m * CELLS + CELLS → now.core.cell q ≢ 0) → r ≡ Refused NoPointer)
    × ((q : ℕ) → m * CELLS ≤ q → q < m * CELLS + CELLS → now.core.cell q ≡ 0 →
    (room now.core (size_of len) true ≡ None → r ≡ Refused NoRoom) × ((place : Place) → room now.core (size_of len) true ≡ Some place → (p : ℕ) × (r ≡ Pointer p)))
is_made now m len ds r next own structure some most h =
    let x : Option ℕ = lowest_cell now.core m in
    let y : Option Place = room now.core (size_of len) true in
    let a : not (nat_lt m now.core.mutators && nat_lt ds 256) ≡ false = numbers_fit m now.core.mutators ds own structure in
    let b : not (nat_lt 0 len && nat_le len LONGEST) ≡ false = length_fits len some most in
    let is : r ≡ new_answer x y = h.reply ∙ in_range (not (nat_lt m now.core.mutators && nat_lt ds 256)) (not (nat_lt 0 len && nat_le len LONGEST)) x y a b in (
      (λ taken. is ∙ no_lowest x y (λ p e. let free = lowest_cell_is now.core m p e in taken p free.0 free.1 free.2)),
      (λ q low high free.
          let found = some_lowest x y (λ none. no_cell_is now.core m none q low high free) in
          ((λ e. is ∙ found.0 e), (λ place e. let made_at = found.1 place e in (made_at.0, is ∙ made_at.1)))),
    )
  where
    numbers_fit : (m mutators ds : ℕ) → m < mutators → ds < 256 → not (nat_lt m mutators && nat_lt ds 256) ≡ false
    numbers_fit m mutators ds a b = grind (arith, nat_tests)

    length_fits : (len : ℕ) → 0 < len → len ≤ LONGEST → not (nat_lt 0 len && nat_le len LONGEST) ≡ false
    length_fits len a b = grind (arith, nat_tests)

-- ---- writes
pub changes_range : (bytes new : List ℕ) (from : ℕ) → from + length new ≤ length bytes →
    (length (with_range bytes from new) ≡ length bytes)
    × ((k : ℕ) → k < from → get_or (with_range bytes from new) k 0 ≡ get_or bytes k 0)
    × ((k : ℕ) → k < length new → get_or (with_range bytes from new) (from + k) 0 ≡ get_or new k 0)
    × ((k : ℕ) → from + length new ≤ k → get_or (with_range bytes from new) k 0 ≡ get_or bytes k 0)
changes_range bytes new from fits = (
  length-with_range bytes from new fits,
  with_range_before bytes from new fits,
  (λ k lt. let same : from + k - from ≡ k = omega arith in with_range_inside bytes from new fits (from + k) (omega arith) (omega arith) ∙ ap (λ j. get_or new j 0) same),
  with_range_after bytes from new fits,
)

-- ---- whose line it is
at_number : (k m : ℕ) (A B : Type 0) (b : Bool) → nat_eq k m ≡ b → MatchBool b A B → (m ≡ k → A) × ((m ≢ k) → B)
at_number k m A B true e x = ((λ _. x), (λ ne. absurd (ne (sym (eqb-true k m e)))))
at_number k m A B false e x = ((λ same. absurd (eqb-false k m e (sym same))), (λ _. x))

pub own_lines : (honest : Bool) (m : ℕ) (o : Own) (c : Command) (r : Reply) (cs : List Command) (rs : List Reply) → Alone honest m o (c ∷ cs) (r ∷ rs) →
    (IsSaidBy m c → (q : Own) × KnowsBy honest m o c r q × Alone honest m q cs rs) × (¬ IsSaidBy m c → Alone honest m o cs rs)
own_lines honest m o (Mutator k request) r cs rs h = at_number k m _ _ (nat_eq k m) refl h
own_lines honest m o _ r cs rs h = ((λ no. absurd no), (λ _. h))

-- ---- what a new object is
not_refused : (o : Option Refusal) (x : Option ℕ) (p : ℕ) → Pointer p ≡ unless o Refused (pointer_reply x) → o ≡ None
not_refused None x p e = refl
not_refused (Some why) x p e = absurd cc

pub makes_its_object : (now : Moment) (m len ds p : ℕ) (next : Moment) → IsMoment now → Served now (Mutator m (New len ds)) (Pointer p) next → (place : Place) × (room now.core (size_of len) true ≡ Some place)
    × ((world_of next.core).object ≡ put (world_of now.core).object p (Some record { owner = m; ds = ds; bytes = replicate len 0; home = Group place.log }))
makes_its_object now m len ds p next is c =
    let s : State = now.core in
    let lasts = moment_lasts now is in
    let h = command_carried now (Mutator m (New len ds)) (Pointer p) next tt lasts tt c in
    let none : refusal now (Mutator m (New len ds)) ≡ None = not_refused (refusal now (Mutator m (New len ds))) (lowest_cell s m) p h.reply in
    let parts = new_tests s m len ds none in
    let low : lowest_cell s m ≡ Some p = told_pointer (refusal now (Mutator m (New len ds))) (lowest_cell s m) p h.reply in
    let at = some_of (room s (size_of len) true) parts.3 in
    let numbers = is_structure s m ds (ap not parts.0) in
    let sized = is_length len (ap not parts.1) in
    let where_it_is = takes_lowest now m len ds p next c in
    let own : p / CELLS ≡ m = omega (arith, where_it_is.0, where_it_is.1) in
    let events : events_for now (Mutator m (New len ds)) ≡ new_events m len ds (Some p) (Some at.0) =
    ap (λ o. unless o (λ _. []) (turn_events now (Mutator m (New len ds)))) none ∙ ap (λ o. new_events m len ds o (room s (size_of len) true)) low ∙ ap (λ r. new_events m len ds (Some p) r) at.1 in
    let run = new_run s m len ds p at.0 lasts.law numbers.0 own sized.1 numbers.1 where_it_is.2 (subst (AllSucceed s) events h.made) in
    let whole : run.0 ≡ record { owner = m; ds = ds; bytes = replicate len 0; home = Group at.0.log } =
    run.5 ∙ ap (λ (o : ℕ). record { owner = o; ds = ds; bytes = replicate len 0; home = Group at.0.log }) own in
    (at.0, at.1, ap (λ (x : State). (world_of x).object) (h.state ∙ ap (after_events s) events) ∙ run.2 ∙ ap (λ (o : Object). put (world_of s).object p (Some o)) whole)

-- ---- the first moment
pub heap_lawful : HeapsBeginLawful
heap_lawful logs mutators epoch honest fits =
    let lawful = first_lawful logs mutators epoch honest fits in (refl, refl, refl, refl, lawful, whole (first_moment logs mutators epoch honest).core lawful.law, (λ p. refl), (λ l. refl))

-- ---- one law from the text
pub objects_whole : (now : Moment) (cs : List Command) (rs : List Reply) (moments : List Moment) → IsMoment now → AllWriteBytes cs → Answered now cs rs moments →
    All (λ (x : Moment). IsWhole x.core) (now ∷ moments)
objects_whole now cs rs moments is bytes h =
    All-from (λ (x : Moment). IsWhole x.core) (now ∷ moments) (λ x c. whole x.core (moment_lasts x (each_is_moment now cs rs moments is bytes h x c)).law)
