-- What a command makes of a heap: when it is refused, the moment after it, and its reply.
use Rattle.std.specs.Prelude.{ℕ, ◌+◌, Bool, true, ◌&&◌, not, nat_lt, nat_le, Option, Some, None, is_some, List, [], ◌∷◌, ◌++◌, length, map, slice_range, if◌then◌else◌}
use Rattle.std.specs.List.{range_with_len}
use Rattle.far_word.specs.declared.pointer.Place.{Place}
use Rattle.far_word.specs.declared.refused.Refused.{Refused as Refusal}
use Rattle.far_word.specs.declared.refused.Refused.TheVariants.{NoRoom, NoPointer, Length, Closed, AlreadyOpen, NotHeld, Range, Held, Marked}
use Rattle.far_word.specs.declared.sizes.TheConstants.{LONGEST}
use Rattle.far_word.specs.Sizes.{size_of}
use Rattle.far_events.specs.events.Step.{is_opened, after_close}
use Rattle.far_core.specs.laws.Observed.{live_bytes, dead_bytes, unused_bytes}
use Rattle.far_core.specs.state.Room.{room}
use Rattle.far_events.specs.state.State.{State}
use Rattle.far_word.specs.Pointer.{read_of}
use Rattle.far_book.specs.book.Home.{home_of}
use Rattle.far_book.specs.declared.home.Home.{Home}
use Rattle.far_evac.specs.Census.{kind_in}
use Rattle.far_replay.specs.Audit.{counts_of}
use Rattle.far_text.specs.Command.{Command, New, Open, On, Use, Reads, Writes, Views, Close, Where, Drop, Try, Epoch, Logs, Log, Audit, Mutator, Book, Evacuator}
use Rattle.far_alone.specs.Dereference.{dereferenced, has_no_room, sought}
use Rattle.far_alone.specs.Effects.{with_object, with_epoch, with_scope, with_view, is_slow, with_data, without_object}
use Rattle.far_replay.specs.Moment.{Moment, with_core}
use Rattle.far_alone.specs.Objects.{uses, object_len, data_of, lowest_cell, is_range}
use Rattle.far_reply.specs.Reply.{Reply, Done, Pointer, Data, Logs as Told, Lies, Audited, EpochRead, Refused}
use Rattle.far_reply.specs.declared.reply.LogLine.{LogLine}
use Rattle.far_replay.specs.Rounds.{refused_step, step_causes, step_effect, step_reply}

-- ---- when a command is refused
-- the causes by which it may be refused, in their order, each with its test
abbrev pub access_causes : Moment → ℕ → ℕ → ℕ → ℕ → List (Bool × Refusal)
access_causes now m p from count =
    (not (nat_lt m now.core.mutators), Range) ∷ (not (is_opened now.core m), Closed) ∷ (not (uses now.core m p), NotHeld) ∷ (not (is_range (object_len now.core p) from count), Range) ∷ []

abbrev pub causes : Moment → Command → List (Bool × Refusal)
causes now (Mutator m (New len ds)) =
    (not (nat_lt m now.core.mutators && nat_lt ds 256), Range) ∷ (not (nat_lt 0 len && nat_le len LONGEST), Length)
    ∷ (not (is_some (lowest_cell now.core m)), NoPointer) ∷ (not (is_some (room now.core (size_of len) true)), NoRoom) ∷ []
causes now (Mutator m Open) = (not (nat_lt m now.core.mutators), Range) ∷ (is_opened now.core m, AlreadyOpen) ∷ []
causes now (Mutator m (On p (Writes from bytes))) = access_causes now m p from (length bytes) ++ (has_no_room now.core m p, NoRoom) ∷ []
causes now (Mutator m (On p (Reads from len))) = access_causes now m p from len ++ (has_no_room now.core m p, NoRoom) ∷ []
causes now (Mutator m Close) = (not (nat_lt m now.core.mutators), Range) ∷ (not (is_opened now.core m), Closed) ∷ []
causes now (Mutator m (Where p)) = (not (nat_lt m now.core.mutators), Range) ∷ (not (uses now.core m p), NotHeld) ∷ []
causes now (Mutator m (Drop p)) = (not (nat_lt m now.core.mutators), Range) ∷ (not (uses now.core m p), NotHeld) ∷ (is_some (now.core.held p), Held) ∷ []
causes now (Mutator m (On p Views)) =
    (not (nat_lt m now.core.mutators), Range) ∷ (not (is_opened now.core m), Closed) ∷ (not (uses now.core m p), NotHeld) ∷ (has_no_room now.core m p, NoRoom) ∷ []
causes now (Mutator m (Try p)) =
    (not (nat_lt m now.core.mutators), Range) ∷ (not (is_opened now.core m), Closed) ∷ (not (uses now.core m p), NotHeld) ∷ (is_slow now.core p, Marked (now.core.cell p)) ∷ []
causes now (Mutator m Epoch) = (not (nat_lt m now.core.mutators), Range) ∷ (is_opened now.core m, AlreadyOpen) ∷ []
causes now (Book Logs) = []
causes now (Book (Log l)) = (not (nat_lt l now.core.logs), Range) ∷ []
causes now (Book Audit) = []
causes now (Evacuator step) = step_causes now step

-- the first cause that holds
abbrev pub first_cause : List (Bool × Refusal) → Option Refusal
first_cause [] = None
first_cause (cause ∷ causes) = if cause.0 then Some cause.1 else first_cause causes

abbrev pub refusal : Moment → Command → Option Refusal
refusal now c = first_cause (causes now c)

-- ---- the moment after a command that isn't refused
-- a new object at the pointer and the place that were found
abbrev pub with_new : State → ℕ → ℕ → ℕ → Option ℕ → Option Place → State
with_new s m len ds None place = s
with_new s m len ds (Some p) None = s
with_new s m len ds (Some p) (Some place) = with_object s m p len ds place

-- an object that is at hand, once it is used: a write leaves its bytes there
abbrev pub after_use : State → ℕ → Use → State
after_use s p (Writes from bytes) = with_data s p from bytes
after_use s p how = s

abbrev pub turn_effect : Moment → Command → Moment
turn_effect now (Mutator m (New len ds)) = with_core now (with_new now.core m len ds (lowest_cell now.core m) (room now.core (size_of len) true))
turn_effect now (Mutator m Open) = with_core now (with_scope now.core m)
turn_effect now (Mutator m (On p how)) = with_core now (after_use (dereferenced now.core m p) p how)
turn_effect now (Mutator m Close) = with_core now (after_close now.core m)
turn_effect now (Mutator m (Where p)) = now
turn_effect now (Mutator m (Drop p)) = with_core now (without_object now.core m p)
turn_effect now (Mutator m (Try p)) = with_core now (with_view now.core p)
turn_effect now (Mutator m Epoch) = with_core now (with_epoch now.core m)
turn_effect now (Book inquiry) = now
turn_effect now (Evacuator step) = step_effect now step

-- ---- the moment after a command that is refused: as before, but for the marks that it left, and whom a wait saw clear
abbrev pub refused_effect : Moment → Command → Refusal → Moment
refused_effect now (Mutator m (On p how)) NoRoom = with_core now (sought now.core m p)
refused_effect now (Mutator m (Try p)) (Marked word) = with_core now (with_view now.core p)
refused_effect now (Evacuator step) why = refused_step now step why
refused_effect now c why = now

-- ---- the reply of a command that isn't refused
abbrev pub log_line : Moment → ℕ → LogLine
log_line now l =
    record { log = l; kind = kind_in now l; live = live_bytes now.core l; dead = dead_bytes now.core l; unused = unused_bytes now.core l }

abbrev pub pointer_reply : Option ℕ → Reply
pointer_reply None = Done
pointer_reply (Some p) = Pointer p

-- where a used pointer's object is
abbrev pub home_reply : Option Home → Reply
home_reply None = Done
home_reply (Some home) = Lies home

abbrev pub turn_reply : Moment → Command → Reply
turn_reply now (Mutator m (New len ds)) = pointer_reply (lowest_cell now.core m)
turn_reply now (Mutator m Open) = Done
turn_reply now (Mutator m (On p (Reads from len))) = Data (slice_range (data_of (dereferenced now.core m p) p) from (from + len))
turn_reply now (Mutator m (On p how)) = Done
turn_reply now (Mutator m Close) = Done
turn_reply now (Mutator m (Where p)) = home_reply (home_of (read_of (now.core.cell p)))
turn_reply now (Mutator m (Drop p)) = Done
turn_reply now (Mutator m (Try p)) = Done
turn_reply now (Mutator m Epoch) = EpochRead now.core.epoch
turn_reply now (Book Logs) = Told (map (log_line now) (range_with_len 0 now.core.logs))
turn_reply now (Book (Log l)) = Told (log_line now l ∷ [])
turn_reply now (Book Audit) = Audited (counts_of now.core)
turn_reply now (Evacuator step) = step_reply now step

-- ---- all together
abbrev pub unless : {X : Type 0} → Option Refusal → (Refusal → X) → X → X
unless None turned value = value
unless (Some why) turned value = turned why

abbrev pub effect : Moment → Command → Moment
effect now c = unless (refusal now c) (refused_effect now c) (turn_effect now c)

abbrev pub reply_to : Moment → Command → Reply
reply_to now c = unless (refusal now c) Refused (turn_reply now c)
