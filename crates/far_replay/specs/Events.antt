-- The events of a core by which a command is carried out: a list for each. An inquiry makes none. Those of a step of the evacuator aren't told one by one.
use Rattle.std.specs.Prelude.{true, List, [], ◌∷◌, ◌++◌, length}
use Rattle.far_word.specs.declared.refused.Refused.{Refused as Refusal}
use Rattle.far_word.specs.declared.refused.Refused.TheVariants.{NoRoom, Marked}
use Rattle.far_word.specs.Sizes.{size_of}
use Rattle.far_events.specs.declared.event.Event.{Event}
use Rattle.far_events.specs.declared.event.Event.TheVariants.{ReadEpoch as ReadsEpoch, Close as Closes}
use Rattle.far_core.specs.state.Room.{room}
use Rattle.far_text.specs.Command.{Command, New, Open, On, Reads, Writes, Views, Close, Where, Drop, Try, Epoch, Mutator, Book, Evacuator}
use Rattle.far_alone.specs.Dereference.{dereferenced}
use Rattle.far_alone.specs.Events.{dereference_events, drop_events, first_word, load_events, new_events, open_events, part_events, soil_events, sought_events, store_events, view_events, words_touched}
use Rattle.far_alone.specs.Objects.{data_of, lowest_cell, with_range}
use Rattle.far_replay.specs.Moment.{Moment}
use Rattle.far_replay.specs.Turn.{refusal, unless}

abbrev pub turn_events : Moment → Command → List Event
turn_events now (Mutator m (New len ds)) = new_events m len ds (lowest_cell now.core m) (room now.core (size_of len) true)
turn_events now (Mutator m Open) = open_events now.core m
turn_events now (Mutator m (On p (Writes from bytes))) =
    dereference_events now.core m p ++ soil_events (dereferenced now.core m p) m p ++ part_events m p from (length bytes)
    ++ store_events m p (first_word from) (words_touched from (length bytes)) (with_range (data_of (dereferenced now.core m p) p) from bytes)
turn_events now (Mutator m (On p (Reads from len))) = dereference_events now.core m p ++ load_events m p (first_word from) (words_touched from len)
turn_events now (Mutator m Close) = Closes m ∷ []
turn_events now (Mutator m (Where p)) = []
turn_events now (Mutator m (Drop p)) = drop_events now.core m p
turn_events now (Mutator m (On p Views)) = dereference_events now.core m p
turn_events now (Mutator m (Try p)) = view_events now.core m p
turn_events now (Mutator m Epoch) = ReadsEpoch m ∷ []
turn_events now (Book inquiry) = []
turn_events now (Evacuator step) = []

-- a refused command makes no event, but the pin that found a mark, and where an object found no place the pin and its owner's asking
abbrev pub refused_events : Moment → Command → Refusal → List Event
refused_events now (Mutator m (On p how)) NoRoom = sought_events now.core m p
refused_events now (Mutator m (Try p)) (Marked word) = view_events now.core m p
refused_events now c why = []

-- these are all events of a command
abbrev pub IsNoStep : Command → Type 0
IsNoStep (Mutator m request) = Unit {0}
IsNoStep (Book inquiry) = Unit {0}
IsNoStep (Evacuator step) = ⊥

abbrev pub events_for : Moment → Command → List Event
events_for now c = unless (refusal now c) (refused_events now c) (turn_events now c)
