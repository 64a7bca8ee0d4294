-- The state at the start.
use Rattle.std.specs.Prelude.{Bool, false, true, None}
use Rattle.far_events.specs.declared.event.Kind.TheVariants.{Free, Open}
use Rattle.far_events.specs.declared.shape.Shape.{Shape}
use Rattle.far_events.specs.state.State.{Copying, State, put}

-- no job, and no copier has one yet
abbrev pub no_copying : Copying
no_copying = record { has_copiers = true; word = λ _. 0; since = λ _. 0; named = λ _. false; task = λ _. None; length = λ _. None; read = λ _ _. None; written = λ _ _. false }

-- all words but the epoch are 0; all logs are free; nothing is used, held, soiled or remembered; the round is empty, with the
-- first epoch as its own
abbrev pub unopened : Shape → Bool → State
unopened shape honest = record {
  mutators = shape.mutators;
  logs = shape.logs;
  honest = honest;
  epoch = shape.epoch;
  scope = λ _. 0;
  cell = λ _. 0;
  word = λ _. 0;
  remembered = λ _. None;
  used = λ _. false;
  held = λ _. None;
  soiled = λ _. false;
  kind = λ _. Free;
  tail = λ _. 0;
  current = 0;
  starts = λ _. false;
  round = λ _. false;
  round_epoch = shape.epoch;
  clear = λ _. false;
  stored = λ _ _. 0;
  copying = no_copying;
}

-- the same with log 0 open
abbrev pub opening : Shape → Bool → State
opening shape honest = record (unopened shape honest) { kind = put (λ _. Free) 0 Open }

-- the same with copiers, or where none may have a job
abbrev pub for_copiers : Bool → State → State
for_copiers has s = record s { copying = record s.copying { has_copiers = has } }

abbrev pub without_copiers : State → State
without_copiers s = for_copiers false s
