-- What each event does: its rule; the step that it makes. Each event stands in its own file.
use Rattle.std.specs.Prelude.{Option, Some, Bool, if◌then◌else◌}
use Rattle.far_events.specs.declared.event.Event.{Event}
use Rattle.far_events.specs.declared.event.Event.TheVariants.{ReadEpoch, Open, Pin, Load, Store, Soil, Close, Adopt, Put, Name, See, Mark, Ask, Get, Clear, Advance, Look, Offer, PeekJob, SeeJob, Claim, ReadLength, Read, Write, Finish, Collect}
use Rattle.far_events.specs.declared.event.Reply.{Reply}
use Rattle.far_events.specs.declared.event.Reply.TheVariants.{Refused}
use Rattle.far_events.specs.state.State.{State}
use Rattle.far_events.specs.events.Rule.{Rule, Form}
use Rattle.far_events.specs.events.Changes.{Change, Stays}
use Rattle.far_events.specs.events.Touch.{Touch}
use Rattle.far_events.specs.events.ReadEpoch.{read_epoch_rule, read_epoch_form}
use Rattle.far_events.specs.events.Open.{open_rule, open_form}
use Rattle.far_events.specs.events.Pin.{pin_rule, pin_form}
use Rattle.far_events.specs.events.Load.{load_rule, load_form}
use Rattle.far_events.specs.events.Store.{store_rule, store_form}
use Rattle.far_events.specs.events.Close.{close_rule, close_form}
use Rattle.far_events.specs.events.Soil.{soil_rule, soil_form}
use Rattle.far_events.specs.events.Adopt.{adopt_rule, adopt_form}
use Rattle.far_events.specs.events.Put.{put_rule, put_form}
use Rattle.far_events.specs.events.Name.{name_rule, name_form}
use Rattle.far_events.specs.events.See.{see_rule, see_form}
use Rattle.far_events.specs.events.Mark.{mark_rule, mark_form}
use Rattle.far_events.specs.events.Ask.{ask_rule, ask_form}
use Rattle.far_events.specs.events.Get.{get_rule, get_form}
use Rattle.far_events.specs.events.Clear.{clear_rule, clear_form}
use Rattle.far_events.specs.events.Advance.{advance_rule, advance_form}
use Rattle.far_events.specs.events.Look.{look_rule, look_form}
use Rattle.far_events.specs.events.Offer.{offer_rule, offer_form}
use Rattle.far_events.specs.events.PeekJob.{peek_job_rule, peek_job_form}
use Rattle.far_events.specs.events.SeeJob.{see_job_rule, see_job_form}
use Rattle.far_events.specs.events.Claim.{claim_rule, claim_form}
use Rattle.far_events.specs.events.ReadLength.{read_length_rule, read_length_form}
use Rattle.far_events.specs.events.Read.{read_rule, read_form}
use Rattle.far_events.specs.events.Write.{write_rule, write_form}
use Rattle.far_events.specs.events.Finish.{finish_rule, finish_form}
use Rattle.far_events.specs.events.Collect.{collect_rule, collect_form}
pub use Rattle.far_events.specs.events.Owners.{is_closed, is_opened, holds, near_len, near_data, data_len, data_word, keeps_padding}
pub use Rattle.far_events.specs.events.Open.{scope_word_of}
pub use Rattle.far_events.specs.events.Pin.{with_hold, place_to_view, after_pin, pin_answer}
pub use Rattle.far_events.specs.events.Close.{after_close}
pub use Rattle.far_events.specs.events.Put.{is_past}
pub use Rattle.far_events.specs.events.NewSpans.{goes_at, zeros, with_span}

abbrev pub rule : State → Event → Rule
rule s (ReadEpoch m) = read_epoch_rule s m
rule s (Open m) = open_rule s m
rule s (Pin m p) = pin_rule s m p
rule s (Load m p i) = load_rule s m p i
rule s (Store m p i w) = store_rule s m p i w
rule s (Soil m p) = soil_rule s m p
rule s (Close m) = close_rule s m
rule s (Adopt m p) = adopt_rule s m p
rule s (Put l at w) = put_rule s l at w
rule s (Name p old new) = name_rule s p old new
rule s (See p) = see_rule s p
rule s (Mark p) = mark_rule s p
rule s (Ask m p k) = ask_rule s m p k
rule s (Get l at free) = get_rule s l at free
rule s (Clear p) = clear_rule s p
rule s (Advance logs) = advance_rule s logs
rule s (Look m) = look_rule s m
rule s (Offer j p to) = offer_rule s j p to
rule s (PeekJob c j) = peek_job_rule s c j
rule s (SeeJob j) = see_job_rule s j
rule s (Claim c j old) = claim_rule s c j old
rule s (ReadLength c) = read_length_rule s c
rule s (Read c i) = read_rule s c i
rule s (Write c i) = write_rule s c i
rule s (Finish c) = finish_rule s c
rule s (Collect j old) = collect_rule s j old

abbrev pub is_legal : State → Event → Bool
is_legal s e = (rule s e).test

abbrev pub after : State → Event → State
after s e = (rule s e).after

abbrev pub answer : State → Event → Reply
answer s e = (rule s e).answer

abbrev pub touches : State → Event → Touch
touches s e = (rule s e).touches

-- ---- the step: a legal event is made, any other is refused and changes nothing
abbrev pub step_of : State → Event → State × Reply
step_of s e = if is_legal s e then (after s e, answer s e) else (s, Refused)

abbrev pub form : Event → Form
form (ReadEpoch m) = read_epoch_form m
form (Open m) = open_form m
form (Pin m p) = pin_form m p
form (Load m p i) = load_form m p i
form (Store m p i w) = store_form m p i w
form (Soil m p) = soil_form
form (Close m) = close_form m
form (Adopt m p) = adopt_form m p
form (Put l at w) = put_form l at w
form (Name p old new) = name_form p old new
form (See p) = see_form p
form (Mark p) = mark_form p
form (Ask m p k) = ask_form m p k
form (Get l at free) = get_form l at free
form (Clear p) = clear_form p
form (Advance logs) = advance_form
form (Look m) = look_form
form (Offer j p to) = offer_form to
form (PeekJob c j) = peek_job_form
form (SeeJob j) = see_job_form
form (Claim c j old) = claim_form old
form (ReadLength c) = read_length_form
form (Read c i) = read_form
form (Write c i) = write_form
form (Finish c) = finish_form
form (Collect j old) = collect_form old

-- a word that an event carries is 64 bits wide
abbrev pub Fits : Event → Type 0
Fits e = (form e).Fits

-- what an event and its reply do to the world; no other reply comes
abbrev pub change_of : Event → Reply → Option Change
change_of e Refused = Some Stays
change_of e r = (form e).change r
