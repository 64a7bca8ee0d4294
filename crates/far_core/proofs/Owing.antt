-- What every event owes, by its own file; and what follows of any event.
use Rattle.std.proofs.Common.{◌≡◌, ◌≢◌, true}
use Rattle.far_events.specs.declared.event.Event.{Event}
use Rattle.far_events.specs.declared.event.Event.TheVariants.{ReadEpoch, Open, Pin, Load, Store, Soil, Close, Adopt, Put, Name, See, Mark, Ask, Get, Clear, Advance, Look, Offer, PeekJob, SeeJob, Claim, ReadLength, Read, Write, Finish, Collect}
use Rattle.far_events.specs.declared.event.Reply.TheVariants.{Refused}
use Rattle.far_core.specs.world.Happens.{Happens}
use Rattle.far_events.specs.state.Law.{Law}
use Rattle.far_events.specs.events.Legal.{Legal}
use Rattle.far_events.specs.state.State.{State}
use Rattle.far_events.specs.events.Step.{is_legal, after, answer, Fits}
use Rattle.far_events.specs.events.Reports.{RepliesReport, RefusalsReportNothing}
use Rattle.far_core.specs.world.WorldOf.{world_of}
use Rattle.far_core.proofs.Owed.{Owed}
use Rattle.far_core.proofs.events.ReadEpoch.{read_epoch_owed}
use Rattle.far_core.proofs.events.Open.{open_owed}
use Rattle.far_core.proofs.events.Pin.{pin_owed}
use Rattle.far_core.proofs.events.Load.{load_owed}
use Rattle.far_core.proofs.events.Soil.{soil_owed}
use Rattle.far_core.proofs.events.Store.{store_owed}
use Rattle.far_core.proofs.events.Close.{close_owed}
use Rattle.far_core.proofs.events.Adopt.{adopt_owed}
use Rattle.far_core.proofs.events.Put.{put_owed}
use Rattle.far_core.proofs.events.Name.{name_owed}
use Rattle.far_core.proofs.events.See.{see_owed}
use Rattle.far_core.proofs.events.Mark.{mark_owed}
use Rattle.far_core.proofs.events.Ask.{ask_owed}
use Rattle.far_core.proofs.events.Get.{get_owed}
use Rattle.far_core.proofs.events.Clear.{clear_owed}
use Rattle.far_core.proofs.events.Advance.{advance_owed}
use Rattle.far_core.proofs.events.Look.{look_owed}
use Rattle.far_core.proofs.events.Offer.{offer_owed}
use Rattle.far_core.proofs.events.PeekJob.{peek_job_owed}
use Rattle.far_core.proofs.events.SeeJob.{see_job_owed}
use Rattle.far_core.proofs.events.Claim.{claim_owed}
use Rattle.far_core.proofs.events.ReadLength.{read_length_owed}
use Rattle.far_core.proofs.events.Read.{read_owed}
use Rattle.far_core.proofs.events.Write.{write_owed}
use Rattle.far_core.proofs.events.Finish.{finish_owed}
use Rattle.far_core.proofs.events.Collect.{collect_owed}

pub owed : (e : Event) → Owed e
owed (ReadEpoch m) = read_epoch_owed m
owed (Open m) = open_owed m
owed (Pin m p) = pin_owed m p
owed (Load m p i) = load_owed m p i
owed (Store m p i w) = store_owed m p i w
owed (Soil m p) = soil_owed m p
owed (Close m) = close_owed m
owed (Adopt m p) = adopt_owed m p
owed (Put l at w) = put_owed l at w
owed (Name p old new) = name_owed p old new
owed (See p) = see_owed p
owed (Mark p) = mark_owed p
owed (Ask m p k) = ask_owed m p k
owed (Get l at free) = get_owed l at free
owed (Clear p) = clear_owed p
owed (Advance logs) = advance_owed logs
owed (Look m) = look_owed m
owed (Offer j p to) = offer_owed j p to
owed (PeekJob c j) = peek_job_owed c j
owed (SeeJob j) = see_job_owed j
owed (Claim c j old) = claim_owed c j old
owed (ReadLength c) = read_length_owed c
owed (Read c i) = read_owed c i
owed (Write c i) = write_owed c i
owed (Finish c) = finish_owed c
owed (Collect j old) = collect_owed j old

-- what passes the test is legal
pub is_fact : (s : State) (e : Event) → Law s → is_legal s e ≡ true → Legal s e
is_fact s e = (owed e).fact s

-- what is legal passes the test
pub is_test : (s : State) (e : Event) → Legal s e → is_legal s e ≡ true
is_test s e = (owed e).test s

-- every legal event keeps the law
pub keeps : (s : State) (e : Event) → Law s → Fits e → Legal s e → Law (after s e)
keeps s e = (owed e).keeps s

pub does : (s : State) (e : Event) → Law s → Fits e → Legal s e → Happens (world_of s) e (answer s e) (world_of (after s e))
does s e = (owed e).does s

pub replies_report : (s : State) → Law s → RepliesReport s
replies_report s law e = (owed e).reports s law

-- no report is of a refusal
pub refusals_report_nothing : RefusalsReportNothing
refusals_report_nothing s t e = (owed e).silent s t

-- a legal event isn't answered Refused
pub never_refused : (s : State) (e : Event) → answer s e ≢ Refused
never_refused s e = (owed e).answers s
