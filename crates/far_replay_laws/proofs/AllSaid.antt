-- Of each command of a text all is so that is promised of it.
use Rattle.std.proofs.Common.{◌≡◌, ℕ, true, subst, Option, List, ◌∷◌}
use Rattle.std.specs.Prelude.{All}
use Rattle.far_log.proofs.Members.{All-from}
use Rattle.far_events.specs.state.Shape.{is_shape}
use Rattle.far_text.specs.Command.{Command, Device, New, Open, Close, Where, Drop, Try, Epoch, Logs, Log, Mutator, Book, Evacuator}
use Rattle.far_text.specs.Written.{AllWriteBytes, WritesBytes}
use Rattle.far_replay.specs.Answers.{Commanded, Served, IsMoment, first_moment, is_true, shape_of}
use Rattle.far_replay.proofs.Answering.{answered_by}
use Rattle.far_replay.proofs.Outcomes.{AsksNothing, is_served}
use Rattle.far_replay.specs.Moment.{Moment}
use Rattle.far_reply.specs.Reply.{Reply, Pointer}
use Rattle.far_replay.proofs.Drops.{drop_ends_object}
use Rattle.far_replay.proofs.Lasting.{each_is_moment, first_is_moment, first_lasts, moment_lasts, moments_last}
use Rattle.far_text.proofs.TextLaws.{texts_write}
use Rattle.far_replay_laws.specs.Headline.{IsSound, OutputsAreSound}
use Rattle.far_replay_laws.specs.LeftMarks.{LeavesMarks, TextsLeaveMarks, ViewedAreHot}
use Rattle.far_replay_laws.specs.Said.{Said, TextsSayAll}
use Rattle.far_replay_laws.specs.Left.{Leaves}
use Rattle.far_replay_laws.specs.Listed.{Counted}
use Rattle.far_replay_laws.specs.Steps.{Told}
use Rattle.far_replay_laws.proofs.AgesKept.{ages_stay}
use Rattle.far_replay_laws.proofs.Along.{along}
use Rattle.far_replay_laws.proofs.AloneFirst.{alone_said}
use Rattle.far_replay_laws.proofs.EpochLaws.{closes_forget, epochs_told, scopes_open}
use Rattle.far_replay_laws.proofs.EpochsSpent.{steps_spend}
use Rattle.far_replay_laws.proofs.Failures.{flaws_are_said}
use Rattle.far_replay_laws.proofs.GivenBytes.{each_given}
use Rattle.far_replay_laws.proofs.FarRefusals.{device_refuses_far}
use Rattle.far_replay_laws.proofs.LeftBeside.{commands_beside}
use Rattle.far_replay_laws.proofs.HotViews.{views_are_hot}
use Rattle.far_replay_laws.proofs.InquiryLaws.{log_tells, where_tells}
use Rattle.far_replay_laws.proofs.LeavingMarks.{commands_leave}
use Rattle.far_replay_laws.proofs.LeftBySteps.{left_so}
use Rattle.far_replay_laws.proofs.Listed.{counted}
use Rattle.far_replay_laws.proofs.OutputLaws.{is_made, logs_tell, makes_its_object, objects_whole, refusals_stay, takes_lowest}
use Rattle.far_replay_laws.proofs.PlainReplies.{replies_plain}
use Rattle.far_replay_laws.proofs.Refusals.{near_refusals}
use Rattle.far_replay_laws.proofs.TakingRoom.{commands_take}
use Rattle.far_replay_laws.proofs.Tries.{tries_answered}
use Rattle.far_replay_laws.proofs.TurnsTell.{told_so}
use Rattle.far_replay_laws.proofs.ViewLaws.{logs_stay, views_last}

module _ (now : Moment) (c : Command) (r : Reply) (next : Moment) (is : IsMoment now) (bytes : WritesBytes c) (h : Commanded now c r next) where
  at : (d : Command) → c ≡ d → Commanded now d r next
  at d e = subst (λ x. Commanded now x r next) e h

  by : (d : Command) → AsksNothing d → c ≡ d → Served now d r next
  by d none e = is_served now d r next none (at d e)

  to : (d : Command) (q : Reply) → AsksNothing d → c ≡ d → r ≡ q → Served now d q next
  to d q none e f = subst (λ x. Served now d x next) f (by d none e)

  pub said : Said now c r next
  said = let law = (moment_lasts now is).law in record {
    new = λ m len ds e own byte some most. is_made now m len ds r next own byte some most (by (Mutator m (New len ds)) tt e);
    lowest = λ m len ds p e f. takes_lowest now m len ds p next (to (Mutator m (New len ds)) (Pointer p) tt e f);
    made = λ m len ds p e f. makes_its_object now m len ds p next is (to (Mutator m (New len ds)) (Pointer p) tt e f);
    place = λ m p e own. where_tells now m p r next law own (by (Mutator m (Where p)) tt e);
    epoch = λ m e own. epochs_told now m r next own (at (Mutator m Epoch) e);
    opens = λ m e own closed. scopes_open now m r next own closed (at (Mutator m Open) e);
    forgets = λ m e f. closes_forget now m next (subst (λ x. Commanded now (Mutator m Close) x next) f (at (Mutator m Close) e));
    tries = λ m p e own opened used. tries_answered now m p r next law own opened used (by (Mutator m (Try p)) tt e);
    drops = λ m p e own. drop_ends_object now m p r next law own (by (Mutator m (Drop p)) tt e);
    log = λ l e. log_tells now l r next (by (Book (Log l)) tt e);
    logs = λ e. logs_tell now r next law (by (Book Logs) tt e);
    views = views_last now c r next is bytes h;
    marks = commands_leave now c r next is h;
    beside = commands_beside now c r next is h;
    room = commands_take now c r next is h;
    ages = ages_stay now c r next is h;
    spends = λ step e. steps_spend now step r next is (at (Evacuator step) e);
    stays = λ why f. refusals_stay now c r next why law h f;
    far = λ why f keeps. device_refuses_far now c r next why is h f keeps;
    causes = λ why near f. near_refusals now c r next why law near h f;
  }

-- ---- from the text on
pub outputs_sound : OutputsAreSound
outputs_sound text output logs mutators epoch device cs answers reads fits =
    let first = first_moment logs mutators epoch (is_true device) in
    let bytes : AllWriteBytes cs = texts_write text logs mutators epoch device cs reads in
    let is : IsMoment first = first_is_moment logs mutators epoch (is_true device) fits in
    let lasts = first_lasts logs mutators epoch (is_true device) fits in
    let (os, rs, moments, made, e, fails, lies) = flaws_are_said text output logs mutators epoch device cs answers reads fits in
    let h = answered_by os first cs rs moments made in
    record {
      replies = rs;
      moments = moments;
      bytes = bytes;
      outside = os;
      made = made;
      answered = h;
      printed_so = e;
      plain = replies_plain first cs rs moments lasts bytes h;
      lawful = moments_last first cs rs moments is bytes h;
      whole = objects_whole first cs rs moments is bytes h;
      stay = logs_stay first cs rs moments is bytes h;
      alone = λ m within. alone_said logs mutators epoch m device os cs rs moments fits within bytes lies made;
      told = along Told (λ now c r next is bytes h. told_so now c r next (moment_lasts now is) h) first cs rs moments is bytes h;
      left = along Leaves (λ now c r next is bytes h. left_so now c r next (moment_lasts now is) h) first cs rs moments is bytes h;
      counted = along (λ now c r next. Counted now c r) (λ now c r next is bytes h. counted now c r next (moment_lasts now is).law h) first cs rs moments is bytes h;
      fails = fails;
      lies = lies;
      given = each_given os first cs rs moments is bytes made;
    }

-- what is viewed has HOT in each of its moments
sound_hot : (logs mutators epoch : ℕ) (device : Option Device) (cs : List Command) (output : List ℕ) → is_shape (shape_of logs mutators epoch) ≡ true → (x : IsSound logs mutators epoch device cs output) →
    All (λ (now : Moment). ViewedAreHot now.core) (first_moment logs mutators epoch (is_true device) ∷ x.moments)
sound_hot logs mutators epoch device cs output fits x =
    let first = first_moment logs mutators epoch (is_true device) in
    All-from (λ (now : Moment). ViewedAreHot now.core) (first ∷ x.moments)
    (λ y c. views_are_hot y (each_is_moment first cs x.replies x.moments (first_is_moment logs mutators epoch (is_true device) fits) x.bytes x.answered y c))

pub texts_say_all : TextsSayAll
texts_say_all text output logs mutators epoch device cs answers reads fits =
    let x = outputs_sound text output logs mutators epoch device cs answers reads fits in
    (x, along Said said (first_moment logs mutators epoch (is_true device)) cs x.replies x.moments (first_is_moment logs mutators epoch (is_true device) fits) x.bytes x.answered, sound_hot logs mutators epoch device cs output fits x)

pub texts_leave : TextsLeaveMarks
texts_leave text output logs mutators epoch device cs answers reads fits =
    let x = outputs_sound text output logs mutators epoch device cs answers reads fits in
    (x, along (λ now c r next. LeavesMarks now.core c r next.core) (λ now c r next is bytes h. commands_leave now c r next is h) (first_moment logs mutators epoch (is_true device)) cs x.replies x.moments (first_is_moment logs mutators epoch (is_true device) fits) x.bytes x.answered, sound_hot logs mutators epoch device cs output fits x)
