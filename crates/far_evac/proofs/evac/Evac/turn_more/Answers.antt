use Rattle.far_evac.proofs.evac.Evac.turn_more.Given.{Over}
use Rattle.far_evac.proofs.evac.Evac.turn_more.Goals.{After-keeps_law-in-Ok}
use Rattle.far_evac.proofs.evac.Evac.turn_more.Goals as goal
use Rattle.std.proofs.Common.{◌≡◌, ◌∙◌, ◌+◌, ℕ, true, false, cond, Err, List, Option, Result, ap, sym, subst}
use Rattle.far_device.proofs.Following.{follows_still}
use Rattle.far_evac.specs.declared.answers.EvacFault.{EvacFault}
use Rattle.far_evac.specs.declared.answers.Progress.{Progress}
use Rattle.far_evac.specs.AnyTurns.{TurnsTo}
use Rattle.far_evac.specs.Asked.{KeepsKeys, asked_of, first_live}
use Rattle.far_evac.specs.ByCopying.{asked_live}
use Rattle.far_evac.specs.EvacOf.{moment}
use Rattle.far_evac.specs.Failing.{fails, no_key}
use Rattle.far_evac.specs.Live.{live_among}
use Rattle.far_evac.specs.Moment.{Moment, objects_in, plus, progress_of, tally_of}
use Rattle.far_evac.specs.Turning.{GoesOn, IsBoundedBy, IsCountedIn, IsSmall, told_in}
use Rattle.far_evac.proofs.Bools.{by_copying}
use Rattle.far_evac.proofs.Bounds.{bounded_beside, counts_more, few_more, small_bounded, small_counted, stop_bounded, turn_goes_on}
use Rattle.far_evac.proofs.TurnsOn.{not_idle}

module _ (g : Over) (c : After-keeps_law-in-Ok g) where
  goes_on : c.args.self.now.copying ≡ false → GoesOn (moment g.N.Near.view c.turn.new.self) (plus (tally_of c.args.before) (tally_of c.in-Ok.made)) c.in-Ok.made.done
  goes_on alone = turn_goes_on (moment g.N.Near.view c.args.self.now) (moment g.N.Near.view c.turn.new.self) c.keeps_law.ensures.law c.keeps_law.ensures.moment
      c.keeps_law-in-Ok.ensures.law c.keeps_law-in-Ok.ensures.moment alone (tally_of c.args.before) (tally_of c.in-Ok.made) c.in-Ok.made.done (c.requires.within alone) c.in-Ok.ensures.turns

  many : c.args.self.now.copying ≡ true → (turns : ℕ) → IsCountedIn turns (tally_of c.args.before) → IsCountedIn (turns + 1) (plus (tally_of c.args.before) (tally_of c.in-Ok.made))
  many copies turns before = counts_more turns (tally_of c.args.before) (tally_of c.in-Ok.made) before (bounded_beside c.args.self.now.copying copies (tally_of c.in-Ok.made) (subst (λ (answer : Result Progress EvacFault). IsBoundedBy c.args.self.now.copying (told_in answer)) c.in-Ok.is c.turn.ensures.bounded))

  small : IsSmall (plus (tally_of c.args.before) (tally_of c.in-Ok.made))
  small = by_copying c.args.self.now.copying (λ alone. small_bounded (plus (tally_of c.args.before) (tally_of c.in-Ok.made)) (goes_on alone).bounded)
      (λ copies. let (turns, few, before) = c.requires.few copies in small_counted (turns + 1) (plus (tally_of c.args.before) (tally_of c.in-Ok.made)) (few_more turns few) (many copies turns before))

pub sum-requires : goal.sum-requires
sum-requires g c = record { small = small g (goal.at.sum-requires g c).After-keeps_law-in-Ok }

pub sum-requires-in-Err : goal.sum-requires-in-Err
sum-requires-in-Err g c =
    let m = moment g.N.Near.view c.args.self.now in
    let t = moment g.N.Near.view c.turn.new.self in
    let stops = c.in-Err.ensures.stops (not_idle m.phase c.requires.running) in
    let told = tally_of c.in-Err.fault.so_far in
    let total = plus (tally_of c.args.before) told in record {
      small = by_copying c.args.self.now.copying
          (λ alone. small_bounded total (stop_bounded m t c.keeps_law.ensures.law c.keeps_law.ensures.moment (tally_of c.args.before) told (c.requires.within alone) stops.0 (stops.1.alone alone)))
          (λ copies.
          let (turns, few, before) = c.requires.few copies in
          let bounded = subst (λ (answer : Result Progress EvacFault). IsBoundedBy c.args.self.now.copying (told_in answer)) c.in-Err.is c.turn.ensures.bounded in
          small_counted (turns + 1) total (few_more turns few) (counts_more turns (tally_of c.args.before) told before (bounded_beside c.args.self.now.copying copies told bounded)));
    }

pub returns-in-Ok-clause-goes_on : goal.returns-in-Ok-clause-goes_on
returns-in-Ok-clause-goes_on g c = λ alone.
    subst (λ (p : Progress). GoesOn (moment g.N.Near.view c.turn.new.self) (tally_of p) p.done) (sym c.sum.ensures) (goes_on g (goal.at.returns-in-Ok-clause-goes_on g c).After-keeps_law-in-Ok alone)

pub returns-in-Ok-clause-counted : goal.returns-in-Ok-clause-counted
returns-in-Ok-clause-counted g c = λ copies turns before.
    subst (λ (p : Progress). IsCountedIn (turns + 1) (tally_of p)) (sym c.sum.ensures) (many g (goal.at.returns-in-Ok-clause-counted g c).After-keeps_law-in-Ok copies turns before)

-- under which keys is what was there, where no copy may be offered
module _ (m : Moment) (alone : m.copying ≡ false) (k : ℕ) (a b : ℕ → Option (List ℕ)) where
  keys_first : KeepsKeys (asked_live m k) a b → KeepsKeys (first_live m k) a b
  keys_first keys = subst (λ objects. KeepsKeys objects a b) (ap (λ x. cond x (live_among m.core m.collection) (first_live m k)) alone) keys

pub returns-in-Err-clause-stops : goal.returns-in-Err-clause-stops
returns-in-Err-clause-stops g c =
    let m = moment g.N.Near.view c.args.self.now in
    let runs = not_idle m.phase c.requires.running in
    let before = g.D.Device.contents c.args.self.now.book.device in
    let after = g.D.Device.contents c.turn.new.self.book.device in
    let keys = subst (λ (answer : Result Progress EvacFault). KeepsKeys (asked_live m (asked_of answer)) before after) c.in-Err.is c.turn.ensures.follows.others in
    let told = tally_of c.in-Err.fault.so_far in
    (told, (c.in-Err.ensures.stops runs).1, c.sum-in-Err.ensures, c.in-Err.ensures.refused runs, λ alone. keys_first m alone (objects_in told + 1) before after keys)

pub returns-in-Ok-clause-turns : goal.returns-in-Ok-clause-turns
returns-in-Ok-clause-turns g c =
    let m = moment g.N.Near.view c.args.self.now in
    let t = moment g.N.Near.view c.turn.new.self in
    let made = c.in-Ok.made in
    let before = g.D.Device.contents c.args.self.now.book.device in
    let after = g.D.Device.contents c.turn.new.self.book.device in
    let keys = subst (λ (answer : Result Progress EvacFault). KeepsKeys (asked_live m (asked_of answer)) before after) c.in-Ok.is c.turn.ensures.follows.others in
    let over = ap (λ (p : Progress). p.done) c.sum.ensures in (
      tally_of made,
      subst (λ b. TurnsTo m m.phase (tally_of made) b t) (sym over) c.in-Ok.ensures.turns,
      ap tally_of c.sum.ensures,
      c.in-Ok.ensures.asked,
      λ alone. keys_first m alone (objects_in (tally_of made)) before after keys,
    )

pub returns-in-Err-clause-halts : goal.returns-in-Err-clause-halts
returns-in-Err-clause-halts g c = λ still.
    let m = moment g.N.Near.view c.args.self.now in
    let halts = c.in-Err.ensures.halts still (not_idle m.phase c.requires.running) in
    (halts.0, halts.1, c.sum-in-Err.ensures ∙ ap (λ (p : Progress). progress_of (plus (tally_of c.args.before) (tally_of p)) false) halts.2)

pub returns-in-Ok-clause-came : goal.returns-in-Ok-clause-came
returns-in-Ok-clause-came g c = c.turn.ensures.came

pub returns-in-Ok-clause-lawful : goal.returns-in-Ok-clause-lawful
returns-in-Ok-clause-lawful g c = (c.keeps_law.ensures.law, c.keeps_law.ensures.moment)

pub returns-in-Ok-clause-copying : goal.returns-in-Ok-clause-copying
returns-in-Ok-clause-copying g c = c.turn.ensures.copying

pub returns-in-Ok-clause-over : goal.returns-in-Ok-clause-over
returns-in-Ok-clause-over g c = c.in-Ok.ensures.goes_on ∙ sym (ap (λ (p : Progress). p.done) c.sum.ensures)

pub returns-in-Ok-clause-follows : goal.returns-in-Ok-clause-follows
returns-in-Ok-clause-follows g c =
    follows_still g.D.Device.contents g.D.Device.honest g.D.Device.faults g.D.Device.fails_at_most _ no_key false c.args.self.now.book.device c.turn.new.self.book.device (λ q odd. absurd odd) c.in-Ok.ensures.follows

pub returns-in-Err-clause-came : goal.returns-in-Err-clause-came
returns-in-Err-clause-came g c = c.turn.ensures.came

pub returns-in-Err-clause-lawful : goal.returns-in-Err-clause-lawful
returns-in-Err-clause-lawful g c = (c.keeps_law.ensures.law, c.keeps_law.ensures.moment)

pub returns-in-Err-clause-copying : goal.returns-in-Err-clause-copying
returns-in-Err-clause-copying g c = c.turn.ensures.copying

pub returns-in-Err-clause-leaving : goal.returns-in-Err-clause-leaving
returns-in-Err-clause-leaving g c = (c.in-Err.ensures.stops (not_idle c.args.self.now.phase c.requires.running)).0

pub returns-in-Err-clause-why : goal.returns-in-Err-clause-why
returns-in-Err-clause-why g c = c.in-Err.ensures.why (not_idle c.args.self.now.phase c.requires.running)

pub returns-in-Err-clause-follows : goal.returns-in-Err-clause-follows
returns-in-Err-clause-follows g c =
    follows_still g.D.Device.contents g.D.Device.honest g.D.Device.faults g.D.Device.fails_at_most _ no_key (fails {A = Progress} (Err c.in-Err.fault)) c.args.self.now.book.device c.turn.new.self.book.device (λ q odd. absurd odd) c.in-Err.ensures.follows
