use Rattle.std.proofs.Common.{◌≡◌, ◌∙◌, Ok, ap, refl, subst, sym}
use Rattle.std.specs.Prelude.{Bool, Result}
use Rattle.std.proofs.lemmas.Bool.{true≢false}
use Rattle.far_word.specs.declared.refused.Refused.{Refused}
use Rattle.far_device.specs.Following.{Follows, other_than}
use Rattle.far_book.specs.book.Asking.{AsksToEvict}
use Rattle.far_book.specs.book.Dealing.{is_failure}
use Rattle.far_book.specs.book.Effects.{with_free_cell}
use Rattle.far_evac.specs.declared.evac.evacuating.Fate.TheVariants.{Dropped, Far}
use Rattle.far_evac.specs.Walk.{Drops, Goes}
use Rattle.far_evac.specs.declared.evac.evacuating.Fate.{Fate}
use Rattle.far_evac.proofs.Failures.{failure_alike}
use Rattle.far_evac.proofs.Hands.{knows_spans}
use Rattle.far_evac.proofs.SendingOff.{far_known, seen_known}
use Rattle.far_evac.proofs.evac.evacuating.send_far.Goals as goal

pub returns-in-Ok-true-clause-goes : goal.returns-in-Ok-true-clause-goes
returns-in-Ok-true-clause-goes g c =
    far_known (g.N.Near.view c.args.book.now.near) c.args.pointer c.requires.quiet c.keeps_law.ensures.law c.requires.evac (g.N.Near.view c.evict_by-answer.new.self.near) c.keeps_law-2.ensures.law c.requires.alive
    (c.evict_by-answer.ensures.far (c.in-Ok-true.is ∙ ap (λ far. Ok far) c.in-Ok-true.field-0-test))

pub returns-in-Ok-false-clause-goes : goal.returns-in-Ok-false-clause-goes
returns-in-Ok-false-clause-goes g c =
    let gone = c.evict_by-answer.ensures.gone (c.in-Ok-false.is ∙ ap (λ far. Ok far) c.in-Ok-false.field-0-test) in
    (gone.word, gone.found, gone.dropped, knows_spans (with_free_cell (g.N.Near.view c.args.book.now.near) c.args.pointer) (g.N.Near.view c.evict_by-answer.new.self.near) gone.leaves c.keeps_law-2.ensures.law)

pub returns-in-Err-clause-kept : goal.returns-in-Err-clause-kept
returns-in-Err-clause-kept g c =
    seen_known (g.N.Near.view c.args.book.now.near) (g.N.Near.view c.evict_by-answer.new.self.near) c.args.pointer c.in-Err.ensures.kept c.keeps_law-2.ensures.law

pub returns-in-Ok-true-clause-asked : goal.returns-in-Ok-true-clause-asked
returns-in-Ok-true-clause-asked g c = (
  Goes,
  refl,
  subst (λ (r : Result Bool Refused). AsksToEvict g.row.D.Denot g.D.Device.writes g.D.Device.lets_go (g.N.Near.view c.args.book.now.near) c.args.pointer r c.args.book.now.device c.evict_by-answer.new.self.device)
      (c.in-Ok-true.is ∙ ap (λ far. Ok far) c.in-Ok-true.field-0-test) c.evict_by-answer.ensures.called,
)

pub returns-in-Ok-false-clause-asked : goal.returns-in-Ok-false-clause-asked
returns-in-Ok-false-clause-asked g c = (
  Drops,
  refl,
  subst (λ (r : Result Bool Refused). AsksToEvict g.row.D.Denot g.D.Device.writes g.D.Device.lets_go (g.N.Near.view c.args.book.now.near) c.args.pointer r c.args.book.now.device c.evict_by-answer.new.self.device)
      (c.in-Ok-false.is ∙ ap (λ far. Ok far) c.in-Ok-false.field-0-test) c.evict_by-answer.ensures.called,
)

pub returns-in-Ok-true-clause-unasked : goal.returns-in-Ok-true-clause-unasked
returns-in-Ok-true-clause-unasked g c = λ still is clean. c.evict_by-answer.ensures.unasked still (c.in-Ok-true.is ∙ ap (λ far. Ok far) c.in-Ok-true.field-0-test) clean

pub returns-in-Ok-false-clause-unasked : goal.returns-in-Ok-false-clause-unasked
returns-in-Ok-false-clause-unasked g c = λ still is clean. let odd : Dropped ≡ Far = is in absurd cc

-- ---- what is asked of what is called
pub evict_by-answer-requires-clause-pointer : goal.evict_by-answer-requires-clause-pointer
evict_by-answer-requires-clause-pointer g c = c.requires.pointer

pub evict_by-answer-requires-clause-quiet : goal.evict_by-answer-requires-clause-quiet
evict_by-answer-requires-clause-quiet g c = c.requires.quiet

pub evict_by-answer-requires-clause-evac : goal.evict_by-answer-requires-clause-evac
evict_by-answer-requires-clause-evac g c = c.requires.evac

pub evict_by-answer-requires-clause-known : goal.evict_by-answer-requires-clause-known
evict_by-answer-requires-clause-known g c = c.requires.cell

-- ---- it went far
pub returns-in-Ok-true-clause-came : goal.returns-in-Ok-true-clause-came
returns-in-Ok-true-clause-came g c = c.evict_by-answer.ensures.came

pub returns-in-Ok-true-clause-exact : goal.returns-in-Ok-true-clause-exact
returns-in-Ok-true-clause-exact g c still = (refl, c.evict_by-answer.ensures.away still (c.in-Ok-true.is ∙ ap (λ far. Ok far) c.in-Ok-true.field-0-test))

pub returns-in-Ok-true-clause-order : goal.returns-in-Ok-true-clause-order
returns-in-Ok-true-clause-order g c = c.evict_by-answer.ensures.order

pub returns-in-Ok-true-clause-follows : goal.returns-in-Ok-true-clause-follows
returns-in-Ok-true-clause-follows g c =
    subst (λ (r : Result Bool Refused). Follows g.D.Device.contents g.D.Device.honest g.D.Device.faults g.D.Device.fails_at_most (other_than c.args.pointer) (is_failure {A = Bool} r) c.args.book.now.device c.evict_by-answer.new.self.device)
    (c.in-Ok-true.is ∙ ap (λ far. Ok far) c.in-Ok-true.field-0-test) c.evict_by-answer.ensures.follows

-- ---- it was found dropped
pub returns-in-Ok-false-clause-came : goal.returns-in-Ok-false-clause-came
returns-in-Ok-false-clause-came g c = c.evict_by-answer.ensures.came

pub returns-in-Ok-false-clause-exact : goal.returns-in-Ok-false-clause-exact
returns-in-Ok-false-clause-exact g c still =
    let gone = c.evict_by-answer.ensures.gone (c.in-Ok-false.is ∙ ap (λ far. Ok far) c.in-Ok-false.field-0-test) in
    absurd (true≢false (sym (gone.asked still) ∙ c.requires.alive))

pub returns-in-Ok-false-clause-order : goal.returns-in-Ok-false-clause-order
returns-in-Ok-false-clause-order g c = c.evict_by-answer.ensures.order

pub returns-in-Ok-false-clause-follows : goal.returns-in-Ok-false-clause-follows
returns-in-Ok-false-clause-follows g c =
    subst (λ (r : Result Bool Refused). Follows g.D.Device.contents g.D.Device.honest g.D.Device.faults g.D.Device.fails_at_most (other_than c.args.pointer) (is_failure {A = Bool} r) c.args.book.now.device c.evict_by-answer.new.self.device)
    (c.in-Ok-false.is ∙ ap (λ far. Ok far) c.in-Ok-false.field-0-test) c.evict_by-answer.ensures.follows

-- ---- it was refused
pub returns-in-Err-clause-came : goal.returns-in-Err-clause-came
returns-in-Err-clause-came g c = c.evict_by-answer.ensures.came

pub returns-in-Err-clause-same : goal.returns-in-Err-clause-same
returns-in-Err-clause-same g c = c.in-Err.ensures.same

pub returns-in-Err-clause-order : goal.returns-in-Err-clause-order
returns-in-Err-clause-order g c = c.evict_by-answer.ensures.order

pub returns-in-Err-clause-refused : goal.returns-in-Err-clause-refused
returns-in-Err-clause-refused g c =
    subst (λ (r : Result Bool Refused). AsksToEvict g.row.D.Denot g.D.Device.writes g.D.Device.lets_go (g.N.Near.view c.args.book.now.near) c.args.pointer r c.args.book.now.device c.evict_by-answer.new.self.device)
    c.in-Err.is c.evict_by-answer.ensures.called

pub returns-in-Err-clause-owed : goal.returns-in-Err-clause-owed
returns-in-Err-clause-owed g c = c.in-Err.ensures.owed

pub returns-in-Err-clause-follows : goal.returns-in-Err-clause-follows
returns-in-Err-clause-follows g c =
    subst (λ (fault : Bool). Follows g.D.Device.contents g.D.Device.honest g.D.Device.faults g.D.Device.fails_at_most (other_than c.args.pointer) fault c.args.book.now.device c.evict_by-answer.new.self.device)
    (ap (is_failure {A = Bool}) c.in-Err.is ∙ failure_alike Bool Fate c.in-Err.why c.in-Err.ensures.refused) c.evict_by-answer.ensures.follows

pub returns-in-Err-clause-why : goal.returns-in-Err-clause-why
returns-in-Err-clause-why g c = c.in-Err.ensures.refused
