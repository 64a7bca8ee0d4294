use Rattle.std.proofs.Common.{◌≡◌, subst, true, ◌∙◌}
use Rattle.far_core.specs.state.CoreState.{core_state}
use Rattle.far_hand.specs.declared.plain.Plain.{Plain}
use Rattle.far_book.specs.book.BookOf.{BookOf}
use Rattle.far_alone.proofs.Bringing.{far_inside, is_far}
use Rattle.far_private.specs.Objects.{state_in}
use Rattle.far_private.proofs.Coming.{far_stays, fetch_told, keeps_same}
use Rattle.far_private.proofs.Stuck.{fetch_roomy}
use Rattle.far_private.proofs.bringing.fetch_far.Goals as goal

pub fetch-requires-clause-pointer : goal.fetch-requires-clause-pointer
fetch-requires-clause-pointer g c = far_inside (state_in c.args.evac.now) 0 c.args.pointer c.args.evac.now.book.near.core.law c.requires.used c.requires.far

pub fetch-requires-clause-far : goal.fetch-requires-clause-far
fetch-requires-clause-far g c = is_far (state_in c.args.evac.now) 0 c.args.pointer c.args.evac.now.book.near.core.law c.requires.used c.requires.far

pub returns-in-Ok-Some : goal.returns-in-Ok-Some
returns-in-Ok-Some g c =
    let x = fetch_told (state_in c.args.evac.now) c.args.pointer c.args.evac.now.book.near.core.law c.requires.used c.requires.far (state_in c.fetch.new.self) c.in-Ok-Some.field-0 c.in-Ok-Some.field-0-0 c.in-Ok-Some.field-0-is
    c.in-Ok-Some.ensures.fetched.place c.in-Ok-Some.ensures.fetched.near in
    record { keeps = x.0; near = x.1; rests = x.2; far = tt; roomy = λ _. tt; idle = λ e. c.fetch.ensures.round.0 ∙ e }

pub returns-in-Err : goal.returns-in-Err
returns-in-Err g c =
    let same = c.in-Err.ensures.fetched.exact tt in
    let agrees = subst (λ (b : BookOf Plain g.row.D.Denot). (core_state b.near.core).honest ≡ true → g.D.Device.honest b.device ≡ true) c.book.ensures c.keeps_law.ensures.honest in
    record {
      keeps = keeps_same (state_in c.args.evac.now) (state_in c.fetch.new.self) same;
      near = tt;
      rests = tt;
      far = far_stays g.D.Device.reads g.D.Device.lets_go (Unit {0}) (state_in c.args.evac.now) c.args.pointer c.args.evac.now.book.device c.fetch.new.self.book.device (g.D.Device.honest c.args.evac.now.book.device) agrees
          (state_in c.fetch.new.self) c.in-Err.why c.requires.far c.in-Err.ensures.fetched.refused c.in-Err.ensures.fetched.called same;
      roomy = fetch_roomy (state_in c.args.evac.now) c.args.pointer c.in-Err.why _ c.in-Err.ensures.fetched.refused;
      idle = λ e. c.fetch.ensures.round.0 ∙ e;
    }
