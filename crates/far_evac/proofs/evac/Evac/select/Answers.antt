use Rattle.far_evac.proofs.evac.Evac.select.Goals as goal
use Rattle.std.proofs.Common.{◌≡◌, ◌≢◌, ◌∙◌, ◌+◌, ap, sym, refl, arith, rules}
use Rattle.std.proofs.lemmas.Bool.Decides.{nat_tests}
use Rattle.far_word.specs.declared.sizes.TheConstants.{EPOCH_END}
use Rattle.far_events.specs.declared.shape.Shape.{Shape}
use Rattle.far_evac.specs.Standing.{collection_in}
use Rattle.far_evac.specs.declared.phase.Phase.TheVariants.{Marking}
use Rattle.far_evac.proofs.HeldJobs.{jobs_left, keeps_same}
use Rattle.far_evac.proofs.Chosen.{rows_are, selected_round, some_chosen}

pub choose-requires-clause-rows : goal.choose-requires-clause-rows
choose-requires-clause-rows g c =
    let book = c.self.inside.book in
    rows_are (g.N.Near.view book.near) book.order c.keeps_law.ensures.law c.keeps_law.ensures.sealed c.keeps_law.ensures.once
    c.as_slice.result.now (c.as_slice.ensures ∙ c.log_rows-rows.ensures)

pub invariant_of-self : goal.invariant_of-self
invariant_of-self g c =
    let book = c.self.inside.book in
    let s = g.N.Near.view book.near in
    let epoch : c.shape.result.epoch ≡ s.epoch = ap (λ (shape : Shape). shape.epoch) c.shape.ensures.is in
    let other : s.epoch + 1 ≢ EPOCH_END = λ e. grind (arith, nat_tests, e, epoch, c.if-shape-eq-EPOCH_END.false) in
    record {
      round = selected_round s book.order c.keeps_law.ensures.law c.keeps_law.ensures.sealed c.keeps_law.ensures.once
          c.as_slice.result.now (c.as_slice.ensures ∙ c.log_rows-rows.ensures)
          c.args.most record { phase = Marking; chosen = c.choose.new.out; index = 0; at = 0; seen = 0 } c.choose.ensures.chosen refl refl refl (some_chosen c.choose.new.out (sym c.is_empty.ensures ∙ c.if-not-is_empty.true)) other;
      jobs = jobs_left s s c.self.inside.copying (keeps_same s) c.self.inside.round.phase Marking (collection_in c.self.inside.round) c.choose.new.out (λ e. search rules) c.self.invariant.jobs;
      exact = c.self.invariant.exact;
    }
