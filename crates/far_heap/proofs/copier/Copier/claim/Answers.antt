use Rattle.std.proofs.Common.{◌∙◌, refl, ap, subst}
use Rattle.far_word.specs.declared.sizes.TheConstants.{JOBS}
use Rattle.far_table.specs.CopySeats.{Claimed, MissedFirst, OnlyLooked}
use Rattle.far_table.specs.Seats.{CopierSeated}
use Rattle.far_heap.proofs.copier.Copier.claim.Goals as goal

pub returns-in-None-clause-none : goal.returns-in-None-clause-none
returns-in-None-clause-none g c = subst (λ (s : CopierSeated). MissedFirst JOBS s.view c.claim.new.self.view) c.self.view_is (c.in-None.ensures.none refl)

pub returns-in-None-clause-left : goal.returns-in-None-clause-left
returns-in-None-clause-left g c = (
  c.claim.ensures.table ∙ ap (λ (s : CopierSeated). s.table) c.self.view_is,
  subst (λ (s : CopierSeated). OnlyLooked s.view c.claim.new.self.view) c.self.view_is (c.in-None.ensures.left refl),
)

pub claim-requires : goal.claim-requires
claim-requires g c = record { free = c.self.invariant.1 }

pub invariant_of-result : goal.invariant_of-result
invariant_of-result g c = (c.claim.ensures.table ∙ c.self.invariant.0, c.in-Some.ensures.own)

pub returns-in-Some-clause-table : goal.returns-in-Some-clause-table
returns-in-Some-clause-table g c = c.claim.ensures.table ∙ ap (λ (s : CopierSeated). s.table) c.self.view_is

pub returns-in-Some-clause-claimed : goal.returns-in-Some-clause-claimed
returns-in-Some-clause-claimed g c = subst (λ (s : CopierSeated). Claimed c.in-Some.job s.view c.claim.new.self.view) c.self.view_is c.in-Some.ensures.claimed

pub invariant_of-result-in-None : goal.invariant_of-result-in-None
invariant_of-result-in-None g c = (c.claim.ensures.table ∙ c.self.invariant.0, c.in-None.ensures.free refl)
