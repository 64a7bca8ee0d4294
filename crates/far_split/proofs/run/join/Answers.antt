use Rattle.std.proofs.Common.{◌∙◌, None, Some, ap, arith, inl, length, map, subst}
use Rattle.std.proofs.lemmas.List.{length-map}
use Rattle.far_split.specs.Joined.{IsFault}
use Rattle.far_split.proofs.Joining.{answered, unstopped}
use Rattle.far_split.proofs.run.join.Goals as goal

pub returns-in-Some-clause-fault : goal.returns-in-Some-clause-fault
returns-in-Some-clause-fault c = inl (subst (λ ends. IsFault ends (Some c.in-Some.fault)) c.deref.ensures.value c.in-Some.ensures)

pub returns-in_err-parts-clause-fault : goal.returns-in_err-parts-clause-fault
returns-in_err-parts-clause-fault c = unstopped c.args.ends.items c.from_residual.result c.from_residual.ensures.1 (subst (λ ends. IsFault ends None) c.deref.ensures.value c.in_default.ensures)

pub parts_of-requires : goal.parts_of-requires
parts_of-requires c = subst (λ ends. IsFault ends None) c.deref.ensures.value c.in_default.ensures

pub returns-clause-joined : goal.returns-clause-joined
returns-clause-joined c = c.in_ok-parts.ensures ∙ ap (map answered) c.in-Some-pop.ensures.items

pub unreachable-requires : goal.unreachable-requires
unreachable-requires c =
    omega (arith, c.in_default-pop.ensures.cases.0, ap length c.in_ok-parts.ensures, length-map c.in_ok-parts.parts.items answered, c.requires.some, c.in_ok-parts.parts.ok.0)
