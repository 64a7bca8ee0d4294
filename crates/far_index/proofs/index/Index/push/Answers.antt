use Rattle.std.proofs.Common.{◌∷◌, ◌++◌, [], ◌∙◌, ap}
use Rattle.far_index.specs.declared.slot.Slot.TheVariants.{Empty}
use Rattle.far_index.specs.Slots.{slots_of}
use Rattle.far_index.proofs.Words.{is_pushed}
use Rattle.far_index.proofs.index.Index.push.Goals as goal

pub returns-in-Ok-clause-longer : goal.returns-in-Ok-clause-longer
returns-in-Ok-clause-longer c =
    (λ k. slots_of (c.in_ok-push.ensures.items k) (c.in-Ok.ensures.items k))
    ∙ is_pushed c.self.inside.words.items c.self.inside.rests.items c.self.invariant
    ∙ ap (λ ss. ss ++ Empty ∷ []) c.self.view_is
