use Rattle.std.proofs.Common.{◌≡◌, None, take, refl, sym, ap, ◌∙◌, subst}
use Rattle.std.specs.Prelude.{MatchOption}
use Rattle.far_index.specs.Slots.{slot_at}
use Rattle.far_map.specs.Entries.{decoded}
use Rattle.far_map.specs.Slots.{entry_in}
use Rattle.far_map.proofs.fold.fold_slot.Goals as goal

pub returns-clause-stepped : goal.returns-clause-stepped
returns-clause-stepped g c = λ o.
    let entry = entry_in (g.O.Objects.far c.args.parts.now.worker).bytes (slot_at c.args.parts.now.near.slots c.args.place) in
    let read : entry ≡ decoded (take c.in-Ok-Some.len c.read_slot.new.parts.buffer) =
    subst (λ r. MatchOption r (entry ≡ None) (λ len. entry ≡ decoded (take len c.read_slot.new.parts.buffer))) c.in-Ok-Some.field-0-is (c.in-Ok-Some.ensures.read o) in
    rw (read ∙ ap decoded (sym c.part.ensures) ∙ c.in-Some.ensures) (c.in-Some.key, c.in-Some.value, c.f.ensures, refl, refl)
