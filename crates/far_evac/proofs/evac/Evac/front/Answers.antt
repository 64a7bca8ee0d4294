use Rattle.std.proofs.Common.{◌≡◌, ◌<◌, ◌+◌, ◌∙◌, ◌∷◌, ℕ, List, [], false, drop, length, arith, ap, sym, refl}
use Rattle.std.proofs.lemmas.Bool.{true≢false}
use Rattle.std.proofs.lemmas.List.{length-drop}
use Rattle.far_evac.specs.EvacOf.{EvacOf}
use Rattle.far_evac.specs.Live.{is_empty}
use Rattle.far_evac.specs.MomentLaw.{is_idle}
use Rattle.far_evac.specs.Standing.{collection_of}
use Rattle.far_evac.specs.declared.phase.Phase.{Phase}
use Rattle.far_evac.specs.declared.phase.Phase.TheVariants.{Evacuating}
use Rattle.far_evac.proofs.Onward.{front_is}
use Rattle.far_evac.proofs.evac.Evac.front.Goals as goal

some_in : (ls : List ℕ) → is_empty ls ≡ false → 0 < length ls
some_in [] e = absurd (true≢false e)
some_in (l ∷ ls) e = omega arith

pub returns-in-Evacuating-clause-some : goal.returns-in-Evacuating-clause-some
returns-in-Evacuating-clause-some g c =
    let r = c.self.inside.round in
    let walks : r.phase ≡ Evacuating = c.in-Evacuating.is in
    let held = ap (λ (phase : Phase). collection_of phase r.chosen r.index) walks in
    let ys = c.as_slice.result.now in
    let long = length-drop r.index r.chosen in
    let more = some_in (drop r.index r.chosen) (sym (ap is_empty held) ∙ c.self.invariant.round.holds.runs ∙ ap is_idle walks) in
    let some : r.index < length r.chosen = omega (arith, long, more) in
    let front = front_is r.chosen ys r.index (length r.chosen) c.as_slice.ensures refl some in
    (drop (r.index + 1) r.chosen, sym (ap (λ (e : EvacOf g.row.N.Denot g.row.D.Denot). e.collection) c.self.view_is) ∙ held ∙ front)
