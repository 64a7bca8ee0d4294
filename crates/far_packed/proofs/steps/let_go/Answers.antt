use Rattle.std.proofs.Common.{◌≡◌, sym, ap, ◌∙◌}
use Rattle.far_packed.specs.declared.near.Place.TheVariants.{Free}
use Rattle.std.proofs.lemmas.List.{get_or_read}
use Rattle.far_packed.specs.Blocks.{is_free, is_open, place_at, table}
use Rattle.far_packed.proofs.Tables.{same_number}
use Rattle.far_packed.proofs.Values.{not_free, not_open}
use Rattle.far_packed.proofs.steps.let_go.Goals as goal

pub restart-requires-clause-none : goal.restart-requires-clause-none
restart-requires-clause-none g c =
    let t = table c.args.parts.now.near in
    let named = get_or_read t.places c.args.block c.index.result.now c.requires.within c.index.ensures (Free 0) in
    let same : c.args.block ≡ t.current = c.requires.sound.shaped.alone c.args.block (ap is_open (sym named ∙ c.in-Open.is)) in
    λ h e. c.requires.none h (e ∙ sym same)

pub returns-in-Sealed-clause-same : goal.returns-in-Sealed-clause-same
returns-in-Sealed-clause-same g c =
    let p = c.args.parts.now in
    let t = table p.near in
    let named = get_or_read t.places c.args.block c.index.result.now c.requires.within c.index.ensures (Free 0) in
    let frees = c.set_free.ensures c.in-Sealed.number (sym named ∙ c.in-Sealed.is) in
    frees.same (g.O.Objects.far p.worker) (g.O.Objects.far c.drop_block.new.worker) c.requires.sound.held c.drop_block.ensures.others

pub returns-in-Open-clause-gone : goal.returns-in-Open-clause-gone
returns-in-Open-clause-gone g c =
    let t = table c.args.parts.now.near in
    let named = get_or_read t.places c.args.block c.index.result.now c.requires.within c.index.ensures (Free 0) in
    λ n e. absurd (not_open (place_at t.places c.args.block) n e (ap is_open (sym named ∙ c.in-Open.is)))

pub returns-in-Sealed-clause-gone : goal.returns-in-Sealed-clause-gone
returns-in-Sealed-clause-gone g c =
    let t = table c.args.parts.now.near in
    let named = get_or_read t.places c.args.block c.index.result.now c.requires.within c.index.ensures (Free 0) in
    λ n e. ap (g.O.Objects.far c.drop_block.new.worker).sizes (same_number n c.in-Sealed.number (sym e ∙ sym named ∙ c.in-Sealed.is)) ∙ c.drop_block.ensures.gone

pub returns-in-Free-clause-gone : goal.returns-in-Free-clause-gone
returns-in-Free-clause-gone g c =
    let t = table c.args.parts.now.near in
    let named = get_or_read t.places c.args.block c.index.result.now c.requires.within c.index.ensures (Free 0) in
    λ n e. absurd (not_free (place_at t.places c.args.block) n e (ap is_free (sym named ∙ c.in-Free.is)))
