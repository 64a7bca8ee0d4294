use Rattle.std.proofs.Common.{◌<◌, ◌+◌, ◌∷◌, ◌∙◌, length, drop, map, ap, sym, arith}
use Rattle.std.proofs.lemmas.List.{length-map}
use Rattle.far_text.specs.Command.{as_command}
use Rattle.far_text.specs.Places.{line_at}
use Rattle.far_text.proofs.Parts.{drop_here}
use Rattle.far_text.proofs.PlaceLemmas.{at_here, below_at}
use Rattle.far_text.proofs.split_text.Lines.at.Goals as goal

pub at-requires : goal.at-requires
at-requires c =
    let l = c.self.inside in
    let inside : c.args.at < length l.places.items = omega (arith, ap length c.self.view_is, length-map l.places.items (line_at l.text.now)) in
    below_at (length l.text.now) l.places.items c.args.at c.index.result.now c.self.invariant inside c.index.ensures

pub returns-clause-value : goal.returns-clause-value
returns-clause-value c =
    let l = c.self.inside in
    let place = c.index.result.now in
    let inside : c.args.at < length l.places.items = omega (arith, ap length c.self.view_is, length-map l.places.items (line_at l.text.now)) in
    let line = at_here l.text.now place (c.at.result.0, as_command c.at.result.1) (drop (place + 1) l.text.now) c.at.ensures.value in
    ap (drop c.args.at) (sym c.self.view_is)
    ∙ drop_here (line_at l.text.now) l.places.items c.args.at place inside c.index.ensures
    ∙ ap (λ x. x ∷ drop (c.args.at + 1) (map (line_at l.text.now) l.places.items)) line
    ∙ ap (λ ls. (c.at.result.0, as_command c.at.result.1) ∷ drop (c.args.at + 1) ls) c.self.view_is
