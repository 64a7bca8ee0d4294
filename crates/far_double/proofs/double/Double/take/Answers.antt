use Rattle.std.proofs.Common.{None, List, ℕ, set, ap, ◌∙◌, Vec, Global, Option}
use Rattle.std.specs.Prelude.{Bool}
use Rattle.std.specs.Option.{option_map}
use Rattle.std.proofs.lemmas.List.{map-set}
use Rattle.far_double.proofs.double.Double.take.Goals as goal

pub returns : goal.returns
returns c =
    let objects = map-set (option_map (λ (w : Vec ℕ Global). w.items)) c.self.inside.objects.items c.args.number None
    ∙ ap (λ (p : Bool × List (Option (List ℕ))). set p.1 c.args.number None) c.self.view_is in
    λ k. ((c.self.view_is k).0, objects k)
