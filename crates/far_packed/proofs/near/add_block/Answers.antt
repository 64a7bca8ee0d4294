use Rattle.std.proofs.Common.{◌≡◌, ◌+◌, ◌++◌, List, ap, ◌∙◌, arith, get_or, length, replicate, [], ◌∷◌, length-append}
use Rattle.far_packed.specs.declared.near.Place.{Place}
use Rattle.far_packed.specs.declared.near.Place.TheVariants.{Free}
use Rattle.far_packed.specs.Blocks.{table}
use Rattle.far_packed.proofs.Tables.{grown_stays, more_of_none, no_slot, none_of}
use Rattle.far_packed.proofs.near.add_block.Goals as goal

pub returns-clause-stays : goal.returns-clause-stays
returns-clause-stays c =
    let t = table c.args.near.now in
    let ps : List Place = c.push.new.self.items in
    let placed : ps ≡ t.places ++ Free 0 ∷ [] = c.in-Ok-push.ensures.items ∙ ap (λ xs. xs ++ Free 0 ∷ []) c.reserve.ensures.items in
    let more : length ps ≡ length t.places + 1 = ap length placed ∙ length-append t.places (Free 0 ∷ []) in
    let slots = c.in-Ok-extend_from_slice.ensures.items in
    let long : length c.extend_from_slice.new.self.items ≡ length t.slots + 8 = ap length slots ∙ length-append t.slots (replicate 8 no_slot) in
    grown_stays t c.extend_from_slice.new.self.items ps
    (λ h. ap (λ xs. get_or xs h no_slot) slots ∙ more_of_none t.slots (replicate 8 no_slot) no_slot (none_of 8 no_slot) h)
    (λ b. ap (λ xs. get_or xs b (Free 0)) placed ∙ more_of_none t.places (Free 0 ∷ []) (Free 0) (none_of 1 (Free 0)) b)
    (omega arith) c.requires (omega (arith, c.requires.room)) (omega arith)
