use Rattle.std.proofs.Common.{◌∙◌, ◌<◌, ap, subst, sym, refl, length, arith}
use Rattle.std.proofs.Math.ListN.{set}
use Rattle.std.proofs.lemmas.Option.{slice_get_read}
use Rattle.std.specs.Option.{option_and_then}
use Rattle.far_file.specs.Row.{entry_in, known, ChangesAt}
use Rattle.far_file.proofs.Slots.{changed}
use Rattle.far_file.proofs.row.set_entry.Given.{Over}
use Rattle.far_file.proofs.row.set_entry.Goals.{After-replace}
use Rattle.far_file.proofs.row.set_entry.Goals as goal

within : (g : Over) (c : After-replace g) → c.args.id < length c.args.row.now.items
within g c = omega (arith, c.requires, c.args.row.now.ok.0)

pub returns-clause-was : goal.returns-clause-was
returns-clause-was g c =
    let below = within g (goal.at.returns-clause-was g c).After-replace in
    let row = c.args.row.now.items in
    ap (λ held. known held) c.replace.ensures.value ∙ sym (ap (λ found. option_and_then (λ held. known held) found) (slice_get_read row (length row) c.args.id c.index_mut.result.now refl below c.index_mut.ensures.value))

pub returns-clause-changes : goal.returns-clause-changes
returns-clause-changes g c =
    let below = within g (goal.at.returns-clause-changes g c).After-replace in
    let row = c.args.row.now.items in
    subst (λ held. ChangesAt (entry_in row) (entry_in (set row c.args.id held)) c.args.id (known c.args.held)) (sym c.replace.ensures.after) (changed row c.args.id c.args.held below)
