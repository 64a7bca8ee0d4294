use Rattle.std.proofs.Common.{◌++◌, ◌∷◌, [], length, map, Some, sym, ap, ◌∙◌}
use Rattle.std.specs.Option.{option_map}
use Rattle.far_text.specs.Records.{command_in}
use Rattle.far_text.specs.Spelled.{command_spelled}
use Rattle.far_text.proofs.RecordLemmas.{longer, one_command_more, one_within_more}
use Rattle.far_text.proofs.commands.Commands.push.Goals as goal

pub invariant_of-self-2 : goal.invariant_of-self-2
invariant_of-self-2 c =
    let old = c.self.inside.bytes in
    let new = c.request_record.new.bytes in
    let records = c.self.inside.records.items in
    let within = rw c.in-Some.is at c.in_ok-record.ensures.within in
    let items = c.push_reserved.ensures.items ∙ ap (λ all. all ++ c.in-Some.record ∷ []) c.in_ok-reserve.ensures.items in
    rw items (one_within_more (length old) (length new) (longer old new c.in_ok-record.ensures.kept) records c.in-Some.record c.self.invariant within)

pub returns-clause-value : goal.returns-clause-value
returns-clause-value c =
    let old = c.self.inside.bytes in
    let new = c.request_record.new.bytes in
    let records = c.self.inside.records.items in
    let value = rw c.in-Some.is at c.in_ok-record.ensures.value in
    let spelled = ap command_spelled c.in-Mutator.is in
    ap (λ now. option_map (λ x. now ++ x ∷ []) (command_spelled c.args.command)) (sym c.self.view_is)
    ∙ one_command_more old new c.in_ok-record.ensures.kept records c.in-Some.record (command_spelled c.args.command) c.self.invariant (value ∙ sym spelled)
    ∙ ap (λ all. Some (map (command_in new) all)) (sym (c.push_reserved.ensures.items ∙ ap (λ all. all ++ c.in-Some.record ∷ []) c.in_ok-reserve.ensures.items))
