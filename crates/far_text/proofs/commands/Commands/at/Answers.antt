use Rattle.std.proofs.Common.{◌≡◌, ◌+◌, ◌<◌, ◌∷◌, length, drop, map, sym, ap, ◌∙◌, subst, arith}
use Rattle.std.proofs.lemmas.List.{length-map}
use Rattle.far_text.specs.Command.{as_command}
use Rattle.far_text.specs.Records.{command_in}
use Rattle.far_text.proofs.Parts.{drop_here}
use Rattle.far_text.specs.Written.{WritesBytes}
use Rattle.far_text.proofs.RecordLemmas.{within_at, record_writes_bytes}
use Rattle.far_text.proofs.commands.Commands.at.Goals as goal

pub command-requires : goal.command-requires
command-requires c =
    let records = c.self.inside.records.items in
    let inside : c.args.at < length records = omega (arith, ap length c.self.view_is, length-map records (command_in c.self.inside.bytes)) in
    rw c.as_slice.ensures.value (within_at (length c.self.inside.bytes) records c.args.at c.index-record.result.now c.self.invariant inside c.index-record.ensures)

pub returns-clause-value : goal.returns-clause-value
returns-clause-value c =
    let records = c.self.inside.records.items in
    let bytes = c.self.inside.bytes in
    let r = c.index-record.result.now in
    let inside : c.args.at < length records = omega (arith, ap length c.self.view_is, length-map records (command_in bytes)) in
    let same : command_in bytes r ≡ as_command c.command.result = sym (c.command.ensures ∙ ap (λ b. command_in b r) c.as_slice.ensures.value) in
    ap (drop c.args.at) (sym c.self.view_is)
    ∙ drop_here (command_in bytes) records c.args.at r inside c.index-record.ensures
    ∙ ap (λ x. x ∷ drop (c.args.at + 1) (map (command_in bytes) records)) same
    ∙ ap (λ cs. as_command c.command.result ∷ drop (c.args.at + 1) cs) c.self.view_is

pub returns-clause-bytes : goal.returns-clause-bytes
returns-clause-bytes c =
    let records = c.self.inside.records.items in
    let bytes = c.self.inside.bytes in
    let r = c.index-record.result.now in
    let inside : c.args.at < length records = omega (arith, ap length c.self.view_is, length-map records (command_in bytes)) in
    let within = within_at (length bytes) records c.args.at r c.self.invariant inside c.index-record.ensures in
    let small = rw c.as_slice.ensures.value at c.as_slice.ensures.bytes in
    let same : command_in bytes r ≡ as_command c.command.result = sym (c.command.ensures ∙ ap (λ b. command_in b r) c.as_slice.ensures.value) in
    subst WritesBytes same (record_writes_bytes bytes small r within)
