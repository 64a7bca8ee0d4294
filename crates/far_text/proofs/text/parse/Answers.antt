use Rattle.std.proofs.Common.{◌+◌, ◌∙◌, ap, refl, subst, sym, arith, Ok}
use Rattle.std.proofs.lemmas.Result.{err_from_is_err_and}
use Rattle.std.specs.Option.{option_map}
use Rattle.far_text.specs.Command.{as_device}
use Rattle.far_text.specs.Cursor.{lines_left}
use Rattle.far_text.specs.Grammar.{IsFault, lines_of, read_after, read_commands, with_heap}
use Rattle.far_text.specs.HeapSought.{heap_sought}
use Rattle.far_text.proofs.Reading.{trace_from, text_from_sought, fault_of, skipped}
use Rattle.far_text.proofs.text.parse.Goals as goal

pub returns-in_err-heap-clause-fault : goal.returns-in_err-heap-clause-fault
returns-in_err-heap-clause-fault c =
    let e = c.in_err-heap.field-0.0 in
    let text = c.args.text.now in
    let sought = text_from_sought text (omega arith) in
    let fault = fault_of e trace_from (λ n. refl) (heap_sought 1 (lines_of text)) c.in_err-heap.ensures.fault in
    let same = err_from_is_err_and c.from_residual.result c.from_residual.ensures.1 in
    rw (same.1, same.2) (subst (IsFault e) (sym sought) fault)

pub returns-in_default-clause-trace : goal.returns-in_default-clause-trace
returns-in_default-clause-trace c = text_from_sought c.args.text.now (omega arith) ∙ ap trace_from (c.in_ok-heap.ensures.none (ap Ok c.in_default.is))

pub returns-in_err-commands_after-clause-fault : goal.returns-in_err-commands_after-clause-fault
returns-in_err-commands_after-clause-fault c =
    let e = c.in_err-commands_after.field-0.0 in
    let h = c.in-Some.heap in
    let found = rw c.in-Some.is at c.in_ok-heap.ensures.heap in
    let skip = c.skip_lines-number.result in
    let stood = c.device_line-device.result in
    let device = option_map as_device stood.0 in
    let sought = text_from_sought c.args.text.now (omega arith) ∙ ap trace_from found ∙ skipped h.logs h.mutators h.epoch (h.number + 1) (skip.0 + 1) (lines_left h.lines) (lines_left skip.1) c.skip_lines-number.ensures.device c.skip_lines-number.ensures.commands
    ∙ ap (read_after h.logs h.mutators h.epoch) c.device_line-device.ensures.value in
    let fault = fault_of e (with_heap h.logs h.mutators h.epoch device) (λ n. refl) (read_commands (stood.1 + 1) (lines_left stood.2)) c.in_err-commands_after.ensures.fault in
    let same = err_from_is_err_and c.from_residual-in_err-commands_after.result c.from_residual-in_err-commands_after.ensures.1 in
    rw (same.1, same.2) (subst (IsFault e) (sym sought) fault)

pub returns-clause-trace : goal.returns-clause-trace
returns-clause-trace c =
    let h = c.in-Some.heap in
    let found = rw c.in-Some.is at c.in_ok-heap.ensures.heap in
    let skip = c.skip_lines-number.result in
    text_from_sought c.args.text.now (omega arith) ∙ ap trace_from found ∙ skipped h.logs h.mutators h.epoch (h.number + 1) (skip.0 + 1) (lines_left h.lines) (lines_left skip.1) c.skip_lines-number.ensures.device c.skip_lines-number.ensures.commands
    ∙ ap (read_after h.logs h.mutators h.epoch) c.device_line-device.ensures.value
    ∙ ap (with_heap h.logs h.mutators h.epoch (option_map as_device c.device_line-device.result.0)) c.in_ok-commands_after.ensures.commands
