use Rattle.std.proofs.Common.{◌+◌, ◌∙◌, ap, refl, subst, sym, arith, Ok}
use Rattle.std.proofs.lemmas.Result.{err_from_is_err_and}
use Rattle.std.specs.Option.{option_map}
use Rattle.far_text.specs.Command.{as_device}
use Rattle.far_text.specs.Cursor.{lines_left}
use Rattle.far_text.specs.Grammar.{IsFault, lines_of}
use Rattle.far_text.specs.HeapSought.{heap_sought}
use Rattle.far_text.specs.Split.{split_after, split_commands, split_from, with_lines}
use Rattle.far_text.proofs.Reading.{fault_of}
use Rattle.far_text.proofs.SplitReading.{split_short}
use Rattle.far_text.proofs.split.parse_split.Goals as goal

pub returns-in_err-heap-clause-fault : goal.returns-in_err-heap-clause-fault
returns-in_err-heap-clause-fault c =
    let e = c.in_err-heap.field-0.0 in
    let text = c.args.text.now in
    let sought = split_short text (omega arith) in
    let fault = fault_of e split_from (λ n. refl) (heap_sought 1 (lines_of text)) c.in_err-heap.ensures.fault in
    let same = err_from_is_err_and c.from_residual.result c.from_residual.ensures.1 in
    rw (same.1, same.2) (subst (IsFault e) (sym sought) fault)

pub returns-in_default-clause-trace : goal.returns-in_default-clause-trace
returns-in_default-clause-trace c = split_short c.args.text.now (omega arith) ∙ ap split_from (c.in_ok-heap.ensures.none (ap Ok c.in_default.is))

pub returns-in_err-split_after-clause-fault : goal.returns-in_err-split_after-clause-fault
returns-in_err-split_after-clause-fault c =
    let e = c.in_err-split_after.field-0.0 in
    let h = c.in-Some.heap in
    let found = rw c.in-Some.is at c.in_ok-heap.ensures.heap in
    let stood = c.device_line-device.result in
    let device = option_map as_device stood.0 in
    let sought = split_short c.args.text.now (omega arith) ∙ ap split_from found ∙ ap (split_after h.logs h.mutators h.epoch) c.device_line-device.ensures.value in
    let fault = fault_of e (with_lines h.logs h.mutators h.epoch device) (λ n. refl) (split_commands h.mutators (stood.1 + 1) (lines_left stood.2)) c.in_err-split_after.ensures.fault in
    let same = err_from_is_err_and c.from_residual-in_err-split_after.result c.from_residual-in_err-split_after.ensures.1 in
    rw (same.1, same.2) (subst (IsFault e) (sym sought) fault)

pub returns-clause-trace : goal.returns-clause-trace
returns-clause-trace c =
    let h = c.in-Some.heap in
    let found = rw c.in-Some.is at c.in_ok-heap.ensures.heap in
    split_short c.args.text.now (omega arith) ∙ ap split_from found ∙ ap (split_after h.logs h.mutators h.epoch) c.device_line-device.ensures.value
    ∙ ap (with_lines h.logs h.mutators h.epoch (option_map as_device c.device_line-device.result.0)) c.in_ok-split_after.ensures.lines
