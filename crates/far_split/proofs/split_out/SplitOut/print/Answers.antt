use Rattle.std.proofs.Common.{[], ◌++◌, Err, Ok, codes, subst, sym, ◌∙◌, ap, ◌≡◌, refl}
use Rattle.std.specs.List.{flat_map}
use Rattle.far_reply.specs.Reply.{reply_text, refusal_text}
use Rattle.far_reply.specs.Stream.{Writes}
use Rattle.far_split.specs.Joined.{as_joined}
use Rattle.far_split.specs.Printed.{parts_text, split_text}
use Rattle.far_split.specs.Prints.{Prints}
use Rattle.far_split.proofs.Printing.{prints_part, prints_pushed, prints_then, writes_all, writes_part}
use Rattle.far_split.proofs.split_out.SplitOut.print.Goals as goal
use Rattle.far_split.proofs.split_out.SplitOut.print.Goals.{in-Refused, in-Ran+in_ok-print_mutators-in-Ran+in_ok-print_book-in-Ran}

pub returns-in_err-print_mutators-in-Ran : goal.returns-in_err-print_mutators-in-Ran
returns-in_err-print_mutators-in-Ran g c =
    let start = g.W.Write.contents c.args.writer.now in
    let now = g.W.Write.contents c.print_mutators.new.writer in
    let fault = c.in_err-print_mutators-in-Ran.field-0.0 in
    let mutators = c.in-Ran.mutators.items in
    let text = parts_text 0 mutators in
    let rest = codes "book\n" ++ flat_map reply_text c.in-Ran.book in
    let first = subst (λ r. Prints start r now c.print_mutators.new.buffer (Err fault) (parts_text 0 c.deref.result.now)) c.clear.ensures c.in_err-print_mutators-in-Ran.ensures in
    let printed = subst (λ xs. Prints start [] now c.print_mutators.new.buffer (Err fault) (parts_text 0 xs)) c.deref.ensures.value first in
    subst (λ out. Writes start now c.from_residual.result (split_text (as_joined out))) (sym c.in-Ran.is)
    (writes_part start now c.print_mutators.new.buffer fault c.from_residual.result (text ++ rest) c.from_residual.ensures.0
    (prints_part start now [] c.print_mutators.new.buffer fault (Err fault) text rest refl printed))

pub returns-in_err-print_book-in-Ran : goal.returns-in_err-print_book-in-Ran
returns-in_err-print_book-in-Ran g c =
    let start = g.W.Write.contents c.args.writer.now in
    let mid = g.W.Write.contents c.print_mutators.new.writer in
    let now = g.W.Write.contents c.print_book.new.writer in
    let fault = c.in_err-print_book-in-Ran.field-0.0 in
    let text = parts_text 0 c.in-Ran.mutators.items in
    let rest = codes "book\n" ++ flat_map reply_text c.in-Ran.book in
    let first = subst (λ r. Prints start r mid c.print_mutators.new.buffer (Ok tt) (parts_text 0 c.deref.result.now)) c.clear.ensures c.in_ok-print_mutators-in-Ran.ensures in
    let printed = subst (λ xs. Prints start [] mid c.print_mutators.new.buffer (Ok tt) (parts_text 0 xs)) c.deref.ensures.value first in
    let more = c.in_err-print_book-in-Ran.ensures in
    subst (λ out. Writes start now c.from_residual-in_err-print_book-in-Ran.result (split_text (as_joined out))) (sym c.in-Ran.is)
    (writes_part start now c.print_book.new.buffer fault c.from_residual-in_err-print_book-in-Ran.result (text ++ rest) c.from_residual-in_err-print_book-in-Ran.ensures.0
    (prints_then start mid now [] c.print_mutators.new.buffer c.print_book.new.buffer (Err fault) text rest printed more))

pub returns : goal.returns
returns g c =
    let start = g.W.Write.contents c.args.writer.now in
    let last = g.W.Write.contents c.write_whole.new.writer in
    let now = g.W.Write.contents c.match-self.writer in
    let written : Writes now last c.write_whole.result c.match-self.buffer = subst (Writes now last c.write_whole.result) c.as_slice.ensures c.write_whole.ensures in
    elim c.match-self.branch [
      | in-Refused w ↦
          let text = refusal_text w.in-Refused.why in
          let is : c.match-self.buffer ≡ [] ++ text = w.buffer-is ∙ w.print_to.ensures ∙ ap (λ r. r ++ text) c.clear.ensures in
          let waits : Prints start [] start c.match-self.buffer (Ok tt) text = prints_pushed start [] c.match-self.buffer text is in
          subst (λ out. Writes start last c.write_whole.result (split_text (as_joined out))) (sym w.in-Refused.is)
          (writes_all start now last c.match-self.buffer c.write_whole.result text (subst (λ at. Prints start [] at c.match-self.buffer (Ok tt) text) (ap g.W.Write.contents (sym w.writer-is)) waits) written)
      | in-Ran+in_ok-print_mutators-in-Ran+in_ok-print_book-in-Ran w ↦
          let mid = g.W.Write.contents w.print_mutators.new.writer in
          let after = g.W.Write.contents w.print_book.new.writer in
          let text = parts_text 0 w.in-Ran.mutators.items in
          let rest = codes "book\n" ++ flat_map reply_text w.in-Ran.book in
          let first = subst (λ r. Prints start r mid w.print_mutators.new.buffer (Ok tt) (parts_text 0 w.deref.result.now)) c.clear.ensures w.in_ok-print_mutators-in-Ran.ensures in
          let printed = subst (λ xs. Prints start [] mid w.print_mutators.new.buffer (Ok tt) (parts_text 0 xs)) w.deref.ensures.value first in
          let more = w.in_ok-print_book-in-Ran.ensures in
          let both = prints_then start mid after [] w.print_mutators.new.buffer w.print_book.new.buffer (Ok tt) text rest printed more in
          let here = subst (λ at. Prints start [] at w.print_book.new.buffer (Ok tt) (text ++ rest)) (ap g.W.Write.contents (sym w.writer-is)) both in
          subst (λ out. Writes start last c.write_whole.result (split_text (as_joined out))) (sym w.in-Ran.is)
          (writes_all start now last c.match-self.buffer c.write_whole.result (text ++ rest) (subst (λ r. Prints start [] now r (Ok tt) (text ++ rest)) (sym w.buffer-is) here) written)
    ]
