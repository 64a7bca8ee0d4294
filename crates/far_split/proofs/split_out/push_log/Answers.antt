use Rattle.std.proofs.Common.{◌++◌, ◌∙◌, ap, append-nil}
use Rattle.far_reply.specs.Reply.{log_text}
use Rattle.far_split.proofs.split_out.push_log.Goals as goal

pub returns : goal.returns
returns c = c.print_to.ensures ∙ ap (λ text. c.args.buffer.now ++ text) (append-nil (log_text c.args.line))
