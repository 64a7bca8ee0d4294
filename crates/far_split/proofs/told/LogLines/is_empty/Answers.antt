use Rattle.std.proofs.Common.{◌≡◌, subst, [], List}
use Rattle.std.specs.Prelude.{IsTrue, ◌↔◌}
use Rattle.far_reply.specs.declared.reply.LogLine.{LogLine}
use Rattle.far_split.proofs.Keeping.{none_told}
use Rattle.far_split.proofs.told.LogLines.is_empty.Goals as goal

pub returns : goal.returns
returns c = subst (λ (lines : List LogLine). IsTrue c.is_empty.result ↔ (lines ≡ [])) c.self.view_is (none_told c.is_empty.result c.self.inside.first c.self.inside.rows.now c.is_empty.ensures)
