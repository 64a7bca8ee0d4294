use Rattle.std.proofs.Common.{◌≡◌, ℕ, ◌==◌, List, Option, Some, None, refl}
use Rattle.std.specs.Option.{option_and_then}
use Rattle.far_text.specs.Command.{Entry}
use Rattle.far_text.specs.Cursor.{first_line, words_in}
use Rattle.far_text.specs.Grammar.{entry_at_end}
use Rattle.far_text.specs.Spelled.{entry_spelled}
use Rattle.far_text.proofs.Cuts.{split_some}
use Rattle.far_text.proofs.command.at_end.Goals as goal

none_there : (text : List ℕ) (entry : Option Entry) → None ≡ option_and_then (entry_at_end (words_in text)) entry
none_there text None = refl
none_there text (Some entry) = rw (split_some (λ b. b == 32) (first_line text)) refl

pub returns-in-Words-clause-value : goal.returns-in-Words-clause-value
returns-in-Words-clause-value c = rw c.in-Words.is (none_there c.in-Words.field-0.now (entry_spelled c.args.entry))
