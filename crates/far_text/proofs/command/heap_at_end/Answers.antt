use Rattle.std.proofs.Common.{◌≡◌, ℕ, ◌==◌, List, None, sym, ap, ◌∙◌, refl}
use Rattle.far_text.specs.Command.{Entry}
use Rattle.far_text.specs.Cursor.{first_line, words_in}
use Rattle.far_text.specs.Grammar.{entry_at_end, next_number, one_or, says_heap, ◌>>=◌}
use Rattle.far_text.proofs.Cuts.{split_some}
use Rattle.far_text.proofs.command.heap_at_end.Goals as goal

-- a text has a first word
one_there : (make : ℕ → Entry) (text : List ℕ) → one_or 0 make (words_in text) ≡ (next_number (words_in text) >>= λ first. entry_at_end first.1 (make first.0))
one_there make text = rw (split_some (λ b. b == 32) (first_line text)) refl

none_there : (make : ℕ → Entry) (text : List ℕ) → None ≡ next_number (words_in text) → None ≡ one_or 0 make (words_in text)
none_there make text e = ap (λ o. o >>= λ first. entry_at_end first.1 (make first.0)) e ∙ sym (one_there make text)

pub returns-in_err-epoch-in-Words-clause-value : goal.returns-in_err-epoch-in-Words-clause-value
returns-in_err-epoch-in-Words-clause-value c = rw (c.from_residual.ensures, c.in-Words.is) (none_there (says_heap c.args.logs c.args.mutators) c.in-Words.text.now c.in_err-epoch-in-Words.ensures.number)

pub returns-in_ok-epoch-in-Words-clause-value : goal.returns-in_ok-epoch-in-Words-clause-value
returns-in_ok-epoch-in-Words-clause-value c =
    let make = says_heap c.args.logs c.args.mutators in
    let text = c.in-Words.text.now in
    rw c.in-Words.is (c.at_end.ensures.value ∙ ap (λ o. o >>= λ first. entry_at_end first.1 (make first.0)) c.in_ok-epoch-in-Words.ensures.number ∙ sym (one_there make text))
