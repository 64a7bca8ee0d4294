use Rattle.std.proofs.Common.{◌≡◌, ◌∙◌, ap, refl, subst, sym, ℕ, List, Option, Some, None, IfOk}
use Rattle.std.specs.Option.{option_map}
use Rattle.far_text.specs.Command.{Mutator, New, On, Reads, Writes}
use Rattle.far_text.specs.Grammar.{bytes_in}
use Rattle.far_text.specs.Records.{command_in}
use Rattle.far_text.specs.Spelled.{request_spelled}
use Rattle.far_text.proofs.commands.request_record.Goals as goal

-- numbers are the same where they are kept
made_new : (a m b len d structure : ℕ) → a ≡ m → b ≡ len → d ≡ structure → Some (Mutator a (New b d)) ≡ Some (Mutator m (New len structure))
made_new a m b len d structure p q r = ap (λ x. Some (Mutator x (New b d))) p ∙ ap (λ x. Some (Mutator m (New x d))) q ∙ ap (λ x. Some (Mutator m (New len x))) r

made_read : (a m b p d from e len : ℕ) → a ≡ m → b ≡ p → d ≡ from → e ≡ len → Some (Mutator a (On b (Reads d e))) ≡ Some (Mutator m (On p (Reads from len)))
made_read a m b p d from e len o q r s =
    ap (λ x. Some (Mutator x (On b (Reads d e)))) o ∙ ap (λ x. Some (Mutator m (On x (Reads d e)))) q ∙ ap (λ x. Some (Mutator m (On p (Reads x e)))) r ∙ ap (λ x. Some (Mutator m (On p (Reads from x)))) s

made_write : (m p from : ℕ) (word : Option (List ℕ)) → option_map (λ read. Mutator m (On p (Writes from read))) word ≡ option_map (Mutator m) (option_map (λ read. On p (Writes from read)) word)
made_write m p from None = refl
made_write m p from (Some read) = refl

pub returns-in-New-clause-value : goal.returns-in-New-clause-value
returns-in-New-clause-value c =
    made_new _ _ _ _ _ _ c.of-m.ensures c.of.ensures c.of-in-New.ensures ∙ ap (λ request. option_map (Mutator c.args.mutator) (request_spelled request)) (sym c.in-New.is)

pub returns-in-Read-clause-value : goal.returns-in-Read-clause-value
returns-in-Read-clause-value c =
    made_read _ _ _ _ _ _ _ _ c.of-m.ensures c.of-pointer.ensures c.of-from.ensures c.of-in-Read.ensures ∙ ap (λ request. option_map (Mutator c.args.mutator) (request_spelled request)) (sym c.in-Read.is)

pub returns-in-Write-clause-value : goal.returns-in-Write-clause-value
returns-in-Write-clause-value c =
    let asks = made_write c.args.mutator c.in-Write.pointer c.in-Write.from (bytes_in c.in-Write.word.now) ∙ ap (λ request. option_map (Mutator c.args.mutator) (request_spelled request)) (sym c.in-Write.is) in
    subst (λ made. IfOk c.write_record.result (λ found. option_map (command_in c.write_record.new.bytes) found ≡ made)) asks c.write_record.ensures.value

pub returns-in-Write-clause-none : goal.returns-in-Write-clause-none
returns-in-Write-clause-none c = c.write_record.ensures.none
