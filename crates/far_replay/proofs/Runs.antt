-- A text cut one byte behind its limit, and the heap that is refused memory.
use Rattle.std.proofs.Common.{Option, Some, None, IfSome, IfOk, IfErr, OnOk, ◌≡◌, ℕ, ◌+◌, List, length, sym, ◌∙◌, ap, subst, refl, Bool, true, false, cond, Ok, Err, Result, nat_lt, if◌then◌else◌, take, length-take, take_all, arith}
use Rattle.std.proofs.lemmas.Bool.Decides.{nat_tests, Decides-ltb, not_from_Decides}
use Rattle.std.proofs.Math.Seq.{take-length}
use Rattle.std.specs.Io.KnownBytes.{Appends}
use Rattle.far_word.specs.declared.refused.Refused.{Refused}
use Rattle.far_word.specs.declared.refused.Refused.TheVariants.{Memory, Shape}
use Rattle.far_text.specs.declared.text.TheConstants.{LONGEST_TEXT}
use Rattle.far_text.specs.Command.{Trace}
use Rattle.far_replay.specs.declared.running.End.{End}
use Rattle.far_replay.specs.declared.running.RunFault.{RunFault}
use Rattle.far_text.specs.Grammar.{trace_of, read_lines, lines_of}
use Rattle.far_replay.specs.Answers.{IsOutput, LeavesBehind, WritesAnswer, Leaves, end_of}
use Rattle.far_reply.specs.Stream.{AppendsFront, Writes}

-- a shape that is refused memory is in range
memory_is_refused : (b : Bool) → Memory ≡ cond b Memory Shape → b ≡ true
memory_is_refused true e = refl
memory_is_refused false e = absurd cc

pub in_range : (why : Refused) (b : Bool) → why ≡ Memory → why ≡ cond b Memory Shape → b ≡ true
in_range why b is e = memory_is_refused b (sym is ∙ e)

-- bytes that were written, all or a front of them, are a front of them
pub written_front : {A E : Type 0} (old new : Option (List ℕ)) (r : Result A E) (bytes : List ℕ) → Writes old new r bytes → AppendsFront old new bytes
written_front old new (Ok a) bytes h = (length bytes, subst (Appends old new) (sym (take-length bytes)) h)
written_front old new (Err e) bytes h = (h.0, h.2)

-- a text that is too long stays so where it is cut one byte behind its limit
cut_long : (most : ℕ) (text : List ℕ) → nat_lt most (length (take (most + 1) text)) ≡ nat_lt most (length text)
cut_long most text = grind (arith, nat_tests, length-take (most + 1) text)

cut_short : (most : ℕ) (text : List ℕ) → nat_lt most (length text) ≡ false → take (most + 1) text ≡ text
cut_short most text e = take_all (most + 1) text (omega (arith, Decides-ltb most (length text), not_from_Decides _ (Decides-ltb most (length text)) e))

-- so it is read alike
read_alike : (most : ℕ) (text : List ℕ) (r : Result Trace ℕ) → (if nat_lt most (length (take (most + 1) text)) then r else read_lines 1 (lines_of (take (most + 1) text))) ≡ (if nat_lt most (length text) then r else read_lines 1 (lines_of text))
read_alike most text r =
    elim (nat_lt most (length text)) as (λ b. nat_lt most (length text) ≡ b → (if nat_lt most (length (take (most + 1) text)) then r else read_lines 1 (lines_of (take (most + 1) text))) ≡ (if nat_lt most (length text) then r else read_lines 1 (lines_of text))) [
      | true ↦ λ e. rw (cut_long most text, e) refl
      | false ↦ λ e. rw (cut_short most text e) refl
    ] refl

trace_alike : (text : List ℕ) → trace_of (take (LONGEST_TEXT + 1) text) ≡ trace_of text
trace_alike text = read_alike LONGEST_TEXT text (Err 0)

read_same : (text read : List ℕ) → read ≡ take (LONGEST_TEXT + 1) text → trace_of read ≡ trace_of text
read_same text read e = ap trace_of e ∙ trace_alike text

pub answered_through : {E : Type 0} (known old new : Option (List ℕ)) (read : List ℕ) (r : Result End E) → IfSome known (λ text. read ≡ take (LONGEST_TEXT + 1) text) → OnOk r (WritesAnswer old new read) → OnOk r (IfSome known (WritesAnswer old new))
answered_through None old new read (Ok end) k h = tt
answered_through (Some text) old new read (Ok end) k h = (h.0, subst (λ x. IsOutput x h.0) (read_same text read k) h.1, h.2)
answered_through known old new read (Err e) k h = tt

pub end_through : {E : Type 0} (known : Option (List ℕ)) (read : List ℕ) (r : Result End E) → IfSome known (λ text. read ≡ take (LONGEST_TEXT + 1) text) → IfOk r (λ end. end ≡ end_of (trace_of read)) → IfOk r (λ end. IfSome known (λ text. end ≡ end_of (trace_of text)))
end_through None read (Ok end) k h = tt
end_through (Some text) read (Ok end) k h = h ∙ ap end_of (read_same text read k)
end_through known read (Err e) k h = tt

pub fault_through : (known old new : Option (List ℕ)) (read : List ℕ) (r : Result End RunFault) → IfSome known (λ text. read ≡ take (LONGEST_TEXT + 1) text) → IfErr r (λ fault. Leaves fault old new read) → IfErr r (λ fault. IfSome known (Leaves fault old new))
fault_through known old new read (Ok end) k h = tt
fault_through None old new read (Err fault) k h = tt
fault_through (Some text) old new read (Err fault) k h = subst (LeavesBehind fault old new) (read_same text read k) h
