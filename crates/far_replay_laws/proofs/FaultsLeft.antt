-- What a fault leaves on the output: exactly what `StandsAfter` says, where it is known what stood there.
use Rattle.std.proofs.Common.{◌≡◌, ℕ, ◌<◌, List, ◌++◌, length, take, drop, codes, Option, Some, None, Ok, Result, inl, inr, refl, sym, ap, subst, ◌∙◌, arith}
use Rattle.std.proofs.Common.{length-append, length-drop, take-append-drop, take_at}
use Rattle.std.specs.Fmt.{digits}
use Rattle.std.specs.Io.KnownBytes.{Appends, Keeps}
use Rattle.far_word.specs.declared.refused.Refused.TheVariants.{Memory}
use Rattle.far_text.specs.Command.{Trace, Heap}
use Rattle.far_text.specs.Grammar.{trace_of}
use Rattle.far_replay.specs.Answers.{Answers, Leaves, MayMakeHeap}
use Rattle.far_replay.specs.declared.running.RunFault.{RunFault}
use Rattle.far_replay.specs.declared.running.RunFault.TheVariants as faults
use Rattle.far_reply.specs.Reply.{Refused, reply_text}
use Rattle.far_reply.specs.Stream.{AppendsFront}
use Rattle.far_replay_laws.specs.Faults.{FaultsLeave, SaysHeap, StandsAfter}
use Rattle.far_replay_laws.proofs.TakingRoom.{shapes_are}

-- ---- known bytes
kept : (before : List ℕ) (new : Option (List ℕ)) → Keeps (Some before) new → (after : List ℕ) × (new ≡ Some after) × (after ≡ before)
kept before None h = absurd h
kept before (Some after) h = (after, refl, h)

grown : (before bytes : List ℕ) (new : Option (List ℕ)) → Appends (Some before) new bytes → (after : List ℕ) × (new ≡ Some after) × (after ≡ before ++ bytes)
grown before bytes None h = absurd h
grown before bytes (Some after) h = (after, refl, h)

keeps : (before after : List ℕ) (new : Option (List ℕ)) → new ≡ Some after → after ≡ before → Keeps (Some before) new
keeps before after new known is = subst (Keeps (Some before)) (sym known) is

grows : (before after bytes : List ℕ) (new : Option (List ℕ)) → new ≡ Some after → after ≡ before ++ bytes → Appends (Some before) new bytes
grows before after bytes new known is = subst (λ (x : Option (List ℕ)). Appends (Some before) x bytes) (sym known) is

-- a front is what is taken by its length
front_taken : (front rest whole : List ℕ) → front ++ rest ≡ whole → take (length front) whole ≡ front
front_taken front rest whole e = ap (take (length front)) (sym e) ∙ take_at front rest (length front) refl

-- ---- a heap that is refused memory
lack_said : reply_text (Refused Memory) ≡ codes "refused 1\n"
unfolding digits
lack_said = refl

says_heap : (text : List ℕ) (read : Result Trace ℕ) → trace_of text ≡ read → MayMakeHeap read → SaysHeap text
says_heap text (Ok (Heap logs mutators epoch device cs)) e h = (logs, mutators, epoch, device, cs, e, (shapes_are logs mutators epoch).0 h)
says_heap text _ e h = absurd h

may_make : (text : List ℕ) → SaysHeap text → MayMakeHeap (trace_of text)
may_make text (logs, mutators, epoch, device, cs, e, within) = subst MayMakeHeap (sym e) ((shapes_are logs mutators epoch).1 within)

-- ---- each fault
abbrev Stands : RunFault → List ℕ → List ℕ → Option (List ℕ) → Type 0
Stands fault text before new = (after : List ℕ) × (new ≡ Some after) × StandsAfter fault text before after

stands_so : (fault : RunFault) (text before : List ℕ) (new : Option (List ℕ)) → Leaves fault (Some before) new text → Stands fault text before new
stands_so faults.Read text before new h = kept before new h
stands_so faults.Write text before new h =
    let output : List ℕ = h.0 in
    let n : ℕ = h.2.0 in
    let less : n < length output = h.2.1 in
    let x = grown before (take n output) new h.2.2 in
    (x.0, x.1, (take n output, drop n output, subst (Answers text) (sym (take-append-drop n output)) h.1, omega (arith, length-drop n output, less), x.2))
stands_so faults.Memory text before new (inl h) = let x = kept before new h in (x.0, x.1, inl x.2)
stands_so faults.Memory text before new (inr h) =
    let line : List ℕ = codes "refused 1\n" in
    let part : AppendsFront (Some before) new line = subst (AppendsFront (Some before) new) lack_said h.1 in
    let x = grown before (take part.0 line) new part.1 in
    (x.0, x.1, inr (says_heap text (trace_of text) refl h.0, (take part.0 line, drop part.0 line, take-append-drop part.0 line, x.2)))

lack_leaves : (text before after : List ℕ) (new : Option (List ℕ)) → new ≡ Some after → StandsAfter faults.Memory text before after → Leaves faults.Memory (Some before) new text
lack_leaves text before after new known (inl same) = inl (keeps before after new known same)
lack_leaves text before after new known (inr said) =
    let (front, rest, whole, is) = said.1 in
    let line : List ℕ = codes "refused 1\n" in
    let ends : after ≡ before ++ take (length front) line = is ∙ ap (λ (xs : List ℕ). before ++ xs) (sym (front_taken front rest line whole)) in
    let part : AppendsFront (Some before) new line = (length front, grows before after (take (length front) line) new known ends) in
    inr (may_make text said.0, subst (AppendsFront (Some before) new) (sym lack_said) part)

leaves_so : (fault : RunFault) (text before : List ℕ) (new : Option (List ℕ)) → Stands fault text before new → Leaves fault (Some before) new text
leaves_so faults.Read text before new h = keeps before h.0 new h.1 h.2
leaves_so faults.Write text before new h =
    let (front, rest, answers, some, is) = h.2 in
    let less : length front < length (front ++ rest) = omega (arith, length-append front rest, some) in
    let ends : h.0 ≡ before ++ take (length front) (front ++ rest) = is ∙ ap (λ (xs : List ℕ). before ++ xs) (sym (front_taken front rest (front ++ rest) refl)) in
    (front ++ rest, answers, (length front, less, grows before h.0 (take (length front) (front ++ rest)) new h.1 ends))
leaves_so faults.Memory text before new h = lack_leaves text before h.0 new h.1 h.2

pub faults_leave : FaultsLeave
faults_leave fault text before new = (stands_so fault text before new, leaves_so fault text before new)
