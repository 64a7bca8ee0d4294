use Rattle.std.proofs.Common.{◌≡◌, ◌<◌, ℕ, arith, refl, subst, sym, true, Option, Some, None, ◌∙◌}
use Rattle.std.specs.Prelude.{IsSome}
use Rattle.far_word.specs.declared.header.HeadWord.{HeadWord}
use Rattle.far_word.specs.Header.{head_of}
use Rattle.far_word.specs.Pointer.{read_of}
use Rattle.far_events.specs.state.Law.{Law, len_in}
use Rattle.far_events.specs.state.Memory.{state_of}
use Rattle.far_events.specs.state.State.{State}
use Rattle.far_events.proofs.memory.Memory.is_live_at.Goals as goal

has_len : (o : Option HeadWord) → 0 < len_in o → IsSome o
has_len None some = absurd (omega arith)
has_len (Some head) some = refl

-- where a span begins a header stands
begun : (s : State) → Law s → (a : ℕ) → s.starts a ≡ true → IsSome (head_of (s.word a))
begun s law a h = has_len (head_of (s.word a)) (law.spans.span a h).some

pub pointer_in-requires : goal.pointer_in-requires
pointer_in-requires c =
    let s = state_of c.args.self.now in
    subst (λ w. IsSome (head_of w)) (sym c.word.ensures) (begun s c.requires.law c.first_word-header.result (sym c.starts.ensures ∙ c.if-starts.true))

pub names_place-requires : goal.names_place-requires
names_place-requires c = subst (λ w. IsSome (read_of w)) (sym c.cell.ensures) (c.requires.law.cells.cell_read c.pointer_in.result).1
