use Rattle.std.proofs.Common.{◌/◌, ◌∙◌, ℕ, ap, arith, get_or, cond, Bool, Option, Some, None}
use Rattle.std.specs.Prelude.{◌==◌}
use mathlib.Core.Path.{fun_ext}
use Rattle.far_word.specs.declared.pointer.Place.{Place}
use Rattle.far_word.specs.declared.sizes.TheConstants.{CELLS}
use Rattle.far_events.specs.state.Bits.{bit_in}
use Rattle.far_events.specs.state.Memory.{place_in, state_of}
use Rattle.far_events.proofs.Bits.{part_by}
use Rattle.far_events.proofs.HeldRows.{held_none}
use Rattle.far_events.proofs.memory.Memory.let_go.Goals as goal

pub clear_part-requires-clause-inside : goal.clear_part-requires-clause-inside
unfolding state_of
clear_part-requires-clause-inside c = omega (arith, c.requires, c.args.self.now.held_sized)

pub returns : goal.returns
unfolding state_of
returns c =
    let m = c.args.self.now in
    let place : ℕ → Place = (λ p. place_in (get_or m.places.items p 0)) in
    ap (λ (f : ℕ → Bool). record (state_of m) { held = λ p. cond (f p) (Some (place p)) None })
    (c.clear_part.ensures.clear ∙ part_by (bit_in m.held) c.args.owner (λ b. b / 64 / 4) (λ b. b / CELLS) (λ b. omega arith))
    ∙ ap (λ (f : ℕ → Option Place). record (state_of m) { held = f }) (fun_ext (λ p. held_none (p / CELLS == c.args.owner) (bit_in m.held p) (place p)))
