use Rattle.std.proofs.Common.{◌≡◌, ◌≤◌, ◌<◌, ◌^◌, ◌+◌, ◌++◌, ◌∷◌, [], ◌∙◌, ap, subst, sym, length, take, arith}
use Rattle.std.proofs.Math.ListN.{set}
use Rattle.std.proofs.lemmas.List.{length-set, take_more_set}
use Rattle.hex.specs.Hex.{IsBytes}
use Rattle.far_text.proofs.HexRooms.{appended_bytes, front_stays, one_byte}
use Rattle.far_text.proofs.hex_word.HexBytes.push.Goals.{In-Ok}
use Rattle.far_text.proofs.hex_word.HexBytes.push.Goals as goal

-- the first bytes with one more behind them
one_more : (c : In-Ok) → let own = c.self.inside in take (own.len + 1) (set c.make_room.new.buffer.items own.len c.args.byte) ≡ take own.len own.buffer.items ++ c.args.byte ∷ []
one_more c =
    let own = c.self.inside in
    take_more_set c.make_room.new.buffer.items own.len c.args.byte (omega (arith, c.in-Ok.ensures.enough))
    ∙ ap (λ front. front ++ c.args.byte ∷ []) (front_stays own.len own.buffer.items c.make_room.new.buffer.items c.in-Ok.ensures.kept c.self.invariant.0)

pub invariant_of-self : goal.invariant_of-self
invariant_of-self c =
    let len = c.self.inside.len in
    subst (λ items. (len ≤ length items) × IsBytes (take len items) × (length items < 2 ^ 32)) (sym c.in_default.ensures.fault) c.self.invariant

pub invariant_of-self-2 : goal.invariant_of-self-2
invariant_of-self-2 c =
    let own = c.self.inside in
    let long = length-set c.make_room.new.buffer.items own.len c.args.byte in
    let bytes = appended_bytes (take own.len own.buffer.items) (c.args.byte ∷ []) c.self.invariant.1 (one_byte c.args.byte c.ranges.byte.fits) in
    (omega (arith, long, c.in-Ok.ensures.enough), subst IsBytes (sym (one_more (goal.at.invariant_of-self-2 c).In-Ok)) bytes, omega (arith, long, c.in-Ok.ensures.few))

pub returns-in_default-clause-value : goal.returns-in_default-clause-value
returns-in_default-clause-value c = tt

pub returns-in_default-clause-fault : goal.returns-in_default-clause-fault
returns-in_default-clause-fault c = ap (take c.self.inside.len) c.in_default.ensures.fault ∙ c.self.view_is

pub returns-clause-value : goal.returns-clause-value
returns-clause-value c = one_more (goal.at.returns-clause-value c).In-Ok ∙ ap (λ front. front ++ c.args.byte ∷ []) c.self.view_is

pub returns-clause-fault : goal.returns-clause-fault
returns-clause-fault c = tt
