use Rattle.std.proofs.Common.{◌≡◌, ◌≤◌, ◌<◌, ◌^◌, ◌+◌, ◌-◌, ◌/◌, ◌++◌, ◌∙◌, ap, subst, sym, refl, length, take, drop, Some, arith}
use Rattle.std.specs.Vec.{with_items}
use Rattle.std.proofs.lemmas.List.{drop_at, take_at}
use Rattle.hex.specs.Hex.{IsBytes}
use borrow.Rule.Slice.PartMut.{put_mid}
use Rattle.far_text.proofs.HexRooms.{PutBehind, appended_bytes, hex_len, not_hex_len, part_length, put_behind, spelled_bytes, take_self}
use Rattle.far_text.proofs.hex_word.HexBytes.add.Goals.{After-decode}
use Rattle.far_text.proofs.hex_word.HexBytes.add.Goals as goal

-- what the buffer has once those were put behind its first bytes
behind : (c : After-decode) → let own = c.self.inside in let v = c.make_room.new.buffer in let n = own.len + length c.args.word.now / 2 - own.len in
    PutBehind own.len n own.buffer.items c.decode.new.buffer (with_items v (put_mid own.len n c.deref_mut.result.now c.decode.new.buffer)).items (length v.items)
behind c =
    let own = c.self.inside in
    let v = c.make_room.new.buffer in
    let n = own.len + length c.args.word.now / 2 - own.len in
    let same = c.deref_mut.ensures.value in
    let room : own.len + n ≤ length v.items = omega (arith, c.in-Ok.ensures.enough) in
    let in_buffer : own.len + n ≤ length c.deref_mut.result.now = omega (arith, ap length same) in
    put_behind own.len n own.buffer.items v c.deref_mut.result.now c.decode.new.buffer c.in-Ok.ensures.kept same c.self.invariant.0 room (c.decode.auto.buffer ∙ part_length own.len n c.deref_mut.result.now in_buffer)

pub returns-then-not-is_hex_len-clause-value : goal.returns-then-not-is_hex_len-clause-value
returns-then-not-is_hex_len-clause-value c = not_hex_len c.args.word.now c.if-not-is_hex_len.ensures

pub returns-then-not-is_hex_len-clause-kept : goal.returns-then-not-is_hex_len-clause-kept
returns-then-not-is_hex_len-clause-kept c = take_self c.args.self.now

pub returns-then-not-is_hex_len-clause-same : goal.returns-then-not-is_hex_len-clause-same
returns-then-not-is_hex_len-clause-same c = λ other. refl

pub invariant_of-self : goal.invariant_of-self
invariant_of-self c =
    let len = c.self.inside.len in
    subst (λ items. (len ≤ length items) × IsBytes (take len items) × (length items < 2 ^ 32)) (sym c.in_default.ensures.fault) c.self.invariant

pub returns-in_default-clause-value : goal.returns-in_default-clause-value
returns-in_default-clause-value c = tt

pub returns-in_default-clause-kept : goal.returns-in_default-clause-kept
returns-in_default-clause-kept c = ap (take (length c.args.self.now)) (ap (take c.self.inside.len) c.in_default.ensures.fault ∙ c.self.view_is) ∙ take_self c.args.self.now

pub returns-in_default-clause-same : goal.returns-in_default-clause-same
returns-in_default-clause-same c = λ other. ap (take c.self.inside.len) c.in_default.ensures.fault ∙ c.self.view_is

pub decode-requires-clause-some : goal.decode-requires-clause-some
decode-requires-clause-some c =
    let len = c.self.inside.len in
    let n = len + length c.args.word.now / 2 - len in
    let is = hex_len c.args.word.now c.if-not-is_hex_len.ensures in
    let room : len + n ≤ length c.deref_mut.result.now = omega (arith, c.in-Ok.ensures.enough, ap length c.deref_mut.ensures.value) in
    omega (arith, part_length len n c.deref_mut.result.now room, is)

pub decode-requires-clause-short : goal.decode-requires-clause-short
decode-requires-clause-short c = (hex_len c.args.word.now c.if-not-is_hex_len.ensures).1

pub decode-requires-clause-twice : goal.decode-requires-clause-twice
decode-requires-clause-twice c =
    let len = c.self.inside.len in
    let n = len + length c.args.word.now / 2 - len in
    let is = hex_len c.args.word.now c.if-not-is_hex_len.ensures in
    let room : len + n ≤ length c.deref_mut.result.now = omega (arith, c.in-Ok.ensures.enough, ap length c.deref_mut.ensures.value) in
    omega (arith, part_length len n c.deref_mut.result.now room, is)

pub invariant_of-self-then-not-decode : goal.invariant_of-self-then-not-decode
invariant_of-self-then-not-decode c =
    let put = behind (goal.at.invariant_of-self-then-not-decode c).After-decode in
    (omega (arith, put.long, c.in-Ok.ensures.enough), subst IsBytes (sym put.front) c.self.invariant.1, omega (arith, put.long, c.in-Ok.ensures.few))

pub returns-then-not-decode-clause-value : goal.returns-then-not-decode-clause-value
returns-then-not-decode-clause-value c = c.if-not-decode.ensures

pub returns-then-not-decode-clause-kept : goal.returns-then-not-decode-clause-kept
returns-then-not-decode-clause-kept c =
    let at = goal.at.returns-then-not-decode-clause-kept c in
    ap (take (length c.args.self.now)) ((behind at.After-decode).front ∙ c.self.view_is) ∙ take_self c.args.self.now

pub returns-then-not-decode-clause-same : goal.returns-then-not-decode-clause-same
returns-then-not-decode-clause-same c = λ other. (behind (goal.at.returns-then-not-decode-clause-same c).After-decode).front ∙ c.self.view_is

-- the bytes are those that were there, and those that the word spells
all_now : (c : After-decode) → let own = c.self.inside in let v = c.make_room.new.buffer in let n = own.len + length c.args.word.now / 2 - own.len in
    take (own.len + length c.args.word.now / 2) (with_items v (put_mid own.len n c.deref_mut.result.now c.decode.new.buffer)).items ≡ c.args.self.now ++ c.decode.new.buffer
all_now c =
    let own = c.self.inside in
    let v = c.make_room.new.buffer in
    let n = own.len + length c.args.word.now / 2 - own.len in
    let end : own.len + length c.args.word.now / 2 ≡ own.len + n = omega arith in
    ap (λ k. take k (with_items v (put_mid own.len n c.deref_mut.result.now c.decode.new.buffer)).items) end ∙ (behind c).all ∙ ap (λ front. front ++ c.decode.new.buffer) c.self.view_is

pub invariant_of-self-2 : goal.invariant_of-self-2
invariant_of-self-2 c =
    let call = (goal.at.invariant_of-self-2 c).After-decode in
    let put = behind call in
    let spells = spelled_bytes c.args.word.now c.decode.new.buffer c.if-not-decode.ensures in
    let bytes = appended_bytes c.args.self.now c.decode.new.buffer (subst IsBytes c.self.view_is c.self.invariant.1) spells in
    (omega (arith, put.long, c.in-Ok.ensures.enough), subst IsBytes (sym (all_now call)) bytes, omega (arith, put.long, c.in-Ok.ensures.few))

pub returns-clause-value : goal.returns-clause-value
returns-clause-value c =
    let now = all_now (goal.at.returns-clause-value c).After-decode in
    c.if-not-decode.ensures ∙ ap Some (sym (ap (drop (length c.args.self.now)) now ∙ drop_at c.args.self.now c.decode.new.buffer (length c.args.self.now) refl))

pub returns-clause-kept : goal.returns-clause-kept
returns-clause-kept c =
    let now = all_now (goal.at.returns-clause-kept c).After-decode in
    ap (take (length c.args.self.now)) now ∙ take_at c.args.self.now c.decode.new.buffer (length c.args.self.now) refl

pub returns-clause-same : goal.returns-clause-same
returns-clause-same c = λ other. absurd (other refl)
