use Rattle.std.proofs.Common.{◌≡◌, ◌+◌, ◌<◌, ◌&&◌, true, Some, ◌∷◌, ◌++◌, length, drop, vec_len, sym, ap, ◌∙◌, arith}
use Rattle.std.specs.Prelude.{nat_le, if◌then◌else◌}
use Rattle.std.specs.FinMap as map
use Rattle.std.proofs.lemmas.Bool.{both_ways}
use Rattle.far_dict.specs.Walks.{Walked}
use Rattle.far_dict.proofs.Walking.{next_long, no_short, rest_long, told_next, value_is}
use Rattle.far_dict.proofs.walk.Walk.next.Goals as goal

pub returns-then-has_room-clause-told : goal.returns-then-has_room-clause-told
returns-then-has_room-clause-told g c = λ h.
    let a = c.self.inside.short in
    let b = c.self.inside.long in
    let w = c.args.self.now in
    let told = c.self.inside.told in
    let q = c.extend_from_slice.new.self.items in
    let honest : a.honest ≡ true = ap (λ (x : Walked). x.honest) c.self.view_is ∙ h.short in
    let honest_long : b.honest ≡ true = ap (λ (x : Walked). x.honest_long) c.self.view_is ∙ h.long in
    let none = no_short c.args.most_key c.args.most_value a.rest c.next.new.self.rest c.in-Ok-false.field-0 c.next.new.key.items c.next.new.value.items c.in-Ok-false.field-0-test (c.in-Ok-false.ensures.told honest) in
    let low : told < length c.self.inside.names.items = omega (arith, c.if-self-len.false, c.len.ensures) in
    let same : q ≡ c.index.result.now.items = c.in-Ok.ensures.items ∙ (λ i. c.clear.ensures.items i ++ c.as_slice.ensures.value i) in
    let here = next_long (λ k. k.items) c.self.inside.names.items b told c.index.result.now q c.self.invariant.1 low c.index.ensures same in
    let e = here.0 in
    let rest = drop (told + 1) (map.entries b.entries) in
    let is : w.rest ≡ e ∷ rest = rest_long a b told w c.self.view_is none.0 ∙ here.1 in
    let there : map.get b.entries c.as_slice-2.result.now ≡ Some e.1 = ap (map.get b.entries) c.as_slice-2.ensures.value ∙ here.3 in
    let value = value_is (map.get b.entries c.as_slice-2.result.now) c.in-Ok-true-read.field-0 e.1 c.read.new.out.items there (c.in-Ok-true-read.ensures.got honest_long) in
    let key_long : vec_len c.extend_from_slice.new.self ≡ length q = omega (arith, c.extend_from_slice.new.self.ok.0) in
    let value_long : vec_len c.read.new.out ≡ length c.read.new.out.items = omega (arith, c.read.new.out.ok.0) in
    told_next c.args.most_key c.args.most_value w.rest (c.next.new.self.rest ++ drop (told + 1) (map.entries c.read.new.self.entries)) e rest q c.read.new.out.items is here.2 value.1 c.has_room.result
    (c.has_room.ensures ∙ (λ i. nat_le ((c.len-in-Ok-true-read.ensures ∙ key_long) i) c.args.most_key && nat_le ((c.len-in-Ok-true-read-2.ensures ∙ value_long) i) c.args.most_value))
    ((λ i. none.1 i ++ drop (told + 1) (map.entries (c.read.ensures.same i).entries)) ∙ sym (ap (λ t. if t then rest else (e ∷ rest)) c.if-has_room.true))

pub returns-else-has_room-clause-told : goal.returns-else-has_room-clause-told
returns-else-has_room-clause-told g c = λ h.
    let a = c.self.inside.short in
    let b = c.self.inside.long in
    let w = c.args.self.now in
    let told = c.self.inside.told in
    let q = c.extend_from_slice.new.self.items in
    let honest : a.honest ≡ true = ap (λ (x : Walked). x.honest) c.self.view_is ∙ h.short in
    let honest_long : b.honest ≡ true = ap (λ (x : Walked). x.honest_long) c.self.view_is ∙ h.long in
    let none = no_short c.args.most_key c.args.most_value a.rest c.next.new.self.rest c.in-Ok-false.field-0 c.next.new.key.items c.next.new.value.items c.in-Ok-false.field-0-test (c.in-Ok-false.ensures.told honest) in
    let low : told < length c.self.inside.names.items = omega (arith, c.if-self-len.false, c.len.ensures) in
    let same : q ≡ c.index.result.now.items = c.in-Ok.ensures.items ∙ (λ i. c.clear.ensures.items i ++ c.as_slice.ensures.value i) in
    let here = next_long (λ k. k.items) c.self.inside.names.items b told c.index.result.now q c.self.invariant.1 low c.index.ensures same in
    let e = here.0 in
    let rest = drop (told + 1) (map.entries b.entries) in
    let is : w.rest ≡ e ∷ rest = rest_long a b told w c.self.view_is none.0 ∙ here.1 in
    let there : map.get b.entries c.as_slice-2.result.now ≡ Some e.1 = ap (map.get b.entries) c.as_slice-2.ensures.value ∙ here.3 in
    let value = value_is (map.get b.entries c.as_slice-2.result.now) c.in-Ok-true-read.field-0 e.1 c.read.new.out.items there (c.in-Ok-true-read.ensures.got honest_long) in
    let key_long : vec_len c.extend_from_slice.new.self ≡ length q = omega (arith, c.extend_from_slice.new.self.ok.0) in
    let value_long : vec_len c.read.new.out ≡ length c.read.new.out.items = omega (arith, c.read.new.out.ok.0) in
    told_next c.args.most_key c.args.most_value w.rest (c.next.new.self.rest ++ drop told (map.entries c.read.new.self.entries)) e rest q c.read.new.out.items is here.2 value.1 c.has_room.result
    (c.has_room.ensures ∙ (λ i. nat_le ((c.len-in-Ok-true-read.ensures ∙ key_long) i) c.args.most_key && nat_le ((c.len-in-Ok-true-read-2.ensures ∙ value_long) i) c.args.most_value))
    ((λ i. none.1 i ++ drop told (map.entries (c.read.ensures.same i).entries)) ∙ here.1 ∙ sym (ap (λ t. if t then rest else (e ∷ rest)) c.if-has_room.false))

pub returns-in-Ok-false-read-clause-told : goal.returns-in-Ok-false-read-clause-told
returns-in-Ok-false-read-clause-told g c = λ h.
    let a = c.self.inside.short in
    let b = c.self.inside.long in
    let w = c.args.self.now in
    let told = c.self.inside.told in
    let q = c.extend_from_slice.new.self.items in
    let honest : a.honest ≡ true = ap (λ (x : Walked). x.honest) c.self.view_is ∙ h.short in
    let honest_long : b.honest ≡ true = ap (λ (x : Walked). x.honest_long) c.self.view_is ∙ h.long in
    let none = no_short c.args.most_key c.args.most_value a.rest c.next.new.self.rest c.in-Ok-false.field-0 c.next.new.key.items c.next.new.value.items c.in-Ok-false.field-0-test (c.in-Ok-false.ensures.told honest) in
    let low : told < length c.self.inside.names.items = omega (arith, c.if-self-len.false, c.len.ensures) in
    let same : q ≡ c.index.result.now.items = c.in-Ok.ensures.items ∙ (λ i. c.clear.ensures.items i ++ c.as_slice.ensures.value i) in
    let here = next_long (λ k. k.items) c.self.inside.names.items b told c.index.result.now q c.self.invariant.1 low c.index.ensures same in
    let e = here.0 in
    let rest = drop (told + 1) (map.entries b.entries) in
    let is : w.rest ≡ e ∷ rest = rest_long a b told w c.self.view_is none.0 ∙ here.1 in
    let there : map.get b.entries c.as_slice-2.result.now ≡ Some e.1 = ap (map.get b.entries) c.as_slice-2.ensures.value ∙ here.3 in
    absurd (both_ways c.in-Ok-false-read.field-0 c.in-Ok-false-read.field-0-test (value_is (map.get b.entries c.as_slice-2.result.now) c.in-Ok-false-read.field-0 e.1 c.read.new.out.items there (c.in-Ok-false-read.ensures.got honest_long)).0)
