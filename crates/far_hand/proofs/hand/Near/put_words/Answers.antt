use Rattle.std.proofs.Common.{◌≡◌, arith, refl, subst}
use Rattle.far_word.specs.Bytes.{packed_word}
use Rattle.far_hand.specs.Ranges.{WritesRow}
use Rattle.far_hand.proofs.Ranges.{may_put, writes_more, writes_rest}
use Rattle.far_hand.proofs.hand.Near.put_words.Goals as goal

pub loop-i-init : goal.loop-i-init
loop-i-init g c = refl

pub put-requires : goal.put-requires
put-requires g c =
    let s = g.Self.Near.view c.args.self.now in
    let t = g.Self.Near.view c.loop-i.self in
    let is = writes_rest g.Self.Near.still g.Self.Near.view g.Self.Near.makes c.args.log c.args.at (packed_word c.args.bytes.now) 0 c.loop-i.i c.args.self.now c.loop-i.self c.loop-i.invariant in
    record { legal = may_put s t is c.args.log c.args.at c.args.count c.loop-i.i c.packed_whole.result c.requires.past c.loop-i-test.true }

pub loop-i-preserved : goal.loop-i-preserved
loop-i-preserved g c = writes_more g.Self.Near.still g.Self.Near.view g.Self.Near.makes c.args.log c.args.at (packed_word c.args.bytes.now) 0 c.loop-i.i c.loop-i.i c.packed_whole.result c.args.self.now c.loop-i.self c.put.new.self (omega arith) c.packed_whole.ensures c.loop-i.invariant
    record { set = c.put.ensures.set; made = c.put.ensures.made }

pub returns : goal.returns
returns g c =
    let all : c.loop-i.i ≡ c.args.count = omega (arith, c.loop-i-test.false, c.loop-i.auto) in
    subst (λ n. WritesRow g.Self.Near.still g.Self.Near.view g.Self.Near.makes c.args.log c.args.at (packed_word c.args.bytes.now) 0 n c.args.self.now c.loop-i.self) all c.loop-i.invariant
