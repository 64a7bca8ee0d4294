use Rattle.std.proofs.Common.{◌≡◌, ◌+◌, arith, refl, subst}
use Rattle.far_hand.specs.Ranges.{CopiesRow}
use Rattle.far_hand.proofs.Ranges.{copies_more, copies_rest, may_get, may_put, words_again}
use Rattle.far_hand.proofs.hand.Near.copy_words.Goals as goal

pub loop-i-init : goal.loop-i-init
loop-i-init g c = refl

pub get-word-requires : goal.get-word-requires
get-word-requires g c =
    let s = g.Self.Near.view c.args.self.now in
    let t = g.Self.Near.view c.loop-i.self in
    let is = copies_rest g.Self.Near.still g.Self.Near.view g.Self.Near.makes c.args.from c.args.to 0 c.loop-i.i c.args.self.now c.loop-i.self c.loop-i.invariant in
    record { legal = may_get s t is c.args.from.log (c.args.from.at + 1) c.args.count c.loop-i.i c.requires.from c.loop-i-test.true }

pub put-requires : goal.put-requires
put-requires g c =
    let s = g.Self.Near.view c.args.self.now in
    let t = g.Self.Near.view c.loop-i.self in
    let u = g.Self.Near.view c.get-word.new.self in
    let is = copies_rest g.Self.Near.still g.Self.Near.view g.Self.Near.makes c.args.from c.args.to 0 c.loop-i.i c.args.self.now c.loop-i.self c.loop-i.invariant in
    let now = words_again s t u is c.get-word.ensures.rest in
    record { legal = may_put s u now c.args.to.log (c.args.to.at + 1) c.args.count c.loop-i.i c.get-word.result c.requires.to c.loop-i-test.true }

pub loop-i-preserved : goal.loop-i-preserved
loop-i-preserved g c =
    let e = c.get-word.ensures in
    copies_more g.Self.Near.still g.Self.Near.view g.Self.Near.makes c.args.from c.args.to 0 c.loop-i.i c.loop-i.i c.args.self.now c.loop-i.self c.put.new.self (omega arith) c.loop-i.invariant record {
      middle = c.get-word.new.self;
      word = c.get-word.result;
      read = record {
        fits = c.get-word.type_inv;
        gets = record { known = e.known; padding = e.padding; read = e.read; kept = e.kept; unread = e.unread; here = e.here; others = e.others; forgot = e.forgot; rest = e.rest };
        exact = e.exact;
        same = e.set;
        made = e.made;
      };
      wrote = record { set = c.put.ensures.set; made = c.put.ensures.made };
    }

pub returns : goal.returns
returns g c =
    let all : c.loop-i.i ≡ c.args.count = omega (arith, c.loop-i-test.false, c.loop-i.auto) in
    subst (λ n. CopiesRow g.Self.Near.still g.Self.Near.view g.Self.Near.makes c.args.from c.args.to 0 n c.args.self.now c.loop-i.self) all c.loop-i.invariant
