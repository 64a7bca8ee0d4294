use Rattle.std.proofs.Common.{◌≡◌, ◌∙◌, ◌*◌, arith, drop, refl, subst}
use Rattle.far_hand.specs.Ranges.{HasRead}
use Rattle.far_hand.proofs.ByteRows.{behind_more}
use Rattle.far_hand.proofs.Ranges.{has_more, has_none, may_get, reads_rest}
use Rattle.far_hand.proofs.hand.Near.get_words.Goals as goal

pub loop-i-init : goal.loop-i-init
loop-i-init g c = record {
  words = has_none g.Self.Near.still g.Self.Near.view g.Self.Near.makes c.args.log c.args.at c.args.self.now c.args.row.now;
  behind = refl;
  long = refl;
}

pub get-word-requires : goal.get-word-requires
get-word-requires g c =
    let s = g.Self.Near.view c.args.self.now in
    let t = g.Self.Near.view c.loop-i.self in
    let h = c.loop-i.invariant.words in
    let is = reads_rest g.Self.Near.still g.Self.Near.view g.Self.Near.makes c.args.log c.args.at h.0 0 c.loop-i.i c.args.self.now c.loop-i.self h.1 in
    record { legal = may_get s t is c.args.log c.args.at c.args.count c.loop-i.i c.requires.within c.loop-i-test.true }

pub loop-i-preserved : goal.loop-i-preserved
loop-i-preserved g c =
    let e = c.get-word.ensures in
    record {
      words = has_more g.Self.Near.still g.Self.Near.view g.Self.Near.makes c.args.log c.args.at c.loop-i.i c.get-word.result c.args.self.now c.loop-i.self c.get-word.new.self c.loop-i.row c.unpack_word.new.bytes c.loop-i.invariant.words record {
        fits = c.get-word.type_inv;
        gets = record { known = e.known; padding = e.padding; read = e.read; kept = e.kept; unread = e.unread; here = e.here; others = e.others; forgot = e.forgot; rest = e.rest };
        exact = e.exact;
        same = e.set;
        made = e.made;
      } c.unpack_word.ensures.front;
      behind = behind_more c.loop-i.i c.args.row.now c.loop-i.row c.unpack_word.new.bytes c.loop-i.invariant.behind c.unpack_word.ensures.behind;
      long = c.unpack_word.ensures.length ∙ c.loop-i.invariant.long;
    }

pub returns-clause-words : goal.returns-clause-words
returns-clause-words g c =
    let all : c.loop-i.i ≡ c.args.count = omega (arith, c.loop-i-test.false, c.loop-i.auto) in
    subst (λ n. HasRead g.Self.Near.still g.Self.Near.view g.Self.Near.makes c.args.log c.args.at c.args.self.now c.loop-i.self n c.loop-i.row) all c.loop-i.invariant.words

pub returns-clause-behind : goal.returns-clause-behind
returns-clause-behind g c =
    let all : c.loop-i.i ≡ c.args.count = omega (arith, c.loop-i-test.false, c.loop-i.auto) in
    subst (λ n. drop (8 * n) c.loop-i.row ≡ drop (8 * n) c.args.row.now) all c.loop-i.invariant.behind
