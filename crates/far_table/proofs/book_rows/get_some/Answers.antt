use Rattle.std.proofs.Common.{◌+◌, ◌*◌, ◌≡◌, ◌∙◌, arith, drop, refl, subst}
use Rattle.far_hand.specs.Ranges.{HasRead}
use Rattle.far_hand.proofs.ByteRows.{behind_more}
use Rattle.far_hand.proofs.Ranges.{has_more}
use Rattle.far_table.specs.BookRows.{part_makes, part_view}
use Rattle.far_table.proofs.BookRows.{leads_none, leads_then, part_on, reads_lead, within_on}
use Rattle.far_table.proofs.book_rows.get_some.Goals as goal

pub loop-i-init : goal.loop-i-init
loop-i-init g c =
    let here = c.args.shared.now.table_id in
    let first : c.args.first ≡ c.args.first + 0 = omega arith in
    record {
      words = λ logs mutators epoch ok s h. subst (λ n. HasRead ⊥ part_view (part_makes here logs mutators epoch) c.args.log c.args.at s c.args.seat.now n c.args.row.now) first h;
      leads = leads_none here c.args.seat.now;
      behind = refl;
      long = refl;
    }

pub get_at-word-requires : goal.get_at-word-requires
get_at-word-requires g c =
    let here = c.args.shared.now.table_id in
    let s = c.args.seat.now in
    let t = c.loop-i.seat in
    let leads = c.loop-i.invariant.leads in
    let lt = c.loop-i-test.true in
    let start = c.requires.start in
    record {
      part = part_on here s t leads c.requires.part;
      within = within_on (part_view s) (part_view t) leads.rest c.args.log (c.args.at + c.args.first) c.args.count (c.args.at + (c.args.first + c.loop-i.i)) 1 c.requires.within (omega (arith, lt));
      address = omega (arith, start);
    }

pub loop-i-preserved : goal.loop-i-preserved
loop-i-preserved g c =
    let here = c.args.shared.now.table_id in
    let s = c.args.seat.now in
    let t = c.loop-i.seat in
    let u = c.get_at-word.new.seat in
    let h = c.loop-i.invariant in
    let at : c.args.first + c.loop-i.i + 1 ≡ c.args.first + (c.loop-i.i + 1) = omega arith in
    record {
      words = λ logs mutators epoch ok x before. subst (λ n. HasRead ⊥ part_view (part_makes here logs mutators epoch) c.args.log c.args.at x u n c.unpack_word.new.bytes) at
          (has_more ⊥ part_view (part_makes here logs mutators epoch) c.args.log c.args.at (c.args.first + c.loop-i.i) c.get_at-word.result x t u c.loop-i.row c.unpack_word.new.bytes
          (h.words logs mutators epoch ok x before) (c.get_at-word.ensures logs mutators epoch (h.leads.ok logs mutators epoch ok)) c.unpack_word.ensures.front);
      leads = leads_then here s t u h.leads (reads_lead here t u (part_on here s t h.leads c.requires.part) c.args.log (c.args.at + (c.args.first + c.loop-i.i)) c.get_at-word.result c.get_at-word.ensures);
      behind = subst (λ n. drop (8 * n) c.unpack_word.new.bytes ≡ drop (8 * n) c.args.row.now) at
          (behind_more (c.args.first + c.loop-i.i) c.args.row.now c.loop-i.row c.unpack_word.new.bytes h.behind c.unpack_word.ensures.behind);
      long = c.unpack_word.ensures.length ∙ h.long;
    }

pub returns-clause-words : goal.returns-clause-words
returns-clause-words g c logs mutators epoch ok x before =
    let all : c.loop-i.i ≡ c.args.count = omega (arith, c.loop-i-test.false, c.loop-i.auto) in
    subst (λ n. HasRead ⊥ part_view (part_makes c.args.shared.now.table_id logs mutators epoch) c.args.log c.args.at x c.loop-i.seat (c.args.first + n) c.loop-i.row) all (c.loop-i.invariant.words logs mutators epoch ok x before)

pub returns-clause-behind : goal.returns-clause-behind
returns-clause-behind g c =
    let all : c.loop-i.i ≡ c.args.count = omega (arith, c.loop-i-test.false, c.loop-i.auto) in
    subst (λ n. drop (8 * (c.args.first + n)) c.loop-i.row ≡ drop (8 * (c.args.first + n)) c.args.row.now) all c.loop-i.invariant.behind
