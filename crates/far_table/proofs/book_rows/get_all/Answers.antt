use Rattle.std.proofs.Common.{◌+◌, ◌-◌, ◌*◌, ◌/◌, ◌≡◌, ◌≤◌, ◌∙◌, ℕ, arith, drop, refl, subst}
use Rattle.far_hand.specs.Ranges.{HasRead}
use Rattle.far_hand.proofs.ByteRows.{drop_further}
use Rattle.far_hand.proofs.Ranges.{has_none}
use Rattle.far_table.specs.BookRows.{part_makes, part_view}
use Rattle.far_table.proofs.BookRows.{leads_none, leads_then, part_on, within_on}
use Rattle.far_table.proofs.book_rows.get_all.Goals as goal

pub loop-i-init : goal.loop-i-init
loop-i-init g c =
    let here = c.args.shared.now.table_id in
    record {
      words = λ logs mutators epoch ok. has_none ⊥ part_view (part_makes here logs mutators epoch) c.args.log c.args.at c.args.seat.now c.args.row.now;
      leads = leads_none here c.args.seat.now;
      behind = refl;
      long = refl;
    }

-- the remainder is the number itself
pub get_some-requires : goal.get_some-requires
get_some-requires g c =
    let here = c.args.shared.now.table_id in
    let s = c.args.seat.now in
    let t = c.loop-i.seat in
    let part = c.requires.part in
    let h = c.loop-i.invariant in
    let lt = c.loop-i-test.true in
    let few = part.3.fits.few_logs in
    let many = part.3.fits.logs_are in
    let within = c.requires.within in
    record {
      part = part_on here s t h.leads part;
      within = within_on (part_view s) (part_view t) h.leads.rest c.args.log c.args.at c.args.count (c.args.at + 8 * c.loop-i.i) 8 within (omega (arith, lt));
      start = omega (arith, few, many, within.0, within.1, lt);
      room = omega (arith, lt, h.long, c.requires.room);
    }

pub get_some-requires-2 : goal.get_some-requires-2
get_some-requires-2 g c =
    let here = c.args.shared.now.table_id in
    let s = c.args.seat.now in
    let t = c.loop-i.seat in
    let h = c.loop-i.invariant in
    let first : ℕ = 8 * (c.args.count / 8) in
    let within = c.requires.within in
    record {
      part = part_on here s t h.leads c.requires.part;
      within = within_on (part_view s) (part_view t) h.leads.rest c.args.log c.args.at c.args.count (c.args.at + first) (c.args.count - first) within (omega arith);
      start = omega arith;
      room = omega (arith, h.long, c.requires.room);
    }

pub loop-i-preserved : goal.loop-i-preserved
loop-i-preserved g c =
    let here = c.args.shared.now.table_id in
    let s = c.args.seat.now in
    let t = c.loop-i.seat in
    let u = c.get_some.new.seat in
    let h = c.loop-i.invariant in
    let all : 8 * c.loop-i.i + 8 ≡ 8 * (c.loop-i.i + 1) = omega arith in
    let later : 8 * (8 * c.loop-i.i) ≤ 8 * (8 * c.loop-i.i + 8) = omega arith in
    record {
      words = λ logs mutators epoch ok. subst (λ n. HasRead ⊥ part_view (part_makes here logs mutators epoch) c.args.log c.args.at s u n c.get_some.new.row) all
          (c.get_some.ensures.words logs mutators epoch (h.leads.ok logs mutators epoch ok) s (h.words logs mutators epoch ok));
      leads = leads_then here s t u h.leads c.get_some.ensures.leads;
      behind = subst (λ n. drop (8 * n) c.get_some.new.row ≡ drop (8 * n) c.args.row.now) all
          (c.get_some.ensures.behind ∙ drop_further (8 * (8 * c.loop-i.i)) (8 * (8 * c.loop-i.i + 8)) c.loop-i.row c.args.row.now later h.behind);
      long = c.get_some.ensures.length ∙ h.long;
    }

pub returns-clause-words : goal.returns-clause-words
returns-clause-words g c logs mutators epoch ok =
    let here = c.args.shared.now.table_id in
    let s = c.args.seat.now in
    let t = c.loop-i.seat in
    let u = c.get_some-2.new.seat in
    let h = c.loop-i.invariant in
    let first : ℕ = 8 * (c.args.count / 8) in
    let end : 8 * c.loop-i.i ≡ first = omega (arith, c.loop-i-test.false, c.loop-i.auto) in
    let all : first + (c.args.count - first) ≡ c.args.count = omega arith in
    let before = subst (λ n. HasRead ⊥ part_view (part_makes here logs mutators epoch) c.args.log c.args.at s t n c.loop-i.row) end (h.words logs mutators epoch ok) in
    subst (λ n. HasRead ⊥ part_view (part_makes here logs mutators epoch) c.args.log c.args.at s u n c.get_some-2.new.row) all
    (c.get_some-2.ensures.words logs mutators epoch (h.leads.ok logs mutators epoch ok) s before)

pub returns-clause-behind : goal.returns-clause-behind
returns-clause-behind g c =
    let first : ℕ = 8 * (c.args.count / 8) in
    let end : 8 * c.loop-i.i ≡ first = omega (arith, c.loop-i-test.false, c.loop-i.auto) in
    let all : first + (c.args.count - first) ≡ c.args.count = omega arith in
    let later : 8 * (8 * c.loop-i.i) ≤ 8 * (first + (c.args.count - first)) = omega (arith, end) in
    subst (λ n. drop (8 * n) c.get_some-2.new.row ≡ drop (8 * n) c.args.row.now) all
    (c.get_some-2.ensures.behind ∙ drop_further (8 * (8 * c.loop-i.i)) (8 * (first + (c.args.count - first))) c.loop-i.row c.args.row.now later c.loop-i.invariant.behind)
