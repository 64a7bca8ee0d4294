use Rattle.std.proofs.Common.{◌+◌, ◌-◌, ◌*◌, ◌/◌, ◌≡◌, ℕ, arith, subst, refl}
use Rattle.far_hand.specs.Ranges.{WritesRow, WritesWord}
use Rattle.far_hand.proofs.Ranges.{turns_then}
use Rattle.far_table.specs.BookRows.{part_makes, part_view}
use Rattle.far_table.proofs.BookRows.{part_on, past_on, writes_lead}
use Rattle.far_table.proofs.book_rows.zero_all.Goals as goal

pub loop-i-init : goal.loop-i-init
loop-i-init g c logs mutators epoch ok = refl

-- the remainder is the number itself
pub zero_some-requires : goal.zero_some-requires
zero_some-requires g c =
    let here = c.args.shared.now.table_id in
    let s = c.args.seat.now in
    let t = c.loop-i.seat in
    let part = c.requires.part in
    let leads = writes_lead here s t part c.args.log c.args.at (λ _. 0) 0 (8 * c.loop-i.i) c.loop-i.invariant in
    let lt = c.loop-i-test.true in
    let few = part.3.fits.few_logs in
    let many = part.3.fits.logs_are in
    let past = c.requires.past in
    record {
      part = part_on here s t leads part;
      past = past_on (part_view s) (part_view t) leads.rest c.args.log c.args.at c.args.count (c.args.at + 8 * c.loop-i.i) 8 past (omega arith) (omega (arith, lt));
      start = omega (arith, few, many, past.0, past.3, lt);
    }

pub zero_some-requires-2 : goal.zero_some-requires-2
zero_some-requires-2 g c =
    let here = c.args.shared.now.table_id in
    let s = c.args.seat.now in
    let t = c.loop-i.seat in
    let leads = writes_lead here s t c.requires.part c.args.log c.args.at (λ _. 0) 0 (8 * c.loop-i.i) c.loop-i.invariant in
    let first : ℕ = 8 * (c.args.count / 8) in
    record {
      part = part_on here s t leads c.requires.part;
      past = past_on (part_view s) (part_view t) leads.rest c.args.log c.args.at c.args.count (c.args.at + first) (c.args.count - first) c.requires.past (omega arith) (omega arith);
      start = omega arith;
    }

pub loop-i-preserved : goal.loop-i-preserved
loop-i-preserved g c logs mutators epoch ok =
    let here = c.args.shared.now.table_id in
    let made = part_makes here logs mutators epoch in
    let row : ℕ → ℕ = λ _. 0 in
    let s = c.args.seat.now in
    let t = c.loop-i.seat in
    let u = c.zero_some.new.seat in
    let done : ℕ = 8 * c.loop-i.i in
    let now = (writes_lead here s t c.requires.part c.args.log c.args.at row 0 done c.loop-i.invariant).ok logs mutators epoch ok in
    let all : done + 8 ≡ 8 * (c.loop-i.i + 1) = omega arith in
    subst (λ n. WritesRow ⊥ part_view made c.args.log c.args.at row 0 n s u) all
    (turns_then (λ j. WritesWord ⊥ part_view made c.args.log (c.args.at + j) (row j)) 0 done done 8 s t u (omega arith) (c.loop-i.invariant logs mutators epoch ok) (c.zero_some.ensures logs mutators epoch now))

pub returns : goal.returns
returns g c logs mutators epoch ok =
    let here = c.args.shared.now.table_id in
    let made = part_makes here logs mutators epoch in
    let row : ℕ → ℕ = λ _. 0 in
    let s = c.args.seat.now in
    let t = c.loop-i.seat in
    let u = c.zero_some-2.new.seat in
    let first : ℕ = 8 * (c.args.count / 8) in
    let now = (writes_lead here s t c.requires.part c.args.log c.args.at row 0 (8 * c.loop-i.i) c.loop-i.invariant).ok logs mutators epoch ok in
    let end : 8 * c.loop-i.i ≡ first = omega (arith, c.loop-i-test.false, c.loop-i.auto) in
    let all : first + (c.args.count - first) ≡ c.args.count = omega arith in
    let before = subst (λ n. WritesRow ⊥ part_view made c.args.log c.args.at row 0 n s t) end (c.loop-i.invariant logs mutators epoch ok) in
    subst (λ n. WritesRow ⊥ part_view made c.args.log c.args.at row 0 n s u) all
    (turns_then (λ j. WritesWord ⊥ part_view made c.args.log (c.args.at + j) (row j)) 0 first first (c.args.count - first) s t u (omega arith) before (c.zero_some-2.ensures logs mutators epoch now))
