use Rattle.std.proofs.Common.{◌+◌, ◌-◌, ◌*◌, ◌/◌, ◌≡◌, ℕ, arith, subst, refl}
use Rattle.far_hand.specs.Ranges.{CopiesRow, CopiesWord}
use Rattle.far_hand.proofs.Ranges.{turns_then}
use Rattle.far_table.specs.BookRows.{part_makes, part_view}
use Rattle.far_table.proofs.BookRows.{copies_lead, part_on, past_on, within_on}
use Rattle.far_table.proofs.book_rows.copy_all.Goals as goal

pub loop-i-init : goal.loop-i-init
loop-i-init g c logs mutators epoch ok = refl

-- the remainders are the numbers themselves
pub copy_some-requires : goal.copy_some-requires
copy_some-requires g c =
    let here = c.args.shared.now.table_id in
    let s = c.args.seat.now in
    let t = c.loop-i.seat in
    let part = c.requires.part in
    let done : ℕ = 8 * c.loop-i.i in
    let leads = copies_lead here s t part c.args.from c.args.to 0 done c.loop-i.invariant in
    let lt = c.loop-i-test.true in
    let few = part.3.fits.few_logs in
    let many = part.3.fits.logs_are in
    let from = c.requires.from in
    let to = c.requires.to in
    record {
      part = part_on here s t leads part;
      from = within_on (part_view s) (part_view t) leads.rest c.args.from.log (c.args.from.at + 1) c.args.count (c.args.from.at + 1 + done) 8 from (omega (arith, lt));
      to = past_on (part_view s) (part_view t) leads.rest c.args.to.log (c.args.to.at + 1) c.args.count (c.args.to.at + 1 + done) 8 to (omega arith) (omega (arith, lt));
      source = omega (arith, few, many, from.0, from.1, lt);
      target = omega (arith, few, many, to.0, to.3, lt);
    }

pub copy_some-requires-2 : goal.copy_some-requires-2
copy_some-requires-2 g c =
    let here = c.args.shared.now.table_id in
    let s = c.args.seat.now in
    let t = c.loop-i.seat in
    let part = c.requires.part in
    let first : ℕ = 8 * (c.args.count / 8) in
    let leads = copies_lead here s t part c.args.from c.args.to 0 (8 * c.loop-i.i) c.loop-i.invariant in
    let from = c.requires.from in
    let to = c.requires.to in
    record {
      part = part_on here s t leads part;
      from = within_on (part_view s) (part_view t) leads.rest c.args.from.log (c.args.from.at + 1) c.args.count (c.args.from.at + 1 + first) (c.args.count - first) from (omega arith);
      to = past_on (part_view s) (part_view t) leads.rest c.args.to.log (c.args.to.at + 1) c.args.count (c.args.to.at + 1 + first) (c.args.count - first) to (omega arith) (omega arith);
      source = omega arith;
      target = omega arith;
    }

pub loop-i-preserved : goal.loop-i-preserved
loop-i-preserved g c logs mutators epoch ok =
    let here = c.args.shared.now.table_id in
    let made = part_makes here logs mutators epoch in
    let s = c.args.seat.now in
    let t = c.loop-i.seat in
    let u = c.copy_some.new.seat in
    let done : ℕ = 8 * c.loop-i.i in
    let now = (copies_lead here s t c.requires.part c.args.from c.args.to 0 done c.loop-i.invariant).ok logs mutators epoch ok in
    let all : done + 8 ≡ 8 * (c.loop-i.i + 1) = omega arith in
    subst (λ n. CopiesRow ⊥ part_view made c.args.from c.args.to 0 n s u) all
    (turns_then (CopiesWord ⊥ part_view made c.args.from c.args.to) 0 done done 8 s t u (omega arith) (c.loop-i.invariant logs mutators epoch ok) (c.copy_some.ensures logs mutators epoch now))

pub returns : goal.returns
returns g c logs mutators epoch ok =
    let here = c.args.shared.now.table_id in
    let made = part_makes here logs mutators epoch in
    let s = c.args.seat.now in
    let t = c.loop-i.seat in
    let u = c.copy_some-2.new.seat in
    let first : ℕ = 8 * (c.args.count / 8) in
    let now = (copies_lead here s t c.requires.part c.args.from c.args.to 0 (8 * c.loop-i.i) c.loop-i.invariant).ok logs mutators epoch ok in
    let end : 8 * c.loop-i.i ≡ first = omega (arith, c.loop-i-test.false, c.loop-i.auto) in
    let all : first + (c.args.count - first) ≡ c.args.count = omega arith in
    let before = subst (λ n. CopiesRow ⊥ part_view made c.args.from c.args.to 0 n s t) end (c.loop-i.invariant logs mutators epoch ok) in
    subst (λ n. CopiesRow ⊥ part_view made c.args.from c.args.to 0 n s u) all
    (turns_then (CopiesWord ⊥ part_view made c.args.from c.args.to) 0 first first (c.args.count - first) s t u (omega arith) before (c.copy_some-2.ensures logs mutators epoch now))
