use Rattle.std.proofs.Common.{◌≡◌, ℕ, true, Err, ap, rules, subst}
use Rattle.far_word.specs.declared.refused.Refused.{Refused as Refusal}
use Rattle.far_word.specs.declared.refused.Refused.TheVariants.{Memory}
use Rattle.far_device.specs.Liar.{is_honest}
use Rattle.far_core.specs.state.CoreState.{core_state}
use Rattle.far_device.specs.Mem.{bytes_at}
use Rattle.far_hand.specs.declared.plain.Plain.{Plain}
use Rattle.far_book.specs.book.BookOf.{BookOf}
use Rattle.far_book.specs.book.FarSide.{HoldsFar}
use Rattle.far_replay.specs.Moment.{FarSide, state_in}
use Rattle.far_alone.proofs.Bringing.{far_inside, far_refused, is_far}
use Rattle.far_replay.proofs.Giving.{fetch_brings, fetch_leaves, refused_leaves, refused_spends}
use Rattle.far_replay.proofs.dereferencing.fetch_far.Goals as goal

pub fetch-requires-clause-pointer : goal.fetch-requires-clause-pointer
fetch-requires-clause-pointer c = far_inside (state_in c.args.evac.now) c.args.owner c.args.pointer c.args.evac.now.book.near.core.law c.requires.used c.requires.far

pub fetch-requires-clause-far : goal.fetch-requires-clause-far
fetch-requires-clause-far c = is_far (state_in c.args.evac.now) c.args.owner c.args.pointer c.args.evac.now.book.near.core.law c.requires.used c.requires.far

pub returns-in-Ok-Some-clause-brought : goal.returns-in-Ok-Some-clause-brought
returns-in-Ok-Some-clause-brought c = record {
  comes = fetch_brings c.args.evac.now c.fetch.new.self c.args.owner c.args.pointer c.args.evac.now.book.near.core.law c.requires.used c.requires.far
      (subst (λ (b : BookOf Plain FarSide). HoldsFar (core_state b.near.core) (λ q. bytes_at b.device.inner.inner q)) c.book.ensures c.keeps_law.ensures.far)
      c.in-Ok-Some.field-0 c.in-Ok-Some.field-0-0 c.in-Ok-Some.field-0-is c.in-Ok-Some.ensures.fetched.place c.in-Ok-Some.ensures.fetched.near c.in-Ok-Some.ensures.fetched.called
      (subst (λ (b : BookOf Plain FarSide). (core_state b.near.core).honest ≡ true → is_honest b.device.lie true ≡ true) c.book.ensures c.keeps_law.ensures.honest) c.in-Ok-Some.ensures.fetched.order;
  refused = tt;
  shut = tt;
  round = search rules;
  spent = tt;
  same = fetch_leaves c.args.evac.now c.fetch.new.self c.args.owner c.args.pointer c.args.evac.now.book.near.core.law c.requires.used c.requires.far
      (subst (λ (b : BookOf Plain FarSide). HoldsFar (core_state b.near.core) (λ q. bytes_at b.device.inner.inner q)) c.book.ensures c.keeps_law.ensures.far)
      c.in-Ok-Some.field-0 c.in-Ok-Some.field-0-0 c.in-Ok-Some.field-0-is c.in-Ok-Some.ensures.fetched.called;
}

pub returns-in-Err-clause-brought : goal.returns-in-Err-clause-brought
returns-in-Err-clause-brought c = let never = λ (e : c.in-Err.why ≡ Memory). c.in-Err.ensures.fetched.in_place tt (ap (λ (why : Refusal). Err why) e) in record {
  comes = tt;
  refused = far_refused (state_in c.args.evac.now) c.args.owner c.args.pointer c.args.evac.now.book.near.core.law c.requires.used c.requires.far (state_in c.fetch.new.self) c.in-Err.why _ never
      c.in-Err.ensures.fetched.refused (c.in-Err.ensures.fetched.exact tt);
  shut = search rules;
  round = search rules;
  spent = refused_spends c.args.evac.now c.fetch.new.self c.args.owner c.args.pointer c.args.evac.now.book.near.core.law c.requires.used c.requires.far
      (subst (λ (b : BookOf Plain FarSide). HoldsFar (core_state b.near.core) (λ (q : ℕ). bytes_at b.device.inner.inner q)) c.book.ensures c.keeps_law.ensures.far) c.in-Err.why never c.in-Err.ensures.fetched.called;
  same = refused_leaves c.args.evac.now c.fetch.new.self c.args.owner c.args.pointer c.args.evac.now.book.near.core.law c.requires.used c.requires.far
      (subst (λ (b : BookOf Plain FarSide). HoldsFar (core_state b.near.core) (λ (q : ℕ). bytes_at b.device.inner.inner q)) c.book.ensures c.keeps_law.ensures.far) c.in-Err.why c.in-Err.ensures.fetched.called;
}
