use Rattle.far_book.proofs.book.read_words.Goals as goal
use Rattle.std.proofs.Common.{◌∙◌, ◌+◌, ◌*◌, ◌<◌, ap, sym, subst, arith, refl, inl, inr, length-set}
use Rattle.std.proofs.lemmas.Bool.{cases_eq}
use Rattle.far_word.specs.declared.sizes.TheConstants.{LOG_WORDS}
use Rattle.far_events.specs.state.State.{State}
use Rattle.far_book.proofs.region.Readings.{read_at, read_more, still_known}
use Rattle.far_hand.proofs.Closure.{then_call}

pub get-requires : goal.get-requires
get-requires g c = record { legal = (subst (λ (s : State). c.args.log < s.logs) (sym c.loop-i.invariant.kept) c.requires.log, omega (arith, c.requires.tail), tt) }

pub loop-i-preserved : goal.loop-i-preserved
loop-i-preserved g c =
    let h = c.loop-i.invariant in
    let s = g.N.Near.view c.args.near.now in
    let t = g.N.Near.view c.loop-i.near in
    let u = g.N.Near.view c.get.new.self in
    record {
      words = read_more s c.args.log c.loop-i.i c.get.result c.loop-i.words (omega (arith, h.long, c.requires.tail, c.loop-i-test.true)) h.words
          (read_at s t h.kept h.headers c.requires.known (c.args.log * LOG_WORDS + c.loop-i.i) c.get.result c.get.ensures.known c.get.ensures.padding);
      long = length-set c.loop-i.words c.loop-i.i c.get.result ∙ h.long;
      kept = c.get.ensures.rest ∙ ap (λ (v : State). record v { word = u.word }) h.kept;
      headers = λ a begun. elim (cases_eq a (c.args.log * LOG_WORDS + c.loop-i.i)) [
        | inl e ↦ ap (λ (v : State). v.word a) (c.get.ensures.kept refl (subst (λ b. t.word b < 18446744073709551616) e (still_known s t h.kept h.headers c.requires.known a begun))) ∙ h.headers a begun
        | inr ne ↦ c.get.ensures.others refl a ne ∙ h.headers a begun
      ];
      reads = then_call _ _ h.reads ((c.loop-i.i, refl), c.get.ensures.made);
      exact = λ still. c.get.ensures.set still ∙ h.exact still;
    }
