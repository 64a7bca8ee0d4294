use Rattle.far_book.proofs.book.Book.release.Given.{Over}
use Rattle.far_book.proofs.book.Book.release.Goals.{After-copies_at}
use Rattle.far_book.proofs.book.Book.release.Goals as goal
use Rattle.std.proofs.Common.{◌≡◌, ◌<◌, ◌∙◌, ap, arith, refl, subst, sym, true, false}
use Rattle.std.proofs.lemmas.Bool.{eq-eqb, eqb-true, false≢true, true≢false}
use Rattle.far_events.specs.declared.event.Event.TheVariants.{Get}
use Rattle.far_events.specs.declared.event.Kind.TheVariants.{Sealed}
use Rattle.far_events.specs.events.Get.{IsUncopied, IsVacant}
use Rattle.far_events.specs.events.Step.{after}
use Rattle.far_core.specs.laws.Observed.{live_bytes}
use Rattle.far_events.specs.state.State.{State}
use Rattle.far_book.specs.book.BookOf.{BookOf}
use Rattle.far_book.specs.book.Own.{own_part}
use Rattle.far_book.specs.book.Releasing.{order_without, released}
use Rattle.far_hand.specs.Known.{Forgets}
use Rattle.far_book.proofs.region.JobNotes.{idle, none_copies, some_copies}
use Rattle.far_book.proofs.region.Releasing.{released_keeps, vacant_fact, vacant_test}
use Rattle.far_hand.proofs.Closure.{first_call, no_call}
use Rattle.far_book.proofs.region.Handed.{since_book}

-- ---- once it was asked for jobs
module _ (g : Over) (c : After-copies_at g) where
  same : g.N.Near.view c.self.inside.near ≡ g.N.Near.view c.args.self.now.near
  same = ap (λ (b : BookOf g.row.N.Denot g.row.D.Denot). g.N.Near.view b.near) c.self.view_is

  low : c.args.log < (g.N.Near.view c.self.inside.near).logs
  low = subst (λ (u : State). c.args.log < u.logs) (sym same) c.requires.log

  shut : (g.N.Near.view c.self.inside.near).kind c.args.log ≡ Sealed
  shut = ap (λ (u : State). u.kind c.args.log) same ∙ c.requires.sealed

  vacant : IsVacant (g.N.Near.view c.self.inside.near) c.args.log
  vacant =
      let o = own_part (g.N.Near.view c.self.inside.near) in
      vacant_fact o c.self.invariant.0.notes.law c.args.log (eqb-true _ _ (sym (c.is_vacant.ensures o (c.self.invariant.0.notes, low)) ∙ c.if-not-is_vacant.false))

uncopied : (g : Over) (c : After-copies_at g) → c.copies_at.result ≡ false → IsUncopied (g.N.Near.view c.self.inside.near).copying c.args.log
uncopied g c none = none_copies (g.N.Near.view c.self.inside.near) c.self.inside.ledger c.self.invariant.0.notes c.args.log (c.copies_at.ensures.none none)

pub is_vacant-requires : goal.is_vacant-requires
is_vacant-requires g c =
    let low = subst (λ (b : BookOf g.row.N.Denot g.row.D.Denot). c.args.log < (g.N.Near.view b.near).logs) (sym c.self.view_is) c.requires.log in
    record { known = (own_part (g.N.Near.view c.self.inside.near), (c.self.invariant.0.notes, low)) }

pub copies_at-requires : goal.copies_at-requires
copies_at-requires g c =
    let s = g.N.Near.view c.self.inside.near in
    let notes = c.self.invariant.0.notes.jobs in
    record { sized = notes.sized; waiting = idle s.round_epoch s.round _ c.self.inside.ledger.jobs notes }

pub get-requires : goal.get-requires
get-requires g c =
    let h = (goal.at.get-requires g c).After-copies_at in
    record { legal = (low g h, omega arith, (shut g h, vacant g h, uncopied g h c.if-copies_at.false)) }

pub give_back-requires : goal.give_back-requires
give_back-requires g c =
    let h = (goal.at.give_back-requires g c).After-copies_at in
    record { few = omega (arith, low g h, c.self.invariant.0.notes.law.shape.few_logs); log = omega (arith, low g h, c.self.invariant.0.notes.logs) }

pub invariant_of-self : goal.invariant_of-self
invariant_of-self g c =
    let h = (goal.at.invariant_of-self g c).After-copies_at in (
      released_keeps (g.N.Near.view c.self.inside.near) c.self.invariant.0.notes.law c.args.log (shut g h) (vacant g h) (uncopied g h c.if-copies_at.false) (g.N.Near.view c.get.new.self)
          c.self.inside.ledger c.give_back.new.self (g.D.Device.contents c.self.inside.device) (g.D.Device.honest c.self.inside.device) c.self.invariant.0 c.give_back.ensures c.get.ensures.rest (c.get.ensures.forgot refl),
      c.self.invariant.1,
    )

pub returns-then-not-is_vacant-clause-vacant : goal.returns-then-not-is_vacant-clause-vacant
returns-then-not-is_vacant-clause-vacant g c =
    let s = g.N.Near.view c.self.inside.near in
    let same = ap (λ (b : BookOf g.row.N.Denot g.row.D.Denot). g.N.Near.view b.near) c.self.view_is in
    let low : c.args.log < s.logs = subst (λ (u : State). c.args.log < u.logs) (sym same) c.requires.log in (
      λ h. absurd (false≢true h),
      λ free. absurd (false≢true (sym c.if-not-is_vacant.true ∙ c.is_vacant.ensures (own_part s) (c.self.invariant.0.notes, low)
          ∙ eq-eqb (live_bytes (own_part s) c.args.log) 0 (vacant_test (own_part s) c.self.invariant.0.notes.law c.args.log (subst (λ (u : State). IsVacant u c.args.log) (sym same) free.0)))),
    )

pub returns-then-not-is_vacant-clause-kept : goal.returns-then-not-is_vacant-clause-kept
returns-then-not-is_vacant-clause-kept g c odd = absurd (false≢true odd)

pub returns-then-not-is_vacant-clause-forgot : goal.returns-then-not-is_vacant-clause-forgot
returns-then-not-is_vacant-clause-forgot g c odd = absurd (false≢true odd)

pub returns-then-not-is_vacant-clause-exact : goal.returns-then-not-is_vacant-clause-exact
returns-then-not-is_vacant-clause-exact g c still odd = absurd (false≢true odd)

pub returns-then-not-is_vacant-clause-ran : goal.returns-then-not-is_vacant-clause-ran
returns-then-not-is_vacant-clause-ran g c still odd = absurd (false≢true odd)

pub returns-then-not-is_vacant-clause-order : goal.returns-then-not-is_vacant-clause-order
returns-then-not-is_vacant-clause-order g c odd = absurd (false≢true odd)

pub returns-then-not-is_vacant-clause-gives : goal.returns-then-not-is_vacant-clause-gives
returns-then-not-is_vacant-clause-gives g c = no_call refl

pub returns-then-not-is_vacant-clause-came : goal.returns-then-not-is_vacant-clause-came
returns-then-not-is_vacant-clause-came g c = no_call refl

pub returns-then-not-is_vacant-clause-device : goal.returns-then-not-is_vacant-clause-device
returns-then-not-is_vacant-clause-device g c = refl

pub returns-then-not-is_vacant-clause-unchanged : goal.returns-then-not-is_vacant-clause-unchanged
returns-then-not-is_vacant-clause-unchanged g c _ = refl

pub returns-then-copies_at-clause-vacant : goal.returns-then-copies_at-clause-vacant
returns-then-copies_at-clause-vacant g c =
    let h = (goal.at.returns-then-copies_at-clause-vacant g c).After-copies_at in
    let x = c.copies_at.ensures.some c.if-copies_at.true in (
      λ e. absurd (false≢true e),
      λ free. absurd (some_copies (g.N.Near.view c.self.inside.near) c.self.inside.ledger c.self.invariant.0.notes c.args.log x.0 x.2 (subst (λ (u : State). IsUncopied u.copying c.args.log) (sym (same g h)) free.1)),
    )

pub returns-then-copies_at-clause-kept : goal.returns-then-copies_at-clause-kept
returns-then-copies_at-clause-kept g c odd = absurd (false≢true odd)

pub returns-then-copies_at-clause-forgot : goal.returns-then-copies_at-clause-forgot
returns-then-copies_at-clause-forgot g c odd = absurd (false≢true odd)

pub returns-then-copies_at-clause-exact : goal.returns-then-copies_at-clause-exact
returns-then-copies_at-clause-exact g c still odd = absurd (false≢true odd)

pub returns-then-copies_at-clause-ran : goal.returns-then-copies_at-clause-ran
returns-then-copies_at-clause-ran g c still odd = absurd (false≢true odd)

pub returns-then-copies_at-clause-order : goal.returns-then-copies_at-clause-order
returns-then-copies_at-clause-order g c odd = absurd (false≢true odd)

pub returns-then-copies_at-clause-gives : goal.returns-then-copies_at-clause-gives
returns-then-copies_at-clause-gives g c = no_call refl

pub returns-then-copies_at-clause-came : goal.returns-then-copies_at-clause-came
returns-then-copies_at-clause-came g c = no_call refl

pub returns-then-copies_at-clause-device : goal.returns-then-copies_at-clause-device
returns-then-copies_at-clause-device g c = refl

pub returns-then-copies_at-clause-unchanged : goal.returns-then-copies_at-clause-unchanged
returns-then-copies_at-clause-unchanged g c _ = refl

pub returns-clause-vacant : goal.returns-clause-vacant
returns-clause-vacant g c =
    let h = (goal.at.returns-clause-vacant g c).After-copies_at in
    (λ _. subst (λ (u : State). IsVacant u c.args.log × IsUncopied u.copying c.args.log) (same g h) (vacant g h, uncopied g h c.if-copies_at.false), λ _. refl)

pub returns-clause-ran : goal.returns-clause-ran
returns-clause-ran g c still =
    let h = (goal.at.returns-clause-ran g c).After-copies_at in
    let free = subst (λ (u : State). IsVacant u c.args.log × IsUncopied u.copying c.args.log) (same g h) (vacant g h, uncopied g h c.if-copies_at.false) in
    λ _. record {
      rounds = refl;
      legal = (c.requires.log, omega arith, (c.requires.sealed, free.0, free.1));
      after = c.get.ensures.set still ∙ ap (λ (u : State). after u (Get c.args.log 0 true)) (same g h);
    }

pub returns-clause-gives : goal.returns-clause-gives
returns-clause-gives g c = since_book c.self.view_is (first_call _ _ (refl, c.get.ensures.made))

pub returns-clause-came : goal.returns-clause-came
returns-clause-came g c = since_book c.self.view_is (first_call _ _ c.get.ensures.made)

pub returns-clause-kept : goal.returns-clause-kept
returns-clause-kept g c _ = c.get.ensures.rest ∙ ap (λ (u : State). record (released u c.args.log) { word = (g.N.Near.view c.get.new.self).word }) (same g (goal.at.returns-clause-kept g c).After-copies_at)

pub returns-clause-forgot : goal.returns-clause-forgot
returns-clause-forgot g c _ = subst (λ (u : State). Forgets u (g.N.Near.view c.get.new.self)) (same g (goal.at.returns-clause-forgot g c).After-copies_at) (c.get.ensures.forgot refl)

pub returns-clause-exact : goal.returns-clause-exact
returns-clause-exact g c still _ = c.get.ensures.set still ∙ ap (λ (u : State). released u c.args.log) (same g (goal.at.returns-clause-exact g c).After-copies_at)

pub returns-clause-order : goal.returns-clause-order
returns-clause-order g c _ = c.give_back.ensures.order ∙ ap (λ (b : BookOf g.row.N.Denot g.row.D.Denot). order_without c.args.log b.order) c.self.view_is

pub returns-clause-device : goal.returns-clause-device
returns-clause-device g c = ap (λ (b : BookOf g.row.N.Denot g.row.D.Denot). b.device) c.self.view_is

pub returns-clause-unchanged : goal.returns-clause-unchanged
returns-clause-unchanged g c odd = absurd (true≢false odd)
