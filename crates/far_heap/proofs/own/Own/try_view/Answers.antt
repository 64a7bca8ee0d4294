use Rattle.std.proofs.Common.{◌≡◌, ℕ, true, false, Result, refl, ap, subst, sym, ◌∙◌, arith}
use Rattle.std.proofs.lemmas.Bool.{false≢true}
use Rattle.far_word.specs.declared.pointer.Place.{Place}
use Rattle.far_word.specs.Pointer.{read_of}
use Rattle.far_events.specs.declared.event.Event.TheVariants.{Pin}
use Rattle.far_table.specs.Seats.{Seated, pin_reply}
use Rattle.far_table.specs.Tells.{OwnerMade}
use Rattle.far_table.specs.Views.{held_at}
use Rattle.far_heap.specs.declared.view.View.{View}
use Rattle.far_heap.specs.Mine.{IsSlow, Mine, OwnOk, ds_in, len_in, mine_of, uses, viewing, views}
use Rattle.far_heap.proofs.Mines.{again_mine, ds_own, len_own, none_there, pinned_mine, uses_so, views_own, views_so}
use Rattle.far_heap.proofs.OwnSteps.{pinned_ok, pinned_structures, seated_is, structures_stay, used_below, viewed_used, warmed_ok}
use Rattle.far_heap.proofs.Slow.{slow_found}
use Rattle.far_heap.proofs.own.Own.try_view.Goals as goal

pub pin-requires-clause-used : goal.pin-requires-clause-used
pin-requires-clause-used g c = (uses_so c.self.inside.seat c.args.p (subst (λ (m : Mine). uses m c.args.p ≡ true) (sym c.self.view_is) c.in-Some-used_len.ensures.used.0)).1

pub pin-requires-clause-free : goal.pin-requires-clause-free
pin-requires-clause-free g c =
    let s = c.self.inside.seat in
    let p : ℕ = c.args.p in
    let own = (uses_so s p (subst (λ (m : Mine). uses m p ≡ true) (sym c.self.view_is) c.in-Some-used_len.ensures.used.0)).0 in
    none_there (held_at s.view p) (sym (views_own s p own) ∙ subst (λ (m : Mine). views m p ≡ false) (sym c.self.view_is) (c.viewed_len.ensures.other c.in_default.is))

pub returns-in-Some-clause-tried : goal.returns-in-Some-clause-tried
returns-in-Some-clause-tried g c =
    let s = c.self.inside in
    let p : ℕ = c.args.p in
    let viewed = c.in-Some.ensures.viewed in
    let here = subst (λ (m : Mine). views m p ≡ true) (sym c.self.view_is) viewed.0 in
    let so = views_so s.seat p here in
    let used = viewed_used s.seat _ s.number s.rows c.self.invariant.0 p here in
    let of : ℕ → View = λ n. record { pointer = p; len = n } in
    (subst (λ (m : Mine). uses m p ≡ true) c.self.view_is used, (ap of viewed.1, subst (λ (m : Mine). m ≡ viewing p m) c.self.view_is (again_mine s.seat p so.0 so.1)))

pub note_viewed-requires : goal.note_viewed-requires
note_viewed-requires g c =
    let s = c.self.inside in
    let used = subst (λ (m : Mine). uses m c.args.p ≡ true) (sym c.self.view_is) c.in-Some-used_len.ensures.used.0 in
    omega (arith, used_below s.seat _ s.number s.rows c.self.invariant.0 c.args.p used, c.self.invariant.0.rows_ok.many)

pub invariant_of-self : goal.invariant_of-self
invariant_of-self g c =
    let s = c.self.inside in
    let p : ℕ = c.args.p in
    let so = uses_so s.seat p (subst (λ (m : Mine). uses m p ≡ true) (sym c.self.view_is) c.in-Some-used_len.ensures.used.0) in (
      subst (λ (t : Seated). OwnOk t _ s.number c.note_viewed.new.self) (sym (seated_is c.pin.new.self s.seat.table _ c.pin.ensures.table c.in-Ok.ensures.held.2))
          (pinned_ok s.seat _ s.number s.rows c.self.invariant.0 p c.in-Ok.ensures.held.0 c.in-Ok.field-0 c.note_viewed.new.self (so.0 ∙ c.self.invariant.0.number_is) so.1
          (ap (λ (m : Mine). m.opened) c.self.view_is ∙ c.requires) c.note_viewed.ensures),
      pinned_structures s.seat _ s.number s.rows c.self.invariant.0 p c.in-Ok.ensures.held.0 c.in-Ok.field-0 c.note_viewed.new.self c.pin.new.self.view c.self.invariant.1 c.note_viewed.ensures c.in-Ok.ensures.held.2,
    )

pub invariant_of-self-in-Err : goal.invariant_of-self-in-Err
invariant_of-self-in-Err g c =
    let s = c.self.inside in (
      subst (λ (t : Seated). OwnOk t _ s.number s.rows) (sym (seated_is c.pin.new.self s.seat.table _ c.pin.ensures.table c.in-Err.ensures.kept.0))
          (warmed_ok s.seat _ s.number s.rows c.self.invariant.0 c.args.p c.in-Err.word),
      structures_stay s.number s.rows s.seat.view c.pin.new.self.view _ c.self.invariant.1 c.in-Err.ensures.kept.0 (λ q. refl),
    )

pub returns-in-Ok-clause-tried : goal.returns-in-Ok-clause-tried
returns-in-Ok-clause-tried g c =
    let s = c.self.inside in
    let p : ℕ = c.args.p in
    let used = c.in-Some-used_len.ensures.used in
    let own = (uses_so s.seat p (subst (λ (m : Mine). uses m p ≡ true) (sym c.self.view_is) used.0)).0 in
    let of : ℕ → View = λ n. record { pointer = p; len = n } in (
      used.0,
      (ap of used.1, ap mine_of (seated_is c.pin.new.self s.seat.table _ c.pin.ensures.table c.in-Ok.ensures.held.2) ∙ pinned_mine s.seat p own c.in-Ok.ensures.held.0 c.in-Ok.field-0 ∙ ap (viewing p) c.self.view_is),
    )

pub returns-in-Err-clause-tried : goal.returns-in-Err-clause-tried
returns-in-Err-clause-tried g c =
    let s = c.self.inside in
    let p : ℕ = c.args.p in
    let used = c.in-Some-used_len.ensures.used in
    let so = uses_so s.seat p (subst (λ (m : Mine). uses m p ≡ true) (sym c.self.view_is) used.0) in
    let kept = c.in-Err.ensures.kept in
    let made = subst (λ (r : Result Place ℕ). OwnerMade (Pin s.seat.view.number p) s.seat.view (pin_reply r) c.pin.new.self.view) c.in-Err.is c.pin.ensures.event in
    let slow = slow_found s.seat.view c.pin.new.self.view p c.in-Err.word made so.0 so.1 kept.1 in (
      used.0,
      (
        c.viewed_len.ensures.other c.in_default.is,
        ap mine_of (seated_is c.pin.new.self s.seat.table _ c.pin.ensures.table kept.0) ∙ c.self.view_is,
        subst (λ (m : Mine). IsSlow (len_in m p) (ds_in m p) (read_of c.in-Err.word)) c.self.view_is
            (subst (λ (z : ℕ × ℕ). IsSlow z.0 z.1 (read_of c.in-Err.word)) (λ i. (sym (len_own s.seat p so.0) i, sym (ds_own s.seat p so.0) i)) slow),
      ),
    )

pub returns-in_default-used_len-clause-again : goal.returns-in_default-used_len-clause-again
returns-in_default-used_len-clause-again g c = λ h. absurd (false≢true (sym (c.viewed_len.ensures.other c.in_default.is) ∙ h))

pub returns-in-Ok-clause-again : goal.returns-in-Ok-clause-again
returns-in-Ok-clause-again g c = λ h. absurd (false≢true (sym (c.viewed_len.ensures.other c.in_default.is) ∙ h))

pub returns-in-Err-clause-again : goal.returns-in-Err-clause-again
returns-in-Err-clause-again g c = λ h. absurd (false≢true (sym (c.viewed_len.ensures.other c.in_default.is) ∙ h))

pub returns-in-Some-clause-pinned : goal.returns-in-Some-clause-pinned
returns-in-Some-clause-pinned g c = λ h. absurd (false≢true (sym h ∙ c.in-Some.ensures.viewed.0))
