use Rattle.far_book.proofs.book.name_blank.Goals as goal
use Rattle.std.proofs.Common.{◌≡◌, ◌∙◌, ap, sym, subst, refl, ℕ, true}
use Rattle.far_events.specs.declared.event.Event.TheVariants as events
use Rattle.far_events.specs.events.Legal.{Legal}
use Rattle.far_events.specs.events.Step.{after}
use Rattle.far_events.specs.state.State.{State}
use Rattle.far_book.specs.book.Effects.{near_word, with_blank_span}
use Rattle.far_book.proofs.region.Calls.{may_name}
use Rattle.far_book.proofs.region.Founds.{free_found}
use Rattle.far_book.proofs.region.Places.{named_is}
use Rattle.far_hand.specs.Known.{Forgets}
use Rattle.far_hand.proofs.Knowing.{not_from_free}
use Rattle.far_hand.proofs.Closure.{then_call, came_only}

pub name-requires-clause-legal : goal.name-requires-clause-legal
name-requires-clause-legal g c =
    let pack : c.near_word-word.result ≡ near_word true c.args.len c.args.ds c.args.place = c.near_word-word.ensures in
    subst (λ (s : State). Legal s (events.Name c.args.pointer 0 c.near_word-word.result)) (sym c.put_blank.ensures.set)
    (subst (λ (x : ℕ). Legal (with_blank_span (g.N.Near.view c.args.near.now) c.args.pointer c.args.len c.args.ds c.args.place) (events.Name c.args.pointer 0 x)) (sym pack)
    (may_name (g.N.Near.view c.args.near.now) c.args.pointer c.args.len c.args.ds c.args.place c.requires.pointer c.requires.layout c.requires.next))

pub unreachable-requires : goal.unreachable-requires
unreachable-requires g c = c.in_default.ensures.other (free_found 0 c.in_default.field-0 c.in_default.ensures.found refl)

pub name-requires-clause-known : goal.name-requires-clause-known
name-requires-clause-known g c len place n none i lt = absurd (not_from_free _ len place n)

pub returns-clause-kept : goal.returns-clause-kept
returns-clause-kept g c =
    let p = c.args.pointer in
    let u : State = g.N.Near.view c.put_blank.new.near in
    let t : State = g.N.Near.view c.name.new.self in
    let blank : State = with_blank_span (g.N.Near.view c.args.near.now) p c.args.len c.args.ds c.args.place in
    let word = c.near_word-word.result in
    let stores : t.stored ≡ (after u (events.Name p 0 word)).stored = c.in-Ok.ensures.stored.kept (λ len place n. absurd (not_from_free _ len place n)) in
    c.in-Ok.ensures.done ∙ (λ i. record (after u (events.Name p 0 word)) { word = t.word; stored = stores i })
    ∙ ap (λ (x : State). record (after x (events.Name p 0 word)) { word = t.word }) c.put_blank.ensures.set
    ∙ ap (λ (w : ℕ). record (after blank (events.Name p 0 w)) { word = t.word }) c.near_word-word.ensures

pub returns-clause-forgot : goal.returns-clause-forgot
returns-clause-forgot g c =
    let s : State = g.N.Near.view c.args.near.now in
    let t : State = g.N.Near.view c.name.new.self in
    let blank : State = with_blank_span s c.args.pointer c.args.len c.args.ds c.args.place in
    let f : Forgets blank t = subst (λ (x : State). Forgets x t) c.put_blank.ensures.set c.in-Ok.ensures.forgot in
    subst (λ (x : State). Forgets x t) (sym (named_is blank c.args.pointer c.args.len c.args.ds c.args.place c.requires.free c.requires.layout)) (record { known = λ a known. f.known a known; headers = λ a begun. f.headers a begun })

pub returns-clause-came : goal.returns-clause-came
returns-clause-came g c = then_call _ _ (came_only _ c.put_blank.ensures.puts) c.in-Ok.ensures.made
