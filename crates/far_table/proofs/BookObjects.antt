-- The book's events leave each object its bytes, where the far side is honest, and their number in any case.
use Rattle.std.proofs.Common.{◌≡◌, ℕ, Bool, true, false, cond, length, refl, sym, ap, ◌∙◌, subst, Option, Some, None}
use Rattle.std.specs.Prelude.{◌==◌}
use Rattle.std.proofs.lemmas.Bool.{false≢true, cond_both}
use Rattle.far_word.specs.Bytes.{packed_word}
use Rattle.far_word.specs.Pointer.{read_of}
use Rattle.far_events.specs.declared.event.Event.{Event}
use Rattle.far_events.specs.declared.event.Event.TheVariants.{ReadEpoch, Open, Pin, Load, Store, Soil, Close, Adopt, Put, Name, See, Mark, Ask, Get, Clear, Advance, Look, Offer, PeekJob, SeeJob, Claim, ReadLength, Read, Write, Finish, Collect}
use Rattle.far_events.specs.declared.event.Reply.{Reply}
use Rattle.far_events.specs.declared.event.Reply.TheVariants.{Done, Word}
use Rattle.far_events.specs.declared.naming.Naming.{Naming}
use Rattle.far_events.specs.declared.naming.Naming.TheVariants.{Places, Retires, Evicts, Stays, Moves, Fetches}
use Rattle.far_events.specs.events.Legal.{Legal}
use Rattle.far_events.specs.events.Name.{change_by}
use Rattle.far_events.specs.events.Naming.{naming_change}
use Rattle.far_events.specs.events.Quiet.{has_move}
use Rattle.far_events.specs.events.Step.{Fits, after, answer, change_of}
use Rattle.far_events.specs.state.Law.{Law}
use Rattle.far_events.specs.state.State.{State, put}
use Rattle.far_events.specs.events.Changes as change
use Rattle.far_events.specs.events.Changes.{Change}
use Rattle.far_core.specs.world.Changes.{Step, StepOf}
use Rattle.far_core.specs.world.World.{Object, World}
use Rattle.far_core.specs.world.WorldOf.{world_of}
use Rattle.far_events.proofs.Namings.{naming_only}
use Rattle.far_core.proofs.Owing.{does}
use Rattle.far_events.proofs.Put.{put_both}
use Rattle.far_hand.specs.Makers.{ByBook, ByCopier, ByOwner, maker}
use Rattle.far_table.specs.View.{ObjectView}
use Rattle.far_table.specs.Rule.{Has}

-- the object is there still, of that data structure, with as many bytes, and with those bytes, where the far side is honest
pub record StaysThere (honest : Bool) (v : World) (p : ℕ) (o : Object) : Type 0 where
  pub object : Object
  pub there : v.object p ≡ Some object
  pub long : length object.bytes ≡ length o.bytes
  pub ds : object.ds ≡ o.ds
  pub same : honest ≡ true → object.bytes ≡ o.bytes

module _ (w v : World) (p : ℕ) (o : Object) (here : w.object p ≡ Some o) where
  as_it_was : v.object p ≡ w.object p → StaysThere w.honest v p o
  as_it_was same = record { object = o; there = same ∙ here; long = refl; ds = refl; same = λ _. refl }

  -- one object becomes another, with these bytes
  changed : (q : ℕ) (n : Object) → v.object ≡ put w.object q (Some n) → (w.object q ≡ Some o → (length n.bytes ≡ length o.bytes) × (n.ds ≡ o.ds) × (w.honest ≡ true → n.bytes ≡ o.bytes)) → StaysThere w.honest v p o
  changed q n after kept = put_both (λ x. v.object p ≡ x → StaysThere w.honest v p o) w.object q (Some n) p
      (λ e there. let k = kept (ap w.object (sym e) ∙ here) in record { object = n; there = there; long = k.0; ds = k.1; same = k.2 })
      (λ ne there. as_it_was there) (ap (λ f. f p) after)

-- what the book does to the world
abbrev pub is_books : Change → Bool
is_books change.Stays = true
is_books (change.Opens m) = false
is_books (change.Closes m) = false
is_books (change.Views m p) = false
is_books (change.Reads m p i x) = false
is_books (change.Writes m p i x) = false
is_books (change.Makes p len ds g) = true
is_books (change.Marks p) = true
is_books (change.Unmarks p) = true
is_books (change.Moves p g) = true
is_books (change.GoesFar p) = true
is_books (change.ComesNear p g) = true
is_books (change.Drops m p) = false
is_books (change.Releases g) = true
is_books (change.Holds g) = true

-- two descriptions of one object
one : (x : Option Object) (o n : Object) → x ≡ Some n → x ≡ Some o → n ≡ o
one x o n a b = let e : Some n ≡ Some o = sym a ∙ b in cc

change_keeps : (c : Change) → is_books c ≡ true → (w v : World) → Step c w v → (p : ℕ) (o : Object) → w.object p ≡ Some o → StaysThere w.honest v p o
change_keeps change.Stays h w v x p o here = as_it_was w v p o here (ap (λ (z : World). z.object p) x)
change_keeps (change.Opens m) h w v x p o here = absurd (false≢true h)
change_keeps (change.Closes m) h w v x p o here = absurd (false≢true h)
change_keeps (change.Views m q) h w v x p o here = absurd (false≢true h)
change_keeps (change.Reads m q i k) h w v x p o here = absurd (false≢true h)
change_keeps (change.Writes m q i k) h w v x p o here = absurd (false≢true h)
change_keeps (change.Makes q len ds g) h w v x p o here = changed w v p o here q _ (ap (λ (z : World). z.object) x.after) (λ at. let odd : None ≡ Some o = sym x.fresh ∙ at in absurd (cc))
change_keeps (change.Marks q) h w v x p o here = as_it_was w v p o here (ap (λ (z : World). z.object p) x)
change_keeps (change.Unmarks q) h w v x p o here = as_it_was w v p o here (ap (λ (z : World). z.object p) x)
change_keeps (change.Moves q g) h w v x p o here = let m = x.moved in changed w v p o here q _ (ap (λ (z : World). z.object) m.4)
    (λ at. let e = one (w.object q) o m.0 m.2 at in (ap (λ (z : Object). length z.bytes) e, ap (λ (z : Object). z.ds) e, λ _. ap (λ (z : Object). z.bytes) e))
change_keeps (change.GoesFar q) h w v x p o here = let m = x.gone in changed w v p o here q _ (ap (λ (z : World). z.object) m.4)
    (λ at. let e = one (w.object q) o m.0 m.2 at in (ap (λ (z : Object). length z.bytes) e, ap (λ (z : Object). z.ds) e, λ _. ap (λ (z : Object). z.bytes) e))
change_keeps (change.ComesNear q g) h w v x p o here = let m = x.come in changed w v p o here q _ (ap (λ (z : World). z.object) m.7)
    (λ at. let e = one (w.object q) o m.0 m.2 at in (m.4 ∙ ap (λ (z : Object). length z.bytes) e, ap (λ (z : Object). z.ds) e, λ honest. m.6 honest ∙ ap (λ (z : Object). z.bytes) e))
change_keeps (change.Drops m q) h w v x p o here = absurd (false≢true h)
change_keeps (change.Releases g) h w v x p o here = as_it_was w v p o here (ap (λ (z : World). z.object p) x.after)
change_keeps (change.Holds g) h w v x p o here = as_it_was w v p o here (ap (λ (z : World). z.object p) x)

-- ---- an event's change
abbrev Changes : Event → Reply → Type 0
Changes e r = (c : Change) × (change_of e r ≡ Some c) × (is_books c ≡ true)

form_books : (p : ℕ) (form : Naming) → is_books (naming_change p form) ≡ true
form_books p (Places len ds place) = refl
form_books p Retires = refl
form_books p (Evicts len place) = refl
form_books p Stays = refl
form_books p (Moves len ds from to) = refl
form_books p (Fetches len ds place) = refl

owners_not : {m : ℕ} → ByOwner m ≡ ByBook → ⊥
owners_not e = cc

copiers_not : {c : ℕ} → ByCopier c ≡ ByBook → ⊥
copiers_not e = cc

books_change : (s : State) (e : Event) → maker e ≡ ByBook → Legal s e → Changes e (answer s e)
books_change s (ReadEpoch m) by legal = absurd (owners_not by)
books_change s (Open m) by legal = absurd (owners_not by)
books_change s (Pin m p) by legal = absurd (owners_not by)
books_change s (Load m p i) by legal = absurd (owners_not by)
books_change s (Store m p i w) by legal = absurd (owners_not by)
books_change s (Close m) by legal = absurd (owners_not by)
books_change s (Adopt m p) by legal = absurd (owners_not by)
books_change s (Soil m p) by legal = absurd (owners_not by)
books_change s (Ask m p k) by legal = absurd (owners_not by)
books_change s (Put l at w) by legal = (change.Stays, refl, refl)
books_change s (Name p old new) by legal = cond_both (s.cell p == old) Done (Word (s.cell p)) (λ r. Changes (Name p old new) r)
    (λ _. (naming_change p legal.1.0, ap (change_by p) (naming_only legal.1.0 (read_of old) (read_of new) legal.1.1), form_books p legal.1.0)) (λ _. (change.Stays, refl, refl))
books_change s (See p) by legal = (change.Stays, refl, refl)
books_change s (Mark p) by legal = (change.Marks p, refl, refl)
books_change s (Get l at true) by legal = (change.Releases l, refl, refl)
books_change s (Get l at false) by legal = (change.Stays, refl, refl)
books_change s (Clear p) by legal = (
  cond (has_move (read_of (s.cell p))) change.Stays (change.Unmarks p),
  refl,
  cond_both (has_move (read_of (s.cell p))) change.Stays (change.Unmarks p) (λ c. is_books c ≡ true) (λ _. refl) (λ _. refl),
)
books_change s (Advance logs) by legal = (change.Stays, refl, refl)
books_change s (Look m) by legal = (change.Stays, refl, refl)
books_change s (Offer j p to) by legal = (change.Holds to.log, refl, refl)
books_change s (PeekJob c j) by legal = absurd (copiers_not by)
books_change s (SeeJob j) by legal = (change.Stays, refl, refl)
books_change s (Claim c j old) by legal = absurd (copiers_not by)
books_change s (ReadLength c) by legal = absurd (copiers_not by)
books_change s (Read c i) by legal = absurd (copiers_not by)
books_change s (Write c i) by legal = absurd (copiers_not by)
books_change s (Finish c) by legal = absurd (copiers_not by)
books_change s (Collect j old) by legal = cond_both (s.copying.word j == old) Done (Word (s.copying.word j)) (λ r. Changes (Collect j old) r) (λ _. (change.Stays, refl, refl)) (λ _. (change.Stays, refl, refl))

honest_is : (s : State) → (world_of s).honest ≡ s.honest
unfolding world_of
honest_is s = refl

-- an object that an owner knows it knows after it
pub has_after : (s : State) (e : Event) → maker e ≡ ByBook → Law s → Fits e → Legal s e → (t : State) → after s e ≡ t → t.honest ≡ s.honest → (p : ℕ) (x : ObjectView) → Has s p x → Has t p x
has_after s e by law fits legal t is honest p x has =
    let c = books_change s e by legal in
    let done : Step c.0 (world_of s) (world_of t) = subst (λ (z : State). Step c.0 (world_of s) (world_of z)) is (subst (λ o. StepOf o (world_of s) (world_of (after s e))) c.1 (does s e law fits legal)) in
    let k = change_keeps c.0 c.2 (world_of s) (world_of t) done p has.object has.there in record {
      object = k.object;
      there = k.there;
      len = k.long ∙ has.len;
      ds = k.ds ∙ has.ds;
      words = λ it i lt. ap (λ bytes. packed_word bytes i) (k.same (honest_is s ∙ (sym honest ∙ it))) ∙ has.words (sym honest ∙ it) i lt;
    }
