use Rattle.far_book.proofs.book.Book.settle.Given.{Over}
use Rattle.far_book.proofs.book.Book.settle.Goals.{After-has_evac}
use Rattle.far_book.proofs.book.Book.settle.Goals as goal
use Rattle.std.proofs.Common.{◌≡◌, ◌∙◌, ◌*◌, ◌<◌, ℕ, Bool, true, false, cond, ap, refl, sym, subst, Option, Some, None, List}
use Rattle.std.specs.Prelude.{Result, Ok, Err, IfErr, IfNone, IfOk, MatchOption, is_some}
use Rattle.std.proofs.lemmas.Bool.{false≢true}
use Rattle.far_word.specs.declared.pointer.Place.{Place}
use Rattle.far_word.specs.declared.pointer.PtrWord.{PtrWord}
use Rattle.far_word.specs.declared.pointer.PtrWord.TheVariants.{Free, Near, Far}
use Rattle.far_word.specs.declared.refused.Refused.{Refused}
use Rattle.far_word.specs.declared.sizes.TheConstants.{CELLS}
use Rattle.far_word.specs.Pointer.{read_of}
use Rattle.far_events.specs.events.Naming.{is_dropped}
use Rattle.far_events.specs.state.State.{State}
use Rattle.far_book.specs.book.Dealing as dealing
use Rattle.far_book.specs.book.Dealing.{FindsDrop, IsSeen, MovedBy, has_evac, moved_now, order_moved}
use Rattle.far_book.specs.book.BookOf.{BookOf}
use Rattle.far_book.specs.book.Effects.{moved, order_after, stayed}
use Rattle.far_book.specs.book.Renaming.{seen}
use Rattle.far_hand.specs.Finds.{Finds, body_of}
use Rattle.far_hand.proofs.Finding.{some_found}
use Rattle.far_book.proofs.region.Founds.{drop_found}
use Rattle.far_hand.specs.Quiet.{IsQuietNear}
use Rattle.far_hand.proofs.RoundSteps.{quiet_seen}
use Rattle.far_book.proofs.region.Settled.{both_of, drop_by, drop_here, goal_seen, moved_by_found, none_of, some_of}
use Rattle.far_hand.proofs.Closure.{then_came}

-- ---- what follows of an answer, by what it may be
err_of : (r : Result (Option Place) Refused) (A B : Type 0) → (A → B) → IfErr r (λ _. A) → IfErr r (λ _. B)
err_of (Ok o) A B f a = tt
err_of (Err why) A B f a = f a

none_in : (o : Option Place) (A B : Type 0) → (A → B) → IfNone o A → IfNone o B
none_in None A B f a = f a
none_in (Some place) A B f a = tt

never_none : (r : Result (Option Place) Refused) (A : Type 0) (B : Place → Type 0) → IfOk r (λ o. MatchOption o ⊥ B) → IfOk r (λ o. IfNone o A)
never_none (Ok None) A B h = absurd h
never_none (Ok (Some place)) A B h = tt
never_none (Err why) A B h = tt

none_never : (o : Option Place) (A : Type 0) (B : Place → Type 0) → MatchOption o ⊥ B → IfNone o A
none_never None A B h = absurd h
none_never (Some place) A B h = tt

-- ---- the word that was found says of EVAC and DROP what the cell was known to say
evac_body : (o : Option PtrWord) → has_evac (body_of o) ≡ has_evac o
evac_body None = refl
evac_body (Some Free) = refl
evac_body (Some (Near len ds place m)) = refl
evac_body (Some (Far len ds m)) = refl

module _ (s t : State) (p w : ℕ) (f : Finds (s.cell p) w) (is : t ≡ seen s p w) where
  evac_known : (b : Bool) → has_evac (read_of w) ≡ b → has_evac (read_of (s.cell p)) ≡ b
  evac_known b e = sym (evac_body (read_of (s.cell p))) ∙ ap has_evac (sym f.body) ∙ evac_body (read_of w) ∙ e

  seen_alive : is_dropped (read_of w) ≡ false → IsSeen s t p
  seen_alive alive =
      let word = ap (λ (x : State). x.word) is in
      record {
        word = w;
        found = f;
        alive = alive;
        leads = is ∙ ap (λ v. record (seen s p w) { word = v }) (sym word);
        keeps = record { known = λ a _ _. ap (λ (v : ℕ → ℕ). v a) word; headers = λ a _. ap (λ (v : ℕ → ℕ). v a) word };
      }

  -- the order after a move, and where the object stayed
  order_carried : has_evac (read_of w) ≡ true → (after mid old : List ℕ) → mid ≡ old → (r : Result (Option Place) Refused) →
      IfOk r (λ o. MatchOption o (after ≡ mid) (λ place. after ≡ order_after t mid place)) → IfOk r (λ o. MatchOption o (after ≡ old) (λ place. after ≡ order_moved s p old place))
  order_carried wanted after mid old same (Ok None) h = h ∙ same
  order_carried wanted after mid old same (Ok (Some place)) h =
      h ∙ ap (λ (x : State). order_after x mid place) is ∙ ap (λ o. order_after s o place) same ∙ ap (λ b. cond b (order_after s old place) old) (sym (evac_known true wanted))
  order_carried wanted after mid old same (Err why) h = tt

  order_stays : has_evac (read_of w) ≡ false → (after old : List ℕ) → after ≡ old → (o : Option Place) → MatchOption o (after ≡ old) (λ place. after ≡ order_moved s p old place)
  order_stays unwanted after old same None = same
  order_stays unwanted after old same (Some place) = same ∙ ap (λ b. cond b (order_after s old place) old) (sym (evac_known false unwanted))

  -- the same of the state, where no other word was found
  now_carried : has_evac (read_of w) ≡ true → t ≡ s → (u : State) (r : Result (Option Place) Refused) → IfOk r (λ o. MatchOption o ⊥ (λ place. u ≡ moved t p place)) →
      IfOk r (λ o. MatchOption o (u ≡ s) (λ place. u ≡ moved_now s p place))
  now_carried wanted set u (Ok None) h = absurd h
  now_carried wanted set u (Ok (Some place)) h = h ∙ ap (λ (x : State). moved x p place) set ∙ ap (λ b. cond b (moved s p place) (stayed s p)) (sym (evac_known true wanted))
  now_carried wanted set u (Err why) h = tt

  now_stays : has_evac (read_of w) ≡ false → t ≡ s → (u : State) (o : Option Place) → MatchOption o ⊥ (λ _. u ≡ stayed t p) → MatchOption o (u ≡ s) (λ place. u ≡ moved_now s p place)
  now_stays unwanted set u None h = absurd h
  now_stays unwanted set u (Some place) h = h ∙ ap (λ (x : State). stayed x p) set ∙ ap (λ b. cond b (moved s p place) (stayed s p)) (sym (evac_known false unwanted))

-- ---- its owner has dropped it
pub cell_of-found-requires-clause-pointer : goal.cell_of-found-requires-clause-pointer
cell_of-found-requires-clause-pointer g c = c.requires.pointer

pub cell_of-found-requires-clause-known : goal.cell_of-found-requires-clause-known
cell_of-found-requires-clause-known g c = c.requires.known

pub is_dropped-requires : goal.is_dropped-requires
is_dropped-requires g c = some_found ((g.N.Near.view c.args.self.now.near).cell c.args.pointer) c.cell_of-found.result c.cell_of-found.ensures.found (ap is_some c.requires.quiet.near)

pub returns-then-is_dropped-clause-order : goal.returns-then-is_dropped-clause-order
returns-then-is_dropped-clause-order g c = c.cell_of-found.ensures.order

pub returns-then-is_dropped-clause-device : goal.returns-then-is_dropped-clause-device
returns-then-is_dropped-clause-device g c = c.cell_of-found.ensures.device

pub returns-then-is_dropped-clause-asked : goal.returns-then-is_dropped-clause-asked
returns-then-is_dropped-clause-asked g c _ = refl

pub returns-then-is_dropped-clause-found : goal.returns-then-is_dropped-clause-found
returns-then-is_dropped-clause-found g c =
    let found = c.cell_of-found.ensures in
    drop_here (g.N.Near.view c.args.self.now.near) (g.N.Near.view c.cell_of-found.new.self.near) c.args.pointer c.cell_of-found.result found.found found.kept c.is_dropped.ensures.fits
    (sym c.is_dropped.ensures.value ∙ c.if-is_dropped.true)

pub returns-then-is_dropped-clause-exact : goal.returns-then-is_dropped-clause-exact
returns-then-is_dropped-clause-exact g c = c.cell_of-found.ensures.set

pub returns-then-is_dropped-clause-dropped : goal.returns-then-is_dropped-clause-dropped
returns-then-is_dropped-clause-dropped g c still = ap (λ w. is_dropped (read_of w)) (sym (c.cell_of-found.ensures.exact still)) ∙ sym c.is_dropped.ensures.value ∙ c.if-is_dropped.true

pub returns-then-is_dropped-clause-came : goal.returns-then-is_dropped-clause-came
returns-then-is_dropped-clause-came g c = c.cell_of-found.ensures.came

-- ---- it is asked for, or not
pub has_evac-requires : goal.has_evac-requires
has_evac-requires g c = some_found ((g.N.Near.view c.args.self.now.near).cell c.args.pointer) c.cell_of-found.result c.cell_of-found.ensures.found (ap is_some c.requires.quiet.near)

module _ (g : Over) (c : After-has_evac g) where
  alive : is_dropped (read_of c.cell_of-found.result) ≡ false
  alive = sym c.is_dropped.ensures.value ∙ c.if-is_dropped.false

  not_asked : is_dropped (read_of ((g.N.Near.view c.args.self.now.near).cell c.args.pointer)) ≡ true → ⊥
  not_asked e = false≢true (sym alive
      ∙ drop_found ((g.N.Near.view c.args.self.now.near).cell c.args.pointer) c.cell_of-found.result c.cell_of-found.ensures.found e)

  pointer : c.args.pointer < CELLS * (g.N.Near.view c.cell_of-found.new.self.near).mutators
  pointer = subst (λ (x : State). c.args.pointer < CELLS * x.mutators) (sym c.cell_of-found.ensures.kept) c.requires.pointer

pub carry-requires-clause-pointer : goal.carry-requires-clause-pointer
carry-requires-clause-pointer g c = pointer g (goal.at.carry-requires-clause-pointer g c).After-has_evac

pub carry-requires-clause-found : goal.carry-requires-clause-found
carry-requires-clause-found g c = c.cell_of-found.ensures.now

pub carry-requires-clause-wanted : goal.carry-requires-clause-wanted
carry-requires-clause-wanted g c = sym c.has_evac.ensures ∙ c.if-has_evac.true

pub carry-requires-clause-alive : goal.carry-requires-clause-alive
carry-requires-clause-alive g c = alive g (goal.at.carry-requires-clause-alive g c).After-has_evac

pub stay-requires-clause-pointer : goal.stay-requires-clause-pointer
stay-requires-clause-pointer g c = pointer g (goal.at.stay-requires-clause-pointer g c).After-has_evac

pub stay-requires-clause-found : goal.stay-requires-clause-found
stay-requires-clause-found g c = c.cell_of-found.ensures.now

pub stay-requires-clause-quiet : goal.stay-requires-clause-quiet
stay-requires-clause-quiet g c = subst (λ (x : State). IsQuietNear x c.args.pointer) (sym c.cell_of-found.ensures.kept)
    (quiet_seen (g.N.Near.view c.args.self.now.near) c.args.pointer c.cell_of-found.result c.cell_of-found.ensures.found c.requires.quiet)

pub stay-requires-clause-unwanted : goal.stay-requires-clause-unwanted
stay-requires-clause-unwanted g c = sym c.has_evac.ensures ∙ c.if-has_evac.false

pub stay-requires-clause-alive : goal.stay-requires-clause-alive
stay-requires-clause-alive g c = alive g (goal.at.stay-requires-clause-alive g c).After-has_evac

pub carry-requires-clause-quiet : goal.carry-requires-clause-quiet
carry-requires-clause-quiet g c = subst (λ (x : State). IsQuietNear x c.args.pointer) (sym c.cell_of-found.ensures.kept)
    (quiet_seen (g.N.Near.view c.args.self.now.near) c.args.pointer c.cell_of-found.result c.cell_of-found.ensures.found c.requires.quiet)

pub returns-then-has_evac-clause-place : goal.returns-then-has_evac-clause-place
returns-then-has_evac-clause-place g c =
    let s = g.N.Near.view c.args.self.now.near in
    let same = ap (λ (x : State). dealing.goal x c.args.pointer) c.cell_of-found.ensures.kept ∙ goal_seen s c.args.pointer c.cell_of-found.result c.cell_of-found.ensures.found in
    both_of c.carry.result (λ place. dealing.goal (g.N.Near.view c.cell_of-found.new.self.near) c.args.pointer ≡ Some place) (λ place. dealing.goal (g.N.Near.view c.cell_of-found.new.self.near) c.args.pointer ≡ Some place) _
    (λ place a b. sym same ∙ a) c.carry.ensures.place c.carry.ensures.place

pub returns-then-has_evac-clause-moved : goal.returns-then-has_evac-clause-moved
returns-then-has_evac-clause-moved g c =
    let s = g.N.Near.view c.args.self.now.near in
    let t = g.N.Near.view c.cell_of-found.new.self.near in
    both_of c.carry.result (λ place. MovedBy t (g.N.Near.view c.carry.new.self.near) c.args.pointer place) (λ place. MovedBy t (g.N.Near.view c.carry.new.self.near) c.args.pointer place) _
    (λ place a b. moved_by_found s c.args.pointer c.cell_of-found.result c.cell_of-found.ensures.found t (g.N.Near.view c.carry.new.self.near) place c.cell_of-found.ensures.kept b) c.carry.ensures.moved c.carry.ensures.moved

pub returns-then-has_evac-clause-found : goal.returns-then-has_evac-clause-found
returns-then-has_evac-clause-found g c =
    let s = g.N.Near.view c.args.self.now.near in
    none_of c.carry.result (FindsDrop (g.N.Near.view c.cell_of-found.new.self.near) _ c.args.pointer) _
    (λ x. drop_by s c.args.pointer c.cell_of-found.result c.cell_of-found.ensures.found (g.N.Near.view c.cell_of-found.new.self.near) _ c.cell_of-found.ensures.kept x) c.carry.ensures.dropped

pub returns-then-has_evac-clause-none : goal.returns-then-has_evac-clause-none
returns-then-has_evac-clause-none g c =
    let s = g.N.Near.view c.args.self.now.near in
    let same = ap (λ (x : State). dealing.goal x c.args.pointer) c.cell_of-found.ensures.kept ∙ goal_seen s c.args.pointer c.cell_of-found.result c.cell_of-found.ensures.found in
    subst (λ o. IfErr c.carry.result (λ _. o ≡ None)) same c.carry.ensures.none

pub returns-clause-moved : goal.returns-clause-moved
returns-clause-moved g c =
    let s = g.N.Near.view c.args.self.now.near in
    let t = g.N.Near.view c.cell_of-found.new.self.near in
    some_of c.stay.result (λ place. MovedBy t (g.N.Near.view c.stay.new.self.near) c.args.pointer place) _
    (λ place x. moved_by_found s c.args.pointer c.cell_of-found.result c.cell_of-found.ensures.found t (g.N.Near.view c.stay.new.self.near) place c.cell_of-found.ensures.kept x) c.stay.ensures.stayed

pub returns-then-has_evac-clause-came : goal.returns-then-has_evac-clause-came
returns-then-has_evac-clause-came g c = then_came c.cell_of-found.ensures.came c.carry.ensures.came

pub returns-clause-came : goal.returns-clause-came
returns-clause-came g c = then_came c.cell_of-found.ensures.came c.stay.ensures.came

pub returns-then-has_evac-clause-order : goal.returns-then-has_evac-clause-order
returns-then-has_evac-clause-order g c =
    order_carried (g.N.Near.view c.args.self.now.near) (g.N.Near.view c.cell_of-found.new.self.near) c.args.pointer c.cell_of-found.result c.cell_of-found.ensures.found c.cell_of-found.ensures.kept (sym c.has_evac.ensures ∙ c.if-has_evac.true)
    c.carry.new.self.order c.cell_of-found.new.self.order c.args.self.now.order c.cell_of-found.ensures.order c.carry.result c.carry.ensures.order

pub returns-then-has_evac-clause-device : goal.returns-then-has_evac-clause-device
returns-then-has_evac-clause-device g c = c.carry.ensures.device ∙ c.cell_of-found.ensures.device

pub returns-then-has_evac-clause-asked : goal.returns-then-has_evac-clause-asked
returns-then-has_evac-clause-asked g c e = absurd (not_asked g (goal.at.returns-then-has_evac-clause-asked g c).After-has_evac e)

pub returns-then-has_evac-clause-refused : goal.returns-then-has_evac-clause-refused
returns-then-has_evac-clause-refused g c = c.carry.ensures.refused

pub returns-then-has_evac-clause-seen : goal.returns-then-has_evac-clause-seen
returns-then-has_evac-clause-seen g c =
    err_of c.carry.result (c.carry.new.self ≡ c.cell_of-found.new.self) _
    (λ same. subst (λ (b : BookOf g.row.N.Denot g.row.D.Denot). IsSeen (g.N.Near.view c.args.self.now.near) (g.N.Near.view b.near) c.args.pointer) (sym same)
    (seen_alive (g.N.Near.view c.args.self.now.near) (g.N.Near.view c.cell_of-found.new.self.near) c.args.pointer c.cell_of-found.result c.cell_of-found.ensures.found c.cell_of-found.ensures.kept (alive g (goal.at.returns-then-has_evac-clause-seen g c).After-has_evac))) c.carry.ensures.unchanged

pub returns-then-has_evac-clause-words : goal.returns-then-has_evac-clause-words
returns-then-has_evac-clause-words g c =
    err_of c.carry.result (c.carry.new.self ≡ c.cell_of-found.new.self) _ (λ same. ap (λ (b : BookOf g.row.N.Denot g.row.D.Denot). (g.N.Near.view b.near).word) same ∙ ap (λ (x : State). x.word) c.cell_of-found.ensures.kept) c.carry.ensures.unchanged

pub returns-then-has_evac-clause-kept : goal.returns-then-has_evac-clause-kept
returns-then-has_evac-clause-kept g c =
    err_of c.carry.result (c.carry.new.self ≡ c.cell_of-found.new.self) _ (λ same. ap (λ (b : BookOf g.row.N.Denot g.row.D.Denot). b.order) same ∙ c.cell_of-found.ensures.order) c.carry.ensures.unchanged

pub returns-then-has_evac-clause-exact : goal.returns-then-has_evac-clause-exact
returns-then-has_evac-clause-exact g c still =
    now_carried (g.N.Near.view c.args.self.now.near) (g.N.Near.view c.cell_of-found.new.self.near) c.args.pointer c.cell_of-found.result c.cell_of-found.ensures.found c.cell_of-found.ensures.kept (sym c.has_evac.ensures ∙ c.if-has_evac.true)
    (c.cell_of-found.ensures.set still) (g.N.Near.view c.carry.new.self.near) c.carry.result (c.carry.ensures.exact still)

pub returns-then-has_evac-clause-dropped : goal.returns-then-has_evac-clause-dropped
returns-then-has_evac-clause-dropped g c still =
    never_none c.carry.result _ (λ place. g.N.Near.view c.carry.new.self.near ≡ moved (g.N.Near.view c.cell_of-found.new.self.near) c.args.pointer place) (c.carry.ensures.exact still)

pub returns-then-has_evac-clause-unchanged : goal.returns-then-has_evac-clause-unchanged
returns-then-has_evac-clause-unchanged g c still =
    err_of c.carry.result (c.carry.new.self ≡ c.cell_of-found.new.self) _ (λ same. ap (λ (b : BookOf g.row.N.Denot g.row.D.Denot). g.N.Near.view b.near) same ∙ c.cell_of-found.ensures.set still) c.carry.ensures.unchanged

pub returns-clause-place : goal.returns-clause-place
returns-clause-place g c =
    let t = g.N.Near.view c.cell_of-found.new.self.near in
    let same = ap (λ (x : State). dealing.goal x c.args.pointer) c.cell_of-found.ensures.kept ∙ goal_seen (g.N.Near.view c.args.self.now.near) c.args.pointer c.cell_of-found.result c.cell_of-found.ensures.found in
    some_of c.stay.result (λ place. dealing.goal t c.args.pointer ≡ Some place) _ (λ place is. sym same ∙ is) c.stay.ensures.place

pub returns-clause-order : goal.returns-clause-order
returns-clause-order g c =
    order_stays (g.N.Near.view c.args.self.now.near) (g.N.Near.view c.cell_of-found.new.self.near) c.args.pointer c.cell_of-found.result c.cell_of-found.ensures.found c.cell_of-found.ensures.kept (sym c.has_evac.ensures ∙ c.if-has_evac.false)
    c.stay.new.self.order c.args.self.now.order (c.stay.ensures.order ∙ c.cell_of-found.ensures.order) c.stay.result

pub returns-clause-device : goal.returns-clause-device
returns-clause-device g c = c.stay.ensures.device ∙ c.cell_of-found.ensures.device

pub returns-clause-asked : goal.returns-clause-asked
returns-clause-asked g c e = absurd (not_asked g (goal.at.returns-clause-asked g c).After-has_evac e)

pub returns-clause-found : goal.returns-clause-found
returns-clause-found g c =
    none_in c.stay.result (FindsDrop (g.N.Near.view c.cell_of-found.new.self.near) (g.N.Near.view c.stay.new.self.near) c.args.pointer) _
    (λ x. drop_by (g.N.Near.view c.args.self.now.near) c.args.pointer c.cell_of-found.result c.cell_of-found.ensures.found (g.N.Near.view c.cell_of-found.new.self.near) (g.N.Near.view c.stay.new.self.near)
    c.cell_of-found.ensures.kept x) c.stay.ensures.dropped

pub returns-clause-exact : goal.returns-clause-exact
returns-clause-exact g c still =
    now_stays (g.N.Near.view c.args.self.now.near) (g.N.Near.view c.cell_of-found.new.self.near) c.args.pointer c.cell_of-found.result c.cell_of-found.ensures.found c.cell_of-found.ensures.kept (sym c.has_evac.ensures ∙ c.if-has_evac.false)
    (c.cell_of-found.ensures.set still) (g.N.Near.view c.stay.new.self.near) c.stay.result (c.stay.ensures.exact still)

pub returns-clause-dropped : goal.returns-clause-dropped
returns-clause-dropped g c still =
    none_never c.stay.result _ (λ _. g.N.Near.view c.stay.new.self.near ≡ stayed (g.N.Near.view c.cell_of-found.new.self.near) c.args.pointer) (c.stay.ensures.exact still)

-- ---- clauses that say nothing of this answer
pub returns-then-is_dropped-clause-place : goal.returns-then-is_dropped-clause-place
returns-then-is_dropped-clause-place g c = tt

pub returns-then-is_dropped-clause-moved : goal.returns-then-is_dropped-clause-moved
returns-then-is_dropped-clause-moved g c = tt

pub returns-then-is_dropped-clause-refused : goal.returns-then-is_dropped-clause-refused
returns-then-is_dropped-clause-refused g c = tt

pub returns-then-is_dropped-clause-none : goal.returns-then-is_dropped-clause-none
returns-then-is_dropped-clause-none g c = tt

pub returns-then-is_dropped-clause-seen : goal.returns-then-is_dropped-clause-seen
returns-then-is_dropped-clause-seen g c = tt

pub returns-then-is_dropped-clause-words : goal.returns-then-is_dropped-clause-words
returns-then-is_dropped-clause-words g c = tt

pub returns-then-is_dropped-clause-kept : goal.returns-then-is_dropped-clause-kept
returns-then-is_dropped-clause-kept g c = tt

pub returns-then-is_dropped-clause-unchanged : goal.returns-then-is_dropped-clause-unchanged
returns-then-is_dropped-clause-unchanged g c still = tt

pub returns-clause-refused : goal.returns-clause-refused
returns-clause-refused g c = tt

pub returns-clause-none : goal.returns-clause-none
returns-clause-none g c = tt

pub returns-clause-seen : goal.returns-clause-seen
returns-clause-seen g c = tt

pub returns-clause-words : goal.returns-clause-words
returns-clause-words g c = tt

pub returns-clause-kept : goal.returns-clause-kept
returns-clause-kept g c = tt

pub returns-clause-unchanged : goal.returns-clause-unchanged
returns-clause-unchanged g c still = tt
