-- In a run of actions a load gives the word that was stored last.
use Rattle.std.proofs.Common.{◌≡◌, ◌≢◌, ℕ, ◌+◌, ◌-◌, ◌*◌, ◌/◌, ◌^◌, ◌<◌, Bool, true, false, cond, arith, sym, refl, ap, subst, ◌∙◌, Option, Some, None, List, [], ◌∷◌, ◌++◌, length, inl, inr}
use Rattle.std.specs.Prelude.{replicate, ◌==◌, ◌&&◌, Ok, Err}
use Rattle.std.proofs.lemmas.Bool.{cases_eq, cond_both, eq-eqb, false≢true, ne_eqb}
use Rattle.std.proofs.lemmas.Nat.{pow_pos}
use Rattle.far_word.specs.declared.mark.Mark.{Mark}
use Rattle.far_word.specs.declared.mark.Mark.TheVariants as mark
use Rattle.far_word.specs.declared.pointer.Place.{Place}
use Rattle.far_word.specs.declared.sizes.TheConstants.{CELLS}
use Rattle.far_word.specs.Bytes.{packed_word, with_word}
use Rattle.far_word.specs.Pointer.{read_of}
use Rattle.far_word.specs.Sizes.{size_of, words_for}
use Rattle.far_word.proofs.ByteLaws.{bytes_of-zeros, length-bytes_of, length-with_word, packs_back, read_other, read_written}
use Rattle.far_events.specs.declared.event.Event.{Event}
use Rattle.far_events.specs.declared.event.Event.TheVariants.{ReadEpoch, Open, Pin, Load, Store, Soil, Close, Adopt, Ask, Get, Clear, Advance, Look}
use Rattle.far_events.specs.declared.event.Event.TheVariants as events
use Rattle.far_events.specs.declared.event.Reply.{Reply}
use Rattle.far_events.specs.declared.event.Reply.TheVariants.{Refused, Word}
use Rattle.far_events.specs.events.Copies.{Alike}
use Rattle.far_events.specs.events.Naming.{is_dropped}
use Rattle.far_events.specs.events.Owners.{data_word}
use Rattle.far_events.specs.events.Quiet.{has_move}
use Rattle.far_events.specs.events.Step.{after, answer, change_of, is_legal, Fits}
use Rattle.far_events.specs.state.Law.{IsStored, Law}
use Rattle.far_core.specs.state.Room.{room}
use Rattle.far_events.specs.state.State.{State, addr, put}
use Rattle.far_events.specs.events.Changes.{Change, Stays}
use Rattle.far_core.specs.world.Changes.{Step, StepOf}
use Rattle.far_events.specs.events.Changes as change
use Rattle.far_core.specs.world.Happens.{Happens}
use Rattle.far_core.specs.world.Runs.{Passes}
use Rattle.far_core.specs.world.Steps.{with_bytes, with_home}
use Rattle.far_core.specs.world.World.{World, Object, Group, FarSide}
use Rattle.far_core.specs.world.WorldOf.{object_of, world_of}
use Rattle.far_events.proofs.Cells.{unused}
use Rattle.far_core.proofs.Owed.{replies}
use Rattle.far_core.proofs.Owing.{does, is_fact, is_test, keeps}
use Rattle.far_events.proofs.Put.{put_other, put_same}
use Rattle.far_core.proofs.Steps.{agrees, happens}
use Rattle.far_core.proofs.WorldLaws.{changes_keep, objects_stand}
use Rattle.far_core.proofs.Worlds.{here_now}
use Rattle.far_hand.specs.Makers.{is_owners}
use Rattle.far_book.specs.book.Dealing.{has_evac}
use Rattle.far_book.specs.book.Actions.{Action, Owns, Places, Retires, Looks, Steps, Moves, Evicts, Fetches, Does, DoesFetch, DoesMove, DoesRetire, DoesStep, EventsAreActions, Follows, LoadsGiveStored, stored_by, words_after, words_then}
use Rattle.far_book.specs.book.Effects.{moved, stayed}
use Rattle.far_book.specs.book.Fetching.{far_len}
use Rattle.far_book.specs.book.Own.{IsAtStart}
use Rattle.far_book.proofs.region.EvictingLaw.{evicting}
use Rattle.far_book.proofs.region.Moved.{drop_of, goal_there, has_moved}
use Rattle.far_book.proofs.region.MovesReached.{moving, staying}
use Rattle.far_book.proofs.region.Reaching.{placing_legal, retiring}
use Rattle.far_book.proofs.region.ReachingFar.{fetching}

-- ---- the words of objects
abbrev pub IsWords : (ℕ → Option Object) → (ℕ → ℕ → ℕ) → Type 0
IsWords object f = (p : ℕ) (o : Object) → object p ≡ Some o → (i : ℕ) → 8 * i < length o.bytes → packed_word o.bytes i ≡ f p i

some_is : (a b : Object) → Some a ≡ Some b → a ≡ b
some_is a b e = cc

-- an object is another, or gone
words_put : (object : ℕ → Option Object) (f g : ℕ → ℕ → ℕ) (p : ℕ) (u : Object) → IsWords object f → ((i : ℕ) → 8 * i < length u.bytes → packed_word u.bytes i ≡ g p i) →
    ((q i : ℕ) → q ≢ p → g q i ≡ f q i) → IsWords (put object p (Some u)) g
words_put object f g p u h here there q o is i lt = elim (cases_eq q p) [
  | inl e ↦ (let same : u ≡ o = some_is u o (sym (put_same object p (Some u) q e) ∙ is) in
      subst (λ (x : Object). packed_word x.bytes i ≡ g q i) same (here i (subst (λ (x : Object). 8 * i < length x.bytes) (sym same) lt) ∙ ap (λ r. g r i) (sym e)))
  | inr ne ↦ h q o (sym (put_other object p (Some u) q ne) ∙ is) i lt ∙ sym (there q i ne)
]

words_gone : (object : ℕ → Option Object) (f : ℕ → ℕ → ℕ) (p : ℕ) → IsWords object f → IsWords (put object p None) f
words_gone object f p h q o is i lt = elim (cases_eq q p) [
  | inl e ↦ (let odd : None ≡ Some o = sym (put_same object p None q e) ∙ is in absurd cc)
  | inr ne ↦ h q o (sym (put_other object p None q ne) ∙ is) i lt
]

-- ---- a step of the world but a write and a new object
abbrev IsOther : Change → Type 0
IsOther (change.Writes m p i x) = ⊥
IsOther (change.Makes p len ds g) = ⊥
IsOther c = Unit {0}

step_words : (c : Change) (w v : World) (f : ℕ → ℕ → ℕ) → IsOther c → w.honest ≡ true → Step c w v → IsWords w.object f → IsWords v.object f
step_words Stays w v f other honest x h = subst (λ (y : World). IsWords y.object f) (sym x) h
step_words (change.Writes m p i k) w v f other honest x h = absurd other
step_words (change.Makes p len ds g) w v f other honest x h = absurd other
step_words (change.Marks p) w v f other honest x h = subst (λ (y : World). IsWords y.object f) (sym x) h
step_words (change.Unmarks p) w v f other honest x h = subst (λ (y : World). IsWords y.object f) (sym x) h
step_words (change.Moves p g) w v f other honest x h = let m = x.moved in
    subst (λ (y : World). IsWords y.object f) (sym m.4) (words_put w.object f f p (with_home m.0 (Group g)) h (h p m.0 m.2) (λ q i ne. refl))
step_words (change.GoesFar p) w v f other honest x h = let m = x.gone in
    subst (λ (y : World). IsWords y.object f) (sym m.4) (words_put w.object f f p (with_home m.0 FarSide) h (h p m.0 m.2) (λ q i ne. refl))
step_words (change.ComesNear p g) w v f other honest x h = let m = x.come in let same = m.6 honest in
    subst (λ (y : World). IsWords y.object f) (sym m.7)
    (words_put w.object f f p (record { owner = m.0.owner; ds = m.0.ds; bytes = m.1; home = Group g }) h
    (λ i lt. ap (λ b. packed_word b i) same ∙ h p m.0 m.2 i (subst (λ (b : List ℕ). 8 * i < length b) same lt)) (λ q i ne. refl))
step_words (change.Drops m p) w v f other honest x h = subst (λ (y : World). IsWords y.object f) (sym x.after) (words_gone w.object f p h)
step_words (change.Holds g) w v f other honest x h = subst (λ (y : World). IsWords y.object f) (sym x) h
step_words c w v f other honest x h = subst (λ (y : World). IsWords y.object f) (sym x.after) h

-- ---- what is so at each moment of a run
pub record Holds (s : State) (f : ℕ → ℕ → ℕ) : Type 0 where
  pub law : Law s
  pub honest : (world_of s).honest ≡ true
  pub words : IsWords (world_of s).object f

-- a state with its law after a step of the world
stepped : (c : Change) (s t : State) (f g : ℕ → ℕ → ℕ) → Holds s f → Law t → Step c (world_of s) (world_of t) → IsWords (world_of t).object g → Holds t g
stepped c s t f g h law step words = record { law = law; honest = (changes_keep (world_of s) (world_of t) c step).honesty ∙ h.honest; words = words }

by_change : (c : Change) (s t : State) (f : ℕ → ℕ → ℕ) → IsOther c → Holds s f → Law t → Step c (world_of s) (world_of t) → Holds t f
by_change c s t f other h law step = stepped c s t f f h law step (step_words c (world_of s) (world_of t) f other h.honest step h.words)

-- ---- a new object, and a word that is stored
zero_word : (len i : ℕ) → packed_word (replicate len 0) i ≡ 0
zero_word len i = ap (λ b. packed_word b i) (sym (bytes_of-zeros (λ _. 0) len (λ _ _. refl))) ∙ packs_back (λ _. 0) len i (omega arith) (pow_pos (8 * (len - 8 * i)))

made_words : (s t : State) (f : ℕ → ℕ → ℕ) (p len ds g : ℕ) → Holds s f → Law t → Step (change.Makes p len ds g) (world_of s) (world_of t) → Holds t (λ q k. cond (q == p) 0 (f q k))
made_words s t f p len ds g h law x = stepped (change.Makes p len ds g) s t f _ h law x
    (subst (λ (y : World). IsWords y.object (λ q k. cond (q == p) 0 (f q k))) (sym x.after)
    (words_put (world_of s).object f (λ q k. cond (q == p) 0 (f q k)) p (record { owner = p / CELLS; ds = ds; bytes = replicate len 0; home = Group g }) h.words
    (λ i lt. zero_word len i ∙ sym (ap (λ b. cond b 0 (f p i)) (eq-eqb p p refl))) (λ q i ne. ap (λ b. cond b 0 (f q i)) (ne_eqb q p ne))))

and_left : (a b : Bool) → a ≡ false → (a && b) ≡ false
and_left a b e = ap (λ x. x && b) e

written_words : (s t : State) (f : ℕ → ℕ → ℕ) (m p i w : ℕ) → Holds s f → Law t → w < 2 ^ 64 → ((o : Object) → (world_of s).object p ≡ Some o → w < 2 ^ (8 * (length o.bytes - 8 * i))) →
    Step (change.Writes m p i w) (world_of s) (world_of t) → Holds t (λ q k. cond (q == p && k == i) w (f q k))
written_words s t f m p i w h law wide pad x =
    let c = x.changed in
    let small = (objects_stand s h.law p c.0 c.1).small in
    let g : ℕ → ℕ → ℕ = λ q k. cond (q == p && k == i) w (f q k) in
    let here : (k : ℕ) → 8 * k < length (with_word c.0.bytes i w) → packed_word (with_word c.0.bytes i w) k ≡ g p k = λ k lt. elim (cases_eq k i) [
      | inl e ↦ (ap (packed_word (with_word c.0.bytes i w)) e ∙ read_written c.0.bytes i w small wide (pad c.0 c.1)
          ∙ sym (ap (λ b. cond (b && (k == i)) w (f p k)) (eq-eqb p p refl) ∙ ap (λ b. cond b w (f p k)) (eq-eqb k i e)))
      | inr ne ↦ (read_other c.0.bytes i w k ne ∙ h.words p c.0 c.1 k (subst (λ n. 8 * k < n) (length-with_word c.0.bytes i w) lt)
          ∙ sym (ap (λ b. cond (b && (k == i)) w (f p k)) (eq-eqb p p refl) ∙ ap (λ b. cond b w (f p k)) (ne_eqb k i ne)))
    ] in
    stepped (change.Writes m p i w) s t f g h law x
    (subst (λ (y : World). IsWords y.object g) (sym c.3)
    (words_put (world_of s).object f g p (with_bytes c.0 (with_word c.0.bytes i w)) h.words here (λ q k ne. ap (λ b. cond b w (f q k)) (and_left (q == p) (k == i) (ne_eqb q p ne)))))

-- the length of an object that its owner holds
held_long : (s : State) (p len i w : ℕ) (object : Object) → object_of s.word (s.stored p) p (read_of (s.cell p)) ≡ Some object → length object.bytes ≡ len → w < 2 ^ (8 * (len - 8 * i)) →
    (o : Object) → (world_of s).object p ≡ Some o → w < 2 ^ (8 * (length o.bytes - 8 * i))
unfolding world_of
held_long s p len i w object held long pad o is = let same = some_is object o (sym held ∙ is) in subst (λ n. w < 2 ^ (8 * (n - 8 * i))) (sym long ∙ ap (λ (y : Object). length y.bytes) same) pad

-- ---- an owner's event
abbrev IsOtherOf : Option Change → Type 0
IsOtherOf None = Unit {0}
IsOtherOf (Some c) = IsOther c

by_happening : (o : Option Change) (s t : State) (f : ℕ → ℕ → ℕ) → IsOtherOf o → Holds s f → Law t → StepOf o (world_of s) (world_of t) → Holds t f
by_happening None s t f other h law step = absurd step
by_happening (Some c) s t f other h law step = by_change c s t f other h law step

module _ (s t : State) (f : ℕ → ℕ → ℕ) (h : Holds s f) where
  other_event : (e : Event) (r : Reply) → Fits e → IsOtherOf (change_of e r) → Passes s e r t → Holds t f
  other_event e r fits other x = by_happening (change_of e r) s t f other h x.law (happens s t r e h.law fits x.step)

  -- what a refused event leaves
  turned : (e : Event) (r : Reply) → is_legal s e ≡ false → Passes s e r t → (t ≡ s) × (r ≡ Refused)
  turned e r off x = let both : (t, r) ≡ (s, Refused) = x.step ∙ ap (λ b. cond b (after s e, answer s e) (s, Refused)) off in (ap (λ y. y.0) both, ap (λ y. y.1) both)

  made : (e : Event) (r : Reply) → is_legal s e ≡ true → Passes s e r t → (t ≡ after s e) × (r ≡ answer s e)
  made e r on x = let both : (t, r) ≡ (after s e, answer s e) = x.step ∙ ap (λ b. cond b (after s e, answer s e) (s, Refused)) on in (ap (λ y. y.0) both, ap (λ y. y.1) both)

  store_event : (m p i w : ℕ) (r : Reply) → Passes s (Store m p i w) r t → Holds t (stored_by f (Store m p i w) r)
  store_event m p i w r x = by_test (is_legal s (Store m p i w)) refl where
    refused : is_legal s (Store m p i w) ≡ false → Holds t (stored_by f (Store m p i w) r)
    refused off = let k = turned (Store m p i w) r off x in
        subst (λ y. Holds t (stored_by f (Store m p i w) y)) (sym k.1) (subst (λ (y : State). Holds y f) (sym k.0) h)

    stored : is_legal s (Store m p i w) ≡ true → Holds t (stored_by f (Store m p i w) r)
    stored on =
        let k = made (Store m p i w) r on x in
        let legal = is_fact s (Store m p i w) h.law on in
        let len = legal.0 in
        let place = legal.1.0 in
        let object = legal.1.1 in
        let word_in = legal.1.2 in
        let wide : w < 2 ^ 64 = subst (λ n. n < 2 ^ 64) (ap (λ (y : State). y.word (data_word s p i)) k.0 ∙ put_same s.word (data_word s p i) w (data_word s p i) refl) (x.law.spans.word_fits (data_word s p i)) in
        let near = object.near in
        let held = here_now s h.law m p i len near.0 place near.1 object.own object.rests near.2 word_in in
        let step = happens s t r (Store m p i w) h.law wide x.step in
        let done = subst (λ y. Happens (world_of s) (Store m p i w) y (world_of t)) k.1 step in
        subst (λ y. Holds t (stored_by f (Store m p i w) y)) (sym k.1)
        (written_words s t f m p i w h x.law wide (held_long s p len i w _ held (length-bytes_of (λ n. s.word (addr place + 1 + n)) len) legal.2) done)

    by_test : (b : Bool) → is_legal s (Store m p i w) ≡ b → Holds t (stored_by f (Store m p i w) r)
    by_test true on = stored on
    by_test false off = refused off

  own_event : (e : Event) (r : Reply) → is_owners e ≡ true → Passes s e r t → Holds t (stored_by f e r)
  own_event (ReadEpoch m) r own x = other_event (ReadEpoch m) r tt (replies (λ y. IsOtherOf (change_of (ReadEpoch m) y)) tt tt (λ n. tt) (λ n. tt) (λ place. tt) r) x
  own_event (Open m) r own x = other_event (Open m) r tt (replies (λ y. IsOtherOf (change_of (Open m) y)) tt tt (λ n. tt) (λ n. tt) (λ place. tt) r) x
  own_event (Pin m p) r own x = other_event (Pin m p) r tt (replies (λ y. IsOtherOf (change_of (Pin m p) y)) tt tt (λ n. tt) (λ n. tt) (λ place. tt) r) x
  own_event (Load m p i) r own x = other_event (Load m p i) r tt (replies (λ y. IsOtherOf (change_of (Load m p i) y)) tt tt (λ n. tt) (λ n. tt) (λ place. tt) r) x
  own_event (Store m p i w) r own x = store_event m p i w r x
  own_event (Soil m p) r own x = other_event (Soil m p) r tt (replies (λ y. IsOtherOf (change_of (Soil m p) y)) tt tt (λ n. tt) (λ n. tt) (λ place. tt) r) x
  own_event (Close m) r own x = other_event (Close m) r tt (replies (λ y. IsOtherOf (change_of (Close m) y)) tt tt (λ n. tt) (λ n. tt) (λ place. tt) r) x
  own_event (Adopt m p) r own x = other_event (Adopt m p) r tt (replies (λ y. IsOtherOf (change_of (Adopt m p) y)) tt tt (λ n. tt) (λ n. tt) (λ place. tt) r) x
  own_event (Ask m p k) r own x = other_event (Ask m p k) r tt (asked k) x where
    asked : (k : Mark) → IsOtherOf (change_of (Ask m p k) r)
    asked mark.Hot = replies (λ y. IsOtherOf (change_of (Ask m p mark.Hot) y)) tt tt (λ n. tt) (λ n. tt) (λ place. tt) r
    asked k = replies (λ y. IsOtherOf (change_of (Ask m p k) y)) tt tt (λ n. tt) (λ n. tt) (λ place. tt) r
  own_event e r own x = absurd (false≢true own)

  -- ---- an event of a round
  other_step : (e : Event) → Fits e → IsOtherOf (change_of e (answer s e)) → DoesStep s e t → Holds t f
  other_step e fits other x = subst (λ (y : State). Holds y f) (sym x.after)
      (by_happening (change_of e (answer s e)) s (after s e) f other h (keeps s e h.law fits x.legal) (does s e h.law fits x.legal))

  steps : (e : Event) → DoesStep s e t → Holds t f
  steps (events.Mark p) x = other_step (events.Mark p) tt tt x
  steps (Clear p) x = other_step (Clear p) tt (cleared (has_move (read_of (s.cell p)))) x where
    cleared : (b : Bool) → IsOther (cond b Stays (change.Unmarks p))
    cleared true = tt
    cleared false = tt
  steps (Get l at free) x = got free x where
    got : (b : Bool) → DoesStep s (Get l at b) t → Holds t f
    got true y = other_step (Get l at true) tt tt y
    got false y = other_step (Get l at false) tt tt y
  steps (Advance logs) x = other_step (Advance logs) tt tt x
  steps (Look m) x = other_step (Look m) tt tt x
  steps e x = absurd (false≢true x.rounds)

  -- ---- the book's calls
  retires : (p : ℕ) → DoesRetire s p t → Holds t f
  retires p x = let k = retiring s p h.law x.pointer x.dropped in subst (λ (y : State). Holds y f) (sym x.after) (by_change Stays s _ f tt h k.1 k.2)

  moves : (p : ℕ) (place : Place) → DoesMove s p place t → Holds t f
  moves p place x = subst (λ (y : State). Holds y f) (sym x.after) (cond_both (has_evac (read_of (s.cell p))) (moved s p place) (stayed s p) (λ (y : State). Holds y f) there here) where
    alive : x.quiet.marks.dropped ≡ false
    alive = drop_of (read_of (s.cell p)) x.quiet.len x.quiet.ds x.quiet.place x.quiet.marks x.quiet.near x.alive

    evac_is : (b : Bool) → has_evac (read_of (s.cell p)) ≡ b → x.quiet.marks.evac ≡ b
    evac_is b e = sym (ap has_evac x.quiet.near) ∙ e

    there : has_evac (read_of (s.cell p)) ≡ true → Holds (moved s p place) f
    there e =
        let q = x.quiet in
        let at = goal_there s p q q.len q.ds q.place q.marks q.near (evac_is true e) in
        let k = moving s p q.len q.ds q.place place q.marks h.law q.near q.quiet alive (evac_is true e) (sym at ∙ x.found) in
        by_change (change.Moves p place.log) s (moved s p place) f tt h k.1 k.2

    here : has_evac (read_of (s.cell p)) ≡ false → Holds (stayed s p) f
    here e =
        let q = x.quiet in
        let asked = has_moved s p q q.len q.ds q.place q.marks q.near (evac_is false e) in
        let k = staying s p q.len q.ds q.place q.marks h.law q.near asked alive (evac_is false e) in
        by_change (change.Unmarks p) s (stayed s p) f tt h k.1 k.2

  comes : (p : ℕ) (place : Place) → DoesFetch s p place t → Holds t f
  comes p place x =
      let q = x.far in
      let alive = sym (ap is_dropped q.far) ∙ x.alive in
      let k = fetching s p q.len q.ds q.marks place x.row h.law q.far alive (sym (ap (λ o. room s (size_of (far_len o)) true) q.far) ∙ x.found)
      (subst (λ o. IsStored x.row (far_len o)) q.far x.padded) (λ e. subst (λ o. Alike x.row (s.stored p) (words_for (far_len o))) q.far (x.stored e)) in
      subst (λ (y : State). Holds y f) (sym x.after) (by_change (change.ComesNear p place.log) s _ f tt h k.1 k.2)

  action_holds : (d : Action) → Does s d t → Holds t (words_then f d)
  action_holds (Owns e r) x = own_event e r x.0 x.1
  action_holds (Places p len ds (Ok place)) x = let k = placing_legal s p len ds place h.law x.pointer x.free x.some x.most x.structure x.found in
      subst (λ (y : State). Holds y (words_then f (Places p len ds (Ok place)))) (sym x.after) (made_words s _ f p len ds place.log h k.1 k.2)
  action_holds (Places p len ds (Err why)) x = subst (λ (y : State). Holds y f) (sym x) h
  action_holds (Retires p) x = retires p x
  action_holds Looks x = subst (λ (y : State). Holds y f) (sym x) h
  action_holds (Steps e) x = steps e x
  action_holds (Moves p (Ok (Some place))) x = moves p place x
  action_holds (Moves p (Ok None)) x = retires p x
  action_holds (Moves p (Err why)) x = subst (λ (y : State). Holds y f) (sym x) h
  action_holds (Evicts p (Ok true)) x =
      let q = x.quiet in
      let alive = drop_of (read_of (s.cell p)) q.len q.ds q.place q.marks q.near x.alive in
      let k = evicting s p q.len q.ds q.place q.marks h.law x.pointer q.near q.quiet (sym (ap has_evac q.near) ∙ x.evac) alive in
      subst (λ (y : State). Holds y f) (sym x.after) (by_change (change.GoesFar p) s _ f tt h k.1 k.2)
  action_holds (Evicts p (Ok false)) x = retires p x
  action_holds (Evicts p (Err why)) x = subst (λ (y : State). Holds y f) (sym x) h
  action_holds (Fetches p (Ok (Some place))) x = comes p place x
  action_holds (Fetches p (Ok None)) x = retires p x
  action_holds (Fetches p (Err why)) x = subst (λ (y : State). Holds y f) (sym x) h

-- ---- whole runs
-- a load gives what stands there
load_gives : (s t : State) (f : ℕ → ℕ → ℕ) (m p i w : ℕ) → Holds s f → Passes s (Load m p i) (Word w) t → w ≡ f p i
load_gives s t f m p i w h x =
    let read = happens s t (Word w) (Load m p i) h.law tt x.step in
    let o = read.found in
    o.3 ∙ h.words p o.0 o.1 i o.2

loads_give : (s t : State) (f : ℕ → ℕ → ℕ) (before after : List Action) (m p i w : ℕ) → Holds s f → Follows s (before ++ Owns (Load m p i) (Word w) ∷ after) t → w ≡ words_after f before p i
loads_give s t f [] after m p i w h x = load_gives s x.0 f m p i w h x.1.1
loads_give s t f (d ∷ ds) after m p i w h x = loads_give x.0 t (words_then f d) ds after m p i w (action_holds s x.0 f h d x.1) x.2

-- at the start there is no object
starts : (s : State) → Law s → IsAtStart s → s.honest ≡ true → Holds s (λ _ _. 0)
unfolding world_of
starts s law start honest = record {
  law = law;
  honest = honest;
  words = λ p o is i lt.
      let free : s.cell p ≡ 0 = ap (λ (y : State). y.cell p) start in
      let none : object_of s.word (s.stored p) p (read_of (s.cell p)) ≡ None = ap (λ c. object_of s.word (s.stored p) p (read_of c)) free ∙ ap (object_of s.word (s.stored p) p) unused in
      let odd : None ≡ Some o = sym none ∙ is in absurd cc;
}

pub loads_give_stored : LoadsGiveStored
loads_give_stored s t before after m p i w law start honest x = loads_give s t (λ _ _. 0) before after m p i w (starts s law start honest) x

pub events_are_actions : EventsAreActions
events_are_actions s e law fits own legal =
    let then = keeps s e law fits legal in
    (own, record { step = sym (ap (λ b. cond b (after s e, answer s e) (s, Refused)) (is_test s e legal)); law = then; agrees = agrees (after s e) then })
