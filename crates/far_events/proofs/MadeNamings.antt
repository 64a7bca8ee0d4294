-- What a legal naming of a cell makes of the state, by its new word.
use Rattle.std.proofs.Common.{◌≡◌, ◌≢◌, ℕ, ◌+◌, ◌*◌, ◌/◌, ◌%◌, ◌<◌, ◌≤◌, ◌^◌, Bool, true, false, arith, sym, refl, ap, subst, ◌∙◌, Some, None, inl, inr}
use Rattle.std.specs.Prelude.{◌⊎◌, is_some, Option}
use Rattle.std.proofs.lemmas.Bool.{false≢true, false_from_ne_true}
use Rattle.far_word.specs.declared.mark.Marks.{Marks}
use Rattle.far_word.specs.declared.pointer.Place.{Place}
use Rattle.far_word.specs.declared.pointer.PtrWord.{PtrWord}
use Rattle.far_word.specs.declared.pointer.PtrWord.TheVariants.{Free, Near, Far}
use Rattle.far_word.specs.declared.sizes.TheConstants.{LOG_WORDS}
use Rattle.far_word.specs.Pointer.{read_of, view_place}
use Rattle.far_word.specs.Sizes.{size_of}
use Rattle.far_word.proofs.PointerLaws.{read_says}
use Rattle.far_events.specs.declared.event.Event.TheVariants.{Name}
use Rattle.far_events.specs.declared.naming.Naming.{Naming}
use Rattle.far_events.specs.declared.naming.Naming.TheVariants.{Places, Retires, Evicts, Stays, Moves, Fetches}
use Rattle.far_events.specs.events.Legal.{Legal}
use Rattle.far_events.specs.events.Name.{after_naming}
use Rattle.far_events.specs.events.Naming.{IsNaming, naming_of, naming_row, no_marks, unmarked}
use Rattle.far_events.specs.events.namings.Evicts.{evicts_row}
use Rattle.far_events.specs.events.NewSpans.{IsNext, with_span}
use Rattle.far_events.specs.events.Step.{is_legal}
use Rattle.far_events.specs.state.Law.{Law, head_len}
use Rattle.far_events.specs.state.State.{State, put, addr}
use Rattle.far_events.specs.events.Copied.{copied_job, with_named}
use Rattle.far_events.specs.events.namings.Moves.{after_move}
use Rattle.far_events.specs.state.Jobs.{near_place}
use Rattle.far_events.proofs.Copied.{copied_elsewhere, copied_fact, copied_stands, copied_test}
use Rattle.far_events.proofs.Bounds.{near_inside}
use Rattle.far_events.proofs.Namings.{naming_only}
use Rattle.far_events.proofs.NewSpans.{at_tail}
use Rattle.far_events.proofs.NamingTests.{name_fact}

-- no span begins yet where a new one may stand
pub unbegun : (s : State) → Law s → (place : Place) → IsNext s place → place.at < LOG_WORDS → s.starts (addr place) ≡ false
unbegun s law place next low = false_from_ne_true _ (λ h.
    let span = law.spans.span (addr place) h in
    let log : addr place / LOG_WORDS ≡ place.log = omega arith in
    let fits : addr place % LOG_WORDS + size_of (head_len (s.word (addr place))) ≤ s.tail place.log = subst (λ l. addr place % LOG_WORDS + size_of (head_len (s.word (addr place))) ≤ s.tail l) log span.fits in
    omega (arith, at_tail s law place next))

-- the new word says near at a place: a new span that is taken, or the object's own place
pub record TakesNew (s : State) (p new len : ℕ) (place : Place) (t : State) : Type 0 where
  pub log : place.log < s.logs
  pub begins : s.starts (addr place) ≡ false
  pub after : t ≡ with_span s p new len place

pub record StaysThere (s : State) (p new len ds : ℕ) (place : Place) (t : State) : Type 0 where
  pub marks : Marks
  pub near : read_of (s.cell p) ≡ Some (Near len ds place marks)
  pub after : t ≡ record s { cell = put s.cell p new }

-- or a copy that is named
pub record NamesCopied (s : State) (p new : ℕ) (place : Place) (t : State) : Type 0 where
  pub log : place.log < s.logs
  pub begun : s.starts (addr place) ≡ true
  pub from : Place
  pub lies : near_place (read_of (s.cell p)) ≡ Some from
  pub elsewhere : place ≢ from
  pub job : ℕ
  pub found : copied_job s p from place ≡ Some job
  pub after : t ≡ with_named s p new job

pub record ComesNear (s : State) (p new : ℕ) (place : Place) (t : State) : Type 0 where
  pub len : ℕ
  pub ds : ℕ
  pub dirty : Bool
  pub near : read_of new ≡ Some (Near len ds place (unmarked dirty))
  pub where_to : TakesNew s p new len place t ⊎ (StaysThere s p new len ds place t ⊎ NamesCopied s p new place t)

-- it says no place: the cell is free, or the object goes far from where it lies
pub record GoesFar (s : State) (p new : ℕ) (t : State) : Type 0 where
  pub len : ℕ
  pub ds : ℕ
  pub place : Place
  pub marks : Marks
  pub near : read_of (s.cell p) ≡ Some (Near len ds place marks)
  pub far : new ≢ 0
  pub after : t ≡ (evicts_row s p new len place).after

pub record IsNearWord (v : PtrWord) : Type 0 where
  pub len : ℕ
  pub ds : ℕ
  pub place : Place
  pub marks : Marks
  pub is : v ≡ Near len ds place marks

module _ (s : State) (law : Law s) (p new : ℕ) (fits : new < 2 ^ 64) (place : Place) (t : State) (came : ComesNear s p new place t) where
  there : (place.log < s.logs) × (place.at + size_of came.len ≤ LOG_WORDS) × (0 < size_of came.len)
  there =
      let x = read_says new (Near came.len came.ds place (unmarked came.dirty)) fits came.near in
      (elim came.where_to [ inl takes ↦ takes.log | inr (inl stays) ↦ (near_inside s law p came.len came.ds place stays.marks stays.near).0 | inr (inr copy) ↦ copy.log ], omega (arith, x.0), omega (arith, x.0))

  pub in_log : (place.log < s.logs) × (place.at + size_of came.len ≤ LOG_WORDS)
  in_log = (there.0, there.1)

  pub in_heap : addr place < LOG_WORDS * s.logs
  in_heap = omega (arith, there)

  pub taken : s.starts (addr place) ≡ false → t ≡ with_span s p new came.len place
  taken none = elim came.where_to [
    | inl takes ↦ takes.after
    | inr (inl stays) ↦ absurd (false≢true (sym none ∙ (law.cells.cell_near p came.len came.ds place stays.marks stays.near).placed))
    | inr (inr copy) ↦ absurd (false≢true (sym none ∙ copy.begun))
  ]

  pub stayed : s.starts (addr place) ≡ true → StaysThere s p new came.len came.ds place t ⊎ NamesCopied s p new place t
  stayed some = elim came.where_to [
    | inl takes ↦ absurd (false≢true (sym takes.begins ∙ some))
    | inr either ↦ either
  ]

module _ (s : State) (law : Law s) (p old new : ℕ) (fits : new < 2 ^ 64) (is : s.cell p ≡ old) where
  takes_new : (len ds : ℕ) (at place : Place) (dirty : Bool) → at ≡ place → read_of new ≡ Some (Near len ds at (unmarked dirty)) → IsNext s at → ComesNear s p new place (with_span s p new len at)
  takes_new len ds at place dirty e near next =
      let x = read_says new (Near len ds at (unmarked dirty)) fits near in
      subst (λ y. ComesNear s p new y (with_span s p new len at)) e
      (record { len = len; ds = ds; dirty = dirty; near = near; where_to = inl (record { log = next.0; begins = unbegun s law at next (omega (arith, x.0)); after = refl }) })

  comes : (form : Naming) → IsNaming form (read_of old) (read_of new) → (naming_row s p new form).Legal → (place : Place) →
      ((v : PtrWord) → read_of new ≡ Some v → Some place ≡ view_place v) → ComesNear s p new place (naming_row s p new form).after
  comes (Places len ds at) (free, near) legal place view = let there : Some place ≡ Some at = view (Near len ds at (unmarked true)) near in takes_new len ds at place true (cc) near legal.0.next
  comes Retires (dropped, free) legal place view = let odd : Some place ≡ None = view Free free in absurd cc
  comes (Evicts len at) (ds, m, near, kept, wanted, far) legal place view = let odd : Some place ≡ None = view (Far len ds no_marks) far in absurd cc
  comes Stays (len, ds, at, m, near, kept, moved, out, stays) legal place view =
      let there : Some place ≡ Some at = view (Near len ds at (unmarked m.dirty)) stays in
      let e : at ≡ place = cc in
      subst (λ y. ComesNear s p new y (record s { cell = put s.cell p new })) e
      (record { len = len; ds = ds; dirty = m.dirty; near = stays; where_to = inr (inl (record { marks = m; near = ap read_of is ∙ near; after = refl })) })
  comes (Moves len ds from at) (moves, near) legal place view = at_copy (copied_job s p from at) refl where
    there : at ≡ place
    there = let e : Some place ≡ Some at = view (Near len ds at (unmarked moves.0.dirty)) near in cc

    at_copy : (o : Option ℕ) → copied_job s p from at ≡ o → ComesNear s p new place (after_move s p new len at o)
    at_copy None e = elim legal [
      | inl may ↦ takes_new len ds at place moves.0.dirty there near may.span.next
      | inr has ↦ absurd (false≢true (sym (ap is_some e) ∙ copied_test s p from at has))
    ]
    at_copy (Some j) e =
        let x = copied_fact s p from at j e in
        let stands = copied_stands s law p from at j x.0 x.1 in
        subst (λ (y : Place). ComesNear s p new y (with_named s p new j)) there
        (record { len = len; ds = ds; dirty = moves.0.dirty; near = near; where_to = inr (inr (record { log = stands.1; begun = stands.0; from = from; lies = x.1.lies; elsewhere = copied_elsewhere s law p from at j x.0 x.1; job = j; found = e; after = refl })) })
  comes (Fetches len ds at) (far, near) legal place view = let there : Some place ≡ Some at = view (Near len ds at no_marks) near in takes_new len ds at place false (cc) near legal.span.next

  leaves : (form : Naming) → IsNaming form (read_of old) (read_of new) → ((v : PtrWord) → read_of new ≡ Some v → view_place v ≡ None) →
      ((new ≡ 0) × ((naming_row s p new form).after ≡ record s { cell = put s.cell p new })) ⊎ GoesFar s p new (naming_row s p new form).after
  leaves (Places len ds at) (free, near) view = let odd : Some at ≡ None = view (Near len ds at (unmarked true)) near in absurd cc
  leaves Retires (dropped, free) view = inl (sym (read_says new Free fits free).1, refl)
  leaves (Evicts len at) (ds, m, near, kept, wanted, far) view =
      let x = read_says new (Far len ds no_marks) fits far in
      inr (record { len = len; ds = ds; place = at; marks = m; near = ap read_of is ∙ near; far = λ z. omega (arith, x.1); after = refl })
  leaves Stays (len, ds, at, m, near, kept, moved, out, stays) view = let odd : Some at ≡ None = view (Near len ds at (unmarked m.dirty)) stays in absurd cc
  leaves (Moves len ds from at) (moves, near) view = let odd : Some at ≡ None = view (Near len ds at (unmarked moves.0.dirty)) near in absurd cc
  leaves (Fetches len ds at) (far, near) view = let odd : Some at ≡ None = view (Near len ds at no_marks) near in absurd cc

  module _ (legal : is_legal s (Name p old new) ≡ true) where
    made : Legal s (Name p old new)
    made = name_fact s p old new legal

    after_is : (naming_row s p new made.1.0).after ≡ after_naming s p new (naming_of (read_of old) (read_of new))
    after_is = sym (ap (after_naming s p new) (naming_only made.1.0 _ _ made.1.1))

    pub comes_near : (place : Place) → ((v : PtrWord) → read_of new ≡ Some v → Some place ≡ view_place v) → ComesNear s p new place (after_naming s p new (naming_of (read_of old) (read_of new)))
    comes_near place view = subst (ComesNear s p new place) after_is (comes made.1.0 made.1.1 made.1.2 place view)

    pub goes_away : ((v : PtrWord) → read_of new ≡ Some v → view_place v ≡ None) →
        ((new ≡ 0) × (after_naming s p new (naming_of (read_of old) (read_of new)) ≡ record s { cell = put s.cell p new })) ⊎ GoesFar s p new (after_naming s p new (naming_of (read_of old) (read_of new)))
    goes_away view = subst (λ t. ((new ≡ 0) × (t ≡ record s { cell = put s.cell p new })) ⊎ GoesFar s p new t) after_is (leaves made.1.0 made.1.1 view)

    pub away_freed : ((v : PtrWord) → read_of new ≡ Some v → view_place v ≡ None) → new ≡ 0 → record s { cell = put s.cell p new } ≡ after_naming s p new (naming_of (read_of old) (read_of new))
    away_freed view free = elim (goes_away view) [
      | inl frees ↦ sym frees.1
      | inr far ↦ absurd (far.far free)
    ]

    -- what is named far was near
    pub away_near : ((v : PtrWord) → read_of new ≡ Some v → view_place v ≡ None) → new ≢ 0 → (v : PtrWord) → read_of old ≡ Some v → IsNearWord v
    away_near view some v e = elim (goes_away view) [
      | inl frees ↦ absurd (some frees.0)
      | inr far ↦ (let both : Some v ≡ Some (Near far.len far.ds far.place far.marks) = sym e ∙ ap read_of (sym is) ∙ far.near in
          record { len = far.len; ds = far.ds; place = far.place; marks = far.marks; is = cc })
    ]

    pub away_far : ((v : PtrWord) → read_of new ≡ Some v → view_place v ≡ None) → new ≢ 0 → (len ds : ℕ) (place : Place) (m : Marks) → read_of old ≡ Some (Near len ds place m) →
        (evicts_row s p new len place).after ≡ after_naming s p new (naming_of (read_of old) (read_of new))
    away_far view some len ds place m e = elim (goes_away view) [
      | inl frees ↦ absurd (some frees.0)
      | inr far ↦ (let both : Some (Near len ds place m) ≡ Some (Near far.len far.ds far.place far.marks) = sym e ∙ ap read_of (sym is) ∙ far.near in
          let long : len ≡ far.len = cc in
          let here : place ≡ far.place = cc in
          (λ i. (evicts_row s p new (long i) (here i)).after) ∙ sym far.after)
    ]

-- ---- a place where a span begins already
abbrev pub with_job : State → ℕ → ℕ → Option ℕ → State
with_job s p new None = record s { cell = put s.cell p new }
with_job s p new (Some j) = with_named s p new j

module _ (s : State) (law : Law s) (p old new : ℕ) (fits : new < 2 ^ 64) (is : s.cell p ≡ old) (legal : is_legal s (Name p old new) ≡ true)
    (place : Place) (view : (v : PtrWord) → read_of new ≡ Some v → Some place ≡ view_place v) (begun : s.starts (addr place) ≡ true) where
  came : ComesNear s p new place (after_naming s p new (naming_of (read_of old) (read_of new)))
  came = comes_near s law p old new fits is legal place view

  -- the object lies near
  pub placed_near : (v : PtrWord) → read_of old ≡ Some v → IsNearWord v
  placed_near v e = elim (stayed s law p new fits place _ came begun) [
    | inl stays ↦ (let both : Some v ≡ Some (Near came.len came.ds place stays.marks) = sym e ∙ ap read_of (sym is) ∙ stays.near in
        record { len = came.len; ds = came.ds; place = place; marks = stays.marks; is = cc })
    | inr copy ↦ near_there v copy.from (ap near_place (sym e ∙ ap read_of (sym is)) ∙ copy.lies)
  ] where
    near_there : (v : PtrWord) (from : Place) → near_place (Some v) ≡ Some from → IsNearWord v
    near_there Free from h = absurd cc
    near_there (Near len ds at m) from h = record { len = len; ds = ds; place = at; marks = m; is = refl }
    near_there (Far len ds m) from h = absurd cc

  -- it stays where it is, or a copy is named
  pub placed_is : (len ds : ℕ) (from : Place) (m : Marks) → read_of old ≡ Some (Near len ds from m) →
      with_job s p new (copied_job s p from place) ≡ after_naming s p new (naming_of (read_of old) (read_of new))
  placed_is len ds from m e = elim (stayed s law p new fits place _ came begun) [
    | inl stays ↦ (let both : Some (Near len ds from m) ≡ Some (Near came.len came.ds place stays.marks) = sym e ∙ ap read_of (sym is) ∙ stays.near in
        let here : from ≡ place = cc in
        ap (with_job s p new) (ap (λ (x : Place). copied_job s p x place) here ∙ none_here) ∙ sym stays.after)
    | inr copy ↦ (let both : Some from ≡ Some copy.from = sym (ap near_place e) ∙ ap near_place (ap read_of (sym is)) ∙ copy.lies in
        let here : from ≡ copy.from = cc in
        ap (with_job s p new) (ap (λ (x : Place). copied_job s p x place) here ∙ copy.found) ∙ sym copy.after)
  ] where
    none_of : (o : Option ℕ) → copied_job s p place place ≡ o → o ≡ None
    none_of None e = refl
    none_of (Some j) e = let x = copied_fact s p place place j e in absurd (copied_elsewhere s law p place place j x.0 x.1 refl)

    none_here : copied_job s p place place ≡ None
    none_here = none_of (copied_job s p place place) refl
