-- What a seat's struct keeps over a step, for all kinds of step.
use Rattle.std.proofs.Common.{Bool, true, false, ◌≡◌, ◌≢◌, ◌/◌, ◌%◌, set, get_or-set_same, get_or-set_other, ℕ, ◌+◌, ◌*◌, ◌<◌, ◌≤◌, List, ◌∷◌, length, subst, Option, Some, None, refl, sym, ap, ◌∙◌, arith}
use Rattle.std.specs.Prelude.{IfSome, IsSome}
use Rattle.std.proofs.lemmas.Bool.{false≢true}
use mathlib.Core.Logic.{dite}
use native.Mathlib.Decide.{ℕ_discrete}
use Rattle.far_word.specs.declared.mark.Mark.{Mark}
use Rattle.far_word.specs.declared.mark.Mark.TheVariants.{Hot, Evac, Moved, Dropped, Dirty}
use Rattle.far_word.specs.declared.pointer.Place.{Place}
use Rattle.far_word.specs.declared.pointer.PtrWord.{PtrWord}
use Rattle.far_word.specs.Pointer.{read_of, view_place}
use Rattle.far_events.specs.declared.event.Reply.TheVariants.{Held, Word}
use Rattle.far_events.specs.events.Pin.{place_to_view, pin_answer}
use Rattle.far_events.proofs.Put.{put_both, put_other, put_same}
use Rattle.atomic_table.specs.Seated.{TableId}
use Rattle.far_word.specs.declared.sizes.TheConstants.{CELLS, EPOCH_END, JOBS, LOG_WORDS, MOST_LOGS, MOST_MUTATORS}
use Rattle.far_word.specs.Sizes.{words_for}
use Rattle.far_events.specs.declared.event.Event.{Event}
use Rattle.far_events.specs.declared.event.Reply.{Reply}
use Rattle.far_events.specs.state.State.{addr}
use Rattle.far_table.specs.View.{ObjectView, OwnerView, View, Owner}
use Rattle.far_table.specs.Tells.{HasState, OwnerMade, OwnerRefused, Tells, owner_of}
use Rattle.far_table.specs.Views.{adopted_view, asked_view, fresh, held_at, held_view, len_of, noted_view, object_at, pinned_view, stored_view, warmed_view, with_place, with_word}
use Rattle.far_events.specs.events.Ask.{is_request}
use Rattle.far_events.specs.events.Open.{scope_word_of}
use Rattle.far_table.specs.Layout.{LOGS_AT, table_words, job_at}
use Rattle.far_table.specs.Plays.{AdoptTells, number_of}
use Rattle.far_events.specs.declared.event.Event.TheVariants.{Adopt}
use Rattle.far_table.specs.Seats.{HasPlace, HasPlaces, Remembers}
use Rattle.far_table.proofs.Noting.{noted_there}
use Rattle.far_table.proofs.ViewedLogs.{left_there, logs_kept}

-- a seat's table, as its `Arc` shows it, has this word
pub inside : {n : ℕ} (id here there : TableId) (i : ℕ) → id ≡ here → there ≡ here → id.words ≡ n → i < n → (id ≡ there) × (i < there.words)
inside id here there i a b wide small = let c = ap (λ (z : TableId). z.words) (a ∙ sym b) in (a ∙ sym b, omega arith)

-- and the word of each job
pub job_inside : {n : ℕ} (id here there : TableId) (j : ℕ) → id ≡ here → there ≡ here → id.words ≡ n → j < JOBS → LOGS_AT ≤ n → (id ≡ there) × (job_at j < there.words)
job_inside id here there j a b wide low most = inside id here there (job_at j) a b wide (omega arith)

-- the scope word at the epoch that a seat keeps
pub remembered_word : (epoch : Option ℕ) (n : ℕ) → Remembers epoch n → IsSome epoch → (2 * n + 1 ≡ scope_word_of epoch) × (n < EPOCH_END)
remembered_word None n h there = absurd (false≢true there)
remembered_word (Some e) n h there = let t = h e refl in (ap (λ k. 2 * k + 1) (sym t.0), t.1)

-- the invariant of an owner's seat
abbrev pub SeatOk : TableId → TableId → View → ℕ → ℕ → List ℕ → Type 0
SeatOk id here v number epoch places = (id ≡ here) × (id.words ≡ table_words (owner_of v).logs) × (v ≡ Owner (owner_of v)) × ((owner_of v).number ≡ number) × (number < MOST_MUTATORS)
    × Remembers (owner_of v).epoch epoch × (length places ≡ CELLS) × HasPlaces (owner_of v) places × HasState (owner_of v)

pub seat_stays : (id later here : TableId) (v v' : View) (number epoch epoch' : ℕ) (places places' : List ℕ) (e : Event) (r : Reply) (o' : OwnerView) →
    SeatOk id here v number epoch places → later ≡ id → Tells v v' e r o' → Remembers o'.epoch epoch' → length places' ≡ CELLS → HasPlaces o' places' →
    SeatOk later here v' number epoch' places'
seat_stays id later here v v' number epoch epoch' places places' e r o' i same t remembers long has =
    let view : owner_of v' ≡ o' = ap owner_of t.after_is in (
      same ∙ i.0,
      ap (λ (z : TableId). z.words) same ∙ (i.1 ∙ ap (λ n. table_words n) (logs_kept e (owner_of v) r o' t.made ∙ ap (λ (z : OwnerView). z.logs) (sym view))),
      t.after_is ∙ ap (λ z. Owner (owner_of z)) (sym t.after_is),
      ap (λ (z : OwnerView). z.number) view ∙ (t.number ∙ i.3),
      i.4,
      subst (λ (z : OwnerView). Remembers z.epoch epoch') (sym view) remembers,
      long,
      subst (λ (z : OwnerView). HasPlaces z places') (sym view) has,
      subst HasState (sym view) (left_there e (owner_of v) r o' t.made),
    )

-- a list with nothing held, or what is held as it was
pub places_same : (o w : OwnerView) (places : List ℕ) → w.number ≡ o.number → w.logs ≡ o.logs → held_at w ≡ held_at o → object_at w ≡ object_at o → HasPlaces o places → HasPlaces w places
places_same o w places number logs held objects has p place h = let x = has p place (sym (ap (λ f. f p) held) ∙ h) in record {
  own = x.own ∙ sym number;
  here = x.here;
  fits = subst (λ (f : ℕ → Option ObjectView). addr place + 1 + words_for (len_of (f p)) ≤ MOST_LOGS * LOG_WORDS) (sym objects) x.fits;
  inside = subst (λ (z : ℕ × (ℕ → Option ObjectView)). addr place + 1 + words_for (len_of (z.1 p)) ≤ z.0 * LOG_WORDS) (λ i. (sym logs i, sym objects i)) x.inside;
}

-- the event that a step tells of, as a caller names it
pub seat_made : (v v' : View) (old : OwnerView) (e : OwnerView → Event) (r : Reply) (o' : OwnerView) → owner_of v ≡ old → Tells v v' (e (owner_of v)) r o' → OwnerMade (e old) old r (owner_of v')
seat_made v v' old e r o' is t = subst (λ z. OwnerMade (e z) z r (owner_of v')) is (subst (λ z. OwnerMade (e (owner_of v)) (owner_of v) r z) (sym (ap owner_of t.after_is)) t.made)

-- ---- a pin, by the word found
pub rests : (n : ℕ) (x : Option PtrWord) (r : Option Place) → read_of n ≡ x → IsSome x → ((v : PtrWord) → read_of n ≡ Some v → r ≡ view_place v) → r ≡ place_to_view (read_of n)
rests n None r e there h = absurd (false≢true there)
rests n (Some v) r e there h = h v e ∙ sym (ap place_to_view e)

pub pin_kept : (v v' : View) (e : Event) (p n : ℕ) → place_to_view (read_of n) ≡ None → Tells v v' e (pin_answer n (place_to_view (read_of n))) (pinned_view p n (owner_of v)) →
    Tells v v' e (Word n) (warmed_view p n (owner_of v))
pin_kept v v' e p n none t = subst (λ (x : Option Place). Tells v v' e (pin_answer n x) (with_place p x (warmed_view p n (owner_of v)))) none t

pub pin_held : (v v' : View) (e : Event) (p n : ℕ) (place : Place) → place_to_view (read_of n) ≡ Some place →
    Tells v v' e (pin_answer n (place_to_view (read_of n))) (pinned_view p n (owner_of v)) → Tells v v' e (Held place) (held_view p place (warmed_view p n (owner_of v)))
pin_held v v' e p n place some t = subst (λ (x : Option Place). Tells v v' e (pin_answer n x) (with_place p x (warmed_view p n (owner_of v)))) some t

-- HOT that is counted is no place
pub places_warmed : (p n : ℕ) (o : OwnerView) (places : List ℕ) → HasPlaces o places → HasPlaces (warmed_view p n o) places
places_warmed p n o places has = places_same o (warmed_view p n o) places refl refl refl refl has

-- the place of one object more
pub places_put : (o : OwnerView) (places : List ℕ) (p : ℕ) (place : Place) → HasPlaces o places → length places ≡ CELLS → p / CELLS ≡ o.number →
    addr place + 1 + words_for (len_of (object_at o p)) ≤ MOST_LOGS * LOG_WORDS → addr place + 1 + words_for (len_of (object_at o p)) ≤ o.logs * LOG_WORDS → HasPlaces (held_view p place o) (set places (p % CELLS) (addr place + 1))
places_put o places p place has long own fits within q other h = dite (ℕ_discrete q p)
    (λ e. let same : Some place ≡ Some other = sym (put_same (held_at o) p (Some place) q e) ∙ h in
    let is : place ≡ other = cc in
    subst (λ (z : ℕ × Place). HasPlace (held_view p place o) (set places (p % CELLS) (addr place + 1)) z.0 z.1) (λ i. (sym e i, is i))
    record { own = own; here = get_or-set_same places (p % CELLS) (addr place + 1) 0 (omega arith); fits = fits; inside = within })
    (λ ne. let x = has q other (sym (put_other (held_at o) p (Some place) q ne) ∙ h) in let mine = x.own in record {
      own = x.own;
      here = get_or-set_other places (p % CELLS) (q % CELLS) (addr place + 1) 0 (λ e. ne (omega arith)) ∙ x.here;
      fits = x.fits;
      inside = x.inside;
    })

-- what a request changes of a view
pub asked_epoch : (p : ℕ) (k : Mark) (n : ℕ) (o : OwnerView) → (asked_view p k n o).epoch ≡ o.epoch
asked_epoch p Hot n o = refl
asked_epoch p Evac n o = refl
asked_epoch p Dirty n o = refl
asked_epoch p Moved n o = refl
asked_epoch p Dropped n o = refl

-- the word found is noted
pub asked_found : (p : ℕ) (k : Mark) (n : ℕ) (o : OwnerView) → is_request k ≡ true → (asked_view p k n o).found ≡ (p, n) ∷ o.found
asked_found p Hot n o asks = absurd (false≢true asks)
asked_found p Evac n o asks = absurd (false≢true asks)
asked_found p Dirty n o asks = absurd (false≢true asks)
asked_found p Moved n o asks = refl
asked_found p Dropped n o asks = refl

pub places_asked : (p : ℕ) (k : Mark) (n : ℕ) (o : OwnerView) (places : List ℕ) → held_at o p ≡ None → HasPlaces o places → HasPlaces (asked_view p k n o) places
places_asked p Hot n o places free has = has
places_asked p Evac n o places free has = has
places_asked p Dirty n o places free has = has
places_asked p Moved n o places free has = places_same o (asked_view p Moved n o) places refl refl refl refl has
places_asked p Dropped n o places free has = λ q place h.
    let x = has q place h in
    let ne : q ≢ p = λ e. let odd : None ≡ Some place = sym free ∙ (ap (held_at o) (sym e) ∙ h) in cc in record {
      own = x.own;
      here = x.here;
      fits = subst (λ z. addr place + 1 + words_for (len_of z) ≤ MOST_LOGS * LOG_WORDS) (sym (put_other (object_at o) p None q ne)) x.fits;
      inside = subst (λ z. addr place + 1 + words_for (len_of z) ≤ o.logs * LOG_WORDS) (sym (put_other (object_at o) p None q ne)) x.inside;
    }

-- a store changes no length
same_long : (i v : ℕ) (x : Option ObjectView) → len_of (with_word i v x) ≡ len_of x
same_long i v None = refl
same_long i v (Some x) = refl

pub places_stored : (p i v : ℕ) (o : OwnerView) (places : List ℕ) → HasPlaces o places → HasPlaces (stored_view p i v o) places
places_stored p i v o places has q place h = let x = has q place h in
    let same : len_of (object_at (stored_view p i v o) q) ≡ len_of (object_at o q) = put_both (λ (y : Option ObjectView). len_of y ≡ len_of (object_at o q)) (object_at o) p (with_word i v (object_at o p)) q
    (λ e. same_long i v (object_at o p) ∙ ap (λ z. len_of (object_at o z)) (sym e)) (λ _. refl) in
    record {
      own = x.own;
      here = x.here;
      fits = subst (λ n. addr place + 1 + words_for n ≤ MOST_LOGS * LOG_WORDS) (sym same) x.fits;
      inside = subst (λ n. addr place + 1 + words_for n ≤ o.logs * LOG_WORDS) (sym same) x.inside;
    }

-- ---- an adoption, by the word found
pub places_adopted : (p n : ℕ) (o : OwnerView) (places : List ℕ) → held_at o p ≡ None → HasPlaces o places → HasPlaces (adopted_view p n o) places
places_adopted p n o places free has q place h =
    let x = has q place h in
    let ne : q ≢ p = λ e. let odd : None ≡ Some place = sym free ∙ (ap (held_at o) (sym e) ∙ h) in cc in record {
      own = x.own;
      here = x.here;
      fits = subst (λ z. addr place + 1 + words_for (len_of z) ≤ MOST_LOGS * LOG_WORDS) (sym (put_other (object_at o) p (Some (fresh n)) q ne)) x.fits;
      inside = subst (λ z. addr place + 1 + words_for (len_of z) ≤ o.logs * LOG_WORDS) (sym (put_other (object_at o) p (Some (fresh n)) q ne)) x.inside;
    }

pub adopt_made : (t : Bool) (v v' : View) (p n : ℕ) → t ≡ true → AdoptTells t v v' p n → Tells v v' (Adopt (number_of v) p) (Word n) (adopted_view p n (owner_of v))
adopt_made true v v' p n e h = h
adopt_made false v v' p n e h = absurd (false≢true e)

pub adopt_refused : (t : Bool) (v v' : View) (p n : ℕ) → t ≡ false → AdoptTells t v v' p n → (v' ≡ Owner (noted_view p n (owner_of v))) × OwnerRefused (Adopt (number_of v) p) (owner_of v)
adopt_refused true v v' p n e h = absurd (false≢true (sym e))
adopt_refused false v v' p n e h = h

-- the invariant holds after it, made or refused
pub adopt_stays : (id later here : TableId) (v v' : View) (number epoch : ℕ) (places : List ℕ) (t : Bool) (p n : ℕ) → SeatOk id here v number epoch places → later ≡ id →
    held_at (owner_of v) p ≡ None → AdoptTells t v v' p n → SeatOk later here v' number epoch places
adopt_stays id later here v v' number epoch places true p n i same free t = seat_stays id later here v v' number epoch epoch places places _ _ _ i same t i.5 i.6 (places_adopted p n _ places free i.7)
adopt_stays id later here v v' number epoch places false p n i same free t =
    let o : OwnerView = owner_of v in
    subst (λ z. SeatOk later here z number epoch places) (sym t.0)
    (same ∙ i.0, ap (λ (z : TableId). z.words) same ∙ i.1, refl, i.3, i.4, i.5, i.6, places_same o (noted_view p n o) places refl refl refl refl i.7, noted_there o p n i.8)

pub if_some : {X : Type 0} (r : Option X) (x : X) (P : X → Type 0) → r ≡ Some x → P x → IfSome r P
if_some r x P e h = subst (λ z. IfSome z P) (sym e) h

pub if_none : {X : Type 0} (r : Option X) (P : X → Type 0) → r ≡ None → IfSome r P
if_none r P e = subst (λ z. IfSome z P) (sym e) tt
