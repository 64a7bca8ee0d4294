-- As long as the epoch doesn't rise no log comes into the core's round, and nothing comes to lie in one of its logs.
use Rattle.std.proofs.Common.{◌≡◌, ℕ, ◌+◌, ◌^◌, ◌≤◌, ◌==◌, Bool, true, false, Option, Some, None, List, [], ◌∷◌, inl, inr, arith, ap, sym, refl, ◌∙◌, subst, bit_or}
use Rattle.std.specs.List.{AllByRecursion}
use Rattle.std.specs.Prelude.{◌⊎◌, is_some}
use Rattle.std.proofs.lemmas.Bool.{cond_both, eqb-true, false≢true}
use Rattle.far_word.specs.declared.job.Job.{Job}
use Rattle.far_word.specs.declared.mark.Mark.TheVariants.{Evac}
use Rattle.far_word.specs.declared.mark.Marks.{Marks}
use Rattle.far_word.specs.declared.pointer.Place.{Place}
use Rattle.far_word.specs.declared.pointer.PtrWord.{PtrWord}
use Rattle.far_word.specs.declared.pointer.PtrWord.TheVariants as pointer
use Rattle.far_word.specs.Job.{job_of}
use Rattle.far_word.specs.Mark.{position}
use Rattle.far_word.specs.Pointer.{read_of}
use Rattle.far_events.specs.declared.event.Event.{Event}
use Rattle.far_events.specs.declared.event.Event.TheVariants.{ReadEpoch, Open, Pin, Load, Store, Close, Adopt, Put, Name, See, Mark, Ask, Get, Clear, Advance, Look, Offer, PeekJob, SeeJob, Claim, ReadLength, Read, Write, Finish, Collect, Soil}
use Rattle.far_events.specs.declared.event.Reply.{Reply}
use Rattle.far_events.specs.declared.event.Reply.TheVariants.{Refused}
use Rattle.far_events.specs.declared.event.Task.{Task}
use Rattle.far_events.specs.declared.naming.Naming.{Naming}
use Rattle.far_events.specs.declared.naming.Naming.TheVariants.{Places, Retires, Evicts, Stays, Moves, Fetches}
use Rattle.far_events.specs.events.Claim.{after_claim, offered_in}
use Rattle.far_events.specs.events.Clear.{evac_cleared, round_left}
use Rattle.far_events.specs.events.Collect.{collected}
use Rattle.far_events.specs.events.Copied.{WasCopied, copied_job, with_named}
use Rattle.far_events.specs.events.Finish.{after_finish}
use Rattle.far_events.specs.events.Offer.{after_offer}
use Rattle.far_events.specs.events.Legal.{Legal}
use Rattle.far_events.specs.events.Name.{after_naming}
use Rattle.far_events.specs.events.Naming.{IsNaming, naming_of, naming_row, no_marks}
use Rattle.far_events.specs.events.namings.Moves.{MayMove, after_move}
use Rattle.far_events.specs.events.NewSpans.{IsNext, with_span}
use Rattle.far_events.specs.events.Ranges.{after_events}
use Rattle.far_events.specs.events.Step.{Fits, after, answer, is_legal, step_of}
use Rattle.far_events.specs.state.Law.{Law}
use Rattle.far_events.specs.state.State.{Copying, State, put}
use Rattle.far_events.proofs.Copied.{copied_fact, copied_outside, copied_test}
use Rattle.far_core.proofs.Keeps.{step_keeps}
use Rattle.far_events.proofs.Namings.{naming_only}
use Rattle.far_core.proofs.Owing.{is_fact}
use Rattle.far_events.proofs.Put.{put_both}
use Rattle.far_hand.specs.Others.{OthersChange}
use Rattle.far_hand.proofs.Finding.{near_known}
use Rattle.far_hand.proofs.OthersWork.{change}
use Rattle.far_book.proofs.region.Places.{next_unsealed}
use Rattle.far_evac.specs.Laws.{but_evac}
use Rattle.far_evac.specs.Strays.{ComersJoin, EventsBringNone, NoneComes, OwnersBringNone}
use Rattle.far_evac.proofs.Marks.{IsNearWord, clear_sets, mark_sets}
use Rattle.far_evac.proofs.NearBut.{near_but}
use Rattle.far_evac.proofs.Framed.{name_one}

-- ---- steps after each other
pub none_same : (s : State) → NoneComes s s
none_same s = record { round = λ l is. is; near = λ p len ds place marks near is. (marks, near) }

pub comers_join : ComersJoin
comers_join s t u a b = record {
  round = λ l is. a.round l (b.round l is);
  near = λ p len ds place marks near is.
      let x = b.near p len ds place marks near is in
      a.near p len ds place x.0 x.1 (b.round place.log is);
}

-- ---- owners
pub owners_bring_none : OwnersBringNone
owners_bring_none s t owners = record {
  round = λ l is. sym (ap (λ (u : State). u.round l) owners.rest) ∙ is;
  near = λ p len ds place marks near is. let x = near_known (s.cell p) (t.cell p) (owners.cells p) len ds place marks near in (x.marks, x.near);
}

-- ---- one cell changes
abbrev LayThere : State → ℕ → ℕ → ℕ → Place → Type 0
LayThere s p len ds place = (old : Marks) × (read_of (s.cell p) ≡ Some (pointer.Near len ds place old))

module _ (s t : State) (p new : ℕ) (cells : t.cell ≡ put s.cell p new) (round : (l : ℕ) → t.round l ≡ true → s.round l ≡ true)
    (lay : (len ds : ℕ) (place : Place) (marks : Marks) → read_of new ≡ Some (pointer.Near len ds place marks) → t.round place.log ≡ true → LayThere s p len ds place) where
  one_cell : NoneComes s t
  one_cell = record {
    round = round;
    near = λ q len ds place marks near is.
        put_both (λ w. read_of w ≡ Some (pointer.Near len ds place marks) → LayThere s q len ds place) s.cell p new q
        (λ e h. subst (λ x. LayThere s x len ds place) (sym e) (lay len ds place marks h is))
        (λ _ h. (marks, h))
        (ap (λ (f : ℕ → ℕ). read_of (f q)) (sym cells) ∙ near);
  }

-- ---- a naming
same_place : (n d : ℕ) (to : Place) (m : Marks) (len ds : ℕ) (place : Place) (marks : Marks) → Some (pointer.Near n d to m) ≡ Some (pointer.Near len ds place marks) → to ≡ place
same_place n d to m len ds place marks e = cc

free_near : (len ds : ℕ) (place : Place) (marks : Marks) → Some pointer.Free ≡ Some (pointer.Near len ds place marks) → ⊥
free_near len ds place marks e = absurd cc

far_near : (n d : ℕ) (m : Marks) (len ds : ℕ) (place : Place) (marks : Marks) → Some (pointer.Far n d m) ≡ Some (pointer.Near len ds place marks) → ⊥
far_near n d m len ds place marks e = absurd cc

stays_there : (n d : ℕ) (to : Place) (m old : Marks) (len ds : ℕ) (place : Place) (marks : Marks) → Some (pointer.Near n d to m) ≡ Some (pointer.Near len ds place marks) →
    Some (pointer.Near n d to old) ≡ Some (pointer.Near len ds place old)
stays_there n d to m old len ds place marks e =
    let lens : n ≡ len = cc in
    let structures : d ≡ ds = cc in
    let places : to ≡ place = cc in
    λ i. Some (pointer.Near (lens i) (structures i) (places i) old)

module _ (s : State) (law : Law s) (p new : ℕ) where
  -- no span is taken in a log of the round
  taken_none : (n d len : ℕ) (to : Place) (m : Marks) → read_of new ≡ Some (pointer.Near n d to m) → IsNext s to → NoneComes s (with_span s p new len to)
  taken_none n d len to m says next = one_cell s (with_span s p new len to) p new refl (λ l is. is)
      (λ k e place marks near is.
      absurd (next_unsealed s to next (law.rounds.round_sealed to.log (ap (λ (x : Place). s.round x.log) (same_place n d to m k e place marks (sym says ∙ near)) ∙ is))))

  -- an object that moves takes such a span, or was copied to another log
  move_none : (len ds : ℕ) (from to : Place) {m : Marks} → read_of new ≡ Some (pointer.Near len ds to m) → MayMove s p len ds from to ⊎ WasCopied s p from to → (o : Option ℕ) → copied_job s p from to ≡ o →
      NoneComes s (after_move s p new len to o)
  move_none len ds from to says (inl legal) None e = taken_none len ds len to _ says legal.span.next
  move_none len ds from to says (inr has) None e = absurd (false≢true (sym (ap is_some e) ∙ copied_test s p from to has))
  move_none len ds from to says legal (Some j) e =
      let x = copied_fact s p from to j e in
      one_cell s (with_named s p new j) p new refl (λ l is. is)
      (λ n d place marks near is.
      absurd (false≢true (sym (copied_outside s law p from to j x.0 x.1) ∙ ap (λ (y : Place). s.round y.log) (same_place len ds to _ n d place marks (sym says ∙ near)) ∙ is)))

  form_none : (form : Naming) → IsNaming form (read_of (s.cell p)) (read_of new) → (naming_row s p new form).Legal → NoneComes s (naming_row s p new form).after
  form_none (Places len ds place) says legal = taken_none len ds len place _ says.1 legal.0.next
  form_none Retires says legal = one_cell s (record s { cell = put s.cell p new }) p new refl (λ l is. is) (λ len ds place marks near is. absurd (free_near len ds place marks (sym says.1 ∙ near)))
  form_none (Evicts n at) (d, m, was, alive, wanted, says) legal = one_cell s (naming_row s p new (Evicts n at)).after p new refl (λ l is. is)
      (λ len ds place marks near is. absurd (far_near n d no_marks len ds place marks (sym says ∙ near)))
  form_none Stays (n, d, at, m, was, alive, asked, unwanted, says) legal = one_cell s (record s { cell = put s.cell p new }) p new refl (λ l is. is)
      (λ len ds place marks near is. (m, was ∙ stays_there n d at _ m len ds place marks (sym says ∙ near)))
  form_none (Moves len ds from to) says legal = move_none len ds from to says.1 legal (copied_job s p from to) refl
  form_none (Fetches len ds place) says legal = taken_none len ds len place _ says.1 legal.span.next

  name_none : (old : ℕ) → Legal s (Name p old new) → NoneComes s (after s (Name p old new))
  name_none old (range, (form, says, legal)) = cond_both (s.cell p == old) (after_naming s p new (naming_of (read_of old) (read_of new))) s (NoneComes s)
      (λ e.
      let is : s.cell p ≡ old = eqb-true (s.cell p) old e in
      subst (λ o. NoneComes s (after_naming s p new o)) (sym (naming_only form (read_of old) (read_of new) says))
      (form_none form (subst (λ w. IsNaming form (read_of w) (read_of new)) (sym is) says) legal))
      (λ _. none_same s)

-- ---- EVAC is set or taken
left_round : (round : ℕ → Bool) (cell : Option PtrWord) (l : ℕ) → round_left round cell l ≡ true → round l ≡ true
left_round round (Some (pointer.Near len ds place marks)) l is = put_both (λ b. b ≡ true → round l ≡ true) round place.log false l (λ _ odd. absurd (false≢true odd)) (λ _ h. h) is
left_round round _ l is = is

module _ (s : State) (law : Law s) (p len ds : ℕ) (place : Place) (marks : Marks) (near : read_of (s.cell p) ≡ Some (pointer.Near len ds place marks)) where
  word : IsNearWord (s.cell p)
  word = ((law.cells.cell_read p).0, (len, ds, place, marks, near))

  mark_none : NoneComes s (after s (Mark p))
  mark_none = one_cell s (after s (Mark p)) p (bit_or (s.cell p) (2 ^ position Evac)) refl (λ l is. is)
      (λ n d at k new is. near_but (read_of (s.cell p)) n d at k (ap but_evac (sym new) ∙ (mark_sets (s.cell p) word).like.same))

  clear_none : NoneComes s (after s (Clear p))
  clear_none = one_cell s (after s (Clear p)) p (evac_cleared (s.cell p)) refl (left_round s.round (read_of (s.cell p)))
      (λ n d at k new is. near_but (read_of (s.cell p)) n d at k (ap but_evac (sym new) ∙ (clear_sets (s.cell p) word).like.same))

get_none : (s : State) (l at : ℕ) (free : Bool) → NoneComes s (after s (Get l at free))
get_none s l at false = none_same s
get_none s l at true = record {
  round = λ k is. put_both (λ b. b ≡ true → s.round k ≡ true) s.round l false k (λ _ odd. absurd (false≢true odd)) (λ _ h. h) is;
  near = λ p len ds place marks near is. (marks, near);
}

get_epoch : (s : State) (l at : ℕ) (free : Bool) → (after s (Get l at free)).epoch ≡ s.epoch
get_epoch s l at false = refl
get_epoch s l at true = refl

-- ---- any event: the epoch stays, and nothing comes; or it rises
pub record Brings (s t : State) : Type 0 where
  pub rises : s.epoch ≤ t.epoch
  pub none : t.epoch ≡ s.epoch → NoneComes s t

still_none : (s t : State) → t.epoch ≡ s.epoch → NoneComes s t → Brings s t
still_none s t same comes = record { rises = omega (arith, same); none = λ _. comes }

owners_none : (s t : State) → t.epoch ≡ s.epoch → OthersChange s t → Brings s t
owners_none s t same owners = still_none s t same (owners_bring_none s t owners)

-- what is copied brings nothing
copying_brings : (s : State) (k : Copying) → Brings s record s { copying = k }
copying_brings s k = still_none s record s { copying = k } refl (record { round = λ k is. is; near = λ p len ds place marks near is. (marks, near) })

claim_brings : (s : State) (c j : ℕ) (o : Option Job) → Brings s (after_claim s c j o)
claim_brings s c j None = still_none s s refl (none_same s)
claim_brings s c j (Some job) = copying_brings s _

finish_brings : (s : State) (c : ℕ) (o : Option Task) → Brings s (after_finish s c o)
finish_brings s c None = still_none s s refl (none_same s)
finish_brings s c (Some t) = copying_brings s _

-- an offer begins a span alone
offer_brings : (s : State) (j p : ℕ) (to : Place) (cell : Option PtrWord) → Brings s (after_offer s j p to cell)
offer_brings s j p to (Some (pointer.Near len ds from marks)) = still_none s _ refl (record { round = λ k is. is; near = λ q n d at k near is. (k, near) })
offer_brings s j p to _ = still_none s s refl (none_same s)

legal_brings : (s : State) (e : Event) → Law s → Legal s e → Brings s (after s e)
legal_brings s (ReadEpoch m) law legal = owners_none s (after s (ReadEpoch m)) refl (change s (ReadEpoch m) law refl legal)
legal_brings s (Open m) law legal = owners_none s (after s (Open m)) refl (change s (Open m) law refl legal)
legal_brings s (Pin m p) law legal = owners_none s (after s (Pin m p)) refl (change s (Pin m p) law refl legal)
legal_brings s (Load m p i) law legal = owners_none s (after s (Load m p i)) refl (change s (Load m p i) law refl legal)
legal_brings s (Store m p i w) law legal = owners_none s (after s (Store m p i w)) refl (change s (Store m p i w) law refl legal)
legal_brings s (Soil m p) law legal = owners_none s (after s (Soil m p)) refl (change s (Soil m p) law refl legal)
legal_brings s (Close m) law legal = owners_none s (after s (Close m)) refl (change s (Close m) law refl legal)
legal_brings s (Adopt m p) law legal = owners_none s (after s (Adopt m p)) refl (change s (Adopt m p) law refl legal)
legal_brings s (Ask m p k) law legal = owners_none s (after s (Ask m p k)) refl (change s (Ask m p k) law refl legal)
legal_brings s (Put l at w) law legal = still_none s (after s (Put l at w)) refl (record { round = λ k is. is; near = λ p len ds place marks near is. (marks, near) })
legal_brings s (Name p old new) law legal = still_none s (after s (Name p old new)) (ap (λ (u : State). u.epoch) (name_one s p new old).frame) (name_none s law p new old legal)
legal_brings s (See p) law legal = still_none s s refl (none_same s)
legal_brings s (Offer j p to) law legal = offer_brings s j p to (read_of (s.cell p))
legal_brings s (PeekJob c j) law legal = still_none s s refl (none_same s)
legal_brings s (SeeJob j) law legal = still_none s s refl (none_same s)
legal_brings s (Claim c j old) law legal = cond_both (s.copying.word j == old) (after_claim s c j (offered_in (job_of old))) s (Brings s) (λ _. claim_brings s c j (offered_in (job_of old))) (λ _. still_none s s refl (none_same s))
legal_brings s (ReadLength c) law legal = copying_brings s _
legal_brings s (Read c i) law legal = copying_brings s _
legal_brings s (Write c i) law legal = still_none s (after s (Write c i)) refl (record { round = λ k is. is; near = λ p len ds place marks near is. (marks, near) })
legal_brings s (Finish c) law legal = finish_brings s c (s.copying.task c)
legal_brings s (Collect j old) law legal = cond_both (s.copying.word j == old) (collected s j) s (Brings s) (λ _. copying_brings s _) (λ _. still_none s s refl (none_same s))
legal_brings s (Mark p) law (range, (len, ds, place, marks, near, inside, shut)) = still_none s (after s (Mark p)) refl (mark_none s law p len ds place marks near)
legal_brings s (Get l at free) law legal = still_none s (after s (Get l at free)) (get_epoch s l at free) (get_none s l at free)
legal_brings s (Clear p) law (range, (len, ds, place, marks, near)) = still_none s (after s (Clear p)) refl (clear_none s law p len ds place marks near)
legal_brings s (Advance logs) law legal =
    let more : s.epoch ≤ s.epoch + 1 = omega arith in
    record { rises = more; none = λ (odd : s.epoch + 1 ≡ s.epoch). absurd (omega (arith, odd)) }
legal_brings s (Look m) law legal = still_none s (after s (Look m)) refl (record { round = λ k is. is; near = λ p len ds place marks near is. (marks, near) })

-- a refused event changes nothing
pub step_brings : (s : State) (e : Event) → Law s → Brings s (step_of s e).0
step_brings s e law = cond_both (is_legal s e) (after s e, answer s e) (s, Refused) (λ (x : State × Reply). Brings s x.0)
    (λ h. legal_brings s e law (is_fact s e law h)) (λ _. still_none s s refl (none_same s))

pub brings_more : (s t u : State) → Brings s t → Brings t u → Brings s u
brings_more s t u a b = record {
  rises = omega (arith, a.rises, b.rises);
  none = λ same.
      let first : t.epoch ≡ s.epoch = omega (arith, same, a.rises, b.rises) in
      let then : u.epoch ≡ t.epoch = omega (arith, same, a.rises, b.rises) in
      comers_join s t u (a.none first) (b.none then);
}

rows_bring : (s : State) (es : List Event) → Law s → AllByRecursion Fits es → Brings s (after_events s es)
rows_bring s [] law fits = still_none s s refl (none_same s)
rows_bring s (e ∷ es) law fits = let t = (step_of s e).0 in brings_more s t (after_events t es) (step_brings s e law) (rows_bring t es (step_keeps s e law fits.0) fits.1)

pub events_bring_none : EventsBringNone
events_bring_none s es law fits same = (rows_bring s es law fits).none same
