-- From facts about words and all views to the rule of the table, once for all kinds of step of an owner's seat and of a copier's.
use Rattle.std.proofs.Common.{◌≡◌, ℕ, suc, List, ◌∷◌, map, set, sym, refl, ap, ◌∙◌, subst}
use Rattle.std.specs.Prelude.{slice_index}
use mathlib.Core.Option.{some}
use lib.ListN.{get_elem?}
use lib.Seq.{map-set, set-get_or}
use Rattle.atomic_table.specs.Table.{State, Me, keeps, Allows}
use Rattle.atomic_table.proofs.Lists.{at_longer}
use Rattle.far_events.specs.declared.event.Event.{Event}
use Rattle.far_events.specs.declared.event.Reply.{Reply}
use Rattle.far_events.specs.events.Step.{Fits}
use Rattle.far_hand.specs.Makers.{ByCopier, ByOwner, maker}
use Rattle.far_table.specs.View.{BookView, CopierView, OtherViews, OwnerView, Role, View, Book, Owner, Copier, AsOwner, AsCopier, roles, seat_of, with_copier, with_owner}
use Rattle.far_table.specs.Rule.{Facts, Running}
use Rattle.far_table.specs.Tells.{CopierTells, Tells, copier_of, owner_of}
use Rattle.far_table.proofs.CopyFrames.{CopyStep, copy_facts, copy_made}
use Rattle.far_table.proofs.OwnSteps.{OwnStep, own_facts, own_made}
use Rattle.far_table.proofs.Places.{set_before}
use Rattle.far_table.proofs.Roles.{behind, copier_place, owner_place}

module _ {S : Type 0} where
  -- where a seat that isn't the book's has its place among all others
  place_of : (s : State S View) (r : Running s) (id : ℕ) (v : Role) → get_elem? s.views id ≡ some (seat_of v) →
      (k : ℕ) × (id ≡ suc k) × (get_elem? r.dealt k ≡ some v) × (get_elem? (roles r.others) k ≡ some v)
  place_of s r id v at =
      let t = behind r.book r.dealt id v (subst (λ l. get_elem? l id ≡ some (seat_of v)) r.views at) in
      (t.0, t.1, t.2, subst (λ l. get_elem? l t.0 ≡ some v) r.all (at_longer r.dealt r.book.rest t.0 v t.2))

  -- its view is another from now on
  goes_on : (s : State S View) (r : Running s) (id k : ℕ) (v w : Role) → id ≡ suc k → get_elem? r.dealt k ≡ some v → (ws : List ℕ) (os : OtherViews) → set (roles r.others) k w ≡ roles os → Facts ws r.book os →
      Running record { words = ws; homes = s.homes; views = set s.views id (seat_of w) }
  goes_on s r id k v w is at ws os after facts = record {
    book = r.book;
    others = os;
    dealt = set r.dealt k w;
    views = ap (λ l. set l id (seat_of w)) r.views ∙ (ap (λ j. set (Book r.book ∷ map seat_of r.dealt) j (seat_of w)) is ∙ ap (λ l. Book r.book ∷ l) (sym (map-set seat_of r.dealt k w)));
    all = sym (set_before r.dealt r.book.rest k w v at) ∙ (ap (λ l. set l k w) r.all ∙ after);
    facts = facts;
  }

  -- a step of an owner's seat owes the facts after it, of any words and views that meet them
  pub owner_allows : (slots id i : ℕ) (me : Me S View) (o : OwnerView) (f : ℕ → ℕ) (then : ℕ → Me S View → Type 0) → me.0 ≡ Owner o →
      ((ws : List ℕ) (b : BookView) (os : OtherViews) → Facts ws b os → get_elem? os.owners o.number ≡ some o →
      (w : OwnerView) × Facts (set ws i (f (slice_index ws i))) b (with_owner os o.number w) × then (slice_index ws i) (Owner w, me.1)) →
      Allows Running slots id me i f then
  owner_allows slots id i me o f then is asked s r wide at small =
      let p = place_of s r id (AsOwner o) (at ∙ ap some is) in
      let q = owner_place s.words r.book r.others r.facts p.0 o p.3 in
      let t = asked s.words r.book r.others r.facts q.0 in
      (Owner t.0, keeps, tt, goes_on s r id p.0 (AsOwner o) (AsOwner t.0) p.1 p.2 _ _ (q.1 t.0) t.1, t.2)

  -- and one of a copier's
  pub copier_allows : (slots id i : ℕ) (me : Me S View) (v : CopierView) (f : ℕ → ℕ) (then : ℕ → Me S View → Type 0) → me.0 ≡ Copier v →
      ((ws : List ℕ) (b : BookView) (os : OtherViews) → Facts ws b os → get_elem? os.copiers v.number ≡ some v →
      (w : CopierView) × Facts (set ws i (f (slice_index ws i))) b (with_copier os v.number w) × then (slice_index ws i) (Copier w, me.1)) →
      Allows Running slots id me i f then
  copier_allows slots id i me v f then is asked s r wide at small =
      let p = place_of s r id (AsCopier v) (at ∙ ap some is) in
      let q = copier_place s.words r.book r.others r.facts p.0 v p.3 in
      let t = asked s.words r.book r.others r.facts q.0 in
      (Copier t.0, keeps, tt, goes_on s r id p.0 (AsCopier v) (AsCopier t.0) p.1 p.2 _ _ (q.1 t.0) t.1, t.2)

  module _ (slots id i : ℕ) (me : Me S View) (is : me.0 ≡ Owner (owner_of me.0)) (e : Event) (by : maker e ≡ ByOwner (owner_of me.0).number) (fits : Fits e)
      (r : ℕ → Reply) (w : ℕ → OwnerView) (then : ℕ → Me S View → Type 0) where
    abbrev o : OwnerView
    o = owner_of me.0

    -- a step that writes: it is this event, the reply and the view after go by the word found
    pub owner_makes : (f : ℕ → ℕ) →
        ((ws : List ℕ) (b : BookView) (os : OtherViews) → Facts ws b os → get_elem? os.owners o.number ≡ some o →
        OwnStep ws b os o e (r (slice_index ws i)) (set ws i (f (slice_index ws i))) (w (slice_index ws i))) →
        ((ws : List ℕ) (b : BookView) (os : OtherViews) → Facts ws b os → get_elem? os.owners o.number ≡ some o →
        Tells me.0 (Owner (w (slice_index ws i))) e (r (slice_index ws i)) (w (slice_index ws i)) → then (slice_index ws i) (Owner (w (slice_index ws i)), me.1)) →
        Allows Running slots id me i f then
    owner_makes f steps tells = owner_allows slots id i me o f then is (λ ws b os facts at.
        let n : ℕ = slice_index ws i in
        let k = steps ws b os facts at in (
          w n,
          own_facts ws b os facts o at e by fits (r n) (set ws i (f n)) (w n) k,
          tells ws b os facts at record { after_is = refl; number = k.mine.number; made = own_made ws b os facts o at e by fits (r n) (set ws i (f n)) (w n) k },
        ))

    -- a step that reads
    pub owner_reads :
        ((ws : List ℕ) (b : BookView) (os : OtherViews) → Facts ws b os → get_elem? os.owners o.number ≡ some o →
        OwnStep ws b os o e (r (slice_index ws i)) ws (w (slice_index ws i))) →
        ((ws : List ℕ) (b : BookView) (os : OtherViews) → Facts ws b os → get_elem? os.owners o.number ≡ some o →
        Tells me.0 (Owner (w (slice_index ws i))) e (r (slice_index ws i)) (w (slice_index ws i)) → then (slice_index ws i) (Owner (w (slice_index ws i)), me.1)) →
        Allows Running slots id me i (λ n. n) then
    owner_reads steps = owner_makes (λ n. n) (λ ws b os facts at.
        subst (λ l. OwnStep ws b os o e (r (slice_index ws i)) l (w (slice_index ws i))) (sym (set-get_or ws i 0)) (steps ws b os facts at))

  -- the same of a copier's
  module _ (slots id i : ℕ) (me : Me S View) (is : me.0 ≡ Copier (copier_of me.0)) (e : Event) (by : maker e ≡ ByCopier (copier_of me.0).number) (fits : Fits e)
      (r : ℕ → Reply) (w : ℕ → CopierView) (then : ℕ → Me S View → Type 0) where
    abbrev v : CopierView
    v = copier_of me.0

    pub copier_makes : (f : ℕ → ℕ) →
        ((ws : List ℕ) (b : BookView) (os : OtherViews) → Facts ws b os → get_elem? os.copiers v.number ≡ some v →
        CopyStep ws b os v e (r (slice_index ws i)) (set ws i (f (slice_index ws i))) (w (slice_index ws i))) →
        ((ws : List ℕ) (b : BookView) (os : OtherViews) → Facts ws b os → get_elem? os.copiers v.number ≡ some v →
        CopierTells me.0 (Copier (w (slice_index ws i))) e (r (slice_index ws i)) (w (slice_index ws i)) → then (slice_index ws i) (Copier (w (slice_index ws i)), me.1)) →
        Allows Running slots id me i f then
    copier_makes f steps tells = copier_allows slots id i me v f then is (λ ws b os facts at.
        let n : ℕ = slice_index ws i in
        let k = steps ws b os facts at in (
          w n,
          copy_facts ws b os facts v at e by fits (r n) (set ws i (f n)) (w n) k,
          tells ws b os facts at record { after_is = refl; number = k.number; made = copy_made ws b os facts v at e by fits (r n) (set ws i (f n)) (w n) k },
        ))

    pub copier_reads :
        ((ws : List ℕ) (b : BookView) (os : OtherViews) → Facts ws b os → get_elem? os.copiers v.number ≡ some v →
        CopyStep ws b os v e (r (slice_index ws i)) ws (w (slice_index ws i))) →
        ((ws : List ℕ) (b : BookView) (os : OtherViews) → Facts ws b os → get_elem? os.copiers v.number ≡ some v →
        CopierTells me.0 (Copier (w (slice_index ws i))) e (r (slice_index ws i)) (w (slice_index ws i)) → then (slice_index ws i) (Copier (w (slice_index ws i)), me.1)) →
        Allows Running slots id me i (λ n. n) then
    copier_reads steps = copier_makes (λ n. n) (λ ws b os facts at.
        subst (λ l. CopyStep ws b os v e (r (slice_index ws i)) l (w (slice_index ws i))) (sym (set-get_or ws i 0)) (steps ws b os facts at))
