-- Places among those that have seats, or wait for them: copiers first, then owners.
use Rattle.std.proofs.Common.{◌≡◌, ℕ, zero, suc, List, [], ◌∷◌, ◌++◌, map, set, refl, sym, ap, ◌∙◌, subst}
use mathlib.Core.Option.{some, some-injective, some-ne-none}
use lib.ListN.{get_elem?}
use lib.Seq.{map-set}
use Rattle.far_table.specs.View.{BookView, CopierView, OtherViews, OwnerView, Role, Book, AsOwner, AsCopier, roles, seat_of, with_copier, with_owner}
use Rattle.far_table.specs.Rule.{Facts}

-- a seat is of one role
one_role : (x v : Role) → seat_of x ≡ seat_of v → x ≡ v
one_role (AsOwner x) (AsOwner o) e = let is : x ≡ o = cc in ap AsOwner is
one_role (AsOwner x) (AsCopier v) e = absurd (cc)
one_role (AsCopier x) (AsOwner o) e = absurd (cc)
one_role (AsCopier x) (AsCopier v) e = let is : x ≡ v = cc in ap AsCopier is

no_book : (b : BookView) (v : Role) → Book b ≡ seat_of v → ⊥
no_book b (AsOwner o) e = cc
no_book b (AsCopier v) e = cc

among : (dealt : List Role) (k : ℕ) (v : Role) → get_elem? (map seat_of dealt) k ≡ some (seat_of v) → get_elem? dealt k ≡ some v
among [] k v e = absurd (some-ne-none (seat_of v) (sym e))
among (x ∷ xs) zero v e = ap some (one_role x v (some-injective (seat_of x) (seat_of v) e))
among (x ∷ xs) (suc k) v e = among xs k v e

-- all seats but the book's stand behind it
pub behind : (b : BookView) (dealt : List Role) (id : ℕ) (v : Role) → get_elem? (Book b ∷ map seat_of dealt) id ≡ some (seat_of v) → (k : ℕ) × (id ≡ suc k) × (get_elem? dealt k ≡ some v)
behind b dealt zero v e = absurd (no_book b v (some-injective (Book b) (seat_of v) e))
behind b dealt (suc k) v e = (k, refl, among dealt k v e)

none_among : (dealt : List Role) (k : ℕ) (b : BookView) → get_elem? (map seat_of dealt) k ≡ some (Book b) → ⊥
none_among [] k b e = some-ne-none (Book b) (sym e)
none_among (x ∷ xs) zero b e = no_book b x (sym (some-injective (seat_of x) (Book b) e))
none_among (x ∷ xs) (suc k) b e = none_among xs k b e

-- and the book's is the first
pub book_place : (b : BookView) (dealt : List Role) (id : ℕ) (c : BookView) → get_elem? (Book b ∷ map seat_of dealt) id ≡ some (Book c) → (id ≡ 0) × (b ≡ c)
book_place b dealt zero c e = let same : Book b ≡ Book c = some-injective (Book b) (Book c) e in let is : b ≡ c = cc in (refl, is)
book_place b dealt (suc k) c e = absurd (none_among dealt k c e)

-- ---- an owner's place, and a copier's
only_owners : (os : List OwnerView) (k : ℕ) (o : OwnerView) → get_elem? (map AsOwner os) k ≡ some (AsOwner o) → get_elem? os k ≡ some o
only_owners [] k o e = absurd (some-ne-none (AsOwner o) (sym e))
only_owners (x ∷ os) zero o e = let same : AsOwner x ≡ AsOwner o = some-injective (AsOwner x) (AsOwner o) e in let is : x ≡ o = cc in ap some is
only_owners (x ∷ os) (suc k) o e = only_owners os k o e

no_copier : (os : List OwnerView) (k : ℕ) (v : CopierView) → get_elem? (map AsOwner os) k ≡ some (AsCopier v) → ⊥
no_copier [] k v e = some-ne-none (AsCopier v) (sym e)
no_copier (x ∷ os) zero v e = let odd : AsOwner x ≡ AsCopier v = some-injective (AsOwner x) (AsCopier v) e in cc
no_copier (x ∷ os) (suc k) v e = no_copier os k v e

-- an owner's place is behind all copiers
owner_among : (cs : List CopierView) (os : List OwnerView) (k : ℕ) (o : OwnerView) → get_elem? (map AsCopier cs ++ map AsOwner os) k ≡ some (AsOwner o) →
    (j : ℕ) × (get_elem? os j ≡ some o) × ((w : OwnerView) → set (map AsCopier cs ++ map AsOwner os) k (AsOwner w) ≡ map AsCopier cs ++ map AsOwner (set os j w))
owner_among [] os k o e = (k, only_owners os k o e, λ w. sym (map-set AsOwner os k w))
owner_among (x ∷ cs) os zero o e = let odd : AsCopier x ≡ AsOwner o = some-injective (AsCopier x) (AsOwner o) e in absurd (cc)
owner_among (x ∷ cs) os (suc k) o e = let t = owner_among cs os k o e in (t.0, t.1, λ w. ap (λ l. AsCopier x ∷ l) (t.2 w))

copier_among : (cs : List CopierView) (os : List OwnerView) (k : ℕ) (v : CopierView) → get_elem? (map AsCopier cs ++ map AsOwner os) k ≡ some (AsCopier v) →
    (get_elem? cs k ≡ some v) × ((w : CopierView) → set (map AsCopier cs ++ map AsOwner os) k (AsCopier w) ≡ map AsCopier (set cs k w) ++ map AsOwner os)
copier_among [] os k v e = absurd (no_copier os k v e)
copier_among (x ∷ cs) os zero v e = let same : AsCopier x ≡ AsCopier v = some-injective (AsCopier x) (AsCopier v) e in let is : x ≡ v = cc in (ap some is, λ w. refl)
copier_among (x ∷ cs) os (suc k) v e = let t = copier_among cs os k v e in (t.0, λ w. ap (λ l. AsCopier x ∷ l) (t.1 w))

module _ (ws : List ℕ) (b : BookView) (os : OtherViews) (f : Facts ws b os) (k : ℕ) where
  pub owner_place : (o : OwnerView) → get_elem? (roles os) k ≡ some (AsOwner o) → (get_elem? os.owners o.number ≡ some o) × ((w : OwnerView) → set (roles os) k (AsOwner w) ≡ roles (with_owner os o.number w))
  owner_place o e =
      let t = owner_among os.copiers os.owners k o e in
      let is : t.0 ≡ o.number = sym (f.owners t.0 o t.1).number in
      (subst (λ n. get_elem? os.owners n ≡ some o) is t.1, λ w. t.2 w ∙ ap (λ n. roles (with_owner os n w)) is)

  pub copier_place : (v : CopierView) → get_elem? (roles os) k ≡ some (AsCopier v) → (get_elem? os.copiers v.number ≡ some v) × ((w : CopierView) → set (roles os) k (AsCopier w) ≡ roles (with_copier os v.number w))
  copier_place v e =
      let t = copier_among os.copiers os.owners k v e in
      let is : k ≡ v.number = sym (f.copiers k v t.0) in
      (subst (λ n. get_elem? os.copiers n ≡ some v) is t.0, λ w. t.1 w ∙ ap (λ n. roles (with_copier os n w)) is)
