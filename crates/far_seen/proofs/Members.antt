-- The set of what slots say, of their lines or of the stamps of these, one by one.
use Rattle.std.proofs.Common.{◌≡◌, ℕ, zero, suc, Bool, true, false, ◌||◌, Option, Some, None, List, [], ◌∷◌, ◌++◌, ◌⊎◌, inl, inr, refl, sym, ◌∙◌, ap, subst}
use Rattle.std.specs.List.{list_any}
use Rattle.std.specs.Option.{option_to_list}
use Rattle.std.specs.Bool.{Decides}
use Rattle.std.specs.Ordering.{nat_cmp, eq_by_cmp}
use Rattle.std.specs.Cmp.Lexicographic.{slice_cmp, texts_ties, nat_list_cmp_total}
use Rattle.std.specs.FinSet as set
use Rattle.std.proofs.lemmas.Slice.Eq.{bytes_eq-Decides}
use Rattle.far_index.specs.declared.slot.Slot.{Slot}
use Rattle.far_index.specs.declared.slot.Slot.TheVariants.{Empty}
use Rattle.far_index.specs.Slots.{slot_at}
use Rattle.far_seen.specs.Lines.{LineSet}
use Rattle.far_seen.specs.Parts.{all_in, set_in}

abbrev pub tied : List ℕ → List ℕ → Bool
tied q k = eq_by_cmp (slice_cmp nat_cmp) q k

-- two lines tie if they are equal
pub ties : (q k : List ℕ) → Decides (tied q k) (q ≡ k)
ties q k = subst (λ t. Decides t (q ≡ k)) (texts_ties q k) (bytes_eq-Decides q k)

-- some slot says it
abbrev pub Says : (Slot → Option (List ℕ)) → List Slot → List ℕ → Type 0
Says f ss q = (i : ℕ) × (f (slot_at ss i) ≡ Some q)

abbrev any_of : List ℕ → Option (List ℕ) → Bool
any_of q None = false
any_of q (Some x) = tied q x

front : (q : List ℕ) (o : Option (List ℕ)) (xs : List (List ℕ)) → list_any (tied q) (option_to_list o ++ xs) ≡ (any_of q o || list_any (tied q) xs)
front q None xs = refl
front q (Some x) xs = refl

not_both : (b : Bool) → b ≡ false → b ≡ true → ⊥
not_both b e f = cc

either : (a b : Bool) → (a || b) ≡ true → (a ≡ true) ⊎ (b ≡ true)
either true b e = inl refl
either false b e = inr e

left : (a b : Bool) → a ≡ true → (a || b) ≡ true
left a b e = ap (λ x. x || b) e

right : (a b : Bool) → b ≡ true → (a || b) ≡ true
right true b e = refl
right false b e = e

none_some : (q : List ℕ) → ◌≡◌ {A = Option (List ℕ)} None (Some q) → ⊥
none_some q e = cc

any_some : (q : List ℕ) (o : Option (List ℕ)) → any_of q o ≡ true → o ≡ Some q
any_some q None e = absurd (not_both false refl e)
any_some q (Some x) e = ap (λ y. Some y) (sym ((ties q x).0 e))

some_any : (q : List ℕ) (o : Option (List ℕ)) → o ≡ Some q → any_of q o ≡ true
some_any q o e = ap (any_of q) e ∙ (ties q q).1 refl

found : (q : List ℕ) (f : Slot → Option (List ℕ)) (ss : List Slot) → list_any (tied q) (all_in f ss) ≡ true → Says f ss q
found q f [] e = absurd (not_both false refl e)
found q f (s ∷ ss) e =
    elim (either (any_of q (f s)) (list_any (tied q) (all_in f ss)) (sym (front q (f s) (all_in f ss)) ∙ e)) [
      | inl here ↦ (zero, any_some q (f s) here)
      | inr there ↦ let rest = found q f ss there in (suc rest.0, rest.1)
    ]

finds : (q : List ℕ) (f : Slot → Option (List ℕ)) → f Empty ≡ None → (ss : List Slot) (i : ℕ) → f (slot_at ss i) ≡ Some q → list_any (tied q) (all_in f ss) ≡ true
finds q f none [] i e = absurd (none_some q (sym none ∙ e))
finds q f none (s ∷ ss) zero e = front q (f s) (all_in f ss) ∙ left (any_of q (f s)) (list_any (tied q) (all_in f ss)) (some_any q (f s) e)
finds q f none (s ∷ ss) (suc i) e = front q (f s) (all_in f ss) ∙ right (any_of q (f s)) (list_any (tied q) (all_in f ss)) (finds q f none ss i e)

-- a list of numbers is in the set if some slot says it
pub contains_said : (q : List ℕ) (f : Slot → Option (List ℕ)) (ss : List Slot) → f Empty ≡ None → Decides (set.contains (set_in f ss) q) (Says f ss q)
contains_said q f ss none = (
  (λ e. found q f ss (sym (set.contains-from_list nat_list_cmp_total (all_in f ss) q) ∙ e)),
  (λ m. set.contains-from_list nat_list_cmp_total (all_in f ss) q ∙ finds q f none ss m.0 m.1),
)

both_true : (x y : Bool) → (x ≡ true → y ≡ true) → (y ≡ true → x ≡ true) → x ≡ y
both_true true y f g = sym (f refl)
both_true false true f g = absurd (not_both false refl (g refl))
both_true false false f g = refl

pub same_members : (f g : Slot → Option (List ℕ)) (ss ts : List Slot) → f Empty ≡ None → g Empty ≡ None → ((q : List ℕ) → Says f ss q → Says g ts q) → ((q : List ℕ) → Says g ts q → Says f ss q) → set_in g ts ≡ set_in f ss
same_members f g ss ts m n forth back =
    set.same_set nat_list_cmp_total (set.slice_cmp-IsAntisymmetric set.nat_cmp-IsAntisymmetric) (set_in g ts) (set_in f ss) (λ q.
    both_true _ _ (λ e. (contains_said q f ss m).1 (back q ((contains_said q g ts n).0 e))) (λ e. (contains_said q g ts n).1 (forth q ((contains_said q f ss m).0 e))))

-- one member more
pub one_more : (f g : Slot → Option (List ℕ)) (ss ts : List Slot) (line : List ℕ) → f Empty ≡ None → g Empty ≡ None → ((q : List ℕ) → Says f ss q → Says g ts q) → Says g ts line →
    ((q : List ℕ) → Says g ts q → (q ≡ line) ⊎ Says f ss q) → set_in g ts ≡ set.insert (set_in f ss) line
one_more f g ss ts line m n forth here back =
    set.same_set nat_list_cmp_total (set.slice_cmp-IsAntisymmetric set.nat_cmp-IsAntisymmetric) (set_in g ts) (set.insert (set_in f ss) line) (λ q.
    both_true _ _
    (λ e. set.contains-insert nat_list_cmp_total (set_in f ss) line q
    ∙ elim (back q ((contains_said q g ts n).0 e)) [
      | inl same ↦ left (tied q line) (set.contains (set_in f ss) q) ((ties q line).1 same)
      | inr old ↦ right (tied q line) (set.contains (set_in f ss) q) ((contains_said q f ss m).1 old)
    ])
    (λ e. (contains_said q g ts n).1 (elim (either (tied q line) (set.contains (set_in f ss) q) (sym (set.contains-insert nat_list_cmp_total (set_in f ss) line q) ∙ e)) [
      | inl same ↦ subst (λ k. Says g ts k) (sym ((ties q line).0 same)) here
      | inr old ↦ forth q ((contains_said q f ss m).0 old)
    ])))

-- no member
pub no_member : (f : Slot → Option (List ℕ)) (ss : List Slot) → f Empty ≡ None → ((j : ℕ) → slot_at ss j ≡ Empty) → set_in f ss ≡ set.empty
no_member f ss none all =
    set.same_set nat_list_cmp_total (set.slice_cmp-IsAntisymmetric set.nat_cmp-IsAntisymmetric) (set_in f ss) set.empty (λ q.
    both_true _ _ (λ e. let m = (contains_said q f ss none).0 e in absurd (none_some q (sym (ap f (all m.0) ∙ none) ∙ m.1)))
    (λ e. absurd (not_both _ (set.contains-empty (slice_cmp nat_cmp) q) e)))

-- what a look-up tells of the set
pub told : (t : LineSet) (f : Slot → Option (List ℕ)) (ss : List Slot) (q : List ℕ) (there : Bool) → f Empty ≡ None → set_in f ss ≡ t → Decides there (Says f ss q) → set.contains t q ≡ there
told t f ss q there none is decides =
    sym (ap (λ u. set.contains u q) is)
    ∙ both_true _ there (λ e. decides.1 ((contains_said q f ss none).0 e)) (λ e. (contains_said q f ss none).1 (decides.0 e))

-- to put what is there changes nothing
pub put_again : (t : LineSet) (line : List ℕ) → set.contains t line ≡ true → t ≡ set.insert t line
put_again t line there =
    set.same_set nat_list_cmp_total (set.slice_cmp-IsAntisymmetric set.nat_cmp-IsAntisymmetric) t (set.insert t line) (λ q.
    both_true _ _ (λ e. set.contains-insert nat_list_cmp_total t line q ∙ right (tied q line) (set.contains t q) e)
    (λ e. elim (either (tied q line) (set.contains t q) (sym (set.contains-insert nat_list_cmp_total t line q) ∙ e)) [
      | inl same ↦ subst (λ k. set.contains t k ≡ true) (sym ((ties q line).0 same)) there
      | inr old ↦ old
    ]))
