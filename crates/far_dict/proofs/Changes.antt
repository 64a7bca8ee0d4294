-- What calls make of both tables.
use Rattle.std.proofs.Common.{◌≡◌, ℕ, Bool, true, false, cond, not, ◌&&◌, Option, Some, None, Result, Ok, Err, OnOk, OnErr, List, refl, sym, ◌∙◌, ap}
use Rattle.std.specs.FinMap as map
use Rattle.far_word.specs.declared.refused.Refused.{Refused}
use Rattle.far_map.specs.Table.{Table}
use Rattle.far_map.proofs.Told.{remove_absent}
use Rattle.far_dict.specs.Dictionaries.{AreApart, Dictionary, IsHonest, both, dictionary_of}
use Rattle.far_dict.specs.Longs.{Gets}
use Rattle.far_dict.proofs.Keys.{tied}
use Rattle.far_dict.proofs.Union.{apart_short, as_inserted, as_it_was, as_removed, both_get, both_inserted, both_removed, else_none, in_long, in_short, new_to_both, none_there, or_else, put_back}

module _ (a b : Table) (d : Dictionary) (view : dictionary_of a b ≡ d) where
  pub same_tables : (a' b' : Table) → a' ≡ a → b' ≡ b → dictionary_of a' b' ≡ d
  same_tables a' b' p q = (λ i. dictionary_of (p i) (q i)) ∙ view

  module _ (a' b' : Table) (key value : List ℕ) where
    pub short_put : (IsHonest d → a'.entries ≡ map.insert a.entries key value) → b'.entries ≡ map.remove b.entries key → IsHonest d → both a'.entries b'.entries ≡ map.insert d.entries key value
    short_put p q h =
        both_inserted a.entries b.entries a'.entries b'.entries key (Some value) None value refl (as_inserted a.entries a'.entries key value (p h)) (as_removed b.entries b'.entries key q)
        ∙ ap (λ (x : Dictionary). map.insert x.entries key value) view

    pub long_put : (u : Option (List ℕ)) → or_else u (Some value) ≡ Some value → (IsHonest d → (q : List ℕ) → map.get a'.entries q ≡ cond (tied q key) u (map.get a.entries q)) → Gets b.honest b.entries key value b'.entries → IsHonest d →
        both a'.entries b'.entries ≡ map.insert d.entries key value
    long_put u is p got h =
        let honest : b.honest ≡ true = ap (λ (x : Dictionary). x.honest_long) view ∙ h.long in
        both_inserted a.entries b.entries a'.entries b'.entries key u (Some got.0) value (ap (λ v. or_else u (Some v)) (got.2 honest) ∙ is) (p h) (as_inserted b.entries b'.entries key got.0 got.1)
        ∙ ap (λ (x : Dictionary). map.insert x.entries key value) view

  pub short_none : (key : List ℕ) → AreApart a b → map.contains_key b.entries key ≡ true → IsHonest d → map.get a.entries key ≡ None
  short_none key apart there h = apart (ap (λ (x : Dictionary). x.honest) view ∙ h.short) key there

  pub is_new : (key : List ℕ) (new had r : Bool) → (IsHonest d → new ≡ not (map.contains_key a.entries key)) → had ≡ map.contains_key b.entries key → r ≡ (new && not had) → IsHonest d → r ≡ not (map.contains_key d.entries key)
  is_new key new had r p q is h = is ∙ new_to_both a.entries b.entries key new had (p h) q ∙ ap (λ (x : Dictionary). not (map.contains_key x.entries key)) view

  pub has_long : (key : List ℕ) → map.contains_key b.entries key ≡ true → map.contains_key d.entries key ≡ true
  has_long key there = sym (ap (λ (x : Dictionary). map.contains_key x.entries key) view) ∙ in_long a.entries b.entries key there

  pub has_short : (key : List ℕ) → map.contains_key b.entries key ≡ false → map.contains_key d.entries key ≡ map.contains_key a.entries key
  has_short key none = sym (ap (λ (x : Dictionary). map.contains_key x.entries key) view) ∙ in_short a.entries b.entries key none

  -- which map has a key's value
  pub value_long : (key : List ℕ) → AreApart a b → map.contains_key b.entries key ≡ true → IsHonest d → map.get b.entries key ≡ map.get d.entries key
  value_long key apart there h =
      sym (both_get a.entries b.entries key ∙ ap (λ o. or_else o (map.get b.entries key)) (short_none key apart there h)) ∙ ap (λ (x : Dictionary). map.get x.entries key) view

  pub value_short : (key : List ℕ) → map.contains_key b.entries key ≡ false → map.get a.entries key ≡ map.get d.entries key
  value_short key none =
      sym (both_get a.entries b.entries key ∙ ap (or_else (map.get a.entries key)) (none_there (map.get b.entries key) none) ∙ else_none (map.get a.entries key)) ∙ ap (λ (x : Dictionary). map.get x.entries key) view

  pub short_honest : IsHonest d → a.honest ≡ true
  short_honest h = ap (λ (x : Dictionary). x.honest) view ∙ h.short

  pub long_honest : IsHonest d → b.honest ≡ true
  long_honest h = ap (λ (x : Dictionary). x.honest_long) view ∙ h.long

  -- a key goes
  pub long_gone : (a' b' : Table) (key : List ℕ) → AreApart a b → map.contains_key b.entries key ≡ true → a' ≡ a → b'.entries ≡ map.remove b.entries key → IsHonest d → both a'.entries b'.entries ≡ map.remove d.entries key
  long_gone a' b' key apart there same q h =
      both_removed a.entries b.entries a'.entries b'.entries key None None refl
      (λ k. ap (λ (t : Table). map.get t.entries k) same ∙ as_it_was a.entries key None (short_none key apart there h) k) (as_removed b.entries b'.entries key q)
      ∙ ap (λ (x : Dictionary). map.remove x.entries key) view

  pub short_gone : (a' b' : Table) (key : List ℕ) → (IsHonest d → a'.entries ≡ map.remove a.entries key) → b'.entries ≡ map.remove b.entries key → IsHonest d → both a'.entries b'.entries ≡ map.remove d.entries key
  short_gone a' b' key p q h =
      both_removed a.entries b.entries a'.entries b'.entries key None None refl (as_removed a.entries a'.entries key (p h)) (as_removed b.entries b'.entries key q)
      ∙ ap (λ (x : Dictionary). map.remove x.entries key) view

-- a table whose key had nothing is as it was
pub gone_none : (b b' : Table) (key : List ℕ) → map.contains_key b.entries key ≡ false → b'.honest ≡ b.honest → b'.entries ≡ map.remove b.entries key → b' ≡ b
gone_none b b' key none honest is =
    let same : b'.entries ≡ b.entries = is ∙ sym (remove_absent b.entries key (none_there (map.get b.entries key) none)) in
    λ i. record { honest = honest i; entries = same i }

pub gone_again : (b now b' : Table) (key value : List ℕ) → map.contains_key b.entries key ≡ false → now.honest ≡ b.honest → b'.honest ≡ now.honest → Gets b.honest b.entries key value now.entries → b'.entries ≡ map.remove now.entries key → b' ≡ b
gone_again b now b' key value none first then got is =
    let same : b'.entries ≡ b.entries = put_back b.entries now.entries b'.entries key got.0 (none_there (map.get b.entries key) none) got.1 is in
    λ i. record { honest = (then ∙ first) i; entries = same i }

-- ---- by what the short ones answered
pub apart_either : (r : Result Bool Refused) (a b a' b' : Table) (key : List ℕ) → AreApart a b → a'.honest ≡ a.honest → (a.honest ≡ true → OnOk r (a'.entries ≡ map.remove a.entries key)) → OnErr r (a' ≡ a) →
    b'.entries ≡ map.remove b.entries key → AreApart a' b'
apart_either (Ok v) a b a' b' key apart honest made refused long = apart_short a b a' b' key None honest apart (λ h q. as_removed a.entries a'.entries key (made h) q) long
apart_either (Err e) a b a' b' key apart honest made refused long =
    apart_short a b a' b' key (map.get a.entries key) honest apart (λ h q. ap (λ (t : Table). map.get t.entries q) refused ∙ as_it_was a.entries key (map.get a.entries key) refl q) long

pub on_ok : (r : Result Bool Refused) (P Q : Type 0) → (P → Q) → OnOk r P → OnOk r Q
on_ok (Ok v) P Q f p = f p
on_ok (Err e) P Q f p = p

pub on_err : (r : Result Bool Refused) (P Q : Type 0) → (P → Q) → OnErr r P → OnErr r Q
on_err (Ok v) P Q f p = p
on_err (Err e) P Q f p = f p
