-- What the steps make of a table and its worker's objects.
use Rattle.std.proofs.Common.{◌≡◌, ◌≢◌, ℕ, ◌+◌, ◌<◌, ◌≤◌, inl, inr, Bool, true, false, Option, Some, None, List, ◌++◌, length, take, drop, append-nil, refl, sym, ◌∙◌, ap, subst, arith, option_map}
use Rattle.std.specs.Prelude.{MatchOption}
use Rattle.std.specs.Ordering.{nat_cmp}
use Rattle.std.specs.Cmp.Lexicographic.{slice_cmp, nat_list_cmp_total}
use Rattle.std.specs.FinMap as map
use Rattle.std.proofs.lemmas.List.{drop_all, take_all}
use Rattle.far_word.specs.declared.refused.Refused.{Refused}
use Rattle.far_word.specs.declared.refused.Refused.TheVariants.{NotHeld, Range}
use Rattle.far_objects.specs.Far.{Far, barred}
use Rattle.far_large.specs.Parts.{AreOthers, AsBefore, IsCount, IsNoPart, IsWhyNotRead, Parts, Puts, Stands, Takes}
use Rattle.far_large.proofs.Reading.{is_open}
use Rattle.far_map.specs.Causes.{IsWhyRead}
use Rattle.far_dict.specs.Longs.{Gets, IsWhole, Sound, entries_of, value_of}
use Rattle.far_dict.specs.Names.{Names}
use Rattle.far_dict.proofs.Joining.{value_held}
use Rattle.far_dict.proofs.Keeping.{Keeps, flip, keeps_itself, keeps_put, keeps_refused, keeps_taken, keeps_then, no_part, owned_put, owned_taken, put_apart, stands, whole_put}
use Rattle.far_dict.proofs.Keys.{none_some, same_some}
use Rattle.far_dict.proofs.Tables.{Moved, Rests, moved_inserted}

pub empty_sound : (far : Far) (names : Names) → names ≡ map.empty → ((h : ℕ) → far.sizes h ≡ None) → Sound far names
empty_sound far names none alone =
    let no_key : (k : List ℕ) (l : Parts) → map.get names k ≡ Some l → ⊥ = λ k l e. none_some (ap (λ m. map.get m k) none ∙ map.get-empty (slice_cmp nat_cmp) k) e in
    record { whole = λ k l e. absurd (no_key k l e); apart = λ j k a b ne p q. absurd (no_key j a p); owned = λ n size e. absurd (none_some (alone n) e) }

module _ (far : Far) (names : Names) (sound : Sound far names) where
  -- ---- a value is made
  module _ (far' : Far) (names' : Names) (key xs : List ℕ) (b : Parts) (p : Puts b xs far far') (count : IsCount b.len (length b.numbers)) where
    pub put_new : names' ≡ map.insert names key b → map.get names key ≡ None → Moved far far' names names' key (Some b)
    put_new is none = record {
      get = λ q. ap (λ m. map.get m q) is ∙ map.get-insert nat_list_cmp_total names key b q;
      stays = λ q l other e. keeps_put l far far' (sound.whole q l e) b xs p;
      here = λ l e. subst (λ x. IsWhole far' x) (same_some refl e) (whole_put b xs far far' p count);
      apart = λ l e q m other there. subst (λ x. AreOthers m x) (same_some refl e) (put_apart m far far' (sound.whole q m there) b xs p);
      owned = λ n size e. elim (owned_put b xs far far' n size p e) [
        | inl part ↦ inl (b, refl, part)
        | inr old ↦ inr (old, λ l there. absurd (none_some none there))
      ];
    }

    pub gets_new : names' ≡ map.insert names key b → map.get names key ≡ None → Gets far.honest (entries_of far names) key xs (entries_of far' names')
    gets_new is none =
        (value_of far' b, moved_inserted far far' names names' key (Some b) sound (put_new is none) b refl, λ honest. value_held far' b xs (p.others.honest ∙ honest) p.holds count)

  pub put_stands : (mid : Far) (key xs : List ℕ) (b was : Parts) → Puts b xs far mid → map.get names key ≡ Some was → Stands mid was
  put_stands mid key xs b was p there = stands mid was (keeps_put was far mid (sound.whole key was there) b xs p).whole

  -- ---- the value that was there goes then
  module _ (mid far' : Far) (names' : Names) (key xs : List ℕ) (b was : Parts) (p : Puts b xs far mid) (count : IsCount b.len (length b.numbers)) (there : map.get names key ≡ Some was) (t : Takes was mid far') where
    stays_over : (q : List ℕ) (l : Parts) → q ≢ key → map.get names q ≡ Some l → Keeps l far far'
    stays_over q l other e =
        let first : Keeps l far mid = keeps_put l far mid (sound.whole q l e) b xs p in
        keeps_then l far mid far' first (keeps_taken l mid far' first.whole was (sound.apart q key l was other e there) t)

    here_over : Keeps b mid far'
    here_over = keeps_taken b mid far' (whole_put b xs far mid p count) was (flip was b (put_apart was far mid (sound.whole key was there) b xs p)) t

    pub put_over : names' ≡ map.insert names key b → Moved far far' names names' key (Some b)
    put_over is = record {
      get = λ q. ap (λ m. map.get m q) is ∙ map.get-insert nat_list_cmp_total names key b q;
      stays = stays_over;
      here = λ l e. subst (λ x. IsWhole far' x) (same_some refl e) here_over.whole;
      apart = λ l e q m other there. subst (λ x. AreOthers m x) (same_some refl e) (put_apart m far mid (sound.whole q m there) b xs p);
      owned = λ n size e.
          let left = owned_taken was mid far' n size t e in
          elim (owned_put b xs far mid n size p left.1) [
            | inl part ↦ inl (b, refl, part)
            | inr old ↦ inr (old, λ l at. subst (λ x. IsNoPart x n) (same_some there at) left.0)
          ];
    }

    pub gets_over : names' ≡ map.insert names key b → Gets far.honest (entries_of far names) key xs (entries_of far' names')
    gets_over is = (
      value_of far' b,
      moved_inserted far far' names names' key (Some b) sound (put_over is) b refl,
      λ honest. here_over.value ∙ value_held mid b xs (p.others.honest ∙ honest) p.holds count,
    )

  -- ---- a value goes
  pub taken_stands : (key : List ℕ) (was : Parts) → map.get names key ≡ Some was → Stands far was
  taken_stands key was there = stands far was (sound.whole key was there)

  pub taken_out : (far' : Far) (names' : Names) (key : List ℕ) (was : Parts) → map.get names key ≡ Some was → names' ≡ map.remove names key → Takes was far far' → Moved far far' names names' key None
  taken_out far' names' key was there is t = record {
    get = λ q. ap (λ m. map.get m q) is ∙ map.get-remove nat_list_cmp_total names key q;
    stays = λ q l other e. keeps_taken l far far' (sound.whole q l e) was (sound.apart q key l was other e there) t;
    here = λ l e. absurd (none_some refl e);
    apart = λ l e q m other at. absurd (none_some refl e);
    owned = λ n size e. let left = owned_taken was far far' n size t e in inr (left.1, λ l at. subst (λ x. IsNoPart x n) (same_some there at) left.0);
  }

  pub none_out : (names' : Names) (key : List ℕ) → map.get names key ≡ None → names' ≡ map.remove names key → Moved far far names names' key None
  none_out names' key none is = record {
    get = λ q. ap (λ m. map.get m q) is ∙ map.get-remove nat_list_cmp_total names key q;
    stays = λ q l other e. keeps_itself l far (sound.whole q l e);
    here = λ l e. absurd (none_some refl e);
    apart = λ l e q m other at. absurd (none_some refl e);
    owned = λ n size e. inr (e, λ l at. absurd (none_some none at));
  }

  -- ---- all is as it was
  pub rests_refused : (far' : Far) → AsBefore far far' → Rests far far' names
  rests_refused far' was = record { honest = was.honest; stays = λ q l e. keeps_refused l far far' (sound.whole q l e) was; owned = λ n size e. sym (was.sizes n) ∙ e }

  pub rests_undone : (mid far' : Far) (xs : List ℕ) (b : Parts) → Puts b xs far mid → Takes b mid far' → Rests far far' names
  rests_undone mid far' xs b p t = record {
    honest = t.dropped.others.honest ∙ p.others.honest;
    stays = λ q l e.
        let first : Keeps l far mid = keeps_put l far mid (sound.whole q l e) b xs p in
        keeps_then l far mid far' first (keeps_taken l mid far' first.whole b (put_apart l far mid (sound.whole q l e) b xs p) t);
    owned = λ n size e.
        let left = owned_taken b mid far' n size t e in
        elim (owned_put b xs far mid n size p left.1) [
          | inl part ↦ absurd (no_part b n part left.0)
          | inr old ↦ old
        ];
  }

-- ---- why no value was read
read_why : (unreached : Bool → Refused → Type 0) (far : Far) (large : Parts) (o : Option Refused) (why : Refused) → Stands far large → o ≡ None → IsWhyNotRead unreached far large o why → IsWhyRead unreached far.honest why
read_why unreached far large o NotHeld stood free h = absurd (h.1 stood)
read_why unreached far large o Range stood free h = absurd (none_some free h)
read_why unreached far large o why stood free h = inr h.1

pub whole_why : (unreached : Bool → Refused → Type 0) (far : Far) (large : Parts) (n : ℕ) (why : Refused) → IsWhole far large → n ≡ large.len → IsWhyNotRead unreached far large (barred (Some large.len) 0 n) why → IsWhyRead unreached far.honest why
whole_why unreached far large n why whole long h =
    let some : 0 < n = omega (arith, whole.count.some, long) in
    let fits : 0 + n ≤ large.len = omega (arith, long) in
    read_why unreached far large (barred (Some large.len) 0 n) why (stands far large whole) (is_open large.len 0 n some fits) h

-- a value that was read whole
pub whole_read : (far : Far) (large : Parts) (n : ℕ) (before out now : List ℕ) → far.honest ≡ true → (whole : IsWhole far large) → n ≡ large.len → length before ≡ n → length out ≡ length before →
    out ≡ take (length before) (drop 0 whole.bytes) → now ≡ take n (out ++ drop (length out) before) → now ≡ value_of far large
whole_read far large n before out now honest whole size long same read is =
    let all : out ≡ whole.bytes = read ∙ take_all (length before) whole.bytes (omega (arith, long, size, whole.holds.len)) in
    let now_all : now ≡ out = is ∙ ap (λ ys. take n (out ++ ys)) (drop_all (length out) before (omega (arith, same))) ∙ ap (take n) (append-nil out) ∙ take_all n out (omega (arith, same, long)) in
    now_all ∙ all ∙ sym (value_held far large whole.bytes honest whole.holds whole.count)

-- what a table says of a key, said of the entries
pub no_value : (o : Option Parts) (f : Parts → List ℕ) (entry : Option (List ℕ)) (P : List ℕ → Type 0) → o ≡ None → entry ≡ option_map f o → MatchOption entry (false ≡ false) P
no_value o f entry P none is = subst (λ e. MatchOption e (false ≡ false) P) (sym (is ∙ ap (option_map f) none)) refl

pub has_value : (o : Option Parts) (f : Parts → List ℕ) (entry : Option (List ℕ)) (large : Parts) (out : List ℕ) → o ≡ Some large → entry ≡ option_map f o → out ≡ f large → MatchOption entry (true ≡ false) (λ value. (true ≡ true) × (out ≡ value))
has_value o f entry large out some is read = subst (λ e. MatchOption e (true ≡ false) (λ value. (true ≡ true) × (out ≡ value))) (sym (is ∙ ap (option_map f) some)) (refl, read)
