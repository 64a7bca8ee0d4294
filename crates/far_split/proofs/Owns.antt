-- What a mutator of the heap knows of itself, and what its calls make of that.
use Rattle.std.proofs.Common.{◌≡◌, ◌≢◌, ℕ, ◌+◌, ◌/◌, ◌%◌, ◌<◌, ◌≤◌, Bool, true, false, Option, Some, None, is_some, List, length, map, refl, sym, ap, subst, ◌∙◌, inl, inr, arith, eqb}
use Rattle.std.specs.Prelude.{if◌then◌else◌, option_map, replicate, slice_index_or, slice_set}
use Rattle.std.proofs.lemmas.Bool.{cases_eq, eq-eqb, eqb-true, false≢true, ne_eqb}
use Rattle.std.proofs.lemmas.Grind.{get_or-set_at}
use Rattle.std.proofs.Math.ListN.{get_or-map}
use Rattle.std.proofs.lemmas.List.{get_or-set_other, length-replicate}
use Rattle.far_word.specs.declared.sizes.TheConstants.{CELLS}
use Rattle.far_events.specs.state.State.{put}
use Rattle.far_events.proofs.Put.{put_other, put_same}
use Rattle.far_heap.specs.HeapId.{HeapId}
use Rattle.far_heap.specs.Mine.{Mine, Object, adopting, asking, bytes_in, closing, dropping, known_bytes, len_in, len_of, newcomer, object_of, opening, owns, rewritten, uses, viewing, views, with_range, writing, zeros_known}
use Rattle.far_heap.specs.MineLaw.{MineLaw}
use Rattle.far_heap.proofs.OwnRows.{own_row-get}
use Rattle.far_heap.proofs.Spliced.{length-with_range}
use Rattle.far_alone.specs.Own.{Own, nothing}
use Rattle.far_split.specs.Slots.{HasBytes, IsOwn}

-- ---- a row of what stands at a mutator's pointers, and one that is another at one pointer
abbrev at_own : {X : Type 0} → ℕ → List X → ℕ → X → X
at_own number row q d = if eqb (q / CELLS) number then slice_index_or row (q % CELLS) d else d

module _ {X : Type 0} (number : ℕ) (row : List X) (many : length row ≡ CELLS) (p : ℕ) (own : eqb (p / CELLS) number ≡ true) (x d : X) where
  row_here : at_own number (slice_set row (p % CELLS) x) p d ≡ x
  row_here = rw own (get_or-set_at row (p % CELLS) (p % CELLS) x d refl (omega (arith, many)))

  row_other : (q : ℕ) → q ≢ p → at_own number (slice_set row (p % CELLS) x) q d ≡ at_own number row q d
  row_other q ne = elim (cases_eq (q / CELLS) number) [
    | inl mine ↦ (let here = eqb-true (p / CELLS) number own in
        ap (λ o. if eqb (q / CELLS) number then o else d) (get_or-set_other row (p % CELLS) (q % CELLS) x d (λ e. ne (omega (arith, mine, here)))))
    | inr other ↦ rw (ne_eqb (q / CELLS) number other) refl
  ]

-- ---- what it knows of an object
has_none : (honest : Bool) (x : Option Object) (bytes : Option (List ℕ)) → is_some x ≡ false → HasBytes honest x bytes → bytes ≡ None
has_none honest None bytes none has = has
has_none honest (Some x) bytes none has = absurd (false≢true (sym none))

-- all that it has, and which bytes they are over an honest far side
pub record Known (m : Mine) (p : ℕ) (bytes : Option (List ℕ)) : Type 0 where
  pub all : List ℕ
  pub is : bytes ≡ Some all
  pub long : length all ≡ len_in m p
  pub sure : m.honest ≡ true → bytes_in m p ≡ Some all

has_some : (honest : Bool) (x : Option Object) (bytes : Option (List ℕ)) → is_some x ≡ true → HasBytes honest x bytes
    → (all : List ℕ) × (bytes ≡ Some all) × (length all ≡ len_of x) × (honest ≡ true → known_bytes x ≡ Some all)
has_some honest None bytes some has = absurd (false≢true some)
has_some honest (Some x) bytes some has = has

module _ (m : Mine) (o : Own) (is : IsOwn m o) (p : ℕ) where
  pub unused_none : uses m p ≡ false → o.object p ≡ None
  unused_none h = has_none m.honest (object_of m p) (o.object p) h (is.object p)

  pub used_known : uses m p ≡ true → Known m p (o.object p)
  used_known h = let (all, same, long, sure) = has_some m.honest (object_of m p) (o.object p) h (is.object p) in record { all = all; is = same; long = long; sure = sure }

-- ---- what it knows after its calls
-- of an object that stands at one of its pointers
module _ (m : Mine) (law : MineLaw m) (o : Own) (is : IsOwn m o) (p : ℕ) (own : owns m p ≡ true) where
  is_with : (x : Option Object) (bytes : Option (List ℕ)) → HasBytes m.honest x bytes → IsOwn (record m { objects = slice_set m.objects (p % CELLS) x }) (record o { object = put o.object p bytes })
  is_with x bytes has = record {
    opened = is.opened;
    viewed = is.viewed;
    object = λ q. elim (cases_eq q p) [
      | inl e ↦ subst (λ (z : ℕ). HasBytes m.honest (at_own m.number (slice_set m.objects (p % CELLS) x) z None) (put o.object p bytes z)) (sym e)
          (subst (HasBytes m.honest (at_own m.number (slice_set m.objects (p % CELLS) x) p None)) (sym (put_same o.object p bytes p refl))
          (subst (λ (y : Option Object). HasBytes m.honest y bytes) (sym (row_here m.number m.objects law.many.0 p own x None)) has))
      | inr ne ↦ subst (HasBytes m.honest (at_own m.number (slice_set m.objects (p % CELLS) x) q None)) (sym (put_other o.object p bytes q ne))
          (subst (λ (y : Option Object). HasBytes m.honest y (o.object q)) (sym (row_other m.number m.objects law.many.0 p own x None q ne)) (is.object q))
    ];
  }

  pub is_dropping : IsOwn (dropping p m) (record o { object = put o.object p None })
  is_dropping = is_with None None refl

  pub is_adopting : (len ds : ℕ) → IsOwn (adopting p len ds m) (record o { object = put o.object p (Some (replicate len 0)) })
  is_adopting len ds = is_with (Some record { len = len; ds = ds; bytes = zeros_known m.honest len }) (Some (replicate len 0))
      (replicate len 0, refl, length-replicate len 0, λ honest. ap (λ h. zeros_known h len) honest)

  pub is_viewing : (k : ℕ) → IsOwn (viewing p (asking p k m)) (record o { viewed = put o.viewed p true })
  is_viewing k = record {
    opened = is.opened;
    viewed = λ q. elim (cases_eq q p) [
      | inl e ↦ put_same o.viewed p true q e ∙ sym (ap (λ z. at_own m.number (slice_set m.viewed (p % CELLS) true) z false) e ∙ row_here m.number m.viewed law.many.1 p own true false)
      | inr ne ↦ put_other o.viewed p true q ne ∙ is.viewed q ∙ sym (row_other m.number m.viewed law.many.1 p own true false q ne)
    ];
    object = is.object;
  }

-- other bytes, as many, over a far side that may lie
pub is_otherwise : (m : Mine) (law : MineLaw m) (o : Own) (is : IsOwn m o) (p : ℕ) (own : owns m p ≡ true) (lies : m.honest ≡ false) (used : uses m p ≡ true) (bytes : List ℕ) → length bytes ≡ len_in m p
    → IsOwn m (record o { object = put o.object p (Some bytes) })
is_otherwise m law o is p own lies used bytes long = record {
  opened = is.opened;
  viewed = is.viewed;
  object = λ q. elim (cases_eq q p) [
    | inl e ↦ subst (λ (z : ℕ). HasBytes m.honest (object_of m z) (put o.object p (Some bytes) z)) (sym e)
        (subst (HasBytes m.honest (object_of m p)) (sym (put_same o.object p (Some bytes) p refl)) (any m.honest (object_of m p) lies used long))
    | inr ne ↦ subst (HasBytes m.honest (object_of m q)) (sym (put_other o.object p (Some bytes) q ne)) (is.object q)
  ];
} where
  any : (honest : Bool) (x : Option Object) → honest ≡ false → is_some x ≡ true → length bytes ≡ len_of x → HasBytes honest x (Some bytes)
  any honest None lying some many = absurd (false≢true some)
  any honest (Some x) lying some many = (bytes, refl, many, λ told. absurd (false≢true (sym lying ∙ told)))

has_rewritten : (honest : Bool) (x : Option Object) (all : List ℕ) (from : ℕ) (new : List ℕ) → HasBytes honest x (Some all) → from + length new ≤ length all
    → HasBytes honest (option_map (rewritten from new) x) (Some (with_range all from new))
has_rewritten honest None all from new has fits = absurd (cc)
has_rewritten honest (Some x) all from new (known, is, long, sure) fits =
    let same : known ≡ all = cc in (
      with_range all from new,
      refl,
      length-with_range all from new fits ∙ ap length (sym same) ∙ long,
      λ told. ap (option_map (λ bytes. with_range bytes from new)) (sure told) ∙ ap (λ b. Some (with_range b from new)) same,
    )

-- bytes are written in an object that is viewed from then on
pub is_writing : (m : Mine) (law : MineLaw m) (o : Own) (is : IsOwn m o) (p : ℕ) (own : owns m p ≡ true) (from : ℕ) (new all : List ℕ) (k : ℕ) → o.object p ≡ Some all → from + length new ≤ length all
    → IsOwn (writing p from new (viewing p (asking p k m))) (record o { object = put o.object p (Some (with_range all from new)); viewed = put o.viewed p true })
is_writing m law o is p own from new all k known fits =
    let has = has_rewritten m.honest (object_of m p) all from new (subst (HasBytes m.honest (object_of m p)) known (is.object p)) fits in
    let written = is_with m law o is p own (option_map (rewritten from new) (object_of m p)) (Some (with_range all from new)) has in
    record { opened = is.opened; viewed = (is_viewing m law o is p own k).viewed; object = written.object }

-- ---- its scope is opened, or closed
none_at : (row : List Bool) (b : Bool) (k : ℕ) → (if b then slice_index_or (map (λ _. false) row) k false else false) ≡ false
none_at row true k = get_or-map (λ _. false) row k false
none_at row false k = refl

pub is_opening : (m : Mine) (o : Own) → IsOwn m o → IsOwn (opening m) (record o { opened = true })
is_opening m o is = record { opened = refl; viewed = is.viewed; object = is.object }

pub is_closing : (m : Mine) (o : Own) → IsOwn m o → IsOwn (closing m) (record o { opened = false; viewed = λ _. false })
is_closing m o is = record { opened = refl; viewed = λ q. sym (none_at m.viewed (owns m q) (q % CELLS)); object = is.object }

-- ---- a mutator of a new heap
none_new : (heap : HeapId) (number : ℕ) (honest : Bool) (q : ℕ) → object_of (newcomer heap.table number honest) q ≡ None
none_new heap number honest q = elim (cases_eq (q / CELLS) number) [
  | inl own ↦ rw (eq-eqb (q / CELLS) number own) (own_row-get (λ _. None) number q None own)
  | inr ne ↦ rw (ne_eqb (q / CELLS) number ne) refl
]

unviewed_new : (heap : HeapId) (number : ℕ) (honest : Bool) (q : ℕ) → views (newcomer heap.table number honest) q ≡ false
unviewed_new heap number honest q = elim (cases_eq (q / CELLS) number) [
  | inl own ↦ rw (eq-eqb (q / CELLS) number own) (own_row-get (λ _. false) number q false own)
  | inr ne ↦ rw (ne_eqb (q / CELLS) number ne) refl
]

pub is_new : (heap : HeapId) (number : ℕ) (honest : Bool) → IsOwn (newcomer heap.table number honest) nothing
is_new heap number honest = record {
  opened = refl;
  viewed = λ q. sym (unviewed_new heap number honest q);
  object = λ q. subst (λ (x : Option Object). HasBytes honest x None) (sym (none_new heap number honest q)) refl;
}

-- ---- which pointers it uses
module _ (m : Mine) (p : ℕ) where
  owned : (b : Bool) (o : Option Object) → is_some (if b then o else None) ≡ true → b ≡ true
  owned true o h = refl
  owned false o h = absurd (false≢true h)

  pub used_own : uses m p ≡ true → owns m p ≡ true
  used_own h = owned (owns m p) (slice_index_or m.objects (p % CELLS) None) h

-- a number that is no pointer
pub unused_beyond : (m : Mine) (p : ℕ) → MineLaw m → 65535 < p → uses m p ≡ false
unused_beyond m p law past = let other : p / CELLS ≢ m.number = (let few = law.few in omega arith) in rw (ne_eqb (p / CELLS) m.number other) refl
