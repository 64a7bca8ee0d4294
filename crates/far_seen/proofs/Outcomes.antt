-- What the steps make of a set.
use Rattle.std.proofs.Common.{◌≡◌, ◌≢◌, ℕ, ◌+◌, ◌<◌, ◌≤◌, Bool, true, false, cond, Option, Some, None, List, [], ◌∷◌, length, inl, inr, refl, sym, ◌∙◌, ap, subst, arith}
use Rattle.std.proofs.lemmas.Bool.{cases_eq}
use Rattle.std.specs.Bool.{Decides}
use Rattle.std.specs.Cmp.Lexicographic.{nat_list_cmp_total}
use Rattle.std.specs.FinSet as set
use Rattle.far_objects.specs.Far.{Far}
use Rattle.far_index.specs.declared.slot.Slot.{Slot}
use Rattle.far_index.specs.declared.slot.Slot.TheVariants.{Empty, Gone, Full}
use Rattle.far_index.specs.Slots.{slot_at, Reached}
use Rattle.far_index.specs.Grown.{Placed, Grown}
use Rattle.far_index.specs.Tags.{tag_of}
use Rattle.far_index.proofs.Words.{full_tag, full_number}
use Rattle.far_index.proofs.Reaching.{placed_reached, same_reached}
use Rattle.far_index.proofs.Growth.{moved}
use Rattle.far_seen.specs.Stored.{Keeps, Put}
use Rattle.far_seen.specs.Lines.{stamp_of}
use Rattle.far_seen.specs.Parts.{Bytes, Has, Plain, Sound, stamp_at, stamp_in, line_in, line_at, lines_of, set_in}
use Rattle.far_seen.proofs.Members.{same_members, one_more, contains_said}

-- a slot with a line has a number
pub full_of : (b : Bytes) (s : Slot) (q : List ℕ) → line_in b s ≡ Some q → (t : ℕ) × (h : ℕ) × (s ≡ Full t h)
full_of b Empty q e = absurd (cc)
full_of b Gone q e = absurd (cc)
full_of b (Full t h) q e = (t, h, refl)

full_stamp : (sizes : ℕ → Option ℕ) (s : Slot) (q : List ℕ) → stamp_in sizes s ≡ Some q → (t : ℕ) × (h : ℕ) × (s ≡ Full t h)
full_stamp sizes Empty q e = absurd (cc)
full_stamp sizes Gone q e = absurd (cc)
full_stamp sizes (Full t h) q e = (t, h, refl)

-- ---- slots that say the same, and the same objects
pub record Same (p n : Plain) : Type 0 where
  pub far : Keeps p.far n.far
  pub seed : n.seed ≡ p.seed
  pub slots : (j : ℕ) → slot_at n.slots j ≡ slot_at p.slots j
  pub longer : length p.slots ≤ length n.slots
  pub buckets : n.buckets ≡ p.buckets
  pub count : n.count ≡ p.count

module _ (p n : Plain) (sound : Sound p) (same : Same p n) where
  same_in : (j : ℕ) (s : Slot) → slot_at p.slots j ≡ s → line_in n.far.bytes s ≡ line_in p.far.bytes s
  same_in j Empty e = refl
  same_in j Gone e = refl
  same_in j (Full t h) e = let m = sound.held j t h e in same.far.bytes h m.0 m.1

  same_line : (j : ℕ) → line_at n.far.bytes n.slots j ≡ line_at p.far.bytes p.slots j
  same_line j = ap (line_in n.far.bytes) (same.slots j) ∙ same_in j (slot_at p.slots j) refl

  same_set : set_in (line_in n.far.bytes) n.slots ≡ set_in (line_in p.far.bytes) p.slots
  same_set = same_members (line_in p.far.bytes) (line_in n.far.bytes) p.slots n.slots refl refl (λ q m. (m.0, same_line m.0 ∙ m.1)) (λ q m. (m.0, sym (same_line m.0) ∙ m.1))

  kept_stamp : (j : ℕ) (s : Slot) → slot_at p.slots j ≡ s → stamp_in n.far.sizes s ≡ stamp_in p.far.sizes s
  kept_stamp j Empty e = refl
  kept_stamp j Gone e = refl
  kept_stamp j (Full t h) e = let m = sound.held j t h e in ap (stamp_at t) (same.far.sizes h m.0 m.1 ∙ sym m.1)

  same_stamp : (j : ℕ) → stamp_in n.far.sizes (slot_at n.slots j) ≡ stamp_in p.far.sizes (slot_at p.slots j)
  same_stamp j = ap (stamp_in n.far.sizes) (same.slots j) ∙ kept_stamp j (slot_at p.slots j) refl

  same_stamps : set_in (stamp_in n.far.sizes) n.slots ≡ set_in (stamp_in p.far.sizes) p.slots
  same_stamps = same_members (stamp_in p.far.sizes) (stamp_in n.far.sizes) p.slots n.slots refl refl (λ q m. (m.0, same_stamp m.0 ∙ m.1)) (λ q m. (m.0, sym (same_stamp m.0) ∙ m.1))

  same_honest : n.far.honest ≡ p.far.honest
  same_honest = same.far.honest

  pub same_lines : lines_of n ≡ lines_of p
  same_lines = λ i. record { honest = same_honest i; lines = same_set i; seed = same.seed i; stamps = same_stamps i }

  pub same_sound : Sound n
  same_sound = record {
    some = subst (λ k. 0 < k) (sym same.buckets) sound.some;
    fits = omega (arith, sound.fits, same.longer, same.buckets);
    reached = subst (λ k. Reached k n.slots) (sym same.buckets) (same_reached p.buckets p.slots n.slots same.slots sound.reached);
    apart = λ i j t u h a b. sound.apart i j t u h (sym (same.slots i) ∙ a) (sym (same.slots j) ∙ b);
    held = λ j t h a. let m = sound.held j t h (sym (same.slots j) ∙ a) in (m.0, same.far.sizes h m.0 m.1);
    tagged = λ o j t h q a has.
        let was = sym (same.slots j) ∙ a in
        let m = sound.held j t h was in
        sound.tagged (sym same_honest ∙ o) j t h q was (sym (same.far.bytes h m.0 m.1) ∙ has) ∙ ap (λ s. tag_of s q) (sym same.seed);
    distinct = λ o i j q a b. sound.distinct (sym same_honest ∙ o) i j q (sym (same_line i) ∙ a) (sym (same_line j) ∙ b);
    counted = λ o. same.count ∙ sound.counted (sym same_honest ∙ o) ∙ ap set.len (sym same_set);
  }

-- ---- a line that isn't there is put
none_size : (n : ℕ) (o : Option ℕ) → o ≡ None → o ≡ Some n → ⊥
none_size n o e f = cc

some_line : (a b : List ℕ) (o : Option (List ℕ)) → o ≡ Some a → o ≡ Some b → a ≡ b
some_line a b o e f = cc

is_false : (b : Bool) (P : Type 0) → Decides b P → (P → ⊥) → b ≡ false
is_false true P d none = absurd (none (d.0 refl))
is_false false P d none = refl

module _ (p : Plain) (g : Far) (ts : List Slot) (tag number : ℕ) (line : List ℕ) (sound : Sound p) (placed : Placed p.buckets tag number p.slots ts) (put : Put number line p.far g)
    (tagged : tag ≡ tag_of p.seed line) (absent : p.far.honest ≡ true → Has p.far.bytes p.slots line → ⊥) where
  -- numbers of other slots are other numbers
  other_number : (j t h : ℕ) → slot_at p.slots j ≡ Full t h → h ≢ number
  other_number j t h e same = let n = sound.held j t h e in none_size n.0 (p.far.sizes number) put.fresh (ap p.far.sizes (sym same) ∙ n.1)

  old_line : (j : ℕ) (s : Slot) → slot_at p.slots j ≡ s → line_in g.bytes s ≡ line_in p.far.bytes s
  old_line j Empty e = refl
  old_line j Gone e = refl
  old_line j (Full t h) e = let n = sound.held j t h e in put.keeps.bytes h n.0 n.1

  other_line : (j : ℕ) → j ≢ placed.place → line_at g.bytes ts j ≡ line_at p.far.bytes p.slots j
  other_line j ne = ap (line_in g.bytes) (placed.others j ne) ∙ old_line j (slot_at p.slots j) refl

  new_line : p.far.honest ≡ true → line_at g.bytes ts placed.place ≡ Some line
  new_line o = ap (line_in g.bytes) placed.slot ∙ put.bytes o

  -- a slot that had a line isn't the place
  not_place : (j : ℕ) (q : List ℕ) → line_at p.far.bytes p.slots j ≡ Some q → j ≢ placed.place
  not_place j q e same =
      let full = full_of p.far.bytes (slot_at p.slots j) q e in
      placed.free full.0 full.1 (sym (ap (slot_at p.slots) same) ∙ full.2)

  pub added_set : p.far.honest ≡ true → set_in (line_in g.bytes) ts ≡ set.insert (set_in (line_in p.far.bytes) p.slots) line
  added_set o = one_more (line_in p.far.bytes) (line_in g.bytes) p.slots ts line refl refl (λ q m. (m.0, other_line m.0 (not_place m.0 q m.1) ∙ m.1)) (placed.place, new_line o) (λ q m.
      elim (cases_eq m.0 placed.place) [
        | inl same ↦ inl (some_line q line (line_at g.bytes ts placed.place) (subst (λ k. line_at g.bytes ts k ≡ Some q) same m.1) (new_line o))
        | inr ne ↦ inr (m.0, sym (other_line m.0 ne) ∙ m.1)
      ])

  old_stamp : (j : ℕ) (s : Slot) → slot_at p.slots j ≡ s → stamp_in g.sizes s ≡ stamp_in p.far.sizes s
  old_stamp j Empty e = refl
  old_stamp j Gone e = refl
  old_stamp j (Full t h) e = let n = sound.held j t h e in ap (stamp_at t) (put.keeps.sizes h n.0 n.1 ∙ sym n.1)

  other_stamp : (j : ℕ) → j ≢ placed.place → stamp_in g.sizes (slot_at ts j) ≡ stamp_in p.far.sizes (slot_at p.slots j)
  other_stamp j ne = ap (stamp_in g.sizes) (placed.others j ne) ∙ old_stamp j (slot_at p.slots j) refl

  new_stamp : stamp_in g.sizes (slot_at ts placed.place) ≡ Some (stamp_of p.seed line)
  new_stamp = ap (stamp_in g.sizes) placed.slot ∙ ap (stamp_at tag) put.size ∙ ap (λ t. Some (t ∷ length line ∷ [])) tagged

  stamp_not_place : (j : ℕ) (q : List ℕ) → stamp_in p.far.sizes (slot_at p.slots j) ≡ Some q → j ≢ placed.place
  stamp_not_place j q e same =
      let full = full_stamp p.far.sizes (slot_at p.slots j) q e in
      placed.free full.0 full.1 (sym (ap (slot_at p.slots) same) ∙ full.2)

  -- whether or not the far side is honest
  pub added_stamps : set_in (stamp_in g.sizes) ts ≡ set.insert (set_in (stamp_in p.far.sizes) p.slots) (stamp_of p.seed line)
  added_stamps = one_more (stamp_in p.far.sizes) (stamp_in g.sizes) p.slots ts (stamp_of p.seed line) refl refl (λ q m. (m.0, other_stamp m.0 (stamp_not_place m.0 q m.1) ∙ m.1)) (placed.place, new_stamp) (λ q m.
      elim (cases_eq m.0 placed.place) [
        | inl same ↦ inl (some_line q (stamp_of p.seed line) (stamp_in g.sizes (slot_at ts placed.place)) (subst (λ k. stamp_in g.sizes (slot_at ts k) ≡ Some q) same m.1) new_stamp)
        | inr ne ↦ inr (m.0, sym (other_stamp m.0 ne) ∙ m.1)
      ])

  at_place : (j t h : ℕ) → j ≡ placed.place → slot_at ts j ≡ Full t h → Full tag number ≡ Full t h
  at_place j t h same e = sym placed.slot ∙ subst (λ k. slot_at ts k ≡ Full t h) same e

  added_apart : (i j t u h : ℕ) → slot_at ts i ≡ Full t h → slot_at ts j ≡ Full u h → i ≡ j
  added_apart i j t u h at_i at_j = elim (cases_eq i placed.place) [
    | inl e ↦ elim (cases_eq j placed.place) [
      | inl f ↦ e ∙ sym f
      | inr nf ↦ absurd (other_number j u h (sym (placed.others j nf) ∙ at_j) (sym (full_number tag number t h (at_place i t h e at_i))))
    ]
    | inr ne ↦ elim (cases_eq j placed.place) [
      | inl f ↦ absurd (other_number i t h (sym (placed.others i ne) ∙ at_i) (sym (full_number tag number u h (at_place j u h f at_j))))
      | inr nf ↦ sound.apart i j t u h (sym (placed.others i ne) ∙ at_i) (sym (placed.others j nf) ∙ at_j)
    ]
  ]

  -- the place's line stands in no other slot
  alone : p.far.honest ≡ true → (i j : ℕ) (q : List ℕ) → i ≡ placed.place → j ≢ placed.place → line_at g.bytes ts i ≡ Some q → line_at g.bytes ts j ≡ Some q → ⊥
  alone o i j q e nf a b =
      let is : q ≡ line = some_line q line (line_at g.bytes ts placed.place) (subst (λ k. line_at g.bytes ts k ≡ Some q) e a) (new_line o) in
      absent o (j, sym (other_line j nf) ∙ b ∙ ap (λ x. Some x) is)

  added_distinct : p.far.honest ≡ true → (i j : ℕ) (q : List ℕ) → line_at g.bytes ts i ≡ Some q → line_at g.bytes ts j ≡ Some q → i ≡ j
  added_distinct o i j q a b = elim (cases_eq i placed.place) [
    | inl e ↦ elim (cases_eq j placed.place) [
      | inl f ↦ e ∙ sym f
      | inr nf ↦ absurd (alone o i j q e nf a b)
    ]
    | inr ne ↦ elim (cases_eq j placed.place) [
      | inl f ↦ absurd (alone o j i q f ne b a)
      | inr nf ↦ sound.distinct o i j q (sym (other_line i ne) ∙ a) (sym (other_line j nf) ∙ b)
    ]
  ]

  added_count : p.far.honest ≡ true → p.count + 1 ≡ set.len (set_in (line_in g.bytes) ts)
  added_count o =
      let s = set_in (line_in p.far.bytes) p.slots in
      ap (λ k. k + 1) (sound.counted o)
      ∙ sym (set.len-insert nat_list_cmp_total s line ∙ ap (λ b. cond b (set.len s) (set.len s + 1)) (is_false (set.contains s line) (Has p.far.bytes p.slots line) (contains_said line (line_in p.far.bytes) p.slots refl) (absent o)))
      ∙ ap set.len (sym (added_set o))

  pub added_sound : Sound record { far = g; seed = p.seed; slots = ts; buckets = p.buckets; count = p.count + 1 }
  added_sound = record {
    some = sound.some;
    fits = omega (arith, sound.fits, placed.longer);
    reached = placed_reached p.buckets tag number p.slots ts placed sound.reached;
    apart = added_apart;
    held = λ j t h e. elim (cases_eq j placed.place) [
      | inl same ↦ (length line, ap g.sizes (sym (full_number tag number t h (at_place j t h same e))) ∙ put.size)
      | inr ne ↦
          let was = sym (placed.others j ne) ∙ e in
          let n = sound.held j t h was in
          (n.0, put.keeps.sizes h n.0 n.1)
    ];
    tagged = λ o j t h q e has.
        let p1 : p.far.honest ≡ true = sym put.keeps.honest ∙ o in
        elim (cases_eq j placed.place) [
          | inl same ↦
              let slots = at_place j t h same e in
              sym (full_tag tag number t h slots) ∙ tagged ∙ ap (tag_of p.seed) (some_line line q (g.bytes number) (put.bytes p1) (ap g.bytes (full_number tag number t h slots) ∙ has))
          | inr ne ↦
              let was = sym (placed.others j ne) ∙ e in
              let n = sound.held j t h was in
              sound.tagged p1 j t h q was (sym (put.keeps.bytes h n.0 n.1) ∙ has)
        ];
    distinct = λ o. added_distinct (sym put.keeps.honest ∙ o);
    counted = λ o. added_count (sym put.keeps.honest ∙ o);
  }

-- ---- an index made anew
module _ (p : Plain) (slots : List Slot) (buckets : ℕ) (sound : Sound p) (some : 0 < buckets) (grown : Grown buckets (length p.slots) p.slots slots) where
  grown_by : (f : Slot → Option (List ℕ)) → f Empty ≡ None → ((s : Slot) (q : List ℕ) → f s ≡ Some q → (t : ℕ) × (h : ℕ) × (s ≡ Full t h)) → set_in f slots ≡ set_in f p.slots
  grown_by f none full_by = same_members f f p.slots slots none none
      (λ q m. let full = full_by (slot_at p.slots m.0) q m.1 in
      let there = moved buckets p.slots slots grown m.0 full.0 full.1 full.2 in
      (there.0, ap f (there.1 ∙ sym full.2) ∙ m.1))
      (λ q m. let full = full_by (slot_at slots m.0) q m.1 in
      let there = grown.from m.0 full.0 full.1 full.2 in
      (there.0, ap f (there.2 ∙ sym full.2) ∙ m.1))

  grown_set : set_in (line_in p.far.bytes) slots ≡ set_in (line_in p.far.bytes) p.slots
  grown_set = grown_by (line_in p.far.bytes) refl (full_of p.far.bytes)

  pub grown_lines : lines_of record { far = p.far; seed = p.seed; slots = slots; buckets = buckets; count = p.count } ≡ lines_of p
  grown_lines = λ i. record { honest = p.far.honest; lines = grown_set i; seed = p.seed; stamps = grown_by (stamp_in p.far.sizes) refl (full_stamp p.far.sizes) i }

  grown_distinct : p.far.honest ≡ true → (i j : ℕ) (q : List ℕ) → line_at p.far.bytes slots i ≡ Some q → line_at p.far.bytes slots j ≡ Some q → i ≡ j
  grown_distinct o i j q a b =
      let f = full_of p.far.bytes (slot_at slots i) q a in
      let g = full_of p.far.bytes (slot_at slots j) q b in
      let u = grown.from i f.0 f.1 f.2 in
      let w = grown.from j g.0 g.1 g.2 in
      let same : u.0 ≡ w.0 = sound.distinct o u.0 w.0 q (ap (line_in p.far.bytes) (u.2 ∙ sym f.2) ∙ a) (ap (line_in p.far.bytes) (w.2 ∙ sym g.2) ∙ b) in
      let full : Full f.0 f.1 ≡ Full g.0 g.1 = sym u.2 ∙ ap (slot_at p.slots) same ∙ w.2 in
      grown.apart sound.apart i j f.0 g.0 g.1 (f.2 ∙ ap (λ h. Full f.0 h) (full_number f.0 f.1 g.0 g.1 full)) g.2

  pub grown_sound : Sound record { far = p.far; seed = p.seed; slots = slots; buckets = buckets; count = p.count }
  grown_sound = record {
    some = some;
    fits = grown.fits;
    reached = grown.reached;
    apart = grown.apart sound.apart;
    held = λ j t h e. let o = grown.from j t h e in sound.held o.0 t h o.2;
    tagged = λ o j t h q e. let i = grown.from j t h e in sound.tagged o i.0 t h q i.2;
    distinct = grown_distinct;
    counted = λ o. sound.counted o ∙ ap set.len (sym grown_set);
  }
