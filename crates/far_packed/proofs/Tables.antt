-- Tables before and after a step.
use Rattle.std.proofs.Common.{◌≡◌, ◌≢◌, ℕ, zero, suc, ◌+◌, ◌*◌, ◌/◌, ◌%◌, ◌<◌, ◌≤◌, true, Some, None, List, [], ◌∷◌, ◌++◌, length, replicate, get_or, set, refl, sym, ap, subst, ◌∙◌, arith, inl, inr, ◌⊎◌, length-set, get_or-set_same, get_or-set_other, length-append}
use Rattle.std.specs.Prelude.{if◌then◌else◌}
use Rattle.std.proofs.lemmas.Bool.{cases_eq, cases_lt, false≢true, lt-ltb}
use Rattle.far_objects.specs.Far.{Drops, Far, Makes, Others}
use Rattle.far_packed.specs.declared.near.Place.{Place}
use Rattle.far_packed.specs.declared.near.Place.TheVariants.{Open, Sealed, Free}
use Rattle.far_packed.specs.declared.near.Slot.{Slot}
use Rattle.far_packed.specs.declared.near.TheConstants.{MOST_BLOCKS, SLOTS}
use Rattle.far_packed.specs.Blocks.{Appends, Begins, Clears, Frees, HasRoom, Held, IsEmpty, Shaped, Stays, Table, block_bytes, block_len, bytes_of, far_of, from_of, is_free, is_open, len_of, or_zero, place_at, shown, slot_at, some_len}
use Rattle.far_packed.specs.Law.{shown_is}
use Rattle.far_packed.proofs.Values.{bytes_apart, bytes_beside, bytes_same, far_same, free_len, len_apart, len_beside, len_front, not_both, not_free, not_open, open_is, piece_front, piece_last, shown_same, some_len_some}

abbrev pub no_slot : Slot
no_slot = record { from = 0; len = 0 }

pub in_places : (ps : List Place) (b n : ℕ) → place_at ps b ≡ Sealed n → b < length ps
in_places [] b n e = absurd (not_free (Free 0) n e refl)
in_places (p ∷ ps) zero n e = omega arith
in_places (p ∷ ps) (suc b) n e = let l : b < length ps = in_places ps b n e in omega arith

pub in_slots : (ss : List Slot) (h : ℕ) → 0 < (get_or ss h no_slot).len → h < length ss
in_slots [] h some = absurd (omega arith)
in_slots (x ∷ xs) zero some = omega arith
in_slots (x ∷ xs) (suc h) some = let l : h < length xs = in_slots xs h some in omega arith

abbrev or_none : Place → ℕ
or_none Open = 0
or_none (Sealed n) = n
or_none (Free n) = n

pub same_number : (m n : ℕ) → ◌≡◌ {A = Place} (Sealed m) (Sealed n) → m ≡ n
same_number m n e = ap or_none e

-- ---- a table that says the same of each number and of each block
module _ (t : Table) (ss : List Slot) (ps : List Place) (es : (h : ℕ) → get_or ss h no_slot ≡ slot_at t h) (ep : (b : ℕ) → get_or ps b (Free 0) ≡ place_at t.places b)
    (longer : length t.places ≤ length ps) where
  abbrev pub grown : Table
  grown = record { slots = ss; places = ps; current = t.current; used = t.used; buffer = t.buffer }

  len_grown : (h : ℕ) → (get_or ss h no_slot).len ≡ len_of t h
  len_grown h = ap (λ (s : Slot). s.len) (es h)

  from_grown : (h : ℕ) → (get_or ss h no_slot).from ≡ from_of t h
  from_grown h = ap (λ (s : Slot). s.from) (es h)

  pub grown_shaped : Shaped t → SLOTS * length ps ≤ length ss → length ps ≤ MOST_BLOCKS → Shaped grown
  grown_shaped s room few = record {
    room = room;
    few = few;
    current = omega (arith, s.current, longer);
    open_is = ap is_open (ep t.current) ∙ s.open_is;
    alone = λ b e. s.alone b (sym (ap is_open (ep b)) ∙ e);
    apart = λ b c n e f. s.apart b c n (sym (ep b) ∙ e) (sym (ep c) ∙ f);
    ordered = λ h k l same some more.
        let old = s.ordered h k l same (subst (λ n. 0 < n) (len_grown h) some) (subst (λ n. 0 < n) (len_grown k) more) in
        omega (arith, old, len_grown h, from_grown h, from_grown k);
    live = λ h some. let old = s.live h (subst (λ n. 0 < n) (len_grown h) some) in omega (arith, old, longer);
    used = s.used;
    unused = λ h same l. len_grown h ∙ s.unused h same l;
    filled = s.filled;
    most = s.most;
  }

  pub grown_held : (far : Far) → Held far t → Held far grown
  grown_held far held = record {
    fits = λ h some.
        let old = held.fits h (subst (λ n. 0 < n) (len_grown h) some) in
        let same : block_len far t.buffer (get_or ps (h / SLOTS) (Free 0)) ≡ block_len far t.buffer (place_at t.places (h / SLOTS)) = ap (block_len far t.buffer) (ep (h / SLOTS)) in
        omega (arith, old, same, len_grown h, from_grown h);
    there = λ b n e. held.there b n (sym (ep b) ∙ e);
  }

  pub grown_same : (far : Far) → far_of far grown ≡ far_of far t
  grown_same far = far_same far far t grown refl len_grown (λ h. bytes_same far far t grown h refl (es h) (λ o some. ap (block_bytes far t.buffer) (ep (h / SLOTS))))

  pub grown_stays : Shaped t → SLOTS * length ps ≤ length ss → length ps ≤ MOST_BLOCKS → Stays t grown
  grown_stays s room few = record { shaped = grown_shaped s room few; held = grown_held; same = λ far held. grown_same far }

-- more of what stands where there is nothing
pub more_of_none : {A : Type 0} (xs ys : List A) (d : A) → ((i : ℕ) → get_or ys i d ≡ d) → (h : ℕ) → get_or (xs ++ ys) h d ≡ get_or xs h d
more_of_none [] ys d none h = none h
more_of_none (x ∷ xs) ys d none zero = refl
more_of_none (x ∷ xs) ys d none (suc h) = more_of_none xs ys d none h

pub none_of : {A : Type 0} (n : ℕ) (d : A) (i : ℕ) → get_or (replicate n d) i d ≡ d
none_of zero d i = refl
none_of (suc n) d zero = refl
none_of (suc n) d (suc i) = none_of n d i

-- ---- the filled block begins anew
module _ (t : Table) (s : Shaped t) (none : IsEmpty t t.current) where
  abbrev pub anew : Table
  anew = record { slots = t.slots; places = t.places; current = t.current; used = 0; buffer = [] }

  beside_it : (h : ℕ) → 0 < len_of t h → is_open (place_at t.places (h / SLOTS)) ≢ true
  beside_it h some e = let z : len_of t h ≡ 0 = none h (s.alone (h / SLOTS) e) in omega arith

  pub anew_stays : Stays t anew
  anew_stays = record {
    shaped = record {
      room = s.room;
      few = s.few;
      current = s.current;
      open_is = s.open_is;
      alone = s.alone;
      apart = s.apart;
      ordered = s.ordered;
      live = s.live;
      used = omega arith;
      unused = λ h same l. none h same;
      filled = λ l. absurd (omega arith);
      most = omega arith;
    };
    held = λ far held. record {
      fits = λ h some. subst (λ n. from_of t h + len_of t h ≤ n) (len_beside far t.buffer [] (place_at t.places (h / SLOTS)) (beside_it h some)) (held.fits h some);
      there = held.there;
    };
    same = λ far held. far_same far far t anew refl (λ h. refl) (λ h. bytes_same far far t anew h refl refl (λ o some. bytes_beside far [] t.buffer (place_at t.places (h / SLOTS)) (beside_it h some)));
  }

-- ---- a block that has no value, and was the worker's object of this number, is free
module _ (t : Table) (s : Shaped t) (block number next : ℕ) (none : IsEmpty t block) (was : place_at t.places block ≡ Sealed number) where
  abbrev pub freed : Table
  freed = record { slots = t.slots; places = set t.places block (Free next); current = t.current; used = t.used; buffer = t.buffer }

  place_freed : (b : ℕ) → b ≢ block → get_or (set t.places block (Free next)) b (Free 0) ≡ place_at t.places b
  place_freed b ne = get_or-set_other t.places block b (Free next) (Free 0) ne

  -- the block itself isn't open or sealed, whether it is in the table or not
  free_freed : get_or (set t.places block (Free next)) block (Free 0) ≡ Free next
  free_freed = get_or-set_same t.places block (Free next) (Free 0) (in_places t.places block number was)

  not_it : (b : ℕ) (m : ℕ) → get_or (set t.places block (Free next)) b (Free 0) ≡ Sealed m → b ≢ block
  not_it b m e is = not_free _ m e (ap is_free (ap (λ j. get_or (set t.places block (Free next)) j (Free 0)) is ∙ free_freed))

  not_it_open : (b : ℕ) → is_open (get_or (set t.places block (Free next)) b (Free 0)) ≡ true → b ≢ block
  not_it_open b e is = false≢true (sym (ap is_open (ap (λ j. get_or (set t.places block (Free next)) j (Free 0)) is ∙ free_freed)) ∙ e)

  live_beside : (h : ℕ) → 0 < len_of t h → h / SLOTS ≢ block
  live_beside h some e = let z : len_of t h ≡ 0 = none h e in omega arith

  current_beside : t.current ≢ block
  current_beside e = not_open (place_at t.places block) number was (ap (λ b. is_open (place_at t.places b)) (sym e) ∙ s.open_is)

  freed_shaped : Shaped freed
  freed_shaped = record {
    room = subst (λ n. SLOTS * n ≤ length t.slots) (sym (length-set t.places block (Free next))) s.room;
    few = subst (λ n. n ≤ MOST_BLOCKS) (sym (length-set t.places block (Free next))) s.few;
    current = subst (λ n. t.current < n) (sym (length-set t.places block (Free next))) s.current;
    open_is = ap is_open (place_freed t.current current_beside) ∙ s.open_is;
    alone = λ b e. s.alone b (sym (ap is_open (place_freed b (not_it_open b e))) ∙ e);
    apart = λ b c n e f. s.apart b c n (sym (place_freed b (not_it b n e)) ∙ e) (sym (place_freed c (not_it c n f)) ∙ f);
    ordered = s.ordered;
    live = λ h some. subst (λ n. h / SLOTS < n) (sym (length-set t.places block (Free next))) (s.live h some);
    used = s.used;
    unused = s.unused;
    filled = s.filled;
    most = s.most;
  }

  module _ (far later : Far) (others : Others number far later) where
    other_number : (b m : ℕ) → b ≢ block → place_at t.places b ≡ Sealed m → m ≢ number
    other_number b m ne e is = ne (s.apart b block m e (was ∙ ap Sealed (sym is)))

    freed_fits : (h : ℕ) → 0 < len_of t h → block_len later t.buffer (get_or (set t.places block (Free next)) (h / SLOTS) (Free 0)) ≡ block_len far t.buffer (place_at t.places (h / SLOTS))
    freed_fits h some =
        ap (block_len later t.buffer) (place_freed (h / SLOTS) (live_beside h some))
        ∙ len_apart far later t.buffer (place_at t.places (h / SLOTS)) (λ m e. others.sizes m (other_number (h / SLOTS) m (live_beside h some) e))

    pub freed_held : Held far t → Held later freed
    freed_held held = record {
      fits = λ h some. subst (λ n. from_of t h + len_of t h ≤ n) (sym (freed_fits h some)) (held.fits h some);
      there = λ b m e. let was_there : place_at t.places b ≡ Sealed m = sym (place_freed b (not_it b m e)) ∙ e in
          subst (λ o. 0 < or_zero o) (sym (others.sizes m (other_number b m (not_it b m e) was_there))) (held.there b m was_there);
    }

    pub freed_same : far_of later freed ≡ far_of far t
    freed_same = far_same far later t freed others.honest (λ h. refl) (λ h. bytes_same far later t freed h others.honest refl (λ o some.
        ap (block_bytes later t.buffer) (place_freed (h / SLOTS) (live_beside h some))
        ∙ bytes_apart far later t.buffer (place_at t.places (h / SLOTS)) (λ m e. others.bytes m (other_number (h / SLOTS) m (live_beside h some) e))))

  pub frees : Frees number t freed
  frees = record { shaped = freed_shaped; held = λ far later held others. freed_held far later others held; same = λ far later held others. freed_same far later others }

-- ---- a value is gone
module _ (t : Table) (s : Shaped t) (number : ℕ) (some : 0 < len_of t number) where
  abbrev pub cleared : Table
  cleared = record { slots = set t.slots number no_slot; places = t.places; current = t.current; used = t.used; buffer = t.buffer }

  slot_cleared : (h : ℕ) → h ≢ number → slot_at cleared h ≡ slot_at t h
  slot_cleared h ne = get_or-set_other t.slots number h no_slot no_slot ne

  len_cleared : len_of cleared number ≡ 0
  len_cleared = ap (λ (x : Slot). x.len) (get_or-set_same t.slots number no_slot no_slot (in_slots t.slots number some))

  still : (h : ℕ) → 0 < len_of cleared h → h ≢ number
  still h more e = let z : len_of cleared h ≡ 0 = ap (len_of cleared) e ∙ len_cleared in omega arith

  still_live : (h : ℕ) → 0 < len_of cleared h → 0 < len_of t h
  still_live h more = subst (λ (x : Slot). 0 < x.len) (slot_cleared h (still h more)) more

  cleared_shaped : Shaped cleared
  cleared_shaped = record {
    room = subst (λ n. SLOTS * length t.places ≤ n) (sym (length-set t.slots number no_slot)) s.room;
    few = s.few;
    current = s.current;
    open_is = s.open_is;
    alone = s.alone;
    apart = s.apart;
    ordered = λ h k l same a b.
        let old = s.ordered h k l same (still_live h a) (still_live k b) in
        let first : (slot_at cleared h).from + (slot_at cleared h).len ≡ from_of t h + len_of t h = ap (λ (x : Slot). x.from + x.len) (slot_cleared h (still h a)) in
        let second : (slot_at cleared k).from ≡ from_of t k = ap (λ (x : Slot). x.from) (slot_cleared k (still k b)) in
        omega (arith, old, first, second);
    live = λ h more. s.live h (still_live h more);
    used = s.used;
    unused = λ h same l. elim (cases_eq h number) [
      | inl e ↦ ap (len_of cleared) e ∙ len_cleared
      | inr ne ↦ ap (λ (x : Slot). x.len) (slot_cleared h ne) ∙ s.unused h same l
    ];
    filled = s.filled;
    most = s.most;
  }

  cleared_held : (far : Far) → Held far t → Held far cleared
  cleared_held far held = record {
    fits = λ h more. subst (λ (x : Slot). x.from + x.len ≤ block_len far t.buffer (place_at t.places (h / SLOTS))) (sym (slot_cleared h (still h more))) (held.fits h (still_live h more));
    there = held.there;
  }

  cleared_drops : (far : Far) → Drops number (far_of far t) (far_of far cleared)
  cleared_drops far = record {
    there = (len_of t number, ap (λ b. if b then Some (len_of t number) else None) (lt-ltb 0 (len_of t number) some));
    gone = ap some_len len_cleared;
    others = record {
      honest = refl;
      sizes = λ k ne. ap (λ (x : Slot). some_len x.len) (slot_cleared k ne);
      bytes = λ k ne. bytes_same far far t cleared k refl (slot_cleared k ne) (λ o more. refl);
    };
  }

  pub clears : Clears number t cleared
  clears = record { shaped = cleared_shaped; places = refl; held = cleared_held; drops = cleared_drops }

-- ---- the filled block is sealed, and a free one is filled
module _ (t : Table) (s : Shaped t) (block number : ℕ) (within : block < length t.places) (free : is_free (place_at t.places block) ≡ true)
    (fresh : (b : ℕ) → place_at t.places b ≡ Sealed number → ⊥) (filled : 0 < length t.buffer) where
  abbrev pub begun : Table
  begun = record { slots = t.slots; places = set (set t.places t.current (Sealed number)) block Open; current = block; used = 0; buffer = [] }

  at_block : place_at begun.places block ≡ Open
  at_block = get_or-set_same (set t.places t.current (Sealed number)) block Open (Free 0) (subst (λ n. block < n) (sym (length-set t.places t.current (Sealed number))) within)

  other : t.current ≢ block
  other e = not_both (place_at t.places block) free (ap (λ b. is_open (place_at t.places b)) (sym e) ∙ s.open_is)

  at_current : place_at begun.places t.current ≡ Sealed number
  at_current = get_or-set_other (set t.places t.current (Sealed number)) block t.current Open (Free 0) other ∙ get_or-set_same t.places t.current (Sealed number) (Free 0) s.current

  at_others : (b : ℕ) → b ≢ block → b ≢ t.current → place_at begun.places b ≡ place_at t.places b
  at_others b ne nc = get_or-set_other (set t.places t.current (Sealed number)) block b Open (Free 0) ne ∙ get_or-set_other t.places t.current b (Sealed number) (Free 0) nc

  long : length begun.places ≡ length t.places
  long = length-set (set t.places t.current (Sealed number)) block Open ∙ length-set t.places t.current (Sealed number)

  -- which block it is
  data Which (b : ℕ) : Type 0 where
    is_block : b ≡ block → Which b
    is_current : b ≡ t.current → Which b
    is_other : b ≢ block → b ≢ t.current → Which b

  which : (b : ℕ) → Which b
  which b = elim (cases_eq b block) [
    | inl e ↦ is_block e
    | inr ne ↦ elim (cases_eq b t.current) [
      | inl e ↦ is_current e
      | inr nc ↦ is_other ne nc
    ]
  ]

  begun_alone : (b : ℕ) → Which b → is_open (place_at begun.places b) ≡ true → b ≡ block
  begun_alone b (is_block e) o = e
  begun_alone b (is_current e) o = absurd (not_open (place_at begun.places b) number (ap (place_at begun.places) e ∙ at_current) o)
  begun_alone b (is_other ne nc) o = absurd (nc (s.alone b (sym (ap is_open (at_others b ne nc)) ∙ o)))

  -- a sealed block is the one that was filled, or was sealed before
  sealed_was : (b n : ℕ) → Which b → place_at begun.places b ≡ Sealed n → ((b ≡ t.current) × (n ≡ number)) ⊎ ((b ≢ t.current) × (place_at t.places b ≡ Sealed n))
  sealed_was b n (is_block e) is = absurd (not_open (place_at begun.places b) n is (ap (λ j. is_open (place_at begun.places j)) e ∙ ap is_open at_block))
  sealed_was b n (is_current e) is = inl (e, same_number n number (sym is ∙ ap (place_at begun.places) e ∙ at_current))
  sealed_was b n (is_other ne nc) is = inr (nc, sym (at_others b ne nc) ∙ is)

  begun_apart : (b c n : ℕ) → place_at begun.places b ≡ Sealed n → place_at begun.places c ≡ Sealed n → b ≡ c
  begun_apart b c n e f = elim (sealed_was b n (which b) e) [
    | inl x ↦ elim (sealed_was c n (which c) f) [
      | inl y ↦ x.0 ∙ sym y.0
      | inr y ↦ absurd (fresh c (y.1 ∙ ap Sealed x.1))
    ]
    | inr x ↦ elim (sealed_was c n (which c) f) [
      | inl y ↦ absurd (fresh b (x.1 ∙ ap Sealed y.1))
      | inr y ↦ s.apart b c n x.1 y.1
    ]
  ]

  module _ (far : Far) (held : Held far t) where
    none_there : (h : ℕ) → 0 < len_of t h → h / SLOTS ≢ block
    none_there h some e =
        let z : block_len far t.buffer (place_at t.places (h / SLOTS)) ≡ 0 = ap (λ b. block_len far t.buffer (place_at t.places b)) e ∙ free_len far t.buffer (place_at t.places block) free in
        let l = held.fits h some in omega arith

    begun_shaped : Shaped begun
    begun_shaped = record {
      room = subst (λ n. SLOTS * n ≤ length t.slots) (sym long) s.room;
      few = subst (λ n. n ≤ MOST_BLOCKS) (sym long) s.few;
      current = subst (λ n. block < n) (sym long) within;
      open_is = ap is_open at_block;
      alone = λ b o. begun_alone b (which b) o;
      apart = begun_apart;
      ordered = s.ordered;
      live = λ h some. subst (λ n. h / SLOTS < n) (sym long) (s.live h some);
      used = omega arith;
      unused = λ h same l. elim (cases_lt 0 (len_of t h)) [
        | inl some ↦ absurd (none_there h some same)
        | inr z ↦ omega arith
      ];
      filled = λ l. absurd (omega arith);
      most = omega arith;
    }

    module _ (later : Far) (makes : Makes number t.buffer far later) where
      other_sealed : (b n : ℕ) → place_at t.places b ≡ Sealed n → n ≢ number
      other_sealed b n e is = fresh b (e ∙ ap Sealed is)

      same_len : (h : ℕ) → Which (h / SLOTS) → 0 < len_of t h → block_len later [] (place_at begun.places (h / SLOTS)) ≡ block_len far t.buffer (place_at t.places (h / SLOTS))
      same_len h (is_block e) some = absurd (none_there h some e)
      same_len h (is_current e) some =
          ap (λ b. block_len later [] (place_at begun.places b)) e ∙ ap (block_len later []) at_current ∙ ap or_zero makes.size
          ∙ sym (ap (λ b. block_len far t.buffer (place_at t.places b)) e ∙ ap (block_len far t.buffer) (open_is (place_at t.places t.current) s.open_is))
      same_len h (is_other ne nc) some =
          ap (block_len later []) (at_others (h / SLOTS) ne nc)
          ∙ len_beside later [] t.buffer (place_at t.places (h / SLOTS)) (λ o. nc (s.alone (h / SLOTS) o))
          ∙ len_apart far later t.buffer (place_at t.places (h / SLOTS)) (λ n e. makes.others.sizes n (other_sealed (h / SLOTS) n e))

      same_bytes : (h : ℕ) → Which (h / SLOTS) → far.honest ≡ true → 0 < len_of t h → block_bytes later [] (place_at begun.places (h / SLOTS)) ≡ block_bytes far t.buffer (place_at t.places (h / SLOTS))
      same_bytes h (is_block e) o some = absurd (none_there h some e)
      same_bytes h (is_current e) o some =
          ap (λ b. block_bytes later [] (place_at begun.places b)) e ∙ ap (block_bytes later []) at_current ∙ makes.bytes o
          ∙ sym (ap (λ b. block_bytes far t.buffer (place_at t.places b)) e ∙ ap (block_bytes far t.buffer) (open_is (place_at t.places t.current) s.open_is))
      same_bytes h (is_other ne nc) o some =
          ap (block_bytes later []) (at_others (h / SLOTS) ne nc)
          ∙ bytes_beside later [] t.buffer (place_at t.places (h / SLOTS)) (λ o. nc (s.alone (h / SLOTS) o))
          ∙ bytes_apart far later t.buffer (place_at t.places (h / SLOTS)) (λ n e. makes.others.bytes n (other_sealed (h / SLOTS) n e))

      begun_held : Held later begun
      begun_held = record {
        fits = λ h some. subst (λ n. from_of t h + len_of t h ≤ n) (sym (same_len h (which (h / SLOTS)) some)) (held.fits h some);
        there = λ b n e. elim (sealed_was b n (which b) e) [
          | inl x ↦ subst (λ o. 0 < or_zero o) (sym (ap later.sizes x.1 ∙ makes.size)) filled
          | inr x ↦ subst (λ o. 0 < or_zero o) (sym (makes.others.sizes n (other_sealed b n x.1))) (held.there b n x.1)
        ];
      }

      begun_same : far_of later begun ≡ far_of far t
      begun_same = far_same far later t begun makes.others.honest (λ h. refl) (λ h. bytes_same far later t begun h makes.others.honest refl (λ o some. same_bytes h (which (h / SLOTS)) o some))

  pub begins : Begins number t begun
  begins = record {
    shaped = λ far held. begun_shaped far held;
    used = refl;
    buffer = refl;
    held = λ far later held makes. begun_held far held later makes;
    same = λ far later held makes. begun_same far held later makes;
  }

-- ---- a value is put into the filled block
module _ (t : Table) (s : Shaped t) (bytes : List ℕ) (some : 0 < length bytes) (room : HasRoom t (length bytes)) where
  abbrev pub number_of : ℕ
  number_of = t.current * SLOTS + t.used

  abbrev pub last_slot : Slot
  last_slot = record { from = length t.buffer; len = length bytes }

  abbrev pub appended : Table
  appended = record { slots = set t.slots number_of last_slot; places = t.places; current = t.current; used = t.used + 1; buffer = t.buffer ++ bytes }

  its_block : number_of / SLOTS ≡ t.current
  its_block = let l : t.used < 8 = room.slot in omega arith

  its_rest : number_of % SLOTS ≡ t.used
  its_rest = let l : t.used < 8 = room.slot in omega arith

  low : number_of < length t.slots
  low = let a : t.used < 8 = room.slot in let b : 8 * length t.places ≤ length t.slots = s.room in omega (arith, s.current)

  at_number : slot_at appended number_of ≡ last_slot
  at_number = get_or-set_same t.slots number_of last_slot no_slot low

  at_other : (h : ℕ) → h ≢ number_of → slot_at appended h ≡ slot_at t h
  at_other h ne = get_or-set_other t.slots number_of h last_slot no_slot ne

  none_yet : len_of t number_of ≡ 0
  none_yet = s.unused number_of its_block (omega (arith, its_rest))

  is_open_at : (h : ℕ) → h / SLOTS ≡ t.current → place_at t.places (h / SLOTS) ≡ Open
  is_open_at h e = ap (place_at t.places) e ∙ open_is (place_at t.places t.current) s.open_is

  live_before : (h : ℕ) → h ≢ number_of → 0 < len_of appended h → 0 < len_of t h
  live_before h ne l = subst (λ (x : Slot). 0 < x.len) (at_other h ne) l

  module _ (far : Far) (held : Held far t) where
    below_it : (h : ℕ) → h / SLOTS ≡ t.current → 0 < len_of t h → from_of t h + len_of t h ≤ length t.buffer
    below_it h e l = subst (λ p. from_of t h + len_of t h ≤ block_len far t.buffer p) (is_open_at h e) (held.fits h l)

    appended_ordered : (h k : ℕ) → h < k → h / SLOTS ≡ k / SLOTS → 0 < len_of appended h → 0 < len_of appended k → from_of appended h + len_of appended h ≤ from_of appended k
    appended_ordered h k l same a b = elim (cases_eq k number_of) [
      | inl e ↦
          let ne : h ≢ number_of = λ f. absurd (omega arith) in
          let in_it : h / SLOTS ≡ t.current = same ∙ ap (λ j. j / SLOTS) e ∙ its_block in
          let old = below_it h in_it (live_before h ne a) in
          let first : (slot_at appended h).from + (slot_at appended h).len ≡ from_of t h + len_of t h = ap (λ (x : Slot). x.from + x.len) (at_other h ne) in
          let second : (slot_at appended k).from ≡ length t.buffer = ap (λ j. (slot_at appended j).from) e ∙ ap (λ (x : Slot). x.from) at_number in
          omega (arith, old, first, second)
      | inr nk ↦ elim (cases_eq h number_of) [
        | inl e ↦
            let in_it : k / SLOTS ≡ t.current = sym same ∙ ap (λ j. j / SLOTS) e ∙ its_block in
            let z : len_of t k ≡ 0 = s.unused k in_it (omega arith) in
            let c : 0 < len_of t k = live_before k nk b in
            absurd (omega arith)
        | inr nh ↦
            let old = s.ordered h k l same (live_before h nh a) (live_before k nk b) in
            let first : (slot_at appended h).from + (slot_at appended h).len ≡ from_of t h + len_of t h = ap (λ (x : Slot). x.from + x.len) (at_other h nh) in
            let second : (slot_at appended k).from ≡ from_of t k = ap (λ (x : Slot). x.from) (at_other k nk) in
            omega (arith, old, first, second)
      ]
    ]

    appended_shaped : Shaped appended
    appended_shaped = record {
      room = subst (λ n. SLOTS * length t.places ≤ n) (sym (length-set t.slots number_of last_slot)) s.room;
      few = s.few;
      current = s.current;
      open_is = s.open_is;
      alone = s.alone;
      apart = s.apart;
      ordered = appended_ordered;
      live = λ h l. elim (cases_eq h number_of) [
        | inl e ↦ subst (λ b. b < length t.places) (sym (ap (λ j. j / SLOTS) e ∙ its_block)) s.current
        | inr ne ↦ s.live h (live_before h ne l)
      ];
      used = omega (arith, room.slot);
      unused = λ h same l.
          let ne : h ≢ number_of = λ e. let r : h % SLOTS ≡ t.used = ap (λ j. j % SLOTS) e ∙ its_rest in absurd (omega arith) in
          ap (λ (x : Slot). x.len) (at_other h ne) ∙ s.unused h same (omega arith);
      filled = λ l. omega (arith, length-append t.buffer bytes);
      most = omega (arith, length-append t.buffer bytes, room.bytes);
    }

    appended_held : Held far appended
    appended_held = record {
      fits = λ h l. elim (cases_eq h number_of) [
        | inl e ↦
            let in_it : h / SLOTS ≡ t.current = ap (λ j. j / SLOTS) e ∙ its_block in
            let first : (slot_at appended h).from + (slot_at appended h).len ≡ length t.buffer + length bytes = ap (λ j. (slot_at appended j).from + (slot_at appended j).len) e ∙ ap (λ (x : Slot). x.from + x.len) at_number in
            let all : block_len far (t.buffer ++ bytes) (place_at t.places (h / SLOTS)) ≡ length t.buffer + length bytes = ap (block_len far (t.buffer ++ bytes)) (is_open_at h in_it) ∙ length-append t.buffer bytes in
            omega (arith, first, all)
        | inr ne ↦
            let old = held.fits h (live_before h ne l) in
            let first : (slot_at appended h).from + (slot_at appended h).len ≡ from_of t h + len_of t h = ap (λ (x : Slot). x.from + x.len) (at_other h ne) in
            let more = len_front far t.buffer bytes (place_at t.places (h / SLOTS)) in
            omega (arith, old, first, more)
      ];
      there = held.there;
    }

    other_bytes : (h : ℕ) → h ≢ number_of → bytes_of far appended h ≡ bytes_of far t h
    other_bytes h ne =
        let x = block_bytes far (t.buffer ++ bytes) (place_at t.places (h / SLOTS)) in
        ap (λ z. shown far.honest z x) (at_other h ne)
        ∙ shown_same far.honest (slot_at t h) x (block_bytes far t.buffer (place_at t.places (h / SLOTS))) (λ o l. piece_front far t.buffer bytes (place_at t.places (h / SLOTS)) (from_of t h) (len_of t h) (held.fits h l))

    appended_makes : Makes number_of bytes (far_of far t) (far_of far appended)
    appended_makes = record {
      fresh = ap some_len none_yet;
      size = ap (λ (x : Slot). some_len x.len) at_number ∙ some_len_some (length bytes) some;
      bytes = λ o.
          let x = block_bytes far (t.buffer ++ bytes) (place_at t.places (number_of / SLOTS)) in
          ap (λ z. shown far.honest z x) at_number
          ∙ shown_is far.honest last_slot x (t.buffer ++ bytes) o some (ap (block_bytes far (t.buffer ++ bytes)) (is_open_at number_of its_block))
          ∙ ap Some (piece_last t.buffer bytes);
      others = record { honest = refl; sizes = λ k ne. ap (λ (x : Slot). some_len x.len) (at_other k ne); bytes = other_bytes };
    }

  pub appends : Appends number_of bytes t appended
  appends = record {
    shaped = λ far held. appended_shaped far held;
    held = λ far held. appended_held far held;
    makes = λ far held. appended_makes far held;
  }
