-- Answers of the heap's calls are those of a mutator that is alone with its lines, or is given other bytes than it wrote.
use Rattle.std.proofs.Common.{◌≡◌, ◌≢◌, ◌⊎◌, ℕ, ◌+◌, ◌-◌, ◌/◌, ◌<◌, ◌≤◌, Bool, true, false, Option, Some, None, List, ◌++◌, length, take, drop, get_or, replicate, refl, sym, ap, subst, ◌∙◌, inl, inr, arith}
use Rattle.std.specs.Prelude.{◌&&◌, IfSome, if◌then◌else◌, nat_le, slice_range}
use Rattle.std.proofs.Math.Seq.{take-append_seam}
use Rattle.std.proofs.lemmas.Bool.{eq-eqb, eqb-true, false≢true, le-leb}
use Rattle.std.proofs.lemmas.List.{take_all}
use Rattle.std.proofs.lemmas.Option.{none-some}
use Rattle.far_word.specs.declared.refused.Refused.{Refused as Refusal}
use Rattle.far_word.specs.Pointer.{read_of}
use Rattle.far_word.specs.declared.refused.Refused.TheVariants.{AlreadyOpen, Closed, Damaged, Device, Held, Marked, Memory, NoPointer, NoRoom, NotHeld}
use Rattle.far_word.specs.declared.sizes.TheConstants.{CELLS, LONGEST}
use Rattle.far_events.specs.state.State.{put}
use Rattle.far_events.proofs.Put.{put_same}
use Rattle.far_heap.specs.BookHad.{BookHad, HasRoom, LacksRoom, NoneFree}
use Rattle.far_heap.specs.HeapId.{HeapId}
use Rattle.far_heap.specs.Mine.{Asks, AsksToView, HasLeft as LeavesOne, IsNoObject, IsNoView, IsRefusedNew, IsRefusedView, IsSlow, IsUnbrought, Mine, UsesAll, adopting, asking, bytes_in, closing, drop_refusal, dropping, ds_in, is_length, len_in, opening, owns, uses, viewing, views, with_range, writing}
use Rattle.far_heap.specs.MineLaw.{MineLaw}
use Rattle.far_heap.proofs.Spliced.{length-with_range, with_range_inside}
use Rattle.far_text.specs.Command.{Close, Command, Drop, Mutator, New, Open, On, Use, Reads, Writes, Views, Request, Try}
use Rattle.far_replay.specs.Alone.{FitsIn, HasAll, HasLeft, Knows}
use Rattle.far_alone.specs.Own.{Own}
use Rattle.far_reply.specs.Reply.{Data, Done, Pointer, Refused, Reply}
use Rattle.far_replay.proofs.Fronts.{ranges_same}
use Rattle.far_split.specs.FarSides.{FarSide}
use Rattle.far_split.specs.Here.{IsToldOf, IsUndamaged, KnowsHere, TellsOfHeap}
use Rattle.far_split.specs.Slots.{Answers, AreSizes, IsOwn, IsReached, Learns, needs_scope}
use Rattle.far_split.specs.declared.access.Access.{Access}
use Rattle.far_split.proofs.Owns.{is_adopting, is_closing, is_dropping, is_opening, is_otherwise, is_viewing, is_writing, unused_none, used_known, used_own}

-- ---- what was put in the place of others is there
read_back : (all new : List ℕ) (from : ℕ) → from + length new ≤ length all → slice_range (with_range all from new) from (from + length new) ≡ new
read_back all new from fits =
    ranges_same (with_range all from new) new from 0 (length new) (omega (arith, length-with_range all from new fits)) (omega arith)
    (λ k lt. with_range_inside all from new fits (from + k) (omega arith) (omega arith) ∙ ap (λ j. get_or new j 0) (omega arith))
    ∙ take_all (0 + length new - 0) new (omega arith)

-- ---- by the plain program's law
plainly : (honest : Bool) (m : ℕ) (o : Own) (c : Command) (r : Reply) (q : Own) → Knows m o c r q → (honest ≡ true → IsUndamaged r) → KnowsHere honest m o c r q
plainly true m o c r q knows whole = (knows, whole refl)
plainly false m o c r q knows whole = inl knows

-- which of its pointers it uses
all_used : (m : Mine) (o : Own) → IsOwn m o → UsesAll m → HasAll m.number o
all_used m o is all p own none = let known = used_known m o is p (all p (eq-eqb (p / CELLS) m.number own)) in none-some known.all (sym none ∙ known.is)

one_left : (m : Mine) (o : Own) → IsOwn m o → LeavesOne m → HasLeft m.number o
one_left m o is (p, own, unused) = (p, eqb-true (p / CELLS) m.number own, unused_none m o is p unused)

-- a refusal is one that the mutator may be told, and tells what was so of the heap
abbrev IsToldSo : HeapId → Mine → Own → Request → Refusal → Type 0
IsToldSo heap m o request why = KnowsHere m.honest m.number o (Mutator m.number request) (Refused why) o × TellsOfHeap heap m.number o (Mutator m.number request) (Refused why)

-- ---- why there is no view
no_view : (u v : Bool) (why : Refusal) → IsRefusedView u v why → ((u ≡ false) × (why ≡ NotHeld)) ⊎ ((u ≡ true) × (v ≡ false) × IsUnbrought why)
no_view true true why h = absurd h
no_view true false why h = inr (refl, refl, h)
no_view false v why h = inl (refl, h)

-- an object that isn't viewed can't be brought
module _ {heap : HeapId} (m : Mine) (o : Own) (opened : o.opened ≡ true) (p : ℕ) (all : List ℕ) (known : o.object p ≡ Some all) (why : Refusal) (unviewed : o.viewed p ≡ false) (is : IsUnbrought why)
    (honestly : why ≡ Damaged → m.honest ≡ false) (never : why ≢ Memory) (cause : IsToldOf heap p why) where
  unbrought : (request : Request) → (IsToldOf heap p NoRoom → IsToldSo heap m o request NoRoom) → (IsToldOf heap p Device → IsToldSo heap m o request Device) → ((m.honest ≡ true → IsUndamaged (Refused Damaged)) → IsToldOf heap p Damaged → IsToldSo heap m o request Damaged)
      → IsToldSo heap m o request why
  unbrought request buffer device damaged =
      let by : (other : Refusal) → why ≡ other → (IsToldOf heap p other → IsToldSo heap m o request other) → IsToldSo heap m o request why
      = λ other e told. subst (IsToldSo heap m o request) (sym e) (told (subst (λ (x : Refusal). IsToldOf heap p x) e cause)) in
      elim is [
        | inl e ↦ by NoRoom e buffer
        | inr (inl e) ↦ absurd (never e)
        | inr (inr (inl e)) ↦ by Device e device
        | inr (inr (inr e)) ↦ by Damaged e (damaged (λ honest. false≢true (sym (honestly e) ∙ honest)))
      ]

  unbrought_use : (how : Use) → FitsIn all how → IsToldSo heap m o (On p how) why
  unbrought_use how fits =
      unbrought (On p how)
      (λ had. (plainly m.honest m.number o (Mutator m.number (On p how)) (Refused NoRoom) o (opened, unviewed, refl, (all, known, fits)) (λ _. tt), had))
      (λ had. (plainly m.honest m.number o (Mutator m.number (On p how)) (Refused Device) o (opened, unviewed, refl, (all, known, fits)) (λ _. tt), had))
      (λ whole had. (plainly m.honest m.number o (Mutator m.number (On p how)) (Refused Damaged) o (opened, unviewed, refl, (all, known, fits)) whole, had))

length_fits : (len : ℕ) → 0 < len → len ≤ LONGEST → is_length len ≡ true
length_fits len some most = ap (λ b. b && nat_le len LONGEST) (le-leb 1 len some) ∙ le-leb len LONGEST most

-- ---- what calls answer
module _ {heap : HeapId} (m : Mine) (law : MineLaw m) where
  pub made : (len ds : ℕ) (sizes : ℕ × ℕ) → AreSizes len ds sizes → (p : ℕ) (n : Mine) → owns m p ≡ true → uses m p ≡ false → n ≡ adopting p sizes.0 sizes.1 m → BookHad FarSide heap (HasRoom m.number sizes.0 p)
      → Answers heap m (New len ds) (Pointer p) n
  made len ds sizes are p n own unused e had =
      let new : adopting p sizes.0 sizes.1 m ≡ adopting p len ds m = ap (λ l. adopting p l sizes.1 m) are.0 ∙ ap (λ d. adopting p len d m) are.1 in
      subst (λ (z : Mine). Answers heap m (New len ds) (Pointer p) z) (sym (e ∙ new)) (record {
        learns = λ o is. record {
          own = record o { object = put o.object p (Some (replicate len 0)) };
          is = is_adopting m law o is p own len ds;
          knows = plainly m.honest m.number o (Mutator m.number (New len ds)) (Pointer p) (record o { object = put o.object p (Some (replicate len 0)) }) (are.2, are.3, are.4, eqb-true (p / CELLS) m.number own, unused_none m o is p unused, refl) (λ _. tt);
          tells = subst (λ l. BookHad FarSide heap (HasRoom m.number l p)) are.0 had;
        };
        short = tt;
        logless = tt;
        number = refl;
        honest = refl;
      })

  -- it is refused, and knows what it knew
  refuses : (request : Request) (why : Refusal) → ((o : Own) → IsOwn m o → IsToldSo heap m o request why) → Answers heap m request (Refused why) m
  refuses request why told = record { learns = λ o is. (let both = told o is in record { own = o; is = is; knows = both.0; tells = both.1 }); short = tt; logless = tt; number = refl; honest = refl }

  pub unmade : (len ds : ℕ) (sizes : ℕ × ℕ) → AreSizes len ds sizes → (why : Refusal) (n : Mine) → IsNoObject sizes.0 why → n ≡ m → (why ≡ NoPointer → BookHad FarSide heap (NoneFree m.number))
      → (why ≡ NoRoom → BookHad FarSide heap (LacksRoom m.number sizes.0)) → (why ≡ NoPointer → UsesAll m) → (why ≡ NoRoom → LeavesOne m) → Answers heap m (New len ds) (Refused why) n
  unmade len ds sizes are why n given e none full all left =
      let is : IsRefusedNew true why = subst (λ b. IsRefusedNew b why) (ap is_length are.0 ∙ length_fits len are.3 are.4) given in
      let by : (other : Refusal) → why ≡ other → ((o : Own) → IsOwn m o → IsToldSo heap m o (New len ds) other) → Answers heap m (New len ds) (Refused why) m
      = λ other same told. subst (λ (x : Refusal). Answers heap m (New len ds) (Refused x) m) (sym same) (refuses (New len ds) other told) in
      subst (λ (z : Mine). Answers heap m (New len ds) (Refused why) z) (sym e) (elim is [
        | inl pointer ↦ by NoPointer pointer (λ o is. (plainly m.honest m.number o (Mutator m.number (New len ds)) (Refused NoPointer) o (are.2, are.3, are.4, all_used m o is (all pointer), refl) (λ _. tt), none pointer))
        | inr room ↦ by NoRoom room (λ o is. (plainly m.honest m.number o (Mutator m.number (New len ds)) (Refused NoRoom) o (are.2, are.3, are.4, one_left m o is (left room), refl) (λ _. tt), subst (λ l. BookHad FarSide heap (LacksRoom m.number l)) are.0 (full room)))
      ])

  pub dropped : (p : ℕ) (n : Mine) → uses m p ≡ true → views m p ≡ false → n ≡ dropping p m → Answers heap m (Drop p) Done n
  dropped p n used unviewed e =
      subst (λ (z : Mine). Answers heap m (Drop p) Done z) (sym e) (record {
        learns = λ o is. (let known = used_known m o is p used in record {
          own = record o { object = put o.object p None };
          is = is_dropping m law o is p (used_own m p used);
          knows = plainly m.honest m.number o (Mutator m.number (Drop p)) Done (record o { object = put o.object p None }) (is.viewed p ∙ unviewed, refl, (known.all, known.is)) (λ _. tt);
          tells = tt;
        });
        short = tt;
        logless = tt;
        number = refl;
        honest = refl;
      })

  pub dropped_open : (p : ℕ) (n : Mine) → drop_refusal m p ≡ None → n ≡ dropping p m → Answers heap m (Drop p) Done n
  dropped_open p n none e = let free = unrefused (uses m p) (views m p) none in dropped p n free.0 free.1 e where
    unrefused : (u v : Bool) → (if u then (if v then Some Held else None) else Some NotHeld) ≡ None → (u ≡ true) × (v ≡ false)
    unrefused true true h = absurd (cc)
    unrefused true false h = (refl, refl)
    unrefused false v h = absurd (cc)

  pub opens : m.opened ≡ false → Answers heap m Open Done (opening m)
  opens closed = record {
    learns = λ o is. record { own = record o { opened = true }; is = is_opening m o is; knows = plainly m.honest m.number o (Mutator m.number Open) Done (record o { opened = true }) (is.opened ∙ closed, refl) (λ _. tt); tells = tt };
    short = tt;
    logless = tt;
    number = refl;
    honest = refl;
  }

  pub closes : m.opened ≡ true → Answers heap m Close Done (closing m)
  closes opened = record {
    learns = λ o is. record { own = record o { opened = false; viewed = λ _. false }; is = is_closing m o is; knows = plainly m.honest m.number o (Mutator m.number Close) Done (record o { opened = false; viewed = λ _. false }) (is.opened ∙ opened, refl) (λ _. tt); tells = tt };
    short = tt;
    logless = tt;
    number = refl;
    honest = refl;
  }

  pub closed_here : m.opened ≡ false → (request : Request) → needs_scope request ≡ true → Answers heap m request (Refused Closed) m
  closed_here closed Close wants = refuses Close Closed (λ o is. (plainly m.honest m.number o (Mutator m.number Close) (Refused Closed) o (is.opened ∙ closed, refl) (λ _. tt), tt))
  closed_here closed (On p how) wants = refuses (On p how) Closed (λ o is. (plainly m.honest m.number o (Mutator m.number (On p how)) (Refused Closed) o (is.opened ∙ closed, refl) (λ _. tt), tt))
  closed_here closed (Try p) wants = refuses (Try p) Closed (λ o is. (plainly m.honest m.number o (Mutator m.number (Try p)) (Refused Closed) o (is.opened ∙ closed, refl) (λ _. tt), tt))
  closed_here closed request wants = absurd (false≢true wants)

  pub open_here : m.opened ≡ true → Answers heap m Open (Refused AlreadyOpen) m
  open_here opened = refuses Open AlreadyOpen (λ o is. (plainly m.honest m.number o (Mutator m.number Open) (Refused AlreadyOpen) o (is.opened ∙ opened, refl) (λ _. tt), tt))

  -- while the scope is open
  module _ (opened : m.opened ≡ true) (p : ℕ) where
    pub viewed : (n : Mine) → uses m p ≡ true → AsksToView p m n → Answers heap m (On p Views) Done n
    viewed n used views =
        subst (λ (z : Mine). Answers heap m (On p Views) Done z) (sym views.1) (record {
          learns = λ o is. (let known = used_known m o is p used in record {
            own = record o { viewed = put o.viewed p true };
            is = is_viewing m law o is p (used_own m p used) views.0;
            knows = plainly m.honest m.number o (Mutator m.number (On p Views)) Done (record o { viewed = put o.viewed p true }) (is.opened ∙ opened, refl, (known.all, known.is)) (λ _. tt);
            tells = tt;
          });
          short = tt;
          logless = tt;
          number = refl;
          honest = refl;
        })

    pub tried : (n : Mine) → uses m p ≡ true → n ≡ viewing p m → Answers heap m (Try p) Done n
    tried n used e =
        subst (λ (z : Mine). Answers heap m (Try p) Done z) (sym e) (record {
          learns = λ o is. (let known = used_known m o is p used in let stays = is_viewing m law o is p (used_own m p used) 0 in record {
            own = record o { viewed = put o.viewed p true };
            is = record { opened = stays.opened; viewed = stays.viewed; object = stays.object };
            knows = plainly m.honest m.number o (Mutator m.number (Try p)) Done (record o { viewed = put o.viewed p true }) (is.opened ∙ opened, refl, (known.all, known.is)) (λ _. tt);
            tells = tt;
          });
          short = tt;
          logless = tt;
          number = refl;
          honest = refl;
        })

    pub marked : (word : ℕ) (n : Mine) → uses m p ≡ true → views m p ≡ false → n ≡ m → IsSlow (len_in m p) (ds_in m p) (read_of word) → Answers heap m (Try p) (Refused (Marked word)) n
    marked word n used unviewed e slow =
        subst (λ (z : Mine). Answers heap m (Try p) (Refused (Marked word)) z) (sym e) (refuses (Try p) (Marked word) (λ o is. let known = used_known m o is p used in (
          plainly m.honest m.number o (Mutator m.number (Try p)) (Refused (Marked word)) o (is.opened ∙ opened, is.viewed p ∙ unviewed, refl, (known.all, known.is)) (λ _. tt),
          (known.all, known.is, (ds_in m p, subst (λ l. IsSlow l (ds_in m p) (read_of word)) (sym known.long) slow)),
        )))

    module _ (n : Mine) (why : Refusal) (no : IsNoView m p why) (asks : Asks p m n) (honestly : why ≡ Damaged → m.honest ≡ false) (never : why ≢ Memory) (cause : uses m p ≡ true → IsToldOf heap p why) where
      unanswered : (request : Request) → ((o : Own) → IsOwn m o → IsToldSo heap m o request why) → Answers heap m request (Refused why) n
      unanswered request told = subst (λ (z : Mine). Answers heap m request (Refused why) z) (sym asks.1) (record {
        learns = λ o is. (let both = told o is in record { own = o; is = record { opened = is.opened; viewed = is.viewed; object = is.object }; knows = both.0; tells = both.1 });
        short = tt;
        logless = tt;
        number = refl;
        honest = refl;
      })

      pub unviewed : Answers heap m (On p Views) (Refused why) n
      unviewed = unanswered (On p Views) (λ o is. elim (no_view (uses m p) (views m p) why no) [
        | inl h ↦ subst (IsToldSo heap m o (On p Views)) (sym h.1) (plainly m.honest m.number o (Mutator m.number (On p Views)) (Refused NotHeld) o (is.opened ∙ opened, unused_none m o is p h.0, refl) (λ _. tt), tt)
        | inr h ↦ (let known = used_known m o is p h.0 in unbrought_use m o (is.opened ∙ opened) p known.all known.is why (is.viewed p ∙ h.1) h.2 honestly never (cause h.0) Views tt)
      ])

      module _ (used : uses m p ≡ true) where
        unreached : (how : Use) → ((all : List ℕ) → length all ≡ len_in m p → FitsIn all how) → Answers heap m (On p how) (Refused why) n
        unreached how fits = unanswered (On p how) (λ o is. elim (no_view (uses m p) (views m p) why no) [
          | inl h ↦ absurd (false≢true (sym h.0 ∙ used))
          | inr h ↦ (let known = used_known m o is p used in
              unbrought_use m o (is.opened ∙ opened) p known.all known.is why (is.viewed p ∙ h.1) h.2 honestly never (cause used) how (fits known.all known.long))
        ])

    -- the object is viewed, and some of its bytes are read or written
    module _ (used : uses m p ≡ true) (n : Mine) (views : AsksToView p m n) (from : ℕ) where
      -- over an honest far side they are the bytes that it has; over one that may lie it is given any
      has_read : (count : ℕ) (bytes : List ℕ) → 0 < count → from + count ≤ len_in m p → length bytes ≡ count → IfSome (bytes_in n p) (λ all. bytes ≡ slice_range all from (from + count))
          → Answers heap m (On p (Reads from count)) (Data bytes) n
      has_read count bytes some fits long are =
          subst (λ (z : Mine). Answers heap m (On p (Reads from count)) (Data bytes) z) (sym views.1) (record {
            learns = λ o is. reads o is m.honest refl;
            short = (let most = law.most p used in omega (arith, long, most, fits));
            logless = tt;
            number = refl;
            honest = refl;
          })
        where
          own : owns m p ≡ true
          own = used_own m p used

          of_m : IfSome (bytes_in m p) (λ all. bytes ≡ slice_range all from (from + count))
          of_m = subst (λ (z : Mine). IfSome (bytes_in z p) (λ all. bytes ≡ slice_range all from (from + count))) views.1 are

          reads : (o : Own) → IsOwn m o → (honest : Bool) → m.honest ≡ honest → Learns heap m o (On p (Reads from count)) (Data bytes) (viewing p (asking p views.0 m))
          reads o is true honest =
              let known = used_known m o is p used in
              let same : bytes ≡ slice_range known.all from (from + count) = subst (λ (b : Option (List ℕ)). IfSome b (λ all. bytes ≡ slice_range all from (from + count))) (known.sure honest) of_m in
              record {
                own = record o { viewed = put o.viewed p true };
                is = is_viewing m law o is p own views.0;
                knows = plainly m.honest m.number o (Mutator m.number (On p (Reads from count))) (Data bytes) (record o { viewed = put o.viewed p true }) (is.opened ∙ opened, refl, (known.all, known.is, (some, omega (arith, fits, known.long)), same)) (λ _. tt);
                tells = tt;
              }
          reads o is false lying =
              let known = used_known m o is p used in
              let within : from + length bytes ≤ length known.all = omega (arith, fits, known.long, long) in
              let new = with_range known.all from bytes in
              let many = length-with_range known.all from bytes within in
              let other : Own = record o { object = put o.object p (Some new) } in
              let back = subst (λ c. bytes ≡ slice_range new from (from + c)) long (sym (read_back known.all bytes from within)) in
              record {
                own = record other { viewed = put o.viewed p true };
                is = is_viewing m law other (is_otherwise m law o is p own lying used new (many ∙ known.long)) p own views.0;
                knows = subst (λ h. KnowsHere h m.number o (Mutator m.number (On p (Reads from count))) (Data bytes) (record other { viewed = put o.viewed p true })) (sym lying) (inr (record {
                  p = p;
                  asks = (refl, refl);
                  old = known.all;
                  new = new;
                  had = known.is;
                  long = many;
                  knows = (is.opened ∙ opened, refl, (new, put_same o.object p (Some new) p refl, (some, omega (arith, fits, known.long, many)), back));
                }));
                tells = tt;
              }

      has_written : (later : Mine) (new : List ℕ) → 0 < length new → from + length new ≤ len_in m p → later ≡ writing p from new n → Answers heap m (On p (Writes from new)) Done later
      has_written later new some fits e =
          subst (λ (z : Mine). Answers heap m (On p (Writes from new)) Done z) (sym (e ∙ ap (writing p from new) views.1)) (record {
            learns = λ o is. (let known = used_known m o is p used in let within : from + length new ≤ length known.all = omega (arith, fits, known.long) in record {
              own = record o { object = put o.object p (Some (with_range known.all from new)); viewed = put o.viewed p true };
              is = is_writing m law o is p (used_own m p used) from new known.all views.0 known.is within;
              knows = plainly m.honest m.number o (Mutator m.number (On p (Writes from new))) Done (record o { object = put o.object p (Some (with_range known.all from new)); viewed = put o.viewed p true }) (is.opened ∙ opened, (known.all, known.is, (some, within), refl)) (λ _. tt);
              tells = tt;
            });
            short = tt;
            logless = tt;
            number = refl;
            honest = refl;
          })

-- all that was read is in the room for it
whole : (out items : List ℕ) (n : ℕ) → length out ≡ n → take n (out ++ drop (length out) items) ≡ out
whole out items n e = subst (λ k. take k (out ++ drop (length out) items) ≡ out) e (take-append_seam out (drop (length out) items))

-- ---- what they answer of a range that was looked at first
module _ {heap : HeapId} (m : Mine) (law : MineLaw m) (opened : m.opened ≡ true) (p from : ℕ) where
  module _ (count : ℕ) (a : Access) (is : IsReached m p from count a) (n : Mine) where
    pub unread_at : (why : Refusal) → IsNoView m a.pointer why → Asks a.pointer m n → (why ≡ Damaged → m.honest ≡ false) → why ≢ Memory → (uses m a.pointer ≡ true → IsToldOf heap a.pointer why)
        → Answers heap m (On p (Reads from count)) (Refused why) n
    unread_at why failed asks honestly never cause =
        unreached m law opened p n why (subst (λ q. IsNoView m q why) is.0 failed) (subst (λ q. Asks q m n) is.0 asks) honestly never
        (subst (λ q. uses m q ≡ true → IsToldOf heap q why) is.0 cause) is.3 (Reads from count) (λ all long. (is.4, omega (arith, is.5, long)))

    -- the room has as many bytes as were asked for
    pub read_at : (v buffer k : ℕ) (out items : List ℕ) (later : Mine) → AsksToView a.pointer m n → v ≡ a.pointer → buffer ≡ a.count → length out ≡ buffer → k ≡ buffer → later ≡ n
        → IfSome (bytes_in n v) (λ all. out ≡ slice_range all a.from (a.from + buffer)) → Answers heap m (On p (Reads from count)) (Data (take k (out ++ drop (length out) items))) later
    read_at v buffer k out items later views at many long wide same are =
        let there = subst (λ q. IfSome (bytes_in n q) (λ all. out ≡ slice_range all a.from (a.from + buffer))) (at ∙ is.0) are in
        let begun = subst (λ f. IfSome (bytes_in n p) (λ all. out ≡ slice_range all f (f + buffer))) is.1 there in
        let ended = subst (λ c. IfSome (bytes_in n p) (λ all. out ≡ slice_range all from (from + c))) (many ∙ is.2) begun in
        subst (λ (z : Mine). Answers heap m (On p (Reads from count)) (Data (take k (out ++ drop (length out) items))) z) (sym same)
        (subst (λ bytes. Answers heap m (On p (Reads from count)) (Data bytes) n) (sym (whole out items k (long ∙ sym wide)))
        (has_read m law opened p is.3 n (subst (λ q. AsksToView q m n) is.0 views) from count out is.4 is.5 (long ∙ many ∙ is.2) ended))

  module _ (new : List ℕ) (a : Access) (is : IsReached m p from (length new) a) (n : Mine) where
    pub unwritten_at : (why : Refusal) → IsNoView m a.pointer why → Asks a.pointer m n → (why ≡ Damaged → m.honest ≡ false) → why ≢ Memory → (uses m a.pointer ≡ true → IsToldOf heap a.pointer why)
        → Answers heap m (On p (Writes from new)) (Refused why) n
    unwritten_at why failed asks honestly never cause =
        unreached m law opened p n why (subst (λ q. IsNoView m q why) is.0 failed) (subst (λ q. Asks q m n) is.0 asks) honestly never
        (subst (λ q. uses m q ≡ true → IsToldOf heap q why) is.0 cause) is.3 (Writes from new) (λ all long. (is.4, omega (arith, is.5, long)))

    pub written_at : (v : ℕ) (later : Mine) → AsksToView a.pointer m n → v ≡ a.pointer → later ≡ writing v a.from new n → Answers heap m (On p (Writes from new)) Done later
    written_at v later views at e =
        has_written m law opened p is.3 n (subst (λ q. AsksToView q m n) is.0 views) from later new is.4 is.5
        (e ∙ ap (λ q. writing q a.from new n) (at ∙ is.0) ∙ ap (λ f. writing p f new n) is.1)
