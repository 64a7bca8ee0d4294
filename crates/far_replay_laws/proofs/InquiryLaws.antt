-- What `where`, `log` and `audit` tell is so.
use Rattle.std.proofs.Common.{◌≡◌, ◌≢◌, ℕ, zero, suc, ◌+◌, ◌*◌, ◌/◌, ◌<◌, ◌≤◌, Bool, true, false, cond, not, nat_lt, nat_eq, sym, refl, ap, subst, ◌∙◌, arith, Option, Some, None, List, [], ◌∷◌, length, filter, inl, inr}
use Rattle.std.specs.Prelude.{map, sum, eqb, Contains}
use Rattle.std.specs.List.{range_with_len, IsDistinct, AllByRecursion}
use Rattle.std.proofs.lemmas.Bool.{cond_both, cases_eq, ne_eqb, lt-ltb, le-ltb, false≢true, true≢false, not-true, and_parts}
use Rattle.std.proofs.lemmas.List.FromFn.{length-map-range_with_len, get_or-map-range_with_len}
use Rattle.far_word.specs.declared.pointer.PtrWord.{PtrWord}
use Rattle.far_word.specs.declared.pointer.PtrWord.TheVariants as pointer
use Rattle.far_word.specs.declared.refused.Refused.TheVariants.{NotHeld, Range}
use Rattle.far_word.specs.declared.sizes.TheConstants.{CELLS}
use Rattle.far_word.specs.Bytes.{bytes_of}
use Rattle.far_word.specs.Pointer.{read_of}
use Rattle.far_log.proofs.Members.{here, there, split, none_in}
use Rattle.far_core.specs.laws.Observed.{live_bytes}
use Rattle.far_events.specs.state.Law.{Law, in_use}
use Rattle.far_events.specs.state.State.{State, addr}
use Rattle.far_core.specs.world.World.{Object, Group, FarSide}
use Rattle.far_core.specs.world.WorldOf.{world_of, object_of}
use Rattle.far_events.proofs.Cells.{unused}
use Rattle.far_core.proofs.Observations.{near_has_one_live}
use Rattle.far_book.specs.book.Home.{home_of}
use Rattle.far_book.specs.declared.home.Home.{Home}
use Rattle.far_book.specs.declared.home.Home.TheVariants.{Near, Far}
use Rattle.far_replay.specs.Answers.{Served, IsMoment}
use Rattle.far_replay.specs.Audit.{lies_near, lies_far, counts_of}
use Rattle.far_text.specs.Command.{Where, Logs as AsksLogs, Log, Audit, Mutator, Book}
use Rattle.far_replay_laws.specs.HowMany.{IsHowMany}
use Rattle.far_replay_laws.specs.Headline.{TellsHome, IsNearObject, IsFarObject, CountsAll}
use Rattle.far_replay.specs.Moment.{Moment}
use Rattle.far_alone.specs.Objects.{uses}
use Rattle.far_reply.specs.declared.reply.Counts.{Counts}
use Rattle.far_reply.specs.declared.reply.LogLine.{LogLine}
use Rattle.far_reply.specs.Reply.{Reply, Logs, Lies, Audited, Refused}
use Rattle.far_replay.specs.Turn.{first_cause, unless, home_reply, log_line}
use Rattle.far_replay.proofs.Lasting.{moment_lasts}

-- ---- where
-- the answer to a mutator of the heap, by whether it uses the pointer
answer : (a b : Bool) (x : Reply) → a ≡ true →
    (b ≡ true → unless (first_cause ((not a, Range) ∷ (not b, NotHeld) ∷ [])) Refused x ≡ x) × (b ≢ true → unless (first_cause ((not a, Range) ∷ (not b, NotHeld) ∷ [])) Refused x ≡ Refused NotHeld)
answer true true x e = ((λ _. refl), (λ ne. absurd (ne refl)))
answer true false x e = ((λ h. absurd (false≢true h)), (λ _. refl))
answer false b x e = absurd (false≢true e)

-- where a pointer in use is
at_home : (s : State) (law : Law s) (p : ℕ) (o : Option PtrWord) → read_of (s.cell p) ≡ o → in_use o ≡ true → (home : Home) × (home_reply (home_of o) ≡ Lies home) × TellsHome s p home
unfolding world_of
at_home s law p (Some (pointer.Near len ds place marks)) e u =
    let o : Object = record { owner = p / CELLS; ds = ds; bytes = bytes_of (λ i. s.word (addr place + 1 + i)) len; home = Group place.log } in
    let there_is : object_of s.word (s.stored p) p (read_of (s.cell p)) ≡ Some o = ap (object_of s.word (s.stored p) p) e ∙ ap (λ b. cond b None (Some o)) (not-true marks.dropped u) in
    (Near place marks, refl, (len, ds, o, e, near_has_one_live s law p len ds place marks e, there_is, refl))
at_home s law p (Some (pointer.Far len ds marks)) e u =
    let o : Object = record { owner = p / CELLS; ds = ds; bytes = bytes_of (s.stored p) len; home = FarSide } in
    let there_is : object_of s.word (s.stored p) p (read_of (s.cell p)) ≡ Some o = ap (object_of s.word (s.stored p) p) e ∙ ap (λ b. cond b None (Some o)) (not-true marks.dropped u) in
    (Far marks, refl, (len, ds, o, e, there_is, refl))
at_home s law p _ e u = absurd (false≢true u)

pub where_tells : (now : Moment) (m p : ℕ) (r : Reply) (after : Moment) → Law now.core → m < now.core.mutators → Served now (Mutator m (Where p)) r after →
    (uses now.core m p ≡ true → (home : Home) × (r ≡ Lies home) × TellsHome now.core p home) × (uses now.core m p ≢ true → r ≡ Refused NotHeld)
where_tells now m p r after law within h =
    let s : State = now.core in
    let told = answer (nat_lt m s.mutators) (uses s m p) (home_reply (home_of (read_of (s.cell p)))) (lt-ltb m s.mutators within) in (
      (λ u.
          let used = (and_parts (nat_eq (p / CELLS) m) (s.used p) u).1 in
          let home = at_home s law p (read_of (s.cell p)) refl (law.views.used_cell p used) in
          (home.0, h.reply ∙ told.0 u ∙ home.1, home.2)),
      (λ ne. h.reply ∙ told.1 ne),
    )

-- ---- log
-- the lines of `logs`
told_lines : (now after : Moment) (lines : List LogLine) → Served now (Book AsksLogs) (Logs lines) after → lines ≡ map (log_line now) (range_with_len 0 now.core.logs)
told_lines now after lines h = ap lines_in h.reply where
  lines_in : Reply → List LogLine
  lines_in (Logs ls) = ls
  lines_in r = []

pub log_tells : (now : Moment) (l : ℕ) (r : Reply) (after : Moment) → Served now (Book (Log l)) r after →
    (l < now.core.logs → (lines : List LogLine) (later : Moment) → Served now (Book AsksLogs) (Logs lines) later → (line : LogLine) × (r ≡ Logs (line ∷ [])) × (line.log ≡ l) × Contains lines line)
    × (now.core.logs ≤ l → r ≡ Refused Range)
log_tells now l r after h =
    let told : Bool → Reply = λ b. unless (first_cause ((not b, Range) ∷ [])) Refused (Logs (log_line now l ∷ [])) in (
      (λ lt lines later k. (
        log_line now l,
        h.reply ∙ ap told (lt-ltb l now.core.logs lt),
        refl,
        subst (λ ls. Contains ls (log_line now l)) (sym (told_lines now later lines k)) (
          l,
          subst (λ n. l < n) (sym (length-map-range_with_len (log_line now) 0 now.core.logs)) lt,
          get_or-map-range_with_len (log_line now) 0 now.core.logs l l (log_line now l) lt (omega arith),
        ),
      )),
      (λ le. h.reply ∙ ap told (le-ltb l now.core.logs le)),
    )

-- ---- audit
-- numbers in a row that pass a test: each once, and no other
all_above : (f : ℕ → Bool) (b a n : ℕ) → b < a → AllByRecursion (λ y. eqb b y ≡ false) (filter f (range_with_len a n))
all_above f b a zero lt = tt
all_above f b a (suc n) lt = cond_both (f a) (a ∷ filter f (range_with_len (a + 1) n)) (filter f (range_with_len (a + 1) n)) (AllByRecursion (λ y. eqb b y ≡ false))
    (λ _. (ne_eqb b a (λ e. omega (arith, e, lt)), all_above f b (a + 1) n (omega arith)))
    (λ _. all_above f b (a + 1) n (omega arith))

distinct_row : (f : ℕ → Bool) (a n : ℕ) → IsDistinct eqb (filter f (range_with_len a n))
unfolding IsDistinct
distinct_row f a zero = tt
distinct_row f a (suc n) = cond_both (f a) (a ∷ filter f (range_with_len (a + 1) n)) (filter f (range_with_len (a + 1) n)) (IsDistinct eqb)
    (λ _. (all_above f a (a + 1) n (omega arith), distinct_row f (a + 1) n))
    (λ _. distinct_row f (a + 1) n)

passes : (f : ℕ → Bool) (a n k : ℕ) → Contains (filter f (range_with_len a n)) k → f k ≡ true
passes f a zero k c = absurd (none_in k c)
passes f a (suc n) k c = cond_both (f a) (a ∷ filter f (range_with_len (a + 1) n)) (filter f (range_with_len (a + 1) n)) (λ (xs : List ℕ). Contains xs k → f k ≡ true)
    (λ first c. elim (split k a (filter f (range_with_len (a + 1) n)) c) [
      | inl e ↦ ap f (sym e) ∙ first
      | inr more ↦ passes f (a + 1) n k more
    ])
    (λ _ c. passes f (a + 1) n k c) c

is_there : (f : ℕ → Bool) (a n k : ℕ) → f k ≡ true → a ≤ k → k < a + n → Contains (filter f (range_with_len a n)) k
is_there f a zero k passing low high = absurd (omega arith)
is_there f a (suc n) k passing low high =
    let rest : List ℕ = filter f (range_with_len (a + 1) n) in
    elim (cases_eq k a) [
      | inl e ↦ cond_both (f a) (a ∷ rest) rest (λ (xs : List ℕ). Contains xs k)
          (λ _. subst (λ x. Contains (x ∷ rest) k) e (here k rest))
          (λ failing. absurd (true≢false (sym passing ∙ ap f e ∙ failing)))
      | inr ne ↦ cond_both (f a) (a ∷ rest) rest (λ (xs : List ℕ). Contains xs k)
          (λ _. there k a rest (is_there f (a + 1) n k passing (omega arith) (omega arith)))
          (λ _. is_there f (a + 1) n k passing (omega arith) (omega arith))
    ]

-- so many pass a test as have what it tests
how_many : (P : ℕ → Type 0) (f : ℕ → Bool) (n : ℕ) → ((k : ℕ) → f k ≡ true → P k) → ((k : ℕ) → P k → f k ≡ true) → ((k : ℕ) → f k ≡ true → k < n) → IsHowMany P (length (filter f (range_with_len 0 n)))
how_many P f n sound whole below = (
  filter f (range_with_len 0 n),
  refl,
  distinct_row f 0 n,
  (λ k. ((λ c. sound k (passes f 0 n k c)), (λ h. let passing = whole k h in is_there f 0 n k passing (omega arith) (omega (arith, below k passing))))),
)

module _ (s : State) (law : Law s) where
  -- what lies near is an object in a group
  near_object : (p : ℕ) (o : Option PtrWord) → read_of (s.cell p) ≡ o → lies_near o ≡ true → IsNearObject s p
  unfolding world_of
  near_object p (Some (pointer.Near len ds place marks)) e n =
      let o : Object = record { owner = p / CELLS; ds = ds; bytes = bytes_of (λ i. s.word (addr place + 1 + i)) len; home = Group place.log } in
      (o, place.log, ap (object_of s.word (s.stored p) p) e ∙ ap (λ b. cond b None (Some o)) (not-true marks.dropped n), refl)
  near_object p _ e n = absurd (false≢true n)

  -- what lies far is one on the far side
  far_object : (p : ℕ) (o : Option PtrWord) → read_of (s.cell p) ≡ o → lies_far o ≡ true → IsFarObject s p
  unfolding world_of
  far_object p (Some (pointer.Far len ds marks)) e n =
      let o : Object = record { owner = p / CELLS; ds = ds; bytes = bytes_of (s.stored p) len; home = FarSide } in
      (o, ap (object_of s.word (s.stored p) p) e ∙ ap (λ b. cond b None (Some o)) (not-true marks.dropped n), refl)
  far_object p _ e n = absurd (false≢true n)

  -- and there is no other object
  in_group : (word stored : ℕ → ℕ) (p : ℕ) (o : Option PtrWord) (x : Object) (group : ℕ) → object_of word stored p o ≡ Some x → x.home ≡ Group group → lies_near o ≡ true
  in_group word stored p None x group e h = absurd cc
  in_group word stored p (Some pointer.Free) x group e h = absurd cc
  in_group word stored p (Some (pointer.Near len ds place marks)) x group e h = kept marks.dropped _ e where
    kept : (b : Bool) (o : Object) → cond b None (Some o) ≡ Some x → not b ≡ true
    kept true o f = absurd cc
    kept false o f = refl
  in_group word stored p (Some (pointer.Far len ds marks)) x group e h = absurd (elsewhere marks.dropped e) where
    elsewhere : (b : Bool) → cond b None (Some record { owner = p / CELLS; ds = ds; bytes = bytes_of stored len; home = FarSide }) ≡ Some x → ⊥
    elsewhere true f = absurd cc
    elsewhere false f = let one : record { owner = p / CELLS; ds = ds; bytes = bytes_of stored len; home = FarSide } ≡ x = cc in
        let odd : FarSide ≡ Group group = ap (λ (o : Object). o.home) one ∙ h in cc

  on_far_side : (word stored : ℕ → ℕ) (p : ℕ) (o : Option PtrWord) (x : Object) → object_of word stored p o ≡ Some x → x.home ≡ FarSide → lies_far o ≡ true
  on_far_side word stored p None x e h = absurd cc
  on_far_side word stored p (Some pointer.Free) x e h = absurd cc
  on_far_side word stored p (Some (pointer.Near len ds place marks)) x e h = absurd (elsewhere marks.dropped e) where
    elsewhere : (b : Bool) → cond b None (Some record { owner = p / CELLS; ds = ds; bytes = bytes_of (λ i. word (addr place + 1 + i)) len; home = Group place.log }) ≡ Some x → ⊥
    elsewhere true f = absurd cc
    elsewhere false f = let one : record { owner = p / CELLS; ds = ds; bytes = bytes_of (λ i. word (addr place + 1 + i)) len; home = Group place.log } ≡ x = cc in
        let odd : Group place.log ≡ FarSide = ap (λ (o : Object). o.home) one ∙ h in cc
  on_far_side word stored p (Some (pointer.Far len ds marks)) x e h = kept marks.dropped _ e where
    kept : (b : Bool) (o : Object) → cond b None (Some o) ≡ Some x → not b ≡ true
    kept true o f = absurd cc
    kept false o f = refl

  object_near : (p : ℕ) → IsNearObject s p → lies_near (read_of (s.cell p)) ≡ true
  unfolding world_of
  object_near p (x, group, is, home) = in_group s.word (s.stored p) p (read_of (s.cell p)) x group is home

  object_far : (p : ℕ) → IsFarObject s p → lies_far (read_of (s.cell p)) ≡ true
  unfolding world_of
  object_far p (x, is, home) = on_far_side s.word (s.stored p) p (read_of (s.cell p)) x is home

  -- a cell that says where isn't free, and so is one of the heap's
  inside : (f : Option PtrWord → Bool) → f (Some pointer.Free) ≡ false → (p : ℕ) → f (read_of (s.cell p)) ≡ true → p < CELLS * s.mutators
  inside f none p h = law.cells.cell_range p (λ z. false≢true (sym (ap f (ap read_of z ∙ unused) ∙ none) ∙ h))

  counts_near : IsHowMany (IsNearObject s) (counts_of s).near
  unfolding counts_of
  counts_near = how_many (IsNearObject s) (λ p. lies_near (read_of (s.cell p))) (CELLS * s.mutators) (λ p h. near_object p (read_of (s.cell p)) refl h) object_near (inside lies_near refl)

  counts_far : IsHowMany (IsFarObject s) (counts_of s).far
  unfolding counts_of
  counts_far = how_many (IsFarObject s) (λ p. lies_far (read_of (s.cell p))) (CELLS * s.mutators) (λ p h. far_object p (read_of (s.cell p)) refl h) object_far (inside lies_far refl)

-- the live bytes that lines tell
lives : (now : Moment) (ls : List ℕ) → map (λ (line : LogLine). line.live) (map (log_line now) ls) ≡ map (live_bytes now.core) ls
lives now [] = refl
lives now (l ∷ ls) = ap (λ xs. live_bytes now.core l ∷ xs) (lives now ls)

counts_live : (now : Moment) → (counts_of now.core).live ≡ sum (map (λ (line : LogLine). line.live) (map (log_line now) (range_with_len 0 now.core.logs)))
unfolding counts_of
counts_live now = ap sum (sym (lives now (range_with_len 0 now.core.logs)))

pub audit_counts : (now : Moment) (r : Reply) (after : Moment) → IsMoment now → Served now (Book Audit) r after → (counts : Counts) × (r ≡ Audited counts) × CountsAll now counts
audit_counts now r after is h =
    let lasts = moment_lasts now is in
    let s : State = now.core in (
      counts_of s,
      h.reply,
      record {
        near = counts_near s lasts.law;
        far = counts_far s lasts.law;
        live = λ lines later k. counts_live now ∙ ap (λ (ls : List LogLine). sum (map (λ (line : LogLine). line.live) ls)) (sym (told_lines now later lines k));
      },
    )
