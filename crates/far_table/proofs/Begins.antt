-- The rule holds at the start: for the words and the views of any core.
use Rattle.std.proofs.Common.{◌≡◌, ◌≢◌, ◌+◌, ◌*◌, ◌/◌, ◌%◌, ◌<◌, ◌≤◌, ◌^◌, ℕ, Bool, true, false, cond, nat_lt, List, [], sym, refl, ap, ◌∙◌, subst, arith, inl, inr, Option, Some, None}
use Rattle.std.specs.Prelude.{is_some, slice_index, ◌||◌, ◌&&◌, ◌==◌}
use Rattle.std.proofs.lemmas.Bool.{cases_lt, false≢true, le-ltb, lt-ltb}
use Rattle.std.proofs.lemmas.List.{get_or_past}
use mathlib.Core.Logic.{dite}
use mathlib.Core.Path.{fun_ext}
use native.Mathlib.Decide.{ℕ_discrete}
use Rattle.atomic_table.specs.Table.{opening}
use Rattle.far_word.specs.declared.pointer.PtrWord.TheVariants.{Free, Near, Far}
use Rattle.far_word.specs.declared.sizes.TheConstants.{JOBS, LOG_WORDS, MOST_LOGS, MOST_MUTATORS, POINTERS}
use Rattle.far_word.specs.Pointer.{read_of}
use Rattle.far_events.specs.declared.event.Kind.TheVariants as kinds
use Rattle.far_events.specs.events.Advance.{is_among}
use Rattle.far_events.specs.state.Ends.{HasNothingPast}
use Rattle.far_events.specs.state.Law.{BlankLaw, CleanLaw, Law, is_dirty}
use Rattle.far_events.specs.state.State.{State}
use Rattle.far_events.proofs.Cells.{unused}
use Rattle.far_core.proofs.Steps.{agrees}
use Rattle.far_hand.specs.Beside.{uncopied}
use Rattle.far_hand.specs.Known.{IsKnown, unknown}
use Rattle.far_hand.specs.Masked.{masked, masked_word}
use Rattle.far_hand.specs.MayBe.{Shows, job_itself, masked_shows}
use Rattle.far_hand.specs.Quiet.{RestsAt}
use Rattle.far_hand.proofs.Finding.{finds_same}
use Rattle.far_table.specs.View.{BookView, CopierView, OtherViews, OwnerView, Role, Book}
use Rattle.far_table.specs.First.{IsTableOf, first_book, first_copier, first_others, first_owner, rows_from}
use Rattle.far_table.specs.Layout.{cell_at, cell_in, data_at, job_at, job_in, scope_at, scope_in, word_in}
use Rattle.far_table.specs.Rows.{over}
use Rattle.far_table.specs.Rule.{BookTies, Facts, OwnerTies, Running}
use Rattle.far_table.specs.StateOf.{book_state, head_at, held_by, known_word, remembered_by, soiled_by, stained_at, state_of, stored_word, used_by}
use Rattle.far_table.specs.CopierViews.{words_read, words_written}
use Rattle.far_table.specs.Stands.{SaysCopier}
use Rattle.far_table.specs.Views.{dirts, held_at, soiled_at, uses}
use Rattle.far_table.proofs.FirstViews.{copier_stands, copiers_first, eight_copiers, first_asked, first_dropped, first_has, first_heated, first_held, first_scope, first_soiled, first_uses, many_owners, over_all, over_beside, over_within, owner_here, owner_past, owner_stands, pointers_first}

-- a part of the words makes a function, if past its end that is 0
part_is : (n : ℕ) (f g : ℕ → ℕ) → ((q : ℕ) → q < n → f q ≡ g q) → ((q : ℕ) → n ≤ q → g q ≡ 0) → (λ q. cond (nat_lt q n) (f q) 0) ≡ g
part_is n f g within past = fun_ext (λ q. elim (cases_lt q n) [
  | inl lt ↦ ap (λ t. cond t (f q) 0) (lt-ltb q n lt) ∙ within q lt
  | inr le ↦ ap (λ t. cond t (f q) 0) (le-ltb q n le) ∙ sym (past q le)
])

some_where : (t : Bool) (w : ℕ) → is_some (cond t (Some w) None) ≡ t
some_where true w = refl
some_where false w = refl

-- a word that is known is a header
known_head : (t : Bool) (w a : ℕ) → IsKnown (cond (t || false) w (unknown a)) → t ≡ true
known_head true w a known = refl
known_head false w a known = absurd (omega arith)

-- the book's word at an address, by what it has of headers there
word_by : (b : BookView) (a : ℕ) (t : Bool) (w : ℕ) → head_at b a ≡ cond t (Some w) None → over b.known unknown a ≡ unknown a → known_word b a ≡ cond (t || false) w (unknown a)
word_by b a true w e none = rw e refl
word_by b a false w e none = rw e none

-- who has no seat yet is no part of what the facts say of the book
pub other_rest : (ws : List ℕ) (b : BookView) (os : OtherViews) (rest : List Role) → Facts ws b os → Facts ws (record b { rest = rest }) os
other_rest ws b os rest f = record {
  law = f.law;
  agrees = f.agrees;
  book = record { shown = f.book.shown; rests = f.book.rests };
  owners = λ m o at. let ties = f.owners m o at in record { number = ties.number; honest = ties.honest; logs = ties.logs; scope = ties.scope; objects = ties.objects; asks = ties.asks; drops = ties.drops; hots = ties.hots; soils = ties.soils; warm = ties.warm };
  copiers = f.copiers;
  copier_logs = f.copier_logs;
  many = f.many;
  eight = f.eight;
  wide = f.wide;
}

-- ---- the views, past the ends of the core
module _ (s : State) (honest : Bool) (law : Law s) (past : HasNothingPast s) (copiers : s.copying.has_copiers ≡ true) where
  abbrev b : BookView
  b = first_book s honest

  abbrev os : OtherViews
  os = first_others s honest

  -- the core's state, as honest as is said
  abbrev s' : State
  s' = record s { honest = honest }

  remembered_first : remembered_by os.owners ≡ s.remembered
  remembered_first = fun_ext (λ m. elim (cases_lt m s.mutators) [
    | inl lt ↦ ap (λ (y : OwnerView). y.epoch) (owner_here s honest m lt)
    | inr le ↦ ap (λ (y : OwnerView). y.epoch) (owner_past s honest m le) ∙ sym (past.epochs m le)
  ])

  used_first : used_by os.owners ≡ s.used
  used_first = pointers_first s honest uses s.used (λ m p own. first_uses s honest m p own law) past.uses

  held_first : held_by os.owners ≡ s.held
  held_first = pointers_first s honest held_at s.held (first_held s honest) past.holds

  soiled_first : soiled_by os.owners ≡ s.soiled
  soiled_first = pointers_first s honest soiled_at s.soiled (first_soiled s honest) past.soils

  kinds_first : over b.kinds (λ _. kinds.Free) ≡ s.kind
  kinds_first = over_all s.kind (λ _. kinds.Free) MOST_LOGS (λ l le. past.kinds l (omega (arith, law.shape.few_logs)))

  tails_first : over b.tails (λ _. 0) ≡ s.tail
  tails_first = over_all s.tail (λ _. 0) MOST_LOGS (λ l le. past.tails l (omega (arith, law.shape.few_logs)))

  heads_first : head_at b ≡ (λ a. cond (s.starts a) (Some (s.word a)) None)
  heads_first = over_all (λ a. cond (s.starts a) (Some (s.word a)) None) (λ _. None) (MOST_LOGS * LOG_WORDS)
      (λ a le. ap (λ t. cond t (Some (s.word a)) None) (past.spans a (omega (arith, law.shape.few_logs))))

  starts_first : (λ a. is_some (head_at b a)) ≡ s.starts
  starts_first = fun_ext (λ a. ap (λ (f : ℕ → Option ℕ). is_some (f a)) heads_first ∙ some_where (s.starts a) (s.word a))

  words_first : known_word b ≡ masked_word s.word s.starts (λ _. false)
  words_first = fun_ext (λ a. word_by b a (s.starts a) (s.word a) (ap (λ (f : ℕ → Option ℕ). f a) heads_first) refl)

  round_first : over b.round (is_among b.chosen) ≡ s.round
  round_first = over_all s.round (is_among 0) MOST_LOGS
      (λ l le. past.rounds l (omega (arith, law.shape.few_logs)) ∙ sym (ap (λ t. t && ((0 / 2 ^ l % 2) == 1)) (le-ltb l MOST_LOGS le)))

  clear_first : over b.clear (λ _. false) ≡ s.clear
  clear_first = over_all s.clear (λ _. false) MOST_MUTATORS (λ m le. past.clears m (omega (arith, law.shape.few_mutators)))

  stored_first : stored_word b ≡ s.stored
  stored_first = fun_ext (λ p. elim (cases_lt p POINTERS) [
    | inl lt ↦ ap (λ (rows : List (ℕ × ℕ)). over rows (λ _. 0)) (over_within (λ q. rows_from 0 LOG_WORDS (s.stored q)) (λ _. []) POINTERS 0 p (omega arith) (omega arith))
        ∙ over_all (s.stored p) (λ _. 0) LOG_WORDS (past.rows p)
    | inr le ↦ ap (λ (rows : List (ℕ × ℕ)). over rows (λ _. 0)) (over_beside (λ q. rows_from 0 LOG_WORDS (s.stored q)) (λ _. []) POINTERS 0 p (λ x y. omega arith))
        ∙ fun_ext (λ i. sym (past.stores p i (omega (arith, law.shape.few_mutators))))
  ])

  jobs_first : over b.jobs (λ _. 0) ≡ s.copying.word
  jobs_first = over_all s.copying.word (λ _. 0) JOBS (λ j le. (past.jobs j le).0)

  since_first : over b.since (λ _. 0) ≡ s.copying.since
  since_first = over_all s.copying.since (λ _. 0) JOBS (λ j le. (past.jobs j le).1)

  named_first : over b.named (λ _. false) ≡ s.copying.named
  named_first = over_all s.copying.named (λ _. false) JOBS (λ j le. (past.jobs j le).2)

  -- ---- copiers
  read_first : (c : ℕ) → words_read (first_copier s c) ≡ s.copying.read c
  read_first c = over_all (s.copying.read c) (λ _. None) LOG_WORDS (λ i le. (past.copies c i (inr le)).0)

  written_first : (c : ℕ) → words_written (first_copier s c) ≡ s.copying.written c
  written_first c = over_all (s.copying.written c) (λ _. false) LOG_WORDS (λ i le. (past.copies c i (inr le)).1)

  pub copier_says : (c : ℕ) → SaysCopier s c (first_copier s c)
  copier_says c = record { number = refl; task = refl; length = refl; read = read_first c; written = written_first c }

  cells_first : over b.cells (λ _. 0) ≡ s.cell
  cells_first = over_all s.cell (λ _. 0) POINTERS (λ p le. past.cells p (omega (arith, law.shape.few_mutators)))

  stained_first : stained_at b ≡ (λ p. dirts (s.cell p))
  stained_first = over_all (λ p. dirts (s.cell p)) (λ _. 0) POINTERS (λ p le. ap dirts (past.cells p (omega (arith, law.shape.few_mutators))) ∙ ap (λ x. cond (is_dirty x) 1 0) unused)

  -- ---- the book's view is the core's state, of whose words it knows the headers alone
  pub first_book_state : book_state b ≡ masked s' s.cell (λ _. false) s.copying.word
  first_book_state = λ i. record (masked s' s.cell (λ _. false) s.copying.word) {
    cell = cells_first i;
    word = words_first i;
    kind = kinds_first i;
    tail = tails_first i;
    starts = starts_first i;
    round = round_first i;
    round_epoch = sym law.rounds.own_epoch i;
    clear = clear_first i;
    stored = stored_first i;
    copying = record (uncopied s.copying s.copying.word) { has_copiers = sym copiers i; word = jobs_first i; since = since_first i; named = named_first i };
  }

  pub first_shows : Shows (book_state b) s'
  first_shows = subst (λ (o : State). Shows o s') (sym first_book_state) (masked_shows s' s.cell (λ _. false) s.copying.word (λ p. finds_same (s.cell p)) (λ j. job_itself (s.copying.word j)))

  -- ---- the words and the views are the core's state
  module _ (ws : List ℕ) (table : IsTableOf ws s) where
    scope_first : scope_in ws ≡ s.scope
    scope_first = part_is MOST_MUTATORS (λ m. slice_index ws (scope_at m)) s.scope table.scopes (λ m le. past.scopes m (omega (arith, law.shape.few_mutators)))

    cell_first : cell_in ws ≡ s.cell
    cell_first = part_is POINTERS (λ p. slice_index ws (cell_at p)) s.cell table.cells (λ p le. past.cells p (omega (arith, law.shape.few_mutators)))

    word_first : word_in ws ≡ s.word
    word_first = fun_ext (λ a. elim (cases_lt a (s.logs * LOG_WORDS)) [
      | inl lt ↦ table.words a lt
      | inr le ↦ get_or_past ws (data_at a) 0 (omega (arith, table.wide)) ∙ sym (past.words a (omega arith))
    ])

    job_first : job_in ws ≡ s.copying.word
    job_first = part_is JOBS (λ j. slice_index ws (job_at j)) s.copying.word table.jobs (λ j le. (past.jobs j le).0)

    pub first_state : state_of ws b os ≡ s'
    first_state = λ i. record s' {
      epoch = table.epoch i;
      scope = scope_first i;
      cell = cell_first i;
      word = word_first i;
      remembered = remembered_first i;
      used = used_first i;
      held = held_first i;
      soiled = soiled_first i;
      kind = kinds_first i;
      tail = tails_first i;
      starts = starts_first i;
      round = round_first i;
      round_epoch = sym law.rounds.own_epoch i;
      clear = clear_first i;
      stored = stored_first i;
      copying = record {
        has_copiers = sym copiers i;
        word = job_first i;
        since = since_first i;
        named = named_first i;
        task = copiers_first s (λ (v : CopierView). v.task) s.copying.task (λ _. refl) (λ c le. (past.tasks c le).0) i;
        length = copiers_first s (λ (v : CopierView). v.length) s.copying.length (λ _. refl) (λ c le. (past.tasks c le).1) i;
        read = copiers_first s words_read s.copying.read read_first (λ c le. fun_ext (λ k. (past.copies c k (inl le)).0)) i;
        written = copiers_first s words_written s.copying.written written_first (λ c le. fun_ext (λ k. (past.copies c k (inl le)).1)) i;
      };
    }

  -- ---- the rule, where the honesty is the core's own as soon as a cell is in use
  module _ (same : (p : ℕ) → s.cell p ≢ 0 → honest ≡ s.honest) where
    first_blank : BlankLaw honest s.cell s.word s.stored s.used
    first_blank is p free = dite (ℕ_discrete (s.cell p) 0)
        (λ e. let none : read_of (s.cell p) ≡ Some Free = ap read_of e ∙ unused in record {
          near = λ len ds place m cell kept. let odd : Some Free ≡ Some (Near len ds place m) = sym none ∙ cell in absurd (cc);
          far = λ len ds m cell kept. let odd : Some Free ≡ Some (Far len ds m) = sym none ∙ cell in absurd (cc);
        })
        (λ ne. law.unadopted (sym (same p ne) ∙ is) p free)

    first_clean : CleanLaw honest s.cell s.word s.stored
    first_clean p = record {
      back = (law.cleans p).back;
      same = λ is len ds place m near. (law.cleans p).same (sym (same p (λ e. let odd : Some Free ≡ Some (Near len ds place m) = sym (ap read_of e ∙ unused) ∙ near in absurd (cc))) ∙ is) len ds place m near;
    }

    pub first_law : Law s'
    first_law = record {
      shape = law.shape;
      cells = law.cells;
      spans = law.spans;
      logs = law.logs;
      scopes = law.scopes;
      views = law.views;
      rounds = law.rounds;
      clears = law.clears;
      unadopted = first_blank;
      copies = law.copies;
      soils = law.soils;
      cleans = first_clean;
    }

    -- no word is known but headers
    rests_first : (a : ℕ) → IsKnown (masked_word s.word s.starts (λ _. false) a) → s.starts a ≡ false → RestsAt (masked s' s.cell (λ _. false) s.copying.word) a
    rests_first a known plain = absurd (false≢true (sym plain ∙ known_head (s.starts a) (s.word a) a known))

    pub first_book_ties : BookTies b s'
    first_book_ties = record { shown = first_shows; rests = subst (λ (o : State). (a : ℕ) → IsKnown (o.word a) → o.starts a ≡ false → RestsAt o a) (sym first_book_state) rests_first }

    -- MOVE, DROP and HOT count as set once where they stand, and as never taken away; DIRTY as left once by a naming
    pub first_owner_ties : (m : ℕ) → OwnerTies b s' m (first_owner s honest m)
    first_owner_ties m = record {
      number = refl;
      honest = refl;
      logs = refl;
      scope = sym (first_scope s honest m law);
      objects = λ p x own e. first_has s honest m p own x e;
      asks = λ p own. first_asked s honest m p own ∙ omega arith;
      drops = λ p own. first_dropped s honest m p own ∙ omega arith;
      hots = λ p own. first_heated s honest m p own ∙ omega arith;
      soils = λ p own. ap (λ (f : ℕ → ℕ). 0 + f p) stained_first;
      warm = λ p own pinned. absurd (false≢true pinned);
    }

    pub first_facts : (ws : List ℕ) → IsTableOf ws s → Facts ws b os
    first_facts ws table =
        let is : s' ≡ state_of ws b os = sym (first_state ws table) in
        let here : Law (state_of ws b os) = subst Law is first_law in record {
          law = here;
          agrees = agrees (state_of ws b os) here;
          book = subst (BookTies b) is first_book_ties;
          owners = λ m o at. let t = owner_stands s honest m o at in subst (λ (z : State). OwnerTies b z m o) is (subst (OwnerTies b s' m) t.1 (first_owner_ties m));
          copiers = λ c v at. ap (λ (z : CopierView). z.number) (sym (copier_stands s c v at).1);
          copier_logs = λ c v at. ap (λ (z : CopierView). z.logs) (sym (copier_stands s c v at).1);
          many = many_owners s honest;
          eight = eight_copiers s;
          wide = table.wide;
        }

-- what is asked where a table is made of these words and the book's first view
pub opens : {S : Type 0} (s : State) (honest : Bool) (ws : List ℕ) → Law s → HasNothingPast s → s.copying.has_copiers ≡ true → IsTableOf ws s → ((p : ℕ) → s.cell p ≢ 0 → honest ≡ s.honest) →
    Running {S = S} (opening ws [] (Book (first_book s honest)))
opens s honest ws law past copiers table same = record { book = first_book s honest; others = first_others s honest; dealt = []; views = refl; all = refl; facts = first_facts s honest law past copiers same ws table }
