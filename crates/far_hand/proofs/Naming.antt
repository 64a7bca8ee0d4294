-- What a beset hand knows after it has named a word, and why what is legal by its view is legal.
use Rattle.std.proofs.Common.{◌≡◌, ◌≢◌, ℕ, ◌+◌, ◌-◌, ◌*◌, ◌^◌, ◌<◌, ◌≤◌, Bool, true, false, cond, nat_lt, Option, Some, None, inl, inr, refl, sym, ap, ◌∙◌, subst, arith}
use Rattle.std.specs.Prelude.{◌⊎◌, ◌||◌, ◌==◌, is_some}
use Rattle.std.proofs.lemmas.Bool.{cond_both, eqb-true, eqb-false, eq-eqb, false≢true, ne_eqb, lt-ltb, ltb-true}
use mathlib.Core.Path.{fun_ext}
use Rattle.far_word.specs.declared.mark.Marks.{Marks}
use Rattle.far_word.specs.declared.pointer.Place.{Place}
use Rattle.far_word.specs.declared.pointer.PtrWord.TheVariants.{Near}
use Rattle.far_word.specs.declared.sizes.TheConstants.{CELLS}
use Rattle.far_word.specs.Header.{head_word}
use Rattle.far_word.specs.Job.{job_of}
use Rattle.far_word.specs.Pointer.{read_of}
use Rattle.far_word.specs.Sizes.{words_for}
use Rattle.far_word.proofs.PointerLaws.{read_says}
use Rattle.far_events.specs.declared.event.Event.TheVariants.{Name}
use Rattle.far_events.specs.declared.event.Reply.{Reply}
use Rattle.far_events.specs.declared.event.Reply.TheVariants.{Done, Word}
use Rattle.far_events.specs.declared.naming.Naming.{Naming}
use Rattle.far_events.specs.declared.naming.Naming.TheVariants.{Places, Retires, Evicts, Stays, Moves, Fetches}
use Rattle.far_events.specs.events.Copied.{IsCopied, WasCopied, copied_job}
use Rattle.far_events.specs.events.Copies.{EndsPadded}
use Rattle.far_events.specs.events.Legal.{Legal}
use Rattle.far_events.specs.events.Name.{after_naming}
use Rattle.far_events.specs.events.namings.Evicts.{with_kept}
use Rattle.far_events.specs.events.namings.Moves.{MayMove, after_move}
use Rattle.far_events.specs.events.Naming.{naming_of, IsNaming, naming_row}
use Rattle.far_events.specs.events.NewSpans.{IsNewSpan}
use Rattle.far_events.specs.events.Step.{after, answer}
use Rattle.far_events.specs.state.Jobs.{is_finished, job_said}
use Rattle.far_events.specs.state.Law.{Law, IsStored, head_len, is_dirty}
use Rattle.far_events.specs.state.State.{State, addr, put}
use Rattle.far_events.proofs.Copied.{copied_fact, copied_test, none_copied_there}
use Rattle.far_events.proofs.MadeNamings.{unbegun}
use Rattle.far_events.proofs.Namings.{naming_only}
use Rattle.far_events.proofs.Bounds.{span_len}
use Rattle.far_events.proofs.Put.{put_other, put_same}
use Rattle.far_hand.specs.Known.{IsKnown, Forgets, KnowsLeaving, StoresLeaving}
use Rattle.far_hand.specs.Masked.{masked, AllFind, AllFindJobs}
use Rattle.far_hand.proofs.Finding.{place_found}
use Rattle.far_hand.proofs.Knowing.{alike_words, quiet_too, stored_too, stored_fits, few_bits}
use Rattle.far_hand.proofs.NewSpans.{header_small, new_headers, word_is}
use Rattle.far_hand.proofs.Reading.{known_word, header_known, forgets}

-- ---- whether a naming won
module _ (s : State) (p old new : ℕ) where
  pub won : answer s (Name p old new) ≡ Done → s.cell p ≡ old
  won = cond_both (s.cell p == old) Done (Word (s.cell p)) (λ (r : Reply). r ≡ Done → s.cell p ≡ old) (λ h _. eqb-true (s.cell p) old h) (λ _ e. absurd cc)

  pub lost : (w : ℕ) → answer s (Name p old new) ≡ Word w → s.cell p ≢ old
  lost w = cond_both (s.cell p == old) Done (Word (s.cell p)) (λ (r : Reply). r ≡ Word w → s.cell p ≢ old) (λ _ e. absurd cc) (λ h _. eqb-false (s.cell p) old h)

  pub lost_word : (w : ℕ) → answer s (Name p old new) ≡ Word w → s.cell p ≡ w
  lost_word w = cond_both (s.cell p == old) Done (Word (s.cell p)) (λ (r : Reply). r ≡ Word w → s.cell p ≡ w) (λ _ e. absurd cc) (λ _ e. cc)

  pub lost_state : s.cell p ≢ old → after s (Name p old new) ≡ s
  lost_state ne = ap (λ b. cond b (after_naming s p new (naming_of (read_of old) (read_of new))) s) (ne_eqb (s.cell p) old ne)

  pub won_state : (form : Naming) → s.cell p ≡ old → IsNaming form (read_of old) (read_of new) → after s (Name p old new) ≡ (naming_row s p new form).after
  won_state form e n = ap (λ b. cond b (after_naming s p new (naming_of (read_of old) (read_of new))) s) (eq-eqb (s.cell p) old e)
      ∙ ap (after_naming s p new) (naming_only form (read_of old) (read_of new) n)

-- a move takes a span, or names what was copied
move_word : (s : State) (p new len : ℕ) (to : Place) (o : Option ℕ) → (after_move s p new len to o).word ≡ s.word
move_word s p new len to None = refl
move_word s p new len to (Some j) = refl

move_cell : (s : State) (p new len : ℕ) (to : Place) (o : Option ℕ) → (after_move s p new len to o).cell ≡ put s.cell p new
move_cell s p new len to None = refl
move_cell s p new len to (Some j) = refl

move_jobs : (s : State) (p new len : ℕ) (to : Place) (o : Option ℕ) → (after_move s p new len to o).copying.word ≡ s.copying.word
move_jobs s p new len to None = refl
move_jobs s p new len to (Some j) = refl

move_sizes : (s : State) (p new len : ℕ) (to : Place) (o : Option ℕ) → ((after_move s p new len to o).mutators ≡ s.mutators) × ((after_move s p new len to o).logs ≡ s.logs)
move_sizes s p new len to None = (refl, refl)
move_sizes s p new len to (Some j) = (refl, refl)

move_stored : (s : State) (p new len : ℕ) (to : Place) (o : Option ℕ) → (after_move s p new len to o).stored ≡ s.stored
move_stored s p new len to None = refl
move_stored s p new len to (Some j) = refl

-- a naming changes no word, and forgets none
name_word : (s : State) (p new : ℕ) (o : Option Naming) → (after_naming s p new o).word ≡ s.word
name_word s p new None = refl
name_word s p new (Some (Places len ds place)) = refl
name_word s p new (Some Retires) = refl
name_word s p new (Some (Evicts len place)) = refl
name_word s p new (Some Stays) = refl
name_word s p new (Some (Moves len ds from to)) = move_word s p new len to (copied_job s p from to)
name_word s p new (Some (Fetches len ds place)) = refl

pub name_forgets : (s : State) (p old new : ℕ) → Forgets s (after s (Name p old new))
name_forgets s p old new = let same = cond_both (s.cell p == old) (after_naming s p new (naming_of (read_of old) (read_of new))) s (λ (u : State). u.word ≡ s.word) (λ _. name_word s p new (naming_of (read_of old) (read_of new))) (λ _. refl) in
    record { known = λ a h. ap (λ (f : ℕ → ℕ). f a) same; headers = λ a h. ap (λ (f : ℕ → ℕ). f a) same }

-- ---- what is stored of an object that went far
module _ (s : State) (law : Law s) (p old new : ℕ) (won_it : s.cell p ≡ old) (len : ℕ) (place : Place) (n : IsNaming (Evicts len place) (read_of old) (read_of new)) where
  pub left_words : (i : ℕ) → i < words_for len → (after s (Name p old new)).stored p i ≡ s.word (addr place + 1 + i)
  left_words i lt = ap (λ (u : State). u.stored p i) (won_state s p old new (Evicts len place) won_it n)
      ∙ (ap (λ (f : ℕ → ℕ). f i) (put_same s.stored p (with_kept s.word s.stored p (addr place + 1) (words_for len)) p refl)
      ∙ ap (λ b. cond b (s.word (addr place + 1 + i)) (s.stored p i)) (lt-ltb i (words_for len) lt))

  near : read_of (s.cell p) ≡ Some (Near len n.0 place n.1)
  near = ap read_of won_it ∙ n.2

  pub left_fits : IsStored ((after s (Name p old new)).stored p) len
  left_fits i lt =
      let there = law.cells.cell_near p len n.0 place n.1 near in
      let long : head_len (s.word (addr place)) ≡ len = rw (span_len s law p len n.0 place n.1 near) refl in
      let fits : s.word (addr place + 1 + i) < 2 ^ (8 * (len - 8 * i)) = rw (← long) (law.spans.span_padding (addr place) there.placed i (omega (arith, long, lt))) in
      subst (λ w. (w < 2 ^ 64) × (w < 2 ^ (8 * (len - 8 * i)))) (sym (left_words i lt)) (law.spans.word_fits (addr place + 1 + i), fits)

  -- where the far side is honest, of one without DIRTY it is what was stored before
  pub left_same : s.honest ≡ true → is_dirty (read_of old) ≡ false → (i : ℕ) → i < words_for len → (after s (Name p old new)).stored p i ≡ s.stored p i
  left_same honest none i lt = left_words i lt ∙ sym ((law.cleans p).same honest len n.0 place n.1 near (sym (ap is_dirty n.2) ∙ none) i lt)

-- ---- what a won naming tells
pub record Names (o v : State) (p old new : ℕ) : Type 0 where
  pub done : v ≡ record (after o (Name p old new)) { word = v.word; stored = v.stored }
  pub stored : StoresLeaving o v p old new
  pub forgot : Forgets o v

-- by what the core and the rows are then
pub rows_name : (o : State) (p old new : ℕ) (t t' : State) (found found' : ℕ → ℕ) (counted counted' : ℕ → Bool) (jobs jobs' : ℕ → ℕ) → t ≡ t' → found ≡ found' → counted ≡ counted' → jobs ≡ jobs' →
    Names o (masked t' found' counted' jobs') p old new → Names o (masked t found counted jobs) p old new
rows_name o p old new t t' found found' counted counted' jobs jobs' is cells none set = subst (λ (v : State). Names o v p old new) (sym (λ i. masked (is i) (cells i) (none i) (set i)))

module _ (s : State) (law : Law s) (found : ℕ → ℕ) (counted : ℕ → Bool) (jobs : ℕ → ℕ) (finds : AllFind found s.cell) (going : AllFindJobs jobs s.copying.word) (p old new : ℕ)
    (small : p < CELLS * s.mutators) (fits : new < 2 ^ 64) where
  abbrev o : State
  o = masked s found counted jobs

  head_small : (len ds : ℕ) (place : Place) {k : Marks} → read_of new ≡ Some (Near len ds place k) → head_word p len ds < 2 ^ 64
  head_small len ds place {k} says = header_small s law new p len ds place k small fits says

  new_span : (len ds : ℕ) (place : Place) {k : Marks} → read_of new ≡ Some (Near len ds place k) → IsNewSpan o p len ds place → IsNewSpan s p len ds place
  new_span len ds place says h = record { next = h.next; head = word_is s found counted jobs (addr place) (head_word p len ds) (head_small len ds place says) h.head }

  some_bytes : (len ds : ℕ) (place : Place) {k : Marks} → read_of new ≡ Some (Near len ds place k) → 0 < len
  some_bytes len ds place {k} says = let x = read_says new (Near len ds place k) fits says in omega (arith, x.0)

  -- a last word that the view says is padded, is known
  padded : (len : ℕ) (place : Place) → 0 < len → EndsPadded o.word len place → EndsPadded s.word len place
  padded len place some h =
      let low : 2 ^ (8 * (len - 8 * (words_for len - 1))) ≤ 2 ^ 64 = few_bits len some in
      let last : s.word (addr place + 1 + (words_for len - 1)) ≡ o.word (addr place + 1 + (words_for len - 1)) =
      word_is s found counted jobs (addr place + 1 + (words_for len - 1)) (o.word (addr place + 1 + (words_for len - 1))) (omega (arith, h, low)) refl in
      subst (λ w. w < 2 ^ (8 * (len - 8 * (words_for len - 1)))) (sym last) h

  may_move : (len ds : ℕ) (from to : Place) {k : Marks} → read_of new ≡ Some (Near len ds to k) → MayMove o p len ds from to → MayMove s p len ds from to
  may_move len ds from to says h = record {
    span = new_span len ds to says h.span;
    padded = padded len to (some_bytes len ds to says) h.padded;
    quiet = quiet_too s found counted jobs p (finds p) h.quiet;
    log = h.log;
    same = λ i lt. alike_words s found counted jobs law (addr to + 1 + i) (addr from + 1 + i) (h.same i lt);
  }

  -- what the view says was copied, was copied: of a finished job it has the word
  finished_too : (from to : Place) (j c : ℕ) → IsCopied o p from to j c → IsCopied s p from to j c
  finished_too from to j c h = record {
    low = h.low;
    lies = sym (place_found (found p) (s.cell p) (finds p)) ∙ h.lies;
    finished = ap job_of ((going j).ended (ap is_finished h.finished)) ∙ h.finished;
    good = h.good;
  }

  copied_too : (from to : Place) → WasCopied o p from to → WasCopied s p from to
  copied_too from to (j, c, h) = (j, c, finished_too from to j c h)

  -- and by the same job, since no two have one target; where a new span is taken, by none
  one_job : (from to : Place) (i j c d : ℕ) → IsCopied s p from to i c → IsCopied s p from to j d → i ≡ j
  one_job from to i j c d x y = law.copies.jobs.targets_differ i j _ _ (ap job_said x.finished) (ap job_said y.finished) refl

  none_too : (from to : Place) (a b : Option ℕ) → copied_job o p from to ≡ a → copied_job s p from to ≡ b → s.starts (addr to) ≡ false → a ≡ b
  none_too from to None None ea eb fresh = refl
  none_too from to None (Some j) ea eb fresh = sym (none_copied_there s p from to law fresh) ∙ eb
  none_too from to (Some i) b ea eb fresh =
      let x = copied_fact o p from to i ea in
      absurd (false≢true (ap is_some (sym (none_copied_there s p from to law fresh)) ∙ copied_test s p from to (i, x.0, finished_too from to i x.0 x.1)))

  some_too : (from to : Place) (a b : Option ℕ) → copied_job o p from to ≡ a → copied_job s p from to ≡ b → WasCopied o p from to → a ≡ b
  some_too from to None b ea eb has = absurd (false≢true (ap is_some (sym ea) ∙ copied_test o p from to has))
  some_too from to a None ea eb has = absurd (false≢true (ap is_some (sym eb) ∙ copied_test s p from to (copied_too from to has)))
  some_too from to (Some i) (Some j) ea eb has =
      let x = copied_fact o p from to i ea in
      let y = copied_fact s p from to j eb in
      ap (λ k. Some k) (one_job from to i j x.0 y.0 (finished_too from to i x.0 x.1) y.1)

  pub job_too : (len ds : ℕ) (from to : Place) {k : Marks} → read_of new ≡ Some (Near len ds to k) → MayMove o p len ds from to ⊎ WasCopied o p from to → copied_job o p from to ≡ copied_job s p from to
  job_too len ds from to {k} says (inl h) =
      let bounds = read_says new (Near len ds to k) fits says in
      none_too from to (copied_job o p from to) (copied_job s p from to) refl refl (unbegun s law to h.span.next (omega (arith, bounds.0)))
  job_too len ds from to says (inr has) = some_too from to (copied_job o p from to) (copied_job s p from to) refl refl has

  move_legal : (len ds : ℕ) (from to : Place) {k : Marks} → read_of new ≡ Some (Near len ds to k) → MayMove o p len ds from to ⊎ WasCopied o p from to → MayMove s p len ds from to ⊎ WasCopied s p from to
  move_legal len ds from to says (inl h) = inl (may_move len ds from to says h)
  move_legal len ds from to says (inr has) = inr (copied_too from to has)

  row_legal : (form : Naming) → IsNaming form (read_of old) (read_of new) → (naming_row o p new form).Legal → (naming_row s p new form).Legal
  row_legal (Places len ds place) n h = (new_span len ds place n.1 h.0, λ i lt. word_is s found counted jobs (addr place + 1 + i) 0 (omega arith) (h.1 i lt))
  row_legal Retires n h = tt
  row_legal (Evicts len place) n h = quiet_too s found counted jobs p (finds p) h
  row_legal Stays n h = tt
  row_legal (Moves len ds from to) n h = move_legal len ds from to n.1 h
  row_legal (Fetches len ds place) n h = record {
    span = new_span len ds place n.1 h.span;
    padded = padded len place (some_bytes len ds place n.1) h.padded;
    stored = λ honest.
        let all = stored_too (found p) (s.cell p) (finds p) (words_for len) (h.stored honest).all in
        record { all = all; same = λ i lt. word_is s found counted jobs (addr place + 1 + i) (s.stored p i) (stored_fits s law p (words_for len) all i lt) ((h.stored honest).same i lt) };
  }

  -- what is legal by the view is legal
  pub legal_name : Legal o (Name p old new) → Legal s (Name p old new)
  legal_name h = (small, (h.1.0, h.1.1, row_legal h.1.0 h.1.1 h.1.2))

  span_headers : (len ds : ℕ) (place : Place) {k : Marks} → read_of new ≡ Some (Near len ds place k) → o.word (addr place) ≡ head_word p len ds →
      (a : ℕ) → put s.starts (addr place) true a ≡ true → s.word a ≡ o.word a
  span_headers len ds place says head = new_headers s found counted jobs (addr place) (head_word p len ds) (head_small len ds place says) head

  move_headers : (len ds : ℕ) (from to : Place) {k : Marks} → read_of new ≡ Some (Near len ds to k) → MayMove o p len ds from to ⊎ WasCopied o p from to → (j : Option ℕ) → copied_job s p from to ≡ j →
      (a : ℕ) → (after_move s p new len to j).starts a ≡ true → s.word a ≡ o.word a
  move_headers len ds from to says h (Some j) e a = λ st. sym (header_known s.word s.starts counted a st)
  move_headers len ds from to says (inl h) None e a = span_headers len ds to says h.span.head a
  move_headers len ds from to says (inr has) None e a = absurd (false≢true (sym (ap is_some e) ∙ copied_test s p from to (copied_too from to has)))

  -- each header is known: those that were, and that of a new span
  headers_same : (form : Naming) → IsNaming form (read_of old) (read_of new) → (naming_row o p new form).Legal →
      (a : ℕ) → (naming_row s p new form).after.starts a ≡ true → s.word a ≡ o.word a
  headers_same (Places len ds place) n h a = span_headers len ds place n.1 h.0.head a
  headers_same Retires n h a = λ st. sym (header_known s.word s.starts counted a st)
  headers_same (Evicts len place) n h a = λ st. sym (header_known s.word s.starts counted a st)
  headers_same Stays n h a = λ st. sym (header_known s.word s.starts counted a st)
  headers_same (Moves len ds from to) n h a = move_headers len ds from to n.1 h (copied_job s p from to) refl a
  headers_same (Fetches len ds place) n h a = span_headers len ds place n.1 h.span.head a

  abbrev v : Naming → State
  v form = masked (naming_row s p new form).after (put found p new) (λ _. false) jobs

  -- what an eviction stores is what the view shows
  kept_same : (len : ℕ) (place : Place) → ((i : ℕ) → i < words_for len → IsKnown (o.word (addr place + 1 + i))) →
      with_kept s.word s.stored p (addr place + 1) (words_for len) ≡ with_kept o.word s.stored p (addr place + 1) (words_for len)
  kept_same len place known = fun_ext (λ i. cond_both (nat_lt i (words_for len)) _ _
      (λ w. cond (nat_lt i (words_for len)) (s.word (addr place + 1 + i)) (s.stored p i) ≡ w)
      (λ t. ap (λ b. cond b (s.word (addr place + 1 + i)) (s.stored p i)) t ∙ sym (known_word (s.starts (addr place + 1 + i) || counted (addr place + 1 + i)) (s.word (addr place + 1 + i)) (addr place + 1 + i) (known i (ltb-true i (words_for len) t))))
      (λ f. ap (λ b. cond b (s.word (addr place + 1 + i)) (s.stored p i)) f))

  move_done : (len : ℕ) (to : Place) (j : Option ℕ) → masked (after_move s p new len to j) (put found p new) (λ _. false) jobs ≡
      record (after_move o p new len to j) {
        word = (masked (after_move s p new len to j) (put found p new) (λ _. false) jobs).word;
        stored = (masked (after_move s p new len to j) (put found p new) (λ _. false) jobs).stored;
      }
  move_done len to None = refl
  move_done len to (Some j) = refl

  row_done : (form : Naming) → IsNaming form (read_of old) (read_of new) → (naming_row o p new form).Legal → v form ≡ record (naming_row o p new form).after { word = (v form).word; stored = (v form).stored }
  row_done (Places len ds place) n h = refl
  row_done Retires n h = refl
  row_done (Evicts len place) n h = refl
  row_done Stays n h = refl
  row_done (Moves len ds from to) n h =
      move_done len to (copied_job s p from to)
      ∙ ap (λ j. record (after_move o p new len to j) { word = (v (Moves len ds from to)).word; stored = (v (Moves len ds from to)).stored }) (sym (job_too len ds from to n.1 h))
  row_done (Fetches len ds place) n h = refl

  -- what is stored, is as the view's event stores it, where the words that leave are known
  row_stored : (form : Naming) → IsNaming form (read_of old) (read_of new) → KnowsLeaving o old new →
      ((len : ℕ) (place : Place) → IsNaming (Evicts len place) (read_of old) (read_of new) → is_dirty (read_of old) ≡ true) → (v form).stored ≡ (naming_row o p new form).after.stored
  row_stored (Places len ds place) n known dirty = refl
  row_stored Retires n known dirty = refl
  row_stored (Evicts len place) n known dirty = ap (put s.stored p) (kept_same len place (known len place n (dirty len place n)))
  row_stored Stays n known dirty = refl
  row_stored (Moves len ds from to) n known dirty = move_stored s p new len to (copied_job s p from to) ∙ sym (move_stored o p new len to (copied_job o p from to))
  row_stored (Fetches len ds place) n known dirty = refl

  row_others : (form : Naming) (q : ℕ) → q ≢ p → (naming_row s p new form).after.stored q ≡ s.stored q
  row_others (Places len ds place) q ne = refl
  row_others Retires q ne = refl
  row_others (Evicts len place) q ne = put_other s.stored p _ q ne
  row_others Stays q ne = refl
  row_others (Moves len ds from to) q ne = ap (λ (f : ℕ → ℕ → ℕ). f q) (move_stored s p new len to (copied_job s p from to))
  row_others (Fetches len ds place) q ne = refl

  row_word : (form : Naming) → (naming_row s p new form).after.word ≡ s.word
  row_word (Places len ds place) = refl
  row_word Retires = refl
  row_word (Evicts len place) = refl
  row_word Stays = refl
  row_word (Moves len ds from to) = move_word s p new len to (copied_job s p from to)
  row_word (Fetches len ds place) = refl

  row_cell : (form : Naming) → (naming_row s p new form).after.cell ≡ put s.cell p new
  row_cell (Places len ds place) = refl
  row_cell Retires = refl
  row_cell (Evicts len place) = refl
  row_cell Stays = refl
  row_cell (Moves len ds from to) = move_cell s p new len to (copied_job s p from to)
  row_cell (Fetches len ds place) = refl

  row_jobs : (form : Naming) → (naming_row s p new form).after.copying.word ≡ s.copying.word
  row_jobs (Places len ds place) = refl
  row_jobs Retires = refl
  row_jobs (Evicts len place) = refl
  row_jobs Stays = refl
  row_jobs (Moves len ds from to) = move_jobs s p new len to (copied_job s p from to)
  row_jobs (Fetches len ds place) = refl

  row_sizes : (form : Naming) → ((naming_row s p new form).after.mutators ≡ s.mutators) × ((naming_row s p new form).after.logs ≡ s.logs)
  row_sizes (Places len ds place) = (refl, refl)
  row_sizes Retires = (refl, refl)
  row_sizes (Evicts len place) = (refl, refl)
  row_sizes Stays = (refl, refl)
  row_sizes (Moves len ds from to) = move_sizes s p new len to (copied_job s p from to)
  row_sizes (Fetches len ds place) = (refl, refl)

  row_forgets : (form : Naming) → IsNaming form (read_of old) (read_of new) → (naming_row o p new form).Legal → Forgets o (v form)
  row_forgets form n h = forgets o (v form) (naming_row s p new form).after.starts refl (naming_row s p new form).after.word refl
      (λ a st. ap (λ f. f a) (row_word form) ∙ headers_same form n h a st)

  module _ (legal : Legal o (Name p old new)) (seen : old ≡ found p) (won_it : s.cell p ≡ old) where
    pub names : KnowsLeaving o old new → Names o (masked (after s (Name p old new)) (put found p new) (λ _. false) jobs) p old new
    names known =
        let form = legal.1.0 in
        let mine : after s (Name p old new) ≡ (naming_row s p new form).after = won_state s p old new form won_it legal.1.1 in
        let its : after o (Name p old new) ≡ (naming_row o p new form).after = won_state o p old new form (sym seen) legal.1.1 in
        let same : masked (after s (Name p old new)) (put found p new) (λ _. false) jobs ≡ v form = ap (λ (u : State). masked u (put found p new) (λ _. false) jobs) mine in
        subst (λ x. Names o x p old new) (sym same) (record {
          done = row_done form legal.1.1 legal.1.2 ∙ ap (λ (u : State). record u { word = (v form).word; stored = (v form).stored }) (sym its);
          stored = record {
            kept = λ dirty. row_stored form legal.1.1 known dirty ∙ ap (λ (u : State). u.stored) (sym its);
            others = row_others form;
            fits = λ len place n. subst (λ (u : State). IsStored (u.stored p) len) mine (left_fits s law p old new won_it len place n);
            own = λ len place n i lt is. ap (λ (u : State). u.stored p i) (sym mine) ∙ left_words s law p old new won_it len place n i lt
                ∙ sym (known_word (s.starts (addr place + 1 + i) || counted (addr place + 1 + i)) (s.word (addr place + 1 + i)) (addr place + 1 + i) is);
            same = λ honest len place n none i lt. ap (λ (u : State). u.stored p i) (sym mine) ∙ left_same s law p old new won_it len place n honest none i lt;
          };
          forgot = row_forgets form legal.1.1 legal.1.2;
        })

    pub cells_named : (after s (Name p old new)).cell ≡ put s.cell p new
    cells_named = ap (λ (u : State). u.cell) (won_state s p old new legal.1.0 won_it legal.1.1) ∙ row_cell legal.1.0

    pub jobs_named : (after s (Name p old new)).copying.word ≡ s.copying.word
    jobs_named = ap (λ (u : State). u.copying.word) (won_state s p old new legal.1.0 won_it legal.1.1) ∙ row_jobs legal.1.0

    pub sizes_named : ((after s (Name p old new)).mutators ≡ s.mutators) × ((after s (Name p old new)).logs ≡ s.logs)
    sizes_named = let e = won_state s p old new legal.1.0 won_it legal.1.1 in let x = row_sizes legal.1.0 in
        (ap (λ (u : State). u.mutators) e ∙ x.0, ap (λ (u : State). u.logs) e ∙ x.1)

-- ---- the same where all is known
form_others : (s : State) (p new : ℕ) (o : Option Naming) (q : ℕ) → q ≢ p → (after_naming s p new o).stored q ≡ s.stored q
form_others s p new None q ne = refl
form_others s p new (Some (Places len ds place)) q ne = refl
form_others s p new (Some Retires) q ne = refl
form_others s p new (Some (Evicts len place)) q ne = put_other s.stored p _ q ne
form_others s p new (Some Stays) q ne = refl
form_others s p new (Some (Moves len ds from to)) q ne = ap (λ (f : ℕ → ℕ → ℕ). f q) (move_stored s p new len to (copied_job s p from to))
form_others s p new (Some (Fetches len ds place)) q ne = refl

pub stores_leaving : (s : State) → Law s → (p old new : ℕ) → Legal s (Name p old new) → s.cell p ≡ old → StoresLeaving s (after s (Name p old new)) p old new
stores_leaving s law p old new legal won_it = record {
  kept = λ _. refl;
  others = λ q ne. cond_both (s.cell p == old) (after_naming s p new (naming_of (read_of old) (read_of new))) s (λ (u : State). u.stored q ≡ s.stored q)
      (λ _. form_others s p new (naming_of (read_of old) (read_of new)) q ne) (λ _. refl);
  fits = left_fits s law p old new won_it;
  own = λ len place n i lt _. left_words s law p old new won_it len place n i lt;
  same = λ honest len place n none i lt. left_same s law p old new won_it len place n honest none i lt;
}
