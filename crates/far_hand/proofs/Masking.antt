-- What stays known to a hand while others are at work.
use Rattle.std.proofs.Common.{◌≡◌, ◌⊎◌, ℕ, ◌+◌, ◌/◌, ◌%◌, ◌^◌, ◌<◌, ◌≤◌, Bool, true, false, cond, Some, inl, inr, refl, sym, ap, ◌∙◌, subst, arith}
use Rattle.std.specs.Prelude.{◌||◌, ◌&&◌}
use Rattle.std.proofs.Math.Logic.{∥∥₁_elim}
use Rattle.std.proofs.lemmas.Bool.{false≢true, true≢false, true_from_ne_false}
use mathlib.Core.Path.{fun_ext}
use Rattle.far_word.specs.declared.mark.Marks.{Marks}
use Rattle.far_word.specs.declared.pointer.Place.{Place}
use Rattle.far_word.specs.declared.pointer.PtrWord.TheVariants.{Near}
use Rattle.far_word.specs.declared.sizes.TheConstants.{CELLS, LOG_WORDS}
use Rattle.far_word.specs.Pointer.{read_of}
use Rattle.far_word.specs.Sizes.{size_of, words_for}
use Rattle.far_word.proofs.PointerLaws.{read_says}
use Rattle.far_events.specs.state.Law.{Law, Heads, head_len}
use Rattle.far_events.specs.state.State.{State, addr}
use Rattle.far_events.proofs.Bounds.{one_name, span_len}
use Rattle.far_events.proofs.JobPlaces.{not_target}
use Rattle.far_core.proofs.SpanFrames.{past_tail, spans_apart}
use Rattle.far_hand.specs.Beside.{hidden}
use Rattle.far_hand.specs.Finds.{Finds, marks_in}
use Rattle.far_hand.specs.Known.{unknown}
use Rattle.far_hand.specs.Masked.{masked, masked_word, AllFind, AllFindJobs, CountsOnRest}
use Rattle.far_hand.specs.MayBe.{Shows}
use Rattle.far_hand.specs.Others.{IsLoudAt, OthersChange}
use Rattle.far_hand.specs.Quiet.{IsQuietBy, RestsAt, is_quiet}
use Rattle.far_hand.proofs.Finding.{finds_more, near_found, near_known}
use Rattle.far_hand.proofs.JobsFound.{job_more}

-- ---- where near objects lie
pub record Lies (s : State) (p len ds : ℕ) (place : Place) : Type 0 where
  pub heads : Heads s.word s.starts p len ds place
  pub long : head_len (s.word (addr place)) ≡ len
  pub short : len < 2 ^ 16
  pub structure : ds < 2 ^ 8

pub lies : (s : State) → Law s → (p len ds : ℕ) (place : Place) (m : Marks) → read_of (s.cell p) ≡ Some (Near len ds place m) → Lies s p len ds place
lies s law p len ds place m e = let says = read_says (s.cell p) (Near len ds place m) (law.cells.cell_read p).0 e in record {
  heads = law.cells.cell_near p len ds place m e;
  long = rw (span_len s law p len ds place m e) refl;
  short = omega (arith, says.0);
  structure = omega (arith, says.0);
}

module _ (s : State) (law : Law s) where
  -- a data word is no header
  pub no_header : (p len ds i : ℕ) (place : Place) → Lies s p len ds place → i < words_for len → s.starts (addr place + 1 + i) ≡ false
  no_header p len ds i place h lt =
      let at : addr place + 1 + i ≡ addr place + (1 + i) = omega arith in
      let long : size_of (head_len (s.word (addr place))) ≡ size_of len = ap size_of h.long in
      ap s.starts at ∙ (law.spans.span (addr place) h.heads.placed).alone (1 + i) (omega arith) (omega arith)

  -- a data word is of one pointer's object
  pub one_owner : (p len ds i q n d j : ℕ) (place other : Place) → Lies s p len ds place → Lies s q n d other → i < words_for len → j < words_for n →
      addr place + 1 + i ≡ addr other + 1 + j → p ≡ q
  one_owner p len ds i q n d j place other x y li lj e =
      let lx : size_of (head_len (s.word (addr place))) ≡ size_of len = ap size_of x.long in
      let ly : size_of (head_len (s.word (addr other))) ≡ size_of n = ap size_of y.long in
      let same : addr place ≡ addr other = spans_apart s law (addr place) (addr other) (1 + i) (1 + j) x.heads.placed y.heads.placed (omega arith) (omega arith) (omega arith) in
      one_name s.word p q len n ds d (addr place) x.heads.head (ap s.word same ∙ y.heads.head) x.short y.short x.structure y.structure

-- ---- what isn't quiet wasn't found quiet
either_known : (k m x : Bool) → (k ≡ true → m ≡ true) → (m || x) ≡ false → (k || x) ≡ false
either_known true m x h e = absurd (true≢false (sym (ap (λ b. b || x) (h refl)) ∙ e))
either_known false true x h e = absurd (true≢false e)
either_known false false x h e = e

pub quiet_known : (round clear : ℕ → Bool) (p : ℕ) (place : Place) (k m : Marks) → k.evac ≡ m.evac → (k.moved ≡ true → m.moved ≡ true) →
    is_quiet round clear p place m ≡ false → is_quiet round clear p place k ≡ false
quiet_known round clear p place k m evac moved e =
    either_known k.moved m.moved (k.evac && round place.log && clear (p / CELLS)) moved
    (ap (λ b. m.moved || (b && round place.log && clear (p / CELLS))) evac ∙ e)

-- MOVE that was known is found
pub moved_known : (v w len ds : ℕ) (place : Place) (k m : Marks) → Finds v w → read_of v ≡ Some (Near len ds place k) → read_of w ≡ Some (Near len ds place m) →
    k.moved ≡ true → m.moved ≡ true
moved_known v w len ds place k m f ev ew h =
    sym (ap (λ o. (marks_in o).moved) ew) ∙ f.moved (ap (λ o. (marks_in o).moved) ev ∙ h)

-- what isn't quiet in the cell wasn't found quiet
pub record Known (v len ds : ℕ) (place : Place) (round clear : ℕ → Bool) (p : ℕ) : Type 0 where
  pub marks : Marks
  pub near : read_of v ≡ Some (Near len ds place marks)
  pub loud : is_quiet round clear p place marks ≡ false

pub known_loud : (v w : ℕ) → Finds v w → (round clear : ℕ → Bool) (p len ds : ℕ) (place : Place) (m : Marks) → read_of w ≡ Some (Near len ds place m) →
    is_quiet round clear p place m ≡ false → Known v len ds place round clear p
known_loud v w f round clear p len ds place m near loud =
    let x = near_known v w f len ds place m near in
    record { marks = x.marks; near = x.near; loud = quiet_known round clear p place x.marks m x.same (moved_known v w len ds place x.marks m f x.near near) loud }

-- and what was found quiet is quiet
pub quiet_found : (round clear : ℕ → Bool) (p : ℕ) (place : Place) (k m : Marks) → k.evac ≡ m.evac → (k.moved ≡ true → m.moved ≡ true) →
    is_quiet round clear p place k ≡ true → is_quiet round clear p place m ≡ true
quiet_found round clear p place k m evac moved quiet =
    true_from_ne_false (is_quiet round clear p place m) (λ loud. true≢false (sym quiet ∙ quiet_known round clear p place k m evac moved loud))

-- ---- what others may change is a data word of a span
pub record IsDataAt (s : State) (a : ℕ) : Type 0 where
  pub begin : ℕ
  pub index : ℕ
  pub placed : s.starts begin ≡ true
  pub inside : index < words_for (head_len (s.word begin))
  pub here : a ≡ begin + (1 + index)

module _ (s : State) (law : Law s) (a : ℕ) where
  loud_data : IsLoudAt s a → IsDataAt s a
  loud_data (inl x) = let h = lies s law x.p x.len x.ds x.place x.marks x.near in record {
    begin = addr x.place;
    index = x.index;
    placed = h.heads.placed;
    inside = subst (λ n. x.index < words_for n) (sym h.long) x.inside;
    here = omega (arith, x.here);
  }
  loud_data (inr x) = let spans = law.copies.jobs.job_spans x.number x.job x.says in record {
    begin = addr x.job.to;
    index = x.index;
    placed = spans.to;
    inside = subst (λ w. x.index < words_for (head_len w)) (sym spans.alike) x.inside;
    here = omega (arith, x.here);
  }

  data_plain : IsDataAt s a → s.starts a ≡ false
  data_plain d = ap s.starts d.here ∙ (law.spans.span d.begin d.placed).alone (1 + d.index) (omega arith) (omega (arith, d.inside))

  data_within : IsDataAt s a → s.tail (a / LOG_WORDS) ≤ a % LOG_WORDS → ⊥
  data_within d past = past_tail s law (a / LOG_WORDS) (a % LOG_WORDS) d.begin (1 + d.index) past (omega arith) d.placed (omega (arith, d.inside)) (omega (arith, d.here))

  -- so no header is such
  pub header_still : s.starts a ≡ true → ¬ IsLoudAt s a
  header_still begun loud = false≢true (sym (data_plain (loud_data loud)) ∙ begun)

-- ---- no owner stores into a word that rests, and no copier writes there
module _ (s : State) (law : Law s) (found : ℕ → ℕ) (finds : AllFind found s.cell) (a : ℕ) where
  -- a data word of an object that was found quiet is of no other object, and of no target of a job that isn't finished
  apart : IsQuietBy s.mutators s.round s.clear found a → ¬ IsLoudAt s a
  apart q (inl x) =
      let y = near_found (found q.p) (s.cell q.p) (finds q.p) q.len q.ds q.place q.marks q.near in
      let same : x.p ≡ q.p = one_owner s law x.p x.len x.ds x.index q.p q.len q.ds q.index x.place q.place (lies s law x.p x.len x.ds x.place x.marks x.near)
      (lies s law q.p q.len q.ds q.place y.marks y.near) x.inside q.inside (sym x.here ∙ q.here) in
      let both : Some (Near x.len x.ds x.place x.marks) ≡ Some (Near q.len q.ds q.place y.marks) = sym x.near ∙ (ap (λ k. read_of (s.cell k)) same ∙ y.near) in
      let places : x.place ≡ q.place = cc in
      let marks : x.marks ≡ y.marks = cc in
      let quiet : is_quiet s.round s.clear q.p q.place y.marks ≡ true =
      quiet_found s.round s.clear q.p q.place q.marks y.marks (sym y.same) (moved_known (found q.p) (s.cell q.p) q.len q.ds q.place q.marks y.marks (finds q.p) q.near y.near) q.quiet in
      true≢false (sym quiet ∙ sym (λ i. is_quiet s.round s.clear (same i) (places i) (marks i)) ∙ x.loud)
  apart q (inr x) =
      let y = near_found (found q.p) (s.cell q.p) (finds q.p) q.len q.ds q.place q.marks q.near in
      let h = lies s law q.p q.len q.ds q.place y.marks y.near in
      let spans = law.copies.jobs.job_spans x.number x.job x.says in
      let long : size_of (head_len (s.word (addr q.place))) ≡ size_of q.len = ap size_of h.long in
      let alike : size_of (head_len (s.word (addr x.job.to))) ≡ size_of (head_len (s.word (addr x.job.from))) = ap (λ w. size_of (head_len w)) spans.alike in
      not_target s law q.p q.len q.ds q.place y.marks y.near x.number x.job x.says (law.copies.jobs.unfinished_unnamed x.number x.job x.says x.unfinished)
      (spans_apart s law (addr q.place) (addr x.job.to) (1 + q.index) (1 + x.index) h.heads.placed spans.to (omega (arith, q.inside)) (omega (arith, x.inside)) (omega (arith, q.here, x.here)))

  rests_by : (s.tail (a / LOG_WORDS) ≤ a % LOG_WORDS) ⊎ IsQuietBy s.mutators s.round s.clear found a → ¬ IsLoudAt s a
  rests_by (inl past) loud = data_within s law a (loud_data s law a loud) past
  rests_by (inr quiet) loud = apart quiet loud

  pub rests_still : (s.starts a ≡ false → RestsAt (record s { cell = found }) a) → ¬ IsLoudAt s a
  rests_still rests loud = ∥∥₁_elim (rests (data_plain s law a (loud_data s law a loud))) (λ odd. absurd odd) (λ at. rests_by at loud)

-- nor into one that a view says rests
pub shown_still : (o s : State) → Law s → Shows o s → (a : ℕ) → (o.starts a ≡ false → RestsAt o a) → ¬ IsLoudAt s a
shown_still o s law shown a rests = rests_still s law o.cell shown.cells a
    (subst (λ (z : State). z.starts a ≡ false → RestsAt (record z { cell = o.cell }) a) (sym shown.rest) rests)

-- ---- the view stays while others take a turn
pub same_where : (b : Bool) (x y u : ℕ) → (b ≡ true → x ≡ y) → cond b x u ≡ cond b y u
same_where true x y u h = h refl
same_where false x y u h = refl

either_true : (a b : Bool) → (a || b) ≡ true → a ≡ false → b ≡ true
either_true true b e h = absurd (true≢false h)
either_true false b e h = e

module _ (s : State) (law : Law s) (found : ℕ → ℕ) (counted : ℕ → Bool) (jobs : ℕ → ℕ) (finds : AllFind found s.cell) (going : AllFindJobs jobs s.copying.word) (counts : CountsOnRest s found counted) where
  -- nobody else writes a word that is known
  pub known_quiet : (a : ℕ) → (s.starts a || counted a) ≡ true → ¬ IsLoudAt s a
  known_quiet a known = rests_still s law found finds a (λ plain. counts a (either_true (s.starts a) (counted a) known plain) plain)

  module _ (t : State) (turn : OthersChange s t) where
    same_starts : t.starts ≡ s.starts
    same_starts = ap (λ (u : State). u.starts) turn.rest

    same_words : masked_word t.word t.starts counted ≡ masked_word s.word s.starts counted
    same_words = fun_ext (λ a. ap (λ (f : ℕ → Bool). cond (f a || counted a) (t.word a) (unknown a)) same_starts
        ∙ same_where (s.starts a || counted a) (t.word a) (s.word a) (unknown a) (λ known. turn.words a (known_quiet a known)))

    pub same_view : masked t found counted jobs ≡ masked s found counted jobs
    same_view = ap (λ (u : State). hidden u found (masked_word t.word t.starts counted) jobs) turn.rest ∙ ap (λ w. hidden s found w jobs) same_words

    pub same_finds : AllFind found t.cell
    same_finds p = finds_more (found p) (s.cell p) (t.cell p) (finds p) (turn.cells p)

    pub same_jobs : AllFindJobs jobs t.copying.word
    same_jobs j = job_more (jobs j) (s.copying.word j) (t.copying.word j) (going j) (turn.jobs j)

    pub same_counts : CountsOnRest t found counted
    same_counts = subst (λ (u : State). CountsOnRest u found counted) (sym turn.rest) counts

    pub same_mutators : t.mutators ≡ s.mutators
    same_mutators = ap (λ (u : State). u.mutators) turn.rest

    pub same_logs : t.logs ≡ s.logs
    same_logs = ap (λ (u : State). u.logs) turn.rest
