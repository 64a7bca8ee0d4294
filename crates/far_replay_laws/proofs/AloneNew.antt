-- What a new object tells its mutator.
use Rattle.std.proofs.Common.{◌≡◌, ℕ, ◌+◌, ◌/◌, ◌<◌, ◌≤◌, ◌^◌, true, false, cond, nat_lt, nat_le, arith, sym, refl, ap, subst, ◌∙◌, Option, Some, None, List, [], ◌∷◌, ◌++◌, inl, inr}
use Rattle.std.specs.Prelude.{not, ◌&&◌, ◌⊎◌, is_some, replicate}
use Rattle.std.proofs.lemmas.Bool.{false≢true, true≢false, cases_eq, cases_lt, eq-eqb}
use Rattle.std.proofs.lemmas.Bool.Decides.{nat_tests}
use Rattle.far_word.specs.declared.mark.Marks.{Marks}
use Rattle.far_word.specs.declared.pointer.Place.{Place}
use Rattle.far_word.specs.declared.pointer.PtrWord.TheVariants.{Near}
use Rattle.far_word.specs.declared.refused.Refused.{Refused as Refusal}
use Rattle.far_word.specs.declared.refused.Refused.TheVariants.{NoRoom, NoPointer, Length, Range}
use Rattle.far_word.specs.declared.sizes.TheConstants.{CELLS, LONGEST, LOG_WORDS, POINTERS}
use Rattle.far_word.specs.Header.{head_word}
use Rattle.far_word.specs.Pointer.{word_of}
use Rattle.far_word.specs.Sizes.{size_of, words_for}
use Rattle.far_word.proofs.PointerLaws.{read_says}
use Rattle.far_events.specs.declared.event.Event.{Event}
use Rattle.far_events.specs.declared.event.Event.TheVariants.{Adopt as Adopts, Put as Puts, Name as Names}
use Rattle.far_events.specs.state.Law.{Law}
use Rattle.far_core.specs.state.Room.{room}
use Rattle.far_events.specs.state.State.{State, put}
use Rattle.far_events.specs.events.Step.{step_of}
use Rattle.far_core.specs.world.World.{World, Object}
use Rattle.far_core.specs.world.WorldOf.{world_of}
use Rattle.far_core.specs.world.Steps.{Makes}
use Rattle.far_events.proofs.Cells.{unused}
use Rattle.far_core.proofs.Keeps.{step_keeps}
use Rattle.far_replay.specs.Moment.{moment_of}
use Rattle.far_alone.specs.Own.{own_of, bytes_in_world}
use Rattle.far_replay.specs.Alone.{HasAll, HasLeft}
use Rattle.far_alone.specs.Between.{Between}
use Rattle.far_text.specs.Command.{New, Mutator}
use Rattle.far_events.specs.events.Ranges.{after_events}
use Rattle.far_alone.specs.EventRows.{AllSucceed}
use Rattle.far_reply.specs.Reply.{Refused}
use Rattle.far_alone.specs.Events.{new_events, zero_puts}
use Rattle.far_alone.specs.Objects.{lowest_cell}
use Rattle.far_book.specs.book.Effects.{near_word}
use Rattle.far_replay.specs.Turn.{refusal, first_cause, unless, pointer_reply}
use Rattle.far_alone.proofs.Each.{Each-row}
use Rattle.far_alone.proofs.MadeLemmas.{made-append, AllSucceed-parts, AllComeToPass-parts}
use Rattle.far_replay_laws.proofs.AloneViews.{views_still}
use Rattle.far_replay_laws.proofs.ViewLaws.{row_stays, news}
use Rattle.far_alone.proofs.AloneRuns.{views_of, Same, own_other, own_here, IsQuiet, quiet_run, name_step, new_object, makes_object, was_legal}
use Rattle.far_alone.proofs.AloneStates.{all_known, lowest_free, lowest_own, lowest_unknown}
use Rattle.far_replay_laws.proofs.Coming.{new_comes}
use Rattle.far_replay_laws.proofs.AloneTurns.{Teaches, Turns, four_causes}

-- ---- the words of a new object
head_fits : (p len ds : ℕ) → p < POINTERS → len ≤ LONGEST → ds < 256 → head_word p len ds < 2 ^ 64
head_fits p len ds a b c = omega arith

new_fits : (len ds : ℕ) (place : Place) → place.log < 64 → place.at < LOG_WORDS → len ≤ LONGEST → ds < 256 → near_word true len ds place < 2 ^ 64
new_fits len ds place a b c d = omega arith

-- two words of near pointers are of one length
one_length : (len n ds d : ℕ) (place other : Place) (m k : Marks) → len < 2 ^ 16 → n < 2 ^ 16 → word_of (Near len ds place m) ≡ word_of (Near n d other k) → len ≡ n
one_length len n ds d place other m k a b e = omega arith

-- and of one data structure and one log
one_structure : (len n ds d : ℕ) (place other : Place) (m k : Marks) → len < 2 ^ 16 → n < 2 ^ 16 → ds < 2 ^ 8 → d < 2 ^ 8 → word_of (Near len ds place m) ≡ word_of (Near n d other k) → ds ≡ d
one_structure len n ds d place other m k a b f g e = omega arith

one_log : (len n ds d : ℕ) (place other : Place) (m k : Marks) → len < 2 ^ 16 → n < 2 ^ 16 → ds < 2 ^ 8 → d < 2 ^ 8 → place.at < 2 ^ 10 → other.at < 2 ^ 10 → place.log < 2 ^ 8 → other.log < 2 ^ 8
    → word_of (Near len ds place m) ≡ word_of (Near n d other k) → place.log ≡ other.log
one_log len n ds d place other m k a b f g x y v w e = omega arith

-- an object is made between steps that leave the objects and the scopes as they are
made_between : (w u v t z : World) (p len ds group : ℕ) → Same w u → Makes u p len ds group v → Same v t → z ≡ t →
    (w.object p ≡ None) × (z.object ≡ put w.object p (Some (new_object p len ds group))) × (z.opened ≡ w.opened)
made_between w u v t z p len ds group before makes behind joined =
    let x = makes_object u v p len ds group makes in (
      ap (λ (f : ℕ → Option Object). f p) (sym before.0) ∙ makes.fresh,
      ap (λ (y : World). y.object) joined ∙ behind.0 ∙ x.0 ∙ ap (λ (f : ℕ → Option Object). put f p (Some (new_object p len ds group))) before.0,
      ap (λ (y : World). y.opened) joined ∙ behind.1 ∙ x.1 ∙ before.1,
    )

-- ---- the events of a new object
module _ (s : State) (k len ds p : ℕ) (place : Place) (law : Law s) (within : k < s.mutators) (own : p / CELLS ≡ k) (most : len ≤ LONGEST) (structure : ds < 256) where
  abbrev puts : List Event
  puts = Puts place.log place.at (head_word p len ds) ∷ zero_puts place (words_for len)

  abbrev names : List Event
  names = Names p 0 (near_word true len ds place) ∷ Adopts k p ∷ []

  abbrev u : State
  u = after_events s puts

  abbrev v : State
  v = (step_of u (Names p 0 (near_word true len ds place))).0

  wide : head_word p len ds < 2 ^ 64
  wide = head_fits p len ds (omega (arith, law.shape.few_mutators)) most structure

  -- the puts leave the objects as they are
  put_run : ((world_of u).object ≡ (world_of s).object) × ((world_of u).opened ≡ (world_of s).opened) × Law u
  put_run =
      let run = quiet_run s puts law (wide, Each-row IsQuiet (λ i. Puts place.log (place.at + 1 + i) 0) 0 (words_for len) (λ i _. omega arith)) in
      (run.0.0, run.0.1, run.1)

  -- the object that the events make
  pub new_run : s.cell p ≡ 0 → AllSucceed s (puts ++ names) →
      (o : Object) × ((world_of s).object p ≡ None) × ((world_of (after_events s (puts ++ names))).object ≡ put (world_of s).object p (Some o))
      × ((world_of (after_events s (puts ++ names))).opened ≡ (world_of s).opened) × (o.bytes ≡ replicate len 0) × (o ≡ new_object p len ds place.log)
  new_run free ok =
      let parts = AllSucceed-parts s puts names ok in
      let comes = AllComeToPass-parts s puts names (new_comes s k len ds (Some p) (Some place) (λ q e. let same : p ≡ q = cc in subst (λ x. s.cell x ≡ 0) same free)) in
      let legal = was_legal s (Puts place.log place.at (head_word p len ds)) law parts.0.0 in
      let first = put_run in
      let word : near_word true len ds place < 2 ^ 64 = new_fits len ds place (omega (arith, legal.0, law.shape.few_logs)) legal.3 most structure in
      let named = name_step u p 0 (near_word true len ds place) first.2 unused (omega arith) word parts.1.0 comes.1.0 in
      let says = read_says (near_word true len ds place) (Near named.0 named.1 named.2 named.3) word named.4 in
      let long : named.0 ≡ len = one_length named.0 len named.1 ds named.2 place named.3 (record { hot = false; evac = false; moved = false; dropped = false; dirty = true }) (omega (arith, says.0)) (omega arith) says.1 in
      let law_v : Law v = step_keeps u (Names p 0 (near_word true len ds place)) first.2 (omega arith, word) in
      let last = quiet_run v (Adopts k p ∷ []) law_v (tt, tt) in
      let joined : world_of (after_events s (puts ++ names)) ≡ world_of (after_events v (Adopts k p ∷ [])) = ap world_of (made-append s puts names) in
      let between = made_between (world_of s) (world_of u) (world_of v) (world_of (after_events v (Adopts k p ∷ []))) (world_of (after_events s (puts ++ names))) p named.0 named.1 named.2.log (first.0, first.1) named.5 last.0 joined in
      let kind : named.1 ≡ ds = one_structure named.0 len named.1 ds named.2 place named.3 (record { hot = false; evac = false; moved = false; dropped = false; dirty = true }) (omega (arith, says.0)) (omega arith) (omega (arith, says.0)) structure says.1 in
      let group : named.2.log ≡ place.log = one_log named.0 len named.1 ds named.2 place named.3 (record { hot = false; evac = false; moved = false; dropped = false; dirty = true }) (omega (arith, says.0)) (omega arith) (omega (arith, says.0)) structure
      (omega (arith, says.0)) (omega (arith, legal.3)) (omega (arith, says.0)) (omega (arith, legal.0, law.shape.few_logs)) says.1 in
      let whole : new_object p named.0 named.1 named.2.log ≡ new_object p len ds place.log = λ i. new_object p (long i) (kind i) (group i) in
      (new_object p named.0 named.1 named.2.log, between.0, between.1, between.2, ap (λ n. replicate n 0) long, whole)

  -- a new object that isn't turned down
  makes_new : 0 < len → s.cell p ≡ 0 → AllSucceed s (new_events k len ds (Some p) (Some place)) → Teaches s k (Mutator k (New len ds)) (pointer_reply (Some p)) (after_events s (new_events k len ds (Some p) (Some place)))
  makes_new some free ok =
      let run = new_run free ok in
      let u : State = after_events s (new_events k len ds (Some p) (Some place)) in
      let t : World = world_of u in
      let same : u.held ≡ s.held = row_stays s (new_events k len ds (Some p) (Some place)) (news k len ds (Some p) (Some place)) in
      let fresh : (own_of (world_of s) k).object p ≡ None = ap (λ b. cond b (bytes_in_world ((world_of s).object p)) None) (eq-eqb (p / CELLS) k own) ∙ ap bytes_in_world run.1 in (
        λ _. (structure, some, most, own, fresh, own_here (world_of s) t k p run.0 (views_of (world_of s) k) run.2 run.3 own (views_still s u k same) ∙ ap (λ b. record (own_of (world_of s) k) { object = put (own_of (world_of s) k).object p (Some b) }) run.4),
        λ m ne. own_other (world_of s) t m p run.0 run.2 run.3 (λ e. ne (sym own ∙ e)) (views_still s u m same),
      )

-- ---- when it is turned down
not_structure : (s : State) (k ds : ℕ) → k < s.mutators → not (nat_lt k s.mutators && nat_lt ds 256) ≡ true → 256 ≤ ds
not_structure s k ds within h = elim (cases_lt ds 256) [ inl lt ↦ absurd (grind (arith, nat_tests)) | inr le ↦ le ]

pub is_structure : (s : State) (k ds : ℕ) → not (nat_lt k s.mutators && nat_lt ds 256) ≡ false → (k < s.mutators) × (ds < 256)
is_structure s k ds h = (grind (arith, nat_tests), grind (arith, nat_tests))

not_length : (len : ℕ) → not (nat_lt 0 len && nat_le len LONGEST) ≡ true → (len ≡ 0) ⊎ (LONGEST < len)
not_length len h = elim (cases_eq len 0) [
  | inl e ↦ inl e
  | inr ne ↦ inr (elim (cases_lt LONGEST len) [ inl lt ↦ lt | inr le ↦ (let some : 0 < len = omega arith in absurd (grind (arith, nat_tests))) ])
]

pub is_length : (len : ℕ) → not (nat_lt 0 len && nat_le len LONGEST) ≡ false → (0 < len) × (len ≤ LONGEST)
is_length len h = (grind (arith, nat_tests), grind (arith, nat_tests))

-- a mutator that has a free cell has a pointer left
one_left : (s : State) (k : ℕ) (o : Option ℕ) → lowest_cell s k ≡ o → not (is_some o) ≡ false → HasLeft k (own_of (world_of s) k)
one_left s k None e h = absurd (true≢false h)
one_left s k (Some p) e h = (p, lowest_own s k p e, lowest_unknown s k p e)

-- one that has none has all its objects
none_left : (s : State) → Law s → Between s → (k : ℕ) (o : Option ℕ) → lowest_cell s k ≡ o → not (is_some o) ≡ true → HasAll k (own_of (world_of s) k)
none_left s law between k None e h = all_known s law between.named k e
none_left s law between k (Some p) e h = absurd (false≢true h)

module _ (s : State) (k len ds : ℕ) (law : Law s) (between : Between s) where
  -- with this cell and this place, turned down for this cause or for none
  abbrev NewTurns : Option ℕ → Option Place → Option Refusal → Type 0
  NewTurns o r x = AllSucceed s (unless x (λ _. []) (new_events k len ds o r)) → Teaches s k (Mutator k (New len ds)) (unless x Refused (pointer_reply o)) (after_events s (unless x (λ _. []) (new_events k len ds o r)))

  at_cell : (o : Option ℕ) (r : Option Place) → lowest_cell s k ≡ o → k < s.mutators → ds < 256 → 0 < len → len ≤ LONGEST → not (is_some o) ≡ false → not (is_some r) ≡ false → NewTurns o r None
  at_cell None r e within structure some most h i ok = absurd (true≢false h)
  at_cell (Some p) None e within structure some most h i ok = absurd (true≢false i)
  at_cell (Some p) (Some place) e within structure some most h i ok = makes_new s k len ds p place law within (lowest_own s k p e) most structure some (lowest_free s k p e) ok

  at_causes : (o : Option ℕ) (r : Option Place) → lowest_cell s k ≡ o →
      NewTurns o r (first_cause ((not (nat_lt k s.mutators && nat_lt ds 256), Range) ∷ (not (nat_lt 0 len && nat_le len LONGEST), Length) ∷ (not (is_some o), NoPointer) ∷ (not (is_some r), NoRoom) ∷ []))
  at_causes o r e = four_causes (NewTurns o r) (not (nat_lt k s.mutators && nat_lt ds 256)) (not (nat_lt 0 len && nat_le len LONGEST)) (not (is_some o)) (not (is_some r)) Range Length NoPointer NoRoom
      (λ off _. (λ within. (not_structure s k ds within off, refl), λ m ne. refl))
      (λ structure off _. (λ within. ((is_structure s k ds structure).1, not_length len off, refl), λ m ne. refl))
      (λ structure long none _. (λ within. ((is_structure s k ds structure).1, (is_length len long).0, (is_length len long).1, none_left s law between k o e none, refl), λ m ne. refl))
      (λ structure long cell off _. (λ within. ((is_structure s k ds structure).1, (is_length len long).0, (is_length len long).1, one_left s k o e cell, refl), λ m ne. refl))
      (λ structure long cell space ok. at_cell o r e (is_structure s k ds structure).0 (is_structure s k ds structure).1 (is_length len long).0 (is_length len long).1 cell space ok)

  pub turns_new : Turns s k (Mutator k (New len ds)) (refusal (moment_of s) (Mutator k (New len ds)))
  turns_new = at_causes (lowest_cell s k) (room s (size_of len) true) refl
