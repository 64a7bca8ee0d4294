use Rattle.far_book.proofs.book.Book.evict_by.Given.{Over}
use Rattle.far_book.proofs.book.Book.evict_by.Goals.{After-cell_of-found, After-send, In-Near, In-Some}
use Rattle.far_book.proofs.book.Book.evict_by.Goals as goal
use Rattle.std.proofs.Common.{◌≡◌, ◌⊎◌, ◌+◌, ◌*◌, ◌<◌, ◌∙◌, ℕ, Bool, true, false, ap, sym, subst, refl, inl, inr, Some}
use Rattle.std.specs.Prelude.{Result, Ok, Err, is_ok, is_some, not}
use Rattle.std.proofs.lemmas.Bool.{false_from_ne_true, false≢true}
use Rattle.far_device.specs.Following.{Follows, other_than}
use Rattle.far_device.proofs.Following.{follows_itself, follows_on}
use Rattle.far_word.specs.declared.pointer.PtrWord.{PtrWord}
use Rattle.far_word.specs.declared.pointer.PtrWord.TheVariants.{Near, Far}
use Rattle.far_word.specs.declared.refused.Refused.{Refused}
use Rattle.far_word.specs.declared.sizes.TheConstants.{CELLS}
use Rattle.far_word.specs.Bytes.{bytes_of}
use Rattle.far_word.specs.Pointer.{IsPtr, read_of}
use Rattle.far_word.proofs.PointerLaws.{read_says}
use Rattle.far_events.specs.events.Copies.{data_at}
use Rattle.far_events.specs.events.Naming.{is_dropped, no_marks}
use Rattle.far_events.specs.state.Law.{is_dirty}
use Rattle.far_events.specs.state.State.{State, addr}
use Rattle.far_events.proofs.Put.{put_same}
use Rattle.far_hand.specs.Finds.{Finds}
use Rattle.far_hand.specs.Known.{IsKnown}
use Rattle.far_hand.proofs.Closure.{then_came, came_only}
use Rattle.far_hand.proofs.Finding.{IsNearTo, finds_more, near_found}
use Rattle.far_book.specs.book.Asking.{HasBytes, fault_of}
use Rattle.far_book.specs.book.Dealing.{Leaves, LeavesSpans, has_evac, is_failure}
use Rattle.far_book.specs.book.Effects.{evicted, far_word, retired}
use Rattle.far_book.specs.book.Renaming.{seen}
use Rattle.far_book.proofs.region.Calls.{put_put}
use Rattle.far_book.proofs.region.Dirt.{same_dirt, up_by}
use Rattle.far_book.proofs.region.Dropping.{retired_by}
use Rattle.far_book.specs.book.Evicting.{IsQuietIn}
use Rattle.far_book.proofs.region.Evicted.{goes_far, gone_keeps, has_bytes, is_gone, keeps_read, quiet_known, quiet_read, quiet_seen, read_is, was_alive}
use Rattle.far_book.proofs.region.Renamings.{same_seen}
use Rattle.far_book.proofs.region.RenamingsNear.{stopped_by}

-- no word is learned or forgotten
leaves_all : (t : State) → Leaves t t
leaves_all t = (refl, record { known = λ a old now. refl; headers = λ a begun. refl })

-- a look learns no word
spans_seen : (s t : State) (p w : ℕ) → t ≡ seen s p w → LeavesSpans (seen s p w) t
spans_seen s t p w same = record { is = same ∙ ap (λ f. record (seen s p w) { word = f }) (sym (ap (λ (x : State). x.word) same)); known = λ a _ _ _. ap (λ (x : State). x.word a) same; headers = λ a _. ap (λ (x : State). x.word a) same }

-- ---- the word that is found first, which says near
same_word : (a b : PtrWord) → Some a ≡ Some b → a ≡ b
same_word a b e = cc

module _ (g : Over) (c : After-cell_of-found g) where
  near_so : IsNearTo (read_of c.cell_of-found.result) c.requires.quiet.len c.requires.quiet.ds c.requires.quiet.place c.requires.quiet.marks.evac
  near_so =
      let q = c.requires.quiet in
      near_found ((g.N.Near.view c.args.self.now.near).cell c.args.pointer) c.cell_of-found.result c.cell_of-found.ensures.found q.len q.ds q.place q.marks q.near

  wanted : has_evac (read_of c.cell_of-found.result) ≡ true
  wanted = ap has_evac near_so.near ∙ near_so.same ∙ sym (ap has_evac c.requires.quiet.near) ∙ c.requires.evac

  pointer : c.args.pointer < CELLS * (g.N.Near.view c.cell_of-found.new.self.near).mutators
  pointer = subst (λ (x : State). c.args.pointer < CELLS * x.mutators) (sym c.cell_of-found.ensures.kept) c.requires.pointer

says : (g : Over) (c : In-Near g) → read_of c.cell_of-found.result ≡ Some (Near c.in-Near.len c.in-Near.ds c.in-Near.place c.in-Near.marks)
says g c = c.known.ensures ∙ ap (λ v. Some v) c.in-Near.is

pub cell_of-found-requires-clause-pointer : goal.cell_of-found-requires-clause-pointer
cell_of-found-requires-clause-pointer g c = c.requires.pointer

pub cell_of-found-requires-clause-known : goal.cell_of-found-requires-clause-known
cell_of-found-requires-clause-known g c = c.requires.known

pub known-requires : goal.known-requires
known-requires g c = ap is_some (near_so g (goal.at.known-requires g c).After-cell_of-found).near

pub unreachable-requires : goal.unreachable-requires
unreachable-requires g c =
    let x = near_so g (goal.at.unreachable-requires g c).After-cell_of-found in
    let q = c.requires.quiet in
    c.in_default.not-Near q.len q.ds q.place x.marks (same_word _ _ (sym c.known.ensures ∙ x.near))

pub retire-requires-clause-pointer : goal.retire-requires-clause-pointer
retire-requires-clause-pointer g c = pointer g (goal.at.retire-requires-clause-pointer g c).After-cell_of-found

pub retire-requires-clause-dropped : goal.retire-requires-clause-dropped
retire-requires-clause-dropped g c = ap (λ w. is_dropped (read_of w)) (sym c.cell_of-found.ensures.now) ∙ ap is_dropped (says g (goal.at.retire-requires-clause-dropped g c).In-Near) ∙ c.if-marks.true

pub leave_clean-requires-clause-pointer : goal.leave_clean-requires-clause-pointer
leave_clean-requires-clause-pointer g c = pointer g (goal.at.leave_clean-requires-clause-pointer g c).After-cell_of-found

pub leave_clean-requires-clause-found : goal.leave_clean-requires-clause-found
leave_clean-requires-clause-found g c = c.cell_of-found.ensures.now

pub leave_clean-requires-clause-near : goal.leave_clean-requires-clause-near
leave_clean-requires-clause-near g c =
    let s = g.N.Near.view c.args.self.now.near in
    let w = c.cell_of-found.result in
    let finds = c.cell_of-found.ensures.found in
    let x = c.in-Near in
    quiet_seen s (g.N.Near.view c.cell_of-found.new.self.near) c.args.pointer w c.cell_of-found.ensures.kept finds x.len x.ds x.place
    (quiet_known s c.args.pointer w c.requires.quiet finds x.len x.ds x.place x.marks (says g (goal.at.leave_clean-requires-clause-near g c).In-Near))

pub leave_clean-requires-clause-evac : goal.leave_clean-requires-clause-evac
leave_clean-requires-clause-evac g c = wanted g (goal.at.leave_clean-requires-clause-evac g c).After-cell_of-found

pub leave_clean-requires-clause-alive : goal.leave_clean-requires-clause-alive
leave_clean-requires-clause-alive g c = ap is_dropped (says g (goal.at.leave_clean-requires-clause-alive g c).In-Near) ∙ c.if-marks.false

-- ---- the word by which it is named
module _ (g : Over) (c : In-Some g) where
  near : read_of c.cell_of-found.result ≡ Some (Near c.in-Near.len c.in-Near.ds c.in-Near.place c.in-Near.marks)
  near = c.known.ensures ∙ ap (λ v. Some v) c.in-Near.is

  finds : Finds ((g.N.Near.view c.args.self.now.near).cell c.args.pointer) c.in-Some.word
  finds = finds_more _ c.cell_of-found.result c.in-Some.word c.cell_of-found.ensures.found c.in-Some.ensures.found

  now : IsNearTo (read_of c.in-Some.word) c.in-Near.len c.in-Near.ds c.in-Near.place c.in-Near.marks.evac
  now = near_found c.cell_of-found.result c.in-Some.word c.in-Some.ensures.found c.in-Near.len c.in-Near.ds c.in-Near.place c.in-Near.marks near

  seen_is : g.N.Near.view c.leave_clean.new.self.near ≡ seen (g.N.Near.view c.args.self.now.near) c.args.pointer c.in-Some.word
  seen_is =
      let s = g.N.Near.view c.args.self.now.near in
      c.in-Some.ensures.kept ∙ ap (λ (x : State). seen x c.args.pointer c.in-Some.word) c.cell_of-found.ensures.kept
      ∙ (λ i. record s { cell = put_put s.cell c.args.pointer c.cell_of-found.result c.in-Some.word i })

  -- in the state that its naming begins with
  quiet : IsQuietIn (g.N.Near.view c.leave_clean.new.self.near) c.args.pointer c.in-Near.len c.in-Near.ds c.in-Near.place
  quiet =
      let s = g.N.Near.view c.args.self.now.near in
      quiet_seen s (g.N.Near.view c.leave_clean.new.self.near) c.args.pointer c.in-Some.word seen_is finds c.in-Near.len c.in-Near.ds c.in-Near.place
      (quiet_known s c.args.pointer c.cell_of-found.result c.requires.quiet c.cell_of-found.ensures.found c.in-Near.len c.in-Near.ds c.in-Near.place c.in-Near.marks near)

  pointer_then : c.args.pointer < CELLS * (g.N.Near.view c.leave_clean.new.self.near).mutators
  pointer_then = subst (λ (x : State). c.args.pointer < CELLS * x.mutators) (sym seen_is) c.requires.pointer

  cell_is : (g.N.Near.view c.leave_clean.new.self.near).cell c.args.pointer ≡ c.in-Some.word
  cell_is = ap (λ (x : State). x.cell c.args.pointer) seen_is ∙ put_same (g.N.Near.view c.args.self.now.near).cell c.args.pointer c.in-Some.word c.args.pointer refl

-- one without DROP has DIRTY
soiled : (dropped dirty : Bool) → (dropped ≡ true) ⊎ (dirty ≡ true) → dropped ≡ false → dirty ≡ true
soiled dropped dirty (inl is) alive = absurd (false≢true (sym alive ∙ is))
soiled dropped dirty (inr is) alive = is

-- what is sent are the object's bytes
own : (g : Over) (c : After-send g) → HasBytes (g.N.Near.view c.args.self.now.near) c.args.pointer (bytes_of (data_at (g.N.Near.view c.send.new.self.near).word c.in-Near.place) c.in-Near.len)
own g c =
    let some = (goal.at.After-send g c).In-Some in
    let n = now g some in
    has_bytes (g.N.Near.view c.args.self.now.near) (g.N.Near.view c.leave_clean.new.self.near) (g.N.Near.view c.send.new.self.near) c.args.pointer c.in-Some.word (seen_is g some) c.send.ensures.kept
    c.in-Near.len c.in-Near.ds c.in-Near.place n.marks (finds g some) n.near c.send.ensures.words

far_layout : (g : Over) (c : In-Some g) → IsPtr (Far c.in-Near.len c.in-Near.ds no_marks)
far_layout g c = let says = read_says c.cell_of-found.result (Near c.in-Near.len c.in-Near.ds c.in-Near.place c.in-Near.marks) c.cell_of-found.type_inv (near g c) in (says.0.0, says.0.1, says.0.2, refl, refl)

-- over a hand that is still the word is the cell's
won : (g : Over) (c : In-Some g) → g.N.Near.still → c.in-Some.word ≡ (g.N.Near.view c.args.self.now.near).cell c.args.pointer
won g c still = c.in-Some.ensures.won still ∙ c.cell_of-found.ensures.exact still

-- ---- one answer isn't another
which : Result Bool Refused → Bool
which (Ok far) = far
which (Err why) = false

not_false : (r : Result Bool Refused) → which r ≡ true → r ≡ Ok false → ⊥
unfolding which
not_false r is e = false≢true (sym (ap which e) ∙ is)

not_true : (r : Result Bool Refused) → which r ≡ false → r ≡ Ok true → ⊥
unfolding which
not_true r is e = false≢true (sym is ∙ ap which e)

not_done : (r : Result Bool Refused) (far : Bool) → is_ok r ≡ false → r ≡ Ok far → ⊥
not_done r far is e = false≢true (sym is ∙ ap is_ok e)

pub is_dropped-requires : goal.is_dropped-requires
is_dropped-requires g c = ap is_some (now g (goal.at.is_dropped-requires g c).In-Some).near

pub retire-requires-then-is_dropped-clause-pointer : goal.retire-requires-then-is_dropped-clause-pointer
retire-requires-then-is_dropped-clause-pointer g c = pointer_then g (goal.at.retire-requires-then-is_dropped-clause-pointer g c).In-Some

pub retire-requires-then-is_dropped-clause-dropped : goal.retire-requires-then-is_dropped-clause-dropped
retire-requires-then-is_dropped-clause-dropped g c =
    ap (λ w. is_dropped (read_of w)) (cell_is g (goal.at.retire-requires-then-is_dropped-clause-dropped g c).In-Some) ∙ sym c.is_dropped.ensures.value ∙ c.if-is_dropped.true

-- ---- its bytes are sent
pub send-requires-clause-pointer : goal.send-requires-clause-pointer
send-requires-clause-pointer g c = pointer_then g (goal.at.send-requires-clause-pointer g c).In-Some

pub send-requires-clause-dirty : goal.send-requires-clause-dirty
send-requires-clause-dirty g c =
    ap (λ w. is_dirty (read_of w)) (cell_is g (goal.at.send-requires-clause-dirty g c).In-Some)
    ∙ soiled (is_dropped (read_of c.in-Some.word)) (is_dirty (read_of c.in-Some.word)) c.in-Some.ensures.marked (sym c.is_dropped.ensures.value ∙ c.if-is_dropped.false)

pub name_far-requires-clause-pointer : goal.name_far-requires-clause-pointer
name_far-requires-clause-pointer g c =
    subst (λ (x : State). c.args.pointer < CELLS * x.mutators) (sym c.send.ensures.kept.0) (pointer_then g (goal.at.name_far-requires-clause-pointer g c).In-Some)

pub name_far-requires-clause-found : goal.name_far-requires-clause-found
name_far-requires-clause-found g c = sym (ap (λ (x : State). x.cell c.args.pointer) c.send.ensures.kept.0 ∙ cell_is g (goal.at.name_far-requires-clause-found g c).In-Some)

pub name_far-requires-clause-evac : goal.name_far-requires-clause-evac
name_far-requires-clause-evac g c =
    let k = goal.at.name_far-requires-clause-evac g c in
    let n = now g k.In-Some in
    ap has_evac n.near ∙ n.same ∙ sym (ap has_evac (near g k.In-Some)) ∙ wanted g k.After-cell_of-found

pub name_far-requires-clause-alive : goal.name_far-requires-clause-alive
name_far-requires-clause-alive g c = sym c.is_dropped.ensures.value ∙ c.if-is_dropped.false

pub name_far-requires-clause-words : goal.name_far-requires-clause-words
name_far-requires-clause-words g c _ = c.send.ensures.words

pub name_far-requires-clause-held : goal.name_far-requires-clause-held
name_far-requires-clause-held g c _ = c.in_default-send.ensures.held

pub send-requires-clause-near : goal.send-requires-clause-near
send-requires-clause-near g c = quiet g (goal.at.send-requires-clause-near g c).In-Some

pub name_far-requires-clause-near : goal.name_far-requires-clause-near
name_far-requires-clause-near g c =
    quiet_read (g.N.Near.view c.leave_clean.new.self.near) (g.N.Near.view c.send.new.self.near) c.args.pointer c.in-Near.len c.in-Near.ds c.in-Near.place c.send.ensures.kept
    (quiet g (goal.at.name_far-requires-clause-near g c).In-Some)

-- ---- it went without a write
pub returns-in_default-leave_clean : goal.returns-in_default-leave_clean
unfolding which
returns-in_default-leave_clean g c =
    let s = g.N.Near.view c.args.self.now.near in
    let t = g.N.Near.view c.cell_of-found.new.self.near in
    let p = c.args.pointer in
    let x = c.in-Near in
    let found = c.cell_of-found.ensures in
    let left = c.in_default-leave_clean.ensures in
    let near : read_of c.cell_of-found.result ≡ Some (Near x.len x.ds x.place x.marks) = c.known.ensures ∙ ap (λ v. Some v) x.is in
    let says = read_says c.cell_of-found.result (Near x.len x.ds x.place x.marks) c.cell_of-found.type_inv near in
    let far = goes_far s t t p c.cell_of-found.result found.kept (leaves_all t) (g.N.Near.view c.leave_clean.new.self.near) x.len x.ds x.place x.marks found.found near c.if-marks.false c.requires.evac
    (says.0.0, says.0.1, says.0.2, refl, refl) (left.left refl) (left.far refl).1 (λ i lt known. subst IsKnown (sym (ap (λ (y : State). y.word (addr x.place + 1 + i)) found.kept)) known) in
    let away : g.N.Near.still → g.N.Near.view c.leave_clean.new.self.near ≡ evicted s p = λ still. left.away still refl ∙ ap (λ (y : State). evicted y p) (found.set still) in
    let same : c.leave_clean.new.self.device ≡ c.args.self.now.device = c.leave_clean.ensures.device ∙ found.device in
    record {
      came = then_came found.came (came_only _ c.leave_clean.ensures.names);
      far = λ _. far;
      away = λ still _. away still;
      left_by = λ _. (let won = left.won_by refl in record {
        before = won.before;
        word = won.word;
        far = far_word x.len x.ds;
        named = won.made;
        dirty = λ e. absurd (false≢true (sym (left.far refl).0 ∙ sym (same_dirt c.cell_of-found.result won.word won.found won.goes_on) ∙ e));
        clean = λ _. same;
      });
      gone = λ e. absurd (not_false (Ok true) refl e);
      freed = λ e. absurd (not_false (Ok true) refl e);
      asked = λ e. absurd (false≢true (sym far.alive ∙ e));
      alive = λ _. sym (ap not far.alive);
      refused = tt;
      kept = tt;
      same = λ _. tt;
      owed = tt;
      called = inr (same, false_from_ne_true (is_dirty (read_of (s.cell p))) (λ e. false≢true (sym (left.far refl).0 ∙ up_by (read_of (s.cell p)) (read_of c.cell_of-found.result) found.found.body found.found.dirty e)));
      unasked = λ _ _ _. same;
      forgotten = λ _ e. absurd (not_false (Ok true) refl e);
      follows = subst (Follows g.D.Device.contents g.D.Device.honest g.D.Device.faults g.D.Device.fails_at_most (other_than p) false c.args.self.now.device) (sym same) (follows_itself g.D.Device.contents g.D.Device.honest g.D.Device.faults g.D.Device.fails_at_most (other_than p) c.args.self.now.device);
      order = c.leave_clean.ensures.order ∙ found.order;
      ran = λ still. record { pointer = c.requires.pointer; quiet = c.requires.quiet; evac = c.requires.evac; alive = far.alive; after = away still };
    }

-- ---- its owner was found to have dropped it
pub returns-then-marks : goal.returns-then-marks
unfolding which
returns-then-marks g c =
    let s = g.N.Near.view c.args.self.now.near in
    let t = g.N.Near.view c.cell_of-found.new.self.near in
    let p = c.args.pointer in
    let found = c.cell_of-found.ensures in
    let z = c.retire.ensures in
    let dropped : is_dropped (read_of c.cell_of-found.result) ≡ true = ap is_dropped (c.known.ensures ∙ ap (λ v. Some v) c.in-Near.is) ∙ c.if-marks.true in
    let known : g.N.Near.still → is_dropped (read_of (s.cell p)) ≡ true = λ still. ap (λ v. is_dropped (read_of v)) (sym (found.exact still)) ∙ dropped in
    let exact : g.N.Near.still → g.N.Near.view c.retire.new.self.near ≡ retired s p = λ still. z.exact still ∙ ap (λ (x : State). retired x p) (found.set still) in
    record {
      came = then_came found.came z.came;
      far = λ e. absurd (not_true (Ok false) refl e);
      away = λ _ e. absurd (not_true (Ok false) refl e);
      left_by = λ e. absurd (not_true (Ok false) refl e);
      gone = λ _. retired_by g.N.Near.still s t (g.N.Near.view c.retire.new.self.near) p c.cell_of-found.result found.found dropped (spans_seen s t p c.cell_of-found.result found.kept) z.kept z.forgot known exact;
      freed = λ _. record {
        known = λ a old now. z.forgot.known a now ∙ ap (λ (x : State). x.word a) found.kept;
        headers = λ a begun. z.forgot.headers a begun ∙ ap (λ (x : State). x.word a) found.kept;
      };
      asked = λ _. refl;
      alive = λ still. sym (ap not (known still));
      refused = tt;
      kept = tt;
      same = λ _. tt;
      owed = tt;
      called = inl (subst (λ (d : g.row.D.Denot). g.D.Device.lets_go d p c.retire.new.self.device) found.device z.called);
      unasked = λ _ e _. absurd (not_true (Ok false) refl e);
      forgotten = λ forgets _. z.gone forgets;
      follows = subst (λ (d : g.row.D.Denot). Follows g.D.Device.contents g.D.Device.honest g.D.Device.faults g.D.Device.fails_at_most (other_than p) false d c.retire.new.self.device) found.device z.follows;
      order = z.order ∙ found.order;
      ran = λ still. record { pointer = c.requires.pointer; dropped = known still; after = exact still };
    }

-- ---- the same once it was to be named
pub returns-then-is_dropped : goal.returns-then-is_dropped
unfolding which
returns-then-is_dropped g c =
    let s = g.N.Near.view c.args.self.now.near in
    let t = g.N.Near.view c.leave_clean.new.self.near in
    let p = c.args.pointer in
    let some = (goal.at.returns-then-is_dropped g c).In-Some in
    let found = c.cell_of-found.ensures in
    let z = c.retire-then-is_dropped.ensures in
    let dropped = sym c.is_dropped.ensures.value ∙ c.if-is_dropped.true in
    let known : g.N.Near.still → is_dropped (read_of (s.cell p)) ≡ true = λ still. ap (λ v. is_dropped (read_of v)) (sym (won g some still)) ∙ dropped in
    let exact : g.N.Near.still → g.N.Near.view c.retire-then-is_dropped.new.self.near ≡ retired s p =
    λ still. z.exact still ∙ ap (λ (x : State). retired x p) (seen_is g some ∙ same_seen s p c.in-Some.word 0 (won g some still)) in
    let same : c.leave_clean.new.self.device ≡ c.args.self.now.device = c.leave_clean.ensures.device ∙ found.device in
    record {
      came = then_came (then_came found.came (came_only _ c.leave_clean.ensures.names)) z.came;
      far = λ e. absurd (not_true (Ok false) refl e);
      away = λ _ e. absurd (not_true (Ok false) refl e);
      left_by = λ e. absurd (not_true (Ok false) refl e);
      gone = λ _. retired_by g.N.Near.still s t (g.N.Near.view c.retire-then-is_dropped.new.self.near) p c.in-Some.word (finds g some) dropped (spans_seen s t p c.in-Some.word (seen_is g some)) z.kept z.forgot known exact;
      freed = λ _. record {
        known = λ a old now. z.forgot.known a now ∙ ap (λ (x : State). x.word a) (seen_is g some);
        headers = λ a begun. z.forgot.headers a begun ∙ ap (λ (x : State). x.word a) (seen_is g some);
      };
      asked = λ _. refl;
      alive = λ still. sym (ap not (known still));
      refused = tt;
      kept = tt;
      same = λ _. tt;
      owed = tt;
      called = inl (subst (λ (d : g.row.D.Denot). g.D.Device.lets_go d p c.retire-then-is_dropped.new.self.device) same z.called);
      unasked = λ _ e _. absurd (not_true (Ok false) refl e);
      forgotten = λ forgets _. z.gone forgets;
      follows = subst (λ (d : g.row.D.Denot). Follows g.D.Device.contents g.D.Device.honest g.D.Device.faults g.D.Device.fails_at_most (other_than p) false d c.retire-then-is_dropped.new.self.device) same z.follows;
      order = z.order ∙ c.leave_clean.ensures.order ∙ found.order;
      ran = λ still. record { pointer = c.requires.pointer; dropped = known still; after = exact still };
    }

-- ---- what a refusal leaves
pub returns-in-Err : goal.returns-in-Err
unfolding which
returns-in-Err g c =
    let h = goal.at.returns-in-Err g c in
    let s = g.N.Near.view c.args.self.now.near in
    let t = g.N.Near.view c.leave_clean.new.self.near in
    let u = g.N.Near.view c.send.new.self.near in
    let p = c.args.pointer in
    let x = c.in-Near in
    let some = h.In-Some in
    let n = now g some in
    let found = c.cell_of-found.ensures in
    let sent = c.in-Err.ensures in
    let alive : is_dropped (read_of c.in-Some.word) ≡ false = sym c.is_dropped.ensures.value ∙ c.if-is_dropped.false in
    let dirty : is_dirty (read_of c.in-Some.word) ≡ true = elim c.in-Some.ensures.marked [ inl dropped ↦ absurd (false≢true (sym alive ∙ dropped)) | inr dirty ↦ dirty ] in
    let before = was_alive s t u p c.in-Some.word (seen_is g some) c.send.ensures.kept x.len x.ds x.place n.marks (finds g some) n.near (sym (ap is_dropped n.near) ∙ alive) in
    let back : g.N.Near.still → u ≡ s = λ still. c.send.ensures.exact still ∙ seen_is g some ∙ same_seen s p c.in-Some.word 0 (won g some still) in
    let same : c.leave_clean.new.self.device ≡ c.args.self.now.device = c.leave_clean.ensures.device ∙ found.device in
    let bytes = bytes_of (data_at u.word x.place) x.len in
    record {
      came = then_came (then_came found.came (came_only _ c.leave_clean.ensures.names)) (came_only _ c.send.ensures.reads);
      far = λ e. absurd (not_done (Err c.in-Err.why) true refl e);
      away = λ _ e. absurd (not_done (Err c.in-Err.why) true refl e);
      left_by = λ e. absurd (not_done (Err c.in-Err.why) true refl e);
      gone = λ e. absurd (not_done (Err c.in-Err.why) false refl e);
      freed = λ e. absurd (not_done (Err c.in-Err.why) false refl e);
      asked = λ e. absurd (false≢true (sym before ∙ e));
      alive = λ _. tt;
      refused = sent.refused;
      kept = record {
        word = c.in-Some.word;
        found = finds g some;
        alive = alive;
        leads = read_is s t u p c.in-Some.word (seen_is g some) c.send.ensures.kept;
        keeps = keeps_read s t u p c.in-Some.word (seen_is g some) c.send.ensures.kept;
      };
      same = back;
      owed = ap (λ (x : State). is_dirty (read_of (x.cell p))) (read_is s t u p c.in-Some.word (seen_is g some) c.send.ensures.kept) ∙ ap (λ w. is_dirty (read_of w)) (put_same s.cell p c.in-Some.word p refl) ∙ dirty;
      called = (bytes, own g h.After-send, subst (λ (d : g.row.D.Denot). g.D.Device.writes d p bytes (Err (fault_of c.in-Err.why)) c.send.new.self.device) same sent.called);
      unasked = λ _ e _. absurd (not_done (Err c.in-Err.why) true refl e);
      forgotten = λ _ e. absurd (not_done (Err c.in-Err.why) false refl e);
      follows = subst (λ (d : g.row.D.Denot). Follows g.D.Device.contents g.D.Device.honest g.D.Device.faults g.D.Device.fails_at_most (other_than p) (is_failure {A = Bool} (Err c.in-Err.why)) d c.send.new.self.device) same sent.follows;
      order = c.send.ensures.order ∙ c.leave_clean.ensures.order ∙ found.order;
      ran = back;
    }

-- ---- it went by a write
pub returns-in-Ok : goal.returns-in-Ok
unfolding which
returns-in-Ok g c =
    let h = goal.at.returns-in-Ok g c in
    let s = g.N.Near.view c.args.self.now.near in
    let t = g.N.Near.view c.leave_clean.new.self.near in
    let u = g.N.Near.view c.send.new.self.near in
    let v = g.N.Near.view c.name_far.new.self.near in
    let p = c.args.pointer in
    let x = c.in-Near in
    let bytes = bytes_of (data_at u.word x.place) x.len in
    let asked : g.D.Device.writes c.leave_clean.new.self.device p bytes (Ok tt) c.send.new.self.device = c.in_default-send.ensures.called in
    let some = h.In-Some in
    let n = now g some in
    let found = c.cell_of-found.ensures in
    let named = c.in-Ok.ensures in
    let alive : is_dropped (read_of c.in-Some.word) ≡ false = sym c.is_dropped.ensures.value ∙ c.if-is_dropped.false in
    let dirty : is_dirty (read_of c.in-Some.word) ≡ true = elim c.in-Some.ensures.marked [ inl dropped ↦ absurd (false≢true (sym alive ∙ dropped)) | inr dirty ↦ dirty ] in
    let far = goes_far s t u p c.in-Some.word (seen_is g some) c.send.ensures.kept v x.len x.ds x.place n.marks (finds g some) n.near (sym (ap is_dropped n.near) ∙ alive) c.requires.evac (far_layout g some) named.far named.renamed
    (λ i lt _. (c.send.ensures.words i lt).0) in
    let away : g.N.Near.still → v ≡ evicted s p =
    λ still. named.set still ∙ ap (λ (y : State). evicted y p) (c.send.ensures.exact still ∙ seen_is g some ∙ same_seen s p c.in-Some.word 0 (won g some still)) in
    let written : g.D.Device.writes c.args.self.now.device p bytes (Ok tt) c.send.new.self.device =
    subst (λ (d : g.row.D.Denot). g.D.Device.writes d p bytes (Ok tt) c.send.new.self.device) (c.leave_clean.ensures.device ∙ found.device) asked in
    record {
      came = then_came (then_came (then_came found.came (came_only _ c.leave_clean.ensures.names)) (came_only _ c.send.ensures.reads)) (came_only _ c.name_far.ensures.names);
      far = λ _. far;
      away = λ still _. away still;
      left_by = λ _. (let won = named.won_by in record {
        before = won.before;
        word = won.word;
        far = far_word x.len x.ds;
        named = won.made;
        dirty = λ _. (bytes, own g h.After-send, subst (λ (d : g.row.D.Denot). g.D.Device.writes c.args.self.now.device p bytes (Ok tt) d) (sym c.name_far.ensures.device) written);
        clean = λ e. absurd (false≢true (sym e ∙ same_dirt c.in-Some.word won.word won.found won.goes_on ∙ dirty));
      });
      gone = λ e. absurd (not_false (Ok true) refl e);
      freed = λ e. absurd (not_false (Ok true) refl e);
      asked = λ e. absurd (false≢true (sym far.alive ∙ e));
      alive = λ _. sym (ap not far.alive);
      refused = tt;
      kept = tt;
      same = λ _. tt;
      owed = tt;
      called = inl (bytes, own g h.After-send, subst (λ (d : g.row.D.Denot). g.D.Device.writes c.args.self.now.device p bytes (Ok tt) d) (sym c.name_far.ensures.device) written);
      unasked = λ still _ clean. absurd (false≢true (sym clean ∙ (ap (λ w. is_dirty (read_of w)) (sym (won g some still)) ∙ dirty)));
      forgotten = λ _ e. absurd (not_false (Ok true) refl e);
      follows = subst (Follows g.D.Device.contents g.D.Device.honest g.D.Device.faults g.D.Device.fails_at_most (other_than p) false c.args.self.now.device) (sym c.name_far.ensures.device)
          (subst (λ (d : g.row.D.Denot). Follows g.D.Device.contents g.D.Device.honest g.D.Device.faults g.D.Device.fails_at_most (other_than p) false d c.send.new.self.device) (c.leave_clean.ensures.device ∙ found.device) c.in_default-send.ensures.follows);
      order = c.name_far.ensures.order ∙ c.send.ensures.order ∙ c.leave_clean.ensures.order ∙ found.order;
      ran = λ still. record { pointer = c.requires.pointer; quiet = c.requires.quiet; evac = c.requires.evac; alive = far.alive; after = away still };
    }

-- ---- a drop was found last
pub retire-requires-in-Err-name_far-clause-pointer : goal.retire-requires-in-Err-name_far-clause-pointer
retire-requires-in-Err-name_far-clause-pointer g c =
    subst (λ (x : State). c.args.pointer < CELLS * x.mutators) (sym c.in-Err-name_far.ensures.kept)
    (subst (λ (x : State). c.args.pointer < CELLS * x.mutators) (sym c.send.ensures.kept.0) (pointer_then g (goal.at.retire-requires-in-Err-name_far-clause-pointer g c).In-Some))

pub retire-requires-in-Err-name_far-clause-dropped : goal.retire-requires-in-Err-name_far-clause-dropped
retire-requires-in-Err-name_far-clause-dropped g c =
    let y = c.in-Err-name_far in
    let dirty = soiled (is_dropped (read_of c.in-Some.word)) (is_dirty (read_of c.in-Some.word)) c.in-Some.ensures.marked (sym c.is_dropped.ensures.value ∙ c.if-is_dropped.false) in
    ap (λ (x : State). is_dropped (read_of (x.cell c.args.pointer))) y.ensures.kept
    ∙ ap (λ w. is_dropped (read_of w)) (put_same (g.N.Near.view c.send.new.self.near).cell c.args.pointer y.field-0 c.args.pointer refl) ∙ stopped_by c.in-Some.word y.field-0 dirty y.ensures.stopped

pub returns-in-Err-name_far : goal.returns-in-Err-name_far
unfolding which
returns-in-Err-name_far g c =
    let h = goal.at.returns-in-Err-name_far g c in
    let s = g.N.Near.view c.args.self.now.near in
    let t = g.N.Near.view c.leave_clean.new.self.near in
    let u = g.N.Near.view c.send.new.self.near in
    let p = c.args.pointer in
    let x = c.in-Near in
    let y = c.in-Err-name_far in
    let z = c.retire-in-Err-name_far.ensures in
    let some = h.In-Some in
    let n = now g some in
    let found = c.cell_of-found.ensures in
    let alive : is_dropped (read_of c.in-Some.word) ≡ false = sym c.is_dropped.ensures.value ∙ c.if-is_dropped.false in
    let dirty : is_dirty (read_of c.in-Some.word) ≡ true = elim c.in-Some.ensures.marked [ inl dropped ↦ absurd (false≢true (sym alive ∙ dropped)) | inr dirty ↦ dirty ] in
    let stopped = stopped_by c.in-Some.word y.field-0 dirty y.ensures.stopped in
    let bytes = bytes_of (data_at u.word x.place) x.len in
    let asked : g.D.Device.writes c.leave_clean.new.self.device p bytes (Ok tt) c.send.new.self.device = c.in_default-send.ensures.called in
    let written : g.D.Device.writes c.args.self.now.device p bytes (Ok tt) c.send.new.self.device =
    subst (λ (d : g.row.D.Denot). g.D.Device.writes d p bytes (Ok tt) c.send.new.self.device) (c.leave_clean.ensures.device ∙ found.device) asked in
    let first : Follows g.D.Device.contents g.D.Device.honest g.D.Device.faults g.D.Device.fails_at_most (other_than p) false c.args.self.now.device c.send.new.self.device =
    subst (λ (d : g.row.D.Denot). Follows g.D.Device.contents g.D.Device.honest g.D.Device.faults g.D.Device.fails_at_most (other_than p) false d c.send.new.self.device) (c.leave_clean.ensures.device ∙ found.device) c.in_default-send.ensures.follows in
    record {
      came = then_came (then_came (then_came (then_came found.came (came_only _ c.leave_clean.ensures.names)) (came_only _ c.send.ensures.reads)) (came_only _ c.name_far.ensures.names)) z.came;
      far = λ e. absurd (not_true (Ok false) refl e);
      away = λ _ e. absurd (not_true (Ok false) refl e);
      left_by = λ e. absurd (not_true (Ok false) refl e);
      gone = λ _. is_gone s t u p c.in-Some.word (seen_is g some) c.send.ensures.kept _ _ y.field-0 (finds g some) y.ensures.found stopped y.ensures.kept z.kept z.forgot
          g.N.Near.still (λ still. absurd (y.ensures.won still)) (λ still. absurd (y.ensures.won still));
      freed = λ _. gone_keeps s t u p c.in-Some.word (seen_is g some) c.send.ensures.kept _ _ y.field-0 (finds g some) y.ensures.found stopped y.ensures.kept z.kept z.forgot;
      asked = λ _. refl;
      alive = λ still. absurd (y.ensures.won still);
      refused = tt;
      kept = tt;
      same = λ _. tt;
      owed = tt;
      called = inr (
        c.send.new.self.device,
        (bytes, own g h.After-send, written),
        subst (λ (d : g.row.D.Denot). g.D.Device.lets_go d p c.retire-in-Err-name_far.new.self.device) c.name_far.ensures.device z.called,
        was_alive s t u p c.in-Some.word (seen_is g some) c.send.ensures.kept x.len x.ds x.place n.marks (finds g some) n.near (sym (ap is_dropped n.near) ∙ alive),
      );
      unasked = λ _ e _. absurd (not_true (Ok false) refl e);
      forgotten = λ forgets _. z.gone forgets;
      follows = follows_on g.D.Device.contents g.D.Device.honest g.D.Device.faults g.D.Device.fails_at_most (other_than p) false c.args.self.now.device c.send.new.self.device c.retire-in-Err-name_far.new.self.device first
          (subst (λ (d : g.row.D.Denot). Follows g.D.Device.contents g.D.Device.honest g.D.Device.faults g.D.Device.fails_at_most (other_than p) false d c.retire-in-Err-name_far.new.self.device) c.name_far.ensures.device z.follows);
      order = z.order ∙ c.name_far.ensures.order ∙ c.send.ensures.order ∙ c.leave_clean.ensures.order ∙ found.order;
      ran = λ still. absurd (y.ensures.won still);
    }
