-- That each step of a book keeps what its device holds of far objects and of clean ones.
use Rattle.std.proofs.Common.{◌≡◌, ◌≢◌, ℕ, ◌+◌, Bool, true, false, cond, Option, Some, None, List, length, refl, sym, ap, ◌∙◌, subst}
use Rattle.std.proofs.lemmas.Bool.{false≢true}
use Rattle.far_word.specs.declared.pointer.Place.{Place}
use Rattle.far_word.specs.declared.pointer.PtrWord.{PtrWord}
use Rattle.far_word.specs.declared.pointer.PtrWord.TheVariants.{Free, Near, Far}
use Rattle.far_word.specs.Bytes.{bytes_of}
use Rattle.far_word.specs.Pointer.{read_of}
use Rattle.far_word.proofs.ByteLaws.{bytes_of-same, length-bytes_of}
use Rattle.far_events.specs.declared.naming.Naming.TheVariants.{Evicts}
use Rattle.far_events.specs.events.Naming.{IsNaming}
use Rattle.far_events.specs.state.Law.{Law, is_dirty}
use Rattle.far_events.specs.state.State.{State, addr, put}
use Rattle.far_events.proofs.Put.{put_both}
use Rattle.far_hand.specs.Finds.{Finds, body_of, marks_in}
use Rattle.far_hand.specs.Known.{StoresLeaving}
use Rattle.far_hand.specs.MayBe.{Shows}
use Rattle.far_book.specs.book.FarSide.{HoldsFar, HoldsOwn, kept_len}

-- where the far side is honest, of a clean object it holds its own bytes
pub holds_own : (s : State) (contents : ℕ → Option (List ℕ)) → Law s → HoldsFar s contents → HoldsOwn s contents
holds_own s contents law holds honest p len ds place m near clean =
    holds.same honest p len (ap kept_len near ∙ ap (λ b. cond b None (Some len)) clean)
    ∙ ap (λ bs. Some bs) (bytes_of-same (s.stored p) (λ i. s.word (addr place + 1 + i)) len ((law.cleans p).same honest len ds place m near clean))

-- ---- a word found asks for no more than the word known
none_some : (b c : Bool) (n k len : ℕ) → n ≡ k → (c ≡ true → b ≡ true) → cond b None (Some n) ≡ Some len → cond c None (Some k) ≡ Some len
none_some true c n k len e more h = absurd (cc)
none_some false true n k len e more h = absurd (false≢true (more refl))
none_some false false n k len e more h = ap (λ x. Some x) (sym e) ∙ h

kept_by : (o k : Option PtrWord) (len : ℕ) → body_of o ≡ body_of k → ((marks_in k).dirty ≡ true → (marks_in o).dirty ≡ true) → kept_len o ≡ Some len → kept_len k ≡ Some len
kept_by None k len body more h = absurd (cc)
kept_by (Some Free) k len body more h = absurd (cc)
kept_by (Some (Near n d at m)) None len body more h = absurd (cc)
kept_by (Some (Near n d at m)) (Some Free) len body more h = absurd (cc)
kept_by (Some (Near n d at m)) (Some (Near l e to k)) len body more h = none_some m.dirty k.dirty n l len (cc) more h
kept_by (Some (Near n d at m)) (Some (Far l e k)) len body more h = absurd (cc)
kept_by (Some (Far n d m)) None len body more h = absurd (cc)
kept_by (Some (Far n d m)) (Some Free) len body more h = absurd (cc)
kept_by (Some (Far n d m)) (Some (Near l e to k)) len body more h = absurd (cc)
kept_by (Some (Far n d m)) (Some (Far l e k)) len body more h = let long : n ≡ l = cc in ap (λ x. Some x) (sym long) ∙ h

pub kept_found : (v w : ℕ) → Finds v w → (len : ℕ) → kept_len (read_of w) ≡ Some len → kept_len (read_of v) ≡ Some len
kept_found v w f len h = kept_by (read_of w) (read_of v) len f.body f.dirty h

-- what a device holds by the view, it holds by each state that the words may be in
pub shown_holds : (o x : State) (contents : ℕ → Option (List ℕ)) → Shows o x → HoldsFar o contents → HoldsFar x contents
shown_holds o x contents shows holds = record {
  long = λ p len h. holds.long p len (kept_found (o.cell p) (x.cell p) (shows.cells p) len h);
  same = λ honest p len h. holds.same (sym (ap (λ (u : State). u.honest) shows.rest) ∙ honest) p len (kept_found (o.cell p) (x.cell p) (shows.cells p) len h)
      ∙ ap (λ (u : State). Some (bytes_of (u.stored p) len)) (sym shows.rest);
}

-- ---- a cell that is named
module _ (s t : State) (old_held held : ℕ → Option (List ℕ)) (holds : HoldsFar s old_held) (p new : ℕ) (honesty : t.honest ≡ s.honest) (cells : t.cell ≡ put s.cell p new)
    (stores : (q : ℕ) → q ≢ p → t.stored q ≡ s.stored q) (others : (q : ℕ) → q ≢ p → held q ≡ old_held q) where
  pub renamed : ((len : ℕ) → kept_len (read_of new) ≡ Some len → (bytes : List ℕ) × (held p ≡ Some bytes) × (length bytes ≡ len)) →
      (s.honest ≡ true → (len : ℕ) → kept_len (read_of new) ≡ Some len → held p ≡ Some (bytes_of (t.stored p) len)) → HoldsFar t held
  renamed long same = record {
    long = λ q len h. put_both (λ w. kept_len (read_of w) ≡ Some len → (bytes : List ℕ) × (held q ≡ Some bytes) × (length bytes ≡ len)) s.cell p new q
        (λ e k. subst (λ r. (bytes : List ℕ) × (held r ≡ Some bytes) × (length bytes ≡ len)) (sym e) (long len k))
        (λ ne k. let x = holds.long q len k in (x.0, others q ne ∙ x.1, x.2)) (ap (λ f. kept_len (read_of (f q))) (sym cells) ∙ h);
    same = λ honest q len h. put_both (λ w. kept_len (read_of w) ≡ Some len → held q ≡ Some (bytes_of (t.stored q) len)) s.cell p new q
        (λ e k. subst (λ r. held r ≡ Some (bytes_of (t.stored r) len)) (sym e) (same (sym honesty ∙ honest) len k))
        (λ ne k. others q ne ∙ holds.same (sym honesty ∙ honest) q len k ∙ ap (λ (f : ℕ → ℕ). Some (bytes_of f len)) (sym (stores q ne))) (ap (λ f. kept_len (read_of (f q))) (sym cells) ∙ h);
  }

  -- placed, with DIRTY; or retired, and its key let go of or not
  pub unheld_named : kept_len (read_of new) ≡ None → HoldsFar t held
  unheld_named none = renamed (λ len h. let odd : None ≡ Some len = sym none ∙ h in absurd (cc)) (λ _ len h. let odd : None ≡ Some len = sym none ∙ h in absurd (cc))

  -- moved or left where it lies, with DIRTY as it was; or fetched, and its key not let go of
  pub still_named : kept_len (read_of new) ≡ kept_len (read_of (s.cell p)) → held p ≡ old_held p → t.stored p ≡ s.stored p → HoldsFar t held
  still_named as_before key stays = renamed
      (λ len h. let x = holds.long p len (sym as_before ∙ h) in (x.0, key ∙ x.1, x.2))
      (λ honest len h. key ∙ holds.same honest p len (sym as_before ∙ h) ∙ ap (λ (f : ℕ → ℕ). Some (bytes_of f len)) (sym stays))

-- ---- an eviction
module _ (s t : State) (old_held held : ℕ → Option (List ℕ)) (holds : HoldsFar s old_held) (p new len : ℕ) (place : Place) (n : IsNaming (Evicts len place) (read_of (s.cell p)) (read_of new))
    (honesty : t.honest ≡ s.honest) (cells : t.cell ≡ put s.cell p new) (left : StoresLeaving s t p (s.cell p) new) where
  went : (k : ℕ) → kept_len (read_of new) ≡ Some k → len ≡ k
  went k h = let both : Some len ≡ Some k = sym (ap kept_len n.5) ∙ h in cc

  -- without DIRTY: no call of the device, no word read
  pub evicted_clean : n.1.dirty ≡ false → ((q : ℕ) → held q ≡ old_held q) → HoldsFar t held
  evicted_clean clean keys =
      let had : kept_len (read_of (s.cell p)) ≡ Some len = ap kept_len n.2 ∙ ap (λ b. cond b None (Some len)) clean in
      let none : is_dirty (read_of (s.cell p)) ≡ false = ap is_dirty n.2 ∙ clean in
      renamed s t old_held held holds p new honesty cells left.others (λ q _. keys q)
      (λ k h. let x = holds.long p len had in (x.0, keys p ∙ x.1, x.2 ∙ went k h))
      (λ honest k h. keys p ∙ holds.same honest p len had
      ∙ ap (λ bs. Some bs) (bytes_of-same (s.stored p) (t.stored p) len (λ i lt. sym (left.same honest len place n none i lt))) ∙ ap (λ l. Some (bytes_of (t.stored p) l)) (went k h))

  -- with DIRTY: its bytes were written before
  pub evicted_dirty : held p ≡ Some (bytes_of (t.stored p) len) → ((q : ℕ) → q ≢ p → held q ≡ old_held q) → HoldsFar t held
  evicted_dirty written others = renamed s t old_held held holds p new honesty cells left.others others
      (λ k h. (bytes_of (t.stored p) len, written, length-bytes_of (t.stored p) len ∙ went k h))
      (λ _ k h. written ∙ ap (λ l. Some (bytes_of (t.stored p) l)) (went k h))
