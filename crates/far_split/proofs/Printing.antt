-- One more text is printed.
use Rattle.std.proofs.Common.{◌≡◌, ℕ, zero, suc, ◌+◌, ◌<◌, List, [], ◌∷◌, ◌++◌, Option, Result, Ok, Err, length, take, drop, get_or, append_assoc, append-nil, length-append, length-take-le, take-append-drop, refl, sym, subst, ap, ◌∙◌, arith}
use Rattle.std.specs.Prelude.{IsErr}
use Rattle.std.specs.Io.KnownBytes.{Appends}
use Rattle.std.specs.List.{AllByRecursion, flat_map}
use Rattle.std.proofs.KnownBytes.{Appends-nil}
use Rattle.std.proofs.lemmas.Bool.{false≢true}
use Rattle.std.proofs.lemmas.Grind.{flat_map-append}
use Rattle.std.proofs.lemmas.List.{take-append-le, take_more}
use Rattle.far_reply.specs.declared.stream.WriteFault.{WriteFault}
use Rattle.far_reply.specs.Reply.{IsShort, Reply}
use Rattle.far_reply.specs.Stream.{AppendsPart, Holds, Writes}
use Rattle.far_reply.proofs.Streams.{held_more, held_written}
use Rattle.far_split.specs.Printed.{part_text, parts_text}
use Rattle.far_split.specs.Prints.{Prints}

abbrev Answer : Type 0
Answer = Result (Unit {0}) WriteFault

abbrev fine : Answer
fine = Ok tt

-- more bytes behind a part leave it one
part_longer : (a b : Option (List ℕ)) (xs ys : List ℕ) → AppendsPart a b xs → AppendsPart a b (xs ++ ys)
part_longer a b xs ys (n, below, part) =
    (n, omega (arith, below, length-append xs ys), subst (Appends a b) (sym (take-append-le n xs ys (omega (arith, below)))) part)

-- a text waits
pub prints_pushed : (a : Option (List ℕ)) (r s text : List ℕ) → s ≡ r ++ text → Prints a r a s fine text
prints_pushed a r s text is = λ start bytes held. subst (λ w. Holds start a w fine (bytes ++ text)) (sym is) (held_more start a r text bytes fine held)

-- what waited was written, or part of it
pub prints_written : (a b : Option (List ℕ)) (r s : List ℕ) (result : Answer) → Writes a b result r → (result ≡ fine → s ≡ []) → Prints a r b s result []
prints_written a b r s (Ok done) writes empty = λ start bytes held.
    subst (λ w. Holds start b w fine (bytes ++ [])) (sym (empty refl)) (
    subst (Holds start b [] fine) (sym (append-nil bytes))
    (held_written start a b r bytes fine fine (λ d e. absurd cc) writes held))
prints_written a b r s (Err fault) writes empty = λ start bytes held.
    subst (AppendsPart start b) (sym (append-nil bytes)) (held_written start a b r bytes fine (Err fault) (λ d e. absurd cc) writes held)

-- one text behind the other
pub prints_then : (a b c : Option (List ℕ)) (r s u : List ℕ) (result : Answer) (text more : List ℕ) → Prints a r b s fine text → Prints b s c u result more → Prints a r c u result (text ++ more)
prints_then a b c r s u result text more first second = λ start bytes held.
    subst (Holds start c u result) (append_assoc bytes text more) (second start (bytes ++ text) (first start bytes held))

-- a write failed, and more that is left out changes nothing
pub prints_part : (a b : Option (List ℕ)) (r s : List ℕ) (fault : WriteFault) (final : Answer) (text more : List ℕ) → IsErr final → Prints a r b s (Err fault) text → Prints a r b s final (text ++ more)
prints_part a b r s fault (Ok done) text more failed first = absurd (false≢true failed)
prints_part a b r s fault (Err other) text more failed first = λ start bytes held. subst (AppendsPart start b) (append_assoc bytes text more) (part_longer start b (bytes ++ text) more (first start bytes held))

pub prints_failed : (a b : Option (List ℕ)) (r s x : List ℕ) (final : Answer) → IsErr final → AppendsPart a b x → x ≡ r → Prints a r b s final []
prints_failed a b r s x (Ok done) failed part is = absurd (false≢true failed)
prints_failed a b r s x (Err other) failed part is = prints_written a b r s (Err other) (subst (AppendsPart a b) is part) (λ never. absurd cc)

-- three texts that were pushed are one
pub pushed_thrice : (r s u v x y z : List ℕ) → s ≡ r ++ x → u ≡ s ++ y → v ≡ u ++ z → v ≡ r ++ (x ++ (y ++ z))
pushed_thrice r s u v x y z first second third =
    third ∙ ap (λ l. l ++ z) (second ∙ ap (λ l. l ++ y) first) ∙ append_assoc (r ++ x) y z ∙ append_assoc r x (y ++ z)

-- all was printed, and what waits is written
pub writes_all : (a b c : Option (List ℕ)) (s : List ℕ) (result : Answer) (text : List ℕ) → Prints a [] b s fine text → Writes b c result s → Writes a c result text
writes_all a b c s (Ok done) text prints writes =
    let held = held_written a b c s text fine fine (λ d e. absurd cc) writes (prints a [] ([], Appends-nil a, refl)) in
    subst (Appends a c) (sym (append-nil held.0) ∙ held.2) held.1
writes_all a b c s (Err fault) text prints writes = held_written a b c s text fine (Err fault) (λ d e. absurd cc) writes (prints a [] ([], Appends-nil a, refl))

-- or a write failed before
pub writes_part : (a b : Option (List ℕ)) (s : List ℕ) (fault : WriteFault) (final : Answer) (text : List ℕ) → IsErr final → Prints a [] b s (Err fault) text → Writes a b final text
writes_part a b s fault (Ok done) text failed prints = absurd (false≢true failed)
writes_part a b s fault (Err other) text failed prints = prints a [] ([], Appends-nil a, refl)

-- ---- the texts of replies, and of logs' lines
module _ {A : Type 0} (text : A → List ℕ) (all : List A) (i : ℕ) where
  -- one more
  pub texts_more : (one : A) → i < length all → ((other : A) → get_or all i other ≡ one) → flat_map text (take i all) ++ text one ≡ flat_map text (take (i + 1) all)
  texts_more one below is =
      let more : take (i + 1) all ≡ take i all ++ one ∷ [] = take_more all i one below ∙ ap (λ x. take i all ++ x ∷ []) (is one) in
      sym (ap (flat_map text) more ∙ flat_map-append text (take i all) (one ∷ []) ∙ ap (λ l. flat_map text (take i all) ++ l) (append-nil (text one)))

  -- and those that follow
  pub texts_rest : flat_map text (take i all) ++ flat_map text (drop i all) ≡ flat_map text all
  texts_rest = sym (flat_map-append text (take i all) (drop i all)) ∙ ap (flat_map text) (take-append-drop i all)

-- each is short
pub short_at : (told : List Reply) (i : ℕ) (one : Reply) → AllByRecursion IsShort told → i < length told → ((other : Reply) → get_or told i other ≡ one) → IsShort one
short_at [] i one short below is = absurd (omega arith)
short_at (x ∷ xs) zero one short below is = subst IsShort (is x) short.0
short_at (x ∷ xs) (suc i) one short below is = short_at xs i one short.1 (omega arith) is

-- ---- and of mutators
-- those of one mutator more
parts_end : (number : ℕ) (front : List (List Reply)) (one : List Reply) → parts_text number (front ++ one ∷ []) ≡ parts_text number front ++ part_text (number + length front) one
parts_end number [] one = append-nil (part_text number one) ∙ ap (λ n. part_text n one) (omega arith)
parts_end number (x ∷ xs) one =
    ap (λ l. part_text number x ++ l) (parts_end (number + 1) xs one ∙ ap (λ n. parts_text (number + 1) xs ++ part_text n one) (omega arith))
    ∙ sym (append_assoc (part_text number x) (parts_text (number + 1) xs) (part_text (number + length (x ∷ xs)) one))

pub parts_more : (all : List (List Reply)) (i : ℕ) (one : List Reply) → i < length all → one ≡ get_or all i one → parts_text 0 (take i all) ++ part_text i one ≡ parts_text 0 (take (i + 1) all)
parts_more all i one below is =
    let more : take (i + 1) all ≡ take i all ++ one ∷ [] = take_more all i one below ∙ ap (λ x. take i all ++ x ∷ []) (sym is) in
    let long : 0 + length (take i all) ≡ i = omega (arith, length-take-le i all (omega arith)) in
    sym (ap (parts_text 0) more ∙ parts_end 0 (take i all) one ∙ ap (λ n. parts_text 0 (take i all) ++ part_text n one) long)

-- and those that follow
parts_append : (number : ℕ) (front back : List (List Reply)) → parts_text number (front ++ back) ≡ parts_text number front ++ parts_text (number + length front) back
parts_append number [] back = ap (λ n. parts_text n back) (omega arith)
parts_append number (x ∷ xs) back =
    ap (λ l. part_text number x ++ l) (parts_append (number + 1) xs back ∙ ap (λ n. parts_text (number + 1) xs ++ parts_text n back) (omega arith))
    ∙ sym (append_assoc (part_text number x) (parts_text (number + 1) xs) (parts_text (number + length (x ∷ xs)) back))

pub parts_rest : (all : List (List Reply)) (i : ℕ) → parts_text 0 (take i all) ++ parts_text (0 + length (take i all)) (drop i all) ≡ parts_text 0 all
parts_rest all i = sym (parts_append 0 (take i all) (drop i all)) ∙ ap (parts_text 0) (take-append-drop i all)

-- each mutator's are short
pub part_short : (all : List (List Reply)) (i : ℕ) (other : List Reply) → AllByRecursion (AllByRecursion IsShort) all → i < length all → AllByRecursion IsShort (get_or all i other)
part_short [] i other short below = absurd (omega arith)
part_short (x ∷ xs) zero other short below = short.0
part_short (x ∷ xs) (suc i) other short below = part_short xs i other short.1 (omega arith)
