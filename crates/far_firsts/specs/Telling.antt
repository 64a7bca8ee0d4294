-- What a run leaves in the output.
use Rattle.std.specs.Prelude.{◌≡◌, ℕ, ◌≤◌, Bool, true, Option, List, [], length, take}
use Rattle.far_word.specs.declared.refused.Refused.{Refused as Refusal}
use Rattle.far_firsts.specs.Lines.{lines_of, text_of}
use Rattle.far_firsts.specs.Firsts.{firsts, firsts_by, IsPartOf}
use Rattle.far_firsts.specs.Causes.{IsCause}
use Rattle.far_firsts.specs.Doing.{Leaves}
use Rattle.far_firsts.specs.declared.end.Why.{Why}

-- of the first n lines of a text some were printed, in their order, each with an end, and nothing else; or a part of that from its
-- beginning, if the output couldn't be written. Whatever the far side gives, the first line of each stamp is printed, by hash and length;
-- where it is honest, these are the first of each kind. `left` wasn't read
pub record Tells (longest : ℕ) (refuses : Refusal → Type 0) (honest : Bool) (stamp : List ℕ → List ℕ) (end n : ℕ) (why : Why) (text : List ℕ) (left before after : Option (List ℕ)) : Type 0 where
  pub count : n ≤ length (lines_of end text)
  pub cause : IsCause longest refuses end n why text left
  pub printed : List (List ℕ)
  pub some : IsPartOf printed (take n (lines_of end text))
  pub first : IsPartOf (firsts_by stamp [] (take n (lines_of end text))) printed
  pub exact : honest ≡ true → printed ≡ firsts (take n (lines_of end text))
  pub leaves : Leaves why (text_of end printed) before after
