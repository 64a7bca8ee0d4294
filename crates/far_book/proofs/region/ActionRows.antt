-- Small runs of actions, computed: which word was stored last.
use Rattle.std.proofs.Common.{◌≡◌, refl, Some, [], ◌∷◌}
use Rattle.std.specs.Prelude.{Ok, Err, true}
use Rattle.far_word.specs.declared.refused.Refused.TheVariants.{NoRoom}
use Rattle.far_events.specs.declared.event.Event.TheVariants.{Store, Ask}
use Rattle.far_events.specs.declared.event.Reply.TheVariants.{Done, Word, Refused}
use Rattle.far_word.specs.declared.mark.Mark.TheVariants.{Dropped}
use Rattle.far_book.specs.book.Actions.{Evicts, Fetches, Looks, Owns, Places, Retires, last_stored}

-- a new object's words are 0, each that was stored is its own, and what is far meanwhile stays
pub stored_stays : last_stored (Places 3 16 1 (Ok record { log = 0; at = 0 }) ∷ Owns (Store 0 3 1 77) Done ∷ Evicts 3 (Ok true) ∷ Looks ∷ Fetches 3 (Ok (Some record { log = 1; at = 4 })) ∷ []) 3 1 ≡ 77
stored_stays = refl

pub other_word : last_stored (Places 3 16 1 (Ok record { log = 0; at = 0 }) ∷ Owns (Store 0 3 1 77) Done ∷ []) 3 0 ≡ 0
other_word = refl

-- the last store counts, and no other pointer's, nor one that was refused
pub last_counts : last_stored (Owns (Store 0 3 1 77) Done ∷ Owns (Store 0 3 1 78) Done ∷ Owns (Store 0 4 1 79) Done ∷ Owns (Store 0 3 1 80) Refused ∷ []) 3 1 ≡ 78
last_counts = refl

-- a refused placing changes nothing; a pointer that is placed again begins with zeros
pub placed_again : last_stored (Owns (Store 0 3 1 77) Done ∷ Owns (Ask 0 3 Dropped) (Word 5) ∷ Places 3 8 1 (Err NoRoom) ∷ []) 3 1 ≡ 77
placed_again = refl

pub zeros_again : last_stored (Owns (Store 0 3 1 77) Done ∷ Retires 3 ∷ Places 3 8 1 (Ok record { log = 0; at = 0 }) ∷ []) 3 1 ≡ 0
zeros_again = refl
