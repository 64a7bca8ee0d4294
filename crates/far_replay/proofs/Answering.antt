-- One command more that was answered.
use Rattle.std.proofs.Common.{◌≡◌, ℕ, zero, suc, true, false, List, [], ◌∷◌, ◌++◌, ap, sym, ◌∙◌, subst, append_assoc, append-nil}
use Rattle.std.specs.List.{flat_map}
use Rattle.std.proofs.lemmas.Grind.{flat_map-append}
use Rattle.far_replay.specs.Moment.{Moment}
use Rattle.far_hand.specs.declared.plain.Plain.{Plain}
use Rattle.far_evac.specs.EvacOf.{EvacOf}
use Rattle.far_replay.specs.Moment.{FarSide}
use Rattle.far_device.specs.declared.liar.Lie.{Lie}
use Rattle.far_replay.specs.Far.{FarBytes, HoldsBy, ToldBy}
use Rattle.far_replay.specs.Spent.{SpentBy, may_spoil}
use Rattle.far_replay.specs.Answers.{Answered, AnsweredBy, CommandedBy, FarAlong, FlawedAtMost, Outside, Serves, Refuses, Gives, Lacks}
use Rattle.far_text.specs.Command.{Command}
use Rattle.far_reply.specs.Reply.{Reply, reply_text}

-- what the outside made of each command isn't told to the laws a command
pub answered_by : (os : List Outside) (now : Moment) (cs : List Command) (rs : List Reply) (moments : List Moment) → AnsweredBy os now cs rs moments → Answered now cs rs moments
answered_by [] now [] [] [] h = tt
answered_by (o ∷ os) now (c ∷ cs) (r ∷ rs) (m ∷ ms) h = ((o, h.0), answered_by os m cs rs ms h.1)
answered_by _ now _ _ _ h = absurd h

-- the run goes on by one command
pub answered_more : (s t : Moment) (cs later : List Command) (outside : List Outside) (replies : List Reply) (moments : List Moment) (o : Outside) (c : Command) (r : Reply) (u : Moment) →
    ((os : List Outside) (rest : List Reply) (more : List Moment) → AnsweredBy os t (c ∷ later) rest more → AnsweredBy (outside ++ os) s cs (replies ++ rest) (moments ++ more)) →
    CommandedBy o t c r u →
    (os : List Outside) (rest : List Reply) (more : List Moment) → AnsweredBy os u later rest more → AnsweredBy ((outside ++ o ∷ []) ++ os) s cs ((replies ++ r ∷ []) ++ rest) ((moments ++ u ∷ []) ++ more)
answered_more s t cs later outside replies moments o c r u go made os rest more h =
    subst (λ xs. AnsweredBy xs s cs ((replies ++ r ∷ []) ++ rest) ((moments ++ u ∷ []) ++ more)) (sym (append_assoc outside (o ∷ []) os))
    (subst (λ xs. AnsweredBy (outside ++ o ∷ os) s cs xs ((moments ++ u ∷ []) ++ more)) (sym (append_assoc replies (r ∷ []) rest))
    (subst (λ us. AnsweredBy (outside ++ o ∷ os) s cs (replies ++ r ∷ rest) us) (sym (append_assoc moments (u ∷ []) more)) (go (o ∷ os) (r ∷ rest) (u ∷ more) (made, h))))

-- the run is over
pub answered_all : (s t : Moment) (cs : List Command) (outside : List Outside) (replies : List Reply) (moments : List Moment) (none : List Command) → none ≡ [] →
    ((os : List Outside) (rest : List Reply) (more : List Moment) → AnsweredBy os t none rest more → AnsweredBy (outside ++ os) s cs (replies ++ rest) (moments ++ more)) → AnsweredBy outside s cs replies moments
answered_all s t cs outside replies moments none e go =
    subst (λ os. AnsweredBy os s cs replies moments) (append-nil outside)
    (subst (λ xs. AnsweredBy (outside ++ []) s cs xs moments) (append-nil replies)
    (subst (λ us. AnsweredBy (outside ++ []) s cs (replies ++ []) us) (append-nil moments) (go [] [] [] (subst (λ cs. AnsweredBy [] t cs [] []) (sym e) tt))))

-- ---- what the device held along the run
pub far_more : (first held later : FarBytes) (s t : Moment) (cs rest : List Command) (outside : List Outside) (moments : List Moment) (o : Outside) (c : Command) (u : Moment) →
    ((os : List Outside) (more : List Moment) → FarAlong held t os (c ∷ rest) more → FarAlong first s (outside ++ os) cs (moments ++ more)) → HoldsBy c t.core u.core held later → ToldBy o t c held →
    (os : List Outside) (more : List Moment) → FarAlong later u os rest more → FarAlong first s ((outside ++ o ∷ []) ++ os) cs ((moments ++ u ∷ []) ++ more)
far_more first held later s t cs rest outside moments o c u go holds told os more h =
    subst (λ xs. FarAlong first s xs cs ((moments ++ u ∷ []) ++ more)) (sym (append_assoc outside (o ∷ []) os))
    (subst (FarAlong first s (outside ++ o ∷ os) cs) (sym (append_assoc moments (u ∷ []) more)) (go (o ∷ os) (u ∷ more) (later, holds, told, h)))

pub far_all : (first held : FarBytes) (s t : Moment) (cs : List Command) (outside : List Outside) (moments : List Moment) (none : List Command) → none ≡ [] →
    ((os : List Outside) (more : List Moment) → FarAlong held t os none more → FarAlong first s (outside ++ os) cs (moments ++ more)) → FarAlong first s outside cs moments
far_all first held s t cs outside moments none e go =
    subst (λ os. FarAlong first s os cs moments) (append-nil outside) (subst (FarAlong first s (outside ++ []) cs) (append-nil moments) (go [] [] (subst (λ xs. FarAlong held t [] xs []) (sym e) tt)))

-- ---- how many commands the device's flaw spoils
-- one command more, by what was spent of it
pub spoiled_more : (lie : Lie) (n left : ℕ) (outside : List Outside) (o : Outside) (old new : EvacOf Plain FarSide) → SpentBy o old new → may_spoil lie old left →
    ((os : List Outside) → FlawedAtMost lie left os → FlawedAtMost lie n (outside ++ os)) →
    (rest : ℕ) × may_spoil lie new rest × ((os : List Outside) → FlawedAtMost lie rest os → FlawedAtMost lie n ((outside ++ o ∷ []) ++ os))
spoiled_more lie n left outside Serves old new spent few go =
    (left, spent lie left few, λ os h. subst (FlawedAtMost lie n) (sym (append_assoc outside (Serves ∷ []) os)) (go (Serves ∷ os) h))
spoiled_more lie n left outside (Lacks turns objects) old new spent few go =
    (left, spent lie left few, λ os h. subst (FlawedAtMost lie n) (sym (append_assoc outside (Lacks turns objects ∷ []) os)) (go (Lacks turns objects ∷ os) h))
spoiled_more lie n (suc left) outside (Refuses why turns objects) old new spent few go =
    let was = spent lie (suc left) few in
    (left, was.1, λ os h. subst (FlawedAtMost lie n) (sym (append_assoc outside (Refuses why turns objects ∷ []) os)) (go (Refuses why turns objects ∷ os) (was.0, h)))
spoiled_more lie n left outside (Gives row false) old new spent few go =
    (left, spent lie left few, λ os h. subst (FlawedAtMost lie n) (sym (append_assoc outside (Gives row false ∷ []) os)) (go (Gives row false ∷ os) h))
spoiled_more lie n (suc left) outside (Gives row true) old new spent few go =
    let was = spent lie (suc left) few in
    (left, was.1, λ os h. subst (FlawedAtMost lie n) (sym (append_assoc outside (Gives row true ∷ []) os)) (go (Gives row true ∷ os) (was.0, h)))
spoiled_more lie n zero outside (Refuses why turns objects) old new spent few go = absurd (spent lie 0 few)
spoiled_more lie n zero outside (Gives row true) old new spent few go = absurd (spent lie 0 few)

-- what is printed of one reply more
pub printed_more : (front replies : List Reply) (r : Reply) → flat_map reply_text (front ++ (replies ++ r ∷ [])) ≡ flat_map reply_text (front ++ replies) ++ reply_text r
printed_more front replies r =
    let one : flat_map reply_text (r ∷ []) ≡ reply_text r = append-nil (reply_text r) in
    ap (flat_map reply_text) (sym (append_assoc front replies (r ∷ []))) ∙ flat_map-append reply_text (front ++ replies) (r ∷ []) ∙ ap (λ xs. flat_map reply_text (front ++ replies) ++ xs) one
