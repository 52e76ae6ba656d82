-- How a talk grows.
use Rattle.std.proofs.Common.{◌≡◌, List, [], ◌∷◌, ◌++◌, map, Option, Some, None, refl, ap, sym, subst, ◌∙◌, append_assoc}
use Rattle.std.proofs.lemmas.List.{append-nil, map-append}
use Rattle.cedar_server.specs.declared.messages.ClientMessage.{ClientMessage}
use Rattle.cedar_server.specs.declared.messages.ServerMessage.{ServerMessage}
use Rattle.cedar_server.specs.declared.messages.Wishes.{Wishes}
use Rattle.cedar_server.specs.declared.server.Server.{Server}
use Rattle.cedar_server.specs.Talks.{AreTurns, Event, Grows, IsTurn, Turn, events_of, said, told}

-- it grows by one part after the other
pub grows_twice : (m n : List Event) (a b c : Option (List Event)) → Grows m a b → Grows n b c → Grows (m ++ n) a c
grows_twice m n None b c first second = tt
grows_twice m n (Some old) b c first second =
    let next : Grows n (Some (old ++ m)) c = subst (λ (o : Option (List Event)). Grows n o c) first second in
    next ∙ ap (λ (es : List Event). Some es) (append_assoc old m n)

pub grows_by_nothing : (a : Option (List Event)) → Grows [] a a
grows_by_nothing None = tt
grows_by_nothing (Some old) = ap (λ (es : List Event). Some es) (sym (append-nil old))

-- one turn: the message, and what is sent before its answers, in them and after them
pub one_turn : (m : ClientMessage) (p : Wishes) (before own after : List ServerMessage) (a b c d e : Option (List Event))
    → Grows (said m p ∷ []) a b → Grows (map told before) b c → Grows (map told own) c d → Grows (map told after) d e
    → Grows (events_of (record { message = m; project = p; answers = before ++ (own ++ after) } ∷ [])) a e
one_turn m p before own after a b c d e first second third fourth =
    let all = grows_twice (said m p ∷ []) (map told before ++ (map told own ++ map told after)) a b e first
    (grows_twice (map told before) (map told own ++ map told after) b c e second
    (grows_twice (map told own) (map told after) c d e third fourth)) in
    let same : map told before ++ (map told own ++ map told after) ≡ map told (before ++ (own ++ after)) =
    sym (map-append told before (own ++ after) ∙ ap (λ (es : List Event). map told before ++ es) (map-append told own after)) in
    subst (λ (es : List Event). Grows es a e)
    (ap (λ (es : List Event). said m p ∷ es) same ∙ sym (append-nil (said m p ∷ map told (before ++ (own ++ after))))) all

-- one more turn
pub one_more_turn : (turns : List Turn) (turn : Turn) (s t u : Server) → AreTurns turns s t → IsTurn turn t u → AreTurns (turns ++ (turn ∷ [])) s u
one_more_turn [] turn s t u same one =
    (u, subst (λ (it : Server). IsTurn turn it u) same one, refl)
one_more_turn (x ∷ xs) turn s t u these one =
    (these.0, these.1, one_more_turn xs turn these.0 t u these.2 one)

-- its events come last
pub events_of-append : (turns more : List Turn) → events_of (turns ++ more) ≡ events_of turns ++ events_of more
events_of-append [] more = refl
events_of-append (x ∷ xs) more =
    ap (λ (es : List Event). (said x.message x.project ∷ map told x.answers) ++ es) (events_of-append xs more)
    ∙ sym (append_assoc (said x.message x.project ∷ map told x.answers) (events_of xs) (events_of more))
