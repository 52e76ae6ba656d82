-- What a map of documents holds after a change.
use Rattle.std.proofs.Common.{◌≡◌, ◌≢◌, ℕ, false, cond, List, Option, refl, ap, ◌∙◌}
use Rattle.std.specs.BTreeMap.{get_by_text}
use Rattle.std.specs.Map.{update}
use Rattle.std.specs.Option.{option_map}
use Rattle.std.specs.Str.{bytes_eq}
use Rattle.std.proofs.lemmas.Bool.{false_from_ne_true}
use Rattle.std.proofs.lemmas.Slice.Eq.{bytes_eq-Decides}
use Rattle.cedar_server.specs.declared.documents.Document.{Document}
use Rattle.cedar_server.specs.Sessions.{Documents, state_in, state_of}

-- the map holds what it held, except at these bytes
abbrev pub IsUpdated : List ℕ → Option Document → Documents → Documents → Type 0
IsUpdated uri w m n = (q : List ℕ) → get_by_text n q ≡ update bytes_eq (get_by_text m) uri w q

pub own_state : (uri : List ℕ) (w : Option Document) (m n : Documents) → IsUpdated uri w m n
    → state_in n uri ≡ option_map state_of w
own_state uri w m n updated = ap (option_map state_of)
    (updated uri ∙ ap (λ b. cond b w (get_by_text m uri)) ((bytes_eq-Decides uri uri).1 refl))

pub other_state : (uri : List ℕ) (w : Option Document) (m n : Documents) → IsUpdated uri w m n
    → (q : List ℕ) → q ≢ uri → state_in n q ≡ state_in m q
other_state uri w m n updated q other =
    let differs : bytes_eq uri q ≡ false = false_from_ne_true _ (λ same. let e : uri ≡ q =
    (bytes_eq-Decides uri q).0 same in let back : q ≡ uri = cc in other back) in
    ap (option_map state_of)
    (updated q ∙ ap (λ b. cond b w (get_by_text m q)) differs)
