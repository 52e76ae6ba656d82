-- The kinds of the tokens that were passed, and those of the tokens ahead.
use Rattle.std.proofs.Common.{◌≡◌, ℕ, true, false, List, [], ◌∷◌, ◌++◌, refl, ap, sym, ◌∙◌, Option, Some, None, subst}
use Rattle.std.specs.Prelude.{slice_get}
use Rattle.std.specs.Option.{option_to_list}
use Rattle.std.proofs.lemmas.List.{append_assoc}
use Rattle.cedar_tokens.specs.Units.{is_token}
use Rattle.cedar_tokens.specs.TokenKinds.{kind_of}
use Rattle.cedar_tokens.specs.declared.kind.Kind.{Kind}
use Rattle.cedar_server.specs.Parts.{IsPart, AreParts}
use Rattle.cedar_server.specs.Semantic.{kinds}
use Rattle.cedar_server.specs.Inside.Ahead.{HasAhead}
use Rattle.cedar_server.proofs.Reading.{first_of, none_of_empty}

-- the tokens between the text's start and the rest are of these kinds
abbrev pub KindsSoFar : List ℕ → List ℕ → List Kind → Type 0
KindsSoFar text rest found = (parts : List (List ℕ)) → AreParts text parts
    → (after : List (List ℕ)) × AreParts rest after × (kinds parts ≡ found ++ kinds after)

pub none_so_far : (text : List ℕ) → KindsSoFar text text []
none_so_far text parts a = (parts, a, refl)

kinds_skip : (u : List ℕ) (us : List (List ℕ)) → is_token u ≡ false → kinds (u ∷ us) ≡ kinds us
kinds_skip u us e = rw e refl

kinds_token : (u : List ℕ) (us : List (List ℕ)) → is_token u ≡ true → kinds (u ∷ us) ≡ kind_of u ∷ kinds us
kinds_token u us e = rw e refl

pub skip_so_far : (text rest u new : List ℕ) (found : List Kind) → KindsSoFar text rest found → IsPart rest u
    → rest ≡ u ++ new → is_token u ≡ false → KindsSoFar text new found
skip_so_far text rest u new found s p e t parts a =
    let h = s parts a in
    let f = first_of rest u new h.0 h.1 p e in
    (f.0, f.2, h.2 ∙ ap (λ z. found ++ z) (ap kinds f.1 ∙ kinds_skip u f.0 t))

pub token_so_far : (text rest u new : List ℕ) (found : List Kind) → KindsSoFar text rest found → IsPart rest u
    → rest ≡ u ++ new → is_token u ≡ true → KindsSoFar text new (found ++ kind_of u ∷ [])
token_so_far text rest u new found s p e t parts a =
    let h = s parts a in
    let f = first_of rest u new h.0 h.1 p e in
    (f.0, f.2, h.2 ∙ ap (λ z. found ++ z) (ap kinds f.1 ∙ kinds_token u f.0 t) ∙ sym (append_assoc found (kind_of u ∷ []) (kinds f.0)))

-- the first of them is the next part
pub first_so_far : (text rest u new : List ℕ) (k : Kind) → KindsSoFar text rest [] → IsPart rest u
    → rest ≡ u ++ new → is_token u ≡ true → k ≡ kind_of u → KindsSoFar text new (k ∷ [])
first_so_far text rest u new k s p e t h =
    subst (λ z. KindsSoFar text new (z ∷ [])) (sym h) (token_so_far text rest u new [] s p e t)

-- or the second
pub two_ahead : (text rest u new : List ℕ) (j k : Kind) → KindsSoFar text rest (j ∷ []) → IsPart rest u
    → rest ≡ u ++ new → is_token u ≡ true → k ≡ kind_of u → HasAhead text (Some j) (Some k)
two_ahead text rest u new j k s p e t g parts a =
    let h = token_so_far text rest u new (j ∷ []) s p e t parts a in
    (ap (λ z. slice_get z 0) (sym h.2), ap Some g ∙ ap (λ z. slice_get z 1) (sym h.2))

-- no more than one
pub one_ahead : (text rest : List ℕ) (first : Option Kind) → rest ≡ [] → KindsSoFar text rest (option_to_list first)
    → HasAhead text first None
one_ahead text rest first e s parts a = go first (s parts a)
  where
    go : (f : Option Kind) → ((after : List (List ℕ)) × AreParts rest after × (kinds parts ≡ option_to_list f ++ kinds after))
        → (f ≡ slice_get (kinds parts) 0) × (None ≡ slice_get (kinds parts) 1)
    go None h =
        let all : kinds parts ≡ [] = h.2 ∙ ap kinds (none_of_empty rest h.0 e h.1) in
        (ap (λ z. slice_get z 0) (sym all), ap (λ z. slice_get z 1) (sym all))
    go (Some k) h =
        let all : kinds parts ≡ k ∷ [] = h.2 ∙ ap (λ z. k ∷ kinds z) (none_of_empty rest h.0 e h.1) in
        (ap (λ z. slice_get z 0) (sym all), ap (λ z. slice_get z 1) (sym all))
