-- The texts of a decorated list are the tokens among the units.
use Rattle.std.specs.Prelude.{◌≡◌, Bool, true, false, ℕ, List, [], ◌∷◌, ◌++◌, map, if◌then◌else◌}
use Rattle.std.proofs.Common.{refl, ap, ◌∙◌}
use Rattle.cedar_tokens.specs.Units.{is_token}
use Rattle.cedar_tokens.specs.Listing.{Decorated, listing, Gaps, gaps, decorate}
use Rattle.cedar_tokens.specs.Inside.Newlines.{after_newline}
use Rattle.cedar_grammar.specs.Texts.{only_tokens}

-- the texts of the decorated list are the tokens
gaps_tokens : (units : List (List ℕ)) → map (λ g. g.0) (gaps units).tokens ≡ only_tokens units
unfolding gaps
gaps_tokens [] = refl
gaps_tokens (u ∷ us) = go (gaps_tokens us) (is_token u)
  where
    go : map (λ g. g.0) (gaps us).tokens ≡ only_tokens us → (b : Bool)
        → (let z : Gaps =
        if b then record { first = []; tokens = (u, (gaps us).first) ∷ (gaps us).tokens }
        else record { first = u ++ (gaps us).first; tokens = (gaps us).tokens } in
        map (λ g. g.0) z.tokens)
        ≡ (if b then u ∷ only_tokens us else only_tokens us)
    go h true = ap (λ z. u ∷ z) h
    go h false = h

decorated_tokens : (leading : List ℕ) (ts : List (List ℕ × List ℕ)) → map (λ (t : Decorated).
    t.text) (decorate leading ts).tokens ≡ map (λ (g : List ℕ × List ℕ). g.0) ts
unfolding decorate
decorated_tokens leading [] = refl
decorated_tokens leading (t ∷ ts) = ap (λ z. t.0 ∷ z) (decorated_tokens (after_newline t.1) ts)

pub listing_texts : (units : List (List ℕ))
    → map (λ t. t.text) (listing units).tokens ≡ only_tokens units
unfolding listing
listing_texts units = decorated_tokens (gaps units).first (gaps units).tokens ∙ gaps_tokens units
