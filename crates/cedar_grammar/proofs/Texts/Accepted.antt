-- Accepted texts are those whose tokens are a list of the grammar over kinds.
use Rattle.std.proofs.Common.{◌≡◌, ℕ, Bool, true, false, cond, List, [], ◌∷◌, refl}
use Rattle.std.specs.List.{list_any}
use Rattle.cedar_tokens.specs.Units.{is_token}
use Rattle.cedar_tokens.specs.Split.{SplitsInto}
use Rattle.cedar_grammar.specs.Trees.{Label, Forest}
use Rattle.cedar_grammar.specs.KindGrammar.{G}
use Rattle.cedar_grammar.specs.Laws.{AreTokens}
use Rattle.cedar_grammar.specs.Numbers.{is_too_large}
use Rattle.cedar_tokens.specs.TokenKinds.{kind_of}
use Rattle.cedar_grammar.specs.Texts.{greatest_depth, only_tokens, IsAccepted}
use Rattle.cedar_grammar.proofs.Texts.Grammars.{grammars_agree}

pub are_tokens : (us : List (List ℕ)) → AreTokens (λ t. t) (only_tokens us)
are_tokens [] = tt
are_tokens (u ∷ us) = go (is_token u) refl (are_tokens us)
  where
    go : (b : Bool) → is_token u ≡ b → AreTokens (λ t. t) (only_tokens us)
        → AreTokens (λ t. t) (cond b (u ∷ only_tokens us) (only_tokens us))
    go true e h = (e, h)
    go false e h = h

-- the tokens of an accepted text are a list of the grammar over kinds
pub kinds_of : {text : List ℕ} {tree : Forest Label (List ℕ)} (a : IsAccepted text tree)
    → G kind_of greatest_depth tree (only_tokens a.units)
kinds_of {tree = tree} a =
    (grammars_agree (λ t. t) greatest_depth (only_tokens a.units) tree (are_tokens a.units)).0
    a.grammar

-- a text whose tokens are one is accepted
pub is_accepted : (text : List ℕ) (tree : Forest Label (List ℕ)) (units : List (List ℕ))
    → SplitsInto text units → list_any is_too_large units ≡ false
    → G kind_of greatest_depth tree (only_tokens units) → IsAccepted text tree
is_accepted text tree units s f g =
    record {
      units = units;
      split = s;
      fitting = f;
      grammar =
          (grammars_agree (λ t. t) greatest_depth (only_tokens units) tree (are_tokens units)).1 g;
    }
