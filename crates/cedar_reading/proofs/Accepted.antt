-- Accepted texts, one after the other.
use Rattle.std.proofs.Common.{◌≡◌, ℕ, false, ◌||◌, List, [], ◌∷◌, ◌++◌, take, drop, ap, sym, ◌∙◌, subst}
use Rattle.std.specs.Prelude.{codes}
use Rattle.std.specs.List.{list_any}
use Rattle.std.proofs.lemmas.List.Elements.{filter-append}
use Rattle.std.proofs.lemmas.List.Folds.{list_any-append}
use Rattle.cedar_tokens.specs.Units.{is_token}
use Rattle.cedar_tokens.specs.Split.{SplitsInto}
use Rattle.cedar_tokens.proofs.Scanning.{split_unique}
use Rattle.cedar_grammar.specs.KindGrammar.{G}
use Rattle.cedar_grammar.specs.Numbers.{is_too_large}
use Rattle.cedar_grammar.specs.Texts.{greatest_depth, only_tokens, Accepted}
use Rattle.cedar_tokens.specs.TokenKinds.{kind_of}
use Rattle.cedar_grammar.proofs.Texts.Accepted.{is_accepted, kinds_of}
use Rattle.cedar_reading.specs.Pieces.{IsPiece}
use Rattle.cedar_reading.proofs.Lists.{piece_splits, units_follow}
use Rattle.cedar_reading.proofs.Sequences.{lists_join, no_list}

-- accepted pieces, one after the other, are accepted
pub accepted_join : (text : List ℕ) (n : ℕ) → IsPiece text n → Accepted (take n text)
    → Accepted (drop n text) → Accepted text
accepted_join text n p (f, a) (g, b) =
    let us = p.before ++ (codes ";" ∷ p.line) in
    let same : a.units ≡ us =
    split_unique (take n text) a.units us a.split (piece_splits text n p) in
    let t = lists_join kind_of greatest_depth f g (only_tokens a.units) (only_tokens b.units)
    (kinds_of a) (kinds_of b) in
    let all : only_tokens a.units ++ only_tokens b.units ≡ only_tokens (us ++ b.units) =
    sym (filter-append is_token a.units b.units) ∙ ap (λ z. only_tokens (z ++ b.units)) same in (
      t.0,
      is_accepted text t.0 (us ++ b.units) (units_follow text n b.units p b.split)
          (ap (λ z. list_any is_too_large (z ++ b.units)) (sym same) ∙ (list_any-append is_too_large
          a.units b.units ∙ (ap (λ z. z || list_any is_too_large b.units) a.fitting ∙ b.fitting)))
          (subst (λ z. G kind_of greatest_depth t.0 z) all t.1),
    )

-- a text without tokens is accepted
pub accepted_empty : (text : List ℕ) (us : List (List ℕ)) → SplitsInto text us → only_tokens us ≡ []
    → list_any is_too_large us ≡ false → Accepted text
accepted_empty text us s h k =
    let t = no_list kind_of greatest_depth in
    (t.0, is_accepted text t.0 us s k (subst (λ z. G kind_of greatest_depth t.0 z) (sym h) t.1))
