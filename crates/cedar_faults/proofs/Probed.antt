-- What holds of the tokens of a text.
use Rattle.std.specs.Prelude.{◌≡◌, ℕ, List}
use Rattle.std.specs.List.{filter}
use Rattle.std.proofs.Common.{sym, subst}
use Rattle.cedar_tokens.specs.Split.{SplitsInto}
use Rattle.cedar_tokens.proofs.Scanning.{split_unique}
use Rattle.cedar_tokens.specs.declared.kind.Kind.{Kind}
use Rattle.cedar_grammar.specs.Texts.{only_tokens}
use Rattle.cedar_faults.specs.Expectations.{AreAllAfter}
use Rattle.cedar_faults.specs.Inside.TokenBeginnings.{OfTokens, KindsFollow}
use Rattle.cedar_faults.specs.Samples.{all_kinds}
use Rattle.cedar_faults.proofs.Following.{follows, all_after}

-- what holds of the tokens of a text holds of those of its units
pub of_units : (text : List ℕ) (us : List (List ℕ)) (P : List (List ℕ) → Type 0)
    → SplitsInto text us → OfTokens text P → P (only_tokens us)
of_units text us P s (vs, r, x) = subst (λ z. P (only_tokens z)) (split_unique text vs us r s) x

pub kinds_follow : (text : List ℕ) (us : List (List ℕ)) (kinds : List Kind) → SplitsInto text us
    → kinds ≡ filter (follows us) all_kinds → KindsFollow text kinds
kinds_follow text us ks s e =
    (us, s, subst (λ z. AreAllAfter (only_tokens us) z) (sym e) (all_after us))
