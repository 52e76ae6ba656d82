-- The test of two kinds.
use Rattle.std.proofs.Common.{◌≡◌, Bool, true, false, refl, sym}
use Rattle.std.specs.Prelude.{not}
use denote.Enum.Bare.{sameb}
use Rattle.cedar_tokens.specs.declared.kind.Kind.{Kind}
use Rattle.cedar_tokens.specs.contracts.kind.Kind.{the_type}
use Rattle.cedar_tokens.specs.Kinds.{is}
use Rattle.cedar_grammar.proofs.KindSets.{every, kinds, every_kind}

abbrev agree : Bool → Bool → Bool
agree true y = y
agree false y = not y

agreed : (x y : Bool) → agree x y ≡ true → x ≡ y
agreed true y h = sym h
agreed false true h = absurd cc
agreed false false h = refl

pub kind_test : (a b : Kind) → sameb the_type a b ≡ is a b
kind_test a b = agreed _ _ (every_kind (λ b. agree (sameb the_type a b) (is a b))
    (every_kind (λ a. every (λ b. agree (sameb the_type a b) (is a b)) kinds) refl a) b)
