-- Tests of rules: the next token is enough to decide by.
use Rattle.std.proofs.Common.{◌≡◌, ℕ, zero, suc, ◌+◌, Bool, true, false, ◌||◌, ◌&&◌, not, List, [], ◌∷◌, refl}
use Rattle.std.specs.Prelude.{IsTrue, ℤ}
use Rattle.cedar_tokens.specs.declared.kind.Kind.{Kind}
use Rattle.cedar_tokens.specs.Kinds.{is}
use Rattle.cedar_grammar.specs.Reader.Rules.{expr_first}
use Rattle.cedar_grammar.specs.Reader.Sets.{no_kind, joined}
use Rattle.cedar_grammar.proofs.KindSets.{apart, within}
use Rattle.cedar_grammar.proofs.Rules.Meanings.{expr_clash}
use Rattle.cedar_writer.specs.Rules.{Rule, never, inner, put, token, then, either, star, tail, deeper, lifted, fork, peek}
use Rattle.cedar_writer.specs.Lines as lines
use Rattle.cedar_writer.specs.Writing.{nullable, first}

-- the kinds that may not follow, since the rule would go on
abbrev pub clash : Rule → Kind → Bool
clash never = no_kind
clash inner = expr_clash
clash (put ms) = no_kind
clash (token p v n) = no_kind
clash (then a b) = joined (nullable b) (clash b) (clash a)
clash (either a b) = joined (nullable b) (λ k. clash a k || clash b k) (first a)
clash (star a) = λ k. first a k || clash a k
clash (tail s x y z) = joined (nullable y)
    (joined (nullable z) (λ k. clash y k || clash z k) (λ k. is s k || clash x k)) (first x)
clash (deeper k ms a) = clash a
clash (lifted a) = clash a
clash (fork p m n a b) = joined (nullable b) (λ k. clash a k || clash b k) (first a)
clash (peek q a b) = λ k. clash a k || clash b k

-- the rows have at least so many tokens
abbrev pub least : Rule → ℕ
least (token p v n) = 1
least (then a b) = least a + least b
least (lifted a) = least a
least (fork p m n a b) = 1
least _ = 0

-- so many tokens can be looked at
abbrev pub covers : List (Kind → Bool) → ℕ → Bool
covers [] n = true
covers (p ∷ q) zero = false
covers (p ∷ q) (suc n) = covers q n

abbrev pub decided : Rule → Bool
decided never = true
decided inner = true
decided (put ms) = true
decided (token p v n) = true
decided (then a b) = decided a && (decided b && apart (clash a) (first b))
decided (either a b) = decided a && (decided b && (not (nullable a) && apart (first a) (first b)))
decided (star a) = decided a && (not (nullable a) && apart (clash a) (first a))
decided (tail s x y z) = decided x && (decided y && (decided z &&
    (not (nullable x) && (apart (first x) (first y)
    && (apart (clash x) (is s) && (apart (clash x) (first z) && apart (is s) (first z)))))))
decided (deeper k ms a) = decided a
decided (lifted a) = decided a && not (nullable a)
decided (fork p m n a b) = decided a && (decided b && (not (nullable a) && apart (first a)
    (first b)))
decided (peek q a b) = decided a && (decided b && (covers q (least a) && covers q (least b)))

-- ---- the lines
module _ (i : ℤ) where
  pub expr_decided : IsTrue (decided (lines.expr i))
  expr_decided = refl

  pub policy_decided : IsTrue (decided (lines.policy i))
  policy_decided = refl

  pub expr_begins : IsTrue (within (first (lines.expr i)) expr_first)
  expr_begins = refl

  pub expr_goes_on : IsTrue (within (clash (lines.expr i)) expr_clash)
  expr_goes_on = refl

  pub expr_has_tokens : nullable (lines.expr i) ≡ false
  expr_has_tokens = refl

  -- nothing goes on with a policy
  pub policy_ends : IsTrue (within (clash (lines.policy i)) no_kind)
  policy_ends = refl
