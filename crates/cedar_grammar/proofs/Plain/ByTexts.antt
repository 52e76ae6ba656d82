-- Trees without trailing commas, by the texts of tokens and by their kinds.
use Rattle.std.proofs.Common.{◌≡◌, ℕ, Bool, true, false, ◌&&◌, List, refl, ap, sym, ◌∙◌}
use Rattle.std.specs.Prelude.{if◌then◌else◌}
use Rattle.cedar_tokens.specs.PlainList.{is_comma}
use Rattle.cedar_tokens.specs.declared.kind.Kind.{Kind}
use Rattle.cedar_tokens.specs.declared.kind.Kind.TheVariants as K
use Rattle.cedar_tokens.specs.Kinds.{is}
use Rattle.cedar_grammar.specs.Trees.{Label, Forest, none, leaf, branch}
use Rattle.cedar_tokens.specs.TokenKinds.{kind_of}
use Rattle.cedar_grammar.specs.PlainTrees.{closes, plain_trees}
use Rattle.cedar_grammar.specs.TrailingCommas.{drop_if, closes_next, without_trailing}
use Rattle.cedar_grammar.proofs.Texts.Kinds.{comma_agrees, closing_agrees}

module _ {A : Type 0} (text : A → List ℕ) where
  abbrev kind : A → Kind
  kind a = kind_of (text a)

  closes_same : (f : Forest Label A) → closes text f ≡ closes_next kind f
  closes_same none = refl
  closes_same (leaf a f) = sym (closing_agrees (text a))
  closes_same (branch l f g) = refl

  pub plain_same : (f : Forest Label A) → plain_trees text f ≡ without_trailing kind f
  plain_same none = refl
  plain_same (leaf a f) =
      go (is_comma (text a) && closes text f) (plain_same f)
      ∙ ap (λ b. drop_if (b && closes text f) (leaf a (without_trailing kind f))
      (without_trailing kind f)) (sym (comma_agrees (text a)))
      ∙ ap (λ b. drop_if (is K.Comma (kind a) && b) (leaf a (without_trailing kind f))
      (without_trailing kind f)) (closes_same f)
    where
      go : (b : Bool) → plain_trees text f ≡ without_trailing kind f
          → (if b then plain_trees text f else leaf a (plain_trees text f))
          ≡ drop_if b (leaf a (without_trailing kind f)) (without_trailing kind f)
      go true e = e
      go false e = ap (leaf a) e
  plain_same (branch l f g) = ap (λ z. branch l z (plain_trees text g)) (plain_same f)
      ∙ ap (branch l (without_trailing kind f)) (plain_same g)
