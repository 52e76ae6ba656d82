-- The rules mean the lines of the grammar, and pass the tests that the laws need.
use Rattle.std.specs.Prelude.{◌≡◌, ℕ, Bool, true, false, IsTrue}
use Rattle.std.proofs.Common.{refl}
use Rattle.cedar_tokens.specs.declared.kind.Kind.{Kind}
use Rattle.cedar_grammar.proofs.KindSets.{within}
use Rattle.cedar_grammar.specs.Languages.{Lang}
use Rattle.cedar_grammar.specs.KindGrammar as G
use Rattle.cedar_grammar.specs.Reader.Rules.{core, first, expr_first}
use Rattle.cedar_grammar.proofs.Rules.Meanings.{means, decided, closes, has, covered, clash, expr_clash}
use Rattle.cedar_grammar.specs.Reader.Lines.{expr_rule, set_rule}

-- The rules mean the lines of the grammar.
module _ {A : Type 0} (kind : A → Kind) where
  pub expr_means : (room : Bool) (E : Lang A)
      → ◌≡◌ {A = Lang A} (means kind room E expr_rule) (G.ExprIn kind room E)
  expr_means room E = refl

  pub set_means : (room : Bool) (d : ℕ)
      → ◌≡◌ {A = Lang A} (means kind room (G.Expr kind d) set_rule) (G.PolicySet kind d)
  set_means room d = refl

-- One token is enough to read by.
pub expr_decided : IsTrue (decided (core expr_rule))
expr_decided = refl

pub set_decided : IsTrue (decided (core set_rule))
set_decided = refl

pub expr_begins : IsTrue (within (first (core expr_rule)) expr_first)
expr_begins = refl

pub expr_goes_on : IsTrue (within (clash (core expr_rule)) expr_clash)
expr_goes_on = refl

pub expr_closes : IsTrue (closes false (core expr_rule))
expr_closes = refl

pub expr_has : IsTrue (has false (core expr_rule))
expr_has = refl

pub expr_covered : IsTrue (covered (core expr_rule))
expr_covered = refl

pub set_closes : IsTrue (closes true (core set_rule))
set_closes = refl

pub set_has : IsTrue (has true (core set_rule))
set_has = refl
