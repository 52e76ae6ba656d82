-- Readers of rules, given how many brackets and ifs may still be nested.
use Rattle.std.specs.Prelude.{◌≡◌, ℕ, zero, suc, true, false, IsTrue, List}
use Rattle.std.proofs.Common.{refl}
use Rattle.cedar_grammar.specs.KindGrammar as G
use Rattle.cedar_grammar.specs.Reader.Reading.{too_deep}
use Rattle.cedar_grammar.specs.Reader.Rules.{Rule, core, nullable}
use Rattle.cedar_grammar.specs.Reader.Lines.{expr_rule, expr_to}
use Rattle.cedar_grammar.proofs.Readers.Equations.{Takes}
use Rattle.cedar_grammar.proofs.Rules.Meanings.{decided}
use Rattle.cedar_grammar.proofs.Rules.Languages.{read_takes}
use Rattle.cedar_grammar.proofs.WholeLaws.{expr_fits}
use Rattle.cedar_reading.specs.Reading.{kind}
use Rattle.cedar_cst.specs.ReadingExprs.{at_depth}
use Rattle.cedar_reading.specs.declared.lexeme.Lexeme.{Lexeme}

pub depth_takes : (d : ℕ) (R : Rule) → IsTrue (decided (core R)) → nullable (core R) ≡ false
    → Takes (at_depth d R)
depth_takes zero R d n = read_takes kind false too_deep (λ f. ⊥) (λ f x. absurd x)
    (λ ts f r e. absurd cc) (λ f r x s. absurd x) (core R) d n
depth_takes (suc m) R d n =
    let h = expr_fits kind m in
    read_takes kind true (expr_to kind m) (G.Expr kind m) h.begun h.sound h.complete (core R) d n

pub expr_at : (d : ℕ) (ts : List Lexeme) → expr_to kind d ts ≡ at_depth d expr_rule ts
expr_at zero ts = refl
expr_at (suc d) ts = refl
