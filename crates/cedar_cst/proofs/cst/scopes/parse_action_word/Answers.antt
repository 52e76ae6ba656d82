use Rattle.std.proofs.Common.{refl, sym}
use Rattle.cedar_tokens.specs.declared.kind.Kind.TheVariants as K
use Rattle.cedar_tokens.specs.Kinds.{is}
use Rattle.cedar_grammar.specs.Trees.{Label, none, leaf}
use Rattle.cedar_grammar.proofs.KindSets.{apart_at}
use Rattle.cedar_grammar.proofs.Readers.Equations.{tree_done}
use Rattle.cedar_reading.proofs.Steps.{word_stands, is_itself}
use Rattle.cedar_cst.proofs.cst.scopes.parse_action_word.Goals as goal

pub returns-clause-reads : goal.returns-clause-reads
returns-clause-reads c =
    let t = c.in_ok-word.word in
    let h = c.in_ok-word.ensures.reads in (
      leaf t none,
      tree_done Label.ident _ _ _ _ h.0,
      word_stands (is K.Action) t c.ident_node.result c.ident_node.ensures
          (is_itself K.Action t.kind (sym h.1)) (λ k i. (
            apart_at (is K.Action) (is K.Comma) refl k i,
            apart_at (is K.Action) (is K.Number) refl k i,
          )),
    )
