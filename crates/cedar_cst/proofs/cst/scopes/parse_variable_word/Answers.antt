use Rattle.std.proofs.Common.{◌≡◌, subst, sym}
use Rattle.cedar_tokens.specs.Kinds.{is}
use Rattle.cedar_grammar.specs.Trees.{Label, none, leaf}
use Rattle.cedar_grammar.specs.Reader.Reading.{done, one}
use Rattle.cedar_grammar.proofs.Readers.Equations.{tree_done}
use Rattle.cedar_reading.specs.Reading.{kind}
use Rattle.cedar_reading.specs.ReadingParts.{variable_kind}
use Rattle.cedar_reading.proofs.Steps.{word_stands, is_itself}
use Rattle.cedar_reading.proofs.Variables.{variables_apart}
use Rattle.cedar_cst.proofs.cst.scopes.parse_variable_word.Goals as goal

pub returns-clause-reads : goal.returns-clause-reads
returns-clause-reads c =
    let t = c.in_ok-word.word in
    let h = subst (λ z. (one kind z c.args.tokens.now ≡ done (leaf t none) c.in_ok-word.rest.now)
    × (t.kind ≡ z)) c.variable_kind.ensures c.in_ok-word.ensures.reads in (
      leaf t none,
      tree_done Label.ident _ _ _ _ h.0,
      word_stands (is (variable_kind c.args.slot)) t c.ident_node.result c.ident_node.ensures
          (is_itself (variable_kind c.args.slot) t.kind (sym h.1)) (variables_apart c.args.slot),
    )
