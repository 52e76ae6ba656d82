use Rattle.std.proofs.Common.{sym, subst, ◌∙◌}
use Rattle.cedar_grammar.specs.Trees.{Label}
use Rattle.cedar_grammar.proofs.Readers.Equations.{choice_yes, choice_no, tree_done}
use Rattle.cedar_grammar.specs.Erased.{primary_parts}
use Rattle.cedar_reading.specs.Reading.{IsNameOf}
use Rattle.cedar_reading.proofs.Steps.{gives_as}
use Rattle.cedar_reading.proofs.Refusals.{refused, in_tree, in_chosen}
use Rattle.cedar_reading.proofs.Operands.{lone_name}
use Rattle.cedar_reading.proofs.names.parse_key.Goals as goal

pub returns-in_err-word-clause-reads : goal.returns-in_err-word-clause-reads
returns-in_err-word-clause-reads c = rw (refused c.from_residual.ensures.1)
    (in_chosen _ _ _ _ _ (sym c.begins_identifier.ensures ∙ c.if-begins_identifier.true)
    (in_tree _ _ _ _ (in_tree _ _ _ _ c.in_err-word.ensures.reads)))

pub returns-then-begins_identifier-clause-reads : goal.returns-then-begins_identifier-clause-reads
returns-then-begins_identifier-clause-reads c =
    let h = c.in_ok-word.ensures.reads in (
      _,
      choice_yes _ _ _ _ (sym c.begins_identifier.ensures ∙ c.if-begins_identifier.true)
          ∙ tree_done Label.primary _ _ _ _ (tree_done Label.name _ _ _ _ h.1),
      lone_name c.in_ok-word.word c.name_node.result c.name_primary.result h.0 h.2
          (subst (λ z. IsNameOf z c.in_ok-word.word c.name_node.result) c.new.ensures.items
          c.name_node.ensures) c.name_primary.ensures,
    )

pub returns-clause-reads : goal.returns-clause-reads
returns-clause-reads c =
    gives_as Label.primary primary_parts c.parse_text.result _ _ c.parse_text.ensures.reads
    (choice_no _ _ _ _ (sym c.begins_identifier.ensures ∙ c.if-begins_identifier.false))
