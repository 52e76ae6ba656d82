use Rattle.std.proofs.Common.{ap, ◌∙◌}
use Rattle.cedar_tokens.specs.declared.kind.Kind.TheVariants as K
use Rattle.cedar_tokens.specs.Kinds.{is}
use Rattle.cedar_grammar.specs.Trees.{none, leaf}
use Rattle.cedar_grammar.specs.Reader.Reading.{Reader}
use Rattle.cedar_grammar.specs.Reader.Rules.{word_of, entity}
use Rattle.cedar_grammar.specs.Reader.Lines.{◌∥◌, operand}
use Rattle.cedar_grammar.proofs.Readers.Equations.{onto}
use Rattle.cedar_reading.specs.Reading.{flat}
use Rattle.cedar_reading.specs.ReadingParts.{entity_list}
use Rattle.cedar_reading.specs.declared.lexeme.Lexeme.{Lexeme}
use Rattle.cedar_reading.proofs.Steps.{passes}
use Rattle.cedar_reading.proofs.Refusals.{refused}
use Rattle.cedar_reading.proofs.Variables.{acted, acted_equal, acted_in, acted_none, variable_done, variable_fails, variable_alone, variable_equal, variable_in}
use Rattle.cedar_cst.proofs.cst.scopes.parse_action.Goals as goal

abbrev W : Reader Lexeme
W = flat (word_of (is K.Action))

abbrev E : Reader Lexeme
E = flat (operand entity)

abbrev L : Reader Lexeme
L = flat (operand entity_list ∥ operand entity)

pub returns-in_err-entity-clause-reads : goal.returns-in_err-entity-clause-reads
returns-in_err-entity-clause-reads c =
    let h = c.in_ok-variable.ensures.reads in
    let d = c.in-Some.ensures.token in
    rw (refused c.from_residual-in_err-entity.ensures.1)
    (passes _ _ _ c.in_err-entity.ensures.reads (λ x r e. variable_fails W
    (acted E L) _ h.0 _ x r h.1 (acted_equal E L _ d.0 _ d.1 d.2 ∙ ap (onto (leaf d.0 none)) e)))

pub returns-in-Some-clause-reads : goal.returns-in-Some-clause-reads
returns-in-Some-clause-reads c =
    let h = c.in_ok-variable.ensures.reads in
    let d = c.in-Some.ensures.token in
    let k = c.in_ok-entity.ensures.reads in (
      _,
      variable_done W (acted E L) _ h.0 _ _ _ h.1
          (acted_equal E L _ d.0 _ d.1 d.2 ∙ ap (onto (leaf d.0 none)) k.1),
      variable_equal c.in_ok-variable.variable c.in_ok-entity.entity c.variable_node.result h.0 k.0
          d.0 d.2 c.variable_node.ensures h.2 k.2,
    )

pub returns-in_err-entities-clause-reads : goal.returns-in_err-entities-clause-reads
returns-in_err-entities-clause-reads c =
    let h = c.in_ok-variable.ensures.reads in
    let d = c.in-Some-past.ensures.token in
    rw (refused c.from_residual-in_err-entities.ensures.1)
    (passes _ _ _ c.in_err-entities.ensures.reads (λ x r e. variable_fails W
    (acted E L) _ h.0 _ x r h.1 (acted_in E L _ d.0 _ d.1 d.2 ∙ ap (onto (leaf d.0 none)) e)))

pub returns-in-Some-past-clause-reads : goal.returns-in-Some-past-clause-reads
returns-in-Some-past-clause-reads c =
    let h = c.in_ok-variable.ensures.reads in
    let d = c.in-Some-past.ensures.token in
    let k = c.in_ok-entities.ensures.reads in (
      _,
      variable_done W (acted E L) _ h.0 _ _ _ h.1
          (acted_in E L _ d.0 _ d.1 d.2 ∙ ap (onto (leaf d.0 none)) k.1),
      variable_in c.in_ok-variable.variable c.in_ok-entities.entities
          c.variable_node-in-Some-past.result h.0 k.0 d.0 d.2 c.variable_node-in-Some-past.ensures
          h.2 k.2,
    )

pub returns-clause-reads : goal.returns-clause-reads
returns-clause-reads c =
    let h = c.in_ok-variable.ensures.reads in (
      _,
      variable_done W (acted E L) _ h.0 _ _ _ h.1
          (acted_none E L _ c.in_default.ensures.token c.in_default-past.ensures.token),
      variable_alone c.in_ok-variable.variable c.variable_node-2.result h.0
          c.variable_node-2.ensures h.2,
    )
