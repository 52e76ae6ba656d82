use Rattle.std.proofs.Common.{ap, ◌∙◌}
use Rattle.cedar_tokens.specs.Kinds.{is}
use Rattle.cedar_grammar.specs.Trees.{Label, none, leaf, branch}
use Rattle.cedar_grammar.specs.Reader.Reading.{Reader}
use Rattle.cedar_grammar.specs.Reader.Rules.{word_of}
use Rattle.cedar_grammar.specs.Reader.Lines.{path, entity_or}
use Rattle.cedar_grammar.proofs.Readers.Equations.{onto, both_fails}
use Rattle.cedar_reading.specs.Reading.{flat}
use Rattle.cedar_reading.specs.ReadingParts.{slot_kind, variable_kind}
use Rattle.cedar_reading.specs.declared.lexeme.Lexeme.{Lexeme}
use Rattle.cedar_grammar.specs.declared.tree.Slot.{Slot}
use Rattle.cedar_reading.proofs.Steps.{passes}
use Rattle.cedar_reading.proofs.Refusals.{refused}
use Rattle.cedar_reading.proofs.Variables.{related, equal_reads, type_reads, typed_reads, member_reads, none_reads, in_reads, in_none, variable_done, variable_fails, variable_alone, variable_equal, variable_in, variable_is, variable_is_in}
use Rattle.cedar_cst.proofs.cst.scopes.parse_variable.Goals as goal

abbrev W : Slot → Reader Lexeme
W s = flat (word_of (is (variable_kind s)))

abbrev E : Slot → Reader Lexeme
E s = flat (entity_or (slot_kind s))

abbrev P : Reader Lexeme
P = flat path

pub returns-in_err-entity-clause-reads : goal.returns-in_err-entity-clause-reads
returns-in_err-entity-clause-reads c =
    let s = c.args.slot in
    let h = c.in_ok-variable.ensures.reads in
    let d = c.in-Some.ensures.token in
    rw (refused c.from_residual-in_err-entity.ensures.1)
    (passes _ _ _ c.in_err-entity.ensures.reads (λ x r e. variable_fails (W s) (related (E s) P) _
    h.0 _ x r h.1 (equal_reads (E s) P _ d.0 _ d.1 d.2 ∙ ap (onto (leaf d.0 none)) e)))

pub returns-in-Some-clause-reads : goal.returns-in-Some-clause-reads
returns-in-Some-clause-reads c =
    let s = c.args.slot in
    let h = c.in_ok-variable.ensures.reads in
    let d = c.in-Some.ensures.token in
    let k = c.in_ok-entity.ensures.reads in (
      _,
      variable_done (W s) (related (E s) P) _ h.0 _ _ _ h.1
          (equal_reads (E s) P _ d.0 _ d.1 d.2 ∙ ap (onto (leaf d.0 none)) k.1),
      variable_equal c.in_ok-variable.variable c.in_ok-entity.entity c.variable_node.result h.0 k.0
          d.0 d.2 c.variable_node.ensures h.2 k.2,
    )

pub returns-in_err-entity_type-clause-reads : goal.returns-in_err-entity_type-clause-reads
returns-in_err-entity_type-clause-reads c =
    let s = c.args.slot in
    let h = c.in_ok-variable.ensures.reads in
    let d = c.in-Some-past.ensures.token in
    rw (refused c.from_residual-in_err-entity_type.ensures.1) (passes _ _ _
    c.in_err-entity_type.ensures.reads (λ x r e. variable_fails (W s) (related (E s) P) _ h.0 _ x r
    h.1 (type_reads (E s) P _ d.0 _ d.1 d.2 ∙ ap (onto (leaf d.0 none)) (both_fails P _ _ x r e))))

pub returns-in_err-entity-2-clause-reads : goal.returns-in_err-entity-2-clause-reads
returns-in_err-entity-2-clause-reads c =
    let s = c.args.slot in
    let h = c.in_ok-variable.ensures.reads in
    let d = c.in-Some-past.ensures.token in
    let j = c.in_ok-entity_type.ensures.reads in
    let m = c.in-Some-past-2.ensures.token in
    rw (refused c.from_residual-in_err-entity-2.ensures.1) (passes _ _ _
    c.in_err-entity-2.ensures.reads (λ x r e. variable_fails (W s) (related (E s) P) _ h.0 _ x r h.1
    (typed_reads (E s) P _ d.0 _ _ _ d.1 d.2 j.1 ∙ ap (onto (leaf d.0 (branch Label.name j.0 none)))
    (in_reads (E s) P _ m.0 _ m.1 m.2 ∙ ap (onto (leaf m.0 none)) e))))

pub returns-in-Some-past-2-clause-reads : goal.returns-in-Some-past-2-clause-reads
returns-in-Some-past-2-clause-reads c =
    let s = c.args.slot in
    let h = c.in_ok-variable.ensures.reads in
    let d = c.in-Some-past.ensures.token in
    let j = c.in_ok-entity_type.ensures.reads in
    let m = c.in-Some-past-2.ensures.token in
    let k = c.in_ok-entity-2.ensures.reads in (
      _,
      variable_done (W s) (related (E s) P) _ h.0 _ _ _ h.1
          (typed_reads (E s) P _ d.0 _ _ _ d.1 d.2 j.1
          ∙ ap (onto (leaf d.0 (branch Label.name j.0 none))) (in_reads (E s) P _ m.0 _ m.1 m.2
          ∙ ap (onto (leaf m.0 none)) k.1)),
      variable_is_in c.in_ok-variable.variable c.in_ok-entity_type.entity_type
          c.in_ok-entity-2.entity c.variable_node-in-Some-past-2.result h.0 j.0 k.0 d.0 m.0 d.2 m.2
          c.variable_node-in-Some-past-2.ensures h.2 j.2 k.2,
    )

pub returns-in-Some-past-clause-reads : goal.returns-in-Some-past-clause-reads
returns-in-Some-past-clause-reads c =
    let s = c.args.slot in
    let h = c.in_ok-variable.ensures.reads in
    let d = c.in-Some-past.ensures.token in
    let j = c.in_ok-entity_type.ensures.reads in (
      _,
      variable_done (W s) (related (E s) P) _ h.0 _ _ _ h.1
          (typed_reads (E s) P _ d.0 _ _ _ d.1 d.2 j.1 ∙ ap (onto (leaf d.0
          (branch Label.name j.0 none))) (in_none (E s) P _ c.in_default-past-2.ensures.token)),
      variable_is c.in_ok-variable.variable c.in_ok-entity_type.entity_type
          c.variable_node-in-Some-past.result h.0 j.0 d.0 d.2 c.variable_node-in-Some-past.ensures
          h.2 j.2,
    )

pub returns-in_err-entity-3-clause-reads : goal.returns-in_err-entity-3-clause-reads
returns-in_err-entity-3-clause-reads c =
    let s = c.args.slot in
    let h = c.in_ok-variable.ensures.reads in
    let d = c.in-Some-past-3.ensures.token in
    rw (refused c.from_residual-in_err-entity-3.ensures.1)
    (passes _ _ _ c.in_err-entity-3.ensures.reads (λ x r e. variable_fails (W s) (related (E s) P) _
    h.0 _ x r h.1 (member_reads (E s) P _ d.0 _ d.1 d.2 ∙ ap (onto (leaf d.0 none)) e)))

pub returns-in-Some-past-3-clause-reads : goal.returns-in-Some-past-3-clause-reads
returns-in-Some-past-3-clause-reads c =
    let s = c.args.slot in
    let h = c.in_ok-variable.ensures.reads in
    let d = c.in-Some-past-3.ensures.token in
    let k = c.in_ok-entity-3.ensures.reads in (
      _,
      variable_done (W s) (related (E s) P) _ h.0 _ _ _ h.1
          (member_reads (E s) P _ d.0 _ d.1 d.2 ∙ ap (onto (leaf d.0 none)) k.1),
      variable_in c.in_ok-variable.variable c.in_ok-entity-3.entity
          c.variable_node-in-Some-past-3.result h.0 k.0 d.0 d.2
          c.variable_node-in-Some-past-3.ensures h.2 k.2,
    )

pub returns-clause-reads : goal.returns-clause-reads
returns-clause-reads c =
    let s = c.args.slot in
    let h = c.in_ok-variable.ensures.reads in (
      _,
      variable_done (W s) (related (E s) P) _ h.0 _ _ _ h.1
          (none_reads (E s) P _ c.in_default.ensures.token c.in_default-past.ensures.token
          c.in_default-past-3.ensures.token),
      variable_alone c.in_ok-variable.variable c.variable_node-2.result h.0
          c.variable_node-2.ensures h.2,
    )
