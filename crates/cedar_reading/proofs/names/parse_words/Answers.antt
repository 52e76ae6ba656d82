use Rattle.std.proofs.Common.{sym, ◌∙◌, arith}
use Rattle.cedar_grammar.proofs.Readers.Equations.{both_fails}
use Rattle.cedar_reading.specs.ReadingParts.{ident_reader, words_on, words_then}
use Rattle.cedar_reading.proofs.Steps.{passes}
use Rattle.cedar_reading.proofs.Refusals.{refused}
use Rattle.cedar_reading.proofs.Paths.{name_stands}
use Rattle.cedar_reading.proofs.Entities.{words_first, words_next, words_stuck, text_fails, words_text, words_end}
use Rattle.cedar_reading.proofs.names.parse_words.Goals as goal

pub words-init : goal.words-init
words-init c =
    let h = c.in_ok-name.ensures.reads in
    (c.in_ok-name.ensures.shorter, rw c.new-path.ensures.items (words_first _ _ _ h.0 h.1 h.2))

pub words-preserved : goal.words-preserved
words-preserved c =
    let i = c.words.invariant in
    let d = c.in-Some.ensures.token in
    let h = c.in_ok-next.ensures.reads in
    let a = c.in_ok-next.ensures.shorter in
    let b = c.in-Some.ensures.shorter in (
      omega (arith, i.0, a, b),
      words_next _ _ _ _ _ _ _ _ d.0 h.0 i.1 d.1 d.2 h.1 h.2 c.in_ok-push.ensures.items,
    )

pub returns-in_err-name-clause-reads : goal.returns-in_err-name-clause-reads
returns-in_err-name-clause-reads c =
    rw (refused c.from_residual.ensures.1) (λ Z. passes _ _ (words_then Z c.args.tokens.now)
    c.in_err-name.ensures.reads (both_fails ident_reader (words_on Z) _))

pub returns-in_err-eid-clause-reads : goal.returns-in_err-eid-clause-reads
returns-in_err-eid-clause-reads c =
    let d = c.in-Some.ensures.token in
    rw (refused c.from_residual-in_err-eid.ensures.1)
    (λ Z. passes _ _ (words_then Z c.args.tokens.now) c.in_err-eid.ensures.reads
    (λ x r e. text_fails _ _ _ _ _ d.0 Z x r c.words.invariant.1 d.1 d.2
    (sym c.begins.ensures ∙ c.if-begins.true) e))

pub returns-then-begins-clause-reads : goal.returns-then-begins-clause-reads
returns-then-begins-clause-reads c =
    let i = c.words.invariant.1 in
    let d = c.in-Some.ensures.token in
    let h = c.in_ok-eid.ensures.reads in (
      i.row,
      i.gathers,
      name_stands _ _ c.name_node.result _ c.name_node.ensures i.stands,
      words_text _ _ _ _ _ _ d.0 c.name_node.result c.in_ok-eid.eid h.0 i d.1 d.2
          (sym c.begins.ensures ∙ c.if-begins.true) h.1 h.2,
    )

pub returns-in_err-next-clause-reads : goal.returns-in_err-next-clause-reads
returns-in_err-next-clause-reads c =
    let d = c.in-Some.ensures.token in
    rw (refused c.from_residual-in_err-next.ensures.1)
    (λ Z. passes _ _ (words_then Z c.args.tokens.now) c.in_err-next.ensures.reads
    (λ x r e. words_stuck _ _ _ _ _ d.0 Z x r c.words.invariant.1 d.1 d.2
    (sym c.begins.ensures ∙ c.if-begins.false) e))

pub returns-clause-reads : goal.returns-clause-reads
returns-clause-reads c =
    let i = c.words.invariant.1 in (
      i.row,
      i.gathers,
      name_stands _ _ c.name_node-2.result _ c.name_node-2.ensures i.stands,
      words_end _ _ _ _ c.name_node-2.result i c.in_default.ensures.token c.name_node-2.ensures.0,
    )
