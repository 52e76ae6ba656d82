use Rattle.std.proofs.Common.{suc, refl, sym, ◌∙◌, arith}
use Rattle.cedar_tokens.specs.Kinds.{begins, is_cond_word}
use Rattle.cedar_grammar.specs.Texts.{greatest_depth}
use Rattle.cedar_grammar.specs.Trees.{Label}
use Rattle.cedar_grammar.specs.Reader.Reading.{Reader}
use Rattle.cedar_grammar.specs.Reader.Lines.{cond_rule}
use Rattle.cedar_grammar.proofs.Readers.Equations.{read_end, read_fails}
use Rattle.cedar_reading.specs.Reading.{kind}
use Rattle.cedar_cst.specs.ReadingExprs.{at_depth}
use Rattle.cedar_reading.specs.declared.lexeme.Lexeme.{Lexeme}
use Rattle.cedar_reading.proofs.Steps.{passes}
use Rattle.cedar_reading.proofs.Refusals.{refused}
use Rattle.cedar_reading.proofs.Operands.{keep_done, keep_fails, keep_shorter}
use Rattle.cedar_reading.proofs.Manys.{many_first, many_next}
use Rattle.cedar_cst.proofs.Depths.{depth_takes}
use Rattle.cedar_cst.proofs.cst.policies.parse_conds.Goals as goal
use Rattle.cedar_grammar.specs.Erased.{cond_parts}

abbrev P : Reader Lexeme
P = at_depth (suc greatest_depth) cond_rule

pub conds-init : goal.conds-init
conds-init c = (
  omega arith,
  many_first Label.condition cond_parts (begins kind is_cond_word) P _ _ c.new-conds.ensures.items,
)

pub conds-preserved : goal.conds-preserved
conds-preserved c =
    let i = c.conds.invariant in
    let k = keep_done Label.condition cond_parts c.parse_cond.result _ _ c.keep.new.rest
    c.in_ok-keep.field-0 _ c.parse_cond.ensures.reads c.in_ok-keep.ensures in
    let s = keep_shorter c.parse_cond.result _ _ c.keep.new.rest c.in_ok-keep.field-0 _
    c.parse_cond.ensures.shorter c.in_ok-keep.ensures in (
      omega (arith, s, i.0),
      many_next Label.condition cond_parts (begins kind is_cond_word) P refl
          (depth_takes (suc greatest_depth) cond_rule refl refl) _ _ _ _ _ k.0 k.1 i.1
          (sym c.begins_cond.ensures ∙ c.conds-test.true) k.2 k.3 k.4,
    )

pub returns-in_err-keep-clause-reads : goal.returns-in_err-keep-clause-reads
returns-in_err-keep-clause-reads c =
    rw (refused c.from_residual.ensures.1) (passes _ _ _ (keep_fails Label.condition cond_parts
    c.parse_cond.result _ _ _ _ _ c.parse_cond.ensures.reads c.in_err-keep.ensures)
    (λ x r e. read_fails (begins kind is_cond_word) P _ _ _ x r c.conds.invariant.1.read
    (sym c.begins_cond.ensures ∙ c.conds-test.true) e))

pub returns-clause-reads : goal.returns-clause-reads
returns-clause-reads c =
    let i = c.conds.invariant.1 in (
      i.row,
      read_end (begins kind is_cond_word) P _ _ _ i.read
          (sym c.begins_cond.ensures ∙ c.conds-test.false),
      i.stands,
    )
