use Rattle.std.proofs.Common.{refl, sym, ◌∙◌, arith}
use Rattle.cedar_tokens.specs.declared.kind.Kind.TheVariants as K
use Rattle.cedar_tokens.specs.Kinds.{is, begins}
use Rattle.cedar_grammar.specs.Trees.{Label}
use Rattle.cedar_grammar.specs.Reader.Lines.{annotation_rule}
use Rattle.cedar_grammar.proofs.Readers.Equations.{read_end, read_fails}
use Rattle.cedar_reading.specs.Reading.{kind, flat}
use Rattle.cedar_reading.proofs.Steps.{passes}
use Rattle.cedar_reading.proofs.Refusals.{refused}
use Rattle.cedar_reading.proofs.Operands.{keep_done, keep_fails, keep_shorter}
use Rattle.cedar_reading.proofs.Manys.{flat_takes, many_first, many_next}
use Rattle.cedar_cst.proofs.cst.policies.parse_annotations.Goals as goal
use Rattle.cedar_grammar.specs.Erased.{annotation_parts}

pub annotations-init : goal.annotations-init
annotations-init c = (
  omega arith,
  many_first Label.annotation annotation_parts (begins kind (is K.At))
      (flat annotation_rule) _ _ c.new-annotations.ensures.items,
)

pub annotations-preserved : goal.annotations-preserved
annotations-preserved c =
    let i = c.annotations.invariant in
    let k = keep_done Label.annotation annotation_parts c.parse_annotation.result _ _
    c.keep.new.rest c.in_ok-keep.field-0 _ c.parse_annotation.ensures.reads c.in_ok-keep.ensures in
    let s = keep_shorter c.parse_annotation.result _ _ c.keep.new.rest c.in_ok-keep.field-0 _
    c.parse_annotation.ensures.shorter c.in_ok-keep.ensures in (
      omega (arith, s, i.0),
      many_next Label.annotation annotation_parts (begins kind (is K.At))
          (flat annotation_rule) refl (flat_takes annotation_rule refl refl) _ _ _ _ _ k.0 k.1 i.1
          (sym c.begins.ensures ∙ c.annotations-test.true) k.2 k.3 k.4,
    )

pub returns-in_err-keep-clause-reads : goal.returns-in_err-keep-clause-reads
returns-in_err-keep-clause-reads c =
    rw (refused c.from_residual.ensures.1)
    (passes _ _ _ (keep_fails Label.annotation annotation_parts c.parse_annotation.result _ _ _ _ _
    c.parse_annotation.ensures.reads c.in_err-keep.ensures)
    (λ x r e. read_fails (begins kind (is K.At)) (flat annotation_rule) _ _ _ x r
    c.annotations.invariant.1.read (sym c.begins.ensures ∙ c.annotations-test.true) e))

pub returns-clause-reads : goal.returns-clause-reads
returns-clause-reads c =
    let i = c.annotations.invariant.1 in (
      i.row,
      read_end (begins kind (is K.At)) (flat annotation_rule) _ _ _ i.read
          (sym c.begins.ensures ∙ c.annotations-test.false),
      i.stands,
    )
