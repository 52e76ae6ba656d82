use Rattle.std.proofs.Common.{refl, sym}
use Rattle.cedar_tokens.specs.declared.kind.Kind.TheVariants as K
use Rattle.cedar_grammar.specs.Trees.{Label}
use Rattle.cedar_grammar.proofs.Readers.Equations.{tree_done}
use Rattle.cedar_reading.proofs.Rows.{row_node, row_parts, row_span}
use Rattle.cedar_reading.proofs.Operands.{row_own}
use Rattle.cedar_reading.proofs.literals.parse_text.Goals as goal

pub returns-clause-reads : goal.returns-clause-reads
returns-clause-reads c =
    let s = c.in_ok-string.string in
    let h = c.in_ok-string.ensures.reads in
    let l = c.literal_primary.ensures in (
      _,
      tree_done Label.primary _ _ _ _ (tree_done Label.string _ _ _ _ h.0),
      row_span _ _ _ _ (sym l.1) (row_parts _ _ _ _ l.0
          (row_node Label.string _ _ _ refl (row_own s K.Str h.1 refl refl))),
    )
