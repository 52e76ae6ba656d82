use Rattle.std.proofs.Common.{refl}
use Rattle.cedar_tokens.specs.declared.kind.Kind.TheVariants as K
use Rattle.cedar_grammar.specs.Trees.{Label, leaf, branch, none}
use Rattle.cedar_grammar.proofs.Readers.Equations.{tree_done, both_done}
use Rattle.cedar_reading.proofs.Rows.{row_more, row_node}
use Rattle.cedar_reading.proofs.Refusals.{refused, in_tree, in_second}
use Rattle.cedar_reading.proofs.accesses.parse_field.Goals as goal

pub returns-in_err-field-clause-reads : goal.returns-in_err-field-clause-reads
returns-in_err-field-clause-reads c = rw (refused c.from_residual-in_err-field.ensures.1) (in_tree _
    _ _ _ (in_second _ _ _ _ _ _ c.in_ok-dot.ensures.reads.0 c.in_err-field.ensures.reads))

pub returns-clause-reads : goal.returns-clause-reads
returns-clause-reads c =
    let d = c.in_ok-dot.ensures.reads in
    let h = c.in_ok-field.ensures.reads in (
      leaf c.in_ok-dot.dot (branch Label.ident h.0 none),
      tree_done Label.access _ _ _ _ (both_done _ _ _ _ _ _ _ d.0 h.1),
      row_more _ K.Dot _ _ _ d.1 refl refl (row_node Label.ident _ _ _ refl h.2),
    )
