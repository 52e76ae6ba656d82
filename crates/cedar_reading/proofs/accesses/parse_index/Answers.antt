use Rattle.std.proofs.Common.{refl}
use Rattle.cedar_tokens.specs.declared.kind.Kind.TheVariants as K
use Rattle.cedar_grammar.specs.Trees.{Label, leaf, branch, none}
use Rattle.cedar_grammar.proofs.Readers.Equations.{tree_done, both_done}
use Rattle.cedar_reading.proofs.Refusals.{refused, in_tree, in_first, in_second}
use Rattle.cedar_reading.proofs.Rows.{row_more, row_nodes, row_token}
use Rattle.cedar_reading.proofs.accesses.parse_index.Goals as goal

pub returns-in_err-string-clause-reads : goal.returns-in_err-string-clause-reads
returns-in_err-string-clause-reads c =
    rw (refused c.from_residual-in_err-string.ensures.1) (in_tree _ _ _ _ (in_second _ _ _ _ _ _
    c.in_ok-open.ensures.reads.0 (in_first _ _ _ _ c.in_err-string.ensures.reads)))

pub returns-in_err-close-clause-reads : goal.returns-in_err-close-clause-reads
returns-in_err-close-clause-reads c = rw (refused c.from_residual-in_err-close.ensures.1)
    (in_tree _ _ _ _ (in_second _ _ _ _ _ _ c.in_ok-open.ensures.reads.0
    (in_second _ _ _ _ _ _ c.in_ok-string.ensures.reads.1 c.in_err-close.ensures.reads)))

pub returns-clause-reads : goal.returns-clause-reads
returns-clause-reads c =
    let o = c.in_ok-open.ensures.reads in
    let h = c.in_ok-string.ensures.reads in
    let z = c.in_ok-close.ensures.reads in (
      leaf c.in_ok-open.open (branch Label.str h.0 (leaf c.in_ok-close.close none)),
      tree_done Label.access _ _ _ _
          (both_done _ _ _ _ _ _ _ o.0 (both_done _ _ _ _ _ _ _ h.1 z.0)),
      row_more _ K.LBracket _ _ _ o.1 refl refl
          (row_nodes Label.str _ _ _ _ _ _ refl h.2 (row_token _ K.RBracket z.1 refl refl)),
    )
