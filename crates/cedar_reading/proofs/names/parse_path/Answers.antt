use Rattle.std.proofs.Common.{arith}
use Rattle.cedar_grammar.specs.Trees.{Label}
use Rattle.cedar_reading.proofs.Steps.{passes}
use Rattle.cedar_reading.proofs.Refusals.{refused}
use Rattle.cedar_reading.proofs.Rows.{chain_end}
use Rattle.cedar_reading.proofs.Paths.{word, step, goes_on, path_first, path_next, path_stuck, name_stands}
use Rattle.cedar_reading.proofs.names.parse_path.Goals as goal

pub words-init : goal.words-init
words-init c =
    let h = c.in_ok-name.ensures.reads in
    (c.in_ok-name.ensures.shorter, rw c.new-path.ensures.items (path_first _ _ _ h.0 h.1 h.2))

pub words-preserved : goal.words-preserved
words-preserved c =
    let i = c.words.invariant in
    let d = c.in-Some.ensures.token in
    let h = c.in_ok-next.ensures.reads in
    let a = c.in_ok-next.ensures.shorter in
    let b = c.in-Some.ensures.shorter in (
      omega (arith, i.0, a, b),
      path_next _ _ _ _ _ _ _ _ d.0 h.0 i.1 d.1 d.2 h.1 h.2 c.in_ok-push.ensures.items,
    )

pub returns-in_err-next-clause-reads : goal.returns-in_err-next-clause-reads
returns-in_err-next-clause-reads c =
    let d = c.in-Some.ensures.token in
    rw (refused c.from_residual-in_err-next.ensures.1) (passes _ _ _ c.in_err-next.ensures.reads
    (λ x r e. path_stuck _ _ _ _ _ d.0 x r c.words.invariant.1 d.1 d.2 e))

pub returns-clause-reads : goal.returns-clause-reads
returns-clause-reads c =
    let i = c.words.invariant.1 in (
      i.row,
      chain_end Label.name word goes_on step _ _ _ i.chain c.in_default.ensures.token,
      name_stands _ _ c.name_node.result _ c.name_node.ensures i.stands,
    )
