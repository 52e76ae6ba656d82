use Rattle.cedar_tokens.specs.declared.kind.Kind.TheVariants as K
use Rattle.cedar_grammar.specs.Trees.{Label}
use Rattle.cedar_grammar.specs.Erased.{primary_parts}
use Rattle.cedar_reading.specs.Reading.{flat}
use Rattle.cedar_reading.specs.ReadingParts.{key_rule}
use Rattle.cedar_reading.proofs.Followed.{followed_fails, followed_done}
use Rattle.cedar_reading.proofs.Refusals.{refused}
use Rattle.cedar_cst.proofs.nodes.record_key.Goals as goal

pub returns-in_err-key-clause-reads : goal.returns-in_err-key-clause-reads
returns-in_err-key-clause-reads c =
    rw (refused c.from_residual.ensures.1) (followed_fails Label.primary primary_parts K.Colon
    (flat key_rule) _ c.parse_key.result _ c.parse_key.ensures.reads c.in_err-key.ensures.reads)

pub returns-clause-reads : goal.returns-clause-reads
returns-clause-reads c =
    let v = c.in_ok-key in
    let q = followed_done Label.primary primary_parts K.Colon (flat key_rule) _ c.parse_key.result
    ((v.key, v.field-0-0-1), v.rest) c.parse_key.ensures.reads v.ensures.reads in
    (q.0, q.1, q.2, q.3, rw c.in_ok-new.ensures.ok q.4)
