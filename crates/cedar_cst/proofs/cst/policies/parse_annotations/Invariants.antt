use Rattle.std.proofs.Common.{◌≤◌, length}
use Rattle.cedar_tokens.specs.declared.kind.Kind.TheVariants as K
use Rattle.cedar_tokens.specs.Kinds.{is, begins}
use Rattle.cedar_grammar.specs.Trees.{Label}
use Rattle.cedar_grammar.specs.Reader.Lines.{annotation_rule}
use Rattle.cedar_reading.specs.Reading.{kind, flat}
use Rattle.cedar_reading.proofs.Manys.{ManyRead}
use Rattle.cedar_cst.proofs.cst.policies.parse_annotations.Given as goal
use Rattle.cedar_grammar.specs.Erased.{annotation_parts}

abbrev pub invariant-annotations : goal.invariant-annotations
invariant-annotations l =
    (length l.rest ≤ length l.fn.tokens) × ManyRead Label.annotation annotation_parts
    (begins kind (is K.At)) (flat annotation_rule) l.fn.tokens l.annotations.items l.rest

abbrev pub decreases-annotations : goal.decreases-annotations
decreases-annotations l = length l.rest
