use Rattle.std.proofs.Common.{◌≤◌, length}
use Rattle.cedar_tokens.specs.Kinds.{is_ident}
use Rattle.cedar_grammar.specs.Trees.{Label}
use Rattle.cedar_grammar.specs.Reader.Lines.{entity_item}
use Rattle.cedar_grammar.specs.Erased.{expr_parts}
use Rattle.cedar_reading.specs.Reading.{flat}
use Rattle.cedar_cst.proofs.Listed.{ItemsRead}
use Rattle.cedar_cst.proofs.cst.scopes.parse_entities.Given as goal

abbrev pub invariant-items : goal.invariant-items
invariant-items l = (length l.rest ≤ length l.fn.tokens)
    × ItemsRead Label.expr expr_parts is_ident (flat entity_item) l.fn.tokens l.items.items l.rest

abbrev pub decreases-items : goal.decreases-items
decreases-items l = length l.rest
