use Rattle.std.proofs.Common.{refl, codes}
use Rattle.cedar_tokens.specs.declared.kind.Kind.TheVariants as K
use Rattle.cedar_grammar.specs.Trees.{Label}
use Rattle.cedar_grammar.specs.Reader.Rules.{items}
use Rattle.cedar_grammar.specs.Reader.Lines.{maybe, entity_item}
use Rattle.cedar_grammar.specs.Erased.{expr_parts}
use Rattle.cedar_reading.specs.Reading.{flat}
use Rattle.cedar_cst.proofs.Bracketed.{square, enclosed_reader, enclosed_gives, primary_gives}
use Rattle.cedar_cst.proofs.cst.scopes.parse_entity_list.Goals as goal

pub returns-clause-reads : goal.returns-clause-reads
returns-clause-reads c =
    let h = c.in_ok-open.ensures.reads in
    let m = c.list_node.ensures.made in
    let P = flat (maybe (items entity_item)) in
    let g =
    enclosed_gives Label.expr expr_parts (codes "[") (codes "]") K.LBracket K.RBracket square P
    c.parse_entities.result m.0 _ _ c.in_ok-open.open h.0 h.1 c.parse_entities.ensures.reads m.1 in
    primary_gives Label.expr expr_parts (codes "[") (codes "]") Label.list refl
    (enclosed_reader Label.expr expr_parts (codes "[") (codes "]") K.LBracket K.RBracket square P) _
    m.0 c.list_node.result _ g m.2 m.3
