use Rattle.std.proofs.Common.{◌∙◌, sym}
use Rattle.cedar_tokens.specs.Kinds.{set_of}
use Rattle.cedar_grammar.specs.Trees.{Label, leaf, none}
use Rattle.cedar_reading.proofs.Steps.{first_begins, none_begins, tree_not, tree_at, word_stands, words_apart}
use Rattle.cedar_reading.proofs.names.parse_word.Goals as goal

pub returns-then-is_one_of-clause-reads : goal.returns-then-is_one_of-clause-reads
returns-then-is_one_of-clause-reads c =
    let p = set_of c.args.words in
    let e = sym c.is_one_of.ensures ∙ c.if-is_one_of.true in (
      leaf c.in-Some.first.now none,
      tree_at Label.ident p _ _ _ c.in-Some.ensures.cases.0 e,
      word_stands p _ _ c.ident_node.ensures e (words_apart c.args.words),
    )

pub returns-else-is_one_of-clause-reads : goal.returns-else-is_one_of-clause-reads
returns-else-is_one_of-clause-reads c =
    let p = set_of c.args.words in
    tree_not Label.ident p _ _ c.refuse.ensures (first_begins p _ _ _ c.in-Some.ensures.cases.0
    ∙ sym c.is_one_of.ensures ∙ c.if-is_one_of.false)

pub returns-in-None-clause-reads : goal.returns-in-None-clause-reads
returns-in-None-clause-reads c = tree_not Label.ident (set_of c.args.words) _ _
    c.refuse-in-None.ensures (none_begins (set_of c.args.words) _ c.in-None.ensures.cases)
