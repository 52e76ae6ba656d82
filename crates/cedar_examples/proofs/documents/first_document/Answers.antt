use Rattle.cedar_examples.proofs.PolicyDocuments.{documented, no_first, the_first}
use Rattle.std.proofs.Common.{sym, ◌∙◌, inl}
use Rattle.cedar_examples.specs.Documents.{ArePlainTokensOf}
use Rattle.cedar_examples.proofs.documents.first_document.Goals as goal

pub returns-in_default-clause-document : goal.returns-in_default-clause-document
returns-in_default-clause-document c = (
  c.in_ok-tree.tree,
  c.in_ok-tree.ensures.tree,
  sym c.deref.ensures.value ∙ no_first _ c.first.result c.in_default.is c.first.ensures.value,
)

pub returns-clause-document : goal.returns-clause-document
returns-clause-document c =
    let policy = c.in-Some.policy in
    let first = the_first _ c.first.result policy c.in-Some.is c.first.ensures.value in
    let plain : ArePlainTokensOf c.args.text.now c.drop_trailing_commas.new.tokens.items = record {
      are_tokens = record {
        stream = c.in_ok-tokens.tokens.items;
        closing = _;
        listing = c.in_ok-tokens.ensures.listing;
        spans = c.in_ok-tokens.ensures.spans;
        kept = c.in_ok-drop_trailing_commas.ensures.kept;
      };
      comments = c.in_ok-drop_trailing_commas.ensures.plain;
    } in
    documented c.own_tokens_are_met.ensures.policies c.args.text.now c.in_ok-tree.tree
    c.drop_trailing_commas.new.tokens.items c.to_doc.new.context.tokens.items plain
    c.args.config.now.indent_width policy.now first.0 c.in_ok-to_doc.field-0
    c.in_ok-tree.ensures.tree (sym c.deref.ensures.value ∙ first.1)
    (λ own doc s. c.in_ok-to_doc.ensures.shows own doc (s.0, inl s.1))
