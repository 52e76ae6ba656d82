use Rattle.cedar_grammar.specs.Trees.{leaf, none}
use Rattle.cedar_grammar.specs.Erased.{Erased, literal_text, node, variant_label}
use Rattle.std.proofs.Common.{◌≡◌}
use Rattle.cedar_documents.specs.Items.{items_of, listed}
use Rattle.cedar_documents.proofs.Shown.{listed_alone, apart_alone, literal_begins, literal_document}
use Rattle.cedar_documents.proofs.doc.NodeLiteralDoc.to_doc.Goals as goal

abbrev nodes : goal.After-drop-items-2 → Erased
nodes c = node (variant_label c.args.self.now.inner) c.args.self.now.span (leaf (literal_text c.args.self.now.inner) none) none

items : (c : goal.After-drop-items-2) → items_of c.deref.result.now ≡ listed (nodes c)
items c = listed_alone _ _ _ (nodes c) c.deref.ensures.value c.in_ok-list_literal.ensures c.new-items.ensures.items

pub returns-clause-none : goal.returns-clause-none
returns-clause-none c = c.document_of.ensures.none (nodes c) (items c)

pub returns-clause-shows : goal.returns-clause-shows
returns-clause-shows c = λ ts doc (made, row). c.document_of.ensures.shows (nodes c) ts doc (items c) (literal_begins c.args.self.now) made (apart_alone _ doc (literal_document c.args.self.now.inner _ _ doc row))
