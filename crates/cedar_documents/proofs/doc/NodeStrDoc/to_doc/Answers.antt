use Rattle.cedar_grammar.specs.Trees.{none}
use Rattle.cedar_grammar.specs.Erased.{Erased, str_tree}
use Rattle.std.proofs.Common.{◌≡◌}
use Rattle.cedar_documents.specs.Items.{items_of, listed}
use Rattle.cedar_documents.proofs.Shown.{listed_alone, apart_alone}
use Rattle.cedar_documents.proofs.doc.NodeStrDoc.to_doc.Goals as goal

abbrev nodes : goal.After-drop-items-2 → Erased
nodes c = str_tree c.args.self.now none

items : (c : goal.After-drop-items-2) → items_of c.deref.result.now ≡ listed (nodes c)
items c = listed_alone _ _ _ (nodes c) c.deref.ensures.value c.in_ok-list_str.ensures c.new-items.ensures.items

pub returns-clause-none : goal.returns-clause-none
returns-clause-none c = c.document_of.ensures.none (nodes c) (items c)

pub returns-clause-shows : goal.returns-clause-shows
returns-clause-shows c = λ ts doc (made, row). c.document_of.ensures.shows (nodes c) ts doc (items c) tt made (apart_alone _ doc row)
