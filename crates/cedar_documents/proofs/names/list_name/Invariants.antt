use Rattle.std.proofs.Common.{◌≡◌, ◌∷◌, ◌++◌, drop}
use Rattle.cedar_grammar.specs.Erased.{path_parts}
use Rattle.cedar_documents.specs.Items.{at, items_of, listed}
use Rattle.cedar_documents.proofs.names.list_name.Given as goal

-- what is listed and what is to come is the whole
abbrev pub invariant-loop-word : goal.invariant-loop-word
invariant-loop-word l =
    items_of l.out.items ++ listed (path_parts (drop l.word-index l.word-items) l.name.inner.name)
    ≡ items_of l.fn.out.items
    ++ at l.name.span.start ∷ listed (path_parts l.name.inner.path.items l.name.inner.name)
