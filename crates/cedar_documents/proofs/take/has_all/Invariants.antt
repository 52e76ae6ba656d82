use Rattle.std.proofs.Common.{◌≡◌, drop}
use Rattle.cedar_documents.specs.Found.{places}
use Rattle.cedar_documents.specs.Items.{items_of}
use Rattle.cedar_documents.specs.Taking.{has_all}
use Rattle.cedar_documents.proofs.take.has_all.Given as goal

-- the answer is that for the items to come
abbrev pub invariant-loop-item : goal.invariant-loop-item
invariant-loop-item l = has_all (places l.tokens) (items_of (drop l.item-index l.items))
    ≡ has_all (places l.tokens) (items_of l.items)
