use Rattle.std.proofs.Common.{◌≡◌, ◌++◌, replicate}
use Rattle.cedar_documents.specs.Items.{items_of, token}
use Rattle.cedar_documents.proofs.items.list_signs.Given as goal

-- so many signs are listed
abbrev pub invariant-loop-i : goal.invariant-loop-i
invariant-loop-i l =
    items_of l.out.items ≡ items_of l.fn.out.items ++ replicate l._i (token l.sign)
