use Rattle.std.proofs.Common.{◌≡◌, ◌++◌, List, drop, map}
use Rattle.cedar_layout.specs.Lookups.{AreInOrder, Shown, shown}
use Rattle.cedar_documents.specs.Items.{items_of}
use Rattle.cedar_documents.specs.Kept.{KeepsTokens}
use Rattle.cedar_documents.specs.Taking.{BeginsAt, Follow, own, texts_of}
use Rattle.cedar_documents.proofs.Reached.{Reached}
use Rattle.cedar_documents.proofs.take.take_tokens.Given as goal

abbrev pub invariant-loop-item : goal.invariant-loop-item
invariant-loop-item l = record {
  order : AreInOrder l.tokens;
  texts : map (λ t. t.text.now) l.taken.items ++ texts_of (items_of (drop l.item-index l.items))
      ≡ texts_of (items_of l.items);
  kept : KeepsTokens l.fn.tokens l.tokens;
  taken : (before ts after : List Shown) → map shown l.fn.tokens ≡ before ++ (ts ++ after)
      → BeginsAt (items_of l.items) → Follow (items_of l.items) ts
      → Reached before ts after (items_of (drop l.item-index l.items)) l.place
      (map own l.taken.items) (map shown l.tokens);
}
