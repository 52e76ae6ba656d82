-- What a node says of its tokens, in order.
use Rattle.std.specs.Prelude.{ℕ, suc, Bool, true, false, codes, List, [], ◌∷◌, ◌++◌, map, Option, Some, None}
use Rattle.cedar_tokens.specs.declared.token.Span.{Span}
use Rattle.cedar_grammar.specs.Trees.{Label, none, leaf, branch}
use Rattle.cedar_grammar.specs.Erased.{Erased}
use Rattle.cedar_grammar.specs.declared.tree.NegOp.{NegOp}
use Rattle.cedar_grammar.specs.declared.tree.NegOp.TheVariants.{Bang, Dash}
use Rattle.cedar_documents.specs.declared.items.Item as declared
use Rattle.cedar_documents.specs.declared.items.Item.TheVariants as variant

-- a token, or what is known of where the tokens are
pub data Item : Type 0 where
  token : List ℕ → Item
  at needed : ℕ → Item
  signs : ℕ → ℕ → ℕ → Item

-- the item that it is
abbrev pub item_of : declared.Item → Item
item_of (variant.Token s) = token s.now
item_of (variant.At p) = at p
item_of (variant.Needed p) = needed p
item_of (variant.Signs n p q) = signs n p q

abbrev pub items_of : List declared.Item → List Item
items_of xs = map item_of xs

-- the tokens before the first node of these trees: the signs of a unary
abbrev pub signs_before : Erased → ℕ
signs_before none = 0
signs_before (leaf text f) = suc (signs_before f)
signs_before (branch l f g) = 0

-- where the first node of these trees begins: the member of a unary
abbrev pub start_of_node : Erased → ℕ
start_of_node none = 0
start_of_node (leaf text f) = start_of_node f
start_of_node (branch (l, Some s) f g) = s.start
start_of_node (branch (l, None) f g) = start_of_node g

-- what a node of this label says before its parts
abbrev pub of_node : Label → Option Span → Erased → List Item
of_node l None f = []
of_node Label.ident (Some s) f = needed s.start ∷ []
of_node Label.str (Some s) f = needed s.start ∷ []
of_node Label.boolean (Some s) f = needed s.start ∷ []
of_node Label.number (Some s) f = needed s.start ∷ []
of_node Label.string (Some s) f = needed s.start ∷ []
of_node Label.slot (Some s) f = needed s.start ∷ []
of_node Label.unary (Some s) f = at s.start ∷ signs (signs_before f) s.start (start_of_node f) ∷ []
of_node l (Some s) f = at s.start ∷ []

-- what trees say of their tokens
abbrev pub listed : Erased → List Item
listed none = []
listed (leaf text f) = token text ∷ listed f
listed (branch l f g) = of_node l.0 l.1 f ++ (listed f ++ listed g)

-- how many signs there are
abbrev pub sign_count : Option NegOp → ℕ
sign_count None = 0
sign_count (Some (Bang n)) = n
sign_count (Some (Dash n)) = n

-- what is before an item of a list
abbrev pub comma : Bool → List Item
comma true = []
comma false = token (codes ",") ∷ []
