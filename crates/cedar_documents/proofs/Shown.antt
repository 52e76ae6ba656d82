-- What `to_doc` answers for a node, from what is answered for its items.
use Rattle.std.proofs.Common.{inl, inr, ◌≡◌, ℕ, ℤ, List, [], ◌∷◌, ◌++◌, map, take, drop, length, Bool, true, refl, sym, ap, ◌∙◌, subst, append-nil}
use Rattle.std.proofs.Math.Seq.{take-append_seam}
use Rattle.cedar_tokens.specs.Listing.{Decorated}
use Rattle.cedar_tokens.specs.Places.{InOrderFrom}
use Rattle.cedar_tokens.specs.declared.token.WrappedToken.{WrappedToken}
use Rattle.cedar_grammar.specs.Texts.{greatest_depth}
use Rattle.cedar_grammar.specs.Trees.{none, leaf}
use Rattle.cedar_layout.specs.Layout.{Doc, nil}
use Rattle.cedar_layout.specs.Lookups.{Shown, shown}
use Rattle.cedar_layout.proofs.Values.{dot-nil}
use Rattle.cedar_grammar.specs.Erased.{Erased, literal_text, node, variant_label}
use Rattle.cedar_grammar.specs.declared.tree.Node.{Node}
use Rattle.cedar_grammar.specs.declared.tree.Literal.{Literal}
use Rattle.cedar_grammar.specs.declared.tree.Literal.TheVariants as literal
use Rattle.cedar_written.specs.Languages.{no_more}
use Rattle.cedar_written.specs.NodeLines.{AnyToken, line_of}
use Rattle.cedar_writer.specs.NodeRules.{Apart}
use Rattle.cedar_documents.specs.Found.{has_its_tokens, places}
use Rattle.cedar_documents.specs.Items.{items_of, listed}
use Rattle.cedar_documents.specs.declared.items.Item.{Item as Declared}
use Rattle.cedar_documents.specs.ShownNodes.{IsDocumentOf, IsMadeOf}
use Rattle.cedar_documents.specs.Taking.{BeginsAt, Follow, has_all, nodes_of}
use Rattle.cedar_documents.proofs.OwnTokens.{has_them}
use Rattle.cedar_documents.proofs.Taking.{follows, has_all_listed}
use Rattle.cedar_documents.specs.Kept.{KeepsTokens}
use Rattle.cedar_documents.proofs.Kept.{lengths}

-- the tokens that nodes are made of follow what the nodes list
pub made_follow : (e : Erased) (ts : List Shown) → IsMadeOf e ts → Follow (listed e) ts
made_follow e ts (f, n, y, s) =
    subst (λ z. Follow (listed z) ts) (sym n) (subst (Follow (listed (nodes_of f))) (sym y) (follows f))

-- where they are consecutive, the nodes have their tokens
pub made_has : (e : Erased) (ts : List Shown) (tokens : List WrappedToken) (before after : List Shown) → IsMadeOf e ts
    → InOrderFrom 0 (places tokens) → map shown tokens ≡ before ++ (ts ++ after) → has_its_tokens (places tokens) e ≡ true
made_has e ts tokens before after (f, n, y, s) order w =
    ap (has_its_tokens (places tokens)) n ∙ has_them f s (record {
      before = before;
      after = after;
      all = at tokens ∙ ap (map (λ (t : Shown). t.span)) (w ∙ ap (λ z. before ++ (z ++ after)) y);
      order = order;
    })
  where
    at : (ws : List WrappedToken) → places ws ≡ map (λ t. t.span) (map shown ws)
    at [] = refl
    at (x ∷ xs) = ap (λ z. x.span ∷ z) (at xs)

-- what is listed after nothing
pub listed_alone : (xs ys zs : List Declared) (e : Erased) → zs ≡ ys → items_of ys ≡ items_of xs ++ listed e → xs ≡ []
    → items_of zs ≡ listed e
listed_alone xs ys zs e a b c = ap items_of a ∙ (b ∙ ap (λ z. items_of z ++ listed e) c)

-- one token has no neighbour
pub apart_alone : (ts : List Decorated) (d : Doc) → IsDocumentOf AnyToken ts d → IsDocumentOf Apart ts d
apart_alone ts d (inl x) = inl (ts, [], d, nil, sym (append-nil ts), sym (dot-nil d), x, no_more)
apart_alone ts d (inr (k, none_has, x)) = inl x

-- a literal is one token
pub literal_begins : (n : Node Literal)
    → BeginsAt (listed (node (variant_label n.inner) n.span (leaf (literal_text n.inner) none) none))
literal_begins n = go n.inner
  where
    go : (l : Literal) → BeginsAt (listed (node (variant_label l) n.span (leaf (literal_text l) none) none))
    go literal.True = tt
    go literal.False = tt
    go (literal.Num t) = tt
    go (literal.Str t) = tt

pub literal_document : (l : Literal) (i : ℤ) (ts : List Decorated) (d : Doc)
    → IsDocumentOf (line_of i greatest_depth (variant_label l)) ts d → IsDocumentOf AnyToken ts d
literal_document literal.True i ts d x = x
literal_document literal.False i ts d x = x
literal_document (literal.Num t) i ts d x = x
literal_document (literal.Str t) i ts d x = x

-- whether the items have their tokens says whether the nodes do
pub decided : (b r : Bool) (xs ys : List WrappedToken) (is : List Declared) (nodes : Erased) → r ≡ b
    → r ≡ has_all (places xs) (items_of is) → xs ≡ ys → items_of is ≡ listed nodes → b ≡ has_its_tokens (places ys) nodes
decided b r xs ys is nodes e f g h = sym e ∙ f ∙ ap (λ z. has_all (places z) (items_of is)) g
    ∙ ap (has_all (places ys)) h ∙ has_all_listed (places ys) nodes

-- tokens that all were written back
pub refilled : (old new : List WrappedToken) (n : ℕ) → n ≡ length old → KeepsTokens old new
    → take n (new ++ drop (length new) old) ≡ new
refilled old new n e k =
    rw (e, sym (lengths old new k)) (take-append_seam new (drop (length new) old))
