-- The trees of a label have the rows of its line, whatever the comments of their tokens are.
use Rattle.std.proofs.Common.{◌≡◌, ℕ, zero, suc, ℤ, true, List}
use Rattle.std.specs.Prelude.{⊤}
use Rattle.cedar_tokens.specs.Listing.{Decorated}
use Rattle.cedar_layout.specs.Layout.{Doc, nil, group}
use Rattle.cedar_grammar.specs.Trees.{Label, yield}
use Rattle.cedar_grammar.specs.Languages.{Branch}
use Rattle.cedar_grammar.specs.Grammar as T
use Rattle.cedar_grammar.specs.NodeTrees.{is_node}
use Rattle.cedar_written.specs.Languages.{Group}
use Rattle.cedar_written.specs.NodeLines as N
use Rattle.cedar_written.specs.NodeLines.{has_room, line_of}
use Rattle.cedar_written.proofs.SameRows.{Matches, text, texts, ◌then◌, ◌or◌, leaf_matches as leaf, branch_matches as branch, mapped_matches as mapped, never_matches as never}
use Rattle.cedar_written.proofs.GrammarRows as rows
use Rattle.cedar_written.proofs.Covered.{Trees, Slots, BareMember, BareMult}
use Rattle.cedar_written.proofs.NodeRows.{Inside, trees_of}

module _ (i : ℤ) where
  inside : (n : ℕ) → Matches (Inside n) (N.Inside i n)
  inside zero = never
  inside (suc n) = rows.expr i n

  any_token : (l : Label) → Matches (Branch l (T.Leaf text (λ t. ⊤))) N.AnyToken
  any_token l = branch l (leaf (λ t. ⊤) nil)

  slots : Matches Slots N.Slot
  slots = branch Label.primary (branch Label.slot (rows.tok i "?principal" or rows.tok i "?resource"))

  bare_member : Matches BareMember (N.Bare i)
  bare_member = branch Label.member (rows.unaccessed i slots
      or rows.accessed i (branch Label.primary (branch Label.name (rows.ident i))) (rows.field i))

  bare_mult : Matches BareMult (Group (N.Bare i))
  bare_mult = branch Label.mult (mapped group (branch Label.unary bare_member))

  -- a row of trees with this label has a document in its line
  HasRow : ℕ → Label → Trees → Type 0
  HasRow n l f = (ts : List Decorated) → texts ts ≡ yield f → (d : Doc) × line_of i n l ts d

  pub node_row : (n : ℕ) (l : Label) (f : Trees) → is_node l ≡ true → trees_of n l f
      → (ts : List Decorated) → texts ts ≡ yield f → (d : Doc) × line_of i n l ts d
  node_row n Label.policy f h y ts s = (rows.policy i n).some f ts y s
  node_row n Label.annotation f h y ts s = (rows.annotation i).some f ts y s
  node_row n Label.variable f h y ts s =
      (rows.scoped i "principal" "?principal" or rows.action i or rows.scoped i "resource" "?resource").some f ts y s
  node_row n Label.condition f h y ts s = (rows.cond i n).some f ts y s
  node_row n Label.expr f h y ts s = (rows.expr_in i (has_room n) (inside n)).some f ts y s
  node_row n Label.or f h y ts s = (rows.or_chain i (has_room n) (inside n)).some f ts y s
  node_row n Label.and f h y ts s = (rows.and i (has_room n) (inside n)).some f ts y s
  node_row n Label.relation f h y ts s = (rows.relation i (has_room n) (inside n)).some f ts y s
  node_row n Label.add f h y ts s =
      (rows.add i (has_room n) (inside n) or branch Label.add (mapped group bare_mult)).some f ts y s
  node_row n Label.mult f h y ts s = (rows.mult i (has_room n) (inside n) or bare_mult).some f ts y s
  node_row n Label.unary f h y ts s = (rows.unary i (has_room n) (inside n) or branch Label.unary bare_member).some f ts y s
  node_row n Label.member f h y ts s = (rows.member i (has_room n) (inside n) or bare_member).some f ts y s
  node_row n Label.access f h y ts s = (rows.field i or rows.call i (has_room n) (inside n)
      or branch Label.access (rows.tok i "[" then rows.str i then rows.tok i "]")).some f ts y s
  node_row n Label.primary f h y ts s = (rows.primary i (has_room n) (inside n) or slots
      or branch Label.primary (rows.path i)).some f ts y s
  node_row n Label.rec_init f h y ts s = (rows.init i (has_room n) (inside n)).some f ts y s
  node_row n Label.name f h y ts s = (rows.path i).some f ts y s
  node_row n Label.ref f h y ts s = (branch Label.ref (rows.path i then rows.tok i "::" then rows.str i)).some f ts y s
  node_row n Label.ident f h y ts s = (any_token Label.ident).some f ts y s
  node_row n Label.str f h y ts s = (any_token Label.str).some f ts y s
  node_row n Label.boolean f h y ts s = (any_token Label.boolean).some f ts y s
  node_row n Label.number f h y ts s = (any_token Label.number).some f ts y s
  node_row n Label.string f h y ts s = (any_token Label.string).some f ts y s
  node_row n Label.slot f h y ts s = (any_token Label.slot).some f ts y s
  node_row n l f h y ts s = absurd cc
