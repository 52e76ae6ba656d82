-- A node's document is its first token's leading lines
-- followed by the document of the node without them.
use Rattle.std.proofs.Common.{◌≡◌, ℤ, List, [], ◌∷◌, ◌++◌, refl, sym, ap, ◌∙◌, append_assoc, append-nil}
use Rattle.cedar_tokens.specs.Listing.{Decorated}
use Rattle.cedar_layout.specs.Layout.{Doc, nil, ◌·◌, group_then, atoms}
use Rattle.cedar_layout.proofs.Values.{atoms-dot}
use Rattle.cedar_grammar.specs.TypedTrees.{Tree, NodeKind, tree_yield, map_first, name_one, name_more, ref_of, args_one, args_more, init_of, inits_one, inits_more, literal, slot, reference, named, parens, list_empty, list_of, record_empty, record_of, no_access, field, call_empty, call, index, member_of, unsigned, signed, products_one, products_more, mult_of, sums_one, sums_more, add_of, single, compare, has_or_like, is_type, is_in, ands_one, ands_more, ors_one, ors_more, ors_expr, if_expr}
use Rattle.cedar_grammar.proofs.Trees.FirstLeaf.{NonEmpty, starts}
use Rattle.cedar_laws.specs.Table.{table, printed, lead_of, bare_token, lines_of_first}

-- the leading lines of the first of these tokens, followed by b, print what c prints
pub record Peels (xs : List Decorated) (b c : Doc) : Type 0 where
  pub same : atoms (lead_of (lines_of_first xs)) ++ atoms b ≡ atoms c

peel_more : (xs ys : List Decorated) → NonEmpty xs → (b c r : Doc) → Peels xs b c
    → Peels (xs ++ ys) (b · r) (c · r)
peel_more [] ys h b c r e = absurd h
peel_more (x ∷ xs) ys h b c r e = record {
  same = rw (atoms-dot b r, atoms-dot c r)
      (sym (append_assoc (atoms (lead_of x.leading)) (atoms b) (atoms r))
      ∙ ap (λ z. z ++ atoms r) e.same);
}

peel_group : (xs : List Decorated) (b c : Doc) → Peels xs b c
    → Peels xs (group_then b nil) (group_then c nil)
peel_group xs b c e = record { same = rw (append-nil (atoms b), append-nil (atoms c)) e.same }

peel_leaf : (x : Decorated) (xs : List Decorated)
    → Peels (x ∷ xs) (printed (bare_token x)) (printed x)
peel_leaf x xs = record { same = sym (atoms-dot (lead_of x.leading) (printed (bare_token x))) }

peel_first : (x : Decorated) (xs : List Decorated) (r : Doc)
    → Peels (x ∷ xs) (printed (bare_token x) · r) (printed x · r)
peel_first x xs r = peel_more (x ∷ []) xs tt (printed (bare_token x)) (printed x) r (peel_leaf x [])

pub peel : {k : NodeKind} (i : ℤ) (t : Tree Decorated k)
    → Peels (tree_yield t) (table i (map_first bare_token t)) (table i t)
peel i (name_one x0) = peel_leaf x0 []
peel i (name_more x0 x1 x2) = peel_first x0 _ _
peel i (ref_of x0 x1 x2) = peel_more (tree_yield x0) (x1 ∷ x2 ∷ []) (starts x0) _ _ _ (peel i x0)
peel i (args_one x0) = peel i x0
peel i (args_more x0 x1 x2) =
    peel_more (tree_yield x0) (x1 ∷ tree_yield x2) (starts x0) _ _ _ (peel i x0)
peel i (init_of x0 x1 x2) =
    peel_more (tree_yield x0) (x1 ∷ tree_yield x2) (starts x0) _ _ _ (peel i x0)
peel i (inits_one x0) = peel i x0
peel i (inits_more x0 x1 x2) =
    peel_more (tree_yield x0) (x1 ∷ tree_yield x2) (starts x0) _ _ _ (peel i x0)
peel i (literal x0) = peel_leaf x0 []
peel i (slot x0) = peel_leaf x0 []
peel i (reference x0) = peel i x0
peel i (named x0) = peel i x0
peel i (parens x0 x1 x2) = peel_group _ _ _ (peel_first x0 _ _)
peel i (list_empty x0 x1) = peel_first x0 _ _
peel i (list_of x0 x1 x2) = peel_first x0 _ _
peel i (record_empty x0 x1) = peel_first x0 _ _
peel i (record_of x0 x1 x2) = peel_first x0 _ _
peel i no_access = record { same = refl }
peel i (field x0 x1 x2) = peel_first x0 _ _
peel i (call_empty x0 x1 x2) = peel_first x0 _ _
peel i (call x0 x1 x2 x3) = peel_first x0 _ _
peel i (index x0 x1 x2 x3) = peel_first x0 _ _
peel i (member_of x0 x1) =
    peel_group _ _ _ (peel_more (tree_yield x0) (tree_yield x1) (starts x0) _ _ _ (peel i x0))
peel i (unsigned x0) = peel i x0
peel i (signed x0 x1) = peel_first x0 _ _
peel i (products_one x0) = peel i x0
peel i (products_more x0 x1 x2) =
    peel_more (tree_yield x0) (x1 ∷ tree_yield x2) (starts x0) _ _ _ (peel i x0)
peel i (mult_of x0) = peel_group _ _ _ (peel i x0)
peel i (sums_one x0) = peel i x0
peel i (sums_more x0 x1 x2) =
    peel_more (tree_yield x0) (x1 ∷ tree_yield x2) (starts x0) _ _ _ (peel i x0)
peel i (add_of x0) = peel_group _ _ _ (peel i x0)
peel i (single x0) = peel i x0
peel i (compare x0 x1 x2) =
    peel_more (tree_yield x0) (x1 ∷ tree_yield x2) (starts x0) _ _ _ (peel i x0)
peel i (has_or_like x0 x1 x2) =
    peel_group _ _ _ (peel_more (tree_yield x0) (x1 ∷ tree_yield x2) (starts x0) _ _ _ (peel i x0))
peel i (is_type x0 x1 x2) =
    peel_group _ _ _ (peel_more (tree_yield x0) (x1 ∷ tree_yield x2) (starts x0) _ _ _ (peel i x0))
peel i (is_in x0 x1 x2 x3 x4) = peel_group _ _ _ (peel_more (tree_yield x0)
    ((x1 ∷ (tree_yield x2 ++ (x3 ∷ tree_yield x4)))) (starts x0) _ _ _ (peel i x0))
peel i (ands_one x0) = peel i x0
peel i (ands_more x0 x1 x2) =
    peel_more (tree_yield x0) (x1 ∷ tree_yield x2) (starts x0) _ _ _ (peel i x0)
peel i (ors_one x0) = peel i x0
peel i (ors_more x0 x1 x2) =
    peel_more (tree_yield x0) (x1 ∷ tree_yield x2) (starts x0) _ _ _ (peel i x0)
peel i (ors_expr x0) = peel i x0
peel i (if_expr x0 x1 x2 x3 x4 x5) = peel_group _ _ _ (peel_first x0 _ _)
