-- Trees with a changed first leaf.
use Rattle.std.proofs.Common.{◌≡◌, List, [], ◌∷◌, ◌++◌, refl, ap, ◌∙◌}
use Rattle.std.specs.Prelude.{⊤}
use Rattle.cedar_grammar.specs.TypedTrees.{Tree, NodeKind, accesses, tree_yield, tree_map, map_first, name_one, name_more, ref_of, args_one, args_more, init_of, inits_one, inits_more, literal, slot, reference, named, parens, list_empty, list_of, record_empty, record_of, no_access, field, call_empty, call, index, member_of, unsigned, signed, products_one, products_more, mult_of, sums_one, sums_more, add_of, single, compare, has_or_like, is_type, is_in, ands_one, ands_more, ors_one, ors_more, ors_expr, if_expr}

-- ---- every node but a list of accesses has a leaf

abbrev pub NonEmpty : {A : Type 0} → List A → Type 0
NonEmpty [] = ⊥
NonEmpty (x ∷ xs) = ⊤

abbrev pub Starts : {A : Type 0} → NodeKind → List A → Type 0
Starts accesses ys = ⊤
Starts _ ys = NonEmpty ys

nonempty_append : {A : Type 0} (xs ys : List A) → NonEmpty xs → NonEmpty (xs ++ ys)
nonempty_append [] ys h = absurd h
nonempty_append (x ∷ xs) ys h = tt

pub starts : {A : Type 0} {k : NodeKind} (t : Tree A k) → Starts k (tree_yield t)
starts (ref_of n c s) = nonempty_append (tree_yield n) (c ∷ s ∷ []) (starts n)
starts (args_one e) = starts e
starts (args_more e c r) = nonempty_append (tree_yield e) (c ∷ tree_yield r) (starts e)
starts (init_of k c v) = nonempty_append (tree_yield k) (c ∷ tree_yield v) (starts k)
starts (inits_one e) = starts e
starts (inits_more e c r) = nonempty_append (tree_yield e) (c ∷ tree_yield r) (starts e)
starts (reference r) = starts r
starts (named n) = starts n
starts (member_of p m) = nonempty_append (tree_yield p) (tree_yield m) (starts p)
starts (unsigned m) = starts m
starts (products_one u) = starts u
starts (products_more u o r) = nonempty_append (tree_yield u) (o ∷ tree_yield r) (starts u)
starts (mult_of p) = starts p
starts (sums_one m) = starts m
starts (sums_more m o r) = nonempty_append (tree_yield m) (o ∷ tree_yield r) (starts m)
starts (add_of s) = starts s
starts (single a) = starts a
starts (compare a o b) = nonempty_append (tree_yield a) (o ∷ tree_yield b) (starts a)
starts (has_or_like a o b) = nonempty_append (tree_yield a) (o ∷ tree_yield b) (starts a)
starts (is_type a o n) = nonempty_append (tree_yield a) (o ∷ tree_yield n) (starts a)
starts (is_in a o n p b) =
    nonempty_append (tree_yield a) (o ∷ (tree_yield n ++ (p ∷ tree_yield b))) (starts a)
starts (ands_one r) = starts r
starts (ands_more r o m) = nonempty_append (tree_yield r) (o ∷ tree_yield m) (starts r)
starts (ors_one a) = starts a
starts (ors_more a o m) = nonempty_append (tree_yield a) (o ∷ tree_yield m) (starts a)
starts (ors_expr o) = starts o
starts t = tt

-- ---- the tree by a map of all its leaves

-- a map that turns one change into the other
module _ {A B : Type 0} (f : A → A) (g : B → B) (h : A → B)
    (same : (a : A) → g (h a) ≡ h (f a)) where
  pub map_first_map : {k : NodeKind} (t : Tree A k)
      → map_first g (tree_map h t) ≡ tree_map h (map_first f t)
  map_first_map (name_one x) = ap name_one (same x)
  map_first_map (name_more x c r) = ap (λ w. name_more w (h c) (tree_map h r)) (same x)
  map_first_map (ref_of n c s) = ap (λ w. ref_of w (h c) (h s)) (map_first_map n)
  map_first_map (args_one e) = ap args_one (map_first_map e)
  map_first_map (args_more e c r) = ap (λ w. args_more w (h c) (tree_map h r)) (map_first_map e)
  map_first_map (init_of k c v) = ap (λ w. init_of w (h c) (tree_map h v)) (map_first_map k)
  map_first_map (inits_one e) = ap inits_one (map_first_map e)
  map_first_map (inits_more e c r) = ap (λ w. inits_more w (h c) (tree_map h r)) (map_first_map e)
  map_first_map (literal x) = ap literal (same x)
  map_first_map (slot x) = ap slot (same x)
  map_first_map (reference r) = ap reference (map_first_map r)
  map_first_map (named n) = ap named (map_first_map n)
  map_first_map (parens l e r) = ap (λ w. parens w (tree_map h e) (h r)) (same l)
  map_first_map (list_empty l r) = ap (λ w. list_empty w (h r)) (same l)
  map_first_map (list_of l a r) = ap (λ w. list_of w (tree_map h a) (h r)) (same l)
  map_first_map (record_empty l r) = ap (λ w. record_empty w (h r)) (same l)
  map_first_map (record_of l a r) = ap (λ w. record_of w (tree_map h a) (h r)) (same l)
  map_first_map no_access = refl
  map_first_map (field d x m) = ap (λ w. field w (h x) (tree_map h m)) (same d)
  map_first_map (call_empty l r m) = ap (λ w. call_empty w (h r) (tree_map h m)) (same l)
  map_first_map (call l a r m) = ap (λ w. call w (tree_map h a) (h r) (tree_map h m)) (same l)
  map_first_map (index l x r m) = ap (λ w. index w (h x) (h r) (tree_map h m)) (same l)
  map_first_map (member_of p m) = ap (λ w. member_of w (tree_map h m)) (map_first_map p)
  map_first_map (unsigned m) = ap unsigned (map_first_map m)
  map_first_map (signed s u) = ap (λ w. signed w (tree_map h u)) (same s)
  map_first_map (products_one u) = ap products_one (map_first_map u)
  map_first_map (products_more u o r) =
      ap (λ w. products_more w (h o) (tree_map h r)) (map_first_map u)
  map_first_map (mult_of p) = ap mult_of (map_first_map p)
  map_first_map (sums_one m) = ap sums_one (map_first_map m)
  map_first_map (sums_more m o r) = ap (λ w. sums_more w (h o) (tree_map h r)) (map_first_map m)
  map_first_map (add_of s) = ap add_of (map_first_map s)
  map_first_map (single a) = ap single (map_first_map a)
  map_first_map (compare a o b) = ap (λ w. compare w (h o) (tree_map h b)) (map_first_map a)
  map_first_map (has_or_like a o b) = ap (λ w. has_or_like w (h o) (tree_map h b)) (map_first_map a)
  map_first_map (is_type a o n) = ap (λ w. is_type w (h o) (tree_map h n)) (map_first_map a)
  map_first_map (is_in a o n p b) =
      ap (λ w. is_in w (h o) (tree_map h n) (h p) (tree_map h b)) (map_first_map a)
  map_first_map (ands_one r) = ap ands_one (map_first_map r)
  map_first_map (ands_more r o m) = ap (λ w. ands_more w (h o) (tree_map h m)) (map_first_map r)
  map_first_map (ors_one a) = ap ors_one (map_first_map a)
  map_first_map (ors_more a o m) = ap (λ w. ors_more w (h o) (tree_map h m)) (map_first_map a)
  map_first_map (ors_expr o) = ap ors_expr (map_first_map o)
  map_first_map (if_expr i c t a g b) =
      ap (λ w. if_expr w (tree_map h c) (h t) (tree_map h a) (h g) (tree_map h b)) (same i)

-- a map that does not see the change
module _ {A B : Type 0} (f : A → A) (h : A → B) (same : (a : A) → h (f a) ≡ h a) where
  pub map_first_unseen : {k : NodeKind} (t : Tree A k) → tree_map h (map_first f t) ≡ tree_map h t
  map_first_unseen (name_one x) = ap name_one (same x)
  map_first_unseen (name_more x c r) = ap (λ w. name_more w (h c) (tree_map h r)) (same x)
  map_first_unseen (ref_of n c s) = ap (λ w. ref_of w (h c) (h s)) (map_first_unseen n)
  map_first_unseen (args_one e) = ap args_one (map_first_unseen e)
  map_first_unseen (args_more e c r) =
      ap (λ w. args_more w (h c) (tree_map h r)) (map_first_unseen e)
  map_first_unseen (init_of k c v) = ap (λ w. init_of w (h c) (tree_map h v)) (map_first_unseen k)
  map_first_unseen (inits_one e) = ap inits_one (map_first_unseen e)
  map_first_unseen (inits_more e c r) =
      ap (λ w. inits_more w (h c) (tree_map h r)) (map_first_unseen e)
  map_first_unseen (literal x) = ap literal (same x)
  map_first_unseen (slot x) = ap slot (same x)
  map_first_unseen (reference r) = ap reference (map_first_unseen r)
  map_first_unseen (named n) = ap named (map_first_unseen n)
  map_first_unseen (parens l e r) = ap (λ w. parens w (tree_map h e) (h r)) (same l)
  map_first_unseen (list_empty l r) = ap (λ w. list_empty w (h r)) (same l)
  map_first_unseen (list_of l a r) = ap (λ w. list_of w (tree_map h a) (h r)) (same l)
  map_first_unseen (record_empty l r) = ap (λ w. record_empty w (h r)) (same l)
  map_first_unseen (record_of l a r) = ap (λ w. record_of w (tree_map h a) (h r)) (same l)
  map_first_unseen no_access = refl
  map_first_unseen (field d x m) = ap (λ w. field w (h x) (tree_map h m)) (same d)
  map_first_unseen (call_empty l r m) = ap (λ w. call_empty w (h r) (tree_map h m)) (same l)
  map_first_unseen (call l a r m) = ap (λ w. call w (tree_map h a) (h r) (tree_map h m)) (same l)
  map_first_unseen (index l x r m) = ap (λ w. index w (h x) (h r) (tree_map h m)) (same l)
  map_first_unseen (member_of p m) = ap (λ w. member_of w (tree_map h m)) (map_first_unseen p)
  map_first_unseen (unsigned m) = ap unsigned (map_first_unseen m)
  map_first_unseen (signed s u) = ap (λ w. signed w (tree_map h u)) (same s)
  map_first_unseen (products_one u) = ap products_one (map_first_unseen u)
  map_first_unseen (products_more u o r) =
      ap (λ w. products_more w (h o) (tree_map h r)) (map_first_unseen u)
  map_first_unseen (mult_of p) = ap mult_of (map_first_unseen p)
  map_first_unseen (sums_one m) = ap sums_one (map_first_unseen m)
  map_first_unseen (sums_more m o r) =
      ap (λ w. sums_more w (h o) (tree_map h r)) (map_first_unseen m)
  map_first_unseen (add_of s) = ap add_of (map_first_unseen s)
  map_first_unseen (single a) = ap single (map_first_unseen a)
  map_first_unseen (compare a o b) = ap (λ w. compare w (h o) (tree_map h b)) (map_first_unseen a)
  map_first_unseen (has_or_like a o b) =
      ap (λ w. has_or_like w (h o) (tree_map h b)) (map_first_unseen a)
  map_first_unseen (is_type a o n) = ap (λ w. is_type w (h o) (tree_map h n)) (map_first_unseen a)
  map_first_unseen (is_in a o n p b) =
      ap (λ w. is_in w (h o) (tree_map h n) (h p) (tree_map h b)) (map_first_unseen a)
  map_first_unseen (ands_one r) = ap ands_one (map_first_unseen r)
  map_first_unseen (ands_more r o m) =
      ap (λ w. ands_more w (h o) (tree_map h m)) (map_first_unseen r)
  map_first_unseen (ors_one a) = ap ors_one (map_first_unseen a)
  map_first_unseen (ors_more a o m) = ap (λ w. ors_more w (h o) (tree_map h m)) (map_first_unseen a)
  map_first_unseen (ors_expr o) = ap ors_expr (map_first_unseen o)
  map_first_unseen (if_expr i c t a g b) =
      ap (λ w. if_expr w (tree_map h c) (h t) (tree_map h a) (h g) (tree_map h b)) (same i)

-- ---- its leaves

-- the list with its first element changed by f
abbrev pub change_first : {A : Type 0} → (A → A) → List A → List A
change_first f [] = []
change_first f (x ∷ xs) = f x ∷ xs

module _ {A : Type 0} (f : A → A) where
  first_of_more : (xs ys : List A) → NonEmpty xs
      → change_first f xs ++ ys ≡ change_first f (xs ++ ys)
  first_of_more [] ys h = absurd h
  first_of_more (x ∷ xs) ys h = refl

  pub map_first_yield : {k : NodeKind} (t : Tree A k)
      → tree_yield (map_first f t) ≡ change_first f (tree_yield t)
  map_first_yield (ref_of n c s) = ap (λ w. w ++ (c ∷ s ∷ [])) (map_first_yield n)
      ∙ first_of_more (tree_yield n) (c ∷ s ∷ []) (starts n)
  map_first_yield (args_one e) = map_first_yield e
  map_first_yield (args_more e c r) = ap (λ w. w ++ (c ∷ tree_yield r)) (map_first_yield e)
      ∙ first_of_more (tree_yield e) (c ∷ tree_yield r) (starts e)
  map_first_yield (init_of k c v) = ap (λ w. w ++ (c ∷ tree_yield v)) (map_first_yield k)
      ∙ first_of_more (tree_yield k) (c ∷ tree_yield v) (starts k)
  map_first_yield (inits_one e) = map_first_yield e
  map_first_yield (inits_more e c r) = ap (λ w. w ++ (c ∷ tree_yield r)) (map_first_yield e)
      ∙ first_of_more (tree_yield e) (c ∷ tree_yield r) (starts e)
  map_first_yield (reference r) = map_first_yield r
  map_first_yield (named n) = map_first_yield n
  map_first_yield (member_of p m) = ap (λ w. w ++ (tree_yield m)) (map_first_yield p)
      ∙ first_of_more (tree_yield p) (tree_yield m) (starts p)
  map_first_yield (unsigned m) = map_first_yield m
  map_first_yield (products_one u) = map_first_yield u
  map_first_yield (products_more u o r) = ap (λ w. w ++ (o ∷ tree_yield r)) (map_first_yield u)
      ∙ first_of_more (tree_yield u) (o ∷ tree_yield r) (starts u)
  map_first_yield (mult_of p) = map_first_yield p
  map_first_yield (sums_one m) = map_first_yield m
  map_first_yield (sums_more m o r) = ap (λ w. w ++ (o ∷ tree_yield r)) (map_first_yield m)
      ∙ first_of_more (tree_yield m) (o ∷ tree_yield r) (starts m)
  map_first_yield (add_of s) = map_first_yield s
  map_first_yield (single a) = map_first_yield a
  map_first_yield (compare a o b) = ap (λ w. w ++ (o ∷ tree_yield b)) (map_first_yield a)
      ∙ first_of_more (tree_yield a) (o ∷ tree_yield b) (starts a)
  map_first_yield (has_or_like a o b) = ap (λ w. w ++ (o ∷ tree_yield b)) (map_first_yield a)
      ∙ first_of_more (tree_yield a) (o ∷ tree_yield b) (starts a)
  map_first_yield (is_type a o n) = ap (λ w. w ++ (o ∷ tree_yield n)) (map_first_yield a)
      ∙ first_of_more (tree_yield a) (o ∷ tree_yield n) (starts a)
  map_first_yield (is_in a o n p b) =
      ap (λ w. w ++ (o ∷ (tree_yield n ++ (p ∷ tree_yield b)))) (map_first_yield a)
      ∙ first_of_more (tree_yield a) (o ∷ (tree_yield n ++ (p ∷ tree_yield b))) (starts a)
  map_first_yield (ands_one r) = map_first_yield r
  map_first_yield (ands_more r o m) = ap (λ w. w ++ (o ∷ tree_yield m)) (map_first_yield r)
      ∙ first_of_more (tree_yield r) (o ∷ tree_yield m) (starts r)
  map_first_yield (ors_one a) = map_first_yield a
  map_first_yield (ors_more a o m) = ap (λ w. w ++ (o ∷ tree_yield m)) (map_first_yield a)
      ∙ first_of_more (tree_yield a) (o ∷ tree_yield m) (starts a)
  map_first_yield (ors_expr o) = map_first_yield o
  map_first_yield t = refl
