-- Typed trees: a constructor for each production, with every token a leaf; and the row of trees that each represents.
use Rattle.std.specs.Prelude.{List, [], ◌∷◌, ◌++◌}
use Rattle.cedar_tokens.specs.declared.kind.Kind.{Kind}
use Rattle.cedar_tokens.specs.declared.kind.Kind.TheVariants.{Number, Str}
use Rattle.cedar_grammar.specs.Trees.{Label, Forest, none, leaf, branch, join}

-- the kinds of nodes; a plural is a chain or a list with its separators
pub data NodeKind : Type 0 where
  name ref args inits init primary accesses member unary products mult sums add relation ands ors expr : NodeKind

-- Expressions and what they are made of.
pub data Tree (A : Type 0) : NodeKind → Type 0 where
  name_one : A → Tree A name
  name_more : A → A → Tree A name → Tree A name
  ref_of : Tree A name → A → A → Tree A ref
  args_one : Tree A expr → Tree A args
  args_more : Tree A expr → A → Tree A args → Tree A args
  init_of : Tree A primary → A → Tree A expr → Tree A init
  inits_one : Tree A init → Tree A inits
  inits_more : Tree A init → A → Tree A inits → Tree A inits
  literal : A → Tree A primary
  slot : A → Tree A primary
  reference : Tree A ref → Tree A primary
  named : Tree A name → Tree A primary
  parens : A → Tree A expr → A → Tree A primary
  list_empty : A → A → Tree A primary
  list_of : A → Tree A args → A → Tree A primary
  record_empty : A → A → Tree A primary
  record_of : A → Tree A inits → A → Tree A primary
  no_access : Tree A accesses
  field : A → A → Tree A accesses → Tree A accesses
  call_empty : A → A → Tree A accesses → Tree A accesses
  call : A → Tree A args → A → Tree A accesses → Tree A accesses
  index : A → A → A → Tree A accesses → Tree A accesses
  member_of : Tree A primary → Tree A accesses → Tree A member
  unsigned : Tree A member → Tree A unary
  signed : A → Tree A unary → Tree A unary
  products_one : Tree A unary → Tree A products
  products_more : Tree A unary → A → Tree A products → Tree A products
  mult_of : Tree A products → Tree A mult
  sums_one : Tree A mult → Tree A sums
  sums_more : Tree A mult → A → Tree A sums → Tree A sums
  add_of : Tree A sums → Tree A add
  single : Tree A add → Tree A relation
  compare : Tree A add → A → Tree A add → Tree A relation
  has_or_like : Tree A add → A → Tree A add → Tree A relation
  is_type : Tree A add → A → Tree A name → Tree A relation
  is_in : Tree A add → A → Tree A name → A → Tree A add → Tree A relation
  ands_one : Tree A relation → Tree A ands
  ands_more : Tree A relation → A → Tree A ands → Tree A ands
  ors_one : Tree A ands → Tree A ors
  ors_more : Tree A ands → A → Tree A ors → Tree A ors
  ors_expr : Tree A ors → Tree A expr
  if_expr : A → Tree A expr → A → Tree A expr → A → Tree A expr → Tree A expr

-- the parts of a policy
pub data PartKind : Type 0 where
  variable cond conds annotation annotations policy : PartKind

pub data Clause (A : Type 0) : PartKind → Type 0 where
  variable_bare : A → Clause A variable
  variable_is : A → A → Tree A name → Clause A variable
  variable_op : A → A → Tree A add → Clause A variable
  variable_is_op : A → A → Tree A name → A → Tree A add → Clause A variable
  cond_of : A → A → Tree A expr → A → Clause A cond
  no_cond : Clause A conds
  conds_more : Clause A cond → Clause A conds → Clause A conds
  annotation_bare : A → A → Clause A annotation
  annotation_value : A → A → A → A → A → Clause A annotation
  no_annotation : Clause A annotations
  annotations_more : Clause A annotation → Clause A annotations → Clause A annotations
  policy_of : Clause A annotations → A → A → Clause A variable → A → Clause A variable → A → Clause A variable → A → Clause A conds → A → Clause A policy

-- a literal's label follows from its token's kind
abbrev pub literal_label : Kind → Label
literal_label Number = Label.number
literal_label Str = Label.string
literal_label _ = Label.boolean

-- the parts of the node that the tree represents; for a chain or list the row of its nodes and separators
abbrev pub parts : {A : Type 0} {k : NodeKind} → (A → Kind) → Tree A k → Forest Label A
parts kind (name_one x) = branch Label.ident (leaf x none) none
parts kind (name_more x c r) = branch Label.ident (leaf x none) (leaf c (parts kind r))
parts kind (ref_of n c s) = branch Label.name (parts kind n) (leaf c (branch Label.str (leaf s none) none))
parts kind (args_one e) = branch Label.expr (parts kind e) none
parts kind (args_more e c r) = branch Label.expr (parts kind e) (leaf c (parts kind r))
parts kind (init_of k c v) = branch Label.primary (parts kind k) (leaf c (branch Label.expr (parts kind v) none))
parts kind (inits_one e) = branch Label.rec_init (parts kind e) none
parts kind (inits_more e c r) = branch Label.rec_init (parts kind e) (leaf c (parts kind r))
parts kind (literal x) = branch (literal_label (kind x)) (leaf x none) none
parts kind (slot x) = branch Label.slot (leaf x none) none
parts kind (reference r) = branch Label.ref (parts kind r) none
parts kind (named n) = branch Label.name (parts kind n) none
parts kind (parens l e r) = branch Label.parens (leaf l (branch Label.expr (parts kind e) (leaf r none))) none
parts kind (list_empty l r) = branch Label.list (leaf l (leaf r none)) none
parts kind (list_of l a r) = branch Label.list (leaf l (join (parts kind a) (leaf r none))) none
parts kind (record_empty l r) = branch Label.fields (leaf l (leaf r none)) none
parts kind (record_of l a r) = branch Label.fields (leaf l (join (parts kind a) (leaf r none))) none
parts kind no_access = none
parts kind (field d x m) = branch Label.access (leaf d (branch Label.ident (leaf x none) none)) (parts kind m)
parts kind (call_empty l r m) = branch Label.access (leaf l (leaf r none)) (parts kind m)
parts kind (call l a r m) = branch Label.access (leaf l (join (parts kind a) (leaf r none))) (parts kind m)
parts kind (index l x r m) = branch Label.access (leaf l (branch Label.str (leaf x none) (leaf r none))) (parts kind m)
parts kind (member_of p m) = branch Label.primary (parts kind p) (parts kind m)
parts kind (unsigned m) = branch Label.member (parts kind m) none
parts kind (signed s u) = leaf s (parts kind u)
parts kind (products_one u) = branch Label.unary (parts kind u) none
parts kind (products_more u o r) = branch Label.unary (parts kind u) (leaf o (parts kind r))
parts kind (mult_of p) = parts kind p
parts kind (sums_one m) = branch Label.mult (parts kind m) none
parts kind (sums_more m o r) = branch Label.mult (parts kind m) (leaf o (parts kind r))
parts kind (add_of s) = parts kind s
parts kind (single a) = branch Label.add (parts kind a) none
parts kind (compare a o b) = branch Label.add (parts kind a) (branch Label.compare (leaf o (branch Label.add (parts kind b) none)) none)
parts kind (has_or_like a o b) = branch Label.add (parts kind a) (branch Label.has_or_like (leaf o (branch Label.add (parts kind b) none)) none)
parts kind (is_type a o n) = branch Label.add (parts kind a) (branch Label.is_type (leaf o (branch Label.name (parts kind n) none)) none)
parts kind (is_in a o n p b) = branch Label.add (parts kind a) (branch Label.is_type (leaf o (branch Label.name (parts kind n) (leaf p (branch Label.add (parts kind b) none)))) none)
parts kind (ands_one r) = branch Label.relation (parts kind r) none
parts kind (ands_more r o m) = branch Label.relation (parts kind r) (leaf o (parts kind m))
parts kind (ors_one a) = branch Label.and (parts kind a) none
parts kind (ors_more a o m) = branch Label.and (parts kind a) (leaf o (parts kind m))
parts kind (ors_expr o) = branch Label.or (parts kind o) none
parts kind (if_expr i c t a f b) = leaf i (branch Label.expr (parts kind c) (leaf t (branch Label.expr (parts kind a) (leaf f (branch Label.expr (parts kind b) none)))))

-- a token that is a node of its own
abbrev pub node_of : {A : Type 0} → Label → A → Forest Label A → Forest Label A
node_of l a others = branch l (leaf a none) others

-- the same for the parts of a policy
abbrev pub part_parts : {A : Type 0} {k : PartKind} → (A → Kind) → Clause A k → Forest Label A
part_parts kind (variable_bare v) = node_of Label.ident v none
part_parts kind (variable_is v i n) = node_of Label.ident v (leaf i (branch Label.name (parts kind n) none))
part_parts kind (variable_op v o a) = node_of Label.ident v (leaf o (branch Label.add (parts kind a) none))
part_parts kind (variable_is_op v i n o a) = node_of Label.ident v (leaf i (branch Label.name (parts kind n) (leaf o (branch Label.add (parts kind a) none))))
part_parts kind (cond_of k l e r) = node_of Label.ident k (leaf l (branch Label.expr (parts kind e) (leaf r none)))
part_parts kind no_cond = none
part_parts kind (conds_more c m) = branch Label.condition (part_parts kind c) (part_parts kind m)
part_parts kind (annotation_bare a k) = leaf a (node_of Label.ident k none)
part_parts kind (annotation_value a k l s r) = leaf a (node_of Label.ident k (leaf l (node_of Label.str s (leaf r none))))
part_parts kind no_annotation = none
part_parts kind (annotations_more a m) = branch Label.annotation (part_parts kind a) (part_parts kind m)
part_parts kind (policy_of ns e l p c a d r q cs s) =
    join (part_parts kind ns)
    (node_of Label.ident e
    (leaf l (branch Label.variable (part_parts kind p) (leaf c (branch Label.variable (part_parts kind a) (leaf d (branch Label.variable (part_parts kind r)
    (leaf q (join (part_parts kind cs) (leaf s none))))))))))

-- the policies in a row
abbrev pub policy_trees : {A : Type 0} → (A → Kind) → List (Clause A policy) → Forest Label A
policy_trees kind [] = none
policy_trees kind (p ∷ ps) = branch Label.policy (part_parts kind p) (policy_trees kind ps)

-- the tree of a policy set
abbrev pub set_tree : {A : Type 0} → (A → Kind) → List (Clause A policy) → Forest Label A
set_tree kind ps = branch Label.policies (policy_trees kind ps) none

-- the leaves in order
abbrev pub tree_yield : {A : Type 0} {k : NodeKind} → Tree A k → List A
tree_yield (name_one x) = x ∷ []
tree_yield (name_more x c r) = x ∷ c ∷ tree_yield r
tree_yield (ref_of n c s) = tree_yield n ++ c ∷ s ∷ []
tree_yield (args_one e) = tree_yield e
tree_yield (args_more e c r) = tree_yield e ++ c ∷ tree_yield r
tree_yield (init_of k c v) = tree_yield k ++ c ∷ tree_yield v
tree_yield (inits_one e) = tree_yield e
tree_yield (inits_more e c r) = tree_yield e ++ c ∷ tree_yield r
tree_yield (literal x) = x ∷ []
tree_yield (slot x) = x ∷ []
tree_yield (reference r) = tree_yield r
tree_yield (named n) = tree_yield n
tree_yield (parens l e r) = l ∷ tree_yield e ++ r ∷ []
tree_yield (list_empty l r) = l ∷ r ∷ []
tree_yield (list_of l a r) = l ∷ tree_yield a ++ r ∷ []
tree_yield (record_empty l r) = l ∷ r ∷ []
tree_yield (record_of l a r) = l ∷ tree_yield a ++ r ∷ []
tree_yield no_access = []
tree_yield (field d x m) = d ∷ x ∷ tree_yield m
tree_yield (call_empty l r m) = l ∷ r ∷ tree_yield m
tree_yield (call l a r m) = l ∷ tree_yield a ++ r ∷ tree_yield m
tree_yield (index l x r m) = l ∷ x ∷ r ∷ tree_yield m
tree_yield (member_of p m) = tree_yield p ++ tree_yield m
tree_yield (unsigned m) = tree_yield m
tree_yield (signed s u) = s ∷ tree_yield u
tree_yield (products_one u) = tree_yield u
tree_yield (products_more u o r) = tree_yield u ++ o ∷ tree_yield r
tree_yield (mult_of p) = tree_yield p
tree_yield (sums_one m) = tree_yield m
tree_yield (sums_more m o r) = tree_yield m ++ o ∷ tree_yield r
tree_yield (add_of s) = tree_yield s
tree_yield (single a) = tree_yield a
tree_yield (compare a o b) = tree_yield a ++ o ∷ tree_yield b
tree_yield (has_or_like a o b) = tree_yield a ++ o ∷ tree_yield b
tree_yield (is_type a o n) = tree_yield a ++ o ∷ tree_yield n
tree_yield (is_in a o n p b) = tree_yield a ++ (o ∷ (tree_yield n ++ (p ∷ tree_yield b)))
tree_yield (ands_one r) = tree_yield r
tree_yield (ands_more r o m) = tree_yield r ++ o ∷ tree_yield m
tree_yield (ors_one a) = tree_yield a
tree_yield (ors_more a o m) = tree_yield a ++ o ∷ tree_yield m
tree_yield (ors_expr o) = tree_yield o
tree_yield (if_expr i c t a f b) = i ∷ (tree_yield c ++ (t ∷ (tree_yield a ++ (f ∷ tree_yield b))))

-- the same for the parts of a policy
abbrev pub part_yield : {A : Type 0} {k : PartKind} → Clause A k → List A
part_yield (variable_bare v) = v ∷ []
part_yield (variable_is v i n) = v ∷ i ∷ tree_yield n
part_yield (variable_op v o a) = v ∷ o ∷ tree_yield a
part_yield (variable_is_op v i n o a) = v ∷ i ∷ tree_yield n ++ o ∷ tree_yield a
part_yield (cond_of k l e r) = k ∷ l ∷ tree_yield e ++ r ∷ []
part_yield no_cond = []
part_yield (conds_more c m) = part_yield c ++ part_yield m
part_yield (annotation_bare a k) = a ∷ k ∷ []
part_yield (annotation_value a k l s r) = a ∷ k ∷ l ∷ s ∷ r ∷ []
part_yield no_annotation = []
part_yield (annotations_more a m) = part_yield a ++ part_yield m
part_yield (policy_of ns e l p c a d r q cs s) = part_yield ns ++ (e ∷ (l ∷ (part_yield p ++ (c ∷ (part_yield a ++ (d ∷ (part_yield r ++ (q ∷ (part_yield cs ++ (s ∷ []))))))))))

-- the tree with each leaf changed by f
abbrev pub tree_map : {A B : Type 0} {k : NodeKind} → (A → B) → Tree A k → Tree B k
tree_map f (name_one x) = name_one (f x)
tree_map f (name_more x c r) = name_more (f x) (f c) (tree_map f r)
tree_map f (ref_of n c s) = ref_of (tree_map f n) (f c) (f s)
tree_map f (args_one e) = args_one (tree_map f e)
tree_map f (args_more e c r) = args_more (tree_map f e) (f c) (tree_map f r)
tree_map f (init_of k c v) = init_of (tree_map f k) (f c) (tree_map f v)
tree_map f (inits_one e) = inits_one (tree_map f e)
tree_map f (inits_more e c r) = inits_more (tree_map f e) (f c) (tree_map f r)
tree_map f (literal x) = literal (f x)
tree_map f (slot x) = slot (f x)
tree_map f (reference r) = reference (tree_map f r)
tree_map f (named n) = named (tree_map f n)
tree_map f (parens l e r) = parens (f l) (tree_map f e) (f r)
tree_map f (list_empty l r) = list_empty (f l) (f r)
tree_map f (list_of l a r) = list_of (f l) (tree_map f a) (f r)
tree_map f (record_empty l r) = record_empty (f l) (f r)
tree_map f (record_of l a r) = record_of (f l) (tree_map f a) (f r)
tree_map f no_access = no_access
tree_map f (field d x m) = field (f d) (f x) (tree_map f m)
tree_map f (call_empty l r m) = call_empty (f l) (f r) (tree_map f m)
tree_map f (call l a r m) = call (f l) (tree_map f a) (f r) (tree_map f m)
tree_map f (index l x r m) = index (f l) (f x) (f r) (tree_map f m)
tree_map f (member_of p m) = member_of (tree_map f p) (tree_map f m)
tree_map f (unsigned m) = unsigned (tree_map f m)
tree_map f (signed s u) = signed (f s) (tree_map f u)
tree_map f (products_one u) = products_one (tree_map f u)
tree_map f (products_more u o r) = products_more (tree_map f u) (f o) (tree_map f r)
tree_map f (mult_of p) = mult_of (tree_map f p)
tree_map f (sums_one m) = sums_one (tree_map f m)
tree_map f (sums_more m o r) = sums_more (tree_map f m) (f o) (tree_map f r)
tree_map f (add_of s) = add_of (tree_map f s)
tree_map f (single a) = single (tree_map f a)
tree_map f (compare a o b) = compare (tree_map f a) (f o) (tree_map f b)
tree_map f (has_or_like a o b) = has_or_like (tree_map f a) (f o) (tree_map f b)
tree_map f (is_type a o n) = is_type (tree_map f a) (f o) (tree_map f n)
tree_map f (is_in a o n p b) = is_in (tree_map f a) (f o) (tree_map f n) (f p) (tree_map f b)
tree_map f (ands_one r) = ands_one (tree_map f r)
tree_map f (ands_more r o m) = ands_more (tree_map f r) (f o) (tree_map f m)
tree_map f (ors_one a) = ors_one (tree_map f a)
tree_map f (ors_more a o m) = ors_more (tree_map f a) (f o) (tree_map f m)
tree_map f (ors_expr o) = ors_expr (tree_map f o)
tree_map f (if_expr i c t a g b) = if_expr (f i) (tree_map f c) (f t) (tree_map f a) (f g) (tree_map f b)

-- the tree with its first leaf changed by f
abbrev pub map_first : {A : Type 0} {k : NodeKind} → (A → A) → Tree A k → Tree A k
map_first f (name_one x) = name_one (f x)
map_first f (name_more x c r) = name_more (f x) c r
map_first f (ref_of n c s) = ref_of (map_first f n) c s
map_first f (args_one e) = args_one (map_first f e)
map_first f (args_more e c r) = args_more (map_first f e) c r
map_first f (init_of k c v) = init_of (map_first f k) c v
map_first f (inits_one e) = inits_one (map_first f e)
map_first f (inits_more e c r) = inits_more (map_first f e) c r
map_first f (literal x) = literal (f x)
map_first f (slot x) = slot (f x)
map_first f (reference r) = reference (map_first f r)
map_first f (named n) = named (map_first f n)
map_first f (parens l e r) = parens (f l) e r
map_first f (list_empty l r) = list_empty (f l) r
map_first f (list_of l a r) = list_of (f l) a r
map_first f (record_empty l r) = record_empty (f l) r
map_first f (record_of l a r) = record_of (f l) a r
map_first f no_access = no_access
map_first f (field d x m) = field (f d) x m
map_first f (call_empty l r m) = call_empty (f l) r m
map_first f (call l a r m) = call (f l) a r m
map_first f (index l x r m) = index (f l) x r m
map_first f (member_of p m) = member_of (map_first f p) m
map_first f (unsigned m) = unsigned (map_first f m)
map_first f (signed s u) = signed (f s) u
map_first f (products_one u) = products_one (map_first f u)
map_first f (products_more u o r) = products_more (map_first f u) o r
map_first f (mult_of p) = mult_of (map_first f p)
map_first f (sums_one m) = sums_one (map_first f m)
map_first f (sums_more m o r) = sums_more (map_first f m) o r
map_first f (add_of s) = add_of (map_first f s)
map_first f (single a) = single (map_first f a)
map_first f (compare a o b) = compare (map_first f a) o b
map_first f (has_or_like a o b) = has_or_like (map_first f a) o b
map_first f (is_type a o n) = is_type (map_first f a) o n
map_first f (is_in a o n p b) = is_in (map_first f a) o n p b
map_first f (ands_one r) = ands_one (map_first f r)
map_first f (ands_more r o m) = ands_more (map_first f r) o m
map_first f (ors_one a) = ors_one (map_first f a)
map_first f (ors_more a o m) = ors_more (map_first f a) o m
map_first f (ors_expr o) = ors_expr (map_first f o)
map_first f (if_expr i c t a g b) = if_expr (f i) c t a g b
