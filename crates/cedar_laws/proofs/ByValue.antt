-- A tree has the same document as the tree without leading zeros in its numbers.
use Rattle.std.proofs.Common.{◌≡◌, ℤ, Bool, ◌&&◌, List, [], ◌∷◌, map, refl, ap, sym, ◌∙◌}
use Rattle.std.specs.Prelude.{pos, if◌then◌else◌}
use Rattle.std.proofs.lemmas.List.{map-append}
use Rattle.cedar_tokens.specs.Listing.{Decorated}
use Rattle.cedar_layout.specs.Layout.{Doc, nil, line, line_or_nil, hard, text, ◌·◌, nest, group}
use Rattle.cedar_grammar.specs.TypedTrees.{Tree, NodeKind, PartKind, Clause, name, accesses, variable, parts, tree_yield, conds, policy, name_one, name_more, ref_of, args_one, args_more, init_of, inits_one, inits_more, literal, slot, reference, named, parens, list_empty, list_of, record_empty, record_of, no_access, field, call_empty, call, index, member_of, unsigned, signed, products_one, products_more, mult_of, sums_one, sums_more, add_of, single, compare, has_or_like, is_type, is_in, ands_one, ands_more, ors_one, ors_more, ors_expr, if_expr, variable_bare, variable_is, variable_op, variable_is_op, cond_of, no_cond, conds_more, annotation_bare, annotation_value, no_annotation, annotations_more, policy_of, part_yield, tree_map, map_first, expr}
use Rattle.cedar_grammar.specs.Trees.{yield}
use Rattle.cedar_grammar.proofs.Trees.FirstLeaf.{map_first_map}
use Rattle.cedar_grammar.proofs.Trees.Laws.{typed_leaves}
use Rattle.cedar_laws.specs.Leaves.{part_map}
use Rattle.cedar_laws.specs.Table.{literal_kind, space, printed, C, lead, tok, trail, lead_of, table, part_table, break_after_field, break_after_other, between_conds, is_bare, type_part, lines_of_first, bare_token, variables, scope}
use Rattle.cedar_laws.specs.Output.{with_value, tokens_of}
use Rattle.cedar_laws.proofs.Values.{value_once}

-- ---- leaves

pub yield_map : {A B : Type 0} {k : NodeKind} (f : A → B) (t : Tree A k)
    → tree_yield (tree_map f t) ≡ map f (tree_yield t)
yield_map f (name_one x) = refl
yield_map f (name_more x c r) = simp (yield_map f r)
yield_map f (ref_of n c s) = simp (map-append, yield_map f n)
yield_map f (args_one e) = yield_map f e
yield_map f (args_more e c r) = simp (map-append, yield_map f e, yield_map f r)
yield_map f (init_of k c v) = simp (map-append, yield_map f k, yield_map f v)
yield_map f (inits_one e) = yield_map f e
yield_map f (inits_more e c r) = simp (map-append, yield_map f e, yield_map f r)
yield_map f (literal x) = refl
yield_map f (slot x) = refl
yield_map f (reference r) = yield_map f r
yield_map f (named n) = yield_map f n
yield_map f (parens l e r) = simp (map-append, yield_map f e)
yield_map f (list_empty l r) = refl
yield_map f (list_of l a r) = simp (map-append, yield_map f a)
yield_map f (record_empty l r) = refl
yield_map f (record_of l a r) = simp (map-append, yield_map f a)
yield_map f no_access = refl
yield_map f (field d x m) = simp (yield_map f m)
yield_map f (call_empty l r m) = simp (yield_map f m)
yield_map f (call l a r m) = simp (map-append, yield_map f a, yield_map f m)
yield_map f (index l x r m) = simp (yield_map f m)
yield_map f (member_of p m) = simp (map-append, yield_map f p, yield_map f m)
yield_map f (unsigned m) = yield_map f m
yield_map f (signed s u) = simp (yield_map f u)
yield_map f (products_one u) = yield_map f u
yield_map f (products_more u o r) = simp (map-append, yield_map f u, yield_map f r)
yield_map f (mult_of p) = yield_map f p
yield_map f (sums_one m) = yield_map f m
yield_map f (sums_more m o r) = simp (map-append, yield_map f m, yield_map f r)
yield_map f (add_of s) = yield_map f s
yield_map f (single a) = yield_map f a
yield_map f (compare a o b) = simp (map-append, yield_map f a, yield_map f b)
yield_map f (has_or_like a o b) = simp (map-append, yield_map f a, yield_map f b)
yield_map f (is_type a o n) = simp (map-append, yield_map f a, yield_map f n)
yield_map f (is_in a o n p b) = simp (map-append, yield_map f a, yield_map f n, yield_map f b)
yield_map f (ands_one r) = yield_map f r
yield_map f (ands_more r o m) = simp (map-append, yield_map f r, yield_map f m)
yield_map f (ors_one a) = yield_map f a
yield_map f (ors_more a o m) = simp (map-append, yield_map f a, yield_map f m)
yield_map f (ors_expr o) = yield_map f o
yield_map f (if_expr i c t a h b) = simp (map-append, yield_map f c, yield_map f a, yield_map f b)

pub part_yield_map : {A B : Type 0} {k : PartKind} (f : A → B) (t : Clause A k)
    → part_yield (part_map f t) ≡ map f (part_yield t)
part_yield_map f (variable_bare v) = refl
part_yield_map f (variable_is v i n) = simp (yield_map f n)
part_yield_map f (variable_op v o a) = simp (yield_map f a)
part_yield_map f (variable_is_op v i n o a) = simp (map-append, yield_map f n, yield_map f a)
part_yield_map f (cond_of k l e r) = simp (map-append, yield_map f e)
part_yield_map f no_cond = refl
part_yield_map f (conds_more c m) = simp (map-append, part_yield_map f c, part_yield_map f m)
part_yield_map f (annotation_bare a k) = refl
part_yield_map f (annotation_value a k l s r) = refl
part_yield_map f no_annotation = refl
part_yield_map f (annotations_more a m) = simp (map-append, part_yield_map f a, part_yield_map f m)
part_yield_map f (policy_of ns e l p c a d r q cs s) = simp (
  map-append,
  part_yield_map f ns,
  part_yield_map f p,
  part_yield_map f a,
  part_yield_map f r,
  part_yield_map f cs,
)

-- ---- documents

same2 : (f : Doc → Doc → Doc) {a1 b1 a2 b2 : Doc} → a1 ≡ b1 → a2 ≡ b2 → f a1 a2 ≡ f b1 b2
same2 f {b1 = b1} {a2 = a2} p1 p2 = ap (λ z. f z a2) p1 ∙ ap (λ z. f b1 z) p2

same3 : (f : Doc → Doc → Doc → Doc) {a1 b1 a2 b2 a3 b3 : Doc} → a1 ≡ b1 → a2 ≡ b2 → a3 ≡ b3
    → f a1 a2 a3 ≡ f b1 b2 b3
same3 f {b1 = b1} {a2 = a2} {a3 = a3} p1 p2 p3 =
    ap (λ z. f z a2 a3) p1 ∙ same2 (λ z2 z3. f b1 z2 z3) p2 p3

same4 : (f : Doc → Doc → Doc → Doc → Doc) {a1 b1 a2 b2 a3 b3 a4 b4 : Doc} → a1 ≡ b1 → a2 ≡ b2
    → a3 ≡ b3 → a4 ≡ b4 → f a1 a2 a3 a4 ≡ f b1 b2 b3 b4
same4 f {b1 = b1} {a2 = a2} {a3 = a3} {a4 = a4} p1 p2 p3 p4 =
    ap (λ z. f z a2 a3 a4) p1 ∙ same3 (λ z2 z3 z4. f b1 z2 z3 z4) p2 p3 p4

same5 : (f : Doc → Doc → Doc → Doc → Doc → Doc) {a1 b1 a2 b2 a3 b3 a4 b4 a5 b5 : Doc} → a1 ≡ b1
    → a2 ≡ b2 → a3 ≡ b3 → a4 ≡ b4 → a5 ≡ b5 → f a1 a2 a3 a4 a5 ≡ f b1 b2 b3 b4 b5
same5 f {b1 = b1} {a2 = a2} {a3 = a3} {a4 = a4} {a5 = a5} p1 p2 p3 p4 p5 =
    ap (λ z. f z a2 a3 a4 a5) p1 ∙ same4 (λ z2 z3 z4 z5. f b1 z2 z3 z4 z5) p2 p3 p4 p5

same6 : (f : Doc → Doc → Doc → Doc → Doc → Doc → Doc) {a1 b1 a2 b2 a3 b3 a4 b4 a5 b5 a6 b6 : Doc}
    → a1 ≡ b1 → a2 ≡ b2 → a3 ≡ b3 → a4 ≡ b4 → a5 ≡ b5 → a6 ≡ b6
    → f a1 a2 a3 a4 a5 a6 ≡ f b1 b2 b3 b4 b5 b6
same6 f {b1 = b1} {a2 = a2} {a3 = a3} {a4 = a4} {a5 = a5} {a6 = a6} p1 p2 p3 p4 p5 p6 =
    ap (λ z. f z a2 a3 a4 a5 a6) p1 ∙ same5 (λ z2 z3 z4 z5 z6. f b1 z2 z3 z4 z5 z6) p2 p3 p4 p5 p6

tok_value : (x : Decorated) → tok (with_value x) ≡ tok x
tok_value x = ap text (value_once x.text)

C_value : (x : Decorated) (next : Doc) → C (with_value x) next ≡ C x next
C_value x next = ap (λ z. lead x · z · trail x next) (tok_value x)

leaf_value : (x : Decorated) → printed (with_value x) ≡ printed x
leaf_value x = C_value x nil

field_value : (m : Tree Decorated accesses)
    → break_after_field (tree_map with_value m) ≡ break_after_field m
field_value no_access = refl
field_value (call_empty l r m) = refl
field_value (call l a r m) = refl
field_value (field d x m) = refl
field_value (index l x r m) = refl

other_value : (m : Tree Decorated accesses)
    → break_after_other (tree_map with_value m) ≡ break_after_other m
other_value no_access = refl
other_value (call_empty l r m) = refl
other_value (call l a r m) = refl
other_value (field d x m) = refl
other_value (index l x r m) = refl

pub table_value : {k : NodeKind} (i : ℤ) (t : Tree Decorated k)
    → table i (tree_map with_value t) ≡ table i t
table_value i (name_one x) = leaf_value x
table_value i (name_more x c r) =
    same3 (λ d1 d2 d3. d1 · d2 · d3) (leaf_value x) (leaf_value c) (table_value i r)
table_value i (ref_of n c s) =
    same3 (λ d1 d2 d3. d1 · d2 · d3) (table_value i n) (leaf_value c) (leaf_value s)
table_value i (args_one e) = table_value i e
table_value i (args_more e c r) =
    same3 (λ d1 d2 d3. d1 · d2 · line · d3) (table_value i e) (leaf_value c) (table_value i r)
table_value i (init_of k c v) =
    same3 (λ d1 d2 d3. d1 · d2 · space · d3) (table_value i k) (leaf_value c) (table_value i v)
table_value i (inits_one e) = table_value i e
table_value i (inits_more e c r) =
    same3 (λ d1 d2 d3. d1 · d2 · line · d3) (table_value i e) (leaf_value c) (table_value i r)
table_value i (literal x) = leaf_value x
table_value i (slot x) = leaf_value x
table_value i (reference r) = table_value i r
table_value i (named n) = table_value i n
table_value i (parens l e r) = same3 (λ d1 d2 d3. group (d1 · nest (pos 1) (d2) · d3))
    (leaf_value l) (table_value i e) (leaf_value r)
table_value i (list_empty l r) =
    same2 (λ d1 d2. d1 · nest (pos 1) nil · d2) (leaf_value l) (leaf_value r)
table_value i (list_of l a r) =
    same3 (λ d1 d2 d3. d1 · nest (pos 1) (d2) · d3) (leaf_value l) (table_value i a) (leaf_value r)
table_value i (record_empty l r) = same2 (λ d1 d2. d1 · d2) (leaf_value l) (leaf_value r)
table_value i (record_of l a r) = same3 (λ d1 d2 d3. d1 · nest i (group (line · d2 · line)) · d3)
    (leaf_value l) (table_value i a) (leaf_value r)
table_value i no_access = refl
table_value i (field d x m) = same4 (λ d1 d2 d3 d4. d1 · d2 · d3 · d4) (leaf_value d) (leaf_value x)
    (field_value m) (table_value i m)
table_value i (call_empty l r m) = same4 (λ d1 d2 d3 d4. d1 · d2 · d3 · d4) (leaf_value l)
    (leaf_value r) (other_value m) (table_value i m)
table_value i (call l a r m) =
    same5 (λ d1 d2 d3 d4 d5. d1 · nest i (line_or_nil · d2) · line_or_nil · d3 · d4 · d5)
    (leaf_value l) (table_value i a) (leaf_value r) (other_value m) (table_value i m)
table_value i (index l x r m) = same5 (λ d1 d2 d3 d4 d5. d1 · d2 · d3 · d4 · d5) (leaf_value l)
    (leaf_value x) (leaf_value r) (other_value m) (table_value i m)
table_value i (member_of p m) =
    same2 (λ d1 d2. group (d1 · nest i (d2))) (table_value i p) (table_value i m)
table_value i (unsigned m) = table_value i m
table_value i (signed s u) = same2 (λ d1 d2. d1 · d2) (leaf_value s) (table_value i u)
table_value i (products_one u) = table_value i u
table_value i (products_more u o r) = same3 (λ d1 d2 d3. d1 · space · d2 · line · d3)
    (table_value i u) (leaf_value o) (table_value i r)
table_value i (mult_of p) = ap (λ d1. group (d1)) (table_value i p)
table_value i (sums_one m) = table_value i m
table_value i (sums_more m o r) = same3 (λ d1 d2 d3. d1 · space · d2 · line · d3) (table_value i m)
    (leaf_value o) (table_value i r)
table_value i (add_of s) = ap (λ d1. group (d1)) (table_value i s)
table_value i (single a) = table_value i a
table_value i (compare a o b) = same3 (λ d1 d2 d3. d1 · space · d2 · space · d3) (table_value i a)
    (leaf_value o) (table_value i b)
table_value i (has_or_like a o b) = same3 (λ d1 d2 d3. group (d1 · line · d2 · line · nest i (d3)))
    (table_value i a) (leaf_value o) (table_value i b)
table_value i (is_type a o n) = same3 (λ d1 d2 d3. group (d1 · space · d2 · space · nest i (d3)))
    (table_value i a) (leaf_value o) (table_value i n)
table_value i (is_in a o n p b) = same5 (λ d1 d2 d3 d4 d5.
    group (d1 · space · d2 · space · nest i (d3) · line · d4 · space · nest i (d5)))
    (table_value i a) (leaf_value o) (table_value i n) (leaf_value p) (table_value i b)
table_value i (ands_one r) = table_value i r
table_value i (ands_more r o m) =
    same3 (λ d1 d2 d3. d1 · space · d2 · d3) (table_value i r) (C_value o line) (table_value i m)
table_value i (ors_one a) = table_value i a
table_value i (ors_more a o m) =
    same3 (λ d1 d2 d3. d1 · space · d2 · d3) (table_value i a) (C_value o line) (table_value i m)
table_value i (ors_expr o) = table_value i o
table_value i (if_expr f c t a e b) = same6 (λ d1 d2 d3 d4 d5 d6. group (d1 · nest i (line · d2)
    · line · d3 · nest i (line · d4) · line · d5 · nest i (line · d6))) (leaf_value f)
    (table_value i c) (leaf_value t) (table_value i a) (leaf_value e) (table_value i b)

bare_table : {k : NodeKind} (i : ℤ) (t : Tree Decorated k)
    → table i (map_first bare_token (tree_map with_value t)) ≡ table i (map_first bare_token t)
bare_table i t = ap (table i) (map_first_map bare_token bare_token with_value (λ a. refl) t)
    ∙ table_value i (map_first bare_token t)

first_value : {k : NodeKind} (t : Tree Decorated k) → lines_of_first (yield
    (parts literal_kind (tree_map with_value t))) ≡ lines_of_first (yield (parts literal_kind t))
first_value t =
    ap lines_of_first (typed_leaves literal_kind (tree_map with_value t) ∙ yield_map with_value t)
    ∙ (go (tree_yield t) ∙ ap lines_of_first (sym (typed_leaves literal_kind t)))
  where
    go : (xs : List Decorated) → lines_of_first (map with_value xs) ≡ lines_of_first xs
    go [] = refl
    go (x ∷ xs) = refl

bare_value : (v : Clause Decorated variable) → is_bare (part_map with_value v) ≡ is_bare v
bare_value (variable_bare v) = refl
bare_value (variable_is v i n) = refl
bare_value (variable_op v o a) = refl
bare_value (variable_is_op v i n o a) = refl

between_value : (m : Clause Decorated conds)
    → between_conds (part_map with_value m) ≡ between_conds m
between_value no_cond = refl
between_value (conds_more c m) = refl

bare_values : (p a r : Clause Decorated variable)
    → (is_bare (part_map with_value p) && is_bare (part_map with_value a)
    && is_bare (part_map with_value r)) ≡ (is_bare p && is_bare a && is_bare r)
bare_values p a r = rw (bare_value p, bare_value a, bare_value r) refl

type_value : (i : ℤ) (is : Decorated) (n : Tree Decorated name)
    → type_part i (with_value is) (table i (tree_map with_value n)) ≡ type_part i is (table i n)
type_value i is n =
    same2 (λ d e. group (nest i (group (line · d) · line · e))) (leaf_value is) (table_value i n)

-- the effect of a policy and the bracket after it
abbrev head : Decorated → Decorated → Doc
head e l = lead e · group (tok e · trail e nil · line · printed l)

head_value : (e l : Decorated) → head (with_value e) (with_value l) ≡ head e l
head_value e l =
    same2 (λ x y. lead e · group (x · trail e nil · line · y)) (tok_value e) (leaf_value l)

variables_value : (next : Doc) (c d : Decorated) {p q a b r s : Doc} → p ≡ q → a ≡ b → r ≡ s
    → variables next p (with_value c) a (with_value d) r ≡ variables next q c b d s
variables_value next c d hp ha hr =
    same5 (λ x1 x2 x3 x4 x5. x1 · x2 · x3 · x4 · x5) hp (C_value c next) ha (C_value d next) hr

scope_value : (i : ℤ) {t : Bool} (u : Bool) (c d : Decorated) {p q a b r s : Doc} → t ≡ u → p ≡ q
    → a ≡ b → r ≡ s → scope i t p (with_value c) a (with_value d) r ≡ scope i u q c b d s
scope_value i u c d {p = p} {a = a} {r = r} ht hp ha hr =
    ap (λ z. scope i z p (with_value c) a (with_value d) r) ht
    ∙ same2 (λ x y. if u then group (nest i x) else (nest i (hard · y) · hard))
    (variables_value space c d hp ha hr) (variables_value hard c d hp ha hr)

-- the body of a condition
abbrev body : ℤ → Tree Decorated expr → Doc
body i e = lead_of (lines_of_first (yield (parts literal_kind e)))
    · group (table i (map_first bare_token e))

body_value : (i : ℤ) (e : Tree Decorated expr) → body i (tree_map with_value e) ≡ body i e
body_value i e = same2 (λ x y. x · group y) (ap lead_of (first_value e)) (bare_table i e)

pub part_table_value : {k : PartKind} (i : ℤ) (t : Clause Decorated k)
    → part_table i (part_map with_value t) ≡ part_table i t
part_table_value i (variable_bare v) = leaf_value v
part_table_value i (variable_is v is n) = same2 (λ d e. d · e) (leaf_value v) (type_value i is n)
part_table_value i (variable_op v o a) =
    same3 (λ d e g. lead v · group (group (d · trail v nil · line · e) · nest i (line · g)))
    (tok_value v) (leaf_value o) (table_value i a)
part_table_value i (variable_is_op v is n o a) =
    same4 (λ d t e g. lead v · group (group ((d · trail v nil · t) · line · e) · nest i (line · g)))
    (tok_value v) (type_value i is n) (leaf_value o) (table_value i a)
part_table_value i (cond_of k l e r) =
    same4 (λ a b c d.
    lead k · group (a · trail k line · lead l · b · group (nest i (trail l line · c) · line · d)))
    (tok_value k) (tok_value l) (body_value i e) (leaf_value r)
part_table_value i no_cond = refl
part_table_value i (conds_more c m) =
    same3 (λ d e g. d · e · g) (part_table_value i c) (between_value m) (part_table_value i m)
part_table_value i (annotation_bare a k) = same2 (λ d e. d · e · hard) (leaf_value a) (leaf_value k)
part_table_value i (annotation_value a k l s r) = same5 (λ d e g h j. d · e · g · h · j)
    (leaf_value a) (leaf_value k) (leaf_value l) (leaf_value s) (C_value r hard)
part_table_value i no_annotation = refl
part_table_value i (annotations_more a m) =
    same2 (λ d e. d · e) (part_table_value i a) (part_table_value i m)
part_table_value i (policy_of ns e l p c a d r q cs s) =
    same6 (λ x1 x2 x3 x4 x5 x6. x1 · x2 · x3 · x4 · x5 · x6) (part_table_value i ns)
    (head_value e l)
    (scope_value i (is_bare p && is_bare a && is_bare r) c d (bare_values p a r)
    (part_table_value i p) (part_table_value i a) (part_table_value i r))
    (C_value q (between_conds (part_map with_value cs)) ∙ ap (C q) (between_value cs))
    (part_table_value i cs) (leaf_value s)

-- the leaves of policies
pub tokens_map : (ps : List (Clause Decorated policy))
    → tokens_of (map (part_map with_value) ps) ≡ map with_value (tokens_of ps)
tokens_map [] = refl
tokens_map (p ∷ ps) = rw (part_yield_map with_value p, tokens_map ps)
    (sym (map-append with_value (part_yield p) (tokens_of ps)))
