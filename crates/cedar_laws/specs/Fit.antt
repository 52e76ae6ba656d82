-- Which texts the leaves of a tree have.
use Rattle.std.specs.Prelude.{ℕ, List, [], ◌∷◌, Bool, true, false, ◌||◌, ◌==◌, ◌≡◌, codes, not, ⊤, ◌⊎◌}
use Rattle.cedar_tokens.specs.Listing.{Decorated, token_value}
use Rattle.cedar_laws.specs.Neighbours.{glues, first_or}
use Rattle.cedar_layout.specs.Cleaning.{last_byte_or}
use Rattle.cedar_grammar.specs.TypedTrees.{Tree, NodeKind, PartKind, Clause, variable_bare, variable_is, variable_op, variable_is_op, cond_of, no_cond, conds_more, annotation_bare, annotation_value, no_annotation, annotations_more, policy_of, name_one, name_more, ref_of, args_one, args_more, init_of, inits_one, inits_more, literal, slot, reference, named, parens, list_empty, list_of, record_empty, record_of, no_access, field, call_empty, call, index, member_of, unsigned, signed, products_one, products_more, mult_of, sums_one, sums_more, add_of, single, compare, has_or_like, is_type, is_in, ands_one, ands_more, ors_one, ors_more, ors_expr, if_expr}
use Rattle.cedar_tokens.specs.Bytes.{colon, equals, slash, space_character}

-- the last character of a token with this text and this trailing text, and the character before a token
-- with these leading lines: a space stands for any blank
abbrev pub after_of : List ℕ → List ℕ → ℕ
after_of w [] = last_byte_or space_character w
after_of w (c ∷ cs) = space_character

abbrev pub before_of : ℕ → List (List ℕ) → ℕ
before_of c [] = c
before_of c (l ∷ ls) = space_character

-- where a primary or a name may begin: no `:`, `/` or `=`
abbrev pub is_start : ℕ → Bool
is_start d = not ((d == colon || d == slash) || d == equals)

abbrev pub Opens : ℕ → Type 0
Opens c = (d : ℕ) → is_start d ≡ true → glues c d ≡ false

abbrev pub Ends : ℕ → Type 0
Ends c = glues c colon ≡ false

abbrev pub IsMark : List ℕ → Decorated → Type 0
IsMark s x = token_value x.text ≡ s

abbrev pub IsWord : Decorated → Type 0
IsWord x = (is_start (first_or space_character (token_value x.text)) ≡ true) × Ends (last_byte_or space_character (token_value x.text))

abbrev pub Fit : {k : NodeKind} → Tree Decorated k → Type 0
Fit (name_one x) = IsWord x
Fit (name_more x c r) = IsWord x × IsMark (codes "::") c × Fit r
Fit (ref_of n c s) = Fit n × IsMark (codes "::") c × IsWord s
Fit (args_one e) = Fit e
Fit (args_more e c r) = Fit e × IsMark (codes ",") c × Fit r
Fit (init_of k c v) = Fit k × IsMark (codes ":") c × Fit v
Fit (inits_one e) = Fit e
Fit (inits_more e c r) = Fit e × IsMark (codes ",") c × Fit r
Fit (literal x) = IsWord x
Fit (slot x) = IsWord x
Fit (reference r) = Fit r
Fit (named n) = Fit n
Fit (parens l e r) = IsMark (codes "(") l × Fit e × IsMark (codes ")") r
Fit (list_empty l r) = IsMark (codes "[") l × IsMark (codes "]") r
Fit (list_of l a r) = IsMark (codes "[") l × Fit a × IsMark (codes "]") r
Fit (record_empty l r) = IsMark (codes "{") l × IsMark (codes "}") r
Fit (record_of l a r) = IsMark (codes "{") l × Fit a × IsMark (codes "}") r
Fit no_access = ⊤
Fit (field d x m) = IsMark (codes ".") d × IsWord x × Fit m
Fit (call_empty l r m) = IsMark (codes "(") l × IsMark (codes ")") r × Fit m
Fit (call l a r m) = IsMark (codes "(") l × Fit a × IsMark (codes ")") r × Fit m
Fit (index l x r m) = IsMark (codes "[") l × IsWord x × IsMark (codes "]") r × Fit m
Fit (member_of p m) = Fit p × Fit m
Fit (unsigned m) = Fit m
Fit (signed s u) = (IsMark (codes "!") s ⊎ IsMark (codes "-") s) × Fit u
Fit (products_one u) = Fit u
Fit (products_more u o r) = Fit u × Fit r
Fit (mult_of p) = Fit p
Fit (sums_one m) = Fit m
Fit (sums_more m o r) = Fit m × Fit r
Fit (add_of s) = Fit s
Fit (single a) = Fit a
Fit (compare a o b) = Fit a × Fit b
Fit (has_or_like a o b) = Fit a × Fit b
Fit (is_type a o n) = Fit a × Fit n
Fit (is_in a o n p b) = Fit a × Fit n × Fit b
Fit (ands_one r) = Fit r
Fit (ands_more r o m) = Fit r × Fit m
Fit (ors_one a) = Fit a
Fit (ors_more a o m) = Fit a × Fit m
Fit (ors_expr o) = Fit o
Fit (if_expr f c t a e b) = IsWord f × Fit c × Fit a × Fit b

abbrev pub PartFit : {k : PartKind} → Clause Decorated k → Type 0
PartFit (variable_bare v) = IsWord v
PartFit (variable_is v i n) = IsWord v × Fit n
PartFit (variable_op v o a) = IsWord v × Fit a
PartFit (variable_is_op v i n o a) = IsWord v × Fit n × Fit a
PartFit (cond_of k l e r) = IsWord k × IsMark (codes "{") l × Fit e × IsMark (codes "}") r
PartFit no_cond = ⊤
PartFit (conds_more c m) = PartFit c × PartFit m
PartFit (annotation_bare a k) = IsMark (codes "@") a × IsWord k
PartFit (annotation_value a k l s r) = IsMark (codes "@") a × IsWord k × IsMark (codes "(") l × IsWord s × IsMark (codes ")") r
PartFit no_annotation = ⊤
PartFit (annotations_more a m) = PartFit a × PartFit m
PartFit (policy_of ns e l p c a d r q cs s) = PartFit ns × IsWord e × IsMark (codes "(") l × PartFit p × IsMark (codes ",") c × PartFit a × IsMark (codes ",") d × PartFit r × IsMark (codes ")") q × PartFit cs × IsMark (codes ";") s
