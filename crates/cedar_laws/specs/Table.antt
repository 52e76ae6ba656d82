-- The written table: a row for each production of the grammar, with its document at the indentation i. First what the rows
-- share; then expressions, from the whole down to names; then policies, down to conditions.
use Rattle.std.specs.Prelude.{ℕ, ℤ, pos, List, [], ◌∷◌, Bool, true, false, if◌then◌else◌, ◌&&◌}
use Rattle.cedar_tokens.specs.Listing.{Decorated, token_value}
use Rattle.cedar_grammar.specs.Trees.{yield}
use Rattle.cedar_tokens.specs.declared.kind.Kind.{Kind}
use Rattle.cedar_tokens.specs.TokenKinds.{other_kind}
use Rattle.cedar_grammar.specs.TypedTrees.{Tree, NodeKind, PartKind, Clause, accesses, variable, parts, map_first, conds, name_one, name_more, ref_of, args_one, args_more, init_of, inits_one, inits_more, literal, slot, reference, named, parens, list_empty, list_of, record_empty, record_of, no_access, field, call_empty, call, index, member_of, unsigned, signed, products_one, products_more, mult_of, sums_one, sums_more, add_of, single, compare, has_or_like, is_type, is_in, ands_one, ands_more, ors_one, ors_more, ors_expr, if_expr, variable_bare, variable_is, variable_op, variable_is_op, cond_of, no_cond, conds_more, annotation_bare, annotation_value, no_annotation, annotations_more, policy_of}
pub use Rattle.cedar_layout.specs.Comments.{space, broken_lines, lead_of, trail_of}
use Rattle.cedar_layout.specs.Layout.{Doc, nil, line, line_or_nil, hard, text, ◌·◌, nest, group}

-- ---- tokens

-- the leading lines of a token
abbrev pub lead : Decorated → Doc
lead t = lead_of t.leading

-- its text
abbrev pub tok : Decorated → Doc
tok t = text (token_value t.text)

-- its trailing text, or `next` if it has none
abbrev pub trail : Decorated → Doc → Doc
trail t next = trail_of t.trailing next

-- a token between its comments
abbrev pub C : Decorated → Doc → Doc
C t next = lead t · tok t · trail t next

-- the same with nothing in place of a missing trailing text
abbrev pub printed : Decorated → Doc
printed t = C t nil

-- the leading lines of a node's first token
abbrev pub lines_of_first : List Decorated → List (List ℕ)
lines_of_first [] = []
lines_of_first (x ∷ xs) = x.leading

-- the kind of a literal, by its first byte
abbrev pub literal_kind : Decorated → Kind
literal_kind t = other_kind t.text

-- a token without its leading lines
abbrev pub bare_token : Decorated → Decorated
bare_token t = record t { leading = [] }

-- ---- expressions

-- the break before an access, none before the first: a call follows a field at once
abbrev pub break_after_field : Tree Decorated accesses → Doc
break_after_field no_access = nil
break_after_field (call_empty l r m) = nil
break_after_field (call l a r m) = nil
break_after_field _ = line_or_nil

-- the same after another access
abbrev pub break_after_other : Tree Decorated accesses → Doc
break_after_other no_access = nil
break_after_other _ = line_or_nil

-- the document of each node of an expression
abbrev pub table : {k : NodeKind} → ℤ → Tree Decorated k → Doc
table i (ors_expr o) = table i o
table i (if_expr f c t a e b) = group (printed f · nest i (line · table i c) · line · printed t · nest i (line · table i a) · line · printed e · nest i (line · table i b))
table i (ors_one a) = table i a
table i (ors_more a o m) = table i a · space · C o line · table i m
table i (ands_one r) = table i r
table i (ands_more r o m) = table i r · space · C o line · table i m
table i (single a) = table i a
table i (compare a o b) = table i a · space · printed o · space · table i b
table i (has_or_like a o b) = group (table i a · line · printed o · line · nest i (table i b))
table i (is_type a o n) = group (table i a · space · printed o · space · nest i (table i n))
table i (is_in a o n p b) = group (table i a · space · printed o · space · nest i (table i n) · line · printed p · space · nest i (table i b))
table i (add_of s) = group (table i s)
table i (sums_one m) = table i m
table i (sums_more m o r) = table i m · space · printed o · line · table i r
table i (mult_of p) = group (table i p)
table i (products_one u) = table i u
table i (products_more u o r) = table i u · space · printed o · line · table i r
table i (unsigned m) = table i m
table i (signed s u) = printed s · table i u
table i (member_of p m) = group (table i p · nest i (table i m))
table i no_access = nil
table i (field d x m) = printed d · printed x · break_after_field m · table i m
table i (call_empty l r m) = printed l · printed r · break_after_other m · table i m
table i (call l a r m) = printed l · nest i (line_or_nil · table i a) · line_or_nil · printed r · break_after_other m · table i m
table i (index l x r m) = printed l · printed x · printed r · break_after_other m · table i m
table i (literal x) = printed x
table i (slot x) = printed x
table i (reference r) = table i r
table i (named n) = table i n
table i (parens l e r) = group (printed l · nest (pos 1) (table i e) · printed r)
table i (list_empty l r) = printed l · nest (pos 1) nil · printed r
table i (list_of l a r) = printed l · nest (pos 1) (table i a) · printed r
table i (record_empty l r) = printed l · printed r
table i (record_of l a r) = printed l · nest i (group (line · table i a · line)) · printed r
table i (inits_one e) = table i e
table i (inits_more e c r) = table i e · printed c · line · table i r
table i (init_of k c v) = table i k · printed c · space · table i v
table i (args_one e) = table i e
table i (args_more e c r) = table i e · printed c · line · table i r
table i (ref_of n c s) = table i n · printed c · printed s
table i (name_one x) = printed x
table i (name_more x c r) = printed x · printed c · table i r

-- ---- policies

-- neither `is` nor an operator
abbrev pub is_bare : Clause Decorated variable → Bool
is_bare (variable_bare v) = true
is_bare _ = false

-- three variables; `next` takes the place of a missing trailing text after a comma
abbrev pub variables : Doc → Doc → Decorated → Doc → Decorated → Doc → Doc
variables next p c a d r = p · C c next · a · C d next · r

-- the variables between the brackets: bare ones on one line if they fit, others on a line each
abbrev pub scope : ℤ → Bool → Doc → Decorated → Doc → Decorated → Doc → Doc
scope i bare p c a d r = if bare then group (nest i (variables space p c a d r)) else (nest i (hard · variables hard p c a d r) · hard)

-- the type part of a variable
abbrev pub type_part : ℤ → Decorated → Doc → Doc
type_part i is type = group (nest i (group (line · printed is) · line · type))

-- an operator, what comes before it, and what that is compared with
abbrev pub comparison : ℤ → Doc → Decorated → Doc → Doc
comparison i left o right = group (group (left · line · printed o) · nest i (line · right))

-- the break before conditions
abbrev pub between_conds : Clause Decorated conds → Doc
between_conds no_cond = nil
between_conds (conds_more c m) = hard

-- The document of each part of a policy. A condition has the leading lines of its body's first token before its group.
abbrev pub part_table : {k : PartKind} → ℤ → Clause Decorated k → Doc
part_table i (policy_of ns e l p c a d r q cs s) =
    part_table i ns
    · (lead e · group (tok e · trail e nil · line · printed l))
    · scope i (is_bare p && is_bare a && is_bare r) (part_table i p) c (part_table i a) d (part_table i r)
    · C q (between_conds cs)
    · part_table i cs
    · printed s
part_table i no_annotation = nil
part_table i (annotations_more a m) = part_table i a · part_table i m
part_table i (annotation_bare a k) = printed a · printed k · hard
part_table i (annotation_value a k l s r) = printed a · printed k · printed l · printed s · C r hard
part_table i (variable_bare v) = printed v
part_table i (variable_is v is n) = printed v · type_part i is (table i n)
part_table i (variable_op v o a) = lead v · comparison i (tok v · trail v nil) o (table i a)
part_table i (variable_is_op v is n o a) = lead v · comparison i (tok v · trail v nil · type_part i is (table i n)) o (table i a)
part_table i no_cond = nil
part_table i (conds_more c m) = part_table i c · between_conds m · part_table i m
part_table i (cond_of k l e r) =
    lead k · group (tok k · trail k line · lead l · tok l
    · group (nest i (trail l line · lead_of (lines_of_first (yield (parts literal_kind e))) · group (table i (map_first bare_token e))) · line · printed r))
