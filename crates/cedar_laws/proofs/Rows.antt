-- Worked rows, computed: units, decorated list,
-- plain list, table, layout at a width, cleaning, output.
use Rattle.std.proofs.Common.{◌≡◌, ℕ, ℤ, false, pos, List, [], ◌∷◌, ◌++◌, map, refl}
use Rattle.std.specs.Prelude.{codes, ◌==◌, if◌then◌else◌}
use Rattle.std.specs.List.{flat_map}
use Rattle.std.specs.Str.{trim_start, trim_end, chars}
use Rattle.std.specs.Char.{encode_utf8}
use Rattle.unicode_width.proofs.Computing.{unicode_width}
use Rattle.cedar_layout.specs.Layout.{Doc, columns, print, IsTheLayoutAt}
use Rattle.cedar_layout.specs.Inside.Computed.{laid}
use Rattle.cedar_layout.proofs.Rule.{laid_is_the_layout}
use Rattle.cedar_tokens.specs.Bytes.{quote, line_feed}
use Rattle.cedar_tokens.specs.Units.{slots, punctuators}
use Rattle.cedar_tokens.specs.Listing.{Decorated, with_first, listing, gaps, decorate, comments, lines, comment_of_line, without_zeros}
use Rattle.cedar_tokens.specs.PlainList.{plain_list}
use Rattle.cedar_tokens.proofs.Strings.{string_end}
use Rattle.cedar_grammar.specs.TypedTrees.{Tree, Clause, primary, member, add, relation, expr, conds, policy, tree_yield, name_one, name_more, ref_of, args_one, args_more, init_of, inits_one, inits_more, literal, slot, reference, named, parens, list_empty, list_of, record_empty, record_of, no_access, field, call_empty, call, index, member_of, unsigned, signed, products_one, products_more, mult_of, sums_one, sums_more, add_of, single, compare, has_or_like, is_type, is_in, ands_one, ands_more, ors_one, ors_more, ors_expr, if_expr, variable_bare, variable_is, variable_op, variable_is_op, cond_of, no_cond, conds_more, annotation_bare, annotation_value, no_annotation, annotations_more, policy_of}
use Rattle.cedar_laws.specs.Table.{table, part_table}
use Rattle.cedar_laws.specs.Output.{paragraphs, closing_text, PolicyTexts, IsOutput, tokens_of}
use Rattle.cedar_laws.proofs.Cutting.{cleaned_text, text_is_cleaned}

-- the output, computed
abbrev laid_text : ℕ → Doc → List ℕ
laid_text w d = flat_map print (laid w d false 0 0 0)

abbrev output_text : ℕ → ℤ → List (Clause Decorated policy) → List (List ℕ) → List ℕ
output_text w i ps cs =
    paragraphs (map (λ p. cleaned_text (laid_text w (part_table i p))) ps) ++
    (line_feed ∷ closing_text cs)

texts_are : (w : ℕ) (i : ℤ) (ps : List (Clause Decorated policy))
    → PolicyTexts (IsTheLayoutAt w) i ps (map (λ p. cleaned_text (laid_text w (part_table i p))) ps)
texts_are w i [] = tt
texts_are w i (p ∷ ps) = (
  (
    laid_text w (part_table i p),
    laid_is_the_layout w (part_table i p),
    text_is_cleaned (laid_text w (part_table i p)),
  ),
  texts_are w i ps,
)

-- it is the output
output_is : (w : ℕ) (i : ℤ) (ps : List (Clause Decorated policy)) (cs : List (List ℕ))
    → IsOutput (IsTheLayoutAt w) i ps cs (output_text w i ps cs)
output_is w i ps cs = record {
  texts = map (λ p. cleaned_text (laid_text w (part_table i p))) ps;
  cleaned = texts_are w i ps;
  written = refl;
}

-- ---- tokens and trees

abbrev t : List ℕ → Decorated
t s = record { text = s; leading = []; trailing = [] }

-- a token with leading lines, and one with a trailing text
abbrev led : List (List ℕ) → List ℕ → Decorated
led ls s = record { text = s; leading = ls; trailing = [] }

abbrev with : List ℕ → List ℕ → Decorated
with s tr = record { text = s; leading = []; trailing = tr }

abbrev quoted : List ℕ → List ℕ
quoted s = quote ∷ (s ++ (quote ∷ []))

abbrev nl : List ℕ
nl = codes "\n"

abbrev lit : Decorated → Tree Decorated add
lit x = add_of (sums_one (mult_of (products_one (unsigned (member_of (literal x) no_access)))))

abbrev whole : Tree Decorated relation → Tree Decorated expr
whole r = ors_expr (ors_one (ands_one r))

abbrev operand : Tree Decorated member → Tree Decorated add
operand m = add_of (sums_one (mult_of (products_one (unsigned m))))

-- a primary without an access
abbrev alone : Tree Decorated primary → Tree Decorated add
alone p = operand (member_of p no_access)

-- a policy with bare variables
abbrev bare_from : Decorated → Decorated → Decorated → Clause Decorated conds → Decorated
    → Clause Decorated policy
bare_from e q c cs s = policy_of no_annotation e (t (codes "("))
    (variable_bare (t (codes "principal"))) c (variable_bare (t (codes "action"))) (t (codes ","))
    (variable_bare (t (codes "resource"))) q cs s

abbrev bare : Decorated → Decorated → Clause Decorated conds → Decorated → Clause Decorated policy
bare q c cs s = bare_from (t (codes "permit")) q c cs s

abbrev when : Tree Decorated expr → Clause Decorated conds
when e = conds_more (cond_of (t (codes "when")) (t (codes "{")) e (t (codes "}"))) no_cond

abbrev comma : Decorated
comma = t (codes ",")

abbrev closed : Decorated
closed = t (codes ")")

abbrev semicolon : Decorated
semicolon = t (codes ";")

-- ---- rows

-- the pieces of a text between its `~`
abbrev pieces : List ℕ → List (List ℕ)
pieces [] = [] ∷ []
pieces (b ∷ bs) = if b == 126 then [] ∷ pieces bs else with_first b (pieces bs)

-- units of a text, the trees of its plain list, its closing comments,
-- and its output at a width and indentation 2
abbrev RowAt : ℕ → List (List ℕ) → List (Clause Decorated policy) → List (List ℕ) → List ℕ → Type 0
RowAt w units ps cs out = (plain_list (listing units).tokens ≡ tokens_of ps)
    × ((listing units).closing ≡ cs) × (output_text w (pos 2) ps cs ≡ out)

-- the same at width 80
abbrev Row : List (List ℕ) → List (Clause Decorated policy) → List (List ℕ) → List ℕ → Type 0
Row units ps cs out = RowAt 80 units ps cs out

-- units of an expression, its tree,
-- and the layout of its document alone, at a width and indentation 2
abbrev Body : ℕ → List (List ℕ) → Tree Decorated expr → List ℕ → Type 0
Body w units e out = ((listing units).tokens ≡ tree_yield e) × (laid_text w (table (pos 2) e) ≡ out)

-- `permit(principal, // p`, and on the next line `action,resource);`
comment_in_scope : Row (pieces (codes "permit~(~principal~,~ ~// p~\n~action~,~resource~)~;"))
    ((bare closed (with (codes ",") (codes "// p")) no_cond semicolon) ∷ []) ([])
    (codes "permit (principal, // p\n  action, resource);\n")
unfolding columns unicode_width listing gaps decorate comments lines comment_of_line trim_start
    trim_end chars encode_utf8 slots punctuators without_zeros string_end
comment_in_scope = (refl, refl, refl)

-- a line of its own before an operator:
-- the blank after "a" stays, and so does the first line of its piece
comment_before_operator : Row (pieces
    (codes "permit~(~principal~,~action~,~resource~)~when~{~\"a\"~\n~// c~\n~==~ ~\"b\"~}~;"))
    ((bare closed comma (when (whole (compare (lit (t (codes "\"a\"")))
    (led (codes "// c" ∷ []) (codes "==")) (lit (t (codes "\"b\"")))))) semicolon)
    ∷ []) ([])
    (codes "permit (principal, action, resource)\nwhen\n{\n  \"a\" \n  // c\n  == \"b\"\n};\n")
unfolding columns unicode_width listing gaps decorate comments lines comment_of_line trim_start
    trim_end chars encode_utf8 slots punctuators without_zeros string_end
comment_before_operator = (refl, refl, refl)

-- a lone `\r` ends a comment but not a line
two_comments_in_one_line : Row (pieces
    (codes "permit~(~principal~,~action~,~resource~)~;~// a~\r~// b"))
    ((bare closed comma no_cond (with (codes ";") (codes "// a\r// b"))) ∷ [])
    ([])
    (codes "permit (principal, action, resource); // a\r// b\n")
unfolding columns unicode_width listing gaps decorate comments lines comment_of_line trim_start
    trim_end chars encode_utf8 slots punctuators without_zeros string_end
two_comments_in_one_line = (refl, refl, refl)

-- a string keeps its blank line
string_of_lines : Row (pieces (codes
    "permit~(~principal~,~action~,~resource~)~when~{~\"a\n\n// b\"~}~;"))
    ((bare closed comma (when (whole (single (lit
    (t (codes "\"a\n\n// b\"")))))) semicolon) ∷ []) ([])
    (codes "permit (principal, action, resource)\nwhen { \"a\n\n// b\" };\n")
unfolding columns unicode_width listing gaps decorate comments lines comment_of_line trim_start
    trim_end chars encode_utf8 slots punctuators without_zeros string_end
string_of_lines = (refl, refl, refl)

-- comments in a call's brackets
comments_of_a_call : Row (pieces
    (codes "permit~(~principal~,~action~,~resource~)~when~{~f~(~1~ ~// x~\n~// y~\n~)~}~;"))
    ((bare closed comma (when (whole (single (operand (member_of (named (name_one (t (codes "f"))))
    (call (t (codes "(")) (args_one (whole (single (lit (with (codes "1") (codes "// x"))))))
    (led (codes "// y" ∷ []) (codes ")")) no_access)))))) semicolon) ∷ []) ([])
    (codes
    "permit (principal, action, resource)\nwhen\n{\n  f(\n      1 // x\n    // y\n    )\n};\n")
unfolding columns unicode_width listing gaps decorate comments lines comment_of_line trim_start
    trim_end chars encode_utf8 slots punctuators without_zeros string_end
comments_of_a_call = (refl, refl, refl)

-- a trailing text, a leading line and a closing comment
two_policies : Row (pieces (codes
    "permit~(~principal~,~action~,~resource~)~;~ ~// t~\n~// l~\n~permit~(~principal~,~action~,~resource~)~;~\n~// e"))
    ((bare closed comma no_cond (with (codes ";") (codes "// t")))
    ∷ (bare_from (led (codes "// l" ∷ []) (codes "permit")) closed comma no_cond semicolon) ∷ [])
    ((codes "// e") ∷ [])
    (codes
    "permit (principal, action, resource); // t\n\n// l\npermit (principal, action, resource);\n// e\n")
unfolding columns unicode_width listing gaps decorate comments lines comment_of_line trim_start
    trim_end chars encode_utf8 slots punctuators without_zeros string_end
two_policies = (refl, refl, refl)

-- closing comments alone, with blanks at their ends
only_comments : Row (pieces (codes "// foo~\n~//bar   ~\n~ ~\n~ ~\n"))
    ([]) ((codes "// foo") ∷ (codes "//bar") ∷ [])
    (codes "\n// foo\n//bar\n")
unfolding columns unicode_width listing gaps decorate comments lines comment_of_line trim_start
    trim_end chars encode_utf8 slots punctuators without_zeros string_end
only_comments = (refl, refl, refl)

trailing_and_closing : Row (pieces
    (codes "permit~(~principal~,~action~,~resource~)~;~\r~// a~\r~// b~\n~// c"))
    ((bare closed comma no_cond (with (codes ";") (codes "// a\r// b"))) ∷ [])
    ((codes "// c") ∷ [])
    (codes "permit (principal, action, resource); // a\r// b\n// c\n")
unfolding columns unicode_width listing gaps decorate comments lines comment_of_line trim_start
    trim_end chars encode_utf8 slots punctuators without_zeros string_end
trailing_and_closing = (refl, refl, refl)

-- two comments before the first token are two leading lines
leading_lines : Row (pieces (codes "// a~\r~// b~\n~permit~(~principal~,~action~,~resource~)~;"))
    ((bare_from (led (codes "// a" ∷ (codes "// b" ∷ [])) (codes "permit")) closed comma no_cond
    semicolon) ∷ []) ([])
    (codes "// a\n// b\npermit (principal, action, resource);\n")
unfolding columns unicode_width listing gaps decorate comments lines comment_of_line trim_start
    trim_end chars encode_utf8 slots punctuators without_zeros string_end
leading_lines = (refl, refl, refl)

-- a quote within a comment begins no string
quote_in_comment : Row (pieces (codes
    "permit~(~principal~,~action~,~resource~)~when~{~\"a\"~ ~// \"b~\n~}~;"))
    ((bare closed comma (when (whole (single (lit (with (codes "\"a\"")
    (codes "// \"b")))))) semicolon) ∷ []) ([])
    (codes "permit (principal, action, resource)\nwhen\n{\n  \"a\" // \"b\n};\n")
unfolding columns unicode_width listing gaps decorate comments lines comment_of_line trim_start
    trim_end chars encode_utf8 slots punctuators without_zeros string_end
quote_in_comment = (refl, refl, refl)

-- slashes and brackets within strings
slashes_in_string : Row (pieces
    (codes "permit~(~principal~,~action~,~resource~)~when~{~\"\n//\"~==~\"};\"~}~;"))
    ((bare closed comma (when (whole (compare (lit (t (codes "\"\n//\"")))
    (t (codes "==")) (lit (t (codes "\"};\"")))))) semicolon) ∷ []) ([])
    (codes "permit (principal, action, resource)\nwhen { \"\n//\" == \"};\" };\n")
unfolding columns unicode_width listing gaps decorate comments lines comment_of_line trim_start
    trim_end chars encode_utf8 slots punctuators without_zeros string_end
slashes_in_string = (refl, refl, refl)

-- the comment of a trailing comma goes after the token before it
trailing_comma : Row (pieces (codes "permit~(~principal~,~action~,~resource~,~ ~// r~\n~)~;"))
    ((policy_of no_annotation (t (codes "permit")) (t (codes "("))
    (variable_bare (t (codes "principal"))) comma (variable_bare (t (codes "action"))) comma
    (variable_bare (with (codes "resource") (codes "// r"))) closed no_cond semicolon) ∷ []) ([])
    (codes "permit (principal, action, resource // r\n  );\n")
unfolding columns unicode_width listing gaps decorate comments lines comment_of_line trim_start
    trim_end chars encode_utf8 slots punctuators without_zeros string_end
trailing_comma = (refl, refl, refl)

-- or before the bracket
trailing_comma_with_lines : Row
    (pieces
    (codes "permit~(~principal~,~action~,~resource~ ~// a~\n~// b~\n~,~ ~// c~\n~// d~\n~)~;"))
    ((policy_of no_annotation (t (codes "permit")) (t (codes "("))
    (variable_bare (t (codes "principal"))) comma (variable_bare (t (codes "action"))) comma
    (variable_bare (with (codes "resource") (codes "// a"))) (led
    (codes "// b" ∷ (codes "// c" ∷ (codes "// d" ∷ []))) (codes ")")) no_cond semicolon) ∷ []) ([])
    (codes "permit (principal, action, resource // a\n// b\n// c\n// d\n);\n")
unfolding columns unicode_width listing gaps decorate comments lines comment_of_line trim_start
    trim_end chars encode_utf8 slots punctuators without_zeros string_end
trailing_comma_with_lines = (refl, refl, refl)

trailing_comma_of_a_list : Row (pieces
    (codes "permit~(~principal~,~action~,~resource~)~when~{~[~1~ ~// a~\n~,~ ~// b~\n~]~}~;"))
    ((bare closed comma (when (whole (single (operand (member_of
    (list_of (t (codes "[")) (args_one (whole (single (lit (with (codes "1") (codes "// a"))))))
    (led (codes "// b" ∷ []) (codes "]"))) no_access))))) semicolon) ∷ []) ([])
    (codes "permit (principal, action, resource)\nwhen\n{\n  [1 // a\n  // b\n  ]\n};\n")
unfolding columns unicode_width listing gaps decorate comments lines comment_of_line trim_start
    trim_end chars encode_utf8 slots punctuators without_zeros string_end
trailing_comma_of_a_list = (refl, refl, refl)

-- 39 letters: the comment ends in column 80
last_column : Row (pieces (codes
    "permit~(~principal~,~action~,~resource~)~;~// xxxxxxxxxxxxxxxxxxxxxxxxxxxxxxxxxxxxxxx"))
    ((bare closed comma no_cond
    (with (codes ";") (codes "// xxxxxxxxxxxxxxxxxxxxxxxxxxxxxxxxxxxxxxx"))) ∷ []) ([])
    (codes "permit (principal, action, resource); // xxxxxxxxxxxxxxxxxxxxxxxxxxxxxxxxxxxxxxx\n")
unfolding columns unicode_width listing gaps decorate comments lines comment_of_line trim_start
    trim_end chars encode_utf8 slots punctuators without_zeros string_end
last_column = (refl, refl, refl)

-- 40 letters
past_last_column : Row (pieces (codes
    "permit~(~principal~,~action~,~resource~)~;~// xxxxxxxxxxxxxxxxxxxxxxxxxxxxxxxxxxxxxxxx"))
    ((bare closed comma no_cond
    (with (codes ";") (codes "// xxxxxxxxxxxxxxxxxxxxxxxxxxxxxxxxxxxxxxxx"))) ∷ []) ([])
    (codes "permit\n(principal, action, resource); // xxxxxxxxxxxxxxxxxxxxxxxxxxxxxxxxxxxxxxxx\n")
unfolding columns unicode_width listing gaps decorate comments lines comment_of_line trim_start
    trim_end chars encode_utf8 slots punctuators without_zeros string_end
past_last_column = (refl, refl, refl)

-- leading zeros of numbers are dropped
zeros : Row (pieces (codes "permit~(~principal~,~action~,~resource~)~when~{~007~==~7~}~;"))
    ((bare closed comma (when (whole
    (compare (lit (t (codes "007"))) (t (codes "==")) (lit (t (codes "7")))))) semicolon) ∷ []) ([])
    (codes "permit (principal, action, resource)\nwhen { 7 == 7 };\n")
unfolding columns unicode_width listing gaps decorate comments lines comment_of_line trim_start
    trim_end chars encode_utf8 slots punctuators without_zeros string_end
zeros = (refl, refl, refl)

-- an annotation with a value
annotation : RowAt 80 (pieces (codes "@~id~(~\"x\"~)~permit~(~principal~,~action~,~resource~)~;"))
    ((policy_of (annotations_more (annotation_value (t (codes "@")) (t (codes "id")) (t (codes "("))
    (t (codes "\"x\"")) closed) no_annotation) (t (codes "permit")) (t (codes "("))
    (variable_bare (t (codes "principal"))) comma (variable_bare (t (codes "action"))) comma
    (variable_bare (t (codes "resource"))) closed no_cond semicolon) ∷ []) ([])
    (codes "@id(\"x\")\npermit (principal, action, resource);\n")
unfolding columns unicode_width listing gaps decorate comments lines comment_of_line trim_start
    trim_end chars encode_utf8 slots punctuators without_zeros string_end
annotation = (refl, refl, refl)

-- a variable with a type, `in` and a slot;
-- where these are too wide, they break in the order of their groups
type_and_slot_in_scope : RowAt 18
    (pieces (codes "permit~(~principal~ ~is~ ~A~ ~in~ ~?principal~,~action~,~resource~)~;"))
    ((policy_of no_annotation (t (codes "permit")) (t (codes "(")) (variable_is_op
    (t (codes "principal")) (t (codes "is")) (name_one (t (codes "A"))) (t (codes "in"))
    (alone (slot (t (codes "?principal"))))) comma (variable_bare (t (codes "action"))) comma
    (variable_bare (t (codes "resource"))) closed no_cond semicolon) ∷ []) ([])
    (codes "permit (\n  principal is A\n  in\n    ?principal,\n  action,\n  resource\n);\n")
unfolding columns unicode_width listing gaps decorate comments lines comment_of_line trim_start
    trim_end chars encode_utf8 slots punctuators without_zeros string_end
type_and_slot_in_scope = (refl, refl, refl)

-- a variable with an operator and a list of entities, each on its own line
entities_in_scope : RowAt 20
    (pieces (codes "permit~(~principal~,~action~ ~in~ ~[~A~::~\"x\"~,~A~::~\"y\"~]~,~resource~)~;"))
    ((policy_of no_annotation (t (codes "permit")) (t (codes "("))
    (variable_bare (t (codes "principal"))) comma (variable_op (t (codes "action")) (t (codes "in"))
    (alone (list_of (t (codes "[")) (args_more (whole (single (alone (reference (ref_of (name_one
    (t (codes "A"))) (t (codes "::")) (t (codes "\"x\""))))))) comma (args_one (whole (single
    (alone (reference (ref_of (name_one (t (codes "A"))) (t (codes "::")) (t (codes "\"y\"")))))))))
    (t (codes "]"))))) comma (variable_bare (t (codes "resource"))) closed no_cond semicolon) ∷ [])
    ([])
    (codes "permit (\n  principal,\n  action in\n    [A::\"x\",\n     A::\"y\"],\n  resource\n);\n")
unfolding columns unicode_width listing gaps decorate comments lines comment_of_line trim_start
    trim_end chars encode_utf8 slots punctuators without_zeros string_end
entities_in_scope = (refl, refl, refl)

-- `unless`, `has` with a path, `&&`, a field and a method call
has_and_method : RowAt 80
    (pieces
    (codes
    "permit~(~principal~,~action~,~resource~)~unless~{~principal~ ~has~ ~a~.~b~&&~resource~.~tags~.~contains~(~\"x\"~)~}~;"))
    ((bare closed comma (conds_more
    (cond_of (t (codes "unless")) (t (codes "{")) (ors_expr (ors_one (ands_more (has_or_like
    (alone (named (name_one (t (codes "principal"))))) (t (codes "has")) (operand (member_of
    (named (name_one (t (codes "a")))) (field (t (codes ".")) (t (codes "b")) no_access))))
    (t (codes "&&")) (ands_one (single (operand (member_of (named (name_one (t (codes "resource"))))
    (field (t (codes ".")) (t (codes "tags")) (field (t (codes ".")) (t (codes "contains")) (call
    (t (codes "(")) (args_one (whole (single (lit (t (codes "\"x\"")))))) closed no_access))))))))))
    (t (codes "}"))) no_cond) semicolon) ∷ []) ([])
    (codes
    "permit (principal, action, resource)\nunless { principal has a.b && resource.tags.contains(\"x\") };\n")
unfolding columns unicode_width listing gaps decorate comments lines comment_of_line trim_start
    trim_end chars encode_utf8 slots punctuators without_zeros string_end
has_and_method = (refl, refl, refl)

-- a record, a list with a negative number, `==`, `&&`, and `is` with `in` of a name of two parts
record_and_type : RowAt 80
    (pieces
    (codes
    "permit~(~principal~,~action~,~resource~)~when~{~{~a~:~1~,~\"b\"~:~[~2~,~-~3~]~}~==~context~&&~principal~ ~is~ ~A~::~B~ ~in~ ~A~::~\"c\"~}~;"))
    ((bare closed comma (conds_more (cond_of (t (codes "when")) (t (codes "{"))
    (ors_expr (ors_one (ands_more (compare (alone (record_of (t (codes "{")) (inits_more (init_of
    (named (name_one (t (codes "a")))) (t (codes ":")) (whole (single (lit (t (codes "1")))))) comma
    (inits_one (init_of (literal (t (codes "\"b\""))) (t (codes ":"))
    (whole (single (alone (list_of (t (codes "[")) (args_more (whole (single (lit (t (codes "2")))))
    comma (args_one (whole (single (add_of (sums_one (mult_of (products_one (signed (t (codes "-"))
    (unsigned (member_of (literal (t (codes "3"))) no_access))))))))))) (t (codes "]")))))))))
    (t (codes "}")))) (t (codes "==")) (alone (named (name_one (t (codes "context"))))))
    (t (codes "&&")) (ands_one (is_in (alone (named (name_one (t (codes "principal")))))
    (t (codes "is"))
    (name_more (t (codes "A")) (t (codes "::")) (name_one (t (codes "B")))) (t (codes "in")) (alone
    (reference (ref_of (name_one (t (codes "A"))) (t (codes "::")) (t (codes "\"c\""))))))))))
    (t (codes "}"))) no_cond) semicolon) ∷ []) ([])
    (codes
    "permit (principal, action, resource)\nwhen { { a: 1, \"b\": [2, -3] } == context && principal is A::B in A::\"c\" };\n")
unfolding columns unicode_width listing gaps decorate comments lines comment_of_line trim_start
    trim_end chars encode_utf8 slots punctuators without_zeros string_end
record_and_type = (refl, refl, refl)

-- `if` on its own lines, and an entity
branches : RowAt 30
    (pieces
    (codes
    "permit~(~principal~,~action~,~resource~)~when~{~if~ ~a~::~\"x\"~==~principal~ ~then~ ~true~ ~else~ ~false~}~;"))
    ((bare closed comma (conds_more (cond_of (t (codes "when")) (t (codes "{"))
    (if_expr (t (codes "if")) (whole
    (compare (alone (reference (ref_of (name_one (t (codes "a"))) (t (codes "::"))
    (t (codes "\"x\""))))) (t (codes "==")) (alone (named (name_one (t (codes "principal")))))))
    (t (codes "then")) (whole (single (lit (t (codes "true"))))) (t (codes "else"))
    (whole (single (lit (t (codes "false")))))) (t (codes "}"))) no_cond) semicolon) ∷ []) ([])
    (codes
    "permit\n(principal, action, resource)\nwhen\n{\n  if\n    a::\"x\" == principal\n  then\n    true\n  else\n    false\n};\n")
unfolding columns unicode_width listing gaps decorate comments lines comment_of_line trim_start
    trim_end chars encode_utf8 slots punctuators without_zeros string_end
branches = (refl, refl, refl)

-- an empty list, and a list that loses its trailing comma
empty_list : RowAt 80
    (pieces (codes "permit~(~principal~,~action~,~resource~)~when~{~[~1~,~2~,~]~==~[~]~}~;"))
    ((bare closed comma (conds_more (cond_of (t (codes "when")) (t (codes "{")) (whole
    (compare (alone (list_of (t (codes "[")) (args_more (whole (single (lit (t (codes "1"))))) comma
    (args_one (whole (single (lit (t (codes "2"))))))) (t (codes "]")))) (t (codes "==")) (alone
    (list_empty (t (codes "[")) (t (codes "]")))))) (t (codes "}"))) no_cond) semicolon) ∷ []) ([])
    (codes "permit (principal, action, resource)\nwhen { [1, 2] == [] };\n")
unfolding columns unicode_width listing gaps decorate comments lines comment_of_line trim_start
    trim_end chars encode_utf8 slots punctuators without_zeros string_end
empty_list = (refl, refl, refl)

-- an annotation without a value, a variable with a type alone, three conditions, `||`, several
-- `&&`, `is` without `in`, an index, a call without arguments,
-- accesses on lines of their own, and a leading line of a body
three_conditions : RowAt 30
    (pieces (codes "@~a~ ~permit~(~principal~ ~is~ ~Organisation~::~Member~,~action~,~resource~)~when~{~context~[~\"k\"~]~.~f~(~)~.~first_part~.~second_part~||~principal~ ~is~ ~A~&&~true~&&~false~}~when~{~principal~==~resource~.~f~}~unless~{~\n~// c~\n~true~&&~false~}~;"))
    ((policy_of (annotations_more (annotation_bare (t (codes "@")) (t (codes "a"))) no_annotation)
    (t (codes "permit")) (t (codes "(")) (variable_is (t (codes "principal")) (t (codes "is"))
    (name_more (t (codes "Organisation")) (t (codes "::")) (name_one (t (codes "Member"))))) comma
    (variable_bare (t (codes "action"))) comma (variable_bare (t (codes "resource"))) closed
    (conds_more (cond_of (t (codes "when")) (t (codes "{")) (ors_expr
    (ors_more (ands_one (single (operand (member_of (named (name_one (t (codes "context")))) (index
    (t (codes "[")) (t (codes "\"k\"")) (t (codes "]")) (field (t (codes ".")) (t (codes "f"))
    (call_empty (t (codes "(")) closed (field (t (codes ".")) (t (codes "first_part"))
    (field (t (codes ".")) (t (codes "second_part")) no_access))))))))) (t (codes "||"))
    (ors_one (ands_more (is_type (alone (named (name_one (t (codes "principal"))))) (t (codes "is"))
    (name_one (t (codes "A")))) (t (codes "&&")) (ands_more (single (lit (t (codes "true"))))
    (t (codes "&&")) (ands_one (single (lit (t (codes "false")))))))))) (t (codes "}")))
    (conds_more (cond_of (t (codes "when")) (t (codes "{")) (whole
    (compare (alone (named (name_one (t (codes "principal"))))) (t (codes "==")) (operand (member_of
    (named (name_one (t (codes "resource")))) (field (t (codes ".")) (t (codes "f")) no_access)))))
    (t (codes "}"))) (conds_more (cond_of (t (codes "unless")) (t (codes "{")) (ors_expr
    (ors_one (ands_more (single (lit (led (codes "// c" ∷ []) (codes "true")))) (t (codes "&&"))
    (ands_one (single (lit (t (codes "false")))))))) (t (codes "}"))) no_cond))) semicolon) ∷ [])
    ([])
    (codes "@a\npermit (\n  principal is\n    Organisation::Member,\n  action,\n  resource\n)\nwhen\n{\n  context[\"k\"]\n    .f()\n    .first_part\n    .second_part ||\n  principal is A &&\n  true &&\n  false\n}\nwhen\n{ principal == resource.f }\nunless\n{\n  // c\n  true && false\n};\n")
unfolding columns unicode_width listing gaps decorate comments lines comment_of_line trim_start
    trim_end chars encode_utf8 slots punctuators without_zeros string_end
three_conditions = (refl, refl, refl)

-- a sum and a product, each broken after its operator
sum_and_product : Body 4 (pieces (codes "1~+~2~*~3")) ((whole (single (add_of (sums_more (mult_of
    (products_one (unsigned (member_of (literal (t (codes "1"))) no_access)))) (t (codes "+"))
    (sums_one (mult_of (products_more (unsigned (member_of (literal (t (codes "2"))) no_access)) (t
    (codes "*")) (products_one (unsigned (member_of (literal (t (codes "3"))) no_access)))))))))))
    (codes "1 +\n2 *\n3")
unfolding columns unicode_width listing gaps decorate comments lines comment_of_line trim_start
    trim_end chars encode_utf8 slots punctuators without_zeros string_end
sum_and_product = (refl, refl)

-- signs, a method call that breaks, and a field after it
signs_and_accesses : Body 15 (pieces (codes "!~!~context~.~b~(~1~)~.~c"))
    ((whole (single (add_of (sums_one (mult_of (products_one (signed (t (codes "!"))
    (signed (t (codes "!")) (unsigned (member_of (named (name_one (t (codes "context"))))
    (field (t (codes ".")) (t (codes "b")) (call (t (codes "(")) (args_one (whole (single
    (lit (t (codes "1")))))) closed (field (t (codes ".")) (t (codes "c")) no_access))))))))))))))
    (codes "!!context.b(\n    1\n  )\n  .c")
unfolding columns unicode_width listing gaps decorate comments lines comment_of_line trim_start
    trim_end chars encode_utf8 slots punctuators without_zeros string_end
signs_and_accesses = (refl, refl)

-- an empty record
empty_record : Body 80 (pieces (codes "{~}"))
    ((whole (single (alone (record_empty (t (codes "{")) (t (codes "}")))))))
    (codes "{}")
unfolding columns unicode_width listing gaps decorate comments lines comment_of_line trim_start
    trim_end chars encode_utf8 slots punctuators without_zeros string_end
empty_record = (refl, refl)

-- a comment in parentheses
parentheses : Body 80 (pieces (codes "(~true~ ~// c~\n~)")) ((whole (single (alone (parens
    (t (codes "(")) (whole (single (lit (with (codes "true") (codes "// c"))))) (t (codes ")")))))))
    (codes "(true // c\n )")
unfolding columns unicode_width listing gaps decorate comments lines comment_of_line trim_start
    trim_end chars encode_utf8 slots punctuators without_zeros string_end
parentheses = (refl, refl)

blank_line_goes : cleaned_text
    (codes "\"x\" \n \n y")
    ≡ (codes "\"x\" \n y")
unfolding trim_start trim_end chars encode_utf8 string_end
blank_line_goes = refl

quote_in_comment_cleaned : cleaned_text (codes "// \"a\n\n\"b\n\nc\"")
    ≡ (codes "// \"a\n\"b\n\nc\"")
unfolding trim_start trim_end chars encode_utf8 string_end
quote_in_comment_cleaned = refl

first_lines_trimmed : cleaned_text (codes "\n\na") ≡ (codes "a")
unfolding trim_start trim_end chars encode_utf8 string_end
first_lines_trimmed = refl

wide_blank : cleaned_text (codes "a" ++ (line_feed ∷ (194 ∷ (160 ∷ (codes "\nb")))))
    ≡ (codes "a\nb")
unfolding trim_start trim_end chars encode_utf8 string_end
wide_blank = refl
