-- The weave of a policy and its parts.
use Rattle.std.proofs.Common.{◌≡◌, ℕ, ℤ, List, [], ◌∷◌, ◌++◌, Bool, true, false, cond, ◌&&◌, refl, sym, ap, ◌∙◌, subst, append_assoc, append-nil}
use Rattle.std.specs.Prelude.{codes}
use Rattle.std.proofs.Math.Bool.{and-false}
use Rattle.cedar_tokens.specs.Bytes.{space_character}
use Rattle.cedar_tokens.specs.Listing.{Decorated, token_value}
use Rattle.cedar_layout.specs.Layout.{Doc, nil, line, hard, ◌·◌, nest, group, nest_then, hard_then as d_hard_then, atoms, Choice, text_of_choice, pieces}
use Rattle.cedar_layout.proofs.Values.{atoms-dot, dot_assoc}
use Rattle.cedar_layout.proofs.Atoms.{pieces_are_made}
use Rattle.cedar_laws.specs.Neighbours.{first_or}
use Rattle.cedar_laws.specs.Fit.{Opens, Ends, IsMark, IsWord, Fit, PartFit}
use Rattle.cedar_laws.proofs.PrintedTokens.{Weave, done, w_space, w_line, w_hard}
use Rattle.cedar_grammar.specs.TypedTrees.{Tree, name, expr, Clause, variable, cond as a_cond, conds, annotation, annotations, policy, parts, tree_yield, map_first, part_yield, variable_bare, variable_is, variable_op, variable_is_op, cond_of, no_cond, conds_more, annotation_bare, annotation_value, no_annotation, annotations_more, policy_of}
use Rattle.cedar_laws.specs.Table.{literal_kind, table, part_table, C, lead_of, space, between_conds, bare_token, lines_of_first, is_bare, variables, comparison, type_part, lead, tok, trail, printed}
use Rattle.cedar_grammar.specs.Trees.{yield}
use Rattle.cedar_grammar.proofs.Trees.Laws.{typed_leaves}
use Rattle.cedar_laws.specs.Gaps.{Spelled}
use Rattle.cedar_laws.proofs.PrintedNodes.{Run, run_then, run_last, nest_run, group_run, grouped, nested, run_as, line_then, just, mark, operator, weave, blank_opens, blank_apart, word_token, token_then_blank, opening_paren, closing_paren, closing_brace, opens_at_paren}
use Rattle.cedar_laws.proofs.FirstLines.{peel}
use Rattle.cedar_laws.proofs.GapLaws.{spelled, made_prints}

pub hard_then : {Q : ℕ → Type 0} {c : ℕ} {ts : List Decorated} {a : Doc}
    → Run Q space_character ts a
    → Run Q c ts (d_hard_then a)
hard_then q = record { last = q.last; weave = w_hard q.weave; meets = q.meets }

opens_at_at : Opens 64
opens_at_at d s = simp and-false

-- a variable and its type
typed_weave : (i : ℤ) (v s : Decorated) (n : Tree Decorated name) (c : ℕ) → Opens c → IsWord v
    → Fit n → Run Ends c (v ∷ (s ∷ tree_yield n)) (printed v · type_part i s (table i n))
typed_weave i v s n c o fv fn = run_then (word_token c v o fv) (λ d e. grouped
    (nested (group_run (line_then (operator space_character s
    (blank_apart (first_or space_character (token_value s.text)))))
    (λ d _. line_then (weave i n space_character blank_opens fn)))))

compared_atoms : (i : ℤ) (l left right : Doc) (s : Decorated) → atoms ((l · left)
    · (line · (printed s · (line · right)))) ≡ atoms (l · comparison i left s right)
compared_atoms i l left right s = simp (atoms-dot, append_assoc, append-nil)

-- leading lines, and a comparison of what follows them
compared_weave : (i : ℤ) (l left right : Doc) (s : Decorated) {c : ℕ} {ts us : List Decorated}
    → Run Ends c ts (l · left) → Run Ends space_character us right
    → Run Ends c (ts ++ (s ∷ us)) (l · comparison i left s right)
compared_weave i l left right s p q =
    run_as (compared_atoms i l left right s) (run_then p (λ d e. line_then (run_then
    (operator space_character s (blank_apart (first_or space_character (token_value s.text))))
    (λ d _. line_then q))))

variable_weave : (i : ℤ) (v : Clause Decorated variable) (c : ℕ) → Opens c → PartFit v
    → Run Ends c (part_yield v) (part_table i v)
variable_weave i (variable_bare v) c o f = word_token c v o f
variable_weave i (variable_is v s n) c o f = typed_weave i v s n c o f.0 f.1
variable_weave i (variable_op v s a) c o f = compared_weave i (lead v) (tok v · trail v nil)
    (table i a) s (word_token c v o f.0) (weave i a space_character blank_opens f.1)
variable_weave i (variable_is_op v s n p a) c o f =
    compared_weave i (lead v) (tok v · trail v nil · type_part i s (table i n)) (table i a) p
    (run_as (ap atoms (dot_assoc (lead v) (tok v · trail v nil) (type_part i s (table i n))))
    (typed_weave i v s n c o f.0 f.1)) (weave i a space_character blank_opens f.2)

brace_then_line : (c : ℕ) (t : Decorated) → IsMark (codes "{") t → Run Opens c (t ∷ []) (C t line)
brace_then_line c t f = token_then_blank line c t (λ c. w_line done) (rw f refl)

-- the body after `{`: its first token's leading lines come before its group
body_weave : (i : ℤ) (e : Tree Decorated expr) (c : ℕ) → Opens c → Fit e → Run Ends c (tree_yield e)
    (lead_of (lines_of_first (yield (parts literal_kind e))) · table i (map_first bare_token e))
body_weave i e c o f =
    subst (λ z. Run Ends c (tree_yield e) (lead_of (lines_of_first z)
    · table i (map_first bare_token e))) (sym (typed_leaves literal_kind e))
    (run_as (sym (peel i e).same ∙ sym (atoms-dot (lead_of (lines_of_first (tree_yield e)))
    (table i (map_first bare_token e)))) (weave i e c o f))

cond_weave : (i : ℤ) (k l : Decorated) (e : Tree Decorated expr) (r : Decorated) (c : ℕ) → Opens c
    → PartFit (cond_of k l e r)
    → Run Ends c (part_yield (cond_of k l e r)) (part_table i (cond_of k l e r))
cond_weave i k l e r c o f =
    run_as (simp (atoms-dot, append_assoc, append-nil)) ((run_then (token_then_blank line c k (λ c.
    w_line done) (o (first_or space_character (token_value k.text)) f.0.0))
    (λ d o. run_then (brace_then_line d l
    f.1) (λ d o. run_then (body_weave i e d o f.2)
    (λ d e. line_then (closing_brace space_character r f.3))))))

any_cond_weave : (i : ℤ) (k : Clause Decorated a_cond) (c : ℕ) → Opens c → PartFit k
    → Run Ends c (part_yield k) (part_table i k)
any_cond_weave i (cond_of k l e r) c o f = cond_weave i k l e r c o f

-- the break before conditions, and the conditions, separated by breaks
conds_weave : (i : ℤ) (m : Clause Decorated conds) (c : ℕ) → Ends c → PartFit m
    → Run Ends c (part_yield m) (between_conds m · part_table i m)
conds_weave i no_cond c e f = just c e
conds_weave i (conds_more k m) c e f =
    hard_then (run_then (any_cond_weave i k space_character blank_opens f.0)
    (λ d e. conds_weave i m d e f.1))

-- the closing bracket of the scope; after it a break where a condition follows
conds_after : (i : ℤ) (q : Decorated) (m : Clause Decorated conds) (c : ℕ) → IsMark (codes ")") q
    → PartFit m → Run Ends c (q ∷ part_yield m) (C q (between_conds m) · part_table i m)
conds_after i q no_cond c g f = run_then (closing_paren c q g) (λ d e. just d e)
conds_after i q (conds_more k m) c g f =
    run_then (token_then_blank hard c q (λ c. w_hard done) (rw g refl))
    (λ d o. run_then (any_cond_weave i k d o f.0) (λ d e. conds_weave i m d e f.1))

annotation_weave : (i : ℤ) (a : Clause Decorated annotation) (c : ℕ) → PartFit a
    → Run Opens c (part_yield a) (part_table i a)
annotation_weave i (annotation_bare a k) c f =
    run_then (mark Opens (codes "@") c a f.0 refl blank_opens opens_at_at)
    (λ d o. run_last (word_token d k o f.1) (λ d e. hard_then (just space_character blank_opens)))
annotation_weave i (annotation_value a k l s r) c f =
    run_then (mark Opens (codes "@") c a f.0 refl blank_opens opens_at_at)
    (λ d o. run_then (word_token d k o f.1) (λ d e.
    run_then (mark Opens (codes "(") d l f.2 refl blank_opens opens_at_paren) (λ d o. run_then
    (word_token d s o f.3) (λ d e. token_then_blank hard d r (λ c. w_hard done) (rw f.4 refl)))))

annotations_weave : (i : ℤ) (m : Clause Decorated annotations) (c : ℕ) → Opens c → PartFit m
    → Run Opens c (part_yield m) (part_table i m)
annotations_weave i no_annotation c o f = just c o
annotations_weave i (annotations_more a m) c o f =
    run_then (annotation_weave i a c f.0) (λ d o. annotations_weave i m d o f.1)

of_choice : {P : ℕ → Type 0} {c : ℕ} {ts : List Decorated} (b : Bool) (x y : Doc) → Run P c ts x
    → Run P c ts y → Run P c ts (cond b x y)
of_choice true x y p q = p
of_choice false x y p q = q

comma_then : (n : Doc) (c : ℕ) (t : Decorated) → ((c : ℕ) → Weave c [] (atoms n) space_character)
    → IsMark (codes ",") t → Run Opens c (t ∷ []) (C t n)
comma_then n c t b f = token_then_blank n c t b (rw f refl)

scope_flat : (i : ℤ) (p a r : Clause Decorated variable) (x y : Decorated) (c : ℕ) → Opens c
    → PartFit p → IsMark (codes ",") x → PartFit a → IsMark (codes ",") y → PartFit r
    → Run Ends c (part_yield p ++ (x ∷ (part_yield a ++ (y ∷ part_yield r))))
    (group (nest i (variables space (part_table i p) x (part_table i a) y (part_table i r))))
scope_flat i p a r x y c o fp fx fa fy fr =
    grouped (nested (run_then (variable_weave i p c o fp) (λ d e. run_then (comma_then space d x
    (λ c. w_space done) fx) (λ d o. run_then (variable_weave i a d o fa) (λ d e.
    run_then (comma_then space d y (λ c. w_space done) fy) (λ d o. variable_weave i r d o fr))))))

nest_run_last : {P Q : ℕ → Type 0} {c : ℕ} {ts : List Decorated} {n : ℤ} {a b : Doc} → Run P c ts a
    → ((d : ℕ) → P d → Run Q d [] b) → Run Q c ts (nest_then n a b)
nest_run_last {ts = ts} {n = n} p f = rw (append-nil ts) at (nest_run {n = n} p f)

scope_tall : (i : ℤ) (p a r : Clause Decorated variable) (x y : Decorated) (c : ℕ) → Opens c
    → PartFit p → IsMark (codes ",") x → PartFit a → IsMark (codes ",") y → PartFit r
    → Run Ends c (part_yield p ++ (x ∷ (part_yield a ++ (y ∷ part_yield r))))
    (nest i (hard · variables hard (part_table i p) x (part_table i a) y (part_table i r)) · hard)
scope_tall i p a r x y c o fp fx fa fy fr =
    nest_run_last (hard_then (run_then (variable_weave i p space_character blank_opens fp)
    (λ d e. run_then
    (comma_then hard d x (λ c. w_hard done) fx) (λ d o. run_then (variable_weave i a d o fa) (λ d e.
    run_then (comma_then hard d y (λ c. w_hard done) fy) (λ d o. variable_weave i r d o fr))))))
    (λ d e. hard_then (just space_character refl))

run_same : {P : ℕ → Type 0} {c : ℕ} {ts us : List Decorated} {a b : Doc} → Run P c ts a → ts ≡ us
    → atoms a ≡ atoms b → Run P c us b
run_same p e f = rw (sym e) (run_as f p)

pub policy_weave : (i : ℤ) (t : Clause Decorated policy) (c : ℕ) → Opens c → PartFit t
    → Run Ends c (part_yield t) (part_table i t)
policy_weave i (policy_of ns e l p x a y r q cs s) c o f =
    run_same
    (run_then (annotations_weave i ns c o f.0) (λ d o.
    run_then (word_token d e o f.1) (λ d _.
    line_then (run_then (opening_paren space_character l blank_opens f.2) (λ d o.
    run_then (of_choice (is_bare p && is_bare a && is_bare r) _ _ (scope_flat i p a r x y d o f.3
    f.4 f.5 f.6 f.7) (scope_tall i p a r x y d o f.3 f.4 f.5 f.6 f.7)) (λ d e.
    run_then (conds_after i q cs d f.8 f.9) (λ d e.
    mark Ends (codes ";") d s f.10 refl refl refl)))))))
    (simp append_assoc) (simp (atoms-dot, append_assoc, append-nil))

-- The law of gaps: under every choice of flat and broken groups and at every indentation, the text
-- of a policy's document is its tokens in order,
-- with only blanks, trailing texts and leading lines between them.
pub law_of_gaps : (i : ℤ) (t : Clause Decorated policy) (c : Choice (part_table i t)) → PartFit t
    → Spelled space_character (part_yield t) (text_of_choice (part_table i t) c)
law_of_gaps i t c f = spelled (policy_weave i t space_character blank_opens f).weave
    (made_prints (pieces (part_table i t) c false 0) (atoms (part_table i t))
    (pieces_are_made (part_table i t) c false 0))
