-- The documents of nodes print their tokens in order:
-- what may come first and last, leaf by leaf and node by node.
use Rattle.std.proofs.Common.{◌≡◌, ℕ, ℤ, List, [], ◌∷◌, ◌++◌, false, ◌||◌, ◌⊎◌, inl, inr, refl, sym, ap, append_assoc, append-nil}
use Rattle.cedar_tokens.specs.Bytes.{colon, equals, exclamation_mark, slash, space_character}
use Rattle.cedar_tokens.specs.Listing.{Decorated, token_value}
use Rattle.cedar_layout.specs.Layout.{Doc, nil, text_then, line_then as d_line_then, line_or_nil_then as d_line_or_nil_then, nest_then, group_then, line, ◌·◌, Atom, word, must_break, atoms}
use Rattle.cedar_layout.proofs.Values.{atoms-dot}
use Rattle.cedar_laws.specs.Neighbours.{glues, first_or}
use Rattle.cedar_layout.specs.Cleaning.{last_byte_or}
use Rattle.cedar_laws.specs.Fit.{before_of, after_of, Opens, Ends, IsMark, IsWord, Fit}
use Rattle.cedar_laws.proofs.PrintedTokens.{Weave, done, w_space, w_line, w_line_or_nil, w_hard, w_token, lead_atoms, line_atoms, trail_atoms}
use Rattle.std.specs.Prelude.{codes, ◌==◌}
use Rattle.std.proofs.Math.Bool.{and-false}
use Rattle.std.proofs.lemmas.Bool.{or_parts, not-true}
use Rattle.cedar_grammar.specs.TypedTrees.{Tree, NodeKind, accesses, tree_yield, name_one, name_more, ref_of, args_one, args_more, init_of, inits_one, inits_more, literal, slot, reference, named, parens, list_empty, list_of, record_empty, record_of, no_access, field, call_empty, call, index, member_of, unsigned, signed, products_one, products_more, mult_of, sums_one, sums_more, add_of, single, compare, has_or_like, is_type, is_in, ands_one, ands_more, ors_one, ors_more, ors_expr, if_expr}
use Rattle.cedar_laws.specs.Table.{table, printed, C, lead_of, trail_of, broken_lines, break_after_field, break_after_other}

pub weave_append : {c d e : ℕ} {ts us : List Decorated} {xs ys : List Atom} → Weave c ts xs d
    → Weave d us ys e → Weave c (ts ++ us) (xs ++ ys) e
weave_append done q = q
weave_append (w_space p) q = w_space (weave_append p q)
weave_append (w_line p) q = w_line (weave_append p q)
weave_append (w_line_or_nil p) q = w_line_or_nil (weave_append p q)
weave_append (w_hard p) q = w_hard (weave_append p q)
weave_append (w_token {xs = xs} t apart p) q =
    simp append_assoc (w_token t apart (weave_append p q))

-- nothing glues to a blank
pub blank_apart : (d : ℕ) → glues space_character d ≡ false
blank_apart d = simp and-false

pub blank_opens : Opens space_character
blank_opens d s = blank_apart d

pub before_apart : (c d : ℕ) (ls : List (List ℕ)) → glues c d ≡ false
    → glues (before_of c ls) d ≡ false
before_apart c d [] e = e
before_apart c d (l ∷ ls) e = blank_apart d

-- what holds of a blank and of the last character of the text holds after the token
pub after_is : (P : ℕ → Type 0) (w tr : List ℕ) → P space_character
    → P (last_byte_or space_character w) → P (after_of w tr)
after_is P w [] b e = e
after_is P w (c ∷ cs) b e = b

lines_atoms : (ls : List (List ℕ)) → atoms (broken_lines ls) ≡ line_atoms ls
lines_atoms [] = refl
lines_atoms (l ∷ ls) = ap (λ r. word l ∷ must_break ∷ r) (lines_atoms ls)

lead_of_atoms : (ls : List (List ℕ)) → atoms (lead_of ls) ≡ lead_atoms ls
lead_of_atoms [] = refl
lead_of_atoms (l ∷ ls) = ap (λ r. must_break ∷ r) (lines_atoms (l ∷ ls))

trail_of_atoms : (tr : List ℕ) → atoms (trail_of tr nil) ≡ trail_atoms tr
trail_of_atoms [] = refl
trail_of_atoms (c ∷ cs) = refl

pub weave_leaf : (c : ℕ) (t : Decorated) → glues c (first_or space_character (token_value t.text))
    ≡ false
    → Weave c (t ∷ []) (atoms (printed t)) (after_of (token_value t.text) t.trailing)
weave_leaf c t apart = simp (atoms-dot, lead_of_atoms, trail_of_atoms) (simp append-nil at
    (w_token {c = c} t (before_apart c (first_or space_character (token_value t.text)) t.leading
    apart) done))

-- the document a prints the tokens ts after c, and what comes last then meets P
pub record Run (P : ℕ → Type 0) (c : ℕ) (ts : List Decorated) (a : Doc) : Type 0 where
  pub last : ℕ
  pub weave : Weave c ts (atoms a) last
  pub meets : P last

pub run_then : {P Q : ℕ → Type 0} {c : ℕ} {ts us : List Decorated} {a b : Doc} → Run P c ts a
    → ((d : ℕ) → P d → Run Q d us b) → Run Q c (ts ++ us) (a · b)
run_then {a = a} {b = b} p f =
    let q = f p.last p.meets in
    record {
      last = q.last;
      weave = rw (atoms-dot a b) (weave_append p.weave q.weave);
      meets = q.meets;
    }

-- the same where no token follows
pub run_last : {P Q : ℕ → Type 0} {c : ℕ} {ts : List Decorated} {a b : Doc} → Run P c ts a
    → ((d : ℕ) → P d → Run Q d [] b) → Run Q c ts (a · b)
run_last {ts = ts} p f = rw (append-nil ts) at (run_then p f)

-- the same where the first document is in a nest or a group
pub nest_run : {P Q : ℕ → Type 0} {c : ℕ} {ts us : List Decorated} {n : ℤ} {a b : Doc}
    → Run P c ts a → ((d : ℕ) → P d → Run Q d us b) → Run Q c (ts ++ us) (nest_then n a b)
nest_run p f =
    let q = f p.last p.meets in
    record { last = q.last; weave = weave_append p.weave q.weave; meets = q.meets }

pub group_run : {P Q : ℕ → Type 0} {c : ℕ} {ts us : List Decorated} {a b : Doc} → Run P c ts a
    → ((d : ℕ) → P d → Run Q d us b) → Run Q c (ts ++ us) (group_then a b)
group_run p f =
    let q = f p.last p.meets in
    record { last = q.last; weave = weave_append p.weave q.weave; meets = q.meets }

pub grouped : {P : ℕ → Type 0} {c : ℕ} {ts : List Decorated} {a : Doc} → Run P c ts a
    → Run P c ts (group_then a nil)
grouped {a = a} p =
    record { last = p.last; weave = rw (append-nil (atoms a)) p.weave; meets = p.meets }

pub nested : {P : ℕ → Type 0} {c : ℕ} {ts : List Decorated} {n : ℤ} {a : Doc} → Run P c ts a
    → Run P c ts (nest_then n a nil)
nested {a = a} p =
    record { last = p.last; weave = rw (append-nil (atoms a)) p.weave; meets = p.meets }

-- the same for a document with the same atoms
pub run_as : {P : ℕ → Type 0} {c : ℕ} {ts : List Decorated} {a b : Doc} → atoms a ≡ atoms b
    → Run P c ts a → Run P c ts b
run_as e p = record { last = p.last; weave = rw (sym e) p.weave; meets = p.meets }

pub space_then : {Q : ℕ → Type 0} {c : ℕ} {ts : List Decorated} {a : Doc}
    → Run Q space_character ts a
    → Run Q c ts (text_then (space_character ∷ []) a)
space_then q = record { last = q.last; weave = w_space q.weave; meets = q.meets }

pub line_then : {Q : ℕ → Type 0} {c : ℕ} {ts : List Decorated} {a : Doc}
    → Run Q space_character ts a
    → Run Q c ts (d_line_then a)
line_then q = record { last = q.last; weave = w_line q.weave; meets = q.meets }

pub maybe_then : {Q : ℕ → Type 0} {c : ℕ} {ts : List Decorated} {a : Doc} → Run Q c ts a
    → Run Q c ts (d_line_or_nil_then a)
maybe_then q = record { last = q.last; weave = w_line_or_nil q.weave; meets = q.meets }

pub just : {Q : ℕ → Type 0} (c : ℕ) → Q c → Run Q c [] nil
just c m = record { last = c; weave = done; meets = m }

-- a token whose first and last characters are known
pub token : (P : ℕ → Type 0) (c : ℕ) (t : Decorated)
    → glues c (first_or space_character (token_value t.text)) ≡ false → P space_character
    → P (last_byte_or space_character (token_value t.text)) → Run P c (t ∷ []) (printed t)
token P c t apart b e = record {
  last = after_of (token_value t.text) t.trailing;
  weave = weave_leaf c t apart;
  meets = after_is P (token_value t.text) t.trailing b e;
}

pub mark : (P : ℕ → Type 0) (s : List ℕ) (c : ℕ) (t : Decorated) → IsMark s t
    → glues c (first_or space_character s) ≡ false → P space_character
    → P (last_byte_or space_character s) → Run P c (t ∷ []) (printed t)
mark P s c t f apart b e = token P c t (rw f apart) b (rw f e)

abbrev pub Any : ℕ → Type 0
Any c = Unit {0}

-- an operator between blanks
pub operator : (c : ℕ) (t : Decorated) → glues c (first_or space_character (token_value t.text))
    ≡ false
    → Run Any c (t ∷ []) (printed t)
operator c t apart = token Any c t apart tt tt

opens_at_bang : Opens exclamation_mark
opens_at_bang d s =
    let e = (or_parts (d == colon || d == slash) (d == equals) (not-true _ s)).1 in
    rw e (simp and-false)

opens_at_dash : Opens 45
opens_at_dash d s = simp and-false

pub opens_at_paren : Opens 40
opens_at_paren d s = simp and-false

opens_at_bracket : Opens 91
opens_at_bracket d s = simp and-false

opens_at_dot : Opens 46
opens_at_dot d s = simp and-false

-- after `::`
opens_at_colon : Opens colon
opens_at_colon d s =
    let e =
    (or_parts (d == colon) (d == slash) (or_parts (d == colon || d == slash) (d == equals)
    (not-true _ s)).0).0 in
    rw e (simp and-false)

pub word_token : (c : ℕ) (t : Decorated) → Opens c → IsWord t → Run Ends c (t ∷ []) (printed t)
word_token c t o w = token Ends c t (o (first_or space_character (token_value t.text)) w.0) refl w.1

after_field : {Q : ℕ → Type 0} {c : ℕ} {ts : List Decorated} {a : Doc} (m : Tree Decorated accesses)
    → Run Q c ts a → Run Q c ts (break_after_field m · a)
after_field no_access q = q
after_field (call_empty l r m) q = q
after_field (call l a r m) q = q
after_field (field d x m) q = maybe_then q
after_field (index l x r m) q = maybe_then q

after_other : {Q : ℕ → Type 0} {c : ℕ} {ts : List Decorated} {a : Doc} (m : Tree Decorated accesses)
    → Run Q c ts a → Run Q c ts (break_after_other m · a)
after_other no_access q = q
after_other (call_empty l r m) q = maybe_then q
after_other (call l a r m) q = maybe_then q
after_other (field d x m) q = maybe_then q
after_other (index l x r m) q = maybe_then q

-- a token, followed by a break or a space where it has no trailing text
record RightAfter (n : Doc) (w tr : List ℕ) : Type 0 where
  rest : List Atom
  is : atoms (trail_of tr n) ≡ trail_atoms tr ++ rest
  blank : Weave (after_of w tr) [] rest space_character

following : (n : Doc) (w tr : List ℕ) → ((c : ℕ) → Weave c [] (atoms n) space_character)
    → RightAfter n w tr
following n w [] b = record {
  rest = atoms n;
  is = refl;
  blank =
      b (last_byte_or space_character w);
}
following n w (c ∷ cs) b =
    record { rest = []; is = sym (append-nil (trail_atoms (c ∷ cs))); blank = done }

pub token_then_blank : (n : Doc) (c : ℕ) (t : Decorated)
    → ((c : ℕ) → Weave c [] (atoms n) space_character)
    → glues c (first_or space_character (token_value t.text)) ≡ false → Run Opens c (t ∷ []) (C t n)
token_then_blank n c t b apart =
    let r = following n (token_value t.text) t.trailing b in
    record {
      last = 32;
      weave = simp (atoms-dot, lead_of_atoms, r.is) (w_token {c = c} t
          (before_apart c (first_or space_character (token_value t.text)) t.leading apart) r.blank);
      meets = blank_opens;
    }

comma : (c : ℕ) (t : Decorated) → IsMark (codes ",") t → Run Any c (t ∷ []) (printed t)
comma c t f = mark Any (codes ",") c t f refl tt tt

pub opening_paren : (c : ℕ) (t : Decorated) → Opens c → IsMark (codes "(") t
    → Run Opens c (t ∷ []) (printed t)
opening_paren c t o f = mark Opens (codes "(") c t f (o 40 refl) blank_opens opens_at_paren

pub closing_paren : (c : ℕ) (t : Decorated) → IsMark (codes ")") t → Run Ends c (t ∷ []) (printed t)
closing_paren c t f = mark Ends (codes ")") c t f refl refl refl

opening_bracket : (c : ℕ) (t : Decorated) → glues c 91 ≡ false → IsMark (codes "[") t
    → Run Opens c (t ∷ []) (printed t)
opening_bracket c t o f = mark Opens (codes "[") c t f o blank_opens opens_at_bracket

closing_bracket : (c : ℕ) (t : Decorated) → IsMark (codes "]") t → Run Ends c (t ∷ []) (printed t)
closing_bracket c t f = mark Ends (codes "]") c t f refl refl refl

pub opening_brace : (c : ℕ) (t : Decorated) → glues c 123 ≡ false → IsMark (codes "{") t
    → Run Any c (t ∷ []) (printed t)
opening_brace c t o f = mark Any (codes "{") c t f o tt tt

pub closing_brace : (c : ℕ) (t : Decorated) → IsMark (codes "}") t → Run Ends c (t ∷ []) (printed t)
closing_brace c t f = mark Ends (codes "}") c t f refl refl refl

sign : (c : ℕ) (t : Decorated) → Opens c → IsMark (codes "!") t ⊎ IsMark (codes "-") t
    → Run Opens c (t ∷ []) (printed t)
sign c t o (inl f) = mark Opens (codes "!") c t f (o exclamation_mark refl) blank_opens
    opens_at_bang
sign c t o (inr f) = mark Opens (codes "-") c t f (o 45 refl) blank_opens opens_at_dash

-- what may come before a node:
-- for an access anything but a colon, for all else a character that opens
abbrev pub Entry : NodeKind → ℕ → Type 0
Entry accesses c = Ends c
Entry _ c = Opens c

-- The weave: a node's document prints the node's tokens, in order, each with its comments.
pub weave : {k : NodeKind} (i : ℤ) (t : Tree Decorated k) (c : ℕ) → Entry k c → Fit t
    → Run Ends c (tree_yield t) (table i t)
weave i (name_one x) c o f = word_token c x o f
weave i (name_more x s r) c o f = run_then (word_token c x o f.0) (λ d e. run_then
    (mark Opens (codes "::") d s f.1 e blank_opens opens_at_colon) (λ d o. weave i r d o f.2))
weave i (ref_of n s x) c o f = run_then (weave i n c o f.0) (λ d e. run_then
    (mark Opens (codes "::") d s f.1 e blank_opens opens_at_colon) (λ d o. word_token d x o f.2))
weave i (args_one e) c o f = weave i e c o f
weave i (args_more e s r) c o f = run_then (weave i e c o f.0)
    (λ d e. run_then (comma d s f.1) (λ d _. line_then (weave i r space_character blank_opens f.2)))
weave i (init_of k s v) c o f = run_then (weave i k c o f.0) (λ d e. run_then
    (mark Any (codes ":") d s f.1 e tt tt)
    (λ d _. space_then (weave i v space_character blank_opens f.2)))
weave i (inits_one e) c o f = weave i e c o f
weave i (inits_more e s r) c o f = run_then (weave i e c o f.0)
    (λ d e. run_then (comma d s f.1) (λ d _. line_then (weave i r space_character blank_opens f.2)))
weave i (literal x) c o f = word_token c x o f
weave i (slot x) c o f = word_token c x o f
weave i (reference r) c o f = weave i r c o f
weave i (named n) c o f = weave i n c o f
weave i (parens l e r) c o f = grouped (run_then (opening_paren c l o f.0)
    (λ d o. nest_run (weave i e d o f.1) (λ d e. closing_paren d r f.2)))
weave i (list_empty l r) c o f = run_then (opening_bracket c l (o 91 refl) f.0)
    (λ d o. nest_run (just {Q = Any} d tt) (λ d _. closing_bracket d r f.1))
weave i (list_of l a r) c o f = run_then (opening_bracket c l (o 91 refl) f.0)
    (λ d o. nest_run (weave i a d o f.1) (λ d e. closing_bracket d r f.2))
weave i (record_empty l r) c o f =
    run_then (opening_brace c l (o 123 refl) f.0) (λ d _. closing_brace d r f.1)
weave i (record_of l a r) c o f = run_then (opening_brace c l (o 123 refl) f.0)
    (λ d _. nest_run (grouped (line_then (run_last (weave i a space_character blank_opens f.1)
    (λ d e. line_then (just {Q = Any} space_character tt))))) (λ d e. closing_brace d r f.2))
weave i no_access c o f = just c o
weave i (field s x m) c e f =
    run_then (mark Opens (codes ".") c s f.0 refl blank_opens opens_at_dot)
    (λ d o. run_then (word_token d x o f.1) (λ d e. after_field m (weave i m d e f.2)))
weave i (call_empty l r m) c e f =
    run_then (mark Opens (codes "(") c l f.0 refl blank_opens opens_at_paren)
    (λ d o. run_then (closing_paren d r f.1) (λ d e. after_other m (weave i m d e f.2)))
weave i (call l a r m) c e f =
    run_then (mark Opens (codes "(") c l f.0 refl blank_opens opens_at_paren)
    (λ d o. nest_run (maybe_then (weave i a d o f.1)) (λ d e.
    maybe_then (run_then (closing_paren d r f.2) (λ d e. after_other m (weave i m d e f.3)))))
weave i (index l x r m) c e f =
    run_then (opening_bracket c l refl f.0) (λ d o. run_then (word_token d x o f.1)
    (λ d e. run_then (closing_bracket d r f.2) (λ d e. after_other m (weave i m d e f.3))))
weave i (member_of p m) c o f =
    grouped (run_then (weave i p c o f.0) (λ d e. nested (weave i m d e f.1)))
weave i (unsigned m) c o f = weave i m c o f
weave i (signed s u) c o f = run_then (sign c s o f.0) (λ d o. weave i u d o f.1)
weave i (products_one u) c o f = weave i u c o f
weave i (products_more u s r) c o f = run_then (weave i u c o f.0)
    (λ d e. space_then (run_then (operator space_character s
    (blank_apart (first_or space_character (token_value s.text))))
    (λ d _. line_then (weave i r space_character blank_opens f.1))))
weave i (mult_of p) c o f = grouped (weave i p c o f)
weave i (sums_one m) c o f = weave i m c o f
weave i (sums_more m s r) c o f = run_then (weave i m c o f.0)
    (λ d e. space_then (run_then (operator space_character s
    (blank_apart (first_or space_character (token_value s.text))))
    (λ d _. line_then (weave i r space_character blank_opens f.1))))
weave i (add_of s) c o f = grouped (weave i s c o f)
weave i (single a) c o f = weave i a c o f
weave i (compare a s b) c o f = run_then (weave i a c o f.0)
    (λ d e. space_then (run_then (operator space_character s
    (blank_apart (first_or space_character (token_value s.text))))
    (λ d _. space_then (weave i b space_character blank_opens f.1))))
weave i (has_or_like a s b) c o f = grouped (run_then (weave i a c o f.0)
    (λ d e. line_then (run_then (operator space_character s
    (blank_apart (first_or space_character (token_value s.text))))
    (λ d _. line_then (nested (weave i b space_character blank_opens f.1))))))
weave i (is_type a s n) c o f = grouped (run_then (weave i a c o f.0)
    (λ d e. space_then (run_then (operator space_character s
    (blank_apart (first_or space_character (token_value s.text))))
    (λ d _. space_then (nested (weave i n space_character blank_opens f.1))))))
weave i (is_in a s n p b) c o f = grouped (run_then (weave i a c o f.0)
    (λ d e. space_then (run_then (operator space_character s
    (blank_apart (first_or space_character (token_value s.text))))
    (λ d _. space_then (nest_run (weave i n space_character blank_opens f.1)
    (λ d e. line_then (run_then (operator space_character p
    (blank_apart (first_or space_character (token_value p.text))))
    (λ d _. space_then (nested (weave i b space_character blank_opens f.2))))))))))
weave i (ands_one r) c o f = weave i r c o f
weave i (ands_more r s m) c o f = run_then (weave i r c o f.0)
    (λ d e. space_then (run_then (token_then_blank line space_character s (λ c. w_line done)
    (blank_apart (first_or space_character (token_value s.text)))) (λ d o. weave i m d o f.1)))
weave i (ors_one a) c o f = weave i a c o f
weave i (ors_more a s m) c o f = run_then (weave i a c o f.0)
    (λ d e. space_then (run_then (token_then_blank line space_character s (λ c. w_line done)
    (blank_apart (first_or space_character (token_value s.text)))) (λ d o. weave i m d o f.1)))
weave i (ors_expr e) c o f = weave i e c o f
weave i (if_expr x g t a e b) c o f = grouped
    (run_then (word_token c x o f.0)
    (λ d _. nest_run (line_then (weave i g space_character blank_opens f.1))
    (λ d _. line_then (run_then (operator space_character t
    (blank_apart (first_or space_character (token_value t.text))))
    (λ d _. nest_run (line_then (weave i a space_character blank_opens f.2))
    (λ d _. line_then (run_then (operator space_character e
    (blank_apart (first_or space_character (token_value e.text))))
    (λ d _. nested (line_then (weave i b space_character blank_opens f.3))))))))))
