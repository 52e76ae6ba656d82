-- Walks over the marks of a document.
use Rattle.std.proofs.Common.{◌≡◌, ℕ, ◌+◌, ◌-◌, ◌<◌, ◌≤◌, List, [], ◌∷◌, ◌++◌, length, take, get_or, refl, sym, ap, subst, ◌∙◌, append_assoc, append-nil, arith}
use Rattle.std.specs.List.{concat, flat_map}
use Rattle.std.proofs.lemmas.List.{take_more, reverse-append}
use Rattle.std.proofs.lemmas.List.Concat.{flat_map-append}
use Rattle.std.proofs.lemmas.List.Folds.{concat-append}
use Rattle.std.proofs.lemmas.List.Sums.{sum_by_push}
use Rattle.cedar_layout.specs.declared.layout.Document.{Document}
use Rattle.cedar_layout.specs.Layout.{Doc, nil, text_then, line_then, line_or_nil_then, hard_then, nest_then, group_then, ◌·◌}
use Rattle.cedar_layout.specs.Layout as D
use Rattle.cedar_layout.specs.Value.{doc_of, docs_of}
use Rattle.cedar_layout.proofs.Values.{docs_of-push}
use Rattle.cedar_print.specs.declared.walk.Pending.{Pending}
use Rattle.cedar_print.specs.WrittenMarks.{Mark, text, line, line_or_nil, hard, nest, end_nest, begin, end_group, AreMarks, none, both, a_text, a_line, a_line_or_nil, a_hard, a_nest, a_group}
use Rattle.cedar_print.specs.Clean.{units_of}
use Rattle.cedar_print.specs.Inside.Measured.{Facts, facts, before}
use Rattle.cedar_print.specs.Inside.Printed.{State, pieces_of, after, printed}
use Rattle.cedar_print.specs.Inside.Walked.{marks_in, marks_in_pending, marks_ahead, marks_behind, nodes_in_pending, nodes_pending, before_all}

-- ---- the marks of a document

pub marks_in-dot : (d e : Doc) → marks_in (d · e) ≡ marks_in d ++ marks_in e
marks_in-dot nil e = refl
marks_in-dot (text_then s r) e = ap (λ ms. text s ∷ ms) (marks_in-dot r e)
marks_in-dot (line_then r) e = ap (λ ms. line ∷ ms) (marks_in-dot r e)
marks_in-dot (line_or_nil_then r) e = ap (λ ms. line_or_nil ∷ ms) (marks_in-dot r e)
marks_in-dot (hard_then r) e = ap (λ ms. hard ∷ ms) (marks_in-dot r e)
marks_in-dot (nest_then n d r) e =
    ap (λ ms. nest n ∷ (marks_in d ++ end_nest ∷ ms)) (marks_in-dot r e)
    ∙ ap (λ ms. nest n ∷ ms) (sym (append_assoc (marks_in d) (end_nest ∷ marks_in r) (marks_in e)))
marks_in-dot (group_then d r) e =
    ap (λ ms. begin ∷ (marks_in d ++ end_group ∷ ms)) (marks_in-dot r e)
    ∙ ap (λ ms. begin ∷ ms) (sym (append_assoc (marks_in d) (end_group ∷ marks_in r) (marks_in e)))

-- they are its marks
pub are_marks_in : (d : Doc) → AreMarks (marks_in d) d
are_marks_in nil = none
are_marks_in (text_then s r) =
    both (text s ∷ []) (marks_in r) (D.text s) r (a_text s) (are_marks_in r)
are_marks_in (line_then r) = both (line ∷ []) (marks_in r) D.line r a_line (are_marks_in r)
are_marks_in (line_or_nil_then r) =
    both (line_or_nil ∷ []) (marks_in r) D.line_or_nil r a_line_or_nil (are_marks_in r)
are_marks_in (hard_then r) = both (hard ∷ []) (marks_in r) D.hard r a_hard (are_marks_in r)
are_marks_in (nest_then n d r) = subst (λ ms. AreMarks (nest n ∷ ms) (nest_then n d r))
    (append_assoc (marks_in d) (end_nest ∷ []) (marks_in r))
    (both (nest n ∷ (marks_in d ++ end_nest ∷ [])) (marks_in r) (D.nest n d) r
    (a_nest n (marks_in d) d (are_marks_in d)) (are_marks_in r))
are_marks_in (group_then d r) = subst (λ ms. AreMarks (begin ∷ ms) (group_then d r))
    (append_assoc (marks_in d) (end_group ∷ []) (marks_in r))
    (both (begin ∷ (marks_in d ++ end_group ∷ [])) (marks_in r) (D.group d) r
    (a_group (marks_in d) d (are_marks_in d)) (are_marks_in r))

-- those of one more document
pub marks_in-take : (ds : List Document) (i : ℕ) (d : Document) → i < length ds → d ≡ get_or ds i d
    → marks_in (docs_of (take (i + 1) ds)) ≡ marks_in (docs_of (take i ds)) ++ marks_in (doc_of d)
marks_in-take ds i d h e =
    ap (λ xs. marks_in (docs_of xs)) (take_more ds i d h)
    ∙ ap marks_in (docs_of-push (take i ds) (get_or ds i d))
    ∙ marks_in-dot (docs_of (take i ds)) (doc_of (get_or ds i d))
    ∙ ap (λ x. marks_in (docs_of (take i ds)) ++ marks_in (doc_of x)) (sym e)

pub marks_in-back : (ds : List Document) (i : ℕ) (d : Document) → 0 < i → i ≤ length ds
    → d ≡ get_or ds (i - 1) d
    → marks_in (docs_of (take i ds)) ≡ marks_in (docs_of (take (i - 1) ds)) ++ marks_in (doc_of d)
marks_in-back ds i d z l e =
    let back : i - 1 + 1 ≡ i = omega arith in
    ap (λ k. marks_in (docs_of (take k ds))) (sym back) ∙ marks_in-take ds (i - 1) d (omega arith) e

-- ---- what is pending

pub ahead_pushed : (xs : List Pending) (p : Pending)
    → marks_ahead (xs ++ p ∷ []) ≡ marks_in_pending p ++ marks_ahead xs
ahead_pushed xs p = ap (λ ps. flat_map marks_in_pending ps) (reverse-append xs (p ∷ []))

pub behind_pushed : (xs : List Pending) (p : Pending)
    → marks_behind (xs ++ p ∷ []) ≡ marks_behind xs ++ marks_in_pending p
behind_pushed xs p = flat_map-append marks_in_pending xs (p ∷ [])
    ∙ ap (λ ms. marks_behind xs ++ ms) (append-nil (marks_in_pending p))

pub nodes_pushed : (xs : List Pending) (p : Pending)
    → nodes_pending (xs ++ p ∷ []) ≡ nodes_pending xs + nodes_in_pending p
nodes_pushed xs p = sum_by_push nodes_in_pending xs p

-- ---- what is known before marks

pub before_all-push : (ms : List Mark) (m : Mark) (k : Facts)
    → before_all (ms ++ m ∷ []) k ≡ before_all ms (before m k)
before_all-push [] m k = refl
before_all-push (x ∷ ms) m k = ap (before x) (before_all-push ms m k)

pub facts_before_all : (ms : List Mark) → before_all ms (facts []) ≡ facts ms
facts_before_all [] = refl
facts_before_all (m ∷ ms) = ap (before m) (facts_before_all ms)

-- ---- what marks write

-- a mark is printed, and what is left
pub one_printed : (w : ℕ) (out new : List ℕ) (ms rest : List Mark) (m : Mark) (p q : State)
    (us : List (List ℕ)) → ms ≡ m ∷ rest → q ≡ after w m p
    → us ≡ flat_map units_of (pieces_of m p.here) → new ≡ out ++ concat us
    → new ++ concat (flat_map units_of (printed w rest q))
    ≡ out ++ concat (flat_map units_of (printed w ms p))
one_printed w out new ms rest m p q us taken state units written =
    let here = flat_map units_of (pieces_of m p.here) in
    let more = flat_map units_of (printed w rest (after w m p)) in
    ap (λ xs. xs ++ concat (flat_map units_of (printed w rest q))) written
    ∙ ap (λ s. (out ++ concat us) ++ concat (flat_map units_of (printed w rest s))) state
    ∙ ap (λ xs. (out ++ concat xs) ++ concat more) units
    ∙ append_assoc out (concat here) (concat more)
    ∙ ap (λ xs. out ++ xs) (sym (concat-append here more))
    ∙ ap (λ xs. out ++ concat xs) (sym (flat_map-append units_of (pieces_of m p.here)
    (printed w rest (after w m p))))
    ∙ ap (λ xs. out ++ concat (flat_map units_of (printed w xs p))) (sym taken)
