-- Equal parts are those of equal typed trees.
use Rattle.std.specs.Prelude.{◌≡◌, true, false}
use Rattle.std.proofs.Common.{refl, sym, ap, ap₂, ◌∙◌}
use Rattle.cedar_tokens.specs.declared.kind.Kind.{Kind}
use Rattle.cedar_tokens.specs.declared.kind.Kind.TheVariants as K
use Rattle.cedar_grammar.specs.Trees.{Label, Forest, none, leaf, branch, join}
use Rattle.cedar_grammar.specs.Trees as L
use Rattle.cedar_grammar.proofs.Trees.Unlike.{is_literal, no_literal, alike, differ, ins, nxt, lab, hd, last_same}
use Rattle.cedar_grammar.specs.TypedTrees.{NodeKind, args, inits, Tree, parts, literal_label, name_one, name_more, ref_of, args_one, args_more, init_of, inits_one, inits_more, literal, slot, reference, named, parens, list_empty, list_of, record_empty, record_of, no_access, field, call_empty, call, index, member_of, unsigned, signed, products_one, products_more, mult_of, sums_one, sums_more, add_of, single, compare, has_or_like, is_type, is_in, ands_one, ands_more, ors_one, ors_more, ors_expr, if_expr}

-- equal functions of equal arguments
infixl 30 ◌⊛◌
pub ◌⊛◌ : {A B : Type 0} {f g : A → B} {a b : A} → f ≡ g → a ≡ b → f a ≡ g b
p ⊛ q = ap₂ (λ h x. h x) p q

-- what a row with arguments or fields begins with
args_begin : {A : Type 0} (kind : A → Kind) (t : Tree A args) (f : Forest Label A)
    → join (parts kind t) f ≡ branch L.expr (ins (parts kind t)) (join (nxt (parts kind t)) f)
args_begin kind (args_one x) f = refl
args_begin kind (args_more x y z) f = refl

inits_begin : {A : Type 0} (kind : A → Kind) (t : Tree A inits) (f : Forest Label A)
    → join (parts kind t) f ≡ branch L.rec_init (ins (parts kind t)) (join (nxt (parts kind t)) f)
inits_begin kind (inits_one x) f = refl
inits_begin kind (inits_more x y z) f = refl

-- Different trees have different parts.
pub unlike : {A : Type 0} {f g : Forest Label A} → f ≡ g → alike (λ _ _. true) f g ≡ false → ⊥
unlike {f = f} {g = g} e n = differ (λ _ _. true) (λ _. refl) f g n e

literal_is : (k : Kind) → is_literal (literal_label k) ≡ true
literal_is K.Number = refl
literal_is K.Str = refl
literal_is _ = refl

pub parts_same : {A : Type 0} {k : NodeKind} (kind : A → Kind) (t u : Tree A k)
    → parts kind t ≡ parts kind u → t ≡ u
parts_same kind (name_one x0) (name_one y0) e = ap name_one (ap (λ z. hd x0 (ins z)) e)
parts_same kind (name_more x0 x1 x2) (name_more y0 y1 y2) e =
    ap name_more (ap (λ z. hd x0 (ins z)) e) ⊛ ap (λ z. hd x1 (nxt z)) e
    ⊛ parts_same kind x2 y2 (ap (λ z. nxt (nxt z)) e)
parts_same kind (ref_of x0 x1 x2) (ref_of y0 y1 y2) e = ap ref_of (parts_same kind x0 y0 (ap ins e))
    ⊛ ap (λ z. hd x1 (nxt z)) e ⊛ ap (λ z. hd x2 (ins (nxt (nxt z)))) e
parts_same kind (args_one x0) (args_one y0) e = ap args_one (parts_same kind x0 y0 (ap ins e))
parts_same kind (args_more x0 x1 x2) (args_more y0 y1 y2) e =
    ap args_more (parts_same kind x0 y0 (ap ins e)) ⊛ ap (λ z. hd x1 (nxt z)) e
    ⊛ parts_same kind x2 y2 (ap (λ z. nxt (nxt z)) e)
parts_same kind (init_of x0 x1 x2) (init_of y0 y1 y2) e =
    ap init_of (parts_same kind x0 y0 (ap ins e)) ⊛ ap (λ z. hd x1 (nxt z)) e
    ⊛ parts_same kind x2 y2 (ap (λ z. ins (nxt (nxt z))) e)
parts_same kind (inits_one x0) (inits_one y0) e = ap inits_one (parts_same kind x0 y0 (ap ins e))
parts_same kind (inits_more x0 x1 x2) (inits_more y0 y1 y2) e =
    ap inits_more (parts_same kind x0 y0 (ap ins e)) ⊛ ap (λ z. hd x1 (nxt z)) e
    ⊛ parts_same kind x2 y2 (ap (λ z. nxt (nxt z)) e)
parts_same kind (literal x0) (literal y0) e = ap literal (ap (λ z. hd x0 (ins z)) e)
parts_same kind (slot x0) (slot y0) e = ap slot (ap (λ z. hd x0 (ins z)) e)
parts_same kind (reference x0) (reference y0) e = ap reference (parts_same kind x0 y0 (ap ins e))
parts_same kind (named x0) (named y0) e = ap named (parts_same kind x0 y0 (ap ins e))
parts_same kind (parens x0 x1 x2) (parens y0 y1 y2) e = ap parens (ap (λ z. hd x0 (ins z)) e)
    ⊛ parts_same kind x1 y1 (ap (λ z. ins (nxt (ins z))) e) ⊛ ap (λ z. hd x2 (nxt (nxt (ins z)))) e
parts_same kind (list_empty x0 x1) (list_empty y0 y1) e =
    ap list_empty (ap (λ z. hd x0 (ins z)) e) ⊛ ap (λ z. hd x1 (nxt (ins z))) e
parts_same kind (list_of x0 x1 x2) (list_of y0 y1 y2) e =
    let z1 = last_same (parts kind x1) (parts kind y1) x2 y2 (ap (λ z. nxt (ins z)) e) in
    ap list_of (ap (λ z. hd x0 (ins z)) e) ⊛ parts_same kind x1 y1 z1.0 ⊛ z1.1
parts_same kind (record_empty x0 x1) (record_empty y0 y1) e =
    ap record_empty (ap (λ z. hd x0 (ins z)) e) ⊛ ap (λ z. hd x1 (nxt (ins z))) e
parts_same kind (record_of x0 x1 x2) (record_of y0 y1 y2) e =
    let z1 = last_same (parts kind x1) (parts kind y1) x2 y2 (ap (λ z. nxt (ins z)) e) in
    ap record_of (ap (λ z. hd x0 (ins z)) e) ⊛ parts_same kind x1 y1 z1.0 ⊛ z1.1
parts_same kind no_access no_access e = refl
parts_same kind (field x0 x1 x2) (field y0 y1 y2) e = ap field (ap (λ z. hd x0 (ins z)) e)
    ⊛ ap (λ z. hd x1 (ins (nxt (ins z)))) e ⊛ parts_same kind x2 y2 (ap nxt e)
parts_same kind (call_empty x0 x1 x2) (call_empty y0 y1 y2) e = ap call_empty
    (ap (λ z. hd x0 (ins z)) e) ⊛ ap (λ z. hd x1 (nxt (ins z))) e ⊛ parts_same kind x2 y2 (ap nxt e)
parts_same kind (call x0 x1 x2 x3) (call y0 y1 y2 y3) e =
    let z1 = last_same (parts kind x1) (parts kind y1) x2 y2 (ap (λ z. nxt (ins z)) e) in
    ap call (ap (λ z. hd x0 (ins z)) e) ⊛ parts_same kind x1 y1 z1.0 ⊛ z1.1
    ⊛ parts_same kind x3 y3 (ap nxt e)
parts_same kind (index x0 x1 x2 x3) (index y0 y1 y2 y3) e =
    ap index (ap (λ z. hd x0 (ins z)) e) ⊛ ap (λ z. hd x1 (ins (nxt (ins z)))) e
    ⊛ ap (λ z. hd x2 (nxt (nxt (ins z)))) e ⊛ parts_same kind x3 y3 (ap nxt e)
parts_same kind (member_of x0 x1) (member_of y0 y1) e =
    ap member_of (parts_same kind x0 y0 (ap ins e)) ⊛ parts_same kind x1 y1 (ap nxt e)
parts_same kind (unsigned x0) (unsigned y0) e = ap unsigned (parts_same kind x0 y0 (ap ins e))
parts_same kind (signed x0 x1) (signed y0 y1) e =
    ap signed (ap (hd x0) e) ⊛ parts_same kind x1 y1 (ap nxt e)
parts_same kind (products_one x0) (products_one y0) e =
    ap products_one (parts_same kind x0 y0 (ap ins e))
parts_same kind (products_more x0 x1 x2) (products_more y0 y1 y2) e =
    ap products_more (parts_same kind x0 y0 (ap ins e)) ⊛ ap (λ z. hd x1 (nxt z)) e
    ⊛ parts_same kind x2 y2 (ap (λ z. nxt (nxt z)) e)
parts_same kind (mult_of x0) (mult_of y0) e = ap mult_of (parts_same kind x0 y0 e)
parts_same kind (sums_one x0) (sums_one y0) e = ap sums_one (parts_same kind x0 y0 (ap ins e))
parts_same kind (sums_more x0 x1 x2) (sums_more y0 y1 y2) e =
    ap sums_more (parts_same kind x0 y0 (ap ins e)) ⊛ ap (λ z. hd x1 (nxt z)) e
    ⊛ parts_same kind x2 y2 (ap (λ z. nxt (nxt z)) e)
parts_same kind (add_of x0) (add_of y0) e = ap add_of (parts_same kind x0 y0 e)
parts_same kind (single x0) (single y0) e = ap single (parts_same kind x0 y0 (ap ins e))
parts_same kind (compare x0 x1 x2) (compare y0 y1 y2) e =
    ap compare (parts_same kind x0 y0 (ap ins e)) ⊛ ap (λ z. hd x1 (ins (nxt z))) e
    ⊛ parts_same kind x2 y2 (ap (λ z. ins (nxt (ins (nxt z)))) e)
parts_same kind (has_or_like x0 x1 x2) (has_or_like y0 y1 y2) e =
    ap has_or_like (parts_same kind x0 y0 (ap ins e)) ⊛ ap (λ z. hd x1 (ins (nxt z))) e
    ⊛ parts_same kind x2 y2 (ap (λ z. ins (nxt (ins (nxt z)))) e)
parts_same kind (is_type x0 x1 x2) (is_type y0 y1 y2) e =
    ap is_type (parts_same kind x0 y0 (ap ins e)) ⊛ ap (λ z. hd x1 (ins (nxt z))) e
    ⊛ parts_same kind x2 y2 (ap (λ z. ins (nxt (ins (nxt z)))) e)
parts_same kind (is_in x0 x1 x2 x3 x4) (is_in y0 y1 y2 y3 y4) e =
    ap is_in (parts_same kind x0 y0 (ap ins e)) ⊛ ap (λ z. hd x1 (ins (nxt z))) e ⊛ parts_same kind
    x2 y2 (ap (λ z. ins (nxt (ins (nxt z)))) e) ⊛ ap (λ z. hd x3 (nxt (nxt (ins (nxt z))))) e
    ⊛ parts_same kind x4 y4 (ap (λ z. ins (nxt (nxt (nxt (ins (nxt z)))))) e)
parts_same kind (ands_one x0) (ands_one y0) e = ap ands_one (parts_same kind x0 y0 (ap ins e))
parts_same kind (ands_more x0 x1 x2) (ands_more y0 y1 y2) e =
    ap ands_more (parts_same kind x0 y0 (ap ins e)) ⊛ ap (λ z. hd x1 (nxt z)) e
    ⊛ parts_same kind x2 y2 (ap (λ z. nxt (nxt z)) e)
parts_same kind (ors_one x0) (ors_one y0) e = ap ors_one (parts_same kind x0 y0 (ap ins e))
parts_same kind (ors_more x0 x1 x2) (ors_more y0 y1 y2) e =
    ap ors_more (parts_same kind x0 y0 (ap ins e)) ⊛ ap (λ z. hd x1 (nxt z)) e
    ⊛ parts_same kind x2 y2 (ap (λ z. nxt (nxt z)) e)
parts_same kind (ors_expr x0) (ors_expr y0) e = ap ors_expr (parts_same kind x0 y0 (ap ins e))
parts_same kind (if_expr x0 x1 x2 x3 x4 x5) (if_expr y0 y1 y2 y3 y4 y5) e =
    ap if_expr (ap (hd x0) e) ⊛ parts_same kind x1 y1 (ap (λ z. ins (nxt z)) e)
    ⊛ ap (λ z. hd x2 (nxt (nxt z))) e ⊛ parts_same kind x3 y3 (ap (λ z. ins (nxt (nxt (nxt z)))) e)
    ⊛ ap (λ z. hd x4 (nxt (nxt (nxt (nxt z))))) e
    ⊛ parts_same kind x5 y5 (ap (λ z. ins (nxt (nxt (nxt (nxt (nxt z)))))) e)
parts_same kind (literal x0) u e = absurd (no_literal (literal_is (kind x0)) (ap lab e) refl)
parts_same kind t (literal y0) e = absurd (no_literal (literal_is (kind y0)) (sym (ap lab e)) refl)
parts_same kind (list_empty x0 x1) (list_of y0 y1 y2) e =
    absurd (unlike (ap (λ z. nxt (ins z)) e ∙ args_begin kind y1 (leaf y2 none)) refl)
parts_same kind (list_of x0 x1 x2) (list_empty y0 y1) e =
    absurd (unlike (sym (args_begin kind x1 (leaf x2 none)) ∙ ap (λ z. nxt (ins z)) e) refl)
parts_same kind (record_empty x0 x1) (record_of y0 y1 y2) e =
    absurd (unlike (ap (λ z. nxt (ins z)) e ∙ inits_begin kind y1 (leaf y2 none)) refl)
parts_same kind (record_of x0 x1 x2) (record_empty y0 y1) e =
    absurd (unlike (sym (inits_begin kind x1 (leaf x2 none)) ∙ ap (λ z. nxt (ins z)) e) refl)
parts_same kind (field x0 x1 x2) (call y0 y1 y2 y3) e =
    absurd (unlike (ap (λ z. nxt (ins z)) e ∙ args_begin kind y1 (leaf y2 none)) refl)
parts_same kind (call x0 x1 x2 x3) (field y0 y1 y2) e =
    absurd (unlike (sym (args_begin kind x1 (leaf x2 none)) ∙ ap (λ z. nxt (ins z)) e) refl)
parts_same kind (call_empty x0 x1 x2) (call y0 y1 y2 y3) e =
    absurd (unlike (ap (λ z. nxt (ins z)) e ∙ args_begin kind y1 (leaf y2 none)) refl)
parts_same kind (call x0 x1 x2 x3) (call_empty y0 y1 y2) e =
    absurd (unlike (sym (args_begin kind x1 (leaf x2 none)) ∙ ap (λ z. nxt (ins z)) e) refl)
parts_same kind (index x0 x1 x2 x3) (call y0 y1 y2 y3) e =
    absurd (unlike (ap (λ z. nxt (ins z)) e ∙ args_begin kind y1 (leaf y2 none)) refl)
parts_same kind (call x0 x1 x2 x3) (index y0 y1 y2 y3) e =
    absurd (unlike (sym (args_begin kind x1 (leaf x2 none)) ∙ ap (λ z. nxt (ins z)) e) refl)
parts_same kind (field x0 x1 x2) u e = absurd (unlike (ap ins e) refl)
parts_same kind (call_empty x0 x1 x2) u e = absurd (unlike (ap ins e) refl)
parts_same kind (index x0 x1 x2 x3) u e = absurd (unlike (ap ins e) refl)
parts_same kind t u e = absurd (unlike e refl)
