-- A refusal is at the furthest token.
use Rattle.std.proofs.Common.{◌≡◌, ℕ, zero, suc, ℤ, pos, ◌+◌, Bool, true, false, List, [], ◌∷◌, ◌++◌, length, map, refl, sym, ap, ◌∙◌, subst, append-nil}
use Rattle.std.specs.Prelude.{IsTrue}
use Rattle.cedar_tokens.specs.Listing.{Decorated}
use Rattle.cedar_tokens.specs.declared.kind.Kind.TheVariants as K
use Rattle.cedar_tokens.specs.Kinds.{is_effect}
use Rattle.cedar_grammar.specs.Reader.Rules.{expr_first}
use Rattle.cedar_grammar.specs.Trees.{Label, Forest, yield}
use Rattle.cedar_grammar.specs.Languages.{Never}
use Rattle.cedar_grammar.specs.Reader.Reading.{Answer, Reader, done, stuck, too_deep}
use Rattle.cedar_grammar.proofs.Readers.Families.{IsList, refused as refused_at, unfinished}
use Rattle.cedar_written.specs.Texts.{without_comments}
use Rattle.cedar_print.specs.WrittenMarks.{Mark}
use Rattle.cedar_writer.specs.Rules as R
use Rattle.cedar_writer.specs.Rules.{◌▸◌}
use Rattle.cedar_writer.specs.Lines as lines
use Rattle.cedar_writer.specs.Languages as L
use Rattle.cedar_writer.specs.Languages.{Expr, Policy}
use Rattle.cedar_writer.specs.Beginnings.{IsPolicy, BeginsPolicy, LeavesPolicy}
use Rattle.cedar_writer.specs.Laws.{RefusedAtTheFurthest}
use Rattle.cedar_writer.specs.Writing.{State, going, refused, refuse, run, expr_to, policy_to}
use Rattle.cedar_writer.proofs.Tests.{expr_decided}
use Rattle.cedar_writer.proofs.Moves.{refuse_keeps, expr_keeps}
use Rattle.cedar_writer.proofs.Sound.{too_deep_steady, expr_steady, run_steady}
use Rattle.cedar_writer.proofs.Complete.{Starts, expr_begun, policy_complete}
use Rattle.cedar_writer.proofs.Bones.{bones, texts, Agrees, Does, bones_do, seq_does, peek_does}
use Rattle.cedar_writer.proofs.SomeRows.{Some, rule_some, seq_some, peek_some}
use Rattle.cedar_writer.proofs.Refusals.{bare_expr_to, bare_policy_to, BareExpr, BarePolicy, policy_laws, policy_sound}

-- the parts of a policy
abbrev Annotations : ℤ → R.Rule
Annotations i = R.star lines.annotation

abbrev Head : ℤ → R.Rule
Head i = R.lifted (R.group (R.one_of is_effect ▸ R.line ▸ R.tok K.LParen))

abbrev BareEnd : ℤ → R.Rule
BareEnd i = lines.bare_scope i ▸ lines.policy_end i

abbrev BrokenEnd : ℤ → R.Rule
BrokenEnd i = lines.broken_scope i ▸ lines.policy_end i

too_deep_does : Does (refuse true) too_deep
too_deep_does = record { at = λ ts ms r. (refl, refl) }

expr_does : (i : ℤ) (n : ℕ) → Does (expr_to i n) (bare_expr_to n)
expr_does i zero = bones_do false (refuse true) too_deep too_deep_steady (refuse_keeps true)
    too_deep_does (lines.expr i) (expr_decided i) refl
expr_does i (suc n) = bones_do true (expr_to i n) (bare_expr_to n) (expr_steady i n)
    (expr_keeps i n) (expr_does i n) (lines.expr i) (expr_decided i) refl

module _ (i : ℤ) (n : ℕ) where
  abbrev E : State → State
  E = expr_to i n

  abbrev F : Reader (List ℕ)
  F = bare_expr_to n

  pub policy_does : Does (policy_to i n) (bare_policy_to n)
  policy_does = seq_does true E F (expr_steady i n) (expr_keeps i n) (expr_does i n)
      (run true E (Annotations i)) (run true E (Head i ▸ R.peek lines.bare (BareEnd i)
      (BrokenEnd i)))
      (bones (Annotations i)) (bones (Head i ▸ R.peek lines.bare (BareEnd i) (BrokenEnd i)))
      (run_steady true E (expr_steady i n) (Head i ▸ R.peek lines.bare (BareEnd i) (BrokenEnd i)))
      (bones_do true E F (expr_steady i n) (expr_keeps i n) (expr_does i n) (Annotations i) refl
      refl)
      (seq_does true E F (expr_steady i n) (expr_keeps i n) (expr_does i n)
      (run true E (Head i)) (run true E (R.peek lines.bare (BareEnd i) (BrokenEnd i)))
      (bones (Head i)) (bones (BrokenEnd i))
      (run_steady true E (expr_steady i n) (R.peek lines.bare (BareEnd i) (BrokenEnd i)))
      (bones_do true E F (expr_steady i n) (expr_keeps i n) (expr_does i n) (Head i) refl refl)
      (peek_does true E F (expr_steady i n) (expr_keeps i n) (expr_does i n) lines.bare (BareEnd i)
      (BrokenEnd i) refl refl refl refl refl))

never_some : Some Never L.Never
never_some = record { row = λ f x ts s. absurd x }

no_rows : Starts L.Never false expr_first
no_rows ts d x = absurd x

expr_some : (n : ℕ) → Some (BareExpr n) (Expr (pos 0) n)
expr_some zero = rule_some false Never L.Never never_some no_rows (lines.expr (pos 0))
    (expr_decided (pos 0)) refl
expr_some (suc n) = rule_some true (BareExpr n) (Expr (pos 0) n) (expr_some n)
    (expr_begun (pos 0) n) (lines.expr (pos 0)) (expr_decided (pos 0)) refl

policy_some : (n : ℕ) → Some (BarePolicy n) (Policy (pos 0) n)
policy_some n =
    let i = pos 0 in
    seq_some true (BareExpr n) (Expr (pos 0) n) (expr_some n) (expr_begun (pos 0) n)
    (bones (Annotations i)) (bones (Head i ▸ R.peek lines.bare (BareEnd i) (BrokenEnd i))) _ _
    (rule_some true (BareExpr n) (Expr (pos 0) n) (expr_some n) (expr_begun (pos 0) n)
    (Annotations i) refl refl)
    (seq_some true (BareExpr n) (Expr (pos 0) n) (expr_some n) (expr_begun (pos 0) n)
    (bones (Head i)) (bones (BrokenEnd i)) _ _
    (rule_some true (BareExpr n) (Expr (pos 0) n) (expr_some n) (expr_begun (pos 0) n) (Head i) refl
    refl)
    (peek_some true (BareExpr n) (Expr (pos 0) n) (expr_some n) (expr_begun (pos 0) n) lines.bare
    (BareEnd i) (BrokenEnd i) refl refl refl refl refl))

texts_back : (xs : List (List ℕ)) → texts (map without_comments xs) ≡ xs
texts_back [] = refl
texts_back (x ∷ xs) = ap (λ z. x ∷ z) (texts_back xs)

-- ---- policies by the rules and by their bones
abbrev BareList : ℕ → List (List ℕ) → Type 0
BareList n ts = IsList bare_policy_to BarePolicy n ts

answer_done : (ms : List Mark) (r : ℕ) (a : Answer (List ℕ)) → Agrees (going [] ms r) a
    → (f : Forest Label (List ℕ)) × (a ≡ done f [])
answer_done ms r (done f vs) h = (f, ap (done f) (sym h))
answer_done ms r (stuck b vs) h = absurd h

to_list : (n : ℕ) (ts : List (List ℕ)) → IsPolicy n ts → BareList n ts
to_list n ts (ms, x) =
    let xs = map without_comments ts in
    let e = policy_complete (pos 0) n xs ms [] [] 0 x in
    let a = (policy_does (pos 0) n).at (xs ++ []) [] (length ms + 0) in
    let b = subst (λ z. Agrees z (bare_policy_to n (texts (xs ++ [])))) e a in
    let t : texts (xs ++ []) ≡ ts = ap texts (append-nil xs) ∙ texts_back ts in
    let c = subst (λ z. Agrees (going [] ms 0) (bare_policy_to n z)) t b in
    let d = answer_done ms 0 (bare_policy_to n ts) c in
    let s = policy_sound n ts d.0 [] d.1 in
    (d.0, s.among, sym (s.tokens ∙ append-nil (yield d.0)))

of_list : (n : ℕ) (ts : List (List ℕ)) → BareList n ts → IsPolicy n ts
of_list n ts (f, x, y) = (policy_some n).row f x (map without_comments ts) (texts_back ts ∙ sym y)

answer_stuck : (b : Bool) (us : List Decorated) (a : Answer (List ℕ)) → Agrees (refused b us) a
    → a ≡ stuck b (texts us)
answer_stuck b us (done f vs) h = absurd h
answer_stuck b us (stuck c vs) (e, g) = ap (λ z. stuck z vs) (sym e) ∙ ap (stuck b) (sym g)

pub refused_at_the_furthest : RefusedAtTheFurthest
refused_at_the_furthest i n ts us ms r deep e = go us (answer_stuck deep us
    (bare_policy_to n (texts ts))
    (subst (λ z. Agrees z (bare_policy_to n (texts ts))) e ((policy_does i n).at ts ms r)))
  where
    go : (us : List Decorated) → bare_policy_to n (texts ts) ≡ stuck deep (texts us)
        → (front : List (List ℕ)) × (texts ts ≡ front ++ texts us) × BeginsPolicy n front
        × LeavesPolicy n front (texts us) deep
    go [] h =
        let x = unfinished bare_policy_to BarePolicy policy_laws n (texts ts) deep h in (
          texts ts,
          sym (append-nil (texts ts)),
          (x.0.0, of_list n _ x.0.1),
          λ p. x.1
              (to_list n (texts ts) p),
        )
    go (u ∷ us) h =
        let x = refused_at bare_policy_to BarePolicy policy_laws n (texts ts) deep u.text (texts us)
        h in
        let k = x.1 in (
          x.0,
          k.split,
          (k.before.0, of_list n _ k.before.1),
          (
            λ p. k.through (p.0, to_list n _ p.1),
            (
              λ d. (let m = k.more_depth d in (m.0, (m.1.0, of_list m.0 _ m.1.1))),
              λ p. go_deep deep (λ q. k.no_depth q p.0 (p.1.0, to_list p.0 _ p.1.1)),
            ),
          ),
        )
      where
        go_deep : (b : Bool) → (b ≡ false → ⊥) → IsTrue b
        go_deep true f = refl
        go_deep false f = absurd (f refl)
