-- Primaries alone, operands after signs, and readers at a depth by their names.
use Rattle.std.specs.Prelude.{◌≡◌, ◌||◌, ℕ, zero, suc, Bool, true, false, List, [], ◌∷◌, Result, Ok, Err, MatchResult, Vec, box_value, codes}
use Rattle.std.specs.declared.alloc.Global.{Global}
use Rattle.std.specs.Borrow.{Bor}
use Rattle.std.proofs.Common.{refl, sym, ap, ◌∙◌, subst}
use Rattle.std.proofs.lemmas.Bool.{true_from_ne_false, or_parts as both_false}
use Rattle.cedar_tokens.specs.declared.kind.Kind.{Kind}
use Rattle.cedar_tokens.specs.declared.kind.Kind.TheVariants as K
use Rattle.cedar_tokens.specs.Kinds.{is, is_comparison, begins}
use Rattle.cedar_grammar.specs.Trees.{Label, none, leaf, branch}
use Rattle.cedar_grammar.specs.Reader.Reading.{Answer, Reader, done, stuck, both, tree, one}
use Rattle.cedar_grammar.specs.Reader.Rules.{leaf_of}
use Rattle.cedar_grammar.specs.Reader.Lines.{◌▸◌, ◌∥◌, one_of, maybe, path, add_rule, text_operand, has_field, expr_to, expr_rule, call}
use Rattle.cedar_grammar.proofs.Readers.Equations.{Takes, both_done, both_then_fails, tree_done}
use Rattle.cedar_grammar.specs.Erased.{Erased, or_parts, expr_parts, primary_parts}
use Rattle.cedar_reading.specs.Reading.{kind, flat, PassesOn, GivesNode, first_place}
use Rattle.cedar_reading.specs.ReadingParts.{Makes, IsOrExprOf}
use Rattle.cedar_cst.specs.Boxed.{unboxed}
use Rattle.cedar_cst.specs.ReadingItems.{Boxed}
use Rattle.cedar_cst.specs.ReadingExprs.{at_depth, GivesItem, GivesSigned, IsBeside, IsUncalled}
use Rattle.cedar_reading.specs.declared.lexeme.Lexeme.{Lexeme}
use Rattle.cedar_reading.specs.declared.reading.Refusal.{Refusal}
use Rattle.cedar_reading.specs.declared.reading.Refusal.TheVariants.{OutOfMemory}
use Rattle.cedar_grammar.specs.declared.tree.Node.{Node}
use Rattle.cedar_grammar.specs.declared.tree.MemAccess as MemAccess
use Rattle.cedar_grammar.specs.declared.tree.Primary as Primary
use Rattle.cedar_grammar.specs.declared.tree.Or as Or
use Rattle.cedar_grammar.specs.declared.tree.Expr as Expr
use Rattle.cedar_reading.proofs.Steps.{passes, token_not, token_at}
use Rattle.cedar_reading.proofs.Rows.{row_node, row_parts, row_span}
use Rattle.cedar_cst.proofs.Chains.{Between}
use Rattle.cedar_cst.proofs.Depths.{depth_takes}
use Rattle.cedar_cst.proofs.References.{call_refuses}

-- readers at a depth
abbrev pub add_at : ℕ → Reader Lexeme
add_at d = at_depth d add_rule

abbrev pub compared_at : ℕ → Reader Lexeme
compared_at d = at_depth d (leaf_of is_comparison ▸ add_rule)

abbrev pub has_at : Reader Lexeme
has_at = flat (one_of K.Has ▸ (text_operand ∥ has_field))

abbrev pub like_at : Reader Lexeme
like_at = flat (one_of K.Like ▸ text_operand)

abbrev pub type_at : ℕ → Reader Lexeme
type_at d = at_depth d (one_of K.Is ▸ path ▸ maybe (one_of K.In ▸ add_rule))

abbrev pub begins_turn : List Lexeme → Bool
begins_turn ts = begins kind (λ x. is K.Dot x || is K.LBracket x) ts

pub has_between : Between K.Has (codes "has")
has_between = record { comma = refl; fixed = refl; closing = refl; shows = refl }

pub like_between : Between K.Like (codes "like")
like_between = record { comma = refl; fixed = refl; closing = refl; shows = refl }

pub expr_takes : (d : ℕ) → Takes (expr_to kind d)
expr_takes zero = depth_takes 0 expr_rule refl refl
expr_takes (suc d) = depth_takes (suc d) expr_rule refl refl

-- what was read first comes first
pub one_begins : (k : Kind) (ts : List Lexeme) (o : Lexeme) (rest : List Lexeme)
    → one kind k ts ≡ done (leaf o none) rest → begins kind (is k) ts ≡ true
one_begins k ts o rest e = true_from_ne_false (begins kind (is k) ts)
    (λ h. let w : stuck false ts ≡ done (leaf o none) rest = sym (token_not (is k) ts h) ∙ e in cc)

pub one_first : (k : Kind) (ts : List Lexeme) (o : Lexeme) (rest : List Lexeme)
    → one kind k ts ≡ done (leaf o none) rest → first_place ts ≡ o.span.start
one_first k [] o rest e = absurd
    (let w : stuck false [] ≡ done (leaf o none) rest = sym (token_not (is k) [] refl) ∙ e in cc)
one_first k (t ∷ ts) o rest e =
    let w : done (leaf t none) ts ≡ done (leaf o none) rest =
    sym (token_at (is k) (t ∷ ts) t ts refl (one_begins k (t ∷ ts) o rest e)) ∙ e in
    let i : t ≡ o = cc in
    ap (λ (z : Lexeme). z.span.start) i

-- a call without its bracket
pub call_stuck : (d : ℕ) (ts : List Lexeme) (b : Bool) (r : List Lexeme)
    → one kind K.LParen ts ≡ stuck b r → at_depth d call ts ≡ stuck b r
call_stuck d ts b r e = go (begins kind (is K.LParen) ts) refl
  where
    first : (us : List Lexeme) → one kind K.LParen us ≡ stuck b r
        → begins kind (is K.LParen) us ≡ true → begins kind (is K.LParen) us ≡ false
    first [] i h = refl
    first (t ∷ us) i h = absurd (let w : done (leaf t none) us ≡ stuck b r =
        sym (token_at (is K.LParen) (t ∷ us) t us refl h) ∙ i in cc)

    go : (x : Bool) → begins kind (is K.LParen) ts ≡ x → at_depth d call ts ≡ stuck b r
    go true h =
        call_refuses d ts (first ts e h) ∙ sym (token_not (is K.LParen) ts (first ts e h)) ∙ e
    go false h = call_refuses d ts h ∙ sym (token_not (is K.LParen) ts h) ∙ e

pub brackets_none : (ts : List Lexeme) → (begins kind (is K.LParen) ts
    || (begins kind (is K.LBracket) ts || begins kind (is K.LBrace) ts)) ≡ false
    → (begins kind (is K.LParen) ts ≡ false) × (begins kind (is K.LBracket) ts ≡ false)
    × (begins kind (is K.LBrace) ts ≡ false)
brackets_none ts h =
    let p = both_false _ _ h in
    let q = both_false _ _ p.1 in
    (p.0, q.0, q.1)

-- Operands of `||` as an expression.
pub or_gives : (P : Reader Lexeme) (o : Node Or.Or) (n : Node Expr.Expr) (rest : Bor (List Lexeme))
    (ts : List Lexeme) → GivesNode Label.or or_parts (Ok (o, rest)) (P ts) → IsOrExprOf o n
    → GivesNode Label.expr expr_parts (Ok (n, rest)) (tree Label.expr P ts)
or_gives P o n rest ts g m = (
  branch Label.or g.0 none,
  tree_done Label.expr P ts _ rest.now g.1,
  row_span _ _ _ _ (sym m.1) (row_parts _ _ _ _ m.0 (row_node Label.or _ _ g.0 refl g.2)),
)

-- An operand after its sign.
pub signed_gives : {S X : Type 0} (sign : S → Kind) (T A : Reader Lexeme) (l : Label)
    (parts : X → Erased) (s : S) (t : Lexeme) (ts rest : List Lexeme)
    (read : Result (Boxed X × Bor (List Lexeme)) Refusal)
    (result : Result ((S × Boxed X) × Bor (List Lexeme)) Refusal)
    → T ts ≡ done (leaf t none) rest → t.kind ≡ sign s → GivesNode l parts (unboxed read) (A rest)
    → PassesOn read result → Makes (IsBeside s) read result
    → GivesSigned sign l parts result (both T A ts)
signed_gives sign T A l parts s t ts rest (Ok x) (Ok y) e h g p m = (
  t,
  g.0,
  both_done T A ts (leaf t none) rest (branch l g.0 none) x.1.now e g.1
      ∙ ap (λ (z : Bor (List Lexeme)). done (leaf t (branch l g.0 none)) z.now) (sym p),
  rw m h,
  rw m g.2,
)
signed_gives sign T A l parts s t ts rest (Ok x) (Err q) e h g p m = rw p tt
signed_gives sign T A l parts s t ts rest (Err q) (Ok y) e h g p m = absurd p
signed_gives sign T A l parts s t ts rest (Err q) (Err z) e h g p m =
    rw p (passes q _ _ g (λ b r i. both_then_fails T A ts (leaf t none) rest b r e i))

-- A primary without accesses.
pub item_as : (result : Result
    ((Boxed Primary.Primary × Vec (Node MemAccess.MemAccess) Global) × Bor (List Lexeme)) Refusal)
    (a b : Answer Lexeme) → GivesItem result a → b ≡ a → GivesItem result b
item_as result a b h k = subst (GivesItem result) (sym k) h

pub lone_gives : (n : Node Primary.Primary) (rest : Bor (List Lexeme)) (result : Result
    ((Boxed Primary.Primary × Vec (Node MemAccess.MemAccess) Global) × Bor (List Lexeme)) Refusal)
    (a : Answer Lexeme) → GivesNode Label.primary primary_parts (Ok (n, rest)) a
    → MatchResult result (λ x. IsUncalled n x.0 × (x.1.now ≡ rest.now)) (λ e. e ≡ OutOfMemory)
    → GivesItem result a
lone_gives n rest (Ok y) a g m = (
  branch Label.primary g.0 none,
  g.1 ∙ ap (done (branch Label.primary g.0 none)) (sym m.1),
  rw (m.0.0, m.0.1) (row_node Label.primary _ _ g.0 refl g.2),
)
lone_gives n rest (Err e) a g m = rw m tt

pub uncalled_gives : (read : Result (Boxed Primary.Primary × Bor (List Lexeme)) Refusal)
    (result : Result
    ((Boxed Primary.Primary × Vec (Node MemAccess.MemAccess) Global) × Bor (List Lexeme)) Refusal)
    (a : Answer Lexeme) → GivesNode Label.primary primary_parts (unboxed read) a
    → PassesOn read result → Makes IsUncalled (unboxed read) result → GivesItem result a
uncalled_gives (Ok x) (Ok y) a g p m =
    lone_gives (box_value x.0) x.1 (Ok y) a g (m, ap (λ (z : Bor (List Lexeme)). z.now) p)
uncalled_gives (Ok x) (Err e) a g p m = rw p tt
uncalled_gives (Err e) (Ok y) a g p m = absurd p
uncalled_gives (Err e) (Err q) a g p m = rw p g
