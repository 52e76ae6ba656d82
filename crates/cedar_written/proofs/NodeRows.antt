-- Each tree in a row of the grammar is one of its label's line, however deeply nested.
use Rattle.std.proofs.Common.{◌≤◌, ℕ, zero, suc, Bool, true, List, refl, sym, subst, arith, inl, inr}
use Rattle.std.specs.Prelude.{⊤}
use Prim.Native.String.{String}
use Rattle.cedar_grammar.specs.Trees.{Label, none, leaf, branch}
use Rattle.cedar_grammar.specs.Languages.{Lang, ◌⋄◌, ◌∪◌, Maybe, Branch, Never}
use Rattle.cedar_grammar.specs.Grammar as T
use Rattle.cedar_written.specs.NodeLines.{has_room}
use Rattle.cedar_written.proofs.SameRows.{text}
use Rattle.cedar_written.proofs.Regrouped as R
use Rattle.cedar_written.proofs.Covered.{Trees, All, Fits, Lines, Slots, BareMember, BareUnary, BareMult, BareAdd, Index, one_tok, ◌either◌, ◌then◌, ◌or◌, maybe, many, tok, node, word, into, keep, items, any_word, str, path, bare, entity_operand, entity_item, operand, expr_in}

-- ---- any depth up to n

-- what may be inside a bracket or an if
abbrev pub Inside : ℕ → Lang (List ℕ)
Inside zero = Never
Inside (suc n) = T.Expr text n

Nothing : Label → Trees → Type 0
Nothing l f = ⊤

all_nothing : (f : Trees) → All Nothing f
unfolding Nothing
all_nothing none = tt
all_nothing (leaf x f) = all_nothing f
all_nothing (branch l f g) = (tt, all_nothing f, all_nothing g)

no_lines : (room : Bool) (Inner : Lang (List ℕ)) → Lines Nothing room Inner
unfolding Nothing
no_lines room Inner = record {
  ident = λ x. tt;
  str = λ x. tt;
  boolean = λ x. tt;
  number = λ x. tt;
  string = λ x. tt;
  slot = λ x. tt;
  name = λ f y. tt;
  ref = λ f y. tt;
  primary = λ f y. tt;
  access = λ f y. tt;
  init = λ f y. tt;
  member = λ f y. tt;
  unary = λ f y. tt;
  mult = λ f y. tt;
  add = λ f y. tt;
  relation = λ f y. tt;
  and = λ f y. tt;
  or_chain = λ f y. tt;
  expr = λ f y. tt;
  parens = λ f. tt;
  list = λ f. tt;
  fields = λ f. tt;
  compare = λ f. tt;
  has_or_like = λ f. tt;
  is_type = λ f. tt;
}

-- what has no rows
nothing : (P : Label → Trees → Type 0) (Z : Lang (List ℕ)) → Fits P Never Z
nothing P Z = record { at = λ f y. absurd y }

-- an expression nested less deep is one
deeper : (e n : ℕ) → e ≤ n → (f : Trees) → T.Expr text e f → T.Expr text n f
deeper zero zero h f y = y
deeper zero (suc n) h f y =
    ((expr_in (no_lines true (T.Expr text n)) (λ r. refl) (nothing Nothing (T.Expr text n))).at f y).0
deeper (suc e) zero h f y = absurd (omega (arith, h))
deeper (suc e) (suc n) h f y =
    ((expr_in (no_lines true (T.Expr text n)) (λ r. refl)
    (record { at = λ f y. (deeper e n (omega (arith, h)) f y, all_nothing f) })).at f y).0

whole : (n : ℕ) (f : Trees) → T.ExprIn text (has_room n) (Inside n) f → T.Expr text n f
whole zero f y = y
whole (suc n) f y = y

module _ {P : Label → Trees → Type 0} where
  expr_fits : (n e : ℕ) → e ≤ n → Lines P (has_room n) (Inside n)
      → Fits P (T.Expr text e) (T.ExprIn text (has_room n) (Inside n))
  expr_fits n zero h ls = expr_in ls (λ r. absurd cc) (nothing P (Inside n))
  expr_fits zero (suc e) h ls = absurd (omega (arith, h))
  expr_fits (suc n) (suc e) h ls = expr_in ls (λ r. refl) (record {
    at = λ f y. (deeper e n (omega (arith, h)) f y, ((expr_fits (suc n) e (omega (arith, h)) ls).at f y).1);
  })

-- ---- policies

pub record PolicyLines (P : Label → Trees → Type 0) (n : ℕ) : Type 0 where
  pub annotation : (f : Trees) → T.Annotation text f → P Label.annotation f
  pub variable : (f : Trees) → (T.Principal text ∪ T.Action text ∪ T.Resource text) f → P Label.variable f
  pub condition : (f : Trees) → T.Cond text n f → P Label.condition f
  pub policy : (f : Trees) → T.Policy text n f → P Label.policy f

module _ {P : Label → Trees → Type 0} (n : ℕ) (ls : Lines P true (T.Expr text n)) (ps : PolicyLines P (suc n)) where
  slot : (s : String) → ((f : Trees) → T.Tok text s f → (T.Tok text "?principal" ∪ T.Tok text "?resource") f)
      → Fits P (T.Operand text (Branch Label.primary (Branch Label.slot (T.Tok text s)))) BareAdd
  slot s k = bare ls (into (λ f y. inl (is_slot f y)) (node Label.primary (λ f y. ls.primary f (inr (inl (is_slot f y))))
      (word Label.slot ls.slot (one_tok s))))
    where
      is_slot : (f : Trees) → Branch Label.primary (Branch Label.slot (T.Tok text s)) f → Slots f
      is_slot f (g, e, (h, d, y)) = (g, e, (h, d, k h y))

  slot_or : (s : String) → ((f : Trees) → T.Tok text s f → (T.Tok text "?principal" ∪ T.Tok text "?resource") f)
      → Fits P (T.EntityOr text s) (T.EntityOr text s)
  slot_or s k = record {
    at = λ f y. (
      y,
      elim (R.operands_back text _ _ f y) [
        | inl z ↦ ((entity_operand ls).at f z).1
        | inr z ↦ ((slot s k).at f z).1
      ],
    );
  }

  scoped : (v s : String) → ((f : Trees) → T.Scoped text v s f → P Label.variable f)
      → ((f : Trees) → T.Tok text s f → (T.Tok text "?principal" ∪ T.Tok text "?resource") f)
      → Fits P (T.Scoped text v s) (T.Scoped text v s)
  scoped v s p k = node Label.variable p (word Label.ident ls.ident (one_tok v) then maybe (tok "==" then slot_or s k
      or tok "is" then path ls then maybe (tok "in" then slot_or s k) or tok "in" then slot_or s k))

  item : Fits P (T.EntityItem text) (T.Expr text n)
  item = record {
    at = λ f y. (whole n f (((entity_item (no_lines (has_room n) (Inside n))).at f y).0), ((entity_item ls).at f y).1);
  }

  entities : Fits P (Branch Label.primary (Branch Label.list (T.Tok text "[" ⋄ Maybe (T.Items text (T.EntityItem text)) ⋄ T.Tok text "]")))
      (R.Primaries text true (T.Expr text n))
  entities = into (λ f y. inr (inr (inr (inr (inl y))))) (node Label.primary (λ f y. ls.primary f (inl (inr (inr (inr (inr (inl y)))))))
      (node Label.list (λ f y. ls.list f) (into (λ f y. (refl, y)) (tok "[" then maybe (items item) then tok "]"))))

  action : Fits P (T.Action text) (T.Action text)
  action = node Label.variable (λ f y. ps.variable f (inr (inl y))) (word Label.ident ls.ident (one_tok "action")
      then maybe (tok "==" then keep (entity_operand ls) or tok "in" then (keep (operand ls entities) or keep (entity_operand ls))))

  annotation : Fits P (T.Annotation text) (T.Annotation text)
  annotation = node Label.annotation ps.annotation (tok "@" then any_word ls then maybe (tok "(" then str ls then tok ")"))

  expr : Fits P (T.Expr text (suc n)) (T.Expr text (suc n))
  expr = expr_fits (suc n) (suc n) (omega arith) ls

  cond : Fits P (T.Cond text (suc n)) (T.Cond text (suc n))
  cond = node Label.condition ps.condition (word Label.ident ls.ident (one_tok "when" either one_tok "unless")
      then tok "{" then expr then tok "}")

  policy : Fits P (T.Policy text (suc n)) (T.Policy text (suc n))
  policy = node Label.policy ps.policy (many annotation then word Label.ident ls.ident (one_tok "permit" either one_tok "forbid")
      then tok "(" then scoped "principal" "?principal" (λ f y. ps.variable f (inl y)) (λ f y. inl y)
      then tok "," then action then tok "," then scoped "resource" "?resource" (λ f y. ps.variable f (inr (inr y))) (λ f y. inr y)
      then maybe (tok ",") then tok ")" then many cond then tok ";")

-- ---- the rows of a label's line

-- the trees with this label
abbrev pub trees_of : ℕ → Label → Trees → Type 0
trees_of n Label.policy = T.Policy text n
trees_of n Label.annotation = T.Annotation text
trees_of n Label.variable = T.Principal text ∪ T.Action text ∪ T.Resource text
trees_of n Label.condition = T.Cond text n
trees_of n Label.expr = T.ExprIn text (has_room n) (Inside n)
trees_of n Label.or = T.Or text (has_room n) (Inside n)
trees_of n Label.and = T.And text (has_room n) (Inside n)
trees_of n Label.relation = T.Relation text (has_room n) (Inside n)
trees_of n Label.add = T.Add text (has_room n) (Inside n) ∪ BareAdd
trees_of n Label.mult = T.Mult text (has_room n) (Inside n) ∪ BareMult
trees_of n Label.unary = T.Unary text (has_room n) (Inside n) ∪ BareUnary
trees_of n Label.member = T.Member text (has_room n) (Inside n) ∪ BareMember
trees_of n Label.access = T.Field text ∪ T.Call text (has_room n) (Inside n) ∪ Index
trees_of n Label.primary = R.Primaries text (has_room n) (Inside n) ∪ Slots ∪ Branch Label.primary (T.Path text)
trees_of n Label.rec_init = T.Init text (has_room n) (Inside n)
trees_of n Label.name = T.Path text
trees_of n Label.ref = Branch Label.ref (T.Path text ⋄ T.Tok text "::" ⋄ T.STR text)
trees_of n Label.ident = Branch Label.ident (T.Leaf text (λ t. ⊤))
trees_of n Label.str = Branch Label.str (T.Leaf text (λ t. ⊤))
trees_of n Label.boolean = Branch Label.boolean (T.Leaf text (λ t. ⊤))
trees_of n Label.number = Branch Label.number (T.Leaf text (λ t. ⊤))
trees_of n Label.string = Branch Label.string (T.Leaf text (λ t. ⊤))
trees_of n Label.slot = Branch Label.slot (T.Leaf text (λ t. ⊤))
trees_of n l = λ f. ⊤

a_word : (l : Label) (x : List ℕ) → Branch l (T.Leaf text (λ t. ⊤)) (branch l (leaf x none) none)
a_word l x = (leaf x none, refl, (x, refl, tt))

lines : (n : ℕ) → Lines (trees_of n) (has_room n) (Inside n)
lines n = record {
  ident = a_word Label.ident;
  str = a_word Label.str;
  boolean = a_word Label.boolean;
  number = a_word Label.number;
  string = a_word Label.string;
  slot = a_word Label.slot;
  name = λ f y. y;
  ref = λ f y. y;
  primary = λ f y. y;
  access = λ f y. y;
  init = λ f y. y;
  member = λ f y. y;
  unary = λ f y. y;
  mult = λ f y. y;
  add = λ f y. y;
  relation = λ f y. y;
  and = λ f y. y;
  or_chain = λ f y. y;
  expr = λ f y. y;
  parens = λ f. tt;
  list = λ f. tt;
  fields = λ f. tt;
  compare = λ f. tt;
  has_or_like = λ f. tt;
  is_type = λ f. tt;
}

policy_lines : (n : ℕ) → PolicyLines (trees_of n) n
policy_lines n = record { annotation = λ f y. y; variable = λ f y. y; condition = λ f y. y; policy = λ f y. y }

-- every tree in policies
pub covered : (n : ℕ) (f : Trees) → T.PolicySet text (suc n) f → All (trees_of (suc n)) f
covered n f (g, e, y) =
    let p = (many (policy n (lines (suc n)) (policy_lines (suc n)))).at g y in
    subst (λ z. All (trees_of (suc n)) z) (sym e) (tt, p.1, tt)
