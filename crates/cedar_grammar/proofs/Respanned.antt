-- Nodes with other spans: if policies have a tree up to spans,
-- there are policies that have exactly that tree.
use Rattle.std.specs.Prelude.{◌≡◌, ℕ, zero, suc, List, [], ◌∷◌, codes, Option, Some, None, length}
use Rattle.std.proofs.Common.{refl, sym, ap, ◌∙◌}
use Rattle.cedar_tokens.specs.declared.token.Span.{Span}
use Rattle.cedar_grammar.specs.declared.tree.Node.{Node}
use Rattle.cedar_grammar.specs.declared.tree.Policies.{Policies}
use Rattle.cedar_grammar.specs.declared.tree.Policy.{Policy}
use Rattle.cedar_grammar.specs.declared.tree.Annotation.{Annotation}
use Rattle.cedar_grammar.specs.declared.tree.VariableDef.{VariableDef}
use Rattle.cedar_grammar.specs.declared.tree.Cond.{Cond}
use Rattle.cedar_grammar.specs.declared.tree.Ident.{Ident}
use Rattle.cedar_grammar.specs.declared.tree.Str.{Str}
use Rattle.cedar_grammar.specs.declared.tree.Name.{Name}
use Rattle.cedar_grammar.specs.declared.tree.Ref.{Ref}
use Rattle.cedar_grammar.specs.declared.tree.RelOp.{RelOp}
use Rattle.cedar_grammar.specs.declared.tree.NegOp.{NegOp}
use Rattle.cedar_grammar.specs.declared.tree.Expr as Expr
use Rattle.cedar_grammar.specs.declared.tree.Relation as Relation
use Rattle.cedar_grammar.specs.declared.tree.MemAccess as MemAccess
use Rattle.cedar_grammar.specs.declared.tree.Primary as Primary
use Rattle.cedar_grammar.specs.declared.tree.Or as Or
use Rattle.cedar_grammar.specs.declared.tree.And as And
use Rattle.cedar_grammar.specs.declared.tree.Add as Add
use Rattle.cedar_grammar.specs.declared.tree.Mult as Mult
use Rattle.cedar_grammar.specs.declared.tree.Unary as Unary
use Rattle.cedar_grammar.specs.declared.tree.Member as Member
use Rattle.cedar_grammar.specs.Trees.{Label, none, leaf, branch, join}
use Rattle.cedar_grammar.specs.Erased.{Erased, node, ident_tree, path_parts, name_tree, ref_tree, sign_leaves, times, expr_parts, or_parts, or_rest, and_rest, relation_parts, compare_tree, in_parts, add_parts, add_rest, mult_parts, mult_rest, unary_parts, access_trees, access_parts, expr_items, more_items, primary_parts, init_items, more_inits, value_parts, annotation_trees, type_parts, operator_parts, variable_tree, cond_trees, policy_parts, policy_trees, erase}

-- the same trees up to spans, where the same branches have one
pub data Alike : Erased → Erased → Type 0 where
  no_trees : Alike none none
  a_leaf : (t : List ℕ) {f g : Erased} → Alike f g → Alike (leaf t f) (leaf t g)
  a_node : (l : Label) (s t : Span) {f g h k : Erased} → Alike f h → Alike g k
      → Alike (branch (l, Some s) f g) (branch (l, Some t) h k)
  a_variant : (l : Label) {f g h k : Erased} → Alike f h → Alike g k
      → Alike (branch (l, None) f g) (branch (l, None) h k)

last_at : {f : Erased} {t : List ℕ} → Alike f (leaf t none) → f ≡ leaf t none
last_at (a_leaf _ no_trees) = refl

-- a row and what follows it
join_at : (a b : Erased) {f : Erased} → Alike f (join a b)
    → (c : Erased) × (d : Erased) × Alike c a × Alike d b × (join c d ≡ f)
join_at none b {f = f} k = (none, f, no_trees, k, refl)
join_at (leaf t a) b (a_leaf _ k) =
    let r = join_at a b k in (leaf t r.0, r.1, a_leaf t r.2, r.3, ap (leaf t) r.4)
join_at (branch _ a c) b (a_node l s t {f = g} i k) =
    let r = join_at c b k in
    (branch (l, Some s) g r.0, r.1, a_node l s t i r.2, r.3, ap (branch (l, Some s) g) r.4)
join_at (branch _ a c) b (a_variant l {f = g} i k) =
    let r = join_at c b k in
    (branch (l, None) g r.0, r.1, a_variant l i r.2, r.3, ap (branch (l, None) g) r.4)

-- a row between brackets
closed_at : (a : Erased) (t : List ℕ) {f : Erased} → Alike f (join a (leaf t none))
    → (c : Erased) × Alike c a × (join c (leaf t none) ≡ f)
closed_at a t k =
    let r = join_at a (leaf t none) k in (r.0, r.2, ap (join r.0) (sym (last_at r.3)) ∙ r.4)

times_at : (n : ℕ) (t : List ℕ) (g : Erased) {f : Erased} → Alike f (times n t g)
    → (h : Erased) × Alike h g × (times n t h ≡ f)
times_at zero t g {f = f} k = (f, k, refl)
times_at (suc n) t g (a_leaf _ k) = let r = times_at n t g k in (r.0, r.1, ap (leaf t) r.2)

signs_at : (op : Option NegOp) (g : Erased) {f : Erased} → Alike f (sign_leaves op g)
    → (h : Erased) × Alike h g × (sign_leaves op h ≡ f)
signs_at None g {f = f} k = (f, k, refl)
signs_at (Some (NegOp.Bang zero)) g (a_variant _ {g = h} no_trees k) = (h, k, refl)
signs_at (Some (NegOp.Dash zero)) g (a_variant _ {g = h} no_trees k) = (h, k, refl)
signs_at (Some (NegOp.Bang (suc n))) g k = times_at (suc n) (codes "!") g k
signs_at (Some (NegOp.Dash (suc n))) g k = times_at (suc n) (codes "-") g k

-- ---- names

path_at : (ns : List (Node Ident)) (n : Node Ident) {f : Erased} → Alike f (path_parts ns n)
    → (ms : List (Node Ident)) × (m : Node Ident) × (path_parts ms m ≡ f) × (length ms ≡ length ns)
path_at [] n (a_node _ s _ (a_leaf _ no_trees) no_trees) = ([], record n { span = s }, refl, refl)
path_at (x ∷ ns) n (a_node _ s _ (a_leaf _ no_trees) (a_leaf _ k)) =
    let r = path_at ns n k in (record x { span = s } ∷ r.0, r.1, rw r.2 refl, ap suc r.3)

name_at : (n : Node Name) (s : Span) {f : Erased}
    → Alike f (path_parts n.inner.path.items n.inner.name)
    → (m : Node Name) × ((g : Erased) → name_tree m g ≡ branch (Label.name, Some s) f g)
name_at n s k =
    let r = path_at n.inner.path.items n.inner.name k in
    let p = n.inner.path in (
      record {
        inner =
            record { path = record p { items = r.0; ok = (p.ok.0 ∙ sym r.3, p.ok.1) }; name = r.1 };
        span = s;
      },
      λ g. ap (λ z. branch (Label.name, Some s) z g) r.2,
    )

ref_at : (n : Node Ref) {f : Erased} → Alike f (ref_tree n none)
    → (m : Node Ref) × (ref_tree m none ≡ f)
ref_at n (a_node _ s _
    (a_node _ t _ k (a_leaf _ (a_node _ u _ (a_leaf _ no_trees) no_trees))) no_trees) =
    let r = name_at n.inner.path t k in
    let e = n.inner.eid in (
      record { inner = record { path = r.0; eid = record e { span = u } }; span = s },
      ap (λ z. branch (Label.ref, Some s) z none) (r.1 _),
    )

-- ---- expressions

-- a member, its primary and what is accessed in it
inside_at : {s t : Span} {a b f : Erased}
    → Alike f (node Label.member t (node Label.primary s a b) none)
    → (w : Span) × (u : Span) × (c : Erased) × (d : Erased) × Alike c a × Alike d b
    × (node Label.member w (node Label.primary u c d) none ≡ f)
inside_at (a_node _ w _ (a_node _ u _ {f = c} {g = d} k l) no_trees) = (w, u, c, d, k, l, refl)

mutual
  expr_at : (x : Expr.Expr) {f : Erased} → Alike f (expr_parts x)
      → (y : Expr.Expr) × (expr_parts y ≡ f)
  expr_at (Expr.If' p a s q b t r c u) (a_leaf _
      (a_node _ s' _ ka (a_leaf _ (a_node _ t' _ kb (a_leaf _ (a_node _ u' _ kc no_trees)))))) =
      let ya = expr_at a ka in
      let yb = expr_at b kb in
      let yc = expr_at c kc in
      (Expr.If' p ya.0 s' q yb.0 t' r yc.0 u', rw (ya.1, yb.1, yc.1) refl)
  expr_at (Expr.Or' p o s) (a_node _ s' _ k no_trees) =
      let y = or_at o k in (Expr.Or' p y.0 s', rw y.1 refl)

  or_at : (x : Or.Or) {f : Erased} → Alike f (or_parts x) → (y : Or.Or) × (or_parts y ≡ f)
  or_at (Or.Or' r s v row t w rest) (a_node _ t' _ (a_node _ s' _ kr ka) ko) =
      let yr = relation_at r kr in
      let ya = relations_at row ka in
      let yo = ands_at rest ko in
      (Or.Or' yr.0 s' v ya.0 t' w yo.0, rw (yr.1, ya.1, yo.1) refl)

  ands_at : {m : _} (x : Or.Row_of-Or-extended-2 m) {f : Erased} → Alike f (or_rest x)
      → (y : Or.Row_of-Or-extended-2 m) × (or_rest y ≡ f)
  ands_at Or.end_of-Or-extended-2 no_trees = (Or.end_of-Or-extended-2, refl)
  ands_at (Or.more_of-Or-extended-2 r s v row t rest)
      (a_leaf _ (a_node _ t' _ (a_node _ s' _ kr ka) ko)) =
      let yr = relation_at r kr in
      let ya = relations_at row ka in
      let yo = ands_at rest ko in
      (Or.more_of-Or-extended-2 yr.0 s' v ya.0 t' yo.0, rw (yr.1, ya.1, yo.1) refl)

  relations_at : {m : _} (x : And.Row_of-And-extended-2 m) {f : Erased} → Alike f (and_rest x)
      → (y : And.Row_of-And-extended-2 m) × (and_rest y ≡ f)
  relations_at And.end_of-And-extended-2 no_trees = (And.end_of-And-extended-2, refl)
  relations_at (And.more_of-And-extended-2 r s rest) (a_leaf _ (a_node _ s' _ kr ka)) =
      let yr = relation_at r kr in
      let ya = relations_at rest ka in
      (And.more_of-And-extended-2 yr.0 s' ya.0, rw (yr.1, ya.1) refl)

  relation_at : (x : Relation.Relation) {f : Erased} → Alike f (relation_parts x)
      → (y : Relation.Relation) × (relation_parts y ≡ f)
  relation_at (Relation.Common' a s more) (a_node _ s' _ ka km) =
      let ya = add_at a ka in
      let ym = compared_at more km in
      (Relation.Common' ya.0 s' ym.0, rw (ya.1, ym.1) refl)
  relation_at (Relation.Has' a s b t)
      (a_node _ s' _ ka (a_variant _ (a_leaf _ (a_node _ t' _ kb no_trees)) no_trees)) =
      let ya = add_at a ka in
      let yb = add_at b kb in
      (Relation.Has' ya.0 s' yb.0 t', rw (ya.1, yb.1) refl)
  relation_at (Relation.Like' a s b t)
      (a_node _ s' _ ka (a_variant _ (a_leaf _ (a_node _ t' _ kb no_trees)) no_trees)) =
      let ya = add_at a ka in
      let yb = add_at b kb in
      (Relation.Like' ya.0 s' yb.0 t', rw (ya.1, yb.1) refl)
  relation_at (Relation.IsIn' a s n more)
      (a_node _ s' _ ka (a_variant _ (a_leaf _ (a_node _ t' _ kn km)) no_trees)) =
      let ya = add_at a ka in
      let yn = name_at n t' kn in
      let ym = in_at more km in
      (Relation.IsIn' ya.0 s' yn.0 ym.0, rw (ya.1, yn.1 (in_parts ym.0), ym.1) refl)

  compared_at : (x : Relation.Held-Relation-Common-1) {f : Erased} → Alike f (compare_tree x)
      → (y : Relation.Held-Relation-Common-1) × (compare_tree y ≡ f)
  compared_at Relation.Relation-Common-1-None' no_trees = (Relation.Relation-Common-1-None', refl)
  compared_at (Relation.Relation-Common-1-Some' op a s)
      (a_variant _ (a_leaf _ (a_node _ s' _ ka no_trees)) no_trees) =
      let y = add_at a ka in (Relation.Relation-Common-1-Some' op y.0 s', rw y.1 refl)

  in_at : (x : Relation.Held-Relation-IsIn-2) {f : Erased} → Alike f (in_parts x)
      → (y : Relation.Held-Relation-IsIn-2) × (in_parts y ≡ f)
  in_at Relation.Relation-IsIn-2-None' no_trees = (Relation.Relation-IsIn-2-None', refl)
  in_at (Relation.Relation-IsIn-2-Some' a s) (a_leaf _ (a_node _ s' _ ka no_trees)) =
      let y = add_at a ka in (Relation.Relation-IsIn-2-Some' y.0 s', rw y.1 refl)

  add_at : (x : Add.Add) {f : Erased} → Alike f (add_parts x) → (y : Add.Add) × (add_parts y ≡ f)
  add_at (Add.Add' m s v rest) (a_node _ s' _ km kr) =
      let ym = mult_at m km in
      let yr = mults_at rest kr in
      (Add.Add' ym.0 s' v yr.0, rw (ym.1, yr.1) refl)

  mults_at : {m : _} (x : Add.Row_of-Add-extended-4 m) {f : Erased} → Alike f (add_rest x)
      → (y : Add.Row_of-Add-extended-4 m) × (add_rest y ≡ f)
  mults_at Add.end_of-Add-extended-4 no_trees = (Add.end_of-Add-extended-4, refl)
  mults_at (Add.more_of-Add-extended-4 op m s rest) (a_leaf _ (a_node _ s' _ km kr)) =
      let ym = mult_at m km in
      let yr = mults_at rest kr in
      (Add.more_of-Add-extended-4 op ym.0 s' yr.0, rw (ym.1, yr.1) refl)

  mult_at : (x : Mult.Mult) {f : Erased} → Alike f (mult_parts x)
      → (y : Mult.Mult) × (mult_parts y ≡ f)
  mult_at (Mult.Mult' u s v rest) (a_node _ s' _ ku kr) =
      let yu = unary_at u ku in
      let yr = unaries_at rest kr in
      (Mult.Mult' yu.0 s' v yr.0, rw (yu.1, yr.1) refl)

  unaries_at : {m : _} (x : Mult.Row_of-Mult-extended-4 m) {f : Erased} → Alike f (mult_rest x)
      → (y : Mult.Row_of-Mult-extended-4 m) × (mult_rest y ≡ f)
  unaries_at Mult.end_of-Mult-extended-4 no_trees = (Mult.end_of-Mult-extended-4, refl)
  unaries_at (Mult.more_of-Mult-extended-4 op u s rest) (a_leaf _ (a_node _ s' _ ku kr)) =
      let yu = unary_at u ku in
      let yr = unaries_at rest kr in
      (Mult.more_of-Mult-extended-4 op yu.0 s' yr.0, rw (yu.1, yr.1) refl)

  unary_at : (x : Unary.Unary) {f : Erased} → Alike f (unary_parts x)
      → (y : Unary.Unary) × (unary_parts y ≡ f)
  unary_at (Unary.Unary' op p s v row t) k =
      let r = signs_at op
      (node Label.member t (node Label.primary s (primary_parts p) (access_trees row)) none) k in
      let i = inside_at r.1 in
      let yp = primary_at p i.4 in
      let yr = accesses_at row i.5 in
      (Unary.Unary' op yp.0 i.1 v yr.0 i.0, rw (yp.1, yr.1) (ap (sign_leaves op) i.6 ∙ r.2))

  accesses_at : {m : _} (x : Member.Row_of-Member-access-2 m) {f : Erased}
      → Alike f (access_trees x) → (y : Member.Row_of-Member-access-2 m) × (access_trees y ≡ f)
  accesses_at Member.end_of-Member-access-2 no_trees = (Member.end_of-Member-access-2, refl)
  accesses_at (Member.more_of-Member-access-2 a s rest) (a_node _ s' _ ka kr) =
      let ya = access_at a ka in
      let yr = accesses_at rest kr in
      (Member.more_of-Member-access-2 ya.0 s' yr.0, rw (ya.1, yr.1) refl)

  access_at : (x : MemAccess.MemAccess) {f : Erased} → Alike f (access_parts x)
      → (y : MemAccess.MemAccess) × (access_parts y ≡ f)
  access_at (MemAccess.Field n) (a_leaf _ (a_node _ s _ (a_leaf _ no_trees) no_trees)) =
      (MemAccess.Field (record n { span = s }), refl)
  access_at (MemAccess.Call' v row) (a_leaf _ k) =
      let r = closed_at (expr_items row) (codes ")") k in
      let y = items_at row r.1 in (
        MemAccess.Call' v y.0,
        ap (leaf (codes "(")) (ap (λ z. join z (leaf (codes ")") none)) y.1 ∙ r.2),
      )
  access_at (MemAccess.Index n) (a_leaf _ (a_node _ s _ (a_leaf _ no_trees) (a_leaf _ no_trees))) =
      (MemAccess.Index (record n { span = s }), refl)

  items_at : {m : _} (x : MemAccess.Row_of-MemAccess-Call-0-2 m) {f : Erased}
      → Alike f (expr_items x) → (y : MemAccess.Row_of-MemAccess-Call-0-2 m) × (expr_items y ≡ f)
  items_at MemAccess.end_of-MemAccess-Call-0-2 no_trees =
      (MemAccess.end_of-MemAccess-Call-0-2, refl)
  items_at (MemAccess.more_of-MemAccess-Call-0-2 e s rest) (a_node _ s' _ ke kr) =
      let ye = expr_at e ke in
      let yr = more_at rest kr in
      (MemAccess.more_of-MemAccess-Call-0-2 ye.0 s' yr.0, rw (ye.1, yr.1) refl)

  more_at : {m : _} (x : MemAccess.Row_of-MemAccess-Call-0-2 m) {f : Erased}
      → Alike f (more_items x) → (y : MemAccess.Row_of-MemAccess-Call-0-2 m) × (more_items y ≡ f)
  more_at MemAccess.end_of-MemAccess-Call-0-2 no_trees = (MemAccess.end_of-MemAccess-Call-0-2, refl)
  more_at (MemAccess.more_of-MemAccess-Call-0-2 e s rest) (a_leaf _ (a_node _ s' _ ke kr)) =
      let ye = expr_at e ke in
      let yr = more_at rest kr in
      (MemAccess.more_of-MemAccess-Call-0-2 ye.0 s' yr.0, rw (ye.1, yr.1) refl)

  primary_at : (x : Primary.Primary) {f : Erased} → Alike f (primary_parts x)
      → (y : Primary.Primary) × (primary_parts y ≡ f)
  primary_at (Primary.Literal n) (a_node _ s _ (a_leaf _ no_trees) no_trees) =
      (Primary.Literal (record n { span = s }), refl)
  primary_at (Primary.Ref n) k = let y = ref_at n k in (Primary.Ref y.0, y.1)
  primary_at (Primary.Name n) (a_node _ s _ k no_trees) =
      let y = name_at n s k in (Primary.Name y.0, y.1 none)
  primary_at (Primary.Slot n) (a_node _ s _ (a_leaf _ no_trees) no_trees) =
      (Primary.Slot (record n { span = s }), refl)
  primary_at (Primary.Expr' p e s)
      (a_variant _ (a_leaf _ (a_node _ s' _ k (a_leaf _ no_trees))) no_trees) =
      let y = expr_at e k in (Primary.Expr' p y.0 s', rw y.1 refl)
  primary_at (Primary.EList' v row) (a_variant _ (a_leaf _ k) no_trees) =
      let r = closed_at (expr_items row) (codes "]") k in
      let y = items_at row r.1 in (
        Primary.EList' v y.0,
        ap (λ z. branch (Label.list, None) (leaf (codes "[") z) none)
            (ap (λ z. join z (leaf (codes "]") none)) y.1 ∙ r.2),
      )
  primary_at (Primary.RInits' v row) (a_variant _ (a_leaf _ k) no_trees) =
      let r = closed_at (init_items row) (codes "}") k in
      let y = inits_at row r.1 in (
        Primary.RInits' v y.0,
        ap (λ z. branch (Label.fields, None) (leaf (codes "{") z) none)
            (ap (λ z. join z (leaf (codes "}") none)) y.1 ∙ r.2),
      )

  inits_at : {m : _} (x : Primary.Row_of-Primary-RInits-0-2 m) {f : Erased} → Alike f (init_items x)
      → (y : Primary.Row_of-Primary-RInits-0-2 m) × (init_items y ≡ f)
  inits_at Primary.end_of-Primary-RInits-0-2 no_trees = (Primary.end_of-Primary-RInits-0-2, refl)
  inits_at (Primary.more_of-Primary-RInits-0-2 p s e t u rest)
      (a_node _ u' _ (a_node _ s' _ kp (a_leaf _ (a_node _ t' _ ke no_trees))) kr) =
      let yp = primary_at p kp in
      let ye = expr_at e ke in
      let yr = more_inits_at rest kr in
      (Primary.more_of-Primary-RInits-0-2 yp.0 s' ye.0 t' u' yr.0, rw (yp.1, ye.1, yr.1) refl)

  more_inits_at : {m : _} (x : Primary.Row_of-Primary-RInits-0-2 m) {f : Erased}
      → Alike f (more_inits x) → (y : Primary.Row_of-Primary-RInits-0-2 m) × (more_inits y ≡ f)
  more_inits_at Primary.end_of-Primary-RInits-0-2 no_trees =
      (Primary.end_of-Primary-RInits-0-2, refl)
  more_inits_at (Primary.more_of-Primary-RInits-0-2 p s e t u rest)
      (a_leaf _ (a_node _ u' _ (a_node _ s' _ kp (a_leaf _ (a_node _ t' _ ke no_trees))) kr)) =
      let yp = primary_at p kp in
      let ye = expr_at e ke in
      let yr = more_inits_at rest kr in
      (Primary.more_of-Primary-RInits-0-2 yp.0 s' ye.0 t' u' yr.0, rw (yp.1, ye.1, yr.1) refl)

-- ---- the parts of policies

value_at : (v : Option (Node Str)) {f : Erased} → Alike f (value_parts v)
    → (w : Option (Node Str)) × (value_parts w ≡ f)
value_at None no_trees = (None, refl)
value_at (Some n) (a_leaf _ (a_node _ s _ (a_leaf _ no_trees) (a_leaf _ no_trees))) =
    (Some (record n { span = s }), refl)

type_at : (t : Option (Node Name)) (g : Erased) {f : Erased} → Alike f (type_parts t g)
    → (u : Option (Node Name)) × (h : Erased) × Alike h g × (type_parts u h ≡ f)
type_at None g {f = f} k = (None, f, k, refl)
type_at (Some n) g (a_leaf _ (a_node _ s _ {g = h} k l)) =
    let r = name_at n s k in (Some r.0, h, l, ap (leaf (codes "is")) (r.1 h))

operator_at : (o : Option (RelOp × Node Expr.TheBlock.the_data-4)) {f : Erased}
    → Alike f (operator_parts o)
    → (p : Option (RelOp × Node Expr.TheBlock.the_data-4)) × (operator_parts p ≡ f)
operator_at None no_trees = (None, refl)
operator_at (Some x) (a_leaf _ (a_node _ s _ k no_trees)) =
    let y = add_at x.1.inner k in (Some (x.0, record { inner = y.0; span = s }), rw y.1 refl)

variable_at : (n : Node VariableDef) (s : Span) {f : Erased} → Alike f
    (ident_tree n.inner.variable (type_parts n.inner.entity_type (operator_parts n.inner.ineq)))
    → (m : Node VariableDef) × ((g : Erased)
    → variable_tree m g ≡ branch (Label.variable, Some s) f g)
variable_at n s (a_node _ t _ (a_leaf _ no_trees) k) =
    let r = type_at n.inner.entity_type (operator_parts n.inner.ineq) k in
    let o = operator_at n.inner.ineq r.2 in
    let v = n.inner.variable in (
      record {
        inner = record { variable = record v { span = t }; entity_type = r.0; ineq = o.0 };
        span = s;
      },
      λ g. rw o.1 (ap (λ z. branch (Label.variable, Some s)
          (branch (Label.ident, Some t) (leaf v.inner.0.now none) z) g) r.3),
    )

annotations_at : (ns : List (Node Annotation)) (g : Erased) {f : Erased}
    → Alike f (annotation_trees ns g) → (ms : List (Node Annotation)) × (h : Erased) × Alike h g
    × (annotation_trees ms h ≡ f) × (length ms ≡ length ns)
annotations_at [] g {f = f} k = ([], f, k, refl, refl)
annotations_at (n ∷ ns) g (a_node _ s _ (a_leaf _ (a_node _ t _ (a_leaf _ no_trees) k)) l) =
    let r = annotations_at ns g l in
    let v = value_at n.inner.value k in
    let i = n.inner.key in (
      record { inner = record { key = record i { span = t }; value = v.0 }; span = s } ∷ r.0,
      r.1,
      r.2,
      rw (v.1, r.3) refl,
      ap suc r.4,
    )

conds_at : (ns : List (Node Cond)) (g : Erased) {f : Erased} → Alike f (cond_trees ns g)
    → (ms : List (Node Cond)) × (h : Erased) × Alike h g × (cond_trees ms h ≡ f) × (length ms
    ≡ length ns)
conds_at [] g {f = f} k = ([], f, k, refl, refl)
conds_at (n ∷ ns) g (a_node _ s _
    (a_node _ t _ (a_leaf _ no_trees) (a_leaf _ (a_node _ u _ k (a_leaf _ no_trees)))) l) =
    let r = conds_at ns g l in
    let e = expr_at n.inner.expr.inner k in
    let i = n.inner.cond in (
      record {
        inner = record { cond = record i { span = t }; expr = record { inner = e.0; span = u } };
        span = s;
      } ∷ r.0,
      r.1,
      r.2,
      rw (e.1, r.3) refl,
      ap suc r.4,
    )

-- a policy after its annotations
abbrev following : Node Ident → Node VariableDef → Node VariableDef → Node VariableDef
    → List (Node Cond) → Erased
following e p a r cs =
    ident_tree e (leaf (codes "(") (variable_tree p (leaf (codes ",") (variable_tree a (leaf
    (codes ",") (variable_tree r (leaf (codes ")") (cond_trees cs (leaf (codes ";") none)))))))))

record RightAfter (count : ℕ) (f : Erased) : Type 0 where
  effect : Node Ident
  principal : Node VariableDef
  action : Node VariableDef
  resource : Node VariableDef
  conds : List (Node Cond)
  is : following effect principal action resource conds ≡ f
  size : length conds ≡ count

after_at : (e : Node Ident) (p a r : Node VariableDef) (cs : List (Node Cond)) {f : Erased}
    → Alike f (following e p a r cs) → RightAfter (length cs) f
after_at e p a r cs (a_node _ s _ (a_leaf _ no_trees) (a_leaf _ (a_node _ tp _ {f = fp} kp (a_leaf _
    (a_node _ ta _ {f = fa} ka (a_leaf _ (a_node _ tr _ {f = fr} kr (a_leaf _ {f = fc} kc)))))))) =
    let yp = variable_at p tp kp in
    let ya = variable_at a ta ka in
    let yr = variable_at r tr kr in
    let c = conds_at cs (leaf (codes ";") none) kc in
    let ec : cond_trees c.0 (leaf (codes ";") none) ≡ fc =
    ap (cond_trees c.0) (sym (last_at c.2)) ∙ c.3 in
    let er : variable_tree yr.0 (leaf (codes ")") (cond_trees c.0 (leaf (codes ";") none)))
    ≡ branch (Label.variable, Some tr) fr (leaf (codes ")") fc) =
    yr.1 _ ∙ ap (λ z. branch (Label.variable, Some tr) fr (leaf (codes ")") z)) ec in
    let ea : variable_tree ya.0 (leaf (codes ",")
    (variable_tree yr.0 (leaf (codes ")") (cond_trees c.0 (leaf (codes ";") none)))))
    ≡ branch (Label.variable, Some ta) fa
    (leaf (codes ",") (branch (Label.variable, Some tr) fr (leaf (codes ")") fc))) =
    ya.1 _ ∙ ap (λ z. branch (Label.variable, Some ta) fa (leaf (codes ",") z)) er in
    record {
      effect = record e { span = s };
      principal = yp.0;
      action = ya.0;
      resource = yr.0;
      conds = c.0;
      is = ap (λ z. branch (Label.ident, Some s) (leaf e.inner.0.now none) (leaf (codes "(") z))
          (yp.1 _ ∙ ap (λ z. branch (Label.variable, Some tp) fp (leaf (codes ",") z)) ea);
      size = c.4;
    }

policy_at : (p : Policy) {f : Erased} → Alike f (policy_parts p)
    → (q : Policy) × (policy_parts q ≡ f)
policy_at p k =
    let vs = p.variables in
    let a = annotations_at p.annotations.items (following p.effect vs.0 vs.1 vs.2 p.conds.items)
    k in
    let b = after_at p.effect vs.0 vs.1 vs.2 p.conds.items a.2 in
    let n = p.annotations in
    let c = p.conds in
    let ns = record n { items = a.0; ok = (n.ok.0 ∙ sym a.4, n.ok.1) } in
    let cs = record c { items = b.conds; ok = (c.ok.0 ∙ sym b.size, c.ok.1) } in (
      record {
        annotations = ns;
        effect = b.effect;
        variables = (b.principal, b.action, b.resource);
        conds = cs;
      },
      ap (annotation_trees a.0) b.is ∙ a.3,
    )

policies_at : (ns : List (Node Policy)) {f : Erased} → Alike f (policy_trees ns)
    → (ms : List (Node Policy)) × (policy_trees ms ≡ f) × (length ms ≡ length ns)
policies_at [] no_trees = ([], refl, refl)
policies_at (n ∷ ns) (a_node _ s _ k l) =
    let y = policy_at n.inner k in
    let r = policies_at ns l in
    (record { inner = y.0; span = s } ∷ r.0, rw (y.1, r.1) refl, ap suc r.2)

pub respanned : (p : Policies) {f : Erased} → Alike f (erase p) → (q : Policies) × (erase q ≡ f)
respanned p (a_variant _ k no_trees) =
    let r = policies_at p.policies.items k in
    let v = p.policies in
    (record { policies = record v { items = r.0; ok = (v.ok.0 ∙ sym r.2, v.ok.1) } }, rw r.1 refl)
