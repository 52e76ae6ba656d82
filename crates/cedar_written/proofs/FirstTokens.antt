-- Trees with the same texts and the same leaves; trees whose first token gets other leading lines.
use Rattle.std.proofs.Common.{◌≡◌, ℕ, List, [], ◌∷◌, ◌++◌, length, refl, ap, sym, ◌∙◌}
use Rattle.cedar_tokens.specs.Listing.{Decorated}
use Rattle.cedar_tokens.specs.TokenKinds.{other_kind}
use Rattle.cedar_laws.specs.Table.{bare_token, literal_kind}
use Rattle.cedar_laws.proofs.Relabelled.{parts_map}
use Rattle.cedar_grammar.specs.Trees.{Label, Forest, none, leaf, branch, yield}
use Rattle.cedar_grammar.specs.TypedTrees.{Tree, NodeKind, tree_yield, tree_map, map_first, parts}
use Rattle.cedar_grammar.proofs.Rules.Maps.{each_length, relabel}
use Rattle.cedar_grammar.proofs.Trees.Relabelling.{relabel_yield}
use Rattle.cedar_grammar.proofs.Trees.Laws.{typed_leaves}
use Rattle.cedar_grammar.proofs.Trees.FirstLeaf.{map_first_unseen, map_first_yield, change_first}
use Rattle.cedar_grammar.proofs.Typed.PartsSame.{parts_same}

cut_same : {A : Type 0} → (xs ys us vs : List A) → length xs ≡ length ys → xs ++ us ≡ ys ++ vs
    → (xs ≡ ys) × (us ≡ vs)
cut_same [] [] us vs n e = (refl, e)
cut_same [] (y ∷ ys) us vs n e = absurd cc
cut_same (x ∷ xs) [] us vs n e = absurd cc
cut_same (x ∷ xs) (y ∷ ys) us vs n e =
    let a : xs ++ us ≡ ys ++ vs = cc in
    let b : x ≡ y = cc in
    let m : length xs ≡ length ys = cc in
    let r = cut_same xs ys us vs m a in (cc, r.1)

module _ {A B : Type 0} (h : A → B) where
  same_length : (f g : Forest Label A) → relabel h f ≡ relabel h g
      → length (yield f) ≡ length (yield g)
  same_length f g e = sym (each_length h (yield f))
      ∙ (ap length (sym (relabel_yield h f) ∙ (ap yield e ∙ relabel_yield h g))
      ∙ each_length h (yield g))

  pub same_forest : (f g : Forest Label A) → relabel h f ≡ relabel h g → yield f ≡ yield g → f ≡ g
  same_forest none none e y = refl
  same_forest none (leaf b g) e y = absurd cc
  same_forest none (branch k g g') e y = absurd cc
  same_forest (leaf a f) none e y = absurd cc
  same_forest (leaf a f) (leaf b g) e y =
      let r : relabel h f ≡ relabel h g = cc in
      let z : yield f ≡ yield g = cc in
      let q = same_forest f g r z in
      let s : a ≡ b = cc in cc
  same_forest (leaf a f) (branch k g g') e y = absurd cc
  same_forest (branch l f f') none e y = absurd cc
  same_forest (branch l f f') (leaf b g) e y = absurd cc
  same_forest (branch l f f') (branch k g g') e y =
      let r : relabel h f ≡ relabel h g = cc in
      let r' : relabel h f' ≡ relabel h g' = cc in
      let s : l ≡ k = cc in
      let c = cut_same (yield f) (yield g) (yield f') (yield g') (same_length f g r) y in
      let q = same_forest f g r c.0 in
      let q' = same_forest f' g' r' c.1 in cc

-- the token with these leading lines
abbrev pub with_lines : List (List ℕ) → Decorated → Decorated
with_lines ls a = record { text = a.text; leading = ls; trailing = a.trailing }

text : Decorated → List ℕ
text a = a.text

same_tree : {k : NodeKind} (t u : Tree Decorated k) → tree_map text t ≡ tree_map text u
    → tree_yield t ≡ tree_yield u → t ≡ u
unfolding text
same_tree t u e y = parts_same literal_kind t u
    (same_forest text (parts literal_kind t) (parts literal_kind u)
    (parts_map text literal_kind other_kind (λ a. refl) t
    ∙ (ap (parts other_kind) e ∙ sym (parts_map text literal_kind other_kind (λ a. refl) u)))
    (typed_leaves literal_kind t ∙ (y ∙ sym (typed_leaves literal_kind u))))

-- a tree whose first token is bare, from one whose first token has leading lines
pub with_first : {k : NodeKind} (x : Tree Decorated k) (t : Decorated) (ts : List Decorated)
    → bare_token t ∷ ts ≡ tree_yield x
    → (t ∷ ts ≡ tree_yield (map_first (with_lines t.leading) x))
    × (x ≡ map_first bare_token (map_first (with_lines t.leading) x))
    × (tree_map (λ (a : Decorated). a.text) x
    ≡ tree_map (λ (a : Decorated). a.text) (map_first (with_lines t.leading) x))
unfolding text
with_first x t ts e =
    let u = map_first (with_lines t.leading) x in
    let y : t ∷ ts ≡ tree_yield u = ap (change_first (with_lines t.leading)) e
    ∙ sym (map_first_yield (with_lines t.leading) x) in
    let m = map_first_unseen (with_lines t.leading) text (λ a. refl) x in (
      y,
      same_tree x (map_first bare_token u)
          (sym (map_first_unseen bare_token text (λ a. refl) u ∙ m))
          (sym e ∙ (ap (change_first bare_token) y ∙ sym (map_first_yield bare_token u))),
      sym m,
    )
