-- Trees whose leaves are changed to others of the same kinds.
use Rattle.std.specs.Prelude.{◌≡◌, ℕ, Bool, true, false, ◌&&◌, List, [], ◌∷◌, ◌++◌, map}
use Rattle.std.proofs.Common.{refl, sym, ap, ◌∙◌}
use Rattle.cedar_tokens.specs.declared.kind.Kind.{Kind}
use Rattle.cedar_tokens.specs.declared.kind.Kind.TheVariants as K
use Rattle.cedar_tokens.specs.Kinds.{is, is_closing, begins}
use Rattle.cedar_grammar.specs.Trees.{Label, Forest, none, leaf, branch, yield}
use Rattle.cedar_grammar.specs.KindGrammar.{G}
use Rattle.cedar_grammar.specs.TrailingCommas.{drop_if, plain, closes_next, without_trailing}
use Rattle.cedar_grammar.specs.Reader.Reading.{done}
use Rattle.cedar_grammar.specs.Reader.Lines.{set_to}
use Rattle.cedar_grammar.proofs.Rules.Maps.{each, relabel, answer_of, set_agrees}
use Rattle.cedar_grammar.proofs.WholeLaws.{set_sound, set_complete}

module _ {A B : Type 0} (h : A → B) where
  pub each_append : (xs ys : List A) → each h (xs ++ ys) ≡ each h xs ++ each h ys
  each_append [] ys = refl
  each_append (x ∷ xs) ys = ap (λ z. h x ∷ z) (each_append xs ys)

  pub relabel_yield : (f : Forest Label A) → yield (relabel h f) ≡ each h (yield f)
  relabel_yield none = refl
  relabel_yield (leaf a f) = ap (λ z. h a ∷ z) (relabel_yield f)
  relabel_yield (branch l f g) = ap (λ z. z ++ yield (relabel h g)) (relabel_yield f)
      ∙ ap (λ z. each h (yield f) ++ z) (relabel_yield g)
      ∙ sym (each_append (yield f) (yield g))

-- A change of leaves that keeps their kinds.
module _ {A B : Type 0} (h : A → B) (kind : A → Kind) (kind' : B → Kind)
    (same : (a : A) → kind' (h a) ≡ kind a) where
  -- trees of the grammar remain trees of the grammar
  pub relabelled : (d : ℕ) (f : Forest Label A) (ts : List A) → G kind d f ts
      → G kind' d (relabel h f) (each h ts)
  relabelled d f ts g =
      let e : set_to kind' d (each h (yield f)) ≡ done (relabel h f) [] =
      set_agrees h kind kind' same d (yield f) ∙ ap (answer_of h) (set_complete kind d f g.shape) in
      record {
        shape = (set_sound kind' d (each h (yield f)) (relabel h f) [] e).among;
        leaves = relabel_yield h f ∙ ap (each h) g.leaves;
      }

  pub begins_each : (p : Kind → Bool) (ts : List A) → begins kind' p (each h ts) ≡ begins kind p ts
  begins_each p [] = refl
  begins_each p (a ∷ ts) = ap p (same a)

  -- trailing commas remain trailing commas
  pub plain_each : (ts : List A) → plain kind' (each h ts) ≡ each h (plain kind ts)
  plain_each [] = refl
  plain_each (a ∷ ts) = ap (λ k. drop_if (is K.Comma k && begins kind' is_closing (each h ts))
      (h a ∷ plain kind' (each h ts)) (plain kind' (each h ts))) (same a)
      ∙ ap (λ b. drop_if (is K.Comma (kind a) && b) (h a ∷ plain kind' (each h ts))
      (plain kind' (each h ts))) (begins_each is_closing ts)
      ∙ ap (λ z. drop_if (is K.Comma (kind a) && begins kind is_closing ts) (h a ∷ z) z)
      (plain_each ts) ∙ moved (is K.Comma (kind a) && begins kind is_closing ts)
    where
      moved : (b : Bool) → drop_if b (h a ∷ each h (plain kind ts)) (each h (plain kind ts))
          ≡ each h (drop_if b (a ∷ plain kind ts) (plain kind ts))
      moved true = refl
      moved false = refl

  closes_same : (f : Forest Label A) → closes_next kind' (relabel h f) ≡ closes_next kind f
  closes_same none = refl
  closes_same (leaf a f) = ap is_closing (same a)
  closes_same (branch l f g) = refl

  -- the trailing commas of trees remain trailing commas
  pub without_relabel : (f : Forest Label A)
      → without_trailing kind' (relabel h f) ≡ relabel h (without_trailing kind f)
  without_relabel none = refl
  without_relabel (leaf a f) = ap (λ k. drop_if (is K.Comma k && closes_next kind' (relabel h f))
      (leaf (h a) (without_trailing kind' (relabel h f))) (without_trailing kind' (relabel h f)))
      (same a)
      ∙ ap (λ b. drop_if (is K.Comma (kind a) && b) (leaf (h a) (without_trailing kind'
      (relabel h f))) (without_trailing kind' (relabel h f))) (closes_same f)
      ∙ ap (λ z. drop_if (is K.Comma (kind a) && closes_next kind f) (leaf (h a) z) z)
      (without_relabel f) ∙ moved (is K.Comma (kind a) && closes_next kind f)
    where
      moved : (b : Bool) → drop_if b (leaf (h a) (relabel h (without_trailing kind f))) (relabel h
          (without_trailing kind f))
          ≡ relabel h (drop_if b (leaf a (without_trailing kind f)) (without_trailing kind f))
      moved true = refl
      moved false = refl
  without_relabel (branch l f g) =
      ap (λ z. branch l z (without_trailing kind' (relabel h g))) (without_relabel f)
      ∙ ap (branch l (relabel h (without_trailing kind f))) (without_relabel g)

pub each_map : {A B : Type 0} → (h : A → B) (ts : List A) → each h ts ≡ map h ts
each_map h [] = refl
each_map h (a ∷ ts) = ap (λ z. h a ∷ z) (each_map h ts)

pub map_map : {A B C : Type 0} → (g : B → C) (h : A → B) (xs : List A)
    → map g (map h xs) ≡ map (λ x. g (h x)) xs
map_map g h [] = refl
map_map g h (x ∷ xs) = ap (λ z. g (h x) ∷ z) (map_map g h xs)
