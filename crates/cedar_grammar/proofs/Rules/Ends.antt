-- What a rule's reader has read before a failure can be completed, without further nesting.
use Rattle.std.specs.Prelude.{◌≡◌, ℕ, zero, suc, Bool, true, IsTrue, [], length, ◌⊎◌}
use Rattle.std.proofs.Common.{refl, ap, ◌∙◌, inl, inr}
use Rattle.std.proofs.lemmas.Bool.{or_cases}
use Rattle.cedar_grammar.proofs.KindSets.{kinds, some_kind, every_kind}
use Rattle.cedar_tokens.specs.declared.kind.Kind.{Kind}
use Rattle.cedar_tokens.specs.Kinds.{is, begins}
use Rattle.cedar_grammar.specs.Trees.{Label, Forest, none, leaf, branch, join}
use Rattle.cedar_grammar.specs.Languages.{Lang, ◌⋄◌, ◌∪◌, no_more, Of}
use Rattle.cedar_grammar.specs.KindGrammar.{One}
use Rattle.cedar_grammar.specs.Reader.Reading.{Answer, Reader, done, stuck, one}
use Rattle.cedar_grammar.specs.Reader.Regroup.{gather}
use Rattle.cedar_grammar.proofs.Rules.Regrouping.{gather_yield}
use Rattle.cedar_grammar.specs.Reader.Rules.{Rule, never, empty, inner, leaf_of, nested, then, either, star, tail, node, shaped, first, refuse, shaped_at, tail_to, tailed, read}
use Rattle.cedar_grammar.proofs.Rules.Meanings.{has, closes, Shaped, Tail, Nested, means}
use Rattle.cedar_grammar.proofs.Readers.Languages.{Sound, token_sound}
use Rattle.cedar_grammar.proofs.Readers.Ends.{Halt, Completed, Completes, Inhabited, halt_more, both_completes, tree_completes, choice_completes, nest_completes, repeat_completes, token_completes}
use Rattle.cedar_grammar.proofs.Rules.Languages.{shaped_done, shaped_fails, read_sound}
use Rattle.cedar_grammar.proofs.Booleans.{and_first, and_second}

module _ {A : Type 0} where
  refuse_completes : (X : Lang A) → Completes refuse X
  refuse_completes X ts b r e =
      let d : ts ≡ r = cc in record { front = []; tokens = d; completed = inl refl }

  shaped_completes : (P : Reader A) (X : Lang A) → Completes P X
      → Completes (shaped_at P) (Shaped X)
  shaped_completes P X p ts b r e = go (P ts) refl
    where
      up : (k : Halt X ts r) → (k.front ≡ []) ⊎ Completed X k.front → Halt (Shaped X) ts r
      up k (inl z) = record { front = k.front; tokens = k.tokens; completed = inl z }
      up k (inr c) = record {
        front = k.front;
        tokens = k.tokens;
        completed = inr (record {
          trees = gather none c.trees;
          rest = c.rest;
          among = (c.trees, refl, c.among);
          leaves = gather_yield none c.trees ∙ c.leaves;
        });
      }

      go : (a : Answer A) → P ts ≡ a → Halt (Shaped X) ts r
      go (done g s) d = let w = shaped_done P ts g s d in absurd cc
      go (stuck c s) d =
          let w = shaped_fails P ts c s d in
          let k = p ts b r (let deep : c ≡ b = cc in let rest : s ≡ r = cc in
          d ∙ ap (λ z. stuck z s) deep ∙ ap (λ z. stuck b z) rest) in
          up k k.completed

module _ {A : Type 0} (kind : A → Kind) where
  roll : (s : Kind) (X Y Z : Lang A) (f : Forest Label A)
      → (One kind s ⋄ (X ⋄ Tail kind s X Y Z ∪ Y) ∪ Z) f → Tail kind s X Y Z f
  roll s X Y Z f (inr z) = (0, z)
  roll s X Y Z f (inl (g, i, e, o, inr y)) = (1, inl (g, i, e, o, inr y))
  roll s X Y Z f (inl (g, i, e, o, inl (h, j, c, x, (n, t)))) =
      (suc n, inl (g, i, e, o, inl (h, j, c, x, t)))

  tail_completes : (s : Kind) (u : Kind → Bool) (P Q R : Reader A) (X Y Z : Lang A) → Sound P X
      → Completes P X → Completes Q Y → Completes R Z → Inhabited Y → Inhabited (One kind s)
      → (n : ℕ) → Completes (tail_to kind s u P Q R n) (Tail kind s X Y Z)
  tail_completes s u P Q R X Y Z sound p q r y o zero =
      λ ts b v e. halt_more Z (Tail kind s X Y Z) (λ f x. (0, x)) ts v (r ts b v e)
  tail_completes s u P Q R X Y Z sound p q r y o (suc n) =
      choice_completes (begins kind (is s)) _ R (Tail kind s X Y Z)
      (λ ts b v e. halt_more (One kind s ⋄ (X ⋄ Tail kind s X Y Z ∪ Y)) (Tail kind s X Y Z)
      (λ f x. roll s X Y Z f (inl x)) ts v
      (both_completes (one kind s) _ (One kind s) (X ⋄ Tail kind s X Y Z ∪ Y)
      (token_sound kind (is s)) (token_completes kind (is s))
      (choice_completes (begins kind u) _ Q (X ⋄ Tail kind s X Y Z ∪ Y)
      (λ ts b v e. halt_more (X ⋄ Tail kind s X Y Z) (X ⋄ Tail kind s X Y Z ∪ Y) (λ f x. inl x) ts v
      (both_completes P _ X (Tail kind s X Y Z) sound p (tail_completes s u P Q R X Y Z sound p q r
      y o n) (join o.0 y.0, (1, inl (o.0, y.0, refl, o.1, inr y.1))) ts b v e))
      (λ ts b v e. halt_more Y (X ⋄ Tail kind s X Y Z ∪ Y) (λ f x. inr x) ts v (q ts b v e)))
      (y.0, inr y.1) ts b v e))
      (λ ts b v e. halt_more Z (Tail kind s X Y Z) (λ f x. (0, x)) ts v (r ts b v e))

  tailed_completes : (s : Kind) (u : Kind → Bool) (P Q R : Reader A) (X Y Z : Lang A) → Sound P X
      → Completes P X → Completes Q Y → Completes R Z → Inhabited Y → Inhabited (One kind s)
      → Completes (tailed kind s u P Q R) (Tail kind s X Y Z)
  unfolding tailed
  tailed_completes s u P Q R X Y Z sound p q r y o ts b v e =
      tail_completes s u P Q R X Y Z sound p q r y o (suc (length ts)) ts b v e

  -- a token of each kind
  abbrev pub Samples : Type 0
  Samples = (k : Kind) → (a : A) × (kind a ≡ k)

  module _ (sample : Samples) where
    one_of : (p : Kind → Bool) (k : Kind) → IsTrue (p k) → Inhabited (Of kind p)
    one_of p k h = let a = sample k in (leaf a.0 none, (a.0, refl, ap p a.1 ∙ h))

    one_is : (k : Kind) → Inhabited (One kind k)
    one_is k = one_of (is k) k (every_kind (λ k. is k k) refl k)

    module _ (room : Bool) (X : Lang A) (some_inner : IsTrue room → Inhabited X) where
      either_least : (Y Z : Lang A) → Inhabited Y ⊎ Inhabited Z → Inhabited (Y ∪ Z)
      either_least Y Z (inl y) = (y.0, inl y.1)
      either_least Y Z (inr z) = (z.0, inr z.1)

      or_least : (Y Z : Lang A) (a b : Bool) → (IsTrue a → Inhabited Y) → (IsTrue b → Inhabited Z)
          → IsTrue a ⊎ IsTrue b → Inhabited Y ⊎ Inhabited Z
      or_least Y Z a b h k (inl x) = inl (h x)
      or_least Y Z a b h k (inr x) = inr (k x)

      -- Some list of the rule, with brackets where there is room.
      pub least : (R : Rule) (b : Bool) → (IsTrue b → IsTrue room) → IsTrue (has b R)
          → Inhabited (means kind room X R)
      least never b k h = absurd cc
      least empty b k h = (none, refl)
      least inner b k h = some_inner (k h)
      least (leaf_of p) b k h = let w = some_kind p kinds h in one_of p w.0 w.1
      least (nested q a) b k h =
          let o = one_is q in
          let x = least a true (λ _. k (and_first b _ h)) (and_second b _ h) in
          (join o.0 x.0, (k (and_first b _ h), (o.0, x.0, refl, o.1, x.1)))
      least (then a c) b k h =
          let x = least a b k (and_first (has b a) _ h) in
          let y = least c b k (and_second (has b a) _ h) in
          (join x.0 y.0, (x.0, y.0, refl, x.1, y.1))
      least (either a c) b k h = either_least (means kind room X a) (means kind room X c)
          (or_least (means kind room X a) (means kind room X c) (has b a) (has b c)
          (λ h. least a b k h) (λ h. least c b k h) (or_cases (has b a) (has b c) h))
      least (star a) b k h = (none, no_more none refl)
      least (tail s x y z) b k h =
          let o = one_is s in
          let w = least y b k h in
          (join o.0 w.0, (1, inl (o.0, w.0, refl, o.1, inr w.1)))
      least (node l a) b k h = let x = least a b k h in (branch l x.0 none, (x.0, refl, x.1))
      least (shaped a) b k h = let x = least a b k h in (gather none x.0, (x.0, refl, x.1))
      least R b k h = absurd cc

      module _ (E : Reader A) (s : Sound E X) (p : Completes E X) where
        pub read_completes : (R : Rule) (b : Bool) → (IsTrue b → IsTrue room) → IsTrue (closes b R)
            → Completes (read kind room E R) (means kind room X R)
        read_completes never b k h = refuse_completes _
        read_completes empty b k h = λ ts b r e. absurd cc
        read_completes inner b k h = p
        read_completes (leaf_of q) b k h = token_completes kind q
        read_completes (nested q a) b k h = choice_completes (begins kind (is q)) _ refuse
            (Nested kind room q (means kind room X a))
            (nest_completes room _ _
            (λ r. both_completes _ _ _ _ (token_sound kind (is q)) (token_completes kind (is q))
            (read_completes a true (λ _. r) (and_second (has true a) _ h))
            (least a true (λ _. r) (and_first (has true a) _ h)))) (refuse_completes _)
        read_completes (then a c) b k h =
            let g = and_second (closes b a) _ h in
            both_completes _ _ _ _ (read_sound kind room E X s a) (read_completes a b k
            (and_first (closes b a) _ h)) (read_completes c b k (and_first (closes b c) _ g))
            (least c b k (and_second (closes b c) _ g))
        read_completes (either a c) b k h =
            choice_completes (begins kind (first a)) _ _ (means kind room X a ∪ means kind room X c)
            (λ ts d v e. halt_more (means kind room X a) (means kind room X a ∪ means kind room X c)
            (λ f x. inl x) ts v (read_completes a b k (and_first (closes b a) _ h) ts d v e))
            (λ ts d v e. halt_more (means kind room X c) (means kind room X a ∪ means kind room X c)
            (λ f x. inr x) ts v (read_completes c b k (and_second (closes b a) _ h) ts d v e))
        read_completes (star a) b k h =
            repeat_completes _ _ _ (read_sound kind room E X s a) (read_completes a b k h)
        read_completes (tail t x y z) b k h =
            let g = and_second (closes b x) _ h in
            let i = and_second (closes b y) _ g in
            tailed_completes t (first x) (read kind room E x) (read kind room E y)
            (read kind room E z) (means kind room X x) (means kind room X y) (means kind room X z)
            (read_sound kind room E X s x)
            (read_completes x b k (and_first (closes b x) _ h)) (read_completes y b k
            (and_first (closes b y) _ g)) (read_completes z b k (and_first (closes b z) _ i))
            (least y b k (and_second (closes b z) _ i)) (one_is t)
        read_completes (node l a) b k h = tree_completes l _ _ (read_completes a b k h)
        read_completes (shaped a) b k h =
            shaped_completes (read kind room E a) (means kind room X a) (read_completes a b k h)
        read_completes R b k h = refuse_completes _
