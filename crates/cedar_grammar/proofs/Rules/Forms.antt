-- The written forms and the forms that are read have the same languages.
use Rattle.std.specs.Prelude.{◌≡◌, ℕ, zero, suc, Bool, true, false, ◌&&◌, not}
use Rattle.std.proofs.Common.{refl, sym, ap, ◌∙◌, inl, inr}
use Rattle.std.proofs.lemmas.Bool.{and_from}
use Rattle.cedar_tokens.specs.declared.kind.Kind.{Kind}
use Rattle.cedar_tokens.specs.declared.kind.Kind.TheVariants as K
use Rattle.cedar_tokens.specs.Kinds.{is_ident, is_variable}
use Rattle.cedar_grammar.proofs.KindSets.{within_at}
use Rattle.cedar_grammar.specs.Trees.{Label, Forest, none, leaf, branch, join}
use Rattle.cedar_grammar.specs.Trees as L
use Rattle.cedar_grammar.specs.Languages.{Lang, ◌⋄◌, ◌∪◌, Many, no_more, one_more, Empty, Never, Branch, Of}
use Rattle.cedar_grammar.specs.KindGrammar.{One, Items, Ident, STR, Entity}
use Rattle.cedar_grammar.specs.Reader.Regroup.{gather}
use Rattle.cedar_grammar.specs.Reader.Rules.{Rule, nested, then, either, star, tail, node, shaped, items, entity, reference, core}
use Rattle.cedar_grammar.proofs.Rules.Meanings.{TailTo, Tail, Shaped, Reference, means}
use Rattle.cedar_grammar.proofs.Readers.Equations.{join_none, join_assoc}
use Rattle.cedar_grammar.proofs.Booleans.{and_first}

module _ {A : Type 0} where
  abbrev pub Inside : Lang A → Lang A → Type 0
  Inside X Y = (f : Forest Label A) → X f → Y f

  many_inside : (X Y : Lang A) → Inside X Y → Inside (Many X) (Many Y)
  many_inside X Y h f (no_more i e) = no_more f e
  many_inside X Y h f (one_more i g k e x m) = one_more f g k e (h g x) (many_inside X Y h k m)

  many_snoc : (X : Lang A) (m f : Forest Label A) → Many X m → X f → Many X (join m f)
  many_snoc X m f (no_more i e) x =
      one_more (join m f) f none (ap (λ z. join z f) e ∙ sym (join_none f)) x (no_more none refl)
  many_snoc X m f (one_more i g k e y n) x = one_more (join m f) g (join k f)
      (ap (λ z. join z f) e ∙ join_assoc g k f) y (many_snoc X k f n x)

  either_inside : (X Y X' Y' : Lang A) → Inside X X' → Inside Y Y' → Inside (X ∪ Y) (X' ∪ Y')
  either_inside X Y X' Y' h k f (inl x) = inl (h f x)
  either_inside X Y X' Y' h k f (inr y) = inr (k f y)

module _ {A : Type 0} (kind : A → Kind) where
  tail_inside : (s : Kind) (X Y Z X' Y' Z' : Lang A) → Inside X X' → Inside Y Y' → Inside Z Z'
      → (n : ℕ) → Inside (TailTo kind s X Y Z n) (TailTo kind s X' Y' Z' n)
  tail_inside s X Y Z X' Y' Z' x y z zero f t = z f t
  tail_inside s X Y Z X' Y' Z' x y z (suc n) f (inl (g, i, e, o, inl (h, j, c, a, t))) =
      inl (g, i, e, o, inl (h, j, c, x h a, tail_inside s X Y Z X' Y' Z' x y z n j t))
  tail_inside s X Y Z X' Y' Z' x y z (suc n) f (inl (g, i, e, o, inr b)) =
      inl (g, i, e, o, inr (y i b))
  tail_inside s X Y Z X' Y' Z' x y z (suc n) f (inr a) = inr (z f a)

  -- Lists with commas.
  abbrev Comma : Lang A
  Comma = One kind K.Comma

  after_item : (X : Lang A) (n : ℕ) (f : Forest Label A) → TailTo kind K.Comma X Empty Empty n f
      → (Many (Comma ⋄ X) ⋄ (Comma ∪ Empty)) f
  after_item X zero f e = (none, f, refl, no_more none refl, inr e)
  after_item X (suc n) f (inr e) = (none, f, refl, no_more none refl, inr e)
  after_item X (suc n) f (inl (g, i, e, o, inr d)) =
      (none, f, refl, no_more none refl, inl (o.0, e ∙ ap (join g) d ∙ join_none g ∙ o.1, o.2))
  after_item X (suc n) f (inl (g, i, e, o, inl (h, j, c, x, t))) =
      let w = after_item X n j t in (
        join (join g h) w.0,
        w.1,
        e ∙ ap (join g) (c ∙ ap (join h) w.2) ∙ sym (join_assoc g h (join w.0 w.1))
            ∙ sym (join_assoc (join g h) w.0 w.1),
        one_more _ (join g h) w.0 refl (g, h, refl, o, x) w.3,
        w.4,
      )

  items_read : (X Y : Lang A) → Inside X Y
      → Inside (X ⋄ Tail kind K.Comma X Empty Empty) (Items kind Y)
  items_read X Y h f (g, i, e, x, (n, t)) =
      let w = after_item Y n i
      (tail_inside K.Comma X Empty Empty Y Empty Empty h (λ f z. z) (λ f z. z) n i t) in
      (g, i, e, h g x, w)

  to_tail : (X : Lang A) (m k : Forest Label A) → Many (Comma ⋄ X) m → (Comma ∪ Empty) k
      → Tail kind K.Comma X Empty Empty (join m k)
  to_tail X m k (no_more i e) (inr d) = (0, ap (λ z. join z k) e ∙ d)
  to_tail X m k (no_more i e) (inl o) =
      (1, inl (k, none, ap (λ z. join z k) e ∙ sym (join_none k), o, inr refl))
  to_tail X m k (one_more i g h e (p, q, d, o, x) n) c =
      let w = to_tail X h k n c in (
        suc w.0,
        inl (
          p,
          join q (join h k),
          ap (λ z. join z k) (e ∙ ap (λ z. join z h) d) ∙ join_assoc (join p q) h k
              ∙ join_assoc p q (join h k),
          o,
          inl (q, join h k, refl, x, w.1),
        ),
      )

  items_written : (X Y : Lang A) → Inside X Y
      → Inside (Items kind X) (Y ⋄ Tail kind K.Comma Y Empty Empty)
  items_written X Y h f (g, i, e, x, (m, k, d, n, c)) =
      let w = to_tail X m k n c in (
        g,
        i,
        e,
        h g x,
        (
          w.0,
          let t : TailTo kind K.Comma X Empty Empty w.0 i = rw d w.1 in
              tail_inside K.Comma X Empty Empty Y Empty Empty h (λ f z. z) (λ f z. z) w.0 i t,
        ),
      )

  -- Paths.
  abbrev Names : Lang A
  Names = Ident kind ⋄ Many (One kind K.DoubleColon ⋄ Ident kind)

  names_more : (f g h : Forest Label A) → Names f → One kind K.DoubleColon g → Ident kind h
      → Names (join (join f g) h)
  names_more f g h (a, m, e, i, n) o j = (
    a,
    join m (join g h),
    ap (λ z. join (join z g) h) e ∙ join_assoc (join a m) g h ∙ join_assoc a m (join g h),
    i,
    many_snoc _ m (join g h) n (g, h, refl, o, j),
  )

  abbrev Step : ℕ → Lang A → Lang A
  Step n Z = TailTo kind K.DoubleColon (Ident kind) (STR kind) Z n

  -- what is read after some names
  names_read : (Z : Lang A) (Y : Lang A)
      → ((names f : Forest Label A) → Names names → Z f → Y (gather names f))
      → ((f : Forest Label A) → Entity kind f → Y f)
      → (n : ℕ) (names f : Forest Label A) → Names names → Step n Z f → Y (gather names f)
  names_read Z Y z y zero names f p t = z names f p t
  names_read Z Y z y (suc n) names f p (inr t) = z names f p t
  names_read Z Y z y (suc n) names f p (inl (g, i, e, (a, d, b), inr (w, c, x))) = rw (e, d, c)
      (y (branch L.primary
      (branch L.ref (branch L.name names (leaf a (branch L.str w none))) none) none) (
        branch L.ref (branch L.name names (leaf a (branch L.str w none))) none,
        refl,
        (
          branch L.name names (leaf a (branch L.str w none)),
          refl,
          (
            branch L.name names none,
            leaf a (branch L.str w none),
            refl,
            (names, refl, p),
            (leaf a none, branch L.str w none, refl, (a, refl, b), (w, refl, x)),
          ),
        ),
      ))
  names_read Z Y z y (suc n) names f p (inl (g, i, e, (a, d, b), inl (h, j, c, (w, q, x), t))) =
      let m = names_read Z Y z y n (join (join names (leaf a none)) (branch L.ident w none)) j
      (names_more names (leaf a none) (branch L.ident w none) p (a, refl, b) (w, refl, x)) t in
      rw (e, d, c, q) m

  -- Each way to go on after some names is read.
  names_written : (Z : Lang A) (m names k : Forest Label A)
      → Many (One kind K.DoubleColon ⋄ Ident kind) m → (n : ℕ) → Step n Z k
      → (f : Forest Label A) × (Tail kind K.DoubleColon (Ident kind) (STR kind) Z f)
      × (gather names f ≡ gather (join names m) k)
  names_written Z m names k (no_more i e) n t =
      (k, (n, t), ap (λ z. gather z k) (sym (join_none names) ∙ ap (join names) (sym e)))
  names_written Z m names k (one_more i g h e (p, q, d, (a, c, b), (w, u, x)) more) n t =
      let r = names_written Z h (join (join names p) q) k more n t in (
        join p (join q r.0),
        (suc r.1.0, inl (p, join q r.0, refl, (a, c, b), inl (q, r.0, refl, (w, u, x), r.1.1))),
        (let s : gather names (join p (join q r.0)) ≡ gather (join (join names p) q) r.0 =
            rw (c, u) refl in
            s ∙ r.2
            ∙ ap (λ z. gather z k) (join_assoc (join names p) q h ∙ join_assoc names p (join q h)
            ∙ ap (join names) (sym (join_assoc p q h) ∙ ap (λ z. join z h) (sym d) ∙ sym e))),
      )

  entity_read : Inside (Shaped (Ident kind ⋄ Tail kind K.DoubleColon (Ident kind) (STR kind) Never))
      (Entity kind)
  entity_read f (g, e, (i, t, d, (w, q, x), (n, s))) =
      let m = names_read Never (Entity kind) (λ _ _ _ z. absurd z) (λ f y. y) n (branch L.ident w
      none) t (branch L.ident w none, none, refl, (w, refl, x), no_more none refl) s in
      rw (e, d, q) m

  step_text : (Z : Lang A) (n : ℕ) (g h : Forest Label A) → One kind K.DoubleColon g → STR kind h
      → Step (suc n) Z (join g h)
  step_text Z n g h o t = inl (g, h, refl, o, inr t)

  -- an entity, as one identifier and what follows it
  entity_parts : (Z : Lang A) (f : Forest Label A) → Entity kind f
      → (g : Forest Label A) × (h : Forest Label A) × Ident kind g
      × Tail kind K.DoubleColon (Ident kind) (STR kind) Z h × (f ≡ gather none (join g h))
  entity_parts Z f
      (r, e, (s, d, (p, k, c, (names, q, (i, m, b, (w, u, x), more)), (o, t, v, (a, y, z), (l, j, is_text))))) =
      let n = names_written Z m (branch L.ident w none) (join o t) more 1
      (step_text Z 0 o t (a, y, z) (l, j, is_text)) in (
        i,
        n.0,
        (w, u, x),
        n.1,
        (let left : gather none (join i n.0) ≡ gather (branch L.ident w none) n.0 = rw u refl in
            let right : gather (join (branch L.ident w none) m) (join o t) ≡ f =
            rw (e, d, c, q, b, u, v, y, j) refl in
            sym (left ∙ n.2 ∙ right)),
      )

  entity_written : Inside (Entity kind)
      (Shaped (Ident kind ⋄ Tail kind K.DoubleColon (Ident kind) (STR kind) Never))
  entity_written f x =
      let p = entity_parts Never f x in (join p.0 p.1, p.4, (p.0, p.1, refl, p.2, p.3))

  abbrev Other : Kind → Bool
  Other k = is_ident k && not (is_variable k)

  abbrev Ways : Lang A → Lang A
  Ways C = Tail kind K.DoubleColon (Ident kind) (STR kind) C

  abbrev Flat : Lang A → Lang A
  Flat C = Branch L.ident (Of kind is_variable) ⋄ (Ways C ∪ Empty) ∪ Branch L.ident (Of kind Other)
      ⋄ Ways C

  module _ (X Y : Lang A) (inside : Inside X Y) where
    called : (names f : Forest Label A) → Names names → Branch L.access X f
        → Reference kind (Branch L.access Y) (gather names f)
    called names f p (g, e, x) = rw e (inr (inr (
      branch L.primary (branch L.name names none) none,
      branch L.access g none,
      refl,
      (branch L.name names none, refl, (names, refl, p)),
      (g, refl, inside g x),
    )))

    ways_read : (w : Forest Label A) → Of kind is_ident w → (n : ℕ) (f : Forest Label A)
        → Step n (Branch L.access X) f
        → Reference kind (Branch L.access Y) (gather (branch L.ident w none) f)
    ways_read w x n f t = names_read (Branch L.access X) (Reference kind (Branch L.access Y)) called
        (λ f y. inr (inl y)) n (branch L.ident w none) f
        (branch L.ident w none, none, refl, (w, refl, x), no_more none refl) t

    reference_read : Inside (Shaped (Flat (Branch L.access X))) (Reference kind (Branch L.access Y))
    reference_read f (g, e, inl (i, t, d, (w, q, (a, c, v)), inl (n, s))) =
        rw (e, d, q) (ways_read w (a, c, within_at is_variable is_ident refl (kind a) v) n t s)
    reference_read f (g, e, inl (i, t, d, (w, q, x), inr s)) = rw (e, d, q, s) (inl (
      branch L.name (branch L.ident w none) none,
      refl,
      (branch L.ident w none, refl, (w, refl, x)),
    ))
    reference_read f (g, e, inr (i, t, d, (w, q, (a, c, v)), (n, s))) =
        rw (e, d, q) (ways_read w (a, c, and_first (is_ident (kind a)) _ v) n t s)

  one_of_two : (C : Lang A) (g h : Forest Label A) → Ident kind g → Ways C h → Flat C (join g h)
  one_of_two C g h (w, q, (a, c, v)) t = go (is_variable (kind a)) refl
    where
      go : (b : Bool) → is_variable (kind a) ≡ b → Flat C (join g h)
      go true e = inl (g, h, refl, (w, q, (a, c, e)), inl t)
      go false e = inr (
        g,
        h,
        refl,
        (w, q, (a, c, and_from (is_ident (kind a)) (not (is_variable (kind a))) v (ap not e))),
        t,
      )

  reference_written : (X Y : Lang A) → Inside X Y
      → Inside (Reference kind (Branch L.access X)) (Shaped (Flat (Branch L.access Y)))
  reference_written X Y inside f (inl (g, e, (h, d, (w, q, x)))) = (
    h,
    (let z : gather none h ≡ f = rw (e, d, q) refl in sym z),
    inl (h, none, sym (join_none h), (w, q, x), inr refl),
  )
  reference_written X Y inside f (inr (inl x)) =
      let p = entity_parts (Branch L.access Y) f x in
      (join p.0 p.1, p.4, one_of_two (Branch L.access Y) p.0 p.1 p.2 p.3)
  reference_written X Y inside f
      (inr (inr (p, k, e, (h, d, (names, q, (i, m, b, (w, u, x), more))), (g, c, y)))) =
      let n =
      names_written (Branch L.access Y) m (branch L.ident w none) k more 0 (g, c, inside g y) in (
        join i n.0,
        (let left : gather none (join i n.0) ≡ gather (branch L.ident w none) n.0 = rw u refl in
            let right : gather (join (branch L.ident w none) m) k ≡ f =
            rw (e, d, q, b, u, c) refl in
            sym (left ∙ n.2 ∙ right)),
        one_of_two (Branch L.access Y) i n.0 (w, u, x) n.1,
      )

  module _ (room : Bool) (E : Lang A) where
    -- what is read is what is written
    pub core_written : (R : Rule) → Inside (means kind room E (core R)) (means kind room E R)
    core_written (nested k a) = λ f (o, (g, i, e, x, y)). (o, (g, i, e, x, core_written a i y))
    core_written (then a b) = λ f (g, i, e, x, y). (g, i, e, core_written a g x, core_written b i y)
    core_written (either a b) = either_inside _ _ _ _ (core_written a) (core_written b)
    core_written (star a) = many_inside _ _ (core_written a)
    core_written (tail s x y z) = λ f (n, t).
        (n, tail_inside s _ _ _ _ _ _ (core_written x) (core_written y) (core_written z) n f t)
    core_written (node l a) = λ f (g, e, x). (g, e, core_written a g x)
    core_written (shaped a) = λ f (g, e, x). (g, e, core_written a g x)
    core_written (items a) = items_read _ _ (core_written a)
    core_written entity = entity_read
    core_written (reference c) = reference_read _ _ (core_written c)
    core_written R = λ f x. x

    pub written_core : (R : Rule) → Inside (means kind room E R) (means kind room E (core R))
    written_core (nested k a) = λ f (o, (g, i, e, x, y)). (o, (g, i, e, x, written_core a i y))
    written_core (then a b) = λ f (g, i, e, x, y). (g, i, e, written_core a g x, written_core b i y)
    written_core (either a b) = either_inside _ _ _ _ (written_core a) (written_core b)
    written_core (star a) = many_inside _ _ (written_core a)
    written_core (tail s x y z) = λ f (n, t).
        (n, tail_inside s _ _ _ _ _ _ (written_core x) (written_core y) (written_core z) n f t)
    written_core (node l a) = λ f (g, e, x). (g, e, written_core a g x)
    written_core (shaped a) = λ f (g, e, x). (g, e, written_core a g x)
    written_core (items a) = items_written _ _ (written_core a)
    written_core entity = entity_written
    written_core (reference c) = reference_written _ _ (written_core c)
    written_core R = λ f x. x
