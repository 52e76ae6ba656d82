-- From tokens with a document to trees: the building blocks.
use Rattle.std.proofs.Common.{◌≡◌, ℕ, Bool, true, false, ◌&&◌, List, [], ◌∷◌, ◌++◌, refl, ap, sym, ◌∙◌, subst, inl, inr, ◌⊎◌, append-nil, append_assoc}
use Rattle.std.specs.Prelude.{IsTrue, ⊤, codes}
use Prim.Native.String.{String}
use Rattle.cedar_tokens.specs.Listing.{Decorated}
use Rattle.cedar_tokens.specs.PlainList.{is_comma, is_closing_bracket}
use Rattle.cedar_layout.specs.Layout.{Doc, nil, ◌·◌}
use Rattle.cedar_layout.proofs.Values.{dot-nil, dot_assoc}
use Rattle.cedar_laws.specs.Table.{C}
use Rattle.cedar_grammar.specs.Trees.{Label, Forest, none, leaf, branch, join}
use Rattle.cedar_grammar.specs.Languages.{Lang, ◌⋄◌, ◌∪◌, Many, no_more, one_more, Maybe, Branch, Empty, Never}
use Rattle.cedar_grammar.specs.Grammar as Gr
use Rattle.cedar_grammar.proofs.Readers.Equations.{join_none}
use Rattle.cedar_written.specs.Languages.{◌⋄◌ as ◌⊙◌, ◌∪◌ as ◌⊕◌}
use Rattle.cedar_written.specs.Languages as L
use Rattle.cedar_written.specs.Written as W
use Rattle.cedar_written.proofs.SameRows.{text}

-- ---- lists without trailing commas

-- the next token is a closing bracket; c says whether what follows the list begins with one
abbrev pub first_closes : Bool → List Decorated → Bool
first_closes c [] = c
first_closes c (t ∷ ts) = is_closing_bracket t.text

-- before what follows, the list has no trailing comma
abbrev pub Plain : Bool → List Decorated → Type 0
Plain c [] = ⊤
Plain c (a ∷ ts) = ((is_comma a.text && first_closes c ts) ≡ false) × Plain c ts

first_of : (c : Bool) (us vs : List Decorated)
    → first_closes c (us ++ vs) ≡ first_closes (first_closes c vs) us
first_of c [] vs = refl
first_of c (u ∷ us) vs = refl

pub plain_parts : (c : Bool) (us vs : List Decorated) → Plain c (us ++ vs)
    → Plain (first_closes c vs) us × Plain c vs
plain_parts c [] vs p = (tt, p)
plain_parts c (u ∷ us) vs p =
    let r = plain_parts c us vs p.1 in
    ((ap (λ b. is_comma u.text && b) (sym (first_of c us vs)) ∙ p.0, r.0), r.1)

-- ---- what stands for a part of a text: its tokens, its document and its trees
pub record View (T : Type 0) : Type 0 where
  pub leaves : T → List Decorated
  pub doc : T → Doc
  pub trees : T → Forest Label (List ℕ)

-- what may follow: anything, or a closing bracket only
abbrev pub Allows : Bool → Bool → Type 0
Allows false c = ⊤
Allows true c = c ≡ true

-- Every row of X without trailing commas, before what may follow, is one of these, and its trees
-- are in Y.
pub record Reads (o : Bool) (X : List Decorated → Doc → Type 0) {T : Type 0} (v : View T)
    (Y : Forest Label (List ℕ) → Type 0) : Type 0 where
  pub read : (c : Bool) (ts : List Decorated) (d : Doc) → Allows o c → Plain c ts → X ts d
      → (t : T) × (ts ≡ v.leaves t) × (d ≡ v.doc t) × Y (v.trees t)

-- the second stands for the same
abbrev pub Agree : {T U : Type 0} → View T → View U → (T → U) → Type 0
Agree v w m = (t : _) → (v.leaves t ≡ w.leaves (m t)) × (v.doc t ≡ w.doc (m t))
    × (v.trees t ≡ w.trees (m t))

abbrev pub optional : {T : Type 0} → View T → View (T ⊎ ⊤)
optional v = record {
  leaves = λ t. elim t [ inl x ↦ v.leaves x | inr x ↦ [] ];
  doc = λ t. elim t [ inl x ↦ v.doc x | inr x ↦ nil ];
  trees = λ t. elim t [ inl x ↦ v.trees x | inr x ↦ none ];
}

abbrev pub both : {T U : Type 0} → View T → View U → View (T × U)
both v w = record {
  leaves = λ t. v.leaves t.0 ++ w.leaves t.1;
  doc = λ t. v.doc t.0 · w.doc t.1;
  trees = λ t. join (v.trees t.0) (w.trees t.1);
}

abbrev pub nothing : View ⊤
nothing = record { leaves = λ t. []; doc = λ t. nil; trees = λ t. none }

abbrev pub one : Doc → View Decorated
one next = record { leaves = λ t. t ∷ []; doc = λ t. C t next; trees = λ t. leaf t.text none }

-- with the document changed by g, or under a label
abbrev pub changed : {T : Type 0} → (Doc → Doc) → View T → View T
changed g v = record { leaves = v.leaves; doc = λ t. g (v.doc t); trees = v.trees }

abbrev pub labelled : {T : Type 0} → Label → View T → View T
labelled l v = record { leaves = v.leaves; doc = v.doc; trees = λ t. branch l (v.trees t) none }

pub leaf_reads : {o : Bool} (P : List ℕ → Type 0) (next : Doc)
    → Reads o (L.Token P next) (one next) (Gr.Leaf text P)
leaf_reads P next = record { read = λ c ts d a p (t, e, f, h). (t, e, f, (t.text, refl, h)) }

-- one after the other; what the second begins with is what may follow the first
pub in_turn : {o p : Bool} {X X' : L.Lang} {T U : Type 0} {v : View T} {w : View U}
    {Y Y' : Lang (List ℕ)}
    → ((c : Bool) (ts : List Decorated) (d : Doc) → X' ts d → Allows p (first_closes c ts))
    → Reads p X v Y → Reads o X' w Y' → Reads o (X ⊙ X') (both v w) (Y ⋄ Y')
in_turn {o} {p} {X} {X'} {T} {U} {v} {w} {Y} {Y'} starts x x' = record { read = go }
  where
    go : (c : Bool) (ts : List Decorated) (d : Doc) → Allows o c → Plain c ts → (X ⊙ X') ts d
        → (t : T × U) × (ts ≡ (both v w).leaves t) × (d ≡ (both v w).doc t)
        × (Y ⋄ Y') ((both v w).trees t)
    go c ts d a p (us, vs, e, f, s, h, m, n) =
        let q = plain_parts c us vs (subst (Plain c) s p) in
        let k = x.read (first_closes c vs) us e (starts c vs f n) q.0 m in
        let l = x'.read c vs f a q.1 n in (
          (k.0, l.0),
          s ∙ (ap (λ z. z ++ vs) k.1 ∙ ap (λ z. v.leaves k.0 ++ z) l.1),
          h ∙ (ap (λ z. z · f) k.2 ∙ ap (λ z. v.doc k.0 · z) l.2),
          (v.trees k.0, w.trees l.0, refl, k.3, l.3),
        )

infixr 24 ◌then◌
pub ◌then◌ : {o : Bool} {X X' : L.Lang} {T U : Type 0} {v : View T} {w : View U}
    {Y Y' : Lang (List ℕ)} → Reads false X v Y → Reads o X' w Y'
    → Reads o (X ⊙ X') (both v w) (Y ⋄ Y')
x then x' = in_turn {p = false} (λ c ts d y. tt) x x'

infixr 22 ◌or◌
pub ◌or◌ : {o : Bool} {X X' : L.Lang} {T : Type 0} {v : View T} {Y Y' : Lang (List ℕ)}
    → Reads o X v Y → Reads o X' v Y' → Reads o (X ⊕ X') v (Y ∪ Y')
x or x' = record {
  read = λ c ts d a p y. elim y [
    | inl z ↦ (let k = x.read c ts d a p z in (k.0, k.1, k.2, inl k.3))
    | inr z ↦ (let k = x'.read c ts d a p z in (k.0, k.1, k.2, inr k.3))
  ];
}

module _ {o : Bool} where
  -- the same by another view
  pub as_view : {X : L.Lang} {T U : Type 0} {v : View T} {Y : Lang (List ℕ)} (w : View U)
      (m : T → U) → Agree v w m → Reads o X v Y → Reads o X w Y
  as_view {Y = Y} w m q x = record {
    read = λ c ts e a p y. (let k = x.read c ts e a p y in let r = q k.0 in
        (m k.0, k.1 ∙ r.0, k.2 ∙ r.1, subst Y r.2 k.3));
  }

  -- the trees are in a greater language
  pub in_language : {X : L.Lang} {T : Type 0} {v : View T} {Y Z : Lang (List ℕ)}
      → ((f : Forest Label (List ℕ)) → Y f → Z f) → Reads o X v Y → Reads o X v Z
  in_language {v = v} i x = record {
    read = λ c ts d a p y. (let k = x.read c ts d a p y in (k.0, k.1, k.2, i (v.trees k.0) k.3));
  }

  -- X Y Z for (X Y) Z
  pub regrouped : {X Y Z : L.Lang} {T : Type 0} {v : View T} {V : Lang (List ℕ)}
      → Reads o ((X ⊙ Y) ⊙ Z) v V → Reads o (X ⊙ Y ⊙ Z) v V
  regrouped x = record {
    read = λ c ts d a p (us, vs, e, f, s, h, m, (us', vs', e', f', s', h', m', n)).
        x.read c ts d a p (
          us ++ us',
          vs',
          e · e',
          f',
          s ∙ (ap (λ z. us ++ z) s' ∙ sym (append_assoc us us' vs')),
          h ∙ (ap (λ z. e · z) h' ∙ sym (dot_assoc e e' f')),
          (us, us', e, e', refl, refl, m, m'),
          n,
        );
  }

  pub branch_reads : {X : L.Lang} {T : Type 0} {v : View T} {Y : Lang (List ℕ)} (l : Label)
      → Reads o X v Y → Reads o X (labelled l v) (Branch l Y)
  branch_reads {v = v} l x = record {
    read = λ c ts d a p y. (let k = x.read c ts d a p y in
        (k.0, k.1, k.2, (v.trees k.0, refl, k.3)));
  }

  pub mapped_reads : {X : L.Lang} {T : Type 0} {v : View T} {Y : Lang (List ℕ)} (g : Doc → Doc)
      → Reads o X v Y → Reads o (L.Mapped g X) (changed g v) Y
  mapped_reads g x = record {
    read = λ c ts d a p (e, h, y). (let k = x.read c ts e a p y in (k.0, k.1, h ∙ ap g k.2, k.3));
  }

  pub put_reads : (e : Doc) → Reads o (L.Put e) (changed (λ d. e) nothing) Empty
  put_reads e = record { read = λ c ts d a p (s, h). (tt, s, h, refl) }

  pub after_put : {X : L.Lang} {T : Type 0} {v : View T} {Y : Lang (List ℕ)} (e : Doc)
      → Reads o X v Y → Reads o (L.Put e ⊙ X) (changed (λ d. e · d) v) Y
  after_put {X} e x = record {
    read = λ c ts d a p (us, vs, g, f, s, h, m, n).
        (let q : ts ≡ vs = s ∙ ap (λ z. z ++ vs) m.0 in
        let k = x.read c ts f a p (subst (λ z. X z f) (sym q) n) in
        (k.0, k.1, h ∙ (ap (λ z. z · f) m.1 ∙ ap (λ z. e · z) k.2), k.3));
  }

  pub before_put : {X : L.Lang} {T : Type 0} {v : View T} {Y : Lang (List ℕ)} (e : Doc)
      → Reads o X v Y → Reads o (X ⊙ L.Put e) (changed (λ d. d · e) v) Y
  before_put {X} e x = record {
    read = λ c ts d a p (us, vs, g, f, s, h, m, n).
        (let q : ts ≡ us = s ∙ (ap (λ z. us ++ z) n.0 ∙ append-nil us) in
        let k = x.read c ts g a p (subst (λ z. X z g) (sym q) m) in
        (k.0, k.1, h ∙ (ap (λ z. g · z) n.1 ∙ ap (λ z. z · e) k.2), k.3));
  }

  pub room_reads : {X : L.Lang} {T : Type 0} {v : View T} {Y : Lang (List ℕ)} (room : Bool)
      → Reads o X v Y → Reads o (λ ts d. IsTrue room × X ts d) v (λ f. IsTrue room × Y f)
  room_reads room x = record {
    read = λ c ts d a p (r, y). (let k = x.read c ts d a p y in (k.0, k.1, k.2, (r, k.3)));
  }

  pub never_reads : {T : Type 0} {v : View T} → Reads o L.Never v Never
  never_reads = record { read = λ c ts d a p y. absurd y }

-- before a closing bracket
pub closed : {X : L.Lang} {T : Type 0} {v : View T} {Y : Lang (List ℕ)} (s : String) (next : Doc)
    → is_closing_bracket (codes s) ≡ true
    → Reads true X v Y → Reads false (X ⊙ W.TokThen s next) (both v (one next)) (Y ⋄ Gr.Tok text s)
closed s next b x = in_turn {p = true}
    (λ c ts d (t, n, k, l). ap (first_closes c) n ∙ (ap is_closing_bracket l ∙ b)) x
    (leaf_reads (λ t. t ≡ codes s) next)

-- no trailing comma before a closing bracket
pub no_comma : Reads true (L.Maybe (W.Tok ",")) nothing (Maybe (Gr.Tok text ","))
no_comma = record { read = go }
  where
    go : (c : Bool) (ts : List Decorated) (d : Doc) → Allows true c → Plain c ts
        → L.Maybe (W.Tok ",") ts d
        → (t : ⊤) × (ts ≡ []) × (d ≡ nil) × Maybe (Gr.Tok text ",") none
    go c ts d a p (inr (s, h)) = (tt, s, h, inr refl)
    go c ts d a p (inl (t, e, f, h)) =
        let q = (subst (Plain c) e p).0 in
        absurd (let r : true ≡ false = sym (ap (λ z. is_comma z && c) h ∙ a) ∙ q in cc)

pub maybe_reads : {o : Bool} {X : L.Lang} {T : Type 0} {v : View T} {Y : Lang (List ℕ)}
    → Reads o X v Y → Reads o (L.Maybe X) (optional v) (Maybe Y)
maybe_reads {v = v} x = as_view (optional v) (λ t. inl t) (λ t. (refl, refl, refl)) x
    or as_view (optional v) (λ t. inr t) (λ t. (refl, refl, refl)) (put_reads nil)

-- a separator and an operand
abbrev pub separated : {T : Type 0} → (Decorated → Doc → Doc) → View T → View (Decorated × T)
separated sd v = record {
  leaves = λ t. t.0 ∷ v.leaves t.1;
  doc = λ t. sd t.0 (v.doc t.1);
  trees = λ t. leaf t.0.text (v.trees t.1);
}

-- X {separator X}
module _ {Z : L.Lang} {T U : Type 0} {v : View T} {Yz : Lang (List ℕ)}
    (sd : Decorated → Doc → Doc) (w : View U) (single : T → U) (more : T → Decorated → U → U)
    (sd_assoc : (o : Decorated) (a f : Doc) → sd o a · f ≡ sd o (a · f))
    (single_is : Agree v w single)
    (more_is : (t : T) (a : Decorated) (r : U)
    → (w.leaves (more t a r) ≡ v.leaves t ++ (a ∷ w.leaves r))
    × (w.doc (more t a r) ≡ v.doc t · sd a (w.doc r))
    × (w.trees (more t a r) ≡ join (v.trees t) (leaf a.text (w.trees r)))) where
  module _ (z : Reads false Z (separated sd v) Yz) where
    chain_from : (c : Bool) (vs : List Decorated) (f : Doc) → Plain c vs → L.Many Z vs f → (t : T)
        → (r : U) × (v.leaves t ++ vs ≡ w.leaves r) × (v.doc t · f ≡ w.doc r)
        × (h : Forest Label (List ℕ)) × (w.trees r ≡ join (v.trees t) h) × Many Yz h
    chain_from c _ _ p L.no_more t =
        let q = single_is t in (
          single t,
          append-nil (v.leaves t) ∙ q.0,
          dot-nil (v.doc t) ∙ q.1,
          none,
          sym q.2 ∙ sym (join_none (v.trees t)),
          no_more none refl,
        )
    chain_from c _ _ p (L.one_more us vs e f y m) t =
        let pl = plain_parts c us vs p in
        let k = z.read (first_closes c vs) us e tt pl.0 y in
        let r = chain_from c vs f pl.1 m k.0.1 in
        let q = more_is t k.0.0 r.0 in (
          more t k.0.0 r.0,
          ap (λ l. v.leaves t ++ (l ++ vs)) k.1
              ∙ (ap (λ l. v.leaves t ++ (k.0.0 ∷ l)) r.1 ∙ sym q.0),
          ap (λ l. v.doc t · (l · f)) k.2
              ∙ (ap (λ l. v.doc t · l) (sd_assoc k.0.0 (v.doc k.0.1) f ∙ ap (sd k.0.0) r.2)
              ∙ sym q.1),
          leaf k.0.0.text (join (v.trees k.0.1) r.3),
          q.2 ∙ ap (λ l. join (v.trees t) (leaf k.0.0.text l)) r.4,
          one_more _ (leaf k.0.0.text (v.trees k.0.1)) r.3 refl k.3 r.5,
        )

    pub chain : {X : L.Lang} {Y : Lang (List ℕ)} → Reads false X v Y
        → Reads false (X ⊙ L.Many Z) w (Y ⋄ Many Yz)
    chain {X} {Y} x = record { read = go }
      where
        go : (c : Bool) (ts : List Decorated) (d : Doc) → Allows false c → Plain c ts
            → (X ⊙ L.Many Z) ts d → (t : U) × (ts ≡ w.leaves t) × (d ≡ w.doc t)
            × (Y ⋄ Many Yz) (w.trees t)
        go c ts d a p (us, vs, e, f, s, h, m, n) =
            let q = plain_parts c us vs (subst (Plain c) s p) in
            let k = x.read (first_closes c vs) us e tt q.0 m in
            let r = chain_from c vs f q.1 n k.0 in (
              r.0,
              s ∙ (ap (λ l. l ++ vs) k.1 ∙ r.1),
              h ∙ (ap (λ l. l · f) k.2 ∙ r.2),
              (v.trees k.0, r.3, r.4, k.3, r.5),
            )
