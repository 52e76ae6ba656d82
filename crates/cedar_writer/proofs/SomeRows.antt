-- Each row of trees of a rule's bones is a row of the rule, with the marks of these tokens.
use Rattle.std.proofs.Common.{◌≡◌, ℕ, zero, suc, Bool, true, false, not, List, [], ◌∷◌, ◌++◌, refl, sym, ap, ◌∙◌, subst, inl, inr, append_assoc}
use Rattle.std.specs.Prelude.{IsTrue}
use Rattle.std.proofs.lemmas.Bool.{both_ways, not-true}
use Rattle.cedar_tokens.specs.Listing.{Decorated}
use Rattle.cedar_tokens.specs.declared.kind.Kind.{Kind}
use Rattle.cedar_tokens.specs.Kinds.{is}
use Rattle.cedar_tokens.specs.TokenKinds.{kind_of}
use Rattle.cedar_grammar.specs.Trees.{Label, Forest, none, yield}
use Rattle.cedar_grammar.specs.Languages.{◌⋄◌ as ◌⊙◌, ◌∪◌ as ◌⊕◌}
use Rattle.cedar_grammar.specs.Languages as T
use Rattle.cedar_grammar.specs.Reader.Rules.{expr_first}
use Rattle.cedar_grammar.specs.Reader.Rules as G
use Rattle.cedar_grammar.proofs.Booleans.{and_first, and_second}
use Rattle.cedar_grammar.proofs.Rules.Meanings as M
use Rattle.cedar_laws.specs.Table.{bare_token}
use Rattle.cedar_written.proofs.SameRows.{parts}
use Rattle.cedar_print.specs.WrittenMarks.{Mark, marks_of, lead_of}
use Rattle.cedar_writer.specs.Rules.{Rule, never, inner, put, token, then, either, star, tail, deeper, lifted, fork, peek}
use Rattle.cedar_writer.specs.Languages.{Lang, ◌⋄◌, ◌∪◌, Many, no_more, one_more, Put, Token, Deeper, Lifted, looks, means}
use Rattle.cedar_writer.specs.Writing.{nullable}
use Rattle.cedar_writer.proofs.Tests.{decided}
use Rattle.cedar_writer.proofs.Complete.{Starts, means_begun}
use Rattle.cedar_writer.proofs.Bones.{bones, plain, texts, seq}

abbrev pub Trees : Type 1
Trees = Forest Label (List ℕ) → Type 0

pub record Some (X : Forest Label (List ℕ) → Type 0) (Y : List Decorated → List Mark
    → Type 0) : Type 0 where
  pub row : (f : Forest Label (List ℕ)) → X f → (ts : List Decorated) → texts ts ≡ yield f
      → (ms : List Mark) × Y ts ms

none_left : (ts : List Decorated) → texts ts ≡ [] → ts ≡ []
none_left [] e = refl
none_left (t ∷ ts) e = absurd cc

then_some : {X X' : Trees} {Y Y' : Lang} → Some X Y → Some X' Y' → Some (X ⊙ X') (Y ⋄ Y')
then_some x x' = record {
  row = λ f (g, h, e, y, z) ts s.
      (let c = parts ts f g h e s in
      let a = x.row g y c.0 c.3 in
      let b = x'.row h z c.1 c.4 in
      (a.0 ++ b.0, (c.0, c.1, a.0, b.0, c.2, refl, a.1, b.1)));
}

either_some : {X X' : Trees} {Y Y' : Lang} → Some X Y → Some X' Y' → Some (X ⊕ X') (Y ∪ Y')
either_some x x' = record {
  row = λ f y ts s. elim y [
    | inl z ↦ (let a = x.row f z ts s in (a.0, inl a.1))
    | inr z ↦ (let a = x'.row f z ts s in (a.0, inr a.1))
  ];
}

put_some : (ms : List Mark) → Some T.Empty (Put ms)
put_some ms = record { row = λ f e ts s. (ms, (none_left ts (s ∙ ap yield e), refl)) }

token_some : (p : Kind → Bool) (v n : List Mark) → Some (T.Of kind_of p) (Token p v n)
token_some p v n = record { row = λ f (a, e, h) ts s. one ts a h (s ∙ ap yield e) }
  where
    one : (ts : List Decorated) (a : List ℕ) → IsTrue (p (kind_of a)) → texts ts ≡ a ∷ []
        → (ms : List Mark) × Token p v n ts ms
    one [] a h e = absurd cc
    one (t ∷ []) a h e = let b : a ≡ t.text = cc in (
      marks_of t v n,
      (t, refl, refl, subst (λ z. IsTrue (p (kind_of z))) b h),
    )
    one (t ∷ (u ∷ ts)) a h e = absurd cc

many_some : (X : Trees) (Y : Lang) → Some X Y → (f : Forest Label (List ℕ)) → T.Many X f
    → (ts : List Decorated) → texts ts ≡ yield f
    → (ms : List Mark) × Many Y ts ms
many_some X Y x f (T.no_more _ h) ts s = (
  [],
  subst (λ z. Many Y z [])
      (sym (none_left ts (s ∙ ap yield h))) no_more,
)
many_some X Y x f (T.one_more _ g h e y m) ts s =
    let c = parts ts f g h e s in
    let a = x.row g y c.0 c.3 in
    let b = many_some X Y x h m c.1 c.4 in
    (a.0 ++ b.0, subst (λ z. Many Y z (a.0 ++ b.0)) (sym c.2) (one_more c.0 c.1 a.0 b.0 a.1 b.1))

-- a token and one more turn, in front of the end
again : (Y W : Lang) (p : Kind → Bool) (ts us vs : List Decorated) (e f : List Mark) → ts ≡ us ++ vs
    → (Token p [] [] ⋄ Y) us e
    → (Many (Token p [] [] ⋄ Y) ⋄ W) vs f → (ms : List Mark) × (Many (Token p [] [] ⋄ Y) ⋄ W) ts ms
again Y W p ts us vs e f s y (us', vs', e', f', s', c', m, w) = (
  e ++ (e' ++ f'),
  (
    us ++ us',
    vs',
    e ++ e',
    f',
    s ∙ (ap (λ z. us ++ z) s' ∙ sym (append_assoc us us' vs')),
    sym (append_assoc e e' f'),
    one_more us us' e e' y m,
    w,
  ),
)

tail_some : (s : Kind) (X Y Z : Trees) (U V W : Lang) → Some X U → Some Y V → Some Z W → (n : ℕ)
    → (f : Forest Label (List ℕ))
    → M.TailTo kind_of s X Y Z n f → (ts : List Decorated) → texts ts ≡ yield f
    → (ms : List Mark) × (Many (Token (is s) [] [] ⋄ U) ⋄ (Token (is s) [] [] ⋄ V ∪ W)) ts ms
tail_some s X Y Z U V W x y z zero f t ts e =
    let a = z.row f t ts e in (a.0, ([], ts, [], a.0, refl, refl, no_more, inr a.1))
tail_some s X Y Z U V W x y z (suc n) f (inr t) ts e =
    let a = z.row f t ts e in (a.0, ([], ts, [], a.0, refl, refl, no_more, inr a.1))
tail_some s X Y Z U V W x y z (suc n) f (inl (g, h, j, o, inr t)) ts e =
    let a = (then_some (token_some (is s) [] []) y).row f (g, h, j, o, t) ts e in
    (a.0, ([], ts, [], a.0, refl, refl, no_more, inl a.1))
tail_some s X Y Z U V W x y z (suc n) f (inl (g, h, j, o, inl (g', h', j', t, r))) ts e =
    let c = parts ts f g h j e in
    let d = parts c.1 h g' h' j' c.4 in
    let a = (token_some (is s) [] []).row g o c.0 c.3 in
    let b = x.row g' t d.0 d.3 in
    let w = tail_some s X Y Z U V W x y z n h' r d.1 d.4 in
    again U (Token (is s) [] [] ⋄ V ∪ W) (is s) ts (c.0 ++ d.0) d.1 (a.0 ++ b.0) w.0
    (c.2 ∙ (ap (λ q. c.0 ++ q) d.2 ∙ sym (append_assoc c.0 d.0 d.1)))
    (c.0, d.0, a.0, b.0, refl, refl, a.1, b.1) w.1

deeper_some : (room : Bool) (k : Kind) (ms : List Mark) {X : Trees} {Y : Lang} → Some X Y
    → Some (M.Nested kind_of room k X) (Deeper room (Put ms ⋄ Token (is k) [] [] ⋄ Y))
deeper_some room k ms x = record {
  row = λ f (r, y) ts s. (let a = (then_some (token_some (is k) [] []) x).row f y ts s in
      (ms ++ a.0, (r, ([], ts, ms, a.0, refl, refl, (refl, refl), a.1))));
}

lifted_some : (X : Trees) (Y : Lang) → ((ms : List Mark) → Y [] ms → ⊥) → Some X Y
    → Some X (Lifted Y)
lifted_some X Y full x = record { row = go }
  where
    go : (f : Forest Label (List ℕ)) → X f → (ts : List Decorated) → texts ts ≡ yield f
        → (ms : List Mark) × Lifted Y ts ms
    go f y [] s = let a = x.row f y [] s in absurd (full a.0 a.1)
    go f y (t ∷ ts) s = let a = x.row f y (bare_token t ∷ ts) s in
        (lead_of t.leading ++ a.0, (t, ts, a.0, refl, refl, a.1))

module _ (room : Bool) (X : Trees) (Y : Lang) (inside : Some X Y) (b : Starts Y false expr_first)
  where
    abbrev Bare : Rule → Trees
    Bare R = M.means kind_of room X (bones R)

    no_empty_row : (a : Rule) → IsTrue (decided a) → IsTrue (not (nullable a)) → (ms : List Mark)
        → means room Y a [] ms → ⊥
    no_empty_row a h n ms y = both_ways (nullable a) (not-true (nullable a) n)
        (means_begun room Y b a h [] ms y)

    -- after a rule that reads nothing
    after_nothing : {Z : Trees} {U W : Lang} → Some T.Empty U → Some Z W → Some Z (U ⋄ W)
    after_nothing u z = record {
      row = λ f y ts s. (let a = u.row none refl [] refl in let b = z.row f y ts s in
          (a.0 ++ b.0, ([], ts, a.0, b.0, refl, refl, a.1, b.1)));
    }

    pub seq_some : (x y : G.Rule) (U W : Lang) → Some (M.means kind_of room X x) U
        → Some (M.means kind_of room X y) W
        → Some (M.means kind_of room X (seq x y)) (U ⋄ W)
    seq_some G.empty y U W u w = after_nothing u w
    seq_some G.never y U W u w = then_some u w
    seq_some G.inner y U W u w = then_some u w
    seq_some (G.leaf_of p) y U W u w = then_some u w
    seq_some (G.nested k a) y U W u w = then_some u w
    seq_some (G.then a b) y U W u w = then_some u w
    seq_some (G.either a b) y U W u w = then_some u w
    seq_some (G.star a) y U W u w = then_some u w
    seq_some (G.tail k a b c) y U W u w = then_some u w
    seq_some (G.node l a) y U W u w = then_some u w
    seq_some (G.shaped a) y U W u w = then_some u w
    seq_some (G.items a) y U W u w = then_some u w
    seq_some G.entity y U W u w = then_some u w
    seq_some (G.reference a) y U W u w = then_some u w

    pub rule_some : (R : Rule) → IsTrue (decided R) → IsTrue (plain R)
        → Some (Bare R) (means room Y R)
    rule_some never h p = record { row = λ f y ts s. absurd y }
    rule_some inner h p = inside
    rule_some (put ms) h p = put_some ms
    rule_some (token q v n) h p = token_some q v n
    rule_some (then a c) h p = seq_some (bones a) (bones c) (means room Y a) (means room Y c)
        (rule_some a (and_first (decided a) _ h) (and_first (plain a) _ p))
        (rule_some c (and_first (decided c) _ (and_second (decided a) _ h))
        (and_second (plain a) _ p))
    rule_some (either a c) h p = either_some (rule_some a (and_first (decided a) _ h)
        (and_first (plain a) _ p))
        (rule_some c (and_first (decided c) _ (and_second (decided a) _ h))
        (and_second (plain a) _ p))
    rule_some (star a) h p = record {
      row = many_some (Bare a) (means room Y a)
          (rule_some a (and_first (decided a) _ h) p);
    }
    rule_some (tail s x y z) h p =
        let hy = and_second (decided x) _ h in
        let hz = and_second (decided y) _ hy in
        let py = and_second (plain x) _ p in
        record {
          row = λ f (n, t) ts e. tail_some s (Bare x) (Bare y) (Bare z) (means room Y x)
              (means room Y y) (means room Y z)
              (rule_some x (and_first (decided x) _ h) (and_first (plain x) _ p))
              (rule_some y (and_first (decided y) _ hy) (and_first (plain y) _ py))
              (rule_some z (and_first (decided z) _ hz) (and_second (plain y) _ py)) n f t ts e;
        }
    rule_some (deeper k ms a) h p = deeper_some room k ms (rule_some a h p)
    rule_some (lifted a) h p =
        let da = and_first (decided a) _ h in
        lifted_some (Bare a) (means room Y a) (no_empty_row a da (and_second (decided a) _ h))
        (rule_some a da p)
    rule_some (fork q m n a c) h p =
        let x = rule_some a (and_first (decided a) _ h) (and_first (plain a) _ p) in
        let y = rule_some c (and_first (decided c) _ (and_second (decided a) _ h))
        (and_second (plain a) _ p) in
        record {
          row = λ f (g, i, e, o, t) ts s. elim t [
            | inl u ↦ (let r = (then_some (token_some q [] m) x).row f (g, i, e, o, u) ts s in
                (r.0, inl r.1))
            | inr u ↦ (let r = (then_some (token_some q [] n) y).row f (g, i, e, o, u) ts s in
                (r.0, inr r.1))
          ];
        }
    rule_some (peek q a c) h p = absurd cc

    pub peek_some : (q : List (Kind → Bool)) (a c : Rule) → bones a ≡ bones c → IsTrue (decided a)
        → IsTrue (plain a) → IsTrue (decided c) → IsTrue (plain c)
        → Some (Bare c) (means room Y (peek q a c))
    peek_some q a c e da pa dc pc = record { row = λ f y ts s. go f y ts s (looks q ts) refl }
      where
        x : Some (Bare c) (means room Y a)
        x = subst (λ z. Some (M.means kind_of room X z) (means room Y a)) e (rule_some a da pa)

        go : (f : Forest Label (List ℕ)) → Bare c f → (ts : List Decorated) → texts ts ≡ yield f
            → (b' : Bool) → looks q ts ≡ b'
            → (ms : List Mark) × means room Y (peek q a c) ts ms
        go f y ts s true h = let r = x.row f y ts s in (r.0, inl (h, r.1))
        go f y ts s false h = let r = (rule_some c dc pc).row f y ts s in (r.0, inr (h, r.1))
