-- With more room a rule's reader does the same,
-- except that it goes on where it failed only by depth.
use Rattle.std.specs.Prelude.{◌≡◌, ℕ, zero, suc, Bool, true, false, IsTrue, List, length}
use Rattle.std.proofs.Common.{refl, sym, ◌∙◌, subst}
use Rattle.std.proofs.lemmas.Bool.{both_ways, true_from_ne_false}
use Rattle.cedar_tokens.specs.declared.kind.Kind.{Kind}
use Rattle.cedar_tokens.specs.Kinds.{is, begins}
use Rattle.cedar_grammar.specs.Reader.Reading.{Answer, Reader, done, stuck, choice, both, skip, many, one}
use Rattle.cedar_grammar.specs.Reader.Rules.{Rule, never, empty, inner, leaf_of, nested, then, either, star, tail, node, shaped, first, refuse, shaped_at, tail_to, tailed, nested_at, read}
use Rattle.cedar_grammar.proofs.Rules.Meanings.{decided, covered}
use Rattle.cedar_grammar.proofs.Readers.Places.{Local, LooksAhead, skip_local, both_local, choice_local, begins_looks}
use Rattle.cedar_grammar.proofs.Readers.Depths.{Deeper, DeeperAt, Beyond, both_deeper, tree_deeper, choice_deeper, nest_opens, nest_stays, repeat_deeper, token_deeper, opening_beyond}
use Rattle.cedar_grammar.proofs.Rules.Languages.{shaped_done, shaped_fails}
use Rattle.cedar_grammar.proofs.Rules.Places.{tail_to_local}
use Rattle.cedar_grammar.proofs.Booleans.{and_first, and_second}

module _ {A : Type 0} where
  refuse_deeper : Deeper refuse (refuse {A = A})
  refuse_deeper ts = record { success = λ f r e. e; plain = λ r e. e; deep = λ r e. absurd cc }

  skip_deeper : Deeper skip (skip {A = A})
  skip_deeper ts =
      record { success = λ f r e. e; plain = λ r e. absurd cc; deep = λ r e. absurd cc }

  many_local : (t : List A → Bool) (P : Reader A) → LooksAhead t → Local P → (n : ℕ)
      → Local (many t P n)
  unfolding many
  many_local t P look p zero = skip_local
  many_local t P look p (suc n) = choice_local t (both P (many t P n)) skip look
      (both_local P (many t P n) p (many_local t P look p n)) skip_local

  shaped_beyond : (P : Reader A) (ts : List A) (n : ℕ) → Beyond (P ts) n → Beyond (shaped_at P ts) n
  shaped_beyond P ts n h = go (P ts) refl h
    where
      go : (a : Answer A) → P ts ≡ a → Beyond (P ts) n → Beyond (shaped_at P ts) n
      go (done g s) d h =
          subst (λ x. Beyond x n) (sym (shaped_done P ts g s d)) (subst (λ x. Beyond x n) d h)
      go (stuck c s) d h =
          subst (λ x. Beyond x n) (sym (shaped_fails P ts c s d)) (subst (λ x. Beyond x n) d h)

  shaped_deeper : (P Q : Reader A) (ts : List A) → DeeperAt P Q ts
      → DeeperAt (shaped_at P) (shaped_at Q) ts
  shaped_deeper P Q ts p = go (P ts) refl
    where
      go : (a : Answer A) → P ts ≡ a → DeeperAt (shaped_at P) (shaped_at Q) ts
      go (done g s) d =
          let w = shaped_done P ts g s d in
          let w' = shaped_done Q ts g s (p.success g s d) in
          record {
            success = λ f r e. w' ∙ sym w ∙ e;
            plain = λ r e. absurd cc;
            deep = λ r e. absurd cc;
          }
      go (stuck false s) d =
          let w = shaped_fails P ts false s d in
          let w' = shaped_fails Q ts false s (p.plain s d) in
          record {
            success = λ f r e. absurd cc;
            plain = λ r e. w' ∙ sym w ∙ e;
            deep = λ r e. absurd cc;
          }
      go (stuck true s) d =
          let w = shaped_fails P ts true s d in
          record {
            success = λ f r e. absurd cc;
            plain = λ r e. absurd cc;
            deep = λ r e. let same : s ≡ r = cc in shaped_beyond Q ts (length r)
                (subst (λ x. Beyond (Q ts) (length x)) same (p.deep s d));
          }

module _ {A : Type 0} (kind : A → Kind) where
  module _ (s : Kind) (u : Kind → Bool) (P Q R P' Q' R' : Reader A) (p : Deeper P P')
      (q : Deeper Q Q') (r : Deeper R R') (lp : Local P') (lq : Local Q') (lr : Local R') where
    tail_deeper : (n : ℕ) → Deeper (tail_to kind s u P Q R n) (tail_to kind s u P' Q' R' n)
    tail_deeper zero = r
    tail_deeper (suc n) = choice_deeper (begins kind (is s)) _ R _ R'
        (λ ts _. both_deeper (one kind s) (λ rs. choice (begins kind u rs)
        (both P (tail_to kind s u P Q R n)) Q rs) (one kind s) (λ rs. choice (begins kind u rs)
        (both P' (tail_to kind s u P' Q' R' n)) Q' rs) (token_deeper kind (is s))
        (choice_deeper (begins kind u) _ Q _ Q'
        (λ ts _. both_deeper P (tail_to kind s u P Q R n) P' (tail_to kind s u P' Q' R' n) p
        (tail_deeper n) (tail_to_local kind s u P' Q' R' lp lq lr n) ts) q)
        (choice_local (begins kind u) _ Q' (begins_looks kind u)
        (both_local P' _ lp (tail_to_local kind s u P' Q' R' lp lq lr n)) lq) ts) r

    tailed_deeper : Deeper (tailed kind s u P Q R) (tailed kind s u P' Q' R')
    unfolding tailed
    tailed_deeper ts =
        let x = tail_deeper (suc (length ts)) ts in
        record { success = x.success; plain = x.plain; deep = x.deep }

  nested_deeper : (room : Bool) (k : Kind) (P Q : Reader A) → (room ≡ true → Deeper P Q) → Local Q
      → Deeper (nested_at kind room k P) (nested_at kind true k Q)
  nested_deeper true k P Q p l =
      choice_deeper (begins kind (is k)) _ refuse _ refuse (λ ts _. nest_stays _ _ ts (both_deeper
      (one kind k) P (one kind k) Q (token_deeper kind (is k)) (p refl) l ts)) refuse_deeper
  nested_deeper false k P Q p l = choice_deeper (begins kind (is k)) _ refuse _ refuse
      (λ ts h. nest_opens _ _ ts (opening_beyond kind (is k) Q l ts h)) refuse_deeper

  -- where there is room for both, or for the second alone
  module _ (room : Bool) (E F : Reader A)
      (local' : (R : Rule) → IsTrue (decided R) → Local (read kind true F R))
      (p : room ≡ true → Deeper E F) where
    pub read_deeper : (R : Rule) → IsTrue (decided R) → (room ≡ false → IsTrue (covered R))
        → Deeper (read kind room E R) (read kind true F R)
    read_deeper never d c = refuse_deeper
    read_deeper empty d c = skip_deeper
    read_deeper inner d c = p (true_from_ne_false room (λ e. both_ways false refl (c e)))
    read_deeper (leaf_of q) d c = token_deeper kind q
    read_deeper (nested k a) d c = nested_deeper room k (read kind room E a) (read kind true F a)
        (λ e. read_deeper a d (λ n. absurd (both_ways room n e))) (local' a d)
    read_deeper (then a b) d c =
        let e = and_first (decided b) _ (and_second (decided a) _ d) in
        both_deeper (read kind room E a) (read kind room E b) (read kind true F a) (read kind true F
        b) (read_deeper a (and_first (decided a) _ d) (λ n. and_first (covered a) _ (c n)))
        (read_deeper b e (λ n. and_second (covered a) _ (c n))) (local' b e)
    read_deeper (either a b) d c = choice_deeper (begins kind (first a)) (read kind room E a)
        (read kind room E b) (read kind true F a) (read kind true F b)
        (λ ts _. read_deeper a (and_first (decided a) _ d) (λ n. and_first (covered a) _ (c n)) ts)
        (read_deeper b (and_first (decided b) _ (and_second (decided a) _ d))
        (λ n. and_second (covered a) _ (c n)))
    read_deeper (star a) d c =
        let e = and_first (decided a) _ d in
        repeat_deeper (begins kind (first a)) (read kind room E a) (read kind true F a)
        (read_deeper a e c) (many_local (begins kind (first a)) (read kind true F a)
        (begins_looks kind (first a)) (local' a e))
    read_deeper (tail k x y z) d c =
        let dx = and_first (decided x) _ d in
        let d1 = and_second (decided x) _ d in
        let dy = and_first (decided y) _ d1 in
        let dz = and_first (decided z) _ (and_second (decided y) _ d1) in
        tailed_deeper k (first x) _ _ _ _ _ _
        (read_deeper x dx (λ n. and_first (covered x) _ (c n)))
        (read_deeper y dy (λ n. and_first (covered y) _ (and_second (covered x) _ (c n))))
        (read_deeper z dz (λ n. and_second (covered y) _ (and_second (covered x) _ (c n))))
        (local' x dx) (local' y dy) (local' z dz)
    read_deeper (node l a) d c =
        λ ts. tree_deeper l (read kind room E a) (read kind true F a) ts (read_deeper a d c ts)
    read_deeper (shaped a) d c =
        λ ts. shaped_deeper (read kind room E a) (read kind true F a) ts (read_deeper a d c ts)
    read_deeper R d c = refuse_deeper
