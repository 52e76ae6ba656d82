-- Readers by depth: from their laws the exact place and kind of each refusal.
use Rattle.std.specs.Prelude.{◌≡◌, ℕ, zero, suc, ◌+◌, ◌<◌, Bool, true, false, List, [], ◌∷◌, ◌++◌, length, IsTrue}
use Rattle.std.proofs.Common.{refl, sym, ap, ◌∙◌, arith, append_assoc, append-nil, zero-add, suc-add, length-append, subst}
use Rattle.cedar_grammar.specs.Trees.{Label, Forest, yield}
use Rattle.cedar_grammar.specs.Languages.{Lang}
use Rattle.cedar_grammar.specs.Reader.Reading.{Answer, Reader, done, stuck}
use Rattle.cedar_grammar.proofs.Readers.Languages.{Sound}
use Rattle.cedar_grammar.proofs.Readers.Places.{Local}
use Rattle.cedar_grammar.proofs.Readers.Ends.{Completed, Completes, Inhabited, halt_whole}
use Rattle.cedar_grammar.proofs.Readers.Depths.{Deeper, Beyond}
use Rattle.std.proofs.lemmas.List.{append_cancel_right}

-- of two cuts of a list, the one that leaves less takes at least one more token
longer : {A : Type 0} → (x y : List A) (a : A) (r s : List A) → x ++ (a ∷ r) ≡ y ++ s
    → length s < length (a ∷ r) → (e : List A) × (y ≡ x ++ (a ∷ e))
longer [] [] a r s h k = let z = ap length h in absurd (omega (arith, z))
longer [] (b ∷ y) a r s h k = let z : b ≡ a = cc in (y, ap (λ c. c ∷ y) z)
longer (b ∷ x) [] a r s h k =
    let z = ap length h in
    let w = length-append x (a ∷ r) in
    absurd (omega (arith, z, w))
longer (b ∷ x) (c ∷ y) a r s h k =
    let z : x ++ (a ∷ r) ≡ y ++ s = cc in
    let w : b ≡ c = cc in
    let i = longer x y a r s z k in
    (i.0, ap (λ u. u ∷ y) (sym w) ∙ ap (λ u. b ∷ u) i.1)

module _ {A : Type 0} (P : ℕ → Reader A) (X : ℕ → Lang A) where
  -- the tokens are a list of the language at depth d
  abbrev pub IsList : ℕ → List A → Type 0
  IsList d ts = (f : Forest Label A) × X d f × (yield f ≡ ts)

  -- some list of the language at depth d begins with these tokens
  abbrev pub Starts : ℕ → List A → Type 0
  Starts d front = (rest : List A) × IsList d (front ++ rest)

  pub record Laws : Type 0 where
    pub sound : (d : ℕ) → Sound (P d) (X d)
    pub complete : (d : ℕ) (f : Forest Label A) → X d f → P d (yield f) ≡ done f []
    pub local : (d : ℕ) → Local (P d)
    pub completes : (d : ℕ) → Completes (P d) (X d)
    pub some_tree : (d : ℕ) → Inhabited (X d)
    pub deeper : (d : ℕ) → Deeper (P d) (P (suc d))

  module _ (laws : Laws) where
    -- more depth, more lists
    pub deeper_still : (n d : ℕ) (ts : List A) (f : Forest Label A) (r : List A) → P d ts ≡ done f r
        → P (n + d) ts ≡ done f r
    deeper_still zero d ts f r e = ap (λ k. P k ts) (zero-add d) ∙ e
    deeper_still (suc n) d ts f r e = ap (λ k. P k ts) (suc-add n d)
        ∙ (laws.deeper (n + d) ts).success f r (deeper_still n d ts f r e)

    plain_for_ever : (n d : ℕ) (ts r : List A) → P d ts ≡ stuck false r
        → P (n + d) ts ≡ stuck false r
    plain_for_ever zero d ts r e = ap (λ k. P k ts) (zero-add d) ∙ e
    plain_for_ever (suc n) d ts r e = ap (λ k. P k ts) (suc-add n d)
        ∙ (laws.deeper (n + d) ts).plain r (plain_for_ever n d ts r e)

    pub list_deeper : (n d : ℕ) (ts : List A) → IsList d ts → IsList (n + d) ts
    list_deeper n d ts (f, x, e) =
        let a = deeper_still n d (yield f) f [] (laws.complete d f x) in
        (f, (laws.sound (n + d) (yield f) f [] a).among, e)

    no_list_fails : (d : ℕ) (front : List A) (a : A) (r : List A) (b : Bool)
        → P d (front ++ (a ∷ r)) ≡ stuck b (a ∷ r) → Starts d (front ++ (a ∷ [])) → ⊥
    no_list_fails d front a r b e (rest, (f, x, y)) =
        let k = (laws.local d).failure (front ++ (a ∷ r)) b (a ∷ r) e in
        let same : k.front ≡ front = append_cancel_right k.front front (a ∷ r) (sym k.tokens) in
        let p = k.again (a ∷ rest)
        (record { first = a; left = r; right = rest; on_left = refl; on_right = refl }) in
        let q = laws.complete d f x in
        let z : yield f ≡ k.front ++ (a ∷ rest) =
        y ∙ append_assoc front (a ∷ []) rest ∙ ap (λ u. u ++ (a ∷ rest)) (sym same) in
        let w : done f [] ≡ stuck b (a ∷ rest) = sym q ∙ ap (P d) z ∙ p in
        cc

    no_list_after : (d : ℕ) (f : Forest Label A) (a : A) (r : List A)
        → P d (yield f ++ (a ∷ r)) ≡ done f (a ∷ r) → Starts d (yield f ++ (a ∷ [])) → ⊥
    no_list_after d f a r e (rest, (g, x, y)) =
        let k = (laws.local d).success (yield f ++ (a ∷ r)) f (a ∷ r) e in
        let p = k.again (a ∷ rest)
        (record { first = a; left = r; right = rest; on_left = refl; on_right = refl }) in
        let q = laws.complete d g x in
        let w : done g [] ≡ done f (a ∷ rest) =
        sym q ∙ ap (P d) (y ∙ append_assoc (yield f) (a ∷ []) rest) ∙ p in
        let z : ◌≡◌ {A = List A} [] (a ∷ rest) = cc in
        cc

    of_completed : (d : ℕ) (front : List A) → Completed (X d) front → Starts d front
    of_completed d front c = (c.rest, (c.trees, c.among, c.leaves))

    -- What precedes the place of a failure begins a list.
    pub viable : (d : ℕ) (ts : List A) (b : Bool) (r : List A) → P d ts ≡ stuck b r
        → (front : List A) × (ts ≡ front ++ r) × Starts d front
    viable d ts b r e =
        let h = halt_whole (X d) (laws.some_tree d) ts r (laws.completes d ts b r e) in
        (h.0, h.1, of_completed d h.0 h.2)

    shorten : (d : ℕ) (x front : List A) (a : A) (e : List A) → x ≡ front ++ (a ∷ e) → Starts d x
        → Starts d (front ++ (a ∷ []))
    shorten d x front a e h (rest, (f, y, l)) = (
      e ++ rest,
      (
        f,
        y,
        l ∙ ap (λ z. z ++ rest) h ∙ append_assoc front (a ∷ e) rest
            ∙ sym (append_assoc front (a ∷ []) (e ++ rest)),
      ),
    )

    deep_is_viable : (d : ℕ) (front : List A) (a : A) (r : List A)
        → P d (front ++ (a ∷ r)) ≡ stuck true (a ∷ r) → Starts (suc d) (front ++ (a ∷ []))
    deep_is_viable d front a r e =
        go (P (suc d) (front ++ (a ∷ r))) refl ((laws.deeper d (front ++ (a ∷ r))).deep (a ∷ r) e)
      where
        go : (x : Answer A) → P (suc d) (front ++ (a ∷ r)) ≡ x
            → Beyond (P (suc d) (front ++ (a ∷ r))) (length (a ∷ r))
            → Starts (suc d) (front ++ (a ∷ []))
        go (done f s) h b =
            let k = laws.sound (suc d) (front ++ (a ∷ r)) f s h in
            let less : length s < length (a ∷ r) = subst (λ x. Beyond x (length (a ∷ r))) h b in
            let i = longer front (yield f) a r s k.tokens less in
            shorten (suc d) (yield f) front a i.0 i.1 ([], (f, k.among, sym (append-nil (yield f))))
        go (stuck c s) h b =
            let k = viable (suc d) (front ++ (a ∷ r)) c s h in
            let less : length s < length (a ∷ r) = subst (λ x. Beyond x (length (a ∷ r))) h b in
            let i = longer front k.0 a r s k.1 less in
            shorten (suc d) k.0 front a i.0 i.1 k.2

    at_most : (d e : ℕ) (front : List A) → Starts e front
        → Starts (e + d) front × Starts (d + e) front
    at_most d e front (rest, l) =
        let x = list_deeper d e (front ++ rest) l in
        let c : d + e ≡ e + d = omega arith in
        ((rest, subst (λ k. IsList k (front ++ rest)) c x), (rest, x))

    -- The first token through which no list of depth d begins, and whether more depth would help.
    pub record HopelessAt (d : ℕ) (ts front : List A) (a : A) (r : List A)
        (deep : Bool) : Type 0 where
      pub split : ts ≡ front ++ (a ∷ r)
      pub before : Starts d front
      pub through : ¬ (Starts d (front ++ (a ∷ [])))
      pub more_depth : IsTrue deep → (e : ℕ) × Starts e (front ++ (a ∷ []))
      pub no_depth : deep ≡ false → (e : ℕ) → ¬ (Starts e (front ++ (a ∷ [])))

    pub refused : (d : ℕ) (ts : List A) (b : Bool) (a : A) (r : List A) → P d ts ≡ stuck b (a ∷ r)
        → (front : List A) × HopelessAt d ts front a r b
    refused d ts b a r e =
        let v = viable d ts b (a ∷ r) e in
        let h : P d (v.0 ++ (a ∷ r)) ≡ stuck b (a ∷ r) = ap (P d) (sym v.1) ∙ e in (
          v.0,
          record {
            split = v.1;
            before = v.2;
            through = no_list_fails d v.0 a r b h;
            more_depth =
                λ deep. (suc d, deep_is_viable d v.0 a r (h ∙ ap (λ z. stuck z (a ∷ r)) deep));
            no_depth = λ plain e s.
                no_list_fails (e + d) v.0 a r false (plain_for_ever e d (v.0 ++ (a ∷ r)) (a ∷ r)
                (h ∙ ap (λ z. stuck z (a ∷ r)) plain)) (at_most d e (v.0 ++ (a ∷ [])) s).0;
          },
        )

    pub left_over : (d : ℕ) (ts : List A) (f : Forest Label A) (a : A) (r : List A)
        → P d ts ≡ done f (a ∷ r) → (front : List A) × HopelessAt d ts front a r false
    left_over d ts f a r e =
        let k = laws.sound d ts f (a ∷ r) e in
        let h : P d (yield f ++ (a ∷ r)) ≡ done f (a ∷ r) = ap (P d) (sym k.tokens) ∙ e in (
          yield f,
          record {
            split = k.tokens;
            before = ([], (f, k.among, sym (append-nil (yield f))));
            through = no_list_after d f a r h;
            more_depth = λ deep. absurd cc;
            no_depth = λ plain e s. no_list_after (e + d) f a r (deeper_still e d
                (yield f ++ (a ∷ r)) f (a ∷ r) h) (at_most d e (yield f ++ (a ∷ [])) s).0;
          },
        )

    -- the list could go on, but is not complete
    pub unfinished : (d : ℕ) (ts : List A) (b : Bool) → P d ts ≡ stuck b []
        → Starts d ts × ¬ (IsList d ts)
    unfinished d ts b e =
        let v = viable d ts b [] e in
        let same : ts ≡ v.0 = v.1 ∙ append-nil v.0 in (
          subst (Starts d) (sym same) v.2,
          λ (f, x, y). let q = laws.complete d f x in
              let w : done f [] ≡ stuck b [] = sym q ∙ ap (P d) y ∙ e in
              cc,
        )
