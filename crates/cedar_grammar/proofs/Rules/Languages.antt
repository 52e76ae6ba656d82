-- The laws of rules: a rule's reader reads only its language,
-- and all of its language where one token is enough.
use Rattle.std.specs.Prelude.{◌≡◌, ℕ, zero, suc, ◌<◌, ◌+◌, Bool, true, false, ◌||◌, ◌&&◌, not, IsTrue, List, [], ◌∷◌, ◌++◌, length}
use Rattle.std.proofs.Common.{refl, sym, ap, ◌∙◌, arith, inl, inr, append-nil, length-append, subst}
use Rattle.std.proofs.lemmas.Bool.{or_left, or_right, not-true, both_ways, false_from_ne_true}
use Rattle.cedar_grammar.proofs.KindSets.{apart, apart_at}
use Rattle.cedar_tokens.specs.declared.kind.Kind.{Kind}
use Rattle.cedar_tokens.specs.Kinds.{is, begins}
use Rattle.cedar_grammar.specs.Reader.Sets.{joined}
use Rattle.cedar_grammar.specs.Trees.{Label, Forest, none, yield}
use Rattle.cedar_grammar.specs.Languages.{Lang, ◌⋄◌, ◌∪◌, Many, no_more, one_more, Empty, Branch}
use Rattle.cedar_grammar.specs.KindGrammar.{One}
use Rattle.cedar_grammar.specs.Reader.Reading.{Answer, Reader, done, stuck, after, choice, both, skip, nest, repeat, one}
use Rattle.cedar_grammar.specs.Reader.Regroup.{gather}
use Rattle.cedar_grammar.proofs.Rules.Regrouping.{gather_yield}
use Rattle.cedar_grammar.specs.Reader.Rules.{Rule, never, empty, inner, leaf_of, nested, then, either, star, tail, node, shaped, expr_first, nullable, first, refuse, shaped_at, tail_to, tailed, nested_at, read}
use Rattle.cedar_grammar.proofs.Rules.Meanings.{expr_clash, clash, decided, Shaped, TailTo, Tail, Nested, means}
use Rattle.cedar_grammar.proofs.Readers.Equations.{choice_yes, Takes, Keeps}
use Rattle.cedar_grammar.proofs.Readers.Languages.{IsRead, Sound, Complete, sound_more, both_sound, both_complete, tree_sound, tree_complete, choice_sound, choice_complete, nest_sound, nest_complete, repeat_sound, repeat_complete, token_sound, token_complete, yield_join}
use Rattle.cedar_grammar.proofs.Booleans.{and_first, and_second, neither_first, neither_second}

module _ {A : Type 0} where
  pub refuse_sound : (X : Lang A) → Sound refuse X
  refuse_sound X ts f r e = absurd cc

  pub skip_sound : Sound skip (Empty {A = A})
  skip_sound ts f r e =
      let a : none ≡ f = cc in
      let b : ts ≡ r = cc in
      record { among = sym a; tokens = b ∙ ap (λ z. yield z ++ r) a }

  pub shaped_done : (P : Reader A) (ts : List A) (f : Forest Label A) (r : List A) → P ts ≡ done f r
      → shaped_at P ts ≡ done (gather none f) r
  shaped_done P ts f r e = ap (λ (x : Answer A). after x (λ f r. done (gather none f) r)) e

  pub shaped_fails : (P : Reader A) (ts : List A) (b : Bool) (r : List A) → P ts ≡ stuck b r
      → shaped_at P ts ≡ stuck b r
  shaped_fails P ts b r e = ap (λ (x : Answer A). after x (λ f r. done (gather none f) r)) e

  shaped_sound : (P : Reader A) (X : Lang A) → Sound P X → Sound (shaped_at P) (Shaped X)
  shaped_sound P X p ts f r e = go (P ts) refl
    where
      go : (a : Answer A) → P ts ≡ a → IsRead (Shaped X) ts f r
      go (done g s) d =
          let w = shaped_done P ts g s d in
          let t : f ≡ gather none g = cc in
          let rest : s ≡ r = cc in
          let x = p ts g s d in
          record {
            among = (g, t, x.among);
            tokens = x.tokens ∙ ap (λ z. yield g ++ z) rest
                ∙ ap (λ z. z ++ r) (sym (gather_yield none g)) ∙ ap (λ z. yield z ++ r) (sym t);
          }
      go (stuck b s) d = let w = shaped_fails P ts b s d in absurd cc

  shaped_complete : (P : Reader A) (X : Lang A) (S : List A → Type 0) → Complete P X S
      → Complete (shaped_at P) (Shaped X) S
  shaped_complete P X S p f r (g, e, x) s =
      ap (λ z. shaped_at P (yield z ++ r)) e ∙ ap (λ z. shaped_at P (z ++ r)) (gather_yield none g)
      ∙ shaped_done P (yield g ++ r) g r (p g r x s) ∙ ap (λ z. done z r) (sym e)

module _ {A : Type 0} (kind : A → Kind) where
  -- The list is empty, where that is allowed, or begins with a token of the set.
  abbrev pub Begun : Bool → (Kind → Bool) → List A → Type 0
  Begun n p [] = IsTrue n
  Begun n p (a ∷ xs) = IsTrue (p (kind a))

  -- The list doesn't begin with a token of the set.
  abbrev pub Stop : (Kind → Bool) → List A → Type 0
  Stop p r = begins kind p r ≡ false

  begun_more : (n m : Bool) (p q : Kind → Bool) (xs : List A) → (IsTrue n → IsTrue m)
      → ((k : Kind) → IsTrue (p k) → IsTrue (q k)) → Begun n p xs → Begun m q xs
  begun_more n m p q [] h k b = h b
  begun_more n m p q (a ∷ xs) h k b = k (kind a) b

  joined_left : (b : Bool) (p q : Kind → Bool) (k : Kind) → IsTrue (p k) → IsTrue (joined b p q k)
  joined_left true p q k h = or_left (p k) (q k) h
  joined_left false p q k h = h

  joined_right : (b : Bool) (p q : Kind → Bool) (k : Kind) → IsTrue b → IsTrue (q k)
      → IsTrue (joined b p q k)
  joined_right true p q k e h = or_right (p k) (q k) h
  joined_right false p q k e h = absurd cc

  begun_append : (n m : Bool) (p q : Kind → Bool) (xs ys : List A) → Begun n p xs → Begun m q ys
      → Begun (n && m) (joined n p q) (xs ++ ys)
  begun_append n m p q [] [] h k = rw (h, k) refl
  begun_append n m p q [] (a ∷ ys) h k = joined_right n p q (kind a) h k
  begun_append n m p q (a ∷ xs) ys h k = joined_left n p q (kind a) h

  begun_front : (n m : Bool) (p : Kind → Bool) (xs ys : List A) → n ≡ false → Begun n p xs
      → Begun m p (xs ++ ys)
  begun_front n m p [] ys e h = absurd cc
  begun_front n m p (a ∷ xs) ys e h = h

  begins_true : (n : Bool) (p : Kind → Bool) (xs r : List A) → n ≡ false → Begun n p xs
      → begins kind p (xs ++ r) ≡ true
  begins_true n p [] r e h = absurd cc
  begins_true n p (a ∷ xs) r e h = h

  -- what begins with another set, or is empty where what follows does not begin with this one
  begins_false : (n : Bool) (p q : Kind → Bool) (xs r : List A) → Begun n p xs
      → ((k : Kind) → IsTrue (p k) → q k ≡ false) → (IsTrue n → Stop q r) → Stop q (xs ++ r)
  begins_false n p q [] r h k s = s h
  begins_false n p q (a ∷ xs) r h k s = k (kind a) h

  apart_back : (p q : Kind → Bool) → IsTrue (apart p q) → (k : Kind) → IsTrue (q k) → p k ≡ false
  apart_back p q h k i = false_from_ne_true (p k) (λ j. both_ways (q k) (apart_at p q h k j) i)

  stop_joined : (b : Bool) (p q : Kind → Bool) (r : List A) → Stop (joined b p q) r → Stop p r
  stop_joined true p q [] h = refl
  stop_joined true p q (a ∷ r) h = neither_first (p (kind a)) (q (kind a)) h
  stop_joined false p q r h = h

  stop_second : (b : Bool) (p q : Kind → Bool) (r : List A) → Stop (joined b p q) r → IsTrue b
      → Stop q r
  stop_second true p q [] h e = refl
  stop_second true p q (a ∷ r) h e = neither_second (p (kind a)) (q (kind a)) h
  stop_second false p q r h e = absurd cc

  stop_left : (p q : Kind → Bool) (r : List A) → Stop (λ k. p k || q k) r → Stop p r
  stop_left p q [] h = refl
  stop_left p q (a ∷ r) h = neither_first (p (kind a)) (q (kind a)) h

  stop_right : (p q : Kind → Bool) (r : List A) → Stop (λ k. p k || q k) r → Stop q r
  stop_right p q [] h = refl
  stop_right p q (a ∷ r) h = neither_second (p (kind a)) (q (kind a)) h

  pub takes_of : (P : Reader A) (X : Lang A) (n : Bool) (p : Kind → Bool) → n ≡ false → Sound P X
      → ((f : Forest Label A) → X f → Begun n p (yield f)) → Takes P
  takes_of P X n p e s h ts f r d = go (yield f) (s ts f r d).tokens (h f (s ts f r d).among)
    where
      go : (xs : List A) → ts ≡ xs ++ r → Begun n p xs → length r < length ts
      go [] t b = absurd cc
      go (a ∷ xs) t b = let x = ap length t ∙ ap suc (length-append xs r) in omega (arith, x)

  pub keeps_of : (P : Reader A) (X : Lang A) → Sound P X → Keeps P
  keeps_of P X s ts f r d =
      let x = ap length (s ts f r d).tokens ∙ length-append (yield f) r in omega (arith, x)

  complete_less : (P : Reader A) (X : Lang A) (S T : List A → Type 0) → ((r : List A) → T r → S r)
      → Complete P X S → Complete P X T
  complete_less P X S T h p f r x t = p f r x (h r t)

  pub nested_sound : (room : Bool) (k : Kind) (P : Reader A) (X : Lang A) → Sound P X
      → Sound (nested_at kind room k P) (Nested kind room k X)
  nested_sound room k P X p = choice_sound (begins kind (is k)) _ refuse (Nested kind room k X)
      (nest_sound room _ _ (λ _. both_sound _ _ _ _ (token_sound kind (is k)) p)) (refuse_sound _)

  pub tail_to_sound : (s : Kind) (u : Kind → Bool) (P Q R : Reader A) (X Y Z : Lang A) → Sound P X
      → Sound Q Y → Sound R Z → (n : ℕ) → Sound (tail_to kind s u P Q R n) (TailTo kind s X Y Z n)
  tail_to_sound s u P Q R X Y Z p q r zero = r
  tail_to_sound s u P Q R X Y Z p q r (suc n) =
      choice_sound (begins kind (is s)) _ R (TailTo kind s X Y Z (suc n))
      (sound_more _ (One kind s ⋄ (X ⋄ TailTo kind s X Y Z n ∪ Y)) (TailTo kind s X Y Z (suc n))
      (λ f x. inl x)
      (both_sound _ _ _ _ (token_sound kind (is s))
      (choice_sound (begins kind u) _ Q (X ⋄ TailTo kind s X Y Z n ∪ Y)
      (sound_more _ (X ⋄ TailTo kind s X Y Z n) (X ⋄ TailTo kind s X Y Z n ∪ Y) (λ f x. inl x)
      (both_sound P _ X _ p (tail_to_sound s u P Q R X Y Z p q r n)))
      (sound_more Q Y (X ⋄ TailTo kind s X Y Z n ∪ Y) (λ f x. inr x) q))))
      (sound_more R Z (TailTo kind s X Y Z (suc n)) (λ f x. inr x) r)

  tailed_sound : (s : Kind) (u : Kind → Bool) (P Q R : Reader A) (X Y Z : Lang A) → Sound P X
      → Sound Q Y → Sound R Z → Sound (tailed kind s u P Q R) (Tail kind s X Y Z)
  unfolding tailed
  tailed_sound s u P Q R X Y Z p q r ts f w e =
      let x = tail_to_sound s u P Q R X Y Z p q r (suc (length ts)) ts f w e in
      record { among = (suc (length ts), x.among); tokens = x.tokens }

  module _ (room : Bool) (E : Reader A) (X : Lang A) (s : Sound E X) where
    -- What is read is in the language.
    pub read_sound : (R : Rule) → Sound (read kind room E R) (means kind room X R)
    read_sound never = refuse_sound _
    read_sound empty = skip_sound
    read_sound inner = s
    read_sound (leaf_of p) = token_sound kind p
    read_sound (nested k a) = nested_sound room k _ _ (read_sound a)
    read_sound (then a b) = both_sound _ _ _ _ (read_sound a) (read_sound b)
    read_sound (either a b) =
        choice_sound (begins kind (first a)) _ _ (means kind room X a ∪ means kind room X b)
        (sound_more _ (means kind room X a) (means kind room X a ∪ means kind room X b)
        (λ f x. inl x) (read_sound a))
        (sound_more _ (means kind room X b) (means kind room X a ∪ means kind room X b)
        (λ f x. inr x) (read_sound b))
    read_sound (star a) = repeat_sound _ _ _ (read_sound a)
    read_sound (tail k x y z) =
        tailed_sound k (first x) _ _ _ _ _ _ (read_sound x) (read_sound y) (read_sound z)
    read_sound (node l a) = tree_sound l _ _ (read_sound a)
    read_sound (shaped a) = shaped_sound _ _ (read_sound a)
    read_sound R = refuse_sound _

  many_begun : (X : Lang A) (n : Bool) (p : Kind → Bool) → n ≡ false
      → ((f : Forest Label A) → X f → Begun n p (yield f)) → (f : Forest Label A) → Many X f
      → Begun true p (yield f)
  many_begun X n p e h f (no_more i d) = rw d refl
  many_begun X n p e h f (one_more i g k d x m) =
      rw (d, yield_join g k) (begun_front n true p (yield g) (yield k) e (h g x))

  tail_begun : (s : Kind) (X Y Z : Lang A) (m : Bool) (p : Kind → Bool)
      → ((f : Forest Label A) → Z f → Begun m p (yield f)) → (n : ℕ) (f : Forest Label A)
      → TailTo kind s X Y Z n f → Begun m (λ k. is s k || p k) (yield f)
  tail_begun s X Y Z m p h zero f x = begun_more m m p (λ k. is s k || p k) (yield f) (λ i. i)
      (λ k i. or_right (is s k) (p k) i) (h f x)
  tail_begun s X Y Z m p h (suc n) f (inl (g, i, e, (a, d, b), y)) =
      rw (e, d) (or_left (is s (kind a)) (p (kind a)) b)
  tail_begun s X Y Z m p h (suc n) f (inr x) = begun_more m m p (λ k. is s k || p k) (yield f)
      (λ i. i) (λ k i. or_right (is s k) (p k) i) (h f x)

  shaped_begun : (X : Lang A) (n : Bool) (p : Kind → Bool)
      → ((f : Forest Label A) → X f → Begun n p (yield f)) → (f : Forest Label A) → Shaped X f
      → Begun n p (yield f)
  shaped_begun X n p h f (g, e, x) = rw (e, gather_yield none g) (h g x)

  tree_begun : (l : Label) (X : Lang A) (n : Bool) (p : Kind → Bool)
      → ((f : Forest Label A) → X f → Begun n p (yield f)) → (f : Forest Label A) → Branch l X f
      → Begun n p (yield f)
  tree_begun l X n p h f (g, e, x) = rw (e, append-nil (yield g)) (h g x)

  module _ (room : Bool) (X : Lang A)
      (h : (f : Forest Label A) → X f → Begun false expr_first (yield f)) where
    -- What the lists of a rule begin with.
    pub means_begun : (R : Rule) → IsTrue (decided R) → (f : Forest Label A) → means kind room X R f
        → Begun (nullable R) (first R) (yield f)
    means_begun never d f x = absurd x
    means_begun empty d f x = rw x refl
    means_begun inner d f x = h f x
    means_begun (leaf_of p) d f (a, e, x) = rw e x
    means_begun (nested k r) d f (o, (g, i, e, (a, c, b), y)) = rw (e, c) b
    means_begun (then a b) d f (g, i, e, x, y) = rw (e, yield_join g i)
        (begun_append (nullable a) (nullable b) (first a) (first b) (yield g) (yield i)
        (means_begun a (and_first (decided a) _ d) g x)
        (means_begun b (and_first (decided b) _ (and_second (decided a) _ d)) i y))
    means_begun (either a b) d f (inl x) =
        let n = not-true (nullable a)
        (and_first (not (nullable a)) _ (and_second (decided b) _ (and_second (decided a) _ d))) in
        begun_more (nullable a) (nullable b) (first a) (λ k. first a k || first b k) (yield f)
        (λ i. absurd cc) (λ k i. or_left (first a k) (first b k) i)
        (means_begun a (and_first (decided a) _ d) f x)
    means_begun (either a b) d f (inr x) =
        begun_more (nullable b) (nullable b) (first b) (λ k. first a k || first b k) (yield f)
        (λ i. i) (λ k i. or_right (first a k) (first b k) i)
        (means_begun b (and_first (decided b) _ (and_second (decided a) _ d)) f x)
    means_begun (star a) d f x = many_begun (means kind room X a) (nullable a) (first a)
        (not-true (nullable a) (and_first (not (nullable a)) _ (and_second (decided a) _ d)))
        (λ f x. means_begun a (and_first (decided a) _ d) f x) f x
    means_begun (tail s a b c) d f (n, x) = tail_begun s (means kind room X a) (means kind room X b)
        (means kind room X c) (nullable c) (first c)
        (λ f x. means_begun c
        (and_first (decided c) _ (and_second (decided b) _ (and_second (decided a) _ d))) f x) n f x
    means_begun (node l a) d f x =
        tree_begun l (means kind room X a) (nullable a) (first a) (λ f x. means_begun a d f x) f x
    means_begun (shaped a) d f x =
        shaped_begun (means kind room X a) (nullable a) (first a) (λ f x. means_begun a d f x) f x
    means_begun R d f x = absurd cc

  skip_complete : (S : List A → Type 0) → Complete skip (Empty {A = A}) S
  skip_complete S f r e s = rw e refl

  nested_complete : (room : Bool) (k : Kind) (P : Reader A) (X : Lang A) (S : List A → Type 0)
      → Complete P X S → Complete (nested_at kind room k P) (Nested kind room k X) S
  nested_complete room k P X S p f r (o, (g, i, e, (a, c, b), y)) s =
      choice_yes (begins kind (is k) (yield f ++ r)) (nest room (both (one kind k) P)) refuse
      (yield f ++ r) (rw (e, c) b)
      ∙ nest_complete room (both (one kind k) P) (One kind k ⋄ X) S
      (λ _. both_complete (one kind k) P (One kind k) X (λ _. Unit {0}) S
      (token_complete kind (is k) _) p (λ _ _ _ _. tt)) f r (o, (g, i, e, (a, c, b), y)) s

  then_complete : (P Q : Reader A) (X Y : Lang A) (c d q : Kind → Bool) (n : Bool)
      → Complete P X (Stop c) → Complete Q Y (Stop d) → IsTrue (apart c q)
      → ((f : Forest Label A) → Y f → Begun n q (yield f))
      → Complete (both P Q) (X ⋄ Y) (Stop (joined n d c))
  then_complete P Q X Y c d q n p k away begun = both_complete P Q X Y (Stop c)
      (Stop (joined n d c)) p (complete_less Q Y (Stop d) _ (λ r s. stop_joined n d c r s) k)
      (λ g r y s. begins_false n q c (yield g) r (begun g y) (λ k i. apart_back c q away k i)
      (λ i. stop_second n d c r s i))

  either_complete : (P Q : Reader A) (X Y : Lang A) (c d p q : Kind → Bool) (m n : Bool)
      → Complete P X (Stop c) → Complete Q Y (Stop d) → m ≡ false → IsTrue (apart p q)
      → ((f : Forest Label A) → X f → Begun m p (yield f))
      → ((f : Forest Label A) → Y f → Begun n q (yield f))
      → Complete (λ ts. choice (begins kind p ts) P Q ts) (X ∪ Y)
      (Stop (joined n (λ k. c k || d k) p))
  either_complete P Q X Y c d p q m n k l full away x y =
      choice_complete (begins kind p) P Q X Y (Stop (joined n (λ k. c k || d k) p))
      (complete_less P X (Stop c) _ (λ r s. stop_left c d r (stop_joined n _ p r s)) k)
      (complete_less Q Y (Stop d) _ (λ r s. stop_right c d r (stop_joined n _ p r s)) l)
      (λ f r i s. begins_true m p (yield f) r full (x f i)) (λ f r i s. begins_false n q p
      (yield f) r (y f i) (λ k i. apart_back p q away k i) (λ i. stop_second n _ p r s i))

  star_complete : (P : Reader A) (X : Lang A) (c p : Kind → Bool) (m : Bool) → Takes P
      → Complete P X (Stop c) → m ≡ false → IsTrue (apart c p)
      → ((f : Forest Label A) → X f → Begun m p (yield f))
      → Complete (repeat (begins kind p) P) (Many X) (Stop (λ k. p k || c k))
  star_complete P X c p m takes k full away x =
      repeat_complete (begins kind p) P X (Stop c) (Stop (λ k. p k || c k)) takes k
      (λ f r i. begins_true m p (yield f) r full (x f i)) (λ r s. stop_left p c r s)
      (λ g r i s. begins_false true p c (yield g) r (many_begun X m p full x g i)
      (λ k i. apart_back c p away k i) (λ _. stop_right p c r s))

  -- more turns than tokens change nothing
  tail_fewer : (s : Kind) (X Y Z : Lang A) (n m : ℕ) (f : Forest Label A) → length (yield f) < m
      → TailTo kind s X Y Z n f → TailTo kind s X Y Z m f
  tail_fewer s X Y Z n zero f k x = absurd (omega arith)
  tail_fewer s X Y Z zero (suc m) f k x = inr x
  tail_fewer s X Y Z (suc n) (suc m) f k (inr x) = inr x
  tail_fewer s X Y Z (suc n) (suc m) f k (inl (g, i, e, (a, d, b), inr y)) =
      inl (g, i, e, (a, d, b), inr y)
  tail_fewer s X Y Z (suc n) (suc m) f k (inl (g, i, e, (a, d, b), inl (h, j, c, x, y))) =
      let t : length (yield f) ≡ suc (length (yield h) + length (yield j)) =
      rw (e, d, c, yield_join h j, length-append (yield h) (yield j)) refl in
      inl (g, i, e, (a, d, b), inl (h, j, c, x, tail_fewer s X Y Z n m j (omega (arith, t)) y))

  module _ (s : Kind) (P Q R : Reader A) (X Y Z : Lang A) (p q r cx cy cz : Kind → Bool)
      (ny nz : Bool)
      (x : Complete P X (Stop cx)) (y : Complete Q Y (Stop cy)) (z : Complete R Z (Stop cz))
      (bx : (f : Forest Label A) → X f → Begun false p (yield f))
      (by' : (f : Forest Label A) → Y f → Begun ny q (yield f))
      (bz : (f : Forest Label A) → Z f → Begun nz r (yield f))
      (pq : IsTrue (apart p q)) (sr : IsTrue (apart (is s) r)) (cs : IsTrue (apart cx (is s)))
      (cr : IsTrue (apart cx r)) where
    abbrev tail_stop : Kind → Bool
    tail_stop = joined ny (joined nz (λ k. cy k || cz k) (λ k. is s k || cx k)) p

    stop_y : (v : List A) → Stop tail_stop v → Stop cy v
    stop_y v h =
        stop_left cy cz v (stop_joined nz _ (λ k. is s k || cx k) v (stop_joined ny _ p v h))

    stop_z : (v : List A) → Stop tail_stop v → Stop cz v
    stop_z v h =
        stop_right cy cz v (stop_joined nz _ (λ k. is s k || cx k) v (stop_joined ny _ p v h))

    stop_sx : (v : List A) → Stop tail_stop v → IsTrue nz → Stop (λ k. is s k || cx k) v
    stop_sx v h i =
        stop_second nz (λ k. cy k || cz k) (λ k. is s k || cx k) v (stop_joined ny _ p v h) i

    before_tail : (n : ℕ) (g : Forest Label A) (v : List A) → TailTo kind s X Y Z n g
        → Stop tail_stop v → Stop cx (yield g ++ v)
    before_tail n g v t h =
        begins_false nz (λ k. is s k || r k) cx (yield g) v (tail_begun s X Y Z nz r bz n g t)
        (λ k i. away k (is s k) refl i) (λ i. stop_right (is s) cx v (stop_sx v h i))
      where
        away : (k : Kind) (b : Bool) → is s k ≡ b → IsTrue (is s k || r k) → cx k ≡ false
        away k true e i = apart_back cx (is s) cs k e
        away k false e i = apart_back cx r cr k (rw e at i)

    tail_to_complete : (n : ℕ)
        → Complete (tail_to kind s p P Q R n) (TailTo kind s X Y Z n) (Stop tail_stop)
    tail_to_complete zero = complete_less R Z (Stop cz) _ stop_z z
    tail_to_complete (suc n) = choice_complete (begins kind (is s)) _ R
        (One kind s ⋄ (X ⋄ TailTo kind s X Y Z n ∪ Y)) Z (Stop tail_stop)
        (both_complete (one kind s) _ (One kind s) (X ⋄ TailTo kind s X Y Z n ∪ Y) (λ _. Unit {0}) _
        (token_complete kind (is s) _)
        (choice_complete (begins kind p) (both P (tail_to kind s p P Q R n)) Q
        (X ⋄ TailTo kind s X Y Z n) Y _
        (both_complete P (tail_to kind s p P Q R n) X (TailTo kind s X Y Z n) (Stop cx) _ x
        (tail_to_complete n) (λ g v t h. before_tail n g v t h))
        (complete_less Q Y (Stop cy) _ stop_y y)
        (λ f v (g, i, e, a, b) h. begins_true false p (yield f) v refl
        (rw (e, yield_join g i) (begun_front false false p (yield g) (yield i) refl (bx g a))))
        (λ f v a h. begins_false ny q p (yield f) v (by' f a) (λ k i. apart_back p q pq k i)
        (λ i. stop_second ny _ p v h i)))
        (λ _ _ _ _. tt))
        (complete_less R Z (Stop cz) _ stop_z z)
        (λ f v (g, i, e, (a, d, b), k) h. rw (e, d) b)
        (λ f v a h. begins_false nz r (is s) (yield f) v (bz f a)
        (λ k i. apart_back (is s) r sr k i) (λ i. stop_left (is s) cx v (stop_sx v h i)))

    tailed_complete : Complete (tailed kind s p P Q R) (Tail kind s X Y Z) (Stop tail_stop)
    unfolding tailed
    tailed_complete f v (n, t) h =
        let e = length-append (yield f) v in
        tail_to_complete (suc (length (yield f ++ v))) f v
        (tail_fewer s X Y Z n (suc (length (yield f ++ v))) f (omega (arith, e)) t) h

  module _ (room : Bool) (E : Reader A) (X : Lang A)
      (h : (f : Forest Label A) → X f → Begun false expr_first (yield f)) (s : Sound E X)
      (c : Complete E X (Stop expr_clash)) where
    rule_begun : (R : Rule) → IsTrue (decided R) → (f : Forest Label A) → means kind room X R f
        → Begun (nullable R) (first R) (yield f)
    rule_begun = means_begun room X h

    -- A rule that can't be empty takes a token.
    pub read_takes : (R : Rule) → IsTrue (decided R) → nullable R ≡ false
        → Takes (read kind room E R)
    read_takes R d n = takes_of (read kind room E R) (means kind room X R) (nullable R) (first R) n
        (read_sound room E X s R) (rule_begun R d)

    -- What is in the language is read whole if no following token continues it.
    pub read_complete : (R : Rule) → IsTrue (decided R)
        → Complete (read kind room E R) (means kind room X R) (Stop (clash R))
    read_complete never d = λ f r x k. absurd x
    read_complete empty d = skip_complete _
    read_complete inner d = c
    read_complete (leaf_of p) d = token_complete kind p _
    read_complete (nested k a) d = nested_complete room k _ _ _ (read_complete a d)
    read_complete (then a b) d =
        let e = and_second (decided a) _ d in
        then_complete _ _ (means kind room X a) (means kind room X b) (clash a) (clash b) (first b)
        (nullable b) (read_complete a (and_first (decided a) _ d))
        (read_complete b (and_first (decided b) _ e))
        (and_second (decided b) _ e) (rule_begun b (and_first (decided b) _ e))
    read_complete (either a b) d =
        let da = and_first (decided a) _ d in
        let e = and_second (decided a) _ d in
        let db = and_first (decided b) _ e in
        let g = and_second (decided b) _ e in
        either_complete _ _ (means kind room X a) (means kind room X b) (clash a) (clash b)
        (first a) (first b) (nullable a) (nullable b) (read_complete a da) (read_complete b db)
        (not-true (nullable a) (and_first _ _ g)) (and_second (not (nullable a)) _ g)
        (rule_begun a da) (rule_begun b db)
    read_complete (star a) d =
        let da = and_first (decided a) _ d in
        let g = and_second (decided a) _ d in
        let n = not-true (nullable a) (and_first _ _ g) in
        star_complete (read kind room E a) (means kind room X a) (clash a) (first a) (nullable a)
        (read_takes a da n) (read_complete a da) n (and_second (not (nullable a)) _ g)
        (rule_begun a da)
    read_complete (tail k a b z) d =
        let da = and_first (decided a) _ d in
        let d1 = and_second (decided a) _ d in
        let db = and_first (decided b) _ d1 in
        let d2 = and_second (decided b) _ d1 in
        let dz = and_first (decided z) _ d2 in
        let d3 = and_second (decided z) _ d2 in
        let n = not-true (nullable a) (and_first _ _ d3) in
        let d4 = and_second (not (nullable a)) _ d3 in
        let d5 = and_second (apart (first a) (first b)) _ d4 in
        let d6 = and_second (apart (is k) (first z)) _ d5 in
        tailed_complete k (read kind room E a) (read kind room E b) (read kind room E z)
        (means kind room X a) (means kind room X b) (means kind room X z)
        (first a) (first b) (first z) (clash a) (clash b) (clash z) (nullable b) (nullable z)
        (read_complete a da) (read_complete b db) (read_complete z dz)
        (λ f x. subst (λ m. Begun m (first a) (yield f)) n (rule_begun a da f x)) (rule_begun b db)
        (rule_begun z dz)
        (and_first (apart (first a) (first b)) _ d4) (and_first (apart (is k) (first z)) _ d5)
        (and_first (apart (clash a) (is k)) _ d6) (and_second (apart (clash a) (is k)) _ d6)
    read_complete (node l a) d = tree_complete l _ _ _ (read_complete a d)
    read_complete (shaped a) d =
        shaped_complete (read kind room E a) (means kind room X a) _ (read_complete a d)
    read_complete R d = absurd cc
