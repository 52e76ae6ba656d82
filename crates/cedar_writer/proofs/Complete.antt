-- A row of a rule is read whole, and its marks are written, if there is room for them and no token
-- follows that goes on with it.
use Rattle.std.proofs.Common.{◌≡◌, ℕ, zero, suc, ℤ, ◌<◌, ◌≤◌, ◌+◌, Bool, true, false, List, [], ◌∷◌, ◌++◌, length, length-append, refl, sym, ap, ◌∙◌, arith, subst, append_assoc, append-nil, inl, inr}
use Rattle.std.proofs.lemmas.Bool.Decides.{nat_tests}
use Rattle.std.proofs.lemmas.Bool.{not-true, or_left, or_right}
use Rattle.std.specs.Prelude.{◌==◌, ◌-◌, ◌&&◌, ◌||◌, not, IsTrue}
use Rattle.cedar_tokens.specs.Listing.{Decorated}
use Rattle.cedar_tokens.specs.declared.kind.Kind.{Kind}
use Rattle.cedar_tokens.specs.Kinds.{is}
use Rattle.cedar_grammar.specs.Laws.{kind_of_decorated}
use Rattle.cedar_grammar.specs.Reader.Rules.{expr_first}
use Rattle.cedar_grammar.specs.Reader.Sets.{no_kind, joined}
use Rattle.cedar_grammar.proofs.Booleans.{and_first, and_second, neither_first, neither_second}
use Rattle.cedar_grammar.proofs.KindSets.{apart, apart_at, within_at}
use Rattle.cedar_grammar.proofs.Rules.Meanings.{expr_clash}
use Rattle.cedar_laws.specs.Table.{bare_token}
use Rattle.cedar_print.specs.WrittenMarks.{Mark, lead_of, marks_of}
use Rattle.cedar_writer.specs.Rules.{Rule, never, inner, put, token, then, either, star, tail, deeper, lifted, fork, peek}
use Rattle.cedar_writer.specs.Lines as lines
use Rattle.cedar_writer.specs.Languages.{Lang, ◌⋄◌, ◌∪◌, Many, no_more, one_more, Never, Put, Token, Deeper, Lifted, Looking, looks, means, Expr, Policy}
use Rattle.cedar_writer.specs.Writing.{State, going, refused, choose, nullable, first, begins, second, goes, looking, refuse, add, add_all, skip, show, take, bare_first, lift, size, turns, finish, run, expr_to, policy_to}
use Rattle.cedar_writer.proofs.Tests.{clash, decided, least, covers, expr_decided, policy_decided, expr_begins, expr_goes_on, policy_ends}
use Rattle.cedar_writer.proofs.Sound.{looks_more, looks_covered, means_least, show_whole}

abbrev pub KindSet : Type 0
KindSet = Kind → Bool

apart_back : (p q : KindSet) → IsTrue (apart p q) → (k : Kind) → IsTrue (q k) → p k ≡ false
apart_back p q h k i = go (p k) refl
  where
    go : (b : Bool) → p k ≡ b → p k ≡ false
    go true e = let j = apart_at p q h k e in absurd cc
    go false e = e

-- ---- what rows begin with

-- the row begins with one of these kinds, or is empty where n says that it may be
abbrev pub Begun : Bool → KindSet → List Decorated → Type 0
Begun n p [] = n ≡ true
Begun n p (t ∷ ts) = p (kind_of_decorated t) ≡ true

-- the list doesn't begin with one of these kinds
abbrev pub Stop : KindSet → List Decorated → Type 0
Stop p [] = Unit {0}
Stop p (t ∷ ts) = p (kind_of_decorated t) ≡ false

begins_stop : (p : KindSet) (ts : List Decorated) (m : List Mark) (r : ℕ) → Stop p ts
    → begins p (going ts m r) ≡ false
begins_stop p [] m r s = refl
begins_stop p (t ∷ ts) m r s = s

begins_begun : (p : KindSet) (ts us : List Decorated) (m : List Mark) (r : ℕ) → Begun false p ts
    → begins p (going (ts ++ us) m r) ≡ true
begins_begun p [] us m r b = absurd cc
begins_begun p (t ∷ ts) us m r b = b

stop_left : (p q : KindSet) (ts : List Decorated) → Stop (λ k. p k || q k) ts → Stop p ts
stop_left p q [] s = tt
stop_left p q (t ∷ ts) s = neither_first (p (kind_of_decorated t)) (q (kind_of_decorated t)) s

stop_right : (p q : KindSet) (ts : List Decorated) → Stop (λ k. p k || q k) ts → Stop q ts
stop_right p q [] s = tt
stop_right p q (t ∷ ts) s = neither_second (p (kind_of_decorated t)) (q (kind_of_decorated t)) s

stop_joined : (b : Bool) (p q : KindSet) (ts : List Decorated) → Stop (joined b p q) ts → Stop p ts
stop_joined true p q ts s = stop_left p q ts s
stop_joined false p q ts s = s

stop_second : (b : Bool) (p q : KindSet) (ts : List Decorated) → Stop (joined b p q) ts → b ≡ true
    → Stop q ts
stop_second true p q ts s e = stop_right p q ts s
stop_second false p q ts s e = absurd cc

-- what begins with another set, or is empty where what follows doesn't begin with this one
stop_begun : (n : Bool) (p q : KindSet) (ts us : List Decorated) → Begun n p ts → IsTrue (apart q p)
    → (n ≡ true → Stop q us) → Stop q (ts ++ us)
stop_begun n p q [] us b a h = h b
stop_begun n p q (t ∷ ts) us b a h = apart_back q p a (kind_of_decorated t) b

begun_left : (a b : Bool) (p q : KindSet) (ts : List Decorated) → Begun a p ts
    → Begun (a || b) (λ k. p k || q k) ts
begun_left a b p q [] h = or_left a b h
begun_left a b p q (t ∷ ts) h = or_left (p (kind_of_decorated t)) (q (kind_of_decorated t)) h

begun_right : (a b : Bool) (p q : KindSet) (ts : List Decorated) → Begun b q ts
    → Begun (a || b) (λ k. p k || q k) ts
begun_right a b p q [] h = or_right a b h
begun_right a b p q (t ∷ ts) h = or_right (p (kind_of_decorated t)) (q (kind_of_decorated t)) h

joined_left : (b : Bool) (p q : KindSet) (k : Kind) → p k ≡ true → joined b p q k ≡ true
joined_left true p q k e = or_left (p k) (q k) e
joined_left false p q k e = e

begun_then : (a b : Bool) (p q : KindSet) (ts us : List Decorated) → Begun a p ts → Begun b q us
    → Begun (a && b) (joined a p q) (ts ++ us)
begun_then true b p q [] [] h k = k
begun_then false b p q [] us h k = absurd cc
begun_then true b p q [] (t ∷ us) h k = or_right (p (kind_of_decorated t)) (q (kind_of_decorated t))
    k
begun_then a b p q (t ∷ ts) us h k = joined_left a p q (kind_of_decorated t) h

begun_front : (p : KindSet) (ts us : List Decorated) → Begun false p ts → Begun true p (ts ++ us)
begun_front p [] us b = absurd cc
begun_front p (t ∷ ts) us b = b

abbrev pub Starts : Lang → Bool → KindSet → Type 0
Starts X n p = (ts : List Decorated) (d : List Mark) → X ts d → Begun n p ts

begun_many : (X : Lang) (p : KindSet) → Starts X false p → (ts : List Decorated) (d : List Mark)
    → Many X ts d → Begun true p ts
begun_many X p h _ _ no_more = refl
begun_many X p h _ _ (one_more u v e f x m) = begun_front p u v (h u e x)

token_begun : (p : KindSet) (v n : List Mark) (X : Lang) → Starts (Token p v n ⋄ X) false p
token_begun p v n X ts d (u, w, e, f, i, j, (t, k, l, g), x) =
    subst (Begun false p) (sym (i ∙ ap (λ z. z ++ w) k)) g

tail_begun : (n : Bool) (p q : KindSet) (u v : List Decorated) → Begun true p u
    → Begun n (λ k. p k || q k) v → Begun n (λ k. p k || q k) (u ++ v)
tail_begun n p q [] v h k = k
tail_begun n p q (t ∷ u) v h k = or_left (p (kind_of_decorated t)) (q (kind_of_decorated t)) h

end_begun : (n : Bool) (p q : KindSet) (X Y : Lang) → Starts Y n q
    → Starts (Token p [] [] ⋄ X ∪ Y) n (λ k. p k || q k)
end_begun n p q X Y g ts d (inl x) = begun_weaker n ts (begun_left false n p q ts
    (token_begun p [] [] X ts d x))
  where
    begun_weaker : (n : Bool) (ts : List Decorated) → Begun (false || n) (λ k. p k || q k) ts
        → Begun n (λ k. p k || q k) ts
    begun_weaker n ts b = b
end_begun n p q X Y g ts d (inr y) = begun_right false n p q ts (g ts d y)

module _ (room : Bool) (X : Lang) (b : Starts X false expr_first) where
  abbrev StartsRule : Rule → Type 0
  StartsRule R = Starts (means room X R) (nullable R) (first R)

  pub full_of : (a : Rule) → IsTrue (not (nullable a)) → StartsRule a
      → Starts (means room X a) false (first a)
  full_of a n s ts e y = subst (λ z. Begun z (first a) ts) (not-true (nullable a) n) (s ts e y)

  pub means_begun : (R : Rule) → IsTrue (decided R) → StartsRule R
  means_begun never h ts d x = absurd x
  means_begun inner h ts d x = b ts d x
  means_begun (put m) h ts d (e, f) = subst (Begun true no_kind) (sym e) refl
  means_begun (token p v n) h ts d (t, e, f, g) = subst (Begun false p) (sym e) g
  means_begun (then a c) h ts d (us, vs, e, f, i, j, x, y) =
      subst (Begun (nullable a && nullable c) (joined (nullable a) (first a) (first c))) (sym i)
      (begun_then (nullable a) (nullable c) (first a) (first c) us vs
      (means_begun a (and_first (decided a) _ h) us e x)
      (means_begun c (and_first (decided c) _ (and_second (decided a) _ h)) vs f y))
  means_begun (either a c) h ts d (inl x) = begun_left (nullable a) (nullable c) (first a) (first c)
      ts (means_begun a (and_first (decided a) _ h) ts d x)
  means_begun (either a c) h ts d (inr x) =
      begun_right (nullable a) (nullable c) (first a) (first c) ts
      (means_begun c (and_first (decided c) _ (and_second (decided a) _ h)) ts d x)
  means_begun (star a) h ts d x = begun_many (means room X a) (first a)
      (full_of a (and_first (not (nullable a)) _ (and_second (decided a) _ h))
      (means_begun a (and_first (decided a) _ h))) ts d x
  means_begun (peek q a c) h ts d (inl (e, x)) = begun_left (nullable a) (nullable c) (first a)
      (first c) ts (means_begun a (and_first (decided a) _ h) ts d x)
  means_begun (peek q a c) h ts d (inr (e, x)) =
      begun_right (nullable a) (nullable c) (first a) (first c) ts
      (means_begun c (and_first (decided c) _ (and_second (decided a) _ h)) ts d x)
  means_begun (fork p m n a c) h ts d (inl x) = token_begun p [] m (means room X a) ts d x
  means_begun (fork p m n a c) h ts d (inr x) = token_begun p [] n (means room X c) ts d x
  means_begun (tail c x y z) h ts d (us, vs, e, f, i, j, k, l) = let p : KindSet = is c in
      subst (Begun (nullable z) (λ k. p k || first z k)) (sym i)
      (tail_begun (nullable z) p (first z) us vs
      (begun_many (Token p [] [] ⋄ means room X x) p (token_begun p [] [] (means room X x)) us e k)
      (end_begun (nullable z) p (first z) (means room X y) (means room X z)
      (means_begun z (and_first (decided z) _ (and_second (decided y) _
      (and_second (decided x) _ h)))) vs f l))
  means_begun (lifted a) h ts d (t, us, e, i, j, x) =
      subst (Begun (nullable a) (first a)) (sym i) (means_begun a (and_first (decided a) _ h)
      (bare_token t ∷ us) e x)
  means_begun (deeper k ms a) h ts d (r, (us, vs, e, f, i, j, p, y)) =
      subst (Begun false (is k)) (sym (i ∙ ap (λ z. z ++ vs) p.0))
      (token_begun (is k) [] [] (means room X a) vs f y)

-- ---- reading it, where there is room for its marks
abbrev pub Complete : (State → State) → Lang → KindSet → Type 0
Complete P X c = (ts : List Decorated) (d : List Mark) (us : List Decorated) (m : List Mark) (r : ℕ)
    → X ts d → Stop c us
    → P (going (ts ++ us) m (length d + r)) ≡ going us (m ++ d) r

not_none : (r : ℕ) → (suc r == 0) ≡ false
not_none r = grind (arith, nat_tests)

one_less : (r : ℕ) → suc r - 1 ≡ r
one_less r = omega arith

pub add_room : (x : Mark) (l : List Decorated) (m : List Mark) (k r : ℕ) → k ≡ suc r
    → add x (going l m k) ≡ going l (m ++ (x ∷ [])) r
add_room x l m k r e = rw (e, not_none r, one_less r) refl

adds_room : (xs : List Mark) (l : List Decorated) (m : List Mark) (r : ℕ)
    → add_all xs (going l m (length xs + r)) ≡ going l (m ++ xs) r
adds_room [] l m r = let e : 0 + r ≡ r = omega arith in rw (e, append-nil m) refl
adds_room (x ∷ xs) l m r = ap (add_all xs) (add_room x l m (suc (length xs) + r) (length xs + r)
    (omega arith))
    ∙ (adds_room xs l (m ++ (x ∷ [])) r ∙ ap (λ z. going l z r) (append_assoc m (x ∷ []) xs))

show_room : (t : Decorated) (v w : List Mark) (ts : List Decorated) (m : List Mark) (r : ℕ)
    → show t v w (going (t ∷ ts) m (length (marks_of t v w) + r)) ≡ going ts (m ++ marks_of t v w) r
show_room t v w ts m r = show_whole t v w _ ∙ ap skip (adds_room (marks_of t v w) (t ∷ ts) m r)

lift_room : (t : Decorated) (l : List Decorated) (m : List Mark) (r : ℕ)
    → lift (going (t ∷ l) m (length (lead_of t.leading) + r)) ≡ going (bare_token t ∷ l)
    (m ++ lead_of t.leading) r
lift_room t l m r = ap bare_first (adds_room (lead_of t.leading) (t ∷ l) m r)

shared : (w e f : List Mark) (r : ℕ) → w ≡ e ++ f → length w + r ≡ length e + (length f + r)
shared w e f r j = let x = ap length j ∙ length-append e f in omega (arith, x)

then_complete : (P Q : State → State) (X Y : Lang) (c d q : KindSet) (n : Bool) → Complete P X c
    → Complete Q Y d → IsTrue (apart c q)
    → Starts Y n q → Complete (λ s. Q (P s)) (X ⋄ Y) (joined n d c)
then_complete P Q X Y c d q n x y a b ts w us m r (u, v, e, f, i, j, k, l) s =
    let stop : Stop c (v ++ us) = stop_begun n q c v us (b v f l) a (λ z. stop_second n d c us s z)
    in
    ap (λ z. Q (P (going (z ++ us) m (length w + r)))) i
    ∙ (ap (λ z. Q (P (going z m (length w + r)))) (append_assoc u v us)
    ∙ (ap (λ z. Q (P (going (u ++ (v ++ us)) m z))) (shared w e f r j)
    ∙ (ap Q (x u e (v ++ us) m (length f + r) k stop)
    ∙ (y v f us (m ++ e) r l (stop_joined n d c us s) ∙ ap (λ z. going us z r) (append_assoc m e f
    ∙ ap (λ z. m ++ z) (sym j))))))

either_complete : (P Q : State → State) (X Y : Lang) (c d p q : KindSet) (n : Bool) → Complete P X c
    → Complete Q Y d → IsTrue (apart p q)
    → Starts X false p → Starts Y n q
    → Complete (λ s. choose (begins p s) (P s) (Q s)) (X ∪ Y) (joined n (λ k. c k || d k) p)
either_complete P Q X Y c d p q n x y a b g ts w us m r (inl k) s =
    ap (λ z. choose z (P (going (ts ++ us) m (length w + r)))
    (Q (going (ts ++ us) m (length w + r)))) (begins_begun p ts us m (length w + r) (b ts w k))
    ∙ x ts w us m r k (stop_left c d us (stop_joined n (λ k. c k || d k) p us s))
either_complete P Q X Y c d p q n x y a b g ts w us m r (inr k) s =
    ap (λ z. choose z (P (going (ts ++ us) m (length w + r)))
    (Q (going (ts ++ us) m (length w + r))))
    (begins_stop p (ts ++ us) m (length w + r) (stop_begun n q p ts us (g ts w k) a
    (λ z. stop_second n (λ k. c k || d k) p us s z)))
    ∙ y ts w us m r k (stop_right c d us (stop_joined n (λ k. c k || d k) p us s))

nothing : (us : List Decorated) (m : List Mark) (r : ℕ) → going us m (0 + r) ≡ going us (m ++ []) r
nothing us m r = let e : 0 + r ≡ r = omega arith in rw (e, append-nil m) refl

no_turns : (T : State → Bool) (P : State → State) (n : ℕ) (ts : List Decorated) (m : List Mark)
    (r : ℕ) → T (going ts m (0 + r)) ≡ false
    → turns T P n (going ts m (0 + r)) ≡ going ts (m ++ []) r
no_turns T P zero ts m r s = nothing ts m r
no_turns T P (suc n) ts m r s =
    ap (λ z. choose z (turns T P n (P (going ts m (0 + r)))) (going ts m (0 + r))) s
    ∙ nothing ts m r

longer : (p : KindSet) (u v us : List Decorated) (n : ℕ) → Begun false p u
    → length ((u ++ v) ++ us) < suc n → length (v ++ us) < n
longer p [] v us n b h = absurd cc
longer p (t ∷ u) v us n b h =
    let x = length-append u v in
    let y = length-append (u ++ v) us in
    let z = length-append v us in omega (arith, x, y, z, h)

many_complete : (T : State → Bool) (p c : KindSet) (P : State → State) (X : Lang) → Complete P X c
    → IsTrue (apart c p) → Starts X false p
    → ((ts : List Decorated) (e : List Mark) (us : List Decorated) (m : List Mark) (r : ℕ) → X ts e
    → T (going (ts ++ us) m r) ≡ true)
    → (us : List Decorated) → ((m : List Mark) (r : ℕ) → T (going us m r) ≡ false) → Stop c us
    → (n : ℕ) (ts : List Decorated) (d : List Mark) (m : List Mark) (r : ℕ) → length (ts ++ us) < n
    → Many X ts d
    → turns T P n (going (ts ++ us) m (length d + r)) ≡ going us (m ++ d) r
many_complete T p c P X x a b t us o s zero ts d m r h k = absurd (omega (arith, h))
many_complete T p c P X x a b t us o s (suc n) _ _ m r h no_more =
    no_turns T P (suc n) us m r (o m (0 + r))
many_complete T p c P X x a b t us o s (suc n) _ _ m r h (one_more u v e f k l) =
    let now = t u e (v ++ us) m (length e + (length f + r)) k in
    let stop : Stop c (v ++ us) = stop_begun true p c v us (begun_many X p b v f l) a (λ _. s) in
    ap (λ z. turns T P (suc n) (going z m (length (e ++ f) + r))) (append_assoc u v us)
    ∙ (ap (λ z. turns T P (suc n) (going (u ++ (v ++ us)) m z)) (shared (e ++ f) e f r refl)
    ∙ (ap (λ z. choose z (turns T P n (P (going (u ++ (v ++ us)) m (length e + (length f + r)))))
    (going (u ++ (v ++ us)) m (length e + (length f + r)))) now
    ∙ (ap (turns T P n) (x u e (v ++ us) m (length f + r) k stop)
    ∙ (many_complete T p c P X x a b t us o s n v f (m ++ e) r (longer p u v us n (b u e k) h) l
    ∙ ap (λ z. going us z r) (append_assoc m e f)))))

-- ---- tokens ahead

-- what a long enough row doesn't begin with, it doesn't begin with what follows either
looks_no_more : (q : List KindSet) (n : ℕ) (xs us : List Decorated) → covers q n ≡ true
    → n ≤ length xs → looks q xs ≡ false → looks q (xs ++ us) ≡ false
looks_no_more q n xs us c h e = go (looks q (xs ++ us)) refl
  where
    go : (b : Bool) → looks q (xs ++ us) ≡ b → looks q (xs ++ us) ≡ false
    go true f = let i = looks_covered q n xs us c h f in absurd cc
    go false f = f

peek_complete : (q : List KindSet) (P Q : State → State) (X Y : Lang) (c d : KindSet) (n : ℕ)
    → covers q n ≡ true
    → ((ts : List Decorated) (e : List Mark) → Y ts e → n ≤ length ts) → Complete P X c
    → Complete Q Y d
    → Complete (λ s. choose (looking q s) (P s) (Q s)) (Looking q true X ∪ Looking q false Y)
    (λ k. c k || d k)
peek_complete q P Q X Y c d n h g x y ts w us m r (inl (e, k)) s =
    ap (λ z. choose z (P (going (ts ++ us) m (length w + r)))
    (Q (going (ts ++ us) m (length w + r)))) (looks_more q ts us e)
    ∙ x ts w us m r k (stop_left c d us s)
peek_complete q P Q X Y c d n h g x y ts w us m r (inr (e, k)) s =
    ap (λ z. choose z (P (going (ts ++ us) m (length w + r)))
    (Q (going (ts ++ us) m (length w + r)))) (looks_no_more q n ts us h (g ts w k) e)
    ∙ y ts w us m r k (stop_right c d us s)

-- ---- a token, and what the next one decides
takes : (p : KindSet) (v w : List Mark) (t : Decorated) (l : List Decorated) (m : List Mark) (r : ℕ)
    → p (kind_of_decorated t) ≡ true
    → take p v w (going (t ∷ l) m (length (marks_of t v w) + r)) ≡ going l (m ++ marks_of t v w) r
takes p v w t l m r g =
    ap (λ z. choose z (show t v w (going (t ∷ l) m (length (marks_of t v w) + r)))
    (refused false (t ∷ l))) g ∙ show_room t v w l m r

after_token : (p : KindSet) (w : List Mark) (Q : State → State) (Y : Lang) (c : KindSet)
    → Complete Q Y c → (t : Decorated) (v : List Decorated) (f : List Mark)
    (us : List Decorated) (m : List Mark) (r : ℕ) → p (kind_of_decorated t) ≡ true → Y v f
    → Stop c us
    → Q (take p [] w (going (t ∷ (v ++ us)) m (length (marks_of t [] w ++ f) + r))) ≡ going us
    (m ++ (marks_of t [] w ++ f)) r
after_token p w Q Y c x t v f us m r g y s =
    ap (λ z. Q (take p [] w (going (t ∷ (v ++ us)) m z)))
    (shared (marks_of t [] w ++ f) (marks_of t [] w) f r refl)
    ∙ (ap Q (takes p [] w t (v ++ us) m (length f + r) g) ∙ (x v f us (m ++ marks_of t [] w) r y s
    ∙ ap (λ z. going us z r) (append_assoc m (marks_of t [] w) f)))

-- a row that is a token and another, in its parts
opened : (F : State → State) (ts us v u : List Decorated) (t : Decorated) (d e f k : List Mark)
    (m : List Mark) (r : ℕ) → ts ≡ u ++ v → u ≡ t ∷ [] → d ≡ e ++ f → e ≡ k
    → F (going (t ∷ (v ++ us)) m (length (k ++ f) + r)) ≡ going us (m ++ (k ++ f)) r
    → F (going (ts ++ us) m (length d + r)) ≡ going us (m ++ d) r
opened F ts us v u t d e f k m r i j l n h =
    let a : ts ≡ t ∷ v = i ∙ ap (λ z. z ++ v) j in
    let b : d ≡ k ++ f = l ∙ ap (λ z. z ++ f) n in
    ap (λ z. F (going (z ++ us) m (length d + r))) a ∙ (ap
    (λ z. F (going (t ∷ (v ++ us)) m (length z + r))) b
    ∙ (h ∙ ap (λ z. going us (m ++ z) r) (sym b)))

token_then : (p : KindSet) (w : List Mark) (Q : State → State) (Y : Lang) (c : KindSet)
    → Complete Q Y c → Complete (λ s. Q (take p [] w s)) (Token p [] w ⋄ Y) c
token_then p w Q Y c x ts d us m r (u, v, e, f, i, j, (t, k, l, g), y) s =
    opened (λ z. Q (take p [] w z)) ts us v u t d e f (marks_of t [] w) m r i k j l
    (after_token p w Q Y c x t v f us m r g y s)

fork_complete : (p : KindSet) (w z : List Mark) (P Q : State
    → State) (X Y : Lang) (c d q1 q2 : KindSet) (n : Bool) → Complete P X c → Complete Q Y d
    → IsTrue (apart q1 q2) → Starts X false q1 → Starts Y n q2
    → Complete (λ s. choose (second q1 s) (P (take p [] w s)) (Q (take p [] z s)))
    (Token p [] w ⋄ X ∪ Token p [] z ⋄ Y) (joined n (λ k. c k || d k) q1)
fork_complete p w z P Q X Y c d q1 q2 n x y a b g ts o us m r
    (inl (u, v, e, f, i, j, (t, k, l, h), y1)) s =
    opened (λ s. choose (second q1 s) (P (take p [] w s)) (Q (take p [] z s))) ts us v u t o e f
    (marks_of t [] w) m r i k j l
    (ap (λ o. choose o (P (take p [] w (going (t ∷ (v ++ us)) m
    (length (marks_of t [] w ++ f) + r)))) (Q (take p [] z
    (going (t ∷ (v ++ us)) m (length (marks_of t [] w ++ f) + r)))))
    (begins_begun q1 v us m (length (marks_of t [] w ++ f) + r) (b v f y1))
    ∙ after_token p w P X c x t v f us m r h y1 (stop_left c d us
    (stop_joined n (λ k. c k || d k) q1 us s)))
fork_complete p w z P Q X Y c d q1 q2 n x y a b g ts o us m r
    (inr (u, v, e, f, i, j, (t, k, l, h), y1)) s =
    opened (λ s. choose (second q1 s) (P (take p [] w s)) (Q (take p [] z s))) ts us v u t o e f
    (marks_of t [] z) m r i k j l
    (ap (λ o. choose o (P (take p [] w (going (t ∷ (v ++ us)) m
    (length (marks_of t [] z ++ f) + r)))) (Q (take p [] z
    (going (t ∷ (v ++ us)) m (length (marks_of t [] z ++ f) + r)))))
    (begins_stop q1 (v ++ us) m (length (marks_of t [] z ++ f) + r)
    (stop_begun n q2 q1 v us (g v f y1) a (λ z. stop_second n (λ k. c k || d k) q1 us s z)))
    ∙ after_token p z Q Y d y t v f us m r h y1 (stop_right c d us
    (stop_joined n (λ k. c k || d k) q1 us s)))

and_no : (a b : Bool) → b ≡ false → (a && b) ≡ false
and_no true b e = e
and_no false b e = refl

and_both : (a b : Bool) → a ≡ true → b ≡ true → (a && b) ≡ true
and_both true b e f = f
and_both false b e f = absurd cc

goes_begun : (p q : KindSet) (n : List Mark) (X : Lang) → Starts X false q
    → (ts : List Decorated) (e : List Mark) (us : List Decorated) (m : List Mark) (r : ℕ)
    → (Token p [] n ⋄ X) ts e → goes p q (going (ts ++ us) m r) ≡ true
goes_begun p q n X b ts e us m r (u, v, f, g, i, j, (t, k, l, h), y) =
    ap (λ z. goes p q (going (z ++ us) m r)) (i ∙ ap (λ z. z ++ v) k)
    ∙ and_both (p (kind_of_decorated t)) _ h (begins_begun q v us m r (b v g y))

module _ (p : KindSet) (P Y Z : State → State) (A B C : Lang) (ca cb cd fa fb fc : KindSet)
    (ny n : Bool)
    (x : Complete P A ca) (y : Complete Y B cb) (z : Complete Z C cd)
    (ga : Starts A false fa) (gb : Starts B ny fb) (gc : Starts C n fc)
    (a1 : IsTrue (apart fa fb)) (a2 : IsTrue (apart ca p)) (a3 : IsTrue (apart ca fc))
    (a4 : IsTrue (apart p fc)) where
  abbrev Last : Lang
  Last = Token p [] [] ⋄ B ∪ C

  abbrev Inside : KindSet
  Inside = joined n (λ k. cb k || cd k) (λ k. p k || ca k)

  -- the kinds that may not follow
  abbrev Blocks : KindSet
  Blocks = joined ny Inside fa

  no_b : (us : List Decorated) → Stop Blocks us → Stop cb us
  no_b us s = stop_left cb cd us (stop_joined n (λ k. cb k || cd k) (λ k. p k || ca k) us
      (stop_joined ny Inside fa us s))

  no_c : (us : List Decorated) → Stop Blocks us → Stop cd us
  no_c us s = stop_right cb cd us (stop_joined n (λ k. cb k || cd k) (λ k. p k || ca k) us
      (stop_joined ny Inside fa us s))

  no_p : (us : List Decorated) → Stop Blocks us → n ≡ true → Stop p us
  no_p us s o = stop_left p ca us (stop_second n (λ k. cb k || cd k) (λ k. p k || ca k) us
      (stop_joined ny Inside fa us s) o)

  no_a : (us : List Decorated) → Stop Blocks us → n ≡ true → Stop ca us
  no_a us s o = stop_right p ca us (stop_second n (λ k. cb k || cd k) (λ k. p k || ca k) us
      (stop_joined ny Inside fa us s) o)

  end_complete : Complete (finish p Y Z) Last Blocks
  end_complete ts d us m r (inl (u, v, e, f, i, j, (t, k, l, h), w)) s =
      opened (finish p Y Z) ts us v u t d e f (marks_of t [] []) m r i k j l
      (ap (λ o. choose o (Y (take p [] [] (going (t ∷ (v ++ us)) m
      (length (marks_of t [] [] ++ f) + r)))) (Z (going (t ∷ (v ++ us)) m
      (length (marks_of t [] [] ++ f) + r)))) h
      ∙ after_token p [] Y B cb y t v f us m r h w (no_b us s))
  end_complete ts d us m r (inr w) s =
      ap (λ o. choose o (Y (take p [] [] (going (ts ++ us) m (length d + r))))
      (Z (going (ts ++ us) m (length d + r))))
      (begins_stop p (ts ++ us) m (length d + r) (stop_begun n fc p ts us (gc ts d w) a4
      (no_p us s)))
      ∙ z ts d us m r w (no_c us s)

  end_stops : (ts : List Decorated) (d : List Mark) (us : List Decorated) → Last ts d
      → Stop Blocks us → Stop ca (ts ++ us)
  end_stops ts d us (inl (u, v, e, f, i, j, (t, k, l, h), w)) s =
      subst (λ z. Stop ca (z ++ us)) (sym (i ∙ ap (λ z. z ++ v) k))
      (apart_back ca p a2 (kind_of_decorated t) h)
  end_stops ts d us (inr w) s = stop_begun n fc ca ts us (gc ts d w) a3 (no_a us s)

  end_over : (ts : List Decorated) (d : List Mark) (us : List Decorated) → Last ts d
      → Stop Blocks us → (m : List Mark) (r : ℕ)
      → goes p fa (going (ts ++ us) m r) ≡ false
  end_over ts d us (inl (u, v, e, f, i, j, (t, k, l, h), w)) s m r =
      ap (λ z. goes p fa (going (z ++ us) m r)) (i ∙ ap (λ z. z ++ v) k)
      ∙ and_no (p (kind_of_decorated t)) _ (begins_stop fa (v ++ us) m r
      (stop_begun ny fb fa v us (gb v f w) a1 (λ o. stop_second ny Inside fa us s o)))
  end_over ts d us (inr w) s m r = ap (λ o. o && second fa (going (ts ++ us) m r))
      (begins_stop p (ts ++ us) m r (stop_begun n fc p ts us (gc ts d w) a4 (no_p us s)))

  tail_complete : Complete (λ s. finish p Y Z (turns (goes p fa) (λ w. P (take p [] [] w)) (size s)
      s)) (Many (Token p [] [] ⋄ A) ⋄ Last) Blocks
  tail_complete ts w us m r (u, v, e, f, i, j, k, l) s =
      let G : State → State = λ q. finish p Y Z (turns (goes p fa) (λ w. P (take p [] [] w))
      (size q) q) in
      ap (λ q. G (going (q ++ us) m (length w + r))) i ∙
      (ap (λ q. G (going q m (length w + r))) (append_assoc u v us)
      ∙ (ap (λ q. G (going (u ++ (v ++ us)) m q)) (shared w e f r j)
      ∙ (ap (finish p Y Z) (many_complete (goes p fa) p ca (λ w. P (take p [] [] w))
      (Token p [] [] ⋄ A) (token_then p [] P A ca x) a2
      (token_begun p [] [] A) (goes_begun p fa [] A ga)
      (v ++ us) (end_over v f us l s) (end_stops v f us l s) (suc (length (u ++ (v ++ us)))) u e m
      (length f + r) (omega arith) k)
      ∙ (end_complete v f us (m ++ e) r l s ∙ ap (λ q. going us q r) (append_assoc m e f
      ∙ ap (λ q. m ++ q) (sym j))))))

module _ (room : Bool) (E : State → State) (X : Lang) (b : Starts X false expr_first)
    (complete : Complete E X expr_clash) where
  abbrev Does : Rule → State → State
  Does R = run room E R

  abbrev Means : Rule → Lang
  Means R = means room X R

  reads_put : (w : List Mark) → Complete (Does (put w)) (Put w) no_kind
  reads_put w ts d us m r (e, f) s = ap (λ z. add_all w (going (z ++ us) m (length d + r))) e
      ∙ (ap (λ z. add_all w (going us m (length z + r))) f
      ∙ (adds_room w us m r ∙ ap (λ z. going us (m ++ z) r) (sym f)))

  reads_token : (p : KindSet) (v n : List Mark) → Complete (take p v n) (Token p v n) no_kind
  reads_token p v n ts d us m r (t, e, f, g) s = ap (λ z. take p v n
      (going (z ++ us) m (length d + r))) e
      ∙ (ap (λ z. take p v n (going (t ∷ us) m (length z + r))) f
      ∙ (takes p v n t us m r g ∙ ap (λ z. going us (m ++ z) r) (sym f)))

  reads_never : Complete (Does never) Never no_kind
  reads_never ts d us m k x s = absurd x

  -- the opening token and what is inside
  abbrev Open : Kind → List Mark → Rule → Lang
  Open k ms a = Put ms ⋄ Token (is k) [] [] ⋄ Means a

  open_complete : (k : Kind) (ms : List Mark) (a : Rule) → Complete (Does a) (Means a) (clash a)
      → Complete (λ s. Does a (take (is k) [] [] (add_all ms s))) (Open k ms a) (clash a)
  open_complete k ms a x ts d us m r (u, v, e, f, i, j, (p, q), y) s =
      let F : State → State = λ s. Does a (take (is k) [] [] (add_all ms s)) in
      let t : ts ≡ v = i ∙ ap (λ z. z ++ v) p in
      let w : d ≡ ms ++ f = j ∙ ap (λ z. z ++ f) q in
      ap (λ z. F (going (z ++ us) m (length d + r))) t ∙
      (ap (λ z. F (going (v ++ us) m z)) (shared d ms f r w)
      ∙ (ap (λ z. Does a (take (is k) [] [] z)) (adds_room ms (v ++ us) m (length f + r))
      ∙ (token_then (is k) [] (Does a) (Means a) (clash a) x v f us (m ++ ms) r y s
      ∙ ap (λ z. going us z r) (append_assoc m ms f ∙ ap (λ z. m ++ z) (sym w)))))

  reads_deeper : (k : Kind) (ms : List Mark) (a : Rule) → Complete (Does a) (Means a) (clash a)
      → Complete (Does (deeper k ms a)) (Deeper room (Open k ms a)) (clash a)
  reads_deeper k ms a x ts d us m i (r, y) s =
      ap (λ z. choose z (choose room (Does a (take (is k) [] []
      (add_all ms (going (ts ++ us) m (length d + i))))) (refused true (ts ++ us)))
      (refused false (ts ++ us)))
      (begins_begun (is k) ts us m (length d + i) (opens ts d y))
      ∙ (ap (λ z. choose z (Does a (take (is k) [] [] (add_all ms
      (going (ts ++ us) m (length d + i))))) (refused true (ts ++ us))) r
      ∙ open_complete k ms a x ts d us m i y s)
    where
      opens : Starts (Open k ms a) false (is k)
      opens ts d (u, v, e, f, i, j, p, y) = subst (Begun false (is k)) (sym (i
          ∙ ap (λ z. z ++ v) p.0)) (token_begun (is k) [] [] (Means a) v f y)

  reads_lifted : (a : Rule) → Complete (Does a) (Means a) (clash a)
      → Complete (Does (lifted a)) (Lifted (Means a)) (clash a)
  reads_lifted a x ts d us m r (t, vs, e, i, j, k) s =
      let l = lead_of t.leading in
      ap (λ z. Does a (lift (going (z ++ us) m (length d + r)))) i
      ∙ (ap (λ z. Does a (lift (going (t ∷ (vs ++ us)) m z))) (shared d l e r j)
      ∙ (ap (Does a) (lift_room t (vs ++ us) m (length e + r))
      ∙ (x (bare_token t ∷ vs) e us (m ++ l) r k s
      ∙ ap (λ z. going us z r) (append_assoc m l e ∙ ap (λ z. m ++ z) (sym j)))))

  full : (a : Rule) → IsTrue (decided a) → IsTrue (not (nullable a))
      → Starts (Means a) false (first a)
  full a h n = full_of room X b a n (means_begun room X b a h)

  reads_star : (a : Rule) → IsTrue (decided (star a)) → Complete (Does a) (Means a) (clash a)
      → Complete (Does (star a)) (Many (Means a)) (clash (star a))
  reads_star a h x ts d us m r k s =
      let i = and_second (decided a) _ h in
      let g = full a (and_first (decided a) _ h) (and_first (not (nullable a)) _ i) in
      many_complete (begins (first a)) (first a) (clash a) (Does a) (Means a) x
      (and_second (not (nullable a)) _ i)
      g (λ ts e us m r y. begins_begun (first a) ts us m r (g ts e y)) us
      (λ m r. begins_stop (first a) us m r (stop_left (first a) (clash a) us s))
      (stop_right (first a) (clash a) us s)
      (suc (length (ts ++ us))) ts d m r (omega arith) k

  -- a row of the rule is read and written so, if no token follows that goes on with it
  pub run_complete : (R : Rule) → IsTrue (decided R) → Complete (Does R) (Means R) (clash R)
  run_complete never h = reads_never
  run_complete inner h = complete
  run_complete (put w) h = reads_put w
  run_complete (token p v n) h = reads_token p v n
  run_complete (then a c) h =
      let i = and_second (decided a) _ h in
      then_complete (Does a) (Does c) (Means a) (Means c) (clash a) (clash c) (first c) (nullable c)
      (run_complete a (and_first (decided a) _ h)) (run_complete c (and_first (decided c) _ i))
      (and_second (decided c) _ i)
      (means_begun room X b c (and_first (decided c) _ i))
  run_complete (either a c) h =
      let i = and_second (decided a) _ h in
      let j = and_second (decided c) _ i in
      either_complete (Does a) (Does c) (Means a) (Means c) (clash a) (clash c) (first a) (first c)
      (nullable c)
      (run_complete a (and_first (decided a) _ h)) (run_complete c (and_first (decided c) _ i))
      (and_second (not (nullable a)) _ j)
      (full a (and_first (decided a) _ h) (and_first (not (nullable a)) _ j))
      (means_begun room X b c (and_first (decided c) _ i))
  run_complete (star a) h = reads_star a h (run_complete a (and_first (decided a) _ h))
  run_complete (peek q a c) h =
      let i = and_second (decided a) _ h in
      let j = and_second (decided c) _ i in
      peek_complete q (Does a) (Does c) (Means a) (Means c) (clash a) (clash c) (least c)
      (and_second (covers q (least a)) _ j)
      (λ ts e y. means_least room X c ts e y) (run_complete a (and_first (decided a) _ h))
      (run_complete c (and_first (decided c) _ i))
  run_complete (fork p m n a c) h =
      let i = and_second (decided a) _ h in
      let j = and_second (decided c) _ i in
      fork_complete p m n (Does a) (Does c) (Means a) (Means c) (clash a) (clash c) (first a)
      (first c) (nullable c)
      (run_complete a (and_first (decided a) _ h)) (run_complete c (and_first (decided c) _ i))
      (and_second (not (nullable a)) _ j)
      (full a (and_first (decided a) _ h) (and_first (not (nullable a)) _ j))
      (means_begun room X b c (and_first (decided c) _ i))
  run_complete (tail k x y z) h =
      let p : KindSet = is k in
      let hy = and_second (decided x) _ h in
      let hz = and_second (decided y) _ hy in
      let nx = and_second (decided z) _ hz in
      let a1 = and_second (not (nullable x)) _ nx in
      let a2 = and_second (apart (first x) (first y)) _ a1 in
      let a3 = and_second (apart (clash x) p) _ a2 in
      tail_complete p (Does x) (Does y) (Does z) (Means x) (Means y) (Means z) (clash x) (clash y)
      (clash z) (first x) (first y) (first z)
      (nullable y) (nullable z)
      (run_complete x (and_first (decided x) _ h)) (run_complete y (and_first (decided y) _ hy))
      (run_complete z (and_first (decided z) _ hz))
      (full x (and_first (decided x) _ h) (and_first (not (nullable x)) _ nx))
      (means_begun room X b y (and_first (decided y) _ hy))
      (means_begun room X b z (and_first (decided z) _ hz))
      (and_first (apart (first x) (first y)) _ a1) (and_first (apart (clash x) p) _ a2)
      (and_first (apart (clash x) (first z)) _ a3)
      (and_second (apart (clash x) (first z)) _ a3)
  run_complete (lifted a) h = reads_lifted a (run_complete a (and_first (decided a) _ h))
  run_complete (deeper k ms a) h = reads_deeper k ms a (run_complete a h)

-- ---- expressions and policies
module _ (i : ℤ) where
  stop_expr : (us : List Decorated) → Stop expr_clash us → Stop (clash (lines.expr i)) us
  stop_expr [] s = tt
  stop_expr (t ∷ us) s = go (clash (lines.expr i) (kind_of_decorated t)) refl
    where
      go : (b : Bool) → clash (lines.expr i) (kind_of_decorated t) ≡ b
          → clash (lines.expr i) (kind_of_decorated t) ≡ false
      go true e = let j = within_at (clash (lines.expr i)) expr_clash (expr_goes_on i)
          (kind_of_decorated t) e in absurd cc
      go false e = e

  begun_expr : (ts : List Decorated) → Begun false (first (lines.expr i)) ts
      → Begun false expr_first ts
  begun_expr [] b = b
  begun_expr (t ∷ ts) b = within_at (first (lines.expr i)) expr_first (expr_begins i)
      (kind_of_decorated t) b

  pub no_rows : Starts Never false expr_first
  no_rows ts d x = absurd x

  pub expr_begun : (n : ℕ) → Starts (Expr i n) false expr_first
  expr_begun zero ts e x = begun_expr ts (means_begun false Never no_rows (lines.expr i)
      (expr_decided i) ts e x)
  expr_begun (suc n) ts e x = begun_expr ts (means_begun true (Expr i n) (expr_begun n)
      (lines.expr i) (expr_decided i) ts e x)

  pub expr_complete : (n : ℕ) → Complete (expr_to i n) (Expr i n) expr_clash
  expr_complete zero ts e us m r x s =
      run_complete false (refuse true) Never no_rows (λ _ _ _ _ _ x _. absurd x) (lines.expr i)
      (expr_decided i) ts e us m r x (stop_expr us s)
  expr_complete (suc n) ts e us m r x s =
      run_complete true (expr_to i n) (Expr i n) (expr_begun n) (expr_complete n) (lines.expr i)
      (expr_decided i) ts e us m r x (stop_expr us s)

  stop_policy : (us : List Decorated) → Stop (clash (lines.policy i)) us
  stop_policy [] = tt
  stop_policy (t ∷ us) = go (clash (lines.policy i) (kind_of_decorated t)) refl
    where
      go : (b : Bool) → clash (lines.policy i) (kind_of_decorated t) ≡ b
          → clash (lines.policy i) (kind_of_decorated t) ≡ false
      go true e = let j = within_at (clash (lines.policy i)) no_kind (policy_ends i)
          (kind_of_decorated t) e in absurd cc
      go false e = e

  pub policy_complete : (n : ℕ) → (ts : List Decorated) (d : List Mark) (us : List Decorated)
      (m : List Mark) (r : ℕ) → Policy i n ts d
      → policy_to i n (going (ts ++ us) m (length d + r)) ≡ going us (m ++ d) r
  policy_complete n ts d us m r x =
      run_complete true (expr_to i n) (Expr i n) (expr_begun n) (expr_complete n) (lines.policy i)
      (policy_decided i) ts d us m r x (stop_policy us)
