-- What a rule has read and written is one of its rows.
use Rattle.std.proofs.Common.{◌≡◌, ℕ, zero, suc, ℤ, ◌<◌, ◌≤◌, ◌+◌, Bool, true, false, List, [], ◌∷◌, ◌++◌, length, length-append, refl, sym, ap, ◌∙◌, arith, subst, append_assoc, append-nil, inl, inr, ◌⊎◌}
use Rattle.std.specs.Prelude.{◌==◌, ◌-◌, IsTrue}
use Rattle.std.proofs.lemmas.Bool.{not-true}
use Rattle.cedar_tokens.specs.Listing.{Decorated, token_value}
use Rattle.cedar_tokens.specs.declared.kind.Kind.{Kind}
use Rattle.cedar_tokens.specs.Kinds.{is}
use Rattle.cedar_grammar.specs.Laws.{kind_of_decorated}
use Rattle.cedar_grammar.proofs.Booleans.{and_first, and_second}
use Rattle.cedar_laws.specs.Table.{bare_token}
use Rattle.cedar_print.specs.WrittenMarks.{Mark, lead_of, trail_of, marks_of}
use Rattle.cedar_print.specs.WrittenMarks as M
use Rattle.cedar_writer.specs.Rules.{Rule, never, inner, put, token, then, either, star, tail, deeper, lifted, fork, peek}
use Rattle.cedar_writer.specs.Lines as lines
use Rattle.cedar_writer.specs.Languages.{Lang, ◌⋄◌, ◌∪◌, Many, no_more, one_more, Never, Put, Token, Deeper, Lifted, looks, means, Expr, Policy}
use Rattle.cedar_writer.specs.Writing.{State, going, refused, lost, choose, nullable, first, begins, second, goes, refuse, add, add_all, skip, show, take, bare_first, lift, size, turns, finish, run, expr_to, policy_to}
use Rattle.cedar_writer.proofs.Tests.{decided, least, covers, expr_decided, policy_decided}
use Rattle.cedar_writer.proofs.Moves.{IsTest, begins_test, goes_test, Keeps, Moves, run_moves, refuse_keeps, refuse_moves, expr_keeps, expr_moves}

-- ---- a failure is for ever
pub record IsSteady (P : State → State) : Type 0 where
  pub refusal : (x : Bool) (ts : List Decorated) → P (refused x ts) ≡ refused x ts
  pub loss : P lost ≡ lost

adds_lost : (xs : List Mark) → add_all xs lost ≡ lost
adds_lost [] = refl
adds_lost (x ∷ xs) = adds_lost xs

adds_refused : (xs : List Mark) (b : Bool) (ts : List Decorated)
    → add_all xs (refused b ts) ≡ refused b ts
adds_refused [] b ts = refl
adds_refused (x ∷ xs) b ts = adds_refused xs b ts

module _ (room : Bool) (E : State → State) (e : IsSteady E) where
  run_refused : (x : Bool) (ts : List Decorated) (R : Rule)
      → run room E R (refused x ts) ≡ refused x ts
  run_refused x ts never = refl
  run_refused x ts inner = e.refusal x ts
  run_refused x ts (put ms) = adds_refused ms x ts
  run_refused x ts (token p v n) = refl
  run_refused x ts (then a b) = ap (run room E b) (run_refused x ts a) ∙ run_refused x ts b
  run_refused x ts (either a b) = run_refused x ts b
  run_refused x ts (star a) = refl
  run_refused x ts (deeper k ms a) = refl
  run_refused x ts (lifted a) = run_refused x ts a
  run_refused x ts (peek q a b) = run_refused x ts b
  run_refused x ts (fork p m n a b) = run_refused x ts b
  run_refused x ts (tail p a b c) = run_refused x ts c

  run_lost : (R : Rule) → run room E R lost ≡ lost
  run_lost never = refl
  run_lost inner = e.loss
  run_lost (put ms) = adds_lost ms
  run_lost (token p v n) = refl
  run_lost (then a b) = ap (run room E b) (run_lost a) ∙ run_lost b
  run_lost (either a b) = run_lost b
  run_lost (star a) = refl
  run_lost (deeper k ms a) = refl
  run_lost (lifted a) = run_lost a
  run_lost (peek q a b) = run_lost b
  run_lost (fork p m n a b) = run_lost b
  run_lost (tail p a b c) = run_lost c

  pub run_steady : (R : Rule) → IsSteady (run room E R)
  run_steady R = record { refusal = λ x ts. run_refused x ts R; loss = run_lost R }

-- ---- what is written, if there is room
abbrev pub Gives : State → List Decorated → List Mark → Type 0
Gives s ts ms = (s ≡ lost) ⊎ ((r : ℕ) × (s ≡ going ts ms r))

add_gives : (x : Mark) (ts : List Decorated) (ms : List Mark) (r : ℕ)
    → Gives (add x (going ts ms r)) ts (ms ++ (x ∷ []))
add_gives x ts ms r = go (r == 0)
  where
    go : (b : Bool) → Gives (choose b lost (going ts (ms ++ (x ∷ [])) (r - 1))) ts (ms ++ (x ∷ []))
    go true = inl refl
    go false = inr (r - 1, refl)

adds_on : (x : Mark) (xs : List Mark) (ts : List Decorated) (ms : List Mark) (s : State)
    → ((ns : List Mark) (r : ℕ) → Gives (add_all xs (going ts ns r)) ts (ns ++ xs))
    → Gives s ts (ms ++ (x ∷ [])) → Gives (add_all xs s) ts (ms ++ (x ∷ xs))
adds_on x xs ts ms s again (inl e) = inl (ap (add_all xs) e ∙ adds_lost xs)
adds_on x xs ts ms s again (inr (r, e)) = go (again (ms ++ (x ∷ [])) r)
  where
    go : Gives (add_all xs (going ts (ms ++ (x ∷ [])) r)) ts ((ms ++ (x ∷ [])) ++ xs)
        → Gives (add_all xs s) ts (ms ++ (x ∷ xs))
    go (inl h) = inl (ap (add_all xs) e ∙ h)
    go (inr (q, h)) = inr (
      q,
      ap (add_all xs) e ∙ (h ∙ ap (λ z. going ts z q)
          (append_assoc ms (x ∷ []) xs)),
    )

pub adds_give : (xs : List Mark) (ts : List Decorated) (ms : List Mark) (r : ℕ)
    → Gives (add_all xs (going ts ms r)) ts (ms ++ xs)
adds_give [] ts ms r = inr (r, ap (λ z. going ts z r) (sym (append-nil ms)))
adds_give (x ∷ xs) ts ms r = adds_on x xs ts ms (add x (going ts ms r)) (adds_give xs ts)
    (add_gives x ts ms r)

pub adds_join : (xs ys : List Mark) (s : State) → add_all ys (add_all xs s) ≡ add_all (xs ++ ys) s
adds_join [] ys s = refl
adds_join (x ∷ xs) ys s = adds_join xs ys (add x s)

pub show_whole : (t : Decorated) (v n : List Mark) (s : State)
    → show t v n s ≡ skip (add_all (marks_of t v n) s)
show_whole t v n s = ap skip (adds_join v (trail_of t.trailing n)
    (add (M.text (token_value t.text)) (add_all (lead_of t.leading) s))
    ∙ adds_join (lead_of t.leading) (M.text (token_value t.text) ∷ (v ++ trail_of t.trailing n)) s)

pub show_gives : (t : Decorated) (v n : List Mark) (ts : List Decorated) (ms : List Mark) (r : ℕ)
    → Gives (show t v n (going (t ∷ ts) ms r)) ts (ms ++ marks_of t v n)
show_gives t v n ts ms r = go (adds_give (marks_of t v n) (t ∷ ts) ms r)
  where
    go : Gives (add_all (marks_of t v n) (going (t ∷ ts) ms r)) (t ∷ ts) (ms ++ marks_of t v n)
        → Gives (show t v n (going (t ∷ ts) ms r)) ts (ms ++ marks_of t v n)
    go (inl h) = inl (show_whole t v n (going (t ∷ ts) ms r) ∙ ap skip h)
    go (inr (q, h)) = inr (q, show_whole t v n (going (t ∷ ts) ms r) ∙ ap skip h)

pub lift_gives : (t : Decorated) (ts : List Decorated) (ms : List Mark) (r : ℕ)
    → Gives (lift (going (t ∷ ts) ms r)) (bare_token t ∷ ts) (ms ++ lead_of t.leading)
lift_gives t ts ms r = go (adds_give (lead_of t.leading) (t ∷ ts) ms r)
  where
    go : Gives (add_all (lead_of t.leading) (going (t ∷ ts) ms r)) (t ∷ ts)
        (ms ++ lead_of t.leading)
        → Gives (lift (going (t ∷ ts) ms r)) (bare_token t ∷ ts) (ms ++ lead_of t.leading)
    go (inl h) = inl (ap bare_first h)
    go (inr (q, h)) = inr (q, ap bare_first h)

-- ---- what was read
pub record IsRead (X : List Decorated → List Mark → Type 0) (ts us : List Decorated)
    (ms ns : List Mark) : Type 0 where
  pub tokens : List Decorated
  pub marks : List Mark
  pub split : ts ≡ tokens ++ us
  pub written : ns ≡ ms ++ marks
  pub row : X tokens marks

abbrev pub Sound : (State → State) → Lang → Type 0
Sound P X = (ts us : List Decorated) (ms ns : List Mark) (r q : ℕ)
    → P (going ts ms r) ≡ going us ns q → IsRead X ts us ms ns

pub same_tokens : {ts us : List Decorated} {ms ns : List Mark} {r q : ℕ}
    → going ts ms r ≡ going us ns q → ts ≡ us
same_tokens e = cc

pub same_marks : {ts us : List Decorated} {ms ns : List Mark} {r q : ℕ}
    → going ts ms r ≡ going us ns q → ms ≡ ns
same_marks e = cc

lost_going : {us : List Decorated} {ns : List Mark} {q : ℕ} → lost ≡ going us ns q → ⊥
lost_going e = absurd cc

refused_going : {b : Bool} {ts us : List Decorated} {ns : List Mark} {q : ℕ}
    → refused b ts ≡ going us ns q → ⊥
refused_going e = absurd cc

-- no token is read, and these marks are written
read_none : (X : Lang) (ts us : List Decorated) (ms ns d : List Mark) → ts ≡ us → ns ≡ ms ++ d
    → X [] d → IsRead X ts us ms ns
read_none X ts us ms ns d s e x = record { tokens = []; marks = d; split = s; written = e; row = x }

then_read : (X Y : Lang) {ts us vs : List Decorated} {m n k : List Mark} → IsRead X ts us m n
    → IsRead Y us vs n k → IsRead (X ⋄ Y) ts vs m k
then_read X Y {ts} {us} {vs} {m} {n} {k} x y = record {
  tokens = x.tokens ++ y.tokens;
  marks = x.marks ++ y.marks;
  split = x.split ∙ (ap (λ z. x.tokens ++ z) y.split ∙ sym (append_assoc x.tokens y.tokens vs));
  written = y.written ∙ (ap (λ z. z ++ y.marks) x.written ∙ append_assoc m x.marks y.marks);
  row = (x.tokens, y.tokens, x.marks, y.marks, refl, refl, x.row, y.row);
}

then_sound : (P Q : State → State) (X Y : Lang) → IsSteady Q → Sound P X → Sound Q Y
    → Sound (λ s. Q (P s)) (X ⋄ Y)
then_sound P Q X Y q x y ts vs m k i j e = go (P (going ts m i)) refl
  where
    go : (s : State) → P (going ts m i) ≡ s → IsRead (X ⋄ Y) ts vs m k
    go (going us n w) h = then_read X Y (x ts us m n i w h) (y us vs n k w j (ap Q (sym h) ∙ e))
    go (refused b n) h = absurd (refused_going (sym (q.refusal b n) ∙ (ap Q (sym h) ∙ e)))
    go lost h = absurd (lost_going (sym q.loss ∙ (ap Q (sym h) ∙ e)))

more_read : (X : Lang) {ts us vs : List Decorated} {m n k : List Mark} → IsRead X ts us m n
    → IsRead (Many X) us vs n k → IsRead (Many X) ts vs m k
more_read X {ts} {us} {vs} {m} {n} {k} x y = record {
  tokens = x.tokens ++ y.tokens;
  marks = x.marks ++ y.marks;
  split = x.split ∙ (ap (λ z. x.tokens ++ z) y.split ∙ sym (append_assoc x.tokens y.tokens vs));
  written = y.written ∙ (ap (λ z. z ++ y.marks) x.written ∙ append_assoc m x.marks y.marks);
  row = one_more x.tokens y.tokens x.marks y.marks x.row y.row;
}

pub turns_steady : (T : State → Bool) (z : IsTest T) (P : State → State) (n : ℕ)
    → IsSteady (turns T P n)
turns_steady T z P zero = record { refusal = λ x ts. refl; loss = refl }
turns_steady T z P (suc k) = record {
  refusal = λ x ts. ap (λ b. choose b (turns T P k (P (refused x ts))) (refused x ts))
      (z.refusal x ts);
  loss = ap (λ b. choose b (turns T P k (P lost)) lost) z.loss;
}

no_turn : (X : Lang) (ts us : List Decorated) (m k : List Mark) (i j : ℕ)
    → going ts m i ≡ going us k j → IsRead (Many X) ts us m k
no_turn X ts us m k i j e = read_none (Many X) ts us m k [] (same_tokens e) (sym (same_marks e)
    ∙ sym (append-nil m)) no_more

turn_sound : (T : State → Bool) (z : IsTest T) (P : State → State) (X : Lang) (n : ℕ) → Sound P X
    → Sound (turns T P n) (Many X)
    → (ts us : List Decorated) (m k : List Mark) (i j : ℕ) → (b : Bool)
    → choose b (turns T P n (P (going ts m i))) (going ts m i) ≡ going us k j
    → IsRead (Many X) ts us m k
turn_sound T z P X n x r ts us m k i j true e = go (P (going ts m i)) refl
  where
    go : (s : State) → P (going ts m i) ≡ s → IsRead (Many X) ts us m k
    go (going vs l w) h = more_read X (x ts vs m l i w h) (r vs us l k w j (ap (turns T P n) (sym h)
        ∙ e))
    go (refused b l) h = absurd (refused_going (sym ((turns_steady T z P n).refusal b l)
        ∙ (ap (turns T P n) (sym h) ∙ e)))
    go lost h = absurd (lost_going (sym (turns_steady T z P n).loss
        ∙ (ap (turns T P n) (sym h) ∙ e)))
turn_sound T z P X n x r ts us m k i j false e = no_turn X ts us m k i j e

turns_sound : (T : State → Bool) (z : IsTest T) (P : State → State) (X : Lang) → Sound P X → (n : ℕ)
    → Sound (turns T P n) (Many X)
turns_sound T z P X x zero ts us m k i j e = no_turn X ts us m k i j e
turns_sound T z P X x (suc n) ts us m k i j e = turn_sound T z P X n x (turns_sound T z P X x n) ts
    us m k i j (T (going ts m i)) e

unlift : (X : Lang) (t : Decorated) (ts us xs : List Decorated) (m n e : List Mark)
    → length us < suc (length ts) → bare_token t ∷ ts ≡ xs ++ us
    → n ≡ (m ++ lead_of t.leading) ++ e → X xs e → IsRead (Lifted X) (t ∷ ts) us m n
unlift X t ts us [] m n e h i j x = let a = ap length i in absurd (omega (arith, a, h))
unlift X t ts us (y ∷ xs) m n e h i j x =
    let k : bare_token t ∷ ts ≡ y ∷ (xs ++ us) = i in
    let a : y ≡ bare_token t = cc in
    let b : ts ≡ xs ++ us = cc in
    record {
      tokens = t ∷ xs;
      marks = lead_of t.leading ++ e;
      split = ap (λ z. t ∷ z) b;
      written = j ∙ append_assoc m (lead_of t.leading) e;
      row = (t, xs, e, refl, refl, subst (λ z. X (z ∷ xs) e) a x);
    }

lifted_sound : (P : State → State) (X : Lang) → Moves P → P lost ≡ lost → Sound P X
    → Sound (λ s. P (lift s)) (Lifted X)
lifted_sound P X p l x [] us m n r q e = let a = p (going [] m r) (omega arith) in let b =
    ap size e in absurd (omega (arith, a, b))
lifted_sound P X p l x (t ∷ ts) us m n r q e = go (lift_gives t ts m r)
  where
    go : Gives (lift (going (t ∷ ts) m r)) (bare_token t ∷ ts) (m ++ lead_of t.leading)
        → IsRead (Lifted X) (t ∷ ts) us m n
    go (inl h) = absurd (lost_going (sym l ∙ (ap P (sym h) ∙ e)))
    go (inr (k, h)) =
        let i = ap P (sym h) ∙ e in
        let y = x (bare_token t ∷ ts) us (m ++ lead_of t.leading) n k q i in
        let a = p (going (bare_token t ∷ ts) (m ++ lead_of t.leading) k) (omega arith) in
        let b = ap size i in
        unlift X t ts us y.tokens m n y.marks (omega (arith, a, b)) y.split y.written y.row

-- ---- tokens ahead

-- what a row begins with, it begins with whatever follows
pub looks_more : (q : List (Kind → Bool)) (xs us : List Decorated) → looks q xs ≡ true
    → looks q (xs ++ us) ≡ true
looks_more [] xs us e = refl
looks_more (p ∷ q) [] us e = absurd cc
looks_more (p ∷ q) (t ∷ xs) us e =
    rw (and_first (p (kind_of_decorated t)) (looks q xs) e)
    (looks_more q xs us (and_second (p (kind_of_decorated t)) (looks q xs) e))

pub looks_covered : (q : List (Kind → Bool)) (n : ℕ) (xs us : List Decorated) → covers q n ≡ true
    → n ≤ length xs
    → looks q (xs ++ us) ≡ true → looks q xs ≡ true
looks_covered [] n xs us c h e = refl
looks_covered (p ∷ q) zero xs us c h e = absurd cc
looks_covered (p ∷ q) (suc n) [] us c h e = absurd (omega (arith, h))
looks_covered (p ∷ q) (suc n) (t ∷ xs) us c h e =
    rw (and_first (p (kind_of_decorated t)) (looks q (xs ++ us)) e)
    (looks_covered q n xs us c (omega (arith, h)) (and_second (p (kind_of_decorated t))
    (looks q (xs ++ us)) e))

looks_less : (q : List (Kind → Bool)) (xs us : List Decorated) → looks q (xs ++ us) ≡ false
    → (b : Bool) → looks q xs ≡ b → looks q xs ≡ false
looks_less q xs us e true h = let i = looks_more q xs us h in absurd cc
looks_less q xs us e false h = h

pub means_least : (room : Bool) (X : Lang) (R : Rule) (ts : List Decorated) (d : List Mark)
    → means room X R ts d → least R ≤ length ts
means_least room X never ts d x = omega arith
means_least room X inner ts d x = omega arith
means_least room X (put m) ts d x = omega arith
means_least room X (token p v n) ts d (t, e, x, y) = rw e (omega arith)
means_least room X (then a b) ts d (us, vs, e, f, i, j, x, y) =
    let p = means_least room X a us e x in
    let q = means_least room X b vs f y in
    let l = ap length i ∙ length-append us vs in omega (arith, p, q, l)
means_least room X (either a b) ts d x = omega arith
means_least room X (star a) ts d x = omega arith
means_least room X (deeper k ms a) ts d x = omega arith
means_least room X (lifted a) ts d (t, us, e, i, j, x) =
    let p = means_least room X a (bare_token t ∷ us) e x in
    let l = ap length i in omega (arith, p, l)
means_least room X (tail p a b c) ts d x = omega arith
means_least room X (peek q a b) ts d x = omega arith
means_least room X (fork p m n a b) ts d (inl (us, vs, e, f, i, j, (t, k, l, h), x)) =
    let o = ap length i ∙ (length-append us vs ∙ ap (λ z. length z + length vs) k) in
    omega (arith, o)
means_least room X (fork p m n a b) ts d (inr (us, vs, e, f, i, j, (t, k, l, h), x)) =
    let o = ap length i ∙ (length-append us vs ∙ ap (λ z. length z + length vs) k) in
    omega (arith, o)

module _ (room : Bool) (E : State → State) (X : Lang) (steady : IsSteady E) (keeps : Keeps E)
    (moves : Moves E) (sound : Sound E X) where
  abbrev Does : Rule → State → State
  Does R = run room E R

  abbrev Means : Rule → Lang
  Means R = means room X R

  read_put : (w : List Mark) → Sound (Does (put w)) (Put w)
  read_put w ts us m n r q e = go (adds_give w ts m r)
    where
      go : Gives (add_all w (going ts m r)) ts (m ++ w) → IsRead (Put w) ts us m n
      go (inl h) = absurd (lost_going (sym h ∙ e))
      go (inr (k, h)) = let a = sym h ∙ e in read_none (Put w) ts us m n w (same_tokens a)
          (sym (same_marks a)) (refl, refl)

  read_token : (p : Kind → Bool) (v w : List Mark) → Sound (take p v w) (Token p v w)
  read_token p v w [] us m n r q e = absurd (refused_going e)
  read_token p v w (t ∷ ts) us m n r q e = go (p (kind_of_decorated t)) refl
      (show_gives t v w ts m r) e
    where
      go : (b : Bool) → p (kind_of_decorated t) ≡ b → Gives (show t v w (going (t ∷ ts) m r)) ts
          (m ++ marks_of t v w)
          → choose b (show t v w (going (t ∷ ts) m r)) (refused false (t ∷ ts)) ≡ going us n q
          → IsRead (Token p v w) (t ∷ ts) us m n
      go true h (inl l) k = absurd (lost_going (sym l ∙ k))
      go true h (inr (c, l)) k = let a = sym l ∙ k in record {
        tokens = t ∷ [];
        marks = marks_of t v w;
        split = ap (λ z. t ∷ z) (same_tokens a);
        written = sym (same_marks a);
        row = (t, refl, refl, h);
      }
      go false h l k = absurd (refused_going k)

  weaker : (Y Z : Lang) {ts us : List Decorated} {m n : List Mark}
      → ((x : List Decorated) (d : List Mark) → Y x d → Z x d)
      → IsRead Y ts us m n → IsRead Z ts us m n
  weaker Y Z f r = record {
    tokens = r.tokens;
    marks = r.marks;
    split = r.split;
    written =
        r.written;
    row = f r.tokens r.marks r.row;
  }

  either_read : (a b : Rule) → Sound (Does a) (Means a) → Sound (Does b) (Means b)
      → Sound (Does (either a b)) (Means a ∪ Means b)
  either_read a b x y ts us m n r q e = go (begins (first a) (going ts m r)) e
    where
      go : (c : Bool) → choose c (Does a (going ts m r)) (Does b (going ts m r)) ≡ going us n q
          → IsRead (Means a ∪ Means b) ts us m n
      go true h = weaker (Means a) (Means a ∪ Means b) (λ z d w. inl w) (x ts us m n r q h)
      go false h = weaker (Means b) (Means a ∪ Means b) (λ z d w. inr w) (y ts us m n r q h)

  -- the opening token and what is inside
  abbrev Open : Kind → List Mark → Rule → Lang
  Open k ms a = Put ms ⋄ Token (is k) [] [] ⋄ Means a

  open_read : (k : Kind) (ms : List Mark) (a : Rule) → Sound (Does a) (Means a)
      → Sound (λ s. Does a (take (is k) [] [] (add_all ms s))) (Open k ms a)
  open_read k ms a x = then_sound (add_all ms) (λ s. Does a (take (is k) [] [] s)) (Put ms)
      (Token (is k) [] [] ⋄ Means a)
      (record {
        refusal = λ b ts. run_refused room E steady b ts a;
        loss =
            run_lost room E steady a;
      }) (read_put ms)
      (then_sound (take (is k) [] []) (Does a) (Token (is k) [] []) (Means a)
      (run_steady room E steady a) (read_token (is k) [] []) x)

  deeper_read : (k : Kind) (ms : List Mark) (a : Rule) → Sound (Does a) (Means a)
      → Sound (Does (deeper k ms a)) (Deeper room (Open k ms a))
  deeper_read k ms a x ts us m n j q e = go (begins (is k) (going ts m j)) room refl e
    where
      go : (c r : Bool) → room ≡ r → choose c (choose r
          (Does a (take (is k) [] [] (add_all ms (going ts m j)))) (refused true ts))
          (refused false ts) ≡ going us n q
          → IsRead (Deeper room (Open k ms a)) ts us m n
      go true true i h = weaker (Open k ms a) (Deeper room (Open k ms a)) (λ z d w. (i, w))
          (open_read k ms a x ts us m n j q h)
      go true false i h = absurd (refused_going h)
      go false r i h = absurd (refused_going h)

  read_never : Sound (Does never) Never
  read_never ts us m n r q e = absurd (refused_going e)

  star_read : (a : Rule) → Sound (Does a) (Means a) → Sound (Does (star a)) (Many (Means a))
  star_read a x ts us m n r q e = turns_sound (begins (first a)) (begins_test (first a)) (Does a)
      (Means a) x (suc (length ts)) ts us m n r q e

  fork_read : (p : Kind → Bool) (v w : List Mark) (a b : Rule) → Sound (Does a) (Means a)
      → Sound (Does b) (Means b)
      → Sound (Does (fork p v w a b)) (Means (fork p v w a b))
  fork_read p v w a b x y ts us m n r q e = go (second (first a) (going ts m r)) e
    where
      go : (c : Bool) → choose c (Does a (take p [] v (going ts m r)))
          (Does b (take p [] w (going ts m r))) ≡ going us n q
          → IsRead (Means (fork p v w a b)) ts us m n
      go true h = weaker (Token p [] v ⋄ Means a) (Means (fork p v w a b)) (λ _ _ z. inl z)
          (then_sound (take p [] v) (Does a) (Token p [] v) (Means a) (run_steady room E steady a)
          (read_token p [] v) x ts us m n r q h)
      go false h = weaker (Token p [] w ⋄ Means b) (Means (fork p v w a b)) (λ _ _ z. inr z)
          (then_sound (take p [] w) (Does b) (Token p [] w) (Means b) (run_steady room E steady b)
          (read_token p [] w) y ts us m n r q h)

  finish_read : (p : Kind → Bool) (a b : Rule) → Sound (Does a) (Means a) → Sound (Does b) (Means b)
      → Sound (finish p (Does a) (Does b)) (Token p [] [] ⋄ Means a ∪ Means b)
  finish_read p a b x y ts us m n r q e = go (begins p (going ts m r)) e
    where
      go : (c : Bool) → choose c (Does a (take p [] [] (going ts m r))) (Does b (going ts m r)) ≡
          going us n q
          → IsRead (Token p [] [] ⋄ Means a ∪ Means b) ts us m n
      go true h = weaker (Token p [] [] ⋄ Means a) (Token p [] [] ⋄ Means a ∪ Means b)
          (λ _ _ z. inl z)
          (then_sound (take p [] []) (Does a) (Token p [] []) (Means a) (run_steady room E steady a)
          (read_token p [] []) x ts us m n r q h)
      go false h = weaker (Means b) (Token p [] [] ⋄ Means a ∪ Means b) (λ _ _ z. inr z)
          (y ts us m n r q h)

  finish_steady : (p : Kind → Bool) (a b : Rule) → IsSteady (finish p (Does a) (Does b))
  finish_steady p a b = record {
    refusal = λ x ts. (run_steady room E steady b).refusal x ts;
    loss =
        (run_steady room E steady b).loss;
  }

  tail_read : (k : Kind) (a b c : Rule) → Sound (Does a) (Means a) → Sound (Does b) (Means b)
      → Sound (Does c) (Means c)
      → Sound (Does (tail k a b c)) (Means (tail k a b c))
  tail_read k a b c x y z = let p : Kind → Bool = is k in
      then_sound (λ w. turns (goes p (first a)) (λ v. Does a (take p [] [] v)) (size w) w)
      (finish p (Does b) (Does c))
      (Many (Token p [] [] ⋄ Means a)) (Token p [] [] ⋄ Means b ∪ Means c) (finish_steady p b c)
      (λ ts us m n r q e. turns_sound (goes p (first a)) (goes_test p (first a))
      (λ v. Does a (take p [] [] v)) (Token p [] [] ⋄ Means a)
      (then_sound (take p [] []) (Does a) (Token p [] []) (Means a) (run_steady room E steady a)
      (read_token p [] []) x)
      (suc (length ts)) ts us m n r q e)
      (finish_read p b c y z)

  peeked : (q : List (Kind → Bool)) (a b : Rule) {ts us : List Decorated} {m n : List Mark}
      → covers q (least a) ≡ true → looks q ts ≡ true
      → IsRead (Means a) ts us m n → IsRead (Means (peek q a b)) ts us m n
  peeked q a b {ts} {us} c h y = record {
    tokens = y.tokens;
    marks = y.marks;
    split = y.split;
    written = y.written;
    row = inl (
      looks_covered q (least a) y.tokens us c (means_least room X a y.tokens y.marks y.row)
          (ap (looks q) (sym y.split) ∙ h),
      y.row,
    );
  }

  unpeeked : (q : List (Kind → Bool)) (a b : Rule) {ts us : List Decorated} {m n : List Mark}
      → looks q ts ≡ false
      → IsRead (Means b) ts us m n → IsRead (Means (peek q a b)) ts us m n
  unpeeked q a b {ts} {us} h y = record {
    tokens = y.tokens;
    marks = y.marks;
    split = y.split;
    written = y.written;
    row = inr (
      looks_less q y.tokens us (ap (looks q) (sym y.split)
          ∙ h) (looks q y.tokens) refl,
      y.row,
    );
  }

  peek_read : (q : List (Kind → Bool)) (a b : Rule) → covers q (least a) ≡ true
      → Sound (Does a) (Means a) → Sound (Does b) (Means b)
      → Sound (Does (peek q a b)) (Means (peek q a b))
  peek_read q a b k x y ts us m n r p e = go (looks q ts) refl e
    where
      go : (c : Bool) → looks q ts ≡ c → choose c (Does a (going ts m r)) (Does b (going ts m r)) ≡
          going us n p
          → IsRead (Means (peek q a b)) ts us m n
      go true i h = peeked q a b k i (x ts us m n r p h)
      go false i h = unpeeked q a b i (y ts us m n r p h)

  lifted_read : (a : Rule) → nullable a ≡ false → Sound (Does a) (Means a)
      → Sound (Does (lifted a)) (Lifted (Means a))
  lifted_read a n x = lifted_sound (Does a) (Means a) (run_moves room E keeps moves a n)
      (run_steady room E steady a).loss x

  -- what is read and written is a row of the rule
  pub run_sound : (R : Rule) → IsTrue (decided R) → Sound (Does R) (Means R)
  run_sound never h = read_never
  run_sound inner h = sound
  run_sound (put w) h = read_put w
  run_sound (token p v w) h = read_token p v w
  run_sound (then a b) h = then_sound (Does a) (Does b) (Means a) (Means b)
      (run_steady room E steady b)
      (run_sound a (and_first (decided a) _ h)) (run_sound b
      (and_first (decided b) _ (and_second (decided a) _ h)))
  run_sound (either a b) h = either_read a b (run_sound a (and_first (decided a) _ h))
      (run_sound b (and_first (decided b) _ (and_second (decided a) _ h)))
  run_sound (star a) h = star_read a (run_sound a (and_first (decided a) _ h))
  run_sound (deeper k ms a) h = deeper_read k ms a (run_sound a h)
  run_sound (peek q a b) h =
      let i = and_second (decided a) _ h in
      let j = and_second (decided b) _ i in
      peek_read q a b (and_first (covers q (least a)) _ j) (run_sound a (and_first (decided a) _ h))
      (run_sound b (and_first (decided b) _ i))
  run_sound (fork p v w a b) h = fork_read p v w a b (run_sound a (and_first (decided a) _ h))
      (run_sound b (and_first (decided b) _ (and_second (decided a) _ h)))
  run_sound (tail p a b c) h =
      let i = and_second (decided a) _ h in
      tail_read p a b c (run_sound a (and_first (decided a) _ h))
      (run_sound b (and_first (decided b) _ i))
      (run_sound c (and_first (decided c) _ (and_second (decided b) _ i)))
  run_sound (lifted a) h = lifted_read a (not-true (nullable a) (and_second (decided a) _ h))
      (run_sound a (and_first (decided a) _ h))

pub too_deep_sound : Sound (refuse true) Never
too_deep_sound ts us m n r q e = absurd (refused_going e)

pub too_deep_steady : IsSteady (refuse true)
too_deep_steady = record { refusal = λ x n. refl; loss = refl }

module _ (i : ℤ) where
  pub expr_steady : (n : ℕ) → IsSteady (expr_to i n)
  expr_steady zero = run_steady false (refuse true) too_deep_steady (lines.expr i)
  expr_steady (suc n) = run_steady true (expr_to i n) (expr_steady n) (lines.expr i)

  pub expr_sound : (n : ℕ) → Sound (expr_to i n) (Expr i n)
  expr_sound zero = run_sound false (refuse true) Never too_deep_steady (refuse_keeps true)
      (refuse_moves true) too_deep_sound (lines.expr i) (expr_decided i)
  expr_sound (suc n) = run_sound true (expr_to i n) (Expr i n) (expr_steady n) (expr_keeps i n)
      (expr_moves i n) (expr_sound n) (lines.expr i) (expr_decided i)

  pub policy_sound : (n : ℕ) → Sound (policy_to i n) (Policy i n)
  policy_sound n = run_sound true (expr_to i n) (Expr i n) (expr_steady n) (expr_keeps i n)
      (expr_moves i n) (expr_sound n) (lines.policy i) (policy_decided i)
