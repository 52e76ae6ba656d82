-- A rule without its marks is a rule of the reader of trees, and reading and writing does to the
-- tokens what that reader does.
use Rattle.std.proofs.Common.{◌≡◌, ℕ, zero, suc, ◌<◌, Bool, true, false, ◌||◌, ◌&&◌, not, List, [], ◌∷◌, ◌++◌, length, map, refl, sym, ap, ◌∙◌, arith, subst, inl, inr}
use Rattle.std.specs.Prelude.{IsTrue}
use Rattle.std.proofs.lemmas.List.{length-map}
use Rattle.std.proofs.lemmas.Bool.{not-true}
use Rattle.cedar_tokens.specs.Listing.{Decorated}
use Rattle.cedar_tokens.specs.declared.kind.Kind.{Kind}
use Rattle.cedar_tokens.specs.Kinds.{is}
use Rattle.cedar_tokens.specs.Kinds as kinds
use Rattle.cedar_tokens.specs.TokenKinds.{kind_of}
use Rattle.cedar_grammar.specs.Trees.{Label, Forest, none, leaf, join}
use Rattle.cedar_grammar.specs.Reader.Reading.{Answer, Reader, done, stuck, after, choice, both, skip as skip_all, nest, many, repeat, token as token_at, one}
use Rattle.cedar_grammar.specs.Reader.Rules as G
use Rattle.cedar_grammar.specs.Reader.Rules.{tail_to, tailed, nested_at, read}
use Rattle.cedar_grammar.specs.Reader.Sets.{joined}
use Rattle.cedar_grammar.proofs.Booleans.{and_first, and_second}
use Rattle.cedar_grammar.proofs.Readers.Equations.{choice_yes, choice_no}
use Rattle.cedar_laws.specs.Table.{bare_token}
use Rattle.cedar_print.specs.WrittenMarks.{Mark, lead_of, marks_of}
use Rattle.cedar_writer.specs.Rules.{Rule, never, inner, put, token, then, either, star, tail, deeper, lifted, fork, peek}
use Rattle.cedar_writer.specs.Writing.{State, going, refused, lost, choose, nullable, first, begins, second, goes, looking, refuse, add_all, show, take, lift, size, turns, finish, run}
use Rattle.cedar_writer.proofs.Tests.{decided}
use Rattle.cedar_writer.proofs.Moves.{IsTest, begins_test, Keeps, run_keeps}
use Rattle.cedar_writer.proofs.Sound.{IsSteady, run_steady, turns_steady, same_tokens, Gives, adds_give, show_gives, lift_gives}

-- one rule after the other, the first of which may read nothing
abbrev pub seq : G.Rule → G.Rule → G.Rule
seq G.empty y = y
seq x y = G.then x y

-- the rule without its marks
abbrev pub bones : Rule → G.Rule
bones never = G.never
bones inner = G.inner
bones (put ms) = G.empty
bones (token p v n) = G.leaf_of p
bones (then a b) = seq (bones a) (bones b)
bones (either a b) = G.either (bones a) (bones b)
bones (star a) = G.star (bones a)
bones (tail s x y z) = G.tail s (bones x) (bones y) (bones z)
bones (deeper k ms a) = G.nested k (bones a)
bones (lifted a) = bones a
bones (fork p m n a b) = G.then (G.leaf_of p) (G.either (bones a) (bones b))
bones (peek q a b) = bones b

-- no look at many tokens
abbrev pub plain : Rule → Bool
plain (then a b) = plain a && plain b
plain (either a b) = plain a && plain b
plain (star a) = plain a
plain (tail s x y z) = plain x && (plain y && plain z)
plain (deeper k ms a) = plain a
plain (lifted a) = plain a
plain (fork p m n a b) = plain a && plain b
plain (peek q a b) = false
plain _ = true

-- ---- what bones begin with

not_first : (a b : Bool) → a ≡ false → (a || b) ≡ b
not_first true b e = absurd cc
not_first false b e = refl

joined_same : (a b : Bool) (p q r s : Kind → Bool) (k : Kind) → a ≡ b → p k ≡ r k → q k ≡ s k
    → joined a p q k ≡ joined b r s k
joined_same true true p q r s k e f g = ap (λ z. z || q k) f ∙ ap (λ z. r k || z) g
joined_same true false p q r s k e f g = absurd cc
joined_same false true p q r s k e f g = absurd cc
joined_same false false p q r s k e f g = f

either_same : (a b c d : Bool) → a ≡ c → b ≡ d → (a || b) ≡ (c || d)
either_same a b c d e f = ap (λ z. z || b) e ∙ ap (λ z. c || z) f

seq_nullable : (x y : G.Rule) → (G.nullable x && G.nullable y) ≡ G.nullable (seq x y)
seq_nullable G.empty y = refl
seq_nullable G.never y = refl
seq_nullable G.inner y = refl
seq_nullable (G.leaf_of p) y = refl
seq_nullable (G.nested k a) y = refl
seq_nullable (G.then a b) y = refl
seq_nullable (G.either a b) y = refl
seq_nullable (G.star a) y = refl
seq_nullable (G.tail k a b c) y = refl
seq_nullable (G.node l a) y = refl
seq_nullable (G.shaped a) y = refl
seq_nullable (G.items a) y = refl
seq_nullable G.entity y = refl
seq_nullable (G.reference a) y = refl

seq_first : (x y : G.Rule) (k : Kind) → joined (G.nullable x) (G.first x) (G.first y) k ≡ G.first
    (seq x y) k
seq_first G.empty y o = refl
seq_first G.never y o = refl
seq_first G.inner y o = refl
seq_first (G.leaf_of p) y o = refl
seq_first (G.nested k a) y o = refl
seq_first (G.then a b) y o = refl
seq_first (G.either a b) y o = refl
seq_first (G.star a) y o = refl
seq_first (G.tail k a b c) y o = refl
seq_first (G.node l a) y o = refl
seq_first (G.shaped a) y o = refl
seq_first (G.items a) y o = refl
seq_first G.entity y o = refl
seq_first (G.reference a) y o = refl

pub same_nullable : (R : Rule) → IsTrue (decided R) → IsTrue (plain R)
    → nullable R ≡ G.nullable (bones R)
same_nullable never h p = refl
same_nullable inner h p = refl
same_nullable (put ms) h p = refl
same_nullable (token q v n) h p = refl
same_nullable (then a b) h p = both_same (nullable a) (nullable b) _ _
    (same_nullable a (and_first (decided a) _ h) (and_first (plain a) _ p))
    (same_nullable b (and_first (decided b) _ (and_second (decided a) _ h))
    (and_second (plain a) _ p))
    ∙ seq_nullable (bones a) (bones b)
  where
    both_same : (a b c d : Bool) → a ≡ c → b ≡ d → (a && b) ≡ (c && d)
    both_same a b c d e f = ap (λ z. z && b) e ∙ ap (λ z. c && z) f
same_nullable (either a b) h p =
    let i = and_second (decided a) _ h in
    not_first (nullable a) (nullable b) (not-true (nullable a)
    (and_first (not (nullable a)) _ (and_second (decided b) _ i)))
    ∙ same_nullable b (and_first (decided b) _ i) (and_second (plain a) _ p)
same_nullable (star a) h p = refl
same_nullable (tail s x y z) h p = same_nullable z
    (and_first (decided z) _ (and_second (decided y) _ (and_second (decided x) _ h)))
    (and_second (plain y) _ (and_second (plain x) _ p))
same_nullable (deeper k ms a) h p = refl
same_nullable (lifted a) h p = same_nullable a (and_first (decided a) _ h) p
same_nullable (fork q m n a b) h p = refl
same_nullable (peek q a b) h p = absurd cc

pub same_first : (R : Rule) → IsTrue (decided R) → IsTrue (plain R) → (k : Kind)
    → first R k ≡ G.first (bones R) k
same_first never h p k = refl
same_first inner h p k = refl
same_first (put ms) h p k = refl
same_first (token q v n) h p k = refl
same_first (then a b) h p k =
    let da = and_first (decided a) _ h in
    let pa = and_first (plain a) _ p in
    joined_same (nullable a) (G.nullable (bones a)) (first a) (first b) (G.first (bones a))
    (G.first (bones b)) k
    (same_nullable a da pa) (same_first a da pa k)
    (same_first b (and_first (decided b) _ (and_second (decided a) _ h)) (and_second (plain a) _ p)
    k)
    ∙ seq_first (bones a) (bones b) k
same_first (either a b) h p k = either_same (first a k) (first b k) _ _
    (same_first a (and_first (decided a) _ h) (and_first (plain a) _ p) k)
    (same_first b (and_first (decided b) _ (and_second (decided a) _ h)) (and_second (plain a) _ p)
    k)
same_first (star a) h p k = same_first a (and_first (decided a) _ h) p k
same_first (tail s x y z) h p k = ap (λ w. is s k || w) (same_first z
    (and_first (decided z) _ (and_second (decided y) _ (and_second (decided x) _ h)))
    (and_second (plain y) _ (and_second (plain x) _ p)) k)
same_first (deeper b ms a) h p k = refl
same_first (lifted a) h p k = same_first a (and_first (decided a) _ h) p k
same_first (fork q m n a b) h p k = refl
same_first (peek q a b) h p k = absurd cc

-- ---- states and answers

abbrev pub texts : List Decorated → List (List ℕ)
texts ts = map (λ t. t.text) ts

-- the state has the answer's tokens left, or was refused at them for the same reason; or there was
-- no room
abbrev pub Agrees : State → Answer (List ℕ) → Type 0
Agrees lost a = Unit {0}
Agrees (going us ms r) (done f vs) = texts us ≡ vs
Agrees (going us ms r) (stuck b vs) = ⊥
Agrees (refused b us) (done f vs) = ⊥
Agrees (refused b us) (stuck c vs) = (b ≡ c) × (texts us ≡ vs)

pub record Does (P : State → State) (Q : Reader (List ℕ)) : Type 0 where
  pub at : (ts : List Decorated) (ms : List Mark) (r : ℕ)
      → Agrees (P (going ts ms r)) (Q (texts ts))

lost_agrees : {s : State} (a : Answer (List ℕ)) → s ≡ lost → Agrees s a
lost_agrees a e = subst (λ z. Agrees z a) (sym e) tt

joined_agrees : (s : State) (a : Answer (List ℕ)) (f : Forest Label (List ℕ)) → Agrees s a
    → Agrees s (after a (λ g r. done (join f g) r))
joined_agrees lost (done g vs) f h = tt
joined_agrees lost (stuck b vs) f h = tt
joined_agrees (going us ms r) (done g vs) f h = h
joined_agrees (going us ms r) (stuck b vs) f h = absurd h
joined_agrees (refused b us) (done g vs) f h = absurd h
joined_agrees (refused b us) (stuck c vs) f h = h

-- after a state and an answer that agree, what goes on alike
then_agrees : (P : State → State) (Q : Reader (List ℕ)) → IsSteady P
    → (s : State) (a : Answer (List ℕ)) → Agrees s a
    → ((us : List Decorated) (ms : List Mark) (r : ℕ) → s ≡ going us ms r
    → Agrees (P (going us ms r)) (Q (texts us)))
    → Agrees (P s) (after a (λ f r. after (Q r) (λ g v. done (join f g) v)))
then_agrees P Q y lost a h x = lost_agrees _ y.loss
then_agrees P Q y (going us ms r) (done f vs) h x =
    joined_agrees (P (going us ms r)) (Q vs) f (subst (λ z. Agrees (P (going us ms r)) (Q z)) h
    (x us ms r refl))
then_agrees P Q y (going us ms r) (stuck b vs) h x = absurd h
then_agrees P Q y (refused b us) (done f vs) h x = absurd h
then_agrees P Q y (refused b us) (stuck c vs) h x = subst (λ z. Agrees z (stuck c vs))
    (sym (y.refusal b us)) h

then_does : (P P' : State → State) (Q Q' : Reader (List ℕ)) → IsSteady P' → Does P Q → Does P' Q'
    → Does (λ s. P' (P s)) (both Q Q')
unfolding both
then_does P P' Q Q' y p q = record {
  at = λ ts ms r. then_agrees P' Q' y (P (going ts ms r)) (Q (texts ts)) (p.at ts ms r)
      (λ us ns v e. q.at us ns v);
}

choice_does : (t : State → Bool) (u : List (List ℕ) → Bool) (P P' : State
    → State) (Q Q' : Reader (List ℕ))
    → ((ts : List Decorated) (ms : List Mark) (r : ℕ) → t (going ts ms r) ≡ u (texts ts)) → Does P Q
    → Does P' Q'
    → Does (λ s. choose (t s) (P s) (P' s)) (λ ts. choice (u ts) Q Q' ts)
unfolding choice
choice_does t u P P' Q Q' h p q = record { at = go }
  where
    on : (ts : List Decorated) (ms : List Mark) (r : ℕ) (b : Bool)
        → Agrees (choose b (P (going ts ms r)) (P' (going ts ms r))) (choice b Q Q' (texts ts))
    on ts ms r true = p.at ts ms r
    on ts ms r false = q.at ts ms r

    go : (ts : List Decorated) (ms : List Mark) (r : ℕ)
        → Agrees (choose (t (going ts ms r)) (P (going ts ms r)) (P' (going ts ms r)))
        (choice (u (texts ts)) Q Q' (texts ts))
    go ts ms r = subst (λ b. Agrees (choose b (P (going ts ms r)) (P' (going ts ms r)))
        (choice (u (texts ts)) Q Q' (texts ts)))
        (sym (h ts ms r)) (on ts ms r (u (texts ts)))

begins_same : (p q : Kind → Bool) → ((k : Kind) → p k ≡ q k)
    → (ts : List Decorated) (ms : List Mark) (r : ℕ)
    → begins p (going ts ms r) ≡ kinds.begins kind_of q (texts ts)
begins_same p q h [] ms r = refl
begins_same p q h (t ∷ ts) ms r = h (kind_of t.text)

skip_does : (ms : List Mark) → Does (add_all ms) skip_all
skip_does ms = record { at = λ ts ns r. go ts ns r (adds_give ms ts ns r) }
  where
    go : (ts : List Decorated) (ns : List Mark) (r : ℕ)
        → Gives (add_all ms (going ts ns r)) ts (ns ++ ms)
        → Agrees (add_all ms (going ts ns r)) (done none (texts ts))
    go ts ns r (inl e) = lost_agrees _ e
    go ts ns r (inr (q, e)) = subst (λ z. Agrees z (done none (texts ts))) (sym e) refl

idle_does : Does (λ s. s) skip_all
idle_does = record { at = λ ts ms r. refl }

token_does : (p : Kind → Bool) (v n : List Mark) → Does (take p v n) (token_at kind_of p)
unfolding token_at choice
token_does p v n = record { at = go }
  where
    go : (ts : List Decorated) (ms : List Mark) (r : ℕ)
        → Agrees (take p v n (going ts ms r)) (token_at kind_of p (texts ts))
    go [] ms r = (refl, refl)
    go (t ∷ ts) ms r = on (p (kind_of t.text)) (show_gives t v n ts ms r)
      where
        on : (b : Bool) → Gives (show t v n (going (t ∷ ts) ms r)) ts (ms ++ marks_of t v n)
            → Agrees (choose b (show t v n (going (t ∷ ts) ms r)) (refused false (t ∷ ts)))
            (choice b (λ _. done (leaf t.text none) (texts ts))
            (λ _. stuck false (t.text ∷ texts ts)) (texts ts))
        on true (inl e) = lost_agrees _ e
        on true (inr (q, e)) = subst (λ z. Agrees z (done (leaf t.text none) (texts ts))) (sym e)
            refl
        on false g = (refl, refl)

refuse_does : Does (refuse false) G.refuse
refuse_does = record { at = λ ts ms r. (refl, refl) }

turns_does : (t : State → Bool) (u : List (List ℕ) → Bool) (P : State → State) (Q : Reader (List ℕ))
    → IsTest t
    → ((ts : List Decorated) (ms : List Mark) (r : ℕ) → t (going ts ms r) ≡ u (texts ts)) → Does P Q
    → (n : ℕ) → Does (turns t P n) (many u Q n)
unfolding many
turns_does t u P Q z h p zero = idle_does
turns_does t u P Q z h p (suc n) = choice_does t u (λ s. turns t P n (P s)) (λ s. s)
    (both Q (many u Q n)) skip_all h
    (then_does P (turns t P n) Q (many u Q n) (turns_steady t z P n) p (turns_does t u P Q z h p n))
    idle_does

star_does : (t : State → Bool) (u : List (List ℕ) → Bool) (P : State → State) (Q : Reader (List ℕ))
    → IsTest t
    → ((ts : List Decorated) (ms : List Mark) (r : ℕ) → t (going ts ms r) ≡ u (texts ts)) → Does P Q
    → Does (λ s. turns t P (size s) s) (repeat u Q)
unfolding repeat
star_does t u P Q z h p = record {
  at = λ ts ms r. subst (λ n. Agrees (turns t P (suc (length ts)) (going ts ms r))
      (many u Q (suc n) (texts ts))) (sym (length-map ts (λ t. t.text)))
      ((turns_does t u P Q z h p (suc (length ts))).at ts ms r);
}

lift_does : (P : State → State) (Q : Reader (List ℕ)) → P lost ≡ lost → Does P Q
    → Does (λ s. P (lift s)) Q
lift_does P Q l p = record { at = go }
  where
    go : (ts : List Decorated) (ms : List Mark) (r : ℕ)
        → Agrees (P (lift (going ts ms r))) (Q (texts ts))
    go [] ms r = p.at [] ms r
    go (t ∷ ts) ms r = on (lift_gives t ts ms r)
      where
        on : Gives (lift (going (t ∷ ts) ms r)) (bare_token t ∷ ts) (ms ++ lead_of t.leading)
            → Agrees (P (lift (going (t ∷ ts) ms r))) (Q (t.text ∷ texts ts))
        on (inl e) = lost_agrees _ (ap P e ∙ l)
        on (inr (q, e)) = subst (λ z. Agrees (P z) (Q (t.text ∷ texts ts))) (sym e)
            (p.at (bare_token t ∷ ts) (ms ++ lead_of t.leading) q)

deeper_does : (room : Bool) (k : Kind) (ms : List Mark) (P : State → State) (Q : Reader (List ℕ))
    → IsSteady P → Does P Q
    → Does (λ s. choose (begins (is k) s) (choose room (P (take (is k) [] [] (add_all ms s)))
    (refuse true s)) (refuse false s)) (nested_at kind_of room k Q)
unfolding nest choice
deeper_does room k ms P Q y p =
    choice_does (begins (is k)) (kinds.begins kind_of (is k))
    (λ s. choose room (P (take (is k) [] [] (add_all ms s))) (refuse true s)) (refuse false)
    (nest room (both (one kind_of k) Q)) G.refuse (begins_same (is k) (is k) (λ _. refl))
    (record { at = on room }) refuse_does
  where
    opened : (ts : List Decorated) (ns : List Mark) (r : ℕ)
        → Agrees (P (take (is k) [] [] (add_all ms (going ts ns r))))
        (both (one kind_of k) Q (texts ts))
    opened ts ns r = go (adds_give ms ts ns r)
      where
        go : Gives (add_all ms (going ts ns r)) ts (ns ++ ms)
            → Agrees (P (take (is k) [] [] (add_all ms (going ts ns r))))
            (both (one kind_of k) Q (texts ts))
        go (inl e) = lost_agrees _ (ap (λ z. P (take (is k) [] [] z)) e ∙ y.loss)
        go (inr (q, e)) = subst (λ z. Agrees (P (take (is k) [] [] z))
            (both (one kind_of k) Q (texts ts))) (sym e)
            ((then_does (take (is k) [] []) P (one kind_of k) Q y (token_does (is k) [] []) p).at ts
            (ns ++ ms) q)

    on : (room : Bool) (ts : List Decorated) (ns : List Mark) (r : ℕ)
        → Agrees (choose room (P (take (is k) [] [] (add_all ms (going ts ns r))))
        (refuse true (going ts ns r))) (nest room (both (one kind_of k) Q) (texts ts))
    on true ts ns r = opened ts ns r
    on false ts ns r = (refl, refl)

-- the tokens after one that was taken
left_tokens : (p : Kind → Bool) (v w : List Mark) (t : Decorated) (ts us : List Decorated)
    (ms ns : List Mark) (r q : ℕ)
    → take p v w (going (t ∷ ts) ms r) ≡ going us ns q → us ≡ ts
left_tokens p v w t ts us ms ns r q e = step (p (kind_of t.text)) (show_gives t v w ts ms r) e
  where
    step : (b : Bool) → Gives (show t v w (going (t ∷ ts) ms r)) ts (ms ++ marks_of t v w)
        → choose b (show t v w (going (t ∷ ts) ms r)) (refused false (t ∷ ts)) ≡ going us ns q
        → us ≡ ts
    step true (inl g) f = let z : lost ≡ going us ns q = sym g ∙ f in absurd cc
    step true (inr (o, g)) f = sym (same_tokens (sym g ∙ f))
    step false g f = absurd cc

-- a token, and what the next one decides
fork_does : (p q q' : Kind → Bool) (m n : List Mark) (P P' : State → State) (Q Q' : Reader (List ℕ))
    → IsSteady P → IsSteady P'
    → ((k : Kind) → q k ≡ q' k) → Does P Q → Does P' Q'
    → Does (λ s. choose (second q s) (P (take p [] m s)) (P' (take p [] n s)))
    (both (token_at kind_of p) (λ ts. choice (kinds.begins kind_of q' ts) Q Q' ts))
unfolding both
fork_does p q q' m n P P' Q Q' y y' h x x' = record { at = go }
  where
    go : (ts : List Decorated) (ms : List Mark) (r : ℕ)
        → Agrees (choose (second q (going ts ms r)) (P (take p [] m (going ts ms r)))
        (P' (take p [] n (going ts ms r))))
        (both (token_at kind_of p) (λ ts. choice (kinds.begins kind_of q' ts) Q Q' ts) (texts ts))
    go [] ms r = then_agrees P' (λ ts. choice (kinds.begins kind_of q' ts) Q Q' ts) y'
        (refused false []) (token_at kind_of p [])
        ((token_does p [] n).at [] ms r) (λ us ns v e. absurd cc)
    go (t ∷ ts) ms r = subst (λ b. Agrees (choose b (P (take p [] m (going (t ∷ ts) ms r)))
        (P' (take p [] n (going (t ∷ ts) ms r))))
        (both (token_at kind_of p) (λ ts. choice (kinds.begins kind_of q' ts) Q Q' ts)
        (t.text ∷ texts ts))) (sym (begins_same q q' h ts ms r))
        (on (kinds.begins kind_of q' (texts ts)) refl)
      where
        on : (b : Bool) → kinds.begins kind_of q' (texts ts) ≡ b
            → Agrees (choose b (P (take p [] m (going (t ∷ ts) ms r)))
            (P' (take p [] n (going (t ∷ ts) ms r))))
            (both (token_at kind_of p) (λ ts. choice (kinds.begins kind_of q' ts) Q Q' ts)
            (t.text ∷ texts ts))
        on true e = then_agrees P (λ ts. choice (kinds.begins kind_of q' ts) Q Q' ts) y
            (take p [] m (going (t ∷ ts) ms r)) (token_at kind_of p (t.text ∷ texts ts))
            ((token_does p [] m).at (t ∷ ts) ms r)
            (λ us ns v f. subst (λ z. Agrees (P (going us ns v)) z)
            (sym (choice_yes (kinds.begins kind_of q' (texts us)) Q Q' (texts us)
            (ap (λ z. kinds.begins kind_of q' (texts z)) (left_tokens p [] m t ts us ms ns r v f)
            ∙ e))) (x.at us ns v))
        on false e = then_agrees P' (λ ts. choice (kinds.begins kind_of q' ts) Q Q' ts) y'
            (take p [] n (going (t ∷ ts) ms r)) (token_at kind_of p (t.text ∷ texts ts))
            ((token_does p [] n).at (t ∷ ts) ms r)
            (λ us ns v f. subst (λ z. Agrees (P' (going us ns v)) z)
            (sym (choice_no (kinds.begins kind_of q' (texts us)) Q Q' (texts us)
            (ap (λ z. kinds.begins kind_of q' (texts z)) (left_tokens p [] n t ts us ms ns r v f)
            ∙ e))) (x'.at us ns v))

-- the loop that looks at two tokens
module _ (s : Kind) (u u' : Kind → Bool) (X Y Z : State
    → State) (X' Y' Z' : Reader (List ℕ)) (yx : IsSteady X) (yy : IsSteady Y) (yz : IsSteady Z)
    (keeps : Keeps X) (h : (k : Kind) → u k ≡ u' k) (x : Does X X') (y : Does Y Y') (z : Does Z Z')
  where
    abbrev Turn : State → State
    Turn w = X (take (is s) [] [] w)

    abbrev Whole : ℕ → State → State
    Whole n w = finish (is s) Y Z (turns (goes (is s) u) Turn n w)

    abbrev Loop : ℕ → Reader (List ℕ)
    Loop n = tail_to kind_of s u' X' Y' Z' n

    abbrev Next : ℕ → Reader (List ℕ)
    Next n rs = choice (kinds.begins kind_of u' rs) (both X' (Loop n)) Y' rs

    whole_steady : (n : ℕ) → IsSteady (Whole n)
    whole_steady zero = record { refusal = λ b ts. yz.refusal b ts; loss = yz.loss }
    whole_steady (suc n) = record { refusal = λ b ts. yz.refusal b ts; loss = yz.loss }

    turn_steady : (n : ℕ) → IsSteady (λ w. Whole n (X w))
    turn_steady n = record {
      refusal = λ b ts. ap (Whole n) (yx.refusal b ts) ∙ (whole_steady n).refusal b ts;
      loss = ap (Whole n) yx.loss ∙ (whole_steady n).loss;
    }

    whole_no : (n : ℕ) (w : State) → begins (is s) w ≡ false → Whole (suc n) w ≡ Z w
    whole_no n w e = ap (λ b. finish (is s) Y Z (choose (b && second u w)
        (turns (goes (is s) u) Turn n (Turn w)) w)) e
        ∙ ap (λ b. choose b (Y (take (is s) [] [] w)) (Z w)) e

    whole_turn : (n : ℕ) (w : State) → begins (is s) w ≡ true → second u w ≡ true
        → Whole (suc n) w ≡ Whole n (Turn w)
    whole_turn n w e f = ap (λ b. finish (is s) Y Z (choose (b && second u w)
        (turns (goes (is s) u) Turn n (Turn w)) w)) e
        ∙ ap (λ b. finish (is s) Y Z (choose b (turns (goes (is s) u) Turn n (Turn w)) w)) f

    whole_end : (n : ℕ) (w : State) → begins (is s) w ≡ true → second u w ≡ false
        → Whole (suc n) w ≡ Y (take (is s) [] [] w)
    whole_end n w e f = ap (λ b. finish (is s) Y Z (choose (b && second u w)
        (turns (goes (is s) u) Turn n (Turn w)) w)) e
        ∙ (ap (λ b. finish (is s) Y Z (choose b (turns (goes (is s) u) Turn n (Turn w)) w)) f
        ∙ ap (λ b. choose b (Y (take (is s) [] [] w)) (Z w)) e)

    whole_does : (n : ℕ) (ts : List Decorated) (ms : List Mark) (r : ℕ) → length ts < n
        → Agrees (Whole n (going ts ms r)) (Loop n (texts ts))
    unfolding both
    whole_does zero ts ms r l = absurd (omega (arith, l))
    whole_does (suc n) [] ms r l = subst (λ a. Agrees (Whole (suc n) (going [] ms r)) a)
        (sym (choice_no false (both (one kind_of s) (Next n)) Z' [] refl))
        (z.at [] ms r)
    whole_does (suc n) (t ∷ ts) ms r l = on (λ ws os q k. whole_does n ws os q k)
        (is s (kind_of t.text)) refl
      where
        yes : is s (kind_of t.text) ≡ true → both (one kind_of s) (Next n) (t.text ∷ texts ts) ≡ Loop
            (suc n) (t.text ∷ texts ts)
        yes e = sym (choice_yes (is s (kind_of t.text)) (both (one kind_of s) (Next n)) Z'
            (t.text ∷ texts ts) e)

        turn_on : ((ws : List Decorated) (os : List Mark) (q : ℕ) → length ws < n
            → Agrees (Whole n (going ws os q)) (Loop n (texts ws)))
            → (us : List Decorated) (ns : List Mark) (v : ℕ) → us ≡ ts
            → kinds.begins kind_of u' (texts ts) ≡ true
            → Agrees (Whole n (X (going us ns v))) (Next n (texts us))
        turn_on again us ns v e c = subst (λ a. Agrees (Whole n (X (going us ns v))) a)
            (sym (choice_yes (kinds.begins kind_of u' (texts us)) (both X' (Loop n)) Y' (texts us)
            (ap (λ w. kinds.begins kind_of u' (texts w)) e ∙ c)))
            (then_agrees (Whole n) (Loop n) (whole_steady n) (X (going us ns v)) (X' (texts us))
            (x.at us ns v)
            (λ ws os q f. (let a = keeps (going us ns v) in let b = ap size f in let d =
            ap length e in
            again ws os q (omega (arith, a, b, d, l)))))

        end_on : (us : List Decorated) (ns : List Mark) (v : ℕ) → us ≡ ts
            → kinds.begins kind_of u' (texts ts) ≡ false
            → Agrees (Y (going us ns v)) (Next n (texts us))
        end_on us ns v e c = subst (λ a. Agrees (Y (going us ns v)) a)
            (sym (choice_no (kinds.begins kind_of u' (texts us)) (both X' (Loop n)) Y' (texts us)
            (ap (λ w. kinds.begins kind_of u' (texts w)) e ∙ c)))
            (y.at us ns v)

        after_token : ((ws : List Decorated) (os : List Mark) (q : ℕ) → length ws < n
            → Agrees (Whole n (going ws os q)) (Loop n (texts ws))) → is s (kind_of t.text) ≡ true
            → (c : Bool) → kinds.begins kind_of u' (texts ts) ≡ c
            → Agrees (Whole (suc n) (going (t ∷ ts) ms r)) (Loop (suc n) (t.text ∷ texts ts))
        after_token again e true c = subst (λ w. Agrees w (Loop (suc n) (t.text ∷ texts ts)))
            (sym (whole_turn n (going (t ∷ ts) ms r) e (begins_same u u' h ts ms r ∙ c)))
            (subst (λ a. Agrees (Whole n (Turn (going (t ∷ ts) ms r))) a) (yes e)
            (then_agrees (λ w. Whole n (X w)) (Next n) (turn_steady n)
            (take (is s) [] [] (going (t ∷ ts) ms r)) (one kind_of s (t.text ∷ texts ts))
            ((token_does (is s) [] []).at (t ∷ ts) ms r) (λ us ns v f. turn_on again us ns v
            (left_tokens (is s) [] [] t ts us ms ns r v f) c)))
        after_token again e false c = subst (λ w. Agrees w (Loop (suc n) (t.text ∷ texts ts)))
            (sym (whole_end n (going (t ∷ ts) ms r) e (begins_same u u' h ts ms r ∙ c)))
            (subst (λ a. Agrees (Y (take (is s) [] [] (going (t ∷ ts) ms r))) a) (yes e)
            (then_agrees Y (Next n) yy (take (is s) [] [] (going (t ∷ ts) ms r))
            (one kind_of s (t.text ∷ texts ts))
            ((token_does (is s) [] []).at (t ∷ ts) ms r) (λ us ns v f. end_on us ns v
            (left_tokens (is s) [] [] t ts us ms ns r v f) c)))

        on : ((ws : List Decorated) (os : List Mark) (q : ℕ) → length ws < n
            → Agrees (Whole n (going ws os q)) (Loop n (texts ws))) → (b : Bool)
            → is s (kind_of t.text) ≡ b → Agrees (Whole (suc n) (going (t ∷ ts) ms r))
            (Loop (suc n) (t.text ∷ texts ts))
        on again true e = after_token again e (kinds.begins kind_of u' (texts ts)) refl
        on again false e = subst (λ w. Agrees w (Loop (suc n) (t.text ∷ texts ts)))
            (sym (whole_no n (going (t ∷ ts) ms r) e))
            (subst (λ a. Agrees (Z (going (t ∷ ts) ms r)) a)
            (sym (choice_no (is s (kind_of t.text)) (both (one kind_of s) (Next n)) Z'
            (t.text ∷ texts ts) e))
            (z.at (t ∷ ts) ms r))

    tail_does : Does (λ w. Whole (size w) w) (tailed kind_of s u' X' Y' Z')
    unfolding tailed
    tail_does = record {
      at = λ ts ms r. subst (λ n. Agrees (Whole (suc (length ts)) (going ts ms r))
          (Loop (suc n) (texts ts))) (sym (length-map ts (λ t. t.text)))
          (whole_does (suc (length ts)) ts ms r (omega arith));
    }

-- ---- rules
module _ (room : Bool) (E : State → State) (F : Reader (List ℕ)) (steady : IsSteady E)
    (keeps : Keeps E) (inside : Does E F) where
  -- after a rule that reads nothing
  after_nothing : (P P' : State → State) (Q : Reader (List ℕ)) → IsSteady P' → Does P skip_all
      → Does P' Q → Does (λ s. P' (P s)) Q
  after_nothing P P' Q y p q = record { at = λ ts ms r. go ts (P (going ts ms r)) (p.at ts ms r) }
    where
      go : (ts : List Decorated) (s : State) → Agrees s (done none (texts ts))
          → Agrees (P' s) (Q (texts ts))
      go ts lost h = lost_agrees _ y.loss
      go ts (going us ns v) h = subst (λ z. Agrees (P' (going us ns v)) (Q z)) h (q.at us ns v)
      go ts (refused b us) h = absurd h

  pub seq_does : (P P' : State → State) (x y : G.Rule) → IsSteady P'
      → Does P (read kind_of room F x) → Does P' (read kind_of room F y)
      → Does (λ s. P' (P s)) (read kind_of room F (seq x y))
  seq_does P P' G.empty y o v w = after_nothing P P' _ o v w
  seq_does P P' G.never y o v w = then_does P P' _ _ o v w
  seq_does P P' G.inner y o v w = then_does P P' _ _ o v w
  seq_does P P' (G.leaf_of p) y o v w = then_does P P' _ _ o v w
  seq_does P P' (G.nested k a) y o v w = then_does P P' _ _ o v w
  seq_does P P' (G.then a b) y o v w = then_does P P' _ _ o v w
  seq_does P P' (G.either a b) y o v w = then_does P P' _ _ o v w
  seq_does P P' (G.star a) y o v w = then_does P P' _ _ o v w
  seq_does P P' (G.tail k a b c) y o v w = then_does P P' _ _ o v w
  seq_does P P' (G.node l a) y o v w = then_does P P' _ _ o v w
  seq_does P P' (G.shaped a) y o v w = then_does P P' _ _ o v w
  seq_does P P' (G.items a) y o v w = then_does P P' _ _ o v w
  seq_does P P' G.entity y o v w = then_does P P' _ _ o v w
  seq_does P P' (G.reference a) y o v w = then_does P P' _ _ o v w

  pub bones_do : (R : Rule) → IsTrue (decided R) → IsTrue (plain R)
      → Does (run room E R) (read kind_of room F (bones R))
  bones_do never h p = refuse_does
  bones_do inner h p = inside
  bones_do (put ms) h p = skip_does ms
  bones_do (token q v n) h p = token_does q v n
  bones_do (then a b) h p = seq_does (run room E a) (run room E b) (bones a) (bones b)
      (run_steady room E steady b)
      (bones_do a (and_first (decided a) _ h) (and_first (plain a) _ p))
      (bones_do b (and_first (decided b) _ (and_second (decided a) _ h)) (and_second (plain a) _ p))
  bones_do (either a b) h p =
      let da = and_first (decided a) _ h in
      choice_does (begins (first a)) (kinds.begins kind_of (G.first (bones a))) (run room E a)
      (run room E b) _ _
      (begins_same (first a) (G.first (bones a)) (same_first a da (and_first (plain a) _ p)))
      (bones_do a da (and_first (plain a) _ p)) (bones_do b
      (and_first (decided b) _ (and_second (decided a) _ h)) (and_second (plain a) _ p))
  bones_do (star a) h p =
      let da = and_first (decided a) _ h in
      star_does (begins (first a)) (kinds.begins kind_of (G.first (bones a))) (run room E a) _
      (begins_test (first a))
      (begins_same (first a) (G.first (bones a)) (same_first a da p)) (bones_do a da p)
  bones_do (tail s x y z) h p =
      let dx = and_first (decided x) _ h in
      let hy = and_second (decided x) _ h in
      let px = and_first (plain x) _ p in
      let py = and_second (plain x) _ p in
      tail_does s (first x) (G.first (bones x)) (run room E x) (run room E y) (run room E z) _ _ _
      (run_steady room E steady x) (run_steady room E steady y) (run_steady room E steady z)
      (run_keeps room E keeps x)
      (same_first x dx px) (bones_do x dx px) (bones_do y (and_first (decided y) _ hy)
      (and_first (plain y) _ py))
      (bones_do z (and_first (decided z) _ (and_second (decided y) _ hy))
      (and_second (plain y) _ py))
  bones_do (deeper k ms a) h p = deeper_does room k ms (run room E a) _ (run_steady room E steady a)
      (bones_do a h p)
  bones_do (lifted a) h p = lift_does (run room E a) _ (run_steady room E steady a).loss
      (bones_do a (and_first (decided a) _ h) p)
  bones_do (fork q m n a b) h p =
      let da = and_first (decided a) _ h in
      let pa = and_first (plain a) _ p in
      fork_does q (first a) (G.first (bones a)) m n (run room E a) (run room E b) _ _
      (run_steady room E steady a) (run_steady room E steady b)
      (same_first a da pa) (bones_do a da pa) (bones_do b
      (and_first (decided b) _ (and_second (decided a) _ h)) (and_second (plain a) _ p))
  bones_do (peek q a b) h p = absurd cc

  -- a look at many tokens tells which of two rules with the same bones is read
  pub peek_does : (q : List (Kind → Bool)) (a b : Rule) → bones a ≡ bones b → IsTrue (decided a)
      → IsTrue (plain a) → IsTrue (decided b) → IsTrue (plain b)
      → Does (run room E (peek q a b)) (read kind_of room F (bones b))
  peek_does q a b e da pa db pb = record { at = λ ts ms r. on ts ms r (looking q (going ts ms r)) }
    where
      x : Does (run room E a) (read kind_of room F (bones b))
      x = subst (λ z. Does (run room E a) (read kind_of room F z)) e (bones_do a da pa)

      on : (ts : List Decorated) (ms : List Mark) (r : ℕ) (b' : Bool)
          → Agrees (choose b' (run room E a (going ts ms r)) (run room E b (going ts ms r)))
          (read kind_of room F (bones b) (texts ts))
      on ts ms r true = x.at ts ms r
      on ts ms r false = (bones_do b db pb).at ts ms r
