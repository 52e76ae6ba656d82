-- More room changes nothing but how much of it is left, unless there was too little.
use Rattle.std.proofs.Common.{◌≡◌, ℕ, zero, suc, ℤ, ◌+◌, Bool, true, false, List, [], ◌∷◌, refl, sym, ap, ◌∙◌, subst, arith, inl, inr}
use Rattle.std.specs.Prelude.{◌&&◌, ◌⊎◌}
use Rattle.cedar_tokens.specs.Listing.{Decorated, token_value}
use Rattle.cedar_tokens.specs.declared.kind.Kind.{Kind}
use Rattle.cedar_tokens.specs.Kinds.{is}
use Rattle.cedar_grammar.specs.Laws.{kind_of_decorated}
use Rattle.cedar_print.specs.WrittenMarks.{Mark, lead_of, trail_of}
use Rattle.cedar_print.specs.WrittenMarks as M
use Rattle.cedar_writer.specs.Rules.{Rule, never, inner, put, token, then, either, star, tail, deeper, lifted, fork, peek}
use Rattle.cedar_writer.specs.Lines as lines
use Rattle.cedar_writer.specs.Writing.{State, going, refused, lost, choose, first, begins, second, goes, looking, refuse, add, add_all, skip, show, take, add_lead, bare_first, lift, size, turns, finish, run, expr_to}
use Rattle.cedar_writer.specs.Depths.{at_depth}
use Rattle.cedar_writer.proofs.Complete.{add_room}

abbrev pub more : ℕ → State → State
more k (going ts ms r) = going ts ms (r + k)
more k (refused b ts) = refused b ts
more k lost = lost

-- t is s with k more places, unless s has lost its way for want of them
abbrev pub Roomier : ℕ → State → State → Type 0
Roomier k s t = (s ≡ lost) ⊎ (t ≡ more k s)

pub record Ample (P : State → State) : Type 0 where
  pub at : (k : ℕ) (s : State) → Roomier k (P s) (P (more k s))
  pub loss : P lost ≡ lost

-- ---- tests see no room
same_begins : (p : Kind → Bool) (k : ℕ) (s : State) → begins p (more k s) ≡ begins p s
same_begins p k (going [] ms r) = refl
same_begins p k (going (t ∷ ts) ms r) = refl
same_begins p k (refused b ts) = refl
same_begins p k lost = refl

same_second : (p : Kind → Bool) (k : ℕ) (s : State) → second p (more k s) ≡ second p s
same_second p k (going [] ms r) = refl
same_second p k (going (t ∷ ts) ms r) = same_begins p k (going ts ms r)
same_second p k (refused b ts) = refl
same_second p k lost = refl

same_goes : (p q : Kind → Bool) (k : ℕ) (s : State) → goes p q (more k s) ≡ goes p q s
same_goes p q k s = ap (λ z. z && second q (more k s)) (same_begins p k s)
    ∙ ap (λ z. begins p s && z) (same_second q k s)

same_looking : (q : List (Kind → Bool)) (k : ℕ) (s : State) → looking q (more k s) ≡ looking q s
same_looking q k (going ts ms r) = refl
same_looking q k (refused b ts) = refl
same_looking q k lost = refl

same_size : (k : ℕ) (s : State) → size (more k s) ≡ size s
same_size k (going ts ms r) = refl
same_size k (refused b ts) = refl
same_size k lost = refl

-- ---- steps
same : Ample (λ s. s)
same = record { at = λ k s. inr refl; loss = refl }

then_ample : {P Q : State → State} → Ample P → Ample Q → Ample (λ s. Q (P s))
then_ample {P} {Q} x y = record { at = λ k s. go k s (x.at k s); loss = ap Q x.loss ∙ y.loss }
  where
    go : (k : ℕ) (s : State) → Roomier k (P s) (P (more k s)) → Roomier k (Q (P s)) (Q (P (more k s)))
    go k s (inl e) = inl (ap Q e ∙ y.loss)
    go k s (inr e) = subst (λ z. Roomier k (Q (P s)) (Q z)) (sym e) (y.at k (P s))

either_ample : {P Q : State → State} (b : Bool) → Ample P → Ample Q → Ample (λ s. choose b (P s) (Q s))
either_ample true x y = record { at = λ k s. x.at k s; loss = x.loss }
either_ample false x y = record { at = λ k s. y.at k s; loss = y.loss }

choose_ample : {P Q : State → State} (T : State → Bool) → ((k : ℕ) (s : State) → T (more k s) ≡ T s) → Ample P → Ample Q
    → Ample (λ s. choose (T s) (P s) (Q s))
choose_ample {P} {Q} T h x y = record {
  at = λ k s. subst (λ b. Roomier k (choose (T s) (P s) (Q s)) (choose b (P (more k s)) (Q (more k s)))) (sym (h k s))
      ((either_ample (T s) x y).at k s);
  loss = (either_ample (T lost) x y).loss;
}

add_ample : (x : Mark) → Ample (add x)
add_ample x = record { at = go; loss = refl }
  where
    go : (k : ℕ) (s : State) → Roomier k (add x s) (add x (more k s))
    go k (going ts ms zero) = inl refl
    go k (going ts ms (suc r)) = inr (add_room x ts ms (suc r + k) (r + k) (omega arith)
        ∙ ap (more k) (sym (add_room x ts ms (suc r) r refl)))
    go k (refused b ts) = inr refl
    go k lost = inl refl

adds_ample : (xs : List Mark) → Ample (add_all xs)
adds_ample [] = same
adds_ample (x ∷ xs) = then_ample (add_ample x) (adds_ample xs)

skip_ample : Ample skip
skip_ample = record { at = go; loss = refl }
  where
    go : (k : ℕ) (s : State) → Roomier k (skip s) (skip (more k s))
    go k (going [] ms r) = inr refl
    go k (going (t ∷ ts) ms r) = inr refl
    go k (refused b ts) = inr refl
    go k lost = inl refl

pub refuse_ample : (b : Bool) → Ample (refuse b)
refuse_ample b = record { at = go; loss = refl }
  where
    go : (k : ℕ) (s : State) → Roomier k (refuse b s) (refuse b (more k s))
    go k (going ts ms r) = inr refl
    go k (refused c ts) = inr refl
    go k lost = inl refl

lift_ample : Ample lift
lift_ample = then_ample (record { at = leads; loss = refl }) (record { at = bares; loss = refl })
  where
    leads : (k : ℕ) (s : State) → Roomier k (add_lead s) (add_lead (more k s))
    leads k (going [] ms r) = inr refl
    leads k (going (t ∷ ts) ms r) = (adds_ample (lead_of t.leading)).at k (going (t ∷ ts) ms r)
    leads k (refused b ts) = inr refl
    leads k lost = inl refl

    bares : (k : ℕ) (s : State) → Roomier k (bare_first s) (bare_first (more k s))
    bares k (going [] ms r) = inr refl
    bares k (going (t ∷ ts) ms r) = inr refl
    bares k (refused b ts) = inr refl
    bares k lost = inl refl

show_ample : (t : Decorated) (v n : List Mark) → Ample (show t v n)
show_ample t v n = then_ample (adds_ample (lead_of t.leading)) (then_ample (add_ample (M.text (token_value t.text)))
    (then_ample (adds_ample v) (then_ample (adds_ample (trail_of t.trailing n)) skip_ample)))

take_ample : (p : Kind → Bool) (v n : List Mark) → Ample (take p v n)
take_ample p v n = record { at = go; loss = refl }
  where
    go : (k : ℕ) (s : State) → Roomier k (take p v n s) (take p v n (more k s))
    go k (going [] ms r) = inr refl
    go k (going (t ∷ ts) ms r) = on (p (kind_of_decorated t))
      where
        on : (b : Bool) → Roomier k (choose b (show t v n (going (t ∷ ts) ms r)) (refused false (t ∷ ts)))
            (choose b (show t v n (going (t ∷ ts) ms (r + k))) (refused false (t ∷ ts)))
        on true = (show_ample t v n).at k (going (t ∷ ts) ms r)
        on false = inr refl
    go k (refused b ts) = inr refl
    go k lost = inl refl

-- ---- rules
turns_ample : (T : State → Bool) {P : State → State} → ((k : ℕ) (s : State) → T (more k s) ≡ T s) → Ample P → (n : ℕ)
    → Ample (turns T P n)
turns_ample T h x zero = same
turns_ample T h x (suc n) = choose_ample T h (then_ample x (turns_ample T h x n)) same

sized_ample : (T : State → Bool) {P : State → State} → ((k : ℕ) (s : State) → T (more k s) ≡ T s) → Ample P
    → Ample (λ s. turns T P (size s) s)
sized_ample T {P} h x = record {
  at = λ k s. subst (λ n. Roomier k (turns T P (size s) s) (turns T P n (more k s))) (sym (same_size k s))
      ((turns_ample T h x (size s)).at k s);
  loss = (turns_ample T h x 0).loss;
}

finish_ample : (p : Kind → Bool) {Y Z : State → State} → Ample Y → Ample Z → Ample (finish p Y Z)
finish_ample p y z = choose_ample (begins p) (same_begins p) (then_ample (take_ample p [] []) y) z

module _ (room : Bool) (E : State → State) (e : Ample E) where
  pub run_ample : (R : Rule) → Ample (run room E R)
  run_ample never = refuse_ample false
  run_ample inner = e
  run_ample (put ms) = adds_ample ms
  run_ample (token p v n) = take_ample p v n
  run_ample (then a b) = then_ample (run_ample a) (run_ample b)
  run_ample (either a b) = choose_ample (begins (first a)) (same_begins (first a)) (run_ample a) (run_ample b)
  run_ample (star a) = sized_ample (begins (first a)) (same_begins (first a)) (run_ample a)
  run_ample (tail k x y z) = then_ample (sized_ample (goes (is k) (first x)) (same_goes (is k) (first x))
      (then_ample (take_ample (is k) [] []) (run_ample x))) (finish_ample (is k) (run_ample y) (run_ample z))
  run_ample (deeper k ms a) = choose_ample (begins (is k)) (same_begins (is k)) (either_ample room
      (then_ample (adds_ample ms) (then_ample (take_ample (is k) [] []) (run_ample a))) (refuse_ample true)) (refuse_ample false)
  run_ample (lifted a) = then_ample lift_ample (run_ample a)
  run_ample (fork p m n a b) = choose_ample (second (first a)) (same_second (first a))
      (then_ample (take_ample p [] m) (run_ample a)) (then_ample (take_ample p [] n) (run_ample b))
  run_ample (peek q a b) = choose_ample (looking q) (same_looking q) (run_ample a) (run_ample b)

module _ (i : ℤ) where
  pub expr_ample : (n : ℕ) → Ample (expr_to i n)
  expr_ample zero = run_ample false (refuse true) (refuse_ample true) (lines.expr i)
  expr_ample (suc n) = run_ample true (expr_to i n) (expr_ample n) (lines.expr i)

  pub at_depth_ample : (n : ℕ) (R : Rule) → Ample (at_depth i n R)
  at_depth_ample zero R = run_ample false (refuse true) (refuse_ample true) R
  at_depth_ample (suc n) R = run_ample true (expr_to i n) (expr_ample n) R
