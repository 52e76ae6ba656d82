-- No token is given back, and a rule without an empty row takes one; so a rule is run as often as
-- it begins.
use Rattle.std.proofs.Common.{◌≡◌, ℕ, zero, suc, ℤ, ◌<◌, ◌≤◌, Bool, true, false, ◌&&◌, ◌||◌, List, [], ◌∷◌, length, refl, arith}
use Rattle.std.specs.Prelude.{◌==◌}
use Rattle.cedar_tokens.specs.Listing.{Decorated, token_value}
use Rattle.cedar_tokens.specs.declared.kind.Kind.{Kind}
use Rattle.cedar_tokens.specs.Kinds.{is}
use Rattle.cedar_grammar.specs.Laws.{kind_of_decorated}
use Rattle.cedar_print.specs.WrittenMarks.{Mark, lead_of, trail_of}
use Rattle.cedar_print.specs.WrittenMarks as M
use Rattle.cedar_writer.specs.Rules.{Rule, never, inner, put, token, then, either, star, tail, deeper, lifted, fork, peek}
use Rattle.cedar_writer.specs.Lines as lines
use Rattle.cedar_writer.specs.Writing.{State, going, refused, lost, choose, nullable, first, begins, second, goes, looking, refuse, add, add_all, skip, show, take, add_lead, bare_first, lift, size, turns, finish, run, expr_to}
use Rattle.cedar_writer.proofs.Tests.{expr_has_tokens}

abbrev pub Keeps : (State → State) → Type 0
Keeps P = (s : State) → size (P s) ≤ size s

abbrev pub Moves : (State → State) → Type 0
Moves P = (s : State) → 0 < size s → size (P s) < size s

refuse_size : (b : Bool) (s : State) → size (refuse b s) ≡ 0
refuse_size b (going l m r) = refl
refuse_size b (refused c n) = refl
refuse_size b lost = refl

choose_size : (b : Bool) (n : ℕ) (s t : State) → size s ≤ n → size t ≤ n → size (choose b s t) ≤ n
choose_size true n s t h k = h
choose_size false n s t h k = k

choose_less : (b : Bool) (n : ℕ) (s t : State) → size s < n → size t < n → size (choose b s t) < n
choose_less true n s t h k = h
choose_less false n s t h k = k

add_size : (x : Mark) (s : State) → size (add x s) ≤ size s
add_size x (going l m r) = choose_size (r == 0) (suc (length l)) _ _ (omega arith) (omega arith)
add_size x (refused b n) = omega arith
add_size x lost = omega arith

adds_size : (xs : List Mark) (s : State) → size (add_all xs s) ≤ size s
adds_size [] s = omega arith
adds_size (x ∷ xs) s = let a = add_size x s in let b = adds_size xs (add x s) in omega (arith, a, b)

skip_less : (n : ℕ) (s : State) → 1 < n → size s ≤ n → size (skip s) < n
skip_less n (going [] m r) h i = h
skip_less n (going (t ∷ ts) m r) h i = omega (arith, i)
skip_less n (refused b k) h i = omega arith
skip_less n lost h i = omega arith

show_less : (t : Decorated) (v n : List Mark) (s : State) → 1 < size s
    → size (show t v n s) < size s
show_less t v n s h =
    let a = adds_size (lead_of t.leading) s in
    let b = add_size (M.text (token_value t.text)) (add_all (lead_of t.leading) s) in
    let c = adds_size v (add (M.text (token_value t.text)) (add_all (lead_of t.leading) s)) in
    let w = add_all v (add (M.text (token_value t.text)) (add_all (lead_of t.leading) s)) in
    let d = adds_size (trail_of t.trailing n) w in
    skip_less (size s) (add_all (trail_of t.trailing n) w) h (omega (arith, a, b, c, d))

take_moves : (p : Kind → Bool) (v n : List Mark) → Moves (take p v n)
take_moves p v n (going [] m r) h = omega arith
take_moves p v n (going (t ∷ ts) m r) h = choose_less (p (kind_of_decorated t))
    (suc (suc (length ts))) _ _
    (show_less t v n (going (t ∷ ts) m r) (omega arith)) (omega arith)
take_moves p v n (refused b k) h = h
take_moves p v n lost h = h

take_keeps : (p : Kind → Bool) (v n : List Mark) → Keeps (take p v n)
take_keeps p v n (going ts m r) = let x = take_moves p v n (going ts m r) (omega arith) in
    omega (arith, x)
take_keeps p v n (refused b k) = omega arith
take_keeps p v n lost = omega arith

bare_size : (s : State) → size (bare_first s) ≤ size s
bare_size (going [] m r) = omega arith
bare_size (going (t ∷ ts) m r) = omega arith
bare_size (refused b n) = omega arith
bare_size lost = omega arith

lead_size : (s : State) → size (add_lead s) ≤ size s
lead_size (going [] m r) = omega arith
lead_size (going (t ∷ ts) m r) = adds_size (lead_of t.leading) (going (t ∷ ts) m r)
lead_size (refused b n) = omega arith
lead_size lost = omega arith

lift_size : (s : State) → size (lift s) ≤ size s
lift_size s = let a = lead_size s in let b = bare_size (add_lead s) in omega (arith, a, b)

turns_keep : (t : State → Bool) (P : State → State) → Keeps P → (n : ℕ) → Keeps (turns t P n)
turns_keep t P k zero s = omega arith
turns_keep t P k (suc n) s = let x = k s in let y = turns_keep t P k n (P s) in
    choose_size (t s) (size s) (turns t P n (P s)) s (omega (arith, x, y)) (omega arith)

both_keep : (P Q : State → State) → Keeps P → Keeps Q → Keeps (λ s. Q (P s))
both_keep P Q p q s = let x = p s in let y = q (P s) in omega (arith, x, y)

finish_keeps : (p : Kind → Bool) (Y Z : State → State) → Keeps Y → Keeps Z → Keeps (finish p Y Z)
finish_keeps p Y Z y z s = choose_size (begins p s) (size s) _ _
    (both_keep (take p [] []) Y (take_keeps p [] []) y s) (z s)

opening_keeps : (room : Bool) (E : State → State) (k : Kind) (ms : List Mark) (a : Rule)
    → Keeps (run room E a)
    → Keeps (λ s. run room E a (take (is k) [] [] (add_all ms s)))
opening_keeps room E k ms a x s =
    let f = adds_size ms s in
    let g = take_keeps (is k) [] [] (add_all ms s) in
    let h = x (take (is k) [] [] (add_all ms s)) in omega (arith, f, g, h)

pub run_keeps : (room : Bool) (E : State → State) → Keeps E → (R : Rule) → Keeps (run room E R)
run_keeps room E e never s = rw (refuse_size false s) (omega arith)
run_keeps room E e inner s = e s
run_keeps room E e (put ms) s = adds_size ms s
run_keeps room E e (token p v n) s = take_keeps p v n s
run_keeps room E e (then a b) s =
    let x = run_keeps room E e a s in
    let y = run_keeps room E e b (run room E a s) in omega (arith, x, y)
run_keeps room E e (either a b) s = choose_size (begins (first a) s) (size s) _ _
    (run_keeps room E e a s) (run_keeps room E e b s)
run_keeps room E e (star a) s = turns_keep (begins (first a)) (run room E a)
    (λ z. run_keeps room E e a z) (size s) s
run_keeps room E e (deeper k ms a) s = choose_size (begins (is k) s) (size s) _ _
    (choose_size room (size s) _ _ (opening_keeps room E k ms a (run_keeps room E e a) s)
    (rw (refuse_size true s) (omega arith)))
    (rw (refuse_size false s) (omega arith))
run_keeps room E e (lifted a) s = let x = lift_size s in let y = run_keeps room E e a (lift s) in
    omega (arith, x, y)
run_keeps room E e (peek q a b) s = choose_size (looking q s) (size s) _ _ (run_keeps room E e a s)
    (run_keeps room E e b s)
run_keeps room E e (fork p m n a b) s = choose_size (second (first a) s) (size s) _ _
    (both_keep (take p [] m) (run room E a) (take_keeps p [] m) (run_keeps room E e a) s)
    (both_keep (take p [] n) (run room E b) (take_keeps p [] n) (run_keeps room E e b) s)
run_keeps room E e (tail k x y z) s = let p : Kind → Bool = is k in let P : State
    → State = λ w. run room E x (take p [] [] w) in
    both_keep (λ w. turns (goes p (first x)) P (size w) w) (finish p (run room E y) (run room E z))
    (λ w. turns_keep (goes p (first x)) P (both_keep (take p [] []) (run room E x)
    (take_keeps p [] []) (run_keeps room E e x)) (size w) w)
    (finish_keeps p (run room E y) (run room E z) (run_keeps room E e y) (run_keeps room E e z)) s

refuse_less : (b : Bool) (s : State) (n : ℕ) → 0 < n → size (refuse b s) < n
refuse_less b s n h = rw (refuse_size b s) h

neither : (a b : Bool) → (a || b) ≡ false → (a ≡ false) × (b ≡ false)
neither true b e = absurd cc
neither false b e = (refl, e)

second_moves : (P Q : State → State) → Keeps P → Keeps Q → Moves Q → (s : State) → 0 < size s
    → (m : ℕ) → size (P s) ≡ m
    → size (Q (P s)) < size s
second_moves P Q p q y s h zero f = let x = q (P s) in omega (arith, x, f, h)
second_moves P Q p q y s h (suc m) f = let x = y (P s) (omega (arith, f)) in let z = p s in
    omega (arith, x, z)

then_moves : (P Q : State → State) (m n : Bool) → Keeps P → Keeps Q → (m ≡ false → Moves P)
    → (n ≡ false → Moves Q)
    → (m && n) ≡ false → Moves (λ s. Q (P s))
then_moves P Q true n p q x y e s h = second_moves P Q p q (y e) s h (size (P s)) refl
then_moves P Q false n p q x y e s h = let a = x refl s h in let b = q (P s) in omega (arith, a, b)

lift_moves : (P : State → State) → Keeps P → Moves P → (s : State) → 0 < size s → (n : ℕ)
    → size (lift s) ≡ n
    → size (P (lift s)) < size s
lift_moves P k p s h zero e = let a = k (lift s) in omega (arith, a, e, h)
lift_moves P k p s h (suc n) e = let a = p (lift s) (omega (arith, e)) in let b = lift_size s in
    omega (arith, a, b)

first_moves : (P Q : State → State) → Moves P → Keeps Q → Moves (λ s. Q (P s))
first_moves P Q p q s h = let x = p s h in let y = q (P s) in omega (arith, x, y)

finish_moves : (p : Kind → Bool) (Y Z : State → State) → Keeps Y → Moves Z → Moves (finish p Y Z)
finish_moves p Y Z y z s h = choose_less (begins p s) (size s) _ _
    (first_moves (take p [] []) Y (take_moves p [] []) y s h) (z s h)

-- a token is taken after marks
marks_moves : (p : Kind → Bool) (ms : List Mark) (s : State) → 0 < size s → (n : ℕ)
    → size (add_all ms s) ≡ n
    → size (take p [] [] (add_all ms s)) < size s
marks_moves p ms s h zero e = let a = take_keeps p [] [] (add_all ms s) in omega (arith, a, e, h)
marks_moves p ms s h (suc n) e =
    let a = take_moves p [] [] (add_all ms s) (omega (arith, e)) in
    let b = adds_size ms s in omega (arith, a, b)

opening_moves : (room : Bool) (E : State → State) (k : Kind) (ms : List Mark) (a : Rule)
    → Keeps (run room E a)
    → Moves (λ s. run room E a (take (is k) [] [] (add_all ms s)))
opening_moves room E k ms a x s h =
    let g = marks_moves (is k) ms s h (size (add_all ms s)) refl in
    let i = x (take (is k) [] [] (add_all ms s)) in omega (arith, g, i)

pub run_moves : (room : Bool) (E : State → State) → Keeps E → Moves E → (R : Rule)
    → nullable R ≡ false → Moves (run room E R)
run_moves room E k e never n s h = refuse_less false s (size s) h
run_moves room E k e inner n s h = e s h
run_moves room E k e (put ms) n s h = absurd cc
run_moves room E k e (token p v w) n s h = take_moves p v w s h
run_moves room E k e (then a b) n s h = then_moves (run room E a) (run room E b) (nullable a)
    (nullable b)
    (run_keeps room E k a) (run_keeps room E k b) (λ i. run_moves room E k e a i)
    (λ i. run_moves room E k e b i) n s h
run_moves room E k e (either a b) n s h = let w = neither (nullable a) (nullable b) n in
    choose_less (begins (first a) s) (size s) _ _ (run_moves room E k e a w.0 s h)
    (run_moves room E k e b w.1 s h)
run_moves room E k e (star a) n s h = absurd cc
run_moves room E k e (deeper b ms a) n s h = choose_less (begins (is b) s) (size s) _ _
    (choose_less room (size s) _ _ (opening_moves room E b ms a (run_keeps room E k a) s h)
    (refuse_less true s (size s) h))
    (refuse_less false s (size s) h)
run_moves room E k e (lifted a) n s h = lift_moves (run room E a) (run_keeps room E k a)
    (run_moves room E k e a n) s h (size (lift s)) refl
run_moves room E k e (peek q a b) n s h = let w = neither (nullable a) (nullable b) n in
    choose_less (looking q s) (size s) _ _ (run_moves room E k e a w.0 s h)
    (run_moves room E k e b w.1 s h)
run_moves room E k e (fork p m n a b) i s h = choose_less (second (first a) s) (size s) _ _
    (first_moves (take p [] m) (run room E a) (take_moves p [] m) (run_keeps room E k a) s h)
    (first_moves (take p [] n) (run room E b) (take_moves p [] n) (run_keeps room E k b) s h)
run_moves room E k e (tail b x y z) i s h = let p : Kind → Bool = is b in let P : State
    → State = λ w. run room E x (take p [] [] w) in
    second_moves (λ w. turns (goes p (first x)) P (size w) w)
    (finish p (run room E y) (run room E z))
    (λ w. turns_keep (goes p (first x)) P (both_keep (take p [] []) (run room E x)
    (take_keeps p [] []) (run_keeps room E k x)) (size w) w)
    (finish_keeps p (run room E y) (run room E z) (run_keeps room E k y) (run_keeps room E k z))
    (finish_moves p (run room E y) (run room E z) (run_keeps room E k y) (run_moves room E k e z i))
    s h
    (size (turns (goes p (first x)) P (size s) s)) refl

pub refuse_keeps : (b : Bool) → Keeps (refuse b)
refuse_keeps b s = rw (refuse_size b s) (omega arith)

pub refuse_moves : (b : Bool) → Moves (refuse b)
refuse_moves b s h = refuse_less b s (size s) h

module _ (i : ℤ) where
  pub expr_keeps : (n : ℕ) → Keeps (expr_to i n)
  expr_keeps zero = run_keeps false (refuse true) (refuse_keeps true) (lines.expr i)
  expr_keeps (suc n) = run_keeps true (expr_to i n) (expr_keeps n) (lines.expr i)

  pub expr_moves : (n : ℕ) → Moves (expr_to i n)
  expr_moves zero = run_moves false (refuse true) (refuse_keeps true) (refuse_moves true)
      (lines.expr i) (expr_has_tokens i)
  expr_moves (suc n) = run_moves true (expr_to i n) (expr_keeps n) (expr_moves n) (lines.expr i)
      (expr_has_tokens i)

-- a test that is true only where a token is
pub record IsTest (T : State → Bool) : Type 0 where
  pub sized : (s : State) → T s ≡ true → 0 < size s
  pub refusal : (x : Bool) (ts : List Decorated) → T (refused x ts) ≡ false
  pub loss : T lost ≡ false

begins_size : (p : Kind → Bool) (s : State) → begins p s ≡ true → 0 < size s
begins_size p (going l m r) e = omega arith
begins_size p (refused b n) e = absurd cc
begins_size p lost e = absurd cc

pub begins_test : (p : Kind → Bool) → IsTest (begins p)
begins_test p = record { sized = begins_size p; refusal = λ x n. refl; loss = refl }

goes_size : (p q : Kind → Bool) (s : State) → goes p q s ≡ true → 0 < size s
goes_size p q (going l m r) e = omega arith
goes_size p q (refused b n) e = absurd cc
goes_size p q lost e = absurd cc

pub goes_test : (p q : Kind → Bool) → IsTest (goes p q)
goes_test p q = record { sized = goes_size p q; refusal = λ x n. refl; loss = refl }
