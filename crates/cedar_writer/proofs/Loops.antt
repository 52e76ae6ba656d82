-- Loops: a rule as often as it begins.
use Rattle.std.proofs.Common.{◌≡◌, ℕ, zero, suc, ℤ, ◌<◌, ◌≤◌, Bool, true, false, refl, sym, ◌∙◌, arith}
use Rattle.cedar_tokens.specs.declared.kind.Kind.{Kind}
use Rattle.cedar_tokens.specs.Kinds.{is}
use Rattle.cedar_writer.specs.Rules.{Rule, inner, star, tok, ◌▸◌}
use Rattle.cedar_writer.specs.Writing.{State, choose, nullable, first, begins, goes, refuse, size, turns, expr_to}
use Rattle.cedar_writer.proofs.Moves.{Keeps, Moves, run_moves, refuse_keeps, refuse_moves, expr_keeps, expr_moves, IsTest, begins_test, goes_test}
use Rattle.cedar_writer.specs.Depths.{has_room, inside, at_depth, around, alone, often_at, often}

-- ---- what is done as long as a test holds

module _ (T : State → Bool) (z : IsTest T) (P : State → State) where
  idle : (m : ℕ) (s : State) → size s ≤ 0 → (b : Bool) → T s ≡ b → s ≡ choose b (turns T P m (P s)) s
  idle m s i true e = let x = z.sized s e in absurd (omega (arith, x, i))
  idle m s i false e = refl

  one_turn : Moves P → (n m : ℕ) (s : State) → size s ≤ suc n → size s ≤ suc m
      → ((t : State) → size t ≤ n → size t ≤ m → turns T P n t ≡ turns T P m t) → (b : Bool) → T s ≡ b
      → choose b (turns T P n (P s)) s ≡ choose b (turns T P m (P s)) s
  one_turn h n m s i j r true e = let x = h s (z.sized s e) in r (P s) (omega (arith, x, i)) (omega (arith, x, j))
  one_turn h n m s i j r false e = refl

  enough : Moves P → (n m : ℕ) (s : State) → size s ≤ n → size s ≤ m → turns T P n s ≡ turns T P m s
  enough h zero zero s i j = refl
  enough h zero (suc m) s i j = idle m s i (T s) refl
  enough h (suc n) zero s i j = sym (idle n s j (T s) refl)
  enough h (suc n) (suc m) s i j = one_turn h n m s i j (λ t a b. enough h n m t a b) (T s) refl

  from : Moves P → (s : State) → T s ≡ true → (n : ℕ) → size s ≡ n → turns T P n s ≡ turns T P (size (P s)) (P s)
  from h s e zero i = let x = z.sized s e in absurd (omega (arith, x, i))
  from h s e (suc n) i = let x = h s (z.sized s e) in rw e (enough h n (size (P s)) (P s) (omega (arith, x, i)) (omega arith))

  ends : (n : ℕ) (s : State) → T s ≡ false → turns T P n s ≡ s
  ends zero s e = refl
  ends (suc n) s e = rw e refl

  less : Moves P → (s t : State) → T s ≡ true → t ≡ P s → size t < size s
  less m s t e h = rw h (m s (z.sized s e))

  turn : Moves P → (s t : State) {w : State} → T s ≡ true → w ≡ turns T P (size s) s → t ≡ P s → w ≡ turns T P (size t) t
  turn m s t {w} e i h = rw h (i ∙ from m s e (size s) refl)

  over : (s : State) {w : State} → T s ≡ false → w ≡ turns T P (size s) s → s ≡ w
  over s {w} e i = sym (i ∙ ends (size s) s e)

-- ---- lines without expressions

alone_moves : (R : Rule) → nullable R ≡ false → Moves (alone R)
alone_moves R n = run_moves false (refuse true) (refuse_keeps true) (refuse_moves true) R n

pub alone_less : (b : Rule) (s t : State) → nullable b ≡ false → begins (first b) s ≡ true → t ≡ alone b s → size t < size s
alone_less b s t n e h = less (begins (first b)) (begins_test (first b)) (alone b) (alone_moves b n) s t e h

pub alone_turn : (b : Rule) (s t : State) {w : State} → nullable b ≡ false → begins (first b) s ≡ true → w ≡ alone (star b) s
    → t ≡ alone b s → w ≡ alone (star b) t
alone_turn b s t {w} n e i h = turn (begins (first b)) (begins_test (first b)) (alone b) (alone_moves b n) s t e i h

pub alone_over : (b : Rule) (s : State) {w : State} → begins (first b) s ≡ false → w ≡ alone (star b) s → s ≡ w
alone_over b s {w} e i = over (begins (first b)) (begins_test (first b)) (alone b) s e i

pub often_less : (k : Kind) (x : Rule) (s t : State) → goes (is k) (first x) s ≡ true → t ≡ alone (tok k ▸ x) s → size t < size s
often_less k x s t e h = less (goes (is k) (first x)) (goes_test (is k) (first x)) (alone (tok k ▸ x)) (alone_moves (tok k ▸ x) refl) s t e h

pub often_turn : (k : Kind) (x : Rule) (s t : State) {w : State} → goes (is k) (first x) s ≡ true → w ≡ often k x s
    → t ≡ alone (tok k ▸ x) s → w ≡ often k x t
often_turn k x s t {w} e i h =
    turn (goes (is k) (first x)) (goes_test (is k) (first x)) (alone (tok k ▸ x)) (alone_moves (tok k ▸ x) refl) s t e i h

pub often_over : (k : Kind) (x : Rule) (s : State) {w : State} → goes (is k) (first x) s ≡ false → w ≡ often k x s → s ≡ w
often_over k x s {w} e i = over (goes (is k) (first x)) (goes_test (is k) (first x)) (alone (tok k ▸ x)) s e i

module _ (i : ℤ) where
  -- ---- lines of expressions

  pub inside_keeps : (n : ℕ) → Keeps (inside i n)
  inside_keeps zero = refuse_keeps true
  inside_keeps (suc n) = expr_keeps i n

  pub inside_moves : (n : ℕ) → Moves (inside i n)
  inside_moves zero = refuse_moves true
  inside_moves (suc n) = expr_moves i n

  depth_moves : (n : ℕ) (R : Rule) → nullable R ≡ false → Moves (at_depth i n R)
  depth_moves n R e = run_moves (has_room n) (inside i n) (inside_keeps n) (inside_moves n) R e

  pub depth_less : (n : ℕ) (b : Rule) (s t : State) → nullable b ≡ false → begins (first b) s ≡ true → t ≡ at_depth i n b s
      → size t < size s
  depth_less n b s t k e h = less (begins (first b)) (begins_test (first b)) (at_depth i n b) (depth_moves n b k) s t e h

  pub depth_turn : (n : ℕ) (b : Rule) (s t : State) {w : State} → nullable b ≡ false → begins (first b) s ≡ true
      → w ≡ at_depth i n (star b) s → t ≡ at_depth i n b s → w ≡ at_depth i n (star b) t
  depth_turn n b s t {w} k e j h = turn (begins (first b)) (begins_test (first b)) (at_depth i n b) (depth_moves n b k) s t e j h

  pub depth_over : (n : ℕ) (b : Rule) (s : State) {w : State} → begins (first b) s ≡ false → w ≡ at_depth i n (star b) s → s ≡ w
  depth_over n b s {w} e j = over (begins (first b)) (begins_test (first b)) (at_depth i n b) s e j

  pub often_at_less : (n : ℕ) (k : Kind) (x : Rule) (s t : State) → goes (is k) (first x) s ≡ true → t ≡ at_depth i n (tok k ▸ x) s
      → size t < size s
  often_at_less n k x s t e h =
      less (goes (is k) (first x)) (goes_test (is k) (first x)) (at_depth i n (tok k ▸ x)) (depth_moves n (tok k ▸ x) refl) s t e h

  pub often_at_turn : (n : ℕ) (k : Kind) (x : Rule) (s t : State) {w : State} → goes (is k) (first x) s ≡ true
      → w ≡ often_at i n k x s → t ≡ at_depth i n (tok k ▸ x) s → w ≡ often_at i n k x t
  often_at_turn n k x s t {w} e j h =
      turn (goes (is k) (first x)) (goes_test (is k) (first x)) (at_depth i n (tok k ▸ x)) (depth_moves n (tok k ▸ x) refl) s t e j h

  pub often_at_over : (n : ℕ) (k : Kind) (x : Rule) (s : State) {w : State} → goes (is k) (first x) s ≡ false
      → w ≡ often_at i n k x s → s ≡ w
  often_at_over n k x s {w} e j = over (goes (is k) (first x)) (goes_test (is k) (first x)) (at_depth i n (tok k ▸ x)) s e j

  -- ---- lines of policies

  around_moves : (n : ℕ) (R : Rule) → nullable R ≡ false → Moves (around i n R)
  around_moves n R e = run_moves true (expr_to i n) (expr_keeps i n) (expr_moves i n) R e

  pub around_less : (n : ℕ) (b : Rule) (s t : State) → nullable b ≡ false → begins (first b) s ≡ true → t ≡ around i n b s
      → size t < size s
  around_less n b s t k e h = less (begins (first b)) (begins_test (first b)) (around i n b) (around_moves n b k) s t e h

  pub around_turn : (n : ℕ) (b : Rule) (s t : State) {w : State} → nullable b ≡ false → begins (first b) s ≡ true
      → w ≡ around i n (star b) s → t ≡ around i n b s → w ≡ around i n (star b) t
  around_turn n b s t {w} k e j h = turn (begins (first b)) (begins_test (first b)) (around i n b) (around_moves n b k) s t e j h

  pub around_over : (n : ℕ) (b : Rule) (s : State) {w : State} → begins (first b) s ≡ false → w ≡ around i n (star b) s → s ≡ w
  around_over n b s {w} e j = over (begins (first b)) (begins_test (first b)) (around i n b) s e j

  -- ---- what is inside a bracket or an if

  pub inside_is : (n e : ℕ) (s : State) → n ≡ suc e → at_depth i n inner s ≡ expr_to i e s
  inside_is n e s h = rw h refl
