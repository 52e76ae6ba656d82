-- A rule without brackets and ifs does the same at every depth.
use Rattle.std.proofs.Common.{◌≡◌, ℕ, zero, suc, ℤ, Bool, true, false, [], refl, sym, ap, ◌∙◌}
use Rattle.std.specs.Prelude.{◌&&◌}
use Rattle.cedar_tokens.specs.Kinds.{is}
use Rattle.cedar_writer.specs.Rules.{Rule, never, inner, put, token, then, either, star, tail, deeper, lifted, fork, peek}
use Rattle.cedar_writer.specs.Writing.{State, choose, begins, second, goes, looking, first, take, lift, size, turns, finish, run, expr_to}
use Rattle.cedar_writer.specs.Depths.{alone, around}
use Rattle.cedar_writer.specs.Parts.{bare_scope, broken_scope}
use Rattle.cedar_writer.proofs.Lines.{bare_is, broken_is}

-- nothing in the rule costs a level
abbrev flat : Rule → Bool
flat never = true
flat inner = false
flat (put ms) = true
flat (token p v n) = true
flat (then a b) = flat a && flat b
flat (either a b) = flat a && flat b
flat (star a) = flat a
flat (tail k x y z) = flat x && (flat y && flat z)
flat (deeper k ms a) = false
flat (lifted a) = flat a
flat (fork p m n a b) = flat a && flat b
flat (peek q a b) = flat a && flat b

one : (a b : Bool) → (a && b) ≡ true → a ≡ true
one true b e = refl
one false b e = absurd cc

other : (a b : Bool) → (a && b) ≡ true → b ≡ true
other true b e = e
other false b e = absurd cc

turns_same : (T : State → Bool) (P Q : State → State) → ((s : State) → P s ≡ Q s) → (n : ℕ) (s : State) → turns T P n s ≡ turns T Q n s
turns_same T P Q h zero s = refl
turns_same T P Q h (suc n) s = ap (λ z. choose (T s) z s) (turns_same T P Q h n (P s) ∙ ap (turns T Q n) (h s))

chosen_same : (b : Bool) (x y v w : State) → x ≡ v → y ≡ w → choose b x y ≡ choose b v w
chosen_same b x y v w e f = ap (λ z. choose b z y) e ∙ ap (λ z. choose b v z) f

module _ (room : Bool) (E : State → State) where
  flat_same : (R : Rule) → flat R ≡ true → (s : State) → run room E R s ≡ alone R s
  flat_same never e s = refl
  flat_same inner e s = absurd cc
  flat_same (put ms) e s = refl
  flat_same (token p v n) e s = refl
  flat_same (then a b) e s = flat_same b (other (flat a) (flat b) e) (run room E a s) ∙ ap (alone b) (flat_same a (one (flat a) (flat b) e) s)
  flat_same (either a b) e s = chosen_same (begins (first a) s) _ _ _ _ (flat_same a (one (flat a) (flat b) e) s)
      (flat_same b (other (flat a) (flat b) e) s)
  flat_same (star a) e s = turns_same (begins (first a)) (run room E a) (alone a) (λ w. flat_same a e w) (size s) s
  flat_same (tail k x y z) e s =
      let f : (flat y && flat z) ≡ true = other (flat x) (flat y && flat z) e in
      let v : State = turns (goes (is k) (first x)) (λ w. alone x (take (is k) [] [] w)) (size s) s in
      ap (finish (is k) (run room E y) (run room E z)) (turns_same (goes (is k) (first x)) (λ w. run room E x (take (is k) [] [] w))
      (λ w. alone x (take (is k) [] [] w)) (λ w. flat_same x (one (flat x) (flat y && flat z) e) (take (is k) [] [] w)) (size s) s)
      ∙ chosen_same (begins (is k) v) _ _ _ _ (flat_same y (one (flat y) (flat z) f) (take (is k) [] [] v))
      (flat_same z (other (flat y) (flat z) f) v)
  flat_same (deeper k ms a) e s = absurd cc
  flat_same (lifted a) e s = flat_same a e (lift s)
  flat_same (fork p m n a b) e s = chosen_same (second (first a) s) _ _ _ _ (flat_same a (one (flat a) (flat b) e) (take p [] m s))
      (flat_same b (other (flat a) (flat b) e) (take p [] n s))
  flat_same (peek q a b) e s = chosen_same (looking q s) _ _ _ _ (flat_same a (one (flat a) (flat b) e) s)
      (flat_same b (other (flat a) (flat b) e) s)

module _ (i : ℤ) (n : ℕ) where
  pub bare_around : (s : State) → alone (bare_scope i) s ≡ around i n (bare_scope i) s
  bare_around s = sym (flat_same true (expr_to i n) (bare_scope i) (ap flat (bare_is i) ∙ refl) s)

  pub broken_around : (s : State) → alone (broken_scope i) s ≡ around i n (broken_scope i) s
  broken_around s = sym (flat_same true (expr_to i n) (broken_scope i) (ap flat (broken_is i) ∙ refl) s)
