-- What reads and writes a rule, by the next token alone: the tokens that are left and the marks that are written, from one
-- function to the next. A state that failed stays as it is.
use Rattle.std.specs.Prelude.{ℕ, zero, suc, ℤ, Bool, true, false, ◌==◌, ◌-◌, ◌||◌, ◌&&◌, List, [], ◌∷◌, ◌++◌, length}
use Rattle.cedar_tokens.specs.Listing.{Decorated, token_value}
use Rattle.cedar_tokens.specs.declared.kind.Kind.{Kind}
use Rattle.cedar_tokens.specs.Kinds.{is}
use Rattle.cedar_grammar.specs.Laws.{kind_of_decorated}
use Rattle.cedar_grammar.specs.Reader.Rules.{expr_first}
use Rattle.cedar_grammar.specs.Reader.Sets.{no_kind, joined}
use Rattle.cedar_laws.specs.Table.{bare_token}
use Rattle.cedar_print.specs.WrittenMarks.{Mark, lead_of, trail_of}
use Rattle.cedar_print.specs.WrittenMarks as M
use Rattle.cedar_writer.specs.Rules.{Rule, never, inner, put, token, then, either, star, tail, deeper, lifted, fork, peek}
use Rattle.cedar_writer.specs.Lines as lines
use Rattle.cedar_writer.specs.Languages.{looks}

pub data State : Type 0 where
  -- the tokens that are left, the marks that are written, and for how many more there is room
  going : List Decorated → List Mark → ℕ → State
  -- whether only the depth is to blame, and the tokens from the refused one on
  refused : Bool → List Decorated → State
  -- there was no room for a mark
  lost : State

abbrev pub choose : {A : Type 0} → Bool → A → A → A
choose true x y = x
choose false x y = y

-- ---- what the next tokens are

-- the rule has the empty row
abbrev pub nullable : Rule → Bool
nullable never = false
nullable inner = false
nullable (put ms) = true
nullable (token p inside next) = false
nullable (then a b) = nullable a && nullable b
nullable (either a b) = nullable a || nullable b
nullable (star a) = true
nullable (tail s x y z) = nullable z
nullable (deeper k ms a) = false
nullable (lifted a) = nullable a
nullable (fork p m n a b) = false
nullable (peek q a b) = nullable a || nullable b

-- the kinds that its rows begin with
abbrev pub first : Rule → Kind → Bool
first never = no_kind
first inner = expr_first
first (put ms) = no_kind
first (token p inside next) = p
first (then a b) = joined (nullable a) (first a) (first b)
first (either a b) = λ k. first a k || first b k
first (star a) = first a
first (tail s x y z) = λ k. is s k || first z k
first (deeper k ms a) = is k
first (lifted a) = first a
first (fork p m n a b) = p
first (peek q a b) = λ k. first a k || first b k

-- the next token's kind is in the set
abbrev pub begins : (Kind → Bool) → State → Bool
begins p (going [] ms r) = false
begins p (going (t ∷ ts) ms r) = p (kind_of_decorated t)
begins p (refused b ts) = false
begins p lost = false

-- and that of the token after it
abbrev pub second : (Kind → Bool) → State → Bool
second p (going [] ms r) = false
second p (going (t ∷ ts) ms r) = begins p (going ts ms r)
second p (refused b ts) = false
second p lost = false

-- one of these, and then one of those
abbrev pub goes : (Kind → Bool) → (Kind → Bool) → State → Bool
goes p q s = begins p s && second q s

abbrev pub looking : List (Kind → Bool) → State → Bool
looking q (going ts ms r) = looks q ts
looking q (refused b ts) = false
looking q lost = false

-- ---- one step

abbrev pub refuse : Bool → State → State
refuse b (going ts ms r) = refused b ts
refuse b (refused c ts) = refused c ts
refuse b lost = lost

-- one more mark, if there is room
abbrev pub add : Mark → State → State
add x (going ts ms r) = choose (r == 0) lost (going ts (ms ++ (x ∷ [])) (r - 1))
add x (refused b ts) = refused b ts
add x lost = lost

abbrev pub add_all : List Mark → State → State
add_all [] s = s
add_all (x ∷ xs) s = add_all xs (add x s)

-- without the first token
abbrev pub skip : State → State
skip (going [] ms r) = going [] ms r
skip (going (t ∷ ts) ms r) = going ts ms r
skip (refused b ts) = refused b ts
skip lost = lost

-- its marks, and without it
abbrev pub show : Decorated → List Mark → List Mark → State → State
show t inside next s = skip (add_all (trail_of t.trailing next) (add_all inside
    (add (M.text (token_value t.text)) (add_all (lead_of t.leading) s))))

-- a token of one of these kinds
abbrev pub take : (Kind → Bool) → List Mark → List Mark → State → State
take p inside next (going [] ms r) = refused false []
take p inside next (going (t ∷ ts) ms r) =
    choose (p (kind_of_decorated t)) (show t inside next (going (t ∷ ts) ms r)) (refused false (t ∷ ts))
take p inside next (refused b ts) = refused b ts
take p inside next lost = lost

-- the leading lines of the first token, and without them
abbrev pub add_lead : State → State
add_lead (going [] ms r) = going [] ms r
add_lead (going (t ∷ ts) ms r) = add_all (lead_of t.leading) (going (t ∷ ts) ms r)
add_lead (refused b ts) = refused b ts
add_lead lost = lost

abbrev pub bare_first : State → State
bare_first (going [] ms r) = going [] ms r
bare_first (going (t ∷ ts) ms r) = going (bare_token t ∷ ts) ms r
bare_first (refused b ts) = refused b ts
bare_first lost = lost

abbrev pub lift : State → State
lift s = bare_first (add_lead s)

-- ---- rules

-- one more than the tokens that are left; nothing is left after a failure
abbrev pub size : State → ℕ
size (going ts ms r) = suc (length ts)
size (refused b ts) = 0
size lost = 0

-- as long as the test holds, at most so often
abbrev pub turns : (State → Bool) → (State → State) → ℕ → State → State
turns t P zero s = s
turns t P (suc n) s = choose (t s) (turns t P n (P s)) s

-- a token of s and Y, or Z
abbrev pub finish : (Kind → Bool) → (State → State) → (State → State) → State → State
finish p Y Z s = choose (begins p s) (Y (take p [] [] s)) (Z s)

-- what the rule does, where room says whether an if or a bracket is allowed, and E does what may be inside it
abbrev pub run : Bool → (State → State) → Rule → State → State
run room E never s = refuse false s
run room E inner s = E s
run room E (put ms) s = add_all ms s
run room E (token p inside next) s = take p inside next s
run room E (then a b) s = run room E b (run room E a s)
run room E (either a b) s = choose (begins (first a) s) (run room E a s) (run room E b s)
run room E (star a) s = turns (begins (first a)) (run room E a) (size s) s
run room E (tail k x y z) s = finish (is k) (run room E y) (run room E z)
    (turns (goes (is k) (first x)) (λ w. run room E x (take (is k) [] [] w)) (size s) s)
run room E (deeper k ms a) s = choose (begins (is k) s)
    (choose room (run room E a (take (is k) [] [] (add_all ms s))) (refuse true s)) (refuse false s)
run room E (lifted a) s = run room E a (lift s)
run room E (fork p m n a b) s = choose (second (first a) s) (run room E a (take p [] m s)) (run room E b (take p [] n s))
run room E (peek q a b) s = choose (looking q s) (run room E a s) (run room E b s)

module _ (i : ℤ) where
  -- an expression with at most n ifs and brackets nested in each other
  abbrev pub expr_to : ℕ → State → State
  expr_to zero s = run false (refuse true) (lines.expr i) s
  expr_to (suc n) s = run true (expr_to n) (lines.expr i) s

  -- a policy with such expressions
  abbrev pub policy_to : ℕ → State → State
  policy_to n s = run true (expr_to n) (lines.policy i) s
