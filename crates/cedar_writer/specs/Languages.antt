-- What rules mean: languages, which relate rows of tokens to their marks.
use Rattle.std.specs.Prelude.{◌≡◌, ◌⊎◌, ℕ, zero, suc, ℤ, Bool, true, false, ◌&&◌, IsTrue, List, [], ◌∷◌, ◌++◌}
use Rattle.cedar_tokens.specs.declared.kind.Kind.{Kind}
use Rattle.cedar_tokens.specs.Kinds.{is}
use Rattle.cedar_tokens.specs.Listing.{Decorated}
use Rattle.cedar_grammar.specs.Laws.{kind_of_decorated}
use Rattle.cedar_laws.specs.Table.{bare_token}
use Rattle.cedar_print.specs.WrittenMarks.{Mark, lead_of, marks_of}
use Rattle.cedar_writer.specs.Rules.{Rule, never, inner, put, token, then, either, star, tail, deeper, lifted, fork, peek}
use Rattle.cedar_writer.specs.Lines as lines

-- these tokens with their comments, in a row, and these marks
abbrev pub Lang : Type 1
Lang = List Decorated → List Mark → Type 0

infixr 24 ◌⋄◌
infixr 22 ◌∪◌
-- X followed by Y
abbrev pub ◌⋄◌ : Lang → Lang → Lang
(X ⋄ Y) ts ms = (us vs : List Decorated) × (e f : List Mark) × (ts ≡ us ++ vs) × (ms ≡ e ++ f) × X us e × Y vs f

abbrev pub ◌∪◌ : Lang → Lang → Lang
(X ∪ Y) ts ms = X ts ms ⊎ Y ts ms

abbrev pub Never : Lang
Never ts ms = ⊥

abbrev pub Put : List Mark → Lang
Put e ts ms = (ts ≡ []) × (ms ≡ e)

-- any number of times
pub data Many (X : List Decorated → List Mark → Type 0) : List Decorated → List Mark → Type 0 where
  no_more : Many X [] []
  one_more : (us vs : List Decorated) (e f : List Mark) → X us e → Many X vs f → Many X (us ++ vs) (e ++ f)

-- a token of one of these kinds
abbrev pub Token : (Kind → Bool) → List Mark → List Mark → Lang
Token p inside next ts ms = (t : Decorated) × (ts ≡ t ∷ []) × (ms ≡ marks_of t inside next) × IsTrue (p (kind_of_decorated t))

abbrev pub Deeper : Bool → Lang → Lang
Deeper room X ts ms = IsTrue room × X ts ms

-- the leading lines of the first token, and then X
abbrev pub Lifted : Lang → Lang
Lifted X ts ms = (t : Decorated) × (us : List Decorated) × (e : List Mark) × (ts ≡ t ∷ us) × (ms ≡ lead_of t.leading ++ e)
    × X (bare_token t ∷ us) e

-- the row begins with tokens of these kinds
abbrev pub looks : List (Kind → Bool) → List Decorated → Bool
looks [] ts = true
looks (p ∷ q) [] = false
looks (p ∷ q) (t ∷ ts) = p (kind_of_decorated t) && looks q ts

-- X, where the row does so or doesn't
abbrev pub Looking : List (Kind → Bool) → Bool → Lang → Lang
Looking q b X ts ms = (looks q ts ≡ b) × X ts ms

-- the language of a rule, where room says whether an if or a bracket is allowed, and E is what may be inside it
abbrev pub means : Bool → Lang → Rule → Lang
means room E never = Never
means room E inner = E
means room E (put ms) = Put ms
means room E (token p inside next) = Token p inside next
means room E (then a b) = means room E a ⋄ means room E b
means room E (either a b) = means room E a ∪ means room E b
means room E (star a) = Many (means room E a)
means room E (tail s x y z) = Many (Token (is s) [] [] ⋄ means room E x) ⋄ (Token (is s) [] [] ⋄ means room E y ∪ means room E z)
means room E (deeper k ms a) = Deeper room (Put ms ⋄ Token (is k) [] [] ⋄ means room E a)
means room E (lifted a) = Lifted (means room E a)
means room E (fork p m n a b) = Token p [] m ⋄ means room E a ∪ Token p [] n ⋄ means room E b
means room E (peek q a b) = Looking q true (means room E a) ∪ Looking q false (means room E b)

module _ (i : ℤ) where
  -- expressions with at most n ifs and brackets nested in each other
  abbrev pub Expr : ℕ → Lang
  Expr zero = means false Never (lines.expr i)
  Expr (suc n) = means true (Expr n) (lines.expr i)

  -- policies with such expressions
  abbrev pub Policy : ℕ → Lang
  Policy n = means true (Expr n) (lines.policy i)

  -- lists of them, with the marks of each
  pub data PolicySet (n : ℕ) : List Decorated → List (List Mark) → Type 0 where
    no_policy : PolicySet n [] []
    a_policy : (ts us : List Decorated) (ms : List Mark) (mss : List (List Mark))
        → Policy n ts ms → PolicySet n us mss → PolicySet n (ts ++ us) (ms ∷ mss)
