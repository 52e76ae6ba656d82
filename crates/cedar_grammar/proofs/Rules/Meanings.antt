-- What rules mean: their languages, and the tests of rules that the laws need.
use Rattle.std.specs.Prelude.{◌≡◌, ℕ, zero, suc, Bool, true, false, ◌||◌, ◌&&◌, not, IsTrue}
use Rattle.cedar_tokens.specs.declared.kind.Kind.{Kind}
use Rattle.cedar_tokens.specs.declared.kind.Kind.TheVariants as K
use Rattle.cedar_tokens.specs.Kinds.{is, is_variable}
use Rattle.cedar_grammar.specs.Trees.{Label, Forest, none}
use Rattle.cedar_grammar.specs.Trees as L
use Rattle.cedar_grammar.specs.Languages.{Lang, ◌⋄◌, ◌∪◌, Many, Empty, Never, Branch, Of}
use Rattle.cedar_grammar.specs.KindGrammar.{One, Items, Path, Entity}
use Rattle.cedar_grammar.specs.Reader.Sets.{no_kind, joined}
use Rattle.cedar_grammar.specs.Reader.Regroup.{gather}
use Rattle.cedar_grammar.specs.Reader.Rules.{Rule, never, empty, inner, leaf_of, nested, then, either, star, tail, node, shaped, items, entity, reference, nullable, first}
use Rattle.cedar_grammar.proofs.KindSets.{kinds, some, apart}

-- the kinds that continue an expression
abbrev pub expr_clash : Kind → Bool
expr_clash x = is K.Or x || is K.And x || is K.Lt x || is K.Le x || is K.Gt x || is K.Ge x
    || is K.NotEqual x || is K.Equal x || is K.In x || is K.Has x || is K.Like x || is K.Is x
    || is K.Add x || is K.Dash x || is K.Mul x || is K.Dot x || is K.LBracket x || is K.LParen x
    || is K.DoubleColon x

-- the kinds that may not follow, since the list would continue
abbrev pub clash : Rule → Kind → Bool
clash never = no_kind
clash empty = no_kind
clash inner = expr_clash
clash (leaf_of p) = no_kind
clash (nested k a) = clash a
clash (then a b) = joined (nullable b) (clash b) (clash a)
clash (either a b) = joined (nullable b) (λ k. clash a k || clash b k) (first a)
clash (star a) = λ k. first a k || clash a k
clash (tail s x y z) = joined (nullable y)
    (joined (nullable z) (λ k. clash y k || clash z k) (λ k. is s k || clash x k)) (first x)
clash (node l a) = clash a
clash (shaped a) = clash a
clash r = no_kind

-- One token is enough to read by.
abbrev pub decided : Rule → Bool
decided never = true
decided empty = true
decided inner = true
decided (leaf_of p) = true
decided (nested k a) = decided a
decided (then a b) = decided a && (decided b && apart (clash a) (first b))
decided (either a b) = decided a && (decided b && (not (nullable a) && apart (first a) (first b)))
decided (star a) = decided a && (not (nullable a) && apart (clash a) (first a))
decided (tail s x y z) =
    decided x && (decided y && (decided z && (not (nullable x) && (apart (first x) (first y)
    && (apart (is s) (first z) && (apart (clash x) (is s) && apart (clash x) (first z)))))))
decided (node l a) = decided a
decided (shaped a) = decided a
decided r = false

-- some list, without a bracket or an if where none is allowed
abbrev pub has : Bool → Rule → Bool
has b never = false
has b empty = true
has b inner = b
has b (leaf_of p) = some p kinds
has b (nested k a) = b && has true a
has b (then a c) = has b a && has b c
has b (either a c) = has b a || has b c
has b (star a) = true
has b (tail s x y z) = has b y
has b (node l a) = has b a
has b (shaped a) = has b a
has b r = false

-- What was begun can be completed so.
abbrev pub closes : Bool → Rule → Bool
closes b never = true
closes b empty = true
closes b inner = true
closes b (leaf_of p) = true
closes b (nested k a) = has true a && closes true a
closes b (then a c) = closes b a && (closes b c && has b c)
closes b (either a c) = closes b a && closes b c
closes b (star a) = closes b a
closes b (tail s x y z) = closes b x && (closes b y && (closes b z && has b y))
closes b (node l a) = closes b a
closes b (shaped a) = closes b a
closes b r = false

-- expressions occur only in brackets and after an if
abbrev pub covered : Rule → Bool
covered never = true
covered empty = true
covered inner = false
covered (leaf_of p) = true
covered (nested k a) = true
covered (then a b) = covered a && covered b
covered (either a b) = covered a && covered b
covered (star a) = covered a
covered (tail s x y z) = covered x && (covered y && covered z)
covered (node l a) = covered a
covered (shaped a) = covered a
covered r = false

module _ {A : Type 0} where
  abbrev pub Shaped : Lang A → Lang A
  Shaped X f = (g : Forest Label A) × (f ≡ gather none g) × X g

module _ {A : Type 0} (kind : A → Kind) where
  abbrev pub TailTo : Kind → Lang A → Lang A → Lang A → ℕ → Lang A
  TailTo s X Y Z zero = Z
  TailTo s X Y Z (suc n) = One kind s ⋄ (X ⋄ TailTo s X Y Z n ∪ Y) ∪ Z

  abbrev pub Tail : Kind → Lang A → Lang A → Lang A → Lang A
  Tail s X Y Z f = (n : ℕ) × TailTo s X Y Z n f

  abbrev pub Nested : Bool → Kind → Lang A → Lang A
  Nested room k X f = IsTrue room × (One kind k ⋄ X) f

  -- a variable, an entity or a path that is called
  abbrev pub Reference : Lang A → Lang A
  Reference C = Branch L.primary (Branch L.name (Branch L.ident (Of kind is_variable)))
      ∪ Entity kind ∪ Branch L.primary (Path kind) ⋄ C

  -- what the rule means, where room says whether a bracket or an if is allowed,
  -- and E is what it may contain
  abbrev pub means : Bool → Lang A → Rule → Lang A
  means room E never = Never
  means room E empty = Empty
  means room E inner = E
  means room E (leaf_of p) = Of kind p
  means room E (nested k a) = Nested room k (means room E a)
  means room E (then a b) = means room E a ⋄ means room E b
  means room E (either a b) = means room E a ∪ means room E b
  means room E (star a) = Many (means room E a)
  means room E (tail s x y z) = Tail s (means room E x) (means room E y) (means room E z)
  means room E (node l a) = Branch l (means room E a)
  means room E (shaped a) = Shaped (means room E a)
  means room E (items a) = Items kind (means room E a)
  means room E entity = Entity kind
  means room E (reference c) = Reference (Branch L.access (means room E c))
