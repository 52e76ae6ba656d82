-- Opening a part makes less of what is left.
use Rattle.std.specs.Prelude.{◌≡◌, ℕ, ◌+◌, ◌<◌, Bool, true, false, IsTrue, List, [], ◌∷◌, ◌++◌, map, reverse, if◌then◌else◌, Option, Some, None, ⊤}
use Rattle.std.specs.List.{sum_by}
use Rattle.std.proofs.Common.{refl, sym, ap, ◌∙◌, arith, lit<, subst, zero-add, add_assoc}
use Rattle.cedar_faults.specs.Inside.Pendings.{with_levels}
use Rattle.cedar_tokens.specs.declared.kind.Kind.{Kind}
use Rattle.cedar_faults.specs.declared.part.Part.{Part}
use Rattle.cedar_faults.specs.declared.part.Part.TheVariants as P
use Rattle.cedar_faults.specs.Inside.Turns.{Way, takes, nests, opens, table, otherwise, Step, taken, opened, stopped, last, along, first_of, turn}

-- one more than the weights of the parts that a part can be opened to
abbrev pub weight : Part → ℕ
weight P.Signature = 14
weight P.Policy = 16
weight P.Expr = 15
weight P.Or = 14
weight P.And = 12
weight P.Relation = 10
weight P.Add = 8
weight P.Mult = 6
weight P.Unary = 4
weight P.Member = 3
weight P.Inner = 16
weight P.Exprs = 18
weight p = 1

abbrev pub weights : List Part → ℕ
weights [] = 0
weights (p ∷ ps) = weight p + weights ps

abbrev pub IsLess : ℕ → Step → Type 0
IsLess n (taken ps) = ⊤
IsLess n (opened ps) = weights ps < n
IsLess n stopped = ⊤

abbrev WayIsLess : ℕ → Way → Type 0
WayIsLess n (takes ps) = ⊤
WayIsLess n (nests ps) = ⊤
WayIsLess n (opens ps) = weights ps < n

abbrev TableIsLess : ℕ → List ((Kind → Bool) × Way) → Type 0
TableIsLess n [] = ⊤
TableIsLess n ((p, w) ∷ t) = WayIsLess n w × TableIsLess n t

along_less : (n : ℕ) (w : Way) (b : Bool) → WayIsLess n w → IsLess n (along w b)
along_less n (takes ps) b h = tt
along_less n (nests ps) true h = tt
along_less n (nests ps) false h = tt
along_less n (opens ps) b h = h

first_less : (n : ℕ) (t : List ((Kind → Bool) × Way)) (other : Step) (k : Kind) (b : Bool)
    → TableIsLess n t → IsLess n other → IsLess n (first_of t other k b)
first_less n [] other k b h i = i
first_less n ((p, w) ∷ t) other k b h i = go (p k) (first_less n t other k b h.1 i)
  where
    go : (c : Bool) → IsLess n (first_of t other k b) → IsLess n
        (if c then along w b else first_of t other k b)
    go true x = along_less n w b h.0
    go false x = x

pub turn_less : (p : Part) (k : Kind) (b : Bool) → IsLess (weight p) (turn p k b)
turn_less P.Inner k true = lit< tt
turn_less P.Inner k false = tt
turn_less (P.Token own) k b = first_less (weight (P.Token own)) (table (P.Token own)) (last
    (otherwise (P.Token own))) k b (tt, tt) tt
turn_less P.Word k b = first_less (weight P.Word) (table P.Word) (last (otherwise P.Word)) k b
    (tt, tt) tt
turn_less P.Identifier k b = first_less (weight P.Identifier) (table P.Identifier) (last
    (otherwise P.Identifier)) k b (tt, tt) tt
turn_less P.Policies k b = first_less (weight P.Policies) (table P.Policies) (last
    (otherwise P.Policies)) k b (tt, (tt, tt)) (lit< tt)
turn_less P.Policy k b = first_less (weight P.Policy) (table P.Policy) (last
    (otherwise P.Policy)) k b (tt, tt) (lit< tt)
turn_less P.Effect k b = first_less (weight P.Effect) (table P.Effect) (last
    (otherwise P.Effect)) k b (tt, tt) tt
turn_less P.Signature k b = first_less (weight P.Signature) (table P.Signature) (last
    (otherwise P.Signature)) k b tt (lit< tt)
turn_less P.AnnotationText k b = first_less (weight P.AnnotationText) (table P.AnnotationText)
    (last (otherwise P.AnnotationText)) k b (tt, tt) (lit< tt)
turn_less P.PrincipalTest k b = first_less (weight P.PrincipalTest) (table P.PrincipalTest) (last
    (otherwise P.PrincipalTest)) k b (tt, (tt, (tt, tt))) (lit< tt)
turn_less P.PrincipalEntity k b = first_less (weight P.PrincipalEntity) (table P.PrincipalEntity)
    (last (otherwise P.PrincipalEntity)) k b (tt, (tt, tt)) tt
turn_less P.PrincipalIn k b = first_less (weight P.PrincipalIn) (table P.PrincipalIn) (last
    (otherwise P.PrincipalIn)) k b (tt, tt) (lit< tt)
turn_less P.ActionTest k b = first_less (weight P.ActionTest) (table P.ActionTest) (last
    (otherwise P.ActionTest)) k b (tt, (tt, tt)) (lit< tt)
turn_less P.ActionSet k b = first_less (weight P.ActionSet) (table P.ActionSet) (last
    (otherwise P.ActionSet)) k b (tt, (tt, tt)) tt
turn_less P.ResourceTest k b = first_less (weight P.ResourceTest) (table P.ResourceTest) (last
    (otherwise P.ResourceTest)) k b (tt, (tt, (tt, tt))) (lit< tt)
turn_less P.ResourceEntity k b = first_less (weight P.ResourceEntity) (table P.ResourceEntity)
    (last (otherwise P.ResourceEntity)) k b (tt, (tt, tt)) tt
turn_less P.ResourceIn k b = first_less (weight P.ResourceIn) (table P.ResourceIn) (last
    (otherwise P.ResourceIn)) k b (tt, tt) (lit< tt)
turn_less P.Entity k b = first_less (weight P.Entity) (table P.Entity) (last
    (otherwise P.Entity)) k b (tt, tt) tt
turn_less P.EntityMarks k b = first_less (weight P.EntityMarks) (table P.EntityMarks) (last
    (otherwise P.EntityMarks)) k b (tt, tt) tt
turn_less P.EntityNext k b = first_less (weight P.EntityNext) (table P.EntityNext) (last
    (otherwise P.EntityNext)) k b (tt, (tt, tt)) tt
turn_less P.Entities k b = first_less (weight P.Entities) (table P.Entities) (last
    (otherwise P.Entities)) k b (tt, tt) (lit< tt)
turn_less P.MoreEntities k b = first_less (weight P.MoreEntities) (table P.MoreEntities) (last
    (otherwise P.MoreEntities)) k b (tt, tt) (lit< tt)
turn_less P.PathMarks k b = first_less (weight P.PathMarks) (table P.PathMarks) (last
    (otherwise P.PathMarks)) k b (tt, tt) (lit< tt)
turn_less P.Comma k b = first_less (weight P.Comma) (table P.Comma) (last
    (otherwise P.Comma)) k b (tt, tt) (lit< tt)
turn_less P.Conditions k b = first_less (weight P.Conditions) (table P.Conditions) (last
    (otherwise P.Conditions)) k b (tt, tt) (lit< tt)
turn_less P.Expr k b = first_less (weight P.Expr) (table P.Expr) (last (otherwise P.Expr)) k b
    (tt, tt) (lit< tt)
turn_less P.Or k b = first_less (weight P.Or) (table P.Or) (last (otherwise P.Or)) k b tt (lit< tt)
turn_less P.MoreOr k b = first_less (weight P.MoreOr) (table P.MoreOr) (last
    (otherwise P.MoreOr)) k b (tt, tt) (lit< tt)
turn_less P.And k b = first_less (weight P.And) (table P.And) (last (otherwise P.And)) k b tt
    (lit< tt)
turn_less P.MoreAnd k b = first_less (weight P.MoreAnd) (table P.MoreAnd) (last
    (otherwise P.MoreAnd)) k b (tt, tt) (lit< tt)
turn_less P.Relation k b = first_less (weight P.Relation) (table P.Relation) (last
    (otherwise P.Relation)) k b tt (lit< tt)
turn_less P.Comparison k b = first_less (weight P.Comparison) (table P.Comparison) (last
    (otherwise P.Comparison)) k b (tt, (tt, (tt, (tt, tt)))) (lit< tt)
turn_less P.HasOperand k b = first_less (weight P.HasOperand) (table P.HasOperand) (last
    (otherwise P.HasOperand)) k b (tt, (tt, tt)) tt
turn_less P.Fields k b = first_less (weight P.Fields) (table P.Fields) (last
    (otherwise P.Fields)) k b (tt, tt) (lit< tt)
turn_less P.InAdd k b = first_less (weight P.InAdd) (table P.InAdd) (last
    (otherwise P.InAdd)) k b (tt, tt) (lit< tt)
turn_less P.Add k b = first_less (weight P.Add) (table P.Add) (last (otherwise P.Add)) k b tt
    (lit< tt)
turn_less P.MoreAdd k b = first_less (weight P.MoreAdd) (table P.MoreAdd) (last
    (otherwise P.MoreAdd)) k b (tt, tt) (lit< tt)
turn_less P.Mult k b = first_less (weight P.Mult) (table P.Mult) (last (otherwise P.Mult)) k b tt
    (lit< tt)
turn_less P.MoreMult k b = first_less (weight P.MoreMult) (table P.MoreMult) (last
    (otherwise P.MoreMult)) k b (tt, tt) (lit< tt)
turn_less P.Unary k b = first_less (weight P.Unary) (table P.Unary) (last
    (otherwise P.Unary)) k b (tt, (tt, tt)) (lit< tt)
turn_less P.ThreeNegs k b = first_less (weight P.ThreeNegs) (table P.ThreeNegs) (last
    (otherwise P.ThreeNegs)) k b (tt, tt) (lit< tt)
turn_less P.TwoNegs k b = first_less (weight P.TwoNegs) (table P.TwoNegs) (last
    (otherwise P.TwoNegs)) k b (tt, tt) (lit< tt)
turn_less P.OneNeg k b = first_less (weight P.OneNeg) (table P.OneNeg) (last
    (otherwise P.OneNeg)) k b (tt, tt) (lit< tt)
turn_less P.ThreeDashes k b = first_less (weight P.ThreeDashes) (table P.ThreeDashes) (last
    (otherwise P.ThreeDashes)) k b (tt, tt) (lit< tt)
turn_less P.TwoDashes k b = first_less (weight P.TwoDashes) (table P.TwoDashes) (last
    (otherwise P.TwoDashes)) k b (tt, tt) (lit< tt)
turn_less P.OneDash k b = first_less (weight P.OneDash) (table P.OneDash) (last
    (otherwise P.OneDash)) k b (tt, tt) (lit< tt)
turn_less P.Member k b = first_less (weight P.Member) (table P.Member) (last
    (otherwise P.Member)) k b tt (lit< tt)
turn_less P.Item k b = first_less (weight P.Item) (table P.Item) (last (otherwise P.Item)) k b
    (tt, (tt, (tt, (tt, (tt, (tt, (tt, (tt, tt)))))))) tt
turn_less P.VariableMarks k b = first_less (weight P.VariableMarks) (table P.VariableMarks) (last
    (otherwise P.VariableMarks)) k b (tt, (tt, tt)) (lit< tt)
turn_less P.NameMarks k b = first_less (weight P.NameMarks) (table P.NameMarks) (last
    (otherwise P.NameMarks)) k b (tt, (tt, tt)) tt
turn_less P.NameNext k b = first_less (weight P.NameNext) (table P.NameNext) (last
    (otherwise P.NameNext)) k b (tt, (tt, tt)) tt
turn_less P.Accesses k b = first_less (weight P.Accesses) (table P.Accesses) (last
    (otherwise P.Accesses)) k b (tt, (tt, tt)) (lit< tt)
turn_less P.Call k b = first_less (weight P.Call) (table P.Call) (last (otherwise P.Call)) k b
    (tt, tt) (lit< tt)
turn_less P.Exprs k b = first_less (weight P.Exprs) (table P.Exprs) (last
    (otherwise P.Exprs)) k b (lit< tt, tt) (lit< tt)
turn_less P.MoreExprs k b = first_less (weight P.MoreExprs) (table P.MoreExprs) (last
    (otherwise P.MoreExprs)) k b (tt, tt) (lit< tt)
turn_less P.Inits k b = first_less (weight P.Inits) (table P.Inits) (last
    (otherwise P.Inits)) k b (tt, (tt, tt)) (lit< tt)
turn_less P.MoreInits k b = first_less (weight P.MoreInits) (table P.MoreInits) (last
    (otherwise P.MoreInits)) k b (tt, tt) (lit< tt)

abbrev pub total : List (Part × ℕ) → ℕ
total [] = 0
total ((p, n) ∷ more) = weight p + total more

total_with : (n : ℕ) (ps : List Part) (rest : List (Part × ℕ)) → total (map
    (with_levels n) ps ++ rest) ≡ weights ps + total rest
total_with n [] rest = sym (zero-add (total rest))
total_with n (p ∷ ps) rest = ap (λ x. weight p + x) (total_with n ps rest) ∙ sym (add_assoc
    (weight p) (weights ps) (total rest))

less_of : (p : Part) (ps : List Part) (s : Step) → s ≡ opened ps → IsLess (weight p) s
    → weights ps < weight p
less_of p ps s e h = let P : Step → Type 0 = IsLess (weight p) in subst P e h

pub total_less : (p : Part) (n m : ℕ) (k : Kind) (b : Bool) (ps : List Part) (rest : List
    (Part × ℕ)) → turn p k b ≡ opened ps
    → total (map (with_levels m) ps ++ rest) < total ((p, n) ∷ rest)
total_less p n m k b ps rest e =
    let h : weights ps < weight p = less_of p ps (turn p k b) e (turn_less p k b) in
    let i = total_with m ps rest in
    omega (arith, h, i)
