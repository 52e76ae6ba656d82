-- How much the rows of the written grammar can write.
use Rattle.std.proofs.Common.{◌≡◌, ℕ, zero, suc, ℤ, pos, ◌+◌, ◌*◌, ◌≤◌, ◌<◌, Bool, true, false, List, [], ◌∷◌, ◌++◌, refl, sym, subst, arith}
use Rattle.std.proofs.Math.Nat.{suc-mul}
use Rattle.std.specs.List.{AllByRecursion}
use Prim.Native.String.{String}
use Rattle.cedar_tokens.specs.Listing.{Decorated}
use Rattle.cedar_tokens.proofs.Lists.{All-parts}
use Rattle.cedar_layout.specs.Layout.{Doc, nil, nest, group, line, line_or_nil, hard, ◌·◌, indented}
use Rattle.cedar_layout.specs.Comments.{space}
use Rattle.cedar_laws.specs.Good.{IsGood}
use Rattle.cedar_laws.proofs.Encoded.{value_utf8}
use Rattle.cedar_laws.specs.Table.{lead, tok, trail, C}
use Rattle.cedar_written.specs.Languages.{Lang, ◌⋄◌, ◌∪◌, Put, Token, LedGroup}
use Rattle.cedar_written.specs.Written as W
use Rattle.cedar_written.specs.Bounds.{columns_of}
use Rattle.cedar_written.proofs.Documents.{cost, Within, cost_append, within_append, Encoded, encoded_append}
use Rattle.cedar_written.proofs.Languages.{weights, weights_append, Bounded, Single, nil_single, line_single, line_or_nil_single, hard_single, space_single, token, put, settle, lower, seq, either, never, maybe, many, grouped, nested, led, guarded, value_length, lead_within, lead_encoded, trail_cost, trail_within, trail_encoded, indented_le}

module _ {u : ℕ} (one : 0 < u) where
  -- a language that pays for one more break, and one that pays for its own
  abbrev pub Pays : ℕ → (List Decorated → Doc → Type 0) → Type 0
  Pays c X = Bounded u c u 0 X

  abbrev pub Even : ℕ → (List Decorated → Doc → Type 0) → Type 0
  Even c X = Bounded u c 0 0 X

  infixr 24 ◌then◌
  abbrev ◌then◌ : {c p q r s : ℕ} {X Y : Lang} → Bounded u c p q X → Bounded u c r s Y → Bounded u c (p + r) (q + s) (X ⋄ Y)
  x then y = seq one x y

  infixr 22 ◌or◌
  abbrev ◌or◌ : {c p q : ℕ} {X Y : Lang} → Bounded u c p q X → Bounded u c p q Y → Bounded u c p q (X ∪ Y)
  x or y = either one x y

  pays : {c p q : ℕ} {X : Lang} → u + q ≤ p → Bounded u c p q X → Pays c X
  pays m x = settle one (omega (arith, m)) x

  -- a language that lacks one break
  owes : {c p q : ℕ} {X : Lang} → q ≤ u + p → Bounded u c p q X → Bounded u c 0 u X
  owes m x = settle one (omega (arith, m)) x

  even : {c p q : ℕ} {X : Lang} → q ≤ p → Bounded u c p q X → Even c X
  even m x = settle one (omega (arith, m)) x

  module _ (c : ℕ) where
    a_token : (P : List ℕ → Type 0) → Pays c (Token P nil)
    a_token P = token one u P nil (nil_single one) (omega arith)

    then_line : (P : List ℕ → Type 0) → Even c (Token P line)
    then_line P = token one 0 P line (line_single one) (omega arith)

    then_hard : (P : List ℕ → Type 0) → Even c (Token P hard)
    then_hard P = token one 0 P hard (hard_single one) (omega arith)

    a_line : Bounded u c 0 u (Put line)
    a_line = put one (line_single one)

    items : {X : Lang} → Pays c X → Pays c (W.Items X)
    items x = pays (omega arith) (x then many one (even (omega arith) (a_token _ then a_line then x))
        then maybe one (even (omega arith) (a_token _)))

    path : Pays c W.Path
    path = pays (omega arith) (a_token _ then many one (even (omega arith) (a_token _ then a_token _)))

    entity : Pays c W.Entity
    entity = pays (omega arith) (path then a_token _ then a_token _)

    annotation : Even c W.Annotation
    annotation = even (omega arith) (a_token _ then a_token _ then
        (settle one (omega arith) (a_token _ then a_token _ then then_hard _) or put one (hard_single one)))

    a_line_or_nil : Bounded u c 0 u (Put line_or_nil)
    a_line_or_nil = put one (line_or_nil_single one)

    a_hard : Bounded u c 0 u (Put hard)
    a_hard = put one (hard_single one)

    a_space : Bounded u c 0 u (Put space)
    a_space = put one (space_single one)

    signs : (s : String) → Even c (W.Signs s)
    signs s = even (omega arith) (a_token _ then maybe one (even (omega arith) (a_token _ then maybe one
        (even (omega arith) (a_token _ then maybe one (even (omega arith) (a_token _)))))))

    field : Pays c W.Field
    field = pays (omega arith) (a_token _ then a_token _)

  module _ (i : ℤ) where
    abbrev k : ℕ
    k = columns_of i

    module _ (c : ℕ) where
      accessed : {F X : Lang} → Pays (k + c) F → Pays c X → Pays (k + c) (W.Accessed i F X)
      accessed f x = grouped one (pays (omega arith) (f then nested one i
          (maybe one (even (omega arith) (x then many one (even (omega arith) (a_line_or_nil c then x)))))))

      operand : {X : Lang} → Pays (k + c) X → Pays (k + c) (W.Operand i X)
      operand x = grouped one (grouped one (accessed x (never one)))

      type_part : Even (k + c) (W.TypePart i)
      type_part = grouped one (nested one i (even (omega arith)
          (grouped one (a_line c then a_token c _) then a_line c then path c)))

      compared : {X Y : Lang} (op : String) → Pays (k + c) X → Pays c Y → Pays (k + c) (W.Compared i X op Y)
      compared op x y = led one (pays (omega arith)
          (grouped one (x then a_line (k + c) then a_token (k + c) _) then nested one i (a_line c then y)))

    -- the greatest indentation of a variable in a scope
    abbrev in_scope : ℕ
    in_scope = k + (k + 1)

    scoped : (variable slot : String) → Pays in_scope (W.Scoped i variable slot)
    scoped variable slot =
        pays (omega arith) (a_token in_scope _ then maybe one (type_part (k + 1)))
        or compared (k + 1) "==" (a_token in_scope _) place
        or compared (k + 1) "in" (pays (omega arith) (a_token in_scope _ then maybe one (type_part (k + 1)))) place
      where
        place : Pays (k + 1) (W.Operand i (W.Tok slot ∪ W.Entity))
        place = operand 1 (a_token (k + 1) _ or entity (k + 1))

    action : Pays in_scope (W.Action i)
    action = a_token in_scope _
        or compared (k + 1) "==" (a_token in_scope _) (operand 1 (entity (k + 1)))
        or compared (k + 1) "in" (a_token in_scope _) (operand 1 (entity (k + 1)
        or pays (omega arith) (a_token (k + 1) _ then lower one (omega arith) (nested one (pos 1)
        (maybe one (even (omega arith) (items (k + 0) (operand 0 (entity (k + 0))))))) then a_token (k + 1) _)))

    variables : (next : Doc) → Single u next → Bounded u in_scope (3 * u) 0 (W.Variables i next)
    variables next s = settle one (omega arith) (scoped "principal" "?principal" then comma
        then action then comma then scoped "resource" "?resource")
      where
        comma : Even in_scope (W.TokThen "," next)
        comma = token one 0 _ next s (omega (arith, s.costs))

    scope : Pays (k + in_scope) (W.Scope i)
    scope = guarded one (pays (omega arith) (grouped one (nested one i (variables space (space_single one)))))
        or guarded one (pays (omega arith) (nested one i (a_hard in_scope then variables hard (hard_single one))
        then a_hard (k + in_scope)))

    -- ---- expressions

    -- the greatest indentation of an expression with one more level
    abbrev pub step : ℕ → ℕ
    step c = k + (k + (k + (1 + c)))

    module _ (room : Bool) {Inner : Lang} (c : ℕ) (inner : Pays c Inner) where
      call : Pays (k + c) (W.Call i room Inner)
      call = guarded one (pays (omega arith) (a_token (k + c) _ then maybe one (owes (omega arith)
          (nested one i (a_line_or_nil c then items c inner) then a_line_or_nil (k + c))) then a_token (k + c) _))

      init : Pays c (W.Init i room Inner)
      init = pays (omega arith) ((a_token c _ or a_token c _) then a_token c _ then a_space c then inner)

      -- that of a member's accesses, and that of the member
      abbrev inside : ℕ
      inside = k + (1 + c)

      abbrev whole : ℕ
      whole = k + inside

      primary : Pays whole (W.Primary i room Inner)
      primary = (t _ or t _) or t _ or t _
          or guarded one (grouped one (pays (omega arith) (t _ then lower one (omega arith) (nested one (pos 1) inner) then t _)))
          or guarded one (pays (omega arith) (t _ then lower one (omega arith) (nested one (pos 1)
          (maybe one (even (omega arith) (items c inner)))) then t _))
          or guarded one (pays (omega arith) (t _ then maybe one (lower one (omega arith) (nested one i
          (grouped one (owes (omega arith) (a_line c then items c init then a_line c))))) then t _))
          or (t _ or t _ or t _ or t _) or entity whole
        where
          t : (P : List ℕ → Type 0) → Pays whole (Token P nil)
          t P = a_token whole P

      access : Pays inside (W.Access i room Inner)
      access = pays (omega arith) (field inside then maybe one (even (omega arith) (lower one (omega arith) call)))
          or pays (omega arith) (a_token inside _ then a_token inside _ then a_token inside _)

      member : Pays whole (W.Member i room Inner)
      member = accessed inside primary access
          or grouped one (pays (omega arith) (path whole then nested one i (even (omega arith)
          (lower one (omega arith) call then many one (even (omega arith) (a_line_or_nil inside then access))))))

      unary : Pays whole (W.Unary i room Inner)
      unary = pays (omega arith) (maybe one (signs whole "!" or signs whole "-") then member)

      mult : Pays whole (W.Mult i room Inner)
      mult = grouped one (pays (omega arith) (unary then many one (even (omega arith)
          (a_space whole then a_token whole _ then a_line whole then unary))))

      add : Pays whole (W.Add i room Inner)
      add = grouped one (pays (omega arith) (mult then many one (even (omega arith)
          (a_space whole then (a_token whole _ or a_token whole _) then a_line whole then mult))))

      sum : Pays (step c) (W.Add i room Inner)
      sum = lower one (omega arith) add

      relation : Pays (step c) (W.Relation i room Inner)
      relation = pays (omega arith) (sum then maybe one (even (omega arith)
          (a_space (step c) then (t _ or t _ or t _ or t _ or t _ or t _ or t _) then a_space (step c) then sum)))
          or grouped one (pays (omega arith) (sum then l then t _ then l then nested one i
          (operand inside (a_token whole _)
          or grouped one (grouped one (accessed inside (a_token whole _) (field inside))))))
          or grouped one (pays (omega arith) (sum then l then t _ then l then nested one i (operand inside (a_token whole _))))
          or grouped one (pays (omega arith) (sum then a_space (step c) then t _ then a_space (step c)
          then nested one i (path whole) then maybe one (even (omega arith)
          (l then t _ then a_space (step c) then nested one i add))))
        where
          t : (P : List ℕ → Type 0) → Pays (step c) (Token P nil)
          t P = a_token (step c) P

          l : Bounded u (step c) 0 u (Put line)
          l = a_line (step c)

      conjunction : Pays (step c) (W.And i room Inner)
      conjunction = pays (omega arith) (relation then many one (even (omega arith)
          (a_space (step c) then then_line (step c) _ then relation)))

      disjunction : Pays (step c) (W.Or i room Inner)
      disjunction = pays (omega arith) (conjunction then many one (even (omega arith)
          (a_space (step c) then then_line (step c) _ then conjunction)))

      below : Even (step c) (W.Below i room Inner)
      below = even (omega arith) (lower one (omega arith) (nested one i (a_line c then inner)))

      expr_in : Pays (step c) (W.ExprIn i room Inner)
      expr_in = guarded one (grouped one (pays (omega arith) (a_token (step c) _ then below then a_line (step c)
          then a_token (step c) _ then below then a_line (step c) then a_token (step c) _ then below)))
          or disjunction

    -- that of an expression with so many levels
    abbrev pub deep : ℕ → ℕ
    deep zero = step 0
    deep (suc n) = step (deep n)

    expr : (n : ℕ) → Pays (deep n) (W.Expr i n)
    expr zero = expr_in false 0 (never one)
    expr (suc n) = expr_in true (deep n) (expr n)

    -- ---- policies

    module _ (n : ℕ) where
      abbrev in_block : ℕ
      in_block = k + deep n

      block : Pays in_block (W.Block i n)
      block = record { costs = costs; within = within; utf8 = utf8 }
        where
          e : Bounded u (deep n) u 0 (LedGroup (W.Expr i n))
          e = led one (expr n)

          last : Pays (deep n) (Token (λ t. Unit {0}) nil)
          last = a_token (deep n) _

          first : Even in_block (Token (λ t. Unit {0}) line)
          first = then_line in_block _

          costs : (ts : List Decorated) (d : Doc) → W.Block i n ts d → cost u d + u ≤ weights u ts + 0
          costs ts d (l, r, us, b, s, a, g, z, f) = subst (λ y. cost u d + u ≤ weights u y + 0) (sym s)
              (subst (λ y. cost u y + u ≤ weights u (l ∷ (us ++ (r ∷ []))) + 0) (sym f) (omega (
                arith,
                cost_append u (lead l) (tok l · group (nest i (trail l line · b) · line · C r nil)),
                cost_append u (trail l line) b,
                value_length l.text,
                trail_cost one l.trailing line 0 (omega arith),
                weights_append u us (r ∷ []),
                e.costs us b g,
                last.costs (r ∷ []) (C r nil) (r, refl, refl, tt),
              )))

          within : (ts : List Decorated) (d : Doc) (j : ℕ) → W.Block i n ts d → j + in_block < u → Within u j d
          within ts d j (l, r, us, b, s, a, g, z, f) h =
              let inner = indented j i in
              let less : inner + deep n < u = omega (arith, h, indented_le one j i) in
              subst (λ y. Within u j y) (sym f)
              (within_append u j (lead l) (tok l · group (nest i (trail l line · b) · line · C r nil))
              (lead_within u j l.leading (omega (arith, h))) (
                (
                  within_append u inner (trail l line) b
                      (trail_within one l.trailing line inner (line_single one) (omega (arith, less)))
                      (e.within us b inner g less),
                  (omega (arith, h), last.within (r ∷ []) (C r nil) j (r, refl, refl, tt) (omega (arith, h))),
                ),
                tt,
              ))

          utf8 : (ts : List Decorated) (d : Doc) → W.Block i n ts d → AllByRecursion IsGood ts → Encoded d
          utf8 ts d (l, r, us, b, s, a, g, z, f) h =
              let good = subst (AllByRecursion IsGood) s h in
              let parts = All-parts IsGood us (r ∷ []) good.1 in
              subst Encoded (sym f)
              (encoded_append (lead l) (tok l · group (nest i (trail l line · b) · line · C r nil))
              (lead_encoded l.leading good.0.leading) (
                value_utf8 l.text good.0.utf8,
                (
                  (
                    encoded_append (trail l line) b
                        (trail_encoded one l.trailing line (line_single one) good.0.trailing.utf8)
                        (e.utf8 us b g parts.0),
                    last.utf8 (r ∷ []) (C r nil) (r, refl, refl, tt) parts.1,
                  ),
                  tt,
                ),
              ))

      cond : Pays in_block (W.Cond i n)
      cond = led one (pays (omega arith) ((then_line in_block _ or then_line in_block _) then block))

      deep_first : (n : ℕ) → step 0 ≤ deep n
      deep_first zero = omega arith
      deep_first (suc n) = omega (arith, deep_first n)

      pub policy : Pays in_block (W.Policy i n)
      policy = pays (omega arith) (many one (annotation in_block)
          then led one (pays (omega arith) ((t _ or t _) then a_line in_block then t _))
          then lower one (omega (arith, deep_first n)) scope
          then maybe one (even (omega arith) (t _))
          then (t _ or pays (omega arith) (then_hard in_block _ then cond
          then many one (even (omega arith) (a_hard in_block then cond))))
          then t _)
        where
          t : (P : List ℕ → Type 0) → Pays in_block (Token P nil)
          t P = a_token in_block P

    pub deep_is : (n : ℕ) → deep n ≡ suc n * suc (3 * k)
    deep_is zero = omega arith
    deep_is (suc n) = omega (arith, suc-mul (suc n) (suc (3 * k)), deep_is n)
