-- The lines by the names of those below them are the lines of the grammar.
use Rattle.std.proofs.Common.{◌≡◌, zero, suc, ℕ, ℤ, ◌<◌, Bool, true, false, List, [], ◌∷◌, arith, refl, ap, ◌∙◌}
use Rattle.std.specs.Prelude.{◌||◌}
use Rattle.cedar_tokens.specs.declared.kind.Kind.TheVariants as K
use Rattle.cedar_tokens.specs.declared.kind.Kind.{Kind}
use Rattle.cedar_tokens.specs.Kinds.{is}
use Rattle.cedar_print.specs.WrittenMarks as M
use Rattle.cedar_writer.specs.Rules.{Rule, deeper, star, ◌▸◌, ◌∥◌, space, line, begin, end_group, end_nothing, group, tok, tok_then, one_of, maybe, nest, put, peek}
use Rattle.cedar_writer.specs.Lines as lines
use Rattle.cedar_writer.specs.Writing.{State, choose, begins, take, add_all, run, refuse, expr_to, policy_to}
use Rattle.cedar_writer.specs.Depths.{at_depth, around}
use Rattle.cedar_writer.specs.Parts as P
use Rattle.cedar_writer.specs.Parts.{some_arguments, some_exprs, some_inits, accesses, member, unary, mult, add, relation, and, or, slot_operand, some_entities, entities_operand, scoped, action, variables, bare_scope, broken_scope, policy_end}

pub taken : (b : Bool) (x y t : State) → b ≡ true → t ≡ x → t ≡ choose b x y
taken b x y t e h = rw e h

pub left : (b : Bool) (x y t : State) → b ≡ false → t ≡ y → t ≡ choose b x y
left b x y t e h = rw e h

-- a bracket or an if, with a level left
pub opened : (i : ℤ) (n : ℕ) (k : Kind) (ms : List M.Mark) (a : Rule) (s t : State) → begins (is k) s ≡ true → 0 < n
    → t ≡ at_depth i n a (take (is k) [] [] (add_all ms s)) → t ≡ at_depth i n (deeper k ms a) s
opened i zero k ms a s t e h g = absurd (omega arith)
opened i (suc n) k ms a s t e h g = rw e g

module _ (i : ℤ) where
  pub member_is : member i ≡ lines.member i
  unfolding some_arguments some_exprs some_inits accesses member
  member_is = refl

  pub unary_is : unary i ≡ lines.unary i
  unfolding unary
  unary_is = ap (λ m. P.some_signs ▸ m) member_is

  pub mult_is : mult i ≡ lines.mult i
  unfolding mult
  mult_is = ap (λ u. group (u ▸ star (space ▸ tok K.Mul ▸ line ▸ u))) unary_is

  pub add_is : add i ≡ lines.add i
  unfolding add
  add_is = ap (λ m. group (m ▸ star (space ▸ one_of (λ k. is K.Add k || is K.Dash k) ▸ line ▸ m))) mult_is

  -- a relation, from what its sums are
  abbrev relation_of : Rule → Rule
  relation_of a = begin ▸ a ▸ ((P.has i ∥ P.like i
      ∥ space ▸ tok K.Is ▸ space ▸ nest i lines.path ▸ maybe (line ▸ tok K.In ▸ space ▸ nest i a)) ▸ end_group
      ∥ maybe (space ▸ lines.relop ▸ space ▸ a) ▸ end_nothing)

  pub relation_is : relation i ≡ lines.relation i
  unfolding relation
  relation_is = ap relation_of add_is

  pub and_is : and i ≡ lines.and i
  unfolding and
  and_is = ap (λ r. r ▸ star (space ▸ tok_then K.And M.line ▸ r)) relation_is

  pub or_is : or i ≡ lines.or i
  unfolding or
  or_is = ap (λ a. a ▸ star (space ▸ tok_then K.Or M.line ▸ a)) and_is

  pub expr_is : P.expr i ≡ lines.expr i
  expr_is = ap (λ o. P.if_expr i ∥ o) or_is

  depth_expr : (n : ℕ) (s : State) → at_depth i n (P.expr i) s ≡ expr_to i n s
  depth_expr zero s = ap (λ R. run false (refuse true) R s) expr_is
  depth_expr (suc n) s = ap (λ R. run true (expr_to i n) R s) expr_is

  pub expr_by_if : (n : ℕ) (s t : State) → begins (is K.If) s ≡ true → t ≡ at_depth i n (P.if_expr i) s → t ≡ expr_to i n s
  expr_by_if n s t e h =
      taken (begins (is K.If) s) (at_depth i n (P.if_expr i) s) (at_depth i n (or i) s) t e h ∙ depth_expr n s

  pub expr_by_or : (n : ℕ) (s t : State) → begins (is K.If) s ≡ false → t ≡ at_depth i n (or i) s → t ≡ expr_to i n s
  expr_by_or n s t e h =
      left (begins (is K.If) s) (at_depth i n (P.if_expr i) s) (at_depth i n (or i) s) t e h ∙ depth_expr n s

  variables_is : (next : M.Mark) → variables i next ≡ lines.variables i next
  unfolding slot_operand some_entities entities_operand scoped action variables
  variables_is next = refl

  pub bare_is : bare_scope i ≡ lines.bare_scope i
  unfolding bare_scope
  bare_is = ap (λ v. put (M.begin ∷ M.nest i ∷ []) ▸ v ▸ put (M.end_nest ∷ M.end_group ∷ [])) (variables_is M.space)

  pub broken_is : broken_scope i ≡ lines.broken_scope i
  unfolding broken_scope
  broken_is = ap (λ v. put (M.nest i ∷ M.hard ∷ []) ▸ v ▸ put (M.end_nest ∷ M.hard ∷ [])) (variables_is M.hard)

  -- a policy, from what its two scopes are
  abbrev policy_of : Rule → Rule → Rule
  policy_of a b = star lines.annotation ▸ P.head ▸ peek lines.bare (a ▸ lines.policy_end i) (b ▸ lines.policy_end i)

  policy_is : P.policy i ≡ lines.policy i
  unfolding policy_end
  policy_is = ap (λ a. policy_of a (broken_scope i)) bare_is ∙ ap (λ b. policy_of (lines.bare_scope i) b) broken_is

  -- so a policy is read and written by the lines of the grammar
  pub policy_reads : (n : ℕ) (s : State) → around i n (P.policy i) s ≡ policy_to i n s
  policy_reads n s = ap (λ R. run true (expr_to i n) R s) policy_is
