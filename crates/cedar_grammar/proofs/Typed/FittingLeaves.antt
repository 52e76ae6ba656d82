-- The kinds of the leaves of a typed tree, as far as its document depends on them.
use Rattle.std.specs.Prelude.{Bool, ◌||◌, IsTrue, nat_lt, ⊤}
use Rattle.cedar_tokens.specs.declared.kind.Kind.{Kind}
use Rattle.cedar_tokens.specs.declared.kind.Kind.TheVariants as K
use Rattle.cedar_tokens.specs.Kinds.{is, code}
use Rattle.cedar_grammar.specs.TypedTrees.{Tree, NodeKind, PartKind, Clause, variable_bare, variable_is, variable_op, variable_is_op, cond_of, no_cond, conds_more, annotation_bare, annotation_value, no_annotation, annotations_more, policy_of, name_one, name_more, ref_of, args_one, args_more, init_of, inits_one, inits_more, literal, slot, reference, named, parens, list_empty, list_of, record_empty, record_of, no_access, field, call_empty, call, index, member_of, unsigned, signed, products_one, products_more, mult_of, sums_one, sums_more, add_of, single, compare, has_or_like, is_type, is_in, ands_one, ands_more, ors_one, ors_more, ors_expr, if_expr}

-- a word, a slot, a number or a string
abbrev pub is_atom : Kind → Bool
is_atom x = nat_lt (code x) 22

abbrev pub is_sign : Kind → Bool
is_sign x = is K.Neg x || is K.Dash x

module _ {A : Type 0} (kind : A → Kind) where
  abbrev pub Fits : {k : NodeKind} → Tree A k → Type 0
  Fits (name_one x) = IsTrue (is_atom (kind x))
  Fits (name_more x c r) = IsTrue (is_atom (kind x)) × IsTrue (is K.DoubleColon (kind c)) × Fits r
  Fits (ref_of n c s) = Fits n × IsTrue (is K.DoubleColon (kind c)) × IsTrue (is_atom (kind s))
  Fits (args_one e) = Fits e
  Fits (args_more e c r) = Fits e × IsTrue (is K.Comma (kind c)) × Fits r
  Fits (init_of k c v) = Fits k × IsTrue (is K.Colon (kind c)) × Fits v
  Fits (inits_one e) = Fits e
  Fits (inits_more e c r) = Fits e × IsTrue (is K.Comma (kind c)) × Fits r
  Fits (literal x) = IsTrue (is_atom (kind x))
  Fits (slot x) = IsTrue (is_atom (kind x))
  Fits (reference r) = Fits r
  Fits (named n) = Fits n
  Fits (parens l e r) = IsTrue (is K.LParen (kind l)) × Fits e × IsTrue (is K.RParen (kind r))
  Fits (list_empty l r) = IsTrue (is K.LBracket (kind l)) × IsTrue (is K.RBracket (kind r))
  Fits (list_of l a r) = IsTrue (is K.LBracket (kind l)) × Fits a × IsTrue (is K.RBracket (kind r))
  Fits (record_empty l r) = IsTrue (is K.LBrace (kind l)) × IsTrue (is K.RBrace (kind r))
  Fits (record_of l a r) = IsTrue (is K.LBrace (kind l)) × Fits a × IsTrue (is K.RBrace (kind r))
  Fits no_access = ⊤
  Fits (field d x m) = IsTrue (is K.Dot (kind d)) × IsTrue (is_atom (kind x)) × Fits m
  Fits (call_empty l r m) = IsTrue (is K.LParen (kind l)) × IsTrue (is K.RParen (kind r)) × Fits m
  Fits (call l a r m) =
      IsTrue (is K.LParen (kind l)) × Fits a × IsTrue (is K.RParen (kind r)) × Fits m
  Fits (index l x r m) = IsTrue (is K.LBracket (kind l)) × IsTrue (is_atom (kind x))
      × IsTrue (is K.RBracket (kind r)) × Fits m
  Fits (member_of p m) = Fits p × Fits m
  Fits (unsigned m) = Fits m
  Fits (signed s u) = IsTrue (is_sign (kind s)) × Fits u
  Fits (products_one u) = Fits u
  Fits (products_more u o r) = Fits u × Fits r
  Fits (mult_of p) = Fits p
  Fits (sums_one m) = Fits m
  Fits (sums_more m o r) = Fits m × Fits r
  Fits (add_of s) = Fits s
  Fits (single a) = Fits a
  Fits (compare a o b) = Fits a × Fits b
  Fits (has_or_like a o b) = Fits a × Fits b
  Fits (is_type a o n) = Fits a × Fits n
  Fits (is_in a o n p b) = Fits a × Fits n × Fits b
  Fits (ands_one r) = Fits r
  Fits (ands_more r o m) = Fits r × Fits m
  Fits (ors_one a) = Fits a
  Fits (ors_more a o m) = Fits a × Fits m
  Fits (ors_expr o) = Fits o
  Fits (if_expr f c t a e b) = IsTrue (is_atom (kind f)) × Fits c × Fits a × Fits b

  abbrev pub PartFits : {k : PartKind} → Clause A k → Type 0
  PartFits (variable_bare v) = IsTrue (is_atom (kind v))
  PartFits (variable_is v i n) = IsTrue (is_atom (kind v)) × Fits n
  PartFits (variable_op v o a) = IsTrue (is_atom (kind v)) × Fits a
  PartFits (variable_is_op v i n o a) = IsTrue (is_atom (kind v)) × Fits n × Fits a
  PartFits (cond_of k l e r) = IsTrue (is_atom (kind k)) × IsTrue (is K.LBrace (kind l)) × Fits e
      × IsTrue (is K.RBrace (kind r))
  PartFits no_cond = ⊤
  PartFits (conds_more c m) = PartFits c × PartFits m
  PartFits (annotation_bare a k) = IsTrue (is K.At (kind a)) × IsTrue (is_atom (kind k))
  PartFits (annotation_value a k l s r) = IsTrue (is K.At (kind a)) × IsTrue (is_atom (kind k))
      × IsTrue (is K.LParen (kind l)) × IsTrue (is_atom (kind s)) × IsTrue (is K.RParen (kind r))
  PartFits no_annotation = ⊤
  PartFits (annotations_more a m) = PartFits a × PartFits m
  PartFits (policy_of ns e l p c a d r q cs s) =
      PartFits ns × IsTrue (is_atom (kind e)) × IsTrue (is K.LParen (kind l)) × PartFits p
      × IsTrue (is K.Comma (kind c)) × PartFits a × IsTrue (is K.Comma (kind d)) × PartFits r
      × IsTrue (is K.RParen (kind q)) × PartFits cs × IsTrue (is K.SemiColon (kind s))
