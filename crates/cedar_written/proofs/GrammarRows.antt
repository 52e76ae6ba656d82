-- The grammar over texts and the written grammar have the same lists, line by line.
use Rattle.std.proofs.Common.{◌≡◌, ℕ, zero, suc, ℤ, pos, Bool, true, false, List, [], ◌∷◌, ◌++◌, length, refl, ap, ◌∙◌, inl, inr, ◌⊎◌, arith}
use Rattle.std.specs.Prelude.{IsTrue, codes}
use Prim.Native.String.{String}
use Rattle.cedar_tokens.specs.Units.{is_word, is_number, is_string}
use Rattle.cedar_tokens.specs.Listing.{Decorated}
use Rattle.cedar_layout.specs.Layout.{Doc, nil, nest, group, line, line_or_nil, hard}
use Rattle.cedar_layout.specs.Comments.{space}
use Rattle.cedar_grammar.specs.Trees.{Label}
use Rattle.cedar_grammar.specs.Languages.{Lang, ◌⋄◌, Many, Branch}
use Rattle.cedar_grammar.specs.Grammar as T
use Rattle.cedar_written.specs.Languages.{◌⋄◌ as ◌⊙◌, ◌∪◌ as ◌⊕◌}
use Rattle.cedar_written.specs.Languages as L
use Rattle.cedar_written.specs.Written as W
use Rattle.cedar_written.proofs.SameRows.{Matches, text, or_never, leaf_matches as token, branch_matches as branch, ◌then◌, ◌or◌, put_matches as put, after_put, before_put, mapped_matches as mapped, maybe_matches as maybe, many_matches as many, room_matches as with_room, within_matches as within, led_group_matches as led_group, never_matches as never}
use Rattle.cedar_written.proofs.Regrouped as R
use Rattle.cedar_written.proofs.NonEmpty as F

module _ (i : ℤ) where
  tok_then : (s : String) (next : Doc) → Matches (T.Tok text s) (W.TokThen s next)
  tok_then s next = token (λ t. t ≡ codes s) next

  pub tok : (s : String) → Matches (T.Tok text s) (W.Tok s)
  tok s = tok_then s nil

  number : Matches (T.NUMBER text) W.NUMBER
  number = token (λ t. IsTrue (is_number t)) nil

  literal : Matches (T.Literal text) W.STR
  literal = token (λ t. IsTrue (is_string t)) nil

  pub str : Matches (T.STR text) W.STR
  str = branch Label.str literal

  any_word : Matches (T.AnyWord text) W.AnyWord
  any_word = branch Label.ident (token (λ t. IsTrue (is_word t)) nil)

  pub ident : Matches (T.Ident text) W.Ident
  ident = branch Label.ident (token (λ t. IsTrue (T.is_identifier t)) nil)

  items : {Y : Lang (List ℕ)} {X : L.Lang} → Matches Y X → Matches (T.Items text Y) (W.Items X)
  items x = x then many (tok "," then after_put line x) then maybe (tok ",")

  names : Matches (T.Ident text ⋄ Many (T.Tok text "::" ⋄ T.Ident text)) W.Path
  names = ident then many (tok "::" then ident)

  pub path : Matches (T.Path text) W.Path
  path = branch Label.name names

  pub entity : Matches (T.Entity text) W.Entity
  entity = branch Label.primary (branch Label.ref (path then tok "::" then str))

  signs : (s : String) → Matches (T.Signs text s) (W.Signs s)
  signs s = let t = tok s in t then maybe (t then maybe (t then maybe t))

  -- accesses, and a node alone
  pub accessed : {Y Z : Lang (List ℕ)} {F X : L.Lang} → Matches Y F → Matches Z X
      → Matches (Y ⋄ Many Z) (W.Accessed i F X)
  accessed {Z = Z} y z = mapped group
      (y then mapped (nest i) (within (R.unrolled Z) (R.rolled Z)
      (maybe (z then many (after_put line_or_nil z)))))

  operand_of : {Y : Lang (List ℕ)} {X : L.Lang} → Matches Y X
      → Matches (T.Operand text Y) (L.Group (L.Group X))
  operand_of x = branch Label.add
      (mapped group (branch Label.mult (mapped group (branch Label.unary (branch Label.member x)))))

  pub unaccessed : {Y : Lang (List ℕ)} {X : L.Lang} → Matches Y X → Matches Y (W.Accessed i X L.Never)
  unaccessed {Y} x = within (R.alone Y) (R.only Y)
      (mapped group (x then mapped (nest i)
      (or_never (λ ts d (us, vs, e, f, s, h, n, m). n) (put nil))))

  operand : {Y : Lang (List ℕ)} {X : L.Lang} → Matches Y X
      → Matches (T.Operand text Y) (W.Operand i X)
  operand x = operand_of (unaccessed x)

  pub field : Matches (T.Field text) W.Field
  field = branch Label.access (tok "." then ident)

  has_field : Matches (T.HasField text) (L.Group (L.Group (W.Accessed i W.Ident W.Field)))
  has_field = operand_of (accessed (branch Label.primary (branch Label.name ident)) field)

  str_operand : Matches (T.StrOperand text) (W.Operand i W.STR)
  str_operand = operand (branch Label.primary (branch Label.string literal))

  relop : Matches (T.Relop text) W.Relop
  relop = tok "<" or tok "<=" or tok ">" or tok ">=" or tok "!=" or tok "==" or tok "in"

  pub annotation : Matches (T.Annotation text) W.Annotation
  annotation = branch Label.annotation
      (tok "@" then any_word then (tok "(" then str then tok_then ")" hard or put hard))

  module _ (room : Bool) {Inner : Lang (List ℕ)} {Rows : L.Lang} (inner : Matches Inner Rows) where
    pub call : Matches (T.Call text room Inner) (W.Call i room Rows)
    call = branch Label.access (with_room room (tok "("
        then maybe (before_put line_or_nil (mapped (nest i) (after_put line_or_nil (items inner))))
        then tok ")"))

    pub init : Matches (T.Init text room Inner) (W.Init i room Rows)
    init = branch Label.rec_init ((branch Label.primary (branch Label.name ident)
        or branch Label.primary (branch Label.string literal)) then tok ":"
        then after_put space inner)

    pub primary : Matches (R.Primaries text room Inner) (W.Primary i room Rows)
    primary = node (branch Label.boolean (tok "true" or tok "false"))
        or node (branch Label.number number)
        or node (branch Label.string literal)
        or node (branch Label.parens (with_room room
        (mapped group (tok "(" then mapped (nest (pos 1)) inner then tok ")"))))
        or node (branch Label.list (with_room room
        (tok "[" then mapped (nest (pos 1)) (maybe (items inner)) then tok "]")))
        or node (branch Label.fields (with_room room
        (tok "{" then maybe (mapped (nest i)
        (mapped group (after_put line (before_put line (items init))))) then tok "}")))
        or node (branch Label.name (branch Label.ident
        (tok "principal" or tok "action" or tok "resource" or tok "context")))
        or entity
      where
        node : {Y : Lang (List ℕ)} {X : L.Lang} → Matches Y X → Matches (Branch Label.primary Y) X
        node x = branch Label.primary x

    pub access : Matches (T.Access text room Inner) (W.Access i room Rows)
    access = field then maybe call or branch Label.access (tok "[" then str then tok "]")

    pub member : Matches (T.Member text room Inner) (W.Member i room Rows)
    member = branch Label.member (within
        (R.members (T.Primary text room Inner) _ _ _ (T.Access text room Inner)
        (R.primaries text room Inner))
        (R.members_back (T.Primary text room Inner) _ _ _ (T.Access text room Inner)
        (R.primaries_back text room Inner))
        (accessed primary access or mapped group
        (branch Label.primary path then mapped (nest i)
        (call then many (after_put line_or_nil access)))))

    pub unary : Matches (T.Unary text room Inner) (W.Unary i room Rows)
    unary = branch Label.unary (maybe (signs "!" or signs "-") then member)

    pub mult : Matches (T.Mult text room Inner) (W.Mult i room Rows)
    mult = branch Label.mult (mapped group
        (unary then many (after_put space (tok "*" then after_put line unary))))

    pub add : Matches (T.Add text room Inner) (W.Add i room Rows)
    add = branch Label.add (mapped group
        (mult then many (after_put space ((tok "+" or tok "-") then after_put line mult))))

    pub relation : Matches (T.Relation text room Inner) (W.Relation i room Rows)
    relation = branch Label.relation
        (within (R.relations (T.Add text room Inner) _ _ _ _)
        (R.relations_back (T.Add text room Inner) _ _ _ _)
        (add then maybe (branch Label.compare (after_put space (relop then after_put space add)))
        or mapped group (add then after_put line
        (branch Label.has_or_like (tok "has"
        then after_put line (mapped (nest i) (str_operand or has_field)))))
        or mapped group (add then after_put line
        (branch Label.has_or_like (tok "like"
        then after_put line (mapped (nest i) str_operand))))
        or mapped group (add then after_put space
        (branch Label.is_type (tok "is" then after_put space (mapped (nest i) path
        then maybe (after_put line (tok "in" then after_put space (mapped (nest i) add)))))))))

    pub and : Matches (T.And text room Inner) (W.And i room Rows)
    and = branch Label.and (relation then many (after_put space (tok_then "&&" line then relation)))

    pub or_chain : Matches (T.Or text room Inner) (W.Or i room Rows)
    or_chain = branch Label.or (and then many (after_put space (tok_then "||" line then and)))

    below : Matches Inner (W.Below i room Rows)
    below = mapped (nest i) (after_put line inner)

    pub expr_in : Matches (T.ExprIn text room Inner) (W.ExprIn i room Rows)
    expr_in =
        branch Label.expr (with_room room
        (mapped group (tok "if" then below
        then after_put line (tok "then" then below then after_put line (tok "else" then below))))
        or or_chain)

  pub expr : (n : ℕ) → Matches (T.Expr text n) (W.Expr i n)
  expr zero = expr_in false never
  expr (suc n) = expr_in true (expr n)

  -- ---- the scope
  slot_or : (s : String) → Matches (T.EntityOr text s) (W.Operand i (W.Tok s ⊕ W.Entity))
  slot_or s = operand (branch Label.primary (branch Label.slot (tok s)) or entity)

  type_part : Matches (T.Tok text "is" ⋄ T.Path text) (W.TypePart i)
  type_part =
      mapped group (mapped (nest i) (mapped group (after_put line (tok "is"))
      then after_put line path))

  pub scoped : (v slot : String) → Matches (T.Scoped text v slot) (W.Scoped i v slot)
  scoped v slot = branch Label.variable
      (within (R.variables (Branch Label.ident (T.Tok text v)) _ _ _ _ _)
      (R.variables_back (Branch Label.ident (T.Tok text v)) _ _ _ _ _)
      (name then maybe type_part
      or led_group (F.first (F.mapped_full (F.first (F.tok v nil)))).none
      (mapped group (name then after_put line (tok "=="))
      then mapped (nest i) (after_put line (slot_or slot)))
      or led_group (F.first (F.mapped_full (F.first (F.first (F.tok v nil))))).none
      (mapped group ((name then maybe type_part) then after_put line (tok "in"))
      then mapped (nest i) (after_put line (slot_or slot)))))
    where
      name : Matches (Branch Label.ident (T.Tok text v)) (W.Tok v)
      name = branch Label.ident (tok v)

  pub action : Matches (T.Action text) (W.Action i)
  action = branch Label.variable
      (within (R.actions (Branch Label.ident (T.Tok text "action")) _ _ _ _)
      (R.actions_back (Branch Label.ident (T.Tok text "action")) _ _ _ _)
      (name or led_group (F.first (F.mapped_full (F.first (F.tok "action" nil)))).none
      (mapped group (name then after_put line (tok "=="))
      then mapped (nest i) (after_put line (operand entity)))
      or led_group (F.first (F.mapped_full (F.first (F.tok "action" nil)))).none
      (mapped group (name then after_put line (tok "in"))
      then mapped (nest i) (after_put line
      (within (R.operands text _ _) (R.operands_back text _ _)
      (operand (entity or branch Label.primary
      (branch Label.list (tok "[" then mapped (nest (pos 1)) (maybe (items item))
      then tok "]")))))))))
    where
      name : Matches (Branch Label.ident (T.Tok text "action")) (W.Tok "action")
      name = branch Label.ident (tok "action")

      item : Matches (T.EntityItem text) (W.Operand i W.Entity)
      item = branch Label.expr (branch Label.or
          (branch Label.and (branch Label.relation (operand entity))))

  variables : (next : Doc) → Matches
      (T.Principal text ⋄ T.Tok text "," ⋄ T.Action text ⋄ T.Tok text "," ⋄ T.Resource text)
      (W.Variables i next)
  variables next = scoped "principal" "?principal" then tok_then "," next then action
      then tok_then "," next then scoped "resource" "?resource"

  scope : Matches (T.Principal text ⋄ T.Tok text "," ⋄ T.Action text ⋄ T.Tok text ","
      ⋄ T.Resource text) (W.Scope i)
  scope = record {
    some = λ f ts y s. elim (five (length ts)) [
      | inl e ↦ (let a = (mapped group (mapped (nest i) (variables space))).some f ts y s in
          (a.0, inl (e, a.1)))
      | inr e ↦
          (let a = (before_put hard (mapped (nest i) (after_put hard (variables hard)))).some f ts y
          s in (a.0, inr (e, a.1)))
    ];
    back = λ ts d y. elim y [
      | inl z ↦ (mapped group (mapped (nest i) (variables space))).back ts d z.1
      | inr z ↦ (before_put hard (mapped (nest i) (after_put hard (variables hard)))).back ts d z.1
    ];
  }
    where
      five : (n : ℕ) → (n ≡ 5) ⊎ ¬ (n ≡ 5)
      five n = grind arith

  -- ---- conditions and policies
  block : (n : ℕ) → Matches (T.Tok text "{" ⋄ T.Expr text n ⋄ T.Tok text "}") (W.Block i n)
  block n = record {
    some = λ f ts y s. (let b = lines.some f ts y s in go ts b.0 b.1);
    back = λ ts d (l, r, us, e, s, hl, y, hr, h). lines.back ts _ (
      l ∷ [],
      us ++ (r ∷ []),
      _,
      _,
      s,
      refl,
      (l, refl, refl, hl),
      (us, r ∷ [], e, _, refl, refl, y, (r, refl, refl, hr)),
    );
  }
    where
      lines : Matches (T.Tok text "{" ⋄ T.Expr text n ⋄ T.Tok text "}")
          (W.Tok "{" ⊙ L.LedGroup (W.Expr i n) ⊙ W.Tok "}")
      lines = tok "{" then led_group (F.expr i n).none (expr n) then tok "}"

      go : (ts : List Decorated) (d : Doc) → (W.Tok "{" ⊙ L.LedGroup (W.Expr i n) ⊙ W.Tok "}") ts d
          → (d : Doc) × W.Block i n ts d
      go ts d (us, vs, e, f, s, c, (l, p, q, h), (xs, ys, g, k, s', c', x, (r, p', q', h'))) = (
        _,
        (
          l,
          r,
          xs,
          g,
          s ∙ (ap (λ z. z ++ vs) p ∙ ap (λ z. l ∷ z) (s' ∙ ap (λ z. xs ++ z) p')),
          h,
          x,
          h',
          refl,
        ),
      )

  pub cond : (n : ℕ) → Matches (T.Cond text n) (W.Cond i n)
  cond n = branch Label.condition (led_group (F.first (F.either (F.token _ _) (F.token _ _))).none
      (branch Label.ident (tok_then "when" line or tok_then "unless" line) then block n))

  pub policy : (n : ℕ) → Matches (T.Policy text n) (W.Policy i n)
  policy n = branch Label.policy
      (within (R.policies _ _ _ _ _ _ _ _ _ _ (T.Cond text n) _)
      (R.policies_back _ _ _ _ _ _ _ _ _ _ (T.Cond text n) _)
      (many annotation then led_group (F.first (F.either (F.token _ _) (F.token _ _))).none
      (branch Label.ident (tok "permit" or tok "forbid") then after_put line (tok "("))
      then scope then maybe (tok ",")
      then (tok ")" or tok_then ")" hard then cond n then many (after_put hard (cond n)))
      then tok ";"))
