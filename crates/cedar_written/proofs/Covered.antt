-- What holds of the rows of each line holds of every tree in a row of the grammar, however deeply nested.
use Rattle.std.proofs.Common.{◌≡◌, ℕ, Bool, List, refl, ap, sym, ◌∙◌, subst, inl, inr}
use Rattle.std.specs.Prelude.{IsTrue, codes, ⊤}
use Prim.Native.String.{String}
use Rattle.cedar_tokens.specs.Units.{is_word, is_number, is_string}
use Rattle.cedar_grammar.specs.Trees.{Label, Forest, none, leaf, branch, join}
use Rattle.cedar_grammar.specs.Languages.{Lang, ◌⋄◌, ◌∪◌, Many, no_more, one_more, Maybe, Empty, Branch}
use Rattle.cedar_grammar.specs.Grammar as T
use Rattle.cedar_grammar.specs.Grammar.{is_identifier}
use Rattle.cedar_grammar.proofs.Readers.Equations.{join_none}
use Rattle.cedar_written.proofs.SameRows.{text}
use Rattle.cedar_written.proofs.Regrouped as R

abbrev pub Trees : Type 0
Trees = Forest Label (List ℕ)

-- P holds of each of these trees and of each tree in them
abbrev pub All : (Label → Trees → Type 0) → Trees → Type 0
All P none = ⊤
All P (leaf x f) = All P f
All P (branch l f g) = P l (branch l f none) × All P f × All P g

-- a row of Y is one leaf
pub record One (Y : Trees → Type 0) : Type 0 where
  pub is : (f : Trees) → Y f → (x : List ℕ) × (f ≡ leaf x none)

pub one : (Q : List ℕ → Type 0) → One (T.Leaf text Q)
one Q = record { is = λ f (a, e, p). (a, e) }

infixr 22 ◌either◌
pub ◌either◌ : {Y Z : Lang (List ℕ)} → One Y → One Z → One (Y ∪ Z)
y either z = record { is = λ f c. elim c [ inl a ↦ y.is f a | inr a ↦ z.is f a ] }

pub one_tok : (s : String) → One (T.Tok text s)
one_tok s = one (λ t. t ≡ codes s)

module _ (P : Label → Trees → Type 0) where
  all_join : (f g : Trees) → All P f → All P g → All P (join f g)
  all_join none g a b = b
  all_join (leaf x f) g a b = all_join f g a b
  all_join (branch l f h) g a b = (a.0, a.1, all_join h g a.2 b)

  -- the rows of Y are rows of Z, and P holds of every tree in them
  pub record Fits (Y Z : Trees → Type 0) : Type 0 where
    pub at : (f : Trees) → Y f → Z f × All P f

module _ {P : Label → Trees → Type 0} where
  infixr 24 ◌then◌
  pub ◌then◌ : {Y Y' Z Z' : Lang (List ℕ)} → Fits P Y Z → Fits P Y' Z' → Fits P (Y ⋄ Y') (Z ⋄ Z')
  y then y' = record {
    at = λ f (g, h, e, a, b).
        (let p = y.at g a in
        let q = y'.at h b in
        ((g, h, e, p.0, q.0), subst (λ z. All P z) (sym e) (all_join P g h p.1 q.1)));
  }

  infixr 22 ◌or◌
  pub ◌or◌ : {Y Y' Z Z' : Lang (List ℕ)} → Fits P Y Z → Fits P Y' Z' → Fits P (Y ∪ Y') (Z ∪ Z')
  y or y' = record {
    at = λ f c. elim c [
      | inl a ↦ (let p = y.at f a in (inl p.0, p.1))
      | inr a ↦ (let p = y'.at f a in (inr p.0, p.1))
    ];
  }

  empty : Fits P Empty Empty
  empty = record { at = λ f e. (e, subst (λ z. All P z) (sym e) tt) }

  pub maybe : {Y Z : Lang (List ℕ)} → Fits P Y Z → Fits P (Maybe Y) (Maybe Z)
  maybe y = y or empty

  every : {Y Z : Lang (List ℕ)} → Fits P Y Z → (f : Trees) → Many Y f → Many Z f × All P f
  every y f (no_more _ e) = (no_more f e, subst (λ z. All P z) (sym e) tt)
  every y f (one_more _ g h e a m) =
      let p = y.at g a in
      let q = every y h m in
      (one_more f g h e p.0 q.0, subst (λ z. All P z) (sym e) (all_join P g h p.1 q.1))

  pub many : {Y Z : Lang (List ℕ)} → Fits P Y Z → Fits P (Many Y) (Many Z)
  many y = record { at = every y }

  pub tok : (s : String) → Fits P (T.Tok text s) (T.Tok text s)
  tok s = record { at = λ f (a, e, p). ((a, e, p), subst (λ z. All P z) (sym e) tt) }

  -- a tree of parts
  pub node : {Y Z : Lang (List ℕ)} (l : Label) → ((f : Trees) → Branch l Z f → P l f) → Fits P Y Z
      → Fits P (Branch l Y) (Branch l Z)
  node l p y = record {
    at = λ f (g, e, a).
        (let b = y.at g a in
        ((g, e, b.0), subst (λ z. All P z) (sym e) (p (branch l g none) (g, refl, b.0), b.1, tt)));
  }

  -- a tree of one leaf
  pub word : {Y : Lang (List ℕ)} (l : Label) → ((x : List ℕ) → P l (branch l (leaf x none) none))
      → One Y → Fits P (Branch l Y) (Branch l Y)
  word l p y = record {
    at = λ f (g, e, a).
        (let r = y.is g a in (
          (g, e, a),
          subst (λ z. All P z) (sym (e ∙ ap (λ z. branch l z none) r.1)) (p r.0, tt, tt),
        ));
  }

  -- with something more around them
  pub into : {Y Z Z' : Lang (List ℕ)} → ((f : Trees) → Z f → Z' f) → Fits P Y Z → Fits P Y Z'
  into k y = record { at = λ f a. (let p = y.at f a in (k f p.0, p.1)) }

  pub keep : {Y Z : Lang (List ℕ)} → Fits P Y Z → Fits P Y Y
  keep y = record { at = λ f a. (a, (y.at f a).1) }

  first_of : {Y Z : Lang (List ℕ)} (W : Lang (List ℕ)) → Fits P Y Z → Fits P Y (Z ⋄ Many W)
  first_of W y = into (λ f z. (f, none, sym (join_none f), z, no_more none refl)) y

  without : {Y Z : Lang (List ℕ)} (W : Lang (List ℕ)) → Fits P Y Z → Fits P Y (Z ⋄ Maybe W)
  without W y = into (λ f z. (f, none, sym (join_none f), z, inr refl)) y

  unsigned : {Y Z : Lang (List ℕ)} (W : Lang (List ℕ)) → Fits P Y Z → Fits P Y (Maybe W ⋄ Z)
  unsigned W y = into (λ f z. (none, f, refl, inr refl, z)) y

  pub items : {Y Z : Lang (List ℕ)} → Fits P Y Z → Fits P (T.Items text Y) (T.Items text Z)
  items y = y then many (tok "," then y) then maybe (tok ",")

-- ---- what a member of no expression is: a slot in the scope, and fields after `has`

abbrev pub Slots : Lang (List ℕ)
Slots = Branch Label.primary (Branch Label.slot (T.Tok text "?principal" ∪ T.Tok text "?resource"))

abbrev pub Fields : Lang (List ℕ)
Fields = Branch Label.primary (Branch Label.name (T.Ident text)) ⋄ Many (T.Field text)

abbrev pub BareMember : Lang (List ℕ)
BareMember = Branch Label.member (Slots ∪ Fields)

abbrev pub BareUnary : Lang (List ℕ)
BareUnary = Branch Label.unary BareMember

abbrev pub BareMult : Lang (List ℕ)
BareMult = Branch Label.mult BareUnary

abbrev pub BareAdd : Lang (List ℕ)
BareAdd = Branch Label.add BareMult

abbrev pub Index : Lang (List ℕ)
Index = Branch Label.access (T.Tok text "[" ⋄ T.STR text ⋄ T.Tok text "]")

-- P holds of the rows of each line, where `room` and `Inner` are as in the grammar
pub record Lines (P : Label → Trees → Type 0) (room : Bool) (Inner : Trees → Type 0) : Type 0 where
  pub ident : (x : List ℕ) → P Label.ident (branch Label.ident (leaf x none) none)
  pub str : (x : List ℕ) → P Label.str (branch Label.str (leaf x none) none)
  pub boolean : (x : List ℕ) → P Label.boolean (branch Label.boolean (leaf x none) none)
  pub number : (x : List ℕ) → P Label.number (branch Label.number (leaf x none) none)
  pub string : (x : List ℕ) → P Label.string (branch Label.string (leaf x none) none)
  pub slot : (x : List ℕ) → P Label.slot (branch Label.slot (leaf x none) none)
  pub name : (f : Trees) → T.Path text f → P Label.name f
  pub ref : (f : Trees) → Branch Label.ref (T.Path text ⋄ T.Tok text "::" ⋄ T.STR text) f → P Label.ref f
  pub primary : (f : Trees) → (R.Primaries text room Inner ∪ Slots ∪ Branch Label.primary (T.Path text)) f → P Label.primary f
  pub access : (f : Trees) → (T.Field text ∪ T.Call text room Inner ∪ Index) f → P Label.access f
  pub init : (f : Trees) → T.Init text room Inner f → P Label.rec_init f
  pub member : (f : Trees) → (T.Member text room Inner ∪ BareMember) f → P Label.member f
  pub unary : (f : Trees) → (T.Unary text room Inner ∪ BareUnary) f → P Label.unary f
  pub mult : (f : Trees) → (T.Mult text room Inner ∪ BareMult) f → P Label.mult f
  pub add : (f : Trees) → (T.Add text room Inner ∪ BareAdd) f → P Label.add f
  pub relation : (f : Trees) → T.Relation text room Inner f → P Label.relation f
  pub and : (f : Trees) → T.And text room Inner f → P Label.and f
  pub or_chain : (f : Trees) → T.Or text room Inner f → P Label.or f
  pub expr : (f : Trees) → T.ExprIn text room Inner f → P Label.expr f
  pub parens : (f : Trees) → P Label.parens f
  pub list : (f : Trees) → P Label.list f
  pub fields : (f : Trees) → P Label.fields f
  pub compare : (f : Trees) → P Label.compare f
  pub has_or_like : (f : Trees) → P Label.has_or_like f
  pub is_type : (f : Trees) → P Label.is_type f

-- one identifier is a path
lone : (f : Trees) → Branch Label.name (T.Ident text) f → T.Path text f
lone f (g, e, i) = (g, e, (g, none, sym (join_none g), i, no_more none refl))

variable_word : (f : Trees) → Branch Label.ident (T.Tok text "principal" ∪ T.Tok text "action"
    ∪ T.Tok text "resource" ∪ T.Tok text "context") f → T.Ident text f
variable_word f (g, e, inl (a, d, h)) = (g, e, (a, d, subst (λ z. IsTrue (is_identifier z)) (sym h) refl))
variable_word f (g, e, inr (inl (a, d, h))) = (g, e, (a, d, subst (λ z. IsTrue (is_identifier z)) (sym h) refl))
variable_word f (g, e, inr (inr (inl (a, d, h)))) = (g, e, (a, d, subst (λ z. IsTrue (is_identifier z)) (sym h) refl))
variable_word f (g, e, inr (inr (inr (a, d, h)))) = (g, e, (a, d, subst (λ z. IsTrue (is_identifier z)) (sym h) refl))

module _ {P : Label → Trees → Type 0} {Room : Bool} {Big : Lang (List ℕ)} (ls : Lines P Room Big) where
  pub ident : Fits P (T.Ident text) (T.Ident text)
  ident = word Label.ident ls.ident (one (λ t. IsTrue (is_identifier t)))

  pub any_word : Fits P (T.AnyWord text) (T.AnyWord text)
  any_word = word Label.ident ls.ident (one (λ t. IsTrue (is_word t)))

  pub str : Fits P (T.STR text) (T.STR text)
  str = word Label.str ls.str (one (λ t. IsTrue (is_string t)))

  pub path : Fits P (T.Path text) (T.Path text)
  path = node Label.name ls.name (ident then many (tok "::" then ident))

  string : Fits P (Branch Label.primary (Branch Label.string (T.Literal text))) (R.Primaries text Room Big)
  string = into (λ f y. inr (inr (inl y))) (node Label.primary (λ f y. ls.primary f (inl (inr (inr (inl y)))))
      (word Label.string ls.string (one (λ t. IsTrue (is_string t)))))

  entity : Fits P (T.Entity text) (T.Entity text)
  entity = node Label.primary (λ f y. ls.primary f (inl (inr (inr (inr (inr (inr (inr (inr y)))))))))
      (node Label.ref ls.ref (path then tok "::" then str))

  named : Fits P (Branch Label.primary (T.Path text)) (Branch Label.primary (T.Path text))
  named = node Label.primary (λ f y. ls.primary f (inr (inr y))) path

  key : Fits P (Branch Label.primary (Branch Label.name (T.Ident text))) (Branch Label.primary (Branch Label.name (T.Ident text)))
  key = node Label.primary (λ f (g, e, y). ls.primary f (inr (inr (g, e, lone g y))))
      (node Label.name (λ f y. ls.name f (lone f y)) ident)

  field : Fits P (T.Field text) (T.Field text)
  field = node Label.access (λ f y. ls.access f (inl y)) (tok "." then ident)

  signs : (s : String) → Fits P (T.Signs text s) (T.Signs text s)
  signs s = let t = tok s in t then maybe (t then maybe (t then maybe t))

  relop : Fits P (T.Relop text) (T.Relop text)
  relop = tok "<" or tok "<=" or tok ">" or tok ">=" or tok "!=" or tok "==" or tok "in"

  -- an operand that is X alone: one of an expression, or none
  pub operand : {X : Lang (List ℕ)} → Fits P X (R.Primaries text Room Big) → Fits P (T.Operand text X) (T.Add text Room Big)
  operand x = node Label.add (λ f y. ls.add f (inl y)) (first_of _ (node Label.mult (λ f y. ls.mult f (inl y)) (first_of _
      (node Label.unary (λ f y. ls.unary f (inl y)) (unsigned _ (node Label.member (λ f y. ls.member f (inl y))
      (first_of _ (into (λ f y. R.primaries_back text Room Big f (inl y)) x))))))))

  pub bare : {X : Lang (List ℕ)} → Fits P X (Slots ∪ Fields) → Fits P (T.Operand text X) BareAdd
  bare x = node Label.add (λ f y. ls.add f (inr y)) (node Label.mult (λ f y. ls.mult f (inr y))
      (node Label.unary (λ f y. ls.unary f (inr y)) (node Label.member (λ f y. ls.member f (inr y)) x)))

  str_operand : Fits P (T.StrOperand text) (T.StrOperand text)
  str_operand = keep (operand string)

  has_field : Fits P (T.HasField text) (T.HasField text)
  has_field = keep (bare (into (λ f y. inr y) (key then many field)))

  pub entity_operand : Fits P (T.Operand text (T.Entity text)) (T.Add text Room Big)
  entity_operand = operand (into (λ f y. inr (inr (inr (inr (inr (inr (inr y))))))) entity)

  pub entity_item : Fits P (T.EntityItem text) (T.ExprIn text Room Big)
  entity_item = node Label.expr ls.expr (into (λ f y. inr y) (node Label.or ls.or_chain (first_of _ (node Label.and ls.and (first_of _
      (node Label.relation ls.relation (without _ entity_operand)))))))

  module _ {room : Bool} {Inner : Lang (List ℕ)} (up : IsTrue room → IsTrue Room) (inner : Fits P Inner Big) where
    deeper : {Y Z : Lang (List ℕ)} (s : String) → Fits P Y Z → Fits P (T.Deeper text room Inner s Y) (T.Deeper text Room Big s Z)
    deeper s y = record { at = λ f (r, a). (let p = (tok s then y).at f a in ((up r, p.0), p.1)) }

    call : Fits P (T.Call text room Inner) (T.Call text Room Big)
    call = node Label.access (λ f y. ls.access f (inr (inl y))) (deeper "(" (maybe (items inner) then tok ")"))

    init : Fits P (T.Init text room Inner) (T.Init text Room Big)
    init = node Label.rec_init ls.init ((key or string_key) then tok ":" then inner)
      where
        string_key : Fits P (Branch Label.primary (Branch Label.string (T.Literal text))) (Branch Label.primary (Branch Label.string (T.Literal text)))
        string_key = keep string

    primaries : Fits P (R.Primaries text room Inner) (R.Primaries text Room Big)
    primaries =
        node Label.primary (λ f y. ls.primary f (inl (inl y))) (word Label.boolean ls.boolean (one_tok "true" either one_tok "false"))
        or node Label.primary (λ f y. ls.primary f (inl (inr (inl y)))) (word Label.number ls.number (one (λ t. IsTrue (is_number t))))
        or keep string
        or node Label.primary (λ f y. ls.primary f (inl (inr (inr (inr (inl y)))))) (node Label.parens (λ f y. ls.parens f) (deeper "(" (inner then tok ")")))
        or node Label.primary (λ f y. ls.primary f (inl (inr (inr (inr (inr (inl y))))))) (node Label.list (λ f y. ls.list f) (deeper "[" (maybe (items inner) then tok "]")))
        or node Label.primary (λ f y. ls.primary f (inl (inr (inr (inr (inr (inr (inl y)))))))) (node Label.fields (λ f y. ls.fields f) (deeper "{" (maybe (items init) then tok "}")))
        or node Label.primary (λ f y. ls.primary f (inl (inr (inr (inr (inr (inr (inr (inl y)))))))))
        (node Label.name (λ f (g, e, y). ls.name f (lone f (g, e, variable_word g y)))
        (word Label.ident ls.ident (one_tok "principal" either one_tok "action" either one_tok "resource" either one_tok "context")))
        or entity

    primary : Fits P (T.Primary text room Inner) (T.Primary text Room Big)
    primary = record {
      at = λ f y. elim (R.primaries text room Inner f y) [
        | inl z ↦ (let p = primaries.at f z in (R.primaries_back text Room Big f (inl p.0), p.1))
        | inr z ↦ (let p = (named then call).at f z in (R.primaries_back text Room Big f (inr p.0), p.1))
      ];
    }

    access : Fits P (T.Access text room Inner) (T.Access text Room Big)
    access = field then maybe call or node Label.access (λ f y. ls.access f (inr (inr y))) (tok "[" then str then tok "]")

    member : Fits P (T.Member text room Inner) (T.Member text Room Big)
    member = node Label.member (λ f y. ls.member f (inl y)) (primary then many access)

    unary : Fits P (T.Unary text room Inner) (T.Unary text Room Big)
    unary = node Label.unary (λ f y. ls.unary f (inl y)) (maybe (signs "!" or signs "-") then member)

    mult : Fits P (T.Mult text room Inner) (T.Mult text Room Big)
    mult = node Label.mult (λ f y. ls.mult f (inl y)) (unary then many (tok "*" then unary))

    add : Fits P (T.Add text room Inner) (T.Add text Room Big)
    add = node Label.add (λ f y. ls.add f (inl y)) (mult then many ((tok "+" or tok "-") then mult))

    relation : Fits P (T.Relation text room Inner) (T.Relation text Room Big)
    relation = node Label.relation ls.relation (add then maybe (node Label.compare (λ f y. ls.compare f) (relop then add)
        or node Label.has_or_like (λ f y. ls.has_or_like f) (tok "has" then (str_operand or has_field))
        or node Label.has_or_like (λ f y. ls.has_or_like f) (tok "like" then str_operand)
        or node Label.is_type (λ f y. ls.is_type f) (tok "is" then path then maybe (tok "in" then add))))

    and : Fits P (T.And text room Inner) (T.And text Room Big)
    and = node Label.and ls.and (relation then many (tok "&&" then relation))

    or_chain : Fits P (T.Or text room Inner) (T.Or text Room Big)
    or_chain = node Label.or ls.or_chain (and then many (tok "||" then and))

    pub expr_in : Fits P (T.ExprIn text room Inner) (T.ExprIn text Room Big)
    expr_in = node Label.expr ls.expr (deeper "if" (inner then tok "then" then inner then tok "else" then inner) or or_chain)
