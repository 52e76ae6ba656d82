-- Operands made of a primary and its accesses, and the loop over fields.
use Rattle.std.specs.Prelude.{◌≡◌, ℕ, Bool, true, false, List, [], ◌∷◌, ◌++◌, length, ◌<◌, ◌≤◌, ◌-◌, zero, suc, Result, Ok, Err, Some, IfOk}
use Rattle.std.specs.List.{slice_get}
use Rattle.std.proofs.Common.{refl, sym, ap, ◌∙◌, arith, append_assoc}
use Rattle.std.specs.Borrow.{Bor}
use Rattle.cedar_tokens.specs.declared.token.Span.{Span}
use Rattle.cedar_tokens.specs.declared.kind.Kind.{Kind}
use Rattle.cedar_tokens.specs.declared.kind.Kind.TheVariants as K
use Rattle.cedar_tokens.specs.Kinds.{is, is_ident, begins}
use Rattle.cedar_grammar.specs.Trees.{Label, Forest, none, leaf, branch, join}
use Rattle.cedar_grammar.specs.Reader.Reading.{Answer, Reader, done, stuck, both, tree, repeat, token, one}
use Rattle.cedar_grammar.proofs.Readers.Equations.{Takes, tree_done, tree_fails, both_done, both_then_fails, both_takes, tree_takes, token_takes}
use Rattle.cedar_grammar.specs.Erased.{Erased, node, access_parts, primary_parts, add_parts}
use Rattle.cedar_reading.specs.Reading.{kind, Keeps, Fails, Stands, GivesNode, IsOperandOf, last_end, IsNameOf, IsNamePrimaryOf, GivesAfter, ident_parts}
use Rattle.cedar_grammar.specs.NodeLists.{access_items}
use Rattle.cedar_reading.specs.declared.lexeme.Lexeme.{Lexeme}
use Rattle.cedar_reading.specs.declared.reading.Refusal.{Refusal}
use Rattle.cedar_grammar.specs.declared.tree.Node.{Node}
use Rattle.cedar_grammar.specs.declared.tree.Ident.{Ident}
use Rattle.cedar_grammar.specs.declared.tree.Name.{Name}
use Rattle.cedar_grammar.specs.declared.tree.Primary as Primary
use Rattle.cedar_grammar.specs.declared.tree.MemAccess as MemAccess
use Rattle.cedar_grammar.specs.declared.tree.Add as Add
use Rattle.cedar_grammar.specs.TrailingCommas.{closes_next}
use Rattle.cedar_reading.proofs.LeafTexts.{covers_leaf, nodes_own}
use Rattle.cedar_reading.proofs.Rows.{row_node, row_join, row_parts, row_span, Chain, chain_first, chain_next, chain_stuck, chain_end}
use Rattle.cedar_reading.proofs.Steps.{passes}
use Rattle.cedar_reading.proofs.Paths.{word, name_stands}

-- a token whose text is its own
pub row_own : (t : Lexeme) (k : Kind) → t.kind ≡ k → is K.Comma k ≡ false → is K.Number k ≡ false
    → Stands t.span (leaf t.text.now none) (leaf t none)
row_own t k e h i =
    record { same = λ r. sym (nodes_own t k none r.0 e h i); place = covers_leaf t k e h }

module _ (P : Reader Lexeme) where
  pub operand_done : (ts : List Lexeme) (f : Forest Label Lexeme) (r : List Lexeme)
      → P ts ≡ done f r
      → tree Label.add (tree Label.mult (tree Label.unary (tree Label.member P))) ts
      ≡ done (branch Label.add
      (branch Label.mult (branch Label.unary (branch Label.member f none) none) none) none) r
  operand_done ts f r e = tree_done Label.add _ ts _ r (tree_done Label.mult _ ts _ r
      (tree_done Label.unary _ ts _ r (tree_done Label.member P ts f r e)))

  pub operand_fails : (ts : List Lexeme) (x : Bool) (r : List Lexeme) → P ts ≡ stuck x r
      → tree Label.add (tree Label.mult (tree Label.unary (tree Label.member P))) ts ≡ stuck x r
  operand_fails ts x r e = tree_fails Label.add _ ts x r (tree_fails Label.mult _ ts x r
      (tree_fails Label.unary _ ts x r (tree_fails Label.member P ts x r e)))

  -- the same for what reads a member
  pub members_done : (ts : List Lexeme) (f : Forest Label Lexeme) (r : List Lexeme)
      → tree Label.member P ts ≡ done (branch Label.member f none) r
      → tree Label.add (tree Label.mult (tree Label.unary (tree Label.member P))) ts
      ≡ done (branch Label.add
      (branch Label.mult (branch Label.unary (branch Label.member f none) none) none) none) r
  members_done ts f r e = tree_done Label.add _ ts _ r
      (tree_done Label.mult _ ts _ r (tree_done Label.unary _ ts _ r e))

  pub members_fail : (ts : List Lexeme) (x : Bool) (r : List Lexeme)
      → tree Label.member P ts ≡ stuck x r
      → tree Label.add (tree Label.mult (tree Label.unary (tree Label.member P))) ts ≡ stuck x r
  members_fail ts x r e = tree_fails Label.add _ ts x r
      (tree_fails Label.mult _ ts x r (tree_fails Label.unary _ ts x r e))

abbrev pub member_row : Node Primary.Primary → List (Node MemAccess.MemAccess) → Erased
member_row item access =
    node Label.primary item.span (primary_parts item.inner) (access_items access)

pub operand_stands : (item : Node Primary.Primary) (access : List (Node MemAccess.MemAccess))
    (s : Span) (n : Node Add.Add) (f : Forest Label Lexeme) → IsOperandOf item access s n
    → Stands s (member_row item access) f
    → Stands n.span (add_parts n.inner)
    (branch Label.mult (branch Label.unary (branch Label.member f none) none) none)
operand_stands item access s n f h g = row_span _ _ _ _ (sym h.1) (row_parts _ _ _ _ h.0 (row_node
    Label.mult s _ _ refl (row_node Label.unary s _ _ refl (row_node Label.member s _ _ refl g))))

-- What a loop preserves.
pub keep_done : {X : Type 0} (l : Label) (parts : X → Erased)
    (read : Result (Node X × Bor (List Lexeme)) Refusal) (old new : List (Node X))
    (rest : Bor (List Lexeme)) (u : Unit {0}) (a : Answer Lexeme) → GivesNode l parts read a
    → Keeps read old new rest (Ok u)
    → (x : Node X) × (f : Forest Label Lexeme) × (a ≡ done (branch l f none) rest.now)
    × Stands x.span (parts x.inner) f × (new ≡ old ++ x ∷ [])
keep_done l parts (Ok x) old new rest u a g k = (
  x.0,
  g.0,
  g.1 ∙ ap (λ (z : Bor (List Lexeme)). done (branch l g.0 none) z.now) (sym k.1),
  g.2,
  k.0,
)
keep_done l parts (Err e) old new rest u a g k = absurd k

pub keep_fails : {X : Type 0} (l : Label) (parts : X → Erased)
    (read : Result (Node X × Bor (List Lexeme)) Refusal) (old new : List (Node X))
    (rest : Bor (List Lexeme)) (e : Refusal) (a : Answer Lexeme) → GivesNode l parts read a
    → Keeps read old new rest (Err e) → Fails e a
keep_fails l parts (Ok x) old new rest e a g k = rw k tt
keep_fails l parts (Err f) old new rest e a g k = rw k g

-- The loop over fields.
abbrev pub head : Reader Lexeme
head = tree Label.primary (tree Label.name word)

abbrev pub field_reader : Reader Lexeme
field_reader = tree Label.access (both (one kind K.Dot) word)

abbrev pub dotted : List Lexeme → Bool
dotted ts = begins kind (is K.Dot) ts

pub field_takes : Takes field_reader
field_takes =
    tree_takes Label.access _ (both_takes (one kind K.Dot) word (token_takes kind (is K.Dot))
    (tree_takes Label.ident (token kind is_ident) (token_takes kind is_ident)))

pub end_none : (e : ℕ) (ns : List (Node MemAccess.MemAccess)) → length ns ≤ 0 → e ≡ last_end e ns
end_none e [] h = refl
end_none e (n ∷ ns) h = absurd (omega (arith, h))

end_at : (e : ℕ) (ns : List (Node MemAccess.MemAccess)) (k : ℕ) (n : Node MemAccess.MemAccess)
    → suc k ≡ length ns → slice_get ns k ≡ Some n → n.span.end ≡ last_end e ns
end_at e [] k n l h = absurd (omega (arith, l))
end_at e (x ∷ []) zero n l h =
    let i : x ≡ n = cc in ap (λ (z : Node MemAccess.MemAccess). z.span.end) (sym i)
end_at e (x ∷ []) (suc k) n l h = absurd (omega (arith, l))
end_at e (x ∷ (y ∷ ns)) zero n l h = absurd (omega (arith, l))
end_at e (x ∷ (y ∷ ns)) (suc k) n l h = end_at x.span.end (y ∷ ns) k n (omega (arith, l)) h

pub end_some : (e : ℕ) (ns : List (Node MemAccess.MemAccess)) (n : Node MemAccess.MemAccess)
    → 0 < length ns → Some n ≡ slice_get ns (length ns - 1) → n.span.end ≡ last_end e ns
end_some e ns n l h = end_at e ns (length ns - 1) n (omega (arith, l)) (sym h)

-- where the last of some accesses after others ends
pub last_after : (e : ℕ) (ns ms : List (Node MemAccess.MemAccess)) (u : ℕ)
    → ((z : ℕ) → last_end z ms ≡ u) → last_end e (ns ++ ms) ≡ u
last_after e [] ms u h = h e
last_after e (x ∷ ns) ms u h = last_after x.span.end ns ms u h

accesses_after : (ns ms : List (Node MemAccess.MemAccess))
    → access_items (ns ++ ms) ≡ join (access_items ns) (access_items ms)
accesses_after [] ms = refl
accesses_after (x ∷ ns) ms =
    ap (node Label.access x.span (access_parts x.inner)) (accesses_after ns ms)

-- I reads a primary, and P its accesses as long as t holds
module _ (I : Reader Lexeme) (t : List Lexeme → Bool) (P : Reader Lexeme) where
  -- a primary and the accesses read so far, if these are read this way
  pub record AccessesRead (item : Node Primary.Primary) (access : List (Node MemAccess.MemAccess))
      (ts rest : List Lexeme) : Type 0 where
    pub row : Forest Label Lexeme
    pub chain : Chain Label.member I t P ts row rest
    pub stands : Stands (record { start = item.span.start; end = last_end item.span.end access })
        (member_row item access) row

  pub accesses_first : (item : Node Primary.Primary) (access : List (Node MemAccess.MemAccess))
      (ts rest : List Lexeme) (row : Forest Label Lexeme) → I ts ≡ done row rest
      → Stands (record { start = item.span.start; end = last_end item.span.end access })
      (member_row item access) row → AccessesRead item access ts rest
  accesses_first item access ts rest row e h =
      record { row = row; chain = chain_first Label.member I t P ts row rest e; stands = h }

  -- accesses from one turn, which end at u
  pub accesses_next : Takes P
      → (item : Node Primary.Primary) (access extra more : List (Node MemAccess.MemAccess))
      (ts rest s : List Lexeme) (u : Span) (g : Forest Label Lexeme)
      → AccessesRead item access ts rest → t rest ≡ true → P rest ≡ done g s
      → closes_next kind g ≡ false → Stands u (access_items extra) g
      → ((z : ℕ) → last_end z extra ≡ u.end) → more ≡ access ++ extra → AccessesRead item more ts s
  accesses_next takes item access extra more ts rest s u g p h e c w l m = rw m (record {
    row = join p.row g;
    chain = chain_next Label.member I t P takes ts p.row rest g s p.chain h e;
    stands = row_parts _ _ _ _
        (ap (node Label.primary item.span (primary_parts item.inner)) (accesses_after access extra))
        (row_span _ _ _ _ (ap (λ z. record { start = item.span.start; end = z }) (sym
        (last_after item.span.end access extra u.end l))) (row_join _ _ _ _ p.row g c p.stands w));
  })

  pub accesses_stuck : (item : Node Primary.Primary) (access : List (Node MemAccess.MemAccess))
      (ts rest : List Lexeme) (x : Bool) (s : List Lexeme) → AccessesRead item access ts rest
      → t rest ≡ true → P rest ≡ stuck x s
      → tree Label.member (both I (repeat t P)) ts ≡ stuck x s
  accesses_stuck item access ts rest x s p h e =
      chain_stuck Label.member I t P ts p.row rest x s p.chain h e

  pub accesses_end : (item : Node Primary.Primary) (access : List (Node MemAccess.MemAccess))
      (ts rest : List Lexeme) → (p : AccessesRead item access ts rest) → t rest ≡ false
      → tree Label.member (both I (repeat t P)) ts ≡ done (branch Label.member p.row none) rest
  accesses_end item access ts rest p h = chain_end Label.member I t P ts p.row rest p.chain h

pub fields_first : (item : Node Primary.Primary) (ts rest : List Lexeme) (f : Forest Label Lexeme)
    → head ts ≡ done (branch Label.primary f none) rest
    → Stands item.span (primary_parts item.inner) f
    → AccessesRead head dotted field_reader item [] ts rest
fields_first item ts rest f e h =
    accesses_first head dotted field_reader item [] ts rest (branch Label.primary f none) e
    (row_node Label.primary item.span (primary_parts item.inner) f refl h)

-- two more, one after the other
pub grown : {X : Type 0} (xs ys zs : List X) (n m : X) → ys ≡ xs ++ n ∷ [] → zs ≡ ys ++ m ∷ []
    → zs ≡ xs ++ n ∷ m ∷ []
grown xs ys zs n m e h = h ∙ ap (λ us. us ++ m ∷ []) e ∙ append_assoc xs (n ∷ []) (m ∷ [])

-- one access
pub one_access : (n : Node MemAccess.MemAccess) (f : Forest Label Lexeme)
    → Stands n.span (access_parts n.inner) f
    → Stands n.span (access_items (n ∷ [])) (branch Label.access f none)
one_access n f h = row_node Label.access n.span (access_parts n.inner) f refl h

pub keep_shorter : {X : Type 0} (read : Result (Node X × Bor (List Lexeme)) Refusal)
    (old new : List (Node X)) (rest : Bor (List Lexeme)) (u : Unit {0}) (m : ℕ)
    → IfOk read (λ x. length x.1.now < m) → Keeps read old new rest (Ok u) → length rest.now < m
keep_shorter (Ok x) old new rest u m h k = rw k.1 h
keep_shorter (Err e) old new rest u m h k = absurd k

-- a name of one word as a primary
pub lone_name : (n : Node Ident) (name : Node Name) (item : Node Primary.Primary)
    (f : Forest Label Lexeme) → Stands n.span (ident_parts n.inner) f → IsNameOf [] n name
    → IsNamePrimaryOf name item
    → Stands item.span (primary_parts item.inner)
    (branch Label.name (branch Label.ident f none) none)
lone_name n name item f h i j =
    row_span _ _ _ _ (sym j.1) (row_parts _ _ _ _ j.0 (row_node Label.name name.span _ _ refl
    (name_stands [] n name _ i (row_node Label.ident n.span (ident_parts n.inner) f refl h))))

-- a node after a token
pub gives_after : {X : Type 0} (k : Kind) (l : Label) (parts : X → Erased)
    (result : Result (Node X × Bor (List Lexeme)) Refusal) (t : Lexeme) (ts rest : List Lexeme)
    (P Q : Reader Lexeme) → one kind k ts ≡ done (leaf t none) rest → t.kind ≡ k
    → GivesNode l parts result (P rest) → Q rest ≡ P rest
    → GivesAfter k l parts result (both (one kind k) Q ts)
gives_after k l parts (Ok x) t ts rest P Q e h g s = (
  t,
  g.0,
  both_done (one kind k) Q ts (leaf t none) rest (branch l g.0 none) x.1.now e (s ∙ g.1),
  h,
  g.2,
)
gives_after k l parts (Err f) t ts rest P Q e h g s = passes f (P rest) _ g
    (λ b r i. both_then_fails (one kind k) Q ts (leaf t none) rest b r e (s ∙ i))
