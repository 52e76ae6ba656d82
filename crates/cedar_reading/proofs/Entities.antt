-- Entities, and the loop over words before an entity's string or whatever else follows them.
use Rattle.std.specs.Prelude.{◌≡◌, Bool, true, false, List, [], ◌∷◌, ◌++◌, Option, Some, None, Ok}
use Rattle.std.specs.Borrow.{Bor}
use Rattle.std.proofs.Common.{refl, sym, ap, ◌∙◌, subst}
use Rattle.std.proofs.lemmas.Bool.{true_from_ne_false}
use Rattle.cedar_tokens.specs.declared.kind.Kind.TheVariants as K
use Rattle.cedar_tokens.specs.Kinds.{is, is_ident, begins}
use Rattle.cedar_grammar.specs.Trees.{Label, Forest, none, leaf, branch, join}
use Rattle.cedar_grammar.specs.Reader.Reading.{Answer, Reader, done, stuck, token}
use Rattle.cedar_grammar.specs.Reader.Rules.{refuse, entity}
use Rattle.cedar_grammar.specs.Reader.Regroup.{gather}
use Rattle.cedar_grammar.proofs.Readers.Equations.{Takes, both_first, tree_takes, token_takes, tree_fails, join_assoc, onto, onto_onto}
use Rattle.cedar_grammar.proofs.Rules.Languages.{shaped_done}
use Rattle.cedar_grammar.proofs.KindSets.{apart_at}
use Rattle.cedar_grammar.specs.Erased.{path_parts, primary_parts}
use Rattle.cedar_reading.specs.Reading.{kind, flat, Stands, ident_parts, str_parts, name_parts, first_start, GivesNode}
use Rattle.cedar_reading.specs.ReadingParts.{ident_reader, text_reader, words_on, words_then, GoesOn, Words, WordsEnd, Gathers, GivesWords, IsEntityOf, slot_kind, IsSlotOf}
use Rattle.cedar_reading.specs.declared.lexeme.Lexeme.{Lexeme}
use Rattle.cedar_grammar.specs.declared.tree.Node.{Node}
use Rattle.cedar_grammar.specs.declared.tree.Ident.{Ident}
use Rattle.cedar_grammar.specs.declared.tree.Name.{Name}
use Rattle.cedar_grammar.specs.declared.tree.Str.{Str}
use Rattle.cedar_grammar.specs.declared.tree.Slot.{Slot}
use Rattle.cedar_grammar.specs.declared.tree.Primary as Primary
use Rattle.cedar_reading.proofs.Steps.{is_itself, token_not}
use Rattle.cedar_reading.proofs.Rows.{row_token, row_node, row_nodes, row_more, row_join, row_parts, row_span, no_closing}
use Rattle.cedar_reading.proofs.Paths.{path_grow, start_grow}
use Rattle.cedar_reading.proofs.Tails.{tailed_end, tailed_item, tailed_fails, tailed_last}

ident_takes : Takes ident_reader
ident_takes = tree_takes Label.ident (token kind is_ident) (token_takes kind is_ident)

-- how Z continues at these tokens
abbrev onward : Reader Lexeme → List Lexeme → Answer Lexeme
onward Z rest = words_on Z rest

-- the words read so far
pub record WordsRead (ts : List Lexeme) (path : List (Node Ident)) (name : Node Ident)
    (rest : List Lexeme) : Type 0 where
  pub row : Forest Label Lexeme
  pub read : (Z : Reader Lexeme) → words_then Z ts ≡ onto row (onward Z rest)
  pub gathers : Gathers row
  pub words : Words path row ts rest
  pub stands : Stands (record { start = first_start path name; end = name.span.end })
      (path_parts path name) row

-- the first word is read, whatever the path
word_first : (path : List (Node Ident)) (name : Node Ident) (row : Forest Label Lexeme)
    (ts rest after' : List Lexeme) (d : Lexeme) → Words path row ts rest → rest ≡ d ∷ after'
    → d.kind ≡ K.DoubleColon → GoesOn ts
word_first [] name row ts rest after' d w e k =
    (row, rest, w, ap (begins kind (is K.DoubleColon)) e ∙ is_itself K.DoubleColon d.kind (sym k))
word_first (n ∷ ns) name row ts rest after' d w e k = w

words_grow : (path : List (Node Ident)) (name : Node Ident) (row : Forest Label Lexeme)
    (ts s : List Lexeme) → GoesOn ts → Words (path ++ name ∷ []) row ts s
words_grow [] name row ts s g = g
words_grow (n ∷ ns) name row ts s g = g

ident_begins : (ts : List Lexeme) (f : Forest Label Lexeme) (r : List Lexeme)
    → ident_reader ts ≡ done f r → begins kind is_ident ts ≡ true
ident_begins ts f r e = true_from_ne_false (begins kind is_ident ts) (λ h. let w =
    tree_fails Label.ident (token kind is_ident) ts false ts (token_not is_ident ts h) in cc)

pub words_first : (ts : List Lexeme) (n : Node Ident) (rest : List Lexeme) (f : Forest Label Lexeme)
    → ident_reader ts ≡ done (branch Label.ident f none) rest
    → Stands n.span (ident_parts n.inner) f → WordsRead ts [] n rest
words_first ts n rest f e h = record {
  row = branch Label.ident f none;
  read = λ Z. both_first ident_reader (words_on Z) ts (branch Label.ident f none) rest e;
  gathers = λ g. refl;
  words = e;
  stands = row_node Label.ident n.span (ident_parts n.inner) f refl h;
}

gathers_next : (row f : Forest Label Lexeme) (d : Lexeme) → Gathers row
    → Gathers (join row (leaf d (branch Label.ident f none)))
gathers_next row f d h g =
    ap (gather none) (join_assoc row (leaf d (branch Label.ident f none)) g)
    ∙ h (leaf d (branch Label.ident f g))
    ∙ ap (λ z. gather z g) (join_assoc row (leaf d none) (branch Label.ident f none))

pub words_next : (ts : List Lexeme) (path more : List (Node Ident)) (name n : Node Ident)
    (rest after' s : List Lexeme) (d : Lexeme) (f : Forest Label Lexeme)
    → WordsRead ts path name rest → rest ≡ d ∷ after' → d.kind ≡ K.DoubleColon
    → ident_reader after' ≡ done (branch Label.ident f none) s
    → Stands n.span (ident_parts n.inner) f → more ≡ path ++ name ∷ [] → WordsRead ts more n s
words_next ts path more name n rest after' s d f p e k w h m =
    let t : is K.DoubleColon d.kind ≡ true = is_itself K.DoubleColon d.kind (sym k) in
    let g : Forest Label Lexeme = leaf d (branch Label.ident f none) in
    rw m (record {
      row = join p.row g;
      read = λ Z. p.read Z ∙ ap (λ z. onto p.row (words_on Z z)) e
          ∙ ap (onto p.row) (tailed_item K.DoubleColon is_ident ident_reader text_reader Z
          ident_takes d after' (branch Label.ident f none) s t (ident_begins after' _ s w) w)
          ∙ onto_onto p.row g (words_on Z s);
      gathers = gathers_next p.row f d p.gathers;
      words = words_grow path name (join p.row g) ts s
          (word_first path name p.row ts rest after' d p.words e k);
      stands = row_parts _ _ _ _ (path_grow path name n) (row_span _ _ _ _
          (ap (λ z. record { start = z; end = n.span.end }) (sym (start_grow path name n)))
          (row_join _ _ _ _ p.row g (no_closing d K.DoubleColon k refl) p.stands
          (row_more d K.DoubleColon n.span _ _ k refl refl
          (row_node Label.ident n.span (ident_parts n.inner) f refl h))));
    })

-- neither a string nor a word after `::`
pub words_stuck : (ts : List Lexeme) (path : List (Node Ident)) (name : Node Ident)
    (rest after' : List Lexeme) (d : Lexeme) (Z : Reader Lexeme) (b : Bool) (r : List Lexeme)
    → WordsRead ts path name rest → rest ≡ d ∷ after' → d.kind ≡ K.DoubleColon
    → begins kind (is K.Str) after' ≡ false → ident_reader after' ≡ stuck b r
    → words_then Z ts ≡ stuck b r
words_stuck ts path name rest after' d Z b r p e k v w =
    let t : is K.DoubleColon d.kind ≡ true = is_itself K.DoubleColon d.kind (sym k) in
    p.read Z ∙ ap (λ z. onto p.row (words_on Z z)) e
    ∙ ap (onto p.row) (go t (begins kind is_ident after') refl)
  where
    go : is K.DoubleColon d.kind ≡ true → (c : Bool) → begins kind is_ident after' ≡ c
        → words_on Z (d ∷ after') ≡ stuck b r
    go t true i = tailed_fails K.DoubleColon is_ident ident_reader text_reader Z d after' b r t i w
    go t false i = tailed_last K.DoubleColon is_ident ident_reader text_reader Z d after' t i
        ∙ ap (onto (leaf d none)) (tree_fails Label.str (token kind (is K.Str)) after' false after'
        (token_not (is K.Str) after' v) ∙ sym (tree_fails Label.ident
        (token kind is_ident) after' false after' (token_not is_ident after' i)) ∙ w)

text_no_word : (ts : List Lexeme) → begins kind (is K.Str) ts ≡ true
    → begins kind is_ident ts ≡ false
text_no_word [] h = absurd cc
text_no_word (t ∷ ts) h = apart_at (is K.Str) is_ident refl t.kind h

text_at : (ts : List Lexeme) (path : List (Node Ident)) (name : Node Ident)
    (rest after' : List Lexeme) (d : Lexeme) (Z : Reader Lexeme) → (p : WordsRead ts path name rest)
    → rest ≡ d ∷ after' → d.kind ≡ K.DoubleColon
    → begins kind (is K.Str) after' ≡ true
    → words_then Z ts ≡ onto p.row (onto (leaf d none) (text_reader after'))
text_at ts path name rest after' d Z p e k v =
    p.read Z ∙ ap (λ z. onto p.row (words_on Z z)) e
    ∙ ap (onto p.row) (tailed_last K.DoubleColon is_ident ident_reader text_reader Z d after'
    (is_itself K.DoubleColon d.kind (sym k)) (text_no_word after' v))

-- a string after `::`
pub text_fails : (ts : List Lexeme) (path : List (Node Ident)) (name : Node Ident)
    (rest after' : List Lexeme) (d : Lexeme) (Z : Reader Lexeme) (b : Bool) (r : List Lexeme)
    → WordsRead ts path name rest → rest ≡ d ∷ after' → d.kind ≡ K.DoubleColon
    → begins kind (is K.Str) after' ≡ true → text_reader after' ≡ stuck b r
    → words_then Z ts ≡ stuck b r
text_fails ts path name rest after' d Z b r p e k v w =
    text_at ts path name rest after' d Z p e k v ∙ ap (λ z. onto p.row (onto (leaf d none) z)) w

pub words_text : (ts : List Lexeme) (path : List (Node Ident)) (name : Node Ident)
    (rest after' s : List Lexeme) (d : Lexeme) (whole : Node Name) (eid : Node Str)
    (f : Forest Label Lexeme) → (p : WordsRead ts path name rest) → rest ≡ d ∷ after'
    → d.kind ≡ K.DoubleColon
    → begins kind (is K.Str) after' ≡ true → text_reader after' ≡ done (branch Label.str f none) s
    → Stands eid.span (str_parts eid.inner) f → WordsEnd whole (Some eid) p.row ts s
words_text ts path name rest after' s d whole eid f p e k v w h = (
  d,
  f,
  k,
  word_first path name p.row ts rest after' d p.words e k,
  h,
  λ Z. text_at ts path name rest after' d Z p e k v ∙ ap (λ z. onto p.row (onto (leaf d none) z)) w,
)

-- no more words
pub words_end : (ts : List Lexeme) (path : List (Node Ident)) (name : Node Ident)
    (rest : List Lexeme) (whole : Node Name) → (p : WordsRead ts path name rest)
    → begins kind (is K.DoubleColon) rest ≡ false → whole.inner.path.items ≡ path
    → WordsEnd whole None p.row ts rest
words_end ts path name rest whole p h e = (
  h,
  rw e p.words,
  λ Z. p.read Z
      ∙ ap (onto p.row) (tailed_end K.DoubleColon is_ident ident_reader text_reader Z rest h),
)

-- an entity
pub entity_done : (row f : Forest Label Lexeme) (d : Lexeme) (ts rest : List Lexeme) → Gathers row
    → words_then refuse ts ≡ done (join row (leaf d (branch Label.str f none))) rest
    → flat entity ts ≡ done (branch Label.primary
    (branch Label.ref (branch Label.name row (leaf d (branch Label.str f none))) none) none) rest
entity_done row f d ts rest g e = shaped_done (words_then refuse) ts _ rest e
    ∙ ap (λ z. done z rest) (g (leaf d (branch Label.str f none)))

pub entity_stands : (path : Node Name) (eid : Node Str) (n : Node Primary.Primary)
    (row f : Forest Label Lexeme) (d : Lexeme) → IsEntityOf path eid n → d.kind ≡ K.DoubleColon
    → Stands path.span (name_parts path.inner) row → Stands eid.span (str_parts eid.inner) f
    → Stands n.span (primary_parts n.inner)
    (branch Label.ref (branch Label.name row (leaf d (branch Label.str f none))) none)
entity_stands path eid n row f d h k g i = row_span _ _ _ _ (sym h.1) (row_parts _ _ _ _ h.0
    (row_node Label.ref _ _ _ refl (row_nodes Label.name _ _ _ _ _ _ refl g
    (row_more d K.DoubleColon eid.span _ _ k refl refl (row_node Label.str eid.span _ f refl i)))))

pub entity_read : (path : Node Name) (o : Option (Node Str)) (eid : Node Str)
    (n : Node Primary.Primary) (ts : List Lexeme) (rest : Bor (List Lexeme))
    → GivesWords (Ok ((path, o), rest)) ts → o ≡ Some eid → IsEntityOf path eid n
    → GivesNode Label.primary primary_parts (Ok (n, rest)) (flat entity ts)
entity_read path o eid n ts rest h i j =
    let w = subst (λ z. WordsEnd path z h.0 ts rest.now) i h.3 in (
      _,
      entity_done h.0 w.1 w.0 ts rest.now h.1 (w.5 refuse),
      entity_stands path eid n h.0 w.1 w.0 j w.2 h.2 w.4,
    )

-- a slot
pub slot_stands : (s : Slot) (t : Lexeme) (n : Node Primary.Primary) → t.kind ≡ slot_kind s
    → IsSlotOf s t.span n
    → Stands n.span (primary_parts n.inner) (branch Label.slot (leaf t none) none)
slot_stands Slot.Principal t n e i = row_span _ _ _ _ (sym i.1) (row_parts _ _ _ _ i.0
    (row_node Label.slot _ _ _ refl (row_token t K.PrincipalSlot e refl refl)))
slot_stands Slot.Resource t n e i = row_span _ _ _ _ (sym i.1) (row_parts _ _ _ _ i.0
    (row_node Label.slot _ _ _ refl (row_token t K.ResourceSlot e refl refl)))
