-- The equations of `doc_of`.
use Rattle.std.proofs.Common.{◌≡◌, ◌≢◌, ℕ, ℤ, Bool, true, false, nat_eq, length, arith, List, [], ◌∷◌, ◌++◌, map, refl, sym, ap, ◌∙◌, append_assoc}
use Rattle.cedar_layout.specs.declared.layout.Document.{Document}
use Rattle.cedar_layout.specs.declared.layout.Document.TheOpen.{Document-F, Nil, Text, Line, LineOrNil, Hard, Seq, Nest, Group}
use Rattle.cedar_layout.specs.declared.layout.Document.TheViews.{out-Document, roll-Document}
use Rattle.cedar_layout.specs.declared.layout.Document.TheFolds.{fold-roll-Document, map-Document}
use Rattle.cedar_layout.specs.declared.layout.Document.TheViews as made
use Rattle.std.specs.declared.alloc.Global.{Global}
use Rattle.std.proofs.lemmas.List.{map-append}
use Rattle.std.proofs.lemmas.Bool.{false≢true, eqb-true}
use Rattle.std.specs.declared.vec.Vec.{Vec}
use Rattle.std.specs.declared.boxed.Box.{Box}
use Rattle.std.specs.Borrow.{Bor}
use Rattle.cedar_layout.specs.declared.layout.Document.TheVariants.{Nil as Nil', Text as Text', Line as Line', LineOrNil as LineOrNil', Hard as Hard'}
use Rattle.cedar_layout.specs.Layout.{Doc, nil, text_then, line_then, line_or_nil_then, hard_then, nest_then, group_then, ◌·◌, atoms, word, space_or_break, nothing_or_break, must_break, text, line, line_or_nil, hard, nest, group}
use Rattle.cedar_layout.specs.Value.{interspersed, doc_of, doc_step, docs_of, doc_layer}

-- ---- documents one after the other

pub dot-nil : (d : Doc) → d · nil ≡ d
dot-nil nil = refl
dot-nil (text_then s r) = ap (text_then s) (dot-nil r)
dot-nil (line_then r) = ap line_then (dot-nil r)
dot-nil (line_or_nil_then r) = ap line_or_nil_then (dot-nil r)
dot-nil (hard_then r) = ap hard_then (dot-nil r)
dot-nil (nest_then n d r) = ap (nest_then n d) (dot-nil r)
dot-nil (group_then d r) = ap (group_then d) (dot-nil r)

pub dot_assoc : (a b c : Doc) → (a · b) · c ≡ a · (b · c)
dot_assoc nil b c = refl
dot_assoc (text_then s r) b c = ap (text_then s) (dot_assoc r b c)
dot_assoc (line_then r) b c = ap line_then (dot_assoc r b c)
dot_assoc (line_or_nil_then r) b c = ap line_or_nil_then (dot_assoc r b c)
dot_assoc (hard_then r) b c = ap hard_then (dot_assoc r b c)
dot_assoc (nest_then n d r) b c = ap (nest_then n d) (dot_assoc r b c)
dot_assoc (group_then d r) b c = ap (group_then d) (dot_assoc r b c)

pub atoms-dot : (a b : Doc) → atoms (a · b) ≡ atoms a ++ atoms b
atoms-dot nil b = refl
atoms-dot (text_then s r) b = ap (λ xs. word s ∷ xs) (atoms-dot r b)
atoms-dot (line_then r) b = ap (λ xs. space_or_break ∷ xs) (atoms-dot r b)
atoms-dot (line_or_nil_then r) b = ap (λ xs. nothing_or_break ∷ xs) (atoms-dot r b)
atoms-dot (hard_then r) b = ap (λ xs. must_break ∷ xs) (atoms-dot r b)
atoms-dot (nest_then n d r) b =
    ap (λ xs. atoms d ++ xs) (atoms-dot r b) ∙ sym (append_assoc (atoms d) (atoms r) (atoms b))
atoms-dot (group_then d r) b =
    ap (λ xs. atoms d ++ xs) (atoms-dot r b) ∙ sym (append_assoc (atoms d) (atoms r) (atoms b))

-- ---- what a `Document` means

step_is_layer : (x : Document-F Document)
    → doc_step (map-Document Document Doc doc_of x) ≡ doc_layer x
step_is_layer Nil = refl
step_is_layer (Text s) = refl
step_is_layer Line = refl
step_is_layer LineOrNil = refl
step_is_layer Hard = refl
step_is_layer (Seq v) = refl
step_is_layer (Nest n b) = refl
step_is_layer (Group b) = refl

pub doc_of_roll : (x : Document-F Document) → doc_of (roll-Document x) ≡ doc_layer x
doc_of_roll x = fold-roll-Document Doc doc_step x ∙ step_is_layer x

pub doc_of_seq : (v : Vec Document Global) → doc_of (made.Seq v) ≡ docs_of v.items
doc_of_seq v = ap doc_of (sym (made.rolls-Seq v)) ∙ doc_of_roll (Seq v)

pub docs_of-append : (ds es : List Document) → docs_of (ds ++ es) ≡ docs_of ds · docs_of es
docs_of-append [] es = refl
docs_of-append (d ∷ ds) es = ap (λ x. doc_of d · x) (docs_of-append ds es)
    ∙ sym (dot_assoc (doc_of d) (docs_of ds) (docs_of es))

pub doc_of_nil : doc_of Nil' ≡ nil
doc_of_nil = ap doc_of (sym made.rolls-Nil) ∙ doc_of_roll Nil

pub doc_of_text : (s : Bor (List ℕ)) → doc_of (Text' s) ≡ text s.now
doc_of_text s = ap doc_of (sym (made.rolls-Text s)) ∙ doc_of_roll (Text s)

pub doc_of_line : doc_of Line' ≡ line
doc_of_line = ap doc_of (sym made.rolls-Line) ∙ doc_of_roll Line

pub doc_of_line_or_nil : doc_of LineOrNil' ≡ line_or_nil
doc_of_line_or_nil = ap doc_of (sym made.rolls-LineOrNil) ∙ doc_of_roll LineOrNil

pub doc_of_hard : doc_of Hard' ≡ hard
doc_of_hard = ap doc_of (sym made.rolls-Hard) ∙ doc_of_roll Hard

pub doc_of_nest : (n : ℤ) (b : Box Document Global)
    → doc_of (made.Nest n b) ≡ nest n (doc_of b.value)
doc_of_nest n b = ap doc_of (sym (made.rolls-Nest n b)) ∙ doc_of_roll (Nest n b)

pub doc_of_group : (b : Box Document Global) → doc_of (made.Group b) ≡ group (doc_of b.value)
doc_of_group b = ap doc_of (sym (made.rolls-Group b)) ∙ doc_of_roll (Group b)

docs_of_one : (d : Document) → docs_of (d ∷ []) ≡ doc_of d
docs_of_one d = dot-nil (doc_of d)

pub docs_of-push : (ds : List Document) (d : Document)
    → docs_of (ds ++ d ∷ []) ≡ docs_of ds · doc_of d
docs_of-push ds d = docs_of-append ds (d ∷ []) ∙ ap (λ x. docs_of ds · x) (docs_of_one d)

-- a copy of one more document
pub copy_step : (new all items rest : List Document) (r d : Document) (x : Doc)
    → new ≡ all ++ r ∷ [] → doc_of r ≡ doc_of d → docs_of items ≡ doc_of d · docs_of rest
    → docs_of all · docs_of items ≡ x → docs_of new · docs_of rest ≡ x
copy_step new all items rest r d x e same split h =
    ap (λ y. docs_of y · docs_of rest) e
    ∙ ap (λ y. y · docs_of rest) (docs_of-push all r ∙ ap (λ y. docs_of all · y) same)
    ∙ dot_assoc (docs_of all) (doc_of d) (docs_of rest)
    ∙ ap (λ y. docs_of all · y) (sym split)
    ∙ h

pub interspersed-push : (s : Doc) (d : Doc) (ds : List Doc) (x : Doc)
    → interspersed s ((d ∷ ds) ++ x ∷ []) ≡ interspersed s (d ∷ ds) · (s · x)
interspersed-push s d [] x = refl
interspersed-push s d (e ∷ ds) x =
    ap (λ y. d · (s · y)) (interspersed-push s e ds x)
    ∙ ap (λ y. d · y) (sym (dot_assoc s (interspersed s (e ∷ ds)) (s · x)))
    ∙ sym (dot_assoc d (s · interspersed s (e ∷ ds)) (s · x))

pub interspersed_first : (s : Doc) (all new ys : List Document) (d : Document) → all ≡ []
    → new ≡ all ++ d ∷ [] → (all ≡ [] → ys ≡ [])
    → docs_of new ≡ interspersed s (map doc_of (ys ++ d ∷ []))
interspersed_first s all new ys d e h k =
    ap docs_of (h ∙ ap (λ y. y ++ d ∷ []) e) ∙ docs_of_one d
    ∙ ap (λ y. interspersed s (map doc_of (y ++ d ∷ []))) (sym (k e))

interspersed_more_at : (s : Doc) (all ys : List Document) (sep d : Document) → ys ≢ []
    → doc_of sep ≡ s → docs_of all ≡ interspersed s (map doc_of ys)
    → docs_of ((all ++ sep ∷ []) ++ d ∷ []) ≡ interspersed s (map doc_of (ys ++ d ∷ []))
interspersed_more_at s all [] sep d ne same h = absurd (ne refl)
interspersed_more_at s all (y ∷ ys) sep d ne same h =
    docs_of-push (all ++ sep ∷ []) d
    ∙ ap (λ x. x · doc_of d) (docs_of-push all sep ∙ ap (λ x. docs_of all · x) same
    ∙ ap (λ x. x · s) h)
    ∙ dot_assoc (interspersed s (map doc_of (y ∷ ys))) s (doc_of d)
    ∙ sym (interspersed-push s (doc_of y) (map doc_of ys) (doc_of d))
    ∙ ap (interspersed s) (sym (map-append doc_of (y ∷ ys) (d ∷ [])))

pub interspersed_more : (s : Doc) (all mid new ys : List Document) (sep d : Document) → all ≢ []
    → mid ≡ all ++ sep ∷ [] → new ≡ mid ++ d ∷ [] → (ys ≡ [] → all ≡ []) → doc_of sep ≡ s
    → docs_of all ≡ interspersed s (map doc_of ys)
    → docs_of new ≡ interspersed s (map doc_of (ys ++ d ∷ []))
interspersed_more s all mid new ys sep d ne hm hn k same h =
    ap docs_of (hn ∙ ap (λ x. x ++ d ∷ []) hm)
    ∙ interspersed_more_at s all ys sep d (λ e. ne (k e)) same h

pub not_empty : (xs : List Document) (n : ℕ) (b : Bool) → n ≡ length xs → b ≡ nat_eq n 0 → b ≡ false
    → xs ≢ []
not_empty [] n b h e f = λ _. false≢true (sym f ∙ e ∙ ap (λ m. nat_eq m 0) h)
not_empty (x ∷ xs) n b h e f = λ g. cc

pub is_nil : (xs : List Document) (n : ℕ) (b : Bool) → n ≡ length xs → b ≡ nat_eq n 0 → b ≡ true
    → xs ≡ []
is_nil [] n b h e f = refl
is_nil (x ∷ xs) n b h e f = absurd (omega (arith, eqb-true n 0 (sym e ∙ f)))

pub push_not_nil : (xs ys : List Document) (d : Document) → ys ≡ xs ++ d ∷ [] → ys ≡ [] → ⊥
push_not_nil [] ys d h e = let g : d ∷ [] ≡ [] = sym h ∙ e in cc
push_not_nil (x ∷ xs) ys d h e = let g : x ∷ (xs ++ d ∷ []) ≡ [] = sym h ∙ e in cc
