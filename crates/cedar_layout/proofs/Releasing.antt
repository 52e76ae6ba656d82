-- Each document that is dropped leaves less work.
use Rattle.std.proofs.Common.{◌≡◌, ◌≢◌, ℕ, ℤ, ◌+◌, ◌≤◌, ◌<◌, ◌⊎◌, ⊎_elim, List, [], ◌∷◌, ◌++◌, map, sum, refl, sym, ap, ◌∙◌, subst, arith}
use Rattle.std.proofs.lemmas.List.Sums.{sum_by-cons}
use Rattle.std.specs.declared.alloc.Global.{Global}
use Rattle.std.specs.declared.vec.Vec.{Vec}
use Rattle.std.specs.declared.boxed.Box.{Box}
use Rattle.cedar_layout.specs.declared.layout.Document.TheViews as made
use Rattle.cedar_layout.specs.declared.layout.Document.{Document}
use Rattle.cedar_layout.specs.declared.layout.Document.TheOpen.{Document-F, Nil, Text, Line, LineOrNil, Hard, Seq, Nest, Group}
use Rattle.cedar_layout.specs.declared.layout.Document.TheViews.{out-Document, roll-Document}
use Rattle.cedar_layout.specs.declared.layout.Document.TheVariants.{Nil as Nil', Text as Text', Line as Line', LineOrNil as LineOrNil', Hard as Hard'}
use Rattle.std.specs.Borrow.{Bor}
use Rattle.cedar_layout.specs.declared.layout.Document.TheFolds.{fold-roll-Document, ind-Document, map-Document}
use Rattle.cedar_layout.specs.Nodes.{nodes, nodes_step, nodes_of_all}
use Rattle.cedar_layout.specs.Inside.Releasing.{first_of, nested, nested_step, nested_first, work}
use Rattle.cedar_layout.proofs.Counts.{nodes_of_all-push, nodes_seq}

abbrev IsWithin : Document → Type 0
IsWithin d = nested d ≤ nodes d

first_within : (es : List ((d : Document) × IsWithin d))
    → first_of (map nested (map (λ e. e.0) es)) ≤ sum (map nodes (map (λ e. e.0) es))
first_within [] = omega arith
first_within (e ∷ es) =
    omega (arith, e.1, sum_by-cons (λ n. n) (nodes e.0) (map nodes (map (λ e. e.0) es)))

abbrev Layer : Type 0
Layer = Document-F ((d : Document) × IsWithin d)

abbrev plain : Layer → Document-F Document
plain y = map-Document ((d : Document) × IsWithin d) Document (λ e. e.0) y

within : (x : Document-F Document)
    → nested_step (map-Document Document ℕ nested x) ≤ nodes_step (map-Document Document ℕ nodes x)
    → IsWithin (roll-Document x)
within x h = omega (arith, fold-roll-Document ℕ nested_step x, fold-roll-Document ℕ nodes_step x)

layer_within : (y : Layer) → IsWithin (roll-Document (plain y))
layer_within Nil = within Nil (omega arith)
layer_within (Text s) = within (Text s) (omega arith)
layer_within Line = within Line (omega arith)
layer_within LineOrNil = within LineOrNil (omega arith)
layer_within Hard = within Hard (omega arith)
layer_within (Seq v) = within (plain (Seq v)) (omega (arith, first_within v.items))
layer_within (Nest n b) = within (plain (Nest n b)) (omega arith)
layer_within (Group b) = within (plain (Group b)) (omega arith)

pub nested_within : (d : Document) → IsWithin d
nested_within =
    ind-Document IsWithin (λ x y is. subst (λ z. IsWithin (roll-Document z)) is (layer_within y))

pub first_nested_within : (ds : List Document) → nested_first ds ≤ nodes_of_all ds
first_nested_within [] = omega arith
first_nested_within (d ∷ ds) =
    omega (arith, nested_within d, sum_by-cons (λ n. n) (nodes d) (map nodes ds))

-- ---- one more document after others

nested_first_same : (ds : List Document) (d : Document) → ds ≢ []
    → nested_first (ds ++ d ∷ []) ≡ nested_first ds
nested_first_same [] d h = absurd (h refl)
nested_first_same (e ∷ ds) d h = refl

nested_first_more : (ds : List Document) (d : Document)
    → nested_first ds ≤ nested_first (ds ++ d ∷ [])
nested_first_more [] d = omega arith
nested_first_more (e ∷ ds) d = omega arith

nested_first_flat : (ds : List Document) (d : Document) → nested d ≡ 0
    → nested_first (ds ++ d ∷ []) ≡ nested_first ds
nested_first_flat [] d h = h
nested_first_flat (e ∷ ds) d h = refl

-- ---- the cases of a document

-- it contains no others
pub leaf_released : (ds : List Document) (d : Document) → nested d ≡ 0 → 0 < nodes d
    → work ds + 1 ≤ work (ds ++ d ∷ [])
leaf_released ds d h p =
    omega (arith, nested_first_flat ds d h, nodes_of_all-push ds d, first_nested_within ds)

-- it contains one
pub inner_released : (ds new : List Document) (d e : Document) → new ≡ ds ++ e ∷ [] → nested d ≡ 0
    → nodes d ≡ 1 + nodes e → work new + 1 ≤ work (ds ++ d ∷ [])
inner_released ds new d e h z n =
    let at = ap work h in
    omega (
      arith,
      at,
      nested_first_flat ds d z,
      nested_first_more ds e,
      nodes_of_all-push ds d,
      nodes_of_all-push ds e,
      first_nested_within ds,
    )

nested_layer : (x : Document-F Document)
    → nested (roll-Document x) ≡ nested_step (map-Document Document ℕ nested x)
nested_layer x = fold-roll-Document ℕ nested_step x

pub nested_seq : (v : Vec Document Global) → nested (made.Seq v) ≡ 1 + nested_first v.items
nested_seq v = ap nested (sym (made.rolls-Seq v)) ∙ nested_layer (Seq v)

pub nested_nest : (n : ℤ) (b : Box Document Global) → nested (made.Nest n b) ≡ 0
nested_nest n b = ap nested (sym (made.rolls-Nest n b)) ∙ nested_layer (Nest n b)

pub nested_group : (b : Box Document Global) → nested (made.Group b) ≡ 0
nested_group b = ap nested (sym (made.rolls-Group b)) ∙ nested_layer (Group b)

nested_nil : nested Nil' ≡ 0
nested_nil = ap nested (sym made.rolls-Nil) ∙ nested_layer Nil

nested_text : (s : Bor (List ℕ)) → nested (Text' s) ≡ 0
nested_text s = ap nested (sym (made.rolls-Text s)) ∙ nested_layer (Text s)

nested_line : nested Line' ≡ 0
nested_line = ap nested (sym made.rolls-Line) ∙ nested_layer Line

nested_line_or_nil : nested LineOrNil' ≡ 0
nested_line_or_nil = ap nested (sym made.rolls-LineOrNil) ∙ nested_layer LineOrNil

nested_hard : nested Hard' ≡ 0
nested_hard = ap nested (sym made.rolls-Hard) ∙ nested_layer Hard

pub nested_leaf : (d : Document) → (d ≡ Nil') ⊎ (((s : Bor (List ℕ)) × (d ≡ Text' s))
    ⊎ ((d ≡ Line') ⊎ ((d ≡ LineOrNil') ⊎ (d ≡ Hard')))) → nested d ≡ 0
nested_leaf d =
    ⊎_elim (λ e. ap nested e ∙ nested_nil)
    (⊎_elim (λ e. ap nested e.1 ∙ nested_text e.0)
    (⊎_elim (λ e. ap nested e ∙ nested_line)
    (⊎_elim (λ e. ap nested e ∙ nested_line_or_nil) (λ e. ap nested e ∙ nested_hard))))

-- a list in place of nothing
pub first_joined : (ds : List Document) (v : Vec Document Global) → ds ≡ []
    → work v.items + 1 ≤ work (ds ++ made.Seq v ∷ [])
first_joined ds v e =
    let at = ap (λ xs. work (xs ++ made.Seq v ∷ [])) e in
    let n = nodes_of_all-push [] (made.Seq v) in
    omega (arith, at, n, nested_seq v, nodes_seq v, first_nested_within v.items)

-- nothing after a list
pub none_joined : (ds : List Document) (v : Vec Document Global) → ds ≢ [] → v.items ≡ []
    → work ds + 1 ≤ work (ds ++ made.Seq v ∷ [])
none_joined ds v h e =
    let none = ap nodes_of_all e in
    omega (
      arith,
      none,
      nested_first_same ds (made.Seq v) h,
      nodes_of_all-push ds (made.Seq v),
      nodes_seq v,
      first_nested_within ds,
    )

-- a list before another one, with one document of that one
pub all_joined : (ds rest new : List Document) (v w : Vec Document Global) (d : Document) → ds ≢ []
    → v.items ≡ rest ++ d ∷ [] → w.items ≡ ds ++ d ∷ [] → new ≡ made.Seq w ∷ rest
    → work new + 1 ≤ work (ds ++ made.Seq v ∷ [])
all_joined ds rest new v w d h ev ew en =
    let at = ap work en in
    let nodes_new = sum_by-cons (λ n. n) (nodes (made.Seq w)) (map nodes rest) in
    let nodes_v = ap nodes_of_all ev ∙ nodes_of_all-push rest d in
    let nodes_w = ap nodes_of_all ew ∙ nodes_of_all-push ds d in
    let nested_w =
    nested_seq w ∙ ap (λ xs. 1 + nested_first xs) ew ∙ ap (λ n. 1 + n) (nested_first_same ds d h) in
    omega (
      arith,
      at,
      nodes_new,
      nodes_v,
      nodes_w,
      nested_w,
      nodes_seq v,
      nodes_seq w,
      nodes_of_all-push ds (made.Seq v),
      nested_first_same ds (made.Seq v) h,
      first_nested_within ds,
    )
