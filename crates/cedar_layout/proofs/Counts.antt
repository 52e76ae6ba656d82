-- How many nodes documents have.
use Rattle.std.proofs.Common.{◌≡◌, ℕ, ℤ, ◌+◌, ◌-◌, ◌<◌, ◌≤◌, List, [], ◌∷◌, ◌++◌, map, sum, length, take, get_or, sym, ap, subst, ◌∙◌, arith}
use Rattle.std.proofs.lemmas.List.{take_more, map-append}
use Rattle.std.proofs.lemmas.List.Sums.{sum_by_push}
use Rattle.std.specs.declared.alloc.Global.{Global}
use Rattle.std.specs.declared.vec.Vec.{Vec}
use Rattle.std.specs.declared.boxed.Box.{Box}
use Rattle.cedar_layout.specs.declared.layout.Document.TheViews as made
use Rattle.cedar_layout.specs.declared.layout.Document.{Document}
use Rattle.cedar_layout.specs.declared.layout.Document.TheOpen.{Document-F, Nil, Text, Line, LineOrNil, Hard, Seq, Nest, Group}
use Rattle.cedar_layout.specs.declared.layout.Document.TheViews.{out-Document, roll-Document}
use Rattle.cedar_layout.specs.declared.layout.Document.TheFolds.{fold-roll-Document, fold_out-Document, map-Document}
use Rattle.cedar_layout.specs.Nodes.{nodes, nodes_step, nodes_of_all}

pub nodes_of_all-push : (ds : List Document) (d : Document)
    → nodes_of_all (ds ++ d ∷ []) ≡ nodes_of_all ds + nodes d
nodes_of_all-push ds d =
    ap sum (map-append nodes ds (d ∷ [])) ∙ sum_by_push (λ n. n) (map nodes ds) (nodes d)

pub nodes_of_all-take : (ds : List Document) (i : ℕ) (d : Document) → i < length ds
    → d ≡ get_or ds i d → nodes_of_all (take (i + 1) ds) ≡ nodes_of_all (take i ds) + nodes d
nodes_of_all-take ds i d h e =
    ap nodes_of_all (take_more ds i d h) ∙ nodes_of_all-push (take i ds) (get_or ds i d)
    ∙ ap (λ x. nodes_of_all (take i ds) + nodes x) (sym e)

pub nodes_of_all-back : (ds : List Document) (i : ℕ) (d : Document) → 0 < i → i ≤ length ds
    → d ≡ get_or ds (i - 1) d → nodes_of_all (take i ds) ≡ nodes_of_all (take (i - 1) ds) + nodes d
nodes_of_all-back ds i d z l e =
    let back : i - 1 + 1 ≡ i = omega arith in
    ap (λ k. nodes_of_all (take k ds)) (sym back) ∙ nodes_of_all-take ds (i - 1) d (omega arith) e

step_is_layer : (x : Document-F Document)
    → nodes (roll-Document x) ≡ nodes_step (map-Document Document ℕ nodes x)
step_is_layer x = fold-roll-Document ℕ nodes_step x

pub nodes_seq : (v : Vec Document Global) → nodes (made.Seq v) ≡ 1 + nodes_of_all v.items
nodes_seq v = ap nodes (sym (made.rolls-Seq v)) ∙ step_is_layer (Seq v)

pub nodes_nest : (n : ℤ) (b : Box Document Global) → nodes (made.Nest n b) ≡ 1 + nodes b.value
nodes_nest n b = ap nodes (sym (made.rolls-Nest n b)) ∙ step_is_layer (Nest n b)

pub nodes_group : (b : Box Document Global) → nodes (made.Group b) ≡ 1 + nodes b.value
nodes_group b = ap nodes (sym (made.rolls-Group b)) ∙ step_is_layer (Group b)

step_pos : (x : Document-F ℕ) → 0 < nodes_step x
step_pos Nil = omega arith
step_pos (Text s) = omega arith
step_pos Line = omega arith
step_pos LineOrNil = omega arith
step_pos Hard = omega arith
step_pos (Seq v) = omega arith
step_pos (Nest n b) = omega arith
step_pos (Group b) = omega arith

pub nodes_pos : (d : Document) → 0 < nodes d
nodes_pos d = subst (λ n. 0 < n) (sym (fold_out-Document ℕ nodes_step d)) (step_pos _)
