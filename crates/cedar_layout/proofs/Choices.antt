-- At each width there is exactly one choice.
use Rattle.std.proofs.Common.{◌≡◌, ℕ, Bool, true, false, ◌||◌, IsTrue, ◌↔◌, ◌⊎◌, List, [], ◌+◌, ◌++◌, refl, sym, ap, subst, ◌∙◌}
use Rattle.std.specs.List.{AllByRecursion}
use Rattle.cedar_layout.specs.Layout.{Doc, nil, text_then, line_then, line_or_nil_then, hard_then, nest_then, group_then, Atom, atoms, columns, Choice, pieces, indented, column_after, group_places, Fits, FollowsRule, IsChoiceAt}
use Rattle.cedar_layout.proofs.Rule.{rule_is_met}
use Rattle.cedar_tokens.proofs.Lists.{All-parts}

-- two tests of the same fact are equal
same_test : (a b : Bool) (F : Type 0) → (IsTrue a ↔ F) → (IsTrue b ↔ F) → a ≡ b
same_test true true F h k = refl
same_test false false F h k = refl
same_test true false F h k = sym (k.1 (h.0 refl))
same_test false true F h k = h.1 (k.0 refl)

pair_is : (X Y : Type 0) (a b : X × Y) → a.0 ≡ b.0 → a.1 ≡ b.1 → a ≡ b
pair_is X Y a b e f = ap (λ (x : X). let p : X × Y = (x, a.1) in p) e
    ∙ ap (λ (y : Y). let p : X × Y = (b.0, y) in p) f

triple_is : (X Y Z : Type 0) (a b : X × Y × Z) → a.0 ≡ b.0 → a.1 ≡ b.1 → a.2 ≡ b.2 → a ≡ b
triple_is X Y Z a b e f g =
    ap (λ (x : X). let p : X × Y × Z = (x, a.1, a.2) in p) e
    ∙ ap (λ (y : Y). let p : X × Y × Z = (b.0, y, a.2) in p) f
    ∙ ap (λ (z : Z). let p : X × Y × Z = (b.0, b.1, z) in p) g

-- two choices that follow the rule are equal
pub one_choice : (w : ℕ) (d : Doc) (a b : Choice d) (f : Bool) (i col : ℕ) (after : List Atom)
    → AllByRecursion (FollowsRule w) (group_places d a f i col after)
    → AllByRecursion (FollowsRule w) (group_places d b f i col after) → a ≡ b
one_choice w nil a b f i col after h k = refl
one_choice w (text_then s r) a b f i col after h k =
    one_choice w r a b f i (col + columns s) after h k
one_choice w (line_then r) a b f i col after h k = one_choice w r a b f i _ after h k
one_choice w (line_or_nil_then r) a b f i col after h k = one_choice w r a b f i _ after h k
one_choice w (hard_then r) a b f i col after h k = one_choice w r a b f i i after h k
one_choice w (nest_then n d r) a b f i col after h k =
    let P = FollowsRule w in
    let j = indented i n in
    let xs = λ (c : Choice d). group_places d c f j col (atoms r ++ after) in
    let ys = λ (c : Choice d) (e : Choice r).
    group_places r e f i (column_after col (pieces d c f j)) after in
    let first = one_choice w d a.0 b.0 f j col (atoms r ++ after)
    (All-parts P (xs a.0) (ys a.0 a.1) h).0 (All-parts P (xs b.0) (ys b.0 b.1) k).0 in
    let rest =
    subst (λ c. AllByRecursion P (ys c a.1)) first (All-parts P (xs a.0) (ys a.0 a.1) h).1 in
    let second = one_choice w r a.1 b.1 f i (column_after col (pieces d b.0 f j)) after rest
    (All-parts P (xs b.0) (ys b.0 b.1) k).1 in
    pair_is (Choice d) (Choice r) a b first second
one_choice w (group_then d r) a b f i col after h k =
    let P = FollowsRule w in
    let F : Type 0 = IsTrue f ⊎ Fits w (record {
      inside_flat = f;
      column = col;
      content = atoms d;
      after = atoms r ++ after;
      is_flat = true;
    }) in
    let mark : a.0 ≡ b.0 = same_test a.0 b.0 F h.0 k.0 in
    let xs = λ (m : Bool) (c : Choice d). group_places d c (f || m) i col (atoms r ++ after) in
    let ys = λ (m : Bool) (c : Choice d) (e : Choice r).
    group_places r e f i (column_after col (pieces d c (f || m) i)) after in
    let ha = subst (λ m. AllByRecursion P (xs m a.1 ++ ys m a.1 a.2)) mark h.1 in
    let first = one_choice w d a.1 b.1 (f || b.0) i col (atoms r ++ after) (All-parts P (xs b.0 a.1)
    (ys b.0 a.1 a.2) ha).0 (All-parts P (xs b.0 b.1) (ys b.0 b.1 b.2) k.1).0 in
    let rest = subst (λ c. AllByRecursion P (ys b.0 c a.2)) first
    (All-parts P (xs b.0 a.1) (ys b.0 a.1 a.2) ha).1 in
    let second = one_choice w r a.2 b.2 f i (column_after col (pieces d b.1 (f || b.0) i)) after
    rest (All-parts P (xs b.0 b.1) (ys b.0 b.1 b.2) k.1).1 in
    triple_is Bool (Choice d) (Choice r) a b mark first second

-- exactly one choice follows the rule
pub exactly_one_choice : (w : ℕ) (d : Doc)
    → (c : Choice d) × IsChoiceAt w d c × ((b : Choice d) → IsChoiceAt w d b → b ≡ c)
exactly_one_choice w d =
    let C = rule_is_met w d false 0 0 [] in
    (C.0, C.1, λ b h. one_choice w d b C.0 false 0 0 [] h C.1)
