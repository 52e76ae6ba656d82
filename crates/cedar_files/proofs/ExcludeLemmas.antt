-- Paths that are seen from a folder.
use Rattle.std.proofs.Common.{◌≡◌, ◌∙◌, ◌⊎◌, ◌++◌, ◌∷◌, ◌+◌, ◌<◌, ◌≤◌, ◌≢◌, [], ℕ, List, Bool, true, false, Result, Ok, Err, sym, ap, inl, inr, subst, drop, get_or, get_or-take, length, map, set, take, arith}
use Rattle.std.specs.Prelude.{◌↔◌, IfOk, IsTrue}
use Rattle.std.specs.List.{Any}
use Rattle.std.proofs.lemmas.Bool.{cases_lt}
use Rattle.std.proofs.lemmas.List.{get_or-map, get_or-set_other, get_or-set_same, get_or_default, length-append, length-take, length-take-le, map-set, set-get_or, take-append-drop}
use Rattle.std.specs.declared.alloc.AllocError.{AllocError}
use Rattle.std.proofs.lemmas.List.{append_cancel_left}
use Rattle.cedar_settings.specs.Settings.{matches}
use Rattle.cedar_settings.specs.declared.globs.Glob.{Glob}
use Rattle.cedar_files.specs.declared.excludes.Excludes.{Excludes}
use Rattle.cedar_files.specs.declared.excludes.Rule.{Rule}
use Rattle.cedar_files.specs.Excludes.{AsksTheSame, IsFor, IsMeant, IsMeantFrom, IsMetAt, LeavesAbove, LeavesAlone, LeavesNamed, globs, working_folder}

slash_first : (xs : List ℕ) → get_or xs 0 0 ≡ 47 → (rest : List ℕ) × (xs ≡ 47 ∷ rest)
slash_first [] e = absurd (omega (arith, e))
slash_first (x ∷ xs) e = (xs, ap (λ z. z ∷ xs) e)

module _ (glob : Glob) (path : List ℕ) where
  -- a glob is tried on the rest of a path
  pub seen_from : (folder rest : List ℕ) (r : Result Bool AllocError) → path ≡ folder ++ rest
      → get_or rest 0 0 ≡ 47 → IfOk r (λ found. found ≡ matches glob rest)
      → IfOk r (λ found. IsTrue found ↔ IsMeantFrom glob path folder)
  seen_from folder rest (Err e) parts slash h = tt
  seen_from folder rest (Ok found) parts slash h =
      let (tail, is) = slash_first rest slash in (
        λ t. (
          tail,
          parts ∙ ap (λ z. folder ++ z) is,
          subst (λ z. IsTrue (matches glob z)) is (subst (λ b. IsTrue b) h t),
        ),
        λ (other, at, t). subst (λ b. IsTrue b) (sym h)
            (subst (λ z. IsTrue (matches glob z))
            (append_cancel_left folder (47 ∷ other) rest (sym at ∙ parts)) t),
      )

  -- a glob is tried from a second folder on, if it isn't meant from the first
  pub second_folder : (absolute first : Bool) (below folder : List ℕ) (r : Result Bool AllocError)
      → absolute ≡ false → first ≡ false → (IsTrue first ↔ IsMeantFrom glob path below)
      → IfOk r (λ found. IsTrue found ↔ IsMeantFrom glob path folder)
      → IfOk r (λ found. IsTrue found ↔ IsMeant glob absolute path below folder)
  second_folder absolute first below folder (Err e) relative not_first one other = tt
  second_folder true first below folder (Ok found) relative not_first one other =
      let bad : true ≡ false = relative in cc
  second_folder false first below folder (Ok found) relative not_first one other = (
    λ t. inr (other.0 t),
    elim [
      | inl h ↦ let bad : false ≡ true = sym not_first ∙ one.1 h in cc
      | inr h ↦ other.1 h
    ],
  )

module _ {X : Type 0} (P : X → Type 0) (xs : List X) (i : ℕ) (x : X) (inside : i < length xs) (is : get_or xs i x ≡ x) where
  one_more : length (take (i + 1) xs) ≡ i + 1
  one_more = length-take-le (i + 1) xs (omega (arith, inside))

  so_far : length (take i xs) ≡ i
  so_far = length-take-le i xs (omega (arith, inside))

  -- one of i + 1 is one of i or the last
  pub any_more : Any P (take (i + 1) xs) ↔ (Any P (take i xs) ⊎ P x)
  any_more = (
    λ (k, y, less, at, p).
        let at_k = sym (get_or-take (i + 1) xs k y (omega (arith, less, one_more))) ∙ at in elim (cases_lt k i) [
          | inl h ↦ inl (k, y, omega (arith, h, so_far), get_or-take i xs k y h ∙ at_k, p)
          | inr h ↦
              let k_is_i : k ≡ i = omega (arith, h, less, one_more) in
              inr (subst P (sym at_k ∙ ap (λ n. get_or xs n y) k_is_i ∙ get_or_default xs i y x inside ∙ is) p)
        ],
    elim [
      | inl (k, y, less, at, p) ↦
          let h : k < i = omega (arith, less, so_far) in
          (k, y, omega (arith, h, one_more), get_or-take (i + 1) xs k y (omega (arith, h)) ∙ sym (get_or-take i xs k y h) ∙ at, p)
      | inr p ↦ (i, x, omega (arith, one_more), get_or-take (i + 1) xs i x (omega arith) ∙ is, p)
    ],
  )

-- an element of which only what a function passes over has changed
pub map_stays : {X Y : Type 0} (f : X → Y) (xs : List X) (i : ℕ) (d z : X) → i < length xs → f z ≡ f (get_or xs i d)
    → map f (set xs i z) ≡ map f xs
map_stays f xs i d z inside same = map-set f xs i z
    ∙ ap (λ y. set (map f xs) i y) (same ∙ sym (get_or-map f xs i d (f d) inside))
    ∙ set-get_or (map f xs) i (f d)

module _ (path below folder : List ℕ) (first : List Rule) where
  -- a path was met at the first i rules, and the others are as they were
  abbrev pub MetBelow : ℕ → List Rule → Type 0
  MetBelow i rules = ((k : ℕ) (d : Rule) → k < i → IsMetAt path below folder (get_or first k d) (get_or rules k d))
      × ((k : ℕ) (d : Rule) → i ≤ k → get_or rules k d ≡ get_or first k d)

  -- and at one more
  pub met_more : (rules new : List Rule) (i : ℕ) (d z : Rule) → i < length rules → MetBelow i rules
      → IsMetAt path below folder (get_or rules i d) z → new ≡ set rules i z → MetBelow (i + 1) new
  met_more rules new i d z inside (each, rest) here is = subst (λ xs. MetBelow (i + 1) xs) (sym is) (
    λ k e less. elim (cases_lt k i) [
      | inl before ↦
          let other : k ≢ i = omega (arith, before) in
          subst (λ r. IsMetAt path below folder (get_or first k e) r) (sym (get_or-set_other rules i k z e other)) (each k e before)
      | inr after ↦
          let same : k ≡ i = omega (arith, less, after) in
          let there : get_or (set rules i z) k e ≡ z = ap (λ n. get_or (set rules i z) n e) same ∙ get_or-set_same rules i z e inside in
          let old : get_or rules i d ≡ get_or first k e =
          get_or_default rules i d e inside ∙ rest i e (omega arith) ∙ ap (λ n. get_or first n e) (sym same) in
          subst (λ r. IsMetAt path below folder (get_or first k e) r) (sym there)
          (subst (λ r. IsMetAt path below folder r z) old here)
    ],
    λ k e after.
        let other : k ≢ i = omega (arith, after) in
        get_or-set_other rules i k z e other ∙ rest k e (omega (arith, after)),
  )

-- what is asked for stays the same from step to step
pub same_again : (first second third : Excludes) → AsksTheSame first second → AsksTheSame second third → AsksTheSame first third
same_again first second third s t = record { globs = t.globs ∙ s.globs; folder = t.folder ∙ s.folder }

pub same_back : (old new : Excludes) → AsksTheSame old new → AsksTheSame new old
same_back old new s = record { globs = sym s.globs; folder = sym s.folder }

-- so what is left alone stays the same
pub alone_still : (old new : Excludes) (path : List ℕ) → AsksTheSame old new
    → LeavesAlone new path (working_folder new) → LeavesAlone old path (working_folder old)
alone_still old new path s h = subst (λ gs. Any (IsFor path (working_folder old) (working_folder old)) gs) s.globs
    (subst (λ f. Any (IsFor path f f) (globs new)) s.folder h)

pub above_still : (old new : Excludes) (path : List ℕ) (n : ℕ) → AsksTheSame old new
    → LeavesAbove new path n → LeavesAbove old path n
above_still old new path n s (rest, at, h) = (rest, at, alone_still old new (take n path) s h)

-- a folder that ends before a slash
pub above_is : (e : Excludes) (path : List ℕ) (n : ℕ) (above rest : List ℕ) (r : Result Bool AllocError)
    → above ≡ take n path → rest ≡ drop n path → get_or rest 0 0 ≡ 47
    → IfOk r (λ b. IsTrue b ↔ LeavesAlone e above (working_folder e)) → IfOk r (λ b. IsTrue b ↔ LeavesAbove e path n)
above_is e path n above rest (Err _) front back slash h = tt
above_is e path n above rest (Ok b) front back slash h =
    let (tail, is) = slash_first rest slash in (
      λ t. (
        tail,
        sym (take-append-drop n path) ∙ ap (λ z. take n path ++ z) (sym back ∙ is),
        subst (λ z. LeavesAlone e z (working_folder e)) front (h.0 t),
      ),
      λ (other, at, l). h.1 (subst (λ z. LeavesAlone e z (working_folder e)) (sym front) l),
    )

-- a folder above a path has fewer bytes
shorter : (path rest : List ℕ) (n : ℕ) → path ≡ take n path ++ (47 ∷ rest) → n < length path
shorter path rest n e = omega (arith, ap (λ z. length z) e, length-append (take n path) (47 ∷ rest), length-take n path)

-- where no folder above is left alone, the path itself decides
pub named_last : (old new : Excludes) (path : List ℕ) (r : Result Bool AllocError) → AsksTheSame old new
    → ((n : ℕ) → n < length path → ¬ (LeavesAbove old path n))
    → IfOk r (λ b. IsTrue b ↔ LeavesAlone new path (working_folder new)) → IfOk r (λ b. IsTrue b ↔ LeavesNamed old path)
named_last old new path (Err _) s none h = tt
named_last old new path (Ok b) s none h = (
  λ t. inr (alone_still old new path s (h.0 t)),
  elim [
    | inl (n, (rest, at, l)) ↦ absurd (none n (shorter path rest n at) (rest, at, l))
    | inr l ↦ h.1 (alone_still new old path (same_back old new s) l)
  ],
)
