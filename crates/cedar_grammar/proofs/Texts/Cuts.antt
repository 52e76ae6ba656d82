-- Hopeless places, numbers that are too large, and the units of a list of tokens that is cut.
use Rattle.std.specs.Prelude.{◌≡◌, ℕ, ◌<◌, Bool, true, false, ◌||◌, List, [], ◌∷◌, ◌++◌, ◌⊎◌, length, if◌then◌else◌}
use Rattle.std.specs.List.{list_any}
use Rattle.std.proofs.Common.{refl, sym, ap, ◌∙◌, inl, inr, arith, append_assoc, append-nil, subst}
use Rattle.std.proofs.lemmas.Bool.Decides.{same_from_decides}
use Rattle.cedar_tokens.specs.Units.{is_token}
use Rattle.cedar_tokens.specs.declared.kind.Kind.{Kind}
use Rattle.cedar_grammar.specs.Trees.{Label, Forest}
use Rattle.cedar_grammar.specs.KindGrammar.{G}
use Rattle.cedar_grammar.specs.Reader.Hopeless.{BeginsByKinds, Hopeless}
use Rattle.cedar_grammar.specs.Numbers.{is_too_large}
use Rattle.cedar_grammar.specs.Texts.{only_tokens}
use Rattle.cedar_grammar.proofs.Booleans.{neither_second}

-- Two cuts of one list.
pub cuts : {A : Type 0} → (x y : List A) (a b : A) (r s : List A) → x ++ (a ∷ r) ≡ y ++ (b ∷ s)
    → ((x ≡ y) × (a ≡ b)) ⊎ (((e : List A) × (y ≡ x ++ (a ∷ e)))
    ⊎ ((e : List A) × (x ≡ y ++ (b ∷ e))))
cuts [] [] a b r s h = let i : a ≡ b = cc in inl (refl, i)
cuts [] (c ∷ y) a b r s h = let i : c ≡ a = cc in inr (inl (y, ap (λ z. z ∷ y) i))
cuts (c ∷ x) [] a b r s h = let i : c ≡ b = cc in inr (inr (x, ap (λ z. z ∷ x) i))
cuts (c ∷ x) (d ∷ y) a b r s h =
    let i : c ≡ d = cc in
    let j : x ++ (a ∷ r) ≡ y ++ (b ∷ s) = cc in
    more i (cuts x y a b r s j)
  where
    more : c ≡ d → ((x ≡ y) × (a ≡ b)) ⊎ (((e : List _) × (y ≡ x ++ (a ∷ e)))
        ⊎ ((e : List _) × (x ≡ y ++ (b ∷ e))))
        → (((c ∷ x) ≡ (d ∷ y)) × (a ≡ b)) ⊎ (((e : List _) × ((d ∷ y) ≡ (c ∷ x) ++ (a ∷ e)))
        ⊎ ((e : List _) × ((c ∷ x) ≡ (d ∷ y) ++ (b ∷ e))))
    more i (inl e) = inl (ap (λ z. z ∷ x) i ∙ ap (λ z. d ∷ z) e.0, e.1)
    more i (inr (inl e)) = inr (inl (e.0, ap (λ z. z ∷ y) (sym i) ∙ ap (λ z. c ∷ z) e.1))
    more i (inr (inr e)) = inr (inr (e.0, ap (λ z. z ∷ x) i ∙ ap (λ z. d ∷ z) e.1))

-- One place and one kind.
module _ {A : Type 0} (kind : A → Kind) where
  pub begins_less : (d : ℕ) (front : List A) (a : A) (e : List A)
      → BeginsByKinds kind d (front ++ (a ∷ e)) → BeginsByKinds kind d (front ++ (a ∷ []))
  begins_less d front a e b = record {
    rest = e ++ b.rest;
    tree = b.tree;
    grammar = subst (λ z. G kind d b.tree z) (append_assoc front (a ∷ e) b.rest
        ∙ sym (append_assoc front (a ∷ []) (e ++ b.rest))) b.grammar;
  }

  pub whole_begins : (d : ℕ) (f : Forest Label A) (ts : List A) → G kind d f ts
      → BeginsByKinds kind d ts
  whole_begins d f ts g =
      record { rest = []; tree = f; grammar = subst (λ z. G kind d f z) (sym (append-nil ts)) g }

  -- what begins a list has no hopeless place
  pub not_hopeless : (d : ℕ) (ts front : List A) (a : A) (rest : List A) (deep : Bool)
      → BeginsByKinds kind d ts → Hopeless kind d ts front a rest deep → ⊥
  not_hopeless d ts front a rest deep b h =
      h.through (begins_less d front a rest (subst (λ z. BeginsByKinds kind d z) h.split b))

  pub one_place : (d : ℕ) (ts f1 f2 : List A) (a1 a2 : A) (r1 r2 : List A) (b1 b2 : Bool)
      → Hopeless kind d ts f1 a1 r1 b1 → Hopeless kind d ts f2 a2 r2 b2 → (f1 ≡ f2) × (b1 ≡ b2)
  one_place d ts f1 f2 a1 a2 r1 r2 b1 b2 h k = go (cuts f1 f2 a1 a2 r1 r2 (sym h.split ∙ k.split))
    where
      go : ((f1 ≡ f2) × (a1 ≡ a2)) ⊎ (((e : List A) × (f2 ≡ f1 ++ (a1 ∷ e)))
          ⊎ ((e : List A) × (f1 ≡ f2 ++ (a2 ∷ e)))) → (f1 ≡ f2) × (b1 ≡ b2)
      go (inl (e, i)) =
          let same : f1 ++ (a1 ∷ []) ≡ f2 ++ (a2 ∷ []) =
          ap (λ z. z ++ (a1 ∷ [])) e ∙ ap (λ z. f2 ++ (z ∷ [])) i in (
            e,
            same_from_decides b1 b2 h.kind_is (
              λ t. let x = k.kind_is.0 t in
                  (x.0, subst (λ z. BeginsByKinds kind x.0 z) (sym same) x.1),
              λ x. k.kind_is.1 (x.0, subst (λ z. BeginsByKinds kind x.0 z) same x.1),
            ),
          )
      go (inr (inl (e, i))) = absurd
          (h.through (begins_less d f1 a1 e (subst (λ z. BeginsByKinds kind d z) i k.before)))
      go (inr (inr (e, i))) = absurd
          (k.through (begins_less d f2 a2 e (subst (λ z. BeginsByKinds kind d z) i h.before)))

-- Numbers.
abbrev pub Large : List (List ℕ) → Type 0
Large units = (before : List (List ℕ)) × (number : List ℕ) × (after : List (List ℕ))
    × (units ≡ before ++ (number ∷ after)) × (list_any is_too_large before ≡ false)
    × (is_too_large number ≡ true)

pub numbers_or : (units : List (List ℕ)) → (list_any is_too_large units ≡ false) ⊎ Large units
numbers_or [] = inl refl
numbers_or (u ∷ us) = go (numbers_or us) (is_too_large u) refl
  where
    go : (list_any is_too_large us ≡ false) ⊎ Large us → (b : Bool) → is_too_large u ≡ b
        → (list_any is_too_large (u ∷ us) ≡ false) ⊎ Large (u ∷ us)
    go x true e = inr ([], u, us, refl, refl, e)
    go (inl x) false e = inl (rw e x)
    go (inr (f, n, r, h, x, l)) false e = inr (u ∷ f, n, r, ap (λ w. u ∷ w) h, rw e x, l)

pub fit_part : (before : List (List ℕ)) (n : List ℕ) (after : List (List ℕ))
    → list_any is_too_large (before ++ (n ∷ after)) ≡ false → is_too_large n ≡ true → ⊥
fit_part [] n after f l =
    let z : true ≡ false = sym (ap (λ b. b || list_any is_too_large after) l) ∙ f in cc
fit_part (u ∷ us) n after f l = fit_part us n after
    (neither_second (is_too_large u) (list_any is_too_large (us ++ (n ∷ after))) f) l

pub first_large : (f1 f2 : List (List ℕ)) (n1 n2 : List ℕ) (r1 r2 : List (List ℕ))
    → f1 ++ (n1 ∷ r1) ≡ f2 ++ (n2 ∷ r2) → list_any is_too_large f1 ≡ false
    → list_any is_too_large f2 ≡ false
    → is_too_large n1 ≡ true → is_too_large n2 ≡ true → f1 ≡ f2
first_large f1 f2 n1 n2 r1 r2 e x1 x2 l1 l2 = go (cuts f1 f2 n1 n2 r1 r2 e)
  where
    go : ((f1 ≡ f2) × (n1 ≡ n2)) ⊎ (((e : List (List ℕ)) × (f2 ≡ f1 ++ (n1 ∷ e)))
        ⊎ ((e : List (List ℕ)) × (f1 ≡ f2 ++ (n2 ∷ e)))) → f1 ≡ f2
    go (inl h) = h.0
    go (inr (inl (d, i))) = absurd (fit_part f1 n1 d (sym (ap (list_any is_too_large) i) ∙ x2) l1)
    go (inr (inr (d, i))) = absurd (fit_part f2 n2 d (sym (ap (list_any is_too_large) i) ∙ x1) l2)

-- A cut of the tokens is a cut of the units.
pub record UnitCut (units front : List (List ℕ)) (t : List ℕ) (rest : List (List ℕ)) : Type 0 where
  pub before : List (List ℕ)
  pub after : List (List ℕ)
  pub whole : units ≡ before ++ (t ∷ after)
  pub is_one : is_token t ≡ true
  pub front_is : only_tokens before ≡ front
  pub rest_is : only_tokens after ≡ rest

pub unit_cut : (units front : List (List ℕ)) (t : List ℕ) (rest : List (List ℕ))
    → only_tokens units ≡ front ++ (t ∷ rest) → UnitCut units front t rest
unit_cut [] [] t rest e = absurd (let h : ◌≡◌ {A = List (List ℕ)} [] (t ∷ rest) = e in cc)
unit_cut [] (x ∷ front) t rest e =
    absurd (let h : ◌≡◌ {A = List (List ℕ)} [] (x ∷ (front ++ (t ∷ rest))) = e in cc)
unit_cut (u ∷ us) front t rest e = go front (λ f. unit_cut us f t rest) e (is_token u) refl
  where
    go : (front : List (List ℕ))
        → ((f : List (List ℕ)) → only_tokens us ≡ f ++ (t ∷ rest) → UnitCut us f t rest)
        → only_tokens (u ∷ us) ≡ front ++ (t ∷ rest) → (b : Bool) → is_token u ≡ b
        → UnitCut (u ∷ us) front t rest
    go front again e false h =
        let c = again front (let z : only_tokens us ≡ front ++ (t ∷ rest) =
        sym (ap (λ b. if b then u ∷ only_tokens us else only_tokens us) h) ∙ e in z) in
        record {
          before = u ∷ c.before;
          after = c.after;
          whole = ap (λ z. u ∷ z) c.whole;
          is_one = c.is_one;
          front_is =
              ap (λ b. if b then u ∷ only_tokens c.before else only_tokens c.before) h ∙ c.front_is;
          rest_is = c.rest_is;
        }
    go [] again e true h =
        let z : u ∷ only_tokens us ≡ t ∷ rest =
        sym (ap (λ b. if b then u ∷ only_tokens us else only_tokens us) h) ∙ e in
        let same : u ≡ t = cc in
        let rest_same : only_tokens us ≡ rest = cc in
        record {
          before = [];
          after = us;
          whole = ap (λ w. w ∷ us) same;
          is_one = sym (ap is_token same) ∙ h;
          front_is = refl;
          rest_is = rest_same;
        }
    go (x ∷ front) again e true h =
        let z : u ∷ only_tokens us ≡ x ∷ (front ++ (t ∷ rest)) =
        sym (ap (λ b. if b then u ∷ only_tokens us else only_tokens us) h) ∙ e in
        let same : u ≡ x = cc in
        let rest_same : only_tokens us ≡ front ++ (t ∷ rest) = cc in
        let c = again front rest_same in
        record {
          before = u ∷ c.before;
          after = c.after;
          whole = ap (λ z. u ∷ z) c.whole;
          is_one = c.is_one;
          front_is = ap (λ b. if b then u ∷ only_tokens c.before else only_tokens c.before) h
              ∙ ap (λ z. u ∷ z) c.front_is ∙ ap (λ z. z ∷ front) same;
          rest_is = c.rest_is;
        }

tokens_length : (x : List (List ℕ)) (t : List ℕ) (y : List (List ℕ)) → is_token t ≡ true
    → length (only_tokens x) < length (only_tokens (x ++ (t ∷ y)))
tokens_length [] t y h = rw h (omega arith)
tokens_length (u ∷ us) t y h = go (tokens_length us t y h) (is_token u)
  where
    go : length (only_tokens us) < length (only_tokens (us ++ (t ∷ y))) → (b : Bool)
        → length (if b then u ∷ only_tokens us else only_tokens us)
        < length (if b then u ∷ only_tokens (us ++ (t ∷ y)) else only_tokens (us ++ (t ∷ y)))
    go k true = omega (arith, k)
    go k false = k

-- a token among the units is found by the tokens before it
pub one_cut : (f1 f2 : List (List ℕ)) (t1 t2 : List ℕ) (r1 r2 : List (List ℕ))
    → f1 ++ (t1 ∷ r1) ≡ f2 ++ (t2 ∷ r2) → is_token t1 ≡ true → is_token t2 ≡ true
    → only_tokens f1 ≡ only_tokens f2 → f1 ≡ f2
one_cut f1 f2 t1 t2 r1 r2 e h1 h2 same = go (cuts f1 f2 t1 t2 r1 r2 e)
  where
    go : ((f1 ≡ f2) × (t1 ≡ t2)) ⊎ (((e : List (List ℕ)) × (f2 ≡ f1 ++ (t1 ∷ e)))
        ⊎ ((e : List (List ℕ)) × (f1 ≡ f2 ++ (t2 ∷ e)))) → f1 ≡ f2
    go (inl h) = h.0
    go (inr (inl (d, i))) =
        let k = tokens_length f1 t1 d h1 in
        let l = ap length (same ∙ ap only_tokens i) in
        absurd (omega (arith, k, l))
    go (inr (inr (d, i))) =
        let k = tokens_length f2 t2 d h2 in
        let l = ap length (sym same ∙ ap only_tokens i) in
        absurd (omega (arith, k, l))
