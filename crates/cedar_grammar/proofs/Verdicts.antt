-- What a text is, computed from its units: accepted, or refused at a byte.
use Rattle.std.specs.Prelude.{◌≡◌, ℕ, zero, suc, ◌-◌, ◌+◌, Bool, true, false, ◌||◌, if◌then◌else◌, List, [], ◌∷◌, ◌++◌, ◌⊎◌, length, map, Option, Some, None}
use Rattle.std.specs.List.{list_any, sum_by}
use Rattle.std.specs.Option.{option_map}
use Rattle.std.proofs.Common.{refl, sym, ap, ◌∙◌, inl, inr, arith, length-append, subst}
use Rattle.std.proofs.lemmas.List.Sums.{sum_by-cons}
use Rattle.cedar_tokens.specs.Units.{is_token}
use Rattle.cedar_tokens.specs.Split.{SplitsInto}
use Rattle.cedar_tokens.specs.declared.kind.Kind.{Kind}
use Rattle.cedar_tokens.specs.TokenKinds.{kind_of}
use Rattle.cedar_grammar.specs.Reader.Hopeless.{Hopeless, Unfinished, IsHopeless, IsRefused}
use Rattle.cedar_grammar.specs.KindGrammar.{G}
use Rattle.cedar_grammar.specs.Numbers.{is_too_large, IsFirstTooLarge}
use Rattle.cedar_grammar.specs.Texts.{greatest_depth, only_tokens, Accepted}
use Rattle.cedar_grammar.specs.Reader.Reading.{Answer, done, stuck}
use Rattle.cedar_grammar.specs.Reader.Lines.{set_to}
use Rattle.cedar_grammar.proofs.Rules.Maps.{answer_of, set_agrees, each_length}
use Rattle.cedar_grammar.proofs.Answers.{Says, says}
use Rattle.cedar_grammar.proofs.Texts.Accepted.{is_accepted}
use Rattle.cedar_grammar.proofs.Texts.Kinds.{samples}
use Rattle.cedar_grammar.proofs.Texts.Cuts.{Large, numbers_or, unit_cut}
use Rattle.cedar_grammar.proofs.Trees.Relabelling.{each_map}
use Rattle.cedar_tokens.proofs.UnitsSoFar.{units_length}
use Rattle.cedar_grammar.proofs.Hopeless.{hopeless_among}

-- accepted; refused at a byte, and whether only by its depth; a number at a byte that is too large
pub data Verdict : Type 0 where
  accepted : Verdict
  refused : Bool → ℕ → Verdict
  too_large : ℕ → Verdict

-- what the verdict says about the text
abbrev pub Holds : List ℕ → Verdict → Type 0
Holds text accepted = Accepted text
Holds text (refused deep at) = IsRefused text at deep
Holds text (too_large at) = IsFirstTooLarge text at

-- where the token with n tokens before it starts, or the text's length if there is none
abbrev pub start_after : List (List ℕ) → ℕ → ℕ
start_after [] n = 0
start_after (u ∷ us) zero = if is_token u then 0 else length u + start_after us zero
start_after (u ∷ us) (suc n) =
    if is_token u then length u + start_after us n else length u + start_after us (suc n)

-- where the first number starts that is too large
abbrev pub large_at : List (List ℕ) → Option ℕ
large_at [] = None
large_at (u ∷ us) = if is_too_large u then Some 0 else option_map (λ n. length u + n) (large_at us)

abbrev pub of_answer : {A : Type 0} → List (List ℕ) → Answer A → Verdict
of_answer units (done f []) = accepted
of_answer units (done f (a ∷ r)) =
    refused false (start_after units (length (only_tokens units) - length (a ∷ r)))
of_answer units (stuck b []) = refused false (start_after units (length (only_tokens units)))
of_answer units (stuck b (a ∷ r)) =
    refused b (start_after units (length (only_tokens units) - length (a ∷ r)))

abbrev pub of_numbers : Option ℕ → Verdict → Verdict
of_numbers None v = v
of_numbers (Some at) v = too_large at

-- the verdict on a text with these units, at the depth d
abbrev pub verdict : ℕ → List (List ℕ) → Verdict
verdict d units = of_numbers (large_at units)
    (of_answer units (set_to (λ (k : Kind). k) d (map kind_of (only_tokens units))))

-- Each verdict is true.
none_large : (units : List (List ℕ)) → list_any is_too_large units ≡ false → large_at units ≡ None
none_large [] e = refl
none_large (u ∷ us) e = go (none_large us) (is_too_large u) refl e
  where
    go : (list_any is_too_large us ≡ false → large_at us ≡ None) → (b : Bool) → is_too_large u ≡ b
        → (b || list_any is_too_large us) ≡ false
        → (if b then Some 0 else option_map (λ n. length u + n) (large_at us)) ≡ None
    go again true h x = absurd cc
    go again false h x = ap (option_map (λ n. length u + n)) (again x)

some_large : (before : List (List ℕ)) (n : List ℕ) (after : List (List ℕ))
    → list_any is_too_large before ≡ false → is_too_large n ≡ true
    → large_at (before ++ (n ∷ after)) ≡ Some (sum_by length before)
some_large [] n after e l =
    ap (λ b. if b then Some 0 else option_map (λ k. length n + k) (large_at after)) l
some_large (u ∷ us) n after e l = go (λ x. some_large us n after x l) (is_too_large u) refl e
    ∙ ap (λ k. Some k) (sym (sum_by-cons length u us))
  where
    go : (list_any is_too_large us ≡ false → large_at (us ++ (n ∷ after)) ≡ Some (sum_by length us))
        → (b : Bool) → is_too_large u ≡ b → (b || list_any is_too_large us) ≡ false
        → (if b then Some 0 else option_map (λ k. length u + k) (large_at (us ++ (n ∷ after))))
        ≡ Some (length u + sum_by length us)
    go again true h x = absurd cc
    go again false h x = ap (option_map (λ k. length u + k)) (again x)

start_is : (before : List (List ℕ)) (t : List ℕ) (after : List (List ℕ)) → is_token t ≡ true
    → start_after (before ++ (t ∷ after)) (length (only_tokens before)) ≡ sum_by length before
start_is [] t after h = ap (λ b. if b then 0 else length t + start_after after zero) h
start_is (u ∷ us) t after h =
    go (start_is us t after h) (is_token u) refl ∙ sym (sum_by-cons length u us)
  where
    other : (n : ℕ) → is_token u ≡ false
        → start_after (u ∷ (us ++ (t ∷ after))) n ≡ length u + start_after (us ++ (t ∷ after)) n
    other zero k = ap (λ b. if b then 0 else length u + start_after (us ++ (t ∷ after)) zero) k
    other (suc n) k = ap (λ b. if b then length u + start_after (us ++ (t ∷ after)) n else length u
        + start_after (us ++ (t ∷ after)) (suc n)) k

    go : start_after (us ++ (t ∷ after)) (length (only_tokens us)) ≡ sum_by length us → (b : Bool)
        → is_token u ≡ b → start_after (u ∷ (us ++ (t ∷ after))) (length
        (if b then u ∷ only_tokens us else only_tokens us)) ≡ length u + sum_by length us
    go e true k =
        ap (λ b. if b then length u + start_after (us ++ (t ∷ after)) (length (only_tokens us))
        else length u + start_after (us ++ (t ∷ after)) (suc (length (only_tokens us)))) k
        ∙ ap (λ n. length u + n) e
    go e false k = other (length (only_tokens us)) k ∙ ap (λ n. length u + n) e

start_past : (units : List (List ℕ))
    → start_after units (length (only_tokens units)) ≡ sum_by length units
start_past [] = refl
start_past (u ∷ us) = go (start_past us) (is_token u) refl ∙ sym (sum_by-cons length u us)
  where
    other : (n : ℕ) → is_token u ≡ false → start_after (u ∷ us) n ≡ length u + start_after us n
    other zero k = ap (λ b. if b then 0 else length u + start_after us zero) k
    other (suc n) k =
        ap (λ b. if b then length u + start_after us n else length u + start_after us (suc n)) k

    go : start_after us (length (only_tokens us)) ≡ sum_by length us → (b : Bool) → is_token u ≡ b
        → start_after (u ∷ us) (length (if b then u ∷ only_tokens us else only_tokens us))
        ≡ length u + sum_by length us
    go e true k = ap (λ b. if b then length u + start_after us (length (only_tokens us))
        else length u + start_after us (suc (length (only_tokens us)))) k ∙ ap (λ n. length u + n) e
    go e false k = other (length (only_tokens us)) k ∙ ap (λ n. length u + n) e

same_verdict : {A B : Type 0} → (h : A → B) (units : List (List ℕ)) (x : Answer A)
    → of_answer units (answer_of h x) ≡ of_answer units x
same_verdict h units (done f []) = refl
same_verdict h units (done f (a ∷ r)) = ap
    (λ n. refused false (start_after units (length (only_tokens units) - suc n))) (each_length h r)
same_verdict h units (stuck b []) = refl
same_verdict h units (stuck b (a ∷ r)) =
    ap (λ n. refused b (start_after units (length (only_tokens units) - suc n))) (each_length h r)

-- the reader at texts and at their kinds
kinds_verdict : (d : ℕ) (units : List (List ℕ)) → of_answer units (set_to (λ (k : Kind). k) d
    (map kind_of (only_tokens units))) ≡ of_answer units (set_to kind_of d (only_tokens units))
kinds_verdict d units = ap (λ z. of_answer units (set_to (λ (k : Kind). k) d z))
    (sym (each_map kind_of (only_tokens units)))
    ∙ ap (of_answer units) (set_agrees kind_of kind_of (λ k. k) (λ a. refl) d (only_tokens units))
    ∙ same_verdict kind_of units (set_to kind_of d (only_tokens units))

module _ (text : List ℕ) (units : List (List ℕ)) (s : SplitsInto text units) (d : ℕ)
    (deep : d ≡ greatest_depth) where
  hopeless : list_any is_too_large units ≡ false → (front : List (List ℕ)) (t : List ℕ)
      (rest : List (List ℕ)) (b : Bool) → Hopeless kind_of d (only_tokens units) front t rest b
      → IsRefused text (start_after units (length (only_tokens units) - length (t ∷ rest))) b
  hopeless fit front t rest b h =
      let c = unit_cut units front t rest h.split in
      let count : length (only_tokens units) - length (t ∷ rest) ≡ length (only_tokens c.before) =
      (let i = ap length h.split ∙ length-append front (t ∷ rest) in let j = ap length c.front_is in
      omega (arith, i, j)) in
      let place : start_after units (length (only_tokens units) - length (t ∷ rest))
      ≡ sum_by length c.before =
      ap (start_after units) count ∙ ap (λ z. start_after z (length (only_tokens c.before))) c.whole
      ∙ start_is c.before t c.after c.is_one in
      inl (subst (λ n. IsHopeless text n b) (sym place)
      (hopeless_among text units s fit d deep front t rest b h))

  answered : list_any is_too_large units ≡ false → (x : Answer (List ℕ))
      → set_to kind_of d (only_tokens units) ≡ x → Says kind_of d (only_tokens units) x
      → Holds text (of_answer units x)
  answered fit (done f []) e g =
      (f, is_accepted text f units s fit (subst (λ z. G kind_of z f (only_tokens units)) deep g))
  answered fit (done f (a ∷ r)) e h = hopeless fit h.0 a r false h.1
  answered fit (stuck b []) e h = inr (
    record {
      units = units;
      split = s;
      fitting = fit;
      unfinished = subst (λ z. Unfinished kind_of z (only_tokens units)) deep h;
    },
    start_past units ∙ sym (units_length units text s),
    refl,
  )
  answered fit (stuck b (a ∷ r)) e h = hopeless fit h.0 a r b h.1

  numbered : (list_any is_too_large units ≡ false) ⊎ Large units → Holds text (of_numbers
      (large_at units) (of_answer units (set_to kind_of d (only_tokens units))))
  numbered (inl fit) = subst
      (λ z. Holds text (of_numbers z (of_answer units (set_to kind_of d (only_tokens units)))))
      (sym (none_large units fit))
      (answered fit (set_to kind_of d (only_tokens units)) refl
      (says kind_of samples d (only_tokens units) (set_to kind_of d (only_tokens units)) refl))
  numbered (inr (f, n, r, e, x, l)) = subst
      (λ z. Holds text (of_numbers z (of_answer units (set_to kind_of d (only_tokens units)))))
      (sym (ap large_at e ∙ some_large f n r x l))
      (record {
        before = f;
        number = n;
        after = r;
        split = subst (λ z. SplitsInto text z) e s;
        place = refl;
        large = l;
        first = x;
      })

  verdict_is_true : Holds text (verdict d units)
  verdict_is_true = subst (λ z. Holds text (of_numbers (large_at units) z))
      (sym (kinds_verdict d units)) (numbered (numbers_or units))

-- The verdict on the units of a text is true of the text.
pub verdict_holds : (text : List ℕ) (units : List (List ℕ)) → SplitsInto text units
    → Holds text (verdict greatest_depth units)
verdict_holds text units s = verdict_is_true text units s greatest_depth refl
