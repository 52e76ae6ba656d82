-- Where paths lead to.
use Rattle.std.proofs.Common.{◌≡◌, ◌≢◌, ◌∙◌, ◌++◌, ◌∷◌, ◌-◌, ◌<◌, ◌≤◌, [], List, ℕ, Bool, true, false, Option, Some, None, refl, codes, ap, sym, subst, arith, length, take, get_or, get_or-take, take_all, not, inl, inr}
use Rattle.std.specs.Prelude.{◌↔◌, IsTrue, IfSome}
use Rattle.std.specs.List.{suffix_len}
use Rattle.std.specs.Str.{bytes_eq}
use Rattle.std.specs.Str.Pattern.{CutsSuffixes, FindsCharSuffix, IsTrimEndMatches}
use Rattle.std.proofs.lemmas.Bool.{cases_lt, eq-eqb, ne_eqb}
use Rattle.std.proofs.lemmas.List.{length-take-le, take-take, take_more}
use Rattle.std.proofs.lemmas.List.Sums.{suffix_len_is}
use Rattle.std.proofs.lemmas.Slice.Eq.{bytes_eq-Decides}
use Rattle.cedar_files.specs.Paths.{IsBelow, LeadsOut, is_slash, next, without_last_slashes}

differs : (xs ys : List ℕ) → ¬ (xs ≡ ys) → bytes_eq xs ys ≡ false
differs xs ys h = by_answer (bytes_eq xs ys) (bytes_eq-Decides xs ys).0
  where
    by_answer : (b : Bool) → (b ≡ true → xs ≡ ys) → b ≡ false
    by_answer true h' = absurd (h (h' refl))
    by_answer false h' = refl

-- any other name leads to what it names
pub next_name : (folder : List (List ℕ)) (name : List ℕ) → ¬ (name ≡ []) → ¬ (name ≡ codes ".") → ¬ (name ≡ codes "..")
    → next folder name ≡ folder ++ (name ∷ [])
next_name folder name some one two =
    let a = differs name [] some in
    let b = differs name (codes ".") one in
    let d = differs name (codes "..") two in
    rw a (rw b (rw d refl))

module _ (path : List ℕ) where
  -- after this part of the path there are only slashes
  record IsBeforeSlashes (front : List ℕ) : Type 0 where
    within : length front ≤ length path
    part : front ≡ take (length front) path
    slashes : (k : ℕ) → length front ≤ k → k < length path → get_or path k 0 ≡ 47

  same_byte : (front : List ℕ) (k : ℕ) → front ≡ take (length front) path → k < length front
      → get_or front k 0 ≡ get_or path k 0
  same_byte front k part inside =
      ap (λ xs. get_or xs k 0) part ∙ get_or-take (length front) path k 0 inside

  -- what is left of the path when slashes at its end are cut off
  cut_is : (ns front : List ℕ) → CutsSuffixes (FindsCharSuffix 47) path ns front
      → IsBeforeSlashes front
  cut_is [] front same = record {
    within = omega (arith, ap (λ xs. length xs) same);
    part =
        same ∙ sym (take_all (length front) path (omega (arith, ap (λ xs. length xs) same)));
    slashes = λ k from to. absurd (omega (arith, from, to, ap (λ xs. length xs) same));
  }
  cut_is (n ∷ ns) front (more, before, (one, there, _), is) =
      let longer = cut_is ns more before in
      let some : 0 < length more = omega (arith, there.ends) in
      let shorter : length front ≡ length more - 1 =
      ap (λ xs. length xs) is ∙ length-take-le (length more - n) more (omega arith)
      ∙ omega (arith, one) in
      let front_of : front ≡ take (length front) path =
      is ∙ ap (λ xs. take (length more - n) xs) longer.part
      ∙ take-take (length more - n) (length more) path (omega arith)
      ∙ ap (λ i. take i path) (omega (arith, shorter, one)) in
      record {
        within = omega (arith, shorter, longer.within);
        part = front_of;
        slashes = λ k from to. elim (cases_lt k (length more)) [
          | inl last ↦
              let at : k ≡ length more - n = omega (arith, from, last, shorter, one, some) in
              sym (same_byte more k longer.part last) ∙ ap (λ i. get_or more i 0) at
              ∙ there.byte (omega arith)
          | inr after ↦ longer.slashes k after to
        ];
      }

  -- a part that ends in a slash can be cut once more
  no_more : (front : List ℕ) (o : Option ℕ) → FindsCharSuffix 47 front o → IfSome o (λ n. n ≡ 0)
      → 0 < length front → get_or front (length front - 1) 0 ≢ 47
  unfolding lib.Utf8.encode
  no_more front (Some n) (one, _, _) zero some last = absurd (omega (arith, one, zero))
  no_more front None none zero some last =
      none (take (length front - 1) front) (sym (take_all (length front) front (omega arith))
      ∙ ap (λ n. take n front) (omega (arith, some))
      ∙ take_more front (length front - 1) 0 (omega (arith, some))
      ∙ ap (λ b. take (length front - 1) front ++ b ∷ []) last)

  -- the path without the slashes at its end
  pub trimmed_is : (front : List ℕ) → IsTrimEndMatches (FindsCharSuffix 47) path front
      → front ≡ without_last_slashes path
  trimmed_is front ((ns, cuts), (o, found, zero)) =
      let cut = cut_is ns front cuts in
      let left : suffix_len is_slash path ≡ length path - length front =
      suffix_len_is is_slash path (length front) 0 cut.within
      (λ k from to. eq-eqb (get_or path k 0) 47 (cut.slashes k from to))
      (λ some. ne_eqb (get_or path (length front - 1) 0) 47
      (λ slash. no_more front o found zero some
      (same_byte front (length front - 1) cut.part (omega (arith, some)) ∙ slash))) in
      cut.part ∙ ap (λ n. take n path) (omega (arith, left, cut.within))

-- a path that isn't below a folder leads out of it
pub out_is : (below : Bool) (path folder front : List ℕ) → front ≡ without_last_slashes folder
    → (IsTrue below ↔ IsBelow path front) → IsTrue (not below) ↔ LeadsOut path folder
out_is true path folder front is h = (
  λ t _. let bad : false ≡ true = t in cc,
  λ out. absurd (out (subst (λ f. IsBelow path f) is (h.0 refl))),
)
out_is false path folder front is h = (
  λ t there. let bad : false ≡ true = h.1 (subst (λ f. IsBelow path f) (sym is) there) in cc,
  λ out. refl,
)
