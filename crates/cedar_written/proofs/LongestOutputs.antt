-- How long an output is.
use Rattle.std.proofs.Common.{◌≡◌, ℕ, zero, suc, ℤ, ◌+◌, ◌*◌, ◌≤◌, ◌<◌, Bool, true, false, ◌&&◌, ◌||◌, List, [], ◌∷◌, ◌++◌, length, refl, sym, ap, ◌∙◌, arith, length-append, append-nil}
use Rattle.std.proofs.Math.Nat.{suc-mul}
use Rattle.std.specs.List.{AllByRecursion, AllZip, concat, list_any, take_while}
use Rattle.std.specs.Str.{IsUtf8}
use Rattle.std.proofs.lemmas.Str.{IsUtf8-append, IsUtf8-nil}
use Rattle.cedar_tokens.specs.Bytes.{line_feed}
use Rattle.cedar_tokens.specs.Listing.{Decorated}
use Rattle.cedar_tokens.specs.PlainList.{plain_list}
use Rattle.cedar_tokens.proofs.Lists.{All-parts}
use Rattle.cedar_tokens.proofs.UnitsSoFar.{scans_concat}
use Rattle.cedar_layout.specs.Layout.{Doc}
use Rattle.cedar_grammar.specs.Texts.{greatest_depth}
use Rattle.cedar_laws.specs.Good.{IsGood}
use Rattle.cedar_laws.specs.Output.{paragraphs, closing_text}
use Rattle.cedar_laws.proofs.GoodLists.{every_list_good, plain_list_good}
use Rattle.cedar_laws.proofs.Spaces.{units_utf8}
use Rattle.cedar_written.specs.Cleaning.{IsCleaned, is_blank, is_feed, without_blank_lines}
use Rattle.cedar_written.specs.Layout.{layout}
use Rattle.cedar_written.specs.Written as W
use Rattle.cedar_written.specs.Written.{PolicySet, no_policy, a_policy}
use Rattle.cedar_written.specs.Bounds.{columns_of, greatest_indentation, OutputsAreBounded}
use Rattle.cedar_written.proofs.Documents.{laid_length, laid_utf8}
use Rattle.cedar_written.proofs.Languages.{charge, weights, weights_append}
use Rattle.cedar_written.proofs.Rows.{policy, deep, deep_is}
use Rattle.cedar_written.proofs.Texts.{lines_cost, list_cost, plain_cost, trim_length}

-- ---- cleaning

record Kept (fed : Bool) (us : List (List ℕ)) : Type 0 where
  utf8 : IsUtf8 (without_blank_lines fed us)
  shorter : length (without_blank_lines fed us) ≤ length (concat us)

kept : (fed : Bool) (us : List (List ℕ)) → AllByRecursion IsUtf8 us → Kept fed us
kept fed [] a = record { utf8 = IsUtf8-nil; shorter = omega arith }
kept fed (u ∷ us) a = go (fed && list_any is_feed (take_while is_blank (u ∷ us))) refl
    (kept true us a.1) (kept (is_feed u || (fed && is_blank u)) us a.1)
  where
    go : (t : Bool) → (fed && list_any is_feed (take_while is_blank (u ∷ us))) ≡ t
        → Kept true us → Kept (is_feed u || (fed && is_blank u)) us → Kept fed (u ∷ us)
    go true e h k = record {
      utf8 = rw e h.utf8;
      shorter = rw e (omega (arith, h.shorter, length-append u (concat us)));
    }
    go false e h k = record {
      utf8 = rw e (IsUtf8-append u (without_blank_lines (is_feed u || (fed && is_blank u)) us) a.0 k.utf8);
      shorter = rw e (omega (
        arith,
        k.shorter,
        length-append u (concat us),
        length-append u (without_blank_lines (is_feed u || (fed && is_blank u)) us),
      ));
    }

cleaned_length : (x y : List ℕ) → IsUtf8 x → IsCleaned x y → length y ≤ length x
cleaned_length x y h c =
    let k = kept false c.units (units_utf8 c.units x h c.split) in
    let e : concat c.units ≡ x = sym (append-nil (concat c.units)) ∙ sym (scans_concat c.units x [] c.split) in
    omega (arith, ap length c.trimmed, trim_length (without_blank_lines false c.units) k.utf8, k.shorter, ap length e)

-- ---- policies

module _ (w : ℕ) (i : ℤ) where
  abbrev u : ℕ
  u = suc (greatest_indentation i)

  one : 0 < u
  one = omega arith

  inside : columns_of i + deep one i greatest_depth < u
  inside = omega (arith, deep_is one i greatest_depth)

  policy_length : (ts : List Decorated) (d : Doc) (t : List ℕ) → W.Policy i greatest_depth ts d
      → AllByRecursion IsGood ts → IsCleaned (layout w d) t → length t + 2 ≤ weights u ts
  policy_length ts d t p g c =
      let b = policy one i greatest_depth in
      let short = laid_length w u d false 0 0 [] (b.within ts d 0 p (omega (arith, inside))) in
      omega (arith, cleaned_length (layout w d) t (laid_utf8 w d false 0 0 [] (b.utf8 ts d p g)) c, short, b.costs ts d p)

  policies_length : (ts : List Decorated) (ds : List Doc) (texts : List (List ℕ)) → PolicySet i greatest_depth ts ds
      → AllByRecursion IsGood ts → AllZip (λ d t. IsCleaned (layout w d) t) ds texts
      → length (paragraphs texts) ≤ weights u ts
  policies_length ts ds texts no_policy g z = none texts z
    where
      none : (texts : List (List ℕ)) → AllZip (λ d t. IsCleaned (layout w d) t) [] texts → length (paragraphs texts) ≤ 0
      none [] z = omega arith
      none (t ∷ texts) z = absurd z
  policies_length ts ds texts (a_policy ts1 us d ds1 p ps) g z =
      let parts = All-parts IsGood ts1 us g in
      some texts z (λ t c. policy_length ts1 d t p parts.0 c) (λ more z. policies_length us ds1 more ps parts.1 z)
    where
      some : (texts : List (List ℕ)) → AllZip (λ d t. IsCleaned (layout w d) t) (d ∷ ds1) texts
          → ((t : List ℕ) → IsCleaned (layout w d) t → length t + 2 ≤ weights u ts1)
          → ((more : List (List ℕ)) → AllZip (λ d t. IsCleaned (layout w d) t) ds1 more → length (paragraphs more) ≤ weights u us)
          → length (paragraphs texts) ≤ weights u (ts1 ++ us)
      some [] z f h = absurd z
      some (t ∷ []) z f h = omega (arith, f t z.0, weights_append u ts1 us)
      some (t ∷ (s ∷ texts)) z f h = omega (
        arith,
        f t z.0,
        h (s ∷ texts) z.1,
        weights_append u ts1 us,
        length-append t (line_feed ∷ (line_feed ∷ paragraphs (s ∷ texts))),
      )

  closing_length : (ls : List (List ℕ)) → length (closing_text ls) ≤ lines_cost u ls
  closing_length [] = omega arith
  closing_length (l ∷ ls) = omega (arith, closing_length ls, length-append l (line_feed ∷ closing_text ls))

charge_is : (u n : ℕ) → charge u n ≡ n * suc (suc u)
charge_is u zero = omega arith
charge_is u (suc n) = omega (arith, charge_is u n, suc-mul n (suc (suc u)))

pub outputs_are_bounded : OutputsAreBounded
outputs_are_bounded w i x y h o =
    let v = suc (greatest_indentation i) in
    let g = (every_list_good x o.list h o.is_list).0 in
    omega (
      arith,
      ap length o.output,
      length-append (paragraphs o.texts) (line_feed ∷ closing_text o.list.closing),
      policies_length w i (plain_list o.list.tokens) o.documents o.texts o.written (plain_list_good o.list.tokens g) o.cleaned,
      plain_cost v o.list.tokens g,
      closing_length w i o.list.closing,
      list_cost v x o.list h o.is_list,
      charge_is v (length x),
    )
