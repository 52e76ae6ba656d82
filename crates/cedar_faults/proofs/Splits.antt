-- Texts that split, cut after some units.
use Rattle.std.specs.Prelude.{◌≡◌, ◌≤◌, ◌||◌, ℕ, false, List, [], ◌∷◌, ◌++◌, length, take, drop}
use Rattle.std.specs.List.{concat, list_any, sum_by}
use Rattle.std.specs.Str.{IsUtf8, IsCharBoundary}
use Rattle.std.proofs.Common.{refl, sym, ap, ◌∙◌, subst, arith, append-nil, length-append}
use Rattle.std.proofs.Math.Seq.{take-append_seam, drop-append_seam}
use Rattle.std.proofs.lemmas.List.{drop_all}
use Rattle.std.proofs.lemmas.List.Elements.{filter-append}
use Rattle.std.proofs.lemmas.List.Folds.{list_any-append}
use Rattle.std.proofs.lemmas.Str.{IsCharBoundary-at_seam}
use Rattle.std.proofs.lemmas.Bool.{or_from}
use Rattle.cedar_tokens.specs.Bytes.{line_feed}
use Rattle.cedar_tokens.specs.Units.{is_token, IsToken}
use Rattle.cedar_tokens.specs.Units as U
use Rattle.cedar_tokens.specs.Split.{Scans, SplitsInto}
use Rattle.cedar_tokens.proofs.FirstUnit.{unit_nonempty}
use Rattle.cedar_tokens.proofs.Prefixes.{begins_fits}
use Rattle.cedar_tokens.proofs.UnitsSoFar.{scans_concat, concat_length, scan_utf8}
use Rattle.cedar_grammar.specs.Numbers.{is_too_large}
use Rattle.cedar_grammar.specs.Texts.{only_tokens}
use Rattle.cedar_grammar.proofs.Booleans.{neither_first as or_left}
use Rattle.cedar_laws.proofs.Scanned.{splits_join}
use Rattle.cedar_laws.proofs.Spaces.{scans_shorter}
use Rattle.cedar_laws.proofs.Listed.{feed_no_token}

-- units scan as far as their first ones, and on from there
scans_parts : (us vs : List (List ℕ)) (text rest : List ℕ) → Scans (us ++ vs) text rest
    → (middle : List ℕ) × Scans us text middle × Scans vs middle rest
scans_parts [] vs text rest s = (text, refl, s)
scans_parts (u ∷ us) vs text rest s =
    let q = scans_parts us vs (drop (length u) text) rest s.1 in (q.0, (s.0, q.1), q.2)

-- a text that splits, cut after the first units
pub record Cut (text : List ℕ) (at : ℕ) (before after : List (List ℕ)) : Type 0 where
  pub front : SplitsInto (take at text) before
  pub back : SplitsInto (drop at text) after
  pub within : at ≤ length text
  pub boundary : IsUtf8 text → IsCharBoundary text at

pub cut : (text : List ℕ) (at : ℕ) (before after : List (List ℕ))
    → SplitsInto text (before ++ after) → at ≡ sum_by length before → Cut text at before after
cut text at before after s e =
    let q = scans_parts before after text [] s in
    let whole : text ≡ concat before ++ q.0 = scans_concat before text q.0 q.1 in
    let l : at ≡ length (concat before) = e ∙ sym (concat_length before) in
    let front : take at text ≡ concat before = ap (λ k. take k text) l
    ∙ (ap (take (length (concat before))) whole ∙ take-append_seam (concat before) q.0) in
    let back : drop at text ≡ q.0 = ap (λ k. drop k text) l
    ∙ (ap (drop (length (concat before))) whole ∙ drop-append_seam (concat before) q.0) in
    record {
      front = subst (λ z. SplitsInto z before) (append-nil (concat before) ∙ sym front)
          (scans_shorter before [] q.0 (subst (λ z. Scans before z q.0) whole q.1));
      back = subst (λ z. SplitsInto z after) (sym back) q.2;
      within = omega (arith, l, ap length whole, length-append (concat before) q.0);
      boundary = λ k. subst (λ n. IsCharBoundary text n) (sym l)
          (IsCharBoundary-at_seam text (concat before) q.0 whole (scan_utf8 before text q.0 k q.1));
    }

-- units without bytes are none
pub no_units : (us : List (List ℕ)) (text : List ℕ) → SplitsInto text us → length text ≡ 0 → us ≡ []
no_units [] text s e = refl
no_units (u ∷ us) text s e =
    absurd (omega (arith, unit_nonempty u s.0.kind, begins_fits text u s.0.begins, e))

-- the numbers of the first units fit if all do
pub front_fit : (us vs : List (List ℕ)) → list_any is_too_large (us ++ vs) ≡ false
    → list_any is_too_large us ≡ false
front_fit us vs f = or_left (list_any is_too_large us) (list_any is_too_large vs)
    (sym (list_any-append is_too_large us vs) ∙ f)
