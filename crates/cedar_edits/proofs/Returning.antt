-- Carriage returns before line feeds.
use Rattle.std.proofs.Common.{◌≡◌, ◌≢◌, ◌≤◌, ◌<◌, ◌+◌, ◌-◌, ℕ, Bool, true, false, cond, List, [], ◌∷◌, ◌++◌, length, get_or, take, drop, sym, ap, ◌∙◌, subst, inl, inr, arith, append_assoc, append-nil, add-one}
use Rattle.std.specs.Prelude.{slice_range}
use Rattle.std.specs.Str.{IsCharBoundary, IsUtf8}
use Rattle.std.proofs.lemmas.Str.{IsCharBoundary-start}
use Rattle.std.proofs.lemmas.Bool.{cases_lt}
use Rattle.std.proofs.lemmas.Bool.Decides.{nat_tests}
use Rattle.std.proofs.lemmas.List.{drop_all, get_or-drop, length-drop, take_all, take_more}
use Rattle.std.proofs.Math.Seq.{drop-cons}
use Rattle.cedar_tokens.specs.Bytes.{carriage_return}
use Rattle.cedar_edits.specs.Inside.Before.{byte_before}
use Rattle.cedar_edits.specs.Returns.{lacks_return, returned_after, with_returns}

-- ---- the line feeds so far

-- each line feed before the place follows a carriage return, and there is one if and only if this is true
pub record HasReturnsSoFar (text : List ℕ) (i : ℕ) (some : Bool) : Type 0 where
  pub all : (k : ℕ) → k < i → get_or text k 0 ≡ 10 → (0 < k) × (get_or text (k - 1) 0 ≡ 13)
  pub found : some ≡ true → (k : ℕ) × (get_or text k 0 ≡ 10)
  pub none : some ≡ false → (k : ℕ) → k < i → get_or text k 0 ≢ 10

pub other_next : (text : List ℕ) (i : ℕ) (some : Bool) → HasReturnsSoFar text i some
    → get_or text i 0 ≢ 10 → HasReturnsSoFar text (i + 1) some
other_next text i some h other = record {
  all = λ k below feed. elim (cases_lt k i) [
    | inl before ↦ h.all k before feed
    | inr last ↦ let at : k ≡ i = omega arith in
        absurd (other (subst (λ m. get_or text m 0 ≡ 10) at feed))
  ];
  found = h.found;
  none = λ e k below. elim (cases_lt k i) [
    | inl before ↦ h.none e k before
    | inr last ↦ let at : k ≡ i = omega arith in
        subst (λ m. get_or text m 0 ≢ 10) (sym at) other
  ];
}

pub feed_next : (text : List ℕ) (i : ℕ) (some : Bool) → HasReturnsSoFar text i some
    → get_or text i 0 ≡ 10 → 0 < i → get_or text (i - 1) 0 ≡ 13 → HasReturnsSoFar text (i + 1) true
feed_next text i some h feed above return = record {
  all = λ k below here. elim (cases_lt k i) [
    | inl before ↦ h.all k before here
    | inr last ↦ let at : i ≡ k = omega arith in
        subst (λ m. (0 < m) × (get_or text (m - 1) 0 ≡ 13)) at (above, return)
  ];
  found = λ _. (i, feed);
  none = λ e. absurd (let h : true ≡ false = e in cc);
}

-- ---- the text so far

pub lacks_return_ascii : (last b : ℕ) → lacks_return last b ≡ true → b < 128
lacks_return_ascii last b bare = grind (arith, nat_tests)

pub after_before : (text : List ℕ) (i : ℕ) → i < length text
    → returned_after (byte_before text i) (drop i text)
    ≡ (cond (lacks_return (byte_before text i) (get_or text i 0))
    (carriage_return ∷ (get_or text i 0 ∷ [])) (get_or text i 0 ∷ []))
    ++ returned_after (byte_before text (i + 1)) (drop (i + 1) text)
after_before text i within =
    ap (returned_after (byte_before text i)) (drop-cons text i 0 within)
    ∙ ap (λ k. (cond (lacks_return (byte_before text i) (get_or text i 0))
    (carriage_return ∷ (get_or text i 0 ∷ [])) (get_or text i 0 ∷ []))
    ++ returned_after (byte_before text k) (drop k text)) (sym (add-one i))

-- what is written, what is passed since then, and what is left make the whole
pub record IsReturned (text : List ℕ) (from i : ℕ) (result : List ℕ) : Type 0 where
  pub order : from ≤ i
  pub place : IsCharBoundary text from
  pub bytes : result
      ++ (slice_range text from i ++ returned_after (byte_before text i) (drop i text))
      ≡ with_returns text

range_more : (text : List ℕ) (from i : ℕ) → from ≤ i → i < length text
    → slice_range text from (i + 1) ≡ slice_range text from i ++ (get_or text i 0 ∷ [])
range_more text from i order within =
    let more : (i + 1) - from ≡ (i - from) + 1 = omega arith in
    let place : from + (i - from) ≡ i = omega arith in
    ap (λ n. take n (drop from text)) more
    ∙ (take_more (drop from text) (i - from) 0 (omega (arith, length-drop from text))
    ∙ ap (λ b. slice_range text from i ++ (b ∷ []))
    (get_or-drop from text (i - from) 0 ∙ ap (λ n. get_or text n 0) place))

pub kept_more : (text : List ℕ) (from i : ℕ) (result : List ℕ) → IsReturned text from i result
    → i < length text
    → lacks_return (byte_before text i) (get_or text i 0) ≡ false
    → IsReturned text from (i + 1) result
kept_more text from i result r within kept = record {
  order = omega (arith, r.order);
  place = r.place;
  bytes = ap (λ z. result
      ++ (z ++ returned_after (byte_before text (i + 1)) (drop (i + 1) text)))
      (range_more text from i r.order within)
      ∙ (ap (λ z. result ++ z) (append_assoc (slice_range text from i) (get_or text i 0 ∷ [])
      (returned_after (byte_before text (i + 1)) (drop (i + 1) text))
      ∙ ap (λ z. slice_range text from i ++ z) (sym (after_before text i within
      ∙ ap (λ b. (cond b (carriage_return ∷ (get_or text i 0 ∷ [])) (get_or text i 0 ∷ []))
      ++ returned_after (byte_before text (i + 1)) (drop (i + 1) text)) kept))) ∙ r.bytes);
}

pub returned_more : (text : List ℕ) (from i : ℕ) (result : List ℕ) → IsReturned text from i result
    → i < length text → IsCharBoundary text i
    → lacks_return (byte_before text i) (get_or text i 0) ≡ true
    → IsReturned text i (i + 1) ((result ++ slice_range text from i) ++ (carriage_return ∷ []))
returned_more text from i result r within boundary bare =
    let none : i - i ≡ 0 = omega arith in
    let one : slice_range text i (i + 1) ≡ get_or text i 0 ∷ [] =
    range_more text i i (omega arith) within
    ∙ ap (λ n. take n (drop i text) ++ (get_or text i 0 ∷ [])) none in
    let rest = returned_after (byte_before text (i + 1)) (drop (i + 1) text) in
    record {
      order = omega arith;
      place = boundary;
      bytes = ap (λ z. ((result ++ slice_range text from i) ++ (carriage_return ∷ []))
          ++ (z ++ rest)) one
          ∙ (append_assoc (result ++ slice_range text from i) (carriage_return ∷ [])
          (get_or text i 0 ∷ rest)
          ∙ (append_assoc result (slice_range text from i)
          (carriage_return ∷ (get_or text i 0 ∷ rest))
          ∙ (ap (λ z. result ++ (slice_range text from i ++ z)) (sym (after_before text i within
          ∙ ap (λ b. (cond b (carriage_return ∷ (get_or text i 0 ∷ [])) (get_or text i 0 ∷ []))
          ++ rest) bare)) ∙ r.bytes)));
    }

-- at the end
pub all_returned : (text : List ℕ) (from i : ℕ) (result : List ℕ) → IsReturned text from i result
    → i ≡ length text → result ++ drop from text ≡ with_returns text
all_returned text from i result r end =
    let nothing : returned_after (byte_before text i) (drop i text) ≡ [] =
    ap (returned_after (byte_before text i)) (drop_all i text (omega (arith, end))) in
    let upto : slice_range text from i ≡ drop from text =
    take_all (i - from) (drop from text) (omega (arith, length-drop from text, end)) in
    ap (λ z. result ++ z) (sym upto ∙ (sym (append-nil (slice_range text from i))
    ∙ ap (λ z. slice_range text from i ++ z) (sym nothing))) ∙ r.bytes

pub none_returned : (text result : List ℕ) → IsUtf8 text → result ≡ []
    → IsReturned text 0 0 result
none_returned text result u none = record {
  order = omega arith;
  place = IsCharBoundary-start text u;
  bytes = ap (λ z. z ++ with_returns text) none;
}
