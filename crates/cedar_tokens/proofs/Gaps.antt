-- Gaps of a text, and what follows them.
use Rattle.std.proofs.Common.{◌≡◌, ◌+◌, ◌<◌, true, false, List, [], ◌∷◌, ◌++◌, ℕ, length, drop, take, refl, sym, ap, ◌∙◌, arith}
use Rattle.std.proofs.lemmas.List.{append_assoc, append-nil, append_cancel_right, take-append-drop, length-append, length-take-le}
use Rattle.std.specs.List.{AllByRecursion, concat}
use Rattle.std.specs.Str.{IsUtf8}
use Rattle.cedar_tokens.specs.Units.{token, is_token, IsToken, IsUnit, IsFirstUnit, BeginsNoUnit}
use Rattle.cedar_tokens.specs.Split.{Scans, SplitsInto}
use Rattle.cedar_tokens.specs.Listing.{gaps}
use Rattle.cedar_tokens.specs.Inside.Newlines.{before_newline, after_newline}
use Rattle.cedar_tokens.specs.Places.{token_spans}
use Rattle.cedar_tokens.specs.Inside.Gaps.{IsGap, BeginsNoToken, BeginsToken}
use Rattle.cedar_tokens.specs.Inside.FirstTokens.{IsFirstToken}
use Rattle.cedar_tokens.specs.declared.readers.FirstToken.{FirstToken}
use Rattle.cedar_tokens.proofs.Prefixes.{longest_unique, begins_fits, begins_take, front_begins}
use Rattle.cedar_tokens.proofs.FirstUnit.{unit_nonempty, unit_boundary}
use Rattle.cedar_tokens.proofs.UnitsSoFar.{scans_concat, EndsAt, scan_utf8}
use Rattle.cedar_tokens.proofs.Lists.{All-append}

abbrev pub NoTokens : List (List ℕ) → Type 0
NoTokens us = AllByRecursion (λ u. is_token u ≡ false) us

pub no_tokens_push : (us : List (List ℕ)) (u : List ℕ) → NoTokens us → is_token u ≡ false
    → NoTokens (us ++ u ∷ [])
no_tokens_push us u h e = All-append (λ v. is_token v ≡ false) us (u ∷ []) h (e, tt)

-- a split begins as the scan did
pub split_after : (ws us : List (List ℕ)) (text rest : List ℕ) → Scans ws text rest
    → SplitsInto text us → (vs : List (List ℕ)) × (us ≡ ws ++ vs) × SplitsInto rest vs
split_after [] us text rest s h = (us, refl, rw s at h)
split_after (w ∷ ws) [] text rest s h =
    absurd (omega (arith, unit_nonempty w s.0.kind, begins_fits [] w (rw h at s.0.begins)))
split_after (w ∷ ws) (u ∷ us) text rest s h =
    let same : w ≡ u = longest_unique IsUnit text w u s.0 h.0 in
    let more = split_after ws us (drop (length w) text) rest s.1 (rw (sym same) at h.1) in
    (more.0, cc, more.2)

gaps_after : (ws vs : List (List ℕ)) → NoTokens ws
    → gaps (ws ++ vs) ≡ record { first = concat ws ++ (gaps vs).first; tokens = (gaps vs).tokens }
unfolding gaps
gaps_after [] vs h = refl
gaps_after (w ∷ ws) vs h = rw (h.0, gaps_after ws vs h.1, append_assoc) refl

spans_after : (ws vs : List (List ℕ)) (at : ℕ) → NoTokens ws
    → token_spans at (ws ++ vs) ≡ token_spans (at + length (concat ws)) vs
unfolding token_spans
spans_after [] vs at h = let e : at + 0 ≡ at = omega arith in rw e refl
spans_after (w ∷ ws) vs at h =
    let e : at + length w + length (concat ws) ≡ at + length (concat (w ∷ ws)) =
    omega (arith, length-append w (concat ws)) in
    rw h.0 (spans_after ws vs (at + length w) h.1 ∙ ap (λ i. token_spans i vs) e)

-- the units of a gap are its bytes
gap_joined : (text : List ℕ) (n : ℕ) (g : IsGap text n) → concat g.units ≡ take n text
gap_joined text n g = append_cancel_right (concat g.units) (take n text) (drop n text)
    (sym (scans_concat g.units text (drop n text) g.scans) ∙ sym (take-append-drop n text))

-- what follows a gap begins with a token or is empty
gap_begins : (text : List ℕ) (n : ℕ) (vs : List (List ℕ)) → IsGap text n
    → SplitsInto (drop n text) vs → (gaps vs).first ≡ []
unfolding gaps
gap_begins text n [] g s = refl
gap_begins text n (v ∷ vs) g s = rw (g.token v s.0) refl

-- for a text that splits, the units after its first gap
pub record RightAfter (text : List ℕ) (n : ℕ) (us : List (List ℕ)) : Type 0 where
  pub units : List (List ℕ)
  pub split : SplitsInto (drop n text) units
  pub begins : (gaps units).first ≡ []
  pub first : (gaps us).first ≡ take n text
  pub tokens : (gaps us).tokens ≡ (gaps units).tokens
  pub places : (at : ℕ) → token_spans at us ≡ token_spans (at + n) units

after_units : (text : List ℕ) (n : ℕ) (us vs : List (List ℕ)) (g : IsGap text n)
    → us ≡ g.units ++ vs → SplitsInto (drop n text) vs → RightAfter text n us
after_units text n us vs g e s =
    let all : gaps us
    ≡ record { first = concat g.units ++ (gaps vs).first; tokens = (gaps vs).tokens } =
    ap gaps e ∙ gaps_after g.units vs g.apart in
    let begins = gap_begins text n vs g s in
    let bytes = gap_joined text n g in
    let size : length (concat g.units) ≡ n = ap length bytes ∙ length-take-le n text g.inside in
    record {
      units = vs;
      split = s;
      begins = begins;
      first = ap (λ x. x.first) all ∙ ap (λ x. concat g.units ++ x) begins
          ∙ append-nil (concat g.units) ∙ bytes;
      tokens = ap (λ x. x.tokens) all;
      places = λ at. ap (token_spans at) e ∙ spans_after g.units vs at g.apart
          ∙ ap (λ i. token_spans (at + i) vs) size;
    }

pub after_gap : (text : List ℕ) (n : ℕ) (us : List (List ℕ)) → IsGap text n → SplitsInto text us
    → RightAfter text n us
after_gap text n us g s =
    let more = split_after g.units us text (drop n text) g.scans s in
    after_units text n us more.0 g more.1 more.2

-- the units so far are the gap
pub gap_end : (us : List (List ℕ)) (text rest : List ℕ) (at : ℕ) → EndsAt us text rest at
    → NoTokens us → ((u : List ℕ) → IsFirstUnit rest u → is_token u ≡ true) → IsGap text at
gap_end us text rest at e n t =
    record { inside = e.inside; units = us; scans = e.scans; apart = n; token = rw e.left at t }

-- the unit at the start is a token
pub begins_token : (text t : List ℕ) → IsFirstUnit text t → IsToken t → (u : List ℕ)
    → IsFirstUnit text u → is_token u ≡ true
begins_token text t f k u g = rw (longest_unique IsUnit text u t g f) k

-- no unit begins after the units so far
pub no_next : (us : List (List ℕ)) (text rest : List ℕ) (at : ℕ) → EndsAt us text rest at
    → BeginsNoUnit rest → BeginsNoToken (drop at text)
no_next us text rest at e none =
    let h : BeginsNoToken rest = λ u f. absurd (none u f.kind f.begins) in rw e.left at h

-- or a token does
pub next_token : (us : List (List ℕ)) (text rest u : List ℕ) (at : ℕ) → IsUtf8 text
    → EndsAt us text rest at → IsFirstUnit rest u → IsToken u
    → BeginsToken (drop at text) (length u)
next_token us text rest u at utf8 e f k =
    let g : IsFirstUnit (drop at text) u = rw e.left at f in (
      rw (begins_take (drop at text) u g.begins) at k,
      unit_boundary (drop at text) u (scan_utf8 us text (drop at text) utf8 e.scans) g,
      g.longest,
    )

-- the next token is the unit there
first_of : (text : List ℕ) (n : ℕ) → BeginsToken text n → IsFirstUnit text (take n text)
first_of text n b = record {
  kind = token b.0;
  begins = front_begins text n;
  longest = λ v k g. rw (length-take-le n text b.1.0) (b.2 v k g);
}

pub token_length : (text : List ℕ) (n : ℕ) → BeginsToken text n → 0 < n
token_length text n b =
    omega (arith, unit_nonempty (take n text) (token b.0), length-take-le n text b.1.0)

pub found_first : (text : List ℕ) (len n : ℕ) (t : FirstToken) (following gap : List ℕ)
    → BeginsToken text len → t.text.now ≡ take len text → following ≡ drop len text
    → IsGap following n → gap ≡ take n following → t.rest.text.now ≡ drop n following
    → t.trailing.now ≡ before_newline gap → t.leading.now ≡ after_newline gap → IsFirstToken text t
found_first text len n t following gap k e b g m r x y =
    let size : length t.text.now ≡ len = ap length e ∙ length-take-le len text k.1.0 in
    let same : following ≡ drop (length t.text.now) text = b ∙ ap (λ i. drop i text) (sym size) in
    record {
      unit = rw e (first_of text len k);
      token = rw e k.0;
      n = n;
      gap = rw same at g;
      trailing = x ∙ ap before_newline (m ∙ ap (take n) same);
      leading = y ∙ ap after_newline (m ∙ ap (take n) same);
      rest = r ∙ ap (drop n) same;
    }
