-- The gaps of a text are the texts between the places of its tokens.
use Rattle.std.proofs.Common.{◌≡◌, ◌≤◌, ◌-◌, ◌+◌, Bool, true, false, List, [], ◌∷◌, ◌++◌, ℕ, length, drop, take, map, refl, sym, ap, ◌∙◌, arith}
use Rattle.std.proofs.Math.Seq.{take-append-add}
use Rattle.std.proofs.lemmas.List.{drop-drop, length-drop}
use Rattle.std.proofs.lemmas.Str.{IsUtf8-drop, IsCharBoundary-from_drop, IsCharBoundary-end}
use Rattle.std.specs.Prelude.{slice_range, ⊤}
use Rattle.std.specs.List.{AllByRecursion, filter}
use Rattle.std.specs.Str.{IsUtf8, IsCharBoundary, trim}
use Rattle.cedar_tokens.specs.Units.{is_token, IsToken}
use Rattle.cedar_tokens.specs.Split.{Scans, SplitsInto}
use Rattle.cedar_tokens.specs.Listing.{IsListing, listing, gaps, decorate, comments}
use Rattle.cedar_tokens.specs.Places.{token_spans, AreTokenSpans}
use Rattle.cedar_tokens.specs.Tokens.{decorated, token_text, leading_lines, trailing_text, IsProper, StandsIn}
use Rattle.cedar_tokens.specs.Inside.Newlines.{before_newline, after_newline}
use Rattle.cedar_tokens.specs.Inside.Between.{first_start, text_at, text_before, texts_between}
use Rattle.cedar_tokens.specs.declared.token.Span.{Span}
use Rattle.cedar_tokens.specs.declared.token.WrappedToken.{WrappedToken}
use Rattle.cedar_tokens.proofs.Prefixes.{begins_fits, begins_take}
use Rattle.cedar_tokens.proofs.FirstUnit.{unit_boundary}
use Rattle.cedar_tokens.proofs.UnitsSoFar.{after_unit}
use Rattle.cedar_tokens.proofs.Gaps.{NoTokens}
use Rattle.cedar_tokens.proofs.Collecting.{spans_of, list_more, places_more, list_all, places_all}
use Rattle.cedar_tokens.proofs.Lists.{All-append}

-- the place of a token: it can be cut out, and the next one begins no earlier than it ends
pub record IsPlace (text : List ℕ) (s : Span) (next : ℕ) : Type 0 where
  pub start : IsCharBoundary text s.start
  pub end : IsCharBoundary text s.end
  pub order : s.end ≤ next
  pub token : IsToken (text_at text s)

abbrev pub ArePlaces : List ℕ → List Span → Type 0
ArePlaces text [] = ⊤
ArePlaces text (s ∷ ss) = IsPlace text s (first_start (length text) ss) × ArePlaces text ss

-- the units from the byte at on, by the places of their tokens
pub record Between (text : List ℕ) (at : ℕ) (us : List (List ℕ)) : Type 0 where
  pub after : at ≤ first_start (length text) (token_spans at us)
  pub first : (gaps us).first ≡ text_before text at (token_spans at us)
  pub tokens : (gaps us).tokens ≡ texts_between text (token_spans at us)
  pub texts : filter is_token us ≡ map (text_at text) (token_spans at us)
  pub places : ArePlaces text (token_spans at us)

none_between : (text : List ℕ) (n : ℕ) → slice_range text n n ≡ []
none_between text n = let e : n - n ≡ 0 = omega arith in rw e refl

-- the text from a unit on is the unit and the text after it
unit_before : (text u rest : List ℕ) (at n : ℕ) → drop at text ≡ u ++ rest
    → rest ≡ drop (at + length u) text → at + length u ≤ n
    → slice_range text at n ≡ u ++ slice_range text (at + length u) n
unit_before text u rest at n e f l =
    let size : n - at ≡ length u + (n - (at + length u)) = omega (arith, l) in
    ap (take (n - at)) e ∙ ap (λ i. take i (u ++ rest)) size
    ∙ take-append-add u rest (n - (at + length u)) ∙ ap (λ v. u ++ take (n - (at + length u)) v) f

token_at : (text u : List ℕ) (at : ℕ) → u ≡ take (length u) (drop at text)
    → text_at text (record { start = at; end = at + length u }) ≡ u
token_at text u at e = let i : at + length u - at ≡ length u = omega arith in rw i (sym e)

token_between : (text u : List ℕ) (at : ℕ) (us : List (List ℕ)) → IsCharBoundary text at
    → IsCharBoundary text (at + length u) → u ≡ take (length u) (drop at text) → is_token u ≡ true
    → Between text (at + length u) us → Between text at (u ∷ us)
unfolding gaps token_spans
token_between text u at us i j t e r =
    let here : text_at text (record { start = at; end = at + length u }) ≡ u =
    token_at text u at t in
    record {
      after = rw e (omega arith);
      first = rw e (sym (none_between text at));
      tokens = rw (e, here, r.first, r.tokens) refl;
      texts = rw (e, here, r.texts) refl;
      places = rw e (record { start = i; end = j; order = r.after; token = rw here e }, r.places);
    }

other_between : (text u : List ℕ) (at : ℕ) (us : List (List ℕ))
    → drop at text ≡ u ++ drop (at + length u) text → is_token u ≡ false
    → Between text (at + length u) us → Between text at (u ∷ us)
unfolding gaps token_spans
other_between text u at us t e r = record {
  after = rw e (omega (arith, r.after));
  first = rw (e, r.first) (sym (unit_before text u (drop (at + length u) text) at
      (first_start (length text) (token_spans (at + length u) us)) t refl r.after));
  tokens = rw (e, r.tokens) refl;
  texts = rw (e, r.texts) refl;
  places = rw e r.places;
}

pub between : (us : List (List ℕ)) (text : List ℕ) (at : ℕ) → at ≤ length text
    → IsUtf8 (drop at text) → Scans us (drop at text) [] → Between text at us
unfolding gaps token_spans
between [] text at l utf8 s =
    let e : length text - at ≡ 0 = omega (arith, ap length s, length-drop at text) in
    record { after = l; first = rw e refl; tokens = refl; texts = refl; places = tt }
between (u ∷ us) text at l utf8 s =
    let after : drop (length u) (drop at text) ≡ drop (at + length u) text =
    drop-drop (length u) at text in
    let inside : at + length u ≤ length text =
    omega (arith, begins_fits (drop at text) u s.0.begins, length-drop at text, l) in
    let rest : IsUtf8 (drop (at + length u) text) = rw after at
    (IsUtf8-drop (drop at text) (length u) utf8 (unit_boundary (drop at text) u utf8 s.0)) in
    go after inside rest (is_token u) refl
    (between us text (at + length u) inside rest (rw after at s.1))
  where
    go : drop (length u) (drop at text) ≡ drop (at + length u) text → at + length u ≤ length text
        → IsUtf8 (drop (at + length u) text) → (b : Bool) → is_token u ≡ b
        → Between text (at + length u) us → Between text at (u ∷ us)
    go after inside rest true e r =
        token_between text u at us (IsCharBoundary-from_drop text at l utf8)
        (IsCharBoundary-from_drop text (at + length u) inside rest)
        (begins_take (drop at text) u s.0.begins) e r
    go after inside rest false e r =
        other_between text u at us (after_unit (drop at text) u s.0 ∙ ap (λ v. u ++ v) after) e r

-- units that aren't tokens have no places
no_spans : (us : List (List ℕ)) (at : ℕ) → NoTokens us → token_spans at us ≡ []
unfolding token_spans
no_spans [] at h = refl
no_spans (u ∷ us) at h = rw h.0 (no_spans us (at + length u) h.1)

pub spans_before : (us vs : List (List ℕ)) (at : ℕ) → NoTokens vs
    → token_spans at (us ++ vs) ≡ token_spans at us
unfolding token_spans
spans_before [] vs at h = no_spans vs at h
spans_before (u ∷ us) vs at h = rw (spans_before us vs (at + length u) h) refl

pub first_boundary : (text : List ℕ) (ss : List Span) → ArePlaces text ss
    → IsCharBoundary text (first_start (length text) ss)
first_boundary text [] h = IsCharBoundary-end text
first_boundary text (s ∷ ss) h = h.0.start

-- the tokens are the first ones of the text, the text leading precedes the next one or closes the
-- text, the others are at these places
pub record Commented (text : List ℕ) (tokens : List WrappedToken) (leading : List ℕ)
    (spans : List Span) : Type 0 where
  pub list : IsListing text (record {
    tokens = map decorated tokens ++ (decorate leading (texts_between text spans)).tokens;
    closing = (decorate leading (texts_between text spans)).closing;
  })
  pub all : AreTokenSpans text (spans_of tokens ++ spans)
  pub stand : AllByRecursion (StandsIn text) tokens
  pub places : ArePlaces text spans

pub commented_none : (text : List ℕ) (us : List (List ℕ)) (tokens : List WrappedToken)
    (leading : List ℕ) (spans : List Span) → SplitsInto text us → Between text 0 us
    → spans ≡ token_spans 0 us → tokens ≡ [] → leading ≡ text_before text 0 spans
    → Commented text tokens leading spans
unfolding listing
commented_none text us tokens leading spans s b e n f = rw (n, f, e) (record {
  list = record { units = us; split = s; value = rw (b.first, b.tokens) refl };
  all = record { units = us; split = s; value = refl };
  stand = tt;
  places = b.places;
})

pub commented_more : (text : List ℕ) (tokens more : List WrappedToken) (leading gap ahead : List ℕ)
    (s : Span) (ss : List Span) (w : WrappedToken) → Commented text tokens leading (s ∷ ss)
    → w.span ≡ s → token_text w.token ≡ text_at text s → IsProper w.token
    → leading_lines w.comment ≡ comments leading
    → trailing_text w.comment ≡ trim (before_newline gap) → ahead ≡ after_newline gap
    → gap ≡ text_before text s.end ss → more ≡ tokens ++ w ∷ [] → Commented text more ahead ss
unfolding decorate
commented_more text tokens more leading gap ahead s ss w c place t p x y a g m =
    let others = decorate ahead (texts_between text ss) in
    let gap_text : before_newline (text_before text s.end ss) ≡ before_newline gap =
    ap before_newline (sym g) in
    let first : decorate leading (texts_between text (s ∷ ss))
    ≡ record { tokens = decorated w ∷ others.tokens; closing = others.closing } =
    rw (t, x, y, a, g) refl in
    rw m (record {
      list = list_more text tokens w
          (decorate leading (texts_between text (s ∷ ss))) others first c.list;
      all = places_more text tokens w (s ∷ ss) ss (ap (λ v. v ∷ ss) (sym place)) c.all;
      stand = All-append (StandsIn text) tokens (w ∷ []) c.stand (
        record {
          within = rw place c.places.0.end.0;
          slice = rw place t;
          proper = p;
        },
        tt,
      );
      places = c.places.1;
    })

pub commented_list : (text : List ℕ) (tokens : List WrappedToken) (leading : List ℕ)
    (spans : List Span) (closing : List (List ℕ)) → Commented text tokens leading spans → spans ≡ []
    → closing ≡ comments leading
    → IsListing text (record { tokens = map decorated tokens; closing = closing })
unfolding decorate
commented_list text tokens leading spans closing c e f =
    let h = rw e at c.list in
    list_all text tokens (decorate leading []) closing refl f h

pub commented_spans : (text : List ℕ) (tokens : List WrappedToken) (leading : List ℕ)
    (spans : List Span) → Commented text tokens leading spans → spans ≡ []
    → AreTokenSpans text (spans_of tokens)
commented_spans text tokens leading spans c e = places_all text tokens spans e c.all
