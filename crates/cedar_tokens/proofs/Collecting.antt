-- The tokens that a reader has returned, and what it has left.
use Rattle.std.proofs.Common.{◌≡◌, ◌≤◌, ◌<◌, ◌+◌, Bool, true, false, List, [], ◌∷◌, ◌++◌, ℕ, length, map, refl, ap, ◌∙◌, arith}
use Rattle.std.proofs.lemmas.List.{append_assoc, append-nil, map-append}
use Rattle.std.specs.List.{AllByRecursion}
use Rattle.cedar_tokens.specs.Units.{is_token}
use Rattle.cedar_tokens.specs.Split.{Scans, Splits}
use Rattle.cedar_tokens.specs.Listing.{Listing, IsListing, listing}
use Rattle.cedar_tokens.specs.Places.{token_spans, AreTokenSpans, InOrderFrom}
use Rattle.cedar_tokens.specs.Tokens.{decorated, StandsIn}
use Rattle.cedar_tokens.specs.TokenReaders.{HasLeft, GivesFirst}
use Rattle.cedar_tokens.specs.declared.token.Span.{Span}
use Rattle.cedar_tokens.specs.declared.token.WrappedToken.{WrappedToken}
use Rattle.cedar_tokens.specs.declared.readers.TokenReader.{TokenReader}
use Rattle.cedar_tokens.proofs.FirstUnit.{unit_nonempty}
use Rattle.cedar_tokens.proofs.Lists.{All-append}

abbrev pub spans_of : List WrappedToken → List Span
spans_of ws = map (λ w. w.span) ws

-- the tokens are the first ones of the text, and the others are left to the reader
pub record Collected (text : List ℕ) (tokens : List WrappedToken) (r : TokenReader) : Type 0 where
  pub rest : Listing
  pub spans : List Span
  pub has : HasLeft text r rest spans
  pub list : IsListing text
      (record { tokens = map decorated tokens ++ rest.tokens; closing = rest.closing })
  pub places : AreTokenSpans text (spans_of tokens ++ spans)
  pub stand : AllByRecursion (StandsIn text) tokens

pub collected_none : (text : List ℕ) (tokens : List WrappedToken) (r : TokenReader) → tokens ≡ []
    → Splits text → ((l : Listing) (spans : List Span) → IsListing text l → AreTokenSpans text spans
    → HasLeft text r l spans) → Collected text tokens r
collected_none text tokens r e s h =
    let l : IsListing text (listing s.0) = record { units = s.0; split = s.1; value = refl } in
    let p : AreTokenSpans text (token_spans 0 s.0) =
    record { units = s.0; split = s.1; value = refl } in
    rw e (record {
      rest = listing s.0;
      spans = token_spans 0 s.0;
      has = h (listing s.0) (token_spans 0 s.0) l p;
      list = l;
      places = p;
      stand = tt;
    })

pub list_more : (text : List ℕ) (tokens : List WrappedToken) (w : WrappedToken) (l others : Listing)
    → l ≡ record { tokens = decorated w ∷ others.tokens; closing = others.closing }
    → IsListing text (record { tokens = map decorated tokens ++ l.tokens; closing = l.closing })
    → IsListing text (record {
      tokens = map decorated (tokens ++ w ∷ []) ++ others.tokens;
      closing = others.closing;
    })
list_more text tokens w l others e h =
    let front : map decorated tokens ++ decorated w ∷ others.tokens
    ≡ map decorated (tokens ++ w ∷ []) ++ others.tokens = rw (map-append, append_assoc) refl in
    rw front at (rw e at h)

pub places_more : (text : List ℕ) (tokens : List WrappedToken) (w : WrappedToken)
    (spans places : List Span) → spans ≡ w.span ∷ places
    → AreTokenSpans text (spans_of tokens ++ spans)
    → AreTokenSpans text (spans_of (tokens ++ w ∷ []) ++ places)
places_more text tokens w spans places e h =
    let front : spans_of tokens ++ w.span ∷ places ≡ spans_of (tokens ++ w ∷ []) ++ places =
    rw (map-append, append_assoc) refl in
    rw front at (rw e at h)

pub collected_more : (text : List ℕ) (tokens more : List WrappedToken) (r after : TokenReader)
    (w : WrappedToken) → Collected text tokens r
    → ((l : Listing) (spans : List Span) → HasLeft text r l spans → GivesFirst text w after l spans)
    → more ≡ tokens ++ w ∷ [] → Collected text more after
collected_more text tokens more r after w c f e =
    let g = f c.rest c.spans c.has in
    rw e (record {
      rest = g.others;
      spans = g.places;
      has = g.left;
      list = list_more text tokens w c.rest g.others g.first c.list;
      places = places_more text tokens w c.spans g.places g.place c.places;
      stand = All-append (StandsIn text) tokens (w ∷ []) c.stand (g.stands, tt);
    })

-- where no token is left
pub list_all : (text : List ℕ) (tokens : List WrappedToken) (l : Listing) (closing : List (List ℕ))
    → l.tokens ≡ [] → closing ≡ l.closing
    → IsListing text (record { tokens = map decorated tokens ++ l.tokens; closing = l.closing })
    → IsListing text (record { tokens = map decorated tokens; closing = closing })
list_all text tokens l closing e k h =
    let front : map decorated tokens ++ l.tokens ≡ map decorated tokens =
    ap (λ v. map decorated tokens ++ v) e ∙ append-nil (map decorated tokens) in
    rw k (rw front at h)

pub collected_list : (text : List ℕ) (tokens : List WrappedToken) (r : TokenReader)
    (closing : List (List ℕ)) → (c : Collected text tokens r)
    → ((l : Listing) (spans : List Span) → HasLeft text r l spans → (l.tokens ≡ []) × (spans ≡ []))
    → ((l : Listing) (spans : List Span) → HasLeft text r l spans → closing ≡ l.closing)
    → IsListing text (record { tokens = map decorated tokens; closing = closing })
collected_list text tokens r closing c none last = list_all text tokens c.rest closing
    (none c.rest c.spans c.has).0 (last c.rest c.spans c.has) c.list

pub places_all : (text : List ℕ) (tokens : List WrappedToken) (spans : List Span) → spans ≡ []
    → AreTokenSpans text (spans_of tokens ++ spans) → AreTokenSpans text (spans_of tokens)
places_all text tokens spans e h =
    let front : spans_of tokens ++ spans ≡ spans_of tokens =
    ap (λ v. spans_of tokens ++ v) e ∙ append-nil (spans_of tokens) in
    rw front at h

pub collected_spans : (text : List ℕ) (tokens : List WrappedToken) (r : TokenReader)
    → (c : Collected text tokens r)
    → ((l : Listing) (spans : List Span) → HasLeft text r l spans → (l.tokens ≡ []) × (spans ≡ []))
    → AreTokenSpans text (spans_of tokens)
collected_spans text tokens r c none =
    places_all text tokens c.spans (none c.rest c.spans c.has).1 c.places

-- the places of the tokens among units are in order
places_in_order : (from at : ℕ) (us : List (List ℕ)) (text rest : List ℕ) → Scans us text rest
    → from ≤ at → InOrderFrom from (token_spans at us)
unfolding token_spans
places_in_order from at [] text rest s l = tt
places_in_order from at (u ∷ us) text rest s l = go (is_token u) refl
    (places_in_order (at + length u) (at + length u) us _ rest s.1 (omega arith))
    (places_in_order from (at + length u) us _ rest s.1 (omega (arith, l)))
  where
    size : 0 < length u
    size = unit_nonempty u s.0.kind

    go : (b : Bool) → is_token u ≡ b → InOrderFrom (at + length u) (token_spans (at + length u) us)
        → InOrderFrom from (token_spans (at + length u) us)
        → InOrderFrom from (token_spans at (u ∷ us))
    go true e h k = rw e (l, omega (arith, size), h)
    go false e h k = rw e k

pub spans_in_order : (text : List ℕ) (spans : List Span) → AreTokenSpans text spans
    → InOrderFrom 0 spans
spans_in_order text spans h = rw h.value (places_in_order 0 0 h.units text [] h.split (omega arith))
