-- What a reader of tokens has left, token by token.
use Rattle.std.proofs.Common.{◌≡◌, ◌≤◌, ◌-◌, ◌+◌, false, List, [], ◌∷◌, ◌++◌, ℕ, length, drop, take, refl, ap, ◌∙◌, arith}
use Rattle.std.proofs.lemmas.List.{length-append, length-drop}
use Rattle.std.specs.Str.{trim}
use Rattle.cedar_tokens.specs.Units.{is_token, IsUnit}
use Rattle.cedar_tokens.specs.Split.{SplitsInto}
use Rattle.cedar_tokens.specs.Listing.{Listing, IsListing, gaps, decorate, listing, comments}
use Rattle.cedar_tokens.specs.Places.{token_spans, AreTokenSpans}
use Rattle.cedar_tokens.specs.Inside.Gaps.{IsGap, BeginsNoToken}
use Rattle.cedar_tokens.specs.Inside.FirstTokens.{IsFirstToken}
use Rattle.cedar_tokens.specs.TokenReaders.{IsAhead}
use Rattle.cedar_tokens.specs.declared.token.Span.{Span}
use Rattle.cedar_tokens.specs.declared.readers.FirstToken.{FirstToken}
use Rattle.cedar_tokens.proofs.Prefixes.{longest_unique, begins_fits}
use Rattle.cedar_tokens.proofs.FirstUnit.{unit_nonempty}
use Rattle.cedar_tokens.proofs.Scanning.{split_unique}
use Rattle.cedar_tokens.proofs.Gaps.{after_gap}

-- what is ahead after the text's first gap is the whole list
pub ahead_start : (text : List ℕ) (n : ℕ) (l : Listing) (spans : List Span) → IsGap text n
    → IsListing text l → AreTokenSpans text spans → IsAhead n (take n text) (drop n text) l spans
unfolding listing
ahead_start text n l spans g h k =
    let same : k.units ≡ h.units = split_unique text k.units h.units k.split h.split in
    let b = after_gap text n h.units g h.split in
    let e : 0 + n ≡ n = omega arith in
    record {
      units = b.units;
      split = b.split;
      begins = b.begins;
      list = h.value ∙ rw (b.first, b.tokens) refl;
      places = k.value ∙ ap (token_spans 0) same ∙ b.places 0 ∙ ap (λ i. token_spans i b.units) e;
    }

-- where no token begins, none is left
none_left : (ahead : List ℕ) (units : List (List ℕ)) → BeginsNoToken ahead → SplitsInto ahead units
    → (gaps units).first ≡ [] → units ≡ []
unfolding gaps
none_left ahead [] h s b = refl
none_left ahead (u ∷ us) h s b =
    let e : is_token u ≡ false = h u s.0 in
    let f : u ++ (gaps us).first ≡ [] = rw e at b in
    absurd (omega (arith, unit_nonempty u s.0.kind, ap length f, length-append u (gaps us).first))

pub ahead_none : (at : ℕ) (leading ahead : List ℕ) (l : Listing) (spans : List Span)
    → BeginsNoToken ahead → IsAhead at leading ahead l spans
    → (l ≡ record { tokens = []; closing = comments leading }) × (spans ≡ [])
unfolding gaps decorate token_spans
ahead_none at leading ahead l spans h a =
    let none = none_left ahead a.units h a.split a.begins in (
      a.list ∙ ap (λ us. decorate leading (gaps us).tokens) none,
      a.places ∙ ap (token_spans at) none,
    )

-- the text ahead without its first token
pub record Step (at : ℕ) (leading ahead : List ℕ) (t : FirstToken) (l : Listing)
    (spans : List Span) : Type 0 where
  pub others : Listing
  pub places : List Span
  pub first : l ≡ record {
    tokens =
        record { text = t.text.now; leading = comments leading; trailing = trim t.trailing.now }
        ∷ others.tokens;
    closing = others.closing;
  }
  pub place : spans ≡ record { start = at; end = at + length t.text.now } ∷ places
  pub left : (j : ℕ) → j + length t.rest.text.now ≡ at + length ahead
      → IsAhead j t.leading.now t.rest.text.now others places

step_units : (at : ℕ) (leading ahead : List ℕ) (t : FirstToken) (us : List (List ℕ))
    → IsFirstToken ahead t → SplitsInto ahead (t.text.now ∷ us) → Step at leading ahead t
    (decorate leading (gaps (t.text.now ∷ us)).tokens) (token_spans at (t.text.now ∷ us))
unfolding gaps decorate token_spans
step_units at leading ahead t us f s =
    let following = drop (length t.text.now) ahead in
    let b = after_gap following f.n us f.gap s.1 in
    let fits = begins_fits ahead t.text.now f.unit.begins in
    let size : length t.rest.text.now ≡ length ahead - length t.text.now - f.n = ap length f.rest
    ∙ length-drop f.n following ∙ ap (λ i. i - f.n) (length-drop (length t.text.now) ahead) in
    let room : f.n ≤ length ahead - length t.text.now =
    rw (length-drop (length t.text.now) ahead) at f.gap.inside in
    record {
      others = decorate t.leading.now (gaps b.units).tokens;
      places = token_spans (at + length t.text.now + f.n) b.units;
      first = rw (f.token, b.first, b.tokens, f.trailing, f.leading) refl;
      place = rw f.token (ap (λ x. record { start = at; end = at + length t.text.now } ∷ x)
          (b.places (at + length t.text.now)));
      left = λ j e. record {
        units = b.units;
        split = rw f.rest b.split;
        begins = b.begins;
        list = refl;
        places =
            let i : at + length t.text.now + f.n ≡ j = omega (arith, e, size, room, fits) in
            ap (λ x. token_spans x b.units) i;
      };
    }

-- the units ahead begin with the first token
step_of : (at : ℕ) (leading ahead : List ℕ) (t : FirstToken) (units : List (List ℕ))
    → IsFirstToken ahead t → SplitsInto ahead units
    → Step at leading ahead t (decorate leading (gaps units).tokens) (token_spans at units)
step_of at leading ahead t [] f s = absurd (omega (
  arith,
  unit_nonempty t.text.now f.unit.kind,
  begins_fits [] t.text.now (rw s at f.unit.begins),
))
step_of at leading ahead t (u ∷ us) f s =
    let same : u ≡ t.text.now = longest_unique IsUnit ahead u t.text.now s.0 f.unit in
    let go : (v : List ℕ) → v ≡ t.text.now → SplitsInto ahead (v ∷ us)
    → Step at leading ahead t (decorate leading (gaps (v ∷ us)).tokens) (token_spans at (v ∷ us)) =
    λ v e k. rw e (step_units at leading ahead t us f (rw e at k)) in
    go u same s

pub ahead_next : (at : ℕ) (leading ahead : List ℕ) (t : FirstToken) (l : Listing)
    (spans : List Span) → IsFirstToken ahead t → IsAhead at leading ahead l spans
    → Step at leading ahead t l spans
ahead_next at leading ahead t l spans f a =
    let s = step_of at leading ahead t a.units f a.split in
    record {
      others = s.others;
      places = s.places;
      first = a.list ∙ s.first;
      place = a.places ∙ s.place;
      left = s.left;
    }
