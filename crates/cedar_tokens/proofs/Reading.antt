-- A reader of tokens, from its first token to its last.
use Rattle.std.proofs.Common.{◌≡◌, ◌≤◌, ◌-◌, ◌+◌, List, [], ◌∷◌, ℕ, length, drop, take, refl, sym, ap, ◌∙◌, arith}
use Rattle.std.proofs.lemmas.List.{drop-drop, length-drop}
use Rattle.std.specs.Prelude.{slice_range}
use Rattle.std.specs.Str.{trim}
use Rattle.cedar_tokens.specs.Listing.{Listing, IsListing, comments}
use Rattle.cedar_tokens.specs.Places.{AreTokenSpans}
use Rattle.cedar_tokens.specs.Tokens.{token_text, leading_lines, trailing_text, IsProper}
use Rattle.cedar_tokens.specs.Inside.Gaps.{IsGap, BeginsNoToken}
use Rattle.cedar_tokens.specs.Inside.FirstTokens.{IsFirstToken}
use Rattle.cedar_tokens.specs.TokenReaders.{IsAhead, HasLeft, GivesFirst}
use Rattle.cedar_tokens.specs.declared.token.Span.{Span}
use Rattle.cedar_tokens.specs.declared.token.WrappedToken.{WrappedToken}
use Rattle.cedar_tokens.specs.declared.readers.FirstToken.{FirstToken}
use Rattle.cedar_tokens.specs.declared.readers.TokenReader.{TokenReader}
use Rattle.cedar_tokens.proofs.Prefixes.{begins_fits, begins_take}
use Rattle.cedar_tokens.proofs.FirstTokens.{ahead_start, ahead_none, ahead_next}

pub has_all : (text : List ℕ) (n : ℕ) (r : TokenReader) → r.text.now ≡ text
    → r.leading.now ≡ take n text → r.ahead.text.now ≡ drop n text → IsGap text n → (l : Listing)
    (spans : List Span) → IsListing text l → AreTokenSpans text spans → HasLeft text r l spans
has_all text n r s l a g list spans h k =
    let size : length text - length r.ahead.text.now ≡ n =
    omega (arith, g.inside, ap length a, length-drop n text) in
    record {
      source = s;
      ahead = rw size a;
      left = rw (size, l, a) (ahead_start text n list spans g h k);
    }

pub none_has : (text : List ℕ) (r : TokenReader) (l : Listing) (spans : List Span)
    → BeginsNoToken r.ahead.text.now → HasLeft text r l spans → (l.tokens ≡ []) × (spans ≡ [])
none_has text r l spans n h =
    let none = ahead_none _ r.leading.now r.ahead.text.now l spans n h.left in
    (ap (λ v. v.tokens) none.0, none.1)

-- a part of a text at the end of another
slice_at : (text ahead : List ℕ) (at n : ℕ) → ahead ≡ drop at text
    → slice_range text at (at + n) ≡ take n ahead
slice_at text ahead at n e = let i : at + n - at ≡ n = omega arith in rw (i, e) refl

rest_at : (text ahead : List ℕ) (at i j : ℕ) → ahead ≡ drop at text
    → drop j (drop i ahead) ≡ drop (at + i + j) text
rest_at text ahead at i j e = rw e (ap (drop j) (drop-drop i at text) ∙ drop-drop j (at + i) text)

pub gives_first : (text : List ℕ) (old after : TokenReader) (t : FirstToken) (w : WrappedToken)
    (l : Listing) (spans : List Span) → IsFirstToken old.ahead.text.now t → HasLeft text old l spans
    → after.text.now ≡ old.text.now → after.leading.now ≡ t.leading.now
    → after.ahead.text.now ≡ t.rest.text.now
    → token_text w.token ≡ t.text.now → IsProper w.token
    → leading_lines w.comment ≡ comments old.leading.now
    → trailing_text w.comment ≡ trim t.trailing.now
    → w.span ≡ record {
      start = length old.text.now - length old.ahead.text.now;
      end = length old.text.now - length old.ahead.text.now + length t.text.now;
    }
    → GivesFirst text w after l spans
gives_first text old after t w l spans f h s b a x p y z place =
    let at : ℕ = length text - length old.ahead.text.now in
    let following = drop (length t.text.now) old.ahead.text.now in
    let step = ahead_next at old.leading.now old.ahead.text.now t l spans f h.left in
    let within : length old.ahead.text.now ≤ length text =
    omega (arith, old.within, ap length h.source) in
    let fits = begins_fits old.ahead.text.now t.text.now f.unit.begins in
    let room : f.n ≤ length old.ahead.text.now - length t.text.now =
    rw (length-drop (length t.text.now) old.ahead.text.now) at f.gap.inside in
    let size : length t.rest.text.now ≡ length old.ahead.text.now - length t.text.now - f.n =
    ap length f.rest ∙ length-drop f.n following
    ∙ ap (λ i. i - f.n) (length-drop (length t.text.now) old.ahead.text.now) in
    let next : at + length t.text.now + f.n ≡ length text - length t.rest.text.now =
    omega (arith, within, fits, room, size) in
    let here : w.span ≡ record { start = at; end = at + length t.text.now } =
    place ∙ ap (λ v. record {
      start = length v - length old.ahead.text.now;
      end = length v - length old.ahead.text.now + length t.text.now;
    }) h.source in
    let end : w.span.end ≡ at + length t.text.now = ap (λ v. v.end) here in
    let slice : t.text.now ≡ slice_range text at (at + length t.text.now) =
    begins_take old.ahead.text.now t.text.now f.unit.begins
    ∙ sym (slice_at text old.ahead.text.now at (length t.text.now) h.ahead) in
    let sum : (length text - length t.rest.text.now) + length t.rest.text.now
    ≡ at + length old.ahead.text.now = omega (arith, within, fits, room, size) in
    record {
      others = step.others;
      places = step.places;
      first = step.first ∙ rw (x, y, z) refl;
      place = step.place ∙ ap (λ v. v ∷ step.places) (sym here);
      stands = record {
        within = omega (arith, end, within, fits);
        slice = x ∙ slice ∙ ap (λ v. slice_range text v.start v.end) (sym here);
        proper = p;
      };
      left = record {
        source = s ∙ h.source;
        ahead = a ∙ f.rest ∙ rest_at text old.ahead.text.now at (length t.text.now) f.n h.ahead
            ∙ ap (λ i. drop i text) (next ∙ ap (λ v. length text - length v) (sym a));
        left = rw (a, b) (step.left (length text - length t.rest.text.now) sum);
      };
    }

-- some text ahead, preceded by `leading`, ends with these closing comments
pub record Closes (leading ahead : List ℕ) (closing : List (List ℕ)) : Type 0 where
  pub at : ℕ
  pub rest : Listing
  pub spans : List Span
  pub left : IsAhead at leading ahead rest spans
  pub same : rest.closing ≡ closing

pub closes_next : (leading ahead : List ℕ) (t : FirstToken) (closing : List (List ℕ))
    → IsFirstToken ahead t → length t.rest.text.now ≤ length ahead → Closes leading ahead closing
    → Closes t.leading.now t.rest.text.now closing
closes_next leading ahead t closing f m h =
    let step = ahead_next h.at leading ahead t h.rest h.spans f h.left in
    record {
      at = h.at + length ahead - length t.rest.text.now;
      rest = step.others;
      spans = step.places;
      left = step.left (h.at + length ahead - length t.rest.text.now) (omega (arith, m));
      same = sym (ap (λ v. v.closing) step.first) ∙ h.same;
    }

pub closes_end : (leading ahead : List ℕ) (closing : List (List ℕ)) → BeginsNoToken ahead
    → Closes leading ahead closing → comments leading ≡ closing
closes_end leading ahead closing n h =
    sym (ap (λ v. v.closing) (ahead_none h.at leading ahead h.rest h.spans n h.left).0) ∙ h.same
