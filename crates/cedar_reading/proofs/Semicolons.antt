-- The units to the first `;`, and the rest of its line.
use Rattle.std.proofs.Common.{◌≡◌, ◌≢◌, ◌<◌, ◌+◌, ℕ, Bool, true, false, ◌==◌, List, [], ◌∷◌, ◌++◌, length, get_or, drop, refl, ap, sym, ◌∙◌, arith, append-nil, length-append, append_assoc, inl, inr}
use Rattle.std.specs.Prelude.{codes}
use Rattle.std.specs.List.{list_any, list_all}
use Rattle.std.specs.Str.{bytes_eq}
use Rattle.std.specs.Char.{encode_utf8}
use Rattle.std.proofs.lemmas.Bool.Decides.{nat_tests, Decides-eqb}
use Rattle.std.proofs.lemmas.Slice.Eq.{bytes_eq-Decides}
use Rattle.std.proofs.lemmas.Str.{inside_one, encode_ascii}
use Rattle.std.proofs.lemmas.List.{drop-drop}
use Rattle.std.proofs.lemmas.List.Sums.{sum_by-append}
use Rattle.std.proofs.lemmas.List.Folds.{list_any-append}
use Rattle.std.proofs.lemmas.Bool.{and_parts, false_from_ne_true}
use Rattle.cedar_tokens.specs.Bytes.{line_feed}
use Rattle.cedar_tokens.specs.Units.{IsBlank, IsComment, is_token, is_comment_byte}
use Rattle.cedar_tokens.specs.Split.{HasKind}
use Rattle.cedar_tokens.specs.declared.lexer.UnitKind.{UnitKind}
use Rattle.cedar_tokens.specs.declared.lexer.UnitKind.TheVariants.{Blank, Comment, Token}
use Rattle.cedar_tokens.proofs.FirstUnit.{comment_parts}
use Rattle.cedar_tokens.specs.UnitSteps.{unit_text}
use Rattle.cedar_tokens.specs.declared.units.Unit.{Unit}
use Rattle.cedar_tokens.proofs.UnitsSoFar.{texts, texts_more, EndsAt}
use Rattle.cedar_tokens.proofs.Streaming.{no_token}
use Rattle.cedar_laws.proofs.Scanned.{scans_append}
use Rattle.cedar_laws.proofs.Listed.{feed_no_token}
use Rattle.cedar_reading.specs.Pieces.{EndsLine, HaveNoFeed, BeginsNoBlank, IsFirstPiece}
use Rattle.cedar_reading.specs.Inside.Steps.{EndsInSemicolon}

any_more : (p : List ℕ → Bool) (units : List (List ℕ)) (u : List ℕ) → list_any p units ≡ false
    → p u ≡ false → list_any p (units ++ u ∷ []) ≡ false
any_more p units u h k = rw (list_any-append p units (u ∷ []), h, k) refl

-- one more unit without the property
pub none_more : (p : List ℕ → Bool) (us : List Unit) (u : Unit) → list_any p (texts us) ≡ false
    → p (unit_text u) ≡ false → list_any p (texts (us ++ u ∷ [])) ≡ false
none_more p us u h k = rw (texts_more us u) (any_more p (texts us) (unit_text u) h k)

pub differs : (u v : List ℕ) → u ≢ v → bytes_eq v u ≡ false
differs u v m = false_from_ne_true (bytes_eq v u) (λ e. m (sym ((bytes_eq-Decides v u).0 e)))

-- whether a byte is a line feed
abbrev pub is_feed : ℕ → Bool
is_feed b = b == line_feed

no_feed_here : (b : ℕ) → is_comment_byte b ≡ true → is_feed b ≡ false
no_feed_here b h = grind (arith, nat_tests)

comment_body : (body : List ℕ) → list_all is_comment_byte body ≡ true
    → list_any is_feed body ≡ false
comment_body [] h = refl
comment_body (b ∷ body) h =
    let p = and_parts (is_comment_byte b) (list_all is_comment_byte body) h in
    rw (no_feed_here b p.0) (comment_body body p.1)

comment_no_feed : (u : List ℕ) → IsComment u → list_any is_feed u ≡ false
comment_no_feed [] k = refl
comment_no_feed (a ∷ []) k = absurd cc
comment_no_feed (a ∷ b ∷ body) k =
    let p = comment_parts a b body k in rw (p.0, p.1) (comment_body body p.2)

-- a line feed among the bytes, and what is around it
feed_at : (u : List ℕ) → list_any is_feed u ≡ true
    → (w : List ℕ) × (v : List ℕ) × (u ≡ w ++ (line_feed ∷ v))
feed_at [] h = absurd cc
feed_at (b ∷ u) h = go (is_feed b) refl (feed_at u)
  where
    go : (t : Bool) → is_feed b ≡ t
        → (list_any is_feed u ≡ true → (w : List ℕ) × (v : List ℕ) × (u ≡ w ++ (line_feed ∷ v)))
        → (w : List ℕ) × (v : List ℕ) × (b ∷ u ≡ w ++ (line_feed ∷ v))
    go true e more = ([], u, ap (λ x. x ∷ u) ((Decides-eqb b line_feed).0 e))
    go false e more = let f = more (rw e at h) in (b ∷ f.0, f.1, ap (λ x. b ∷ x) f.2)

get_feed : (w v : List ℕ) → get_or (w ++ (line_feed ∷ v)) (length w) 0 ≡ line_feed
get_feed [] v = refl
get_feed (b ∷ w) v = get_feed w v

-- a blank that contains a line feed is just that line feed
blank_feed : (u : List ℕ) → IsBlank u → list_any is_feed u ≡ true → u ≡ line_feed ∷ []
blank_feed u k h =
    let f = feed_at u h in
    let g : get_or u (length f.0) 0 ≡ line_feed =
    ap (λ x. get_or x (length f.0) 0) f.2 ∙ get_feed f.0 f.1 in
    let l : length f.0 < length (encode_utf8 k.0) =
    omega (arith, ap length k.2, ap length f.2, length-append f.0 (line_feed ∷ f.1)) in
    let e = inside_one k.0 [] u (length f.0) (k.2 ∙ sym (append-nil (encode_utf8 k.0))) l
    (omega (arith, g)) in
    k.2 ∙ (ap encode_utf8 (e ∙ g) ∙ encode_ascii line_feed (omega arith))

blank_no_feed : (u : List ℕ) → IsBlank u → u ≢ line_feed ∷ [] → list_any is_feed u ≡ false
blank_no_feed u k m = false_from_ne_true (list_any is_feed u) (λ e. m (blank_feed u k e))

pub unit_no_feed : (kind : UnitKind) (u : List ℕ) → HasKind kind u → kind ≢ Token → u
    ≢ line_feed ∷ []
    → list_any is_feed u ≡ false
unit_no_feed Blank u k t m = blank_no_feed u k m
unit_no_feed Comment u k t m = comment_no_feed u k
unit_no_feed Token u k t m = absurd (t refl)

-- the units so far, of which the last is their only line feed
pub ends_in_feed : (us : List (List ℕ)) (text rest u : List ℕ) (n : ℕ)
    → EndsAt (us ++ u ∷ []) text rest n → u ≡ codes "\n" → list_any is_token us ≡ false
    → HaveNoFeed us → EndsLine text n
ends_in_feed us text rest u n e m no_token no_feed = record {
  line = us ++ (line_feed ∷ []) ∷ [];
  scans = rw m at e.scans;
  place = rw m at e.place;
  rest = record {
    no_token = any_more is_token us (line_feed ∷ []) no_token feed_no_token;
    ends = inl (us, refl, no_feed);
  };
}

-- the units so far, where neither a blank nor a comment follows
pub ends_before : (us : List (List ℕ)) (text rest : List ℕ) (n : ℕ) → EndsAt us text rest n
    → list_any is_token us ≡ false → HaveNoFeed us → BeginsNoBlank rest → EndsLine text n
ends_before us text rest n e no_token no_feed b = record {
  line = us;
  scans = e.scans;
  place = e.place;
  rest = record { no_token = no_token; ends = inr (no_feed, rw e.left at b) };
}

-- everything through the `;` and the rest of its line is the first piece
abbrev pub piece_whole : (text rest : List ℕ) (at n : ℕ) → EndsInSemicolon text at
    → rest ≡ drop at text → EndsLine rest n → IsFirstPiece text (at + n)
piece_whole text rest at n s e r =
    let l : EndsLine (drop at text) n = rw e at r in
    record {
      piece = record {
        before = s.before;
        line = l.line;
        scans = rw (sym (drop-drop n at text), sym (append_assoc s.before (codes ";" ∷ []) l.line))
            (scans_append (s.before ++ (codes ";" ∷ [])) l.line text (drop at text)
            (drop n (drop at text)) s.scans l.scans);
        place = rw (
          sym (append_assoc s.before (codes ";" ∷ []) l.line),
          sum_by-append length (s.before ++ (codes ";" ∷ [])) l.line,
        ) (omega (arith, s.place, l.place));
        rest_of_line = rw (sym (drop-drop n at text)) l.rest;
      };
      first = s.first;
    }
