-- The decorated list of a text is that of its piece followed by that of the rest.
use Rattle.std.proofs.Common.{◌≡◌, ℕ, Bool, true, false, cond, not, ◌&&◌, ◌||◌, ◌==◌, Some, None, inl, inr, List, [], ◌∷◌, ◌++◌, length, take, drop, refl, ap, sym, ◌∙◌, subst, append_assoc, append-nil}
use Rattle.std.specs.Prelude.{◌⊎◌, codes}
use Rattle.std.specs.List.{list_any, concat, AllByRecursion}
use Rattle.std.specs.Str.{trim}
use Rattle.std.proofs.Math.Seq.{take-append_seam}
use Rattle.std.proofs.lemmas.Bool.{and_parts, or_parts}
use Rattle.std.proofs.Math.Bool.{and-false}
use Rattle.std.proofs.lemmas.List.Folds.{concat-append}
use Rattle.cedar_tokens.specs.Bytes.{line_feed}
use Rattle.cedar_tokens.specs.Units.{IsUnit, is_token, slots, punctuators}
use Rattle.cedar_tokens.specs.Split.{Scans, SplitsInto}
use Rattle.cedar_tokens.specs.Listing.{Decorated, Listing, IsListing, Gaps, gaps, decorate, listing, comments}
use Rattle.cedar_tokens.specs.Inside.Newlines.{before_newline, after_newline}
use Rattle.cedar_tokens.specs.PlainList.{is_comma, is_closing_bracket, is_trailing_comma, touches, with_trailing_of, with_lines_of, plain_from, plain_list}
use Rattle.cedar_grammar.specs.Texts.{only_tokens}
use Rattle.cedar_tokens.proofs.Prefixes.{longest_unique}
use Rattle.cedar_tokens.proofs.CommentLines.{comments_nil}
use Rattle.cedar_tokens.proofs.PlainSteps.{plain_other}
use Rattle.cedar_tokens.proofs.Scanning.{split_unique}
use Rattle.cedar_tokens.proofs.UnitsSoFar.{scans_concat, concat_length}
use Rattle.cedar_tokens.proofs.Gaps.{split_after}
use Rattle.cedar_laws.proofs.Scanned.{scans_append}
use Rattle.cedar_laws.proofs.Spaces.{scans_shorter}
use Rattle.cedar_laws.proofs.Listed.{gaps_skip}
use Rattle.cedar_laws.proofs.Joined.{before_join, after_cons}
use Rattle.cedar_laws.proofs.TrimmedUnits.{after_free}
use Rattle.cedar_laws.proofs.BlankLines.{feedless, feedless_append}
use Rattle.cedar_reading.specs.Pieces.{HaveNoFeed, EndInFeed, BeginsNoBlank, IsRestOfLine, IsPiece}

-- ---- units

-- what is scanned splits the same by itself
scanned_alone : (us : List (List ℕ)) (text rest : List ℕ) → Scans us text rest
    → SplitsInto (concat us) us
scanned_alone us text rest s =
    let e = scans_concat us text rest s in
    subst (λ z. SplitsInto z us) (append-nil (concat us))
    (scans_shorter us [] rest (subst (λ z. Scans us z rest) e s))

-- the piece's text is that of its units
piece_text : (text : List ℕ) (n : ℕ) (p : IsPiece text n)
    → take n text ≡ concat (p.before ++ (codes ";" ∷ p.line))
piece_text text n p =
    let us = p.before ++ (codes ";" ∷ p.line) in
    let e = scans_concat us text (drop n text) p.scans in
    let l : n ≡ length (concat us) = p.place ∙ sym (concat_length us) in
    ap (λ k. take k text) l
    ∙ (ap (take (length (concat us))) e ∙ take-append_seam (concat us) (drop n text))

-- the piece alone splits so, whatever follows
pub piece_splits : (text : List ℕ) (n : ℕ) (p : IsPiece text n)
    → SplitsInto (take n text) (p.before ++ (codes ";" ∷ p.line))
piece_splits text n p =
    let us = p.before ++ (codes ";" ∷ p.line) in
    subst (λ z. SplitsInto z us) (sym (piece_text text n p))
    (scanned_alone us text (drop n text) p.scans)

-- a text that splits does so into the units of its piece and those of the rest
pub piece_units : (text : List ℕ) (n : ℕ) (us : List (List ℕ)) (p : IsPiece text n)
    → SplitsInto text us
    → (vs : List (List ℕ)) × (us ≡ (p.before ++ (codes ";" ∷ p.line)) ++ vs)
    × SplitsInto (take n text) (p.before ++ (codes ";" ∷ p.line)) × SplitsInto (drop n text) vs
piece_units text n us p s =
    let f = split_after (p.before ++ (codes ";" ∷ p.line)) us text (drop n text) p.scans s in
    (f.0, f.1, piece_splits text n p, f.2)

-- the units of the piece and those of the rest are the text's
pub units_follow : (text : List ℕ) (n : ℕ) (vs : List (List ℕ)) (p : IsPiece text n)
    → SplitsInto (drop n text) vs → SplitsInto text ((p.before ++ (codes ";" ∷ p.line)) ++ vs)
units_follow text n vs p s =
    scans_append (p.before ++ (codes ";" ∷ p.line)) vs text (drop n text) [] p.scans s

-- ---- the rest of the line

feedless_unit : (u : List ℕ) → list_any (λ b. b == line_feed) u ≡ false → feedless u ≡ true
feedless_unit [] h = refl
feedless_unit (b ∷ u) h = go (b == line_feed) h (feedless_unit u)
  where
    go : (t : Bool) → (t || list_any (λ c. c == line_feed) u) ≡ false
        → (list_any (λ c. c == line_feed) u ≡ false → feedless u ≡ true) → (not t && feedless u)
        ≡ true
    go true h ih = absurd cc
    go false h ih = ih h

feedless_units : (us : List (List ℕ)) → HaveNoFeed us → feedless (concat us) ≡ true
feedless_units [] h = refl
feedless_units (u ∷ us) h =
    let p = or_parts (list_any (λ b. b == line_feed) u)
    (list_any (λ v. list_any (λ b. b == line_feed) v) us) h in
    feedless_append u (concat us) (feedless_unit u p.0) (feedless_units us p.1)

no_tokens : (us : List (List ℕ)) → list_any is_token us ≡ false
    → AllByRecursion (λ u. is_token u ≡ false) us
no_tokens [] h = tt
no_tokens (u ∷ us) h =
    let p = or_parts (is_token u) (list_any is_token us) h in (p.0, no_tokens us p.1)

-- where a token begins, or none, there is no gap
no_gap : (rest : List ℕ) (vs : List (List ℕ)) → BeginsNoBlank rest → SplitsInto rest vs
    → (gaps vs).first ≡ []
unfolding gaps
no_gap rest [] b s = refl
no_gap rest (v ∷ vs) (inl none) s = absurd (none v s.0.kind s.0.begins)
no_gap rest (v ∷ vs) (inr (u, f, t)) s =
    let e : is_token v ≡ true = ap is_token (longest_unique IsUnit rest v u s.0 f) ∙ t in
    rw e refl

fed_after : (front : List (List ℕ)) (f : List ℕ) → HaveNoFeed front
    → after_newline (concat front ++ (line_feed ∷ f)) ≡ f
fed_after front f h = after_free (concat front) (line_feed ∷ f) (feedless_units front h)
    ∙ after_cons line_feed f

-- after the line nothing is left of its text
line_alone : (line : List (List ℕ)) (rest : List ℕ)
    → EndInFeed line ⊎ (HaveNoFeed line × BeginsNoBlank rest) → after_newline (concat line) ≡ []
line_alone line rest (inl (front, e, h)) =
    ap after_newline (ap concat e ∙ concat-append front ((line_feed ∷ []) ∷ []))
    ∙ fed_after front [] h
line_alone line rest (inr (h, b)) = ap after_newline (sym (append-nil (concat line)))
    ∙ after_free (concat line) [] (feedless_units line h)

-- what the text after the `;` says, with the next gap after it
record Says (g h f : List ℕ) : Type 0 where
  before : before_newline g ≡ before_newline h
  after : after_newline g ≡ f

line_says : (line vs : List (List ℕ)) (rest : List ℕ) → IsRestOfLine line rest → SplitsInto rest vs
    → Says (concat line ++ (gaps vs).first) (concat line) (gaps vs).first
line_says line vs rest r s =
    elim r.ends [ inl e ↦ fed e.0 e.1 e.2 | inr e ↦ unfed e.0 (no_gap rest vs e.1 s) ]
  where
    fed : (front : List (List ℕ)) → line ≡ front ++ ((line_feed ∷ []) ∷ []) → HaveNoFeed front
        → Says (concat line ++ (gaps vs).first) (concat line) (gaps vs).first
    fed front e h =
        let c : concat line ≡ concat front ++ (line_feed ∷ []) =
        ap concat e ∙ concat-append front ((line_feed ∷ []) ∷ []) in
        let d : (f : List ℕ) → concat line ++ f ≡ concat front ++ (line_feed ∷ f) =
        λ f. ap (λ z. z ++ f) c ∙ append_assoc (concat front) (line_feed ∷ []) f in
        record {
          before =
              ap before_newline (d (gaps vs).first) ∙ (before_join (concat front) (gaps vs).first
              ∙ sym (ap before_newline c ∙ before_join (concat front) []));
          after = ap after_newline (d (gaps vs).first) ∙ fed_after front (gaps vs).first h;
        }

    unfed : HaveNoFeed line → (gaps vs).first ≡ []
        → Says (concat line ++ (gaps vs).first) (concat line) (gaps vs).first
    unfed h e =
        let c : concat line ++ (gaps vs).first ≡ concat line =
        ap (λ z. concat line ++ z) e ∙ append-nil (concat line) in
        record {
          before = ap before_newline c;
          after = ap after_newline c ∙ (line_alone line rest r.ends ∙ sym e);
        }

-- ---- gaps

-- one more unit in front
abbrev step : Bool → List ℕ → Gaps → Gaps
step t u g = cond t (record { first = []; tokens = (u, g.first) ∷ g.tokens })
    (record { first = u ++ g.first; tokens = g.tokens })

-- the gaps split before a token
gaps_part : (us xs : List (List ℕ)) → (gaps xs).first ≡ [] → gaps (us ++ xs)
    ≡ record { first = (gaps us).first; tokens = (gaps us).tokens ++ (gaps xs).tokens }
unfolding gaps
gaps_part [] xs e = rw (sym e) refl
gaps_part (u ∷ us) xs e = go (is_token u) (gaps_part us xs e)
  where
    go : (t : Bool) → gaps (us ++ xs)
        ≡ record { first = (gaps us).first; tokens = (gaps us).tokens ++ (gaps xs).tokens }
        → step t u (gaps (us ++ xs)) ≡ record {
          first = (step t u (gaps us)).first;
          tokens = (step t u (gaps us)).tokens ++ (gaps xs).tokens;
        }
    go true ih = rw ih refl
    go false ih = rw ih refl

pub semicolon_token : is_token (codes ";") ≡ true
unfolding slots punctuators
semicolon_token = refl

-- the gaps from the `;` on
semicolon_gaps : (line vs : List (List ℕ)) → list_any is_token line ≡ false
    → gaps (codes ";" ∷ (line ++ vs))
    ≡ record { first = []; tokens = (codes ";", concat line ++ (gaps vs).first) ∷ (gaps vs).tokens }
unfolding gaps
semicolon_gaps line vs h = rw (semicolon_token, gaps_skip line vs (no_tokens line h)) refl

piece_gaps : (us line vs : List (List ℕ)) → list_any is_token line ≡ false
    → gaps (us ++ (codes ";" ∷ (line ++ vs))) ≡ record {
      first = (gaps us).first;
      tokens = (gaps us).tokens ++ ((codes ";", concat line ++ (gaps vs).first) ∷ (gaps vs).tokens);
    }
piece_gaps us line vs h =
    let e = semicolon_gaps line vs h in
    gaps_part us (codes ";" ∷ (line ++ vs)) (ap (λ (g : Gaps). g.first) e)
    ∙ ap (λ (g : Gaps). record { first = (gaps us).first; tokens = (gaps us).tokens ++ g.tokens }) e

-- the same where nothing follows the line
lone_gaps : (us line : List (List ℕ)) → list_any is_token line ≡ false
    → gaps (us ++ (codes ";" ∷ line)) ≡ record {
      first = (gaps us).first;
      tokens = (gaps us).tokens ++ ((codes ";", concat line) ∷ []);
    }
unfolding gaps
lone_gaps us line h =
    ap (λ z. gaps (us ++ (codes ";" ∷ z))) (sym (append-nil line)) ∙ (piece_gaps us line [] h ∙ ap
    (λ z. record { first = (gaps us).first; tokens = (gaps us).tokens ++ ((codes ";", z) ∷ []) })
    (append-nil (concat line)))

-- ---- lists

-- one list followed by the other, which has the closing comments
abbrev then_list : Listing → Listing → Listing
then_list l m = record { tokens = l.tokens ++ m.tokens; closing = m.closing }

decorate_parts : (f : List ℕ) (ts : List (List ℕ × List ℕ)) (w g h k : List ℕ)
    (us : List (List ℕ × List ℕ)) → Says g h k → decorate f (ts ++ ((w, g) ∷ us))
    ≡ then_list (decorate f (ts ++ ((w, h) ∷ []))) (decorate k us)
unfolding decorate
decorate_parts f [] w g h k us s = rw (s.before, s.after) refl
decorate_parts f (t ∷ ts) w g h k us s =
    rw (decorate_parts (after_newline t.1) ts w g h k us s) refl

-- the list of units splits after the line
listing_parts : (us line vs : List (List ℕ)) (rest : List ℕ) → IsRestOfLine line rest
    → SplitsInto rest vs → listing ((us ++ (codes ";" ∷ line)) ++ vs)
    ≡ then_list (listing (us ++ (codes ";" ∷ line))) (listing vs)
unfolding listing gaps
listing_parts us line vs rest r s =
    let a : gaps ((us ++ (codes ";" ∷ line)) ++ vs) ≡ record {
      first = (gaps us).first;
      tokens = (gaps us).tokens ++ ((codes ";", concat line ++ (gaps vs).first) ∷ (gaps vs).tokens);
    } = ap gaps (append_assoc us (codes ";" ∷ line) vs) ∙ piece_gaps us line vs r.no_token in
    rw (a, lone_gaps us line r.no_token)
    (decorate_parts (gaps us).first (gaps us).tokens (codes ";") (concat line ++ (gaps vs).first)
    (concat line) (gaps vs).first (gaps vs).tokens (line_says line vs rest r s))

-- the units of the piece's list are its own
piece_value : (text : List ℕ) (n : ℕ) (l : Listing) (p : IsPiece text n) → IsListing (take n text) l
    → l ≡ listing (p.before ++ (codes ";" ∷ p.line))
piece_value text n l p a = a.value ∙ ap listing (split_unique (take n text) a.units
    (p.before ++ (codes ";" ∷ p.line)) a.split (piece_splits text n p))

-- the decorated list of a text is that of its piece followed by that of the rest
pub lists_follow : (text : List ℕ) (n : ℕ) (l m : Listing) → IsPiece text n
    → IsListing (take n text) l → IsListing (drop n text) m
    → IsListing text (record { tokens = l.tokens ++ m.tokens; closing = m.closing })
lists_follow text n l m p a b = record {
  units = (p.before ++ (codes ";" ∷ p.line)) ++ b.units;
  split = units_follow text n b.units p b.split;
  value = ap (λ z. then_list z m) (piece_value text n l p a)
      ∙ (ap (then_list (listing (p.before ++ (codes ";" ∷ p.line)))) b.value
      ∙ sym (listing_parts p.before p.line b.units (drop n text) p.rest_of_line b.split));
}

-- the list of a piece's units ends with its `;`
abbrev EndsInSemicolon : Listing → Type 0
EndsInSemicolon l = (l.closing ≡ [])
    × ((ts : List Decorated) × (t : Decorated) × (l.tokens ≡ ts ++ (t ∷ [])) × (t.text ≡ codes ";"))

decorate_ends : (f : List ℕ) (ts : List (List ℕ × List ℕ)) (h : List ℕ) → after_newline h ≡ []
    → EndsInSemicolon (decorate f (ts ++ ((codes ";", h) ∷ [])))
unfolding decorate
decorate_ends f [] h e = (
  ap comments e ∙ comments_nil,
  (
    [],
    record { text = codes ";"; leading = comments f; trailing = trim (before_newline h) },
    refl,
    refl,
  ),
)
decorate_ends f (t ∷ ts) h e =
    let q = decorate_ends (after_newline t.1) ts h e in
    let d : Decorated =
    record { text = t.0; leading = comments f; trailing = trim (before_newline t.1) } in
    (q.0, (d ∷ q.1.0, q.1.1, ap (λ z. d ∷ z) q.1.2, q.1.3))

-- a piece has no closing comments, and its last token is a `;`
pub piece_ends : (text : List ℕ) (n : ℕ) (l : Listing) → IsPiece text n → IsListing (take n text) l
    → (l.closing ≡ []) × ((ts : List Decorated) × (t : Decorated) × (l.tokens ≡ ts ++ (t ∷ []))
    × (t.text ≡ codes ";"))
unfolding listing
piece_ends text n l p a =
    let e : l
    ≡ decorate (gaps p.before).first ((gaps p.before).tokens ++ ((codes ";", concat p.line) ∷ [])) =
    piece_value text n l p a
    ∙ ap (λ (g : Gaps). decorate g.first g.tokens)
    (lone_gaps p.before p.line p.rest_of_line.no_token) in
    subst (λ z. EndsInSemicolon z) (sym e) (decorate_ends (gaps p.before).first
    (gaps p.before).tokens (concat p.line) (line_alone p.line (drop n text) p.rest_of_line.ends))

-- ---- lists without trailing commas

-- the list's first token is a trailing comma
abbrev pub begins_trailing : List Decorated → Bool
begins_trailing [] = false
begins_trailing (c ∷ []) = false
begins_trailing (c ∷ (b ∷ ts)) = is_trailing_comma c b

-- a `;` is neither a bracket nor a comma
no_bracket : (c t : Decorated) → t.text ≡ codes ";" → is_trailing_comma c t ≡ false
no_bracket c t e = rw e (and-false (is_comma c.text))

plain_semicolon : (t : Decorated) (us : List Decorated) → begins_trailing us ≡ false
    → plain_from t us ≡ t ∷ plain_list us
plain_semicolon t [] h = refl
plain_semicolon t (c ∷ []) h = refl
plain_semicolon t (c ∷ (b ∷ us)) h = rw h refl

plain_from_parts : (d : Decorated) (ts : List Decorated) (t : Decorated) (us : List Decorated)
    → t.text ≡ codes ";" → begins_trailing us ≡ false
    → plain_from d (ts ++ (t ∷ us)) ≡ plain_from d (ts ++ (t ∷ [])) ++ plain_list us
plain_from_parts d [] t us e h =
    plain_other (Some d) t us (ap is_comma e) ∙ ap (λ z. d ∷ z) (plain_semicolon t us h)
plain_from_parts d (c ∷ []) t us e h =
    rw (no_bracket c t e) (ap (λ z. d ∷ z) (plain_from_parts c [] t us e h))
plain_from_parts d (c ∷ (b ∷ ts)) t us e h =
    go (is_trailing_comma c b) (touches d c) (plain_from_parts b ts t us e h)
    (plain_from_parts (with_lines_of b c) ts t us e h) (plain_from_parts c (b ∷ ts) t us e h)
  where
    go : (x y : Bool)
        → plain_from b (ts ++ (t ∷ us)) ≡ plain_from b (ts ++ (t ∷ [])) ++ plain_list us
        → plain_from (with_lines_of b c) (ts ++ (t ∷ us))
        ≡ plain_from (with_lines_of b c) (ts ++ (t ∷ [])) ++ plain_list us
        → plain_from c (b ∷ (ts ++ (t ∷ us))) ≡ plain_from c (b ∷ (ts ++ (t ∷ []))) ++ plain_list us
        → cond x (cond y (with_trailing_of d c ∷ plain_from b (ts ++ (t ∷ us))) (d ∷ plain_from
        (with_lines_of b c) (ts ++ (t ∷ us)))) (d ∷ plain_from c (b ∷ (ts ++ (t ∷ us))))
        ≡ cond x (cond y (with_trailing_of d c ∷ plain_from b (ts ++ (t ∷ [])))
        (d ∷ plain_from (with_lines_of b c) (ts ++ (t ∷ [])))) (d
        ∷ plain_from c (b ∷ (ts ++ (t ∷ [])))) ++ plain_list us
    go true true left moved stays = ap (λ z. with_trailing_of d c ∷ z) left
    go true false left moved stays = ap (λ z. d ∷ z) moved
    go false y left moved stays = ap (λ z. d ∷ z) stays

plain_list_parts : (ts : List Decorated) (t : Decorated) (us : List Decorated) → t.text ≡ codes ";"
    → begins_trailing us ≡ false
    → plain_list (ts ++ (t ∷ us)) ≡ plain_list (ts ++ (t ∷ [])) ++ plain_list us
plain_list_parts [] t us e h = plain_other None t us (ap is_comma e) ∙ plain_semicolon t us h
plain_list_parts (c ∷ []) t us e h = rw (no_bracket c t e) (plain_from_parts c [] t us e h)
plain_list_parts (c ∷ (b ∷ ts)) t us e h = go (is_trailing_comma c b)
    (plain_from_parts (with_lines_of b c) ts t us e h) (plain_from_parts c (b ∷ ts) t us e h)
  where
    go : (x : Bool) → plain_from (with_lines_of b c) (ts ++ (t ∷ us))
        ≡ plain_from (with_lines_of b c) (ts ++ (t ∷ [])) ++ plain_list us
        → plain_from c (b ∷ (ts ++ (t ∷ us))) ≡ plain_from c (b ∷ (ts ++ (t ∷ []))) ++ plain_list us
        → cond x (plain_from (with_lines_of b c) (ts ++ (t ∷ us))) (plain_from c
        (b ∷ (ts ++ (t ∷ us)))) ≡ cond x (plain_from (with_lines_of b c)
        (ts ++ (t ∷ []))) (plain_from c (b ∷ (ts ++ (t ∷ [])))) ++ plain_list us
    go true moved stays = moved
    go false moved stays = stays

-- so the plain list splits there too, unless the `;` is followed by a trailing comma,
-- which would leave its comments to it
pub plain_follow : (ts : List Decorated) (t : Decorated) (us : List Decorated) → t.text ≡ codes ";"
    → begins_trailing us ≡ false
    → plain_list ((ts ++ (t ∷ [])) ++ us) ≡ plain_list (ts ++ (t ∷ [])) ++ plain_list us
plain_follow ts t us e h =
    ap plain_list (append_assoc ts (t ∷ []) us) ∙ plain_list_parts ts t us e h

-- the token before a list stays first, with its text
plain_from_first : (d : Decorated) (ts : List Decorated)
    → (t : Decorated) × (us : List Decorated) × (plain_from d ts ≡ t ∷ us) × (t.text ≡ d.text)
plain_from_first d [] = (d, [], refl, refl)
plain_from_first d (c ∷ []) = (d, c ∷ [], refl, refl)
plain_from_first d (c ∷ (b ∷ ts)) = go (is_trailing_comma c b) (touches d c)
  where
    go : (x y : Bool) → (t : Decorated) × (us : List Decorated) × (cond x (cond y
        (with_trailing_of d c ∷ plain_from b ts) (d ∷ plain_from (with_lines_of b c) ts)) (d
        ∷ plain_from c (b ∷ ts)) ≡ t ∷ us) × (t.text ≡ d.text)
    go true true = (with_trailing_of d c, plain_from b ts, refl, refl)
    go true false = (d, plain_from (with_lines_of b c) ts, refl, refl)
    go false y = (d, plain_from c (b ∷ ts), refl, refl)

-- where a trailing comma comes first, the plain list begins with its bracket
pub plain_begins : (us : List Decorated) → begins_trailing us ≡ true → (t : Decorated)
    × (ts : List Decorated) × (plain_list us ≡ t ∷ ts) × (is_closing_bracket t.text ≡ true)
plain_begins [] h = absurd cc
plain_begins (c ∷ []) h = absurd cc
plain_begins (c ∷ (b ∷ ts)) h =
    let f = plain_from_first (with_lines_of b c) ts in (
      f.0,
      f.1,
      rw h f.2,
      ap is_closing_bracket f.3 ∙ (and_parts (is_comma c.text) (is_closing_bracket b.text) h).1,
    )

-- only the empty list has an empty plain list
pub plain_empty : (us : List Decorated) → plain_list us ≡ [] → us ≡ []
plain_empty [] h = refl
plain_empty (c ∷ []) h = absurd cc
plain_empty (c ∷ (b ∷ ts)) h = go (is_trailing_comma c b) h
  where
    go : (x : Bool) → cond x (plain_from (with_lines_of b c) ts) (plain_from c (b ∷ ts)) ≡ []
        → c ∷ (b ∷ ts) ≡ []
    go true k =
        let f = plain_from_first (with_lines_of b c) ts in
        absurd (let e : f.0 ∷ f.1 ≡ [] = sym f.2 ∙ k in cc)
    go false k =
        let f = plain_from_first c (b ∷ ts) in absurd (let e : f.0 ∷ f.1 ≡ [] = sym f.2 ∙ k in cc)

-- ---- units without tokens

-- units without tokens, one by one
pub tokenless : (us : List (List ℕ)) → only_tokens us ≡ []
    → AllByRecursion (λ u. is_token u ≡ false) us
tokenless [] h = tt
tokenless (u ∷ us) h = go (is_token u) refl h (tokenless us)
  where
    go : (t : Bool) → is_token u ≡ t → cond t (u ∷ only_tokens us) (only_tokens us) ≡ []
        → (only_tokens us ≡ [] → AllByRecursion (λ v. is_token v ≡ false) us)
        → (is_token u ≡ false) × AllByRecursion (λ v. is_token v ≡ false) us
    go true e k ih = absurd cc
    go false e k ih = (e, ih k)

-- the list of a text without tokens has only its comments
pub comments_alone : (text : List ℕ) (us : List (List ℕ)) → SplitsInto text us → only_tokens us ≡ []
    → IsListing text (record { tokens = []; closing = comments text })
unfolding listing gaps decorate
comments_alone text us s h =
    let c : concat us ≡ text = sym (scans_concat us text [] s ∙ append-nil (concat us)) in
    let g : gaps us ≡ record { first = concat us ++ []; tokens = [] } =
    ap gaps (sym (append-nil us)) ∙ gaps_skip us [] (tokenless us h) in
    let e : listing us ≡ record { tokens = []; closing = comments text } =
    rw (g, append-nil (concat us), c) refl in
    record { units = us; split = s; value = sym e }
