-- What was printed reads back: the decorated list of a text that meets the law of gaps.
use Rattle.std.proofs.Common.{◌≡◌, ℕ, Bool, true, false, cond, ◌==◌, ◌⊎◌, inl, inr, List, [], ◌∷◌, ◌++◌, map, refl, ap, sym, ◌∙◌, append_assoc, append-nil}
use Rattle.std.specs.List.{AllByRecursion, concat, filter}
use Rattle.std.proofs.lemmas.List.Elements.{filter-append}
use Rattle.std.specs.Str.{trim, trim_start, chars}
use Rattle.cedar_tokens.specs.Bytes.{line_feed, space_character}
use Rattle.cedar_tokens.specs.Units.{IsToken, is_token, is_comment, slots, punctuators}
use Rattle.cedar_tokens.specs.Split.{Scans, SplitsInto}
use Rattle.cedar_tokens.specs.Listing.{Decorated, IsListing, gaps, decorate, listing, comments, token_value}
use Rattle.cedar_tokens.specs.Inside.Newlines.{before_newline, after_newline}
use Rattle.cedar_tokens.proofs.CommentLines.{comments_nil, comments_skip}
use Rattle.cedar_tokens.proofs.Heads.{no_empty_token}
use Rattle.cedar_tokens.proofs.UnitsSoFar.{scans_concat}
use Rattle.cedar_tokens.proofs.Lists.{All-append}
use Rattle.cedar_laws.specs.Neighbours.{glues, first_or}
use Rattle.cedar_layout.specs.Cleaning.{last_byte_or}
use Rattle.cedar_laws.specs.Fit.{after_of}
use Rattle.cedar_laws.specs.Gaps.{Blanks, no_blank, a_space, a_feed, Lines, no_line, a_comment, Front, bare, led, back, Spelled, the_end, a_token}
use Rattle.cedar_laws.specs.Good.{IsGood, IsLine, IsTrailing}
use Rattle.cedar_laws.specs.Output.{with_value}
use Rattle.cedar_laws.proofs.Units.{token_first, comment_first, blank_first, space_blank, feed_blank, Apart}
use Rattle.cedar_laws.specs.CleaningLaws.{is_solid}
use Rattle.cedar_laws.proofs.BlankLines.{token_solid, comment_solid, blank_not_solid, feed_not_solid}
use Rattle.cedar_laws.proofs.CleanedLists.{nothing_left}
use Rattle.cedar_laws.proofs.Listed.{trim_nil, comment_alone, feed_no_token, comment_no_token, gaps_skip, decorate_same, value_token, one_token}
use Rattle.cedar_laws.proofs.Scanned.{scans_unit, scans_append, scans_before_feed}
use Rattle.cedar_laws.proofs.Joined.{before_cons, after_cons, before_join, comments_join, comments_after_join}

-- ---- blanks, lines and comments

chars_space : (t : List ℕ) → chars (space_character ∷ t) ≡ space_character ∷ chars t
unfolding chars
chars_space [] = refl
chars_space (b ∷ t) = refl

pub trim_space : (t : List ℕ) → trim (space_character ∷ t) ≡ trim t
unfolding trim_start
trim_space t = rw (chars_space t) refl

pub comments_blanks : {b : List ℕ} (x : List ℕ) → Blanks b → comments (b ++ x) ≡ comments x
comments_blanks x no_blank = refl
comments_blanks x (a_space {s} p) = comments_skip space_character (s ++ x) refl
    ∙ comments_blanks x p
comments_blanks x (a_feed {s} p) = comments_skip line_feed (s ++ x) refl ∙ comments_blanks x p

no_comments : {b : List ℕ} → Blanks b → comments b ≡ []
no_comments {b} p = ap comments (sym (append-nil b)) ∙ (comments_blanks [] p ∙ comments_nil)

before_blanks : {b : List ℕ} → Blanks b → trim (before_newline b) ≡ []
before_blanks no_blank = trim_nil
before_blanks (a_space {s} p) =
    rw (before_cons space_character s) (trim_space (before_newline s) ∙ before_blanks p)
before_blanks (a_feed {s} p) = rw (before_cons line_feed s) trim_nil

after_blanks : {b : List ℕ} (x : List ℕ) → Blanks b → comments (after_newline b) ≡ []
after_blanks x no_blank = comments_nil
after_blanks x (a_space {s} p) = rw (after_cons space_character s) (after_blanks x p)
after_blanks x (a_feed {s} p) = rw (after_cons line_feed s) (no_comments p)

pub line_alone : (l : List ℕ) → IsLine l → comments l ≡ l ∷ []
line_alone l h = comment_alone l h.comment ∙ ap (λ z. z ∷ []) h.trimmed

pub lines_comments : {ls : List (List ℕ)} {g : List ℕ} → Lines ls g → AllByRecursion IsLine ls
    → comments g ≡ ls
lines_comments (no_line p) a = no_comments p
lines_comments (a_comment {g = g} {ls = ls} l p q) a =
    comments_blanks (l ++ (line_feed ∷ g)) p
    ∙ (comments_join l g ∙ rw (line_alone l a.0, lines_comments q a.1) refl)

-- what the text before a token says
pub front_comments : {ls : List (List ℕ)} {g : List ℕ} → Front ls g → AllByRecursion IsLine ls
    → comments g ≡ ls
front_comments (bare p) a = no_comments p
front_comments (led {b} {g} p q) a =
    comments_blanks (line_feed ∷ g) p ∙ (comments_skip line_feed g refl ∙ lines_comments q a)

front_before : {ls : List (List ℕ)} {g : List ℕ} → Front ls g → trim (before_newline g) ≡ []
front_before (bare p) = before_blanks p
front_before (led {b} {g} p q) = rw (before_join b g) (before_blanks p)

front_after : {ls : List (List ℕ)} {g : List ℕ} → Front ls g → AllByRecursion IsLine ls
    → comments (after_newline g) ≡ ls
front_after (bare p) a = after_blanks [] p
front_after (led {b} {g} p q) a =
    comments_after_join b g ∙ rw (after_blanks [] p, lines_comments q a) refl

-- ---- scans of gaps

-- a text of blanks and of these comments, whatever follows it
pub record Gap (g : List ℕ) (said : List (List ℕ)) : Type 0 where
  pub units : List (List ℕ)
  pub solid : filter is_solid units ≡ said
  pub scan : (r : List ℕ) → Scans units (g ++ r) r
  pub no_token : AllByRecursion (λ u. is_token u ≡ false) units

space_no_token : is_token (space_character ∷ []) ≡ false
unfolding slots punctuators
space_no_token = refl

gap_append : (g h : List ℕ) {x y : List (List ℕ)} → Gap g x → Gap h y → Gap (g ++ h) (x ++ y)
gap_append g h p q = record {
  units = p.units ++ q.units;
  solid = filter-append is_solid p.units q.units ∙ rw (p.solid, q.solid) refl;
  scan = λ r. rw (append_assoc g h r)
      (scans_append p.units q.units (g ++ (h ++ r)) (h ++ r) r (p.scan (h ++ r)) (q.scan r));
  no_token = All-append (λ u. is_token u ≡ false) p.units q.units p.no_token q.no_token;
}

gap_space : (g : List ℕ) {x : List (List ℕ)} → Gap g x → Gap (space_character ∷ g) x
gap_space g p = record {
  solid = rw (blank_not_solid (space_character ∷ []) space_blank) p.solid;
  units = (space_character ∷ []) ∷ p.units;
  scan = λ r. scans_unit (space_character ∷ []) p.units (g ++ r) r
      (blank_first (space_character ∷ []) (g ++ r) space_blank)
      (p.scan r);
  no_token = (space_no_token, p.no_token);
}

gap_feed : (g : List ℕ) {x : List (List ℕ)} → Gap g x → Gap (line_feed ∷ g) x
gap_feed g p = record {
  solid = rw feed_not_solid p.solid;
  units = (line_feed ∷ []) ∷ p.units;
  scan = λ r. scans_unit (line_feed ∷ []) p.units (g ++ r) r
      (blank_first (line_feed ∷ []) (g ++ r) feed_blank)
      (p.scan r);
  no_token = (feed_no_token, p.no_token);
}

gap_nil : Gap [] []
gap_nil = record { solid = refl; units = []; scan = λ r. refl; no_token = tt }

gap_blanks : {b : List ℕ} → Blanks b → Gap b []
gap_blanks no_blank = gap_nil
gap_blanks (a_space {s} p) = gap_space s (gap_blanks p)
gap_blanks (a_feed {s} p) = gap_feed s (gap_blanks p)

gap_line : (l g : List ℕ) {x : List (List ℕ)} → is_comment l ≡ true → Gap g x
    → Gap (l ++ (line_feed ∷ g)) (l ∷ x)
gap_line l g h p = record {
  solid = rw (comment_solid l h, feed_not_solid, p.solid) refl;
  units = l ∷ ((line_feed ∷ []) ∷ p.units);
  scan = λ r. rw (append_assoc l (line_feed ∷ g) r) (scans_unit l ((line_feed ∷ []) ∷ p.units)
      (line_feed ∷ (g ++ r)) r
      (comment_first l (line_feed ∷ (g ++ r)) h refl) (scans_unit (line_feed ∷ []) p.units
      (g ++ r) r
      (blank_first (line_feed ∷ []) (g ++ r) feed_blank) (p.scan r)));
  no_token = (comment_no_token l h, (feed_no_token, p.no_token));
}

gap_lines : {ls : List (List ℕ)} {g : List ℕ} → Lines ls g → AllByRecursion IsLine ls → Gap g ls
gap_lines (no_line p) a = gap_blanks p
gap_lines (a_comment {b} {g} l p q) a =
    gap_append b (l ++ (line_feed ∷ g)) (gap_blanks p) (gap_line l g a.0.comment (gap_lines q a.1))

pub gap_front : {ls : List (List ℕ)} {g : List ℕ} → Front ls g → AllByRecursion IsLine ls → Gap g ls
gap_front (bare p) a = gap_blanks p
gap_front (led {b} {g} p q) a = gap_append b (line_feed ∷ g) (gap_blanks p)
    (gap_feed g (gap_lines q a))

gap_back : (tr : List ℕ) (h : IsTrailing tr) → Gap (back tr) (filter is_solid h.units)
gap_back [] h = rw (nothing_left h.units h.split) gap_nil
gap_back (c ∷ cs) h = record {
  solid = rw (blank_not_solid (space_character ∷ []) space_blank) (filter-append is_solid h.units
      ((line_feed ∷ []) ∷ []) ∙ rw feed_not_solid (append-nil (filter is_solid h.units)));
  units = (space_character ∷ []) ∷ (h.units ++ ((line_feed ∷ []) ∷ []));
  scan = λ r.
      rw (append_assoc (c ∷ cs) (line_feed ∷ []) r) (scans_unit (space_character ∷ [])
      (h.units ++ ((line_feed ∷ []) ∷ []))
      ((c ∷ cs) ++ (line_feed ∷ r)) r (blank_first (space_character ∷ [])
      ((c ∷ cs) ++ (line_feed ∷ r)) space_blank)
      (scans_append h.units ((line_feed ∷ []) ∷ []) ((c ∷ cs) ++ (line_feed ∷ r)) (line_feed ∷ r) r
      (scans_before_feed h.units (c ∷ cs) r h.split)
      (scans_unit (line_feed ∷ []) [] r r (blank_first (line_feed ∷ []) r feed_blank) refl)));
  no_token = (
    space_no_token,
    All-append (λ u. is_token u ≡ false) h.units ((line_feed ∷ []) ∷ []) h.no_token (
      feed_no_token,
      tt,
    ),
  );
}

gap_is : (g : List ℕ) {x : List (List ℕ)} (p : Gap g x) → concat p.units ≡ g
gap_is g p = sym (append-nil (concat p.units))
    ∙ (sym (scans_concat p.units (g ++ []) [] (p.scan [])) ∙ append-nil g)

gaps_gap : (g : List ℕ) {x : List (List ℕ)} (p : Gap g x) (vs : List (List ℕ))
    → gaps (p.units ++ vs) ≡ record { first = g ++ (gaps vs).first; tokens = (gaps vs).tokens }
gaps_gap g p vs = gaps_skip p.units vs p.no_token
    ∙ ap (λ z. record { first = z ++ (gaps vs).first; tokens = (gaps vs).tokens }) (gap_is g p)

-- ---- the value of a token is a token

-- ---- the law

-- the tokens of a policy and its comments, in order
abbrev pub solids : (ts : List Decorated) → AllByRecursion IsGood ts → List (List ℕ)
solids [] a = []
solids (t ∷ ts) a =
    t.leading ++ (token_value t.text ∷ (filter is_solid a.0.trailing.units ++ solids ts a.1))

-- the decorated list of s is that of ts, and the text before its first token has no trailing part
pub record Reading (ts : List Decorated) (s : List ℕ) (said : List (List ℕ)) : Type 0 where
  pub units : List (List ℕ)
  pub solid : filter is_solid units ≡ said
  pub split : SplitsInto s units
  pub before : trim (before_newline (gaps units).first) ≡ []
  pub after : comments (after_newline (gaps units).first) ≡ comments (gaps units).first
  pub value : listing units ≡ record { tokens = map with_value ts; closing = [] }

-- what follows a token's text
back_before : (tr f : List ℕ) → IsTrailing tr → trim (before_newline f) ≡ []
    → trim (before_newline (back tr ++ f)) ≡ tr
back_before [] f h e = e
back_before (c ∷ cs) f h e =
    let g : before_newline (space_character ∷ (((c ∷ cs) ++ (line_feed ∷ [])) ++ f))
    ≡ space_character ∷ before_newline (c ∷ cs) =
    before_cons space_character (((c ∷ cs) ++ (line_feed ∷ [])) ++ f)
    ∙ ap (λ z. space_character ∷ z)
    (ap before_newline (append_assoc (c ∷ cs) (line_feed ∷ []) f) ∙ before_join (c ∷ cs) f) in
    ap trim (g ∙ ap (λ z. space_character ∷ z) h.one_line) ∙ (trim_space (c ∷ cs) ∙ h.trimmed)

after_all : (g : List ℕ) → before_newline g ≡ g → after_newline g ≡ []
after_all [] e = refl
after_all (b ∷ g) e = rw (after_cons b g) (go (b == line_feed) (rw (before_cons b g) at e)
    (after_all g))
  where
    go : (t : Bool) → cond t [] (b ∷ before_newline g) ≡ b ∷ g
        → (before_newline g ≡ g → after_newline g ≡ []) → cond t g (after_newline g) ≡ []
    go true e ih = absurd cc
    go false e ih = ih (let f : b ∷ before_newline g ≡ b ∷ g = e in cc)

back_after : (tr f : List ℕ) → IsTrailing tr → comments (after_newline f) ≡ comments f
    → comments (after_newline (back tr ++ f)) ≡ comments f
back_after [] f h e = e
back_after (c ∷ cs) f h e =
    let g : after_newline (space_character ∷ (((c ∷ cs) ++ (line_feed ∷ [])) ++ f))
    ≡ after_newline ((c ∷ cs) ++ (line_feed ∷ f)) = after_cons space_character
    (((c ∷ cs) ++ (line_feed ∷ [])) ++ f)
    ∙ ap after_newline (append_assoc (c ∷ cs) (line_feed ∷ []) f) in
    ap comments g ∙ (comments_after_join (c ∷ cs) f
    ∙ ap (λ z. z ++ comments f) (ap comments (after_all (c ∷ cs) h.one_line) ∙ comments_nil))

reading_end : {b : List ℕ} → Blanks b → Reading [] b []
unfolding listing decorate gaps
reading_end {b} p =
    let g = gap_blanks p in
    let e : gaps g.units ≡ record { first = b ++ []; tokens = [] } =
    ends g.units (gaps_gap b g []) in
    record {
      units = g.units;
      solid = g.solid;
      split = ends_scan g.units (g.scan []);
      before = rw (e, append-nil b) (before_blanks p);
      after = rw (e, append-nil b) (after_blanks [] p ∙ sym (no_comments p));
      value = rw (e, append-nil b) (ap (λ z. record { tokens = []; closing = z }) (no_comments p));
    }
  where
    ends : (us : List (List ℕ))
        → gaps (us ++ []) ≡ record { first = b ++ (gaps []).first; tokens = (gaps []).tokens }
        → gaps us ≡ record { first = b ++ []; tokens = [] }
    ends us e = ap gaps (sym (append-nil us)) ∙ e

    ends_scan : (us : List (List ℕ)) → Scans us (b ++ []) [] → SplitsInto b us
    ends_scan us e = rw append-nil at e

-- what follows a token's text doesn't glue to it
apart_blanks : (c : ℕ) {b : List ℕ} → Blanks b → Apart c b
apart_blanks c no_blank = tt
apart_blanks c (a_space p) = refl
apart_blanks c (a_feed p) = refl

front_cases : (c : ℕ) {ls : List (List ℕ)} {g : List ℕ} → Front ls g
    → (g ≡ []) ⊎ ((x : List ℕ) → Apart c (g ++ x))
front_cases c (bare no_blank) = inl refl
front_cases c (bare (a_space p)) = inr (λ x. refl)
front_cases c (bare (a_feed p)) = inr (λ x. refl)
front_cases c (led no_blank q) = inr (λ x. refl)
front_cases c (led (a_space p) q) = inr (λ x. refl)
front_cases c (led (a_feed p) q) = inr (λ x. refl)

apart_text : (c : ℕ) (w r : List ℕ) → IsToken w → glues c (first_or space_character w) ≡ false
    → Apart c (w ++ r)
apart_text c [] r h n = absurd (no_empty_token h)
apart_text c (d ∷ w) r h n = n

apart_spelled : {c : ℕ} {ts : List Decorated} {s : List ℕ} → Spelled c ts s
    → AllByRecursion IsGood ts → Apart c s
apart_spelled {c} (the_end p) a = apart_blanks c p
apart_spelled {c} (a_token {g = g} {s = s} t f n r) a = elim (front_cases c f) [
  | inl e ↦ rw e (apart_text c (token_value t.text) (back t.trailing ++ s)
      (value_token t.text a.0.token) (rw e at n))
  | inr k ↦ k (token_value t.text ++ (back t.trailing ++ s))
]

-- after a token's text: a space, or what comes next
apart_back : (w tr s : List ℕ) → Apart (after_of w tr) s
    → Apart (last_byte_or space_character w) (back tr ++ s)
apart_back w [] s h = h
apart_back w (c ∷ cs) s h = refl

reading_token : (t : Decorated) (ts : List Decorated) (g s : List ℕ) {x : List (List ℕ)}
    (good : IsGood t) → Front t.leading g
    → Apart (last_byte_or space_character (token_value t.text)) (back t.trailing ++ s)
    → Reading ts s x
    → Reading (t ∷ ts) (g ++ (token_value t.text ++ (back t.trailing ++ s)))
    (t.leading ++ (token_value t.text ∷ (filter is_solid good.trailing.units ++ x)))
unfolding listing decorate
reading_token t ts g s good f apart r =
    let w = token_value t.text in
    let k : is_token w ≡ true = value_token t.text good.token in
    let front = gap_front f good.leading in
    let following = gap_back t.trailing good.trailing in
    let e : gaps (front.units ++ (w ∷ (following.units ++ r.units))) ≡ record {
      first = g ++ [];
      tokens = (w, back t.trailing ++ (gaps r.units).first) ∷ (gaps r.units).tokens;
    } =
    gaps_gap g front (w ∷ (following.units ++ r.units)) ∙ rw
    (one_token w (following.units ++ r.units) k, gaps_gap (back t.trailing) following r.units)
    refl in
    let same : decorate (after_newline (back t.trailing ++ (gaps r.units).first))
    (gaps r.units).tokens ≡ record { tokens = map with_value ts; closing = [] } =
    decorate_same (after_newline (back t.trailing ++ (gaps r.units).first)) (gaps r.units).first
    (gaps r.units).tokens (back_after t.trailing (gaps r.units).first good.trailing r.after)
    ∙ r.value in
    record {
      units = front.units ++ (w ∷ (following.units ++ r.units));
      solid = filter-append is_solid front.units (w ∷ (following.units ++ r.units)) ∙ rw (
        front.solid,
        token_solid w k,
        filter-append is_solid following.units r.units,
        following.solid,
        r.solid,
      ) refl;
      split = scans_append front.units (w ∷ (following.units ++ r.units))
          (g ++ (w ++ (back t.trailing ++ s))) (w ++ (back t.trailing ++ s)) []
          (front.scan (w ++ (back t.trailing ++ s)))
          (scans_unit w (following.units ++ r.units) (back t.trailing ++ s) []
          (token_first w (back t.trailing ++ s) k apart)
          (scans_append following.units r.units (back t.trailing ++ s) s []
          (following.scan s) r.split));
      before = rw (e, append-nil g) (front_before f);
      after =
          rw (e, append-nil g) (front_after f good.leading ∙ sym (front_comments f good.leading));
      value = rw (e, append-nil g) (rw (
        front_comments f good.leading,
        back_before t.trailing (gaps r.units).first good.trailing r.before,
        same,
      ) refl);
    }

pub reading : {c : ℕ} {ts : List Decorated} {s : List ℕ} → Spelled c ts s
    → (a : AllByRecursion IsGood ts) → Reading ts s (solids ts a)
reading (the_end p) a = reading_end p
reading (a_token {g = g} {s = s} {ts = ts} t f n r) a = reading_token t ts g s a.0 f
    (apart_back (token_value t.text) t.trailing s (apart_spelled r a.1)) (reading r a.1)

-- The decorated list of a text that meets the law of gaps is that of its tokens, by value.
pub spelled_reads : (c : ℕ) (ts : List Decorated) (s : List ℕ) → Spelled c ts s
    → AllByRecursion IsGood ts → IsListing s (record { tokens = map with_value ts; closing = [] })
spelled_reads c ts s p a =
    let r = reading p a in record { units = r.units; split = r.split; value = sym r.value }
