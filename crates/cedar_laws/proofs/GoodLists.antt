-- The decorated list of every UTF-8 text has good decorations, and so does its plain list.
use Rattle.std.proofs.Common.{◌≡◌, ℕ, Bool, true, false, cond, not, List, [], ◌∷◌, ◌++◌, map, refl, ap, sym, ◌∙◌, subst, append-nil}
use Rattle.std.specs.List.{list_all, AllByRecursion, concat, filter}
use Rattle.std.specs.Str.{trim, IsUtf8}
use Rattle.std.proofs.lemmas.Bool.{and_parts, not-true}
use Rattle.std.proofs.lemmas.List.Folds.{concat-append}
use Rattle.cedar_tokens.specs.Bytes.{line_feed}
use Rattle.cedar_tokens.specs.Units.{is_token, is_comment}
use Rattle.cedar_tokens.specs.Split.{SplitsInto}
use Rattle.cedar_tokens.specs.Listing.{Decorated, gaps, decorate, listing, comments}
use Rattle.cedar_tokens.specs.Inside.Newlines.{before_newline, after_newline}
use Rattle.cedar_tokens.specs.PlainList.{plain_from, is_trailing_comma, touches, with_trailing_of, with_lines_of}
use Rattle.cedar_laws.specs.Good.{IsGood, IsLine, IsTrailing}
use Rattle.cedar_laws.specs.GoodLaws.{EveryListIsGood, PlainListStaysGood}
use Rattle.cedar_laws.proofs.Listed.{comment_no_token}
use Rattle.cedar_laws.proofs.Joined.{after_cons, before_join}
use Rattle.cedar_laws.proofs.BlankLines.{AreUnits, units_parts, feedless, feedless_append, feedless_front, feedless_back}
use Rattle.cedar_laws.proofs.TrimmedUnits.{after_free}
use Rattle.cedar_laws.proofs.Ends.{trim_utf8}
use Rattle.cedar_laws.proofs.Spaces.{units_utf8, concat_utf8, units_comments, comment_feedless, AtFeed, no_feed, at_feed, find_feed}
use Rattle.cedar_laws.proofs.TrimmedLists.{trims, comment_cut, before_all, after_none}
use Rattle.cedar_tokens.proofs.UnitsSoFar.{scans_concat}
use Rattle.cedar_tokens.proofs.Lists.{All-append, All-parts}
use Rattle.cedar_tokens.proofs.Gaps.{NoTokens}

-- a text between two tokens
record GoodGap (g : List ℕ) : Type 0 where
  units : List (List ℕ)
  is : concat units ≡ g
  are_units : AreUnits units
  utf8 : AllByRecursion IsUtf8 units
  none : NoTokens units

comment_line : (u : List ℕ) → is_comment u ≡ true → IsUtf8 u → IsLine (trim u)
comment_line u h k =
    let c = comment_cut u h k in record { comment = c.comment; trimmed = c.once; utf8 = c.utf8 }

lines_good : (us : List (List ℕ)) → AllByRecursion IsUtf8 us
    → AllByRecursion IsLine (map trim (filter is_comment us))
lines_good [] a = tt
lines_good (u ∷ us) a = go (is_comment u) refl (lines_good us a.1)
  where
    go : (t : Bool) → is_comment u ≡ t → AllByRecursion IsLine (map trim (filter is_comment us))
        → AllByRecursion IsLine (map trim
        (cond t (u ∷ filter is_comment us) (filter is_comment us)))
    go true e ih = (comment_line u e a.0, ih)
    go false e ih = ih

comments_good : {g : List ℕ} → GoodGap g → AllByRecursion IsLine (comments g)
comments_good {g} k = subst (λ z. AllByRecursion IsLine z)
    (sym (units_comments k.units k.are_units k.none) ∙ ap comments k.is) (lines_good k.units k.utf8)

after_good : {g : List ℕ} → GoodGap g → AllByRecursion IsLine (comments (after_newline g))
after_good {g} k = subst (λ z. AllByRecursion IsLine (comments (after_newline z))) k.is
    (go (find_feed k.units k.are_units k.none))
  where
    go : AtFeed k.units → AllByRecursion IsLine (comments (after_newline (concat k.units)))
    go (no_feed f) = subst (λ z. AllByRecursion IsLine z) (sym (after_none (concat k.units) f)) tt
    go (at_feed fs bs e f) =
        let text : concat k.units ≡ concat fs ++ (line_feed ∷ concat bs) =
        ap concat e ∙ concat-append fs ((line_feed ∷ []) ∷ bs) in
        let after : after_newline (concat k.units) ≡ concat bs = ap after_newline text
        ∙ (after_free (concat fs) (line_feed ∷ concat bs) f ∙ after_cons line_feed (concat bs)) in
        let p = units_parts ((line_feed ∷ []) ∷ []) bs
        (units_parts fs ((line_feed ∷ []) ∷ bs) (subst (λ z. AreUnits z) e k.are_units)).1 in
        let u =
        All-parts IsUtf8 fs ((line_feed ∷ []) ∷ bs)
        (subst (λ z. AllByRecursion IsUtf8 z) e k.utf8) in
        let n = All-parts (λ u. is_token u ≡ false) fs ((line_feed ∷ []) ∷ bs)
        (subst (λ z. NoTokens z) e k.none) in
        let b : GoodGap (concat bs) =
        record { units = bs; is = refl; are_units = p.1; utf8 = u.1.1; none = n.1.1 } in
        subst (λ z. AllByRecursion IsLine (comments z)) (sym after) (comments_good b)

-- tests of all units
all_feedless : (us : List (List ℕ)) → feedless (concat us) ≡ true → list_all feedless us ≡ true
all_feedless [] h = refl
all_feedless (u ∷ us) h =
    rw (feedless_front u (concat us) h) (all_feedless us (feedless_back u (concat us) h))

feedless_all : (us : List (List ℕ)) → list_all feedless us ≡ true → feedless (concat us) ≡ true
feedless_all [] h = refl
feedless_all (u ∷ us) h =
    let p = and_parts (feedless u) (list_all feedless us) h in
    feedless_append u (concat us) p.0 (feedless_all us p.1)

abbrev tokenless : List ℕ → Bool
tokenless u = not (is_token u)

all_tokenless : (us : List (List ℕ)) → NoTokens us → list_all tokenless us ≡ true
all_tokenless [] a = refl
all_tokenless (u ∷ us) a = rw a.0 (all_tokenless us a.1)

tokenless_all : (us : List (List ℕ)) → list_all tokenless us ≡ true → NoTokens us
tokenless_all [] h = tt
tokenless_all (u ∷ us) h =
    let p = and_parts (tokenless u) (list_all tokenless us) h in
    (not-true (is_token u) p.0, tokenless_all us p.1)

one_line_good : (us : List (List ℕ)) → AreUnits us → AllByRecursion IsUtf8 us → NoTokens us
    → feedless (concat us) ≡ true → IsTrailing (trim (concat us))
one_line_good us p u n f =
    let t = trims us p u in
    let free : feedless (concat t.units) ≡ true =
    feedless_all t.units (t.keeps feedless comment_feedless (all_feedless us f)) in
    let none : NoTokens t.units = tokenless_all t.units
    (t.keeps tokenless (λ v k. rw (comment_no_token v k) refl) (all_tokenless us n)) in
    record {
      trimmed = subst (λ z. trim z ≡ z) t.is t.once;
      one_line = subst (λ z. before_newline z ≡ z) t.is (before_all (concat t.units) free);
      utf8 = trim_utf8 (concat us) (concat_utf8 us u);
      units = t.units;
      split = subst (λ z. SplitsInto z t.units) t.is t.are_units;
      no_token = none;
    }

before_good : {g : List ℕ} → GoodGap g → IsTrailing (trim (before_newline g))
before_good {g} k =
    subst (λ z. IsTrailing (trim (before_newline z))) k.is
    (go (find_feed k.units k.are_units k.none))
  where
    go : AtFeed k.units → IsTrailing (trim (before_newline (concat k.units)))
    go (no_feed f) = subst (λ z. IsTrailing (trim z)) (sym (before_all (concat k.units) f))
        (one_line_good k.units k.are_units k.utf8 k.none f)
    go (at_feed fs bs e f) =
        let text : concat k.units ≡ concat fs ++ (line_feed ∷ concat bs) =
        ap concat e ∙ concat-append fs ((line_feed ∷ []) ∷ bs) in
        let before : before_newline (concat k.units) ≡ concat fs =
        ap before_newline text ∙ (before_join (concat fs) (concat bs) ∙ before_all (concat fs) f) in
        let p = units_parts fs ((line_feed ∷ []) ∷ bs) (subst (λ z. AreUnits z) e k.are_units) in
        let u =
        All-parts IsUtf8 fs ((line_feed ∷ []) ∷ bs)
        (subst (λ z. AllByRecursion IsUtf8 z) e k.utf8) in
        let n = All-parts (λ u. is_token u ≡ false) fs ((line_feed ∷ []) ∷ bs)
        (subst (λ z. NoTokens z) e k.none) in
        subst (λ z. IsTrailing (trim z)) (sym before) (one_line_good fs p.0 u.0 n.0 f)

-- ---- the gaps of a text

record FirstGap (us : List (List ℕ)) : Type 0 where
  units : List (List ℕ)
  rest : List (List ℕ)
  are : us ≡ units ++ rest
  is : concat units ≡ (gaps us).first
  none : NoTokens units

first_gap : (us : List (List ℕ)) → FirstGap us
unfolding gaps
first_gap [] = record { units = []; rest = []; are = refl; is = refl; none = tt }
first_gap (u ∷ us) = go (is_token u) refl (first_gap us)
  where
    go : (t : Bool) → is_token u ≡ t → FirstGap us → FirstGap (u ∷ us)
    go true e r = record { units = []; rest = u ∷ us; are = refl; is = rw e refl; none = tt }
    go false e r = record {
      units = u ∷ r.units;
      rest = r.rest;
      are = ap (λ z. u ∷ z) r.are;
      is = rw e (ap (λ z. u ++ z) r.is);
      none = (e, r.none);
    }

gap_of : (us : List (List ℕ)) → AreUnits us → AllByRecursion IsUtf8 us → GoodGap (gaps us).first
gap_of us p u =
    let r = first_gap us in
    record {
      units = r.units;
      is = r.is;
      are_units = (units_parts r.units r.rest (subst (λ z. AreUnits z) r.are p)).0;
      utf8 = (All-parts IsUtf8 r.units r.rest (subst (λ z. AllByRecursion IsUtf8 z) r.are u)).0;
      none = r.none;
    }

-- a token and the gap after it
record GoodToken (t : List ℕ × List ℕ) : Type 0 where
  token : is_token t.0 ≡ true
  utf8 : IsUtf8 t.0
  gap : GoodGap t.1

gaps_of : (us : List (List ℕ)) → AreUnits us → AllByRecursion IsUtf8 us
    → AllByRecursion GoodToken (gaps us).tokens
unfolding gaps
gaps_of [] p a = tt
gaps_of (u ∷ us) p a = go (is_token u) refl (gap_of us (units_parts (u ∷ []) us p).1 a.1)
    (gaps_of us (units_parts (u ∷ []) us p).1 a.1)
  where
    go : (t : Bool) → is_token u ≡ t → GoodGap (gaps us).first
        → AllByRecursion GoodToken (gaps us).tokens
        → AllByRecursion GoodToken (gaps (u ∷ us)).tokens
    go true e g r = rw e (record { token = e; utf8 = a.0; gap = g }, r)
    go false e g r = rw e r

decorate_good : (ts : List (List ℕ × List ℕ)) (f : List ℕ) → AllByRecursion IsLine (comments f)
    → AllByRecursion GoodToken ts
    → AllByRecursion IsGood (decorate f ts).tokens × AllByRecursion IsLine (decorate f ts).closing
unfolding decorate
decorate_good [] f c a = (tt, c)
decorate_good (t ∷ ts) f c a =
    let r = decorate_good ts (after_newline t.1) (after_good a.0.gap) a.1 in (
      (
        record { token = a.0.token; utf8 = a.0.utf8; leading = c; trailing = before_good a.0.gap },
        r.0,
      ),
      r.1,
    )

pub every_list_good : EveryListIsGood
unfolding listing
every_list_good x l u s =
    let e : concat s.units ≡ x =
    sym (append-nil (concat s.units)) ∙ sym (scans_concat s.units x [] s.split) in
    let p = subst (λ y. SplitsInto y s.units) (sym e) s.split in
    let v = units_utf8 s.units x u s.split in
    let g = decorate_good (gaps s.units).tokens (gaps s.units).first
    (comments_good (gap_of s.units p v)) (gaps_of s.units p v) in
    subst (λ m. AllByRecursion IsGood m.tokens × AllByRecursion IsLine m.closing) (sym s.value) g

-- ---- the plain list

trailing_lines : (tr : List ℕ) → IsTrailing tr → AllByRecursion IsLine (comments tr)
trailing_lines tr h =
    let e : concat h.units ≡ tr =
    sym (append-nil (concat h.units)) ∙ sym (scans_concat h.units tr [] h.split) in
    let g : GoodGap tr = record {
      units = h.units;
      is = e;
      are_units = subst (λ y. SplitsInto y h.units) (sym e) h.split;
      utf8 = units_utf8 h.units tr h.utf8 h.split;
      none = h.no_token;
    } in
    comments_good g

with_lines_good : (b c : Decorated) → IsGood b → IsGood c → IsGood (with_lines_of b c)
with_lines_good b c g h = record {
  token = g.token;
  utf8 = g.utf8;
  leading = All-append IsLine c.leading (comments c.trailing ++ b.leading) h.leading (All-append
      IsLine (comments c.trailing) b.leading (trailing_lines c.trailing h.trailing) g.leading);
  trailing = g.trailing;
}

with_trailing_good : (d c : Decorated) → IsGood d → IsGood c → IsGood (with_trailing_of d c)
with_trailing_good d c g h =
    record { token = g.token; utf8 = g.utf8; leading = g.leading; trailing = h.trailing }

plain_from_good : (ts : List Decorated) (d : Decorated) → IsGood d → AllByRecursion IsGood ts
    → AllByRecursion IsGood (plain_from d ts)
plain_from_good [] d g a = (g, tt)
plain_from_good (c ∷ []) d g a = (g, a)
plain_from_good (c ∷ (b ∷ ts)) d g a =
    go (is_trailing_comma c b) (touches d c) (plain_from_good ts b a.1.0 a.1.1) (plain_from_good ts
    (with_lines_of b c) (with_lines_good b c a.1.0 a.0) a.1.1) (plain_from_good (b ∷ ts) c a.0 a.1)
  where
    go : (s t : Bool) → AllByRecursion IsGood (plain_from b ts)
        → AllByRecursion IsGood (plain_from (with_lines_of b c) ts)
        → AllByRecursion IsGood (plain_from c (b ∷ ts))
        → AllByRecursion IsGood (cond s (cond t (with_trailing_of d c ∷ plain_from b ts)
        (d ∷ plain_from (with_lines_of b c) ts)) (d ∷ plain_from c (b ∷ ts)))
    go true true p q r = (with_trailing_good d c g a.0, p)
    go true false p q r = (g, q)
    go false t p q r = (g, r)

pub plain_list_good : PlainListStaysGood
plain_list_good [] a = tt
plain_list_good (c ∷ []) a = a
plain_list_good (c ∷ (b ∷ ts)) a = go (is_trailing_comma c b)
  where
    go : (s : Bool)
        → AllByRecursion IsGood (cond s (plain_from (with_lines_of b c) ts) (plain_from c (b ∷ ts)))
    go true = plain_from_good ts (with_lines_of b c) (with_lines_good b c a.1.0 a.0) a.1.1
    go false = plain_from_good (b ∷ ts) c a.0 a.1
