-- What the tokens and comments of a text may cost, by its bytes.
use Rattle.std.proofs.Common.{◌≡◌, ℕ, zero, suc, ◌+◌, ◌-◌, ◌*◌, ◌≤◌, ◌<◌, Bool, true, false, cond, not, ◌==◌, ◌&&◌, List, [], ◌∷◌, ◌++◌, length, map, refl, sym, ap, ◌∙◌, subst, arith, length-append, append-nil, take, drop}
use Rattle.std.specs.List.{AllByRecursion, concat, filter, prefix_len}
use Rattle.std.proofs.lemmas.List.{take-append-drop, length-drop}
use Rattle.std.specs.Char.{encode_utf8, is_whitespace}
use Rattle.std.specs.Str.{IsUtf8, trim, chars, encode_utf8_all, skip_leading_whitespace, drop_trailing_whitespace}
use Rattle.std.proofs.lemmas.List.Folds.{concat-append}
use Rattle.std.proofs.lemmas.Str.{encodes-chars}
use Rattle.cedar_tokens.specs.Bytes.{line_feed}
use Rattle.cedar_tokens.specs.Units.{is_token, is_comment}
use Rattle.cedar_tokens.specs.Split.{SplitsInto}
use Rattle.cedar_tokens.specs.Listing.{Decorated, Listing, IsListing, comments, gaps, decorate, listing}
use Rattle.cedar_tokens.specs.PlainList.{plain_list, plain_from, is_trailing_comma, touches, with_trailing_of, with_lines_of}
use Rattle.cedar_tokens.specs.Inside.Newlines.{before_newline, after_newline}
use Rattle.cedar_tokens.proofs.UnitsSoFar.{scans_concat}
use Rattle.cedar_tokens.proofs.Heads.{no_empty_token}
use Rattle.cedar_tokens.proofs.Lists.{All-parts}
use Rattle.cedar_tokens.proofs.Gaps.{NoTokens}
use Rattle.cedar_layout.specs.Comments.{lead_of, broken_lines}
use Rattle.cedar_laws.specs.Good.{IsGood, IsTrailing}
use Rattle.cedar_laws.proofs.BlankLines.{AreUnits, units_parts}
use Rattle.cedar_laws.proofs.Ends.{trim_is}
use Rattle.cedar_laws.proofs.Joined.{after_cons, before_join}
use Rattle.cedar_laws.proofs.Spaces.{units_utf8, concat_utf8, units_comments, AtFeed, no_feed, at_feed, find_feed}
use Rattle.cedar_laws.proofs.TrimmedLists.{before_all, after_none}
use Rattle.cedar_laws.proofs.TrimmedUnits.{after_free}
use Rattle.cedar_written.proofs.Documents.{cost}
use Rattle.cedar_written.proofs.Languages.{charge, le_charge, weight, weights}

-- ---- trimming

skip_length : (cs : List ℕ) → length (encode_utf8_all (skip_leading_whitespace cs)) ≤ length (encode_utf8_all cs)
skip_length [] = omega arith
skip_length (c ∷ cs) = go (is_whitespace c) (skip_length cs)
  where
    go : (t : Bool) → length (encode_utf8_all (skip_leading_whitespace cs)) ≤ length (encode_utf8_all cs)
        → length (encode_utf8_all (cond t (skip_leading_whitespace cs) (c ∷ cs))) ≤ length (encode_utf8_all (c ∷ cs))
    go true h = omega (arith, h, length-append (encode_utf8 c) (encode_utf8_all cs))
    go false h = omega arith

drop_length : (cs : List ℕ) → length (encode_utf8_all (drop_trailing_whitespace cs)) ≤ length (encode_utf8_all cs)
drop_length [] = omega arith
drop_length (c ∷ cs) = go (is_whitespace c && length (drop_trailing_whitespace cs) == 0) (drop_length cs)
  where
    go : (t : Bool) → length (encode_utf8_all (drop_trailing_whitespace cs)) ≤ length (encode_utf8_all cs)
        → length (encode_utf8_all (cond t [] (c ∷ drop_trailing_whitespace cs))) ≤ length (encode_utf8_all (c ∷ cs))
    go true h = omega arith
    go false h = omega (
      arith,
      h,
      length-append (encode_utf8 c) (encode_utf8_all cs),
      length-append (encode_utf8 c) (encode_utf8_all (drop_trailing_whitespace cs)),
    )

pub trim_length : (x : List ℕ) → IsUtf8 x → length (trim x) ≤ length x
trim_length x u = omega (
  arith,
  ap length (trim_is x u),
  drop_length (skip_leading_whitespace (chars x)),
  skip_length (chars x),
  ap length (encodes-chars x u),
)

-- ---- the lines before a token

abbrev pub lines_cost : ℕ → List (List ℕ) → ℕ
lines_cost u [] = 0
lines_cost u (l ∷ ls) = length l + 2 * u + lines_cost u ls

broken_cost : (u : ℕ) (ls : List (List ℕ)) → cost u (broken_lines ls) ≤ lines_cost u ls
broken_cost u [] = omega arith
broken_cost u (l ∷ ls) = omega (arith, broken_cost u ls)

lead_cost : (u : ℕ) (ls : List (List ℕ)) → cost u (lead_of ls) ≤ lines_cost u ls
lead_cost u [] = omega arith
lead_cost u (l ∷ ls) = omega (arith, broken_cost u ls)

broken_append : (u : ℕ) (ls ms : List (List ℕ)) → cost u (broken_lines (ls ++ ms)) ≡ cost u (broken_lines ls) + cost u (broken_lines ms)
broken_append u [] ms = omega arith
broken_append u (l ∷ ls) ms = omega (arith, broken_append u ls ms)

broken_lead : (u : ℕ) (ls : List (List ℕ)) → cost u (broken_lines ls) ≤ cost u (lead_of ls)
broken_lead u [] = omega arith
broken_lead u (l ∷ ls) = omega arith

lead_append : (u : ℕ) (ls ms : List (List ℕ)) → cost u (lead_of (ls ++ ms)) ≤ cost u (lead_of ls) + cost u (lead_of ms)
lead_append u [] ms = omega arith
lead_append u (l ∷ ls) ms = omega (arith, broken_append u ls ms, broken_lead u ms)

-- ---- gaps between tokens

record Gap (g : List ℕ) : Type 0 where
  units : List (List ℕ)
  is : concat units ≡ g
  are_units : AreUnits units
  utf8 : AllByRecursion IsUtf8 units
  none : NoTokens units

charge_add : (u m n : ℕ) → charge u (m + n) ≡ charge u m + charge u n
charge_add u zero n =
    let e : zero + n ≡ n = omega arith in omega (arith, ap (charge u) e)
charge_add u (suc m) n =
    let e : suc m + n ≡ suc (m + n) = omega arith in omega (arith, ap (charge u) e, charge_add u m n)

charge_le : (u m n : ℕ) → m ≤ n → charge u m ≤ charge u n
charge_le u m n h =
    let e : n ≡ m + (n - m) = omega (arith, h) in omega (arith, ap (charge u) e, charge_add u m (n - m))

line_charge : (u : ℕ) (v : List ℕ) → is_comment v ≡ true → IsUtf8 v → length (trim v) + 2 * u ≤ charge u (length v)
line_charge u [] h k = absurd cc
line_charge u (a ∷ []) h k = absurd cc
line_charge u (a ∷ (b ∷ v)) h k = omega (arith, trim_length (a ∷ (b ∷ v)) k, le_charge u (length v))

units_charge : (u : ℕ) (us : List (List ℕ)) → AllByRecursion IsUtf8 us
    → lines_cost u (map trim (filter is_comment us)) ≤ charge u (length (concat us))
units_charge u [] a = omega arith
units_charge u (v ∷ us) a = go (is_comment v) refl (units_charge u us a.1)
  where
    whole : charge u (length (concat (v ∷ us))) ≡ charge u (length v) + charge u (length (concat us))
    whole = ap (charge u) (length-append v (concat us)) ∙ charge_add u (length v) (length (concat us))

    go : (t : Bool) → is_comment v ≡ t → lines_cost u (map trim (filter is_comment us)) ≤ charge u (length (concat us))
        → lines_cost u (map trim (cond t (v ∷ filter is_comment us) (filter is_comment us))) ≤ charge u (length (concat (v ∷ us)))
    go true e h = omega (arith, h, whole, line_charge u v e a.0)
    go false e h = omega (arith, h, whole)

comments_charge : (u : ℕ) {g : List ℕ} → Gap g → lines_cost u (comments g) ≤ charge u (length g)
comments_charge u {g} k = omega (
  arith,
  ap (lines_cost u) (sym (ap comments k.is) ∙ units_comments k.units k.are_units k.none),
  units_charge u k.units k.utf8,
  ap (λ z. charge u (length z)) k.is,
)

-- a gap up to its first line feed, and from there on
record Halves (g : List ℕ) : Type 0 where
  before : IsUtf8 (before_newline g)
  after : (u : ℕ) → lines_cost u (comments (after_newline g)) ≤ charge u (length (after_newline g))

halves : {g : List ℕ} → Gap g → Halves g
halves {g} k = subst Halves k.is (go (find_feed k.units k.are_units k.none))
  where
    go : AtFeed k.units → Halves (concat k.units)
    go (no_feed f) = record {
      before = subst IsUtf8 (sym (before_all (concat k.units) f)) (concat_utf8 k.units k.utf8);
      after = λ u. omega (arith, ap (lines_cost u) (after_none (concat k.units) f));
    }
    go (at_feed fs bs e f) =
        let text : concat k.units ≡ concat fs ++ (line_feed ∷ concat bs) =
        ap concat e ∙ concat-append fs ((line_feed ∷ []) ∷ bs) in
        let before : before_newline (concat k.units) ≡ concat fs =
        ap before_newline text ∙ (before_join (concat fs) (concat bs) ∙ before_all (concat fs) f) in
        let after : after_newline (concat k.units) ≡ concat bs = ap after_newline text
        ∙ (after_free (concat fs) (line_feed ∷ concat bs) f ∙ after_cons line_feed (concat bs)) in
        let p = units_parts ((line_feed ∷ []) ∷ []) bs
        (units_parts fs ((line_feed ∷ []) ∷ bs) (subst (λ z. AreUnits z) e k.are_units)).1 in
        let v =
        All-parts IsUtf8 fs ((line_feed ∷ []) ∷ bs)
        (subst (λ z. AllByRecursion IsUtf8 z) e k.utf8) in
        let n = All-parts (λ u. is_token u ≡ false) fs ((line_feed ∷ []) ∷ bs)
        (subst (λ z. NoTokens z) e k.none) in
        let rest : Gap (after_newline (concat k.units)) =
        record { units = bs; is = sym after; are_units = p.1; utf8 = v.1.1; none = n.1.1 } in
        record {
          before = subst IsUtf8 (sym before) (concat_utf8 fs v.0);
          after = λ u. comments_charge u rest;
        }

halves_length : (g : List ℕ) → length (before_newline g) + length (after_newline g) ≤ length g
halves_length g = cut (prefix_len (λ b. not (b == line_feed)) g)
  where
    cut : (n : ℕ) → length (take n g) + length (drop (n + 1) g) ≤ length g
    cut n = omega (
      arith,
      length-append (take n g) (drop n g),
      ap length (take-append-drop n g),
      length-drop n g,
      length-drop (n + 1) g,
    )

-- ---- the decorated list

-- a token and the gap after it
record Followed (t : List ℕ × List ℕ) : Type 0 where
  some : 0 < length t.0
  gap : Gap t.1

-- the bytes of tokens and of the gaps after them
abbrev bytes : List (List ℕ × List ℕ) → ℕ
bytes [] = 0
bytes (t ∷ ts) = length t.0 + length t.1 + bytes ts

decorate_cost : (u : ℕ) (ts : List (List ℕ × List ℕ)) (f : List ℕ)
    → lines_cost u (comments f) ≤ charge u (length f) → AllByRecursion Followed ts
    → weights u (decorate f ts).tokens + lines_cost u (decorate f ts).closing ≤ charge u (length f + bytes ts)
unfolding decorate
decorate_cost u [] f h a = omega (arith, h, charge_add u (length f) 0)
decorate_cost u ((t, g) ∷ ts) f h a =
    let k = halves a.0.gap in
    let before = before_newline g in
    let after = after_newline g in
    let rest = decorate_cost u ts after (k.after u) a.1 in
    omega (
      arith,
      h,
      rest,
      lead_cost u (comments f),
      charge_le u (length (trim before)) (length before) (trim_length before k.before),
      token_charge (length t) a.0.some,
      charge_add u (length f) (length t + length g + bytes ts),
      charge_add u (length t + length g) (bytes ts),
      charge_add u (length t) (length g),
      charge_add u (length before) (length after),
      charge_le u (length before + length after) (length g) (halves_length g),
      charge_add u (length after) (bytes ts),
    )
  where
    token_charge : (n : ℕ) → 0 < n → n + u ≤ charge u n
    token_charge zero h = omega (arith, h)
    token_charge (suc n) h = omega (arith, le_charge u n)

record Gapped (us : List (List ℕ)) : Type 0 where
  rest : List (List ℕ)
  front : List (List ℕ)
  are : us ≡ front ++ rest
  is : concat front ≡ (gaps us).first
  none : NoTokens front

gapped : (us : List (List ℕ)) → Gapped us
unfolding gaps
gapped [] = record { rest = []; front = []; are = refl; is = refl; none = tt }
gapped (u ∷ us) = go (is_token u) refl (gapped us)
  where
    go : (t : Bool) → is_token u ≡ t → Gapped us → Gapped (u ∷ us)
    go true e r = record { rest = u ∷ us; front = []; are = refl; is = rw e refl; none = tt }
    go false e r = record {
      rest = r.rest;
      front = u ∷ r.front;
      are = ap (λ z. u ∷ z) r.are;
      is = rw e (ap (λ z. u ++ z) r.is);
      none = (e, r.none);
    }

first_gap : (us : List (List ℕ)) → AreUnits us → AllByRecursion IsUtf8 us → Gap (gaps us).first
first_gap us p a =
    let r = gapped us in
    record {
      units = r.front;
      is = r.is;
      are_units = (units_parts r.front r.rest (subst (λ z. AreUnits z) r.are p)).0;
      utf8 = (All-parts IsUtf8 r.front r.rest (subst (λ z. AllByRecursion IsUtf8 z) r.are a)).0;
      none = r.none;
    }

token_length : (u : List ℕ) → is_token u ≡ true → 0 < length u
token_length [] h = absurd (no_empty_token h)
token_length (b ∷ u) h = omega arith

followed : (us : List (List ℕ)) → AreUnits us → AllByRecursion IsUtf8 us → AllByRecursion Followed (gaps us).tokens
unfolding gaps
followed [] p a = tt
followed (u ∷ us) p a = go (is_token u) refl (first_gap us (units_parts (u ∷ []) us p).1 a.1)
    (followed us (units_parts (u ∷ []) us p).1 a.1)
  where
    go : (t : Bool) → is_token u ≡ t → Gap (gaps us).first → AllByRecursion Followed (gaps us).tokens
        → AllByRecursion Followed (gaps (u ∷ us)).tokens
    go true e g r = rw e (record { some = token_length u e; gap = g }, r)
    go false e g r = rw e r

gaps_bytes : (us : List (List ℕ)) → length (gaps us).first + bytes (gaps us).tokens ≡ length (concat us)
unfolding gaps
gaps_bytes [] = omega arith
gaps_bytes (u ∷ us) = go (is_token u) refl (gaps_bytes us)
  where
    go : (t : Bool) → is_token u ≡ t → length (gaps us).first + bytes (gaps us).tokens ≡ length (concat us)
        → length (gaps (u ∷ us)).first + bytes (gaps (u ∷ us)).tokens ≡ length (u ++ concat us)
    go true e h = rw e (omega (arith, h, length-append u (concat us)))
    go false e h = rw e (omega (arith, h, length-append u (concat us), length-append u (gaps us).first))

-- the tokens and comments of a text cost no more than its bytes
pub list_cost : (u : ℕ) (x : List ℕ) (l : Listing) → IsUtf8 x → IsListing x l
    → weights u l.tokens + lines_cost u l.closing ≤ charge u (length x)
unfolding listing
list_cost u x l h s =
    let e : concat s.units ≡ x =
    sym (append-nil (concat s.units)) ∙ sym (scans_concat s.units x [] s.split) in
    let p = subst (λ y. SplitsInto y s.units) (sym e) s.split in
    let v = units_utf8 s.units x h s.split in
    let g = gaps s.units in
    subst (λ (m : Listing). weights u m.tokens + lines_cost u m.closing ≤ charge u (length x)) (sym s.value)
    (omega (
      arith,
      decorate_cost u g.tokens g.first (comments_charge u (first_gap s.units p v)) (followed s.units p v),
      ap (charge u) (gaps_bytes s.units ∙ ap length e),
    ))

-- ---- the plain list

trailing_gap : (tr : List ℕ) → IsTrailing tr → Gap tr
trailing_gap tr h =
    let e : concat h.units ≡ tr =
    sym (append-nil (concat h.units)) ∙ sym (scans_concat h.units tr [] h.split) in
    record {
      units = h.units;
      is = e;
      are_units = subst (λ y. SplitsInto y h.units) (sym e) h.split;
      utf8 = units_utf8 h.units tr h.utf8 h.split;
      none = h.no_token;
    }

moved_cost : (u : ℕ) (b c : Decorated) → IsGood c → weight u (with_lines_of b c) ≤ weight u c + weight u b
moved_cost u b c g = omega (
  arith,
  lead_append u c.leading (comments c.trailing ++ b.leading),
  lead_append u (comments c.trailing) b.leading,
  lead_cost u (comments c.trailing),
  comments_charge u (trailing_gap c.trailing g.trailing),
)

plain_from_cost : (u : ℕ) (ts : List Decorated) (d : Decorated) → AllByRecursion IsGood ts
    → weights u (plain_from d ts) ≤ weights u (d ∷ ts)
plain_from_cost u [] d a = omega arith
plain_from_cost u (c ∷ []) d a = omega arith
plain_from_cost u (c ∷ (b ∷ ts)) d a =
    go (is_trailing_comma c b) (touches d c) (plain_from_cost u ts b a.1.1)
    (plain_from_cost u ts (with_lines_of b c) a.1.1) (plain_from_cost u (b ∷ ts) c a.1)
  where
    go : (s t : Bool) → weights u (plain_from b ts) ≤ weights u (b ∷ ts)
        → weights u (plain_from (with_lines_of b c) ts) ≤ weights u (with_lines_of b c ∷ ts)
        → weights u (plain_from c (b ∷ ts)) ≤ weights u (c ∷ (b ∷ ts))
        → weights u (cond s (cond t (with_trailing_of d c ∷ plain_from b ts)
        (d ∷ plain_from (with_lines_of b c) ts)) (d ∷ plain_from c (b ∷ ts))) ≤ weights u (d ∷ (c ∷ (b ∷ ts)))
    go true true p q r = omega (arith, p)
    go true false p q r = omega (arith, q, moved_cost u b c a.0)
    go false t p q r = omega (arith, r)

pub plain_cost : (u : ℕ) (ts : List Decorated) → AllByRecursion IsGood ts → weights u (plain_list ts) ≤ weights u ts
plain_cost u [] a = omega arith
plain_cost u (c ∷ []) a = omega arith
plain_cost u (c ∷ (b ∷ ts)) a = go (is_trailing_comma c b)
  where
    go : (s : Bool) → weights u (cond s (plain_from (with_lines_of b c) ts) (plain_from c (b ∷ ts)))
        ≤ weights u (c ∷ (b ∷ ts))
    go true = omega (arith, plain_from_cost u ts (with_lines_of b c) a.1.1, moved_cost u b c a.0)
    go false = plain_from_cost u (b ∷ ts) c a.1
