-- Trimming keeps the decorated list of every UTF-8 text that splits.
use Rattle.std.proofs.Common.{◌≡◌, ℕ, ◌<◌, Bool, true, false, cond, not, ◌&&◌, ◌⊎◌, inl, inr, List, [], ◌∷◌, ◌++◌, Some, None, length, get_or, map, take, drop, refl, ap, arith, sym, ◌∙◌, subst, nat_lt, append_assoc, append-nil, length-append}
use Rattle.std.specs.List.{list_all, AllByRecursion, concat, filter}
use Rattle.std.specs.Char.{is_whitespace}
use Rattle.std.specs.Str.{trim, chars, IsUtf8, encode_utf8_all, drop_trailing_whitespace}
use Rattle.std.proofs.Math.Seq.{drop-append_seam, take-append_seam, get_or-append_seam}
use Rattle.std.proofs.lemmas.Bool.Decides.{nat_tests, Decides-ltb}
use Rattle.std.proofs.lemmas.List.{map-append}
use Rattle.std.proofs.lemmas.List.Elements.{filter-append}
use Rattle.std.proofs.lemmas.Str.{IsUtf8-take, IsUtf8-append, encode_ascii, chars-append, chars-nil, IsCharBoundary-before_ascii, encodes-chars}
use Rattle.std.proofs.lemmas.Bool.{and_parts, false_from_ne_true, not-true}
use Rattle.std.proofs.lemmas.List.Folds.{concat-append, list_all-append}
use Rattle.cedar_tokens.specs.Bytes.{line_feed, slash}
use Rattle.cedar_tokens.specs.Units.{IsBlank, IsToken, IsComment, IsUnit, blank, comment, token, is_token, is_comment, is_comment_byte, is_word_byte, slots, punctuators}
use Rattle.cedar_tokens.specs.Split.{Scans}
use Rattle.cedar_tokens.specs.Listing.{listing, gaps, decorate, comments}
use Rattle.cedar_tokens.specs.Inside.Newlines.{before_newline, after_newline}
use Rattle.cedar_tokens.proofs.Heads.{class, class-white, class-blank, token_of, no_empty_token, token_class}
use Rattle.cedar_tokens.proofs.FirstUnit.{comment_parts, unit_nonempty, low_from_class}
use Rattle.cedar_tokens.proofs.CommentLines.{comments_nil}
use Rattle.cedar_tokens.proofs.Lists.{All-append, All-parts}
use Rattle.cedar_tokens.proofs.Gaps.{NoTokens}
use Rattle.cedar_laws.specs.CleaningLaws.{is_solid, Thinned, no_units, unit_stays, blank_goes, with_last_trimmed}
use Rattle.cedar_laws.proofs.Units.{comment_first, comment_not_token}
use Rattle.cedar_laws.proofs.Scanned.{scans_unit, scans_append}
use Rattle.cedar_laws.proofs.Joined.{before_cons, before_join, comments_after_join}
use Rattle.cedar_laws.proofs.Listed.{gaps_skip, one_token, trim_nil, comment_no_token}
use Rattle.cedar_laws.proofs.BlankLines.{lined, lined_append, is_feed, token_solid, comment_solid, blank_not_solid, thinned_same, thinned_append, thinned_blanks, blank_no_comment, AreUnits, units_parts, AllBlank, blanks_no_token, feedless, feedless_append, chars_low, blank_feed}
use Rattle.cedar_laws.proofs.TrimmedUnits.{trim_blank, front_blank_goes, before_free, after_free, blanks_after, same_front, token_end}
use Rattle.cedar_laws.proofs.Ends.{trim_back, chars_trim, trim_utf8, StartsBlack, trimmed_tail, trim_same, drop_twice, drop_after, stays_black}
use Rattle.cedar_laws.proofs.Spaces.{concat_utf8, units_comments, comment_feedless, AtFeed, no_feed, at_feed, find_feed, scans_shorter}
use Rattle.cedar_tokens.proofs.LastBytes.{token_ends}

-- ---- the last character of a token

abbrev black : ℕ → Bool
black x = nat_lt x 128 && not (is_whitespace x)

word_black : (x : ℕ) → is_word_byte x ≡ true → black x ≡ true
word_black x h = grind (arith, nat_tests)

class_black : (b : ℕ) → 0 < class b → black b ≡ true
class_black b h = go (nat_lt b 128) refl (is_whitespace b) refl
  where
    go : (s : Bool) → nat_lt b 128 ≡ s → (t : Bool) → is_whitespace b ≡ t → black b ≡ true
    go true f true g = absurd (omega (arith, h, class-white b ((Decides-ltb b 128).0 f) g))
    go true f false g = rw (f, g) refl
    go false f t g = absurd (let l = (Decides-ltb b 128).1 (low_from_class b h) in cc)

slots_black : list_all (list_all black) slots ≡ true
unfolding slots
slots_black = refl

punctuators_black : list_all (list_all black) punctuators ≡ true
unfolding punctuators
punctuators_black = refl

-- a text that ends in a non-blank
pub record Black (k : List ℕ) : Type 0 where
  pub first : ℕ
  pub rest : List ℕ
  pub is : chars k ≡ first ∷ rest
  pub stays : drop_trailing_whitespace (first ∷ rest) ≡ first ∷ rest

pub token_black : (k : List ℕ) → IsToken k → IsUtf8 k → Black k
token_black [] t u = absurd (no_empty_token t)
token_black (b ∷ v) t u =
    let e = token_ends black refl word_black class_black slots_black punctuators_black b v t in
    let p = and_parts (nat_lt e.1 128) (not (is_whitespace e.1)) e.2 in
    let l : e.1 < 128 = (Decides-ltb e.1 128).0 p.0 in
    let at : get_or (b ∷ v) (length e.0) 0 ≡ e.1 =
    ap (λ z. get_or z (length e.0) 0) e.3 ∙ get_or-append_seam e.0 e.1 [] 0 in
    let cut = IsCharBoundary-before_ascii (b ∷ v) (length e.0)
    (omega (arith, ap length e.3, length-append e.0 (e.1 ∷ []))) (omega (arith, at, l)) in
    let front : IsUtf8 e.0 = subst (λ z. IsUtf8 z) (ap (take (length e.0)) e.3
    ∙ take-append_seam e.0 (e.1 ∷ [])) (IsUtf8-take (b ∷ v) (length e.0) u cut) in
    let one : chars (e.1 ∷ []) ≡ e.1 ∷ [] = chars_low e.1 [] l ∙ ap (λ z. e.1 ∷ z) chars-nil in
    let c : chars (b ∷ v) ≡ chars e.0 ++ (e.1 ∷ []) =
    ap chars e.3 ∙ (chars-append e.0 (e.1 ∷ []) front ∙ ap (λ z. chars e.0 ++ z) one) in
    let n : chars (b ∷ v) ≡ b ∷ chars v =
    chars_low b v (low_from_class b (token_class b v (token_of b v t))) in
    record {
      first = b;
      rest = chars v;
      is = n;
      stays = subst (λ z. drop_trailing_whitespace z ≡ z) (sym c ∙ n)
          (drop_after (chars e.0) e.1 [] (stays_black e.1 [] (not-true (is_whitespace e.1) p.1)));
    }

-- ---- a comment trimmed

pub record CommentCut (k : List ℕ) : Type 0 where
  pub blanks : List (List ℕ)
  pub are_blank : AllBlank blanks
  pub is : k ≡ trim k ++ concat blanks
  pub comment : is_comment (trim k) ≡ true
  pub utf8 : IsUtf8 (trim k)
  pub black : Black (trim k)
  pub once : trim (trim k) ≡ trim k

all_front : (x y : List ℕ) → list_all is_comment_byte (x ++ y) ≡ true
    → list_all is_comment_byte x ≡ true
all_front [] y h = refl
all_front (b ∷ x) y h =
    let p = and_parts (is_comment_byte b) (list_all is_comment_byte (x ++ y)) h in
    rw p.0 (all_front x y p.1)

slashes_cut : (v : List ℕ) → list_all is_comment_byte v ≡ true → IsUtf8 (slash ∷ (slash ∷ v))
    → CommentCut (slash ∷ (slash ∷ v))
slashes_cut v h u =
    let k = slash ∷ (slash ∷ v) in
    let c : chars k ≡ slash ∷ (slash ∷ chars v) =
    chars_low slash (slash ∷ v) (omega arith)
    ∙ ap (λ z. slash ∷ z) (chars_low slash v (omega arith)) in
    let s : StartsBlack k = rw c refl in
    let t = trimmed_tail k u s in
    let ds = drop_trailing_whitespace (chars v) in
    let d : drop_trailing_whitespace (slash ∷ (slash ∷ chars v)) ≡ slash ∷ (slash ∷ ds) =
    stays_black slash (slash ∷ chars v) refl
    ∙ ap (λ z. slash ∷ z) (stays_black slash (chars v) refl) in
    let e : chars (trim k) ≡ slash ∷ (slash ∷ ds) =
    chars_trim k u ∙ (ap drop_trailing_whitespace (s ∙ c) ∙ d) in
    let f : trim k ≡ slash ∷ (slash ∷ encode_utf8_all ds) =
    sym (encodes-chars (trim k) (trim_utf8 k u))
    ∙ (ap encode_utf8_all e ∙ rw (encode_ascii slash (omega arith)) refl) in
    let g : v ≡ encode_utf8_all ds ++ concat t.0 =
    let q : slash ∷ (slash ∷ v) ≡ slash ∷ (slash ∷ (encode_utf8_all ds ++ concat t.0)) =
    t.2 ∙ ap (λ z. z ++ concat t.0) f in cc in
    let stay : drop_trailing_whitespace (slash ∷ (slash ∷ ds)) ≡ slash ∷ (slash ∷ ds) =
    stays_black slash (slash ∷ ds) refl
    ∙ ap (λ z. slash ∷ z) (stays_black slash ds refl
    ∙ ap (λ z. slash ∷ z) (drop_twice (chars v))) in
    record {
      blanks = t.0;
      are_blank = t.1;
      is = t.2;
      comment = rw f (all_front (encode_utf8_all ds) (concat t.0) (rw g at h));
      utf8 = trim_utf8 k u;
      black = record { first = 47; rest = slash ∷ ds; is = e; stays = stay };
      once =
          trim_same [] (trim k) slash (slash ∷ ds) ([], (refl, refl)) (trim_utf8 k u)
          (rw e refl) e stay;
    }

pub comment_cut : (k : List ℕ) → is_comment k ≡ true → IsUtf8 k → CommentCut k
comment_cut [] h u = absurd cc
comment_cut (a ∷ []) h u = absurd cc
comment_cut (a ∷ (b ∷ v)) h u =
    let p = comment_parts a b v h in
    let e : a ∷ (b ∷ v) ≡ slash ∷ (slash ∷ v) = rw (p.0, p.1) refl in
    subst (λ z. CommentCut z) (sym e) (slashes_cut v p.2 (subst (λ z. IsUtf8 z) e u))

-- ---- a shorter comment at the end says the same

-- two texts of one gap that say the same
abbrev Says : List ℕ → List ℕ → Type 0
Says g h = (comments g ≡ comments h) × (trim (before_newline g) ≡ trim (before_newline h))
    × (comments (after_newline g) ≡ comments (after_newline h))

-- blanks up to their first line feed
record BlankFront (bs : List (List ℕ)) : Type 0 where
  front : List (List ℕ)
  are_blank : AllBlank front
  is : before_newline (concat bs) ≡ concat front

blank_front : (bs : List (List ℕ)) → AllBlank bs → BlankFront bs
blank_front [] a = record { front = []; are_blank = tt; is = refl }
blank_front (u ∷ bs) a = elim (blank_feed u a.0) [
  | inl e ↦ record { front = []; are_blank = tt; is = rw e (before_cons line_feed (concat bs)) }
  | inr f ↦ more (blank_front bs a.1) f
]
  where
    more : BlankFront bs → feedless u ≡ true → BlankFront (u ∷ bs)
    more r f = record {
      front = u ∷ r.front;
      are_blank = (a.0, r.are_blank);
      is = before_free u (concat bs) f ∙ ap (λ z. u ++ z) r.is;
    }

no_comments_in : (bs : List (List ℕ)) → AllBlank bs → filter is_comment bs ≡ []
no_comments_in [] a = refl
no_comments_in (u ∷ bs) a = rw (blank_no_comment u a.0) (no_comments_in bs a.1)

-- the comment k, what is left of it, and what follows it
record End (k : List ℕ) (bs : List (List ℕ)) : Type 0 where
  kind : is_comment k ≡ true
  cut : CommentCut k
  blanks : AllBlank bs

end_comments : (cs bs : List (List ℕ)) (k : List ℕ) → End k bs → NoTokens cs
    → AreUnits (cs ++ (k ∷ bs)) → AreUnits (cs ++ (trim k ∷ []))
    → comments (concat (cs ++ (trim k ∷ []))) ≡ comments (concat (cs ++ (k ∷ bs)))
end_comments cs bs k e n p q =
    let l : comments (concat (cs ++ (trim k ∷ [])))
    ≡ map trim (filter is_comment cs) ++ (trim k ∷ []) =
    units_comments (cs ++ (trim k ∷ [])) q (All-append (λ u. is_token u ≡ false) cs (trim k ∷ []) n
    (comment_no_token (trim k) e.cut.comment, tt))
    ∙ (ap (map trim) (filter-append is_comment cs (trim k ∷ [])) ∙ (map-append trim (filter
    is_comment cs) (filter is_comment (trim k ∷ [])) ∙ rw (e.cut.comment, e.cut.once) refl)) in
    let r : comments (concat (cs ++ (k ∷ bs))) ≡ map trim (filter is_comment cs) ++ (trim k ∷ []) =
    units_comments (cs ++ (k ∷ bs)) p (All-append (λ u. is_token u ≡ false) cs (k ∷ bs) n
    (comment_no_token k e.kind, blanks_no_token bs e.blanks))
    ∙ (ap (map trim) (filter-append is_comment cs (k ∷ bs)) ∙ (map-append trim (filter is_comment
    cs) (filter is_comment (k ∷ bs)) ∙ rw (e.kind, no_comments_in bs e.blanks) refl)) in
    l ∙ sym r

end_text : (cs bs : List (List ℕ)) (k : List ℕ)
    → concat (cs ++ (k ∷ bs)) ≡ concat cs ++ (k ++ concat bs)
end_text cs bs k = concat-append cs (k ∷ bs)

end_trimmed_text : (cs : List (List ℕ)) (k : List ℕ)
    → concat (cs ++ (trim k ∷ [])) ≡ concat cs ++ trim k
end_trimmed_text cs k =
    concat-append cs (trim k ∷ []) ∙ ap (λ z. concat cs ++ z) (append-nil (trim k))

pub before_all : (x : List ℕ) → feedless x ≡ true → before_newline x ≡ x
before_all x h = ap before_newline (sym (append-nil x)) ∙ (before_free x [] h ∙ append-nil x)

pub after_none : (x : List ℕ) → feedless x ≡ true → comments (after_newline x) ≡ []
after_none x h = ap (λ z. comments (after_newline z)) (sym (append-nil x))
    ∙ (ap comments (after_free x [] h) ∙ comments_nil)

says : (cs bs : List (List ℕ)) (k : List ℕ) → End k bs → NoTokens cs → IsUtf8 (concat cs)
    → AreUnits (cs ++ (k ∷ bs)) → AreUnits (cs ++ (trim k ∷ []))
    → Says (concat (cs ++ (trim k ∷ []))) (concat (cs ++ (k ∷ bs)))
says cs bs k e n u p q =
    let r = by_feed (find_feed cs (units_parts cs (k ∷ bs) p).0 n) in
    (end_comments cs bs k e n p q, r.0, r.1)
  where
    by_feed : AtFeed cs → (trim (before_newline (concat (cs ++ (trim k ∷ []))))
        ≡ trim (before_newline (concat (cs ++ (k ∷ bs))))) × (comments (after_newline
        (concat (cs ++ (trim k ∷ [])))) ≡ comments (after_newline (concat (cs ++ (k ∷ bs)))))
    by_feed (at_feed fs ds a f) =
        let split : (zs : List (List ℕ)) → cs ++ zs ≡ fs ++ ((line_feed ∷ []) ∷ (ds ++ zs)) =
        λ zs. ap (λ z. z ++ zs) a ∙ append_assoc fs ((line_feed ∷ []) ∷ ds) zs in
        let text : (zs : List (List ℕ))
        → concat (cs ++ zs) ≡ concat fs ++ (line_feed ∷ concat (ds ++ zs)) =
        λ zs. ap concat (split zs) ∙ concat-append fs ((line_feed ∷ []) ∷ (ds ++ zs)) in
        let part : (zs : List (List ℕ)) → AreUnits (cs ++ zs) → AreUnits (ds ++ zs) =
        λ zs w. (units_parts ((line_feed ∷ []) ∷ []) (ds ++ zs)
        (units_parts fs ((line_feed ∷ []) ∷ (ds ++ zs))
        (subst (λ z. AreUnits z) (split zs) w)).1).1 in
        let m : NoTokens ds = (All-parts (λ u. is_token u ≡ false) fs ((line_feed ∷ []) ∷ ds)
        (subst (λ z. NoTokens z) a n)).1.1 in (
          ap trim (ap before_newline (text (trim k ∷ []))
              ∙ (before_join (concat fs) (concat (ds ++ (trim k ∷ []))) ∙ sym (ap before_newline
              (text (k ∷ bs)) ∙ before_join (concat fs) (concat (ds ++ (k ∷ bs)))))),
          ap (λ z. comments (after_newline z)) (text (trim k ∷ []))
              ∙ (comments_after_join (concat fs) (concat (ds ++ (trim k ∷ [])))
              ∙ (ap (λ z. comments (after_newline (concat fs)) ++ z) (end_comments ds bs k e m
              (part (k ∷ bs) p) (part (trim k ∷ []) q)) ∙ sym (ap (λ z. comments (after_newline z))
              (text (k ∷ bs)) ∙ comments_after_join (concat fs) (concat (ds ++ (k ∷ bs)))))),
        )
    by_feed (no_feed f) =
        let g : feedless (concat cs ++ trim k) ≡ true =
        feedless_append (concat cs) (trim k) f (comment_feedless (trim k) e.cut.comment) in
        let h : feedless (concat cs ++ k) ≡ true =
        feedless_append (concat cs) k f (comment_feedless k e.kind) in
        let b = blank_front bs e.blanks in
        let t : concat (cs ++ (k ∷ bs)) ≡ (concat cs ++ k) ++ concat bs =
        end_text cs bs k ∙ sym (append_assoc (concat cs) k (concat bs)) in
        let w : concat (e.cut.blanks ++ b.front) ≡ concat e.cut.blanks ++ concat b.front =
        concat-append e.cut.blanks b.front in
        let m : (concat cs ++ k) ++ concat b.front
        ≡ (concat cs ++ trim k) ++ concat (e.cut.blanks ++ b.front) =
        ap (λ z. (concat cs ++ z) ++ concat b.front) e.cut.is
        ∙ (regroup (concat cs) (trim k) (concat e.cut.blanks) (concat b.front)
        ∙ ap (λ z. (concat cs ++ trim k) ++ z) (sym w)) in
        let before : trim (before_newline (concat (cs ++ (k ∷ bs)))) ≡ trim (concat cs ++ trim k) =
        ap (λ z. trim (before_newline z)) t ∙ (ap trim
        (before_free (concat cs ++ k) (concat bs) h ∙ (ap (λ z. (concat cs ++ k) ++ z) b.is ∙ m))
        ∙ trim_back (concat cs ++ trim k) (e.cut.blanks ++ b.front) (IsUtf8-append (concat cs) (trim
        k) u e.cut.utf8) (All-append IsBlank e.cut.blanks b.front e.cut.are_blank b.are_blank)) in (
          ap trim (ap before_newline (end_trimmed_text cs k) ∙ before_all (concat cs ++ trim k) g)
              ∙ sym before,
          ap (λ z. comments (after_newline z)) (end_trimmed_text cs k)
              ∙ (after_none (concat cs ++ trim k) g ∙ sym (ap (λ z. comments (after_newline z)) t
              ∙ (ap comments (after_free (concat cs ++ k) (concat bs) h)
              ∙ blanks_after bs e.blanks))),
        )
      where
        regroup : (a b c d : List ℕ) → (a ++ (b ++ c)) ++ d ≡ (a ++ b) ++ (c ++ d)
        regroup a b c d = simp append_assoc

-- units cut after their last token
data LastToken (us : List (List ℕ)) : Type 0 where
  no_token : NoTokens us → LastToken us
  last_token : (fs cs : List (List ℕ)) (w : List ℕ) → us ≡ fs ++ (w ∷ cs) → is_token w ≡ true
      → NoTokens cs → LastToken us

find_token : (us : List (List ℕ)) → LastToken us
find_token [] = no_token tt
find_token (u ∷ us) = go (is_token u) refl (find_token us)
  where
    go : (t : Bool) → is_token u ≡ t → LastToken us → LastToken (u ∷ us)
    go t h (last_token fs cs w e k n) = last_token (u ∷ fs) cs w (ap (λ z. u ∷ z) e) k n
    go true h (no_token n) = last_token [] us u refl h n
    go false h (no_token n) = no_token (h, n)

tokenless_gaps : (us : List (List ℕ)) → NoTokens us
    → gaps us ≡ record { first = concat us; tokens = [] }
unfolding gaps
tokenless_gaps us n = ap gaps (sym (append-nil us))
    ∙ (gaps_skip us [] n ∙ ap (λ z. record { first = z; tokens = [] }) (append-nil (concat us)))

end_listing : (vs bs : List (List ℕ)) (k : List ℕ) → End k bs → AllByRecursion IsUtf8 vs
    → AreUnits (vs ++ (k ∷ bs)) → AreUnits (vs ++ (trim k ∷ []))
    → listing (vs ++ (trim k ∷ [])) ≡ listing (vs ++ (k ∷ bs))
unfolding listing decorate
end_listing vs bs k e u p q = go (find_token vs)
  where
    trimmed_none : (cs : List (List ℕ)) → NoTokens cs → NoTokens (cs ++ (trim k ∷ []))
    trimmed_none cs n = All-append (λ u. is_token u ≡ false) cs (trim k ∷ []) n
        (comment_no_token (trim k) e.cut.comment, tt)

    none : (cs : List (List ℕ)) → NoTokens cs → NoTokens (cs ++ (k ∷ bs))
    none cs n = All-append (λ u. is_token u ≡ false) cs (k ∷ bs) n
        (comment_no_token k e.kind, blanks_no_token bs e.blanks)

    go : LastToken vs → listing (vs ++ (trim k ∷ [])) ≡ listing (vs ++ (k ∷ bs))
    go (no_token n) = rw (
      tokenless_gaps (vs ++ (trim k ∷ [])) (trimmed_none vs n),
      tokenless_gaps (vs ++ (k ∷ bs)) (none vs n),
    ) (ap (λ z. record { tokens = []; closing = z }) (end_comments vs bs k e n p q))
    go (last_token fs cs w a t n) =
        let split : (zs : List (List ℕ)) → vs ++ zs ≡ fs ++ (w ∷ (cs ++ zs)) =
        λ zs. ap (λ z. z ++ zs) a ∙ append_assoc fs (w ∷ cs) zs in
        let part : (zs : List (List ℕ)) → AreUnits (vs ++ zs) → AreUnits (cs ++ zs) =
        λ zs v. (units_parts (w ∷ []) (cs ++ zs)
        (units_parts fs (w ∷ (cs ++ zs)) (subst (λ z. AreUnits z) (split zs) v)).1).1 in
        let utf8 : AllByRecursion IsUtf8 cs =
        (All-parts IsUtf8 fs (w ∷ cs) (subst (λ z. AllByRecursion IsUtf8 z) a u)).1.1 in
        let s = says cs bs k e n (concat_utf8 cs utf8) (part (k ∷ bs) p) (part (trim k ∷ []) q) in
        let g : gaps (w ∷ (cs ++ (trim k ∷ [])))
        ≡ record { first = []; tokens = (w, concat (cs ++ (trim k ∷ []))) ∷ [] } =
        one_token w (cs ++ (trim k ∷ [])) t
        ∙ rw (tokenless_gaps (cs ++ (trim k ∷ [])) (trimmed_none cs n)) refl in
        let h : gaps (w ∷ (cs ++ (k ∷ bs)))
        ≡ record { first = []; tokens = (w, concat (cs ++ (k ∷ bs))) ∷ [] } =
        one_token w (cs ++ (k ∷ bs)) t ∙ rw (tokenless_gaps (cs ++ (k ∷ bs)) (none cs n)) refl in
        let m = same_front fs (w ∷ (cs ++ (trim k ∷ []))) (w ∷ (cs ++ (k ∷ bs))) (rw (g, h) refl)
        (λ f. rw (g, h, s.1, s.2) refl) in
        ap listing (split (trim k ∷ [])) ∙ (rw m.0 (m.1 (gaps (fs ++ (w ∷ (cs ++ (k ∷ bs))))).first)
        ∙ sym (ap listing (split (k ∷ bs))))

-- ---- the law

-- the units of the trimmed text: us without some blanks, the last without the blanks at its end
pub record Trims (us : List (List ℕ)) : Type 0 where
  pub rest : List (List ℕ)
  pub units : List (List ℕ)
  pub last : units ≡ with_last_trimmed rest
  pub thinned : Thinned us rest
  pub is : concat units ≡ trim (concat us)
  pub are_units : AreUnits units
  pub list : listing units ≡ listing us
  pub once : trim (concat units) ≡ concat units
  pub keeps : (p : List ℕ → Bool) → ((u : List ℕ) → is_comment u ≡ true → p u ≡ true)
      → list_all p us ≡ true → list_all p units ≡ true
  pub stays_lined : (e : Bool) → lined false us ≡ Some e → (d : Bool) × (lined false units ≡ Some d)

last_of_rest : (vs : List (List ℕ)) (k : List ℕ)
    → with_last_trimmed (vs ++ (k ∷ [])) ≡ vs ++ (cond (is_comment k) (trim k) k ∷ [])
last_of_rest [] k = refl
last_of_rest (u ∷ []) k = refl
last_of_rest (u ∷ (v ∷ vs)) k = ap (λ z. u ∷ z) (last_of_rest (v ∷ vs) k)

pub lined_front : (us vs : List (List ℕ)) (o e : Bool) → lined o (us ++ vs) ≡ Some e
    → (d : Bool) × (lined o us ≡ Some d)
lined_front [] vs o e h = (o, refl)
lined_front (u ∷ us) vs o e h = go (is_solid u) (is_feed u) o (λ p k. lined_front us vs p e k) h
  where
    go : (s f o : Bool)
        → ((p : Bool) → lined p (us ++ vs) ≡ Some e → (d : Bool) × (lined p us ≡ Some d))
        → cond s (lined false (us ++ vs)) (cond f (cond o None (lined true (us ++ vs)))
        (lined o (us ++ vs))) ≡ Some e → (d : Bool)
        × (cond s (lined false us) (cond f (cond o None (lined true us)) (lined o us)) ≡ Some d)
    go true f o ih h = ih false h
    go false true true ih h = absurd cc
    go false true false ih h = ih true h
    go false false o ih h = ih o h

-- with a line feed in front there is less that may follow
lined_less : (us : List (List ℕ)) (e : Bool) → lined true us ≡ Some e
    → (d : Bool) × (lined false us ≡ Some d)
lined_less [] e h = (false, refl)
lined_less (u ∷ us) e h = go (is_solid u) (is_feed u) (λ k. lined_less us e k) h
  where
    go : (s f : Bool) → (lined true us ≡ Some e → (d : Bool) × (lined false us ≡ Some d))
        → cond s (lined false us) (cond f None (lined true us)) ≡ Some e
        → (d : Bool) × (cond s (lined false us) (cond f (lined true us) (lined false us)) ≡ Some d)
    go true f ih h = (e, h)
    go false true ih h = absurd cc
    go false false ih h = ih h

lined_after : (u : List ℕ) (us : List (List ℕ)) (e : Bool) → IsBlank u
    → lined false (u ∷ us) ≡ Some e → (d : Bool) × (lined false us ≡ Some d)
lined_after u us e k h = go (is_feed u) (rw (blank_not_solid u k) at h)
  where
    go : (f : Bool) → cond f (lined true us) (lined false us) ≡ Some e
        → (d : Bool) × (lined false us ≡ Some d)
    go true h = lined_less us e h
    go false h = (e, h)

lined_last : (vs bs : List (List ℕ)) (k l : List ℕ) (e : Bool) → is_solid l ≡ true
    → lined false (vs ++ (k ∷ bs)) ≡ Some e → (d : Bool) × (lined false (vs ++ (l ∷ [])) ≡ Some d)
lined_last vs bs k l e n h =
    let f = lined_front vs (k ∷ bs) false e h in
    (false, lined_append vs (l ∷ []) false f.0 f.1 ∙ rw n refl)

thinned_end : (vs bs : List (List ℕ)) (k : List ℕ) → AllBlank bs
    → Thinned (vs ++ (k ∷ bs)) (vs ++ (k ∷ []))
thinned_end vs bs k a =
    thinned_append (thinned_same vs) (unit_stays k (thinned_blanks bs a no_units (append-nil bs)))

-- a front of a text begins as the text does
starts : (y z : List ℕ) (b : ℕ) (x : List ℕ) → y ++ z ≡ b ∷ x → 0 < length y → 0 < class b
    → StartsBlack y
starts [] z b x e l h = absurd (omega (arith, l))
starts (c ∷ y) z b x e l h =
    let same : c ≡ b = cc in
    let k : 0 < class c = rw same h in
    let n : is_whitespace c ≡ false = white (is_whitespace c) refl k in
    rw (chars_low c y (low_from_class c k), n) refl
  where
    white : (t : Bool) → is_whitespace c ≡ t → 0 < class c → t ≡ false
    white true f k = absurd (omega (arith, k, class-white c (low_from_class c k) f))
    white false f k = refl

scans_front : (us vs : List (List ℕ)) (y : List ℕ) → Scans (us ++ vs) (concat us ++ y) []
    → Scans us (concat us ++ y) y
scans_front [] vs y s = refl
scans_front (u ∷ us) vs y s =
    let e : drop (length u) ((u ++ concat us) ++ y) ≡ concat us ++ y =
    ap (drop (length u)) (append_assoc u (concat us) y) ∙ drop-append_seam u (concat us ++ y) in (
      s.0,
      subst (λ z. Scans us z y) (sym e)
          (scans_front us vs y (subst (λ z. Scans (us ++ vs) z []) e s.1)),
    )

-- k is the last of these units that isn't a blank
record Last (us : List (List ℕ)) : Type 0 where
  front : List (List ℕ)
  last : List ℕ
  blanks : List (List ℕ)
  is : us ≡ front ++ (last ∷ blanks)
  kind : IsComment last ⊎ IsToken last
  are_blank : AllBlank blanks

abbrev AllUnits : List (List ℕ) → Type 0
AllUnits us = AllByRecursion IsUnit us

all_units : (us : List (List ℕ)) (x y : List ℕ) → Scans us x y → AllUnits us
all_units [] x y s = tt
all_units (u ∷ us) x y s = (s.0.kind, all_units us (drop (length u) x) y s.1)

last_of : (us : List (List ℕ)) → AllUnits us → AllBlank us ⊎ Last us
last_of [] a = inl tt
last_of (u ∷ us) a = elim (last_of us a.1) [
  | inr l ↦ inr (record {
    front = u ∷ l.front;
    last = l.last;
    blanks = l.blanks;
    is = ap (λ z. u ∷ z) l.is;
    kind = l.kind;
    are_blank = l.are_blank;
  })
  | inl b ↦ elim a.0 [
    | blank k ↦ inl (k, b)
    | comment k ↦
        inr (record { front = []; last = u; blanks = us; is = refl; kind = inl k; are_blank = b })
    | token k ↦
        inr (record { front = []; last = u; blanks = us; is = refl; kind = inr k; are_blank = b })
  ]
]

-- the text without its last blanks, cut in two
cut_end : (x k : List ℕ) (bs : List (List ℕ)) (b : ℕ) (y text : List ℕ) → IsUtf8 x → IsUtf8 k
    → Black k → AllBlank bs → 0 < length k → text ≡ (x ++ k) ++ concat bs → text ≡ b ∷ y
    → 0 < class b → (x ++ k ≡ trim text) × (trim (x ++ k) ≡ x ++ k)
cut_end x k bs b y text u v d a l e f h =
    let s = starts (x ++ k) (concat bs) b y (sym e ∙ f) (omega (arith, l, length-append x k)) h in
    let t = trim_same x k d.first d.rest u v s d.is d.stays in
    (sym (ap trim e ∙ (trim_back (x ++ k) bs (IsUtf8-append x k u v) a ∙ t)), t)

token_no_comment : (k : List ℕ) → IsToken k → is_comment k ≡ false
token_no_comment k t = false_from_ne_true (is_comment k) (λ e. comment_not_token k e t)

by_token : (vs bs : List (List ℕ)) (k : List ℕ) (b : ℕ) (y : List ℕ) → IsToken k → AllBlank bs
    → AreUnits (vs ++ (k ∷ bs)) → AllByRecursion IsUtf8 (vs ++ (k ∷ bs))
    → concat (vs ++ (k ∷ bs)) ≡ b ∷ y → 0 < class b → Trims (vs ++ (k ∷ bs))
by_token vs bs k b y t a p u e h =
    let w = All-parts IsUtf8 vs (k ∷ bs) u in
    let c = cut_end (concat vs) k bs b y (concat (vs ++ (k ∷ bs))) (concat_utf8 vs w.0) w.1.0
    (token_black k t w.1.0) a (unit_nonempty k (token t))
    (concat-append vs (k ∷ bs) ∙ sym (append_assoc (concat vs) k (concat bs))) e h in
    let f : concat (vs ++ (k ∷ [])) ≡ concat vs ++ k =
    concat-append vs (k ∷ []) ∙ ap (λ z. concat vs ++ z) (append-nil k) in
    let g = token_end vs bs k t a (subst (λ z. AreUnits z) (sym (append_assoc vs (k ∷ []) bs)) p) in
    record {
      rest = vs ++ (k ∷ []);
      units = vs ++ (k ∷ []);
      last = sym (last_of_rest vs k ∙ rw (token_no_comment k t) refl);
      thinned = thinned_end vs bs k a;
      stays_lined = λ e l. lined_last vs bs k k e (token_solid k t) l;
      is = f ∙ c.0;
      are_units = g.0;
      list = g.1;
      once = ap trim f ∙ (c.1 ∙ sym f);
      keeps = λ q m n. let r = and_parts (list_all q vs) (list_all q (k ∷ bs))
          (sym (list_all-append q vs (k ∷ bs)) ∙ n) in
          list_all-append q vs (k ∷ []) ∙ rw (r.0, (and_parts (q k) (list_all q bs) r.1).0) refl;
    }

by_comment : (vs bs : List (List ℕ)) (k : List ℕ) (b : ℕ) (y : List ℕ) → is_comment k ≡ true
    → AllBlank bs → AreUnits (vs ++ (k ∷ bs)) → AllByRecursion IsUtf8 (vs ++ (k ∷ bs))
    → concat (vs ++ (k ∷ bs)) ≡ b ∷ y → 0 < class b → Trims (vs ++ (k ∷ bs))
by_comment vs bs k b y t a p u e h =
    let w = All-parts IsUtf8 vs (k ∷ bs) u in
    let m = comment_cut k t w.1.0 in
    let n : End k bs = record { kind = t; cut = m; blanks = a } in
    let text : concat (vs ++ (k ∷ bs)) ≡ concat vs ++ (k ++ concat bs) =
    concat-append vs (k ∷ bs) in
    let rest : k ++ concat bs ≡ trim k ++ (concat m.blanks ++ concat bs) =
    ap (λ z. z ++ concat bs) m.is ∙ append_assoc (trim k) (concat m.blanks) (concat bs) in
    let long : concat (vs ++ (k ∷ bs)) ≡ (concat vs ++ trim k) ++ concat (m.blanks ++ bs) =
    text ∙ (ap (λ z. concat vs ++ z) rest
    ∙ (sym (append_assoc (concat vs) (trim k) (concat m.blanks ++ concat bs))
    ∙ ap (λ z. (concat vs ++ trim k) ++ z) (sym (concat-append m.blanks bs)))) in
    let c = cut_end (concat vs) (trim k) (m.blanks ++ bs) b y (concat (vs ++ (k ∷ bs)))
    (concat_utf8 vs w.0) m.utf8 m.black (All-append IsBlank m.blanks bs m.are_blank a)
    (unit_nonempty (trim k) (comment m.comment)) long e h in
    let f : concat (vs ++ (trim k ∷ [])) ≡ concat vs ++ trim k = end_trimmed_text vs k in
    let s : Scans vs (concat vs ++ (trim k ++ (concat m.blanks ++ concat bs)))
    (trim k ++ (concat m.blanks ++ concat bs)) =
    subst (λ z. Scans vs (concat vs ++ z) z) rest
    (scans_front vs (k ∷ bs) (k ++ concat bs) (subst (λ z. Scans (vs ++ (k ∷ bs)) z []) text p)) in
    let one : Scans (trim k ∷ []) (trim k) [] =
    subst (λ z. Scans (trim k ∷ []) z []) (append-nil (trim k))
    (scans_unit (trim k) [] [] [] (comment_first (trim k) [] m.comment tt) refl) in
    let g : AreUnits (vs ++ (trim k ∷ [])) = subst (λ z. Scans (vs ++ (trim k ∷ [])) z []) (sym f)
    (scans_append vs (trim k ∷ []) (concat vs ++ trim k) (trim k) []
    (scans_shorter vs (trim k) (concat m.blanks ++ concat bs) s) one) in
    record {
      rest = vs ++ (k ∷ []);
      units = vs ++ (trim k ∷ []);
      last = sym (last_of_rest vs k ∙ rw t refl);
      thinned = thinned_end vs bs k a;
      stays_lined = λ e l. lined_last vs bs k (trim k) e (comment_solid (trim k) m.comment) l;
      is = f ∙ c.0;
      are_units = g;
      list = end_listing vs bs k n w.0 p g;
      once = ap trim f ∙ (c.1 ∙ sym f);
      keeps = λ q d l. let r = and_parts (list_all q vs) (list_all q (k ∷ bs))
          (sym (list_all-append q vs (k ∷ bs)) ∙ l) in
          list_all-append q vs (trim k ∷ []) ∙ rw (r.0, d (trim k) m.comment) refl;
    }

by_last : (us : List (List ℕ)) (b : ℕ) (y : List ℕ) → AreUnits us → AllByRecursion IsUtf8 us
    → concat us ≡ b ∷ y → 0 < class b → Last us → Trims us
by_last us b y p u e h l = subst (λ z. Trims z) (sym l.is) (elim l.kind [
  | inl k ↦ by_comment l.front l.blanks l.last b y k l.are_blank (subst (λ z. AreUnits z) l.is p)
      (subst (λ z. AllByRecursion IsUtf8 z) l.is u) (ap concat (sym l.is) ∙ e) h
  | inr k ↦ by_token l.front l.blanks l.last b y k l.are_blank (subst (λ z. AreUnits z) l.is p)
      (subst (λ z. AllByRecursion IsUtf8 z) l.is u) (ap concat (sym l.is) ∙ e) h
])

pub trims : (us : List (List ℕ)) → AreUnits us → AllByRecursion IsUtf8 us → Trims us
trims [] p a = record {
  rest = [];
  units = [];
  last = refl;
  thinned = no_units;
  stays_lined = λ e l. (e, l);
  is = sym trim_nil;
  are_units = p;
  list = refl;
  once = trim_nil;
  keeps = λ q m n. refl;
}
trims (u ∷ us) p a = elim p.0.kind [
  | blank k ↦ front k (trims us (units_parts (u ∷ []) us p).1 a.1)
  | comment k ↦ following u p a (comment k) (comment_class u k)
  | token k ↦ following u p a (token k) (inner_class u k)
]
  where
    front : IsBlank u → Trims us → Trims (u ∷ us)
    front k r =
        let g = front_blank_goes u us k p in
        record {
          rest = r.rest;
          units = r.units;
          last = r.last;
          thinned = blank_goes u k r.thinned;
          stays_lined = λ e l. let d = lined_after u us e k l in r.stays_lined d.0 d.1;
          is = r.is ∙ sym (trim_blank u (concat us) k);
          are_units = r.are_units;
          list = r.list ∙ g.1;
          once = r.once;
          keeps = λ q m n. r.keeps q m (and_parts (q u) (list_all q us) n).1;
        }

    comment_class : (v : List ℕ) → is_comment v ≡ true
        → (b : ℕ) × (y : List ℕ) × (v ≡ b ∷ y) × (0 < class b)
    comment_class [] k = absurd cc
    comment_class (c ∷ []) k = absurd cc
    comment_class (c ∷ (d ∷ v)) k =
        let q = comment_parts c d v k in (c, d ∷ v, refl, rw q.0 (omega arith))

    inner_class : (v : List ℕ) → IsToken v → (b : ℕ) × (y : List ℕ) × (v ≡ b ∷ y) × (0 < class b)
    inner_class [] k = absurd (no_empty_token k)
    inner_class (c ∷ v) k = (c, v, refl, token_class c v (token_of c v k))

    following : (u : List ℕ) → AreUnits (u ∷ us) → AllByRecursion IsUtf8 (u ∷ us) → IsUnit u
        → ((b : ℕ) × (y : List ℕ) × (u ≡ b ∷ y) × (0 < class b)) → Trims (u ∷ us)
    following u p a k o = elim (last_of (u ∷ us) (all_units (u ∷ us) (concat (u ∷ us)) [] p)) [
      | inr l ↦ by_last (u ∷ us) o.0 (o.1 ++ concat us) p a (ap (λ z. z ++ concat us) o.2) o.3 l
      | inl b ↦ absurd (let q : IsBlank (o.0 ∷ o.1) = subst (λ z. IsBlank z) o.2 b.0 in
          omega (arith, o.3, class-blank o.0 o.1 q))
    ]
