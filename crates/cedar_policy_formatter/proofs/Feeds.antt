-- Texts that end in a line feed, and texts joined by a line feed.
use Rattle.std.proofs.Common.{◌≡◌, ◌<◌, ℕ, Bool, true, false, cond, ◌||◌, ◌==◌, List, [], ◌∷◌, ◌++◌, length, drop, refl, ap, sym, ◌∙◌, subst, arith, inl, inr, append_assoc, append-nil, length-append}
use Rattle.std.specs.Prelude.{◌⊎◌}
use Rattle.std.specs.List.{list_any}
use Rattle.std.proofs.Math.Seq.{drop-append_seam}
use Rattle.std.proofs.lemmas.Bool.Decides.{nat_tests}
use Rattle.std.proofs.lemmas.List.Elements.{filter-append}
use Rattle.std.proofs.lemmas.List.Folds.{list_any-append}
use Rattle.std.proofs.lemmas.Bool.{and_parts}
use Rattle.cedar_tokens.specs.Bytes.{backslash, line_feed, quote}
use Rattle.cedar_tokens.specs.Units.{BeginsWith, IsUnit, blank, comment, token, is_token, is_string_rest, is_escaped_rest}
use Rattle.cedar_tokens.specs.Split.{SplitsInto}
use Rattle.cedar_tokens.specs.Listing.{Decorated, Listing, IsListing, listing, gaps, decorate}
use Rattle.cedar_tokens.proofs.CommentLines.{comments_nil}
use Rattle.cedar_tokens.proofs.Prefixes.{begins_fits}
use Rattle.cedar_tokens.proofs.Scanning.{split_unique, listing_unique}
use Rattle.cedar_grammar.specs.KindGrammar.{G}
use Rattle.cedar_grammar.specs.Numbers.{is_too_large}
use Rattle.cedar_grammar.specs.Texts.{greatest_depth, only_tokens, Accepted}
use Rattle.cedar_tokens.specs.TokenKinds.{kind_of}
use Rattle.cedar_grammar.proofs.Texts.Accepted.{is_accepted, kinds_of}
use Rattle.cedar_laws.specs.Joining.{follow}
use Rattle.cedar_laws.proofs.BlankLines.{feedless, feedless_back, blank_feed}
use Rattle.cedar_laws.proofs.Joined.{joined}
use Rattle.cedar_laws.proofs.Listed.{feed_no_token}
use Rattle.cedar_laws.proofs.Scanned.{token_no_feed, first_within, splits_join}
use Rattle.cedar_laws.proofs.Spaces.{comment_feedless}
use Rattle.cedar_reading.proofs.Accepted.{accepted_empty}
use Rattle.cedar_reading.proofs.PieceRefusals.{fit_parts}
use Rattle.cedar_reading.proofs.Sequences.{lists_join}
use Rattle.cedar_cst.proofs.PartLaws.{append_not_nil}

-- ---- the last unit of a text that ends in a line feed

abbrev NoString : List ℕ → Type 0
NoString w =
    (is_string_rest (w ++ (line_feed ∷ [])) ≡ true → ⊥) × (is_escaped_rest (w ++ (line_feed ∷ []))
    ≡ true → ⊥)

some_bytes : (n : ℕ) → 0 < n → (n == 0) ≡ true → ⊥
some_bytes n l h = grind (arith, nat_tests)

no_string : (w : List ℕ) → NoString w
no_string [] =
    (λ h. let e : false ≡ true = h in absurd cc, λ h. let e : false ≡ true = h in absurd cc)
no_string (b ∷ w) = (
  λ h. first (b == quote) (b == backslash) (no_string w)
      (some_bytes (length (w ++ (line_feed ∷ [])))
      (omega (arith, length-append w (line_feed ∷ [])))) h,
  λ h. (no_string w).0 (and_parts _ (is_string_rest (w ++ (line_feed ∷ []))) h).1,
)
  where
    first : (q e : Bool) → NoString w → ((length (w ++ (line_feed ∷ [])) == 0) ≡ true → ⊥)
        → cond q (length (w ++ (line_feed ∷ [])) == 0)
        (cond e (is_escaped_rest (w ++ (line_feed ∷ [])))
        (is_string_rest (w ++ (line_feed ∷ [])))) ≡ true → ⊥
    first true e n l h = l h
    first false true n l h = n.1 h
    first false false n l h = n.0 h

-- a unit that ends in a line feed is that line feed
feed_unit : (w : List ℕ) → IsUnit (w ++ (line_feed ∷ [])) → w ≡ []
feed_unit [] k = refl
feed_unit (b ∷ w) k = absurd (elim k [
  | blank e ↦ elim (blank_feed (b ∷ (w ++ (line_feed ∷ [])))
      e) [
        | inl s ↦ omega (arith, ap length s, length-append w (line_feed ∷ []))
        | inr f ↦
            no_feed f
      ]
  | comment e ↦ no_feed (comment_feedless (b ∷ (w ++ (line_feed ∷ []))) e)
  | token e ↦ (no_string w).0 (token_no_feed b w [] e).1
])
  where
    no_feed : feedless (b ∷ (w ++ (line_feed ∷ []))) ≡ true → ⊥
    no_feed f = let e = feedless_back (b ∷ w) (line_feed ∷ []) f in absurd cc

-- so the text before the line feed splits
pub front_splits : (us : List (List ℕ)) (x : List ℕ) → SplitsInto (x ++ (line_feed ∷ [])) us
    → (vs : List (List ℕ)) × SplitsInto x vs
front_splits [] x s = absurd (append_not_nil x line_feed [] s)
front_splits (u ∷ us) x s = go (past x u s.0.begins) (λ t. front_splits us t)
  where
    -- a unit of the text lies within the first part, or is all of the text
    past : (x u : List ℕ) → BeginsWith (x ++ (line_feed ∷ [])) u
        → BeginsWith x u ⊎ (u ≡ x ++ (line_feed ∷ []))
    past x [] g = inl (x, refl)
    past [] (c ∷ u) (r, e) =
        let f : line_feed ≡ c = cc in
        let n : [] ≡ u ++ r = cc in
        inr (ap (λ z. z ∷ u) (sym f) ∙ ap (λ z. line_feed ∷ z) (none u r n))
      where
        none : (u r : List ℕ) → [] ≡ u ++ r → u ≡ []
        none [] r n = refl
        none (d ∷ u) r n = absurd cc
    past (b ∷ x) (c ∷ u) (r, e) =
        let f : b ≡ c = cc in
        let n : x ++ (line_feed ∷ []) ≡ u ++ r = cc in
        more f (past x u (r, n))
      where
        more : b ≡ c → BeginsWith x u ⊎ (u ≡ x ++ (line_feed ∷ []))
            → BeginsWith (b ∷ x) (c ∷ u) ⊎ (c ∷ u ≡ b ∷ (x ++ (line_feed ∷ [])))
        more f (inl (t, e)) = inl (t, cc)
        more f (inr e) = inr cc

    go : BeginsWith x u ⊎ (u ≡ x ++ (line_feed ∷ []))
        → ((t : List ℕ) → SplitsInto (t ++ (line_feed ∷ [])) us → (vs : List (List ℕ))
        × SplitsInto t vs)
        → (vs : List (List ℕ)) × SplitsInto x vs
    go (inl (t, e)) ih =
        let rest : drop (length u) (x ++ (line_feed ∷ [])) ≡ t ++ (line_feed ∷ []) =
        ap (λ z. drop (length u) (z ++ (line_feed ∷ []))) e
        ∙ (ap (drop (length u)) (append_assoc u t (line_feed ∷ []))
        ∙ drop-append_seam u (t ++ (line_feed ∷ []))) in
        let left : drop (length u) x ≡ t = ap (drop (length u)) e ∙ drop-append_seam u t in
        let more = ih t (subst (λ z. SplitsInto z us) rest s.1) in (
          u ∷ more.0,
          (
            first_within x (line_feed ∷ []) u s.0 (begins_fits x u (t, e)),
            subst (λ z. SplitsInto z more.0) (sym left) more.1,
          ),
        )
    go (inr e) ih = ([], feed_unit x (subst IsUnit e s.0.kind))

-- ---- lists

none_follow : (l : Listing) → follow l (record { tokens = []; closing = [] }) ≡ l
none_follow l = ap (λ z. record { tokens = z; closing = l.closing ++ [] }) (append-nil l.tokens)
    ∙ ap (λ z. record { tokens = l.tokens; closing = z }) (append-nil l.closing)

empty_list : IsListing [] (record { tokens = []; closing = [] })
unfolding listing decorate gaps
empty_list = record {
  units = [];
  split = refl;
  value = ap (λ z. record { tokens = []; closing = z }) (sym comments_nil);
}

-- a line feed at the end of a text is not in its list
pub front_list : (x : List ℕ) (l : Listing) → IsListing (x ++ (line_feed ∷ [])) l → IsListing x l
front_list x l s =
    let f = front_splits s.units x s.split in
    let m = listing f.0 in
    let is_m : IsListing x m = record { units = f.0; split = f.1; value = refl } in
    let same : l ≡ m =
    listing_unique (x ++ (line_feed ∷ [])) l (follow m (record { tokens = []; closing = [] })) s
    (joined x [] m (record { tokens = []; closing = [] }) is_m empty_list) ∙ none_follow m in
    subst (IsListing x) (sym same) is_m

-- after a list without closing comments comes the other
follow_closed : (ts : List Decorated) (m : Listing) → follow (record { tokens = ts; closing = [] })
    m ≡ record { tokens = ts ++ m.tokens; closing = m.closing }
follow_closed ts m = go m.tokens m.closing
  where
    go : (us : List Decorated) (cs : List (List ℕ)) → follow (record { tokens = ts; closing = [] })
        (record { tokens = us; closing = cs }) ≡ record { tokens = ts ++ us; closing = cs }
    go [] cs = refl
    go (u ∷ us) cs = refl

pub fed_lists : (x y : List ℕ) (l m : Listing) → l.closing ≡ [] → IsListing x l → IsListing y m
    → IsListing (x ++ (line_feed ∷ y)) (record {
      tokens = l.tokens ++ m.tokens;
      closing =
          m.closing;
    })
fed_lists x y l m e a b = subst (IsListing (x ++ (line_feed ∷ y)))
    (ap (λ c. follow (record { tokens = l.tokens; closing = c }) m) e ∙ follow_closed l.tokens m)
    (joined x y l m a b)

pub fed_list : (y : List ℕ) (m : Listing) → IsListing y m → IsListing (line_feed ∷ y) m
fed_list y m b = fed_lists [] y (record { tokens = []; closing = [] }) m refl empty_list b

-- ---- accepted texts

tokens_fed : (us vs : List (List ℕ))
    → only_tokens (us ++ ((line_feed ∷ []) ∷ vs)) ≡ only_tokens us ++ only_tokens vs
tokens_fed us vs = filter-append is_token us ((line_feed ∷ []) ∷ vs)
    ∙ ap (λ z. only_tokens us ++ z) (rw feed_no_token refl)

feed_fits : is_too_large (line_feed ∷ []) ≡ false
feed_fits = refl

fitting_fed : (us vs : List (List ℕ)) → list_any is_too_large us ≡ false
    → list_any is_too_large vs ≡ false → list_any is_too_large (us ++ ((line_feed ∷ []) ∷ vs))
    ≡ false
fitting_fed us vs a b = list_any-append is_too_large us ((line_feed ∷ []) ∷ vs)
    ∙ (ap (λ z. z || (is_too_large (line_feed ∷ []) || list_any is_too_large vs)) a
    ∙ (ap (λ z. z || list_any is_too_large vs) feed_fits ∙ b))

-- accepted texts joined by a line feed are accepted
pub fed_accepted : (x y : List ℕ) → Accepted x → Accepted y → Accepted (x ++ (line_feed ∷ y))
fed_accepted x y (f, a) (g, b) =
    let us = a.units ++ ((line_feed ∷ []) ∷ b.units) in
    let t = lists_join kind_of greatest_depth f g (only_tokens a.units) (only_tokens b.units)
    (kinds_of a) (kinds_of b) in (
      t.0,
      is_accepted (x ++ (line_feed ∷ y)) t.0 us (splits_join a.units b.units x y a.split b.split)
          (fitting_fed a.units b.units a.fitting b.fitting)
          (subst (λ z. G kind_of greatest_depth t.0 z) (sym (tokens_fed a.units b.units)) t.1),
    )

pub empty_accepted : Accepted []
empty_accepted = accepted_empty [] [] refl refl refl

-- and so is a text without the line feed at its end
pub front_accepted : (x : List ℕ) → Accepted (x ++ (line_feed ∷ [])) → Accepted x
front_accepted x (f, a) =
    let s = front_splits a.units x a.split in
    let same : a.units ≡ s.0 ++ ((line_feed ∷ []) ∷ []) =
    split_unique (x ++ (line_feed ∷ [])) a.units
    (s.0 ++ ((line_feed ∷ []) ∷ [])) a.split (splits_join s.0 [] x [] s.1 refl) in
    let tokens : only_tokens a.units ≡ only_tokens s.0 =
    ap only_tokens same ∙ (tokens_fed s.0 [] ∙ append-nil (only_tokens s.0)) in
    let fits =
    fit_parts s.0 ((line_feed ∷ []) ∷ []) (ap (list_any is_too_large) (sym same) ∙ a.fitting) in (
      f,
      is_accepted x f s.0 s.1 fits.0
          (subst (λ z. G kind_of greatest_depth f z) tokens (kinds_of a)),
    )
