-- Units without blank lines are the cleaned text, where the text splits into units cut from these.
use Rattle.std.proofs.Common.{◌≡◌, ℕ, Bool, true, false, cond, not, ◌&&◌, ◌||◌, ◌==◌, List, [], ◌∷◌, ◌++◌, refl, sym, ap, subst, ◌∙◌, append_assoc}
use Rattle.std.specs.List.{AllByRecursion, concat, flat_map, list_any, take_while}
use Rattle.std.specs.Str.{trim}
use Rattle.std.proofs.lemmas.Bool.{false≢true}
use Rattle.std.proofs.lemmas.Bool.Decides.{Decides-eqb}
use Rattle.std.proofs.lemmas.List.Sums.{take_while-cons}
use Rattle.cedar_tokens.specs.Bytes.{line_feed, space_character}
use Rattle.cedar_layout.specs.Layout.{pieces, text_of_choice}
use Rattle.cedar_laws.specs.CleaningLaws.{is_solid}
use Rattle.cedar_laws.proofs.Units.{space_blank}
use Rattle.cedar_laws.proofs.BlankLines.{blank_not_solid, feed_not_solid}
use Rattle.cedar_written.specs.Cleaning.{IsCleaned, is_feed, is_blank as is_not_solid, without_blank_lines as cleaned}
use Rattle.cedar_print.specs.Clean.{space, units_of, is_space, is_blank, without_blank_lines}
use Rattle.cedar_print.specs.Laws.{AreCutFrom, no_units, a_blank, a_text, CleanLayoutsAreCleaned}
use Rattle.cedar_print.proofs.Clean.{feeds, feeds-cons, solid_stays, solid_stays_after, solid_feeds}

-- ---- units

blank_is_not_solid : (u : List ℕ) → is_blank u ≡ true → is_solid u ≡ false
blank_is_not_solid [] h = absurd (false≢true h)
blank_is_not_solid (b ∷ []) h = go (b == line_feed) (b == space_character) refl refl h
  where
    go : (f s : Bool) → (b == line_feed) ≡ f → (b == space_character) ≡ s → (f || s) ≡ true
        → is_solid (b ∷ []) ≡ false
    go true s e k h = ap (λ c. is_solid (c ∷ [])) ((Decides-eqb b line_feed).0 e) ∙ feed_not_solid
    go false true e k h =
        ap (λ c. is_solid (c ∷ [])) ((Decides-eqb b space_character).0 k)
        ∙ blank_not_solid space space_blank
    go false false e k h = absurd (false≢true h)
blank_is_not_solid (b ∷ (c ∷ u)) h = absurd (false≢true h)

solid_no_feed : (v : List ℕ) → is_solid v ≡ true → is_feed v ≡ false
solid_no_feed v h = go (is_feed v) refl
  where
    go : (f : Bool) → is_feed v ≡ f → f ≡ false
    go false e = refl
    go true e = absurd (false≢true (sym (blank_is_not_solid v (ap (λ b. b || is_space v) e)) ∙ h))

-- a line feed is among the units that the units begin with and that are no token or comment
abbrev feeds_cut : List (List ℕ) → Bool
feeds_cut vs = list_any is_feed (take_while is_not_solid vs)

feeds_cut-cons : (v : List ℕ) (vs : List (List ℕ))
    → feeds_cut (v ∷ vs) ≡ (is_not_solid v && (is_feed v || feeds_cut vs))
feeds_cut-cons v vs =
    ap (list_any is_feed) (take_while-cons is_not_solid v vs) ∙ go (is_not_solid v)
  where
    go : (b : Bool) → list_any is_feed (cond b (v ∷ take_while is_not_solid vs) [])
        ≡ (b && (is_feed v || feeds_cut vs))
    go true = refl
    go false = refl

same_blank : (u : List ℕ) → is_blank u ≡ true → is_blank u ≡ is_not_solid u
same_blank u h = h ∙ sym (ap not (blank_is_not_solid u h))

same_feeds : (us vs : List (List ℕ)) → AreCutFrom us vs → feeds us ≡ feeds_cut vs
same_feeds _ _ no_units = refl
same_feeds _ _ (a_blank u us vs h x) = feeds-cons u us
    ∙ ap (λ b. b && (is_feed u || feeds us)) (same_blank u h)
    ∙ ap (λ b. is_not_solid u && (is_feed u || b)) (same_feeds us vs x)
    ∙ sym (feeds_cut-cons u vs)
same_feeds _ _ (a_text v ws us vs h k l x) = solid_feeds (concat (v ∷ ws)) us h
    ∙ sym (feeds_cut-cons v (ws ++ vs) ∙ ap (λ b. not b && (is_feed v || feeds_cut (ws ++ vs))) k)

-- ---- a text

no_feeds_stay : (ws vs : List (List ℕ)) → AllByRecursion (λ w. is_feed w ≡ false) ws
    → cleaned false (ws ++ vs) ≡ concat ws ++ cleaned false vs
no_feeds_stay [] vs h = refl
no_feeds_stay (w ∷ ws) vs h = ap (λ b. w ++ cleaned (b || false) (ws ++ vs)) h.0
    ∙ ap (λ xs. w ++ xs) (no_feeds_stay ws vs h.1)
    ∙ sym (append_assoc w (concat ws) (cleaned false vs))

solid_first : (fed : Bool) (v : List ℕ) (vs : List (List ℕ)) → is_solid v ≡ true
    → cleaned fed (v ∷ vs) ≡ v ++ cleaned false vs
solid_first false v vs h = ap (λ b. v ++ cleaned (b || false) vs) (solid_no_feed v h)
solid_first true v vs h =
    let none : feeds_cut (v ∷ vs) ≡ false = feeds_cut-cons v vs
    ∙ ap (λ b. not b && (is_feed v || feeds_cut vs)) h in
    ap (λ b. cond b (cleaned true vs) (v ++ cleaned (is_feed v || is_not_solid v) vs)) none
    ∙ ap (λ b. v ++ cleaned (b || is_not_solid v) vs) (solid_no_feed v h)
    ∙ ap (λ b. v ++ cleaned (not b) vs) h

text_first : (fed : Bool) (s : List ℕ) (us : List (List ℕ)) → is_blank s ≡ false
    → without_blank_lines fed (s ∷ us) ≡ s ++ without_blank_lines false us
text_first false s us h = solid_stays s us h
text_first true s us h = solid_stays_after s us h

-- ---- all units

same_cleaned : (us vs : List (List ℕ)) → AreCutFrom us vs → (fed : Bool)
    → without_blank_lines fed us ≡ cleaned fed vs
same_cleaned _ _ no_units fed = refl
same_cleaned _ _ (a_blank u us vs h x) fed =
    let old = without_blank_lines true us in
    ap (λ b. cond (fed && b) old (u ++ without_blank_lines (is_feed u || (fed && is_blank u)) us))
    (same_feeds (u ∷ us) (u ∷ vs) (a_blank u us vs h x))
    ∙ ap (λ b. cond (fed && feeds_cut (u ∷ vs)) old
    (u ++ without_blank_lines (is_feed u || (fed && b)) us)) (same_blank u h)
    ∙ ap (λ xs. cond (fed && feeds_cut (u ∷ vs)) old (u ++ xs))
    (same_cleaned us vs x (is_feed u || (fed && is_not_solid u)))
    ∙ ap (λ xs. cond (fed && feeds_cut (u ∷ vs)) xs
    (u ++ cleaned (is_feed u || (fed && is_not_solid u)) vs)) (same_cleaned us vs x true)
same_cleaned _ _ (a_text v ws us vs h k l x) fed =
    text_first fed (concat (v ∷ ws)) us h
    ∙ ap (λ xs. (v ++ concat ws) ++ xs) (same_cleaned us vs x false)
    ∙ append_assoc v (concat ws) (cleaned false vs)
    ∙ ap (λ xs. v ++ xs) (sym (no_feeds_stay ws vs l)) ∙ sym (solid_first fed v (ws ++ vs) k)

pub clean_layouts_are_cleaned : CleanLayoutsAreCleaned
clean_layouts_are_cleaned w d x y s l t =
    let c = t.0.0 in
    let cut = s c t.0.1 in
    let same : text_of_choice d c ≡ x = l.1 (text_of_choice d c) (c, t.0.1, refl) in
    subst (λ z. IsCleaned z y) same (record {
      units = cut.0;
      split = cut.1;
      trimmed = t.0.2 ∙ ap trim (same_cleaned (flat_map units_of (pieces d c false 0)) cut.0 cut.2
          false);
    })
