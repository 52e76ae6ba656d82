-- Every layout reads back.
use Rattle.std.proofs.Common.{◌≡◌, ℕ, ℤ, List, [], ◌∷◌, ◌++◌, map, refl, ap, sym, ◌∙◌, subst, append_assoc, append-nil}
use Rattle.std.specs.List.{AllByRecursion, filter}
use Rattle.std.proofs.lemmas.List.{map-append}
use Rattle.cedar_layout.specs.Layout.{text_of_choice}
use Rattle.cedar_tokens.specs.Bytes.{line_feed, space_character}
use Rattle.cedar_tokens.specs.Listing.{Decorated, IsListing, listing, gaps, decorate}
use Rattle.cedar_tokens.specs.Split.{SplitsInto}
use Rattle.cedar_tokens.proofs.CommentLines.{comments_nil}
use Rattle.cedar_tokens.proofs.Scanning.{split_unique}
use Rattle.cedar_tokens.proofs.Lists.{All-parts}
use Rattle.cedar_grammar.specs.TypedTrees.{Clause, policy, part_yield}
use Rattle.cedar_laws.specs.Table.{part_table}
use Rattle.cedar_laws.specs.Fit.{PartFit}
use Rattle.cedar_laws.specs.Gaps.{Spelled}
use Rattle.cedar_laws.specs.Good.{IsGood, IsLine}
use Rattle.cedar_layout.specs.Cleaning.{IsCleaned}
use Rattle.cedar_laws.specs.Output.{paragraphs, closing_text, PolicyTexts, IsSomeLayout, with_value, tokens_of, EveryLayoutReadsBack}
use Rattle.cedar_laws.proofs.Units.{comment_first}
use Rattle.cedar_laws.proofs.Scanned.{scans_unit}
use Rattle.cedar_laws.proofs.Joined.{joined}
use Rattle.cedar_laws.specs.Joining.{follow}
use Rattle.cedar_laws.specs.Laws.{of_tokens, RawLayoutsReadBack, ChoicesDifferInBlanks}
use Rattle.cedar_laws.specs.CleaningLaws.{is_solid}
use Rattle.cedar_laws.proofs.Listed.{comment_no_token}
use Rattle.cedar_laws.proofs.ReadBack.{reading, spelled_reads, line_alone}
use Rattle.cedar_laws.proofs.CleanedTexts.{clean_reads}
use Rattle.cedar_laws.proofs.Encoded.{spelled_utf8}
use Rattle.cedar_laws.proofs.PrintedPolicies.{law_of_gaps}

nothing_reads : IsListing [] (record { tokens = []; closing = [] })
unfolding listing decorate gaps
nothing_reads = record {
  units = [];
  split = refl;
  value = ap (λ z. record { tokens = []; closing = z }) (sym comments_nil);
}

line_reads : (l : List ℕ) → IsLine l → IsListing l (record { tokens = []; closing = l ∷ [] })
unfolding listing decorate gaps
line_reads l h = record {
  units = l ∷ [];
  split = subst (λ z. SplitsInto z (l ∷ [])) (append-nil l)
      (scans_unit l [] [] [] (comment_first l [] h.comment tt) refl);
  value = rw (comment_no_token l h.comment, append-nil l)
      (ap (λ z. record { tokens = []; closing = z }) (sym (line_alone l h)));
}

closing_reads : (ls : List (List ℕ)) → AllByRecursion IsLine ls
    → IsListing (closing_text ls) (record { tokens = []; closing = ls })
closing_reads [] a = nothing_reads
closing_reads (l ∷ ls) a = joined l (closing_text ls) (record { tokens = []; closing = l ∷ [] })
    (record { tokens = []; closing = ls }) (line_reads l a.0) (closing_reads ls a.1)

follow_plain : (ts us : List Decorated) (cs : List (List ℕ))
    → follow (record { tokens = ts; closing = [] }) (record { tokens = us; closing = cs })
    ≡ record { tokens = ts ++ us; closing = cs }
follow_plain ts [] cs = refl
follow_plain ts (u ∷ us) cs = refl

policy_reads : (i : ℤ) (p : Clause Decorated policy) (t : List ℕ) → PartFit p
    → AllByRecursion IsGood (part_yield p)
    → (s : List ℕ) × IsSomeLayout (part_table i p) s × IsCleaned s t
    → IsListing t (of_tokens (part_yield p))
policy_reads i p t f g w =
    let spelled : Spelled space_character (part_yield p) w.0 =
    subst (λ z. Spelled space_character (part_yield p) z) (sym w.1.1) (law_of_gaps i p w.1.0 f) in
    let whole = spelled_reads space_character (part_yield p) w.0 spelled g in
    clean_reads w.0 t (of_tokens (part_yield p)) (spelled_utf8 spelled g) w.2 whole

joined_reads : (t x : List ℕ) (ts us : List Decorated) (cs : List (List ℕ))
    → IsListing t (of_tokens ts) → IsListing x (record { tokens = map with_value us; closing = cs })
    → IsListing (t ++ (line_feed ∷ x)) (record { tokens = map with_value (ts ++ us); closing = cs })
joined_reads t x ts us cs a b = subst (λ z. IsListing (t ++ (line_feed ∷ x)) z)
    (follow_plain (map with_value ts) (map with_value us) cs
    ∙ ap (λ z. record { tokens = z; closing = cs }) (sym (map-append with_value ts us)))
    (joined t x (of_tokens ts) (record { tokens = map with_value us; closing = cs }) a b)

policies_read : (i : ℤ) (ps : List (Clause Decorated policy)) (texts cs : List (List ℕ))
    → AllByRecursion PartFit ps → AllByRecursion IsGood (tokens_of ps) → AllByRecursion IsLine cs
    → PolicyTexts IsSomeLayout i ps texts
    → IsListing (paragraphs texts ++ (line_feed ∷ closing_text cs))
    (record { tokens = map with_value (tokens_of ps); closing = cs })
policies_read i [] [] cs f g c w =
    joined_reads [] (closing_text cs) [] [] cs nothing_reads (closing_reads cs c)
policies_read i [] (t ∷ ts) cs f g c w = absurd w
policies_read i (p ∷ ps) [] cs f g c w = absurd w
policies_read i (p ∷ []) (t ∷ []) cs f g c w =
    joined_reads t (closing_text cs) (part_yield p) [] cs
    (policy_reads i p t f.0 (All-parts IsGood (part_yield p) [] g).0 w.0) (closing_reads cs c)
policies_read i (p ∷ []) (t ∷ (u ∷ ts)) cs f g c w = absurd w.1
policies_read i (p ∷ (q ∷ ps)) (t ∷ []) cs f g c w = absurd w.1
policies_read i (p ∷ (q ∷ ps)) (t ∷ (u ∷ ts)) cs f g c w =
    let a = All-parts IsGood (part_yield p) (tokens_of (q ∷ ps)) g in
    let rest = policies_read i (q ∷ ps) (u ∷ ts) cs f.1 a.1 c w.1 in
    let gap = joined_reads [] (paragraphs (u ∷ ts) ++ (line_feed ∷ closing_text cs)) []
    (tokens_of (q ∷ ps)) cs nothing_reads rest in
    subst
    (λ z. IsListing z (record { tokens = map with_value (tokens_of (p ∷ (q ∷ ps))); closing = cs }))
    (sym (append_assoc t (line_feed ∷ (line_feed ∷ paragraphs (u ∷ ts)))
    (line_feed ∷ closing_text cs)))
    (joined_reads t (line_feed ∷ (paragraphs (u ∷ ts) ++ (line_feed ∷ closing_text cs)))
    (part_yield p)
    (tokens_of (q ∷ ps)) cs (policy_reads i p t f.0 a.0 w.0) gap)

-- Every layout reads back.
pub reads_back : EveryLayoutReadsBack
reads_back i ps cs output f g c w =
    subst (λ z. IsListing z (record { tokens = map with_value (tokens_of ps); closing = cs }))
    (sym w.written) (policies_read i ps w.texts cs f g c w.cleaned)

-- a layout reads back before it is cleaned
pub raw_reads_back : RawLayoutsReadBack
raw_reads_back i p c f g =
    spelled_reads space_character (part_yield p) (text_of_choice (part_table i p) c)
    (law_of_gaps i p c f) g

-- two layouts have the same tokens and comments
pub choices_agree : ChoicesDifferInBlanks
choices_agree i p c d us vs f g s t =
    let a = reading (law_of_gaps i p c f) g in
    let b = reading (law_of_gaps i p d f) g in
    ap (filter is_solid) (split_unique (text_of_choice (part_table i p) c) us a.units s a.split)
    ∙ (a.solid ∙ (sym b.solid
    ∙ ap (filter is_solid) (split_unique (text_of_choice (part_table i p) d) b.units vs b.split t)))
