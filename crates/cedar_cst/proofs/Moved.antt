-- What the parser gives on the lexemes of a part of a text,
-- with their places moved to those of the text.
use Rattle.std.specs.Prelude.{◌≡◌, ◌≤◌, ◌<◌, ℕ, zero, suc, ◌+◌, ◌-◌, Bool, true, false, List, [], ◌∷◌, ◌++◌, length, map, take, drop, Ok, Err, if◌then◌else◌}
use Rattle.std.specs.List.{slice_get, sum_by, AllByRecursion}
use Rattle.std.proofs.Common.{get_or, refl, sym, ap, ◌∙◌, arith, inl, inr, subst, append-nil}
use Rattle.std.proofs.lemmas.List.{length-map, drop_all, take_all}
use Rattle.std.proofs.lemmas.List.Sums.{sum_by-cons, sum_by-append}
use Rattle.cedar_tokens.specs.Units.{is_token}
use Rattle.cedar_tokens.specs.Places.{token_spans}
use Rattle.cedar_tokens.specs.declared.token.Span.{Span}
use Rattle.cedar_tokens.specs.TokenKinds.{kind_of}
use Rattle.cedar_grammar.specs.Texts.{greatest_depth, only_tokens, LeavesGrammar}
use Rattle.cedar_grammar.specs.Trees.{Label, Forest, none, leaf, branch, yield}
use Rattle.cedar_grammar.specs.KindGrammar.{G}
use Rattle.cedar_grammar.specs.Placed.{Placed, kind_of_placed}
use Rattle.cedar_grammar.specs.TrailingCommas.{without_trailing}
use Rattle.cedar_grammar.specs.Reader.Reading.{Answer, done, stuck}
use Rattle.cedar_grammar.specs.Reader.Lines.{set_to}
use Rattle.cedar_grammar.proofs.Rules.Maps.{each, relabel, answer_of, set_agrees, each_length}
use Rattle.cedar_grammar.proofs.Trees.Relabelling.{each_map, map_map}
use Rattle.cedar_grammar.specs.declared.tree.Policies.{Policies}
use Rattle.cedar_grammar.specs.Erased.{erase, variant, policy_trees}
use Rattle.cedar_grammar.specs.NodeTrees.{spanned}
use Rattle.cedar_reading.specs.declared.lexeme.Lexeme.{Lexeme}
use Rattle.cedar_reading.specs.declared.reading.Refusal.{Refusal}
use Rattle.cedar_reading.specs.declared.reading.Refusal.TheVariants.{Grammar, TooDeep, OutOfMemory}
use Rattle.cedar_reading.specs.Lexemes.{AreLexemes}
use Rattle.cedar_reading.specs.Reading.{kind, AreRight, start_or, place_of}
use Rattle.cedar_reading.proofs.Parsing.{placed_tree}
use Rattle.cedar_cst.specs.Inside.Parts.{moved_span, moved_lexeme, place_before, placed_from, HasPoliciesFrom}
use Rattle.cedar_cst.specs.Inside.ReadingSet.{GivesSet}
use Rattle.cedar_cst.proofs.Whole.{are_right, whole_grammar, whole_deep}
use Rattle.cedar_tokens.proofs.UnitsSoFar.{units_length}

-- a part is refused inside it or at its end
refused_within : (part : List ℕ) (p : ℕ) (deep : Bool) → LeavesGrammar part p deep → p ≤ length part
refused_within part p deep h = omega (
  arith,
  h.place,
  units_length (h.before ++ h.after) part h.split,
  sum_by-append length h.before h.after,
)

module _ (n : ℕ) where
  abbrev moved : Lexeme → Lexeme
  moved l = moved_lexeme n l

  spans_moved : (from : ℕ) (us : List (List ℕ))
      → map (moved_span n) (token_spans from us) ≡ token_spans (n + from) us
  unfolding token_spans
  spans_moved from [] = refl
  spans_moved from (u ∷ us) = go (is_token u)
      (spans_moved (from + length u) us ∙ ap (λ k. token_spans k us) further) further
    where
      further : n + (from + length u) ≡ (n + from) + length u
      further = omega arith

      go : (b : Bool) → map (moved_span n) (token_spans (from + length u) us)
          ≡ token_spans ((n + from) + length u) us → n + (from + length u) ≡ (n + from) + length u
          → map (moved_span n) (if b then record { start = from; end = from + length u }
          ∷ token_spans (from + length u) us else token_spans (from + length u) us)
          ≡ (if b then record { start = n + from; end = (n + from) + length u }
          ∷ token_spans ((n + from) + length u) us else token_spans ((n + from) + length u) us)
      go true e i = ap (λ k. record { start = n + from; end = k }
          ∷ map (moved_span n) (token_spans (from + length u) us)) i
          ∙ ap (λ z. record { start = n + from; end = (n + from) + length u } ∷ z) e
      go false e i = e

  kinds_moved : (ls : List Lexeme) → AllByRecursion (λ (l : Lexeme). l.kind ≡ kind_of l.text.now) ls
      → AllByRecursion (λ (l : Lexeme). l.kind ≡ kind_of l.text.now) (map moved ls)
  kinds_moved [] k = tt
  kinds_moved (l ∷ ls) k = (k.0, kinds_moved ls k.1)

  right_moved : (f : Forest Label Lexeme) → AreRight f → AreRight (relabel moved f)
  right_moved none r = tt
  right_moved (leaf l f) r = (r.0, right_moved f r.1)
  right_moved (branch l f g) r = (right_moved f r.0, right_moved g r.1)

  -- the reader's answer on the lexemes at their first places
  set_unmoved : (e : Refusal) (a : Answer Lexeme) → GivesSet (Err e) (answer_of moved a)
      → GivesSet (Err e) a
  set_unmoved (Grammar left) (stuck b r) (s, inl e, i) =
      let kind_is : b ≡ false = cc in
      let same : s ≡ each moved r = cc in
      (r, inl (ap (λ z. stuck z r) kind_is), i ∙ (ap length same ∙ each_length moved r))
  set_unmoved (Grammar left) (stuck b r) (s, inr (f, t, u, e, k), i) = absurd cc
  set_unmoved (Grammar left) (done g r) (s, inl e, i) = absurd cc
  set_unmoved (Grammar left) (done g []) (s, inr (f, t, u, e, k), i) =
      absurd (let same : ◌≡◌ {A = List Lexeme} [] (t ∷ u) = cc in cc)
  set_unmoved (Grammar left) (done g (x ∷ r)) (s, inr (f, t, u, e, k), i) =
      let same : s ≡ each moved (x ∷ r) = cc in
      (x ∷ r, inr (g, x, r, refl, refl), i ∙ (ap length same ∙ each_length moved (x ∷ r)))
  set_unmoved (TooDeep left) (stuck b r) (s, e, i) =
      let kind_is : b ≡ true = cc in
      let same : s ≡ each moved r = cc in
      (r, ap (λ z. stuck z r) kind_is, i ∙ (ap length same ∙ each_length moved r))
  set_unmoved (TooDeep left) (done g r) (s, e, i) = absurd cc
  set_unmoved OutOfMemory a h = tt

  start_moved : (ls : List Lexeme) (k e end : ℕ) → end ≡ n + e
      → start_or end (slice_get (map moved ls) k) ≡ n + start_or e (slice_get ls k)
  start_moved [] zero e end i = i
  start_moved [] (suc k) e end i = i
  start_moved (l ∷ ls) zero e end i = refl
  start_moved (l ∷ ls) (suc k) e end i = start_moved ls k e end i

  module _ (part : List ℕ) (ls : List Lexeme) (are : AreLexemes part ls) where
    agrees : set_to kind greatest_depth (map moved ls)
        ≡ answer_of moved (set_to kind greatest_depth ls)
    agrees = ap (set_to kind greatest_depth) (sym (each_map moved ls))
        ∙ set_agrees moved kind kind (λ l. refl) greatest_depth ls

    moved_right : (f : Forest Label Lexeme) → set_to kind greatest_depth (map moved ls) ≡ done f []
        → AreRight f
    moved_right f e = go (set_to kind greatest_depth ls) refl
      where
        go : (a : Answer Lexeme) → set_to kind greatest_depth ls ≡ a → AreRight f
        go (stuck b r) i =
            let w : done f [] ≡ stuck b (each moved r) =
            sym e ∙ (agrees ∙ ap (answer_of moved) i) in absurd cc
        go (done g r) i =
            let w : done f [] ≡ done (relabel moved g) (each moved r) =
            sym e ∙ (agrees ∙ ap (answer_of moved) i) in
            let same : f ≡ relabel moved g = cc in
            subst AreRight (sym same) (right_moved g (are_right part ls are g r i))

    -- the policies that were parsed are those of the part
    pub part_tree : (p : Policies) → GivesSet (Ok p) (set_to kind greatest_depth (map moved ls))
        → HasPoliciesFrom n part p.policies.items
    part_tree p (f, e, same) =
        let texts : map (λ (l : Lexeme). l.text.now) (map moved ls) ≡ only_tokens are.units =
        map_map (λ (l : Lexeme). l.text.now) moved ls ∙ are.texts in
        let places : map (λ (l : Lexeme). l.span) (map moved ls) ≡ token_spans n are.units =
        map_map (λ (l : Lexeme). l.span) moved ls
        ∙ (sym (map_map (moved_span n) (λ (l : Lexeme). l.span) ls)
        ∙ (ap (map (moved_span n)) are.places
        ∙ (spans_moved 0 are.units ∙ ap (λ k. token_spans k are.units) (omega arith)))) in
        let t = placed_tree n are.units (map moved ls)
        (kinds_moved ls are.kinds) texts places greatest_depth f e in
        go t.0 t.1 (same (moved_right f e) ∙ t.2)
      where
        go : (tree : Forest Label Placed)
            → G kind_of_placed greatest_depth tree (placed_from n are.units)
            → erase p ≡ spanned (λ (t : Placed). t.text) (λ (t : Placed).
            t.span) (without_trailing kind_of_placed tree) → HasPoliciesFrom n part p.policies.items
        go tree g i =
            let s = g.shape in
            let w : variant Label.policies (policy_trees p.policies.items) none
            ≡ variant Label.policies (spanned (λ (t : Placed). t.text) (λ (t : Placed). t.span)
            (without_trailing kind_of_placed s.0)) none =
            i ∙ ap (λ z. spanned (λ (t : Placed). t.text) (λ (t : Placed). t.span)
            (without_trailing kind_of_placed z)) s.1 in
            record {
              units = are.units;
              split = are.split;
              fitting = are.fitting;
              row = s.0;
              among = s.2;
              leaves = sym (append-nil (yield s.0)) ∙ (sym (ap yield s.1) ∙ g.leaves);
              nodes = cc;
            }

    place_moved : (left : ℕ)
        → place_before (n + length part) (map moved ls) left ≡ n + place_of part ls left
    place_moved left = ap (λ k. start_or (n + length part) (slice_get (map moved ls) (k - left)))
        (length-map ls moved)
        ∙ start_moved ls (length ls - left) (length part) (n + length part) refl

    -- the grammar refuses the part, and this is the place, moved as the lexemes are
    abbrev MovedRefusal : ℕ → Bool → Type 0
    MovedRefusal place deep =
        (q : ℕ) × (place ≡ n + q) × LeavesGrammar part q deep × (q ≤ length part)

    pub part_grammar : (tokens : List Lexeme) (left place : ℕ) → tokens ≡ map moved ls
        → place ≡ place_before (n + length part) tokens left
        → GivesSet (Err (Grammar left)) (set_to kind greatest_depth tokens)
        → MovedRefusal place false
    part_grammar tokens left place m e h =
        let r = whole_grammar part ls are left (set_unmoved (Grammar left)
        (set_to kind greatest_depth ls) (subst (GivesSet (Err (Grammar left))) agrees
        (subst (λ z. GivesSet (Err (Grammar left)) (set_to kind greatest_depth z)) m h))) in (
          place_of part ls left,
          e ∙ (ap (λ z. place_before (n + length part) z left) m ∙ place_moved left),
          r,
          refused_within part (place_of part ls left) false r,
        )

    pub part_deep : (tokens : List Lexeme) (left place : ℕ) → tokens ≡ map moved ls
        → place ≡ place_before (n + length part) tokens left
        → GivesSet (Err (TooDeep left)) (set_to kind greatest_depth tokens)
        → MovedRefusal place true
    part_deep tokens left place m e h =
        let r = whole_deep part ls are left (set_unmoved (TooDeep left)
        (set_to kind greatest_depth ls) (subst (GivesSet (Err (TooDeep left))) agrees
        (subst (λ z. GivesSet (Err (TooDeep left)) (set_to kind greatest_depth z)) m h))) in (
          place_of part ls left,
          e ∙ (ap (λ z. place_before (n + length part) z left) m ∙ place_moved left),
          r,
          refused_within part (place_of part ls left) true r,
        )

-- ---- bounds

-- a lexeme ends at or before this byte, and doesn't start after its end
abbrev EndsBy : ℕ → Lexeme → Type 0
EndsBy end l = (l.span.start ≤ l.span.end) × (l.span.end ≤ end)

ends_by : (from end : ℕ) (us : List (List ℕ)) (ls : List Lexeme)
    → map (λ (l : Lexeme). l.span) ls ≡ token_spans from us → end ≡ from + sum_by length us
    → (k : ℕ) (d : Lexeme) → k < length ls → EndsBy end (get_or ls k d)
unfolding token_spans
ends_by from end [] [] e i k d h = absurd (omega (arith, h))
ends_by from end [] (l ∷ ls) e i k d h = absurd cc
ends_by from end (u ∷ us) ls e i k d h = go (is_token u) ls e k h (λ ms f j m.
    ends_by (from + length u) end us ms f (omega (arith, i, sum_by-cons length u us)) j d m)
  where
    go : (b : Bool) (ls : List Lexeme) → map (λ (l : Lexeme). l.span) ls
        ≡ (if b then record { start = from; end = from + length u }
        ∷ token_spans (from + length u) us else token_spans (from + length u) us)
        → (k : ℕ) → k < length ls
        → ((ms : List Lexeme) → map (λ (l : Lexeme). l.span) ms ≡ token_spans (from + length u) us
        → (j : ℕ) → j < length ms → EndsBy end (get_or ms j d)) → EndsBy end (get_or ls k d)
    go false ls e k h again = again ls e k h
    go true [] e k h again = absurd cc
    go true (l ∷ ls) e (suc k) h again =
        let rest : map (λ (l : Lexeme). l.span) ls ≡ token_spans (from + length u) us = cc in
        again ls rest k (omega (arith, h))
    go true (l ∷ ls) e zero h again =
        let span : l.span ≡ record { start = from; end = from + length u } = cc in
        let start : l.span.start ≡ from = ap (λ (s : Span). s.start) span in
        let stop : l.span.end ≡ from + length u = ap (λ (s : Span). s.end) span in
        (omega (arith, start, stop), omega (arith, stop, i, sum_by-cons length u us))

-- the lexemes of a part end inside it
pub lexeme_inside : (part : List ℕ) (ls : List Lexeme) → AreLexemes part ls → (k : ℕ) (d : Lexeme)
    → k < length ls → ((get_or ls k d).span.start ≤ (get_or ls k d).span.end)
    × ((get_or ls k d).span.end ≤ length part)
lexeme_inside part ls are k d h = ends_by 0 (length part) are.units ls are.places
    (units_length are.units part are.split ∙ omega arith) k d h

-- moved by nothing
pub unmoved : (ls : List Lexeme) → ls ≡ map (moved_lexeme 0) ls
unmoved [] = refl
unmoved (l ∷ ls) =
    let a : 0 + l.span.start ≡ l.span.start = omega arith in
    let b : 0 + l.span.end ≡ l.span.end = omega arith in
    let same : moved_lexeme 0 l ≡ l = rw (a, b) refl in
    ap (λ z. l ∷ z) (unmoved ls) ∙ ap (λ z. z ∷ map (moved_lexeme 0) ls) (sym same)

-- a vector whose items were moved has them
pub given_moved : (n len : ℕ) (items lent new now : List Lexeme) → lent ≡ items → length lent ≡ len
    → new ≡ map (moved_lexeme n) lent → now ≡ take len (new ++ drop (length new) items)
    → now ≡ map (moved_lexeme n) items
given_moved n len items lent new now a b c d =
    let long : length new ≡ len = ap length c ∙ (length-map lent (moved_lexeme n) ∙ b) in
    let none : drop (length new) items ≡ [] =
    drop_all (length new) items (omega (arith, long, b, ap length a)) in
    d ∙ (ap (λ z. take len (new ++ z)) none ∙ (ap (take len) (append-nil new)
    ∙ (take_all len new (omega (arith, long)) ∙ (c ∙ ap (map (moved_lexeme n)) a))))
