-- Where a text leaves the grammar, after the policies that a reader has answered.
use Rattle.std.specs.Prelude.{◌≡◌, ◌↔◌, ◌≤◌, ◌-◌, ℕ, true, false, List, ◌∷◌, ◌++◌, IsTrue, length, take, drop, Option, Some, None, codes}
use Rattle.std.specs.Option.{option_map}
use Rattle.std.specs.Str.{IsUtf8, IsCharBoundary}
use Rattle.std.specs.Borrow.{Bor}
use Rattle.std.proofs.Common.{refl, sym, ap, ◌∙◌, subst, arith, inl, inr}
use Rattle.std.proofs.lemmas.List.{length-drop}
use Rattle.cedar_tokens.specs.Split.{SplitsInto}
use Rattle.cedar_grammar.specs.KindGrammar.{G}
use Rattle.cedar_grammar.specs.Placed.{Placed, placed, kind_of_placed}
use Rattle.cedar_tokens.specs.TokenKinds.{kind_of}
use Rattle.cedar_grammar.specs.Texts.{greatest_depth, only_tokens, Accepted, LeavesGrammar}
use Rattle.cedar_grammar.proofs.Texts.Accepted.{is_accepted}
use Rattle.cedar_grammar.proofs.Texts.Placed.{tree_by_kinds}
use Rattle.cedar_grammar.proofs.Trees.Relabelling.{relabelled}
use Rattle.cedar_grammar.proofs.Rules.Maps.{relabel}
use Rattle.cedar_grammar.specs.declared.error.FormatError.{FormatError}
use Rattle.cedar_grammar.specs.declared.error.FormatError.TheVariants.{UnknownCharacter, UnfinishedString, NumberTooLarge, Grammar, TooDeep, NoDocument, Unsound, OutOfMemory}
use Rattle.cedar_grammar.specs.declared.tree.Node.{Node}
use Rattle.cedar_grammar.specs.declared.tree.Policy.{Policy}
use Rattle.cedar_grammar.specs.TreeLaws.{AcceptedIsNotRefused, RefusalIsUnique}
use Rattle.cedar_grammar.specs.Refusals.{Refuses, RefusesTokens, OutOfMemoryOr}
use Rattle.cedar_grammar.proofs.NodeLaws.{placed_texts}
use Rattle.cedar_reading.specs.Tokens.{HasTokens}
use Rattle.cedar_cst.specs.PolicyReaders.{Position, EndsPiece, HasPolicies, HasRead}
use Rattle.cedar_cst.proofs.Readers.{ends_inside}
use Rattle.cedar_faults.specs.declared.expected.Leaving.{Leaving}
use Rattle.cedar_faults.specs.declared.expectation.Expected.{Expected}
use Rattle.cedar_faults.specs.Expectations.{NeverLeaves, LeavesAt, IsExpected, IsList, AreAllAfter, first_of}
use Rattle.cedar_faults.specs.Naming.{AreNamed}
use Rattle.cedar_faults.specs.Inside.TokenBeginnings.{IsPlaceOf, HasTree, KindsFollow}
use Rattle.cedar_faults.specs.Inside.Leaving.{LeavesAfter}
use Rattle.cedar_faults.proofs.Probed.{of_units}
use Rattle.cedar_faults.proofs.Rests.{Within, within, same_after}
use Rattle.cedar_faults.proofs.Splits.{Cut, cut}
use Rattle.cedar_tokens.proofs.UnitsSoFar.{scan_utf8}

-- a text that has policies is accepted
text_of : Placed → List ℕ
text_of t = t.text

pub policies_accepted : (text : List ℕ) (ps : List (Node Policy)) → HasPolicies text ps
    → Accepted text
unfolding text_of
policies_accepted text ps h = (
  relabel text_of h.tree,
  is_accepted text (relabel text_of h.tree) h.units h.split h.fitting
      (subst (λ z. G kind_of greatest_depth (relabel text_of h.tree) z) (placed_texts h.units 0)
      (relabelled text_of kind_of_placed kind_of (λ _. refl) greatest_depth h.tree (placed h.units)
      (tree_by_kinds h.units h.tree h.grammar))),
)

-- texts that do not leave the grammar
never_accepted : AcceptedIsNotRefused → (text : List ℕ) → Accepted text → NeverLeaves text
never_accepted law text a at (false, l) = law text (Grammar at) a l
never_accepted law text a at (true, l) = law text (TooDeep at) a l

pub never_read : AcceptedIsNotRefused → (text : List ℕ) (ps : List (Node Policy))
    → HasPolicies text ps → NeverLeaves text
never_read law text ps h = never_accepted law text (policies_accepted text ps h)

never_other : RefusalIsUnique → (text : List ℕ) (e : FormatError) → Refuses text e
    → ((n : ℕ) → e ≡ Grammar n → ⊥) → ((n : ℕ) → e ≡ TooDeep n → ⊥) → NeverLeaves text
never_other law text e r g d at (false, l) = g at (law text e (Grammar at) r l)
never_other law text e r g d at (true, l) = d at (law text e (TooDeep at) r l)

never_tokens : RefusalIsUnique → (text : List ℕ) (e : FormatError) → RefusesTokens text e
    → NeverLeaves text
never_tokens law text (UnknownCharacter n) r =
    never_other law text (UnknownCharacter n) r (λ m i. cc) (λ m i. cc)
never_tokens law text (UnfinishedString n) r =
    never_other law text (UnfinishedString n) r (λ m i. cc) (λ m i. cc)
never_tokens law text (NumberTooLarge n) r =
    never_other law text (NumberTooLarge n) r (λ m i. cc) (λ m i. cc)
never_tokens law text (Grammar n) r = absurd r
never_tokens law text (TooDeep n) r = absurd r
never_tokens law text NoDocument r = absurd r
never_tokens law text Unsound r = absurd r
never_tokens law text OutOfMemory r = absurd r

pub never_placed : RefusalIsUnique → (text : List ℕ) (e : FormatError) (at : Option ℕ)
    → IsPlaceOf e at → at ≡ None → OutOfMemoryOr (Refuses text) e → NeverLeaves text
never_placed law text (UnknownCharacter n) at p i r = never_tokens law text (UnknownCharacter n) r
never_placed law text (UnfinishedString n) at p i r = never_tokens law text (UnfinishedString n) r
never_placed law text (NumberTooLarge n) at p i r = never_tokens law text (NumberTooLarge n) r
never_placed law text (Grammar n) at p i r = absurd (let z : Some n ≡ None = sym p ∙ i in cc)
never_placed law text (TooDeep n) at p i r = absurd (let z : Some n ≡ None = sym p ∙ i in cc)
never_placed law text NoDocument at p i r = absurd r
never_placed law text Unsound at p i r = absurd r
never_placed law text OutOfMemory at p i r = absurd p

-- the place of a refusal
none_some : {A : Type 0} (at : Option ℕ) (n : ℕ) → at ≡ None → at ≡ Some n → A
none_some at n p i = absurd (let z : None ≡ Some n = sym p ∙ i in cc)

same_place : (at : Option ℕ) (m n : ℕ) → at ≡ Some m → at ≡ Some n → m ≡ n
same_place at m n p i = let z : Some m ≡ Some n = sym p ∙ i in cc

leaving_place : (text : List ℕ) (e : FormatError) (at : Option ℕ) (n : ℕ) → IsPlaceOf e at
    → at ≡ Some n → OutOfMemoryOr (Refuses text) e → LeavesAt text n
leaving_place text (UnknownCharacter m) at n p i r = none_some at n p i
leaving_place text (UnfinishedString m) at n p i r = none_some at n p i
leaving_place text (NumberTooLarge m) at n p i r = none_some at n p i
leaving_place text (Grammar m) at n p i r =
    (false, subst (λ z. LeavesGrammar text z false) (same_place at m n p i) r)
leaving_place text (TooDeep m) at n p i r =
    (true, subst (λ z. LeavesGrammar text z true) (same_place at m n p i) r)
leaving_place text NoDocument at n p i r = absurd r
leaving_place text Unsound at n p i r = absurd r
leaving_place text OutOfMemory at n p i r = absurd p

pub left_after : (text : List ℕ) (rest : Bor (List ℕ)) (reader : Position) (ps : List (Node Policy))
    → HasRead reader text ps → (e : FormatError) (at : Option ℕ) (n : ℕ) → IsPlaceOf e at
    → at ≡ Some n
    → OutOfMemoryOr (Refuses text) e → rest.now ≡ drop reader.at text
    → LeavesAfter text (record { at = n; rest = rest })
left_after text rest reader ps h e at n p i r f =
    let l = leaving_place text e at n p i r in
    record {
      deep = l.0;
      leaves = l.1;
      from = reader.at;
      rest = f;
      ends = h.ends;
      accepted = policies_accepted (take reader.at text) ps h.read;
    }

-- The text before the place, from the end of the whole policies on, and the text from the place on.
module _ (text : List ℕ) (l : Leaving) (b : LeavesAfter text l) where
  inside : b.from ≤ length text
  inside = ends_inside text b.from b.ends

  rest_length : length l.rest.now ≡ length text - b.from
  rest_length = ap length b.rest ∙ length-drop b.from text

  from_is : length text - length l.rest.now ≡ b.from
  from_is = omega (arith, inside, rest_length)

  part : Within text b.from l.at b.leaves.before b.leaves.after
  part = within text b.from l.at b.deep b.ends b.accepted b.leaves

  the_cut : Cut (drop b.from text) (l.at - b.from) part.middle b.leaves.after
  the_cut = cut (drop b.from text) (l.at - b.from) part.middle b.leaves.after part.split part.place

  pub from_before : length text - length l.rest.now ≤ l.at
  from_before = omega (arith, from_is, part.not_before)

  -- the place in the rest
  place_in : ℕ
  place_in = l.at - (length text - length l.rest.now)

  place_is : place_in ≡ l.at - b.from
  unfolding place_in
  place_is = ap (λ k. l.at - k) from_is

  pub rest_is_utf8 : IsUtf8 text → IsUtf8 l.rest.now
  rest_is_utf8 k = subst (λ z. IsUtf8 z) (sym b.rest) (following b.ends)
    where
      following : EndsPiece text b.from → IsUtf8 (drop b.from text)
      following (inl e) = subst (λ n. IsUtf8 (drop n text)) (sym e) k
      following (inr p) =
          scan_utf8 (p.before ++ (codes ";" ∷ p.line)) text (drop b.from text) k p.scans

  pub at_boundary : IsUtf8 l.rest.now
      → IsCharBoundary l.rest.now (l.at - (length text - length l.rest.now))
  unfolding place_in
  at_boundary k = subst (λ n. IsCharBoundary l.rest.now n) (sym place_is)
      (subst (λ z. IsCharBoundary z (l.at - b.from)) (sym b.rest)
      (the_cut.boundary (subst (λ z. IsUtf8 z) b.rest k)))

  -- what comes before the place, and after it
  front_split : SplitsInto (take (l.at - (length text - length l.rest.now)) l.rest.now) part.middle
  unfolding place_in
  front_split = subst (λ n. SplitsInto (take n l.rest.now) part.middle) (sym place_is)
      (subst (λ z. SplitsInto (take (l.at - b.from) z) part.middle) (sym b.rest) the_cut.front)

  pub back_split : SplitsInto
      (drop (l.at - (length text - length l.rest.now)) l.rest.now) b.leaves.after
  unfolding place_in
  back_split = subst (λ n. SplitsInto (drop n l.rest.now) b.leaves.after) (sym place_is)
      (subst (λ z. SplitsInto (drop (l.at - b.from) z) b.leaves.after) (sym b.rest) the_cut.back)

  pub front_tokens : HasTokens (take (l.at - (length text - length l.rest.now)) l.rest.now)
  front_tokens =
      record { units = part.middle; split = front_split; fitting = part.fitting b.leaves.fitting }

  pub is_expected : (before : List ℕ) (e : Expected)
      → before ≡ take (l.at - (length text - length l.rest.now)) l.rest.now → e.at ≡ l.at
      → option_map (λ t. t.now) e.found ≡ first_of b.leaves.after
      → KindsFollow before e.kinds.items.items → AreNamed e.kinds.items.items e.names.items
      → (IsTrue e.end ↔ HasTree before) → IsExpected text e
  is_expected before e same at found kinds named end =
      let s : SplitsInto before part.middle =
      subst (λ z. SplitsInto z part.middle) (sym same) front_split in
      let k : AreAllAfter (only_tokens part.middle) e.kinds.items.items =
      of_units before part.middle (λ front. AreAllAfter front e.kinds.items.items) s kinds in
      record {
        before = b.leaves.before;
        after = b.leaves.after;
        split = b.leaves.split;
        place = at ∙ b.leaves.place;
        leaves = (b.deep, subst (λ n. LeavesGrammar text n b.deep) (sym at) b.leaves);
        found = found;
        kinds = same_after (only_tokens b.leaves.before)
            (only_tokens part.middle) e.kinds.items.items part.alike k;
        named = named;
        end = (
          λ i. part.alike.list.1 (of_units before part.middle IsList s (end.0 i)),
          λ x. end.1 (part.middle, s, part.alike.list.0 x),
        );
      }
