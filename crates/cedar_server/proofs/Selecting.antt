-- The blocks of a text so far, and those around a place.
use Rattle.std.proofs.Common.{◌≡◌, ◌+◌, ◌<◌, ◌≤◌, ℕ, true, false, List, [], ◌∷◌, ◌++◌, Option, Some, None, length, drop, get_or, refl, ap, sym, ◌∙◌, subst}
use Rattle.std.specs.Prelude.{◌&&◌}
use Rattle.std.proofs.lemmas.List.{append_assoc, append-nil, at_drop_more, at_drop_all}
use Rattle.cedar_tokens.specs.declared.token.Span.{Span}
use Rattle.cedar_server.specs.Parts.{IsPart, AreParts}
use Rattle.cedar_server.specs.Selections.{Nesting, AreBlocks, after_part, around, at_start, blocks, grows, last_blocks, part_blocks, touches}
use Rattle.cedar_server.proofs.Reading.{more_parts}

-- ---- part by part

abbrev pub span_of : ℕ → List ℕ → Span
span_of at u = record { start = at; end = at + length u }

-- the blocks of what is left of a text
pub record AreBlocksFrom (at : ℕ) (a : Nesting) (rest : List ℕ) (bs : List Span) : Type 0 where
  pub parts : List (List ℕ)
  pub are : AreParts rest parts
  pub value : bs ≡ blocks at a parts

-- whatever follows these is followed by all blocks of the text
abbrev pub BlocksSoFar : List ℕ → ℕ → Nesting → List ℕ → List Span → Type 0
BlocksSoFar text at a rest bs = (more : List Span) → AreBlocksFrom at a rest more → AreBlocks text (bs ++ more)

pub none_so_far : (text : List ℕ) → BlocksSoFar text 0 at_start text []
none_so_far text more b = (b.parts, b.are, b.value)

pub no_parts : (at : ℕ) (a : Nesting) → blocks at a [] ≡ last_blocks a.start at
unfolding blocks
no_parts at a = refl

pub first_part : (at : ℕ) (a : Nesting) (u : List ℕ) (us : List (List ℕ)) → blocks at a (u ∷ us)
    ≡ part_blocks a u (span_of at u) ++ blocks (at + length u) (after_part a u (span_of at u)) us
unfolding blocks
first_part at a u us = refl

-- one more part
pub part_more : (text rest u new : List ℕ) (at : ℕ) (a b : Nesting) (old now : List Span) → BlocksSoFar text at a rest old
    → IsPart rest u → rest ≡ u ++ new → now ≡ old ++ part_blocks a u (span_of at u)
    → b ≡ after_part a u (span_of at u) → BlocksSoFar text (at + length u) b new now
part_more text rest u new at a b old now s p e n h more f =
    subst (AreBlocks text) (sym (ap (λ z. z ++ more) n ∙ append_assoc old (part_blocks a u (span_of at u)) more))
    (s (part_blocks a u (span_of at u) ++ more) (record {
      parts = u ∷ f.parts;
      are = more_parts rest u new f.parts p e f.are;
      value = ap (λ z. part_blocks a u (span_of at u) ++ z) (f.value ∙ ap (λ z. blocks (at + length u) z f.parts) h)
          ∙ sym (first_part at a u f.parts);
    }))

-- the end of the text
pub all_so_far : (text rest : List ℕ) (at : ℕ) (a : Nesting) (old now : List Span) → rest ≡ []
    → BlocksSoFar text at a rest old → now ≡ old ++ last_blocks a.start at → AreBlocks text now
all_so_far text rest at a old now e s n = subst (AreBlocks text) (sym n)
    (s (last_blocks a.start at) (record { parts = []; are = e; value = sym (no_parts at a) }))

-- ---- around a place

pub none_left : (at : ℕ) (last : Option Span) → around at last [] ≡ []
unfolding around
none_left at last = refl

pub kept : (at : ℕ) (last : Option Span) (s : Span) (ss : List Span) → (touches at s && grows last s) ≡ true
    → around at last (s ∷ ss) ≡ s ∷ around at (Some s) ss
unfolding around
kept at last s ss e = rw e refl

pub left_out : (at : ℕ) (last : Option Span) (s : Span) (ss : List Span) → (touches at s && grows last s) ≡ false
    → around at last (s ∷ ss) ≡ around at last ss
unfolding around
left_out at last s ss e = rw e refl

-- what is found, and what is left, make all
abbrev pub FoundSoFar : ℕ → List Span → List Span → Option Span → List Span → Type 0
FoundSoFar at blocks found last rest = found ++ around at last rest ≡ around at None blocks

pub kept_more : (at : ℕ) (bs : List Span) (found now : List Span) (last : Option Span) (i : ℕ) (d : Span) → i < length bs
    → (touches at (get_or bs i d) && grows last (get_or bs i d)) ≡ true → now ≡ found ++ get_or bs i d ∷ []
    → FoundSoFar at bs found last (drop i bs) → FoundSoFar at bs now (Some (get_or bs i d)) (drop (i + 1) bs)
kept_more at bs found now last i d l e n f =
    let s = get_or bs i d in
    ap (λ z. z ++ around at (Some s) (drop (i + 1) bs)) n ∙ append_assoc found (s ∷ []) (around at (Some s) (drop (i + 1) bs))
    ∙ ap (λ z. found ++ z) (sym (at_drop_more (around at last) bs i d l ∙ kept at last s (drop (i + 1) bs) e)) ∙ f

pub left_out_more : (at : ℕ) (bs : List Span) (found : List Span) (last : Option Span) (i : ℕ) (d : Span) → i < length bs
    → (touches at (get_or bs i d) && grows last (get_or bs i d)) ≡ false
    → FoundSoFar at bs found last (drop i bs) → FoundSoFar at bs found last (drop (i + 1) bs)
left_out_more at bs found last i d l e f =
    ap (λ z. found ++ z) (sym (at_drop_more (around at last) bs i d l ∙ left_out at last (get_or bs i d) (drop (i + 1) bs) e)) ∙ f

pub found_all : (at : ℕ) (bs : List Span) (found : List Span) (last : Option Span) (i : ℕ) → length bs ≤ i
    → FoundSoFar at bs found last (drop i bs) → found ≡ around at None bs
found_all at bs found last i l f =
    sym (append-nil found) ∙ ap (λ z. found ++ z) (sym (at_drop_all (around at last) bs i l ∙ none_left at last)) ∙ f
