-- What a refusal says about what the text's tokens begin.
use Rattle.std.specs.Prelude.{◌≡◌, ℕ, Bool, true, false, List, [], ◌∷◌, ◌++◌, length, drop}
use Rattle.std.specs.List.{list_any, sum_by}
use Rattle.std.proofs.Common.{refl, sym, ap, ◌∙◌, subst, arith, append_assoc, append-nil}
use Rattle.std.proofs.lemmas.List.Elements.{filter-append}
use Rattle.std.proofs.lemmas.List.{length-drop}
use Rattle.cedar_tokens.specs.Units.{is_token}
use Rattle.cedar_tokens.specs.Split.{SplitsInto, IsFirstFault}
use Rattle.cedar_tokens.proofs.Scanning.{split_unique, fault_prevents}
use Rattle.cedar_tokens.proofs.UnitsSoFar.{units_length}
use Rattle.cedar_grammar.specs.Beginnings.{Begins}
use Rattle.cedar_grammar.specs.Grammar.{IsSyntaxTree}
use Rattle.cedar_grammar.specs.Numbers.{is_too_large, IsFirstTooLarge}
use Rattle.cedar_grammar.specs.Texts.{greatest_depth, only_tokens, Accepted, LeavesGrammar, LeaveAfter}
use Rattle.cedar_grammar.proofs.Texts.Cuts.{fit_part}
use Rattle.cedar_grammar.specs.declared.error.FormatError.{FormatError}
use Rattle.cedar_grammar.specs.declared.error.FormatError.TheVariants.{UnknownCharacter, UnfinishedString, NumberTooLarge, Grammar, TooDeep, NoDocument, Unsound, OutOfMemory}
use Rattle.cedar_grammar.specs.Refusals.{Refuses}
use Rattle.cedar_faults.specs.Expectations.{IsList}
use Rattle.cedar_faults.proofs.Splits.{cut, no_units}

-- a list that begins this way begins with the first of these tokens
pub begins_front : (d : ℕ) (front more : List (List ℕ)) → Begins d (front ++ more) → Begins d front
begins_front d front more b = record {
  rest = more ++ b.rest;
  tree = b.tree;
  grammar =
      subst (λ z. IsSyntaxTree (λ t. t) d b.tree z) (append_assoc front more b.rest) b.grammar;
}

-- a list begins with all its tokens
pub list_begins : (ts : List (List ℕ)) → IsList ts → Begins greatest_depth ts
list_begins ts (f, g) = record {
  rest = [];
  tree = f;
  grammar = subst (λ z. IsSyntaxTree (λ t. t) greatest_depth f z) (sym (append-nil ts)) g;
}

-- the tokens of an accepted text are a list
pub accepted_list : (text : List ℕ) (us : List (List ℕ)) → SplitsInto text us → Accepted text
    → IsList (only_tokens us)
accepted_list text us s (f, a) = (
  f,
  subst (λ z. IsSyntaxTree (λ t. t) greatest_depth f (only_tokens z))
      (split_unique text a.units us a.split s) a.grammar,
)

pub list_accepted : (text : List ℕ) (us : List (List ℕ)) → SplitsInto text us
    → list_any is_too_large us ≡ false → IsList (only_tokens us) → Accepted text
list_accepted text us s f (t, g) = (t, record { units = us; split = s; fitting = f; grammar = g })

module _ (text : List ℕ) (us : List (List ℕ)) (s : SplitsInto text us) where
  -- if the text leaves the grammar at its end, a list begins with all its tokens
  pub leaves_end : (at : ℕ) (deep : Bool) → LeavesGrammar text at deep → at ≡ length text
      → Begins greatest_depth (only_tokens us)
  leaves_end at deep l e =
      let c = cut text at l.before l.after l.split l.place in
      let none : l.after ≡ [] = no_units l.after _ c.back (following at e) in
      let same : us ≡ l.before = split_unique text us (l.before ++ l.after) s l.split
      ∙ ap (λ z. l.before ++ z) none ∙ append-nil l.before in
      subst (λ z. Begins greatest_depth (only_tokens z)) (sym same) l.begins
    where
      following : (n : ℕ) → n ≡ length text → length (drop n text) ≡ 0
      following n i = omega (arith, length-drop n text, i)
