-- The canonical form: the output of a text, and what outputs say about their texts.
use Rattle.std.specs.Prelude.{◌≡◌, ◌↔◌, ℕ, ℤ, List, [], ◌∷◌, ◌++◌, map}
use Rattle.std.specs.List.{AllByRecursion}
use Rattle.std.specs.Str.{trim, IsUtf8}
use Rattle.cedar_layout.specs.Layout.{Choice, text_of_choice, IsTheLayoutAt}
use Rattle.cedar_tokens.specs.Split.{SplitsInto}
use Rattle.cedar_tokens.specs.Listing.{Decorated, Listing, IsListing, EqualByValue}
use Rattle.cedar_tokens.specs.PlainList.{plain_list}
use Rattle.cedar_grammar.specs.Grammar.{IsSyntaxTree}
use Rattle.cedar_grammar.specs.TypedTrees.{Clause, policy, set_tree, part_yield}
use Rattle.cedar_laws.specs.Leaves.{part_map}
use Rattle.cedar_laws.specs.Table.{literal_kind, part_table}
use Rattle.cedar_laws.specs.Fit.{PartFit}
use Rattle.cedar_laws.specs.Good.{IsGood}
use Rattle.cedar_layout.specs.Cleaning.{IsCleaned}
use Rattle.cedar_laws.specs.CleaningLaws.{NoBlankLine}
use Rattle.cedar_grammar.specs.Texts.{Accepted, greatest_depth}
use Rattle.cedar_laws.specs.GrammarTrees.{IsTree}
use Rattle.cedar_laws.specs.Output.{IsOutput, IsSomeLayout, with_value, tokens_of}
use Rattle.cedar_tokens.specs.Bytes.{line_feed}

-- ---- outputs of trees

-- trees that differ only in leading zeros of numbers have the same document
abbrev pub DocumentsGoByValue : Type 0
DocumentsGoByValue = (i : ℤ) (p q : Clause Decorated policy) → part_map with_value p ≡ part_map with_value q → part_table i p ≡ part_table i q

-- at a width they have one output
abbrev pub OutputExists : Type 0
OutputExists = (w : ℕ) (i : ℤ) (ps : List (Clause Decorated policy)) (cs : List (List ℕ)) → (y : List ℕ) × IsOutput (IsTheLayoutAt w) i ps cs y

abbrev pub OutputsGoByValue : Type 0
OutputsGoByValue = (w : ℕ) (i : ℤ) (ps qs : List (Clause Decorated policy)) (cs : List (List ℕ)) (x y : List ℕ) → map (part_map with_value) ps ≡ map (part_map with_value) qs
    → IsOutput (IsTheLayoutAt w) i ps cs x → IsOutput (IsTheLayoutAt w) i qs cs y → x ≡ y

-- an output ends with a line feed
abbrev pub OutputEndsInLineFeed : Type 0
OutputEndsInLineFeed = (w : ℕ) (i : ℤ) (ps : List (Clause Decorated policy)) (cs : List (List ℕ)) (y : List ℕ) → IsOutput (IsTheLayoutAt w) i ps cs y → (front : List ℕ) × (y ≡ front ++ (line_feed ∷ []))

-- under every choice of groups the text of a policy has no blank line outside strings, and no blank at its start or end
abbrev pub PolicyHasNoBlankLine : Type 0
PolicyHasNoBlankLine = (i : ℤ) (p : Clause Decorated policy) (c : Choice (part_table i p)) (t : List ℕ) → PartFit p → AllByRecursion IsGood (part_yield p) → IsCleaned (text_of_choice (part_table i p) c) t
    → (us : List (List ℕ)) × SplitsInto t us × NoBlankLine us × (trim t ≡ t)

-- ---- outputs of texts

-- the list without its trailing commas
abbrev pub plain_listing : Listing → Listing
plain_listing l = record { tokens = plain_list l.tokens; closing = l.closing }

-- For a UTF-8 text and the trees of its plain list: under every choice of groups and at every indentation the output splits,
-- and its decorated list is the text's plain list by value.
abbrev pub TextsReadBack : Type 0
TextsReadBack = (i : ℤ) (x : List ℕ) (l : Listing) (ps : List (Clause Decorated policy)) (output : List ℕ) → IsUtf8 x → IsListing x l → IsTree ps → tokens_of ps ≡ plain_list l.tokens
    → IsOutput IsSomeLayout i ps l.closing output → IsListing output (record { tokens = map with_value (plain_list l.tokens); closing = l.closing })

-- y is the output of the accepted text x: of the policies whose tree is that of its list without trailing commas
pub record IsOutputOf (w : ℕ) (i : ℤ) (x y : List ℕ) : Type 0 where
  pub accepted : Accepted x
  pub list : Listing
  pub is_list : IsListing x list
  pub policies : List (Clause Decorated policy)
  pub grammar : IsSyntaxTree (λ t. t.text) greatest_depth (set_tree literal_kind policies) (plain_list list.tokens)
  pub output : IsOutput (IsTheLayoutAt w) i policies list.closing y

-- an accepted text has one output, which is accepted
abbrev pub AcceptedHasOutput : Type 0
AcceptedHasOutput = (w : ℕ) (i : ℤ) (x : List ℕ) → IsUtf8 x → Accepted x → (y : List ℕ) × IsOutputOf w i x y

abbrev pub OutputIsAccepted : Type 0
OutputIsAccepted = (w : ℕ) (i : ℤ) (x y : List ℕ) → IsUtf8 x → IsOutputOf w i x y → Accepted y

-- the output's own list is the text's plain list by value, and has no trailing comma
abbrev pub OutputHasTheList : Type 0
OutputHasTheList = (w : ℕ) (i : ℤ) (x y : List ℕ) (m : Listing) → IsUtf8 x → (o : IsOutputOf w i x y) → IsListing y m → EqualByValue m (plain_listing o.list) × (plain_listing m ≡ m)

-- two texts have equal outputs if and only if their plain lists are equal by value
abbrev pub OutputsTellLists : Type 0
OutputsTellLists = (w : ℕ) (i : ℤ) (x1 x2 y1 y2 : List ℕ) → IsUtf8 x1 → IsUtf8 x2 → (a : IsOutputOf w i x1 y1) (b : IsOutputOf w i x2 y2)
    → (y1 ≡ y2) ↔ EqualByValue (plain_listing a.list) (plain_listing b.list)

-- the output of an output is itself
abbrev pub OutputIsItsOwn : Type 0
OutputIsItsOwn = (w : ℕ) (i : ℤ) (x y : List ℕ) → IsUtf8 x → IsOutputOf w i x y → IsOutputOf w i y y

-- the trees of an output are those of its text, by value
abbrev pub OutputHasTheTrees : Type 0
OutputHasTheTrees = (w v : ℕ) (i j : ℤ) (x y z : List ℕ) → IsUtf8 x → (o : IsOutputOf w i x y) (p : IsOutputOf v j y z) → p.policies ≡ map (part_map with_value) o.policies
