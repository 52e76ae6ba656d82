-- What an output has of its text's policies.
use Rattle.std.specs.Prelude.{ℕ, ℤ, List}
use Rattle.std.specs.Str.{IsUtf8}
use Rattle.cedar_grammar.specs.declared.tree.Policies.{Policies}
use Rattle.cedar_grammar.specs.NodeTrees.{IsTreeOf}
use Rattle.cedar_written.specs.Output.{IsOutputOf}
use Rattle.cedar_policy_formatter.specs.Texts.{IsTextOf, KeepsPolicies}

-- an output of a text is a text of its policies: it is accepted, and its tree of nodes is the text's except for spans
abbrev pub OutputsKeepThePolicies : Type 0
OutputsKeepThePolicies = (w : ℕ) (i : ℤ) (x y : List ℕ) (p : Policies) → IsUtf8 x → IsOutputOf w i x y → IsTreeOf x p → IsTextOf y p

-- an output and its text are accepted, and their trees of nodes are equal except for spans
abbrev pub OutputsKeepTheTrees : Type 0
OutputsKeepTheTrees = (w : ℕ) (i : ℤ) (x y : List ℕ) → IsUtf8 x → IsOutputOf w i x y → KeepsPolicies x y
