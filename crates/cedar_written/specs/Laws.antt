-- The written grammar with its documents says the same as the grammar of trees and the table.
use Rattle.std.specs.Prelude.{◌≡◌, ◌↔◌, ℕ, ℤ, Bool, List, map}
use Rattle.std.specs.Str.{IsUtf8}
use Rattle.cedar_tokens.specs.Listing.{Decorated}
use Rattle.cedar_tokens.specs.PlainList.{plain_list}
use Rattle.cedar_layout.specs.Layout.{Doc, IsTheLayoutAt}
use Rattle.cedar_grammar.specs.Trees.{Label, Forest}
use Rattle.cedar_grammar.specs.Grammar.{IsSyntaxTree}
use Rattle.cedar_grammar.specs.Texts.{Accepted as AcceptedByTree, LeavesGrammar as LeavesGrammarOfTrees}
use Rattle.cedar_grammar.specs.TypedTrees.{Clause, policy, set_tree}
use Rattle.cedar_grammar.specs.declared.error.FormatError.{FormatError}
use Rattle.cedar_grammar.specs.Refusals.{OutOfMemoryOr, Refuses as RefusesByTrees}
use Rattle.cedar_laws.specs.Table.{literal_kind, part_table}
use Rattle.cedar_laws.specs.Canonical.{IsOutputOf as IsOutputByTable}
use Rattle.cedar_written.specs.Written.{PolicySet}
use Rattle.cedar_written.specs.Layout.{layout}
use Rattle.cedar_written.specs.Texts.{InGrammar, Accepted, LeavesGrammar}
use Rattle.cedar_written.specs.Refusals.{Refuses}
use Rattle.cedar_written.specs.Output.{IsOutputOf}

-- ---- lists of tokens, at each depth and indentation

-- a list has documents if and only if it has a tree, with trailing commas or without
abbrev pub ListsAgree : Type 0
ListsAgree = (i : ℤ) (n : ℕ) (ts : List Decorated)
    → ((ds : List Doc) × PolicySet i n ts ds) ↔ ((f : Forest Label Decorated) × IsSyntaxTree (λ t. t.text) n f ts)

-- texts of tokens are a list of the written grammar if and only if they have a tree
abbrev pub GrammarsAgree : Type 0
GrammarsAgree = (n : ℕ) (ts : List (List ℕ))
    → InGrammar n ts ↔ ((f : Forest Label (List ℕ)) × IsSyntaxTree (λ t. t) n f ts)

-- the documents of a list without trailing commas are those of the table, for policies whose tree is that of the list
abbrev pub DocumentsAreTheTables : Type 0
DocumentsAreTheTables = (i : ℤ) (n : ℕ) (ts : List Decorated) (ds : List Doc) → plain_list ts ≡ ts → PolicySet i n ts ds
    → (ps : List (Clause Decorated policy)) × IsSyntaxTree (λ t. t.text) n (set_tree literal_kind ps) ts
    × (ds ≡ map (part_table i) ps)

-- and the table's documents for such policies are those of the list
abbrev pub TablesAreDocuments : Type 0
TablesAreDocuments = (i : ℤ) (n : ℕ) (ts : List Decorated) (ps : List (Clause Decorated policy)) → plain_list ts ≡ ts
    → IsSyntaxTree (λ t. t.text) n (set_tree literal_kind ps) ts → PolicySet i n ts (map (part_table i) ps)

-- a list without trailing commas has at most one row of documents, whatever the depth
abbrev pub DocumentsAreUnique : Type 0
DocumentsAreUnique = (i : ℤ) (m n : ℕ) (ts : List Decorated) (ds es : List Doc) → plain_list ts ≡ ts
    → PolicySet i m ts ds → PolicySet i n ts es → ds ≡ es

-- ---- layouts

-- the one layout of a document at a width, by the rule for each group, is what the function gives
abbrev pub LayoutsAgree : Type 0
LayoutsAgree = (w : ℕ) (d : Doc) (t : List ℕ) → IsTheLayoutAt w d t ↔ (t ≡ layout w d)

-- ---- texts

-- a text is accepted if and only if its tokens have a tree, it splits and its numbers fit
abbrev pub AcceptedAgree : Type 0
AcceptedAgree = (x : List ℕ) → AcceptedByTree x ↔ Accepted x

-- a text leaves the written grammar where it leaves that of trees, and for the same reason
abbrev pub LeavesAgree : Type 0
LeavesAgree = (x : List ℕ) (at : ℕ) (deep : Bool) → LeavesGrammarOfTrees x at deep ↔ LeavesGrammar x at deep

-- so it has the same refusals
abbrev pub RefusalsAgree : Type 0
RefusalsAgree = (x : List ℕ) (e : FormatError) → RefusesByTrees x e ↔ Refuses x e

-- and the same errors of a call that may also run out of memory
abbrev pub ErrorsAgree : Type 0
ErrorsAgree = (x : List ℕ) (e : FormatError) → OutOfMemoryOr (RefusesByTrees x) e ↔ OutOfMemoryOr (Refuses x) e

-- ---- outputs

-- the outputs of the table, for the policies whose tree is that of the text's list without trailing commas, are outputs
abbrev pub TableOutputsAreOutputs : Type 0
TableOutputsAreOutputs = (w : ℕ) (i : ℤ) (x y : List ℕ) → IsUtf8 x → IsOutputByTable w i x y → IsOutputOf w i x y

-- and there are no others
abbrev pub OutputsAreTheTables : Type 0
OutputsAreTheTables = (w : ℕ) (i : ℤ) (x y : List ℕ) → IsOutputOf w i x y → IsOutputByTable w i x y
