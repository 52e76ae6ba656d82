-- The parts of a text that an editor can fold.
use Rattle.std.specs.Prelude.{◌≡◌, ◌+◌, ◌==◌, ℕ, Bool, if◌then◌else◌, List, [], ◌∷◌, ◌++◌, length, take, drop, map, slice_range}
use Rattle.std.specs.List.{filter, flat_map, list_any}
use Rattle.std.specs.Str.{bytes_eq}
use Rattle.cedar_tokens.specs.Bytes.{line_feed}
use Rattle.cedar_tokens.specs.Units.{is_token, is_comment}
use Rattle.cedar_tokens.specs.declared.token.Span.{Span}
use Rattle.cedar_grammar.specs.Texts.{Accepted}
use Rattle.cedar_grammar.specs.declared.tree.Node.{Node}
use Rattle.cedar_grammar.specs.declared.tree.Cond.{Cond}
use Rattle.cedar_grammar.specs.declared.tree.Policy.{Policy}
use Rattle.cedar_grammar.specs.declared.tree.Policies.{Policies}
use Rattle.cedar_grammar.specs.NodeTrees.{IsTreeOf}
use Rattle.cedar_server.specs.Parts.{AreParts}
use Rattle.cedar_server.specs.Sections.{IsSection, HasNoSection}
use Rattle.cedar_server.specs.Symbols.{moved}
use Rattle.cedar_server.specs.declared.folds.Fold.{Fold}
use Rattle.cedar_server.specs.declared.folds.FoldKind.{FoldKind}
use Rattle.cedar_server.specs.declared.folds.Line.{Line}

-- a line feed is in this part of the text
abbrev pub spans_lines : List ℕ → Span → Bool
spans_lines text s = list_any (λ b. b == line_feed) (slice_range text s.start s.end)

abbrev pub cond_fold : Node Cond → Fold
cond_fold c = record { span = c.span; kind = FoldKind.Condition }

-- a policy, and each of its conditions
abbrev pub policy_folds : Node Policy → List Fold
policy_folds p = record { span = p.span; kind = FoldKind.Policy } ∷ map cond_fold p.inner.conds.items

abbrev pub moved_fold : ℕ → Fold → Fold
moved_fold by f = record { span = moved by f.span; kind = f.kind }

-- those of several lines, in a text that begins at the byte `from`
abbrev pub several : List ℕ → ℕ → List Fold → List Fold
several text from fs = map (moved_fold from) (filter (λ f. spans_lines text f.span) fs)

-- a line with one more comment
abbrev pub comment_on : Line → Span → Line
comment_on Line.Blank s = Line.Comment s
comment_on line s = Line.Other

-- a line with one more part: it is a comment alone if it has no token and no other comment
abbrev pub line_with : Line → List ℕ → Span → Line
line_with line u s = if is_token u then Line.Other else (if is_comment u then comment_on line s else line)

-- the lines of parts: the parts begin at the byte `at`, after what is on their first line already
unfoldable pub lines : ℕ → Line → List (List ℕ) → List Line
lines at line [] = line ∷ []
lines at line (u ∷ us) =
    if bytes_eq (line_feed ∷ []) u then line ∷ lines (at + length u) Line.Blank us
    else lines (at + length u) (line_with line u (record { start = at; end = at + length u })) us

abbrev mutual
  -- the runs of lines that are comments alone: from the start of the first comment to the end of the last
  pub runs : List Line → List Span
  runs [] = []
  runs (Line.Comment s ∷ ls) = run_from s ls
  runs (l ∷ ls) = runs ls

  -- the same after lines of such a run
  pub run_from : Span → List Line → List Span
  run_from s [] = s ∷ []
  run_from s (Line.Comment t ∷ ls) = run_from (record { start = s.start; end = t.end }) ls
  run_from s (l ∷ ls) = s ∷ runs ls

-- the runs of comments of a text
abbrev pub comment_folds : List (List ℕ) → List Fold
comment_folds parts = map (λ s. record { span = s; kind = FoldKind.Comments }) (runs (lines 0 Line.Blank parts))

-- the policies and conditions of several lines from the byte `from` on, in each section that is accepted
pub data AreNodeFoldsFrom (text : List ℕ) : ℕ → List Fold → Type 0 where
  none : (from : ℕ) → HasNoSection (drop from text) → AreNodeFoldsFrom text from []
  accepted : (from n : ℕ) (p : Policies) (more : List Fold) → IsSection (drop from text) n → IsTreeOf (take n (drop from text)) p
      → AreNodeFoldsFrom text (from + n) more → AreNodeFoldsFrom text from (several (take n (drop from text)) from (flat_map policy_folds p.policies.items) ++ more)
  faulty : (from n : ℕ) (more : List Fold) → IsSection (drop from text) n → ¬ (Accepted (take n (drop from text)))
      → AreNodeFoldsFrom text (from + n) more → AreNodeFoldsFrom text from more

-- the folds of a text: those, and then the comments of several lines
pub record AreFolds (text : List ℕ) (folds : List Fold) : Type 0 where
  pub nodes : List Fold
  pub are : AreNodeFoldsFrom text 0 nodes
  pub parts : List (List ℕ)
  pub split : AreParts text parts
  pub value : folds ≡ nodes ++ several text 0 (comment_folds parts)
