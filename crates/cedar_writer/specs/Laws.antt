-- The rules say the same as the written grammar with its documents.
use Rattle.std.specs.Prelude.{◌≡◌, ℕ, ℤ, ◌+◌, Bool, List, ◌++◌, length, map}
use Rattle.std.specs.List.{AllZip}
use Rattle.cedar_tokens.specs.Listing.{Decorated}
use Rattle.cedar_layout.specs.Layout.{Doc}
use Rattle.cedar_grammar.specs.Laws.{AreTokens}
use Rattle.cedar_written.specs.Languages.{Lang as DocLang}
use Rattle.cedar_written.specs.Written as written
use Rattle.cedar_print.specs.WrittenMarks.{Mark, AreMarks}
use Rattle.cedar_writer.specs.Languages.{Lang, Expr, Policy, PolicySet}
use Rattle.cedar_writer.specs.Writing.{going, refused, policy_to}
use Rattle.cedar_writer.specs.Beginnings.{BeginsPolicy, LeavesPolicy}

-- marks are those of one document
abbrev pub MarksAreOfOne : Type 0
MarksAreOfOne = (ms : List Mark) (d e : Doc) → AreMarks ms d → AreMarks ms e → d ≡ e

-- each document of a row has marks that the rules write for it
abbrev pub DocumentsAreWritten : DocLang → Lang → Type 0
DocumentsAreWritten X Y = (ts : List Decorated) (d : Doc) → X ts d → (ms : List Mark) × AreMarks ms d × Y ts ms

-- and what the rules write for a row are the marks of a document that it has
abbrev pub MarksAreOfDocuments : DocLang → Lang → Type 0
MarksAreOfDocuments X Y = (ts : List Decorated) (ms : List Mark) → AreTokens (λ t. t.text) ts → Y ts ms → (d : Doc) × AreMarks ms d × X ts d

-- ---- expressions, policies and lists of them, at each indentation and depth

abbrev pub ExpressionsAgree : Type 0
ExpressionsAgree = (i : ℤ) (n : ℕ) → DocumentsAreWritten (written.Expr i n) (Expr i n) × MarksAreOfDocuments (written.Expr i n) (Expr i n)

abbrev pub PoliciesAgree : Type 0
PoliciesAgree = (i : ℤ) (n : ℕ) → DocumentsAreWritten (written.Policy i n) (Policy i n) × MarksAreOfDocuments (written.Policy i n) (Policy i n)

abbrev pub SetsAreWritten : Type 0
SetsAreWritten = (i : ℤ) (n : ℕ) (ts : List Decorated) (ds : List Doc) → written.PolicySet i n ts ds
    → (mss : List (List Mark)) × AllZip AreMarks mss ds × PolicySet i n ts mss

abbrev pub SetsAreOfDocuments : Type 0
SetsAreOfDocuments = (i : ℤ) (n : ℕ) (ts : List Decorated) (mss : List (List Mark)) → AreTokens (λ t. t.text) ts → PolicySet i n ts mss
    → (ds : List Doc) × AllZip AreMarks mss ds × written.PolicySet i n ts ds

-- ---- reading and writing

-- What was read is a policy of the written grammar, and the marks that were written are those of its document.
abbrev pub ReadPoliciesAreWritten : Type 0
ReadPoliciesAreWritten = (i : ℤ) (n : ℕ) (ts us : List Decorated) (ms ns : List Mark) (r q : ℕ) → AreTokens (λ t. t.text) ts
    → policy_to i n (going ts ms r) ≡ going us ns q
    → (xs : List Decorated) × (es : List Mark) × (d : Doc) × (ts ≡ xs ++ us) × (ns ≡ ms ++ es) × AreMarks es d × written.Policy i n xs d

-- A policy of the written grammar is read, whatever follows, and the marks of its document are written, if there is room for
-- them.
abbrev pub WrittenPoliciesAreRead : Type 0
WrittenPoliciesAreRead = (i : ℤ) (n : ℕ) (xs us : List Decorated) (d : Doc) (ms : List Mark) → written.Policy i n xs d
    → (es : List Mark) × AreMarks es d × ((r : ℕ) → policy_to i n (going (xs ++ us) ms (length es + r)) ≡ going us (ms ++ es) r)

-- However much room there is, tokens that begin with a policy of the written grammar aren't refused,
abbrev pub WrittenPoliciesAreNotRefused : Type 0
WrittenPoliciesAreNotRefused = (i : ℤ) (n : ℕ) (xs us vs : List Decorated) (d : Doc) (ms : List Mark) (r : ℕ) (deep : Bool)
    → written.Policy i n xs d → policy_to i n (going (xs ++ us) ms r) ≡ refused deep vs → ⊥

-- and what is left after reading is what follows the policy.
abbrev pub ReadingEndsAfterPolicies : Type 0
ReadingEndsAfterPolicies = (i : ℤ) (n : ℕ) (xs us vs : List Decorated) (d : Doc) (ms ns : List Mark) (r q : ℕ)
    → written.Policy i n xs d → policy_to i n (going (xs ++ us) ms r) ≡ going vs ns q → map (λ t. t.text) vs ≡ map (λ t. t.text) us

-- So a policy has at most one document, with trailing commas or without.
abbrev pub PoliciesHaveOneDocument : Type 0
PoliciesHaveOneDocument = (i : ℤ) (n : ℕ) (ts : List Decorated) (d e : Doc) → written.Policy i n ts d → written.Policy i n ts e → d ≡ e

-- A refusal is at the furthest token: some policy begins with all before it, and none goes on with it.
abbrev pub RefusedAtTheFurthest : Type 0
RefusedAtTheFurthest = (i : ℤ) (n : ℕ) (ts us : List Decorated) (ms : List Mark) (r : ℕ) (deep : Bool)
    → policy_to i n (going ts ms r) ≡ refused deep us
    → (front : List (List ℕ)) × (map (λ t. t.text) ts ≡ front ++ map (λ t. t.text) us) × BeginsPolicy n front
    × LeavesPolicy n front (map (λ t. t.text) us) deep
