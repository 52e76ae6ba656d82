-- Edits that mend a fault.
use Rattle.std.specs.Prelude.{◌≡◌, ◌≢◌, ◌+◌, ◌⊎◌, ℕ, Bool, true, false, ◌&&◌, nat_lt, nat_le, count_by, List, [], ◌∷◌, ◌++◌, length, take, drop, Option, Some, None}
use Rattle.std.specs.Str.{IsCharBoundary}
use Rattle.cedar_tokens.specs.declared.kind.Kind.{Kind}
use Rattle.cedar_tokens.specs.declared.token.Span.{Span}
use Rattle.cedar_faults.specs.Samples.{sample}
use Rattle.cedar_faults.specs.declared.fault.Fault.{Fault}
use Rattle.cedar_faults.specs.declared.tips.Tip.{Tip}
use Rattle.cedar_faults.specs.declared.tips.Tip.TheVariants.{Meant}
use Rattle.cedar_faults.specs.Faults.{AreFirstFaults}
use Rattle.cedar_faults.specs.Tips.{tip_for}
use Rattle.cedar_edits.specs.declared.positions.Encoding.{Encoding}
use Rattle.cedar_edits.specs.declared.changes.Range.{Range}
use Rattle.cedar_edits.specs.Positions.{IsOffsetOf}
use Rattle.cedar_server.specs.declared.fixes.Fix.{Fix}
use Rattle.cedar_server.specs.Diagnoses.{Tells, most}

-- the kind of the token that a tip names, if it names one
abbrev pub meant_by : Option Tip → Option Kind
meant_by (Some (Meant kind)) = Some kind
meant_by tip = None

-- the part begins and ends between characters of the text
pub record IsPart (text : List ℕ) (part : Span) : Type 0 where
  pub start : IsCharBoundary text part.start
  pub end : IsCharBoundary text part.end

-- the text with a token of this kind in place of a part
abbrev pub mended : List ℕ → Span → Kind → List ℕ
mended text part kind = take part.start text ++ sample kind ++ drop part.end text

-- how many of the faults have their place before the byte `at`
abbrev pub faults_before : ℕ → List Fault → ℕ
faults_before at fs = count_by (λ f. nat_lt f.expected.at at) fs

-- a token of this kind in place of a part mends the fault there: through this token the text has no more faults than it had
-- before the part
abbrev pub Mends : List ℕ → List Fault → Span → Kind → Type 0
Mends text old part kind = (left : List Fault) × AreFirstFaults (mended text part kind) most left × (faults_before (part.start + length (sample kind)) left ≡ faults_before part.start old)

-- it has more
abbrev pub Fails : List ℕ → List Fault → Span → Kind → Type 0
Fails text old part kind = (left : List Fault) × AreFirstFaults (mended text part kind) most left × (faults_before (part.start + length (sample kind)) left ≢ faults_before part.start old)

-- the fix of one of the text's faults: a token that its tip names, which mends it
pub record IsFix (e : Encoding) (text : List ℕ) (all : List Fault) (f : Fault) (fix : Fix) : Type 0 where
  pub tells : Tells e text f fix.diagnosis
  pub meant : meant_by (tip_for f) ≡ Some fix.kind
  pub mends : Mends text all f.part fix.kind

-- it has no fix: its tip names no token, or one that mends nothing
abbrev pub HasNoFix : List ℕ → List Fault → Fault → Type 0
HasNoFix text all f = (kind : Kind) → meant_by (tip_for f) ≡ Some kind → IsPart text f.part → Fails text all f.part kind

-- two parts of a text have a byte in common, or one begins where the other ends
abbrev pub touches : Span → Span → Bool
touches a b = nat_le a.start b.end && nat_le b.start a.end

-- the fixes of a fault, if it touches the part: one or none
abbrev pub IsOffered : Encoding → List ℕ → Span → List Fault → Fault → List Fix → Type 0
IsOffered e text touched all f [] = (touches f.part touched ≡ false) ⊎ HasNoFix text all f
IsOffered e text touched all f (fix ∷ []) = (touches f.part touched ≡ true) × IsFix e text all f fix
IsOffered e text touched all f (fix ∷ more ∷ others) = ⊥

-- the fixes of those of some faults that touch a part, in order
abbrev pub AreFixesIn : Encoding → List ℕ → Span → List Fault → List Fault → List Fix → Type 0
AreFixesIn e text touched all [] fixes = fixes ≡ []
AreFixesIn e text touched all (f ∷ fs) fixes = (own more : List Fix) × (fixes ≡ own ++ more) × IsOffered e text touched all f own × AreFixesIn e text touched all fs more

-- the fixes for a range of a text: those of its faults that touch the bytes of its positions
pub record AreFixes (e : Encoding) (text : List ℕ) (range : Range) (fixes : List Fix) : Type 0 where
  pub touched : Span
  pub first : IsOffsetOf e text range.start touched.start
  pub last : IsOffsetOf e text range.end touched.end
  pub faults : List Fault
  pub are_faults : AreFirstFaults text most faults
  pub in_order : AreFixesIn e text touched faults faults fixes
