-- Whether a token mends a fault.
use Rattle.std.proofs.Common.{◌≡◌, ◌≢◌, ◌+◌, ℕ, Bool, true, false, nat_eq, MatchBool, List, Some, None, length, ap, sym, subst, take, slice_range, ◌-◌, ◌∙◌, arith}
use Rattle.std.proofs.lemmas.Bool.Decides.{nat_tests}
use Rattle.cedar_tokens.specs.declared.kind.Kind.{Kind}
use Rattle.cedar_tokens.specs.declared.token.Span.{Span}
use Rattle.cedar_faults.specs.Samples.{sample}
use Rattle.cedar_faults.specs.declared.fault.Fault.{Fault}
use Rattle.cedar_faults.specs.Faults.{AreFirstFaults}
use Rattle.cedar_server.specs.Diagnoses.{most}
use Rattle.cedar_faults.specs.Tips.{tip_for}
use Rattle.cedar_server.specs.Fixes.{Fails, HasNoFix, IsPart, Mends, faults_before, meant_by, mended}

equal : (n m : ℕ) → nat_eq n m ≡ true → n ≡ m
equal n m e = grind (arith, nat_tests)

other : (n m : ℕ) → nat_eq n m ≡ false → n ≢ m
other n m e = grind (arith, nat_tests)

-- by the number of faults before and after the edit
pub mends_or_fails : (text : List ℕ) (old : List Fault) (part : Span) (kind : Kind) (left : List Fault) (n m : ℕ)
    → AreFirstFaults (mended text part kind) most left → n ≡ faults_before (part.start + length (sample kind)) left
    → m ≡ faults_before part.start old
    → (b : Bool) → nat_eq n m ≡ b → MatchBool b (Mends text old part kind) (Fails text old part kind)
mends_or_fails text old part kind left n m are first second true e =
    (left, are, sym first ∙ equal n m e ∙ second)
mends_or_fails text old part kind left n m are first second false e =
    (left, are, λ same. other n m e (first ∙ same ∙ sym second))

pub by_true : (b : Bool) (P Q : Type 0) → b ≡ true → MatchBool b P Q → P
by_true true P Q e h = h
by_true false P Q e h = absurd (let never : false ≡ true = e in cc)

pub by_false : (b : Bool) (P Q : Type 0) → b ≡ false → MatchBool b P Q → Q
by_false true P Q e h = absurd (let never : true ≡ false = e in cc)
by_false false P Q e h = h

-- a fault has no fix if its tip names no token, its part is none, or the token mends nothing
pub names_none : (text : List ℕ) (all : List Fault) (f : Fault) → meant_by (tip_for f) ≡ None → HasNoFix text all f
names_none text all f none = λ kind is part. absurd (let never : None ≡ Some kind = sym none ∙ is in cc)

pub no_part : (text : List ℕ) (all : List Fault) (f : Fault) → (IsPart text f.part → ⊥) → HasNoFix text all f
no_part text all f not_one = λ kind is part. absurd (not_one part)

pub mends_nothing : (text : List ℕ) (all : List Fault) (f : Fault) (kind : Kind) → meant_by (tip_for f) ≡ Some kind
    → Fails text all f.part kind → HasNoFix text all f
mends_nothing text all f kind is fails = λ other same part.
    let both : Some kind ≡ Some other = sym is ∙ same in
    let e : kind ≡ other = cc in
    subst (Fails text all f.part) e fails

pub from_start : (text : List ℕ) (n : ℕ) → slice_range text 0 n ≡ take n text
from_start text n = let e : n - 0 ≡ n = omega arith in ap (λ k. take k text) e
