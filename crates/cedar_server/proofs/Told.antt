-- Faults that are reported while a text is searched.
use Rattle.std.proofs.Common.{◌≡◌, ◌≤◌, ◌+◌, ℕ, List, [], ◌∷◌, ◌++◌, length, drop, ap, sym, subst, arith, inl, inr, append-nil}
use Rattle.cedar_grammar.specs.Texts.{Accepted}
use Rattle.cedar_faults.specs.declared.fault.Fault.{Fault}
use Rattle.cedar_faults.specs.Faults.{BeginsWithPolicy, SearchFinds}
use Rattle.cedar_faults.specs.Faults.SearchFinds.{nothing, policy}
use Rattle.cedar_faults.proofs.Searching.{finds_on}
use Rattle.cedar_edits.specs.declared.positions.Encoding.{Encoding}
use Rattle.cedar_server.specs.declared.diagnoses.Diagnosis.{Diagnosis}
use Rattle.cedar_server.specs.Diagnoses.{AreDiagnoses, TellAll, Tells, TellsMore, most}
use Rattle.cedar_server.proofs.Lists.{tell_more}

-- the faults that are reported, up to the byte `at`
abbrev pub Told : Encoding → List ℕ → ℕ → List Diagnosis → Type 0
Told e text at ds = (fs : List Fault) × SearchFinds text 0 fs at × TellAll e text fs ds

told_length : (e : Encoding) (text : List ℕ) (fs : List Fault) (ds : List Diagnosis) → TellAll e text fs ds
    → length fs ≡ length ds
told_length e text [] ds all = sym (ap length all)
told_length e text (f ∷ fs) ds (d, more, same, told, others) =
    omega (arith, ap length same, told_length e text fs more others)

-- a policy is passed over
pub told_policy : (e : Encoding) (text : List ℕ) (at n to : ℕ) (ds : List Diagnosis) → Told e text at ds
    → BeginsWithPolicy (drop at text) n → to ≡ at + n → Told e text to ds
told_policy e text at n to ds (fs, s, t) p h = (
  fs,
  rw h (subst (λ z. SearchFinds text 0 z (at + n)) (append-nil fs) (finds_on text 0 at (at + n) fs [] s
      (policy at n (at + n) [] p (nothing (at + n))))),
  t,
)

-- one more fault is reported
pub told_fault : (e : Encoding) (text : List ℕ) (at to : ℕ) (ds : List Diagnosis) (f : Fault) (d : Diagnosis)
    → Told e text at ds → SearchFinds text at (f ∷ []) to → Tells e text f d → Told e text to (ds ++ d ∷ [])
told_fault e text at to ds f d (fs, s, t) h one =
    (fs ++ f ∷ [], finds_on text 0 at to fs (f ∷ []) s h, tell_more e text fs f ds d t one)

-- all are reported
pub told_all : (e : Encoding) (text : List ℕ) (at : ℕ) (ds : List Diagnosis) → Told e text at ds
    → length ds ≤ most → Accepted (drop at text) → AreDiagnoses e text ds
told_all e text at ds (fs, s, t) l a =
    inl (fs, (at, s, a), omega (arith, l, told_length e text fs ds t), t)

-- or as many as are reported at most, and that there are more
pub told_most : (e : Encoding) (text : List ℕ) (at to : ℕ) (ds new : List Diagnosis) (f : Fault) (d : Diagnosis)
    → Told e text at ds → length ds ≡ most → SearchFinds text at (f ∷ []) to → TellsMore e text f d
    → new ≡ ds ++ d ∷ [] → AreDiagnoses e text new
told_most e text at to ds new f d (fs, s, t) l h m n = inr (record {
  first = fs;
  next = f;
  to = to;
  found = finds_on text 0 at to fs (f ∷ []) s h;
  number = omega (arith, l, told_length e text fs ds t);
  told = ds;
  tell = t;
  last = d;
  more = m;
  in_order = n;
})
