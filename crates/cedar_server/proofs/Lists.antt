-- Lists of diagnoses and of fixes, one fault after the other.
use Rattle.std.proofs.Common.{◌≡◌, ℕ, List, [], ◌∷◌, ◌++◌, refl, ap, sym, ◌∙◌, append_assoc}
use Rattle.std.proofs.lemmas.List.{append-nil}
use Rattle.cedar_tokens.specs.declared.token.Span.{Span}
use Rattle.cedar_faults.specs.declared.fault.Fault.{Fault}
use Rattle.cedar_edits.specs.declared.positions.Encoding.{Encoding}
use Rattle.cedar_server.specs.declared.diagnoses.Diagnosis.{Diagnosis}
use Rattle.cedar_server.specs.declared.fixes.Fix.{Fix}
use Rattle.cedar_server.specs.Diagnoses.{TellAll, Tells}
use Rattle.cedar_server.specs.Fixes.{AreFixesIn, IsOffered}

-- one more fault is reported
pub tell_more : (e : Encoding) (text : List ℕ) (fs : List Fault) (f : Fault) (ds : List Diagnosis) (d : Diagnosis)
    → TellAll e text fs ds → Tells e text f d → TellAll e text (fs ++ f ∷ []) (ds ++ d ∷ [])
tell_more e text [] f ds d all one = (d, [], ap (λ z. z ++ d ∷ []) all, one, refl)
tell_more e text (g ∷ fs) f ds d (first, more, same, told, others) one =
    (first, more ++ d ∷ [], ap (λ z. z ++ d ∷ []) same, told, tell_more e text fs f more d others one)

-- the fixes of one more fault
pub offer_more : (e : Encoding) (text : List ℕ) (touched : Span) (all fs : List Fault) (f : Fault) (fixes own : List Fix)
    → AreFixesIn e text touched all fs fixes → IsOffered e text touched all f own
    → AreFixesIn e text touched all (fs ++ f ∷ []) (fixes ++ own)
offer_more e text touched all [] f fixes own none one =
    (own, [], ap (λ z. z ++ own) none ∙ sym (append-nil own), one, refl)
offer_more e text touched all (g ∷ fs) f fixes own (first, more, same, offered, others) one =
    (first, more ++ own, ap (λ z. z ++ own) same ∙ append_assoc first more own, offered, offer_more e text touched all fs f more own others one)

-- a list with one item more isn't empty
pub not_empty : {X : Type 0} (xs : List X) (x : X) → xs ++ x ∷ [] ≡ [] → ⊥
not_empty [] x e = absurd cc
not_empty (y ∷ ys) x e = absurd cc

-- without diagnoses there are no faults, and the other way round
pub no_faults : (e : Encoding) (text : List ℕ) (fs : List Fault) (ds : List Diagnosis) → TellAll e text fs ds → ds ≡ [] → fs ≡ []
no_faults e text [] ds told none = refl
no_faults e text (f ∷ fs) ds (d, more, same, one, others) none = absurd (let never : d ∷ more ≡ [] = sym same ∙ none in cc)

pub no_diagnoses : (e : Encoding) (text : List ℕ) (fs : List Fault) (ds : List Diagnosis) → TellAll e text fs ds → fs ≡ [] → ds ≡ []
no_diagnoses e text [] ds told none = told
no_diagnoses e text (f ∷ fs) ds told none = absurd cc
