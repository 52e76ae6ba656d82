-- Answers about an open document.
use Rattle.std.proofs.Common.{◌≡◌, ℕ, ℤ, List, Option, Some, Result, sym, subst}
use Rattle.std.specs.Prelude.{IfOk}
use Rattle.std.specs.declared.alloc.AllocError.{AllocError}
use Rattle.std.proofs.lemmas.Result.{IfOk-weaker}
use Rattle.cedar_server.specs.declared.messages.Answer.{Answer}
use Rattle.cedar_server.specs.Sessions.{OfDocument, State, known}

-- what answers about the text of an open document answers about the document
pub of_document : (state : Option State) (version : Option ℤ) (Answers : List ℕ → Answer → Type 0)
    (held text : List ℕ) (r : Result Answer AllocError)
    → state ≡ Some (known version held) → text ≡ held → IfOk r (Answers text)
    → IfOk r (OfDocument state Answers)
of_document state version Answers held text r found same answers =
    IfOk-weaker r (Answers text) (OfDocument state Answers) (λ a l.
    subst (λ (o : Option State). OfDocument o Answers a) (sym found)
    (subst (λ t. Answers t a) same l)) answers

-- what lays out the text of an open document lays out the document, at the width and the indentation of the configuration
pub lays_out_document : (state : Option State) (version : Option ℤ) (Lays : ℕ → ℤ → List ℕ → Answer → Type 0)
    (held text : List ℕ) (r : Result Answer AllocError) (w width : ℕ) (i indent : ℤ)
    → state ≡ Some (known version held) → text ≡ held → w ≡ width → i ≡ indent → IfOk r (Lays w i text)
    → IfOk r (OfDocument state (Lays width indent))
lays_out_document state version Lays held text r w width i indent found same wide deep lays =
    of_document state version (Lays width indent) held text r found same
    (IfOk-weaker r (Lays w i text) (Lays width indent text) (λ a l.
    subst (λ n. Lays n indent text a) wide (subst (λ n. Lays w n text a) deep l)) lays)
