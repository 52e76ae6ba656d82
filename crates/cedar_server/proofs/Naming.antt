-- The symbols so far.
use Rattle.std.proofs.Common.{◌≡◌, ◌+◌, ℕ, List, [], ◌∷◌, ◌++◌, take, drop, ap, sym, ◌∙◌, subst, inl, inr}
use Rattle.std.proofs.lemmas.List.{append_assoc, append-nil}
use Rattle.cedar_grammar.specs.Texts.{Accepted}
use Rattle.cedar_grammar.specs.declared.tree.Node.{Node}
use Rattle.cedar_grammar.specs.declared.tree.Policy.{Policy}
use Rattle.cedar_grammar.specs.NodeTrees.{IsTreeOf}
use Rattle.cedar_server.specs.Sections.{IsSection, HasNoSection}
use Rattle.cedar_server.specs.Symbols.{IsSymbolOf, AreSymbolsOf, AreSymbolsFrom, none, accepted, faulty, AreSymbols}
use Rattle.cedar_server.specs.Inside.Heads.{AddsSymbols}
use Rattle.cedar_server.specs.declared.symbols.Symbol.{Symbol}

-- one more
pub one_more : (section : List ℕ) (from : ℕ) (ps : List (Node Policy)) (ss : List Symbol) (p : Node Policy) (s : Symbol)
    → AreSymbolsOf section from ps ss → IsSymbolOf section from p s → AreSymbolsOf section from (ps ++ p ∷ []) (ss ++ s ∷ [])
one_more section from [] [] p s a i = (i, tt)
one_more section from [] (t ∷ ss) p s a i = absurd a
one_more section from (q ∷ ps) [] p s a i = absurd a
one_more section from (q ∷ ps) (t ∷ ss) p s a i = (a.0, one_more section from ps ss p s a.1 i)

-- whatever follows these is followed by all of the text's
abbrev pub SymbolsSoFar : List ℕ → ℕ → List Symbol → Type 0
SymbolsSoFar text from ss = (more : List Symbol) → AreSymbolsFrom text from more → AreSymbols text (ss ++ more)

pub none_so_far : (text : List ℕ) → SymbolsSoFar text 0 []
none_so_far text more a = a

pub all_so_far : (text rest : List ℕ) (from : ℕ) (ss : List Symbol) → rest ≡ drop from text → HasNoSection rest
    → SymbolsSoFar text from ss → AreSymbols text ss
all_so_far text rest from ss e n s =
    subst (AreSymbols text) (append-nil ss) (s [] (none from (subst HasNoSection e n)))

pub section_so_far : (text rest section : List ℕ) (from n : ℕ) (old new : List Symbol) → rest ≡ drop from text
    → section ≡ take n rest → IsSection rest n → AddsSymbols section from old new → SymbolsSoFar text from old
    → SymbolsSoFar text (from + n) new
section_so_far text rest section from n old new e f i (inl (h, same)) s more a =
    subst (λ z. AreSymbols text (z ++ more)) (sym same) (s more (faulty from n more (subst (λ z. IsSection z n) e i)
    (λ x. h (subst Accepted (sym (f ∙ ap (take n) e)) x)) a))
section_so_far text rest section from n old new e f i (inr (p, ss, t, are, same)) s more a =
    let g : section ≡ take n (drop from text) = f ∙ ap (take n) e in
    subst (AreSymbols text) (sym (ap (λ z. z ++ more) same ∙ append_assoc old ss more))
    (s (ss ++ more) (accepted from n p ss more (subst (λ z. IsSection z n) e i) (subst (λ z. IsTreeOf z p) g t)
    (subst (λ z. AreSymbolsOf z from p.policies.items ss) g are) a))
