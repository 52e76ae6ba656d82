-- The folds so far.
use Rattle.std.proofs.Common.{◌≡◌, ◌+◌, ◌≢◌, ℕ, true, false, List, [], ◌∷◌, ◌++◌, take, drop, map, refl, ap, sym, ◌∙◌, subst, inl, inr, Option, Some, None}
use Rattle.std.specs.Option.{option_to_list}
use Rattle.std.specs.List.{filter, flat_map}
use Rattle.std.proofs.lemmas.List.{append_assoc, append-nil, map-append}
use Rattle.std.proofs.lemmas.List.Elements.{filter-append}
use Rattle.std.proofs.lemmas.List.Concat.{flat_map-cons}
use Rattle.std.proofs.lemmas.Grind.{flat_map-append}
use Rattle.cedar_grammar.specs.declared.tree.Node.{Node}
use Rattle.cedar_grammar.specs.declared.tree.Policy.{Policy}
use Rattle.cedar_grammar.specs.declared.tree.Cond.{Cond}
use Rattle.cedar_tokens.specs.declared.token.Span.{Span}
use Rattle.cedar_grammar.specs.Texts.{Accepted}
use Rattle.cedar_grammar.specs.NodeTrees.{IsTreeOf}
use Rattle.cedar_server.specs.Sections.{IsSection, HasNoSection}
use Rattle.cedar_server.specs.Folds.{spans_lines, moved_fold, several, runs, run_from, cond_fold, policy_folds, AreNodeFoldsFrom, none, accepted, faulty, AreFolds}
use Rattle.cedar_server.specs.Inside.Folding.{AddsFolds, AddsRuns, AreLines, joined}
use Rattle.cedar_server.specs.declared.folds.Fold.{Fold}
use Rattle.cedar_server.specs.declared.folds.FoldKind.{FoldKind}
use Rattle.cedar_server.specs.declared.folds.Line.{Line}

pub several-append : (text : List ℕ) (from : ℕ) (fs gs : List Fold)
    → several text from (fs ++ gs) ≡ several text from fs ++ several text from gs
several-append text from fs gs =
    ap (map (moved_fold from)) (filter-append (λ (f : Fold). spans_lines text f.span) fs gs)
    ∙ map-append (moved_fold from) (filter (λ (f : Fold). spans_lines text f.span) fs) (filter (λ (f : Fold). spans_lines text f.span) gs)

pub one_kept : (text : List ℕ) (from : ℕ) (f : Fold) → spans_lines text f.span ≡ true
    → several text from (f ∷ []) ≡ moved_fold from f ∷ []
one_kept text from f e = rw e refl

pub none_kept : (text : List ℕ) (from : ℕ) (f : Fold) → spans_lines text f.span ≡ false
    → several text from (f ∷ []) ≡ []
none_kept text from f e = rw e refl

-- one more is added
pub added_more : (text : List ℕ) (from : ℕ) (old now new : List Fold) (fs gs : List Fold) → now ≡ old ++ several text from fs
    → new ≡ now ++ several text from gs → new ≡ old ++ several text from (fs ++ gs)
added_more text from old now new fs gs e f = f ∙ ap (λ z. z ++ several text from gs) e
    ∙ append_assoc old (several text from fs) (several text from gs)
    ∙ ap (λ z. old ++ z) (sym (several-append text from fs gs))

-- whatever follows these is followed by all of the text's
abbrev pub NodesSoFar : List ℕ → ℕ → List Fold → Type 0
NodesSoFar text from fs = (more : List Fold) → AreNodeFoldsFrom text from more → AreNodeFoldsFrom text 0 (fs ++ more)

pub none_so_far : (text : List ℕ) → NodesSoFar text 0 []
none_so_far text more a = a

pub section_so_far : (text rest section : List ℕ) (from n : ℕ) (old new : List Fold) → rest ≡ drop from text
    → section ≡ take n rest → IsSection rest n → AddsFolds section from old new → NodesSoFar text from old
    → NodesSoFar text (from + n) new
section_so_far text rest section from n old new e f i (inl (h, same)) s more a =
    subst (λ z. AreNodeFoldsFrom text 0 (z ++ more)) (sym same) (s more (faulty from n more (subst (λ z. IsSection z n) e i)
    (λ x. h (subst Accepted (sym (f ∙ ap (take n) e)) x)) a))
section_so_far text rest section from n old new e f i (inr (p, t, same)) s more a =
    let g : section ≡ take n (drop from text) = f ∙ ap (take n) e in
    let here = several (take n (drop from text)) from (flat_map policy_folds p.policies.items) in
    let same_here : new ≡ old ++ here = subst (λ z. new ≡ old ++ several z from (flat_map policy_folds p.policies.items)) g same in
    subst (AreNodeFoldsFrom text 0) (sym (ap (λ z. z ++ more) same_here ∙ append_assoc old here more))
    (s (here ++ more) (accepted from n p more (subst (λ z. IsSection z n) e i) (subst (λ z. IsTreeOf z p) g t) a))

pub nodes_all : (text rest : List ℕ) (from : ℕ) (fs : List Fold) → rest ≡ drop from text → HasNoSection rest
    → NodesSoFar text from fs → AreNodeFoldsFrom text 0 fs
nodes_all text rest from fs e n s =
    subst (AreNodeFoldsFrom text 0) (append-nil fs) (s [] (none from (subst HasNoSection e n)))

abbrev pub comments : List Span → List Fold
comments ss = map (λ s. record { span = s; kind = FoldKind.Comments }) ss

pub all_folds : (text : List ℕ) (ls : List Line) (nodes fs : List Fold) → AreNodeFoldsFrom text 0 nodes → AreLines text ls
    → AddsRuns text (runs ls) nodes fs → AreFolds text fs
all_folds text ls nodes fs a l r = record {
  nodes = nodes;
  are = a;
  parts = l.parts;
  split = l.are;
  value = r ∙ ap (λ z. nodes ++ several text 0 (comments z)) (ap runs l.value);
}

-- the runs of what is left, after a run that may go on
abbrev pub runs_after : Option Span → List Line → List Span
runs_after None ls = runs ls
runs_after (Some s) ls = run_from s ls

-- what is added so far is followed by the runs of what is left
abbrev pub RunsSoFar : List ℕ → List Line → List Fold → List Fold → Option Span → List Line → Type 0
RunsSoFar text ls old now run rest =
    old ++ several text 0 (comments (runs ls)) ≡ now ++ several text 0 (comments (runs_after run rest))

comment_step : (run : Option Span) (s : Span) (ls : List Line)
    → runs_after run (Line.Comment s ∷ ls) ≡ runs_after (Some (joined run s)) ls
comment_step None s ls = refl
comment_step (Some t) s ls = refl

pub comment_so_far : (text : List ℕ) (ls rest left : List Line) (old now : List Fold) (run : Option Span) (s : Span)
    → rest ≡ Line.Comment s ∷ left → RunsSoFar text ls old now run rest → RunsSoFar text ls old now (Some (joined run s)) left
comment_so_far text ls rest left old now run s e r =
    r ∙ ap (λ z. now ++ several text 0 (comments z)) (ap (runs_after run) e ∙ comment_step run s left)

other_step : (run : Option Span) (l : Line) (ls : List Line) → ((s : Span) → l ≢ Line.Comment s)
    → runs_after run (l ∷ ls) ≡ option_to_list run ++ runs ls
other_step None Line.Blank ls h = refl
other_step None (Line.Comment s) ls h = absurd (h s refl)
other_step None Line.Other ls h = refl
other_step (Some t) Line.Blank ls h = refl
other_step (Some t) (Line.Comment s) ls h = absurd (h s refl)
other_step (Some t) Line.Other ls h = refl

pub other_so_far : (text : List ℕ) (ls rest left : List Line) (old now new : List Fold) (run : Option Span) (l : Line)
    → rest ≡ l ∷ left → ((s : Span) → l ≢ Line.Comment s) → AddsRuns text (option_to_list run) now new
    → RunsSoFar text ls old now run rest → RunsSoFar text ls old new None left
other_so_far text ls rest left old now new run l e h a r =
    let split : several text 0 (comments (option_to_list run ++ runs left))
    ≡ several text 0 (comments (option_to_list run)) ++ several text 0 (comments (runs left)) =
    ap (several text 0) (map-append (λ (s : Span). record { span = s; kind = FoldKind.Comments }) (option_to_list run) (runs left))
    ∙ several-append text 0 (comments (option_to_list run)) (comments (runs left)) in
    r ∙ ap (λ z. now ++ several text 0 (comments z)) (ap (runs_after run) e ∙ other_step run l left h)
    ∙ ap (λ z. now ++ z) split
    ∙ sym (append_assoc now (several text 0 (comments (option_to_list run))) (several text 0 (comments (runs left))))
    ∙ ap (λ z. z ++ several text 0 (comments (runs left))) (sym a)

last_step : (run : Option Span) → runs_after run [] ≡ option_to_list run
last_step None = refl
last_step (Some s) = refl

pub runs_all : (text : List ℕ) (ls rest : List Line) (old now new : List Fold) (run : Option Span) → rest ≡ []
    → AddsRuns text (option_to_list run) now new → RunsSoFar text ls old now run rest → AddsRuns text (runs ls) old new
runs_all text ls rest old now new run e a r =
    a ∙ sym (r ∙ ap (λ z. now ++ several text 0 (comments z)) (ap (runs_after run) e ∙ last_step run))

-- one more policy, and one more condition
pub policies_more : (ps : List (Node Policy)) (k : ℕ) (p : Node Policy) → take (k + 1) ps ≡ take k ps ++ p ∷ []
    → flat_map policy_folds (take k ps) ++ policy_folds p ≡ flat_map policy_folds (take (k + 1) ps)
policies_more ps k p e =
    let own : flat_map policy_folds (p ∷ []) ≡ policy_folds p = flat_map-cons policy_folds p [] ∙ append-nil (policy_folds p) in
    sym (ap (flat_map policy_folds) e ∙ flat_map-append policy_folds (take k ps) (p ∷ [])
    ∙ ap (λ z. flat_map policy_folds (take k ps) ++ z) own)

pub conds_more : (cs : List (Node Cond)) (k : ℕ) (c : Node Cond) → take (k + 1) cs ≡ take k cs ++ c ∷ []
    → map cond_fold (take k cs) ++ cond_fold c ∷ [] ≡ map cond_fold (take (k + 1) cs)
conds_more cs k c e = sym (ap (map cond_fold) e ∙ map-append cond_fold (take k cs) (c ∷ []))
