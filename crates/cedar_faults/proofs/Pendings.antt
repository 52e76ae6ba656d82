-- What is still to be read, and how it is read on.
use Rattle.std.specs.Prelude.{◌≡◌, ◌↔◌, ℕ, zero, suc, ◌+◌, ◌<◌, Bool, true, false, ◌&&◌, IsTrue, List, [], ◌∷◌, ◌++◌, map, reverse, ◌-◌, take, nat_lt}
use Rattle.std.specs.List.{list_all}
use Rattle.std.proofs.Common.{refl, sym, ap, ◌∙◌, arith, append-nil}
use Rattle.std.proofs.lemmas.Bool.{lt-ltb}
use Rattle.std.proofs.lemmas.List.Folds.{list_all-append, list_all-map}
use Rattle.std.proofs.lemmas.List.{map-append, reverse-append}
use mathlib.Core.List.{reverse-cons}
use Rattle.cedar_tokens.specs.declared.kind.Kind.{Kind}
use Rattle.cedar_tokens.specs.Kinds.{begins}
use Rattle.cedar_grammar.specs.Reader.Lines.{expr_rule}
use Rattle.cedar_grammar.specs.Reader.Reading.{Reader, both, nest, one}
use Rattle.cedar_grammar.specs.Reader.Rules.{Rule, never, empty, inner, leaf_of, nested, then, either, star, tail, node, shaped, items, entity, reference, nullable, first, refuse, tailed, core}
use Rattle.cedar_grammar.proofs.Booleans.{and_first, and_second}
use Rattle.cedar_grammar.proofs.Readers.Equations.{choice_no, repeat_end, token_end}
use Rattle.cedar_grammar.proofs.Rules.Tests.{expr_decided}
use Rattle.cedar_grammar.proofs.Rules.Meanings.{decided}
use Rattle.cedar_faults.specs.declared.part.Part.{Part}
use Rattle.cedar_faults.specs.declared.part.Part.TheVariants as P
use Rattle.cedar_faults.specs.declared.pending.Ahead.{Ahead}
use Rattle.cedar_faults.specs.declared.pending.Pending.{Pending}
use Rattle.cedar_faults.specs.Inside.Turns.{Step, taken, opened, stopped, turn, is_optional}
use Rattle.cedar_faults.specs.Inside.PartRules.{rule_of}
use Rattle.cedar_faults.specs.Inside.Reaching.{Reach, past, stops_at, reach, on, room, reads, reads_parts, levels_in, left}
use Rattle.cedar_faults.specs.Inside.Pendings.{pair, parts_of, with_levels}
use Rattle.cedar_faults.proofs.Branches.{flat, flats, rules}
use Rattle.cedar_faults.proofs.RuleReading.{on_on, on_same, reach_both, reach_tree, reach_shaped, reads_all, reads_append, reads_flat}
use Rattle.cedar_faults.proofs.ReadBy.{κ, at, expr_is}
use Rattle.cedar_faults.proofs.Parts.{by_step, right}

reads_with : (n : ℕ) (ps : List Part) (rest : List (Part × ℕ)) (ts : List Kind)
    → reads_parts (map (with_levels n) ps ++ rest) ts ≡ on (reads_all n (rules ps) ts)
    (reads_parts rest)
reads_with n [] rest ts = refl
reads_with n (p ∷ ps) rest ts = on_same (reads n (rule_of p) ts) (reads_parts (map
    (with_levels n) ps ++ rest)) _ (λ r. reads_with n ps rest r)
    ∙ sym (on_on (reads n (rule_of p) ts) (reads_all n (rules ps)) (reads_parts rest))
    ∙ ap (λ x. on (on x (reads_all n (rules ps))) (reads_parts rest)) (reads_flat n (rule_of p) ts)
    ∙ ap (λ x. on x (reads_parts rest)) (sym (reads_append n (flat (rule_of p)) (rules ps) ts))

-- the last of the parts is the next one
pub next_part : (xs : List Ahead) (a : Ahead) → reverse (map pair
    (xs ++ a ∷ [])) ≡ pair a ∷ reverse (map pair xs)
next_part xs a = ap reverse (map-append pair xs (a ∷ [])) ∙ reverse-append (map pair xs)
    (pair a ∷ [])

pub room_is : (n : ℕ) → nat_lt 0 n ≡ room n
room_is zero = refl
room_is (suc n) = lt-ltb 0 (suc n) (omega arith)

-- how far what is left is read, by the turn of its next part
next_read : (p : Part) (n : ℕ) (rest : List (Part × ℕ)) (k : Kind) (ts : List Kind)
    → reads_parts ((p, n) ∷ rest) (k ∷ ts) ≡ on (by_step (levels_in p n) k ts (turn p k
    (room n))) (reads_parts rest)
next_read p n rest k ts = ap (λ x. on x (reads_parts rest)) (right p n k ts)

module _ (p : Part) (n : ℕ) (rest : List (Part × ℕ)) (k : Kind) (ts : List Kind) where
  by_turn : (s : Step) → turn p k (room n) ≡ s → reads_parts ((p, n) ∷ rest) (k ∷ ts) ≡ on
      (by_step (levels_in p n) k ts s) (reads_parts rest)
  by_turn s e = next_read p n rest k ts ∙ ap (λ s. on (by_step (levels_in p n) k ts s)
      (reads_parts rest)) e

  pub if_taken : (ps : List Part) → turn p k (room n) ≡ taken ps → reads_parts ((p, n) ∷ rest)
      (k ∷ ts) ≡ reads_parts (map (with_levels (levels_in p n)) ps ++ rest) ts
  if_taken ps e = by_turn (taken ps) e ∙ sym (reads_with (levels_in p n) ps rest ts)

  pub if_opened : (ps : List Part) → turn p k (room n) ≡ opened ps → reads_parts ((p, n) ∷ rest)
      (k ∷ ts) ≡ reads_parts (map (with_levels (levels_in p n)) ps ++ rest) (k ∷ ts)
  if_opened ps e = by_turn (opened ps) e ∙ sym (reads_with (levels_in p n) ps rest (k ∷ ts))

  pub if_stopped : turn p k (room n) ≡ stopped → left (reads_parts ((p, n) ∷ rest)
      (k ∷ ts)) ≡ k ∷ ts
  if_stopped e = ap left (by_turn stopped e)

-- where no token is left
abbrev pub ended : Bool → Reach
ended true = past []
ended false = stops_at []

-- an expression inside isn't empty
abbrev Fails : ℕ → Type 0
Fails n = reads n inner [] ≡ stops_at []

module _ (n : ℕ) (fails : Fails n) where
  then_ended : (m : Bool) (c : Rule) → reads n c [] ≡ ended (nullable c) → on (ended m)
      (reads n c) ≡ ended (m && nullable c)
  then_ended true c e = e
  then_ended false c e = refl

  ended_read : (r : Rule) → IsTrue (decided r) → reads n r [] ≡ ended (nullable r)
  unfolding tailed
  ended_read never d = refl
  ended_read empty d = refl
  ended_read inner d = fails
  ended_read (leaf_of p) d = ap reach (token_end κ p)
  ended_read (nested j a) d = ap reach (choice_no false (nest (room n) (both (one κ j)
      (at n a))) refuse [] refl)
  ended_read (then a c) d = reach_both (at n a) (at n c) [] ∙ ap (λ x. on x (reads n c))
      (ended_read a (and_first (decided a) _ d))
      ∙ then_ended (nullable a) c (ended_read c (and_first (decided c) _ (and_second
      (decided a) _ d)))
  ended_read (either a c) d = ap reach (choice_no false (at n a) (at n c) [] refl) ∙ ended_read c
      (and_first (decided c) _ (and_second (decided a) _ d))
  ended_read (star a) d = ap reach (repeat_end (begins κ (first a)) (at n a) [] refl)
  ended_read (tail s x y z) d = ap reach (choice_no false _ (at n z) [] refl) ∙ ended_read z
      (and_first (decided z) _ (and_second (decided y) _ (and_second (decided x) _ d)))
  ended_read (node l a) d = reach_tree l (at n a) [] ∙ ended_read a d
  ended_read (shaped a) d = reach_shaped (at n a) [] ∙ ended_read a d
  ended_read (items a) d = absurd cc
  ended_read entity d = absurd cc
  ended_read (reference a) d = absurd cc

fails : (n : ℕ) → Fails n
fails zero = refl
fails (suc d) = ap (λ (P : Reader Kind). reach (P [])) (expr_is d) ∙ ended_read d (fails d)
    (core expr_rule) expr_decided

optional_read : (n : ℕ) (p : Part) → reads n (rule_of p) [] ≡ ended (is_optional p)
optional_read n (P.Token own) = ended_read n (fails n) (rule_of (P.Token own)) refl
optional_read n P.Word = ended_read n (fails n) (rule_of P.Word) refl
optional_read n P.Identifier = ended_read n (fails n) (rule_of P.Identifier) refl
optional_read n P.Policies = ended_read n (fails n) (rule_of P.Policies) refl
optional_read n P.Policy = ended_read n (fails n) (rule_of P.Policy) refl
optional_read n P.Effect = ended_read n (fails n) (rule_of P.Effect) refl
optional_read n P.Signature = ended_read n (fails n) (rule_of P.Signature) refl
optional_read n P.AnnotationText = ended_read n (fails n) (rule_of P.AnnotationText) refl
optional_read n P.PrincipalTest = ended_read n (fails n) (rule_of P.PrincipalTest) refl
optional_read n P.PrincipalEntity = ended_read n (fails n) (rule_of P.PrincipalEntity) refl
optional_read n P.PrincipalIn = ended_read n (fails n) (rule_of P.PrincipalIn) refl
optional_read n P.ActionTest = ended_read n (fails n) (rule_of P.ActionTest) refl
optional_read n P.ActionSet = ended_read n (fails n) (rule_of P.ActionSet) refl
optional_read n P.ResourceTest = ended_read n (fails n) (rule_of P.ResourceTest) refl
optional_read n P.ResourceEntity = ended_read n (fails n) (rule_of P.ResourceEntity) refl
optional_read n P.ResourceIn = ended_read n (fails n) (rule_of P.ResourceIn) refl
optional_read n P.Entity = ended_read n (fails n) (rule_of P.Entity) refl
optional_read n P.EntityMarks = ended_read n (fails n) (rule_of P.EntityMarks) refl
optional_read n P.EntityNext = ended_read n (fails n) (rule_of P.EntityNext) refl
optional_read n P.Entities = ended_read n (fails n) (rule_of P.Entities) refl
optional_read n P.MoreEntities = ended_read n (fails n) (rule_of P.MoreEntities) refl
optional_read n P.PathMarks = ended_read n (fails n) (rule_of P.PathMarks) refl
optional_read n P.Comma = ended_read n (fails n) (rule_of P.Comma) refl
optional_read n P.Conditions = ended_read n (fails n) (rule_of P.Conditions) refl
optional_read n P.Inner = ended_read n (fails n) (rule_of P.Inner) refl
optional_read n P.Expr = ended_read n (fails n) (rule_of P.Expr) refl
optional_read n P.Or = ended_read n (fails n) (rule_of P.Or) refl
optional_read n P.MoreOr = ended_read n (fails n) (rule_of P.MoreOr) refl
optional_read n P.And = ended_read n (fails n) (rule_of P.And) refl
optional_read n P.MoreAnd = ended_read n (fails n) (rule_of P.MoreAnd) refl
optional_read n P.Relation = ended_read n (fails n) (rule_of P.Relation) refl
optional_read n P.Comparison = ended_read n (fails n) (rule_of P.Comparison) refl
optional_read n P.HasOperand = ended_read n (fails n) (rule_of P.HasOperand) refl
optional_read n P.Fields = ended_read n (fails n) (rule_of P.Fields) refl
optional_read n P.InAdd = ended_read n (fails n) (rule_of P.InAdd) refl
optional_read n P.Add = ended_read n (fails n) (rule_of P.Add) refl
optional_read n P.MoreAdd = ended_read n (fails n) (rule_of P.MoreAdd) refl
optional_read n P.Mult = ended_read n (fails n) (rule_of P.Mult) refl
optional_read n P.MoreMult = ended_read n (fails n) (rule_of P.MoreMult) refl
optional_read n P.Unary = ended_read n (fails n) (rule_of P.Unary) refl
optional_read n P.ThreeNegs = ended_read n (fails n) (rule_of P.ThreeNegs) refl
optional_read n P.TwoNegs = ended_read n (fails n) (rule_of P.TwoNegs) refl
optional_read n P.OneNeg = ended_read n (fails n) (rule_of P.OneNeg) refl
optional_read n P.ThreeDashes = ended_read n (fails n) (rule_of P.ThreeDashes) refl
optional_read n P.TwoDashes = ended_read n (fails n) (rule_of P.TwoDashes) refl
optional_read n P.OneDash = ended_read n (fails n) (rule_of P.OneDash) refl
optional_read n P.Member = ended_read n (fails n) (rule_of P.Member) refl
optional_read n P.Item = ended_read n (fails n) (rule_of P.Item) refl
optional_read n P.VariableMarks = ended_read n (fails n) (rule_of P.VariableMarks) refl
optional_read n P.NameMarks = ended_read n (fails n) (rule_of P.NameMarks) refl
optional_read n P.NameNext = ended_read n (fails n) (rule_of P.NameNext) refl
optional_read n P.Accesses = ended_read n (fails n) (rule_of P.Accesses) refl
optional_read n P.Call = ended_read n (fails n) (rule_of P.Call) refl
optional_read n P.Exprs = ended_read n (fails n) (rule_of P.Exprs) refl
optional_read n P.MoreExprs = ended_read n (fails n) (rule_of P.MoreExprs) refl
optional_read n P.Inits = ended_read n (fails n) (rule_of P.Inits) refl
optional_read n P.MoreInits = ended_read n (fails n) (rule_of P.MoreInits) refl

pub all_ended : (xs : List (Part × ℕ)) → reads_parts xs [] ≡ ended (list_all
    (λ q. is_optional q.0) xs)
all_ended [] = refl
all_ended ((p, n) ∷ xs) = ap (λ x. on x (reads_parts xs)) (optional_read n p) ∙ go
    (is_optional p) (all_ended xs)
  where
    go : (b : Bool) → reads_parts xs [] ≡ ended (list_all (λ q. is_optional q.0) xs) → on
        (ended b) (reads_parts xs) ≡ ended (b && list_all (λ q. is_optional q.0) xs)
    go true e = e
    go false e = refl

backwards : (xs : List Ahead) → list_all (λ q. is_optional q.0) (reverse
    (map pair xs)) ≡ list_all (λ a. is_optional a.part) xs
backwards [] = refl
backwards (x ∷ xs) = ap (list_all (λ q. is_optional q.0)) (reverse-cons (pair x) (map pair xs))
    ∙ list_all-append (λ q. is_optional q.0) (reverse (map pair xs)) (pair x ∷ [])
    ∙ ap (λ b. b && (is_optional x.part && true)) (backwards xs) ∙ turned (list_all
    (λ a. is_optional a.part) xs) (is_optional x.part)
  where
    turned : (b c : Bool) → (b && (c && true)) ≡ (c && b)
    turned true true = refl
    turned true false = refl
    turned false true = refl
    turned false false = refl

pub can_end : (xs : List Ahead) → reads_parts (reverse (map pair xs)) [] ≡ ended (list_all
    (λ a. is_optional a.part) xs)
can_end xs = all_ended (reverse (map pair xs)) ∙ ap ended (backwards xs)

pub ends_if : (b : Bool) (x : Reach) → x ≡ ended b → IsTrue b ↔ (x ≡ past [])
ends_if true x e = (λ _. e, λ _. refl)
ends_if false x e = (λ i. absurd cc, λ i. absurd (let w : past [] ≡ stops_at [] = sym i ∙ e in cc))

-- nothing is left
pub none_left : (xs ys : List Ahead) (n : ℕ) → n ≡ 0 → xs ≡ ys ++ [] → ys ≡ take (n - 1) xs
    → xs ≡ []
none_left xs ys n e i r =
    let m : n - 1 ≡ 0 = omega (arith, e) in
    i ∙ append-nil ys ∙ r ∙ ap (λ m. take m xs) m
