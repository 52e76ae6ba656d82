-- Rules as lists of what they begin with.
use Rattle.std.specs.Prelude.{◌≡◌, Bool, true, false, IsTrue, List, [], ◌∷◌, ◌++◌, map, Option, Some, None}
use Rattle.cedar_tokens.specs.declared.kind.Kind.{Kind}
use Rattle.cedar_tokens.specs.Kinds.{is}
use Rattle.cedar_grammar.specs.Reader.Rules.{Rule, never, empty, inner, leaf_of, nested, then, either, star, tail, node, shaped, items, entity, reference, expr_first, nullable}
use Rattle.cedar_grammar.proofs.Rules.Meanings.{decided}
use Rattle.cedar_faults.specs.declared.part.Part.{Part}
use Rattle.cedar_faults.specs.Inside.Turns.{Way, takes, nests, opens, table, otherwise, Step, turn, opened}
use Rattle.cedar_faults.specs.Inside.PartRules.{rule_of}

-- a rule as the rules that come one after the other in it
abbrev pub flat : Rule → List Rule
flat never = never ∷ []
flat empty = []
flat inner = inner ∷ []
flat (leaf_of p) = leaf_of p ∷ []
flat (nested k a) = nested k a ∷ []
flat (then a b) = flat a ++ flat b
flat (either a b) = either a b ∷ []
flat (star a) = star a ∷ []
flat (tail s x y z) = tail s x y z ∷ []
flat (node l a) = flat a
flat (shaped a) = flat a
flat (items a) = items a ∷ []
flat entity = entity ∷ []
flat (reference a) = reference a ∷ []

abbrev pub flats : List Rule → List Rule
flats [] = []
flats (r ∷ rs) = flat r ++ flats rs

-- the way to read on after a token, in rules
pub data RuleWay : Type 0 where
  taking nesting opening : List Rule → RuleWay

abbrev pub followed : List Rule → RuleWay → RuleWay
followed more (taking rs) = taking (rs ++ more)
followed more (nesting rs) = nesting (rs ++ more)
followed more (opening rs) = opening (rs ++ more)

abbrev pub each_followed : List Rule → List ((Kind → Bool) × RuleWay) → List ((Kind
    → Bool) × RuleWay)
each_followed more [] = []
each_followed more ((p, w) ∷ bs) = (p, followed more w) ∷ each_followed more bs

abbrev pub only_if : Bool → List ((Kind → Bool) × RuleWay) → List ((Kind → Bool) × RuleWay)
only_if true bs = bs
only_if false bs = []

abbrev pub branches : Rule → List ((Kind → Bool) × RuleWay)
branches never = []
branches empty = []
branches inner = (expr_first, opening (inner ∷ [])) ∷ []
branches (leaf_of p) = (p, taking []) ∷ []
branches (nested k a) = (is k, nesting (flat a)) ∷ []
branches (then a b) = each_followed (flat b) (branches a) ++ only_if (nullable a) (branches b)
branches (either a b) = branches a ++ branches b
branches (star a) = each_followed (star a ∷ []) (branches a)
branches (tail s x y z) = (is s, taking (either (then x (tail s x y z)) y ∷ [])) ∷ branches z
branches (node l a) = branches a
branches (shaped a) = branches a
branches r = []

-- the rules of parts
abbrev pub rules : List Part → List Rule
rules ps = flats (map rule_of ps)

abbrev pub rule_way : Way → RuleWay
rule_way (takes ps) = taking (rules ps)
rule_way (nests ps) = nesting (rules ps)
rule_way (opens ps) = opening (rules ps)

abbrev pub rule_table : List ((Kind → Bool) × Way) → List ((Kind → Bool) × RuleWay)
rule_table [] = []
rule_table ((p, w) ∷ more) = (p, rule_way w) ∷ rule_table more

-- the rules that a part is read as with any other token
abbrev pub rest_of : Bool → List Rule → Option (List Rule)
rest_of true more = Some more
rest_of false more = None

abbrev pub option_rules : Option (List Part) → Option (List Rule)
option_rules None = None
option_rules (Some ps) = Some (rules ps)

-- a part's rule begins with a rule by which its table is right
pub record Begins (p : Part) : Type 0 where
  pub head : Rule
  pub more : List Rule
  pub flat_is : flat (rule_of p) ≡ head ∷ more
  pub table_is : each_followed more (branches head) ≡ rule_table (table p)
  pub is_decided : IsTrue (decided head)
  pub otherwise_is : rest_of (nullable head) more ≡ option_rules (otherwise p)

-- whatever the token is, a part is read as these parts
pub record IsMadeOf (p : Part) : Type 0 where
  pub parts : List Part
  pub flat_is : flat (rule_of p) ≡ rules parts
  pub turn_is : (k : Kind) (b : Bool) → turn p k b ≡ opened parts
