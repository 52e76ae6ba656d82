-- A list of the grammar without trailing commas has typed policies.
use Rattle.std.specs.Prelude.{◌≡◌, List, []}
use Rattle.std.specs.List.{flat_map}
use Rattle.std.proofs.Common.{sym, ap, ◌∙◌, append-nil, subst}
use Rattle.cedar_tokens.specs.declared.kind.Kind.{Kind}
use Rattle.cedar_grammar.specs.Trees.{Label, Forest, yield}
use Rattle.cedar_grammar.specs.KindGrammar.{G}
use Rattle.cedar_grammar.specs.Texts.{greatest_depth}
use Rattle.cedar_grammar.specs.TrailingCommas.{plain, without_trailing}
use Rattle.cedar_grammar.specs.TypedTrees.{Clause, policy, set_tree, part_yield}
use Rattle.cedar_grammar.specs.Reader.Reading.{done}
use Rattle.cedar_grammar.specs.Reader.Lines.{set_to}
use Rattle.cedar_grammar.proofs.WholeLaws.{set_sound}
use Rattle.cedar_grammar.proofs.Trees.Laws.{list_has_one_tree, every_tree_is_typed, typed_leaves_agree}
use Rattle.cedar_grammar.proofs.Plain.Grammar.{plain_is_in_the_grammar}

-- the policies of this tree of the list
pub record HasPolicies {A : Type 0} (kind : A → Kind) (tree : Forest Label A) (ts : List A)
    : Type 0 where
  pub policies : List (Clause A policy)
  pub is : set_tree kind policies ≡ tree
  pub leaves : flat_map part_yield policies ≡ ts
  pub grammar : G kind greatest_depth (set_tree kind policies) ts
  pub plain : without_trailing kind (set_tree kind policies) ≡ set_tree kind policies

pub policies_of : {A : Type 0} (kind : A → Kind) (ts : List A) (tree : Forest Label A)
    → set_to kind greatest_depth ts ≡ done tree [] → plain kind ts ≡ ts
    → HasPolicies kind tree ts
policies_of kind ts tree e same =
    let k = set_sound kind greatest_depth ts tree [] e in
    let g : G kind greatest_depth tree ts =
    record { shape = k.among; leaves = sym (k.tokens ∙ append-nil (yield tree)) } in
    let p : G kind greatest_depth (without_trailing kind tree) ts =
    subst (λ z. G kind greatest_depth (without_trailing kind tree) z) same
    (plain_is_in_the_grammar kind greatest_depth ts tree g) in
    let one = list_has_one_tree kind greatest_depth greatest_depth ts
    (without_trailing kind tree) tree p g in
    let t = every_tree_is_typed kind greatest_depth ts tree g in
    let is : set_tree kind t.0 ≡ tree = sym t.1 ∙ one in
    record {
      policies = t.0;
      is = is;
      leaves = sym (typed_leaves_agree kind t.0) ∙ (ap yield is ∙ g.leaves);
      grammar = subst (λ z. G kind greatest_depth z ts) (sym is) g;
      plain = ap (without_trailing kind) is ∙ (one ∙ sym is);
    }
