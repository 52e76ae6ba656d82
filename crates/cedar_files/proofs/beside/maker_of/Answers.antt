use Rattle.std.proofs.Common.{◌≡◌, ◌∙◌, ◌++◌, ◌∷◌, ℕ, Some, None, MatchOption, ap, arith, codes, false, rules, subst, sym, tests, true}
use Rattle.std.proofs.lemmas.Iterator.Adapters.{YieldsList-from_bytes}
use Rattle.std.proofs.lemmas.Iterator.Search.{all_from_yields_List}
use Rattle.std.proofs.lemmas.Str.Pattern.{split_parts}
use Rattle.std.specs.Char.{is_ascii_hexdigit}
use Rattle.cedar_files.specs.Beside.{IsNewName}
use Rattle.cedar_files.proofs.BesideLemmas.{read_number, read_parts}
use Rattle.cedar_files.proofs.beside.maker_of.Goals as goal

pub returns-in_default : goal.returns-in_default
returns-in_default c = λ number (text, bits, is, read, hex). c.in_default.ensures.cases (text ++ (46 ∷ bits)) is

pub returns-in_default-split_once : goal.returns-in_default-split_once
returns-in_default-split_once c =
    let rest = c.in-Some.rest.now in
    let stripped = c.in-Some.ensures.cases in
    read_parts c.args.name.now rest (stripped.1.1 ∙ ap (λ z. codes ".cedar-files." ++ z) (sym stripped.2)) None
    c.in_default-split_once.ensures.cases

pub returns-then-not-all : goal.returns-then-not-all
returns-then-not-all c = λ number new.
    let rest = c.in-Some.rest.now in
    let bits = c.in-Some-split_once.bits in
    let stripped = c.in-Some.ensures.cases in
    let parts = read_parts c.args.name.now rest (stripped.1.1 ∙ ap (λ z. codes ".cedar-files." ++ z) (sym stripped.2))
    (Some (c.in-Some-split_once.number, bits)) c.in-Some-split_once.ensures.cases number new in
    let all = all_from_yields_List is_ascii_hexdigit _ _ c.all.result c.all.ensures.ran
    (YieldsList-from_bytes bits.now c.bytes.ensures.rest) (λ x b q k. search (rules, tests)) in
    let bad : false ≡ true = sym c.if-not-all.true ∙ all ∙ parts.1 in
    cc

pub returns : goal.returns
returns c =
    let name = c.args.name.now in
    let rest = c.in-Some.rest.now in
    let text = c.in-Some-split_once.number in
    let bits = c.in-Some-split_once.bits in
    let stripped = c.in-Some.ensures.cases in
    let split = c.in-Some-split_once.ensures.cases in
    let all = all_from_yields_List is_ascii_hexdigit _ _ c.all.result c.all.ensures.ran
    (YieldsList-from_bytes bits.now c.bytes.ensures.rest) (λ x b q k. search (rules, tests)) in
    subst (λ r. MatchOption r ((number : ℕ) → ¬ (IsNewName name number)) (λ number. IsNewName name number))
    (sym c.ok.ensures.value)
    (read_number name rest (stripped.1.1 ∙ ap (λ z. codes ".cedar-files." ++ z) (sym stripped.2)) text bits c.parse.result
    split (split_parts 46 rest (Some (text, bits)) split (omega arith)).0 (sym all ∙ c.if-not-all.false)
    c.parse.ensures.value.0)
