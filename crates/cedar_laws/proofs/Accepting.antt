-- Outputs are accepted texts, and their own outputs.
use Rattle.std.proofs.Common.{◌≡◌, ℕ, Bool, true, false, cond, not, ◌&&◌, ◌||◌, ◌==◌, List, [], ◌∷◌, length, map, refl, ap, sym, ◌∙◌, subst}
use Rattle.std.specs.List.{list_any}
use Rattle.std.specs.Str.Parse.{digits_value}
use Rattle.std.proofs.lemmas.Bool.Decides.{Decides-eqb}
use Rattle.std.proofs.lemmas.Bool.{and_parts}
use Rattle.cedar_tokens.specs.Bytes.{digit_zero}
use Rattle.cedar_tokens.specs.Units.{is_token, is_number}
use Rattle.cedar_tokens.specs.Listing.{Decorated, Listing, token_value, without_zeros}
use Rattle.cedar_tokens.specs.PlainList.{plain_list}
use Rattle.cedar_tokens.proofs.Scanning.{split_unique}
use Rattle.cedar_tokens.proofs.Longest.{is_token-number}
use Rattle.cedar_tokens.specs.declared.kind.Kind.TheVariants as K
use Rattle.cedar_tokens.specs.Kinds.{is, is_closing, begins}
use Rattle.cedar_tokens.specs.TokenKinds.{kind_of}
use Rattle.cedar_grammar.specs.KindGrammar.{G}
use Rattle.cedar_grammar.specs.Laws.{kind_of_decorated}
use Rattle.cedar_grammar.specs.Numbers.{is_too_large}
use Rattle.cedar_grammar.specs.Texts.{greatest_depth, only_tokens}
use Rattle.cedar_grammar.specs.TrailingCommas.{drop_if, plain}
use Rattle.cedar_grammar.specs.TypedTrees.{set_tree}
use Rattle.cedar_grammar.proofs.Texts.Accepted.{is_accepted}
use Rattle.cedar_grammar.proofs.Rules.Maps.{each, relabel}
use Rattle.cedar_grammar.proofs.Texts.Kinds.{plain_texts_agree}
use Rattle.cedar_grammar.proofs.Trees.Relabelling.{relabelled, each_map}
use Rattle.cedar_grammar.proofs.Texts.Listings.{listing_texts}
use Rattle.cedar_laws.specs.Leaves.{part_map}
use Rattle.cedar_laws.specs.Output.{with_value, tokens_of}
use Rattle.cedar_laws.specs.Canonical.{OutputIsAccepted, OutputIsItsOwn}
use Rattle.cedar_laws.proofs.Listed.{numbered}
use Rattle.cedar_laws.proofs.ByValue.{tokens_map}
use Rattle.cedar_laws.proofs.Grammatical.{value_tree, trees_of, leaves_of, grammar_of}
use Rattle.cedar_laws.proofs.CanonicalForm.{own_list, output_list, value_texts}

-- ---- numbers

zeros_value : (u : List ℕ) → digits_value 10 (without_zeros u) ≡ digits_value 10 u
unfolding without_zeros
zeros_value [] = refl
zeros_value (b ∷ bs) = go (b == digit_zero && not (length bs == 0)) refl (zeros_value bs)
  where
    go : (t : Bool) → (b == digit_zero && not (length bs == 0)) ≡ t
        → digits_value 10 (without_zeros bs) ≡ digits_value 10 bs
        → digits_value 10 (cond t (without_zeros bs) (b ∷ bs)) ≡ digits_value 10 (b ∷ bs)
    go false e ih = refl
    go true e ih =
        let z : b ≡ digit_zero = (Decides-eqb b digit_zero).0
        (and_parts (b == digit_zero) (not (length bs == 0)) e).0 in
        ih ∙ ap (λ c. digits_value 10 (c ∷ bs)) (sym z)

large_value : (u : List ℕ) → is_too_large (token_value u) ≡ is_too_large u
large_value u = go (is_number u) refl
  where
    go : (t : Bool) → is_number u ≡ t → is_too_large (cond t (without_zeros u) u) ≡ is_too_large u
    go true e = rw (numbered u e, e, zeros_value u) refl
    go false e = refl

pub other_small : (u : List ℕ) → is_token u ≡ false → is_too_large u ≡ false
other_small u h = go (is_number u) refl
  where
    go : (t : Bool) → is_number u ≡ t → is_too_large u ≡ false
    go true e = absurd (let k = is_token-number u e in cc)
    go false e = rw e refl

large_tokens : (us : List (List ℕ))
    → list_any is_too_large us ≡ list_any is_too_large (only_tokens us)
large_tokens [] = refl
large_tokens (u ∷ us) = go (is_token u) refl (large_tokens us)
  where
    go : (t : Bool) → is_token u ≡ t
        → list_any is_too_large us ≡ list_any is_too_large (only_tokens us)
        → (is_too_large u || list_any is_too_large us)
        ≡ list_any is_too_large (cond t (u ∷ only_tokens us) (only_tokens us))
    go true e ih = ap (λ z. is_too_large u || z) ih
    go false e ih = rw (other_small u e) ih

large_values : (ts : List Decorated) → list_any is_too_large (map (λ (t : Decorated). t.text)
    (map with_value ts)) ≡ list_any is_too_large (map (λ (t : Decorated). t.text) ts)
large_values [] = refl
large_values (t ∷ ts) = rw (large_value t.text, large_values ts) refl

small_plain : (us : List (List ℕ)) → list_any is_too_large us ≡ false
    → list_any is_too_large (plain kind_of us) ≡ false
small_plain [] h = refl
small_plain (u ∷ us) h =
    let p = parts (is_too_large u) h in
    go (is K.Comma (kind_of u) && begins kind_of is_closing us) p.0 (small_plain us p.1)
  where
    parts : (b : Bool) → (b || list_any is_too_large us) ≡ false
        → (b ≡ false) × (list_any is_too_large us ≡ false)
    parts true k = absurd cc
    parts false k = (refl, k)

    go : (b : Bool) → is_too_large u ≡ false → list_any is_too_large (plain kind_of us) ≡ false
        → list_any is_too_large (drop_if b (u ∷ plain kind_of us) (plain kind_of us)) ≡ false
    go true e ih = ih
    go false e ih = rw e ih

-- ---- outputs

pub output_accepted : OutputIsAccepted
output_accepted w i x y u o =
    let a = o.accepted in
    let own = own_list w i x y u o in
    let ts = tokens_of o.policies in
    let texts : only_tokens own.units ≡ map (λ (t : Decorated). t.text) (map with_value ts) =
    sym (listing_texts own.units)
    ∙ ap (λ (l : Listing). map (λ (t : Decorated). t.text) l.tokens) (sym own.value) in
    let units : a.1.units ≡ o.is_list.units =
    split_unique x a.1.units o.is_list.units a.1.split o.is_list.split in
    let before : map (λ (t : Decorated). t.text) o.list.tokens ≡ only_tokens a.1.units =
    ap (λ (l : Listing). map (λ (t : Decorated). t.text) l.tokens) o.is_list.value
    ∙ (listing_texts o.is_list.units ∙ ap only_tokens (sym units)) in
    let small : list_any is_too_large (map (λ (t : Decorated). t.text) o.list.tokens) ≡ false =
    ap (list_any is_too_large) before ∙ (sym (large_tokens a.1.units) ∙ a.1.fitting) in
    let fitting : list_any is_too_large own.units ≡ false =
    large_tokens own.units ∙ (ap (list_any is_too_large) texts ∙ (large_values ts
    ∙ (ap (λ z. list_any is_too_large (map (λ (t : Decorated). t.text) z)) (leaves_of o)
    ∙ (ap (list_any is_too_large) (plain_texts_agree o.list.tokens)
    ∙ small_plain (map (λ (t : Decorated). t.text) o.list.tokens) small)))) in
    let tree = value_tree o.policies (trees_of o) in
    let ps = map (part_map with_value) o.policies in
    let f = relabel (λ (t : Decorated). t.text) (set_tree kind_of_decorated ps) in
    let g : G kind_of greatest_depth f (each (λ (t : Decorated). t.text) (tokens_of ps)) =
    relabelled (λ (t : Decorated). t.text) kind_of_decorated kind_of (λ t. refl) greatest_depth
    (set_tree kind_of_decorated ps) (tokens_of ps) tree.grammar in
    let leaves : each (λ (t : Decorated). t.text) (tokens_of ps) ≡ only_tokens own.units =
    each_map (λ (t : Decorated). t.text) (tokens_of ps)
    ∙ (ap (map (λ (t : Decorated). t.text)) (tokens_map o.policies) ∙ sym texts) in (
      f,
      is_accepted y f own.units own.split fitting
          (subst (λ z. G kind_of greatest_depth f z) leaves g),
    )

pub output_again : OutputIsItsOwn
output_again w i x y u o =
    let l = own_list w i x y u o in
    let h = output_list w i x y
    (record { tokens = map with_value (tokens_of o.policies); closing = o.list.closing }) u o l in
    record {
      accepted = output_accepted w i x y u o;
      list = record { tokens = map with_value (tokens_of o.policies); closing = o.list.closing };
      is_list = l;
      policies = map (part_map with_value) o.policies;
      grammar = grammar_of (map (part_map with_value) o.policies)
          (plain_list (map with_value (tokens_of o.policies))) (value_tree o.policies (trees_of o))
          (tokens_map o.policies ∙ sym (ap (λ (l : Listing). l.tokens) h.1));
      output = record {
        texts = o.output.texts;
        cleaned = value_texts w i o.policies o.output.texts o.output.cleaned;
        written = o.output.written;
      };
    }
