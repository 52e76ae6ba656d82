-- Outputs of trees and of texts.
use Rattle.std.proofs.Common.{◌≡◌, ℕ, ℤ, List, [], ◌∷◌, ◌++◌, map, refl, ap, sym, ◌∙◌, subst, append_assoc}
use Rattle.std.specs.List.{AllByRecursion}
use Rattle.std.specs.Str.{IsUtf8}
use Rattle.cedar_layout.specs.Layout.{Doc, text_of_choice, IsTheLayoutAt}
use Rattle.cedar_layout.proofs.Rule.{laid_is_the_layout}
use Rattle.cedar_tokens.specs.Bytes.{line_feed, space_character}
use Rattle.cedar_tokens.specs.Listing.{Decorated, Listing, IsListing, listing, EqualByValue, by_value}
use Rattle.cedar_tokens.specs.PlainList.{plain_list}
use Rattle.cedar_tokens.proofs.Scanning.{listing_unique}
use Rattle.cedar_grammar.specs.TypedTrees.{Clause, policy, part_yield}
use Rattle.cedar_laws.specs.Leaves.{part_map}
use Rattle.cedar_laws.specs.Table.{part_table}
use Rattle.cedar_laws.specs.Good.{IsGood}
use Rattle.cedar_layout.specs.Cleaning.{IsCleaned}
use Rattle.cedar_laws.specs.Output.{paragraphs, closing_text, PolicyTexts, IsOutput, IsSomeLayout, with_value, tokens_of}
use Rattle.cedar_laws.specs.Canonical.{DocumentsGoByValue, OutputExists, OutputsGoByValue, OutputEndsInLineFeed, PolicyHasNoBlankLine, plain_listing, IsOutputOf, TextsReadBack, AcceptedHasOutput, OutputHasTheList, OutputsTellLists, OutputHasTheTrees}
use Rattle.cedar_laws.proofs.Values.{values_equal}
use Rattle.cedar_laws.proofs.ByValue.{part_table_value, tokens_map}
use Rattle.cedar_laws.specs.GrammarTrees.{IsTree}
use Rattle.cedar_laws.proofs.Grammatical.{one_tree, value_tree, plain_tree, tree_fits, accepted_has_tree, trees_of, leaves_of, grammar_of}
use Rattle.cedar_laws.proofs.Cutting.{cleaned_once, cleaned_exists}
use Rattle.cedar_laws.proofs.CleanedTexts.{clean_units, clean_has_no_blank_line}
use Rattle.cedar_laws.proofs.GoodLists.{every_list_good, plain_list_good}
use Rattle.cedar_laws.proofs.PrintedPolicies.{law_of_gaps}
use Rattle.cedar_laws.proofs.ReadBack.{spelled_reads}
use Rattle.cedar_laws.proofs.Encoded.{spelled_utf8}
use Rattle.cedar_laws.proofs.Assembled.{reads_back}

-- ---- outputs of trees

pub documents_by_value : DocumentsGoByValue
documents_by_value i p q e =
    sym (part_table_value i p) ∙ (ap (part_table i) e ∙ part_table_value i q)

texts_exist : (w : ℕ) (i : ℤ) (ps : List (Clause Decorated policy))
    → (ts : List (List ℕ)) × PolicyTexts (IsTheLayoutAt w) i ps ts
texts_exist w i [] = ([], tt)
texts_exist w i (p ∷ ps) =
    let r = texts_exist w i ps in
    let s = text_of w (part_table i p) in
    let c = cleaned_exists s.0 in
    (c.0 ∷ r.0, ((s.0, s.1, c.1), r.1))
  where
    text_of : (w : ℕ) (d : Doc) → (s : List ℕ) × IsTheLayoutAt w d s
    text_of w d = (_, laid_is_the_layout w d)

pub output_exists : OutputExists
output_exists w i ps cs = let t = texts_exist w i ps in (
  paragraphs t.0 ++ (line_feed ∷ closing_text cs),
  record { texts = t.0; cleaned = t.1; written = refl },
)

pub text_once : (w : ℕ) (d e : Doc) (s t x y : List ℕ) → d ≡ e → IsTheLayoutAt w d s
    → IsTheLayoutAt w e t → IsCleaned s x → IsCleaned t y → x ≡ y
text_once w d e s t x y q a b c f =
    let same : t ≡ s = a.1 t (subst (λ z. IsTheLayoutAt w z t) (sym q) b).0 in
    cleaned_once s x y c (subst (λ z. IsCleaned z y) same f)

texts_once : (w : ℕ) (i : ℤ) (ps qs : List (Clause Decorated policy)) (ts us : List (List ℕ))
    → map (part_map with_value) ps ≡ map (part_map with_value) qs
    → PolicyTexts (IsTheLayoutAt w) i ps ts → PolicyTexts (IsTheLayoutAt w) i qs us → ts ≡ us
texts_once w i [] [] [] [] e a b = refl
texts_once w i [] [] (t ∷ ts) us e a b = absurd a
texts_once w i [] [] [] (u ∷ us) e a b = absurd b
texts_once w i [] (q ∷ qs) ts us e a b = absurd cc
texts_once w i (p ∷ ps) [] ts us e a b = absurd cc
texts_once w i (p ∷ ps) (q ∷ qs) [] us e a b = absurd a
texts_once w i (p ∷ ps) (q ∷ qs) (t ∷ ts) [] e a b = absurd b
texts_once w i (p ∷ ps) (q ∷ qs) (t ∷ ts) (u ∷ us) e a b =
    let f : part_map with_value p ≡ part_map with_value q = cc in
    let g : map (part_map with_value) ps ≡ map (part_map with_value) qs = cc in
    let x = text_once w (part_table i p) (part_table i q) a.0.0 b.0.0 t u
    (documents_by_value i p q f) a.0.1 b.0.1 a.0.2 b.0.2 in
    let y = texts_once w i ps qs ts us g a.1 b.1 in
    cc

pub outputs_by_value : OutputsGoByValue
outputs_by_value w i ps qs cs x y e a b =
    a.written ∙ (ap (λ z. paragraphs z ++ (line_feed ∷ closing_text cs))
    (texts_once w i ps qs a.texts b.texts e a.cleaned b.cleaned) ∙ sym b.written)

ends_in_feed : (cs : List (List ℕ)) → (front : List ℕ)
    × (line_feed ∷ closing_text cs ≡ front ++ (line_feed ∷ []))
ends_in_feed [] = ([], refl)
ends_in_feed (c ∷ cs) =
    let r = ends_in_feed cs in (
      line_feed ∷ (c ++ r.0),
      ap (λ z. line_feed ∷ z) (ap (λ z. c ++ z) r.1
          ∙ sym (append_assoc c r.0 (line_feed ∷ []))),
    )

pub output_ends : OutputEndsInLineFeed
output_ends w i ps cs y o = let r = ends_in_feed cs in (
  paragraphs o.texts ++ r.0,
  o.written ∙ (ap (λ z. paragraphs o.texts ++ z) r.1
      ∙ sym (append_assoc (paragraphs o.texts) r.0 (line_feed ∷ []))),
)

pub policy_lines : PolicyHasNoBlankLine
policy_lines i p c t f g k =
    let s = law_of_gaps i p c f in
    let l = spelled_reads space_character (part_yield p) (text_of_choice (part_table i p) c) s g in
    let u = spelled_utf8 s g in
    let m = clean_units (text_of_choice (part_table i p) c) t l.units u l.split k in
    let n = clean_has_no_blank_line (text_of_choice (part_table i p) c) t m.units u
    (l.units, l.split) k m.split in
    (m.units, m.split, n.0, n.1)

-- ---- outputs of texts

some_texts : (w : ℕ) (i : ℤ) (ps : List (Clause Decorated policy)) (ts : List (List ℕ))
    → PolicyTexts (IsTheLayoutAt w) i ps ts → PolicyTexts IsSomeLayout i ps ts
some_texts w i [] [] a = tt
some_texts w i [] (t ∷ ts) a = absurd a
some_texts w i (p ∷ ps) [] a = absurd a
some_texts w i (p ∷ ps) (t ∷ ts) a =
    ((a.0.0, (a.0.1.0.0, a.0.1.0.2), a.0.2), some_texts w i ps ts a.1)

some_output : (w : ℕ) (i : ℤ) (ps : List (Clause Decorated policy)) (cs : List (List ℕ))
    (y : List ℕ) → IsOutput (IsTheLayoutAt w) i ps cs y → IsOutput IsSomeLayout i ps cs y
some_output w i ps cs y o =
    record { texts = o.texts; cleaned = some_texts w i ps o.texts o.cleaned; written = o.written }

pub texts_read_back : TextsReadBack
texts_read_back i x l ps output u a t e o =
    let f = tree_fits ps t in
    let g = every_list_good x l u a in
    subst (λ z. IsListing output (record { tokens = map with_value z; closing = l.closing })) e
    (reads_back i ps l.closing output f
    (subst (λ z. AllByRecursion IsGood z) (sym e) (plain_list_good l.tokens g.0)) g.1 o)

-- an output's decorated list
pub own_list : (w : ℕ) (i : ℤ) (x y : List ℕ) → IsUtf8 x → (o : IsOutputOf w i x y) → IsListing y
    (record { tokens = map with_value (tokens_of o.policies); closing = o.list.closing })
own_list w i x y u o =
    subst (λ z. IsListing y (record { tokens = map with_value z; closing = o.list.closing }))
    (sym (leaves_of o))
    (texts_read_back i x o.list o.policies y u o.is_list (trees_of o) (leaves_of o)
    (some_output w i o.policies o.list.closing y o.output))

-- trees with the same leaves by value are the same by value
same_trees : (ps qs : List (Clause Decorated policy)) → IsTree ps → IsTree qs
    → map with_value (tokens_of ps) ≡ map with_value (tokens_of qs)
    → map (part_map with_value) ps ≡ map (part_map with_value) qs
same_trees ps qs a b e = one_tree (map (part_map with_value) ps) (map (part_map with_value) qs)
    (value_tree ps a) (value_tree qs b) (tokens_map ps ∙ (e ∙ sym (tokens_map qs)))

pub output_list : OutputHasTheList
output_list w i x y m u o l =
    let e = listing_unique y m
    (record { tokens = map with_value (tokens_of o.policies); closing = o.list.closing }) l
    (own_list w i x y u o) in
    let p =
    plain_tree (map (part_map with_value) o.policies) (value_tree o.policies (trees_of o)) in
    let t = tokens_map o.policies in
    let q : plain_list (map with_value (tokens_of o.policies))
    ≡ map with_value (tokens_of o.policies) = ap plain_list (sym t) ∙ (p ∙ t) in (
      ap by_value e ∙ (values_equal (tokens_of o.policies) o.list.closing
          ∙ ap (λ z. by_value (record { tokens = z; closing = o.list.closing })) (leaves_of o)),
      ap plain_listing e ∙ (ap (λ z. record { tokens = z; closing = o.list.closing }) q ∙ sym e),
    )

pub outputs_tell : OutputsTellLists
outputs_tell w i x1 x2 y1 y2 u v a b = (there, back)
  where
    there : y1 ≡ y2 → EqualByValue (plain_listing a.list) (plain_listing b.list)
    there e =
        let f = listing_unique y2
        (record { tokens = map with_value (tokens_of a.policies); closing = a.list.closing })
        (record { tokens = map with_value (tokens_of b.policies); closing = b.list.closing })
        (subst (λ z. IsListing z
        (record { tokens = map with_value (tokens_of a.policies); closing = a.list.closing })) e
        (own_list w i x1 y1 u a)) (own_list w i x2 y2 v b) in
        ap (λ z. record { tokens = map with_value z; closing = a.list.closing }) (sym (leaves_of a))
        ∙ (f
        ∙ ap (λ z. record { tokens = map with_value z; closing = b.list.closing }) (leaves_of b))

    back : EqualByValue (plain_listing a.list) (plain_listing b.list) → y1 ≡ y2
    back e =
        let t : map with_value (tokens_of a.policies) ≡ map with_value (tokens_of b.policies) =
        ap (map with_value) (leaves_of a)
        ∙ (ap (λ (l : Listing). l.tokens) e ∙ ap (map with_value) (sym (leaves_of b))) in
        let c : a.list.closing ≡ b.list.closing = ap (λ (l : Listing). l.closing) e in
        outputs_by_value w i a.policies b.policies b.list.closing y1 y2
        (same_trees a.policies b.policies (trees_of a) (trees_of b) t)
        (subst (λ z. IsOutput (IsTheLayoutAt w) i a.policies z y1) c a.output) b.output

-- trees without leading zeros have the same texts
pub value_texts : (w : ℕ) (i : ℤ) (ps : List (Clause Decorated policy)) (ts : List (List ℕ))
    → PolicyTexts (IsTheLayoutAt w) i ps ts
    → PolicyTexts (IsTheLayoutAt w) i (map (part_map with_value) ps) ts
value_texts w i [] [] a = tt
value_texts w i [] (t ∷ ts) a = absurd a
value_texts w i (p ∷ ps) [] a = absurd a
value_texts w i (p ∷ ps) (t ∷ ts) a = (
  (a.0.0, subst (λ z. IsTheLayoutAt w z a.0.0) (sym (part_table_value i p)) a.0.1, a.0.2),
  value_texts w i ps ts a.1,
)

-- an accepted text has an output
pub accepted_has_output : AcceptedHasOutput
accepted_has_output w i x u a =
    let s : IsListing x (listing a.1.units) =
    record { units = a.1.units; split = a.1.split; value = refl } in
    let t = accepted_has_tree x (listing a.1.units) u a s in
    let o = output_exists w i t.0 (listing a.1.units).closing in (
      o.0,
      record {
        accepted = a;
        list = listing a.1.units;
        is_list = s;
        policies = t.0;
        grammar = grammar_of t.0 (plain_list (listing a.1.units).tokens) t.1 t.2;
        output = o.1;
      },
    )

-- the trees of an output
pub output_trees : OutputHasTheTrees
output_trees w v i j x y z u o p =
    let l = own_list w i x y u o in
    let e = listing_unique y p.list
    (record { tokens = map with_value (tokens_of o.policies); closing = o.list.closing })
    p.is_list l in
    let h = output_list w i x y p.list u o p.is_list in
    one_tree p.policies (map (part_map with_value) o.policies) (trees_of p)
    (value_tree o.policies (trees_of o))
    ((leaves_of p) ∙ (ap (λ (m : Listing). m.tokens) (h.1 ∙ e) ∙ sym (tokens_map o.policies)))
