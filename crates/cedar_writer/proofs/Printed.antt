-- What is laid out of a text with one policy is its output, and has its tokens.
use Rattle.std.proofs.Common.{◌≡◌, ℕ, ℤ, List, [], ◌∷◌, ◌++◌, length, map, refl, ap, arith, sym, ◌∙◌, subst, append-nil}
use Rattle.std.specs.Prelude.{Result, Ok, Err, MatchResult}
use Rattle.std.specs.List.{AllByRecursion}
use Rattle.std.specs.Str.{IsUtf8}
use Rattle.std.proofs.lemmas.List.{take_all}
use Rattle.cedar_tokens.specs.Bytes.{line_feed}
use Rattle.cedar_tokens.specs.Listing.{Decorated, Listing, IsListing, listing, token_value}
use Rattle.cedar_tokens.specs.PlainList.{plain_list}
use Rattle.cedar_tokens.proofs.Scanning.{listing_unique}
use Rattle.cedar_layout.specs.Layout.{Doc}
use Rattle.cedar_grammar.specs.Laws.{AreTokens}
use Rattle.cedar_grammar.specs.Texts.{greatest_depth}
use Rattle.cedar_grammar.proofs.Texts.Grammars.{texts_are_tokens}
use Rattle.cedar_grammar.proofs.Texts.Listings.{listing_texts}
use Rattle.cedar_grammar.proofs.Trees.Relabelling.{map_map}
use Rattle.cedar_laws.specs.Output.{closing_text, tokens_of}
use Rattle.cedar_laws.specs.Fit.{PartFit}
use Rattle.cedar_laws.specs.Good.{IsGood}
use Rattle.cedar_laws.specs.Table.{part_table}
use Rattle.cedar_laws.proofs.GoodLists.{every_list_good, plain_list_good}
use Rattle.cedar_laws.proofs.Grammatical.{grammar_of, tree_fits, tree_of_accepted, plain_tree}
use Rattle.cedar_reading.specs.Lexemes.{AreLexemes}
use Rattle.cedar_reading.specs.declared.lexeme.Lexeme.{Lexeme}
use Rattle.cedar_reading.specs.Pieces.{IsFirstPiece}
use Rattle.cedar_reading.proofs.Lists.{piece_ends}
use Rattle.cedar_reading.specs.SameTokens.{HasTheTokens, value_of}
use Rattle.cedar_written.specs.Layout.{layout}
use Rattle.cedar_written.specs.Output.{IsOutputOf}
use Rattle.cedar_written.specs.Texts.{Accepted}
use Rattle.cedar_written.specs.Written.{Policy, PolicySet}
use Rattle.cedar_written.proofs.Canonical.{accepted_has_output, output_accepted, output_list}
use Rattle.cedar_written.proofs.Layouts.{layouts_agree}
use Rattle.cedar_written.proofs.Lists.{lists_agree, documents_are_unique, tables_are_documents}
use Rattle.cedar_written.proofs.Outputs.{accepted_agree}
use Rattle.cedar_grammar.specs.TypedTrees.{Clause, policy, part_yield}
use Rattle.cedar_tokens.proofs.Lists.{All-parts}
use Rattle.cedar_print.specs.Clean.{IsTheCleanLayoutAt}
use Rattle.cedar_print.specs.Laws.{SplitsByPieces}
use Rattle.cedar_print.specs.WrittenMarks.{Mark}
use Rattle.cedar_print.proofs.Cleaned.{clean_layouts_are_cleaned}
use Rattle.cedar_writer.proofs.Cutting.{policy_splits}
use Rattle.cedar_writer.specs.Outcomes.{IsOfTheGrammar}
use Rattle.cedar_writer.specs.Printed.{HasMarks, IsLaidOut, IsNotPolicy, IsNotPrinted, IsPolicyRead}
use Rattle.cedar_writer.specs.declared.printer.NotPrinted.{NotPrinted}
use Rattle.cedar_writer.specs.declared.printer.NotPrinted.TheVariants.{NotAccepted, Unsound, OutOfMemory}
use Rattle.cedar_writer.proofs.OnePolicy.{accepted_by, alone, count_plain, counted, only_policy, policy_of}

-- ---- marks

none_of : (us : List Decorated) → length us ≡ 0 → us ≡ []
none_of [] e = refl
none_of (u ∷ us) e = absurd (omega (arith, e))

-- where no token is left, all of them are the policy
pub all_read : (i : ℤ) (ts : List Decorated) (ms : List Mark) (left : ℕ) → left ≡ 0
    → IsOfTheGrammar i greatest_depth ts ms left → HasMarks i ts ms
all_read i ts ms left z (xs, us, d, s, l, m, p) = (
  d,
  subst (λ x. Policy i greatest_depth x d)
      (sym (s ∙ ap (λ x. xs ++ x) (none_of us (l ∙ z)) ∙ append-nil xs)) p,
  m,
)

-- a layout that was appended to an empty text, and fed
pub laid_out : (w : ℕ) (d : Doc) (bare out fed : List ℕ) → bare ≡ []
    → ((t : List ℕ) × IsTheCleanLayoutAt w d t × (out ≡ bare ++ t)) → fed ≡ out ++ (line_feed ∷ [])
    → (y : List ℕ) × IsTheCleanLayoutAt w d y × (fed ≡ y ++ (line_feed ∷ []))
laid_out w d bare out fed n (t, l, e) h =
    (t, l, h ∙ ap (λ z. z ++ (line_feed ∷ [])) (e ∙ ap (λ z. z ++ t) n))

-- ---- refusals

-- a text whose tokens are no policy is not accepted
pub not_accepted : (i : ℤ) (text : List ℕ) (l : Listing) (s : IsListing text l)
    → IsFirstPiece text (length text) → (e : NotPrinted) → IsNotPolicy i l.tokens e
    → IsNotPrinted text e
not_accepted i text l s p NotAccepted h = λ a. (let r = policy_of text l s p i a in h r.0 r.1)
not_accepted i text l s p Unsound h = h
not_accepted i text l s p OutOfMemory h = tt

-- ---- outputs

module _ (w : ℕ) (i : ℤ) (text : List ℕ) (utf8 : IsUtf8 text) (p : IsFirstPiece text (length text))
    (l : Listing) (s : IsListing text l) (a : Accepted text) where
  -- the output that the text has
  abbrev some : (y : List ℕ) × IsOutputOf w i text y
  some = accepted_has_output w i text utf8 a

  own_list : some.1.list ≡ l
  own_list = listing_unique text some.1.list l some.1.is_list s

  pub plain_written : PolicySet i greatest_depth (plain_list l.tokens) some.1.documents
  plain_written = subst (λ (z : Listing). PolicySet i greatest_depth (plain_list z.tokens)
      some.1.documents) own_list some.1.written

  pub plain_tokens : AreTokens (λ t. t.text) (plain_list l.tokens)
  plain_tokens =
      let t = (lists_agree i greatest_depth (plain_list l.tokens)).0
      (some.1.documents, plain_written) in
      texts_are_tokens (λ (t : Decorated). t.text) greatest_depth (plain_list l.tokens) t.0 t.1

  plain_twice : plain_list (plain_list l.tokens) ≡ plain_list l.tokens
  plain_twice =
      let t = tree_of_accepted text l ((accepted_agree text).1 a) s in
      subst (λ z. plain_list z ≡ z) t.2 (plain_tree t.0 t.1)

  -- so is one whose plain list is no policy
  pub plain_not_accepted : (ts : List Decorated) → ts ≡ plain_list l.tokens → (e : NotPrinted)
      → IsNotPolicy i ts e → IsNotPrinted text e
  plain_not_accepted ts k NotAccepted h =
      let o = only_policy i greatest_depth (plain_list l.tokens) some.1.documents plain_written
      (count_plain l.tokens ∙ counted text l s p) in
      absurd (h o.0 (subst (λ z. Policy i greatest_depth z o.0) (sym k) o.2))
  plain_not_accepted ts k Unsound h = h
  plain_not_accepted ts k OutOfMemory h = tt

  -- the layouts of the document of the plain list split by their pieces
  splits_by_pieces : (d : Doc) → Policy i greatest_depth (plain_list l.tokens) d → SplitsByPieces w d
  splits_by_pieces d k =
      let t = tree_of_accepted text l ((accepted_agree text).1 a) s in
      let tables = tables_are_documents i greatest_depth (plain_list l.tokens) t.0 plain_twice
      (grammar_of t.0 (plain_list l.tokens) t.1 t.2) in
      let e : map (part_table i) t.0 ≡ d ∷ [] =
      documents_are_unique i greatest_depth greatest_depth (plain_list l.tokens)
      (map (part_table i) t.0) (d ∷ []) plain_twice tables
      (alone i greatest_depth (plain_list l.tokens) d k) in
      let good = plain_list_good l.tokens (every_list_good text l utf8 s).0 in
      only t.0 e (tree_fits t.0 t.1) (subst (AllByRecursion IsGood) (sym t.2) good)
    where
      only : (ps : List (Clause Decorated policy)) → map (part_table i) ps ≡ d ∷ []
          → AllByRecursion PartFit ps → AllByRecursion IsGood (tokens_of ps) → SplitsByPieces w d
      only [] e f g = absurd cc
      only (q ∷ []) e f g = let same : part_table i q ≡ d = cc in subst (SplitsByPieces w) same
          (policy_splits w i q f.0 (All-parts IsGood (part_yield q) [] g).0)
      only (q ∷ (r ∷ rs)) e f g = absurd cc

  -- the document of the plain list, laid out without blank lines, and a line feed
  pub printed : (d : Doc) (y out : List ℕ) → Policy i greatest_depth (plain_list l.tokens) d
      → IsTheCleanLayoutAt w d y → out ≡ y ++ (line_feed ∷ []) → IsOutputOf w i text out
  printed d y out k c e =
      let clean = clean_layouts_are_cleaned w d (layout w d) y (splits_by_pieces d k)
      ((layouts_agree w d (layout w d)).1 refl) c in
      let closed = piece_ends text (length text) l p.piece (subst (λ z. IsListing z l)
      (sym (take_all (length text) text (omega arith))) s) in
      record {
        accepted = a;
        list = l;
        is_list = s;
        documents = d ∷ [];
        written = alone i greatest_depth (plain_list l.tokens) d k;
        texts = y ∷ [];
        cleaned = (clean, tt);
        output = e ∙ ap (λ z. y ++ (line_feed ∷ closing_text z)) (sym closed.0);
      }

  -- it has the tokens of the plain list
  pub has_them : (out : List ℕ) → IsOutputOf w i text out → HasTheTokens out (plain_list l.tokens)
  has_them out o =
      let b = output_accepted w i text out utf8 o in
      let m = listing b.units in
      let is_m : IsListing out m = record { units = b.units; split = b.split; value = refl } in
      let h = (output_list w i text out m utf8 o is_m).0 in
      let by : Decorated → Decorated =
      λ d. record { text = token_value d.text; leading = d.leading; trailing = d.trailing } in
      let text_of : Decorated → List ℕ = λ d. d.text in
      record {
        units = b.units;
        split = b.split;
        same = ap (map token_value) (sym (listing_texts b.units))
            ∙ map_map token_value text_of m.tokens
            ∙ sym (map_map text_of by m.tokens)
            ∙ ap (λ (z : Listing). map text_of z.tokens) h
            ∙ map_map text_of by (plain_list o.list.tokens)
            ∙ ap (λ (z : Listing). map value_of (plain_list z.tokens))
            (listing_unique text o.list l o.is_list s);
      }

-- ---- what is read

-- tokens that are the text's, and have no trailing comma
pub read_whole : (i : ℤ) (text : List ℕ) (l : Listing) (s : IsListing text l)
    → IsFirstPiece text (length text) → (ls : List Lexeme) → AreLexemes text ls
    → (ts : List Decorated) (ms : List Mark) → ts ≡ l.tokens → HasMarks i l.tokens ms
    → plain_list ts ≡ ts → IsPolicyRead i text ts ms
read_whole i text l s p ls x ts ms e m k = record {
  accepted = accepted_by text l s p i m.0 ls x m.1;
  list = l;
  is_list = s;
  plain = sym k ∙ ap plain_list e;
  marks = subst (λ z. HasMarks i z ms) (sym e) m;
}

-- tokens that are the text's without trailing commas
pub read_plain : {A : Type 0} (i : ℤ) (text : List ℕ) (utf8 : IsUtf8 text) (l : Listing)
    (s : IsListing text l) → IsFirstPiece text (length text) → Accepted text
    → (ts us : List Decorated) (ms : List Mark) → us ≡ plain_list l.tokens → ts ≡ us
    → (r : Result A NotPrinted) → MatchResult r (λ _. HasMarks i us ms) (IsNotPolicy i us)
    → MatchResult r (λ _. IsPolicyRead i text ts ms) (IsNotPrinted text)
read_plain i text utf8 l s p a ts us ms k e (Ok x) m = record {
  accepted = a;
  list = l;
  is_list = s;
  plain = e ∙ k;
  marks = subst (λ z. HasMarks i z ms) (sym e) m;
}
read_plain i text utf8 l s p a ts us ms k e (Err x) m =
    plain_not_accepted 0 i text utf8 p l s a us k x m

-- what was read of a text, laid out
module _ (w : ℕ) (i : ℤ) (text : List ℕ) (utf8 : IsUtf8 text) (p : IsFirstPiece text (length text))
    (ts : List Decorated) (ms : List Mark) (r : IsPolicyRead i text ts ms) (out : List ℕ)
    (h : IsLaidOut w ms out) where
  pub output_of : IsOutputOf w i text out
  output_of =
      let m = r.marks in
      let x = h m.0 m.2 in
      printed w i text utf8 p r.list r.is_list r.accepted m.0 x.0 out
      (subst (λ z. Policy i greatest_depth z m.0) r.plain m.1) x.1 x.2

  pub has_tokens_read : HasTheTokens out ts
  has_tokens_read = subst (HasTheTokens out) (sym r.plain)
      (has_them w i text utf8 p r.list r.is_list r.accepted out output_of)
