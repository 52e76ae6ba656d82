-- Accepted texts, refusals and outputs are those of the grammar of trees and the table.
use Rattle.std.proofs.Common.{◌≡◌, ◌↔◌, ℕ, ℤ, Bool, true, false, List, [], ◌∷◌, ◌++◌, map, sym, subst}
use Rattle.std.specs.List.{AllByRecursion, AllZip, filter}
use Rattle.std.specs.Str.{IsUtf8}
use Rattle.cedar_tokens.specs.Units.{is_token}
use Rattle.cedar_tokens.specs.Listing.{Decorated, Listing, IsListing}
use Rattle.cedar_tokens.specs.PlainList.{plain_list}
use Rattle.cedar_tokens.specs.Split.{Splits, SplitsInto}
use Rattle.cedar_tokens.proofs.Lists.{All-parts}
use Rattle.cedar_tokens.proofs.Scanning.{listing_unique}
use Rattle.cedar_layout.specs.Layout.{IsTheLayoutAt}
use Rattle.cedar_layout.specs.Cleaning.{IsCleaned as IsCleanedByPieces}
use Rattle.cedar_grammar.specs.Beginnings as trees
use Rattle.cedar_grammar.specs.Texts.{greatest_depth}
use Rattle.cedar_grammar.specs.Texts as trees_texts
use Rattle.cedar_grammar.specs.TypedTrees.{Clause, policy, part_yield}
use Rattle.cedar_grammar.specs.declared.error.FormatError.TheVariants as E
use Rattle.cedar_grammar.specs.Refusals.{Refuses as RefusesByTrees}
use Rattle.cedar_grammar.proofs.Memory.{memory_map}
use Rattle.cedar_laws.specs.Table.{part_table}
use Rattle.cedar_laws.specs.Fit.{PartFit}
use Rattle.cedar_laws.specs.Good.{IsGood}
use Rattle.cedar_laws.specs.Output.{PolicyTexts, with_value, tokens_of}
use Rattle.cedar_laws.specs.Canonical as trees_outputs
use Rattle.cedar_laws.proofs.Assembled.{raw_reads_back}
use Rattle.cedar_laws.proofs.CanonicalForm.{own_list}
use Rattle.cedar_laws.proofs.Encoded.{value_utf8}
use Rattle.cedar_laws.proofs.GoodLists.{every_list_good, plain_list_good}
use Rattle.cedar_laws.proofs.Grammatical.{tree_of_accepted, plain_tree, leaves_of, trees_of, tree_fits}
use Rattle.cedar_laws.proofs.Listed.{value_token}
use Rattle.cedar_written.specs.Cleaning.{IsCleaned}
use Rattle.cedar_written.specs.Layout.{layout}
use Rattle.cedar_written.specs.Texts.{Begins, LeaveAfter}
use Rattle.cedar_written.specs.Refusals.{Refuses}
use Rattle.cedar_written.specs.Output.{IsOutputOf}
use Rattle.cedar_written.specs.Laws.{AcceptedAgree, LeavesAgree, RefusalsAgree, ErrorsAgree, TableOutputsAreOutputs, OutputsAreTheTables}
use Rattle.cedar_written.proofs.Cleaning.{cleanings_agree}
use Rattle.cedar_written.proofs.Layouts.{layout_at, layouts_agree}
use Rattle.cedar_written.proofs.Lists.{grammars_agree_in_texts, documents_are_the_tables, tables_are_documents}

-- ---- accepted texts, and where a text leaves the grammar

begins_agree : (n : ℕ) (front : List (List ℕ)) → trees.Begins n front ↔ Begins n front
begins_agree n front = (
  λ b. (b.rest, (grammars_agree_in_texts n (front ++ b.rest)).1 (b.tree, b.grammar)),
  λ (rest, w). (let r = (grammars_agree_in_texts n (front ++ rest)).0 w in
      record { rest = rest; tree = r.0; grammar = r.1 }),
)

pub accepted_agree : AcceptedAgree
accepted_agree x = (
  λ (f, a). record {
    units = a.units;
    split = a.split;
    fitting = a.fitting;
    grammar = (grammars_agree_in_texts greatest_depth (filter is_token a.units)).1 (f, a.grammar);
  },
  λ a. (let r = (grammars_agree_in_texts greatest_depth (filter is_token a.units)).0 a.grammar in
      (r.0, record { units = a.units; split = a.split; fitting = a.fitting; grammar = r.1 })),
)

leave_agree : (front after : List (List ℕ)) (deep : Bool)
    → trees_texts.LeaveAfter front after deep ↔ LeaveAfter front after deep
leave_agree front [] deep =
    let g = grammars_agree_in_texts greatest_depth front in (
      λ h. (λ w. (let r = g.0 w in h.0 r.0 r.1), h.1),
      λ h. (λ f y. h.0 (g.1 (f, y)), h.1),
    )
leave_agree front (u ∷ us) deep =
    let b = begins_agree greatest_depth (front ++ (u ∷ [])) in (
      λ h. (
        h.0,
        λ w. h.1 (b.1 w),
        (
          λ t. (let r = h.2.0 t in (r.0, (begins_agree r.0 (front ++ (u ∷ []))).0 r.1)),
          λ r. h.2.1 (r.0, (begins_agree r.0 (front ++ (u ∷ []))).1 r.1),
        ),
      ),
      λ h. (
        h.0,
        λ w. h.1 (b.0 w),
        (
          λ t. (let r = h.2.0 t in (r.0, (begins_agree r.0 (front ++ (u ∷ []))).1 r.1)),
          λ r. h.2.1 (r.0, (begins_agree r.0 (front ++ (u ∷ []))).0 r.1),
        ),
      ),
    )

pub leaves_agree : LeavesAgree
leaves_agree x at deep = (
  λ o. record {
    before = o.before;
    after = o.after;
    split = o.split;
    fitting = o.fitting;
    place = o.place;
    begins = (begins_agree greatest_depth (filter is_token o.before)).0 o.begins;
    leaves = (leave_agree (filter is_token o.before) o.after deep).0 o.leaves;
  },
  λ o. record {
    before = o.before;
    after = o.after;
    split = o.split;
    fitting = o.fitting;
    place = o.place;
    begins = (begins_agree greatest_depth (filter is_token o.before)).1 o.begins;
    leaves = (leave_agree (filter is_token o.before) o.after deep).1 o.leaves;
  },
)

pub refusals_agree : RefusalsAgree
refusals_agree x (E.Grammar at) = leaves_agree x at false
refusals_agree x (E.TooDeep at) = leaves_agree x at true
refusals_agree x (E.UnknownCharacter at) = (λ h. h, λ h. h)
refusals_agree x (E.UnfinishedString at) = (λ h. h, λ h. h)
refusals_agree x (E.NumberTooLarge at) = (λ h. h, λ h. h)
refusals_agree x E.OutOfMemory = (λ h. h, λ h. h)
refusals_agree x E.Unsound = (λ h. h, λ h. h)
refusals_agree x E.NoDocument = (λ h. h, λ h. h)

pub errors_agree : ErrorsAgree
errors_agree x e = (
  memory_map (RefusesByTrees x) (Refuses x) (λ e h. (refusals_agree x e).0 h) e,
  memory_map (Refuses x) (RefusesByTrees x) (λ e h. (refusals_agree x e).1 h) e,
)

-- ---- outputs

-- the plain list of an accepted text has no trailing comma
plain_twice : (x : List ℕ) (l : Listing) → trees_texts.Accepted x → IsListing x l
    → plain_list (plain_list l.tokens) ≡ plain_list l.tokens
plain_twice x l a s =
    let t = tree_of_accepted x l a s in subst (λ z. plain_list z ≡ z) t.2 (plain_tree t.0 t.1)

-- the tokens of every list of the text have the comments of a real text
abbrev pub HasGoodLists : List ℕ → Type 0
HasGoodLists x = (l : Listing) → IsListing x l → AllByRecursion IsGood l.tokens

good_lists : (x : List ℕ) → IsUtf8 x → HasGoodLists x
good_lists x u l s = (every_list_good x l u s).0

good_value : (t : Decorated) → IsGood t → IsGood (with_value t)
good_value t g = record {
  token = value_token t.text g.token;
  utf8 = value_utf8 t.text g.utf8;
  leading = g.leading;
  trailing = g.trailing;
}

good_values : (ts : List Decorated) → AllByRecursion IsGood ts
    → AllByRecursion IsGood (map with_value ts)
good_values [] a = tt
good_values (t ∷ ts) a = (good_value t a.0, good_values ts a.1)

good_leaves : {w : ℕ} {i : ℤ} {x y : List ℕ} → HasGoodLists x
    → (o : trees_outputs.IsOutputOf w i x y) → AllByRecursion IsGood (tokens_of o.policies)
good_leaves g o = subst (AllByRecursion IsGood) (sym (leaves_of o))
    (plain_list_good o.list.tokens (g o.list o.is_list))

-- and so have those of an output
pub good_output : (w : ℕ) (i : ℤ) (x y : List ℕ) → IsUtf8 x → trees_outputs.IsOutputOf w i x y
    → HasGoodLists y
good_output w i x y u o l s = subst (λ (z : Listing). AllByRecursion IsGood z.tokens)
    (listing_unique y (record {
      tokens = map with_value (tokens_of o.policies);
      closing = o.list.closing;
    }) l (own_list w i x y u o) s)
    (good_values (tokens_of o.policies) (good_leaves (good_lists x u) o))

-- the layout of a policy splits
layout_splits : (w : ℕ) (i : ℤ) (p : Clause Decorated policy) → PartFit p
    → AllByRecursion IsGood (part_yield p) → Splits (layout w (part_table i p))
layout_splits w i p f g =
    let laid = layout_at w (part_table i p) in
    let back = raw_reads_back i p laid.0.0 f g in
    (back.units, subst (λ z. SplitsInto z back.units) (sym laid.0.2) back.split)

texts_there : (w : ℕ) (i : ℤ) (ps : List (Clause Decorated policy)) (ts : List (List ℕ))
    → AllByRecursion PartFit ps → AllByRecursion IsGood (tokens_of ps)
    → PolicyTexts (IsTheLayoutAt w) i ps ts
    → AllZip (λ d t. IsCleaned (layout w d) t) (map (part_table i) ps) ts
texts_there w i [] [] f g a = tt
texts_there w i [] (t ∷ ts) f g a = absurd a
texts_there w i (p ∷ ps) [] f g a = absurd a
texts_there w i (p ∷ ps) (t ∷ ts) f g a =
    let parts = All-parts IsGood (part_yield p) (tokens_of ps) g in (
      (cleanings_agree (layout w (part_table i p)) t (layout_splits w i p f.0 parts.0)).0
          (subst (λ z. IsCleanedByPieces z t) ((layouts_agree w (part_table i p) a.0.0).0 a.0.1) a.0.2),
      texts_there w i ps ts f.1 parts.1 a.1,
    )

texts_back : (w : ℕ) (i : ℤ) (ps : List (Clause Decorated policy)) (ts : List (List ℕ))
    → AllZip (λ d t. IsCleaned (layout w d) t) (map (part_table i) ps) ts
    → PolicyTexts (IsTheLayoutAt w) i ps ts
texts_back w i [] [] a = tt
texts_back w i [] (t ∷ ts) a = absurd a
texts_back w i (p ∷ ps) [] a = absurd a
texts_back w i (p ∷ ps) (t ∷ ts) a = (
  (
    layout w (part_table i p),
    layout_at w (part_table i p),
    (cleanings_agree (layout w (part_table i p)) t (a.0.units, a.0.split)).1 a.0,
  ),
  texts_back w i ps ts a.1,
)

pub written_output : (w : ℕ) (i : ℤ) (x y : List ℕ) → HasGoodLists x
    → trees_outputs.IsOutputOf w i x y → IsOutputOf w i x y
written_output w i x y g o = record {
  accepted = (accepted_agree x).0 o.accepted;
  list = o.list;
  is_list = o.is_list;
  documents = map (part_table i) o.policies;
  written = tables_are_documents i greatest_depth (plain_list o.list.tokens) o.policies
      (plain_twice x o.list o.accepted o.is_list) o.grammar;
  texts = o.output.texts;
  cleaned = texts_there w i o.policies o.output.texts (tree_fits o.policies (trees_of o))
      (good_leaves g o) o.output.cleaned;
  output = o.output.written;
}

pub table_outputs_are_outputs : TableOutputsAreOutputs
table_outputs_are_outputs w i x y u o = written_output w i x y (good_lists x u) o

pub outputs_are_the_tables : OutputsAreTheTables
outputs_are_the_tables w i x y o =
    let a = (accepted_agree x).1 o.accepted in
    let q = documents_are_the_tables i greatest_depth (plain_list o.list.tokens) o.documents
    (plain_twice x o.list a o.is_list) o.written in
    record {
      accepted = a;
      list = o.list;
      is_list = o.is_list;
      policies = q.0;
      grammar = q.1;
      output = record {
        texts = o.texts;
        cleaned = texts_back w i q.0 o.texts
            (subst (λ z. AllZip (λ d t. IsCleaned (layout w d) t) z o.texts) q.2 o.cleaned);
        written = o.output;
      };
    }
