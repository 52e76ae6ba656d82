-- Policies of two consecutive parts of a text, and how many policies a part has.
use Rattle.std.specs.Prelude.{◌≡◌, ℕ, ◌+◌, ◌||◌, Bool, true, false, List, [], ◌∷◌, ◌++◌, length, take, drop, codes, Option, Some, if◌then◌else◌}
use Rattle.std.specs.List.{list_any, sum_by}
use Rattle.std.proofs.Common.{refl, sym, ap, ◌∙◌, arith, inl, inr, subst, append-nil, append_assoc}
use Rattle.std.proofs.lemmas.List.Elements.{filter-append}
use Rattle.std.proofs.lemmas.List.Folds.{list_any-append}
use Rattle.std.proofs.lemmas.List.Sums.{sum_by-cons}
use Rattle.cedar_tokens.specs.Units.{is_token, slots, punctuators, keywords}
use Rattle.cedar_tokens.specs.Split.{SplitsInto}
use Rattle.cedar_tokens.specs.Places.{token_spans}
use Rattle.cedar_tokens.specs.declared.token.Span.{Span}
use Rattle.cedar_tokens.proofs.Scanning.{empty_begins_none, split_unique}
use Rattle.cedar_tokens.proofs.UnitsSoFar.{units_length}
use Rattle.cedar_tokens.specs.declared.kind.Kind.TheVariants as K
use Rattle.cedar_tokens.specs.Kinds.{is}
use Rattle.cedar_grammar.specs.Trees.{Label, Forest, none, leaf, branch, join, yield}
use Rattle.cedar_grammar.specs.Languages.{Many, no_more, one_more}
use Rattle.cedar_grammar.specs.KindGrammar.{G, Policy}
use Rattle.cedar_grammar.specs.Numbers.{is_too_large}
use Rattle.cedar_grammar.specs.Placed.{Placed, with_places, kind_of_placed}
use Rattle.cedar_tokens.specs.TokenKinds.{kind_of}
use Rattle.cedar_grammar.specs.TrailingCommas.{without_trailing}
use Rattle.cedar_grammar.specs.Texts.{greatest_depth, only_tokens, Accepted}
use Rattle.cedar_grammar.proofs.Texts.Placed.{tree_by_kinds, tree_by_texts}
use Rattle.cedar_grammar.proofs.Plain.ByTexts.{plain_same}
use Rattle.cedar_grammar.proofs.Texts.Accepted.{is_accepted}
use Rattle.cedar_grammar.proofs.Readers.Languages.{yield_join}
use Rattle.cedar_grammar.proofs.Readers.Equations.{join_assoc}
use Rattle.cedar_grammar.proofs.Rules.Maps.{relabel}
use Rattle.cedar_grammar.proofs.Trees.Relabelling.{relabelled}
use Rattle.cedar_grammar.proofs.Trees.Laws.{list_has_one_tree}
use Rattle.cedar_grammar.specs.declared.tree.Node.{Node}
use Rattle.cedar_grammar.specs.declared.tree.Policy as Tree
use Rattle.cedar_grammar.specs.Erased.{Erased, variant, policy_parts, policy_trees}
use Rattle.cedar_grammar.specs.NodeTrees.{spanned}
use Rattle.cedar_grammar.proofs.NodeLaws.{placed_texts}
use Rattle.cedar_reading.proofs.Parsing.{spans_length}
use Rattle.cedar_reading.specs.Pieces.{IsPiece, is_semicolon}
use Rattle.cedar_reading.proofs.Prefixes.{units_of}
use Rattle.cedar_reading.proofs.Lists.{piece_splits, piece_units}
use Rattle.cedar_reading.proofs.PieceRefusals.{no_tokens, piece_tokens, no_kind}
use Rattle.cedar_reading.proofs.Sequences.{list_parts, no_policies, one_policy}
use Rattle.cedar_cst.specs.Inside.Parts.{placed_from, HasPoliciesFrom}
use Rattle.cedar_cst.specs.PolicyReaders.{EndsPiece, HasPolicies, AnsweredComeFirst}

-- ---- places

spans_join : (from : ℕ) (us vs : List (List ℕ))
    → token_spans from (us ++ vs) ≡ token_spans from us ++ token_spans (from + sum_by length us) vs
unfolding token_spans
spans_join from [] vs = ap (λ k. token_spans k vs) (omega arith)
spans_join from (u ∷ us) vs = go (is_token u) (spans_join (from + length u) us vs ∙ ap (λ k.
    token_spans (from + length u) us ++ token_spans k vs) (omega (arith, sum_by-cons length u us)))
  where
    go : (b : Bool) → token_spans (from + length u) (us ++ vs)
        ≡ token_spans (from + length u) us ++ token_spans (from + sum_by length (u ∷ us)) vs
        → (if b then record { start = from; end = from + length u }
        ∷ token_spans (from + length u) (us ++ vs) else token_spans (from + length u) (us ++ vs))
        ≡ (if b then record { start = from; end = from + length u } ∷ token_spans (from + length u)
        us else token_spans (from + length u) us) ++ token_spans (from + sum_by length (u ∷ us)) vs
    go true e = ap (λ z. record { start = from; end = from + length u } ∷ z) e
    go false e = e

places_join : (ts us : List (List ℕ)) (ss rs : List Span) → length ss ≡ length ts
    → with_places (ts ++ us) (ss ++ rs) ≡ with_places ts ss ++ with_places us rs
places_join [] us [] rs e = refl
places_join [] us (s ∷ ss) rs e = absurd (omega (arith, e))
places_join (t ∷ ts) us [] rs e = absurd (omega (arith, e))
places_join (t ∷ ts) us (s ∷ ss) rs e =
    ap (λ z. record { text = t; span = s } ∷ z) (places_join ts us ss rs (omega (arith, e)))

-- the tokens of units, then those of the units after them
placed_join : (from : ℕ) (us vs : List (List ℕ))
    → placed_from from (us ++ vs) ≡ placed_from from us ++ placed_from (from + sum_by length us) vs
placed_join from us vs =
    ap (λ z. with_places z (token_spans from (us ++ vs))) (filter-append is_token us vs)
    ∙ (ap (with_places (only_tokens us ++ only_tokens vs)) (spans_join from us vs)
    ∙ places_join (only_tokens us) (only_tokens vs) (token_spans from us)
    (token_spans (from + sum_by length us) vs) (spans_length from us))

-- ---- trees

-- the nodes of a row of trees
abbrev spans : Forest Label Placed → Erased
spans f = spanned (λ t. t.text) (λ t. t.span) f

abbrev row_nodes : Forest Label Placed → Erased
row_nodes f = spans (without_trailing kind_of_placed f)

abbrev Row : Forest Label Placed → Type 0
Row f = Many (Policy kind_of_placed greatest_depth) f

rows_join : (f g : Forest Label Placed) → Row f → Row g → Row (join f g)
rows_join f g (no_more i e) n = subst Row (sym (ap (λ z. join z g) e)) n
rows_join f g (one_more i u v e x m) n =
    one_more (join f g) u (join v g) (ap (λ z. join z g) e ∙ join_assoc u v g) x (rows_join v g m n)

nodes_join : (f g : Forest Label Placed) → Row f
    → row_nodes (join f g) ≡ join (row_nodes f) (row_nodes g)
nodes_join f g (no_more i e) =
    ap (λ z. row_nodes (join z g)) e ∙ sym (ap (λ z. join (row_nodes z) (row_nodes g)) e)
nodes_join f g (one_more i u v e (x, k, y) m) =
    let same : f ≡ branch Label.policy x v = e ∙ ap (λ z. join z v) k in
    ap (λ z. row_nodes (join z g)) same
    ∙ (ap (λ z. join (row_nodes (branch Label.policy x none)) z) (nodes_join v g m)
    ∙ sym (ap (λ z. join (row_nodes z) (row_nodes g)) same))

trees_join : (ps qs : List (Node Tree.Policy))
    → policy_trees (ps ++ qs) ≡ join (policy_trees ps) (policy_trees qs)
trees_join [] qs = refl
trees_join (p ∷ ps) qs = ap (join (policy_trees (p ∷ []))) (trees_join ps qs)

-- ---- policies of parts

-- the policies of a part followed by those of the next part are those of both
pub parts_join : (from : ℕ) (x y z : List ℕ) (ps qs : List (Node Tree.Policy))
    (a : HasPoliciesFrom from x ps) (b : HasPoliciesFrom (from + length x) y qs)
    → SplitsInto z (a.units ++ b.units) → HasPoliciesFrom from z (ps ++ qs)
parts_join from x y z ps qs a b s = record {
  units = a.units ++ b.units;
  split = s;
  fitting = list_any-append is_too_large a.units b.units
      ∙ (ap (λ w. w || list_any is_too_large b.units) a.fitting ∙ b.fitting);
  row = join a.row b.row;
  among = rows_join a.row b.row a.among b.among;
  leaves = yield_join a.row b.row
      ∙ (ap (λ w. w ++ yield b.row) a.leaves ∙ (ap (λ w. placed_from from a.units ++ w)
      (b.leaves ∙ ap (λ k. placed_from (from + k) b.units) (units_length a.units x a.split))
      ∙ sym (placed_join from a.units b.units)));
  nodes = trees_join ps qs ∙ (ap (λ w. join w (policy_trees qs)) a.nodes
      ∙ (ap (join (row_nodes a.row)) b.nodes ∙ sym (nodes_join a.row b.row a.among)));
}

-- a text has the policies of the part that is all of it
pub from_start : (text : List ℕ) (ps : List (Node Tree.Policy)) → HasPoliciesFrom 0 text ps
    → HasPolicies text ps
from_start text ps h = record {
  units = h.units;
  split = h.split;
  fitting = h.fitting;
  tree = branch Label.policies h.row none;
  grammar = tree_by_texts h.units (branch Label.policies h.row none)
      (record { shape = (h.row, refl, h.among); leaves = append-nil (yield h.row) ∙ h.leaves });
  nodes = ap (λ z. variant Label.policies z none)
      (h.nodes ∙ ap spans (sym (plain_same (λ (t : Placed). t.text) h.row)));
}

pub to_start : (text : List ℕ) (ps : List (Node Tree.Policy)) → HasPolicies text ps
    → HasPoliciesFrom 0 text ps
to_start text ps h =
    let g = tree_by_kinds h.units h.tree h.grammar in
    let s = g.shape in record {
      units = h.units;
      split = h.split;
      fitting = h.fitting;
      row = s.0;
      among = s.2;
      leaves = sym (append-nil (yield s.0)) ∙ (sym (ap yield s.1) ∙ g.leaves);
      nodes = (let e : variant Label.policies (policy_trees ps) none ≡ variant Label.policies
          (row_nodes s.0) none = h.nodes ∙ (ap spans (plain_same (λ (t : Placed). t.text) h.tree)
          ∙ ap (λ z. row_nodes z) s.1) in cc);
    }

-- a part without bytes has no units
pub no_units : (us : List (List ℕ)) → SplitsInto [] us → us ≡ []
no_units [] s = refl
no_units (u ∷ us) s = absurd (empty_begins_none u s.0.kind s.0.begins)

-- a part without tokens has no policies
pub none_from : (from : ℕ) (part : List ℕ) (us : List (List ℕ)) → SplitsInto part us
    → only_tokens us ≡ [] → list_any is_too_large us ≡ false → HasPoliciesFrom from part []
none_from from part us s e f = record {
  units = us;
  split = s;
  fitting = f;
  row = none;
  among = no_more none refl;
  leaves = sym (ap (λ z. with_places z (token_spans from us)) e);
  nodes = refl;
}

-- ---- tokens alone

abbrev text_of : Placed → List ℕ
text_of t = t.text

-- the tokens of a part that has policies are a list of the grammar
module _ (from : ℕ) (part : List ℕ) (ps : List (Node Tree.Policy))
    (h : HasPoliciesFrom from part ps) where
  part_grammar : G kind_of greatest_depth (branch Label.policies (relabel text_of h.row) none)
      (only_tokens h.units)
  part_grammar =
      subst (λ z. G kind_of greatest_depth (branch Label.policies (relabel text_of h.row) none) z)
      (placed_texts h.units from)
      (relabelled text_of kind_of_placed kind_of (λ _. refl) greatest_depth
      (branch Label.policies h.row none) (placed_from from h.units)
      (record { shape = (h.row, refl, h.among); leaves = append-nil (yield h.row) ∙ h.leaves }))

  pub part_accepted : Accepted part
  part_accepted = (
    branch Label.policies (relabel text_of h.row) none,
    is_accepted part
        (branch Label.policies (relabel text_of h.row) none) h.units h.split h.fitting part_grammar,
  )

  row_texts : Many (Policy kind_of greatest_depth) (relabel text_of h.row)
      × (yield (relabel text_of h.row) ≡ only_tokens h.units)
  row_texts = go part_grammar.shape
    where
      go : ((g : Forest Label (List ℕ)) × (branch Label.policies (relabel text_of h.row) none
          ≡ branch Label.policies g none) × Many (Policy kind_of greatest_depth) g)
          → Many (Policy kind_of greatest_depth) (relabel text_of h.row)
          × (yield (relabel text_of h.row) ≡ only_tokens h.units)
      go (g, e, m) =
          let same : relabel text_of h.row ≡ g = cc in (
            subst (Many (Policy kind_of greatest_depth)) (sym same) m,
            sym (append-nil (yield (relabel text_of h.row))) ∙ part_grammar.leaves,
          )

  no_trees : (f : Forest Label Placed) → relabel text_of f ≡ none → f ≡ none
  no_trees none e = refl
  no_trees (leaf a f) e = absurd cc
  no_trees (branch l f g) e = absurd cc

  one_tree : (f : Forest Label Placed) (g : Forest Label (List ℕ))
      → relabel text_of f ≡ branch Label.policy g none
      → (k : Forest Label Placed) × (f ≡ branch Label.policy k none)
  one_tree none g e = absurd cc
  one_tree (leaf a f) g e = absurd cc
  one_tree (branch l f i) g e =
      let first : l ≡ Label.policy = cc in
      let rest : relabel text_of i ≡ none = cc in
      (f, ap (λ z. branch z f i) first ∙ ap (branch Label.policy f) (no_trees i rest))

  no_nodes : (qs : List (Node Tree.Policy)) → policy_trees qs ≡ none → qs ≡ []
  no_nodes [] e = refl
  no_nodes (q ∷ qs) e = absurd cc

  one_node : (qs : List (Node Tree.Policy)) (k : Forest Label Placed)
      → policy_trees qs ≡ row_nodes (branch Label.policy k none)
      → (q : Node Tree.Policy) × (qs ≡ q ∷ [])
  one_node [] k e = absurd cc
  one_node (q ∷ qs) k e =
      let rest : policy_trees qs ≡ none = cc in (q, ap (λ z. q ∷ z) (no_nodes qs rest))

  -- a part without tokens has no policies
  pub has_none : (us : List (List ℕ)) → SplitsInto part us → only_tokens us ≡ [] → ps ≡ []
  has_none us s e =
      let r = row_texts in
      let same : h.units ≡ us = split_unique part h.units us h.split s in
      let bare : yield (relabel text_of h.row) ≡ [] = r.1 ∙ (ap only_tokens same ∙ e) in
      let empty =
      no_policies kind_of greatest_depth (relabel text_of h.row) r.0 (ap (list_any _) bare) in
      no_nodes ps (h.nodes ∙ ap row_nodes (no_trees h.row empty))

-- a first piece has one policy
pub has_one : (from : ℕ) (text : List ℕ) (n : ℕ) (ps : List (Node Tree.Policy)) (p : IsPiece text n)
    → list_any is_semicolon p.before ≡ false → HasPoliciesFrom from (take n text) ps
    → (q : Node Tree.Policy) × (ps ≡ q ∷ [])
has_one from text n ps p first h =
    let r = row_texts from (take n text) ps h in
    let same : only_tokens h.units ≡ only_tokens p.before ++ (codes ";" ∷ []) =
    ap only_tokens (split_unique (take n text) h.units (units_of p) h.split (piece_splits text n p))
    ∙ piece_tokens text n p in
    let one = one_policy kind_of greatest_depth (relabel text_of h.row) (only_tokens p.before)
    (codes ";") r.0 refl (no_kind p.before first) (r.1 ∙ same) in
    let tree = one_tree from (take n text) ps h h.row one.0 one.1 in
    one_node from (take n text) ps h ps tree.0 (h.nodes ∙ ap row_nodes tree.1)

-- ---- what is read comes first

-- a piece's tokens end with its `;`
lone_semicolon : (from : ℕ) (line : List (List ℕ)) → only_tokens line ≡ []
    → (s : Placed) × (placed_from from (codes ";" ∷ line) ≡ s ∷ []) × (s.text ≡ codes ";")
unfolding token_spans slots punctuators keywords
lone_semicolon from line e = (
  record { text = codes ";"; span = record { start = from; end = from + length (codes ";") } },
  ap (λ z.
      record { text = codes ";"; span = record { start = from; end = from + length (codes ";") } }
      ∷ with_places z (token_spans (from + length (codes ";")) line)) e,
  refl,
)

placed_piece : (from : ℕ) (before line : List (List ℕ)) → only_tokens line ≡ []
    → (s : Placed) × (placed_from from (before ++ (codes ";" ∷ line))
    ≡ placed_from from before ++ (s ∷ [])) × (s.text ≡ codes ";")
placed_piece from before line e =
    let s = lone_semicolon (from + sum_by length before) line e in (
      s.0,
      placed_join from before (codes ";" ∷ line) ∙ ap (λ z. placed_from from before ++ z) s.1,
      s.2,
    )

firsts : (ps items : List (Node Tree.Policy)) (rest : Erased)
    → policy_trees items ≡ join (policy_trees ps) rest
    → policy_trees (take (length ps) items) ≡ policy_trees ps
firsts [] items rest e = refl
firsts (p ∷ ps) [] rest e = absurd cc
firsts (p ∷ ps) (i ∷ items) rest e =
    let label : ◌≡◌ {A = Label × Option Span} (Label.policy, Some i.span)
    (Label.policy, Some p.span) = cc in
    let parts : policy_parts i.inner ≡ policy_parts p.inner = cc in
    let others : policy_trees items ≡ join (policy_trees ps) rest = cc in
    ap (λ z. branch z (policy_parts i.inner) (policy_trees (take (length ps) items))) label
    ∙ (ap (λ z. branch (Label.policy, Some p.span) z (policy_trees (take (length ps) items))) parts
    ∙ ap (branch (Label.policy, Some p.span) (policy_parts p.inner)) (firsts ps items rest others))

no_row : (f : Forest Label Placed) → Row f → ◌≡◌ {A = Erased} none (row_nodes f) → f ≡ none
no_row f (no_more i e) h = e
no_row f (one_more i u v e (x, k, y) m) h =
    let same : f ≡ branch Label.policy x v = e ∙ ap (λ z. join z v) k in
    let w : ◌≡◌ {A = Erased} none (row_nodes (branch Label.policy x v)) =
    h ∙ ap (λ z. row_nodes z) same in
    absurd cc

pub append_not_nil : {X : Type 0} (xs : List X) (x : X) (ys : List X) → xs ++ (x ∷ ys) ≡ [] → ⊥
append_not_nil [] x ys e = absurd cc
append_not_nil (y ∷ xs) x ys e = absurd cc

-- a piece has policies
pub has_some : (text : List ℕ) (n : ℕ) → IsPiece text n → HasPoliciesFrom 0 (take n text) [] → ⊥
has_some text n p h =
    let end = placed_piece 0 p.before p.line (no_tokens p.line p.rest_of_line.no_token) in
    let tokens : yield h.row ≡ placed_from 0 p.before ++ (end.0 ∷ []) = h.leaves ∙ (ap (placed_from
    0) (split_unique (take n text) h.units (units_of p) h.split (piece_splits text n p)) ∙ end.1) in
    append_not_nil (placed_from 0 p.before) end.0 []
    (sym tokens ∙ ap yield (no_row h.row h.among h.nodes))

-- the policies of a piece are the first of the text
piece_first : (text : List ℕ) (n : ℕ) (ps items : List (Node Tree.Policy)) → IsPiece text n
    → HasPoliciesFrom 0 (take n text) ps → HasPoliciesFrom 0 text items
    → policy_trees (take (length ps) items) ≡ policy_trees ps
piece_first text n ps items p a t = go q.1.0 q.1.1
  where
    units : (vs : List (List ℕ)) × (t.units ≡ (p.before ++ (codes ";" ∷ p.line)) ++ vs)
        × SplitsInto (take n text) (p.before ++ (codes ";" ∷ p.line)) × SplitsInto (drop n text) vs
    units = piece_units text n t.units p t.split

    back : List Placed
    back = placed_from (sum_by length (units_of p)) units.0

    end : (s : Placed)
        × (placed_from 0 (p.before ++ (codes ";" ∷ p.line)) ≡ placed_from 0 p.before ++ (s ∷ []))
        × (s.text ≡ codes ";")
    end = placed_piece 0 p.before p.line (no_tokens p.line p.rest_of_line.no_token)

    front : yield a.row ≡ placed_from 0 p.before ++ (end.0 ∷ [])
    front = a.leaves
        ∙ (ap (placed_from 0) (split_unique (take n text) a.units (units_of p) a.split units.2)
        ∙ end.1)

    all : yield t.row ≡ placed_from 0 p.before ++ (end.0 ∷ back)
    all = t.leaves ∙ (ap (placed_from 0) units.1 ∙ (placed_join 0 (units_of p) units.0
        ∙ (ap (λ z. z ++ placed_from (0 + sum_by length (units_of p)) units.0) end.1
        ∙ (append_assoc (placed_from 0 p.before) (end.0 ∷ [])
        (placed_from (0 + sum_by length (units_of p)) units.0)
        ∙ ap (λ k. placed_from 0 p.before ++ (end.0 ∷ placed_from k units.0)) (omega arith)))))

    tree : G kind_of_placed greatest_depth (branch Label.policies t.row none)
        (placed_from 0 p.before ++ (end.0 ∷ back))
    tree = record { shape = (t.row, refl, t.among); leaves = append-nil (yield t.row) ∙ all }

    q : ((f : Forest Label Placed)
        × G kind_of_placed greatest_depth f (placed_from 0 p.before ++ (end.0 ∷ [])))
        × ((g : Forest Label Placed) × G kind_of_placed greatest_depth g back)
    q = list_parts kind_of_placed greatest_depth (branch Label.policies t.row none)
        (placed_from 0 p.before) end.0 back (ap (λ z. is K.SemiColon (kind_of z)) end.2) tree

    go : (g : Forest Label Placed) → G kind_of_placed greatest_depth g back
        → policy_trees (take (length ps) items) ≡ policy_trees ps
    go g h =
        let v = h.shape in
        let leaves : yield v.0 ≡ back =
        sym (append-nil (yield v.0)) ∙ (sym (ap yield v.1) ∙ h.leaves) in
        let joined : G kind_of_placed greatest_depth (branch Label.policies (join a.row v.0) none)
        (placed_from 0 p.before ++ (end.0 ∷ back)) = record {
          shape = (join a.row v.0, refl, rows_join a.row v.0 a.among v.2);
          leaves = append-nil (yield (join a.row v.0)) ∙ (yield_join a.row v.0
              ∙ (ap (λ z. z ++ yield v.0) front ∙ (append_assoc (placed_from 0 p.before)
              (end.0 ∷ []) (yield v.0) ∙ ap (λ z. placed_from 0 p.before ++ (end.0 ∷ z)) leaves)));
        } in
        let one : branch Label.policies t.row none ≡ branch Label.policies (join a.row v.0) none =
        list_has_one_tree kind_of_placed greatest_depth greatest_depth
        (placed_from 0 p.before ++ (end.0 ∷ back)) (branch Label.policies t.row none)
        (branch Label.policies (join a.row v.0) none) tree joined in
        let same : t.row ≡ join a.row v.0 = cc in
        firsts ps items (row_nodes v.0) (t.nodes ∙ (ap row_nodes same
        ∙ (nodes_join a.row v.0 a.among ∙ ap (λ z. join z (row_nodes v.0)) (sym a.nodes))))

pub answered_first : AnsweredComeFirst
answered_first reader text ps p r t = go r.ends
  where
    a : HasPoliciesFrom 0 (take reader.at text) ps
    a = to_start (take reader.at text) ps r.read

    go : EndsPiece text reader.at
        → policy_trees (take (length ps) p.policies.items) ≡ policy_trees ps
    go (inl e) =
        let none_read : ps ≡ [] = has_none 0 (take reader.at text) ps a []
        (subst (λ k. SplitsInto (take k text) []) (sym e) refl) refl in
        subst (λ z. policy_trees (take (length z) p.policies.items) ≡ policy_trees z)
        (sym none_read) refl
    go (inr q) =
        piece_first text reader.at ps p.policies.items q a (to_start text p.policies.items (record {
          units = t.units;
          split = t.split;
          fitting = t.fitting;
          tree = t.tree;
          grammar = t.grammar;
          nodes = t.nodes;
        }))
