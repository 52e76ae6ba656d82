-- What the reader's answer means for the list, in terms of the grammar.
use Rattle.std.specs.Prelude.{◌≡◌, ℕ, Bool, false, List, [], ◌∷◌, ◌++◌}
use Rattle.std.proofs.Common.{sym, ap, ◌∙◌, append-nil}
use Rattle.std.proofs.lemmas.Bool.{true_from_ne_false}
use Rattle.cedar_tokens.specs.declared.kind.Kind.{Kind}
use Rattle.cedar_grammar.specs.Trees.{yield}
use Rattle.cedar_grammar.specs.KindGrammar.{G, PolicySet}
use Rattle.cedar_grammar.specs.Reader.Reading.{Answer, done, stuck}
use Rattle.cedar_grammar.proofs.Rules.Ends.{Samples}
use Rattle.cedar_grammar.specs.Reader.Lines.{set_to}
use Rattle.cedar_grammar.proofs.Readers.Families.{Starts, HopelessAt, refused, left_over, unfinished}
use Rattle.cedar_grammar.proofs.WholeLaws.{set_laws}
use Rattle.cedar_grammar.proofs.Rules.Maps.{each, answer_of, set_agrees}
use Rattle.cedar_grammar.specs.Reader.Hopeless.{BeginsByKinds, Hopeless, Unfinished}

module _ {A : Type 0} (kind : A → Kind) where
  abbrev pub Says : ℕ → List A → Answer A → Type 0
  Says d ts (done f []) = G kind d f ts
  Says d ts (done f (a ∷ r)) = (front : List A) × Hopeless kind d ts front a r false
  Says d ts (stuck b []) = Unfinished kind d ts
  Says d ts (stuck b (a ∷ r)) = (front : List A) × Hopeless kind d ts front a r b

  module _ (sample : Samples kind) where
    begins_of : (d : ℕ) (front : List A) → Starts (set_to kind) (PolicySet kind) d front
        → BeginsByKinds kind d front
    begins_of d front (rest, (f, x, e)) =
        record { rest = rest; tree = f; grammar = record { shape = x; leaves = e } }

    of_begins : (d : ℕ) (front : List A) → BeginsByKinds kind d front
        → Starts (set_to kind) (PolicySet kind) d front
    of_begins d front b = (b.rest, (b.tree, b.grammar.shape, b.grammar.leaves))

    hopeless_of : (d : ℕ) (ts front : List A) (a : A) (r : List A) (b : Bool)
        → HopelessAt (set_to kind) (PolicySet kind) (set_laws kind sample) d ts front a r b
        → Hopeless kind d ts front a r b
    hopeless_of d ts front a r b h = record {
      split = h.split;
      before = begins_of d front h.before;
      through = λ x. h.through (of_begins d (front ++ (a ∷ [])) x);
      kind_is = (
        λ deep. let x = h.more_depth deep in (x.0, begins_of x.0 (front ++ (a ∷ [])) x.1),
        λ x. true_from_ne_false b
            (λ plain. h.no_depth plain x.0 (of_begins x.0 (front ++ (a ∷ [])) x.1)),
      );
    }

    -- The answer, whatever it is, is right: the tree, or the exact place and kind of the refusal.
    pub says : (d : ℕ) (ts : List A) (x : Answer A) → set_to kind d ts ≡ x → Says d ts x
    says d ts (done f []) e =
        let k = (set_laws kind sample).sound d ts f [] e in
        record { shape = k.among; leaves = sym (k.tokens ∙ append-nil (yield f)) }
    says d ts (done f (a ∷ r)) e =
        let h = left_over (set_to kind) (PolicySet kind) (set_laws kind sample) d ts f a r e in
        (h.0, hopeless_of d ts h.0 a r false h.1)
    says d ts (stuck b []) e =
        let h = unfinished (set_to kind) (PolicySet kind) (set_laws kind sample) d ts b e in
        record { before = begins_of d ts h.0; not_whole = λ f g. h.1 (f, g.shape, g.leaves) }
    says d ts (stuck b (a ∷ r)) e =
        let h = refused (set_to kind) (PolicySet kind) (set_laws kind sample) d ts b a r e in
        (h.0, hopeless_of d ts h.0 a r b h.1)

-- For tokens that carry more, such as texts with places,
-- the answer says the same as for their texts.
pub says_of : {A B : Type 0} (h : A → B) (kind : A → Kind) (kind' : B → Kind)
    → ((a : A) → kind' (h a) ≡ kind a) → Samples kind' → (d : ℕ) (ts : List A) (x : Answer A)
    → set_to kind d ts ≡ x → Says kind' d (each h ts) (answer_of h x)
says_of h kind kind' same sample d ts x e = says kind' sample d (each h ts) (answer_of h x)
    (set_agrees h kind kind' same d ts ∙ ap (answer_of h) e)
