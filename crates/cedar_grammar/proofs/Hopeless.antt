-- A hopeless token in its text.
use Rattle.std.specs.Prelude.{◌≡◌, ◌↔◌, ℕ, Bool, true, false, IsTrue, List, [], ◌∷◌, ◌++◌, length}
use Rattle.std.specs.List.{list_any, sum_by}
use Rattle.std.proofs.Common.{refl, sym, ap, ◌∙◌, subst}
use Rattle.std.proofs.lemmas.List.Elements.{filter-append}
use Rattle.cedar_tokens.specs.Units.{is_token}
use Rattle.cedar_tokens.specs.Split.{SplitsInto}
use Rattle.cedar_tokens.specs.TokenKinds.{kind_of}
use Rattle.cedar_grammar.specs.Numbers.{is_too_large}
use Rattle.cedar_grammar.specs.Texts.{greatest_depth, only_tokens}
use Rattle.cedar_grammar.specs.Reader.Hopeless.{BeginsByKinds, Hopeless, IsHopeless}
use Rattle.cedar_grammar.proofs.Texts.Cuts.{unit_cut}

pub tokens_one : (u : List ℕ) (us : List (List ℕ)) → is_token u ≡ true
    → only_tokens (u ∷ us) ≡ u ∷ only_tokens us
tokens_one u us h = rw h refl

pub tokens_cut : (us : List (List ℕ)) (t : List ℕ) (vs : List (List ℕ)) → is_token t ≡ true
    → only_tokens (us ++ (t ∷ vs)) ≡ only_tokens us ++ (t ∷ only_tokens vs)
tokens_cut us t vs h =
    filter-append is_token us (t ∷ vs) ∙ ap (λ z. only_tokens us ++ z) (tokens_one t vs h)

-- the tokens before a hopeless one, and it, where further units follow
abbrev pub Through : List (List ℕ) → List ℕ → Bool → Type 0
Through front token deep = BeginsByKinds kind_of greatest_depth front
    × (¬ (BeginsByKinds kind_of greatest_depth (front ++ (token ∷ []))))
    × (IsTrue deep ↔ ((e : ℕ) × BeginsByKinds kind_of e (front ++ (token ∷ []))))

pub hopeless_at : (text : List ℕ) (before : List (List ℕ)) (token : List ℕ)
    (after : List (List ℕ)) (at : ℕ) (deep : Bool) → SplitsInto text (before ++ (token ∷ after))
    → list_any is_too_large (before ++ (token ∷ after)) ≡ false
    → at ≡ sum_by length before → is_token token ≡ true → Through (only_tokens before) token deep
    → IsHopeless text at deep
hopeless_at text before token after at deep s f p o t = record {
  before = before;
  token = token;
  after = after;
  split = s;
  fitting = f;
  place = p;
  is_one = o;
  hopeless = record {
    split = tokens_cut before token after o;
    before = t.0;
    through = t.1;
    kind_is = t.2;
  };
}

-- a token that is hopeless among the text's tokens
pub hopeless_among : (text : List ℕ) (units : List (List ℕ)) → SplitsInto text units
    → list_any is_too_large units ≡ false → (d : ℕ) → d ≡ greatest_depth
    → (front : List (List ℕ)) (t : List ℕ) (rest : List (List ℕ)) (deep : Bool)
    → (h : Hopeless kind_of d (only_tokens units) front t rest deep)
    → IsHopeless text (sum_by length (unit_cut units front t rest h.split).before) deep
hopeless_among text units s fit d e front t rest deep h =
    let c = unit_cut units front t rest h.split in
    record {
      before = c.before;
      token = t;
      after = c.after;
      split = subst (λ z. SplitsInto text z) c.whole s;
      fitting = sym (ap (list_any is_too_large) c.whole) ∙ fit;
      place = refl;
      is_one = c.is_one;
      hopeless = subst (λ z. Hopeless kind_of greatest_depth (only_tokens z)
          (only_tokens c.before) t (only_tokens c.after) deep) c.whole
          (subst (λ z. Hopeless kind_of z (only_tokens units) (only_tokens c.before) t
          (only_tokens c.after) deep) e
          (subst (λ z. Hopeless kind_of d (only_tokens units) (only_tokens c.before) t z deep)
          (sym c.rest_is)
          (subst (λ z. Hopeless kind_of d (only_tokens units) z t rest deep) (sym c.front_is) h)));
    }
