-- The head of a policy so far.
use Rattle.std.proofs.Common.{◌≡◌, ◌<◌, ◌≤◌, ◌+◌, ℕ, Bool, true, false, List, [], ◌∷◌, ◌++◌, length, refl, ap, sym, ◌∙◌, Option, Some, None, nat_lt, arith}
use Rattle.std.specs.Prelude.{codes, not, ◌&&◌, ◌||◌, if◌then◌else◌}
use Rattle.std.proofs.lemmas.List.{append_assoc, append-nil}
use Rattle.std.proofs.lemmas.Bool.{false_from_ne_true}
use Rattle.std.proofs.lemmas.Bool.Decides.{Decides-ltb}
use Rattle.cedar_tokens.specs.Units.{is_token}
use Rattle.cedar_tokens.specs.Kinds.{is}
use Rattle.cedar_tokens.specs.TokenKinds.{kind_of}
use Rattle.cedar_tokens.specs.declared.kind.Kind.{Kind}
use Rattle.cedar_server.specs.Parts.{IsPart, AreParts}
use Rattle.cedar_server.specs.Symbols.{head, space_between, is_tight_before, is_tight_after}
use Rattle.cedar_server.specs.Inside.Heads.{IsHead, needs_space, with_token}
use Rattle.cedar_server.proofs.Reading.{first_of, none_of_empty}

-- the name so far is followed by what the rest gives
abbrev pub HeadSoFar : List ℕ → ℕ → List ℕ → ℕ → Option Kind → List ℕ → Type 0
HeadSoFar section start rest at before name = (parts : List (List ℕ)) → AreParts section parts
    → (after : List (List ℕ)) × AreParts rest after × (head start 0 None parts ≡ name ++ head start at before after)

pub none_so_far : (section : List ℕ) (start : ℕ) → HeadSoFar section start section 0 None []
none_so_far section start parts a = (parts, a, refl)

no_parts : (start at : ℕ) (before : Option Kind) → head start at before [] ≡ []
unfolding head
no_parts start at before = refl

pub all_so_far : (section : List ℕ) (start : ℕ) (rest : List ℕ) (at : ℕ) (before : Option Kind) (name : List ℕ) → rest ≡ []
    → HeadSoFar section start rest at before name → IsHead section start name
all_so_far section start rest at before name e s parts a =
    let h = s parts a in
    sym (h.2 ∙ ap (λ z. name ++ head start at before z) (none_of_empty rest h.0 e h.1)
    ∙ ap (λ z. name ++ z) (no_parts start at before) ∙ append-nil name)

module _ (section : List ℕ) (start : ℕ) (rest u new : List ℕ) (at : ℕ) (before : Option Kind) (name : List ℕ)
    (s : HeadSoFar section start rest at before name) (p : IsPart rest u) (e : rest ≡ u ++ new) where
  skips : (us : List (List ℕ)) → (is_token u && not (nat_lt at start)) ≡ false
      → head start at before (u ∷ us) ≡ head start (at + length u) before us
  unfolding head
  skips us t = rw t refl

  takes : (us : List (List ℕ)) → (is_token u && not (nat_lt at start)) ≡ true
      → head start at before (u ∷ us) ≡ space_between before (kind_of u) ++ u ++ (if is Kind.RParen (kind_of u) then [] else head start (at + length u) (Some (kind_of u)) us)
  unfolding head
  takes us t = rw t refl

  pub skip_so_far : (is_token u && not (nat_lt at start)) ≡ false → HeadSoFar section start new (at + length u) before name
  skip_so_far t parts a =
      let h = s parts a in
      let f = first_of rest u new h.0 h.1 p e in
      (f.0, f.2, h.2 ∙ ap (λ z. name ++ z) (ap (head start at before) f.1 ∙ skips f.0 t))

  pub token_so_far : (is_token u && not (nat_lt at start)) ≡ true → is Kind.RParen (kind_of u) ≡ false
      → HeadSoFar section start new (at + length u) (Some (kind_of u)) (with_token name before u)
  token_so_far t k parts a =
      let h = s parts a in
      let f = first_of rest u new h.0 h.1 p e in (
        f.0,
        f.2,
        h.2 ∙ ap (λ z. name ++ z) (ap (head start at before) f.1 ∙ takes f.0 t ∙ rw k refl)
            ∙ sym (append_assoc name (space_between before (kind_of u) ++ u) (head start (at + length u) (Some (kind_of u)) f.0)),
      )

  pub ends_here : (is_token u && not (nat_lt at start)) ≡ true → is Kind.RParen (kind_of u) ≡ true
      → IsHead section start (with_token name before u)
  ends_here t k parts a =
      let h = s parts a in
      let f = first_of rest u new h.0 h.1 p e in
      sym (h.2 ∙ ap (λ z. name ++ z) (ap (head start at before) f.1 ∙ takes f.0 t ∙ rw k (append-nil (space_between before (kind_of u) ++ u))))

-- what the space makes of the name
pub spaced : (before : Option Kind) (k : Kind) (name : List ℕ) → needs_space before k ≡ true
    → name ++ codes " " ≡ name ++ space_between before k
spaced None k name h = absurd cc
spaced (Some b) k name h = go (is_tight_after b || is_tight_before k) h
  where
    go : (x : Bool) → not x ≡ true → name ++ codes " " ≡ name ++ (if x then [] else codes " ")
    go true h = absurd cc
    go false h = refl

pub unspaced : (before : Option Kind) (k : Kind) (name : List ℕ) → needs_space before k ≡ false
    → name ≡ name ++ space_between before k
unspaced None k name h = sym (append-nil name)
unspaced (Some b) k name h = go (is_tight_after b || is_tight_before k) h
  where
    go : (x : Bool) → not x ≡ false → name ≡ name ++ (if x then [] else codes " ")
    go true h = sym (append-nil name)
    go false h = absurd cc

-- whether a part is a token of the line
pub not_token : (u : List ℕ) (at start : ℕ) → is_token u ≡ false → (is_token u && not (nat_lt at start)) ≡ false
not_token u at start e = rw e refl

pub before_start : (u : List ℕ) (at start : ℕ) → at < start → (is_token u && not (nat_lt at start)) ≡ false
before_start u at start l = rw ((Decides-ltb at start).1 l) (go (is_token u))
  where
    go : (x : Bool) → (x && false) ≡ false
    go true = refl
    go false = refl

pub from_start : (u : List ℕ) (at start : ℕ) → is_token u ≡ true → start ≤ at → (is_token u && not (nat_lt at start)) ≡ true
from_start u at start e l =
    let none : nat_lt at start ≡ false = false_from_ne_true (nat_lt at start)
    (λ t. let k = (Decides-ltb at start).0 t in omega (arith, l, k)) in
    rw (e, none) refl
