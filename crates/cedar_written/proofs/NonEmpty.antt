-- Languages all of whose rows have a token.
use Rattle.std.proofs.Common.{◌≡◌, ℕ, zero, suc, ℤ, Bool, true, false, List, [], ◌∷◌, ◌++◌, refl, subst, inl, inr}
use Rattle.std.specs.Prelude.{IsTrue}
use Prim.Native.String.{String}
use Rattle.cedar_tokens.specs.Listing.{Decorated}
use Rattle.cedar_layout.specs.Layout.{Doc}
use Rattle.cedar_written.specs.Languages.{Lang, ◌⋄◌, ◌∪◌, Never, Mapped, Token}
use Rattle.cedar_written.specs.Written as W

pub record Full (X : List Decorated → Doc → Type 0) : Type 0 where
  pub none : (d : Doc) → X [] d → ⊥

both_empty : (us vs : List Decorated) → [] ≡ us ++ vs → (us ≡ []) × (vs ≡ [])
both_empty [] [] e = (refl, refl)
both_empty [] (v ∷ vs) e = absurd cc
both_empty (u ∷ us) vs e = absurd cc

pub token : (P : List ℕ → Type 0) (next : Doc) → Full (Token P next)
token P next = record { none = λ d (t, e, c, p). cc }

pub first : {X Y : Lang} → Full X → Full (X ⋄ Y)
first {X} x =
    record {
      none = λ d (us, vs, e, f, s, c, a, b). x.none e
          (subst (λ z. X z e) (both_empty us vs s).0 a);
    }

pub second : {X Y : Lang} → Full Y → Full (X ⋄ Y)
second {Y = Y} y = record {
  none =
      λ d (us, vs, e, f, s, c, a, b). y.none f (subst (λ z. Y z f) (both_empty us vs s).1 b);
}

infixr 22 ◌or◌
pub ◌or◌ : {X Y : Lang} → Full X → Full Y → Full (X ∪ Y)
x or y = record { none = λ d c. elim c [ inl a ↦ x.none d a | inr b ↦ y.none d b ] }

pub either : {X Y : Lang} → Full X → Full Y → Full (X ∪ Y)
either x y = x or y

pub mapped_full : {X : Lang} {g : Doc → Doc} → Full X → Full (Mapped g X)
mapped_full x = record { none = λ d (e, c, a). x.none e a }

room_full : {X : Lang} {room : Bool} → Full X → Full (λ ts d. IsTrue room × X ts d)
room_full x = record { none = λ d (r, a). x.none d a }

pub tok : (s : String) (next : Doc) → Full (W.TokThen s next)
tok s next = token _ next

module _ (i : ℤ) where
  path : Full W.Path
  path = first (token _ _)

  accessed : {F X : Lang} → Full F → Full (W.Accessed i F X)
  accessed f = mapped_full (first f)

  module _ (room : Bool) (Inner : Lang) where
    member : Full (W.Member i room Inner)
    member = accessed ((token _ _ or token _ _) or token _ _ or token _ _
        or room_full (mapped_full (first (token _ _))) or room_full (first (token _ _))
        or room_full (first (token _ _)) or (token _ _ or token _ _ or token _ _ or token _ _)
        or first path) or mapped_full (first path)

    add : Full (W.Add i room Inner)
    add = mapped_full (first (mapped_full (first (second member))))

    pub expr_in : Full (W.ExprIn i room Inner)
    expr_in = room_full (mapped_full (first (token _ _)))
        or first (first (first add or mapped_full (first add) or mapped_full (first add)
        or mapped_full (first add)))

  pub expr : (n : ℕ) → Full (W.Expr i n)
  expr zero = expr_in false Never
  expr (suc n) = expr_in true (W.Expr i n)
