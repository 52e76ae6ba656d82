-- What is preserved of tokens when their comments are taken.
use Rattle.std.specs.Prelude.{◌≡◌, ◌⊎◌, List, [], map}
use Rattle.std.specs.List.{AllZip}
use Rattle.cedar_tokens.specs.declared.token.WrappedToken.{WrappedToken}
use Rattle.cedar_layout.specs.Lookups.{Shown, shown}

-- what was there is unchanged or gone
abbrev pub StaysOrGoes : {X : Type 0} → List X → List X → Type 0
StaysOrGoes old new = (new ≡ old) ⊎ (new ≡ [])

-- the same token at the same place, whose leading lines are as before or gone, and its trailing text too
pub record TakenFrom (old new : Shown) : Type 0 where
  pub token : new.token ≡ old.token
  pub span : new.span ≡ old.span
  pub leading : StaysOrGoes old.comment.leading new.comment.leading
  pub trailing : StaysOrGoes old.comment.trailing new.comment.trailing

-- the tokens and their places are unchanged; comments may be gone, and none is new or changed
pub record KeepsTokens (old new : List WrappedToken) : Type 0 where
  pub each : AllZip TakenFrom (map shown old) (map shown new)
