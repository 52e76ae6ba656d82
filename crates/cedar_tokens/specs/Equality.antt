-- Equality and clones of tokens, of comments and of tokens with their comments.
use Rattle.std.specs.Prelude.{◌≡◌, ◌↔◌, IsTrue, string_bytes}
use Rattle.cedar_tokens.specs.Tokens.{leading_lines, trailing_text}
use Rattle.cedar_tokens.specs.declared.token.Token.{Token}
use Rattle.cedar_tokens.specs.declared.token.Token.TheVariants.{Identifier, Number, Str}
use Rattle.cedar_tokens.specs.declared.token.Comment.{Comment}
use Rattle.cedar_tokens.specs.declared.token.WrappedToken.{WrappedToken}
use Rattle.cedar_tokens.specs.contracts.token.TokenPartialEq.TheImpl as token_equality
use Rattle.cedar_tokens.specs.contracts.token.CommentPartialEq.TheImpl as comment_equality
use Rattle.cedar_tokens.specs.contracts.token.WrappedTokenPartialEq.TheImpl as wrapped_equality
use Rattle.cedar_tokens.specs.contracts.token.TokenClone.TheImpl as token_clone
use Rattle.cedar_tokens.specs.contracts.token.CommentClone.TheImpl as comment_clone
use Rattle.cedar_tokens.specs.contracts.token.WrappedTokenClone.TheImpl as wrapped_clone

-- the tokens are of one kind and hold the same texts
abbrev pub SameToken : Token → Token → Type 0
SameToken (Identifier s) (Identifier t) = string_bytes s ≡ string_bytes t
SameToken (Number s) (Number t) = string_bytes s ≡ string_bytes t
SameToken (Str s) (Str t) = string_bytes s ≡ string_bytes t
SameToken a b = a ≡ b

-- the comments have the same leading lines and the same trailing text
abbrev pub SameComment : Comment → Comment → Type 0
SameComment a b = (leading_lines a ≡ leading_lines b) × (trailing_text a ≡ trailing_text b)

-- the same token with the same comment at the same place
abbrev pub SameWrapped : WrappedToken → WrappedToken → Type 0
SameWrapped a b = SameToken a.token b.token × SameComment a.comment b.comment × (a.span ≡ b.span)

-- `a == b` is true if and only if all parts of `a` are those of `b`
abbrev pub TokenEqualityIsByParts : Type 0
TokenEqualityIsByParts = (a b : Token) → IsTrue ((token_equality.ghosts).eq a b) ↔ SameToken a b

abbrev pub CommentEqualityIsByParts : Type 0
CommentEqualityIsByParts = (a b : Comment) → IsTrue ((comment_equality.ghosts).eq a b) ↔ SameComment a b

abbrev pub WrappedEqualityIsByParts : Type 0
WrappedEqualityIsByParts = (a b : WrappedToken) → IsTrue ((wrapped_equality.ghosts).eq a b) ↔ SameWrapped a b

-- a clone of `a` is equal to `a`
abbrev pub TokenClonesAreEqual : Type 0
TokenClonesAreEqual = (a b : Token) → (token_clone.ghosts).is_clone a b → IsTrue ((token_equality.ghosts).eq a b)

abbrev pub CommentClonesAreEqual : Type 0
CommentClonesAreEqual = (a b : Comment) → (comment_clone.ghosts).is_clone a b → IsTrue ((comment_equality.ghosts).eq a b)

abbrev pub WrappedClonesAreEqual : Type 0
WrappedClonesAreEqual = (a b : WrappedToken) → (wrapped_clone.ghosts).is_clone a b → IsTrue ((wrapped_equality.ghosts).eq a b)
