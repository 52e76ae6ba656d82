-- The samples are tokens of their kinds.
use Rattle.std.specs.Prelude.{◌≡◌}
use Rattle.std.proofs.Common.{refl}
use Rattle.cedar_tokens.specs.Units.{IsToken, slots, punctuators}
use Rattle.cedar_tokens.specs.declared.kind.Kind.{Kind}
use Rattle.cedar_tokens.specs.declared.kind.Kind.TheVariants as K
use Rattle.cedar_tokens.specs.TokenKinds.{kind_of}
use Rattle.cedar_faults.specs.Samples.{sample}

pub sample_token : (k : Kind) → IsToken (sample k)
unfolding slots punctuators
sample_token K.True = refl
sample_token K.False = refl
sample_token K.If = refl
sample_token K.Then = refl
sample_token K.Else = refl
sample_token K.In = refl
sample_token K.Is = refl
sample_token K.Like = refl
sample_token K.Has = refl
sample_token K.Permit = refl
sample_token K.Forbid = refl
sample_token K.When = refl
sample_token K.Unless = refl
sample_token K.Principal = refl
sample_token K.Action = refl
sample_token K.Resource = refl
sample_token K.Context = refl
sample_token K.Identifier = refl
sample_token K.PrincipalSlot = refl
sample_token K.ResourceSlot = refl
sample_token K.Number = refl
sample_token K.Str = refl
sample_token K.At = refl
sample_token K.Dot = refl
sample_token K.Comma = refl
sample_token K.SemiColon = refl
sample_token K.Colon = refl
sample_token K.DoubleColon = refl
sample_token K.LParen = refl
sample_token K.RParen = refl
sample_token K.LBrace = refl
sample_token K.RBrace = refl
sample_token K.LBracket = refl
sample_token K.RBracket = refl
sample_token K.Equal = refl
sample_token K.NotEqual = refl
sample_token K.Lt = refl
sample_token K.Le = refl
sample_token K.Gt = refl
sample_token K.Ge = refl
sample_token K.Or = refl
sample_token K.And = refl
sample_token K.Add = refl
sample_token K.Dash = refl
sample_token K.Mul = refl
sample_token K.Div = refl
sample_token K.Modulo = refl
sample_token K.Neg = refl

pub sample_kind : (k : Kind) → kind_of (sample k) ≡ k
sample_kind K.True = refl
sample_kind K.False = refl
sample_kind K.If = refl
sample_kind K.Then = refl
sample_kind K.Else = refl
sample_kind K.In = refl
sample_kind K.Is = refl
sample_kind K.Like = refl
sample_kind K.Has = refl
sample_kind K.Permit = refl
sample_kind K.Forbid = refl
sample_kind K.When = refl
sample_kind K.Unless = refl
sample_kind K.Principal = refl
sample_kind K.Action = refl
sample_kind K.Resource = refl
sample_kind K.Context = refl
sample_kind K.Identifier = refl
sample_kind K.PrincipalSlot = refl
sample_kind K.ResourceSlot = refl
sample_kind K.Number = refl
sample_kind K.Str = refl
sample_kind K.At = refl
sample_kind K.Dot = refl
sample_kind K.Comma = refl
sample_kind K.SemiColon = refl
sample_kind K.Colon = refl
sample_kind K.DoubleColon = refl
sample_kind K.LParen = refl
sample_kind K.RParen = refl
sample_kind K.LBrace = refl
sample_kind K.RBrace = refl
sample_kind K.LBracket = refl
sample_kind K.RBracket = refl
sample_kind K.Equal = refl
sample_kind K.NotEqual = refl
sample_kind K.Lt = refl
sample_kind K.Le = refl
sample_kind K.Gt = refl
sample_kind K.Ge = refl
sample_kind K.Or = refl
sample_kind K.And = refl
sample_kind K.Add = refl
sample_kind K.Dash = refl
sample_kind K.Mul = refl
sample_kind K.Div = refl
sample_kind K.Modulo = refl
sample_kind K.Neg = refl
