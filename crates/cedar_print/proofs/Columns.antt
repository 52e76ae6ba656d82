-- The columns of a space.
use Rattle.std.proofs.Common.{◌≡◌, [], ◌∷◌, refl}
use Rattle.cedar_tokens.specs.Bytes as byte
use Rattle.cedar_layout.specs.Layout.{columns}
use Rattle.cedar_layout.proofs.Printable.{printable_columns}

pub columns_of_space : columns (byte.space_character ∷ []) ≡ 1
columns_of_space = printable_columns (byte.space_character ∷ []) refl
