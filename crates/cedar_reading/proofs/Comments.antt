-- Texts without comments.
use Rattle.std.proofs.Common.{◌≡◌, [], refl}
use Rattle.cedar_tokens.specs.Listing.{comments, lines, comment_of_line}

pub no_comments : comments [] ≡ []
unfolding comments lines comment_of_line
no_comments = refl
