-- The parts of a text, one after the other.
use Rattle.std.proofs.Common.{◌≡◌, ◌≢◌, ◌<◌, ◌≤◌, ◌+◌, ℕ, true, false, inl, inr, List, [], ◌∷◌, ◌++◌, length, take, drop, refl, ap, sym, ◌∙◌, arith, subst}
use Rattle.std.proofs.Math.Seq.{drop-append_seam}
use Rattle.std.proofs.lemmas.List.{drop-drop, length-append, length-take, length-take-le}
use Rattle.std.proofs.lemmas.Bool.{false_from_ne_true}
use Rattle.std.specs.Str.{IsUtf8, IsCharBoundary}
use Rattle.std.proofs.lemmas.List.Sums.{sum_by-cons}
use Rattle.std.proofs.lemmas.Str.{IsUtf8-drop}
use Rattle.std.specs.List.{sum_by}
use Rattle.cedar_tokens.specs.Split.{SplitsInto}
use Rattle.cedar_tokens.specs.Units as U
use Rattle.cedar_tokens.specs.Units.{IsUnit, IsBlank, IsComment, IsFirstUnit, BeginsNoUnit, is_token, is_comment}
use Rattle.cedar_tokens.proofs.FirstUnit.{unit_nonempty, unit_boundary, comment_parts}
use Rattle.cedar_tokens.proofs.Prefixes.{begins_fits, front_begins, longest_unique}
use Rattle.cedar_tokens.specs.Bytes.{slash}
use Rattle.cedar_tokens.specs.declared.lexer.UnitKind.TheVariants as Unit
use Rattle.cedar_tokens.proofs.Heads.{class, class-blank}
use Rattle.cedar_server.specs.declared.parts.PartKind.{PartKind}
use Rattle.cedar_server.specs.declared.parts.PartKind.TheVariants.{Token, Comment, Other}
use Rattle.cedar_tokens.proofs.Streaming.{no_token}
use Rattle.cedar_server.specs.Parts.{IsFirstCharacter, IsPart, Reads, AreParts, HasPartKind}

pub part_nonempty : (text u : List ℕ) → IsPart text u → 0 < length u
part_nonempty text u (inl f) = unit_nonempty u f.kind
part_nonempty text u (inr (n, c)) = c.nonempty

pub part_inside : (text u : List ℕ) → IsPart text u → length u ≤ length text
part_inside text u (inl f) = begins_fits text u f.begins
part_inside text u (inr (n, c)) = omega (arith, ap length c.bytes, length-take (length u) text)

same_character : (text u v : List ℕ) → IsFirstCharacter text u → IsFirstCharacter text v → u ≡ v
same_character text u v c d =
    let low : ¬ (length u < length v) = λ l. d.nearest (length u) c.nonempty l c.boundary in
    let high : ¬ (length v < length u) = λ l. c.nearest (length v) d.nonempty l d.boundary in
    let same : length u ≡ length v = omega (arith, low, high) in
    c.bytes ∙ ap (λ n. take n text) same ∙ sym d.bytes

-- one part is at the start of a text
pub part_unique : (text u v : List ℕ) → IsPart text u → IsPart text v → u ≡ v
part_unique text u v (inl f) (inl g) = longest_unique IsUnit text u v f g
part_unique text u v (inl f) (inr (n, d)) = absurd (n u f.kind f.begins)
part_unique text u v (inr (n, c)) (inl g) = absurd (n v g.kind g.begins)
part_unique text u v (inr (n, c)) (inr (m, d)) = same_character text u v c d

pub after_part : (rest u new : List ℕ) → rest ≡ u ++ new → drop (length u) rest ≡ new
after_part rest u new e = ap (drop (length u)) e ∙ drop-append_seam u new

-- the parts of a text begin with its first part
pub first_of : (rest u new : List ℕ) (parts : List (List ℕ)) → AreParts rest parts → IsPart rest u
    → rest ≡ u ++ new
    → (others : List (List ℕ)) × (parts ≡ u ∷ others) × AreParts new others
first_of rest u new [] a p e = absurd (omega
    (arith, ap length a, part_nonempty rest u p, part_inside rest u p))
first_of rest u new (v ∷ vs) a p e =
    let same : v ≡ u = part_unique rest v u a.0 p in
    let left : drop (length v) rest ≡ new = ap (λ z. drop (length z) rest) same ∙ after_part rest u new e in
    (vs, ap (λ z. z ∷ vs) same, subst (λ z. AreParts z vs) left a.1)

-- an empty text has none
pub none_of_empty : (rest : List ℕ) (parts : List (List ℕ)) → rest ≡ [] → AreParts rest parts → parts ≡ []
none_of_empty rest [] e a = refl
none_of_empty rest (v ∷ vs) e a = absurd (omega
    (arith, ap length e, part_nonempty rest v a.0, part_inside rest v a.0))

-- one more before the others
pub more_parts : (rest u new : List ℕ) (others : List (List ℕ)) → IsPart rest u → rest ≡ u ++ new
    → AreParts new others → AreParts rest (u ∷ others)
more_parts rest u new others p e a =
    (p, subst (λ z. AreParts z others) (sym (after_part rest u new e)) a)

-- a character that begins no unit is no token and no comment
pub no_token_begins : (text : List ℕ) (n : ℕ) → BeginsNoUnit text → is_token (take n text) ≡ false
no_token_begins text n none = false_from_ne_true (is_token (take n text))
    (λ t. none (take n text) (U.token t) (front_begins text n))

pub no_comment_begins : (text : List ℕ) (n : ℕ) → BeginsNoUnit text → is_comment (take n text) ≡ false
no_comment_begins text n none = false_from_ne_true (is_comment (take n text))
    (λ t. none (take n text) (U.comment t) (front_begins text n))

pub some_byte : (text : List ℕ) → text ≢ [] → 1 ≤ length text
some_byte [] h = absurd (h refl)
some_byte (b ∷ text) h = omega arith

pub first_character : (text : List ℕ) (n : ℕ) → 1 ≤ n → IsCharBoundary text n
    → ((i : ℕ) → 0 < i → i < n → ¬ (IsCharBoundary text i)) → IsFirstCharacter text (take n text)
first_character text n some b nearest =
    let size : length (take n text) ≡ n = length-take-le n text (omega (arith, b)) in
    record {
      nonempty = omega (arith, size);
      bytes = ap (λ k. take k text) (sym size);
      boundary = subst (IsCharBoundary text) (sym size) b;
      nearest = λ i a l. nearest i a (omega (arith, size, l));
    }

-- what is no token, by its kind
pub no_token_part : (kind : PartKind) (u : List ℕ) → HasPartKind kind u → kind ≢ Token
    → is_token u ≡ false
no_token_part Token u h n = absurd (n refl)
no_token_part Comment u h n = h.0
no_token_part Other u h n = h.0

no_slash_blank : (u : List ℕ) → IsBlank u → ¬ (is_comment u ≡ true)
no_slash_blank [] k c = absurd cc
no_slash_blank (a ∷ []) k c = absurd cc
no_slash_blank (a ∷ b ∷ v) k c =
    let e : class slash ≡ 0 = rw ((comment_parts a b v c).0) at (class-blank a (b ∷ v) k) in
    omega (arith, e)

pub comment_part : (u : List ℕ) → IsComment u → HasPartKind Comment u
comment_part u k = (no_token Unit.Comment u k (λ e. absurd cc), k)

pub blank_part : (u : List ℕ) → IsBlank u → HasPartKind Other u
blank_part u k = (no_token Unit.Blank u k (λ e. absurd cc), false_from_ne_true (is_comment u) (no_slash_blank u k))

-- the lengths add up after one more part
pub place_more : (old u new : List ℕ) (n at : ℕ) → at + length old ≡ n → old ≡ u ++ new
    → at + length u + length new ≡ n
place_more old u new n at e g = omega (arith, e, ap length g, length-append u new)

-- one more part is read
pub reads_more : (us : List (List ℕ)) (text rest u new : List ℕ) → Reads us text rest → IsPart rest u
    → rest ≡ u ++ new → Reads (us ++ u ∷ []) text new
reads_more [] text rest u new r p e =
    (subst (λ z. IsPart z u) (sym r) p, ap (drop (length u)) r ∙ after_part rest u new e)
reads_more (v ∷ us) text rest u new r p e = (r.0, reads_more us (drop (length v) text) rest u new r.1 p e)

-- what is left begins after the parts
pub reads_left : (us : List (List ℕ)) (text rest : List ℕ) → Reads us text rest
    → rest ≡ drop (sum_by length us) text
reads_left [] text rest r = sym r
reads_left (u ∷ us) text rest r = reads_left us (drop (length u) text) rest r.1
    ∙ drop-drop (sum_by length us) (length u) text
    ∙ ap (λ n. drop n text) (sym (sum_by-cons length u us))

part_boundary : (text u : List ℕ) → IsUtf8 text → IsPart text u → IsCharBoundary text (length u)
part_boundary text u utf8 (inl f) = unit_boundary text u utf8 f
part_boundary text u utf8 (inr (n, c)) = c.boundary

pub reads_utf8 : (us : List (List ℕ)) (text rest : List ℕ) → IsUtf8 text → Reads us text rest → IsUtf8 rest
reads_utf8 [] text rest utf8 r = subst IsUtf8 r utf8
reads_utf8 (u ∷ us) text rest utf8 r = reads_utf8 us (drop (length u) text) rest
    (IsUtf8-drop text (length u) utf8 (part_boundary text u utf8 r.0)) r.1

-- the units of a text that splits are its parts
pub units_are_parts : (us : List (List ℕ)) (text : List ℕ) → SplitsInto text us → AreParts text us
units_are_parts [] text s = s
units_are_parts (u ∷ us) text s = (inl s.0, units_are_parts us (drop (length u) text) s.1)
