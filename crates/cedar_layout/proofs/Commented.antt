-- The documents of comments and brackets.
use Rattle.std.proofs.Common.{◌≡◌, ℕ, ◌+◌, ◌<◌, List, [], ◌∷◌, ◌++◌, map, length, take, get_or, refl, sym, ap, ◌∙◌, arith, false, ◌==◌}
use Rattle.std.proofs.lemmas.Bool.Decides.{nat_tests}
use Rattle.std.proofs.lemmas.List.{map-append, take_more}
use Rattle.std.specs.Borrow.{Bor}
use Rattle.std.specs.declared.alloc.Global.{Global}
use Rattle.std.specs.declared.vec.Vec.{Vec}
use Rattle.cedar_layout.specs.declared.layout.Document.{Document}
use Rattle.cedar_layout.specs.declared.layout.Document.TheViews as made
use Rattle.cedar_layout.specs.declared.layout.Document.TheVariants.{Text, Hard}
use Rattle.cedar_layout.specs.Comments.{broken_lines, lead_of}
use Rattle.cedar_layout.specs.Layout.{Doc, text, hard, ◌·◌}
use Rattle.cedar_layout.specs.Value.{doc_of, docs_of}
use Rattle.cedar_layout.proofs.Values.{dot-nil, dot_assoc, doc_of_seq, doc_of_text, doc_of_hard, docs_of-push}

pub three : (v : Vec Document Global) (a b c : Document) → v.items ≡ a ∷ b ∷ c ∷ []
    → doc_of (made.Seq v) ≡ doc_of a · doc_of b · doc_of c
three v a b c e =
    doc_of_seq v ∙ ap docs_of e ∙ ap (λ x. doc_of a · doc_of b · x) (dot-nil (doc_of c))

lines-push : (ls : List (List ℕ)) (l : List ℕ)
    → broken_lines (ls ++ l ∷ []) ≡ broken_lines ls · text l · hard
lines-push [] l = refl
lines-push (x ∷ ls) l = ap (λ y. text x · hard · y) (lines-push ls l)

pub line_step : (old mid new : List Document) (ls : List (Bor (List ℕ))) (i : ℕ) (l : Bor (List ℕ))
    → i < length ls → mid ≡ old ++ Text (get_or ls i l) ∷ [] → new ≡ mid ++ Hard ∷ []
    → docs_of old ≡ hard · broken_lines (map (λ s. s.now) (take i ls))
    → docs_of new ≡ hard · broken_lines (map (λ s. s.now) (take (i + 1) ls))
line_step old mid new ls i l h m n o =
    let x = get_or ls i l in
    let a : docs_of new ≡ (docs_of old · text x.now) · hard = ap docs_of n ∙ docs_of-push mid Hard
    ∙ ap (λ y. docs_of mid · y) doc_of_hard ∙ ap (λ y. y · hard) (ap docs_of m
    ∙ docs_of-push old (Text x) ∙ ap (λ y. docs_of old · y) (doc_of_text x)) in
    let b : (docs_of old · text x.now) · hard
    ≡ hard · (broken_lines (map (λ s. s.now) (take i ls)) · text x.now · hard) =
    dot_assoc (docs_of old) (text x.now) hard ∙ ap (λ y. y · text x.now · hard) o
    ∙ dot_assoc hard (broken_lines (map (λ s. s.now) (take i ls))) (text x.now · hard) in
    let c : map (λ s. s.now) (take (i + 1) ls) ≡ map (λ s. s.now) (take i ls) ++ x.now ∷ [] =
    ap (map (λ (s : Bor (List ℕ)). s.now)) (take_more ls i l h)
    ∙ map-append (λ (s : Bor (List ℕ)). s.now) (take i ls) (x ∷ []) in
    a ∙ b
    ∙ ap (λ y. hard · y) (sym (ap broken_lines c ∙ lines-push (map (λ s. s.now) (take i ls)) x.now))

pub lead_is : (ls : List (List ℕ)) → 0 < length ls → hard · broken_lines ls ≡ lead_of ls
lead_is [] h = absurd (omega arith)
lead_is (l ∷ ls) h = refl

pub joined_three : (a x b c y : Doc) → a ≡ x → c ≡ y → a · b · c ≡ x · b · y
joined_three a x b c y e f = ap (λ z. z · b · c) e ∙ ap (λ z. x · b · z) f

pub not_zero : (n : ℕ) → (n == 0) ≡ false → 0 < n
not_zero n h = grind (arith, nat_tests)
