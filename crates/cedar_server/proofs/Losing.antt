-- Documents that are lost, and what is reported of them.
use Rattle.std.proofs.Common.{◌≡◌, ◌≢◌, ℕ, List, [], ◌∷◌, ◌++◌, Bool, true, false, cond, Option, Some, None, String, Global, string_bytes, refl, ap, sym, subst, ◌∙◌, append_assoc}
use Rattle.std.specs.Prelude.{All}
use Rattle.std.specs.Map.{lookup}
use Rattle.std.specs.Option.{option_map}
use Rattle.std.specs.Str.{bytes_eq}
use Rattle.std.specs.Ordering.{is_eq, nat_cmp}
use Rattle.std.specs.Cmp.Lexicographic.{slice_cmp}
use Rattle.std.proofs.lemmas.List.{append-nil}
use Rattle.std.proofs.lemmas.List.Elements.{All-nil, All-cons}
use Rattle.std.proofs.lemmas.Map.Text.{is_eq-slice_cmp}
use Rattle.std.proofs.lemmas.Bool.Decides.{same_from_decides}
use Rattle.std.proofs.lemmas.Slice.Eq.{bytes_eq-Decides}
use Rattle.cedar_edits.specs.declared.changes.Change.{Change}
use Rattle.cedar_edits.specs.declared.changes.Change.TheVariants.{Whole, Part}
use Rattle.cedar_edits.specs.declared.positions.Encoding.{Encoding}
use Rattle.cedar_edits.specs.Changes.{MakeInTurn}
use Rattle.cedar_server.specs.declared.documents.Document.{Document}
use Rattle.cedar_server.specs.declared.documents.Document.TheVariants.{Lost}
use Rattle.cedar_server.specs.declared.messages.ServerMessage.{ServerMessage}
use Rattle.cedar_server.specs.Sessions.{AreCleared, Documents, Give, IsPart, Judges, JudgesAll, Puts, State, lost, name_of_text, names_of_texts, state_in, state_of}

-- two texts are compared in either order
bytes_eq-swap : (xs ys : List ℕ) → bytes_eq xs ys ≡ bytes_eq ys xs
bytes_eq-swap xs ys =
    let turned = bytes_eq-Decides ys xs in
    same_from_decides (bytes_eq xs ys) (bytes_eq ys xs) (bytes_eq-Decides xs ys)
    (λ is. sym (turned.0 is), λ same. turned.1 (sym same))

-- the state at these bytes, if every document is lost
abbrev pub lost_among : List ℕ → List (String Global × Document) → Option State
lost_among q es = option_map (λ (d : Document). lost)
    (lookup (λ (k : String Global). is_eq (slice_cmp nat_cmp q (string_bytes k))) es)

-- forgetting what was found
abbrev pub forget : Option Document → Option State
forget = option_map (λ (d : Document). lost)

keeps_lost : (b : Bool) → Some lost ≡ cond b (Some lost) (Some lost)
keeps_lost true = refl
keeps_lost false = refl

first_found : (b : Bool) (d : Document) → forget (cond b (Some d) None) ≡ cond b (Some lost) None
first_found true d = refl
first_found false d = refl

found_before : (b last : Bool) (d : Document) (now before : Option Document)
    → forget now ≡ cond last (Some lost) (forget before)
    → forget (cond b (Some d) now) ≡ cond last (Some lost) (forget (cond b (Some d) before))
found_before true last d now before same = keeps_lost last
found_before false last d now before same = same

-- with one more document, that one is found, or what was found before
lost_more : (test : String Global → Bool) (es : List (String Global × Document)) (e : String Global × Document)
    → forget (lookup test (es ++ (e ∷ []))) ≡ cond (test e.0) (Some lost) (forget (lookup test es))
lost_more test [] e = first_found (test e.0) e.1
lost_more test (x ∷ xs) e =
    found_before (test x.0) (test e.0) x.1 (lookup test (xs ++ (e ∷ []))) (lookup test xs) (lost_more test xs e)

-- after a document was put into a state, its bytes have that, and others what they had
by_test : (uri q : List ℕ) (state : State) (old new : List ℕ → Option State) → new uri ≡ Some state
    → ((p : List ℕ) → p ≢ uri → new p ≡ old p) → (b : Bool) → bytes_eq uri q ≡ b → new q ≡ cond b (Some state) (old q)
by_test uri q state old new own others true is =
    subst (λ (p : List ℕ). new p ≡ Some state) ((bytes_eq-Decides uri q).0 is) own
by_test uri q state old new own others false is =
    others q (λ same. let t : bytes_eq uri q ≡ true = (bytes_eq-Decides uri q).1 (sym same) in cc)

-- one more document is lost
pub puts_lost : (q uri : List ℕ) (key : String Global) (d : Document) (old new : Documents) (es : List (String Global × Document))
    → Puts uri Lost old new → string_bytes key ≡ uri → state_in old q ≡ lost_among q es
    → state_in new q ≡ lost_among q (es ++ ((key, d) ∷ []))
puts_lost q uri key d old new es put is before =
    let test : String Global → Bool = λ (k : String Global). is_eq (slice_cmp nat_cmp q (string_bytes k)) in
    let looked : test key ≡ bytes_eq uri q = is_eq-slice_cmp q (string_bytes key)
    ∙ ap (λ (bytes : List ℕ). bytes_eq q bytes) is ∙ bytes_eq-swap q uri in
    by_test uri q lost (state_in old) (state_in new) put.own put.others (bytes_eq uri q) refl
    ∙ ap (λ (o : Option State). cond (bytes_eq uri q) (Some lost) o) before
    ∙ ap (λ (b : Bool). cond b (Some lost) (lost_among q es)) (sym looked)
    ∙ sym (lost_more test es (key, d))

-- a document that is found is lost then
pub found_is_lost : (o : Option Document) → forget o ≡ option_map (λ (s : State). lost) (option_map state_of o)
found_is_lost None = refl
found_is_lost (Some d) = refl

-- names of documents, one part after the other
pub names_of_texts-append : (xs ys : List (String Global × Document)) → names_of_texts (xs ++ ys) ≡ names_of_texts xs ++ names_of_texts ys
names_of_texts-append [] ys = refl
names_of_texts-append (x ∷ xs) ys =
    ap (λ (rest : List (List ℕ)). name_of_text (string_bytes x.0) x.1 ++ rest) (names_of_texts-append xs ys)
    ∙ sym (append_assoc (name_of_text (string_bytes x.0) x.1) (names_of_texts xs) (names_of_texts ys))

-- what is cleared, one part after the other
pub cleared_more : (us vs : List (List ℕ)) (told more : List ServerMessage) → AreCleared us told → AreCleared vs more → AreCleared (us ++ vs) (told ++ more)
cleared_more [] vs told more none last = subst (λ (ms : List ServerMessage). AreCleared vs (ms ++ more)) (sym none) last
cleared_more (u ∷ us) vs told more these last = (
  these.0,
  these.1 ++ more,
  ap (λ (ms : List ServerMessage). ms ++ more) these.2 ∙ append_assoc these.0 these.1 more,
  these.3,
  cleared_more us vs these.1 more these.4 last,
)

-- what is cleared of one document more
pub clears_one : (es : List (String Global × Document)) (key : String Global) (d : Document) (told own : List ServerMessage)
    → AreCleared (names_of_texts es) told → AreCleared (name_of_text (string_bytes key) d ++ []) own
    → AreCleared (names_of_texts (es ++ ((key, d) ∷ []))) (told ++ own)
clears_one es key d told own these last = subst (λ (us : List (List ℕ)). AreCleared us (told ++ own))
    (sym (names_of_texts-append es ((key, d) ∷ [])))
    (cleared_more (names_of_texts es) (name_of_text (string_bytes key) d ++ []) told own these last)

-- what is judged, and one document more
pub judged_more : (e : Encoding) (docs : Documents) (us : List (List ℕ)) (u : List ℕ) (told own : List ServerMessage)
    → JudgesAll e docs us told → Judges e u (state_in docs u) own → JudgesAll e docs (us ++ (u ∷ [])) (told ++ own)
judged_more e docs [] u told own none last =
    (own, [], subst (λ (ms : List ServerMessage). ms ++ own ≡ own ++ []) (sym none) (sym (append-nil own)), last, refl)
judged_more e docs (x ∷ xs) u told own these last = (
  these.0,
  these.1 ++ own,
  ap (λ (ms : List ServerMessage). ms ++ own) these.2 ∙ append_assoc these.0 these.1 own,
  these.3,
  judged_more e docs xs u these.1 own these.4 last,
)

-- changes that are not all of parts give a text, whatever the old one
pub text_given : (e : Encoding) (cs : List Change) (old new : List ℕ) → MakeInTurn e cs old new → ¬ (All IsPart cs) → Give e cs new
text_given e [] old new made others = absurd (others (All-nil IsPart))
text_given e (Whole text ∷ cs) old new made others =
    ([], cs, text, refl, subst (λ (bytes : List ℕ). MakeInTurn e cs bytes new) made.1 made.2)
text_given e (Part range text ∷ cs) old new made others =
    let rest : Give e cs new = text_given e cs made.0 new made.2
    (λ parts. others (All-cons IsPart (Part range text) cs tt parts)) in
    (Part range text ∷ rest.0, rest.1, rest.2, ap (λ (all : List Change). Part range text ∷ all) rest.3, rest.4)
