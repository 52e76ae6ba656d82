-- Worked texts, computed. Each row has a text's units, separated by `~`, and the result:
-- accepted, or refused at a byte.
use Rattle.std.specs.Prelude.{◌≡◌, ℕ, zero, suc, true, false, ◌==◌, if◌then◌else◌, List, [], ◌∷◌, ◌++◌, codes}
use Rattle.std.proofs.Common.{refl}
use Rattle.cedar_tokens.specs.Units.{slots, punctuators}
use Rattle.cedar_grammar.specs.Texts.{greatest_depth}
use Rattle.cedar_grammar.specs.Reader.Reading.{both, tree, nest, many, repeat, token, choice}
use Rattle.cedar_grammar.specs.Reader.Rules.{tailed}
use Rattle.cedar_grammar.proofs.Verdicts.{Verdict, accepted, refused, too_large, verdict}

abbrev with_first : ℕ → List (List ℕ) → List (List ℕ)
with_first b [] = (b ∷ []) ∷ []
with_first b (l ∷ ls) = (b ∷ l) ∷ ls

abbrev pieces : List ℕ → List (List ℕ)
pieces [] = [] ∷ []
pieces (b ∷ bs) = if b == 126 then [] ∷ pieces bs else with_first b (pieces bs)

abbrev copies : ℕ → List ℕ → List ℕ
copies zero text = []
copies (suc n) text = text ++ copies n text

abbrev row : List ℕ → Verdict
row text = verdict greatest_depth (pieces text)

abbrev condition : List ℕ
condition = codes "permit~(~principal~,~action~,~resource~)~when~{~"

nothing : row (codes "") ≡ accepted
unfolding both tree nest many repeat token choice tailed slots punctuators
nothing = refl

policies : row
    (codes "permit~(~principal~,~action~,~resource~)~;~permit~(~principal~,~action~,~resource~)~;")
    ≡ accepted
unfolding both tree nest many repeat token choice tailed slots punctuators
policies = refl

scope : row (codes "permit~(~principal~,~action~,~resource~)~;") ≡ accepted
unfolding both tree nest many repeat token choice tailed slots punctuators
scope = refl

scope_equal : row (codes "permit~(~principal~ ~==~ ~User~::~\"a\"~,~action~,~resource~)~;")
    ≡ accepted
unfolding both tree nest many repeat token choice tailed slots punctuators
scope_equal = refl

scope_slot : row (codes "permit~(~principal~ ~==~ ~?principal~,~ ~action~,~ ~resource~)~;")
    ≡ accepted
unfolding both tree nest many repeat token choice tailed slots punctuators
scope_slot = refl

annotation : row (codes "@~id~(~\"x\"~)~permit~(~principal~,~action~,~resource~)~;") ≡ accepted
unfolding both tree nest many repeat token choice tailed slots punctuators
annotation = refl

numbers : row (codes "permit~(~principal~,~action~,~resource~)~when~{~007~==~7~}~;") ≡ accepted
unfolding both tree nest many repeat token choice tailed slots punctuators
numbers = refl

number_too_large : row (codes
    "permit~(~principal~,~action~,~resource~)~when~{~18446744073709551616~==~7~}~;") ≡ too_large 38
unfolding both tree nest many repeat token choice tailed slots punctuators
number_too_large = refl

number_in_no_list : row (codes ")~18446744073709551616") ≡ too_large 1
unfolding both tree nest many repeat token choice tailed slots punctuators
number_in_no_list = refl

number_at_the_limit : row
    (codes "permit~(~principal~,~action~,~resource~)~when~{~18446744073709551615~}~;") ≡ accepted
unfolding both tree nest many repeat token choice tailed slots punctuators
number_at_the_limit = refl

empty_condition : row (codes "permit~(~principal~,~action~,~resource~)~when~{~}~;")
    ≡ refused false 38
unfolding both tree nest many repeat token choice tailed slots punctuators
empty_condition = refl

no_semicolon : row (codes "permit~ ~(~principal~,~ ~action~,~ ~resource~)") ≡ refused false 36
unfolding both tree nest many repeat token choice tailed slots punctuators
no_semicolon = refl

path_alone : row (codes "permit~(~principal~,~action~,~resource~)~when~{~a~}~;") ≡ refused false 39
unfolding both tree nest many repeat token choice tailed slots punctuators
path_alone = refl

five_signs : row (codes "permit~(~principal~,~action~,~resource~)~when~{~!~!~!~!~!~true~}~;")
    ≡ refused false 42
unfolding both tree nest many repeat token choice tailed slots punctuators
five_signs = refl

four_signs : row (codes "permit~(~principal~,~action~,~resource~)~when~{~!~!~!~!~true~}~;")
    ≡ accepted
unfolding both tree nest many repeat token choice tailed slots punctuators
four_signs = refl

two_comparisons : row (codes "permit~(~principal~,~action~,~resource~)~when~{~1~==~2~==~3~}~;")
    ≡ refused false 42
unfolding both tree nest many repeat token choice tailed slots punctuators
two_comparisons = refl

slash : row (codes "permit~(~principal~,~action~,~resource~)~when~{~1~/~2~}~;") ≡ refused false 39
unfolding both tree nest many repeat token choice tailed slots punctuators
slash = refl

comma_in_scope : row (codes "permit~(~principal~,~action~,~resource~,~)~;") ≡ accepted
unfolding both tree nest many repeat token choice tailed slots punctuators
comma_in_scope = refl

has_and_method : row
    (codes
    "permit~(~principal~,~action~,~resource~)~unless~{~principal~ ~has~ ~a~.~b~&&~resource~.~tags~.~contains~(~\"x\"~)~}~;")
    ≡ accepted
unfolding both tree nest many repeat token choice tailed slots punctuators
has_and_method = refl

records : row
    (codes
    "permit~(~principal~,~action~,~resource~)~when~{~{~a~:~1~,~\"b\"~:~[~2~,~-~3~]~}~==~context~&&~principal~ ~is~ ~A~::~B~ ~in~ ~A~::~\"c\"~}~;")
    ≡ accepted
unfolding both tree nest many repeat token choice tailed slots punctuators
records = refl

if_then_else : row
    (codes
    "permit~(~principal~,~action~,~resource~)~when~{~if~ ~a~::~\"x\"~==~principal~ ~then~ ~true~ ~else~ ~false~}~;")
    ≡ accepted
unfolding both tree nest many repeat token choice tailed slots punctuators
if_then_else = refl

call : row (codes "permit~(~principal~,~action~,~resource~)~when~{~f~(~1~ ~// x~\n~// y~\n~)~}~;")
    ≡ accepted
unfolding both tree nest many repeat token choice tailed slots punctuators
call = refl

action_list : row (codes
    "permit~(~principal~,~action~ ~in~ ~[~A~::~\"x\"~,~A~::~\"y\"~]~,~resource~)~;") ≡ accepted
unfolding both tree nest many repeat token choice tailed slots punctuators
action_list = refl

two_semicolons : row (codes "permit~(~principal~,~action~,~resource~)~;~;") ≡ refused false 34
unfolding both tree nest many repeat token choice tailed slots punctuators
two_semicolons = refl

scope_unfinished : row (codes "permit~(~principal~,~action") ≡ refused false 23
unfolding both tree nest many repeat token choice tailed slots punctuators
scope_unfinished = refl

keyword_annotation : row (codes "@~if~ ~permit~(~principal~,~action~,~resource~)")
    ≡ refused false 37
unfolding both tree nest many repeat token choice tailed slots punctuators
keyword_annotation = refl

string_annotation : row (codes "@~\"x\"") ≡ refused false 1
unfolding both tree nest many repeat token choice tailed slots punctuators
string_annotation = refl

wrong_slot : row (codes "permit~(~principal~ ~==~ ~?resource~,~action~,~resource~)~;")
    ≡ refused false 20
unfolding both tree nest many repeat token choice tailed slots punctuators
wrong_slot = refl

in_without_entity : row (codes "permit~(~principal~ ~is~ ~A~ ~in~,~action~,~resource~)~;")
    ≡ refused false 24
unfolding both tree nest many repeat token choice tailed slots punctuators
in_without_entity = refl

has_keyword : row (codes "permit~(~principal~,~action~,~resource~)~when~{~principal~ ~has~ ~if~}~;")
    ≡ refused false 52
unfolding both tree nest many repeat token choice tailed slots punctuators
has_keyword = refl

mixed_signs : row (codes "permit~(~principal~,~action~,~resource~)~when~{~!~-~1~}~;")
    ≡ refused false 39
unfolding both tree nest many repeat token choice tailed slots punctuators
mixed_signs = refl

in_path : row (codes "permit~(~principal~,~action~,~resource~)~when~{~1~ ~is~ ~A~ ~in~ ~B~}~;")
    ≡ refused false 49
unfolding both tree nest many repeat token choice tailed slots punctuators
in_path = refl

keyword_field : row (codes "permit~(~principal~,~action~,~resource~)~when~{~context~.~true~}~;")
    ≡ refused false 46
unfolding both tree nest many repeat token choice tailed slots punctuators
keyword_field = refl

method_of_path : row (codes "permit~(~principal~,~action~,~resource~)~when~{~a~::~b~.~c~(~)~}~;")
    ≡ refused false 42
unfolding both tree nest many repeat token choice tailed slots punctuators
method_of_path = refl

number_key : row (codes "permit~(~principal~,~action~,~resource~)~when~{~{~1~:~2~}~}~;")
    ≡ refused false 39
unfolding both tree nest many repeat token choice tailed slots punctuators
number_key = refl

key_alone : row (codes "permit~(~principal~,~action~,~resource~)~when~{~{~a~}~}~;")
    ≡ refused false 40
unfolding both tree nest many repeat token choice tailed slots punctuators
key_alone = refl

word_field : row (codes "permit~(~principal~,~action~,~resource~)~when~{~context~.~permit~}~;")
    ≡ accepted
unfolding both tree nest many repeat token choice tailed slots punctuators
word_field = refl

comma_in_action_list : row
    (codes "permit~(~principal~,~action~ ~in~ ~[~A~::~\"x\"~,~]~,~resource~)~;") ≡ accepted
unfolding both tree nest many repeat token choice tailed slots punctuators
comma_in_action_list = refl

comma_in_list : row (codes "permit~(~principal~,~action~,~resource~)~when~{~[~1~,~2~,~]~==~[~]~}~;")
    ≡ accepted
unfolding both tree nest many repeat token choice tailed slots punctuators
comma_in_list = refl

comma_in_record_and_call : row
    (codes "permit~(~principal~,~action~,~resource~)~when~{~f~(~{~a~:~1~,~}~,~)~}~;") ≡ accepted
unfolding both tree nest many repeat token choice tailed slots punctuators
comma_in_record_and_call = refl

comma_alone : row (codes "permit~(~principal~,~action~,~resource~)~when~{~[~,~]~}~;")
    ≡ refused false 39
unfolding both tree nest many repeat token choice tailed slots punctuators
comma_alone = refl

two_commas : row (codes "permit~(~principal~,~action~,~resource~)~when~{~[~1~,~,~]~}~;")
    ≡ refused false 41
unfolding both tree nest many repeat token choice tailed slots punctuators
two_commas = refl

comma_in_annotation : row (codes "@~id~(~\"x\"~,~)~permit~(~principal~,~action~,~resource~)~;")
    ≡ refused false 7
unfolding both tree nest many repeat token choice tailed slots punctuators
comma_in_annotation = refl

brackets_128 : row (condition ++ copies 128 (codes "(~") ++ codes "true" ++ copies 128 (codes "~)")
    ++ codes "~}~;") ≡ accepted
unfolding both tree nest many repeat token choice tailed slots punctuators
brackets_128 = refl

brackets_129 : row (condition ++ copies 129 (codes "(~") ++ codes "true" ++ copies 129 (codes "~)")
    ++ codes "~}~;") ≡ refused true 166
unfolding both tree nest many repeat token choice tailed slots punctuators
brackets_129 = refl

ifs_129 : row (condition ++ copies 129 (codes "if~ ~true~ ~then~ ~true~ ~else~ ~")
    ++ codes "true~}~;") ≡ refused true 2982
unfolding both tree nest many repeat token choice tailed slots punctuators
ifs_129 = refl

list_inside : row (condition ++ copies 128 (codes "(~") ++ codes "[") ≡ refused true 166
unfolding both tree nest many repeat token choice tailed slots punctuators
list_inside = refl

call_inside : row (condition ++ copies 128 (codes "(~") ++ codes "f~(") ≡ refused true 167
unfolding both tree nest many repeat token choice tailed slots punctuators
call_inside = refl

closed_inside : row (condition ++ copies 128 (codes "(~") ++ codes ")") ≡ refused false 166
unfolding both tree nest many repeat token choice tailed slots punctuators
closed_inside = refl

index_inside : row (condition ++ copies 128 (codes "(~") ++ codes "principal~[~\"x\"~]"
    ++ copies 128 (codes "~)") ++ codes "~}~;") ≡ accepted
unfolding both tree nest many repeat token choice tailed slots punctuators
index_inside = refl

if_inside : row (condition ++ copies 128 (codes "(~") ++ codes "if") ≡ refused true 166
unfolding both tree nest many repeat token choice tailed slots punctuators
if_inside = refl

bracket_after_129 : row (condition ++ copies 129 (codes "(~") ++ codes "]") ≡ refused true 166
unfolding both tree nest many repeat token choice tailed slots punctuators
bracket_after_129 = refl

bracket_after_128 : row (condition ++ copies 128 (codes "(~") ++ codes "]") ≡ refused false 166
unfolding both tree nest many repeat token choice tailed slots punctuators
bracket_after_128 = refl
