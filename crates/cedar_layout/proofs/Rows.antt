-- The worked rows, computed.
use Rattle.std.proofs.Common.{◌≡◌, ℕ, false, List, [], ◌∷◌, ◌++◌, negsuc, pos, refl, subst}
use Rattle.std.specs.Prelude.{codes}
use Rattle.std.specs.List.{flat_map}
use Rattle.unicode_width.proofs.Computing.{unicode_width}
use Rattle.cedar_layout.specs.Layout.{Doc, ◌·◌, text, line, hard, nest, group, columns, print, IsLayoutAt}
use Rattle.cedar_layout.specs.Inside.Computed.{laid}
use Rattle.cedar_layout.proofs.Rule.{laid_is_layout}

abbrev shown : ℕ → Doc → List ℕ
shown w d = flat_map print (laid w d false 0 0 0)

abbrev a : Doc
a = text (codes "a")

abbrev b : Doc
b = text (codes "b")

abbrev c : Doc
c = text (codes "c")

abbrev japan : List ℕ
japan = 230 ∷ 151 ∷ 165 ∷ 230 ∷ 156 ∷ 172 ∷ []

pair_fits : shown 4 (group (a · line · b) · c) ≡ codes "a bc"
unfolding columns unicode_width
pair_fits = refl

pair_with_tail_too_wide : shown 3 (group (a · line · b) · c) ≡ codes "a\nbc"
unfolding columns unicode_width
pair_with_tail_too_wide = refl

tail_ends_at_a_line : shown 3 (group (a · line · b) · group (line · c))
    ≡ codes "a b\nc"
unfolding columns unicode_width
tail_ends_at_a_line = refl

hard_breaks_its_group : shown 80 (group (a · line · b · hard · c))
    ≡ codes "a\nb\nc"
unfolding columns unicode_width
hard_breaks_its_group = refl

wide_characters_fit : shown 6 (group (text japan · line · b)) ≡ japan ++ codes " b"
unfolding columns unicode_width
wide_characters_fit = refl

wide_characters_too_wide : shown 5 (group (text japan · line · b)) ≡ japan ++ codes "\nb"
unfolding columns unicode_width
wide_characters_too_wide = refl

indentation_stops_at_zero : shown 80 (nest (negsuc 4) (hard · text (codes "x"))) ≡ codes "\nx"
unfolding columns unicode_width
indentation_stops_at_zero = refl

-- the document of `permit(principal,action,resource);`
bare : Doc
bare = group (text (codes "permit") · line · text (codes "("))
    · group (nest (pos 2) (text (codes "principal") · text (codes ",") · text (codes " ")
    · text (codes "action") · text (codes ",") · text (codes " ") · text (codes "resource")))
    · text (codes ")") · text (codes ";")

policy_fits : shown 37 bare ≡ codes "permit (principal, action, resource);"
unfolding columns unicode_width bare
policy_fits = refl

policy_too_wide : shown 36 bare ≡ codes "permit\n(principal, action, resource);"
unfolding columns unicode_width bare
policy_too_wide = refl

-- a group in a sequence in a sequence
last_group_broken : shown 4 (group (a · line · b) · c · group (line · text (codes "d")))
    ≡ codes "a bc\nd"
unfolding columns unicode_width
last_group_broken = refl

first_group_broken : shown 3 (group (a · line · b) · c · group (line · text (codes "d")))
    ≡ codes "a\nbc\nd"
unfolding columns unicode_width
first_group_broken = refl

pair_is_layout : IsLayoutAt 4 (group (a · line · b) · c) (codes "a bc")
pair_is_layout = subst (IsLayoutAt 4 (group (a · line · b) · c)) pair_fits
    (laid_is_layout 4 (group (a · line · b) · c))
