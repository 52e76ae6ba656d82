-- Room that is left while marks are passed. No public contract uses it.
use Rattle.std.specs.Prelude.{ℕ, ◌-◌, min, vec_len, vec_capacity}
use Rattle.cedar_print.specs.declared.measure.Known.{Known}
use Rattle.cedar_print.specs.declared.place.Place.{Place}

-- how many marks more can be measured without more memory
abbrev pub spare_to_measure : Known → ℕ
spare_to_measure k = min (vec_capacity k.ends - vec_len k.ends) (min (vec_capacity k.breaks - vec_len k.breaks) (vec_capacity k.begins - vec_len k.begins))

-- how many nests and groups more can be entered without more memory
abbrev pub spare_to_enter : Place → ℕ
spare_to_enter p = vec_capacity p.outer - vec_len p.outer
