-- Edits that fit a setup.
use Rattle.std.specs.Prelude.{◌<◌, ◌&&◌, ℕ, Bool, true, List, nat_lt}
use Rattle.tb_base.specs.declared.keys.Keys.{Keys}
use Rattle.tb_base.specs.Keys.{key_range}
use Rattle.tb_release.specs.declared.edits.Edit.{Edit}
use Rattle.tb_release.specs.declared.edits.Edit.TheVariants.{Add, Drop, Amend, Pvalue}
use Rattle.tb_release.specs.declared.edits.Edit.TheVariants.{Oldest, Threshold}
use Rattle.tb_release.specs.Laws.{EditFits}

-- the person's number is from 1 on, and the key is one of the key range
abbrev pub IsInRange : Keys → Edit → Type 0
IsInRange keys (Add person key codes) = (0 < person) × (key < key_range keys)
IsInRange keys (Drop person) = 0 < person
IsInRange keys (Amend person sets) = 0 < person
IsInRange keys (Pvalue row key pvalue) = key < key_range keys
IsInRange keys (Threshold value) = Unit {0}
IsInRange keys (Oldest oldest) = Unit {0}

-- an edit fits the shape and the key range of a setup
abbrev pub FitsSetup : List ℕ → Keys → Edit → Type 0
FitsSetup shape keys edit = EditFits shape edit × IsInRange keys edit

-- whether an edit's person and key are in range
abbrev pub is_in_range : Keys → Edit → Bool
is_in_range keys (Add person key codes) = nat_lt 0 person && nat_lt key (key_range keys)
is_in_range keys (Drop person) = nat_lt 0 person
is_in_range keys (Amend person sets) = nat_lt 0 person
is_in_range keys (Pvalue row key pvalue) = nat_lt key (key_range keys)
is_in_range keys (Threshold value) = true
is_in_range keys (Oldest oldest) = true
