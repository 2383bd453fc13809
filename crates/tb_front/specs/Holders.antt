-- Who holds a part of a front, as contracts see them: a writer, a keeper, a pass, a note, a draft.
use Rattle.std.specs.Prelude.{◌≡◌, List, [], length, nat_lt, if◌then◌else◌, refl}
use Rattle.std.specs.Coded.{Coded, code_by, coded×, coded_list}
use mathlib.Core.List.{IsPrefix}
use Rattle.atomic_table.specs.Seated.{TableId, table_id_coded}

-- what no two fronts share; whoever has a front's name belongs to it
abbrev pub Name : Type 0
Name = TableId

-- a name that no front has
abbrev pub no_front : Name
no_front =
    record {
      words = 0;
      slots = 0;
      views_name = 0;
      atom = 0;
      block = 0;
      offset = 0;
      slot_names = [];
    }

-- the name of its front, the base of the chain, and the entries of the chain that it has seen
pub record Holder (E S : Type 0) : Type 0 where
  pub name : Name
  pub start : S
  pub list : List E

-- how a holder is coded, for a type whose value holds one
abbrev pub holder_code : {E S : Type 0} → Coded E → Coded S → Coded (Holder E S)
holder_code {E} {S} entry start =
    code_by (Name × (S × List E)) (coded× table_id_coded (coded× start (coded_list entry)))
    (λ h. (h.name, (h.start, h.list)))
    (λ p. record { name = p.0; start = p.1.0; list = p.1.1 })
    (λ _. refl)

abbrev pub holder : {E S : Type 0} → Name → S → List E → Holder E S
holder name start list = record { name = name; start = start; list = list }

-- holders of one front, with one base, of which the later has seen what the earlier has, or more
pub record IsLater {E S : Type 0} (earlier later : Holder E S) : Type 0 where
  pub front : later.name ≡ earlier.name
  pub base : later.start ≡ earlier.start
  pub begins : IsPrefix earlier.list later.list

-- the longer of two lists, and the first where they are of one length
abbrev pub longer : {E : Type 0} → List E → List E → List E
longer xs ys = if nat_lt (length xs) (length ys) then ys else xs
