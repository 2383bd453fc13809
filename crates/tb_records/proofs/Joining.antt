-- The people of a file out of those of its parts.
use Rattle.std.proofs.Common.{◌≡◌, ◌∙◌, sym, ap, subst, refl, ℕ, List, [], ◌∷◌, ◌++◌, map, Result, Ok, Err, Bor}
use Rattle.std.specs.Prelude.{flat_map, IfOk, MatchResult, Contains}
use Rattle.std.specs.List.{AllZip}
use Rattle.std.specs.declared.vec.Vec.{Vec}
use Rattle.std.proofs.lemmas.List.{map-append}
use Rattle.tb_base.specs.declared.records.Record.{Record}
use Rattle.tb_model.specs.Schemas.{SchemaValue}
use Rattle.tb_rows.specs.Columns.{HeaderValue}
use Rattle.tb_rows.specs.Cutting.{all_records}
use Rattle.tb_rows.specs.Formats.{line_under}
use Rattle.tb_rows.specs.Records.{records_of}
use Rattle.tb_rows.specs.WholeFiles.{IsFile}
use Rattle.tb_rows.proofs.WholeFiles.{accepted_where}
use Rattle.tb_records.specs.Lines.{AreLines}
use Rattle.tb_records.specs.People.{people_file, people_of}
use Rattle.tb_records.specs.WholeFiles.{ArePeople, MayStand}
use Rattle.tb_records.proofs.WholeFiles.{are_people}

-- the lines of all parts are those of all their records
lines-joined : {Z : Type 0} (schema : SchemaValue) (header : HeaderValue) (parts : List (Bor (List ℕ))) (lists : List (Vec Record Z))
    → AllZip (λ (part : Bor (List ℕ)) (list : Vec Record Z). AreLines schema header part.now list.items) parts lists
    → map (line_under (people_file schema) header.width header.indices) (all_records parts) ≡ map (λ one. Ok one) (flat_map (λ (list : Vec Record Z). list.items) lists)
unfolding AreLines
lines-joined schema header [] [] h = refl
lines-joined schema header [] (list ∷ lists) h = absurd h
lines-joined schema header (part ∷ parts) [] h = absurd h
lines-joined {Z} schema header (part ∷ parts) (list ∷ lists) h =
    map-append (line_under (people_file schema) header.width header.indices) (records_of part.now) (all_records parts)
    ∙ ap (λ rs. rs ++ map (line_under (people_file schema) header.width header.indices) (all_records parts)) h.0
    ∙ ap (λ rs. map (λ one. Ok one) list.items ++ rs) (lines-joined schema header parts lists h.1)
    ∙ sym (map-append (λ one. Ok one) list.items (flat_map (λ (list : Vec Record Z). list.items) lists))

-- where they may stand together, they are the people
pub people-joined : {Z : Type 0} (schema : SchemaValue) (bytes : List ℕ) (header : HeaderValue) (parts : List (Bor (List ℕ))) (lists : List (Vec Record Z)) (people : List Record)
    → IsFile (people_file schema) bytes header.width header.indices (all_records parts)
    → AllZip (λ (part : Bor (List ℕ)) (list : Vec Record Z). AreLines schema header part.now list.items) parts lists
    → people ≡ flat_map (λ (list : Vec Record Z). list.items) lists → MayStand schema.persons people → people_of schema bytes ≡ Ok people
people-joined schema bytes header parts lists people file each all stand =
    (accepted_where (people_file schema) (ArePeople schema.persons) (are_people schema) bytes people).1 (
      header.width,
      header.indices,
      all_records parts,
      people,
      people,
      file,
      record { each = lines-joined schema header parts lists each ∙ ap (λ rs. map (λ one. Ok one) rs) (sym all); together = (stand, refl) },
      refl,
    )

-- what each part gave, of parts that were all read
all-read : {X Y : Type 0} (E : Type 0) (R : X → Y → Type 0) (parts : List X) (lists : List Y) → AllZip (λ part (result : Result Y E). IfOk result (λ list. R part list)) parts (map (λ list. Ok list) lists) → AllZip R parts lists
all-read E R [] [] h = tt
all-read E R [] (list ∷ lists) h = absurd h
all-read E R (part ∷ parts) [] h = absurd h
all-read E R (part ∷ parts) (list ∷ lists) h = (h.0, all-read E R parts lists h.1)

pub all-collected : {X Y E Z : Type 0} (R : X → Y → Type 0) (parts : List X) (results : List (Result Y E)) (r : Result (Vec Y Z) E)
    → AllZip (λ part (result : Result Y E). IfOk result (λ list. R part list)) parts results
    → MatchResult r (λ v. (lists : List Y) × (results ≡ map (λ list. Ok list) lists) × (v.items ≡ lists)) (λ e. Contains results (Err e))
    → IfOk r (λ v. AllZip R parts v.items)
all-collected {X} {Y} {E} R parts results (Ok v) each (lists, are, items) =
    subst (λ ls. AllZip R parts ls) (sym items) (all-read E R parts lists (subst (λ rs. AllZip (λ part (result : Result Y E). IfOk result (λ list. R part list)) parts rs) are each))
all-collected R parts results (Err e) each h = tt
