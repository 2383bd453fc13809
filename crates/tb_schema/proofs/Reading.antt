-- What is true of recodes that were read.
use Rattle.std.proofs.Common.{◌≡◌, ◌∙◌, ap, sym, subst, refl, ℕ, ◌+◌, ◌<◌, ◌≤◌, List, [], ◌∷◌, ◌++◌, length, map, Option, Some, None, Ok, IfSome, arith}
use Rattle.std.specs.Prelude.{bytes_eq, find, unwrap_or}
use Rattle.std.specs.List.{IsDistinct}
use Rattle.std.proofs.lemmas.List.{length-map}
use Rattle.std.proofs.lemmas.List.Elements.{All-map, All-weaker}
use Rattle.tb_rows.specs.Formats.{value_of}
use Rattle.tb_rows.specs.WholeFiles.{AddUp}
use Rattle.tb_rows.proofs.Meaning.{means_itself}
use Rattle.tb_rows.proofs.WholeFiles.{accepted_where}
use Rattle.tb_model.specs.Schemas.{RecodeValue, SchemaValue, VariableValue}
use Rattle.tb_schema.specs.Names.{recode_names, variable_names}
use Rattle.tb_schema.specs.Partial.{ArePartial, IsPartialOf}
use Rattle.tb_schema.specs.RecodeFiles.{AreRecodes}
use Rattle.tb_schema.specs.Recodes.{PartialRecode, PartialValue, RecodeLine, and_recode, is_partial, partial_names, recodes_file, recodes_of, unless_partial, whole_recode}
use Rattle.tb_schema.specs.Sound.{IsRecodeOf, IsSound}
use Rattle.tb_schema.specs.declared.fault.ClassFile.TheVariants.{Recodes}
use Rattle.tb_schema.specs.declared.limits.TheConstants.{MOST_VARIABLES}
use Rattle.tb_schema.proofs.Kept.{groups-few, kept, kept-variables, nothing-read}
use Rattle.tb_schema.proofs.WholeFiles.{in_file-ok}

-- lines leave the recodes sound, and the variables as they are
record Led (variables : List VariableValue) (after : PartialValue) : Type 0 where
  known : ArePartial after
  same : after.variables ≡ variables

led : (lines : List RecodeLine) (n : ℕ) (before after : PartialValue) → ArePartial before → AddUp and_recode n before lines after → Led before.variables after
led [] n before after s e = subst (Led before.variables) e (record { known = s; same = refl })
led (line ∷ lines) n before after s (next, one, more) =
    let rest = led lines (n + 1) next after (kept n before next line s one).known more in
    record { known = rest.known; same = rest.same ∙ kept-variables n before next line one }

-- a recode that lacks no code
number-within : (n : ℕ) → 1 ≤ n → (o : Option ℕ) → IfSome o (λ g. g < n) → unwrap_or o 0 < n
number-within n some None i = omega arith
number-within n some (Some g) i = i

whole-of : (so_far : PartialValue) → ArePartial so_far → (r : PartialRecode) → IsPartialOf so_far.variables r → IsRecodeOf so_far.variables (whole_recode r)
whole-of so_far s r is = record {
  variable = is.variable;
  total = length-map r.grouping.group_of (λ (o : Option ℕ). unwrap_or o 0) ∙ is.grouping.total;
  groups = All-map (λ g. g < length r.grouping.groups) (λ (o : Option ℕ). unwrap_or o 0) r.grouping.group_of
      (All-weaker (λ o. IfSome o (λ g. g < length r.grouping.groups)) (λ o. unwrap_or o 0 < length r.grouping.groups) (number-within (length r.grouping.groups) is.some) r.grouping.group_of is.grouping.groups);
  codes = is.grouping.codes;
  some = is.some;
  few = groups-few so_far s r is;
}

whole_names : (rs : List PartialRecode) → recode_names (map whole_recode rs) ≡ partial_names rs
whole_names [] = refl
whole_names (r ∷ rs) = ap (λ ns. r.name ∷ ns) (whole_names rs)

sound-whole : (schema : SchemaValue) (so_far : PartialValue) → IsSound schema → Led schema.variables so_far → IsSound (record schema { recodes = map whole_recode so_far.recodes })
sound-whole schema so_far s led = subst (λ vs. IsSound (record { keys = schema.keys; persons = schema.persons; variables = vs; recodes = map whole_recode so_far.recodes })) led.same (record {
  persons = s.persons;
  names = subst (λ ns. IsDistinct bytes_eq (variable_names so_far.variables ++ ns)) (sym (whole_names so_far.recodes)) led.known.names;
  few_variables = subst (λ (vs : List VariableValue). length vs ≤ MOST_VARIABLES) (sym led.same) s.few_variables;
  few_recodes = omega (arith, led.known.few, length-map so_far.recodes whole_recode);
  variables = led.known.variables;
  recodes = All-map (IsRecodeOf so_far.variables) whole_recode so_far.recodes (All-weaker (IsPartialOf so_far.variables) (λ r. IsRecodeOf so_far.variables (whole_recode r)) (whole-of so_far led.known) so_far.recodes led.known.recodes);
})

finished : (rs : List PartialRecode) (o : Option PartialRecode) (ws : List RecodeValue) → unless_partial rs o ≡ Ok ws → map whole_recode rs ≡ ws
finished rs None ws h = cc
finished rs (Some r) ws h = cc

-- a classification with recodes that were read is sound
pub sound-read : (schema : SchemaValue) (bytes : List ℕ) (rs : List RecodeValue) → IsSound schema → recodes_of schema bytes ≡ Ok rs → IsSound (record schema { recodes = rs })
sound-read schema bytes rs s h =
    let file = recodes_file schema in
    let accepted = (accepted_where file (AreRecodes schema) (means_itself file) bytes rs).0 ((in_file-ok Recodes (value_of file bytes) rs).0 h) in
    let (width, places, rows, lines, so_far, is, lead, end) = accepted in
    subst (λ rs. IsSound (record schema { recodes = rs })) (finished so_far.recodes (find is_partial so_far.recodes) rs end)
    (sound-whole schema so_far s (led lines 1 (record { variables = schema.variables; recodes = [] }) so_far (nothing-read schema s) lead.together))
