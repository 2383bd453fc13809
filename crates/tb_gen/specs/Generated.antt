-- The five generated files.
use Rattle.std.specs.Prelude.{ℕ, ◌+◌, ◌*◌, ◌/◌, ◌%◌, List, [], ◌∷◌, ◌++◌, codes, decimal}
use Rattle.std.specs.Prelude.{ℤ, pos, ◌-ℤ◌, neg_ℤ}
use Rattle.std.specs.Int.{int_max}
use Rattle.std.specs.Fmt.{signed_decimal}
use Rattle.tb_gen.specs.declared.classes.TheConstants.{KEY_RANGE}
use Rattle.tb_base.specs.declared.limits.TheConstants.{LAST_ROW}
use Rattle.tb_gen.specs.declared.variables.Variable.{Variable}
use Rattle.tb_gen.specs.declared.variables.Variable.TheVariants.{Area, Age, Sex, Tenure}
use Rattle.tb_gen.specs.Draws.{after, draw, seed}
use Rattle.tb_gen.specs.Lines.{fields_line, each_below}
use Rattle.tb_gen.specs.Variables.{name_of, categories_of, code_of, drawn_code}

-- a category's line, where its code is its label too
abbrev pub class_line : Variable → ℕ → List ℕ
class_line variable k =
    fields_line (name_of variable ∷ code_of variable k ∷ code_of variable k ∷ [])

-- a line for each category of a variable
abbrev pub class_lines : Variable → List ℕ
class_lines variable = each_below (categories_of variable) (class_line variable)

-- the classification
abbrev pub generated_classes : List ℕ
generated_classes =
    codes "variable,code,label\n"
    ++ class_lines Area ++ class_lines Age ++ class_lines Sex ++ class_lines Tenure

-- the line of an age: its group is its decade
abbrev pub recode_line : ℕ → List ℕ
recode_line age =
    fields_line
    (codes "AGE10" ∷ name_of Age ∷ code_of Age age ∷ (codes "g" ++ decimal (age / 10)) ∷ [])

-- the recodes
abbrev pub generated_recodes : List ℕ
generated_recodes =
    codes "recode,variable,code,group\n" ++ each_below (categories_of Age) recode_line

-- a pvalue from -2 to 2, by a draw, which leaves no count of this row below 0
abbrev pub drawn_pvalue : ℕ → ℕ → ℤ
drawn_pvalue pcv value = int_max (neg_ℤ (pos pcv)) (pos (value % 5) -ℤ pos 2)

-- the line of a row and a cell key, with one draw from a state
abbrev pub pvalue_line : ℕ → ℕ → ℕ → List ℕ
pvalue_line pcv ckey x =
    fields_line
    (decimal pcv ∷ decimal ckey ∷ signed_decimal (drawn_pvalue pcv (draw 1 x)) ∷ [])

-- the lines of a row, one for each cell key
abbrev pub row_lines : ℕ → ℕ → List ℕ
row_lines pcv x = each_below KEY_RANGE (λ ckey. pvalue_line pcv ckey (after ckey x))

-- the perturbation table, of the rows from 1
abbrev pub generated_ptable : ℕ → List ℕ
generated_ptable start =
    codes "pcv,ckey,pvalue\n"
    ++ each_below LAST_ROW (λ i. row_lines (i + 1) (after (KEY_RANGE * i) (seed start 1)))

-- a person's line, with five draws from a state
abbrev pub person_line : ℕ → ℕ → List ℕ
person_line person x =
    fields_line
    (decimal person ∷ decimal (draw 1 x % KEY_RANGE) ∷ drawn_code Area (draw 2 x)
    ∷ drawn_code Age (draw 3 x) ∷ drawn_code Sex (draw 4 x) ∷ drawn_code Tenure (draw 5 x) ∷ [])

-- the microdata of so many persons, who are numbered from 1
abbrev pub generated_people : ℕ → ℕ → List ℕ
generated_people n start =
    codes "person,record_key,AREA,AGE,SEX,TENURE\n"
    ++ each_below n (λ i. person_line (i + 1) (after (5 * i) start))

-- a line that amends one of n persons, with two draws from a state
abbrev pub amend_line : ℕ → ℕ → List ℕ
amend_line n x =
    codes "custodian amend " ++ decimal (1 + draw 1 x % n)
    ++ codes " TENURE=" ++ drawn_code Tenure (draw 2 x) ++ codes "\n"

-- the amends of a round
abbrev pub amend_lines : ℕ → ℕ → List ℕ
amend_lines n x = each_below 50 (λ i. amend_line n (after (2 * i) x))

-- a round of the script: three tables, the amends, and a publication
abbrev pub round_lines : ℕ → ℕ → List ℕ
round_lines n x =
    codes "a table AREA by SEX with totals\n"
    ++ codes "b table AGE10 by TENURE where SEX in (1)\n"
    ++ codes "a table AREA by SEX with totals\n"
    ++ amend_lines n x
    ++ codes "custodian publish\n"

-- the script: ten rounds over n persons, and the desk's numbers
abbrev pub generated_script : ℕ → ℕ → List ℕ
generated_script n start =
    each_below 10 (λ i. round_lines n (after (100 * i) (seed start 2)))
    ++ codes "custodian stats\n"
