-- The four variables of the generated files.
use Rattle.std.specs.Prelude.{ℕ, ◌+◌, ◌%◌, List, ◌++◌, codes, decimal}
use Rattle.tb_gen.specs.declared.variables.Variable.{Variable}
use Rattle.tb_gen.specs.declared.variables.Variable.TheVariants.{Area, Age, Sex, Tenure}

abbrev pub name_of : Variable → List ℕ
name_of Area = codes "AREA"
name_of Age = codes "AGE"
name_of Sex = codes "SEX"
name_of Tenure = codes "TENURE"

-- how many categories it has
abbrev pub categories_of : Variable → ℕ
categories_of Area = 100
categories_of Age = 101
categories_of Sex = 2
categories_of Tenure = 5

-- the code of its category of a number, from 0
abbrev pub code_of : Variable → ℕ → List ℕ
code_of Area k = codes "a" ++ decimal k
code_of Age k = decimal k
code_of Sex k = decimal (k + 1)
code_of Tenure k = decimal (k + 1)

-- the code of the category that a draw chooses
abbrev pub drawn_code : Variable → ℕ → List ℕ
drawn_code variable value = code_of variable (value % categories_of variable)
