-- Records by column: their keys, and their categories of each variable.
use Rattle.std.specs.Prelude.{◌≡◌, ◌<◌, ◌++◌, ◌∷◌, [], ℕ, List, length, map}
use Rattle.std.specs.Prelude.{drop, remove, slice_index_or, slice_set, take}
use Rattle.std.specs.declared.vec.Vec.{Vec}
use Rattle.tb_base.specs.declared.records.Record.{Record}
use Rattle.tb_base.specs.Records.{category_at}

-- the keys of records, in order
abbrev pub key_column : List Record → List ℕ
key_column records = map (λ r. r.key) records

-- the categories of records of one variable, in order
abbrev pub code_column : List Record → ℕ → List ℕ
code_column records v = map (λ r. category_at r v) records

-- the columns of the first variables, as many as there are, of these records
abbrev pub AreColumns : {Z : Type 0} → List (Vec ℕ Z) → List Record → Type 0
AreColumns {Z} columns records =
    (v : ℕ) (d : Vec ℕ Z) → v < length columns
    → (slice_index_or columns v d).items ≡ code_column records v

-- each column is changed, in a way of its own
abbrev pub AreChanged :
    {Z : Type 0} → (ℕ → List ℕ → List ℕ) → List (Vec ℕ Z) → List (Vec ℕ Z) → Type 0
AreChanged {Z} change old new =
    (v : ℕ) (d : Vec ℕ Z) → v < length old
    → (slice_index_or new v d).items ≡ change v (slice_index_or old v d).items

-- with the category of one more record last
abbrev pub with_last : Record → ℕ → List ℕ → List ℕ
with_last r v codes = codes ++ category_at r v ∷ []

-- without the one at a place
abbrev pub without : ℕ → ℕ → List ℕ → List ℕ
without place v codes = remove codes place

-- with another record's at a place
abbrev pub with_other : ℕ → Record → ℕ → List ℕ → List ℕ
with_other place r v codes = slice_set codes place (category_at r v)

-- what is kept beside some records: their keys, and columns of their categories
pub record AreBeside {Z : Type 0} (keys : List ℕ) (columns : List (Vec ℕ Z))
    (records : List Record) : Type 0 where
  pub keys_are : keys ≡ key_column records
  pub columns_are : AreColumns columns records

-- the elements of a list from one place up to another, as far as it goes
abbrev pub between : {X : Type 0} → ℕ → ℕ → List X → List X
between from to xs = drop from (take to xs)
