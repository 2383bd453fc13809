-- What a put makes of what the file stands for after a stop.
use Rattle.std.specs.Prelude.{ℕ, List, [], ◌∷◌, ◌++◌, Option, None, Some}
use Rattle.tb_release.specs.declared.edits.Edit.{Edit}

-- from which moment on stops are looked at, and the batches with which the list begins of each file
-- that one of them left
pub record Since : Type 0 where
  pub moment : ℕ
  pub batches : List (List Edit)

-- what each file that a stop now may leave stands for: some batches, each as the list of its edits;
-- or, where one further batch is given, these, or these and that one. What a stop since the given
-- moment may have left stands for a beginning of the same that begins with the given batches.
abbrev pub FileStands : Type 1
FileStands = Since → List (List Edit) → Option (List Edit) → Type 0

-- a batch was added
abbrev pub IsAdded : List Edit → FileStands → FileStands → Type 0
IsAdded edits old new =
    (since : Since) (batches : List (List Edit)) → old since batches None
    → new since (batches ++ edits ∷ []) None

-- a batch may have been added
abbrev pub MayBeAdded : List Edit → FileStands → FileStands → Type 0
MayBeAdded edits old new =
    (since : Since) (batches : List (List Edit)) → old since batches None
    → new since batches (Some edits)

-- all is as it was
abbrev pub StaysAsItWas : FileStands → FileStands → Type 0
StaysAsItWas old new =
    (since : Since) (batches : List (List Edit)) (further : Option (List Edit))
    → old since batches further → new since batches further
