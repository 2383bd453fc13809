-- Worked payloads.
use Rattle.std.proofs.Common.{◌≡◌, ℕ, List, [], ◌∷◌, ◌++◌, Some, None, refl}
use Rattle.std.specs.Prelude.{negsuc}
use Rattle.tb_release.specs.declared.edits.Edit.{Edit}
use Rattle.tb_release.specs.declared.edits.Edit.TheVariants.{Add, Drop, Amend, Pvalue, Threshold, Oldest}
use Rattle.tb_spelling.specs.Spelling.{spelled}
use Rattle.tb_spelling.specs.Reading.{edits_in}

one_drop : spelled (Drop 104 ∷ []) ≡ 0 ∷ 0 ∷ 0 ∷ 1 ∷ 2 ∷ 0 ∷ 0 ∷ 0 ∷ 104 ∷ []
one_drop = refl

-- one of each kind
abbrev each_kind : List Edit
each_kind =
    Add 300 4000 (1 ∷ 0 ∷ 258 ∷ [])
    ∷ Drop 4294967295
    ∷ Amend 101 ((2, 5) ∷ (0, 1) ∷ [])
    ∷ Pvalue 3 64 (negsuc 1)
    ∷ Threshold 1000000
    ∷ Oldest 258
    ∷ []

abbrev an_add : List ℕ
an_add = 1 ∷ 0 ∷ 0 ∷ 1 ∷ 44 ∷ 15 ∷ 160 ∷ 0 ∷ 3 ∷ 0 ∷ 1 ∷ 0 ∷ 0 ∷ 1 ∷ 2 ∷ []

abbrev a_drop : List ℕ
a_drop = 2 ∷ 255 ∷ 255 ∷ 255 ∷ 255 ∷ []

abbrev an_amend : List ℕ
an_amend = 3 ∷ 0 ∷ 0 ∷ 0 ∷ 101 ∷ 0 ∷ 2 ∷ 0 ∷ 2 ∷ 0 ∷ 5 ∷ 0 ∷ 0 ∷ 0 ∷ 1 ∷ []

abbrev a_pvalue : List ℕ
a_pvalue = 4 ∷ 0 ∷ 3 ∷ 0 ∷ 64 ∷ 255 ∷ 254 ∷ []

abbrev a_threshold : List ℕ
a_threshold = 5 ∷ 0 ∷ 15 ∷ 66 ∷ 64 ∷ []

abbrev an_oldest : List ℕ
an_oldest = 6 ∷ 0 ∷ 0 ∷ 1 ∷ 2 ∷ []

abbrev each_payload : List ℕ
each_payload = 0 ∷ 0 ∷ 0 ∷ 6 ∷ (an_add ++ a_drop ++ an_amend ++ a_pvalue ++ a_threshold ++ an_oldest)

each_spelled : spelled each_kind ≡ each_payload
each_spelled = refl

each_read : edits_in each_payload ≡ Some each_kind
each_read = refl

-- bytes behind the last edit, and one byte too few
one_too_many : edits_in (0 ∷ 0 ∷ 0 ∷ 1 ∷ (a_drop ++ 0 ∷ [])) ≡ None
one_too_many = refl

one_too_few : edits_in (0 ∷ 0 ∷ 0 ∷ 1 ∷ 2 ∷ 0 ∷ 0 ∷ 0 ∷ []) ≡ None
one_too_few = refl

-- no edits, and more than there may be
no_edits : edits_in (0 ∷ 0 ∷ 0 ∷ 0 ∷ []) ≡ None
no_edits = refl

too_many_edits : edits_in (0 ∷ 0 ∷ 39 ∷ 17 ∷ a_drop) ≡ None
too_many_edits = refl

-- an amend of nothing, and one that sets a variable twice
amend_of_nothing : edits_in (0 ∷ 0 ∷ 0 ∷ 1 ∷ 3 ∷ 0 ∷ 0 ∷ 0 ∷ 101 ∷ 0 ∷ 0 ∷ []) ≡ None
amend_of_nothing = refl

amend_twice : edits_in (0 ∷ 0 ∷ 0 ∷ 1 ∷ 3 ∷ 0 ∷ 0 ∷ 0 ∷ 101 ∷ 0 ∷ 2 ∷ 0 ∷ 1 ∷ 0 ∷ 5 ∷ 0 ∷ 1 ∷ 0 ∷ 6 ∷ []) ≡ None
amend_twice = refl

-- no kind of edit
no_kind : edits_in (0 ∷ 0 ∷ 0 ∷ 1 ∷ 7 ∷ 0 ∷ 0 ∷ 0 ∷ 104 ∷ []) ≡ None
no_kind = refl
