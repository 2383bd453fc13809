-- Worked tables, computed from the definitions.
use Rattle.std.specs.Prelude.{◌≡◌, refl, ℕ, List, [], ◌∷◌, ◌++◌, drop, codes, Some, pos, negsuc, map}
use Rattle.std.specs.List.{range_with_len}
use Rattle.tb_model.specs.declared.names.PerturbationLine.{PerturbationLine}
use Rattle.tb_base.specs.declared.records.Record.{Record}
use Rattle.tb_model.specs.Perturbations.{row_of_count}
use Rattle.tb_model.specs.Releases.{first_release}
use Rattle.tb_base.specs.Rules.{first_rules, with_pvalue, with_threshold}
use Rattle.tb_model.specs.Queries.{QueryValue}
use Rattle.tb_model.specs.Texts.{table_text}
use Rattle.tb_model.proofs.SmallSetup.{person, line, setup, wide_setup, lines, records, sex, age, area, age2, table, with_totals, with_labels, where_in, where_not_in}
use Rattle.tb_model.proofs.OnLiterals.{tables_on_literals}

-- the table at release 0, above a threshold
abbrev printed : ℕ → QueryValue → List ℕ
printed threshold query = table_text (setup lines) (first_release 1000000 threshold records) query

one_variable : printed 0 (table (sex ∷ [])) ≡ codes "release 0\nSEX,count\n1,1\n2,2\n.\n"
unfolding tables_on_literals
one_variable = refl

threshold_on_shown_count : printed 2 (table (sex ∷ [])) ≡ codes "release 0\nSEX,count\n1,c\n2,2\n.\n"
unfolding tables_on_literals
threshold_on_shown_count = refl

totals_are_cells_of_their_own : printed 0 (with_totals (table (sex ∷ []))) ≡ codes "release 0\nSEX,count\n1,1\n2,2\nTotal,6\n.\n"
unfolding tables_on_literals
totals_are_cells_of_their_own = refl

same_records_by_a_recode : printed 0 (table (age2 ∷ [])) ≡ codes "release 0\nAGE2,count\nyoung,1\nold,6\n.\n"
unfolding tables_on_literals
same_records_by_a_recode = refl

same_records_by_a_filter : printed 0 (with_totals (where_in (table (area ∷ [])) age2 (1 ∷ []))) ≡ codes "release 0\nAREA,count\nE1,1\nE2,1\nTotal,6\n.\n"
unfolding tables_on_literals
same_records_by_a_filter = refl

same_records_by_a_negated_filter : printed 0 (with_totals (where_not_in (table (sex ∷ [])) age (0 ∷ []))) ≡ codes "release 0\nSEX,count\n1,2\n2,2\nTotal,6\n.\n"
unfolding tables_on_literals
same_records_by_a_negated_filter = refl

labels_with_commas : printed 0 (with_labels (with_totals (table (area ∷ sex ∷ [])))) ≡ codes "release 0\nAREA,SEX,count\n\"North, rural\",Male,2\n\"North, rural\",Female,0\n\"North, rural\",Total,2\nSouth,Male,1\nSouth,Female,2\nSouth,Total,1\nTotal,Male,1\nTotal,Female,2\nTotal,Total,6\n.\n"
unfolding tables_on_literals
labels_with_commas = refl

no_records : table_text (setup lines) (first_release 1000000 0 []) (table (sex ∷ [])) ≡ codes "release 0\nSEX,count\n1,0\n2,0\n.\n"
unfolding tables_on_literals
no_records = refl

no_records_below_threshold : table_text (setup lines) (first_release 1000000 10 []) (table (sex ∷ [])) ≡ codes "release 0\nSEX,count\n1,c\n2,c\n.\n"
unfolding tables_on_literals
no_records_below_threshold = refl

-- the table at release 1, where a pvalue and the threshold were set
rules_of_a_release : table_text (setup lines)
    (record (first_release 1000000 0 records) { number = 1; edits = 2; rules = with_threshold (with_pvalue (first_rules 0) 3 64 (pos 5)) 3 }) (table (sex ∷ []))
    ≡ codes "release 1\nSEX,count\n1,8\n2,c\n.\n"
unfolding tables_on_literals
rules_of_a_release = refl

row_750 : row_of_count 750 ≡ Some 750
row_750 = refl

row_751 : row_of_count 751 ≡ Some 501
row_751 = refl

row_1000 : row_of_count 1000 ≡ Some 750
row_1000 = refl

row_1001 : row_of_count 1001 ≡ Some 501
row_1001 = refl

-- so many persons of SEX 1 with key 1
abbrev crowd : ℕ → List Record
crowd n = map (λ i. person i 1 (0 ∷ 0 ∷ 0 ∷ [])) (range_with_len 1 n)

-- their table, with one line of the perturbation table
abbrev printed_of : PerturbationLine → ℕ → List ℕ
printed_of listed n = table_text (setup (listed ∷ [])) (first_release 1000000 0 (crowd n)) (table (sex ∷ []))

shown_at_750 : printed_of (line 750 238 (pos 3)) 750 ≡ codes "release 0\nSEX,count\n1,753\n2,0\n.\n"
unfolding tables_on_literals
shown_at_750 = refl

shown_at_751 : printed_of (line 501 239 (negsuc 0)) 751 ≡ codes "release 0\nSEX,count\n1,750\n2,0\n.\n"
unfolding tables_on_literals
shown_at_751 = refl

shown_at_1000 : printed_of (line 750 232 (pos 4)) 1000 ≡ codes "release 0\nSEX,count\n1,1004\n2,0\n.\n"
unfolding tables_on_literals
shown_at_1000 = refl

shown_at_1001 : printed_of (line 501 233 (pos 5)) 1001 ≡ codes "release 0\nSEX,count\n1,1006\n2,0\n.\n"
unfolding tables_on_literals
shown_at_1001 = refl

-- the table by SEX of some persons, with the key range 4096 and one more line of the perturbation table
abbrev printed_wide : PerturbationLine → List Record → List ℕ
printed_wide listed people = table_text (wide_setup (lines ++ listed ∷ [])) (first_release 1000000 0 people) (table (sex ∷ []))

key_range_of_the_classification : printed_wide (line 3 320 (negsuc 0)) records ≡ codes "release 0\nSEX,count\n1,2\n2,2\n.\n"
unfolding tables_on_literals
key_range_of_the_classification = refl

-- the persons of the small setup, of whom the first has a key that passes 4095 in the sum
abbrev wide_records : List Record
wide_records = person 101 4000 (0 ∷ 0 ∷ 0 ∷ []) ∷ drop 1 records

sum_that_passes_4095 : printed_wide (line 3 24 (pos 2)) wide_records ≡ codes "release 0\nSEX,count\n1,5\n2,2\n.\n"
unfolding tables_on_literals
sum_that_passes_4095 = refl
