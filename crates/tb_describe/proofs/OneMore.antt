-- What one record more makes of a list.
use Rattle.std.proofs.Common.{◌≡◌, ◌∙◌, ◌++◌, ◌∷◌, ◌+◌, ℕ, List, [], ap, sym, map, append_assoc, append-nil, arith}
use Rattle.std.proofs.lemmas.Grind.{flat_map-append}
use Rattle.std.proofs.lemmas.List.FromFn.{map-range_with_len_more}
use Rattle.std.specs.List.{range_with_len}
use Rattle.csv.specs.Writing.{default_writer, row_text}
use Rattle.tb_describe.specs.Lists.{records_text}

-- the records of the numbers below k, and that of k
pub one_more : (record_of : ℕ → List (List ℕ)) (k : ℕ) (first old new : List ℕ) → old ≡ first ++ records_text (map record_of (range_with_len 0 k))
    → new ≡ old ++ row_text default_writer (record_of k) → new ≡ first ++ records_text (map record_of (range_with_len 0 (k + 1)))
one_more record_of k first old new so_far grown =
    let before = map record_of (range_with_len 0 k) in
    let row = row_text default_writer (record_of k) in
    grown
    ∙ ap (λ t. t ++ row) so_far
    ∙ append_assoc first (records_text before) row
    ∙ ap (λ t. first ++ (records_text before ++ t)) (sym (append-nil row))
    ∙ ap (λ t. first ++ t) (sym (flat_map-append (row_text default_writer) before (record_of k ∷ [])))
    ∙ ap (λ rs. first ++ records_text rs) (sym (map-range_with_len_more record_of 0 k k (omega arith)))
