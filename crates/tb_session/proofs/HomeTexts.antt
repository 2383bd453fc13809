-- A line with `table` in place of `dwellings` is no longer.
use Rattle.std.proofs.Common.{◌≡◌, ◌∙◌, ℕ, ◌+◌, ◌-◌, ◌≤◌, true, ap, sym, List, ◌++◌, length, take, drop, length-append, arith}
use Rattle.std.specs.Prelude.{bytes_eq, codes}
use Rattle.std.specs.List.{position_or_len}
use Rattle.std.proofs.lemmas.List.{length-take-le, take-append-drop}
use Rattle.tb_base.proofs.Texts.{same_text}
use Rattle.tb_base.specs.Bytes.{after_blanks, is_blank}
use Rattle.tb_session.specs.Dwellings.{as_table, blanks_before, first_of}
use Rattle.tb_session.specs.PastLines.{after_word}
use Rattle.tb_session.proofs.PastTexts.{blanks_le}

pub no_longer : (line : List ℕ) → bytes_eq (first_of line) (codes "dwellings") ≡ true → length (as_table line) ≤ length line
no_longer line is =
    let rest : List ℕ = after_blanks line in
    let n : ℕ = position_or_len is_blank rest in
    let nine : length (take n rest) ≡ 9 = ap length (same_text (first_of line) (codes "dwellings") is) in
    let whole : length (take n rest) + length (drop n rest) ≡ length rest = sym (length-append (take n rest) (drop n rest)) ∙ ap length (take-append-drop n rest) in
    let front : length (blanks_before line) ≡ length line - length rest = length-take-le (length line - length rest) line (omega arith) in
    let named : length (blanks_before line ++ codes "table") ≡ length (blanks_before line) + 5 = length-append (blanks_before line) (codes "table") in
    let parts : length (as_table line) ≡ length (blanks_before line ++ codes "table") + length (after_word line) = length-append (blanks_before line ++ codes "table") (after_word line) in
    omega (arith, blanks_le line, nine, whole, front, named, parts)
