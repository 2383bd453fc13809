-- What a party has seen, and the numbers of its releases.
use Rattle.std.proofs.Common.{◌≡◌, ◌∙◌, sym, ap, subst, refl, ℕ, ◌+◌, List, [], ◌∷◌, ◌++◌, length, take, inl, inr, arith}
use Rattle.std.specs.Prelude.{ℤ, None, Some, codes, decimal, flat_map, if◌then◌else◌, zip}
use Rattle.std.proofs.lemmas.Bool.{le-ltb}
use Rattle.std.proofs.lemmas.List.{length-take-le}
use mathlib.Core.List.{IsPrefix}
use Rattle.tb_base.specs.declared.cells.Cell.{Cell}
use Rattle.tb_front.proofs.Prefixes.{prefix_length, prefix_more, prefix_self, prefix_trans}
use Rattle.tb_model.specs.Places.{cells_of, places_of}
use Rattle.tb_model.specs.Queries.{QueryValue}
use Rattle.tb_model.specs.Releases.{ReleaseValue}
use Rattle.tb_model.specs.Rules.{pvalues_of, threshold_of}
use Rattle.tb_model.specs.Schemas.{SchemaValue}
use Rattle.tb_model.specs.Setups.{SetupValue}
use Rattle.tb_model.specs.Units.{homes_cells}
use Rattle.tb_model.specs.Texts.{heading, line_text, place_text, table_text, text_of_cells}
use Rattle.tb_release.specs.Batches.{BatchValue, batch_of}
use Rattle.tb_release.specs.Chains.{after_batch, release_after}
use Rattle.tb_session.specs.Asks.{asks_of}
use Rattle.tb_session.specs.Laws.{NumbersNeverFall, PastTablesNameTheirRelease, TablesNameTheirList}
use Rattle.tb_session.specs.PastTables.{oldest_of}
use Rattle.tb_lines.specs.Outputs.{ReplyValue}
use Rattle.tb_ahead.specs.Publishing.{IsPublishReply, StateValue}
use Rattle.tb_session.specs.Replies.{IsReplyTo}
use Rattle.tb_session.specs.Transcripts.{IsLegal, IsStep, Sees}
use Rattle.tb_session.proofs.Analysts.{seen_begins}
use Rattle.tb_session.specs.declared.asks.Asks.{Asks}
use Rattle.tb_session.specs.declared.asks.Asks.TheVariants as asks
use Rattle.tb_session.specs.declared.party.Role.{Role}
use Rattle.tb_session.specs.declared.party.Role.TheVariants as role

-- a release's number counts the batches that lead to it
pub number_after : (base : ReleaseValue) (chain : List BatchValue) → (release_after base chain).number ≡ base.number + length chain
number_after base [] = omega arith
number_after base (batch ∷ chain) = omega (arith, number_after (after_batch base batch) chain)

-- ---- batches that were seen stay
same_begins : (xs ys : List BatchValue) → ys ≡ xs → IsPrefix xs ys
same_begins xs ys same = subst (λ (zs : List BatchValue). IsPrefix xs zs) (sym same) (prefix_self xs)

same_chain : (state next : StateValue) → next ≡ state → IsPrefix state.chain next.chain
same_chain state next goes = same_begins state.chain next.chain (ap (λ (s : StateValue). s.chain) goes)

publish_begins : (release : ReleaseValue) (state next : StateValue) (text : List ℕ) → IsPublishReply release state text next → IsPrefix state.chain next.chain
publish_begins release state next text (inl (can, is, goes)) =
    subst (λ (s : StateValue). IsPrefix state.chain s.chain) (sym goes) (prefix_more state.chain state.chain (batch_of release state.held ∷ []) (prefix_self state.chain))
publish_begins release state next text (inr (inl (kind, edit, why, is, goes))) = same_begins state.chain next.chain (ap (λ (s : StateValue). s.chain) goes)
publish_begins release state next text (inr (inr (is, goes))) = same_chain state next goes

reply_begins : (what : Asks) (setup : SetupValue) (base : ReleaseValue) (state : StateValue) (line : List ℕ) (reply : ReplyValue) (next : StateValue) → IsReplyTo what setup base state line reply next → IsPrefix state.chain next.chain
reply_begins asks.Nothing setup base state line reply next (is, goes) = same_chain state next goes
reply_begins asks.Description setup base state line reply next (is, goes) = same_chain state next goes
reply_begins asks.Table setup base state line reply next (is, goes) = same_chain state next goes
reply_begins (asks.At number) setup base state line reply next (is, goes) = same_chain state next goes
reply_begins asks.Edit setup base state line reply next (free, same, is) = same_begins state.chain next.chain same
reply_begins asks.Publish setup base state line reply next (free, is) = publish_begins (release_after base state.chain) state next reply.text is
reply_begins asks.Stats setup base state line reply next (free, is, goes) = same_chain state next goes
reply_begins asks.Clear setup base state line reply next (is, goes) = same_chain state next goes
reply_begins (asks.Cache capacity) setup base state line reply next (free, is, goes) = same_chain state next goes

sees_begins : (who : Role) (line : List ℕ) (before at : StateValue) → Sees who line before at → IsPrefix before.chain at.chain
sees_begins role.Analyst line before at sees = seen_begins line before at sees
sees_begins role.Custodian line before at same = same_chain before at same

step_begins : (who : Role) (setup : SetupValue) (base : ReleaseValue) (before : StateValue) (line : List ℕ) (reply : ReplyValue) (after : StateValue) → IsStep who setup base before line reply after → IsPrefix before.chain after.chain
step_begins who setup base before line reply after (at, sees, is) =
    prefix_trans before.chain at.chain after.chain (sees_begins who line before at sees) (reply_begins (asks_of who line) setup base at line reply after is)

pub legal_begins : (who : Role) (setup : SetupValue) (base : ReleaseValue) (lines : List (List ℕ)) (replies : List ReplyValue) (first last : StateValue) → IsLegal who setup base first lines replies last → IsPrefix first.chain last.chain
legal_begins who setup base [] [] first last e = same_chain first last e
legal_begins who setup base [] (r ∷ rs) first last e = absurd e
legal_begins who setup base (x ∷ xs) [] first last e = absurd e
legal_begins who setup base (x ∷ xs) (r ∷ rs) first last (next, step, others) =
    prefix_trans first.chain next.chain last.chain (step_begins who setup base first x r next step) (legal_begins who setup base xs rs next last others)

-- so the numbers never fall
pub numbers_never_fall : NumbersNeverFall
numbers_never_fall who setup base first last lines replies legal =
    let begins = legal_begins who setup base lines replies first last legal in
    (begins, omega (arith, number_after base first.chain, number_after base last.chain, prefix_length first.chain last.chain begins))

-- ---- a table's first line
first_of : (a b c d : List ℕ) → IsPrefix a (((a ++ b) ++ c) ++ d)
first_of a b c d = prefix_more a ((a ++ b) ++ c) d (prefix_more a (a ++ b) c (b, refl))

text_begins : (schema : SchemaValue) (pvalues : ℕ → ℕ → ℤ) (threshold : ℕ) (query : QueryValue) (n : ℕ) (cells : List Cell) → IsPrefix (line_text (codes "release " ++ decimal n)) (text_of_cells schema pvalues threshold query n cells)
text_begins schema pvalues threshold query n cells =
    first_of (line_text (codes "release " ++ decimal n)) (heading schema query) (flat_map (λ p. place_text schema pvalues threshold query p.0 p.1) (zip (places_of schema query) cells)) (line_text (codes "."))

-- whatever its cells are
cells_name_their_list : (setup : SetupValue) (base : ReleaseValue) (chain : List BatchValue) (query : QueryValue) (cells : List Cell) → base.number ≡ 0
    → IsPrefix (line_text (codes "release " ++ decimal (length chain)))
    (text_of_cells setup.schema (pvalues_of setup (release_after base chain)) (threshold_of (release_after base chain)) query (release_after base chain).number cells)
cells_name_their_list setup base chain query cells none =
    let release : ReleaseValue = release_after base chain in
    let number : release.number ≡ length chain = number_after base chain ∙ omega (arith, none) in
    let text : List ℕ = text_of_cells setup.schema (pvalues_of setup release) (threshold_of release) query release.number cells in
    subst (λ n. IsPrefix (line_text (codes "release " ++ decimal n)) text) number
    (text_begins setup.schema (pvalues_of setup release) (threshold_of release) query release.number cells)

pub tables_name_their_list : TablesNameTheirList
tables_name_their_list setup base chain None query none = cells_name_their_list setup base chain query (cells_of setup.schema query (release_after base chain).records) none
tables_name_their_list setup base chain (Some units) query none = cells_name_their_list setup base chain query (homes_cells units setup.schema query (release_after base chain).records) none

-- a table of release n of a chain names n
pub past_tables_name_their_release : PastTablesNameTheirRelease
past_tables_name_their_release setup base chain n query none low young =
    let first : List ℕ = line_text (codes "release " ++ decimal n) in
    let long : length (take n chain) ≡ n = length-take-le n chain low in
    let table : IsPrefix first (table_text setup (release_after base (take n chain)) query) =
    subst (λ k. IsPrefix (line_text (codes "release " ++ decimal k)) (table_text setup (release_after base (take n chain)) query)) long (tables_name_their_list setup base (take n chain) None query none) in
    rw (le-ltb (length chain) n low) (rw (le-ltb n (oldest_of base chain) young) table)
