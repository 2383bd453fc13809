use Rattle.std.proofs.Common.{◌≡◌, ◌∙◌, sym, ap, List, [], ◌∷◌, Some, None, arith, ℕ, length-append}
use Rattle.csv.specs.Records.{fields_of}
use Rattle.tb_rows.specs.Columns.{only_index}
use Rattle.tb_base.proofs.AllThere.{one-more, one-missing}
use Rattle.tb_rows.proofs.format.indices_in.Goals as goal

pub returns-in-None-clause-indices : goal.returns-in-None-clause-indices
returns-in-None-clause-indices g c =
    let header : List (List ℕ) = fields_of c.args.header.now in
    let names : List (List ℕ) = (g.F.FileFormat.format c.args.format.now).columns in
    let none : c.index_of.result ≡ None = c.in-None.is in
    let found = ap (λ name. only_index name header) (sym c.column.ensures) ∙ sym c.index_of.ensures ∙ none in
    sym (one-missing (λ name. only_index name header) names c.loop-i.i [] c.loop-i.indices.items c.loop-i.invariant.indices (omega arith) found)

pub loop-i-preserved : goal.loop-i-preserved
loop-i-preserved g c =
    let header : List (List ℕ) = fields_of c.args.header.now in
    let names : List (List ℕ) = (g.F.FileFormat.format c.args.format.now).columns in
    let some : c.index_of.result ≡ Some c.in-Some.index = c.in-Some.is in
    let found = ap (λ name. only_index name header) (sym c.column.ensures) ∙ sym c.index_of.ensures ∙ some in
    rw c.in_ok-push-in-Some.ensures.items (record {
      long = omega (arith, length-append c.loop-i.indices.items (c.in-Some.index ∷ []), c.loop-i.invariant.long);
      indices = one-more (λ name. only_index name header) names c.loop-i.i [] c.loop-i.indices.items c.loop-i.invariant.indices c.in-Some.index (omega arith) found;
    })
