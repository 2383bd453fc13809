use Rattle.std.proofs.Common.{◌≡◌, List, ℕ, Bor, ap, refl, ◌∙◌}
use Rattle.tb_base.specs.declared.records.Record.{Record}
use Rattle.tb_base.specs.Records.{category_at}
use Rattle.tb_base.specs.Pieces.{between, code_column}
use Rattle.tb_cube.proofs.ByColumn.{between-map}
use Rattle.tb_cube.proofs.Holding.{of-some}
use Rattle.tb_cube.proofs.columns.codes_in.Goals as goal

pub returns : goal.returns
returns c =
    of-some (λ (codes : Bor (List ℕ)). codes.now ≡ code_column (between c.args.from c.args.to c.args.piece.now) c.args.axis.variable) c.part.result
    (c.part.ensures ∙ ap (λ (codes : List ℕ). between c.args.from c.args.to codes) (c.in_ok-codes.ensures c.in_ok-codes.codes refl)
    ∙ between-map (λ (r : Record). category_at r c.args.axis.variable) c.args.from c.args.to c.args.piece.now)
