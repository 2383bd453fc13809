use Rattle.std.proofs.Common.{◌≡◌, ◌++◌, ◌∷◌, drop}
use Rattle.std.specs.Prelude.{map}
use Rattle.std.specs.List.{flat_map}
use Rattle.tb_query.specs.declared.tokens.Kind.TheVariants.{By}
use Rattle.tb_query.specs.Grammar.{OfKind, separated_by, name_pieces}
use Rattle.tb_query.specs.Canonical.{texts_of, name_token}
use Rattle.tb_query.specs.Views.{text_views}
use Rattle.tb_query.proofs.print.add_dimensions.Given as goal

abbrev pub invariant-loop-of : goal.invariant-loop-of
invariant-loop-of l =
    text_views l.texts.items ++ texts_of (flat_map (λ y. OfKind By ∷ y) (name_pieces (map (name_token l.schema) (drop l.of-index l.rest)))) ≡ text_views l.fn.texts.items ++ texts_of (separated_by By (name_pieces (map (name_token l.schema) l.dimensions)))
