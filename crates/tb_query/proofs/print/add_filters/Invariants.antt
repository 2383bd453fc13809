use Rattle.std.proofs.Common.{◌≡◌, ◌++◌, ◌∷◌, drop}
use Rattle.std.specs.Prelude.{map}
use Rattle.std.specs.List.{flat_map}
use Rattle.tb_query.specs.declared.tokens.Kind.TheVariants.{And}
use Rattle.tb_query.specs.Grammar.{OfKind, filter_pieces, where_pieces}
use Rattle.tb_query.specs.Canonical.{texts_of, named_filter}
use Rattle.tb_query.specs.Views.{text_views}
use Rattle.tb_query.proofs.print.add_filters.Given as goal

abbrev pub invariant-loop-f : goal.invariant-loop-f
invariant-loop-f l =
    text_views l.texts.items ++ texts_of (flat_map (λ y. OfKind And ∷ y) (map filter_pieces (map (named_filter l.schema) (drop l.f-index l.rest)))) ≡ text_views l.fn.texts.items ++ texts_of (where_pieces (map (named_filter l.schema) l.filters))
