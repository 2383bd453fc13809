use Rattle.std.proofs.Common.{◌≡◌, ◌++◌, ◌∷◌, drop}
use Rattle.std.specs.Prelude.{map}
use Rattle.std.specs.List.{flat_map}
use Rattle.tb_query.specs.declared.tokens.Kind.TheVariants.{Comma}
use Rattle.tb_query.specs.Grammar.{OfKind, separated_by, code_pieces}
use Rattle.tb_query.specs.Canonical.{texts_of, code_token}
use Rattle.tb_query.specs.Views.{text_views}
use Rattle.tb_query.proofs.print.add_codes.Given as goal

abbrev pub invariant-loop-i : goal.invariant-loop-i
invariant-loop-i l =
    text_views l.texts.items ++ texts_of (flat_map (λ y. OfKind Comma ∷ y) (code_pieces (map (code_token l.schema l.of) (drop l.i l.codes)))) ≡ text_views l.fn.texts.items ++ texts_of (separated_by Comma (code_pieces (map (code_token l.schema l.of) l.codes)))
