use Rattle.tb_model.specs.Schemas.{shape_of}
use Rattle.tb_session.specs.Parties.{IsPartyOf}
use Rattle.tb_party_tests.proofs.answers.asking.ask_all.Given as goal

-- the party is still one of the board
abbrev pub invariant-loop-line : goal.invariant-loop-line
invariant-loop-line g l = IsPartyOf g.B.Named.name (shape_of l.setting.setup.now.schema) l.party
