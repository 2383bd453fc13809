use Rattle.tb_model.specs.Schemas.{shape_of}
use Rattle.tb_session.specs.Parties.{IsPartyOf}
use Rattle.tb_party_tests.proofs.answers.past.ask_present.Given as goal

-- the parties are still ones of the board
abbrev pub invariant-loop-number : goal.invariant-loop-number
invariant-loop-number g l =
    IsPartyOf g.B.Named.name (shape_of l.setting.setup.now.schema) l.own
    × IsPartyOf g.B.Named.name (shape_of l.setting.setup.now.schema) l.party
