use Rattle.std.proofs.Common.{◌∙◌, ap, subst, sym}
use Rattle.tb_model.specs.Schemas.{shape_of}
use Rattle.tb_session.specs.Parties.{seen_by, state_of}
use Rattle.tb_session.specs.declared.party.Party.{Party}
use Rattle.tb_keep.specs.Publishers.{CanWriteAhead}
use Rattle.tb_keep.proofs.Owning.{fresh_base, fresh_owner, fresh_state}
use Rattle.tb_keep.proofs.publisher.BoardPublisherPublisherSetting.begin.Goals as goal

pub returns-clause-ready : goal.returns-clause-ready
returns-clause-ready g c = (
  c.requires.0,
  subst (λ (p : Party). CanWriteAhead g.B.Named.name (shape_of c.args._setting.now.setup.now.schema) p) (sym c.drop_held.ensures)
      (fresh_owner g.B.Named.name (shape_of c.args._setting.now.setup.now.schema) c.args.self.now.custody.party c.requires.1),
  tt,
)

pub returns-clause-base : goal.returns-clause-base
returns-clause-base g c = ap (λ (p : Party). (seen_by p).start.base) c.drop_held.ensures ∙ fresh_base c.args.self.now.custody.party

pub returns-clause-state : goal.returns-clause-state
returns-clause-state g c = ap state_of c.drop_held.ensures ∙ fresh_state c.args.self.now.custody.party
