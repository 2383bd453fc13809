use Rattle.std.proofs.Common.{◌≡◌, ℕ, ◌+◌, List, length, ◌∷◌, [], sym, ap, ◌∙◌, subst, length-append}
use Rattle.std.specs.Prelude.{All}
use Rattle.std.specs.Arc.{arc_value}
use Rattle.tb_core.specs.Desks.{DeskValue}
use Rattle.tb_model.specs.Releases.{ReleaseValue}
use Rattle.tb_release.specs.Batches.{BatchValue}
use Rattle.tb_release.specs.Results.{ChangeFits}
use Rattle.tb_board.specs.Custodians.{CustodianValue, PublicationValue}
use Rattle.tb_board.specs.Holders.{HolderValue, holder_at, with_batch}
use Rattle.tb_board.proofs.Whole.{has_room, number_more}
use Rattle.tb_board.proofs.locked.Locked.publish.Goals as goal

pub adopt-requires-clause-fit : goal.adopt-requires-clause-fit
adopt-requires-clause-fit g c =
    let desk : c.args.self.now ≡ c.self.inside.desk = sym (c.self.view_is ∙ c.meet.ensures.same.0) in
    let shape : c.args.custodian.now.writer.start.shape ≡ c.self.inside.desk.shape = ap (λ (h : HolderValue). h.start.shape) c.meet.ensures.met ∙ ap (λ (d : DeskValue). d.shape) desk in
    let batch : c.args.publication.batch ≡ arc_value c.publication.inside.batch = sym (ap (λ (p : PublicationValue). p.batch) c.publication.view_is) in
    subst (λ (x : List ℕ × BatchValue). All (ChangeFits x.0) x.1.changes) (λ i. (shape i, batch i)) c.requires.publication.changes_fit

pub hand_on-requires-clause-room : goal.hand_on-requires-clause-room
hand_on-requires-clause-room g c =
    let room = has_room c.args.custodian.now.writer _ _ c.meet.ensures.chain c.requires.whole.current c.requires.publication.follows in
    let keeper : c.args.custodian.now.writer ≡ c.self.inside.keeper =
    c.meet.ensures.met ∙ ap (holder_at g.B.Named.name) (sym (c.self.view_is ∙ c.meet.ensures.same.0)) ∙ sym c.self.invariant in
    rw (sym keeper) room

pub hand_on-requires-clause-fit : goal.hand_on-requires-clause-fit
hand_on-requires-clause-fit g c =
    let keeper : c.args.custodian.now.writer ≡ c.self.inside.keeper =
    c.meet.ensures.met ∙ ap (holder_at g.B.Named.name) (sym (c.self.view_is ∙ c.meet.ensures.same.0)) ∙ sym c.self.invariant in
    let batch : c.args.publication.batch ≡ c.publication.inside.step = sym (c.publication.invariant.1
    ∙ ap (λ (p : PublicationValue). p.batch) c.publication.view_is) in
    subst (λ (x : HolderValue × BatchValue). All (ChangeFits x.0.start.shape) x.1.changes) (λ i.
    (keeper i, batch i)) c.requires.publication.changes_fit

pub returns-clause-number : goal.returns-clause-number
returns-clause-number g c =
    let keeper : c.args.custodian.now.writer ≡ c.self.inside.keeper =
    c.meet.ensures.met ∙ ap (holder_at g.B.Named.name) (sym (c.self.view_is ∙ c.meet.ensures.same.0)) ∙ sym c.self.invariant in
    let number = number_more c.args.custodian.now c.args.publication _ c.requires.whole c.meet.ensures.chain c.requires.publication in
    let own : c.publication.inside.kept.value ≡ c.args.publication.release = c.publication.invariant.0 ∙ ap (λ (p : PublicationValue). p.release) c.publication.view_is in
    let pass : c.custodian.inside.pass ≡ with_batch c.self.inside.keeper c.publication.inside.step =
    ap (λ (o : CustodianValue). o.pass) c.custodian.view_is ∙ c.hand_on.ensures.pass in
    let long : length c.custodian.inside.pass.list ≡ length c.self.inside.keeper.list + 1 = ap (λ (h : HolderValue). length h.list) pass ∙ length-append c.self.inside.keeper.list (c.publication.inside.step ∷ []) in
    c.number.ensures ∙ ap (λ (r : ReleaseValue). r.number) own ∙ number ∙ ap (λ (h : HolderValue). length h.list + 1) keeper ∙ sym long
