use Rattle.std.proofs.Common.{◌+◌, arith, refl}
use Rattle.tb_release.specs.declared.replaying.Reached.{Reached}
use Rattle.tb_release.specs.Replays.{release_reached}
use Rattle.tb_release.proofs.Reaching.{can_replay, counts, led, same_sum}
use Rattle.tb_release.proofs.replaying.Reached.follow.Goals as goal

pub make_all-requires : goal.make_all-requires
make_all-requires g c = record { can = (release_reached c.args.self.now, can_replay c.args.self.now c.args.batch.now c.requires.reached c.requires.follows) }

pub overflow_cast-changes : goal.overflow_cast-changes
overflow_cast-changes g c =
    let few = (counts c.args.self.now c.args.batch.now c.requires.reached c.requires.follows).changes in omega (arith, few, c.len-changes.ensures)

pub overflow_cast-rule_edits : goal.overflow_cast-rule_edits
overflow_cast-rule_edits g c =
    let few = (counts c.args.self.now c.args.batch.now c.requires.reached c.requires.follows).edits in omega (arith, few, c.rule_edits-rule_edits.ensures)

pub overflow_add-self-3 : goal.overflow_add-self-3
overflow_add-self-3 g c =
    let few = (counts c.args.self.now c.args.batch.now c.requires.reached c.requires.follows).changes in omega (arith, few, c.len-changes.ensures)

pub overflow_add-self-4 : goal.overflow_add-self-4
overflow_add-self-4 g c =
    let few = (counts c.args.self.now c.args.batch.now c.requires.reached c.requires.follows).edits in omega (arith, few, c.len-changes.ensures, c.rule_edits-rule_edits.ensures)

pub overflow_add-self-5 : goal.overflow_add-self-5
overflow_add-self-5 g c =
    let few = (counts c.args.self.now c.args.batch.now c.requires.reached c.requires.follows).edits in omega (arith, few, c.len-changes.ensures, c.rule_edits-rule_edits.ensures)

pub returns-clause-led : goal.returns-clause-led
returns-clause-led g c =
    let old = c.args.self.now in
    let changes = c.len-changes.result in
    let rule_edits = c.rule_edits-rule_edits.result in
    let new : Reached = record { register = c.make_all.new.register; rules = c.follow.new.self; most = old.most; number = old.number + 1; changes = old.changes + changes; edits = old.edits + (changes + rule_edits) } in
    led old new c.args.batch.now c.requires.reached c.requires.follows
    (c.in_ok-make_all.ensures.leads (release_reached old) (can_replay old c.args.batch.now c.requires.reached c.requires.follows)) refl refl
    (same_sum old.changes c.len-changes.ensures) (same_sum old.edits (omega (arith, c.len-changes.ensures, c.rule_edits-rule_edits.ensures))) c.in_ok-follow.ensures
