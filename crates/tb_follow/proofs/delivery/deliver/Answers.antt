use Rattle.tb_follow.specs.Chains.{number_at}
use Rattle.tb_follow.specs.Followers.{follower}
use Rattle.tb_follow.proofs.Given.{after-err, after-in, answer-by}
use Rattle.tb_follow.proofs.Keeping.{delivered-follower}
use Rattle.tb_follow.proofs.Telling.{delivered-told}
use Rattle.tb_follow.proofs.delivery.deliver.Goals as goal

pub returns-clause-given : goal.returns-clause-given
returns-clause-given g c =
    let m = c.args.message in
    let old = follower (g.A.Chain.value c.args.chain.now) c.args.window.now in
    let mid = follower (g.A.Chain.value c.take_in.new.chain) c.take_in.new.window in
    let new = follower (g.A.Chain.value c.catch_up.new.chain) c.catch_up.new.window in
    after-in c.catch_up.ensures.caught_up.0 old mid new m c.answer_by.result c.in_default.ensures.takes c.catch_up.ensures.caught_up.1
    (answer-by m.number c.number-before.result c.number.result c.answer_by.result (number_at old.chain) (number_at new.chain) c.answer_by.ensures c.number-before.ensures.number c.number.ensures.number)

pub returns-clause-own : goal.returns-clause-own
returns-clause-own g c =
    let old = follower (g.A.Chain.value c.args.chain.now) c.args.window.now in
    let new = follower (g.A.Chain.value c.catch_up.new.chain) c.catch_up.new.window in
    let is = returns-clause-given g c in
    delivered-follower is.0 old c.args.message new c.answer_by.result is.1 c.requires.own c.requires.fits

pub returns-clause-tells : goal.returns-clause-tells
returns-clause-tells g c =
    let old = follower (g.A.Chain.value c.args.chain.now) c.args.window.now in
    let new = follower (g.A.Chain.value c.catch_up.new.chain) c.catch_up.new.window in
    let is = returns-clause-given g c in
    delivered-told is.0 old c.args.message new c.answer_by.result is.1

pub returns-in-Err-clause-tells : goal.returns-in-Err-clause-tells
returns-in-Err-clause-tells g c =
    let old = follower (g.A.Chain.value c.args.chain.now) c.args.window.now in
    let new = follower (g.A.Chain.value c.take_in.new.chain) c.take_in.new.window in
    let is = after-err old new c.args.message c.in-Err.answer c.in-Err.ensures.takes in
    delivered-told is.0 old c.args.message new c.in-Err.answer is.1
