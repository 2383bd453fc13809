use Rattle.std.proofs.Common.{◌≡◌, ◌∙◌, ap, sym, List, ℕ, Some}
use Rattle.tb_board.specs.Starts.{StartValue}
use Rattle.tb_board.proofs.Taking.{may_offer, taken_for}
use Rattle.tb_core.specs.Got.{cube_got}
use Rattle.tb_core.specs.Takes.{number_of, release_in}
use Rattle.tb_cube.specs.Cubes.{cube_over, unpacked}
use Rattle.tb_tables.proofs.Cubed.{has-cube}
use Rattle.tb_session.proofs.count.count_by_cube.Goals as goal

pub cube_of-requires-clause-has : goal.cube_of-requires-clause-has
cube_of-requires-clause-has g c = λ κs lives. rw c.vars-2.ensures.vars (has-cube c.args.plan.now c.args.shape.now c.requires.shape c.requires.cube)

pub cube_of-requires-clause-taken : goal.cube_of-requires-clause-taken
cube_of-requires-clause-taken g c = λ κs lives.
    let seen = c.take.new.pass in
    let shape : seen.start.shape ≡ c.args.shape.now = ap (λ (s : StartValue). s.shape) c.in_ok-taken.ensures.later.base ∙ c.requires.own.fits in
    let vars : c.vars-2.result.now ≡ c.vars.result.now = c.vars-2.ensures.vars ∙ sym c.vars.ensures.vars in
    (seen.start.base, seen.list, rw vars (taken_for seen c.vars.result.now c.args.shape.now c.in_ok-taken.taken c.in_ok-taken.ensures.taken shape))

-- a cube that was made is one of the chain that the pass has seen
pub offer-requires-clause-cube : goal.offer-requires-clause-cube
offer-requires-clause-cube g c =
    let seen = c.take.new.pass in
    let taken = c.in_ok-taken.taken in
    let shape : seen.start.shape ≡ c.args.shape.now = ap (λ (s : StartValue). s.shape) c.in_ok-taken.ensures.later.base ∙ c.requires.own.fits in
    let vars : c.vars-2.result.now ≡ c.vars-in-Made.result.now = c.vars-2.ensures.vars ∙ sym c.vars-in-Made.ensures.vars in
    let number : c.number-number.result ≡ number_of taken = c.number-number.ensures ∙ ap (λ r. r.number) c.deref-2.ensures in
    let cube : unpacked c.in-Made.cube ≡ cube_over seen.start.shape c.vars-in-Made.result.now (release_in taken).records =
    sym (ap cube_got c.in-Made.is)
    ∙ c.in_ok-got.ensures.cube
    ∙ ap (λ (s : List ℕ). cube_over s c.vars-2.result.now (release_in taken).records) (sym shape)
    ∙ ap (λ (vs : List ℕ). cube_over seen.start.shape vs (release_in taken).records) vars in
    may_offer seen (Some c.vars.result.now) taken c.vars-in-Made.result.now c.number-number.result c.in-Made.cube c.in_ok-taken.ensures.taken number cube
