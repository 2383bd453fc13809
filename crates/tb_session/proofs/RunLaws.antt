-- What a reply of a run shows at a place of a table is what its world shows.
use Rattle.std.proofs.Common.{◌≡◌, ◌∙◌, ℕ, List, ap, refl, sym}
use Rattle.std.specs.Prelude.{ℤ, slice_index_or}
use Rattle.tb_base.specs.declared.cells.Cell.{Cell}
use Rattle.tb_base.specs.Cells.{cell_of, empty_cell}
use Rattle.tb_core.proofs.ChainLemmas.{after_all, revised_at}
use Rattle.tb_core.proofs.CountLemmas.{chains_follow}
use Rattle.tb_model.specs.Cubes.{rolled_up}
use Rattle.tb_model.specs.Perturbations.{perturbation, shown, shown_text}
use Rattle.tb_model.specs.Places.{own_records, places_of, Place}
use Rattle.tb_model.specs.Rules.{pvalues_of, threshold_of}
use Rattle.tb_model.specs.Schemas.{shape_of}
use Rattle.tb_model.proofs.CellKeys.{worlds_show_the_same}
use Rattle.tb_session.specs.RunWorlds.{release_of, table_cells, world_of, AgreeingRepliesShowTheSame, RepliesShowTheirWorlds, RunWorld}
use Rattle.tb_session.proofs.OwnCells.{mapped-at, rolled-own}
use Rattle.tb_session.proofs.TakeRuns.{cells-taken}

-- the table's cell at the place is that of the place's own records
cell_shown : (w : RunWorld) → slice_index_or (table_cells w) w.at empty_cell ≡ cell_of (own_records w.setup.schema w.query w.place (release_of w).records)
cell_shown w =
    let shape : List ℕ = shape_of w.setup.schema in
    let revised = revised_at shape w.base _ w.number (chains_follow shape w.base w.capacity w.callers w.events w.fits) in
    let fit = (after_all shape w.base _ revised).fit in
    let taken = cells-taken shape w.base w.capacity w.callers w.fits w.events w.reply w.who w.number w.cells w.vars w.reply_is w.answers in
    ap (λ (cells : List Cell). slice_index_or (rolled_up w.setup.schema w.query shape w.vars cells) w.at empty_cell) taken
    ∙ ap (λ (cells : List Cell). slice_index_or cells w.at empty_cell) (rolled-own w.setup.schema w.line w.query w.vars (release_of w).records w.sound w.reads w.same_vars fit)
    ∙ mapped-at (λ (place : Place). cell_of (own_records w.setup.schema w.query place (release_of w).records)) (places_of w.setup.schema w.query) w.at w.place empty_cell w.there

pub replies_show_their_worlds : RepliesShowTheirWorlds
replies_show_their_worlds w =
    ap (λ (cell : Cell). shown_text (shown (pvalues_of w.setup (release_of w)) (threshold_of (release_of w)) cell)) (cell_shown w)

pub agreeing_replies_show_the_same : AgreeingRepliesShowTheSame
agreeing_replies_show_the_same v w agree =
    replies_show_their_worlds v ∙ worlds_show_the_same (world_of v) (world_of w) agree ∙ sym (replies_show_their_worlds w)
