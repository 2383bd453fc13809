-- The worlds of replies: what is shown at a place of a table that is made of a reply of a run.
use Rattle.std.specs.Prelude.{◌≡◌, ◌≢◌, ◌+◌, ℕ, false, List, [], ◌∷◌, ◌++◌, length}
use Rattle.std.specs.Prelude.{slice_get, slice_index_or, Some}
use Rattle.tb_base.specs.declared.cells.Cell.{Cell}
use Rattle.tb_base.specs.Cells.{empty_cell}
use Rattle.tb_core.specs.declared.events.Event.{Event}
use Rattle.tb_core.specs.declared.events.Event.TheVariants.{Take, Answer}
use Rattle.tb_core.specs.Callers.Stage.{Idle}
use Rattle.tb_core.specs.Desks.{release_at, IsRevised}
use Rattle.tb_core.specs.Laws.{got}
use Rattle.tb_core.specs.Runs.{after, run_of, start, RunState}
use Rattle.tb_model.specs.Cubes.{rolled_up}
use Rattle.tb_model.specs.Perturbations.{shown, shown_text}
use Rattle.tb_model.specs.Places.{Place, places_of}
use Rattle.tb_model.specs.Queries.{QueryValue}
use Rattle.tb_model.specs.Releases.{ReleaseValue}
use Rattle.tb_model.specs.Rules.{pvalues_of, threshold_of}
use Rattle.tb_model.specs.Schemas.{shape_of}
use Rattle.tb_model.specs.Setups.{SetupValue}
use Rattle.tb_model.specs.Worlds.{text_at, world_at, AgreeAt, World}
use Rattle.tb_plan.specs.Plans.{plan_of, vars_of}
use Rattle.tb_query.specs.Faults.{Reads}
use Rattle.tb_schema.specs.Sound.{IsSound}

-- a caller is not idle at a state, nor after any of the events that follow
abbrev pub IsNeverIdle : ℕ → RunState → List Event → Type 0
IsNeverIdle who s [] = slice_get s.callers who ≢ Some Idle
IsNeverIdle who s (event ∷ events) =
    (slice_get s.callers who ≢ Some Idle) × IsNeverIdle who (after s event) events

-- the reply at place i of a run answers a caller's take of some variables: the caller is idle
-- before the take, and never from then on until its answer, which adds that reply
pub record AnswersTake (first : RunState) (events : List Event) (i who : ℕ) (vars : List ℕ)
    : Type 0 where
  pub before : List Event
  pub between : List Event
  pub rest : List Event
  pub events_are :
      events ≡ before ++ Take who (Some vars) false ∷ (between ++ Answer who ∷ rest)
  pub idle : slice_get (run_of first before).callers who ≡ Some Idle
  pub busy : IsNeverIdle who (after (run_of first before) (Take who (Some vars) false)) between
  pub before_answer :
      length (run_of first (before ++ Take who (Some vars) false ∷ between)).replies ≡ i
  pub after_answer :
      length (run_of first
      (before ++ Take who (Some vars) false ∷ (between ++ Answer who ∷ []))).replies ≡ i + 1

-- each reply with cells of a run answers a take
abbrev pub RepliesAnswerTakes : Type 0
RepliesAnswerTakes =
    (shape : List ℕ) (base : ReleaseValue) (capacity callers : ℕ) (events : List Event)
    (i who n : ℕ) (cells : List Cell)
    → slice_get (run_of (start shape base capacity callers) events).replies i
    ≡ Some (got who n cells)
    → (vars : List ℕ) × AnswersTake (start shape base capacity callers) events i who vars

-- what a reply of a run tells of a place of a table
pub record RunWorld : Type 0 where
  -- a setup, and a release 0 that fits it
  pub setup : SetupValue
  -- each schema of the program is, by the invariant of `Schema`: no reply of it is left out
  pub sound : IsSound setup.schema
  pub base : ReleaseValue
  pub fits : IsRevised (shape_of setup.schema) base []
  -- a run of events from there, in which memory may be refused anywhere
  pub capacity : ℕ
  pub callers : ℕ
  pub events : List Event
  -- a reply of the run: its place among the replies, the caller, the number of the release and
  -- the cells
  pub reply : ℕ
  pub who : ℕ
  pub number : ℕ
  pub cells : List Cell
  pub reply_is :
      slice_get (run_of (start (shape_of setup.schema) base capacity callers) events).replies reply
      ≡ Some (got who number cells)
  -- the variables of the take that it answers
  pub vars : List ℕ
  pub answers :
      AnswersTake (start (shape_of setup.schema) base capacity callers) events reply who vars
  -- a query that a line reads as, and its plan's variables are those
  pub line : List ℕ
  pub query : QueryValue
  pub reads : Reads setup.schema line query
  pub same_vars : vars_of (plan_of setup.schema query) ≡ vars
  -- a place of the query's table, and which one it is in order
  pub at : ℕ
  pub place : Place
  pub there : slice_get (places_of setup.schema query) at ≡ Some place

-- the release over which the reply was made: that of its number, of the chain of the run
abbrev pub release_of : RunWorld → ReleaseValue
release_of w =
    release_at w.base
    (run_of (start (shape_of w.setup.schema) w.base w.capacity w.callers) w.events).desk.chain
    w.number

-- the world of the place at that release, which its records, its rules and the setup make
abbrev pub world_of : RunWorld → World
world_of w = world_at w.setup (release_of w) w.query w.place

-- the cells of the query's table, which are rolled up from the reply's
abbrev pub table_cells : RunWorld → List Cell
table_cells w = rolled_up w.setup.schema w.query (shape_of w.setup.schema) w.vars w.cells

-- the text that is shown at the place for its cell among these
abbrev pub reply_text : RunWorld → List ℕ
reply_text w =
    shown_text
    (shown (pvalues_of w.setup (release_of w)) (threshold_of (release_of w))
    (slice_index_or (table_cells w) w.at empty_cell))

-- a reply's cells show the text of its world, so that of its place's own records
abbrev pub RepliesShowTheirWorlds : Type 0
RepliesShowTheirWorlds = (w : RunWorld) → reply_text w ≡ text_at (world_of w)

-- where the worlds of two replies agree, of any two runs, the shown texts are equal
abbrev pub AgreeingRepliesShowTheSame : Type 0
AgreeingRepliesShowTheSame =
    (v w : RunWorld) → AgreeAt (world_of v) (world_of w) → reply_text v ≡ reply_text w
