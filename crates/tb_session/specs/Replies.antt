-- The replies to a party's lines. Nothing here speaks of the program.
use Rattle.std.specs.Prelude.{◌≡◌, ◌⊎◌, ◌<◌, ◌+◌, ◌++◌, ◌∷◌, ℕ, List, [], length}
use Rattle.std.specs.Prelude.{Option, None, Some, if◌then◌else◌, is_none}
use Rattle.tb_model.specs.Releases.{ReleaseValue}
use Rattle.tb_model.specs.Setups.{SetupValue}
use Rattle.tb_model.specs.Queries.{QueryValue}
use Rattle.tb_model.specs.Units.{UnitsValue}
use Rattle.tb_core.specs.Turns.{AreStats}
use Rattle.tb_core.specs.Takes.{cube_price}
use Rattle.tb_core.specs.declared.desk.Stats.{Stats}
use Rattle.tb_describe.specs.Descriptions.{IsDescription}
use Rattle.tb_plan.specs.Plans.{PlanValue, cube_cells_of, plan_of}
use Rattle.tb_revise.specs.Faults as edits
use Rattle.tb_revise.specs.FaultNames as edit_names
use Rattle.tb_revise.specs.declared.fault.EditTextFault.{EditTextFault}
use Rattle.tb_rows.specs.FaultNames.{FaultNameValue}
use Rattle.tb_release.specs.Batches.{BatchValue}
use Rattle.tb_release.specs.Chains.{release_after}
use Rattle.tb_release.specs.declared.edits.Edit.{Edit}
use Rattle.tb_release.specs.declared.limits.TheConstants.{MOST_EDITS}
use Rattle.tb_session.specs.Asks.{asks_of}
use Rattle.tb_session.specs.Dwellings.{homes_asked, read_as}
use Rattle.tb_lines.specs.Outputs.{ReplyValue}
use Rattle.tb_session.specs.PastLines.{past_query}
use Rattle.tb_session.specs.PastTables.{IsPastAnswer}
use Rattle.tb_session.specs.ReplyLines.{held_line, edit_refusal_line}
use Rattle.tb_revise.specs.FaultNames.{too_many}
use Rattle.tb_ahead.specs.Publishing.{IsPublishReply, StateValue}
use Rattle.tb_session.specs.ReplyLines.{stats_line, cleared_line, capacity_line}
use Rattle.tb_session.specs.declared.asks.Asks.{Asks}
use Rattle.tb_session.specs.declared.asks.Asks.TheVariants as asks
use Rattle.tb_session.specs.declared.party.Role.{Role}
use Rattle.tb_tables.specs.Answers.{AnswersBy, IsAnswerBy, free_reply, table_reply}
use Rattle.tb_tables.specs.Homes.{homes_reply}
use Rattle.tb_tables.specs.ReplyLines.{memory_line}

-- how many records the table of a plan may cost: the release's; or, where it can be counted by a
-- cube, as many changes as led to the release, if these are more
abbrev pub plan_price : PlanValue → ReleaseValue → ℕ
plan_price plan release =
    if is_none (cube_cells_of plan) then length release.records else cube_price release

-- how many the table of a query may
abbrev pub table_price : SetupValue → ReleaseValue → QueryValue → ℕ
table_price setup release query = plan_price (plan_of setup.schema query) release

-- the whole reply to a query over a release: its table of these dwellings, or of persons at that
-- price
abbrev pub whole_of : SetupValue → ReleaseValue → Option UnitsValue → QueryValue → ReplyValue
whole_of setup release None = table_reply setup release (table_price setup release)
whole_of setup release (Some units) = homes_reply setup units release

-- a reply over a release to a line that asks for a table: that of its query, the line of the
-- query's first fault, or that memory was refused
abbrev pub IsTableReply : SetupValue → ReleaseValue → List ℕ → ReplyValue → Type 0
IsTableReply setup release line reply =
    IsAnswerBy setup (whole_of setup release (homes_asked setup line))
    (read_as (homes_asked setup line) line) reply

-- such a line gets this text, at no more than its price
abbrev pub AnswersLine : SetupValue → ReleaseValue → List ℕ → List ℕ → ℕ → ℕ → Type 0
AnswersLine setup release line text before after =
    AnswersBy setup (whole_of setup release (homes_asked setup line))
    (read_as (homes_asked setup line) line) text before after

-- an edit is held, as the last
abbrev pub IsHeld : SetupValue → List ℕ → List Edit → List ℕ → List Edit → Type 0
IsHeld setup line held text after =
    (edit : Edit)
    × edits.Reads setup.schema line edit × (length held < MOST_EDITS)
    × (text ≡ held_line (length held + 1)) × (after ≡ held ++ edit ∷ [])

-- an edit's line is refused by its first fault
abbrev pub IsFaulty : SetupValue → List ℕ → List ℕ → Type 0
IsFaulty setup line text =
    (fault : EditTextFault) × (name : FaultNameValue)
    × edits.IsRefused setup.schema line fault × (edit_names.fault_name fault ≡ Some name)
    × (text ≡ edit_refusal_line name)

-- an edit is refused since no more can be held
abbrev pub IsOneTooMany : SetupValue → List ℕ → List Edit → List ℕ → Type 0
IsOneTooMany setup line held text =
    (edit : Edit)
    × edits.Reads setup.schema line edit × (length held ≡ MOST_EDITS)
    × (text ≡ edit_refusal_line too_many)

-- the reply to an edit's line, and the edits that are held after it: those from before, but where
-- this one is held too
abbrev pub IsEditReply : SetupValue → List ℕ → List Edit → List ℕ → List Edit → Type 0
IsEditReply setup line held text after =
    IsHeld setup line held text after
    ⊎ (after ≡ held)
    × (IsFaulty setup line text ⊎ (IsOneTooMany setup line held text ⊎ (text ≡ memory_line)))

-- the reply to `stats`
abbrev pub IsStatsReply : List BatchValue → List ℕ → Type 0
IsStatsReply chain text =
    (stats : Stats) × AreStats (length chain) stats × (text ≡ stats_line stats)

-- the reply to `cache K`: the capacity is K from then on, but where memory was refused
abbrev pub IsCapacityReply : ℕ → List ℕ → Type 0
IsCapacityReply capacity text = (text ≡ capacity_line capacity) ⊎ (text ≡ memory_line)

-- the reply to a line that asks for this, over the current release, to which the batches lead from
-- release 0, or over the one that it names; only an edit and `publish` change what comes after
abbrev pub IsReplyTo : Asks → SetupValue → ReleaseValue → StateValue → List ℕ → ReplyValue
    → StateValue → Type 0
IsReplyTo asks.Nothing setup base state line reply next =
    (reply ≡ free_reply []) × (next ≡ state)
IsReplyTo asks.Description setup base state line reply next =
    IsDescription setup.schema line reply × (next ≡ state)
IsReplyTo asks.Table setup base state line reply next =
    IsTableReply setup (release_after base state.chain) line reply × (next ≡ state)
IsReplyTo (asks.At n) setup base state line reply next =
    IsPastAnswer setup base state.chain n (past_query line) reply × (next ≡ state)
IsReplyTo asks.Edit setup base state line reply next =
    (reply.price ≡ 0) × (next.chain ≡ state.chain)
    × IsEditReply setup line state.held reply.text next.held
IsReplyTo asks.Publish setup base state line reply next =
    (reply.price ≡ 0) × IsPublishReply (release_after base state.chain) state reply.text next
IsReplyTo asks.Stats setup base state line reply next =
    (reply.price ≡ 0) × IsStatsReply state.chain reply.text × (next ≡ state)
IsReplyTo asks.Clear setup base state line reply next =
    (reply ≡ free_reply cleared_line) × (next ≡ state)
IsReplyTo (asks.Cache capacity) setup base state line reply next =
    (reply.price ≡ 0) × IsCapacityReply capacity reply.text × (next ≡ state)

-- a reply to a party's line: at the batches and the held edits before it, and what comes after; an
-- analyst's line changes neither
abbrev pub IsReply : Role → SetupValue → ReleaseValue → StateValue → List ℕ → ReplyValue
    → StateValue → Type 0
IsReply who setup base state line reply next =
    IsReplyTo (asks_of who line) setup base state line reply next
