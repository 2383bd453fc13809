-- The replies to the leader's lines. Nothing here speaks of the program.
use Rattle.std.specs.Prelude.{◌≡◌, ◌⊎◌, ◌<◌, ◌+◌, ◌++◌, ◌∷◌, ℕ, Bool, true, false, List, []}
use Rattle.std.specs.Prelude.{length, Option, Some, None}
use Rattle.tb_ahead.specs.Publishing.{batch_refusal_line}
use Rattle.tb_follow.specs.Deliveries.{given}
use Rattle.tb_follow.specs.Followers.{restarted}
use Rattle.tb_follow.specs.declared.message.Delivered.{Delivered}
use Rattle.tb_follow.specs.declared.message.Delivered.TheVariants as delivered
use Rattle.tb_follow.specs.declared.message.Message.{Message}
use Rattle.tb_leader.specs.Lanes.{LaneValue, lane_of}
use Rattle.tb_leader.specs.LeaderAsks.{asks_of}
use Rattle.tb_leader.specs.ReplyLines.{at_line, begun_line, edit_refusal_line, far_line, held_line}
use Rattle.tb_leader.specs.ReplyLines.{kept_line, old_line, refused_line, restarted_line}
use Rattle.tb_leader.specs.declared.asks.LeaderAsks.{LeaderAsks}
use Rattle.tb_leader.specs.declared.asks.LeaderAsks.TheVariants as asks
use Rattle.tb_lines.specs.Outputs.{ReplyValue}
use Rattle.tb_model.specs.Schemas.{SchemaValue}
use Rattle.tb_release.specs.FaultNames as batch_names
use Rattle.tb_release.specs.declared.edits.Edit.{Edit}
use Rattle.tb_release.specs.declared.limits.TheConstants.{MOST_EDITS}
use Rattle.tb_revise.specs.Faults as edits
use Rattle.tb_revise.specs.FaultNames as edit_names
use Rattle.tb_revise.specs.declared.fault.EditTextFault.{EditTextFault}
use Rattle.tb_rows.specs.FaultNames.{FaultNameValue}
use Rattle.tb_tables.specs.ReplyLines.{memory_line}

-- ---- an edit's line
-- a message with one more edit
abbrev pub with_edit : Message → Edit → Message
with_edit m edit = record m { edits = m.edits ++ edit ∷ [] }

-- an edit is held, as the last of the message
abbrev pub IsHeld : SchemaValue → List ℕ → Message → List ℕ → Message → Type 0
IsHeld schema line m text after =
    (edit : Edit)
    × edits.Reads schema line edit × (length m.edits < MOST_EDITS)
    × (text ≡ held_line (length m.edits + 1)) × (after ≡ with_edit m edit)

-- an edit's line is refused by its first fault
abbrev pub IsFaulty : SchemaValue → List ℕ → List ℕ → Type 0
IsFaulty schema line text =
    (fault : EditTextFault) × (name : FaultNameValue)
    × edits.IsRefused schema line fault × (edit_names.fault_name fault ≡ Some name)
    × (text ≡ edit_refusal_line name)

-- an edit is refused since the message can have no more
abbrev pub IsOneTooMany : SchemaValue → List ℕ → Message → List ℕ → Type 0
IsOneTooMany schema line m text =
    (edit : Edit)
    × edits.Reads schema line edit × (length m.edits ≡ MOST_EDITS)
    × (text ≡ edit_refusal_line edit_names.too_many)

-- the reply to an edit's line, and the message after it: with this edit; or it is given up, where
-- the edit is refused, or memory
abbrev pub IsEditReply : SchemaValue → List ℕ → Message → List ℕ → Option Message → Type 0
IsEditReply schema line m text (Some after) = IsHeld schema line m text after
IsEditReply schema line m text None =
    IsFaulty schema line text ⊎ (IsOneTooMany schema line m text ⊎ (text ≡ memory_line))

-- where there is no message for it, the line is refused
abbrev pub IsEditOf : SchemaValue → List ℕ → Option Message → List ℕ → Option Message → Type 0
IsEditOf schema line None text next = (text ≡ refused_line) × (next ≡ None)
IsEditOf schema line (Some m) text next = IsEditReply schema line m text next

-- ---- the end of a message
-- the reply to a message that was delivered
abbrev pub answer_text : Delivered → List ℕ
answer_text (delivered.Applied n) = at_line n
answer_text (delivered.Kept n) = kept_line n
answer_text (delivered.Old n) = old_line n
answer_text (delivered.Far n) = far_line n
answer_text (delivered.Refused edit kind) = batch_refusal_line edit (batch_names.fault_name kind)
answer_text delivered.Memory = memory_line

-- ---- lines
-- a line is refused, and changes nothing
abbrev pub IsRefused : LaneValue → List ℕ → LaneValue → Type 0
IsRefused lane text next = (text ≡ refused_line) × (next ≡ lane)

-- the message of a number is open then; one that was open is dropped
abbrev pub IsBegun : ℕ → List ℕ → Option Message → Type 0
IsBegun n text next = (text ≡ begun_line n) × (next ≡ Some (record { number = n; edits = [] }))

-- the open message is delivered, if there is one, and none is open then
abbrev pub IsEndOf : LaneValue → Option Message → List ℕ → LaneValue → Type 0
IsEndOf lane None text next = IsRefused lane text next
IsEndOf lane (Some m) text next =
    (room : ℕ)
    × (text ≡ answer_text (given room lane.follower m).answer)
    × (next ≡ lane_of (given room lane.follower m).follower None)

abbrev pub IsEnd : LaneValue → List ℕ → LaneValue → Type 0
IsEnd lane text next = IsEndOf lane lane.open_message text next

-- where the follower can go back to release 0, it does, and an open message is dropped; else the
-- line is refused
abbrev pub IsRestart : Bool → LaneValue → List ℕ → LaneValue → Type 0
IsRestart true lane text next =
    (text ≡ restarted_line) × (next ≡ lane_of (restarted lane.follower) None)
IsRestart false lane text next = IsRefused lane text next

-- the reply to a line that asks for this, and where the lane stands then, by whether the follower
-- can go back to release 0
abbrev pub IsReplyTo : LeaderAsks → Bool → SchemaValue → LaneValue → List ℕ → List ℕ → LaneValue
    → Type 0
IsReplyTo asks.Nothing restarts schema lane line text next = (text ≡ []) × (next ≡ lane)
IsReplyTo (asks.Begin n) restarts schema lane line text next =
    (next.follower ≡ lane.follower) × IsBegun n text next.open_message
IsReplyTo asks.Edit restarts schema lane line text next =
    (next.follower ≡ lane.follower)
    × IsEditOf schema line lane.open_message text next.open_message
IsReplyTo asks.End restarts schema lane line text next = IsEnd lane text next
IsReplyTo asks.Restart restarts schema lane line text next = IsRestart restarts lane text next
IsReplyTo asks.Other restarts schema lane line text next = IsRefused lane text next

-- the reply to a line of the leader's
abbrev pub IsReply : Bool → SchemaValue → LaneValue → List ℕ → List ℕ → LaneValue → Type 0
IsReply restarts schema lane line text next =
    IsReplyTo (asks_of line) restarts schema lane line text next

-- it costs nothing
abbrev pub IsLeaderStep : Bool → SchemaValue → LaneValue → List ℕ → ReplyValue → LaneValue → Type 0
IsLeaderStep restarts schema lane line reply next =
    (reply.price ≡ 0) × IsReply restarts schema lane line reply.text next
