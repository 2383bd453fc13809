-- The outputs of what is asked for.
use Rattle.std.specs.Prelude.{◌≡◌, ◌≢◌, ◌⊎◌, ◌+◌, ◌<◌, ◌≤◌, ℕ, List, [], Option, length}
use Rattle.tb_base.specs.declared.status.Status.{Status}
use Rattle.tb_base.specs.declared.status.Status.TheVariants as status
use Rattle.tb_io.specs.Faults.{HasRisen}
use Rattle.tb_io.specs.Taken.{Took, TookPart}
use Rattle.tb_follow_lanes.specs.FollowRuns.{IsFollowReply}
use Rattle.tb_leader.specs.Lanes.{first_lane}
use Rattle.tb_model.specs.Schemas.{shape_of}
use Rattle.tb_script.specs.Runs.{IsLaneReply}
use Rattle.tb_script.specs.Scripts.{ScriptValue}
use Rattle.tb_serve.specs.Ports.{PortValue}
use Rattle.tb_serve.specs.Serves.{Output}
use Rattle.tb_ahead.specs.Publishing.{after_seeing}
use Rattle.tb_lines.specs.Outputs.{AreReplies, ReplyValue, price_of, text_of}
use Rattle.tb_endings.specs.declared.endings.End.TheVariants as end
use Rattle.tb_top.specs.Asking.{AskedValue, CensusValue, base_of}
use Rattle.tb_top.specs.declared.asked.AskedLines.{AskedLines}
use Rattle.tb_top.specs.declared.asked.AskedLines.TheVariants as lines
use Rattle.tb_command.specs.ServicePorts.{Service}
use Rattle.tb_command.specs.declared.command.Owner.{Owner}
use Rattle.tb_command.specs.declared.command.Owner.TheVariants as owner
use Rattle.tb_endings.specs.Endings.{IsEnded, IsLineWritten, last_line}
use Rattle.tb_top.specs.KeepOutputs.{AreKeepReplies, DiskSeen, IsKeepAnswered, IsStill}
use Rattle.tb_top.specs.HostOutputs.{IsHostAnswered, IsHostOutput}
use Rattle.tb_top.specs.LaneOutputs.{AreLanesAnswered, IsTextOfPhases, IsTextToMemory}
use Rattle.tb_top.specs.MirrorOutputs.{IsMirrorAnswered, IsMirrorOutput}
use Rattle.tb_command.specs.Populations.{Population}
use Rattle.tb_top.specs.Services.{IsServiceAnswered, IsServiceOutput}
use Rattle.tb_top.specs.Summaries.{summary_line}
use Rattle.tb_top.specs.Summing.{most_counted}

-- these are replies to the script's lines, one after another, from release 0 of the microdata on
abbrev pub AreScriptReplies : CensusValue → ScriptValue → List ReplyValue → Type 0
AreScriptReplies census script replies =
    AreReplies (IsLaneReply census.setup (base_of census))
    (after_seeing []) script.lines replies

-- these are replies to them with a follower in place of a board, which begins at release 0: one
-- lane brings it a leader's messages, and the others ask at the release that it has reached
abbrev pub AreFollowReplies : CensusValue → ScriptValue → List ReplyValue → Type 0
AreFollowReplies census script replies =
    AreReplies (IsFollowReply census.setup)
    (first_lane (shape_of census.setup.schema) (base_of census)) script.lines replies

-- the same by who owns the chain: with a journal they begin at its batches
abbrev pub AreOwnersReplies : Owner → CensusValue → ScriptValue → List ReplyValue → Type 0
AreOwnersReplies owner.Custodian census script replies = AreScriptReplies census script replies
AreOwnersReplies (owner.Journal name) census script replies = AreKeepReplies census script replies
AreOwnersReplies owner.Leader census script replies = AreFollowReplies census script replies

-- the same of lines that are asked for, one after another; lanes that are answered at the same time
-- and sessions get their replies elsewhere
abbrev pub AreAnswersTo : AskedLines → Owner → CensusValue → List ReplyValue → Type 0
AreAnswersTo (lines.Script script) owner census replies =
    AreOwnersReplies owner census script replies
AreAnswersTo (lines.Lanes script) owner census replies = ⊥
AreAnswersTo (lines.Ports service) owner census replies = ⊥
AreAnswersTo (lines.Sums population script) owner census replies =
    AreScriptReplies census script replies

abbrev pub AreAnswers : AskedValue → List ReplyValue → Type 0
AreAnswers asked replies = AreAnswersTo asked.lines asked.owner asked.census replies

-- a text is what is written where lines come at ports, by who owns the chain
abbrev pub IsPortsOutput : Owner → CensusValue → Service → (ports ports' : List PortValue) → Status
    → List ℕ → Type 0
IsPortsOutput owner.Custodian census service ports ports' s text =
    IsServiceOutput census service ports ports' s text
IsPortsOutput (owner.Journal name) census service ports ports' s text =
    IsHostOutput census service ports ports' s text
IsPortsOutput owner.Leader census service ports ports' s text =
    IsMirrorOutput census service ports ports' s text

-- a text is the output of a run with this status over these ports: that of such replies, that of
-- all phases, what a service writes, or the line that sums up such replies
abbrev pub IsOutputOf : AskedLines → Owner → CensusValue → (ports ports' : List PortValue) → Status
    → List ℕ → Type 0
IsOutputOf (lines.Script script) owner census ports ports' s text =
    (s ≡ status.Done)
    × ((replies : List ReplyValue) × AreOwnersReplies owner census script replies
    × (text ≡ text_of replies))
IsOutputOf (lines.Lanes script) owner census ports ports' s text =
    (s ≡ status.Done) × IsTextOfPhases census script script.phases text
IsOutputOf (lines.Ports service) owner census ports ports' s text =
    IsPortsOutput owner census service ports ports' s text
IsOutputOf (lines.Sums population script) owner census ports ports' s text =
    (s ≡ status.Done)
    × ((replies : List ReplyValue) × AreScriptReplies census script replies
    × (text ≡ summary_line population (text_of replies)))

abbrev pub IsOutput : AskedValue → (ports ports' : List PortValue) → Status → List ℕ → Type 0
IsOutput asked ports ports' s text =
    IsOutputOf asked.lines asked.owner asked.census ports ports' s text

-- the sink took a beginning of what is written of these replies, and the run ended with a status
-- that isn't want of memory: a beginning of their text, or of the line that sums it up; or, where
-- that text has more bytes than are counted, of the line that says that memory ran out
abbrev pub IsBegunOf : AskedLines → Status → List ReplyValue → (taken taken' : Option (List ℕ))
    → Type 0
IsBegunOf (lines.Script script) s replies taken taken' =
    (s ≢ status.Memory) × TookPart taken taken' (text_of replies)
IsBegunOf (lines.Lanes script) s replies taken taken' = ⊥
IsBegunOf (lines.Ports service) s replies taken taken' = ⊥
IsBegunOf (lines.Sums population script) s replies taken taken' =
    ((s ≢ status.Memory) × TookPart taken taken' (summary_line population (text_of replies)))
    ⊎ ((most_counted < length (text_of replies)) × TookPart taken taken' (last_line end.Memory))

abbrev pub IsBegun : AskedValue → Status → List ReplyValue → (taken taken' : Option (List ℕ))
    → Type 0
IsBegun asked s replies taken taken' = IsBegunOf asked.lines s replies taken taken'

-- a text is what is asked for as far as it came, and then the line that tells that memory ran out:
-- lanes alone come part of the way
abbrev pub IsToMemoryOf : AskedLines → CensusValue → List ℕ → Type 0
IsToMemoryOf (lines.Script script) census text = ⊥
IsToMemoryOf (lines.Lanes script) census text = IsTextToMemory census script text
IsToMemoryOf (lines.Ports service) census text = ⊥
IsToMemoryOf (lines.Sums population script) census text = ⊥

abbrev pub IsOutputToMemory : AskedValue → List ℕ → Type 0
IsOutputToMemory asked text = IsToMemoryOf asked.lines asked.census text

-- A script was answered, by such replies: all of them were taken, or, where a write
-- failed, a beginning of them, and the counter of steps rose by no more than their price. Or memory
-- ran out before the first line.
abbrev pub IsScriptAnswered : (List ReplyValue → Type 0) → Status → (faults faults' : ℕ)
    → (taken taken' : Option (List ℕ)) → (steps steps' : ℕ) → Type 0
IsScriptAnswered Are s faults faults' taken taken' steps steps' =
    ((s ≡ status.Done)
    × ((replies : List ReplyValue) × Are replies
    × Took taken taken' (text_of replies) × (steps' ≤ steps + price_of replies)))
    ⊎ (((s ≡ status.WriteFault) × HasRisen faults faults'
    × ((replies : List ReplyValue) × Are replies
    × TookPart taken taken' (text_of replies) × (steps' ≤ steps + price_of replies)))
    ⊎ ((steps' ≡ steps) × IsEnded end.Memory s faults faults' taken taken'))

-- A text was summed up: the line that does so was written, or, where the text has more bytes than
-- are counted, the line that says that memory ran out.
abbrev pub IsSummedUp : Population → (text : List ℕ) → Status → (faults faults' : ℕ)
    → (taken taken' : Option (List ℕ)) → Type 0
IsSummedUp population text s faults faults' taken taken' =
    IsLineWritten status.Done (summary_line population text) s faults faults' taken taken'
    ⊎ ((most_counted < length text) × IsEnded end.Memory s faults faults' taken taken')

-- A generated population was answered: the text of replies was summed up, and the counter of steps
-- rose by no more than their price. Or memory ran out before the first line.
abbrev pub IsGenAnswered : Population → CensusValue → ScriptValue → Status → (faults faults' : ℕ)
    → (taken taken' : Option (List ℕ)) → (steps steps' : ℕ) → Type 0
IsGenAnswered population census script s faults faults' taken taken' steps steps' =
    ((replies : List ReplyValue) × AreScriptReplies census script replies
    × (steps' ≤ steps + price_of replies)
    × IsSummedUp population (text_of replies) s faults faults' taken taken')
    ⊎ ((steps' ≡ steps) × IsEnded end.Memory s faults faults' taken taken')

-- A script was answered, by who owns the chain: only with a journal the disk is touched.
abbrev pub IsRunAnswered : Owner → CensusValue → ScriptValue → DiskSeen → Status → Output
    → (steps steps' : ℕ) → Type 0
IsRunAnswered owner.Custodian census script disk s out steps steps' =
    IsStill disk
    × IsScriptAnswered (AreScriptReplies census script) s out.faults out.faults_after out.before
    out.after steps steps'
IsRunAnswered (owner.Journal name) census script disk s out steps steps' =
    IsKeepAnswered census script name s out disk steps steps'
IsRunAnswered owner.Leader census script disk s out steps steps' =
    IsStill disk
    × IsScriptAnswered (AreFollowReplies census script) s out.faults out.faults_after out.before
    out.after steps steps'

-- Sessions were served, by who owns the chain: only with a journal the disk is touched.
abbrev pub ArePortsAnswered : Owner → CensusValue → Service → (ports ports' : List PortValue)
    → DiskSeen → Status → Output → Type 0
ArePortsAnswered owner.Custodian census service ports ports' disk s out =
    IsStill disk
    × IsServiceAnswered census service ports ports' s out.faults out.faults_after out.before
    out.after
ArePortsAnswered (owner.Journal name) census service ports ports' disk s out =
    IsHostAnswered census service name ports ports' s out disk
ArePortsAnswered owner.Leader census service ports ports' disk s out =
    IsStill disk × IsMirrorAnswered census service ports ports' s out

-- Lines that are asked for were answered, over these ports and this disk. A script touches no port,
-- and what lanes at the same time and sessions cost is counted elsewhere.
abbrev pub AreLinesAnswered : AskedLines → Owner → CensusValue → (ports ports' : List PortValue)
    → DiskSeen → Status → Output → (steps steps' : ℕ) → Type 0
AreLinesAnswered (lines.Script script) owner census ports ports' disk s out steps steps' =
    (ports' ≡ ports) × IsRunAnswered owner census script disk s out steps steps'
AreLinesAnswered (lines.Lanes script) owner census ports ports' disk s out steps steps' =
    (ports' ≡ ports) × IsStill disk × (steps' ≡ steps)
    × AreLanesAnswered census script s out.faults out.faults_after out.before out.after
AreLinesAnswered (lines.Ports service) owner census ports ports' disk s out steps steps' =
    (steps' ≡ steps) × ArePortsAnswered owner census service ports ports' disk s out
AreLinesAnswered (lines.Sums population script) owner census ports ports' disk s out steps steps' =
    (ports' ≡ ports) × IsStill disk
    × IsGenAnswered population census script s out.faults out.faults_after out.before out.after
    steps steps'

-- what is asked for was answered
abbrev pub IsAnswered : AskedValue → (ports ports' : List PortValue) → DiskSeen → Status → Output
    → (steps steps' : ℕ) → Type 0
IsAnswered asked ports ports' disk s out steps steps' =
    AreLinesAnswered asked.lines asked.owner asked.census ports ports' disk s out steps steps'
