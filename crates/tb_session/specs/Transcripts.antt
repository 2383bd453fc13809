-- Legal transcripts: the replies to a party's lines, and the batches along which they lead. Nothing
-- here speaks of the program.
use Rattle.std.specs.Prelude.{◌≡◌, ℕ, Bool, true, false, List}
use mathlib.Core.List.{IsPrefix}
use Rattle.tb_describe.specs.Descriptions.{is_description}
use Rattle.tb_model.specs.Releases.{ReleaseValue}
use Rattle.tb_model.specs.Setups.{SetupValue}
use Rattle.tb_lines.specs.Outputs.{Lead, ReplyValue}
use Rattle.tb_ahead.specs.Publishing.{StateValue}
use Rattle.tb_session.specs.Replies.{IsReply}
use Rattle.tb_session.specs.declared.party.Role.{Role}
use Rattle.tb_session.specs.declared.party.Role.TheVariants as role

-- an analyst may have seen more batches when its line is answered, but not by one that `describe`
-- begins
abbrev pub SeesUnless : Bool → StateValue → StateValue → Type 0
SeesUnless true before at = at ≡ before
SeesUnless false before at = IsPrefix before.chain at.chain × (at.held ≡ before.held)

-- where a party may stand when its line is answered: the custodian, who publishes the batches, has
-- not seen more
abbrev pub Sees : Role → List ℕ → StateValue → StateValue → Type 0
Sees role.Analyst line before at = SeesUnless (is_description line) before at
Sees role.Custodian line before at = at ≡ before

-- a line of a party leads from where it stands to where it stands then, with this reply
abbrev pub IsStep : Role → SetupValue → ReleaseValue → StateValue → List ℕ → ReplyValue
    → StateValue → Type 0
IsStep who setup base before line reply after =
    (at : StateValue) × Sees who line before at × IsReply who setup base at line reply after

-- these are legal replies to a party's lines, and lead from where it stands to where it stands then
abbrev pub IsLegal : Role → SetupValue → ReleaseValue → StateValue → List (List ℕ)
    → List ReplyValue → StateValue → Type 0
IsLegal who setup base = Lead (IsStep who setup base)
