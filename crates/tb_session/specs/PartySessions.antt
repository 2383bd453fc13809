-- A party's session: legal replies, from what the party had seen to what it has then seen.
use Rattle.std.specs.Prelude.{ℕ, List, []}
use Rattle.tb_model.specs.Setups.{SetupValue}
use Rattle.tb_lines.specs.Outputs.{ReplyValue}
use Rattle.tb_session.specs.Parties.{GoesOn, role_of, seen_by, state_of}
use Rattle.tb_session.specs.Transcripts.{IsLegal, IsStep}
use Rattle.tb_session.specs.declared.party.Party.{Party}
use Rattle.tb_session.specs.declared.party.Party.TheVariants as party

-- a party as it begins a session: the custodian holds no edits
abbrev pub with_none_held : Party → Party
with_none_held (party.Analyst pass) = party.Analyst pass
with_none_held (party.Custodian custodian held) = party.Custodian custodian []

-- a legal reply to a party's line leads from what it is to what it is then
abbrev pub IsPartyStep : SetupValue → Party → List ℕ → ReplyValue → Party → Type 0
IsPartyStep setup old line reply new =
    GoesOn old new
    × IsStep (role_of old) setup (seen_by old).start.base (state_of old) line reply (state_of new)

-- legal replies to a party's lines lead from what it is to what it is then
abbrev pub AreLegal : SetupValue → Party → List (List ℕ) → List ReplyValue → Party → Type 0
AreLegal setup old lines replies new =
    GoesOn old new
    × IsLegal (role_of old) setup (seen_by old).start.base (state_of old) lines replies
    (state_of new)
