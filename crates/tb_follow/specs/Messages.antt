-- Messages of a leader.
use Rattle.std.specs.Prelude.{ℕ, All, List, refl}
use Rattle.std.specs.Coded.{Coded, code_by, coded×, coded_list, coded_ℕ}
use Rattle.tb_release.specs.EditCodes.{edit_code}
use Rattle.tb_release.specs.Laws.{EditFits}
use Rattle.tb_release.specs.declared.edits.Edit.{Edit}
use Rattle.tb_follow.specs.declared.message.Message.{Message}

-- what each edit of a message adds or sets fits a shape, or is in range
abbrev pub MessageFits : List ℕ → Message → Type 0
MessageFits shape message = All (EditFits shape) message.edits

-- how a message is coded, for a type whose value has one
abbrev pub message_code : Coded Message
message_code =
    code_by (ℕ × List Edit) (coded× coded_ℕ (coded_list edit_code))
    (λ m. (m.number, m.edits))
    (λ p. record { number = p.0; edits = p.1 })
    (λ _. refl)
