-- How parties and ports are coded, for a type whose value is a port.
use Rattle.std.specs.Prelude.{◌≡◌, ◌⊎◌, ℕ, Bool, List, Option, refl}
use Rattle.std.specs.Coded.{Coded, code_by, coded×, coded⊎, coded_ℕ, coded_bool, coded_list}
use Rattle.std.specs.Coded.{coded_option}
use mathlib.Core.Logic.{inl, inr}
use Rattle.tb_board.specs.Custodians.{CustodianValue, custodian_code}
use Rattle.tb_board.specs.Holders.{HolderValue, holder_value_code}
use Rattle.tb_io.specs.Listeners.{ListenerValue, listener_code}
use Rattle.tb_release.specs.EditCodes.{edit_code}
use Rattle.tb_release.specs.declared.edits.Edit.{Edit}
use Rattle.tb_serve.specs.Ports.{PortValue}
use Rattle.tb_session.specs.declared.party.Party.{Party}
use Rattle.tb_session.specs.declared.party.Party.TheVariants as party

-- what a party is made of
abbrev PartyParts : Type 0
PartyParts = HolderValue ⊎ (CustodianValue × List Edit)

-- a party's parts, and the party of some parts
abbrev parts_of_party : Party → PartyParts
parts_of_party (party.Analyst pass) = inl pass
parts_of_party (party.Custodian custodian held) = inr (custodian, held)

abbrev party_of : PartyParts → Party
party_of (inl pass) = party.Analyst pass
party_of (inr (custodian, held)) = party.Custodian custodian held

-- the party of its parts is the party itself
pub party_back : (p : Party) → party_of (parts_of_party p) ≡ p
party_back (party.Analyst pass) = refl
party_back (party.Custodian custodian held) = refl

abbrev pub party_code : Coded Party
party_code =
    code_by PartyParts (coded⊎ holder_value_code (coded× custodian_code (coded_list edit_code)))
    parts_of_party party_of party_back

abbrev pub port_code : Coded PortValue
port_code =
    code_by (ListenerValue × (ℕ × (Bool × (Option Party × Bool))))
    (coded× listener_code (coded× coded_ℕ (coded× coded_bool
    (coded× (coded_option party_code) coded_bool))))
    (λ p. (p.listener, (p.served, (p.failed, (p.party, p.has_lines)))))
    (λ p. record {
      listener = p.0;
      served = p.1.0;
      failed = p.1.1.0;
      party = p.1.1.1.0;
      has_lines = p.1.1.1.1;
    })
    (λ _. refl)
