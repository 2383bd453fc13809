-- The replies of a party's session are legal from what it had seen.
use Rattle.std.proofs.Common.{◌≡◌, ◌∙◌, sym, ap, subst, refl, ℕ, List, [], ◌∷◌}
use Rattle.tb_board.specs.Starts.{StartValue}
use Rattle.tb_model.specs.Setups.{SetupValue}
use Rattle.tb_lines.specs.Outputs.{Lead, ReplyValue}
use Rattle.tb_session.specs.Parties.{GoesOn, role_of, seen_by, state_of}
use Rattle.tb_session.specs.PartySessions.{AreLegal, IsPartyStep}
use Rattle.tb_session.specs.Transcripts.{IsLegal}
use Rattle.tb_session.specs.declared.party.Party.{Party}
use Rattle.tb_session.specs.declared.party.Role.{Role}

-- a party is the same one after nothing, and after one thing and another
pub goes_nowhere : (p : Party) → GoesOn p p
goes_nowhere p = record { who = refl; front = refl; start = refl }

pub goes_further : (p q r : Party) → GoesOn p q → GoesOn q r → GoesOn p r
goes_further p q r one more = record { who = more.who ∙ one.who; front = more.front ∙ one.front; start = more.start ∙ one.start }

-- line by line, and for all lines
pub lines_legal : (setup : SetupValue) (p : Party) (lines : List (List ℕ)) (replies : List ReplyValue) (q : Party) → Lead (IsPartyStep setup) p lines replies q → AreLegal setup p lines replies q
lines_legal setup p [] [] q e = (subst (λ (r : Party). GoesOn p r) (sym e) (goes_nowhere p), ap state_of e)
lines_legal setup p [] (reply ∷ replies) q e = absurd e
lines_legal setup p (line ∷ lines) [] q e = absurd e
lines_legal setup p (line ∷ lines) (reply ∷ replies) q (next, (goes, step), others) =
    let (further, legal) = lines_legal setup next lines replies q others in
    let based : IsLegal (role_of next) setup (seen_by p).start.base (state_of next) lines replies (state_of q) = subst (λ (s : StartValue). IsLegal (role_of next) setup s.base (state_of next) lines replies (state_of q)) goes.start legal in
    (goes_further p next q goes further, (state_of next, step, subst (λ (who : Role). IsLegal who setup (seen_by p).start.base (state_of next) lines replies (state_of q)) goes.who based))
