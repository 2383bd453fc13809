-- What became of lanes in a phase, and the replies of a phase.
use Rattle.std.proofs.Common.{◌≡◌, ◌∙◌, sym, ap, subst, refl, ℕ, Bool, true, false, List, [], ◌∷◌, ◌++◌, Option, Some}
use Rattle.tb_io.specs.Taken.{Took}
use Rattle.tb_io.proofs.TakenLemmas.{Took-append}
use Rattle.tb_io.proofs.Taking.{Took-same}
use Rattle.tb_lanes.specs.declared.lane.Lane.{Lane}
use Rattle.tb_lanes.specs.Lanes.{IsTold, Ran, has_some}
use Rattle.tb_release.specs.declared.edits.Edit.{Edit}
use Rattle.tb_serve.specs.Each.{Each}
use Rattle.tb_model.specs.Setups.{SetupValue}
use Rattle.tb_board.specs.Custodians.{CustodianValue}
use Rattle.tb_board.specs.Holders.{HolderValue}
use Rattle.tb_board.specs.Starts.{StartValue}
use Rattle.tb_front.specs.Holders.{IsLater, Name}
use Rattle.tb_lines.specs.Outputs.{Lead, ReplyValue, text_of}
use Rattle.tb_session.specs.Parties.{IsAnalystOf, IsOwnerOf, Learns, seen_by}
use Rattle.tb_session.specs.PartySessions.{IsPartyStep}
use Rattle.tb_session.specs.declared.party.Party.{Party}
use Rattle.tb_session.specs.declared.party.Party.TheVariants as party
use Rattle.tb_lines.proofs.Transcribing.{Lead-more, text_of-more}

-- no line yet
pub ran_none : (setup : SetupValue) (lines : List (List ℕ)) (p : Party) → lines ≡ [] → Ran setup lines p (Some []) false p
ran_none setup lines p none = subst (λ (ls : List (List ℕ)). Ran setup ls p (Some []) false p) (sym none)
    (record { replies = []; legal = refl; took = refl; had_lines = refl })

has_pushed : (lines : List (List ℕ)) (line : List ℕ) → has_some (lines ++ line ∷ []) ≡ true
has_pushed [] line = refl
has_pushed (l ∷ lines) line = refl

-- one line more
pub ran_more : (setup : SetupValue) (lines more : List (List ℕ)) (line : List ℕ) (first p q : Party) (sink sink' : Option (List ℕ))
    (spoke spoke' : Bool) (reply : ReplyValue) → more ≡ lines ++ line ∷ []
    → Ran setup lines first sink spoke p → IsPartyStep setup p line reply q → Took sink sink' reply.text → spoke' ≡ true
    → Ran setup more first sink' spoke' q
ran_more setup lines more line first p q sink sink' spoke spoke' reply is ran step took said =
    subst (λ (ls : List (List ℕ)). Ran setup ls first sink' spoke' q) (sym is) (record {
      replies = ran.replies ++ reply ∷ [];
      legal = Lead-more (IsPartyStep setup) lines line ran.replies reply first p q ran.legal step;
      took = Took-same (Some []) sink' (text_of ran.replies ++ reply.text) (text_of (ran.replies ++ reply ∷ []))
          (sym (text_of-more ran.replies reply)) (Took-append (Some []) sink sink' (text_of ran.replies) reply.text ran.took took);
      had_lines = said ∙ sym (has_pushed lines line);
    })

-- the same lines
pub ran_as : (setup : SetupValue) (lines others : List (List ℕ)) (first p : Party) (sink : Option (List ℕ)) (spoke : Bool) → lines ≡ others
    → Ran setup lines first sink spoke p → Ran setup others first sink spoke p
ran_as setup lines others first p sink spoke is ran = subst (λ (ls : List (List ℕ)). Ran setup ls first sink spoke p) is ran

-- what a sink tells are the replies
pub told_text : (sink : Option (List ℕ)) (text said : List ℕ) → sink ≡ Some text → Took (Some []) sink said → text ≡ said
told_text sink text said is took = subst (λ (o : Option (List ℕ)). Took (Some []) o said) is took

-- an analyst that has learnt something is still one, and has seen what it had and what it was told
pub told_as : (name : Name) (shape : List ℕ) (seen : HolderValue) (old new : Party) → IsAnalystOf name shape old → Learns seen old new
    → IsAnalystOf name shape new × IsLater (seen_by old) (seen_by new) × IsLater seen (seen_by new)
told_as name shape seen (party.Analyst a) (party.Analyst b) is (later, knows) = (
  record { front = later.front ∙ is.front; fits = ap (λ (s : StartValue). s.shape) later.base ∙ is.fits },
  later,
  knows,
)
told_as name shape seen (party.Analyst a) (party.Custodian c h) is learns = absurd learns
told_as name shape seen (party.Custodian c h) new is learns = absurd is

-- what the custodian's pass has seen is what it wrote
pub told_by_owner : {G : Type 0} (name : Name) (shape : List ℕ) (own : Party) (custodian : CustodianValue) (held : List Edit)
    (lanes lanes' : List (Lane G)) → own ≡ party.Custodian custodian held → IsOwnerOf name shape own
    → Each (λ _. IsTold custodian.pass) lanes lanes' → Each (λ _. IsTold (seen_by own)) lanes lanes'
told_by_owner {G} name shape own custodian held lanes lanes' is owns told =
    let owner : IsOwnerOf name shape (party.Custodian custodian held) = subst (λ (p : Party). IsOwnerOf name shape p) is owns in
    let by_writer : Each (λ _. IsTold custodian.writer) lanes lanes' =
    subst (λ (h : HolderValue). Each (λ _. IsTold h) lanes lanes') owner.whole.same told in
    subst (λ (p : Party). Each (λ _. IsTold (seen_by p)) lanes lanes') (sym is) by_writer
