-- What was done with some lines, in other words for their replies and for where they lead.
use Rattle.std.proofs.Common.{ℕ, List, Option, inl, inr}
use Rattle.tb_lines.specs.Outputs.{ReplyValue}
use Rattle.tb_lines.specs.Sessions.{IsSession}
use Rattle.tb_lines.specs.declared.session_end.SessionEnd.{SessionEnd}
use Rattle.tb_lines.specs.declared.session_end.SessionEnd.TheVariants.{Ended, Foreign, LineTooLong, TooManyLines, ReadFault, WriteFault}

-- a session, from one state to another
module _ {S T : Type 0} (One : S → List (List ℕ) → List ReplyValue → S → Type 0) (Other : T → List (List ℕ) → List ReplyValue → T → Type 0) (first last : S) (first' last' : T)
    (says : (lines : List (List ℕ)) (replies : List ReplyValue) → One first lines replies last → Other first' lines replies last') where
  pub session_as : (end : SessionEnd) (left now before after : Option (List ℕ)) → IsSession One end left now first last before after → IsSession Other end left now first' last' before after
  session_as Ended left now before after h = record { lines = h.lines; of_source = h.of_source; is_end = h.is_end; at_end = h.at_end; gave = h.gave; replies = h.replies; legal = says _ _ h.legal; took = h.took }
  session_as Foreign left now before after h = record { lines = h.lines; of_source = h.of_source; is_end = h.is_end; at_end = h.at_end; gave = h.gave; replies = h.replies; legal = says _ _ h.legal; took = h.took }
  session_as LineTooLong left now before after h = record { lines = h.lines; of_source = h.of_source; is_end = h.is_end; at_end = h.at_end; gave = h.gave; replies = h.replies; legal = says _ _ h.legal; took = h.took }
  session_as TooManyLines left now before after h = record { lines = h.lines; of_source = h.of_source; is_end = h.is_end; at_end = h.at_end; gave = h.gave; replies = h.replies; legal = says _ _ h.legal; took = h.took }
  session_as ReadFault left now before after h = record { lines = h.lines; given = h.given; none_ends = h.none_ends; few = h.few; gave = h.gave; replies = h.replies; legal = says _ _ h.legal; took = h.took }
  session_as WriteFault left now before after (inl h) =
      inl (record { lines = h.lines; of_source = h.of_source; count = h.count; among = h.among; gave = h.gave; replies = h.replies; cut = h.cut; legal = says _ _ h.legal; part = h.part; took = h.took })
  session_as WriteFault left now before after (inr h) =
      inr (record { lines = h.lines; of_source = h.of_source; is_end = h.is_end; gave = h.gave; replies = h.replies; legal = says _ _ h.legal; part = h.part; took = h.took })
