-- What a call keeps says that each table that a script prints is counted over one release of the one chain.
use Rattle.std.proofs.Common.{◌≡◌, ◌∙◌, sym, ap, subst, refl, ℕ, Bool, true, false, List, [], ◌∷◌, ◌++◌, inl, inr}
use Rattle.std.specs.Prelude.{◌≢◌, ◌⊎◌, Option, None, Some, Ok}
use Rattle.std.proofs.lemmas.List.{append-nil}
use mathlib.Core.List.{IsPrefix}
use Rattle.tb_ahead.specs.Keeping.{IsKeptPublish, IsKeptStep, KeptState}
use Rattle.tb_ahead.specs.Publishing.{IsPublishReply, StateValue, after_seeing}
use Rattle.tb_base.specs.declared.status.Status.{Status}
use Rattle.tb_base.specs.declared.status.Status.TheVariants as status
use Rattle.tb_endings.specs.declared.endings.End.TheVariants as end
use Rattle.tb_front.proofs.Prefixes.{prefix_more, prefix_self, prefix_trans}
use Rattle.tb_keep.specs.Chains.{batches_of}
use Rattle.tb_keep.specs.JournalRuns.{after_playing}
use Rattle.tb_keep.specs.KeptRuns.{IsKeptReply, IsKeptStepOf}
use Rattle.tb_keep.specs.Playing.{CanAllFollow}
use Rattle.tb_keep.specs.Publishers.{IsOwnStep, asks_to_publish, is_publish}
use Rattle.tb_lines.specs.Outputs.{Lead, ReplyValue, text_of}
use Rattle.tb_model.specs.Releases.{ReleaseValue}
use Rattle.tb_model.specs.Setups.{SetupValue}
use Rattle.tb_model.specs.Units.{UnitsValue}
use Rattle.tb_release.specs.Batches.{BatchValue, batch_of}
use Rattle.tb_release.specs.Chains.{IsChain, after_batch, release_after}
use Rattle.tb_release.specs.declared.edits.Edit.{Edit}
use Rattle.tb_release.proofs.Chained.{chains_go_on}
use Rattle.tb_script.specs.Runs.{IsLaneReply}
use Rattle.tb_script.specs.Scripts.{ScriptLine, ScriptValue, role_of_lane}
use Rattle.tb_session.specs.Asks.{asks_of}
use Rattle.tb_session.specs.Dwellings.{homes_asked, read_as}
use Rattle.tb_session.specs.Laws.{NumbersNeverFall}
use Rattle.tb_session.specs.Replies.{IsReplyTo, whole_of}
use Rattle.tb_session.specs.Transcripts.{IsStep, Sees, SeesUnless}
use Rattle.tb_session.specs.declared.asks.Asks.{Asks}
use Rattle.tb_session.specs.declared.asks.Asks.TheVariants as asks
use Rattle.tb_session.specs.declared.party.Role.{Role}
use Rattle.tb_session.specs.declared.party.Role.TheVariants as role
use Rattle.tb_tables.specs.Answers.{IsAnswerBy}
use Rattle.tb_top.specs.Asking.{AskedValue, CensusValue, asked_of, asked_with, base_of}
use Rattle.tb_top.specs.declared.asked.AskedLines.TheVariants as lines
use Rattle.tb_command.specs.declared.command.Owner.{Owner}
use Rattle.tb_command.specs.declared.command.Owner.TheVariants as owner
use Rattle.tb_top.specs.Calls.{Call}
use Rattle.tb_top.specs.Counted.{IsAlong, IsCounted}
use Rattle.tb_top.specs.Talks.{HasPrinted, IsScriptAlong}
use Rattle.tb_top.specs.KeepOutputs.{AreKeepReplies}
use Rattle.tb_top.specs.Outputs.{AreScriptReplies, IsOutput, IsOutputToMemory}
use Rattle.tb_top.specs.Promises.{IsAskedOutput, IsJournalText, IsLastLine, IsMemoryText, IsSomeLastLine, IsWhole, Tells}

-- ---- one line
-- an answer over the release is its table, a refusal or `memory`
answer_counts : (setup : SetupValue) (release : ReleaseValue) (line : List ℕ) (reply : ReplyValue) (units : Option UnitsValue) → units ≡ None
    → IsAnswerBy setup (whole_of setup release units) (read_as units line) reply → IsCounted setup release line reply.text
answer_counts setup release line reply (Some units) none h = absurd (cc)
answer_counts setup release line reply None none (inl (query, reads, inl is)) = inl (query, reads, ap (λ (r : ReplyValue). r.text) is)
answer_counts setup release line reply None none (inl (query, reads, inr is)) = inr (inr (ap (λ (r : ReplyValue). r.text) is))
answer_counts setup release line reply None none (inr (free, inl refused)) = inr (inl refused)
answer_counts setup release line reply None none (inr (free, inr memory)) = inr (inr memory)

-- so is a reply to a line that asks for a table of persons, over the release that its caller sees then
reply_counts : (what : Asks) (setup : SetupValue) (base : ReleaseValue) (state : StateValue) (line : List ℕ) (reply : ReplyValue) (next : StateValue)
    → IsReplyTo what setup base state line reply next → what ≡ asks.Table → homes_asked setup line ≡ None → IsCounted setup (release_after base next.chain) line reply.text
reply_counts asks.Table setup base state line reply next (is, goes) table none =
    subst (λ (s : StateValue). IsCounted setup (release_after base s.chain) line reply.text) (sym goes)
    (answer_counts setup (release_after base state.chain) line reply (homes_asked setup line) none is)
reply_counts asks.Nothing setup base state line reply next h table none = absurd (cc)
reply_counts asks.Description setup base state line reply next h table none = absurd (cc)
reply_counts (asks.At n) setup base state line reply next h table none = absurd (cc)
reply_counts asks.Edit setup base state line reply next h table none = absurd (cc)
reply_counts asks.Publish setup base state line reply next h table none = absurd (cc)
reply_counts asks.Stats setup base state line reply next h table none = absurd (cc)
reply_counts asks.Clear setup base state line reply next h table none = absurd (cc)
reply_counts (asks.Cache k) setup base state line reply next h table none = absurd (cc)

-- what a line leads to, and what its reply is there
abbrev pub IsOne : SetupValue → ReleaseValue → Role → (seen : List BatchValue) → List ℕ → ReplyValue → (at : List BatchValue) → Type 0
IsOne setup base who seen line reply at =
    IsPrefix seen at × (asks_of who line ≡ asks.Table → homes_asked setup line ≡ None → IsCounted setup (release_after base at) line reply.text)

-- a step of a legal transcript
pub step_counts : NumbersNeverFall → (who : Role) (setup : SetupValue) (base : ReleaseValue) (before : StateValue) (line : List ℕ) (reply : ReplyValue) (after : StateValue)
    → IsStep who setup base before line reply after → IsOne setup base who before.chain line reply after.chain
step_counts never_fall who setup base before line reply after (at, sees, is) = (
  (never_fall who setup base before after (line ∷ []) (reply ∷ []) (after, (at, sees, is), refl)).0,
  reply_counts (asks_of who line) setup base at line reply after is,
)

-- a party may be answered where it stands
sees_there : (describes : Bool) (state : StateValue) → SeesUnless describes state state
sees_there true state = refl
sees_there false state = (prefix_self state.chain, refl)

stands_there : (who : Role) (line : List ℕ) (state : StateValue) → Sees who line state state
stands_there role.Analyst line state = sees_there _ state
stands_there role.Custodian line state = refl

lane_counts : NumbersNeverFall → (setup : SetupValue) (base : ReleaseValue) (old : StateValue) (one : ScriptLine) (reply : ReplyValue) (new : StateValue)
    → IsLaneReply setup base old one reply new → IsOne setup base (role_of_lane one.lane) old.chain one.line reply new.chain
lane_counts never_fall setup base old one reply new is =
    step_counts never_fall (role_of_lane one.lane) setup base old one.line reply new (old, stands_there (role_of_lane one.lane) one.line old, is)

-- ---- the batches are a chain
pub same_grows : (base : ReleaseValue) (state next : StateValue) → next ≡ state → IsChain base state.chain → IsChain base next.chain
same_grows base state next goes so = subst (λ (s : StateValue). IsChain base s.chain) (sym goes) so

-- with a batch that is published
publish_grows : (base : ReleaseValue) (state next : StateValue) (text : List ℕ) → IsPublishReply (release_after base state.chain) state text next
    → IsChain base state.chain → IsChain base next.chain
publish_grows base state next text (inl (can, is, goes)) so =
    subst (λ (s : StateValue). IsChain base s.chain) (sym goes)
    (chains_go_on base state.chain (batch_of (release_after base state.chain) state.held) so (record { edits = state.held; can = can; theirs = refl }))
publish_grows base state next text (inr (inl (kind, edit, why, is, goes))) so = subst (λ (s : StateValue). IsChain base s.chain) (sym goes) so
publish_grows base state next text (inr (inr (is, goes))) so = same_grows base state next goes so

pub reply_grows : (what : Asks) (setup : SetupValue) (base : ReleaseValue) (state : StateValue) (line : List ℕ) (reply : ReplyValue) (next : StateValue)
    → IsReplyTo what setup base state line reply next → IsChain base state.chain → IsChain base next.chain
reply_grows asks.Nothing setup base state line reply next (is, goes) so = same_grows base state next goes so
reply_grows asks.Description setup base state line reply next (is, goes) so = same_grows base state next goes so
reply_grows asks.Table setup base state line reply next (is, goes) so = same_grows base state next goes so
reply_grows (asks.At number) setup base state line reply next (is, goes) so = same_grows base state next goes so
reply_grows asks.Edit setup base state line reply next (free, same, is) so = subst (λ (chain : List BatchValue). IsChain base chain) (sym same) so
reply_grows asks.Publish setup base state line reply next (free, is) so = publish_grows base state next reply.text is so
reply_grows asks.Stats setup base state line reply next (free, is, goes) so = same_grows base state next goes so
reply_grows asks.Clear setup base state line reply next (is, goes) so = same_grows base state next goes so
reply_grows (asks.Cache capacity) setup base state line reply next (free, is, goes) so = same_grows base state next goes so

lane_grows : (setup : SetupValue) (base : ReleaseValue) (old : StateValue) (one : ScriptLine) (reply : ReplyValue) (new : StateValue)
    → IsLaneReply setup base old one reply new → IsChain base old.chain → IsChain base new.chain
lane_grows setup base old one reply new is so = reply_grows (asks_of (role_of_lane one.lane) one.line) setup base old one.line reply new is so

-- batches that can all follow are one
pub all_follow : (setup : SetupValue) (release : ReleaseValue) (batches : List (List Edit)) → CanAllFollow setup release batches → IsChain release (batches_of release batches)
all_follow setup release [] h = tt
all_follow setup release (edits ∷ more) (fit, can, rest) =
    (record { edits = edits; can = can; theirs = refl }, all_follow setup (after_batch release (batch_of release edits)) more rest)

-- ---- lines one after another: what each saw begins what the last saw
module _ {S L : Type 0} (setup : SetupValue) (base : ReleaseValue) (who : L → Role) (said : L → List ℕ) (seen : S → List BatchValue)
    (Step : S → L → ReplyValue → S → Type 0)
    (one : (old : S) (line : L) (reply : ReplyValue) (new : S) → Step old line reply new → IsOne setup base (who line) (seen old) (said line) reply (seen new)) where
  pub lines_begin : (first last : S) (lines : List L) (replies : List ReplyValue) → Lead Step first lines replies last → IsPrefix (seen first) (seen last)
  lines_begin first last [] [] h = subst (λ s. IsPrefix (seen first) (seen s)) (sym h) (prefix_self (seen first))
  lines_begin first last [] (r ∷ rs) h = absurd h
  lines_begin first last (x ∷ xs) [] h = absurd h
  lines_begin first last (x ∷ xs) (r ∷ rs) (next, step, others) =
      prefix_trans (seen first) (seen next) (seen last) (one first x r next step).0 (lines_begin next last xs rs others)

  -- and they are answered along any chain that begins with what the last saw
  pub lines_along : (chain : List BatchValue) (first last : S) (lines : List L) (replies : List ReplyValue) → IsPrefix (seen last) chain → Lead Step first lines replies last
      → Lead (λ before line. IsAlong setup base chain (who line) before (said line)) (seen first) lines replies (seen last)
  lines_along chain first last [] [] p h = ap seen h
  lines_along chain first last [] (r ∷ rs) p h = absurd h
  lines_along chain first last (x ∷ xs) [] p h = absurd h
  lines_along chain first last (x ∷ xs) (r ∷ rs) p (next, step, others) =
      let is = one first x r next step in
      (seen next, (is.0, prefix_trans (seen next) (seen last) chain (lines_begin next last xs rs others) p, is.1), lines_along chain next last xs rs p others)

-- what each line keeps of the batches that were seen, all lines keep
module _ {S L : Type 0} (seen : S → List BatchValue) (Step : S → L → ReplyValue → S → Type 0) (P : List BatchValue → Type 0)
    (each : (old : S) (line : L) (reply : ReplyValue) (new : S) → Step old line reply new → P (seen old) → P (seen new)) where
  pub lines_grow : (first last : S) (lines : List L) (replies : List ReplyValue) → Lead Step first lines replies last → P (seen first) → P (seen last)
  lines_grow first last [] [] h so = subst (λ s. P (seen s)) (sym h) so
  lines_grow first last [] (r ∷ rs) h so = absurd h
  lines_grow first last (x ∷ xs) [] h so = absurd h
  lines_grow first last (x ∷ xs) (r ∷ rs) (next, step, others) so = lines_grow next last xs rs others (each first x r next step so)

-- the replies to a script
script_along : NumbersNeverFall → (census : CensusValue) (script : ScriptValue) (replies : List ReplyValue) (text : List ℕ)
    → AreScriptReplies census script replies → text ≡ text_of replies → IsScriptAlong census script text
script_along never_fall census script replies text (last, lead) is = (
  [],
  last.chain,
  replies,
  lines_grow (λ (s : StateValue). s.chain) (IsLaneReply census.setup (base_of census)) (λ (chain : List BatchValue). IsChain (base_of census) chain) (lane_grows census.setup (base_of census))
      (after_seeing []) last script.lines replies lead tt,
  lines_along census.setup (base_of census) (λ (l : ScriptLine). role_of_lane l.lane) (λ (l : ScriptLine). l.line) (λ (s : StateValue). s.chain)
      (IsLaneReply census.setup (base_of census)) (lane_counts never_fall census.setup (base_of census)) last.chain (after_seeing []) last script.lines replies (prefix_self last.chain) lead,
  is,
)

-- ---- with a journal
same_begins : (old next : StateValue) → next ≡ old → IsPrefix old.chain next.chain
same_begins old next same = subst (λ (s : StateValue). IsPrefix old.chain s.chain) (sym same) (prefix_self old.chain)

kept_publish_begins : (release : ReleaseValue) (old next : KeptState) (text : List ℕ) → IsKeptPublish release old text next → IsPrefix old.state.chain next.state.chain
kept_publish_begins release old next text (counts, since, inl ((can, is, goes), live, still, batches)) =
    subst (λ (s : StateValue). IsPrefix old.state.chain s.chain) (sym goes) (prefix_more old.state.chain old.state.chain _ (prefix_self old.state.chain))
kept_publish_begins release old next text (counts, since, inr (inl ((kind, edit, why, is, goes), put))) =
    subst (λ (s : StateValue). IsPrefix old.state.chain s.chain) (sym goes) (prefix_self old.state.chain)
kept_publish_begins release old next text (counts, since, inr (inr (inl (can, is, same, put)))) = same_begins old.state next.state same
kept_publish_begins release old next text (counts, since, inr (inr (inr (is, same, put)))) = same_begins old.state next.state same

kept_publish_grows : (base : ReleaseValue) (old next : KeptState) (text : List ℕ) → IsKeptPublish (release_after base old.state.chain) old text next
    → IsChain base old.state.chain → IsChain base next.state.chain
kept_publish_grows base old next text (counts, since, inl (published, live, still, batches)) so = publish_grows base old.state next.state text (inl published) so
kept_publish_grows base old next text (counts, since, inr (inl (refused, put))) so = publish_grows base old.state next.state text (inr (inl refused)) so
kept_publish_grows base old next text (counts, since, inr (inr (inl (can, is, same, put)))) so = same_grows base old.state next.state same so
kept_publish_grows base old next text (counts, since, inr (inr (inr (is, same, put)))) so = same_grows base old.state next.state same so

-- what publishes asks for no table
no_table : (what : Asks) → is_publish what ≡ true → what ≡ asks.Table → ⊥
no_table asks.Publish is table = cc
no_table asks.Nothing is table = cc
no_table asks.Description is table = cc
no_table asks.Table is table = cc
no_table (asks.At n) is table = cc
no_table asks.Edit is table = cc
no_table asks.Stats is table = cc
no_table asks.Clear is table = cc
no_table (asks.Cache k) is table = cc

pub custodian_counts : NumbersNeverFall → (publishes : Bool) (setup : SetupValue) (base : ReleaseValue) (old : KeptState) (line : List ℕ) (reply : ReplyValue) (new : KeptState)
    → asks_to_publish line ≡ publishes → IsKeptStep publishes (IsOwnStep setup base) base old line reply new
    → IsOne setup base role.Custodian old.state.chain line reply new.state.chain
custodian_counts never_fall true setup base old line reply new is step =
    (kept_publish_begins (release_after base old.state.chain) old new reply.text step.1, λ table none. absurd (no_table (asks_of role.Custodian line) is table))
custodian_counts never_fall false setup base old line reply new is step = step_counts never_fall role.Custodian setup base old.state line reply new.state step.0

pub custodian_grows : (publishes : Bool) (setup : SetupValue) (base : ReleaseValue) (old : KeptState) (line : List ℕ) (reply : ReplyValue) (new : KeptState)
    → IsKeptStep publishes (IsOwnStep setup base) base old line reply new → IsChain base old.state.chain → IsChain base new.state.chain
custodian_grows true setup base old line reply new step so = kept_publish_grows base old new reply.text step.1 so
custodian_grows false setup base old line reply new ((at, same, is), rest) so =
    reply_grows (asks_of role.Custodian line) setup base at line reply new.state is (same_grows base old.state at same so)

kept_counts : NumbersNeverFall → (who : Role) (setup : SetupValue) (base : ReleaseValue) (old : KeptState) (line : List ℕ) (reply : ReplyValue) (new : KeptState)
    → IsKeptStepOf who setup base old line reply new → IsOne setup base who old.state.chain line reply new.state.chain
kept_counts never_fall role.Custodian setup base old line reply new step = custodian_counts never_fall (asks_to_publish line) setup base old line reply new refl step
kept_counts never_fall role.Analyst setup base old line reply new (same, is) =
    subst (λ (s : KeptState). IsOne setup base role.Analyst old.state.chain line reply s.state.chain) (sym same)
    (step_counts never_fall role.Analyst setup base old.state line reply old.state (old.state, stands_there role.Analyst line old.state, is))

kept_grows : (who : Role) (setup : SetupValue) (base : ReleaseValue) (old : KeptState) (line : List ℕ) (reply : ReplyValue) (new : KeptState)
    → IsKeptStepOf who setup base old line reply new → IsChain base old.state.chain → IsChain base new.state.chain
kept_grows role.Custodian setup base old line reply new step so = custodian_grows (asks_to_publish line) setup base old line reply new step so
kept_grows role.Analyst setup base old line reply new (same, is) so = subst (λ (s : KeptState). IsChain base s.state.chain) (sym same) so

keep_along : NumbersNeverFall → (census : CensusValue) (script : ScriptValue) (replies : List ReplyValue) (text : List ℕ)
    → AreKeepReplies census script replies → text ≡ text_of replies → IsScriptAlong census script text
keep_along never_fall census script replies text (batches, moment, faults, follow, (last, lead)) is = (
  batches_of (base_of census) batches,
  last.state.chain,
  replies,
  lines_grow (λ (s : KeptState). s.state.chain) (IsKeptReply census.setup (base_of census)) (λ (chain : List BatchValue). IsChain (base_of census) chain)
      (λ old one. kept_grows (role_of_lane one.lane) census.setup (base_of census) old one.line)
      (after_playing (base_of census) batches moment faults) last script.lines replies lead (all_follow census.setup (base_of census) batches follow),
  lines_along census.setup (base_of census) (λ (l : ScriptLine). role_of_lane l.lane) (λ (l : ScriptLine). l.line) (λ (s : KeptState). s.state.chain)
      (IsKeptReply census.setup (base_of census)) (λ old one. kept_counts never_fall (role_of_lane one.lane) census.setup (base_of census) old one.line)
      last.state.chain (after_playing (base_of census) batches moment faults) last script.lines replies (prefix_self last.state.chain) lead,
  is,
)

-- ---- a whole run
-- a last line, with a status that isn't Done
abbrev pub IsLast : Status → List ℕ → Type 0
IsLast s text = (s ≢ status.Done) × (final : Status) × IsSomeLastLine final text

write_fault : (s : Status) → s ≡ status.WriteFault → s ≢ status.Done
write_fault s failed done = let both : status.WriteFault ≡ status.Done = sym failed ∙ done in cc

module _ (call : Call) (at : List ℕ → Option (List ℕ)) where
  by_end : (s : Status) (text : List ℕ) → s ≢ status.Done → IsLastLine call at s text → IsLast s text
  by_end s text not (e, ends, has, line) = (not, s, inl (e, sym has, line))

  by_journal : (s : Status) (text : List ℕ) → s ≢ status.Done → IsJournalText call at s text → IsLast s text
  by_journal s text not (other, journal, h, inl (fault, told, left, has, line)) = (not, s, inr (inl (fault, has, line)))
  by_journal s text not (other, journal, h, inr (risen, stood, has, line)) = (not, s, inr (inr (has, line)))

-- of whatever is printed: an output of what is asked for, or what stands where memory ran out
module _ (call : Call) (at : List ℕ → Option (List ℕ)) (IsAnswer : List ℕ → Type 0)
    (asked : (s : Status) (text : List ℕ) → IsAskedOutput call at s text → IsAnswer text)
    (memory : (text : List ℕ) → IsMemoryText call at text → IsLast status.Memory text ⊎ IsAnswer text) where
  whole_printed : (cause : Status) (text : List ℕ) → IsWhole call at cause text → IsLast cause text ⊎ IsAnswer text
  whole_printed status.Done text h = inr (asked status.Done text h)
  whole_printed status.Usage text h = inl (by_end call at status.Usage text (λ e. cc) h)
  whole_printed status.Schema text h = inl (by_end call at status.Schema text (λ e. cc) h)
  whole_printed status.Perturbation text h = inl (by_end call at status.Perturbation text (λ e. cc) h)
  whole_printed status.Microdata text h = inl (by_end call at status.Microdata text (λ e. cc) h)
  whole_printed status.Script text h = inl (by_end call at status.Script text (λ e. cc) h)
  whole_printed status.ReadFault text h = inl (by_end call at status.ReadFault text (λ e. cc) h)
  whole_printed status.WriteFault text h = absurd h
  whole_printed status.Memory text (h, idle) = memory text h
  whole_printed status.NetFault text h = inr (asked status.NetFault text h)
  whole_printed status.Journal text h = inl (by_journal call at status.Journal text (λ e. cc) h)
  whole_printed status.DiskFault text (inl h) = inl (by_journal call at status.DiskFault text (λ e. cc) h)
  whole_printed status.DiskFault text (inr h) = inr (asked status.DiskFault text h)
  whole_printed status.Units text h = inl (by_end call at status.Units text (λ e. cc) h)

  -- all of it was taken, or, where a write failed, a beginning
  pub printed : (s : Status) → Tells call at s → HasPrinted call s IsAnswer
  printed s (bytes, inl whole, took) =
      (bytes, [], took, inl refl, whole_printed s (bytes ++ []) (subst (λ (t : List ℕ). IsWhole call at s t) (sym (append-nil bytes)) whole))
  printed s (bytes, inr (failed, (cause, rest, whole)), took) = (
    bytes,
    rest,
    took,
    inr failed,
    elim (whole_printed cause (bytes ++ rest) whole) [
      | inl last ↦ inl (write_fault s failed, last.1, last.2)
      | inr answer ↦ inr answer
    ],
  )

module _ (never_fall : NumbersNeverFall) (call : Call) (at : List ℕ → Option (List ℕ)) (census : CensusValue) (script : ScriptValue)
    (who : Owner) (own : who ≢ owner.Leader) (asks : asked_of at call.words ≡ Ok (asked_with census who (lines.Script script))) where
  -- a custodian's, with a journal or without one
  output_along : (it : Owner) (s : Status) (text : List ℕ) → it ≢ owner.Leader
      → IsOutput (asked_with census it (lines.Script script)) call.ports call.ports_after s text → IsScriptAlong census script text
  output_along owner.Custodian s text other (done, (replies, are, is)) = script_along never_fall census script replies text are is
  output_along (owner.Journal journal) s text other (done, (replies, are, is)) = keep_along never_fall census script replies text are is
  output_along owner.Leader s text other out = absurd (other refl)

  asked_along : (s : Status) (text : List ℕ) → IsAskedOutput call at s text → IsScriptAlong census script text
  asked_along s text (other, h, out) =
      let same : other ≡ asked_with census who (lines.Script script) = cc (h, asks) in
      output_along who s text own (subst (λ (a : AskedValue). IsOutput a call.ports call.ports_after s text) same out)

  -- nothing stands before the line that tells that memory ran out
  by_memory : (text : List ℕ) → IsMemoryText call at text → IsLast status.Memory text
  by_memory text (inl line) = (λ e. cc, status.Memory, inl (end.Memory, refl, line))
  by_memory text (inr (other, h, out)) =
      let same : other ≡ asked_with census who (lines.Script script) = cc (h, asks) in
      absurd (subst (λ (a : AskedValue). IsOutputToMemory a text) same out)

  pub script_printed : (s : Status) → Tells call at s → HasPrinted call s (IsScriptAlong census script)
  script_printed = printed call at (IsScriptAlong census script) asked_along (λ text h. inl (by_memory text h))
