-- A mirror that its leader leads.
use Rattle.std.proofs.Common.{◌≡◌, ◌∙◌, ap, subst, sym, refl, ℕ, false, List, [], ◌∷◌, ◌++◌, arith, get_or, inl, inr}
use Rattle.std.specs.Prelude.{drop, take}
use Rattle.std.proofs.lemmas.List.{take-append-drop}
use mathlib.Core.List.{IsPrefix}
use Rattle.tb_ahead.specs.Publishing.{StateValue, batch_refusal_line}
use Rattle.tb_core.specs.declared.desk.Stats.{Stats}
use Rattle.tb_follow.specs.Chains.{number_at}
use Rattle.tb_follow.specs.Leading.{CanLead, IsLed, chain_of}
use Rattle.tb_follow.proofs.Trailing.{at-base-led}
use Rattle.tb_front.proofs.Prefixes.{prefix_trans}
use Rattle.tb_leader.specs.Lanes.{LaneValue, without_message}
use Rattle.tb_leader.specs.Laws.{IsGenuine}
use Rattle.tb_leader.specs.LeaderAsks.{asks_of as leader_asks}
use Rattle.tb_leader.specs.ReplyLines.{at_line}
use Rattle.tb_leader.proofs.Leading.{lanes_lead}
use Rattle.tb_lines.specs.Outputs.{Lead, ReplyValue}
use Rattle.tb_model.specs.Releases.{ReleaseValue}
use Rattle.tb_model.specs.Schemas.{shape_of}
use Rattle.tb_model.specs.Setups.{SetupValue}
use Rattle.tb_release.specs.Batches.{BatchValue}
use Rattle.tb_release.specs.declared.edits.Edit.{Edit}
use Rattle.tb_rows.specs.FaultNames.{FaultNameValue}
use Rattle.tb_session.specs.Asks as sessions
use Rattle.tb_session.specs.Replies as replies
use Rattle.tb_session.specs.declared.asks.Asks.{Asks}
use Rattle.tb_session.specs.declared.asks.Asks.TheVariants as party_asks
use Rattle.tb_session.specs.declared.party.Role.TheVariants as role
use Rattle.tb_session.specs.ReplyLines.{capacity_line, cleared_line, stats_line}
use Rattle.tb_tables.specs.ReplyLines.{memory_line}
use Rattle.tb_worker.specs.Visits.{AreVisits, Visit}
use Rattle.tb_worker.proofs.Visiting.{visits_as}
use Rattle.tb_mirror.specs.Laws.{AnalystsSeeTheLeadersChain, IsGenuineStep, IsLedStep, MirrorsAreLed}
use Rattle.tb_mirror.specs.MirrorAsks.{asks_by, asks_of}
use Rattle.tb_mirror.specs.MirrorReplies.{IsMirrorStep, IsReplyTo, custodian_at}
use Rattle.tb_mirror.specs.Mirroring.{first_mirror}
use Rattle.tb_mirror.specs.declared.asks.MirrorAsks.{MirrorAsks}
use Rattle.tb_mirror.specs.declared.asks.MirrorAsks.TheVariants as asks
use Rattle.tb_mirror.proofs.Answering.{as_custodians}

-- ---- no reply of a mirror's own refuses a batch
abbrev IsNoRefusal : List ℕ → Type 0
IsNoRefusal text = (edit : ℕ) (name : FaultNameValue) → ¬ (text ≡ batch_refusal_line edit name)

same_text : (text other : List ℕ) → text ≡ other → IsNoRefusal other → IsNoRefusal text
same_text text other same none = subst IsNoRefusal (sym same) none

at_is_none : (n : ℕ) → IsNoRefusal (at_line n)
at_is_none n edit name same = let e : 97 ≡ 114 = ap (λ t. get_or t 0 0) same in omega (arith, e)

stats_is_none : (stats : Stats) → IsNoRefusal (stats_line stats)
stats_is_none stats edit name same = let e : 115 ≡ 114 = ap (λ t. get_or t 0 0) same in omega (arith, e)

cleared_is_none : IsNoRefusal cleared_line
cleared_is_none edit name same = let e : 99 ≡ 114 = ap (λ t. get_or t 0 0) same in omega (arith, e)

capacity_is_none : (k : ℕ) → IsNoRefusal (capacity_line k)
capacity_is_none k edit name same = let e : 99 ≡ 114 = ap (λ t. get_or t 0 0) same in omega (arith, e)

memory_is_none : IsNoRefusal memory_line
memory_is_none edit name same = let e : 109 ≡ 114 = ap (λ t. get_or t 0 0) same in omega (arith, e)

-- nor one of the custodian's that a mirror takes
own_is_none : (a : Asks) (setup : SetupValue) (base : ReleaseValue) (state next : StateValue) (line : List ℕ) (reply : ReplyValue) → asks_by a ≡ asks.Custodian → replies.IsReplyTo a setup base state line reply next → IsNoRefusal reply.text
own_is_none party_asks.Nothing setup base state next line reply of is = absurd (cc (of))
own_is_none party_asks.Description setup base state next line reply of is = absurd (cc (of))
own_is_none party_asks.Table setup base state next line reply of is = absurd (cc (of))
own_is_none (party_asks.At n) setup base state next line reply of is = absurd (cc (of))
own_is_none party_asks.Edit setup base state next line reply of is = absurd (cc (of))
own_is_none party_asks.Publish setup base state next line reply of is = absurd (cc (of))
own_is_none party_asks.Stats setup base state next line reply of (free, (stats, are, is), same) = same_text reply.text (stats_line stats) is (stats_is_none stats)
own_is_none party_asks.Clear setup base state next line reply of is = same_text reply.text cleared_line (ap (λ (r : ReplyValue). r.text) is.0) cleared_is_none
own_is_none (party_asks.Cache k) setup base state next line reply of (free, inl is, same) = same_text reply.text (capacity_line k) is (capacity_is_none k)
own_is_none (party_asks.Cache k) setup base state next line reply of (free, inr is, same) = same_text reply.text memory_line is memory_is_none

-- the first of a list are a beginning of it
prefix_take : {A : Type 0} (n : ℕ) (xs : List A) → IsPrefix (take n xs) xs
prefix_take n xs = (drop n xs, take-append-drop n xs)

-- ---- what stays true of the mirror: it is led, on this release 0
pub record IsOn (lists : List (List Edit)) (base : ReleaseValue) (lane : LaneValue) : Type 0 where
  pub led : IsLed lists lane.follower
  pub first : lane.follower.chain.base ≡ base

-- its chain is a beginning of the leader's
chain_begins : (lists : List (List Edit)) (base : ReleaseValue) (lane : LaneValue) → IsOn lists base lane → IsPrefix lane.follower.chain.batches (chain_of base lists)
chain_begins lists base lane on =
    subst (λ (bs : List BatchValue). IsPrefix bs (chain_of base lists)) (sym (on.led.batches ∙ ap (λ (b : ReleaseValue). take (number_at lane.follower.chain) (chain_of b lists)) on.first))
    (prefix_take (number_at lane.follower.chain) (chain_of base lists))

module _ (lists : List (List Edit)) (setup : SetupValue) (base : ReleaseValue) (can : CanLead base lists) where
  stays : (lane next : LaneValue) → IsOn lists base lane → next ≡ lane → IsOn lists base next
  stays lane next on same = subst (IsOn lists base) (sym same) on

  by_asks : (a : MirrorAsks) (lane next : LaneValue) (line : List ℕ) (reply : ReplyValue) → asks_of line ≡ a → IsReplyTo a setup lane line reply next → IsGenuine lists lane (leader_asks line) → IsOn lists base lane
      → IsOn lists base next × IsNoRefusal reply.text
  by_asks asks.Where lane next line reply asked is genuine on = (stays lane next on is.1, same_text reply.text _ (ap (λ (r : ReplyValue). r.text) is.0) (at_is_none (number_at lane.follower.chain)))
  by_asks asks.Custodian lane next line reply asked is genuine on =
      (stays lane next on is.1, own_is_none (sessions.asks_of role.Custodian line) setup lane.follower.chain.base (custodian_at lane) (custodian_at lane) line reply (as_custodians line asked) is.0)
  by_asks asks.Leader lane next line reply asked is genuine on =
      let goes = lanes_lead lists false setup.schema lane next line reply (subst (λ (b : ReleaseValue). CanLead b lists) (sym on.first) can) on.led genuine is in
      (record { led = goes.led; first = goes.base ∙ on.first }, goes.unrefused)

  -- ---- lines, and the visits that they make
  lines : (first : LaneValue) (ls : List (List ℕ)) (rs : List ReplyValue) (last : LaneValue) → IsOn lists base first → Lead (IsGenuineStep lists setup) first ls rs last
      → IsOn lists base last × Lead (IsLedStep lists setup base) first ls rs last
  lines first [] [] last on h = (stays first last on h, h)
  lines first [] (r ∷ rs) last on h = absurd h
  lines first (l ∷ ls) [] last on h = absurd h
  lines first (l ∷ ls) (r ∷ rs) last on (next, (step, genuine), rest) =
      let (led, none) = by_asks (asks_of l) first next l r refl step genuine on in
      let (end, more) = lines next ls rs last led rest in
      (end, (next, record { step = step; begins = chain_begins lists base next led; unrefused = none }, more))

  begun : (lane : LaneValue) → IsOn lists base lane → IsOn lists base (without_message lane)
  begun lane on = record { led = on.led; first = on.first }

  visited : (from to : LaneValue) (visits : List Visit) → IsOn lists base from → AreVisits (Lead (IsGenuineStep lists setup)) without_message from visits to
      → IsOn lists base to × AreVisits (Lead (IsLedStep lists setup base)) without_message from visits to
  visited from to visits on h =
      visits_as (Lead (IsGenuineStep lists setup)) (Lead (IsLedStep lists setup base)) without_message without_message (λ lane. lane) (IsOn lists base) begun (λ lane. refl) lines from to visits on h

pub mirrors_are_led : MirrorsAreLed
mirrors_are_led lists setup base last visits can h =
    let (on, led) = visited lists setup base can (first_mirror setup base) last visits (record { led = at-base-led lists (shape_of setup.schema) base; first = refl }) h in
    (led, chain_begins lists base last on)

pub analysts_see : AnalystsSeeTheLeadersChain
analysts_see setup base most i chain whole before after begin h =
    record { last = h.last; visited = h.visited; ends = prefix_trans h.last.chain chain whole h.ends begin }
