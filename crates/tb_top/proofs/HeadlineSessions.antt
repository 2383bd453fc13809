-- What a call keeps says that each table that a session prints is counted over one release of the one chain.
use Rattle.std.proofs.Common.{◌≡◌, ◌∙◌, sym, true≢false, false, ap, subst, refl, ℕ, zero, suc, ◌+◌, ◌<◌, List, [], ◌∷◌, ◌++◌, length, take, get_or, arith, inl, inr}
use Rattle.std.specs.Prelude.{◌≢◌, ◌⊎◌, Option, Ok}
use Rattle.std.proofs.lemmas.List.{get_or-take}
use mathlib.Core.List.{IsPrefix}
use Rattle.tb_ahead.specs.Keeping.{KeptState}
use Rattle.tb_ahead.specs.Publishing.{StateValue, after_seeing, let_go}
use Rattle.tb_base.specs.declared.status.Status.{Status}
use Rattle.tb_base.specs.declared.status.Status.TheVariants as status
use Rattle.tb_front.proofs.Prefixes.{prefix_self, prefix_trans}
use Rattle.tb_host.specs.Sessions.{IsHosted, at_session}
use Rattle.tb_keep.specs.Chains.{IsOwnKeptStep, batches_of}
use Rattle.tb_keep.specs.JournalRuns.{after_playing}
use Rattle.tb_keep.specs.Publishers.{asks_to_publish}
use Rattle.tb_leader.specs.Lanes.{LaneValue}
use Rattle.tb_lines.specs.Outputs.{Lead, ReplyValue}
use Rattle.tb_lines.specs.Sessions.{IsSession}
use Rattle.tb_lines.proofs.OtherWords.{session_as}
use Rattle.tb_mirror.specs.Mirroring.{IsPortMirrored}
use Rattle.tb_model.specs.Releases.{ReleaseValue}
use Rattle.tb_model.specs.Setups.{SetupValue}
use Rattle.tb_release.specs.Batches.{BatchValue}
use Rattle.tb_release.specs.Chains.{IsChain}
use Rattle.tb_release.specs.declared.edits.Edit.{Edit}
use Rattle.tb_serve.specs.Each.{Each}
use Rattle.tb_serve.specs.Places.{number_at}
use Rattle.tb_serve.specs.Ports.{PortValue}
use Rattle.tb_serve.specs.Serves.{EndsAt, HasServed, IsPortServed, IsVisited, role_at}
use Rattle.tb_session.specs.Asks.{asks_of}
use Rattle.tb_session.specs.Laws.{NumbersNeverFall}
use Rattle.tb_session.specs.Transcripts.{IsStep}
use Rattle.tb_session.specs.declared.party.Role.{Role}
use Rattle.tb_session.specs.declared.party.Role.TheVariants as role
use Rattle.tb_worker.specs.Visits.{AreVisits, Visit}
use Rattle.tb_worker.proofs.Visiting.{replied}
use Rattle.tb_top.specs.Asking.{AskedValue, CensusValue, asked_of, asked_with, base_of, is_keep}
use Rattle.tb_top.specs.declared.asked.AskedLines.TheVariants as lines
use Rattle.tb_command.specs.declared.command.Owner.{Owner}
use Rattle.tb_command.specs.declared.command.Owner.TheVariants as owner
use Rattle.tb_top.specs.Calls.{Call, output_of}
use Rattle.tb_top.specs.Counted.{IsAlong}
use Rattle.tb_top.specs.Talks.{ArePortsAlong, IsPortAlong}
use Rattle.tb_top.specs.HostOutputs.{IsHostAnswered}
use Rattle.tb_top.specs.MirrorOutputs.{IsMirrorOutput}
use Rattle.tb_top.specs.Outputs.{IsOutput}
use Rattle.tb_top.specs.Promises.{IsAskedOutput, IsHostKept, IsJournalText, IsLastLine, IsWhole, Tells}
use Rattle.tb_command.specs.ServicePorts.{Service}
use Rattle.tb_serve.specs.declared.places.Places.{Places}
use Rattle.tb_top.specs.Services.{IsServiceOutput, IsUnserved, places_of, ports_of}
use Rattle.tb_top.proofs.Headline.{IsOne, all_follow, custodian_counts, custodian_grows, lines_along, lines_begin, lines_grow, reply_grows, same_grows, step_counts}
use Rattle.tb_top.proofs.PortLemmas.{all-unserved, each-unserved}

-- ---- the sessions of one port
module _ {S : Type 0} (setup : SetupValue) (base : ReleaseValue) (who : Role) (seen : S → List BatchValue) (fresh : S → S)
    (Step : S → List ℕ → ReplyValue → S → Type 0) (begins : (s : S) → seen (fresh s) ≡ seen s)
    (one : (old : S) (line : List ℕ) (reply : ReplyValue) (new : S) → Step old line reply new → IsOne setup base who (seen old) line reply (seen new)) where
  -- what they began with they saw to the end
  visits_begin : (from to : S) (visits : List Visit) → AreVisits (Lead Step) fresh from visits to → IsPrefix (seen from) (seen to)
  visits_begin from to [] h = subst (λ (s : S). IsPrefix (seen from) (seen s)) (sym h) (prefix_self (seen from))
  visits_begin from to (v ∷ vs) (next, is, others) =
      let (lines, replies, legal) = replied (Lead Step) v.end v.came.left v.went.left v.came.taken v.went.taken (fresh from) next is.session in
      let first : IsPrefix (seen (fresh from)) (seen next) =
      lines_begin setup base (λ (l : List ℕ). who) (λ (l : List ℕ). l) seen Step one (fresh from) next lines replies legal in
      prefix_trans (seen from) (seen next) (seen to) (subst (λ (c : List BatchValue). IsPrefix c (seen next)) (begins from) first) (visits_begin next to vs others)

  -- so they were answered along a chain that begins with what they saw at the end
  visits_along : (chain : List BatchValue) (from to : S) (visits : List Visit) → IsPrefix (seen to) chain → AreVisits (Lead Step) fresh from visits to
      → AreVisits (Lead (IsAlong setup base chain who)) (λ (c : List BatchValue). c) (seen from) visits (seen to)
  visits_along chain from to [] p h = ap seen h
  visits_along chain from to (v ∷ vs) p (next, is, others) =
      let later : IsPrefix (seen next) chain = prefix_trans (seen next) (seen to) chain (visits_begin next to vs others) p in
      let session : IsSession (Lead (IsAlong setup base chain who)) v.end v.came.left v.went.left (seen (fresh from)) (seen next) v.came.taken v.went.taken =
      session_as (Lead Step) (Lead (IsAlong setup base chain who)) (fresh from) next (seen (fresh from)) (seen next)
      (λ lines replies legal. lines_along setup base (λ (l : List ℕ). who) (λ (l : List ℕ). l) seen Step one chain (fresh from) next lines replies later legal)
      v.end v.came.left v.went.left v.came.taken v.went.taken is.session in (
        seen next,
        record {
          session = subst (λ (c : List BatchValue). IsSession (Lead (IsAlong setup base chain who)) v.end v.came.left v.went.left c (seen next) v.came.taken v.went.taken) (begins from) session;
          cause = is.cause;
        },
        visits_along chain next to vs p others,
      )

  port_along : (chain : List BatchValue) (most : ℕ) (from to : S) (before after : PortValue) → IsPrefix (seen to) chain → IsVisited (Lead Step) fresh most from to before after
      → IsVisited (Lead (IsAlong setup base chain who)) (λ (c : List BatchValue). c) most (seen from) (seen to) before after
  port_along chain most from to before after p h = record {
    visits = h.visits;
    given = h.given;
    counted = h.counted;
    enough = h.enough;
    lead = visits_along chain from to h.visits p h.lead;
  }

-- the batches of a party whose lines keep a chain are one after its sessions too
module _ {S : Type 0} (base : ReleaseValue) (seen : S → List BatchValue) (fresh : S → S) (Step : S → List ℕ → ReplyValue → S → Type 0)
    (begins : (s : S) → seen (fresh s) ≡ seen s)
    (each : (old : S) (line : List ℕ) (reply : ReplyValue) (new : S) → Step old line reply new → IsChain base (seen old) → IsChain base (seen new)) where
  visits_grow : (from to : S) (visits : List Visit) → AreVisits (Lead Step) fresh from visits to → IsChain base (seen from) → IsChain base (seen to)
  visits_grow from to [] h so = subst (λ (s : S). IsChain base (seen s)) (sym h) so
  visits_grow from to (v ∷ vs) (next, is, others) so =
      let (lines, replies, legal) = replied (Lead Step) v.end v.came.left v.went.left v.came.taken v.went.taken (fresh from) next is.session in
      visits_grow next to vs others
      (lines_grow seen Step (λ (c : List BatchValue). IsChain base c) each (fresh from) next lines replies legal
      (subst (λ (c : List BatchValue). IsChain base c) (sym (begins from)) so))

abbrev pub chain_of : StateValue → List BatchValue
chain_of s = s.chain

abbrev kept_chain : KeptState → List BatchValue
kept_chain s = s.state.chain

pub own_grows : (setup : SetupValue) (base : ReleaseValue) (old : StateValue) (line : List ℕ) (reply : ReplyValue) (new : StateValue)
    → IsStep role.Custodian setup base old line reply new → IsChain base old.chain → IsChain base new.chain
own_grows setup base old line reply new (at, same, is) so =
    reply_grows (asks_of role.Custodian line) setup base at line reply new is (same_grows base old at same so)

kept_own_counts : NumbersNeverFall → (setup : SetupValue) (base : ReleaseValue) (old : KeptState) (line : List ℕ) (reply : ReplyValue) (new : KeptState)
    → IsOwnKeptStep setup base old line reply new → IsOne setup base role.Custodian old.state.chain line reply new.state.chain
kept_own_counts never_fall setup base old line reply new step = custodian_counts never_fall (asks_to_publish line) setup base old line reply new refl step

kept_own_grows : (setup : SetupValue) (base : ReleaseValue) (old : KeptState) (line : List ℕ) (reply : ReplyValue) (new : KeptState)
    → IsOwnKeptStep setup base old line reply new → IsChain base old.state.chain → IsChain base new.state.chain
kept_own_grows setup base old line reply new step so = custodian_grows (asks_to_publish line) setup base old line reply new step so

-- a party ends at a beginning of the chain
ends_within : (who : Role) (seen chain : List BatchValue) → EndsAt who seen chain → IsPrefix seen chain
ends_within role.Custodian seen chain same = subst (λ (c : List BatchValue). IsPrefix seen c) same (prefix_self seen)
ends_within role.Analyst seen chain begins = begins

-- ---- all ports
module _ (never_fall : NumbersNeverFall) (census : CensusValue) (most : ℕ) where
  served_along : (start chain : List BatchValue) (i : ℕ) (before after : PortValue) → HasServed census.setup (base_of census) most start chain i before after
      → IsPortAlong census most chain i before after
  served_along start chain i before after h = (
    start,
    h.last.chain,
    port_along census.setup (base_of census) (role_at i) chain_of let_go (IsStep (role_at i) census.setup (base_of census)) (λ s. refl)
        (step_counts never_fall (role_at i) census.setup (base_of census)) chain most (after_seeing start) h.last before after
        (ends_within (role_at i) h.last.chain chain h.ends) h.visited,
  )

  -- where the first port is the custodian's
  custodian_chain : (chain : List BatchValue) (before after : PortValue) → HasServed census.setup (base_of census) most [] chain zero before after
      → IsChain (base_of census) chain
  custodian_chain chain before after h =
      subst (λ (c : List BatchValue). IsChain (base_of census) c) h.ends
      (visits_grow (base_of census) chain_of let_go (IsStep role.Custodian census.setup (base_of census)) (λ s. refl) (own_grows census.setup (base_of census))
      (after_seeing []) h.last h.visited.visits h.visited.lead tt)

  -- what a port tells, by who owns the chain
  abbrev By : Owner → (chain : List BatchValue) → ℕ → (before after : PortValue) → Type 0
  By who chain i before after = (who ≢ owner.Leader) ⊎ (i ≢ 0) → IsPortAlong census most chain i before after

  -- those of all ports, along one chain
  abbrev pub Along : Owner → (before after : List PortValue) → Type 0
  Along who before after =
      (c : List BatchValue) × (who ≢ owner.Leader → IsChain (base_of census) c) × Each (By who c) before after

  serve_along : (places : Places) (chain : List BatchValue) (before after : List PortValue) → Each (IsPortServed census.setup (base_of census) places most chain) before after
      → Along owner.Custodian before after
  serve_along places chain [] after each = ([], λ own. tt, record { same_length = each.same_length; at = λ i d below. absurd (omega arith) })
  serve_along places chain (p ∷ ps) after each = (
    chain,
    λ own. custodian_chain chain p (get_or after zero p) (each.at zero p (omega arith)).sessions,
    record {
      same_length = each.same_length;
      at = λ i d below other. served_along [] chain i (get_or (p ∷ ps) i d) (get_or after i d) (each.at i d below).sessions;
    },
  )

  -- with a journal
  hosted_along : (batches : List (List Edit)) (moment faults : ℕ) (last : KeptState) (i : ℕ) (before after : PortValue)
      → IsHosted census.setup (base_of census) most (after_playing (base_of census) batches moment faults) last i before after
      → IsPortAlong census most last.state.chain i before after
  hosted_along batches moment faults last zero before after h = (
    batches_of (base_of census) batches,
    last.state.chain,
    port_along census.setup (base_of census) role.Custodian kept_chain at_session (IsOwnKeptStep census.setup (base_of census)) (λ s. refl)
        (kept_own_counts never_fall census.setup (base_of census)) last.state.chain most (after_playing (base_of census) batches moment faults) last before after
        (prefix_self last.state.chain) h,
  )
  hosted_along batches moment faults last (suc i) before after h = served_along (batches_of (base_of census) batches) last.state.chain (suc i) before after h

  host_along : (journal : List ℕ) (batches : List (List Edit)) (moment faults : ℕ) (last : KeptState) (before after : List PortValue)
      → IsChain (base_of census) (batches_of (base_of census) batches)
      → Each (IsHosted census.setup (base_of census) most (after_playing (base_of census) batches moment faults) last) before after
      → Along (owner.Journal journal) before after
  host_along journal batches moment faults last [] after follow each = ([], λ own. tt, record { same_length = each.same_length; at = λ i d below. absurd (omega arith) })
  host_along journal batches moment faults last (p ∷ ps) after follow each =
      let own : IsVisited (Lead (IsOwnKeptStep census.setup (base_of census))) at_session most (after_playing (base_of census) batches moment faults) last p (get_or after zero p) =
      each.at zero p (omega arith) in (
        last.state.chain,
        λ own_chain. visits_grow (base_of census) kept_chain at_session (IsOwnKeptStep census.setup (base_of census)) (λ s. refl) (kept_own_grows census.setup (base_of census))
            (after_playing (base_of census) batches moment faults) last own.visits own.lead follow,
        record {
          same_length = each.same_length;
          at = λ i d below other. hosted_along batches moment faults last i (get_or (p ∷ ps) i d) (get_or after i d) (each.at i d below);
        },
      )

  -- a mirror's port
  mirror_port : (places : Places) (last : LaneValue) (i : ℕ) (before after : PortValue) → IsPortMirrored census.setup (base_of census) places most last i before after
      → By owner.Leader last.follower.chain.batches i before after
  mirror_port places last zero before after h (inl other) = absurd (other refl)
  mirror_port places last zero before after h (inr other) = absurd (other refl)
  mirror_port places last (suc i) before after h other = served_along [] last.follower.chain.batches (suc i) before after h.sessions

  -- and all of them
  mirrored_along : (places : Places) (last : LaneValue) (before after : List PortValue) → Each (IsPortMirrored census.setup (base_of census) places most last) before after
      → Along owner.Leader before after
  mirrored_along places last before after each = (
    last.follower.chain.batches,
    λ own. absurd (own refl),
    record {
      same_length = each.same_length;
      at = λ i d below other. mirror_port places last i (get_or before i d) (get_or after i d) (each.at i d below) other;
    },
  )

-- ---- ports at which no session came or went
take_lengths : (n : ℕ) (xs ys : List PortValue) → length ys ≡ length xs → length (take n ys) ≡ length (take n xs)
take_lengths zero xs ys same = refl
take_lengths (suc n) [] [] same = refl
take_lengths (suc n) [] (y ∷ ys) same = absurd (omega arith)
take_lengths (suc n) (x ∷ xs) [] same = absurd (omega arith)
take_lengths (suc n) (x ∷ xs) (y ∷ ys) same = ap suc (take_lengths n xs ys (omega arith))

take_within : (n : ℕ) (xs : List PortValue) (i : ℕ) → i < length (take n xs) → (i < n) × (i < length xs)
take_within zero xs i below = absurd (omega arith)
take_within (suc n) [] i below = absurd (omega arith)
take_within (suc n) (x ∷ xs) zero below = (omega arith, omega arith)
take_within (suc n) (x ∷ xs) (suc i) below =
    let (low, inside) = take_within n xs i (omega arith) in (omega (arith, low), omega (arith, inside))

take_unserved : (n : ℕ) (ports ports' : List PortValue) → Each (λ _. IsUnserved) ports ports' → Each (λ _. IsUnserved) (take n ports) (take n ports')
take_unserved n ports ports' each = record {
  same_length = take_lengths n ports ports' each.same_length;
  at = λ i d below.
      let (low, inside) = take_within n ports i below in
      let at : IsUnserved (get_or ports i d) (get_or ports' i d) = each.at i d inside in
      subst (λ (p : PortValue). IsUnserved p (get_or (take n ports') i d)) (sym (get_or-take n ports i d low))
      (subst (λ (q : PortValue). IsUnserved (get_or ports i d) q) (sym (get_or-take n ports' i d low)) at);
}

-- ---- a whole run
-- where no journal is asked for none is told of
no_journal : (call : Call) (at : List ℕ → Option (List ℕ)) (task : AskedValue) → asked_of at call.words ≡ Ok task → is_keep task ≡ false
    → (s : Status) (text : List ℕ) → IsJournalText call at s text → ⊥
no_journal call at task asks none s text (census, journal, (ls, h), line) =
    let same : asked_with census (owner.Journal journal) ls ≡ task = cc (h, asks) in
    true≢false (ap is_keep same ∙ none)

-- of sessions without a journal: where a run of them came to its end, none came or went or its output tells of them
module _ (call : Call) (at : List ℕ → Option (List ℕ)) (task : AskedValue) (asks : asked_of at call.words ≡ Ok task) (Told : Type 0)
    (none : call.ports_after ≡ call.ports → Told) (unserved : Each (λ _. IsUnserved) call.ports call.ports_after → Told)
    (answered : (s : Status) (text : List ℕ) → IsOutput task call.ports call.ports_after s text → Told)
    (unkept : (s : Status) (text : List ℕ) → IsJournalText call at s text → Told) where
  asked_told : (s : Status) (text : List ℕ) → IsAskedOutput call at s text → Told
  asked_told s text (other, h, out) =
      let same : other ≡ task = cc (h, asks) in
      answered s text (subst (λ (a : AskedValue). IsOutput a call.ports call.ports_after s text) same out)

  end_told : (s : Status) (text : List ℕ) → IsLastLine call at s text → Told
  end_told s text (e, (ended, caused, same), has, line) = none same

  whole_told : (cause : Status) (text : List ℕ) → IsWhole call at cause text → Told
  whole_told status.Done text h = asked_told status.Done text h
  whole_told status.Usage text h = end_told status.Usage text h
  whole_told status.Schema text h = end_told status.Schema text h
  whole_told status.Perturbation text h = end_told status.Perturbation text h
  whole_told status.Microdata text h = end_told status.Microdata text h
  whole_told status.Script text h = end_told status.Script text h
  whole_told status.ReadFault text h = end_told status.ReadFault text h
  whole_told status.WriteFault text h = absurd h
  whole_told status.Memory text (h, idle) = unserved idle
  whole_told status.NetFault text h = asked_told status.NetFault text h
  whole_told status.Journal text h = unkept status.Journal text h
  whole_told status.DiskFault text (inl h) = unkept status.DiskFault text h
  whole_told status.DiskFault text (inr h) = asked_told status.DiskFault text h
  whole_told status.Units text h = end_told status.Units text h

  run_told : (s : Status) → Tells call at s → Told
  run_told s (bytes, inl whole, took) = whole_told s bytes whole
  run_told s (bytes, inr (failed, (cause, rest, whole)), took) = whole_told cause (bytes ++ rest) whole

module _ (never_fall : NumbersNeverFall) (call : Call) (at : List ℕ → Option (List ℕ)) (census : CensusValue) (service : Service) where
  abbrev before : List PortValue
  before = ports_of service call.ports

  abbrev after : List PortValue
  after = ports_of service call.ports_after

  none_came : call.ports_after ≡ call.ports → Each (λ _. IsUnserved) before after
  none_came same = all-unserved before after (ap (λ (ps : List PortValue). ports_of service ps) same)

  none_served : Each (λ _. IsUnserved) call.ports call.ports_after → Each (λ _. IsUnserved) before after
  none_served each = take_unserved (service.workers + 1) call.ports call.ports_after each

  service_along : (s : Status) (text : List ℕ) → IsServiceOutput census service call.ports call.ports_after s text → ArePortsAlong owner.Custodian census service before after
  service_along s text (inl (chain, served, is, report)) = inl (serve_along never_fall census service.sessions (places_of service) chain before after served.0)
  service_along s text (inr (untouched, rose, is, line)) = inr (each-unserved (number_at (places_of service)) before after untouched.0)

  abbrev serves : AskedValue
  serves = asked_with census owner.Custodian (lines.Ports service)

  serve_sessions : (s : Status) → asked_of at call.words ≡ Ok serves → Tells call at s → ArePortsAlong owner.Custodian census service before after
  serve_sessions s asks tells =
      run_told call at serves asks (ArePortsAlong owner.Custodian census service before after) (λ same. inr (none_came same)) (λ each. inr (none_served each))
      service_along (λ s text h. absurd (no_journal call at serves asks refl s text h)) s tells

  mirror_along : (s : Status) (text : List ℕ) → IsMirrorOutput census service call.ports call.ports_after s text → ArePortsAlong owner.Leader census service before after
  mirror_along s text (inl (last, served, is, report)) =
      inl (mirrored_along never_fall census service.sessions (places_of service) last before after served.0)
  mirror_along s text (inr (untouched, rose, is, line)) = inr (each-unserved (number_at (places_of service)) before after untouched.0)

  abbrev mirrors : AskedValue
  mirrors = asked_with census owner.Leader (lines.Ports service)

  mirror_sessions : (s : Status) → asked_of at call.words ≡ Ok mirrors → Tells call at s → ArePortsAlong owner.Leader census service before after
  mirror_sessions s asks tells =
      run_told call at mirrors asks (ArePortsAlong owner.Leader census service before after) (λ same. inr (none_came same)) (λ each. inr (none_served each))
      mirror_along (λ s text h. absurd (no_journal call at mirrors asks refl s text h)) s tells

  -- with a journal
  hosts_along : (journal : List ℕ) (s : Status) → IsHostAnswered census service journal call.ports call.ports_after s (output_of call) call.disk
      → ArePortsAlong (owner.Journal journal) census service before after
  hosts_along journal s (long, others, inl (same, still, ended)) = inr (all-unserved before after same)
  hosts_along journal s (long, others, inr (inl (fault, same, left, refused, ended))) = inr (all-unserved before after same)
  hosts_along journal s (long, others, inr (inr (inl (none, left)))) = inr (each-unserved (number_at (places_of service)) before after none.0)
  hosts_along journal s (long, others, inr (inr (inr (inl (same, rose, stood, ended))))) = inr (all-unserved before after same)
  hosts_along journal s (long, others, inr (inr (inr (inr (inl (unbound, recovered)))))) = inr (each-unserved (number_at (places_of service)) before after unbound.0)
  hosts_along journal s (long, others, inr (inr (inr (inr (inr all))))) =
      inl (host_along never_fall census service.sessions journal all.batches all.first_moment all.first_faults all.hosted.last before after
      (all_follow census.setup (base_of census) all.batches all.recovered.follow) all.hosted.sessions)

  host_sessions : (s : Status) (journal : List ℕ) → asked_of at call.words ≡ Ok (asked_with census (owner.Journal journal) (lines.Ports service)) → IsHostKept call at s
      → ArePortsAlong (owner.Journal journal) census service before after
  host_sessions s journal asks kept = elim (kept census journal service asks) [
    | inl answered ↦ hosts_along journal s answered
    | inr ended ↦ inr (none_came ended.0)
  ]

  -- whoever owns the chain
  pub sessions_along : (s : Status) (who : Owner) → asked_of at call.words ≡ Ok (asked_with census who (lines.Ports service)) → Tells call at s
      → IsHostKept call at s → ArePortsAlong who census service before after
  sessions_along s owner.Custodian asks tells kept = serve_sessions s asks tells
  sessions_along s (owner.Journal journal) asks tells kept = host_sessions s journal asks kept
  sessions_along s owner.Leader asks tells kept = mirror_sessions s asks tells
