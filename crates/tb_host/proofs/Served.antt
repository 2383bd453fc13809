-- All ports of a server that keeps a journal, from the custodian's sessions to the end.
use Rattle.std.proofs.Common.{◌≡◌, ◌∙◌, sym, ap, subst, refl, ℕ, zero, suc, ◌<◌, ◌≤◌, Bool, true, List, [], ◌∷◌, length, None, arith, inl, inr, ⊎_elim}
use Rattle.std.specs.Prelude.{Option, slice_index_or}
use Rattle.tb_ahead.specs.Keepers.{IsAt, KeeperValue, KeepsTo, Reaches, at_start}
use Rattle.tb_ahead.specs.Keeping.{KeptState}
use Rattle.tb_ahead.specs.Publishing.{StateValue, after_seeing, let_go}
use Rattle.tb_ahead.specs.Puts.{FileStands, Since}
use Rattle.tb_base.specs.declared.status.Status.{Status}
use Rattle.tb_board.specs.Custodians.{CustodianValue}
use Rattle.tb_disk.specs.Moments.{KeepsPast}
use Rattle.tb_host.specs.Endings.{IsHostReported}
use Rattle.tb_host.specs.Hosting.{HostsAll}
use Rattle.tb_host.specs.Sessions.{AreHostedFrom, HostsFrom, IsHosted, IsLeftAt, at_session}
use Rattle.tb_host.proofs.Visits.{visited, visits_counted, visits_since, visits_theirs}
use Rattle.tb_journal_file.specs.Files.{AreLeft, EachStandsBetween, EachStandsFor, all_of}
use Rattle.tb_journal_file.proofs.Putting.{left_from_now}
use Rattle.tb_keep.specs.Chains.{IsOwnKeptStep, batches_of}
use Rattle.tb_keep.specs.JournalRuns.{after_playing}
use Rattle.tb_keep.specs.Publishers.{IsOwnStep, asks_to_publish}
use Rattle.tb_keep.specs.Recoveries.{HasRecovered}
use Rattle.tb_keep.specs.Seen.{JournalSeen}
use Rattle.tb_lines.specs.Outputs.{Lead}
use Rattle.tb_model.specs.Releases.{ReleaseValue}
use Rattle.tb_model.specs.Setups.{SetupValue}
use Rattle.tb_release.specs.declared.edits.Edit.{Edit}
use Rattle.tb_serve.specs.Each.{Each}
use Rattle.tb_serve.specs.Places.{number_at}
use Rattle.tb_serve.specs.Ports.{PortValue}
use Rattle.tb_serve.specs.Serves.{HasServed, IsVisited, Output, role_at}
use Rattle.tb_serve.specs.declared.places.Places.{Places}
use Rattle.tb_serve.specs.Stages.{GetsReady, IsLeft, IsUntouched}
use Rattle.tb_serve.proofs.PortEnds.{visited_before}
use Rattle.tb_serve.proofs.Wholes.{each_along, each_then}
use Rattle.tb_session.specs.Parties.{state_at}
use Rattle.tb_session.specs.Transcripts.{IsLegal}

-- some port of a list that has one
first_of : (ports : List PortValue) → 0 < length ports → PortValue
first_of [] some = absurd (omega arith)
first_of (p ∷ ports) some = p

-- the first port of such a list is the same whatever is given beside
same_first : (ports : List PortValue) (d e : PortValue) → 0 < length ports → slice_index_or ports 0 d ≡ slice_index_or ports 0 e
same_first [] d e some = absurd (omega arith)
same_first (p ∷ ports) d e some = refl

-- ---- the sessions of all ports, wherever the custodian stood
module _ {W : Type 0} (Continues : W → W → Type 0) (itself : (one : W) → Continues one one) (further_on : (old mid new : W) → Continues old mid → Continues mid new → Continues old new) (live : W → Bool) (faults : W → ℕ) (standing : W → FileStands) (setup : SetupValue) (most : ℕ) (old new : KeeperValue W) (a e : List PortValue)
    (some : 0 < length a) (same : length e ≡ length a)
    (first : (d : PortValue) → IsVisited (Lead (KeepsTo Continues live faults standing (IsOwnStep setup) asks_to_publish)) at_start most old new (slice_index_or a 0 d) (slice_index_or e 0 d))
    (others : (i : ℕ) (d : PortValue) → 0 < i → i < length a → HasServed setup old.base most old.state.chain new.state.chain i (slice_index_or a i d) (slice_index_or e i d)) where
  other : (from last : KeptState) → from.state ≡ old.state → last.state ≡ new.state → (i : ℕ) (d : PortValue) → 0 < i → i < length a
      → IsHosted setup old.base most from last i (slice_index_or a i d) (slice_index_or e i d)
  other from last begins ends zero d later lt = absurd (omega arith)
  other from last begins ends (suc i) d later lt =
      subst (λ (x : StateValue × StateValue). HasServed setup old.base most x.0.chain x.1.chain (suc i) (slice_index_or a (suc i) d) (slice_index_or e (suc i) d)) (λ j. (sym begins j, sym ends j)) (others (suc i) d later lt)

  pub hosts_from : HostsFrom Continues live faults standing setup most old new a e
  hosts_from =
      let one = first_of a some in
      let (base, into, reaches) = visited Continues itself further_on live faults standing setup most old new (slice_index_or a 0 one) (slice_index_or e 0 one) (first one) in (
        base,
        into,
        λ from at.
            let (last, end, lead) = reaches from at in (
              last,
              end,
              each_along (IsHosted setup old.base most from last) a e same
                  (λ d.
                  subst (λ (x : PortValue × PortValue). IsVisited (Lead (IsOwnKeptStep setup old.base)) at_session most from last x.0 x.1)
                  (λ j. (same_first a one d some j, same_first e one d (omega (arith, some, same)) j)) lead)
                  (other from last at.same end.same),
            ),
      )

-- ---- the whole, from where a custodian stands that published some batches
abbrev base_of : CustodianValue → ReleaseValue
base_of custodian = custodian.writer.start.base

module _ (setup : SetupValue) (base : ReleaseValue) (most : ℕ) (first last : KeptState) (a e : List PortValue) (some : 0 < length a) (hosted : Each (IsHosted setup base most first last) a e) where
  own : IsVisited (Lead (IsOwnKeptStep setup base)) at_session most first last (slice_index_or a 0 (first_of a some)) (slice_index_or e 0 (first_of a some))
  own = hosted.at 0 (first_of a some) some

  pub counted_on : first.faults ≤ last.faults
  counted_on = visits_counted setup base first last own.visits own.lead

module _ {D : Type 0} (content : D → Option (List ℕ)) (may_leave : D → List ℕ → Type 0) (moment : D → ℕ) (left_since : D → ℕ → List ℕ → Type 0) (faults : D → ℕ)
    (old now new : D) (only : (image : List ℕ) → left_since old (moment old) image → may_leave old image) (same : new ≡ now) (setup : SetupValue) (custodian : CustodianValue)
    (live later : Bool) (lives : live ≡ true) (state : StateValue) (places : Places) (most : ℕ) (a e : List PortValue) (some : 0 < length a)
    (reaches : Reaches (IsAt (AreLeft (content old) (may_leave old) (moment old) (left_since old)) live (faults old) (state_at custodian.writer [])) (IsAt (AreLeft (content now) (may_leave now) (moment now) (left_since now)) later (faults now) state)
    (λ first last. Each (IsHosted setup (base_of custodian) most first last) a e)) (out : Output) (ended : Status) (reported : IsHostReported later places e (length state.chain) out ended) where
  pub hosted_from : (batches : List (List Edit)) → custodian.writer.list ≡ batches_of (base_of custodian) batches → EachStandsFor (may_leave old) batches None
      → AreHostedFrom (after_playing (base_of custodian) batches (moment old) (faults old)) setup (base_of custodian) places most a e
      (record { content = content old; content_after = content new; moment = moment old; could_leave = may_leave old; may_leave = may_leave new; left_since = left_since new; faults = faults old; faults_after = faults new }) out ended
  hosted_from batches chain stands =
      let first = after_playing (base_of custodian) batches (moment old) (faults old) in
      let stood : first.state ≡ state_at custodian.writer [] = ap after_seeing (sym chain) in
      let left = left_from_now (content old) (may_leave old) (moment old) (left_since old) only batches None stands in
      let (last, at, sessions) = reaches first (record { same = stood; count = refl; lives = sym lives; stands = left }) in
      let lead = own setup (base_of custodian) most first last a e some sessions in
      let watched = visits_since setup (base_of custodian) first last lead.visits lead.lead in
      let stands_now = subst (λ (d : D). AreLeft (content d) (may_leave d) (moment d) (left_since d) last.since last.batches last.further) (sym same) at.stands in
      record {
        last = last;
        sessions = sessions;
        chain = visits_theirs setup (base_of custodian) first last lead.visits lead.lead refl;
        left = stands_now.now;
        ever = λ file told. subst (λ (s : Since). EachStandsBetween (left_since new) s (all_of last.batches last.further)) watched (stands_now.ever file told).each;
        counted = at.count ∙ ap faults (sym same);
        reported = subst (λ (x : Bool × StateValue). IsHostReported x.0 places e (length x.1.chain) out ended) (λ j. (sym at.lives j, sym at.same j)) reported;
      }

-- ---- from ports as they were made
-- nothing was done with them
pub untouched : (port : ℕ → ℕ) (ports : List PortValue) → Each (IsUntouched port) ports ports
untouched port ports = record { same_length = refl; at = λ i d lt. record { rest = refl; count = omega arith; port = inl refl; out = refl; to_come = refl; came_back = refl } }

-- what was true of a port that got ready is true of it as it was made
ready_hosted : (setup : SetupValue) (base : ReleaseValue) (port : ℕ → ℕ) (most : ℕ) (first last : KeptState) (i : ℕ) (o p t : PortValue) → GetsReady port i o p → IsHosted setup base most first last i p t → IsHosted setup base most first last i o t
ready_hosted setup base port most first last zero o p t ready x = visited_before (Lead (IsOwnKeptStep setup base)) at_session port most 0 first last o p t ready x
ready_hosted setup base port most first last (suc i) o p t ready x = record {
  last = x.last;
  visited = visited_before (IsLegal (role_at (suc i)) setup base) let_go port most (suc i) (after_seeing first.state.chain) x.last o p t ready x.visited;
  ends = x.ends;
}

left_at : (places : Places) (i : ℕ) (o p t : PortValue) → GetsReady (number_at places) i o p → IsLeft p t → IsLeftAt places i t
left_at places i o p t ready left = record { port = left.port ∙ ready.bound.port; party = left.party; lines = left.lines }

-- what is seen of a disk from one moment to another
module _ {D : Type 0} (content : D → Option (List ℕ)) (may_leave : D → List ℕ → Type 0) (moment : D → ℕ) (left_since : D → ℕ → List ℕ → Type 0) (faults : D → ℕ) where
  abbrev pub seen : D → D → JournalSeen
  seen old after = record {
    content = content old;
    content_after = content after;
    moment = moment old;
    could_leave = may_leave old;
    may_leave = may_leave after;
    left_since = left_since after;
    faults = faults old;
    faults_after = faults after;
  }

  module _ (setup : SetupValue) (base : ReleaseValue) (before now new : D) (custodian : CustodianValue) (r : HasRecovered setup base (seen before now) custodian) (places : Places) (most : ℕ) (o a e : List PortValue) (ready : Each (GetsReady (number_at places)) o a) (out : Output) (ended : Status)
      (served : (batches : List (List Edit)) → custodian.writer.list ≡ batches_of (base_of custodian) batches → EachStandsFor (may_leave now) batches None
      → AreHostedFrom (after_playing (base_of custodian) batches (moment now) (faults now)) setup (base_of custodian) places most a e (seen now new) out ended) where
    hosted : AreHostedFrom (after_playing base r.batches (moment now) (faults now)) setup base places most a e (seen now new) out ended
    hosted =
        let chain = r.chain ∙ sym (ap (λ (b : ReleaseValue). batches_of b r.batches) r.start) in
        subst (λ (b : ReleaseValue). AreHostedFrom (after_playing b r.batches (moment now) (faults now)) setup b places most a e (seen now new) out ended) r.start (served r.batches chain r.left)

    pub hosts_all : faults before ≤ faults now → moment before ≤ moment now → KeepsPast moment left_since now new → Each (λ _. IsLeft) a e → HostsAll setup base places most o e (seen before new) out ended
    hosts_all since began past left =
        let first = after_playing base r.batches (moment now) (faults now) in
        record {
          batches = r.batches;
          recovered = r.recovered;
          first_moment = moment now;
          first_faults = faults now;
          since = since;
          until = record {
            is_later = began;
            each = λ file told image stop. ⊎_elim (λ was. inl (r.same.ever file told image was)) (λ later. inr later) (past.nothing_else (moment before) image began stop);
          };
          hosted = record {
            last = hosted.last;
            sessions = each_then (GetsReady (number_at places)) (IsHosted setup base most first hosted.last) (IsHosted setup base most first hosted.last) o a e ready hosted.sessions
                (λ i d lt x y. ready_hosted setup base (number_at places) most first hosted.last i _ _ _ x y);
            chain = hosted.chain;
            left = hosted.left;
            ever = hosted.ever;
            counted = hosted.counted;
            reported = hosted.reported;
          };
          bound = each_then (GetsReady (number_at places)) (λ _. IsLeft) (λ i _. IsLeftAt places i) o a e ready left (λ i d lt x y. left_at places i _ _ _ x y);
        }

    pub hosts_counted : 0 < length a → faults now ≤ faults new
    hosts_counted some =
        let counts = counted_on setup base most (after_playing base r.batches (moment now) (faults now)) hosted.last a e some hosted.sessions in
        omega (arith, counts, hosted.counted)
