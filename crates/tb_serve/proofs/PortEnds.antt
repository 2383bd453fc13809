-- One port, from its making to its end.
use Rattle.std.proofs.Common.{◌≡◌, ◌∙◌, refl, sym, ap, ℕ, zero, suc, ◌+◌, ◌<◌, Bool, true, false, List, [], ◌++◌, arith, subst, Some, None, inl, inr}
use Rattle.std.specs.Prelude.{Option, IfSome, IsSome, option_map, ◌⊎◌}
use mathlib.Core.List.{IsPrefix}
use Rattle.tb_board.specs.Custodians.{CustodianValue}
use Rattle.tb_board.specs.Holders.{HolderValue}
use Rattle.tb_front.specs.Holders.{Name}
use Rattle.tb_io.proofs.FaultLemmas.{HasRisen-earlier}
use Rattle.tb_io.specs.Listeners.{CanBind, Connection, IsCalm, IsSameBut, ListenerValue}
use Rattle.tb_lines.specs.Outputs.{Lead, ReplyValue}
use Rattle.tb_model.specs.Releases.{ReleaseValue}
use Rattle.tb_model.specs.Schemas.{shape_of}
use Rattle.tb_model.specs.Setups.{SetupValue}
use Rattle.tb_release.specs.Batches.{BatchValue}
use Rattle.tb_serve.specs.Places.{number_at}
use Rattle.tb_serve.specs.declared.places.Places.{Places}
use Rattle.tb_serve.specs.Ports.{PortValue}
use Rattle.tb_ahead.specs.Publishing.{after_seeing, let_go}
use Rattle.tb_serve.specs.Serves.{HasServed, IsPortServed, IsVisited, role_at}
use Rattle.tb_serve.specs.Stages.{GetsReady, HasLines, IsBoundAt, IsCleared, IsConfirmed, IsFresh, IsLeft, IsOfFront, IsReady, IsSameButLines, IsSeated, IsUntouched}
use Rattle.tb_serve.specs.Workers.{CanWork, HasWorkedAs, HasWorkedAt}
use Rattle.tb_serve.proofs.Parties.{IsOne, party_visits}
use Rattle.tb_session.specs.Parties.{IsBehind, IsPartyOf, IsPassOf, role_of, seen_by, state_of}
use Rattle.tb_session.specs.PartySessions.{IsPartyStep, with_none_held}
use Rattle.tb_session.specs.Transcripts.{IsLegal}
use Rattle.tb_session.specs.declared.party.Party.{Party}
use Rattle.tb_session.specs.declared.party.Party.TheVariants as party
use Rattle.tb_session.specs.declared.party.Role.TheVariants as role
use Rattle.tb_session.proofs.Analysts.{party_front}
use Rattle.tb_worker.proofs.Working.{calm_more}
use Rattle.tb_worker.specs.Visits.{AreVisits, Visit}
use Rattle.tb_worker.specs.Work.{HasGiven, HasWorked, went_of}

-- ---- a port that got ready
pub can_bind : (o p : PortValue) → IsFresh o → HasLines o p → CanBind p.listener
can_bind o p fresh lines = subst (λ (l : ListenerValue). CanBind l) (sym (ap (λ (x : PortValue). x.listener) lines)) fresh.can

pub gets_ready : (number : ℕ → ℕ) (i : ℕ) (o p q : PortValue) → IsFresh o → HasLines o p → IsBoundAt number i p q → GetsReady number i o q
gets_ready number i o p q fresh lines bound =
    let there : p.listener ≡ o.listener = ap (λ (x : PortValue). x.listener) lines in
    record {
      can = record {
        can = record {
          bound = subst (λ (n : Option ℕ). IsSome n) (sym bound.bound.port) refl;
          free = bound.bound.out ∙
              (can_bind o p fresh lines).free;
        };
        lines = ap (λ (x : PortValue). x.has_lines) bound.rest ∙ ap (λ (x : PortValue). x.has_lines) lines;
        party = ap (λ (x : PortValue). x.party) bound.rest ∙ ap (λ (x : PortValue). x.party) lines ∙ ap (λ (x : PortValue). x.party) fresh.made;
      };
      bound = subst (λ (l : ListenerValue). IsSameBut (record l { port = Some (number i) }) q.listener) there bound.bound;
      calm = subst (λ (l : ListenerValue). IsCalm l q.listener) there bound.calm;
      rest = bound.rest ∙ ap (λ (x : PortValue). record x { listener = q.listener }) lines;
    }

-- ---- a port that got its party
pub first_ready : (writer : HolderValue) (p q : PortValue) → IsReady p → IsSeated writer 0 p q → IsReady q
first_ready writer p q ready seated = subst IsReady (sym seated) ready

pub can_work : (name : Name) (setup : SetupValue) (writer : HolderValue) (i : ℕ) (p q : PortValue) → IsPassOf name (shape_of setup.schema) writer → 0 < i
    → IsReady p → IsSeated writer i p q → CanWork name setup q
can_work name setup writer zero p q own some ready seated = absurd (omega arith)
can_work name setup writer (suc i) p q own some ready seated =
    let made : CanWork name setup (record p { party = Some (party.Analyst writer) }) = record { can = ready.can; party = own; lines = ready.lines } in
    subst (λ (x : PortValue). CanWork name setup x) (sym seated) made

same_listener : (writer : HolderValue) (i : ℕ) (p q : PortValue) → IsSeated writer i p q → q.listener ≡ p.listener
same_listener writer zero p q seated = ap (λ (x : PortValue). x.listener) seated
same_listener writer (suc i) p q seated = ap (λ (x : PortValue). x.listener) seated

-- ---- a port whose worker ended
some_is : {A : Type 0} (x y : A) → Some x ≡ Some y → x ≡ y
some_is x y e = cc (e)

-- the first has no party, and each other one a party of the board
pub none_own : {S : Type 0} (Legal : S → List (List ℕ) → List ReplyValue → S → Type 0) (fresh : S → S) (name : Name) (most : ℕ) (from to : S) (q r : PortValue) → IsReady q
    → HasWorkedAs Legal fresh most from to q r → IfSome r.party (IsOfFront name)
none_own Legal fresh name most from to q r ready w =
    let gone : r.party ≡ None = ap (λ (x : PortValue). x.party) w.rest ∙ ready.party in
    subst (λ (o : Option Party). IfSome o (IsOfFront name)) (sym gone) tt

pub still_own : (name : Name) (setup : SetupValue) (most : ℕ) (q r : PortValue) → HasWorkedAt name setup most q r
    → IfSome r.party (IsOfFront name)
still_own name setup most q r w = subst (λ (o : Option Party). IfSome o (IsOfFront name)) (sym w.now) (party_front name
    (shape_of setup.schema) w.to w.own)

-- its party left, served its sessions, and came back
pub worked_at : (name : Name) (setup : SetupValue) (most : ℕ) (from to : Party) (p q r s : PortValue) → Some from ≡ p.party → q ≡ record p { party = None } → IsPartyOf name (shape_of setup.schema) to
    → HasWorkedAs (Lead (IsPartyStep setup)) with_none_held most from to q r → s ≡ record r { party = Some to } → HasWorkedAt name setup most p s
worked_at name setup most from to p q r s was left own w back = record {
  from = from;
  to = to;
  was = sym was;
  now = ap (λ (x : PortValue). x.party) back;
  own = own;
  worked = subst (λ (x : (ListenerValue × ListenerValue) × (ℕ × Bool)). HasWorked (Lead (IsPartyStep setup)) with_none_held most x.0.0 x.0.1 from to x.1.0 x.1.1)
      (λ j. (
        (ap (λ (x : PortValue). x.listener) left j, sym (ap (λ (x : PortValue). x.listener) back) j),
        (sym (ap (λ (x : PortValue). x.served) back) j, sym (ap (λ (x : PortValue). x.failed) back) j),
      )) w.worked;
}

prefix_behind : (writer : HolderValue) (to : Party) → role_of to ≡ role.Analyst → IsBehind writer to
    → IsPrefix (seen_by to).list writer.list
prefix_behind writer (party.Analyst pass) who behind = behind.begins
prefix_behind writer (party.Custodian custodian held) who behind = absurd (cc (who))

-- what its worker did is true of it from the time when it was ready to its end
module _ (writer last : HolderValue) (i : ℕ) (p q r s t : PortValue) (seated : IsSeated writer i p q) (confirmed : IsConfirmed last r s) (cleared : IsCleared s t) where
  listener_then : t.listener ≡ r.listener
  listener_then = ap (λ (x : PortValue). x.listener) cleared ∙ ap (λ (x : PortValue). x.listener) confirmed.rest

  served_then : t.served ≡ r.served
  served_then = ap (λ (x : PortValue). x.served) cleared ∙ ap (λ (x : PortValue). x.served) confirmed.rest

  failed_then : t.failed ≡ r.failed
  failed_then = ap (λ (x : PortValue). x.failed) cleared ∙ ap (λ (x : PortValue). x.failed) confirmed.rest

  pub visited_here : {S : Type 0} (Legal : S → List (List ℕ) → List ReplyValue → S → Type 0) (fresh : S → S) (most : ℕ) (from to : S)
      → HasWorked Legal fresh most q.listener r.listener from to r.served r.failed → IsVisited Legal fresh most from to p t
  visited_here Legal fresh most from to w =
      let moved : HasWorked Legal fresh most p.listener t.listener from to t.served t.failed =
      subst (λ (x : (ListenerValue × ListenerValue) × (ℕ × Bool)). HasWorked Legal fresh most x.0.0 x.0.1 from to x.1.0 x.1.1)
      (λ j. ((same_listener writer i p q seated j, sym listener_then j), (sym served_then j, sym failed_then j))) w in
      record { visits = moved.visits; given = moved.visited.given; counted = moved.counted; enough = moved.enough; lead = moved.visited.lead }

  -- its listener stays bound, and nothing else is left
  pub left_here : r.listener.port ≡ q.listener.port → IsLeft p t
  left_here port = record {
    port = ap (λ (l : ListenerValue). l.port) listener_then ∙ port ∙ ap (λ (l : ListenerValue). l.port) (same_listener writer i p q seated);
    party = ap (λ (x : PortValue). x.party) cleared;
    lines = ap (λ (x : PortValue). x.has_lines) cleared;
  }

-- an analyst's port was served from what the custodian had written to a beginning of what it has
pub analyst_served : (name : Name) (setup : SetupValue) (most : ℕ) (writer last : HolderValue) (i : ℕ) (p q r s t : PortValue) → 0 < i → IsSeated writer i p q
    → HasWorkedAt name setup most q r → IsConfirmed last r s → IsCleared s t → HasServed setup writer.start.base most writer.list last.list i p t
analyst_served name setup most writer last zero p q r s t some seated w confirmed cleared = absurd (omega arith)
analyst_served name setup most writer last (suc i) p q r s t some seated w confirmed cleared =
    let from_is : w.from ≡ party.Analyst writer = some_is w.from (party.Analyst writer) (sym w.was ∙ ap (λ (x : PortValue). x.party) seated) in
    let visited : IsVisited (Lead (IsPartyStep setup)) with_none_held most (party.Analyst writer) w.to p t =
    subst (λ (x : Party). IsVisited (Lead (IsPartyStep setup)) with_none_held most x w.to p t) from_is
    (visited_here writer last (suc i) p q r s t seated confirmed cleared (Lead (IsPartyStep setup)) with_none_held most w.from w.to w.worked) in
    let (one, lead) = party_visits setup role.Analyst writer.start.base (party.Analyst writer) w.to visited.visits (record { role = refl; first = refl }) visited.lead in
    record {
      last = state_of w.to;
      visited = record { visits = visited.visits; given = visited.given; counted = visited.counted; enough = visited.enough; lead = lead };
      ends = prefix_behind last w.to one.role (subst (λ (o : Option Party). IfSome o (IsBehind last)) w.now confirmed.behind);
    }

-- the custodian's port was served from no batch to what the custodian wrote
pub custodian_served : (setup : SetupValue) (most : ℕ) (custodian : CustodianValue) (from to : Party) (p t : PortValue) → from ≡ party.Custodian custodian [] → custodian.writer.list ≡ []
    → IsVisited (Lead (IsPartyStep setup)) with_none_held most from to p t → HasServed setup custodian.writer.start.base most [] (seen_by to).list 0 p t
custodian_served setup most custodian from to p t is empty visited =
    let own : Party = party.Custodian custodian [] in
    let lead_own : AreVisits (Lead (IsPartyStep setup)) with_none_held own visited.visits to =
    subst (λ (x : Party). AreVisits (Lead (IsPartyStep setup)) with_none_held x visited.visits to) is visited.lead in
    let (one, lead) = party_visits setup role.Custodian custodian.writer.start.base own to visited.visits (record { role = refl; first = refl }) lead_own in
    record {
      last = state_of to;
      visited = record {
        visits = visited.visits;
        given = visited.given;
        counted = visited.counted;
        enough = visited.enough;
        lead = subst (λ (chain : List BatchValue). AreVisits (IsLegal role.Custodian setup custodian.writer.start.base) let_go (after_seeing chain) visited.visits (state_of to)) empty lead;
      };
      ends = refl;
    }

-- ---- a port from its making to its end
-- sessions of a listener that was just bound are sessions of it as it was
given_before : (l m n : ListenerValue) (port : ℕ) (vs : List Visit) → IsSameBut
    (record l { port = Some port }) m → HasGiven m n vs → HasGiven l n vs
given_before l m n port vs same given = record {
  count = omega (arith, same.count, given.count);
  free = given.free;
  to_come = sym same.to_come ∙ given.to_come;
  came_back = given.came_back ∙ ap (λ (o : Option (List Connection)). option_map (λ back. back ++ went_of vs) o) same.came_back;
}

pub visited_before : {S : Type 0} (Legal : S → List (List ℕ) → List ReplyValue → S → Type 0) (fresh : S → S) (number : ℕ → ℕ) (most i : ℕ) (from to : S) (o p t : PortValue)
    → GetsReady number i o p → IsVisited Legal fresh most from to p t → IsVisited Legal fresh most from to o t
visited_before Legal fresh number most i from to o p t ready x = record {
  visits = x.visits;
  given = given_before o.listener p.listener t.listener (number i) x.visits ready.bound x.given;
  counted = x.counted;
  enough = record {
    within = x.enough.within;
    enough = x.enough.enough;
    risen = λ yes. HasRisen-earlier o.listener.faults p.listener.faults t.listener.faults ready.bound.count (x.enough.risen yes) x.given.count;
    calm = λ quiet. calm_more o.listener p.listener t.listener x.visits ready.calm x.given (x.enough.calm quiet);
  };
  lead = x.lead;
}

pub port_served : (setup : SetupValue) (base : ReleaseValue) (places : Places) (most : ℕ) (chain : List BatchValue) (i : ℕ) (o p t : PortValue)
    → GetsReady (number_at places) i o p → HasServed setup base most [] chain i p t → IsLeft p t
    → IsPortServed setup base places most chain i o t
port_served setup base places most chain i o p t ready x left = record {
  port = left.port ∙ ready.bound.port;
  sessions = record {
    last = x.last;
    visited = visited_before (IsLegal (role_at i) setup base) let_go (number_at places) most i (after_seeing []) x.last o p t ready x.visited;
    ends = x.ends;
  };
  party = left.party;
  lines = left.lines;
}

-- ---- a port of a call that served none
again : (o : PortValue) (l : ListenerValue) → IsFresh o
    → record o { listener = l; party = None; has_lines = false } ≡ record o { listener = l }
again o l fresh =
    ap (λ (x : PortValue). record x { listener = l; party = None; has_lines = false }) fresh.made ∙ ap (λ
    (x : PortValue). record x { listener = l }) (sym fresh.made)

-- the listener of a port that was cleared is untouched where it was so before
cleared_untouched : (number : ℕ → ℕ) (i : ℕ) (o p q : PortValue) → IsFresh o → p ≡ record o { listener = p.listener; has_lines = p.has_lines } →
    IsCleared p q
    → IsUntouched number i o (record o { listener = p.listener }) → IsUntouched number i o q
cleared_untouched number i o p q fresh moved cleared same =
    let is : q ≡ record o { listener = p.listener } = cleared ∙ ap (λ
    (x : PortValue). record x { party = None; has_lines = false }) moved ∙ again o p.listener fresh in
    subst (λ (x : PortValue). IsUntouched number i o x) (sym is) same

pub unserved_lines : (number : ℕ → ℕ) (i : ℕ) (o p q : PortValue) → IsFresh o → IsSameButLines o p → IsCleared p q → IsUntouched number i o q
unserved_lines number i o p q fresh lines cleared =
    let there : p.listener ≡ o.listener = ap (λ (x : PortValue). x.listener) lines in
    let same : IsUntouched number i o (record o { listener = o.listener }) = record {
      rest = refl;
      count = omega arith;
      port = inl refl;
      out = refl;
      to_come = refl;
      came_back = refl;
    } in
    cleared_untouched number i o p q fresh (lines ∙ ap (λ (l : ListenerValue). record o { listener = l; has_lines = p.has_lines })
    (sym there)) cleared
    (subst (λ (l : ListenerValue). IsUntouched number i o (record o { listener = l })) (sym there) same)

pub unserved_bound : (number : ℕ → ℕ) (i : ℕ) (o p q r : PortValue) → IsFresh o → HasLines o p → IsUntouched number i p q → IsCleared q r
    → IsUntouched number i o r
unserved_bound number i o p q r fresh lines same cleared =
    let there : p.listener ≡ o.listener = ap (λ (x : PortValue). x.listener) lines in
    let has : q.has_lines ≡ true = ap (λ (x : PortValue). x.has_lines) same.rest ∙ ap (λ (x : PortValue). x.has_lines) lines in
    cleared_untouched number i o q r fresh (same.rest ∙ ap (λ (x : PortValue). record x { listener = q.listener }) lines ∙ ap
    (λ b. record o { listener = q.listener; has_lines = b }) (sym has)) cleared
    (record {
      rest = refl;
      count = omega (arith, same.count, ap (λ (l : ListenerValue). l.faults) there);
      port = subst (λ (l : ListenerValue). (q.listener.port ≡ l.port) ⊎ (q.listener.port ≡ Some (number i))) there same.port;
      out = same.out ∙ ap (λ (l : ListenerValue). l.is_out) there;
      to_come = same.to_come ∙ ap (λ (l : ListenerValue). l.to_come) there;
      came_back = same.came_back ∙ ap (λ (l : ListenerValue). l.came_back) there;
    })

pub unserved_ready : (number : ℕ → ℕ) (i : ℕ) (o p q : PortValue) → IsFresh o → GetsReady number i o p → IsCleared p q → IsUntouched number i o q
unserved_ready number i o p q fresh ready cleared =
    cleared_untouched number i o p q fresh (ready.rest ∙ ap (λ b. record o { listener = p.listener; has_lines = b })
    (sym ready.can.lines)) cleared
    (record {
      rest = refl;
      count = ready.bound.count;
      port = inr ready.bound.port;
      out = ready.bound.out;
      to_come = ready.bound.to_come;
      came_back = ready.bound.came_back;
    })
