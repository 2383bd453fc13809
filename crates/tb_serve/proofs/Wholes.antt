-- All ports, from their making to their ends.
use Rattle.std.proofs.Common.{◌≡◌, ◌∙◌, sym, ap, ℕ, zero, suc, ◌<◌, List, [], length, arith, subst}
use Rattle.std.specs.Prelude.{All, slice_index_or}
use Rattle.tb_board.specs.Custodians.{CustodianValue}
use Rattle.tb_board.specs.Holders.{HolderValue}
use Rattle.tb_front.specs.Holders.{Name}
use Rattle.tb_io.specs.Faults.{HasRisen}
use Rattle.tb_lines.specs.Outputs.{Lead, ReplyValue}
use Rattle.tb_model.specs.Releases.{ReleaseValue}
use Rattle.tb_model.specs.Setups.{SetupValue}
use Rattle.tb_release.specs.Batches.{BatchValue}
use Rattle.tb_serve.specs.Each.{Each}
use Rattle.tb_serve.specs.Ports.{PortValue}
use Rattle.tb_serve.specs.Serves.{HasServed, IsVisited}
use Rattle.tb_serve.specs.Stages.{HasLines, HasOwnParty, IsCleared, IsConfirmed, IsLeft, IsNotBound, IsOneNotBound, IsSeated}
use Rattle.tb_serve.specs.Workers.{HasWorkedAs, HasWorkedAt}
use Rattle.tb_serve.proofs.PortEnds.{analyst_served, custodian_served, left_here, visited_here}
use Rattle.tb_session.specs.Parties.{seen_by}
use Rattle.tb_session.specs.PartySessions.{IsPartyStep, with_none_held}
use Rattle.tb_session.specs.declared.party.Party.{Party}
use Rattle.tb_session.specs.declared.party.Party.TheVariants as party

-- two relations one after the other
pub each_then : {A : Type 0} (R S T : ℕ → A → A → Type 0) (a b c : List A) → Each R a b → Each S b c
    → ((i : ℕ) (d : A) → i < length a → R i (slice_index_or a i d) (slice_index_or b i d)
    → S i (slice_index_or b i d) (slice_index_or c i d) → T i (slice_index_or a i d) (slice_index_or c i d))
    → Each T a c
each_then R S T a b c r s both = record {
  same_length = s.same_length ∙ r.same_length;
  at = λ i d lt. both i d lt (r.at i d lt) (s.at i d (let e = r.same_length in omega arith));
}

-- a port that was left unbound before it was cleared
unbound_here : (p q r t : PortValue) → HasLines p q → IsNotBound q r → IsCleared r t → IsNotBound p t
unbound_here p q r t lines left cleared = record {
  port = ap (λ (x : PortValue). x.listener.port) cleared ∙ left.port;
  risen = subst (λ (x : ℕ × ℕ). HasRisen x.0 x.1)
      (λ j. (ap (λ (x : PortValue). x.listener.faults) lines j, sym (ap (λ (x : PortValue). x.listener.faults) cleared) j)) left.risen;
}

-- and before all were
pub unbound_cleared : (a b c : List PortValue) → Each (λ _. HasLines) a b → (bs : List PortValue) → IsOneNotBound b bs
    → Each (λ _. IsCleared) bs c → length b ≡ length bs → IsOneNotBound a c
unbound_cleared a b c lines bs one cleared same =
    let within : one.0 < length a = (let e = lines.same_length in let r = one.1 in omega arith) in
    let still : one.0 < length bs = (let r = one.1 in omega arith) in (
      one.0,
      within,
      λ d.
          unbound_here (slice_index_or a one.0 d) (slice_index_or b one.0 d) (slice_index_or bs one.0 d) (slice_index_or c one.0 d)
          (lines.at one.0 d within) (one.2 d) (cleared.at one.0 d still),
    )

-- ---- from parties to ends
-- what is true of the first port and of each other one is true of each
pub each_along : (R : ℕ → PortValue → PortValue → Type 0) (a e : List PortValue) → length e ≡ length a → ((d : PortValue) → R 0 (slice_index_or a 0 d) (slice_index_or e 0 d))
    → ((i : ℕ) (d : PortValue) → 0 < i → i < length a → R i (slice_index_or a i d) (slice_index_or e i d)) → Each R a e
each_along R a e same first others = record { same_length = same; at = λ i d lt. at_place i d lt } where
  at_place : (i : ℕ) (d : PortValue) → i < length a → R i (slice_index_or a i d) (slice_index_or e i d)
  at_place zero d lt = first d
  at_place (suc i) d lt = others (suc i) d (omega arith) lt

-- every party is of the board
pub all_own : (name : Name) (c : List PortValue) → ((d : PortValue) → HasOwnParty name (slice_index_or c 0 d))
    → ((i : ℕ) (d : PortValue) → 0 < i → i < length c → HasOwnParty name (slice_index_or c i d)) → All (HasOwnParty name) c
all_own name c first others zero d lt = first d
all_own name c first others (suc i) d lt = others (suc i) d (omega arith) lt

module _ {S : Type 0} (Legal : S → List (List ℕ) → List ReplyValue → S → Type 0) (fresh : S → S) (from to : S) (name : Name) (setup : SetupValue) (most : ℕ) (writer last : HolderValue)
    (a b c d e : List PortValue) (some : 0 < length a) (seated : Each (IsSeated writer) a b) (long : length c ≡ length b)
    (first : (x : PortValue) → HasWorkedAs Legal fresh most from to (slice_index_or b 0 x) (slice_index_or c 0 x))
    (others : (i : ℕ) (x : PortValue) → 0 < i → i < length b → HasWorkedAt name setup most (slice_index_or b i x) (slice_index_or c i x))
    (confirmed : Each (λ _. IsConfirmed last) c d) (cleared : Each (λ _. IsCleared) d e)
  where
    in_b : (i : ℕ) → i < length a → i < length b
    in_b i lt = let l = seated.same_length in omega arith

    in_c : (i : ℕ) → i < length a → i < length c
    in_c i lt = let m = in_b i lt in omega (arith, long)

    in_d : (i : ℕ) → i < length a → i < length d
    in_d i lt = let l = confirmed.same_length in let m = in_c i lt in omega arith

    pub first_visited : (x : PortValue) → IsVisited Legal fresh most from to (slice_index_or a 0 x) (slice_index_or e 0 x)
    first_visited x =
        visited_here writer last 0 (slice_index_or a 0 x) (slice_index_or b 0 x) (slice_index_or c 0 x) (slice_index_or d 0 x) (slice_index_or e 0 x)
        (seated.at 0 x some) (confirmed.at 0 x (in_c 0 some)) (cleared.at 0 x (in_d 0 some)) Legal fresh most from to (first x).worked

    pub others_served : (i : ℕ) (x : PortValue) → 0 < i → i < length a → HasServed setup writer.start.base most writer.list last.list i (slice_index_or a i x) (slice_index_or e i x)
    others_served i x later lt =
        analyst_served name setup most writer last i (slice_index_or a i x) (slice_index_or b i x) (slice_index_or c i x) (slice_index_or d i x) (slice_index_or e i x) later
        (seated.at i x lt) (others i x later (in_b i lt)) (confirmed.at i x (in_c i lt)) (cleared.at i x (in_d i lt))

    stays_bound : (i : ℕ) (x : PortValue) → i < length a → (slice_index_or c i x).listener.port ≡ (slice_index_or b i x).listener.port
    stays_bound zero x lt = (first x).worked.visited.port
    stays_bound (suc i) x lt = (others (suc i) x (omega arith) (in_b (suc i) lt)).worked.visited.port

    pub all_left : Each (λ _. IsLeft) a e
    all_left = record {
      same_length = cleared.same_length ∙ confirmed.same_length ∙ long ∙ seated.same_length;
      at = λ i x lt.
          left_here writer last i (slice_index_or a i x) (slice_index_or b i x) (slice_index_or c i x) (slice_index_or d i x) (slice_index_or e i x)
          (seated.at i x lt) (confirmed.at i x (in_c i lt)) (cleared.at i x (in_d i lt)) (stays_bound i x lt);
    }

-- where the custodian is the owner and had published nothing, all ports were served from no batch on
pub all_served : (setup : SetupValue) (base : ReleaseValue) (most : ℕ) (custodian : CustodianValue) (from to : Party) (a e : List PortValue) → from ≡ party.Custodian custodian []
    → custodian.writer.start.base ≡ base → custodian.writer.list ≡ [] → length e ≡ length a
    → ((d : PortValue) → IsVisited (Lead (IsPartyStep setup)) with_none_held most from to (slice_index_or a 0 d) (slice_index_or e 0 d))
    → ((i : ℕ) (d : PortValue) → 0 < i → i < length a → HasServed setup (seen_by from).start.base most (seen_by from).list (seen_by to).list i (slice_index_or a i d) (slice_index_or e i d))
    → Each (HasServed setup base most [] (seen_by to).list) a e
all_served setup base most custodian from to a e is first empty same visited served =
    let writer : seen_by from ≡ custodian.writer = ap seen_by is in
    each_along (HasServed setup base most [] (seen_by to).list) a e same
    (λ d.
    subst (λ (b : ReleaseValue). HasServed setup b most [] (seen_by to).list 0 (slice_index_or a 0 d) (slice_index_or e 0 d)) first
    (custodian_served setup most custodian from to (slice_index_or a 0 d) (slice_index_or e 0 d) is empty (visited d)))
    (λ i d later lt.
    subst (λ (x : ReleaseValue × List BatchValue). HasServed setup x.0 most x.1 (seen_by to).list i (slice_index_or a i d) (slice_index_or e i d))
    (λ j. ((ap (λ (h : HolderValue). h.start.base) writer ∙ first) j, (ap (λ (h : HolderValue). h.list) writer ∙ empty) j)) (served i d later lt))
