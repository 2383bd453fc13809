-- All ports of a mirror, from their making to their end.
use Rattle.std.proofs.Common.{◌≡◌, ◌∙◌, sym, ap, subst, refl, ℕ, zero, suc, ◌<◌, ◌≤◌, List, [], length, None, arith, inl}
use Rattle.std.specs.Prelude.{Option, slice_index_or}
use Rattle.std.specs.Option.{ForSome}
use Rattle.std.proofs.lemmas.List.Elements.{All-nil}
use Rattle.tb_ahead.specs.Publishing.{after_seeing, let_go}
use Rattle.tb_base.specs.declared.status.Status.{Status}
use Rattle.tb_board.specs.Custodians.{CustodianValue, IsWhole, OpeningValue, first_custodian}
use Rattle.tb_board.specs.Holders.{HolderValue}
use Rattle.tb_follow.specs.Followers.{IsFollower, follower}
use Rattle.tb_follow.specs.Messages.{MessageFits}
use Rattle.tb_follow.specs.declared.message.Message.{Message}
use Rattle.tb_front.specs.Holders.{Name}
use Rattle.tb_leader.specs.Lanes.{IsLaneOf, LaneValue, first_lane, without_message}
use Rattle.tb_lines.specs.Outputs.{Lead}
use Rattle.tb_model.specs.Releases.{ReleaseValue}
use Rattle.tb_model.specs.Schemas.{shape_of}
use Rattle.tb_model.specs.Setups.{SetupValue}
use Rattle.tb_release.specs.Batches.{BatchValue}
use Rattle.tb_release.specs.Laws.{EditFits}
use Rattle.tb_serve.specs.Each.{Each}
use Rattle.tb_serve.specs.Places.{number_at}
use Rattle.tb_serve.specs.Ports.{PortValue}
use Rattle.tb_serve.specs.Serves.{HasServed, IsReported, IsVisited, Output, role_at}
use Rattle.tb_serve.specs.declared.places.Places.{Places}
use Rattle.tb_serve.specs.Stages.{GetsReady, IsLeft, IsUntouched}
use Rattle.tb_serve.proofs.PortEnds.{visited_before}
use Rattle.tb_serve.proofs.Wholes.{each_along, each_then}
use Rattle.tb_session.specs.Parties.{IsOwnerOf, IsPassOf, seen_by}
use Rattle.tb_session.specs.Transcripts.{IsLegal}
use Rattle.tb_session.specs.declared.party.Party.{Party}
use Rattle.tb_session.specs.declared.party.Party.TheVariants as party
use Rattle.tb_mirror.specs.BoardChains.{IsBoardFollower, chain_seen, standing}
use Rattle.tb_mirror.specs.MirrorReplies.{IsMirrorStep}
use Rattle.tb_mirror.specs.Mirroring.{HasMirrored, IsPortMirrored, MirrorsAll, first_mirror}

-- a mirror that was just made is at release 0
pub at_first : (setup : SetupValue) (opening : OpeningValue) (custodian : CustodianValue) (one : Party) (window : List Message) (message : Option Message) → custodian ≡ first_custodian opening
    → one ≡ party.Custodian custodian [] → window ≡ [] → message ≡ None → opening.start.shape ≡ shape_of setup.schema → standing one window message ≡ first_mirror setup opening.start.base
at_first setup opening custodian one window message made is waits none over =
    (λ i. standing (is i) (waits i) (none i)) ∙ ap (λ (c : CustodianValue). standing (party.Custodian c []) [] None) made ∙ ap (λ shape. first_lane shape opening.start.base) over

-- and can be served
module _ (name : Name) (shape : List ℕ) (custodian : CustodianValue) (one : Party) (window : List Message) (message : Option Message) (named : custodian.writer.name ≡ name)
    (over : custodian.writer.start.shape ≡ shape) (whole : IsWhole custodian) (is : one ≡ party.Custodian custodian []) where
  own : IsOwnerOf name shape one
  own = subst (IsOwnerOf name shape) (sym is) (record { front = named; fits = over; whole = whole; edits = All-nil (EditFits shape) })

  pub first_follower : window ≡ [] → IsBoardFollower name shape one window
  first_follower waits = record {
    owner = own;
    waiting = subst (λ (w : List Message). IsFollower (follower (chain_seen (seen_by one)) w)) (sym waits) (record { fits = tt; ahead = tt; distinct = tt });
  }

  pub first_of_shape : message ≡ None → IsLaneOf shape (standing one window message)
  first_of_shape none = record {
    same = ap (λ (p : Party). (seen_by p).start.shape) is ∙ over;
    fits = subst (λ (o : Option Message). ForSome o (MessageFits shape)) (sym none) (λ m e. absurd (cc (e)));
  }

  pub first_writer : IsPassOf name shape (seen_by one)
  first_writer = record { front = ap (λ (p : Party). (seen_by p).name) is ∙ named; fits = ap (λ (p : Party). (seen_by p).start.shape) is ∙ over }

-- what the sessions of all ports were, from a mirror that is at release 0
pub all_mirrored : (setup : SetupValue) (base : ReleaseValue) (most : ℕ) (old last : LaneValue) (writer after : HolderValue) (a e : List PortValue) → old ≡ first_mirror setup base → writer.start.base ≡ base → writer.list ≡ []
    → after.list ≡ last.follower.chain.batches → length e ≡ length a
    → ((d : PortValue) → IsVisited (Lead (IsMirrorStep setup)) without_message most old last (slice_index_or a 0 d) (slice_index_or e 0 d))
    → ((i : ℕ) (d : PortValue) → 0 < i → i < length a → HasServed setup writer.start.base most writer.list after.list i (slice_index_or a i d) (slice_index_or e i d))
    → Each (HasMirrored setup base most last) a e
all_mirrored setup base most old last writer after a e begins on none all same first others =
    each_along (HasMirrored setup base most last) a e same
    (λ d. subst (λ (l : LaneValue). IsVisited (Lead (IsMirrorStep setup)) without_message most l last (slice_index_or a 0 d) (slice_index_or e 0 d)) begins (first d)) other where
      other : (i : ℕ) (d : PortValue) → 0 < i → i < length a → HasMirrored setup base most last i (slice_index_or a i d) (slice_index_or e i d)
      other zero d later lt = absurd (omega arith)
      other (suc i) d later lt =
          subst (λ (x : ReleaseValue × (List BatchValue × List BatchValue)). HasServed setup x.0 most x.1.0 x.1.1 (suc i) (slice_index_or a (suc i) d) (slice_index_or e (suc i) d))
          (λ j. (on j, (none j, all j))) (others (suc i) d later lt)

-- nothing was done with ports
pub untouched : (port : ℕ → ℕ) (ports : List PortValue) → Each (IsUntouched port) ports ports
untouched port ports = record { same_length = refl; at = λ i d lt. record { rest = refl; count = omega arith; port = inl refl; out = refl; to_come = refl; came_back = refl } }

-- what was true of a port that got ready is true of it as it was made
port_mirrored : (setup : SetupValue) (base : ReleaseValue) (places : Places) (most : ℕ) (last : LaneValue) (i : ℕ) (o p t : PortValue) → GetsReady (number_at places) i o p → HasMirrored setup base most last i p t → IsLeft p t
    → IsPortMirrored setup base places most last i o t
port_mirrored setup base places most last zero o p t ready x left = record {
  port = left.port ∙ ready.bound.port;
  sessions = visited_before (Lead (IsMirrorStep setup)) without_message (number_at places) most 0 (first_mirror setup base) last o p t ready x;
  party = left.party;
  lines = left.lines;
}
port_mirrored setup base places most last (suc i) o p t ready x left = record {
  port = left.port ∙ ready.bound.port;
  sessions = record {
    last = x.last;
    visited = visited_before (IsLegal (role_at (suc i)) setup base) let_go (number_at places) most (suc i) (after_seeing []) x.last o p t ready x.visited;
    ends = x.ends;
  };
  party = left.party;
  lines = left.lines;
}

-- all was served from the ports as they were made
pub mirrors_all : (setup : SetupValue) (base given : ReleaseValue) (places : Places) (most : ℕ) (o a e : List PortValue) (out : Output) (ended : Status) → given ≡ base → Each (GetsReady (number_at places)) o a
    → (last : LaneValue) × Each (HasMirrored setup given most last) a e × IsReported places e last.follower.chain.batches out ended → Each (λ _. IsLeft) a e → MirrorsAll setup base places most o e out ended
mirrors_all setup base given places most o a e out ended is ready (last, served, reported) left =
    let both : Each (λ i p t. HasMirrored setup given most last i p t × IsLeft p t) a e = record { same_length = left.same_length; at = λ i d lt. (served.at i d lt, left.at i d lt) } in
    subst (λ (b : ReleaseValue). MirrorsAll setup b places most o e out ended) is (
      last,
      each_then (GetsReady (number_at places)) (λ i p t. HasMirrored setup given most last i p t × IsLeft p t) (IsPortMirrored setup given places most last) o a e ready both
          (λ i d lt x y. port_mirrored setup given places most last i _ _ _ x y.0 y.1),
      reported,
    )
