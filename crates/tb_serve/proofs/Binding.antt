-- Listeners that are bound, each to its number.
use Rattle.std.proofs.Common.{◌≡◌, ◌∙◌, refl, sym, ℕ, ◌+◌, ◌<◌, List, length, arith, subst, get_or-set_same, Some, inl, inr}
use Rattle.std.specs.Prelude.{All, slice_index_or}
use Rattle.std.proofs.Math.ListN.{set}
use Rattle.std.proofs.lemmas.List.{get_or_default, length-set}
use Rattle.tb_io.specs.Listeners.{HasFailed, IsCalm, IsSameBut}
use Rattle.tb_serve.specs.Each.{Each}
use Rattle.tb_serve.specs.Ports.{PortValue}
use Rattle.tb_serve.specs.Stages.{CanBeBound, IsBoundAt, IsNotBound, IsOneNotBound, IsUntouched}
use Rattle.tb_serve.proofs.Each.{Halfway, half_more, half_weaker}

-- a port that was bound, to a number that is its own
pub bound_at : (number : ℕ → ℕ) (i n : ℕ) (p q : PortValue) → n ≡ number i → q ≡ record p { listener = q.listener } → IsSameBut (record p.listener { port = Some n }) q.listener
    → IsCalm p.listener q.listener → IsBoundAt number i p q
bound_at number i n p q is rest bound calm = record {
  rest = rest;
  bound = subst (λ (m : ℕ). IsSameBut (record p.listener { port = Some m }) q.listener) is bound;
  calm = calm;
}

-- a port that was bound is as it was, as far as sessions go
untouched : (number : ℕ → ℕ) (i : ℕ) (p q : PortValue) → IsBoundAt number i p q → IsUntouched number i p q
untouched number i p q b = record {
  rest = b.rest;
  count = b.bound.count;
  port = inr b.bound.port;
  out = b.bound.out;
  to_come =
      b.bound.to_come;
  came_back = b.bound.came_back;
}

stays : (number : ℕ → ℕ) (i : ℕ) (p : PortValue) → IsUntouched number i p p
stays number i p = record { rest = refl; count = omega arith; port = inl refl; out = refl; to_come = refl; came_back = refl }

-- a bind that failed
pub not_bound : (number : ℕ → ℕ) (i : ℕ) (p q : PortValue) → q ≡ record p { listener = q.listener } → IsSameBut p.listener q.listener → IsUntouched
    number i p q
not_bound number i p q rest b = record {
  rest = rest;
  count = b.count;
  port = inl b.port;
  out = b.out;
  to_come = b.to_come;
  came_back =
      b.came_back;
}

-- all are untouched where one failed after some were bound
pub all_untouched : (k : ℕ → ℕ) (first now : List PortValue) (index : ℕ) (e new : PortValue) → index < length now
    → length now ≡ length first → Halfway (IsBoundAt k) first now index
    → IsUntouched k index (slice_index_or now index e) new → Each (IsUntouched k) first (set now index new)
all_untouched k first now index e new lt same h step =
    let weaker : Halfway (IsUntouched k) first now index = record {
      done = λ i d below. untouched k i (slice_index_or first i d)
          (slice_index_or now i d) (h.done i d below);
      rest = h.rest;
    } in
    half_weaker (IsUntouched k) (IsUntouched k) first (set now index new) (index + 1) (half_more
    (IsUntouched k) first now index e new lt weaker step)
    (length-set now index new ∙ same) (λ i x y u. u) (stays k)

-- and that one is left unbound
pub unbound_there : (k : ℕ → ℕ) (first now : List PortValue) (index : ℕ) (e new : PortValue) → index < length now → length now ≡ length first
    → All CanBeBound first → Halfway (IsBoundAt k) first now index
    → HasFailed (slice_index_or now index e).listener new.listener → IsOneNotBound first (set now index new)
unbound_there k first now index e new lt same can h failed = (
  index,
  omega arith,
  λ d.
      let there : slice_index_or now index e ≡ slice_index_or first index d = get_or_default now index e d lt ∙ h.rest index d
      (omega arith) in
      let here : HasFailed (slice_index_or first index d).listener new.listener = subst (λ (x : PortValue). HasFailed x.listener new.listener)
      there failed in
      let within : index < length first = omega (arith, lt, same) in
      subst (λ (x : PortValue). IsNotBound (slice_index_or first index d) x) (sym (get_or-set_same now index new d lt))
      (record { port = here.0.port ∙ (can index d within).unbound; risen = here.1 }),
)
