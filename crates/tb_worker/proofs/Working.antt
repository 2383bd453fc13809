-- Sessions that are served one after another, and where a worker stops.
use Rattle.std.proofs.Common.{◌≡◌, ◌∙◌, sym, ap, refl, subst, ℕ, ◌≤◌, true, false, List, [], ◌∷◌, ◌++◌, length, append_assoc, append-nil, arith, inl, inr}
use Rattle.std.specs.Prelude.{Option, Some, None, IsSome, option_map}
use Rattle.std.proofs.lemmas.List.{map-append}
use Rattle.tb_io.proofs.FaultLemmas.{HasRisen-earlier}
use Rattle.tb_io.specs.Listeners.{CanAccept, Connection, Gives, IsCalm, IsSameBut, ListenerValue, given_back}
use Rattle.tb_io.specs.Sources.{IsAtEnd}
use Rattle.tb_lines.specs.Outputs.{ReplyValue}
use Rattle.tb_worker.specs.Visits.{AreVisits, IsVisit, Visit}
use Rattle.tb_worker.specs.Work.{AreServed, HasGiven, HasStepped, HasWorked, came_of, went_of}
use Rattle.tb_worker.specs.declared.next.Next.TheVariants as next

-- ---- what a listener gives and gets back
-- what comes in front of what comes
map_twice : {A : Type 0} (xs ys : List A) (o : Option (List A))
    → option_map (λ rest. xs ++ rest) (option_map (λ rest. ys ++ rest) o) ≡ option_map (λ rest. (xs ++ ys) ++ rest) o
map_twice xs ys None = refl
map_twice xs ys (Some zs) = ap Some (sym (append_assoc xs ys zs))

map_behind : {A : Type 0} (xs ys : List A) (o : Option (List A))
    → option_map (λ back. back ++ ys) (option_map (λ back. back ++ xs) o) ≡ option_map (λ back. back ++ (xs ++ ys)) o
map_behind xs ys None = refl
map_behind xs ys (Some zs) = ap Some (append_assoc zs xs ys)

map_nothing : {A : Type 0} (o : Option (List A)) → o ≡ option_map (λ back. back ++ []) o
map_nothing None = refl
map_nothing (Some zs) = ap Some (sym (append-nil zs))

map_none : {A : Type 0} (o : Option (List A)) → o ≡ option_map (λ (rest : List A). rest) o
map_none None = refl
map_none (Some zs) = refl

given_more : (a b c : ListenerValue) (vs ws : List Visit) → HasGiven a b vs → HasGiven b c ws → HasGiven a c (vs ++ ws)
given_more a b c vs ws p q = record {
  count = omega (arith, p.count, q.count);
  free = q.free;
  to_come = p.to_come ∙ ap (λ (o : Option (List Connection)). option_map (λ rest. came_of vs ++ rest) o) q.to_come ∙ map_twice
      (came_of vs) (came_of ws) c.to_come
      ∙ ap (λ (l : List Connection). option_map (λ rest. l ++ rest) c.to_come) (sym (map-append (λ (v : Visit). v.came) vs ws));
  came_back = q.came_back ∙ ap (λ (o : Option (List Connection)). option_map (λ back. back ++ went_of ws) o) p.came_back ∙ map_behind
      (went_of vs) (went_of ws) a.came_back
      ∙ ap (λ (l : List Connection). option_map (λ back. back ++ l) a.came_back) (sym (map-append (λ (v : Visit). v.went) vs ws));
}

given_one : (before mid after : ListenerValue) (v : Visit) → Gives before mid v.came → after ≡ given_back mid v.went
    → HasGiven before after (v ∷ [])
given_one before mid after v gives back =
    let given : HasGiven before (given_back mid v.went) (v ∷ []) = record {
      count = gives.count;
      free = refl;
      to_come = gives.to_come;
      came_back = ap (λ (o : Option (List Connection)). option_map (λ back. back ++ v.went ∷ []) o) gives.came_back;
    } in
    subst (λ (l : ListenerValue). HasGiven before l (v ∷ [])) (sym back) given

given_none : (a b : ListenerValue) → CanAccept a → IsSameBut a b → HasGiven a b []
given_none a b can same = record {
  count = same.count;
  free = same.out ∙ can.free;
  to_come = sym same.to_come ∙ map_none b.to_come;
  came_back = same.came_back ∙ map_nothing a.came_back;
}

-- ---- whose count of faults stayed, where it tells its sessions
some_before : (o : Option (List Connection)) (xs : List Connection) → IsSome o → IsSome (option_map (λ rest. xs ++ rest) o)
some_before None xs some = cc
some_before (Some ys) xs some = refl

pub calm_more : (a b c : ListenerValue) (ws : List Visit) → IsCalm a b → HasGiven b c ws → IsCalm b c → IsCalm a c
calm_more a b c ws one given more = λ some.
    more some ∙ one (subst IsSome (sym given.to_come) (some_before c.to_come (came_of ws) some))

calm_one : (before mid after : ListenerValue) (v : Visit) → Gives before mid v.came → after ≡ given_back mid v.went → IsCalm before after
calm_one before mid after v gives back =
    let calm : IsCalm before (given_back mid v.went) = gives.calm in subst (λ (l : ListenerValue). IsCalm before l) (sym back) calm

pub calm_still : (l : ListenerValue) → IsCalm l l
calm_still l = λ some. refl

-- it may accept again
pub can_again : (a b : ListenerValue) (vs : List Visit) → CanAccept a → b.port ≡ a.port → HasGiven a b vs → CanAccept b
can_again a b vs can port given =
    let bound : CanAccept (record b { port = a.port }) = record { bound = can.bound; free = given.free } in
    subst (λ (o : Option ℕ). CanAccept (record b { port = o })) (sym port) bound

-- ---- where sessions lead
module _ {S : Type 0} (Legal : S → List (List ℕ) → List ReplyValue → S → Type 0) (fresh : S → S) where
  -- visits that lead on from where others led to
  pub visits_more : (from mid to : S) (vs ws : List Visit) → AreVisits Legal fresh from vs mid → AreVisits Legal fresh mid ws to → AreVisits Legal fresh from (vs ++ ws) to
  visits_more from mid to [] ws p q = subst (λ (l : S). AreVisits Legal fresh l ws to) p q
  visits_more from mid to (v ∷ vs) ws p q = (p.0, p.1, visits_more p.0 mid to vs ws p.2 q)

  -- a session that was accepted, served and given back
  pub one_served : (before mid after : ListenerValue) (from to : S) (v : Visit) → Gives before mid v.came → after ≡ given_back mid v.went
      → IsVisit Legal fresh from v to → HasStepped Legal fresh before after from to next.Served
  one_served before mid after from to v gives back visit = (
    v,
    record {
      given = given_one before mid after v gives back;
      port = ap (λ (l : ListenerValue). l.port) back ∙ gives.port;
      lead = (to, visit, refl);
    },
    calm_one before mid after v gives back,
  )

  -- nothing was served, and nothing changed but the count of faults
  pub none_served : (a b : ListenerValue) (p : S) → CanAccept a → IsSameBut a b → AreServed Legal fresh a b p p []
  none_served a b p can same = record { given = given_none a b can same; port = same.port; lead = refl }

  pub none_came : (a b : ListenerValue) (p : S) → CanAccept a → IsAtEnd a.to_come → IsSameBut a b → IsCalm a b → HasStepped Legal fresh a b p p next.NoneCame
  none_came a b p can at_end same calm = (none_served a b p can same, calm, subst (λ (o : Option (List Connection)). IsAtEnd o) (sym same.to_come) at_end)

  -- more sessions served after others
  pub served_more : {a b c : ListenerValue} {p q r : S} {vs ws : List Visit} → AreServed Legal fresh a b p q vs → AreServed Legal fresh b c q r ws → AreServed Legal fresh a c p r (vs ++ ws)
  served_more {a} {b} {c} {p} {q} {r} {vs} {ws} x y = record {
    given = given_more a b c vs ws x.given y.given;
    port = y.port ∙ x.port;
    lead = visits_more p q r vs ws x.lead y.lead;
  }

  none_more : (a b c : ListenerValue) (p q r : S) (vs : List Visit) → AreServed Legal fresh a b p q vs → AreServed Legal fresh b c q r [] → AreServed Legal fresh a c p r vs
  none_more a b c p q r vs x y = subst (λ (l : List Visit). AreServed Legal fresh a c p r l) (append-nil vs) (served_more x y)

  -- a worker stops where it served all that it was to
  pub worked_all : (most : ℕ) (a b : ListenerValue) (p q : S) (vs : List Visit) → AreServed Legal fresh a b p q vs → length vs ≡ most → IsCalm a b → HasWorked Legal fresh most a b p q most false
  worked_all most a b p q vs x n calm = record {
    visits = vs;
    visited = x;
    counted = sym n;
    enough = record { within = omega arith; enough = inl refl; risen = λ h. absurd (cc (h)); calm = λ _. calm };
  }

  -- where none is left to come
  pub worked_out : (most served : ℕ) {a b c : ListenerValue} {p q r : S} {vs : List Visit} → AreServed Legal fresh a b p q vs → length vs ≡ served → IsCalm a b → served ≤ most
      → HasStepped Legal fresh b c q r next.NoneCame → HasWorked Legal fresh most a c p r served false
  worked_out most served {a} {b} {c} {p} {q} {r} {vs} x n calm le step = record {
    visits = vs;
    visited = none_more a b c p q r vs x step.0;
    counted = sym n;
    enough = record { within = le; enough = inr (inl step.2); risen = λ h. absurd (cc (h)); calm = λ _. calm_more a b c [] calm step.0.given step.1 };
  }

  -- and where the accept failed
  pub worked_badly : (most served : ℕ) {a b c : ListenerValue} {p q r : S} {vs : List Visit} → AreServed Legal fresh a b p q vs → length vs ≡ served → served ≤ most
      → HasStepped Legal fresh b c q r next.Failed → HasWorked Legal fresh most a c p r served true
  worked_badly most served {a} {b} {c} {p} {q} {r} {vs} x n le step = record {
    visits = vs;
    visited = none_more a b c p q r vs x step.0;
    counted = sym n;
    enough = record {
      within = le;
      enough = inr (inr refl);
      risen = λ _. HasRisen-earlier a.faults b.faults c.faults x.given.count step.1 step.0.given.count;
      calm = λ h. absurd (cc (h));
    };
  }
