-- The custodian in the place of its lane's party.
use Rattle.std.proofs.Common.{◌≡◌, ◌∙◌, sym, ap, subst, ℕ, ◌<◌, List, length, get_or, get_or-set_other, get_or-set_same, Option, Some, None, arith}
use Rattle.std.specs.Prelude.{IfSome}
use Rattle.std.proofs.Math.ListN.{set}
use Rattle.std.proofs.lemmas.List.{get_or_default, length-set}
use Rattle.tb_lanes.specs.declared.lane.Lane.{Lane}
use Rattle.tb_lanes.specs.Runs.{IsOwner, IsSwapped, with_party}
use Rattle.tb_script.specs.Scripts.{ScriptValue, lanes_of}
use Rattle.tb_session.specs.declared.party.Party.{Party}

-- one lane has the custodian, and the custodian's place that lane's party
swapped_at : {G : Type 0} (own : Party) (lanes : List (Lane G)) (n : ℕ) (e : Lane G) → n < length lanes
    → IsSwapped (Some n) own (get_or lanes n e).party lanes (set lanes n (with_party own (get_or lanes n e)))
swapped_at {G} own lanes n e lt =
    let new : Lane G = with_party own (get_or lanes n e) in (
      length-set lanes n new,
      λ d. ap (λ (l : Lane G). l.party) (get_or_default lanes n e d lt),
      λ d. get_or-set_same lanes n new d lt ∙ ap (λ (l : Lane G). with_party own l) (get_or_default lanes n e d lt),
      λ i d below other. get_or-set_other lanes n i new d other,
    )

-- the same of an exchange that left these two parties
pub swapped_by : {G : Type 0} (own : Party) (owner : Option ℕ) (lanes : List (Lane G)) (n : ℕ) (e : Lane G) (x y : Party)
    → owner ≡ Some n → n < length lanes → x ≡ (get_or lanes n e).party → y ≡ own
    → IsSwapped owner own x lanes (set lanes n (with_party y (get_or lanes n e)))
swapped_by {G} own owner lanes n e x y is lt left put =
    let left_so = λ (p : Party). IsSwapped (Some n) own p lanes (set lanes n (with_party y (get_or lanes n e))) in
    let put_so = λ (p : Party). IsSwapped (Some n) own (get_or lanes n e).party lanes (set lanes n (with_party p (get_or lanes n e))) in
    let so = λ (o : Option ℕ). IsSwapped o own x lanes (set lanes n (with_party y (get_or lanes n e))) in
    subst so (sym is) (subst left_so (sym left) (subst put_so (sym put) (swapped_at own lanes n e lt)))

-- the custodian's lane is one of them
pub owner_within : (script : ScriptValue) (owner : Option ℕ) (len : ℕ) → len ≡ length (lanes_of script.lines) → IsOwner script owner
    → IfSome owner (λ n. n < len)
owner_within script None len all is = tt
owner_within script (Some k) len all is = omega (arith, all, is.0)
