-- Ports: what is true of those of a service is true of all.
use Rattle.std.proofs.Common.{◌≡◌, ◌∙◌, ap, ap₂, sym, subst, refl, ℕ, ◌+◌, ◌-◌, ◌<◌, ◌≤◌, List, ◌++◌, length, take, drop, get_or, All, inl, inr, arith}
use Rattle.std.proofs.lemmas.List.{get_or-drop, get_or-take, length-append, length-drop, length-take-le, take-append-drop, take_at}
use Rattle.std.proofs.lemmas.List.Elements.{All-append}
use Rattle.std.proofs.lemmas.Bool.{cases_lt}
use Rattle.tb_serve.specs.Each.{Each}
use Rattle.tb_serve.specs.Ports.{PortValue}
use Rattle.tb_serve.specs.Stages.{HasRisenSome, IsFresh, IsOneNotBound, IsUntouched}
use Rattle.tb_top.specs.Services.{IsIdle, IsUnserved}

pub unserved : (p : PortValue) → IsUnserved p p
unserved p = record { out = refl; to_come = refl; came_back = refl }

-- ports that didn't change
pub all-unserved : (ports ports' : List PortValue) → ports' ≡ ports → Each (λ _. IsUnserved) ports ports'
all-unserved ports ports' same = record {
  same_length = ap length same;
  at = λ i d below. subst (λ (ps : List PortValue). IsUnserved (get_or ports i d) (get_or ps i d)) (sym same) (unserved (get_or ports i d));
}

fresh-idle : (p : PortValue) → IsFresh p → IsIdle p
fresh-idle p fresh = record { party = ap (λ (x : PortValue). x.party) fresh.made; lines = ap (λ (x : PortValue). x.has_lines) fresh.made }

pub all-fresh-idle : (ports : List PortValue) → All IsFresh ports → All IsIdle ports
all-fresh-idle ports fresh = λ i d below. fresh-idle (get_or ports i d) (fresh i d below)

pub same-idle : (ports ports' : List PortValue) → ports' ≡ ports → All IsFresh ports → All IsIdle ports'
same-idle ports ports' same fresh = subst (All IsIdle) (sym same) (all-fresh-idle ports fresh)

-- where neither the first n ports nor the others changed, none did
pub all-same : (n : ℕ) (ports ports' : List PortValue) → take n ports' ≡ take n ports → drop n ports' ≡ drop n ports → ports' ≡ ports
all-same n ports ports' first rest =
    sym (take-append-drop n ports') ∙ ap₂ (λ (xs ys : List PortValue). xs ++ ys) first rest ∙ take-append-drop n ports

-- the first n ports of some, of which the others stay
module _ (n : ℕ) (ports ports' : List PortValue) (long : n ≤ length ports)
    (short : length (take n ports') ≡ length (take n ports)) (rest : drop n ports' ≡ drop n ports) where
  taken : length (take n ports') ≡ n
  taken = short ∙ length-take-le n ports long

  pub whole-length : length ports' ≡ length ports
  whole-length =
      let ours : length (take n ports ++ drop n ports) ≡ length ports = ap length (take-append-drop n ports) in
      let theirs : length (take n ports' ++ drop n ports') ≡ length ports' = ap length (take-append-drop n ports') in
      let left : length (take n ports ++ drop n ports) ≡ length (take n ports) + length (drop n ports) = length-append (take n ports) (drop n ports) in
      let right : length (take n ports' ++ drop n ports') ≡ length (take n ports') + length (drop n ports') = length-append (take n ports') (drop n ports') in
      let others : length (drop n ports') ≡ length (drop n ports) = ap length rest in
      omega (arith, ours, theirs, left, right, others, short)

  -- what is true of each of the first, and of each port and itself, is true of each
  pub each-whole : (R : PortValue → PortValue → Type 0) → ((p : PortValue) → R p p) → Each (λ _. R) (take n ports) (take n ports')
      → Each (λ _. R) ports ports'
  each-whole R same each = record {
    same_length = whole-length;
    at = λ i d below. elim (cases_lt i n) [
      | inl h ↦
          let at = each.at i d (omega (arith, h, length-take-le n ports long)) in
          rw (sym (get_or-take n ports i d h), sym (get_or-take n ports' i d h)) at
      | inr h ↦
          let back : n + (i - n) ≡ i = omega (arith, h) in
          let ours : get_or ports i d ≡ get_or (drop n ports) (i - n) d = sym (get_or-drop n ports (i - n) d ∙ ap (λ k. get_or ports k d) back) in
          let theirs : get_or ports' i d ≡ get_or (drop n ports') (i - n) d = sym (get_or-drop n ports' (i - n) d ∙ ap (λ k. get_or ports' k d) back) in
          let equal : get_or ports' i d ≡ get_or ports i d = theirs ∙ ap (λ (ps : List PortValue). get_or ps (i - n) d) rest ∙ sym ours in
          subst (λ (p : PortValue). R (get_or ports i d) p) (sym equal) (same (get_or ports i d))
    ];
  }

  -- if the first are idle, all are
  pub idle-whole : All IsFresh ports → All IsIdle (take n ports') → All IsIdle ports'
  idle-whole fresh idle =
      let others : All IsIdle (drop n ports) = λ i d below.
      subst IsIdle (sym (get_or-drop n ports i d))
      (all-fresh-idle ports fresh (n + i) d (omega (arith, below, length-drop n ports))) in
      subst (All IsIdle) (take-append-drop n ports') (All-append IsIdle (take n ports') (drop n ports') idle (subst (All IsIdle) (sym rest) others))

  -- a count that rose among the first rose
  pub risen-whole : HasRisenSome (take n ports) (take n ports') → HasRisenSome ports ports'
  risen-whole (i, below, rose) =
      let low : i < n = omega (arith, below, length-take-le n ports long) in
      (i, omega (arith, low, long), λ d. rw (sym (get_or-take n ports i d low), sym (get_or-take n ports' i d low)) (rose d))

-- a port that is left unbound is one whose count rose
pub risen-unbound : (ports ports' : List PortValue) → IsOneNotBound ports ports' → HasRisenSome ports ports'
risen-unbound ports ports' (i, below, left) = (i, below, λ d. (left d).risen)

-- a port where nothing was accepted
untouched-unserved : (number : ℕ → ℕ) (i : ℕ) (p q : PortValue) → IsUntouched number i p q → IsUnserved p q
untouched-unserved number i p q h = record { out = h.out; to_come = h.to_come; came_back = h.came_back }

untouched-idle : (number : ℕ → ℕ) (i : ℕ) (p q : PortValue) → IsUntouched number i p q → IsIdle p → IsIdle q
untouched-idle number i p q h idle = record {
  party = ap (λ (x : PortValue). x.party) h.rest ∙ idle.party;
  lines = ap (λ (x : PortValue). x.has_lines) h.rest ∙ idle.lines;
}

pub each-unserved : (number : ℕ → ℕ) (ports ports' : List PortValue) → Each (IsUntouched number) ports ports' → Each (λ _. IsUnserved) ports ports'
each-unserved number ports ports' each = record {
  same_length = each.same_length;
  at = λ i d below. untouched-unserved number i (get_or ports i d) (get_or ports' i d) (each.at i d below);
}

pub each-idle : (number : ℕ → ℕ) (ports ports' : List PortValue) → Each (IsUntouched number) ports ports' → All IsFresh ports → All IsIdle ports'
each-idle number ports ports' each fresh = λ i d below.
    let inside : i < length ports = omega (arith, below, each.same_length) in
    untouched-idle number i (get_or ports i d) (get_or ports' i d) (each.at i d inside) (fresh-idle (get_or ports i d) (fresh i d inside))

-- the first of fresh ports are fresh
pub take-fresh : (n : ℕ) (ports : List PortValue) → n ≤ length ports → All IsFresh ports → All IsFresh (take n ports)
take-fresh n ports long fresh = λ i d below.
    let low : i < n = omega (arith, below, length-take-le n ports long) in
    rw (get_or-take n ports i d low) (fresh i d (omega (arith, low, long)))

-- ports that are written back where they stood
pub written-back : (n : ℕ) (ports new : List PortValue) → length ports ≡ n → length new ≡ n
    → take n (new ++ drop (length new) ports) ≡ new
written-back n ports new long same = take_at new (drop (length new) ports) n same
