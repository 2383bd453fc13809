-- Numbers that rise, and the persons of lists that do.
use Rattle.std.proofs.Common.{◌≡◌, ◌∙◌, ℕ, ◌+◌, ◌<◌, ◌≤◌, List, [], ◌∷◌, ◌++◌, length, length-append, map, take, get_or, refl, sym, ap, inl, inr, arith}
use Rattle.std.specs.Prelude.{flat_map}
use Rattle.std.specs.declared.vec.Vec.{Vec}
use Rattle.std.proofs.Math.Nat.{sub_self}
use Rattle.std.proofs.lemmas.Bool.{cases_lt}
use Rattle.std.proofs.lemmas.List.{flat_map_more, get_or_append_left, get_or-append_right, map-append, take_more}
use Rattle.std.proofs.lemmas.List.Elements.{All-push}
use Rattle.tb_base.specs.declared.records.Record.{Record}
use Rattle.tb_records.specs.Rising.{RiseTo}

-- one more number, above them all
pub RiseTo-push : (ns : List ℕ) (last p : ℕ) → RiseTo last ns → last < p → RiseTo p (ns ++ p ∷ [])
RiseTo-push ns last p up more = record {
  rise = λ k below.
      let long : length (ns ++ p ∷ []) ≡ length ns + 1 = length-append ns (p ∷ []) in
      elim (cases_lt (k + 1) (length ns)) [
        | inl h ↦ rw (get_or_append_left ns (p ∷ []) 0 k (omega arith), get_or_append_left ns (p ∷ []) 0 (k + 1) h) (up.rise k h)
        | inr h ↦
            let end : k + 1 ≡ length ns = omega arith in
            let here : get_or (ns ++ p ∷ []) (k + 1) 0 ≡ p = ap (λ n. get_or (ns ++ p ∷ []) n 0) end ∙ get_or-append_right ns (p ∷ []) (length ns) (length ns) 0 refl (omega arith) ∙ ap (λ n. get_or (p ∷ []) n 0) (sub_self (length ns)) in
            let low = up.most k 0 (omega arith) in
            rw (here, get_or_append_left ns (p ∷ []) 0 k (omega arith)) (omega (arith, low, more))
      ];
  most = All-push (λ n. n ≤ p) ns p (λ k d below. let low = up.most k d below in omega (arith, low, more)) (omega arith);
}

-- the persons of one more list
pub persons-more : {Z : Type 0} (lists : List (Vec Record Z)) (i : ℕ) (list : Vec Record Z) → i < length lists → list ≡ get_or lists i list
    → map (λ r. r.person) (flat_map (λ (list : Vec Record Z). list.items) (take (i + 1) lists)) ≡ map (λ r. r.person) (flat_map (λ (list : Vec Record Z). list.items) (take i lists)) ++ map (λ r. r.person) list.items
persons-more {Z} lists i list below is =
    let items : Vec Record Z → List Record = λ (list : Vec Record Z). list.items in
    let person : Record → ℕ = λ (r : Record). r.person in
    ap (λ (ls : List (Vec Record Z)). map person (flat_map items ls)) (take_more lists i list below ∙ ap (λ (l : Vec Record Z). take i lists ++ l ∷ []) (sym is))
    ∙ ap (map person) (sym (flat_map_more items [] (take i lists) list)) ∙ map-append person (flat_map items (take i lists)) list.items
