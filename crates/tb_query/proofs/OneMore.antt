-- One more element of a list that is gone through, where each is seen as something else; and the
-- ways to end early.
use Rattle.std.proofs.Common.{◌≡◌, ◌<◌, ◌+◌, ℕ, List, [], ◌∷◌, ◌++◌, length, map, take, drop, get_or, Option, Some, None, Result, Ok, Err, sym, ap, subst, ◌∙◌}
use Rattle.std.specs.Option.{option_map, option_or}
use Rattle.std.specs.Result.{IsErrAnd}
use Rattle.std.proofs.lemmas.List.{drop_more, map_more, map-append}
use Rattle.tb_query.specs.declared.fault.QueryFault.{QueryFault}
use Rattle.tb_query.specs.declared.fault.QueryFault.TheVariants as faults
use Rattle.tb_query.specs.Faults.{IsMade, RefusesBy}

module _ {X Y : Type 0} (view : X → Y) (xs : List X) (i : ℕ) (x : X) (lt : i < length xs) (is : x ≡ get_or xs i x) where
  pub made_more : {Z : Type 0} (g : Y → Z) (made after : List Z) → made ≡ map g (map view (take i xs)) → after ≡ made ++ g (view x) ∷ [] → after ≡ map g (map view (take (i + 1) xs))
  made_more g made after so_far one =
      one ∙ ap (λ zs. zs ++ g (view x) ∷ []) so_far ∙ ap (λ y. map g (map view (take i xs)) ++ g (view y) ∷ []) is
      ∙ sym (map-append g (map view (take i xs)) (view (get_or xs i x) ∷ [])) ∙ ap (map g) (sym (map_more view xs i x lt))

  -- what is left begins with it
  pub left : map view (drop i xs) ≡ view x ∷ map view (drop (i + 1) xs)
  left = ap (map view) (drop_more xs i x lt) ∙ ap (λ y. view y ∷ map view (drop (i + 1) xs)) (sym is)

pub none_or : {A : Type 0} (one rest all : Option A) → option_or one rest ≡ all → one ≡ None → rest ≡ all
none_or None rest all so_far none = so_far
none_or (Some a) rest all so_far none = absurd (cc)

-- no fault is named where there is none, but for want of memory
of_none : (e : QueryFault) (fault : Option QueryFault) → RefusesBy e None → RefusesBy e fault
of_none (faults.NotText i) fault h = absurd (cc)
of_none (faults.Syntax i) fault h = absurd (cc)
of_none (faults.UnknownName i) fault h = absurd (cc)
of_none (faults.UnknownCode i) fault h = absurd (cc)
of_none (faults.RepeatedDimension i) fault h = absurd (cc)
of_none faults.TooManyDimensions fault h = absurd (cc)
of_none faults.TooManyFilters fault h = absurd (cc)
of_none faults.TooLarge fault h = absurd (cc)
of_none faults.Memory fault h = tt

-- the fault of one is that of all where it is the first
pub refuses_first : (e : QueryFault) (named : ℕ → QueryFault) (one rest all : Option ℕ) → option_or one rest ≡ all → RefusesBy e (option_map named one) → RefusesBy e (option_map named all)
refuses_first e named None rest all so_far by = of_none e (option_map named all) by
refuses_first e named (Some a) rest all so_far by = subst (λ x. RefusesBy e (option_map named x)) so_far by

module _ {T : Type 0} (r : Result T QueryFault) (Told : T → Type 0) (named : ℕ → QueryFault) (unknown : Option ℕ) where
  -- a fault that is passed on
  pub passed_on : (of : QueryFault) → IsErrAnd r (λ e. e ≡ of) → RefusesBy of (option_map named unknown) → IsMade r Told named unknown
  passed_on of by refuses = at r by
    where
      at : (r : Result T QueryFault) → IsErrAnd r (λ e. e ≡ of) → IsMade r Told named unknown
      at (Ok x) by = absurd by
      at (Err e) by = record { told = tt; no_fault = tt; refused = subst (λ x. RefusesBy x (option_map named unknown)) (sym by) refuses }

  -- want of memory names no fault
  pub no_memory : IsErrAnd r (λ e. e ≡ faults.Memory) → IsMade r Told named unknown
  no_memory by = passed_on faults.Memory by tt
