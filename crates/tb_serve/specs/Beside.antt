-- What calls of closures may do that are lent values, as two that are made at the same time.
use Rattle.std.specs.Prelude.{◌≡◌, List}
use denote.Ref.{MutBor}
use denote.Param.Members.{Shared}

-- of a closure over two values that are lent
module _ {F A B : Type 0}
    (g : Shared F (MutBor A × (MutBor B × Unit {0})) (Unit {0} × (MutBor A × (MutBor B × Unit {0}))))
    (f : F) where
  -- it may be called with these
  abbrev pub AcceptsBoth : A → B → Type 0
  AcceptsBoth a b =
      (x : MutBor A) (y : MutBor B) → x.now ≡ a → y.now ≡ b → g.pre f (x, (y, tt))

  -- a call may leave those
  pub record ChangesBoth (a a' : A) (b b' : B) : Type 0 where
    pub first : MutBor A
    pub second : MutBor B
    pub first_is : first.now ≡ a
    pub second_is : second.now ≡ b
    pub first_after : MutBor A
    pub second_after : MutBor B
    pub call : g.post f (first, (second, tt)) (tt, (first_after, (second_after, tt)))
    pub first_left : first_after.now ≡ a'
    pub second_left : second_after.now ≡ b'

-- of a closure over a list that is lent
module _ {F A : Type 0}
    (g : Shared F (MutBor (List A) × Unit {0}) (Unit {0} × (MutBor (List A) × Unit {0})))
    (f : F) where
  -- it may be called with this
  abbrev pub AcceptsAll : List A → Type 0
  AcceptsAll xs = (x : MutBor (List A)) → x.now ≡ xs → g.pre f (x, tt)

  -- a call may leave that
  pub record ChangesAll (xs ys : List A) : Type 0 where
    pub argument : MutBor (List A)
    pub argument_is : argument.now ≡ xs
    pub after : MutBor (List A)
    pub call : g.post f (argument, tt) (tt, (after, tt))
    pub left : after.now ≡ ys
