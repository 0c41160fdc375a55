-- What `for_each` makes of lists that are made of parts, and the choice among the plans that it makes.
use mathlib.Core.Path.{◌≡◌, refl}
use mathlib.Core.Logic.{inl, inr}
use mathlib.Core.Bool.{Bool, true, false, cond}
use mathlib.Core.List.{List, [], ◌∷◌, ◌++◌, append_assoc, append-nil}
use Rattle.model.specs.Lists.{In, for_each}
use Rattle.model.specs.Job.{Job}
use Rattle.model.specs.Plan.{Plan}
use Rattle.model.specs.Rebuild.{choose}
use Rattle.model.proofs.Choice.{choose-append}

module _ {A B : Type 0} where
  each_append : (xs ys : List A) (f : A → List B) → for_each (xs ++ ys) f ≡ for_each xs f ++ for_each ys f
  each_append [] ys f = refl
  each_append (x ∷ xs) ys f = rw (each_append xs ys f, append_assoc)

  -- only what is made of the list's own elements counts
  pub each_same : (xs : List A) (f g : A → List B) → ((x : A) → In x xs → f x ≡ g x) → for_each xs f ≡ for_each xs g
  each_same [] f g h = refl
  each_same (x ∷ xs) f g h = rw (h x (inl refl), each_same xs f g (λ y i. h y (inr i)))

  -- one element, or none
  pub each-if : (t : Bool) (x : A) (f : A → List B) → for_each (cond t (x ∷ []) []) f ≡ cond t (f x) []
  each-if true x f = append-nil (f x)
  each-if false x f = refl

pub each-each : {A B C : Type 0} (xs : List A) (g : A → List B) (f : B → List C) → for_each (for_each xs g) f ≡ for_each xs (λ x. for_each (g x) f)
each-each [] g f = refl
each-each (x ∷ xs) g f = rw (each_append (g x) (for_each xs g) f, each-each xs g f)

-- the choice goes on with what is left
pub choose-each : {A : Type 0} (J : Job) (best : Plan) (x : A) (xs : List A) (f : A → List Plan)
    → choose J best (for_each (x ∷ xs) f) ≡ choose J (choose J best (f x)) (for_each xs f)
choose-each J best x xs f = choose-append J best (f x) (for_each xs f)
