-- The lines before the job file, one after another: those that were read, and those that any sheet there has.
use mathlib.Core.Path.{◌≡◌, refl, sym, ◌∙◌, ap, subst}
use Prim.Native.Nat.{ℕ, ◌+◌, ◌≤◌, ◌<◌}
use native.Mathlib.Nat.{le_trans}
use native.Mathlib.Omega.{arith}
use mathlib.Core.Bool.{Bool, true, false, cond}
use mathlib.Core.List.{List, [], ◌∷◌, ◌++◌}
use lib.ListN.{length, get_or, take, length-append}
use Rattle.model.specs.File.{line, Stands}
use Rattle.model.proofs.Sufficient.{largest-at}
use Rattle.model.proofs.Pieces.{none-over-nil, stands-within, part_at, join-at, part, join, Fitting, fitting, fitting-nil, fitting-cons, line-length, same_line}
use Rattle.file_lines.specs.Standing.{over}
use Rattle.file_lines.proofs.Fills.{over-front}
use Rattle.std.proofs.Common.{Option, Some, None, lit≤}
use Rattle.sheet_head.specs.declared.Listed.{Listed}
use Rattle.sheet_head.specs.declared.Call.{Call}
use Rattle.sheet_head.specs.declared.Call.TheVariants.{Weigh, StartPlan, TwoOpt, Rebuild, Exhaustive, Pruned, Solve, Arrive, Cancel, View, MoveStop, Roadworks}
use Rattle.sheet_head.specs.Numbered.{number_of_call}
use Rattle.sheet_head.specs.Form.{last_call, most_numbers, has_given, least_given, most_given, has_plan, line_if, head_of, ListFor, longest_plan}
use Rattle.sheet_head.specs.Reading.{Listing, ListAt, ListIf, Fits, Laid, CallAt, HeadOf, HeadFound, HeadAt}
use Rattle.sheet_head.proofs.Lists.{same-list}

-- ---- a line that a call has, or has not

-- numbers that are laid over the front of a list are its first
front-laid : (ns old new : List ℕ) (count : ℕ) → count ≡ length ns → new ≡ over ns old → take count new ≡ ns
front-laid ns old new count c w = (λ i. take (c i) (w i)) ∙ over-front ns old

module _ (bytes : List ℕ) (at least most : ℕ) where
  listing : (known ns : List ℕ) → ListFor true least most known ns → Stands bytes at (line 14 ns) → Listing bytes at least most ns
  listing known ns f s = record { some = f.0; few = f.1; small = f.2; stand = s }

  -- it is read
  pub record Taken (b : Bool) (l : Listed) : Type 0 where
    pub numbers : List ℕ
    pub form : ListFor b least most [] numbers
    pub stand : Stands bytes at (line_if b numbers)
    pub counted : l.count ≡ length numbers
    pub end : l.end ≡ at + length (line_if b numbers)

  pub taken : (b : Bool) (a : Option Listed) → ListIf b bytes at least most a → (l : Listed) → a ≡ Some l → Taken b l
  taken true a h l e =
      let k : ListAt bytes at least most (Some l) = rw e at h in
      let g = k.1 in
      record {
        numbers = k.0;
        form = (g.some, g.few, g.small);
        stand = g.stand;
        counted = k.2;
        end = k.3 ∙ ap (λ x. at + x) (sym (line-length k.0 (fitting g.small)));
      }
  taken false a h l e =
      let z : Some (record { count = 0; end = at }) ≡ Some l = sym h ∙ e in
      let c : record { count = 0; end = at } ≡ l = cc in
      record {
        numbers = [];
        form = refl;
        stand = refl;
        counted = ap (λ x. x.count) (sym c);
        end = ap (λ x. x.end) (sym c) ∙ omega arith;
      }

  -- its numbers fit into a list, and are written to its front
  taken-fits : (b : Bool) (ns list : List ℕ) (count : ℕ) → ListFor b least most [] ns → Stands bytes at (line_if b ns) → count ≡ length ns → most ≤ length list
      → Fits bytes at count list
  taken-fits true ns list count f s c l =
      record { there = λ _. record { numbers = ns; count = sym c; small = f.2; stand = s }; room = omega (arith, f.1) }
  taken-fits false ns list count f s c l =
      let z : count ≡ 0 = c ∙ ap length f in
      record { there = λ k. absurd (omega arith); room = omega arith }

  taken-laid : (b : Bool) (ns old new : List ℕ) (count : ℕ) → ListFor b least most [] ns → Stands bytes at (line_if b ns) → count ≡ length ns
      → Laid bytes at count old new → new ≡ over ns old
  taken-laid true ns old new count f s c w = w ns (sym c) f.2 (λ _. s)
  taken-laid false ns old new count f s c w =
      let z : count ≡ 0 = c ∙ ap length f in
      w ns (sym c) (rw f none-over-nil) (λ k. absurd (omega arith))

  -- or none such stands there
  pub missing : (b : Bool) (a : Option Listed) → ListIf b bytes at least most a → a ≡ None
      → (known ns : List ℕ) → ListFor b least most known ns → Stands bytes at (line_if b ns) → ⊥
  missing true a h e known ns f s =
      let k : ListAt bytes at least most None = rw e at h in
      k ns (listing known ns f s)
  missing false a h e known ns f s =
      let z : Some (record { count = 0; end = at }) ≡ None = sym h ∙ e in
      let w : ◌≡◌ {A = ℕ} 0 1 = cc in
      omega arith

  -- two such lists are the same, where both are known alike; their lines are the same anyhow
  pub same_numbers : (b : Bool) (known ns ms : List ℕ) → ListFor b least most known ns → ListFor b least most known ms
      → Stands bytes at (line_if b ns) → Stands bytes at (line_if b ms) → ns ≡ ms
  same_numbers true known ns ms f g s t = same-list bytes at ns ms (listing known ns f s) (listing known ms g t)
  same_numbers false known ns ms f g s t = f ∙ sym g

  pub same_lines : (b : Bool) (known known_too ns ms : List ℕ) → ListFor b least most known ns → ListFor b least most known_too ms
      → Stands bytes at (line_if b ns) → Stands bytes at (line_if b ms) → line_if b ns ≡ line_if b ms
  same_lines true known known_too ns ms f g s t = ap (line 14) (same-list bytes at ns ms (listing known ns f s) (listing known_too ms g t))
  same_lines false known known_too ns ms f g s t = refl

-- at most eight numbers are given
pub few-given : (call : ℕ) → most_given call ≤ 8
few-given call = largest-at most_numbers call

-- ---- all of them

one-fitting : (n : ℕ) → n ≤ last_call → Fitting (n ∷ [])
one-fitting n l = fitting-cons (omega arith) fitting-nil

call_length : (n : ℕ) → n ≤ last_call → length (line 14 (n ∷ [])) ≡ 15
call_length n l = line-length (n ∷ []) (one-fitting n l)

-- the position of the plan's line
abbrev plan_at : ℕ → ℕ → List ℕ → ℕ
plan_at at call given = at + 15 + length (line_if (has_given call) given)

module _ (bytes : List ℕ) (at : ℕ) where
  pub record Parts (call : ℕ) (given plan : List ℕ) : Type 0 where
    pub number : Stands bytes at (line 14 (call ∷ []))
    pub stops : Stands bytes (at + 15) (line_if (has_given call) given)
    pub numbers : Stands bytes (plan_at at call given) (line_if (has_plan call) plan)

  module _ (call : ℕ) (given plan : List ℕ) (l : call ≤ last_call) where
    pub head-parts : Stands bytes at (head_of call given plan) → Parts call given plan
    unfolding head_of
    head-parts s =
        let a = part_at bytes at (line 14 (call ∷ [])) (line_if (has_given call) given ++ line_if (has_plan call) plan) (call_length call l) s in
        let b = part bytes (at + 15) (line_if (has_given call) given) (line_if (has_plan call) plan) a.1 in
        record { number = a.0; stops = b.0; numbers = b.1 }

    pub head-stands : Parts call given plan → Stands bytes at (head_of call given plan)
    unfolding head_of
    head-stands p =
        join-at bytes at (line 14 (call ∷ [])) (line_if (has_given call) given ++ line_if (has_plan call) plan) (call_length call l) p.number
        (join bytes (at + 15) (line_if (has_given call) given) (line_if (has_plan call) plan) p.stops p.numbers)

    pub head-length : at + length (head_of call given plan) ≡ plan_at at call given + length (line_if (has_plan call) plan)
    unfolding head_of
    head-length = simp (length-append, call_length call l) (omega arith)

  -- one number stands there
  same-call : (call n : ℕ) → call ≤ last_call → n ≤ last_call → Stands bytes at (line 14 (call ∷ [])) → Stands bytes at (line 14 (n ∷ [])) → n ≡ call
  same-call call n l k s t =
      ap (λ ns. get_or ns 0 0) (same_line bytes at (n ∷ []) (call ∷ []) (one-fitting n k) (one-fitting call l) refl t s)

  -- a call's number is not 0
  some : (who : Call) → 1 ≤ number_of_call who
  some Weigh = lit≤ tt
  some StartPlan = lit≤ tt
  some TwoOpt = lit≤ tt
  some Rebuild = lit≤ tt
  some Exhaustive = lit≤ tt
  some Pruned = lit≤ tt
  some Solve = lit≤ tt
  some Arrive = lit≤ tt
  some Cancel = lit≤ tt
  some View = lit≤ tt
  some MoveStop = lit≤ tt
  some Roadworks = lit≤ tt

  pub no_number : (call : ℕ) → CallAt bytes at call → call < 1 → HeadAt bytes at None
  no_number call c z n stops numbers known h = c.none (omega arith) n h.first h.last (head-parts n stops numbers h.last h.stand).number

  module _ (who : Call) (c : CallAt bytes at (number_of_call who)) where
    pub number-within : at + 15 ≤ length bytes
    number-within =
        let w = call_length (number_of_call who) c.last in
        omega (arith, stands-within bytes at (line 14 ((number_of_call who) ∷ [])) (omega arith) (c.there (some who)))

    -- a head that stands there is of the call that was read
    of-call : (n : ℕ) (stops numbers known : List ℕ) → HeadOf bytes at n stops numbers known → HeadOf bytes at (number_of_call who) stops numbers known
    of-call n stops numbers known h =
        subst (λ x. HeadOf bytes at x stops numbers known)
        (same-call (number_of_call who) n c.last h.last (c.there (some who)) (head-parts n stops numbers h.last h.stand).number) h

    module _ (a : Option Listed) (read : ListIf (has_given (number_of_call who)) bytes (at + 15) (least_given (number_of_call who)) (most_given (number_of_call who)) a) where
      pub no-given : a ≡ None → HeadAt bytes at None
      no-given e n stops numbers known h =
          let k = of-call n stops numbers known h in
          missing bytes (at + 15) (least_given (number_of_call who)) (most_given (number_of_call who)) (has_given (number_of_call who)) a read e [] stops k.stops
          (head-parts (number_of_call who) stops numbers c.last k.stand).stops

      module _ (g : Listed) (e : a ≡ Some g) where
        stops_taken : Taken bytes (at + 15) (least_given (number_of_call who)) (most_given (number_of_call who)) (has_given (number_of_call who)) g
        stops_taken = taken bytes (at + 15) (least_given (number_of_call who)) (most_given (number_of_call who)) (has_given (number_of_call who)) a read g e

        pub stops-fit : (given : List ℕ) → 8 ≤ length given → Fits bytes (at + 15) g.count given
        stops-fit given l =
            let t = stops_taken in
            taken-fits bytes (at + 15) (least_given (number_of_call who)) (most_given (number_of_call who)) (has_given (number_of_call who)) t.numbers given g.count t.form t.stand t.counted
            (le_trans (few-given (number_of_call who)) l)

        module _ (b : Option Listed) (next : ListIf (has_plan (number_of_call who)) bytes g.end 0 longest_plan b) where
          pub no-plan : b ≡ None → HeadAt bytes at None
          no-plan f n stops numbers known h =
              let t = stops_taken in
              let k = of-call n stops numbers known h in
              let p = head-parts (number_of_call who) stops numbers c.last k.stand in
              let same : stops ≡ t.numbers =
              same_numbers bytes (at + 15) (least_given (number_of_call who)) (most_given (number_of_call who)) (has_given (number_of_call who)) [] stops t.numbers k.stops t.form p.stops t.stand in
              let q : plan_at at (number_of_call who) stops ≡ g.end = ap (plan_at at (number_of_call who)) same ∙ sym t.end in
              missing bytes g.end 0 longest_plan (has_plan (number_of_call who)) b next f known numbers k.numbers
              (subst (λ x. Stands bytes x (line_if (has_plan (number_of_call who)) numbers)) q p.numbers)

          module _ (l : Listed) (f : b ≡ Some l) where
            numbers_taken : Taken bytes g.end 0 longest_plan (has_plan (number_of_call who)) l
            numbers_taken = taken bytes g.end 0 longest_plan (has_plan (number_of_call who)) b next l f

            pub numbers_fit : (plan : List ℕ) → longest_plan ≤ length plan → Fits bytes g.end l.count plan
            numbers_fit plan k =
                let u = numbers_taken in
                taken-fits bytes g.end 0 longest_plan (has_plan (number_of_call who)) u.numbers plan l.count u.form u.stand u.counted k

            head_taken : HeadFound bytes at (number_of_call who) l.end stops_taken.numbers numbers_taken.numbers
            head_taken =
                let t = stops_taken in
                let u = numbers_taken in
                let parts : Parts (number_of_call who) t.numbers u.numbers =
                record {
                  number = c.there (some who);
                  stops = t.stand;
                  numbers = subst (λ x. Stands bytes x (line_if (has_plan (number_of_call who)) u.numbers)) t.end u.stand;
                } in
                record {
                  lines = record {
                    first = some who;
                    last = c.last;
                    stops = t.form;
                    numbers = u.form;
                    stand = head-stands (number_of_call who) t.numbers u.numbers c.last parts;
                  };
                  ends = u.end ∙ ap (λ x. x + length (line_if (has_plan (number_of_call who)) u.numbers)) t.end
                      ∙ sym (head-length (number_of_call who) t.numbers u.numbers c.last);
                }

            pub head_read : (given given' plan plan' : List ℕ) → Laid bytes (at + 15) g.count given given' → Laid bytes g.end l.count plan plan'
                → HeadFound bytes at (number_of_call who) l.end (take g.count given') (take l.count plan')
                × (given' ≡ over (take g.count given') given) × (plan' ≡ over (take l.count plan') plan)
            head_read given given' plan plan' v w =
                let t = stops_taken in
                let u = numbers_taken in
                let x : given' ≡ over t.numbers given =
                taken-laid bytes (at + 15) (least_given (number_of_call who)) (most_given (number_of_call who)) (has_given (number_of_call who)) t.numbers given given' g.count t.form t.stand t.counted v in
                let y : plan' ≡ over u.numbers plan =
                taken-laid bytes g.end 0 longest_plan (has_plan (number_of_call who)) u.numbers plan plan' l.count u.form u.stand u.counted w in
                let stops : take g.count given' ≡ t.numbers = front-laid t.numbers given given' g.count t.counted x in
                let numbers : take l.count plan' ≡ u.numbers = front-laid u.numbers plan plan' l.count u.counted y in
                (rw (stops, numbers) head_taken, x ∙ ap (λ ns. over ns given) (sym stops), y ∙ ap (λ ns. over ns plan) (sym numbers))

  -- two heads that stand there are the same, but for a plan that has no line
  pub record SameHead (n : ℕ) (s p known : List ℕ) (m : ℕ) (t q known_too : List ℕ) : Type 0 where
    pub call : m ≡ n
    pub given : t ≡ s
    pub text : head_of m t q ≡ head_of n s p
    pub plan : known_too ≡ known → q ≡ p

  pub same_head : (n m : ℕ) (s p known t q known_too : List ℕ) → HeadOf bytes at n s p known → HeadOf bytes at m t q known_too
      → SameHead n s p known m t q known_too
  unfolding head_of
  same_head n m s p known t q known_too h g =
      let a = head-parts n s p h.last h.stand in
      let e : m ≡ n = same-call n m h.last g.last a.number (head-parts m t q g.last g.stand).number in
      let k : HeadOf bytes at n t q known_too = subst (λ x. HeadOf bytes at x t q known_too) e g in
      let b = head-parts n t q k.last k.stand in
      let given : t ≡ s =
      same_numbers bytes (at + 15) (least_given n) (most_given n) (has_given n) [] t s k.stops h.stops b.stops a.stops in
      let moved : Stands bytes (plan_at at n s) (line_if (has_plan n) q) =
      subst (λ x. Stands bytes (plan_at at n x) (line_if (has_plan n) q)) given b.numbers in
      let lines : line_if (has_plan n) q ≡ line_if (has_plan n) p =
      same_lines bytes (plan_at at n s) 0 longest_plan (has_plan n) known_too known q p k.numbers h.numbers moved a.numbers in
      record {
        call = e;
        given = given;
        text = ap (λ x. head_of x t q) e ∙ (λ i. line 14 (n ∷ []) ++ (line_if (has_given n) (given i) ++ lines i));
        plan = λ f.
            same_numbers bytes (plan_at at n s) 0 longest_plan (has_plan n) known q p
            (subst (λ x. ListFor (has_plan n) 0 longest_plan x q) f k.numbers) h.numbers moved a.numbers;
      }

-- a plan that has no line does not show in the head
pub plan-shown : (call : ℕ) (given ns known : List ℕ) → head_of call given (cond (has_plan call) ns known) ≡ head_of call given ns
unfolding head_of
plan-shown call given ns known = ap (λ l. line 14 (call ∷ []) ++ (line_if (has_given call) given ++ l)) (go (has_plan call))
  where
    go : (b : Bool) → line_if b (cond b ns known) ≡ line_if b ns
    go true = refl
    go false = refl

pub plan-known : (b : Bool) (ns known : List ℕ) → ListFor b 0 longest_plan [] ns → ListFor b 0 longest_plan known (cond b ns known)
plan-known true ns known f = f
plan-known false ns known f = refl
